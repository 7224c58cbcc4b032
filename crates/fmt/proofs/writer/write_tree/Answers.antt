-- `fmt::writer::write_tree` meets its contract. Assumes nothing.
use Rattle.fmt.proofs.writer.Answering.{passed_stands, ends, broken}
use Rattle.fmt.proofs.writer.write_tree.Goals as goal

pub returns-in_err-tree_ok : goal.returns-in_err-tree_ok
returns-in_err-tree_ok c = rw c.from_residual.ensures (broken c.args.rows.now c.args.tokens.now c.args.at c.args.dry c.args.out.now c.args.to c.in_err-tree_ok.ensures)

pub expression-requires : goal.expression-requires
expression-requires c = passed_stands c.args.rows.now c.args.tokens.now c.args.at _ c.in_ok-tree_ok.ensures

pub returns : goal.returns
returns c =
    ends c.args.rows.now c.args.tokens.now c.args.at c.args.dry c.args.out.now c.args.to c.expression.new.out c.expression.result.next c.expression.result.to
    (passed_stands c.args.rows.now c.args.tokens.now c.args.at _ c.in_ok-tree_ok.ensures) c.expression.ensures
