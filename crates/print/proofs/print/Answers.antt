-- `print::print` meets its contract. Assumes nothing.
use Rattle.print.proofs.PrintLaws.{read, answer_here, refused_13, refused_14, printed_all}
use Rattle.print.proofs.print.Goals as goal

pub returns-then-not-check_answer : goal.returns-then-not-check_answer
returns-then-not-check_answer c = refused_13 c.args.rows.now c.args.answer.now c.args.out.now c.if-not-check_answer.ensures

pub write_answer-size-requires : goal.write_answer-size-requires
write_answer-size-requires c = (read c.args.rows.now c.args.answer.now, answer_here c.args.rows.now c.args.answer.now c.if-not-check_answer.ensures)

pub returns-then-size-out : goal.returns-then-size-out
returns-then-size-out c = refused_14 c.args.rows.now c.args.answer.now c.args.out.now c.if-not-check_answer.ensures _ _ c.write_answer-size.ensures c.if-size-out.true

pub write_answer-requires : goal.write_answer-requires
write_answer-requires c = (read c.args.rows.now c.args.answer.now, answer_here c.args.rows.now c.args.answer.now c.if-not-check_answer.ensures)

pub returns : goal.returns
returns c = printed_all c.args.rows.now c.args.answer.now c.args.out.now c.if-not-check_answer.ensures _ _ c.write_answer-size.ensures _ _ c.if-size-out.false c.write_answer.ensures
