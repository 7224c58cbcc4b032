-- `print::answerwriter::let_statement` meets its contract. Assumes nothing.
use Rattle.fmt.specs.emit.Writing.{low_bytes}
use Rattle.fmt.specs.symbols.Symbols.{symbol_text}
use Rattle.print.proofs.answerwriter.StatementLaws.{let_written}
use Rattle.print.proofs.answerwriter.let_statement.Goals as goal

pub returns : goal.returns
returns c = let a = c.args in
    let_written (low_bytes (symbol_text a.rows.now a.code)) c.let_opening-c.ensures c.tree-p.ensures c.put-e.ensures
