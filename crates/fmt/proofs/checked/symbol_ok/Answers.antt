-- `fmt::checked::symbol_ok` meets its contract. Assumes nothing.
use Rattle.std.proofs.Common.{◌%◌, sym, ◌∙◌, ap}
use borrow.Author.Tests.{ne_eqb}
use Rattle.spec_tree.specs.Symbol.{is_name}
use Rattle.spec_tree.specs.Tokens.{name_in}
use Rattle.fmt.specs.checked.Check.{rows_in}
use Rattle.fmt.specs.symbols.Symbols.{row_name}
use Rattle.fmt.proofs.checked.WordLaws.{made_symbol, list_symbol}
use Rattle.fmt.proofs.checked.symbol_ok.Goals as goal

pub returns-then-code-ne0 : goal.returns-then-code-ne0
returns-then-code-ne0 c =
    rw (ne_eqb (c.args.code % 3) 0 c.if-code-ne0.true) (made_symbol (name_in (rows_in c.args.rows.now)) c.args.code c.if-code-ne0.true)

pub returns-else-code-ne0 : goal.returns-else-code-ne0
unfolding row_name
returns-else-code-ne0 c =
    c.is_name.ensures ∙ (ap is_name c.row_name.ensures ∙ sym (list_symbol (name_in (rows_in c.args.rows.now)) c.args.code c.if-code-ne0.false))
