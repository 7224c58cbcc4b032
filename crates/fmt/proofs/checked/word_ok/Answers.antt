-- `fmt::checked::word_ok` meets its contract. Assumes nothing.
use Rattle.std.proofs.Common.{sym, ◌∙◌, arith}
use Rattle.fmt.specs.checked.Check.{rows_in}
use Rattle.fmt.proofs.checked.RunLaws.{symbol_word, constant_word, operation_word}
use Rattle.fmt.proofs.checked.word_ok.Goals as goal

pub returns-in-0 : goal.returns-in-0
returns-in-0 c = c.symbol_ok.ensures ∙ sym (symbol_word (rows_in c.args.rows.now) c.args.w c.in-0.is)

pub returns-in-1 : goal.returns-in-1
returns-in-1 c = c.constant_ok.ensures ∙ sym (constant_word (rows_in c.args.rows.now) c.args.w c.in-1.is)

pub returns-in_default : goal.returns-in_default
returns-in_default c = c.operands_ok.ensures ∙ sym (operation_word (rows_in c.args.rows.now) c.args.w (λ e. omega arith) (λ e. omega arith))
