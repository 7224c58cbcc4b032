-- `rounds::value_numbers::chosen` meets its contract. Assumes nothing.
use borrow.Author.Tests.{eq-eqb, ne_eqb}
use Rattle.rounds.proofs.value_numbers.chosen.Goals as goal

pub returns-then-place-i : goal.returns-then-place-i
returns-then-place-i c = rw (eq-eqb _ _ c.if-place-i.true)

pub returns-else-place-i : goal.returns-else-place-i
returns-else-place-i c = rw (ne_eqb _ _ c.if-place-i.false)
