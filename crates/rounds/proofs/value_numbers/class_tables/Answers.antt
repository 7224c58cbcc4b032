-- `rounds::value_numbers::class_tables` meets its contract. Assumes nothing.
use native.Mathlib.Omega.{arith}
use Rattle.rounds.proofs.value_numbers.Chains.{passing_starts}
use Rattle.rounds.proofs.value_numbers.Counts.{counted_starts}
use Rattle.rounds.proofs.value_numbers.Answering.{leaves_tables}
use Rattle.rounds.proofs.value_numbers.class_tables.Goals as goal

pub reset-requires : goal.reset-requires
reset-requires c = omega (arith, c.chain_count.ensures, c.requires.complete.2)

pub reset-requires-2 : goal.reset-requires-2
reset-requires-2 c = c.requires.tokens_in_bounds.2

pub pass-requires : goal.pass-requires
pass-requires c = record { complete = (c.requires.complete.0, c.requires.complete.1); passing = passing_starts _ _ _ _ c.requires.tokens_in_bounds.0 c.requires.tokens_in_bounds.1 (omega (arith, c.requires.complete.2, c.reset.ensures.long)) (λ b h. c.reset.ensures.each b (omega (arith, h, c.chain_count.ensures))); counted = counted_starts _ _ c.requires.tokens_in_bounds.2 c.reset-2.ensures }

pub returns : goal.returns
returns c = leaves_tables _ _ _ _ _ _ c.pass.ensures
