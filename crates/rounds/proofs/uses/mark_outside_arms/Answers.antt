-- `rounds::uses::mark_outside_arms` meets its contract. Assumes nothing.
use native.Mathlib.Omega.{arith}
use Rattle.rounds.proofs.uses.Giving.{scoped_marked, ones_again}
use Rattle.rounds.proofs.uses.Marking.{ones_filled}
use Rattle.rounds.proofs.uses.mark_outside_arms.Goals as goal

pub clear_arms-requires : goal.clear_arms-requires
clear_arms-requires c = record { complete = c.requires.0; ones = ones_again c.args.marks.now _ _ (ones_filled c.args.marks.now c.fill.new.self _ c.requires.1 (c.fill.ensures.after (λ y e. e))); tokens_in_bounds = omega (arith, c.requires.1, (ones_filled c.args.marks.now c.fill.new.self _ c.requires.1 (c.fill.ensures.after (λ y e. e))).long) }

pub returns : goal.returns
returns c = (let a = c.args in scoped_marked a.tokens.now a.marks.now _ _ (ones_filled c.args.marks.now c.fill.new.self _ c.requires.1 (c.fill.ensures.after (λ y e. e))) c.clear_arms.ensures)
