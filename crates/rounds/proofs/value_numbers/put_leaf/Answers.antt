-- `rounds::value_numbers::put_leaf` meets its contract. Assumes nothing.
use native.Mathlib.Omega.{arith}
use lib.ListN.{length-set}
use Rattle.rounds.proofs.value_numbers.Passes.{leaf_written}
use Rattle.rounds.proofs.value_numbers.put_leaf.Goals as goal

pub bounds-facts-row-2 : goal.bounds-facts-row-2
bounds-facts-row-2 c = simp length-set (omega (arith, c.requires))

pub bounds-facts-row-3 : goal.bounds-facts-row-3
bounds-facts-row-3 c = simp length-set (omega (arith, c.requires))

pub returns : goal.returns
returns c = (let a = c.args in leaf_written a.facts.now a.classes.now a.i a.w c.symbol_of.result c.symbol_of.ensures)
