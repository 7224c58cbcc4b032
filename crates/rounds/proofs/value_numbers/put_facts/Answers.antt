-- `rounds::value_numbers::put_facts` meets its contract. Assumes nothing.
use Prim.Native.Nat.{◌+◌}
use native.Mathlib.Omega.{arith}
use mathlib.Core.Path.{refl, ◌∙◌}
use lib.ListN.{length-set}
use Rattle.rounds.proofs.value_numbers.Belows.{walk_there, bucket_is}
use Rattle.rounds.proofs.value_numbers.put_facts.Goals as goal

pub facts_at-f-requires : goal.facts_at-f-requires
facts_at-f-requires c = let i = c.args.i in
    record { at_in_bounds = (c.requires.complete.1, c.requires.bound); ready = c.requires.ready; walk = walk_there _ _ _ (i + 1) c.requires.sized.0 c.requires.sized.1 c.requires.complete.0 i c.requires.complete.1 (omega arith) _ refl }

pub bounds-facts-row-2 : goal.bounds-facts-row-2
bounds-facts-row-2 c = simp length-set (omega (arith, c.requires.complete))

pub bounds-facts-row-3 : goal.bounds-facts-row-3
bounds-facts-row-3 c = simp length-set (omega (arith, c.requires.complete))

pub bounds-facts-row-4 : goal.bounds-facts-row-4
bounds-facts-row-4 c = simp length-set (omega (arith, c.requires.complete))

pub returns : goal.returns
returns c = (let i = c.args.i in let r = c.facts_at-f.result in (record { s = r.size; c = r.cost; d = r.depth; h = r.symbol; facts = c.facts_at-f.ensures.0; is = refl }, c.chain_of.ensures.0 ∙ bucket_is _ _ _ (i + 1) c.requires.sized.0 c.requires.sized.1 c.requires.complete.0 i c.requires.complete.1 (omega arith) _ r.key refl c.facts_at-f.ensures.1, c.chain_of.ensures.1))
