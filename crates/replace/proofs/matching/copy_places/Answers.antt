-- `replace::matching::copy_places` meets its contract. Assumes nothing.
use Rattle.std.proofs.Common.{◌+◌, ◌-◌, ◌≤◌, ◌⊎◌, length, rules}
use Rattle.replace.proofs.matching.Places.{Copied, copy_starts, copy_turns, copy_ends}
use Rattle.replace.proofs.matching.copy_places.Goals as goal

pub loop-k-init : goal.loop-k-init
loop-k-init c = (c.requires.n_in_bounds, c.requires.fact, copy_starts c.args.places.now c.args.from c.args.to c.args.n c.requires.n_in_bounds c.requires.fact)

pub loop-k-preserved : goal.loop-k-preserved
loop-k-preserved c = let a = c.args in let i = c.loop-k.invariant in (i.0, i.1, copy_turns a.places.now a.from a.to a.n i.0 i.1 i.2 c.loop-k-test.true)

pub returns : goal.returns
returns c = let a = c.args in let i = c.loop-k.invariant in copy_ends a.places.now a.from a.to a.n i.0 i.1 i.2 c.loop-k-test.false
