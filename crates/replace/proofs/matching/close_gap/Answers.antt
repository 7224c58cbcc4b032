-- `replace::matching::close_gap` meets its contract. Assumes nothing.
use Rattle.std.proofs.Common.{◌≡◌, ◌-◌, subst, arith}
use Rattle.replace.proofs.matching.Places.{Moved, moved_none, moved_more, moved_all, moved_rest}
use Rattle.replace.proofs.matching.close_gap.Goals as goal

pub loop-k-init : goal.loop-k-init
loop-k-init c = (omega arith, moved_none c.args.places.now c.args.j)

pub loop-k-preserved : goal.loop-k-preserved
loop-k-preserved c = (omega (arith, c.loop-k.invariant.0), moved_more c.args.places.now c.loop-k.places c.args.j c.loop-k.k c.loop-k.invariant.0 (omega (arith, c.loop-k-test.true, c.requires.1)) c.loop-k.invariant.1)

pub returns : goal.returns
returns c =
    let a = c.args in
    let e : c.loop-k.k ≡ a.n - 1 = omega (arith, c.loop-k.auto.k-end, c.loop-k-test.false, c.requires.0) in
    let m = subst (Moved a.places.now c.loop-k.places a.j) e c.loop-k.invariant.1 in
    (moved_all a.places.now c.loop-k.places a.j a.n c.requires.0 c.requires.1 m, moved_rest a.places.now c.loop-k.places a.j a.n c.requires.0 m)
