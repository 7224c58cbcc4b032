-- `replace::matching::take_out` meets its contract. Assumes nothing.
use Rattle.std.proofs.Common.{◌≡◌, ◌*◌, ◌∙◌, sym, inl, inr, arith}
use Rattle.replace.proofs.matching.Removing.{Turning, starts, no_factor, keeps, left_less, turns, stops, lacks, ends}
use Rattle.replace.proofs.matching.take_out.Goals as goal

pub returns-then-next_factor-part : goal.returns-then-next_factor-part
returns-then-next_factor-part c = let a = c.args in no_factor a.tokens.now a.part.now a.name a.places.now a.count c.next_factor.result c.next_factor.ensures c.if-next_factor-part.true (omega (arith, c.if-places-count.false)) (omega (arith, c.if-places-count.false))

pub loop-times-init : goal.loop-times-init
loop-times-init c = let a = c.args in starts a.tokens.now a.part.now a.name a.places.now a.count c.next_factor.result c.next_factor.ensures c.if-next_factor-part.false (omega (arith, c.if-places-count.false))

pub returns-then-lacks_factor : goal.returns-then-lacks_factor
returns-then-lacks_factor c = let a = c.args in lacks a.tokens.now a.part.now a.name a.places.now a.count c.loop-times.invariant c.loop-times-test.true c.lacks_factor.result c.if-lacks_factor.true c.lacks_factor.ensures

pub copy_places-requires : goal.copy_places-requires
copy_places-requires c = let t = c.loop-times.invariant in
    record { n_in_bounds = (omega (arith, t.same, t.fewer, t.room), omega (arith, t.same, t.fewer, t.room)); fact = inl (omega arith) }

pub copy_places-requires-in_default : goal.copy_places-requires-in_default
copy_places-requires-in_default c = let t = c.loop-times.invariant in
    record { n_in_bounds = (omega (arith, t.same, t.fewer, t.room, c.copy_places.auto.places, c.remove_each.auto), omega (arith, t.same, t.fewer, t.room, c.copy_places.auto.places, c.remove_each.auto)); fact = inr (omega arith) }

pub returns-in_default : goal.returns-in_default
returns-in_default c = let a = c.args in let k = keeps _ _ _ c.copy_places.ensures.0 c.copy_places.ensures.1 c.copy_places.auto.places in stops a.tokens.now a.part.now a.name a.places.now a.count c.loop-times.invariant c.loop-times-test.true c.copy_places.new.places k c.remove_each.new.places c.copy_places-in_default.new.places c.remove_each.auto.places c.copy_places-in_default.auto.places c.remove_each.result c.in_default.is c.remove_each.ensures.0 c.remove_each.ensures.1 c.copy_places-in_default.ensures.0

pub bounds-places-n : goal.bounds-places-n
bounds-places-n c = let a = c.args in let k = keeps _ _ _ c.copy_places.ensures.0 c.copy_places.ensures.1 c.copy_places.auto.places in omega (arith, left_less a.tokens.now a.part.now a.name a.places.now a.count c.loop-times.invariant c.loop-times-test.true c.copy_places.new.places k c.remove_each.new.places c.remove_each.auto.places c.remove_each.result _ c.in-Some.is c.remove_each.ensures.0, c.loop-times.invariant.fewer, c.loop-times.invariant.room, c.loop-times.invariant.same, c.copy_places.auto.places, c.remove_each.auto)

pub loop-times-preserved : goal.loop-times-preserved
loop-times-preserved c = let a = c.args in let k = keeps _ _ _ c.copy_places.ensures.0 c.copy_places.ensures.1 c.copy_places.auto.places in turns a.tokens.now a.part.now a.name a.places.now a.count c.loop-times.invariant c.loop-times-test.true c.copy_places.new.places k c.remove_each.new.places c.remove_each.auto.places c.remove_each.result _ c.in-Some.is c.remove_each.ensures.0

pub returns : goal.returns
returns c =
    let a = c.args in
    let t = c.loop-times.invariant in
    let z : c.loop-times.times ≡ 2 * a.count = omega (arith, t.most, c.loop-times-test.false) in
    let e = ends a.tokens.now a.part.now a.name a.places.now a.count t (omega (arith, z)) in
    (e.0, (e.1.0, e.1.1, sym z ∙ e.1.2))
