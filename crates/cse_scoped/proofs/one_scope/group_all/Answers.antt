-- `cse_scoped::one_scope::group_all` meets its contract. Assumes nothing.
use native.Mathlib.Omega.{arith}
use mathlib.Core.Path.{sym}
use lib.Seq.{length-take-le}
use Rattle.cse_scoped.proofs.one_scope.Leaves.{switches_there, switches_over, found_so}
use borrow.Author.Rules.{rules}
use Rattle.cse_scoped.proofs.one_scope.group_all.Goals as goal

pub returns-in_err-count : goal.returns-in_err-count
returns-in_err-count c = let a = c.args in let e = c.requires.switch_room.0.over (omega (arith, switches_over a.held.now _ c.list_all.result c.list_all.ensures c.in_err-count.was, c.list_all.auto.places)) in search rules

pub slice_bounds-group_listed-end : goal.slice_bounds-group_listed-end
slice_bounds-group_listed-end c = let a = c.args in (switches_there a.held.now _ c.list_all.result c.list_all.ensures c.in_ok-count.count c.in_ok-count.was).1

pub slice_bounds-group_listed-end-2 : goal.slice_bounds-group_listed-end-2
slice_bounds-group_listed-end-2 c = let a = c.args in sym (length-take-le _ _ (switches_there a.held.now _ c.list_all.result c.list_all.ensures c.in_ok-count.count c.in_ok-count.was).1)

pub group_listed-groups-requires : goal.group_listed-groups-requires
group_listed-groups-requires c = let a = c.args in
    let places = c.list_all.new.places in
    let l = switches_there a.held.now places c.list_all.result c.list_all.ensures c.in_ok-count.count c.in_ok-count.was in
    record { t = (c.requires.t.0, l.0); places_in_bounds = let n = length-take-le _ places l.1 in (omega (arith, n, l.1, c.requires.switch_room.1, c.list_all.auto.marks, c.list_all.auto.places), omega (arith, n, l.1, c.requires.switch_room.2, c.list_all.auto.places)) }

pub returns : goal.returns
returns c = let a = c.args in found_so a.held.now _ _ _ _ _ c.group_listed-groups.ensures (length-take-le _ _ (switches_there a.held.now _ c.list_all.result c.list_all.ensures c.in_ok-count.count c.in_ok-count.was).1)
