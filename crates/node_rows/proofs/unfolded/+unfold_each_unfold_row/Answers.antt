-- `node_rows::unfolded::unfold_row` and `node_rows::unfolded::unfold_each` meet their contracts. Row r calls with operands below r, and those call with a row below the bound. Assumes nothing.
use native.Mathlib.Omega.{arith}
use lib.ListN.{length-set}
use Rattle.node_rows.specs.unfolded.Unfold.{row_at, row_number}
use Rattle.node_rows.proofs.unfolded.RunLaws.{bound_at, below_at}
use Rattle.node_rows.proofs.unfolded.CycleLaws.{lent_below, lent_bound, row_room, row_done, leaf_done, row_holds_word, each_begins, each_room, each_more}
use Prim.Native.Nat.{◌≤◌}
use Rattle.node_rows.proofs.unfolded.+unfold_each_unfold_row.Goals as goal

pub unfold_each-loop-r-init : goal.unfold_each-loop-r-init
unfold_each-loop-r-init t c = each_begins c.args.rows.now c.args.list.now c.args.out.now c.args.at (omega arith)

pub unfold_each-unfold_row-to-requires : goal.unfold_each-unfold_row-to-requires
unfold_each-unfold_row-to-requires t c = let ws = c.args.rows.now in
    let ns = c.args.list.now in
    let i = c.loop-r.r-index in
    let h = c.loop-r-test.true in
    (omega (arith, c.decreases, bound_at ns i h), (c.requires.rows_laid, (below_at _ ns i c.requires.t h, omega (arith, c.loop-r.invariant.end_is, each_room ws ns i c.loop-r.invariant h c.requires.list_in_bounds))))

pub unfold_each-loop-r-preserved : goal.unfold_each-loop-r-preserved
unfold_each-loop-r-preserved t c = each_more c.args.rows.now c.args.list.now c.loop-r.r-index c.loop-r.invariant c.loop-r-test.true c.unfold_row-to.ensures

pub unfold_row-bounds-out-at : goal.unfold_row-bounds-out-at
unfold_row-bounds-out-at t c = omega (arith, row_holds_word c.requires.rows_laid.0 c.args.r c.requires.r_bound)

pub unfold_row-returns-then-kind_of-lt-NEG : goal.unfold_row-returns-then-kind_of-lt-NEG
unfold_row-returns-then-kind_of-lt-NEG t c = leaf_done c.requires.rows_laid.0 c.args.r c.requires.r_bound (omega (arith, c.kind_of.ensures.0, c.if-kind_of-lt-NEG.true)) c.args.out.now c.args.at _ (omega (arith, row_holds_word c.requires.rows_laid.0 c.args.r c.requires.r_bound)) (c.requires.rows_laid.1.1 c.args.r c.requires.r_bound)

pub unfold_row-unfold_each-requires : goal.unfold_row-unfold_each-requires
unfold_row-unfold_each-requires t c =
    let k : 2 ≤ row_number (row_at c.args.rows.now c.args.r) = omega (arith, c.kind_of.ensures.0, c.if-kind_of-lt-NEG.false) in
    let l = lent_bound c.requires.rows_laid.0 c.args.r c.requires.r_bound k _ c.fields_of.ensures in
    let r = row_room c.requires.rows_laid.0 c.args.r c.requires.r_bound k _ c.fields_of.ensures in
    (omega (arith, c.decreases), (c.requires.rows_laid, (lent_below c.requires.rows_laid.0 c.args.r c.requires.r_bound k _ c.fields_of.ensures, rw length-set (omega arith))))

pub unfold_row-returns : goal.unfold_row-returns
unfold_row-returns t c =
    let k : 2 ≤ row_number (row_at c.args.rows.now c.args.r) = omega (arith, c.kind_of.ensures.0, c.if-kind_of-lt-NEG.false) in
    row_done c.requires.rows_laid.0 c.args.r c.requires.r_bound k _ c.fields_of.ensures c.args.out.now _ c.args.at _ _
    (omega (arith, row_holds_word c.requires.rows_laid.0 c.args.r c.requires.r_bound)) (c.requires.rows_laid.1.1 c.args.r c.requires.r_bound) c.unfold_each.ensures
