-- `node_rows::rows::measure_row` meets its contract. Assumes nothing.
use mathlib.Core.Path.{subst}
use mathlib.Core.List.{List}
use Prim.Native.Nat.{ℕ}
use lib.Dec.{T}
use lib.ListN.{length, get_or}
use Rattle.node_rows.specs.fields.Below.{below}
use Rattle.node_rows.proofs.rows.Sums.{level_end_plain, operands_op, measure_leaf, measure_op}
use Rattle.node_rows.proofs.rows.measure_row.Goals as goal

pub returns-then-row-lt-NEG : goal.returns-then-row-lt-NEG
returns-then-row-lt-NEG c = measure_leaf c.args.row.now c.args.sizes.now c.args.levels.now c.if-row-lt-NEG.true

pub measure_all-below-requires : goal.measure_all-below-requires
measure_all-below-requires c = let e = operands_op c.args.row.now c.if-row-lt-NEG.false in
    (subst (λ (l : List ℕ). T (below (length c.args.sizes.now) l)) e c.requires.t.0, subst (λ (l : List ℕ). T (below (length c.args.levels.now) l)) e c.requires.t.1)

pub returns-then-row-lt-BRANCH : goal.returns-then-row-lt-BRANCH
returns-then-row-lt-BRANCH c = measure_op c.args.row.now c.args.sizes.now c.args.levels.now c.if-row-lt-NEG.false c.measure_all-below.result.size c.capped_sum-size.result c.capped.result c.measure_all-below.ensures.0 c.capped_sum-size.ensures
    (level_end_plain (get_or c.args.row.now 0 0) c.args.levels.now _ c.if-row-lt-BRANCH.true c.measure_all-below.result.level c.capped.result c.measure_all-below.ensures.1 c.capped.ensures)

pub level_of-requires : goal.level_of-requires
level_of-requires c = subst (λ (l : List ℕ). T (below (length c.args.levels.now) l)) (operands_op c.args.row.now c.if-row-lt-NEG.false) c.requires.t.1

pub returns : goal.returns
returns c = measure_op c.args.row.now c.args.sizes.now c.args.levels.now c.if-row-lt-NEG.false c.measure_all-below.result.size c.capped_sum-size.result c.level_of.result c.measure_all-below.ensures.0 c.capped_sum-size.ensures c.level_of.ensures
