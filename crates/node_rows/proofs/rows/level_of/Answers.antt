-- `node_rows::rows::level_of` meets its contract. Assumes nothing.
use native.Mathlib.Omega.{arith}
use lib.ListN.{length}
use Rattle.node_rows.proofs.rows.Sums.{number_below, below_rest, level_end_plain, level_end_few, level_end_arms}
use Rattle.node_rows.proofs.rows.level_of.Goals as goal
use Rattle.node_rows.proofs.rows.level_of.Goals.{then-kind-lt-BRANCH-via-then-kind-lt-BRANCH, then-kind-lt-BRANCH-via-else-kind-lt-BRANCH+then-operands-lt2}

pub returns-then-kind-lt-BRANCH : goal.returns-then-kind-lt-BRANCH
returns-then-kind-lt-BRANCH c =
    let k = c.args.kind in
    let levels = c.args.levels.now in
    let ns = c.args.operands.now in
    elim c.then-kind-lt-BRANCH.branch [
      | then-kind-lt-BRANCH-via-then-kind-lt-BRANCH w ↦ level_end_plain k levels ns w.if-kind-lt-BRANCH.true c.deepest.result c.capped.result c.deepest.ensures c.capped.ensures
      | then-kind-lt-BRANCH-via-else-kind-lt-BRANCH+then-operands-lt2 w ↦ level_end_few k levels ns w.if-operands-lt2.true c.deepest.result c.capped.result c.deepest.ensures c.capped.ensures
    ]

pub deepest-requires-2 : goal.deepest-requires-2
deepest-requires-2 c = below_rest (length c.args.levels.now) c.args.operands.now c.requires

pub offset_bounds-levels-operands : goal.offset_bounds-levels-operands
offset_bounds-levels-operands c = let h = number_below (length c.args.levels.now) c.args.operands.now 0 c.requires (omega arith) in
    omega (arith, c.well_formed)

pub bounds-levels-operands : goal.bounds-levels-operands
bounds-levels-operands c = number_below (length c.args.levels.now) c.args.operands.now 0 c.requires (omega arith)

pub returns : goal.returns
returns c = level_end_arms c.args.kind c.args.levels.now c.args.operands.now c.if-kind-lt-BRANCH.false c.if-operands-lt2.false c.deepest-2.result c.capped-arms.result c.max.result c.capped-2.result c.deepest-2.ensures c.capped-arms.ensures c.max.ensures c.capped-2.ensures
