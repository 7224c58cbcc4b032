-- `node_rows::rows::check_within` meets its contract. Assumes nothing.
use Prim.Native.Nat.{◌/◌}
use mathlib.Core.Path.{sym, ◌∙◌, subst}
use native.Mathlib.Omega.{arith}
use lib.Dec.{T}
use lib.ListN.{length}
use Rattle.node_rows.proofs.rows.Sums.{below_less}
use Rattle.node_rows.proofs.rows.TableLaws.{stop_tests, stop_below, stop_deep, stop_many, laid}
use Rattle.node_rows.proofs.rows.check_within.Goals as goal
use Rattle.node_rows.proofs.rows.check_within.Goals.{then-whole-gt-DEEPEST-via-then-whole-gt-DEEPEST, then-whole-gt-DEEPEST-via-else-whole-gt-DEEPEST+then-whole-gt-OCCURRENCES, then-not-fill-via-then-not-fill, then-not-fill-via-else-not-fill+then-not-all_below}

pub returns-then-not-fill : goal.returns-then-not-fill
returns-then-not-fill g c = let ws = c.args.rows.now in
    let ns = c.args.roots.now in
    let d = c.requires.numbered in
    let sizes = c.fill.new.sizes in
    let levels = c.fill.new.levels in
    elim c.then-not-fill.branch [
      | then-not-fill-via-then-not-fill w ↦ stop_tests ws ns d.whole d.few_rows d.few_roots sizes levels c.fill.result c.fill.ensures w.if-not-fill.true
      | then-not-fill-via-else-not-fill+then-not-all_below w ↦ stop_below ws ns d.whole d.few_rows d.few_roots sizes levels c.fill.result c.fill.ensures w.if-not-fill.false (sym w.all_below.ensures ∙ w.if-not-all_below.true)
    ]

pub measure_all-whole-requires : goal.measure_all-whole-requires
measure_all-whole-requires g c = let ws = c.args.rows.now in
    let ns = c.args.roots.now in
    let sizes = c.fill.new.sizes in
    let levels = c.fill.new.levels in
    let inside = sym c.all_below.ensures ∙ c.if-not-all_below.false in
    let k = c.fill.auto in (
      below_less (length ws / 35) (length sizes) (omega (arith, k.sizes, c.requires.rows_in_bounds)) ns (subst T (sym inside) tt),
      below_less (length ws / 35) (length levels) (omega (arith, k.levels, c.requires.rows_in_bounds)) ns (subst T (sym inside) tt),
    )

pub returns-then-whole-gt-DEEPEST : goal.returns-then-whole-gt-DEEPEST
returns-then-whole-gt-DEEPEST g c = let ws = c.args.rows.now in
    let ns = c.args.roots.now in
    let d = c.requires.numbered in
    let sizes = c.fill.new.sizes in
    let levels = c.fill.new.levels in
    let passed = c.if-not-fill.false in
    let inside = sym c.all_below.ensures ∙ c.if-not-all_below.false in
    let m = c.measure_all-whole in
    elim c.then-whole-gt-DEEPEST.branch [
      | then-whole-gt-DEEPEST-via-then-whole-gt-DEEPEST w ↦ stop_deep ws ns d.whole d.few_rows d.few_roots sizes levels c.fill.result c.fill.ensures passed inside m.result.level m.ensures.1 w.if-whole-gt-DEEPEST.true
      | then-whole-gt-DEEPEST-via-else-whole-gt-DEEPEST+then-whole-gt-OCCURRENCES w ↦ stop_many ws ns d.whole d.few_rows d.few_roots sizes levels c.fill.result c.fill.ensures passed inside m.result.size m.ensures.0 w.if-whole-gt-OCCURRENCES.true
    ]

pub returns : goal.returns
returns g c = let ws = c.args.rows.now in
    let ns = c.args.roots.now in
    let d = c.requires.numbered in
    let sizes = c.fill.new.sizes in
    let levels = c.fill.new.levels in
    let passed = c.if-not-fill.false in
    let inside = sym c.all_below.ensures ∙ c.if-not-all_below.false in
    let m = c.measure_all-whole in
    laid ws ns d.whole d.few_rows d.few_roots sizes levels c.fill.result c.fill.ensures passed inside m.result.level m.result.size m.ensures.1 c.if-whole-gt-DEEPEST.false m.ensures.0 c.if-whole-gt-OCCURRENCES.false
