-- `replace::matching::remove_each` meets its contract. Assumes nothing.
use Rattle.std.proofs.Common.{◌≡◌, ℕ, ◌-◌, true, List, take, drop, sym, ap, ◌∙◌, subst, arith}
use Rattle.replace.specs.matching.Matching.{run_end, factor_runs, words_at, remove_runs}
use Rattle.replace.proofs.matching.Runs.{end_within}
use Rattle.replace.proofs.matching.Removing.{hit, Missed, all_removed, missing_at, removed_at, rest_stays}
use Rattle.replace.proofs.matching.remove_each.Goals as goal

pub slice_bounds-stands_at-count : goal.slice_bounds-stands_at-count
slice_bounds-stands_at-count c = omega (arith, c.loop-i.invariant.7, (end_within c.args.part.now c.loop-i.q c.loop-i.invariant.5).0)

pub slice_bounds-stands_at-start : goal.slice_bounds-stands_at-start
slice_bounds-stands_at-start c = omega (arith, c.loop-i.invariant.7, (end_within c.args.part.now c.loop-i.q c.loop-i.invariant.5).0)

pub factors-preserved : goal.factors-preserved
factors-preserved c = let a = c.args in
    let i = c.loop-i in
    let v = i.invariant in
    let l = c.close_gap.new.places in
    let at = words_at a.tokens.now a.name in
    let e : c.end_from-end.result ≡ run_end a.part.now i.q = v.7 in
    let run_is = ap (λ (k : ℕ). take (k - i.q) (drop i.q a.part.now)) e in
    let s = c.next_factor-q-then-stands_at.ensures in (
      v.0
          ∙ removed_at at a.part.now i.places i.q i.left v.5 v.4 (omega (arith, v.1, v.2, c.requires)) i.i (omega (arith, v.6, c.loop-i-test.true))
          (subst (λ (r : List ℕ). hit at r i.places i.i ≡ true) run_is (sym (rw c.if-stands_at.true at c.stands_at.ensures)))
          (subst (λ (r : List ℕ). Missed at r i.places i.i) run_is v.8) l c.close_gap.ensures.0
          ∙ ap (λ (k : ℕ). remove_runs at (factor_runs (drop k a.part.now)) (take (i.left - 1) l)) (sym e)
          ∙ ap (λ r. remove_runs at r (take (i.left - 1) l)) s.runs,
      omega (arith, v.1),
      c.close_gap.auto.places ∙ v.2,
      rest_stays l i.places i.left a.count v.1 c.close_gap.ensures.1 ∙ v.3,
      s.starts,
    )

pub returns-then-part-q : goal.returns-then-part-q
returns-then-part-q c = let a = c.args in let v = c.factors.invariant in
    ((v.0 ∙ all_removed (words_at a.tokens.now a.name) a.part.now c.factors.places c.factors.q c.factors.left c.if-part-q.true, omega (arith, v.1, v.2, c.requires)), v.3)

pub returns : goal.returns
returns c = let a = c.args in
    let i = c.loop-i in
    let v = i.invariant in
    let at = words_at a.tokens.now a.name in
    let e : c.end_from-end.result ≡ run_end a.part.now i.q = v.7 in
    let run_is = ap (λ (k : ℕ). take (k - i.q) (drop i.q a.part.now)) e in
    let z : i.i ≡ i.left = omega (arith, c.loop-i-test.false, v.6, i.auto.i-end) in (
      v.0
          ∙ missing_at at a.part.now i.places i.q i.left v.5 v.4 (omega (arith, v.1, v.2, c.requires))
          (subst (Missed at (take (run_end a.part.now i.q - i.q) (drop i.q a.part.now)) i.places) z (subst (λ (r : List ℕ). Missed at r i.places i.i) run_is v.8)),
      v.3,
    )
