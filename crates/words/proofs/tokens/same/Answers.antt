-- `words::tokens::same` meets its contract. Assumes nothing.
use Prim.Native.Nat.{◌-◌}
use native.Mathlib.Omega.{arith}
use mathlib.Core.Path.{sym, ◌∙◌}
use Rattle.words.proofs.tokens.Comparing.{run_ends, run_within, first_broken, second_broken, compared_runs}
use Rattle.std.proofs.Common.{rules}
use Rattle.words.proofs.tokens.same.Goals as goal

pub slice_bounds-eq-count : goal.slice_bounds-eq-count
slice_bounds-eq-count c = omega (arith, run_within c.args.tokens.now c.args.i c.in_ok-e.e (sym c.in_ok-e.was ∙ c.end_of.ensures))

pub slice_bounds-eq-end : goal.slice_bounds-eq-end
slice_bounds-eq-end c = omega (arith, run_within c.args.tokens.now c.args.i c.in_ok-e.e (sym c.in_ok-e.was ∙ c.end_of.ensures))

pub slice_bounds-eq-start : goal.slice_bounds-eq-start
slice_bounds-eq-start c = omega (arith, run_within c.args.tokens.now c.args.i c.in_ok-e.e (sym c.in_ok-e.was ∙ c.end_of.ensures))

pub offset_bounds-tokens-i : goal.offset_bounds-tokens-i
offset_bounds-tokens-i c = omega (arith, run_within c.args.tokens.now c.args.i c.in_ok-e.e (sym c.in_ok-e.was ∙ c.end_of.ensures), c.well_formed.0)

pub slice_bounds-eq-count-2 : goal.slice_bounds-eq-count-2
slice_bounds-eq-count-2 c = omega (arith, run_within c.args.tokens.now c.args.j c.in_ok-f.f (sym c.in_ok-f.was ∙ c.end_of-2.ensures))

pub slice_bounds-eq-end-2 : goal.slice_bounds-eq-end-2
slice_bounds-eq-end-2 c = omega (arith, run_within c.args.tokens.now c.args.j c.in_ok-f.f (sym c.in_ok-f.was ∙ c.end_of-2.ensures))

pub slice_bounds-eq-start-2 : goal.slice_bounds-eq-start-2
slice_bounds-eq-start-2 c = omega (arith, run_within c.args.tokens.now c.args.j c.in_ok-f.f (sym c.in_ok-f.was ∙ c.end_of-2.ensures))

pub offset_bounds-tokens-j : goal.offset_bounds-tokens-j
offset_bounds-tokens-j c = omega (arith, run_within c.args.tokens.now c.args.j c.in_ok-f.f (sym c.in_ok-f.was ∙ c.end_of-2.ensures), c.well_formed.0)

pub returns : goal.returns
returns c = let a = c.args in
    let p = run_ends a.tokens.now a.i c.in_ok-e.e (sym c.in_ok-e.was ∙ c.end_of.ensures) in
    let q = run_ends a.tokens.now a.j c.in_ok-f.f (sym c.in_ok-f.was ∙ c.end_of-2.ensures) in
    compared_runs a.tokens.now a.i a.j (c.in_ok-e.e - a.i) (c.in_ok-f.f - a.j) p q c.eq.result c.eq.ensures

pub returns-in_err-e : goal.returns-in_err-e
returns-in_err-e c = let a = c.args in
    let e = first_broken a.tokens.now a.i a.j (sym c.in_err-e.was ∙ c.end_of.ensures) in
    search rules

pub returns-in_err-f : goal.returns-in_err-f
returns-in_err-f c = let a = c.args in
    let e = second_broken a.tokens.now a.i a.j (sym c.in_err-f.was ∙ c.end_of-2.ensures) in
    search rules
