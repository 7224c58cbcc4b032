-- What a caller of `flatten_mul_factors` has: where it answers a product, its coefficient and its factors in order, each a tree inside the product's run; that it
-- does answer one in complete words with a place for each; and that an accepted coefficient is exact. Assumes nothing.
use Rattle.std.specs.Prelude.{Some, Ok}
use Rattle.std.proofs.Common.{◌≡◌, ℕ, zero, suc, ◌+◌, ◌<◌, ◌≤◌, Bool, true, false, ltb, List, [], ◌∷◌, length, get_or, take, drop, pos, sym, refl, ap, ◌∙◌, subst, arith, length-drop, get_or-take, ltb-false, le-ltb}
use mathlib.Core.Option.{Option, none, some}
use lib.ListN.{length-map}
use lib.Seq.{take-append_seam, drop-append_seam}
use lib.Ieee.{eq}
use Rattle.spec_tree.specs.Tree.{Tree, Op, nil}
use Rattle.spec_tree.specs.Facts.{size}
use Rattle.spec_tree.specs.Tokens.{constant_at, run_at, trees_in, numbered}
use Rattle.spec_tree.proofs.TokenLaws.{run_size, words_complete}
use Rattle.spec_rewrite.specs.Rewrite.{one, constant_of, flatten_mul_factors}
use Rattle.spec_rewrite.proofs.ReplaceValue.{exact}
use Rattle.replace.specs.coefficient.Answers.{constant_answer}
use Rattle.replace.proofs.coefficient.Exactness.{exact_code, exact_one}
use Rattle.replace.specs.factors.Places.{tree, factor_places, at_places}
use Rattle.replace.specs.factors.Answers.{flattened_by, flatten_answer}
use Rattle.replace.specs.declared.factors.Product.{Product}
use Rattle.replace.proofs.factors.WordRuns.{run_stands, stands_run}
use Rattle.replace.proofs.factors.PlaceLaws.{Each, Inside, few_places, places_are_factors, places_inside}
use Rattle.replace.proofs.factors.Answering.{by_run, a_tree}

-- ---- a list's elements

at_long : (ws ps : List ℕ) → length (at_places ws ps) ≡ length ps
unfolding at_places
at_long ws ps = length-map ps (tree ws)

at_one : (ws ps : List ℕ) (i : ℕ) → i < length ps → get_or (at_places ws ps) i (Op 0 nil) ≡ tree ws (get_or ps i 0)
unfolding at_places
at_one ws [] i h = absurd (omega arith)
at_one ws (p ∷ ps) zero h = refl
at_one ws (p ∷ ps) (suc i) h = at_one ws ps i (omega arith)

one_of : (P : ℕ → Type 0) (ps : List ℕ) (i : ℕ) → Each P ps → i < length ps → P (get_or ps i 0)
one_of P [] i e h = absurd (omega arith)
one_of P (p ∷ ps) zero (e, es) h = e
one_of P (p ∷ ps) (suc i) (e, es) h = one_of P ps i es (omega arith)

-- ---- a product answered

pub record ProductOf (ws : List ℕ) (at : ℕ) (old : List ℕ) (p : Product) (new : List ℕ) : Type 0 where
  pub there : run_at ws at ≡ some (size (tree ws at))
  pub room : size (tree ws at) ≤ length old
  pub coefficient_is : p.coefficient ≡ (flatten_mul_factors (tree ws at)).coefficient
  pub count_is : p.count ≡ length (flatten_mul_factors (tree ws at)).factors
  pub few : p.count ≤ size (tree ws at)
  pub places_are : take p.count new ≡ factor_places at (tree ws at)
  pub factors_are : at_places ws (take p.count new) ≡ (flatten_mul_factors (tree ws at)).factors
  pub inside : Each (Inside ws at (at + size (tree ws at))) (take p.count new)
  pub rest : drop p.count new ≡ drop p.count old

module _ (ws : List ℕ) (at : ℕ) (old : List ℕ) (p : Product) (new : List ℕ) where
  product_made :
      (n : ℕ) → run_at ws at ≡ some n → n ≤ length old → Ok p ≡ (flattened_by false at (tree ws at) old).answer
      → new ≡ (flattened_by false at (tree ws at) old).places → ProductOf ws at old p new
  unfolding flattened_by
  product_made n e l a b =
      let s = run_stands ws at n e in
      let ps = factor_places at (tree ws at) in
      let r = stands_run s in
      let m : n ≡ size (tree ws at) = cc in
      let q : p ≡ record { coefficient = (flatten_mul_factors (tree ws at)).coefficient; count = length ps } = cc in
      let k : p.count ≡ length ps = ap (λ (x : Product). x.count) q in
      let t : take p.count new ≡ ps = ap (λ (j : ℕ). take j new) k ∙ (ap (take (length ps)) b ∙ take-append_seam ps (drop (length ps) old)) in
      let f = places_are_factors ws at s in
      record {
        there = r;
        room = omega arith;
        coefficient_is = ap (λ (x : Product). x.coefficient) q;
        count_is = k ∙ (sym (at_long ws ps) ∙ ap length f);
        few = omega (arith, few_places at (tree ws at));
        places_are = t;
        factors_are = ap (at_places ws) t ∙ f;
        inside = subst (Each (Inside ws at (at + size (tree ws at)))) (sym t) (places_inside ws at s);
        rest =
            ap (λ (j : ℕ). drop j new) k ∙ (ap (drop (length ps)) b ∙ (drop-append_seam ps (drop (length ps) old) ∙ ap (λ (j : ℕ). drop j old) (sym k)));
      }

  pub product_of : Ok p ≡ (flatten_answer ws at old).answer → new ≡ (flatten_answer ws at old).places → ProductOf ws at old p new
  unfolding flatten_answer by_run flattened_by
  product_of a b = go (run_at ws at) refl a b
    where
      by : (n : ℕ) (c : Bool) → run_at ws at ≡ some n → ltb (length old) n ≡ c → Ok p ≡ (flattened_by c at (tree ws at) old).answer
          → new ≡ (flattened_by c at (tree ws at) old).places → ProductOf ws at old p new
      by n true e t a b = absurd (let z : ◌≡◌ {A = ℕ} 0 1 = cc in omega arith)
      by n false e t a b = product_made n e (ltb-false (length old) n t) a b

      go : (o : Option ℕ) → run_at ws at ≡ o → Ok p ≡ (by_run o at (tree ws at) old).answer → new ≡ (by_run o at (tree ws at) old).places
          → ProductOf ws at old p new
      go none e a b = absurd (let z : ◌≡◌ {A = ℕ} 0 1 = cc in omega arith)
      go (some n) e a b = by n (ltb (length old) n) e refl a b

module _ {ws : List ℕ} {at : ℕ} {old : List ℕ} {p : Product} {new : List ℕ} (h : ProductOf ws at old p new) where
  count_long : p.count ≡ length (take p.count new)
  count_long = h.count_is ∙ (sym (ap length h.factors_are) ∙ at_long ws (take p.count new))

  -- factor i stands at place i of those written
  pub factor_at : (i : ℕ) → i < p.count → tree ws (get_or new i 0) ≡ get_or (flatten_mul_factors (tree ws at)).factors i (Op 0 nil)
  factor_at i l =
      let ps = take p.count new in
      ap (tree ws) (sym (get_or-take p.count new i 0 l))
      ∙ (sym (at_one ws ps i (omega (arith, count_long))) ∙ ap (λ (ts : List Tree). get_or ts i (Op 0 nil)) h.factors_are)

  pub inside_at : (i : ℕ) → i < p.count → Inside ws at (at + size (tree ws at)) (get_or new i 0)
  inside_at i l =
      subst (Inside ws at (at + size (tree ws at))) (get_or-take p.count new i 0 l)
      (one_of (Inside ws at (at + size (tree ws at))) (take p.count new) i h.inside (omega (arith, count_long)))

  -- the coefficient read back is the exact product of the integers, and one that compares equal to 1 is 1
  pub exact_coefficient : (code : ℕ) → Some code ≡ constant_answer (constant_of p.coefficient) → constant_at code ≡ exact (tree ws at)
  exact_coefficient code e = exact_code (tree ws at) code (e ∙ ap (λ x. constant_answer (constant_of x)) h.coefficient_is)

  pub exact_unit : (b : Bool) → b ≡ eq p.coefficient one → b ≡ true → exact (tree ws at) ≡ pos 1
  exact_unit b e t = exact_one (tree ws at) b (e ∙ ap (λ x. eq x one) h.coefficient_is) t

-- ---- never refused: a tree of complete words, and a place for each word

pub never_refused :
    (ws : List ℕ) (n at : ℕ) (old : List ℕ) → trees_in ws ≡ some n → at < length ws → length ws ≤ length old
    → flatten_answer ws at old ≡ flattened_by false at (tree ws at) old
unfolding run_at
never_refused ws n at old e l r =
    let s = run_size numbered ws n at e l in
    let k = (words_complete (drop at ws) 1 (size (tree ws at)) s).0 in
    a_tree ws at old (size (tree ws at)) false s (le-ltb (length old) (size (tree ws at)) (omega (arith, k, length-drop at ws)))
