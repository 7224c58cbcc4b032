-- A list in which no tree stands twice ranks its trees by their places (specs, Rules). Assumes nothing.
use Prim.Native.Nat.{ℕ, zero, suc, ◌≤◌, ◌<◌}
use native.Mathlib.Omega.{arith}
use mathlib.Core.Path.{◌≡◌, refl, sym, ◌∙◌, ap, subst}
use mathlib.Core.Bool.{Bool, true, false}
use mathlib.Core.Option.{Option, none, some}
use mathlib.Core.List.{List, [], ◌∷◌}
use lib.ListN.{length, get_or, drop}
use lib.Dec.{T}
use Rattle.spec_tree.proofs.Tests.{is_true}
use Rattle.spec_tree.specs.Tree.{Name, Tree, Op, nil, eq_tree}
use Rattle.spec_tree.specs.Facts.{count}
use Rattle.spec_tree.proofs.TreeLaws.{eq_tree_sound, eq_tree_refl}
use Rattle.spec_tree.proofs.Logic.{and_left, and_right}
use Rattle.spec_rewrite.proofs.Names.{holds, holds_all}
use Rattle.spec_rewrite.proofs.Measure.{one_of, count_cons, one_self}
use Rattle.reciprocals.specs.atonce.Rules.{Ranked, EachOnce, place_in, nth}
use Rattle.reciprocals.proofs.atonce.Bits.{is_false}

-- ---- a place found is the tree's

place_there : (l : List Tree) (t : Tree) (k : ℕ) → place_in l t ≡ some k → (k < length l) × (t ≡ nth l k)
unfolding place_in nth
place_there [] t k e = absurd (let z : ◌≡◌ {A = ℕ} 0 1 = cc in omega arith)
place_there (d ∷ l) t k e = go (eq_tree d t) refl (λ j q. place_there l t j q) e
  where
    later : (o : Option ℕ) → ((j : ℕ) → o ≡ some j → (j < length l) × (t ≡ get_or l j (Op 0 nil))) → ◌≡◌ {A = Option ℕ} (elim o [ none ↦ none | some j ↦ some (suc j) ]) (some k) → (k < suc (length l)) × (t ≡ get_or (d ∷ l) k (Op 0 nil))
    later none f e = absurd (let z : ◌≡◌ {A = ℕ} 0 1 = cc in omega arith)
    later (some j) f e =
        let i : suc j ≡ k = cc in
        let r = f j refl in
        subst (λ (k : ℕ). (k < suc (length l)) × (t ≡ get_or (d ∷ l) k (Op 0 nil))) i ((let h = r.0 in omega arith), r.1)

    go : (b : Bool) → eq_tree d t ≡ b → ((j : ℕ) → place_in l t ≡ some j → (j < length l) × (t ≡ get_or l j (Op 0 nil))) → ◌≡◌ {A = Option ℕ} (elim b [ true ↦ some 0 | false ↦ elim (place_in l t) [ none ↦ none | some j ↦ some (suc j) ] ]) (some k)
        → (k < suc (length l)) × (t ≡ get_or (d ∷ l) k (Op 0 nil))
    go true q f e =
        let i : 0 ≡ k = cc in
        subst (λ (k : ℕ). (k < suc (length l)) × (t ≡ get_or (d ∷ l) k (Op 0 nil))) i ((omega arith), sym (eq_tree_sound d t (subst T (sym q) tt)))
    go false q f e = later (place_in l t) f e

-- ---- each tree's place is found

counted : (l : List Tree) (k : ℕ) → k < length l → 1 ≤ count (nth l k) l
unfolding nth
counted [] k h = absurd (omega arith)
counted (d ∷ l) zero h = (let a = count_cons d d l in let b = one_self d in omega arith)
counted (d ∷ l) (suc k) h = (let a = count_cons (nth l k) d l in let b = counted l k (omega arith) in omega arith)

place_found : (l : List Tree) → EachOnce l → (k : ℕ) → k < length l → place_in l (nth l k) ≡ some k
unfolding place_in nth
place_found [] once k h = absurd (omega arith)
place_found (d ∷ l) once zero h = ap (λ (b : Bool). elim b as (λ _. Option ℕ) [ true ↦ some 0 | false ↦ elim (place_in l d) [ none ↦ none | some j ↦ some (suc j) ] ]) (is_true (eq_tree d d) (eq_tree_refl d))
place_found (d ∷ l) once (suc k) h =
    let x = nth l k in
    let c = counted l k (omega arith) in
    ap (λ (b : Bool). elim b as (λ _. Option ℕ) [ true ↦ some 0 | false ↦ elim (place_in l x) [ none ↦ none | some j ↦ some (suc j) ] ]) (is_false (eq_tree d x) (λ t. twice (eq_tree_sound d x t) c))
    ∙ ap (λ (o : Option ℕ). elim o as (λ _. Option ℕ) [ none ↦ none | some j ↦ some (suc j) ]) (place_found l (λ x. (let a = once x in let b = count_cons x d l in omega arith)) k (omega arith))
  where
    twice : {x : Tree} → d ≡ x → 1 ≤ count x l → ⊥
    twice {x} e c =
        let a = count_cons x d l in
        let b : one_of d x ≡ 1 = subst (λ (y : Tree). one_of d y ≡ 1) e (one_self d) in
        let q = once x in
        omega arith

pub list_ranked : (l : List Tree) → EachOnce l → Ranked (place_in l) (nth l) (length l)
list_ranked l once = record { there = place_there l; found = place_found l once }

-- ---- what each of the list holds, a tree with a rank holds

nth_holds : (p : Name → Bool) (l : List Tree) → T (holds_all p l) → (k : ℕ) → k < length l → T (holds p (nth l k))
unfolding holds_all nth
nth_holds p [] h k i = absurd (omega arith)
nth_holds p (d ∷ l) h zero i = and_left (holds p d) (holds_all p l) h
nth_holds p (d ∷ l) h (suc k) i = nth_holds p l (and_right (holds p d) (holds_all p l) h) k (omega arith)

pub ranked_holds : (p : Name → Bool) (l : List Tree) → T (holds_all p l) → (t : Tree) (k : ℕ) → place_in l t ≡ some k → T (holds p t)
ranked_holds p l h t k e = let r = place_there l t k e in subst (λ (x : Tree). T (holds p x)) (sym r.1) (nth_holds p l h k r.0)

-- ---- the rest of a list from a place on

pub rest_at : (s : ℕ) (l : List Tree) (d : Tree) (after : List Tree) → drop s l ≡ d ∷ after → (s < length l) × (nth l s ≡ d) × (drop (suc s) l ≡ after)
unfolding nth
rest_at zero [] d after e = absurd (let z : ◌≡◌ {A = ℕ} 0 1 = cc in omega arith)
rest_at zero (c ∷ l) d after e = ((omega arith), (cc), (cc))
rest_at (suc s) [] d after e = absurd (let z : ◌≡◌ {A = ℕ} 0 1 = cc in omega arith)
rest_at (suc s) (c ∷ l) d after e = let r = rest_at s l d after e in ((let h = r.0 in omega arith), r.1, r.2)
