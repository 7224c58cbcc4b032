-- Trees that stand once each: after `distinct`, and in any order. Assumes nothing.
use Prim.Native.Nat.{ℕ, zero, suc, ◌+◌, ◌≤◌}
use native.Mathlib.Omega.{arith}
use mathlib.Core.Path.{◌≡◌, refl, sym, ◌∙◌, ap}
use mathlib.Core.Bool.{Bool, true, false, not, ◌&&◌}
use mathlib.Core.List.{List, [], ◌∷◌}
use lib.Dec.{T, leb}
use Rattle.spec_tree.specs.Tree.{Name, Tree, eq_tree}
use Rattle.spec_tree.specs.Facts.{all_nodes, count, outside}
use Rattle.spec_tree.proofs.Logic.{and_left, and_right, and_both}
use Rattle.spec_tree.specs.text.Text.{before}
use Rattle.spec_rewrite.proofs.Names.{holds, holds_all, all_nodes_hold}
use Rattle.spec_rewrite.proofs.Measure.{one_of, count_cons}
use Rattle.spec_rewrite.proofs.Counts.{count_nil, one_le, one_equal}
use Rattle.spec_cse.specs.Extract.{among, distinct, divisors, shared_divisors}
use Rattle.laws.proofs.cse.RoundsValue.{divisors_known, distinct_known, shared_known}
use Rattle.laws.specs.positions.Shown.{insert_by, sort_by}
use Rattle.reciprocals.specs.atonce.Rules.{EachOnce}

-- x once, and not where it was met before
abbrev Apart : Tree → List Tree → List Tree → Type 0
Apart x seen l = (count x l ≤ 1) × (1 ≤ count x seen → count x l ≡ 0)

apart_new : (x t : Tree) (seen l : List Tree) → count t seen ≡ 0 → Apart x (t ∷ seen) l → Apart x seen (t ∷ l)
apart_new x t seen l z h = go (one_of t x) refl
  where
    c : count x (t ∷ l) ≡ one_of t x + count x l
    c = count_cons x t l

    d : count x (t ∷ seen) ≡ one_of t x + count x seen
    d = count_cons x t seen

    go : (m : ℕ) → one_of t x ≡ m → Apart x seen (t ∷ l)
    go zero e = ((let a = h.0 in let b = c in omega arith), λ u. (let a = h.1 (let b = d in omega arith) in let b = c in omega arith))
    go (suc m) e =
        let q : t ≡ x = one_equal t x (omega arith) in
        let s : count x seen ≡ 0 = ap (λ (y : Tree). count y seen) (sym q) ∙ z in
        let a = h.1 (let b = d in omega arith) in
        let o = one_le t x in
        ((let b = c in omega arith), λ u. absurd (omega arith))

not_among : (t : Tree) (l : List Tree) → T (not (among t l)) → count t l ≡ 0
unfolding among count
not_among t [] h = refl
not_among t (e ∷ l) h = go (eq_tree e t) (λ k. not_among t l k) h
  where
    go : (b : Bool) → (T (not (among t l)) → count t l ≡ 0) → T (not (elim b [ true ↦ true | false ↦ among t l ]))
        → ◌≡◌ {A = ℕ} (elim b [ true ↦ suc (count t l) | false ↦ count t l ]) 0
    go true f h = absurd h
    go false f h = f h

distinct_apart : (x : Tree) (seen l : List Tree) → Apart x seen (distinct seen l)
unfolding distinct
distinct_apart x seen [] = ((let z = count_nil x in omega arith), λ u. count_nil x)
distinct_apart x seen (t ∷ l) = go (among t seen) (not_among t seen) (distinct_apart x (t ∷ seen) l) (distinct_apart x seen l)
  where
    go : (b : Bool) → (T (not b) → count t seen ≡ 0) → Apart x (t ∷ seen) (distinct (t ∷ seen) l) → Apart x seen (distinct seen l)
        → Apart x seen (elim b [ true ↦ distinct seen l | false ↦ t ∷ distinct (t ∷ seen) l ])
    go true z h k = k
    go false z h k = apart_new x t seen (distinct (t ∷ seen) l) (z tt) h

distinct_once : (l : List Tree) → EachOnce (distinct [] l)
distinct_once l x = (distinct_apart x [] l).0

shared_fewer : (scoped : Bool) (rs : List Tree) (x : Tree) (l : List Tree) → count x (shared_divisors scoped rs l) ≤ count x l
unfolding shared_divisors
shared_fewer scoped rs x [] = omega arith
shared_fewer scoped rs x (d ∷ l) =
    go (leb 2 (count d (divisors (all_nodes rs))) && leb 1 (count d (divisors (outside scoped rs)))) (shared_fewer scoped rs x l)
  where
    go : (b : Bool) → count x (shared_divisors scoped rs l) ≤ count x l → count x (elim b [ true ↦ d ∷ shared_divisors scoped rs l | false ↦ shared_divisors scoped rs l ]) ≤ count x (d ∷ l)
    go true h = (let a = count_cons x d l in let c = count_cons x d (shared_divisors scoped rs l) in omega arith)
    go false h = (let a = count_cons x d l in omega arith)

-- ---- in the order of texts, however they are shown

module _ (shown : Tree → List ℕ) where
  insert_count : (x d : Tree) (l : List Tree) → count x (insert_by shown d l) ≡ one_of d x + count x l
  unfolding insert_by
  insert_count x d [] = count_cons x d []
  insert_count x d (e ∷ l) = go (before (shown e) (shown d)) (insert_count x d l)
    where
      go : (b : Bool) → count x (insert_by shown d l) ≡ one_of d x + count x l → count x (elim b [ true ↦ e ∷ insert_by shown d l | false ↦ d ∷ (e ∷ l) ]) ≡ one_of d x + count x (e ∷ l)
      go true h = (let a = count_cons x e (insert_by shown d l) in let c = count_cons x e l in omega arith)
      go false h = count_cons x d (e ∷ l)

  sort_count : (x : Tree) (l : List Tree) → count x (sort_by shown l) ≡ count x l
  unfolding sort_by
  sort_count x [] = refl
  sort_count x (d ∷ l) = (let a = insert_count x d (sort_by shown l) in let b = sort_count x l in let c = count_cons x d l in omega arith)

  -- the divisors to bind
  abbrev pub to_bind : Bool → List Tree → List Tree
  to_bind scoped ts = sort_by shown (shared_divisors scoped ts (distinct [] (divisors (all_nodes ts))))

  pub to_bind_once : (scoped : Bool) (ts : List Tree) → EachOnce (to_bind scoped ts)
  to_bind_once scoped ts x =
      (let l = divisors (all_nodes ts) in
      let a = sort_count x (shared_divisors scoped ts (distinct [] l)) in
      let b = shared_fewer scoped ts x (distinct [] l) in
      let c = distinct_once l x in
      omega arith)

  module _ (p : Name → Bool) where
    insert_holds : (d : Tree) (l : List Tree) → T (holds p d) → T (holds_all p l) → T (holds_all p (insert_by shown d l))
    unfolding insert_by holds_all
    insert_holds d [] g h = and_both (holds p d) true g tt
    insert_holds d (e ∷ l) g h = go (before (shown e) (shown d)) (insert_holds d l g (and_right (holds p e) (holds_all p l) h))
      where
        go : (b : Bool) → T (holds_all p (insert_by shown d l)) → T (holds_all p (elim b [ true ↦ e ∷ insert_by shown d l | false ↦ d ∷ (e ∷ l) ]))
        go true k = and_both (holds p e) (holds_all p (insert_by shown d l)) (and_left (holds p e) (holds_all p l) h) k
        go false k = and_both (holds p d) (holds p e && holds_all p l) g h

    sort_holds : (l : List Tree) → T (holds_all p l) → T (holds_all p (sort_by shown l))
    unfolding sort_by holds_all
    sort_holds [] h = tt
    sort_holds (d ∷ l) h = insert_holds d (sort_by shown l) (and_left (holds p d) (holds_all p l) h) (sort_holds l (and_right (holds p d) (holds_all p l) h))

    pub to_bind_holds : (scoped : Bool) (ts : List Tree) → T (holds_all p ts) → T (holds_all p (to_bind scoped ts))
    to_bind_holds scoped ts h =
        let l = divisors (all_nodes ts) in
        sort_holds (shared_divisors scoped ts (distinct [] l)) (shared_known p scoped ts (distinct [] l) (distinct_known p [] l (divisors_known p (all_nodes ts) (all_nodes_hold p ts h))))
