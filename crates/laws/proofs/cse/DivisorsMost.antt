-- How many divisors are bound: each once, and at most half as many as there are operations. With their sizes this bounds all that reciprocals add.
-- Assumes nothing.
use Prim.Native.Nat.{ℕ, zero, suc, ◌+◌, ◌*◌, ◌≤◌}
use mathlib.Core.Path.{◌≡◌, refl, sym, ◌∙◌, ap, subst}
use mathlib.Core.Bool.{Bool, true, false, not, ◌&&◌}
use mathlib.Core.Option.{Option, none, some}
use mathlib.Core.List.{List, [], ◌∷◌, ◌++◌}
use native.Mathlib.Omega.{arith}
use native.Mathlib.Nat.{zero-mul, suc-mul, mul_assoc, mul-le-mul_right}
use lib.ListN.{length}
use lib.Dec.{T, leb}
use Rattle.spec_tree.specs.Tree.{Tree, Forest, Sym, Const, Op, nil, ◌◂◌, eq_tree}
use Rattle.spec_tree.specs.Facts.{all_operations, operations, size, nodes, nodes_of, all_nodes, outside, count}
use Rattle.spec_tree.specs.text.Text.{display, before}
use Rattle.spec_cse.specs.Extract.{State, roots, divisor_of, divisors, among, distinct, shared_divisors, insert_by_text, sort_by_text, reciprocals}
use Rattle.spec_rewrite.proofs.Measure.{sum_of, sum_each, forest_operations, operations_op, one_of, one_self, count_cons}
use Rattle.spec_rewrite.proofs.Counts.{count_nil, one_le, one_equal}
use Rattle.laws.proofs.cse.ReciprocalsCount.{AllTrees, bound_divisors, bound_twice, reciprocals_are}
use Rattle.laws.proofs.cse.SizeCount.{total_size, reciprocals_most, reciprocal_each_size, divisor_half}

-- ---- each is bound once

-- x once, and not where it was met before
abbrev Apart : Tree → List Tree → List Tree → Type 0
Apart x seen l = (count x l ≤ 1) × (1 ≤ count x seen → count x l ≡ 0)

apart_new : (x t : Tree) (seen l : List Tree) → count t seen ≡ 0 → Apart x (t ∷ seen) l → Apart x seen (t ∷ l)
apart_new x t seen l z h = go (one_of t x) refl
  where
    c : count x (t ∷ l) ≡ one_of t x + count x l
    c = count_cons x t l

    d : count x (t ∷ seen) ≡ one_of t x + count x seen
    d = count_cons x t seen

    go : (m : ℕ) → one_of t x ≡ m → Apart x seen (t ∷ l)
    go zero e = ((let a = h.0 in let b = c in omega arith), λ u. (let a = h.1 (let b = d in omega arith) in let b = c in omega arith))
    go (suc m) e =
        let q : t ≡ x = one_equal t x (omega arith) in
        let s : count x seen ≡ 0 = ap (λ (y : Tree). count y seen) (sym q) ∙ z in
        let a = h.1 (let b = d in omega arith) in
        let o = one_le t x in
        ((let b = c in omega arith), λ u. absurd (omega arith))

not_among : (t : Tree) (l : List Tree) → T (not (among t l)) → count t l ≡ 0
unfolding among count
not_among t [] h = refl
not_among t (e ∷ l) h = go (eq_tree e t) (λ k. not_among t l k) h
  where
    go : (b : Bool) → (T (not (among t l)) → count t l ≡ 0) → T (not (elim b [ true ↦ true | false ↦ among t l ]))
        → ◌≡◌ {A = ℕ} (elim b [ true ↦ suc (count t l) | false ↦ count t l ]) 0
    go true f h = absurd h
    go false f h = f h

distinct_apart : (x : Tree) (seen l : List Tree) → Apart x seen (distinct seen l)
unfolding distinct
distinct_apart x seen [] = ((let z = count_nil x in omega arith), λ u. count_nil x)
distinct_apart x seen (t ∷ l) = go (among t seen) (not_among t seen) (distinct_apart x (t ∷ seen) l) (distinct_apart x seen l)
  where
    go : (b : Bool) → (T (not b) → count t seen ≡ 0) → Apart x (t ∷ seen) (distinct (t ∷ seen) l) → Apart x seen (distinct seen l)
        → Apart x seen (elim b [ true ↦ distinct seen l | false ↦ t ∷ distinct (t ∷ seen) l ])
    go true z h k = k
    go false z h k = apart_new x t seen (distinct (t ∷ seen) l) (z tt) h

shared_fewer : (scoped : Bool) (rs : List Tree) (x : Tree) (l : List Tree) → count x (shared_divisors scoped rs l) ≤ count x l
unfolding shared_divisors
shared_fewer scoped rs x [] = omega arith
shared_fewer scoped rs x (d ∷ l) =
    go (leb 2 (count d (divisors (all_nodes rs))) && leb 1 (count d (divisors (outside scoped rs)))) (shared_fewer scoped rs x l)
  where
    go : (b : Bool) → count x (shared_divisors scoped rs l) ≤ count x l → count x (elim b [ true ↦ d ∷ shared_divisors scoped rs l | false ↦ shared_divisors scoped rs l ]) ≤ count x (d ∷ l)
    go true h = (let a = count_cons x d l in let c = count_cons x d (shared_divisors scoped rs l) in omega arith)
    go false h = (let a = count_cons x d l in omega arith)

insert_count : (x d : Tree) (l : List Tree) → count x (insert_by_text d l) ≡ one_of d x + count x l
unfolding insert_by_text
insert_count x d [] = count_cons x d []
insert_count x d (e ∷ l) = go (before (display e) (display d)) (insert_count x d l)
  where
    go : (b : Bool) → count x (insert_by_text d l) ≡ one_of d x + count x l → count x (elim b [ true ↦ e ∷ insert_by_text d l | false ↦ d ∷ (e ∷ l) ]) ≡ one_of d x + count x (e ∷ l)
    go true h = (let a = count_cons x e (insert_by_text d l) in let c = count_cons x e l in omega arith)
    go false h = count_cons x d (e ∷ l)

sort_count : (x : Tree) (l : List Tree) → count x (sort_by_text l) ≡ count x l
unfolding sort_by_text
sort_count x [] = refl
sort_count x (d ∷ l) = (let a = insert_count x d (sort_by_text l) in let b = sort_count x l in let c = count_cons x d l in omega arith)

pub bound_once : (scoped : Bool) (s : State) (x : Tree) → count x (bound_divisors scoped s) ≤ 1
unfolding bound_divisors
bound_once scoped s x =
    (let l = divisors (all_nodes (roots s)) in
    let a = sort_count x (shared_divisors scoped (roots s) (distinct [] l)) in
    let b = shared_fewer scoped (roots s) x (distinct [] l) in
    let c = (distinct_apart x [] l).0 in
    omega arith)

-- ---- so they are at most half of the divisions

pub one_sym : (x y : Tree) → one_of x y ≡ one_of y x
one_sym x y = go (one_of x y) refl (one_of y x) refl
  where
    go : (m : ℕ) → one_of x y ≡ m → (k : ℕ) → one_of y x ≡ k → one_of x y ≡ one_of y x
    go zero e zero f = omega arith
    go zero e (suc k) f = (let q = one_equal y x (omega arith) in let a = ap (one_of x) q in let b = one_self x in absurd (omega arith))
    go (suc m) e zero f = (let q = one_equal x y (omega arith) in let a = ap (one_of y) q in let b = one_self y in absurd (omega arith))
    go (suc m) e (suc k) f = (let a = one_le x y in let b = one_le y x in omega arith)

pub ones_count : (y : Tree) (ds : List Tree) → sum_of (λ d. one_of y d) ds ≡ count y ds
unfolding sum_of
ones_count y [] = sym (count_nil y)
ones_count y (d ∷ ds) = (let a = ones_count y ds in let b = count_cons y d ds in let c = one_sym y d in omega arith)

pub counts_cons : (y : Tree) (l ds : List Tree) → sum_of (λ d. count d (y ∷ l)) ds ≡ sum_of (λ d. one_of y d) ds + sum_of (λ d. count d l) ds
unfolding sum_of
counts_cons y l [] = omega arith
counts_cons y l (d ∷ ds) = (let a = counts_cons y l ds in let b = count_cons d y l in omega arith)

pub counts_nil : (ds : List Tree) → sum_of (λ d. count d []) ds ≡ 0
unfolding sum_of
counts_nil [] = refl
counts_nil (d ∷ ds) = (let a = counts_nil ds in let b = count_nil d in omega arith)

pub counts_most : (l ds : List Tree) → ((x : Tree) → count x ds ≤ 1) → sum_of (λ d. count d l) ds ≤ length l
counts_most [] ds h = (let a = counts_nil ds in omega arith)
counts_most (y ∷ l) ds h = (let a = counts_cons y l ds in let b = ones_count y ds in let c = h y in let e = counts_most l ds h in omega arith)

pub twice_each : (l ds : List Tree) → AllTrees (λ d. 2 ≤ count d l) ds → 2 * length ds ≤ sum_of (λ d. count d l) ds
unfolding sum_of
twice_each l [] h = omega arith
twice_each l (d ∷ ds) h = (let a = twice_each l ds h.1 in let b = h.0 in omega arith)

pub divisors_length : (s t : List Tree) → length (divisors (s ++ t)) ≡ length (divisors s) + length (divisors t)
unfolding divisors
divisors_length [] t = omega arith
divisors_length (e ∷ s) t = go (divisor_of e) (divisors_length s t)
  where
    go : (o : Option Tree) → length (divisors (s ++ t)) ≡ length (divisors s) + length (divisors t)
        → length {A = Tree} (elim o [ none ↦ divisors (s ++ t) | some d ↦ d ∷ divisors (s ++ t) ])
        ≡ length {A = Tree} (elim o [ none ↦ divisors s | some d ↦ d ∷ divisors s ]) + length (divisors t)
    go none h = h
    go (some d) h = omega arith

at_most_one : (o : Option Tree) (l : List Tree) → length {A = Tree} (elim o [ none ↦ l | some d ↦ d ∷ l ]) ≤ suc (length l)
at_most_one none l = omega arith
at_most_one (some d) l = omega arith

mutual
  unfolding divisors nodes sum_each

  divisions : (e : Tree) → length (divisors (nodes e)) ≤ operations e
  divisions (Sym s) = omega arith
  divisions (Const c) = omega arith
  divisions (Op k f) = (let a = at_most_one (divisor_of (Op k f)) (divisors (nodes_of f)) in let b = divisions_each f in let c = operations_op k f in omega arith)

  divisions_each : (f : Forest) → length (divisors (nodes_of f)) ≤ forest_operations f
  divisions_each nil = omega arith
  divisions_each (t ◂ f) = (let a = divisions t in let b = divisions_each f in let c = divisors_length (nodes t) (nodes_of f) in omega arith)

divisions_all : (l : List Tree) → length (divisors (all_nodes l)) ≤ all_operations l
unfolding all_nodes all_operations
divisions_all [] = (unfold divisors in omega arith)
divisions_all (e ∷ l) = (let a = divisions e in let b = divisions_all l in let c = divisors_length (nodes e) (all_nodes l) in omega arith)

pub bound_most : (scoped : Bool) (s : State) → 2 * length (bound_divisors scoped s) ≤ all_operations (roots s)
bound_most scoped s =
    (let a = twice_each (divisors (all_nodes (roots s))) (bound_divisors scoped s) (bound_twice scoped s) in
    let b = counts_most (divisors (all_nodes (roots s))) (bound_divisors scoped s) (bound_once scoped s) in
    let c = divisions_all (roots s) in
    omega arith)

-- ---- all that reciprocals add

half_each : (N : ℕ) (ds : List Tree) → AllTrees (λ d. 2 * size d ≤ N) ds → 2 * reciprocals_most ds ≤ length ds * (N + 4)
unfolding reciprocals_most sum_of
half_each N [] h = (let a = zero-mul (N + 4) in omega arith)
half_each N (d ∷ ds) h = (let a = half_each N ds h.1 in let b = h.0 in let c = suc-mul (length ds) (N + 4) in omega arith)

-- four times the total after reciprocals, by the nodes and the operations before them
pub reciprocals_total :
    (scoped : Bool) (s : State) → 4 * total_size (roots (reciprocals scoped s)) ≤ 4 * total_size (roots s) + all_operations (roots s) * (total_size (roots s) + 4)
reciprocals_total scoped s =
    (let a : total_size (roots (reciprocals scoped s)) ≤ total_size (roots s) + reciprocals_most (bound_divisors scoped s) =
    subst (λ (t : State). total_size (roots t) ≤ total_size (roots s) + reciprocals_most (bound_divisors scoped s)) (sym (reciprocals_are scoped s)) (reciprocal_each_size (bound_divisors scoped s) s) in
    let b = half_each (total_size (roots s)) (bound_divisors scoped s) (divisor_half scoped s) in
    let c = mul-le-mul_right (total_size (roots s) + 4) (bound_most scoped s) in
    let d = mul_assoc 2 (length (bound_divisors scoped s)) (total_size (roots s) + 4) in
    omega arith)
