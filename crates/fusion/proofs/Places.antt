-- Each statement of a scope by its position (specs, Whole): lets by number, reciprocals by number, matches in the groups' order. Assumes nothing.
use Prim.Native.Nat.{ℕ, zero, suc, ◌+◌, ◌<◌}
use native.Mathlib.Omega.{arith}
use mathlib.Core.Path.{◌≡◌, refl, sym, ◌∙◌, ap, ap₂}
use mathlib.Core.List.{List, [], ◌∷◌, ◌++◌, map}
use lib.ListN.{length, get_or, drop, length-append, length-map, get_or-append, get_or-map}
use lib.Seq.{get_or-append-add, get_or-drop, drop-cons}
use Rattle.spec_tree.specs.Tree.{xname, Tree}
use Rattle.spec_cse.specs.Answer.{Intermediate, Let}
use Rattle.laws.specs.positions.Rounds.{next_number}
use Rattle.reciprocals.proofs.bindings.Parts.{settle_tree, reciprocal, settled_reciprocals, reciprocal_of}
use Rattle.fusion.specs.Settled.{Step, fused_tree, Numbered, all_steps, group_match, group_matches}
use Rattle.fusion.specs.Whole.{settled_fused, lets_from, scope_stmts}
use Rattle.reciprocals.proofs.reciprocal.Made.{settled_long}

-- ---- lets and matches by position

pub lets_count : (i : ℕ) (l : List Tree) → length (lets_from i l) ≡ length l
unfolding lets_from
lets_count i [] = refl
lets_count i (t ∷ l) = ap suc (lets_count (suc i) l)

pub let_at : (i : ℕ) (l : List Tree) (j : ℕ) (d : Intermediate) (e : Tree) → j < length l → get_or (lets_from i l) j d ≡ Let (xname (i + j)) (get_or l j e)
unfolding lets_from
let_at i [] j d e h = absurd (omega arith)
let_at i (t ∷ l) zero d e h = let z : i ≡ i + 0 = omega arith in ap (λ (n : ℕ). Let (xname n) t) z
let_at i (t ∷ l) (suc j) d e h =
    let z : suc i + j ≡ i + suc j = omega arith in
    let_at (suc i) l j d e (omega arith) ∙ ap (λ (n : ℕ). Let (xname n) (get_or l j e)) z

pub matches_count : (gs : List Numbered) → length (group_matches gs) ≡ length gs
unfolding group_matches
matches_count [] = refl
matches_count (g ∷ l) = ap suc (matches_count l)

-- a match's key is settled by the groups after its own
pub match_at :
    (gs : List Numbered) (j : ℕ) (d : Intermediate) (g : Numbered) (after : List Numbered) → drop j gs ≡ g ∷ after
    → get_or (group_matches gs) j d ≡ group_match g after
unfolding group_matches
match_at [] zero d g after e = let z : ◌≡◌ {A = ℕ} 0 1 = cc in absurd (omega arith)
match_at [] (suc j) d g after e = let z : ◌≡◌ {A = ℕ} 0 1 = cc in absurd (omega arith)
match_at (c ∷ l) zero d g after e =
    let p : c ≡ g = cc in
    let q : l ≡ after = cc in
    ap₂ group_match p q
match_at (c ∷ l) (suc j) d g after e = match_at l j d g after e

first_of : {A : Type 0} (l : List A) (j : ℕ) (d a : A) (after : List A) → drop j l ≡ a ∷ after → get_or l j d ≡ a
first_of [] zero d a after e = let z : ◌≡◌ {A = ℕ} 0 1 = cc in absurd (omega arith)
first_of [] (suc j) d a after e = let z : ◌≡◌ {A = ℕ} 0 1 = cc in absurd (omega arith)
first_of (x ∷ l) zero d a after e = cc
first_of (x ∷ l) (suc j) d a after e = first_of l j d a after e

-- ---- the statements of a scope

module _ (k first : ℕ) (ts ds : List Tree) (gs : List Numbered) where
  abbrev n : ℕ
  n = next_number k first ts

  abbrev steps : List Step
  steps = all_steps gs

  abbrev bound_lets : List Intermediate
  bound_lets = lets_from first (map (settled_fused ds n steps) (drop k ts))

  abbrev bound_reciprocals : List Intermediate
  bound_reciprocals = lets_from n (map (fused_tree steps) (settled_reciprocals ds n))

  lets_are_many : length bound_lets ≡ length (drop k ts)
  lets_are_many = lets_count first (map (settled_fused ds n steps) (drop k ts)) ∙ length-map (drop k ts) (settled_fused ds n steps)

  reciprocals_are_many : length bound_reciprocals ≡ length ds
  reciprocals_are_many =
      lets_count n (map (fused_tree steps) (settled_reciprocals ds n)) ∙ (length-map (settled_reciprocals ds n) (fused_tree steps) ∙ settled_long ds n)

  -- how many there are
  pub stmts_count : length (scope_stmts k first ts ds gs) ≡ length (drop k ts) + (length ds + length gs)
  unfolding scope_stmts
  stmts_count =
      omega (
        arith,
        length-append bound_lets (bound_reciprocals ++ group_matches gs),
        length-append bound_reciprocals (group_matches gs),
        lets_are_many,
        reciprocals_are_many,
        matches_count gs,
      )

  module _ (d : Intermediate) (e : Tree) where
    pub let_stmt :
        (j : ℕ) → j < length (drop k ts)
        → get_or (scope_stmts k first ts ds gs) j d ≡ Let (xname (first + j)) (settled_fused ds n steps (get_or ts (k + j) e))
    unfolding scope_stmts
    let_stmt j h =
        let f : Tree → Tree = settled_fused ds n steps in
        let l = map f (drop k ts) in
        get_or-append bound_lets (bound_reciprocals ++ group_matches gs) d j (omega (arith, lets_are_many))
        ∙ (let_at first l j d (f e) (omega (arith, length-map (drop k ts) f))
        ∙ ap (Let (xname (first + j))) (get_or-map f (drop k ts) j e ∙ ap f (get_or-drop k ts j e)))

    after_lets : (j : ℕ) → get_or (scope_stmts k first ts ds gs) (length (drop k ts) + j) d ≡ get_or (bound_reciprocals ++ group_matches gs) j d
    unfolding scope_stmts
    after_lets j =
        ap (λ (i : ℕ). get_or (bound_lets ++ (bound_reciprocals ++ group_matches gs)) (i + j) d) (sym lets_are_many)
        ∙ get_or-append-add bound_lets (bound_reciprocals ++ group_matches gs) j d

    -- a reciprocal is settled by the divisors after its own, and then by all members
    pub reciprocal_stmt :
        (j : ℕ) → j < length ds
        → get_or (scope_stmts k first ts ds gs) (length (drop k ts) + j) d
        ≡ Let (xname (n + j)) (settled_fused (drop (suc j) ds) (suc (n + j)) steps (reciprocal (get_or ds j e)))
    unfolding settled_fused
    reciprocal_stmt j h =
        let f : Tree → Tree = fused_tree steps in
        let rs = settled_reciprocals ds n in
        let c = settled_long ds n in
        let here = settle_tree (drop (suc j) ds) (suc (n + j)) (reciprocal (get_or ds j e)) in
        after_lets j
        ∙ (get_or-append bound_reciprocals (group_matches gs) d j (omega (arith, reciprocals_are_many))
        ∙ (let_at n (map f rs) j d (f e) (omega (arith, length-map rs f, c))
        ∙ ap (Let (xname (n + j)))
        (get_or-map f rs j e
        ∙ ap f (first_of rs j e here (drop (suc j) rs) (reciprocal_of j ds n (get_or ds j e) (drop (suc j) ds) (drop-cons ds j e h))))))

    pub match_stmt :
        (j : ℕ) (g : Numbered) (after : List Numbered) → drop j gs ≡ g ∷ after
        → get_or (scope_stmts k first ts ds gs) (length (drop k ts) + (length ds + j)) d ≡ group_match g after
    match_stmt j g after q =
        after_lets (length ds + j)
        ∙ (ap (λ (i : ℕ). get_or (bound_reciprocals ++ group_matches gs) (i + j) d) (sym reciprocals_are_many)
        ∙ (get_or-append-add bound_reciprocals (group_matches gs) j d ∙ match_at gs j d g after q))
