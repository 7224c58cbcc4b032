-- Uses are counts of places: of all with an equal tree, and of those outside arms. Assumes nothing.
use Prim.Native.Nat.{ℕ, zero, suc, ◌+◌, ◌≤◌}
use native.Mathlib.Omega.{arith}
use mathlib.Core.Path.{◌≡◌, refl, sym, ◌∙◌, ap, ap₂}
use mathlib.Core.Bool.{Bool, true, false, not, ◌&&◌}
use mathlib.Core.List.{List, [], ◌∷◌, ◌++◌}
use lib.ListN.{length, take}
use lib.Seq.{take-suc, take_all, length-take-le}
use lib.Dec.{leb}
use Rattle.spec_tree.specs.Tree.{Tree, Op, nil, eq_tree}
use Rattle.spec_tree.specs.Facts.{cost, has_symbol, count, outside, uses, uses_outside}
use Rattle.spec_tree.specs.Tokens.{read, trees_at, numbered}
use Rattle.spec_tree.proofs.TokenLaws.{trees_length, places_are_nodes}
use Rattle.spec_rewrite.proofs.Counts.{count_append}
use Rattle.laws.specs.positions.Places.{numbered_at, uses_at, candidate_at, in_arm, outside_at, equal_places}
use Rattle.laws.proofs.positions.Arms.{those_passing, outer_passing}

passing_step :
    (b : Bool) (t : Tree) (p q r : List Tree) → p ≡ q ++ r → ◌≡◌ {A = List Tree} (elim b [ true ↦ t ∷ p | false ↦ p ]) (elim b as (λ _. List Tree) [ true ↦ t ∷ q | false ↦ q ] ++ r)
passing_step true t p q r e = ap (λ (l : List Tree). t ∷ l) e
passing_step false t p q r e = e

pub passing_append : (test : ℕ → Bool) (i : ℕ) (a b : List Tree) → those_passing test i (a ++ b) ≡ those_passing test i a ++ those_passing test (i + length a) b
unfolding those_passing
passing_append test i [] b = let z : i ≡ i + 0 = omega arith in ap (λ (k : ℕ). those_passing test k b) z
passing_append test i (t ∷ a) b =
    let z : suc i + length a ≡ i + suc (length a) = omega arith in
    passing_step (test i) t (those_passing test (suc i) (a ++ b)) (those_passing test (suc i) a) (those_passing test (i + suc (length a)) b)
    (passing_append test (suc i) a b ∙ ap (λ (k : ℕ). those_passing test (suc i) a ++ those_passing test k b) z)

pub all_passing : (i : ℕ) (l : List Tree) → those_passing (λ j. true) i l ≡ l
unfolding those_passing
all_passing i [] = refl
all_passing i (t ∷ l) = ap (λ (r : List Tree). t ∷ r) (all_passing (suc i) l)

-- one more place
one_more : (b : Bool) (x e : Tree) (n m : ℕ) → n ≡ m → ◌≡◌ {A = ℕ} (elim (b && eq_tree x e) [ true ↦ suc n | false ↦ n ]) (m + count e (elim b [ true ↦ x ∷ [] | false ↦ [] ]))
unfolding count
one_more false x e n m z = omega arith
one_more true x e n m z = go (eq_tree x e)
  where
    go : (c : Bool) → ◌≡◌ {A = ℕ} (elim c [ true ↦ suc n | false ↦ n ]) (m + (elim c as (λ _. ℕ) [ true ↦ 1 | false ↦ 0 ]))
    go true = omega arith
    go false = omega arith

module _ (ws : List ℕ) where
  places_counted :
      (test : ℕ → Bool) (i n : ℕ) → n ≤ length ws → equal_places ws test i n ≡ count (numbered_at ws i) (those_passing test 0 (take n (trees_at numbered ws)))
  unfolding equal_places those_passing
  places_counted test i zero h = (unfold count in refl)
  places_counted test i (suc n) h =
      let l = trees_at numbered ws in
      let e = numbered_at ws i in
      let x = numbered_at ws n in
      let k = trees_length numbered ws in
      let more : take (suc n) l ≡ take n l ++ (x ∷ []) = (unfold numbered_at in take-suc l n (Op 0 nil) (omega (arith, k))) in
      let z : 0 + length (take n l) ≡ n = omega (arith, length-take-le n l (omega (arith, k))) in
      let apart : those_passing test 0 (take (suc n) l) ≡ those_passing test 0 (take n l) ++ those_passing test n (x ∷ []) =
      ap (those_passing test 0) more ∙ passing_append test 0 (take n l) (x ∷ []) ∙ ap (λ (k : ℕ). those_passing test 0 (take n l) ++ those_passing test k (x ∷ [])) z in
      one_more (test n) x e (equal_places ws test i n) (count e (those_passing test 0 (take n l))) (places_counted test i n (omega arith))
      ∙ sym (ap (count e) apart ∙ count_append e (those_passing test 0 (take n l)) (those_passing test n (x ∷ [])))

  all_counted : (test : ℕ → Bool) (i : ℕ) → equal_places ws test i (length ws) ≡ count (numbered_at ws i) (those_passing test 0 (trees_at numbered ws))
  all_counted test i =
      let k = trees_length numbered ws in
      places_counted test i (length ws) (omega arith)
      ∙ ap (λ (l : List Tree). count (numbered_at ws i) (those_passing test 0 l)) (take_all (length ws) (trees_at numbered ws) (omega (arith, k)))

  -- how often the tree at a place is there
  pub uses_counted : (i : ℕ) → uses_at ws i ≡ equal_places ws (λ j. true) i (length ws)
  unfolding uses_at uses
  uses_counted i =
      let e = numbered_at ws i in
      sym (all_counted (λ j. true) i ∙ ap (count e) (all_passing 0 (trees_at numbered ws) ∙ places_are_nodes numbered ws))

  -- and how often outside arms
  pub uses_outside_counted : (scoped : Bool) (i : ℕ) → uses_outside scoped (read numbered ws) (numbered_at ws i) ≡ equal_places ws (outside_at ws scoped) i (length ws)
  unfolding uses_outside outside outside_at
  uses_outside_counted false i =
      let e = numbered_at ws i in
      sym (all_counted (λ j. true) i ∙ ap (count e) (all_passing 0 (trees_at numbered ws) ∙ places_are_nodes numbered ws))
  uses_outside_counted true i =
      let e = numbered_at ws i in
      sym (all_counted (λ j. not (in_arm ws (length ws) j)) i ∙ ap (count e) (outer_passing ws))

  -- so a place is a candidate by its facts and these two counts
  pub candidate_counted :
      (scoped : Bool) (i : ℕ)
      → candidate_at ws scoped i
      ≡ (leb 1 (cost (numbered_at ws i))
      && (has_symbol (numbered_at ws i) && (leb 2 (equal_places ws (λ j. true) i (length ws)) && leb 1 (equal_places ws (outside_at ws scoped) i (length ws)))))
  unfolding candidate_at
  candidate_counted scoped i =
      ap (λ (b : Bool). leb 1 (cost (numbered_at ws i)) && (has_symbol (numbered_at ws i) && b))
      (ap₂ ◌&&◌ (ap (leb 2) (uses_counted i)) (ap (leb 1) (uses_outside_counted scoped i)))
