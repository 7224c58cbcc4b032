-- Places of divisors are places of words, in each list that is made of them. Assumes nothing.
use Prim.Native.Nat.{ℕ, zero, suc, ◌≤◌, ◌<◌}
use native.Mathlib.Omega.{arith}
use mathlib.Core.Path.{◌≡◌, refl, sym, ap, subst}
use mathlib.Core.Bool.{Bool, true, false, ◌&&◌}
use mathlib.Core.Option.{Option, none, some}
use mathlib.Core.List.{List, [], ◌∷◌, ◌++◌}
use lib.ListN.{length, get_or, take, drop, length-append, length-drop, take-append-drop}
use lib.Dec.{T, eqb, leb, leb→le}
use Rattle.spec_tree.specs.Kinds.{Div}
use Rattle.spec_tree.specs.Facts.{size}
use Rattle.spec_tree.specs.Tokens.{read, numbered, kind_of, takes, run_at}
use Rattle.spec_tree.proofs.Logic.{and_right}
use Rattle.spec_tree.proofs.TokenLaws.{run_size}
use Rattle.spec_tree.specs.text.Text.{before}
use Rattle.laws.specs.positions.Places.{numbered_at, divides_at, second_at, divisor_places, among_places, count_places, text_at, distinct_places, shared_places, insert_place, sort_places}
use Rattle.laws.proofs.positions.DivisorPlaces.{enough}
use Rattle.words.specs.words.Words.{Complete}
use Rattle.words.proofs.words.Rewriting.{segment}
use Rattle.reciprocals.specs.divisors.Places.{Inside, chosen_places}

-- no word lacks an operand, said the other way
pub not_none : (o : Option ℕ) → (n : ℕ) × (o ≡ some n) → o ≡ none → ⊥
not_none none h e = let q = h.1 in let z : ◌≡◌ {A = ℕ} 0 1 = cc in omega arith
not_none (some m) h e = let z : ◌≡◌ {A = ℕ} 0 1 = cc in omega arith

-- ---- parts of lists

module _ (n : ℕ) where
  pub inside_at : (l : List ℕ) (i : ℕ) → Inside n l → i < length l → get_or l i 0 < n
  inside_at [] i h g = absurd (omega arith)
  inside_at (q ∷ l) zero h g = h.0
  inside_at (q ∷ l) (suc i) h g = inside_at l i h.1 (omega arith)

  pub inside_both : (a b : List ℕ) → Inside n a → Inside n b → Inside n (a ++ b)
  inside_both [] b h g = g
  inside_both (q ∷ a) b h g = (h.0, inside_both a b h.1 g)

  inside_front : (a b : List ℕ) → Inside n (a ++ b) → Inside n a
  inside_front [] b h = tt
  inside_front (q ∷ a) b h = (h.0, inside_front a b h.1)

  inside_back : (a b : List ℕ) → Inside n (a ++ b) → Inside n b
  inside_back [] b h = h
  inside_back (q ∷ a) b h = inside_back a b h.1

  pub inside_take : (k : ℕ) (l : List ℕ) → Inside n l → Inside n (take k l)
  inside_take k l h = inside_front (take k l) (drop k l) (subst (Inside n) (sym (take-append-drop k l)) h)

  pub inside_drop : (k : ℕ) (l : List ℕ) → Inside n l → Inside n (drop k l)
  inside_drop k l h = inside_back (take k l) (drop k l) (subst (Inside n) (sym (take-append-drop k l)) h)

-- ---- divisors

none_read : (l : List ℕ) → length l ≡ 0 → length (read numbered l) ≡ 0
unfolding read
none_read [] h = refl
none_read (w ∷ l) h = absurd (omega arith)

some_words : (l : List ℕ) (k : ℕ) → length (read numbered l) ≡ k → 0 < k → 0 < length l
some_words [] k e h = absurd (omega (arith, none_read [] refl, e, h))
some_words (w ∷ l) k e h = omega arith

module _ (ws : List ℕ) where
  module _ (complete : Complete ws) where
    second_within : (p : ℕ) → p < length ws → T (divides_at ws p) → second_at ws p < length ws
    unfolding divides_at run_at second_at numbered_at
    second_within p h t =
        let w = get_or ws p 0 in
        let us = drop (suc p) ws in
        let two = leb→le 2 (takes w) (and_right (eqb (kind_of w) Div) (leb 2 (takes w)) t) in
        let k = enough ws complete.0 complete.1 p h in
        let a = some_words us (length (read numbered us)) refl (omega (arith, two, k)) in
        let f = length-drop (suc p) ws in
        let x = size (numbered_at ws (suc p)) in
        let s = segment us 1 x (run_size numbered ws complete.0 (suc p) complete.1 (omega (arith, a, f))) in
        let r : length (read numbered (drop x us)) ≡ length (drop 1 (read numbered us)) = ap length s.rest in
        let b = some_words (drop x us) (length (read numbered (drop x us))) refl (omega (arith, r, length-drop 1 (read numbered us), two, k)) in
        omega (arith, b, length-drop x us, f)

    divisor_step : (b c : Bool) (q : ℕ) → (T c → q < length ws) → Inside (length ws) (elim (b && c) as (λ _. List ℕ) [ true ↦ q ∷ [] | false ↦ [] ])
    divisor_step true true q h = (h tt, tt)
    divisor_step true false q h = tt
    divisor_step false c q h = tt

    pub divisors_inside : (test : ℕ → Bool) (n : ℕ) → n ≤ length ws → Inside (length ws) (divisor_places ws test n)
    unfolding divisor_places
    divisors_inside test zero h = tt
    divisors_inside test (suc n) h =
        inside_both (length ws) (divisor_places ws test n) (elim (test n && divides_at ws n) as (λ _. List ℕ) [ true ↦ second_at ws n ∷ [] | false ↦ [] ])
        (divisors_inside test n (omega arith)) (divisor_step (test n) (divides_at ws n) (second_at ws n) (λ t. second_within n (omega arith) t))

  step_few : (b : Bool) (l : List ℕ) (q n : ℕ) → length l ≤ n → length (l ++ elim b as (λ _. List ℕ) [ true ↦ q ∷ [] | false ↦ [] ]) ≤ suc n
  step_few true l q n h = omega (arith, length-append l (q ∷ []))
  step_few false l q n h = omega (arith, length-append l [])

  pub divisors_few : (test : ℕ → Bool) (n : ℕ) → length (divisor_places ws test n) ≤ n
  unfolding divisor_places
  divisors_few test zero = omega arith
  divisors_few test (suc n) = step_few (test n && divides_at ws n) (divisor_places ws test n) (second_at ws n) n (divisors_few test n)

  -- ---- those to be bound

  distinct_step :
      (b : Bool) (q : ℕ) (r s : List ℕ) → q < length ws → Inside (length ws) r → Inside (length ws) s
      → Inside (length ws) (elim b as (λ _. List ℕ) [ true ↦ r | false ↦ q ∷ s ])
  distinct_step true q r s h d e = d
  distinct_step false q r s h d e = (h, e)

  distinct_inside : (seen l : List ℕ) → Inside (length ws) l → Inside (length ws) (distinct_places ws seen l)
  unfolding distinct_places
  distinct_inside seen [] h = tt
  distinct_inside seen (q ∷ l) h =
      distinct_step (among_places ws q seen) q (distinct_places ws seen l) (distinct_places ws (q ∷ seen) l) h.0 (distinct_inside seen l h.1)
      (distinct_inside (q ∷ seen) l h.1)

  shared_step : (b : Bool) (q : ℕ) (r : List ℕ) → q < length ws → Inside (length ws) r → Inside (length ws) (elim b as (λ _. List ℕ) [ true ↦ q ∷ r | false ↦ r ])
  shared_step true q r h d = (h, d)
  shared_step false q r h d = d

  shared_inside : (all out l : List ℕ) → Inside (length ws) l → Inside (length ws) (shared_places ws all out l)
  unfolding shared_places
  shared_inside all out [] h = tt
  shared_inside all out (q ∷ l) h =
      shared_step (leb 2 (count_places ws q all) && leb 1 (count_places ws q out)) q (shared_places ws all out l) h.0 (shared_inside all out l h.1)

  pub chosen_inside : (all out : List ℕ) → Inside (length ws) all → Inside (length ws) (chosen_places ws all out)
  unfolding chosen_places
  chosen_inside all out h = shared_inside all out (distinct_places ws [] all) (distinct_inside [] all h)

  -- ---- in text order

  insert_step :
      (b : Bool) (q r : ℕ) (l s : List ℕ) → q < length ws → r < length ws → Inside (length ws) l → Inside (length ws) s
      → Inside (length ws) (elim b as (λ _. List ℕ) [ true ↦ r ∷ s | false ↦ q ∷ (r ∷ l) ])
  insert_step true q r l s g h d e = (h, e)
  insert_step false q r l s g h d e = (g, (h, d))

  insert_long : (b : Bool) (q r : ℕ) (l s : List ℕ) → length s ≡ suc (length l) → length {A = ℕ} (elim b as (λ _. List ℕ) [ true ↦ r ∷ s | false ↦ q ∷ (r ∷ l) ]) ≡ suc (suc (length l))
  insert_long true q r l s e = ap suc e
  insert_long false q r l s e = refl

  module _ (name_at : ℕ → List ℕ) where
    insert_inside : (q : ℕ) (l : List ℕ) → q < length ws → Inside (length ws) l → Inside (length ws) (insert_place ws name_at q l)
    unfolding insert_place
    insert_inside q [] g h = (g, tt)
    insert_inside q (r ∷ l) g h =
        insert_step (before (text_at ws name_at r) (text_at ws name_at q)) q r l (insert_place ws name_at q l) g h.0 h.1 (insert_inside q l g h.1)

    pub sort_inside : (l : List ℕ) → Inside (length ws) l → Inside (length ws) (sort_places ws name_at l)
    unfolding sort_places
    sort_inside [] h = tt
    sort_inside (q ∷ l) h = insert_inside q (sort_places ws name_at l) h.0 (sort_inside l h.1)

    insert_length : (q : ℕ) (l : List ℕ) → length (insert_place ws name_at q l) ≡ suc (length l)
    unfolding insert_place
    insert_length q [] = refl
    insert_length q (r ∷ l) = insert_long (before (text_at ws name_at r) (text_at ws name_at q)) q r l (insert_place ws name_at q l) (insert_length q l)

    pub sort_length : (l : List ℕ) → length (sort_places ws name_at l) ≡ length l
    unfolding sort_places
    sort_length [] = refl
    sort_length (q ∷ l) = rw (insert_length q (sort_places ws name_at l), sort_length l)
