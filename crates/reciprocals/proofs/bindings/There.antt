-- A tree stands at each place of a divisor to bind, so that settling by them is never refused. Assumes nothing.
use Prim.Native.Nat.{ℕ, zero, suc, ◌+◌, ◌≤◌, ◌<◌}
use native.Mathlib.Omega.{arith}
use mathlib.Core.Path.{◌≡◌, refl, ap}
use mathlib.Core.Bool.{Bool, true, false, ◌&&◌}
use mathlib.Core.Option.{some}
use mathlib.Core.List.{List, [], ◌∷◌, ◌++◌, map}
use lib.ListN.{length, get_or, drop, length-drop}
use lib.Dec.{T, eqb, leb, leb→le}
use Rattle.spec_tree.specs.Kinds.{Div}
use Rattle.spec_tree.specs.Facts.{size}
use Rattle.spec_tree.specs.Tokens.{all_tokens, read, numbered, kind_of, takes, run_at, trees_in}
use Rattle.spec_tree.specs.text.Text.{before}
use Rattle.spec_tree.proofs.Logic.{and_right}
use Rattle.spec_tree.proofs.TokenLaws.{run_size}
use Rattle.spec_tree.proofs.TokenCode.{unnumbered}
use Rattle.laws.specs.positions.Places.{numbered_at, outside_at, divides_at, second_at, divisor_places, among_places, count_places, text_at, distinct_places, shared_places, insert_place, sort_places, divisors_to_bind}
use Rattle.laws.proofs.positions.DivisorPlaces.{enough}
use Rattle.words.proofs.words.Rewriting.{segment}
use Rattle.reciprocals.specs.settle.Steps.{settled_words}
use Rattle.reciprocals.proofs.bindings.Parts.{settle_tree, AllThere, settled_are}

module _ (ws : List ℕ) where
  abbrev There : ℕ → Type 0
  There p = (n : ℕ) × (run_at ws p ≡ some n)

  append_there : (a b : List ℕ) → AllThere ws a → AllThere ws b → AllThere ws (a ++ b)
  append_there [] b g h = h
  append_there (p ∷ a) b g h = (g.0, append_there a b g.1 h)

  distinct_step : (b : Bool) (q : ℕ) (r s : List ℕ) → There q → AllThere ws r → AllThere ws s → AllThere ws (elim b as (λ _. List ℕ) [ true ↦ r | false ↦ q ∷ s ])
  distinct_step true q r s h d e = d
  distinct_step false q r s h d e = (h, e)

  distinct_there : (seen l : List ℕ) → AllThere ws l → AllThere ws (distinct_places ws seen l)
  unfolding distinct_places
  distinct_there seen [] h = tt
  distinct_there seen (q ∷ l) h =
      distinct_step (among_places ws q seen) q (distinct_places ws seen l) (distinct_places ws (q ∷ seen) l) h.0 (distinct_there seen l h.1) (distinct_there (q ∷ seen) l h.1)

  shared_step : (b : Bool) (q : ℕ) (r : List ℕ) → There q → AllThere ws r → AllThere ws (elim b as (λ _. List ℕ) [ true ↦ q ∷ r | false ↦ r ])
  shared_step true q r h d = (h, d)
  shared_step false q r h d = d

  shared_there : (all out l : List ℕ) → AllThere ws l → AllThere ws (shared_places ws all out l)
  unfolding shared_places
  shared_there all out [] h = tt
  shared_there all out (q ∷ l) h =
      shared_step (leb 2 (count_places ws q all) && leb 1 (count_places ws q out)) q (shared_places ws all out l) h.0 (shared_there all out l h.1)

  insert_step : (b : Bool) (q r : ℕ) (l s : List ℕ) → There q → There r → AllThere ws l → AllThere ws s → AllThere ws (elim b as (λ _. List ℕ) [ true ↦ r ∷ s | false ↦ q ∷ (r ∷ l) ])
  insert_step true q r l s g h d e = (h, e)
  insert_step false q r l s g h d e = (g, (h, d))

  module _ (name_at : ℕ → List ℕ) where
    insert_there : (q : ℕ) (l : List ℕ) → There q → AllThere ws l → AllThere ws (insert_place ws name_at q l)
    unfolding insert_place
    insert_there q [] g h = (g, tt)
    insert_there q (r ∷ l) g h =
        insert_step (before (text_at ws name_at r) (text_at ws name_at q)) q r l (insert_place ws name_at q l) g h.0 h.1 (insert_there q l g h.1)

    sort_there : (l : List ℕ) → AllThere ws l → AllThere ws (sort_places ws name_at l)
    unfolding sort_places
    sort_there [] h = tt
    sort_there (q ∷ l) h = insert_there q (sort_places ws name_at l) h.0 (sort_there l h.1)

  none_read : (l : List ℕ) → length l ≡ 0 → length (read numbered l) ≡ 0
  unfolding read
  none_read [] h = refl
  none_read (w ∷ l) h = absurd (omega arith)

  some_words : (l : List ℕ) (k : ℕ) → length (read numbered l) ≡ k → 0 < k → 0 < length l
  some_words [] k e h = absurd (omega (arith, none_read [] refl, e, h))
  some_words (w ∷ l) k e h = omega arith

  module _ (m : ℕ) (complete : trees_in ws ≡ some m) where
    second_there : (p : ℕ) → p < length ws → T (divides_at ws p) → There (second_at ws p)
    unfolding divides_at run_at second_at numbered_at
    second_there p h t =
        let w = get_or ws p 0 in
        let us = drop (suc p) ws in
        let two = leb→le 2 (takes w) (and_right (eqb (kind_of w) Div) (leb 2 (takes w)) t) in
        let k = enough ws m complete p h in
        let a = some_words us (length (read numbered us)) refl (omega (arith, two, k)) in
        let f = length-drop (suc p) ws in
        let x = size (numbered_at ws (suc p)) in
        let s = segment us 1 x (run_size numbered ws m (suc p) complete (omega (arith, a, f))) in
        let r : length (read numbered (drop x us)) ≡ length (drop 1 (read numbered us)) = ap length s.rest in
        let b = some_words (drop x us) (length (read numbered (drop x us))) refl (omega (arith, r, length-drop 1 (read numbered us), two, k)) in
        let i : suc p + x < length ws = omega (arith, b, length-drop x us, f) in
        (size (numbered_at ws (suc p + x)), run_size numbered ws m (suc p + x) complete i)

    divisor_step : (b c : Bool) (q : ℕ) → (T c → There q) → AllThere ws (elim (b && c) as (λ _. List ℕ) [ true ↦ q ∷ [] | false ↦ [] ])
    divisor_step true true q h = (h tt, tt)
    divisor_step true false q h = tt
    divisor_step false c q h = tt

    divisors_there : (test : ℕ → Bool) (n : ℕ) → n ≤ length ws → AllThere ws (divisor_places ws test n)
    unfolding divisor_places
    divisors_there test zero h = tt
    divisors_there test (suc n) h =
        append_there (divisor_places ws test n) (elim (test n && divides_at ws n) as (λ _. List ℕ) [ true ↦ second_at ws n ∷ [] | false ↦ [] ])
        (divisors_there test n (omega arith)) (divisor_step (test n) (divides_at ws n) (second_at ws n) (λ t. second_there n (omega arith) t))

    pub to_bind_there : (name_at : ℕ → List ℕ) (scoped : Bool) → AllThere ws (divisors_to_bind ws name_at scoped)
    unfolding divisors_to_bind
    to_bind_there name_at scoped =
        let all = divisor_places ws (λ j. true) (length ws) in
        let out = divisor_places ws (outside_at ws scoped) (length ws) in
        sort_there name_at (shared_places ws all out (distinct_places ws [] all))
        (shared_there all out (distinct_places ws [] all) (distinct_there [] all (divisors_there (λ j. true) (length ws) (omega arith))))

    -- settled by all of them, the trees that are there become the first part of what reciprocals make
    pub results_settled :
        (name_at : ℕ → List ℕ) (scoped : Bool) (n : ℕ)
        → settled_words ws (divisors_to_bind ws name_at scoped) n ws
        ≡ some (all_tokens unnumbered (map (settle_tree (map (numbered_at ws) (divisors_to_bind ws name_at scoped)) n) (read numbered ws)))
    results_settled name_at scoped n = settled_are ws (divisors_to_bind ws name_at scoped) n ws m complete (to_bind_there name_at scoped)
