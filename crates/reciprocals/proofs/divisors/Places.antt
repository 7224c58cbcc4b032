-- Where a divisor stands, and the list of all so far: how it starts, goes on and ends. Assumes nothing.
use Rattle.std.specs.Prelude.{Some, None}
use Prim.Native.Nat.{ℕ, zero, suc, ◌+◌, ◌≤◌, ◌<◌}
use native.Mathlib.Omega.{arith}
use mathlib.Core.Path.{◌≡◌, refl, sym, ◌∙◌, ap}
use mathlib.Core.Bool.{Bool, true, false, ◌&&◌}
use mathlib.Core.Option.{some}
use Rattle.std.specs.Prelude.{Option, Some, None}
use mathlib.Core.List.{List, [], ◌∷◌, ◌++◌, append-nil, append_assoc}
use borrow.Author.Tests.{eq-eqb, ne_eqb, le-leb, lt-leb}
use lib.ListN.{length, get_or, drop, set, length-append, length-drop}
use lib.Seq.{drop-cons, set_at}
use lib.Dec.{leb}
use Rattle.spec_tree.specs.Facts.{size}
use Rattle.spec_tree.specs.Tokens.{kind_of, below_of, takes, read, numbered, run_at}
use Rattle.spec_tree.proofs.TokenLaws.{operation_takes, run_size}
use Rattle.words.specs.tokens.Answers.{end_answer}
use Rattle.laws.specs.positions.Places.{numbered_at, divides_at, second_at, divisor_places}
use Rattle.laws.proofs.positions.DivisorPlaces.{enough}
use Rattle.words.specs.words.Words.{Complete}
use Rattle.reciprocals.specs.divisors.Listing.{second_answer, all_places}

pub none_some : {s : ℕ} → None ≡ Some s → ⊥
none_some {s} q = let z : ◌≡◌ {A = ℕ} 0 1 = cc in omega arith

-- ---- one place

module _ (ws : List ℕ) (p : ℕ) where
  answer_by : (b : Bool) → divides_at ws p ≡ b → second_answer ws p ≡ elim b as (λ _. Option ℕ) [ true ↦ Some (second_at ws p) | false ↦ None ]
  unfolding second_answer
  answer_by b e = ap (λ (c : Bool). elim c as (λ _. Option ℕ) [ true ↦ Some (second_at ws p) | false ↦ None ]) e

  pub other_kind : (kind_of (get_or ws p 0) ≡ 6 → ⊥) → None ≡ second_answer ws p
  unfolding divides_at
  other_kind ne = sym (answer_by false (ap (λ (b : Bool). b && leb 2 (takes (get_or ws p 0))) (ne_eqb (kind_of (get_or ws p 0)) 6 ne)))

  module _ (k : kind_of (get_or ws p 0) ≡ 6) where
    takes_all : takes (get_or ws p 0) ≡ below_of (get_or ws p 0)
    takes_all = operation_takes (get_or ws p 0) (omega (arith, k))

    divides : (b : Bool) → leb 2 (takes (get_or ws p 0)) ≡ b → divides_at ws p ≡ b
    unfolding divides_at
    divides b e = ap (λ (c : Bool). c && leb 2 (takes (get_or ws p 0))) (eq-eqb (kind_of (get_or ws p 0)) 6 k) ∙ e

    pub one_operand : below_of (get_or ws p 0) < 2 → None ≡ second_answer ws p
    one_operand h = sym (answer_by false (divides false (lt-leb 2 (takes (get_or ws p 0)) (omega (arith, takes_all, h)))))

    module _ (complete : Complete ws) (here : p < length ws) (two : 2 ≤ below_of (get_or ws p 0)) where
      none_read : (l : List ℕ) → length l ≡ 0 → length (read numbered l) ≡ 0
      unfolding read
      none_read [] h = refl
      none_read (w ∷ l) h = absurd (omega arith)

      more : p + 1 < length ws
      more = by_cases
        where
          rest : List ℕ
          rest = drop (suc p) ws

          some_left : (n : ℕ) → length rest ≡ n → 0 < n
          some_left zero e = let r = none_read rest e in absurd (omega (arith, enough ws complete.0 complete.1 p here, takes_all, two, r))
          some_left (suc n) e = omega arith

          by_cases : p + 1 < length ws
          by_cases = omega (arith, some_left (length rest) refl, length-drop (suc p) ws)

      stands : run_at ws (p + 1) ≡ some (size (numbered_at ws (p + 1)))
      unfolding numbered_at
      stands = run_size numbered ws complete.0 (p + 1) complete.1 more

      pub second_there : end_answer (p + 1) (run_at ws (p + 1)) ≡ second_answer ws p
      unfolding end_answer second_at
      second_there =
          let i : p + 1 ≡ suc p = omega arith in
          let d : divides_at ws p ≡ true = divides true (le-leb 2 (takes (get_or ws p 0)) (omega (arith, takes_all, two))) in
          ap (end_answer (p + 1)) stands ∙ (ap (λ (x : ℕ). Some (x + size (numbered_at ws x))) i ∙ sym (answer_by true d))

-- ---- all places so far

module _ (ws : List ℕ) where
  abbrev pub so_far : ℕ → List ℕ
  so_far p = divisor_places ws (λ j. true) p

  pub record State (old out : List ℕ) (n p : ℕ) : Type 0 where
    pub inside : p ≤ length ws
    pub few : n ≤ p
    pub count : n ≡ length (so_far p)
    pub places : out ≡ so_far p ++ drop n old

  pub starts : (old : List ℕ) → State old old 0 0
  unfolding divisor_places
  starts old = record { inside = omega arith; few = omega arith; count = refl; places = refl }

  goes_on : (p : ℕ) (b : Bool) → divides_at ws p ≡ b → so_far (p + 1) ≡ so_far p ++ elim b as (λ _. List ℕ) [ true ↦ second_at ws p ∷ [] | false ↦ [] ]
  unfolding divisor_places
  goes_on p b e =
      let i : p + 1 ≡ suc p = omega arith in
      ap so_far i ∙ ap (λ (c : Bool). so_far p ++ elim c as (λ _. List ℕ) [ true ↦ second_at ws p ∷ [] | false ↦ [] ]) e

  module _ {old out : List ℕ} {n p : ℕ} (state : State old out n p) (room : length ws ≤ length old) (here : p < length ws) where
    pub long : length out ≡ length old
    long = ap length state.places ∙ omega (arith, length-append (so_far p) (drop n old), length-drop n old, state.count, state.few, state.inside, room)

    pub turn_none : None ≡ second_answer ws p → State old out n (p + 1)
    turn_none h = go (divides_at ws p) refl
      where
        go : (b : Bool) → divides_at ws p ≡ b → State old out n (p + 1)
        go true e = absurd (let q : None ≡ Some (second_at ws p) = h ∙ answer_by ws p true e in none_some q)
        go false e =
            let g : so_far (p + 1) ≡ so_far p = goes_on p false e ∙ append-nil (so_far p) in
            record {
              inside = omega arith;
              few = omega (arith, state.few);
              count = state.count ∙ ap length (sym g);
              places = state.places ∙ ap (λ (l : List ℕ). l ++ drop n old) (sym g);
            }

    pub turn_one : (s : ℕ) → Some s ≡ second_answer ws p → State old (set out n s) (n + 1) (p + 1)
    turn_one s q = go (divides_at ws p) refl
      where
        go : (b : Bool) → divides_at ws p ≡ b → State old (set out n s) (n + 1) (p + 1)
        go false e = absurd (let r : None ≡ Some s = sym (q ∙ answer_by ws p false e) in none_some r)
        go true e =
            let r : Some s ≡ Some (second_at ws p) = q ∙ answer_by ws p true e in
            let v : s ≡ second_at ws p = cc in
            let g : so_far (p + 1) ≡ so_far p ++ (s ∷ []) = goes_on p true e ∙ ap (λ (x : ℕ). so_far p ++ (x ∷ [])) (sym v) in
            let i : suc n ≡ n + 1 = omega arith in
            record {
              inside = omega arith;
              few = omega (arith, state.few);
              count = omega (arith, ap length g, length-append (so_far p) (s ∷ []), state.count);
              places = ap (λ (l : List ℕ). set l n s) (state.places ∙ ap (λ (l : List ℕ). so_far p ++ l) (drop-cons old n 0 (omega (arith, state.few, room))))
                  ∙ (set_at (so_far p) (get_or old n 0) (drop (suc n) old) s n (sym state.count)
                  ∙ (sym (append_assoc (so_far p) (s ∷ []) (drop (suc n) old)) ∙ (ap (λ (l : List ℕ). l ++ drop (suc n) old) (sym g) ∙ ap (λ (k : ℕ). so_far (p + 1) ++ drop k old) i)));
            }

  pub list_long : {old out : List ℕ} {n p : ℕ} → State old out n p → length ws ≤ length old → length out ≡ length old
  list_long {old} {out} {n} {p} state room =
      ap length state.places ∙ omega (arith, length-append (so_far p) (drop n old), length-drop n old, state.count, state.few, state.inside, room)

  pub list_ends :
      {old out : List ℕ} {n p : ℕ} → State old out n p → length ws ≤ p → (n ≡ length (all_places ws)) × (out ≡ all_places ws ++ drop (length (all_places ws)) old)
  unfolding all_places
  list_ends {old} {out} {n} {p} state h =
      let i : p ≡ length ws = omega (arith, state.inside, h) in
      let c : n ≡ length (so_far (length ws)) = state.count ∙ ap (λ (x : ℕ). length (so_far x)) i in
      (c, state.places ∙ (ap (λ (x : ℕ). so_far x ++ drop n old) i ∙ ap (λ (k : ℕ). so_far (length ws) ++ drop k old) c))
