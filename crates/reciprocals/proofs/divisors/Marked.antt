-- The divisors of divisions at marked places, place by place. Assumes nothing.
use Prim.Native.Nat.{ℕ, zero, suc, ◌+◌, ◌≤◌, ◌<◌}
use native.Mathlib.Omega.{arith}
use mathlib.Core.Path.{◌≡◌, refl, sym, ◌∙◌, ap}
use mathlib.Core.Bool.{Bool, true, false, ◌&&◌, cond}
use mathlib.Core.List.{List, [], ◌∷◌, ◌++◌, append-nil, append_assoc}
use borrow.Author.Tests.{le-leb}
use lib.ListN.{length, get_or, drop, set, length-append, length-drop}
use lib.Seq.{drop-cons, set_at}
use Rattle.std.specs.Prelude.{Option, Some, None}
use Rattle.laws.specs.positions.Places.{divides_at, second_at, outside_at, divisor_places}
use Rattle.rounds.specs.uses.Marks.{is_marked}
use Rattle.reciprocals.specs.divisors.Listing.{second_answer}
use Rattle.reciprocals.proofs.divisors.Places.{none_some}
use Rattle.rounds.specs.choice.Leading.{HasMarks}
use Rattle.reciprocals.specs.divisors.Places.{Listed, marked_second, outside_places}

-- ---- one place

module _ (ws marks : List ℕ) (p : ℕ) where
  pub unmarked : get_or marks p 0 ≡ 0 → None ≡ marked_second ws marks p
  unfolding marked_second is_marked
  unmarked e = rw e

  pub is_there : (get_or marks p 0 ≡ 0 → ⊥) → (r : Option ℕ) → r ≡ second_answer ws p → r ≡ marked_second ws marks p
  unfolding marked_second is_marked
  is_there ne r e = e ∙ sym (ap (λ (b : Bool). cond b (second_answer ws p) None) (le-leb 1 (get_or marks p 0) some_mark))
    where
      some_mark : 1 ≤ get_or marks p 0
      some_mark = go (get_or marks p 0) ne
        where
          go : (m : ℕ) → (m ≡ 0 → ⊥) → 1 ≤ m
          go zero h = absurd (h refl)
          go (suc m) h = omega arith

both_or_none :
    (a b : Bool) (x : ℕ)
    → ◌≡◌ {A = Option ℕ} (cond a (elim b as (λ _. Option ℕ) [ true ↦ Some x | false ↦ None ]) None) (elim (a && b) as (λ _. Option ℕ) [ true ↦ Some x | false ↦ None ])
both_or_none true b x = refl
both_or_none false b x = refl

none_listed : (b : Bool) (x : ℕ) → None ≡ elim b as (λ _. Option ℕ) [ true ↦ Some x | false ↦ None ] → ◌≡◌ {A = List ℕ} (elim b as (λ _. List ℕ) [ true ↦ x ∷ [] | false ↦ [] ]) []
none_listed true x e = absurd (none_some e)
none_listed false x e = refl

one_listed :
    (b : Bool) (s x : ℕ) → Some s ≡ elim b as (λ _. Option ℕ) [ true ↦ Some x | false ↦ None ]
    → ◌≡◌ {A = List ℕ} (elim b as (λ _. List ℕ) [ true ↦ x ∷ [] | false ↦ [] ]) (s ∷ [])
one_listed true s x e = ap (λ (y : ℕ). y ∷ []) (let z : x ≡ s = cc in z)
one_listed false s x e = absurd (none_some (sym e))

-- ---- all so far

module _ (ws : List ℕ) (scoped : Bool) where
  abbrev pub so_far : ℕ → List ℕ
  so_far p = divisor_places ws (outside_at ws scoped) p

  pub record State (old out : List ℕ) (n p : ℕ) : Type 0 where
    pub inside : p ≤ length ws
    pub few : n ≤ p
    pub count : n ≡ length (so_far p)
    pub places : out ≡ so_far p ++ drop n old

  pub starts : (old : List ℕ) → State old old 0 0
  unfolding divisor_places
  starts old = record { inside = omega arith; few = omega arith; count = refl; places = refl }

  goes_on : (p : ℕ) → so_far (p + 1) ≡ so_far p ++ elim (outside_at ws scoped p && divides_at ws p) as (λ _. List ℕ) [ true ↦ second_at ws p ∷ [] | false ↦ [] ]
  unfolding divisor_places
  goes_on p = let i : p + 1 ≡ suc p = omega arith in ap so_far i

  pub list_long : {old out : List ℕ} {n p : ℕ} → State old out n p → length ws ≤ length old → length out ≡ length old
  list_long {old} {out} {n} {p} state room =
      ap length state.places ∙ omega (arith, length-append (so_far p) (drop n old), length-drop n old, state.count, state.few, state.inside, room)

  module _ {old out : List ℕ} {n p : ℕ} (state : State old out n p) (room : length ws ≤ length old) (here : p < length ws) (marks : List ℕ) (k : HasMarks ws scoped marks) (s : Option ℕ) (q : s ≡ marked_second ws marks p) where
    second_by : s ≡ elim (outside_at ws scoped p && divides_at ws p) as (λ _. Option ℕ) [ true ↦ Some (second_at ws p) | false ↦ None ]
    unfolding marked_second second_answer
    second_by =
        q ∙ (ap (λ (b : Bool). cond b (second_answer ws p) None) (k.marked p here) ∙ both_or_none (outside_at ws scoped p) (divides_at ws p) (second_at ws p))

    pub turn_none : s ≡ None → State old out n (p + 1)
    turn_none h =
        let none_here = none_listed (outside_at ws scoped p && divides_at ws p) (second_at ws p) (sym h ∙ second_by) in
        let g : so_far (p + 1) ≡ so_far p = goes_on p ∙ (ap (λ (l : List ℕ). so_far p ++ l) none_here ∙ append-nil (so_far p)) in
        record {
          inside = omega arith;
          few = omega (arith, state.few);
          count = state.count ∙ ap length (sym g);
          places = state.places ∙ ap (λ (l : List ℕ). l ++ drop n old) (sym g);
        }

    pub turn_one : (r : ℕ) → s ≡ Some r → State old (set out n r) (n + 1) (p + 1)
    turn_one r h =
        let one_here = one_listed (outside_at ws scoped p && divides_at ws p) r (second_at ws p) (sym h ∙ second_by) in
        let g : so_far (p + 1) ≡ so_far p ++ (r ∷ []) = goes_on p ∙ ap (λ (l : List ℕ). so_far p ++ l) one_here in
        let i : suc n ≡ n + 1 = omega arith in
        record {
          inside = omega arith;
          few = omega (arith, state.few);
          count = omega (arith, ap length g, length-append (so_far p) (r ∷ []), state.count);
          places = ap (λ (l : List ℕ). set l n r) (state.places ∙ ap (λ (l : List ℕ). so_far p ++ l) (drop-cons old n 0 (omega (arith, state.few, room))))
              ∙ (set_at (so_far p) (get_or old n 0) (drop (suc n) old) r n (sym state.count)
              ∙ (sym (append_assoc (so_far p) (r ∷ []) (drop (suc n) old)) ∙ (ap (λ (l : List ℕ). l ++ drop (suc n) old) (sym g) ∙ ap (λ (k : ℕ). so_far (p + 1) ++ drop k old) i)));
        }

  pub list_ends : {old out : List ℕ} {n p : ℕ} → State old out n p → length ws ≤ p → Listed (outside_places ws scoped) old n out
  unfolding outside_places
  list_ends {old} {out} {n} {p} state h =
      let i : p ≡ length ws = omega (arith, state.inside, h) in
      let c : n ≡ length (so_far (length ws)) = state.count ∙ ap (λ (x : ℕ). length (so_far x)) i in
      record {
        count = c;
        places = state.places ∙ (ap (λ (x : ℕ). so_far x ++ drop n old) i ∙ ap (λ (k : ℕ). so_far (length ws) ++ drop k old) c);
      }
