-- Where no word is a switch, no place is in an arm, and both forms have the same candidates. Assumes nothing.
use Prim.Native.Nat.{ℕ, zero, suc, ◌+◌, ◌≤◌}
use native.Mathlib.Omega.{arith}
use mathlib.Core.Path.{◌≡◌, refl, sym, ◌∙◌, ap, ap₂}
use mathlib.Core.Bool.{Bool, true, false, not, ◌&&◌, ◌||◌}
use mathlib.Core.Option.{Option, none, some}
use mathlib.Core.List.{List}
use lib.ListN.{length, get_or, take}
use Rattle.std.specs.List.{list_any}
use Rattle.std.proofs.lemmas.List.Folds.{list_any_more}
use Rattle.std.proofs.lemmas.List.{take_all}
use lib.Dec.{leb}
use Rattle.spec_tree.specs.Kinds.{is_switch}
use Rattle.spec_tree.specs.Facts.{cost, has_symbol}
use Rattle.spec_tree.specs.Tokens.{kind_of}
use Rattle.laws.specs.positions.Places.{numbered_at, candidate_at, equal_places, in_arm_of, in_arm, outside_at, beats_at, best_place_from, best_place}
use Rattle.laws.proofs.positions.UsesAt.{candidate_counted}
use Rattle.rounds.specs.uses.Marks.{switch_among}
use Rattle.rounds.specs.choice.Leading.{Alike}
use Rattle.rounds.proofs.choice.Leaders.{same_places}

-- ---- a switch among words

or_swapped : (a b : Bool) → (a || b) ≡ (b || a)
or_swapped true true = refl
or_swapped true false = refl
or_swapped false true = refl
or_swapped false false = refl

switch_so_far : (ws : List ℕ) (n : ℕ) → n ≤ length ws → list_any (λ w. is_switch (kind_of w)) (take n ws) ≡ switch_among ws n
unfolding switch_among
switch_so_far ws zero h = refl
switch_so_far ws (suc n) h =
    let z : n + 1 ≡ suc n = omega arith in
    ap (λ (m : ℕ). list_any (λ w. is_switch (kind_of w)) (take m ws)) (sym z)
    ∙ (list_any_more (λ w. is_switch (kind_of w)) ws n 0 (omega arith)
    ∙ (or_swapped (list_any (λ w. is_switch (kind_of w)) (take n ws)) (is_switch (kind_of (get_or ws n 0)))
    ∙ ap (λ (b : Bool). is_switch (kind_of (get_or ws n 0)) || b) (switch_so_far ws n (omega arith))))

pub any_switch : (ws : List ℕ) (r : Bool) → r ≡ list_any (λ w. is_switch (kind_of w)) ws → r ≡ switch_among ws (length ws)
any_switch ws r e =
    e ∙ (ap (list_any (λ w. is_switch (kind_of w))) (sym (take_all (length ws) ws (omega arith))) ∙ switch_so_far ws (length ws) (omega arith))

-- ---- without one, the forms are alike

or_left : (a b : Bool) → (a || b) ≡ false → a ≡ false
or_left true b e = e
or_left false b e = refl

or_right : (a b : Bool) → (a || b) ≡ false → b ≡ false
or_right true b e = absurd (let z : ◌≡◌ {A = ℕ} 0 1 = cc in omega arith)
or_right false b e = e

no_arm : (ws : List ℕ) (n j : ℕ) → switch_among ws n ≡ false → in_arm ws n j ≡ false
unfolding switch_among in_arm in_arm_of
no_arm ws zero j e = refl
no_arm ws (suc n) j e =
    rw (or_left (is_switch (kind_of (get_or ws n 0))) (switch_among ws n) e)
    (no_arm ws n j (or_right (is_switch (kind_of (get_or ws n 0))) (switch_among ws n) e))

pub without_switch : (ws : List ℕ) → false ≡ switch_among ws (length ws) → Alike ws false true
unfolding outside_at
without_switch ws e = λ i.
    candidate_counted ws false i
    ∙ (ap (λ (n : ℕ). leb 1 (cost (numbered_at ws i)) && (has_symbol (numbered_at ws i) && (leb 2 (equal_places ws (λ j. true) i (length ws)) && leb 1 n)))
    (same_places ws (outside_at ws false) (outside_at ws true) i (length ws) (λ j h. sym (ap not (no_arm ws (length ws) j (sym e)))))
    ∙ sym (candidate_counted ws true i))

-- a switch or none, in the scoped form
pub by_switch : (ws : List ℕ) (r : Bool) → r ≡ switch_among ws (length ws) → Alike ws r true
by_switch ws true e = λ i. refl
by_switch ws false e = without_switch ws e

pub flat_alike : (ws : List ℕ) (scoped : Bool) → scoped ≡ false → Alike ws false scoped
flat_alike ws scoped e = λ i. ap (λ (b : Bool). candidate_at ws b i) (sym e)

-- ---- so the best place is the same

module _ (ws : List ℕ) (name_at : ℕ → List ℕ) (one other : Bool) (same : Alike ws one other) where
  best_alike : (o : Option ℕ) (i n : ℕ) → best_place_from ws name_at one o i n ≡ best_place_from ws name_at other o i n
  unfolding best_place_from
  best_alike o i zero = refl
  best_alike none i (suc n) =
      ap₂ (λ (b : Bool) (e : Option ℕ). elim b as (λ _. Option ℕ) [ true ↦ e | false ↦ best_place_from ws name_at one none (suc i) n ]) (same i)
      (best_alike (some i) (suc i) n)
      ∙ ap (λ (e : Option ℕ). elim (candidate_at ws other i) as (λ _. Option ℕ) [ true ↦ best_place_from ws name_at other (some i) (suc i) n | false ↦ e ])
      (best_alike none (suc i) n)
  best_alike (some a) i (suc n) =
      ap₂
      (λ (b : Bool) (e : Option ℕ). elim (b && beats_at ws name_at a i) as (λ _. Option ℕ) [ true ↦ e | false ↦ best_place_from ws name_at one (some a) (suc i) n ])
      (same i) (best_alike (some i) (suc i) n)
      ∙ ap
      (λ (e : Option ℕ).
      elim (candidate_at ws other i && beats_at ws name_at a i) as (λ _. Option ℕ) [ true ↦ best_place_from ws name_at other (some i) (suc i) n | false ↦ e ])
      (best_alike (some a) (suc i) n)

  pub best_same : best_place ws name_at one ≡ best_place ws name_at other
  unfolding best_place
  best_same = best_alike none 0 (length ws)
