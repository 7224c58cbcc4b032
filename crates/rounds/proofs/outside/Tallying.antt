-- Counting marked places by class, and what is counted outside arms. Assumes nothing.
use Prim.Native.Nat.{ℕ, ◌+◌, ◌-◌, ◌*◌, ◌/◌, ◌%◌, ◌≤◌, ◌<◌}
use native.Mathlib.Omega.{arith}
use mathlib.Core.Path.{◌≡◌, ◌∙◌, ap, subst}
use mathlib.Core.Bool.{Bool, true, false}
use mathlib.Core.List.{List}
use lib.ListN.{length, get_or, set}
use lib.Dec.{leb}
use Rattle.spec_tree.specs.Tokens.{flag}
use Rattle.laws.specs.positions.Places.{outside_at}
use Rattle.rounds.specs.uses.Marks.{Complete, is_marked, Marking}
use Rattle.rounds.specs.value_numbers.Classes.{class_at}
use Rattle.rounds.specs.value_numbers.Tables.{Known, Counted, Uses}
use Rattle.rounds.specs.choice.Leading.{HasOutside}
use Rattle.rounds.proofs.value_numbers.Sides.{class_apart, class_place}
use Rattle.rounds.proofs.value_numbers.Counts.{counted_turns, counted_fits, counted_leaf, counted_ends}
use Rattle.rounds.proofs.value_numbers.Passes.{counts_next}
use Rattle.rounds.proofs.choice.Giving.{flag_back}
use Rattle.rounds.proofs.choice.Leaders.{same_places}

pub record Tally (ws marks : List ℕ) (i : ℕ) (ou : List ℕ) : Type 0 where
  pub inside : i ≤ length ws
  pub counted : Counted ws (is_marked marks) i ou

-- a place that is marked counts for its class
module _ {ws cl ou : List ℕ} {i : ℕ} (marks : List ℕ) (known : Known ws 0 cl) (h : i < length ws) (k : Counted ws (is_marked marks) (i + 1) ou) where
  is : get_or cl i 0 ≡ class_at ws i
  is = known.each i (omega arith) h

  pub place_leaf : get_or cl i 0 % 4 < 2 → Counted ws (is_marked marks) i ou
  place_leaf l = counted_leaf ws (is_marked marks) k (class_apart ws i (get_or cl i 0) is l)

  module _ (op : 2 ≤ get_or cl i 0 % 4) where
    at : (class_at ws i ≡ 4 * (get_or cl i 0 / 4) + 2) × (get_or cl i 0 / 4 < length ws)
    at = class_place ws i (get_or cl i 0) h is op

    pub place_fits : (r : ℕ) → r ≡ flag (is_marked marks i) → (get_or cl i 0 / 4 < length ws) × (get_or ou (get_or cl i 0 / 4) 0 + r ≤ length ws)
    place_fits r e = (at.1, counted_fits ws (is_marked marks) k h (get_or cl i 0 / 4) r at.1 at.0 e)

    pub place_turns : (r : ℕ) → r ≡ flag (is_marked marks i) → Counted ws (is_marked marks) i (set ou (get_or cl i 0 / 4) (get_or ou (get_or cl i 0 / 4) 0 + r))
    place_turns r e = counted_turns ws (is_marked marks) k h (get_or cl i 0 / 4) r at.1 at.0 e

pub tally_next : {ws marks ou : List ℕ} {i : ℕ} → Tally ws marks i ou → 0 < i → Counted ws (is_marked marks) (i - 1 + 1) ou
tally_next {ws} {marks} {ou} {i} k h = counts_next k.counted h

pub tally_ends : {ws marks cl ou : List ℕ} {i : ℕ} → Complete ws → Known ws 0 cl → Tally ws marks i ou → i ≤ 0 → Uses ws (is_marked marks) cl ou
tally_ends {ws} {marks} {cl} {ou} {i} complete known k h =
    let z : i ≡ 0 = omega arith in
    counted_ends ws (is_marked marks) complete known (subst (λ (n : ℕ). Counted ws (is_marked marks) n ou) z k.counted)

-- by the marks of the places outside arms
pub counted_outside :
    (ws cl old marks ou : List ℕ) → Marking ws (outside_at ws true) old marks → Uses ws (is_marked marks) cl ou → HasOutside ws true cl ou
unfolding is_marked
counted_outside ws cl old marks ou m u =
    record {
      long = u.long;
      outside_are = λ t i l op.
          u.each i l op
          ∙ same_places ws (is_marked marks) (outside_at ws true) i (length ws) (λ j h. ap (leb 1) (m.here j h) ∙ flag_back (outside_at ws true j));
    }

-- in the flat form nothing is counted
pub nothing_outside : (ws : List ℕ) (scoped : Bool) (cl ou : List ℕ) → scoped ≡ false → length ws ≤ length ou → HasOutside ws scoped cl ou
nothing_outside ws true cl ou e h = absurd (let z : ◌≡◌ {A = ℕ} 0 1 = cc in omega arith)
nothing_outside ws false cl ou e h = record { long = h; outside_are = λ t i l op. absurd (let z : ◌≡◌ {A = ℕ} 0 1 = cc in omega arith) }
