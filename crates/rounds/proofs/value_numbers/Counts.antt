-- Counting by class, and giving every place what its class has. Assumes nothing.
use Prim.Native.Nat.{ℕ, zero, suc, ◌+◌, ◌*◌, ◌/◌, ◌≤◌, ◌<◌}
use native.Mathlib.Omega.{arith}
use mathlib.Core.Path.{◌≡◌, refl, sym, ◌∙◌, ap}
use mathlib.Core.Bool.{Bool, true, false, not, ◌&&◌}
use mathlib.Core.List.{List}
use borrow.Author.Tests.{eq-eqb, ne_eqb, eqb-true, eqb-false, le-leb, lt-leb}
use Rattle.std.specs.Int.{from_bool}
use lib.ListN.{length, get_or, set, length-set}
use lib.Dec.{eqb}
use Rattle.spec_tree.specs.Tokens.{flag}
use Rattle.rounds.specs.uses.Marks.{Complete, is_marked}
use Rattle.rounds.specs.value_numbers.Classes.{last_at, class_at, class_places}
use Rattle.rounds.specs.value_numbers.Tables.{Known, Reset, Counted, Uses}
use Rattle.rounds.proofs.value_numbers.Laws.{last_high}
use Rattle.rounds.proofs.value_numbers.Sides.{places_same, operation_class}
use Rattle.rounds.proofs.value_numbers.Chains.{at_set}

-- ---- counting

module _ (ws : List ℕ) (test : ℕ → Bool) where
  pub counted_starts : {old new : List ℕ} → length ws ≤ length old → Reset old (length ws) 0 new → Counted ws test (length ws) new
  counted_starts {old} {new} h k = record { long = omega (arith, k.long); each = λ c l. omega (arith, k.each c l) }

  -- no more places than there are
  pub places_few : (c n : ℕ) → class_places ws test c n ≤ n
  unfolding class_places
  places_few c zero = omega arith
  places_few c (suc n) = go (places_few c n) (test n && eqb (class_at ws n) (4 * c + 2))
    where
      go : class_places ws test c n ≤ n → (b : Bool) → elim b as (λ _. ℕ) [ true ↦ suc (class_places ws test c n) | false ↦ class_places ws test c n ] ≤ suc n
      go h true = omega arith
      go h false = omega arith

  one_more : (c i : ℕ) → class_at ws i ≡ 4 * c + 2 → class_places ws test c (suc i) ≡ class_places ws test c i + flag (test i)
  unfolding class_places flag
  one_more c i e = ap (λ (b : Bool). elim (test i && b) as (λ _. ℕ) [ true ↦ suc n | false ↦ n ]) (eq-eqb (class_at ws i) (4 * c + 2) e) ∙ go (test i)
    where
      n : ℕ
      n = class_places ws test c i

      go : (b : Bool) → elim (b && true) as (λ _. ℕ) [ true ↦ suc (class_places ws test c i) | false ↦ class_places ws test c i ] ≡ class_places ws test c i + flag b
      go true = omega arith
      go false = omega arith

  no_more : (c i : ℕ) → (class_at ws i ≡ 4 * c + 2 → ⊥) → class_places ws test c (suc i) ≡ class_places ws test c i
  unfolding class_places
  no_more c i ne = ap (λ (b : Bool). elim (test i && b) as (λ _. ℕ) [ true ↦ suc n | false ↦ n ]) (ne_eqb (class_at ws i) (4 * c + 2) ne) ∙ go (test i)
    where
      n : ℕ
      n = class_places ws test c i

      go : (b : Bool) → elim (b && false) as (λ _. ℕ) [ true ↦ suc (class_places ws test c i) | false ↦ class_places ws test c i ] ≡ class_places ws test c i
      go true = refl
      go false = refl

  -- an operation, whose place is c
  module _ {table : List ℕ} {j : ℕ} (t : Counted ws test (j + 1) table) (h : j < length ws) (c r : ℕ) (l : c < length ws) (is : class_at ws j ≡ 4 * c + 2) (e : r ≡ flag (test j)) where
    pub counted_turns : Counted ws test j (set table c (get_or table c 0 + r))
    counted_turns =
        let s : j + 1 ≡ suc j = omega arith in
        record {
          long = simp length-set t.long;
          each = λ q g.
              at_set (λ q x. q < length ws → x + class_places ws test q j ≡ class_places ws test q (length ws)) table c (get_or table c 0 + r) q (omega (arith, t.long))
              (λ z. omega (arith, t.each c z, one_more c j is, ap (class_places ws test c) s))
              (λ ne z. omega (arith, t.each q z, no_more q j (λ d. ne (omega (arith, d, is))), ap (class_places ws test q) s)) g;
        }

    pub counted_fits : get_or table c 0 + r ≤ length ws
    counted_fits =
        let s : j + 1 ≡ suc j = omega arith in
        omega (arith, t.each c l, one_more c j is, ap (class_places ws test c) s, places_few c (length ws))

  -- a leaf
  pub counted_leaf : {table : List ℕ} {j : ℕ} → Counted ws test (j + 1) table → ((c : ℕ) → class_at ws j ≡ 4 * c + 2 → ⊥) → Counted ws test j table
  counted_leaf {table} {j} t apart =
      let s : j + 1 ≡ suc j = omega arith in
      record { long = t.long; each = λ q g. omega (arith, t.each q g, no_more q j (apart q), ap (class_places ws test q) s) }

  none_before : (c : ℕ) → class_places ws test c 0 ≡ 0
  unfolding class_places
  none_before c = refl

  pub counted_ends : {cl table : List ℕ} → Complete ws → Known ws 0 cl → Counted ws test 0 table → Uses ws test cl table
  counted_ends {cl} {table} complete k t =
      record {
        long = t.long;
        each = λ i h op.
            let is = k.each i (omega arith) h in
            let c = operation_class ws complete i h op in
            let z : get_or cl i 0 / 4 ≡ last_at ws i = omega (arith, is, c) in
            ap (λ (p : ℕ). get_or table p 0) z
            ∙ (omega (arith, t.each (last_at ws i) (last_high ws i h), none_before (last_at ws i)) ∙ sym (places_same ws test i (length ws) (last_at ws i) h (omega arith) c));
      }

pub one_passes : 1 ≡ flag true
unfolding flag
one_passes = refl

-- 1 for a place that is marked
pub marked_flag : (marks : List ℕ) (i r : ℕ) → r ≡ from_bool (not (eqb (get_or marks i 0) 0)) → r ≡ flag (is_marked marks i)
unfolding flag is_marked
marked_flag marks i r e = e ∙ go (eqb (get_or marks i 0) 0) refl
  where
    go : (b : Bool) → eqb (get_or marks i 0) 0 ≡ b → from_bool (not b) ≡ flag (is_marked marks i)
    go true h = let z = eqb-true (get_or marks i 0) 0 h in sym (ap flag (lt-leb 1 (get_or marks i 0) (omega arith)))
    go false h = let z = eqb-false (get_or marks i 0) 0 h in sym (ap flag (le-leb 1 (get_or marks i 0) (omega arith)))
