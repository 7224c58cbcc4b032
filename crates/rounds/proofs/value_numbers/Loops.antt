-- What the loops over a word's operands keep. Assumes nothing.
use Prim.Native.Nat.{ℕ, zero, suc, ◌+◌, ◌-◌, ◌*◌, ◌≤◌, ◌<◌}
use native.Mathlib.Omega.{arith}
use mathlib.Core.Path.{◌≡◌, refl, sym, ◌∙◌, ap}
use mathlib.Core.Bool.{Bool, true, false}
use mathlib.Core.List.{List, [], ◌∷◌}
use borrow.Author.Tests.{eq-eqb, ne_eqb}
use lib.ListN.{length, get_or}
use Rattle.spec_tree.specs.Bytes.{eq_bytes}
use Rattle.rounds.specs.value_numbers.Classes.{mixed, mixed_all}
use Rattle.rounds.specs.value_numbers.Walks.{below, Walk}

-- the first of some operands, and those after it
pub record First (fs cl : List ℕ) (p n : ℕ) : Type 0 where
  pub row : 4 * p < length fs
  pub place : p < length cl
  pub after : p + get_or fs (4 * p) 0 ≤ length cl
  pub rest : Walk fs cl (p + get_or fs (4 * p) 0) n

module _ (fs cl : List ℕ) where
  pub walk_first : (p left : ℕ) → Walk fs cl p left → 0 < left → First fs cl p (left - 1)
  unfolding Walk
  walk_first p zero w h = absurd (omega arith)
  walk_first p (suc n) w h =
      let z : suc n - 1 ≡ n = omega arith in
      record { row = w.0; place = w.1; after = w.2; rest = rw z w.3 }

  below_first : (p left : ℕ) → 0 < left → below fs cl p left ≡ get_or cl p 0 ∷ below fs cl (p + get_or fs (4 * p) 0) (left - 1)
  unfolding below
  below_first p zero h = absurd (omega arith)
  below_first p (suc n) h = let z : suc n - 1 ≡ n = omega arith in rw z

  below_none : (p left : ℕ) → left ≤ 0 → below fs cl p left ≡ []
  unfolding below
  below_none p zero h = refl
  below_none p (suc n) h = absurd (omega arith)

  -- ---- a key

  pub record Keying (w place count key p left : ℕ) : Type 0 where
    pub walk : Walk fs cl p left
    pub is : mixed_all key (below fs cl p left) ≡ mixed_all w (below fs cl place count)

  pub key_starts : (w place count : ℕ) → Walk fs cl place count → Keying w place count w place count
  key_starts w place count k = record { walk = k; is = refl }

  pub key_turns :
      {w place count key p left : ℕ} → Keying w place count key p left → 0 < left → (new : ℕ) → new ≡ mixed key (get_or cl p 0)
      → Keying w place count new (p + get_or fs (4 * p) 0) (left - 1)
  unfolding mixed_all
  key_turns {w} {place} {count} {key} {p} {left} k h new e =
      record { walk = (walk_first p left k.walk h).rest; is = rw e (sym (ap (mixed_all key) (below_first p left h)) ∙ k.is) }

  pub key_ends : {w place count key p left : ℕ} → Keying w place count key p left → left ≤ 0 → key ≡ mixed_all w (below fs cl place count)
  unfolding mixed_all
  key_ends {w} {place} {count} {key} {p} {left} k h = sym (ap (mixed_all key) (below_none p left h)) ∙ k.is

  -- ---- two runs of operands

  pub record Comparing (a b count p q left : ℕ) : Type 0 where
    pub one : Walk fs cl p left
    pub two : Walk fs cl q left
    pub is : eq_bytes (below fs cl p left) (below fs cl q left) ≡ eq_bytes (below fs cl a count) (below fs cl b count)

  pub comparing_starts : (a b count : ℕ) → Walk fs cl a count → Walk fs cl b count → Comparing a b count a b count
  comparing_starts a b count k l = record { one = k; two = l; is = refl }

  step_equal : (x y : ℕ) (l m : List ℕ) → x ≡ y → eq_bytes (x ∷ l) (y ∷ m) ≡ eq_bytes l m
  unfolding eq_bytes
  step_equal x y l m e = ap (λ (b : Bool). elim b as (λ _. Bool) [ true ↦ eq_bytes l m | false ↦ false ]) (eq-eqb x y e)

  step_differs : (x y : ℕ) (l m : List ℕ) → (x ≡ y → ⊥) → eq_bytes (x ∷ l) (y ∷ m) ≡ false
  unfolding eq_bytes
  step_differs x y l m e = ap (λ (b : Bool). elim b as (λ _. Bool) [ true ↦ eq_bytes l m | false ↦ false ]) (ne_eqb x y e)

  both_first :
      (p q left : ℕ) → 0 < left
      → eq_bytes (below fs cl p left) (below fs cl q left)
      ≡ eq_bytes (get_or cl p 0 ∷ below fs cl (p + get_or fs (4 * p) 0) (left - 1)) (get_or cl q 0 ∷ below fs cl (q + get_or fs (4 * q) 0) (left - 1))
  both_first p q left h =
      ap (λ (l : List ℕ). eq_bytes l (below fs cl q left)) (below_first p left h)
      ∙ ap (eq_bytes (get_or cl p 0 ∷ below fs cl (p + get_or fs (4 * p) 0) (left - 1))) (below_first q left h)

  module _ {a b count p q left : ℕ} (k : Comparing a b count p q left) where
    pub comparing_turns :
        0 < left → get_or cl p 0 ≡ get_or cl q 0 → Comparing a b count (p + get_or fs (4 * p) 0) (q + get_or fs (4 * q) 0) (left - 1)
    comparing_turns h e =
        let l = below fs cl (p + get_or fs (4 * p) 0) (left - 1) in
        let m = below fs cl (q + get_or fs (4 * q) 0) (left - 1) in
        record {
          one = (walk_first p left k.one h).rest;
          two = (walk_first q left k.two h).rest;
          is = sym (both_first p q left h ∙ step_equal (get_or cl p 0) (get_or cl q 0) l m e) ∙ k.is;
        }

    pub comparing_stops : 0 < left → (get_or cl p 0 ≡ get_or cl q 0 → ⊥) → false ≡ eq_bytes (below fs cl a count) (below fs cl b count)
    comparing_stops h e =
        let l = below fs cl (p + get_or fs (4 * p) 0) (left - 1) in
        let m = below fs cl (q + get_or fs (4 * q) 0) (left - 1) in
        sym (both_first p q left h ∙ step_differs (get_or cl p 0) (get_or cl q 0) l m e) ∙ k.is

    pub comparing_ends : left ≤ 0 → true ≡ eq_bytes (below fs cl a count) (below fs cl b count)
    unfolding eq_bytes
    comparing_ends h = sym (ap (λ (l : List ℕ). eq_bytes l (below fs cl q left)) (below_none p left h) ∙ ap (eq_bytes []) (below_none q left h)) ∙ k.is
