-- The needs of the bindings marked one after another: each bit says whether a binding reads a name that another binds. Assumes nothing.
use Prim.Native.Nat.{ℕ, zero, suc, ◌+◌, ◌*◌, ◌%◌, ◌≤◌, ◌<◌}
use native.Mathlib.Omega.{arith}
use mathlib.Core.Path.{◌≡◌, refl, sym, ◌∙◌, ap}
use mathlib.Core.Bool.{Bool, true, false, ◌&&◌}
use mathlib.Core.List.{List, ◌∷◌}
use borrow.Author.Tests.{ltb-true, ltb-false}
use lib.Dec.{ltb}
use lib.ListN.{length, get_or, take, replicate, length-replicate, get_or-replicate}
use Rattle.words.specs.bits.Bits.{bit, word_of, inside, yes}
use Rattle.words.proofs.bits.BitLaws.{zero_bit, inside_of, is_in}
use Rattle.topo_sort.specs.reads.Marks.{holds_name, with_needs}
use Rattle.topo_sort.proofs.reads.MarkLaws.{needs_length, needs_fresh, other_rows}
use Rattle.reciprocals.specs.final.Entries.{final_run}
use Rattle.reciprocals.specs.final.Ready.{Stands, marks, binding_run}

-- ---- one binding

pub marked_one :
    (k j n : ℕ) (places ws out : List ℕ) → Stands (final_run k places ws (k + j)) out n → (bits : List ℕ)
    → with_needs (take n out) j bits ≡ with_needs (binding_run k places ws j) j bits
unfolding binding_run
marked_one k j n places ws out s bits = ap (λ (r : List ℕ). with_needs r j bits) s.words

-- ---- all

module _ (f : ℕ → List ℕ) where
  pub marks_none : (t : List ℕ) → marks f 0 t ≡ t
  unfolding marks
  marks_none t = refl

  pub marks_more : (n : ℕ) (t : List ℕ) → marks f (n + 1) t ≡ with_needs (f n) n (marks f n t)
  unfolding marks
  marks_more n t = ap (λ (x : ℕ). marks f x t) (let z : n + 1 ≡ suc n = omega arith in z)

  pub marks_long : (n : ℕ) (t : List ℕ) → length (marks f n t) ≡ length t
  unfolding marks
  marks_long zero t = refl
  marks_long (suc n) t = needs_length (f n) n (marks f n t) ∙ marks_long n t

  marks_after : (n : ℕ) (t : List ℕ) (j i : ℕ) → n ≤ j → yes (marks f n t) j i ≡ yes t j i
  unfolding marks
  marks_after zero t j i h = refl
  marks_after (suc n) t j i h = other_rows (f n) n (marks f n t) j i (λ e. omega arith) ∙ marks_after n t j i (omega arith)

  -- so far
  pub record Marked (old : List ℕ) (count : ℕ) (bits : List ℕ) (j : ℕ) : Type 0 where
    pub most : j ≤ count
    pub marked : bits ≡ marks f j old
    pub long : length bits ≡ length old

  pub marked_begins : (old : List ℕ) (count : ℕ) → Marked old count old 0
  marked_begins old count = record { most = omega arith; marked = sym (marks_none old); long = refl }

  pub marked_turns : {old : List ℕ} {count : ℕ} {bits : List ℕ} {j : ℕ} → Marked old count bits j → j < count → (new : List ℕ) → new ≡ with_needs (f j) j bits → Marked old count new (j + 1)
  marked_turns {old} {count} {bits} {j} s h new e =
      record {
        most = omega arith;
        marked = e ∙ (ap (with_needs (f j) j) s.marked ∙ sym (marks_more j old));
        long = ap length e ∙ (needs_length (f j) j bits ∙ s.long);
      }

  pub marked_ends : {old : List ℕ} {count : ℕ} {bits : List ℕ} {j : ℕ} → Marked old count bits j → count ≤ j → bits ≡ marks f count old
  marked_ends {old} {count} {bits} {j} s h = s.marked ∙ ap (λ (n : ℕ). marks f n old) (let z : j ≡ count = omega (arith, s.most) in z)

  -- from a table that is all no
  module _ (t : List ℕ) (none : (j i : ℕ) → yes t j i ≡ false) where
    pub marks_yes : (n : ℕ) → 32 * n ≤ length t → (j i : ℕ) → j < n → i < 2048 → yes (marks f n t) j i ≡ holds_name (f j) i
    unfolding marks
    marks_yes zero g j i h k = absurd (omega arith)
    marks_yes (suc n) g j i h k = go (ltb j n) refl (λ i. marks_yes n (omega arith) j _ i k)
      where
        go : (b : Bool) → ltb j n ≡ b → (j < n → yes (marks f n t) j i ≡ holds_name (f j) i) → yes (with_needs (f n) n (marks f n t)) j i ≡ holds_name (f j) i
        go true e earlier =
            let before : j < n = ltb-true j n e in
            other_rows (f n) n (marks f n t) j i (λ q. omega arith) ∙ earlier before
        go false e earlier =
            let same : j ≡ n = omega (arith, ltb-false j n e) in
            let wide : word_of n i < length (marks f n t) = omega (arith, marks_long n t) in
            ap (λ (x : ℕ). yes (with_needs (f n) n (marks f n t)) x i) same
            ∙ (needs_fresh (f n) n (marks f n t) i (marks_after n t n i (omega arith) ∙ none n i) (inside_of (length (marks f n t)) n i k wide)
            ∙ ap (λ (x : ℕ). holds_name (f x) i) (sym same))

-- ---- tables that are all no

-- the front of one
pub zeros_front : (n m : ℕ) → n ≤ m → take n (replicate m 0) ≡ replicate {A = ℕ} n 0
zeros_front zero m h = refl
zeros_front (suc n) zero h = absurd (omega arith)
zeros_front (suc n) (suc m) h = ap (λ (l : List ℕ). 0 ∷ l) (zeros_front n m (omega arith))

pub zeros_many : (n m : ℕ) → n ≤ m → n ≡ length (take n (replicate {A = ℕ} m 0))
zeros_many n m h = sym (ap length (zeros_front n m h) ∙ length-replicate n 0)

-- one of any length by its own
pub zeros_own : (m : ℕ) → replicate {A = ℕ} m 0 ≡ replicate (length (replicate {A = ℕ} m 0)) 0
zeros_own m = ap (λ (n : ℕ). replicate {A = ℕ} n 0) (sym (length-replicate {A = ℕ} m 0))

module _ (t : List ℕ) (none : t ≡ replicate (length t) 0) (n : ℕ) (h : n ≤ length t) where
  pub own_front : take n t ≡ replicate n 0
  own_front = ap (take n) none ∙ zeros_front n (length t) h

module _ (n : ℕ) where
  abbrev zeros : List ℕ
  zeros = replicate n 0

  zero_row : (r c : ℕ) → yes zeros r c ≡ false
  unfolding yes
  zero_row r c = go (inside (length zeros) r c) refl
    where
      go : (b : Bool) → inside (length zeros) r c ≡ b → (b && bit (get_or zeros (word_of r c) 0) (c % 64)) ≡ false
      go true e =
          let w = is_in (length zeros) r c e in
          let l : length zeros ≡ n = length-replicate n 0 in
          ap (λ (x : ℕ). bit x (c % 64)) (get_or-replicate n (word_of r c) 0 0 (omega (arith, w.1, l))) ∙ zero_bit (c % 64)
      go false e = refl

pub marked_yes :
    (f : ℕ → List ℕ) (words n : ℕ) → words ≡ 32 * n → (j i : ℕ) → j < n → i < 2048 → yes (marks f n (replicate words 0)) j i ≡ holds_name (f j) i
marked_yes f words n e = marks_yes f (replicate words 0) (λ j i. zero_row words j i) n (omega (arith, length-replicate {A = ℕ} words 0, e))
