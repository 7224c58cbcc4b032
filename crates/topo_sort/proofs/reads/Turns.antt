-- Words marked one after another: what is so far, with the words to come, is the whole. Assumes nothing.
use Prim.Native.Nat.{ℕ, suc, ◌+◌, ◌%◌, ◌≤◌, ◌<◌}
use native.Mathlib.Omega.{arith}
use mathlib.Core.Path.{◌≡◌, refl, sym, ◌∙◌, ap}
use mathlib.Core.Bool.{Bool, true, false, ◌&&◌, cond}
use mathlib.Core.List.{List, [], ◌∷◌}
use borrow.Author.Tests.{eq-eqb, ne_eqb}
use lib.Dec.{eqb}
use lib.ListN.{length, get_or, drop, drop_of_length-le}
use lib.Seq.{drop-cons}
use Rattle.words.specs.bits.Bits.{inside, with_yes}
use Rattle.words.proofs.bits.BitLaws.{with_length}
use Rattle.topo_sort.specs.reads.Marks.{number_of, with_need, with_needs, place_inside, all_inside}
use Rattle.spec_tree.proofs.Logic.{and_false}

-- ---- one word

pub other_inside : (w row words : ℕ) → (w % 192 ≡ 64 → ⊥) → true ≡ place_inside w row words
unfolding place_inside
other_inside w row words h = rw (ne_eqb (w % 192) 64 h) refl

pub other_kept : (w row : ℕ) (table : List ℕ) → (w % 192 ≡ 64 → ⊥) → table ≡ with_need w row table
unfolding with_need
other_kept w row table h = rw (ne_eqb (w % 192) 64 h) refl

pub name_inside : (w row words : ℕ) → w % 192 ≡ 64 → inside words row (number_of w) ≡ place_inside w row words
unfolding place_inside
name_inside w row words h = rw (eq-eqb (w % 192) 64 h) refl

pub name_marked : (w row : ℕ) (table : List ℕ) → w % 192 ≡ 64 → with_yes table row (number_of w) ≡ with_need w row table
unfolding with_need
name_marked w row table h = rw (eq-eqb (w % 192) 64 h) refl

pub need_length : (w row : ℕ) (table : List ℕ) → length (with_need w row table) ≡ length table
unfolding with_need
need_length w row table = go (eqb (w % 192) 64)
  where
    go : (b : Bool) → length (cond b (with_yes table row (number_of w)) table) ≡ length table
    go true = with_length table row (number_of w)
    go false = refl

-- ---- all words

pub needs_cons : (w : ℕ) (ws : List ℕ) (row : ℕ) (table : List ℕ) → with_needs (w ∷ ws) row table ≡ with_needs ws row (with_need w row table)
unfolding with_needs
needs_cons w ws row table = refl

pub needs_none : (row : ℕ) (table : List ℕ) → with_needs [] row table ≡ table
unfolding with_needs
needs_none row table = refl

pub inside_cons : (w : ℕ) (ws : List ℕ) (row words : ℕ) → all_inside (w ∷ ws) row words ≡ (place_inside w row words && all_inside ws row words)
unfolding all_inside
inside_cons w ws row words = refl

pub inside_none : (row words : ℕ) → all_inside [] row words ≡ true
unfolding all_inside
inside_none row words = refl

and_true : (b : Bool) → (b && true) ≡ b
and_true true = refl
and_true false = refl

module _ (ws : List ℕ) (row : ℕ) (old : List ℕ) where
  pub record State (table : List ℕ) (all : Bool) (i : ℕ) : Type 0 where
    pub within : i ≤ length ws
    pub long : length table ≡ length old
    pub answer : (all && all_inside (drop i ws) row (length old)) ≡ all_inside ws row (length old)
    pub marked : with_needs (drop i ws) row table ≡ with_needs ws row old

  pub starts : State old true 0
  starts = record { within = omega arith; long = refl; answer = refl; marked = refl }

  module _ {table : List ℕ} {all : Bool} {i : ℕ} (state : State table all i) (here : i < length ws) where
    abbrev w : ℕ
    w = get_or ws i 0

    after : drop i ws ≡ w ∷ drop (i + 1) ws
    after = let z : suc i ≡ i + 1 = omega arith in drop-cons ws i 0 here ∙ ap (λ (k : ℕ). w ∷ drop k ws) z

    inside_now : (all && (place_inside w row (length old) && all_inside (drop (i + 1) ws) row (length old))) ≡ all_inside ws row (length old)
    inside_now =
        ap (λ (b : Bool). all && b) (sym (ap (λ (l : List ℕ). all_inside l row (length old)) after ∙ inside_cons w (drop (i + 1) ws) row (length old))) ∙ state.answer

    marked_now : (new : List ℕ) → new ≡ with_need w row table → with_needs (drop (i + 1) ws) row new ≡ with_needs ws row old
    marked_now new e =
        ap (with_needs (drop (i + 1) ws) row) e
        ∙ (sym (ap (λ (l : List ℕ). with_needs l row table) after ∙ needs_cons w (drop (i + 1) ws) row table) ∙ state.marked)

    long_now : (new : List ℕ) → new ≡ with_need w row table → length new ≡ length old
    long_now new e = ap length e ∙ (need_length w row table ∙ state.long)

    here_inside : place_inside w row (length table) ≡ place_inside w row (length old)
    here_inside = ap (place_inside w row) state.long

    pub turn_in : (new : List ℕ) → new ≡ with_need w row table → true ≡ place_inside w row (length table) → State new all (i + 1)
    turn_in new e h =
        record {
          within = omega arith;
          long = long_now new e;
          answer = ap (λ (b : Bool). all && (b && all_inside (drop (i + 1) ws) row (length old))) (h ∙ here_inside) ∙ inside_now;
          marked = marked_now new e;
        }

    pub turn_out : (new : List ℕ) → new ≡ with_need w row table → false ≡ place_inside w row (length table) → State new false (i + 1)
    turn_out new e h =
        record {
          within = omega arith;
          long = long_now new e;
          answer = sym (and_false all) ∙ (ap (λ (b : Bool). all && (b && all_inside (drop (i + 1) ws) row (length old))) (h ∙ here_inside) ∙ inside_now);
          marked = marked_now new e;
        }

  pub ends : {table : List ℕ} {all : Bool} {i : ℕ} → State table all i → length ws ≤ i → (all ≡ all_inside ws row (length old)) × (table ≡ with_needs ws row old)
  ends {table} {all} {i} state h =
      let none : drop i ws ≡ [] = drop_of_length-le ws h in (
        sym (and_true all) ∙ (ap (λ (b : Bool). all && b) (sym (ap (λ (l : List ℕ). all_inside l row (length old)) none ∙ inside_none row (length old))) ∙ state.answer),
        sym (ap (λ (l : List ℕ). with_needs l row table) none ∙ needs_none row table) ∙ state.marked,
      )
