-- The table after the names of some words are marked in a row: a place of the row is yes where it was or where its name is among the words, every other row is as
-- before, and so is the table's length. Assumes nothing.
use Prim.Native.Nat.{ℕ, ◌%◌}
use native.Mathlib.Omega.{arith}
use mathlib.Core.Path.{◌≡◌, refl, sym, ◌∙◌, ap}
use mathlib.Core.Logic.{◌≢◌}
use mathlib.Core.Bool.{Bool, true, false, ◌&&◌, ◌||◌}
use mathlib.Core.List.{List, [], ◌∷◌}
use borrow.Author.Tests.{eqb-true, eqb-false}
use lib.Dec.{eqb}
use lib.ListN.{length}
use Rattle.words.specs.bits.Bits.{inside, yes, with_yes}
use Rattle.words.proofs.bits.BitLaws.{made_yes, kept_yes, no_outside, with_length}
use Rattle.topo_sort.specs.reads.Marks.{name_word, number_of, holds_name, with_need, with_needs}
use Rattle.topo_sort.proofs.reads.Turns.{need_length, needs_cons, needs_none, name_marked, other_kept}
use Rattle.spec_tree.proofs.Logic.{and_false, together}

-- ---- words of names

pub holds_none : (i : ℕ) → holds_name [] i ≡ false
unfolding holds_name
holds_none i = refl

pub holds_cons : (w : ℕ) (ws : List ℕ) (i : ℕ) → holds_name (w ∷ ws) i ≡ (eqb w (name_word i) || holds_name ws i)
unfolding holds_name
holds_cons w ws i = refl

-- ---- tests

pub or_false : (b : Bool) → (b || false) ≡ b
or_false true = refl
or_false false = refl

-- ---- one word

module _ (w row : ℕ) (table : List ℕ) (i : ℕ) where
  -- the word is that of this name
  this_name : w ≡ name_word i → yes (with_need w row table) row i ≡ (yes table row i || (inside (length table) row i && true))
  this_name e = go (inside (length table) row i) refl
    where
      number_is : number_of w ≡ i
      number_is = omega arith

      marked : yes (with_need w row table) row i ≡ yes (with_yes table row i) row i
      marked = ap (λ (t : List ℕ). yes t row i) (sym (name_marked w row table (omega arith)) ∙ ap (with_yes table row) number_is)

      or_true : (b : Bool) → true ≡ (b || true)
      or_true true = refl
      or_true false = refl

      go : (b : Bool) → inside (length table) row i ≡ b → yes (with_need w row table) row i ≡ (yes table row i || (inside (length table) row i && true))
      go true q = marked ∙ (made_yes table row i q ∙ (or_true (yes table row i) ∙ ap (λ (b : Bool). yes table row i || (b && true)) (sym q)))
      go false q =
          marked
          ∙ (sym (no_outside (with_yes table row i) row i (ap (λ (n : ℕ). inside n row i) (with_length table row i) ∙ q))
          ∙ (no_outside table row i q ∙ (sym (or_false (yes table row i)) ∙ ap (λ (b : Bool). yes table row i || (b && true)) (sym q))))

  -- the word is another
  kept_as : (r : ℕ) → ((r ≡ row) × (w ≡ name_word i) → ⊥) → yes (with_need w row table) r i ≡ yes table r i
  kept_as r n = go (eqb (w % 192) 64) refl
    where
      go : (b : Bool) → eqb (w % 192) 64 ≡ b → yes (with_need w row table) r i ≡ yes table r i
      go true q =
          let h = eqb-true (w % 192) 64 q in
          ap (λ (t : List ℕ). yes t r i) (sym (name_marked w row table h))
          ∙ kept_yes table row (number_of w) r i (λ p. let e : w ≡ name_word i = omega (arith, h, p.1) in n (p.0, e))
      go false q = ap (λ (t : List ℕ). yes t r i) (sym (other_kept w row table (eqb-false (w % 192) 64 q)))

  one_yes : yes (with_need w row table) row i ≡ (yes table row i || (inside (length table) row i && eqb w (name_word i)))
  one_yes = go (eqb w (name_word i)) refl
    where
      go : (b : Bool) → eqb w (name_word i) ≡ b → yes (with_need w row table) row i ≡ (yes table row i || (inside (length table) row i && eqb w (name_word i)))
      go true q = this_name (eqb-true w (name_word i) q) ∙ ap (λ (b : Bool). yes table row i || (inside (length table) row i && b)) (sym q)
      go false q =
          kept_as row (λ p. eqb-false w (name_word i) q p.1)
          ∙ sym (ap (λ (b : Bool). yes table row i || (inside (length table) row i && b)) q
          ∙ (ap (λ (b : Bool). yes table row i || b) (and_false (inside (length table) row i)) ∙ or_false (yes table row i)))

-- ---- all words

pub needs_length : (ws : List ℕ) (row : ℕ) (table : List ℕ) → length (with_needs ws row table) ≡ length table
needs_length [] row table = ap length (needs_none row table)
needs_length (w ∷ ws) row table = ap length (needs_cons w ws row table) ∙ (needs_length ws row (with_need w row table) ∙ need_length w row table)

-- the row itself
pub needs_yes :
    (ws : List ℕ) (row : ℕ) (table : List ℕ) (i : ℕ)
    → yes (with_needs ws row table) row i ≡ (yes table row i || (inside (length table) row i && holds_name ws i))
needs_yes [] row table i =
    ap (λ (t : List ℕ). yes t row i) (needs_none row table)
    ∙ sym (ap (λ (b : Bool). yes table row i || (inside (length table) row i && b)) (holds_none i)
    ∙ (ap (λ (b : Bool). yes table row i || b) (and_false (inside (length table) row i)) ∙ or_false (yes table row i)))
needs_yes (w ∷ ws) row table i =
    let a = inside (length table) row i in
    ap (λ (t : List ℕ). yes t row i) (needs_cons w ws row table)
    ∙ (needs_yes ws row (with_need w row table) i
    ∙ (ap (λ (n : ℕ). yes (with_need w row table) row i || (inside n row i && holds_name ws i)) (need_length w row table)
    ∙ (ap (λ (b : Bool). b || (a && holds_name ws i)) (one_yes w row table i)
    ∙ (together (yes table row i) a (eqb w (name_word i)) (holds_name ws i) ∙ ap (λ (b : Bool). yes table row i || (a && b)) (sym (holds_cons w ws i))))))

-- every other row
pub other_rows : (ws : List ℕ) (row : ℕ) (table : List ℕ) (r i : ℕ) → r ≢ row → yes (with_needs ws row table) r i ≡ yes table r i
other_rows [] row table r i n = ap (λ (t : List ℕ). yes t r i) (needs_none row table)
other_rows (w ∷ ws) row table r i n =
    ap (λ (t : List ℕ). yes t r i) (needs_cons w ws row table)
    ∙ (other_rows ws row (with_need w row table) r i n ∙ kept_as w row table i r (λ p. n p.0))

-- a row that was no throughout says whether a name is among the words
pub needs_fresh :
    (ws : List ℕ) (row : ℕ) (table : List ℕ) (i : ℕ) → yes table row i ≡ false → inside (length table) row i ≡ true
    → yes (with_needs ws row table) row i ≡ holds_name ws i
needs_fresh ws row table i e h = needs_yes ws row table i ∙ rw (e, h) refl
