-- The table after the names of some words are marked in a row: a place of the row is yes where it was or where one of the words names its position, every other row
-- is as before, and so is the table's length; and so after the rows of several statements (01, "Order"). Assumes nothing.
use Prim.Native.Nat.{ℕ, zero, suc, ◌+◌, ◌-◌, ◌*◌, ◌/◌, ◌%◌, ◌≤◌, ◌<◌}
use native.Mathlib.Omega.{arith}
use mathlib.Core.Path.{◌≡◌, refl, sym, ◌∙◌, ap}
use mathlib.Core.Logic.{◌≢◌}
use mathlib.Core.Bool.{Bool, true, false, ◌&&◌, ◌||◌, cond}
use mathlib.Core.Option.{Option, none, some}
use mathlib.Core.List.{List, [], ◌∷◌, ◌++◌}
use borrow.Author.Tests.{eqb-true, eqb-false, ltb-true, ltb-false}
use lib.Dec.{eqb, leb, ltb}
use lib.ListN.{length}
use Rattle.words.specs.bits.Bits.{word_of, inside, yes, with_yes}
use Rattle.words.proofs.bits.BitLaws.{made_yes, kept_yes, no_outside, with_length, inside_of}
use Rattle.topo_sort.proofs.reads.MarkLaws.{or_false}
use Rattle.fusion.specs.place.Reads.{place_of, group_of, with_read, with_reads, marks_by}
use Rattle.spec_tree.proofs.Logic.{and_false, or_assoc, together}

-- ---- words that pass a test

unfoldable pub any : (ℕ → Bool) → List ℕ → Bool
any p [] = false
any p (w ∷ ws) = p w || any p ws

pub any_append : (p : ℕ → Bool) (a b : List ℕ) → any p (a ++ b) ≡ (any p a || any p b)
unfolding any
any_append p [] b = refl
any_append p (w ∷ a) b = ap (λ (t : Bool). p w || t) (any_append p a b) ∙ or_assoc (p w) (any p a) (any p b)

-- ---- positions, where there is one

-- whether it is this one
abbrev pub hit : Option ℕ → ℕ → Bool
hit none q = false
hit (some p) q = eqb p q

abbrev pub mark : Option ℕ → ℕ → List ℕ → List ℕ
mark none row table = table
mark (some p) row table = with_yes table row p

pub mark_length : (o : Option ℕ) (row : ℕ) (table : List ℕ) → length (mark o row table) ≡ length table
mark_length none row table = refl
mark_length (some p) row table = with_length table row p

mark_other : (o : Option ℕ) (row : ℕ) (table : List ℕ) (r q : ℕ) → r ≢ row → yes (mark o row table) r q ≡ yes table r q
mark_other none row table r q n = refl
mark_other (some p) row table r q n = kept_yes table row p r q (λ e. n e.0)

mark_yes : (o : Option ℕ) (row : ℕ) (table : List ℕ) (q : ℕ) → yes (mark o row table) row q ≡ (yes table row q || (inside (length table) row q && hit o q))
mark_yes none row table q =
    sym (ap (λ (b : Bool). yes table row q || b) (and_false (inside (length table) row q)) ∙ or_false (yes table row q))
mark_yes (some p) row table q = go (eqb p q) refl
  where
    or_true : (b : Bool) → true ≡ (b || true)
    or_true true = refl
    or_true false = refl

    same : (b : Bool) → inside (length table) row q ≡ b → yes (with_yes table row q) row q ≡ (yes table row q || (inside (length table) row q && true))
    same true h = made_yes table row q h ∙ (or_true (yes table row q) ∙ ap (λ (b : Bool). yes table row q || (b && true)) (sym h))
    same false h =
        sym (no_outside (with_yes table row q) row q (ap (λ (n : ℕ). inside n row q) (with_length table row q) ∙ h))
        ∙ (no_outside table row q h ∙ (sym (or_false (yes table row q)) ∙ ap (λ (b : Bool). yes table row q || (b && true)) (sym h)))

    go : (b : Bool) → eqb p q ≡ b → yes (with_yes table row p) row q ≡ (yes table row q || (inside (length table) row q && eqb p q))
    go true e =
        ap (λ (x : ℕ). yes (with_yes table row x) row q) (eqb-true p q e)
        ∙ (same (inside (length table) row q) refl ∙ ap (λ (b : Bool). yes table row q || (inside (length table) row q && b)) (sym e))
    go false e =
        kept_yes table row p row q (λ x. eqb-false p q e (sym x.1))
        ∙ sym (ap (λ (b : Bool). yes table row q || (inside (length table) row q && b)) e
        ∙ (ap (λ (b : Bool). yes table row q || b) (and_false (inside (length table) row q)) ∙ or_false (yes table row q)))

-- ---- the position of the statement that binds a word's name

module _ (first lets : ℕ) (numbers ends : List ℕ) where
  unfoldable pub position : ℕ → Option ℕ
  unfolding place_of group_of
  position w =
      cond (eqb (w % 192) 64 && (leb first (w / 192) && ltb (w / 192) (first + lets))) (some (w / 192 - first))
      (cond (eqb (w % 192) 128 && ltb (place_of (w / 192) 0 numbers) (length numbers)) (some (lets + group_of (place_of (w / 192) 0 numbers) 0 ends)) none)

  -- whether a word names a position
  unfoldable pub names_place : ℕ → ℕ → Bool
  unfolding position
  names_place q w = hit (position w) q

  read_marks : (w row : ℕ) (table : List ℕ) → with_read first lets numbers ends w row table ≡ mark (position w) row table
  unfolding with_read position
  read_marks w row table =
      go (eqb (w % 192) 64 && (leb first (w / 192) && ltb (w / 192) (first + lets))) (eqb (w % 192) 128 && ltb (place_of (w / 192) 0 numbers) (length numbers))
      (w / 192 - first) (lets + group_of (place_of (w / 192) 0 numbers) 0 ends)
    where
      go : (a b : Bool) (x y : ℕ) → cond a (with_yes table row x) (cond b (with_yes table row y) table) ≡ mark (cond a (some x) (cond b (some y) none)) row table
      go true b x y = refl
      go false true x y = refl
      go false false x y = refl

  reads_none : (row : ℕ) (table : List ℕ) → with_reads first lets numbers ends [] row table ≡ table
  unfolding with_reads
  reads_none row table = refl

  reads_cons : (w : ℕ) (ws : List ℕ) (row : ℕ) (table : List ℕ) → with_reads first lets numbers ends (w ∷ ws) row table ≡ with_reads first lets numbers ends ws row (mark (position w) row table)
  unfolding with_reads
  reads_cons w ws row table = ap (with_reads first lets numbers ends ws row) (read_marks w row table)

  pub reads_length : (ws : List ℕ) (row : ℕ) (table : List ℕ) → length (with_reads first lets numbers ends ws row table) ≡ length table
  reads_length [] row table = ap length (reads_none row table)
  reads_length (w ∷ ws) row table =
      ap length (reads_cons w ws row table) ∙ (reads_length ws row (mark (position w) row table) ∙ mark_length (position w) row table)

  -- the row itself
  pub reads_yes :
      (ws : List ℕ) (row : ℕ) (table : List ℕ) (q : ℕ)
      → yes (with_reads first lets numbers ends ws row table) row q ≡ (yes table row q || (inside (length table) row q && any (names_place q) ws))
  unfolding any names_place
  reads_yes [] row table q =
      ap (λ (t : List ℕ). yes t row q) (reads_none row table)
      ∙ sym (ap (λ (b : Bool). yes table row q || b) (and_false (inside (length table) row q)) ∙ or_false (yes table row q))
  reads_yes (w ∷ ws) row table q =
      let a = inside (length table) row q in
      let o = position w in
      let b = any (λ v. hit (position v) q) ws in
      ap (λ (t : List ℕ). yes t row q) (reads_cons w ws row table)
      ∙ (reads_yes ws row (mark o row table) q
      ∙ (ap (λ (n : ℕ). yes (mark o row table) row q || (inside n row q && b)) (mark_length o row table)
      ∙ (ap (λ (y : Bool). y || (a && b)) (mark_yes o row table q) ∙ together (yes table row q) a (hit o q) b)))

  -- every other row
  pub reads_other : (ws : List ℕ) (row : ℕ) (table : List ℕ) (r q : ℕ) → r ≢ row → yes (with_reads first lets numbers ends ws row table) r q ≡ yes table r q
  reads_other [] row table r q n = ap (λ (t : List ℕ). yes t r q) (reads_none row table)
  reads_other (w ∷ ws) row table r q n =
      ap (λ (t : List ℕ). yes t r q) (reads_cons w ws row table) ∙ (reads_other ws row (mark (position w) row table) r q n ∙ mark_other (position w) row table r q n)

  -- a row that was no throughout says whether a word names a position
  pub reads_fresh :
      (ws : List ℕ) (row : ℕ) (table : List ℕ) (q : ℕ) → yes table row q ≡ false → inside (length table) row q ≡ true
      → yes (with_reads first lets numbers ends ws row table) row q ≡ any (names_place q) ws
  reads_fresh ws row table q e h = reads_yes ws row table q ∙ rw (e, h) refl

  -- ---- statements one after another

  module _ (run : ℕ → List ℕ) where
    abbrev pub marks : ℕ → List ℕ → List ℕ
    marks = marks_by (λ p row t. with_reads first lets numbers ends (run p) row t)

    pub marks_long : (n : ℕ) (t : List ℕ) → length (marks n t) ≡ length t
    unfolding marks_by
    marks_long zero t = refl
    marks_long (suc n) t = reads_length (run n) n (marks n t) ∙ marks_long n t

    marks_after : (n : ℕ) (t : List ℕ) (j q : ℕ) → n ≤ j → yes (marks n t) j q ≡ yes t j q
    unfolding marks_by
    marks_after zero t j q h = refl
    marks_after (suc n) t j q h = reads_other (run n) n (marks n t) j q (λ e. omega arith) ∙ marks_after n t j q (omega arith)

    -- from a table that is all no
    module _ (t : List ℕ) (blank : (j q : ℕ) → yes t j q ≡ false) where
      pub marks_yes : (n : ℕ) → 32 * n ≤ length t → (j q : ℕ) → j < n → q < 2048 → yes (marks n t) j q ≡ any (names_place q) (run j)
      unfolding marks_by
      marks_yes zero g j q h k = absurd (omega arith)
      marks_yes (suc n) g j q h k = go (ltb j n) refl (λ i. marks_yes n (omega arith) j _ i k)
        where
          go : (b : Bool) → ltb j n ≡ b → (j < n → yes (marks n t) j q ≡ any (names_place q) (run j))
              → yes (with_reads first lets numbers ends (run n) n (marks n t)) j q ≡ any (names_place q) (run j)
          go true e earlier =
              let before : j < n = ltb-true j n e in
              reads_other (run n) n (marks n t) j q (λ x. omega arith) ∙ earlier before
          go false e earlier =
              let same : j ≡ n = omega (arith, ltb-false j n e) in
              let wide : word_of n q < length (marks n t) = omega (arith, marks_long n t) in
              ap (λ (x : ℕ). yes (with_reads first lets numbers ends (run n) n (marks n t)) x q) same
              ∙ (reads_fresh (run n) n (marks n t) q (marks_after n t n q (omega arith) ∙ blank n q) (inside_of (length (marks n t)) n q k wide)
              ∙ ap (λ (x : ℕ). any (names_place q) (run x)) (sym same))
