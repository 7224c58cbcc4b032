-- The statement that a word's name is bound by, marked, and those of all words one after another. Assumes nothing.
use Prim.Native.Nat.{ℕ, ◌+◌, ◌-◌, ◌/◌, ◌%◌, ◌≤◌, ◌<◌}
use native.Mathlib.Omega.{arith}
use mathlib.Core.Path.{◌≡◌, refl, sym, ◌∙◌, ap}
use mathlib.Core.Bool.{Bool, true, false, ◌&&◌, cond}
use mathlib.Core.List.{List, [], ◌∷◌, ◌++◌}
use borrow.Author.Tests.{eq-eqb, ne_eqb, lt-ltb, le-ltb, le-leb, lt-leb}
use lib.Dec.{eqb, leb, ltb}
use lib.ListN.{length, get_or, drop, drop_of_length-le}
use Rattle.words.specs.bits.Bits.{with_yes}
use Rattle.words.proofs.bits.BitLaws.{with_length, with_outside, outside_column}
use Rattle.fusion.specs.place.Reads.{place_of, group_of, with_read, with_reads}
use Rattle.fusion.specs.scopeneeds.Marked.{with_let, with_match}
use Rattle.spec_tree.proofs.Lists.{place_is}

-- ---- a let

module _ (first lets n row : ℕ) (table : List ℕ) where
  pub let_before : n < first → table ≡ with_let first lets n row table
  unfolding with_let
  let_before h = rw (lt-leb first n h) refl

  module _ (from : first ≤ n) where
    pub let_past : lets ≤ n - first → table ≡ with_let first lets n row table
    unfolding with_let
    let_past h = let p : first + lets ≤ n = omega arith in rw (le-leb first n from, le-ltb n (first + lets) p) refl

    pub let_there : n - first < lets → with_yes table row (n - first) ≡ with_let first lets n row table
    unfolding with_let
    let_there h = let p : n < first + lets = omega arith in rw (le-leb first n from, lt-ltb n (first + lets) p) refl

-- ---- a match

module _ (lets : ℕ) (numbers ends : List ℕ) (n row : ℕ) (table : List ℕ) where
  pub match_none : length numbers ≤ place_of n 0 numbers → table ≡ with_match lets numbers ends n row table
  unfolding with_match
  match_none h = rw (le-ltb (place_of n 0 numbers) (length numbers) h) refl

  module _ (here : place_of n 0 numbers < length numbers) where
    pub match_there : (g : ℕ) → g ≡ group_of (place_of n 0 numbers) 0 ends → with_yes table row (lets + g) ≡ with_match lets numbers ends n row table
    unfolding with_match
    match_there g e = ap (λ (k : ℕ). with_yes table row (lets + k)) e ∙ rw (lt-ltb (place_of n 0 numbers) (length numbers) here) refl

    -- past the places of a row
    pub match_outside : 2048 ≤ lets → table ≡ with_match lets numbers ends n row table
    match_outside h =
        let g = group_of (place_of n 0 numbers) 0 ends in
        with_outside table row (lets + g) (sym (outside_column (length table) row (lets + g) (omega (arith, h)))) ∙ match_there g refl

-- ---- one word

module _ (first lets : ℕ) (numbers ends : List ℕ) (w row : ℕ) (table : List ℕ) where
  pub read_let : w % 192 ≡ 64 → with_let first lets (w / 192) row table ≡ with_read first lets numbers ends w row table
  unfolding with_read with_let
  read_let h = let ne : w % 192 ≡ 128 → ⊥ = λ e. omega (arith, e, h) in rw (eq-eqb (w % 192) 64 h, ne_eqb (w % 192) 128 ne) refl

  module _ (other : w % 192 ≡ 64 → ⊥) where
    pub read_match : w % 192 ≡ 128 → with_match lets numbers ends (w / 192) row table ≡ with_read first lets numbers ends w row table
    unfolding with_read with_match
    read_match h = rw (ne_eqb (w % 192) 64 other, eq-eqb (w % 192) 128 h) refl

    pub read_other : (w % 192 ≡ 128 → ⊥) → table ≡ with_read first lets numbers ends w row table
    unfolding with_read
    read_other h = rw (ne_eqb (w % 192) 64 other, ne_eqb (w % 192) 128 h) refl

  pub read_long : length (with_read first lets numbers ends w row table) ≡ length table
  unfolding with_read
  read_long =
      go (eqb (w % 192) 64 && (leb first (w / 192) && ltb (w / 192) (first + lets))) (eqb (w % 192) 128 && ltb (place_of (w / 192) 0 numbers) (length numbers))
    where
      go : (b c : Bool)
          → length (cond b (with_yes table row (w / 192 - first)) (cond c (with_yes table row (lets + group_of (place_of (w / 192) 0 numbers) 0 ends)) table)) ≡ length table
      go true c = with_length table row (w / 192 - first)
      go false true = with_length table row (lets + group_of (place_of (w / 192) 0 numbers) 0 ends)
      go false false = refl

-- ---- all words

module _ (first lets : ℕ) (numbers ends : List ℕ) where
  pub reads_none : (row : ℕ) (table : List ℕ) → with_reads first lets numbers ends [] row table ≡ table
  unfolding with_reads
  reads_none row table = refl

  pub reads_cons :
      (w : ℕ) (ws : List ℕ) (row : ℕ) (table : List ℕ)
      → with_reads first lets numbers ends (w ∷ ws) row table ≡ with_reads first lets numbers ends ws row (with_read first lets numbers ends w row table)
  unfolding with_reads
  reads_cons w ws row table = refl

  pub reads_append :
      (a b : List ℕ) (row : ℕ) (table : List ℕ)
      → with_reads first lets numbers ends (a ++ b) row table ≡ with_reads first lets numbers ends b row (with_reads first lets numbers ends a row table)
  reads_append [] b row table = ap (with_reads first lets numbers ends b row) (sym (reads_none row table))
  reads_append (w ∷ a) b row table =
      reads_cons w (a ++ b) row table
      ∙ (reads_append a b row (with_read first lets numbers ends w row table)
      ∙ ap (with_reads first lets numbers ends b row) (sym (reads_cons w a row table)))

  pub reads_long : (ws : List ℕ) (row : ℕ) (table : List ℕ) → length (with_reads first lets numbers ends ws row table) ≡ length table
  reads_long [] row table = ap length (reads_none row table)
  reads_long (w ∷ ws) row table =
      ap length (reads_cons w ws row table)
      ∙ (reads_long ws row (with_read first lets numbers ends w row table) ∙ read_long first lets numbers ends w row table)

  module _ (ws : List ℕ) (row : ℕ) (old : List ℕ) where
    pub record Reading (table : List ℕ) (i : ℕ) : Type 0 where
      pub within : i ≤ length ws
      pub long : length table ≡ length old
      pub marked : with_reads first lets numbers ends (drop i ws) row table ≡ with_reads first lets numbers ends ws row old

    module _ {table : List ℕ} {i : ℕ} (state : Reading table i) where
      pub read_turn : i < length ws → (new : List ℕ) → new ≡ with_read first lets numbers ends (get_or ws i 0) row table → Reading new (i + 1)
      read_turn here new e =
          record {
            within = omega arith;
            long = ap length e ∙ (read_long first lets numbers ends (get_or ws i 0) row table ∙ state.long);
            marked = ap (with_reads first lets numbers ends (drop (i + 1) ws) row) e
                ∙ (sym (ap (λ (l : List ℕ). with_reads first lets numbers ends l row table) (place_is ws i here) ∙ reads_cons (get_or ws i 0) (drop (i + 1) ws) row table)
                ∙ state.marked);
          }

      pub read_ends : length ws ≤ i → table ≡ with_reads first lets numbers ends ws row old
      read_ends h =
          sym (ap (λ (l : List ℕ). with_reads first lets numbers ends l row table) (drop_of_length-le ws h) ∙ reads_none row table) ∙ state.marked
