-- Entries counted and written one after another. Assumes nothing.
use Prim.Native.Nat.{ℕ, ◌+◌, ◌-◌, ◌*◌, ◌≤◌, ◌<◌}
use native.Mathlib.Omega.{arith}
use mathlib.Core.Path.{◌≡◌, refl, sym, ◌∙◌, ap, subst}
use mathlib.Core.List.{List, [], ◌∷◌, ◌++◌}
use lib.ListN.{length, take, drop, set, length-set}
use lib.Seq.{length-take-le}
use Rattle.words.proofs.words.Scanning.{Put, put_one, put_more, put_long}
use Rattle.reciprocals.specs.final.Entries.{final_run, entry_row, entry_tree, entry, entries}
use Rattle.reciprocals.specs.final.Ready.{Ready, Stands, Positions}
use Rattle.reciprocals.proofs.final.Rows.{tree_below, entry_long, entry_is, no_entries, one_more, more_long, entries_within}

-- ---- an entry's tree is there

pub tree_there :
    {ws settled starts places taken : List ℕ} {k : ℕ} (ready : Ready ws settled starts places k) (positions : Positions taken ((length starts - k) + length places)) (q : ℕ)
    → q < length taken + k → entry_tree taken k q < length starts + length places
tree_there {ws} {settled} {starts} {places} {taken} {k} ready positions q h =
    omega (arith, tree_below taken k q ((length starts - k) + length places) positions.below h, ready.enough)

module _ (k : ℕ) (places ws taken : List ℕ) where
  abbrev all : ℕ → List ℕ
  all q = entries k places ws taken q

  abbrev one : ℕ → List ℕ
  one q = entry k places ws taken q

  module _ (q i n : ℕ) (tree : List ℕ) (e : i ≡ entry_tree taken k q) (stands : Stands (final_run k places ws i) tree n) where
    here : Stands (final_run k places ws (entry_tree taken k q)) tree n
    here = subst (λ (x : ℕ). Stands (final_run k places ws x) tree n) e stands

    pub entry_counts : 1 + n ≡ length (entry k places ws taken q)
    entry_counts = omega (arith, entry_long k places ws taken q, here.many)

    pub entry_room :
        (row at : ℕ) (old : List ℕ) → at + length (entry k places ws taken q) ≤ length old → (at + 1) + length (take n tree) ≤ length (set old at row)
    entry_room row at old h = omega (arith, entry_counts, length-take-le n tree stands.inside, length-set old at row)

    pub entry_written :
        (row at : ℕ) (old out : List ℕ) → row ≡ entry_row taken q → at + length (entry k places ws taken q) ≤ length old → Put (set old at row) (at + 1) (take n tree) out
        → Put old at (entry k places ws taken q) out
    entry_written row at old out f h p =
        let l = entry_long k places ws taken q in
        let first = put_one old at row (omega arith) in
        let both : Put old at (row ∷ take n tree) out = put_more old at (row ∷ []) (take n tree) (set old at row) out (at + 1) (omega arith) (omega arith) first p in
        let same : row ∷ take n tree ≡ entry k places ws taken q =
        ap (λ (x : ℕ). x ∷ take n tree) f ∙ (ap (λ (r : List ℕ). entry_row taken q ∷ r) here.words ∙ sym (entry_is k places ws taken q)) in
        subst (λ (r : List ℕ). Put old at r out) same both

  -- ---- counted

  pub record Counting (rows q : ℕ) : Type 0 where
    pub most : q ≤ length taken + k
    pub count : rows ≡ length (entries k places ws taken q)
    pub small : rows ≤ 1027 * q

  pub count_begins : Counting 0 0
  count_begins = record { most = omega arith; count = sym (ap length (no_entries k places ws taken)); small = omega arith }

  pub count_turns : {rows q r : ℕ} → Counting rows q → q < length taken + k → (r ≡ length (entry k places ws taken q)) × (r ≤ 1027) → Counting (rows + r) (q + 1)
  count_turns {rows} {q} {r} c h e =
      record {
        most = omega arith;
        count = omega (arith, c.count, e.0, more_long k places ws taken q);
        small = omega (arith, c.small, e.1);
      }

  pub count_ends : {rows q : ℕ} → Counting rows q → length taken + k ≤ q → rows ≡ length (entries k places ws taken (length taken + k))
  count_ends {rows} {q} c h =
      let z : q ≡ length taken + k = omega (arith, c.most) in
      c.count ∙ ap (λ (x : ℕ). length (entries k places ws taken x)) z

  -- ---- written

  module _ (old : List ℕ) where
    pub record Writing (table : List ℕ) (at q : ℕ) : Type 0 where
      pub most : q ≤ length taken + k
      pub end : at ≡ length (entries k places ws taken q)
      pub put : Put old 0 (entries k places ws taken q) table
      pub long : length table ≡ length old

    pub write_begins : Writing old 0 0
    write_begins =
        record {
          most = omega arith;
          end = sym (ap length (no_entries k places ws taken));
          put = sym (ap (λ (l : List ℕ). take 0 old ++ (l ++ drop (0 + length l) old)) (no_entries k places ws taken));
          long = refl;
        }

    pub write_ends :
        {table : List ℕ} {at q : ℕ} → Writing table at q → length taken + k ≤ q
        → table ≡ entries k places ws taken (length taken + k) ++ drop (length (entries k places ws taken (length taken + k))) old
    write_ends {table} {at} {q} w h =
        let z : q ≡ length taken + k = omega (arith, w.most) in
        let e = entries k places ws taken (length taken + k) in
        let p : Put old 0 e table = subst (λ (x : ℕ). Put old 0 (entries k places ws taken x) table) z w.put in
        p ∙ ap (λ (x : ℕ). e ++ drop x old) (let y : 0 + length e ≡ length e = omega arith in y)

    module _ (fits : length (entries k places ws taken (length taken + k)) ≤ length old) where
      pub write_room : {table : List ℕ} {at q : ℕ} → Writing table at q → q < length taken + k → at + length (entry k places ws taken q) ≤ length table
      write_room {table} {at} {q} w h =
          omega (arith, w.end, w.long, fits, more_long k places ws taken q, entries_within k places ws taken (q + 1) (length taken + k) (omega arith))

      pub write_turns :
          {table : List ℕ} {at q : ℕ} → Writing table at q → q < length taken + k → (to : ℕ) (out : List ℕ)
          → (to ≡ at + length (entry k places ws taken q)) × Put table at (entry k places ws taken q) out → Writing out to (q + 1)
      write_turns {table} {at} {q} w h to out e =
          let m = more_long k places ws taken q in
          let r = write_room w h in
          let all_put =
          put_more old 0 (entries k places ws taken q) (entry k places ws taken q) table out at (omega (arith, w.end, w.long, r)) (omega (arith, w.end)) w.put e.1 in
          record {
            most = omega arith;
            end = omega (arith, w.end, e.0, m);
            put = subst (λ (l : List ℕ). Put old 0 l out) (sym (one_more k places ws taken q)) all_put;
            long = put_long table at (entry k places ws taken q) out r e.1 ∙ w.long;
          }
