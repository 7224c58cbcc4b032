-- What the order answers and leaves, where there is room and where there isn't. Assumes nothing.
use Rattle.std.specs.Prelude.{⊤, Result, Err}
use Prim.Native.Nat.{ℕ, ◌*◌, ◌≤◌}
use mathlib.Core.Path.{◌≡◌, refl, sym, ◌∙◌, ap, subst}
use mathlib.Core.Bool.{Bool, true, false, ◌&&◌}
use mathlib.Core.List.{List, ◌++◌, reverse}
use borrow.Author.Tests.{le-leb}
use lib.Dec.{T, eqb, leb, leb→le}
use lib.ListN.{length, drop}
use Rattle.spec_tree.proofs.Logic.{and_left, and_right}
use Rattle.spec_cse.specs.Order.{positions_taken}
use Rattle.topo_sort.specs.Needs.{table_of, room, all_or_ring, order_answer, order_written, Orders}
use Rattle.topo_sort.specs.Turns.{Taken}
use Rattle.topo_sort.specs.declared.OrderError.{OrderError}
use Rattle.topo_sort.specs.declared.OrderError.TheVariants as order_error

module _ (needs : List ℕ) (count : ℕ) (waiting stack taken : List ℕ) where
  -- what is lent is long enough
  pub record Enough : Type 0 where
    pub few : count ≤ 2048
    pub rows : 32 * count ≤ length needs
    pub wide : count ≤ length waiting
    pub deep : count ≤ length stack
    pub long : count ≤ length taken

  is_enough : T (room needs count waiting stack taken) → Enough
  unfolding room
  is_enough t =
      let b = leb count (length stack) && leb count (length taken) in
      let c = leb count (length waiting) && b in
      let d = leb (32 * count) (length needs) && c in
      let u = and_right (leb count 2048) d t in
      let v = and_right (leb (32 * count) (length needs)) c u in
      let w = and_right (leb count (length waiting)) b v in
      record {
        few = leb→le count 2048 (and_left (leb count 2048) d t);
        rows = leb→le (32 * count) (length needs) (and_left (leb (32 * count) (length needs)) c u);
        wide = leb→le count (length waiting) (and_left (leb count (length waiting)) b v);
        deep = leb→le count (length stack) (and_left (leb count (length stack)) (leb count (length taken)) w);
        long = leb→le count (length taken) (and_right (leb count (length stack)) (leb count (length taken)) w);
      }

  pub no_room : (Enough → ⊥) → Orders needs count waiting stack taken (Err order_error.Broken) waiting stack taken
  unfolding order_answer order_written
  no_room f = go (room needs count waiting stack taken) refl
    where
      go : (b : Bool) → room needs count waiting stack taken ≡ b → Orders needs count waiting stack taken (Err order_error.Broken) waiting stack taken
      go true e = absurd (f (is_enough (subst T (sym e) tt)))
      go false e = record { answer_is = rw e refl; taken_is = rw e refl; work_is = λ f. (refl, refl) }

  there_is : Enough → room needs count waiting stack taken ≡ true
  unfolding room
  there_is h =
      rw (le-leb count 2048 h.few, le-leb (32 * count) (length needs) h.rows, le-leb count (length waiting) h.wide, le-leb count (length stack) h.deep, le-leb count (length taken) h.long)
      refl

  module _ (h : Enough) (new_waiting new_stack new : List ℕ) (n : ℕ) (t : Taken (positions_taken (table_of needs count)) taken new n) where
    written : new ≡ order_written (room needs count waiting stack taken) (positions_taken (table_of needs count)) taken
    unfolding order_written
    written = rw (there_is h) (subst (λ (k : ℕ). new ≡ reverse (positions_taken (table_of needs count)) ++ drop k taken) t.many t.words)

    work : room needs count waiting stack taken ≡ false → (new_waiting ≡ waiting) × (new_stack ≡ stack)
    work e = absurd (subst T (sym (there_is h) ∙ e) tt)

    pub ordered : (r : Result ⊤ OrderError) → r ≡ all_or_ring (eqb n count) n → Orders needs count waiting stack taken r new_waiting new_stack new
    unfolding order_answer
    ordered r e = record { answer_is = rw (there_is h) (e ∙ ap (λ (k : ℕ). all_or_ring (eqb k count) k) t.many); taken_is = written; work_is = work }
