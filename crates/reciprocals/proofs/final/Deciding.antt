-- What the order answers decides the end: all bindings are taken, and the entries in that order are the rows, or some aren't, and 11 is the refusal. Assumes nothing.
use Prim.Native.Nat.{ℕ, ◌+◌, ◌-◌, ◌*◌, ◌≤◌, ◌<◌}
use native.Mathlib.Omega.{arith}
use mathlib.Core.Path.{◌≡◌, refl, sym, ◌∙◌, ap, subst}
use mathlib.Core.Bool.{Bool, true, false}
use mathlib.Core.List.{List, reverse}
use borrow.Author.Tests.{eqb-true, eqb-false, le-leb}
use lib.Dec.{eqb}
use lib.ListN.{length, get_or, take, drop, replicate, length-reverse, length-replicate}
use lib.Seq.{take_at}
use Rattle.spec_tree.specs.Outcome.{refused, by}
use Rattle.spec_cse.specs.Order.{positions_taken}
use Rattle.topo_sort.specs.Needs.{table_of, room, all_or_ring, order_answer, order_written, Orders}
use Rattle.std.specs.Prelude.{Result, Ok, Err, ⊤}
use Rattle.topo_sort.specs.declared.OrderError.{OrderError}
use Rattle.topo_sort.specs.declared.OrderError.TheVariants as order_error
use Rattle.reciprocals.specs.final.Final.{final_rows}
use Rattle.reciprocals.specs.final.Entries.{entries}
use Rattle.reciprocals.specs.final.Ready.{Ready, marks, binding_run, final_order, InOrder, Positions, lent_rows}
use Rattle.reciprocals.proofs.final.Ending.{ring_rows, all_rows}
use Rattle.reciprocals.proofs.final.Taking.{there_is}
use Rattle.reciprocals.proofs.final.Marking.{marks_long}
use Rattle.reciprocals.proofs.final.Ordering.{bindings_count, marked_ring, marked_all, marked_positions}

-- ---- from the call of order

module _ (bits waiting stack taken : List ℕ) (count : ℕ) (few : count ≤ 1024) (more : 1024 ≤ length waiting) (deep : 1024 ≤ length stack)
    (lent : count ≤ length taken) where
  roomy : 32 * count ≤ length bits → room bits count waiting stack taken ≡ true
  unfolding room
  roomy wide =
      rw (le-leb count 2048 (omega arith))
      (rw (le-leb (32 * count) (length bits) wide)
      (rw (le-leb count (length waiting) (omega arith)) (rw (le-leb count (length stack) (omega arith)) (rw (le-leb count (length taken) lent) refl))))

  pub ordered_so :
      (k : ℕ) (places ws : List ℕ) (zeros : List ℕ) → zeros ≡ replicate (32 * count) 0 → bits ≡ marks (binding_run k places ws) count zeros → (r : Result ⊤ OrderError) (new_waiting new_stack new : List ℕ)
      → length new ≡ length taken → Orders bits count waiting stack taken r new_waiting new_stack new → InOrder (final_order k places ws count) count taken new r
  unfolding final_order
  ordered_so k places ws zeros z e r new_waiting new_stack new l o =
      let zeros_long : length zeros ≡ 32 * count = ap length z ∙ length-replicate (32 * count) 0 in
      let wide : 32 * count ≤ length bits = omega (arith, ap length e, marks_long (binding_run k places ws) count zeros, zeros_long) in
      let enough = roomy wide in
      let same : positions_taken (table_of bits count) ≡ positions_taken (table_of (marks (binding_run k places ws) count (replicate (32 * count) 0)) count) =
      ap (λ (t : List ℕ). positions_taken (table_of t count)) (e ∙ ap (λ (t : List ℕ). marks (binding_run k places ws) count t) z) in
      record {
        answer_is =
            o.answer_is
            ∙ (ap (λ (b : Bool). order_answer b count (positions_taken (table_of bits count))) enough ∙ ap (λ (l : List ℕ). order_answer true count l) same);
        taken_is =
            o.taken_is
            ∙ (ap (λ (b : Bool). order_written b (positions_taken (table_of bits count)) taken) enough ∙ ap (λ (l : List ℕ). order_written true l taken) same);
        inside = omega (arith, l, lent);
      }

-- ---- what it means

module _ (order : List ℕ) (count : ℕ) where
  all_means : Ok tt ≡ order_answer true count order → length order ≡ count
  unfolding order_answer
  all_means e = go (eqb (length order) count) refl e
    where
      go : (b : Bool) → eqb (length order) count ≡ b → Ok tt ≡ all_or_ring b (length order) → length order ≡ count
      go true q r = eqb-true (length order) count q
      go false q r = let z : ◌≡◌ {A = ℕ} 0 1 = cc in absurd (omega arith)

  ring_means : (n : ℕ) → Err (order_error.Ring n) ≡ order_answer true count order → length order ≡ count → ⊥
  unfolding order_answer
  ring_means n e = go (eqb (length order) count) refl e
    where
      go : (b : Bool) → eqb (length order) count ≡ b → Err (order_error.Ring n) ≡ all_or_ring b (length order) → length order ≡ count → ⊥
      go true q r = let z : ◌≡◌ {A = ℕ} 0 1 = cc in absurd (omega arith)
      go false q r = eqb-false (length order) count q

  never_broken : Err order_error.Broken ≡ order_answer true count order → ⊥
  unfolding order_answer
  never_broken e = go (eqb (length order) count) e
    where
      go : (b : Bool) → Err order_error.Broken ≡ all_or_ring b (length order) → ⊥
      go true r = let z : ◌≡◌ {A = ℕ} 0 1 = cc in omega arith
      go false r = let z : ◌≡◌ {A = ℕ} 0 1 = cc in omega arith

  front_is : (old new : List ℕ) → length order ≡ count → new ≡ order_written true order old → take count new ≡ reverse order
  unfolding order_written
  front_is old new h e = ap (take count) e ∙ take_at (reverse order) (drop (length order) old) count (length-reverse order ∙ h)

-- ---- the end

module _ {ws settled starts places : List ℕ} {k : ℕ} (ready : Ready ws settled starts places k) (count : ℕ) (many : count ≡ (length starts - k) + length places) where
  abbrev m : ℕ
  m = length starts

  abbrev order : List ℕ
  order = final_order k places ws count

  few : count ≤ 1024
  few = omega (arith, ready.numbers)

  -- `final-order` for a table of any length, which is that of a row for each binding
  abbrev order_of : ℕ → List ℕ
  order_of words = positions_taken (table_of (marks (binding_run k places ws) count (replicate words 0)) count)

  order_is : (words : ℕ) → words ≡ 32 * count → order_of words ≡ order
  unfolding final_order
  order_is words z = ap order_of z

  ring_by : (lent words : ℕ) → words ≡ 32 * count → (length order ≡ count → ⊥) → final_rows lent k places ws ≡ refused (by 11)
  ring_by lent words z h =
      ring_rows lent k m places ws ready.complete (there_is ready)
      (marked_ring k m places ws ready.complete (there_is ready) ready.enough count many few words z (λ e. h (ap length (sym (order_is words z)) ∙ e)))

  all_by :
      (lent words : ℕ) → words ≡ 32 * count → length order ≡ count
      → final_rows lent k places ws ≡ lent_rows lent (entries k places ws (reverse order) (length (reverse order) + k)) (m - k)
  all_by lent words z h =
      let c = ready.complete in
      let t = there_is ready in
      let e = order_is words z in
      let n = bindings_count k m places ws c t ready.enough count many few in
      all_rows lent k m places ws c t (reverse (order_of words)) (marked_all k m places ws c t ready.enough count many few words z (ap length e ∙ h))
      (λ q i. omega (arith, n, marked_positions k m places ws c t ready.enough count many few words z q i)) ready.enough
      ∙ ap (λ (l : List ℕ). lent_rows lent (entries k places ws (reverse l) (length (reverse l) + k)) (m - k)) e

  positions_by : (words : ℕ) → words ≡ 32 * count → (q : ℕ) → q < length (reverse order) → get_or (reverse order) q 0 < count
  positions_by words z =
      subst (λ (l : List ℕ). (q : ℕ) → q < length (reverse l) → get_or (reverse l) q 0 < count) (order_is words z)
      (marked_positions k m places ws ready.complete (there_is ready) ready.enough count many few words z)

  module _ (old new : List ℕ) (r : Result ⊤ OrderError) (o : InOrder (final_order k places ws count) count old new r) where
    pub settled_ring : (lent n : ℕ) → r ≡ Err (order_error.Ring n) → final_rows lent k places ws ≡ refused (by 11)
    settled_ring lent n e = ring_by lent (32 * count) refl (ring_means order count n (sym e ∙ o.answer_is))

    pub settled_never : r ≡ Err order_error.Broken → ⊥
    settled_never e = never_broken order count (sym e ∙ o.answer_is)

    module _ (e : r ≡ Ok tt) where
      all_taken : length order ≡ count
      all_taken = all_means order count (sym e ∙ o.answer_is)

      taken_is_front : take count new ≡ reverse order
      taken_is_front = front_is order count old new all_taken o.taken_is

      pub settled_all :
          (lent : ℕ) → final_rows lent k places ws ≡ lent_rows lent (entries k places ws (take count new) (length (take count new) + k)) (m - k)
      settled_all lent =
          all_by lent (32 * count) refl all_taken ∙ ap (λ (l : List ℕ). lent_rows lent (entries k places ws l (length l + k)) (m - k)) (sym taken_is_front)

      pub settled_positions : Positions (take count new) ((m - k) + length places)
      settled_positions =
          subst (λ (n : ℕ). Positions (take count new) n) many
          (subst (λ (l : List ℕ). Positions l count) (sym taken_is_front)
          (record { below = positions_by (32 * count) refl; few = omega (arith, length-reverse order, all_taken) }))
