-- The end of a scope: its statements in order and its values, or refusal 11 (01, "Scoped fusion", "Order"). Assumes nothing.
use Prim.Native.Nat.{ℕ, ◌+◌, ◌-◌, ◌*◌, ◌≤◌, ◌<◌}
use native.Mathlib.Omega.{arith}
use mathlib.Core.Path.{◌≡◌, refl, sym, ◌∙◌, ap, subst}
use mathlib.Core.Bool.{Bool, true, false}
use mathlib.Core.List.{List, [], ◌++◌, reverse}
use lib.ListN.{length, take, drop, replicate, length-append}
use lib.Seq.{take_at}
use lib.Dec.{eqb}
use borrow.Author.Tests.{eqb-true}
use Rattle.spec_tree.specs.Outcome.{Refusal, Outcome, ok, refused, by, ◌>>=◌}
use Rattle.spec_tree.specs.Rows.{Row}
use Rattle.spec_tree.specs.Tokens.{read, numbered}
use Rattle.spec_tree.proofs.TokenLaws.{complete_length}
use Rattle.spec_cse.specs.Order.{positions_taken}
use Rattle.laws.proofs.cse.OrderLaws.{taken_ok, all_get_d, all_turned}
use Rattle.topo_sort.specs.Needs.{table_of, all_or_ring}
use Rattle.std.specs.Prelude.{Result, Ok, Err, ⊤}
use Rattle.topo_sort.specs.declared.OrderError.{OrderError}
use Rattle.topo_sort.specs.declared.OrderError.TheVariants as order_error
use Rattle.fusion.specs.place.Overlay.{overlay}
use Rattle.fusion.specs.place.Parts.{place_groups, reciprocals_first}
use Rattle.fusion.specs.place.Whole.{Told, Walk, stmts_count, stmts_order, needs_table, stmts_runs, values_runs, ordered_scope}
use Rattle.cse_scoped.proofs.one_scope.Laying.{laid_exact, laid_append, laid_as}
use Rattle.laws.specs.positions.Names.{is_number}
use Rattle.scope_laws.proofs.sound.Bounds.{walk_bound}
use Rattle.cse_scoped.proofs.one_scope.Sound.{words_ok}
use Rattle.statements.specs.Prepared.{Prepared, order_told}
use Rattle.statements.proofs.Held.{first_number, lets_are, count_is}
use Rattle.cse_scoped.specs.one_scope.Answers.{scope_answer, Laid, ScopeLaid, told_rows}
use Rattle.cse_scoped.specs.one_scope.Frame.{most_rows, Holds, Positions, groups_told, grouped_scope, Numbered, scope_arms}
use Rattle.cse_scoped.specs.one_scope.Scoped.{Scoped}
use Rattle.cse_scoped.specs.one_scope.Scoped as scoped
use Rattle.cse_scoped.proofs.one_scope.Statements.{arms_are, by_test, by_no_test}
use Rattle.topo_sort.proofs.Left.{table_length}
use Rattle.fusion.proofs.groups.Groups.{ends_length}

-- ---- what a scope answers, from its outcome

abbrev pub ScopeDone : Outcome Told → ℕ → List ℕ → Scoped → List ℕ → Type 0
ScopeDone o at old r new = (r ≡ scope_answer o at) × ScopeLaid o at old new

pub scope_refused : (o : Outcome Told) (i : Refusal) → o ≡ refused i → (at : ℕ) (old : List ℕ) → ScopeDone o at old (scoped.Refused i.number) old
unfolding scope_answer
scope_refused o i e at old = subst (λ (o : Outcome Told). ScopeDone o at old (scoped.Refused i.number) old) (sym e) (refl, refl)

pub scope_ok : (o : Outcome Told) (t : Told) → o ≡ ok t → (at : ℕ) (old new : List ℕ) (place : ℕ) → place ≡ at + length t.words → Laid at t.words old new → ScopeDone o at old (scoped.Told place t.steps t.next t.extracted) new
unfolding scope_answer
scope_ok o t e at old new place p q =
    subst (λ (o : Outcome Told). ScopeDone o at old (scoped.Told place t.steps t.next t.extracted) new) (sym e) (ap (λ (j : ℕ). scoped.Told j t.steps t.next t.extracted) p, q)

pub ok_rows : (o : Outcome Told) (t : Told) → o ≡ ok t → told_rows o ≡ length t.words
unfolding told_rows
ok_rows o t e = ap told_rows e

-- ---- positions

pub order_inside : (ws : List ℕ) (k first : ℕ) (places numbers : List ℕ) → Positions (stmts_order ws k first places numbers) (stmts_count ws k first places numbers)
unfolding stmts_order
order_inside ws k first places numbers q h =
    let count = stmts_count ws k first places numbers in
    let bits = needs_table ws k first places numbers count (replicate (32 * count) 0) in
    let table = table_of bits count in
    omega (arith, table_length bits count, all_get_d (λ j. j < length table) (reverse (positions_taken table)) (all_turned (λ j. j < length table) (positions_taken table) [] (taken_ok table).inside tt) q h)

-- ---- the end

module _ (rows : List Row) (fuel left : ℕ) (ws : List ℕ) (k first : ℕ) (places held starts members ends numbers stops kept : List ℕ) (after extracted row : ℕ)
    (h : Holds rows (reciprocals_first ws k first places + length places) held) (p : Prepared ws k first places held starts members ends numbers)
    (nb : Numbered rows fuel left (reciprocals_first ws k first places + length places) held numbers stops kept after extracted) where
  abbrev order : List ℕ
  order = stmts_order ws k first places numbers

  abbrev count : ℕ
  count = stmts_count ws k first places numbers

  abbrev outcome : Outcome Told
  outcome = grouped_scope rows fuel left row ws k first places

  abbrev arms : List (List ℕ)
  arms = scope_arms rows fuel left ws k first places

  abbrev walk : Walk
  walk = record { numbers = numbers; arms = arms; next = after; extracted = extracted }

  walk_is : nb.sized.walk ≡ walk
  walk_is = λ i. record { numbers = sym nb.sized.numbers_are i; arms = sym (arms_are rows fuel left ws k first places held starts members ends numbers stops kept h p nb.sized) i; next = sym nb.after_is i; extracted = sym nb.extracted_is i }

  outcome_is : outcome ≡ ordered_scope row ws k first places walk
  unfolding grouped_scope
  outcome_is =
      ap (λ (z : List ℕ). groups_told rows fuel left (reciprocals_first ws k first places + length places) z >>= λ l. ordered_scope row ws k first places l) (sym p.held_is)
      ∙ (ap (λ (o : Outcome Walk). o >>= λ l. ordered_scope row ws k first places l) nb.sized.told ∙ ap (ordered_scope row ws k first places) walk_is)

  abbrev told : Told
  told = record {
    words = stmts_runs ws k first places numbers arms order count ++ values_runs ws k first places numbers row k;
    steps = count;
    next = after;
    extracted = (length (read numbered ws) - k) + extracted;
  }

  outcome_ok : eqb (length order) count ≡ true → outcome ≡ ok told
  unfolding ordered_scope
  outcome_ok e = outcome_is ∙ by_test (eqb (length order) count) (ok told) (refused (by 11)) e

  outcome_ring : eqb (length order) count ≡ false → outcome ≡ refused (by 11)
  unfolding ordered_scope
  outcome_ring e = outcome_is ∙ by_no_test (eqb (length order) count) (ok told) (refused (by 11)) e

  pub count_here : ((length starts - k) + length places) + length ends ≡ count
  count_here = omega (arith, count_is p, ap length p.ends_are ∙ ends_length 0 (place_groups held))

  pub extracted_low : extracted ≤ 4294967296
  unfolding groups_told
  extracted_low =
      let from = reciprocals_first ws k first places + length places in
      let b = walk_bound rows (is_number rows) fuel left from held h.good h.pass (words_ok rows from held h) (length (place_groups held)) (omega arith) nb.sized.walk nb.sized.told in
      let low : from ≤ 4294967296 = omega (arith, first_number p, lets_are p, count_is p, p.statements, p.low) in
      omega (arith, nb.extracted_is, b.made, b.most 4294967296 low (omega arith))

  made_here : length (read numbered ws) - k ≡ length starts - k
  made_here = ap (λ (j : ℕ). j - k) (complete_length numbered ws (length starts) p.complete)

  module _ (r : Result ⊤ OrderError) (taken taken' : List ℕ) (given : (r ≡ order_told order count) × (taken' ≡ order ++ drop (length order) taken)) (at : ℕ) (old : List ℕ) where
    abbrev By : Result ⊤ OrderError → Type 0
    By (Ok u) = eqb (length order) count ≡ true
    By (Err (order_error.Ring n)) = eqb (length order) count ≡ false
    By (Err order_error.Broken) = ⊥

    by_test_is : (b : Bool) → eqb (length order) count ≡ b → By (all_or_ring b (length order))
    by_test_is true e = e
    by_test_is false e = e

    by_answer : By r
    unfolding order_told
    by_answer = subst By (sym given.0) (by_test_is (eqb (length order) count) refl)

    is_ring : (e : OrderError) → By (Err e) → eqb (length order) count ≡ false
    is_ring (order_error.Ring n) b = b
    is_ring order_error.Broken b = absurd b

    -- there is no order: it is never broken
    pub ring_done : (e : OrderError) → r ≡ Err e → ScopeDone outcome at old (scoped.Refused 11) old
    ring_done e f = scope_refused outcome (by 11) (outcome_ring (is_ring e (subst By f by_answer))) at old

    module _ (all : r ≡ Ok tt) where
      is_all : eqb (length order) count ≡ true
      is_all = subst By all by_answer

      long : length order ≡ count
      long = eqb-true (length order) count is_all

      pub taken_is : (n : ℕ) → n ≡ count → take n taken' ≡ order
      taken_is n e = ap (take n) given.1 ∙ take_at order (drop (length order) taken) n (long ∙ sym e)

      module _ (n : ℕ) (e : n ≡ count) (fits : at + told_rows outcome ≤ most_rows) where
        pub positions : Positions (take n taken') count
        positions = subst (λ (z : List ℕ). Positions z count) (sym (taken_is n e)) (order_inside ws k first places numbers)

        abbrev stmts : List ℕ → List ℕ
        stmts z = stmts_runs ws k first places numbers arms z (length z)

        abbrev values : List ℕ
        values = values_runs ws k first places numbers row k

        same : stmts (take n taken') ≡ stmts_runs ws k first places numbers arms order count
        same = ap stmts (taken_is n e) ∙ ap (stmts_runs ws k first places numbers arms order) long

        total : told_rows outcome ≡ length (stmts (take n taken')) + length values
        total = ok_rows outcome told (outcome_ok is_all) ∙ (length-append (stmts_runs ws k first places numbers arms order count) values ∙ ap (λ (z : List ℕ). length z + length values) (sym same))

        pub stmts_fit : at + length (stmts (take n taken')) ≤ most_rows
        stmts_fit = omega (arith, total)

        pub values_fit : (end : ℕ) → end ≡ at + length (stmts (take n taken')) → end + length values ≤ 9223372036854775808
        values_fit end q = omega (arith, total)

        pub all_done : (end : ℕ) (table : List ℕ) → (end ≡ at + length (stmts (take n taken'))) × Laid at (stmts (take n taken')) old table
            → (place : ℕ) (new : List ℕ) → (place ≡ end + length values) × (new ≡ overlay end values table) → (made : ℕ) → made ≡ (length starts - k) + extracted
            → ScopeDone outcome at old (scoped.Told place n after made) new
        all_done end table (q, w) place new (x, y) made m =
            subst (λ (j : ℕ). ScopeDone outcome at old (scoped.Told place j after made) new) (sym e)
            (subst (λ (j : ℕ). ScopeDone outcome at old (scoped.Told place count after j) new) (ap (λ (j : ℕ). j + extracted) made_here ∙ sym m)
            (scope_ok outcome told (outcome_ok is_all) at old new place
            (omega (arith, q, x, ap length same, length-append (stmts_runs ws k first places numbers arms order count) values))
            (laid_as at (stmts_runs ws k first places numbers arms order count ++ values) (stmts (take n taken') ++ values) old new (ap (λ (z : List ℕ). z ++ values) (sym same))
            (laid_append at (stmts (take n taken')) values old table new w end q (laid_exact end values table new y)))))

-- the same by an equal outcome
pub done_as : (o p : Outcome Told) → o ≡ p → (at : ℕ) (old : List ℕ) (r : Scoped) (new : List ℕ) → ScopeDone p at old r new → ScopeDone o at old r new
done_as o p e at old r new d = subst (λ (q : Outcome Told). ScopeDone q at old r new) (sym e) d
