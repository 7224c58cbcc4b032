-- `cse_scoped::one_scope::scope` and the functions of its cycle meet their contracts. A scope calls with one scope less that may be opened, and the others pass it on. Assumes nothing.
use native.Mathlib.Omega.{arith}
use mathlib.Core.Path.{◌≡◌, refl, sym, ◌∙◌, ap, subst}
use mathlib.Core.List.{List}
use lib.ListN.{length, take, drop, get_or}
use lib.Seq.{length-take-le}
use Rattle.fmt.specs.checked.Check.{rows_in}
use Rattle.laws.specs.switches.Switches.{arm_count}
use Rattle.laws.specs.switches.Columns.{column_words}
use Rattle.fusion.specs.place.Parts.{place_groups, reciprocals_first}
use Rattle.fusion.specs.place.Whole.{group_told, stmt_run}
use Rattle.cse_scoped.specs.one_scope.Answers.{scope_named, arms_named, walk_named, inner, Laid, arm_told, told_rows}
use Rattle.cse_scoped.specs.one_scope.Frame.{most_rows, ArmFits, ArmsFit, Sized, scope_arms, groups_told, grouped_scope}
use Rattle.cse_scoped.proofs.one_scope.Areas.{rest_long, rest_length, rest_front, front_kept, lent_rest, copied_words, holds_now, group_now, arm_now, readied_now, prepared_now, numbered_now, now_so, before_so, grouped_before, found_groups, found_none}
use Rattle.cse_scoped.proofs.one_scope.ArmLaws.{ArmDone, arm_ends, arm_stops, arms_begin, arms_go_on, arms_end_refused, arms_all}
use Rattle.cse_scoped.proofs.one_scope.Asking.{lent_on, column_scoped, column_fits, column_answers, steps_few, arm_too_deep, so_holds, so_fits, so_made, measure_fits, group_is}
use Rattle.cse_scoped.proofs.one_scope.Sound.{group_few, holds_later, all_few, held_whole}
use Rattle.cse_scoped.proofs.one_scope.WalkLaws.{walk_begin, walk_goes_on, walk_ends_refused, walk_all}
use Rattle.cse_scoped.proofs.one_scope.Walking.{ends_many, number_low, to_low, number_holds, made_low, end_long, end_within, group_here, answer_here, count_here}
use Rattle.cse_scoped.proofs.one_scope.Writing.{head_fits, all_fits, ends_within, members_few, start_under, start_within, number_small, part_group, part_holds, part_fits, match_done, match_never, match_past, kept_low, match_kept}
use Rattle.cse_scoped.proofs.one_scope.Statements.{rows_as, rows_exact, readied, grouped, lets_few, let_is, let_there, group_there, stop_in, stop_over, group_sized, number_holds as member_holds, match_is as stmt_match_is, stmts_begin, entry_fits, stmts_on, stmts_end}
use Rattle.cse_scoped.proofs.one_scope.Ending.{done_as, extracted_low, count_here as statements_here, ring_done, positions, stmts_fit, values_fit, all_done}
use Rattle.cse_scoped.proofs.one_scope.Beginning.{trees_listed, room_most, room_few, stops_enough, members_within, lets_small, from_low, holds_from, walk_refused, numbered_so, prepared_so, left_there, left_holds, held_whole as held_complete, switches_here, groups_short, ready_so, too_many_switches, too_many_stmts, outcome_is, whole_so, trees_enough, trees_few_here, places_short, words_whole, too_many, held_in, held_are, tokens_left, tokens_whole, tokens_inside, same_outcome}
use Rattle.cse_scoped.proofs.one_scope.Scoping.{words_short, too_deep, too_long, too_large, ten, words_in, places_in, left_so, scope_is, arm_too_many, left_now}
use borrow.Author.Rules.{rules}
use Prim.Native.Nat.{ℕ, ◌+◌, ◌-◌, ◌≤◌}
use Rattle.cse_scoped.proofs.one_scope.+scope.Goals as goal
use Rattle.cse_scoped.proofs.one_scope.+scope.Goals.{scope-then-fuel-eq0-via-then-fuel-eq0, scope-then-fuel-eq0-via-else-fuel-eq0+then-len-gt-MOST, scope-then-fuel-eq0-via-else-fuel-eq0+else-len-gt-MOST+then-next-gt-MOST_NUMBER}

pub arm-returns-then-fuel-eq0 : goal.arm-returns-then-fuel-eq0
arm-returns-then-fuel-eq0 t c = let a = c.args in
    record { value = arm_too_deep (rows_in a.rows.now) a.fuel (length a.work.now - a.h) a.next (take a.h a.work.now) a.group.now c.requires.lent.1 c.requires.is_group.0 a.a c.requires.is_group.1 c.if-fuel-eq0.true a.at a.table.now; work_unchanged = refl }

pub arm-copy_arm-requires : goal.arm-copy_arm-requires
arm-copy_arm-requires t c = let a = c.args in (c.requires.lent.0.inside, c.requires.is_group.0, c.requires.is_group.1, held_whole (rows_in a.rows.now) a.next (take a.h a.work.now) c.requires.lent.1)

pub arm-returns-in_default : goal.arm-returns-in_default
arm-returns-in_default t c = let a = c.args in
    record { value = arm_too_many (rows_in a.rows.now) a.fuel (length a.work.now - a.h) a.next (take a.h a.work.now) a.group.now a.a (omega (arith, c.if-fuel-eq0.false)) c.copy_arm.result _ c.copy_arm.ensures.0 c.in_default.is (rest_length a.h a.work.now _ c.copy_arm.auto.work) a.at a.table.now; work_unchanged = c.copy_arm.ensures.1 }

pub arm-scope-requires : goal.arm-scope-requires
arm-scope-requires t c = let a = c.args in (omega (arith, c.decreases), (column_scoped (rows_in a.rows.now) a.fuel (length a.work.now - a.h) a.next (take a.h a.work.now) a.group.now c.requires.lent.1 c.requires.is_group.0 a.a c.requires.is_group.1 a.at c.requires.arm_fits c.in-Some.n (take (length c.copy_arm.new.work - a.h) (drop a.h c.copy_arm.new.work)) (rest_long c.copy_arm.new.work a.h ∙ ap (λ (n : ℕ). n - a.h) c.copy_arm.auto.work) (rest_front c.copy_arm.new.work a.h c.in-Some.n (column_words (take a.h a.work.now) a.group.now a.a) (copied_words (column_words (take a.h a.work.now) a.group.now a.a) c.copy_arm.result (drop a.h c.copy_arm.new.work) c.copy_arm.ensures.0 c.in-Some.n c.in-Some.is).0), (lent_rest a.h c.in-Some.n a.work.now c.copy_arm.new.work a.text.now _ c.requires.lent.0 c.copy_arm.auto.work refl (copied_words (column_words (take a.h a.work.now) a.group.now a.a) c.copy_arm.result (drop a.h c.copy_arm.new.work) c.copy_arm.ensures.0 c.in-Some.n c.in-Some.is).1, column_fits (rows_in a.rows.now) a.fuel (length a.work.now - a.h) a.next (take a.h a.work.now) a.group.now c.requires.lent.1 c.requires.is_group.0 a.a c.requires.is_group.1 a.at c.requires.arm_fits c.in-Some.n (take (length c.copy_arm.new.work - a.h) (drop a.h c.copy_arm.new.work)) (rest_long c.copy_arm.new.work a.h ∙ ap (λ (n : ℕ). n - a.h) c.copy_arm.auto.work) (rest_front c.copy_arm.new.work a.h c.in-Some.n (column_words (take a.h a.work.now) a.group.now a.a) (copied_words (column_words (take a.h a.work.now) a.group.now a.a) c.copy_arm.result (drop a.h c.copy_arm.new.work) c.copy_arm.ensures.0 c.in-Some.n c.in-Some.is).0))))

pub arm-overflow_add-size : goal.arm-overflow_add-size
arm-overflow_add-size t c = let a = c.args in omega (arith, steps_few (rows_in a.rows.now) a.fuel (length a.work.now - a.h) a.next (take a.h a.work.now) a.group.now c.requires.lent.1 c.requires.is_group.0 a.a c.requires.is_group.1 a.at c.requires.arm_fits c.in-Some.n (take (length c.copy_arm.new.work - a.h) (drop a.h c.copy_arm.new.work)) (rest_long c.copy_arm.new.work a.h ∙ ap (λ (n : ℕ). n - a.h) c.copy_arm.auto.work) (rest_front c.copy_arm.new.work a.h c.in-Some.n (column_words (take a.h a.work.now) a.group.now a.a) (copied_words (column_words (take a.h a.work.now) a.group.now a.a) c.copy_arm.result (drop a.h c.copy_arm.new.work) c.copy_arm.ensures.0 c.in-Some.n c.in-Some.is).0) (scope_named c.scope.result) c.scope.ensures.0 _ _ _ _ (ap scope_named c.in_ok-scope.was), group_few (rows_in a.rows.now) a.next (take a.h a.work.now) a.group.now c.requires.lent.1 c.requires.is_group.0)

pub arm-overflow_mul-size : goal.arm-overflow_mul-size
arm-overflow_mul-size t c = let a = c.args in omega (arith, steps_few (rows_in a.rows.now) a.fuel (length a.work.now - a.h) a.next (take a.h a.work.now) a.group.now c.requires.lent.1 c.requires.is_group.0 a.a c.requires.is_group.1 a.at c.requires.arm_fits c.in-Some.n (take (length c.copy_arm.new.work - a.h) (drop a.h c.copy_arm.new.work)) (rest_long c.copy_arm.new.work a.h ∙ ap (λ (n : ℕ). n - a.h) c.copy_arm.auto.work) (rest_front c.copy_arm.new.work a.h c.in-Some.n (column_words (take a.h a.work.now) a.group.now a.a) (copied_words (column_words (take a.h a.work.now) a.group.now a.a) c.copy_arm.result (drop a.h c.copy_arm.new.work) c.copy_arm.ensures.0 c.in-Some.n c.in-Some.is).0) (scope_named c.scope.result) c.scope.ensures.0 _ _ _ _ (ap scope_named c.in_ok-scope.was), group_few (rows_in a.rows.now) a.next (take a.h a.work.now) a.group.now c.requires.lent.1 c.requires.is_group.0)

pub arm-overflow_add-size-2 : goal.arm-overflow_add-size-2
arm-overflow_add-size-2 t c = let a = c.args in omega (arith, steps_few (rows_in a.rows.now) a.fuel (length a.work.now - a.h) a.next (take a.h a.work.now) a.group.now c.requires.lent.1 c.requires.is_group.0 a.a c.requires.is_group.1 a.at c.requires.arm_fits c.in-Some.n (take (length c.copy_arm.new.work - a.h) (drop a.h c.copy_arm.new.work)) (rest_long c.copy_arm.new.work a.h ∙ ap (λ (n : ℕ). n - a.h) c.copy_arm.auto.work) (rest_front c.copy_arm.new.work a.h c.in-Some.n (column_words (take a.h a.work.now) a.group.now a.a) (copied_words (column_words (take a.h a.work.now) a.group.now a.a) c.copy_arm.result (drop a.h c.copy_arm.new.work) c.copy_arm.ensures.0 c.in-Some.n c.in-Some.is).0) (scope_named c.scope.result) c.scope.ensures.0 _ _ _ _ (ap scope_named c.in_ok-scope.was), group_few (rows_in a.rows.now) a.next (take a.h a.work.now) a.group.now c.requires.lent.1 c.requires.is_group.0)

pub arm-returns : goal.arm-returns
arm-returns t c = let a = c.args in
    record { value = arm_ends (inner (rows_in a.rows.now) a.fuel (length a.work.now - a.h)) (take a.h a.work.now) a.group.now a.next a.a a.at a.table.now (scope_named c.scope.result) _ (column_answers (rows_in a.rows.now) a.fuel (length a.work.now - a.h) a.next (take a.h a.work.now) a.group.now a.a a.at a.table.now c.in-Some.n (take (length c.copy_arm.new.work - a.h) (drop a.h c.copy_arm.new.work)) (rest_long c.copy_arm.new.work a.h ∙ ap (λ (n : ℕ). n - a.h) c.copy_arm.auto.work) (rest_front c.copy_arm.new.work a.h c.in-Some.n (column_words (take a.h a.work.now) a.group.now a.a) (copied_words (column_words (take a.h a.work.now) a.group.now a.a) c.copy_arm.result (drop a.h c.copy_arm.new.work) c.copy_arm.ensures.0 c.in-Some.n c.in-Some.is).0) (scope_named c.scope.result) _ c.scope.ensures) _ _ _ _ (ap scope_named c.in_ok-scope.was) _ c.put_word.ensures; work_unchanged = front_kept c.copy_arm.new.work c.scope.new.work a.h (omega (arith, c.requires.lent.0.inside, c.copy_arm.auto.work)) ∙ c.copy_arm.ensures.1 }

pub arm-returns-in_err-scope-clause-value : goal.arm-returns-in_err-scope-clause-value
arm-returns-in_err-scope-clause-value t c = let a = c.args in
    let e = arm_stops (inner (rows_in a.rows.now) a.fuel (length a.work.now - a.h)) (take a.h a.work.now) a.group.now a.next a.a a.at a.table.now (scope_named c.scope.result) _ (column_answers (rows_in a.rows.now) a.fuel (length a.work.now - a.h) a.next (take a.h a.work.now) a.group.now a.a a.at a.table.now c.in-Some.n (take (length c.copy_arm.new.work - a.h) (drop a.h c.copy_arm.new.work)) (rest_long c.copy_arm.new.work a.h ∙ ap (λ (n : ℕ). n - a.h) c.copy_arm.auto.work) (rest_front c.copy_arm.new.work a.h c.in-Some.n (column_words (take a.h a.work.now) a.group.now a.a) (copied_words (column_words (take a.h a.work.now) a.group.now a.a) c.copy_arm.result (drop a.h c.copy_arm.new.work) c.copy_arm.ensures.0 c.in-Some.n c.in-Some.is).0) (scope_named c.scope.result) _ c.scope.ensures) _ (ap scope_named c.in_err-scope.was) in
    search rules

pub arm-returns-in_err-scope-clause-work_unchanged : goal.arm-returns-in_err-scope-clause-work_unchanged
arm-returns-in_err-scope-clause-work_unchanged t c = let a = c.args in front_kept c.copy_arm.new.work c.scope.new.work a.h (omega (arith, c.requires.lent.0.inside, c.copy_arm.auto.work)) ∙ c.copy_arm.ensures.1

pub arms-count_arms-count-requires : goal.arms-count_arms-count-requires
arms-count_arms-count-requires t c = let a = c.args in (c.requires.is_group, c.requires.lent.1.few, held_whole (rows_in a.rows.now) a.next (take a.h a.work.now) c.requires.lent.1)

pub arms-loop-a-init : goal.arms-loop-a-init
arms-loop-a-init t c = let a = c.args in record { done = arms_begin (inner (rows_in a.rows.now) a.fuel (length a.work.now - a.h)) (take a.h a.work.now) a.group.now a.next a.at a.table.now; held = refl }

pub arms-arm-requires : goal.arms-arm-requires
arms-arm-requires t c = let a = c.args in (omega (arith, c.decreases), ((lent_on a.h a.work.now a.text.now _ _ c.requires.lent.0 c.loop-a.auto.work c.loop-a.auto.text, holds_now a.h a.work.now c.loop-a.work c.loop-a.invariant.held (rows_in a.rows.now) _ (so_holds (rows_in a.rows.now) a.fuel (length a.work.now - a.h) a.next (take a.h a.work.now) a.group.now c.requires.lent.1 c.requires.is_group a.at a.table.now _ _ _ _ _ c.loop-a.invariant.done (omega (arith, c.count_arms-count.ensures, c.loop-a-test.true)))), ((group_now a.h a.work.now c.loop-a.work c.loop-a.invariant.held a.group.now c.requires.is_group, arm_now a.h a.work.now c.loop-a.work c.loop-a.invariant.held a.group.now c.loop-a.a (omega (arith, c.count_arms-count.ensures, c.loop-a-test.true))), now_so a.h a.work.now c.loop-a.work c.loop-a.invariant.held c.loop-a.auto.work (λ hs left. ArmFits (rows_in a.rows.now) a.fuel left hs a.group.now c.loop-a.number c.loop-a.a c.loop-a.end) (so_fits (rows_in a.rows.now) a.fuel (length a.work.now - a.h) a.next (take a.h a.work.now) a.group.now c.requires.lent.1 c.requires.is_group a.at a.table.now _ _ _ _ _ c.loop-a.invariant.done (omega (arith, c.count_arms-count.ensures, c.loop-a-test.true)) c.requires.arms_fit.0))))

pub arms-returns-in_err-more-clause-value : goal.arms-returns-in_err-more-clause-value
arms-returns-in_err-more-clause-value t c = let a = c.args in
    let e = arms_end_refused (inner (rows_in a.rows.now) a.fuel (length a.work.now - a.h)) (take a.h a.work.now) a.group.now a.next a.at a.table.now _ _ _ _ _ c.loop-a.invariant.done (arms_named c.arm.result) _ (before_so a.h a.work.now c.loop-a.work c.loop-a.invariant.held c.loop-a.auto.work (λ hs left. ArmDone (arm_told (inner (rows_in a.rows.now) a.fuel left) hs a.group.now c.loop-a.number c.loop-a.a) c.loop-a.end c.loop-a.table (arms_named c.arm.result) c.arm.new.table) c.arm.ensures.value) (arm_count (take a.h a.work.now) (get_or a.group.now 0 0)) (omega (arith, c.count_arms-count.ensures, c.loop-a-test.true)) _ (ap arms_named c.in_err-more.was) in
    search rules

pub arms-overflow_add-extracted : goal.arms-overflow_add-extracted
arms-overflow_add-extracted t c = let a = c.args in let g = arms_go_on (inner (rows_in a.rows.now) a.fuel (length a.work.now - a.h)) (take a.h a.work.now) a.group.now a.next a.at a.table.now _ _ _ _ _ c.loop-a.invariant.done (arms_named c.arm.result) _ (before_so a.h a.work.now c.loop-a.work c.loop-a.invariant.held c.loop-a.auto.work (λ hs left. ArmDone (arm_told (inner (rows_in a.rows.now) a.fuel left) hs a.group.now c.loop-a.number c.loop-a.a) c.loop-a.end c.loop-a.table (arms_named c.arm.result) c.arm.new.table) c.arm.ensures.value) _ _ _ (ap arms_named c.in_ok-more.was) in omega (arith, so_made (rows_in a.rows.now) a.fuel (length a.work.now - a.h) a.next (take a.h a.work.now) a.group.now c.requires.lent.1 c.requires.is_group a.at a.table.now _ _ _ _ _ g (omega (arith, c.count_arms-count.ensures, c.loop-a-test.true)))

pub arms-loop-a-preserved : goal.arms-loop-a-preserved
arms-loop-a-preserved t c = let a = c.args in record { done = arms_go_on (inner (rows_in a.rows.now) a.fuel (length a.work.now - a.h)) (take a.h a.work.now) a.group.now a.next a.at a.table.now _ _ _ _ _ c.loop-a.invariant.done (arms_named c.arm.result) _ (before_so a.h a.work.now c.loop-a.work c.loop-a.invariant.held c.loop-a.auto.work (λ hs left. ArmDone (arm_told (inner (rows_in a.rows.now) a.fuel left) hs a.group.now c.loop-a.number c.loop-a.a) c.loop-a.end c.loop-a.table (arms_named c.arm.result) c.arm.new.table) c.arm.ensures.value) _ _ _ (ap arms_named c.in_ok-more.was); held = c.arm.ensures.work_unchanged ∙ c.loop-a.invariant.held }

pub arms-returns : goal.arms-returns
arms-returns t c = let a = c.args in
    record { value = arms_all (inner (rows_in a.rows.now) a.fuel (length a.work.now - a.h)) (take a.h a.work.now) a.group.now a.next a.at a.table.now _ _ _ _ _ c.loop-a.invariant.done (arm_count (take a.h a.work.now) (get_or a.group.now 0 0)) (omega (arith, c.count_arms-count.ensures, c.loop-a.auto.a-end, c.loop-a-test.false)); work_unchanged = c.loop-a.invariant.held }

pub measure-overflow_add-first : goal.measure-overflow_add-first
measure-overflow_add-first t c = let a = c.args in omega (arith, c.requires.is_group.1, group_few (rows_in a.rows.now) a.next (take a.h a.work.now) a.group.now c.requires.lent.1 c.requires.is_group.0)

pub measure-arms-requires : goal.measure-arms-requires
measure-arms-requires t c = let a = c.args in (omega (arith, c.decreases), ((c.requires.lent.0, (holds_later (rows_in a.rows.now) a.next (a.next + length a.group.now) (take a.h a.work.now) (omega arith) c.requires.lent.1)), (c.requires.is_group.0, (measure_fits (rows_in a.rows.now) a.fuel (length a.work.now - a.h) (a.next + length a.group.now) (take a.h a.work.now) a.group.now (holds_later (rows_in a.rows.now) a.next (a.next + length a.group.now) (take a.h a.work.now) (omega arith) c.requires.lent.1) c.requires.is_group.0 a.at c.requires.is_group.2, omega (arith, c.requires.is_group.2)))))

pub measure-returns : goal.measure-returns
measure-returns t c = let a = c.args in
    record { value = group_is (rows_in a.rows.now) a.fuel (length a.work.now - a.h) a.next (take a.h a.work.now) a.group.now a.at _ _ _ c.arms.ensures.value; work_unchanged = c.arms.ensures.work_unchanged }

pub scope-returns-then-fuel-eq0 : goal.scope-returns-then-fuel-eq0
scope-returns-then-fuel-eq0 t c =
    let a = c.args in
    elim c.then-fuel-eq0.branch [
      | scope-then-fuel-eq0-via-then-fuel-eq0 w ↦ too_deep (rows_in a.rows.now) (length a.work.now) a.row a.next (take a.len a.work.now) a.at a.table.now a.fuel w.if-fuel-eq0.true
      | scope-then-fuel-eq0-via-else-fuel-eq0+then-len-gt-MOST w ↦ too_long (rows_in a.rows.now) (length a.work.now) a.row a.next (take a.len a.work.now) a.at a.table.now a.fuel (omega (arith, w.if-fuel-eq0.false)) (omega (arith, length-take-le a.len a.work.now c.requires.lent.inside, w.if-len-gt-MOST.true))
      | scope-then-fuel-eq0-via-else-fuel-eq0+else-len-gt-MOST+then-next-gt-MOST_NUMBER w ↦ too_large (rows_in a.rows.now) (length a.work.now) a.row a.next (take a.len a.work.now) a.at a.table.now a.fuel (omega (arith, w.if-fuel-eq0.false)) (omega (arith, w.if-next-gt-MOST_NUMBER.true))
    ]

pub scope_grouped-overflow_add-next : goal.scope_grouped-overflow_add-next
scope_grouped-overflow_add-next t c = let a = c.args in omega (arith, lets_small (rows_in a.rows.now) a.fuel (length a.work.now - a.h) a.row a.tokens.now a.results a.first a.places.now (take a.h a.work.now) a.starts.now a.members.now a.ends.now c.requires.lent.1 c.requires.ready.0)

pub scope_grouped-overflow_add-next-2 : goal.scope_grouped-overflow_add-next-2
scope_grouped-overflow_add-next-2 t c = let a = c.args in omega (arith, from_low (rows_in a.rows.now) a.fuel (length a.work.now - a.h) a.row a.tokens.now a.results a.first a.places.now (take a.h a.work.now) a.starts.now a.members.now a.ends.now c.requires.lent.1 c.requires.ready.0)

pub scope_grouped-walk-requires : goal.scope_grouped-walk-requires
scope_grouped-walk-requires t c = let a = c.args in (omega (arith, c.decreases), ((c.requires.lent.0, holds_from (rows_in a.rows.now) a.fuel (length a.work.now - a.h) a.row a.tokens.now a.results a.first a.places.now (take a.h a.work.now) a.starts.now a.members.now a.ends.now c.requires.lent.1 c.requires.ready.0), ((c.requires.ready.0.grouped, omega (arith, from_low (rows_in a.rows.now) a.fuel (length a.work.now - a.h) a.row a.tokens.now a.results a.first a.places.now (take a.h a.work.now) a.starts.now a.members.now a.ends.now c.requires.lent.1 c.requires.ready.0)), (c.requires.ready.1, c.requires.ready.2))))

pub scope_grouped-returns-in_err-walked : goal.scope_grouped-returns-in_err-walked
scope_grouped-returns-in_err-walked t c = let a = c.args in
    let e = walk_refused (rows_in a.rows.now) a.fuel (length a.work.now - a.h) a.row a.tokens.now a.results a.first a.places.now (take a.h a.work.now) a.starts.now a.members.now a.ends.now c.requires.lent.1 c.requires.ready.0 (walk_named c.walk.result) _ _ _ c.walk.ensures.value _ (ap walk_named c.in_err-walked.was) a.at a.table.now in
    search rules

pub scope_grouped-write_scope-requires : goal.scope_grouped-write_scope-requires
scope_grouped-write_scope-requires t c = let a = c.args in (omega (arith, c.decreases), ((lent_on a.h a.work.now a.text.now _ _ c.requires.lent.0 c.walk.auto.work c.walk.auto.text, holds_now a.h a.work.now _ c.walk.ensures.work_unchanged (rows_in a.rows.now) _ c.requires.lent.1), ((prepared_now a.h a.work.now _ c.walk.ensures.work_unchanged a.tokens.now a.results a.first a.places.now _ _ _ _ (prepared_so (rows_in a.rows.now) a.fuel (length a.work.now - a.h) a.row a.tokens.now a.results a.first a.places.now (take a.h a.work.now) a.starts.now a.members.now a.ends.now c.requires.lent.1 c.requires.ready.0 (walk_named c.walk.result) _ _ _ c.walk.ensures.value _ _ (ap walk_named c.in_ok-walked.was)), numbered_now a.h a.work.now _ c.walk.ensures.work_unchanged c.walk.auto.work (rows_in a.rows.now) a.fuel _ _ _ _ _ _ (numbered_so (rows_in a.rows.now) a.fuel (length a.work.now - a.h) a.row a.tokens.now a.results a.first a.places.now (take a.h a.work.now) a.starts.now a.members.now a.ends.now c.requires.lent.1 c.requires.ready.0 (walk_named c.walk.result) _ _ _ c.walk.ensures.value _ _ (ap walk_named c.in_ok-walked.was))), now_so a.h a.work.now _ c.walk.ensures.work_unchanged c.walk.auto.work (λ hs left. a.at + told_rows (grouped_scope (rows_in a.rows.now) a.fuel left a.row a.tokens.now a.results a.first a.places.now) ≤ most_rows) c.requires.places_bound)))

pub scope_grouped-returns : goal.scope_grouped-returns
scope_grouped-returns t c = let a = c.args in grouped_before a.h a.work.now _ c.walk.ensures.work_unchanged c.walk.auto.work (rows_in a.rows.now) a.fuel a.row a.tokens.now a.results a.first a.places.now a.at a.table.now (scope_named c.write_scope.result) _ c.write_scope.ensures

pub scope_held-scope_in-requires : goal.scope_held-scope_in-requires
scope_held-scope_in-requires t c = let a = c.args in (omega (arith, c.decreases), (c.requires.lent, (c.requires.tokens_value, (c.requires.places_bound, room_few (rows_in a.rows.now) a.tokens.now a.results a.first a.places.now c.requires.lent.1 (take a.h a.work.now) c.requires.tokens_value.1 a.trees c.requires.tokens_value.0 (omega (arith, length-take-le a.h a.work.now c.requires.lent.0.inside, c.if-h-le-FEW.true)) _ _ _ _ _ refl refl refl refl refl))))

pub scope_held-scope_in-requires-else-h-le-FEW : goal.scope_held-scope_in-requires-else-h-le-FEW
scope_held-scope_in-requires-else-h-le-FEW t c = let a = c.args in (omega (arith, c.decreases), (c.requires.lent, (c.requires.tokens_value, (c.requires.places_bound, room_most (rows_in a.rows.now) a.tokens.now a.results a.first a.places.now c.requires.lent.1 (take a.h a.work.now) c.requires.tokens_value.1 a.trees c.requires.tokens_value.0 _ _ _ _ _ refl refl refl refl refl))))

pub scope_in-group_all-requires : goal.scope_in-group_all-requires
scope_in-group_all-requires t c = let a = c.args in
    record { t = (held_complete (rows_in a.rows.now) a.tokens.now a.results a.first a.places.now c.requires.lent.1 (take a.h a.work.now) c.requires.tokens_value.1, omega (arith, (length-take-le a.h a.work.now c.requires.lent.0.inside), c.requires.lent.0.inside, c.requires.lent.0.words)); switch_room = (c.requires.room.switches, c.requires.room.members_as, c.requires.room.ends_as) }

pub scope_in-returns-in_default : goal.scope_in-returns-in_default
scope_in-returns-in_default t c = let a = c.args in too_many_switches (rows_in a.rows.now) a.fuel (length a.work.now) a.row a.tokens.now a.results a.first a.places.now (take a.h a.work.now) c.requires.tokens_value.1 (found_none (take a.h a.work.now) c.group_all.result _ _ c.group_all.ensures c.in_default.is) a.at a.table.now

pub scope_in-overflow_sub-trees : goal.scope_in-overflow_sub-trees
scope_in-overflow_sub-trees t c = let a = c.args in trees_enough (rows_in a.rows.now) a.fuel (length a.work.now) a.row a.tokens.now a.results a.first a.places.now c.requires.lent.1 a.trees c.requires.tokens_value.0

pub scope_in-overflow_add-trees : goal.scope_in-overflow_add-trees
scope_in-overflow_add-trees t c = let a = c.args in omega (arith, trees_few_here (rows_in a.rows.now) a.fuel (length a.work.now) a.row a.tokens.now a.results a.first a.places.now c.requires.lent.1 a.trees c.requires.tokens_value.0, places_short (rows_in a.rows.now) a.fuel (length a.work.now) a.row a.tokens.now a.results a.first a.places.now c.requires.lent.1 a.trees c.requires.tokens_value.0)

pub scope_in-overflow_add-trees-2 : goal.scope_in-overflow_add-trees-2
scope_in-overflow_add-trees-2 t c = let a = c.args in omega (arith, trees_few_here (rows_in a.rows.now) a.fuel (length a.work.now) a.row a.tokens.now a.results a.first a.places.now c.requires.lent.1 a.trees c.requires.tokens_value.0, places_short (rows_in a.rows.now) a.fuel (length a.work.now) a.row a.tokens.now a.results a.first a.places.now c.requires.lent.1 a.trees c.requires.tokens_value.0, groups_short (rows_in a.rows.now) a.tokens.now a.results a.first a.places.now c.requires.lent.1 (take a.h a.work.now) c.requires.tokens_value.1 _ _ _ _ (found_groups (take a.h a.work.now) c.group_all.result _ _ c.group_all.ensures _ c.in-Some.is) (omega (arith, c.group_all.auto.members, c.requires.room.members_as, c.requires.room.switches.most)))

pub scope_in-returns-then-trees-results-gt-MOST_STMTS : goal.scope_in-returns-then-trees-results-gt-MOST_STMTS
scope_in-returns-then-trees-results-gt-MOST_STMTS t c = let a = c.args in too_many_stmts (rows_in a.rows.now) a.fuel (length a.work.now) a.row a.tokens.now a.results a.first a.places.now (take a.h a.work.now) c.requires.tokens_value.1 a.trees c.requires.tokens_value.0 _ _ _ _ (found_groups (take a.h a.work.now) c.group_all.result _ _ c.group_all.ensures _ c.in-Some.is) (omega (arith, c.if-trees-results-gt-MOST_STMTS.true)) a.at a.table.now

pub scope_in-slice_bounds-scope_grouped-end : goal.scope_in-slice_bounds-scope_grouped-end
scope_in-slice_bounds-scope_grouped-end t c = let a = c.args in (omega (arith, trees_listed (rows_in a.rows.now) a.tokens.now a.results a.first a.places.now c.requires.lent.1 (take a.h a.work.now) c.requires.tokens_value.1 a.trees c.requires.tokens_value.0, c.requires.room.trees, c.list_trees.auto.starts))

pub scope_in-slice_bounds-scope_grouped-end-2 : goal.scope_in-slice_bounds-scope_grouped-end-2
scope_in-slice_bounds-scope_grouped-end-2 t c = let a = c.args in sym (length-take-le _ _ (omega (arith, trees_listed (rows_in a.rows.now) a.tokens.now a.results a.first a.places.now c.requires.lent.1 (take a.h a.work.now) c.requires.tokens_value.1 a.trees c.requires.tokens_value.0, c.requires.room.trees, c.list_trees.auto.starts)))

pub scope_in-slice_bounds-scope_grouped-end-3 : goal.scope_in-slice_bounds-scope_grouped-end-3
scope_in-slice_bounds-scope_grouped-end-3 t c = let a = c.args in (found_groups (take a.h a.work.now) c.group_all.result _ _ c.group_all.ensures _ c.in-Some.is).members_in

pub scope_in-slice_bounds-scope_grouped-end-4 : goal.scope_in-slice_bounds-scope_grouped-end-4
scope_in-slice_bounds-scope_grouped-end-4 t c = let a = c.args in sym (length-take-le _ _ (found_groups (take a.h a.work.now) c.group_all.result _ _ c.group_all.ensures _ c.in-Some.is).members_in)

pub scope_in-slice_bounds-scope_grouped-end-5 : goal.scope_in-slice_bounds-scope_grouped-end-5
scope_in-slice_bounds-scope_grouped-end-5 t c = let a = c.args in (found_groups (take a.h a.work.now) c.group_all.result _ _ c.group_all.ensures _ c.in-Some.is).ends_in

pub scope_in-slice_bounds-scope_grouped-end-6 : goal.scope_in-slice_bounds-scope_grouped-end-6
scope_in-slice_bounds-scope_grouped-end-6 t c = let a = c.args in sym (length-take-le _ _ (found_groups (take a.h a.work.now) c.group_all.result _ _ c.group_all.ensures _ c.in-Some.is).ends_in)

pub scope_in-scope_grouped-requires : goal.scope_in-scope_grouped-requires
scope_in-scope_grouped-requires t c = let a = c.args in (omega (arith, c.decreases), ((c.requires.lent.0, left_holds (rows_in a.rows.now) a.tokens.now a.results a.first a.places.now c.requires.lent.1 (take a.h a.work.now) c.requires.tokens_value.1 (omega (arith, (length-take-le a.h a.work.now c.requires.lent.0.inside), c.requires.lent.0.inside, c.requires.lent.0.words)) (switches_here (rows_in a.rows.now) a.tokens.now a.results a.first a.places.now c.requires.lent.1 (take a.h a.work.now) c.requires.tokens_value.1 _ _ _ _ (found_groups (take a.h a.work.now) c.group_all.result _ _ c.group_all.ensures _ c.in-Some.is) (omega (arith, c.group_all.auto.members, c.requires.room.members_as, c.requires.room.switches.most)))), ((ready_so (rows_in a.rows.now) a.tokens.now a.results a.first a.places.now c.requires.lent.1 (take a.h a.work.now) c.requires.tokens_value.1 a.trees c.requires.tokens_value.0 _ _ c.requires.room.trees c.list_trees.ensures.1 _ _ _ _ (found_groups (take a.h a.work.now) c.group_all.result _ _ c.group_all.ensures _ c.in-Some.is) (omega (arith, c.if-trees-results-gt-MOST_STMTS.false)), members_within (rows_in a.rows.now) a.tokens.now a.results a.first a.places.now c.requires.lent.1 (take a.h a.work.now) c.requires.tokens_value.1 _ _ _ _ (found_groups (take a.h a.work.now) c.group_all.result _ _ c.group_all.ensures _ c.in-Some.is) _ (omega (arith, c.group_all.auto.members, c.group_all.auto.switches, c.requires.room.members_as)), stops_enough (rows_in a.rows.now) a.tokens.now a.results a.first a.places.now c.requires.lent.1 (take a.h a.work.now) c.requires.tokens_value.1 _ _ _ _ (found_groups (take a.h a.work.now) c.group_all.result _ _ c.group_all.ensures _ c.in-Some.is) a.stops.now c.requires.room.stops_over (omega (arith, c.if-trees-results-gt-MOST_STMTS.false))), subst (λ o. a.at + told_rows o ≤ most_rows) (outcome_is (rows_in a.rows.now) a.fuel (length a.work.now) a.row a.tokens.now a.results a.first a.places.now (take a.h a.work.now) c.requires.tokens_value.1 a.trees c.requires.tokens_value.0 _ _ _ _ (found_groups (take a.h a.work.now) c.group_all.result _ _ c.group_all.ensures _ c.in-Some.is) (omega (arith, (length-take-le a.h a.work.now c.requires.lent.0.inside), c.requires.lent.0.inside)) (switches_here (rows_in a.rows.now) a.tokens.now a.results a.first a.places.now c.requires.lent.1 (take a.h a.work.now) c.requires.tokens_value.1 _ _ _ _ (found_groups (take a.h a.work.now) c.group_all.result _ _ c.group_all.ensures _ c.in-Some.is) (omega (arith, c.group_all.auto.members, c.requires.room.members_as, c.requires.room.switches.most))) (omega (arith, c.if-trees-results-gt-MOST_STMTS.false)) (length a.work.now - a.h) (omega (arith, (length-take-le a.h a.work.now c.requires.lent.0.inside)))) c.requires.places_bound)))

pub scope_in-returns : goal.scope_in-returns
scope_in-returns t c = let a = c.args in done_as _ _ (outcome_is (rows_in a.rows.now) a.fuel (length a.work.now) a.row a.tokens.now a.results a.first a.places.now (take a.h a.work.now) c.requires.tokens_value.1 a.trees c.requires.tokens_value.0 _ _ _ _ (found_groups (take a.h a.work.now) c.group_all.result _ _ c.group_all.ensures _ c.in-Some.is) (omega (arith, (length-take-le a.h a.work.now c.requires.lent.0.inside), c.requires.lent.0.inside)) (switches_here (rows_in a.rows.now) a.tokens.now a.results a.first a.places.now c.requires.lent.1 (take a.h a.work.now) c.requires.tokens_value.1 _ _ _ _ (found_groups (take a.h a.work.now) c.group_all.result _ _ c.group_all.ensures _ c.in-Some.is) (omega (arith, c.group_all.auto.members, c.requires.room.members_as, c.requires.room.switches.most))) (omega (arith, c.if-trees-results-gt-MOST_STMTS.false)) (length a.work.now - a.h) (omega (arith, (length-take-le a.h a.work.now c.requires.lent.0.inside)))) a.at a.table.now _ _ c.scope_grouped.ensures

pub scope_listed-tree_count-trees-requires : goal.scope_listed-tree_count-trees-requires
scope_listed-tree_count-trees-requires t c = let a = c.args in tokens_whole (rows_in a.rows.now) a.fuel (length a.work.now) a.row a.work.now a.used a.results a.first a.places.now c.requires.lent.0.inside c.requires.lent.1 _ _ c.requires.used_in_bounds c.put.ensures

pub scope_listed-overflow_sub-number : goal.scope_listed-overflow_sub-number
scope_listed-overflow_sub-number t c = let a = c.args in trees_enough (rows_in a.rows.now) a.fuel (length a.work.now) a.row _ a.results a.first a.places.now (tokens_left (rows_in a.rows.now) a.fuel (length a.work.now) a.row a.work.now a.used a.results a.first a.places.now c.requires.lent.0.inside c.requires.lent.1 _ _ c.requires.used_in_bounds c.put.ensures) c.tree_count-trees.result c.tree_count-trees.ensures

pub scope_listed-overflow_add-number : goal.scope_listed-overflow_add-number
scope_listed-overflow_add-number t c = let a = c.args in omega (arith, trees_few_here (rows_in a.rows.now) a.fuel (length a.work.now) a.row _ a.results a.first a.places.now (tokens_left (rows_in a.rows.now) a.fuel (length a.work.now) a.row a.work.now a.used a.results a.first a.places.now c.requires.lent.0.inside c.requires.lent.1 _ _ c.requires.used_in_bounds c.put.ensures) c.tree_count-trees.result c.tree_count-trees.ensures, (tokens_left (rows_in a.rows.now) a.fuel (length a.work.now) a.row a.work.now a.used a.results a.first a.places.now c.requires.lent.0.inside c.requires.lent.1 _ _ c.requires.used_in_bounds c.put.ensures).low)

pub scope_listed-hold_all-requires : goal.scope_listed-hold_all-requires
scope_listed-hold_all-requires t c = let a = c.args in
    record { t = (words_whole (rows_in a.rows.now) a.fuel (length a.work.now) a.row _ a.results a.first a.places.now (tokens_left (rows_in a.rows.now) a.fuel (length a.work.now) a.row a.work.now a.used a.results a.first a.places.now c.requires.lent.0.inside c.requires.lent.1 _ _ c.requires.used_in_bounds c.put.ensures) c.tree_count-trees.result c.tree_count-trees.ensures, left_there (rows_in a.rows.now) _ a.results a.first a.places.now (tokens_left (rows_in a.rows.now) a.fuel (length a.work.now) a.row a.work.now a.used a.results a.first a.places.now c.requires.lent.0.inside c.requires.lent.1 _ _ c.requires.used_in_bounds c.put.ensures)); tokens_len_bound = ((tokens_left (rows_in a.rows.now) a.fuel (length a.work.now) a.row a.work.now a.used a.results a.first a.places.now c.requires.lent.0.inside c.requires.lent.1 _ _ c.requires.used_in_bounds c.put.ensures).few, places_short (rows_in a.rows.now) a.fuel (length a.work.now) a.row _ a.results a.first a.places.now (tokens_left (rows_in a.rows.now) a.fuel (length a.work.now) a.row a.work.now a.used a.results a.first a.places.now c.requires.lent.0.inside c.requires.lent.1 _ _ c.requires.used_in_bounds c.put.ensures) c.tree_count-trees.result c.tree_count-trees.ensures, omega (arith, trees_few_here (rows_in a.rows.now) a.fuel (length a.work.now) a.row _ a.results a.first a.places.now (tokens_left (rows_in a.rows.now) a.fuel (length a.work.now) a.row a.work.now a.used a.results a.first a.places.now c.requires.lent.0.inside c.requires.lent.1 _ _ c.requires.used_in_bounds c.put.ensures) c.tree_count-trees.result c.tree_count-trees.ensures, (tokens_left (rows_in a.rows.now) a.fuel (length a.work.now) a.row a.work.now a.used a.results a.first a.places.now c.requires.lent.0.inside c.requires.lent.1 _ _ c.requires.used_in_bounds c.put.ensures).low), tokens_inside (rows_in a.rows.now) a.fuel (length a.work.now) a.row a.work.now a.used a.results a.first a.places.now c.requires.lent.0.inside c.requires.lent.1 _ _ c.requires.used_in_bounds c.put.ensures) }

pub scope_listed-returns-in_default : goal.scope_listed-returns-in_default
scope_listed-returns-in_default t c = let a = c.args in done_as _ _ (same_outcome (rows_in a.rows.now) a.fuel (length a.work.now) a.row a.work.now a.used a.results a.first a.places.now c.requires.lent.0.inside c.requires.lent.1 _ _ c.requires.used_in_bounds c.put.ensures) a.at a.table.now _ _ (too_many (rows_in a.rows.now) a.fuel (length a.work.now) a.row _ a.results a.first a.places.now (tokens_left (rows_in a.rows.now) a.fuel (length a.work.now) a.row a.work.now a.used a.results a.first a.places.now c.requires.lent.0.inside c.requires.lent.1 _ _ c.requires.used_in_bounds c.put.ensures) c.tree_count-trees.result c.tree_count-trees.ensures c.hold_all.result _ c.hold_all.ensures c.in_default.is c.hold_all.auto.held a.at a.table.now)

pub scope_listed-scope_held-requires : goal.scope_listed-scope_held-requires
scope_listed-scope_held-requires t c = let a = c.args in (omega (arith, c.decreases), ((record { words = omega (arith, c.requires.lent.0.words, c.hold_all.auto.held); inside = held_in (rows_in a.rows.now) a.fuel (length a.work.now) a.row _ a.results a.first a.places.now (tokens_left (rows_in a.rows.now) a.fuel (length a.work.now) a.row a.work.now a.used a.results a.first a.places.now c.requires.lent.0.inside c.requires.lent.1 _ _ c.requires.used_in_bounds c.put.ensures) c.tree_count-trees.result c.tree_count-trees.ensures c.hold_all.result _ c.hold_all.ensures _ c.in-Some.is; bytes = c.requires.lent.0.bytes }, (tokens_left (rows_in a.rows.now) a.fuel (length a.work.now) a.row a.work.now a.used a.results a.first a.places.now c.requires.lent.0.inside c.requires.lent.1 _ _ c.requires.used_in_bounds c.put.ensures)), ((c.tree_count-trees.ensures, held_are (rows_in a.rows.now) a.fuel (length a.work.now) a.row _ a.results a.first a.places.now (tokens_left (rows_in a.rows.now) a.fuel (length a.work.now) a.row a.work.now a.used a.results a.first a.places.now c.requires.lent.0.inside c.requires.lent.1 _ _ c.requires.used_in_bounds c.put.ensures) c.tree_count-trees.result c.tree_count-trees.ensures c.hold_all.result _ c.hold_all.ensures _ c.in-Some.is), subst (λ o. a.at + told_rows o ≤ most_rows) (same_outcome (rows_in a.rows.now) a.fuel (length a.work.now) a.row a.work.now a.used a.results a.first a.places.now c.requires.lent.0.inside c.requires.lent.1 _ _ c.requires.used_in_bounds c.put.ensures ∙ left_now (rows_in a.rows.now) a.fuel a.row _ a.results a.first a.places.now _ _ c.hold_all.auto.held) c.requires.places_bound)))

pub scope_listed-returns : goal.scope_listed-returns
scope_listed-returns t c = let a = c.args in done_as _ _ (same_outcome (rows_in a.rows.now) a.fuel (length a.work.now) a.row a.work.now a.used a.results a.first a.places.now c.requires.lent.0.inside c.requires.lent.1 _ _ c.requires.used_in_bounds c.put.ensures ∙ left_now (rows_in a.rows.now) a.fuel a.row _ a.results a.first a.places.now _ _ c.hold_all.auto.held) a.at a.table.now _ _ c.scope_held.ensures

pub scope_rounds-tree_count-results-requires : goal.scope_rounds-tree_count-results-requires
scope_rounds-tree_count-results-requires t c = let a = c.args in whole_so (rows_in a.rows.now) a.next (take a.len a.work.now) c.requires.t.0

pub scope_rounds-returns-in_err-listed : goal.scope_rounds-returns-in_err-listed
scope_rounds-returns-in_err-listed t c = let a = c.args in let e = ten (rows_in a.rows.now) (length a.work.now) a.row a.next (take a.len a.work.now) a.at a.table.now a.fuel (omega (arith, c.requires.le_fuel.0)) (omega (arith, length-take-le a.len a.work.now c.requires.lent.inside, c.requires.lent.inside)) (omega (arith, length-take-le a.len a.work.now c.requires.lent.inside, c.requires.le_fuel.1)) (omega (arith, c.requires.le_fuel.2)) c.requires.t.0 c.requires.t.1 c.extract_and_list.result _ _ c.extract_and_list.ensures _ c.in_err-listed.was in search rules

pub scope_rounds-slice_bounds-scope_listed-end : goal.scope_rounds-slice_bounds-scope_listed-end
scope_rounds-slice_bounds-scope_listed-end t c = let a = c.args in places_in (rows_in a.rows.now) (length a.work.now) a.row a.next (take a.len a.work.now) a.at a.table.now a.fuel (omega (arith, c.requires.le_fuel.0)) (omega (arith, length-take-le a.len a.work.now c.requires.lent.inside, c.requires.lent.inside)) (omega (arith, length-take-le a.len a.work.now c.requires.lent.inside, c.requires.le_fuel.1)) (omega (arith, c.requires.le_fuel.2)) c.requires.t.0 c.requires.t.1 c.extract_and_list.result _ _ c.extract_and_list.ensures _ c.in_ok-listed.was

pub scope_rounds-slice_bounds-scope_listed-end-2 : goal.scope_rounds-slice_bounds-scope_listed-end-2
scope_rounds-slice_bounds-scope_listed-end-2 t c = let a = c.args in sym (length-take-le _ _ (places_in (rows_in a.rows.now) (length a.work.now) a.row a.next (take a.len a.work.now) a.at a.table.now a.fuel (omega (arith, c.requires.le_fuel.0)) (omega (arith, length-take-le a.len a.work.now c.requires.lent.inside, c.requires.lent.inside)) (omega (arith, length-take-le a.len a.work.now c.requires.lent.inside, c.requires.le_fuel.1)) (omega (arith, c.requires.le_fuel.2)) c.requires.t.0 c.requires.t.1 c.extract_and_list.result _ _ c.extract_and_list.ensures _ c.in_ok-listed.was))

pub scope_rounds-scope_listed-requires : goal.scope_rounds-scope_listed-requires
scope_rounds-scope_listed-requires t c = let a = c.args in (omega (arith, c.decreases, c.requires.le_fuel.0), ((record { words = omega (arith, c.requires.lent.words, c.extract_and_list.auto.tokens); inside = words_in (rows_in a.rows.now) (length a.work.now) a.row a.next (take a.len a.work.now) a.at a.table.now a.fuel (omega (arith, c.requires.le_fuel.0)) (omega (arith, length-take-le a.len a.work.now c.requires.lent.inside, c.requires.lent.inside)) (omega (arith, length-take-le a.len a.work.now c.requires.lent.inside, c.requires.le_fuel.1)) (omega (arith, c.requires.le_fuel.2)) c.requires.t.0 c.requires.t.1 c.extract_and_list.result _ _ c.extract_and_list.ensures _ c.in_ok-listed.was; bytes = omega (arith, c.requires.lent.bytes, c.extract_and_list.auto.text) }, left_so (rows_in a.rows.now) (length a.work.now) a.row a.next (take a.len a.work.now) a.at a.table.now a.fuel (omega (arith, c.requires.le_fuel.0)) (omega (arith, length-take-le a.len a.work.now c.requires.lent.inside, c.requires.lent.inside)) (omega (arith, length-take-le a.len a.work.now c.requires.lent.inside, c.requires.le_fuel.1)) (omega (arith, c.requires.le_fuel.2)) c.requires.t.0 c.requires.t.1 c.extract_and_list.result _ _ c.extract_and_list.ensures _ c.in_ok-listed.was c.tree_count-results.result c.tree_count-results.ensures), (subst (λ o. a.at + told_rows o ≤ most_rows) (scope_is (rows_in a.rows.now) (length a.work.now) a.row a.next (take a.len a.work.now) a.at a.table.now a.fuel (omega (arith, c.requires.le_fuel.0)) (omega (arith, length-take-le a.len a.work.now c.requires.lent.inside, c.requires.lent.inside)) (omega (arith, length-take-le a.len a.work.now c.requires.lent.inside, c.requires.le_fuel.1)) (omega (arith, c.requires.le_fuel.2)) c.requires.t.0 c.requires.t.1 c.extract_and_list.result _ _ c.extract_and_list.ensures _ c.in_ok-listed.was c.tree_count-results.result c.tree_count-results.ensures ∙ (left_now (rows_in a.rows.now) (a.fuel - 1) a.row _ _ a.next _ _ _ c.extract_and_list.auto.tokens)) c.requires.work_bound, omega (arith, words_short (rows_in a.rows.now) (length a.work.now) a.row a.next (take a.len a.work.now) a.at a.table.now a.fuel (omega (arith, c.requires.le_fuel.0)) (omega (arith, length-take-le a.len a.work.now c.requires.lent.inside, c.requires.lent.inside)) (omega (arith, length-take-le a.len a.work.now c.requires.lent.inside, c.requires.le_fuel.1)) (omega (arith, c.requires.le_fuel.2)) c.requires.t.0 c.requires.t.1 c.extract_and_list.result _ _ c.extract_and_list.ensures _ c.in_ok-listed.was, length-take-le a.len a.work.now c.requires.lent.inside, c.requires.len_in_bounds.1))))

pub scope_rounds-returns : goal.scope_rounds-returns
scope_rounds-returns t c = let a = c.args in done_as _ _ (scope_is (rows_in a.rows.now) (length a.work.now) a.row a.next (take a.len a.work.now) a.at a.table.now a.fuel (omega (arith, c.requires.le_fuel.0)) (omega (arith, length-take-le a.len a.work.now c.requires.lent.inside, c.requires.lent.inside)) (omega (arith, length-take-le a.len a.work.now c.requires.lent.inside, c.requires.le_fuel.1)) (omega (arith, c.requires.le_fuel.2)) c.requires.t.0 c.requires.t.1 c.extract_and_list.result _ _ c.extract_and_list.ensures _ c.in_ok-listed.was c.tree_count-results.result c.tree_count-results.ensures ∙ (left_now (rows_in a.rows.now) (a.fuel - 1) a.row _ _ a.next _ _ _ c.extract_and_list.auto.tokens)) a.at a.table.now _ _ c.scope_listed.ensures

pub walk-loop-g-init : goal.walk-loop-g-init
walk-loop-g-init t c = let a = c.args in record { done = walk_begin (inner (rows_in a.rows.now) a.fuel (length a.work.now - a.h)) (take a.h a.work.now) (place_groups (take a.h a.work.now)) a.next _ _ _; held = refl }

pub walk-overflow_sub-end : goal.walk-overflow_sub-end
walk-overflow_sub-end t c = let a = c.args in omega (arith, end_long (rows_in a.rows.now) a.fuel (length a.work.now - a.h) a.next (take a.h a.work.now) a.members.now a.ends.now c.requires.lent.1 c.requires.members.0 c.requires.members.1 _ _ _ _ _ _ _ _ c.loop-g.invariant.done c.loop-g-test.true)

pub walk-number_members-requires : goal.walk-number_members-requires
walk-number_members-requires t c = let a = c.args in (omega (arith, end_long (rows_in a.rows.now) a.fuel (length a.work.now - a.h) a.next (take a.h a.work.now) a.members.now a.ends.now c.requires.lent.1 c.requires.members.0 c.requires.members.1 _ _ _ _ _ _ _ _ c.loop-g.invariant.done c.loop-g-test.true, end_within (rows_in a.rows.now) a.fuel (length a.work.now - a.h) a.next (take a.h a.work.now) a.members.now a.ends.now c.requires.lent.1 c.requires.members.0 c.requires.members.1 _ _ _ _ _ _ _ _ c.loop-g.invariant.done c.loop-g-test.true, c.requires.members_in_bounds.0, c.loop-g.auto.numbers), omega (arith, number_low (rows_in a.rows.now) a.fuel (length a.work.now - a.h) a.next (take a.h a.work.now) a.members.now a.ends.now c.requires.lent.1 c.requires.members.0 c.requires.members.1 _ _ _ _ _ _ _ _ c.loop-g.invariant.done c.loop-g.auto.g-end, end_long (rows_in a.rows.now) a.fuel (length a.work.now - a.h) a.next (take a.h a.work.now) a.members.now a.ends.now c.requires.lent.1 c.requires.members.0 c.requires.members.1 _ _ _ _ _ _ _ _ c.loop-g.invariant.done c.loop-g-test.true, end_within (rows_in a.rows.now) a.fuel (length a.work.now - a.h) a.next (take a.h a.work.now) a.members.now a.ends.now c.requires.lent.1 c.requires.members.0 c.requires.members.1 _ _ _ _ _ _ _ _ c.loop-g.invariant.done c.loop-g-test.true, all_few (rows_in a.rows.now) a.next (take a.h a.work.now) c.requires.lent.1, ap length c.requires.members.0.members_are))

pub walk-offset_bounds-members-start : goal.walk-offset_bounds-members-start
walk-offset_bounds-members-start t c = let a = c.args in omega (arith, end_long (rows_in a.rows.now) a.fuel (length a.work.now - a.h) a.next (take a.h a.work.now) a.members.now a.ends.now c.requires.lent.1 c.requires.members.0 c.requires.members.1 _ _ _ _ _ _ _ _ c.loop-g.invariant.done c.loop-g-test.true, end_within (rows_in a.rows.now) a.fuel (length a.work.now - a.h) a.next (take a.h a.work.now) a.members.now a.ends.now c.requires.lent.1 c.requires.members.0 c.requires.members.1 _ _ _ _ _ _ _ _ c.loop-g.invariant.done c.loop-g-test.true, c.well_formed.1.1.1.0)

pub walk-slice_bounds-measure-count : goal.walk-slice_bounds-measure-count
walk-slice_bounds-measure-count t c = let a = c.args in omega (arith, end_long (rows_in a.rows.now) a.fuel (length a.work.now - a.h) a.next (take a.h a.work.now) a.members.now a.ends.now c.requires.lent.1 c.requires.members.0 c.requires.members.1 _ _ _ _ _ _ _ _ c.loop-g.invariant.done c.loop-g-test.true)

pub walk-slice_bounds-measure-start : goal.walk-slice_bounds-measure-start
walk-slice_bounds-measure-start t c = let a = c.args in omega (arith, end_long (rows_in a.rows.now) a.fuel (length a.work.now - a.h) a.next (take a.h a.work.now) a.members.now a.ends.now c.requires.lent.1 c.requires.members.0 c.requires.members.1 _ _ _ _ _ _ _ _ c.loop-g.invariant.done c.loop-g-test.true, end_within (rows_in a.rows.now) a.fuel (length a.work.now - a.h) a.next (take a.h a.work.now) a.members.now a.ends.now c.requires.lent.1 c.requires.members.0 c.requires.members.1 _ _ _ _ _ _ _ _ c.loop-g.invariant.done c.loop-g-test.true)

pub walk-slice_bounds-measure-end : goal.walk-slice_bounds-measure-end
walk-slice_bounds-measure-end t c = let a = c.args in end_within (rows_in a.rows.now) a.fuel (length a.work.now - a.h) a.next (take a.h a.work.now) a.members.now a.ends.now c.requires.lent.1 c.requires.members.0 c.requires.members.1 _ _ _ _ _ _ _ _ c.loop-g.invariant.done c.loop-g-test.true

pub walk-measure-requires : goal.walk-measure-requires
walk-measure-requires t c = let a = c.args in (omega (arith, c.decreases), ((lent_on a.h a.work.now a.text.now _ _ c.requires.lent.0 c.loop-g.auto.work c.loop-g.auto.text, holds_now a.h a.work.now c.loop-g.work c.loop-g.invariant.held (rows_in a.rows.now) _ (number_holds (rows_in a.rows.now) a.fuel (length a.work.now - a.h) a.next (take a.h a.work.now) a.members.now a.ends.now c.requires.lent.1 c.requires.members.0 c.requires.members.1 _ _ _ _ _ _ _ _ c.loop-g.invariant.done c.loop-g.auto.g-end)), (group_now a.h a.work.now c.loop-g.work c.loop-g.invariant.held _ (group_here (rows_in a.rows.now) a.fuel (length a.work.now - a.h) a.next (take a.h a.work.now) a.members.now a.ends.now c.requires.lent.1 c.requires.members.0 c.requires.members.1 _ _ _ _ _ _ _ _ c.loop-g.invariant.done c.loop-g-test.true), number_low (rows_in a.rows.now) a.fuel (length a.work.now - a.h) a.next (take a.h a.work.now) a.members.now a.ends.now c.requires.lent.1 c.requires.members.0 c.requires.members.1 _ _ _ _ _ _ _ _ c.loop-g.invariant.done c.loop-g.auto.g-end, to_low (rows_in a.rows.now) a.fuel (length a.work.now - a.h) a.next (take a.h a.work.now) a.members.now a.ends.now c.requires.lent.1 c.requires.members.0 c.requires.members.1 _ _ _ _ _ _ _ _ c.loop-g.invariant.done c.loop-g.auto.g-end)))

pub walk-returns-in_err-more-clause-value : goal.walk-returns-in_err-more-clause-value
unfolding groups_told
walk-returns-in_err-more-clause-value t c = let a = c.args in
    let e = walk_ends_refused (inner (rows_in a.rows.now) a.fuel (length a.work.now - a.h)) (take a.h a.work.now) (place_groups (take a.h a.work.now)) a.next _ _ _ _ _ _ _ _ c.loop-g.invariant.done (arms_named c.measure.result) _ (answer_here (rows_in a.rows.now) a.fuel (length a.work.now - a.h) a.next (take a.h a.work.now) a.members.now a.ends.now c.requires.lent.1 c.requires.members.0 c.requires.members.1 _ _ _ _ _ _ _ _ c.loop-g.invariant.done c.loop-g-test.true (arms_named c.measure.result) _ (before_so a.h a.work.now c.loop-g.work c.loop-g.invariant.held c.loop-g.auto.work (λ hs left. ArmDone (group_told (inner (rows_in a.rows.now) a.fuel left) hs (take (get_or a.ends.now c.loop-g.g 0 - c.loop-g.start) (drop c.loop-g.start a.members.now)) c.loop-g.number) c.loop-g.to c.loop-g.kept (arms_named c.measure.result) c.measure.new.kept) c.measure.ensures.value)) (length (place_groups (take a.h a.work.now))) (omega (arith, c.loop-g-test.true, ends_many (rows_in a.rows.now) a.fuel (length a.work.now - a.h) a.next (take a.h a.work.now) a.members.now a.ends.now c.requires.lent.1 c.requires.members.0 c.requires.members.1)) _ (ap arms_named c.in_err-more.was) c.number_members.new.numbers c.loop-g.stops c.measure.new.kept in
    search rules

pub walk-overflow_add-extracted : goal.walk-overflow_add-extracted
walk-overflow_add-extracted t c = let a = c.args in let z = (walk_goes_on (inner (rows_in a.rows.now) a.fuel (length a.work.now - a.h)) (take a.h a.work.now) (place_groups (take a.h a.work.now)) a.next _ _ _ _ _ _ _ _ c.loop-g.invariant.done (arms_named c.measure.result) _ (answer_here (rows_in a.rows.now) a.fuel (length a.work.now - a.h) a.next (take a.h a.work.now) a.members.now a.ends.now c.requires.lent.1 c.requires.members.0 c.requires.members.1 _ _ _ _ _ _ _ _ c.loop-g.invariant.done c.loop-g-test.true (arms_named c.measure.result) _ (before_so a.h a.work.now c.loop-g.work c.loop-g.invariant.held c.loop-g.auto.work (λ hs left. ArmDone (group_told (inner (rows_in a.rows.now) a.fuel left) hs (take (get_or a.ends.now c.loop-g.g 0 - c.loop-g.start) (drop c.loop-g.start a.members.now)) c.loop-g.number) c.loop-g.to c.loop-g.kept (arms_named c.measure.result) c.measure.new.kept) c.measure.ensures.value)) _ _ _ (ap arms_named c.in_ok-more.was) _ (count_here (rows_in a.rows.now) a.fuel (length a.work.now - a.h) a.next (take a.h a.work.now) a.members.now a.ends.now c.requires.lent.1 c.requires.members.0 c.requires.members.1 _ _ _ _ _ _ _ _ c.loop-g.invariant.done c.loop-g-test.true) (get_or a.ends.now c.loop-g.g 0) (omega (arith, end_long (rows_in a.rows.now) a.fuel (length a.work.now - a.h) a.next (take a.h a.work.now) a.members.now a.ends.now c.requires.lent.1 c.requires.members.0 c.requires.members.1 _ _ _ _ _ _ _ _ c.loop-g.invariant.done c.loop-g-test.true)) (omega (arith, end_long (rows_in a.rows.now) a.fuel (length a.work.now - a.h) a.next (take a.h a.work.now) a.members.now a.ends.now c.requires.lent.1 c.requires.members.0 c.requires.members.1 _ _ _ _ _ _ _ _ c.loop-g.invariant.done c.loop-g-test.true, end_within (rows_in a.rows.now) a.fuel (length a.work.now - a.h) a.next (take a.h a.work.now) a.members.now a.ends.now c.requires.lent.1 c.requires.members.0 c.requires.members.1 _ _ _ _ _ _ _ _ c.loop-g.invariant.done c.loop-g-test.true, c.requires.members_in_bounds.0, c.loop-g.auto.numbers)) (omega (arith, c.loop-g.auto.stops, c.requires.members_in_bounds.1, c.loop-g-test.true)) _ c.number_members.ensures) in omega (arith, made_low (rows_in a.rows.now) a.fuel (length a.work.now - a.h) a.next (take a.h a.work.now) a.members.now a.ends.now c.requires.lent.1 c.requires.members.0 c.requires.members.1 _ _ _ _ _ _ _ _ z (omega (arith, c.loop-g-test.true)))

pub walk-loop-g-preserved : goal.walk-loop-g-preserved
walk-loop-g-preserved t c = let a = c.args in record { done = (walk_goes_on (inner (rows_in a.rows.now) a.fuel (length a.work.now - a.h)) (take a.h a.work.now) (place_groups (take a.h a.work.now)) a.next _ _ _ _ _ _ _ _ c.loop-g.invariant.done (arms_named c.measure.result) _ (answer_here (rows_in a.rows.now) a.fuel (length a.work.now - a.h) a.next (take a.h a.work.now) a.members.now a.ends.now c.requires.lent.1 c.requires.members.0 c.requires.members.1 _ _ _ _ _ _ _ _ c.loop-g.invariant.done c.loop-g-test.true (arms_named c.measure.result) _ (before_so a.h a.work.now c.loop-g.work c.loop-g.invariant.held c.loop-g.auto.work (λ hs left. ArmDone (group_told (inner (rows_in a.rows.now) a.fuel left) hs (take (get_or a.ends.now c.loop-g.g 0 - c.loop-g.start) (drop c.loop-g.start a.members.now)) c.loop-g.number) c.loop-g.to c.loop-g.kept (arms_named c.measure.result) c.measure.new.kept) c.measure.ensures.value)) _ _ _ (ap arms_named c.in_ok-more.was) _ (count_here (rows_in a.rows.now) a.fuel (length a.work.now - a.h) a.next (take a.h a.work.now) a.members.now a.ends.now c.requires.lent.1 c.requires.members.0 c.requires.members.1 _ _ _ _ _ _ _ _ c.loop-g.invariant.done c.loop-g-test.true) (get_or a.ends.now c.loop-g.g 0) (omega (arith, end_long (rows_in a.rows.now) a.fuel (length a.work.now - a.h) a.next (take a.h a.work.now) a.members.now a.ends.now c.requires.lent.1 c.requires.members.0 c.requires.members.1 _ _ _ _ _ _ _ _ c.loop-g.invariant.done c.loop-g-test.true)) (omega (arith, end_long (rows_in a.rows.now) a.fuel (length a.work.now - a.h) a.next (take a.h a.work.now) a.members.now a.ends.now c.requires.lent.1 c.requires.members.0 c.requires.members.1 _ _ _ _ _ _ _ _ c.loop-g.invariant.done c.loop-g-test.true, end_within (rows_in a.rows.now) a.fuel (length a.work.now - a.h) a.next (take a.h a.work.now) a.members.now a.ends.now c.requires.lent.1 c.requires.members.0 c.requires.members.1 _ _ _ _ _ _ _ _ c.loop-g.invariant.done c.loop-g-test.true, c.requires.members_in_bounds.0, c.loop-g.auto.numbers)) (omega (arith, c.loop-g.auto.stops, c.requires.members_in_bounds.1, c.loop-g-test.true)) _ c.number_members.ensures); held = c.measure.ensures.work_unchanged ∙ c.loop-g.invariant.held }

pub walk-returns : goal.walk-returns
unfolding groups_told
walk-returns t c = let a = c.args in
    record { value = walk_all (inner (rows_in a.rows.now) a.fuel (length a.work.now - a.h)) (take a.h a.work.now) (place_groups (take a.h a.work.now)) a.next _ _ _ _ _ _ _ _ c.loop-g.invariant.done (length (place_groups (take a.h a.work.now))) (omega (arith, c.loop-g.auto.g-end, c.loop-g-test.false, ends_many (rows_in a.rows.now) a.fuel (length a.work.now - a.h) a.next (take a.h a.work.now) a.members.now a.ends.now c.requires.lent.1 c.requires.members.0 c.requires.members.1)); work_unchanged = c.loop-g.invariant.held }

pub write_match-write_match_head-body-requires : goal.write_match-write_match_head-body-requires
write_match-write_match_head-body-requires t c = let a = c.args in
    record { grouped = c.requires.grouped.0; g_in_bounds = c.requires.g_in_bounds.0; g_bound = head_fits (rows_in a.rows.now) a.fuel (length a.work.now - a.h) (take a.h a.work.now) a.parts.now.members.now a.parts.now.ends.now a.parts.now.numbers.now a.g a.from a.size a.parts.now.kept.now a.at c.requires.lent.1 c.requires.grouped.0 c.requires.grouped.1 c.requires.g_in_bounds.0 c.requires.g_in_bounds.1 }

pub write_match-overflow_add-body : goal.write_match-overflow_add-body
write_match-overflow_add-body t c = let a = c.args in omega (arith, c.write_match_head-body.ensures.0, all_fits (rows_in a.rows.now) a.fuel (length a.work.now - a.h) (take a.h a.work.now) a.parts.now.members.now a.parts.now.ends.now a.parts.now.numbers.now a.g a.from a.size a.parts.now.kept.now a.at c.requires.lent.1 c.requires.grouped.0 c.requires.grouped.1 c.requires.g_in_bounds.0 c.requires.g_in_bounds.1)

pub write_match-overflow_add-result : goal.write_match-overflow_add-result
write_match-overflow_add-result t c = let a = c.args in omega (arith, c.write_match_head-body.ensures.0, all_fits (rows_in a.rows.now) a.fuel (length a.work.now - a.h) (take a.h a.work.now) a.parts.now.members.now a.parts.now.ends.now a.parts.now.numbers.now a.g a.from a.size a.parts.now.kept.now a.at c.requires.lent.1 c.requires.grouped.0 c.requires.grouped.1 c.requires.g_in_bounds.0 c.requires.g_in_bounds.1)

pub write_match-returns-then-body-size : goal.write_match-returns-then-body-size
write_match-returns-then-body-size t c = let a = c.args in
    record { value = match_past (rows_in a.rows.now) a.fuel (length a.work.now - a.h) (take a.h a.work.now) a.parts.now.members.now a.parts.now.ends.now a.parts.now.numbers.now a.g a.from a.size a.parts.now.kept.now a.at c.requires.lent.1 c.requires.grouped.0 c.requires.grouped.1 c.requires.g_in_bounds.0 c.requires.g_in_bounds.1 a.table.now _ c.write_match_head-body.ensures.1 c.write_match_head-body.result c.write_match_head-body.ensures.0 (omega (arith, c.if-body-size.true)); work_unchanged = refl }

pub write_match-overflow_add-from : goal.write_match-overflow_add-from
write_match-overflow_add-from t c = let a = c.args in omega (arith, kept_low (rows_in a.rows.now) a.fuel (length a.work.now - a.h) (take a.h a.work.now) a.parts.now.members.now a.parts.now.ends.now a.parts.now.numbers.now a.g a.from a.size a.parts.now.kept.now a.at c.requires.lent.1 c.requires.grouped.0 c.requires.grouped.1 c.requires.g_in_bounds.0 c.requires.g_in_bounds.1)

pub write_match-overflow_add-from-then-from-size : goal.write_match-overflow_add-from-then-from-size
write_match-overflow_add-from-then-from-size t c = let a = c.args in omega (arith, kept_low (rows_in a.rows.now) a.fuel (length a.work.now - a.h) (take a.h a.work.now) a.parts.now.members.now a.parts.now.ends.now a.parts.now.numbers.now a.g a.from a.size a.parts.now.kept.now a.at c.requires.lent.1 c.requires.grouped.0 c.requires.grouped.1 c.requires.g_in_bounds.0 c.requires.g_in_bounds.1)

pub write_match-overflow_add-result-then-from-size : goal.write_match-overflow_add-result-then-from-size
write_match-overflow_add-result-then-from-size t c = let a = c.args in omega (arith, c.write_match_head-body.ensures.0, all_fits (rows_in a.rows.now) a.fuel (length a.work.now - a.h) (take a.h a.work.now) a.parts.now.members.now a.parts.now.ends.now a.parts.now.numbers.now a.g a.from a.size a.parts.now.kept.now a.at c.requires.lent.1 c.requires.grouped.0 c.requires.grouped.1 c.requires.g_in_bounds.0 c.requires.g_in_bounds.1)

pub write_match-returns-then-from-size : goal.write_match-returns-then-from-size
write_match-returns-then-from-size t c = let a = c.args in
    record { value = match_kept (rows_in a.rows.now) a.fuel (length a.work.now - a.h) (take a.h a.work.now) a.parts.now.members.now a.parts.now.ends.now a.parts.now.numbers.now a.g a.from a.size a.parts.now.kept.now a.at c.requires.lent.1 c.requires.grouped.0 c.requires.grouped.1 c.requires.g_in_bounds.0 c.requires.g_in_bounds.1 a.table.now _ _ c.write_match_head-body.ensures.1 c.write_match_head-body.result c.write_match_head-body.ensures.0 (omega (arith, c.if-from-size.true)) c.put.ensures; work_unchanged = refl }

pub write_match-offset_bounds-parts-start : goal.write_match-offset_bounds-parts-start
write_match-offset_bounds-parts-start t c = let a = c.args in omega (arith, start_under (rows_in a.rows.now) a.fuel (length a.work.now - a.h) (take a.h a.work.now) a.parts.now.members.now a.parts.now.ends.now a.parts.now.numbers.now a.g a.from a.size a.parts.now.kept.now a.at c.requires.lent.1 c.requires.grouped.0 c.requires.grouped.1 c.requires.g_in_bounds.0 c.requires.g_in_bounds.1 c.group_begin-start.result c.group_begin-start.ensures, ends_within (rows_in a.rows.now) a.fuel (length a.work.now - a.h) (take a.h a.work.now) a.parts.now.members.now a.parts.now.ends.now a.parts.now.numbers.now a.g a.from a.size a.parts.now.kept.now a.at c.requires.lent.1 c.requires.grouped.0 c.requires.grouped.1 c.requires.g_in_bounds.0 c.requires.g_in_bounds.1, members_few (rows_in a.rows.now) a.fuel (length a.work.now - a.h) (take a.h a.work.now) a.parts.now.members.now a.parts.now.ends.now a.parts.now.numbers.now a.g a.from a.size a.parts.now.kept.now a.at c.requires.lent.1 c.requires.grouped.0 c.requires.grouped.1 c.requires.g_in_bounds.0 c.requires.g_in_bounds.1)

pub write_match-bounds-parts-start : goal.write_match-bounds-parts-start
write_match-bounds-parts-start t c = let a = c.args in start_within (rows_in a.rows.now) a.fuel (length a.work.now - a.h) (take a.h a.work.now) a.parts.now.members.now a.parts.now.ends.now a.parts.now.numbers.now a.g a.from a.size a.parts.now.kept.now a.at c.requires.lent.1 c.requires.grouped.0 c.requires.grouped.1 c.requires.g_in_bounds.0 c.requires.g_in_bounds.1 c.group_begin-start.result c.group_begin-start.ensures

pub write_match-overflow_sub-first : goal.write_match-overflow_sub-first
write_match-overflow_sub-first t c = let a = c.args in start_under (rows_in a.rows.now) a.fuel (length a.work.now - a.h) (take a.h a.work.now) a.parts.now.members.now a.parts.now.ends.now a.parts.now.numbers.now a.g a.from a.size a.parts.now.kept.now a.at c.requires.lent.1 c.requires.grouped.0 c.requires.grouped.1 c.requires.g_in_bounds.0 c.requires.g_in_bounds.1 c.group_begin-start.result c.group_begin-start.ensures

pub write_match-overflow_add-first : goal.write_match-overflow_add-first
write_match-overflow_add-first t c = let a = c.args in omega (arith, number_small (rows_in a.rows.now) a.fuel (length a.work.now - a.h) (take a.h a.work.now) a.parts.now.members.now a.parts.now.ends.now a.parts.now.numbers.now a.g a.from a.size a.parts.now.kept.now a.at c.requires.lent.1 c.requires.grouped.0 c.requires.grouped.1 c.requires.g_in_bounds.0 c.requires.g_in_bounds.1 c.group_begin-start.result c.group_begin-start.ensures, start_under (rows_in a.rows.now) a.fuel (length a.work.now - a.h) (take a.h a.work.now) a.parts.now.members.now a.parts.now.ends.now a.parts.now.numbers.now a.g a.from a.size a.parts.now.kept.now a.at c.requires.lent.1 c.requires.grouped.0 c.requires.grouped.1 c.requires.g_in_bounds.0 c.requires.g_in_bounds.1 c.group_begin-start.result c.group_begin-start.ensures, ends_within (rows_in a.rows.now) a.fuel (length a.work.now - a.h) (take a.h a.work.now) a.parts.now.members.now a.parts.now.ends.now a.parts.now.numbers.now a.g a.from a.size a.parts.now.kept.now a.at c.requires.lent.1 c.requires.grouped.0 c.requires.grouped.1 c.requires.g_in_bounds.0 c.requires.g_in_bounds.1, members_few (rows_in a.rows.now) a.fuel (length a.work.now - a.h) (take a.h a.work.now) a.parts.now.members.now a.parts.now.ends.now a.parts.now.numbers.now a.g a.from a.size a.parts.now.kept.now a.at c.requires.lent.1 c.requires.grouped.0 c.requires.grouped.1 c.requires.g_in_bounds.0 c.requires.g_in_bounds.1)

pub write_match-offset_bounds-parts-start-2 : goal.write_match-offset_bounds-parts-start-2
write_match-offset_bounds-parts-start-2 t c = let a = c.args in omega (arith, start_under (rows_in a.rows.now) a.fuel (length a.work.now - a.h) (take a.h a.work.now) a.parts.now.members.now a.parts.now.ends.now a.parts.now.numbers.now a.g a.from a.size a.parts.now.kept.now a.at c.requires.lent.1 c.requires.grouped.0 c.requires.grouped.1 c.requires.g_in_bounds.0 c.requires.g_in_bounds.1 c.group_begin-start.result c.group_begin-start.ensures, ends_within (rows_in a.rows.now) a.fuel (length a.work.now - a.h) (take a.h a.work.now) a.parts.now.members.now a.parts.now.ends.now a.parts.now.numbers.now a.g a.from a.size a.parts.now.kept.now a.at c.requires.lent.1 c.requires.grouped.0 c.requires.grouped.1 c.requires.g_in_bounds.0 c.requires.g_in_bounds.1, members_few (rows_in a.rows.now) a.fuel (length a.work.now - a.h) (take a.h a.work.now) a.parts.now.members.now a.parts.now.ends.now a.parts.now.numbers.now a.g a.from a.size a.parts.now.kept.now a.at c.requires.lent.1 c.requires.grouped.0 c.requires.grouped.1 c.requires.g_in_bounds.0 c.requires.g_in_bounds.1)

pub write_match-slice_bounds-arms-count : goal.write_match-slice_bounds-arms-count
write_match-slice_bounds-arms-count t c = let a = c.args in start_under (rows_in a.rows.now) a.fuel (length a.work.now - a.h) (take a.h a.work.now) a.parts.now.members.now a.parts.now.ends.now a.parts.now.numbers.now a.g a.from a.size a.parts.now.kept.now a.at c.requires.lent.1 c.requires.grouped.0 c.requires.grouped.1 c.requires.g_in_bounds.0 c.requires.g_in_bounds.1 c.group_begin-start.result c.group_begin-start.ensures

pub write_match-slice_bounds-arms-start : goal.write_match-slice_bounds-arms-start
write_match-slice_bounds-arms-start t c = let a = c.args in omega (arith, start_under (rows_in a.rows.now) a.fuel (length a.work.now - a.h) (take a.h a.work.now) a.parts.now.members.now a.parts.now.ends.now a.parts.now.numbers.now a.g a.from a.size a.parts.now.kept.now a.at c.requires.lent.1 c.requires.grouped.0 c.requires.grouped.1 c.requires.g_in_bounds.0 c.requires.g_in_bounds.1 c.group_begin-start.result c.group_begin-start.ensures, ends_within (rows_in a.rows.now) a.fuel (length a.work.now - a.h) (take a.h a.work.now) a.parts.now.members.now a.parts.now.ends.now a.parts.now.numbers.now a.g a.from a.size a.parts.now.kept.now a.at c.requires.lent.1 c.requires.grouped.0 c.requires.grouped.1 c.requires.g_in_bounds.0 c.requires.g_in_bounds.1)

pub write_match-slice_bounds-arms-end : goal.write_match-slice_bounds-arms-end
write_match-slice_bounds-arms-end t c = let a = c.args in ends_within (rows_in a.rows.now) a.fuel (length a.work.now - a.h) (take a.h a.work.now) a.parts.now.members.now a.parts.now.ends.now a.parts.now.numbers.now a.g a.from a.size a.parts.now.kept.now a.at c.requires.lent.1 c.requires.grouped.0 c.requires.grouped.1 c.requires.g_in_bounds.0 c.requires.g_in_bounds.1

pub write_match-arms-requires : goal.write_match-arms-requires
write_match-arms-requires t c = let a = c.args in (omega (arith, c.decreases), ((c.requires.lent.0, part_holds (rows_in a.rows.now) a.fuel (length a.work.now - a.h) (take a.h a.work.now) a.parts.now.members.now a.parts.now.ends.now a.parts.now.numbers.now a.g a.from a.size a.parts.now.kept.now a.at c.requires.lent.1 c.requires.grouped.0 c.requires.grouped.1 c.requires.g_in_bounds.0 c.requires.g_in_bounds.1 c.group_begin-start.result c.group_begin-start.ensures), (part_group (rows_in a.rows.now) a.fuel (length a.work.now - a.h) (take a.h a.work.now) a.parts.now.members.now a.parts.now.ends.now a.parts.now.numbers.now a.g a.from a.size a.parts.now.kept.now a.at c.requires.lent.1 c.requires.grouped.0 c.requires.grouped.1 c.requires.g_in_bounds.0 c.requires.g_in_bounds.1 c.group_begin-start.result c.group_begin-start.ensures, (subst (ArmsFit (rows_in a.rows.now) a.fuel (length a.work.now - a.h) (take a.h a.work.now) _ _) (sym c.write_match_head-body.ensures.0) (part_fits (rows_in a.rows.now) a.fuel (length a.work.now - a.h) (take a.h a.work.now) a.parts.now.members.now a.parts.now.ends.now a.parts.now.numbers.now a.g a.from a.size a.parts.now.kept.now a.at c.requires.lent.1 c.requires.grouped.0 c.requires.grouped.1 c.requires.g_in_bounds.0 c.requires.g_in_bounds.1 c.group_begin-start.result c.group_begin-start.ensures), omega (arith, c.write_match_head-body.ensures.0, head_fits (rows_in a.rows.now) a.fuel (length a.work.now - a.h) (take a.h a.work.now) a.parts.now.members.now a.parts.now.ends.now a.parts.now.numbers.now a.g a.from a.size a.parts.now.kept.now a.at c.requires.lent.1 c.requires.grouped.0 c.requires.grouped.1 c.requires.g_in_bounds.0 c.requires.g_in_bounds.1)))))

pub write_match-unreachable-requires : goal.write_match-unreachable-requires
write_match-unreachable-requires t c = let a = c.args in match_never (rows_in a.rows.now) a.fuel (length a.work.now - a.h) (take a.h a.work.now) a.parts.now.members.now a.parts.now.ends.now a.parts.now.numbers.now a.g a.from a.size a.parts.now.kept.now a.at c.requires.lent.1 c.requires.grouped.0 c.requires.grouped.1 c.requires.g_in_bounds.0 c.requires.g_in_bounds.1 c.group_begin-start.result c.group_begin-start.ensures (arms_named c.arms.result) a.table.now _ _ c.write_match_head-body.ensures.1 c.write_match_head-body.result c.write_match_head-body.ensures.0 c.arms.ensures.value _ (ap arms_named c.in-Err.is)

pub write_match-returns : goal.write_match-returns
write_match-returns t c = let a = c.args in
    record { value = match_done (rows_in a.rows.now) a.fuel (length a.work.now - a.h) (take a.h a.work.now) a.parts.now.members.now a.parts.now.ends.now a.parts.now.numbers.now a.g a.from a.size a.parts.now.kept.now a.at c.requires.lent.1 c.requires.grouped.0 c.requires.grouped.1 c.requires.g_in_bounds.0 c.requires.g_in_bounds.1 c.group_begin-start.result c.group_begin-start.ensures (arms_named c.arms.result) a.table.now _ _ c.write_match_head-body.ensures.1 c.write_match_head-body.result c.write_match_head-body.ensures.0 c.arms.ensures.value _ _ _ (ap arms_named c.in-Ok.is); work_unchanged = c.arms.ensures.work_unchanged }

pub write_scope-overflow_add-count : goal.write_scope-overflow_add-count
write_scope-overflow_add-count t c = let a = c.args in omega (arith, lets_few (rows_in a.rows.now) a.fuel (length a.work.now - a.h) a.parts.now.tokens.now a.parts.now.results a.parts.now.first a.parts.now.places.now (take a.h a.work.now) a.parts.now.starts.now a.parts.now.members.now a.parts.now.ends.now a.parts.now.numbers.now a.parts.now.stops.now a.parts.now.kept.now c.requires.lent.1 c.requires.prepared.0 c.requires.prepared.1.sized)

pub write_scope-overflow_add-count-2 : goal.write_scope-overflow_add-count-2
write_scope-overflow_add-count-2 t c = let a = c.args in omega (arith, statements_here (rows_in a.rows.now) a.fuel (length a.work.now - a.h) a.parts.now.tokens.now a.parts.now.results a.parts.now.first a.parts.now.places.now (take a.h a.work.now) a.parts.now.starts.now a.parts.now.members.now a.parts.now.ends.now a.parts.now.numbers.now a.parts.now.stops.now a.parts.now.kept.now a.after a.extracted a.row c.requires.lent.1 c.requires.prepared.0 c.requires.prepared.1, c.requires.prepared.0.statements)

pub write_scope-slice_bounds-taken-end : goal.write_scope-slice_bounds-taken-end
write_scope-slice_bounds-taken-end t c = let a = c.args in omega (arith, statements_here (rows_in a.rows.now) a.fuel (length a.work.now - a.h) a.parts.now.tokens.now a.parts.now.results a.parts.now.first a.parts.now.places.now (take a.h a.work.now) a.parts.now.starts.now a.parts.now.members.now a.parts.now.ends.now a.parts.now.numbers.now a.parts.now.stops.now a.parts.now.kept.now a.after a.extracted a.row c.requires.lent.1 c.requires.prepared.0 c.requires.prepared.1, c.requires.prepared.0.statements)

pub write_scope-slice_bounds-write_stmts-end : goal.write_scope-slice_bounds-write_stmts-end
write_scope-slice_bounds-write_stmts-end t c = let a = c.args in sym (length-take-le _ _ (omega (arith, statements_here (rows_in a.rows.now) a.fuel (length a.work.now - a.h) a.parts.now.tokens.now a.parts.now.results a.parts.now.first a.parts.now.places.now (take a.h a.work.now) a.parts.now.starts.now a.parts.now.members.now a.parts.now.ends.now a.parts.now.numbers.now a.parts.now.stops.now a.parts.now.kept.now a.after a.extracted a.row c.requires.lent.1 c.requires.prepared.0 c.requires.prepared.1, c.requires.prepared.0.statements, c.order_stmts-ordered.auto.taken)))

pub write_scope-write_stmts-end-requires : goal.write_scope-write_stmts-end-requires
write_scope-write_stmts-end-requires t c = let a = c.args in (omega (arith, c.decreases), (c.requires.lent, ((c.requires.prepared.0, c.requires.prepared.1.sized), (positions (rows_in a.rows.now) a.fuel (length a.work.now - a.h) a.parts.now.tokens.now a.parts.now.results a.parts.now.first a.parts.now.places.now (take a.h a.work.now) a.parts.now.starts.now a.parts.now.members.now a.parts.now.ends.now a.parts.now.numbers.now a.parts.now.stops.now a.parts.now.kept.now a.after a.extracted a.row c.requires.lent.1 c.requires.prepared.0 c.requires.prepared.1 c.order_stmts-ordered.result _ _ c.order_stmts-ordered.ensures a.at a.table.now c.in-Ok.is _ (statements_here (rows_in a.rows.now) a.fuel (length a.work.now - a.h) a.parts.now.tokens.now a.parts.now.results a.parts.now.first a.parts.now.places.now (take a.h a.work.now) a.parts.now.starts.now a.parts.now.members.now a.parts.now.ends.now a.parts.now.numbers.now a.parts.now.stops.now a.parts.now.kept.now a.after a.extracted a.row c.requires.lent.1 c.requires.prepared.0 c.requires.prepared.1) c.requires.places_bound, stmts_fit (rows_in a.rows.now) a.fuel (length a.work.now - a.h) a.parts.now.tokens.now a.parts.now.results a.parts.now.first a.parts.now.places.now (take a.h a.work.now) a.parts.now.starts.now a.parts.now.members.now a.parts.now.ends.now a.parts.now.numbers.now a.parts.now.stops.now a.parts.now.kept.now a.after a.extracted a.row c.requires.lent.1 c.requires.prepared.0 c.requires.prepared.1 c.order_stmts-ordered.result _ _ c.order_stmts-ordered.ensures a.at a.table.now c.in-Ok.is _ (statements_here (rows_in a.rows.now) a.fuel (length a.work.now - a.h) a.parts.now.tokens.now a.parts.now.results a.parts.now.first a.parts.now.places.now (take a.h a.work.now) a.parts.now.starts.now a.parts.now.members.now a.parts.now.ends.now a.parts.now.numbers.now a.parts.now.stops.now a.parts.now.kept.now a.after a.extracted a.row c.requires.lent.1 c.requires.prepared.0 c.requires.prepared.1) c.requires.places_bound))))

pub write_scope-write_values-place-requires : goal.write_scope-write_values-place-requires
write_scope-write_values-place-requires t c = let a = c.args in
    record { readied = readied_now a.h a.work.now _ c.write_stmts-end.ensures.work_unchanged a.parts.now.tokens.now a.parts.now.results a.parts.now.first a.parts.now.places.now a.parts.now.starts.now a.parts.now.members.now a.parts.now.numbers.now (readied (rows_in a.rows.now) a.fuel (length a.work.now - a.h) a.parts.now.tokens.now a.parts.now.results a.parts.now.first a.parts.now.places.now (take a.h a.work.now) a.parts.now.starts.now a.parts.now.members.now a.parts.now.ends.now a.parts.now.numbers.now a.parts.now.stops.now a.parts.now.kept.now c.requires.lent.1 c.requires.prepared.0 c.requires.prepared.1.sized); results_bound = values_fit (rows_in a.rows.now) a.fuel (length a.work.now - a.h) a.parts.now.tokens.now a.parts.now.results a.parts.now.first a.parts.now.places.now (take a.h a.work.now) a.parts.now.starts.now a.parts.now.members.now a.parts.now.ends.now a.parts.now.numbers.now a.parts.now.stops.now a.parts.now.kept.now a.after a.extracted a.row c.requires.lent.1 c.requires.prepared.0 c.requires.prepared.1 c.order_stmts-ordered.result _ _ c.order_stmts-ordered.ensures a.at a.table.now c.in-Ok.is _ (statements_here (rows_in a.rows.now) a.fuel (length a.work.now - a.h) a.parts.now.tokens.now a.parts.now.results a.parts.now.first a.parts.now.places.now (take a.h a.work.now) a.parts.now.starts.now a.parts.now.members.now a.parts.now.ends.now a.parts.now.numbers.now a.parts.now.stops.now a.parts.now.kept.now a.after a.extracted a.row c.requires.lent.1 c.requires.prepared.0 c.requires.prepared.1) c.requires.places_bound c.write_stmts-end.result c.write_stmts-end.ensures.value.0 }

pub write_scope-overflow_add-result : goal.write_scope-overflow_add-result
write_scope-overflow_add-result t c = let a = c.args in omega (arith, extracted_low (rows_in a.rows.now) a.fuel (length a.work.now - a.h) a.parts.now.tokens.now a.parts.now.results a.parts.now.first a.parts.now.places.now (take a.h a.work.now) a.parts.now.starts.now a.parts.now.members.now a.parts.now.ends.now a.parts.now.numbers.now a.parts.now.stops.now a.parts.now.kept.now a.after a.extracted a.row c.requires.lent.1 c.requires.prepared.0 c.requires.prepared.1, lets_few (rows_in a.rows.now) a.fuel (length a.work.now - a.h) a.parts.now.tokens.now a.parts.now.results a.parts.now.first a.parts.now.places.now (take a.h a.work.now) a.parts.now.starts.now a.parts.now.members.now a.parts.now.ends.now a.parts.now.numbers.now a.parts.now.stops.now a.parts.now.kept.now c.requires.lent.1 c.requires.prepared.0 c.requires.prepared.1.sized)

pub write_scope-returns-in-Ok : goal.write_scope-returns-in-Ok
write_scope-returns-in-Ok t c = let a = c.args in all_done (rows_in a.rows.now) a.fuel (length a.work.now - a.h) a.parts.now.tokens.now a.parts.now.results a.parts.now.first a.parts.now.places.now (take a.h a.work.now) a.parts.now.starts.now a.parts.now.members.now a.parts.now.ends.now a.parts.now.numbers.now a.parts.now.stops.now a.parts.now.kept.now a.after a.extracted a.row c.requires.lent.1 c.requires.prepared.0 c.requires.prepared.1 c.order_stmts-ordered.result _ _ c.order_stmts-ordered.ensures a.at a.table.now c.in-Ok.is _ (statements_here (rows_in a.rows.now) a.fuel (length a.work.now - a.h) a.parts.now.tokens.now a.parts.now.results a.parts.now.first a.parts.now.places.now (take a.h a.work.now) a.parts.now.starts.now a.parts.now.members.now a.parts.now.ends.now a.parts.now.numbers.now a.parts.now.stops.now a.parts.now.kept.now a.after a.extracted a.row c.requires.lent.1 c.requires.prepared.0 c.requires.prepared.1) c.requires.places_bound c.write_stmts-end.result _ c.write_stmts-end.ensures.value c.write_values-place.result _ c.write_values-place.ensures _ refl

pub write_scope-returns-in-Err : goal.write_scope-returns-in-Err
write_scope-returns-in-Err t c = let a = c.args in ring_done (rows_in a.rows.now) a.fuel (length a.work.now - a.h) a.parts.now.tokens.now a.parts.now.results a.parts.now.first a.parts.now.places.now (take a.h a.work.now) a.parts.now.starts.now a.parts.now.members.now a.parts.now.ends.now a.parts.now.numbers.now a.parts.now.stops.now a.parts.now.kept.now a.after a.extracted a.row c.requires.lent.1 c.requires.prepared.0 c.requires.prepared.1 c.order_stmts-ordered.result _ _ c.order_stmts-ordered.ensures a.at a.table.now _ c.in-Err.is

pub write_stmt-overflow_add-lets : goal.write_stmt-overflow_add-lets
write_stmt-overflow_add-lets t c = let a = c.args in omega (arith, lets_few (rows_in a.rows.now) a.fuel (length a.work.now - a.h) a.parts.now.tokens.now a.parts.now.results a.parts.now.first a.parts.now.places.now (take a.h a.work.now) a.parts.now.starts.now a.parts.now.members.now a.parts.now.ends.now a.parts.now.numbers.now a.parts.now.stops.now a.parts.now.kept.now c.requires.lent.1 c.requires.prepared.0 c.requires.prepared.1)

pub write_stmt-write_let-requires : goal.write_stmt-write_let-requires
write_stmt-write_let-requires t c = let a = c.args in
    record { readied = readied (rows_in a.rows.now) a.fuel (length a.work.now - a.h) a.parts.now.tokens.now a.parts.now.results a.parts.now.first a.parts.now.places.now (take a.h a.work.now) a.parts.now.starts.now a.parts.now.members.now a.parts.now.ends.now a.parts.now.numbers.now a.parts.now.stops.now a.parts.now.kept.now c.requires.lent.1 c.requires.prepared.0 c.requires.prepared.1; p_bound = let_there (rows_in a.rows.now) a.fuel (length a.work.now - a.h) a.parts.now.tokens.now a.parts.now.results a.parts.now.first a.parts.now.places.now (take a.h a.work.now) a.parts.now.starts.now a.parts.now.members.now a.parts.now.ends.now a.parts.now.numbers.now a.parts.now.stops.now a.parts.now.kept.now c.requires.lent.1 c.requires.prepared.0 c.requires.prepared.1 a.p c.if-p-lets.true; p_bound_2 = subst (λ (z : List ℕ). a.at + length z ≤ 9223372036854775808) (let_is (rows_in a.rows.now) a.fuel (length a.work.now - a.h) a.parts.now.tokens.now a.parts.now.results a.parts.now.first a.parts.now.places.now (take a.h a.work.now) a.parts.now.starts.now a.parts.now.members.now a.parts.now.ends.now a.parts.now.numbers.now a.parts.now.stops.now a.parts.now.kept.now c.requires.lent.1 c.requires.prepared.0 c.requires.prepared.1 a.p c.if-p-lets.true) c.requires.p_bound.1 }

pub write_stmt-returns-then-p-lets : goal.write_stmt-returns-then-p-lets
write_stmt-returns-then-p-lets t c = let a = c.args in
    record { value = rows_as _ _ (let_is (rows_in a.rows.now) a.fuel (length a.work.now - a.h) a.parts.now.tokens.now a.parts.now.results a.parts.now.first a.parts.now.places.now (take a.h a.work.now) a.parts.now.starts.now a.parts.now.members.now a.parts.now.ends.now a.parts.now.numbers.now a.parts.now.stops.now a.parts.now.kept.now c.requires.lent.1 c.requires.prepared.0 c.requires.prepared.1 a.p c.if-p-lets.true) a.at a.table.now _ _ (rows_exact _ a.at a.table.now _ _ c.write_let.ensures); work_unchanged = refl }

pub write_stmt-group_begin-from-requires : goal.write_stmt-group_begin-from-requires
write_stmt-group_begin-from-requires t c = let a = c.args in stop_in (rows_in a.rows.now) a.fuel (length a.work.now - a.h) a.parts.now.tokens.now a.parts.now.results a.parts.now.first a.parts.now.places.now (take a.h a.work.now) a.parts.now.starts.now a.parts.now.members.now a.parts.now.ends.now a.parts.now.numbers.now a.parts.now.stops.now a.parts.now.kept.now c.requires.lent.1 c.requires.prepared.0 c.requires.prepared.1 a.p c.requires.p_bound.0 (omega (arith, c.if-p-lets.false))

pub write_stmt-bounds-parts-g : goal.write_stmt-bounds-parts-g
write_stmt-bounds-parts-g t c = let a = c.args in stop_in (rows_in a.rows.now) a.fuel (length a.work.now - a.h) a.parts.now.tokens.now a.parts.now.results a.parts.now.first a.parts.now.places.now (take a.h a.work.now) a.parts.now.starts.now a.parts.now.members.now a.parts.now.ends.now a.parts.now.numbers.now a.parts.now.stops.now a.parts.now.kept.now c.requires.lent.1 c.requires.prepared.0 c.requires.prepared.1 a.p c.requires.p_bound.0 (omega (arith, c.if-p-lets.false))

pub write_stmt-overflow_sub-size : goal.write_stmt-overflow_sub-size
write_stmt-overflow_sub-size t c = let a = c.args in stop_over (rows_in a.rows.now) a.fuel (length a.work.now - a.h) a.parts.now.tokens.now a.parts.now.results a.parts.now.first a.parts.now.places.now (take a.h a.work.now) a.parts.now.starts.now a.parts.now.members.now a.parts.now.ends.now a.parts.now.numbers.now a.parts.now.stops.now a.parts.now.kept.now c.requires.lent.1 c.requires.prepared.0 c.requires.prepared.1 a.p c.requires.p_bound.0 (omega (arith, c.if-p-lets.false)) c.group_begin-from.result c.group_begin-from.ensures

pub write_stmt-write_match-requires : goal.write_stmt-write_match-requires
write_stmt-write_match-requires t c = let a = c.args in (omega (arith, c.decreases), ((c.requires.lent.0, member_holds (rows_in a.rows.now) a.fuel (length a.work.now - a.h) a.parts.now.tokens.now a.parts.now.results a.parts.now.first a.parts.now.places.now (take a.h a.work.now) a.parts.now.starts.now a.parts.now.members.now a.parts.now.ends.now a.parts.now.numbers.now a.parts.now.stops.now a.parts.now.kept.now c.requires.lent.1 c.requires.prepared.0 c.requires.prepared.1 a.p c.requires.p_bound.0 (omega (arith, c.if-p-lets.false))), ((grouped (rows_in a.rows.now) a.fuel (length a.work.now - a.h) a.parts.now.tokens.now a.parts.now.results a.parts.now.first a.parts.now.places.now (take a.h a.work.now) a.parts.now.starts.now a.parts.now.members.now a.parts.now.ends.now a.parts.now.numbers.now a.parts.now.stops.now a.parts.now.kept.now c.requires.lent.1 c.requires.prepared.0 c.requires.prepared.1, group_sized (rows_in a.rows.now) a.fuel (length a.work.now - a.h) a.parts.now.tokens.now a.parts.now.results a.parts.now.first a.parts.now.places.now (take a.h a.work.now) a.parts.now.starts.now a.parts.now.members.now a.parts.now.ends.now a.parts.now.numbers.now a.parts.now.stops.now a.parts.now.kept.now c.requires.lent.1 c.requires.prepared.0 c.requires.prepared.1 a.p c.requires.p_bound.0 (omega (arith, c.if-p-lets.false)) c.group_begin-from.result c.group_begin-from.ensures), (group_there (rows_in a.rows.now) a.fuel (length a.work.now - a.h) a.parts.now.tokens.now a.parts.now.results a.parts.now.first a.parts.now.places.now (take a.h a.work.now) a.parts.now.starts.now a.parts.now.members.now a.parts.now.ends.now a.parts.now.numbers.now a.parts.now.stops.now a.parts.now.kept.now c.requires.lent.1 c.requires.prepared.0 c.requires.prepared.1 a.p c.requires.p_bound.0 (omega (arith, c.if-p-lets.false)), subst (λ (z : List ℕ). a.at + length z ≤ most_rows) (stmt_match_is (rows_in a.rows.now) a.fuel (length a.work.now - a.h) a.parts.now.tokens.now a.parts.now.results a.parts.now.first a.parts.now.places.now (take a.h a.work.now) a.parts.now.starts.now a.parts.now.members.now a.parts.now.ends.now a.parts.now.numbers.now a.parts.now.stops.now a.parts.now.kept.now c.requires.lent.1 c.requires.prepared.0 c.requires.prepared.1 a.p c.requires.p_bound.0 (omega (arith, c.if-p-lets.false))) c.requires.p_bound.1))))

pub write_stmt-returns : goal.write_stmt-returns
write_stmt-returns t c = let a = c.args in
    record { value = rows_as _ _ (stmt_match_is (rows_in a.rows.now) a.fuel (length a.work.now - a.h) a.parts.now.tokens.now a.parts.now.results a.parts.now.first a.parts.now.places.now (take a.h a.work.now) a.parts.now.starts.now a.parts.now.members.now a.parts.now.ends.now a.parts.now.numbers.now a.parts.now.stops.now a.parts.now.kept.now c.requires.lent.1 c.requires.prepared.0 c.requires.prepared.1 a.p c.requires.p_bound.0 (omega (arith, c.if-p-lets.false))) a.at a.table.now _ _ c.write_match.ensures.value; work_unchanged = c.write_match.ensures.work_unchanged }

pub write_stmts-loop-q-init : goal.write_stmts-loop-q-init
write_stmts-loop-q-init t c = let a = c.args in let z = stmts_begin (rows_in a.rows.now) a.fuel (length a.work.now - a.h) a.parts.now.tokens.now a.parts.now.results a.parts.now.first a.parts.now.places.now (take a.h a.work.now) a.parts.now.starts.now a.parts.now.members.now a.parts.now.ends.now a.parts.now.numbers.now a.parts.now.stops.now a.parts.now.kept.now c.requires.lent.1 c.requires.prepared.0 c.requires.prepared.1 a.taken.now a.at a.table.now c.requires.positions.1 in record { to_is = z.to_is; table_is = z.table_is; held = refl }

pub write_stmts-write_stmt-to-requires : goal.write_stmts-write_stmt-to-requires
write_stmts-write_stmt-to-requires t c = let a = c.args in (omega (arith, c.decreases), ((lent_on a.h a.work.now a.text.now _ _ c.requires.lent.0 c.loop-q.auto.work c.loop-q.auto.text, holds_now a.h a.work.now c.loop-q.work c.loop-q.invariant.held (rows_in a.rows.now) _ c.requires.lent.1), ((prepared_now a.h a.work.now c.loop-q.work c.loop-q.invariant.held a.parts.now.tokens.now a.parts.now.results a.parts.now.first a.parts.now.places.now a.parts.now.starts.now a.parts.now.members.now a.parts.now.ends.now a.parts.now.numbers.now c.requires.prepared.0, now_so a.h a.work.now c.loop-q.work c.loop-q.invariant.held c.loop-q.auto.work (λ hs left. Sized (rows_in a.rows.now) a.fuel left (reciprocals_first a.parts.now.tokens.now a.parts.now.results a.parts.now.first a.parts.now.places.now + length a.parts.now.places.now) hs a.parts.now.numbers.now a.parts.now.stops.now a.parts.now.kept.now) c.requires.prepared.1), (c.requires.positions.0 c.loop-q.q c.loop-q-test.true, now_so a.h a.work.now c.loop-q.work c.loop-q.invariant.held c.loop-q.auto.work (λ hs left. c.loop-q.to + length (stmt_run a.parts.now.tokens.now a.parts.now.results a.parts.now.first a.parts.now.places.now a.parts.now.numbers.now (scope_arms (rows_in a.rows.now) a.fuel left a.parts.now.tokens.now a.parts.now.results a.parts.now.first a.parts.now.places.now) (get_or a.taken.now c.loop-q.q 0)) ≤ most_rows) (entry_fits (rows_in a.rows.now) a.fuel (length a.work.now - a.h) a.parts.now.tokens.now a.parts.now.results a.parts.now.first a.parts.now.places.now (take a.h a.work.now) a.parts.now.starts.now a.parts.now.members.now a.parts.now.ends.now a.parts.now.numbers.now a.parts.now.stops.now a.parts.now.kept.now c.requires.lent.1 c.requires.prepared.0 c.requires.prepared.1 a.taken.now a.at a.table.now c.requires.positions.1 c.loop-q.q c.loop-q.to _ (record { to_is = c.loop-q.invariant.to_is; table_is = c.loop-q.invariant.table_is }) c.loop-q-test.true)))))

pub write_stmts-loop-q-preserved : goal.write_stmts-loop-q-preserved
write_stmts-loop-q-preserved t c = let a = c.args in let z = stmts_on (rows_in a.rows.now) a.fuel (length a.work.now - a.h) a.parts.now.tokens.now a.parts.now.results a.parts.now.first a.parts.now.places.now (take a.h a.work.now) a.parts.now.starts.now a.parts.now.members.now a.parts.now.ends.now a.parts.now.numbers.now a.parts.now.stops.now a.parts.now.kept.now c.requires.lent.1 c.requires.prepared.0 c.requires.prepared.1 a.taken.now a.at a.table.now c.requires.positions.1 c.loop-q.q c.loop-q.to _ (record { to_is = c.loop-q.invariant.to_is; table_is = c.loop-q.invariant.table_is }) c.write_stmt-to.result _ (before_so a.h a.work.now c.loop-q.work c.loop-q.invariant.held c.loop-q.auto.work (λ hs left. (c.write_stmt-to.result ≡ c.loop-q.to + length (stmt_run a.parts.now.tokens.now a.parts.now.results a.parts.now.first a.parts.now.places.now a.parts.now.numbers.now (scope_arms (rows_in a.rows.now) a.fuel left a.parts.now.tokens.now a.parts.now.results a.parts.now.first a.parts.now.places.now) (get_or a.taken.now c.loop-q.q 0))) × Laid c.loop-q.to (stmt_run a.parts.now.tokens.now a.parts.now.results a.parts.now.first a.parts.now.places.now a.parts.now.numbers.now (scope_arms (rows_in a.rows.now) a.fuel left a.parts.now.tokens.now a.parts.now.results a.parts.now.first a.parts.now.places.now) (get_or a.taken.now c.loop-q.q 0)) c.loop-q.table c.write_stmt-to.new.table) c.write_stmt-to.ensures.value) in record { to_is = z.to_is; table_is = z.table_is; held = c.write_stmt-to.ensures.work_unchanged ∙ c.loop-q.invariant.held }

pub write_stmts-returns : goal.write_stmts-returns
write_stmts-returns t c = let a = c.args in
    record { value = stmts_end (rows_in a.rows.now) a.fuel (length a.work.now - a.h) a.parts.now.tokens.now a.parts.now.results a.parts.now.first a.parts.now.places.now (take a.h a.work.now) a.parts.now.starts.now a.parts.now.members.now a.parts.now.ends.now a.parts.now.numbers.now a.parts.now.stops.now a.parts.now.kept.now c.requires.lent.1 c.requires.prepared.0 c.requires.prepared.1 a.taken.now a.at a.table.now c.requires.positions.1 c.loop-q.q c.loop-q.to _ (record { to_is = c.loop-q.invariant.to_is; table_is = c.loop-q.invariant.table_is }) (omega (arith, c.loop-q.auto.q-end, c.loop-q-test.false)); work_unchanged = c.loop-q.invariant.held }
