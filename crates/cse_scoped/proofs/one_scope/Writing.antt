-- The rows of a match and of a statement, given what their parts write (01, "Scoped fusion"). Assumes nothing.
use Prim.Native.Nat.{ℕ, ◌+◌, ◌-◌, ◌≤◌, ◌<◌}
use native.Mathlib.Omega.{arith}
use mathlib.Core.Path.{◌≡◌, refl, sym, ◌∙◌, ap, ap₂, subst}
use mathlib.Core.List.{List, ◌∷◌, ◌++◌, append_assoc}
use lib.ListN.{length, get_or, take, drop, length-append}
use Rattle.spec_tree.specs.Outcome.{Outcome, ok}
use Rattle.spec_tree.specs.Rows.{Row}
use Rattle.laws.specs.switches.Switches.{arm_count}
use Rattle.fusion.specs.place.Overlay.{overlay}
use Rattle.fusion.specs.place.Parts.{place_groups, group_at, group_start, group_end, match_run, match_head, key_run, names_run}
use Rattle.fusion.specs.place.Whole.{ArmsTold, arms_told, group_told}
use Rattle.cse_scoped.specs.one_scope.Answers.{inner, Laid, arms_answer, ArmsWrote, words_of}
use Rattle.cse_scoped.specs.one_scope.Frame.{most_rows, Holds, IsGroup, ArmsFit, group_again, GroupSized}
use Rattle.statements.specs.Prepared.{Grouped, begin_of, head_run}
use Rattle.cse_scoped.specs.one_scope.Armed.{Armed}
use Rattle.cse_scoped.specs.one_scope.Armed as armed
use Rattle.cse_scoped.proofs.one_scope.Laying.{laid_exact, laid_append, laid_past, laid_as}
use Rattle.cse_scoped.proofs.one_scope.ArmLaws.{arms_within}
use Rattle.statements.proofs.Groups.{end_is, begin_is, group_long, group_inside, group_part}
use Rattle.cse_scoped.proofs.one_scope.Sound.{fused, all_few, holds_later}
use Rattle.fusion.proofs.groups.Groups.{ends_length}

-- a match's rows are those before its arms, and its arms'
pub match_is : (hs : List ℕ) (gs : List (List ℕ)) (numbers arms : List ℕ) (g : ℕ) → match_run hs gs numbers arms g ≡ head_run hs gs numbers g ++ arms
unfolding match_run head_run
match_is hs gs numbers arms g = ap (λ (l : List ℕ). match_head hs gs numbers g ∷ l) (sym (append_assoc (key_run hs gs numbers g) (names_run hs gs numbers g) arms))

module _ (rows : List Row) (fuel left : ℕ) (held members ends numbers : List ℕ) (g from size : ℕ) (kept : List ℕ) (at : ℕ) where
  abbrev gs : List (List ℕ)
  gs = place_groups held

  abbrev first : ℕ
  first = get_or numbers (group_start gs g) 0

  abbrev arms_rows : List ℕ
  arms_rows = words_of (group_again rows fuel left held numbers g)

  abbrev run : List ℕ
  run = match_run held gs numbers arms_rows g

  abbrev head : List ℕ
  head = head_run held gs numbers g

  module _ (h : Holds rows first held) (gr : Grouped held members ends numbers) (sz : GroupSized rows fuel left held numbers g from size kept) (l : g < length ends) (fits : at + length run ≤ most_rows) where
    arms_are : arms_rows ≡ sz.arms.words
    unfolding words_of
    arms_are = ap words_of sz.told

    run_long : length run ≡ length head + size
    run_long = ap length (match_is held gs numbers arms_rows g) ∙ (length-append head arms_rows ∙ ap (λ (k : ℕ). length head + k) (ap length arms_are ∙ sym sz.size_is))

    run_laid : (ws old new : List ℕ) → arms_rows ≡ ws → Laid at (head ++ ws) old new → Laid at run old new
    run_laid ws old new e l = laid_as at run (head ++ ws) old new (match_is held gs numbers arms_rows g ∙ ap (λ (z : List ℕ). head ++ z) e) l

    pub head_fits : at + length head ≤ 9223372036854775808
    head_fits = omega (arith, run_long)

    pub all_fits : at + length head + size ≤ 9223372036854775808
    all_fits = omega (arith, run_long)

    -- ---- where the group stands

    inside : g < length gs
    inside = omega (arith, ap length gr.ends_are ∙ ends_length 0 gs)

    pub begins : begin_of ends g ≡ group_start gs g
    begins = ap (λ (e : List ℕ). begin_of e g) gr.ends_are ∙ begin_is gs g inside

    pub ends_at : get_or ends g 0 ≡ group_start gs g + length (group_at gs g)
    ends_at = ap (λ (e : List ℕ). get_or e g 0) gr.ends_are ∙ (end_is gs g inside ∙ group_long gs g inside)

    pub ends_within : get_or ends g 0 ≤ length members
    ends_within = omega (arith, ap (λ (e : List ℕ). get_or e g 0) gr.ends_are ∙ end_is gs g inside, group_inside gs g inside, ap length gr.members_are)

    here : IsGroup held (group_at gs g)
    here = record { number = g; there = inside; is = refl }

    pub some_member : 1 ≤ length (group_at gs g)
    some_member = (fused rows first held (group_at gs g) h here).some_member

    pub begin_within : group_start gs g < length numbers
    begin_within = omega (arith, ends_at, ends_within, some_member, gr.numbered)

    pub first_small : first ≤ 549755813888
    first_small = gr.small (group_start gs g) begin_within

    pub members_few : length members ≤ 3640
    members_few = omega (arith, ap length gr.members_are, all_few rows first held h)

    module _ (start : ℕ) (starts : start ≡ begin_of ends g) where
      abbrev part : List ℕ
      part = take (get_or ends g 0 - start) (drop start members)

      abbrev count : ℕ
      count = get_or ends g 0 - start

      start_is : start ≡ group_start gs g
      start_is = starts ∙ begins

      pub part_is : part ≡ group_at gs g
      part_is =
          let e : get_or ends g 0 ≡ group_end gs g = ap (λ (e : List ℕ). get_or e g 0) gr.ends_are ∙ end_is gs g inside in
          ap (λ (k : ℕ). take (k - start) (drop start members)) e
          ∙ (ap (λ (k : ℕ). take (group_end gs g - k) (drop k members)) start_is
          ∙ (ap (λ (z : List ℕ). take (group_end gs g - group_start gs g) (drop (group_start gs g) z)) gr.members_are ∙ group_part gs g inside))

      pub start_under : start ≤ get_or ends g 0
      start_under = omega (arith, start_is, ends_at)

      pub start_within : start < length numbers
      start_within = omega (arith, start_is, begin_within)

      pub number_small : get_or numbers start 0 ≤ 549755813888
      number_small = subst (λ (k : ℕ). get_or numbers k 0 ≤ 549755813888) (sym start_is) first_small

      pub part_group : IsGroup held part
      part_group = record { number = g; there = inside; is = part_is }

      number_is : get_or numbers start 0 + count ≡ first + length (group_at gs g)
      number_is = ap₂ (λ (a b : ℕ). a + b) (ap (λ (k : ℕ). get_or numbers k 0) start_is) (omega (arith, start_is, ends_at))

      pub part_holds : Holds rows (get_or numbers start 0 + count) held
      part_holds = holds_later rows first (get_or numbers start 0 + count) held (omega (arith, number_is)) h

      told : arms_told (inner rows fuel left) held part (get_or numbers start 0 + count) (arm_count held (get_or part 0 0)) ≡ ok sz.arms
      unfolding group_again group_told
      told =
          ap (λ (z : List ℕ). arms_told (inner rows fuel left) held z (get_or numbers start 0 + count) (arm_count held (get_or z 0 0))) part_is
          ∙ (ap (λ (k : ℕ). arms_told (inner rows fuel left) held (group_at gs g) k (arm_count held (get_or (group_at gs g) 0 0))) number_is ∙ sz.told)

      pub part_fits : ArmsFit rows fuel left held part (get_or numbers start 0 + count) (at + length head)
      part_fits n r q e =
          omega (arith, arms_within (inner rows fuel left) held part (get_or numbers start 0 + count) (arm_count held (get_or part 0 0)) sz.arms told n r q e, sz.size_is, all_fits)

      module _ (r : Armed) (old table new : List ℕ) (headed : table ≡ overlay at head old) (body : ℕ) (bodied : body ≡ at + length head)
          (given : (r ≡ arms_answer (arms_told (inner rows fuel left) held part (get_or numbers start 0 + count) (arm_count held (get_or part 0 0))) body)
          × ArmsWrote (arms_told (inner rows fuel left) held part (get_or numbers start 0 + count) (arm_count held (get_or part 0 0))) body table new) where
        abbrev DoneBy : Armed → Type 0
        DoneBy (armed.Rows place after more) = (place ≡ at + length run) × Laid at run old new
        DoneBy (armed.Refused q) = ⊥

        wrote : Laid body sz.arms.words table new
        wrote = subst (λ (o : Outcome ArmsTold). ArmsWrote o body table new) told given.1

        done_by : DoneBy (armed.Rows (body + length sz.arms.words) sz.arms.next sz.arms.extracted)
        done_by = (
          omega (arith, bodied, run_long, sz.size_is),
          run_laid sz.arms.words old new arms_are (laid_append at head sz.arms.words old table new (laid_exact at head old table headed) body bodied wrote),
        )

        answered : r ≡ armed.Rows (body + length sz.arms.words) sz.arms.next sz.arms.extracted
        unfolding arms_answer
        answered = given.0 ∙ ap (λ (o : Outcome ArmsTold). arms_answer o body) told

        pub match_done : (place after more : ℕ) → r ≡ armed.Rows place after more → (place ≡ at + length run) × Laid at run old new
        match_done place after more e = subst DoneBy (sym answered ∙ e) done_by

        pub match_never : (q : ℕ) → r ≡ armed.Refused q → ⊥
        match_never q e = subst DoneBy (sym answered ∙ e) done_by

    -- where they have no room the place moves on
    pub match_past : (old table : List ℕ) → table ≡ overlay at head old → (body : ℕ) → body ≡ at + length head → length table < body + size → (body + size ≡ at + length run) × Laid at run old table
    match_past old table headed body bodied past =
        let l = laid_exact at head old table headed in
        let same = match_is held gs numbers arms_rows g in (
          omega (arith, bodied, run_long),
          laid_as at run (head ++ arms_rows) old table same (laid_past at head arms_rows old table l (omega (arith, past, bodied, run_long, ap length same, l.long))),
        )

    -- where the arms' rows are kept they are copied
    pub kept_low : from + size ≤ 9223372036854775808
    kept_low = sz.low

    pub match_kept : (old table new : List ℕ) → table ≡ overlay at head old → (body : ℕ) → body ≡ at + length head → from + size ≤ length kept
        → new ≡ overlay body (take ((from + size) - from) (drop from kept)) table → (body + size ≡ at + length run) × Laid at run old new
    match_kept old table new headed body bodied within copied =
        let same : (from + size) - from ≡ size = omega arith in
        let part : take ((from + size) - from) (drop from kept) ≡ sz.arms.words = ap (λ (k : ℕ). take k (drop from kept)) same ∙ sz.here within in (
          omega (arith, bodied, run_long),
          run_laid sz.arms.words old new arms_are
              (laid_append at head sz.arms.words old table new (laid_exact at head old table headed) body bodied
              (laid_exact body sz.arms.words table new (copied ∙ ap (λ (z : List ℕ). overlay body z table) part))),
        )
