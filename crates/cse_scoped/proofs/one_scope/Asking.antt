-- What an arm asks of its scope and what the arms of a group ask of each arm is given, and their sums are words (01, "Scoped fusion"). Assumes nothing.
use Prim.Native.Nat.{ℕ, zero, suc, ◌+◌, ◌*◌, ◌≤◌, ◌<◌}
use native.Mathlib.Omega.{arith}
use mathlib.Core.Path.{◌≡◌, refl, sym, ◌∙◌, subst}
use mathlib.Core.List.{List}
use lib.ListN.{length, get_or, take, length-append}
use lib.Dec.{T}
use Rattle.spec_tree.specs.Outcome.{Outcome, ok, refused, by}
use Rattle.spec_tree.specs.Rows.{Row}
use Rattle.laws.specs.positions.Names.{is_number, symbols_pass}
use Rattle.rounds.specs.kept.Sound.{extractable}
use Rattle.laws.specs.switches.Switches.{arm_count}
use Rattle.laws.specs.switches.Columns.{column_words}
use Rattle.fusion.specs.place.Whole.{Told, ArmsTold, arms_told, group_told, scope_told}
use Rattle.cse_scoped.specs.one_scope.Answers.{ArmsWrote, scope_answer, ScopeLaid, told_rows, inner, arm_told, arms_answer}
use Rattle.cse_scoped.specs.one_scope.Frame.{most_rows, Lent, Holds, IsGroup, ArmFits, ArmsFit}
use Rattle.cse_scoped.specs.one_scope.Scoped.{Scoped}
use Rattle.cse_scoped.specs.one_scope.Scoped as scoped
use Rattle.cse_scoped.specs.one_scope.Armed.{Armed}
use Rattle.cse_scoped.specs.one_scope.Armed as armed
use Rattle.cse_scoped.proofs.one_scope.ArmLaws.{ArmDone, done_refused, arm_refused, arm_of, ArmsSo, arms_back}
use Rattle.cse_scoped.proofs.one_scope.Sound.{told_small, column_good, column_passes, arms_few, holds_later}
use Rattle.spec_tree.proofs.Outcomes.{got}

pub lent_on : (used : ℕ) (work text work' text' : List ℕ) → Lent used work text → length work' ≡ length work → length text' ≡ length text → Lent used work' text'
lent_on used work text work' text' l e f = record { words = omega (arith, l.words, e); inside = omega (arith, l.inside, e); bytes = omega (arith, l.bytes, f) }

-- ---- one arm

module _ (rows : List Row) (fuel left next : ℕ) (held group : List ℕ) (h : Holds rows next held) (g : IsGroup held group) (a : ℕ) (l : a < arm_count held (get_or group 0 0)) where
  abbrev column : List ℕ
  column = column_words held group a

  -- its words in front of what is left
  module _ (at : ℕ) (fits : ArmFits rows fuel left held group next a at) (n : ℕ) (work : List ℕ) (long : length work ≡ left) (is : take n work ≡ column) where
    pub column_scoped : T (extractable rows next (take n work)) × T (symbols_pass (is_number rows) (take n work))
    column_scoped =
        (subst (λ (ws : List ℕ). T (extractable rows next ws)) (sym is) (column_good rows next held group h g a l), subst (λ (ws : List ℕ). T (symbols_pass (is_number rows) ws)) (sym is) (column_passes rows next held group h g a l))

    pub column_fits : at + 1 + told_rows (scope_told rows fuel (length work) 35 next (take n work)) ≤ most_rows
    column_fits =
        subst (λ (m : ℕ). at + 1 + told_rows (scope_told rows fuel m 35 next (take n work)) ≤ most_rows) (sym long)
        (subst (λ (ws : List ℕ). at + 1 + told_rows (scope_told rows fuel left 35 next ws) ≤ most_rows) (sym is) (omega (arith, fits)))

    -- what it answers is small
    module _ (r : Scoped) (given : r ≡ scope_answer (scope_told rows fuel (length work) 35 next (take n work)) (at + 1)) where
      abbrev AnswerSmall : Scoped → Type 0
      AnswerSmall (scoped.Told end steps after extracted) = steps ≤ 2048
      AnswerSmall (scoped.Refused q) = Unit {0}

      answer_small : (o : Outcome Told) → scope_told rows fuel (length work) 35 next (take n work) ≡ o → AnswerSmall (scope_answer o (at + 1))
      unfolding scope_answer
      answer_small (ok t) e = (told_small rows fuel (length work) 35 next (take n work) column_scoped.0 column_scoped.1 t e).steps
      answer_small (refused i) e = tt

      pub steps_few : (end steps after extracted : ℕ) → r ≡ scoped.Told end steps after extracted → steps ≤ 2048
      steps_few end steps after extracted e = subst AnswerSmall (sym given ∙ e) (answer_small (scope_told rows fuel (length work) 35 next (take n work)) refl)

  pub arm_too_deep : fuel ≡ 0 → (at : ℕ) (old : List ℕ) → ArmDone (arm_told (inner rows fuel left) held group next a) at old (armed.Refused 23) old
  unfolding scope_told
  arm_too_deep z at old = subst (λ (f : ℕ). ArmDone (arm_told (inner rows f left) held group next a) at old (armed.Refused 23) old) (sym z) (done_refused (arm_told (inner rows 0 left) held group next a) (by 23) (arm_refused (inner rows 0 left) held group next a (by 23) refl) at old old)

-- what the scope of a column in front of what is left answers is what that of the column does
pub column_answers : (rows : List Row) (fuel left next : ℕ) (held group : List ℕ) (a at : ℕ) (old : List ℕ) (n : ℕ) (work : List ℕ) → length work ≡ left → take n work ≡ column_words held group a
    → (r : Scoped) (new : List ℕ)
    → (r ≡ scope_answer (scope_told rows fuel (length work) 35 next (take n work)) (at + 1)) × ScopeLaid (scope_told rows fuel (length work) 35 next (take n work)) (at + 1) old new
    → (r ≡ scope_answer (inner rows fuel left next (column_words held group a)) (at + 1)) × ScopeLaid (inner rows fuel left next (column_words held group a)) (at + 1) old new
column_answers rows fuel left next held group a at old n work long is r new given =
    subst (λ (m : ℕ). (r ≡ scope_answer (scope_told rows fuel m 35 next (column_words held group a)) (at + 1)) × ScopeLaid (scope_told rows fuel m 35 next (column_words held group a)) (at + 1) old new) long
    (subst (λ (ws : List ℕ). (r ≡ scope_answer (scope_told rows fuel (length work) 35 next ws) (at + 1)) × ScopeLaid (scope_told rows fuel (length work) 35 next ws) (at + 1) old new) is given)

-- ---- all arms of a group

-- how large the answer of n arms is
pub record ArmsSmall (next n : ℕ) (r : ArmsTold) : Type 0 where
  pub rows : length r.words ≤ n * 288230376151711745
  pub made : r.extracted ≤ n * 4294967296
  pub grows : next ≤ r.next
  pub low : 0 < n → r.next ≤ 2147485696

module _ (rows : List Row) (fuel left next : ℕ) (held group : List ℕ) (h : Holds rows next held) (g : IsGroup held group) where
  abbrev told_arms : ℕ → Outcome ArmsTold
  told_arms n = arms_told (inner rows fuel left) held group next n

  pub arms_small : (n : ℕ) → n ≤ arm_count held (get_or group 0 0) → (r : ArmsTold) → told_arms n ≡ ok r → ArmsSmall next n r
  unfolding arms_told
  arms_small zero l r e = subst (ArmsSmall next 0) (got e) (record { rows = omega arith; made = omega arith; grows = omega arith; low = λ p. absurd (omega arith) })
  arms_small (suc n) l r e =
      let b = arms_back (inner rows fuel left) held group next n r e in
      let s = arms_small n (omega arith) b.before b.before_told in
      let later = holds_later rows next b.before.next held s.grows h in
      let t = told_small rows fuel left 35 b.before.next (column_words held group n)
      (column_good rows b.before.next held group later g n (omega arith)) (column_passes rows b.before.next held group later g n (omega arith)) b.last b.last_told in
      subst (ArmsSmall next (suc n)) b.is (record {
        rows = omega (arith, length-append b.before.words (arm_of group b.last).words, s.rows, t.rows);
        made = omega (arith, s.made, t.made);
        grows = omega (arith, s.grows, t.grows);
        low = λ p. t.low;
      })

  module _ (at : ℕ) (old : List ℕ) (n end number extracted : ℕ) (table : List ℕ) (so : ArmsSo (inner rows fuel left) held group next at old n end number extracted table) where
    pub so_small : n ≤ arm_count held (get_or group 0 0) → ArmsSmall next n so.done
    so_small l = arms_small n l so.done so.told

    pub so_holds : n ≤ arm_count held (get_or group 0 0) → Holds rows number held
    so_holds l = holds_later rows next number held (omega (arith, (so_small l).grows, so.number_is)) h

    pub so_fits : n < arm_count held (get_or group 0 0) → ArmsFit rows fuel left held group next at → ArmFits rows fuel left held group number n end
    so_fits l fits =
        subst (λ (k : ℕ). ArmFits rows fuel left held group number n k) (sym so.end_is) (subst (λ (k : ℕ). ArmFits rows fuel left held group k n (at + length so.done.words)) (sym so.number_is) (fits n so.done l so.told))

    pub so_made : n ≤ arm_count held (get_or group 0 0) → extracted ≤ 1099511627776
    so_made l = omega (arith, (so_small l).made, so.extracted_is, arms_few rows next held group h g)

-- ---- arms that are measured

told_rows_small : (rows : List Row) (fuel left row next : ℕ) (ws : List ℕ) → T (extractable rows next ws) → T (symbols_pass (is_number rows) ws) → told_rows (scope_told rows fuel left row next ws) ≤ 288230376151711744
unfolding told_rows
told_rows_small rows fuel left row next ws g p = go (scope_told rows fuel left row next ws) refl
  where
    go : (o : Outcome Told) → scope_told rows fuel left row next ws ≡ o → told_rows o ≤ 288230376151711744
    go (ok t) e = (told_small rows fuel left row next ws g p t e).rows
    go (refused i) e = omega arith

-- from a low place on they fit
pub measure_fits : (rows : List Row) (fuel left next : ℕ) (held group : List ℕ) → Holds rows next held → IsGroup held group → (at : ℕ) → at ≤ 288230376151711744 → ArmsFit rows fuel left held group next at
measure_fits rows fuel left next held group h g at low n r l e =
    let s = arms_small rows fuel left next held group h g n (omega arith) r e in
    let later = holds_later rows next r.next held s.grows h in
    let t = told_rows_small rows fuel left 35 r.next (column_words held group n) (column_good rows r.next held group later g n l) (column_passes rows r.next held group later g n l) in
    omega (arith, s.rows, t, arms_few rows next held group h g)

pub group_is : (rows : List Row) (fuel left next : ℕ) (held group : List ℕ) (at : ℕ) (old new : List ℕ) (r : Armed)
    → (r ≡ arms_answer (arms_told (inner rows fuel left) held group (next + length group) (arm_count held (get_or group 0 0))) at)
    × ArmsWrote (arms_told (inner rows fuel left) held group (next + length group) (arm_count held (get_or group 0 0))) at old new
    → (r ≡ arms_answer (group_told (inner rows fuel left) held group next) at) × ArmsWrote (group_told (inner rows fuel left) held group next) at old new
unfolding group_told
group_is rows fuel left next held group at old new r e = e
