-- The arms of a match one after another (01, "Scoped fusion"): each is what its scope gives, with its row in front, and the first that is refused ends them. Assumes
-- nothing.
use Prim.Native.Nat.{ℕ, zero, suc, ◌+◌, ◌-◌, ◌≤◌, ◌<◌}
use native.Mathlib.Omega.{arith}
use mathlib.Core.Path.{◌≡◌, refl, sym, ◌∙◌, ap, ap₂, subst}
use mathlib.Core.List.{List, [], ◌∷◌, ◌++◌}
use mathlib.Core.Bool.{Bool, true, false, not}
use lib.ListN.{length, length-append}
use lib.Dec.{T, ltb, ltb→lt, nltb→le}
use Rattle.spec_tree.specs.Outcome.{Refusal, Outcome, ok, refused, ◌>>=◌}
use Rattle.spec_tree.specs.Tokens.{word}
use Rattle.spec_cse.specs.AnswerRows.{arm_row}
use Rattle.laws.specs.switches.Columns.{column_words}
use Rattle.fusion.specs.place.Overlay.{overlay}
use Rattle.fusion.specs.place.Whole.{Told, ArmsTold, arms_told}
use Rattle.cse_scoped.specs.one_scope.Answers.{scope_answer, Laid, ScopeLaid, told_rows, arm_told, arms_answer, ArmsWrote}
use Rattle.cse_scoped.specs.one_scope.Scoped.{Scoped}
use Rattle.cse_scoped.specs.one_scope.Scoped as scoped
use Rattle.cse_scoped.specs.one_scope.Armed.{Armed}
use Rattle.cse_scoped.specs.one_scope.Armed as armed
use Rattle.cse_scoped.proofs.one_scope.Laying.{laid_none, laid_append, laid_row}
use Rattle.spec_tree.proofs.Outcomes.{got}

-- arms and then one more
abbrev pub and_arm : ArmsTold → ArmsTold → ArmsTold
and_arm r a = record { words = r.words ++ a.words; next = a.next; extracted = r.extracted + a.extracted }

-- an arm from its scope
abbrev pub arm_of : List ℕ → Told → ArmsTold
arm_of g t = record { words = word arm_row (t.steps + length g) ∷ t.words; next = t.next; extracted = t.extracted }

module _ (scope : ℕ → List ℕ → Outcome Told) (hs g : List ℕ) where
  -- ---- one arm, from what its scope answers

  module _ (next a : ℕ) where
    pub arm_ok : (t : Told) → scope next (column_words hs g a) ≡ ok t → arm_told scope hs g next a ≡ ok (arm_of g t)
    unfolding arm_told
    arm_ok t e = ap (λ (o : Outcome Told). o >>= λ t. ok (arm_of g t)) e

    pub arm_refused : (i : Refusal) → scope next (column_words hs g a) ≡ refused i → arm_told scope hs g next a ≡ refused i
    unfolding arm_told
    arm_refused i e = ap (λ (o : Outcome Told). o >>= λ t. ok (arm_of g t)) e

  -- ---- one more arm

  module _ (next n : ℕ) where
    pub arms_more : (r a : ArmsTold) → arms_told scope hs g next n ≡ ok r → arm_told scope hs g r.next n ≡ ok a → arms_told scope hs g next (suc n) ≡ ok (and_arm r a)
    unfolding arms_told arm_told
    arms_more r a e f = ap (λ (o : Outcome ArmsTold). o >>= λ r. scope r.next (column_words hs g n) >>= λ a. ok (and_arm r (arm_of g a))) e ∙ go (scope r.next (column_words hs g n)) f
      where
        go : (o : Outcome Told) → (o >>= λ t. ok (arm_of g t)) ≡ ok a → (o >>= λ t. ok (and_arm r (arm_of g t))) ≡ ok (and_arm r a)
        go o f = with_arm o ∙ ap (λ (p : Outcome ArmsTold). p >>= λ b. ok (and_arm r b)) f
          where
            with_arm : (o : Outcome Told) → (o >>= λ t. ok (and_arm r (arm_of g t))) ≡ ((o >>= λ t. ok (arm_of g t)) >>= λ b. ok (and_arm r b))
            with_arm (ok t) = refl
            with_arm (refused i) = refl

    pub arms_stop : (r : ArmsTold) (i : Refusal) → arms_told scope hs g next n ≡ ok r → arm_told scope hs g r.next n ≡ refused i → arms_told scope hs g next (suc n) ≡ refused i
    unfolding arms_told arm_told
    arms_stop r i e f = ap (λ (o : Outcome ArmsTold). o >>= λ r. scope r.next (column_words hs g n) >>= λ a. ok (and_arm r (arm_of g a))) e ∙ go (scope r.next (column_words hs g n)) f
      where
        go : (o : Outcome Told) → (o >>= λ t. ok (arm_of g t)) ≡ refused i → (o >>= λ t. ok (and_arm r (arm_of g t))) ≡ refused i
        go o f = with_arm o ∙ ap (λ (p : Outcome ArmsTold). p >>= λ b. ok (and_arm r b)) f
          where
            with_arm : (o : Outcome Told) → (o >>= λ t. ok (and_arm r (arm_of g t))) ≡ ((o >>= λ t. ok (arm_of g t)) >>= λ b. ok (and_arm r b))
            with_arm (ok t) = refl
            with_arm (refused i) = refl

    pub arms_stay : (i : Refusal) → arms_told scope hs g next n ≡ refused i → arms_told scope hs g next (suc n) ≡ refused i
    unfolding arms_told
    arms_stay i e = ap (λ (o : Outcome ArmsTold). o >>= λ r. scope r.next (column_words hs g n) >>= λ a. ok (and_arm r (arm_of g a))) e

  -- once refused, always
  pub arms_stopped : (next n m : ℕ) (i : Refusal) → arms_told scope hs g next n ≡ refused i → arms_told scope hs g next (m + n) ≡ refused i
  arms_stopped next n zero i e = subst (λ (k : ℕ). arms_told scope hs g next k ≡ refused i) (omega arith) e
  arms_stopped next n (suc m) i e = subst (λ (k : ℕ). arms_told scope hs g next k ≡ refused i) (omega arith) (arms_stay next (m + n) i (arms_stopped next n m i e))

-- ---- what one arm answers and leaves, by what its scope does

abbrev pub ArmDone : Outcome ArmsTold → ℕ → List ℕ → Armed → List ℕ → Type 0
ArmDone o at old r new = (r ≡ arms_answer o at) × ArmsWrote o at old new

pub done_ok : (o : Outcome ArmsTold) (a : ArmsTold) → o ≡ ok a → (at : ℕ) (old new : List ℕ) → Laid at a.words old new → (end : ℕ) → end ≡ at + length a.words → ArmDone o at old (armed.Rows end a.next a.extracted) new
unfolding arms_answer
done_ok o a e at old new h end f =
    subst (λ (o : Outcome ArmsTold). ArmDone o at old (armed.Rows end a.next a.extracted) new) (sym e) (ap (λ (k : ℕ). armed.Rows k a.next a.extracted) f, h)

pub done_refused : (o : Outcome ArmsTold) (i : Refusal) → o ≡ refused i → (at : ℕ) (old new : List ℕ) → ArmDone o at old (armed.Refused i.number) new
unfolding arms_answer
done_refused o i e at old new = subst (λ (o : Outcome ArmsTold). ArmDone o at old (armed.Refused i.number) new) (sym e) (refl, tt)

module _ (scope : ℕ → List ℕ → Outcome Told) (hs g : List ℕ) (next a at : ℕ) (old : List ℕ) (r : Scoped) (after_scope : List ℕ)
    (given : (r ≡ scope_answer (scope next (column_words hs g a)) (at + 1)) × ScopeLaid (scope next (column_words hs g a)) (at + 1) old after_scope) where
  abbrev arm_outcome : Outcome ArmsTold
  arm_outcome = arm_told scope hs g next a

  abbrev ArmBy : Scoped → Type 0
  ArmBy (scoped.Told end steps after extracted) =
      (new : List ℕ) → new ≡ overlay at (word arm_row (steps + length g) ∷ []) after_scope → ArmDone arm_outcome at old (armed.Rows end after extracted) new
  ArmBy (scoped.Refused n) = ArmDone arm_outcome at old (armed.Refused n) after_scope

  arm_by_outcome : (o : Outcome Told) → scope next (column_words hs g a) ≡ o → ScopeLaid o (at + 1) old after_scope → ArmBy (scope_answer o (at + 1))
  unfolding scope_answer
  arm_by_outcome (ok t) e s = λ new h.
      done_ok arm_outcome (arm_of g t) (arm_ok scope hs g next a t e) at old new
      (laid_row at (word arm_row (t.steps + length g)) t.words old after_scope new s h)
      (at + 1 + length t.words) (omega arith)
  arm_by_outcome (refused i) e s = done_refused arm_outcome i (arm_refused scope hs g next a i e) at old after_scope

  arm_by : ArmBy r
  arm_by = subst ArmBy (sym given.0) (arm_by_outcome (scope next (column_words hs g a)) refl given.1)

  pub arm_ends : (end steps after extracted : ℕ) → r ≡ scoped.Told end steps after extracted → (new : List ℕ) → new ≡ overlay at (word arm_row (steps + length g) ∷ []) after_scope → ArmDone arm_outcome at old (armed.Rows end after extracted) new
  arm_ends end steps after extracted e = subst ArmBy e arm_by

  pub arm_stops : (n : ℕ) → r ≡ scoped.Refused n → ArmDone arm_outcome at old (armed.Refused n) after_scope
  arm_stops n e = subst ArmBy e arm_by

-- ---- all arms

module _ (scope : ℕ → List ℕ → Outcome Told) (hs g : List ℕ) (next at : ℕ) (old : List ℕ) where
  -- after the first n arms
  pub record ArmsSo (n end number extracted : ℕ) (table : List ℕ) : Type 0 where
    pub done : ArmsTold
    pub told : arms_told scope hs g next n ≡ ok done
    pub end_is : end ≡ at + length done.words
    pub number_is : number ≡ done.next
    pub extracted_is : extracted ≡ done.extracted
    pub table_is : Laid at done.words old table

  pub arms_begin : ArmsSo 0 at next 0 old
  unfolding arms_told
  arms_begin = record { done = record { words = []; next = next; extracted = 0 }; told = refl; end_is = omega arith; number_is = refl; extracted_is = refl; table_is = laid_none at old }

  module _ (n end number extracted : ℕ) (table : List ℕ) (so : ArmsSo n end number extracted table) (r : Armed) (new : List ℕ)
      (given : ArmDone (arm_told scope hs g number n) end table r new) where
    abbrev MoreBy : Armed → Type 0
    MoreBy (armed.Rows place after more) = ArmsSo (suc n) place after (extracted + more) new
    MoreBy (armed.Refused q) = (i : Refusal) × (arms_told scope hs g next (suc n) ≡ refused i) × (i.number ≡ q)

    more_by_outcome : (o : Outcome ArmsTold) → arm_told scope hs g number n ≡ o → ArmsWrote o end table new → MoreBy (arms_answer o end)
    unfolding arms_answer
    more_by_outcome (ok a) e w = record {
      done = and_arm so.done a;
      told = arms_more scope hs g next n so.done a so.told (subst (λ (k : ℕ). arm_told scope hs g k n ≡ ok a) so.number_is e);
      end_is = omega (arith, so.end_is, length-append so.done.words a.words);
      number_is = refl;
      extracted_is = ap (λ (k : ℕ). k + a.extracted) so.extracted_is;
      table_is = laid_append at so.done.words a.words old table new so.table_is end so.end_is w;
    }
    more_by_outcome (refused i) e w = (i, arms_stop scope hs g next n so.done i so.told (subst (λ (k : ℕ). arm_told scope hs g k n ≡ refused i) so.number_is e), refl)

    more_by : MoreBy r
    more_by = subst MoreBy (sym given.0) (more_by_outcome (arm_told scope hs g number n) refl given.1)

    pub arms_go_on : (place after more : ℕ) → r ≡ armed.Rows place after more → ArmsSo (n + 1) place after (extracted + more) new
    arms_go_on place after more e = subst (λ (k : ℕ). ArmsSo k place after (extracted + more) new) (omega arith) (subst MoreBy e more_by)

    pub arms_end_refused : (count : ℕ) → n < count → (q : ℕ) → r ≡ armed.Refused q → ArmDone (arms_told scope hs g next count) at old (armed.Refused q) new
    arms_end_refused count h q e =
        let m = subst MoreBy e more_by in
        let s : arms_told scope hs g next count ≡ refused m.0 = subst (λ (k : ℕ). arms_told scope hs g next k ≡ refused m.0) (omega arith) (arms_stopped scope hs g next (suc n) (count - suc n) m.0 m.1) in
        subst (λ (k : ℕ). ArmDone (arms_told scope hs g next count) at old (armed.Refused k) new) m.2 (done_refused (arms_told scope hs g next count) m.0 s at old new)

  pub arms_all : (n end number extracted : ℕ) (table : List ℕ) → ArmsSo n end number extracted table → (count : ℕ) → n ≡ count → ArmDone (arms_told scope hs g next count) at old (armed.Rows end number extracted) table
  arms_all n end number extracted table so count e =
      subst (λ (k : ℕ). ArmDone (arms_told scope hs g next k) at old (armed.Rows end number extracted) table) e
      (subst (λ (k : ℕ). ArmDone (arms_told scope hs g next n) at old (armed.Rows end k extracted) table) (sym so.number_is)
      (subst (λ (k : ℕ). ArmDone (arms_told scope hs g next n) at old (armed.Rows end so.done.next k) table) (sym so.extracted_is)
      (done_ok (arms_told scope hs g next n) so.done so.told at old table so.table_is end so.end_is)))

-- ---- the arms before the last

pub never_ok : {A : Type 0} {a : A} {i : Refusal} → ◌≡◌ {A = Outcome A} (refused i) (ok a) → ⊥
never_ok {A} {a} {i} e = subst Is e tt
  where
    Is : Outcome A → Type 0
    Is (ok c) = ⊥
    Is (refused i) = Unit {0}

module _ (scope : ℕ → List ℕ → Outcome Told) (hs g : List ℕ) (next n : ℕ) (r : ArmsTold) where
  pub record ArmsBack : Type 0 where
    pub before : ArmsTold
    pub last : Told
    pub before_told : arms_told scope hs g next n ≡ ok before
    pub last_told : scope before.next (column_words hs g n) ≡ ok last
    pub is : and_arm before (arm_of g last) ≡ r

  pub arms_back : arms_told scope hs g next (suc n) ≡ ok r → ArmsBack
  unfolding arms_told
  arms_back e = first (arms_told scope hs g next n) refl e
    where
      second : (b : ArmsTold) → arms_told scope hs g next n ≡ ok b → (o : Outcome Told) → scope b.next (column_words hs g n) ≡ o → (o >>= λ a. ok (and_arm b (arm_of g a))) ≡ ok r → ArmsBack
      second b f (ok t) s q = record { before = b; last = t; before_told = f; last_told = s; is = got q }
      second b f (refused i) s q = absurd (never_ok q)

      first : (o : Outcome ArmsTold) → arms_told scope hs g next n ≡ o → (o >>= λ r. scope r.next (column_words hs g n) >>= λ a. ok (and_arm r (arm_of g a))) ≡ ok r → ArmsBack
      first (ok b) f q = second b f (scope b.next (column_words hs g n)) refl q
      first (refused i) f q = absurd (never_ok q)

-- ---- the rows of an arm among those of all

pub data Or (A B : Type 0) : Type 0 where
  first : A → Or A B
  second : B → Or A B

pub lt_or_eq : (m k : ℕ) → m ≤ k → Or (m < k) (m ≡ k)
lt_or_eq m k h = decide (ltb m k) (ltb→lt m k) (nltb→le m k)
  where
    decide : (t : Bool) → (T t → m < k) → (T (not t) → k ≤ m) → Or (m < k) (m ≡ k)
    decide true y z = first (y tt)
    decide false y z = let w = z tt in second (omega arith)

module _ (scope : ℕ → List ℕ → Outcome Told) (hs g : List ℕ) (next : ℕ) where
  within_step : (count : ℕ) (a : ArmsTold) → arms_told scope hs g next (suc count) ≡ ok a → (n : ℕ) (r : ArmsTold) → arms_told scope hs g next n ≡ ok r
      → ((b : ArmsTold) → arms_told scope hs g next count ≡ ok b → n < count → length r.words + suc (told_rows (scope r.next (column_words hs g n))) ≤ length b.words)
      → Or (n < count) (n ≡ count) → length r.words + suc (told_rows (scope r.next (column_words hs g n))) ≤ length a.words
  unfolding told_rows
  within_step count a e n r f earlier o = by_order o
    where
      b : ArmsBack scope hs g next count a
      b = arms_back scope hs g next count a e

      k : length a.words ≡ length b.before.words + suc (length b.last.words)
      k = sym (ap (λ (z : ArmsTold). length z.words) b.is) ∙ length-append b.before.words (arm_of g b.last).words

      by_order : Or (n < count) (n ≡ count) → length r.words + suc (told_rows (scope r.next (column_words hs g n))) ≤ length a.words
      by_order (first q) = omega (arith, earlier b.before b.before_told q, k)
      by_order (second q) =
          let same : r ≡ b.before = got (sym f ∙ (ap (arms_told scope hs g next) q ∙ b.before_told)) in
          let t : told_rows (scope r.next (column_words hs g n)) ≡ length b.last.words =
          ap told_rows (ap₂ (λ (z : ArmsTold) (j : ℕ). scope z.next (column_words hs g j)) same q ∙ b.last_told) in
          omega (arith, t, k, ap (λ (z : ArmsTold). length z.words) same)

  pub arms_within : (count : ℕ) (a : ArmsTold) → arms_told scope hs g next count ≡ ok a
      → (n : ℕ) (r : ArmsTold) → n < count → arms_told scope hs g next n ≡ ok r → length r.words + suc (told_rows (scope r.next (column_words hs g n))) ≤ length a.words
  arms_within zero a e n r l f = absurd (omega arith)
  arms_within (suc count) a e n r l f = within_step count a e n r f (λ b p q. arms_within count b p n r q f) (lt_or_eq n count (omega arith))
