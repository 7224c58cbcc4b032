-- What rounds leave where they are not refused (01, "Extraction"): words such as they started from, with as many more trees as bindings were made, and few enough
-- divisors to bind; and where they are refused, it is by 10. Assumes nothing.
use Prim.Native.Nat.{ℕ, zero, suc, ◌+◌, ◌≤◌}
use native.Mathlib.Omega.{arith}
use mathlib.Core.Path.{◌≡◌, refl, sym, ◌∙◌, ap, subst}
use mathlib.Core.Bool.{Bool}
use mathlib.Core.Option.{Option, none, some}
use mathlib.Core.List.{List}
use lib.ListN.{length, drop, length-drop}
use lib.Dec.{T}
use Rattle.spec_tree.specs.Bytes.{every}
use Rattle.spec_tree.specs.Outcome.{Refusal, Outcome, ok, refused, by, ◌>>=◌}
use Rattle.spec_tree.specs.Facts.{all_operations}
use Rattle.spec_tree.specs.Rows.{Row}
use Rattle.spec_tree.specs.Tokens.{read, numbered, name_in, trees_in}
use Rattle.spec_tree.proofs.TokenLaws.{complete_length}
use Rattle.spec_cse.specs.Extract.{extract_all}
use Rattle.laws.proofs.cse.Refusals.{Ten, only_at, extract_all_ten}
use Rattle.fmt.specs.checked.Check.{word_ok}
use Rattle.laws.specs.positions.Names.{is_number, symbols_pass}
use Rattle.laws.specs.positions.Places.{numbered_at, best_place, divisors_to_bind}
use Rattle.laws.specs.positions.Rounds.{next_number, extract_words, state_of}
use Rattle.laws.proofs.positions.WordRoom.{divisors_most}
use Rattle.laws.proofs.positions.WordSteps.{some_operation, numbers_kept}
use Rattle.rounds.proofs.kept.Words.{words_taken}
use Rattle.rounds.proofs.kept.Steps.{Ready, inside, operations_words}
use Rattle.rounds.proofs.kept.Looping.{Going, ending, going_first, going_done, going_refused, going_on, going_less, number_there}
use Rattle.rounds.proofs.kept.Whole.{rounds_are}
use Rattle.spec_tree.proofs.Outcomes.{got}

never_both : {A : Type 0} {a : A} {i : Refusal} → ◌≡◌ {A = Outcome A} (ok a) (refused i) → ⊥
never_both e = let z : ◌≡◌ {A = ℕ} 0 1 = cc in omega arith

module _ (rows : List Row) (scoped : Bool) (k first : ℕ) (start : List ℕ) where
  -- rounds that have come to their end
  pub record Left (vs : List ℕ) : Type 0 where
    pub made : ℕ
    pub going : Going rows scoped k first start vs made
    pub pass : T (symbols_pass (is_number rows) vs)

  walk :
      (n : ℕ) (ws : List ℕ) (made : ℕ) → all_operations (read numbered ws) ≤ n → Going rows scoped k first start ws made → T (symbols_pass (is_number rows) ws)
      → (vs : List ℕ) → ending rows scoped k first start start ≡ ok vs → Left vs
  walk zero ws made l g s vs e = go (best_place ws (name_in rows) scoped) refl
    where
      go : (o : Option ℕ) → best_place ws (name_in rows) scoped ≡ o → Left vs
      go none f = subst Left (got (sym (going_done rows scoped k first start ws made g f).0 ∙ e)) (record { made = made; going = g; pass = s })
      go (some p) f = absurd (let m = some_operation (name_in rows) scoped ws p f in omega arith)
  walk (suc n) ws made l g s vs e = go (λ us m q h z. walk n us m q h z vs e) (best_place ws (name_in rows) scoped) refl
    where
      go : ((us : List ℕ) (m : ℕ) → all_operations (read numbered us) ≤ n → Going rows scoped k first start us m → T (symbols_pass (is_number rows) us) → Left vs)
          → (o : Option ℕ) → best_place ws (name_in rows) scoped ≡ o → Left vs
      go i none f = subst Left (got (sym (going_done rows scoped k first start ws made g f).0 ∙ e)) (record { made = made; going = g; pass = s })
      go i (some p) f = by_outcome (extract_words (numbered_at ws p) (first + made) ws) refl
        where
          by_outcome : (o : Outcome (List ℕ)) → extract_words (numbered_at ws p) (first + made) ws ≡ o → Left vs
          by_outcome (ok us) z =
              let less = going_less rows scoped k first start ws made g p f us z in
              i us (suc made) (omega arith) (going_on rows scoped k first start ws made g p f us z)
              (numbers_kept (is_number rows) ws g.ready.trees g.ready.complete s p (inside rows scoped (first + made) ws g.ready p f) (first + made) us z)
          by_outcome (refused r) z = absurd (never_both (sym e ∙ going_refused rows scoped k first start ws made g p f r z))

  module _ (results : k ≡ length (read numbered start)) (ready : Ready rows first start) (pass : T (symbols_pass (is_number rows) start)) where
    pub rounds_leave : (vs : List ℕ) → ending rows scoped k first start start ≡ ok vs → Left vs
    rounds_leave vs e = walk (all_operations (read numbered start)) start 0 (omega arith) (going_first rows scoped k first start results ready) pass vs e

    -- refused rounds are refused by 10
    pub rounds_ten : (i : Refusal) → ending rows scoped k first start start ≡ refused i → i ≡ by 10
    rounds_ten i e =
        let r = rounds_are rows scoped first start ready.trees ready.complete pass in
        let f : ending rows scoped (length (read numbered start)) first start start ≡ refused i = subst (λ (n : ℕ). ending rows scoped n first start start ≡ refused i) results e in
        only_at Ten (extract_all scoped first (read (name_in rows) start)) i
        (r ∙ ap (λ (o : Outcome (List ℕ)). o >>= λ vs. ok (state_of (length (read numbered start)) first (read (name_in rows) vs))) f)
        (extract_all_ten scoped first (read (name_in rows) start))

  module _ (vs : List ℕ) (left : Left vs) where
    abbrev pub left_trees : ℕ
    left_trees = left.going.ready.trees

    pub left_complete : trees_in vs ≡ some left_trees
    left_complete = left.going.ready.complete

    pub left_results : k ≤ left_trees
    left_results = left.going.results

    pub left_words : T (every (word_ok rows) vs)
    left_words = subst T (sym (words_taken rows vs left_trees left_complete)) left.going.ready.taken

    pub left_next : next_number k first (read numbered vs) ≡ first + left.made
    left_next = left.going.next

    -- one tree for each result, and one for each binding
    pub left_made : length (drop k (read numbered vs)) ≡ left.made
    left_made = omega (arith, number_there k first (read numbered vs), left_next)

    pub left_count : left_trees ≡ k + left.made
    left_count = omega (arith, left_made, left_results, complete_length numbered vs left_trees left_complete, length-drop k (read numbered vs))

    -- divisors to bind and bindings made are together no more than the words at the start
    pub left_divisors : length (divisors_to_bind vs (name_in rows) scoped) + left.made ≤ length start
    left_divisors =
        let d = divisors_most rows scoped k first vs left_trees left_complete left_results left.pass in
        omega (arith, d, left.going.fewer, operations_words start)

    pub left_short : length vs ≤ length start
    left_short = left.going.short
