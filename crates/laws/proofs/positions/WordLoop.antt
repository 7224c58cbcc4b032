-- All rounds on words, with no bound to keep: where there is a best place, one extraction and then all rounds on what it gives; where there is none, the words as
-- they are. Assumes nothing.
use Prim.Native.Nat.{ℕ, zero, suc, ◌+◌, ◌-◌, ◌≤◌}
use native.Mathlib.Omega.{arith}
use native.Mathlib.Nat.{zero-add, suc-add}
use mathlib.Core.Path.{◌≡◌, refl, sym, ◌∙◌, ap}
use mathlib.Core.Bool.{Bool}
use mathlib.Core.Option.{Option, none, some}
use mathlib.Core.List.{List}
use Rattle.spec_tree.specs.Outcome.{Outcome, ok, ◌>>=◌}
use Rattle.spec_tree.specs.Facts.{all_operations}
use Rattle.spec_tree.specs.Tokens.{read, numbered}
use Rattle.laws.specs.positions.Places.{numbered_at, best_place}
use Rattle.laws.specs.positions.Rounds.{next_number, extract_words, rounds_words}
use Rattle.laws.proofs.positions.WordSteps.{Turn, one_turn, some_operation}
use Rattle.spec_tree.proofs.Outcomes.{then_known}

module _ (name_at : ℕ → List ℕ) (scoped : Bool) (k first : ℕ) where
  -- one extraction, of the tree at a place
  abbrev pub extract_at : List ℕ → ℕ → Outcome (List ℕ)
  extract_at ws p = extract_words (numbered_at ws p) (next_number k first (read numbered ws)) ws

  -- as many rounds as there are operations
  abbrev pub all_rounds : List ℕ → Outcome (List ℕ)
  all_rounds ws = rounds_words name_at (all_operations (read numbered ws)) scoped k first ws

  at_none : (fuel : ℕ) (ws : List ℕ) → best_place ws name_at scoped ≡ none → rounds_words name_at fuel scoped k first ws ≡ ok ws
  unfolding rounds_words
  at_none zero ws e = refl
  at_none (suc fuel) ws e =
      ap (λ (o : Option ℕ). elim o as (λ _. Outcome (List ℕ)) [ none ↦ ok ws | some p ↦ (extract_at ws p >>= λ vs. rounds_words name_at fuel scoped k first vs) ]) e

  at_some :
      (fuel : ℕ) (ws : List ℕ) (p : ℕ) → best_place ws name_at scoped ≡ some p
      → rounds_words name_at (suc fuel) scoped k first ws ≡ (extract_at ws p >>= λ vs. rounds_words name_at fuel scoped k first vs)
  unfolding rounds_words
  at_some fuel ws p e =
      ap (λ (o : Option ℕ). elim o as (λ _. Outcome (List ℕ)) [ none ↦ ok ws | some p ↦ (extract_at ws p >>= λ vs. rounds_words name_at fuel scoped k first vs) ]) e

  -- one more changes nothing where there are enough
  one_more : (fuel : ℕ) (ws : List ℕ) → Turn k first ws → all_operations (read numbered ws) ≤ fuel → rounds_words name_at (suc fuel) scoped k first ws ≡ rounds_words name_at fuel scoped k first ws
  one_more zero ws h l = go (best_place ws name_at scoped) refl
    where
      go : (o : Option ℕ) → best_place ws name_at scoped ≡ o → rounds_words name_at 1 scoped k first ws ≡ rounds_words name_at 0 scoped k first ws
      go none e = at_none 1 ws e ∙ sym (at_none 0 ws e)
      go (some p) e = absurd (let s = some_operation name_at scoped ws p e in omega arith)
  one_more (suc fuel) ws h l = go (λ vs t n. one_more fuel vs t n) (best_place ws name_at scoped) refl
    where
      go : ((vs : List ℕ) → Turn k first vs → all_operations (read numbered vs) ≤ fuel → rounds_words name_at (suc fuel) scoped k first vs ≡ rounds_words name_at fuel scoped k first vs)
          → (o : Option ℕ) → best_place ws name_at scoped ≡ o → rounds_words name_at (suc (suc fuel)) scoped k first ws ≡ rounds_words name_at (suc fuel) scoped k first ws
      go i none e = at_none (suc (suc fuel)) ws e ∙ sym (at_none (suc fuel) ws e)
      go i (some p) e =
          at_some (suc fuel) ws p e
          ∙ then_known (extract_at ws p) (λ vs. rounds_words name_at (suc fuel) scoped k first vs) (λ vs. rounds_words name_at fuel scoped k first vs)
          (λ vs z. let n = one_turn name_at scoped k first ws h p e vs z in let m = n.1 in i vs n.0 (omega arith))
          ∙ sym (at_some fuel ws p e)

  some_more : (more : ℕ) (ws : List ℕ) → Turn k first ws → rounds_words name_at (more + all_operations (read numbered ws)) scoped k first ws ≡ all_rounds ws
  some_more zero ws h = ap (λ (n : ℕ). rounds_words name_at n scoped k first ws) (zero-add (all_operations (read numbered ws)))
  some_more (suc more) ws h =
      ap (λ (n : ℕ). rounds_words name_at n scoped k first ws) (suc-add more (all_operations (read numbered ws)))
      ∙ one_more (more + all_operations (read numbered ws)) ws h (omega arith)
      ∙ some_more more ws h

  pub enough_rounds : (fuel : ℕ) (ws : List ℕ) → Turn k first ws → all_operations (read numbered ws) ≤ fuel → rounds_words name_at fuel scoped k first ws ≡ all_rounds ws
  enough_rounds fuel ws h l =
      let n = all_operations (read numbered ws) in
      let q : fuel ≡ (fuel - n) + n = omega arith in
      ap (λ (m : ℕ). rounds_words name_at m scoped k first ws) q ∙ some_more (fuel - n) ws h

  -- ---- the two turns of a loop

  pub rounds_done : (ws : List ℕ) → best_place ws name_at scoped ≡ none → all_rounds ws ≡ ok ws
  rounds_done ws e = at_none (all_operations (read numbered ws)) ws e

  pub rounds_go_on : (ws : List ℕ) → Turn k first ws → (p : ℕ) → best_place ws name_at scoped ≡ some p → all_rounds ws ≡ (extract_at ws p >>= λ vs. all_rounds vs)
  rounds_go_on ws h p e =
      let n = all_operations (read numbered ws) in
      let s = some_operation name_at scoped ws p e in
      let q : n ≡ suc (n - 1) = omega arith in
      ap (λ (m : ℕ). rounds_words name_at m scoped k first ws) q
      ∙ at_some (n - 1) ws p e
      ∙ then_known (extract_at ws p) (λ vs. rounds_words name_at (n - 1) scoped k first vs) (λ vs. all_rounds vs)
      (λ vs z. let t = one_turn name_at scoped k first ws h p e vs z in let m = t.1 in enough_rounds (n - 1) vs t.0 (omega arith))
