-- How many words reciprocals can take, and how many divisors there are to bind. Assumes nothing.
use Prim.Native.Nat.{ℕ, zero, suc, ◌+◌, ◌*◌, ◌≤◌}
use native.Mathlib.Omega.{arith}
use mathlib.Core.Path.{◌≡◌, refl, sym, ◌∙◌, ap, ap₂}
use mathlib.Core.Bool.{Bool}
use mathlib.Core.Option.{some}
use mathlib.Core.List.{List, [], ◌∷◌, map}
use lib.ListN.{length, take, drop, length-map}
use lib.Dec.{T}
use Rattle.spec_tree.specs.Tree.{Tree}
use Rattle.spec_tree.specs.Rows.{Row}
use Rattle.spec_tree.specs.Facts.{size, all_operations, all_nodes}
use Rattle.spec_tree.specs.Tokens.{read, numbered, name_in, trees_in}
use Rattle.spec_tree.proofs.TokenLaws.{complete_length}
use Rattle.spec_rewrite.proofs.Measure.{sum_of}
use Rattle.spec_cse.specs.Extract.{State, roots, reciprocals, sort_by_text, divisors, distinct, shared_divisors}
use Rattle.laws.proofs.cse.SizeCount.{total_size}
use Rattle.laws.proofs.cse.ReciprocalsCount.{bound_divisors}
use Rattle.laws.proofs.cse.DivisorsMost.{bound_most, reciprocals_total}
use Rattle.laws.specs.positions.Names.{is_number, symbols_pass}
use Rattle.laws.specs.positions.Places.{numbered_at, divisors_to_bind}
use Rattle.laws.specs.positions.Rounds.{by_number, state_of, reciprocals_on, reciprocals_words}
use Rattle.laws.proofs.positions.Renaming.{Renaming, renamed, KnownAll, first_known, rest_known, both_known, none_known, size_renamed, all_operations_renamed}
use Rattle.laws.proofs.positions.Extraction.{Every, shown, made_known, KnownBinding, KnownState, renamed_state, roots_renamed, listed_renamed, reciprocals_renamed}
use Rattle.laws.proofs.positions.RowNames.{names_of, words_known}
use Rattle.laws.proofs.positions.RoundsOn.{roots_of_state, reciprocals_on_state}
use Rattle.laws.proofs.positions.Coded.{read_again}
use Rattle.laws.proofs.positions.WordReciprocals.{to_bind_are, reciprocals_words_are, reciprocals_fit}
use Rattle.laws.proofs.positions.WordRounds.{written}
use Rattle.laws.proofs.positions.WordSteps.{words_size}

module _ (R : Renaming) where
  sizes_renamed : (l : List Tree) → total_size (map (renamed R) l) ≡ total_size l
  unfolding sum_of
  sizes_renamed [] = refl
  sizes_renamed (t ∷ l) = ap₂ ◌+◌ (size_renamed R t) (sizes_renamed l)

  take_known : (n : ℕ) (l : List Tree) → KnownAll R l → KnownAll R (take n l)
  take_known zero l h = none_known R
  take_known (suc n) [] h = none_known R
  take_known (suc n) (t ∷ l) h = both_known R t (take n l) (first_known R t l h) (take_known n l (rest_known R t l h))

  drop_known : (n : ℕ) (l : List Tree) → KnownAll R l → KnownAll R (drop n l)
  drop_known zero l h = h
  drop_known (suc n) [] h = h
  drop_known (suc n) (t ∷ l) h = drop_known n l (rest_known R t l h)

  bindings_known : (i : ℕ) (l : List Tree) → KnownAll R l → Every (KnownBinding R) (by_number i l)
  unfolding by_number
  bindings_known i [] h = tt
  bindings_known i (t ∷ l) h = ((made_known R i, first_known R t l h), bindings_known (suc i) l (rest_known R t l h))

  -- a list's state is known where the list is
  pub state_known : (k first : ℕ) (ts : List Tree) → KnownAll R ts → KnownState R (state_of k first ts)
  unfolding state_of
  state_known k first ts h = (take_known k ts h, bindings_known first (drop k ts) (drop_known k ts h))

module _ (rows : List Row) (scoped : Bool) (k first : ℕ) (ws : List ℕ) (m : ℕ) (complete : trees_in ws ≡ some m) (results : k ≤ m) (pass : T (symbols_pass (is_number rows) ws)) where
  abbrev R : Renaming
  R = names_of rows

  abbrev ts : List Tree
  ts = read numbered ws

  abbrev from : State
  from = state_of k first ts

  from_known : KnownState R from
  from_known = state_known R k first ts (words_known rows ws pass)

  roots_there : roots (renamed_state R from) ≡ map (renamed R) ts
  roots_there = roots_renamed R from ∙ ap (map (renamed R)) (roots_of_state k first ts)

  -- a divisor to bind is divided by twice
  pub divisors_most : 2 * length (divisors_to_bind ws (name_in rows) scoped) ≤ all_operations ts
  divisors_most =
      let b = bound_most scoped (renamed_state R from) in
      let l : bound_divisors scoped (renamed_state R from) ≡ map (renamed R) (map (numbered_at ws) (divisors_to_bind ws (name_in rows) scoped)) = bound_there in
      let n : length (bound_divisors scoped (renamed_state R from)) ≡ length (divisors_to_bind ws (name_in rows) scoped) =
      ap length l ∙ length-map (map (numbered_at ws) (divisors_to_bind ws (name_in rows) scoped)) (renamed R) ∙ length-map (divisors_to_bind ws (name_in rows) scoped) (numbered_at ws) in
      let o : all_operations (roots (renamed_state R from)) ≡ all_operations ts = ap all_operations roots_there ∙ all_operations_renamed R ts in
      omega (arith, b, n, o)
    where
      bound_there : bound_divisors scoped (renamed_state R from) ≡ map (renamed R) (map (numbered_at ws) (divisors_to_bind ws (name_in rows) scoped))
      bound_there =
          bound_is ∙ ap (λ (l : List Tree). sort_by_text (shared_divisors scoped l (distinct [] (divisors (all_nodes l))))) roots_there
          ∙ listed_renamed R scoped ts (words_known rows ws pass)
          ∙ ap (map (renamed R)) (to_bind_are ws (name_in rows) m complete scoped)
        where
          bound_is : bound_divisors scoped (renamed_state R from) ≡ sort_by_text (shared_divisors scoped (roots (renamed_state R from)) (distinct [] (divisors (all_nodes (roots (renamed_state R from))))))
          bound_is = (unfold bound_divisors in refl)

  -- four times the words after reciprocals
  pub words_most : 4 * length (reciprocals_words (name_in rows) scoped k first ws) ≤ 4 * length ws + all_operations ts * (length ws + 4)
  words_most =
      let us = reciprocals_on (shown R) scoped k first ts in
      let b = reciprocals_total scoped (renamed_state R from) in
      let len : k ≤ length ts = omega (arith, complete_length numbered ws m complete, results) in
      let before : total_size (roots (renamed_state R from)) ≡ length ws = ap (sum_of size) roots_there ∙ sizes_renamed R ts ∙ words_size ws in
      let o : all_operations (roots (renamed_state R from)) ≡ all_operations ts = ap all_operations roots_there ∙ all_operations_renamed R ts in
      let now : reciprocals scoped (renamed_state R from) ≡ renamed_state R (state_of k first us) =
      reciprocals_renamed R scoped from from_known ∙ ap (renamed_state R) (reciprocals_on_state (shown R) scoped k first ts len) in
      let after : total_size (roots (reciprocals scoped (renamed_state R from))) ≡ length (reciprocals_words (name_in rows) scoped k first ws) =
      ap (λ (s : State). total_size (roots s)) now
      ∙ ap (sum_of size) (roots_renamed R (state_of k first us) ∙ ap (map (renamed R)) (roots_of_state k first us))
      ∙ sizes_renamed R us
      ∙ ap (sum_of size) (sym (read_again us (reciprocals_fit (name_in rows) scoped k first ws m complete)))
      ∙ words_size (written us)
      ∙ ap length (sym (reciprocals_words_are (name_in rows) scoped k first ws m complete)) in
      let goal : all_operations (roots (renamed_state R from)) * (total_size (roots (renamed_state R from)) + 4) ≡ all_operations ts * (length ws + 4) =
      ap₂ (λ (x y : ℕ). x * (y + 4)) o before in
      omega (arith, b, after, before, goal)
