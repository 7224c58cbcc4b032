-- The flat form from the words that unfolding gives: they may be extracted from, refused rounds are refused by 10, and after rounds the end finds its trees and
-- has room for them (01, "Turned down": Extract). Assumes nothing.
use Prim.Native.Nat.{ℕ, ◌+◌, ◌≤◌}
use native.Mathlib.Omega.{arith}
use mathlib.Core.Path.{◌≡◌, sym, ◌∙◌, ap, subst}
use mathlib.Core.Bool.{false}
use mathlib.Core.Option.{some}
use mathlib.Core.List.{List}
use lib.ListN.{length, drop}
use lib.Dec.{T}
use Rattle.spec_tree.specs.Outcome.{Refusal, ok, refused, by}
use Rattle.spec_tree.specs.Rows.{Row, Table, trees}
use Rattle.spec_tree.specs.Layout.{table_of, laid_out}
use Rattle.spec_tree.specs.Tokens.{read, numbered, name_in, trees_in}
use Rattle.fmt.specs.checked.Check.{rows_in}
use Rattle.laws.specs.positions.Names.{is_number, symbols_pass}
use Rattle.laws.specs.positions.Places.{divisors_to_bind}
use Rattle.laws.proofs.positions.RowNames.{tree_words}
use Rattle.rounds.specs.kept.Sound.{extractable}
use Rattle.rounds.proofs.kept.Steps.{ready_so}
use Rattle.rounds.proofs.kept.Looping.{ending}
use Rattle.rounds.specs.Rounds.{all_rounds}
use Rattle.reciprocals.proofs.bindings.Parts.{AllThere}
use Rattle.reciprocals.proofs.bindings.There.{to_bind_there}
use Rattle.reciprocals.specs.final.Final.{final_rows}
use Rattle.cse_flat.specs.refined.Parts.{extract_from}
use Rattle.cse_flat.proofs.refined.Starting.{rows_are, start_results, start_passes, start_short, start_ready}
use Rattle.cse_flat.proofs.refined.Leaving.{Left, rounds_leave, rounds_ten, left_trees, left_complete, left_results, left_made, left_divisors, left_short}
use Rattle.cse_flat.proofs.refined.Ending.{flat_done, flat_refused}
use Rattle.cse_flat.proofs.refined.Unfolding.{roots_are}

module _ (rows roots : List ℕ) (lent : ℕ) (h : T (laid_out rows roots)) (ws : List ℕ) (same : ws ≡ tree_words (table_of rows roots)) where
  abbrev t : Table
  t = table_of rows roots

  abbrev start : List ℕ
  start = tree_words t

  abbrev k : ℕ
  k = length (trees t)

  -- ---- before the rounds

  pub flat_extractable : T (extractable (rows_in rows) 0 ws)
  flat_extractable =
      subst (λ (l : List ℕ). T (extractable (rows_in rows) 0 l)) (sym same)
      (subst (λ (r : List Row). T (extractable r 0 start)) (sym (rows_are rows roots h)) (ready_so t.rows 0 start (start_ready rows roots h)))

  pub flat_symbols : T (symbols_pass (is_number (rows_in rows)) ws)
  flat_symbols =
      subst (λ (l : List ℕ). T (symbols_pass (is_number (rows_in rows)) l)) (sym same)
      (subst (λ (r : List Row). T (symbols_pass (is_number r) start)) (sym (rows_are rows roots h)) (start_passes rows roots h))

  pub flat_few : length ws ≤ 1024
  flat_few = omega (arith, ap length same, start_short rows roots h)

  -- ---- the rounds

  rounds_there : all_rounds (rows_in rows) false 0 ws ≡ ending t.rows false k 0 start start
  unfolding all_rounds
  rounds_there =
      ap (λ (l : List ℕ). all_rounds (rows_in rows) false 0 l) same
      ∙ ap (λ (r : List Row). all_rounds r false 0 start) (rows_are rows roots h)
      ∙ ap (λ (n : ℕ). ending t.rows false n 0 start start) (start_results rows roots h)

  pub flat_ten : (i : Refusal) → all_rounds (rows_in rows) false 0 ws ≡ refused i → extract_from false rows roots lent ≡ refused (by 10)
  flat_ten i e =
      let f = sym rounds_there ∙ e in
      flat_refused rows roots lent h i f
      ∙ ap refused (rounds_ten t.rows false k 0 start (sym (start_results rows roots h)) (start_ready rows roots h) (start_passes rows roots h) i f)

  module _ (vs : List ℕ) (e : all_rounds (rows_in rows) false 0 ws ≡ ok vs) where
    pub left : Left t.rows false k 0 start vs
    left = rounds_leave t.rows false k 0 start (sym (start_results rows roots h)) (start_ready rows roots h) (start_passes rows roots h) vs (sym rounds_there ∙ e)

    abbrev pub to_bind : List ℕ
    to_bind = divisors_to_bind vs (name_in (rows_in rows)) false

    to_bind_same : to_bind ≡ divisors_to_bind vs (name_in t.rows) false
    to_bind_same = ap (λ (r : List Row). divisors_to_bind vs (name_in r) false) (rows_are rows roots h)

    -- ---- after the rounds

    pub flat_rest : extract_from false rows roots lent ≡ final_rows lent (length roots) to_bind vs
    flat_rest =
        flat_done rows roots lent h vs (sym rounds_there ∙ e)
        ∙ ap (λ (ps : List ℕ). final_rows lent k ps vs) (sym to_bind_same)
        ∙ ap (λ (n : ℕ). final_rows lent n to_bind vs) (roots_are rows roots)

    pub flat_complete : trees_in vs ≡ some (left_trees t.rows false k 0 start vs left)
    flat_complete = left_complete t.rows false k 0 start vs left

    pub flat_results : length roots ≤ left_trees t.rows false k 0 start vs left
    flat_results = omega (arith, left_results t.rows false k 0 start vs left, roots_are rows roots)

    pub flat_shorter : length vs ≤ length start
    flat_shorter = left_short t.rows false k 0 start vs left

    pub flat_short : length vs ≤ 1024
    flat_short = omega (arith, flat_shorter, start_short rows roots h)

    pub flat_room : length (drop (length roots) (read numbered vs)) + length to_bind ≤ length start
    flat_room =
        let m = left_made t.rows false k 0 start vs left in
        let d = left_divisors t.rows false k 0 start vs left in
        let s = ap length to_bind_same in
        let n : length (drop k (read numbered vs)) ≡ length (drop (length roots) (read numbered vs)) = ap (λ (j : ℕ). length (drop j (read numbered vs))) (roots_are rows roots) in
        omega (arith, m, d, s, n)

    pub flat_there : AllThere vs to_bind
    flat_there = to_bind_there vs (left_trees t.rows false k 0 start vs left) flat_complete (name_in (rows_in rows)) false

    -- as many bindings as there are trees past the results
    pub flat_made : length (drop (length (read numbered ws)) (read numbered vs)) ≡ length (drop (length roots) (read numbered vs))
    flat_made =
        ap (λ (l : List ℕ). length (drop (length (read numbered l)) (read numbered vs))) same
        ∙ ap (λ (j : ℕ). length (drop j (read numbered vs))) (start_results rows roots h ∙ roots_are rows roots)
