-- All rounds on words are those of the trees that the words are, with their names (01, "Extraction"): results, bindings by number, and refusals. Assumes nothing.
use Prim.Native.Nat.{ℕ, suc, ◌+◌}
use mathlib.Core.Path.{◌≡◌, refl, sym, ◌∙◌, ap, ap₂}
use mathlib.Core.Bool.{Bool}
use mathlib.Core.Option.{some}
use mathlib.Core.List.{List, [], ◌∷◌, map}
use lib.ListN.{length, take, drop, length-map}
use lib.Dec.{T}
use Rattle.spec_tree.specs.Outcome.{Outcome, ok, ◌>>=◌}
use Rattle.spec_tree.specs.Tree.{xname, Tree}
use Rattle.spec_tree.specs.Facts.{all_operations}
use Rattle.spec_tree.specs.Rows.{Row}
use Rattle.spec_tree.specs.Tokens.{read, numbered, name_in, trees_in}
use Rattle.spec_tree.proofs.TokenLaws.{map_take, map_drop}
use Rattle.spec_tree.proofs.TokenCode.{renamed_name}
use Rattle.spec_cse.specs.Extract.{Binding, State, extract_all}
use Rattle.laws.specs.positions.Names.{is_number, symbols_pass}
use Rattle.laws.specs.positions.Rounds.{by_number, next_number, state_of, rounds_on, rounds_words}
use Rattle.laws.proofs.positions.Renaming.{Renaming, renamed}
use Rattle.laws.proofs.positions.Extraction.{shown, renamed_binding, renamed_state, extract_all_renamed}
use Rattle.laws.proofs.positions.RoundsOn.{then_same, extract_all_on}
use Rattle.laws.proofs.positions.RowNames.{names_of, words_known, words_renamed}
use Rattle.laws.proofs.positions.Coded.{read_again}
use Rattle.laws.proofs.positions.WordRounds.{InCode, written, rounds_words_are}
use Rattle.spec_tree.proofs.Outcomes.{then_then}

module _ (R : Renaming) where
  bindings_renamed : (i : ℕ) (l : List Tree) → map (renamed_binding R) (by_number i l) ≡ by_number i (map (renamed R) l)
  unfolding by_number renamed_name
  bindings_renamed i [] = refl
  bindings_renamed i (t ∷ l) = ap (λ (r : List Binding). record { name = xname i; expr = renamed R t } ∷ r) (bindings_renamed (suc i) l)

  state_renamed : (k first : ℕ) (us : List Tree) → renamed_state R (state_of k first us) ≡ state_of k first (map (renamed R) us)
  unfolding state_of next_number
  state_renamed k first us =
      let d = map_drop (renamed R) k us in
      let n : length (drop k us) ≡ length (drop k (map (renamed R) us)) = sym (length-map (drop k us) (renamed R)) ∙ ap length d in
      ap₂ (λ (x : List Tree) (y : List Binding). record { results = x; lets = y; next = first + length (drop k us) }) (map_take (renamed R) k us)
      (bindings_renamed first (drop k us) ∙ ap (by_number first) d)
      ∙ ap (λ (m : ℕ). record { results = take k (map (renamed R) us); lets = by_number first (drop k (map (renamed R) us)); next = first + m }) n

pub rounds_are :
    (rows : List Row) (scoped : Bool) (first : ℕ) (ws : List ℕ) (m : ℕ) → trees_in ws ≡ some m → T (symbols_pass (is_number rows) ws)
    → let k = length (read numbered ws) in
    extract_all scoped first (read (name_in rows) ws)
    ≡ (rounds_words (name_in rows) (all_operations (read numbered ws)) scoped k first ws >>= λ vs. ok (state_of k first (read (name_in rows) vs)))
rounds_are rows scoped first ws m c h =
    let R = names_of rows in
    let ts = read numbered ws in
    let k = length ts in
    let o = rounds_on (shown R) (all_operations ts) scoped k first ts in
    let w = rounds_words_are (name_in rows) (all_operations ts) scoped k first ws m c in
    let left : extract_all scoped first (read (name_in rows) ws) ≡ (o >>= λ us. ok (renamed_state R (state_of k first us))) =
    ap (extract_all scoped first) (words_renamed rows ws)
    ∙ (extract_all_renamed R scoped first ts (words_known rows ws h)).1
    ∙ ap (λ (x : Outcome State). x >>= λ s. ok (renamed_state R s)) (extract_all_on (shown R) scoped first ts)
    ∙ then_then o (λ us. ok (state_of k first us)) (λ s. ok (renamed_state R s)) in
    let right : (rounds_words (name_in rows) (all_operations ts) scoped k first ws >>= λ vs. ok (state_of k first (read (name_in rows) vs)))
    ≡ (o >>= λ us. ok (state_of k first (read (name_in rows) (written us)))) =
    ap (λ (x : Outcome (List ℕ)). x >>= λ vs. ok (state_of k first (read (name_in rows) vs))) w.1
    ∙ then_then o (λ us. ok (written us)) (λ vs. ok (state_of k first (read (name_in rows) vs))) in
    left
    ∙ then_same InCode o (λ us. ok (renamed_state R (state_of k first us))) (λ us. ok (state_of k first (read (name_in rows) (written us)))) w.0
    (λ us q.
    ap ok
    (state_renamed R k first us ∙ ap (state_of k first) (ap (map (renamed R)) (sym (read_again us q)) ∙ sym (words_renamed rows (written us)))))
    ∙ sym right
