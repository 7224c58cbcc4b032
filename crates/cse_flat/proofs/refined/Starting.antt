-- The words that extraction starts from, where rows pass 9 (01, "Turned down": Extract): none lacks an operand, they are at most 1,024, each is one of a tree that
-- print takes, no `__xN` is among them, and their symbols are numbers of rows. Assumes nothing.
use Prim.Native.Nat.{ℕ, suc, ◌≤◌}
use native.Mathlib.Omega.{arith}
use mathlib.Core.Path.{◌≡◌, refl, sym, ◌∙◌, ap, subst}
use mathlib.Core.Bool.{Bool, ◌&&◌}
use mathlib.Core.Option.{some}
use mathlib.Core.List.{List, [], ◌∷◌, map}
use lib.ListN.{length}
use lib.Dec.{T, leb, leb→le}
use Rattle.spec_tree.specs.Bytes.{every}
use Rattle.spec_tree.specs.Tree.{Name, input, xname, mname, Tree, Forest, Sym, Const, Op, nil, ◌◂◌, folds}
use Rattle.spec_tree.specs.Rows.{Row, Table, trees, occurrences, within_limits}
use Rattle.spec_tree.specs.Passes.{all_of, of_list, of_paper, operands_ok, expression, expressions, passes}
use Rattle.spec_tree.specs.Layout.{table_of, laid_out}
use Rattle.spec_tree.specs.Tokens.{number_in, name_in, read, numbered, trees_in}
use Rattle.spec_tree.proofs.Formed.{operand_count}
use Rattle.spec_tree.proofs.Logic.{and_left, and_right, and_both}
use Rattle.spec_tree.proofs.LayoutLaws.{laid_out_passes}
use Rattle.spec_tree.proofs.TokenLaws.{complete_length}
use Rattle.spec_tree.proofs.TokenCode.{unnumbered, all_tokens_length, renamed_name, renamed as RenamedBy}
use Rattle.spec_rewrite.proofs.Names.{holds_all}
use Rattle.laws.proofs.cse.RoundsCount.{made_before}
use Rattle.fmt.specs.checked.Check.{rows_in}
use Rattle.laws.specs.positions.Names.{is_number, symbols_pass}
use Rattle.laws.specs.positions.Rounds.{next_number}
use Rattle.laws.proofs.positions.Renaming.{renamed, renamed_each}
use Rattle.laws.proofs.positions.RowNames.{names_of, tree_words, table_complete, table_words_pass, table_renamed}
use Rattle.laws.proofs.positions.Calls.{laid_expressions}
use Rattle.laws.proofs.positions.WordSteps.{first_turn}
use Rattle.rounds.specs.kept.Sound.{numbered_below}
use Rattle.rounds.proofs.kept.Passing.{taken, taken_each, all_taken}
use Rattle.rounds.proofs.kept.Words.{name_ok, names_below}
use Rattle.rounds.proofs.kept.Steps.{Ready}
use Rattle.rounds.proofs.kept.Looping.{number_first}

-- ---- an expression of 01 under its names is a tree that print takes under their numbers

module _ (rows : List Row) where
  name_taken : (n : Name) → T (of_list (renamed_name unnumbered (name_in rows) n)) → T (name_ok rows n)
  unfolding of_list renamed_name name_ok
  name_taken (input s) h = h
  name_taken (xname n) h = tt
  name_taken (mname n) h = tt

  abbrev tests : Forest → List Bool
  tests f = folds of_list of_paper (λ k l. operands_ok k (length l) && all_of l) f

  mutual
    unfolding expression taken RenamedBy all_of operand_count

    tree_taken : (t : Tree) → T (expression (renamed (names_of rows) t)) → T (taken (name_ok rows) t)
    tree_taken (Sym n) h = name_taken n h
    tree_taken (Const c) h = h
    tree_taken (Op k f) h =
        let g = renamed_each (names_of rows) f in
        and_both (operands_ok k (operand_count f)) (taken_each (name_ok rows) f)
        (subst (λ (n : ℕ). T (operands_ok k n)) (as_many f) (and_left (operands_ok k (length (tests g))) (all_of (tests g)) h))
        (each_taken f (and_right (operands_ok k (length (tests g))) (all_of (tests g)) h))

    each_taken : (f : Forest) → T (all_of (tests (renamed_each (names_of rows) f))) → T (taken_each (name_ok rows) f)
    each_taken nil h = tt
    each_taken (t ◂ f) h =
        and_both (taken (name_ok rows) t) (taken_each (name_ok rows) f)
        (tree_taken t (and_left (expression (renamed (names_of rows) t)) (all_of (tests (renamed_each (names_of rows) f))) h))
        (each_taken f (and_right (expression (renamed (names_of rows) t)) (all_of (tests (renamed_each (names_of rows) f))) h))

    as_many : (f : Forest) → length (tests (renamed_each (names_of rows) f)) ≡ operand_count f
    as_many nil = refl
    as_many (t ◂ f) = ap suc (as_many f)

  trees_taken : (l : List Tree) → T (expressions (map (renamed (names_of rows)) l)) → T (all_taken (name_ok rows) l)
  unfolding expressions all_taken
  trees_taken [] h = tt
  trees_taken (t ∷ l) h =
      and_both (taken (name_ok rows) t) (all_taken (name_ok rows) l)
      (tree_taken t (and_left (expression (renamed (names_of rows) t)) (expressions (map (renamed (names_of rows)) l)) h))
      (trees_taken l (and_right (expression (renamed (names_of rows) t)) (expressions (map (renamed (names_of rows)) l)) h))

-- ---- a table's words

module _ (t : Table) (h : T (passes (trees t))) (e : T (expressions (trees t))) where
  abbrev ws : List ℕ
  ws = tree_words t

  words_taken_here : T (all_taken (name_ok t.rows) (read numbered ws))
  words_taken_here = trees_taken t.rows (read numbered ws) (subst (λ (l : List Tree). T (expressions l)) (sym (table_renamed t e)) e)

  no_name : T (every (numbered_below 0) ws)
  no_name =
      let ts = read numbered ws in
      let l : length ts ≡ length (trees t) = complete_length numbered ws (length (trees t)) (table_complete t e) in
      let n : next_number (length (trees t)) 0 ts ≡ 0 = ap (λ (k : ℕ). next_number k 0 ts) (sym l) ∙ number_first 0 ts in
      subst T (sym (names_below 0 ws)) (subst (λ (n : ℕ). T (holds_all (made_before n) ts)) n (first_turn t h).known)

  words_ready : Ready t.rows 0 ws
  words_ready = record { trees = length (trees t); complete = table_complete t e; taken = words_taken_here; below = no_name }

-- ---- rows that pass 9

limits_of : (ts : List Tree) → T (passes ts) → occurrences ts ≤ 1024
unfolding passes within_limits
limits_of ts h =
    let g = and_left (within_limits ts) (expressions ts) (and_right (leb (length ts) 64) (within_limits ts && expressions ts) h) in
    leb→le (occurrences ts) 1024 (and_left (leb (occurrences ts) 1024) _ g)

module _ (rows roots : List ℕ) (h : T (laid_out rows roots)) where
  abbrev pub table : Table
  table = table_of rows roots

  -- the words of the roots' trees, as `unfold` writes them
  abbrev pub start : List ℕ
  start = tree_words table

  pub rows_are : rows_in rows ≡ table.rows
  unfolding table_of
  rows_are = refl

  pub start_complete : trees_in start ≡ some (length (trees table))
  start_complete = table_complete table (laid_expressions rows roots h)

  pub start_results : length (read numbered start) ≡ length (trees table)
  start_results = complete_length numbered start (length (trees table)) start_complete

  pub start_passes : T (symbols_pass (is_number table.rows) start)
  start_passes = table_words_pass table (laid_expressions rows roots h)

  pub start_short : length start ≤ 1024
  start_short = omega (arith, all_tokens_length (number_in table.rows) (trees table), limits_of (trees table) (laid_out_passes rows roots h))

  pub start_ready : Ready table.rows 0 start
  start_ready = words_ready table (laid_out_passes rows roots h) (laid_expressions rows roots h)
