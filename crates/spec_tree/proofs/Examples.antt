-- The layouts at work on the sheet of 01: its rows as words and back, and its roots' trees as words. Assumes nothing.
use Prim.Native.Nat.{ℕ}
use mathlib.Core.Path.{◌≡◌, refl}
use mathlib.Core.Bool.{true, false}
use mathlib.Core.Option.{none, some}
use mathlib.Core.List.{List, [], ◌∷◌, ◌++◌}
use lib.IntN.{pos, negsuc}
use lib.ListN.{replicate}
use Rattle.spec_tree.specs.Bytes.{bytes}
use Rattle.spec_tree.specs.Kinds.{Add, Mul, Sin, SelectOr}
use Rattle.spec_tree.specs.Rows.{Row, row_sym, row_const, row_op, trees}
use Rattle.spec_tree.specs.Layout.{table_words, table_of, laid_out}
use Rattle.spec_tree.specs.Tokens.{all_tokens, number_in, read, numbered, facts_of_words, run_at, same_at}

abbrev sheet_rows : List Row
sheet_rows =
    row_sym (bytes "a") ∷ row_sym (bytes "b") ∷ row_op Add (0 ∷ 1 ∷ []) ∷ row_sym (bytes "c") ∷ row_op Mul (2 ∷ 3 ∷ []) ∷ row_op Sin (2 ∷ []) ∷ []

-- (a + b) * c and sin(a + b)
abbrev sheet_tokens : List ℕ
sheet_tokens = 133 ∷ 131 ∷ 0 ∷ 192 ∷ 576 ∷ 72 ∷ 131 ∷ 0 ∷ 192 ∷ []

pub record Examples : Type 0 where
  laid : laid_out (table_words sheet_rows) (4 ∷ 5 ∷ []) ≡ true
  no_such_root : laid_out (table_words sheet_rows) (4 ∷ 6 ∷ []) ≡ false
  one_word_more : laid_out (table_words sheet_rows ++ (0 ∷ [])) (4 ∷ 5 ∷ []) ≡ false
  a_default : laid_out (table_words (row_const (negsuc 6) ∷ row_op SelectOr (0 ∷ 0 ∷ 0 ∷ []) ∷ [])) (1 ∷ []) ≡ true
  a_default_without_arm : laid_out (table_words (row_const (pos 6) ∷ row_op SelectOr (0 ∷ 0 ∷ []) ∷ [])) (1 ∷ []) ≡ false
  a_constant : table_words (row_const (negsuc 6) ∷ []) ≡ 1 ∷ 0 ∷ 2 ∷ 1 ∷ 7 ∷ replicate 30 0
  in_tokens : all_tokens (number_in sheet_rows) (trees (table_of (table_words sheet_rows) (4 ∷ 5 ∷ []))) ≡ sheet_tokens
  and_back : all_tokens (λ s. number_in (row_sym (0 ∷ []) ∷ row_sym (1 ∷ []) ∷ row_sym (2 ∷ []) ∷ row_sym (3 ∷ []) ∷ []) s) (read numbered sheet_tokens) ≡ sheet_tokens
  a_run : run_at sheet_tokens 1 ≡ some 3
  the_same : same_at sheet_tokens 1 6 ≡ some true
  another : same_at sheet_tokens 1 5 ≡ some false
  the_facts : facts_of_words (131 ∷ 0 ∷ 192 ∷ []) ≡ some (3 ∷ 1 ∷ 1 ∷ 1 ∷ 1 ∷ 1 ∷ 0 ∷ 0 ∷ 0 ∷ 1 ∷ 1 ∷ 0 ∷ 0 ∷ 0 ∷ 1 ∷ [])
  no_operand : facts_of_words (131 ∷ 0 ∷ []) ≡ none

pub examples : Examples
unfolding laid_out table_words table_of trees all_tokens number_in read run_at same_at facts_of_words
examples =
    record {
      laid = refl;
      no_such_root = refl;
      one_word_more = refl;
      a_default = refl;
      a_default_without_arm = refl;
      a_constant = refl;
      in_tokens = refl;
      and_back = refl;
      a_run = refl;
      the_same = refl;
      another = refl;
      the_facts = refl;
      no_operand = refl;
    }
