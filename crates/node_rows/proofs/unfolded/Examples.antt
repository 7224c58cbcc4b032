-- The definition of `unfold` at work: its refusal, a shared node, the first of two rows with one name, constants of both signs, and a Select
-- with a default. Assumes nothing.
use mathlib.Core.Path.{◌≡◌, refl}
use mathlib.Core.List.{List, [], ◌∷◌}
use lib.IntN.{pos, negsuc}
use Rattle.spec_tree.specs.Outcome.{ok, refused, by}
use Rattle.spec_tree.specs.Bytes.{bytes}
use Rattle.spec_tree.specs.Kinds.{Add, Sub, Sin, SelectOr}
use Rattle.spec_tree.specs.Rows.{Row, row_sym, row_const, row_op}
use Rattle.spec_tree.specs.Layout.{table_words}
use Rattle.node_rows.specs.unfolded.Unfold.{unfolded}

-- sin(a + b) - (a + b), where a has two rows
abbrev shared : List Row
shared =
    row_sym (bytes "b") ∷ row_sym (bytes "a") ∷ row_sym (bytes "a") ∷ row_op Add (2 ∷ 0 ∷ []) ∷ row_op Sin (3 ∷ []) ∷ row_op Sub (4 ∷ 3 ∷ []) ∷ []

abbrev constants : List Row
constants = row_const (pos 0) ∷ row_const (negsuc 0) ∷ row_const (pos 1) ∷ row_const (negsuc 1) ∷ row_op SelectOr (0 ∷ 1 ∷ 2 ∷ 3 ∷ []) ∷ []

pub record Examples : Type 0 where
  a_shared_node : unfolded (table_words shared) (5 ∷ []) ≡ ok (132 ∷ 72 ∷ 131 ∷ 192 ∷ 0 ∷ 131 ∷ 192 ∷ 0 ∷ [])
  a_default : unfolded (table_words constants) (4 ∷ []) ≡ ok (284 ∷ 1 ∷ 65 ∷ 129 ∷ 193 ∷ [])
  two_roots : unfolded (table_words constants) (3 ∷ 0 ∷ []) ≡ ok (193 ∷ 1 ∷ [])
  no_roots : unfolded (table_words constants) [] ≡ ok []
  no_rows : unfolded [] [] ≡ refused (by 9)
  no_rows_of_load : unfolded (1 ∷ []) [] ≡ refused (by 9)
  no_such_root : unfolded (table_words shared) (6 ∷ []) ≡ refused (by 9)

pub examples : Examples
unfolding unfolded table_words
examples =
    record { a_shared_node = refl; a_default = refl; two_roots = refl; no_roots = refl; no_rows = refl; no_rows_of_load = refl; no_such_root = refl }
