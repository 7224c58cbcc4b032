-- Spot checks of the answer over one row, a symbol's. Assumes nothing.
use Prim.Native.Nat.{ℕ}
use mathlib.Core.Path.{◌≡◌, refl}
use mathlib.Core.List.{List, [], ◌∷◌}
use Rattle.spec_tree.specs.Bytes.{bytes}
use Rattle.spec_tree.specs.Kinds.{Neg, Add, SelectOr}
use Rattle.spec_tree.specs.Rows.{row_sym}
use Rattle.spec_tree.specs.Layout.{row_words, rows_of}
use Rattle.spec_tree.specs.Passes.{tree_ok}
use Rattle.spec_tree.specs.Tokens.{word, name_in, trees_at, run_at}
use Rattle.fmt.specs.checked.Check.{rows_in, tree_in, checked_answer}
use Rattle.std.specs.Prelude.{Option, Some, None}

unfoldable answer : List ℕ → Option ℕ
unfolding row_words rows_of name_in trees_at run_at tree_ok checked_answer
answer ws = checked_answer 0 (run_at ws 0) (tree_ok (tree_in (rows_in (row_words (row_sym (bytes "a")))) ws 0))

-- -(a + __x5), and a word more
names : answer (word Neg 1 ∷ word Add 2 ∷ word 0 0 ∷ word 0 16 ∷ word 1 0 ∷ []) ≡ Some 4
unfolding answer
names = refl

no_such_row : answer (word 0 3 ∷ []) ≡ None
unfolding answer
no_such_row = refl

-- 10^15 - 1 and its negative, and 10^15
largest : answer (word Add 2 ∷ word 1 1999999999999998 ∷ word 1 1999999999999997 ∷ []) ≡ Some 3
unfolding answer
largest = refl

too_large : answer (word 1 2000000000000000 ∷ []) ≡ None
unfolding answer
too_large = refl

-- a default wants an arm
no_arm : answer (word SelectOr 2 ∷ word 0 0 ∷ word 0 0 ∷ []) ≡ None
unfolding answer
no_arm = refl
