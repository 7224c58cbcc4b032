-- Spot checks of the answer over one row, a symbol's, as a text of a buffer that is long enough, and of one that is not. Assumes nothing.
use Prim.Native.Nat.{ℕ}
use mathlib.Core.Path.{◌≡◌, refl}
use mathlib.Core.Bool.{Bool, true, false}
use mathlib.Core.List.{List, [], ◌∷◌}
use lib.ListN.{replicate}
use Rattle.spec_tree.specs.Bytes.{bytes}
use Rattle.spec_tree.specs.Kinds.{Neg, Add, Sub, Pow, Select}
use Rattle.spec_tree.specs.Rows.{row_sym}
use Rattle.spec_tree.specs.Layout.{row_words, rows_of}
use Rattle.spec_tree.specs.Passes.{tree_ok}
use Rattle.spec_tree.specs.Tokens.{word, name_in, trees_at, run_at}
use Rattle.spec_tree.specs.text.Text.{display}
use Rattle.fmt.specs.shapes.Places.{tree_here}
use Rattle.fmt.specs.writer.Answers.{Written, write_answer}
use Rattle.std.specs.Prelude.{Some, None}

unfoldable answer : List ℕ → Bool → ℕ → Written
unfolding row_words rows_of name_in trees_at run_at tree_ok display tree_here write_answer
answer ws dry room = write_answer (row_words (row_sym (bytes "ab"))) ws 0 dry (replicate room 46) 0

-- ab - (ab - -(-__x5)), and a word more
abbrev nested : List ℕ
nested = word Sub 2 ∷ word 0 0 ∷ word Sub 2 ∷ word 0 0 ∷ word Neg 1 ∷ word Neg 1 ∷ word 0 16 ∷ word 1 0 ∷ []

written : answer nested false 24 ≡ record { answer = Some (record { next = 7; to = 20 }); bytes = bytes "ab - (ab - -(-__x5))...." }
unfolding answer
written = refl

measured : answer nested true 24 ≡ record { answer = Some (record { next = 7; to = 20 }); bytes = bytes "........................" }
unfolding answer
measured = refl

too_long : answer nested false 5 ≡ record { answer = Some (record { next = 7; to = 6 }); bytes = bytes "ab - " }
unfolding answer
too_long = refl

-- select(ab, (ab^-1)^(__m2 + 0))
call : answer (word Select 2 ∷ word 0 0 ∷ word Pow 2 ∷ word Pow 2 ∷ word 0 0 ∷ word 1 1 ∷ word Add 2 ∷ word 0 8 ∷ word 1 0 ∷ []) false 31 ≡ record { answer = Some (record { next = 9; to = 30 }); bytes = bytes "select(ab, (ab^-1)^(__m2 + 0))." }
unfolding answer
call = refl

-- a sum of three
no_sum : answer (word Add 3 ∷ word 0 0 ∷ word 0 0 ∷ word 0 0 ∷ []) false 3 ≡ record { answer = None; bytes = bytes "..." }
unfolding answer
no_sum = refl

-- a word that lacks an operand
cut_off : answer (word Add 2 ∷ word 0 0 ∷ []) false 3 ≡ record { answer = None; bytes = bytes "..." }
unfolding answer
cut_off = refl
