-- Rows as deep below one another as extract lays any, and deeper ones (AnswerRows), by computing. Assumes nothing.
use Prim.Native.Nat.{ℕ, zero, suc}
use mathlib.Core.Path.{◌≡◌, refl}
use mathlib.Core.Bool.{true, false}
use mathlib.Core.List.{List, [], ◌∷◌, ◌++◌}
use Rattle.spec_tree.specs.Tokens.{word}
use Rattle.spec_cse.specs.AnswerRows.{let_row, name_row, arm_row, value_row, result_row, read_spans, spans_depth, no_deeper}

abbrev a : ℕ
a = word 0 0

-- so many signs, and the symbol a below them
unfoldable negated : ℕ → List ℕ
negated zero = a ∷ []
negated (suc n) = word 2 1 ∷ negated n

-- a match of one name and one arm, with another in its arm, so many in one another
unfoldable nested : ℕ → List ℕ
nested zero = []
nested (suc n) = word 31 3 ∷ (a ∷ (word name_row 2 ∷ (word arm_row 2 ∷ (nested n ++ (word value_row 0 ∷ (a ∷ []))))))

pub record Depths : Type 0 where
  -- a result, 1,039 signs and a symbol
  signs_as_deep : no_deeper (word result_row 0 ∷ negated 1039) ≡ true
  signs_deeper : no_deeper (word result_row 0 ∷ negated 1040) ≡ false
  -- below a second operand
  second_operand_deeper : no_deeper (word result_row 0 ∷ (word 3 2 ∷ (a ∷ negated 1039))) ≡ false
  -- in a let after another
  second_statement_deeper : no_deeper (word let_row 1 ∷ (a ∷ (word let_row 4 ∷ negated 1040))) ≡ false
  -- 519 matches and arms, two rows each, and a value's row with its symbol
  matches_as_deep : no_deeper (nested 519) ≡ true
  matches_deeper : no_deeper (nested 521) ≡ false

pub depths : Depths
unfolding no_deeper read_spans spans_depth negated nested
depths =
    record {
      signs_as_deep = refl;
      signs_deeper = refl;
      second_operand_deeper = refl;
      second_statement_deeper = refl;
      matches_as_deep = refl;
      matches_deeper = refl;
    }
