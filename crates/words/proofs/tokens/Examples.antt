-- The answers at work: (a + b) * c and sin(a + b) of 01's sheet. Assumes nothing.
use Rattle.std.specs.Prelude.{true, false, Some, None}
use Prim.Native.Nat.{ℕ}
use mathlib.Core.Path.{◌≡◌, refl}
use mathlib.Core.List.{List, [], ◌∷◌}
use Rattle.spec_tree.specs.Tokens.{trees_in, run_at, same_at}
use Rattle.words.specs.tokens.Answers.{count_answer, end_answer, same_answer}

abbrev sheet : List ℕ
sheet = 133 ∷ 131 ∷ 0 ∷ 192 ∷ 576 ∷ 72 ∷ 131 ∷ 0 ∷ 192 ∷ []

pub record Examples : Type 0 where
  two_trees : count_answer (trees_in sheet) ≡ Some 2
  no_operand : count_answer (trees_in (131 ∷ 0 ∷ [])) ≡ None
  a_sum : end_answer 1 (run_at sheet 1) ≡ Some 4
  past_the_end : end_answer 9 (run_at sheet 9) ≡ None
  the_same : same_answer (same_at sheet 1 6) ≡ (Some true)
  another : same_answer (same_at sheet 1 5) ≡ (Some false)

pub examples : Examples
unfolding count_answer end_answer same_answer trees_in run_at same_at
examples =
    record {
      two_trees = refl;
      no_operand = refl;
      a_sum = refl;
      past_the_end = refl;
      the_same = refl;
      another = refl;
    }
