-- What the functions answer on words none of which lacks an operand: for those who call them on such words. Assumes nothing.
use Rattle.std.specs.Prelude.{Some}
use Prim.Native.Nat.{ℕ, ◌+◌, ◌<◌}
use mathlib.Core.Path.{◌≡◌}
use mathlib.Core.Option.{some}
use mathlib.Core.List.{List}
use lib.ListN.{length}
use Rattle.spec_tree.specs.Tree.{eq_tree}
use Rattle.spec_tree.specs.Facts.{size}
use Rattle.spec_tree.specs.Tokens.{trees_in, numbered, run_at, same_at}
use Rattle.spec_tree.proofs.TokenLaws.{run_size}
use Rattle.words.specs.tokens.Answers.{end_answer, same_answer}
use Rattle.words.proofs.tokens.Comparing.{tree, compared_is}

module _ (ws : List ℕ) (n : ℕ) (complete : trees_in ws ≡ some n) where
  -- a tree ends after as many words as it has nodes
  pub end_is : (i : ℕ) → i < length ws → end_answer i (run_at ws i) ≡ Some (i + size (tree ws i))
  unfolding end_answer
  end_is i h = rw (run_size numbered ws n i complete h)

  -- two places are same_answer as their trees are
  pub same_is : (i j : ℕ) → i < length ws → j < length ws → same_answer (same_at ws i j) ≡ same_answer (some (eq_tree (tree ws i) (tree ws j)))
  same_is i j h k =
      compared_is ws i j (size (tree ws i)) (size (tree ws j)) (run_size numbered ws n i complete h) (run_size numbered ws n j complete k)
