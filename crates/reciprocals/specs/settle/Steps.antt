-- One divisor after another replaced in words of trees by the name of its reciprocal (01, "Reciprocals"). Each divisor is the tree at a place of `base`, the words
-- from before the first was bound. Assumes nothing.
use Rattle.std.specs.Prelude.{ℕ, suc, Bool, false, ◌||◌, drop}
use Rattle.std.proofs.Math.Option.{Option, none, some}
use mathlib.Core.List.{List, [], ◌∷◌}
use Rattle.spec_tree.specs.Tree.{Name, xname}
use Rattle.spec_tree.specs.Tokens.{run_at}
use Rattle.spec_rewrite.specs.Rewrite.{replace_divisor}
use Rattle.words.specs.words.Words.{rewritten_words, tree_of, begins_with}

-- whether some words stand among others
unfoldable pub stand_among : List ℕ → List ℕ → Bool
unfolding begins_with
stand_among d [] = false
stand_among d (w ∷ ws) = begins_with (w ∷ ws) d || stand_among d ws

module _ (base : List ℕ) where
  -- divisions by the tree at a place become products with a name, if a tree is there
  unfoldable pub step_words : ℕ → Name → List ℕ → Option (List ℕ)
  unfolding run_at rewritten_words replace_divisor tree_of
  step_words place name ws = elim (run_at base place) [ none ↦ none | some n ↦ some (rewritten_words (replace_divisor (tree_of (drop place base)) name) ws) ]

  -- a step for each place, the names numbered from n on
  unfoldable pub settled_words : List ℕ → ℕ → List ℕ → Option (List ℕ)
  unfolding step_words
  settled_words [] n ws = some ws
  settled_words (place ∷ l) n ws = elim (step_words place (xname n) ws) [ none ↦ none | some vs ↦ settled_words l (suc n) vs ]
