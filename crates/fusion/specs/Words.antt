-- Fusion on words of trees (01, "Scoped fusion"): one member after another replaced by its name, each member the tree at a place of `base`, the words in which the
-- switches were found. Assumes nothing.
use Rattle.std.specs.Prelude.{ℕ, zero, suc, length, drop}
use Rattle.std.proofs.Math.Option.{Option, none, some}
use mathlib.Core.List.{List, [], ◌∷◌, ◌++◌}
use Rattle.spec_tree.specs.Tree.{Name, mname}
use Rattle.spec_tree.specs.Tokens.{run_at}
use Rattle.spec_rewrite.specs.Rewrite.{replace_outside_arms}
use Rattle.words.specs.words.Words.{rewritten_words, tree_of}
use Rattle.laws.specs.positions.Places.{numbered_at}
use Rattle.spec_cse.specs.Scope.{members}
use Rattle.fusion.specs.Settled.{Step, Numbered}

module _ (base : List ℕ) where
  -- the tree at a place becomes a name outside arms, if a tree is there
  unfoldable pub fuse_step : ℕ → Name → List ℕ → Option (List ℕ)
  unfolding run_at rewritten_words replace_outside_arms tree_of
  fuse_step place name ws =
      elim (run_at base place) [ none ↦ none | some n ↦ some (rewritten_words (replace_outside_arms (tree_of (drop place base)) name) ws) ]

  -- a step for each place, named by the number beside it; none where a number is lacking
  unfoldable pub fused_words : List ℕ → List ℕ → List ℕ → Option (List ℕ)
  unfolding fuse_step
  fused_words [] ns ws = some ws
  fused_words (p ∷ l) [] ws = none
  fused_words (p ∷ l) (n ∷ ns) ws = elim (fuse_step p (mname n) ws) [ none ↦ none | some vs ↦ fused_words l ns vs ]

  -- the same steps of trees
  unfoldable pub steps_at : List ℕ → List ℕ → List Step
  unfolding numbered_at
  steps_at [] ns = []
  steps_at (p ∷ l) [] = []
  steps_at (p ∷ l) (n ∷ ns) = record { member = numbered_at base p; number = n } ∷ steps_at l ns

-- ---- the numbers of all members, as the groups have them

unfoldable pub numbers_from : ℕ → ℕ → List ℕ
numbers_from n zero = []
numbers_from n (suc k) = n ∷ numbers_from (suc n) k

unfoldable pub all_numbers : List Numbered → List ℕ
unfolding numbers_from members
all_numbers [] = []
all_numbers (g ∷ l) = numbers_from g.start (length (members g.group)) ++ all_numbers l
