-- The arms of one number of a group's members, as words one after another: what an arm's scope works on (01, "Scoped fusion"). Assumes nothing.
use Prim.Native.Nat.{ℕ, zero, suc, ◌+◌}
use mathlib.Core.List.{List, [], ◌∷◌, ◌++◌}
use Rattle.std.proofs.Math.ListN.{length, take}
use Rattle.std.specs.Prelude.{drop}
use Rattle.spec_tree.specs.Facts.{size}
use Rattle.laws.specs.positions.Places.{numbered_at}
use Rattle.laws.specs.switches.Switches.{arm_place}

module _ (ws : List ℕ) where
  -- the words of the tree at a place
  unfoldable pub words_at : ℕ → List ℕ
  unfolding size numbered_at
  words_at r = take (size (numbered_at ws r)) (drop r ws)

  -- of the switches at some places, the words of each one's arm number a
  unfoldable pub column_words : List ℕ → ℕ → List ℕ
  unfolding words_at arm_place
  column_words [] a = []
  column_words (q ∷ qs) a = words_at (arm_place ws q a) ++ column_words qs a

  -- how many words the first n columns are
  unfoldable pub columns_length : List ℕ → ℕ → ℕ
  unfolding column_words
  columns_length qs zero = 0
  columns_length qs (suc n) = columns_length qs n + length (column_words qs n)
