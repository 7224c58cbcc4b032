-- Rules at places of words: what the pass from the right keeps for each place, and what the pass from the left writes. Assumes nothing.
use Rattle.std.specs.Prelude.{ℕ, zero, suc, ◌+◌, min, Bool, ◌&&◌, List, [], ◌∷◌, get_or}
use Rattle.std.proofs.Math.Bool.{true, false}
use Rattle.std.proofs.Math.Option.{Option}
use Rattle.std.proofs.Math.Dec.{ltb}
use Rattle.spec_tree.specs.Tree.{Tree}
use Rattle.spec_tree.specs.Facts.{size}
use Rattle.spec_tree.specs.Tokens.{takes}
use Rattle.laws.specs.positions.Places.{numbered_at, divides_at, second_at}
use Rattle.reciprocals.specs.atonce.Rules.{rule_of}
use Rattle.reciprocals.specs.atonce.Dividing as dividing

-- where k trees stand, the first at q
unfoldable pub places_from : List ℕ → ℕ → ℕ → List ℕ
unfolding size numbered_at
places_from ws zero q = []
places_from ws (suc k) q = q ∷ places_from ws k (q + size (numbered_at ws q))

-- where the operands of the node at p stand
unfoldable pub operand_places : List ℕ → ℕ → List ℕ
unfolding places_from takes
operand_places ws p = places_from ws (takes (get_or ws p 0)) (suc p)

-- the least of the values at some places, or m
unfoldable pub least_at : ℕ → (ℕ → ℕ) → List ℕ → ℕ
least_at m v [] = m
least_at m v (q ∷ l) = min (v q) (least_at m v l)

module _ (rank : Tree → Option ℕ) (m s : ℕ) (ws : List ℕ) where
  -- the rule that seeks the tree at a place
  unfoldable pub rule_at : ℕ → ℕ
  unfolding rule_of numbered_at
  rule_at q = rule_of rank m s (numbered_at ws q)

  unfoldable pub change_at : ℕ → ℕ
  unfolding dividing.change numbered_at
  change_at q = dividing.change rank m s (numbered_at ws q)

  -- the rule of the node at p: its divisor's
  unfoldable pub own_at : ℕ → ℕ
  unfolding divides_at second_at rule_at
  own_at p = elim (divides_at ws p) [ true ↦ rule_at (second_at ws p) | false ↦ m ]

  -- whether the node at p is a division that is replaced
  unfoldable pub replaced_at : ℕ → Bool
  unfolding divides_at second_at rule_at change_at
  replaced_at p = divides_at ws p && ltb (rule_at (second_at ws p)) (change_at (second_at ws p))
