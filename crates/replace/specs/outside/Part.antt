-- What stands first in some words, for `replace_outside_arms`: the target, a switch, with the ends of its key and of the whole, or another node.
-- Assumes nothing.
use Rattle.std.specs.Prelude.{ℕ, ◌+◌, Bool, true, false, ◌&&◌, List, nat_le, slice_index}
use Rattle.std.proofs.Math.Option.{Option, none, some}
use Rattle.spec_tree.specs.Kinds.{is_switch}
use Rattle.spec_tree.specs.Tree.{eq_tree}
use Rattle.spec_tree.specs.Tokens.{kind_of, below_of, run_at}
use Rattle.words.specs.words.Words.{tree_of}
use Rattle.replace.specs.declared.outside.Part.{Part}
use Rattle.replace.specs.declared.outside.Part.TheVariants as part

-- a switch that has a key
unfoldable pub has_arms : ℕ → Bool
has_arms w = is_switch (kind_of w) && nat_le 1 (below_of w)

unfoldable pub part_answer : Bool → Bool → Option ℕ → Option ℕ → Part
part_answer true arms key whole = part.Target
part_answer false true (some key) (some whole) = part.Switch (1 + key) whole
part_answer false true (some key) none = part.Node
part_answer false true none whole = part.Node
part_answer false false key whole = part.Node

unfoldable pub part_of : List ℕ → List ℕ → Part
unfolding has_arms part_answer tree_of eq_tree run_at
part_of ws target = part_answer (eq_tree (tree_of ws) (tree_of target)) (has_arms (slice_index ws 0)) (run_at ws 1) (run_at ws 0)
