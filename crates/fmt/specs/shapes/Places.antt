-- The tree at a place of some words as a writer finds it, and what is written where it is passed (01, "Text"). Assumes nothing.
use Rattle.std.specs.Prelude.{ℕ, ◌+◌, ◌≡◌, Bool, List, T}
use Rattle.std.proofs.Math.Option.{some}
use Rattle.spec_tree.specs.Tree.{Tree}
use Rattle.spec_tree.specs.Facts.{size}
use Rattle.spec_tree.specs.Passes.{tree_ok}
use Rattle.spec_tree.specs.Tokens.{run_at}
use Rattle.fmt.specs.emit.Writing.{Writes}
use Rattle.fmt.specs.checked.Check.{rows_in, tree_in}

-- the tree at a place, its symbols named by the node rows
unfoldable pub tree_here : List ℕ → List ℕ → ℕ → Tree
tree_here rows ws at = tree_in (rows_in rows) ws at

-- its words are there, and it is a tree of an answer
pub record Stands (rows ws : List ℕ) (at : ℕ) : Type 0 where
  pub run : run_at ws at ≡ some (size (tree_here rows ws at))
  pub good : T (tree_ok (tree_here rows ws at))

-- a text was written for a tree, whose words were passed
pub record Passes (dry : Bool) (old : List ℕ) (at to : ℕ) (tree : Tree) (text new : List ℕ) (next end : ℕ) : Type 0 where
  pub token : next ≡ at + size tree
  pub written : Writes dry old to text new end
