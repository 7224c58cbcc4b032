-- What `write_tree` answers, and the bytes after it (01, "Text"). Assumes nothing.
use Rattle.std.specs.Prelude.{ℕ, ◌+◌, Bool, true, false, List, Option, Some, None}
use Rattle.std.proofs.Math.Option as maybe
use Rattle.std.proofs.Math.Option.{none, some}
use Rattle.spec_tree.specs.Passes.{tree_ok}
use Rattle.spec_tree.specs.Tokens.{run_at}
use Rattle.spec_tree.specs.text.Text.{display}
use Rattle.fmt.specs.emit.Writing.{place_after, bytes_after}
use Rattle.fmt.specs.shapes.Places.{tree_here}
use Rattle.fmt.specs.declared.writer.Pos.{Pos}

pub record Written : Type 0 where
  pub answer : Option Pos
  pub bytes : List ℕ

-- from the number of the tree's words, if they are there, and whether it is a tree of an answer: the places after it and after its text, or nothing written
unfoldable pub written_by : maybe.Option ℕ → Bool → ℕ → List ℕ → Bool → List ℕ → ℕ → Written
written_by none ok at text dry old to = record { answer = None; bytes = old }
written_by (some n) false at text dry old to = record { answer = None; bytes = old }
written_by (some n) true at text dry old to =
    record { answer = Some (record { next = at + n; to = place_after old to text }); bytes = bytes_after dry old to text }

unfoldable pub write_answer : List ℕ → List ℕ → ℕ → Bool → List ℕ → ℕ → Written
unfolding written_by run_at tree_ok tree_here display
write_answer rows ws at dry old to =
    written_by (run_at ws at) (tree_ok (tree_here rows ws at)) at (display (tree_here rows ws at)) dry old to
