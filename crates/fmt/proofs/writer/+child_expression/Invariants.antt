use Rattle.spec_tree.specs.Facts.{size}
use Rattle.fmt.specs.shapes.Places.{tree_here}
use Rattle.fmt.proofs.shapes.LoopLaws.{Writing}
use Prim.Native.Nat.{◌*◌, ◌+◌}
use Rattle.fmt.proofs.writer.+child_expression.Given as goal

abbrev pub decreases-expression : goal.decreases-expression
decreases-expression l = size (tree_here l.rows.now l.tokens.now l.at) * 2

abbrev pub decreases-child : goal.decreases-child
decreases-child l = size (tree_here l.rows.now l.tokens.now l.at) * 2 + 1

abbrev pub invariant-expression-loop-i : goal.invariant-expression-loop-i
invariant-expression-loop-i l = Writing l.dry l.rows l.tokens l.at l.initial.out l.initial.end l.out l.next l.end l.i
