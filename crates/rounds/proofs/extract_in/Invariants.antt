use mathlib.Core.Path.{◌≡◌}
use lib.ListN.{length, take}
use Rattle.spec_tree.specs.Facts.{all_operations}
use Rattle.spec_tree.specs.Tokens.{read, numbered}
use Rattle.fmt.specs.checked.Check.{rows_in}
use Rattle.rounds.proofs.Ending.{Loop}
use Rattle.rounds.proofs.extract_in.Given as goal

abbrev pub invariant-loop-now : goal.invariant-loop-now
invariant-loop-now l = Loop (rows_in l.rows) l.initial.tokens l.len l.scoped l.first l.tokens l.words l.made × (length l.facts ≡ length l.initial.facts) × (length l.classes ≡ length l.initial.classes) × (length l.next ≡ length l.initial.next) × (length l.heads ≡ length l.initial.heads) × (length l.uses ≡ length l.initial.uses) × (length l.text ≡ length l.initial.text)

abbrev pub decreases-loop-now : goal.decreases-loop-now
decreases-loop-now l = all_operations (read numbered (take l.words l.tokens))
