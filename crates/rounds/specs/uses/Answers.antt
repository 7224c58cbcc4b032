-- The answers of `mark_outside` by cases (01, "Uses"), for words none of which lacks an operand. Assumes nothing.
use Rattle.std.specs.Prelude.{ℕ, Bool, true, false, List, ◌++◌, length, drop, ltb, Result, Ok, Err, ⊤}
use Rattle.std.proofs.Math.Option.{Option, none, some}
use Rattle.spec_tree.specs.Tokens.{trees_in}
use Rattle.laws.specs.positions.Places.{outside_at}
use Rattle.rounds.specs.uses.Marks.{marks_of}
use Rattle.words.specs.declared.fault.Fault.{Fault}
use Rattle.words.specs.declared.fault.Fault.TheVariants as fault

pub record Marks : Type 0 where
  pub answer : Result ⊤ Fault
  pub marks : List ℕ

-- the marks of the places in front of what stood after as many words, or nothing written
unfoldable pub marked_by : Bool → Option ℕ → List ℕ → ℕ → List ℕ → Marks
marked_by true found new n old = record { answer = Err fault.NoRoom; marks = old }
marked_by false none new n old = record { answer = Err fault.Broken; marks = old }
marked_by false (some k) new n old = record { answer = Ok tt; marks = new ++ drop n old }

unfoldable pub mark_answer : List ℕ → Bool → List ℕ → Marks
unfolding marked_by trees_in marks_of outside_at
mark_answer ws scoped old =
    marked_by (ltb (length old) (length ws)) (trees_in ws) (marks_of (outside_at ws scoped) 0 (length ws)) (length ws) old
