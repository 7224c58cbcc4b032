-- What a program prints for a refusal (01, "Sheet and printing"). Assumes nothing.
use Rattle.std.specs.Prelude.{ℕ, List}
use Rattle.spec_tree.specs.Outcome.{refused}
use Rattle.spec_program.specs.Program.{reply}

-- by 01's number and the record
unfoldable pub refusal_text : ℕ → ℕ → List ℕ
unfolding reply
refusal_text number place = reply (refused (record { number = number; place = place }))
