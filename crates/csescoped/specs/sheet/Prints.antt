-- What the program `csescoped` writes for what `scoped_sheet` told: so many of the bytes lent, or the line for the refusal (01, "Sheet and printing"). Assumes nothing.
use Rattle.std.specs.Prelude.{ℕ, List, take}
use Rattle.spec_tree.specs.Outcome.{refused}
use Rattle.spec_program.specs.Program.{reply}
use Rattle.csescoped.specs.sheet.Said.{Said}
use Rattle.csescoped.specs.sheet.Said as said

abbrev pub prints : Said → List ℕ → List ℕ
prints (said.Bytes n) out = take n out
prints (said.Refused number place) out = reply (refused (record { number = number; place = place }))
