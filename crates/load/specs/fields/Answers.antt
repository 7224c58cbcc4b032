-- The answer of `first_comma` by cases. Assumes nothing.
use Rattle.std.specs.Prelude.{ℕ, Option, Some, None}
use Rattle.std.proofs.Math.Option as maybe
use Rattle.std.proofs.Math.Option.{none, some}

abbrev pub split_answer : maybe.Option ℕ → Option ℕ
split_answer none = None
split_answer (some i) = Some i
