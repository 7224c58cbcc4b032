-- The answer of `record_word` by cases. Assumes nothing.
use Rattle.std.specs.Prelude.{ℕ, Option, Some, None}
use Rattle.std.proofs.Math.Option as maybe
use Rattle.std.proofs.Math.Option.{none, some}

abbrev pub word_answer : maybe.Option ℕ → Option ℕ
word_answer none = None
word_answer (some k) = Some k
