-- The float of an integer, and what `replace::coefficient::constant_of` answers, from `constant_of` of Rewrite and the code of Tokens. Assumes nothing.
use Rattle.std.specs.Prelude.{ℕ, Bool, ℤ, Float, Option, Some, None}
use Rattle.std.specs.Float.{binary64}
use Rattle.std.specs.Float.Ieee.{round}
use Rattle.spec_tree.specs.Outcome.{Outcome, ok, refused}
use Rattle.spec_tree.specs.Tokens.{constant_code}

-- the float of an integer, by its sign and its magnitude
abbrev pub float : Bool → ℕ → Float
float s n = round binary64 s n 1

-- the code of an accepted coefficient; none where there is refusal 10
unfoldable pub constant_answer : Outcome ℤ → Option ℕ
unfolding constant_code
constant_answer (ok c) = Some (constant_code c)
constant_answer (refused r) = None
