-- What `size_of` answers. Assumes nothing.
use Rattle.std.specs.Prelude.{◌≡◌, ℕ, ◌^◌, ◌<◌, false, ◌≢◌, Float, Option, Some, None}
use Rattle.replace.specs.coefficient.Answers.{float}

-- the number below 10^15 whose float a is, or there is none
abbrev pub SizeOf : Float → Option ℕ → Type 0
SizeOf a (Some n) = (a ≡ float false n) × (n < 10 ^ 15)
SizeOf a None = (n : ℕ) → n < 10 ^ 15 → a ≢ float false n
