-- Where divisors stand. Assumes nothing.
use Rattle.std.specs.Prelude.{ℕ, true, false, List, length, Option, Some, None}
use Rattle.laws.specs.positions.Places.{divides_at, second_at, divisor_places}

-- where the divisor of the division at a place stands, if there is one
unfoldable pub second_answer : List ℕ → ℕ → Option ℕ
unfolding divides_at second_at
second_answer ws p = elim (divides_at ws p) [ true ↦ Some (second_at ws p) | false ↦ None ]

unfoldable pub all_places : List ℕ → List ℕ
unfolding divisor_places
all_places ws = divisor_places ws (λ j. true) (length ws)
