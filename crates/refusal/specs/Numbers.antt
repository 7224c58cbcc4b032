-- The numbers of refusals (01, "Turned down, by operation"). Assumes nothing.
use Rattle.std.specs.Prelude.{ℕ}
use Rattle.refusal.specs.declared.Refusal.{Refusal}
use Rattle.refusal.specs.declared.Refusal.TheVariants.{NoBytes, Malformed, BadName, BadConstant, NotEarlier, TooLarge, ShortTable, ShortWork, BadRows, BadCoefficient, Ring, TooManyRows, BadAnswer, LongText, LargeScopes}

abbrev pub number_of : Refusal → ℕ
number_of NoBytes = 1
number_of Malformed = 2
number_of BadName = 3
number_of BadConstant = 4
number_of NotEarlier = 5
number_of TooLarge = 6
number_of ShortTable = 7
number_of ShortWork = 8
number_of BadRows = 9
number_of BadCoefficient = 10
number_of Ring = 11
number_of TooManyRows = 12
number_of BadAnswer = 13
number_of LongText = 14
number_of LargeScopes = 23
