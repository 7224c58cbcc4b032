-- Numbers that stop at a cap, and the answers of numerals by cases, each from a definition of load (01, "Sheet and printing"). Assumes nothing.
use Rattle.std.specs.Prelude.{ℕ, suc, min, cond, List, ℤ, pos, negsuc, Some, None}
use Rattle.std.specs.Prelude as std
use Rattle.std.proofs.Math.Option.{Option, none, some}
use Rattle.spec_tree.specs.Bytes.{every}
use Rattle.spec_tree.specs.Symbol.{is_digit}
use Rattle.spec_sheet.specs.Sheet.{number_from}
use Rattle.load.specs.declared.numerals.Constant.{Constant}

-- digits with leading zeros let in
unfoldable pub digits_number : List ℕ → Option ℕ
unfolding every number_from
digits_number s = cond (every is_digit s) (some (number_from 0 s)) none

abbrev pub capped_at : ℕ → Option ℕ → Option ℕ
capped_at cap none = none
capped_at cap (some n) = some (min n cap)

-- no table has so many rows
abbrev pub capped : Option ℕ → Option ℕ
capped = capped_at 1000000

abbrev pub number_answer : Option ℕ → std.Option ℕ
number_answer none = None
number_answer (some n) = Some n

-- sign and size
abbrev pub signed : ℕ → ℕ → Constant
signed g n = record { sign = g; size = n }

abbrev pub constant_answer : Option ℤ → std.Option Constant
constant_answer none = None
constant_answer (some (pos n)) = Some (signed 0 n)
constant_answer (some (negsuc n)) = Some (signed 1 (suc n))
