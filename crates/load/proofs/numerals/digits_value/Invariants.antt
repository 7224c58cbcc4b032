use Prim.Native.Nat.{◌≤◌, min}
use mathlib.Core.Path.{◌≡◌}
use lib.ListN.{drop}
use Rattle.spec_tree.specs.Bytes.{every}
use Rattle.spec_tree.specs.Symbol.{is_digit}
use Rattle.spec_sheet.specs.Sheet.{number_from}
use Rattle.load.proofs.numerals.digits_value.Given as goal

abbrev pub invariant-loop-b : goal.invariant-loop-b
invariant-loop-b l = (l.value ≤ l.cap) × (every is_digit l.s ≡ every is_digit (drop l.b-index l.s)) × (min (number_from 0 l.s) l.cap ≡ min (number_from l.value (drop l.b-index l.s)) l.cap)
