-- A name has at most 32 bytes, and so has a constant. Assumes nothing.
use Prim.Native.Nat.{suc, ◌^◌, ◌≤◌}
use native.Mathlib.Omega.{arith}
use lib.IntN.{ℤ, pos, negsuc}
use lib.Dec.{T, ltb→lt}
use lib.ListN.{length}
use Rattle.spec_tree.specs.Bytes.{integer}
use Rattle.spec_tree.specs.Tree.{Name, input, xname, mname}
use Rattle.spec_tree.specs.Passes.{symbol_ok, of_paper}
use Rattle.spec_tree.specs.text.Text.{name_text}
use Rattle.fmt.specs.lengths.Room.{number_fits}
use Rattle.spec_tree.proofs.Digits.{digits_20}
use Rattle.spec_tree.proofs.LayoutLaws.{name_short}

pub symbol_short : (n : Name) → T (symbol_ok n) → T (number_fits n) → length (name_text n) ≤ 32
unfolding symbol_ok number_fits name_text
symbol_short (input s) t u = name_short s t
symbol_short (xname n) t u = omega (arith, digits_20 n (ltb→lt n (2 ^ 64) u))
symbol_short (mname n) t u = omega (arith, digits_20 n (ltb→lt n (2 ^ 64) u))

pub constant_short : (c : ℤ) → T (of_paper c) → length (integer c) ≤ 32
unfolding of_paper integer
constant_short (pos n) t = let h = ltb→lt n (10 ^ 15) t in omega (arith, digits_20 n (omega arith))
constant_short (negsuc n) t = let h = ltb→lt (suc n) (10 ^ 15) t in omega (arith, digits_20 (suc n) (omega arith))
