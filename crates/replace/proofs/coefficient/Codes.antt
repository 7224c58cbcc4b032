-- The float of a code. Assumes nothing.
use Rattle.std.proofs.Common.{◌≡◌, ℕ, suc, ◌+◌, ◌/◌, ◌%◌, pos, arith, eq-eqb, ne_eqb}
use lib.Ieee.{binary64, neg, of_int}
use Rattle.spec_tree.specs.Tokens.{constant_at}
use Rattle.replace.proofs.coefficient.Whole.{neg_float}

pub even_float : (code half : ℕ) → half ≡ code / 2 → code % 2 ≡ 0 → of_int binary64 (pos half) ≡ of_int binary64 (constant_at code)
unfolding constant_at
even_float code half h e = rw (eq-eqb (code % 2) 0 e, h)

pub odd_float : (code half : ℕ) → half ≡ code / 2 → (code % 2 ≡ 0 → ⊥) → neg (of_int binary64 (pos (half + 1))) ≡ of_int binary64 (constant_at code)
unfolding constant_at of_int
odd_float code half h e =
    let s : half + 1 ≡ suc (code / 2) = omega arith in
    rw (ne_eqb (code % 2) 0 e, s) (neg_float (suc (code / 2)))
