-- "Residues modulo m, m ≥ 2" (01, "Value, for demand 3"): 2 is a modulus, and every modulus tells 0 and 1 apart. Assumes nothing.
use mathlib.Core.Path.{◌≡◌, refl}
use mathlib.Core.Bool.{true}
use native.Mathlib.Omega.{arith}
use native.Mathlib.Nat.{mod-eq_of_lt}
use lib.IntN.{pos}
use Rattle.spec_tree.specs.Value.{Reading, residue}

pub record Readings : Type 0 where
  pub modulo_2 : (R : Reading) × (R.modulus ≡ 2)
  pub one_is_1 : (R : Reading) → residue R.modulus (pos 1) ≡ 1

pub readings : Readings
unfolding residue
readings =
    record {
      modulo_2 = (record { modulus = 2; two_up = omega arith; reciprocal = λ a. a; function = λ k l. 0; index = λ a. a; sign = λ a. true }, refl);
      one_is_1 = λ R. mod-eq_of_lt (let h = R.two_up in omega arith);
    }
