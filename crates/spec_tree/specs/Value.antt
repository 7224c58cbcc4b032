-- Readings of symbols and operations as residues, and the value of a tree (01, "Value, for demand 3"). Assumes nothing.
use Rattle.std.specs.Prelude.{ℕ, suc, ◌+◌, ◌-◌, ◌*◌, ◌%◌, ◌≤◌, min, Bool, ℤ, pos, negsuc, length, eqb}
use Rattle.std.proofs.Math.Bool.{cond}
use mathlib.Core.List.{List, [], ◌∷◌}
use Rattle.std.proofs.Math.ListN.{get_or}
use Rattle.spec_tree.specs.Tree.{Name, Tree, Forest, fold, folds}
use Rattle.spec_tree.specs.Kinds.{Neg, Add, Sub, Mul, Div, Branch, Select, is_switch}

-- A modulus from 2 up, and the fixed rules: r of a / b, what Pow and the named functions give by their kind's number, the arm number of
-- a Select's index, and the side of a Branch (true picks the first). Results are taken modulo the modulus, so every rule on residues is one of these.
pub record Reading : Type 0 where
  pub modulus : ℕ
  pub two_up : 2 ≤ modulus
  pub reciprocal : ℕ → ℕ
  pub function : ℕ → List ℕ → ℕ
  pub index : ℕ → ℕ
  pub sign : ℕ → Bool

-- what each symbol holds
abbrev pub Env : Type 0
Env = Name → ℕ

-- ---- arithmetic on residues

unfoldable pub mul_mod : ℕ → ℕ → ℕ → ℕ
mul_mod m a b = a * b % m

unfoldable pub neg_mod : ℕ → ℕ → ℕ
neg_mod m a = (m - a % m) % m

unfoldable pub residue : ℕ → ℤ → ℕ
unfolding neg_mod
residue m (pos n) = n % m
residue m (negsuc n) = neg_mod m (suc n)

unfoldable pub product : List ℕ → ℕ
product [] = 1
product (a ∷ l) = a * product l

-- a rule on the first two of a list, 0 where there are fewer
unfoldable pub binary : (ℕ → ℕ → ℕ) → List ℕ → ℕ
binary g [] = 0
binary g (a ∷ []) = 0
binary g (a ∷ (b ∷ l)) = g a b

-- ---- trees

module _ (R : Reading) where
  -- the arm that a switch of kind k with n arms, the default among them, picks at the key's value q; n or more is no arm
  unfoldable pub choice : ℕ → ℕ → ℕ → ℕ
  choice k n q = cond (eqb k Branch) (cond (R.sign q) 0 1) (cond (eqb k Select) (R.index q) (min (R.index q) (n - 1)))

  unfoldable pub switched : ℕ → List ℕ → ℕ
  unfolding choice
  switched k [] = 0
  switched k (q ∷ arms) = get_or arms (choice k (length arms) q) 0

  -- any operation but a Mul and a Neg on its operands' residues, not yet reduced
  unfoldable pub other : ℕ → List ℕ → ℕ
  unfolding binary switched
  other k vs =
      cond (eqb k Add) (binary (λ a b. a + b) vs)
      (cond (eqb k Sub) (binary (λ a b. a + (R.modulus - b % R.modulus)) vs)
      (cond (eqb k Div) (binary (λ a b. a * R.reciprocal b) vs)
      (cond (is_switch k) (switched k vs)
      (R.function k vs))))

  -- an operation: a Mul multiplies all its operands, and a Neg negates their product; 01 has two under a Mul and one under a Neg
  unfoldable pub apply : ℕ → List ℕ → ℕ
  unfolding product other
  apply k vs = cond (eqb k Mul) (product vs) (cond (eqb k Neg) (R.modulus - product vs % R.modulus) (other k vs)) % R.modulus

  unfoldable pub value : Env → Tree → ℕ
  unfolding fold residue apply
  value ρ = fold (λ n. ρ n % R.modulus) (residue R.modulus) apply

  unfoldable pub operand_values : Env → Forest → List ℕ
  unfolding fold residue apply
  operand_values ρ = folds (λ n. ρ n % R.modulus) (residue R.modulus) apply

  unfoldable pub values : Env → List Tree → List ℕ
  unfolding value
  values ρ [] = []
  values ρ (t ∷ l) = value ρ t ∷ values ρ l
