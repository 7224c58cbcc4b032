-- `replace_divisor` and `replace_outside_arms` keep values: the first where the name holds the value of 1 / d, the second where it holds the target's.
-- Assumes nothing.
use Prim.Native.Nat.{ℕ, ◌*◌, ◌%◌}
use mathlib.Core.Path.{◌≡◌, refl, sym, ◌∙◌, ap, ap₂}
use mathlib.Core.Bool.{Bool, true, false, ◌&&◌}
use mathlib.Core.List.{List, [], ◌∷◌}
use native.Mathlib.Nat.{mul-one, one-mul}
use lib.IntN.{pos}
use lib.ListN.{get_or}
use lib.Dec.{T, eqb, eqb→eq}
use Rattle.spec_tree.specs.Tree.{Name, Tree, Forest, Sym, Const, Op, nil, ◌◂◌, eq_tree}
use Rattle.spec_tree.specs.Kinds.{Mul, Div, is_switch}
use Rattle.spec_tree.proofs.TreeLaws.{eq_tree_sound}
use Rattle.spec_rewrite.specs.Rewrite.{divides_by, replace_divisor, replace_divisors, dividend, replace_outside_arms, replace_operands, replace_key}
use Rattle.spec_tree.specs.Value.{Reading, Env, value, operand_values, apply, other, residue}
use Rattle.spec_rewrite.proofs.Residues.{mod_mul_left, mod_mul_right}

both_pass : (b c : Bool) → T (b && c) → T b × T c
both_pass true c t = (tt, t)
both_pass false c t = absurd t

module _ (R : Reading) (ρ : Env) (d : Tree) (n : Name) (h : value R ρ (Sym n) ≡ value R ρ (Op Div (Const (pos 1) ◂ d ◂ nil))) where
  -- a / b by the name, where b is d
  quotient : (a b : Tree) (f : Forest) → b ≡ d → value R ρ (Op Mul (a ◂ Sym n ◂ nil)) ≡ value R ρ (Op Div (a ◂ b ◂ f))
  unfolding value apply other residue
  quotient a b f e =
      ap (λ (x : ℕ). value R ρ a * x % R.modulus) (mul-one (value R ρ (Sym n)) ∙ h)
      ∙ ap (λ (x : ℕ). value R ρ a * x % R.modulus) (mod_mul_left R.modulus 1 (R.reciprocal (value R ρ d)))
      ∙ mod_mul_right R.modulus (value R ρ a) (1 * R.reciprocal (value R ρ d))
      ∙ ap (λ (x : ℕ). value R ρ a * x % R.modulus) (one-mul (R.reciprocal (value R ρ d)) ∙ ap (λ (t : Tree). R.reciprocal (value R ρ t)) (sym e))

  -- a division by d, from what its operands give
  by_name :
      (f : Forest) → T (divides_by d f) → operand_values R ρ (replace_divisors d n f) ≡ operand_values R ρ f
      → value R ρ (Op Mul (dividend d n f)) ≡ value R ρ (Op Div f)
  unfolding divides_by replace_divisor operand_values value
  by_name nil t e = absurd t
  by_name (a ◂ nil) t e = absurd t
  by_name (a ◂ (b ◂ f)) t e =
      ap (λ (x : ℕ). apply R Mul (x ∷ (value R ρ (Sym n) ∷ []))) (ap (λ (l : List ℕ). get_or l 0 0) e) ∙ quotient a b f (eq_tree_sound b d t)

  step :
      (k : ℕ) (f : Forest) (b : Bool) → (T b → (k ≡ Div) × T (divides_by d f)) → operand_values R ρ (replace_divisors d n f) ≡ operand_values R ρ f
      → value R ρ (elim b [ true ↦ Op Mul (dividend d n f) | false ↦ Op k (replace_divisors d n f) ]) ≡ value R ρ (Op k f)
  unfolding value operand_values
  step k f true t e = by_name f (t tt).1 e ∙ ap (λ (j : ℕ). value R ρ (Op j f)) (sym (t tt).0)
  step k f false t e = ap (apply R k) e

  mutual
    unfolding value operand_values replace_divisor

    -- law (b)
    pub replace_divisor_keeps : (e : Tree) → value R ρ (replace_divisor d n e) ≡ value R ρ e
    replace_divisor_keeps (Sym s) = refl
    replace_divisor_keeps (Const c) = refl
    replace_divisor_keeps (Op k f) =
        step k f (eqb k Div && divides_by d f) (λ t. let p = both_pass (eqb k Div) (divides_by d f) t in (eqb→eq k Div p.0, p.1))
        (replace_divisors_keep f)

    replace_divisors_keep : (f : Forest) → operand_values R ρ (replace_divisors d n f) ≡ operand_values R ρ f
    replace_divisors_keep nil = refl
    replace_divisors_keep (t ◂ f) = ap₂ ◌∷◌ (replace_divisor_keeps t) (replace_divisors_keep f)

module _ (R : Reading) (ρ : Env) (target : Tree) (n : Name) (h : value R ρ (Sym n) ≡ value R ρ target) where
  leaf : (t : Tree) (b : Bool) → (T b → t ≡ target) → value R ρ (elim b [ true ↦ Sym n | false ↦ t ]) ≡ value R ρ t
  leaf t true e = h ∙ ap (value R ρ) (sym (e tt))
  leaf t false e = refl

  node :
      (k : ℕ) (f : Forest) (b c : Bool) → (T b → Op k f ≡ target) → operand_values R ρ (replace_key target n f) ≡ operand_values R ρ f
      → operand_values R ρ (replace_operands target n f) ≡ operand_values R ρ f
      → value R ρ (elim b [ true ↦ Sym n | false ↦ Op k (elim c [ true ↦ replace_key target n f | false ↦ replace_operands target n f ]) ]) ≡ value R ρ (Op k f)
  unfolding value operand_values
  node k f true c e p q = h ∙ ap (value R ρ) (sym (e tt))
  node k f false true e p q = ap (apply R k) p
  node k f false false e p q = ap (apply R k) q

  mutual
    unfolding value operand_values replace_outside_arms

    pub replace_outside_arms_keeps : (e : Tree) → value R ρ (replace_outside_arms target n e) ≡ value R ρ e
    replace_outside_arms_keeps (Sym s) = leaf (Sym s) (eq_tree (Sym s) target) (eq_tree_sound (Sym s) target)
    replace_outside_arms_keeps (Const c) = leaf (Const c) (eq_tree (Const c) target) (eq_tree_sound (Const c) target)
    replace_outside_arms_keeps (Op k f) =
        node k f (eq_tree (Op k f) target) (is_switch k) (eq_tree_sound (Op k f) target) (key_keeps f) (operands_keep f)

    operands_keep : (f : Forest) → operand_values R ρ (replace_operands target n f) ≡ operand_values R ρ f
    operands_keep nil = refl
    operands_keep (t ◂ f) = ap₂ ◌∷◌ (replace_outside_arms_keeps t) (operands_keep f)

    key_keeps : (f : Forest) → operand_values R ρ (replace_key target n f) ≡ operand_values R ρ f
    key_keeps nil = refl
    key_keeps (t ◂ f) = ap (λ (v : ℕ). v ∷ operand_values R ρ f) (replace_outside_arms_keeps t)
