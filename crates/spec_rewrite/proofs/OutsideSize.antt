-- `replace-outside-arms` lets no tree grow. Assumes nothing.
use Prim.Native.Nat.{ℕ, ◌≤◌}
use native.Mathlib.Omega.{arith}
use mathlib.Core.Path.{◌≡◌, refl}
use mathlib.Core.Bool.{Bool, true, false}
use lib.IntN.{ℤ}
use Rattle.spec_tree.specs.Kinds.{is_switch}
use Rattle.spec_tree.specs.Facts.{size}
use Rattle.spec_tree.specs.Tree.{Name, Tree, Forest, Sym, Const, Op, nil, ◌◂◌, eq_tree}
use Rattle.spec_rewrite.specs.Rewrite.{replace_outside_arms, replace_operands, replace_key}
use Rattle.spec_rewrite.proofs.Measure.{sum_each, size_op}

module _ (g : Tree) (n : Name) where
  symbol_size : (b : Bool) (s : Name) → size (elim b as (λ _. Tree) [ true ↦ Sym n | false ↦ Sym s ]) ≤ size (Sym s)
  unfolding size
  symbol_size true s = omega arith
  symbol_size false s = omega arith

  constant_size : (b : Bool) (c : ℤ) → size (elim b as (λ _. Tree) [ true ↦ Sym n | false ↦ Const c ]) ≤ size (Const c)
  unfolding size
  constant_size true c = omega arith
  constant_size false c = omega arith

  name_size : size (Sym n) ≡ 1
  unfolding size
  name_size = refl

  node_size :
      (k : ℕ) (f : Forest) (b s : Bool) → sum_each size (replace_key g n f) ≤ sum_each size f → sum_each size (replace_operands g n f) ≤ sum_each size f
      → size (elim b as (λ _. Tree) [ true ↦ Sym n | false ↦ Op k (elim s as (λ _. Forest) [ true ↦ replace_key g n f | false ↦ replace_operands g n f ]) ]) ≤ size (Op k f)
  node_size k f true s hk ho = omega (arith, name_size, size_op k f)
  node_size k f false true hk ho = omega (arith, size_op k (replace_key g n f), size_op k f)
  node_size k f false false hk ho = omega (arith, size_op k (replace_operands g n f), size_op k f)

  mutual
    unfolding replace_outside_arms sum_each

    pub outside_size : (e : Tree) → size (replace_outside_arms g n e) ≤ size e
    outside_size (Sym s) = symbol_size (eq_tree (Sym s) g) s
    outside_size (Const c) = constant_size (eq_tree (Const c) g) c
    outside_size (Op k f) = node_size k f (eq_tree (Op k f) g) (is_switch k) (key_size f) (operands_size f)

    operands_size : (f : Forest) → sum_each size (replace_operands g n f) ≤ sum_each size f
    operands_size nil = omega arith
    operands_size (t ◂ f) = omega (arith, outside_size t, operands_size f)

    key_size : (f : Forest) → sum_each size (replace_key g n f) ≤ sum_each size f
    key_size nil = omega arith
    key_size (t ◂ f) = omega (arith, outside_size t)
