-- Trees with as many operands under each kind as 01 has there, whatever the leaves. Assumes nothing.
use Prim.Native.Nat.{ℕ, suc}
use mathlib.Core.Path.{◌≡◌, refl, ap, subst}
use mathlib.Core.Bool.{Bool, true, ◌&&◌}
use mathlib.Core.List.{List}
use native.Mathlib.Omega.{arith}
use lib.ListN.{length}
use lib.Dec.{T, leb, leb→le}
use Rattle.spec_tree.specs.Kinds.{arity_ok, Neg, Mul, Div}
use Rattle.spec_tree.specs.Tree.{Tree, Forest, Sym, Const, Op, nil, ◌◂◌, folds}
use Rattle.spec_tree.specs.Passes.{all_of, of_list, of_paper, operands_ok}
use Rattle.spec_tree.proofs.Logic.{and_left, and_right}

unfoldable pub operand_count : Forest → ℕ
operand_count nil = 0
operand_count (t ◂ f) = suc (operand_count f)

-- a tree as 01 has it, as far as operand counts go
unfoldable mutual
  unfolding arity_ok operand_count

  pub well_formed : Tree → Bool
  well_formed (Sym n) = true
  well_formed (Const c) = true
  well_formed (Op k f) = arity_ok k (operand_count f) && well_formed_each f

  pub well_formed_each : Forest → Bool
  well_formed_each nil = true
  well_formed_each (t ◂ f) = well_formed t && well_formed_each f

between : (n m : ℕ) → T (leb m n && leb n m) → n ≡ m
between n m h =
    let a = leb→le m n (and_left (leb m n) (leb n m) h) in
    let b = leb→le n m (and_right (leb m n) (leb n m) h) in
    omega arith

pub arity_mul : (k n : ℕ) → k ≡ Mul → T (arity_ok k n) → n ≡ 2
unfolding arity_ok
arity_mul k n e t = between n 2 (subst (λ (j : ℕ). T (arity_ok j n)) e t)

pub arity_neg : (k n : ℕ) → k ≡ Neg → T (arity_ok k n) → n ≡ 1
unfolding arity_ok
arity_neg k n e t = between n 1 (subst (λ (j : ℕ). T (arity_ok j n)) e t)

pub arity_div : (k n : ℕ) → k ≡ Div → T (arity_ok k n) → n ≡ 2
unfolding arity_ok
arity_div k n e t = between n 2 (subst (λ (j : ℕ). T (arity_ok j n)) e t)

-- the tests of an operation's operands
abbrev pub tests : Forest → List Bool
tests f = folds of_list of_paper (λ k l. operands_ok k (length l) && all_of l) f

pub tests_length : (f : Forest) → length (tests f) ≡ operand_count f
unfolding folds operand_count
tests_length nil = refl
tests_length (t ◂ f) = ap suc (tests_length f)
