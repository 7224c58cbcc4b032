-- No fact of a tree is more than its size, by one law on folds, and however symbols are named the facts at each place are the same (Facts, Tokens).
-- Assumes nothing.
use Prim.Native.Nat.{ℕ, suc, ◌≤◌}
use native.Mathlib.Omega.{arith}
use mathlib.Core.Bool.{Bool, true, false, cond}
use mathlib.Core.List.{List, [], ◌∷◌}
use lib.IntN.{ℤ}
use Rattle.spec_tree.specs.Kinds.{is_select}
use Rattle.spec_tree.specs.Tree.{Name, Tree, Forest, Sym, Const, Op, nil, ◌◂◌, fold, folds}
use Rattle.spec_tree.specs.Facts.{total, greatest, first_and_greatest, cost, depth, operations, size}
use Rattle.spec_tree.specs.Tokens.{flag}

-- ---- none is more than the size

pub greatest_total : (l : List ℕ) → greatest l ≤ total l
unfolding greatest total
greatest_total [] = omega arith
greatest_total (n ∷ l) = omega (arith, greatest_total l)

pub first_total : (l : List ℕ) → first_and_greatest l ≤ total l
unfolding first_and_greatest total
first_total [] = omega arith
first_total (n ∷ l) = omega (arith, greatest_total l)

pub costs_total : (b : Bool) (l : List ℕ) → cond b (first_and_greatest l) (total l) ≤ total l
costs_total true l = first_total l
costs_total false l = omega arith

-- a fold that adds at most one to the sum of what is below is at most the size
module _ (leaf : Name → ℕ) (constant : ℤ → ℕ) (operation : ℕ → List ℕ → ℕ) (leaves : (n : Name) → leaf n ≤ 1) (constants : (c : ℤ) → constant c ≤ 1) (sums : (k : ℕ) (l : List ℕ) → operation k l ≤ suc (total l)) where
  mutual
    unfolding fold size total

    pub below_size : (t : Tree) → fold leaf constant operation t ≤ size t
    below_size (Sym n) = leaves n
    below_size (Const c) = constants c
    below_size (Op k f) = omega (arith, sums k (folds leaf constant operation f), below_sizes f)

    below_sizes : (f : Forest) → total (folds leaf constant operation f) ≤ total (folds (λ n. 1) (λ c. 1) (λ k sizes. suc (total sizes)) f)
    below_sizes nil = omega arith
    below_sizes (t ◂ f) = omega (arith, below_size t, below_sizes f)

pub cost_size : (t : Tree) → cost t ≤ size t
unfolding cost
cost_size t =
    below_size (λ n. 0) (λ c. 0) (λ k costs. suc (cond (is_select k) (first_and_greatest costs) (total costs))) (λ n. omega arith) (λ c. omega arith) (λ k l. omega (arith, costs_total (is_select k) l)) t

pub depth_size : (t : Tree) → depth t ≤ size t
unfolding depth
depth_size t =
    below_size (λ n. 0) (λ c. 0) (λ k depths. suc (greatest depths)) (λ n. omega arith) (λ c. omega arith) (λ k l. omega (arith, greatest_total l)) t

pub operations_size : (t : Tree) → operations t ≤ size t
unfolding operations
operations_size t =
    below_size (λ n. 0) (λ c. 0) (λ k counts. suc (total counts)) (λ n. omega arith) (λ c. omega arith) (λ k l. omega arith) t

pub flag_one : (b : Bool) → flag b ≤ 1
unfolding flag
flag_one true = omega arith
flag_one false = omega arith

pub size_one : (t : Tree) → 1 ≤ size t
unfolding size
size_one (Sym n) = omega arith
size_one (Const c) = omega arith
size_one (Op k f) = omega arith

-- ---- however symbols are named, the facts at each place are the same
