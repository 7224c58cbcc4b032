-- Sums over lists of trees and over operands, and the measures of trees that add up over operands: operations, nodes, and the weight of `Weight`.
-- A law on such a measure is proved once, and says the same of each. Assumes nothing.
use Prim.Native.Nat.{ℕ, suc, ◌+◌, ◌≤◌}
use mathlib.Core.Path.{◌≡◌, refl, sym, ap}
use mathlib.Core.Bool.{Bool, true, false}
use mathlib.Core.List.{List, [], ◌∷◌, ◌++◌}
use native.Mathlib.Omega.{arith}
use native.Mathlib.Nat.{zero-add}
use lib.IntN.{ℤ}
use lib.Dec.{T}
use lib.ListN.{length}
use Rattle.spec_tree.specs.Tree.{Name, Tree, Forest, Sym, Const, Op, nil, ◌◂◌, fold, folds, eq_tree}
use Rattle.spec_tree.proofs.TreeLaws.{eq_tree_refl}
use Rattle.spec_tree.specs.Facts.{all_operations, operations, total, size, count}

-- ---- sums

unfoldable pub sum_of : (Tree → ℕ) → List Tree → ℕ
sum_of μ [] = 0
sum_of μ (t ∷ l) = μ t + sum_of μ l

pub sum_append : (μ : Tree → ℕ) (s t : List Tree) → sum_of μ (s ++ t) ≡ sum_of μ s + sum_of μ t
unfolding sum_of
sum_append μ [] t = sym (zero-add (sum_of μ t))
sum_append μ (e ∷ s) t = (let c = sum_append μ s t in omega arith)

pub length_sum : (l : List Tree) → length l ≡ sum_of (λ t. 1) l
unfolding sum_of
length_sum [] = refl
length_sum (t ∷ l) = (let a = length_sum l in omega arith)

unfoldable pub sum_each : (Tree → ℕ) → Forest → ℕ
sum_each μ nil = 0
sum_each μ (t ◂ f) = μ t + sum_each μ f

pub operations_sum : (l : List Tree) → all_operations l ≡ sum_of operations l
unfolding all_operations sum_of
operations_sum [] = refl
operations_sum (e ∷ l) = ap (λ (m : ℕ). operations e + m) (operations_sum l)

-- ---- how often an expression stands in a list, as a sum

unfoldable pub one_of : Tree → Tree → ℕ
one_of y x = elim (eq_tree y x) [ true ↦ 1 | false ↦ 0 ]

pub count_cons : (x y : Tree) (l : List Tree) → count x (y ∷ l) ≡ one_of y x + count x l
unfolding count one_of
count_cons x y l = go (eq_tree y x)
  where
    go : (b : Bool) → elim b [ true ↦ suc (count x l) | false ↦ count x l ] ≡ elim b [ true ↦ 1 | false ↦ 0 ] + count x l
    go true = omega arith
    go false = sym (zero-add (count x l))

pub one_self : (x : Tree) → one_of x x ≡ 1
unfolding one_of
one_self x = go (eq_tree x x) (eq_tree_refl x)
  where
    go : (b : Bool) → T b → ◌≡◌ {A = ℕ} (elim b [ true ↦ 1 | false ↦ 0 ]) 1
    go true t = refl
    go false t = absurd t

pub count_sum : (x : Tree) (l : List Tree) → count x l ≡ sum_of (λ y. one_of y x) l
unfolding count sum_of
count_sum x [] = refl
count_sum x (y ∷ l) = (let a = count_cons x y l in let b = count_sum x l in omega arith)

-- ---- measures

-- what each constant and each operation sign counts; a symbol may count by its name
pub record Measure : Type 0 where
  pub of : Tree → ℕ
  pub constant : ℕ
  pub node : ℕ
  pub at_constant : (c : ℤ) → of (Const c) ≡ constant
  pub at_node : (k : ℕ) (f : Forest) → of (Op k f) ≡ node + sum_each of f

-- operations count 0 for a leaf, and nodes 1
module _ (a : ℕ) where
  counted : Tree → ℕ
  unfolding fold total
  counted = fold (λ n. a) (λ c. a) (λ k counts. suc (total counts))

  counted_op : (k : ℕ) (f : Forest) → counted (Op k f) ≡ 1 + sum_each counted f
  unfolding counted sum_each
  counted_op k f = (let q = same f in omega arith)
    where
      same : (f : Forest) → total (folds (λ n. a) (λ c. a) (λ k counts. suc (total counts)) f) ≡ sum_each counted f
      same nil = refl
      same (t ◂ f) = ap (λ (n : ℕ). counted t + n) (same f)

abbrev pub forest_operations : Forest → ℕ
forest_operations = sum_each operations

abbrev pub sizes : Forest → ℕ
sizes = sum_each size

pub operations_op : (k : ℕ) (f : Forest) → operations (Op k f) ≡ 1 + forest_operations f
unfolding operations counted
operations_op k f = counted_op 0 k f

pub size_op : (k : ℕ) (f : Forest) → size (Op k f) ≡ 1 + sizes f
unfolding size counted
size_op k f = counted_op 1 k f

pub size_up : (e : Tree) → 1 ≤ size e
size_up (Sym s) = (unfold size in omega arith)
size_up (Const c) = (unfold size in omega arith)
size_up (Op k f) = (let q = size_op k f in omega arith)

pub operations_const : (c : ℤ) → operations (Const c) ≡ 0
unfolding operations
operations_const c = refl

pub size_const : (c : ℤ) → size (Const c) ≡ 1
unfolding size
size_const c = refl

abbrev pub by_operations : Measure
by_operations = record { of = operations; constant = 0; node = 1; at_constant = operations_const; at_node = operations_op }

abbrev pub by_size : Measure
by_size = record { of = size; constant = 1; node = 1; at_constant = size_const; at_node = size_op }

-- no tree measures less than the symbol n, which takes the place of other trees
abbrev pub Least : Measure → Name → Type 0
Least M n = (t : Tree) → M.of (Sym n) ≤ M.of t

pub least_operations : (n : Name) → Least by_operations n
least_operations n t = (let q : operations (Sym n) ≡ 0 = (unfold operations in refl) in omega arith)

pub least_size : (n : Name) → Least by_size n
least_size n t = (let q : size (Sym n) ≡ 1 = (unfold size in refl) in let u = size_up t in omega arith)
