-- A division has two operands, so divisions are at most half of the nodes, and the divisors to bind, each divided by twice, at most a quarter. Assumes nothing.
use Prim.Native.Nat.{ℕ, suc, ◌+◌, ◌*◌, ◌≤◌}
use mathlib.Core.Bool.{Bool, true, false, cond}
use mathlib.Core.Option.{none, some}
use mathlib.Core.List.{List, [], ◌∷◌}
use native.Mathlib.Omega.{arith}
use lib.ListN.{length}
use lib.Dec.{eqb}
use Rattle.spec_tree.specs.Tree.{Tree, Forest, Sym, Const, Op, nil, ◌◂◌}
use Rattle.spec_tree.specs.Kinds.{Div}
use Rattle.spec_tree.specs.Facts.{size, nodes, nodes_of, all_nodes}
use Rattle.spec_rewrite.proofs.Measure.{sum_of, sum_each, sizes, size_op, size_up}
use Rattle.spec_cse.specs.Extract.{State, roots, divisor_of, divisors}
use Rattle.laws.proofs.cse.ReciprocalsCount.{bound_divisors, bound_twice}
use Rattle.laws.proofs.cse.DivisorsMost.{bound_once, divisors_length, counts_most, twice_each}
use Rattle.laws.proofs.cse.SizeCount.{total_size}

-- ---- divisions among the nodes

unfoldable pub operands_count : Forest → ℕ
operands_count nil = 0
operands_count (t ◂ f) = suc (operands_count f)

-- a division's node and its two operands' make up for the divisor
division_step :
    (k : ℕ) (f : Forest) (l : List Tree) → 2 * length {A = Tree} (elim (divisor_of (Op k f)) as (λ _. List Tree) [ none ↦ l | some d ↦ d ∷ l ]) ≤ operands_count f + 2 * length l
unfolding divisor_of operands_count
division_step k nil l = omega arith
division_step k (a ◂ nil) l = omega arith
division_step k (a ◂ (b ◂ f)) l = go (eqb k Div)
  where
    go : (c : Bool) → 2 * length {A = Tree} (elim (cond c (some b) none) as (λ _. List Tree) [ none ↦ l | some d ↦ d ∷ l ]) ≤ suc (suc (operands_count f)) + 2 * length l
    go true = omega arith
    go false = omega arith

mutual
  unfolding divisors nodes sum_each operands_count

  divisions : (e : Tree) → 2 * length (divisors (nodes e)) + 1 ≤ size e
  divisions (Sym s) = (let a = size_up (Sym s) in omega arith)
  divisions (Const c) = (let a = size_up (Const c) in omega arith)
  divisions (Op k f) = (let a = division_step k f (divisors (nodes_of f)) in let b = divisions_each f in let c = size_op k f in omega arith)

  divisions_each : (f : Forest) → 2 * length (divisors (nodes_of f)) + operands_count f ≤ sizes f
  divisions_each nil = omega arith
  divisions_each (t ◂ f) = (let a = divisions t in let b = divisions_each f in let c = divisors_length (nodes t) (nodes_of f) in omega arith)

divisions_all : (l : List Tree) → 2 * length (divisors (all_nodes l)) + length l ≤ total_size l
unfolding all_nodes sum_of
divisions_all [] = (unfold divisors in omega arith)
divisions_all (e ∷ l) = (let a = divisions e in let b = divisions_all l in let c = divisors_length (nodes e) (all_nodes l) in omega arith)

-- ---- those to bind are different, and each is divided by twice

pub bound_quarter : (scoped : Bool) (s : State) → 4 * length (bound_divisors scoped s) + length (roots s) ≤ total_size (roots s)
bound_quarter scoped s =
    (let a = twice_each (divisors (all_nodes (roots s))) (bound_divisors scoped s) (bound_twice scoped s) in
    let b = counts_most (divisors (all_nodes (roots s))) (bound_divisors scoped s) (bound_once scoped s) in
    let c = divisions_all (roots s) in
    omega arith)
