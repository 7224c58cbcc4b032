-- Rules numbered 0, 1, .., m - 1, each of which seeks a tree: divisors to bind (01, "Reciprocals") or members of groups (01, "Scoped fusion"). `rank` says of a tree
-- which rule seeks it. A rule's number stands for the rule, and m for none. Assumes nothing.
use Rattle.std.specs.Prelude.{ℕ, zero, suc, ◌≤◌, ◌<◌, ◌≡◌, true, false, List, [], ◌∷◌, get_or, eqb, leb}
use Rattle.std.proofs.Math.Option.{Option, none, some}
use Rattle.spec_tree.specs.Tree.{Tree, Op, nil, eq_tree}
use Rattle.spec_tree.specs.Facts.{count}

-- the rule of a number if it is one of those from s on
unfoldable pub rule_from : ℕ → ℕ → Option ℕ → ℕ
rule_from m s none = m
rule_from m s (some k) = elim (leb s k) [ true ↦ k | false ↦ m ]

-- the rule from s on that seeks a tree
unfoldable pub rule_of : (Tree → Option ℕ) → ℕ → ℕ → Tree → ℕ
unfolding rule_from
rule_of rank m s t = rule_from m s (rank t)

-- the rank of a tree is the number of the one rule that seeks it: so no two rules seek one tree
pub record Ranked (rank : Tree → Option ℕ) (target : ℕ → Tree) (m : ℕ) : Type 0 where
  pub there : (t : Tree) (k : ℕ) → rank t ≡ some k → (k < m) × (t ≡ target k)
  pub found : (k : ℕ) → k < m → rank (target k) ≡ some k

-- n rules one after another, from rule s on
unfoldable pub in_turn : (ℕ → Tree → Tree) → ℕ → ℕ → Tree → Tree
in_turn rule zero s t = t
in_turn rule (suc n) s t = in_turn rule n (suc s) (rule s t)

-- the place of the first of a list that equals a tree
unfoldable pub place_in : List Tree → Tree → Option ℕ
unfolding eq_tree
place_in [] t = none
place_in (d ∷ l) t = elim (eq_tree d t) [ true ↦ some 0 | false ↦ elim (place_in l t) [ none ↦ none | some k ↦ some (suc k) ] ]

-- the tree at a place of a list
unfoldable pub nth : List Tree → ℕ → Tree
nth l k = get_or l k (Op 0 nil)

-- the place of the first of a list of numbers that is a number
unfoldable pub number_place : List ℕ → ℕ → Option ℕ
number_place [] n = none
number_place (k ∷ l) n = elim (eqb k n) [ true ↦ some 0 | false ↦ elim (number_place l n) [ none ↦ none | some i ↦ some (suc i) ] ]

-- no tree stands twice
abbrev pub EachOnce : List Tree → Type 0
EachOnce l = (x : Tree) → count x l ≤ 1
