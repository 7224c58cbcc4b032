-- The first two clauses of demand 3 for the trees of any table whatever, loaded or not: they hold input symbols only. Assumes nothing.
use Prim.Native.Nat.{ℕ, zero, suc}
use mathlib.Core.Bool.{Bool, true}
use mathlib.Core.List.{List, [], ◌∷◌, ◌++◌}
use lib.ListN.{get_or}
use lib.Dec.{T}
use Rattle.spec_tree.specs.Tree.{Name, Tree, Op, nil, forest}
use Rattle.spec_tree.specs.Rows.{Row, row_sym, row_const, row_op, Table, at, tree_of_row, trees_from, trees}
use Rattle.spec_tree.proofs.Logic.{and_left, and_right, and_both}
use Rattle.spec_rewrite.proofs.Names.{holds, holds_each, holds_all, holds_append, below}
use Rattle.laws.proofs.cse.ScopeValue.{under}
use Rattle.laws.proofs.cse.Both.{NamesAndValues, names_and_values}

picked : (p : Name → Bool) (ts : List Tree) (n : ℕ) → T (holds_all p ts) → T (holds p (get_or ts n (Op 0 nil)))
unfolding holds holds_all
picked p [] n h = tt
picked p (t ∷ ts) zero h = and_left (holds p t) (holds_all p ts) h
picked p (t ∷ ts) (suc n) h = picked p ts n (and_right (holds p t) (holds_all p ts) h)

all_picked : (p : Name → Bool) (ts : List Tree) (ns : List ℕ) → T (holds_all p ts) → T (holds_all p (at ts ns))
unfolding holds_all at
all_picked p ts [] h = tt
all_picked p ts (n ∷ ns) h = and_both (holds p (get_or ts n (Op 0 nil))) (holds_all p (at ts ns)) (picked p ts n h) (all_picked p ts ns h)

forest_holds : (p : Name → Bool) (ts : List Tree) → T (holds_all p ts) → T (holds_each p (forest ts))
unfolding holds holds_all forest
forest_holds p [] h = tt
forest_holds p (t ∷ ts) h = and_both (holds p t) (holds_each p (forest ts)) (and_left (holds p t) (holds_all p ts) h) (forest_holds p ts (and_right (holds p t) (holds_all p ts) h))

row_holds : (ts : List Tree) (r : Row) → T (holds_all (under 0) ts) → T (holds (under 0) (tree_of_row ts r))
unfolding holds below tree_of_row
row_holds ts (row_sym s) h = tt
row_holds ts (row_const c) h = tt
row_holds ts (row_op k ns) h = forest_holds (under 0) (at ts ns) (all_picked (under 0) ts ns h)

rows_hold : (ts : List Tree) (l : List Row) → T (holds_all (under 0) ts) → T (holds_all (under 0) (trees_from ts l))
unfolding trees_from
rows_hold ts [] h = h
rows_hold ts (r ∷ l) h =
    rows_hold (ts ++ (tree_of_row ts r ∷ [])) l
    (holds_append (under 0) ts (tree_of_row ts r ∷ []) h (unfold holds_all in (and_both (holds (under 0) (tree_of_row ts r)) true (row_holds ts r h) tt)))

pub table_names_and_values : (t : Table) → NamesAndValues (trees t)
unfolding trees
table_names_and_values t =
    names_and_values (at (trees_from [] t.rows) t.roots)
    (all_picked (under 0) (trees_from [] t.rows) t.roots (rows_hold [] t.rows (unfold holds_all in tt)))
