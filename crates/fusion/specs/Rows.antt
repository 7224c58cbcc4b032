-- How many rows a scope's answer takes (01, "Turned down", refusal 12), from the sizes of its settled trees. Assumes nothing.
use Rattle.std.specs.Prelude.{ℕ, suc, ◌+◌, List, [], ◌∷◌, map, length, take, drop}
use Rattle.spec_tree.specs.Tree.{Tree}
use Rattle.spec_tree.specs.Facts.{size}
use Rattle.spec_tree.specs.Rows.{occurrences}
use Rattle.spec_cse.specs.Answer.{block, value_rows, stmts_rows, arms_rows}
use Rattle.spec_cse.specs.Scope.{members, Scoped}
use Rattle.laws.specs.positions.Rounds.{next_number}
use Rattle.reciprocals.proofs.bindings.Parts.{settled_reciprocals}
use Rattle.fusion.specs.Settled.{fused_tree, Numbered, all_steps}
use Rattle.fusion.specs.Whole.{settled_fused}

-- of statements and values
unfoldable pub scoped_rows : Scoped → ℕ
unfolding stmts_rows value_rows block
scoped_rows a = stmts_rows (block a.inters) + value_rows a.results

-- a match, its key, its names and its arms
unfoldable pub match_rows : List Numbered → ℕ
unfolding size fused_tree all_steps members arms_rows
match_rows [] = 0
match_rows (g ∷ l) = suc (size (fused_tree (all_steps l) g.group.first.key) + length (members g.group)) + arms_rows g.armed.arms + match_rows l

-- trees, and one row more for each
unfoldable pub rows_of : List Tree → ℕ
unfolding occurrences
rows_of l = length l + occurrences l

-- lets, reciprocals, matches and results
unfoldable pub settled_rows : ℕ → ℕ → List Tree → List Tree → List Numbered → ℕ
unfolding rows_of match_rows settled_fused fused_tree all_steps next_number
settled_rows k first ts ds gs =
    let n = next_number k first ts in
    let steps = all_steps gs in
    rows_of (map (settled_fused ds n steps) (drop k ts)) + (rows_of (map (fused_tree steps) (settled_reciprocals ds n)) + match_rows gs)
    + rows_of (map (settled_fused ds n steps) (take k ts))
