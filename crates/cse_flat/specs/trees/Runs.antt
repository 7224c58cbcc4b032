-- The trees of the flat answer and its rows, by the struct that holds them. Assumes nothing.
use Rattle.std.specs.Prelude.{ℕ, ◌+◌, ◌-◌, List, length}
use Rattle.reciprocals.specs.final.Entries.{final_run, entry, entries}
use Rattle.reciprocals.specs.final.Ready.{binding_run, final_order}
use Rattle.cse_flat.specs.declared.trees.FinalTrees.{FinalTrees}

-- the words of the tree of number i
abbrev pub tree_run : FinalTrees → ℕ → List ℕ
tree_run t i = final_run t.results t.places.now t.tokens.now i

-- the words of binding j, and how many bindings there are
abbrev pub let_run : FinalTrees → ℕ → List ℕ
let_run t j = binding_run t.results t.places.now t.tokens.now j

abbrev pub let_count : FinalTrees → ℕ
let_count t = (length t.starts.now - t.results) + length t.places.now

-- the positions of the bindings in the order in which they are taken
abbrev pub lets_taken : FinalTrees → List ℕ
lets_taken t = final_order t.results t.places.now t.tokens.now (let_count t)

-- the rows of entry q, and those of all
abbrev pub rows_of_entry : FinalTrees → List ℕ → ℕ → List ℕ
rows_of_entry t taken q = entry t.results t.places.now t.tokens.now taken q

abbrev pub rows_of_all : FinalTrees → List ℕ → List ℕ
rows_of_all t taken = entries t.results t.places.now t.tokens.now taken (length taken + t.results)
