-- What is asked and said of a scope's parts, of the structs that hold them: the words of one tree, how many statements there are, and their order. Assumes nothing.
use Rattle.std.specs.Prelude.{ℕ, ◌+◌, ◌-◌, List, length}
use Rattle.fusion.specs.place.Parts.{place_groups, key_run}
use Rattle.fusion.specs.place.Whole.{stmts_count, tree_run, stmts_order}
use Rattle.statements.specs.declared.Scope.{Scope}
use Rattle.statements.specs.declared.Matches.{Matches}
use Rattle.statements.specs.Prepared.{Prepared, Readied, Grouped, head_run}

abbrev pub IsPrepared : Scope → List ℕ → Type 0
IsPrepared s ends = Prepared s.tokens.now s.results s.first s.places.now s.held.now s.starts.now s.members.now ends s.numbers.now

abbrev pub IsReadied : Scope → Type 0
IsReadied s = Readied s.tokens.now s.results s.first s.places.now s.held.now s.starts.now s.members.now s.numbers.now

abbrev pub IsGrouped : Matches → Type 0
IsGrouped g = Grouped g.held.now g.members.now g.ends.now g.numbers.now

-- the final tree of number i
abbrev pub tree_at : Scope → ℕ → List ℕ
tree_at s i = tree_run s.tokens.now s.results s.first s.places.now s.numbers.now i

-- how many lets and reciprocals there are
abbrev pub bound_by : Scope → ℕ
bound_by s = (length s.starts.now - s.results) + length s.places.now

abbrev pub count_of : Scope → ℕ
count_of s = stmts_count s.tokens.now s.results s.first s.places.now s.numbers.now

abbrev pub order_of : Scope → List ℕ
order_of s = stmts_order s.tokens.now s.results s.first s.places.now s.numbers.now

-- the key of group g, and the rows of its match before its arms
abbrev pub key_of : Matches → ℕ → List ℕ
key_of s g = key_run s.held.now (place_groups s.held.now) s.numbers.now g

abbrev pub head_of : Matches → ℕ → List ℕ
head_of s g = head_run s.held.now (place_groups s.held.now) s.numbers.now g
