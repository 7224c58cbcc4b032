-- What is asked and said of the parts of a scope, by the struct that holds them (01, "Scoped fusion"). Assumes nothing.
use Rattle.std.specs.Prelude.{ℕ, ◌+◌, List, length}
use Rattle.spec_tree.specs.Outcome.{Outcome}
use Rattle.spec_tree.specs.Rows.{Row}
use Rattle.fusion.specs.place.Parts.{place_groups, match_run, reciprocals_first}
use Rattle.fusion.specs.place.Whole.{Told, stmts_count, stmt_run, stmts_runs}
use Rattle.statements.specs.Prepared.{Prepared, Grouped}
use Rattle.cse_scoped.specs.one_scope.Answers.{words_of}
use Rattle.cse_scoped.specs.one_scope.Frame.{Sized, Numbered, grouped_scope, scope_arms, group_again}
use Rattle.cse_scoped.specs.declared.one_scope.Parts.{Parts}

-- the number after its lets and reciprocals
abbrev pub after_lets : Parts → ℕ
after_lets p = reciprocals_first p.tokens.now p.results p.first p.places.now + length p.places.now

-- with what it holds
abbrev pub IsPrepared : Parts → List ℕ → Type 0
IsPrepared p held = Prepared p.tokens.now p.results p.first p.places.now held p.starts.now p.members.now p.ends.now p.numbers.now

abbrev pub IsGrouped : Parts → List ℕ → Type 0
IsGrouped p held = Grouped held p.members.now p.ends.now p.numbers.now

abbrev pub IsSized : List Row → ℕ → ℕ → List ℕ → Parts → Type 0
IsSized rows fuel left held p = Sized rows fuel left (after_lets p) held p.numbers.now p.stops.now p.kept.now

abbrev pub AreNumbered : List Row → ℕ → ℕ → List ℕ → Parts → ℕ → ℕ → Type 0
AreNumbered rows fuel left held p after extracted = Numbered rows fuel left (after_lets p) held p.numbers.now p.stops.now p.kept.now after extracted

-- ---- its statements

abbrev pub statement_count : Parts → ℕ
statement_count p = stmts_count p.tokens.now p.results p.first p.places.now p.numbers.now

abbrev pub rows_of_statement : List Row → ℕ → ℕ → Parts → ℕ → List ℕ
rows_of_statement rows fuel left p q =
    stmt_run p.tokens.now p.results p.first p.places.now p.numbers.now (scope_arms rows fuel left p.tokens.now p.results p.first p.places.now) q

-- in their order
abbrev pub rows_of_statements : List Row → ℕ → ℕ → Parts → List ℕ → List ℕ
rows_of_statements rows fuel left p taken =
    stmts_runs p.tokens.now p.results p.first p.places.now p.numbers.now (scope_arms rows fuel left p.tokens.now p.results p.first p.places.now) taken (length taken)

-- those of the match of group g
abbrev pub rows_of_match : List Row → ℕ → ℕ → List ℕ → Parts → ℕ → List ℕ
rows_of_match rows fuel left held p g = match_run held (place_groups held) p.numbers.now (words_of (group_again rows fuel left held p.numbers.now g)) g

-- ---- and what the scope gives

abbrev pub outcome_of : List Row → ℕ → ℕ → ℕ → Parts → Outcome Told
outcome_of rows fuel left row p = grouped_scope rows fuel left row p.tokens.now p.results p.first p.places.now
