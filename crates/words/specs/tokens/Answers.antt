-- The answers of tokens by cases, each from a definition of Tokens. Assumes nothing.
use Rattle.std.specs.Prelude.{ℕ, ◌+◌, ◌≡◌, Bool, List, Option, Some, None}
use Rattle.std.proofs.Math.Option as maybe
use Rattle.std.proofs.Math.Option.{none, some}
use Rattle.spec_tree.specs.Tokens.{run_at}

unfoldable pub count_answer : maybe.Option ℕ → Option ℕ
count_answer none = None
count_answer (some n) = Some n

-- the place after a tree that starts at a place, from the number of its words
unfoldable pub end_answer : ℕ → maybe.Option ℕ → Option ℕ
end_answer at none = None
end_answer at (some n) = Some (at + n)

-- a tree is there
abbrev pub There : List ℕ → ℕ → Type 0
There ws at = (n : ℕ) × (run_at ws at ≡ some n)

-- and ends before a place
abbrev pub EndsAt : List ℕ → ℕ → ℕ → Type 0
EndsAt ws at r = Some r ≡ end_answer at (run_at ws at)

-- whether two trees are equal, where both are there
unfoldable pub same_answer : maybe.Option Bool → Option Bool
same_answer none = None
same_answer (some b) = Some b
