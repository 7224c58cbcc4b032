-- A statement as the binding that its rows are read into (01, "Scoped fusion": its key inside the switch inside the binding). Assumes nothing.
use Rattle.std.specs.Prelude.{ℕ, ◌+◌, Bool, true, false, List, length, eqb}
use Rattle.spec_tree.specs.Kinds.{Branch, SelectOr}
use Rattle.spec_tree.specs.Rows.{Row}
use Rattle.spec_tree.specs.Tokens.{name_code, tokens}
use Rattle.spec_cse.specs.Answer.{Intermediate}
use Rattle.spec_cse.specs.Answer as answer
use Rattle.spec_cse.specs.Read.{arm_count}
use Rattle.print.specs.told.Writers.{SomeStmt}
use Rattle.print.specs.declared.answerwriter.Switch.{Switch}
use Rattle.print.specs.declared.answerwriter.Switch.TheVariants.{Index, Sign}
use Rattle.print.specs.declared.answerwriter.Binding.{Binding}
use Rattle.print.specs.declared.answerwriter.Binding.TheVariants.{Let, Match}

abbrev pub is_sign : Switch → Bool
is_sign (Index key) = false
is_sign (Sign key) = true

-- the place of the key
abbrev pub key_of : Switch → ℕ
key_of (Index key) = key
key_of (Sign key) = key

unfoldable pub switch_by : Bool → ℕ → Switch
switch_by true key = Sign key
switch_by false key = Index key

-- what stands at a place, by the places and numbers of its rows: the key after the first row, the names after the key
unfoldable pub binding_of : (List ℕ → ℕ) → ℕ → Intermediate → Binding
unfolding switch_by name_code tokens arm_count
binding_of number at (answer.Let n e) = Let (name_code number n) (at + 1)
binding_of number at (answer.Match k key ns arms) =
    Match (switch_by (eqb k Branch) (at + 1)) (at + 1 + length (tokens number key)) (length ns) (arm_count arms) (eqb k SelectOr)

-- a statement stands at a place, its symbols some list's
abbrev pub Readable : List ℕ → ℕ → Type 0
Readable ws at = (rows : List Row) × SomeStmt rows ws at
