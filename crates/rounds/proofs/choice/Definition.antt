-- The answer of `best_place` is the best candidate of 01's definition (Extract): of the trees that the words are, under the names of the node rows.
-- Assumes nothing.
use Prim.Native.Nat.{ℕ}
use mathlib.Core.Path.{◌≡◌, sym, ◌∙◌, ap}
use mathlib.Core.Bool.{Bool}
use mathlib.Core.Option.{Option, none, some}
use mathlib.Core.List.{List}
use lib.Dec.{T}
use Rattle.spec_tree.specs.Rows.{Row}
use Rattle.spec_tree.specs.Tokens.{read, name_in}
use Rattle.spec_cse.specs.Extract.{best}
use Rattle.laws.specs.positions.Names.{is_number, symbols_pass}
use Rattle.laws.specs.positions.Places.{best_place}
use Rattle.laws.proofs.positions.BestPlace.{if_some, named_there, best_at_place}
use Rattle.rounds.specs.Answers.{Finds}
use Rattle.std.specs.Prelude as answer

-- the place of an answer
abbrev pub place_in : answer.Option ℕ → Option ℕ
place_in (answer.Some p) = some p
place_in answer.None = none

module _ (rows : List Row) (ws : List ℕ) (scoped : Bool) where
  pub answer_is : (r : answer.Option ℕ) → Finds rows ws scoped r → place_in r ≡ best_place ws (name_in rows) scoped
  answer_is (answer.Some p) f = sym f
  answer_is answer.None f = sym f

  -- where symbols are numbered by the first row with their name, that is the best candidate of the definition
  pub answer_is_best :
      (h : T (symbols_pass (is_number rows) ws)) (r : answer.Option ℕ) → Finds rows ws scoped r
      → best scoped (read (name_in rows) ws) ≡ if_some (named_there rows ws h) (place_in r)
  answer_is_best h r f = best_at_place rows ws h scoped ∙ ap (if_some (named_there rows ws h)) (sym (answer_is r f))
