-- Factors as runs of words, and places of a product's factors taken out by them (01, "Rewriting"; Tokens), whatever the words are. Assumes nothing.
use Rattle.std.specs.Prelude.{ℕ, zero, suc, ◌+◌, ◌-◌, Bool, true, false, ◌&&◌, ◌||◌, List, [], ◌∷◌, ◌++◌, length, take, drop, ◌==◌, nat_le, nat_lt}
use Rattle.std.proofs.Math.Option.{Option, none, some}
use Rattle.spec_tree.specs.Kinds.{Neg, Mul}
use Rattle.spec_tree.specs.Tokens.{kind_of, words_of}
use Rattle.words.specs.words.Words.{begins_with}

-- ---- the factors of a product, as `flatten_mul_factors` passes through its words

-- a Mul, a Neg or a constant
unfoldable pub is_passed : ℕ → Bool
is_passed w = kind_of w == Mul || (kind_of w == Neg || kind_of w == 1)

-- how many words the first tree is, or all of them where one lacks operands
unfoldable pub first_run : List ℕ → ℕ
unfolding words_of
first_run ws = elim (words_of ws 1) [ none ↦ length ws | some n ↦ n ]

-- the place after the tree at a place
unfoldable pub run_end : List ℕ → ℕ → ℕ
unfolding first_run
run_end ws at = at + first_run (drop at ws)

-- the runs after some words that are skipped
unfoldable pub runs_after : ℕ → List ℕ → List (List ℕ)
unfolding is_passed first_run
runs_after skip [] = []
runs_after (suc skip) (w ∷ ws) = runs_after skip ws
runs_after zero (w ∷ ws) =
    elim (is_passed w) [
      | true ↦ runs_after 0 ws
      | false ↦ take (first_run (w ∷ ws)) (w ∷ ws) ∷ runs_after (first_run (w ∷ ws) - 1) ws
    ]

unfoldable pub factor_runs : List ℕ → List (List ℕ)
unfolding runs_after
factor_runs ws = runs_after 0 ws

-- ---- places taken out

-- the words from a place on, where a place past the end stands for the name
unfoldable pub words_at : List ℕ → ℕ → ℕ → List ℕ
words_at ws name p = elim (nat_lt p (length ws)) [ true ↦ drop p ws | false ↦ name ∷ [] ]

-- without the first place where the run stands
unfoldable pub remove_run : (ℕ → List ℕ) → List ℕ → List ℕ → Option (List ℕ)
unfolding begins_with
remove_run at run [] = none
remove_run at run (p ∷ ps) =
    elim (begins_with (at p) run) [ true ↦ some ps | false ↦ elim (remove_run at run ps) [ none ↦ none | some r ↦ some (p ∷ r) ] ]

-- without one for each run in turn, or none where one is missing
unfoldable pub remove_runs : (ℕ → List ℕ) → List (List ℕ) → List ℕ → Option (List ℕ)
unfolding remove_run
remove_runs at [] ps = some ps
remove_runs at (run ∷ runs) ps = elim (remove_run at run ps) [ none ↦ none | some r ↦ remove_runs at runs r ]

-- the places then, and how often all runs were there
abbrev pub PlacesTaken : Type 0
PlacesTaken = record { places : List ℕ; times : ℕ }

unfoldable pub once_more : PlacesTaken → PlacesTaken
once_more q = record { places = q.places; times = suc q.times }

-- at most so often, the place of the name put at the end each time; no runs are never taken out
unfoldable pub take_out_places : ℕ → (ℕ → List ℕ) → ℕ → List (List ℕ) → List ℕ → PlacesTaken
unfolding remove_runs once_more
take_out_places zero at end runs ps = record { places = ps; times = 0 }
take_out_places (suc most) at end [] ps = record { places = ps; times = 0 }
take_out_places (suc most) at end (run ∷ runs) ps =
    elim (remove_runs at (run ∷ runs) ps) [
      | none ↦ record { places = ps; times = 0 }
      | some r ↦ once_more (take_out_places most at end (run ∷ runs) (r ++ (end ∷ [])))
    ]

-- how many of the places at the end are the name's
unfoldable pub names_after : ℕ → List ℕ → ℕ
names_after end [] = 0
names_after end (p ∷ ps) = elim (names_after end ps == length ps && nat_le end p) [ true ↦ suc (length ps) | false ↦ names_after end ps ]
