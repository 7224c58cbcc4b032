-- Whether a tree stands at each place: how the test goes on and ends, and that it holds exactly where a tree stands at each. Assumes nothing.
use Rattle.std.specs.Option.{is_some}
use Rattle.std.specs.List.{list_all}
use Prim.Native.Nat.{ℕ, zero, suc, ◌<◌}
use native.Mathlib.Omega.{arith}
use mathlib.Core.Path.{◌≡◌, refl, ap}
use mathlib.Core.Bool.{Bool, ◌&&◌}
use mathlib.Core.Option.{Option, none, some}
use mathlib.Core.List.{List, [], ◌∷◌}
use lib.ListN.{length, get_or, drop}
use lib.Dec.{T}
use Rattle.spec_tree.specs.Tokens.{run_at}
use Rattle.spec_tree.proofs.Logic.{and_left, and_right, and_both}
use Rattle.words.specs.tokens.Answers.{end_answer}
use Rattle.words.specs.words.Words.{some_trees}
use Rattle.reciprocals.proofs.bindings.Parts.{AllThere}
use Rattle.reciprocals.specs.reciprocal.Bindings.{all_there}
use Rattle.rounds.proofs.kept.Steps.{some_there}

-- ---- the test, place by place

pub is_there : (at : ℕ) (o : Option ℕ) → is_some (end_answer at o) ≡ some_trees o
unfolding end_answer some_trees
is_there at none = refl
is_there at (some n) = refl

pub all_tested : (base places : List ℕ) → list_all (λ p. some_trees (run_at base p)) places ≡ all_there base places
unfolding all_there
all_tested base [] = refl
all_tested base (p ∷ l) = ap (λ (b : Bool). some_trees (run_at base p) && b) (all_tested base l)

-- ---- what the test says

pub there_tested : (base places : List ℕ) → AllThere base places → T (all_there base places)
unfolding all_there some_trees
there_tested base [] h = tt
there_tested base (p ∷ l) h =
    and_both (some_trees (run_at base p)) (all_there base l) (rw h.0.1 tt) (there_tested base l h.1)

pub tested_there : (base places : List ℕ) → T (all_there base places) → AllThere base places
unfolding all_there
tested_there base [] h = tt
tested_there base (p ∷ l) h =
    let b = some_trees (run_at base p) in
    (some_there (run_at base p) (and_left b (all_there base l) h), tested_there base l (and_right b (all_there base l) h))

-- ---- each of the places, and those after it

pub there_after : (base places : List ℕ) (j : ℕ) → AllThere base places → AllThere base (drop j places)
there_after base places zero h = h
there_after base [] (suc j) h = tt
there_after base (p ∷ l) (suc j) h = there_after base l j h.1

pub there_at : (base places : List ℕ) (j : ℕ) → j < length places → AllThere base places → (n : ℕ) × (run_at base (get_or places j 0) ≡ some n)
there_at base [] j h a = absurd (omega arith)
there_at base (p ∷ l) zero h a = a.0
there_at base (p ∷ l) (suc j) h a = there_at base l j (omega arith) a.1
