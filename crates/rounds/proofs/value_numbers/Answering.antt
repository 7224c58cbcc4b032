-- How many nodes the pass enters, and what it leaves. Assumes nothing.
use Prim.Native.Nat.{ℕ, suc, ◌≤◌}
use native.Mathlib.Omega.{arith}
use mathlib.Core.Path.{ap}
use mathlib.Core.Bool.{Bool, true, false}
use mathlib.Core.List.{List, [], ◌∷◌}
use lib.ListN.{length}
use Rattle.spec_tree.specs.Tree.{Tree}
use Rattle.spec_tree.specs.Facts.{all_nodes}
use Rattle.spec_tree.specs.Tokens.{read, numbered}
use Rattle.spec_tree.proofs.TokenLaws.{trees_length, places_are_nodes}
use Rattle.rounds.specs.value_numbers.Answers.{is_among, distinct, Passed, Tables}

distinct_few : (l : List Tree) → distinct l ≤ length l
unfolding distinct
distinct_few [] = omega arith
distinct_few (t ∷ l) = go (distinct_few l) (is_among t l)
  where
    go : distinct l ≤ length l → (b : Bool) → elim b as (λ _. ℕ) [ true ↦ distinct l | false ↦ suc (distinct l) ] ≤ suc (length l)
    go h true = omega arith
    go h false = omega arith

trees_few : (ws : List ℕ) → distinct (all_nodes (read numbered ws)) ≤ length ws
trees_few ws = omega (arith, distinct_few (all_nodes (read numbered ws)), ap length (places_are_nodes numbered ws), trees_length numbered ws)

pub leaves_tables : (ws old : List ℕ) (r : ℕ) (new cl us : List ℕ) → Passed ws old r new cl us → Tables ws old r new cl us
leaves_tables ws old r new cl us k =
    let e = k.all_entered in
    record {
      facts_are = k.facts_are;
      classes_are = k.classes_are;
      uses_are = k.uses_are;
      at_least = omega (arith, trees_few ws);
      at_most = omega arith;
    }
