-- What `flatten_mul_factors` answers, and the places after it. Assumes nothing.
use Rattle.std.specs.Prelude.{ℕ, Bool, true, false, List, ◌++◌, length, drop, nat_lt, Result, Ok, Err}
use Rattle.std.proofs.Math.Option.{none, some}
use Rattle.spec_tree.specs.Tree.{Tree}
use Rattle.spec_tree.specs.Tokens.{run_at}
use Rattle.spec_rewrite.specs.Rewrite.{flatten_mul_factors}
use Rattle.replace.specs.factors.Places.{tree, factor_places}
use Rattle.replace.specs.declared.factors.Product.{Product}
use Rattle.words.specs.declared.fault.Fault.{Fault}
use Rattle.words.specs.declared.fault.Fault.TheVariants as fault

pub record Flattening : Type 0 where
  pub answer : Result Product Fault
  pub places : List ℕ

-- the places of the factors in front of what stood after as many, or nothing written
unfoldable pub flattened_by : Bool → ℕ → Tree → List ℕ → Flattening
unfolding flatten_mul_factors factor_places
flattened_by true at t old = record { answer = Err fault.NoRoom; places = old }
flattened_by false at t old =
    record {
      answer = Ok (record { coefficient = (flatten_mul_factors t).coefficient; count = length (factor_places at t) });
      places = factor_places at t ++ drop (length (factor_places at t)) old;
    }

-- a tree must be there; then a place is wanted for each of its words
unfoldable pub flatten_answer : List ℕ → ℕ → List ℕ → Flattening
unfolding flattened_by run_at
flatten_answer ws at old = elim (run_at ws at) [ none ↦ record { answer = Err fault.Broken; places = old } | some n ↦ flattened_by (nat_lt (length old) n) at (tree ws at) old ]
