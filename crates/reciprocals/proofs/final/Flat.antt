-- The end of flat extraction is what the call of extract has after its rounds, where the places are those of the divisors to bind. Assumes nothing.
use Prim.Native.Nat.{ℕ}
use mathlib.Core.Path.{◌≡◌, refl}
use mathlib.Core.Bool.{false}
use mathlib.Core.List.{List}
use Rattle.spec_tree.specs.Outcome.{ok, ◌>>=◌}
use Rattle.spec_tree.proofs.TokenCode.{unnumbered}
use Rattle.spec_cse.specs.Scope.{as_answer}
use Rattle.laws.specs.positions.Places.{divisors_to_bind}
use Rattle.laws.specs.positions.Rounds.{reciprocals_words}
use Rattle.laws.proofs.positions.FlatCall.{flat_end}
use Rattle.laws.proofs.positions.Calls.{written}
use Rattle.reciprocals.specs.final.Final.{final_words, final_scope, rows_or_12, final_rows}

pub flat_rows :
    (name_at : ℕ → List ℕ) (lent k : ℕ) (vs : List ℕ)
    → (flat_end name_at k vs >>= λ a. ok (as_answer a) >>= λ a. written unnumbered lent a) ≡ final_rows lent k (divisors_to_bind vs name_at false) vs
unfolding final_words final_scope rows_or_12 final_rows reciprocals_words
flat_rows name_at lent k vs = refl
