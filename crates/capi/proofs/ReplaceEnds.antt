-- What `replace` answers, as a number and a count. Assumes nothing.
use Prim.Native.Nat.{ℕ, ◌≤◌}
use mathlib.Core.Path.{◌≡◌, refl, sym, subst}
use mathlib.Core.List.{List}
use lib.ListN.{length, set}
use Rattle.std.specs.Prelude.{Result, Ok}
use Rattle.replace.specs.declared.ReplaceError.{ReplaceError}
use Rattle.capi.specs.Replaces.{replaced_number, replaced_answer}
use Rattle.capi.proofs.Ends.{one_set}

module _ (got : Result ℕ ReplaceError) (answer : List ℕ) where
  pub replace_wrote : 1 ≤ length answer → (n : ℕ) → got ≡ Ok n → (0 ≡ replaced_number got) × (set answer 0 n ≡ replaced_answer got answer)
  unfolding replaced_number replaced_answer
  replace_wrote h n e = subst (λ g. (0 ≡ replaced_number g) × (set answer 0 n ≡ replaced_answer g answer)) (sym e) (refl, one_set n answer h)
