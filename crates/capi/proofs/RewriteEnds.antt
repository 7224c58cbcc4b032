-- What a rewriting answers, as a number and a count. Assumes nothing.
use Prim.Native.Nat.{ℕ, ◌≤◌}
use mathlib.Core.Path.{◌≡◌, refl, sym, subst}
use mathlib.Core.List.{List}
use lib.ListN.{length, set}
use Rattle.std.specs.Prelude.{Result, Ok}
use Rattle.words.specs.declared.fault.Fault.{Fault}
use Rattle.capi.specs.Rewrites.{rewritten_number, rewritten_answer}
use Rattle.capi.proofs.Ends.{one_set}

module _ (got : Result ℕ Fault) (answer : List ℕ) where
  pub rewrite_wrote :
      1 ≤ length answer → (n : ℕ) → got ≡ Ok n → (0 ≡ rewritten_number got) × (set answer 0 n ≡ rewritten_answer got answer)
  unfolding rewritten_number rewritten_answer
  rewrite_wrote h n e = subst (λ g. (0 ≡ rewritten_number g) × (set answer 0 n ≡ rewritten_answer g answer)) (sym e) (refl, one_set n answer h)
