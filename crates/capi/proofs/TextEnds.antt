-- What a writer of texts answers, as a number and two places. Assumes nothing.
use Prim.Native.Nat.{ℕ, ◌≤◌}
use mathlib.Core.Path.{◌≡◌, refl, sym, subst}
use mathlib.Core.List.{List}
use lib.ListN.{length, set}
use Rattle.std.specs.Prelude.{Option, Some, None}
use Rattle.fmt.specs.declared.writer.Pos.{Pos}
use Rattle.capi.specs.Texts.{text_number, text_answer}
use Rattle.capi.proofs.Ends.{two_set}

module _ (got : Option Pos) (answer : List ℕ) where
  pub text_written :
      2 ≤ length answer → (p : Pos) → got ≡ Some p
      → (0 ≡ text_number got) × (set (set answer 0 p.next) 1 p.to ≡ text_answer got answer)
  unfolding text_number text_answer
  text_written h p e =
      subst (λ g. (0 ≡ text_number g) × (set (set answer 0 p.next) 1 p.to ≡ text_answer g answer)) (sym e) (refl, two_set p.next p.to answer h)

  pub text_broken : got ≡ None → (253 ≡ text_number got) × (answer ≡ text_answer got answer)
  unfolding text_number text_answer
  text_broken e = subst (λ g. (253 ≡ text_number g) × (answer ≡ text_answer g answer)) (sym e) (refl, refl)
