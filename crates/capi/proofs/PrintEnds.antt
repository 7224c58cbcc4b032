-- What print answers, as a number and a count. Assumes nothing.
use Prim.Native.Nat.{ℕ, ◌≤◌}
use mathlib.Core.Path.{◌≡◌, refl, sym, subst}
use mathlib.Core.List.{List}
use lib.ListN.{length, set}
use Rattle.print.specs.Printing.{Printed}
use Rattle.print.specs.Printing as printed
use Rattle.capi.specs.Prints.{printed_number, printed_answer}
use Rattle.capi.proofs.Ends.{one_set}

module _ (got : Printed) (said : List ℕ) where
  pub bytes_printed :
      1 ≤ length said → (n : ℕ) → got ≡ printed.Bytes n → (0 ≡ printed_number got) × (set said 0 n ≡ printed_answer got said)
  unfolding printed_number printed_answer
  bytes_printed h n e = subst (λ g. (0 ≡ printed_number g) × (set said 0 n ≡ printed_answer g said)) (sym e) (refl, one_set n said h)

  pub print_refused : (q : ℕ) → got ≡ printed.Refused q → (q ≡ printed_number got) × (said ≡ printed_answer got said)
  unfolding printed_number printed_answer
  print_refused q e = subst (λ g. (q ≡ printed_number g) × (said ≡ printed_answer g said)) (sym e) (refl, refl)
