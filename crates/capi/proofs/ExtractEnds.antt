-- What extract answers, as a number and two counts. Assumes nothing.
use Prim.Native.Nat.{ℕ, ◌≤◌}
use mathlib.Core.Path.{◌≡◌, refl, sym, subst}
use mathlib.Core.List.{List}
use lib.ListN.{length, set}
use Rattle.cse_flat.specs.Extraction.{Extraction}
use Rattle.cse_flat.specs.Extraction as extraction
use Rattle.capi.specs.Extracts.{extracted_number, extracted_answer}
use Rattle.capi.proofs.Ends.{two_set}

module _ (got : Extraction) (answer : List ℕ) where
  pub extracted :
      2 ≤ length answer → (n m : ℕ) → got ≡ extraction.Rows n m
      → (0 ≡ extracted_number got) × (set (set answer 0 n) 1 m ≡ extracted_answer got answer)
  unfolding extracted_number extracted_answer
  extracted h n m e =
      subst (λ g. (0 ≡ extracted_number g) × (set (set answer 0 n) 1 m ≡ extracted_answer g answer)) (sym e) (refl, two_set n m answer h)

  pub extract_refused : (q : ℕ) → got ≡ extraction.Refused q → (q ≡ extracted_number got) × (answer ≡ extracted_answer got answer)
  unfolding extracted_number extracted_answer
  extract_refused q e = subst (λ g. (q ≡ extracted_number g) × (answer ≡ extracted_answer g answer)) (sym e) (refl, refl)
