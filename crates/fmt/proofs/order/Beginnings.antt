-- The beginning of a slice. Assumes nothing.
use Prim.Native.Nat.{ℕ, min}
use native.Mathlib.Omega.{arith}
use mathlib.Core.Path.{◌≡◌, refl, sym, ◌∙◌, ap}
use mathlib.Core.Bool.{Bool, true, false}
use mathlib.Core.List.{List}
use borrow.Author.Tests.{leb-true, leb-false}
use lib.ListN.{length, take}
use lib.Seq.{length-take-le, take_all, take-length}
use lib.Dec.{leb}

-- ---- the beginning of a slice

pub beginning : (n k : ℕ) (l : List ℕ) → k ≡ min n (length l) → take k l ≡ take n l
beginning n k l e = go (leb n (length l)) refl
  where
    go : (b : Bool) → leb n (length l) ≡ b → take k l ≡ take n l
    go true q = let h = leb-true n (length l) q in let d : k ≡ n = omega arith in ap (λ (j : ℕ). take j l) d
    go false q =
        let h = leb-false n (length l) q in
        let d : k ≡ length l = omega arith in
        ap (λ (j : ℕ). take j l) d ∙ (take-length l ∙ sym (take_all n l (omega arith)))

pub beginning_long : (n k : ℕ) (l : List ℕ) → k ≡ min n (length l) → k ≡ length (take k l)
beginning_long n k l e = sym (length-take-le k l (omega arith))
