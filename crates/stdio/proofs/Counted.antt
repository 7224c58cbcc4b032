-- The count of a call on the rest of a slice. Assumes nothing.
use Prim.Native.Nat.{ℕ, ◌+◌, ◌-◌, ◌≤◌}
use native.Mathlib.Omega.{arith}
use mathlib.Core.Path.{◌≡◌, subst}
use mathlib.Core.List.{List}
use lib.ListN.{length, take, drop, length-take, length-drop}
use Rattle.std.specs.Prelude.{Result, Ok}
use Rattle.stdio.specs.Within.{Within}

pub counted : {E : Type 0} (r : Result ℕ E) (n lent : ℕ) → r ≡ Ok n → Within r lent → n ≤ lent
counted {E} r n lent e h = subst (λ (x : Result ℕ E). Within x lent) e h

-- what is done and what was moved then is no more than all
pub still_inside :
    {E : Type 0} (l : List ℕ) (done : ℕ) (r : Result ℕ E) (n : ℕ) → done ≤ length l → r ≡ Ok n
    → Within r (length (take (length l - done) (drop done l))) → done + n ≤ length l
still_inside l done r n h e w = omega (arith, simp (length-take, length-drop) at (counted r n (length (take (length l - done) (drop done l))) e w))
