-- Numbers below a bound (01, "Expressions and facts"). Assumes nothing.
use Rattle.std.specs.Prelude.{ℕ, Bool, List, ltb}
use Rattle.spec_tree.specs.Bytes.{every}

-- each number below n; with n 1, each word 0
abbrev pub below : ℕ → List ℕ → Bool
below n l = every (λ k. ltb k n) l
