-- The test of a constant's fields, in the code's order (01, "Expressions and facts"). Assumes nothing.
use Rattle.std.specs.Prelude.{ℕ, Bool, true, ◌&&◌, cond, List, length, get_or, eqb, ltb}

-- a constant's sign and size; no minus zero
unfoldable pub constant_test : List ℕ → Bool
constant_test f = eqb (length f) 2 && (ltb (get_or f 1 0) 1000000000000000 && (cond (eqb (get_or f 0 0) 0) true (eqb (get_or f 0 0) 1 && ltb 0 (get_or f 1 0))))
