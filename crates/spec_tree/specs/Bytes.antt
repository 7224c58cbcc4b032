-- Byte strings: a quoted text's bytes, equality, a test of every byte, joining, and decimal numbers. Assumes nothing.
use Rattle.std.specs.Prelude.{ℕ, zero, suc, ◌+◌, ◌/◌, ◌%◌, Bool, true, false, ◌&&◌, List, [], ◌∷◌, ◌++◌, ℤ, pos, negsuc, eqb, ltb}
use Prim.Native.Char.{code}
use Prim.Native.String as Str
use Prim.Native.String.{String}

-- a quoted text's bytes: all of them ASCII here
abbrev pub bytes : String → List ℕ
bytes Str.[] = []
bytes (Str.◌∷◌ c s) = code c ∷ bytes s

unfoldable pub eq_bytes : List ℕ → List ℕ → Bool
eq_bytes [] [] = true
eq_bytes [] (b ∷ t) = false
eq_bytes (a ∷ s) [] = false
eq_bytes (a ∷ s) (b ∷ t) = elim (eqb a b) [ true ↦ eq_bytes s t | false ↦ false ]

unfoldable pub every : (ℕ → Bool) → List ℕ → Bool
every p [] = true
every p (b ∷ l) = p b && every p l

-- parts with a separator between them
unfoldable pub joined : List ℕ → List (List ℕ) → List ℕ
joined sep [] = []
joined sep (s ∷ []) = s
joined sep (s ∷ (t ∷ l)) = s ++ sep ++ joined sep (t ∷ l)

-- decimal digits; from 10 on a number has fewer digits than its own value, and below 10 one, so that the value is fuel enough
unfoldable pub digits : ℕ → ℕ → List ℕ
digits zero n = (48 + n) ∷ []
digits (suc fuel) n = elim (ltb n 10) [ true ↦ (48 + n) ∷ [] | false ↦ digits fuel (n / 10) ++ ((48 + n % 10) ∷ []) ]

unfoldable pub decimal : ℕ → List ℕ
unfolding digits
decimal n = digits n n

unfoldable pub integer : ℤ → List ℕ
unfolding decimal
integer (pos n) = decimal n
integer (negsuc n) = 45 ∷ decimal (suc n)
