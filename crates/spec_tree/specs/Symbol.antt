-- The names of symbols (01, "Expressions and facts"). Assumes nothing.
use Rattle.std.specs.Prelude.{ℕ, Bool, false, not, ◌&&◌, ◌||◌, List, [], ◌∷◌, length, eqb, leb}
use Rattle.spec_tree.specs.Bytes.{every}

abbrev pub is_digit : ℕ → Bool
is_digit b = leb 48 b && leb b 57

abbrev pub is_letter : ℕ → Bool
is_letter b = (leb 65 b && leb b 90) || ((leb 97 b && leb b 122) || eqb b 95)

-- spelled like a name that an answer makes
unfoldable pub is_made : List ℕ → Bool
unfolding every
is_made [] = false
is_made (a ∷ []) = false
is_made (a ∷ (b ∷ [])) = false
is_made (a ∷ (b ∷ (c ∷ []))) = false
is_made (a ∷ (b ∷ (c ∷ (d ∷ l)))) = eqb a 95 && (eqb b 95 && ((eqb c 120 || eqb c 109) && every is_digit (d ∷ l)))

unfoldable pub is_name : List ℕ → Bool
unfolding every is_made
is_name [] = false
is_name (b ∷ l) = is_letter b && (every (λ c. is_letter c || is_digit c) l && (leb (length (b ∷ l)) 32 && not (is_made (b ∷ l))))
