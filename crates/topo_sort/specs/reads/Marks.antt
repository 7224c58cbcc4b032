-- The names that words hold, put into a row of a table of bits (01, "Order"). Assumes nothing.
use Rattle.std.specs.Prelude.{ℕ, ◌+◌, ◌*◌, ◌/◌, ◌%◌, Bool, true, false, ◌&&◌, ◌||◌, cond, List, [], ◌∷◌, eqb}
use Rattle.words.specs.bits.Bits.{inside, with_yes}

-- the word of the symbol `__xN`
abbrev pub name_word : ℕ → ℕ
name_word n = 64 * (1 + 3 * n)

-- whether a word is that of a `__xN`, and N where it is
abbrev pub is_name_word : ℕ → Bool
is_name_word w = eqb (w % 192) 64

abbrev pub number_of : ℕ → ℕ
number_of w = w / 192

-- whether the word of `__xN` is among some words
unfoldable pub holds_name : List ℕ → ℕ → Bool
holds_name [] n = false
holds_name (w ∷ ws) n = eqb w (name_word n) || holds_name ws n

-- the table with the place of a word's name made yes, as it was where the word is no such name's or the place is outside
unfoldable pub with_need : ℕ → ℕ → List ℕ → List ℕ
unfolding with_yes
with_need w row table = cond (is_name_word w) (with_yes table row (number_of w)) table

unfoldable pub with_needs : List ℕ → ℕ → List ℕ → List ℕ
unfolding with_need
with_needs [] row table = table
with_needs (w ∷ ws) row table = with_needs ws row (with_need w row table)

-- whether the place of a word's name, if it is such a name's, is in a table of so many words
unfoldable pub place_inside : ℕ → ℕ → ℕ → Bool
unfolding inside
place_inside w row words = cond (is_name_word w) (inside words row (number_of w)) true

unfoldable pub all_inside : List ℕ → ℕ → ℕ → Bool
unfolding place_inside
all_inside [] row words = true
all_inside (w ∷ ws) row words = place_inside w row words && all_inside ws row words
