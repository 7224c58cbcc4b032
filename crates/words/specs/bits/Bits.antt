-- A table of yes or no in words: 2,048 places a row, 32 words of 64 bits. Assumes nothing.
use Rattle.std.specs.Prelude.{ℕ, ◌+◌, ◌*◌, ◌/◌, ◌%◌, ◌^◌, Bool, ◌&&◌, cond, List, eqb, ltb, length, get_or, set}
use Rattle.std.specs.Int.Bits.{bit_or}

-- whether bit k of a word is 1
unfoldable pub bit : ℕ → ℕ → Bool
bit w k = eqb (w / 2 ^ k % 2) 1

-- the word that a place is in
abbrev pub word_of : ℕ → ℕ → ℕ
word_of row column = 32 * row + column / 64

-- whether a place is in a table of so many words
unfoldable pub inside : ℕ → ℕ → ℕ → Bool
inside words row column = ltb column 2048 && ltb (word_of row column) words

-- whether a place is yes; outside the table it isn't
unfoldable pub yes : List ℕ → ℕ → ℕ → Bool
unfolding bit inside
yes table row column = inside (length table) row column && bit (get_or table (word_of row column) 0) (column % 64)

-- the table with a place made yes, as it was where there is no such place
unfoldable pub with_yes : List ℕ → ℕ → ℕ → List ℕ
unfolding inside
with_yes table row column =
    cond (inside (length table) row column) (set table (word_of row column) (bit_or (get_or table (word_of row column) 0) (2 ^ (column % 64)))) table
