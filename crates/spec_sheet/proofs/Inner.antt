-- Bytes that neither a record nor a field ends at: those of names, of numbers and of constants. Assumes nothing.
use Prim.Native.Nat.{ℕ, suc, ◌≤◌}
use mathlib.Core.Bool.{Bool, not, ◌&&◌, ◌||◌}
use mathlib.Core.List.{List, [], ◌∷◌}
use native.Mathlib.Omega.{arith}
use borrow.Author.Tests.{ne_eqb}
use lib.IntN.{ℤ, pos, negsuc}
use lib.ListN.{length}
use lib.Dec.{T, eqb, leb, eqb→eq, leb→le, le→leb}
use Rattle.spec_tree.specs.Bytes.{every, decimal, integer}
use Rattle.spec_tree.specs.Symbol.{is_digit, is_letter, is_made, is_name}
use Rattle.spec_tree.proofs.Logic.{and_left, and_right, and_both, either}
use Rattle.spec_sheet.specs.Sheet.{plain}
use Rattle.spec_tree.proofs.Tests.{every_implies}
use Rattle.spec_sheet.proofs.Numerals.{digit_range, decimal_digits}

abbrev pub no_comma : ℕ → Bool
no_comma b = not (eqb b 44)

-- a byte that may stand in a field
abbrev pub inner : ℕ → Bool
inner b = plain b && no_comma b

-- the bytes of names, numbers and constants are all past the comma, and with it past a quote, a CR and an LF
abbrev high : ℕ → Bool
high b = leb 45 b

high_inner : (b : ℕ) → T (high b) → T (inner b)
unfolding plain
high_inner b h =
    let l = leb→le 45 b h in
    rw (ne_eqb b 34 (omega arith), ne_eqb b 13 (omega arith), ne_eqb b 10 (omega arith), ne_eqb b 44 (omega arith)) tt

pub inner_plain : (l : List ℕ) → T (every inner l) → T (every plain l)
inner_plain l h = every_implies inner plain (λ b t. and_left (plain b) (no_comma b) t) l h

pub inner_no_comma : (l : List ℕ) → T (every inner l) → T (every no_comma l)
inner_no_comma l h = every_implies inner no_comma (λ b t. and_right (plain b) (no_comma b) t) l h

digit_high : (b : ℕ) → T (is_digit b) → T (high b)
digit_high b h = let i = digit_range b h in le→leb 45 b (omega arith)

letter_high : (b : ℕ) → T (is_letter b) → T (high b)
letter_high b h =
    le→leb 45 b
    (either (45 ≤ b) (leb 65 b && leb b 90) ((leb 97 b && leb b 122) || eqb b 95) (λ u. let l = leb→le 65 b (and_left (leb 65 b) (leb b 90) u) in omega arith)
    (either (45 ≤ b) (leb 97 b && leb b 122) (eqb b 95) (λ u. let l = leb→le 97 b (and_left (leb 97 b) (leb b 122) u) in omega arith) (λ u. let e = eqb→eq b 95 u in omega arith)) h)

pub name_inner : (s : List ℕ) → T (is_name s) → T (every inner s)
unfolding is_name every
name_inner [] h = absurd h
name_inner (b ∷ l) h =
    let rest = every (λ c. is_letter c || is_digit c) l && (leb (length (b ∷ l)) 32 && not (is_made (b ∷ l))) in
    and_both (inner b) (every inner l) (high_inner b (letter_high b (and_left (is_letter b) rest h)))
    (every_implies (λ c. is_letter c || is_digit c) inner (λ c u. high_inner c (either (T (high c)) (is_letter c) (is_digit c) (letter_high c) (digit_high c) u)) l
    (and_left (every (λ c. is_letter c || is_digit c) l) (leb (length (b ∷ l)) 32 && not (is_made (b ∷ l))) (and_right (is_letter b) rest h)))

pub decimal_inner : (n : ℕ) → T (every inner (decimal n))
decimal_inner n = every_implies is_digit inner (λ b u. high_inner b (digit_high b u)) (decimal n) (decimal_digits n)

pub integer_inner : (c : ℤ) → T (every inner (integer c))
unfolding integer every
integer_inner (pos n) = decimal_inner n
integer_inner (negsuc n) = and_both (inner 45) (every inner (decimal (suc n))) (high_inner 45 tt) (decimal_inner (suc n))
