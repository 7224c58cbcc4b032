-- What the functions that work on lists of places are lent and leave. Assumes nothing.
use Rattle.std.specs.Prelude.{ℕ, ◌<◌, ◌≡◌, Bool, not, ◌&&◌, cond, List, [], ◌∷◌, ◌++◌, length, get_or, take, drop, set, leb, Option, None}
use Rattle.spec_tree.specs.Facts.{size}
use Rattle.rounds.specs.uses.Marks.{is_marked}
use Rattle.reciprocals.specs.divisors.Listing.{second_answer}
use Rattle.laws.specs.positions.Places.{numbered_at, divisor_places, outside_at, among_places, count_places, distinct_places, shared_places}

-- each place is below n
abbrev pub Inside : ℕ → List ℕ → Type 0
Inside n [] = Unit {0}
Inside n (q ∷ l) = (q < n) × Inside n l

-- the size of the tree at a place stands there in a table, and so at each of some places
abbrev pub SizeThere : List ℕ → List ℕ → ℕ → Type 0
SizeThere ws sizes q = (q < length sizes) × (get_or sizes q 0 ≡ size (numbered_at ws q))

abbrev pub Sized : List ℕ → List ℕ → List ℕ → Type 0
Sized ws sizes [] = Unit {0}
Sized ws sizes (q ∷ l) = SizeThere ws sizes q × Sized ws sizes l

-- they are put there
unfoldable pub with_sizes : List ℕ → List ℕ → List ℕ → List ℕ
unfolding size numbered_at
with_sizes ws [] sizes = sizes
with_sizes ws (q ∷ l) sizes = with_sizes ws l (set sizes q (size (numbered_at ws q)))

-- places stand in front, n of them, and everything after is as it was
pub record Listed (new old : List ℕ) (n : ℕ) (out : List ℕ) : Type 0 where
  pub count : n ≡ length new
  pub places : out ≡ new ++ drop (length new) old

-- where the divisor of the division at a marked place stands, if there is one
unfoldable pub marked_second : List ℕ → List ℕ → ℕ → Option ℕ
unfolding second_answer is_marked
marked_second ws marks p = cond (is_marked marks p) (second_answer ws p) None

-- the places of the divisors of divisions outside arms
unfoldable pub outside_places : List ℕ → Bool → List ℕ
unfolding divisor_places outside_at
outside_places ws scoped = divisor_places ws (outside_at ws scoped) (length ws)

-- whether the place at i of all is to be bound: its tree stands first there, twice among all, and once among those outside arms
unfoldable pub chosen_at : List ℕ → List ℕ → List ℕ → ℕ → Bool
unfolding among_places count_places
chosen_at ws all out i =
    not (among_places ws (get_or all i 0) (take i all)) && (leb 2 (count_places ws (get_or all i 0) all) && leb 1 (count_places ws (get_or all i 0) out))

-- those to be bound, in the order of their first divisions
unfoldable pub chosen_places : List ℕ → List ℕ → List ℕ → List ℕ
unfolding distinct_places shared_places
chosen_places ws all out = shared_places ws all out (distinct_places ws [] all)
