-- What needs what, read from a table of bits, and what the order of the statements answers and leaves (01, "Order"). Assumes nothing.
use Rattle.std.specs.Prelude.{⊤, ℕ, zero, suc, ◌*◌, ◌≡◌, Bool, true, false, ◌&&◌, List, [], ◌∷◌, ◌++◌, reverse, eqb, leb, length, drop, Result, Ok, Err}
use Rattle.words.specs.bits.Bits.{yes}
use Rattle.spec_cse.specs.Order.{positions_taken}
use Rattle.topo_sort.specs.declared.OrderError.{OrderError}
use Rattle.topo_sort.specs.declared.OrderError.TheVariants as order_error

-- the places of row j that are yes among the n from i on, ascending
unfoldable pub columns : List ℕ → ℕ → ℕ → ℕ → List ℕ
unfolding yes
columns needs j i zero = []
columns needs j i (suc n) = elim (yes needs j i) [ true ↦ i ∷ columns needs j (suc i) n | false ↦ columns needs j (suc i) n ]

-- what the n statements from j on need, of `count` statements
unfoldable pub rows_from : List ℕ → ℕ → ℕ → ℕ → List (List ℕ)
unfolding columns
rows_from needs count j zero = []
rows_from needs count j (suc n) = columns needs j 0 count ∷ rows_from needs count (suc j) n

-- for each of `count` statements the positions of those that it needs
unfoldable pub table_of : List ℕ → ℕ → List (List ℕ)
unfolding rows_from
table_of needs count = rows_from needs count 0 count

-- whether what is lent is long enough: at most 2,048 statements, a row of 32 words and a place in each list for each
unfoldable pub room : List ℕ → ℕ → List ℕ → List ℕ → List ℕ → Bool
room needs count waiting stack taken =
    leb count 2048 && (leb (32 * count) (length needs) && (leb count (length waiting) && (leb count (length stack) && leb count (length taken))))

abbrev pub all_or_ring : Bool → ℕ → Result ⊤ OrderError
all_or_ring true n = Ok tt
all_or_ring false n = Err (order_error.Ring n)

-- from the positions taken, the latest first: whether these are all, or how many
unfoldable pub order_answer : Bool → ℕ → List ℕ → Result ⊤ OrderError
order_answer true count order = all_or_ring (eqb (length order) count) (length order)
order_answer false count order = Err order_error.Broken

-- the positions at the front, in the order in which they are taken, and the words after them as before
unfoldable pub order_written : Bool → List ℕ → List ℕ → List ℕ
order_written true order taken = reverse order ++ drop (length order) taken
order_written false order taken = taken

-- the answer and what is left in what is lent; the work area is free where there is room, and as before where there isn't
pub record Orders (needs : List ℕ) (count : ℕ) (waiting stack taken : List ℕ) (answer : Result ⊤ OrderError) (new_waiting new_stack new_taken : List ℕ) : Type 0 where
  pub answer_is : answer ≡ order_answer (room needs count waiting stack taken) count (positions_taken (table_of needs count))
  pub taken_is : new_taken ≡ order_written (room needs count waiting stack taken) (positions_taken (table_of needs count)) taken
  pub work_is : room needs count waiting stack taken ≡ false → (new_waiting ≡ waiting) × (new_stack ≡ stack)
