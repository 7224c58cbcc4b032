-- Links from each statement to those that need it, in lists that ascend, as they are made and as they are followed (01, "Order"). Assumes nothing.
use Rattle.std.specs.Prelude.{⊤, ℕ, zero, suc, ◌+◌, ◌-◌, ◌*◌, ◌/◌, ◌%◌, ◌≤◌, ◌<◌, ◌≡◌, Bool, true, false, ◌||◌, cond, List, [], ◌∷◌, eqb, length, get_or, set, Result}
use Rattle.words.specs.bits.Bits.{yes}
use Rattle.spec_cse.specs.Order.{positions_taken}
use Rattle.topo_sort.specs.Needs.{columns, table_of, order_answer, order_written}
use Rattle.topo_sort.specs.Turns.{joined, joins}
use Rattle.topo_sort.specs.reads.Marks.{name_word, holds_name}
use Rattle.topo_sort.specs.declared.OrderError.{OrderError}

-- the statement of link h, and the link after it
abbrev pub stmt_of : List ℕ → ℕ → ℕ
stmt_of links h = get_or links (h - 1) 0 % 2048

abbrev pub next_of : List ℕ → ℕ → ℕ
next_of links h = get_or links (h - 1) 0 / 2048

-- the links from h on are those of a list
unfoldable pub Chain : List ℕ → ℕ → List ℕ → Type 0
Chain links h [] = h ≡ 0
Chain links h (j ∷ l) = (0 < h) × ((stmt_of links h ≡ j) × ((next_of links h < h) × Chain links (next_of links h) l))

-- whether the list from link h on begins with a statement
unfoldable pub first_is : List ℕ → ℕ → ℕ → Bool
first_is links h j = cond (eqb h 0) false (eqb (stmt_of links h) j)

-- of the n statements from j on those that need statement i
unfoldable pub needing : List ℕ → ℕ → ℕ → ℕ → List ℕ
unfolding yes
needing needs i j zero = []
needing needs i j (suc n) = joined (yes needs j i) j (needing needs i (suc j) n)

-- ---- links made

abbrev pub one_if : Bool → ℕ
one_if true = 1
one_if false = 0

-- how many of the n numbers from i on have something
unfoldable pub how_many : (ℕ → Bool) → ℕ → ℕ → ℕ
how_many f i zero = 0
how_many f i (suc n) = one_if (f i) + how_many f (suc i) n

-- n links, each list begins with one of them, and there is room for one more
pub record Linkable (j n : ℕ) (heads links : List ℕ) : Type 0 where
  pub number : j < 2048
  pub within : (i : ℕ) → i < length heads → get_or heads i 0 ≤ n
  pub room : n < length links
  pub small : length links ≤ 65536

-- by whether there is such a link already
abbrev pub Added : Bool → ℕ → ℕ → ℕ → List ℕ → List ℕ → ℕ → List ℕ → List ℕ → Type 0
Added true i j n heads links m new_heads new_links = (m ≡ n) × ((new_heads ≡ heads) × (new_links ≡ links))
Added false i j n heads links m new_heads new_links =
    (m ≡ n + 1) × ((new_heads ≡ set heads i (n + 1)) × (new_links ≡ set links n (j + 2048 * get_or heads i 0)))

-- a list doesn't begin with a statement
abbrev pub Fresh : ℕ → List ℕ → Type 0
Fresh j [] = Unit {0}
Fresh j (k ∷ l) = k ≡ j → ⊥

-- to each list of statements after j, j is put in front where b says so
pub record Links (j : ℕ) (b : ℕ → Bool) (lists : ℕ → List ℕ) (first n : ℕ) (heads links : List ℕ) : Type 0 where
  pub fresh : (i : ℕ) → i < length heads → Fresh j (lists i)
  pub chains : (i : ℕ) → i < length heads → Chain links (get_or heads i 0) (joined (b i) j (lists i))
  pub many : n ≡ first + how_many b 0 (length heads)

-- what holds of the numbers alone
pub record Kept (n m most : ℕ) (heads links new_heads new_links : List ℕ) : Type 0 where
  pub within : (i : ℕ) → i < length new_heads → get_or new_heads i 0 ≤ m
  pub more : n ≤ m
  pub fewer : m ≤ n + most
  pub heads_long : length new_heads ≡ length heads
  pub links_long : length new_links ≡ length links

-- after one word of statement j
pub record Named (w j n : ℕ) (heads links : List ℕ) (m : ℕ) (new_heads new_links : List ℕ) : Type 0 where
  pub kept : Kept n m 1 heads links new_heads new_links
  pub links_are :
      (b : ℕ → Bool) (lists : ℕ → List ℕ) (first : ℕ) → Links j b lists first n heads links → Links j (λ i. b i || eqb w (name_word i)) lists first m new_heads new_links

-- after some words
pub record Names (ws : List ℕ) (j n : ℕ) (heads links : List ℕ) (m : ℕ) (new_heads new_links : List ℕ) : Type 0 where
  pub kept : Kept n m (length ws) heads links new_heads new_links
  pub links_are :
      (lists : ℕ → List ℕ) → ((i : ℕ) → i < length heads → Fresh j (lists i)) → ((i : ℕ) → i < length heads → Chain links (get_or heads i 0) (lists i))
      → Links j (holds_name ws) lists n m new_heads new_links

-- ---- statements linked from the last to the first

-- the statements from j on, of `count`
pub record Linking (needs : List ℕ) (count j : ℕ) (heads links waiting : List ℕ) : Type 0 where
  pub chains : (i : ℕ) → i < count → Chain links (get_or heads i 0) (needing needs i j (count - j))
  pub waits : (k : ℕ) → j ≤ k → k < count → get_or waiting k 0 ≡ length (columns needs k 0 count)

-- a table says of statement j that it needs what some words name
abbrev pub Says : List ℕ → ℕ → ℕ → List ℕ → Type 0
Says needs count j ws = (i : ℕ) → i < count → yes needs j i ≡ holds_name ws i

-- what linking is lent
pub record Lent (count n : ℕ) (heads links waiting : List ℕ) : Type 0 where
  pub many : length heads ≡ count
  pub few : count ≤ 2048
  pub within : (i : ℕ) → i < count → get_or heads i 0 ≤ n
  pub room : n ≤ length links
  pub small : length links ≤ 65536
  pub wide : count ≤ length waiting

-- after statement j, where there was room
pub record StmtLinked (ws : List ℕ) (count j : ℕ) (heads links waiting : List ℕ) (m : ℕ) (new_heads new_links new_waiting : List ℕ) : Type 0 where
  pub lent : Lent count m new_heads new_links new_waiting
  pub linked : (needs : List ℕ) → Says needs count j ws → Linking needs count (j + 1) heads links waiting → Linking needs count j new_heads new_links new_waiting

-- ---- links followed

-- a list of links for each of `count` statements, and how many it needs
pub record Linked (needs : List ℕ) (count : ℕ) (heads links waiting : List ℕ) : Type 0 where
  pub chains : (i : ℕ) → i < count → Chain links (get_or heads i 0) (needing needs i 0 count)
  pub within : (i : ℕ) → i < count → get_or heads i 0 ≤ length links
  pub waits : (k : ℕ) → k < count → get_or waiting k 0 ≡ length (columns needs k 0 count)

pub record SomeLinked (count : ℕ) (heads links waiting : List ℕ) : Type 0 where
  pub needs : List ℕ
  pub linked : Linked needs count heads links waiting

-- statement i was taken, and there is room for those that join
pub record Joinable (needs : List ℕ) (count i : ℕ) (links : List ℕ) (head : ℕ) (waiting stack : List ℕ) (top : ℕ) : Type 0 where
  pub chain : Chain links head (needing needs i 0 count)
  pub wide : count ≤ length waiting
  pub room : top + length (joins needs i waiting 0 count) ≤ length stack
  pub waits : (k : ℕ) → k < count → yes needs k i ≡ true → 1 ≤ get_or waiting k 0

pub record SomeJoinable (links : List ℕ) (head : ℕ) (waiting stack : List ℕ) (top : ℕ) : Type 0 where
  pub within : head ≤ length links
  pub needs : List ℕ
  pub count : ℕ
  pub stmt : ℕ
  pub joinable : Joinable needs count stmt links head waiting stack top

-- the order that links give
pub record OrdersLinked (needs : List ℕ) (count : ℕ) (taken : List ℕ) (answer : Result ⊤ OrderError) (new_taken : List ℕ) : Type 0 where
  pub answer_is : answer ≡ order_answer true count (positions_taken (table_of needs count))
  pub taken_is : new_taken ≡ order_written true (positions_taken (table_of needs count)) taken
