-- The steps of the order as the code takes them: the stack in words, and how many needs of each statement are left. Assumes nothing.
use Rattle.std.specs.Prelude.{ℕ, zero, suc, ◌-◌, ◌≤◌, ◌<◌, ◌≡◌, Bool, true, false, ◌&&◌, List, [], ◌∷◌, ◌++◌, reverse, eqb, length, get_or, take, drop, set}
use Rattle.words.specs.bits.Bits.{yes}
use Rattle.spec_cse.specs.Order.{free_from, push}
use Rattle.topo_sort.specs.Needs.{columns, table_of}

-- the stack that the first words are, its top first
unfoldable pub stack_of : ℕ → List ℕ → List ℕ
stack_of top words = reverse (take top words)

-- a position joins a stack, or not
abbrev pub joined : Bool → ℕ → List ℕ → List ℕ
joined true j stack = j ∷ stack
joined false j stack = stack

-- one need less is left, or as many
abbrev pub lower : Bool → ℕ → ℕ
lower true w = w - 1
lower false w = w

-- of the n statements from j on those that need statement i and no other that isn't taken
unfoldable pub joins : List ℕ → ℕ → List ℕ → ℕ → ℕ → List ℕ
unfolding yes
joins needs i waiting j zero = []
joins needs i waiting j (suc n) = joined (yes needs j i && eqb (get_or waiting j 0) 1) j (joins needs i waiting (suc j) n)

-- a position on the stack, or not
pub record Pushed (free : Bool) (j : ℕ) (old_stack : List ℕ) (top : ℕ) (stack : List ℕ) (new_top : ℕ) : Type 0 where
  pub pushed : stack_of new_top stack ≡ joined free j (stack_of top old_stack)
  pub inside : new_top ≤ length stack
  pub long : length stack ≡ length old_stack

-- a statement with so many needs at the start
pub record Begun (left j : ℕ) (old_waiting old_stack : List ℕ) (top : ℕ) (waiting stack : List ℕ) (new_top : ℕ) : Type 0 where
  pub waits : waiting ≡ set old_waiting j left
  pub pushes : Pushed (eqb left 0) j old_stack top stack new_top

-- a statement after another is taken, which it needs or not
pub record Met (needed : Bool) (j : ℕ) (old_waiting old_stack : List ℕ) (top : ℕ) (waiting stack : List ℕ) (new_top : ℕ) : Type 0 where
  pub waits : waiting ≡ set old_waiting j (lower needed (get_or old_waiting j 0))
  pub pushes : Pushed (needed && eqb (get_or old_waiting j 0) 1) j old_stack top stack new_top

-- all statements at the start
pub record Counted (needs : List ℕ) (count : ℕ) (waiting stack : List ℕ) (top : ℕ) : Type 0 where
  pub waits : (k : ℕ) → k < count → get_or waiting k 0 ≡ length (columns needs k 0 count)
  pub pushes : stack_of top stack ≡ push (free_from 0 (table_of needs count)) []
  pub inside : top ≤ length stack

-- all statements after one is taken
pub record Lowered (needs : List ℕ) (count i : ℕ) (old_waiting old_stack : List ℕ) (top : ℕ) (waiting stack : List ℕ) (new_top : ℕ) : Type 0 where
  pub waits : (k : ℕ) → k < count → get_or waiting k 0 ≡ lower (yes needs k i) (get_or old_waiting k 0)
  pub pushes : stack_of new_top stack ≡ push (joins needs i old_waiting 0 count) (stack_of top old_stack)
  pub inside : new_top ≤ length stack

-- a place for each statement
pub record Room (count : ℕ) (waiting stack taken : List ℕ) : Type 0 where
  pub few : count ≤ 2048
  pub waiting_long : count ≤ length waiting
  pub stack_long : count ≤ length stack
  pub taken_long : count ≤ length taken

-- the positions taken, the latest first, and what they leave
pub record Taken (order old_taken taken : List ℕ) (n : ℕ) : Type 0 where
  pub many : n ≡ length order
  pub words : taken ≡ reverse order ++ drop n old_taken
