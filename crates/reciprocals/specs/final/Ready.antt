-- What the parts of the end of flat extraction are given and give: the words with their trees settled, where each tree begins, which binding needs which, and the
-- rows of the answer. Assumes nothing.
use Rattle.std.specs.Prelude.{ℕ, zero, suc, ◌+◌, ◌-◌, ◌*◌, ◌≤◌, ◌<◌, ◌≡◌, true, cond, List, length, get_or, take, replicate, T, ltb, Result, ⊤}
use Rattle.std.proofs.Math.Option.{some}
use Rattle.spec_tree.specs.Outcome.{Outcome, ok, refused, by}
use Rattle.spec_tree.specs.Tokens.{trees_in}
use Rattle.spec_cse.specs.Order.{positions_taken}
use Rattle.spec_cse.specs.Call.{Extracted}
use Rattle.topo_sort.specs.Needs.{table_of, order_answer, order_written}
use Rattle.topo_sort.specs.declared.OrderError.{OrderError}
use Rattle.reciprocals.specs.settle.Steps.{settled_words}
use Rattle.topo_sort.specs.reads.Marks.{with_needs}
use Rattle.reciprocals.specs.reciprocal.Bindings.{all_there}
use Rattle.topo_sort.specs.treelist.Starts.{starts_of}
use Rattle.reciprocals.specs.final.Entries.{final_run}

-- no word lacks an operand, k trees are results, a tree stands at each place, all trees are settled, and their places are listed
pub record Ready (ws settled starts places : List ℕ) (k : ℕ) : Type 0 where
  pub complete : trees_in ws ≡ some (length starts)
  pub enough : k ≤ length starts
  pub there : T (all_there ws places)
  pub few : length ws ≤ 1024
  pub numbers : (length starts - k) + length places ≤ 1024
  pub short : length settled ≤ length ws
  pub settled_is : settled_words ws places (length starts - k) ws ≡ some settled
  pub starts_are : starts ≡ starts_of settled

-- the same from before the trees are settled, with m trees
pub record There (ws : List ℕ) (k m : ℕ) (places : List ℕ) : Type 0 where
  pub complete : trees_in ws ≡ some m
  pub enough : k ≤ m
  pub there : T (all_there ws places)
  pub few : length ws ≤ 1024
  pub numbers : (m - k) + length places ≤ 1024

-- the settled words of all trees stand in front
pub record SettledFront (ws : List ℕ) (k m : ℕ) (places out : List ℕ) (n : ℕ) : Type 0 where
  pub settled_is : settled_words ws places (m - k) ws ≡ some (take n out)
  pub inside : n ≤ length out
  pub short : n ≤ length ws

-- a run of words stands in front
pub record Stands (run out : List ℕ) (n : ℕ) : Type 0 where
  pub many : n ≡ length run
  pub words : take n out ≡ run
  pub inside : n ≤ length out

-- ---- which binding needs which

-- the needs of the first n bindings marked in a table of bits
unfoldable pub marks : (ℕ → List ℕ) → ℕ → List ℕ → List ℕ
unfolding with_needs
marks f zero table = table
marks f (suc n) table = with_needs (f n) n (marks f n table)

-- the bindings stand after the k results
unfoldable pub binding_run : ℕ → List ℕ → List ℕ → ℕ → List ℕ
unfolding final_run
binding_run k places ws j = final_run k places ws (k + j)

-- the positions of the bindings in the order in which they are taken, the latest first, by a table with a row of 32 words for each
unfoldable pub final_order : ℕ → List ℕ → List ℕ → ℕ → List ℕ
unfolding marks binding_run table_of positions_taken
final_order k places ws count = positions_taken (table_of (marks (binding_run k places ws) count (replicate (32 * count) 0)) count)

pub record InOrder (order : List ℕ) (count : ℕ) (old new : List ℕ) (answer : Result ⊤ OrderError) : Type 0 where
  pub answer_is : answer ≡ order_answer true count order
  pub taken_is : new ≡ order_written true order old
  pub inside : count ≤ length new

-- each is the position of a binding
pub record Positions (taken : List ℕ) (count : ℕ) : Type 0 where
  pub below : (q : ℕ) → q < length taken → get_or taken q 0 < count
  pub few : length taken ≤ count

-- ---- rows

-- rows where as many are lent, or refusal 12
unfoldable pub lent_rows : ℕ → List ℕ → ℕ → Outcome Extracted
lent_rows lent new made = cond (ltb lent (length new)) (refused (by 12)) (ok (record { words = new; extracted = made }))
