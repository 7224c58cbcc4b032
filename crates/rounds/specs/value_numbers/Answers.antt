-- What `class_tables` leaves in the tables, and how many nodes it enters. Assumes nothing.
use Rattle.std.specs.Prelude.{ℕ, suc, ◌*◌, ◌≤◌, ◌≡◌, Bool, true, false, List, [], ◌∷◌, ◌++◌, length, drop}
use Rattle.spec_tree.specs.Tree.{Tree, eq_tree}
use Rattle.spec_tree.specs.Facts.{all_nodes}
use Rattle.spec_tree.specs.Tokens.{trees_at, read, numbered}
use Rattle.rounds.specs.measure.Columns.{all_place_facts}
use Rattle.rounds.specs.value_numbers.Tables.{Known, Uses}

-- what the pass leaves, and how many nodes it entered
pub record Passed (ws old : List ℕ) (entered : ℕ) (facts classes uses : List ℕ) : Type 0 where
  pub facts_are : facts ≡ all_place_facts (trees_at numbered ws) ++ drop (4 * length ws) old
  pub classes_are : Known ws 0 classes
  pub uses_are : Uses ws (λ j. true) classes uses
  pub all_entered : entered ≡ length ws

-- how many distinct trees a list has
unfoldable pub is_among : Tree → List Tree → Bool
unfolding eq_tree
is_among t [] = false
is_among t (u ∷ l) = elim (eq_tree u t) [ true ↦ true | false ↦ is_among t l ]

unfoldable pub distinct : List Tree → ℕ
unfolding is_among
distinct [] = 0
distinct (t ∷ l) = elim (is_among t l) [ true ↦ distinct l | false ↦ suc (distinct l) ]

-- the facts of every place, the class of every place, and how many places have a tree equal to the one at each;
-- as many nodes were entered as there are distinct trees at least, and as there are places at most
pub record Tables (ws old : List ℕ) (entered : ℕ) (facts classes uses : List ℕ) : Type 0 where
  pub facts_are : facts ≡ all_place_facts (trees_at numbered ws) ++ drop (4 * length ws) old
  pub classes_are : Known ws 0 classes
  pub uses_are : Uses ws (λ j. true) classes uses
  pub at_least : distinct (all_nodes (read numbered ws)) ≤ entered
  pub at_most : entered ≤ length ws
