-- The facts of every place as four words each: what a word's own facts are, from the columns of its operands, each found by the size of the one before it.
-- Assumes nothing.
use Rattle.std.specs.Prelude.{ℕ, zero, suc, ◌+◌, ◌*◌, ◌≤◌, ◌<◌, ◌≡◌, cond, List, [], ◌∷◌, ◌++◌, length, get_or, eqb, leb}
use Rattle.std.proofs.Math.Option.{none}
use Rattle.spec_tree.specs.Kinds.{is_select}
use Rattle.spec_tree.specs.Tree.{Tree}
use Rattle.spec_tree.specs.Facts.{total, greatest, first_and_greatest, size, cost, depth, has_symbol}
use Rattle.spec_tree.specs.Tokens.{kind_of, takes, trees_in, flag}

-- ---- the facts of a tree that rounds ask for

unfoldable pub place_facts : Tree → List ℕ
unfolding flag size cost depth has_symbol
place_facts t = size t ∷ cost t ∷ depth t ∷ flag (has_symbol t) ∷ []

unfoldable pub all_place_facts : List Tree → List ℕ
unfolding place_facts
all_place_facts [] = []
all_place_facts (t ∷ l) = place_facts t ++ all_place_facts l

-- ---- a column of the n trees from a place on

unfoldable pub column : List ℕ → ℕ → ℕ → ℕ → List ℕ
column fs c p zero = []
column fs c p (suc n) = get_or fs (4 * p + c) 0 ∷ column fs c (p + get_or fs (4 * p) 0) n

-- they are there
unfoldable pub Inside : List ℕ → ℕ → ℕ → Type 0
Inside fs p zero = Unit {0}
Inside fs p (suc n) = (4 * p + 3 < length fs) × (p + get_or fs (4 * p) 0 ≤ length fs) × Inside fs (p + get_or fs (4 * p) 0) n

-- they are there, and each fact's sum over them is below a length
pub record Ready (len : ℕ) (fs : List ℕ) (p n : ℕ) : Type 0 where
  pub inside : Inside fs p n
  pub sums : (c : ℕ) → c < 4 → total (column fs c p n) < len

-- ---- a word's own part

-- one for an operation
unfoldable pub own_operation : ℕ → ℕ
own_operation w = cond (leb (kind_of w) 1) 0 1

-- one for a symbol
unfoldable pub own_symbol : ℕ → ℕ
own_symbol w = cond (eqb (kind_of w) 0) 1 0

-- the cost of an operation's operands together
unfoldable pub operand_costs : ℕ → List ℕ → ℕ
unfolding first_and_greatest total
operand_costs k l = cond (is_select k) (first_and_greatest l) (total l)

-- the facts of a word whose operands start at p
pub record WordFacts (w : ℕ) (fs : List ℕ) (p s c d h : ℕ) : Type 0 where
  pub size_is : s ≡ 1 + total (column fs 0 p (takes w))
  pub cost_is : c ≡ own_operation w + operand_costs (kind_of w) (column fs 1 p (takes w))
  pub depth_is : d ≡ own_operation w + greatest (column fs 2 p (takes w))
  pub symbol_is : h ≡ own_symbol w + greatest (column fs 3 p (takes w))

-- no word lacks an operand
abbrev pub Complete : List ℕ → Type 0
Complete ws = trees_in ws ≡ none → ⊥
