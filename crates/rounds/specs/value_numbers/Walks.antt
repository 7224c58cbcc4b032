-- The classes of a word's operands as they stand in tables, each operand found by the size of the one before it. Assumes nothing.
use Rattle.std.specs.Prelude.{ℕ, zero, suc, ◌+◌, ◌*◌, ◌≤◌, ◌<◌, ◌≡◌, List, [], ◌∷◌, length, get_or, set}
use Rattle.spec_tree.specs.Facts.{size}
use Rattle.rounds.specs.measure.Columns.{own_symbol, WordFacts}
use Rattle.laws.specs.positions.Places.{numbered_at}

-- the classes of the n trees from a place on
unfoldable pub below : List ℕ → List ℕ → ℕ → ℕ → List ℕ
below fs cl p zero = []
below fs cl p (suc n) = get_or cl p 0 ∷ below fs cl (p + get_or fs (4 * p) 0) n

-- they are there
unfoldable pub Walk : List ℕ → List ℕ → ℕ → ℕ → Type 0
Walk fs cl p zero = Unit {0}
Walk fs cl p (suc n) = (4 * p < length fs) × (p < length cl) × (p + get_or fs (4 * p) 0 ≤ length cl) × Walk fs cl (p + get_or fs (4 * p) 0) n

-- four words of facts a place, of which the first is the size, from place i on
pub record Sized (ws : List ℕ) (i : ℕ) (fs : List ℕ) : Type 0 where
  pub long : 4 * length ws ≤ length fs
  pub sizes : (q : ℕ) → i ≤ q → q < length ws → get_or fs (4 * q) 0 ≡ size (numbered_at ws q)

-- the facts of a place were put where they belong
pub record Put (ws : List ℕ) (at : ℕ) (fs new : List ℕ) : Type 0 where
  pub s : ℕ
  pub c : ℕ
  pub d : ℕ
  pub h : ℕ
  pub facts : WordFacts (get_or ws at 0) fs (at + 1) s c d h
  pub is : new ≡ set (set (set (set fs (4 * at) s) (4 * at + 1) c) (4 * at + 2) d) (4 * at + 3) h

-- the facts of a leaf, whose word is w, and its class
pub record LeafPut (w at : ℕ) (fs new cl cl' : List ℕ) : Type 0 where
  pub facts_are : new ≡ set (set (set (set fs (4 * at) 1) (4 * at + 1) 0) (4 * at + 2) 0) (4 * at + 3) (own_symbol w)
  pub class_is : cl' ≡ set cl at w
