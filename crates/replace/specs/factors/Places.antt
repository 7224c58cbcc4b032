-- Where the factors of a product stand among the words (01, "Rewriting"; Tokens), and what the inner functions ask and write. Assumes nothing.
use Rattle.std.specs.Prelude.{◌≡◌, ℕ, ◌+◌, Bool, true, false, ◌||◌, List, [], ◌∷◌, ◌++◌, map, length, take, drop, ◌==◌, slice_index_or, Float}
use Rattle.std.proofs.Math.Option.{some}
use Rattle.std.proofs.lemmas.List.Edits.{sets}
use Rattle.spec_tree.specs.Tree.{Tree, Forest, Sym, Const, Op, nil, ◌◂◌, forest}
use Rattle.spec_tree.specs.Kinds.{Neg, Mul}
use Rattle.spec_tree.specs.Facts.{total, size}
use Rattle.spec_tree.specs.Tokens.{kind_of, numbered, trees_at, read, words_of}
use Rattle.spec_rewrite.specs.Rewrite.{flatten_mul_factors, flatten_operands}

-- the tree at a place
abbrev pub tree : List ℕ → ℕ → Tree
tree ws at = slice_index_or (trees_at numbered ws) at (Op 0 nil)

-- the n trees from a place on
unfoldable pub trees_from : List ℕ → ℕ → ℕ → List Tree
unfolding read
trees_from ws at n = take n (read numbered (drop at ws))

-- they are there, and no word of them lacks an operand
pub record Stands (ws : List ℕ) (at n : ℕ) : Type 0 where
  pub run : ℕ
  pub are : words_of (drop at ws) n ≡ some run

-- ---- the places of the factors of a tree whose words start at a place, in the order of `flatten-mul-factors`

unfoldable mutual
  unfolding size

  pub factor_places : ℕ → Tree → List ℕ
  factor_places at (Sym n) = at ∷ []
  factor_places at (Const c) = []
  factor_places at (Op k f) =
      elim (k == Mul) [
        | true ↦ operand_places (at + 1) f
        | false ↦ elim (k == Neg) [ true ↦ operand_places (at + 1) f | false ↦ at ∷ [] ]
      ]

  pub operand_places : ℕ → Forest → List ℕ
  operand_places at nil = []
  operand_places at (t ◂ f) = factor_places at t ++ operand_places (at + size t) f

-- the trees at some places
unfoldable pub at_places : List ℕ → List ℕ → List Tree
at_places ws ps = map (tree ws) ps

-- what is answered and written for a product with a coefficient and the places of its factors
pub record Flat (product : Float) (ps old : List ℕ) (used : ℕ) (coefficient : Float) (count : ℕ) (new : List ℕ) : Type 0 where
  pub coefficient_is : coefficient ≡ product
  pub count_is : count ≡ length ps
  pub places_are : new ≡ sets old used ps

-- for the tree at a place, and for the n trees from there on
abbrev pub TreeFlat : List ℕ → ℕ → List ℕ → ℕ → Float → ℕ → ℕ → List ℕ → Type 0
TreeFlat ws at old used coefficient count next new =
    Flat (flatten_mul_factors (tree ws at)).coefficient (factor_places at (tree ws at)) old used coefficient count new × (next ≡ at + size (tree ws at))

abbrev pub EachFlat : List ℕ → ℕ → ℕ → List ℕ → ℕ → Float → ℕ → ℕ → List ℕ → Type 0
EachFlat ws at n old used coefficient count next new =
    Flat (flatten_operands (forest (trees_from ws at n))).coefficient (operand_places at (forest (trees_from ws at n))) old used coefficient count new
    × (next ≡ at + total (map size (trees_from ws at n)))

-- whether a word's factors are those of its operands: a Mul or a Neg
unfoldable pub passes_through : ℕ → Bool
passes_through w = kind_of w == Mul || kind_of w == Neg
