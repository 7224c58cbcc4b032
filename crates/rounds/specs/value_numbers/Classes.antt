-- Classes of equal trees (01, "Uses"): a leaf's class is its word, an operation's the last place with a tree equal to its own, so that two places have one class where
-- their trees are equal; and how many places have a class. Assumes nothing.
use Prim.Native.Nat.{ℕ, zero, suc, ◌+◌, ◌*◌, ◌/◌, ◌%◌}
use Rattle.std.specs.Prelude.{Bool, ◌&&◌, cond, List, [], ◌∷◌, map, length, get_or, take, drop, leb}
use Rattle.std.proofs.Math.Bool.{true, false}
use Rattle.std.proofs.Math.Dec.{eqb}
use Rattle.spec_tree.specs.Tree.{Tree, eq_tree}
use Rattle.spec_tree.specs.Tokens.{read, numbered, kind_of, takes}
use Rattle.laws.specs.positions.Places.{numbered_at}

-- one more number in a key: each is taken below 2^20, so that no product is too large
unfoldable pub mixed : ℕ → ℕ → ℕ
mixed h x = h % 1048576 * 1021 + x % 1048576

-- how many chains there are among n places, and which one a key has
unfoldable pub chains : ℕ → ℕ
chains n = cond (leb n 256) 256 2048

unfoldable pub chain_of : ℕ → ℕ → ℕ
chain_of n key = cond (leb n 256) ((key % 1073741824 + key % 1073741824 / 64) % 256) ((key % 1073741824 + key % 1073741824 / 64) % 2048)

unfoldable pub mixed_all : ℕ → List ℕ → ℕ
unfolding mixed
mixed_all h [] = h
mixed_all h (x ∷ l) = mixed_all (mixed h x) l

module _ (ws : List ℕ) where
  -- the last of the first n places whose tree is t
  unfoldable pub last_place : Tree → ℕ → ℕ
  unfolding eq_tree numbered_at
  last_place t zero = 0
  last_place t (suc n) = elim (eq_tree (numbered_at ws n) t) [ true ↦ n | false ↦ last_place t n ]

  -- the last place with the tree at i
  unfoldable pub last_at : ℕ → ℕ
  unfolding last_place numbered_at
  last_at i = last_place (numbered_at ws i) (length ws)

  -- a leaf's word is 0 or 1 by 4, as its kind is, and what stands for a place of operations is 2
  unfoldable pub class_by : ℕ → ℕ
  class_by p = cond (leb (kind_of (get_or ws p 0)) 1) (get_or ws p 0) (4 * p + 2)

  abbrev pub class_of : Tree → ℕ
  class_of t = class_by (last_place t (length ws))

  unfoldable pub class_at : ℕ → ℕ
  unfolding class_by last_place numbered_at
  class_at i = class_of (numbered_at ws i)

  -- the operands of the node at a place
  abbrev pub operands_at : ℕ → List Tree
  operands_at i = take (takes (get_or ws i 0)) (read numbered (drop (i + 1) ws))

  -- the chain that a place is in: from its word and the classes of its operands
  unfoldable pub bucket_at : ℕ → ℕ
  unfolding chain_of mixed_all class_by last_place takes read
  bucket_at i = chain_of (length ws) (mixed_all (get_or ws i 0) (map class_of (operands_at i)))

  -- how many of the first n places that pass have the class of the operation that stands at c
  unfoldable pub class_places : (ℕ → Bool) → ℕ → ℕ → ℕ
  unfolding class_at
  class_places test c zero = 0
  class_places test c (suc n) = elim (test n && eqb (class_at n) (4 * c + 2)) [ true ↦ suc (class_places test c n) | false ↦ class_places test c n ]
