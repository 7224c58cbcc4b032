-- The first rows of names in chains, one chain for each bucket, and the words of rows' nodes. A link is 0, or a row and 1, and leads to an earlier row of its bucket. Assumes nothing.
use Rattle.std.specs.Prelude.{ℕ, suc, ◌+◌, ◌*◌, ◌%◌, ◌≤◌, ◌<◌, ◌≡◌, List, [], ◌∷◌, length, get_or}
use Rattle.spec_tree.specs.Layout.{row_fields}
use Rattle.node_rows.specs.unfolded.Unfold.{row_count, row_at, row_number, run}

-- two sums of bytes on, the sum of the sums with it
unfoldable pub mixed : ℕ → ℕ → List ℕ → ℕ
mixed sum sums [] = (31 * sums + sum) % 256
mixed sum sums (b ∷ name) = mixed (sum + b % 256) (sums + (sum + b % 256)) name

abbrev pub bucket : List ℕ → ℕ
bucket name = mixed 0 0 name

abbrev pub bucket_at : List ℕ → ℕ → ℕ
bucket_at ws r = bucket (row_fields (row_at ws r))

-- no row before row i is the same as row r
abbrev pub NoneBefore : List ℕ → ℕ → ℕ → Type 0
NoneBefore ws r i = (k : ℕ) → k < i → row_at ws k ≡ row_at ws r → ⊥

-- row e is the first that is the same as row r
pub record FirstNamed (ws : List ℕ) (r e : ℕ) : Type 0 where
  pub earlier : e ≤ r
  pub same : row_at ws e ≡ row_at ws r
  pub first : NoneBefore ws r e

-- row k is the first of its name
abbrev pub First : List ℕ → ℕ → Type 0
First ws k = (row_number (row_at ws k) ≡ 0) × NoneBefore ws k k

-- a link to the last of the rows before n that are the first of their names and in bucket b
pub record Link (ws : List ℕ) (b n link : ℕ) : Type 0 where
  pub inside : link ≤ n
  pub leads : (k : ℕ) → link ≡ suc k → First ws k × (bucket_at ws k ≡ b)
  pub last : (k : ℕ) → k < n → First ws k → bucket_at ws k ≡ b → k < link

abbrev pub Nexts : List ℕ → ℕ → List ℕ → Type 0
Nexts ws n next = (k : ℕ) → k < n → First ws k → Link ws (bucket_at ws k) k (get_or next k 0)

-- the chains of the first n rows
pub record Chains (ws : List ℕ) (n : ℕ) (heads next : List ℕ) : Type 0 where
  pub buckets : length heads ≡ 256
  pub long : row_count ws ≤ length next
  pub heads_are : (b : ℕ) → b < 256 → Link ws b n (get_or heads b 0)
  pub nexts_are : Nexts ws n next

-- the words of the first n rows' nodes
abbrev pub NodeWords : List ℕ → ℕ → List ℕ → Type 0
NodeWords ws n words = (n ≤ length words) × ((k : ℕ) → k < n → get_or words k 0 ≡ get_or (run ws k) 0 0)
