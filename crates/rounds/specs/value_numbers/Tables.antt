-- What the tables hold while they are filled from the right, and after it. Assumes nothing.
use Rattle.std.specs.Prelude.{ℕ, suc, ◌+◌, ◌/◌, ◌≤◌, ◌<◌, ◌≡◌, Bool, List, length, get_or}
use Rattle.spec_tree.specs.Tokens.{kind_of}
use Rattle.laws.specs.positions.Places.{equal_places}
use Rattle.rounds.specs.value_numbers.Classes.{chains, last_at, class_at, bucket_at, class_places}

-- the classes of the places from i on
pub record Known (ws : List ℕ) (i : ℕ) (cl : List ℕ) : Type 0 where
  pub long : length ws ≤ length cl
  pub each : (q : ℕ) → i ≤ q → q < length ws → get_or cl q 0 ≡ class_at ws q

-- an operation that is the last with its tree
abbrev pub Stands : List ℕ → ℕ → Type 0
Stands ws q = (last_at ws q ≡ q) × (1 < kind_of (get_or ws q 0))

-- p is the first place from `from` on that stands for its class and is in chain b, or the end
pub record Link (ws : List ℕ) (b from p : ℕ) : Type 0 where
  pub low : from ≤ p
  pub high : p ≤ length ws
  pub stands : p < length ws → Stands ws p
  pub chain : p < length ws → bucket_at ws p ≡ b
  pub least : (q : ℕ) → from ≤ q → q < length ws → Stands ws q → bucket_at ws q ≡ b → p ≤ q

-- each place from i on that stands for its class links to the next of its chain
pub record Links (ws : List ℕ) (i : ℕ) (nx : List ℕ) : Type 0 where
  pub long : length ws ≤ length nx
  pub each : (q : ℕ) → i ≤ q → q < length ws → Stands ws q → Link ws (bucket_at ws q) (suc q) (get_or nx q 0)

-- each chain starts with its first place from i on
pub record Heads (ws : List ℕ) (i : ℕ) (hd : List ℕ) : Type 0 where
  pub long : chains (length ws) ≤ length hd
  pub each : (b : ℕ) → b < chains (length ws) → Link ws b i (get_or hd b 0)

-- the three together
pub record Passing (ws : List ℕ) (i : ℕ) (cl nx hd : List ℕ) : Type 0 where
  pub inside : i ≤ length ws
  pub known : Known ws i cl
  pub links : Links ws i nx
  pub heads : Heads ws i hd

-- a place of the chain of the operation i, past i, that is not past the one that stands for i where that is another place
pub record Chase (ws : List ℕ) (i p : ℕ) : Type 0 where
  pub operation : 1 < kind_of (get_or ws i 0)
  pub low : suc i ≤ p
  pub high : p ≤ length ws
  pub stands : p < length ws → Stands ws p
  pub chain : p < length ws → bucket_at ws p ≡ bucket_at ws i
  pub ahead : i < last_at ws i → p ≤ last_at ws i

-- the first n entries are v
pub record Reset (old : List ℕ) (n v : ℕ) (new : List ℕ) : Type 0 where
  pub long : length new ≡ length old
  pub each : (q : ℕ) → q < n → get_or new q 0 ≡ v

-- how many of the places from i on that pass have the class of each operation: with those before i as many as all
pub record Counted (ws : List ℕ) (test : ℕ → Bool) (i : ℕ) (table : List ℕ) : Type 0 where
  pub long : length ws ≤ length table
  pub each : (c : ℕ) → c < length ws → get_or table c 0 + class_places ws test c i ≡ class_places ws test c (length ws)

-- by its class, how many of all places that pass have a tree equal to the operation at each
pub record Uses (ws : List ℕ) (test : ℕ → Bool) (cl table : List ℕ) : Type 0 where
  pub long : length ws ≤ length table
  pub each : (i : ℕ) → i < length ws → 1 < kind_of (get_or ws i 0) → get_or table (get_or cl i 0 / 4) 0 ≡ equal_places ws test i (length ws)
