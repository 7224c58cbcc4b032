-- Where the trees that words are begin: each place is past the words of the trees before it, the tree that is read there is the one of that number, and for
-- words none of which lacks an operand its words stand from there on. Assumes nothing.
use Prim.Native.Nat.{ℕ, zero, suc, ◌+◌, ◌≤◌, ◌<◌}
use native.Mathlib.Omega.{arith}
use mathlib.Core.Path.{◌≡◌, refl, sym, ◌∙◌, ap}
use mathlib.Core.Option.{some}
use mathlib.Core.List.{List, [], ◌∷◌, ◌++◌}
use lib.ListN.{length, get_or, take, drop}
use lib.Seq.{get_or-drop, take_all, take-suc, drop-cons, take_at}
use Rattle.spec_tree.specs.Tree.{Tree, Op, nil}
use Rattle.spec_tree.specs.Facts.{total, size}
use Rattle.spec_tree.specs.Tokens.{tokens, all_tokens, read, trees_in, run_at, numbered}
use Rattle.spec_tree.proofs.FactLaws.{size_one}
use Rattle.spec_tree.proofs.TokenLaws.{sizes, sizes_append, read_past, read_size, tree_at, run_size, complete_end, complete_length}
use Rattle.spec_tree.proofs.TokenCode.{unnumbered, tokens_length, all_tokens_cons, writes_back}
use Rattle.laws.specs.positions.Places.{numbered_at}
use Rattle.topo_sort.specs.treelist.Starts.{starts_from, starts_of}
use Rattle.spec_tree.proofs.Lists.{sizes_cons}

-- ---- trees one after another

pub starts_length : (i : ℕ) (ts : List Tree) → length (starts_from i ts) ≡ length ts
unfolding starts_from
starts_length i [] = refl
starts_length i (t ∷ ts) = ap suc (starts_length (i + size t) ts)

sizes_none : sizes [] ≡ 0
unfolding sizes total
sizes_none = refl

pub starts_at : (i : ℕ) (ts : List Tree) (k : ℕ) → k < length ts → get_or (starts_from i ts) k 0 ≡ i + sizes (take k ts)
unfolding starts_from
starts_at i [] k h = absurd (omega arith)
starts_at i (t ∷ ts) zero h = omega (arith, sizes_none)
starts_at i (t ∷ ts) (suc k) h = omega (arith, starts_at (i + size t) ts k (omega arith), sizes_cons t (take k ts))

-- the words of one tree more
pub one_more : (ts : List Tree) (k : ℕ) → k < length ts → sizes (take (suc k) ts) ≡ sizes (take k ts) + size (get_or ts k (Op 0 nil))
one_more ts k h =
    ap sizes (take-suc ts k (Op 0 nil) h)
    ∙ omega (arith, sizes_append (take k ts) (get_or ts k (Op 0 nil) ∷ []), sizes_cons (get_or ts k (Op 0 nil)) [], sizes_none)

pub all_sizes : (ts : List Tree) (k : ℕ) → sizes (take k ts) ≤ sizes ts
all_sizes ts zero = omega (arith, sizes_none)
all_sizes [] (suc k) = omega arith
all_sizes (t ∷ ts) (suc k) = omega (arith, all_sizes ts k, sizes_cons t ts, sizes_cons t (take k ts))

-- ---- the trees of words

module _ (ws : List ℕ) where
  abbrev trees : List Tree
  trees = read numbered ws

  -- the tree of a number, and the place where it begins
  abbrev pub tree_number : ℕ → Tree
  tree_number i = get_or (read numbered ws) i (Op 0 nil)

  abbrev pub start_number : ℕ → ℕ
  start_number i = get_or (starts_of ws) i 0

  pub as_many : length (starts_of ws) ≡ length (read numbered ws)
  unfolding starts_of
  as_many = starts_length 0 trees

  pub past_sizes : (i : ℕ) → i < length (read numbered ws) → start_number i ≡ sizes (take i (read numbered ws))
  unfolding starts_of
  past_sizes i h = omega (arith, starts_at 0 trees i h)

  pub first_start : 0 < length (read numbered ws) → start_number 0 ≡ 0
  first_start h = omega (arith, past_sizes 0 h, sizes_none)

  -- the next tree begins where one ends, and the last ends with the words
  pub next_start : (i : ℕ) → suc i < length (read numbered ws) → start_number (suc i) ≡ start_number i + size (tree_number i)
  next_start i h = omega (arith, past_sizes (suc i) h, past_sizes i (omega arith), one_more trees i (omega arith))

  pub ends_within : (i : ℕ) → i < length (read numbered ws) → start_number i + size (tree_number i) ≤ length ws
  ends_within i h = omega (arith, past_sizes i h, one_more trees i h, all_sizes trees (suc i), read_size numbered ws)

  pub last_end : (i : ℕ) → i < length (read numbered ws) → length (read numbered ws) ≤ suc i → length ws ≡ start_number i + size (tree_number i)
  last_end i h g =
      omega (arith, past_sizes i h, one_more trees i h, ap sizes (take_all (suc i) trees g), read_size numbered ws)

  pub starts_within : (i : ℕ) → i < length (read numbered ws) → start_number i < length ws
  starts_within i h = omega (arith, ends_within i h, size_one (tree_number i))

  -- from there on the trees from that number on are read
  pub read_there : (i : ℕ) → i < length (read numbered ws) → read numbered (drop (start_number i) ws) ≡ drop i (read numbered ws)
  read_there i h = ap (λ (k : ℕ). read numbered (drop k ws)) (past_sizes i h) ∙ read_past numbered ws i

  pub tree_there : (i : ℕ) → i < length (read numbered ws) → numbered_at ws (start_number i) ≡ tree_number i
  unfolding numbered_at
  tree_there i h =
      let z : i + 0 ≡ i = omega arith in
      tree_at numbered ws (start_number i)
      ∙ (ap (λ (l : List Tree). get_or l 0 (Op 0 nil)) (read_there i h) ∙ (get_or-drop i trees 0 (Op 0 nil) ∙ ap (λ (k : ℕ). get_or trees k (Op 0 nil)) z))

  module _ (n : ℕ) (complete : trees_in ws ≡ some n) where
    pub starts_count : length (starts_of ws) ≡ n
    starts_count = as_many ∙ complete_length numbered ws n complete

    pub run_there : (i : ℕ) → i < length (read numbered ws) → run_at ws (start_number i) ≡ some (size (tree_number i))
    unfolding numbered_at
    run_there i h = run_size numbered ws n (start_number i) complete (starts_within i h) ∙ ap (λ (t : Tree). some (size t)) (tree_there i h)

    -- its words stand there
    pub words_there : (i : ℕ) → i < length (read numbered ws) → take (size (tree_number i)) (drop (start_number i) ws) ≡ tokens unnumbered (tree_number i)
    words_there i h =
        let c = complete_end (start_number i) ws n complete in
        let t = tree_number i in
        let more = drop (suc i) trees in
        let all : drop (start_number i) ws ≡ tokens unnumbered t ++ all_tokens unnumbered more =
        sym (writes_back (drop (start_number i) ws) c.0 c.1)
        ∙ (ap (all_tokens unnumbered) (read_there i h ∙ drop-cons trees i (Op 0 nil) h) ∙ all_tokens_cons unnumbered t more) in
        ap (take (size t)) all ∙ take_at (tokens unnumbered t) (all_tokens unnumbered more) (size t) (tokens_length unnumbered t)
