-- What is decided at the first of some trees, and what a product with matches is rewritten from. Assumes nothing.
use Rattle.std.specs.Prelude.{◌≡◌, ℕ, ◌+◌, ◌-◌, ◌^◌, ◌<◌, ◌≤◌, Bool, true, false, ◌||◌, T, List, ◌∷◌, ◌++◌, length, take, drop, ◌==◌, slice_index}
use Rattle.std.proofs.Math.Option.{some}
use Rattle.spec_tree.specs.Bytes.{every}
use Rattle.spec_tree.specs.Outcome.{Refusal, Outcome, ok, refused, ◌>>=◌, each}
use Rattle.spec_tree.specs.Tree.{Tree}
use Rattle.spec_tree.specs.Facts.{size}
use Rattle.spec_tree.specs.Rows.{occurrences}
use Rattle.spec_tree.specs.Tokens.{kind_of, tokens, all_tokens, trees_in, run_at}
use Rattle.spec_rewrite.specs.Rewrite.{replace}
use Rattle.words.specs.words.Words.{number, tree_of, name_of, begins_with}
use Rattle.replace.specs.closed.Closed.{by_factors, endless}
use Rattle.replace.specs.factors.Places.{tree, at_places}
use Rattle.replace.specs.matching.Matching.{is_passed}
use Rattle.replace.specs.replacing.Replacing.{replaced_words, formed_word, repeated, head_words}

-- the words of the trees to be rewritten: complete and formed
pub record Trees (ws : List ℕ) : Type 0 where
  pub count : ℕ
  pub complete : trees_in ws ≡ some count
  pub formed : T (every formed_word ws)

-- one tree, the word of a symbol, and an end to replacing the one by the other
pub record Target (part : List ℕ) (name : ℕ) : Type 0 where
  pub one : trees_in part ≡ some 1
  pub symbol : kind_of name ≡ 0
  pub ends : endless (tree_of part) (name_of name) ≡ false

-- a tree starts at a place and ends before another
pub record Within (ws : List ℕ) (to p : ℕ) : Type 0 where
  pub before : p + size (tree ws p) ≤ to
  pub run : run_at ws p ≡ some (size (tree ws p))

-- a word that stays in a product without a match, wherever it stands there: a symbol, or one that is passed through
unfoldable pub is_plain : ℕ → Bool
unfolding is_passed
is_plain w = kind_of w == 0 || is_passed w

-- so many words of so long a product are such
pub record Plain (ws : List ℕ) (long n : ℕ) : Type 0 where
  pub some_word : 1 ≤ n
  pub within : n ≤ long
  pub plain : (j : ℕ) → j < n → is_plain (slice_index ws j) ≡ true

module _ (part : List ℕ) (name : ℕ) where
  abbrev pub rewritten : Tree → Outcome Tree
  rewritten = replace (tree_of part) (name_of name)

  abbrev pub rewritten_words : List ℕ → Outcome (List ℕ)
  rewritten_words = replaced_words (tree_of part) (name_of name)

  -- the first word stays
  abbrev pub StaysAt : List ℕ → Type 0
  StaysAt ws = rewritten_words ws ≡ (rewritten_words (drop 1 ws) >>= λ b. ok (slice_index ws 0 ∷ b))

  -- so many words stay
  pub record PassedAt (ws : List ℕ) (n : ℕ) : Type 0 where
    pub some_word : 1 ≤ n
    pub within : n ≤ length ws
    pub stay : rewritten_words ws ≡ (rewritten_words (drop n ws) >>= λ b. ok (take n ws ++ b))

  -- the first tree is refused
  abbrev pub RefusedAt : List ℕ → Type 0
  RefusedAt ws = (i : Refusal) × (rewritten (tree_of ws) ≡ refused i)

  -- The first tree, of so many words, is a product from which the target was taken out. Then the places of its factors stand in front, but for the names at the
  -- end, which have none.
  pub record Match (ws places : List ℕ) (left copies code long : ℕ) : Type 0 where
    pub size_is : long ≡ size (tree_of ws)
    pub run_is : run_at ws 0 ≡ some long
    pub some_copy : 1 ≤ copies
    pub small : code < 2 ^ 51
    pub there : left ≤ length places
    pub within : (j : ℕ) → j < left → Within ws long (slice_index places j)
    pub becomes :
        (rewritten (tree_of ws) >>= λ u. ok (tokens number u))
        ≡ (each rewritten (at_places ws (take left places)) >>= λ l. ok (head_words code (left + copies - 1) ++ (all_tokens number l ++ repeated copies name)))
    pub room : length (head_words code (left + copies - 1)) + occurrences (at_places ws (take left places)) + copies ≤ long
    pub smaller : occurrences (at_places ws (take left places)) < long

  -- the words that the first tree becomes
  abbrev pub product_out : List ℕ → Outcome (List ℕ)
  product_out ws = rewritten (tree_of ws) >>= λ u. ok (tokens number u)

-- the first tree is a product and not the target, which is sought by its factors
pub record ProductFirst (ws part : List ℕ) (name : ℕ) : Type 0 where
  pub some_word : 0 < length ws
  pub trees : Trees ws
  pub target : Target part name
  pub other : false ≡ begins_with ws part
  pub kind : kind_of (slice_index ws 0) ≡ 5
  pub sought : true ≡ by_factors (tree_of part)

-- ---- what was written

-- new words stand in front, and everything after them is as it was
pub record Wrote (o : Outcome (List ℕ)) (old : List ℕ) (n : ℕ) (out : List ℕ) : Type 0 where
  pub new : List ℕ
  pub is : o ≡ ok new
  pub count : n ≡ length new
  pub words : out ≡ new ++ drop n old

-- everything from a place on is as it was
pub record Left (o : Outcome (List ℕ)) (limit : ℕ) (old out : List ℕ) : Type 0 where
  pub why : Refusal
  pub is : o ≡ refused why
  pub rest : drop limit out ≡ drop limit old
