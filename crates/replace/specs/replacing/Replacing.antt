-- `replace` on words of trees (01, "Rewriting"): the words are read as trees, each is rewritten, and the trees are written as words. Assumes nothing.
use Rattle.std.specs.Prelude.{ℕ, zero, suc, ◌+◌, ◌*◌, Bool, true, false, ◌&&◌, ◌||◌, List, [], ◌∷◌, ◌++◌, ◌==◌, nat_le}
use Rattle.spec_tree.specs.Bytes.{every}
use Rattle.spec_tree.specs.Outcome.{Outcome, ok, ◌>>=◌, each}
use Rattle.spec_tree.specs.Kinds.{arity_ok}
use Rattle.spec_tree.specs.Tree.{Name, Tree, Sym}
use Rattle.spec_tree.specs.Tokens.{kind_of, below_of, numbered, read, all_tokens}
use Rattle.spec_rewrite.specs.Rewrite.{replace}
use Rattle.words.specs.words.Words.{number, sound}

-- the words of the rewritten trees; the first refusal stands
unfoldable pub replaced_words : Tree → Name → List ℕ → Outcome (List ℕ)
unfolding read all_tokens each replace
replaced_words target n ws = each (replace target n) (read numbered ws) >>= λ l. ok (all_tokens number l)

-- ---- what may be rewritten

-- a symbol, a constant, or an operation with as many operands as its kind has
unfoldable pub formed_word : ℕ → Bool
unfolding arity_ok
formed_word w = nat_le (kind_of w) 1 || arity_ok (kind_of w) (below_of w)

-- complete trees, formed as 01 has them; one target; and a symbol's word
unfoldable pub replaceable : List ℕ → List ℕ → ℕ → Bool
unfolding every formed_word sound
replaceable ws target name = every formed_word ws && sound ws target name

-- the name k times
unfoldable pub named : Name → ℕ → List Tree
named n zero = []
named n (suc k) = Sym n ∷ named n k

-- ---- a rebuilt product as words: a left-nested product's are its signs, then its factors

-- a word n times
unfoldable pub repeated : ℕ → ℕ → List ℕ
repeated zero w = []
repeated (suc n) w = w ∷ repeated n w

-- nothing for the coefficient 1, a Neg for -1, a Mul and the constant for any other, by the constant's code
unfoldable pub coefficient_words : ℕ → List ℕ
coefficient_words code = elim (code == 2) [ true ↦ [] | false ↦ elim (code == 1) [ true ↦ 66 ∷ [] | false ↦ 133 ∷ (1 + 64 * code) ∷ [] ] ]

-- before the factors
unfoldable pub head_words : ℕ → ℕ → List ℕ
unfolding repeated coefficient_words
head_words code signs = coefficient_words code ++ repeated signs 133
