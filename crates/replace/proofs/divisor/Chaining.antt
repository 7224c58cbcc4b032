-- `replace_divisor` on words leaves words of trees: no more words, as many trees, and read back they are the rewritten trees. So what it leaves may be rewritten
-- again. Assumes nothing.
use Rattle.std.proofs.Common.{◌≡◌, ℕ, ◌≤◌, Bool, true, false, ◌&&◌, T, eqb, List, map, length}
use mathlib.Core.Option.{some}
use Rattle.spec_tree.specs.Kinds.{Mul, Div}
use Rattle.spec_tree.specs.Tree.{Name, Tree, Forest, Sym, Const, Op, nil, ◌◂◌}
use Rattle.spec_tree.specs.Tokens.{read, trees_in, numbered}
use Rattle.spec_tree.proofs.Logic.{and_left, and_right, and_both}
use Rattle.spec_tree.proofs.TokenCode.{fits_word, coded, coded_each}
use Rattle.spec_rewrite.specs.Rewrite.{divides_by, replace_divisor, replace_divisors, dividend}
use Rattle.spec_rewrite.proofs.DivisorCount.{divisor_size}
use Rattle.words.specs.words.Words.{rewritten_words, tree_of, name_of}
use Rattle.words.proofs.words.Rewriting.{rewritten_short}
use Rattle.words.proofs.words.Chains.{named_by_number, readable, name_readable, rewritten_trees, rewritten_complete}

module _ (d : Tree) (n : Name) (named : T (readable (Sym n))) where
  division_readable :
      (k : ℕ) (f : Forest) (b : Bool) → T (fits_word k) → T (coded_each named_by_number (dividend d n f)) → T (coded_each named_by_number (replace_divisors d n f))
      → T (readable (elim b as (λ _. Tree) [ true ↦ Op Mul (dividend d n f) | false ↦ Op k (replace_divisors d n f) ]))
  unfolding coded
  division_readable k f true h p q = p
  division_readable k f false h p q = and_both (fits_word k) (coded_each named_by_number (replace_divisors d n f)) h q

  mutual
    unfolding coded replace_divisor

    pub divisor_readable : (t : Tree) → T (readable t) → T (readable (replace_divisor d n t))
    divisor_readable (Sym s) h = h
    divisor_readable (Const c) h = h
    divisor_readable (Op k f) h =
        division_readable k f (eqb k Div && divides_by d f) (and_left (fits_word k) (coded_each named_by_number f) h)
        (dividend_readable f (and_right (fits_word k) (coded_each named_by_number f) h)) (divisors_readable f (and_right (fits_word k) (coded_each named_by_number f) h))

    divisors_readable : (f : Forest) → T (coded_each named_by_number f) → T (coded_each named_by_number (replace_divisors d n f))
    divisors_readable nil h = tt
    divisors_readable (t ◂ f) h =
        and_both (readable (replace_divisor d n t)) (coded_each named_by_number (replace_divisors d n f))
        (divisor_readable t (and_left (readable t) (coded_each named_by_number f) h)) (divisors_readable f (and_right (readable t) (coded_each named_by_number f) h))

    dividend_readable : (f : Forest) → T (coded_each named_by_number f) → T (coded_each named_by_number (dividend d n f))
    dividend_readable nil h = tt
    dividend_readable (t ◂ f) h =
        and_both (readable (replace_divisor d n t)) (readable (Sym n) && true) (divisor_readable t (and_left (readable t) (coded_each named_by_number f) h))
        (and_both (readable (Sym n)) true named tt)

-- ---- for any divisor and any name's word

module _ (divisor : List ℕ) (name : ℕ) where
  abbrev pub new_words : List ℕ → List ℕ
  new_words ws = rewritten_words (replace_divisor (tree_of divisor) (name_of name)) ws

  pub never_longer : (ws : List ℕ) → length (new_words ws) ≤ length ws
  never_longer ws = rewritten_short (replace_divisor (tree_of divisor) (name_of name)) (divisor_size (tree_of divisor) (name_of name)) ws

  pub as_many_trees : (ws : List ℕ) (n : ℕ) → trees_in ws ≡ some n → trees_in (new_words ws) ≡ some n
  as_many_trees ws n e =
      rewritten_complete (replace_divisor (tree_of divisor) (name_of name)) (divisor_readable (tree_of divisor) (name_of name) (name_readable name)) ws n e

  pub rewritten_are : (ws : List ℕ) → read numbered (new_words ws) ≡ map (replace_divisor (tree_of divisor) (name_of name)) (read numbered ws)
  rewritten_are ws = rewritten_trees (replace_divisor (tree_of divisor) (name_of name)) (divisor_readable (tree_of divisor) (name_of name) (name_readable name)) ws
