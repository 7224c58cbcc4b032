-- `replace_outside_arms` on words leaves words of trees: no more words, as many trees, and read back they are the rewritten trees. So what it leaves may be
-- rewritten again. Assumes nothing.
use Rattle.std.proofs.Common.{◌≡◌, ℕ, ◌≤◌, Bool, true, false, T, List, map, length}
use mathlib.Core.Option.{some}
use Rattle.spec_tree.specs.Kinds.{is_switch}
use Rattle.spec_tree.specs.Tree.{Name, Tree, Forest, Sym, Const, Op, nil, ◌◂◌, eq_tree}
use Rattle.spec_tree.specs.Tokens.{read, trees_in, numbered}
use Rattle.spec_tree.proofs.Logic.{and_left, and_right, and_both}
use Rattle.spec_tree.proofs.TokenCode.{fits_word, coded, coded_each}
use Rattle.spec_rewrite.specs.Rewrite.{replace_outside_arms, replace_operands, replace_key}
use Rattle.words.specs.words.Words.{rewritten_words, tree_of, name_of}
use Rattle.words.proofs.words.Rewriting.{rewritten_short}
use Rattle.words.proofs.words.Chains.{named_by_number, readable, name_readable, rewritten_trees, rewritten_complete}
use Rattle.spec_rewrite.proofs.OutsideSize.{outside_size}

module _ (g : Tree) (n : Name) (named : T (readable (Sym n))) where
  either_readable : (b : Bool) (t : Tree) → T (readable t) → T (readable (elim b as (λ _. Tree) [ true ↦ Sym n | false ↦ t ]))
  either_readable true t h = named
  either_readable false t h = h

  node_readable :
      (k : ℕ) (f : Forest) (s : Bool) → T (fits_word k) → T (coded_each named_by_number (replace_key g n f)) → T (coded_each named_by_number (replace_operands g n f))
      → T (readable (Op k (elim s as (λ _. Forest) [ true ↦ replace_key g n f | false ↦ replace_operands g n f ])))
  unfolding coded
  node_readable k f true h p q = and_both (fits_word k) (coded_each named_by_number (replace_key g n f)) h p
  node_readable k f false h p q = and_both (fits_word k) (coded_each named_by_number (replace_operands g n f)) h q

  mutual
    unfolding coded replace_outside_arms

    pub outside_readable : (t : Tree) → T (readable t) → T (readable (replace_outside_arms g n t))
    outside_readable (Sym s) h = either_readable (eq_tree (Sym s) g) (Sym s) h
    outside_readable (Const c) h = either_readable (eq_tree (Const c) g) (Const c) h
    outside_readable (Op k f) h =
        either_readable (eq_tree (Op k f) g) (Op k (elim (is_switch k) as (λ _. Forest) [ true ↦ replace_key g n f | false ↦ replace_operands g n f ]))
        (node_readable k f (is_switch k) (and_left (fits_word k) (coded_each named_by_number f) h)
        (key_readable f (and_right (fits_word k) (coded_each named_by_number f) h)) (operands_readable f (and_right (fits_word k) (coded_each named_by_number f) h)))

    operands_readable : (f : Forest) → T (coded_each named_by_number f) → T (coded_each named_by_number (replace_operands g n f))
    operands_readable nil h = tt
    operands_readable (t ◂ f) h =
        and_both (readable (replace_outside_arms g n t)) (coded_each named_by_number (replace_operands g n f))
        (outside_readable t (and_left (readable t) (coded_each named_by_number f) h)) (operands_readable f (and_right (readable t) (coded_each named_by_number f) h))

    key_readable : (f : Forest) → T (coded_each named_by_number f) → T (coded_each named_by_number (replace_key g n f))
    key_readable nil h = tt
    key_readable (t ◂ f) h =
        and_both (readable (replace_outside_arms g n t)) (coded_each named_by_number f) (outside_readable t (and_left (readable t) (coded_each named_by_number f) h))
        (and_right (readable t) (coded_each named_by_number f) h)

-- ---- for any target and any name's word

module _ (target : List ℕ) (name : ℕ) where
  abbrev pub new_words : List ℕ → List ℕ
  new_words ws = rewritten_words (replace_outside_arms (tree_of target) (name_of name)) ws

  pub never_longer : (ws : List ℕ) → length (new_words ws) ≤ length ws
  never_longer ws = rewritten_short (replace_outside_arms (tree_of target) (name_of name)) (outside_size (tree_of target) (name_of name)) ws

  pub as_many_trees : (ws : List ℕ) (n : ℕ) → trees_in ws ≡ some n → trees_in (new_words ws) ≡ some n
  as_many_trees ws n e =
      rewritten_complete (replace_outside_arms (tree_of target) (name_of name)) (outside_readable (tree_of target) (name_of name) (name_readable name)) ws n e

  pub rewritten_are : (ws : List ℕ) → read numbered (new_words ws) ≡ map (replace_outside_arms (tree_of target) (name_of name)) (read numbered ws)
  rewritten_are ws = rewritten_trees (replace_outside_arms (tree_of target) (name_of name)) (outside_readable (tree_of target) (name_of name) (name_readable name)) ws
