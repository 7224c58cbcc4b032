-- The words of `1 / d` are read as that tree, and the words of settled trees are no more than there were, lack no operand and are read as those trees. Assumes
-- nothing.
use Prim.Native.Nat.{ℕ, suc, ◌+◌, ◌≤◌}
use native.Mathlib.Omega.{arith}
use mathlib.Core.Path.{◌≡◌, refl, sym, ◌∙◌, ap}
use mathlib.Core.Option.{some}
use mathlib.Core.List.{List, [], ◌∷◌, map}
use lib.ListN.{length, get_or, take, drop, length-drop}
use lib.Seq.{length-take-le}
use lib.Dec.{T}
use Rattle.spec_tree.specs.Facts.{size}
use Rattle.spec_tree.specs.Tree.{xname, Tree, Op, nil}
use Rattle.spec_tree.specs.Tokens.{takes, tree_of_word, constant_at, tokens, all_tokens, read, numbered, run_at, trees_in}
use Rattle.spec_tree.proofs.TokenLaws.{complete_length}
use Rattle.spec_tree.proofs.TokenCode.{unnumbered, tokens_length}
use Rattle.spec_rewrite.specs.Rewrite.{replace_divisor}
use Rattle.spec_rewrite.proofs.DivisorCount.{divisor_size}
use Rattle.laws.specs.positions.Places.{numbered_at}
use Rattle.words.specs.words.Words.{number, rewritten_words, tree_of}
use Rattle.words.proofs.words.Rewriting.{segment, one_written, one_tree_words, rewritten_short}
use Rattle.words.proofs.words.Chains.{readable, rewritten_trees, rewritten_complete}
use Rattle.replace.proofs.divisor.Chaining.{divisor_readable}
use Rattle.reciprocals.proofs.bindings.Parts.{settle_tree, reciprocal, tree_there, made_name}
use Rattle.reciprocals.specs.reciprocal.Bindings.{one_over}
use Rattle.reciprocals.proofs.reciprocal.Quotient.{one_tree_over, one_over_long}
use Rattle.spec_tree.proofs.Lists.{one_alone}

-- ---- one divisor

first_of_one : (l : List Tree) → get_or (take 1 l) 0 (Op 0 nil) ≡ get_or l 0 (Op 0 nil)
first_of_one [] = refl
first_of_one (t ∷ l) = refl

read_over : (w : List ℕ) (d : Tree) → read numbered w ≡ d ∷ [] → read numbered (134 ∷ (129 ∷ w)) ≡ reciprocal d ∷ []
unfolding read takes tree_of_word constant_at
read_over w d e =
    ap (λ (l : List Tree). tree_of_word numbered 134 (take 2 (tree_of_word numbered 129 [] ∷ l)) ∷ drop 2 (tree_of_word numbered 129 [] ∷ l)) e

module _ (base : List ℕ) (place n : ℕ) (stands : run_at base place ≡ some n) where
  abbrev pub divisor : Tree
  divisor = numbered_at base place

  abbrev pub run : List ℕ
  run = take n (drop place base)

  pub run_within : n ≤ length (drop place base)
  unfolding run_at
  run_within = (segment (drop place base) 1 n stands).within

  pub inside : n ≤ length base
  inside = omega (arith, run_within, length-drop place base)

  one_run : trees_in run ≡ some 1
  unfolding run_at
  one_run = (segment (drop place base) 1 n stands).whole

  run_read : tree_of run ≡ divisor
  unfolding run_at tree_of
  run_read =
      ap (λ (l : List Tree). get_or l 0 (Op 0 nil)) (segment (drop place base) 1 n stands).first
      ∙ (first_of_one (read numbered (drop place base)) ∙ tree_there base place)

  -- its words are the divisor's
  pub run_words : tokens number divisor ≡ run
  run_words = sym (one_tree_words (λ (t : Tree). t) divisor) ∙ (ap (λ (t : Tree). all_tokens number (t ∷ [])) (sym run_read) ∙ one_written run one_run)

  -- as many words as the divisor has nodes
  pub run_long : n ≡ size divisor
  run_long =
      let l : length run ≡ n = length-take-le n (drop place base) run_within in
      omega (arith, l, ap length run_words, tokens_length number divisor)

  pub over_complete : trees_in (one_over base place n) ≡ some 1
  over_complete = one_tree_over base place n one_run

  pub over_long : length (one_over base place n) ≡ 2 + n
  over_long = one_over_long base place n run_within

  -- one tree is read from them
  pub run_trees : read numbered run ≡ divisor ∷ []
  unfolding tree_of
  run_trees = one_alone (read numbered run) (complete_length numbered run 1 one_run) ∙ ap (λ (t : Tree). t ∷ []) run_read

  pub over_read : read numbered (one_over base place n) ≡ reciprocal divisor ∷ []
  unfolding one_over
  over_read = read_over run divisor run_trees

-- ---- settled trees

pub settle_readable : (ds : List Tree) (n : ℕ) (t : Tree) → T (readable t) → T (readable (settle_tree ds n t))
settle_readable [] n t h = h
settle_readable (d ∷ l) n t h = settle_readable l (suc n) (replace_divisor d (xname n) t) (divisor_readable d (xname n) (made_name n) t h)

pub settle_size : (ds : List Tree) (n : ℕ) (t : Tree) → size (settle_tree ds n t) ≤ size t
settle_size [] n t = omega arith
settle_size (d ∷ l) n t = omega (arith, settle_size l (suc n) (replace_divisor d (xname n) t), divisor_size d (xname n) t)

-- the words of the settled trees of some words
module _ (ds : List Tree) (n : ℕ) (ws : List ℕ) where
  abbrev pub settled_trees : List Tree
  settled_trees = map (settle_tree ds n) (read numbered ws)

  pub settled_no_more : length (all_tokens unnumbered settled_trees) ≤ length ws
  unfolding rewritten_words
  settled_no_more = rewritten_short (settle_tree ds n) (settle_size ds n) ws

  pub settled_complete : (m : ℕ) → trees_in ws ≡ some m → trees_in (all_tokens unnumbered settled_trees) ≡ some m
  unfolding rewritten_words
  settled_complete m c = rewritten_complete (settle_tree ds n) (settle_readable ds n) ws m c

  pub settled_read : read numbered (all_tokens unnumbered settled_trees) ≡ settled_trees
  unfolding rewritten_words
  settled_read = rewritten_trees (settle_tree ds n) (settle_readable ds n) ws
