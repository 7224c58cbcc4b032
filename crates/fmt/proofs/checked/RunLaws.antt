-- The words of a tree pass one by one exactly where the tree does. Assumes nothing.
use Prim.Native.Nat.{ℕ, suc, ◌+◌, ◌-◌, ◌≤◌, ◌<◌, ◌/◌, ◌%◌}
use native.Mathlib.Omega.{arith}
use mathlib.Core.Path.{◌≡◌, refl, sym, ◌∙◌, ap, ap₂}
use mathlib.Core.Bool.{Bool, true, false, ◌&&◌}
use mathlib.Core.Option.{Option, none, some}
use mathlib.Core.List.{List, [], ◌∷◌, ◌++◌, map}
use borrow.Author.Tests.{eq-eqb, ne_eqb}
use lib.ListN.{length, get_or, take, drop, length-drop, take-append-drop}
use lib.Seq.{length-take-le}
use Rattle.spec_tree.specs.Bytes.{every}
use Rattle.spec_tree.specs.Tree.{Tree, Op, nil, forest}
use Rattle.spec_tree.specs.Rows.{Row}
use Rattle.spec_tree.specs.Passes.{all_of, symbol_ok, of_paper, operands_ok, tree_ok, trees_ok}
use Rattle.spec_tree.specs.Tokens.{kind_of, below_of, takes, constant_at, name_by, name_in, read, trees_in, words_of, run_at}
use Rattle.spec_tree.proofs.TokenLaws.{Word, a_symbol, a_constant, an_operation, word_is, leaf_takes, operation_takes, symbol_tree, constant_tree, operation_tree, fold_operation, made, read_cons, complete_tail, complete_length, complete_read, words_complete, words_tail, tree_at}
use Rattle.fmt.specs.checked.Check.{tree_in, word_ok, checked_answer}
use Rattle.std.specs.Prelude.{Some, None}
use Rattle.std.specs.Bool.{then_some}
use Rattle.words.specs.tokens.Answers.{end_answer}
use Rattle.words.proofs.tokens.Comparing.{run_ends, run_after}
use Rattle.spec_tree.proofs.Logic.{and_assoc}

and_true : (b : Bool) → (b && true) ≡ b
and_true true = refl
and_true false = refl

-- ---- a word by its kind

module _ (rows : List Row) (w : ℕ) where
  pub symbol_word : kind_of w ≡ 0 → word_ok rows w ≡ symbol_ok (name_by (name_in rows) (below_of w % 3) (below_of w / 3))
  unfolding word_ok
  symbol_word h = rw (eq-eqb (kind_of w) 0 h)

  pub constant_word : kind_of w ≡ 1 → word_ok rows w ≡ of_paper (constant_at (below_of w))
  unfolding word_ok
  constant_word h = let n : kind_of w ≡ 0 → ⊥ = λ e. omega arith in rw (ne_eqb (kind_of w) 0 n, eq-eqb (kind_of w) 1 h)

  pub operation_word : (kind_of w ≡ 0 → ⊥) → (kind_of w ≡ 1 → ⊥) → word_ok rows w ≡ operands_ok (kind_of w) (below_of w)
  unfolding word_ok
  operation_word n m = rw (ne_eqb (kind_of w) 0 n, ne_eqb (kind_of w) 1 m)

-- ---- trees one after another

trees_cons : (t : Tree) (l : List Tree) → trees_ok (t ∷ l) ≡ (tree_ok t && trees_ok l)
unfolding trees_ok
trees_cons t l = refl

trees_append : (a b : List Tree) → trees_ok (a ++ b) ≡ (trees_ok a && trees_ok b)
unfolding trees_ok
trees_append [] b = refl
trees_append (t ∷ a) b = rw (trees_append a b) (sym (and_assoc (tree_ok t) (trees_ok a) (trees_ok b)))

each_ok : (l : List Tree) → all_of (map tree_ok l) ≡ trees_ok l
unfolding all_of trees_ok
each_ok [] = refl
each_ok (t ∷ l) = ap (λ (b : Bool). tree_ok t && b) (each_ok l)

map_length : (l : List Tree) → length (map tree_ok l) ≡ length l
map_length [] = refl
map_length (t ∷ l) = ap suc (map_length l)

none_ok : trees_ok [] ≡ true
unfolding trees_ok
none_ok = refl

operation_ok : (k : ℕ) (l : List Tree) → tree_ok (Op k (forest l)) ≡ (operands_ok k (length l) && trees_ok l)
unfolding tree_ok
operation_ok k l =
    fold_operation symbol_ok of_paper (λ k tests. operands_ok k (length tests) && all_of tests) k l
    ∙ ap₂ (λ (n : ℕ) (b : Bool). operands_ok k n && b) (map_length l) (each_ok l)

-- ---- the trees that words are

module _ (rows : List Row) where
  made_ok : (w : ℕ) (ts : List Tree) → takes w ≤ length ts → tree_ok (made (name_in rows) w ts) ≡ (word_ok rows w && trees_ok (take (takes w) ts))
  unfolding tree_ok
  made_ok w ts h = go (word_is w)
    where
      leaf : kind_of w ≤ 1 → (word_ok rows w && trees_ok (take (takes w) ts)) ≡ word_ok rows w
      leaf k = rw (leaf_takes w k, none_ok) (and_true (word_ok rows w))

      go : Word w → tree_ok (made (name_in rows) w ts) ≡ (word_ok rows w && trees_ok (take (takes w) ts))
      go (a_symbol k) = rw (leaf (omega arith), symbol_word rows w k, symbol_tree (name_in rows) w (take (takes w) ts) k)
      go (a_constant k) = rw (leaf (omega arith), constant_word rows w k, constant_tree (name_in rows) w (take (takes w) ts) k)
      go (an_operation k) =
          let z = operation_takes w k in
          let l = length-take-le (takes w) ts h in
          rw (operation_word rows w (λ e. omega arith) (λ e. omega arith), operation_tree (name_in rows) w (take (takes w) ts) k, operation_ok (kind_of w) (take (takes w) ts), l, z)

  no_words : trees_ok (read (name_in rows) []) ≡ every (word_ok rows) []
  unfolding trees_ok read every
  no_words = refl

  one_word : (w : ℕ) (ws : List ℕ) → every (word_ok rows) (w ∷ ws) ≡ (word_ok rows w && every (word_ok rows) ws)
  unfolding every
  one_word w ws = refl

  words_tested : (ws : List ℕ) (n : ℕ) → trees_in ws ≡ some n → trees_ok (read (name_in rows) ws) ≡ every (word_ok rows) ws
  words_tested [] n e = no_words
  words_tested (w ∷ ws) n e =
      let t = complete_tail w ws n e in
      let rs = read (name_in rows) ws in
      let l = complete_length (name_in rows) ws t.trees t.are in
      let a = take (takes w) rs in
      let b = drop (takes w) rs in
      let both : (trees_ok a && trees_ok b) ≡ every (word_ok rows) ws =
      sym (trees_append a b) ∙ (ap trees_ok (take-append-drop (takes w) rs) ∙ words_tested ws t.trees t.are) in
      rw (read_cons (name_in rows) w ws, trees_cons (made (name_in rows) w rs) b, made_ok w rs (omega (arith, l, t)), one_word w ws)
      (and_assoc (word_ok rows w) (trees_ok a) (trees_ok b) ∙ ap (λ (q : Bool). word_ok rows w && q) both)

  -- ---- the tree of a run

  only : (l : List Tree) → length l ≡ 1 → trees_ok l ≡ tree_ok (get_or l 0 (Op 0 nil))
  unfolding trees_ok
  only [] e = absurd (omega arith)
  only (t ∷ []) e = and_true (tree_ok t)
  only (t ∷ (u ∷ l)) e = absurd (omega arith)

  first : (l m : List Tree) → length l ≡ 1 → get_or (l ++ m) 0 (Op 0 nil) ≡ get_or l 0 (Op 0 nil)
  first [] m e = absurd (omega arith)
  first (t ∷ l) m e = refl

  pub run_tested : (ws : List ℕ) (at n : ℕ) → run_at ws at ≡ some n → tree_ok (tree_in rows ws at) ≡ every (word_ok rows) (take n (drop at ws))
  unfolding run_at
  run_tested ws at n e =
      let us = drop at ws in
      let k = words_complete us 1 n e in
      let words = take n us in
      let l = complete_length (name_in rows) words 1 k.1 in
      let r = complete_read (name_in rows) words (drop n us) 1 k.1 in
      let whole : read (name_in rows) us ≡ read (name_in rows) words ++ read (name_in rows) (drop n us) = rw take-append-drop at r in
      let is : tree_in rows ws at ≡ get_or (read (name_in rows) words) 0 (Op 0 nil) =
      tree_at (name_in rows) ws at ∙ (ap (λ (q : List Tree). get_or q 0 (Op 0 nil)) whole ∙ first (read (name_in rows) words) (read (name_in rows) (drop n us)) l) in
      ap tree_ok is ∙ (sym (only (read (name_in rows) words) l) ∙ words_tested words 1 k.1)

-- ---- the answers

pub ends_inside : (us : List ℕ) (n : ℕ) → words_of us 1 ≡ some n → (0 < n) × (n ≤ length us)
ends_inside [] n e = absurd (omega (arith, (words_complete [] 1 n e).0, nothing n e))
  where
    nothing : (n : ℕ) → words_of [] 1 ≡ some n → ◌≡◌ {A = ℕ} 0 1
    nothing n e = unfold words_of in cc
ends_inside (w ∷ us) n e = (omega (arith, words_tail w us 0 n e), (words_complete (w ∷ us) 1 n e).0)

module _ (rows : List Row) (ws : List ℕ) (at : ℕ) where
  pub no_run : None ≡ end_answer at (run_at ws at) → None ≡ checked_answer at (run_at ws at) (tree_ok (tree_in rows ws at))
  unfolding end_answer checked_answer
  no_run e = go (run_at ws at) e
    where
      go : (o : Option ℕ) → None ≡ end_answer at o → None ≡ checked_answer at o (tree_ok (tree_in rows ws at))
      go none e = refl
      go (some n) e = absurd (let z : ◌≡◌ {A = ℕ} 0 1 = cc in omega arith)

  module _ (end : ℕ) (e : Some end ≡ end_answer at (run_at ws at)) where
    pub run_inside : (at ≤ end) × (end ≤ length ws)
    unfolding run_at
    run_inside =
        let a = run_after ws at end e in
        let k = ends_inside (drop at ws) (end - at) (run_ends ws at end e) in
        (a, omega (arith, a, k, length-drop at ws))

    pub run_answer : (r : Bool) → r ≡ every (word_ok rows) (take (end - at) (drop at ws)) → checked_answer at (some (end - at)) r ≡ checked_answer at (run_at ws at) (tree_ok (tree_in rows ws at))
    run_answer r q =
        let n = run_ends ws at end e in
        rw n (ap (checked_answer at (some (end - at))) (q ∙ sym (run_tested rows ws at (end - at) n)))

    passes : true ≡ every (word_ok rows) (take (end - at) (drop at ws)) → Some end ≡ checked_answer at (run_at ws at) (tree_ok (tree_in rows ws at))
    unfolding checked_answer
    passes q = let d : end ≡ at + (end - at) = omega (arith, run_inside) in ap Some d ∙ run_answer true q

    fails : false ≡ every (word_ok rows) (take (end - at) (drop at ws)) → None ≡ checked_answer at (run_at ws at) (tree_ok (tree_in rows ws at))
    unfolding checked_answer
    fails q = run_answer false q

    pub answered :
        (r : Bool) → r ≡ every (word_ok rows) (take (end - at) (drop at ws))
        → then_some r end ≡ checked_answer at (run_at ws at) (tree_ok (tree_in rows ws at))
    answered true q = passes q
    answered false q = fails q
