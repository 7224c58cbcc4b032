-- A tree from before is taken from the settled words: its run stands where the list of trees says, and is the run of the final tree; a reciprocal is made, and is the
-- run of the final tree too. Assumes nothing.
use Rattle.std.specs.Prelude.{Some, None}
use Prim.Native.Nat.{ℕ, suc, ◌+◌, ◌-◌, ◌≤◌, ◌<◌}
use native.Mathlib.Omega.{arith}
use mathlib.Core.Path.{◌≡◌, refl, sym, ◌∙◌, ap, subst}
use mathlib.Core.Bool.{Bool, true, false}
use mathlib.Core.Option.{some}
use mathlib.Core.List.{List, ◌++◌, append-nil}
use borrow.Author.Tests.{ltb-true, ltb-false}
use lib.Dec.{ltb}
use lib.ListN.{length, get_or, take, drop, length-append}
use lib.Seq.{take_at}
use Rattle.spec_tree.specs.Tree.{Tree, Op, nil}
use Rattle.spec_tree.specs.Facts.{size}
use Rattle.spec_tree.specs.Tokens.{tokens, all_tokens, read, numbered, run_at, trees_in}
use Rattle.spec_tree.proofs.TokenLaws.{complete_length, complete_within}
use Rattle.spec_tree.proofs.TokenCode.{unnumbered, tokens_length}
use Rattle.words.specs.tokens.Answers.{end_answer}
use Rattle.words.proofs.words.Scanning.{Put}
use Rattle.reciprocals.proofs.bindings.Parts.{AllThere, settled_are}
use Rattle.reciprocals.specs.reciprocal.Bindings.{whole_reciprocal, BoundSo}
use Rattle.reciprocals.proofs.reciprocal.There.{tested_there}
use Rattle.reciprocals.proofs.reciprocal.Made.{made, made_words, made_is, made_within, made_so}
use Rattle.reciprocals.proofs.reciprocal.Whole.{first_complete, first_read}
use Rattle.topo_sort.proofs.treelist.Begins.{tree_number, start_number, next_start, last_end, ends_within, run_there, words_there}
use Rattle.reciprocals.specs.final.Final.{final_trees}
use Rattle.reciprocals.specs.final.Entries.{final_run}
use Rattle.reciprocals.specs.final.Ready.{Ready, Stands}
use Rattle.reciprocals.proofs.final.Trees.{settled_trees, final_before, final_after}

some_same : (a b : List ℕ) → some a ≡ some b → a ≡ b
some_same a b e = cc

-- words in front of others
pub in_front : (new old out : List ℕ) (n : ℕ) → n ≡ length new → out ≡ new ++ drop n old → Stands new out n
in_front new old out n e f =
    record {
      many = e;
      words = ap (take n) f ∙ take_at new (drop n old) n (sym e);
      inside = omega (arith, ap length f, length-append new (drop n old));
    }

-- a number past m is m and what is past it
pub past_stands : (k : ℕ) (places ws : List ℕ) (m i : ℕ) → m ≤ i → (out : List ℕ) (n : ℕ) → Stands (final_run k places ws (m + (i - m))) out n → Stands (final_run k places ws i) out n
past_stands k places ws m i h out n s = let z : m + (i - m) ≡ i = omega arith in subst (λ (x : ℕ). Stands (final_run k places ws x) out n) z s

module _ {ws settled starts places : List ℕ} {k : ℕ} (ready : Ready ws settled starts places k) where
  pub there_is : AllThere ws places
  there_is = tested_there ws places ready.there

  abbrev m : ℕ
  m = length starts

  abbrev S : List Tree
  S = settled_trees k m places ws ready.complete there_is

  pub trees_few : length starts ≤ 1024
  trees_few = omega (arith, complete_within ws m ready.complete, ready.few)

  settled_are_words : settled ≡ all_tokens unnumbered S
  settled_are_words = some_same settled (all_tokens unnumbered S) (sym ready.settled_is ∙ settled_are ws places (m - k) ws m ready.complete there_is)

  settled_read : read numbered settled ≡ S
  settled_read = ap (read numbered) settled_are_words ∙ first_read ws places there_is (m - k) m ready.complete

  settled_complete : trees_in settled ≡ some m
  settled_complete = ap trees_in settled_are_words ∙ first_complete ws places there_is (m - k) m ready.complete

  read_count : length (read numbered settled) ≡ m
  read_count = complete_length numbered settled m settled_complete

  module _ (i : ℕ) (h : i < length starts) where
    tree_is : tree_number settled i ≡ get_or (final_trees k places ws) i (Op 0 nil)
    tree_is = ap (λ (l : List Tree). get_or l i (Op 0 nil)) settled_read ∙ sym (final_before k m places ws ready.complete there_is i h)

    run_is : tokens unnumbered (tree_number settled i) ≡ final_run k places ws i
    unfolding final_run
    run_is = ap (tokens unnumbered) tree_is

    long_is : size (tree_number settled i) ≡ length (final_run k places ws i)
    long_is = sym (tokens_length unnumbered (tree_number settled i)) ∙ ap length run_is

    start_is : start_number settled i ≡ get_or starts i 0
    start_is = ap (λ (l : List ℕ). get_or l i 0) (sym ready.starts_are)

    -- it ends where the next begins, and the last ends with the words
    pub next_is : suc i < length starts → get_or starts (suc i) 0 ≡ get_or starts i 0 + length (final_run k places ws i)
    next_is g = omega (arith, ap (λ (l : List ℕ). get_or l (suc i) 0) ready.starts_are, next_start settled i (omega (arith, read_count)), start_is, long_is)

    pub last_is : length starts ≤ suc i → length settled ≡ get_or starts i 0 + length (final_run k places ws i)
    last_is g = omega (arith, last_end settled i (omega (arith, read_count)) (omega (arith, read_count)), start_is, long_is)

    pub run_there_is : run_at settled (get_or starts i 0) ≡ some (length (final_run k places ws i))
    run_there_is =
        ap (run_at settled) (sym start_is) ∙ (run_there settled m settled_complete i (omega (arith, read_count)) ∙ ap some long_is)

    pub words_there_are : take (length (final_run k places ws i)) (drop (get_or starts i 0) settled) ≡ final_run k places ws i
    words_there_are =
        ap (λ (n : ℕ). take n (drop (get_or starts i 0) settled)) (sym long_is)
        ∙ (ap (λ (n : ℕ). take (size (tree_number settled i)) (drop n settled)) (sym start_is) ∙ (words_there settled m settled_complete i (omega (arith, read_count)) ∙ run_is))

    pub run_within : get_or starts i 0 + length (final_run k places ws i) ≤ length settled
    run_within = omega (arith, ends_within settled i (omega (arith, read_count)), long_is, start_is)

    -- and so it is copied
    pub never_broken : None ≡ end_answer (get_or starts i 0) (run_at settled (get_or starts i 0)) → ⊥
    unfolding end_answer
    never_broken e =
        let q : None ≡ Some (get_or starts i 0 + length (final_run k places ws i)) = e ∙ ap (end_answer (get_or starts i 0)) run_there_is in
        let z : ◌≡◌ {A = ℕ} 0 1 = cc in
        omega arith

    pub end_is : (end : ℕ) → Some end ≡ end_answer (get_or starts i 0) (run_at settled (get_or starts i 0)) → end ≡ get_or starts i 0 + length (final_run k places ws i)
    unfolding end_answer
    end_is end e =
        let q : Some end ≡ Some (get_or starts i 0 + length (final_run k places ws i)) = e ∙ ap (end_answer (get_or starts i 0)) run_there_is in
        cc

    module _ (end : ℕ) (e : end ≡ get_or starts i 0 + length (final_run k places ws i)) where
      pub part_is : take (end - get_or starts i 0) (drop (get_or starts i 0) settled) ≡ final_run k places ws i
      part_is = let z : end - get_or starts i 0 ≡ length (final_run k places ws i) = omega arith in ap (λ (n : ℕ). take n (drop (get_or starts i 0) settled)) z ∙ words_there_are

      pub settled_stands : (old out : List ℕ) → Put old 0 (take (end - get_or starts i 0) (drop (get_or starts i 0) settled)) out → Stands (final_run k places ws i) out (end - get_or starts i 0)
      settled_stands old out f =
          let r = final_run k places ws i in
          let n = end - get_or starts i 0 in
          let z : 0 + length r ≡ n = omega arith in
          in_front r old out n (omega arith) (f ∙ (ap (λ (l : List ℕ). l ++ drop (0 + length l) old) part_is ∙ ap (λ (x : ℕ). r ++ drop x old) z))

  -- ---- reciprocals

  made_run : (j : ℕ) → j < length places → made_words ws places (m - k) j ≡ final_run k places ws (m + j)
  unfolding final_run all_tokens
  made_run j h =
      append-nil (tokens unnumbered (made ws places (m - k) j))
      ∙ ap (tokens unnumbered) (sym (final_after k m places ws ready.complete there_is j ∙ made_is ws places (m - k) j h (Op 0 nil)))

  -- no tree has more words
  pub run_short : (i : ℕ) → i < length starts + length places → length (final_run k places ws i) ≤ length ws + 2
  run_short i h = go (ltb i (length starts)) refl
    where
      go : (b : Bool) → ltb i (length starts) ≡ b → length (final_run k places ws i) ≤ length ws + 2
      go true e = omega (arith, run_within i (ltb-true i (length starts) e), ready.short)
      go false e =
          let past = ltb-false i (length starts) e in
          let j = i - length starts in
          let z : m + j ≡ i = omega arith in
          let below : j < length places = omega arith in
          omega (arith, made_within ws places (m - k) j below there_is, ap length (made_run j below), ap (λ (x : ℕ). length (final_run k places ws x)) z, ready.few)

  pub reciprocal_stands : (j : ℕ) → j < length places → (n : ℕ) (out : List ℕ) → BoundSo (whole_reciprocal ws places (m - k) j) n out → Stands (final_run k places ws (m + j)) out n
  reciprocal_stands j h n out s =
      let r = made_so ws places (m - k) j h there_is out n s in
      let e = made_run j h in
      record { many = r.0 ∙ ap length e; words = r.1 ∙ e; inside = r.2 }
