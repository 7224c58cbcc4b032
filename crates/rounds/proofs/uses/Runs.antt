-- Equal trees are equal runs of words: what decides whether the tree at one place is the one at another. Assumes nothing.
use Prim.Native.Nat.{ℕ, ◌+◌, ◌≤◌, ◌<◌}
use native.Mathlib.Omega.{arith}
use mathlib.Core.Path.{◌≡◌, refl, sym, ◌∙◌, ap, subst}
use mathlib.Core.Bool.{false}
use mathlib.Core.Option.{Option, none, some}
use mathlib.Core.List.{List, [], ◌∷◌, ◌++◌}
use lib.ListN.{length, get_or, take, drop, length-drop, take-append-drop}
use lib.Seq.{get_or-take, get_or-drop}
use lib.Dec.{T}
use Rattle.spec_tree.specs.Tree.{Tree, Op, nil, eq_tree}
use Rattle.spec_tree.specs.Facts.{size}
use Rattle.spec_tree.specs.Tokens.{trees_in, read, numbered, all_tokens, run_at}
use Rattle.spec_tree.proofs.TreeLaws.{eq_tree_sound}
use Rattle.spec_tree.proofs.TokenLaws.{tree_at, words_complete, complete_read, complete_length, run_size}
use Rattle.spec_tree.proofs.TokenCode.{unnumbered, writes_back}
use Rattle.laws.specs.positions.Places.{numbered_at}
use Rattle.rounds.specs.uses.Marks.{Complete}
use Rattle.spec_tree.proofs.Lists.{one_alone, first_alone}
use Rattle.spec_tree.proofs.Logic.{false_is}

pub how_many : (o : Option ℕ) → (o ≡ none → ⊥) → (m : ℕ) × (o ≡ some m)
how_many none h = absurd (h refl)
how_many (some m) h = (m, refl)

-- a run that is one whole tree is the tree of its place
run_is : (ws : List ℕ) (j n : ℕ) → trees_in (take n (drop j ws)) ≡ some 1 → numbered_at ws j ≡ get_or (read numbered (take n (drop j ws))) 0 (Op 0 nil)
unfolding numbered_at
run_is ws j n e =
    let us = drop j ws in
    let words = take n us in
    let r = complete_read numbered words (drop n us) 1 e in
    let whole : read numbered us ≡ read numbered words ++ read numbered (drop n us) = rw take-append-drop at r in
    tree_at numbered ws j
    ∙ (ap (λ (q : List Tree). get_or q 0 (Op 0 nil)) whole ∙ first_alone (read numbered words) (read numbered (drop n us)) (complete_length numbered words 1 e))

-- and its words are the tree's
run_words : (ws : List ℕ) (j n : ℕ) → trees_in (take n (drop j ws)) ≡ some 1 → all_tokens unnumbered (numbered_at ws j ∷ []) ≡ take n (drop j ws)
run_words ws j n e =
    let words = take n (drop j ws) in
    ap (λ (t : Tree). all_tokens unnumbered (t ∷ [])) (run_is ws j n e)
    ∙ (ap (all_tokens unnumbered) (sym (one_alone (read numbered words) (complete_length numbered words 1 e))) ∙ writes_back words 1 e)

module _ (ws : List ℕ) (c : Complete ws) where
  pub run_there : (j : ℕ) → j < length ws → run_at ws j ≡ some (size (numbered_at ws j))
  unfolding numbered_at
  run_there j h = let k = how_many (trees_in ws) c in run_size numbered ws k.0 j k.1 h

  run_whole : (j : ℕ) → j < length ws → (size (numbered_at ws j) ≤ length (drop j ws)) × (trees_in (take (size (numbered_at ws j)) (drop j ws)) ≡ some 1)
  unfolding run_at
  run_whole j h = words_complete (drop j ws) 1 (size (numbered_at ws j)) (run_there j h)

  -- a tree ends among the words
  pub ends_within : (j : ℕ) → j < length ws → j + size (numbered_at ws j) ≤ length ws
  ends_within j h = omega (arith, (run_whole j h).0, length-drop j ws)

  module _ (at n i : ℕ) (place : at < length ws) (other : i < length ws) (long : n ≡ size (numbered_at ws at)) where
    at_within : at + n ≤ length ws
    at_within = omega (arith, ends_within at place)

    whole_at : trees_in (take n (drop at ws)) ≡ some 1
    whole_at = subst (λ (k : ℕ). trees_in (take k (drop at ws)) ≡ some 1) (sym long) (run_whole at place).1

    equal_size : T (eq_tree (numbered_at ws i) (numbered_at ws at)) → size (numbered_at ws i) ≡ n
    equal_size t = ap size (eq_tree_sound (numbered_at ws i) (numbered_at ws at) t) ∙ sym long

    -- equal trees have equal runs
    equal_words : T (eq_tree (numbered_at ws i) (numbered_at ws at)) → take n (drop i ws) ≡ take n (drop at ws)
    equal_words t =
        let whole_i : trees_in (take n (drop i ws)) ≡ some 1 = subst (λ (k : ℕ). trees_in (take k (drop i ws)) ≡ some 1) (equal_size t) (run_whole i other).1 in
        sym (run_words ws i n whole_i)
        ∙ (ap (λ (u : Tree). all_tokens unnumbered (u ∷ [])) (eq_tree_sound (numbered_at ws i) (numbered_at ws at) t) ∙ run_words ws at n whole_at)

    word_at : (j k : ℕ) → k < n → get_or (take n (drop j ws)) k 0 ≡ get_or ws (j + k) 0
    word_at j k h = rw (get_or-take, get_or-drop)

    pub word_differs : (k : ℕ) → k < n → (get_or ws (i + k) 0 ≡ get_or ws (at + k) 0 → ⊥) → false ≡ eq_tree (numbered_at ws i) (numbered_at ws at)
    word_differs k h ne =
        false_is (eq_tree (numbered_at ws i) (numbered_at ws at))
        (λ t. ne (sym (word_at i k h) ∙ (ap (λ (l : List ℕ). get_or l k 0) (equal_words t) ∙ word_at at k h)))
