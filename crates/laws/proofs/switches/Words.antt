-- The words of the tree at a place, and that a switch's arms stand one after another up to the switch's end (specs, Switches, Columns). Assumes nothing.
use Prim.Native.Nat.{ℕ, zero, suc, ◌+◌, ◌-◌, ◌≤◌, ◌<◌}
use native.Mathlib.Omega.{arith}
use mathlib.Core.Path.{◌≡◌, refl, sym, ◌∙◌, ap}
use mathlib.Core.Option.{some}
use mathlib.Core.List.{List, [], ◌∷◌, ◌++◌}
use lib.ListN.{length, get_or, take, drop, length-drop, drop_of_length-le, take-append-drop}
use lib.Seq.{take-suc}
use Rattle.spec_tree.specs.Tree.{Tree, Op, nil}
use Rattle.spec_tree.specs.Facts.{total, size}
use Rattle.spec_tree.specs.Tokens.{all_tokens, read, numbered, takes, trees_in, run_at}
use Rattle.spec_tree.proofs.TokenLaws.{sizes, sizes_append, size_made, run_size, words_complete, complete_read, complete_length}
use Rattle.spec_tree.proofs.TokenCode.{unnumbered, writes_back}
use Rattle.laws.specs.positions.Places.{numbered_at, second_at}
use Rattle.laws.proofs.positions.DivisorPlaces.{here_is, enough}
use Rattle.laws.specs.switches.Switches.{arm_count, trees_past, arm_place}
use Rattle.laws.specs.switches.Columns.{words_at}
use Rattle.laws.proofs.switches.Parts.{after, first_after, after_key, read_trees_past, tree_past, has_key}
use Rattle.laws.proofs.switches.Collected.{Switching}
use Rattle.spec_tree.proofs.Lists.{one_size, one_alone, first_alone}

one_and : (n : ℕ) (l : List Tree) → 1 ≤ length l → sizes (take (suc n) l) ≡ size (get_or l 0 (Op 0 nil)) + sizes (take n (drop 1 l))
unfolding sizes total
one_and n [] h = absurd (omega arith)
one_and n (t ∷ l) h = refl

none_read : length (read numbered []) ≡ 0
unfolding read
none_read = refl

pub no_sizes : (l : List Tree) → sizes (take 0 l) ≡ 0
unfolding sizes total
no_sizes l = refl

module _ (ws : List ℕ) where
  -- where a tree is read there is a word
  pub place_within : (r : ℕ) → 1 ≤ length (after ws r) → r < length ws
  place_within r h = go (length ws - r) refl
    where
      go : (d : ℕ) → length ws - r ≡ d → r < length ws
      go zero e =
          let none : drop r ws ≡ [] = drop_of_length-le ws {i = r} (omega arith) in
          let z = ap (λ (l : List ℕ). length (read numbered l)) none in
          absurd (omega (arith, z, none_read))
      go (suc d) e = omega arith

  -- trees stand one after another
  pub past_sizes : (n q : ℕ) → n ≤ length (after ws q) → trees_past ws n q ≡ q + sizes (take n (after ws q))
  unfolding trees_past
  past_sizes zero q h = (let z = no_sizes (after ws q) in omega arith)
  past_sizes (suc n) q h =
      let r = trees_past ws n q in
      let t = get_or (after ws q) n (Op 0 nil) in
      let here : numbered_at ws r ≡ t = tree_past ws n q (omega arith) in
      let e = past_sizes n q (omega arith) in
      let more : sizes (take (suc n) (after ws q)) ≡ sizes (take n (after ws q)) + sizes (t ∷ []) =
      ap sizes (take-suc (after ws q) n (Op 0 nil) (omega arith)) ∙ sizes_append (take n (after ws q)) (t ∷ []) in
      let o = one_size t in
      let s = ap size here in
      omega arith

module _ (ws : List ℕ) (m : ℕ) (complete : trees_in ws ≡ some m) where
  run_whole : (r : ℕ) → r < length ws → (size (numbered_at ws r) ≤ length (drop r ws)) × (trees_in (take (size (numbered_at ws r)) (drop r ws)) ≡ some 1)
  unfolding run_at numbered_at
  run_whole r h = words_complete (drop r ws) 1 (size (numbered_at ws r)) (run_size numbered ws m r complete h)

  -- a tree ends among the words, and its words are one tree, itself
  pub ends_within : (r : ℕ) → r < length ws → r + size (numbered_at ws r) ≤ length ws
  ends_within r h = omega (arith, (run_whole r h).0, length-drop r ws)

  pub words_one : (r : ℕ) → r < length ws → trees_in (words_at ws r) ≡ some 1
  unfolding words_at
  words_one r h = (run_whole r h).1

  pub words_read : (r : ℕ) → r < length ws → read numbered (words_at ws r) ≡ numbered_at ws r ∷ []
  unfolding words_at
  words_read r h =
      let n = size (numbered_at ws r) in
      let words = take n (drop r ws) in
      let c = (run_whole r h).1 in
      let l = complete_length numbered words 1 c in
      let e = complete_read numbered words (drop n (drop r ws)) 1 c in
      let whole : after ws r ≡ read numbered words ++ read numbered (drop n (drop r ws)) = rw take-append-drop at e in
      let here : numbered_at ws r ≡ get_or (read numbered words) 0 (Op 0 nil) =
      first_after ws r ∙ ap (λ (l : List Tree). get_or l 0 (Op 0 nil)) whole ∙ first_alone (read numbered words) (read numbered (drop n (drop r ws))) l in
      one_alone (read numbered words) l ∙ ap (λ (t : Tree). t ∷ []) (sym here)

  pub words_are : (r : ℕ) → r < length ws → all_tokens unnumbered (numbered_at ws r ∷ []) ≡ words_at ws r
  words_are r h = ap (all_tokens unnumbered) (sym (words_read r h)) ∙ writes_back (words_at ws r) 1 (words_one r h)

  -- ---- where arms stand

  module _ (q : ℕ) (s : Switching ws q) where
    abbrev w : ℕ
    w = get_or ws q 0

    operands_there : (suc (arm_count ws q) ≡ takes w) × (takes w ≤ length (after ws (suc q)))
    unfolding arm_count
    operands_there = let k = (has_key ws q s.1).0 in (omega arith, enough ws m complete q s.0)

    pub arms_after : arm_count ws q ≤ length (after ws (second_at ws q))
    arms_after =
        let a = operands_there.0 in
        let b = operands_there.1 in
        let e = ap length (after_key ws q (omega arith)) in
        omega (arith, e, length-drop 1 (after ws (suc q)))

    second_is : second_at ws q ≡ suc q + size (get_or (after ws (suc q)) 0 (Op 0 nil))
    unfolding second_at
    second_is = ap (λ (t : Tree). suc q + size t) (first_after ws (suc q))

    -- the arms end where the switch does
    pub arms_end : arm_place ws q (arm_count ws q) ≡ q + size (numbered_at ws q)
    unfolding arm_place
    arms_end =
        let n = arm_count ws q in
        let R = after ws (suc q) in
        let a = operands_there.0 in
        let b = operands_there.1 in
        let e : sizes (take n (after ws (second_at ws q))) ≡ sizes (take n (drop 1 R)) = ap (λ (l : List Tree). sizes (take n l)) (after_key ws q (omega arith)) in
        let past = past_sizes ws n (second_at ws q) arms_after in
        let second : second_at ws q ≡ suc q + size (get_or R 0 (Op 0 nil)) = second_is in
        let all : sizes (take (takes w) R) ≡ size (get_or R 0 (Op 0 nil)) + sizes (take n (drop 1 R)) = ap (λ (k : ℕ). sizes (take k R)) (sym a) ∙ one_and n R (omega arith) in
        let whole : size (numbered_at ws q) ≡ suc (sizes (take (takes w) R)) = ap size (here_is ws m complete q s.0) ∙ size_made numbered w R in
        omega arith

    pub arm_within : (a : ℕ) → a < arm_count ws q → arm_place ws q a < length ws
    unfolding arm_place
    arm_within a h =
        let k = arms_after in
        let e = ap length (read_trees_past ws a (second_at ws q) (omega arith)) in
        place_within ws (trees_past ws a (second_at ws q)) (omega (arith, e, length-drop a (after ws (second_at ws q))))

    -- the next arm begins where one ends
    pub next_arm : (a : ℕ) → arm_place ws q (suc a) ≡ arm_place ws q a + size (numbered_at ws (arm_place ws q a))
    unfolding arm_place trees_past
    next_arm a = refl

    pub first_arm : arm_place ws q 0 ≡ second_at ws q
    unfolding arm_place trees_past
    first_arm = refl
