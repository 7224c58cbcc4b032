-- Where a tree stands at each place and there is room, settling words leaves the words of the settled trees: so the words of all trees, settled by every divisor,
-- become the first part of what reciprocals make (01, "Reciprocals"). Assumes nothing.
use Prim.Native.Nat.{ℕ, ◌+◌, ◌≤◌}
use native.Mathlib.Omega.{arith}
use mathlib.Core.Path.{◌≡◌, refl, ◌∙◌, ap}
use mathlib.Core.Bool.{Bool, true}
use mathlib.Core.Option.{Option, some}
use mathlib.Core.List.{List, ◌++◌, map}
use borrow.Author.Tests.{le-leb}
use lib.ListN.{length, take, drop}
use Rattle.spec_tree.specs.Tree.{Tree}
use Rattle.spec_tree.specs.Tokens.{all_tokens, read, numbered, trees_in}
use Rattle.spec_tree.proofs.TokenLaws.{map_drop}
use Rattle.spec_tree.proofs.TokenCode.{unnumbered}
use Rattle.laws.specs.positions.Places.{numbered_at}
use Rattle.words.specs.words.Words.{some_trees}
use Rattle.reciprocals.specs.settle.Steps.{settled_words}
use Rattle.reciprocals.specs.settle.Answers.{settling_by, forest_there, room_for, settling}
use Rattle.std.specs.Prelude.{Ok}
use Rattle.reciprocals.proofs.bindings.Parts.{settle_tree, AllThere, settled_are}
use Rattle.reciprocals.proofs.reciprocal.There.{there_after}
use Rattle.reciprocals.proofs.reciprocal.Reading.{settled_no_more, settled_complete, settled_read}

module _ (base places : List ℕ) (there : AllThere base places) where
  -- any words, by the divisors from any number on
  module _ (from first : ℕ) (old : List ℕ) (len m : ℕ) (complete : trees_in (take len old) ≡ some m) (lent : len ≤ length old) (small : len ≤ 1929) (low : first ≤ 4294967296) (few : length places ≤ 4294967296) where
    abbrev pub settled_from : List ℕ
    settled_from = all_tokens unnumbered (map (settle_tree (drop from (map (numbered_at base) places)) (first + from)) (read numbered (take len old)))

    stands : forest_there old len ≡ true
    unfolding forest_there some_trees
    stands = rw (le-leb len (length old) lent) (rw complete refl)

    room : room_for len first (length places) ≡ true
    unfolding room_for
    room = rw (le-leb len 1929 small) (rw (le-leb first 4294967296 low) (rw (le-leb (length places) 4294967296 few) refl))

    became : settled_words base (drop from places) (first + from) (take len old) ≡ some settled_from
    became =
        settled_are base (drop from places) (first + from) (take len old) m complete (there_after base places from there)
        ∙ ap (λ (ds : List Tree). some (all_tokens unnumbered (map (settle_tree ds (first + from)) (read numbered (take len old))))) (map_drop (numbered_at base) from places)

    pub settling_is : settling base places from first old len ≡ record { answer = Ok (length settled_from); out = settled_from ++ drop (length settled_from) old }
    unfolding settling settling_by
    settling_is =
        let o = settled_words base (drop from places) (first + from) (take len old) in
        ap (λ (b : Bool). settling_by b (room_for len first (length places)) o old) stands
        ∙ (ap (λ (b : Bool). settling_by true b o old) room ∙ ap (λ (q : Option (List ℕ)). settling_by true true q old) became)

  -- all trees of the base, by every divisor, in a copy of it with anything after
  module _ (first : ℕ) (m : ℕ) (complete : trees_in base ≡ some m) where
    abbrev pub first_trees : List Tree
    first_trees = map (settle_tree (map (numbered_at base) places) first) (read numbered base)

    abbrev pub first_words : List ℕ
    first_words = all_tokens unnumbered first_trees

    pub first_settled :
        (old : List ℕ) → take (length base) old ≡ base → length base ≤ length old → length base ≤ 1929 → first ≤ 4294967296 → length places ≤ 4294967296
        → settling base places 0 first old (length base) ≡ record { answer = Ok (length first_words); out = first_words ++ drop (length first_words) old }
    first_settled old copy lent small low few =
        let i : first + 0 ≡ first = omega arith in
        let e : settled_from 0 first old (length base) m (ap trees_in copy ∙ complete) lent small low few ≡ first_words =
        ap (λ (ws : List ℕ). all_tokens unnumbered (map (settle_tree (map (numbered_at base) places) (first + 0)) (read numbered ws))) copy
        ∙ ap (λ (n : ℕ). all_tokens unnumbered (map (settle_tree (map (numbered_at base) places) n) (read numbered base))) i in
        settling_is 0 first old (length base) m (ap trees_in copy ∙ complete) lent small low few
        ∙ ap (λ (l : List ℕ). record { answer = Ok (length l); out = l ++ drop (length l) old }) e

    pub first_no_more : length first_words ≤ length base
    first_no_more = settled_no_more (map (numbered_at base) places) first base

    -- as many trees as the base has
    pub first_complete : trees_in first_words ≡ some m
    first_complete = settled_complete (map (numbered_at base) places) first base m complete

    pub first_read : read numbered first_words ≡ first_trees
    first_read = settled_read (map (numbered_at base) places) first base
