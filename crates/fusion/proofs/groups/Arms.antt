-- Where an arm of a switch begins and ends, and the arms of some switches one after another: measured, and written. Assumes nothing.
use Rattle.std.specs.Prelude.{Some, None}
use Prim.Native.Nat.{ℕ, suc, ◌+◌, ◌-◌, ◌≤◌, ◌<◌}
use native.Mathlib.Omega.{arith}
use borrow.Author.Tests.{le-leb, lt-leb}
use mathlib.Core.Path.{◌≡◌, refl, sym, ◌∙◌, ap, subst}
use mathlib.Core.Bool.{true, false}
use mathlib.Core.List.{List, [], ◌++◌}
use lib.ListN.{length, get_or, take, drop, length-append, drop_of_length-le}
use lib.Seq.{drop-cons}
use lib.Dec.{leb}
use Rattle.spec_tree.specs.Facts.{size}
use Rattle.spec_tree.specs.Tokens.{run_at}
use Rattle.words.specs.tokens.Answers.{end_answer}
use Rattle.words.proofs.tokens.Complete.{end_is}
use Rattle.words.specs.words.Words.{Complete}
use Rattle.laws.specs.positions.Places.{numbered_at, second_at}
use Rattle.laws.proofs.positions.DivisorPlaces.{enough}
use Rattle.laws.specs.switches.Switches.{trees_past, arm_place}
use Rattle.laws.specs.switches.Columns.{words_at, column_words}
use Rattle.laws.proofs.switches.Parts.{has_key}
use Rattle.laws.proofs.switches.Words.{place_within, ends_within, arm_within}
use Rattle.laws.proofs.switches.Lengths.{words_length}
use Rattle.fusion.specs.place.Overlay.{overlay}
use Rattle.fusion.proofs.tables.Laws.{overlay_none, overlay_append, overlay_length, overlay_front}
use Rattle.fusion.specs.groups.Copying.{armed_at, all_armed}
use Rattle.fusion.proofs.groups.Armed.{HasArm, has_arm, armed_one}

-- what is left of the room, when the first k arms are measured
abbrev pub MeasuredSo : List ℕ → List ℕ → ℕ → ℕ → ℕ → ℕ → Type 0
MeasuredSo ws qs arm room left k = (left ≤ room) × (left + length (column_words ws qs arm) ≡ room + length (column_words ws (drop k qs) arm))

-- what is still to be written after the first k arms, over what is
abbrev pub WrittenSo : List ℕ → List ℕ → ℕ → List ℕ → List ℕ → ℕ → ℕ → Type 0
WrittenSo ws qs arm old out n k =
    (n + length (column_words ws (drop k qs) arm) ≡ length (column_words ws qs arm))
    × ((length out ≡ length old) × (overlay n (column_words ws (drop k qs) arm) out ≡ overlay 0 (column_words ws qs arm) old))

module _ (ws : List ℕ) (complete : Complete ws) where
  -- ---- where a tree ends

  ends_so : (at : ℕ) → at < length ws → end_answer at (run_at ws at) ≡ Some (at + size (numbered_at ws at))
  unfolding numbered_at
  ends_so at h = end_is ws complete.0 complete.1 at h

  pub tree_end : (at end : ℕ) → at < length ws → Some end ≡ end_answer at (run_at ws at) → end ≡ at + size (numbered_at ws at)
  tree_end at end h e = let q : Some end ≡ Some (at + size (numbered_at ws at)) = e ∙ ends_so at h in cc

  pub tree_there : (at : ℕ) → at < length ws → None ≡ end_answer at (run_at ws at) → ⊥
  tree_there at h e =
      let q : None ≡ Some (at + size (numbered_at ws at)) = e ∙ ends_so at h in
      let z : ◌≡◌ {A = ℕ} 0 1 = cc in
      absurd (omega arith)

  -- ---- an arm of a switch

  module _ (q arm : ℕ) (armed : armed_at ws arm q ≡ true) where
    there : HasArm ws arm q
    there = has_arm ws arm q armed

    -- its key is there
    pub key_within : q + 1 < length ws
    key_within =
        let s = there.0 in
        let k = (has_key ws q s.1).0 in
        let n = enough ws complete.0 complete.1 q s.0 in
        let i : suc q ≡ q + 1 = omega arith in
        subst (λ (j : ℕ). j < length ws) i (place_within ws (suc q) (omega (arith, k, n)))

    pub first_arm_so : (at : ℕ) → at ≡ (q + 1) + size (numbered_at ws (q + 1)) → at ≡ arm_place ws q 0
    unfolding arm_place trees_past second_at
    first_arm_so at e = let i : q + 1 ≡ suc q = omega arith in e ∙ ap (λ (j : ℕ). j + size (numbered_at ws j)) i

    pub arm_inside : (a : ℕ) → a ≤ arm → arm_place ws q a < length ws
    arm_inside a h = arm_within ws complete.0 complete.1 q there.0 a (let t = there.1 in omega arith)

    pub tree_next : (a at : ℕ) → a ≤ arm → at ≡ arm_place ws q a → at < length ws
    tree_next a at h e = omega (arith, e, arm_inside a h)

    pub next_arm_so : (a at end : ℕ) → at ≡ arm_place ws q a → end ≡ at + size (numbered_at ws at) → end ≡ arm_place ws q (a + 1)
    unfolding arm_place trees_past
    next_arm_so a at end e n =
        let i : a + 1 ≡ suc a = omega arith in
        n ∙ (ap (λ (j : ℕ). j + size (numbered_at ws j)) e ∙ sym (ap (λ (j : ℕ). arm_place ws q j) i))

    pub arm_last : (a at : ℕ) → a ≤ arm → arm ≤ a → at ≡ arm_place ws q a → at ≡ arm_place ws q arm
    arm_last a at h l e = let i : a ≡ arm = omega arith in e ∙ ap (λ (j : ℕ). arm_place ws q j) i

  -- ---- one switch after another

  module _ (qs : List ℕ) (arm : ℕ) (armed : all_armed ws arm qs ≡ true) where
    -- the words of the arms from number k on
    abbrev pub rest : ℕ → List ℕ
    rest k = column_words ws (drop k qs) arm

    pub rest_all : rest 0 ≡ column_words ws qs arm
    rest_all = refl

    pub rest_none : (k : ℕ) → length qs ≤ k → rest k ≡ []
    unfolding column_words
    rest_none k h = ap (λ (l : List ℕ). column_words ws l arm) (drop_of_length-le qs {i = k} h)

    -- the one of number k, from its place to its end
    module _ (k : ℕ) (more : k < length qs) (from to : ℕ) (f : from ≡ arm_place ws (get_or qs k 0) arm) (t : to ≡ from + size (numbered_at ws from)) where
      pub from_within : from < length ws
      from_within = rw f (arm_inside (get_or qs k 0) arm (armed_one ws arm qs k armed more) arm (omega arith))

      pub ordered : from ≤ to
      ordered = omega arith

      pub to_within : to ≤ length ws
      to_within = omega (arith, t, ends_within ws complete.0 complete.1 from from_within)

      abbrev run_words : List ℕ
      run_words = take (to - from) (drop from ws)

      pub run_is : words_at ws (arm_place ws (get_or qs k 0) arm) ≡ take (to - from) (drop from ws)
      unfolding words_at
      run_is =
          let s : size (numbered_at ws from) ≡ to - from = omega arith in
          ap (words_at ws) (sym f) ∙ ap (λ (n : ℕ). take n (drop from ws)) s

      pub run_long : length (take (to - from) (drop from ws)) ≡ to - from
      run_long =
          ap length (sym run_is)
          ∙ (ap (λ (r : ℕ). length (words_at ws r)) (sym f)
          ∙ (words_length ws complete.0 complete.1 from from_within ∙ (let s : size (numbered_at ws from) ≡ to - from = omega arith in s)))

      pub rest_next : rest k ≡ take (to - from) (drop from ws) ++ rest (k + 1)
      unfolding column_words
      rest_next =
          let i : suc k ≡ k + 1 = omega arith in
          ap (λ (l : List ℕ). column_words ws l arm) (drop-cons qs k 0 more)
          ∙ (ap (λ (l : List ℕ). l ++ rest (suc k)) run_is ∙ ap (λ (j : ℕ). take (to - from) (drop from ws) ++ rest j) i)

      pub rest_long : length (rest k) ≡ (to - from) + length (rest (k + 1))
      rest_long = ap length rest_next ∙ (length-append (take (to - from) (drop from ws)) (rest (k + 1)) ∙ ap (λ (n : ℕ). n + length (rest (k + 1))) run_long)

    -- ---- measured: what is left of the room

    pub too_long :
        (room left k : ℕ) (more : k < length qs) (from to : ℕ) (f : from ≡ arm_place ws (get_or qs k 0) arm) (t : to ≡ from + size (numbered_at ws from))
        → MeasuredSo ws qs arm room left k → left < to - from → false ≡ leb (length (column_words ws qs arm)) room
    too_long room left k more from to f t m h =
        let e = rest_long k more from to f t in
        sym (lt-leb (length (column_words ws qs arm)) room (omega (arith, m, e, h)))

    pub less_left :
        (room left k : ℕ) (more : k < length qs) (from to : ℕ) (f : from ≡ arm_place ws (get_or qs k 0) arm) (t : to ≡ from + size (numbered_at ws from))
        → MeasuredSo ws qs arm room left k → to - from ≤ left → MeasuredSo ws qs arm room (left - (to - from)) (k + 1)
    less_left room left k more from to f t m h = let e = rest_long k more from to f t in (omega (arith, m), omega (arith, m, e, h))

    pub fits_so : (room left k : ℕ) → length qs ≤ k → MeasuredSo ws qs arm room left k → true ≡ leb (length (column_words ws qs arm)) room
    fits_so room left k h m =
        let e : length (rest k) ≡ 0 = ap length (rest_none k h) in
        sym (le-leb (length (column_words ws qs arm)) room (omega (arith, m, e)))

    -- ---- written: what is still to be written, over what is

    pub written_turns :
        (old out new : List ℕ) (n k : ℕ) (more : k < length qs) (from to : ℕ) (f : from ≡ arm_place ws (get_or qs k 0) arm) (t : to ≡ from + size (numbered_at ws from))
        → WrittenSo ws qs arm old out n k → new ≡ overlay n (take (to - from) (drop from ws)) out → WrittenSo ws qs arm old new (n + (to - from)) (k + 1)
    written_turns old out new n k more from to f t s e =
        let l = rest_long k more from to f t in
        let run = take (to - from) (drop from ws) in (
          omega (arith, s.0, l),
          (
            ap length e ∙ (overlay_length n run out ∙ s.1.0),
            ap (λ (o : List ℕ). overlay (n + (to - from)) (rest (k + 1)) o) e
                ∙ (ap (λ (j : ℕ). overlay (n + j) (rest (k + 1)) (overlay n run out)) (sym (run_long k more from to f t))
                ∙ (sym (overlay_append n run (rest (k + 1)) out) ∙ (ap (λ (r : List ℕ). overlay n r out) (sym (rest_next k more from to f t)) ∙ s.1.1))),
          ),
        )

    pub written_ends :
        (old out : List ℕ) (n k : ℕ) → length (column_words ws qs arm) ≤ length old → length qs ≤ k → WrittenSo ws qs arm old out n k
        → (n ≡ length (column_words ws qs arm)) × (out ≡ column_words ws qs arm ++ drop (length (column_words ws qs arm)) old)
    written_ends old out n k fit h s =
        let none = rest_none k h in
        let e : length (rest k) ≡ 0 = ap length none in (
          omega (arith, s.0, e),
          sym (overlay_none n out)
              ∙ (ap (λ (r : List ℕ). overlay n r out) (sym none) ∙ (s.1.1 ∙ overlay_front (column_words ws qs arm) old fit)),
        )
