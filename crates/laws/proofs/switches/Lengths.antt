-- How many words all columns of some switches are: as many as their arms have nodes (specs, Columns). So a group's columns together are no longer than the
-- words, and the columns of all groups neither. Assumes nothing.
use Prim.Native.Nat.{ℕ, zero, suc, ◌+◌, ◌≤◌, ◌<◌}
use native.Mathlib.Omega.{arith}
use mathlib.Core.Path.{◌≡◌, refl, sym, ◌∙◌, ap, ap₂}
use mathlib.Core.Option.{some}
use mathlib.Core.List.{List, [], ◌∷◌, ◌++◌, map}
use lib.ListN.{length, drop, length-append, length-drop}
use lib.Seq.{length-take-le}
use Rattle.spec_tree.specs.Tree.{Tree}
use Rattle.spec_tree.specs.Facts.{size}
use Rattle.spec_tree.specs.Rows.{occurrences}
use Rattle.spec_tree.specs.Tokens.{read, numbered, trees_in}
use Rattle.spec_tree.proofs.TokenLaws.{map_append, read_size}
use Rattle.laws.proofs.cse.ArmNodes.{arms_total, collected_total}
use Rattle.laws.specs.positions.Places.{numbered_at}
use Rattle.laws.proofs.positions.Extraction.{Every}
use Rattle.laws.specs.switches.Switches.{arm_count, arm_place, arms_within, arm_places, switch_places, switch_there}
use Rattle.laws.specs.switches.Groups.{member, group_first, member_places}
use Rattle.laws.specs.switches.Columns.{words_at, column_words, columns_length}
use Rattle.laws.proofs.switches.Collected.{Switching, places_switch, collected_are}
use Rattle.laws.proofs.switches.Words.{ends_within, arm_within}
use Rattle.laws.proofs.switches.Turned.{Armed}
use Rattle.laws.proofs.switches.GroupColumns.{sizes_are, members_armed, members_by_place, group_small}

occurrences_last : (l : List Tree) (t : Tree) → occurrences (l ++ (t ∷ [])) ≡ occurrences l + size t
unfolding occurrences
occurrences_last [] t = omega arith
occurrences_last (u ∷ l) t = (let e = occurrences_last l t in omega arith)

module _ (ws : List ℕ) (m : ℕ) (complete : trees_in ws ≡ some m) where
  pub words_length : (r : ℕ) → r < length ws → length (words_at ws r) ≡ size (numbered_at ws r)
  unfolding words_at
  words_length r h = (let e = ends_within ws m complete r h in length-take-le (size (numbered_at ws r)) (drop r ws) (omega (arith, e, length-drop r ws)))

  -- the first n columns of no switch, and of one more
  none_long : (n : ℕ) → columns_length ws [] n ≡ 0
  unfolding columns_length column_words
  none_long zero = refl
  none_long (suc n) = (let e = none_long n in omega arith)

  one_longer :
      (q : ℕ) (qs : List ℕ) (n : ℕ) → Switching ws q → n ≤ arm_count ws q
      → columns_length ws (q ∷ qs) n ≡ occurrences (map (numbered_at ws) (arms_within ws q n)) + columns_length ws qs n
  unfolding columns_length column_words arms_within
  one_longer q qs zero s h = (unfold occurrences in refl)
  one_longer q qs (suc n) s h =
      let r = arm_place ws q n in
      let e = one_longer q qs n s (omega arith) in
      let l = length-append (words_at ws r) (column_words ws qs n) in
      let w = words_length r (arm_within ws m complete q s n (omega arith)) in
      let o : occurrences (map (numbered_at ws) (arms_within ws q n ++ (r ∷ []))) ≡ occurrences (map (numbered_at ws) (arms_within ws q n)) + size (numbered_at ws r) =
      ap occurrences (map_append (numbered_at ws) (arms_within ws q n) (r ∷ [])) ∙ occurrences_last (map (numbered_at ws) (arms_within ws q n)) (numbered_at ws r) in
      omega arith

  all_arms : (q n : ℕ) → arm_count ws q ≡ n → occurrences (map (numbered_at ws) (arms_within ws q n)) ≡ occurrences (switch_there ws q).arms
  unfolding switch_there arm_places
  all_arms q n e = ap (λ (k : ℕ). occurrences (map (numbered_at ws) (arms_within ws q k))) (sym e)

  pub columns_total : (n : ℕ) (qs : List ℕ) → Every (Armed ws n) qs → columns_length ws qs n ≡ arms_total (map (switch_there ws) qs)
  unfolding arms_total
  columns_total n [] h = none_long n
  columns_total n (q ∷ qs) h =
      let c = h.0.1 in
      one_longer q qs n h.0.0 (omega arith) ∙ ap₂ ◌+◌ (all_arms q n c) (columns_total n qs h.1)

  -- the columns of one group
  pub group_columns_short :
      (i : ℕ) → i < length (switch_places ws) → group_first ws (switch_places ws) i ≡ i
      → columns_length ws (member_places ws (switch_places ws) i) (arm_count ws (member (switch_places ws) i)) ≤ length ws
  group_columns_short i h o =
      let ps = switch_places ws in
      let n = arm_count ws (member ps i) in
      let e = columns_total n (member_places ws ps i) (members_armed ws ps (places_switch ws) i) in
      let f = ap arms_total (members_by_place ws ps i h o) in
      omega (arith, e, f, group_small ws m complete i h o)

  -- the arms of all switches outside arms
  pub all_arms_short : arms_total (map (switch_there ws) (switch_places ws)) ≤ length ws
  all_arms_short =
      let e = ap arms_total (collected_are ws m complete) in
      let t = collected_total (read numbered ws) in
      let a = sizes_are (read numbered ws) in
      let b = read_size numbered ws in
      omega arith
