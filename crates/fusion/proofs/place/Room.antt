-- What a scope with room for fusion has: no more words that it holds than rows are left, few switches, and few statements (refusal 23). Assumes nothing.
use Prim.Native.Nat.{ℕ, ◌+◌, ◌≤◌}
use mathlib.Core.Bool.{◌&&◌}
use mathlib.Core.List.{List}
use lib.ListN.{length}
use lib.Dec.{T, leb, leb→le}
use Rattle.spec_tree.proofs.Logic.{and_left, and_right}
use Rattle.laws.specs.switches.Switches.{switch_places}
use Rattle.fusion.specs.place.Parts.{place_groups, lets_count, held_words}
use Rattle.fusion.specs.place.Whole.{stmts_count, room_for}

module _ (left : ℕ) (ws : List ℕ) (k first : ℕ) (places : List ℕ) (room : T (room_for left ws k first places)) where
  pub held_few : length (held_words ws k first places) ≤ left
  unfolding room_for
  held_few =
      let hs = held_words ws k first places in
      let n = lets_count ws k first places + length (place_groups hs) in
      leb→le (length hs) left (and_left (leb (length hs) left) (leb (length (switch_places hs)) 3640 && leb n 2048) room)

  pub switches_few : length (switch_places (held_words ws k first places)) ≤ 3640
  unfolding room_for
  switches_few =
      let hs = held_words ws k first places in
      let n = lets_count ws k first places + length (place_groups hs) in
      let few = leb (length (switch_places hs)) 3640 in
      leb→le (length (switch_places hs)) 3640 (and_left few (leb n 2048) (and_right (leb (length hs) left) (few && leb n 2048) room))

  pub stmts_few : (numbers : List ℕ) → stmts_count ws k first places numbers ≤ 2048
  unfolding room_for stmts_count
  stmts_few numbers =
      let hs = held_words ws k first places in
      let n = lets_count ws k first places + length (place_groups hs) in
      let few = leb (length (switch_places hs)) 3640 in
      leb→le n 2048 (and_right few (leb n 2048) (and_right (leb (length hs) left) (few && leb n 2048) room))
