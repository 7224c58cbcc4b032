-- What the walk over a word's operands keeps: sums, greatest and key so far. Assumes nothing.
use Prim.Native.Nat.{ℕ, ◌+◌, ◌-◌, ◌*◌, ◌≤◌, ◌<◌, max}
use native.Mathlib.Omega.{arith}
use mathlib.Core.Path.{◌≡◌}
use mathlib.Core.List.{List}
use lib.ListN.{length, get_or}
use Rattle.spec_tree.specs.Facts.{total}
use Rattle.rounds.specs.measure.Columns.{column, Inside}
use Rattle.rounds.specs.measure.Operands.{Together}
use Rattle.rounds.specs.value_numbers.Classes.{mixed}
use Rattle.rounds.specs.value_numbers.Walks.{Walk}
use Rattle.rounds.proofs.measure.Walking.{Summing, summing, sum_turn, sum_end, Seeking, seeking, seek_turn, seek_end}
use Rattle.rounds.proofs.value_numbers.Loops.{Keying, walk_first, key_starts, key_turns, key_ends}

module _ (fs cl : List ℕ) (w place count : ℕ) where
  pub record Gathering (size cost depth symbol key p left : ℕ) : Type 0 where
    pub sizes : Summing fs 0 place count size p left
    pub costs : Summing fs 1 place count cost p left
    pub depths : Seeking fs 2 place count depth p left
    pub symbols : Seeking fs 3 place count symbol p left
    pub keys : Keying fs cl w place count key p left

  pub gathering : Inside fs place count → Walk fs cl place count → Gathering 0 0 0 0 w place count
  gathering i k =
      record {
        sizes = summing fs 0 place count i;
        costs = summing fs 1 place count i;
        depths = seeking fs 2 place count i;
        symbols = seeking fs 3 place count i;
        keys = key_starts fs cl w place count k;
      }

  -- what a turn reads and adds
  pub record Fits (size cost p left : ℕ) : Type 0 where
    pub room : 4 * p + 3 < length fs
    pub within : p + get_or fs (4 * p) 0 ≤ length fs
    pub place_there : p < length cl
    pub small_size : size + get_or fs (4 * p) 0 ≤ total (column fs 0 place count)
    pub small_cost : cost + get_or fs (4 * p + 1) 0 ≤ total (column fs 1 place count)

  module _ {size cost depth symbol key p left : ℕ} (g : Gathering size cost depth symbol key p left) where
    pub fits : 0 < left → Fits size cost p left
    fits h =
        let s = sum_turn fs 0 place count g.sizes h in
        let k = walk_first fs cl p left g.keys.walk h in
        record {
          room = s.here.room;
          within = s.here.within;
          place_there = k.place;
          small_size = (let z : 4 * p + 0 ≡ 4 * p = omega arith in rw z at s.small);
          small_cost = (sum_turn fs 1 place count g.costs h).small;
        }

    pub gathering_turns :
        0 < left → (new d h : ℕ) → new ≡ mixed key (get_or cl p 0) → d ≡ max depth (get_or fs (4 * p + 2) 0) → h ≡ max symbol (get_or fs (4 * p + 3) 0)
        → Gathering (size + get_or fs (4 * p) 0) (cost + get_or fs (4 * p + 1) 0) d h new (p + get_or fs (4 * p) 0) (left - 1)
    gathering_turns l new d h e ed eh =
        let z : 4 * p + 0 ≡ 4 * p = omega arith in
        record {
          sizes = rw z at (sum_turn fs 0 place count g.sizes l).after;
          costs = (sum_turn fs 1 place count g.costs l).after;
          depths = rw ed (seek_turn fs 2 place count g.depths l).after;
          symbols = rw eh (seek_turn fs 3 place count g.symbols l).after;
          keys = key_turns fs cl g.keys l new e;
        }

    pub gathering_ends : left ≤ 0 → Together fs cl w place count size cost depth symbol key
    gathering_ends h =
        record {
          sizes = sum_end fs 0 place count g.sizes h;
          costs = sum_end fs 1 place count g.costs h;
          depths = seek_end fs 2 place count g.depths h;
          symbols = seek_end fs 3 place count g.symbols h;
          key = key_ends fs cl g.keys h;
        }
