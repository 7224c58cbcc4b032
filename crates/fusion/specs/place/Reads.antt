-- Which statements of a scope a statement needs, as a table of bits (01, "Order"): lets and reciprocals by number come first, then the matches of the groups.
-- Assumes nothing.
use Rattle.std.specs.Prelude.{ℕ, zero, suc, ◌+◌, ◌-◌, ◌/◌, ◌%◌, true, false, ◌&&◌, length, drop, eqb, leb}
use Rattle.std.proofs.Math.Bool.{cond}
use mathlib.Core.List.{List, [], ◌∷◌, ◌++◌}
use Rattle.std.proofs.Math.ListN.{take}
use Rattle.std.proofs.Math.Dec.{ltb}
use Rattle.spec_tree.specs.Facts.{size}
use Rattle.laws.specs.positions.Places.{numbered_at, second_at}
use Rattle.words.specs.bits.Bits.{with_yes}

-- where a number first stands among some, the first of which is number i; past them where it doesn't
unfoldable pub place_of : ℕ → ℕ → List ℕ → ℕ
place_of n i [] = i
place_of n i (m ∷ l) = elim (eqb m n) [ true ↦ i | false ↦ place_of n (suc i) l ]

-- the group that number i of all members is in: the first, from g on, whose end it is before
unfoldable pub group_of : ℕ → ℕ → List ℕ → ℕ
group_of i g [] = g
group_of i g (e ∷ l) = elim (ltb i e) [ true ↦ g | false ↦ group_of i (suc g) l ]

module _ (first lets : ℕ) (numbers ends : List ℕ) where
  -- The table with the place made yes of the statement that binds a word's name: `__xN` by its number, `__mN` by its group. As it was where the word is no name of
  -- this scope's.
  unfoldable pub with_read : ℕ → ℕ → List ℕ → List ℕ
  unfolding with_yes place_of group_of
  with_read w row table =
      cond (eqb (w % 192) 64 && (leb first (w / 192) && ltb (w / 192) (first + lets))) (with_yes table row (w / 192 - first))
      (cond (eqb (w % 192) 128 && ltb (place_of (w / 192) 0 numbers) (length numbers)) (with_yes table row (lets + group_of (place_of (w / 192) 0 numbers) 0 ends)) table)

  unfoldable pub with_reads : List ℕ → ℕ → List ℕ → List ℕ
  unfolding with_read
  with_reads [] row table = table
  with_reads (w ∷ ws) row table = with_reads ws row (with_read w row table)

-- the words of all arms of the switches at some places
module _ (hs : List ℕ) where
  unfoldable pub arms_run : ℕ → List ℕ
  unfolding size numbered_at second_at
  arms_run q = take (q + size (numbered_at hs q) - second_at hs q) (drop (second_at hs q) hs)

  unfoldable pub all_arms_run : List ℕ → List ℕ
  unfolding arms_run
  all_arms_run [] = []
  all_arms_run (q ∷ l) = arms_run q ++ all_arms_run l

-- the needs of the first n statements, given the words that each reads
unfoldable pub marks_by : (ℕ → ℕ → List ℕ → List ℕ) → ℕ → List ℕ → List ℕ
marks_by mark zero table = table
marks_by mark (suc n) table = mark n n (marks_by mark n table)
