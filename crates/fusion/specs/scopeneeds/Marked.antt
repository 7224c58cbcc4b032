-- What the marking of all arms of some switches answers and leaves, by cases (01, "Order"). Assumes nothing.
use Rattle.std.specs.Prelude.{ℕ, ◌+◌, ◌-◌, Bool, true, ◌&&◌, cond, List, [], ◌∷◌, length, leb, ltb}
use Rattle.spec_tree.specs.Tokens.{trees_in}
use Rattle.words.specs.words.Words.{some_trees}
use Rattle.laws.specs.switches.Switches.{switch_at}
use Rattle.words.specs.bits.Bits.{with_yes}
use Rattle.fusion.specs.place.Reads.{place_of, group_of, with_reads, all_arms_run}

-- the table with the let of number n marked, where it is one of the scope's
unfoldable pub with_let : ℕ → ℕ → ℕ → ℕ → List ℕ → List ℕ
unfolding with_yes
with_let first lets n row table = cond (leb first n && ltb n (first + lets)) (with_yes table row (n - first)) table

-- the table with the match of number n marked, where it is one of the scope's
unfoldable pub with_match : ℕ → List ℕ → List ℕ → ℕ → ℕ → List ℕ → List ℕ
unfolding with_yes place_of group_of
with_match lets numbers ends n row table = cond (ltb (place_of n 0 numbers) (length numbers)) (with_yes table row (lets + group_of (place_of n 0 numbers) 0 ends)) table

-- whether a place is a switch's among words
unfoldable pub switch_inside : List ℕ → ℕ → Bool
unfolding switch_at
switch_inside ws q = ltb q (length ws) && switch_at ws q

-- whether each of some places is
unfoldable pub all_switches : List ℕ → List ℕ → Bool
unfolding switch_inside
all_switches ws [] = true
all_switches ws (q ∷ l) = switch_inside ws q && all_switches ws l

-- whether no word lacks an operand and each place is a switch's
unfoldable pub arms_there : List ℕ → List ℕ → Bool
unfolding some_trees trees_in all_switches
arms_there ws group = some_trees (trees_in ws) && all_switches ws group

-- the table with the reads of all arms marked, as it was where they aren't there
unfoldable pub arms_marked : ℕ → ℕ → List ℕ → List ℕ → List ℕ → List ℕ → ℕ → List ℕ → List ℕ
unfolding arms_there with_reads all_arms_run
arms_marked first lets numbers ends ws group row table = cond (arms_there ws group) (with_reads first lets numbers ends (all_arms_run ws group) row table) table
