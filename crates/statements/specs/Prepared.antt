-- What the parts of a scope are given once its arms are done, and what they give (01, "Scoped fusion", "Order"): what it holds, where its results and lets stand
-- there, the members of its groups and their numbers; the words of one tree; and the order of its statements. Assumes nothing.
use Rattle.std.specs.Prelude.{ℕ, zero, suc, ◌≤◌, ◌<◌, ◌≡◌, List, [], ◌∷◌, ◌++◌, map, length, get_or, take, T, eqb, ⊤, Result}
use Rattle.std.proofs.Math.Option.{some}
use Rattle.spec_tree.specs.Tree.{Op, nil}
use Rattle.spec_tree.specs.Facts.{size}
use Rattle.spec_tree.specs.Tokens.{tokens, read, numbered, trees_in}
use Rattle.words.specs.words.Words.{number, rewritten_words, Complete}
use Rattle.laws.specs.positions.Places.{numbered_at}
use Rattle.reciprocals.proofs.bindings.Parts.{settled_reciprocals, AllThere}
use Rattle.reciprocals.specs.reciprocal.Bindings.{all_there}
use Rattle.topo_sort.specs.treelist.Starts.{starts_of}
use Rattle.topo_sort.specs.Needs.{all_or_ring}
use Rattle.topo_sort.specs.declared.OrderError.{OrderError}
use Rattle.fusion.specs.Settled.{fused_tree}
use Rattle.fusion.specs.Words.{steps_at}
use Rattle.fusion.proofs.Switchless.{OfSwitches}
use Rattle.fusion.specs.place.Parts.{place_groups, joined_groups, ends_from, held_words, settled_trees, key_run, names_run, match_head}
use Rattle.fusion.specs.place.Reads.{all_arms_run}
use Rattle.fusion.specs.place.Whole.{stmts_count}

-- the largest number of a name
abbrev pub most : ℕ
most = 549755813888

-- No word of what rounds leave lacks an operand, k trees are results, a tree stands at each place; `held` is what the scope holds, its results and lets stand at
-- `starts` there, its members are those of the groups in order, `ends` says where each group ends among them, and each member has a number.
pub record Prepared (ws : List ℕ) (k first : ℕ) (places held starts members ends numbers : List ℕ) : Type 0 where
  pub complete : trees_in ws ≡ some (length starts)
  pub enough : k ≤ length starts
  pub there : T (all_there ws places)
  pub few : length ws ≤ 1927
  pub low : first ≤ 2147483648
  pub held_is : held ≡ held_words ws k first places
  pub short : length held ≤ 65536
  pub starts_are : starts ≡ take (length starts) (starts_of held)
  pub members_are : members ≡ joined_groups (place_groups held)
  pub ends_are : ends ≡ ends_from 0 (place_groups held)
  pub numbered : length numbers ≡ length members
  pub small : (i : ℕ) → i < length numbers → get_or numbers i 0 ≤ most
  pub statements : stmts_count ws k first places numbers ≤ 2048

-- the same where it doesn't matter how the ends are given
abbrev pub Readied : List ℕ → ℕ → ℕ → List ℕ → List ℕ → List ℕ → List ℕ → List ℕ → Type 0
Readied ws k first places held starts members numbers = (ends : List ℕ) × Prepared ws k first places held starts members ends numbers

-- The part of it that speaks of the groups only. Where `held` comes from isn't said, but that the tree at each of its places, a key too, has room where one tree has.
pub record Grouped (held members ends numbers : List ℕ) : Type 0 where
  pub complete : Complete held
  pub short : length held ≤ 65536
  pub members_are : members ≡ joined_groups (place_groups held)
  pub ends_are : ends ≡ ends_from 0 (place_groups held)
  pub numbered : length numbers ≡ length members
  pub small : (i : ℕ) → i < length numbers → get_or numbers i 0 ≤ most
  pub trees_small : (p : ℕ) → size (numbered_at held p) ≤ 1929

-- the tree at each place of some words has room in n words
abbrev pub Roomy : List ℕ → ℕ → Type 0
Roomy held n = (p : ℕ) → p < length held → size (numbered_at held p) ≤ n

-- ---- the words of one tree

-- the tree of number i among some words
unfoldable pub run_number : List ℕ → ℕ → List ℕ
unfolding tokens read
run_number ws i = tokens number (get_or (read numbered ws) i (Op 0 nil))

-- the reciprocal of number j, those of the divisors at the places numbered from n on
unfoldable pub reciprocal_run : List ℕ → List ℕ → ℕ → ℕ → List ℕ
unfolding tokens numbered_at
reciprocal_run ws places n j = tokens number (get_or (settled_reciprocals (map (numbered_at ws) places) n) j (Op 0 nil))

-- the tree of number i before members are replaced: results, lets, reciprocals
unfoldable pub settled_run : List ℕ → ℕ → ℕ → List ℕ → ℕ → List ℕ
unfolding tokens settled_trees
settled_run ws k first places i = tokens number (get_or (settled_trees ws k first places) i (Op 0 nil))

-- each member is there, a switch, and has a number
pub record Fusable (held members numbers : List ℕ) : Type 0 where
  pub there : AllThere held members
  pub switches : OfSwitches (steps_at held members numbers)
  pub numbered : length members ≤ length numbers
  pub small : (i : ℕ) → i < length members → get_or numbers i 0 ≤ most

-- words with the members replaced
unfoldable pub fused_by : List ℕ → List ℕ → List ℕ → List ℕ → List ℕ
unfolding rewritten_words fused_tree steps_at
fused_by held members numbers ws = rewritten_words (fused_tree (steps_at held members numbers)) ws

-- where group g begins among the members, given where groups end
unfoldable pub begin_of : List ℕ → ℕ → ℕ
begin_of ends zero = 0
begin_of ends (suc g) = get_or ends g 0

-- ---- statements

-- whether all are taken, or how many
unfoldable pub order_told : List ℕ → ℕ → Result ⊤ OrderError
order_told taken count = all_or_ring (eqb (length taken) count) (length taken)

-- what the match of a group reads: its key and all arms of its members
unfoldable pub match_reads : List ℕ → List (List ℕ) → List ℕ → ℕ → List ℕ
unfolding key_run all_arms_run
match_reads hs gs numbers g = key_run hs gs numbers g ++ all_arms_run hs (get_or gs g [])

-- the rows of a match before its arms
unfoldable pub head_run : List ℕ → List (List ℕ) → List ℕ → ℕ → List ℕ
unfolding match_head key_run names_run
head_run hs gs numbers g = match_head hs gs numbers g ∷ (key_run hs gs numbers g ++ names_run hs gs numbers g)
