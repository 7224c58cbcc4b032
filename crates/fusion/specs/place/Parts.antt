-- One scope on words after its rounds (01, "Reciprocals", "Scoped fusion"): what it holds, the groups of its switches as places, and its final trees by number.
-- Assumes nothing.
use Rattle.std.specs.Prelude.{ℕ, suc, ◌+◌, ◌*◌, List, [], ◌∷◌, ◌++◌, map, get_or, take, drop}
use Rattle.std.proofs.Math.ListN.{length}
use Rattle.spec_tree.specs.Tree.{Tree}
use Rattle.spec_tree.specs.Tokens.{word, tokens, all_tokens, read, numbered, kind_of}
use Rattle.words.specs.words.Words.{number}
use Rattle.spec_cse.specs.AnswerRows.{let_row, match_row, name_row}
use Rattle.laws.specs.positions.Places.{numbered_at}
use Rattle.laws.specs.positions.Rounds.{next_number}
use Rattle.reciprocals.proofs.bindings.Parts.{settle_tree, settled_reciprocals}
use Rattle.laws.specs.switches.Switches.{key_place, arm_count, switch_places}
use Rattle.laws.specs.switches.Groups.{group_numbers, member_places}
use Rattle.fusion.specs.Settled.{Step, fused_tree}
use Rattle.fusion.specs.Whole.{settled_roots}
use Rattle.fusion.specs.Switchless.{with_switches}
use Rattle.fusion.specs.Words.{steps_at}

-- ---- groups as lists of places

-- the groups of the switches of words, each as the places of its members
unfoldable pub place_groups : List ℕ → List (List ℕ)
unfolding member_places group_numbers switch_places
place_groups hs = map (member_places hs (switch_places hs)) (group_numbers hs (switch_places hs))

-- one after another
unfoldable pub joined_groups : List (List ℕ) → List ℕ
joined_groups [] = []
joined_groups (g ∷ l) = g ++ joined_groups l

-- where each ends in that list
unfoldable pub ends_from : ℕ → List (List ℕ) → List ℕ
ends_from n [] = []
ends_from n (g ∷ l) = (n + length g) ∷ ends_from (n + length g) l

-- of one of them: its places, where it begins among all members, and where it ends
unfoldable pub group_at : List (List ℕ) → ℕ → List ℕ
group_at gs g = get_or gs g []

unfoldable pub group_start : List (List ℕ) → ℕ → ℕ
unfolding joined_groups
group_start gs g = length (joined_groups (take g gs))

unfoldable pub group_end : List (List ℕ) → ℕ → ℕ
unfolding group_start
group_end gs g = group_start gs (suc g)

-- the place of a group's first member
unfoldable pub opener : List (List ℕ) → ℕ → ℕ
unfolding group_at
opener gs g = get_or (group_at gs g) 0 0

-- ---- what a scope holds

-- results, lets, and those reciprocals that hold a switch: the divisors stand at `places` of `ws`, and n is the number of the first one's reciprocal
unfoldable pub trees_held : List ℕ → ℕ → List ℕ → List Tree
unfolding read numbered_at with_switches
trees_held ws n places =
    let ds = map (numbered_at ws) places in
    map (settle_tree ds n) (read numbered ws) ++ with_switches (settled_reciprocals ds n)

unfoldable pub words_held : List ℕ → ℕ → List ℕ → List ℕ
unfolding trees_held all_tokens
words_held ws n places = all_tokens number (trees_held ws n places)

-- `ws` are the words that rounds leave, k results and then the bindings by number from `first` on, and the divisors to bind stand at `places`
module _ (ws : List ℕ) (k first : ℕ) (places : List ℕ) where
  -- the number of the first reciprocal
  unfoldable pub reciprocals_first : ℕ
  unfolding next_number read
  reciprocals_first = next_number k first (read numbered ws)

  -- how many lets there are, reciprocals among them
  unfoldable pub lets_count : ℕ
  unfolding read
  lets_count = length (drop k (read numbered ws)) + length places

  unfoldable pub held_words : List ℕ
  unfolding words_held reciprocals_first
  held_words = words_held ws reciprocals_first places

  -- results, lets and all reciprocals
  unfoldable pub settled_trees : List Tree
  unfolding settled_roots read numbered_at reciprocals_first
  settled_trees = settled_roots (map (numbered_at ws) places) reciprocals_first (read numbered ws)

-- ---- final trees, given what is held, its groups, and a number for each member

module _ (hs : List ℕ) (gs : List (List ℕ)) (numbers : List ℕ) where
  -- all members from number i on, in the order of the groups, with their numbers
  unfoldable pub steps_from : ℕ → List Step
  unfolding steps_at joined_groups
  steps_from i = steps_at hs (drop i (joined_groups gs)) (drop i numbers)

  -- the words of a tree with all members replaced
  unfoldable pub fused_run : Tree → List ℕ
  unfolding tokens fused_tree steps_from
  fused_run t = tokens number (fused_tree (steps_from 0) t)

  -- the words of a group's key, with the members of later groups replaced
  unfoldable pub key_run : ℕ → List ℕ
  unfolding tokens fused_tree steps_from group_end numbered_at key_place opener
  key_run g = tokens number (fused_tree (steps_from (group_end gs g)) (numbered_at hs (key_place (opener gs g))))

  -- the rows of a group's names
  unfoldable pub name_rows : List ℕ → List ℕ
  name_rows [] = []
  name_rows (n ∷ l) = word name_row (2 + 3 * n) ∷ name_rows l

  unfoldable pub names_run : ℕ → List ℕ
  unfolding name_rows group_at group_start
  names_run g = name_rows (take (length (group_at gs g)) (drop (group_start gs g) numbers))

  -- a match's row: its key, its names and its arms stand below it
  unfoldable pub match_head : ℕ → ℕ
  unfolding opener group_at arm_count
  match_head g = word (match_row (kind_of (get_or hs (opener gs g) 0))) (suc (length (group_at gs g) + arm_count hs (opener gs g)))

  -- a match's rows, given those of its arms
  unfoldable pub match_run : List ℕ → ℕ → List ℕ
  unfolding match_head key_run names_run
  match_run arms g = match_head g ∷ (key_run g ++ (names_run g ++ arms))

-- a let's rows, given those of its tree
unfoldable pub let_run : ℕ → List ℕ → List ℕ
let_run n run = word let_row (1 + 3 * n) ∷ run

-- a result's or an arm's value's, by the kind of row
unfoldable pub value_run : ℕ → List ℕ → List ℕ
value_run row run = word row 0 ∷ run
