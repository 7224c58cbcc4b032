-- What the parts of a scope are given (01, "Scoped fusion"): the room lent, words whose columns may be scopes, a scope's words with its groups, and its members
-- numbered. Assumes nothing.
use Rattle.std.specs.Prelude.{ℕ, suc, ◌+◌, ◌-◌, ◌≤◌, ◌<◌, ◌≡◌, List, true, length, get_or, take, drop, T, Option, Some, None}
use Rattle.std.proofs.Math.Option.{some}
use Rattle.spec_tree.specs.Outcome.{Outcome, ok, ◌>>=◌}
use Rattle.spec_tree.specs.Rows.{Row}
use Rattle.spec_tree.specs.Tokens.{read, numbered, trees_in, name_in}
use Rattle.laws.specs.positions.Names.{is_number, symbols_pass}
use Rattle.laws.specs.positions.Places.{divisors_to_bind}
use Rattle.laws.specs.positions.Rounds.{next_number}
use Rattle.rounds.specs.kept.Sound.{extractable}
use Rattle.topo_sort.specs.treelist.Starts.{starts_of}
use Rattle.reciprocals.specs.reciprocal.Bindings.{all_there}
use Rattle.laws.specs.switches.Switches.{arm_count, switch_places}
use Rattle.laws.specs.switches.Columns.{column_words}
use Rattle.fusion.specs.place.Parts.{place_groups, joined_groups, ends_from, group_at, group_start, reciprocals_first, held_words}
use Rattle.spec_cse.specs.Scope.{most_number}
use Rattle.fusion.specs.place.Whole.{Told, ArmsTold, Walk, arms_told, group_told, walked, ordered_scope, fused_scope, stmts_count}
use Rattle.cse_scoped.specs.one_scope.Answers.{told_rows, inner, arms_of, KeptSo}
use Rattle.cse_scoped.specs.declared.one_scope.Found.{Found}

-- the most rows: sums of them are words
abbrev pub most_rows : ℕ
most_rows = 9223372036854775808

-- no more words than the area has, some of them in use, and the text
pub record Lent (used : ℕ) (work text : List ℕ) : Type 0 where
  pub words : length work ≤ 65536
  pub inside : used ≤ length work
  pub bytes : 131072 ≤ length text

-- words whose columns may be scopes, with numbers from `next` on
pub record Holds (rows : List Row) (next : ℕ) (held : List ℕ) : Type 0 where
  pub good : T (extractable rows next held)
  pub pass : T (symbols_pass (is_number rows) held)
  pub few : length held ≤ 65536
  pub switches : length (switch_places held) ≤ 3640

-- some places are a group of the words'
pub record IsGroup (held group : List ℕ) : Type 0 where
  pub number : ℕ
  pub there : number < length (place_groups held)
  pub is : group ≡ group_at (place_groups held) number

-- an arm's rows, its own before those of its scope
abbrev pub ArmFits : List Row → ℕ → ℕ → List ℕ → List ℕ → ℕ → ℕ → ℕ → Type 0
ArmFits rows fuel left held group next a at = at + suc (told_rows (inner rows fuel left next (column_words held group a))) ≤ most_rows

-- each arm's rows after those of the arms before it
abbrev pub ArmsFit : List Row → ℕ → ℕ → List ℕ → List ℕ → ℕ → ℕ → Type 0
ArmsFit rows fuel left held group next at =
    (n : ℕ) (r : ArmsTold) → n < arm_count held (get_or group 0 0) → arms_told (inner rows fuel left) held group next n ≡ ok r
    → ArmFits rows fuel left held group r.next n (at + length r.words)

-- all members and where each group's end among them
pub record Members (held members ends : List ℕ) : Type 0 where
  pub members_are : members ≡ joined_groups (place_groups held)
  pub ends_are : ends ≡ ends_from 0 (place_groups held)

-- the outcome of all groups
unfoldable pub groups_told : List Row → ℕ → ℕ → ℕ → List ℕ → Outcome Walk
unfolding place_groups walked
groups_told rows fuel left next held = walked (inner rows fuel left) held (place_groups held) next (length (place_groups held))

-- a scope after its rounds, what it holds, and its groups: all that its parts are given but its members' numbers
pub record Ready (ws : List ℕ) (k first : ℕ) (places held starts members ends : List ℕ) : Type 0 where
  pub complete : trees_in ws ≡ some (length starts)
  pub enough : k ≤ length starts
  pub there : T (all_there ws places)
  pub few : length ws ≤ 1927
  pub low : first ≤ most_number
  pub held_is : held ≡ held_words ws k first places
  pub starts_are : starts ≡ take (length starts) (starts_of held)
  pub grouped : Members held members ends
  pub statements : (numbers : List ℕ) → stmts_count ws k first places numbers ≤ 2048
  pub last : first + ((length starts - k) + length places) ≡ reciprocals_first ws k first places + length places

-- the rest of the scope: its groups, and then its statements in order
unfoldable pub grouped_scope : List Row → ℕ → ℕ → ℕ → List ℕ → ℕ → ℕ → List ℕ → Outcome Told
unfolding groups_told held_words reciprocals_first ordered_scope
grouped_scope rows fuel left row ws k first places =
    groups_told rows fuel left (reciprocals_first ws k first places + length places) (held_words ws k first places) >>= λ l. ordered_scope row ws k first places l

-- the members' numbers, where each group's arms end among the rows of all, and these as far as they are kept
pub record Sized (rows : List Row) (fuel left next : ℕ) (held numbers stops kept : List ℕ) : Type 0 where
  pub walk : Walk
  pub told : groups_told rows fuel left next held ≡ ok walk
  pub numbers_are : numbers ≡ walk.numbers
  pub stops_are : stops ≡ ends_from 0 walk.arms
  pub kept_is : KeptSo walk.arms kept

-- and the next number and the extraction count after them
pub record Numbered (rows : List Row) (fuel left next : ℕ) (held numbers stops kept : List ℕ) (after extracted : ℕ) : Type 0 where
  pub sized : Sized rows fuel left next held numbers stops kept
  pub after_is : after ≡ sized.walk.next
  pub extracted_is : extracted ≡ sized.walk.extracted

-- the arms of group g, by the number of its first member
unfoldable pub group_again : List Row → ℕ → ℕ → List ℕ → List ℕ → ℕ → Outcome ArmsTold
unfolding group_told group_at group_start place_groups
group_again rows fuel left held numbers g = group_told (inner rows fuel left) held (group_at (place_groups held) g) (get_or numbers (group_start (place_groups held) g) 0)

-- they are done and this many rows, which stand in what is kept, if they all do, from a place on
pub record GroupSized (rows : List Row) (fuel left : ℕ) (held numbers : List ℕ) (g from size : ℕ) (kept : List ℕ) : Type 0 where
  pub arms : ArmsTold
  pub told : group_again rows fuel left held numbers g ≡ ok arms
  pub size_is : size ≡ length arms.words
  pub low : from + size ≤ most_rows
  pub here : from + size ≤ length kept → take size (drop from kept) ≡ arms.words

-- the rows of all groups' arms
unfoldable pub scope_arms : List Row → ℕ → ℕ → List ℕ → ℕ → ℕ → List ℕ → List (List ℕ)
unfolding arms_of groups_told reciprocals_first held_words
scope_arms rows fuel left ws k first places = arms_of (groups_told rows fuel left (reciprocals_first ws k first places + length places) (held_words ws k first places))

-- positions of statements
abbrev pub Positions : List ℕ → ℕ → Type 0
Positions taken count = (q : ℕ) → q < length taken → get_or taken q 0 < count

-- what rounds leave: k results and the bindings, and the divisors to bind
pub record Left (rows : List Row) (ws : List ℕ) (k first : ℕ) (places : List ℕ) : Type 0 where
  pub good : T (extractable rows (next_number k first (read numbered ws)) ws)
  pub pass : T (symbols_pass (is_number rows) ws)
  pub enough : k ≤ length (read numbered ws)
  pub places_are : places ≡ divisors_to_bind ws (name_in rows) true
  pub few : length ws ≤ 1927
  pub low : first ≤ most_number

-- the scope after its rounds in the rows that are left: its arms have those after what it holds
unfoldable pub left_scope : List Row → ℕ → ℕ → ℕ → List ℕ → ℕ → ℕ → List ℕ → Outcome Told
unfolding held_words fused_scope
left_scope rows fuel left row ws k first places = fused_scope (inner rows fuel (left - length (held_words ws k first places))) left row ws k first places

-- as many places as there are switches, or else as the most that there may be
pub record SwitchRoom (held places : List ℕ) : Type 0 where
  pub most : length places ≤ 3640
  pub over : length places < length (switch_places held) → 3640 < length (switch_places held)

-- and the same of all that a scope keeps of what it holds
pub record Room (held starts members ends numbers stops : List ℕ) : Type 0 where
  pub trees : length (starts_of held) ≤ length starts
  pub switches : SwitchRoom held numbers
  pub members_as : length members ≡ length numbers
  pub ends_as : length ends ≡ length numbers
  pub stops_over : length stops < length (place_groups held) → 2048 < length (place_groups held)

-- what the groups of words are put into
pub record GroupingSo (held : List ℕ) (m g : ℕ) (members ends : List ℕ) : Type 0 where
  pub members_are : take m members ≡ joined_groups (place_groups held)
  pub ends_are : take g ends ≡ ends_from 0 (place_groups held)
  pub members_in : m ≤ length members
  pub ends_in : g ≤ length ends

-- and that there are more switches than can be listed
abbrev pub FoundSo : List ℕ → Option Found → List ℕ → List ℕ → Type 0
FoundSo held (Some f) members ends = GroupingSo held f.members f.groups members ends
FoundSo held None members ends = 3640 < length (switch_places held)
