-- What a scope, an arm, the arms of a match and the groups of a scope answer, and what they leave in the table, by cases (01, "Scoped fusion"). Assumes nothing.
use Rattle.std.specs.Prelude.{ℕ, ◌+◌, ◌≤◌, ◌<◌, ◌≡◌, List, [], ◌∷◌, length, take, Option, Some, None, Result, Ok, Err}
use Rattle.refusal.specs.declared.Refusal.{Refusal}
use Rattle.refusal.specs.Numbers.{number_of}
use Rattle.spec_tree.specs.Outcome.{Outcome, ok, refused, ◌>>=◌}
use Rattle.spec_tree.specs.Rows.{Row}
use Rattle.spec_tree.specs.Tokens.{word}
use Rattle.spec_cse.specs.AnswerRows.{arm_row, value_row}
use Rattle.laws.specs.switches.Switches.{switch_places}
use Rattle.laws.specs.switches.Columns.{column_words}
use Rattle.fusion.specs.place.Overlay.{overlay}
use Rattle.fusion.specs.place.Parts.{joined_groups, ends_from}
use Rattle.fusion.specs.place.Whole.{Told, ArmsTold, Walk, scope_told}
use Rattle.cse_scoped.specs.one_scope.Scoped.{Scoped}
use Rattle.cse_scoped.specs.one_scope.Scoped as scoped
use Rattle.cse_scoped.specs.one_scope.Armed.{Armed}
use Rattle.cse_scoped.specs.one_scope.Armed as armed
use Rattle.cse_scoped.specs.one_scope.Walked.{Walked}
use Rattle.cse_scoped.specs.one_scope.Walked as walked
use Rattle.cse_scoped.specs.declared.one_scope.ScopeRows.{ScopeRows}
use Rattle.cse_scoped.specs.declared.one_scope.ArmRows.{ArmRows}
use Rattle.cse_scoped.specs.declared.one_scope.GroupsWalked.{GroupsWalked}

-- ---- a scope

-- the place after its rows, its statements, the next number and the extraction count, or the number of the refusal
unfoldable pub scope_answer : Outcome Told → ℕ → Scoped
scope_answer (ok t) at = scoped.Told (at + length t.words) t.steps t.next t.extracted
scope_answer (refused i) at = scoped.Refused i.number

-- what the code answers, so told
abbrev pub scope_named : Result ScopeRows Refusal → Scoped
scope_named (Ok r) = scoped.Told r.end r.statements r.next r.extracted
scope_named (Err r) = scoped.Refused (number_of r)

-- Words laid over a table from a place on. What stands before them is as it was, and where all of them have room they stand there. Where they haven't, what is left from
-- that place on is free: nobody reads a table that its rows don't fit.
pub record Laid (at : ℕ) (ws old new : List ℕ) : Type 0 where
  pub long : length new ≡ length old
  pub front : take at new ≡ take at old
  pub all : at + length ws ≤ length old → new ≡ overlay at ws old

-- its rows laid over the table from a place on, or nothing written
abbrev pub ScopeLaid : Outcome Told → ℕ → List ℕ → List ℕ → Type 0
ScopeLaid (ok t) at old new = Laid at t.words old new
ScopeLaid (refused i) at old new = new ≡ old

-- how many rows it has
unfoldable pub told_rows : Outcome Told → ℕ
told_rows (ok t) = length t.words
told_rows (refused i) = 0

-- ---- arms

-- what an arm's scope gives in the rows that are left
abbrev pub inner : List Row → ℕ → ℕ → ℕ → List ℕ → Outcome Told
inner rows fuel left n cs = scope_told rows fuel left value_row n cs

-- one arm of a group
unfoldable pub arm_told : (ℕ → List ℕ → Outcome Told) → List ℕ → List ℕ → ℕ → ℕ → Outcome ArmsTold
unfolding column_words
arm_told scope hs g next a =
    scope next (column_words hs g a) >>= λ t.
    ok (record { words = word arm_row (t.steps + length g) ∷ t.words; next = t.next; extracted = t.extracted })

-- the place after the rows, the next number and the extraction count, or the number of the refusal
unfoldable pub arms_answer : Outcome ArmsTold → ℕ → Armed
arms_answer (ok t) at = armed.Rows (at + length t.words) t.next t.extracted
arms_answer (refused i) at = armed.Refused i.number

abbrev pub arms_named : Result ArmRows Refusal → Armed
arms_named (Ok r) = armed.Rows r.end r.next r.extracted
arms_named (Err r) = armed.Refused (number_of r)

-- the rows laid over the table; where arms are refused the table is free
abbrev pub ArmsWrote : Outcome ArmsTold → ℕ → List ℕ → List ℕ → Type 0
ArmsWrote (ok t) at old new = Laid at t.words old new
ArmsWrote (refused i) at old new = Unit {0}

-- ---- groups

-- the next number and the extraction count, or the number of the refusal
unfoldable pub walk_answer : Outcome Walk → Walked
walk_answer (ok l) = walked.Done l.next l.extracted
walk_answer (refused i) = walked.Refused i.number

abbrev pub walk_named : Result GroupsWalked Refusal → Walked
walk_named (Ok r) = walked.Done r.next r.extracted
walk_named (Err r) = walked.Refused (number_of r)

-- the rows of the first groups' arms stand in front, of as many groups as have room
abbrev pub KeptSo : List (List ℕ) → List ℕ → Type 0
KeptSo arms kept =
    (i : ℕ) → length (joined_groups (take i arms)) ≤ length kept → take (length (joined_groups (take i arms))) kept ≡ joined_groups (take i arms)

-- The numbers of all members stand in front, and so do the places where each group's arms end among the rows of all, which are kept. Where the groups are refused all
-- are free.
abbrev pub WalkWrote : Outcome Walk → List ℕ → List ℕ → List ℕ → Type 0
WalkWrote (ok l) numbers stops kept =
    (take (length l.numbers) numbers ≡ l.numbers) × (take (length l.arms) stops ≡ ends_from 0 l.arms) × KeptSo l.arms kept
WalkWrote (refused i) numbers stops kept = Unit {0}

-- the rows of the groups' arms
unfoldable pub arms_of : Outcome Walk → List (List ℕ)
arms_of (ok l) = l.arms
arms_of (refused i) = []

-- the rows of some arms
unfoldable pub words_of : Outcome ArmsTold → List ℕ
words_of (ok t) = t.words
words_of (refused i) = []

-- an arm's words stand in front of what is left, or are more than that, or than can be worked on
abbrev pub CopiedSo : List ℕ → Option ℕ → List ℕ → Type 0
CopiedSo cs (Some n) rest = (take n rest ≡ cs) × (n ≤ length rest) × (n ≤ 1927)
CopiedSo cs None rest = length cs ≤ 1927 → length rest < length cs

-- the switches of words stand in front, or are more than there are places
abbrev pub SwitchesSo : List ℕ → Option ℕ → List ℕ → Type 0
SwitchesSo held (Some n) places = (take n places ≡ switch_places held) × (n ≤ length places)
SwitchesSo held None places = length places < length (switch_places held)

-- what a scope holds in front, or more than are lent
abbrev pub HoldingSo : List ℕ → Option ℕ → List ℕ → Type 0
HoldingSo hs (Some n) held = (take n held ≡ hs) × (n ≤ length held)
HoldingSo hs None held = length held < length hs
