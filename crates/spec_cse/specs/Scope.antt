-- `cse_scope` in both forms, `cse` and `cse_scoped` (01, "Scoped fusion"). Assumes nothing.
use Rattle.std.specs.Prelude.{ℕ, zero, suc, ◌+◌, ◌-◌, Bool, true, false, ◌&&◌, List, [], ◌∷◌, ◌++◌, length, eqb, leb}
use Rattle.spec_tree.specs.Outcome.{Outcome, ok, refused, by, ◌>>=◌}
use Rattle.spec_tree.specs.Tree.{Name, mname, Tree, Sym, Const, Op, nil, ◌◂◌, eq_tree, operands}
use Rattle.spec_tree.specs.Kinds.{is_switch}
use Rattle.spec_tree.specs.Facts.{outer, all_outer}
use Rattle.spec_tree.specs.Rows.{occurrences}
use Rattle.spec_rewrite.specs.Rewrite.{replace_outside_arms}
use Rattle.spec_cse.specs.Extract.{Binding, State, extract_all, reciprocals, distinct, roots}
use Rattle.spec_cse.specs.Answer.{Intermediate, Arms, Answer, Let, Match, no_arm, arm, block}
use Rattle.spec_cse.specs.Order.{topo_sort_intermediates}

-- ---- switches

-- A switch as collected: its kind, its key, and its arms, the default among them.
abbrev pub Switch : Type 0
Switch = record { tree : Tree; kind : ℕ; key : Tree; arms : List Tree }

-- the switches among some nodes, in order
unfoldable pub switches : List Tree → List Switch
unfolding operands
switches [] = []
switches (Sym n ∷ l) = switches l
switches (Const c ∷ l) = switches l
switches (Op k nil ∷ l) = switches l
switches (Op k (q ◂ f) ∷ l) =
    elim (is_switch k) [ true ↦ record { tree = Op k (q ◂ f); kind = k; key = q; arms = operands f } ∷ switches l | false ↦ switches l ]

-- `collect_switches`: those outside arms, each once. A switch stands before its key in reading order, and its key before what follows it.
unfoldable pub collect_switches : List Tree → List Switch
unfolding switches distinct all_outer
collect_switches rs = switches (distinct [] (all_outer rs))

-- ---- groups

abbrev pub Group : Type 0
Group = record { first : Switch; others : List Switch }

-- equal kind of switch, key, arm count and default
unfoldable pub joins : Switch → Switch → Bool
unfolding eq_tree
joins a b = eqb a.kind b.kind && (eq_tree a.key b.key && eqb (length a.arms) (length b.arms))

unfoldable pub place : Switch → List Group → List Group
unfolding joins
place s [] = record { first = s; others = [] } ∷ []
place s (g ∷ l) = elim (joins g.first s) [ true ↦ record { first = g.first; others = g.others ++ (s ∷ []) } ∷ l | false ↦ g ∷ place s l ]

unfoldable pub groups_from : List Group → List Switch → List Group
unfolding place
groups_from gs [] = gs
groups_from gs (s ∷ l) = groups_from (place s gs) l

unfoldable pub members : Group → List Switch
members g = g.first ∷ g.others

-- ---- replacing a group's members by its names

unfoldable pub replace_in_results : Tree → Name → List Tree → List Tree
unfolding replace_outside_arms
replace_in_results m n [] = []
replace_in_results m n (t ∷ l) = replace_outside_arms m n t ∷ replace_in_results m n l

-- of an earlier match only the key: its arms are done
unfoldable pub replace_in_stmts : Tree → Name → List Intermediate → List Intermediate
unfolding replace_outside_arms
replace_in_stmts m n [] = []
replace_in_stmts m n (Let a e ∷ l) = Let a (replace_outside_arms m n e) ∷ replace_in_stmts m n l
replace_in_stmts m n (Match k key ns arms ∷ l) = Match k (replace_outside_arms m n key) ns arms ∷ replace_in_stmts m n l

-- what fusion works on
abbrev pub Work : Type 0
Work = record { results : List Tree; inters : List Intermediate; next : ℕ; extracted : ℕ }

-- each member in turn by the next number
unfoldable pub name_members : List Switch → Work → Work
unfolding replace_in_results replace_in_stmts
name_members [] w = w
name_members (s ∷ l) w =
    let n = mname w.next in
    name_members l
    (record {
      results = replace_in_results s.tree n w.results;
      inters = replace_in_stmts s.tree n w.inters;
      next = suc w.next;
      extracted = w.extracted;
    })

unfoldable pub member_names : ℕ → List Switch → List Name
member_names i [] = []
member_names i (s ∷ l) = mname i ∷ member_names (suc i) l

-- ---- arms: the first arm of every member, then the second of every member, and so on

unfoldable pub first_arms : List (List Tree) → List Tree
first_arms [] = []
first_arms ([] ∷ l) = first_arms l
first_arms ((t ∷ ts) ∷ l) = t ∷ first_arms l

unfoldable pub rest_arms : List (List Tree) → List (List Tree)
rest_arms [] = []
rest_arms ([] ∷ l) = [] ∷ rest_arms l
rest_arms ((t ∷ ts) ∷ l) = ts ∷ rest_arms l

unfoldable pub columns : ℕ → List (List Tree) → List (List Tree)
unfolding first_arms rest_arms
columns zero l = []
columns (suc k) l = first_arms l ∷ columns k (rest_arms l)

unfoldable pub arms_of_members : List Switch → List (List Tree)
arms_of_members [] = []
arms_of_members (s ∷ l) = s.arms ∷ arms_of_members l

-- ---- a scope

-- what a scope gives: its statements and results, the next number, and how many bindings rounds made in it and in its arms
abbrev pub Scoped : Type 0
Scoped = record { inters : List Intermediate; results : List Tree; next : ℕ; extracted : ℕ }

abbrev pub Armed : Type 0
Armed = record { arms : Arms; next : ℕ; extracted : ℕ }

-- each column as a scope of its own, in order
unfoldable pub scope_arms : (ℕ → List Tree → Outcome Scoped) → ℕ → List (List Tree) → Outcome Armed
unfolding block
scope_arms scope next [] = ok (record { arms = no_arm; next = next; extracted = 0 })
scope_arms scope next (es ∷ l) =
    scope next es >>= λ a.
    scope_arms scope a.next l >>= λ r.
    ok (record { arms = arm (block a.inters) a.results r.arms; next = r.next; extracted = a.extracted + r.extracted })

-- one group: its names, the replacing, its arms, and its match at the end
unfoldable pub fuse_group : (ℕ → List Tree → Outcome Scoped) → Group → Work → Outcome Work
unfolding members name_members member_names scope_arms columns arms_of_members
fuse_group scope g w =
    let v = name_members (members g) w in
    scope_arms scope v.next (columns (length g.first.arms) (arms_of_members (members g))) >>= λ a.
    ok (record {
      results = v.results;
      inters = v.inters ++ (Match g.first.kind g.first.key (member_names w.next (members g)) a.arms ∷ []);
      next = a.next;
      extracted = v.extracted + a.extracted;
    })

unfoldable pub fuse_groups : (ℕ → List Tree → Outcome Scoped) → List Group → Work → Outcome Work
unfolding fuse_group
fuse_groups scope [] w = ok w
fuse_groups scope (g ∷ l) w = fuse_group scope g w >>= λ v. fuse_groups scope l v

unfoldable pub binds : List Binding → List Intermediate
binds [] = []
binds (b ∷ l) = Let b.name b.expr ∷ binds l

-- the bindings as statements, switches left in place
unfoldable pub unfused : ℕ → State → Work
unfolding binds
unfused x s = record { results = s.results; inters = binds s.lets; next = s.next; extracted = x }

unfoldable pub fuse_all : (ℕ → List Tree → Outcome Scoped) → ℕ → State → Outcome Work
unfolding fuse_groups groups_from collect_switches unfused roots
fuse_all scope x s = fuse_groups scope (groups_from [] (collect_switches (roots s))) (unfused x s)

-- the statements in order, or refusal 11
unfoldable pub finish : Work → Outcome Scoped
unfolding topo_sort_intermediates
finish w = topo_sort_intermediates w.inters >>= λ l. ok (record { inters = l; results = w.results; next = w.next; extracted = w.extracted })

-- ---- rows of the work area, and scopes within scopes

-- How many rows the work area has, a word of 64 bits each.
abbrev pub area_rows : ℕ
area_rows = 65536

-- How many scopes can be open at once: arms nest at most 8 deep, and each arm's scope stands inside its caller's.
unfoldable pub scopes_open : ℕ
scopes_open = 9

-- How many occurrences a scope may be given: so many that two texts of as many nodes fit the area's 131,072 bytes, 34 a node, since a scope ranks candidates and
-- divisors by text, two at a time.
unfoldable pub scope_rows : ℕ
scope_rows = 1927

-- How many switches outside arms a scope may have: so many that the places of as many in each open scope, and their numbers, are no more words than the area has.
unfoldable pub most_switches : ℕ
most_switches = 3640

-- How many statements can be put in the order of their needs: a bit for each two of them, and as many words of 64 bits as the area has.
unfoldable pub most_stmts : ℕ
most_stmts = 2048

-- The largest number that a scope may start with, far below what a word of 64 bits holds as a name's number.
abbrev pub most_number : ℕ
most_number = 2147483648

-- whether a scope may be opened in the rows that are left, from a number on: its input has a row for each occurrence, its texts fit, and its numbers fit their words
unfoldable pub opens : ℕ → ℕ → List Tree → Bool
unfolding occurrences scope_rows
opens left next es = leb (occurrences es) left && (leb (occurrences es) scope_rows && leb next most_number)

unfoldable pub some_switch : List Switch → Bool
some_switch [] = false
some_switch (s ∷ l) = true

-- a tree with a switch outside arms
unfoldable pub holds_switch : Tree → Bool
unfolding some_switch switches outer
holds_switch e = some_switch (switches (outer e))

-- Of a scope's bindings those that it holds while switches are fused: the first x, which rounds made, and of the others, the reciprocals, those with a switch
-- outside arms. Another reciprocal is made from its divisor when it is needed, and so has no row.
unfoldable pub held_bindings : ℕ → List Binding → List Tree
unfolding holds_switch
held_bindings x [] = []
held_bindings zero (b ∷ l) = elim (holds_switch b.expr) [ true ↦ b.expr ∷ held_bindings zero l | false ↦ held_bindings zero l ]
held_bindings (suc x) (b ∷ l) = b.expr ∷ held_bindings x l

-- and its results
unfoldable pub held : ℕ → State → List Tree
unfolding held_bindings
held x s = s.results ++ held_bindings x s.lets

-- how many of the rows that are left its arms' scopes have
unfoldable pub left_after : ℕ → ℕ → State → ℕ
unfolding held occurrences
left_after left x s = left - occurrences (held x s)

-- its statements: a let for each binding, and a match for each group of switches
unfoldable pub statements : State → ℕ
unfolding groups_from collect_switches roots
statements s = length s.lets + length (groups_from [] (collect_switches (roots s)))

-- whether a scope has room for what it holds in the rows that are left, for its switches, and for the order of its statements
unfoldable pub has_room : ℕ → ℕ → State → Bool
unfolding held occurrences collect_switches roots most_switches statements most_stmts
has_room left x s =
    leb (occurrences (held x s)) left && (leb (length (collect_switches (roots s))) most_switches && leb (statements s) most_stmts)

-- fusion and the order of statements, and refusal 23 where there is no room for them
unfoldable pub fuse_held : (ℕ → List Tree → Outcome Scoped) → ℕ → ℕ → State → Outcome Scoped
unfolding fuse_all finish has_room
fuse_held scope left x s =
    elim (has_room left x s) [
      | true ↦ (fuse_all scope x s >>= λ w. finish w)
      | false ↦ refused (by 23)
    ]

-- "an arm scope works in the part of the work area after its caller's last used row": `left` rows of it are left, and a scope's arms have those after what it holds.
-- Refusal 23, which 01 lacks, is for rows that are no longer left, for an input with more occurrences than can be ranked, for more switches or statements than can
-- be listed, and for numbers past 2^31. The flat form opens one scope, from number 0 on, and fuses nothing, so that it needs no such test. The first argument says
-- how many more scopes can be open; where it ends decides nothing for a list whose arms nest at most 8 deep (ScopeRoom).
unfoldable pub cse_scope : ℕ → ℕ → Bool → ℕ → List Tree → Outcome Scoped
unfolding extract_all reciprocals unfused left_after fuse_held finish opens
cse_scope zero left scoped next es = refused (by 23)
cse_scope (suc fuel) left false next es = extract_all false next es >>= λ s. finish (unfused (length s.lets) (reciprocals false s))
cse_scope (suc fuel) left true next es =
    elim (opens left next es) [
      | true ↦ (extract_all true next es >>= λ s.
          fuse_held (λ n l. cse_scope fuel (left_after left (length s.lets) (reciprocals true s)) true n l) left (length s.lets) (reciprocals true s))
      | false ↦ refused (by 23)
    ]

unfoldable pub as_answer : Scoped → Answer
unfolding block
as_answer a = record { inters = block a.inters; results = a.results; extracted = a.extracted }

-- the answer of `cse` (false) and of `cse_scoped` (true), or refusal 10, 11 or 23
unfoldable pub answer : Bool → List Tree → Outcome Answer
unfolding cse_scope scopes_open as_answer
answer scoped es = cse_scope scopes_open area_rows scoped 0 es >>= λ a. ok (as_answer a)
