-- Scoped fusion in settled form (01, "Scoped fusion"): which number each member of each group is named by, the arms' scopes in order, and each tree once, with all the
-- members replaced that come after it. Nothing is rewritten in between, so that no copies of the trees need be kept. Assumes nothing.
use Rattle.std.specs.Prelude.{ℕ, suc, ◌+◌, List, [], ◌∷◌, ◌++◌, map, length}
use Rattle.spec_tree.specs.Outcome.{Outcome, ok, ◌>>=◌}
use Rattle.spec_tree.specs.Tree.{mname, Tree}
use Rattle.spec_rewrite.specs.Rewrite.{replace_outside_arms}
use Rattle.spec_cse.specs.Answer.{Intermediate, Let, Match}
use Rattle.spec_cse.specs.Scope.{Switch, Group, members, member_names, columns, arms_of_members, Work, Scoped, Armed, scope_arms}

-- ---- one member after another replaced by its name

-- a member and the number of its name
abbrev pub Step : Type 0
Step = record { member : Tree; number : ℕ }

unfoldable pub fused_tree : List Step → Tree → Tree
unfolding replace_outside_arms
fused_tree [] t = t
fused_tree (s ∷ l) t = fused_tree l (replace_outside_arms s.member (mname s.number) t)

-- of a match only the key: its arms are done
unfoldable pub fused_stmt : List Step → Intermediate → Intermediate
unfolding fused_tree
fused_stmt l (Let n e) = Let n (fused_tree l e)
fused_stmt l (Match k key ns arms) = Match k (fused_tree l key) ns arms

-- the members of a group, numbered from n on
unfoldable pub member_steps : ℕ → List Switch → List Step
member_steps n [] = []
member_steps n (s ∷ l) = record { member = s.tree; number = n } ∷ member_steps (suc n) l

-- ---- the numbers of the groups

-- a group, the number of its first member's name, and what its arms' scopes gave
abbrev pub Numbered : Type 0
Numbered = record { group : Group; start : ℕ; armed : Armed }

-- the arms of a group's match, a column for each
unfoldable pub group_columns : Group → List (List Tree)
unfolding columns arms_of_members members
group_columns g = columns (length g.first.arms) (arms_of_members (members g))

abbrev pub Walked : Type 0
Walked = record { groups : List Numbered; next : ℕ; extracted : ℕ }

-- A group's members take the numbers from where it starts, and its arms' scopes those after them; the next group starts where they end. The first refusal of an
-- arm's scope stands.
unfoldable pub numbered_groups : (ℕ → List Tree → Outcome Scoped) → ℕ → List Group → Outcome Walked
unfolding members group_columns scope_arms
numbered_groups scope next [] = ok (record { groups = []; next = next; extracted = 0 })
numbered_groups scope next (g ∷ l) =
    scope_arms scope (next + length (members g)) (group_columns g) >>= λ a.
    numbered_groups scope a.next l >>= λ r.
    ok (record { groups = record { group = g; start = next; armed = a } ∷ r.groups; next = r.next; extracted = a.extracted + r.extracted })

-- ---- the settled form

unfoldable pub group_steps : Numbered → List Step
unfolding member_steps members
group_steps g = member_steps g.start (members g.group)

-- all members of all groups in order
unfoldable pub all_steps : List Numbered → List Step
unfolding group_steps
all_steps [] = []
all_steps (g ∷ l) = group_steps g ++ all_steps l

-- a group's match, its key with the members of the groups after it replaced
unfoldable pub group_match : Numbered → List Numbered → Intermediate
unfolding fused_tree all_steps member_names members
group_match g after =
    Match g.group.first.kind (fused_tree (all_steps after) g.group.first.key) (member_names g.start (members g.group)) g.armed.arms

unfoldable pub group_matches : List Numbered → List Intermediate
unfolding group_match
group_matches [] = []
group_matches (g ∷ l) = group_match g l ∷ group_matches l

-- what fusion makes of its work, once the groups are numbered
unfoldable pub settled_work : Work → Walked → Work
unfolding fused_tree fused_stmt all_steps group_matches
settled_work w l =
    record {
      results = map (fused_tree (all_steps l.groups)) w.results;
      inters = map (fused_stmt (all_steps l.groups)) w.inters ++ group_matches l.groups;
      next = l.next;
      extracted = w.extracted + l.extracted;
    }

unfoldable pub settled_groups : (ℕ → List Tree → Outcome Scoped) → List Group → Work → Outcome Work
unfolding numbered_groups settled_work
settled_groups scope gs w = numbered_groups scope w.next gs >>= λ l. ok (settled_work w l)
