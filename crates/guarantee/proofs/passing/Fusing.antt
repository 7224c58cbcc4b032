-- Fusion keeps what 13 asks of statements and results but for the widths of arms, and arms nest no deeper than scopes (01, "Scoped fusion", "Turned down": 13). Assumes nothing.
use Prim.Native.Nat.{ℕ, zero, suc}
use native.Mathlib.Omega.{arith}
use mathlib.Core.Path.{◌≡◌, refl, sym, ◌∙◌, ap, subst}
use mathlib.Core.Bool.{Bool, true, false}
use mathlib.Core.List.{List, [], ◌∷◌, ◌++◌}
use lib.ListN.{length}
use lib.Dec.{T, leb, le→leb}
use Rattle.spec_tree.specs.Outcome.{Outcome, ok, refused, ◌>>=◌}
use Rattle.spec_tree.specs.Tree.{mname, Tree, Forest, Sym, Const, Op, nil, ◌◂◌, operands}
use Rattle.spec_tree.specs.Kinds.{is_switch, arity_ok}
use Rattle.spec_tree.specs.Facts.{all_outer}
use Rattle.spec_tree.proofs.Formed.{operand_count}
use Rattle.spec_rewrite.specs.Rewrite.{replace_outside_arms}
use Rattle.spec_cse.specs.Extract.{Binding, State, roots, extract_all, reciprocals, among, distinct}
use Rattle.spec_cse.specs.Answer.{Intermediate, Intermediates, Arms, Answer, Let, Match, end, step, no_arm, arm, block}
use Rattle.spec_cse.specs.Read.{arm_count}
use Rattle.spec_cse.specs.Order.{topo_sort_intermediates}
use Rattle.spec_cse.specs.AnswerRows.{let_name, match_names}
use Rattle.spec_cse.specs.Scope.{Switch, Group, Work, Scoped, Armed, switches, collect_switches, joins, place, groups_from, members, replace_in_results, replace_in_stmts, name_members, member_names, first_arms, rest_arms, columns, arms_of_members, scope_arms, fuse_group, fuse_groups, fuse_all, binds, unfused, finish, left_after, opens, area_rows, scopes_open, cse_scope, as_answer, answer}
use Rattle.laws.proofs.cse.Outcomes.{Good, then_good, good_ok, good_at}
use Rattle.laws.proofs.cse.SortCount.{Every, sorted_every}
use Rattle.laws.proofs.cse.SwitchLaws.{length_columns}
use Rattle.laws.proofs.cse.ScopeRoom.{or_no_room, or_not_held}
use Rattle.guarantee.proofs.passing.Trees.{Fits, FitsAll, kind_fits, operands_fit, head_fits, tail_fits, list_fits, all_outer_fit, outside_fits}
use Rattle.guarantee.proofs.passing.Steps.{OkLets, OkState, roots_fit, extract_all_ok, reciprocals_ok}
use Rattle.laws.proofs.cse.PassesLaws.{arity_of}

-- ---- what 13 asks, but for the widths of arms, with arms nested at most so deep

abbrev mutual
  pub OkStmt : Intermediate → ℕ → Type 0
  OkStmt (Let a e) n = T (let_name a) × Fits e
  OkStmt (Match k key ns arms) n =
      (T (is_switch k) × T (arity_ok k (suc (arm_count arms)))) × (Fits key × ((T (leb 1 (length ns)) × T (match_names ns)) × OkArms arms n))

  pub OkStmts : Intermediates → ℕ → Type 0
  OkStmts end n = Unit {0}
  OkStmts (step s l) n = OkStmt s n × OkStmts l n

  pub OkArms : Arms → ℕ → Type 0
  OkArms no_arm n = Unit {0}
  OkArms (arm s vs l) zero = ⊥
  OkArms (arm s vs l) (suc n) = (OkStmts s n × FitsAll vs) × OkArms l (suc n)

abbrev Oks : ℕ → List Intermediate → Type 0
Oks n l = Every (λ s. OkStmt s n) l

block_ok : (n : ℕ) (l : List Intermediate) → Oks n l → OkStmts (block l) n
unfolding block
block_ok n [] h = tt
block_ok n (s ∷ l) h = (h.0, block_ok n l h.1)

oks_append : (n : ℕ) (l : List Intermediate) (s : Intermediate) → Oks n l → OkStmt s n → Oks n (l ++ (s ∷ []))
oks_append n [] s h t = (t, tt)
oks_append n (u ∷ l) s h t = (h.0, oks_append n l s h.1 t)

-- ---- switches

-- a kind of switch, a key and arms such as print takes, and as many arms as the kind may have
abbrev OkSwitch : Switch → Type 0
OkSwitch s = (T (is_switch s.kind) × T (arity_ok s.kind (suc (length s.arms)))) × (Fits s.key × FitsAll s.arms)

abbrev OkSwitches : List Switch → Type 0
OkSwitches [] = Unit {0}
OkSwitches (s ∷ l) = OkSwitch s × OkSwitches l

distinct_fit : (seen l : List Tree) → FitsAll l → FitsAll (distinct seen l)
unfolding distinct
distinct_fit seen [] h = h
distinct_fit seen (t ∷ l) h = go (among t seen) (distinct_fit seen l h.1) (distinct_fit (t ∷ seen) l h.1)
  where
    go : (b : Bool) → FitsAll (distinct seen l) → FitsAll (distinct (t ∷ seen) l) → FitsAll (elim b [ true ↦ distinct seen l | false ↦ t ∷ distinct (t ∷ seen) l ])
    go true g k = g
    go false g k = (h.0, k)

operands_count : (f : Forest) → length (operands f) ≡ operand_count f
unfolding operands operand_count
operands_count nil = refl
operands_count (t ◂ f) = ap suc (operands_count f)

keyed_arity : (k : ℕ) (q : Tree) (f : Forest) → T (arity_ok k (operand_count (q ◂ f))) → T (arity_ok k (suc (length (operands f))))
unfolding operand_count
keyed_arity k q f h = subst (λ (n : ℕ). T (arity_ok k (suc n))) (sym (operands_count f)) h

switch_step :
    (k : ℕ) (q : Tree) (f : Forest) (l : List Switch) (b : Bool) → (T b → T (is_switch k)) → Fits (Op k (q ◂ f)) → OkSwitches l
    → OkSwitches (elim b [ true ↦ record { tree = Op k (q ◂ f); kind = k; key = q; arms = operands f } ∷ l | false ↦ l ])
switch_step k q f l true g w h = (
  ((g tt, keyed_arity k q f (arity_of k (operand_count (q ◂ f)) (kind_fits k (q ◂ f) w))), (head_fits q f (operands_fit k (q ◂ f) w), list_fits f (tail_fits q f (operands_fit k (q ◂ f) w)))),
  h,
)
switch_step k q f l false g w h = h

switches_ok : (l : List Tree) → FitsAll l → OkSwitches (switches l)
unfolding switches
switches_ok [] h = tt
switches_ok (Sym n ∷ l) h = switches_ok l h.1
switches_ok (Const c ∷ l) h = switches_ok l h.1
switches_ok (Op k nil ∷ l) h = switches_ok l h.1
switches_ok (Op k (q ◂ f) ∷ l) h =
    switch_step k q f (switches l) (is_switch k) (λ t. t) h.0 (switches_ok l h.1)

collected_ok : (rs : List Tree) → FitsAll rs → OkSwitches (collect_switches rs)
unfolding collect_switches
collected_ok rs h = switches_ok (distinct [] (all_outer rs)) (distinct_fit [] (all_outer rs) (all_outer_fit rs h))

-- ---- groups

abbrev OkGroup : Group → Type 0
OkGroup g = OkSwitch g.first × OkSwitches g.others

abbrev OkGroups : List Group → Type 0
OkGroups [] = Unit {0}
OkGroups (g ∷ l) = OkGroup g × OkGroups l

switches_append : (l : List Switch) (s : Switch) → OkSwitches l → OkSwitch s → OkSwitches (l ++ (s ∷ []))
switches_append [] s h p = (p, tt)
switches_append (a ∷ l) s h p = (h.0, switches_append l s h.1 p)

placed_ok : (s : Switch) (gs : List Group) → OkSwitch s → OkGroups gs → OkGroups (place s gs)
unfolding place
placed_ok s [] p h = ((p, tt), tt)
placed_ok s (g ∷ gs) p h = go (joins g.first s) (placed_ok s gs p h.1)
  where
    go : (b : Bool) → OkGroups (place s gs) → OkGroups (elim b [ true ↦ record { first = g.first; others = g.others ++ (s ∷ []) } ∷ gs | false ↦ g ∷ place s gs ])
    go true q = ((h.0.0, switches_append g.others s h.0.1 p), h.1)
    go false q = (h.0, q)

grouped_ok : (gs : List Group) (l : List Switch) → OkGroups gs → OkSwitches l → OkGroups (groups_from gs l)
unfolding groups_from
grouped_ok gs [] h f = h
grouped_ok gs (s ∷ l) h f = grouped_ok (place s gs) l (placed_ok s gs f.0 h) f.1

members_ok : (g : Group) → OkGroup g → OkSwitches (members g)
unfolding members
members_ok g h = h

-- ---- columns

abbrev FitLists : List (List Tree) → Type 0
FitLists [] = Unit {0}
FitLists (l ∷ ls) = FitsAll l × FitLists ls

first_fit : (ls : List (List Tree)) → FitLists ls → FitsAll (first_arms ls)
unfolding first_arms
first_fit [] h = tt
first_fit ([] ∷ ls) h = first_fit ls h.1
first_fit ((t ∷ ts) ∷ ls) h = (h.0.0, first_fit ls h.1)

rest_fit : (ls : List (List Tree)) → FitLists ls → FitLists (rest_arms ls)
unfolding rest_arms
rest_fit [] h = tt
rest_fit ([] ∷ ls) h = (h.0, rest_fit ls h.1)
rest_fit ((t ∷ ts) ∷ ls) h = (h.0.1, rest_fit ls h.1)

columns_fit : (n : ℕ) (ls : List (List Tree)) → FitLists ls → FitLists (columns n ls)
unfolding columns
columns_fit zero ls h = tt
columns_fit (suc n) ls h = (first_fit ls h, columns_fit n (rest_arms ls) (rest_fit ls h))

arms_fit : (l : List Switch) → OkSwitches l → FitLists (arms_of_members l)
unfolding arms_of_members
arms_fit [] h = tt
arms_fit (s ∷ l) h = (h.0.1.1, arms_fit l h.1)

-- ---- members replaced, and their names

member_named : (i : ℕ) (l : List Switch) → T (match_names (member_names i l))
unfolding match_names member_names
member_named i [] = tt
member_named i (s ∷ l) = member_named (suc i) l

one_named : (i : ℕ) (g : Group) → T (leb 1 (length (member_names i (members g))))
unfolding member_names members
one_named i g = le→leb 1 (suc (length (member_names (suc i) g.others))) (omega arith)

module _ (m : Tree) (i : ℕ) where
  results_replaced : (l : List Tree) → FitsAll l → FitsAll (replace_in_results m (mname i) l)
  unfolding replace_in_results
  results_replaced [] h = h
  results_replaced (t ∷ l) h = (outside_fits m i t h.0, results_replaced l h.1)

  stmts_replaced : (n : ℕ) (l : List Intermediate) → Oks n l → Oks n (replace_in_stmts m (mname i) l)
  unfolding replace_in_stmts
  stmts_replaced n [] h = tt
  stmts_replaced n (Let a e ∷ l) h = ((h.0.0, outside_fits m i e h.0.1), stmts_replaced n l h.1)
  stmts_replaced n (Match k key ns arms ∷ l) h = ((h.0.0, (outside_fits m i key h.0.1.0, h.0.1.1)), stmts_replaced n l h.1)

abbrev OkWork : ℕ → Work → Type 0
OkWork n w = FitsAll w.results × Oks n w.inters

abbrev OkScope : ℕ → Scoped → Type 0
OkScope n a = FitsAll a.results × Oks n a.inters

named_ok : (n : ℕ) (ms : List Switch) (w : Work) → OkWork n w → OkWork n (name_members ms w)
unfolding name_members
named_ok n [] w h = h
named_ok n (s ∷ ms) w h =
    named_ok n ms
    (record { results = replace_in_results s.tree (mname w.next) w.results; inters = replace_in_stmts s.tree (mname w.next) w.inters; next = suc w.next; extracted = w.extracted })
    (results_replaced s.tree w.next w.results h.0, stmts_replaced s.tree w.next n w.inters h.1)

-- ---- scopes

-- of a scope that so many more may stand in, itself counted
abbrev OkInner : ℕ → Scoped → Type 0
OkInner zero a = ⊥
OkInner (suc n) a = OkScope n a

-- as many arms as columns
abbrev OkArmed : ℕ → List (List Tree) → Armed → Type 0
OkArmed n ls a = OkArms a.arms n × (arm_count a.arms ≡ length ls)

one_more : (n : ℕ) (a : Scoped) (arms : Arms) → OkInner n a → OkArms arms n → OkArms (arm (block a.inters) a.results arms) n
one_more zero a arms g k = g
one_more (suc n) a arms g k = ((block_ok n a.inters g.1, g.0), k)

module _ (n : ℕ) (scope : ℕ → List Tree → Outcome Scoped) (fine : (i : ℕ) (es : List Tree) → FitsAll es → Good (OkInner n) (scope i es)) where
  armed_ok : (start : ℕ) (ls : List (List Tree)) → FitLists ls → Good (OkArmed n ls) (scope_arms scope start ls)
  unfolding scope_arms arm_count
  armed_ok start [] h = good_ok (OkArmed n []) (record { arms = no_arm; next = start; extracted = 0 }) (tt, refl)
  armed_ok start (es ∷ ls) h =
      then_good (OkInner n) (OkArmed n (es ∷ ls)) (scope start es) (fine start es h.0) _
      (λ a g. then_good (OkArmed n ls) (OkArmed n (es ∷ ls)) (scope_arms scope a.next ls) (armed_ok a.next ls h.1) _
      (λ r k. good_ok (OkArmed n (es ∷ ls)) _ (one_more n a r.arms g k.0, ap suc k.1)))

  group_ok : (g : Group) (w : Work) → OkGroup g → OkWork n w → Good (OkWork n) (fuse_group scope g w)
  unfolding fuse_group
  group_ok g w f h =
      let v = name_members (members g) w in
      let H = named_ok n (members g) w h in
      let c = length g.first.arms in
      let l = columns c (arms_of_members (members g)) in
      then_good (OkArmed n l) (OkWork n) (scope_arms scope v.next l) (armed_ok v.next l (columns_fit c (arms_of_members (members g)) (arms_fit (members g) (members_ok g f)))) _
      (λ a k. good_ok (OkWork n) _ (
        H.0,
        oks_append n v.inters (Match g.first.kind g.first.key (member_names w.next (members g)) a.arms) H.1 (
          (
            f.0.0.0,
            subst (λ (m : ℕ). T (arity_ok g.first.kind (suc m))) (sym (k.1 ∙ length_columns c (arms_of_members (members g)))) f.0.0.1,
          ),
          (f.0.1.0, ((one_named w.next g, member_named w.next (members g)), k.0)),
        ),
      ))

  groups_ok : (gs : List Group) (w : Work) → OkGroups gs → OkWork n w → Good (OkWork n) (fuse_groups scope gs w)
  unfolding fuse_groups
  groups_ok [] w f h = good_ok (OkWork n) w h
  groups_ok (g ∷ gs) w f h = then_good (OkWork n) (OkWork n) (fuse_group scope g w) (group_ok g w f.0 h) _ (λ v k. groups_ok gs v f.1 k)

binds_ok : (n : ℕ) (l : List Binding) → OkLets l → Oks n (binds l)
unfolding binds
binds_ok n [] h = tt
binds_ok n (b ∷ l) h = (h.0, binds_ok n l h.1)

begun_ok : (n x : ℕ) (s : State) → OkState s → OkWork n (unfused x s)
unfolding unfused
begun_ok n x s h = (h.0, binds_ok n s.lets h.1)

finish_ok : (n : ℕ) (w : Work) → OkWork n w → Good (OkScope n) (finish w)
unfolding finish
finish_ok n w h = go (topo_sort_intermediates w.inters) refl
  where
    go : (o : Outcome (List Intermediate)) → topo_sort_intermediates w.inters ≡ o → Good {A = Scoped} (OkScope n) (o >>= λ l. ok (record { inters = l; results = w.results; next = w.next; extracted = w.extracted }))
    go (ok l) e = good_ok (OkScope n) _ (h.0, sorted_every (λ s. OkStmt s n) w.inters l e h.1)
    go (refused i) e = (unfold Good in tt)

fused_ok :
    (n : ℕ) (scope : ℕ → List Tree → Outcome Scoped) → ((i : ℕ) (es : List Tree) → FitsAll es → Good (OkInner n) (scope i es)) → (x : ℕ) (s : State) → OkState s
    → Good (OkWork n) (fuse_all scope x s)
unfolding fuse_all
fused_ok n scope fine x s h =
    groups_ok n scope fine (groups_from [] (collect_switches (roots s))) (unfused x s)
    (grouped_ok [] (collect_switches (roots s)) tt (collected_ok (roots s) (roots_fit s h))) (begun_ok n x s h)

scope_ok : (fuel left : ℕ) (scoped : Bool) (next : ℕ) (es : List Tree) → FitsAll es → Good (OkInner fuel) (cse_scope fuel left scoped next es)
unfolding cse_scope
scope_ok zero left scoped next es h = (unfold Good in tt)
scope_ok (suc fuel) left false next es h =
    then_good OkState (OkScope fuel) (extract_all false next es) (extract_all_ok false next es h) _
    (λ s g. finish_ok fuel (unfused (length s.lets) (reciprocals false s)) (begun_ok fuel (length s.lets) (reciprocals false s) (reciprocals_ok false s g)))
scope_ok (suc fuel) left true next es h =
    or_no_room (Good (OkScope fuel)) (unfold Good in tt) (opens left next es) _
    (then_good OkState (OkScope fuel) (extract_all true next es) (extract_all_ok true next es h) _
    (λ s g.
    let m = left_after left (length s.lets) (reciprocals true s) in
    let inner : ℕ → List Tree → Outcome Scoped = λ n l. cse_scope fuel m true n l in
    or_not_held (Good (OkScope fuel)) (unfold Good in tt) inner left (length s.lets) (reciprocals true s)
    (then_good (OkWork fuel) (OkScope fuel) (fuse_all inner (length s.lets) (reciprocals true s))
    (fused_ok fuel inner (λ n l k. scope_ok fuel m true n l k) (length s.lets) (reciprocals true s) (reciprocals_ok true s g)) _ (λ w k. finish_ok fuel w k))))

abbrev OkAnswer : Answer → Type 0
OkAnswer a = OkStmts a.inters 8 × FitsAll a.results

-- both forms: nine scopes can be open, so arms nest at most 8 deep
pub answer_ok : (scoped : Bool) (es : List Tree) → FitsAll es → (a : Answer) → answer scoped es ≡ ok a → OkStmts a.inters 8 × FitsAll a.results
answer_ok scoped es f a e =
    good_at OkAnswer (answer scoped es) a e (unfold answer scopes_open in
    then_good (OkInner 9) OkAnswer (cse_scope 9 area_rows scoped 0 es) (scope_ok 9 area_rows scoped 0 es f) _ (λ b h. good_ok OkAnswer (as_answer b) (given b h)))
  where
    given : (b : Scoped) → OkScope 8 b → OkAnswer (as_answer b)
    given b h = (unfold as_answer in (block_ok 8 b.inters h.1, h.0))
