-- The number of open scopes. Fusion depends on the arms' scopes only by what it gives them, and that nests one level less; so that nine scopes can be open decides
-- nothing where arms nest at most 8 deep. Assumes nothing.
use Prim.Native.Nat.{ℕ, zero, suc, ◌+◌, ◌≤◌}
use mathlib.Core.Path.{◌≡◌, refl, sym, ◌∙◌, ap, fun_ext}
use mathlib.Core.Bool.{Bool, true, false, ◌&&◌, cond}
use mathlib.Core.List.{List, [], ◌∷◌, ◌++◌}
use native.Mathlib.Omega.{arith}
use lib.ListN.{length}
use lib.Dec.{T, leb, leb→le, le→leb}
use Rattle.spec_tree.specs.Outcome.{Outcome, ok, refused, by, ◌>>=◌}
use Rattle.spec_tree.specs.Tree.{Tree, Forest, Op, nil, ◌◂◌, fold, folds, operands}
use Rattle.spec_tree.specs.Kinds.{is_switch}
use Rattle.spec_tree.specs.Facts.{size, greatest, first_or_deeper, nesting, all_nodes}
use Rattle.spec_tree.specs.Rows.{occurrences, within_limits}
use Rattle.spec_tree.proofs.Logic.{and_left, and_right, and_both}
use Rattle.spec_cse.specs.Extract.{State, roots, extract_all, reciprocals}
use Rattle.spec_cse.specs.Answer.{Match, arm, block}
use Rattle.spec_cse.specs.Scope.{Group, Work, Scoped, Armed, members, member_names, collect_switches, groups_from, name_members, columns, arms_of_members, scope_arms, fuse_group, fuse_groups, fuse_all, finish, unfused, left_after, has_room, fuse_held, opens, scopes_open, area_rows, cse_scope, as_answer, answer}
use Rattle.laws.proofs.cse.Outcomes.{Good}
use Rattle.laws.proofs.cse.ReciprocalsCount.{AllTrees, all_map, divisors_all, inverse}
use Rattle.laws.proofs.cse.Levels.{trees_at, Most, μ, all_nodes_most, extract_all_within, reciprocals_within}
use Rattle.laws.proofs.cse.NestingLevel.{nesting_op, nesting_level, nesting_is, arms_deeper}
use Rattle.laws.proofs.cse.ArmNodes.{arms_total, AllArms, Groups, SmallGroups, some_small, Given, Columns, group_columns}
use Rattle.laws.proofs.cse.SwitchArms.{AllOperands, as_list, groups_all}

-- a fact of what a scope gives, where that it does not fit has it too
pub or_no_room : {A : Type 0} (P : Outcome A → Type 0) → P (refused (by 23)) → (fits : Bool) (o : Outcome A) → P o → P (elim fits [ true ↦ o | false ↦ refused (by 23) ])
or_no_room P h true o g = g
or_no_room P h false o g = h

-- the same for what a scope holds for fusion
pub or_not_held :
    (P : Outcome Scoped → Type 0) → P (refused (by 23)) → (scope : ℕ → List Tree → Outcome Scoped) (left x : ℕ) (s : State) → P (fuse_all scope x s >>= λ w. finish w)
    → P (fuse_held scope left x s)
unfolding fuse_held
or_not_held P h scope left x s g = or_no_room P h (has_room left x s) (fuse_all scope x s >>= λ w. finish w) g

-- ---- fusion depends on the arms' scopes only by what it gives them

then_ext : {A B : Type 0} (o : Outcome A) (f g : A → Outcome B) → ((a : A) → f a ≡ g a) → (o >>= f) ≡ (o >>= g)
then_ext o f g h = ap (λ k. o >>= k) (fun_ext h)

module _
    (P : Tree → Type 0) (N : ℕ) (scope other : ℕ → List Tree → Outcome Scoped)
    (same : (n : ℕ) (l : List Tree) → Given P N l → scope n l ≡ other n l)
  where
    arms_same : (next : ℕ) (ls : List (List Tree)) → Columns P N ls → scope_arms scope next ls ≡ scope_arms other next ls
    unfolding scope_arms
    arms_same next [] c = refl
    arms_same next (es ∷ ls) c =
        let put : Scoped → Armed → Outcome Armed = λ a r. ok (record { arms = arm (block a.inters) a.results r.arms; next = r.next; extracted = a.extracted + r.extracted }) in
        ap (λ (o : Outcome Scoped). o >>= λ a. scope_arms scope a.next ls >>= λ r. put a r) (same next es c.0)
        ∙ then_ext (other next es) (λ a. scope_arms scope a.next ls >>= λ r. put a r) (λ a. scope_arms other a.next ls >>= λ r. put a r)
        (λ a. ap (λ (o : Outcome Armed). o >>= λ r. put a r) (arms_same a.next ls c.1))

    group_same : (g : Group) (w : Work) → AllArms P (members g) → arms_total (members g) ≤ N → fuse_group scope g w ≡ fuse_group other g w
    unfolding fuse_group
    group_same g w h m =
        let v = name_members (members g) w in
        let l = columns (length g.first.arms) (arms_of_members (members g)) in
        let put : Armed → Outcome Work = λ a.
        ok (record {
          results = v.results;
          inters = v.inters ++ (Match g.first.kind g.first.key (member_names w.next (members g)) a.arms ∷ []);
          next = a.next;
          extracted = v.extracted + a.extracted;
        }) in
        ap (λ (o : Outcome Armed). o >>= λ a. put a) (arms_same v.next l (group_columns P N g h m))

    groups_same : (gs : List Group) (w : Work) → Groups P gs → SmallGroups N gs → fuse_groups scope gs w ≡ fuse_groups other gs w
    unfolding fuse_groups
    groups_same [] w h m = refl
    groups_same (g ∷ gs) w h m =
        ap (λ (o : Outcome Work). o >>= λ v. fuse_groups scope gs v) (group_same g w h.0 m.0)
        ∙ then_ext (fuse_group other g w) (λ v. fuse_groups scope gs v) (λ v. fuse_groups other gs v) (λ v. groups_same gs v h.1 m.1)

    pub fuse_same :
        (x : ℕ) (s : State) → Groups P (groups_from [] (collect_switches (roots s))) → SmallGroups N (groups_from [] (collect_switches (roots s))) → fuse_all scope x s ≡ fuse_all other x s
    unfolding fuse_all
    fuse_same x s h m = groups_same (groups_from [] (collect_switches (roots s))) (unfused x s) h m

-- ---- arms nest a level less

abbrev pub deep : Tree → ℕ
deep t = μ nesting_op nesting_level t

abbrev pub deeps : Forest → List ℕ
deeps f = folds (λ n. 0) (λ c. 0) nesting_op f

-- arms that nest less than D deep
abbrev Shallow : ℕ → Tree → Type 0
Shallow zero t = ⊥
Shallow (suc m) t = deep t ≤ m

pub most_down : (M N : ℕ) → M ≤ N → (ls : List ℕ) → Most M ls → Most N ls
most_down M N h [] g = tt
most_down M N h (l ∷ ls) g = ((let a = g.0 in omega arith), most_down M N h ls g.1)

-- a switch's arms
pub deeper_op : (m n : ℕ) (ls : List ℕ) (b : Bool) → T b → cond b (first_or_deeper (n ∷ ls)) (greatest (n ∷ ls)) ≤ m → first_or_deeper (n ∷ ls) ≤ m
deeper_op m n ls true t h = h
deeper_op m n ls false t h = absurd t

pub no_arms : (n l : ℕ) (ls : List ℕ) → first_or_deeper (n ∷ (l ∷ ls)) ≤ 0 → ⊥
unfolding first_or_deeper
no_arms n l ls h = omega arith

each_shallow : (m : ℕ) (f : Forest) → Most m (deeps f) → AllOperands (Shallow (suc m)) f
unfolding fold
each_shallow m nil d = tt
each_shallow m (t ◂ f) d = (d.0, each_shallow m f d.1)

operands_shallow : (m k : ℕ) (f : Forest) → Shallow (suc m) (Op k f) → AllOperands (Shallow (suc m)) f
unfolding fold
operands_shallow m k f d = each_shallow m f (most_down (nesting_op k (deeps f)) m d (deeps f) (nesting_level.parts k (deeps f)))

arms_shallow : (m k : ℕ) (q : Tree) (f : Forest) → T (is_switch k) → Shallow (suc m) (Op k (q ◂ f)) → AllTrees (Shallow m) (operands f)
unfolding fold
arms_shallow zero k q nil t d = (unfold operands in tt)
arms_shallow zero k q (a ◂ f) t d = absurd (no_arms (deep q) (deep a) (deeps f) (deeper_op 0 (deep q) (deep a ∷ deeps f) (is_switch k) t d))
arms_shallow (suc m) k q f t d =
    as_list (Shallow (suc m)) f (each_shallow m f (arms_deeper (suc m) (deep q) (deeps f) (deeper_op (suc m) (deep q) (deeps f) (is_switch k) t d) m refl))

inverse_deep : (m : ℕ) (d : Tree) → deep d ≤ m → deep (inverse d) ≤ m
unfolding inverse fold greatest
inverse_deep m d h = omega arith

-- neither rounds nor reciprocals deepen arms
pub reciprocals_deep : (m : ℕ) (s : State) → AllTrees (λ t. deep t ≤ m) (roots s) → AllTrees (λ t. deep t ≤ m) (roots (reciprocals true s))
reciprocals_deep m s h =
    reciprocals_within nesting_op nesting_level m true s
    (λ d c. inverse_deep m d (trees_at (λ t. deep t ≤ m) d (all_nodes (roots s)) (all_nodes_most nesting_op nesting_level m (roots s) h) (let q = divisors_all d (roots s) in omega arith))) h

-- ---- the number of scopes

module _
    (m : ℕ) (scope other : ℕ → List Tree → Outcome Scoped)
    (same : (n : ℕ) (l : List Tree) → AllTrees (Shallow m) l → 1 ≤ length l → scope n l ≡ other n l)
  where
    fused_same : (left x : ℕ) (s : State) → AllTrees (λ t. deep t ≤ m) (roots s) → fuse_held scope left x s ≡ fuse_held other left x s
    unfolding fuse_held
    fused_same left x s d =
        ap (λ (o : Outcome Work). elim (has_room left x s) as (λ _. Outcome Scoped) [ true ↦ (o >>= λ w. finish w) | false ↦ refused (by 23) ])
        (fuse_same (Shallow m) (arms_total (collect_switches (roots s))) scope other (λ n l G. same n l G.0 G.2) x s
        (groups_all (Shallow (suc m)) (Shallow m) (operands_shallow m) (arms_shallow m) (roots s) d) (some_small (roots s)))

-- the arms' scopes have what is left after a state
opened_same :
    (m : ℕ) (scope other : ℕ → ℕ → List Tree → Outcome Scoped)
    → ((left n : ℕ) (l : List Tree) → AllTrees (Shallow m) l → 1 ≤ length l → scope left n l ≡ other left n l)
    → (left : ℕ) (o : Outcome State) → Good (λ u. AllTrees (λ t. deep t ≤ m) (roots u)) o
    → (o >>= λ s. fuse_held (λ n l. scope (left_after left (length s.lets) (reciprocals true s)) n l) left (length s.lets) (reciprocals true s))
    ≡ (o >>= λ s. fuse_held (λ n l. other (left_after left (length s.lets) (reciprocals true s)) n l) left (length s.lets) (reciprocals true s))
unfolding Good
opened_same m scope other same left (ok s) d =
    let after = left_after left (length s.lets) (reciprocals true s) in
    fused_same m (λ n l. scope after n l) (λ n l. other after n l) (λ n l. same after n l) left (length s.lets) (reciprocals true s) (reciprocals_deep m s d)
opened_same m scope other same left (refused i) d = refl

-- Any two numbers above how deep arms nest give the same.
scopes_same :
    (D f g : ℕ) → D ≤ f → D ≤ g → (left next : ℕ) (es : List Tree) → AllTrees (Shallow D) es → 1 ≤ D + length es
    → cse_scope f left true next es ≡ cse_scope g left true next es
unfolding cse_scope
scopes_same zero f g p q left next [] h n = absurd (omega arith)
scopes_same zero f g p q left next (e ∷ es) h n = absurd h.0
scopes_same (suc m) zero g p q left next es h n = absurd (omega arith)
scopes_same (suc m) (suc f) zero p q left next es h n = absurd (omega arith)
scopes_same (suc m) (suc f) (suc g) p q left next es h n =
    ap (λ (o : Outcome Scoped). elim (opens left next es) as (λ _. Outcome Scoped) [ true ↦ o | false ↦ refused (by 23) ])
    (opened_same m (λ k n l. cse_scope f k true n l) (λ k n l. cse_scope g k true n l) (λ k n l H z. scopes_same m f g (omega arith) (omega arith) k n l H (omega arith)) left
    (extract_all true next es) (extract_all_within nesting_op nesting_level m true next es h))

pub nests_at_most : (m : ℕ) (l : List Tree) → AllTrees (λ t. nesting t ≤ m) l → AllTrees (λ t. deep t ≤ m) l
nests_at_most m l h = all_map (λ t. nesting t ≤ m) (λ t. deep t ≤ m) (λ t g. (let e = nesting_is t in omega arith)) l h

-- Where arms nest at most 8 deep, any number from nine on gives the same.
pub scopes_enough :
    (fuel : ℕ) → scopes_open ≤ fuel → (left : ℕ) (scoped : Bool) (next : ℕ) (es : List Tree) → AllTrees (λ t. nesting t ≤ 8) es
    → cse_scope fuel left scoped next es ≡ cse_scope scopes_open left scoped next es
unfolding scopes_open
scopes_enough zero h left scoped next es d = absurd (omega arith)
scopes_enough (suc fuel) h left false next es d = (unfold cse_scope in refl)
scopes_enough (suc fuel) h left true next es d = scopes_same 9 (suc fuel) 9 h (omega arith) left next es (nests_at_most 8 es d) (omega arith)

-- A scope in the rows that are left, without that number: it is refused by 23 where its input has more occurrences than these or than can be ranked, where its
-- numbers are past 2^31, or where it has no room for fusion, and else its arms' scopes are scopes in the same way, in the rows after what it holds.
abbrev pub scope_of : ℕ → ℕ → List Tree → Outcome Scoped
scope_of left next es = cse_scope scopes_open left true next es

pub scope_opens :
    (left next : ℕ) (es : List Tree) → AllTrees (λ t. nesting t ≤ 8) es
    → scope_of left next es
    ≡ elim (opens left next es) as (λ _. Outcome Scoped) [
      | true ↦ (extract_all true next es >>= λ s.
          fuse_held (λ n l. scope_of (left_after left (length s.lets) (reciprocals true s)) n l) left (length s.lets) (reciprocals true s))
      | false ↦ refused (by 23)
    ]
scope_opens left next es h = sym (scopes_enough (suc scopes_open) (omega arith) left true next es h) ∙ (unfold cse_scope in refl)

-- ---- the limits of a list (01, "Expressions and facts")

limits_step : (t : Tree) (l : List Tree) → T (within_limits (t ∷ l)) → (nesting t ≤ 8) × T (within_limits l)
unfolding within_limits occurrences
limits_step t l h =
    let a = leb→le (size t + occurrences l) 1024 (and_left (leb (size t + occurrences l) 1024) _ h) in
    let b = and_right (leb (size t + occurrences l) 1024) _ h in
    (leb→le (nesting t) 8 (and_left (leb (nesting t) 8) _ b), and_both (leb (occurrences l) 1024) _ (le→leb (occurrences l) 1024 (omega arith)) (and_right (leb (nesting t) 8) _ b))

pub limits_nesting : (l : List Tree) → T (within_limits l) → AllTrees (λ t. nesting t ≤ 8) l
limits_nesting [] h = tt
limits_nesting (t ∷ l) h = (let q = limits_step t l h in (q.0, limits_nesting l q.1))

pub limits_rows : (l : List Tree) → T (within_limits l) → occurrences l ≤ 1024
unfolding within_limits
limits_rows l h = leb→le (occurrences l) 1024 (and_left (leb (occurrences l) 1024) _ h)

-- For a list within the limits more than nine open scopes would change nothing, in the whole area.
pub answer_by_more : (fuel : ℕ) → scopes_open ≤ fuel → (scoped : Bool) (es : List Tree) → T (within_limits es) → answer scoped es ≡ (cse_scope fuel area_rows scoped 0 es >>= λ a. ok (as_answer a))
unfolding answer
answer_by_more fuel m scoped es h = ap (λ (o : Outcome Scoped). o >>= λ a. ok (as_answer a)) (sym (scopes_enough fuel m area_rows scoped 0 es (limits_nesting es h)))
