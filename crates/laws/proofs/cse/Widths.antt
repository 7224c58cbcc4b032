-- Each arm of a match has as many values as the match has names, in arms' own scopes too. Assumes nothing.
use Prim.Native.Nat.{ℕ, zero, suc}
use mathlib.Core.Path.{◌≡◌, refl, sym, ◌∙◌, ap, subst}
use mathlib.Core.Bool.{Bool, true, false, ◌&&◌}
use mathlib.Core.List.{List, [], ◌∷◌, ◌++◌}
use native.Mathlib.Omega.{arith}
use lib.ListN.{length}
use lib.Dec.{T, eqb, eqb_refl}
use Rattle.spec_tree.specs.Outcome.{Outcome, ok, refused, ◌>>=◌, each}
use Rattle.spec_tree.specs.Tree.{Name, xname, mname, Tree, Forest, Sym, Const, Op, nil, ◌◂◌}
use Rattle.spec_rewrite.specs.Rewrite.{replace}
use Rattle.spec_cse.specs.Extract.{Binding, State, roots, replace_bound, extract, extract_all, replace_divisor_each, bind_reciprocal, bind_reciprocals, reciprocals}
use Rattle.spec_cse.specs.Answer.{Intermediate, Intermediates, Arms, Answer, Let, Match, end, step, no_arm, arm, block}
use Rattle.spec_cse.specs.Order.{topo_sort_intermediates}
use Rattle.spec_cse.specs.Scope.{Switch, Group, Work, Scoped, Armed, members, collect_switches, groups_from, replace_in_results, replace_in_stmts, name_members, member_names, first_arms, rest_arms, columns, arms_of_members, scope_arms, fuse_group, fuse_groups, fuse_all, binds, unfused, finish, cse_scope, left_after, opens, area_rows, scopes_open, as_answer, answer}
use Rattle.spec_tree.proofs.Logic.{and_both}
use Rattle.spec_rewrite.proofs.Names.{holds, holds_each, holds_all}
use Rattle.laws.proofs.cse.SwitchLaws.{FairGroup, FairGroups, groups_fair, AllLike, members_like}
use Rattle.laws.proofs.cse.SortCount.{Every, sorted_every}
use Rattle.laws.proofs.cse.ReciprocalsCount.{bound_divisors, reciprocals_are}
use Rattle.laws.proofs.cse.ScopeRoom.{or_no_room, or_not_held}
use Rattle.laws.proofs.cse.RoundsGood.{extract_all_good}
use Rattle.laws.proofs.cse.RoundsCount.{begin}
use Rattle.laws.proofs.cse.Outcomes.{Good, then_good, any_good, good_ok, good_at}

-- ---- the law

unfoldable mutual
  pub even_stmt : Intermediate → Bool
  even_stmt (Let n e) = true
  even_stmt (Match k key ns arms) = even_arms (length ns) arms

  pub even_stmts : Intermediates → Bool
  even_stmts end = true
  even_stmts (step s l) = even_stmt s && even_stmts l

  pub even_arms : ℕ → Arms → Bool
  even_arms n no_arm = true
  even_arms n (arm s vs l) = eqb (length vs) n && (even_stmts s && even_arms n l)

-- ---- results, one for each expression

each_long : {A B : Type 0} (f : A → Outcome B) (l : List A) → Good (λ r. length r ≡ length l) (each f l)
unfolding each
each_long {A} {B} f [] = good_ok (λ (r : List B). length r ≡ 0) [] refl
each_long {A} {B} f (a ∷ l) =
    any_good (λ (r : List B). length r ≡ suc (length l)) (f a) _
    (λ b. then_good (λ (r : List B). length r ≡ length l) (λ (r : List B). length r ≡ suc (length l)) (each f l) (each_long f l) _
    (λ r h. good_ok (λ (q : List B). length q ≡ suc (length l)) (b ∷ r) (ap suc h)))

abbrev Long : ℕ → State → Type 0
Long m s = length s.results ≡ m

extract_long : (m : ℕ) (x : Tree) (s : State) → Long m s → Good (Long m) (extract x s)
unfolding extract
extract_long m x s h =
    then_good (λ (r : List Tree). length r ≡ length s.results) (Long m) (each (λ e. replace x (xname s.next) e) s.results) (each_long (λ e. replace x (xname s.next) e) s.results) _
    (λ rs g. any_good (Long m) (each (λ b. replace_bound x (xname s.next) b) s.lets) _
    (λ ls. good_ok (Long m) (record { results = rs; lets = ls ++ (record { name = xname s.next; expr = x } ∷ []); next = suc s.next }) (g ∙ h)))

extract_all_long : (scoped : Bool) (next : ℕ) (es : List Tree) → Good (Long (length es)) (extract_all scoped next es)
extract_all_long scoped next es =
    extract_all_good scoped (Long (length es)) (λ x s t c e h. good_at (Long (length es)) (extract x s) t e (extract_long (length es) x s h)) next es (unfold begin in refl)

pub divided_long : (d : Tree) (n : Name) (l : List Tree) → length (replace_divisor_each d n l) ≡ length l
unfolding replace_divisor_each
divided_long d n [] = refl
divided_long d n (t ∷ l) = ap suc (divided_long d n l)

reciprocal_each_long : (l : List Tree) (s : State) → length (bind_reciprocals l s).results ≡ length s.results
unfolding bind_reciprocals
reciprocal_each_long [] s = refl
reciprocal_each_long (d ∷ l) s = reciprocal_each_long l (bind_reciprocal d s) ∙ (unfold bind_reciprocal in divided_long d (xname s.next) s.results)

reciprocals_long : (scoped : Bool) (s : State) → length (reciprocals scoped s).results ≡ length s.results
reciprocals_long scoped s = subst (λ (u : State). length u.results ≡ length s.results) (sym (reciprocals_are scoped s)) (reciprocal_each_long (bound_divisors scoped s) s)

-- ---- columns, one value for each member

abbrev Wide : ℕ → List (List Tree) → Type 0
Wide n [] = Unit {0}
Wide n (l ∷ ls) = (length l ≡ n) × Wide n ls

first_wide : (n : ℕ) (ls : List (List Tree)) → Wide (suc n) ls → length (first_arms ls) ≡ length ls
unfolding first_arms
first_wide n [] h = refl
first_wide n ([] ∷ ls) h = (let e = h.0 in absurd (omega arith))
first_wide n ((t ∷ ts) ∷ ls) h = ap suc (first_wide n ls h.1)

rest_wide : (n : ℕ) (ls : List (List Tree)) → Wide (suc n) ls → Wide n (rest_arms ls) × (length (rest_arms ls) ≡ length ls)
unfolding rest_arms
rest_wide n [] h = (tt, refl)
rest_wide n ([] ∷ ls) h = (let e = h.0 in absurd (omega arith))
rest_wide n ((t ∷ ts) ∷ ls) h = (let q = rest_wide n ls h.1 in (((let e = h.0 in omega arith), q.0), ap suc q.1))

columns_wide : (n m : ℕ) (ls : List (List Tree)) → length ls ≡ m → Wide n ls → Wide m (columns n ls)
unfolding columns
columns_wide zero m ls e h = tt
columns_wide (suc n) m ls e h = (let q = rest_wide n ls h in (first_wide n ls h ∙ e, columns_wide n m (rest_arms ls) (q.1 ∙ e) q.0))

every_name : Name → Bool
every_name n = true

members_wide : (a : Switch) (l : List Switch) → AllLike every_name a l → Wide (length a.arms) (arms_of_members l) × (length (arms_of_members l) ≡ length l)
unfolding arms_of_members
members_wide a [] h = (tt, refl)
members_wide a (s ∷ l) h = (let q = members_wide a l h.1 in ((h.0.count, q.0), ap suc q.1))

pub member_names_long : (i : ℕ) (l : List Switch) → length (member_names i l) ≡ length l
unfolding member_names
member_names_long i [] = refl
member_names_long i (s ∷ l) = ap suc (member_names_long (suc i) l)

mutual
  unfolding holds every_name

  any_holds : (e : Tree) → T (holds every_name e)
  any_holds (Sym n) = tt
  any_holds (Const c) = tt
  any_holds (Op k f) = any_holds_each f

  any_holds_each : (f : Forest) → T (holds_each every_name f)
  any_holds_each nil = tt
  any_holds_each (t ◂ f) = and_both (holds every_name t) (holds_each every_name f) (any_holds t) (any_holds_each f)

any_holds_all : (l : List Tree) → T (holds_all every_name l)
unfolding holds_all
any_holds_all [] = tt
any_holds_all (t ∷ l) = and_both (holds every_name t) (holds_all every_name l) (any_holds t) (any_holds_all l)

-- ---- scopes

abbrev Evens : List Intermediate → Type 0
Evens l = Every (λ s. T (even_stmt s)) l

block_even : (l : List Intermediate) → Evens l → T (even_stmts (block l))
unfolding block even_stmts
block_even [] h = tt
block_even (s ∷ l) h = and_both (even_stmt s) (even_stmts (block l)) h.0 (block_even l h.1)

evens_append : (l : List Intermediate) (s : Intermediate) → Evens l → T (even_stmt s) → Evens (l ++ (s ∷ []))
evens_append [] s h t = (t, tt)
evens_append (u ∷ l) s h t = (h.0, evens_append l s h.1 t)

abbrev EvenWork : ℕ → Work → Type 0
EvenWork m w = (length w.results ≡ m) × Evens w.inters

abbrev EvenScope : ℕ → Scoped → Type 0
EvenScope m a = (length a.results ≡ m) × Evens a.inters

results_long : (m : Tree) (n : Name) (l : List Tree) → length (replace_in_results m n l) ≡ length l
unfolding replace_in_results
results_long m n [] = refl
results_long m n (t ∷ l) = ap suc (results_long m n l)

stmts_even : (m : Tree) (n : Name) (l : List Intermediate) → Evens l → Evens (replace_in_stmts m n l)
unfolding replace_in_stmts even_stmts
stmts_even m n [] h = tt
stmts_even m n (Let a e ∷ l) h = (tt, stmts_even m n l h.1)
stmts_even m n (Match k key ns arms ∷ l) h = (h.0, stmts_even m n l h.1)

named_even : (m : ℕ) (ms : List Switch) (w : Work) → EvenWork m w → EvenWork m (name_members ms w)
unfolding name_members
named_even m [] w h = h
named_even m (s ∷ ms) w h =
    named_even m ms
    (record { results = replace_in_results s.tree (mname w.next) w.results; inters = replace_in_stmts s.tree (mname w.next) w.inters; next = suc w.next; extracted = w.extracted })
    (results_long s.tree (mname w.next) w.results ∙ h.0, stmts_even s.tree (mname w.next) w.inters h.1)

module _ (scope : ℕ → List Tree → Outcome Scoped) (even : (n : ℕ) (es : List Tree) → Good (EvenScope (length es)) (scope n es)) where
  arms_even : (m start : ℕ) (ls : List (List Tree)) → Wide m ls → Good (λ (a : Armed). T (even_arms m a.arms)) (scope_arms scope start ls)
  unfolding scope_arms
  arms_even m start [] h = good_ok (λ (a : Armed). T (even_arms m a.arms)) _ (unfold even_stmts in tt)
  arms_even m start (es ∷ ls) h =
      then_good (EvenScope (length es)) (λ (a : Armed). T (even_arms m a.arms)) (scope start es) (even start es) _
      (λ a g. then_good (λ (a : Armed). T (even_arms m a.arms)) (λ (a : Armed). T (even_arms m a.arms)) (scope_arms scope a.next ls) (arms_even m a.next ls h.1) _
      (λ r k. good_ok (λ (a : Armed). T (even_arms m a.arms)) _ (added m es a r h.0 g k)))
    where
      added : (m : ℕ) (es : List Tree) (a : Scoped) (r : Armed) → length es ≡ m → EvenScope (length es) a → T (even_arms m r.arms) → T (even_arms m (arm (block a.inters) a.results r.arms))
      added m es a r e g k =
          (unfold even_stmts in
          and_both (eqb (length a.results) m) (even_stmts (block a.inters) && even_arms m r.arms)
          (subst (λ (n : ℕ). T (eqb (length a.results) n)) (g.0 ∙ e) (eqb_refl (length a.results)))
          (and_both (even_stmts (block a.inters)) (even_arms m r.arms) (block_even a.inters g.1) k))

  group_even : (m : ℕ) (g : Group) (w : Work) → FairGroup every_name g → EvenWork m w → Good (EvenWork m) (fuse_group scope g w)
  unfolding fuse_group
  group_even m g w f h =
      let v = name_members (members g) w in
      let H = named_even m (members g) w h in
      let M = members_wide g.first (members g) (members_like every_name g f) in
      let l = columns (length g.first.arms) (arms_of_members (members g)) in
      let n : length (member_names w.next (members g)) ≡ length (members g) = member_names_long w.next (members g) in
      then_good (λ (a : Armed). T (even_arms (length (members g)) a.arms)) (EvenWork m) (scope_arms scope v.next l)
      (arms_even (length (members g)) v.next l (columns_wide (length g.first.arms) (length (members g)) (arms_of_members (members g)) M.1 M.0)) _
      (λ a k. good_ok (EvenWork m) _ (
        H.0,
        evens_append v.inters (Match g.first.kind g.first.key (member_names w.next (members g)) a.arms) H.1
            (matched g.first.kind g.first.key (member_names w.next (members g)) a.arms (length (members g)) n k),
      ))
    where
      matched : (k : ℕ) (key : Tree) (ns : List Name) (arms : Arms) (j : ℕ) → length ns ≡ j → T (even_arms j arms) → T (even_stmt (Match k key ns arms))
      matched k key ns arms j e t = (unfold even_stmts in subst (λ (i : ℕ). T (even_arms i arms)) (sym e) t)

  groups_even : (m : ℕ) (gs : List Group) (w : Work) → FairGroups every_name gs → EvenWork m w → Good (EvenWork m) (fuse_groups scope gs w)
  unfolding fuse_groups
  groups_even m [] w f h = good_ok (EvenWork m) w h
  groups_even m (g ∷ gs) w f h = then_good (EvenWork m) (EvenWork m) (fuse_group scope g w) (group_even m g w f.0 h) _ (λ v k. groups_even m gs v f.1 k)

binds_even : (l : List Binding) → Evens (binds l)
unfolding binds even_stmts
binds_even [] = tt
binds_even (b ∷ l) = (tt, binds_even l)

begun_even : (m x : ℕ) (s : State) → length s.results ≡ m → EvenWork m (unfused x s)
unfolding unfused
begun_even m x s h = (h, binds_even s.lets)

finish_even : (m : ℕ) (w : Work) → EvenWork m w → Good (EvenScope m) (finish w)
unfolding finish
finish_even m w h = go (topo_sort_intermediates w.inters) refl
  where
    go : (o : Outcome (List Intermediate)) → topo_sort_intermediates w.inters ≡ o → Good {A = Scoped} (EvenScope m) (o >>= λ l. ok (record { inters = l; results = w.results; next = w.next; extracted = w.extracted }))
    go (ok l) e = good_ok (EvenScope m) _ (h.0, sorted_every (λ s. T (even_stmt s)) w.inters l e h.1)
    go (refused i) e = (unfold Good in tt)

scope_even : (fuel left : ℕ) (scoped : Bool) (next : ℕ) (es : List Tree) → Good (EvenScope (length es)) (cse_scope fuel left scoped next es)
unfolding cse_scope
scope_even zero left scoped next es = (unfold Good in tt)
scope_even (suc fuel) left false next es =
    then_good (Long (length es)) (EvenScope (length es)) (extract_all false next es) (extract_all_long false next es) _
    (λ s h. finish_even (length es) (unfused (length s.lets) (reciprocals false s)) (begun_even (length es) (length s.lets) (reciprocals false s) (reciprocals_long false s ∙ h)))
scope_even (suc fuel) left true next es =
    let inner : State → ℕ → List Tree → Outcome Scoped = λ s n l. cse_scope fuel (left_after left (length s.lets) (reciprocals true s)) true n l in
    or_no_room (Good (EvenScope (length es))) (unfold Good in tt) (opens left next es) _
    (then_good (Long (length es)) (EvenScope (length es)) (extract_all true next es) (extract_all_long true next es) _
    (λ s h. or_not_held (Good (EvenScope (length es))) (unfold Good in tt) (inner s) left (length s.lets) (reciprocals true s)
    (then_good (EvenWork (length es)) (EvenScope (length es)) (fuse_all (inner s) (length s.lets) (reciprocals true s))
    (fused s h (inner s) (λ n l. scope_even fuel _ true n l)) _ (λ w k. finish_even (length es) w k))))
  where
    fused : (s : State) → Long (length es) s → (scope : ℕ → List Tree → Outcome Scoped) → ((n : ℕ) (es : List Tree) → Good (EvenScope (length es)) (scope n es))
        → Good (EvenWork (length es)) (fuse_all scope (length s.lets) (reciprocals true s))
    fused s h scope even =
        let t = reciprocals true s in
        (unfold fuse_all in
        groups_even scope even (length es) (groups_from [] (collect_switches (roots t))) (unfused (length s.lets) t) (groups_fair every_name (roots t) (any_holds_all (roots t)))
        (begun_even (length es) (length s.lets) t (reciprocals_long true s ∙ h)))

-- In each answer each arm of a match has as many values as the match has names, and there are as many results as expressions.
pub answer_even : (scoped : Bool) (es : List Tree) (a : Answer) → answer scoped es ≡ ok a → T (even_stmts a.inters) × (length a.results ≡ length es)
answer_even scoped es a e =
    good_at (λ (b : Answer). T (even_stmts b.inters) × (length b.results ≡ length es)) (answer scoped es) a e (unfold answer in
    then_good (EvenScope (length es)) (λ (b : Answer). T (even_stmts b.inters) × (length b.results ≡ length es)) (cse_scope scopes_open area_rows scoped 0 es) (scope_even scopes_open area_rows scoped 0 es) _
    (λ b h. good_ok (λ (b : Answer). T (even_stmts b.inters) × (length b.results ≡ length es)) (as_answer b) (given b h)))
  where
    given : (b : Scoped) → EvenScope (length es) b → T (even_stmts (as_answer b).inters) × (length (as_answer b).results ≡ length es)
    given b h = (unfold as_answer in (block_even b.inters h.1, h.0))
