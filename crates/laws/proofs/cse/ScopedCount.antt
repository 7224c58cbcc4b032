-- The extraction count is that of the bindings that rounds made, in arms' own scopes too: all Lets of an answer but some, each of the form 1 / d, which the
-- reciprocal passes made (01, "Extraction"). Assumes nothing.
use Prim.Native.Nat.{ℕ, zero, suc, ◌+◌, ◌-◌, ◌≤◌}
use mathlib.Core.Path.{◌≡◌, refl, sym, ◌∙◌, ap, subst}
use mathlib.Core.Bool.{Bool, true, false}
use mathlib.Core.Logic.{◌⊎◌, inl, inr}
use mathlib.Core.Option.{Option, none, some}
use mathlib.Core.List.{List, [], ◌∷◌, ◌++◌}
use native.Mathlib.Omega.{arith}
use lib.IntN.{pos}
use lib.ListN.{length}
use lib.Dec.{T, eqb, eqb→eq}
use Rattle.spec_tree.specs.Outcome.{Outcome, ok, refused, ◌>>=◌}
use Rattle.spec_tree.specs.Tree.{Name, xname, mname, Tree, Forest, Sym, Const, Op, nil, ◌◂◌, eq_tree, eq_forest}
use Rattle.spec_tree.specs.Kinds.{Div, is_switch}
use Rattle.spec_tree.specs.Value.{values}
use Rattle.spec_tree.proofs.TreeLaws.{eq_tree_sound, eq_tree_refl}
use Rattle.spec_rewrite.specs.Rewrite.{replace_outside_arms}
use Rattle.spec_rewrite.proofs.Names.{holds_all, below, weaken_all}
use Rattle.spec_cse.specs.Extract.{Binding, State, roots, divisor_of, extract_all, replace_divisor_bound, bind_reciprocal, bind_reciprocals, reciprocals}
use Rattle.spec_cse.specs.Answer.{Intermediate, Intermediates, Arms, Answer, Let, Match, end, step, no_arm, arm, block}
use Rattle.spec_cse.specs.Order.{topo_sort_intermediates}
use Rattle.spec_cse.specs.Scope.{Switch, Group, Work, Scoped, Armed, members, collect_switches, groups_from, replace_in_stmts, name_members, member_names, columns, arms_of_members, scope_arms, fuse_group, fuse_groups, fuse_all, binds, unfused, finish, cse_scope, left_after, opens, area_rows, scopes_open, as_answer, answer}
use Rattle.laws.proofs.cse.Outcomes.{Good, then_good, good_ok, good_at}
use Rattle.laws.proofs.cse.RoundsCount.{made_before, below_made, length_append}
use Rattle.laws.proofs.cse.RoundsValue.{Model, Modeled, extract_all_keeps, reciprocals_keep, roots_known}
use Rattle.laws.proofs.cse.SortCount.{summed, sorted_sum}
use Rattle.laws.proofs.cse.ReciprocalsCount.{bound_divisors, summed_append, reciprocals_are}
use Rattle.laws.proofs.cse.FlatCount.{some_reading}
use Rattle.laws.proofs.cse.SwitchLaws.{Fair, FairGroup, FairGroups, groups_fair, AllLike, members_like, AllHold, group_columns_known}
use Rattle.laws.proofs.cse.ScopeRoom.{or_no_room, or_not_held}
use Rattle.laws.proofs.cse.ScopeValue.{under, under_le, under_below, one_named, name_members_later, hold_more}
use Rattle.laws.proofs.cse.ReciprocalBindings.{Inverse, Past, reciprocals_past}

-- ---- sums over the Lets of an answer, arms included

module _ (v : Tree → ℕ) where
  unfoldable mutual
    pub over_stmt : Intermediate → ℕ
    over_stmt (Let n e) = v e
    over_stmt (Match k key ns arms) = over_arms arms

    pub over_lets : Intermediates → ℕ
    over_lets end = 0
    over_lets (step s l) = over_stmt s + over_lets l

    pub over_arms : Arms → ℕ
    over_arms no_arm = 0
    over_arms (arm s vs l) = over_lets s + over_arms l

-- how many there are, and how many of the form 1 / d
abbrev pub each_one : Tree → ℕ
each_one e = 1

unfoldable pub inverse_one : Tree → ℕ
unfolding divisor_of eq_tree
inverse_one e = elim (divisor_of e) [ none ↦ 0 | some d ↦ elim (eq_tree e (Op Div (Const (pos 1) ◂ d ◂ nil))) [ true ↦ 1 | false ↦ 0 ] ]

inverse_counts : (d : Tree) → inverse_one (Op Div (Const (pos 1) ◂ d ◂ nil)) ≡ 1
unfolding inverse_one
inverse_counts d = go (eq_tree d d) (eq_tree_refl d)
  where
    go : (b : Bool) → T b → ◌≡◌ {A = ℕ} (elim (elim b as (λ _. Bool) [ true ↦ true | false ↦ false ]) [ true ↦ 1 | false ↦ 0 ]) 1
    go true t = refl
    go false t = absurd t

counted_inverse : (e : Tree) → (inverse_one e ≡ 0) ⊎ Inverse e
unfolding inverse_one
counted_inverse e = go (divisor_of e)
  where
    on : (d : Tree) (b : Bool) → (T b → e ≡ Op Div (Const (pos 1) ◂ d ◂ nil)) → (◌≡◌ {A = ℕ} (elim b [ true ↦ 1 | false ↦ 0 ]) 0) ⊎ Inverse e
    on d true f = inr (d, f tt)
    on d false f = inl refl

    go : (o : Option Tree) → (◌≡◌ {A = ℕ} (elim o [ none ↦ 0 | some d ↦ elim (eq_tree e (Op Div (Const (pos 1) ◂ d ◂ nil))) [ true ↦ 1 | false ↦ 0 ] ]) 0) ⊎ Inverse e
    go none = inl refl
    go (some d) = on d (eq_tree e (Op Div (Const (pos 1) ◂ d ◂ nil))) (eq_tree_sound e (Op Div (Const (pos 1) ◂ d ◂ nil)))

-- x extractions and some reciprocals
abbrev pub Tally : ℕ → ℕ → ℕ → Type 0
Tally x lets inverses = (r : ℕ) × (lets ≡ x + r) × (r ≤ inverses)

tally_add : (x y a b i j : ℕ) → Tally x a i → Tally y b j → Tally (x + y) (a + b) (i + j)
tally_add x y a b i j (r, e, h) (s, f, k) = (r + s, (omega arith), (omega arith))

tally_more : (x a i b j : ℕ) → Tally x a i → b ≡ a → i ≤ j → Tally x b j
tally_more x a i b j (r, e, h) q k = (r, (omega arith), (omega arith))

abbrev Tallied : ℕ → List Intermediate → Type 0
Tallied x l = Tally x (summed (over_stmt each_one) l) (summed (over_stmt inverse_one) l)

-- ---- a scope's bindings

binds_all : (l : List Binding) → summed (over_stmt each_one) (binds l) ≡ length l
unfolding summed binds over_stmt
binds_all [] = refl
binds_all (b ∷ l) = (let q = binds_all l in omega arith)

past_counts : (x : ℕ) (l : List Binding) → Past Inverse x l → length l ≤ x + summed (over_stmt inverse_one) (binds l)
unfolding summed binds over_stmt
past_counts x [] h = omega arith
past_counts zero (b ∷ l) h = (let q = past_counts zero l h.1 in let z = ap inverse_one h.0.1 ∙ inverse_counts h.0.0 in omega arith)
past_counts (suc x) (b ∷ l) h = (let q = past_counts x l h in omega arith)

divided_length : (d : Tree) (n : Name) (l : List Binding) → length (replace_divisor_bound d n l) ≡ length l
unfolding replace_divisor_bound
divided_length d n [] = refl
divided_length d n (b ∷ l) = ap suc (divided_length d n l)

reciprocal_longer : (d : Tree) (s : State) → length s.lets ≤ length (bind_reciprocal d s).lets
unfolding bind_reciprocal
reciprocal_longer d s =
    (let a = length_append (replace_divisor_bound d (xname s.next) s.lets) (record { name = xname s.next; expr = Op Div (Const (pos 1) ◂ d ◂ nil) } ∷ []) in
    let b = divided_length d (xname s.next) s.lets in
    omega arith)

each_longer : (ds : List Tree) (s : State) → length s.lets ≤ length (bind_reciprocals ds s).lets
unfolding bind_reciprocals
each_longer [] s = omega arith
each_longer (d ∷ ds) s = (let a = reciprocal_longer d s in let b = each_longer ds (bind_reciprocal d s) in omega arith)

begun : (scoped : Bool) (s : State) → T (holds_all (made_before s.next) (roots s)) → Tallied (length s.lets) (unfused (length s.lets) (reciprocals scoped s)).inters
unfolding unfused
begun scoped s h =
    let l = (reciprocals scoped s).lets in
    let a : length s.lets ≤ length l = subst (λ (u : State). length s.lets ≤ length u.lets) (sym (reciprocals_are scoped s)) (each_longer (bound_divisors scoped s) s) in
    let b = past_counts (length s.lets) l (reciprocals_past scoped s h) in
    let c = binds_all l in
    (length l - length s.lets, (omega arith), (omega arith))

-- ---- naming members: a Let of the form 1 / d stays one

division_kept :
    (k : ℕ) (f : Forest) (n : Name) (d : Tree) → (T (eqb Div k) → ⊥)
    → replace_outside_arms (Op k f) n (Op Div (Const (pos 1) ◂ d ◂ nil)) ≡ Op Div (Const (pos 1) ◂ replace_outside_arms (Op k f) n d ◂ nil)
unfolding replace_outside_arms eq_tree
division_kept k f n d g = go (eqb Div k) g
  where
    go : (b : Bool) → (T b → ⊥)
        → ◌≡◌ {A = Tree}
        (elim (elim b as (λ _. Bool) [ true ↦ eq_forest (Const (pos 1) ◂ d ◂ nil) f | false ↦ false ]) [
          | true ↦ Sym n
          | false ↦ Op Div (Const (pos 1) ◂ replace_outside_arms (Op k f) n d ◂ nil)
        ])
        (Op Div (Const (pos 1) ◂ replace_outside_arms (Op k f) n d ◂ nil))
    go true h = absurd (h tt)
    go false h = refl

module _ (m : Switch) (p : Name → Bool) (fair : Fair p m) (n : Name) where
  no_division : T (eqb Div m.kind) → ⊥
  no_division t = subst (λ (k : ℕ). T (is_switch k) → ⊥) (eqb→eq Div m.kind t) (λ s. s) fair.switch

  inverse_named : (d : Tree) → replace_outside_arms m.tree n (Op Div (Const (pos 1) ◂ d ◂ nil)) ≡ Op Div (Const (pos 1) ◂ replace_outside_arms m.tree n d ◂ nil)
  inverse_named d =
      subst (λ (t : Tree). replace_outside_arms t n (Op Div (Const (pos 1) ◂ d ◂ nil)) ≡ Op Div (Const (pos 1) ◂ replace_outside_arms t n d ◂ nil)) (sym fair.is)
      (division_kept m.kind (m.key ◂ fair.rest) n d no_division)

  let_named : (e : Tree) → inverse_one e ≤ inverse_one (replace_outside_arms m.tree n e)
  let_named e =
      elim (counted_inverse e) [
        | inl z ↦ omega arith
        | inr i ↦ (let a = ap inverse_one i.1 ∙ inverse_counts i.0 in
            let b = ap (λ (t : Tree). inverse_one (replace_outside_arms m.tree n t)) i.1 ∙ ap inverse_one (inverse_named i.0) ∙ inverse_counts (replace_outside_arms m.tree n i.0) in
            omega arith)
      ]

  stmts_named :
      (l : List Intermediate) → (summed (over_stmt each_one) (replace_in_stmts m.tree n l) ≡ summed (over_stmt each_one) l)
      × (summed (over_stmt inverse_one) l ≤ summed (over_stmt inverse_one) (replace_in_stmts m.tree n l))
  unfolding replace_in_stmts summed over_stmt
  stmts_named [] = (refl, omega arith)
  stmts_named (Let a e ∷ l) = (let q = stmts_named l in ((let u = q.0 in omega arith), (let u = q.1 in let c = let_named e in omega arith)))
  stmts_named (Match k key ns arms ∷ l) = (let q = stmts_named l in ((let u = q.0 in omega arith), (let u = q.1 in omega arith)))

members_named : (p : Name → Bool) (a : Switch) (ms : List Switch) → AllLike p a ms → (w : Work) → Tallied w.extracted w.inters
    → Tallied (name_members ms w).extracted (name_members ms w).inters
unfolding name_members
members_named p a [] h w t = t
members_named p a (m ∷ ms) h w t =
    let q = stmts_named m p h.0.fair (mname w.next) w.inters in
    members_named p a ms h.1 (one_named m w) (tally_more w.extracted _ _ _ _ t q.0 q.1)

-- ---- arms, groups, the end of a scope

block_sum : (v : Tree → ℕ) (l : List Intermediate) → over_lets v (block l) ≡ summed (over_stmt v) l
unfolding block over_lets summed
block_sum v [] = refl
block_sum v (s ∷ l) = ap (λ (m : ℕ). over_stmt v s + m) (block_sum v l)

abbrev ScopeTallied : ℕ → Scoped → Type 0
ScopeTallied start a = (start ≤ a.next) × Tallied a.extracted a.inters

abbrev ArmsTallied : ℕ → Armed → Type 0
ArmsTallied start a = (start ≤ a.next) × Tally a.extracted (over_arms each_one a.arms) (over_arms inverse_one a.arms)

abbrev WorkTallied : ℕ → Work → Type 0
WorkTallied low w = (low ≤ w.next) × Tallied w.extracted w.inters

module _ (scope : ℕ → List Tree → Outcome Scoped) (ih : (start : ℕ) (es : List Tree) → T (holds_all (under start) es) → Good (ScopeTallied start) (scope start es)) where
  arms_tallied : (start : ℕ) (ls : List (List Tree)) → AllHold (under start) ls → Good (ArmsTallied start) (scope_arms scope start ls)
  unfolding scope_arms over_arms
  arms_tallied start [] h = good_ok (ArmsTallied start) _ (omega arith, (0, refl, omega arith))
  arms_tallied start (es ∷ ls) h =
      then_good (ScopeTallied start) (ArmsTallied start) (scope start es) (ih start es h.0) _
      (λ a s. then_good (ArmsTallied a.next) (ArmsTallied start) (scope_arms scope a.next ls)
      (arms_tallied a.next ls (hold_more (under start) (under a.next) (under_le start a.next s.0) ls h.1)) _
      (λ r t. good_ok (ArmsTallied start) _ ((let x = s.0 in let y = t.0 in omega arith), added a r s.1 t.1)))
    where
      added : (a : Scoped) (r : Armed) → Tallied a.extracted a.inters → Tally r.extracted (over_arms each_one r.arms) (over_arms inverse_one r.arms)
          → Tally (a.extracted + r.extracted) (over_lets each_one (block a.inters) + over_arms each_one r.arms)
          (over_lets inverse_one (block a.inters) + over_arms inverse_one r.arms)
      added a r s t =
          tally_add a.extracted r.extracted _ _ _ _
          (tally_more a.extracted _ _ _ _ s (block_sum each_one a.inters) (let z = block_sum inverse_one a.inters in omega arith)) t

  group_tallied : (low : ℕ) (g : Group) (w : Work) → FairGroup (under low) g → WorkTallied low w → Good (WorkTallied low) (fuse_group scope g w)
  unfolding fuse_group
  group_tallied low g w f t =
      let v = name_members (members g) w in
      let later = name_members_later (members g) w in
      let named = members_named (under low) g.first (members g) (members_like (under low) g f) w t.1 in
      let l = columns (length g.first.arms) (arms_of_members (members g)) in
      then_good (ArmsTallied v.next) (WorkTallied low) (scope_arms scope v.next l)
      (arms_tallied v.next l (hold_more (under low) (under v.next) (under_le low v.next (let a = t.0 in omega arith)) l (group_columns_known (under low) g f))) _
      (λ a s. good_ok (WorkTallied low) _ (
        (let x = t.0 in let y = s.0 in omega arith),
        matched v.extracted v.inters g.first.kind g.first.key (member_names w.next (members g)) a named s.1,
      ))
    where
      matched : (x : ℕ) (l : List Intermediate) (k : ℕ) (key : Tree) (ns : List Name) (a : Armed) → Tallied x l
          → Tally a.extracted (over_arms each_one a.arms) (over_arms inverse_one a.arms) → Tallied (x + a.extracted) (l ++ (Match k key ns a.arms ∷ []))
      matched x l k key ns a s t =
          tally_more (x + a.extracted) _ _ _ _ (tally_add x a.extracted _ _ _ _ s t)
          (let q = summed_append (over_stmt each_one) l (Match k key ns a.arms ∷ []) in let z = last each_one k key ns a.arms in omega arith)
          (let q = summed_append (over_stmt inverse_one) l (Match k key ns a.arms ∷ []) in let z = last inverse_one k key ns a.arms in omega arith)
        where
          last : (v : Tree → ℕ) (k : ℕ) (key : Tree) (ns : List Name) (arms : Arms) → summed (over_stmt v) (Match k key ns arms ∷ []) ≡ over_arms v arms + 0
          last v k key ns arms = (unfold summed over_stmt in refl)

  groups_tallied : (low : ℕ) (gs : List Group) (w : Work) → FairGroups (under low) gs → WorkTallied low w → Good (WorkTallied low) (fuse_groups scope gs w)
  unfolding fuse_groups
  groups_tallied low [] w f t = good_ok (WorkTallied low) w t
  groups_tallied low (g ∷ gs) w f t = then_good (WorkTallied low) (WorkTallied low) (fuse_group scope g w) (group_tallied low g w f.0 t) _ (λ v s. groups_tallied low gs v f.1 s)

finish_tallied : (start : ℕ) (w : Work) → start ≤ w.next → Tallied w.extracted w.inters → Good (ScopeTallied start) (finish w)
unfolding finish
finish_tallied start w h t = go (topo_sort_intermediates w.inters) refl
  where
    go : (o : Outcome (List Intermediate)) → topo_sort_intermediates w.inters ≡ o
        → Good {A = Scoped} (ScopeTallied start) (o >>= λ l. ok (record { inters = l; results = w.results; next = w.next; extracted = w.extracted }))
    go (ok l) e =
        good_ok (ScopeTallied start) _
        (h, tally_more w.extracted _ _ _ _ t (sorted_sum (over_stmt each_one) w.inters l e) (let q = sorted_sum (over_stmt inverse_one) w.inters l e in omega arith))
    go (refused i) e = (unfold Good in tt)

-- ---- a scope

-- after the rounds, the names that a scope knows
abbrev pub Started : ℕ → List Tree → State → Type 0
Started start es s = Model some_reading (λ s. true) start (λ n. 0) (values some_reading (λ n. 0) es) s

pub started : (scoped : Bool) (start : ℕ) (es : List Tree) → T (holds_all (under start) es) → Good (Started start es) (extract_all scoped start es)
started scoped start es h = go (extract_all scoped start es) (extract_all_keeps some_reading (λ s. true) start (λ n. 0) scoped es h)
  where
    go : (o : Outcome State) → Modeled some_reading (λ s. true) start (λ n. 0) (values some_reading (λ n. 0) es) o → Good (Started start es) o
    go (ok s) m = (unfold Good Modeled in m)
    go (refused i) m = (unfold Good in tt)

begun_tallied :
    (scoped : Bool) (start : ℕ) (es : List Tree) (s : State) → Started start es s
    → (start ≤ (reciprocals scoped s).next) × Tallied (length s.lets) (unfused (length s.lets) (reciprocals scoped s)).inters
begun_tallied scoped start es s M =
    let vs = values some_reading (λ n. 0) es in (
      (reciprocals_keep some_reading (λ s. true) start (λ n. 0) vs scoped s M).later,
      begun scoped s (weaken_all (below (λ s. true) start s.next) (made_before s.next) (below_made (λ s. true) start s.next) (roots s) (roots_known some_reading (λ s. true) start (λ n. 0) vs s M)),
    )

fused_tallied :
    (scope : ℕ → List Tree → Outcome Scoped) (ih : (start : ℕ) (es : List Tree) → T (holds_all (under start) es) → Good (ScopeTallied start) (scope start es))
    (start : ℕ) (es : List Tree) (s : State) → Started start es s → Good (WorkTallied start) (fuse_all scope (length s.lets) (reciprocals true s))
unfolding fuse_all
fused_tallied scope ih start es s M =
    let vs = values some_reading (λ n. 0) es in
    let t = reciprocals true s in
    let N : Started start es t = reciprocals_keep some_reading (λ s. true) start (λ n. 0) vs true s M in
    let known = weaken_all (below (λ s. true) start t.next) (under t.next) (under_below (λ s. true) start t.next N.later) (roots t) (roots_known some_reading (λ s. true) start (λ n. 0) vs t N) in
    lower (fuse_groups scope (groups_from [] (collect_switches (roots t))) (unfused (length s.lets) t))
    (groups_tallied scope ih t.next (groups_from [] (collect_switches (roots t))) (unfused (length s.lets) t) (groups_fair (under t.next) (roots t) known)
    ((unfold unfused in omega arith), (begun_tallied true start es s M).1))
  where
    lower : (o : Outcome Work) → Good (WorkTallied (reciprocals true s).next) o → Good (WorkTallied start) o
    lower (ok w) h = (unfold Good in ((let a = h.0 in let b = (begun_tallied true start es s M).0 in omega arith), h.1))
    lower (refused i) h = (unfold Good in tt)

scope_tallied : (fuel left : ℕ) (scoped : Bool) (start : ℕ) (es : List Tree) → T (holds_all (under start) es) → Good (ScopeTallied start) (cse_scope fuel left scoped start es)
unfolding cse_scope
scope_tallied zero left scoped start es h = (unfold Good in tt)
scope_tallied (suc fuel) left false start es h =
    then_good (Started start es) (ScopeTallied start) (extract_all false start es) (started false start es h) _
    (λ s M. finish_tallied start (unfused (length s.lets) (reciprocals false s)) (unfold unfused in (begun_tallied false start es s M).0) (unfold unfused in (begun_tallied false start es s M).1))
scope_tallied (suc fuel) left true start es h =
    let inner : State → ℕ → List Tree → Outcome Scoped = λ s n l. cse_scope fuel (left_after left (length s.lets) (reciprocals true s)) true n l in
    or_no_room (Good (ScopeTallied start)) (unfold Good in tt) (opens left start es) _
    (then_good (Started start es) (ScopeTallied start) (extract_all true start es) (started true start es h) _
    (λ s M. or_not_held (Good (ScopeTallied start)) (unfold Good in tt) (inner s) left (length s.lets) (reciprocals true s)
    (then_good (WorkTallied start) (ScopeTallied start) (fuse_all (inner s) (length s.lets) (reciprocals true s))
    (fused_tallied (inner s) (λ n l g. scope_tallied fuel _ true n l g) start es s M) _ (λ w t. finish_tallied start w t.0 t.1))))

-- For a list that holds no name of an answer: the Lets of each answer, arms included, are as many as the extraction count and some more, and at least as many
-- as these are of the form 1 / d.
pub answer_counted :
    (scoped : Bool) (es : List Tree) → T (holds_all (under 0) es) → (a : Answer) → answer scoped es ≡ ok a
    → Tally a.extracted (over_lets each_one a.inters) (over_lets inverse_one a.inters)
answer_counted scoped es h a e =
    good_at OfAnswer (answer scoped es) a e (unfold answer in
    then_good (ScopeTallied 0) OfAnswer (cse_scope scopes_open area_rows scoped 0 es) (scope_tallied scopes_open area_rows scoped 0 es h) _
    (λ b t. good_ok OfAnswer (as_answer b) (given b t.1)))
  where
    OfAnswer : Answer → Type 0
    OfAnswer b = Tally b.extracted (over_lets each_one b.inters) (over_lets inverse_one b.inters)

    given : (b : Scoped) → Tallied b.extracted b.inters → OfAnswer (as_answer b)
    given b t =
        (unfold as_answer in
        tally_more b.extracted _ _ _ _ t (block_sum each_one b.inters) (let q = block_sum inverse_one b.inters in omega arith))
