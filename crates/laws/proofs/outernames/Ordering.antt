-- The needs of a scope's statements from their expressions, their keys and the inputs of their arms alone: the arms' answers decide nothing (01, "Order",
-- "Scoped fusion"). A name that a statement of the scope binds is never one that an arm's scope makes. Assumes nothing.
use Prim.Native.Nat.{ℕ, suc, ◌+◌, ◌≤◌}
use native.Mathlib.Omega.{arith}
use mathlib.Core.Path.{◌≡◌, refl, sym, ◌∙◌, ap, ap₂, subst}
use mathlib.Core.Logic.{◌⊎◌, inl, inr}
use mathlib.Core.Bool.{Bool, true, false, ◌||◌}
use mathlib.Core.List.{List, [], ◌∷◌, ◌++◌, append_assoc, append-nil}
use lib.Dec.{T}
use Rattle.spec_tree.specs.Outcome.{Outcome, ok, refused, ◌>>=◌}
use Rattle.spec_tree.specs.Tree.{Name, Tree}
use Rattle.spec_rewrite.proofs.Counts.{well_formed_all}
use Rattle.spec_rewrite.proofs.Names.{holds_all}
use Rattle.spec_cse.specs.Extract.{Binding, State, roots}
use Rattle.spec_cse.specs.Answer.{Intermediate, Arms, Let, Match, names, symbols, free, free_arms, elem}
use Rattle.spec_cse.specs.Order.{meets, needs_from, needs}
use Rattle.spec_cse.specs.Scope.{Switch, Group, Work, Scoped, Armed, members, collect_switches, groups_from, replace_in_stmts, name_members, member_names, scope_arms, fuse_group, fuse_groups, fuse_all, binds, unfused}
use Rattle.laws.proofs.cse.Outcomes.{Good, then_good, good_ok, good_at}
use Rattle.laws.proofs.cse.Symbols.{elem_here, elem_later, elem_left, elem_right, elem_append, Sub, sub_append, all_names}
use Rattle.laws.proofs.cse.SwitchLaws.{FairGroups, groups_fair, AllHold, group_columns_known}
use Rattle.laws.proofs.cse.ScopeValue.{under, under_le, names_to_come, all_names_append, one_named, names_kept, name_members_later, names_made, hold_more}
use Rattle.laws.proofs.outernames.Rounds.{Begun}
use Rattle.laws.proofs.outernames.Switches.{group_columns}
use Rattle.laws.proofs.outernames.Arms.{elem_or, column_symbols, SameNames, SameArms, Outside, arms_elem_any, free_match}
use Rattle.laws.proofs.outernames.Matches.{Shaped, AllShaped, groups_shaped, arms_are}

-- ---- needs from what is read

-- the rows of needs of statements that read these names
unfoldable pub needs_of : List Intermediate → List (List Name) → List (List ℕ)
unfolding needs_from
needs_of all [] = []
needs_of all (r ∷ l) = needs_from 0 r all ∷ needs_of all l

-- what statements read, each match with the inputs of its group's arms in place of its arms
unfoldable pub read_before : List Intermediate → List Group → List (List Name)
unfolding symbols column_symbols free
read_before [] gs = []
read_before (Let n e ∷ l) gs = symbols e ∷ read_before l gs
read_before (Match k key ns arms ∷ l) [] = free (Match k key ns arms) ∷ read_before l []
read_before (Match k key ns arms ∷ l) (g ∷ gs) = (symbols key ++ column_symbols (group_columns g)) ∷ read_before l gs

pub meets_same : (ns s t : List Name) → ((n : Name) → T (elem n ns) → elem n s ≡ elem n t) → meets ns s ≡ meets ns t
unfolding meets
meets_same [] s t f = refl
meets_same (n ∷ ns) s t f =
    ap₂ (λ (b c : Bool). elim b as (λ _. Bool) [ true ↦ true | false ↦ c ]) (f n (elem_here n ns)) (meets_same ns s t (λ m u. f m (elem_later m n ns u)))

pub needs_same : (i : ℕ) (s t : List Name) (l : List Intermediate) → ((n : Name) → T (elem n (all_names l)) → elem n s ≡ elem n t) → needs_from i s l ≡ needs_from i t l
unfolding needs_from all_names
needs_same i s t [] f = refl
needs_same i s t (x ∷ l) f =
    ap₂ (λ (b : Bool) (r : List ℕ). elim b as (λ _. List ℕ) [ true ↦ i ∷ r | false ↦ r ]) (meets_same (names x) s t (λ n u. f n (elem_left n (names x) (all_names l) u)))
    (needs_same (suc i) s t l (λ n u. f n (elem_right n (names x) (all_names l) u)))

-- ---- the ranges of numbers that arms' scopes take

-- arms whose scopes took the numbers from `low` up to `high`; none of the names is one of these
record Range (top : ℕ) (ns : List Name) (arms : Arms) (cols : List (List Tree)) : Type 0 where
  low : ℕ
  high : ℕ
  within : high ≤ top
  same : (n : Name) → Outside low high n → elem n (free_arms arms) ≡ elem n (column_symbols cols)
  clear : (n : Name) → T (elem n ns) → Outside low high n

-- for each match that of its group
abbrev Ranged : ℕ → List Name → List Intermediate → List Group → Type 0
Ranged top ns [] [] = Unit {0}
Ranged top ns [] (g ∷ gs) = ⊥
Ranged top ns (Let n e ∷ l) gs = Ranged top ns l gs
Ranged top ns (Match k key ms arms ∷ l) [] = ⊥
Ranged top ns (Match k key ms arms ∷ l) (g ∷ gs) = Range top ns arms (group_columns g) × Ranged top ns l gs

ranged_binds : (top : ℕ) (ns : List Name) (l : List Binding) → Ranged top ns (binds l) []
unfolding binds
ranged_binds top ns [] = tt
ranged_binds top ns (b ∷ l) = ranged_binds top ns l

ranged_append : (top : ℕ) (ns : List Name) (l r : List Intermediate) (gs hs : List Group) → Ranged top ns l gs → Ranged top ns r hs → Ranged top ns (l ++ r) (gs ++ hs)
ranged_append top ns [] r [] hs a b = b
ranged_append top ns [] r (g ∷ gs) hs a b = absurd a
ranged_append top ns (Let n e ∷ l) r gs hs a b = ranged_append top ns l r gs hs a b
ranged_append top ns (Match k key ms arms ∷ l) r [] hs a b = absurd a
ranged_append top ns (Match k key ms arms ∷ l) r (g ∷ gs) hs a b = (a.0, ranged_append top ns l r gs hs a.1 b)

ranged_replaced : (m : Tree) (x : Name) (top : ℕ) (ns : List Name) (l : List Intermediate) (gs : List Group) → Ranged top ns l gs → Ranged top ns (replace_in_stmts m x l) gs
unfolding replace_in_stmts
ranged_replaced m x top ns [] [] a = tt
ranged_replaced m x top ns [] (g ∷ gs) a = a
ranged_replaced m x top ns (Let n e ∷ l) gs a = ranged_replaced m x top ns l gs a
ranged_replaced m x top ns (Match k key ms arms ∷ l) [] a = a
ranged_replaced m x top ns (Match k key ms arms ∷ l) (g ∷ gs) a = (a.0, ranged_replaced m x top ns l gs a.1)

ranged_named : (ms : List Switch) (w : Work) (top : ℕ) (ns : List Name) (gs : List Group) → Ranged top ns w.inters gs → Ranged top ns (name_members ms w).inters gs
unfolding name_members
ranged_named [] w top ns gs a = a
ranged_named (s ∷ ms) w top ns gs a = ranged_named ms (one_named s w) top ns gs (ranged_replaced s.tree _ top ns w.inters gs a)

-- later names are clear of the ranges so far
range_more : (top more : ℕ) → top ≤ more → (ns ms : List Name) → ((n : Name) → T (elem n ms) → T (elem n ns) ⊎ (T (under top n) → ⊥)) → (arms : Arms) (cols : List (List Tree)) → Range top ns arms cols → Range more ms arms cols
range_more top more h ns ms f arms cols R =
    record {
      low = R.low;
      high = R.high;
      within = (let x = R.within in omega arith);
      same = R.same;
      clear = λ n t. elim (f n t) [ inl u ↦ R.clear n u | inr u ↦ inr (λ v. u (under_le R.high top R.within n v)) ];
    }

ranged_more :
    (top more : ℕ) → top ≤ more → (ns ms : List Name) → ((n : Name) → T (elem n ms) → T (elem n ns) ⊎ (T (under top n) → ⊥)) → (l : List Intermediate) (gs : List Group)
    → Ranged top ns l gs → Ranged more ms l gs
ranged_more top more h ns ms f [] [] a = tt
ranged_more top more h ns ms f [] (g ∷ gs) a = a
ranged_more top more h ns ms f (Let n e ∷ l) gs a = ranged_more top more h ns ms f l gs a
ranged_more top more h ns ms f (Match k key xs arms ∷ l) [] a = a
ranged_more top more h ns ms f (Match k key xs arms ∷ l) (g ∷ gs) a = (range_more top more h ns ms f arms (group_columns g) a.0, ranged_more top more h ns ms f l gs a.1)

-- so that the needs are those of what is read
match_read : (arms : Arms) (cols : List (List Tree)) (n : Name) → elem n (free_arms arms) ≡ elem n (column_symbols cols) → (k : ℕ) (key : Tree) (ns : List Name)
    → elem n (free (Match k key ns arms)) ≡ elem n (symbols key ++ column_symbols cols)
match_read arms cols n e k key ns = free_match n k key ns arms ∙ ap (λ (b : Bool). elem n (symbols key) || b) e ∙ sym (elem_or n (symbols key) (column_symbols cols))

ranged_needs : (top : ℕ) (all l : List Intermediate) (gs : List Group) → Ranged top (all_names all) l gs → needs all l ≡ needs_of all (read_before l gs)
unfolding needs needs_of read_before
ranged_needs top all [] [] a = refl
ranged_needs top all [] (g ∷ gs) a = absurd a
ranged_needs top all (Let n e ∷ l) gs a = ap (λ (r : List (List ℕ)). needs_from 0 (free (Let n e)) all ∷ r) (ranged_needs top all l gs a)
ranged_needs top all (Match k key ms arms ∷ l) [] a = absurd a
ranged_needs top all (Match k key ms arms ∷ l) (g ∷ gs) a =
    ap₂ (λ (r : List ℕ) (s : List (List ℕ)). r ∷ s)
    (needs_same 0 (free (Match k key ms arms)) (symbols key ++ column_symbols (group_columns g)) all
    (λ n t. match_read arms (group_columns g) n (a.0.same n (a.0.clear n t)) k key ms))
    (ranged_needs top all l gs a.1)

-- ---- fusion

record Placed (low : ℕ) (gs : List Group) (w : Work) : Type 0 where
  later : low ≤ w.next
  named : Sub (under w.next) (all_names w.inters)
  ranged : Ranged w.next (all_names w.inters) w.inters gs

match_names : (l : List Intermediate) (k : ℕ) (key : Tree) (ns : List Name) (arms : Arms) → all_names (l ++ (Match k key ns arms ∷ [])) ≡ all_names l ++ ns
match_names l k key ns arms =
    all_names_append l (Match k key ns arms ∷ []) ∙ ap (λ (x : List Name). all_names l ++ x) (unfold all_names names in append-nil ns)

match_placed :
    (low : ℕ) (gs : List Group) (g : Group) (w : Work) (a : Armed) → Placed low gs w → AllHold (under low) (group_columns g)
    → SameArms (name_members (members g) w).next (group_columns g) a
    → Placed low (gs ++ (g ∷ []))
    (record {
      results = (name_members (members g) w).results;
      inters = (name_members (members g) w).inters ++ (Match g.first.kind g.first.key (member_names w.next (members g)) a.arms ∷ []);
      next = a.next;
      extracted = (name_members (members g) w).extracted + a.extracted;
    })
match_placed low gs g w a P h A =
    let v = name_members (members g) w in
    let ns = member_names w.next (members g) in
    let st : Intermediate = Match g.first.kind g.first.key ns a.arms in
    let old = all_names w.inters in
    let at = P.later in
    let up : w.next ≤ v.next = name_members_later (members g) w in
    let on : v.next ≤ a.next = A.later in
    let now : all_names (v.inters ++ (st ∷ [])) ≡ old ++ ns =
    match_names v.inters g.first.kind g.first.key ns a.arms ∙ ap (λ (x : List Name). x ++ ns) (names_kept (members g) w) in
    let low_names : Sub (under v.next) (old ++ ns) =
    sub_append (under v.next) old ns (λ n t. under_le w.next v.next up n (P.named n t)) (names_made (members g) w) in
    record {
      later = omega arith;
      named = subst (λ (x : List Name). Sub (under a.next) x) (sym now) (λ n t. under_le v.next a.next on n (low_names n t));
      ranged = subst (λ (x : List Name). Ranged a.next x (v.inters ++ (st ∷ [])) (gs ++ (g ∷ []))) (sym now)
          (ranged_append a.next (old ++ ns) v.inters (st ∷ []) gs (g ∷ [])
          (ranged_named (members g) w a.next (old ++ ns) gs
          (ranged_more w.next a.next (omega arith) old (old ++ ns)
          (λ n t. elim (elem_append n old ns t) [ inl u ↦ inl u | inr u ↦ inr (λ z. names_to_come w.next w.next (members g) n (omega arith) u z) ]) w.inters gs P.ranged)) (
            record {
              low = v.next;
              high = a.next;
              within = omega arith;
              same = arms_elem_any v.next (group_columns g) a A (hold_more (under low) (under v.next) (under_le low v.next (omega arith)) (group_columns g) h);
              clear = λ n t. inl (low_names n t);
            },
            tt,
          ));
    }

abbrev Known : ℕ → List Group → Type 0
Known low [] = Unit {0}
Known low (g ∷ l) = AllHold (under low) (group_columns g) × Known low l

known_columns : (low : ℕ) (gs : List Group) → FairGroups (under low) gs → Known low gs
known_columns low [] f = tt
known_columns low (g ∷ gs) f = (group_columns_known (under low) g f.0, known_columns low gs f.1)

module _ (scope : ℕ → List Tree → Outcome Scoped) (ih : (start : ℕ) (es : List Tree) → T (well_formed_all es) → Good (SameNames start es) (scope start es)) where
  group_placed : (low : ℕ) (gs : List Group) (g : Group) (w : Work) → Placed low gs w → Shaped g → AllHold (under low) (group_columns g) → Good (Placed low (gs ++ (g ∷ []))) (fuse_group scope g w)
  unfolding fuse_group
  group_placed low gs g w P s h =
      let v = name_members (members g) w in
      go (scope_arms scope v.next (group_columns g)) (λ a e. arms_are scope ih v.next (group_columns g) s.1 a e)
    where
      go : (o : Outcome Armed) → ((a : Armed) → o ≡ ok a → SameArms (name_members (members g) w).next (group_columns g) a)
          → Good (Placed low (gs ++ (g ∷ [])))
          (o >>= λ a.
          ok (record {
            results = (name_members (members g) w).results;
            inters = (name_members (members g) w).inters ++ (Match g.first.kind g.first.key (member_names w.next (members g)) a.arms ∷ []);
            next = a.next;
            extracted = (name_members (members g) w).extracted + a.extracted;
          }))
      go (ok a) f = good_ok (Placed low (gs ++ (g ∷ []))) _ (match_placed low gs g w a P h (f a refl))
      go (refused i) f = (unfold Good in tt)

  groups_placed : (low : ℕ) (done gs : List Group) (w : Work) → Placed low done w → AllShaped gs → Known low gs → Good (Placed low (done ++ gs)) (fuse_groups scope gs w)
  unfolding fuse_groups
  groups_placed low done [] w P s h = good_ok (Placed low (done ++ [])) w (subst (λ (l : List Group). Placed low l w) (sym (append-nil done)) P)
  groups_placed low done (g ∷ gs) w P s h =
      then_good (Placed low (done ++ (g ∷ []))) (Placed low (done ++ (g ∷ gs))) (fuse_group scope g w) (group_placed low done g w P s.0 h.0) _
      (λ v Q. subst (λ (l : List Group). Good (Placed low l) (fuse_groups scope gs v)) (append_assoc done (g ∷ []) gs) (groups_placed low (done ++ (g ∷ [])) gs v Q s.1 h.1))

  unfused_placed : (start : ℕ) (es : List Tree) (x : ℕ) (s : State) → Begun start es s → T (holds_all (under start) es) → Placed s.next [] (unfused x s)
  unfolding unfused
  unfused_placed start es x s B h = record { later = omega arith; named = B.bound h; ranged = ranged_binds s.next (all_names (binds s.lets)) s.lets }

  -- The statements after fusion need each other as what is known before the arms' scopes says.
  pub fused_needs :
      (start : ℕ) (es : List Tree) (x : ℕ) (s : State) → Begun start es s → T (holds_all (under start) es) → (w : Work) → fuse_all scope x s ≡ ok w
      → needs w.inters w.inters ≡ needs_of w.inters (read_before w.inters (groups_from [] (collect_switches (roots s))))
  fused_needs start es x s B h w e =
      let gs = groups_from [] (collect_switches (roots s)) in
      let P : Placed s.next gs w =
      good_at (Placed s.next gs) (fuse_all scope x s) w e
      (unfold fuse_all in
      groups_placed s.next [] gs (unfused x s) (unfused_placed start es x s B h) (groups_shaped (roots s) B.formed) (known_columns s.next gs (groups_fair (under s.next) (roots s) (B.top h)))) in
      ranged_needs w.next w.inters w.inters gs P.ranged
