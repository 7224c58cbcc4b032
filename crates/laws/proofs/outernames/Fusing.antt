-- Fusion loses no symbol, and brings in none but the names that it makes, where each arm's scope is so (01, "Scoped fusion"). Assumes nothing.
use Prim.Native.Nat.{ℕ, suc, ◌+◌, ◌≤◌}
use native.Mathlib.Omega.{arith}
use mathlib.Core.Bool.{Bool, true}
use mathlib.Core.List.{List, [], ◌∷◌, ◌++◌}
use lib.Dec.{T}
use Rattle.spec_tree.specs.Outcome.{Outcome}
use Rattle.spec_tree.specs.Tree.{Name, mname, Tree}
use Rattle.spec_tree.proofs.Logic.{and_left, and_right, and_both}
use Rattle.spec_rewrite.specs.Rewrite.{replace_outside_arms}
use Rattle.spec_rewrite.proofs.Counts.{well_formed_all}
use Rattle.spec_rewrite.proofs.Names.{holds, holds_all, holds_append, holds_left, holds_right, weaken, weaken_all}
use Rattle.spec_cse.specs.Extract.{Binding, State, bound, roots}
use Rattle.spec_cse.specs.Answer.{Intermediate, Let, Match, symbols, free, free_arms}
use Rattle.spec_cse.specs.Scope.{Switch, Group, Work, Scoped, Armed, collect_switches, groups_from, members, replace_in_results, replace_in_stmts, name_members, member_names, scope_arms, fuse_group, fuse_groups, fuse_all, binds, unfused}
use Rattle.laws.proofs.cse.Outcomes.{Good, then_good, good_ok}
use Rattle.laws.proofs.cse.SortCount.{Every}
use Rattle.laws.proofs.cse.Symbols.{elem_here, elem_later, holds_by, holds_at, Sub, sub_left, sub_right, sub_append, holds_all_by}
use Rattle.laws.proofs.cse.SwitchLaws.{outside_holds, results_hold, FairGroup, FairGroups, groups_fair, first_key_known, group_columns_known}
use Rattle.laws.proofs.cse.ScopeValue.{under, under_le, names_to_come, one_named, name_members_later, names_made, AllTrees, hold_more}
use Rattle.laws.proofs.outernames.Replacing.{outside_back}
use Rattle.laws.proofs.outernames.Rounds.{New, Begun}
use Rattle.laws.proofs.outernames.Switches.{group_columns, group_back, AllFormed, ColumnsFormed, groups_columns}
use Rattle.laws.proofs.outernames.Arms.{SameNames, SameArms, new_later, arms_same}

-- ---- what statements read

module _ (p : Name → Bool) where
  abbrev pub Stmts : List Intermediate → Type 0
  Stmts l = Every (λ s. Sub p (free s)) l

  abbrev pub Reads : Work → Type 0
  Reads w = Stmts w.inters × T (holds_all p w.results)

  stmts_append : (l r : List Intermediate) → Stmts l → Stmts r → Stmts (l ++ r)
  stmts_append [] r g h = h
  stmts_append (s ∷ l) r g h = (g.0, stmts_append l r g.1 h)

  stmts_left : (l r : List Intermediate) → Stmts (l ++ r) → Stmts l
  stmts_left [] r h = tt
  stmts_left (s ∷ l) r h = (h.0, stmts_left l r h.1)

  stmts_right : (l r : List Intermediate) → Stmts (l ++ r) → Stmts r
  stmts_right [] r h = h
  stmts_right (s ∷ l) r h = stmts_right l r h.1

  tree_sub : (e : Tree) → T (holds p e) → Sub p (symbols e)
  tree_sub e h n t = holds_at p e n h t

  -- ---- a member named

  results_back : (m : Tree) (n : Name) → T (holds p m) → (l : List Tree) → T (holds_all p (replace_in_results m n l)) → T (holds_all p l)
  unfolding holds_all replace_in_results
  results_back m n t [] w = tt
  results_back m n t (e ∷ l) w =
      and_both (holds p e) (holds_all p l) (outside_back p m n t e (and_left (holds p (replace_outside_arms m n e)) (holds_all p (replace_in_results m n l)) w))
      (results_back m n t l (and_right (holds p (replace_outside_arms m n e)) (holds_all p (replace_in_results m n l)) w))

  symbols_back : (m : Tree) (n : Name) → T (holds p m) → (e : Tree) → Sub p (symbols (replace_outside_arms m n e)) → Sub p (symbols e)
  symbols_back m n t e u = tree_sub e (outside_back p m n t e (holds_by p (replace_outside_arms m n e) u))

  symbols_forth : (m : Tree) (n : Name) → T (p n) → (e : Tree) → Sub p (symbols e) → Sub p (symbols (replace_outside_arms m n e))
  symbols_forth m n t e u = tree_sub (replace_outside_arms m n e) (outside_holds p m n t e (holds_by p e u))

  stmts_back : (m : Tree) (n : Name) → T (holds p m) → (l : List Intermediate) → Stmts (replace_in_stmts m n l) → Stmts l
  unfolding replace_in_stmts free
  stmts_back m n t [] h = tt
  stmts_back m n t (Let a e ∷ l) h = (symbols_back m n t e h.0, stmts_back m n t l h.1)
  stmts_back m n t (Match k key ns arms ∷ l) h = (
    sub_append p (symbols key) (free_arms arms) (symbols_back m n t key (sub_left p (symbols (replace_outside_arms m n key)) (free_arms arms) h.0))
        (sub_right p (symbols (replace_outside_arms m n key)) (free_arms arms) h.0),
    stmts_back m n t l h.1,
  )

  stmts_forth : (m : Tree) (n : Name) → T (p n) → (l : List Intermediate) → Stmts l → Stmts (replace_in_stmts m n l)
  unfolding replace_in_stmts free
  stmts_forth m n t [] h = tt
  stmts_forth m n t (Let a e ∷ l) h = (symbols_forth m n t e h.0, stmts_forth m n t l h.1)
  stmts_forth m n t (Match k key ns arms ∷ l) h = (
    sub_append p (symbols (replace_outside_arms m n key)) (free_arms arms) (symbols_forth m n t key (sub_left p (symbols key) (free_arms arms) h.0)) (sub_right p (symbols key) (free_arms arms) h.0),
    stmts_forth m n t l h.1,
  )

  named_back : (ms : List Switch) (w : Work) → AllTrees p ms → Reads (name_members ms w) → Reads w
  unfolding name_members
  named_back [] w t h = h
  named_back (s ∷ ms) w t h =
      let r = named_back ms (one_named s w) t.1 h in
      (stmts_back s.tree (mname w.next) t.0 w.inters r.0, results_back s.tree (mname w.next) t.0 w.results r.1)

  named_forth : (ms : List Switch) (w : Work) → Sub p (member_names w.next ms) → Reads w → Reads (name_members ms w)
  unfolding name_members member_names
  named_forth [] w f h = h
  named_forth (s ∷ ms) w f h =
      let t = f (mname w.next) (elem_here (mname w.next) (member_names (suc w.next) ms)) in
      named_forth ms (one_named s w) (λ n q. f n (elem_later n (mname w.next) (member_names (suc w.next) ms) q)) (stmts_forth s.tree (mname w.next) t w.inters h.0, results_hold p s.tree (mname w.next) t w.results h.1)

  -- ---- bindings before fusion

  binds_by : (l : List Binding) → T (holds_all p (bound l)) → Stmts (binds l)
  unfolding holds_all bound binds free
  binds_by [] h = tt
  binds_by (b ∷ l) h = (tree_sub b.expr (and_left (holds p b.expr) (holds_all p (bound l)) h), binds_by l (and_right (holds p b.expr) (holds_all p (bound l)) h))

  binds_at : (l : List Binding) → Stmts (binds l) → T (holds_all p (bound l))
  unfolding holds_all bound binds free
  binds_at [] h = tt
  binds_at (b ∷ l) h = and_both (holds p b.expr) (holds_all p (bound l)) (holds_by p b.expr h.0) (binds_at l h.1)

  unfused_by : (x : ℕ) (s : State) → T (holds_all p (roots s)) → Reads (unfused x s)
  unfolding unfused roots
  unfused_by x s h = (binds_by s.lets (holds_right p s.results (bound s.lets) h), holds_left p s.results (bound s.lets) h)

  unfused_at : (x : ℕ) (s : State) → Reads (unfused x s) → T (holds_all p (roots s))
  unfolding unfused roots
  unfused_at x s h = holds_append p s.results (bound s.lets) h.1 (binds_at s.lets h.0)

stmts_more : (p q : Name → Bool) → ((n : Name) → T (p n) → T (q n)) → (l : List Intermediate) → Stmts p l → Stmts q l
stmts_more p q f [] h = tt
stmts_more p q f (s ∷ l) h = ((λ n t. f n (h.0 n t)), stmts_more p q f l h.1)

reads_more : (p q : Name → Bool) → ((n : Name) → T (p n) → T (q n)) → (w : Work) → Reads p w → Reads q w
reads_more p q f w h = (stmts_more p q f w.inters h.0, weaken_all p q f w.results h.1)

-- ---- what fusion keeps: `low` is the next number before it

pub record SameWork (start low : ℕ) (es : List Tree) (w : Work) : Type 0 where
  pub later : low ≤ w.next
  pub back : (p : Name → Bool) → Reads p w → T (holds_all p es)
  pub forth : (q : Name → Bool) → New start q → T (holds_all q es) → Reads q w
  pub top : T (holds_all (under start) es) → Reads (under w.next) w

pub unfused_same : (start : ℕ) (es : List Tree) (x : ℕ) (s : State) → Begun start es s → SameWork start s.next es (unfused x s)
unfused_same start es x s B =
    record {
      later = (unfold unfused in omega arith);
      back = λ p h. B.back p (unfused_at p x s h);
      forth = λ q new h. unfused_by q x s (B.forth q new h);
      top = λ h. (unfold unfused in unfused_by (under s.next) x s (B.top h));
    }

-- a group with the members that it should have, whose arms have right operand counts, and whose symbols are the input's or made
record SoundGroup (start low : ℕ) (es : List Tree) (g : Group) : Type 0 where
  shaped : FairGroup (λ n. true) g
  formed : AllFormed (group_columns g)
  known : (q : Name → Bool) → New start q → T (holds_all q es) → FairGroup q g
  made : T (holds_all (under start) es) → FairGroup (under low) g

abbrev SoundGroups : ℕ → ℕ → List Tree → List Group → Type 0
SoundGroups start low es [] = Unit {0}
SoundGroups start low es (g ∷ l) = SoundGroup start low es g × SoundGroups start low es l

sound_groups :
    (start low : ℕ) (es : List Tree) (gs : List Group) → FairGroups (λ n. true) gs → ColumnsFormed gs → ((q : Name → Bool) → New start q → T (holds_all q es) → FairGroups q gs)
    → (T (holds_all (under start) es) → FairGroups (under low) gs) → SoundGroups start low es gs
sound_groups start low es [] a b c d = tt
sound_groups start low es (g ∷ gs) a b c d = (
  record { shaped = a.0; formed = b.0; known = λ q new h. (c q new h).0; made = λ h. (d h).0 },
  sound_groups start low es gs a.1 b.1 (λ q new h. (c q new h).1) (λ h. (d h).1),
)

match_same :
    (start low : ℕ) (es : List Tree) → start ≤ low → (g : Group) (w : Work) (a : Armed) → SoundGroup start low es g → SameWork start low es w
    → SameArms (name_members (members g) w).next (group_columns g) a
    → SameWork start low es
    (record {
      results = (name_members (members g) w).results;
      inters = (name_members (members g) w).inters ++ (Match g.first.kind g.first.key (member_names w.next (members g)) a.arms ∷ []);
      next = a.next;
      extracted = (name_members (members g) w).extracted + a.extracted;
    })
unfolding free
match_same start low es from g w a G W A =
    let v = name_members (members g) w in
    let st : Intermediate = Match g.first.kind g.first.key (member_names w.next (members g)) a.arms in
    let key = symbols g.first.key in
    let arms = free_arms a.arms in
    let at = W.later in
    let up : w.next ≤ v.next = name_members_later (members g) w in
    record {
      later = (let y = A.later in omega arith);
      back = λ p h.
          let m = (stmts_right p v.inters (st ∷ []) h.0).0 in
          W.back p
          (named_back p (members g) w (group_back p g G.shaped (holds_by p g.first.key (sub_left p key arms m)) (A.back p (sub_right p key arms m)))
          (stmts_left p v.inters (st ∷ []) h.0, h.1));
      forth = λ q new h.
          let f = G.known q new h in
          let n = named_forth q (members g) w (λ i t. new i (λ u. names_to_come start w.next (members g) i (omega arith) t u)) (W.forth q new h) in (
            stmts_append q v.inters (st ∷ []) n.0 (
              sub_append q key arms (tree_sub q g.first.key (first_key_known q g f)) (A.forth q (new_later start v.next (omega arith) q new) (group_columns_known q g f)),
              tt,
            ),
            n.1,
          );
      top = λ h.
          let q = under a.next in
          let f = G.made h in
          let n = named_forth (under v.next) (members g) w (names_made (members g) w) (reads_more (under w.next) (under v.next) (under_le w.next v.next up) w (W.top h)) in
          let m = reads_more (under v.next) q (under_le v.next a.next A.later) v n in (
            stmts_append q v.inters (st ∷ []) m.0 (
              sub_append q key arms (tree_sub q g.first.key (weaken (under low) q (under_le low a.next (let y = A.later in omega arith)) g.first.key (first_key_known (under low) g f)))
                  (A.top (hold_more (under low) (under v.next) (under_le low v.next (omega arith)) (group_columns g) (group_columns_known (under low) g f))),
              tt,
            ),
            m.1,
          );
    }

module _ (scope : ℕ → List Tree → Outcome Scoped) (ih : (start : ℕ) (es : List Tree) → T (well_formed_all es) → Good (SameNames start es) (scope start es)) where
  module _ (start low : ℕ) (es : List Tree) (from : start ≤ low) where
    abbrev Same : Work → Type 0
    Same = SameWork start low es

    group_same : (g : Group) (w : Work) → SoundGroup start low es g → Same w → Good Same (fuse_group scope g w)
    unfolding fuse_group
    group_same g w G W =
        let v = name_members (members g) w in
        then_good (SameArms v.next (group_columns g)) Same (scope_arms scope v.next (group_columns g)) (arms_same scope ih (group_columns g) v.next G.formed) _
        (λ a A. good_ok Same _ (match_same start low es from g w a G W A))

    groups_same : (gs : List Group) (w : Work) → SoundGroups start low es gs → Same w → Good Same (fuse_groups scope gs w)
    unfolding fuse_groups
    groups_same [] w G W = good_ok Same w W
    groups_same (g ∷ gs) w G W = then_good Same Same (fuse_group scope g w) (group_same g w G.0 W) _ (λ v k. groups_same gs v G.1 k)

  pub fused_same : (start : ℕ) (es : List Tree) (x : ℕ) (s : State) → Begun start es s → Good (SameWork start s.next es) (fuse_all scope x s)
  unfolding fuse_all
  fused_same start es x s B =
      let gs = groups_from [] (collect_switches (roots s)) in
      groups_same start s.next es B.later gs (unfused x s)
      (sound_groups start s.next es gs (groups_fair (λ n. true) (roots s) (holds_all_by (λ n. true) (roots s) (λ n t. tt))) (groups_columns (roots s) B.formed)
      (λ q new h. groups_fair q (roots s) (B.forth q new h)) (λ h. groups_fair (under s.next) (roots s) (B.top h)))
      (unfused_same start es x s B)
