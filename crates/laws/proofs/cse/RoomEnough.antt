-- Refusal 23 never arises where no scope that is reached binds a divisor with a switch outside arms: a scope holds no more for fusion than its input then, and its
-- arms' scopes are together no larger than that, and a level further in. So a scope's numbers, and those of the scopes in it, are at most twice its input for each
-- level. Assumes nothing.
use Prim.Native.Nat.{ℕ, zero, suc, ◌+◌, ◌-◌, ◌*◌, ◌≤◌}
use mathlib.Core.Path.{◌≡◌, refl, sym, ap, subst}
use mathlib.Core.Logic.{◌⊎◌, inl, inr}
use mathlib.Core.Bool.{Bool, true, false, ◌&&◌}
use mathlib.Core.List.{List, [], ◌∷◌, reverse}
use native.Mathlib.Omega.{arith}
use lib.ListN.{length}
use lib.Dec.{T, eqb, leb, le→leb}
use Rattle.spec_tree.specs.Outcome.{Refusal, Outcome, ok, refused, by, ◌>>=◌}
use Rattle.spec_tree.specs.Tree.{Name, xname, Tree, Forest, Op, nil, ◌◂◌, fold, operands}
use Rattle.spec_tree.specs.Kinds.{is_switch, arity_ok}
use Rattle.spec_tree.specs.Facts.{size, all_nodes, count}
use Rattle.spec_tree.specs.Rows.{occurrences, within_limits}
use Rattle.spec_tree.specs.Value.{values}
use Rattle.spec_tree.proofs.Logic.{and_left, and_right, and_both}
use Rattle.spec_tree.proofs.Formed.{operand_count, well_formed, well_formed_each}
use Rattle.spec_rewrite.proofs.Counts.{well_formed_all}
use Rattle.spec_rewrite.proofs.Counts.{all_append}
use Rattle.spec_rewrite.proofs.Names.{holds, holds_each, holds_all, below, weaken, weaken_all}
use Rattle.spec_rewrite.proofs.Counts.{counted_formed, all_nodes_formed}
use Rattle.spec_rewrite.proofs.Measure.{sum_of}
use Rattle.spec_cse.specs.Extract.{State, roots, divisors, extract_all, replace_divisor_each, bind_reciprocal, bind_reciprocals, reciprocals}
use Rattle.spec_cse.specs.Answer.{Intermediate, Answer}
use Rattle.spec_cse.specs.Order.{needs, positions_taken, at_each, topo_sort_intermediates}
use Rattle.spec_cse.specs.Scope.{Group, Work, Scoped, Armed, members, collect_switches, groups_from, name_members, columns, arms_of_members, scope_arms, fuse_group, fuse_groups, fuse_all, unfused, finish, held, left_after, most_switches, statements, most_stmts, has_room, fuse_held, cse_scope, scope_rows, most_number, opens, area_rows, scopes_open, as_answer, answer}
use Rattle.laws.proofs.cse.Outcomes.{Good, good_at}
use Rattle.laws.proofs.cse.RoundsCount.{made_before, below_made, extract_all_end}
use Rattle.laws.proofs.cse.RoundsValue.{reciprocals_keep, roots_known}
use Rattle.laws.proofs.cse.FlatCount.{some_reading}
use Rattle.laws.proofs.cse.ReciprocalsCount.{AllTrees, all_map, divisors_all, bound_divisors, bound_twice, inverse, roots_reciprocal, reciprocals_are, divided_formed, inverse_formed}
use Rattle.laws.proofs.cse.SizeCount.{total_size, extract_all_size}
use Rattle.laws.proofs.cse.ScopeValue.{under, under_le, under_below}
use Rattle.laws.proofs.cse.ScopeRoom.{deep, deeps, most_down, deeper_op, no_arms, reciprocals_deep, nests_at_most, limits_rows, limits_nesting}
use Rattle.laws.proofs.cse.ScopedCount.{Started, started}
use Rattle.laws.proofs.cse.Refusals.{Only, only_at, Ten, extract_all_ten}
use Rattle.laws.proofs.cse.Levels.{Most, extract_all_within}
use Rattle.laws.proofs.cse.NestingLevel.{nesting_op, nesting_level, arms_deeper}
use Rattle.laws.proofs.cse.BoundSwitches.{if_given, none_hold_switch, arms_pass, groups_pass, none_bound, no_switch_bound, given_at, none_hold}
use Rattle.laws.proofs.cse.ArmNodes.{arms_total, groups_total, lists_total, AllArms, Groups, SmallGroups, held_groups, held_small, Given, Columns, group_columns}
use Rattle.laws.proofs.cse.NumbersMost.{members_total, held_switches, held_members, held_matches, name_members_next, group_total, opened_next, opened_lets, numbers_most, most_add, most_up, WorkLater, ScopeLater, group_later, scope_later}
use Rattle.laws.proofs.cse.SwitchArms.{AllOperands, as_list, groups_all}
use Rattle.laws.proofs.cse.HeldRows.{held_rows}

-- ---- what a scope's input has

-- well-formed, over known names, and arms that nest less than D deep
module _ (p : Name → Bool) where
  abbrev pub Fit : ℕ → Tree → Type 0
  Fit zero t = ⊥
  Fit (suc m) t = T (well_formed t) × T (holds p t) × (deep t ≤ m)

  each_fit : (m : ℕ) (f : Forest) → T (well_formed_each f) → T (holds_each p f) → Most m (deeps f) → AllOperands (Fit (suc m)) f
  unfolding well_formed holds fold
  each_fit m nil w h d = tt
  each_fit m (t ◂ f) w h d = (
    (and_left (well_formed t) (well_formed_each f) w, and_left (holds p t) (holds_each p f) h, d.0),
    each_fit m f (and_right (well_formed t) (well_formed_each f) w) (and_right (holds p t) (holds_each p f) h) d.1,
  )

  operands_fit : (m k : ℕ) (f : Forest) → Fit (suc m) (Op k f) → AllOperands (Fit (suc m)) f
  unfolding well_formed holds fold
  operands_fit m k f F =
      each_fit m f (and_right (arity_ok k (operand_count f)) (well_formed_each f) F.0) F.1
      (most_down (nesting_op k (deeps f)) m F.2 (deeps f) (nesting_level.parts k (deeps f)))

  -- a switch's arms
  arms_fit : (m k : ℕ) (q : Tree) (f : Forest) → T (is_switch k) → Fit (suc m) (Op k (q ◂ f)) → AllTrees (Fit m) (operands f)
  unfolding well_formed holds fold
  arms_fit zero k q nil t F = (unfold operands in tt)
  arms_fit zero k q (a ◂ f) t F = absurd (no_arms (deep q) (deep a) (deeps f) (deeper_op 0 (deep q) (deep a ∷ deeps f) (is_switch k) t F.2))
  arms_fit (suc m) k q f t F =
      let d = deeper_op (suc m) (deep q) (deeps f) (is_switch k) t F.2 in
      let w = and_right (arity_ok k (operand_count (q ◂ f))) (well_formed_each (q ◂ f)) F.0 in
      as_list (Fit (suc m)) f
      (each_fit m f (and_right (well_formed q) (well_formed_each f) w) (and_right (holds p q) (holds_each p f) F.1) (arms_deeper (suc m) (deep q) (deeps f) d m refl))

  module _ (m : ℕ) where
    abbrev pub Root : Tree → Type 0
    Root t = Fit (suc m) t

    pub groups_fit : (rs : List Tree) → AllTrees Root rs → Groups (Fit m) (groups_from [] (collect_switches rs))
    groups_fit rs h = groups_all (Fit (suc m)) (Fit m) (operands_fit m) (arms_fit m) rs h

    pub fit_all : (l : List Tree) → T (well_formed_all l) → T (holds_all p l) → AllTrees (λ t. deep t ≤ m) l → AllTrees Root l
    unfolding well_formed_all holds_all
    fit_all [] w h d = tt
    fit_all (t ∷ l) w h d = (
      (and_left (well_formed t) (well_formed_all l) w, and_left (holds p t) (holds_all p l) h, d.0),
      fit_all l (and_right (well_formed t) (well_formed_all l) w) (and_right (holds p t) (holds_all p l) h) d.1,
    )

    fit_formed : (l : List Tree) → AllTrees Root l → T (well_formed_all l)
    unfolding well_formed_all
    fit_formed [] h = tt
    fit_formed (t ∷ l) h = and_both (well_formed t) (well_formed_all l) h.0.0 (fit_formed l h.1)

    fit_known : (l : List Tree) → AllTrees Root l → T (holds_all p l)
    unfolding holds_all
    fit_known [] h = tt
    fit_known (t ∷ l) h = and_both (holds p t) (holds_all p l) h.0.1 (fit_known l h.1)

pub fit_more : (p q : Name → Bool) → ((n : Name) → T (p n) → T (q n)) → (D : ℕ) (l : List Tree) → AllTrees (Fit p D) l → AllTrees (Fit q D) l
fit_more p q f zero [] h = tt
fit_more p q f zero (t ∷ l) h = absurd h.0
fit_more p q f (suc m) l h = all_map (Fit p (suc m)) (Fit q (suc m)) (λ t F. (F.0, weaken p q f t F.1, F.2)) l h

-- ---- a scope's roots after its reciprocals

formed_each : (ds : List Tree) (s : State) → AllTrees (λ d. T (well_formed d)) ds → T (well_formed_all (roots s)) → T (well_formed_all (roots (bind_reciprocals ds s)))
unfolding bind_reciprocals
formed_each [] s g h = h
formed_each (d ∷ ds) s g h =
    formed_each ds (bind_reciprocal d s) g.1
    (subst (λ (l : List Tree). T (well_formed_all l)) (sym (roots_reciprocal d s))
    (all_append (replace_divisor_each d (xname s.next) (roots s)) (inverse d ∷ []) (divided_formed d (xname s.next) (roots s) h) (inverse_formed d g.0)))

bound_formed : (scoped : Bool) (s : State) → T (well_formed_all (roots s)) → AllTrees (λ d. T (well_formed d)) (bound_divisors scoped s)
bound_formed scoped s h =
    all_map (λ d. 2 ≤ count d (divisors (all_nodes (roots s)))) (λ d. T (well_formed d))
    (λ d q. counted_formed d (all_nodes (roots s)) (all_nodes_formed (roots s) h) (let c = divisors_all d (roots s) in omega arith)) (bound_divisors scoped s) (bound_twice scoped s)

reciprocals_formed : (scoped : Bool) (s : State) → T (well_formed_all (roots s)) → T (well_formed_all (roots (reciprocals scoped s)))
reciprocals_formed scoped s h =
    subst (λ (u : State). T (well_formed_all (roots u))) (sym (reciprocals_are scoped s)) (formed_each (bound_divisors scoped s) s (bound_formed scoped s h) h)

total_is : (l : List Tree) → total_size l ≡ occurrences l
unfolding sum_of occurrences
total_is [] = refl
total_is (t ∷ l) = ap (λ (m : ℕ). size t + m) (total_is l)

-- ---- outcomes that are no 23

Fine : {A : Type 0} → (A → Type 0) → Outcome A → Type 0
Fine Q (ok a) = Q a
Fine Q (refused i) = (i ≡ by 10) ⊎ (i ≡ by 11)

fine_ok : {A : Type 0} (Q : A → Type 0) (a : A) → Q a → Fine Q (ok a)
unfolding Fine
fine_ok Q a h = h

then_fine :
    {A B : Type 0} (Q : A → Type 0) (R : B → Type 0) (o : Outcome A) → Fine Q o → (f : A → Outcome B) → ((a : A) → o ≡ ok a → Q a → Fine R (f a)) → Fine R (o >>= f)
unfolding Fine
then_fine Q R (ok a) h f g = g a refl h
then_fine Q R (refused i) h f g = h

-- at most so many numbers later
abbrev After : ℕ → Scoped → Type 0
After n a = a.next ≤ n

abbrev Later : ℕ → Work → Type 0
Later n w = w.next ≤ n

abbrev ArmedLater : ℕ → Armed → Type 0
ArmedLater n a = a.next ≤ n

finish_fine : (n : ℕ) (w : Work) → Later n w → Fine (After n) (finish w)
unfolding finish topo_sort_intermediates
finish_fine n w h = go (eqb (length (positions_taken (needs w.inters w.inters))) (length w.inters))
  where
    go : (b : Bool)
        → Fine {A = Scoped} (After n)
        ((elim b as (λ _. Outcome (List Intermediate)) [ true ↦ ok (reverse (at_each w.inters (positions_taken (needs w.inters w.inters)))) | false ↦ refused (by 11) ])
        >>= λ l. ok (record { inters = l; results = w.results; next = w.next; extracted = w.extracted }))
    go true = (unfold Fine in h)
    go false = (unfold Fine in inr refl)

fine_more : (m n : ℕ) → m ≤ n → (o : Outcome Work) → Fine (Later m) o → Fine (Later n) o
unfolding Fine
fine_more m n b (ok w) g = omega arith
fine_more m n b (refused i) g = g

-- ---- arms and groups

-- the numbers of a list of arms, or of groups and their arms
arms_numbers : ℕ → List (List Tree) → ℕ
arms_numbers D ls = numbers_most D (lists_total ls)

arms_within : (D k : ℕ) (g : Group) → arms_numbers D (columns k (arms_of_members (members g))) ≤ numbers_most D (arms_total (members g))
unfolding arms_numbers
arms_within D k g = most_up D (lists_total (columns k (arms_of_members (members g)))) (arms_total (members g)) (group_total k g)

groups_numbers : ℕ → List Group → ℕ
groups_numbers D gs = members_total gs + numbers_most D (groups_total gs)

module _
    (N D B : ℕ) (scope : ℕ → List Tree → Outcome Scoped) (test : ℕ → List Tree → Bool)
    (later : (start : ℕ) (es : List Tree) → Good (ScopeLater start) (scope start es))
    (ih : (start : ℕ) (es : List Tree) → Given (Fit (under start) D) N es → T (test start es) → start + numbers_most D (occurrences es) ≤ B
    → Fine (After (start + numbers_most D (occurrences es))) (scope start es))
  where
    arms_fine :
        (low start : ℕ) → low ≤ start → (ls : List (List Tree)) → Columns (Fit (under low) D) N ls → T (arms_pass scope test start ls) → start + arms_numbers D ls ≤ B
        → Fine (ArmedLater (start + arms_numbers D ls)) (scope_arms scope start ls)
    unfolding scope_arms arms_pass
    arms_fine low start h [] c p m = fine_ok (ArmedLater (start + arms_numbers D [])) _ (omega arith)
    arms_fine low start h (es ∷ ls) c p m =
        let n = numbers_most D (occurrences es) in
        let e : arms_numbers D (es ∷ ls) ≡ n + arms_numbers D ls = (unfold arms_numbers lists_total in most_add D (occurrences es) (lists_total ls)) in
        let rest : Scoped → Bool = λ a. arms_pass scope test a.next ls in
        then_fine (After (start + n)) (ArmedLater (start + arms_numbers D (es ∷ ls))) (scope start es)
        (ih start es (fit_more (under low) (under start) (under_le low start h) D es c.0.0, c.0.1, c.0.2) (and_left (test start es) (if_given rest (scope start es)) p) (omega arith)) _
        (λ a z g.
        let q = good_at (ScopeLater start) (scope start es) a z (later start es) in
        then_fine (ArmedLater (a.next + arms_numbers D ls)) (ArmedLater (start + arms_numbers D (es ∷ ls))) (scope_arms scope a.next ls)
        (arms_fine low a.next (omega arith) ls c.1 (given_at rest (scope start es) a z (and_right (test start es) (if_given rest (scope start es)) p)) (omega arith)) _
        (λ r y k. fine_ok (ArmedLater (start + arms_numbers D (es ∷ ls))) _ (omega arith)))

    abbrev group_columns_of : Group → List (List Tree)
    group_columns_of g = columns (length g.first.arms) (arms_of_members (members g))

    group_fine :
        (low : ℕ) (g : Group) (w : Work) → low ≤ w.next → AllArms (Fit (under low) D) (members g) → arms_total (members g) ≤ N
        → T (arms_pass scope test (name_members (members g) w).next (group_columns_of g)) → w.next + (length (members g) + numbers_most D (arms_total (members g))) ≤ B
        → Fine (Later (w.next + (length (members g) + numbers_most D (arms_total (members g))))) (fuse_group scope g w)
    unfolding fuse_group
    group_fine low g w h a m p b =
        let v = name_members (members g) w in
        let q = name_members_next (members g) w in
        let l = group_columns_of g in
        let n = w.next + (length (members g) + numbers_most D (arms_total (members g))) in
        let u = arms_within D (length g.first.arms) g in
        then_fine (ArmedLater (v.next + arms_numbers D l)) (Later n) (scope_arms scope v.next l)
        (arms_fine low v.next (omega arith) l (group_columns (Fit (under low) D) N g a m) p (omega arith)) _ (λ r z k. fine_ok (Later n) _ (omega arith))

    groups_fine :
        (low : ℕ) (gs : List Group) (w : Work) → low ≤ w.next → Groups (Fit (under low) D) gs → SmallGroups N gs → T (groups_pass scope test gs w) → w.next + groups_numbers D gs ≤ B
        → Fine (Later (w.next + groups_numbers D gs)) (fuse_groups scope gs w)
    unfolding fuse_groups groups_pass
    groups_fine low [] w h a m p b = fine_ok (Later (w.next + groups_numbers D [])) w (omega arith)
    groups_fine low (g ∷ gs) w h a m p b =
        let n = length (members g) + numbers_most D (arms_total (members g)) in
        let e : groups_numbers D (g ∷ gs) ≡ n + groups_numbers D gs =
        (unfold groups_numbers members_total groups_total in let q = most_add D (arms_total (members g)) (groups_total gs) in omega arith) in
        let here = arms_pass scope test (name_members (members g) w).next (group_columns_of g) in
        let rest : Work → Bool = λ v. groups_pass scope test gs v in
        then_fine (Later (w.next + n)) (Later (w.next + groups_numbers D (g ∷ gs))) (fuse_group scope g w)
        (group_fine low g w h a.0 m.0 (and_left here (if_given rest (fuse_group scope g w)) p) (omega arith)) _
        (λ v z k.
        let q = good_at (WorkLater low) (fuse_group scope g w) v z (group_later scope later low g w h) in
        fine_more (v.next + groups_numbers D gs) (w.next + groups_numbers D (g ∷ gs)) (omega arith) (fuse_groups scope gs v)
        (groups_fine low gs v q a.1 m.1 (given_at rest (fuse_group scope g w) v z (and_right here (if_given rest (fuse_group scope g w)) p)) (omega arith)))

-- ---- a scope

module _ (start m : ℕ) (es : List Tree) (F : AllTrees (Fit (under start) (suc m)) es) where
  known : T (holds_all (under start) es)
  known = fit_known (under start) m es F

  pub formed : T (well_formed_all es)
  formed = fit_formed (under start) m es F

  pub made : T (holds_all (made_before start) es)
  made = weaken_all (under start) (made_before start) (below_made (λ s. true) start start) es known

  module _ (s : State) (e : extract_all true start es ≡ ok s) where
    abbrev t : State
    t = reciprocals true s

    abbrev vs : List ℕ
    vs = values some_reading (λ n. 0) es

    model : Started start es s
    model = good_at (Started start es) (extract_all true start es) s e (started true start es known)

    after : Started start es t
    after = reciprocals_keep some_reading (λ s. true) start (λ n. 0) vs true s model

    roots_formed : T (well_formed_all (roots s))
    roots_formed = (extract_all_end true start es formed made s e).0.formed

    shallow : AllTrees (λ x. deep x ≤ m) (roots s)
    shallow =
        good_at (λ (u : State). AllTrees (λ x. deep x ≤ m) (roots u)) (extract_all true start es) s e
        (extract_all_within nesting_op nesting_level m true start es (all_map (Fit (under start) (suc m)) (λ x. deep x ≤ m) (λ x f. f.2) es F))

    pub roots_fit : AllTrees (Fit (under t.next) (suc m)) (roots t)
    roots_fit =
        fit_all (under t.next) m (roots t)
        (reciprocals_formed true s roots_formed)
        (weaken_all (below (λ s. true) start t.next) (under t.next) (under_below (λ s. true) start t.next after.later) (roots t) (roots_known some_reading (λ s. true) start (λ n. 0) vs t after))
        (reciprocals_deep m s shallow)

    module _ (none : T (none_hold_switch (bound_divisors true s))) where
      -- it holds no more for fusion than its input
      held_within : occurrences (held (length s.lets) t) ≤ occurrences es
      held_within =
          (let a = held_rows s (none_hold (bound_divisors true s) (bound_formed true s roots_formed) none) in
          let b = extract_all_size true start es formed made s e in
          let c = total_is es in
          let d = total_is (roots s) in
          omega arith)

      -- so it takes no more numbers than twice that, and those of its arms' scopes
      groups_within : groups_numbers m (groups_from [] (collect_switches (roots t))) ≤ occurrences es + numbers_most m (occurrences es)
      unfolding groups_numbers
      groups_within =
          (let a = held_members (length s.lets) t in
          let b = held_groups (length s.lets) t in
          let c = held_within in
          let d = most_up m (groups_total (groups_from [] (collect_switches (roots t)))) (occurrences es) (omega arith) in
          omega arith)

      -- and has few switches and statements
      enough : (left : ℕ) → occurrences es ≤ left → occurrences es ≤ 1024 → T (has_room left (length s.lets) t)
      unfolding has_room most_switches statements most_stmts
      enough left r h =
          (let q = held_within in
          let a = opened_lets true start es formed made s e in
          let b = held_matches (length s.lets) t in
          let c = held_switches (length s.lets) t in
          let n = length t.lets + length (groups_from [] (collect_switches (roots t))) in
          and_both (leb (occurrences (held (length s.lets) t)) left) (leb (length (collect_switches (roots t))) 3640 && leb n 2048)
          (le→leb (occurrences (held (length s.lets) t)) left (omega arith))
          (and_both (leb (length (collect_switches (roots t))) 3640) (leb n 2048)
          (le→leb (length (collect_switches (roots t))) 3640 (omega arith)) (le→leb n 2048 (omega arith))))

      -- and leaves all rows but as many as its input has
      leaves : (left N : ℕ) → N + occurrences es ≤ left → N ≤ left_after left (length s.lets) t
      unfolding left_after
      leaves left N h = (let q = held_within in omega arith)

      fused_fine :
          (left B : ℕ) (scope : ℕ → List Tree → Outcome Scoped) (test : ℕ → List Tree → Bool)
          → ((start : ℕ) (es : List Tree) → Good (ScopeLater start) (scope start es))
          → T (groups_pass scope test (groups_from [] (collect_switches (roots t))) (unfused (length s.lets) t))
          → occurrences es ≤ left → occurrences es ≤ 1024 → start + numbers_most (suc m) (occurrences es) ≤ B
          → ((start : ℕ) (es : List Tree) → Given (Fit (under start) m) 1024 es → T (test start es) → start + numbers_most m (occurrences es) ≤ B
          → Fine (After (start + numbers_most m (occurrences es))) (scope start es))
          → Fine (After (start + numbers_most (suc m) (occurrences es))) (fuse_held scope left (length s.lets) (reciprocals true s))
      unfolding fuse_held fuse_all numbers_most
      fused_fine left B scope test later p r h l ih = go (has_room left x t) (enough left r h)
        where
          x : ℕ
          x = length s.lets

          gs : List Group
          gs = groups_from [] (collect_switches (roots t))

          n : ℕ
          n = start + (2 * occurrences es + numbers_most m (occurrences es))

          opened : t.next ≤ start + occurrences es
          opened = opened_next true start es formed made s e

          fused : Fine (After (start + (2 * occurrences es + numbers_most m (occurrences es)))) (fuse_groups scope (groups_from [] (collect_switches (roots t))) (unfused x t) >>= λ w. finish w)
          fused =
              then_fine (Later (t.next + groups_numbers m gs)) (After n) (fuse_groups scope gs (unfused x t))
              (unfold unfused in groups_fine 1024 m B scope test later ih t.next gs (unfused x t) (omega arith)
              (groups_fit (under t.next) m (roots t) roots_fit) (held_small 1024 x t (let q = held_within in omega arith)) p (let q = opened in let z = groups_within in omega arith)) _
              (λ w z h. finish_fine n w (let q = opened in let y = groups_within in omega arith))

          go : (b : Bool) → T b
              → Fine {A = Scoped} (After (start + (2 * occurrences es + numbers_most m (occurrences es))))
              (elim b [ true ↦ (fuse_groups scope (groups_from [] (collect_switches (roots t))) (unfused x t) >>= λ w. finish w) | false ↦ refused (by 23) ])
          go true q = fused
          go false q = absurd q

-- An input of at most 1,024 occurrences whose arms nest less than D deep, where so many scopes can be open, 1,024 rows are left for each of them and their numbers
-- are within 2^31. Where none can be open, nothing is given.
scope_fine :
    (D left start : ℕ) (es : List Tree) → D * 1024 ≤ left → AllTrees (Fit (under start) D) es → occurrences es ≤ 1024 → 1 ≤ D + length es → T (none_bound D left start es)
    → start + numbers_most D (occurrences es) ≤ most_number → Fine (After (start + numbers_most D (occurrences es))) (cse_scope D left true start es)
unfolding cse_scope opens none_bound if_given
scope_fine zero left start [] r F h n c l = absurd (omega arith)
scope_fine zero left start (e ∷ es) r F h n c l = absurd F.0
scope_fine (suc m) left start es r F h n c l =
    fits (leb (occurrences es) left && (leb (occurrences es) scope_rows && leb start most_number))
    (and_both (leb (occurrences es) left) (leb (occurrences es) scope_rows && leb start most_number) (le→leb (occurrences es) left (omega arith))
    (and_both (leb (occurrences es) scope_rows) (leb start most_number) (le→leb (occurrences es) scope_rows (unfold scope_rows in omega arith)) (le→leb start most_number (omega arith))))
    (extract_all true start es) refl
    (extract_all_ten true start es) c (λ k g n l G b d. scope_fine m k n l g G.0 G.1 (let z = G.2 in omega arith) b d)
  where
    after : State → ℕ
    after s = left_after left (length s.lets) (reciprocals true s)

    inner : State → ℕ → List Tree → Outcome Scoped
    inner s n l = cse_scope m (after s) true n l

    test : State → ℕ → List Tree → Bool
    test s n l = none_bound m (after s) n l

    fusing : State → Bool
    fusing s = groups_pass (inner s) (test s) (groups_from [] (collect_switches (roots (reciprocals true s)))) (unfused (length s.lets) (reciprocals true s))

    fits : (b : Bool) → T b → (o : Outcome State) → extract_all true start es ≡ o → Only Ten o → T (if_given (λ s. none_hold_switch (bound_divisors true s) && fusing s) o)
        → ((k : ℕ) → m * 1024 ≤ k → (n : ℕ) (l : List Tree) → Given (Fit (under n) m) 1024 l → T (none_bound m k n l) → n + numbers_most m (occurrences l) ≤ most_number
        → Fine (After (n + numbers_most m (occurrences l))) (cse_scope m k true n l))
        → Fine {A = Scoped} (After (start + numbers_most (suc m) (occurrences es))) (elim b [ true ↦ (o >>= λ s. fuse_held (inner s) left (length s.lets) (reciprocals true s)) | false ↦ refused (by 23) ])
    fits true t (ok s) e T10 c ih =
        let none = and_left (none_hold_switch (bound_divisors true s)) (fusing s) c in
        fused_fine start m es F s e none left most_number (inner s) (test s) (λ n l. scope_later m (after s) n l)
        (and_right (none_hold_switch (bound_divisors true s)) (fusing s) c) (omega arith) h l (ih (after s) (leaves start m es F s e none left (m * 1024) (omega arith)))
    fits true t (refused i) e T10 c ih = (unfold Fine in inl (only_at Ten {A = State} (refused i) i refl T10))
    fits false t o e T10 c ih = absurd t

-- ---- the answer

nine_most : (n : ℕ) → n ≤ 1024 → 0 + numbers_most 9 n ≤ most_number
unfolding numbers_most
nine_most n h = omega arith

answer_fine : (es : List Tree) → T (well_formed_all es) → T (holds_all (under 0) es) → T (within_limits es) → T (no_switch_bound es) → Fine (λ (a : Answer). Unit {0}) (answer true es)
unfolding answer scopes_open no_switch_bound
answer_fine es w h l p =
    then_fine (After (0 + numbers_most 9 (occurrences es))) (λ (a : Answer). Unit {0}) (cse_scope 9 area_rows true 0 es)
    (scope_fine 9 area_rows 0 es (omega arith) (fit_all (under 0) 8 es w h (nests_at_most 8 es (limits_nesting es l))) (limits_rows es l) (omega arith) p (nine_most (occurrences es) (limits_rows es l))) _
    (λ a e q. fine_ok (λ (a : Answer). Unit {0}) (as_answer a) tt)

-- For a list within the limits that holds no name of an answer, where no scope that is reached binds a divisor with a switch outside arms.
pub refused_by_10_or_11 :
    (es : List Tree) → T (well_formed_all es) → T (holds_all (under 0) es) → T (within_limits es) → T (no_switch_bound es)
    → (i : Refusal) → answer true es ≡ refused i → (i ≡ by 10) ⊎ (i ≡ by 11)
refused_by_10_or_11 es w h l p i e = (unfold Fine in subst (Fine (λ (a : Answer). Unit {0})) e (answer_fine es w h l p))
