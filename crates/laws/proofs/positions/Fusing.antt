-- Switches collected, grouped and replaced, under other names of the list's symbols (01, "Scoped fusion"). Assumes nothing.
use Prim.Native.Nat.{ℕ, zero, suc, ◌+◌}
use mathlib.Core.Path.{◌≡◌, refl, sym, ◌∙◌, ap, ap₂, subst}
use mathlib.Core.Bool.{Bool, true, false, ◌&&◌}
use mathlib.Core.List.{List, [], ◌∷◌, ◌++◌, map}
use lib.ListN.{length, length-map}
use lib.Dec.{T, eqb}
use Rattle.spec_tree.specs.Outcome.{Outcome, ok, ◌>>=◌}
use Rattle.spec_tree.specs.Tree.{Name, mname, Tree, Forest, Sym, Const, Op, nil, ◌◂◌, operands}
use Rattle.spec_tree.specs.Kinds.{is_switch}
use Rattle.spec_tree.specs.Facts.{all_outer}
use Rattle.spec_tree.proofs.Logic.{and_left, and_right}
use Rattle.spec_tree.proofs.TokenLaws.{map_append}
use Rattle.spec_tree.proofs.TokenCode.{known_name, renamed_name, renamed as RenamedBy}
use Rattle.spec_rewrite.specs.Rewrite.{replace_outside_arms}
use Rattle.spec_rewrite.proofs.Names.{holds, holds_each}
use Rattle.spec_cse.specs.Extract.{Binding, State, distinct}
use Rattle.spec_cse.specs.Answer.{Intermediate, Intermediates, Arms, Let, Match, no_arm, arm, block}
use Rattle.spec_cse.specs.Scope.{Switch, switches, collect_switches, Group, joins, place, groups_from, members, replace_in_results, replace_in_stmts, Work, name_members, member_names, first_arms, rest_arms, columns, arms_of_members, Scoped, Armed, scope_arms, fuse_group, fuse_groups, binds, unfused}
use Rattle.laws.proofs.cse.Outcomes.{Good}
use Rattle.laws.proofs.positions.Renaming.{Renaming, named, renamed, renamed_each, is_known, Known, KnownEach, KnownAll, first_known, rest_known, both_known, none_known, eq_tree_renamed, all_outer_renamed, all_outer_known}
use Rattle.laws.proofs.positions.Choosing.{distinct_renamed, distinct_known}
use Rattle.laws.proofs.positions.Rewriting.{Agree, agree_ok, then_agree, outside_arms_renamed, outside_arms_known}
use Rattle.laws.proofs.positions.Extraction.{Every, every_append, renamed_binding, KnownBinding, renamed_state, KnownState}
use Rattle.laws.proofs.positions.Answers.{renamed_stmt, renamed_arms, KnownStmt, KnownArms, KnownNames, block_renamed, block_known}

module _ (R : Renaming) where
  pub match_name_known : (n : ℕ) → T (is_known R (mname n))
  unfolding known_name
  match_name_known n = tt

  -- ---- switches

  abbrev pub renamed_switch : Switch → Switch
  renamed_switch s = record { tree = renamed R s.tree; kind = s.kind; key = renamed R s.key; arms = map (renamed R) s.arms }

  abbrev pub KnownSwitch : Switch → Type 0
  KnownSwitch s = Known R s.tree × Known R s.key × KnownAll R s.arms

  operands_renamed : (f : Forest) → operands (renamed_each R f) ≡ map (renamed R) (operands f)
  unfolding operands RenamedBy
  operands_renamed nil = refl
  operands_renamed (t ◂ f) = ap (λ (l : List Tree). renamed R t ∷ l) (operands_renamed f)

  operands_known : (f : Forest) → KnownEach R f → KnownAll R (operands f)
  unfolding operands holds
  operands_known nil h = none_known R
  operands_known (t ◂ f) h =
      both_known R t (operands f) (and_left (holds (is_known R) t) (holds_each (is_known R) f) h) (operands_known f (and_right (holds (is_known R) t) (holds_each (is_known R) f) h))

  switch_step :
      (b : Bool) (s u : Switch) (p q : List Switch) → u ≡ renamed_switch s → p ≡ map renamed_switch q
      → ◌≡◌ {A = List Switch} (elim b [ true ↦ u ∷ p | false ↦ p ]) (map renamed_switch (elim b [ true ↦ s ∷ q | false ↦ q ]))
  switch_step true s u p q e h = ap₂ ◌∷◌ e h
  switch_step false s u p q e h = h

  pub switches_renamed : (l : List Tree) → switches (map (renamed R) l) ≡ map renamed_switch (switches l)
  unfolding switches RenamedBy
  switches_renamed [] = refl
  switches_renamed (Sym n ∷ l) = switches_renamed l
  switches_renamed (Const c ∷ l) = switches_renamed l
  switches_renamed (Op k nil ∷ l) = switches_renamed l
  switches_renamed (Op k (q ◂ f) ∷ l) =
      switch_step (is_switch k) (record { tree = Op k (q ◂ f); kind = k; key = q; arms = operands f })
      (record { tree = renamed R (Op k (q ◂ f)); kind = k; key = renamed R q; arms = operands (renamed_each R f) }) (switches (map (renamed R) l)) (switches l)
      (ap (λ (xs : List Tree). record { tree = renamed R (Op k (q ◂ f)); kind = k; key = renamed R q; arms = xs }) (operands_renamed f)) (switches_renamed l)

  switch_known_step : (b : Bool) (s : Switch) (q : List Switch) → KnownSwitch s → Every KnownSwitch q → Every KnownSwitch (elim b [ true ↦ s ∷ q | false ↦ q ])
  switch_known_step true s q e h = (e, h)
  switch_known_step false s q e h = h

  switches_known : (l : List Tree) → KnownAll R l → Every KnownSwitch (switches l)
  unfolding switches
  switches_known [] h = tt
  switches_known (Sym n ∷ l) h = switches_known l (rest_known R (Sym n) l h)
  switches_known (Const c ∷ l) h = switches_known l (rest_known R (Const c) l h)
  switches_known (Op k nil ∷ l) h = switches_known l (rest_known R (Op k nil) l h)
  switches_known (Op k (q ◂ f) ∷ l) h =
      let w = first_known R (Op k (q ◂ f)) l h in
      switch_known_step (is_switch k) (record { tree = Op k (q ◂ f); kind = k; key = q; arms = operands f }) (switches l) (
        w,
        unfold holds in and_left (holds (is_known R) q) (holds_each (is_known R) f) w,
        operands_known f (unfold holds in and_right (holds (is_known R) q) (holds_each (is_known R) f) w),
      )
      (switches_known l (rest_known R (Op k (q ◂ f)) l h))

  pub collect_renamed : (rs : List Tree) → KnownAll R rs → collect_switches (map (renamed R) rs) ≡ map renamed_switch (collect_switches rs)
  unfolding collect_switches
  collect_renamed rs h =
      ap (λ (l : List Tree). switches (distinct [] l)) (all_outer_renamed R rs)
      ∙ ap switches (distinct_renamed R [] (all_outer rs) (none_known R) (all_outer_known R rs h))
      ∙ switches_renamed (distinct [] (all_outer rs))

  pub collect_known : (rs : List Tree) → KnownAll R rs → Every KnownSwitch (collect_switches rs)
  unfolding collect_switches
  collect_known rs h = switches_known (distinct [] (all_outer rs)) (distinct_known R [] (all_outer rs) (all_outer_known R rs h))

  -- ---- groups

  abbrev pub renamed_group : Group → Group
  renamed_group g = record { first = renamed_switch g.first; others = map renamed_switch g.others }

  abbrev pub KnownGroup : Group → Type 0
  KnownGroup g = KnownSwitch g.first × Every KnownSwitch g.others

  joins_renamed : (a b : Switch) → KnownSwitch a → KnownSwitch b → joins (renamed_switch a) (renamed_switch b) ≡ joins a b
  unfolding joins
  joins_renamed a b h g =
      ap (λ (x : Bool). eqb a.kind b.kind && x)
      (ap₂ ◌&&◌ (eq_tree_renamed R a.key b.key h.1 g.1) (ap₂ eqb (length-map a.arms (renamed R)) (length-map b.arms (renamed R))))

  place_step :
      (b c : Bool) → b ≡ c → (g : Group) (s : Switch) (l p q : List Group) → p ≡ map renamed_group q → let r = renamed_group g in
      ◌≡◌ {A = List Group} (elim b [ true ↦ record { first = r.first; others = r.others ++ (renamed_switch s ∷ []) } ∷ map renamed_group l | false ↦ r ∷ p ])
      (map renamed_group (elim c [ true ↦ record { first = g.first; others = g.others ++ (s ∷ []) } ∷ l | false ↦ g ∷ q ]))
  place_step b c e g s l p q h = rw e (go c)
    where
      go : (c : Bool) → let r = renamed_group g in
          ◌≡◌ {A = List Group} (elim c [ true ↦ record { first = r.first; others = r.others ++ (renamed_switch s ∷ []) } ∷ map renamed_group l | false ↦ r ∷ p ])
          (map renamed_group (elim c [ true ↦ record { first = g.first; others = g.others ++ (s ∷ []) } ∷ l | false ↦ g ∷ q ]))
      go true =
          ap (λ (o : List Switch). record { first = renamed_switch g.first; others = o } ∷ map renamed_group l) (sym (map_append renamed_switch g.others (s ∷ [])))
      go false = ap (λ (m : List Group). renamed_group g ∷ m) h

  place_renamed :
      (s : Switch) (l : List Group) → KnownSwitch s → Every KnownGroup l → place (renamed_switch s) (map renamed_group l) ≡ map renamed_group (place s l)
  unfolding place
  place_renamed s [] h k = refl
  place_renamed s (g ∷ l) h k =
      place_step (joins (renamed_switch g.first) (renamed_switch s)) (joins g.first s) (joins_renamed g.first s k.0.0 h) g s l
      (place (renamed_switch s) (map renamed_group l)) (place s l) (place_renamed s l h k.1)

  place_known_step :
      (c : Bool) (g : Group) (s : Switch) (l q : List Group) → KnownGroup g → KnownSwitch s → Every KnownGroup l → Every KnownGroup q
      → Every KnownGroup (elim c [ true ↦ record { first = g.first; others = g.others ++ (s ∷ []) } ∷ l | false ↦ g ∷ q ])
  place_known_step true g s l q a b c d = ((a.0, every_append KnownSwitch g.others (s ∷ []) a.1 (b, tt)), c)
  place_known_step false g s l q a b c d = (a, d)

  place_known : (s : Switch) (l : List Group) → KnownSwitch s → Every KnownGroup l → Every KnownGroup (place s l)
  unfolding place
  place_known s [] h k = ((h, tt), tt)
  place_known s (g ∷ l) h k = place_known_step (joins g.first s) g s l (place s l) k.0 h k.1 (place_known s l h k.1)

  pub groups_renamed :
      (gs : List Group) (l : List Switch) → Every KnownGroup gs → Every KnownSwitch l
      → groups_from (map renamed_group gs) (map renamed_switch l) ≡ map renamed_group (groups_from gs l)
  unfolding groups_from
  groups_renamed gs [] h k = refl
  groups_renamed gs (s ∷ l) h k =
      ap (λ (m : List Group). groups_from m (map renamed_switch l)) (place_renamed s gs k.0 h) ∙ groups_renamed (place s gs) l (place_known s gs k.0 h) k.1

  pub groups_known : (gs : List Group) (l : List Switch) → Every KnownGroup gs → Every KnownSwitch l → Every KnownGroup (groups_from gs l)
  unfolding groups_from
  groups_known gs [] h k = h
  groups_known gs (s ∷ l) h k = groups_known (place s gs) l (place_known s gs k.0 h) k.1

  -- ---- members by their names

  abbrev pub renamed_work : Work → Work
  renamed_work w = record { results = map (renamed R) w.results; inters = map (renamed_stmt R) w.inters; next = w.next; extracted = w.extracted }

  abbrev pub KnownWork : Work → Type 0
  KnownWork w = KnownAll R w.results × Every (KnownStmt R) w.inters

  module _ (m : Tree) (n : ℕ) (member_known : Known R m) where
    results_renamed : (l : List Tree) → KnownAll R l → replace_in_results (renamed R m) (mname n) (map (renamed R) l) ≡ map (renamed R) (replace_in_results m (mname n) l)
    unfolding replace_in_results renamed_name
    results_renamed [] h = refl
    results_renamed (t ∷ l) h =
        ap₂ ◌∷◌ (outside_arms_renamed R m (mname n) member_known (match_name_known n) t (first_known R t l h)) (results_renamed l (rest_known R t l h))

    results_known : (l : List Tree) → KnownAll R l → KnownAll R (replace_in_results m (mname n) l)
    unfolding replace_in_results
    results_known [] h = h
    results_known (t ∷ l) h =
        both_known R (replace_outside_arms m (mname n) t) (replace_in_results m (mname n) l)
        (outside_arms_known R m (mname n) member_known (match_name_known n) t (first_known R t l h)) (results_known l (rest_known R t l h))

    stmts_replaced :
        (l : List Intermediate) → Every (KnownStmt R) l
        → replace_in_stmts (renamed R m) (mname n) (map (renamed_stmt R) l) ≡ map (renamed_stmt R) (replace_in_stmts m (mname n) l)
    unfolding replace_in_stmts renamed_stmt KnownStmt renamed_name
    stmts_replaced [] h = refl
    stmts_replaced (Let a e ∷ l) h =
        ap₂ (λ (t : Tree) (r : List Intermediate). Let (named R a) t ∷ r) (outside_arms_renamed R m (mname n) member_known (match_name_known n) e h.0.1) (stmts_replaced l h.1)
    stmts_replaced (Match k key ns arms ∷ l) h =
        ap₂ (λ (t : Tree) (r : List Intermediate). Match k t (map (named R) ns) (renamed_arms R arms) ∷ r)
        (outside_arms_renamed R m (mname n) member_known (match_name_known n) key h.0.0) (stmts_replaced l h.1)

    stmts_replaced_known : (l : List Intermediate) → Every (KnownStmt R) l → Every (KnownStmt R) (replace_in_stmts m (mname n) l)
    unfolding replace_in_stmts KnownStmt
    stmts_replaced_known [] h = tt
    stmts_replaced_known (Let a e ∷ l) h = ((h.0.0, outside_arms_known R m (mname n) member_known (match_name_known n) e h.0.1), stmts_replaced_known l h.1)
    stmts_replaced_known (Match k key ns arms ∷ l) h =
        ((outside_arms_known R m (mname n) member_known (match_name_known n) key h.0.0, h.0.1, h.0.2), stmts_replaced_known l h.1)

  -- what the members after the first find
  one_named : Switch → Work → Work
  one_named s w =
      record {
        results = replace_in_results s.tree (mname w.next) w.results;
        inters = replace_in_stmts s.tree (mname w.next) w.inters;
        next = suc w.next;
        extracted = w.extracted;
      }

  one_named_renamed : (s : Switch) (w : Work) → KnownSwitch s → KnownWork w → one_named (renamed_switch s) (renamed_work w) ≡ renamed_work (one_named s w)
  unfolding one_named
  one_named_renamed s w h k =
      ap₂ (λ (rs : List Tree) (ss : List Intermediate). record { results = rs; inters = ss; next = suc w.next; extracted = w.extracted })
      (results_renamed s.tree w.next h.0 w.results k.0) (stmts_replaced s.tree w.next h.0 w.inters k.1)

  one_named_known : (s : Switch) (w : Work) → KnownSwitch s → KnownWork w → KnownWork (one_named s w)
  unfolding one_named
  one_named_known s w h k = (results_known s.tree w.next h.0 w.results k.0, stmts_replaced_known s.tree w.next h.0 w.inters k.1)

  name_members_cons : (s : Switch) (l : List Switch) (w : Work) → name_members (s ∷ l) w ≡ name_members l (one_named s w)
  unfolding name_members one_named
  name_members_cons s l w = refl

  name_members_nil : (w : Work) → name_members [] w ≡ w
  unfolding name_members
  name_members_nil w = refl

  pub name_members_renamed :
      (l : List Switch) (w : Work) → Every KnownSwitch l → KnownWork w → name_members (map renamed_switch l) (renamed_work w) ≡ renamed_work (name_members l w)
  name_members_renamed [] w h k = name_members_nil (renamed_work w) ∙ ap renamed_work (sym (name_members_nil w))
  name_members_renamed (s ∷ l) w h k =
      name_members_cons (renamed_switch s) (map renamed_switch l) (renamed_work w)
      ∙ ap (name_members (map renamed_switch l)) (one_named_renamed s w h.0 k)
      ∙ name_members_renamed l (one_named s w) h.1 (one_named_known s w h.0 k)
      ∙ ap renamed_work (sym (name_members_cons s l w))

  pub name_members_known : (l : List Switch) (w : Work) → Every KnownSwitch l → KnownWork w → KnownWork (name_members l w)
  name_members_known [] w h k = rw (name_members_nil w) k
  name_members_known (s ∷ l) w h k = rw (name_members_cons s l w) (name_members_known l (one_named s w) h.1 (one_named_known s w h.0 k))

  member_names_renamed : (i : ℕ) (l : List Switch) → member_names i (map renamed_switch l) ≡ map (named R) (member_names i l)
  unfolding member_names renamed_name
  member_names_renamed i [] = refl
  member_names_renamed i (s ∷ l) = ap (λ (r : List Name). mname i ∷ r) (member_names_renamed (suc i) l)

  member_names_known : (i : ℕ) (l : List Switch) → KnownNames R (member_names i l)
  unfolding member_names
  member_names_known i [] = tt
  member_names_known i (s ∷ l) = (match_name_known i, member_names_known (suc i) l)

  -- ---- arms

  abbrev renamed_lists : List (List Tree) → List (List Tree)
  renamed_lists = map (map (renamed R))

  first_arms_renamed : (l : List (List Tree)) → first_arms (renamed_lists l) ≡ map (renamed R) (first_arms l)
  unfolding first_arms
  first_arms_renamed [] = refl
  first_arms_renamed ([] ∷ l) = first_arms_renamed l
  first_arms_renamed ((t ∷ ts) ∷ l) = ap (λ (r : List Tree). renamed R t ∷ r) (first_arms_renamed l)

  rest_arms_renamed : (l : List (List Tree)) → rest_arms (renamed_lists l) ≡ renamed_lists (rest_arms l)
  unfolding rest_arms
  rest_arms_renamed [] = refl
  rest_arms_renamed ([] ∷ l) = ap (λ (r : List (List Tree)). [] ∷ r) (rest_arms_renamed l)
  rest_arms_renamed ((t ∷ ts) ∷ l) = ap (λ (r : List (List Tree)). map (renamed R) ts ∷ r) (rest_arms_renamed l)

  columns_renamed : (k : ℕ) (l : List (List Tree)) → columns k (renamed_lists l) ≡ renamed_lists (columns k l)
  unfolding columns
  columns_renamed zero l = refl
  columns_renamed (suc k) l = ap₂ ◌∷◌ (first_arms_renamed l) (ap (columns k) (rest_arms_renamed l) ∙ columns_renamed k (rest_arms l))

  arms_of_renamed : (l : List Switch) → arms_of_members (map renamed_switch l) ≡ renamed_lists (arms_of_members l)
  unfolding arms_of_members
  arms_of_renamed [] = refl
  arms_of_renamed (s ∷ l) = ap (λ (r : List (List Tree)). map (renamed R) s.arms ∷ r) (arms_of_renamed l)

  first_arms_known : (l : List (List Tree)) → Every (KnownAll R) l → KnownAll R (first_arms l)
  unfolding first_arms
  first_arms_known [] h = none_known R
  first_arms_known ([] ∷ l) h = first_arms_known l h.1
  first_arms_known ((t ∷ ts) ∷ l) h = both_known R t (first_arms l) (first_known R t ts h.0) (first_arms_known l h.1)

  rest_arms_known : (l : List (List Tree)) → Every (KnownAll R) l → Every (KnownAll R) (rest_arms l)
  unfolding rest_arms
  rest_arms_known [] h = tt
  rest_arms_known ([] ∷ l) h = (none_known R, rest_arms_known l h.1)
  rest_arms_known ((t ∷ ts) ∷ l) h = (rest_known R t ts h.0, rest_arms_known l h.1)

  columns_known : (k : ℕ) (l : List (List Tree)) → Every (KnownAll R) l → Every (KnownAll R) (columns k l)
  unfolding columns
  columns_known zero l h = tt
  columns_known (suc k) l h = (first_arms_known l h, columns_known k (rest_arms l) (rest_arms_known l h))

  arms_of_known : (l : List Switch) → Every KnownSwitch l → Every (KnownAll R) (arms_of_members l)
  unfolding arms_of_members
  arms_of_known [] h = tt
  arms_of_known (s ∷ l) h = (h.0.2, arms_of_known l h.1)

  -- ---- scopes of arms

  abbrev pub renamed_scoped : Scoped → Scoped
  renamed_scoped a = record { inters = map (renamed_stmt R) a.inters; results = map (renamed R) a.results; next = a.next; extracted = a.extracted }

  abbrev pub KnownScoped : Scoped → Type 0
  KnownScoped a = Every (KnownStmt R) a.inters × KnownAll R a.results

  abbrev renamed_armed : Armed → Armed
  renamed_armed a = record { arms = renamed_arms R a.arms; next = a.next; extracted = a.extracted }

  abbrev KnownArmed : Armed → Type 0
  KnownArmed a = KnownArms R a.arms

  module _
      (scope sense : ℕ → List Tree → Outcome Scoped)
      (same : (n : ℕ) (l : List Tree) → KnownAll R l → Agree KnownScoped renamed_scoped (scope n l) (sense n (map (renamed R) l)))
    where
      armed_known : (a : Scoped) (r : Armed) → KnownScoped a → KnownArmed r → KnownArms R (arm (block a.inters) a.results r.arms)
      unfolding KnownArms
      armed_known a r h k = (block_known R a.inters h.0, h.1, k)

      armed_renamed :
          (a : Scoped) (r : Armed)
          → arm (block (map (renamed_stmt R) a.inters)) (map (renamed R) a.results) (renamed_arms R r.arms) ≡ renamed_arms R (arm (block a.inters) a.results r.arms)
      unfolding renamed_arms
      armed_renamed a r = ap (λ (s : Intermediates). arm s (map (renamed R) a.results) (renamed_arms R r.arms)) (block_renamed R a.inters)

      no_arm_agrees : (next : ℕ) → Agree KnownArmed renamed_armed (ok (record { arms = no_arm; next = next; extracted = 0 })) (ok (record { arms = no_arm; next = next; extracted = 0 }))
      unfolding Good KnownArms renamed_arms
      no_arm_agrees next = (tt, refl)

      scope_arms_renamed :
          (next : ℕ) (l : List (List Tree)) → Every (KnownAll R) l → Agree KnownArmed renamed_armed (scope_arms scope next l) (scope_arms sense next (renamed_lists l))
      unfolding scope_arms
      scope_arms_renamed next [] h = no_arm_agrees next
      scope_arms_renamed next (es ∷ l) h =
          let put : Scoped → Armed → Armed = λ a r. record { arms = arm (block a.inters) a.results r.arms; next = r.next; extracted = a.extracted + r.extracted } in
          then_agree KnownScoped renamed_scoped KnownArmed renamed_armed (scope next es) (sense next (map (renamed R) es)) (same next es h.0)
          (λ a. scope_arms scope a.next l >>= λ r. ok (put a r)) (λ a. scope_arms sense a.next (renamed_lists l) >>= λ r. ok (put a r))
          (λ a q.
          then_agree KnownArmed renamed_armed KnownArmed renamed_armed (scope_arms scope a.next l) (scope_arms sense a.next (renamed_lists l))
          (scope_arms_renamed a.next l h.1) (λ r. ok (put a r)) (λ r. ok (put (renamed_scoped a) r))
          (λ r z. (
            (agree_ok KnownArmed renamed_armed (put a r) (armed_known a r q z)).0,
            ap (λ (xs : Arms). ok (record { arms = xs; next = r.next; extracted = a.extracted + r.extracted })) (armed_renamed a r),
          )))

      -- a group's match at the end of the statements
      abbrev fused : Group → Work → ℕ → Armed → Work
      fused g v n a =
          record {
            results = v.results;
            inters = v.inters ++ (Match g.first.kind g.first.key (member_names n (members g)) a.arms ∷ []);
            next = a.next;
            extracted = v.extracted + a.extracted;
          }

      match_renamed :
          (g : Group) (n : ℕ) (a : Armed)
          → Match g.first.kind (renamed R g.first.key) (member_names n (map renamed_switch (members g))) (renamed_arms R a.arms)
          ≡ renamed_stmt R (Match g.first.kind g.first.key (member_names n (members g)) a.arms)
      unfolding renamed_stmt
      match_renamed g n a =
          ap (λ (ns : List Name). Match g.first.kind (renamed R g.first.key) ns (renamed_arms R a.arms)) (member_names_renamed n (members g))

      fused_renamed : (g : Group) (v : Work) (n : ℕ) (a : Armed) → fused (renamed_group g) (renamed_work v) n (renamed_armed a) ≡ renamed_work (fused g v n a)
      unfolding members
      fused_renamed g v n a =
          ap (λ (l : List Intermediate). record { results = map (renamed R) v.results; inters = l; next = a.next; extracted = v.extracted + a.extracted })
          (ap (λ (s : Intermediate). map (renamed_stmt R) v.inters ++ (s ∷ [])) (match_renamed g n a)
          ∙ sym (map_append (renamed_stmt R) v.inters (Match g.first.kind g.first.key (member_names n (members g)) a.arms ∷ [])))

      fused_known : (g : Group) (v : Work) (n : ℕ) (a : Armed) → KnownGroup g → KnownWork v → KnownArmed a → KnownWork (fused g v n a)
      unfolding KnownStmt
      fused_known g v n a h k z = (
        k.0,
        every_append (KnownStmt R) v.inters (Match g.first.kind g.first.key (member_names n (members g)) a.arms ∷ []) k.1
            ((h.0.1, member_names_known n (members g), z), tt),
      )

      pub fuse_group_renamed : (g : Group) (w : Work) → KnownGroup g → KnownWork w → Agree KnownWork renamed_work (fuse_group scope g w) (fuse_group sense (renamed_group g) (renamed_work w))
      unfolding fuse_group members
      fuse_group_renamed g w h k =
          let ms = members g in
          let v = name_members ms w in
          let cols = columns (length g.first.arms) (arms_of_members ms) in
          let vk = name_members_known ms w h k in
          let from : Work → List (List Tree) → Outcome Work = λ v cs. (scope_arms sense v.next cs >>= λ a. ok (fused (renamed_group g) v w.next a)) in
          let cols_same : columns (length (map (renamed R) g.first.arms)) (arms_of_members (map renamed_switch ms)) ≡ renamed_lists cols =
          ap₂ columns (length-map g.first.arms (renamed R)) (arms_of_renamed ms) ∙ columns_renamed (length g.first.arms) (arms_of_members ms) in
          let e : fuse_group sense (renamed_group g) (renamed_work w) ≡ from (renamed_work v) (renamed_lists cols) = ap₂ from (name_members_renamed ms w h k) cols_same in
          subst (λ (u : Outcome Work). Agree KnownWork renamed_work (fuse_group scope g w) u) (sym e)
          (then_agree KnownArmed renamed_armed KnownWork renamed_work (scope_arms scope v.next cols) (scope_arms sense v.next (renamed_lists cols))
          (scope_arms_renamed v.next cols (columns_known (length g.first.arms) (arms_of_members ms) (arms_of_known ms h))) (λ a. ok (fused g v w.next a))
          (λ a. ok (fused (renamed_group g) (renamed_work v) w.next a))
          (λ a z. ((agree_ok KnownWork renamed_work (fused g v w.next a) (fused_known g v w.next a h vk z)).0, ap ok (fused_renamed g v w.next a))))

      pub fuse_groups_renamed :
          (l : List Group) (w : Work) → Every KnownGroup l → KnownWork w
          → Agree KnownWork renamed_work (fuse_groups scope l w) (fuse_groups sense (map renamed_group l) (renamed_work w))
      unfolding fuse_groups
      fuse_groups_renamed [] w h k = agree_ok KnownWork renamed_work w k
      fuse_groups_renamed (g ∷ l) w h k =
          then_agree KnownWork renamed_work KnownWork renamed_work (fuse_group scope g w) (fuse_group sense (renamed_group g) (renamed_work w))
          (fuse_group_renamed g w h.0 k) (λ v. fuse_groups scope l v) (λ v. fuse_groups sense (map renamed_group l) v) (λ v z. fuse_groups_renamed l v h.1 z)

  binds_renamed : (l : List Binding) → binds (map (renamed_binding R) l) ≡ map (renamed_stmt R) (binds l)
  unfolding binds renamed_stmt
  binds_renamed [] = refl
  binds_renamed (b ∷ l) = ap (λ (r : List Intermediate). Let (named R b.name) (renamed R b.expr) ∷ r) (binds_renamed l)

  binds_known : (l : List Binding) → Every (KnownBinding R) l → Every (KnownStmt R) (binds l)
  unfolding binds KnownStmt
  binds_known [] h = tt
  binds_known (b ∷ l) h = (h.0, binds_known l h.1)

  pub unfused_renamed : (x : ℕ) (s : State) → unfused x (renamed_state R s) ≡ renamed_work (unfused x s)
  unfolding unfused
  unfused_renamed x s =
      ap (λ (l : List Intermediate). record { results = map (renamed R) s.results; inters = l; next = s.next; extracted = x }) (binds_renamed s.lets)

  pub unfused_known : (x : ℕ) (s : State) → KnownState R s → KnownWork (unfused x s)
  unfolding unfused
  unfused_known x s h = (h.0, binds_known s.lets h.1)
