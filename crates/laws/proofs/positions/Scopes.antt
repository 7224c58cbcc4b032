-- `cse_scope`, `cse` and `cse_scoped` under other names of the list's symbols: the same answer, renamed, where texts are those of the renamed trees. Assumes
-- nothing.
use Prim.Native.Nat.{ℕ, zero, suc, ◌+◌, ◌-◌}
use mathlib.Core.Path.{◌≡◌, refl, sym, ◌∙◌, ap, ap₂, subst}
use mathlib.Core.Bool.{Bool, true, false, ◌&&◌}
use mathlib.Core.List.{List, [], ◌∷◌, map}
use native.Mathlib.Omega.{arith}
use lib.ListN.{length, length-map}
use lib.Dec.{leb}
use Rattle.spec_tree.specs.Outcome.{Outcome, ok, refused, by, ◌>>=◌}
use Rattle.spec_tree.specs.Tree.{Tree}
use Rattle.spec_tree.specs.Facts.{outer}
use Rattle.spec_tree.specs.Rows.{occurrences}
use Rattle.spec_cse.specs.Extract.{Binding, State, extract_all, reciprocals, roots}
use Rattle.spec_cse.specs.Answer.{Intermediate}
use Rattle.spec_cse.specs.Order.{topo_sort_intermediates}
use Rattle.spec_cse.specs.Scope.{Switch, Work, Scoped, switches, collect_switches, groups_from, fuse_groups, fuse_all, unfused, finish, some_switch, holds_switch, held_bindings, held, left_after, most_switches, statements, most_stmts, has_room, fuse_held, scope_rows, most_number, opens, area_rows, scopes_open, cse_scope, as_answer, answer}
use Rattle.laws.proofs.cse.Outcomes.{Good}
use Rattle.laws.specs.positions.Shown.{extract_all_by, reciprocals_by, cse_scope_by, answer_by}
use Rattle.laws.proofs.positions.Renaming.{Renaming, renamed, KnownAll, occurrences_renamed, outer_renamed}
use Rattle.laws.proofs.positions.Rewriting.{Agree, agree_ok, then_agree}
use Rattle.laws.proofs.positions.Extraction.{Every, shown, renamed_binding, renamed_state, KnownState, roots_renamed, roots_known, extract_all_renamed, reciprocals_renamed, reciprocals_known}
use Rattle.laws.proofs.positions.Answers.{renamed_stmt, KnownStmt, renamed_answer, KnownAnswer, block_renamed, block_known}
use Rattle.laws.proofs.positions.Ordering.{topo_sort_renamed}
use Rattle.laws.proofs.positions.Fusing.{renamed_switch, switches_renamed, renamed_group, groups_renamed, groups_known, collect_renamed, collect_known, renamed_work, KnownWork, renamed_scoped, KnownScoped, fuse_groups_renamed, unfused_renamed, unfused_known}
use Rattle.spec_tree.proofs.Lists.{occurrences_append}

module _ (R : Renaming) where
  finish_renamed : (w : Work) → KnownWork R w → Agree (KnownScoped R) (renamed_scoped R) (finish w) (finish (renamed_work R w))
  unfolding finish
  finish_renamed w h =
      let put : List Intermediate → Scoped = λ l. record { inters = l; results = w.results; next = w.next; extracted = w.extracted } in
      then_agree (Every (KnownStmt R)) (map (renamed_stmt R)) (KnownScoped R) (renamed_scoped R) (topo_sort_intermediates w.inters)
      (topo_sort_intermediates (map (renamed_stmt R) w.inters)) (topo_sort_renamed R w.inters h.1) (λ l. ok (put l))
      (λ l. ok (record { inters = l; results = map (renamed R) w.results; next = w.next; extracted = w.extracted }))
      (λ l z. agree_ok (KnownScoped R) (renamed_scoped R) (put l) (z, h.0))

  -- the groups of a state
  state_groups_renamed :
      (s : State) → KnownState R s
      → groups_from [] (collect_switches (roots (renamed_state R s))) ≡ map (renamed_group R) (groups_from [] (collect_switches (roots s)))
  state_groups_renamed s h =
      let k = roots_known R s h in
      let ss = collect_switches (roots s) in
      ap (λ (l : List Tree). groups_from [] (collect_switches l)) (roots_renamed R s)
      ∙ ap (groups_from []) (collect_renamed R (roots s) k)
      ∙ groups_renamed R [] ss tt (collect_known R (roots s) k)

  -- bindings and switches of a state whose extraction is done
  module _
      (scope sense : ℕ → List Tree → Outcome Scoped)
      (same : (n : ℕ) (l : List Tree) → KnownAll R l → Agree (KnownScoped R) (renamed_scoped R) (scope n l) (sense n (map (renamed R) l)))
    where
      pub fuse_all_renamed : (x : ℕ) (s : State) → KnownState R s → Agree (KnownWork R) (renamed_work R) (fuse_all scope x s) (fuse_all sense x (renamed_state R s))
      unfolding fuse_all
      fuse_all_renamed x s h =
          let k = roots_known R s h in
          let ss = collect_switches (roots s) in
          let gs = groups_from [] ss in
          let whole : fuse_all sense x (renamed_state R s) ≡ fuse_groups sense (map (renamed_group R) gs) (renamed_work R (unfused x s)) =
          ap₂ (fuse_groups sense) (state_groups_renamed s h) (unfused_renamed R x s) in
          subst (λ (u : Outcome Work). Agree (KnownWork R) (renamed_work R) (fuse_all scope x s) u) (sym whole)
          (fuse_groups_renamed R scope sense same gs (unfused x s) (groups_known R [] ss tt (collect_known R (roots s) k)) (unfused_known R x s h))

  -- the count of bindings is the same
  flat_step :
      (s : State) → KnownState R s
      → Agree (KnownScoped R) (renamed_scoped R) (finish (unfused (length s.lets) (reciprocals_by (shown R) false s)))
      (finish (unfused (length (map (renamed_binding R) s.lets)) (reciprocals false (renamed_state R s))))
  flat_step s h =
      let t = reciprocals_by (shown R) false s in
      let x = length s.lets in
      let e : unfused (length (map (renamed_binding R) s.lets)) (reciprocals false (renamed_state R s)) ≡ renamed_work R (unfused x t) =
      ap₂ unfused (length-map s.lets (renamed_binding R)) (reciprocals_renamed R false s h) ∙ unfused_renamed R x t in
      subst (λ (w : Work). Agree (KnownScoped R) (renamed_scoped R) (finish (unfused x t)) (finish w)) (sym e)
      (finish_renamed (unfused x t) (unfused_known R x t (reciprocals_known R false s h)))

  refused_agrees : Agree (KnownScoped R) (renamed_scoped R) (refused (by 23)) (refused (by 23))
  unfolding Good
  refused_agrees = (tt, refl)

  room_step :
      (b : Bool) (p q : Outcome Scoped) → Agree (KnownScoped R) (renamed_scoped R) p q
      → Agree (KnownScoped R) (renamed_scoped R) (elim b [ true ↦ p | false ↦ refused (by 23) ]) (elim b [ true ↦ q | false ↦ refused (by 23) ])
  room_step true p q h = h
  room_step false p q h = refused_agrees

  -- what a scope holds is the same
  some_renamed : (l : List Switch) → some_switch (map (renamed_switch R) l) ≡ some_switch l
  unfolding some_switch
  some_renamed [] = refl
  some_renamed (s ∷ l) = refl

  holds_switch_renamed : (e : Tree) → holds_switch (renamed R e) ≡ holds_switch e
  unfolding holds_switch
  holds_switch_renamed e =
      ap (λ (l : List Tree). some_switch (switches l)) (outer_renamed R e) ∙ ap some_switch (switches_renamed R (outer e)) ∙ some_renamed (switches (outer e))

  one_held : (b c : Bool) (e : Tree) (p q : List Tree) → b ≡ c → p ≡ map (renamed R) q
      → ◌≡◌ {A = List Tree} (elim b [ true ↦ renamed R e ∷ p | false ↦ p ]) (map (renamed R) (elim c [ true ↦ e ∷ q | false ↦ q ]))
  one_held true true e p q h g = ap (λ (l : List Tree). renamed R e ∷ l) g
  one_held true false e p q h g = (let z : ◌≡◌ {A = ℕ} 0 1 = cc in absurd (omega arith))
  one_held false true e p q h g = (let z : ◌≡◌ {A = ℕ} 0 1 = cc in absurd (omega arith))
  one_held false false e p q h g = g

  held_bindings_renamed : (x : ℕ) (l : List Binding) → held_bindings x (map (renamed_binding R) l) ≡ map (renamed R) (held_bindings x l)
  unfolding held_bindings
  held_bindings_renamed x [] = refl
  held_bindings_renamed zero (b ∷ l) =
      one_held (holds_switch (renamed R b.expr)) (holds_switch b.expr) b.expr (held_bindings zero (map (renamed_binding R) l)) (held_bindings zero l) (holds_switch_renamed b.expr)
      (held_bindings_renamed zero l)
  held_bindings_renamed (suc x) (b ∷ l) = ap (λ (r : List Tree). renamed R b.expr ∷ r) (held_bindings_renamed x l)

  held_renamed : (x : ℕ) (s : State) → occurrences (held x (renamed_state R s)) ≡ occurrences (held x s)
  unfolding held
  held_renamed x s =
      occurrences_append (map (renamed R) s.results) (held_bindings x (map (renamed_binding R) s.lets))
      ∙ ap₂ ◌+◌ (occurrences_renamed R s.results) (ap occurrences (held_bindings_renamed x s.lets) ∙ occurrences_renamed R (held_bindings x s.lets))
      ∙ sym (occurrences_append s.results (held_bindings x s.lets))

  statements_renamed : (s : State) → KnownState R s → statements (renamed_state R s) ≡ statements s
  unfolding statements
  statements_renamed s h =
      ap₂ ◌+◌ (length-map s.lets (renamed_binding R)) (ap length (state_groups_renamed s h) ∙ length-map (groups_from [] (collect_switches (roots s))) (renamed_group R))

  -- as many rows are left
  left_renamed : (left x : ℕ) (s : State) → left_after left x (renamed_state R s) ≡ left_after left x s
  unfolding left_after
  left_renamed left x s = ap (λ (m : ℕ). left - m) (held_renamed x s)

  -- and there are as many switches
  collected_renamed : (s : State) → KnownState R s → length (collect_switches (roots (renamed_state R s))) ≡ length (collect_switches (roots s))
  collected_renamed s h =
      ap (λ (l : List Tree). length (collect_switches l)) (roots_renamed R s)
      ∙ ap length (collect_renamed R (roots s) (roots_known R s h))
      ∙ length-map (collect_switches (roots s)) (renamed_switch R)

  room_renamed : (left x : ℕ) (s : State) → KnownState R s → has_room left x (renamed_state R s) ≡ has_room left x s
  unfolding has_room
  room_renamed left x s h =
      ap (λ (m : ℕ). leb m left && (leb (length (collect_switches (roots (renamed_state R s)))) most_switches && leb (statements (renamed_state R s)) most_stmts)) (held_renamed x s)
      ∙ ap₂ (λ (m n : ℕ). leb (occurrences (held x s)) left && (leb m most_switches && leb n most_stmts)) (collected_renamed s h) (statements_renamed s h)

  scoped_step :
      (scope sense : ℕ → ℕ → List Tree → Outcome Scoped)
      → ((m n : ℕ) (l : List Tree) → KnownAll R l → Agree (KnownScoped R) (renamed_scoped R) (scope m n l) (sense m n (map (renamed R) l)))
      → (left : ℕ) (s : State) → KnownState R s
      → Agree (KnownScoped R) (renamed_scoped R)
      (fuse_held (scope (left_after left (length s.lets) (reciprocals_by (shown R) true s))) left (length s.lets) (reciprocals_by (shown R) true s))
      (fuse_held (sense (left_after left (length (map (renamed_binding R) s.lets)) (reciprocals true (renamed_state R s)))) left (length (map (renamed_binding R) s.lets))
      (reciprocals true (renamed_state R s)))
  unfolding fuse_held
  scoped_step scope sense same left s h =
      let t = reciprocals_by (shown R) true s in
      let x = length s.lets in
      let m = left_after left x t in
      let whole : ℕ → State → Outcome Scoped = λ y u. fuse_held (sense (left_after left y u)) left y u in
      let e : whole (length (map (renamed_binding R) s.lets)) (reciprocals true (renamed_state R s)) ≡ fuse_held (sense m) left x (renamed_state R t) =
      ap₂ whole (length-map s.lets (renamed_binding R)) (reciprocals_renamed R true s h)
      ∙ ap (λ (i : ℕ). fuse_held (sense i) left x (renamed_state R t)) (left_renamed left x t) in
      let from : Bool → Outcome Scoped = λ b.
      elim b as (λ _. Outcome Scoped) [ true ↦ (fuse_all (sense m) x (renamed_state R t) >>= λ w. finish w) | false ↦ refused (by 23) ] in
      subst (λ (u : Outcome Scoped). Agree (KnownScoped R) (renamed_scoped R) (fuse_held (scope m) left x t) u) (sym e)
      (subst (λ (b : Bool). Agree (KnownScoped R) (renamed_scoped R) (fuse_held (scope m) left x t) (from b)) (sym (room_renamed left x t (reciprocals_known R true s h)))
      (room_step (has_room left x t) (fuse_all (scope m) x t >>= λ w. finish w) (fuse_all (sense m) x (renamed_state R t) >>= λ w. finish w)
      (then_agree (KnownWork R) (renamed_work R) (KnownScoped R) (renamed_scoped R) (fuse_all (scope m) x t) (fuse_all (sense m) x (renamed_state R t))
      (fuse_all_renamed (scope m) (sense m) (same m) x t (reciprocals_known R true s h)) (λ w. finish w) (λ w. finish w) (λ w z. finish_renamed w z))))

  pub cse_scope_renamed :
      (fuel left : ℕ) (scoped : Bool) (next : ℕ) (es : List Tree) → KnownAll R es
      → Agree (KnownScoped R) (renamed_scoped R) (cse_scope_by (shown R) fuel left scoped next es) (cse_scope fuel left scoped next (map (renamed R) es))
  unfolding cse_scope cse_scope_by opens
  cse_scope_renamed zero left scoped next es h = refused_agrees
  cse_scope_renamed (suc fuel) left false next es h =
      then_agree (KnownState R) (renamed_state R) (KnownScoped R) (renamed_scoped R) (extract_all_by (shown R) false next es) (extract_all false next (map (renamed R) es))
      (extract_all_renamed R false next es h) (λ s. finish (unfused (length s.lets) (reciprocals_by (shown R) false s)))
      (λ s. finish (unfused (length s.lets) (reciprocals false s))) (λ s z. flat_step s z)
  cse_scope_renamed (suc fuel) left true next es h =
      let scope : ℕ → ℕ → List Tree → Outcome Scoped = λ m n l. cse_scope_by (shown R) fuel m true n l in
      let sense : ℕ → ℕ → List Tree → Outcome Scoped = λ m n l. cse_scope fuel m true n l in
      let by_numbers : State → Outcome Scoped = λ s.
      let t = reciprocals_by (shown R) true s in
      fuse_held (scope (left_after left (length s.lets) t)) left (length s.lets) t in
      let by_texts : State → Outcome Scoped = λ s.
      let t = reciprocals true s in
      fuse_held (sense (left_after left (length s.lets) t)) left (length s.lets) t in
      let from : ℕ → Outcome Scoped = λ o.
      elim (leb o left && (leb o scope_rows && leb next most_number)) as (λ _. Outcome Scoped) [
        | true ↦ (extract_all true next (map (renamed R) es) >>= by_texts)
        | false ↦ refused (by 23)
      ] in
      subst
      (λ (m : ℕ). Agree (KnownScoped R) (renamed_scoped R) (cse_scope_by (shown R) (suc fuel) left true next es) (from m)) (sym (occurrences_renamed R es))
      (room_step (leb (occurrences es) left && (leb (occurrences es) scope_rows && leb next most_number))
      (extract_all_by (shown R) true next es >>= by_numbers) (extract_all true next (map (renamed R) es) >>= by_texts)
      (then_agree (KnownState R) (renamed_state R) (KnownScoped R) (renamed_scoped R) (extract_all_by (shown R) true next es) (extract_all true next (map (renamed R) es))
      (extract_all_renamed R true next es h) by_numbers by_texts (λ s z. scoped_step scope sense (λ m n l k. cse_scope_renamed fuel m true n l k) left s z)))

  as_answer_known : (a : Scoped) → KnownScoped R a → KnownAnswer R (as_answer a)
  unfolding as_answer
  as_answer_known a h = (block_known R a.inters h.0, h.1)

  as_answer_renamed : (a : Scoped) → as_answer (renamed_scoped R a) ≡ renamed_answer R (as_answer a)
  unfolding as_answer
  as_answer_renamed a = ap (λ s. record { inters = s; results = map (renamed R) a.results; extracted = a.extracted }) (block_renamed R a.inters)

  -- both forms
  pub answer_renamed :
      (scoped : Bool) (es : List Tree) → KnownAll R es → Agree (KnownAnswer R) (renamed_answer R) (answer_by (shown R) scoped es) (answer scoped (map (renamed R) es))
  unfolding answer answer_by
  answer_renamed scoped es h =
      then_agree (KnownScoped R) (renamed_scoped R) (KnownAnswer R) (renamed_answer R) (cse_scope_by (shown R) scopes_open area_rows scoped 0 es)
      (cse_scope scopes_open area_rows scoped 0 (map (renamed R) es)) (cse_scope_renamed scopes_open area_rows scoped 0 es h) (λ a. ok (as_answer a))
      (λ a. ok (as_answer a))
      (λ a z. ((agree_ok (KnownAnswer R) (renamed_answer R) (as_answer a) (as_answer_known a z)).0, ap ok (as_answer_renamed a)))
