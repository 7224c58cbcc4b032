-- Trees without switches need not be held while switches are collected (specs, Switchless): a scope's groups are those of its results, its lets and the reciprocals in
-- which there is a switch (01, "Scoped fusion"). Assumes nothing.
use Prim.Native.Nat.{ℕ, suc}
use native.Mathlib.Omega.{arith}
use mathlib.Core.Path.{◌≡◌, refl, sym, ◌∙◌, ap, subst}
use mathlib.Core.Bool.{Bool, true, false}
use mathlib.Core.List.{List, [], ◌∷◌, ◌++◌, append_assoc, map}
use lib.ListN.{length}
use lib.Dec.{T}
use Rattle.spec_tree.specs.Tree.{Tree, Sym, Const, Op, nil, ◌◂◌, eq_tree, operands}
use Rattle.spec_tree.specs.Facts.{outer, all_outer}
use Rattle.spec_tree.proofs.TreeLaws.{eq_tree_sound}
use Rattle.spec_cse.specs.Extract.{among, distinct}
use Rattle.spec_cse.specs.Scope.{Switch, switches, collect_switches, groups_from}
use Rattle.reciprocals.proofs.bindings.Parts.{settle_tree, settled_reciprocals}
use Rattle.fusion.specs.Whole.{settled_roots, scope_groups}
use Rattle.fusion.specs.Switchless.{switch_node, switchless, with_switches}
use Rattle.fusion.proofs.Outer.{switchless_none}
use Rattle.laws.proofs.switches.Collected.{in_front}

-- ---- switches among nodes

-- the nodes that are switches
unfoldable pub kept : List Tree → List Tree
unfolding switch_node
kept [] = []
kept (t ∷ l) = elim (switch_node t) [ true ↦ t ∷ kept l | false ↦ kept l ]

passed : (t : Tree) (l : List Tree) → switch_node t ≡ false → switches (t ∷ l) ≡ switches l
unfolding switches switch_node
passed (Sym n) l e = refl
passed (Const c) l e = refl
passed (Op k nil) l e = refl
passed (Op k (q ◂ f)) l e =
    ap (λ (b : Bool). elim b as (λ _. List Switch) [ true ↦ record { tree = Op k (q ◂ f); kind = k; key = q; arms = operands f } ∷ switches l | false ↦ switches l ]) e

keep_it : (t : Tree) (l : List Tree) (b : Bool) → switch_node t ≡ b → kept (t ∷ l) ≡ elim b as (λ _. List Tree) [ true ↦ t ∷ kept l | false ↦ kept l ]
unfolding kept
keep_it t l b e = ap (λ (c : Bool). elim c as (λ _. List Tree) [ true ↦ t ∷ kept l | false ↦ kept l ]) e

-- a switch is among some nodes where it is among their switches
differ : (e t : Tree) → switch_node t ≡ true → switch_node e ≡ false → eq_tree e t ≡ false
differ e t p q = go (eq_tree e t) refl
  where
    go : (b : Bool) → eq_tree e t ≡ b → eq_tree e t ≡ false
    go true r =
        let s = eq_tree_sound e t (subst T (sym r) tt) in
        let z : true ≡ false = sym p ∙ (ap switch_node (sym s) ∙ q) in
        let y : ◌≡◌ {A = ℕ} 0 1 = cc in
        absurd (omega arith)
    go false r = r

among_kept : (t : Tree) (seen : List Tree) → switch_node t ≡ true → among t (kept seen) ≡ among t seen
among_kept t [] p = (unfold kept in refl)
among_kept t (e ∷ l) p = go (switch_node e) refl (among_kept t l p)
  where
    here : (l m : List Tree) → among t l ≡ among t m → among t (e ∷ l) ≡ among t (e ∷ m)
    here l m h = (unfold among in ap (λ (c : Bool). elim (eq_tree e t) as (λ _. Bool) [ true ↦ true | false ↦ c ]) h)

    past : eq_tree e t ≡ false → among t (e ∷ l) ≡ among t l
    past h = (unfold among in ap (λ (b : Bool). elim b as (λ _. Bool) [ true ↦ true | false ↦ among t l ]) h)

    go : (b : Bool) → switch_node e ≡ b → among t (kept l) ≡ among t l → among t (kept (e ∷ l)) ≡ among t (e ∷ l)
    go true q h = ap (among t) (keep_it e l true q) ∙ here (kept l) l h
    go false q h = ap (among t) (keep_it e l false q) ∙ (h ∙ sym (past (differ e t p q)))

first_met : (t : Tree) (seen l : List Tree) (b : Bool) → among t seen ≡ b → distinct seen (t ∷ l) ≡ elim b as (λ _. List Tree) [ true ↦ distinct seen l | false ↦ t ∷ distinct (t ∷ seen) l ]
unfolding distinct
first_met t seen l b e = ap (λ (c : Bool). elim c as (λ _. List Tree) [ true ↦ distinct seen l | false ↦ t ∷ distinct (t ∷ seen) l ]) e

-- the switches among different nodes are the different switches
pub distinct_kept : (seen l : List Tree) → switches (distinct seen l) ≡ switches (distinct (kept seen) (kept l))
distinct_kept seen [] = none seen
  where
    none : (seen : List Tree) → switches (distinct seen []) ≡ switches (distinct (kept seen) (kept []))
    none seen = (unfold distinct in unfold kept in refl)
distinct_kept seen (t ∷ l) = go (switch_node t) refl (distinct_kept seen l) (distinct_kept (t ∷ seen) l)
  where
    switch :
        (b : Bool) → switch_node t ≡ true → among t seen ≡ b → switches (distinct seen l) ≡ switches (distinct (kept seen) (kept l))
        → switches (distinct (t ∷ seen) l) ≡ switches (distinct (kept (t ∷ seen)) (kept l)) → switches (distinct seen (t ∷ l)) ≡ switches (distinct (kept seen) (t ∷ kept l))
    switch true e a p q = ap switches (first_met t seen l true a) ∙ (p ∙ ap switches (sym (first_met t (kept seen) (kept l) true (among_kept t seen e ∙ a))))
    switch false e a p q =
        ap switches (first_met t seen l false a)
        ∙ (in_front t (distinct (t ∷ seen) l) (distinct (t ∷ kept seen) (kept l)) (q ∙ ap (λ (s : List Tree). switches (distinct s (kept l))) (keep_it t seen true e))
        ∙ ap switches (sym (first_met t (kept seen) (kept l) false (among_kept t seen e ∙ a))))

    other :
        (b : Bool) → switch_node t ≡ false → among t seen ≡ b → switches (distinct seen l) ≡ switches (distinct (kept seen) (kept l))
        → switches (distinct (t ∷ seen) l) ≡ switches (distinct (kept (t ∷ seen)) (kept l)) → switches (distinct seen (t ∷ l)) ≡ switches (distinct (kept seen) (kept l))
    other true e a p q = ap switches (first_met t seen l true a) ∙ p
    other false e a p q =
        ap switches (first_met t seen l false a)
        ∙ (passed t (distinct (t ∷ seen) l) e ∙ (q ∙ ap (λ (s : List Tree). switches (distinct s (kept l))) (keep_it t seen false e)))

    go :
        (b : Bool) → switch_node t ≡ b → switches (distinct seen l) ≡ switches (distinct (kept seen) (kept l))
        → switches (distinct (t ∷ seen) l) ≡ switches (distinct (kept (t ∷ seen)) (kept l)) → switches (distinct seen (t ∷ l)) ≡ switches (distinct (kept seen) (kept (t ∷ l)))
    go true e p q = switch (among t seen) e refl p q ∙ ap (λ (m : List Tree). switches (distinct (kept seen) m)) (sym (keep_it t l true e))
    go false e p q = other (among t seen) e refl p q ∙ ap (λ (m : List Tree). switches (distinct (kept seen) m)) (sym (keep_it t l false e))

-- ---- of trees

kept_append : (a b : List Tree) → kept (a ++ b) ≡ kept a ++ kept b
kept_append [] b = (unfold kept in refl)
kept_append (t ∷ a) b = go (switch_node t) refl (kept_append a b)
  where
    go : (c : Bool) → switch_node t ≡ c → kept (a ++ b) ≡ kept a ++ kept b → kept (t ∷ (a ++ b)) ≡ kept (t ∷ a) ++ kept b
    go true e h = keep_it t (a ++ b) true e ∙ (ap (λ (l : List Tree). t ∷ l) h ∙ ap (λ (l : List Tree). l ++ kept b) (sym (keep_it t a true e)))
    go false e h = keep_it t (a ++ b) false e ∙ (h ∙ ap (λ (l : List Tree). l ++ kept b) (sym (keep_it t a false e)))

apart : false ≡ true → ⊥
apart e = let y : ◌≡◌ {A = ℕ} 0 1 = cc in omega arith

caught : (t : Tree) (l : List Tree) → switch_node t ≡ true → switches (t ∷ l) ≡ [] → ⊥
unfolding switches switch_node
caught (Sym n) l e h = apart e
caught (Const c) l e h = apart e
caught (Op k nil) l e h = apart e
caught (Op k (q ◂ f)) l e h =
    let s : Switch = record { tree = Op k (q ◂ f); kind = k; key = q; arms = operands f } in
    let x : s ∷ switches l ≡ [] = sym (ap (λ (b : Bool). elim b as (λ _. List Switch) [ true ↦ s ∷ switches l | false ↦ switches l ]) e) ∙ h in
    let z : suc (length (switches l)) ≡ 0 = ap length x in
    omega arith

no_kept : (l : List Tree) → switches l ≡ [] → kept l ≡ []
no_kept [] h = (unfold kept in refl)
no_kept (t ∷ l) h = go (switch_node t) refl (λ e. no_kept l e)
  where
    go : (b : Bool) → switch_node t ≡ b → (switches l ≡ [] → kept l ≡ []) → kept (t ∷ l) ≡ []
    go true e f = absurd (caught t l e h)
    go false e f = keep_it t l false e ∙ f (sym (passed t l e) ∙ h)

hold_it : (t : Tree) (l : List Tree) (b : Bool) → switchless t ≡ b → with_switches (t ∷ l) ≡ elim b as (λ _. List Tree) [ true ↦ with_switches l | false ↦ t ∷ with_switches l ]
unfolding with_switches
hold_it t l b e = ap (λ (c : Bool). elim c as (λ _. List Tree) [ true ↦ with_switches l | false ↦ t ∷ with_switches l ]) e

outer_cons : (t : Tree) (l : List Tree) → kept (all_outer (t ∷ l)) ≡ kept (outer t) ++ kept (all_outer l)
unfolding all_outer
outer_cons t l = kept_append (outer t) (all_outer l)

outer_append : (a b : List Tree) → kept (all_outer (a ++ b)) ≡ kept (all_outer a) ++ kept (all_outer b)
outer_append [] b = (unfold all_outer in unfold kept in refl)
outer_append (t ∷ a) b =
    outer_cons t (a ++ b)
    ∙ (ap (λ (l : List Tree). kept (outer t) ++ l) (outer_append a b)
    ∙ (sym (append_assoc (kept (outer t)) (kept (all_outer a)) (kept (all_outer b))) ∙ ap (λ (l : List Tree). l ++ kept (all_outer b)) (sym (outer_cons t a))))

held_outer : (l : List Tree) → kept (all_outer (with_switches l)) ≡ kept (all_outer l)
held_outer [] = (unfold with_switches in refl)
held_outer (t ∷ l) = go (switchless t) refl (held_outer l)
  where
    go : (b : Bool) → switchless t ≡ b → kept (all_outer (with_switches l)) ≡ kept (all_outer l) → kept (all_outer (with_switches (t ∷ l))) ≡ kept (all_outer (t ∷ l))
    go true e h =
        let none = no_kept (outer t) (switchless_none t (subst T (sym e) tt)) in
        ap (λ (r : List Tree). kept (all_outer r)) (hold_it t l true e)
        ∙ (h ∙ sym (outer_cons t l ∙ ap (λ (r : List Tree). r ++ kept (all_outer l)) none))
    go false e h =
        ap (λ (r : List Tree). kept (all_outer r)) (hold_it t l false e)
        ∙ (outer_cons t (with_switches l) ∙ (ap (λ (r : List Tree). kept (outer t) ++ r) h ∙ sym (outer_cons t l)))

-- ---- the switches of some roots

by_kept : (rs : List Tree) → collect_switches rs ≡ switches (distinct [] (kept (all_outer rs)))
unfolding collect_switches kept
by_kept rs = distinct_kept [] (all_outer rs)

-- of some trees after others only those with a switch matter
pub held_enough : (a b : List Tree) → collect_switches (a ++ b) ≡ collect_switches (a ++ with_switches b)
held_enough a b =
    let same : kept (all_outer (a ++ b)) ≡ kept (all_outer (a ++ with_switches b)) =
    outer_append a b ∙ (ap (λ (l : List Tree). kept (all_outer a) ++ l) (sym (held_outer b)) ∙ sym (outer_append a (with_switches b))) in
    by_kept (a ++ b) ∙ (ap (λ (l : List Tree). switches (distinct [] l)) same ∙ sym (by_kept (a ++ with_switches b)))

-- a scope's groups are those of what it holds
pub groups_held :
    (ds : List Tree) (n : ℕ) (ts : List Tree)
    → scope_groups ds n ts ≡ groups_from [] (collect_switches (map (settle_tree ds n) ts ++ with_switches (settled_reciprocals ds n)))
unfolding scope_groups settled_roots
groups_held ds n ts = ap (groups_from []) (held_enough (map (settle_tree ds n) ts) (settled_reciprocals ds n))
