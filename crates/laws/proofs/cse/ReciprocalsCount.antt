-- Reciprocals after the rounds: the divisors bound are leaves or hold no symbol; binding them lets no operation that depends on a symbol stand
-- twice, and lets the operations of results and of the rounds' bindings not grow. Assumes nothing.
use Prim.Native.Nat.{ℕ, zero, suc, ◌+◌, ◌-◌, ◌≤◌}
use mathlib.Core.Path.{◌≡◌, refl, sym, ◌∙◌, ap, subst}
use mathlib.Core.Bool.{Bool, true, false, ◌&&◌, ◌||◌, cond}
use mathlib.Core.Option.{Option, none, some}
use mathlib.Core.List.{List, [], ◌∷◌, ◌++◌, append_assoc}
use native.Mathlib.Omega.{arith}
use lib.IntN.{ℤ, pos}
use lib.ListN.{get_or}
use lib.Dec.{T, eqb, leb, ltb, leb→le, ltb→lt}
use Rattle.spec_tree.specs.Tree.{Name, input, xname, mname, Tree, Forest, Sym, Const, Op, nil, ◌◂◌}
use Rattle.spec_tree.specs.Kinds.{Div}
use Rattle.spec_tree.proofs.Formed.{well_formed}
use Rattle.spec_tree.specs.Facts.{cost, has_symbol, operations, nodes, nodes_of, all_nodes, outside, count}
use Rattle.spec_tree.specs.text.Text.{display, before}
use Rattle.spec_rewrite.specs.Rewrite.{replace_divisor}
use Rattle.spec_cse.specs.Extract.{Binding, State, bound, roots, best, divisor_of, divisors, distinct, shared_divisors, insert_by_text, sort_by_text, replace_divisor_each, replace_divisor_bound, bind_reciprocal, bind_reciprocals, reciprocals}
use Rattle.spec_cse.specs.Answer.{Intermediate, Let, Match}
use Rattle.spec_cse.specs.Scope.{binds}
use Rattle.spec_tree.proofs.Logic.{and_left, and_right, and_both}
use Rattle.spec_rewrite.proofs.Measure.{sum_of, one_of, count_cons}
use Rattle.spec_rewrite.proofs.Names.{holds, holds_all, holds_append, weaken, weaken_all, all_nodes_hold, divisor_holds}
use Rattle.spec_cse.specs.Demand.{depends}
use Rattle.spec_rewrite.proofs.Counts.{count_nil, count_sym, count_const, count_op, count_none, count_operands, one_none, one_le, one_equal, counted_holds, counted_formed, well_formed_all, all_append, all_nodes_formed, all_nodes_cons, all_nodes_append, part_operations}
use Rattle.laws.proofs.cse.RoundsCount.{bound_append, made_before, made_suc, made_new, new_name, Sound, flat_end}
use Rattle.laws.proofs.cse.SortCount.{summed, Every}
use Rattle.spec_rewrite.proofs.DivisorCount.{divisor_formed, restore, restored_count, division_gone}
use Rattle.laws.proofs.cse.Dependence.{depends_symbol, symbol_depends, part_depends, restore_depends, divided_depends, Closed}

-- ---- divisors stand among the nodes

-- as many of the operands
roots_count : Tree → Forest → ℕ
roots_count x nil = 0
roots_count x (t ◂ f) = one_of t x + roots_count x f

pub divisors_append : (x : Tree) (s t : List Tree) → count x (divisors (s ++ t)) ≡ count x (divisors s) + count x (divisors t)
unfolding divisors
divisors_append x [] t = (let z = count_nil x in omega arith)
divisors_append x (e ∷ s) t = go (divisor_of e) (divisors_append x s t)
  where
    go : (o : Option Tree) → count x (divisors (s ++ t)) ≡ count x (divisors s) + count x (divisors t)
        → count x (elim o [ none ↦ divisors (s ++ t) | some d ↦ d ∷ divisors (s ++ t) ]) ≡ count x (elim o [ none ↦ divisors s | some d ↦ d ∷ divisors s ]) + count x (divisors t)
    go none h = h
    go (some d) h = (let a = count_cons x d (divisors (s ++ t)) in let b = count_cons x d (divisors s) in omega arith)

division_step :
    (x : Tree) (k : ℕ) (f : Forest) (l : List Tree) → count x (elim (divisor_of (Op k f)) as (λ _. List Tree) [ none ↦ l | some d ↦ d ∷ l ]) ≤ roots_count x f + count x l
unfolding divisor_of roots_count
division_step x k nil l = omega arith
division_step x k (a ◂ nil) l = omega arith
division_step x k (a ◂ (b ◂ f)) l = go (eqb k Div)
  where
    go : (c : Bool) → count x (elim (cond c (some b) none) as (λ _. List Tree) [ none ↦ l | some d ↦ d ∷ l ]) ≤ one_of a x + (one_of b x + roots_count x f) + count x l
    go true = (let q = count_cons x b l in omega arith)
    go false = omega arith

leaf_sym : (x : Tree) (s : Name) → count x (divisors (nodes (Sym s))) ≡ 0
unfolding divisors nodes
leaf_sym x s = count_nil x

leaf_const : (x : Tree) (c : ℤ) → count x (divisors (nodes (Const c))) ≡ 0
unfolding divisors nodes
leaf_const x c = count_nil x

no_operands : (x : Tree) → count x (divisors (nodes_of nil)) ≡ 0
unfolding divisors nodes
no_operands x = count_nil x

divisors_op : (x : Tree) (k : ℕ) (f : Forest) → count x (divisors (nodes (Op k f))) ≤ roots_count x f + count x (divisors (nodes_of f))
unfolding divisors nodes
divisors_op x k f = division_step x k f (divisors (nodes_of f))

divisors_operands : (x t : Tree) (f : Forest) → count x (divisors (nodes_of (t ◂ f))) ≡ count x (divisors (nodes t)) + count x (divisors (nodes_of f))
unfolding nodes
divisors_operands x t f = divisors_append x (nodes t) (nodes_of f)

mutual
  unfolding roots_count

  divisors_nodes : (x e : Tree) → count x (divisors (nodes e)) + one_of e x ≤ count x (nodes e)
  divisors_nodes x (Sym s) = (let a = leaf_sym x s in let b = count_sym x s in omega arith)
  divisors_nodes x (Const c) = (let a = leaf_const x c in let b = count_const x c in omega arith)
  divisors_nodes x (Op k f) = (let a = divisors_op x k f in let b = count_op x k f in let c = divisors_nodes_each x f in omega arith)

  divisors_nodes_each : (x : Tree) (f : Forest) → count x (divisors (nodes_of f)) + roots_count x f ≤ count x (nodes_of f)
  divisors_nodes_each x nil = (let a = no_operands x in omega arith)
  divisors_nodes_each x (t ◂ f) =
      (let a = divisors_operands x t f in let b = count_operands x t f in let c = divisors_nodes x t in let d = divisors_nodes_each x f in omega arith)

pub divisors_all : (x : Tree) (l : List Tree) → count x (divisors (all_nodes l)) ≤ count x (all_nodes l)
divisors_all x [] = (unfold all_nodes divisors in omega arith)
divisors_all x (e ∷ l) =
    (let q : count x (divisors (all_nodes (e ∷ l))) ≡ count x (divisors (nodes e)) + count x (divisors (all_nodes l)) = (unfold all_nodes in divisors_append x (nodes e) (all_nodes l)) in
    let a = divisors_nodes x e in
    let b = divisors_all x l in
    let c = all_nodes_cons x e l in
    omega arith)

-- ---- the divisors bound

abbrev pub AllTrees : (Tree → Type 0) → List Tree → Type 0
AllTrees P [] = Unit {0}
AllTrees P (t ∷ l) = P t × AllTrees P l

pub all_map : (P Q : Tree → Type 0) → ((t : Tree) → P t → Q t) → (l : List Tree) → AllTrees P l → AllTrees Q l
all_map P Q f [] h = tt
all_map P Q f (t ∷ l) h = (f t h.0, all_map P Q f l h.1)

shared_twice : (scoped : Bool) (rs l : List Tree) → AllTrees (λ d. 2 ≤ count d (divisors (all_nodes rs))) (shared_divisors scoped rs l)
unfolding shared_divisors
shared_twice scoped rs [] = tt
shared_twice scoped rs (d ∷ l) =
    go (leb 2 (count d (divisors (all_nodes rs))) && leb 1 (count d (divisors (outside scoped rs))))
    (λ t. leb→le 2 (count d (divisors (all_nodes rs))) (and_left (leb 2 (count d (divisors (all_nodes rs)))) _ t))
    (shared_twice scoped rs l)
  where
    go : (b : Bool) → (T b → 2 ≤ count d (divisors (all_nodes rs))) → AllTrees (λ d. 2 ≤ count d (divisors (all_nodes rs))) (shared_divisors scoped rs l)
        → AllTrees (λ d. 2 ≤ count d (divisors (all_nodes rs))) (elim b [ true ↦ d ∷ shared_divisors scoped rs l | false ↦ shared_divisors scoped rs l ])
    go true f h = (f tt, h)
    go false f h = h

insert_all : (P : Tree → Type 0) (d : Tree) (l : List Tree) → P d → AllTrees P l → AllTrees P (insert_by_text d l)
unfolding insert_by_text
insert_all P d [] p h = (p, tt)
insert_all P d (e ∷ l) p h = go (before (display e) (display d)) (insert_all P d l p h.1)
  where
    go : (b : Bool) → AllTrees P (insert_by_text d l) → AllTrees P (elim b [ true ↦ e ∷ insert_by_text d l | false ↦ d ∷ (e ∷ l) ])
    go true k = (h.0, k)
    go false k = (p, h)

sort_all : (P : Tree → Type 0) (l : List Tree) → AllTrees P l → AllTrees P (sort_by_text l)
unfolding sort_by_text
sort_all P [] h = tt
sort_all P (d ∷ l) h = insert_all P d (sort_by_text l) h.0 (sort_all P l h.1)

-- a leaf or without a symbol, made before number k, and well-formed
pub record Bindable (k : ℕ) (d : Tree) : Type 0 where
  pub light : 1 ≤ cost d → T (has_symbol d) → ⊥
  pub known : T (holds (made_before k) d)
  pub formed : T (well_formed d)

unfoldable pub bound_divisors : Bool → State → List Tree
unfolding sort_by_text shared_divisors distinct divisors all_nodes roots
bound_divisors scoped s = sort_by_text (shared_divisors scoped (roots s) (distinct [] (divisors (all_nodes (roots s)))))

pub bound_twice : (scoped : Bool) (s : State) → AllTrees (λ d. 2 ≤ count d (divisors (all_nodes (roots s)))) (bound_divisors scoped s)
unfolding bound_divisors
bound_twice scoped s =
    sort_all _ (shared_divisors scoped (roots s) (distinct [] (divisors (all_nodes (roots s))))) (shared_twice scoped (roots s) (distinct [] (divisors (all_nodes (roots s)))))

shared_outside : (scoped : Bool) (rs l : List Tree) → AllTrees (λ d. 1 ≤ count d (divisors (outside scoped rs))) (shared_divisors scoped rs l)
unfolding shared_divisors
shared_outside scoped rs [] = tt
shared_outside scoped rs (d ∷ l) =
    go (leb 2 (count d (divisors (all_nodes rs))) && leb 1 (count d (divisors (outside scoped rs))))
    (λ t. leb→le 1 (count d (divisors (outside scoped rs))) (and_right (leb 2 (count d (divisors (all_nodes rs)))) _ t))
    (shared_outside scoped rs l)
  where
    go : (b : Bool) → (T b → 1 ≤ count d (divisors (outside scoped rs))) → AllTrees (λ d. 1 ≤ count d (divisors (outside scoped rs))) (shared_divisors scoped rs l)
        → AllTrees (λ d. 1 ≤ count d (divisors (outside scoped rs))) (elim b [ true ↦ d ∷ shared_divisors scoped rs l | false ↦ shared_divisors scoped rs l ])
    go true f h = (f tt, h)
    go false f h = h

pub bound_outside : (scoped : Bool) (s : State) → AllTrees (λ d. 1 ≤ count d (divisors (outside scoped (roots s)))) (bound_divisors scoped s)
unfolding bound_divisors
bound_outside scoped s =
    sort_all _ (shared_divisors scoped (roots s) (distinct [] (divisors (all_nodes (roots s))))) (shared_outside scoped (roots s) (distinct [] (divisors (all_nodes (roots s)))))

pub bindable : (s : State) → Sound s → best false (roots s) ≡ none → AllTrees (Bindable s.next) (bound_divisors false s)
bindable s S e =
    all_map (λ d. 2 ≤ count d (divisors (all_nodes (roots s)))) (Bindable s.next)
    (λ d h.
    let c = divisors_all d (roots s) in
    let u : 1 ≤ count d (all_nodes (roots s)) = omega arith in
    record {
      light = λ x y. (let q = flat_end (roots s) e d x y in omega arith);
      known = counted_holds (made_before s.next) d (all_nodes (roots s)) (all_nodes_hold (made_before s.next) (roots s) S.known) u;
      formed = counted_formed d (all_nodes (roots s)) (all_nodes_formed (roots s) S.formed) u;
    })
    (bound_divisors false s) (bound_twice false s)

-- ---- one reciprocal, on the roots

unfoldable pub inverse : Tree → Tree
inverse d = Op Div (Const (pos 1) ◂ d ◂ nil)

bound_divided : (d : Tree) (n : Name) (l : List Binding) → bound (replace_divisor_bound d n l) ≡ replace_divisor_each d n (bound l)
unfolding replace_divisor_bound replace_divisor_each bound
bound_divided d n [] = refl
bound_divided d n (b ∷ l) = ap (λ (x : List Tree). replace_divisor d n b.expr ∷ x) (bound_divided d n l)

divided_append : (d : Tree) (n : Name) (s t : List Tree) → replace_divisor_each d n (s ++ t) ≡ replace_divisor_each d n s ++ replace_divisor_each d n t
unfolding replace_divisor_each
divided_append d n [] t = refl
divided_append d n (e ∷ s) t = ap (λ (x : List Tree). replace_divisor d n e ∷ x) (divided_append d n s t)

pub roots_reciprocal : (d : Tree) (s : State) → roots (bind_reciprocal d s) ≡ replace_divisor_each d (xname s.next) (roots s) ++ (inverse d ∷ [])
unfolding bind_reciprocal roots inverse bound
roots_reciprocal d s =
    let n = xname s.next in
    ap (λ (x : List Tree). replace_divisor_each d n s.results ++ x)
    (bound_append (replace_divisor_bound d n s.lets) (record { name = n; expr = Op Div (Const (pos 1) ◂ d ◂ nil) } ∷ [])
    ∙ ap (λ (x : List Tree). x ++ (Op Div (Const (pos 1) ◂ d ◂ nil) ∷ [])) (bound_divided d n s.lets))
    ∙ sym (append_assoc (replace_divisor_each d n s.results) (replace_divisor_each d n (bound s.lets)) (Op Div (Const (pos 1) ◂ d ◂ nil) ∷ []))
    ∙ ap (λ (x : List Tree). x ++ (Op Div (Const (pos 1) ◂ d ◂ nil) ∷ [])) (sym (divided_append d n s.results (bound s.lets)))

pub divided_formed : (d : Tree) (n : Name) (l : List Tree) → T (well_formed_all l) → T (well_formed_all (replace_divisor_each d n l))
unfolding well_formed_all replace_divisor_each
divided_formed d n [] w = tt
divided_formed d n (e ∷ l) w =
    and_both (well_formed (replace_divisor d n e)) (well_formed_all (replace_divisor_each d n l)) (divisor_formed d n e (and_left (well_formed e) (well_formed_all l) w))
    (divided_formed d n l (and_right (well_formed e) (well_formed_all l) w))

divided_known : (p : Name → Bool) (d : Tree) (n : Name) → T (p n) → (l : List Tree) → T (holds_all p l) → T (holds_all p (replace_divisor_each d n l))
unfolding holds_all replace_divisor_each
divided_known p d n t [] h = tt
divided_known p d n t (e ∷ l) h =
    and_both (holds p (replace_divisor d n e)) (holds_all p (replace_divisor_each d n l)) (divisor_holds p d n (λ _. t) e (and_left (holds p e) (holds_all p l) h))
    (divided_known p d n t l (and_right (holds p e) (holds_all p l) h))

pub inverse_formed : (d : Tree) → T (well_formed d) → T (well_formed_all (inverse d ∷ []))
unfolding well_formed_all well_formed inverse
inverse_formed d w = and_both (well_formed d && true) true (and_both (well_formed d) true w tt) tt

inverse_known : (p : Name → Bool) (d : Tree) → T (holds p d) → T (holds_all p (inverse d ∷ []))
unfolding holds_all holds inverse
inverse_known p d h = and_both (holds p d && true) true (and_both (holds p d) true h tt) tt

pub reciprocal_sound : (d : Tree) (s : State) → Bindable s.next d → Sound s → Sound (bind_reciprocal d s)
reciprocal_sound d s B S =
    let k = s.next in
    let up = made_suc k in
    record {
      formed =
          subst (λ (l : List Tree). T (well_formed_all l)) (sym (roots_reciprocal d s))
          (all_append (replace_divisor_each d (xname k) (roots s)) (inverse d ∷ []) (divided_formed d (xname k) (roots s) S.formed) (inverse_formed d B.formed));
      known =
          (unfold bind_reciprocal in
          (subst (λ (l : List Tree). T (holds_all (made_before (suc k)) l)) (sym (roots_reciprocal d s))
          (holds_append (made_before (suc k)) (replace_divisor_each d (xname k) (roots s)) (inverse d ∷ [])
          (divided_known (made_before (suc k)) d (xname k) (made_new k) (roots s) (weaken_all (made_before k) (made_before (suc k)) up (roots s) S.known))
          (inverse_known (made_before (suc k)) d (weaken (made_before k) (made_before (suc k)) up d B.known)))));
    }

-- ---- no operation that depends on a symbol stands twice

abbrev pub Once : (Name → Bool) → List Tree → Type 0
Once σ rs = (y : Tree) → 1 ≤ operations y → T (depends σ y) → count y (all_nodes rs) ≤ 1

module _ (d : Tree) (n : Name) (p : Name → Bool) (new : T (p n) → ⊥) where
  restored_all :
      (j : ℕ) (g : Forest) (l : List Tree) → T (well_formed_all l) → T (holds_all p l)
      → count (Op j g) (all_nodes (replace_divisor_each d n l)) ≤ count (restore d n (Op j g)) (all_nodes l)
  unfolding replace_divisor_each well_formed_all holds_all
  restored_all j g [] w h = (unfold all_nodes count in omega arith)
  restored_all j g (e ∷ l) w h =
      (let a = restored_count d n p new j g e (and_left (well_formed e) (well_formed_all l) w) (and_left (holds p e) (holds_all p l) h) in
      let b = restored_all j g l (and_right (well_formed e) (well_formed_all l) w) (and_right (holds p e) (holds_all p l) h) in
      let x = all_nodes_cons (Op j g) (replace_divisor d n e) (replace_divisor_each d n l) in
      let y = all_nodes_cons (restore d n (Op j g)) e l in
      omega arith)

  gone_all :
      T (holds p d) → (l : List Tree) → T (well_formed_all l) → T (holds_all p l) → count (inverse d) (all_nodes (replace_divisor_each d n l)) ≡ 0
  unfolding replace_divisor_each well_formed_all holds_all inverse
  gone_all known [] w h = (unfold all_nodes count in refl)
  gone_all known (e ∷ l) w h =
      (let a = division_gone d n p new known (Const (pos 1)) e (and_left (well_formed e) (well_formed_all l) w) (and_left (holds p e) (holds_all p l) h) in
      let b = gone_all known l (and_right (well_formed e) (well_formed_all l) w) (and_right (holds p e) (holds_all p l) h) in
      let x = all_nodes_cons (Op Div (Const (pos 1) ◂ d ◂ nil)) (replace_divisor d n e) (replace_divisor_each d n l) in
      omega arith)

pub operation_costs : (e : Tree) → 1 ≤ operations e → 1 ≤ cost e
unfolding cost operations
operation_costs (Sym n) h = absurd (omega arith)
operation_costs (Const c) h = absurd (omega arith)
operation_costs (Op k f) h = omega arith

-- such an operation stands in no divisor bound
not_in_divisor : (σ : Name → Bool) (k : ℕ) (d : Tree) → Bindable k d → (y : Tree) → 1 ≤ operations y → T (depends σ y) → count y (nodes d) ≡ 0
not_in_divisor σ k d B y o t = go (count y (nodes d)) refl
  where
    go : (m : ℕ) → count y (nodes d) ≡ m → count y (nodes d) ≡ 0
    go zero e = e
    go (suc m) e =
        let q = part_operations y d (omega arith) in
        absurd (B.light (operation_costs d (omega arith)) (depends_symbol σ d (part_depends σ y t d (omega arith))))

-- nor does it stand in 1 / d, except as a whole
inverse_count : (d : Tree) (j : ℕ) (g : Forest) → count (Op j g) (nodes d) ≡ 0 → count (Op j g) (all_nodes (inverse d ∷ [])) ≡ one_of (inverse d) (Op j g)
unfolding inverse
inverse_count d j g z =
    (let y = Op j g in
    let a = all_nodes_cons y (Op Div (Const (pos 1) ◂ d ◂ nil)) [] in
    let b : count y (all_nodes []) ≡ 0 = (unfold all_nodes count in refl) in
    let c = count_op y Div (Const (pos 1) ◂ d ◂ nil) in
    let e = count_operands y (Const (pos 1)) (d ◂ nil) in
    let f = count_operands y d nil in
    let h = count_none y in
    let i = count_const y (pos 1) in
    let m = one_none (Const (pos 1)) y (λ q. (let u : ◌≡◌ {A = ℕ} 0 1 = cc in omega arith)) in
    omega arith)

restore_operation : (d : Tree) (n : Name) (j : ℕ) (g : Forest) → 1 ≤ operations (restore d n (Op j g))
unfolding restore operations
restore_operation d n j g = omega arith

module _ (σ : Name → Bool) (d : Tree) (s : State) (B : Bindable s.next d) (S : Sound s) (only : T (σ (xname s.next)) → T (depends σ d)) (once : Once σ (roots s)) where
  reciprocal_op :
      (j : ℕ) (g : Forest) → T (depends σ (Op j g)) → 1 ≤ operations (Op j g)
      → count (Op j g) (all_nodes (replace_divisor_each d (xname s.next) (roots s))) + count (Op j g) (all_nodes (inverse d ∷ [])) ≤ 1
  reciprocal_op j g t o = go (one_of (inverse d) (Op j g)) refl
    where
      n : Name
      n = xname s.next

      last : count (Op j g) (all_nodes (inverse d ∷ [])) ≡ one_of (inverse d) (Op j g)
      last = inverse_count d j g (not_in_divisor σ s.next d B (Op j g) o t)

      go : (m : ℕ) → one_of (inverse d) (Op j g) ≡ m
          → count (Op j g) (all_nodes (replace_divisor_each d (xname s.next) (roots s))) + count (Op j g) (all_nodes (inverse d ∷ [])) ≤ 1
      go zero e =
          (let a = restored_all d (xname s.next) (made_before s.next) (new_name s.next) j g (roots s) S.formed S.known in
          let b = once (restore d (xname s.next) (Op j g)) (restore_operation d (xname s.next) j g) (restore_depends σ d (xname s.next) only (Op j g) t) in
          let l = last in
          omega arith)
      go (suc m) e =
          (let q : inverse d ≡ Op j g = one_equal (inverse d) (Op j g) (omega arith) in
          let a : count (Op j g) (all_nodes (replace_divisor_each d (xname s.next) (roots s))) ≡ 0 =
          ap (λ (y : Tree). count y (all_nodes (replace_divisor_each d (xname s.next) (roots s)))) (sym q)
          ∙ gone_all d (xname s.next) (made_before s.next) (new_name s.next) B.known (roots s) S.formed S.known in
          let b = one_le (inverse d) (Op j g) in
          let l = last in
          omega arith)

  reciprocal_each_tree : (y : Tree) → 1 ≤ operations y → T (depends σ y)
      → count y (all_nodes (replace_divisor_each d (xname s.next) (roots s))) + count y (all_nodes (inverse d ∷ [])) ≤ 1
  reciprocal_each_tree (Sym m) o t = absurd (unfold operations in omega (arith, o))
  reciprocal_each_tree (Const c) o t = absurd (unfold operations in omega (arith, o))
  reciprocal_each_tree (Op j g) o t = reciprocal_op j g t o

  pub reciprocal_once : Once σ (roots (bind_reciprocal d s))
  reciprocal_once y o t =
      (let a = reciprocal_each_tree y o t in
      let b : count y (all_nodes (roots (bind_reciprocal d s)))
      ≡ count y (all_nodes (replace_divisor_each d (xname s.next) (roots s))) + count y (all_nodes (inverse d ∷ [])) =
      ap (λ (l : List Tree). count y (all_nodes l)) (roots_reciprocal d s) ∙ all_nodes_append y (replace_divisor_each d (xname s.next) (roots s)) (inverse d ∷ []) in
      omega arith)

-- ---- names depend where their expressions do

every_append : (P : Intermediate → Type 0) (l r : List Intermediate) → Every P l → Every P r → Every P (l ++ r)
every_append P [] r g h = h
every_append P (s ∷ l) r g h = (g.0, every_append P l r g.1 h)

pub binds_append : (l r : List Binding) → binds (l ++ r) ≡ binds l ++ binds r
unfolding binds
binds_append [] r = refl
binds_append (b ∷ l) r = ap (λ (x : List Intermediate). Let b.name b.expr ∷ x) (binds_append l r)

module _ (σ : Name → Bool) (d : Tree) (n : Name) (only : T (σ n) → T (depends σ d)) where
  divided_closed : (l : List Binding) → Every (Closed σ) (binds l) → Every (Closed σ) (binds (replace_divisor_bound d n l))
  unfolding binds replace_divisor_bound
  divided_closed [] h = tt
  divided_closed (b ∷ l) h = ((λ t. h.0 (divided_depends σ d n only b.expr t)), divided_closed l h.1)

inverse_depends : (σ : Name → Bool) (d : Tree) → T (depends σ (Op Div (Const (pos 1) ◂ d ◂ nil))) → T (depends σ d)
unfolding depends
inverse_depends σ d t = go (depends σ d) t
  where
    go : (b : Bool) → T (b || false) → T b
    go true t = tt
    go false t = t

pub reciprocal_closed :
    (σ : Name → Bool) (d : Tree) (s : State) → (T (σ (xname s.next)) → T (depends σ d)) → (T (depends σ d) → T (σ (xname s.next)))
    → Every (Closed σ) (binds s.lets) → Every (Closed σ) (binds (bind_reciprocal d s).lets)
unfolding bind_reciprocal
reciprocal_closed σ d s only all h =
    subst (Every (Closed σ)) (sym (binds_append (replace_divisor_bound d (xname s.next) s.lets) (record { name = xname s.next; expr = Op Div (Const (pos 1) ◂ d ◂ nil) } ∷ [])))
    (every_append (Closed σ) (binds (replace_divisor_bound d (xname s.next) s.lets)) _
    (divided_closed σ d (xname s.next) only s.lets h) (unfold binds in ((λ t. all (inverse_depends σ d t)), tt)))

-- ---- all reciprocals

-- a test that says of each name to come whether its divisor depends
abbrev pub Tells : (Name → Bool) → ℕ → List Tree → Type 0
Tells σ k [] = Unit {0}
Tells σ k (d ∷ l) = (T (σ (xname k)) → T (depends σ d)) × (T (depends σ d) → T (σ (xname k))) × Tells σ (suc k) l

bindable_later : (k : ℕ) (l : List Tree) → AllTrees (Bindable k) l → AllTrees (Bindable (suc k)) l
bindable_later k =
    all_map (Bindable k) (Bindable (suc k))
    (λ d B. record { light = B.light; known = weaken (made_before k) (made_before (suc k)) (made_suc k) d B.known; formed = B.formed })

pub reciprocal_each_once :
    (σ : Name → Bool) (l : List Tree) (s : State) → AllTrees (Bindable s.next) l → Tells σ s.next l → Sound s → Once σ (roots s) → Every (Closed σ) (binds s.lets)
    → Once σ (roots (bind_reciprocals l s)) × Every (Closed σ) (binds (bind_reciprocals l s).lets)
unfolding bind_reciprocals
reciprocal_each_once σ [] s B t S o c = (o, c)
reciprocal_each_once σ (d ∷ l) s B t S o c =
    reciprocal_each_once σ l (bind_reciprocal d s) (unfold bind_reciprocal in bindable_later s.next l B.1) (unfold bind_reciprocal in t.2) (reciprocal_sound d s B.0 S)
    (reciprocal_once σ d s B.0 S t.0 o) (reciprocal_closed σ d s t.0 t.1 c)

-- ---- the test

module _ (x : ℕ) (ds : List Tree) where
  -- every symbol but the names of divisors without a symbol
  unfoldable pub telling : Name → Bool
  telling (input s) = true
  telling (xname i) = cond (ltb i x) true (has_symbol (get_or ds (i - x) (Const (pos 0))))
  telling (mname i) = true

  pub made_tells : (n : Name) → T (made_before x n) → T (telling n)
  unfolding telling made_before
  made_tells (input s) t = tt
  made_tells (xname i) t = go (ltb i x) t
    where
      go : (b : Bool) → T b → T (cond b true (has_symbol (get_or ds (i - x) (Const (pos 0)))))
      go true t = tt
      go false t = absurd t
  made_tells (mname i) t = tt

  telling_new : (k : ℕ) → x ≤ k → telling (xname k) ≡ has_symbol (get_or ds (k - x) (Const (pos 0)))
  unfolding telling
  telling_new k h = go (ltb k x) (λ t. let q = ltb→lt k x t in omega arith)
    where
      go : (b : Bool) → (T b → ⊥) → cond b true (has_symbol (get_or ds (k - x) (Const (pos 0)))) ≡ has_symbol (get_or ds (k - x) (Const (pos 0)))
      go true f = absurd (f tt)
      go false f = refl

  tells_from :
      (k : ℕ) (l : List Tree) → x ≤ k → ((j : ℕ) → get_or l j (Const (pos 0)) ≡ get_or ds (k - x + j) (Const (pos 0))) → AllTrees (Bindable x) l → Tells telling k l
  tells_from k [] h e B = tt
  tells_from k (d ∷ l) h e B =
      let q : d ≡ get_or ds (k - x) (Const (pos 0)) = e 0 ∙ ap (λ (i : ℕ). get_or ds i (Const (pos 0))) (let z : k - x + 0 ≡ k - x = omega arith in z) in
      let r : telling (xname k) ≡ has_symbol d = telling_new k h ∙ ap has_symbol (sym q) in (
        (λ t. symbol_depends telling d (weaken (made_before x) telling made_tells d B.0.known) (subst T r t)),
        (λ t. subst T (sym r) (depends_symbol telling d t)),
        tells_from (suc k) l (omega arith)
            (λ j. e (suc j) ∙ ap (λ (i : ℕ). get_or ds i (Const (pos 0))) (let z : k - x + suc j ≡ suc k - x + j = omega arith in z)) B.1,
      )

  pub tells : AllTrees (Bindable x) ds → Tells telling x ds
  tells B = tells_from x ds (omega arith) (λ j. ap (λ (i : ℕ). get_or ds i (Const (pos 0))) (let z : j ≡ x - x + j = omega arith in z)) B

-- ---- what stands outside reciprocals, by a measure that no replaced divisor raises

-- of a binding that is not a reciprocal's
abbrev pub from_rounds : (Tree → ℕ) → ℕ → Intermediate → ℕ
from_rounds μ x (Let (input s) e) = μ e
from_rounds μ x (Let (xname i) e) = elim (ltb i x) [ true ↦ μ e | false ↦ 0 ]
from_rounds μ x (Let (mname i) e) = μ e
from_rounds μ x (Match k key ns arms) = 0

pub summed_append : (v : Intermediate → ℕ) (l r : List Intermediate) → summed v (l ++ r) ≡ summed v l + summed v r
unfolding summed
summed_append v [] r = omega arith
summed_append v (s ∷ l) r = (let q = summed_append v l r in omega arith)

module _ (μ : Tree → ℕ) (x : ℕ) where
  binding_falls : (n : Name) (e r : Tree) → μ r ≤ μ e → from_rounds μ x (Let n r) ≤ from_rounds μ x (Let n e)
  binding_falls (input s) e r h = h
  binding_falls (xname i) e r h = go (ltb i x)
    where
      go : (b : Bool) → elim b as (λ _. ℕ) [ true ↦ μ r | false ↦ 0 ] ≤ elim b as (λ _. ℕ) [ true ↦ μ e | false ↦ 0 ]
      go true = h
      go false = omega arith
  binding_falls (mname i) e r h = h

  binding_most : (n : Name) (e : Tree) → from_rounds μ x (Let n e) ≤ μ e
  binding_most (input s) e = omega arith
  binding_most (xname i) e = go (ltb i x)
    where
      go : (b : Bool) → elim b as (λ _. ℕ) [ true ↦ μ e | false ↦ 0 ] ≤ μ e
      go true = omega arith
      go false = omega arith
  binding_most (mname i) e = omega arith

  binding_new : (i : ℕ) (e : Tree) → x ≤ i → from_rounds μ x (Let (xname i) e) ≡ 0
  binding_new i e h = go (ltb i x) (λ t. let q = ltb→lt i x t in omega arith)
    where
      go : (b : Bool) → (T b → ⊥) → ◌≡◌ {A = ℕ} (elim b [ true ↦ μ e | false ↦ 0 ]) 0
      go true f = absurd (f tt)
      go false f = refl

  pub bindings_most : (l : List Binding) → summed (from_rounds μ x) (binds l) ≤ sum_of μ (bound l)
  unfolding binds bound summed sum_of
  bindings_most [] = omega arith
  bindings_most (b ∷ l) = (let a = binding_most b.name b.expr in let c = bindings_most l in omega arith)

  module _ (falls : (d : Tree) (n : Name) (e : Tree) → μ (replace_divisor d n e) ≤ μ e) where
    pub divided_falls : (d : Tree) (n : Name) (l : List Tree) → sum_of μ (replace_divisor_each d n l) ≤ sum_of μ l
    unfolding replace_divisor_each sum_of
    divided_falls d n [] = omega arith
    divided_falls d n (e ∷ l) = (let a = falls d n e in let b = divided_falls d n l in omega arith)

    divided_bindings : (d : Tree) (n : Name) (l : List Binding) → summed (from_rounds μ x) (binds (replace_divisor_bound d n l)) ≤ summed (from_rounds μ x) (binds l)
    unfolding replace_divisor_bound binds summed
    divided_bindings d n [] = omega arith
    divided_bindings d n (b ∷ l) =
        (let a = binding_falls b.name b.expr (replace_divisor d n b.expr) (falls d n b.expr) in let c = divided_bindings d n l in omega arith)

    pub reciprocal_falls :
        (d : Tree) (s : State) → x ≤ s.next
        → (sum_of μ (bind_reciprocal d s).results ≤ sum_of μ s.results)
        × (summed (from_rounds μ x) (binds (bind_reciprocal d s).lets) ≤ summed (from_rounds μ x) (binds s.lets))
    unfolding bind_reciprocal
    reciprocal_falls d s h = (
      divided_falls d (xname s.next) s.results,
      (let l = replace_divisor_bound d (xname s.next) s.lets in
          let a = ap (summed (from_rounds μ x)) (binds_append l (record { name = xname s.next; expr = Op Div (Const (pos 1) ◂ d ◂ nil) } ∷ [])) in
          let b = summed_append (from_rounds μ x) (binds l) (binds (record { name = xname s.next; expr = Op Div (Const (pos 1) ◂ d ◂ nil) } ∷ [])) in
          let c : summed (from_rounds μ x) (binds (record { name = xname s.next; expr = Op Div (Const (pos 1) ◂ d ◂ nil) } ∷ []))
          ≡ from_rounds μ x (Let (xname s.next) (Op Div (Const (pos 1) ◂ d ◂ nil))) + 0 =
          (unfold summed binds in refl) in
          let z = binding_new s.next (Op Div (Const (pos 1) ◂ d ◂ nil)) h in
          let y = divided_bindings d (xname s.next) s.lets in
          omega arith),
    )

    pub reciprocal_each_falls :
        (l : List Tree) (s : State) → x ≤ s.next
        → (sum_of μ (bind_reciprocals l s).results ≤ sum_of μ s.results)
        × (summed (from_rounds μ x) (binds (bind_reciprocals l s).lets) ≤ summed (from_rounds μ x) (binds s.lets))
    unfolding bind_reciprocals
    reciprocal_each_falls [] s h = (omega arith, omega arith)
    reciprocal_each_falls (d ∷ l) s h =
        let a = reciprocal_falls d s h in
        let b = reciprocal_each_falls l (bind_reciprocal d s) (unfold bind_reciprocal in omega arith) in
        ((let u = a.0 in let v = b.0 in omega arith), (let u = a.1 in let v = b.1 in omega arith))

-- the definition's list of divisors
pub reciprocals_are : (scoped : Bool) (s : State) → reciprocals scoped s ≡ bind_reciprocals (bound_divisors scoped s) s
unfolding reciprocals bound_divisors
reciprocals_are scoped s = refl
