-- The rounds: each extraction lowers the operations of results and bindings by at least one, so that the fuel is enough and no candidate is left.
-- Assumes nothing.
use Prim.Native.Nat.{ℕ, zero, suc, ◌+◌, ◌*◌, ◌≤◌}
use mathlib.Core.Path.{◌≡◌, refl, sym, ◌∙◌, ap, subst}
use mathlib.Core.Bool.{Bool, true, false, not, ◌&&◌}
use mathlib.Core.Logic.{inl, inr}
use mathlib.Core.Option.{Option, none, some}
use mathlib.Core.List.{List, [], ◌∷◌, ◌++◌, append_assoc, append-nil}
use native.Mathlib.Omega.{arith}
use native.Mathlib.Nat.{mul-add, mul-zero, zero-add, mul-suc}
use lib.IntN.{ℤ}
use lib.ListN.{length}
use lib.Dec.{T, leb, ltb, leb→le, le→leb, nleb→lt, ltb→lt, lt→ltb}
use Rattle.spec_tree.specs.Outcome.{Outcome, ok, refused, ◌>>=◌, each}
use Rattle.spec_tree.specs.Tree.{Name, input, xname, mname, Tree, Forest, Sym, Const, Op, nil, ◌◂◌, folds}
use Rattle.spec_tree.proofs.Formed.{well_formed}
use Rattle.spec_tree.specs.Facts.{all_operations, cost, has_symbol, some_of, operations, nodes, nodes_of, all_nodes, outside, count, uses, uses_outside}
use Rattle.spec_rewrite.specs.Rewrite.{flatten_mul_factors, flatten_operands, replace}
use Rattle.spec_cse.specs.Extract.{Binding, State, Candidate, bound, roots, is_candidate, candidate, beats, best_from, best, replace_bound, extract, rounds, extract_all}
use Rattle.spec_tree.proofs.Logic.{and_left, and_right, and_both, or_cases}
use Rattle.spec_rewrite.proofs.Measure.{sum_of, sum_each, length_sum, by_operations, least_operations, operations_sum, one_of, count_cons, count_sum}
use Rattle.spec_rewrite.proofs.Factors.{factors_of, factors_cases, sum_factors}
use Rattle.spec_rewrite.proofs.Shrinks.{replace_shrinks}
use Rattle.spec_rewrite.proofs.Savings.{operations_saves}
use Rattle.spec_rewrite.proofs.Names.{holds, holds_all, holds_append, below, weaken, weaken_all, all_nodes_hold, Holds, replace_holds}
use Rattle.spec_rewrite.proofs.Counts.{count_nil, count_op, count_operands, counted_cases, counted_holds, counted_formed, well_formed_all, all_append, all_nodes_formed, all_nodes_cons, operations_append, part_all_operations, absent}

-- ---- a candidate is an operation with a factor

pub costs_operation : (e : Tree) → 1 ≤ cost e → 1 ≤ operations e
unfolding cost operations
costs_operation (Sym n) h = absurd (omega arith)
costs_operation (Const c) h = absurd (omega arith)
costs_operation (Op k f) h = omega arith

mutual
  unfolding has_symbol flatten_mul_factors sum_each

  pub symbol_factor : (t : Tree) → T (has_symbol t) → 1 ≤ length (factors_of t)
  symbol_factor (Sym n) h = omega arith
  symbol_factor (Const c) h = absurd h
  symbol_factor (Op k f) h =
      factors_cases (λ l. 1 ≤ length l) k f
      (let p = symbol_factor_each f h in let q = sum_factors (λ t. 1) f in let r = length_sum (flatten_operands f).factors in omega arith) (λ e. omega arith)

  symbol_factor_each : (f : Forest) → T (some_of (folds (λ n. true) (λ c. false) (λ k tests. some_of tests) f)) → 1 ≤ sum_each (λ t. sum_of (λ u. 1) (factors_of t)) f
  symbol_factor_each nil h = absurd h
  symbol_factor_each (t ◂ f) h =
      elim (or_cases (has_symbol t) (some_of (folds (λ n. true) (λ c. false) (λ k tests. some_of tests) f)) h) [
        | inl a ↦ (let p = symbol_factor t a in let q = length_sum (factors_of t) in omega arith)
        | inr b ↦ (let p = symbol_factor_each f b in omega arith)
      ]

-- a tree's factors stand among its nodes
alone : (x : Tree) (k : ℕ) (f : Forest) → count x (Op k f ∷ []) ≤ count x (nodes (Op k f))
unfolding nodes
alone x k f = (let a = count_cons x (Op k f) [] in let b = count_cons x (Op k f) (nodes_of f) in let c = count_nil x in omega arith)

factors_sym : (x : Tree) (s : Name) → count x (factors_of (Sym s)) ≤ count x (nodes (Sym s))
unfolding flatten_mul_factors nodes
factors_sym x s = omega arith

factors_const : (x : Tree) (c : ℤ) → count x (factors_of (Const c)) ≤ count x (nodes (Const c))
unfolding flatten_mul_factors
factors_const x c = (let a = count_nil x in omega arith)

mutual
  unfolding sum_each

  pub factors_nodes : (x t : Tree) → count x (factors_of t) ≤ count x (nodes t)
  factors_nodes x (Sym s) = factors_sym x s
  factors_nodes x (Const c) = factors_const x c
  factors_nodes x (Op k f) =
      factors_cases (λ l. count x l ≤ count x (nodes (Op k f))) k f
      (let a = count_sum x (flatten_operands f).factors in
      let b = sum_factors (λ y. one_of y x) f in
      let c = factors_nodes_each x f in
      let d = count_op x k f in
      omega arith)
      (λ e. alone x k f)

  factors_nodes_each : (x : Tree) (f : Forest) → sum_each (λ t. sum_of (λ y. one_of y x) (factors_of t)) f ≤ count x (nodes_of f)
  factors_nodes_each x nil = omega arith
  factors_nodes_each x (t ◂ f) =
      (let a = factors_nodes x t in let b = count_sum x (factors_of t) in let c = factors_nodes_each x f in let d = count_operands x t f in omega arith)

-- ---- the best candidate is one, and where there is no best there is none

module _ (scoped : Bool) (rs : List Tree) where
  Fit : Option Candidate → Type 0
  Fit none = Unit {0}
  Fit (some c) = T (is_candidate scoped rs c.tree)

  fit_step : (b : Bool) (x y : Option Candidate) → (T b → Fit x) → Fit y → Fit (elim b [ true ↦ x | false ↦ y ])
  fit_step true x y g h = g tt
  fit_step false x y g h = h

  fit_from : (l : List Tree) (o : Option Candidate) → Fit o → Fit (best_from scoped rs o l)
  unfolding best_from candidate Fit
  fit_from [] o g = g
  fit_from (e ∷ l) none g = fit_step (is_candidate scoped rs e) _ _ (λ t. fit_from l (some (candidate rs e)) t) (fit_from l none tt)
  fit_from (e ∷ l) (some a) g =
      fit_step (is_candidate scoped rs e && beats a (candidate rs e)) _ _
      (λ t. fit_from l (some (candidate rs e)) (and_left (is_candidate scoped rs e) (beats a (candidate rs e)) t)) (fit_from l (some a) g)

  pub best_fits : (c : Candidate) → best scoped rs ≡ some c → T (is_candidate scoped rs c.tree)
  unfolding best Fit
  best_fits c e = subst Fit e (fit_from (all_nodes rs) none tt)

  Found : Option Candidate → Type 0
  Found none = ⊥
  Found (some c) = Unit {0}

  found_step : (b : Bool) (x y : Option Candidate) → Found x → Found y → Found (elim b [ true ↦ x | false ↦ y ])
  found_step true x y g h = g
  found_step false x y g h = h

  found_from : (l : List Tree) (a : Candidate) → Found (best_from scoped rs (some a) l)
  unfolding best_from Found
  found_from [] a = tt
  found_from (e ∷ l) a = found_step (is_candidate scoped rs e && beats a (candidate rs e)) _ _ (found_from l (candidate rs e)) (found_from l a)

  first_step : (b : Bool) (x y : Option Candidate) → Found x → ◌≡◌ {A = Option Candidate} (elim b [ true ↦ x | false ↦ y ]) none → (T b → ⊥) × (y ≡ none)
  unfolding Found
  first_step true x y g e = absurd (subst Found e g)
  first_step false x y g e = ((λ t. t), e)

  none_from : (l : List Tree) → best_from scoped rs none l ≡ none → (x : Tree) → 1 ≤ count x l → T (is_candidate scoped rs x) → ⊥
  unfolding best_from
  none_from [] e x h t = (let z = count_nil x in omega arith)
  none_from (y ∷ l) e x h t =
      let s = first_step (is_candidate scoped rs y) (best_from scoped rs (some (candidate rs y)) l) (best_from scoped rs none l) (found_from l (candidate rs y)) e in
      elim (counted_cases x y l h) [
        | inl q ↦ s.0 (subst (λ (z : Tree). T (is_candidate scoped rs z)) (sym q) t)
        | inr c ↦ none_from l s.1 x c t
      ]

  pub none_fits : best scoped rs ≡ none → (x : Tree) → 1 ≤ count x (all_nodes rs) → T (is_candidate scoped rs x) → ⊥
  unfolding best
  none_fits e = none_from (all_nodes rs) e

-- in the flat form no operation with a symbol stands twice, once no candidate is left
pub flat_end : (rs : List Tree) → best false rs ≡ none → (x : Tree) → 1 ≤ cost x → T (has_symbol x) → count x (all_nodes rs) ≤ 1
unfolding is_candidate
flat_end rs e x c s = go (leb 2 (count x (all_nodes rs))) refl
  where
    go : (b : Bool) → leb 2 (count x (all_nodes rs)) ≡ b → count x (all_nodes rs) ≤ 1
    go true z =
        let l : T (leb 2 (count x (all_nodes rs))) = subst T (sym z) tt in
        let h = leb→le 2 (count x (all_nodes rs)) l in
        absurd
        (none_fits false rs e x (omega arith)
        (unfold is_candidate uses uses_outside outside in
        (and_both (leb 1 (cost x)) _ (le→leb 1 (cost x) c)
        (and_both (has_symbol x) _ s (and_both (leb 2 (count x (all_nodes rs))) _ l (le→leb 1 (count x (all_nodes rs)) (omega arith)))))))
    go false z = (let h = nleb→lt 2 (count x (all_nodes rs)) (subst (λ (b : Bool). T (not b)) (sym z) tt) in omega arith)

pub candidate_facts : (scoped : Bool) (rs : List Tree) (x : Tree) → T (is_candidate scoped rs x) → (1 ≤ cost x) × T (has_symbol x) × (2 ≤ count x (all_nodes rs))
unfolding is_candidate uses
candidate_facts scoped rs x t =
    let a = and_right (leb 1 (cost x)) _ t in
    let b = and_right (has_symbol x) _ a in
    (leb→le 1 (cost x) (and_left (leb 1 (cost x)) _ t), and_left (has_symbol x) _ a, leb→le 2 (count x (all_nodes rs)) (and_left (leb 2 (count x (all_nodes rs))) _ b))

-- ---- one extraction, on the roots

-- trees and what replacing makes of them, one by one
abbrev pub Replaced : Tree → Name → List Tree → List Tree → Type 0
Replaced target n [] [] = Unit {0}
Replaced target n [] (r ∷ rs) = ⊥
Replaced target n (e ∷ es) [] = ⊥
Replaced target n (e ∷ es) (r ∷ rs) = (replace target n e ≡ ok r) × Replaced target n es rs

replaced_append : (target : Tree) (n : Name) (es rs fs ss : List Tree) → Replaced target n es rs → Replaced target n fs ss → Replaced target n (es ++ fs) (rs ++ ss)
replaced_append target n [] [] fs ss g h = h
replaced_append target n [] (r ∷ rs) fs ss g h = absurd g
replaced_append target n (e ∷ es) [] fs ss g h = absurd g
replaced_append target n (e ∷ es) (r ∷ rs) fs ss g h = (g.0, replaced_append target n es rs fs ss g.1 h)

module _ (target : Tree) (n : Name) where
  Each : List Tree → Outcome (List Tree) → Type 0
  Each es (ok rs) = Replaced target n es rs
  Each es (refused i) = Unit {0}

  each_step : (e : Tree) (es : List Tree) (o : Outcome Tree) → replace target n e ≡ o → (q : Outcome (List Tree)) → Each es q → Each (e ∷ es) (o >>= λ b. q >>= λ r. ok (b ∷ r))
  unfolding Each
  each_step e es (ok r) z (ok rs) h = (z, h)
  each_step e es (ok r) z (refused i) h = tt
  each_step e es (refused i) z q h = tt

  each_replaced : (es : List Tree) → Each es (each (λ e. replace target n e) es)
  unfolding Each each
  each_replaced [] = tt
  each_replaced (e ∷ es) = each_step e es (replace target n e) refl (each (λ e. replace target n e) es) (each_replaced es)

  EachBound : List Binding → Outcome (List Binding) → Type 0
  EachBound l (ok ls) = Replaced target n (bound l) (bound ls) × (length ls ≡ length l)
  EachBound l (refused i) = Unit {0}

  bound_step :
      (b : Binding) (l : List Binding) (o : Outcome Tree) → replace target n b.expr ≡ o → (q : Outcome (List Binding)) → EachBound l q
      → EachBound (b ∷ l) ((o >>= λ e. ok (record { name = b.name; expr = e })) >>= λ c. q >>= λ r. ok (c ∷ r))
  unfolding EachBound bound
  bound_step b l (ok r) z (ok ls) h = ((z, h.0), ap suc h.1)
  bound_step b l (ok r) z (refused i) h = tt
  bound_step b l (refused i) z q h = tt

  each_bound : (l : List Binding) → EachBound l (each (λ b. replace_bound target n b) l)
  unfolding EachBound each replace_bound bound
  each_bound [] = (tt, refl)
  each_bound (b ∷ l) = bound_step b l (replace target n b.expr) refl (each (λ b. replace_bound target n b) l) (each_bound l)

pub bound_append : (l r : List Binding) → bound (l ++ r) ≡ bound l ++ bound r
unfolding bound
bound_append [] r = refl
bound_append (b ∷ l) r = ap (λ (x : List Tree). b.expr ∷ x) (bound_append l r)

pub length_append : (l r : List Binding) → length (l ++ r) ≡ length l + length r
length_append [] r = sym (zero-add (length r))
length_append (b ∷ l) r = (let e = length_append l r in omega arith)

-- what extraction does
pub record Extracted (target : Tree) (s t : State) : Type 0 where
  pub made : List Tree
  pub replaced : Replaced target (xname s.next) (roots s) made
  pub now : roots t ≡ made ++ (target ∷ [])
  pub next : t.next ≡ suc s.next
  pub more : length t.lets ≡ suc (length s.lets)

module _ (target : Tree) (s : State) where
  Out : Outcome State → Type 0
  Out (ok t) = Extracted target s t
  Out (refused i) = Unit {0}

  out_step :
      (o : Outcome (List Tree)) → Each target (xname s.next) s.results o → (q : Outcome (List Binding)) → EachBound target (xname s.next) s.lets q
      → Out (o >>= λ rs. q >>= λ ls. ok (record { results = rs; lets = ls ++ (record { name = xname s.next; expr = target } ∷ []); next = suc s.next }))
  unfolding Out Each EachBound
  out_step (ok rs) g (ok ls) h =
      record {
        made = rs ++ bound ls;
        replaced = (unfold roots in replaced_append target (xname s.next) s.results rs (bound s.lets) (bound ls) g h.0);
        now =
            (unfold roots in
            (ap (λ (x : List Tree). rs ++ x) (bound_append ls (record { name = xname s.next; expr = target } ∷ []) ∙ (unfold bound in refl))
            ∙ sym (append_assoc rs (bound ls) (target ∷ []))));
        next = refl;
        more = (let a = length_append ls (record { name = xname s.next; expr = target } ∷ []) in let b = h.1 in omega arith);
      }
  out_step (ok rs) g (refused i) h = tt
  out_step (refused i) g q h = tt

  pub extracted : (t : State) → extract target s ≡ ok t → Extracted target s t
  unfolding Out extract
  extracted t e =
      subst Out e
      (out_step (each (λ e. replace target (xname s.next) e) s.results) (each_replaced target (xname s.next) s.results)
      (each (λ b. replace_bound target (xname s.next) b) s.lets) (each_bound target (xname s.next) s.lets))

-- ---- what the rounds keep

-- every symbol but `__xN` with N from k on
unfoldable pub made_before : ℕ → Name → Bool
made_before k (input s) = true
made_before k (xname i) = ltb i k
made_before k (mname i) = true

pub made_le : (k l : ℕ) → k ≤ l → (n : Name) → T (made_before k n) → T (made_before l n)
unfolding made_before
made_le k l e (input s) h = tt
made_le k l e (xname i) h = lt→ltb i l (let q = ltb→lt i k h in omega arith)
made_le k l e (mname i) h = tt

pub made_suc : (k : ℕ) (n : Name) → T (made_before k n) → T (made_before (suc k) n)
made_suc k = made_le k (suc k) (omega arith)

pub made_new : (k : ℕ) → T (made_before (suc k) (xname k))
unfolding made_before
made_new k = lt→ltb k (suc k) (omega arith)

pub new_name : (k : ℕ) → T (made_before k (xname k)) → ⊥
unfolding made_before
new_name k h = (let q = ltb→lt k k h in omega arith)

-- names that a list or a scope may hold before number k
pub below_made : (inp : List ℕ → Bool) (j k : ℕ) (n : Name) → T (below inp j k n) → T (made_before k n)
unfolding below made_before
below_made inp j k (input s) h = tt
below_made inp j k (xname i) h = h
below_made inp j k (mname i) h = tt

pub record Sound (s : State) : Type 0 where
  pub formed : T (well_formed_all (roots s))
  pub known : T (holds_all (made_before s.next) (roots s))

-- what each root saves, summed
pub replaced_saves :
    (μ : Tree → ℕ) (target : Tree) (n : Name) (saved : ℕ)
    → ((e r : Tree) → T (well_formed e) → replace target n e ≡ ok r → μ r + saved * count target (nodes e) ≤ μ e)
    → (es rs : List Tree) → Replaced target n es rs → T (well_formed_all es) → sum_of μ rs + saved * count target (all_nodes es) ≤ sum_of μ es
unfolding sum_of well_formed_all
replaced_saves μ target n saved one [] [] h v =
    (let z : count target (all_nodes []) ≡ 0 = (unfold all_nodes count in refl) in
    let y : saved * count target (all_nodes []) ≡ 0 = ap (λ (m : ℕ). saved * m) z ∙ mul-zero saved in
    omega arith)
replaced_saves μ target n saved one [] (r ∷ rs) h v = absurd h
replaced_saves μ target n saved one (e ∷ es) [] h v = absurd h
replaced_saves μ target n saved one (e ∷ es) (r ∷ rs) h v =
    (let a = one e r (and_left (well_formed e) (well_formed_all es) v) h.0 in
    let b = replaced_saves μ target n saved one es rs h.1 (and_right (well_formed e) (well_formed_all es) v) in
    let q : saved * count target (all_nodes (e ∷ es)) ≡ saved * count target (nodes e) + saved * count target (all_nodes es) =
    ap (λ (m : ℕ). saved * m) (all_nodes_cons target e es) ∙ mul-add saved (count target (nodes e)) (count target (all_nodes es)) in
    omega arith)

replaced_formed :
    (target : Tree) (n : Name) → 1 ≤ length (factors_of target) → (es rs : List Tree) → Replaced target n es rs → T (well_formed_all es) → T (well_formed_all rs)
unfolding well_formed_all
replaced_formed target n s [] [] h v = tt
replaced_formed target n s [] (r ∷ rs) h v = absurd h
replaced_formed target n s (e ∷ es) [] h v = absurd h
replaced_formed target n s (e ∷ es) (r ∷ rs) h v =
    and_both (well_formed r) (well_formed_all rs) (replace_shrinks by_operations target n (least_operations n) (λ _. s) e r (and_left (well_formed e) (well_formed_all es) v) h.0).1
    (replaced_formed target n s es rs h.1 (and_right (well_formed e) (well_formed_all es) v))

replaced_hold :
    (p : Name → Bool) (target : Tree) (n : Name) → T (p n) → (es rs : List Tree) → Replaced target n es rs → T (holds_all p es) → T (holds_all p rs)
unfolding holds_all
replaced_hold p target n t [] [] h v = tt
replaced_hold p target n t [] (r ∷ rs) h v = absurd h
replaced_hold p target n t (e ∷ es) [] h v = absurd h
replaced_hold p target n t (e ∷ es) (r ∷ rs) h v =
    and_both (holds p r) (holds_all p rs)
    (unfold Holds in (subst (Holds p target n (λ _. t)) h.0 (replace_holds p target n (λ _. t) e (and_left (holds p e) (holds_all p es) v))))
    (replaced_hold p target n t es rs h.1 (and_right (holds p e) (holds_all p es) v))

pub twice_up : (o c : ℕ) → 2 ≤ c → o + o ≤ o * c
twice_up o zero h = absurd (omega arith)
twice_up o (suc zero) h = absurd (omega arith)
twice_up o (suc (suc c)) h = (let a = mul-suc o (suc c) in let b = mul-suc o c in omega arith)

-- one extraction of a candidate
pub round :
    (scoped : Bool) (x : Tree) (s t : State) → Sound s → T (is_candidate scoped (roots s) x) → extract x s ≡ ok t
    → Sound t × (suc (all_operations (roots t)) ≤ all_operations (roots s)) × (length t.lets ≡ suc (length s.lets)) × (t.next ≡ suc s.next)
round scoped x s t S c e =
    let E = extracted x s t e in
    let k = s.next in
    let f = candidate_facts scoped (roots s) x c in
    let u : 1 ≤ count x (all_nodes (roots s)) = (let q = f.2 in omega arith) in
    let xw = counted_formed x (all_nodes (roots s)) (all_nodes_formed (roots s) S.formed) u in
    let xh = counted_holds (made_before k) x (all_nodes (roots s)) (all_nodes_hold (made_before k) (roots s) S.known) u in
    let sf = symbol_factor x f.1 in
    let nf : count (Sym (xname k)) (flatten_mul_factors x).factors ≡ 0 = (let a = absent (made_before k) (xname k) (new_name k) x xh in let b = factors_nodes (Sym (xname k)) x in omega arith) in
    let sum = replaced_saves operations x (xname k) (operations x) (operations_saves (xname k) x xw sf nf) (roots s) E.made E.replaced S.formed in
    let shape = replaced_formed x (xname k) sf (roots s) E.made E.replaced S.formed in
    let up = weaken_all (made_before k) (made_before (suc k)) (made_suc k) (roots s) S.known in
    let hold = replaced_hold (made_before (suc k)) x (xname k) (made_new k) (roots s) E.made E.replaced up in (
      record {
        formed = subst (λ (l : List Tree). T (well_formed_all l)) (sym E.now) (all_append E.made (x ∷ []) shape (unfold well_formed_all in (and_both (well_formed x) true xw tt)));
        known =
            subst (λ (j : ℕ). T (holds_all (made_before j) (roots t))) (sym E.next)
            (subst (λ (l : List Tree). T (holds_all (made_before (suc k)) l)) (sym E.now)
            (holds_append (made_before (suc k)) E.made (x ∷ []) hold
            (unfold holds_all in (and_both (holds (made_before (suc k)) x) true (weaken (made_before k) (made_before (suc k)) (made_suc k) x xh) tt))));
      },
      (let a : all_operations (roots t) ≡ all_operations E.made + all_operations (x ∷ []) = ap all_operations E.now ∙ operations_append E.made (x ∷ []) in
          let b : all_operations (x ∷ []) ≡ operations x + 0 = (unfold all_operations in refl) in
          let d = twice_up (operations x) (count x (all_nodes (roots s))) f.2 in
          let o = costs_operation x f.0 in
          let u = operations_sum E.made in
          let v = operations_sum (roots s) in
          omega arith),
      E.more,
      E.next,
    )

-- no operations, no candidate
nothing_left : (scoped : Bool) (s : State) → all_operations (roots s) ≤ 0 → (o : Option Candidate) → best scoped (roots s) ≡ o → best scoped (roots s) ≡ none
nothing_left scoped s h none e = e
nothing_left scoped s h (some c) e =
    let f = candidate_facts scoped (roots s) c.tree (best_fits scoped (roots s) c e) in
    let a = part_all_operations c.tree (roots s) (let q = f.2 in omega arith) in
    let b = costs_operation c.tree f.0 in
    absurd (omega arith)

-- the end of the rounds
pub record Ended (scoped : Bool) (s t : State) : Type 0 where
  pub sound : Sound t
  pub none_left : best scoped (roots t) ≡ none
  pub fewer : length t.lets + all_operations (roots t) ≤ length s.lets + all_operations (roots s)
  pub numbered : length t.lets + s.next ≡ length s.lets + t.next

module _ (scoped : Bool) where
  Ends : State → Outcome State → Type 0
  Ends s (ok t) = Ended scoped s t
  Ends s (refused i) = Unit {0}

  ends_later :
      (s t : State) → length t.lets + all_operations (roots t) ≤ length s.lets + all_operations (roots s) → length t.lets + s.next ≡ length s.lets + t.next
      → (o : Outcome State) → Ends t o → Ends s o
  unfolding Ends
  ends_later s t h n (ok u) e =
      record { sound = e.sound; none_left = e.none_left; fewer = (let q = e.fewer in omega arith); numbered = (let q = e.numbered in omega arith) }
  ends_later s t h n (refused i) e = tt

  after_extract :
      (s : State) → Sound s → (x : Tree) → T (is_candidate scoped (roots s) x) → (g : State → Outcome State)
      → ((t : State) → Sound t → suc (all_operations (roots t)) ≤ all_operations (roots s) → Ends t (g t))
      → (o : Outcome State) → extract x s ≡ o → Ends s (o >>= g)
  unfolding Ends
  after_extract s S x c g f (ok t) e =
      let r = round scoped x s t S c e in
      ends_later s t (let a = r.1 in let b = r.2 in omega arith) (let b = r.2 in let d = r.3 in omega arith) (g t) (unfold Ends in f t r.0 r.1)
  after_extract s S x c g f (refused i) e = tt

  round_step :
      (s : State) → Sound s → (g : State → Outcome State) → ((t : State) → Sound t → suc (all_operations (roots t)) ≤ all_operations (roots s) → Ends t (g t))
      → (o : Option Candidate) → best scoped (roots s) ≡ o → Ends s (elim o [ none ↦ ok s | some c ↦ (extract c.tree s >>= λ t. g t) ])
  unfolding Ends
  round_step s S g f none e = record { sound = S; none_left = e; fewer = omega arith; numbered = refl }
  round_step s S g f (some c) e = (unfold Ends in after_extract s S c.tree (best_fits scoped (roots s) c e) g f (extract c.tree s) refl)

  rounds_end : (fuel : ℕ) (s : State) → Sound s → all_operations (roots s) ≤ fuel → Ends s (rounds fuel scoped s)
  unfolding rounds
  rounds_end zero s S h = (unfold Ends in record { sound = S; none_left = nothing_left scoped s h (best scoped (roots s)) refl; fewer = omega arith; numbered = refl })
  rounds_end (suc fuel) s S h = round_step s S (λ t. rounds fuel scoped t) (λ t U l. rounds_end fuel t U (omega arith)) (best scoped (roots s)) refl

  ended : (s t : State) (o : Outcome State) → o ≡ ok t → Ends s o → Ended scoped s t
  unfolding Ends
  ended s t o e h = subst (Ends s) e h

  -- the fuel is enough
  pub rounds_ended : (fuel : ℕ) (s t : State) → Sound s → all_operations (roots s) ≤ fuel → rounds fuel scoped s ≡ ok t → Ended scoped s t
  rounds_ended fuel s t S h e = ended s t (rounds fuel scoped s) e (rounds_end fuel s S h)

-- a scope's start
unfoldable pub begin : List Tree → ℕ → State
begin es next = record { results = es; lets = []; next = next }

pub begin_roots : (es : List Tree) (next : ℕ) → roots (begin es next) ≡ es
unfolding roots bound begin
begin_roots es next = append-nil es

pub begin_sound : (es : List Tree) (next : ℕ) → T (well_formed_all es) → T (holds_all (made_before next) es) → Sound (begin es next)
unfolding begin
begin_sound es next w h =
    record {
      formed = subst (λ (l : List Tree). T (well_formed_all l)) (sym (begin_roots es next)) w;
      known = subst (λ (l : List Tree). T (holds_all (made_before next) l)) (sym (begin_roots es next)) h;
    }

-- From a well-formed list without `__xN`, N from the first number on: the rounds end with no candidate left, and the bindings made and the
-- operations left are together no more than the operations given.
pub extract_all_end :
    (scoped : Bool) (next : ℕ) (es : List Tree) → T (well_formed_all es) → T (holds_all (made_before next) es) → (t : State) → extract_all scoped next es ≡ ok t
    → Sound t × (best scoped (roots t) ≡ none) × (length t.lets + all_operations (roots t) ≤ all_operations es) × (next + length t.lets ≡ t.next)
extract_all_end scoped next es w h t e =
    let s = begin es next in
    let a : all_operations (roots s) ≡ all_operations es = ap all_operations (begin_roots es next) in
    let r : rounds (all_operations es) scoped s ≡ ok t = (unfold extract_all begin in e) in
    let E : Ended scoped s t = rounds_ended scoped (all_operations es) s t (begin_sound es next w h) (omega arith) r in
    let l : length s.lets ≡ 0 = (unfold begin in refl) in
    let n : s.next ≡ next = (unfold begin in refl) in
    (E.sound, E.none_left, (let b = E.fewer in omega arith), (let b = E.numbered in omega arith))
