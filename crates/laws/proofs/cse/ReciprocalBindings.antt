-- What the reciprocal pass binds stays of the form 1 / d, whatever later divisors do to it; so in a flat answer each binding is some `__xi`, and is of that
-- form from the extraction count on (01, "Reciprocals"). Assumes nothing.
use Prim.Native.Nat.{ℕ, zero, suc, ◌-◌, ◌≤◌}
use mathlib.Core.Path.{◌≡◌, refl, sym, ◌∙◌, ap, subst}
use mathlib.Core.Bool.{Bool, true, false, ◌&&◌}
use mathlib.Core.List.{List, [], ◌∷◌, ◌++◌}
use native.Mathlib.Omega.{arith}
use lib.IntN.{pos}
use lib.ListN.{length}
use lib.Dec.{T, eqb, ltb→lt}
use Rattle.spec_tree.specs.Outcome.{ok}
use Rattle.spec_tree.specs.Tree.{Name, input, xname, mname, Tree, Forest, Sym, Const, Op, nil, ◌◂◌, eq_tree}
use Rattle.spec_tree.specs.Kinds.{Mul, Div}
use Rattle.spec_tree.specs.Facts.{count, all_nodes}
use Rattle.spec_tree.specs.Value.{values}
use Rattle.spec_tree.proofs.Logic.{and_left, and_right}
use Rattle.spec_tree.proofs.TreeLaws.{eq_tree_sound}
use Rattle.spec_rewrite.specs.Rewrite.{divides_by, replace_divisor, replace_divisors, dividend}
use Rattle.spec_rewrite.proofs.Names.{holds, holds_each, holds_all, below, weaken_all, all_nodes_hold}
use Rattle.spec_rewrite.proofs.Measure.{one_of, count_cons, one_self}
use Rattle.spec_rewrite.proofs.Counts.{counted_holds}
use Rattle.spec_cse.specs.Extract.{Binding, State, roots, divisors, replace_divisor_bound, bind_reciprocal, bind_reciprocals, reciprocals}
use Rattle.spec_cse.specs.Answer.{Intermediate, Intermediates, Answer, Let, block}
use Rattle.spec_cse.specs.Scope.{binds, answer}
pub use Rattle.spec_cse.specs.Demand.{Inverse}
use Rattle.spec_cse.specs.Demand.{Flat, AllFlat, flat_shaped}
use Rattle.laws.proofs.cse.RoundsCount.{made_before, below_made}
use Rattle.laws.proofs.cse.RoundsValue.{let_names, Numbered, reciprocals_keep, roots_known}
use Rattle.laws.proofs.cse.SortCount.{Every, sorted_every}
use Rattle.laws.proofs.cse.ReciprocalsCount.{AllTrees, all_map, divisors_all, bound_divisors, bound_twice, inverse, reciprocals_are}
use Rattle.laws.proofs.cse.DivisorsMost.{bound_once}
use Rattle.laws.proofs.cse.FlatCount.{parts, some_reading, rounds_model}

-- ---- what holds old names alone was not rewritten

module _ (d : Tree) (n : Name) (p : Name → Bool) (new : T (p n) → ⊥) where
  dividend_new : (f : Forest) → T (divides_by d f) → T (holds_each p (dividend d n f)) → ⊥
  unfolding divides_by dividend holds
  dividend_new nil t h = t
  dividend_new (a ◂ f) t h = new (and_left (p n) true (and_right (holds p (replace_divisor d n a)) (p n && true) h))

  node_same :
      (k : ℕ) (f : Forest) (b : Bool) → (T b → T (divides_by d f)) → (T (holds_each p (replace_divisors d n f)) → replace_divisors d n f ≡ f)
      → T (holds p (elim b [ true ↦ Op Mul (dividend d n f) | false ↦ Op k (replace_divisors d n f) ]))
      → ◌≡◌ {A = Tree} (elim b [ true ↦ Op Mul (dividend d n f) | false ↦ Op k (replace_divisors d n f) ]) (Op k f)
  unfolding holds
  node_same k f true g ih h = absurd (dividend_new f (g tt) h)
  node_same k f false g ih h = ap (Op k) (ih h)

  mutual
    unfolding replace_divisor holds

    pub old_same : (e : Tree) → T (holds p (replace_divisor d n e)) → replace_divisor d n e ≡ e
    old_same (Sym s) h = refl
    old_same (Const c) h = refl
    old_same (Op k f) h = node_same k f (eqb k Div && divides_by d f) (and_right (eqb k Div) (divides_by d f)) (λ g. old_same_each f g) h

    old_same_each : (f : Forest) → T (holds_each p (replace_divisors d n f)) → replace_divisors d n f ≡ f
    old_same_each nil h = refl
    old_same_each (t ◂ f) h =
        let a = old_same t (and_left (holds p (replace_divisor d n t)) (holds_each p (replace_divisors d n f)) h) in
        let b = old_same_each f (and_right (holds p (replace_divisor d n t)) (holds_each p (replace_divisors d n f)) h) in
        cc

-- 1 / e divided by something else
inverse_kept : (d : Tree) (n : Name) (e : Tree) → (e ≡ d → ⊥) → replace_divisor d n (inverse e) ≡ inverse (replace_divisor d n e)
unfolding replace_divisor inverse divides_by
inverse_kept d n e f = go (eq_tree e d) (eq_tree_sound e d)
  where
    go : (b : Bool) → (T b → e ≡ d)
        → ◌≡◌ {A = Tree} (elim b [ true ↦ Op Mul (Const (pos 1) ◂ Sym n ◂ nil) | false ↦ Op Div (Const (pos 1) ◂ replace_divisor d n e ◂ nil) ])
        (Op Div (Const (pos 1) ◂ replace_divisor d n e ◂ nil))
    go true g = absurd (f (g tt))
    go false g = refl

-- ---- the bindings past the first x

abbrev pub Past : (Tree → Type 0) → ℕ → List Binding → Type 0
Past P x [] = Unit {0}
Past P zero (b ∷ l) = P b.expr × Past P zero l
Past P (suc x) (b ∷ l) = Past P x l

pub past_none : (P : Tree → Type 0) (l : List Binding) → Past P (length l) l
past_none P [] = tt
past_none P (b ∷ l) = past_none P l

pub past_append : (P : Tree → Type 0) (x : ℕ) (l : List Binding) (b : Binding) → Past P x l → P b.expr → Past P x (l ++ (b ∷ []))
past_append P zero [] b h p = (p, tt)
past_append P (suc x) [] b h p = tt
past_append P zero (a ∷ l) b h p = (h.0, past_append P zero l b h.1 p)
past_append P (suc x) (a ∷ l) b h p = past_append P x l b h p

past_map : (P Q : Tree → Type 0) → ((e : Tree) → P e → Q e) → (x : ℕ) (l : List Binding) → Past P x l → Past Q x l
past_map P Q f x [] h = tt
past_map P Q f zero (b ∷ l) h = (f b.expr h.0, past_map P Q f zero l h.1)
past_map P Q f (suc x) (b ∷ l) h = past_map P Q f x l h

-- Numbers from k on are new. A divisor bound before is none of those to come: while it holds no new name it is as counted, and each is counted once.
module _ (k : ℕ) where
  abbrev Kept : List Tree → Tree → Type 0
  Kept ds e = (c : Tree) × (e ≡ inverse c) × (T (holds (made_before k) c) → count c ds ≡ 0)

  old_name : (i : ℕ) → k ≤ i → T (made_before k (xname i)) → ⊥
  unfolding made_before
  old_name i h t = (let q = ltb→lt i k t in omega arith)

  module _ (d : Tree) (ds : List Tree) (i : ℕ) (h : k ≤ i) (known : T (holds (made_before k) d)) where
    other : (c : Tree) → (T (holds (made_before k) c) → count c (d ∷ ds) ≡ 0) → c ≡ d → ⊥
    other c f e =
        (let a = f (subst (λ (t : Tree). T (holds (made_before k) t)) (sym e) known) in
        let b = count_cons c d ds in
        let z : one_of d c ≡ 1 = subst (λ (t : Tree). one_of d t ≡ 1) (sym e) (one_self d) in
        omega arith)

    kept_step : (e : Tree) → Kept (d ∷ ds) e → Kept ds (replace_divisor d (xname i) e)
    kept_step e (c, q, f) = (
      replace_divisor d (xname i) c,
      ap (replace_divisor d (xname i)) q ∙ inverse_kept d (xname i) c (other c f),
      λ g. (let s = old_same d (xname i) (made_before k) (old_name i h) c g in
          let a = f (subst (λ (t : Tree). T (holds (made_before k) t)) s g) in
          let b = count_cons c d ds in
          let z = ap (λ (t : Tree). count t ds) s in
          omega arith),
    )

    divided_past : (x : ℕ) (l : List Binding) → Past (Kept (d ∷ ds)) x l → Past (Kept ds) x (replace_divisor_bound d (xname i) l)
    unfolding replace_divisor_bound
    divided_past x [] g = tt
    divided_past zero (b ∷ l) g = (kept_step b.expr g.0, divided_past zero l g.1)
    divided_past (suc x) (b ∷ l) g = divided_past x l g

  each_past :
      (x : ℕ) (ds : List Tree) (s : State) → k ≤ s.next → AllTrees (λ d. T (holds (made_before k) d)) ds → ((c : Tree) → count c ds ≤ 1) → Past (Kept ds) x s.lets
      → Past (Kept []) x (bind_reciprocals ds s).lets
  unfolding bind_reciprocals
  each_past x [] s h a once g = g
  each_past x (d ∷ ds) s h a once g =
      each_past x ds (bind_reciprocal d s) (unfold bind_reciprocal in omega arith) a.1 (λ c. let p = once c in let q = count_cons c d ds in omega arith)
      (unfold bind_reciprocal in
      past_append (Kept ds) x (replace_divisor_bound d (xname s.next) s.lets) _ (divided_past d ds s.next h a.0 x s.lets g)
      (d, (unfold inverse in refl), (λ t. let p = once d in let q = count_cons d d ds in let z = one_self d in omega arith)))

bound_known : (p : Name → Bool) (scoped : Bool) (s : State) → T (holds_all p (roots s)) → AllTrees (λ d. T (holds p d)) (bound_divisors scoped s)
bound_known p scoped s h =
    all_map (λ d. 2 ≤ count d (divisors (all_nodes (roots s)))) (λ d. T (holds p d))
    (λ d q. counted_holds p d (all_nodes (roots s)) (all_nodes_hold p (roots s) h) (let c = divisors_all d (roots s) in omega arith))
    (bound_divisors scoped s) (bound_twice scoped s)

-- The bindings of the reciprocal pass come after those of the rounds, and are of the form 1 / d.
pub reciprocals_past : (scoped : Bool) (s : State) → T (holds_all (made_before s.next) (roots s)) → Past Inverse (length s.lets) (reciprocals scoped s).lets
reciprocals_past scoped s h =
    subst (λ (u : State). Past Inverse (length s.lets) u.lets) (sym (reciprocals_are scoped s))
    (past_map (Kept s.next []) Inverse (λ e q. (q.0, (unfold inverse in q.1))) (length s.lets) (bind_reciprocals (bound_divisors scoped s) s).lets
    (each_past s.next (length s.lets) (bound_divisors scoped s) s (omega arith) (bound_known (made_before s.next) scoped s h) (bound_once scoped s)
    (past_none (Kept s.next (bound_divisors scoped s)) s.lets)))

-- ---- the flat answer

numbered_flat : (x k top : ℕ) (l : List Binding) → Numbered k top (let_names l) → Past Inverse (x - k) l → Every (Flat x) (binds l)
unfolding let_names binds
numbered_flat x k top [] n h = tt
numbered_flat x k top (b ∷ l) n h =
    let g = go (x - k) refl h in
    (subst (λ (m : Name). Flat x (Let m b.expr)) (sym n.0) g.0, numbered_flat x (suc k) top l n.1 g.1)
  where
    go : (y : ℕ) → x - k ≡ y → Past Inverse y (b ∷ l) → (x ≤ k → Inverse b.expr) × Past Inverse (x - suc k) l
    go zero e h = ((λ q. h.0), subst (λ (m : ℕ). Past Inverse m l) (let z : 0 ≡ x - suc k = omega arith in z) h.1)
    go (suc y) e h = ((λ q. absurd (omega arith)), subst (λ (m : ℕ). Past Inverse m l) (let z : y ≡ x - suc k = omega arith in z) h)

all_flat : (x : ℕ) (l : List Intermediate) → Every (Flat x) l → AllFlat x (block l)
unfolding block
all_flat x [] h = tt
all_flat x (s ∷ l) h = (h.0, all_flat x l h.1)

-- For a list that holds no name of an answer: each statement of its flat answer binds some `__xi`, and where i is not below the extraction count, to 1 / d.
pub flat_reciprocals : (es : List Tree) → T (holds_all (below (λ s. true) 0 0) es) → (a : Answer) → answer false es ≡ ok a → flat_shaped a
flat_reciprocals es h a e =
    let P = parts es a e in
    let s = P.state in
    let vs = values some_reading (λ n. 0) es in
    let M = rounds_model es h s P.rounds in
    let N = reciprocals_keep some_reading (λ s. true) 0 (λ n. 0) vs false s M in
    let t = reciprocals false s in
    let x = length s.lets in
    let known = weaken_all (below (λ s. true) 0 s.next) (made_before s.next) (below_made (λ s. true) 0 s.next) (roots s) (roots_known some_reading (λ s. true) 0 (λ n. 0) vs s M) in
    let flat : Every (Flat x) (binds t.lets) =
    numbered_flat x 0 t.next t.lets N.numbered (subst (λ (m : ℕ). Past Inverse m t.lets) (let z : x ≡ x - 0 = omega arith in z) (reciprocals_past false s known)) in
    subst (λ (l : Intermediates). AllFlat a.extracted l) (sym P.inters)
    (subst (λ (m : ℕ). AllFlat m (block P.stmts)) (sym P.extracted) (all_flat x P.stmts (sorted_every (Flat x) (binds t.lets) P.stmts P.sorted flat)))
