-- The clauses of demand 3 on the flat answer alone: no operation that depends on an input symbol stands twice; the extraction count is that of the
-- bindings that are not reciprocals; and the count and the operations outside reciprocals are together at most the operations given. Assumes nothing.
use Prim.Native.Nat.{ℕ, suc, ◌+◌, ◌-◌, min, ◌≤◌}
use mathlib.Core.Path.{◌≡◌, refl, sym, ◌∙◌, ap, ap₂, subst}
use mathlib.Core.Logic.{◌⊎◌, inl, inr}
use mathlib.Core.Bool.{Bool, true, false}
use mathlib.Core.List.{List, [], ◌∷◌, ◌++◌}
use native.Mathlib.Omega.{arith}
use lib.ListN.{length}
use lib.Dec.{T, ltb, leb→le, ltb→lt, lt→ltb}
use Rattle.spec_tree.specs.Outcome.{Outcome, ok, refused, ◌>>=◌}
use Rattle.spec_tree.specs.Tree.{Name, input, xname, mname, Tree, Forest, Sym, Const, Op, nil, ◌◂◌, folds, eq_name}
use Rattle.spec_tree.proofs.TreeLaws.{eq_name_sound, eq_name_refl}
use Rattle.spec_tree.specs.Facts.{all_operations, cost, operations, nodes, all_nodes, count}
use Rattle.spec_cse.specs.Extract.{Binding, State, bound, roots, extract_all, bind_reciprocal, bind_reciprocals, reciprocals}
use Rattle.spec_cse.specs.Answer.{Intermediate, Intermediates, Answer, Let, Match, block, concat, symbols, all_symbols, elem}
use Rattle.spec_cse.specs.Order.{topo_sort_intermediates}
use Rattle.spec_cse.specs.Scope.{Scoped, binds, unfused, finish, cse_scope, as_answer, answer}
use Rattle.spec_tree.specs.Value.{Reading, Env, values}
use Rattle.spec_cse.specs.Demand.{depends, dependent, bound_exprs, extracted_exprs, no_repeats}
use Rattle.spec_tree.proofs.Logic.{and_left, and_right}
use Rattle.spec_rewrite.proofs.Measure.{sum_of, sum_append, operations_sum}
use Rattle.spec_rewrite.proofs.Names.{holds, holds_each, holds_all, below, weaken_all}
use Rattle.laws.proofs.cse.RoundsValue.{let_names, Numbered, Binds, Model, Modeled, extract_all_keeps, reciprocals_keep}
use Rattle.spec_rewrite.proofs.Counts.{well_formed_all, all_nodes_cons, all_nodes_append, operations_append}
use Rattle.laws.proofs.cse.RoundsCount.{made_before, made_le, below_made, costs_operation, extract_all_end, flat_end}
use Rattle.spec_rewrite.proofs.DivisorCount.{divisor_operations}
use Rattle.laws.proofs.cse.SortCount.{summed, sorted_sum, Every, sorted_every}
use Rattle.laws.proofs.cse.Dependence.{depends_up, depends_symbol, Closed, dependent_within}
use Rattle.laws.proofs.cse.ReciprocalsCount.{operation_costs, Once, bound_divisors, bindable, telling, tells, made_tells, reciprocal_each_once, from_rounds, bindings_most, reciprocal_each_falls, reciprocals_are}

-- ---- an answer's parts

pub record Parts (es : List Tree) (a : Answer) : Type 0 where
  pub state : State
  pub stmts : List Intermediate
  pub rounds : extract_all false 0 es ≡ ok state
  pub sorted : topo_sort_intermediates (binds (reciprocals false state).lets) ≡ ok stmts
  pub inters : a.inters ≡ block stmts
  pub results : a.results ≡ (reciprocals false state).results
  pub extracted : a.extracted ≡ length state.lets

module _ (es : List Tree) where
  Parted : Outcome Answer → Type 0
  Parted (ok a) = Parts es a
  Parted (refused i) = Unit {0}

  sorted_parts :
      (s : State) → extract_all false 0 es ≡ ok s → (q : Outcome (List Intermediate)) → topo_sort_intermediates (binds (reciprocals false s).lets) ≡ q
      → Parted
      ((q >>= λ l. ok (record { inters = l; results = (reciprocals false s).results; next = (reciprocals false s).next; extracted = length s.lets }))
      >>= λ (b : Scoped). ok (as_answer b))
  unfolding Parted as_answer
  sorted_parts s e (ok l) z = record { state = s; stmts = l; rounds = e; sorted = z; inters = refl; results = refl; extracted = refl }
  sorted_parts s e (refused i) z = tt

  state_parts :
      (o : Outcome State) → extract_all false 0 es ≡ o
      → Parted ((o >>= λ s. finish (unfused (length s.lets) (reciprocals false s))) >>= λ b. ok (as_answer b))
  unfolding Parted finish unfused
  state_parts (ok s) e = (unfold Parted finish unfused in sorted_parts s e (topo_sort_intermediates (binds (reciprocals false s).lets)) refl)
  state_parts (refused i) e = tt

  pub parts : (a : Answer) → answer false es ≡ ok a → Parts es a
  unfolding Parted answer cse_scope
  parts a e = subst Parted e (state_parts (extract_all false 0 es) refl)

-- ---- sums over statements

pub extracted_sum : (x : ℕ) (l : List Intermediate) → all_operations (extracted_exprs x (block l)) ≡ summed (from_rounds operations x) l
unfolding extracted_exprs block all_operations summed
extracted_sum x [] = refl
extracted_sum x (Let (input s) e ∷ l) = (let q = extracted_sum x l in omega arith)
extracted_sum x (Let (xname i) e ∷ l) = go (ltb i x) (extracted_sum x l)
  where
    go : (b : Bool) → all_operations (extracted_exprs x (block l)) ≡ summed (from_rounds operations x) l
        → all_operations (elim b [ true ↦ e ∷ extracted_exprs x (block l) | false ↦ extracted_exprs x (block l) ])
        ≡ elim b as (λ _. ℕ) [ true ↦ operations e | false ↦ 0 ] + summed (from_rounds operations x) l
    go true h = omega arith
    go false h = omega arith
extracted_sum x (Let (mname i) e ∷ l) = (let q = extracted_sum x l in omega arith)
extracted_sum x (Match k key ns arms ∷ l) = (let q = extracted_sum x l in omega arith)

-- how often an expression stands in a statement's
abbrev standing : Tree → Intermediate → ℕ
standing y (Let n e) = count y (nodes e)
standing y (Match k key ns arms) = 0

bound_sum : (y : Tree) (l : List Intermediate) → count y (all_nodes (bound_exprs (block l))) ≡ summed (standing y) l
unfolding bound_exprs block summed
bound_sum y [] = (unfold all_nodes count in refl)
bound_sum y (Let n e ∷ l) = (let q = bound_sum y l in let c = all_nodes_cons y e (bound_exprs (block l)) in omega arith)
bound_sum y (Match k key ns arms ∷ l) = (let q = bound_sum y l in omega arith)

binds_sum : (y : Tree) (l : List Binding) → summed (standing y) (binds l) ≡ count y (all_nodes (bound l))
unfolding binds bound summed
binds_sum y [] = (unfold all_nodes count in refl)
binds_sum y (b ∷ l) = (let q = binds_sum y l in let c = all_nodes_cons y b.expr (bound l) in omega arith)

-- ---- the count

-- a list without names of an answer
pub list_made : (es : List Tree) → T (holds_all (below (λ s. true) 0 0) es) → T (holds_all (made_before 0) es)
list_made = weaken_all (below (λ s. true) 0 0) (made_before 0) (below_made (λ s. true) 0 0)

module _ (es : List Tree) (formed : T (well_formed_all es)) (known : T (holds_all (below (λ s. true) 0 0) es)) where
  pub flat_count :
      (a : Answer) → answer false es ≡ ok a
      → a.extracted + all_operations (a.results ++ extracted_exprs a.extracted a.inters) ≤ all_operations es
  flat_count a e =
      (let P = parts es a e in
      let s = P.state in
      let E = extract_all_end false 0 es formed (list_made es known) s P.rounds in
      let x = length s.lets in
      let t = reciprocals false s in
      let f = reciprocal_each_falls operations (length s.lets) divisor_operations (bound_divisors false s) s (let q = E.3 in omega arith) in
      let f0 : sum_of operations t.results ≤ sum_of operations s.results = subst (λ (u : State). sum_of operations u.results ≤ sum_of operations s.results) (sym (reciprocals_are false s)) f.0 in
      let f1 : summed (from_rounds operations x) (binds t.lets) ≤ summed (from_rounds operations x) (binds s.lets) =
      subst (λ (u : State). summed (from_rounds operations x) (binds u.lets) ≤ summed (from_rounds operations x) (binds s.lets)) (sym (reciprocals_are false s)) f.1 in
      let g = sorted_sum (from_rounds operations x) (binds t.lets) P.stmts P.sorted in
      let h = bindings_most operations x s.lets in
      let r : all_operations (roots s) ≡ sum_of operations s.results + sum_of operations (bound s.lets) = operations_sum (roots s) ∙ (unfold roots in sum_append operations s.results (bound s.lets)) in
      let i = operations_append a.results (extracted_exprs a.extracted a.inters) in
      let j : all_operations a.results ≡ sum_of operations t.results = ap all_operations P.results ∙ operations_sum t.results in
      let k : all_operations (extracted_exprs a.extracted a.inters) ≡ summed (from_rounds operations x) P.stmts =
      ap₂ (λ (m : ℕ) (l : Intermediates). all_operations (extracted_exprs m l)) P.extracted P.inters ∙ extracted_sum x P.stmts in
      let m = P.extracted in
      let n = E.2 in
      omega arith)

-- ---- symbols of the list are no names of an answer

elem_cases : (n s : Name) (l : List Name) → T (elem n (s ∷ l)) → (s ≡ n) ⊎ T (elem n l)
unfolding elem
elem_cases n s l t = go (eq_name s n) (eq_name_sound s n) t
  where
    go : (b : Bool) → (T b → s ≡ n) → T (elim b [ true ↦ true | false ↦ elem n l ]) → (s ≡ n) ⊎ T (elem n l)
    go true f t = inl (f tt)
    go false f t = inr t

elem_append : (n : Name) (s t : List Name) → T (elem n (s ++ t)) → T (elem n s) ⊎ T (elem n t)
elem_append n [] t h = inr h
elem_append n (x ∷ s) t h = go (elem_cases n x (s ++ t) h) (λ u. elem_append n s t u)
  where
    here : (x ≡ n) ⊎ T (elem n s) → T (elem n (x ∷ s))
    here (inl e) = (unfold elem in on (eq_name x n) (subst (λ (y : Name). T (eq_name x y)) e (eq_name_refl x)))
      where
        on : (b : Bool) → T b → T (elim b [ true ↦ true | false ↦ elem n s ])
        on true u = tt
        on false u = absurd u
    here (inr u) = (unfold elem in on (eq_name x n))
      where
        on : (b : Bool) → T (elim b [ true ↦ true | false ↦ elem n s ])
        on true = tt
        on false = u

    go : (x ≡ n) ⊎ T (elem n (s ++ t)) → (T (elem n (s ++ t)) → T (elem n s) ⊎ T (elem n t)) → T (elem n (x ∷ s)) ⊎ T (elem n t)
    go (inl e) f = inl (here (inl e))
    go (inr u) f = elim (f u) [ inl a ↦ inl (here (inr a)) | inr b ↦ inr b ]

nowhere : (n : Name) → T (elem n []) → ⊥
unfolding elem
nowhere n t = t

module _ (p : Name → Bool) (n : Name) where
  mutual
    unfolding holds symbols concat

    held : (e : Tree) → T (holds p e) → T (elem n (symbols e)) → T (p n)
    held (Sym m) h t = elim (elem_cases n m [] t) [ inl e ↦ subst (λ (x : Name). T (p x)) e h | inr u ↦ absurd (nowhere n u) ]
    held (Const c) h t = absurd (nowhere n t)
    held (Op k f) h t = held_each f h t

    held_each : (f : Forest) → T (holds_each p f) → T (elem n (concat (folds (λ n. n ∷ []) (λ c. []) (λ k l. concat l) f))) → T (p n)
    held_each nil h t = absurd (nowhere n t)
    held_each (e ◂ f) h t =
        elim (elem_append n (symbols e) (concat (folds (λ n. n ∷ []) (λ c. []) (λ k l. concat l) f)) t) [
          | inl a ↦ held e (and_left (holds p e) (holds_each p f) h) a
          | inr b ↦ held_each f (and_right (holds p e) (holds_each p f) h) b
        ]

  held_all : (l : List Tree) → T (holds_all p l) → T (elem n (all_symbols l)) → T (p n)
  unfolding holds_all all_symbols
  held_all [] h t = absurd (nowhere n t)
  held_all (e ∷ l) h t =
      elim (elem_append n (symbols e) (all_symbols l) t) [
        | inl a ↦ held e (and_left (holds p e) (holds_all p l) h) a
        | inr b ↦ held_all l (and_right (holds p e) (holds_all p l) h) b
      ]

-- ---- no repeats

-- any reading serves to say that the rounds' names are numbered
pub some_reading : Reading
some_reading = record { modulus = 2; two_up = omega arith; reciprocal = λ a. a; function = λ k l. 0; index = λ a. a; sign = λ a. true }

names_closed :
    (x k : ℕ) (ds : List Tree) (σ : Env) (l : List Binding) → k ≡ x → Binds some_reading (λ s. true) 0 k σ l → Every (Closed (telling x ds)) (binds l)
unfolding Binds binds
names_closed x k ds σ [] e h = tt
names_closed x k ds σ (b ∷ l) e h =
    ((λ t. made_tells x ds b.name (subst (λ (j : ℕ). T (made_before j b.name)) e (below_made (λ s. true) 0 k b.name h.0.0))), names_closed x k ds σ l e h.1)

-- a symbol of the list
input_tells : (x : ℕ) (ds : List Tree) (n : Name) → T (made_before 0 n) → T (telling x ds n)
input_tells x ds n t = made_tells x ds n (made_le 0 x (omega arith) n t)

pub rounds_model :
    (es : List Tree) → T (holds_all (below (λ s. true) 0 0) es) → (s : State) → extract_all false 0 es ≡ ok s
    → Model some_reading (λ s. true) 0 (λ n. 0) (values some_reading (λ n. 0) es) s
unfolding Modeled
rounds_model es h s e =
    subst (Modeled some_reading (λ s. true) 0 (λ n. 0) (values some_reading (λ n. 0) es)) e (extract_all_keeps some_reading (λ s. true) 0 (λ n. 0) false es h)

module _ (es : List Tree) (formed : T (well_formed_all es)) (known : T (holds_all (below (λ s. true) 0 0) es)) where
  pub flat_no_repeats : (a : Answer) → answer false es ≡ ok a → no_repeats es a
  unfolding no_repeats
  flat_no_repeats a e y c t =
      (let P = parts es a e in
      let s = P.state in
      let E = extract_all_end false 0 es formed (list_made es known) s P.rounds in
      let ds = bound_divisors false s in
      let B = bindable s E.0 E.1 in
      let σ = telling s.next ds in
      let M = rounds_model es known s P.rounds in
      let O : Once σ (roots s) = λ z o u. flat_end (roots s) E.1 z (operation_costs z o) (depends_symbol σ z u) in
      let R = reciprocal_each_once σ ds s B (tells s.next ds B) E.0 O (names_closed s.next s.next ds M.env s.lets refl M.binds) in
      let u = reciprocals false s in
      let q = sym (reciprocals_are false s) in
      let once : Once σ (roots u) = subst (λ (v : State). Once σ (roots v)) q R.0 in
      let closed : Every (Closed σ) (binds u.lets) = subst (λ (v : State). Every (Closed σ) (binds v.lets)) q R.1 in
      let D = sorted_every (Closed σ) (binds u.lets) P.stmts P.sorted closed in
      let dep : T (depends σ y) =
      depends_up (dependent a.inters (λ n. elem n (all_symbols es))) σ
      (λ n v. dependent_within σ P.stmts D (λ n. elem n (all_symbols es)) (λ m w. input_tells s.next ds m (held_all (made_before 0) m es (list_made es known) w)) n
      (subst (λ (l : Intermediates). T (dependent l (λ n. elem n (all_symbols es)) n)) P.inters v)) y t in
      let o = once y (costs_operation y (leb→le 1 (cost y) c)) dep in
      let r : count y (all_nodes (roots u)) ≡ count y (all_nodes u.results) + count y (all_nodes (bound u.lets)) = (unfold roots in all_nodes_append y u.results (bound u.lets)) in
      let g = sorted_sum (standing y) (binds u.lets) P.stmts P.sorted in
      let h = binds_sum y u.lets in
      let i = all_nodes_append y a.results (bound_exprs a.inters) in
      let j : count y (all_nodes a.results) ≡ count y (all_nodes u.results) = ap (λ (l : List Tree). count y (all_nodes l)) P.results in
      let k : count y (all_nodes (bound_exprs a.inters)) ≡ summed (standing y) P.stmts =
      ap (λ (l : Intermediates). count y (all_nodes (bound_exprs l))) P.inters ∙ bound_sum y P.stmts in
      omega arith)

-- ---- the count is that of the bindings that are not reciprocals

counting : (x : ℕ) (l : List Intermediate) → length (extracted_exprs x (block l)) ≡ summed (from_rounds (λ e. 1) x) l
unfolding extracted_exprs block summed
counting x [] = refl
counting x (Let (input s) e ∷ l) = (let q = counting x l in omega arith)
counting x (Let (xname i) e ∷ l) = go (ltb i x) (counting x l)
  where
    go : (b : Bool) → length (extracted_exprs x (block l)) ≡ summed (from_rounds (λ e. 1) x) l
        → length {A = Tree} (elim b [ true ↦ e ∷ extracted_exprs x (block l) | false ↦ extracted_exprs x (block l) ])
        ≡ elim b as (λ _. ℕ) [ true ↦ 1 | false ↦ 0 ] + summed (from_rounds (λ e. 1) x) l
    go true h = omega arith
    go false h = omega arith
counting x (Let (mname i) e ∷ l) = (let q = counting x l in omega arith)
counting x (Match k key ns arms ∷ l) = (let q = counting x l in omega arith)

-- of bindings numbered from k, those with a number below x
numbered_count :
    (x k top : ℕ) (l : List Binding) → Numbered k top (let_names l) → (k ≤ top) × (summed (from_rounds (λ e. 1) x) (binds l) ≡ min x top - min x k)
unfolding let_names binds summed
numbered_count x k top [] h = ((omega (arith, h)), (omega (arith, h)))
numbered_count x k top (b ∷ l) h =
    let q = numbered_count x (suc k) top l h.1 in
    let v : from_rounds (λ e. 1) x (Let b.name b.expr) ≡ from_rounds (λ e. 1) x (Let (xname k) b.expr) =
    ap (λ (n : Name). from_rounds (λ e. 1) x (Let n b.expr)) h.0 in
    let w = go (ltb k x) (ltb→lt k x) (lt→ltb k x) in
    ((let a = q.0 in omega arith), (let a = q.0 in let c = q.1 in omega arith))
  where
    go : (b : Bool) → (T b → suc k ≤ x) → (suc k ≤ x → T b) → elim b as (λ _. ℕ) [ true ↦ 1 | false ↦ 0 ] ≡ min x (suc k) - min x k
    go true f g = (let q = f tt in omega arith)
    go false f g = (let q : suc k ≤ x → ⊥ = g in omega arith)

reciprocal_each_later : (l : List Tree) (s : State) → s.next ≤ (bind_reciprocals l s).next
unfolding bind_reciprocals
reciprocal_each_later [] s = omega arith
reciprocal_each_later (d ∷ l) s = (let q = reciprocal_each_later l (bind_reciprocal d s) in let n : (bind_reciprocal d s).next ≡ suc s.next = (unfold bind_reciprocal in refl) in omega arith)

module _ (es : List Tree) (formed : T (well_formed_all es)) (known : T (holds_all (below (λ s. true) 0 0) es)) where
  pub flat_counted : (a : Answer) → answer false es ≡ ok a → length (extracted_exprs a.extracted a.inters) ≡ a.extracted
  flat_counted a e =
      (let P = parts es a e in
      let s = P.state in
      let E = extract_all_end false 0 es formed (list_made es known) s P.rounds in
      let x = length s.lets in
      let t = reciprocals false s in
      let M = reciprocals_keep some_reading (λ s. true) 0 (λ n. 0) (values some_reading (λ n. 0) es) false s (rounds_model es known s P.rounds) in
      let n = numbered_count x 0 t.next t.lets M.numbered in
      let c = n.1 in
      let g = sorted_sum (from_rounds (λ e. 1) x) (binds t.lets) P.stmts P.sorted in
      let k : length (extracted_exprs a.extracted a.inters) ≡ summed (from_rounds (λ e. 1) x) P.stmts =
      ap₂ (λ (m : ℕ) (l : Intermediates). length (extracted_exprs m l)) P.extracted P.inters ∙ counting x P.stmts in
      let later : s.next ≤ t.next = subst (λ (u : State). s.next ≤ u.next) (sym (reciprocals_are false s)) (reciprocal_each_later (bound_divisors false s) s) in
      let r = E.3 in
      let m = P.extracted in
      omega arith)
