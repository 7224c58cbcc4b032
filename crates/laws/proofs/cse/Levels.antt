-- A level of trees, as the depth of nested arms is one, is raised by no rewriting. Assumes nothing.
use Prim.Native.Nat.{ℕ, zero, suc, ◌*◌, ◌≤◌}
use mathlib.Core.Path.{◌≡◌, refl, sym, subst}
use mathlib.Core.Bool.{Bool, true, false, ◌&&◌}
use mathlib.Core.Option.{Option, none, some}
use mathlib.Core.List.{List, [], ◌∷◌, ◌++◌}
use native.Mathlib.Omega.{arith}
use lib.IntN.{ℤ, pos, negsuc}
use lib.Dec.{T, eqb}
use Rattle.spec_tree.specs.Outcome.{Outcome, ok, refused, ◌>>=◌}
use Rattle.spec_tree.specs.Tree.{Name, xname, Tree, Forest, Sym, Const, Op, nil, ◌◂◌, fold, folds, eq_tree, eq_int}
use Rattle.spec_tree.specs.Kinds.{Neg, Mul, Div}
use Rattle.spec_tree.specs.Facts.{size, nodes, nodes_of, all_nodes, count}
use Rattle.spec_tree.proofs.Logic.{and_right}
use Rattle.spec_rewrite.specs.Rewrite.{Factors, one, flatten_mul_factors, flatten_operands, flatten_after, times, negated, constant_of, nested_product, with_coefficient, built, build_mul_from_factors, remove_first, remove_each, is_mul, match_factors, each_operand, replace_within, replace, divides_by, replace_divisor, replace_divisors, dividend}
use Rattle.spec_rewrite.proofs.Measure.{one_of, count_cons}
use Rattle.spec_rewrite.proofs.Counts.{one_equal, count_nil}
use Rattle.spec_cse.specs.Extract.{State, roots, is_candidate, extract, extract_all, divisors, replace_divisor_each, bind_reciprocal, bind_reciprocals, reciprocals}
use Rattle.laws.proofs.cse.RoundsGood.{extract_all_good}
use Rattle.laws.proofs.cse.Outcomes.{Good, then_good, good_ok, good_at}
use Rattle.laws.proofs.cse.RoundsCount.{Replaced, extracted, candidate_facts, begin_roots}
use Rattle.laws.proofs.cse.ReciprocalsCount.{AllTrees, all_map, bound_divisors, bound_twice, inverse, roots_reciprocal, reciprocals_are}

-- ---- lists of trees

pub trees_append : (P : Tree → Type 0) (s t : List Tree) → AllTrees P s → AllTrees P t → AllTrees P (s ++ t)
trees_append P [] t g h = h
trees_append P (x ∷ s) t g h = (g.0, trees_append P s t g.1 h)

pub trees_at : (P : Tree → Type 0) (x : Tree) (l : List Tree) → AllTrees P l → 1 ≤ count x l → P x
trees_at P x [] h c = (let z = count_nil x in absurd (omega arith))
trees_at P x (t ∷ l) h c = go (one_of t x) refl (λ d. trees_at P x l h.1 d)
  where
    go : (m : ℕ) → one_of t x ≡ m → (1 ≤ count x l → P x) → P x
    go zero e f = f (let q = count_cons x t l in omega arith)
    go (suc m) e f = subst P (one_equal t x (omega arith)) h.0

-- ---- a level: leaves have 0, an operation's comes from its operands', and is not below them

-- one by one not above
abbrev pub Lower : List ℕ → List ℕ → Type 0
Lower [] [] = Unit {0}
Lower [] (m ∷ ms) = ⊥
Lower (l ∷ ls) [] = ⊥
Lower (l ∷ ls) (m ∷ ms) = (l ≤ m) × Lower ls ms

-- each at most N
abbrev pub Most : ℕ → List ℕ → Type 0
Most N [] = Unit {0}
Most N (l ∷ ls) = (l ≤ N) × Most N ls

most_le : (M N : ℕ) → M ≤ N → (ls : List ℕ) → Most M ls → Most N ls
most_le M N h [] g = tt
most_le M N h (l ∷ ls) g = ((let a = g.0 in omega arith), most_le M N h ls g.1)

pub record Level (op : ℕ → List ℕ → ℕ) : Type 0 where
  pub mono : (k : ℕ) (ls ms : List ℕ) → Lower ls ms → op k ls ≤ op k ms
  pub parts : (k : ℕ) (ls : List ℕ) → Most (op k ls) ls
  pub product : (a b N : ℕ) → a ≤ N → b ≤ N → op Mul (a ∷ b ∷ []) ≤ N
  pub negation : (a N : ℕ) → a ≤ N → op Neg (a ∷ []) ≤ N

unfoldable pub AllLeft : (Tree → Type 0) → Option (List Tree) → Type 0
AllLeft P none = Unit {0}
AllLeft P (some r) = AllTrees P r

left_first : (P : Tree → Type 0) (t : Tree) (l : List Tree) → AllTrees P l → AllLeft P (remove_first t l)
unfolding remove_first
left_first P t [] h = (unfold AllLeft in tt)
left_first P t (f ∷ l) h = go (eq_tree f t) (remove_first t l) (left_first P t l h.1)
  where
    go : (b : Bool) (o : Option (List Tree)) → AllLeft P o → AllLeft P (elim b [ true ↦ some l | false ↦ elim o [ none ↦ none | some r ↦ some (f ∷ r) ] ])
    go true o g = (unfold AllLeft in h.1)
    go false none g = (unfold AllLeft in tt)
    go false (some r) g = (unfold AllLeft in (h.0, g))

pub left_each : (P : Tree → Type 0) (ts l : List Tree) → AllTrees P l → AllLeft P (remove_each ts l)
unfolding remove_each
left_each P [] l h = (unfold AllLeft in h)
left_each P (t ∷ ts) l h = go (remove_first t l) (left_first P t l h) (λ r g. left_each P ts r g)
  where
    go : (o : Option (List Tree)) → AllLeft P o → ((r : List Tree) → AllTrees P r → AllLeft P (remove_each ts r)) → AllLeft P (elim o [ none ↦ none | some r ↦ remove_each ts r ])
    go none g f = (unfold AllLeft in tt)
    go (some r) g f = f r (unfold AllLeft in g)

module _ (op : ℕ → List ℕ → ℕ) (L : Level op) where
  abbrev pub μ : Tree → ℕ
  μ t = fold (λ n. 0) (λ c. 0) op t

  abbrev μs : Forest → List ℕ
  μs f = folds (λ n. 0) (λ c. 0) op f

  three_factors : (P : Tree → Type 0) (b c : Bool) (F G H : Factors) → AllTrees P F.factors → AllTrees P G.factors → AllTrees P H.factors
      → AllTrees P (elim b as (λ _. Factors) [ true ↦ F | false ↦ elim c [ true ↦ G | false ↦ H ] ]).factors
  three_factors P true c F G H f g h = f
  three_factors P false true F G H f g h = g
  three_factors P false false F G H f g h = h

  mutual
    unfolding flatten_mul_factors fold times negated

    factors_most : (t : Tree) (N : ℕ) → μ t ≤ N → AllTrees (λ x. μ x ≤ N) (flatten_mul_factors t).factors
    factors_most (Sym n) N h = (h, tt)
    factors_most (Const c) N h = tt
    factors_most (Op k f) N h =
        let a = operand_factors_most f N (most_le (op k (μs f)) N h (μs f) (L.parts k (μs f))) in
        three_factors (λ x. μ x ≤ N) (eqb k Mul) (eqb k Neg) (flatten_operands f) (negated (flatten_operands f)) (record { coefficient = one; factors = Op k f ∷ [] }) a a (h, tt)

    operand_factors_most : (f : Forest) (N : ℕ) → Most N (μs f) → AllTrees (λ x. μ x ≤ N) (flatten_operands f).factors
    operand_factors_most nil N h = tt
    operand_factors_most (t ◂ f) N h = after_most f N h.1 (flatten_mul_factors t) (factors_most t N h.0)

    after_most : (f : Forest) (N : ℕ) → Most N (μs f) → (p : Factors) → AllTrees (λ x. μ x ≤ N) p.factors → AllTrees (λ x. μ x ≤ N) (flatten_after f p).factors
    after_most nil N h p g = g
    after_most (t ◂ f) N h p g =
        after_most f N h.1 (times p (flatten_mul_factors t)) (trees_append (λ x. μ x ≤ N) p.factors (flatten_mul_factors t).factors g (factors_most t N h.0))

  product_most : (N : ℕ) (t : Tree) (l : List Tree) → μ t ≤ N → AllTrees (λ x. μ x ≤ N) l → μ (nested_product t l) ≤ N
  unfolding nested_product fold
  product_most N t [] g h = g
  product_most N t (f ∷ l) g h = product_most N (Op Mul (t ◂ f ◂ nil)) l (L.product (μ t) (μ f) N g h.0) h.1

  coefficient_most : (N : ℕ) (c : ℤ) (t : Tree) → μ t ≤ N → (b d : Bool) → μ (elim b [ true ↦ t | false ↦ elim d [ true ↦ Op Neg (t ◂ nil) | false ↦ Op Mul (Const c ◂ t ◂ nil) ] ]) ≤ N
  unfolding fold
  coefficient_most N c t h true d = h
  coefficient_most N c t h false true = L.negation (μ t) N h
  coefficient_most N c t h false false = L.product 0 (μ t) N (omega arith) h

  built_most : (N : ℕ) (c : ℤ) (l : List Tree) → AllTrees (λ x. μ x ≤ N) l → μ (built c l) ≤ N
  unfolding built with_coefficient fold
  built_most N c [] h = omega arith
  built_most N c (t ∷ l) h = coefficient_most N c (nested_product t l) (product_most N t l h.0 h.1) (eq_int c (pos 1)) (eq_int c (negsuc 0))

  each_lower : (g : Tree → Outcome Tree) → ((t : Tree) → Good (λ r. μ r ≤ μ t) (g t)) → (f : Forest) → Good (λ h. Lower (μs h) (μs f)) (each_operand g f)
  unfolding each_operand fold
  each_lower g k nil = good_ok (λ (h : Forest). Lower (μs h) []) nil tt
  each_lower g k (t ◂ f) =
      then_good (λ (r : Tree). μ r ≤ μ t) (λ (h : Forest). Lower (μs h) (μs (t ◂ f))) (g t) (k t) _
      (λ u a. then_good (λ (h : Forest). Lower (μs h) (μs f)) (λ (h : Forest). Lower (μs h) (μs (t ◂ f))) (each_operand g f) (each_lower g k f) _
      (λ r b. good_ok (λ (h : Forest). Lower (μs h) (μs (t ◂ f))) (u ◂ r) (a, b)))

  node_lower : (k : ℕ) (f : Forest) (o : Outcome Forest) → Good (λ h. Lower (μs h) (μs f)) o → Good (λ (r : Tree). μ r ≤ μ (Op k f)) (o >>= λ h. ok (Op k h))
  unfolding fold Good
  node_lower k f (ok h) a = L.mono k (μs h) (μs f) a
  node_lower k f (refused i) a = tt

  Matched : Tree → Option Factors → Type 0
  Matched e none = Unit {0}
  Matched e (some p) = AllTrees (λ x. μ x ≤ μ e) p.factors

  module _ (target : Tree) (n : Name) where
    matched : (e : Tree) → Matched e (match_factors target n e)
    unfolding match_factors
    matched e =
        go (is_mul target && _) (remove_each (flatten_mul_factors target).factors (flatten_mul_factors e).factors)
        (left_each (λ x. μ x ≤ μ e) (flatten_mul_factors target).factors (flatten_mul_factors e).factors (factors_most e (μ e) (omega arith)))
      where
        go : (b : Bool) (o : Option (List Tree)) → AllLeft (λ x. μ x ≤ μ e) o
            → Matched e (elim b [ true ↦ elim o [ none ↦ none | some r ↦ some (record { coefficient = (flatten_mul_factors e).coefficient; factors = r ++ (Sym n ∷ []) }) ] | false ↦ none ])
        go true none h = (unfold Matched in tt)
        go true (some r) h = (unfold Matched AllLeft fold in trees_append (λ x. μ x ≤ μ e) r (Sym n ∷ []) h (omega arith, tt))
        go false o h = (unfold Matched in tt)

    rebuilt_lower : (e : Tree) (p : Factors) → Matched e (some p) → (g : Tree → Outcome Tree) → ((t : Tree) → Good (λ r. μ r ≤ μ t) (g t)) → Good (λ r. μ r ≤ μ e) (build_mul_from_factors p >>= λ t. g t)
    unfolding build_mul_from_factors Matched
    rebuilt_lower e p m g k = go (constant_of p.coefficient)
      where
        low : (t : Tree) → μ t ≤ μ e → (o : Outcome Tree) → Good (λ r. μ r ≤ μ t) o → Good (λ r. μ r ≤ μ e) o
        low t h (ok r) a = (unfold Good in (let b : μ r ≤ μ t = (unfold Good in a) in omega arith))
        low t h (refused i) a = (unfold Good in tt)

        go : (o : Outcome ℤ) → Good (λ r. μ r ≤ μ e) ((o >>= λ c. ok (built c p.factors)) >>= λ t. g t)
        go (ok c) = low (built c p.factors) (built_most (μ e) c p.factors m) (g (built c p.factors)) (k (built c p.factors))
        go (refused i) = (unfold Good in tt)

    step_lower :
        (k : ℕ) (f : Forest) (g : Tree → Outcome Tree) → ((t : Tree) → Good (λ r. μ r ≤ μ t) (g t)) → (b d : Bool) (o : Option Factors) → Matched (Op k f) o
        → Good {A = Tree} (λ r. μ r ≤ μ (Op k f))
        (elim b [
          | true ↦ ok (Sym n)
          | false ↦ elim d [
            | true ↦ elim o [
              | none ↦ (each_operand g f >>= λ r. ok (Op k r))
              | some p ↦ (build_mul_from_factors p >>= λ t. g t)
            ]
            | false ↦ (each_operand g f >>= λ r. ok (Op k r))
          ]
        ])
    step_lower k f g h true d o m = good_ok (λ (r : Tree). μ r ≤ μ (Op k f)) (Sym n) (unfold fold in omega arith)
    step_lower k f g h false true none m = node_lower k f (each_operand g f) (each_lower g h f)
    step_lower k f g h false true (some p) m = rebuilt_lower (Op k f) p m g h
    step_lower k f g h false false o m = node_lower k f (each_operand g f) (each_lower g h f)

    leaf_lower : (t : Tree) (b : Bool) → Good {A = Tree} (λ r. μ r ≤ μ t) (elim b [ true ↦ ok (Sym n) | false ↦ ok t ])
    leaf_lower t true = good_ok (λ (r : Tree). μ r ≤ μ t) (Sym n) (unfold fold in omega arith)
    leaf_lower t false = good_ok (λ (r : Tree). μ r ≤ μ t) t (omega arith)

    within_lower : (fuel : ℕ) (e : Tree) → Good (λ r. μ r ≤ μ e) (replace_within fuel target n e)
    unfolding replace_within
    within_lower zero e = good_ok (λ (r : Tree). μ r ≤ μ e) e (omega arith)
    within_lower (suc fuel) (Sym s) = leaf_lower (Sym s) (eq_tree (Sym s) target)
    within_lower (suc fuel) (Const c) = leaf_lower (Const c) (eq_tree (Const c) target)
    within_lower (suc fuel) (Op k f) =
        step_lower k f (λ t. replace_within fuel target n t) (λ t. within_lower fuel t) (eq_tree (Op k f) target) (eqb k Mul) (match_factors target n (Op k f)) (matched (Op k f))

    pub replace_lower : (e r : Tree) → replace target n e ≡ ok r → μ r ≤ μ e
    unfolding replace
    replace_lower e r q = good_at (λ (r : Tree). μ r ≤ μ e) (replace_within (2 * size e) target n e) r q (within_lower (2 * size e) e)

  module _ (d : Tree) (n : Name) where
    division_lower :
        (k : ℕ) (f : Forest) (b : Bool) → (T b → T (divides_by d f)) → (T (divides_by d f) → (N : ℕ) → Most N (μs f) → μ (Op Mul (dividend d n f)) ≤ N)
        → Lower (μs (replace_divisors d n f)) (μs f) → μ (elim b [ true ↦ Op Mul (dividend d n f) | false ↦ Op k (replace_divisors d n f) ]) ≤ μ (Op k f)
    unfolding fold
    division_lower k f true t g h = g (t tt) (op k (μs f)) (L.parts k (μs f))
    division_lower k f false t g h = L.mono k (μs (replace_divisors d n f)) (μs f) h

    mutual
      unfolding replace_divisor fold divides_by

      pub divisor_lower : (e : Tree) → μ (replace_divisor d n e) ≤ μ e
      divisor_lower (Sym s) = omega arith
      divisor_lower (Const c) = omega arith
      divisor_lower (Op k f) =
          division_lower k f (eqb k Div && divides_by d f) (and_right (eqb k Div) (divides_by d f)) (λ t N h. dividend_lower f t N h) (divisors_lower f)

      divisors_lower : (f : Forest) → Lower (μs (replace_divisors d n f)) (μs f)
      divisors_lower nil = tt
      divisors_lower (t ◂ f) = (divisor_lower t, divisors_lower f)

      dividend_lower : (f : Forest) → T (divides_by d f) → (N : ℕ) → Most N (μs f) → μ (Op Mul (dividend d n f)) ≤ N
      dividend_lower nil t N h = absurd t
      dividend_lower (a ◂ f) t N h = L.product (μ (replace_divisor d n a)) 0 N (let q = divisor_lower a in let r = h.0 in omega arith) (omega arith)

  mutual
    unfolding nodes fold

    nodes_most : (t : Tree) (N : ℕ) → μ t ≤ N → AllTrees (λ x. μ x ≤ N) (nodes t)
    nodes_most (Sym n) N h = (h, tt)
    nodes_most (Const c) N h = (h, tt)
    nodes_most (Op k f) N h = (h, nodes_of_most f N (most_le (op k (μs f)) N h (μs f) (L.parts k (μs f))))

    nodes_of_most : (f : Forest) (N : ℕ) → Most N (μs f) → AllTrees (λ x. μ x ≤ N) (nodes_of f)
    nodes_of_most nil N h = tt
    nodes_of_most (t ◂ f) N h = trees_append (λ x. μ x ≤ N) (nodes t) (nodes_of f) (nodes_most t N h.0) (nodes_of_most f N h.1)

  -- ---- rounds and reciprocals

  module _ (N : ℕ) where
    abbrev pub Within : List Tree → Type 0
    Within l = AllTrees (λ x. μ x ≤ N) l

    pub all_nodes_most : (l : List Tree) → Within l → Within (all_nodes l)
    unfolding all_nodes
    all_nodes_most [] h = tt
    all_nodes_most (t ∷ l) h = trees_append (λ x. μ x ≤ N) (nodes t) (all_nodes l) (nodes_most t N h.0) (all_nodes_most l h.1)

    replaced_most : (target : Tree) (n : Name) (es rs : List Tree) → Replaced target n es rs → Within es → Within rs
    replaced_most target n [] [] q h = tt
    replaced_most target n [] (r ∷ rs) q h = absurd q
    replaced_most target n (e ∷ es) [] q h = absurd q
    replaced_most target n (e ∷ es) (r ∷ rs) q h = ((let a = replace_lower target n e r q.0 in let b = h.0 in omega arith), replaced_most target n es rs q.1 h.1)

    extract_most : (scoped : Bool) (x : Tree) (s t : State) → T (is_candidate scoped (roots s) x) → extract x s ≡ ok t → Within (roots s) → Within (roots t)
    extract_most scoped x s t c e h =
        let E = extracted x s t e in
        let f = candidate_facts scoped (roots s) x c in
        subst Within (sym E.now)
        (trees_append (λ x. μ x ≤ N) E.made (x ∷ []) (replaced_most x (xname s.next) (roots s) E.made E.replaced h)
        (trees_at (λ x. μ x ≤ N) x (all_nodes (roots s)) (all_nodes_most (roots s) h) (let q = f.2 in omega arith), tt))

    pub extract_all_within : (scoped : Bool) (next : ℕ) (es : List Tree) → Within es → Good (λ u. Within (roots u)) (extract_all scoped next es)
    extract_all_within scoped next es h =
        extract_all_good scoped (λ u. Within (roots u)) (λ x s t c e g. extract_most scoped x s t c e g) next es (subst Within (sym (begin_roots es next)) h)

    divided_most : (d : Tree) (n : Name) (l : List Tree) → Within l → Within (replace_divisor_each d n l)
    unfolding replace_divisor_each
    divided_most d n [] h = tt
    divided_most d n (t ∷ l) h = ((let a = divisor_lower d n t in let b = h.0 in omega arith), divided_most d n l h.1)

    each_most : (ds : List Tree) (s : State) → AllTrees (λ d. μ (inverse d) ≤ N) ds → Within (roots s) → Within (roots (bind_reciprocals ds s))
    unfolding bind_reciprocals
    each_most [] s g h = h
    each_most (d ∷ ds) s g h =
        each_most ds (bind_reciprocal d s) g.1
        (subst Within (sym (roots_reciprocal d s))
        (trees_append (λ x. μ x ≤ N) (replace_divisor_each d (xname s.next) (roots s)) (inverse d ∷ []) (divided_most d (xname s.next) (roots s) h) (g.0, tt)))

    pub reciprocals_within :
        (scoped : Bool) (s : State) → ((d : Tree) → 1 ≤ count d (divisors (all_nodes (roots s))) → μ (inverse d) ≤ N) → Within (roots s) → Within (roots (reciprocals scoped s))
    reciprocals_within scoped s f h =
        subst (λ (u : State). Within (roots u)) (sym (reciprocals_are scoped s))
        (each_most (bound_divisors scoped s) s
        (all_map (λ d. 2 ≤ count d (divisors (all_nodes (roots s)))) (λ d. μ (inverse d) ≤ N) (λ d q. f d (omega arith)) (bound_divisors scoped s) (bound_twice scoped s)) h)
