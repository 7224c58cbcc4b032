-- Where each divisor holds a symbol or no switch, no rewriting changes that, and no divisor that a scope binds holds a switch: those bound are leaves or hold no
-- symbol. Assumes nothing.
use Prim.Native.Nat.{ℕ, zero, suc, ◌+◌, ◌-◌, ◌*◌, ◌≤◌}
use mathlib.Core.Path.{◌≡◌, refl, sym, subst}
use mathlib.Core.Bool.{Bool, true, false, not, ◌&&◌, ◌||◌, cond}
use mathlib.Core.Option.{Option, none, some}
use mathlib.Core.List.{List, [], ◌∷◌, ◌++◌}
use native.Mathlib.Omega.{arith}
use lib.IntN.{ℤ, pos, negsuc}
use lib.Dec.{T, eqb, leb, eqb→eq, leb→le, le→leb}
use Rattle.spec_tree.specs.Outcome.{Outcome, ok, refused, ◌>>=◌}
use Rattle.spec_tree.specs.Tree.{Name, xname, Tree, Forest, Sym, Const, Op, nil, ◌◂◌, fold, folds, operands, eq_tree, eq_int}
use Rattle.spec_tree.specs.Kinds.{Neg, Mul, Div, is_switch, arity_ok}
use Rattle.spec_tree.specs.Facts.{size, cost, has_symbol, some_of, nodes, nodes_of, all_nodes, outer, outer_of, outer_first, all_outer, outside, count, uses, uses_outside}
use Rattle.spec_tree.proofs.Logic.{and_left, and_right, and_both}
use Rattle.spec_tree.proofs.KindLaws.{arity_kind}
use Rattle.spec_tree.proofs.Formed.{operand_count, well_formed, well_formed_each}
use Rattle.spec_rewrite.specs.Rewrite.{Factors, one, flatten_mul_factors, flatten_operands, flatten_after, times, negated, constant_of, nested_product, with_coefficient, built, build_mul_from_factors, remove_each, is_mul, match_factors, each_operand, replace_within, replace, divides_by, replace_divisor, replace_divisors, dividend}
use Rattle.spec_rewrite.proofs.Measure.{count_cons, one_self}
use Rattle.spec_cse.specs.Extract.{State, roots, is_candidate, best, extract, extract_all, divisor_of, divisors, replace_divisor_each, bind_reciprocal, bind_reciprocals, reciprocals}
use Rattle.spec_cse.specs.Scope.{Switch, switches, some_switch, holds_switch}
use Rattle.laws.proofs.cse.RoundsGood.{extract_all_good}
use Rattle.laws.proofs.cse.Outcomes.{Good, then_good, good_ok, good_at}
use Rattle.laws.proofs.cse.RoundsCount.{Replaced, extracted, none_fits, candidate_facts, begin_roots}
use Rattle.laws.proofs.cse.ReciprocalsCount.{AllTrees, all_map, divisors_all, bound_divisors, bound_twice, bound_outside, inverse, roots_reciprocal, reciprocals_are}
use Rattle.laws.proofs.cse.Levels.{trees_append, trees_at, AllLeft, left_each}

-- ---- trees each of whose operations passes a test of its kind and operands

module _ (q : ℕ → Forest → Bool) where
  unfoldable mutual
    pub all_ops : Tree → Bool
    all_ops (Sym n) = true
    all_ops (Const c) = true
    all_ops (Op k f) = q k f && all_ops_each f

    pub all_ops_each : Forest → Bool
    all_ops_each nil = true
    all_ops_each (t ◂ f) = all_ops t && all_ops_each f

  abbrev Pass : Tree → Type 0
  Pass t = T (all_ops t)

  mutual
    unfolding all_ops nodes

    nodes_pass : (t : Tree) → T (all_ops t) → AllTrees Pass (nodes t)
    nodes_pass (Sym n) h = (tt, tt)
    nodes_pass (Const c) h = (tt, tt)
    nodes_pass (Op k f) h = (h, nodes_of_pass f (and_right (q k f) (all_ops_each f) h))

    nodes_of_pass : (f : Forest) → T (all_ops_each f) → AllTrees Pass (nodes_of f)
    nodes_of_pass nil h = tt
    nodes_of_pass (t ◂ f) h =
        trees_append Pass (nodes t) (nodes_of f) (nodes_pass t (and_left (all_ops t) (all_ops_each f) h)) (nodes_of_pass f (and_right (all_ops t) (all_ops_each f) h))

  all_nodes_pass : (l : List Tree) → AllTrees Pass l → AllTrees Pass (all_nodes l)
  unfolding all_nodes
  all_nodes_pass [] h = tt
  all_nodes_pass (t ∷ l) h = trees_append Pass (nodes t) (all_nodes l) (nodes_pass t h.0) (all_nodes_pass l h.1)

  module _ (mul : (f : Forest) → T (q Mul f)) (neg : (f : Forest) → T (q Neg f)) where
    three_factors : (b c : Bool) (F G H : Factors) → AllTrees Pass F.factors → AllTrees Pass G.factors → AllTrees Pass H.factors
        → AllTrees Pass (elim b as (λ _. Factors) [ true ↦ F | false ↦ elim c [ true ↦ G | false ↦ H ] ]).factors
    three_factors true c F G H f g h = f
    three_factors false true F G H f g h = g
    three_factors false false F G H f g h = h

    mutual
      unfolding flatten_mul_factors all_ops times negated

      factors_pass : (t : Tree) → T (all_ops t) → AllTrees Pass (flatten_mul_factors t).factors
      factors_pass (Sym n) h = (tt, tt)
      factors_pass (Const c) h = tt
      factors_pass (Op k f) h =
          let a = operand_factors_pass f (and_right (q k f) (all_ops_each f) h) in
          three_factors (eqb k Mul) (eqb k Neg) (flatten_operands f) (negated (flatten_operands f)) (record { coefficient = one; factors = Op k f ∷ [] }) a a (h, tt)

      operand_factors_pass : (f : Forest) → T (all_ops_each f) → AllTrees Pass (flatten_operands f).factors
      operand_factors_pass nil h = tt
      operand_factors_pass (t ◂ f) h = after_pass f (and_right (all_ops t) (all_ops_each f) h) (flatten_mul_factors t) (factors_pass t (and_left (all_ops t) (all_ops_each f) h))

      after_pass : (f : Forest) → T (all_ops_each f) → (p : Factors) → AllTrees Pass p.factors → AllTrees Pass (flatten_after f p).factors
      after_pass nil h p g = g
      after_pass (t ◂ f) h p g =
          after_pass f (and_right (all_ops t) (all_ops_each f) h) (times p (flatten_mul_factors t))
          (trees_append Pass p.factors (flatten_mul_factors t).factors g (factors_pass t (and_left (all_ops t) (all_ops_each f) h)))

    pair_pass : (a b : Tree) → T (all_ops a) → T (all_ops b) → T (all_ops (Op Mul (a ◂ b ◂ nil)))
    unfolding all_ops
    pair_pass a b g h = and_both (q Mul (a ◂ b ◂ nil)) (all_ops a && (all_ops b && true)) (mul (a ◂ b ◂ nil)) (and_both (all_ops a) (all_ops b && true) g (and_both (all_ops b) true h tt))

    product_pass : (t : Tree) (l : List Tree) → T (all_ops t) → AllTrees Pass l → T (all_ops (nested_product t l))
    unfolding nested_product
    product_pass t [] g h = g
    product_pass t (f ∷ l) g h = product_pass (Op Mul (t ◂ f ◂ nil)) l (pair_pass t f g h.0) h.1

    coefficient_pass : (c : ℤ) (t : Tree) → T (all_ops t) → (b d : Bool) → T (all_ops (elim b [ true ↦ t | false ↦ elim d [ true ↦ Op Neg (t ◂ nil) | false ↦ Op Mul (Const c ◂ t ◂ nil) ] ]))
    coefficient_pass c t h true d = h
    coefficient_pass c t h false true = (unfold all_ops in and_both (q Neg (t ◂ nil)) (all_ops t && true) (neg (t ◂ nil)) (and_both (all_ops t) true h tt))
    coefficient_pass c t h false false = pair_pass (Const c) t (unfold all_ops in tt) h

    built_pass : (c : ℤ) (l : List Tree) → AllTrees Pass l → T (all_ops (built c l))
    unfolding built with_coefficient
    built_pass c [] h = (unfold all_ops in tt)
    built_pass c (t ∷ l) h = coefficient_pass c (nested_product t l) (product_pass t l h.0 h.1) (eq_int c (pos 1)) (eq_int c (negsuc 0))

    -- what is left after a match, and the new name
    rest_pass : (n : Name) (c : ℤ) (ts : List Tree) (e : Tree) (r : List Tree) → remove_each ts (flatten_mul_factors e).factors ≡ some r → T (all_ops e) → T (all_ops (built c (r ++ (Sym n ∷ []))))
    rest_pass n c ts e r z h =
        built_pass c (r ++ (Sym n ∷ []))
        (trees_append Pass r (Sym n ∷ []) (unfold AllLeft in subst (AllLeft Pass) z (left_each Pass ts (flatten_mul_factors e).factors (factors_pass e h))) ((unfold all_ops in tt), tt))

-- ---- without a switch; and with each divisor plain

unfoldable pub no_switch : Tree → Bool
unfolding all_ops
no_switch = all_ops (λ k f. not (is_switch k))

-- a divisor that holds a symbol, or no switch
unfoldable pub plain : Tree → Bool
unfolding has_symbol no_switch
plain d = has_symbol d || no_switch d

unfoldable pub divides_plain : ℕ → Forest → Bool
unfolding plain
divides_plain k nil = true
divides_plain k (a ◂ nil) = true
divides_plain k (a ◂ (b ◂ f)) = not (eqb k Div) || plain b

unfoldable pub clean : Tree → Bool
unfolding all_ops divides_plain
clean = all_ops divides_plain

plain_mul : (f : Forest) → T (divides_plain Mul f)
unfolding divides_plain
plain_mul nil = tt
plain_mul (a ◂ nil) = tt
plain_mul (a ◂ (b ◂ f)) = tt

plain_neg : (f : Forest) → T (divides_plain Neg f)
unfolding divides_plain
plain_neg nil = tt
plain_neg (a ◂ nil) = tt
plain_neg (a ◂ (b ◂ f)) = tt

-- ---- what may stand for a tree: it has a symbol if the tree has, and no switch if that has none, and is clean if that is

abbrev Tests : Forest → List Bool
Tests f = folds (λ n. true) (λ c. false) (λ k tests. some_of tests) f

abbrev For : Tree → Tree → Type 0
For e r = (T (has_symbol e) → T (has_symbol r)) × (T (no_switch e) → T (no_switch r)) × (T (clean e) → T (clean r))

abbrev ForEach : Forest → Forest → Type 0
ForEach nil nil = Unit {0}
ForEach nil (u ◂ h) = ⊥
ForEach (t ◂ f) nil = ⊥
ForEach (t ◂ f) (u ◂ h) = For t u × ForEach f h

for_name : (e : Tree) (n : Name) → For e (Sym n)
unfolding has_symbol no_switch clean
for_name e n = ((λ t. tt), (λ t. tt), (λ t. tt))

or_map : (a b c d : Bool) → (T a → T c) → (T b → T d) → T (a || b) → T (c || d)
or_map true b true d f g t = tt
or_map true b false d f g t = absurd (f tt)
or_map false b true d f g t = tt
or_map false b false d f g t = g t

symbols_for : (f h : Forest) → ForEach f h → T (some_of (Tests f)) → T (some_of (Tests h))
unfolding fold some_of has_symbol
symbols_for nil nil F t = t
symbols_for nil (u ◂ h) F t = absurd F
symbols_for (e ◂ f) nil F t = absurd F
symbols_for (e ◂ f) (u ◂ h) F t = or_map (has_symbol e) (some_of (Tests f)) (has_symbol u) (some_of (Tests h)) F.0.0 (symbols_for f h F.1) t

switches_for : (f h : Forest) → ForEach f h → T (all_ops_each (λ k f. not (is_switch k)) f) → T (all_ops_each (λ k f. not (is_switch k)) h)
unfolding all_ops no_switch
switches_for nil nil F t = t
switches_for nil (u ◂ h) F t = absurd F
switches_for (e ◂ f) nil F t = absurd F
switches_for (e ◂ f) (u ◂ h) F t =
    and_both (no_switch u) (all_ops_each (λ k f. not (is_switch k)) h) (F.0.1 (and_left (no_switch e) (all_ops_each (λ k f. not (is_switch k)) f) t))
    (switches_for f h F.1 (and_right (no_switch e) (all_ops_each (λ k f. not (is_switch k)) f) t))

cleans_for : (f h : Forest) → ForEach f h → T (all_ops_each divides_plain f) → T (all_ops_each divides_plain h)
unfolding all_ops clean
cleans_for nil nil F t = t
cleans_for nil (u ◂ h) F t = absurd F
cleans_for (e ◂ f) nil F t = absurd F
cleans_for (e ◂ f) (u ◂ h) F t =
    and_both (clean u) (all_ops_each divides_plain h) (F.0.2 (and_left (clean e) (all_ops_each divides_plain f) t))
    (cleans_for f h F.1 (and_right (clean e) (all_ops_each divides_plain f) t))

divides_for : (k : ℕ) (f h : Forest) → ForEach f h → T (divides_plain k f) → T (divides_plain k h)
unfolding divides_plain plain
divides_for k nil nil F t = tt
divides_for k nil (u ◂ h) F t = absurd F
divides_for k (a ◂ f) nil F t = absurd F
divides_for k (a ◂ nil) (u ◂ nil) F t = tt
divides_for k (a ◂ nil) (u ◂ (v ◂ h)) F t = absurd F.1
divides_for k (a ◂ (b ◂ f)) (u ◂ nil) F t = absurd F.1
divides_for k (a ◂ (b ◂ f)) (u ◂ (v ◂ h)) F t =
    or_map (not (eqb k Div)) (has_symbol b || no_switch b) (not (eqb k Div)) (has_symbol v || no_switch v) (λ x. x)
    (or_map (has_symbol b) (no_switch b) (has_symbol v) (no_switch v) F.1.0.0 F.1.0.1) t

node_for : (k : ℕ) (f h : Forest) → ForEach f h → For (Op k f) (Op k h)
unfolding has_symbol no_switch clean all_ops
node_for k f h F = (
  symbols_for f h F,
  (λ t. and_both (not (is_switch k)) (all_ops_each (λ k f. not (is_switch k)) h) (and_left (not (is_switch k)) (all_ops_each (λ k f. not (is_switch k)) f) t)
      (switches_for f h F (and_right (not (is_switch k)) (all_ops_each (λ k f. not (is_switch k)) f) t))),
  (λ t. and_both (divides_plain k h) (all_ops_each divides_plain h) (divides_for k f h F (and_left (divides_plain k f) (all_ops_each divides_plain f) t))
      (cleans_for f h F (and_right (divides_plain k f) (all_ops_each divides_plain f) t))),
)

for_then : (e r s : Tree) → For e r → For r s → For e s
for_then e r s F G = ((λ t. G.0 (F.0 t)), (λ t. G.1 (F.1 t)), (λ t. G.2 (F.2 t)))

-- a product that ends in the new name
pair_symbol : (k : ℕ) (a b : Tree) → T (has_symbol b) → T (has_symbol (Op k (a ◂ b ◂ nil)))
unfolding has_symbol some_of
pair_symbol k a b h = or_map (has_symbol a) (has_symbol b) (has_symbol a) (has_symbol b || false) (λ x. x) (λ x. on (has_symbol b) x) (right (has_symbol a) (has_symbol b) h)
  where
    on : (b : Bool) → T b → T (b || false)
    on true t = tt
    on false t = t

    right : (a b : Bool) → T b → T (a || b)
    right true b t = tt
    right false b t = t

product_symbol : (n : Name) (t : Tree) (l : List Tree) → T (has_symbol (nested_product t (l ++ (Sym n ∷ []))))
unfolding nested_product
product_symbol n t [] = pair_symbol Mul t (Sym n) (unfold has_symbol in tt)
product_symbol n t (f ∷ l) = product_symbol n (Op Mul (t ◂ f ◂ nil)) l

one_symbol : (k : ℕ) (t : Tree) → T (has_symbol t) → T (has_symbol (Op k (t ◂ nil)))
unfolding has_symbol some_of
one_symbol k t h = on (has_symbol t) h
  where
    on : (b : Bool) → T b → T (b || false)
    on true t = tt
    on false t = t

coefficient_symbol : (c : ℤ) (t : Tree) → T (has_symbol t) → (b d : Bool) → T (has_symbol (elim b [ true ↦ t | false ↦ elim d [ true ↦ Op Neg (t ◂ nil) | false ↦ Op Mul (Const c ◂ t ◂ nil) ] ]))
coefficient_symbol c t h true d = h
coefficient_symbol c t h false true = one_symbol Neg t h
coefficient_symbol c t h false false = pair_symbol Mul (Const c) t h

built_symbol : (n : Name) (c : ℤ) (l : List Tree) → T (has_symbol (built c (l ++ (Sym n ∷ []))))
unfolding built with_coefficient
built_symbol n c [] = coefficient_symbol c (nested_product (Sym n) []) (unfold nested_product has_symbol in tt) (eq_int c (pos 1)) (eq_int c (negsuc 0))
built_symbol n c (t ∷ l) = coefficient_symbol c (nested_product t (l ++ (Sym n ∷ []))) (product_symbol n t l) (eq_int c (pos 1)) (eq_int c (negsuc 0))

-- ---- replace

module _ (target : Tree) (n : Name) where
  each_for : (g : Tree → Outcome Tree) → ((t : Tree) → Good (For t) (g t)) → (f : Forest) → Good (ForEach f) (each_operand g f)
  unfolding each_operand
  each_for g k nil = good_ok (ForEach nil) nil tt
  each_for g k (t ◂ f) =
      then_good (For t) (ForEach (t ◂ f)) (g t) (k t) _
      (λ u a. then_good (ForEach f) (ForEach (t ◂ f)) (each_operand g f) (each_for g k f) _ (λ r b. good_ok (ForEach (t ◂ f)) (u ◂ r) (a, b)))

  op_for : (k : ℕ) (f : Forest) (o : Outcome Forest) → Good (ForEach f) o → Good (For (Op k f)) (o >>= λ h. ok (Op k h))
  unfolding Good
  op_for k f (ok h) a = node_for k f h a
  op_for k f (refused i) a = tt

  -- each way to build the product stands for the whole
  Matched : Tree → Option Factors → Type 0
  Matched e none = Unit {0}
  Matched e (some p) = (c : ℤ) → For e (built c p.factors)

  matched : (e : Tree) → Matched e (match_factors target n e)
  unfolding match_factors
  matched e = go (is_mul target && _) (remove_each (flatten_mul_factors target).factors (flatten_mul_factors e).factors) refl
    where
      go : (b : Bool) (o : Option (List Tree)) → remove_each (flatten_mul_factors target).factors (flatten_mul_factors e).factors ≡ o
          → Matched e (elim b [ true ↦ elim o [ none ↦ none | some r ↦ some (record { coefficient = (flatten_mul_factors e).coefficient; factors = r ++ (Sym n ∷ []) }) ] | false ↦ none ])
      go true none z = (unfold Matched in tt)
      go true (some r) z =
          (unfold Matched no_switch clean in
          (λ c. (
            (λ t. built_symbol n c r),
            rest_pass (λ k f. not (is_switch k)) (λ f. tt) (λ f. tt) n c (flatten_mul_factors target).factors e r z,
            rest_pass divides_plain plain_mul plain_neg n c (flatten_mul_factors target).factors e r z,
          )))
      go false o z = (unfold Matched in tt)

  rebuilt_for : (e : Tree) (p : Factors) → Matched e (some p) → (g : Tree → Outcome Tree) → ((t : Tree) → Good (For t) (g t)) → Good (For e) (build_mul_from_factors p >>= λ t. g t)
  unfolding build_mul_from_factors Matched
  rebuilt_for e p m g k = go (constant_of p.coefficient)
    where
      low : (t : Tree) → For e t → (o : Outcome Tree) → Good (For t) o → Good (For e) o
      low t F (ok r) a = (unfold Good in for_then e t r F a)
      low t F (refused i) a = (unfold Good in tt)

      go : (o : Outcome ℤ) → Good (For e) ((o >>= λ c. ok (built c p.factors)) >>= λ t. g t)
      go (ok c) = low (built c p.factors) (m c) (g (built c p.factors)) (k (built c p.factors))
      go (refused i) = (unfold Good in tt)

  step_for :
      (k : ℕ) (f : Forest) (g : Tree → Outcome Tree) → ((t : Tree) → Good (For t) (g t)) → (b d : Bool) (o : Option Factors) → Matched (Op k f) o
      → Good {A = Tree} (For (Op k f))
      (elim b [
        | true ↦ ok (Sym n)
        | false ↦ elim d [
          | true ↦ elim o [
            | none ↦ (each_operand g f >>= λ r. ok (Op k r))
            | some p ↦ (build_mul_from_factors p >>= λ t. g t)
          ]
          | false ↦ (each_operand g f >>= λ r. ok (Op k r))
        ]
      ])
  step_for k f g h true d o m = good_ok (For (Op k f)) (Sym n) (for_name (Op k f) n)
  step_for k f g h false true none m = op_for k f (each_operand g f) (each_for g h f)
  step_for k f g h false true (some p) m = rebuilt_for (Op k f) p m g h
  step_for k f g h false false o m = op_for k f (each_operand g f) (each_for g h f)

  leaf_for : (t : Tree) (b : Bool) → Good {A = Tree} (For t) (elim b [ true ↦ ok (Sym n) | false ↦ ok t ])
  leaf_for t true = good_ok (For t) (Sym n) (for_name t n)
  leaf_for t false = good_ok (For t) t ((λ x. x), (λ x. x), (λ x. x))

  within_for : (fuel : ℕ) (e : Tree) → Good (For e) (replace_within fuel target n e)
  unfolding replace_within
  within_for zero e = good_ok (For e) e ((λ x. x), (λ x. x), (λ x. x))
  within_for (suc fuel) (Sym s) = leaf_for (Sym s) (eq_tree (Sym s) target)
  within_for (suc fuel) (Const c) = leaf_for (Const c) (eq_tree (Const c) target)
  within_for (suc fuel) (Op k f) =
      step_for k f (λ t. replace_within fuel target n t) (λ t. within_for fuel t) (eq_tree (Op k f) target) (eqb k Mul) (match_factors target n (Op k f)) (matched (Op k f))

  replace_for : (e r : Tree) → replace target n e ≡ ok r → For e r
  unfolding replace
  replace_for e r q = good_at (For e) (replace_within (2 * size e) target n e) r q (within_for (2 * size e) e)

-- ---- replaced divisors

module _ (d : Tree) (n : Name) where
  division_for :
      (k : ℕ) (f : Forest) (b : Bool) → (T b → T (divides_by d f)) → (T (divides_by d f) → For (Op k f) (Op Mul (dividend d n f))) → ForEach f (replace_divisors d n f)
      → For (Op k f) (elim b [ true ↦ Op Mul (dividend d n f) | false ↦ Op k (replace_divisors d n f) ])
  division_for k f true t g h = g (t tt)
  division_for k f false t g h = node_for k f (replace_divisors d n f) h

  dividend_for : (k : ℕ) (a r : Tree) (f : Forest) → For a r → For (Op k (a ◂ f)) (Op Mul (r ◂ Sym n ◂ nil))
  unfolding no_switch clean all_ops
  dividend_for k a r f F = (
    (λ t. pair_symbol Mul r (Sym n) (unfold has_symbol in tt)),
    (λ t. and_both (no_switch r) true (F.1 (and_left (no_switch a) (all_ops_each (λ k f. not (is_switch k)) f) (and_right (not (is_switch k)) (no_switch a && all_ops_each (λ k f. not (is_switch k)) f) t))) tt),
    (λ t. pair_pass divides_plain plain_mul plain_neg r (Sym n) (F.2 (and_left (clean a) (all_ops_each divides_plain f) (and_right (divides_plain k (a ◂ f)) (clean a && all_ops_each divides_plain f) t))) tt),
  )

  mutual
    unfolding replace_divisor divides_by

    divisor_for : (e : Tree) → For e (replace_divisor d n e)
    divisor_for (Sym s) = ((λ x. x), (λ x. x), (λ x. x))
    divisor_for (Const c) = ((λ x. x), (λ x. x), (λ x. x))
    divisor_for (Op k f) = division_for k f (eqb k Div && divides_by d f) (and_right (eqb k Div) (divides_by d f)) (λ t. dividends_for k f t) (divisors_for f)

    divisors_for : (f : Forest) → ForEach f (replace_divisors d n f)
    divisors_for nil = tt
    divisors_for (t ◂ f) = (divisor_for t, divisors_for f)

    dividends_for : (k : ℕ) (f : Forest) → T (divides_by d f) → For (Op k f) (Op Mul (dividend d n f))
    dividends_for k nil t = absurd t
    dividends_for k (a ◂ f) t = dividend_for k a (replace_divisor d n a) f (divisor_for a)

-- ---- rounds

abbrev pub AllClean : List Tree → Type 0
AllClean l = AllTrees (λ t. T (clean t)) l

nodes_clean : (l : List Tree) → AllClean l → AllClean (all_nodes l)
unfolding clean
nodes_clean l h = all_nodes_pass divides_plain l h

replaced_clean : (target : Tree) (n : Name) (es rs : List Tree) → Replaced target n es rs → AllClean es → AllClean rs
replaced_clean target n [] [] q h = tt
replaced_clean target n [] (r ∷ rs) q h = absurd q
replaced_clean target n (e ∷ es) [] q h = absurd q
replaced_clean target n (e ∷ es) (r ∷ rs) q h = ((replace_for target n e r q.0).2 h.0, replaced_clean target n es rs q.1 h.1)

extract_clean : (scoped : Bool) (x : Tree) (s t : State) → T (is_candidate scoped (roots s) x) → extract x s ≡ ok t → AllClean (roots s) → AllClean (roots t)
extract_clean scoped x s t c e h =
    let E = extracted x s t e in
    let f = candidate_facts scoped (roots s) x c in
    subst AllClean (sym E.now)
    (trees_append (λ t. T (clean t)) E.made (x ∷ []) (replaced_clean x (xname s.next) (roots s) E.made E.replaced h)
    (trees_at (λ t. T (clean t)) x (all_nodes (roots s)) (nodes_clean (roots s) h) (let q = f.2 in omega arith), tt))

pub extract_all_clean : (scoped : Bool) (next : ℕ) (es : List Tree) → AllClean es → Good (λ u. AllClean (roots u)) (extract_all scoped next es)
extract_all_clean scoped next es h =
    extract_all_good scoped (λ u. AllClean (roots u)) (λ x s t c e g. extract_clean scoped x s t c e g) next es (subst AllClean (sym (begin_roots es next)) h)

-- ---- divisors of clean nodes are plain

plain_divisor : (t : Tree) → T (clean t) → (d : Tree) → divisor_of t ≡ some d → T (plain d)
unfolding divisor_of clean all_ops divides_plain
plain_divisor (Sym n) h d e = (let z : ◌≡◌ {A = ℕ} 0 1 = cc in absurd (omega arith))
plain_divisor (Const c) h d e = (let z : ◌≡◌ {A = ℕ} 0 1 = cc in absurd (omega arith))
plain_divisor (Op k nil) h d e = (let z : ◌≡◌ {A = ℕ} 0 1 = cc in absurd (omega arith))
plain_divisor (Op k (a ◂ nil)) h d e = (let z : ◌≡◌ {A = ℕ} 0 1 = cc in absurd (omega arith))
plain_divisor (Op k (a ◂ (b ◂ f))) h d e = go (eqb k Div) (and_left (not (eqb k Div) || plain b) (all_ops_each divides_plain (a ◂ (b ◂ f))) h) e
  where
    same : (x y : Tree) → ◌≡◌ {A = Option Tree} (some x) (some y) → x ≡ y
    same x y e = cc

    go : (c : Bool) → T (not c || plain b) → cond c (some b) none ≡ some d → T (plain d)
    go true t z = subst (λ (x : Tree). T (plain x)) (same b d z) t
    go false t z = (let w : ◌≡◌ {A = ℕ} 0 1 = cc in absurd (omega arith))

plain_divisors : (l : List Tree) → AllClean l → AllTrees (λ d. T (plain d)) (divisors l)
unfolding divisors
plain_divisors [] h = tt
plain_divisors (t ∷ l) h = go (divisor_of t) (plain_divisor t h.0) (plain_divisors l h.1)
  where
    go : (o : Option Tree) → ((d : Tree) → o ≡ some d → T (plain d)) → AllTrees (λ d. T (plain d)) (divisors l)
        → AllTrees (λ d. T (plain d)) (elim o [ none ↦ divisors l | some d ↦ d ∷ divisors l ])
    go none f g = g
    go (some d) f g = (f d refl, g)

-- and the other way round: what a list must have
divisors_split : (P : Tree → Type 0) (s t : List Tree) → AllTrees P (divisors (s ++ t)) → AllTrees P (divisors s) × AllTrees P (divisors t)
unfolding divisors
divisors_split P [] t h = (tt, h)
divisors_split P (x ∷ s) t h = go (divisor_of x) h (λ g. divisors_split P s t g)
  where
    go : (o : Option Tree) → AllTrees P (elim o [ none ↦ divisors (s ++ t) | some d ↦ d ∷ divisors (s ++ t) ])
        → (AllTrees P (divisors (s ++ t)) → AllTrees P (divisors s) × AllTrees P (divisors t))
        → AllTrees P (elim o [ none ↦ divisors s | some d ↦ d ∷ divisors s ]) × AllTrees P (divisors t)
    go none h f = f h
    go (some d) h f = (let q = f h.1 in ((h.0, q.0), q.1))

-- each divisor of a list holds a symbol, or no Select or Branch
abbrev pub PlainDivisors : List Tree → Type 0
PlainDivisors l = AllTrees (λ d. T (plain d)) (divisors (all_nodes l))

first_plain : (k : ℕ) (f : Forest) (l : List Tree) → AllTrees (λ d. T (plain d)) (elim (divisor_of (Op k f)) as (λ _. List Tree) [ none ↦ l | some d ↦ d ∷ l ]) → T (divides_plain k f) × AllTrees (λ d. T (plain d)) l
unfolding divisor_of divides_plain
first_plain k nil l h = (tt, h)
first_plain k (a ◂ nil) l h = (tt, h)
first_plain k (a ◂ (b ◂ f)) l h = go (eqb k Div) h
  where
    go : (c : Bool) → AllTrees (λ d. T (plain d)) (elim (cond c (some b) none) as (λ _. List Tree) [ none ↦ l | some d ↦ d ∷ l ]) → T (not c || plain b) × AllTrees (λ d. T (plain d)) l
    go true h = (h.0, h.1)
    go false h = (tt, h)

mutual
  unfolding nodes divisors clean all_ops

  clean_from : (t : Tree) → AllTrees (λ d. T (plain d)) (divisors (nodes t)) → T (clean t)
  clean_from (Sym n) h = tt
  clean_from (Const c) h = tt
  clean_from (Op k f) h =
      let q = first_plain k f (divisors (nodes_of f)) h in
      and_both (divides_plain k f) (all_ops_each divides_plain f) q.0 (clean_from_each f q.1)

  clean_from_each : (f : Forest) → AllTrees (λ d. T (plain d)) (divisors (nodes_of f)) → T (all_ops_each divides_plain f)
  clean_from_each nil h = tt
  clean_from_each (t ◂ f) h =
      let q = divisors_split (λ d. T (plain d)) (nodes t) (nodes_of f) h in
      and_both (clean t) (all_ops_each divides_plain f) (clean_from t q.0) (clean_from_each f q.1)

pub all_clean_from : (l : List Tree) → PlainDivisors l → AllClean l
unfolding all_nodes
all_clean_from [] h = tt
all_clean_from (t ∷ l) h = (let q = divisors_split (λ d. T (plain d)) (nodes t) (all_nodes l) h in (clean_from t q.0, all_clean_from l q.1))

-- ---- reciprocals

divided_clean : (d : Tree) (n : Name) (l : List Tree) → AllClean l → AllClean (replace_divisor_each d n l)
unfolding replace_divisor_each
divided_clean d n [] h = tt
divided_clean d n (t ∷ l) h = ((divisor_for d n t).2 h.0, divided_clean d n l h.1)

inverse_clean : (d : Tree) → T (plain d) → T (clean d) → T (clean (inverse d))
unfolding inverse clean all_ops divides_plain
inverse_clean d p c = and_both (plain d) (clean d && true) p (and_both (clean d) true c tt)

each_clean : (ds : List Tree) (s : State) → AllTrees (λ d. T (clean (inverse d))) ds → AllClean (roots s) → AllClean (roots (bind_reciprocals ds s))
unfolding bind_reciprocals
each_clean [] s g h = h
each_clean (d ∷ ds) s g h =
    each_clean ds (bind_reciprocal d s) g.1
    (subst AllClean (sym (roots_reciprocal d s))
    (trees_append (λ t. T (clean t)) (replace_divisor_each d (xname s.next) (roots s)) (inverse d ∷ []) (divided_clean d (xname s.next) (roots s) h) (g.0, tt)))

bound_at : (P : Tree → Type 0) (scoped : Bool) (s : State) → ((d : Tree) → 1 ≤ count d (divisors (all_nodes (roots s))) → P d) → AllTrees P (bound_divisors scoped s)
bound_at P scoped s f = all_map (λ d. 2 ≤ count d (divisors (all_nodes (roots s)))) P (λ d q. f d (omega arith)) (bound_divisors scoped s) (bound_twice scoped s)

pub reciprocals_clean : (scoped : Bool) (s : State) → AllClean (roots s) → AllClean (roots (reciprocals scoped s))
reciprocals_clean scoped s h =
    let N = nodes_clean (roots s) h in
    subst (λ (u : State). AllClean (roots u)) (sym (reciprocals_are scoped s))
    (each_clean (bound_divisors scoped s) s
    (bound_at (λ d. T (clean (inverse d))) scoped s
    (λ d c. inverse_clean d (trees_at (λ d. T (plain d)) d (divisors (all_nodes (roots s))) (plain_divisors (all_nodes (roots s)) N) c)
    (trees_at (λ t. T (clean t)) d (all_nodes (roots s)) N (let q = divisors_all d (roots s) in omega arith)))) h)

-- ---- a divisor bound holds no switch: it is a leaf, or holds no symbol

-- a divisor outside arms is itself a node outside arms
abbrev In : List Tree → List Tree → Type 0
In L l = AllTrees (λ x. 1 ≤ count x L) l

in_split : (L s t : List Tree) → In L (s ++ t) → In L s × In L t
in_split L [] t h = (tt, h)
in_split L (x ∷ s) t h = (let q = in_split L s t h.1 in ((h.0, q.0), q.1))

in_self : (L : List Tree) → In L L
in_self [] = tt
in_self (x ∷ L) = (
  (let a = count_cons x x L in let b = one_self x in omega arith),
  all_map (λ y. 1 ≤ count y L) (λ y. 1 ≤ count y (x ∷ L)) (λ y h. let a = count_cons y x L in omega arith) L (in_self L),
)

outer_head : (L : List Tree) (t : Tree) → In L (outer t) → 1 ≤ count t L
unfolding outer
outer_head L (Sym n) h = h.0
outer_head L (Const c) h = h.0
outer_head L (Op k f) h = h.0

outer_first_in : (L : List Tree) (k : ℕ) (f : Forest) → In L (outer_of f) → (d : Tree) → divisor_of (Op k f) ≡ some d → 1 ≤ count d L
unfolding divisor_of outer_of
outer_first_in L k nil h d e = (let z : ◌≡◌ {A = ℕ} 0 1 = cc in absurd (omega arith))
outer_first_in L k (a ◂ nil) h d e = (let z : ◌≡◌ {A = ℕ} 0 1 = cc in absurd (omega arith))
outer_first_in L k (a ◂ (b ◂ f)) h d e = go (eqb k Div) e
  where
    there : 1 ≤ count b L
    there = outer_head L b (in_split L (outer b) (outer_of f) (in_split L (outer a) (outer b ++ outer_of f) h).1).0

    same : (x y : Tree) → ◌≡◌ {A = Option Tree} (some x) (some y) → x ≡ y
    same x y e = cc

    go : (c : Bool) → cond c (some b) none ≡ some d → 1 ≤ count d L
    go true z = subst (λ (x : Tree). 1 ≤ count x L) (same b d z) there
    go false z = (let w : ◌≡◌ {A = ℕ} 0 1 = cc in absurd (omega arith))

no_divisor : (k : ℕ) (f : Forest) → T (is_switch k) → (d : Tree) → divisor_of (Op k f) ≡ some d → ⊥
unfolding divisor_of
no_divisor k nil t d e = (let z : ◌≡◌ {A = ℕ} 0 1 = cc in omega arith)
no_divisor k (a ◂ nil) t d e = (let z : ◌≡◌ {A = ℕ} 0 1 = cc in omega arith)
no_divisor k (a ◂ (b ◂ f)) t d e = go (eqb k Div) (eqb→eq k Div) e
  where
    go : (c : Bool) → (T c → k ≡ Div) → cond c (some b) none ≡ some d → ⊥
    go true q z = subst (λ (j : ℕ). T (is_switch j) → ⊥) (sym (q tt)) (λ s. s) t
    go false q z = (let w : ◌≡◌ {A = ℕ} 0 1 = cc in omega arith)

head_in : (L : List Tree) (t : Tree) (l : List Tree) → ((d : Tree) → divisor_of t ≡ some d → 1 ≤ count d L) → In L (divisors l) → In L (divisors (t ∷ l))
unfolding divisors
head_in L t l f h = go (divisor_of t) f
  where
    go : (o : Option Tree) → ((d : Tree) → o ≡ some d → 1 ≤ count d L) → In L (elim o [ none ↦ divisors l | some d ↦ d ∷ divisors l ])
    go none f = h
    go (some d) f = (f d refl, h)

divisors_join : (P : Tree → Type 0) (s t : List Tree) → AllTrees P (divisors s) → AllTrees P (divisors t) → AllTrees P (divisors (s ++ t))
unfolding divisors
divisors_join P [] t g h = h
divisors_join P (x ∷ s) t g h = go (divisor_of x) g (λ k. divisors_join P s t k h)
  where
    go : (o : Option Tree) → AllTrees P (elim o [ none ↦ divisors s | some d ↦ d ∷ divisors s ]) → (AllTrees P (divisors s) → AllTrees P (divisors (s ++ t)))
        → AllTrees P (elim o [ none ↦ divisors (s ++ t) | some d ↦ d ∷ divisors (s ++ t) ])
    go none g f = f g
    go (some d) g f = (g.0, f g.1)

none_in : (L : List Tree) → In L (divisors [])
unfolding divisors
none_in L = tt

no_division_in : (L : List Tree) (t : Tree) → divisor_of t ≡ none → In L (divisors (t ∷ []))
no_division_in L t e = head_in L t [] (λ d z. (let w : ◌≡◌ {A = ℕ} 0 1 = cc in absurd (omega arith))) (none_in L)

module _ (L : List Tree) where
  mutual
    unfolding outer divisor_of

    outer_in : (t : Tree) → In L (outer t) → In L (divisors (outer t))
    outer_in (Sym n) h = no_division_in L (Sym n) refl
    outer_in (Const c) h = no_division_in L (Const c) refl
    outer_in (Op k f) h = go (is_switch k) (λ t. no_divisor k f t) h.1 (λ g. outer_of_in f g) (λ g. outer_first_in_each f g)
      where
        go : (b : Bool) → (T b → (d : Tree) → divisor_of (Op k f) ≡ some d → ⊥) → In L (elim b [ true ↦ outer_first f | false ↦ outer_of f ])
            → (In L (outer_of f) → In L (divisors (outer_of f))) → (In L (outer_first f) → In L (divisors (outer_first f)))
            → In L (divisors (Op k f ∷ elim b [ true ↦ outer_first f | false ↦ outer_of f ]))
        go true n h g i = head_in L (Op k f) (outer_first f) (λ d e. absurd (n tt d e)) (i h)
        go false n h g i = head_in L (Op k f) (outer_of f) (outer_first_in L k f h) (g h)

    outer_of_in : (f : Forest) → In L (outer_of f) → In L (divisors (outer_of f))
    outer_of_in nil h = none_in L
    outer_of_in (t ◂ f) h =
        let q = in_split L (outer t) (outer_of f) h in
        divisors_join (λ x. 1 ≤ count x L) (outer t) (outer_of f) (outer_in t q.0) (outer_of_in f q.1)

    outer_first_in_each : (f : Forest) → In L (outer_first f) → In L (divisors (outer_first f))
    outer_first_in_each nil h = none_in L
    outer_first_in_each (t ◂ f) h = outer_in t h

  all_outer_in : (l : List Tree) → In L (all_outer l) → In L (divisors (all_outer l))
  unfolding all_outer
  all_outer_in [] h = (unfold divisors in tt)
  all_outer_in (t ∷ l) h =
      let q = in_split L (outer t) (all_outer l) h in
      divisors_join (λ x. 1 ≤ count x L) (outer t) (all_outer l) (outer_in t q.0) (all_outer_in l q.1)

light : (s : State) → best true (roots s) ≡ none → (d : Tree) → 2 ≤ count d (divisors (all_nodes (roots s))) → 1 ≤ count d (divisors (all_outer (roots s))) → 1 ≤ cost d → T (has_symbol d) → ⊥
unfolding is_candidate uses uses_outside outside
light s e d u o c h =
    let a = divisors_all d (roots s) in
    let b = trees_at (λ x. 1 ≤ count x (all_outer (roots s))) d (divisors (all_outer (roots s))) (all_outer_in (all_outer (roots s)) (roots s) (in_self (all_outer (roots s)))) o in
    none_fits true (roots s) e d (omega arith)
    (and_both (leb 1 (cost d)) _ (le→leb 1 (cost d) c)
    (and_both (has_symbol d) _ h
    (and_both (leb 2 (count d (all_nodes (roots s)))) _ (le→leb 2 (count d (all_nodes (roots s))) (omega arith)) (le→leb 1 (count d (all_outer (roots s))) b))))

-- a plain one that is a leaf or has no symbol
plain_no_switch : (d : Tree) → T (plain d) → (1 ≤ cost d → T (has_symbol d) → ⊥) → T (no_switch d)
plain_no_switch (Sym n) p h = (unfold no_switch all_ops in tt)
plain_no_switch (Const c) p h = (unfold no_switch all_ops in tt)
plain_no_switch (Op k f) p h = go (has_symbol (Op k f)) (λ t. h (unfold cost in omega arith) t) (unfold plain in p)
  where
    go : (b : Bool) → (T b → ⊥) → T (b || no_switch (Op k f)) → T (no_switch (Op k f))
    go true g t = absurd (g tt)
    go false g t = t

pub bound_no_switch : (s : State) → best true (roots s) ≡ none → AllClean (roots s) → AllTrees (λ d. T (no_switch d)) (bound_divisors true s)
bound_no_switch s e h = both (bound_divisors true s) (bound_twice true s) (bound_outside true s)
  where
    at : (d : Tree) → 2 ≤ count d (divisors (all_nodes (roots s))) → 1 ≤ count d (divisors (outside true (roots s))) → T (no_switch d)
    at d u o =
        plain_no_switch d (trees_at (λ d. T (plain d)) d (divisors (all_nodes (roots s))) (plain_divisors (all_nodes (roots s)) (nodes_clean (roots s) h)) (omega arith))
        (light s e d u (unfold outside in o))

    both : (l : List Tree) → AllTrees (λ d. 2 ≤ count d (divisors (all_nodes (roots s)))) l → AllTrees (λ d. 1 ≤ count d (divisors (outside true (roots s)))) l → AllTrees (λ d. T (no_switch d)) l
    both [] u o = tt
    both (d ∷ l) u o = (at d u.0 o.0, both l u.1 o.1)

-- ---- a tree without a switch, and so without one outside arms, stays so where divisors are replaced

pub divided_no_switch : (d : Tree) (n : Name) (e : Tree) → T (no_switch e) → T (no_switch (replace_divisor d n e))
divided_no_switch d n e h = (divisor_for d n e).1 h

pub inverse_no_switch : (d : Tree) → T (no_switch d) → T (no_switch (inverse d))
unfolding inverse no_switch all_ops
inverse_no_switch d h = and_both (no_switch d) true h tt

among_none : (l : List Tree) → AllTrees (λ t. T (no_switch t)) l → T (some_switch (switches l)) → ⊥
unfolding switches some_switch no_switch all_ops
among_none [] h t = t
among_none (Sym n ∷ l) h t = among_none l h.1 t
among_none (Const c ∷ l) h t = among_none l h.1 t
among_none (Op k nil ∷ l) h t = among_none l h.1 t
among_none (Op k (q ◂ f) ∷ l) h t = go (is_switch k) (and_left (not (is_switch k)) _ h.0) t (λ u. among_none l h.1 u)
  where
    go : (b : Bool) → T (not b)
        → T (some_switch (elim b as (λ _. List Switch) [ true ↦ record { tree = Op k (q ◂ f); kind = k; key = q; arms = operands f } ∷ switches l | false ↦ switches l ]))
        → (T (some_switch (switches l)) → ⊥) → ⊥
    go true n t g = n
    go false n t g = g t

mutual
  unfolding outer no_switch all_ops

  outer_none : (t : Tree) → T (no_switch t) → AllTrees (λ t. T (no_switch t)) (outer t)
  outer_none (Sym n) h = (h, tt)
  outer_none (Const c) h = (h, tt)
  outer_none (Op k f) h = (h, go (is_switch k) (outer_first_none f r) (outer_of_none f r))
    where
      r : T (all_ops_each (λ k f. not (is_switch k)) f)
      r = and_right (not (is_switch k)) (all_ops_each (λ k f. not (is_switch k)) f) h

      go : (b : Bool) → AllTrees (λ t. T (no_switch t)) (outer_first f) → AllTrees (λ t. T (no_switch t)) (outer_of f)
          → AllTrees (λ t. T (no_switch t)) (elim b [ true ↦ outer_first f | false ↦ outer_of f ])
      go true g i = g
      go false g i = i

  outer_of_none : (f : Forest) → T (all_ops_each (λ k f. not (is_switch k)) f) → AllTrees (λ t. T (no_switch t)) (outer_of f)
  outer_of_none nil h = tt
  outer_of_none (t ◂ f) h =
      trees_append (λ t. T (no_switch t)) (outer t) (outer_of f) (outer_none t (and_left (no_switch t) (all_ops_each (λ k f. not (is_switch k)) f) h))
      (outer_of_none f (and_right (no_switch t) (all_ops_each (λ k f. not (is_switch k)) f) h))

  outer_first_none : (f : Forest) → T (all_ops_each (λ k f. not (is_switch k)) f) → AllTrees (λ t. T (no_switch t)) (outer_first f)
  outer_first_none nil h = tt
  outer_first_none (t ◂ f) h = outer_none t (and_left (no_switch t) (all_ops_each (λ k f. not (is_switch k)) f) h)

pub none_outside : (e : Tree) → T (no_switch e) → T (holds_switch e) → ⊥
unfolding holds_switch
none_outside e h t = among_none (outer e) (outer_none e h) t

-- ---- and a well-formed tree without a switch outside arms has none at all

-- a switch has operands
no_operands : (k : ℕ) → T (arity_ok k 0) → T (is_switch k) → ⊥
no_operands k h t =
    let a = leb→le 26 k t in
    let e : k ≡ 26 + (k - 26) = omega arith in
    from (k - 26) (subst (λ (j : ℕ). T (arity_ok j 0)) e h)
  where
    from : (j : ℕ) → T (arity_ok (26 + j) 0) → ⊥
    from zero h = (unfold arity_ok in h)
    from (suc zero) h = (unfold arity_ok in h)
    from (suc (suc zero)) h = (unfold arity_ok in h)
    from (suc (suc (suc j))) h = (let a = arity_kind (26 + suc (suc (suc j))) 0 h in omega arith)

none_split : (l r : List Tree) → T (not (some_switch (switches (l ++ r)))) → T (not (some_switch (switches l))) × T (not (some_switch (switches r)))
unfolding switches some_switch
none_split [] r h = (tt, h)
none_split (Sym n ∷ l) r h = none_split l r h
none_split (Const c ∷ l) r h = none_split l r h
none_split (Op k nil ∷ l) r h = none_split l r h
none_split (Op k (q ◂ f) ∷ l) r h = go (is_switch k) h (λ g. none_split l r g)
  where
    go : (b : Bool) → T (not (some_switch (elim b as (λ _. List Switch) [ true ↦ record { tree = Op k (q ◂ f); kind = k; key = q; arms = operands f } ∷ switches (l ++ r) | false ↦ switches (l ++ r) ])))
        → (T (not (some_switch (switches (l ++ r)))) → T (not (some_switch (switches l))) × T (not (some_switch (switches r))))
        → T (not (some_switch (elim b as (λ _. List Switch) [ true ↦ record { tree = Op k (q ◂ f); kind = k; key = q; arms = operands f } ∷ switches l | false ↦ switches l ])))
        × T (not (some_switch (switches r)))
    go true h f = absurd h
    go false h f = f h

none_op :
    (k : ℕ) (f : Forest) → T (arity_ok k (operand_count f)) → T (not (some_switch (switches (Op k f ∷ elim (is_switch k) [ true ↦ outer_first f | false ↦ outer_of f ]))))
    → (T (not (some_switch (switches (outer_of f)))) → T (all_ops_each (λ k f. not (is_switch k)) f)) → T (not (is_switch k) && all_ops_each (λ k f. not (is_switch k)) f)
unfolding switches some_switch all_ops operand_count
none_op k nil w h each = and_both (not (is_switch k)) true (go (is_switch k) (no_operands k w)) tt
  where
    go : (b : Bool) → (T b → ⊥) → T (not b)
    go true f = f tt
    go false f = tt
none_op k (q ◂ f) w h each = go (is_switch k) h each
  where
    go : (b : Bool)
        → T (not (some_switch (elim b as (λ _. List Switch) [
          | true ↦ record { tree = Op k (q ◂ f); kind = k; key = q; arms = operands f } ∷ switches (elim b [ true ↦ outer_first (q ◂ f) | false ↦ outer_of (q ◂ f) ])
          | false ↦ switches (elim b [ true ↦ outer_first (q ◂ f) | false ↦ outer_of (q ◂ f) ])
        ])))
        → (T (not (some_switch (switches (outer_of (q ◂ f))))) → T (all_ops_each (λ k f. not (is_switch k)) (q ◂ f)))
        → T (not b && all_ops_each (λ k f. not (is_switch k)) (q ◂ f))
    go true h g = absurd h
    go false h g = g h

mutual
  unfolding outer switches some_switch no_switch all_ops well_formed

  none_from : (t : Tree) → T (well_formed t) → T (not (some_switch (switches (outer t)))) → T (no_switch t)
  none_from (Sym n) w h = tt
  none_from (Const c) w h = tt
  none_from (Op k f) w h =
      none_op k f (and_left (arity_ok k (operand_count f)) (well_formed_each f) w) h (λ g. none_from_each f (and_right (arity_ok k (operand_count f)) (well_formed_each f) w) g)

  none_from_each : (f : Forest) → T (well_formed_each f) → T (not (some_switch (switches (outer_of f)))) → T (all_ops_each (λ k f. not (is_switch k)) f)
  none_from_each nil w h = tt
  none_from_each (t ◂ f) w h =
      let s = none_split (outer t) (outer_of f) h in
      and_both (no_switch t) (all_ops_each (λ k f. not (is_switch k)) f) (none_from t (and_left (well_formed t) (well_formed_each f) w) s.0)
      (none_from_each f (and_right (well_formed t) (well_formed_each f) w) s.1)

pub none_inside : (e : Tree) → T (well_formed e) → T (not (holds_switch e)) → T (no_switch e)
unfolding holds_switch
none_inside e w h = none_from e w h
