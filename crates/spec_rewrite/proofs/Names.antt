-- Which symbols a tree holds: values turn on those alone, and rewriting brings in the new name and no other. Assumes nothing.
use Prim.Native.Nat.{ℕ, zero, suc, ◌*◌, ◌%◌, ◌≤◌}
use mathlib.Core.Path.{◌≡◌, refl, sym, ap, ap₂, subst}
use mathlib.Core.Bool.{Bool, true, false, ◌&&◌}
use mathlib.Core.Option.{Option, none, some}
use mathlib.Core.List.{List, [], ◌∷◌, ◌++◌}
use native.Mathlib.Omega.{arith}
use lib.IntN.{ℤ, pos, negsuc}
use lib.Dec.{T, eqb, ltb, ltb→lt, lt→ltb}
use Rattle.spec_tree.specs.Outcome.{Outcome, ok, refused, ◌>>=◌}
use Rattle.spec_tree.specs.Tree.{Name, input, xname, mname, Tree, Forest, Sym, Const, Op, nil, ◌◂◌, eq_tree, eq_int}
use Rattle.spec_tree.specs.Kinds.{Neg, Mul, Div}
use Rattle.spec_tree.proofs.TreeLaws.{eq_tree_sound}
use Rattle.spec_tree.specs.Facts.{size, nodes, nodes_of, all_nodes}
use Rattle.spec_rewrite.specs.Rewrite.{Factors, flatten_mul_factors, flatten_operands, flatten_after, times, constant_of, nested_product as product_tree, with_coefficient, built, build_mul_from_factors, match_factors, each_operand, replace_within, replace, divides_by, replace_divisor, replace_divisors, dividend}
use Rattle.spec_tree.specs.Value.{Reading, Env, value, operand_values, values, apply}
use Rattle.spec_tree.proofs.Logic.{and_left, and_right, and_both}
use Rattle.spec_rewrite.proofs.Measure.{sum_of}
use Rattle.spec_rewrite.proofs.Factors.{factors_of, factors_cases, puts_sum, Matched, matched}

-- ---- symbols

module _ (p : Name → Bool) where
  -- every symbol passes the test
  unfoldable mutual
    pub holds : Tree → Bool
    holds (Sym n) = p n
    holds (Const c) = true
    holds (Op k f) = holds_each f

    pub holds_each : Forest → Bool
    holds_each nil = true
    holds_each (t ◂ f) = holds t && holds_each f

  unfoldable pub holds_all : List Tree → Bool
  unfolding holds
  holds_all [] = true
  holds_all (t ∷ l) = holds t && holds_all l

  pub holds_append : (s t : List Tree) → T (holds_all s) → T (holds_all t) → T (holds_all (s ++ t))
  unfolding holds_all
  holds_append [] t g h = h
  holds_append (x ∷ s) t g h = and_both (holds x) (holds_all (s ++ t)) (and_left (holds x) (holds_all s) g) (holds_append s t (and_right (holds x) (holds_all s) g) h)

  pub holds_left : (s t : List Tree) → T (holds_all (s ++ t)) → T (holds_all s)
  unfolding holds_all
  holds_left [] t g = tt
  holds_left (x ∷ s) t g = and_both (holds x) (holds_all s) (and_left (holds x) (holds_all (s ++ t)) g) (holds_left s t (and_right (holds x) (holds_all (s ++ t)) g))

  pub holds_right : (s t : List Tree) → T (holds_all (s ++ t)) → T (holds_all t)
  unfolding holds_all
  holds_right [] t g = g
  holds_right (x ∷ s) t g = holds_right s t (and_right (holds x) (holds_all (s ++ t)) g)

-- The list's symbols, which `inp` tells, and the names made so far: `__xN` with N below k, and those of the scopes around, `__mN` with N below j.
unfoldable pub below : (List ℕ → Bool) → ℕ → ℕ → Name → Bool
below inp j k (input s) = inp s
below inp j k (xname i) = ltb i k
below inp j k (mname i) = ltb i j

mutual
  unfolding holds

  pub weaken : (p q : Name → Bool) → ((n : Name) → T (p n) → T (q n)) → (e : Tree) → T (holds p e) → T (holds q e)
  weaken p q i (Sym n) h = i n h
  weaken p q i (Const c) h = tt
  weaken p q i (Op k f) h = weaken_each p q i f h

  weaken_each : (p q : Name → Bool) → ((n : Name) → T (p n) → T (q n)) → (f : Forest) → T (holds_each p f) → T (holds_each q f)
  weaken_each p q i nil h = tt
  weaken_each p q i (t ◂ f) h =
      and_both (holds q t) (holds_each q f) (weaken p q i t (and_left (holds p t) (holds_each p f) h)) (weaken_each p q i f (and_right (holds p t) (holds_each p f) h))

pub weaken_all : (p q : Name → Bool) → ((n : Name) → T (p n) → T (q n)) → (l : List Tree) → T (holds_all p l) → T (holds_all q l)
unfolding holds_all
weaken_all p q i [] h = tt
weaken_all p q i (t ∷ l) h =
    and_both (holds q t) (holds_all q l) (weaken p q i t (and_left (holds p t) (holds_all p l) h)) (weaken_all p q i l (and_right (holds p t) (holds_all p l) h))

module _ (inp : List ℕ → Bool) (j : ℕ) where
  pub below_le : (k l : ℕ) → k ≤ l → (n : Name) → T (below inp j k n) → T (below inp j l n)
  unfolding below
  below_le k l e (input s) h = h
  below_le k l e (xname i) h = lt→ltb i l (let q = ltb→lt i k h in omega arith)
  below_le k l e (mname i) h = h

  pub below_suc : (k : ℕ) (n : Name) → T (below inp j k n) → T (below inp j (suc k) n)
  below_suc k = below_le k (suc k) (omega arith)

  pub below_x : (k : ℕ) → T (below inp j (suc k) (xname k))
  unfolding below
  below_x k = lt→ltb k (suc k) (omega arith)

-- ---- values turn on the symbols held

module _ (R : Reading) (p : Name → Bool) (ρ σ : Env) (like : (n : Name) → T (p n) → ρ n % R.modulus ≡ σ n % R.modulus) where
  mutual
    unfolding holds value operand_values

    pub value_like : (e : Tree) → T (holds p e) → value R ρ e ≡ value R σ e
    value_like (Sym n) h = like n h
    value_like (Const c) h = refl
    value_like (Op k f) h = ap (apply R k) (operands_like f h)

    operands_like : (f : Forest) → T (holds_each p f) → operand_values R ρ f ≡ operand_values R σ f
    operands_like nil h = refl
    operands_like (t ◂ f) h = ap₂ ◌∷◌ (value_like t (and_left (holds p t) (holds_each p f) h)) (operands_like f (and_right (holds p t) (holds_each p f) h))

  pub values_like : (l : List Tree) → T (holds_all p l) → values R ρ l ≡ values R σ l
  unfolding values holds_all
  values_like [] h = refl
  values_like (t ∷ l) h = ap₂ ◌∷◌ (value_like t (and_left (holds p t) (holds_all p l) h)) (values_like l (and_right (holds p t) (holds_all p l) h))

module _ (R : Reading) (p : Name → Bool) (ρ σ : Env) (same : (n : Name) → T (p n) → ρ n ≡ σ n) where
  pub value_same : (e : Tree) → T (holds p e) → value R ρ e ≡ value R σ e
  value_same = value_like R p ρ σ (λ n t. ap (λ (x : ℕ). x % R.modulus) (same n t))

  pub values_same : (l : List Tree) → T (holds_all p l) → values R ρ l ≡ values R σ l
  values_same = values_like R p ρ σ (λ n t. ap (λ (x : ℕ). x % R.modulus) (same n t))

-- ---- parts hold what the whole holds

module _ (p : Name → Bool) where
  mutual
    unfolding holds nodes holds_all

    pub nodes_hold : (e : Tree) → T (holds p e) → T (holds_all p (nodes e))
    nodes_hold (Sym n) h = and_both (p n) true h tt
    nodes_hold (Const c) h = tt
    nodes_hold (Op k f) h = and_both (holds_each p f) (holds_all p (nodes_of f)) h (nodes_of_hold f h)

    nodes_of_hold : (f : Forest) → T (holds_each p f) → T (holds_all p (nodes_of f))
    nodes_of_hold nil h = tt
    nodes_of_hold (t ◂ f) h =
        holds_append p (nodes t) (nodes_of f) (nodes_hold t (and_left (holds p t) (holds_each p f) h)) (nodes_of_hold f (and_right (holds p t) (holds_each p f) h))

  pub all_nodes_hold : (l : List Tree) → T (holds_all p l) → T (holds_all p (all_nodes l))
  unfolding holds_all all_nodes
  all_nodes_hold [] h = tt
  all_nodes_hold (t ∷ l) h =
      holds_append p (nodes t) (all_nodes l) (nodes_hold t (and_left (holds p t) (holds_all p l) h)) (all_nodes_hold l (and_right (holds p t) (holds_all p l) h))

  mutual
    unfolding flatten_mul_factors holds times holds_all

    factors_hold : (t : Tree) → T (holds p t) → T (holds_all p (factors_of t))
    factors_hold (Sym n) w = and_both (p n) true w tt
    factors_hold (Const c) w = tt
    factors_hold (Op k f) w =
        factors_cases (λ l. T (holds_all p l)) k f (operands_hold f w) (λ e. and_both (holds_each p f) true w tt)

    operands_hold : (f : Forest) → T (holds_each p f) → T (holds_all p (flatten_operands f).factors)
    operands_hold nil w = tt
    operands_hold (t ◂ f) w =
        after_hold f (flatten_mul_factors t) (and_right (holds p t) (holds_each p f) w) (factors_hold t (and_left (holds p t) (holds_each p f) w))

    after_hold : (f : Forest) (q : Factors) → T (holds_each p f) → T (holds_all p q.factors) → T (holds_all p (flatten_after f q).factors)
    after_hold nil q w g = g
    after_hold (t ◂ f) q w g =
        after_hold f (times q (flatten_mul_factors t)) (and_right (holds p t) (holds_each p f) w)
        (holds_append p q.factors (flatten_mul_factors t).factors g (factors_hold t (and_left (holds p t) (holds_each p f) w)))

  -- a tree that does not pass counts 1: a list passes where the sum is 0
  fails : Tree → ℕ
  fails t = elim (holds p t) [ true ↦ 0 | false ↦ 1 ]

  fails_none : (t : Tree) → T (holds p t) → fails t ≡ 0
  unfolding fails
  fails_none t = go (holds p t)
    where
      go : (b : Bool) → T b → ◌≡◌ {A = ℕ} (elim b [ true ↦ 0 | false ↦ 1 ]) 0
      go true w = refl
      go false w = absurd w

  none_fails : (t : Tree) → fails t ≡ 0 → T (holds p t)
  unfolding fails
  none_fails t = go (holds p t)
    where
      go : (b : Bool) → ◌≡◌ {A = ℕ} (elim b [ true ↦ 0 | false ↦ 1 ]) 0 → T b
      go true z = tt
      go false z = absurd (omega arith)

  all_pass : (l : List Tree) → T (holds_all p l) → sum_of fails l ≡ 0
  unfolding holds_all sum_of
  all_pass [] w = refl
  all_pass (t ∷ l) w = (let a = fails_none t (and_left (holds p t) (holds_all p l) w) in let b = all_pass l (and_right (holds p t) (holds_all p l) w) in omega arith)

  pass_all : (l : List Tree) → sum_of fails l ≡ 0 → T (holds_all p l)
  unfolding holds_all sum_of
  pass_all [] z = tt
  pass_all (t ∷ l) z = and_both (holds p t) (holds_all p l) (none_fails t (omega arith)) (pass_all l (omega arith))

  -- a tree holds what its factors hold
  mutual
    unfolding flatten_mul_factors holds times holds_all

    factors_back : (t : Tree) → T (holds_all p (factors_of t)) → T (holds p t)
    factors_back (Sym n) w = and_left (p n) true w
    factors_back (Const c) w = tt
    factors_back (Op k f) w =
        factors_cases (λ l. T (holds_all p l) → T (holds_each p f)) k f (λ u. operands_back f u) (λ e u. and_left (holds_each p f) true u) w

    operands_back : (f : Forest) → T (holds_all p (flatten_operands f).factors) → T (holds_each p f)
    operands_back nil w = tt
    operands_back (t ◂ f) w =
        let r = after_back f (flatten_mul_factors t) w in
        and_both (holds p t) (holds_each p f) (factors_back t r.1) r.0

    after_back : (f : Forest) (q : Factors) → T (holds_all p (flatten_after f q).factors) → T (holds_each p f) × T (holds_all p q.factors)
    after_back nil q w = (tt, w)
    after_back (t ◂ f) q w =
        let r = after_back f (times q (flatten_mul_factors t)) w in (
          and_both (holds p t) (holds_each p f) (factors_back t (holds_right p q.factors (flatten_mul_factors t).factors r.1)) r.0,
          holds_left p q.factors (flatten_mul_factors t).factors r.1,
        )

  product_holds : (t : Tree) (l : List Tree) → T (holds p t) → T (holds_all p l) → T (holds p (product_tree t l))
  unfolding product_tree holds holds_all
  product_holds t [] g h = g
  product_holds t (f ∷ l) g h =
      product_holds (Op Mul (t ◂ f ◂ nil)) l
      (and_both (holds p t) (holds p f && true) g (and_both (holds p f) true (and_left (holds p f) (holds_all p l) h) tt)) (and_right (holds p f) (holds_all p l) h)

  coefficient_holds :
      (c : ℤ) (t : Tree) (b d : Bool) → T (holds p t)
      → T (holds p (elim b [ true ↦ t | false ↦ elim d [ true ↦ Op Neg (t ◂ nil) | false ↦ Op Mul (Const c ◂ t ◂ nil) ] ]))
  unfolding holds
  coefficient_holds c t true d w = w
  coefficient_holds c t false true w = and_both (holds p t) true w tt
  coefficient_holds c t false false w = and_both (holds p t) true w tt

  built_holds : (c : ℤ) (l : List Tree) → T (holds_all p l) → T (holds p (built c l))
  unfolding built with_coefficient holds holds_all
  built_holds c [] w = tt
  built_holds c (t ∷ l) w =
      coefficient_holds c (product_tree t l) (eq_int c (pos 1)) (eq_int c (negsuc 0))
      (product_holds t l (and_left (holds p t) (holds_all p l) w) (and_right (holds p t) (holds_all p l) w))

-- ---- replace and replace_divisor: a new name comes in only where what it stands for was

module _ (p : Name → Bool) (target : Tree) (n : Name) (new : T (holds p target) → T (p n)) where
  unfoldable pub Holds : Outcome Tree → Type 0
  Holds (ok t) = T (holds p t)
  Holds (refused i) = Unit {0}

  HoldsEach : Outcome Forest → Type 0
  HoldsEach (ok f) = T (holds_each p f)
  HoldsEach (refused i) = Unit {0}

  -- a rebuilt product has some of the factors that were there, and the name in place of others
  matched_holds : (e : Tree) (q : Factors) → Matched target n e (some q) → T (holds p e) → T (holds_all p q.factors)
  unfolding Matched holds holds_all
  matched_holds e q (r, z, h, t) w =
      subst (λ (q : Factors). T (holds_all p q.factors)) (sym z)
      (let s = puts_sum (fails p) h in
      let a = all_pass p (factors_of e) (factors_hold p e (unfold holds in w)) in
      holds_append p r (Sym n ∷ []) (pass_all p r (omega arith)) (and_both (p n) true (new (factors_back p target (pass_all p (factors_of target) (omega arith)))) tt))

  rebuilt_step : (l : List Tree) → T (holds_all p l) → (o : Outcome ℤ) → Holds (o >>= λ c. ok (built c l))
  unfolding Holds
  rebuilt_step l w (ok c) = built_holds p c l w
  rebuilt_step l w (refused i) = tt

  rebuilt : (q : Factors) → T (holds_all p q.factors) → Holds (build_mul_from_factors q)
  unfolding build_mul_from_factors
  rebuilt q w = rebuilt_step q.factors w (constant_of q.coefficient)

  each_step : (o : Outcome Tree) → Holds o → (r : Outcome Forest) → HoldsEach r → HoldsEach (o >>= λ u. r >>= λ g. ok (u ◂ g))
  unfolding Holds HoldsEach holds
  each_step (ok t) h (ok f) k = and_both (holds p t) (holds_each p f) h k
  each_step (ok t) h (refused i) k = tt
  each_step (refused i) h r k = tt

  each_holds : (g : Tree → Outcome Tree) → ((t : Tree) → T (holds p t) → Holds (g t)) → (f : Forest) → T (holds_each p f) → HoldsEach (each_operand g f)
  unfolding HoldsEach each_operand holds
  each_holds g k nil w = tt
  each_holds g k (t ◂ f) w =
      each_step (g t) (k t (and_left (holds p t) (holds_each p f) w)) (each_operand g f) (each_holds g k f (and_right (holds p t) (holds_each p f) w))

  operation_holds : (k : ℕ) (o : Outcome Forest) → HoldsEach o → Holds (o >>= λ g. ok (Op k g))
  unfolding Holds HoldsEach holds
  operation_holds k (ok f) h = h
  operation_holds k (refused i) h = tt

  then_holds : (o : Outcome Tree) → Holds o → (g : Tree → Outcome Tree) → ((t : Tree) → T (holds p t) → Holds (g t)) → Holds (o >>= g)
  unfolding Holds
  then_holds (ok t) h g k = k t h
  then_holds (refused i) h g k = tt

  node_holds :
      (k : ℕ) (f : Forest) (g : Tree → Outcome Tree) → ((t : Tree) → T (holds p t) → Holds (g t)) → (b d : Bool) → (T b → Op k f ≡ target) → T (holds p (Op k f))
      → (o : Option Factors) → Matched target n (Op k f) o
      → Holds
      (elim b [
        | true ↦ ok (Sym n)
        | false ↦ elim d [
          | true ↦ elim o [
            | none ↦ (each_operand g f >>= λ r. ok (Op k r))
            | some q ↦ (build_mul_from_factors q >>= λ t. g t)
          ]
          | false ↦ (each_operand g f >>= λ r. ok (Op k r))
        ]
      ])
  unfolding Holds holds
  node_holds k f g s true d q w o a = new (subst (λ (t : Tree). T (holds p t)) (q tt) (unfold holds in w))
  node_holds k f g s false true q w none a = operation_holds k (each_operand g f) (each_holds g s f w)
  node_holds k f g s false true e w (some q) a = then_holds (build_mul_from_factors q) (rebuilt q (matched_holds (Op k f) q a (unfold holds in w))) g s
  node_holds k f g s false false q w o a = operation_holds k (each_operand g f) (each_holds g s f w)

  leaf_holds : (t : Tree) (b : Bool) → (T b → t ≡ target) → T (holds p t) → Holds (elim b [ true ↦ ok (Sym n) | false ↦ ok t ])
  unfolding Holds holds
  leaf_holds t true q w = new (subst (λ (t : Tree). T (holds p t)) (q tt) w)
  leaf_holds t false q w = w

  pub replace_within_holds : (fuel : ℕ) (e : Tree) → T (holds p e) → Holds (replace_within fuel target n e)
  unfolding Holds replace_within
  replace_within_holds zero e w = w
  replace_within_holds (suc fuel) (Sym s) w = leaf_holds (Sym s) (eq_tree (Sym s) target) (eq_tree_sound (Sym s) target) w
  replace_within_holds (suc fuel) (Const c) w = leaf_holds (Const c) (eq_tree (Const c) target) (eq_tree_sound (Const c) target) w
  replace_within_holds (suc fuel) (Op k f) w =
      node_holds k f (λ t. replace_within fuel target n t) (λ t v. replace_within_holds fuel t v) (eq_tree (Op k f) target) (eqb k Mul) (eq_tree_sound (Op k f) target) w
      (match_factors target n (Op k f)) (matched target n (Op k f))

  pub replace_holds : (e : Tree) → T (holds p e) → Holds (replace target n e)
  unfolding replace
  replace_holds e w = replace_within_holds (2 * size e) e w

module _ (p : Name → Bool) (d : Tree) (n : Name) (new : T (holds p d) → T (p n)) where
  divided_by : (f : Forest) → T (holds_each p f) → T (divides_by d f) → T (holds p d)
  unfolding divides_by holds
  divided_by nil w u = absurd u
  divided_by (a ◂ nil) w u = absurd u
  divided_by (a ◂ (b ◂ f)) w u =
      subst (λ (t : Tree). T (holds p t)) (eq_tree_sound b d u) (unfold holds in and_left (holds p b) (holds_each p f) (and_right (holds p a) (holds p b && holds_each p f) w))

  divisor_step :
      (k : ℕ) (f : Forest) (b : Bool) → (T b → T (holds_each p (dividend d n f))) → T (holds_each p (replace_divisors d n f))
      → T (holds p (elim b [ true ↦ Op Mul (dividend d n f) | false ↦ Op k (replace_divisors d n f) ]))
  unfolding holds
  divisor_step k f true g h = g tt
  divisor_step k f false g h = h

  mutual
    unfolding holds replace_divisor

    pub divisor_holds : (e : Tree) → T (holds p e) → T (holds p (replace_divisor d n e))
    divisor_holds (Sym s) w = w
    divisor_holds (Const c) w = tt
    divisor_holds (Op k f) w = divisor_step k f (eqb k Div && divides_by d f) (λ u. dividend_holds f w (new (divided_by f w (and_right (eqb k Div) (divides_by d f) u)))) (divisors_hold f w)

    divisors_hold : (f : Forest) → T (holds_each p f) → T (holds_each p (replace_divisors d n f))
    divisors_hold nil w = tt
    divisors_hold (t ◂ f) w =
        and_both (holds p (replace_divisor d n t)) (holds_each p (replace_divisors d n f)) (divisor_holds t (and_left (holds p t) (holds_each p f) w))
        (divisors_hold f (and_right (holds p t) (holds_each p f) w))

    dividend_holds : (f : Forest) → T (holds_each p f) → T (p n) → T (holds_each p (dividend d n f))
    dividend_holds nil w u = tt
    dividend_holds (t ◂ f) w u =
        and_both (holds p (replace_divisor d n t)) (p n && true) (divisor_holds t (and_left (holds p t) (holds_each p f) w)) (and_both (p n) true u tt)
