-- Rewriting loses no symbol but the target's (01, "Rewriting", "Reciprocals", "Scoped fusion"): a test that every symbol of the target and of what a tree becomes
-- passes, every symbol of the tree passes. Assumes nothing.
use Prim.Native.Nat.{ℕ, zero, suc, ◌*◌}
use native.Mathlib.Omega.{arith}
use mathlib.Core.Path.{◌≡◌, sym, subst}
use mathlib.Core.Bool.{Bool, true, false, ◌&&◌}
use mathlib.Core.Option.{Option, none, some}
use mathlib.Core.List.{List, [], ◌∷◌}
use lib.IntN.{ℤ, pos, negsuc}
use lib.Dec.{T, eqb, eqb→eq}
use Rattle.spec_tree.specs.Outcome.{Outcome, ok, refused, ◌>>=◌}
use Rattle.spec_tree.specs.Tree.{Name, Tree, Forest, Sym, Const, Op, nil, ◌◂◌, eq_tree, eq_int}
use Rattle.spec_tree.specs.Kinds.{Neg, Mul, Div, arity_ok, is_switch}
use Rattle.spec_tree.specs.Facts.{size}
use Rattle.spec_tree.proofs.Formed.{operand_count, well_formed, well_formed_each, arity_div}
use Rattle.spec_tree.proofs.TreeLaws.{eq_tree_sound}
use Rattle.spec_tree.proofs.Logic.{and_left, and_right, and_both}
use Rattle.spec_rewrite.specs.Rewrite.{Factors, flatten_mul_factors, flatten_operands, flatten_after, times, constant_of, nested_product, with_coefficient, built, build_mul_from_factors, match_factors, each_operand, replace_within, replace, divides_by, replace_divisor, replace_divisors, dividend, replace_outside_arms, replace_operands, replace_key}
use Rattle.spec_rewrite.proofs.Factors.{factors_of, factors_cases, Put, here, past, Puts, done, also, Matched, matched}
use Rattle.spec_rewrite.proofs.Names.{holds, holds_each, holds_all, holds_append, holds_left, holds_right}
use Rattle.laws.proofs.cse.Outcomes.{Good, then_good, good_ok}

-- ---- factors and products

module _ (p : Name → Bool) where
  mutual
    unfolding flatten_mul_factors holds times holds_all

    factors_hold : (t : Tree) → T (holds p t) → T (holds_all p (factors_of t))
    factors_hold (Sym n) w = and_both (p n) true w tt
    factors_hold (Const c) w = tt
    factors_hold (Op k f) w = factors_cases (λ l. T (holds_all p l)) k f (operands_hold f w) (λ e. and_both (holds_each p f) true w tt)

    operands_hold : (f : Forest) → T (holds_each p f) → T (holds_all p (flatten_operands f).factors)
    operands_hold nil w = tt
    operands_hold (t ◂ f) w = after_hold f (flatten_mul_factors t) (and_right (holds p t) (holds_each p f) w) (factors_hold t (and_left (holds p t) (holds_each p f) w))

    after_hold : (f : Forest) (q : Factors) → T (holds_each p f) → T (holds_all p q.factors) → T (holds_all p (flatten_after f q).factors)
    after_hold nil q w g = g
    after_hold (t ◂ f) q w g =
        after_hold f (times q (flatten_mul_factors t)) (and_right (holds p t) (holds_each p f) w)
        (holds_append p q.factors (flatten_mul_factors t).factors g (factors_hold t (and_left (holds p t) (holds_each p f) w)))

  mutual
    unfolding flatten_mul_factors holds times holds_all

    factors_back : (t : Tree) → T (holds_all p (factors_of t)) → T (holds p t)
    factors_back (Sym n) w = and_left (p n) true w
    factors_back (Const c) w = tt
    factors_back (Op k f) w = factors_cases (λ l. T (holds_all p l) → T (holds_each p f)) k f (λ u. operands_back f u) (λ e u. and_left (holds_each p f) true u) w

    operands_back : (f : Forest) → T (holds_all p (flatten_operands f).factors) → T (holds_each p f)
    operands_back nil w = tt
    operands_back (t ◂ f) w =
        let r = after_back f (flatten_mul_factors t) w in
        and_both (holds p t) (holds_each p f) (factors_back t r.1) r.0

    after_back : (f : Forest) (q : Factors) → T (holds_all p (flatten_after f q).factors) → T (holds_each p f) × T (holds_all p q.factors)
    after_back nil q w = (tt, w)
    after_back (t ◂ f) q w =
        let r = after_back f (times q (flatten_mul_factors t)) w in (
          and_both (holds p t) (holds_each p f) (factors_back t (holds_right p q.factors (flatten_mul_factors t).factors r.1)) r.0,
          holds_left p q.factors (flatten_mul_factors t).factors r.1,
        )

  -- what is taken out and what is left make up the whole
  put_back : {t : Tree} {r l : List Tree} → Put t r l → T (holds p t) → T (holds_all p r) → T (holds_all p l)
  unfolding holds_all
  put_back (here {t = t} {r = r}) g h = and_both (holds p t) (holds_all p r) g h
  put_back (past {f = f} {r = r} {l = l} q) g h =
      and_both (holds p f) (holds_all p l) (and_left (holds p f) (holds_all p r) h) (put_back q g (and_right (holds p f) (holds_all p r) h))

  puts_back : {ts r l : List Tree} → Puts ts r l → T (holds_all p ts) → T (holds_all p r) → T (holds_all p l)
  unfolding holds_all
  puts_back done g h = h
  puts_back (also {t = t} {ts = ts} q u) g h = put_back q (and_left (holds p t) (holds_all p ts) g) (puts_back u (and_right (holds p t) (holds_all p ts) g) h)

  product_back : (t : Tree) (l : List Tree) → T (holds p (nested_product t l)) → T (holds p t) × T (holds_all p l)
  unfolding nested_product holds holds_all
  product_back t [] w = (w, tt)
  product_back t (f ∷ l) w =
      let r = product_back (Op Mul (t ◂ f ◂ nil)) l w in (
        and_left (holds p t) (holds p f && true) r.0,
        and_both (holds p f) (holds_all p l) (and_left (holds p f) true (and_right (holds p t) (holds p f && true) r.0)) r.1,
      )

  coefficient_back :
      (c : ℤ) (t : Tree) (b d : Bool) → T (holds p (elim b [ true ↦ t | false ↦ elim d [ true ↦ Op Neg (t ◂ nil) | false ↦ Op Mul (Const c ◂ t ◂ nil) ] ])) → T (holds p t)
  unfolding holds
  coefficient_back c t true d w = w
  coefficient_back c t false true w = and_left (holds p t) true w
  coefficient_back c t false false w = and_left (holds p t) true w

  built_back : (c : ℤ) (l : List Tree) → T (holds p (built c l)) → T (holds_all p l)
  unfolding built with_coefficient holds_all
  built_back c [] w = tt
  built_back c (t ∷ l) w =
      let r = product_back t l (coefficient_back c (nested_product t l) (eq_int c (pos 1)) (eq_int c (negsuc 0)) w) in
      and_both (holds p t) (holds_all p l) r.0 r.1

-- ---- replace

module _ (p : Name → Bool) (target : Tree) (n : Name) (there : T (holds p target)) where
  abbrev pub Back : Tree → Tree → Type 0
  Back e r = T (holds p r) → T (holds p e)

  abbrev BackEach : Forest → Forest → Type 0
  BackEach f g = T (holds_each p g) → T (holds_each p f)

  equal_back : (e : Tree) → e ≡ target → T (holds p e)
  equal_back e q = subst (λ (t : Tree). T (holds p t)) (sym q) there

  matched_back : (e : Tree) (q : Factors) → Matched target n e (some q) → T (holds_all p q.factors) → T (holds p e)
  unfolding Matched
  matched_back e q (r, z, h, t) w =
      factors_back p e
      (puts_back p h (factors_hold p target there) (holds_left p r (Sym n ∷ []) (subst (λ (q : Factors). T (holds_all p q.factors)) z w)))

  rebuilt_back : (e : Tree) (q : Factors) → Matched target n e (some q) → Good (Back e) (build_mul_from_factors q)
  unfolding build_mul_from_factors
  rebuilt_back e q m = go (constant_of q.coefficient)
    where
      go : (o : Outcome ℤ) → Good (Back e) (o >>= λ c. ok (built c q.factors))
      go (ok c) = (unfold Good in λ w. matched_back e q m (built_back p c q.factors w))
      go (refused i) = (unfold Good in tt)

  then_back : (e : Tree) (o : Outcome Tree) → Good (Back e) o → (g : Tree → Outcome Tree) → ((t : Tree) → Good (Back t) (g t)) → Good (Back e) (o >>= λ t. g t)
  then_back e o h g k = then_good (Back e) (Back e) o h (λ t. g t) (λ t a. on t a (g t) (k t))
    where
      on : (t : Tree) → Back e t → (o : Outcome Tree) → Good (Back t) o → Good (Back e) o
      on t a (ok r) b = (unfold Good in λ w. a (b w))
      on t a (refused i) b = (unfold Good in tt)

  each_back : (g : Tree → Outcome Tree) → ((t : Tree) → Good (Back t) (g t)) → (f : Forest) → Good (BackEach f) (each_operand g f)
  unfolding each_operand
  each_back g k nil = good_ok (BackEach nil) nil (λ w. w)
  each_back g k (t ◂ f) =
      then_good (Back t) (BackEach (t ◂ f)) (g t) (k t) _
      (λ u a. then_good (BackEach f) (BackEach (t ◂ f)) (each_operand g f) (each_back g k f) _
      (λ r b. good_ok (BackEach (t ◂ f)) (u ◂ r)
      (λ w. unfold holds in and_both (holds p t) (holds_each p f) (a (and_left (holds p u) (holds_each p r) w)) (b (and_right (holds p u) (holds_each p r) w)))))

  operation_back : (k : ℕ) (f : Forest) (o : Outcome Forest) → Good (BackEach f) o → Good (Back (Op k f)) (o >>= λ g. ok (Op k g))
  unfolding Good holds
  operation_back k f (ok g) h = h
  operation_back k f (refused i) h = tt

  node_back :
      (k : ℕ) (f : Forest) (g : Tree → Outcome Tree) → ((t : Tree) → Good (Back t) (g t)) → (b d : Bool) → (T b → Op k f ≡ target)
      → (o : Option Factors) → Matched target n (Op k f) o
      → Good {A = Tree} (Back (Op k f))
      (elim b [
        | true ↦ ok (Sym n)
        | false ↦ elim d [
          | true ↦ elim o [
            | none ↦ (each_operand g f >>= λ r. ok (Op k r))
            | some q ↦ (build_mul_from_factors q >>= λ t. g t)
          ]
          | false ↦ (each_operand g f >>= λ r. ok (Op k r))
        ]
      ])
  node_back k f g s true d q o a = good_ok (Back (Op k f)) (Sym n) (λ w. equal_back (Op k f) (q tt))
  node_back k f g s false true q none a = operation_back k f (each_operand g f) (each_back g s f)
  node_back k f g s false true e (some q) a = then_back (Op k f) (build_mul_from_factors q) (rebuilt_back (Op k f) q a) g s
  node_back k f g s false false q o a = operation_back k f (each_operand g f) (each_back g s f)

  leaf_back : (t : Tree) (b : Bool) → (T b → t ≡ target) → Good {A = Tree} (Back t) (elim b [ true ↦ ok (Sym n) | false ↦ ok t ])
  leaf_back t true q = good_ok (Back t) (Sym n) (λ w. equal_back t (q tt))
  leaf_back t false q = good_ok (Back t) t (λ w. w)

  within_back : (fuel : ℕ) (e : Tree) → Good (Back e) (replace_within fuel target n e)
  unfolding replace_within
  within_back zero e = good_ok (Back e) e (λ w. w)
  within_back (suc fuel) (Sym s) = leaf_back (Sym s) (eq_tree (Sym s) target) (eq_tree_sound (Sym s) target)
  within_back (suc fuel) (Const c) = leaf_back (Const c) (eq_tree (Const c) target) (eq_tree_sound (Const c) target)
  within_back (suc fuel) (Op k f) =
      node_back k f (λ t. replace_within fuel target n t) (λ t. within_back fuel t) (eq_tree (Op k f) target) (eqb k Mul) (eq_tree_sound (Op k f) target)
      (match_factors target n (Op k f)) (matched target n (Op k f))

  -- what replace gives has every symbol but the target's
  pub replace_back : (e : Tree) → Good (Back e) (replace target n e)
  unfolding replace
  replace_back e = within_back (2 * size e) e

-- ---- replace_divisor, of trees whose divisions have two operands

module _ (p : Name → Bool) (d : Tree) (n : Name) (there : T (holds p d)) where
  divisor_step :
      (k : ℕ) (f : Forest) (b : Bool) → (T b → T (holds_each p (dividend d n f)) → T (holds_each p f)) → (T (holds_each p (replace_divisors d n f)) → T (holds_each p f))
      → T (holds p (elim b [ true ↦ Op Mul (dividend d n f) | false ↦ Op k (replace_divisors d n f) ])) → T (holds_each p f)
  unfolding holds
  divisor_step k f true g h w = g tt w
  divisor_step k f false g h w = h w

  two_operands : (k : ℕ) (f : Forest) → T (eqb k Div) → T (well_formed (Op k f)) → operand_count f ≡ 2
  unfolding well_formed
  two_operands k f e w = arity_div k (operand_count f) (eqb→eq k Div e) (and_left (arity_ok k (operand_count f)) (well_formed_each f) w)

  operands_formed : (k : ℕ) (f : Forest) → T (well_formed (Op k f)) → T (well_formed_each f)
  unfolding well_formed
  operands_formed k f w = and_right (arity_ok k (operand_count f)) (well_formed_each f) w

  mutual
    unfolding holds replace_divisor divides_by operand_count well_formed

    pub divisor_back : (e : Tree) → T (well_formed e) → T (holds p (replace_divisor d n e)) → T (holds p e)
    divisor_back (Sym s) v w = w
    divisor_back (Const c) v w = tt
    divisor_back (Op k f) v w =
        divisor_step k f (eqb k Div && divides_by d f)
        (λ u x. dividend_back f (operands_formed k f v) (two_operands k f (and_left (eqb k Div) (divides_by d f) u) v) (and_right (eqb k Div) (divides_by d f) u) x)
        (λ x. divisors_back f (operands_formed k f v) x) w

    divisors_back : (f : Forest) → T (well_formed_each f) → T (holds_each p (replace_divisors d n f)) → T (holds_each p f)
    divisors_back nil v w = tt
    divisors_back (t ◂ f) v w =
        and_both (holds p t) (holds_each p f)
        (divisor_back t (and_left (well_formed t) (well_formed_each f) v) (and_left (holds p (replace_divisor d n t)) (holds_each p (replace_divisors d n f)) w))
        (divisors_back f (and_right (well_formed t) (well_formed_each f) v) (and_right (holds p (replace_divisor d n t)) (holds_each p (replace_divisors d n f)) w))

    dividend_back : (f : Forest) → T (well_formed_each f) → operand_count f ≡ 2 → T (divides_by d f) → T (holds_each p (dividend d n f)) → T (holds_each p f)
    dividend_back nil v c u w = tt
    dividend_back (a ◂ nil) v c u w = absurd u
    dividend_back (a ◂ (b ◂ nil)) v c u w =
        and_both (holds p a) (holds p b && true)
        (divisor_back a (and_left (well_formed a) (well_formed b && true) v) (and_left (holds p (replace_divisor d n a)) (p n && true) w))
        (and_both (holds p b) true (subst (λ (t : Tree). T (holds p t)) (sym (eq_tree_sound b d u)) there) tt)
    dividend_back (a ◂ (b ◂ (c ◂ f))) v e u w = absurd (omega arith)

-- ---- replace_outside_arms

module _ (p : Name → Bool) (target : Tree) (n : Name) (there : T (holds p target)) where
  outside_leaf : (t : Tree) (b : Bool) → (T b → t ≡ target) → T (holds p (elim b [ true ↦ Sym n | false ↦ t ])) → T (holds p t)
  outside_leaf t true q w = equal_back p target n there t (q tt)
  outside_leaf t false q w = w

  outside_node :
      (k : ℕ) (f g h : Forest) (b c : Bool) → (T b → Op k f ≡ target) → (T (holds_each p g) → T (holds_each p f)) → (T (holds_each p h) → T (holds_each p f))
      → T (holds p (elim b [ true ↦ Sym n | false ↦ Op k (elim c [ true ↦ g | false ↦ h ]) ])) → T (holds_each p f)
  unfolding holds
  outside_node k f g h true c q x y w = equal_back p target n there (Op k f) (q tt)
  outside_node k f g h false true q x y w = x w
  outside_node k f g h false false q x y w = y w

  mutual
    unfolding holds replace_outside_arms

    pub outside_back : (e : Tree) → T (holds p (replace_outside_arms target n e)) → T (holds p e)
    outside_back (Sym s) w = outside_leaf (Sym s) (eq_tree (Sym s) target) (eq_tree_sound (Sym s) target) w
    outside_back (Const c) w = tt
    outside_back (Op k f) w =
        outside_node k f (replace_key target n f) (replace_operands target n f) (eq_tree (Op k f) target) (is_switch k) (eq_tree_sound (Op k f) target) (λ x. key_back f x) (λ x. operands_outside_back f x) w

    operands_outside_back : (f : Forest) → T (holds_each p (replace_operands target n f)) → T (holds_each p f)
    operands_outside_back nil w = tt
    operands_outside_back (t ◂ f) w =
        and_both (holds p t) (holds_each p f) (outside_back t (and_left (holds p (replace_outside_arms target n t)) (holds_each p (replace_operands target n f)) w))
        (operands_outside_back f (and_right (holds p (replace_outside_arms target n t)) (holds_each p (replace_operands target n f)) w))

    key_back : (f : Forest) → T (holds_each p (replace_key target n f)) → T (holds_each p f)
    key_back nil w = tt
    key_back (t ◂ f) w =
        and_both (holds p t) (holds_each p f) (outside_back t (and_left (holds p (replace_outside_arms target n t)) (holds_each p f) w))
        (and_right (holds p (replace_outside_arms target n t)) (holds_each p f) w)
