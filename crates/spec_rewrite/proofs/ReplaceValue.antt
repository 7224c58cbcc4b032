-- `replace` keeps values: where the new name holds the target's value, what comes out has the value of what went in.
-- Assumes nothing. That a coefficient accepted is the exact product is a parameter of the last section, `Exact`: `Coefficient` proves it, from
-- `exact` of this file.
use Prim.Native.Nat.{ℕ, zero, suc, ◌*◌, ◌%◌}
use mathlib.Core.Path.{◌≡◌, refl, sym, ◌∙◌, ap, ap₂, subst}
use mathlib.Core.Bool.{Bool, true, false, cond}
use mathlib.Core.Option.{Option, none, some}
use mathlib.Core.List.{List, [], ◌∷◌, ◌++◌}
use native.Mathlib.Nat.{mul_comm, mul_assoc, mul_left_comm, mul-one, one-mul, mod-mod}
use lib.IntN.{ℤ, pos, negsuc, neg_ℤ, ◌*ℤ◌}
use lib.Dec.{T, eqb}
use lib.Ieee as Ieee
use Rattle.spec_tree.specs.Outcome.{Outcome, ok, refused, ◌>>=◌}
use Rattle.spec_tree.specs.Tree.{Name, Tree, Forest, Sym, Const, Op, nil, ◌◂◌, eq_tree, eq_int}
use Rattle.spec_tree.specs.Kinds.{Neg, Mul}
use Rattle.spec_tree.proofs.Logic.{and_right}
use Rattle.spec_rewrite.proofs.Factors.{factors_of, Put, here, past, Puts, done, also, Matched, matched}
use Rattle.spec_tree.proofs.TreeLaws.{eq_tree_sound, eq_int_sound}
use Rattle.spec_rewrite.specs.Rewrite.{Factors, one, flatten_mul_factors, flatten_operands, flatten_after, times, negated, constant_of, nested_product as product_tree, with_coefficient, built, build_mul_from_factors, is_mul, match_factors, each_operand, replace_within, replace}
use Rattle.spec_tree.specs.Value.{Reading, Env, value, operand_values, values, product, residue, mul_mod, apply}
use Rattle.spec_tree.specs.Facts.{size}
use Rattle.spec_rewrite.proofs.Residues.{mod_mul_left, mod_mul_right, residue_mul_at, residue_reduced, neg_times}

-- ---- the exact coefficient of a product, as `flatten_mul_factors` would find it in whole numbers

unfoldable mutual
  pub exact : Tree → ℤ
  exact (Sym n) = pos 1
  exact (Const c) = c
  exact (Op k f) = elim (eqb k Mul) [ true ↦ exact_operands f | false ↦ elim (eqb k Neg) [ true ↦ neg_ℤ (exact_operands f) | false ↦ pos 1 ] ]

  pub exact_operands : Forest → ℤ
  exact_operands nil = pos 1
  exact_operands (t ◂ f) = exact t *ℤ exact_operands f

-- ---- products of values

module _ (R : Reading) (ρ : Env) where
  -- of a list of factors
  unfoldable pub all : List Tree → ℕ
  unfolding product values
  all l = product (values R ρ l)

  pub all_append : (s t : List Tree) → all (s ++ t) ≡ all s * all t
  unfolding all
  all_append [] t = sym (one-mul (all t))
  all_append (x ∷ s) t = ap (λ (n : ℕ). value R ρ x * n) (all_append s t) ∙ sym (mul_assoc (value R ρ x) (all s) (all t))

  -- every value is reduced
  pub value_reduced : (t : Tree) → value R ρ t % R.modulus ≡ value R ρ t
  unfolding value apply
  value_reduced (Sym n) = mod-mod (ρ n) R.modulus
  value_reduced (Const c) = residue_reduced R.modulus c
  value_reduced (Op k f) = mod-mod _ R.modulus

  -- one factor alone, with coefficient 1
  alone : (t : Tree) → value R ρ t ≡ residue R.modulus (pos 1) * all (t ∷ []) % R.modulus
  unfolding all residue
  alone t =
      sym
      (mod_mul_left R.modulus 1 (value R ρ t * 1) ∙ ap (λ (n : ℕ). n % R.modulus) (one-mul (value R ρ t * 1) ∙ mul-one (value R ρ t)) ∙ value_reduced t)

  -- the factors of each operand
  unfoldable pub all_operands : Forest → ℕ
  all_operands nil = 1
  all_operands (t ◂ f) = all (flatten_mul_factors t).factors * all_operands f

  all_after : (f : Forest) (p : Factors) → all (flatten_after f p).factors ≡ all p.factors * all_operands f
  unfolding flatten_mul_factors all_operands times
  all_after nil p = sym (mul-one (all p.factors))
  all_after (t ◂ f) p =
      all_after f (times p (flatten_mul_factors t))
      ∙ ap (λ (n : ℕ). n * all_operands f) (all_append p.factors (flatten_mul_factors t).factors)
      ∙ mul_assoc (all p.factors) (all (flatten_mul_factors t).factors) (all_operands f)

  all_of_operands : (f : Forest) → all (flatten_operands f).factors ≡ all_operands f
  unfolding flatten_mul_factors all_operands all
  all_of_operands nil = refl
  all_of_operands (t ◂ f) = all_after f (flatten_mul_factors t)

  -- a Mul, a Neg, or neither
  three :
      (b c : Bool) (w A B C : ℕ) (F G H : Factors) (x y z : ℤ)
      → w ≡ cond b A (cond c B C) % R.modulus
      → A % R.modulus ≡ residue R.modulus x * all F.factors % R.modulus
      → B % R.modulus ≡ residue R.modulus y * all G.factors % R.modulus
      → w ≡ residue R.modulus z * all H.factors % R.modulus
      → w
      ≡ residue R.modulus (elim b [ true ↦ x | false ↦ elim c [ true ↦ y | false ↦ z ] ])
      * all (elim b as (λ _. Factors) [ true ↦ F | false ↦ elim c [ true ↦ G | false ↦ H ] ]).factors
      % R.modulus
  three true c w A B C F G H x y z e f g h = e ∙ f
  three false true w A B C F G H x y z e f g h = e ∙ g
  three false false w A B C F G H x y z e f g h = h

  -- two products of a residue and a number, multiplied
  regroup : (a b c d : ℕ) → a * b * (c * d) ≡ a * c * (b * d)
  regroup a b c d = mul_assoc a b (c * d) ∙ ap (λ (n : ℕ). a * n) (mul_left_comm b c d) ∙ sym (mul_assoc a c (b * d))

  joined :
      (v w : ℕ) (x y : ℤ) (a b : ℕ) → v % R.modulus ≡ residue R.modulus x * a % R.modulus → w % R.modulus ≡ residue R.modulus y * b % R.modulus
      → v * w % R.modulus ≡ residue R.modulus (x *ℤ y) * (a * b) % R.modulus
  unfolding mul_mod
  joined v w x y a b e f =
      let m = R.modulus in
      sym (mod_mul_left m v w ∙ refl) ∙ sym (mod_mul_right m (v % m) w) ∙ ap₂ (λ (s t : ℕ). s * t % m) e f
      ∙ mod_mul_right m (residue m x * a % m) (residue m y * b) ∙ mod_mul_left m (residue m x * a) (residue m y * b)
      ∙ ap (λ (n : ℕ). n % m) (regroup (residue m x) a (residue m y) b)
      ∙ sym (mod_mul_left m (residue m x * residue m y) (a * b))
      ∙ ap (λ (n : ℕ). n * (a * b) % m) (sym (residue_mul_at m R.two_up x y))

  -- a tree's value by its exact coefficient and its factors
  mutual
    unfolding value apply exact flatten_mul_factors operand_values all negated

    pub by_factors : (t : Tree) → value R ρ t ≡ residue R.modulus (exact t) * all (flatten_mul_factors t).factors % R.modulus
    by_factors (Sym n) = alone (Sym n)
    by_factors (Const c) = sym (ap (λ (n : ℕ). n % R.modulus) (mul-one (residue R.modulus c)) ∙ residue_reduced R.modulus c)
    by_factors (Op k f) =
        three (eqb k Mul) (eqb k Neg) (value R ρ (Op k f)) _ _ _ (flatten_operands f) (negated (flatten_operands f))
        (record { coefficient = one; factors = Op k f ∷ [] }) (exact_operands f) (neg_ℤ (exact_operands f)) (pos 1) refl
        (operands_by_factors f) (neg_times R.modulus R.two_up _ _ (exact_operands f) (operands_by_factors f)) (alone (Op k f))

    pub operands_by_factors :
        (f : Forest) → product (operand_values R ρ f) % R.modulus ≡ residue R.modulus (exact_operands f) * all (flatten_operands f).factors % R.modulus
    operands_by_factors nil = sym (mod_mul_left R.modulus 1 1)
    operands_by_factors (t ◂ f) =
        joined (value R ρ t) (product (operand_values R ρ f)) (exact t) (exact_operands f) (all (flatten_mul_factors t).factors)
        (all (flatten_operands f).factors) (value_reduced t ∙ by_factors t) (operands_by_factors f)
        ∙ ap (λ (n : ℕ). residue R.modulus (exact t *ℤ exact_operands f) * n % R.modulus)
        (ap (λ (n : ℕ). all (flatten_mul_factors t).factors * n) (all_of_operands f) ∙ sym (all_after f (flatten_mul_factors t)))

  -- ---- factors taken out

  put_all : {t : Tree} {r l : List Tree} → Put t r l → all l ≡ value R ρ t * all r
  unfolding all
  put_all here = refl
  put_all (past {t = t} {f = f} {r = r} p) = ap (λ (n : ℕ). value R ρ f * n) (put_all p) ∙ mul_left_comm (value R ρ f) (value R ρ t) (all r)

  puts_all : {ts r l : List Tree} → Puts ts r l → all l ≡ all ts * all r
  unfolding all
  puts_all (done {r = r}) = sym (one-mul (all r))
  puts_all (also {t = t} {ts = ts} {r = r} p q) = put_all p ∙ ap (λ (n : ℕ). value R ρ t * n) (puts_all q) ∙ sym (mul_assoc (value R ρ t) (all ts) (all r))

  -- ---- products built

  product_tree_value : (t : Tree) (l : List Tree) → value R ρ (product_tree t l) ≡ value R ρ t * all l % R.modulus
  unfolding product_tree all value apply
  product_tree_value t [] = sym (ap (λ (n : ℕ). n % R.modulus) (mul-one (value R ρ t)) ∙ value_reduced t)
  product_tree_value t (f ∷ l) =
      product_tree_value (Op Mul (t ◂ f ◂ nil)) l ∙ mod_mul_left R.modulus (value R ρ t * (value R ρ f * 1)) (all l)
      ∙ ap (λ (n : ℕ). value R ρ t * n * all l % R.modulus) (mul-one (value R ρ f))
      ∙ ap (λ (n : ℕ). n % R.modulus) (mul_assoc (value R ρ t) (value R ρ f) (all l))

  scaled : (t : Tree) → residue R.modulus (pos 1) * value R ρ t % R.modulus ≡ value R ρ t
  unfolding residue
  scaled t = mod_mul_left R.modulus 1 (value R ρ t) ∙ ap (λ (n : ℕ). n % R.modulus) (one-mul (value R ρ t)) ∙ value_reduced t

  coefficient_step :
      (c : ℤ) (t : Tree) (b d : Bool) → (T b → c ≡ pos 1) → (T d → c ≡ negsuc 0)
      → value R ρ (elim b [ true ↦ t | false ↦ elim d [ true ↦ Op Neg (t ◂ nil) | false ↦ Op Mul (Const c ◂ t ◂ nil) ] ])
      ≡ residue R.modulus c * value R ρ t % R.modulus
  unfolding value apply
  coefficient_step c t true d e f = sym (scaled t) ∙ ap (λ (z : ℤ). residue R.modulus z * value R ρ t % R.modulus) (sym (e tt))
  coefficient_step c t false true e f =
      neg_times R.modulus R.two_up (value R ρ t * 1) (value R ρ t) (pos 1)
      (ap (λ (n : ℕ). n % R.modulus) (mul-one (value R ρ t)) ∙ value_reduced t ∙ sym (scaled t))
      ∙ ap (λ (z : ℤ). residue R.modulus z * value R ρ t % R.modulus) (sym (f tt))
  coefficient_step c t false false e f = ap (λ (n : ℕ). residue R.modulus c * n % R.modulus) (mul-one (value R ρ t))

  with_coefficient_value : (c : ℤ) (t : Tree) → value R ρ (with_coefficient c t) ≡ residue R.modulus c * value R ρ t % R.modulus
  unfolding with_coefficient
  with_coefficient_value c t =
      coefficient_step c t (eq_int c (pos 1)) (eq_int c (negsuc 0)) (eq_int_sound c (pos 1)) (eq_int_sound c (negsuc 0))

  built_value : (c : ℤ) (l : List Tree) → value R ρ (built c l) ≡ residue R.modulus c * all l % R.modulus
  unfolding built all value
  built_value c [] = sym (ap (λ (n : ℕ). n % R.modulus) (mul-one (residue R.modulus c)) ∙ residue_reduced R.modulus c)
  built_value c (t ∷ l) =
      with_coefficient_value c (product_tree t l) ∙ ap (λ (n : ℕ). residue R.modulus c * n % R.modulus) (product_tree_value t l)
      ∙ mod_mul_right R.modulus (residue R.modulus c) (value R ρ t * all l)

-- ---- replace

-- an accepted coefficient is the exact product, and one that compares equal to 1 is 1
pub record Exact : Type 0 where
  pub accepted : (e : Tree) (z : ℤ) → constant_of (flatten_mul_factors e).coefficient ≡ ok z → z ≡ exact e
  pub unit : (e : Tree) → T (Ieee.eq (flatten_mul_factors e).coefficient one) → exact e ≡ pos 1

module _ (R : Reading) (ρ : Env) (X : Exact) (target : Tree) (n : Name) (h : value R ρ (Sym n) ≡ value R ρ target) where
  -- what comes out, if anything does, has the value v
  unfoldable pub Keeps : ℕ → Outcome Tree → Type 0
  Keeps v (ok t) = value R ρ t ≡ v
  Keeps v (refused i) = Unit {0}

  KeepsEach : List ℕ → Outcome Forest → Type 0
  KeepsEach vs (ok f) = operand_values R ρ f ≡ vs
  KeepsEach vs (refused i) = Unit {0}

  target_value : exact target ≡ pos 1 → value R ρ target ≡ all R ρ (flatten_mul_factors target).factors % R.modulus
  unfolding residue
  target_value u =
      by_factors R ρ target ∙ ap (λ (z : ℤ). residue R.modulus z * all R ρ (flatten_mul_factors target).factors % R.modulus) u
      ∙ mod_mul_left R.modulus 1 (all R ρ (flatten_mul_factors target).factors)
      ∙ ap (λ (k : ℕ). k % R.modulus) (one-mul (all R ρ (flatten_mul_factors target).factors))

  exchanged :
      (l r : List Tree) → exact target ≡ pos 1 → all R ρ l ≡ all R ρ (flatten_mul_factors target).factors * all R ρ r
      → all R ρ (r ++ (Sym n ∷ [])) % R.modulus ≡ all R ρ l % R.modulus
  unfolding all
  exchanged l r u g =
      ap (λ (k : ℕ). k % R.modulus)
      (all_append R ρ r (Sym n ∷ []) ∙ ap (λ (k : ℕ). all R ρ r * k) (mul-one (value R ρ (Sym n)) ∙ h ∙ target_value u))
      ∙ mod_mul_right R.modulus (all R ρ r) (all R ρ (flatten_mul_factors target).factors)
      ∙ ap (λ (k : ℕ). k % R.modulus) (mul_comm (all R ρ r) (all R ρ (flatten_mul_factors target).factors) ∙ sym g)

  matched_value :
      (e : Tree) (p : Factors) → Matched target n e (some p)
      → (p.coefficient ≡ (flatten_mul_factors e).coefficient) × (all R ρ p.factors % R.modulus ≡ all R ρ (factors_of e) % R.modulus)
  unfolding Matched
  matched_value e p (r, q, h, t) = (
    ap (λ (p : Factors). p.coefficient) q,
    ap (λ (p : Factors). all R ρ p.factors % R.modulus) q ∙ exchanged (factors_of e) r (X.unit target (and_right (is_mul target) _ t)) (puts_all R ρ h),
  )

  -- a product rebuilt from a match
  rebuilt_step :
      (e : Tree) (p : Factors) → Matched target n e (some p) → (o : Outcome ℤ) → constant_of p.coefficient ≡ o
      → Keeps (value R ρ e) (o >>= λ c. ok (built c p.factors))
  unfolding Keeps
  rebuilt_step e p m (ok c) q =
      let g = matched_value e p m in
      built_value R ρ c p.factors
      ∙ sym (mod_mul_right R.modulus (residue R.modulus c) (all R ρ p.factors))
      ∙ ap (λ (k : ℕ). residue R.modulus c * k % R.modulus) g.1
      ∙ mod_mul_right R.modulus (residue R.modulus c) (all R ρ (flatten_mul_factors e).factors)
      ∙ ap (λ (z : ℤ). residue R.modulus z * all R ρ (flatten_mul_factors e).factors % R.modulus)
      (X.accepted e c (ap constant_of (sym g.0) ∙ q))
      ∙ sym (by_factors R ρ e)
  rebuilt_step e p g (refused i) q = tt

  rebuilt : (e : Tree) (p : Factors) → Matched target n e (some p) → Keeps (value R ρ e) (build_mul_from_factors p)
  unfolding build_mul_from_factors
  rebuilt e p g = rebuilt_step e p g (constant_of p.coefficient) refl

  -- each operand keeps its value
  each_after :
      (v : ℕ) (vs : List ℕ) (t : Tree) → value R ρ t ≡ v → (o : Outcome Forest) → KeepsEach vs o → KeepsEach (v ∷ vs) (o >>= λ r. ok (t ◂ r))
  unfolding KeepsEach operand_values value
  each_after v vs t e (ok f) g = ap₂ ◌∷◌ e g
  each_after v vs t e (refused i) g = tt

  each_step :
      (v : ℕ) (vs : List ℕ) (o : Outcome Tree) → Keeps v o → (p : Outcome Forest) → KeepsEach vs p
      → KeepsEach (v ∷ vs) (o >>= λ u. p >>= λ r. ok (u ◂ r))
  unfolding Keeps KeepsEach
  each_step v vs (ok t) e p g = each_after v vs t e p g
  each_step v vs (refused i) e p g = tt

  each_keeps : (g : Tree → Outcome Tree) → ((t : Tree) → Keeps (value R ρ t) (g t)) → (f : Forest) → KeepsEach (operand_values R ρ f) (each_operand g f)
  unfolding KeepsEach each_operand operand_values value
  each_keeps g k nil = refl
  each_keeps g k (t ◂ f) = each_step (value R ρ t) (operand_values R ρ f) (g t) (k t) (each_operand g f) (each_keeps g k f)

  operation_keeps : (k : ℕ) (f : Forest) (o : Outcome Forest) → KeepsEach (operand_values R ρ f) o → Keeps (value R ρ (Op k f)) (o >>= λ g. ok (Op k g))
  unfolding Keeps KeepsEach operand_values value
  operation_keeps k f (ok g) e = ap (apply R k) e
  operation_keeps k f (refused i) e = tt

  then_keeps : (v : ℕ) (o : Outcome Tree) → Keeps v o → (g : Tree → Outcome Tree) → ((t : Tree) → Keeps (value R ρ t) (g t)) → Keeps v (o >>= g)
  unfolding Keeps
  then_keeps v (ok t) e g k = subst (λ (w : ℕ). Keeps w (g t)) e (k t)
  then_keeps v (refused i) e g k = tt

  -- a node that is no leaf: equal to the target, a Mul whose factors match, a Mul whose factors do not, or of another kind
  node_keeps :
      (k : ℕ) (f : Forest) (g : Tree → Outcome Tree) → ((t : Tree) → Keeps (value R ρ t) (g t)) → (b d : Bool) → (T b → Op k f ≡ target)
      → (o : Option Factors) → Matched target n (Op k f) o
      → Keeps (value R ρ (Op k f))
      (elim b [
        | true ↦ ok (Sym n)
        | false ↦ elim d [
          | true ↦ elim o [
            | none ↦ (each_operand g f >>= λ r. ok (Op k r))
            | some p ↦ (build_mul_from_factors p >>= λ t. g t)
          ]
          | false ↦ (each_operand g f >>= λ r. ok (Op k r))
        ]
      ])
  unfolding Keeps
  node_keeps k f g keeps true d e o a = h ∙ ap (value R ρ) (sym (e tt))
  node_keeps k f g keeps false true e none a = operation_keeps k f (each_operand g f) (each_keeps g keeps f)
  node_keeps k f g keeps false true e (some p) a =
      then_keeps (value R ρ (Op k f)) (build_mul_from_factors p) (rebuilt (Op k f) p a) g keeps
  node_keeps k f g keeps false false e o a = operation_keeps k f (each_operand g f) (each_keeps g keeps f)

  leaf_keeps : (t : Tree) (b : Bool) → (T b → t ≡ target) → Keeps (value R ρ t) (elim b [ true ↦ ok (Sym n) | false ↦ ok t ])
  unfolding Keeps
  leaf_keeps t true e = h ∙ ap (value R ρ) (sym (e tt))
  leaf_keeps t false e = refl

  pub replace_within_keeps : (fuel : ℕ) (e : Tree) → Keeps (value R ρ e) (replace_within fuel target n e)
  unfolding Keeps replace_within
  replace_within_keeps zero e = refl
  replace_within_keeps (suc fuel) (Sym s) = leaf_keeps (Sym s) (eq_tree (Sym s) target) (eq_tree_sound (Sym s) target)
  replace_within_keeps (suc fuel) (Const c) = leaf_keeps (Const c) (eq_tree (Const c) target) (eq_tree_sound (Const c) target)
  replace_within_keeps (suc fuel) (Op k f) =
      node_keeps k f (λ t. replace_within fuel target n t) (λ t. replace_within_keeps fuel t) (eq_tree (Op k f) target) (eqb k Mul)
      (eq_tree_sound (Op k f) target) (match_factors target n (Op k f)) (matched target n (Op k f))

  -- law (a)
  pub replace_keeps : (e r : Tree) → replace target n e ≡ ok r → value R ρ r ≡ value R ρ e
  unfolding Keeps replace
  replace_keeps e r q = subst (Keeps (value R ρ e)) q (replace_within_keeps (2 * size e) e)
