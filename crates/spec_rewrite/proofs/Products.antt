-- What a product measures, by any measure: at least its factors with their signs and its coefficient, and no more than that where it is built from
-- them. Assumes nothing.
use Prim.Native.Nat.{ℕ, ◌+◌, ◌*◌, ◌≤◌}
use mathlib.Core.Path.{◌≡◌, refl, sym, ◌∙◌, ap, ap₂, subst}
use mathlib.Core.Bool.{Bool, true, false}
use mathlib.Core.Logic.{◌⊎◌, inl, inr}
use mathlib.Core.List.{List, [], ◌∷◌}
use native.Mathlib.Omega.{arith}
use native.Mathlib.Nat.{add-zero, mul-add, mul-zero, zero-mul, mul-suc}
use lib.IntN.{ℤ, pos, negsuc, neg_ℤ, ◌*ℤ◌, *ℤ-one, *ℤ_comm}
use lib.IntN as Int
use lib.Dec.{T}
use lib.ListN.{length}
use Rattle.spec_tree.specs.Tree.{Name, Tree, Forest, Sym, Const, Op, nil, ◌◂◌, eq_int}
use Rattle.spec_tree.specs.Kinds.{Neg, Mul, arity_ok}
use Rattle.spec_tree.proofs.Formed.{arity_mul, arity_neg, operand_count, well_formed, well_formed_each}
use Rattle.spec_tree.proofs.TreeLaws.{eq_int_sound}
use Rattle.spec_tree.proofs.Logic.{and_left, and_right}
use Rattle.spec_rewrite.specs.Rewrite.{flatten_mul_factors, flatten_operands, nested_product, with_coefficient, built}
use Rattle.spec_rewrite.proofs.ReplaceValue.{exact, exact_operands}
use Rattle.spec_rewrite.proofs.Measure.{sum_of, sum_each, Measure, Least}
use Rattle.spec_rewrite.proofs.Factors.{factors_of, sum_factors}
use Rattle.spec_rewrite.proofs.Hits.{spine_hits, spine_each, node_cases}

module _ (M : Measure) where
  -- a factor with its sign, and several
  abbrev pub with_sign : Tree → ℕ
  with_sign t = M.node + M.of t

  abbrev pub spread : List Tree → ℕ
  spread = sum_of with_sign

  pub spread_up : (n : Name) → Least M n → (l : List Tree) → 1 ≤ length l → M.node + M.of (Sym n) ≤ spread l
  unfolding sum_of
  spread_up n least [] h = absurd (omega arith)
  spread_up n least (t ∷ l) h = (let q = least t in omega arith)

  -- ---- coefficients

  -- none for 1, a minus sign, or a constant with its sign
  unfoldable pub extra : ℤ → ℕ
  extra c = elim (eq_int c (pos 1)) [ true ↦ 0 | false ↦ elim (eq_int c (negsuc 0)) [ true ↦ M.node | false ↦ M.node + M.constant ] ]

  three_way : (c : ℤ) → (c ≡ pos 1) ⊎ ((c ≡ negsuc 0) ⊎ (extra c ≡ M.node + M.constant))
  unfolding extra
  three_way c = go (eq_int c (pos 1)) refl (eq_int c (negsuc 0)) refl
    where
      go : (b : Bool) → eq_int c (pos 1) ≡ b → (d : Bool) → eq_int c (negsuc 0) ≡ d
          → (c ≡ pos 1) ⊎ ((c ≡ negsuc 0) ⊎ (elim b [ true ↦ 0 | false ↦ elim d [ true ↦ M.node | false ↦ M.node + M.constant ] ] ≡ M.node + M.constant))
      go true p d q = inl (eq_int_sound c (pos 1) (subst T (sym p) tt))
      go false p true q = inr (inl (eq_int_sound c (negsuc 0) (subst T (sym q) tt)))
      go false p false q = inr (inr refl)

  pub extra_one : extra (pos 1) ≡ 0
  unfolding extra eq_int
  extra_one = refl

  extra_minus : extra (negsuc 0) ≡ M.node
  unfolding extra eq_int
  extra_minus = refl

  extra_le : (c : ℤ) → extra c ≤ M.node + M.constant
  extra_le c =
      elim (three_way c) [
        | inl p ↦ (let a = ap extra p in let b = extra_one in omega arith)
        | inr s ↦ elim s [ inl p ↦ (let a = ap extra p in let b = extra_minus in omega arith) | inr q ↦ omega arith ]
      ]

  extra_neg : (c : ℤ) → extra (neg_ℤ c) ≤ extra c + M.node
  extra_neg c =
      elim (three_way c) [
        | inl p ↦ subst (λ (z : ℤ). extra (neg_ℤ z) ≤ extra z + M.node) (sym p) (let a = extra_one in let b = extra_minus in omega arith)
        | inr s ↦ elim s [
          | inl p ↦ subst (λ (z : ℤ). extra (neg_ℤ z) ≤ extra z + M.node) (sym p) (let a = extra_one in let b = extra_minus in omega arith)
          | inr q ↦ (let a = extra_le (neg_ℤ c) in omega arith)
        ]
      ]

  extra_mul : (x y : ℤ) → extra (x *ℤ y) ≤ extra x + extra y
  unfolding Int.one
  extra_mul x y =
      elim (three_way x) [
        | inl p ↦ (let a : extra (x *ℤ y) ≡ extra y = ap extra (ap (λ (z : ℤ). z *ℤ y) p ∙ *ℤ_comm (pos 1) y ∙ *ℤ-one y) in omega arith)
        | inr s ↦ elim s [
          | inr q ↦ (let a = extra_le (x *ℤ y) in omega arith)
          | inl p ↦ elim (three_way y) [
            | inl r ↦ (let a : extra (x *ℤ y) ≡ extra x = ap extra (ap (λ (z : ℤ). x *ℤ z) r ∙ *ℤ-one x) in omega arith)
            | inr t ↦ elim t [
              | inr q ↦ (let a = extra_le (x *ℤ y) in omega arith)
              | inl r ↦ (let a : extra (x *ℤ y) ≡ 0 = ap extra (ap₂ ◌*ℤ◌ p r) ∙ extra_one in omega arith)
            ]
          ]
        ]
      ]

  -- ---- a product built

  product_of : (t : Tree) (l : List Tree) → M.of (nested_product t l) ≡ M.of t + spread l
  unfolding nested_product sum_of sum_each
  product_of t [] = sym (add-zero (M.of t))
  product_of t (f ∷ l) = (let e = product_of (Op Mul (t ◂ f ◂ nil)) l in let q = M.at_node Mul (t ◂ f ◂ nil) in omega arith)

  coefficient_of :
      (c : ℤ) (t : Tree) (b d : Bool)
      → M.of (elim b [ true ↦ t | false ↦ elim d [ true ↦ Op Neg (t ◂ nil) | false ↦ Op Mul (Const c ◂ t ◂ nil) ] ])
      ≤ M.of t + elim b as (λ _. ℕ) [ true ↦ 0 | false ↦ elim d [ true ↦ M.node | false ↦ M.node + M.constant ] ]
  unfolding sum_each
  coefficient_of c t true d = omega arith
  coefficient_of c t false true = (let q = M.at_node Neg (t ◂ nil) in omega arith)
  coefficient_of c t false false = (let q = M.at_node Mul (Const c ◂ t ◂ nil) in let r = M.at_constant c in omega arith)

  pub built_of : (c : ℤ) (l : List Tree) → 1 ≤ length l → M.node + M.of (built c l) ≤ spread l + extra c
  unfolding built with_coefficient extra sum_of
  built_of c [] h = absurd (omega arith)
  built_of c (t ∷ l) h = (let a = coefficient_of c (nested_product t l) (eq_int c (pos 1)) (eq_int c (negsuc 0)) in let b = product_of t l in omega arith)

  -- ---- a product taken apart

  signs : (f : Forest) (m : ℕ) → operand_count f ≡ m → sum_each with_sign f ≡ M.node * m + sum_each M.of f
  unfolding sum_each operand_count
  signs nil m e = (let a = ap (λ (j : ℕ). M.node * j) (sym e) ∙ mul-zero M.node in omega arith)
  signs (t ◂ f) m e = (let a = signs f (operand_count f) refl in let b = ap (λ (j : ℕ). M.node * j) (sym e) ∙ mul-suc M.node (operand_count f) in omega arith)

  -- K for each node of the spine that is t = Op Mul g, if t itself has as much besides its factors
  module _
      (g : Forest) (K : ℕ)
      (own : spread (factors_of (Op Mul g)) + extra (exact (Op Mul g)) ≤ M.node + M.of (Op Mul g)
      → spread (factors_of (Op Mul g)) + extra (exact (Op Mul g)) + K * 1 ≤ M.node + M.of (Op Mul g)) where
    mutual
      unfolding flatten_mul_factors exact well_formed spine_hits sum_of sum_each

      pub copies_bound : (e : Tree) → T (well_formed e) → spread (factors_of e) + extra (exact e) + K * spine_hits g e ≤ M.node + M.of e
      copies_bound (Sym s) w = (let a = extra_one in let z = mul-zero K in omega arith)
      copies_bound (Const c) w = (let a = extra_le c in let b = M.at_constant c in let z = mul-zero K in omega arith)
      copies_bound (Op k f) w =
          let a = and_left (arity_ok k (operand_count f)) (well_formed_each f) w in
          let e = copies_bound_each f (and_right (arity_ok k (operand_count f)) (well_formed_each f) w) in
          let m = sum_factors with_sign f in
          let q = M.at_node k f in
          let product : k ≡ Mul → spread (flatten_operands f).factors + extra (exact_operands f) + K * spine_each g f ≤ M.node + M.of (Op k f) = λ x.
          (let s = signs f 2 (arity_mul k (operand_count f) x a) in omega arith) in
          node_cases g (λ l z s. spread l + extra z + K * s ≤ M.node + M.of (Op k f)) k f
          (λ x.
          (let m = ap (λ (t : Tree). M.of t) x in
          let p = product (let y : k ≡ Mul = cc in y) in
          let r : f ≡ g = cc in
          let u = subst (λ (h : Forest). spread (flatten_operands h).factors + extra (exact_operands h) ≤ M.node + M.of (Op k f)) r (omega arith) in
          let v = own (omega arith) in
          omega arith))
          (λ o x. product x)
          (λ o x. (let s = signs f 1 (arity_neg k (operand_count f) x a) in let d = extra_neg (exact_operands f) in omega arith))
          (let b = extra_one in let z = mul-zero K in omega arith)

      copies_bound_each : (f : Forest) → T (well_formed_each f) → sum_each (λ t. spread (factors_of t)) f + extra (exact_operands f) + K * spine_each g f ≤ sum_each with_sign f
      copies_bound_each nil w = (let a = extra_one in let z = mul-zero K in omega arith)
      copies_bound_each (t ◂ f) w =
          let a = copies_bound t (and_left (well_formed t) (well_formed_each f) w) in
          let b = copies_bound_each f (and_right (well_formed t) (well_formed_each f) w) in
          let x = extra_mul (exact t) (exact_operands f) in
          let k = mul-add K (spine_hits g t) (spine_each g f) in
          omega arith

  pub factors_bound : (e : Tree) → T (well_formed e) → spread (factors_of e) + extra (exact e) ≤ M.node + M.of e
  factors_bound e w = (let a = copies_bound nil 0 (λ h. (let z = zero-mul 1 in omega arith)) e w in let z = zero-mul (spine_hits nil e) in omega arith)
