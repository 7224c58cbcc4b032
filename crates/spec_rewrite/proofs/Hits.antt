-- The nodes equal to a product t = Op Mul g. Inside a product that `replace` flattens, some are met as the factors at hand, the spine's, and the
-- others inside single factors. Assumes nothing.
use Prim.Native.Nat.{ℕ, ◌+◌, ◌*◌, ◌≤◌, ◌<◌}
use mathlib.Core.Path.{◌≡◌, refl, sym, ◌∙◌, ap, subst}
use mathlib.Core.Bool.{Bool, true, false}
use mathlib.Core.Logic.{inl, inr}
use mathlib.Core.List.{List, [], ◌∷◌}
use native.Mathlib.Omega.{arith}
use native.Mathlib.Nat.{add-mul, zero-mul, one-mul}
use lib.IntN.{ℤ, pos, neg_ℤ}
use lib.Dec.{T, eqb, eqb→eq}
use Rattle.spec_tree.specs.Tree.{Tree, Forest, Sym, Const, Op, nil, ◌◂◌, eq_forest}
use Rattle.spec_tree.specs.Kinds.{Neg, Mul}
use Rattle.spec_tree.proofs.TreeLaws.{eq_forest_sound, eq_forest_refl}
use Rattle.spec_tree.specs.Facts.{size, nodes, nodes_of, count}
use Rattle.spec_rewrite.specs.Rewrite.{Factors, one, flatten_mul_factors, flatten_operands, negated}
use Rattle.spec_rewrite.proofs.ReplaceValue.{exact, exact_operands}
use Rattle.spec_rewrite.proofs.Measure.{sum_of, sum_each, sizes, size_op}
use Rattle.spec_rewrite.proofs.Counts.{one_none, count_const, count_none, count_operands, count_cases, whole_count, small}
use Rattle.spec_rewrite.proofs.Factors.{factors_of, factors_cases, sum_factors}

-- ---- a tree stands in none of its factors

mutual
  unfolding flatten_mul_factors sum_of sum_each

  factors_size : (e : Tree) → sum_of size (factors_of e) ≤ size e
  factors_size (Sym s) = omega arith
  factors_size (Const c) = omega arith
  factors_size (Op k f) =
      factors_cases (λ l. sum_of size l ≤ size (Op k f)) k f (let a = sum_factors size f in let b = operands_size f in let c = size_op k f in omega arith) (λ e. omega arith)

  operands_size : (f : Forest) → sum_each (λ t. sum_of size (factors_of t)) f ≤ sizes f
  operands_size nil = omega arith
  operands_size (t ◂ f) = (let a = factors_size t in let b = operands_size f in omega arith)

small_all : (x : Tree) (l : List Tree) → sum_of size l < size x → sum_of (λ t. count x (nodes t)) l ≡ 0
unfolding sum_of
small_all x [] h = refl
small_all x (t ∷ l) h = (let a = small x t (omega arith) in let b = small_all x l (omega arith) in omega arith)

module _ (g : Forest) where
  abbrev pub hits : Tree → ℕ
  hits e = count (Op Mul g) (nodes e)

  abbrev pub inner_hits : List Tree → ℕ
  inner_hits = sum_of hits

  pub own_factors : inner_hits (factors_of (Op Mul g)) ≡ 0
  unfolding flatten_mul_factors
  own_factors =
      small_all (Op Mul g) (flatten_operands g).factors (let a = sum_factors size g in let b = operands_size g in let c = size_op Mul g in omega arith)

  unfoldable mutual
    pub spine_hits : Tree → ℕ
    spine_hits (Sym s) = 0
    spine_hits (Const c) = 0
    spine_hits (Op k f) =
        elim (eqb k Mul) [
          | true ↦ elim (eq_forest f g) [ true ↦ 1 | false ↦ spine_each f ]
          | false ↦ elim (eqb k Neg) [ true ↦ spine_each f | false ↦ 0 ]
        ]

    pub spine_each : Forest → ℕ
    spine_each nil = 0
    spine_each (t ◂ f) = spine_hits t + spine_each f

  -- a node is t, another product, a minus sign, or a factor alone
  pub node_cases :
      (P : List Tree → ℤ → ℕ → Type 0) (k : ℕ) (f : Forest) → (Op k f ≡ Op Mul g → P (factors_of (Op Mul g)) (exact (Op Mul g)) 1)
      → ((Op k f ≡ Op Mul g → ⊥) → k ≡ Mul → P (flatten_operands f).factors (exact_operands f) (spine_each f))
      → ((Op k f ≡ Op Mul g → ⊥) → k ≡ Neg → P (flatten_operands f).factors (neg_ℤ (exact_operands f)) (spine_each f)) → P (Op k f ∷ []) (pos 1) 0
      → P (factors_of (Op k f)) (exact (Op k f)) (spine_hits (Op k f))
  unfolding flatten_mul_factors negated exact spine_hits
  node_cases P k f p q r s = go (eqb k Mul) refl (eq_forest f g) refl (eqb k Neg) refl
    where
      other : eq_forest f g ≡ false → Op k f ≡ Op Mul g → ⊥
      other e z = (let h : f ≡ g = cc in subst T (ap (λ (i : Forest). eq_forest f i) h ∙ e) (eq_forest_refl f))

      go : (b : Bool) → eqb k Mul ≡ b → (c : Bool) → eq_forest f g ≡ c → (d : Bool) → eqb k Neg ≡ d
          → P (elim b as (λ _. Factors) [ true ↦ flatten_operands f | false ↦ elim d [ true ↦ negated (flatten_operands f) | false ↦ record { coefficient = one; factors = Op k f ∷ [] } ] ]).factors
          (elim b [ true ↦ exact_operands f | false ↦ elim d [ true ↦ neg_ℤ (exact_operands f) | false ↦ pos 1 ] ])
          (elim b [ true ↦ elim c [ true ↦ 1 | false ↦ spine_each f ] | false ↦ elim d [ true ↦ spine_each f | false ↦ 0 ] ])
      go true u true v d w =
          let x : k ≡ Mul = eqb→eq k Mul (subst T (sym u) tt) in
          let y : g ≡ f = sym (eq_forest_sound f g (subst T (sym v) tt)) in
          subst (λ (h : Forest). P (flatten_operands h).factors (exact_operands h) 1) y (p (let z : Op k f ≡ Op Mul g = cc in z))
      go true u false v d w = q (other v) (eqb→eq k Mul (subst T (sym u) tt))
      go false u c v true w =
          let x : k ≡ Neg = eqb→eq k Neg (subst T (sym w) tt) in
          r (λ e. (let y : k ≡ Mul = cc in let z : ◌≡◌ {A = ℕ} 2 5 = sym x ∙ y in omega arith)) x
      go false u c v false w = s

  -- every node equal to t is met in one of the two ways
  mutual
    unfolding spine_hits flatten_mul_factors sum_of sum_each

    pub hits_split : (e : Tree) → hits e ≡ spine_hits e + inner_hits (factors_of e)
    hits_split (Sym s) = omega arith
    hits_split (Const c) =
        (let a = count_const (Op Mul g) c in let b = one_none (Const c) (Op Mul g) (λ e. (let z : ◌≡◌ {A = ℕ} 0 1 = cc in omega arith)) in omega arith)
    hits_split (Op k f) =
        let m = sum_factors hits f in
        let i = split_each f in
        let among : (Op k f ≡ Op Mul g → ⊥) → hits (Op k f) ≡ spine_each f + inner_hits (flatten_operands f).factors = λ o.
        elim (count_cases (Op Mul g) k f) [ inl e ↦ absurd (o e) | inr e ↦ omega arith ] in
        node_cases (λ l z s. hits (Op k f) ≡ s + inner_hits l) k f
        (λ e. (let a = ap hits e in let b = whole_count (Op Mul g) in let c = own_factors in omega arith))
        (λ o x. among o) (λ o x. among o) (omega arith)

    split_each : (f : Forest) → count (Op Mul g) (nodes_of f) ≡ spine_each f + sum_each (λ t. inner_hits (factors_of t)) f
    split_each nil = count_none (Op Mul g)
    split_each (t ◂ f) = (let a = count_operands (Op Mul g) t f in let b = hits_split t in let c = split_each f in omega arith)

  -- the factors hold as many copies of t's factors as the spine holds of t, by every sum
  module _ (μ : Tree → ℕ) where
    abbrev own : ℕ
    own = sum_of μ (factors_of (Op Mul g))

    mutual
      unfolding spine_hits flatten_mul_factors sum_of sum_each

      pub copies : (e : Tree) → spine_hits e * sum_of μ (factors_of (Op Mul g)) ≤ sum_of μ (factors_of e)
      copies (Sym s) = (let q = zero-mul own in omega arith)
      copies (Const c) = (let q = zero-mul own in omega arith)
      copies (Op k f) =
          let among : spine_each f * own ≤ sum_of μ (flatten_operands f).factors = (let m = sum_factors μ f in let i = copies_each f in omega arith) in
          node_cases (λ l z s. s * own ≤ sum_of μ l) k f
          (λ e. (let q = one-mul own in omega arith)) (λ o x. among) (λ o x. among) (let q = zero-mul own in omega arith)

      copies_each : (f : Forest) → spine_each f * own ≤ sum_each (λ t. sum_of μ (factors_of t)) f
      copies_each nil = (let q = zero-mul own in omega arith)
      copies_each (t ◂ f) = (let m = add-mul (spine_hits t) (spine_each f) own in let a = copies t in let b = copies_each f in omega arith)
