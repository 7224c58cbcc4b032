-- What an extraction saves, by any measure by which the new name counts least: each node equal to the target saves what the target measures above
-- the name, also where `replace` meets it as factors of a larger product. Assumes nothing.
-- The first section is for a product t = Op Mul g with coefficient 1; `Plain` is for any other target, and the last section for either.
use Prim.Native.Nat.{ℕ, zero, suc, ◌+◌, ◌-◌, ◌*◌, ◌≤◌}
use mathlib.Core.Path.{◌≡◌, refl, sym, ◌∙◌, ap, subst}
use mathlib.Core.Bool.{Bool, true, false, ◌&&◌}
use mathlib.Core.Option.{Option, none, some}
use mathlib.Core.List.{List, [], ◌∷◌, ◌++◌}
use native.Mathlib.Omega.{arith}
use native.Mathlib.Nat.{add-zero, mul-add, add-mul, mul-zero, zero-mul, mul-one, suc-mul, mul-suc}
use lib.IntN.{ℤ}
use lib.Dec.{T, eqb, eqb→eq}
use lib.ListN.{length}
use lib.Ieee as Ieee
use Rattle.spec_tree.specs.Outcome.{Outcome, ok, refused, ◌>>=◌}
use Rattle.spec_tree.specs.Tree.{Name, Tree, Forest, Sym, Const, Op, nil, ◌◂◌, eq_tree}
use Rattle.spec_tree.specs.Kinds.{Neg, Mul, arity_ok}
use Rattle.spec_tree.proofs.Formed.{arity_neg, operand_count, well_formed, well_formed_each}
use Rattle.spec_tree.proofs.TreeLaws.{eq_tree_sound}
use Rattle.spec_tree.proofs.Logic.{and_left, and_right}
use Rattle.spec_tree.specs.Facts.{operations, size, nodes, nodes_of, count}
use Rattle.spec_rewrite.specs.Rewrite.{Factors, one, flatten_mul_factors, flatten_operands, negated, built, build_mul_from_factors, constant_of, is_mul, match_factors, each_operand, replace_within, replace}
use Rattle.spec_rewrite.proofs.ReplaceValue.{exact}
use Rattle.spec_rewrite.proofs.Coefficient.{exactly}
use Rattle.spec_rewrite.proofs.Measure.{sum_of, sum_append, sum_each, Measure, by_operations, by_size, Least, least_operations, least_size, size_up, one_of, one_self, count_cons}
use Rattle.spec_rewrite.proofs.Counts.{count_append, count_nil, count_sym, count_const, count_op, count_none, count_operands, whole_count, one_cases, one_none, one_equal}
use Rattle.spec_rewrite.proofs.Factors.{factors_of, factors_alone, built_factors, Puts, puts_sum, rest_all, Product, Matched, matched}
use Rattle.spec_rewrite.proofs.Hits.{hits, inner_hits, own_factors, spine_hits, spine_each, hits_split, copies}
use Rattle.spec_rewrite.proofs.Products.{spread, spread_up, extra, extra_one, copies_bound, factors_bound}
use Rattle.spec_rewrite.proofs.Shrinks.{rebuilt_of}
use Rattle.spec_rewrite.proofs.Weight.{weight, weight_up, weight_op, twice_size, falls}
use Rattle.spec_rewrite.proofs.Plain as Plain

module _
    (M : Measure) (n : Name) (least : Least M n) (g : Forest) (saved : ℕ) (whole : saved + M.of (Sym n) ≡ M.of (Op Mul g))
    (product : Product (Op Mul g)) (formed : T (well_formed (Op Mul g)))
    (some_factor : 1 ≤ length (factors_of (Op Mul g))) (new : count (Sym n) (factors_of (Op Mul g)) ≡ 0) where
  abbrev own : List Tree
  own = factors_of (Op Mul g)

  -- what t measures besides its factors, which every t in a spine saves
  K : ℕ
  K = M.node + M.of (Op Mul g) - spread M own

  -- what its factors measure above the name, which every copy of them saves
  R : ℕ
  R = spread M own - (M.node + M.of (Sym n))

  own_bound : K + spread M own ≡ M.node + M.of (Op Mul g)
  unfolding K
  own_bound = (let b = factors_bound M (Op Mul g) formed in omega arith)

  own_least : R + (M.node + M.of (Sym n)) ≡ spread M own
  unfolding R
  own_least = (let b = spread_up M n least own some_factor in omega arith)

  both : K + R ≡ saved
  both = (let a = own_bound in let b = own_least in omega arith)

  spine_bound : (e : Tree) → T (well_formed e) → spread M (factors_of e) + extra M (exact e) + K * spine_hits g e ≤ M.node + M.of e
  spine_bound =
      copies_bound M g K
      (λ h.
      (let a = ap (extra M) (exactly.unit (Op Mul g) (and_right (is_mul (Op Mul g)) (Ieee.eq (flatten_mul_factors (Op Mul g)).coefficient one) product)) in
      let b = extra_one M in
      let c = own_bound in
      let m = mul-one K in
      omega arith))

  -- k copies of t's factors are among these, by every sum
  Copies : ℕ → List Tree → Type 0
  Copies k F = (μ : Tree → ℕ) → k * sum_of μ own ≤ sum_of μ F

  -- where the name is among the factors already, k copies save on their own
  Beside : Tree → Tree → Type 0
  Beside e r = (k : ℕ) → Copies k (factors_of e) → M.of r + K * spine_hits g e + R * k + saved * inner_hits g (factors_of e) ≤ M.of e

  Saves : Tree → Outcome Tree → Type 0
  Saves e (ok r) = (M.of r + saved * hits g e ≤ M.of e) × (1 ≤ count (Sym n) (factors_of e) → Beside e r)
  Saves e (refused i) = Unit {0}

  saves_from : (e r : Tree) → Beside e r → Saves e (ok r)
  unfolding Saves Beside Copies
  saves_from e r h = (
    (let a = h (spine_hits g e) (λ μ. copies g μ e) in
        let p : K * spine_hits g e + R * spine_hits g e ≡ saved * spine_hits g e = sym (add-mul K R (spine_hits g e)) ∙ ap (λ (q : ℕ). q * spine_hits g e) both in
        let t : saved * hits g e ≡ saved * spine_hits g e + saved * inner_hits g (factors_of e) =
        ap (λ (q : ℕ). saved * q) (hits_split g e) ∙ mul-add saved (spine_hits g e) (inner_hits g (factors_of e)) in
        omega arith),
    λ c. h,
  )

  no_hit : hits g (Sym n) ≡ 0
  no_hit = (let a = count_sym (Op Mul g) n in let b = one_none (Sym n) (Op Mul g) (λ e. (let z : ◌≡◌ {A = ℕ} 0 1 = cc in omega arith)) in omega arith)

  -- a rebuilt product
  rebuilt_saves :
      (e : Tree) (r : List Tree) (c : ℤ) (u : Tree) → T (well_formed e) → c ≡ exact e
      → Puts own r (factors_of e)
      → Saves (built c (r ++ (Sym n ∷ []))) (ok u) → Beside e u
  unfolding Saves Beside Copies sum_of
  rebuilt_saves e r c u w q p h k cp =
      let F = r ++ (Sym n ∷ []) in
      let fl : factors_of (built c F) ≡ F = (built_factors c F (rest_all n e w p)).0 in
      let has : 1 ≤ count (Sym n) F = (let x = count_append (Sym n) r (Sym n ∷ []) in let y = count_cons (Sym n) (Sym n) [] in let z = one_self (Sym n) in omega arith) in
      let inn : inner_hits g F ≡ inner_hits g (factors_of e) =
      (let x = sum_append (hits g) r (Sym n ∷ []) in let y = no_hit in let z = puts_sum (hits g) p in let t = own_factors g in omega arith) in
      finish k cp
      (λ j f.
      (let x = h.1 (subst (λ (l : List Tree). 1 ≤ count (Sym n) l) (sym fl) has) j (λ μ. subst (λ (l : List Tree). j * sum_of μ own ≤ sum_of μ l) (sym fl) (f μ)) in
      let y = ap (λ (l : List Tree). saved * inner_hits g l) fl in
      let z = ap (λ (m : ℕ). saved * m) inn in
      omega arith))
      (rebuilt_of M (Op Mul g) n e r c (K * spine_hits g e) (spine_bound e w) p q)
    where
      finish :
          (k : ℕ) → ((μ : Tree → ℕ) → k * sum_of μ own ≤ sum_of μ (factors_of e))
          → ((j : ℕ) → ((μ : Tree → ℕ) → j * sum_of μ own ≤ sum_of μ (r ++ (Sym n ∷ [])))
          → M.of u + R * j + saved * inner_hits g (factors_of e) ≤ M.of (built c (r ++ (Sym n ∷ []))))
          → M.of (built c (r ++ (Sym n ∷ []))) + spread M own + K * spine_hits g e ≤ M.of e + (M.node + M.of (Sym n))
          → M.of u + K * spine_hits g e + R * k + saved * inner_hits g (factors_of e) ≤ M.of e
      finish zero cp f b = (let a = f 0 (λ μ. (let z = zero-mul (sum_of μ own) in omega arith)) in let s = own_least in let z = mul-zero R in omega arith)
      finish (suc j) cp f b =
          (let a = f j (λ μ. (let x = cp μ in let y = puts_sum μ p in let z = suc-mul j (sum_of μ own) in let t = sum_append μ r (Sym n ∷ []) in omega arith)) in
          let s = own_least in
          let z = mul-suc R j in
          omega arith)

  -- ---- operands

  SavesEach : Forest → Outcome Forest → Type 0
  SavesEach f (ok h) =
      (sum_each M.of h + saved * count (Op Mul g) (nodes_of f) ≤ sum_each M.of f)
      × (operand_count f ≡ 1 → 1 ≤ count (Sym n) (flatten_operands f).factors → (k : ℕ) → Copies k (flatten_operands f).factors
      → sum_each M.of h + K * spine_each g f + R * k + saved * inner_hits g (flatten_operands f).factors ≤ sum_each M.of f)
  SavesEach f (refused i) = Unit {0}

  each_first :
      (t : Tree) (f : Forest) (u : Tree) (h : Forest) → Saves t (ok u) → SavesEach f (ok h)
      → sum_each M.of (u ◂ h) + saved * count (Op Mul g) (nodes_of (t ◂ f)) ≤ sum_each M.of (t ◂ f)
  unfolding Saves SavesEach sum_each
  each_first t f u h a b =
      (let c = ap (λ (m : ℕ). saved * m) (count_operands (Op Mul g) t f) ∙ mul-add saved (hits g t) (count (Op Mul g) (nodes_of f)) in let x = a.0 in let y = b.0 in omega arith)

  each_step : (t : Tree) (f : Forest) (o : Outcome Tree) → Saves t o → (q : Outcome Forest) → SavesEach f q → SavesEach (t ◂ f) (o >>= λ u. q >>= λ h. ok (u ◂ h))
  unfolding Saves SavesEach operand_count
  each_step t nil (ok u) a (ok h) b = (
    each_first t nil u h a b,
    λ c has k cp.
        (unfold flatten_mul_factors sum_each spine_hits Beside in
        (let x = a.1 has k cp in let y = b.0 in let s = ap (λ (m : ℕ). K * m) (add-zero (spine_hits g t)) in omega arith)),
  )
  each_step t (v ◂ f) (ok u) a (ok h) b = (each_first t (v ◂ f) u h a b, λ c has k cp. absurd (omega (arith, c)))
  each_step t f (ok u) a (refused i) b = tt
  each_step t f (refused i) a q b = tt

  each_saves :
      (fuel : ℕ) (s : Tree → Outcome Tree) → ((t : Tree) → weight n t ≤ fuel → T (well_formed t) → Saves t (s t)) → (f : Forest) → sum_each (weight n) f ≤ fuel → T (well_formed_each f)
      → SavesEach f (each_operand s f)
  unfolding SavesEach each_operand well_formed sum_each
  each_saves fuel s ih nil l w =
      ((let z = ap (λ (m : ℕ). saved * m) (count_none (Op Mul g)) ∙ mul-zero saved in omega arith), λ c. absurd (unfold operand_count in (omega (arith, c))))
  each_saves fuel s ih (t ◂ f) l w =
      each_step t f (s t) (ih t (omega arith) (and_left (well_formed t) (well_formed_each f) w)) (each_operand s f)
      (each_saves fuel s ih f (omega arith) (and_right (well_formed t) (well_formed_each f) w))

  -- ---- a node whose operands are rewritten

  others_first : (k : ℕ) (f h : Forest) → one_of (Op k f) (Op Mul g) ≡ 0 → SavesEach f (ok h) → M.of (Op k h) + saved * hits g (Op k f) ≤ M.of (Op k f)
  unfolding SavesEach
  others_first k f h z a =
      (let e : hits g (Op k f) ≡ count (Op Mul g) (nodes_of f) = (let c = count_op (Op Mul g) k f in omega arith) in
      let c = ap (λ (m : ℕ). saved * m) e in
      let x = M.at_node k h in
      let y = M.at_node k f in
      let b = a.0 in
      omega arith)

  -- no match: no copy of t's factors is there
  no_copy : (e : Tree) → Matched (Op Mul g) n e none → (k : ℕ) → Copies k (factors_of e) → k ≡ 0
  unfolding Matched Copies
  no_copy e m zero c = refl
  no_copy e m (suc k) c = absurd (m product (λ μ. (let y = c μ in let z = suc-mul k (sum_of μ own) in omega arith)))

  unmatched : (e r : Tree) → Matched (Op Mul g) n e none → M.of r + saved * hits g e ≤ M.of e → Saves e (ok r)
  unfolding Saves Beside
  unmatched e r m h = (
    h,
    λ has k cp.
        (let k0 = no_copy e m k cp in
        let s0 = no_copy e m (spine_hits g e) (unfold Copies in (λ μ. copies g μ e)) in
        let hi : hits g e ≡ inner_hits g (factors_of e) = (let hs = hits_split g e in omega arith) in
        let oi = ap (λ (y : ℕ). saved * y) hi in
        let ks : K * spine_hits g e ≡ 0 = ap (λ (y : ℕ). K * y) s0 ∙ mul-zero K in
        let rk : R * k ≡ 0 = ap (λ (y : ℕ). R * y) k0 ∙ mul-zero R in
        omega arith),
  )

  -- a minus sign
  minus : (f h : Forest) → T (well_formed (Op Neg f)) → SavesEach f (ok h) → 1 ≤ count (Sym n) (factors_of (Op Neg f)) → Beside (Op Neg f) (Op Neg h)
  unfolding SavesEach flatten_mul_factors negated spine_hits Beside
  minus f h w a has k cp =
      (let c = arity_neg Neg (operand_count f) refl (and_left (arity_ok Neg (operand_count f)) (well_formed_each f) (unfold well_formed in w)) in
      let x = a.1 c has k cp in
      let y = M.at_node Neg h in
      let z = M.at_node Neg f in
      omega arith)

  -- the name is not the one factor that an operation is
  no_name : (k : ℕ) (f : Forest) → count (Sym n) (Op k f ∷ []) ≡ 0
  unfolding count eq_tree
  no_name k f = refl

  others : (k : ℕ) (f : Forest) → eqb k Mul ≡ false → one_of (Op k f) (Op Mul g) ≡ 0 → T (well_formed (Op k f)) → (o : Outcome Forest) → SavesEach f o → Saves (Op k f) (o >>= λ h. ok (Op k h))
  unfolding Saves
  others k f e z w (refused i) a = tt
  others k f e z w (ok h) a = (others_first k f h z a, by_kind (eqb k Neg) refl)
    where
      by_kind : (b : Bool) → eqb k Neg ≡ b → 1 ≤ count (Sym n) (factors_of (Op k f)) → Beside (Op k f) (Op k h)
      by_kind true q =
          subst (λ (i : ℕ). T (well_formed (Op i f)) → 1 ≤ count (Sym n) (factors_of (Op i f)) → Beside (Op i f) (Op i h)) (sym (eqb→eq k Neg (subst T (sym q) tt)))
          (λ v. minus f h v a) w
      by_kind false q = λ has. (let x = ap (count (Sym n)) (factors_alone k f e q) in let y = no_name k f in absurd (omega arith))

  -- ---- a product that matches, rebuilt and rewritten again

  again :
      (fuel : ℕ) (s : Tree → Outcome Tree) → ((t : Tree) → weight n t ≤ fuel → T (well_formed t) → Saves t (s t)) → (e : Tree) → weight n e ≤ suc fuel → T (well_formed e)
      → (p : Factors) → Matched (Op Mul g) n e (some p) → (o : Outcome ℤ) → constant_of p.coefficient ≡ o → Saves e ((o >>= λ c. ok (built c p.factors)) >>= λ t. s t)
  unfolding Matched Saves
  again fuel s ih e l w p (r, q, h, t) (ok c) z =
      let x : c ≡ exact e = exactly.accepted e c (ap (λ (f : Factors). constant_of f.coefficient) (sym q) ∙ z) in
      let y = falls n (Op Mul g) (omega (arith, some_factor, new)) e r c w h x in
      let b = built_factors c (r ++ (Sym n ∷ [])) (rest_all n e w h) in
      subst (λ (fs : List Tree). Saves e (s (built c fs))) (sym (ap (λ (f : Factors). f.factors) q))
      (go x (s (built c (r ++ (Sym n ∷ [])))) (ih (built c (r ++ (Sym n ∷ []))) (omega arith) b.1))
    where
      go : c ≡ exact e → (o : Outcome Tree) → Saves (built c (r ++ (Sym n ∷ []))) o → Saves e o
      go x (ok v) k = (unfold Saves in saves_from e v (rebuilt_saves e r c v w x h k))
      go x (refused i) k = tt
  again fuel s ih e l w p m (refused i) z = tt

  -- ---- the nodes

  -- t itself, or what else stands there
  itself : (e : Tree) (o : Outcome Tree) (b : Bool) → eq_tree e (Op Mul g) ≡ b → (one_of e (Op Mul g) ≡ 0 → Saves e o) → Saves e (elim b [ true ↦ ok (Sym n) | false ↦ o ])
  unfolding Saves
  itself e o true q h =
      (unfold Saves in
      subst (λ (t : Tree). Saves t (ok (Sym n))) (sym (eq_tree_sound e (Op Mul g) (subst T (sym q) tt)))
      ((let c = ap (λ (m : ℕ). saved * m) (whole_count (Op Mul g)) ∙ mul-one saved in omega arith), λ has. absurd (omega arith)))
  itself e o false q h = h (one_cases e (Op Mul g) false q)

  node :
      (fuel : ℕ) (s : Tree → Outcome Tree) → ((t : Tree) → weight n t ≤ fuel → T (well_formed t) → Saves t (s t)) → (k : ℕ) (f : Forest) → weight n (Op k f) ≤ suc fuel
      → T (well_formed (Op k f)) → one_of (Op k f) (Op Mul g) ≡ 0 → (d : Bool) → eqb k Mul ≡ d → (m : Option Factors) → Matched (Op Mul g) n (Op k f) m
      → Saves (Op k f)
      (elim d [
        | true ↦ elim m [
          | none ↦ (each_operand s f >>= λ r. ok (Op k r))
          | some p ↦ (build_mul_from_factors p >>= λ t. s t)
        ]
        | false ↦ (each_operand s f >>= λ r. ok (Op k r))
      ])
  unfolding build_mul_from_factors
  node fuel s ih k f l w z d e m c = go d e m c
    where
      operands : SavesEach f (each_operand s f)
      operands =
          each_saves fuel s ih f (let x = weight_op n k f in omega arith) (and_right (arity_ok k (operand_count f)) (well_formed_each f) (unfold well_formed in w))

      none_there : Matched (Op Mul g) n (Op k f) none → (o : Outcome Forest) → SavesEach f o → Saves (Op k f) (o >>= λ h. ok (Op k h))
      none_there m (ok h) a = unmatched (Op k f) (Op k h) m (others_first k f h z a)
      none_there m (refused i) a = (unfold Saves in tt)

      go : (d : Bool) → eqb k Mul ≡ d → (m : Option Factors) → Matched (Op Mul g) n (Op k f) m
          → Saves (Op k f)
          (elim d [
            | true ↦ elim m [
              | none ↦ (each_operand s f >>= λ r. ok (Op k r))
              | some p ↦ ((constant_of p.coefficient >>= λ c. ok (built c p.factors)) >>= λ t. s t)
            ]
            | false ↦ (each_operand s f >>= λ r. ok (Op k r))
          ])
      go true e none m = none_there m (each_operand s f) operands
      go true e (some p) m = again fuel s ih (Op k f) l w p m (constant_of p.coefficient) refl
      go false e o m = others k f e z w (each_operand s f) operands

  -- the name alone holds no copy of t's factors
  name_copies : (l : List Tree) → count (Sym n) l ≡ 0 → 1 ≤ length l → (s : Name) → 1 ≤ count (Sym n) (Sym s ∷ []) → (k : ℕ) → ((μ : Tree → ℕ) → k * sum_of μ l ≤ sum_of μ (Sym s ∷ [])) → k ≡ 0
  unfolding sum_of
  name_copies [] z p s has k c = absurd (omega arith)
  name_copies (y ∷ l) z p s has k c =
      (let e : Sym s ≡ Sym n = one_equal (Sym s) (Sym n) (let a = count_cons (Sym n) (Sym s) [] in let b = count_nil (Sym n) in omega arith) in
      let o : one_of (Sym s) y ≡ 0 =
      one_none (Sym s) y (λ q. (let a = count_cons (Sym n) y l in let b = ap (λ (t : Tree). one_of t (Sym n)) (sym e ∙ q) in let d = one_self (Sym n) in omega arith)) in
      let a = c (λ t. one_of t y) in
      let b = mul-add k (one_of y y) (sum_of (λ t. one_of t y) l) in
      let d = ap (λ (m : ℕ). k * m) (one_self y) ∙ mul-one k in
      omega arith)

  leaf_sym : (s : Name) → one_of (Sym s) (Op Mul g) ≡ 0 → Saves (Sym s) (ok (Sym s))
  unfolding Saves Beside Copies spine_hits flatten_mul_factors sum_of
  leaf_sym s z =
      let e : hits g (Sym s) ≡ 0 = count_sym (Op Mul g) s ∙ z in
      let a = ap (λ (m : ℕ). saved * m) e ∙ mul-zero saved in (
        omega arith,
        λ has k c.
            (let k0 = ap (λ (m : ℕ). R * m) (name_copies own new some_factor s has k c) ∙ mul-zero R in
            let b = mul-zero K in
            let d = ap (λ (m : ℕ). saved * m) (add-zero (hits g (Sym s))) in
            omega arith),
      )

  leaf_const : (c : ℤ) → one_of (Const c) (Op Mul g) ≡ 0 → Saves (Const c) (ok (Const c))
  unfolding Saves flatten_mul_factors count
  leaf_const c z = ((let a = ap (λ (m : ℕ). saved * m) (count_const (Op Mul g) c ∙ z) ∙ mul-zero saved in omega arith), λ has. absurd (omega (arith, has)))

  within_saves : (fuel : ℕ) (e : Tree) → weight n e ≤ fuel → T (well_formed e) → Saves e (replace_within fuel (Op Mul g) n e)
  unfolding replace_within
  within_saves zero e l w = (let u = weight_up n e in absurd (omega arith))
  within_saves (suc fuel) (Sym s) l w = itself (Sym s) (ok (Sym s)) (eq_tree (Sym s) (Op Mul g)) refl (leaf_sym s)
  within_saves (suc fuel) (Const c) l w = itself (Const c) (ok (Const c)) (eq_tree (Const c) (Op Mul g)) refl (leaf_const c)
  within_saves (suc fuel) (Op k f) l w =
      itself (Op k f) _ (eq_tree (Op k f) (Op Mul g)) refl
      (λ z.
      node fuel (λ t. replace_within fuel (Op Mul g) n t) (λ t x y. within_saves fuel t x y) k f l w z (eqb k Mul) refl (match_factors (Op Mul g) n (Op k f))
      (matched (Op Mul g) n (Op k f)))

  product_saves : (e r : Tree) → T (well_formed e) → replace (Op Mul g) n e ≡ ok r → M.of r + saved * hits g e ≤ M.of e
  unfolding replace Saves
  product_saves e r w q = (subst (Saves e) q (within_saves (2 * size e) e (twice_size n e) w)).0

-- ---- any target

mul_shape : (t : Tree) → T (is_mul t) → (g : Forest) × (t ≡ Op Mul g)
unfolding is_mul
mul_shape (Sym n) h = absurd h
mul_shape (Const c) h = absurd h
mul_shape (Op k f) h = (f, ap (λ (j : ℕ). Op j f) (eqb→eq k Mul h))

-- law (c) in full: each node equal to the target saves what the target measures above the name
pub saves :
    (M : Measure) (n : Name) → Least M n → (target : Tree) (saved : ℕ) → saved + M.of (Sym n) ≡ M.of target → T (well_formed target) → 1 ≤ length (factors_of target)
    → count (Sym n) (factors_of target) ≡ 0 → (e r : Tree) → T (well_formed e) → replace target n e ≡ ok r → M.of r + saved * count target (nodes e) ≤ M.of e
saves M n least target saved whole w s c e r v q = go (is_mul target && Ieee.eq (flatten_mul_factors target).coefficient one) refl
  where
    go : (b : Bool) → (is_mul target && Ieee.eq (flatten_mul_factors target).coefficient one) ≡ b → M.of r + saved * count target (nodes e) ≤ M.of e
    go true z =
        let u : Product target = subst T (sym z) tt in
        let g = mul_shape target (and_left (is_mul target) (Ieee.eq (flatten_mul_factors target).coefficient one) u) in
        subst
        (λ (t : Tree). saved + M.of (Sym n) ≡ M.of t → Product t → T (well_formed t) → 1 ≤ length (factors_of t)
        → count (Sym n) (factors_of t) ≡ 0 → replace t n e ≡ ok r → M.of r + saved * count t (nodes e) ≤ M.of e)
        (sym g.1) (λ whole u w s c. product_saves M n least g.0 saved whole u w s c e r v) whole u w s c q
    go false z = Plain.replace_saves M target n saved whole z e r q

-- so each saves the target's operations, and its nodes but one
module _
    (n : Name) (target : Tree) (formed : T (well_formed target)) (some_factor : 1 ≤ length (factors_of target)) (new : count (Sym n) (factors_of target) ≡ 0)
    (e r : Tree) (well : T (well_formed e)) (made : replace target n e ≡ ok r) where
  pub operations_saves : operations r + operations target * count target (nodes e) ≤ operations e
  operations_saves =
      saves by_operations n (least_operations n) target (operations target) (let q : operations (Sym n) ≡ 0 = (unfold operations in refl) in omega arith) formed some_factor new e r well made

  pub size_saves : size r + (size target - 1) * count target (nodes e) ≤ size e
  size_saves =
      saves by_size n (least_size n) target (size target - 1) (let q : size (Sym n) ≡ 1 = (unfold size in refl) in let u = size_up target in omega arith) formed some_factor new e r well made
