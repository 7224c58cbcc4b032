-- `replace` lets no measure grow by which the new name counts least, and keeps trees well-formed, where a target that is sought by its factors has one. Assumes nothing.
use Prim.Native.Nat.{ℕ, zero, suc, ◌+◌, ◌*◌, ◌≤◌}
use mathlib.Core.Path.{◌≡◌, refl, sym, ◌∙◌, ap, subst}
use mathlib.Core.Bool.{Bool, true, false}
use mathlib.Core.Option.{Option, none, some}
use mathlib.Core.List.{List, [], ◌∷◌, ◌++◌}
use native.Mathlib.Omega.{arith}
use lib.IntN.{ℤ}
use lib.Dec.{T, eqb}
use lib.ListN.{length, length-append}
use Rattle.spec_tree.specs.Outcome.{Outcome, ok, refused, ◌>>=◌}
use Rattle.spec_tree.specs.Tree.{Name, Tree, Forest, Sym, Const, Op, nil, ◌◂◌, eq_tree}
use Rattle.spec_tree.specs.Kinds.{Mul, arity_ok}
use Rattle.spec_tree.proofs.Formed.{operand_count, well_formed, well_formed_each}
use Rattle.spec_tree.proofs.Logic.{and_left, and_right, and_both}
use Rattle.spec_tree.specs.Facts.{size}
use Rattle.spec_rewrite.specs.Rewrite.{Factors, constant_of, built, build_mul_from_factors, match_factors, each_operand, replace_within, replace}
use Rattle.spec_rewrite.proofs.ReplaceValue.{exact}
use Rattle.spec_rewrite.proofs.Coefficient.{exactly}
use Rattle.spec_rewrite.proofs.Measure.{sum_of, sum_append, sum_each, Measure, Least}
use Rattle.spec_rewrite.proofs.Factors.{factors_of, Puts, puts_sum, rest_all, built_factors, Product, Matched, matched}
use Rattle.spec_rewrite.proofs.Products.{with_sign, spread, spread_up, extra, built_of, factors_bound}

-- A rebuilt product: the target's factors are gone, and the name is in their place. Whatever e measures besides its factors and its coefficient
-- is gone too.
pub rebuilt_of :
    (M : Measure) (target : Tree) (n : Name) (e : Tree) (r : List Tree) (c : ℤ) (besides : ℕ) → spread M (factors_of e) + extra M (exact e) + besides ≤ M.node + M.of e
    → Puts (factors_of target) r (factors_of e) → c ≡ exact e
    → M.of (built c (r ++ (Sym n ∷ []))) + spread M (factors_of target) + besides ≤ M.of e + (M.node + M.of (Sym n))
unfolding sum_of
rebuilt_of M target n e r c besides f h q =
    (let a = puts_sum (with_sign M) h in
    let b = built_of M c (r ++ (Sym n ∷ [])) (let l = length-append r (Sym n ∷ []) in omega arith) in
    let d = sum_append (with_sign M) r (Sym n ∷ []) in
    let x = ap (extra M) q in
    omega arith)

module _ (M : Measure) (target : Tree) (n : Name) (least : Least M n) (some_factor : Product target → 1 ≤ length (factors_of target)) where
  -- what comes out, if anything does, is well-formed and measures at most N
  Shrinks : ℕ → Outcome Tree → Type 0
  Shrinks N (ok t) = (M.of t ≤ N) × T (well_formed t)
  Shrinks N (refused i) = Unit {0}

  ShrinksEach : Forest → Outcome Forest → Type 0
  ShrinksEach f (ok g) = (sum_each M.of g ≤ sum_each M.of f) × T (well_formed_each g) × (operand_count g ≡ operand_count f)
  ShrinksEach f (refused i) = Unit {0}

  rebuilt_step :
      (e : Tree) (p : Factors) → T (well_formed e) → Matched target n e (some p) → (o : Outcome ℤ) → constant_of p.coefficient ≡ o
      → Shrinks (M.of e) (o >>= λ c. ok (built c p.factors))
  unfolding Matched Shrinks
  rebuilt_step e p w (r, q, h, t) (ok c) z =
      subst (λ (l : List Tree). (M.of (built c l) ≤ M.of e) × T (well_formed (built c l))) (sym (ap (λ (p : Factors). p.factors) q))
      (let x = exactly.accepted e c (ap (λ (p : Factors). constant_of p.coefficient) (sym q) ∙ z) in
      let b = rebuilt_of M target n e r c 0 (let f = factors_bound M e w in omega arith) h x in
      let u = spread_up M n least (factors_of target) (some_factor t) in
      (omega arith, (built_factors c (r ++ (Sym n ∷ [])) (rest_all n e w h)).1))
  rebuilt_step e p w g (refused i) q = tt

  rebuilt : (e : Tree) (p : Factors) → T (well_formed e) → Matched target n e (some p) → Shrinks (M.of e) (build_mul_from_factors p)
  unfolding build_mul_from_factors
  rebuilt e p w g = rebuilt_step e p w g (constant_of p.coefficient) refl

  each_step :
      (t : Tree) (f : Forest) (o : Outcome Tree) → Shrinks (M.of t) o → (p : Outcome Forest) → ShrinksEach f p → ShrinksEach (t ◂ f) (o >>= λ u. p >>= λ r. ok (u ◂ r))
  unfolding Shrinks ShrinksEach sum_each well_formed operand_count
  each_step t f (ok u) e (ok r) g = (omega (arith, e.0, g.0), and_both (well_formed u) (well_formed_each r) e.1 g.1, ap suc g.2)
  each_step t f (ok u) e (refused i) g = tt
  each_step t f (refused i) e p g = tt

  each_shrinks :
      (g : Tree → Outcome Tree) → ((t : Tree) → T (well_formed t) → Shrinks (M.of t) (g t)) → (f : Forest) → T (well_formed_each f) → ShrinksEach f (each_operand g f)
  unfolding ShrinksEach each_operand sum_each well_formed operand_count
  each_shrinks g k nil w = (omega arith, tt, refl)
  each_shrinks g k (t ◂ f) w =
      each_step t f (g t) (k t (and_left (well_formed t) (well_formed_each f) w)) (each_operand g f)
      (each_shrinks g k f (and_right (well_formed t) (well_formed_each f) w))

  operation_shrinks : (k : ℕ) (f : Forest) (o : Outcome Forest) → T (well_formed (Op k f)) → ShrinksEach f o → Shrinks (M.of (Op k f)) (o >>= λ g. ok (Op k g))
  unfolding Shrinks ShrinksEach well_formed
  operation_shrinks k f (ok g) w e = (
    omega (arith, e.0, M.at_node k f, M.at_node k g),
    and_both (arity_ok k (operand_count g)) (well_formed_each g)
        (subst (λ (j : ℕ). T (arity_ok k j)) (sym e.2) (and_left (arity_ok k (operand_count f)) (well_formed_each f) w)) e.1,
  )
  operation_shrinks k f (refused i) w e = tt

  less : (N L : ℕ) → N ≤ L → (o : Outcome Tree) → Shrinks N o → Shrinks L o
  unfolding Shrinks
  less N L h (ok t) e = (omega (arith, e.0), e.1)
  less N L h (refused i) e = tt

  then_shrinks : (N : ℕ) (o : Outcome Tree) → Shrinks N o → (g : Tree → Outcome Tree) → ((t : Tree) → T (well_formed t) → Shrinks (M.of t) (g t)) → Shrinks N (o >>= g)
  unfolding Shrinks
  then_shrinks N (ok t) e g k = less (M.of t) N e.0 (g t) (k t e.1)
  then_shrinks N (refused i) e g k = tt

  -- the name, which is least, or what stood there
  leaf_shrinks : (t : Tree) (o : Outcome Tree) (b : Bool) → Shrinks (M.of t) o → Shrinks (M.of t) (elim b [ true ↦ ok (Sym n) | false ↦ o ])
  unfolding Shrinks well_formed
  leaf_shrinks t o true e = (least t, tt)
  leaf_shrinks t o false e = e

  node_shrinks :
      (k : ℕ) (f : Forest) (g : Tree → Outcome Tree) → ((t : Tree) → T (well_formed t) → Shrinks (M.of t) (g t)) → (d : Bool)
      → T (well_formed (Op k f)) → (o : Option Factors) → Matched target n (Op k f) o
      → Shrinks (M.of (Op k f))
      (elim d [
        | true ↦ elim o [
          | none ↦ (each_operand g f >>= λ r. ok (Op k r))
          | some p ↦ (build_mul_from_factors p >>= λ t. g t)
        ]
        | false ↦ (each_operand g f >>= λ r. ok (Op k r))
      ])
  unfolding well_formed
  node_shrinks k f g s true w none a =
      operation_shrinks k f (each_operand g f) w (each_shrinks g s f (and_right (arity_ok k (operand_count f)) (well_formed_each f) w))
  node_shrinks k f g s true w (some p) a = then_shrinks (M.of (Op k f)) (build_mul_from_factors p) (rebuilt (Op k f) p w a) g s
  node_shrinks k f g s false w o a =
      operation_shrinks k f (each_operand g f) w (each_shrinks g s f (and_right (arity_ok k (operand_count f)) (well_formed_each f) w))

  within_shrinks : (fuel : ℕ) (e : Tree) → T (well_formed e) → Shrinks (M.of e) (replace_within fuel target n e)
  unfolding Shrinks replace_within
  within_shrinks zero e w = (omega arith, w)
  within_shrinks (suc fuel) (Sym s) w = leaf_shrinks (Sym s) (ok (Sym s)) (eq_tree (Sym s) target) (omega arith, w)
  within_shrinks (suc fuel) (Const c) w = leaf_shrinks (Const c) (ok (Const c)) (eq_tree (Const c) target) (omega arith, w)
  within_shrinks (suc fuel) (Op k f) w =
      leaf_shrinks (Op k f) _ (eq_tree (Op k f) target)
      (node_shrinks k f (λ t. replace_within fuel target n t) (λ t v. within_shrinks fuel t v) (eqb k Mul) w (match_factors target n (Op k f)) (matched target n (Op k f)))

  -- law (c)
  pub replace_shrinks : (e r : Tree) → T (well_formed e) → replace target n e ≡ ok r → (M.of r ≤ M.of e) × T (well_formed r)
  unfolding Shrinks replace
  replace_shrinks e r w q = subst (Shrinks (M.of e)) q (within_shrinks (2 * size e) e w)
