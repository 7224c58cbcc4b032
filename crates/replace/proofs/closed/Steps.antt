-- What `replace` does at a node, in terms of `replace` itself: the bound on its calls is out of sight. Assumes nothing.
use Rattle.std.proofs.Common.{◌≡◌, ℕ, suc, ◌+◌, ◌*◌, ◌≤◌, Bool, true, false, T, eqb, List, [], ◌∷◌, ◌++◌, length, ℤ, sym, refl, ap, ◌∙◌, subst, ap₂, arith}
use mathlib.Core.Option.{Option, none, some}
use Rattle.spec_tree.specs.Outcome.{Outcome, ok, refused, ◌>>=◌}
use Rattle.spec_tree.specs.Tree.{Name, Tree, Forest, Sym, Op, nil, ◌◂◌, eq_tree}
use Rattle.spec_tree.specs.Kinds.{Mul, arity_ok}
use Rattle.spec_tree.specs.Facts.{size, count}
use Rattle.spec_tree.proofs.Formed.{operand_count, well_formed, well_formed_each}
use Rattle.spec_tree.proofs.Logic.{and_left, and_right}
use Rattle.spec_rewrite.specs.Rewrite.{Factors, constant_of, built, build_mul_from_factors, match_factors, each_operand, replace_within, replace}
use Rattle.spec_rewrite.proofs.Measure.{sizes, sum_each, size_op, by_size, least_size}
use Rattle.spec_rewrite.proofs.Factors.{factors_of, built_factors, rest_all, Product, Matched, matched}
use Rattle.spec_rewrite.proofs.Coefficient.{exactly}
use Rattle.spec_rewrite.proofs.Products.{factors_bound, spread_up}
use Rattle.spec_rewrite.proofs.Shrinks.{rebuilt_of}
use Rattle.spec_rewrite.proofs.ReplaceFuel.{replace_enough}

module _ (target : Tree) (n : Name) where
  -- what stands at an operation, where g rewrites what is below and what is rebuilt
  abbrev pub at_operation : (Tree → Outcome Tree) → ℕ → Forest → Bool → Bool → Option Factors → Outcome Tree
  at_operation g k f b d o =
      elim b [
        | true ↦ ok (Sym n)
        | false ↦ elim d [
          | true ↦ elim o [
            | none ↦ (each_operand g f >>= λ h. ok (Op k h))
            | some p ↦ (build_mul_from_factors p >>= λ t. g t)
          ]
          | false ↦ (each_operand g f >>= λ h. ok (Op k h))
        ]
      ]

  module _ (several : Product target → 2 + count (Sym n) (factors_of target) ≤ 2 * length (factors_of target)) where
    -- a product rebuilt is no larger
    Smaller : Tree → Option Factors → Type 0
    Smaller e none = Unit {0}
    Smaller e (some p) = (c : ℤ) → constant_of p.coefficient ≡ ok c → (size (built c p.factors) ≤ size e) × T (well_formed (built c p.factors))

    smaller_step : (e : Tree) → T (well_formed e) → (o : Option Factors) → Matched target n e o → Smaller e o
    unfolding Smaller Matched
    smaller_step e w none m = tt
    smaller_step e w (some p) (r, q, h, t) = λ c z.
        subst (λ (l : List Tree). (size (built c l) ≤ size e) × T (well_formed (built c l))) (sym (ap (λ (p : Factors). p.factors) q))
        (let x = exactly.accepted e c (ap (λ (p : Factors). constant_of p.coefficient) (sym q) ∙ z) in
        let b = rebuilt_of by_size target n e r c 0 (let f = factors_bound by_size e w in omega arith) h x in
        let u = spread_up by_size n (least_size n) (factors_of target) (let v = several t in omega arith) in
        (omega arith, (built_factors c (r ++ (Sym n ∷ [])) (rest_all n e w h)).1))

    smaller : (e : Tree) → T (well_formed e) → Smaller e (match_factors target n e)
    smaller e w = smaller_step e w (match_factors target n e) (matched target n e)

    -- two ways that agree on whatever is no larger than the node
    module _ (most : ℕ) (s u : Tree → Outcome Tree) (same : (t : Tree) → size t ≤ most → T (well_formed t) → s t ≡ u t) where
      operands_same : (f : Forest) → sizes f ≤ most → T (well_formed_each f) → each_operand s f ≡ each_operand u f
      unfolding each_operand sum_each well_formed
      operands_same nil h w = refl
      operands_same (t ◂ f) h w =
          ap₂ (λ (a : Outcome Tree) (b : Outcome Forest). a >>= λ x. b >>= λ r. ok (x ◂ r)) (same t (omega arith) (and_left (well_formed t) (well_formed_each f) w))
          (operands_same f (omega arith) (and_right (well_formed t) (well_formed_each f) w))

      below_same : (k : ℕ) (f : Forest) → size (Op k f) ≤ most → T (well_formed (Op k f)) → (each_operand s f >>= λ r. ok (Op k r)) ≡ (each_operand u f >>= λ r. ok (Op k r))
      unfolding well_formed
      below_same k f h w =
          ap (λ (o : Outcome Forest). o >>= λ r. ok (Op k r))
          (operands_same f (let q = size_op k f in omega arith) (and_right (arity_ok k (operand_count f)) (well_formed_each f) w))

      rebuilt_same : (e : Tree) → size e ≤ most → (p : Factors) → Smaller e (some p) → (build_mul_from_factors p >>= λ t. s t) ≡ (build_mul_from_factors p >>= λ t. u t)
      unfolding build_mul_from_factors Smaller
      rebuilt_same e h p l = go (constant_of p.coefficient) refl
        where
          go : (o : Outcome ℤ) → constant_of p.coefficient ≡ o
              → ◌≡◌ {A = Outcome Tree} ((o >>= λ c. ok (built c p.factors)) >>= λ t. s t) ((o >>= λ c. ok (built c p.factors)) >>= λ t. u t)
          go (ok c) z = (let q = l c z in same (built c p.factors) (let a = q.0 in omega arith) q.1)
          go (refused i) z = refl

      node_same :
          (k : ℕ) (f : Forest) → size (Op k f) ≤ most → T (well_formed (Op k f)) → (b d : Bool) (o : Option Factors) → Smaller (Op k f) o
          → at_operation s k f b d o ≡ at_operation u k f b d o
      node_same k f h w true d o l = refl
      node_same k f h w false true none l = below_same k f h w
      node_same k f h w false true (some p) l = rebuilt_same (Op k f) h p l
      node_same k f h w false false o l = below_same k f h w

    pub at_op :
        (k : ℕ) (f : Forest) → T (well_formed (Op k f))
        → replace target n (Op k f) ≡ at_operation (replace target n) k f (eq_tree (Op k f) target) (eqb k Mul) (match_factors target n (Op k f))
    at_op k f w =
        sym (replace_enough target n several (suc (2 * size (Op k f))) (Op k f) (omega arith) w)
        ∙ opened
        ∙ node_same (size (Op k f)) (λ t. replace_within (2 * size (Op k f)) target n t) (replace target n)
        (λ t h v. replace_enough target n several (2 * size (Op k f)) t (omega arith) v) k f (omega arith) w (eq_tree (Op k f) target) (eqb k Mul)
        (match_factors target n (Op k f)) (smaller (Op k f) w)
      where
        opened : replace_within (suc (2 * size (Op k f))) target n (Op k f)
            ≡ at_operation (λ t. replace_within (2 * size (Op k f)) target n t) k f (eq_tree (Op k f) target) (eqb k Mul) (match_factors target n (Op k f))
        opened = within_op (2 * size (Op k f)) k f
          where
            within_op : (m k : ℕ) (f : Forest)
                → replace_within (suc m) target n (Op k f) ≡ at_operation (λ t. replace_within m target n t) k f (eq_tree (Op k f) target) (eqb k Mul) (match_factors target n (Op k f))
            within_op m k f = (unfold replace_within in refl)
