-- `replace` has fuel enough: any more gives the same, so that its end decides nothing. A target that is sought by its factors must have one, and not the name
-- alone: taking such factors out and putting the name in would go on for ever. Assumes nothing.
use Prim.Native.Nat.{ℕ, zero, suc, ◌+◌, ◌-◌, ◌*◌, ◌≤◌}
use mathlib.Core.Path.{◌≡◌, refl, sym, ◌∙◌, ap, ap₂, subst}
use mathlib.Core.Bool.{Bool, true, false}
use mathlib.Core.Option.{Option, none, some}
use mathlib.Core.List.{List, [], ◌∷◌, ◌++◌}
use native.Mathlib.Omega.{arith}
use native.Mathlib.Nat.{zero-add, suc-add}
use lib.IntN.{ℤ}
use lib.Dec.{T, eqb}
use lib.ListN.{length}
use Rattle.spec_tree.specs.Outcome.{Outcome, ok, refused, ◌>>=◌}
use Rattle.spec_tree.specs.Tree.{Name, Tree, Forest, Sym, Const, Op, nil, ◌◂◌, eq_tree}
use Rattle.spec_tree.specs.Kinds.{Mul, arity_ok}
use Rattle.spec_tree.specs.Facts.{size, count}
use Rattle.spec_tree.proofs.Formed.{operand_count, well_formed, well_formed_each}
use Rattle.spec_tree.proofs.Logic.{and_left, and_right}
use Rattle.spec_rewrite.specs.Rewrite.{Factors, constant_of, built, build_mul_from_factors, match_factors, each_operand, replace_within, replace}
use Rattle.spec_rewrite.proofs.Factors.{factors_of, built_factors, rest_all, Product, Matched, matched}
use Rattle.spec_rewrite.proofs.Coefficient.{exactly}
use Rattle.spec_rewrite.proofs.Weight.{weight, weights, weight_up, twice_size, falls}

module _ (target : Tree) (n : Name) (several : Product target → 2 + count (Sym n) (factors_of target) ≤ 2 * length (factors_of target)) where
  -- a product rebuilt weighs less
  Lighter : Tree → Option Factors → Type 0
  Lighter e none = Unit {0}
  Lighter e (some p) = (c : ℤ) → constant_of p.coefficient ≡ ok c → (suc (weight n (built c p.factors)) ≤ weight n e) × T (well_formed (built c p.factors))

  lighter_step : (e : Tree) → T (well_formed e) → (o : Option Factors) → Matched target n e o → Lighter e o
  unfolding Lighter Matched
  lighter_step e w none m = tt
  lighter_step e w (some p) (r, q, h, t) = λ c z.
      subst (λ (l : List Tree). (suc (weight n (built c l)) ≤ weight n e) × T (well_formed (built c l))) (sym (ap (λ (p : Factors). p.factors) q))
      (let x = exactly.accepted e c (ap (λ (p : Factors). constant_of p.coefficient) (sym q) ∙ z) in
      (falls n target (several t) e r c w h x, (built_factors c (r ++ (Sym n ∷ [])) (rest_all n e w h)).1))

  lighter : (e : Tree) → T (well_formed e) → Lighter e (match_factors target n e)
  lighter e w = lighter_step e w (match_factors target n e) (matched target n e)

  -- two ways that agree on whatever weighs less than the node
  module _ (fuel : ℕ) (s u : Tree → Outcome Tree) (same : (t : Tree) → weight n t ≤ fuel → T (well_formed t) → s t ≡ u t) where
    operands_same : (f : Forest) → weights n f ≤ fuel → T (well_formed_each f) → each_operand s f ≡ each_operand u f
    unfolding each_operand weight well_formed
    operands_same nil h w = refl
    operands_same (t ◂ f) h w =
        ap₂ (λ (a : Outcome Tree) (b : Outcome Forest). a >>= λ x. b >>= λ r. ok (x ◂ r)) (same t (omega arith) (and_left (well_formed t) (well_formed_each f) w))
        (operands_same f (omega arith) (and_right (well_formed t) (well_formed_each f) w))

    below_same : (k : ℕ) (f : Forest) → weight n (Op k f) ≤ suc fuel → T (well_formed (Op k f)) → (each_operand s f >>= λ r. ok (Op k r)) ≡ (each_operand u f >>= λ r. ok (Op k r))
    unfolding weight well_formed
    below_same k f h w = ap (λ (o : Outcome Forest). o >>= λ r. ok (Op k r)) (operands_same f (omega arith) (and_right (arity_ok k (operand_count f)) (well_formed_each f) w))

    rebuilt_same : (e : Tree) → weight n e ≤ suc fuel → (p : Factors) → Lighter e (some p) → (build_mul_from_factors p >>= λ t. s t) ≡ (build_mul_from_factors p >>= λ t. u t)
    unfolding build_mul_from_factors Lighter
    rebuilt_same e h p l = go (constant_of p.coefficient) refl
      where
        go : (o : Outcome ℤ) → constant_of p.coefficient ≡ o
            → ◌≡◌ {A = Outcome Tree} ((o >>= λ c. ok (built c p.factors)) >>= λ t. s t) ((o >>= λ c. ok (built c p.factors)) >>= λ t. u t)
        go (ok c) z = (let q = l c z in same (built c p.factors) (let a = q.0 in omega arith) q.1)
        go (refused i) z = refl

    node_same :
        (k : ℕ) (f : Forest) → weight n (Op k f) ≤ suc fuel → T (well_formed (Op k f)) → (b d : Bool) (o : Option Factors) → Lighter (Op k f) o
        → ◌≡◌ {A = Outcome Tree}
        (elim b [
          | true ↦ ok (Sym n)
          | false ↦ elim d [
            | true ↦ elim o [
              | none ↦ (each_operand s f >>= λ r. ok (Op k r))
              | some p ↦ (build_mul_from_factors p >>= λ t. s t)
            ]
            | false ↦ (each_operand s f >>= λ r. ok (Op k r))
          ]
        ])
        (elim b [
          | true ↦ ok (Sym n)
          | false ↦ elim d [
            | true ↦ elim o [
              | none ↦ (each_operand u f >>= λ r. ok (Op k r))
              | some p ↦ (build_mul_from_factors p >>= λ t. u t)
            ]
            | false ↦ (each_operand u f >>= λ r. ok (Op k r))
          ]
        ])
    node_same k f h w true d o l = refl
    node_same k f h w false true none l = below_same k f h w
    node_same k f h w false true (some p) l = rebuilt_same (Op k f) h p l
    node_same k f h w false false o l = below_same k f h w

  one_more : (fuel : ℕ) (e : Tree) → weight n e ≤ fuel → T (well_formed e) → replace_within (suc fuel) target n e ≡ replace_within fuel target n e
  unfolding replace_within
  one_more zero e h w = (let q = weight_up n e in absurd (omega arith))
  one_more (suc fuel) (Sym s) h w = refl
  one_more (suc fuel) (Const c) h w = refl
  one_more (suc fuel) (Op k f) h w =
      node_same fuel (λ t. replace_within (suc fuel) target n t) (λ t. replace_within fuel target n t) (λ t a b. one_more fuel t a b) k f h w (eq_tree (Op k f) target) (eqb k Mul)
      (match_factors target n (Op k f)) (lighter (Op k f) w)

  some_more : (more : ℕ) (e : Tree) → T (well_formed e) → replace_within (more + 2 * size e) target n e ≡ replace target n e
  unfolding replace
  some_more zero e w = rw (zero-add (2 * size e)) refl
  some_more (suc more) e w =
      rw (suc-add more (2 * size e)) (one_more (more + 2 * size e) e (let h = twice_size n e in omega arith) w ∙ some_more more e w)

  -- any fuel from twice the size on
  pub replace_enough : (fuel : ℕ) (e : Tree) → 2 * size e ≤ fuel → T (well_formed e) → replace_within fuel target n e ≡ replace target n e
  replace_enough fuel e h w =
      let q : (fuel - 2 * size e) + 2 * size e ≡ fuel = omega arith in
      subst (λ (m : ℕ). replace_within m target n e ≡ replace target n e) q (some_more (fuel - 2 * size e) e w)
