-- What an extraction saves, by any measure, where the target is no product with coefficient 1, so that `replace` meets it only as a whole node.
-- Assumes nothing.
use Prim.Native.Nat.{ℕ, zero, suc, ◌+◌, ◌*◌, ◌≤◌}
use mathlib.Core.Path.{◌≡◌, refl, sym, ◌∙◌, ap, subst}
use mathlib.Core.Bool.{Bool, true, false, ◌&&◌}
use mathlib.Core.Option.{Option, none, some}
use mathlib.Core.List.{[], ◌∷◌, ◌++◌}
use native.Mathlib.Omega.{arith}
use native.Mathlib.Nat.{mul-add, mul-zero, mul-one}
use lib.Dec.{T, eqb}
use lib.Ieee as Ieee
use Rattle.spec_tree.specs.Outcome.{Outcome, ok, refused, ◌>>=◌}
use Rattle.spec_tree.specs.Tree.{Name, Tree, Forest, Sym, Const, Op, nil, ◌◂◌, eq_tree}
use Rattle.spec_tree.specs.Kinds.{Mul}
use Rattle.spec_tree.proofs.TreeLaws.{eq_tree_sound}
use Rattle.spec_tree.specs.Facts.{size, nodes, nodes_of, count}
use Rattle.spec_rewrite.specs.Rewrite.{Factors, one, flatten_mul_factors, remove_each, is_mul, match_factors, build_mul_from_factors, each_operand, replace_within, replace}
use Rattle.spec_rewrite.proofs.Measure.{sum_each, Measure, sizes, size_op, size_up, one_of}
use Rattle.spec_rewrite.proofs.Counts.{one_cases, count_sym, count_const, count_op, count_none, count_operands, whole_count}

module _
    (M : Measure) (target : Tree) (n : Name) (saved : ℕ) (whole : saved + M.of (Sym n) ≡ M.of target)
    (plain : (is_mul target && Ieee.eq (flatten_mul_factors target).coefficient one) ≡ false) where
  unmatched : (e : Tree) → match_factors target n e ≡ none
  unfolding match_factors
  unmatched e =
      ap
      (λ (b : Bool). elim b as (λ _. Option Factors) [
        | true ↦ elim (remove_each (flatten_mul_factors target).factors (flatten_mul_factors e).factors) [
          | none ↦ none
          | some r ↦ some (record { coefficient = (flatten_mul_factors e).coefficient; factors = r ++ (Sym n ∷ []) })
        ]
        | false ↦ none
      ])
      plain

  Saves : Tree → Outcome Tree → Type 0
  Saves e (ok r) = M.of r + saved * count target (nodes e) ≤ M.of e
  Saves e (refused i) = Unit {0}

  SavesEach : Forest → Outcome Forest → Type 0
  SavesEach f (ok h) = sum_each M.of h + saved * count target (nodes_of f) ≤ sum_each M.of f
  SavesEach f (refused i) = Unit {0}

  each_step : (t : Tree) (f : Forest) (o : Outcome Tree) → Saves t o → (q : Outcome Forest) → SavesEach f q → SavesEach (t ◂ f) (o >>= λ u. q >>= λ h. ok (u ◂ h))
  unfolding Saves SavesEach sum_each
  each_step t f (ok u) a (ok h) b =
      (let c = ap (λ (m : ℕ). saved * m) (count_operands target t f) ∙ mul-add saved (count target (nodes t)) (count target (nodes_of f)) in omega arith)
  each_step t f (ok u) a (refused i) b = tt
  each_step t f (refused i) a q b = tt

  each_saves : (fuel : ℕ) (s : Tree → Outcome Tree) → ((t : Tree) → size t ≤ fuel → Saves t (s t)) → (f : Forest) → sizes f ≤ fuel → SavesEach f (each_operand s f)
  unfolding SavesEach each_operand sum_each
  each_saves fuel s ih nil l = (let c = ap (λ (m : ℕ). saved * m) (count_none target) ∙ mul-zero saved in omega arith)
  each_saves fuel s ih (t ◂ f) l = each_step t f (s t) (ih t (omega arith)) (each_operand s f) (each_saves fuel s ih f (omega arith))

  operation_saves :
      (k : ℕ) (f : Forest) → count target (nodes (Op k f)) ≡ count target (nodes_of f) → (o : Outcome Forest) → SavesEach f o → Saves (Op k f) (o >>= λ h. ok (Op k h))
  unfolding Saves SavesEach
  operation_saves k f e (ok h) a = (let c = ap (λ (m : ℕ). saved * m) e in let x = M.at_node k h in let y = M.at_node k f in omega arith)
  operation_saves k f e (refused i) a = tt

  -- the target itself, or what else stands there
  node : (e : Tree) (o : Outcome Tree) (b : Bool) → eq_tree e target ≡ b → (one_of e target ≡ 0 → Saves e o) → Saves e (elim b [ true ↦ ok (Sym n) | false ↦ o ])
  unfolding Saves
  node e o true q h =
      (let z = eq_tree_sound e target (subst T (sym q) tt) in
      let c = ap (λ (t : Tree). saved * count target (nodes t)) z ∙ ap (λ (m : ℕ). saved * m) (whole_count target) ∙ mul-one saved in
      let y = ap (λ (t : Tree). M.of t) z in
      omega arith)
  node e o false q h = h (one_cases e target false q)

  leaf : (e : Tree) → count target (nodes e) ≡ one_of e target → one_of e target ≡ 0 → Saves e (ok e)
  unfolding Saves
  leaf e c z = (let y = ap (λ (m : ℕ). saved * m) (c ∙ z) ∙ mul-zero saved in omega arith)

  other :
      (k : ℕ) (f : Forest) (s : Tree → Outcome Tree) → SavesEach f (each_operand s f) → (d : Bool) → one_of (Op k f) target ≡ 0
      → Saves (Op k f)
      (elim d [
        | true ↦ elim (match_factors target n (Op k f)) [
          | none ↦ (each_operand s f >>= λ r. ok (Op k r))
          | some p ↦ (build_mul_from_factors p >>= λ t. s t)
        ]
        | false ↦ (each_operand s f >>= λ r. ok (Op k r))
      ])
  other k f s a true z =
      subst
      (λ (p : Option Factors). Saves (Op k f)
      (elim p as (λ _. Outcome Tree) [ none ↦ (each_operand s f >>= λ r. ok (Op k r)) | some p ↦ (build_mul_from_factors p >>= λ t. s t) ]))
      (sym (unmatched (Op k f))) (operation_saves k f (let c = count_op target k f in omega arith) (each_operand s f) a)
  other k f s a false z = operation_saves k f (let c = count_op target k f in omega arith) (each_operand s f) a

  within_saves : (fuel : ℕ) (e : Tree) → size e ≤ fuel → Saves e (replace_within fuel target n e)
  unfolding replace_within
  within_saves zero e l = (let u = size_up e in absurd (omega arith))
  within_saves (suc fuel) (Sym s) l = node (Sym s) (ok (Sym s)) (eq_tree (Sym s) target) refl (leaf (Sym s) (count_sym target s))
  within_saves (suc fuel) (Const c) l = node (Const c) (ok (Const c)) (eq_tree (Const c) target) refl (leaf (Const c) (count_const target c))
  within_saves (suc fuel) (Op k f) l =
      node (Op k f) _ (eq_tree (Op k f) target) refl
      (other k f (λ t. replace_within fuel target n t)
      (each_saves fuel (λ t. replace_within fuel target n t) (λ t m. within_saves fuel t m) f (let q = size_op k f in omega arith)) (eqb k Mul))

  -- each node equal to the target saves what the target measures above the name
  pub replace_saves : (e r : Tree) → replace target n e ≡ ok r → M.of r + saved * count target (nodes e) ≤ M.of e
  unfolding replace Saves
  replace_saves e r q = subst (Saves e) q (within_saves (2 * size e) e (omega arith))
