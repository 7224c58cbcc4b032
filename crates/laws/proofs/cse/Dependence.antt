-- Which expressions depend on a symbol: what rewriting of divisors does to it, and what statements do. Assumes nothing.
use Prim.Native.Nat.{ℕ, ◌≤◌}
use mathlib.Core.Path.{◌≡◌, refl, sym, ap, subst}
use mathlib.Core.Logic.{inl, inr}
use mathlib.Core.Bool.{Bool, true, false, ◌&&◌, ◌||◌, cond}
use mathlib.Core.List.{List, [], ◌∷◌}
use native.Mathlib.Omega.{arith}
use lib.IntN.{ℤ}
use lib.Dec.{T, eqb}
use Rattle.spec_tree.specs.Tree.{Name, Tree, Forest, Sym, Const, Op, nil, ◌◂◌, folds, eq_name}
use Rattle.spec_tree.specs.Kinds.{Mul, Div}
use Rattle.spec_tree.proofs.TreeLaws.{eq_tree_sound, eq_name_sound}
use Rattle.spec_tree.specs.Facts.{nodes, nodes_of, count, has_symbol, some_of}
use Rattle.spec_rewrite.specs.Rewrite.{divides_by, replace_divisor, replace_divisors, dividend}
use Rattle.spec_cse.specs.Answer.{Intermediate, Let, Match, block}
use Rattle.spec_tree.proofs.Logic.{and_left, and_right, or_left, or_right, or_cases}
use Rattle.spec_rewrite.proofs.Measure.{one_of}
use Rattle.spec_rewrite.proofs.Names.{holds, holds_each}
use Rattle.spec_cse.specs.Demand.{depends, dependent}
use Rattle.spec_rewrite.proofs.Counts.{count_sym, count_const, count_op, count_none, count_operands, one_equal, either}
use Rattle.laws.proofs.cse.SortCount.{Every}
use Rattle.spec_rewrite.proofs.DivisorCount.{restore, restores}

-- some operand depends
unfoldable pub some_depends : (Name → Bool) → Forest → Bool
unfolding some_of
some_depends σ nil = false
some_depends σ (t ◂ f) = depends σ t || some_depends σ f

pub depends_op : (σ : Name → Bool) (k : ℕ) (f : Forest) → depends σ (Op k f) ≡ some_depends σ f
unfolding depends some_depends
depends_op σ k f = same f
  where
    same : (f : Forest) → some_of (folds σ (λ c. false) (λ k l. some_of l) f) ≡ some_depends σ f
    same nil = refl
    same (t ◂ f) = ap (λ (b : Bool). depends σ t || b) (same f)

depends_in : (σ : Name → Bool) (k : ℕ) (f : Forest) → T (some_depends σ f) → T (depends σ (Op k f))
depends_in σ k f t = subst T (sym (depends_op σ k f)) t

depends_out : (σ : Name → Bool) (k : ℕ) (f : Forest) → T (depends σ (Op k f)) → T (some_depends σ f)
depends_out σ k f t = subst T (depends_op σ k f) t

sym_in : (σ : Name → Bool) (n : Name) → T (σ n) → T (depends σ (Sym n))
unfolding depends
sym_in σ n t = t

sym_out : (σ : Name → Bool) (n : Name) → T (depends σ (Sym n)) → T (σ n)
unfolding depends
sym_out σ n t = t

const_out : (σ : Name → Bool) (c : ℤ) → T (depends σ (Const c)) → ⊥
unfolding depends
const_out σ c t = t

-- ---- more symbols, and all symbols

-- a test of symbols implied by another, on the symbols that a tree holds
module _ (σ τ p : Name → Bool) (more : (n : Name) → T (p n) → T (σ n) → T (τ n)) where
  mutual
    unfolding holds some_depends

    pub depends_more : (e : Tree) → T (holds p e) → T (depends σ e) → T (depends τ e)
    depends_more (Sym n) h t = sym_in τ n (more n h (sym_out σ n t))
    depends_more (Const c) h t = absurd (const_out σ c t)
    depends_more (Op k f) h t = depends_in τ k f (depends_more_each f h (depends_out σ k f t))

    depends_more_each : (f : Forest) → T (holds_each p f) → T (some_depends σ f) → T (some_depends τ f)
    depends_more_each nil h t = t
    depends_more_each (e ◂ f) h t =
        elim (or_cases (depends σ e) (some_depends σ f) t) [
          | inl a ↦ or_left (depends τ e) (some_depends τ f) (depends_more e (and_left (holds p e) (holds_each p f) h) a)
          | inr b ↦ or_right (depends τ e) (some_depends τ f) (depends_more_each f (and_right (holds p e) (holds_each p f) h) b)
        ]

module _ (σ τ : Name → Bool) (more : (n : Name) → T (σ n) → T (τ n)) where
  mutual
    unfolding some_depends

    pub depends_up : (e : Tree) → T (depends σ e) → T (depends τ e)
    depends_up (Sym n) t = sym_in τ n (more n (sym_out σ n t))
    depends_up (Const c) t = absurd (const_out σ c t)
    depends_up (Op k f) t = depends_in τ k f (depends_up_each f (depends_out σ k f t))

    depends_up_each : (f : Forest) → T (some_depends σ f) → T (some_depends τ f)
    depends_up_each nil t = t
    depends_up_each (e ◂ f) t =
        elim (or_cases (depends σ e) (some_depends σ f) t) [
          | inl a ↦ or_left (depends τ e) (some_depends τ f) (depends_up e a)
          | inr b ↦ or_right (depends τ e) (some_depends τ f) (depends_up_each f b)
        ]

-- what depends on a symbol has one
pub depends_symbol : (σ : Name → Bool) (e : Tree) → T (depends σ e) → T (has_symbol e)
unfolding depends has_symbol
depends_symbol σ e t = (unfold depends in depends_up σ (λ n. true) (λ n t. tt) e t)

-- a tree with a symbol depends, where its symbols do
pub symbol_depends : (σ : Name → Bool) (e : Tree) → T (holds σ e) → T (has_symbol e) → T (depends σ e)
unfolding depends has_symbol
symbol_depends σ e h t = (unfold depends in depends_more (λ n. true) σ σ (λ n h t. h) e h t)

-- ---- a node that depends stands only in a tree that does

module _ (σ : Name → Bool) (x : Tree) (t : T (depends σ x)) where
  mutual
    unfolding some_depends

    pub part_depends : (e : Tree) → 1 ≤ count x (nodes e) → T (depends σ e)
    part_depends (Sym s) h = subst (λ (y : Tree). T (depends σ y)) (sym (one_equal (Sym s) x (let c = count_sym x s in omega arith))) t
    part_depends (Const a) h = subst (λ (y : Tree). T (depends σ y)) (sym (one_equal (Const a) x (let c = count_const x a in omega arith))) t
    part_depends (Op k f) h =
        elim (either (one_of (Op k f) x) (count x (nodes_of f)) (let c = count_op x k f in omega arith)) [
          | inl e ↦ subst (λ (y : Tree). T (depends σ y)) (sym (one_equal (Op k f) x e)) t
          | inr c ↦ depends_in σ k f (part_depends_each f c)
        ]

    part_depends_each : (f : Forest) → 1 ≤ count x (nodes_of f) → T (some_depends σ f)
    part_depends_each nil h = (let z = count_none x in absurd (omega arith))
    part_depends_each (e ◂ f) h =
        elim (either (count x (nodes e)) (count x (nodes_of f)) (let q = count_operands x e f in omega arith)) [
          | inl a ↦ or_left (depends σ e) (some_depends σ f) (part_depends e a)
          | inr b ↦ or_right (depends σ e) (some_depends σ f) (part_depends_each f b)
        ]

-- ---- a name for 1 / d, which depends where d does

module _ (σ : Name → Bool) (d : Tree) (n : Name) (only : T (σ n) → T (depends σ d)) where
  restore_sym : (s : Name) (b : Bool) → (T b → s ≡ n) → T (σ s) → T (depends σ (elim b [ true ↦ d | false ↦ Sym s ]))
  restore_sym s true e t = only (subst (λ (m : Name). T (σ m)) (e tt) t)
  restore_sym s false e t = sym_in σ s t

  mutual
    unfolding restore some_depends

    -- the name put back
    pub restore_depends : (e : Tree) → T (depends σ e) → T (depends σ (restore d n e))
    restore_depends (Sym s) t = restore_sym s (eq_name s n) (eq_name_sound s n) (sym_out σ s t)
    restore_depends (Const c) t = t
    restore_depends (Op k f) t = depends_in σ _ (restores d n f) (restores_depend f (depends_out σ k f t))

    restores_depend : (f : Forest) → T (some_depends σ f) → T (some_depends σ (restores d n f))
    restores_depend nil t = t
    restores_depend (e ◂ f) t =
        elim (or_cases (depends σ e) (some_depends σ f) t) [
          | inl a ↦ or_left (depends σ (restore d n e)) (some_depends σ (restores d n f)) (restore_depends e a)
          | inr b ↦ or_right (depends σ (restore d n e)) (some_depends σ (restores d n f)) (restores_depend f b)
        ]

  divided_step :
      (k : ℕ) (f : Forest) (b : Bool) → (T b → T (divides_by d f)) → (T (divides_by d f) → T (some_depends σ (dividend d n f)) → T (some_depends σ f))
      → (T (some_depends σ (replace_divisors d n f)) → T (some_depends σ f))
      → T (depends σ (elim b [ true ↦ Op Mul (dividend d n f) | false ↦ Op k (replace_divisors d n f) ])) → T (depends σ (Op k f))
  divided_step k f true c g h t = depends_in σ k f (g (c tt) (depends_out σ Mul (dividend d n f) t))
  divided_step k f false c g h t = depends_in σ k f (h (depends_out σ k (replace_divisors d n f) t))

  -- the dividend or the name
  quotient_step :
      (a u : Tree) (f : Forest) → T (divides_by d (a ◂ f)) → (T (depends σ u) → T (depends σ a)) → T (some_depends σ (u ◂ Sym n ◂ nil)) → T (some_depends σ (a ◂ f))
  unfolding divides_by some_depends
  quotient_step a u nil c g t = absurd c
  quotient_step a u (b ◂ f) c g t =
      elim (or_cases (depends σ u) (depends σ (Sym n) || false) t) [
        | inl x ↦ or_left (depends σ a) (depends σ b || some_depends σ f) (g x)
        | inr y ↦ elim (or_cases (depends σ (Sym n)) false y) [
          | inl z ↦ or_right (depends σ a) (depends σ b || some_depends σ f)
              (or_left (depends σ b) (some_depends σ f) (subst (λ (e : Tree). T (depends σ e)) (sym (eq_tree_sound b d c)) (only (sym_out σ n z))))
          | inr z ↦ absurd z
        ]
      ]

  mutual
    unfolding replace_divisor some_depends

    pub divided_depends : (e : Tree) → T (depends σ (replace_divisor d n e)) → T (depends σ e)
    divided_depends (Sym s) t = t
    divided_depends (Const c) t = t
    divided_depends (Op k f) t =
        divided_step k f (eqb k Div && divides_by d f) (and_right (eqb k Div) (divides_by d f)) (λ c u. dividend_depends f c u) (λ u. divisors_depend f u) t

    divisors_depend : (f : Forest) → T (some_depends σ (replace_divisors d n f)) → T (some_depends σ f)
    divisors_depend nil t = t
    divisors_depend (e ◂ f) t =
        elim (or_cases (depends σ (replace_divisor d n e)) (some_depends σ (replace_divisors d n f)) t) [
          | inl a ↦ or_left (depends σ e) (some_depends σ f) (divided_depends e a)
          | inr b ↦ or_right (depends σ e) (some_depends σ f) (divisors_depend f b)
        ]

    dividend_depends : (f : Forest) → T (divides_by d f) → T (some_depends σ (dividend d n f)) → T (some_depends σ f)
    dividend_depends nil c t = absurd c
    dividend_depends (e ◂ f) c t = quotient_step e (replace_divisor d n e) f c (λ u. divided_depends e u) t

-- ---- statements

-- a name depends where its expression does
abbrev pub Closed : (Name → Bool) → Intermediate → Type 0
Closed σ (Let n e) = T (depends σ e) → T (σ n)
Closed σ (Match k key ns arms) = Unit {0}

-- what depends after the statements does by any test under which they are closed
pub dependent_within :
    (σ : Name → Bool) (l : List Intermediate) → Every (Closed σ) l → (δ : Name → Bool) → ((n : Name) → T (δ n) → T (σ n)) → (n : Name) → T (dependent (block l) δ n) → T (σ n)
unfolding dependent block
dependent_within σ [] h δ f n t = f n t
dependent_within σ (Let m e ∷ l) h δ f n t =
    dependent_within σ l h.1 (λ s. cond (eq_name s m) (depends δ e) (δ s)) (λ s u. go s (eq_name s m) (eq_name_sound s m) u) n t
  where
    go : (s : Name) (b : Bool) → (T b → s ≡ m) → T (cond b (depends δ e) (δ s)) → T (σ s)
    go s true q u = subst (λ (x : Name). T (σ x)) (sym (q tt)) (h.0 (depends_up δ σ f e u))
    go s false q u = f s u
dependent_within σ (Match k key ns arms ∷ l) h δ f n t = dependent_within σ l h.1 δ f n t
