-- How often an expression stands: over lists, and inside a tree. Equal trees do not overlap, so that what each measures adds up. Assumes nothing.
use Prim.Native.Nat.{ℕ, zero, suc, ◌+◌, ◌*◌, ◌≤◌, ◌<◌}
use mathlib.Core.Path.{◌≡◌, refl, sym, ◌∙◌, ap, subst}
use mathlib.Core.Bool.{Bool, true, false, ◌&&◌}
use mathlib.Core.Logic.{◌⊎◌, inl, inr}
use mathlib.Core.List.{List, [], ◌∷◌, ◌++◌}
use native.Mathlib.Omega.{arith}
use native.Mathlib.Nat.{zero-add, mul-add, mul-zero, mul-one, mul-suc}
use lib.IntN.{ℤ}
use lib.Dec.{T}
use Rattle.spec_tree.specs.Tree.{Name, Tree, Forest, Sym, Const, Op, nil, ◌◂◌, eq_tree}
use Rattle.spec_tree.specs.Kinds.{arity_ok}
use Rattle.spec_tree.proofs.Formed.{well_formed, well_formed_each, operand_count}
use Rattle.spec_tree.proofs.TreeLaws.{eq_tree_sound}
use Rattle.spec_tree.specs.Facts.{all_operations, size, operations, nodes, nodes_of, all_nodes, count}
use Rattle.spec_tree.proofs.Logic.{and_left, and_right, and_both}
use Rattle.spec_rewrite.proofs.Measure.{sum_of, sum_each, sizes, size_op, operations_sum, Measure, by_operations, one_of, one_self, count_cons}
use Rattle.spec_rewrite.proofs.Names.{holds, holds_each, holds_all}

-- ---- lists

pub count_append : (x : Tree) (s t : List Tree) → count x (s ++ t) ≡ count x s + count x t
unfolding count
count_append x [] t = sym (zero-add (count x t))
count_append x (y ∷ s) t = (let a = count_cons x y (s ++ t) in let b = count_cons x y s in let c = count_append x s t in omega arith)

pub count_nil : (x : Tree) → count x [] ≡ 0
unfolding count
count_nil x = refl

pub all_nodes_cons : (x e : Tree) (l : List Tree) → count x (all_nodes (e ∷ l)) ≡ count x (nodes e) + count x (all_nodes l)
unfolding all_nodes
all_nodes_cons x e l = count_append x (nodes e) (all_nodes l)

pub all_nodes_append : (x : Tree) (s t : List Tree) → count x (all_nodes (s ++ t)) ≡ count x (all_nodes s) + count x (all_nodes t)
all_nodes_append x [] t = (unfold all_nodes count in sym (zero-add (count x (all_nodes t))))
all_nodes_append x (e ∷ s) t =
    (let a = all_nodes_cons x e (s ++ t) in let b = all_nodes_cons x e s in let c = all_nodes_append x s t in omega arith)

pub operations_append : (s t : List Tree) → all_operations (s ++ t) ≡ all_operations s + all_operations t
unfolding all_operations
operations_append [] t = sym (zero-add (all_operations t))
operations_append (e ∷ s) t = (let c = operations_append s t in omega arith)

-- equal, or counted 0
pub one_cases : (y x : Tree) (b : Bool) → eq_tree y x ≡ b → one_of y x ≡ elim b [ true ↦ 1 | false ↦ 0 ]
unfolding one_of
one_cases y x b e = ap (λ (c : Bool). elim c as (λ _. ℕ) [ true ↦ 1 | false ↦ 0 ]) e

pub one_none : (y x : Tree) → (y ≡ x → ⊥) → one_of y x ≡ 0
one_none y x f = go (eq_tree y x) refl
  where
    go : (b : Bool) → eq_tree y x ≡ b → one_of y x ≡ 0
    go true e = absurd (f (eq_tree_sound y x (subst T (sym e) tt)))
    go false e = one_cases y x false e

pub one_le : (y x : Tree) → one_of y x ≤ 1
one_le y x = go (eq_tree y x) refl
  where
    go : (b : Bool) → eq_tree y x ≡ b → one_of y x ≤ 1
    go true e = (let q = one_cases y x true e in omega arith)
    go false e = (let q = one_cases y x false e in omega arith)

-- what is counted is equal
pub one_equal : (y x : Tree) → 1 ≤ one_of y x → y ≡ x
one_equal y x h = go (eq_tree y x) refl
  where
    go : (b : Bool) → eq_tree y x ≡ b → y ≡ x
    go true e = eq_tree_sound y x (subst T (sym e) tt)
    go false e = (let q = one_cases y x false e in absurd (omega arith))

-- ---- what every element has, one that is counted has

pub counted_cases : (x y : Tree) (l : List Tree) → 1 ≤ count x (y ∷ l) → (y ≡ x) ⊎ (1 ≤ count x l)
counted_cases x y l h = go (one_of y x) refl
  where
    go : (m : ℕ) → one_of y x ≡ m → (y ≡ x) ⊎ (1 ≤ count x l)
    go zero e = inr (let c = count_cons x y l in omega arith)
    go (suc m) e = inl (one_equal y x (omega arith))

pub counted_holds : (p : Name → Bool) (x : Tree) (l : List Tree) → T (holds_all p l) → 1 ≤ count x l → T (holds p x)
unfolding holds_all
counted_holds p x [] w h = (let z = count_nil x in absurd (omega arith))
counted_holds p x (y ∷ l) w h =
    elim (counted_cases x y l h) [
      | inl e ↦ subst (λ (t : Tree). T (holds p t)) e (and_left (holds p y) (holds_all p l) w)
      | inr c ↦ counted_holds p x l (and_right (holds p y) (holds_all p l) w) c
    ]

unfoldable pub well_formed_all : List Tree → Bool
unfolding well_formed
well_formed_all [] = true
well_formed_all (t ∷ l) = well_formed t && well_formed_all l

pub all_append : (s t : List Tree) → T (well_formed_all s) → T (well_formed_all t) → T (well_formed_all (s ++ t))
unfolding well_formed_all
all_append [] t g h = h
all_append (x ∷ s) t g h =
    and_both (well_formed x) (well_formed_all (s ++ t)) (and_left (well_formed x) (well_formed_all s) g)
    (all_append s t (and_right (well_formed x) (well_formed_all s) g) h)

pub counted_formed : (x : Tree) (l : List Tree) → T (well_formed_all l) → 1 ≤ count x l → T (well_formed x)
unfolding well_formed_all
counted_formed x [] w h = (let z = count_nil x in absurd (omega arith))
counted_formed x (y ∷ l) w h =
    elim (counted_cases x y l h) [
      | inl e ↦ subst (λ (t : Tree). T (well_formed t)) e (and_left (well_formed y) (well_formed_all l) w)
      | inr c ↦ counted_formed x l (and_right (well_formed y) (well_formed_all l) w) c
    ]

mutual
  unfolding well_formed nodes well_formed_all

  nodes_formed : (e : Tree) → T (well_formed e) → T (well_formed_all (nodes e))
  nodes_formed (Sym n) w = tt
  nodes_formed (Const c) w = tt
  nodes_formed (Op k f) w =
      and_both (well_formed (Op k f)) (well_formed_all (nodes_of f)) w (nodes_of_formed f (and_right (arity_ok k (operand_count f)) (well_formed_each f) w))

  nodes_of_formed : (f : Forest) → T (well_formed_each f) → T (well_formed_all (nodes_of f))
  nodes_of_formed nil w = tt
  nodes_of_formed (t ◂ f) w =
      all_append (nodes t) (nodes_of f) (nodes_formed t (and_left (well_formed t) (well_formed_each f) w))
      (nodes_of_formed f (and_right (well_formed t) (well_formed_each f) w))

pub all_nodes_formed : (l : List Tree) → T (well_formed_all l) → T (well_formed_all (all_nodes l))
unfolding all_nodes well_formed_all
all_nodes_formed [] w = tt
all_nodes_formed (t ∷ l) w =
    all_append (nodes t) (all_nodes l) (nodes_formed t (and_left (well_formed t) (well_formed_all l) w)) (all_nodes_formed l (and_right (well_formed t) (well_formed_all l) w))

-- ---- inside a tree

pub count_sym : (x : Tree) (s : Name) → count x (nodes (Sym s)) ≡ one_of (Sym s) x
unfolding nodes
count_sym x s = (let a = count_cons x (Sym s) [] in let b = count_nil x in omega arith)

pub count_const : (x : Tree) (c : ℤ) → count x (nodes (Const c)) ≡ one_of (Const c) x
unfolding nodes
count_const x c = (let a = count_cons x (Const c) [] in let b = count_nil x in omega arith)

pub count_op : (x : Tree) (k : ℕ) (f : Forest) → count x (nodes (Op k f)) ≡ one_of (Op k f) x + count x (nodes_of f)
unfolding nodes
count_op x k f = count_cons x (Op k f) (nodes_of f)

pub count_none : (x : Tree) → count x (nodes_of nil) ≡ 0
unfolding nodes
count_none x = count_nil x

pub count_operands : (x t : Tree) (f : Forest) → count x (nodes_of (t ◂ f)) ≡ count x (nodes t) + count x (nodes_of f)
unfolding nodes
count_operands x t f = count_append x (nodes t) (nodes_of f)

pub either : (m n : ℕ) → 1 ≤ m + n → (1 ≤ m) ⊎ (1 ≤ n)
either zero n h = inr (omega arith)
either (suc m) n h = inl (omega arith)

-- ---- equal trees do not overlap

-- no tree stands in a smaller one
mutual
  unfolding sum_each

  pub small : (x e : Tree) → size e < size x → count x (nodes e) ≡ 0
  small x (Sym s) h = (let a = count_sym x s in let b = one_none (Sym s) x (λ e. (let q = ap size e in omega arith)) in omega arith)
  small x (Const d) h = (let a = count_const x d in let b = one_none (Const d) x (λ e. (let q = ap size e in omega arith)) in omega arith)
  small x (Op k f) h =
      (let a = count_op x k f in
      let b = one_none (Op k f) x (λ e. (let q = ap size e in omega arith)) in
      let s = size_op k f in
      let c = small_each x f (omega arith) in
      omega arith)

  small_each : (x : Tree) (f : Forest) → sizes f < size x → count x (nodes_of f) ≡ 0
  small_each x nil h = count_none x
  small_each x (t ◂ f) h = (let a = count_operands x t f in let b = small x t (omega arith) in let c = small_each x f (omega arith) in omega arith)

-- a tree stands in itself once
pub whole_count : (x : Tree) → count x (nodes x) ≡ 1
whole_count (Sym s) = (let a = count_sym (Sym s) s in let b = one_self (Sym s) in omega arith)
whole_count (Const c) = (let a = count_const (Const c) c in let b = one_self (Const c) in omega arith)
whole_count (Op k f) =
    (let a = count_op (Op k f) k f in
    let b = one_self (Op k f) in
    let s = size_op k f in
    let c = small_each (Op k f) f (omega arith) in
    omega arith)

-- a node is the tree, or the tree stands in its operands alone
pub count_cases : (x : Tree) (k : ℕ) (f : Forest) → (Op k f ≡ x) ⊎ (count x (nodes (Op k f)) ≡ count x (nodes_of f))
count_cases x k f = go (one_of (Op k f) x) refl
  where
    go : (m : ℕ) → one_of (Op k f) x ≡ m → (Op k f ≡ x) ⊎ (count x (nodes (Op k f)) ≡ count x (nodes_of f))
    go zero e = inr (let a = count_op x k f in omega arith)
    go (suc m) e = inl (one_equal (Op k f) x (omega arith))

-- so the trees equal to one measure together no more than the tree that they stand in
module _ (M : Measure) (x : Tree) where
  part_leaf : (e : Tree) (m : ℕ) → m ≡ one_of e x → M.of x * m ≤ M.of e
  part_leaf e m q = go (one_of e x) refl
    where
      go : (j : ℕ) → one_of e x ≡ j → M.of x * m ≤ M.of e
      go zero z = (let a : M.of x * m ≡ 0 = ap (λ (j : ℕ). M.of x * j) (q ∙ z) ∙ mul-zero (M.of x) in omega arith)
      go (suc j) z =
          (let b = one_le e x in
          let y : m ≡ 1 = omega arith in
          let a : M.of x * m ≡ M.of x = ap (λ (j : ℕ). M.of x * j) y ∙ mul-one (M.of x) in
          let c = ap (λ (t : Tree). M.of t) (one_equal e x (omega arith)) in
          omega arith)

  part_op : (k : ℕ) (f : Forest) → M.of x * count x (nodes_of f) ≤ sum_each M.of f → M.of x * count x (nodes (Op k f)) ≤ M.of (Op k f)
  part_op k f h =
      elim (count_cases x k f) [
        | inl e ↦ part_leaf (Op k f) (count x (nodes (Op k f)))
            (let a = ap (λ (t : Tree). count x (nodes t)) e in let b = whole_count x in let c = ap (λ (t : Tree). one_of t x) e in let d = one_self x in omega arith)
        | inr e ↦ (let a = ap (λ (m : ℕ). M.of x * m) e in let s = M.at_node k f in omega arith)
      ]

  mutual
    unfolding sum_each

    pub part_of : (e : Tree) → M.of x * count x (nodes e) ≤ M.of e
    part_of (Sym s) = part_leaf (Sym s) (count x (nodes (Sym s))) (count_sym x s)
    part_of (Const c) = part_leaf (Const c) (count x (nodes (Const c))) (count_const x c)
    part_of (Op k f) = part_op k f (part_each f)

    part_each : (f : Forest) → M.of x * count x (nodes_of f) ≤ sum_each M.of f
    part_each nil = (let a = ap (λ (m : ℕ). M.of x * m) (count_none x) ∙ mul-zero (M.of x) in omega arith)
    part_each (t ◂ f) =
        (let a = part_of t in
        let b = part_each f in
        let c = ap (λ (m : ℕ). M.of x * m) (count_operands x t f) ∙ mul-add (M.of x) (count x (nodes t)) (count x (nodes_of f)) in
        omega arith)

  pub part_sum : (l : List Tree) → M.of x * count x (all_nodes l) ≤ sum_of M.of l
  unfolding sum_of
  part_sum [] =
      (let z : count x (all_nodes []) ≡ 0 = (unfold all_nodes count in refl) in let a = ap (λ (m : ℕ). M.of x * m) z ∙ mul-zero (M.of x) in omega arith)
  part_sum (e ∷ l) =
      (let a = part_of e in
      let b = part_sum l in
      let c = ap (λ (m : ℕ). M.of x * m) (all_nodes_cons x e l) ∙ mul-add (M.of x) (count x (nodes e)) (count x (all_nodes l)) in
      omega arith)

-- a node has at most the operations of the tree that it stands in
times_up : (o c : ℕ) → 1 ≤ c → o ≤ o * c
times_up o zero h = absurd (omega arith)
times_up o (suc c) h = (let a = mul-suc o c in omega arith)

pub part_operations : (x e : Tree) → 1 ≤ count x (nodes e) → operations x ≤ operations e
part_operations x e h = (let a = part_of by_operations x e in let b = times_up (operations x) (count x (nodes e)) h in omega arith)

pub part_all_operations : (x : Tree) (l : List Tree) → 1 ≤ count x (all_nodes l) → operations x ≤ all_operations l
part_all_operations x l h =
    (let a = part_sum by_operations x l in let b = times_up (operations x) (count x (all_nodes l)) h in let c = operations_sum l in omega arith)

-- ---- the new name stands in no tree made before it

mutual
  unfolding holds

  pub absent : (p : Name → Bool) (n : Name) → (T (p n) → ⊥) → (e : Tree) → T (holds p e) → count (Sym n) (nodes e) ≡ 0
  absent p n f (Sym s) w =
      (let a = count_sym (Sym n) s in
      let b = one_none (Sym s) (Sym n) (λ e. f (subst (λ (m : Name). T (p m)) (let q : s ≡ n = cc in q) w)) in
      omega arith)
  absent p n f (Const c) w =
      (let a = count_const (Sym n) c in let b = one_none (Const c) (Sym n) (λ e. (let z : ◌≡◌ {A = ℕ} 0 1 = cc in omega arith)) in omega arith)
  absent p n f (Op k g) w =
      (let a = count_op (Sym n) k g in
      let b = one_none (Op k g) (Sym n) (λ e. (let z : ◌≡◌ {A = ℕ} 0 1 = cc in omega arith)) in
      let c = absent_each p n f g w in
      omega arith)

  absent_each : (p : Name → Bool) (n : Name) → (T (p n) → ⊥) → (g : Forest) → T (holds_each p g) → count (Sym n) (nodes_of g) ≡ 0
  absent_each p n f nil w = count_none (Sym n)
  absent_each p n f (t ◂ g) w =
      (let a = count_operands (Sym n) t g in
      let b = absent p n f t (and_left (holds p t) (holds_each p g) w) in
      let c = absent_each p n f g (and_right (holds p t) (holds_each p g) w) in
      omega arith)
