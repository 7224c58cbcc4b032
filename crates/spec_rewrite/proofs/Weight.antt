-- A weight that falls at each call of `replace`: the new name weighs 1 and every other node 2. So twice the size is fuel enough. Assumes nothing.
use Prim.Native.Nat.{ℕ, suc, ◌+◌, ◌*◌, ◌≤◌}
use mathlib.Core.Path.{◌≡◌, refl, ap}
use mathlib.Core.Bool.{Bool, true, false}
use mathlib.Core.List.{List, [], ◌∷◌, ◌++◌}
use native.Mathlib.Omega.{arith}
use lib.IntN.{ℤ}
use lib.Dec.{T}
use lib.ListN.{length}
use Rattle.spec_tree.specs.Tree.{Name, Tree, Forest, Sym, Const, Op, nil, ◌◂◌, eq_name}
use Rattle.spec_tree.proofs.Formed.{well_formed}
use Rattle.spec_tree.proofs.TreeLaws.{eq_name_sound, eq_name_refl}
use Rattle.spec_tree.specs.Facts.{size, count}
use Rattle.spec_rewrite.specs.Rewrite.{built}
use Rattle.spec_rewrite.proofs.ReplaceValue.{exact}
use Rattle.spec_rewrite.proofs.Measure.{sum_of, sum_each, Measure, size_op, sizes, count_cons, one_of, one_self}
use Rattle.spec_rewrite.proofs.Factors.{factors_of, Puts}
use Rattle.spec_rewrite.proofs.Products.{spread, factors_bound}
use Rattle.spec_rewrite.proofs.Shrinks.{rebuilt_of}

module _ (n : Name) where
  abbrev name_weight : Bool → ℕ
  name_weight b = elim b [ true ↦ 1 | false ↦ 2 ]

  unfoldable mutual
    pub weight : Tree → ℕ
    weight (Sym s) = name_weight (eq_name s n)
    weight (Const c) = 2
    weight (Op k f) = suc (suc (weights f))

    pub weights : Forest → ℕ
    weights nil = 0
    weights (t ◂ f) = weight t + weights f

  weights_sum : (f : Forest) → weights f ≡ sum_each weight f
  unfolding weight sum_each
  weights_sum nil = refl
  weights_sum (t ◂ f) = ap (λ (m : ℕ). weight t + m) (weights_sum f)

  weight_const : (c : ℤ) → weight (Const c) ≡ 2
  unfolding weight
  weight_const c = refl

  pub weight_op : (k : ℕ) (f : Forest) → weight (Op k f) ≡ 2 + sum_each weight f
  unfolding weight
  weight_op k f = (let q = weights_sum f in omega arith)

  abbrev by_weight : Measure
  by_weight = record { of = weight; constant = 2; node = 2; at_constant = weight_const; at_node = weight_op }

  name_bounds : (b : Bool) → (1 ≤ name_weight b) × (name_weight b ≤ 2)
  name_bounds true = (omega arith, omega arith)
  name_bounds false = (omega arith, omega arith)

  pub weight_up : (e : Tree) → 1 ≤ weight e
  unfolding weight
  weight_up (Sym s) = (name_bounds (eq_name s n)).0
  weight_up (Const c) = omega arith
  weight_up (Op k f) = omega arith

  mutual
    unfolding weight sum_each size

    pub twice_size : (e : Tree) → weight e ≤ 2 * size e
    twice_size (Sym s) = (let x = (name_bounds (eq_name s n)).1 in omega arith)
    twice_size (Const c) = omega arith
    twice_size (Op k f) = (let x = twice_sizes f in let y = size_op k f in omega arith)

    twice_sizes : (f : Forest) → weights f ≤ 2 * sizes f
    twice_sizes nil = omega arith
    twice_sizes (t ◂ f) = (let x = twice_size t in let y = twice_sizes f in omega arith)

  new_weight : weight (Sym n) ≡ 1
  unfolding weight
  new_weight = go (eq_name n n) (eq_name_refl n)
    where
      go : (b : Bool) → T b → name_weight b ≡ 1
      go true t = refl
      go false t = absurd t

  name_share : (y : Tree) → 2 ≤ weight y + one_of y (Sym n)
  unfolding weight
  name_share (Sym s) = go (eq_name s n) (eq_name_sound s n)
    where
      go : (b : Bool) → (T b → s ≡ n) → 2 ≤ name_weight b + one_of (Sym s) (Sym n)
      go true f = (let e : one_of (Sym s) (Sym n) ≡ one_of (Sym n) (Sym n) = ap (λ (m : Name). one_of (Sym m) (Sym n)) (f tt) in let o = one_self (Sym n) in omega arith)
      go false f = omega arith
  name_share (Const c) = omega arith
  name_share (Op k f) = omega arith

  -- a factor with its sign weighs 4, and the name with its sign 3
  shares : (l : List Tree) → 4 * length l ≤ spread by_weight l + count (Sym n) l
  unfolding sum_of
  shares [] = omega arith
  shares (y ∷ l) = (let a = name_share y in let b = count_cons (Sym n) y l in let c = shares l in omega arith)

  -- neither no factor nor the name alone
  pub falls :
      (target : Tree) → 2 + count (Sym n) (factors_of target) ≤ 2 * length (factors_of target) → (e : Tree) (r : List Tree) (c : ℤ) → T (well_formed e)
      → Puts (factors_of target) r (factors_of e) → c ≡ exact e
      → suc (weight (built c (r ++ (Sym n ∷ [])))) ≤ weight e
  falls target several e r c w h q =
      (let a = rebuilt_of by_weight target n e r c 0 (let f = factors_bound by_weight e w in omega arith) h q in
      let b = shares (factors_of target) in
      let d = new_weight in
      omega arith)
