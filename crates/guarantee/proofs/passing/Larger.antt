-- How many nodes the divisors to bind have. Two equal trees do not overlap, and no division by a tree as large stands inside one of them: what is outside has
-- room for all those divisions. So the second largest divisor is smaller than the largest may be, and so on. Assumes nothing.
use Prim.Native.Nat.{ℕ, zero, suc, ◌+◌, ◌*◌, ◌≤◌, ◌<◌}
use mathlib.Core.Path.{◌≡◌, refl, ◌∙◌, ap}
use mathlib.Core.Bool.{Bool, true, false, not, cond}
use mathlib.Core.Logic.{inl, inr}
use mathlib.Core.Option.{Option, none, some}
use mathlib.Core.List.{List, [], ◌∷◌, ◌++◌}
use native.Mathlib.Omega.{arith}
use native.Mathlib.Nat.{zero-mul, suc-mul, one-mul, mul-zero, mul-suc, add-mul, mul-le-mul_right}
use lib.IntN.{ℤ}
use lib.ListN.{length}
use lib.Dec.{T, eqb, leb, leb→le, nleb→lt}
use Rattle.spec_tree.specs.Tree.{Name, Tree, Forest, Sym, Const, Op, nil, ◌◂◌}
use Rattle.spec_tree.specs.Kinds.{Div}
use Rattle.spec_tree.specs.Facts.{size, nodes, nodes_of, all_nodes, count}
use Rattle.spec_rewrite.proofs.Measure.{sum_of, sum_each, sizes, size_op, size_up, size_const, one_of, count_cons}
use Rattle.spec_rewrite.proofs.Counts.{count_nil, count_sym, count_const, count_none, count_operands, count_cases, all_nodes_cons, whole_count, one_equal}
use Rattle.spec_cse.specs.Extract.{State, roots, divisor_of, divisors}
use Rattle.laws.proofs.cse.ReciprocalsCount.{AllTrees, all_map, divisors_all, bound_divisors, bound_twice}
use Rattle.laws.proofs.cse.DivisorsMost.{bound_once, counts_most, twice_each}
use Rattle.laws.proofs.cse.SizeCount.{total_size, reciprocals_most}
use Rattle.guarantee.proofs.passing.DivisionsMost.{operands_count}

-- ---- those of at least a size

unfoldable large : ℕ → List Tree → List Tree
large s [] = []
large s (t ∷ l) = elim (leb s (size t)) [ true ↦ t ∷ large s l | false ↦ large s l ]

unfoldable is_large : ℕ → Tree → ℕ
is_large s t = elim (leb s (size t)) [ true ↦ 1 | false ↦ 0 ]

large_cons : (s : ℕ) (t : Tree) (l : List Tree) → length (large s (t ∷ l)) ≡ is_large s t + length (large s l)
unfolding large is_large
large_cons s t l = go (leb s (size t))
  where
    go : (b : Bool) → length {A = Tree} (elim b [ true ↦ t ∷ large s l | false ↦ large s l ]) ≡ elim b as (λ _. ℕ) [ true ↦ 1 | false ↦ 0 ] + length (large s l)
    go true = omega arith
    go false = omega arith

small_not : (s : ℕ) (t : Tree) → size t < s → is_large s t ≡ 0
unfolding is_large
small_not s t h = go (leb s (size t)) (leb→le s (size t))
  where
    go : (b : Bool) → (T b → s ≤ size t) → ◌≡◌ {A = ℕ} (elim b [ true ↦ 1 | false ↦ 0 ]) 0
    go true f = (let a = f tt in absurd (omega arith))
    go false f = refl

at_most_one : (s : ℕ) (t : Tree) → is_large s t ≤ 1
unfolding is_large
at_most_one s t = go (leb s (size t))
  where
    go : (b : Bool) → elim b as (λ _. ℕ) [ true ↦ 1 | false ↦ 0 ] ≤ 1
    go true = omega arith
    go false = omega arith

-- divisions by a tree of at least that size
divided : ℕ → List Tree → ℕ
divided s l = length (large s (divisors l))

divided_append : (s : ℕ) (a b : List Tree) → divided s (a ++ b) ≡ divided s a + divided s b
unfolding divided divisors
divided_append s [] b = (let z : length (large s []) ≡ 0 = (unfold large in refl) in omega arith)
divided_append s (t ∷ a) b = go (divisor_of t) (divided_append s a b)
  where
    go : (o : Option Tree) → length (large s (divisors (a ++ b))) ≡ length (large s (divisors a)) + length (large s (divisors b))
        → length (large s (elim o [ none ↦ divisors (a ++ b) | some d ↦ d ∷ divisors (a ++ b) ]))
        ≡ length (large s (elim o [ none ↦ divisors a | some d ↦ d ∷ divisors a ])) + length (large s (divisors b))
    go none h = h
    go (some d) h = (let x = large_cons s d (divisors (a ++ b)) in let y = large_cons s d (divisors a) in omega arith)

-- one division more at most, by an operand after the first
operation_divided : (s k : ℕ) (f : Forest) → 2 * divided s (nodes (Op k f)) ≤ operands_count f + 2 * divided s (nodes_of f)
unfolding divided divisors nodes divisor_of operands_count
operation_divided s k nil = omega arith
operation_divided s k (a ◂ nil) = omega arith
operation_divided s k (a ◂ (b ◂ f)) = go (eqb k Div) (divisors (nodes_of (a ◂ (b ◂ f))))
  where
    go : (c : Bool) (l : List Tree) → 2 * length (large s (elim (cond c (some b) none) as (λ _. List Tree) [ none ↦ l | some d ↦ d ∷ l ])) ≤ suc (suc (operands_count f)) + 2 * length (large s l)
    go true l = (let x = large_cons s b l in let y = at_most_one s b in omega arith)
    go false l = omega arith

operation_small : (s k : ℕ) (f : Forest) → sizes f < s → divided s (nodes (Op k f)) ≡ divided s (nodes_of f)
unfolding divided divisors nodes divisor_of
operation_small s k nil h = refl
operation_small s k (a ◂ nil) h = refl
operation_small s k (a ◂ (b ◂ f)) h = go (eqb k Div) (divisors (nodes_of (a ◂ (b ◂ f))))
  where
    less : size b < s
    less = (let x : sizes (a ◂ (b ◂ f)) ≡ size a + (size b + sizes f) = (unfold sum_each in refl) in omega arith)

    go : (c : Bool) (l : List Tree) → length (large s (elim (cond c (some b) none) as (λ _. List Tree) [ none ↦ l | some d ↦ d ∷ l ])) ≡ length (large s l)
    go true l = (let x = large_cons s b l in let y = small_not s b less in omega arith)
    go false l = refl

operands_divided : (s : ℕ) (t : Tree) (f : Forest) → divided s (nodes_of (t ◂ f)) ≡ divided s (nodes t) + divided s (nodes_of f)
unfolding nodes
operands_divided s t f = divided_append s (nodes t) (nodes_of f)

none_divided : (s : ℕ) → divided s (nodes_of nil) ≡ 0
unfolding divided divisors nodes large
none_divided s = refl

symbol_divided : (s : ℕ) (n : Name) → divided s (nodes (Sym n)) ≡ 0
unfolding divided divisors nodes large
symbol_divided s n = refl

constant_divided : (s : ℕ) (c : ℤ) → divided s (nodes (Const c)) ≡ 0
unfolding divided divisors nodes large
constant_divided s c = refl

-- no division by a tree as large inside a tree
mutual
  unfolding sum_each

  small_divided : (s : ℕ) (t : Tree) → size t ≤ s → divided s (nodes t) ≡ 0
  small_divided s (Sym n) h = symbol_divided s n
  small_divided s (Const c) h = constant_divided s c
  small_divided s (Op k f) h = (let a = size_op k f in let b = operation_small s k f (omega arith) in let c = small_divided_each s f (omega arith) in omega arith)

  small_divided_each : (s : ℕ) (f : Forest) → sizes f ≤ s → divided s (nodes_of f) ≡ 0
  small_divided_each s nil h = none_divided s
  small_divided_each s (t ◂ f) h = (let a = small_divided s t (omega arith) in let b = small_divided_each s f (omega arith) in let c = operands_divided s t f in omega arith)

-- ---- room for those divisions outside

symbol_size : (n : Name) → size (Sym n) ≡ 1
unfolding size
symbol_size n = refl

module _ (d : Tree) (m : ℕ) (is : size d ≡ suc m) where
  leaf_room : (c : ℕ) → (1 ≤ c → m ≡ 0) → c * m ≡ 0
  leaf_room zero f = zero-mul m
  leaf_room (suc c) f = ap (λ (n : ℕ). suc c * n) (f (omega arith)) ∙ mul-zero (suc c)

  leaf_same : (t : Tree) → size t ≡ 1 → 1 ≤ one_of t d → m ≡ 0
  leaf_same t o h = (let e = ap size (one_equal t d h) in omega arith)

  abbrev Room : Tree → Type 0
  Room e = 1 + (2 * divided (suc m) (nodes e) + count d (nodes e) * m) ≤ size e

  symbol_room : (n : Name) → Room (Sym n)
  symbol_room n =
      (let a = symbol_divided (suc m) n in
      let o = symbol_size n in
      let b = count_sym d n in
      let c = leaf_room (count d (nodes (Sym n))) (λ h. leaf_same (Sym n) o (omega arith)) in
      omega arith)

  constant_room : (i : ℤ) → Room (Const i)
  constant_room i =
      (let a = constant_divided (suc m) i in
      let o = size_const i in
      let b = count_const d i in
      let c = leaf_room (count d (nodes (Const i))) (λ h. leaf_same (Const i) o (omega arith)) in
      omega arith)

  whole_room : (e : Tree) → e ≡ d → Room e
  whole_room e q =
      (let s = ap size q in
      let a = small_divided (suc m) e (omega arith) in
      let c : count d (nodes e) * m ≡ 1 * m = ap (λ (n : ℕ). n * m) (ap (λ (t : Tree). count d (nodes t)) q ∙ whole_count d) in
      let b = one-mul m in
      omega arith)

  other_room :
      (k : ℕ) (f : Forest) → operands_count f + (2 * divided (suc m) (nodes_of f) + count d (nodes_of f) * m) ≤ sizes f
      → count d (nodes (Op k f)) ≡ count d (nodes_of f) → Room (Op k f)
  other_room k f b e =
      (let a = operation_divided (suc m) k f in
      let c = size_op k f in
      let g : count d (nodes (Op k f)) * m ≡ count d (nodes_of f) * m = ap (λ (n : ℕ). n * m) e in
      omega arith)

  none_room : count d (nodes_of nil) * m ≡ 0
  none_room = ap (λ (n : ℕ). n * m) (count_none d) ∙ zero-mul m

  operands_room : (t : Tree) (f : Forest) → count d (nodes_of (t ◂ f)) * m ≡ count d (nodes t) * m + count d (nodes_of f) * m
  operands_room t f = ap (λ (n : ℕ). n * m) (count_operands d t f) ∙ add-mul (count d (nodes t)) (count d (nodes_of f)) m

  mutual
    unfolding sum_each operands_count

    room : (e : Tree) → Room e
    room (Sym n) = symbol_room n
    room (Const i) = constant_room i
    room (Op k f) = elim (count_cases d k f) [ inl e ↦ whole_room (Op k f) e | inr e ↦ other_room k f (room_each f) e ]

    room_each : (f : Forest) → operands_count f + (2 * divided (suc m) (nodes_of f) + count d (nodes_of f) * m) ≤ sizes f
    room_each nil = (let a = none_divided (suc m) in let b = none_room in omega arith)
    room_each (t ◂ f) = (let a = room t in let b = room_each f in let c = operands_divided (suc m) t f in let e = operands_room t f in omega arith)

  nothing_counted : count d (all_nodes []) ≡ 0
  unfolding all_nodes
  nothing_counted = count_nil d

  nothing_divided : divided (suc m) (all_nodes []) ≡ 0
  unfolding divided divisors all_nodes large
  nothing_divided = refl

  all_divided : (e : Tree) (l : List Tree) → divided (suc m) (all_nodes (e ∷ l)) ≡ divided (suc m) (nodes e) + divided (suc m) (all_nodes l)
  unfolding all_nodes
  all_divided e l = divided_append (suc m) (nodes e) (all_nodes l)

  room_all : (l : List Tree) → 2 * divided (suc m) (all_nodes l) + count d (all_nodes l) * m ≤ total_size l
  unfolding sum_of
  room_all [] = (let a = nothing_divided in let b : count d (all_nodes []) * m ≡ 0 = ap (λ (n : ℕ). n * m) nothing_counted ∙ zero-mul m in omega arith)
  room_all (e ∷ l) =
      (let a = room e in
      let b = room_all l in
      let c = all_divided e l in
      let g : count d (all_nodes (e ∷ l)) * m ≡ count d (nodes e) * m + count d (all_nodes l) * m = ap (λ (n : ℕ). n * m) (all_nodes_cons d e l) ∙ add-mul (count d (nodes e)) (count d (all_nodes l)) m in
      omega arith)

-- a tree that stands twice, and the divisions by trees as large
twice_room : (d : Tree) (l : List Tree) → 2 ≤ count d (all_nodes l) → 2 * divided (size d) (all_nodes l) + 2 * size d ≤ total_size l + 2
twice_room d l h = go (size d) refl (size_up d)
  where
    go : (n : ℕ) → size d ≡ n → 1 ≤ n → 2 * divided n (all_nodes l) + 2 * n ≤ total_size l + 2
    go zero e u = absurd (omega arith)
    go (suc m) e u = (let a = room_all d m e l in let b = mul-le-mul_right m h in omega arith)

-- ---- different divisors, each divided by twice

large_fewer : (x : Tree) (s : ℕ) (l : List Tree) → count x (large s l) ≤ count x l
unfolding large
large_fewer x s [] = omega arith
large_fewer x s (t ∷ l) = go (leb s (size t)) (large_fewer x s l)
  where
    go : (b : Bool) → count x (large s l) ≤ count x l → count x (elim b [ true ↦ t ∷ large s l | false ↦ large s l ]) ≤ count x (t ∷ l)
    go true h = (let a = count_cons x t (large s l) in let c = count_cons x t l in omega arith)
    go false h = (let c = count_cons x t l in omega arith)

-- a large one is not passed over
large_count : (x : Tree) (s : ℕ) → s ≤ size x → (l : List Tree) → count x l ≤ count x (large s l)
unfolding large
large_count x s h [] = omega arith
large_count x s h (t ∷ l) = go (leb s (size t)) (nleb→lt s (size t)) (large_count x s h l)
  where
    other : (n : ℕ) → one_of t x ≡ n → size t < s → n ≡ 0
    other zero e u = refl
    other (suc n) e u = (let q = ap size (one_equal t x (omega arith)) in absurd (omega arith))

    go : (b : Bool) → (T (not b) → size t < s) → count x l ≤ count x (large s l) → count x (t ∷ l) ≤ count x (elim b [ true ↦ t ∷ large s l | false ↦ large s l ])
    go true f k = (let a = count_cons x t (large s l) in let c = count_cons x t l in omega arith)
    go false f k = (let c = count_cons x t l in let o = other (one_of t x) refl (f tt) in omega arith)

large_all : (P Q : Tree → Type 0) (s : ℕ) → ((t : Tree) → s ≤ size t → P t → Q t) → (l : List Tree) → AllTrees P l → AllTrees Q (large s l)
unfolding large
large_all P Q s f [] h = tt
large_all P Q s f (t ∷ l) h = go (leb s (size t)) (leb→le s (size t)) (large_all P Q s f l h.1)
  where
    go : (b : Bool) → (T b → s ≤ size t) → AllTrees Q (large s l) → AllTrees Q (elim b [ true ↦ t ∷ large s l | false ↦ large s l ])
    go true g k = (f t (g tt) h.0, k)
    go false g k = k

module _ (l ds : List Tree) (once : (x : Tree) → count x ds ≤ 1) (twice : AllTrees (λ d. 2 ≤ count d (divisors l)) ds) where
  large_twice : (s : ℕ) → 2 * length (large s ds) ≤ divided s l
  unfolding divided
  large_twice s =
      (let L = large s (divisors l) in
      let a = twice_each L (large s ds) (large_all (λ d. 2 ≤ count d (divisors l)) (λ d. 2 ≤ count d L) s (λ t u h. (let c = large_count t s u (divisors l) in omega arith)) ds twice) in
      let b = counts_most L (large s ds) (λ x. (let c = large_fewer x s ds in let o = once x in omega arith)) in
      omega arith)

-- ---- of any two, one is at least as large as the other

either_large : (x t : Tree) → 1 ≤ is_large (size x) t + is_large (size t) x
unfolding is_large
either_large x t = go (leb (size x) (size t)) (nleb→lt (size x) (size t)) (leb (size t) (size x)) (nleb→lt (size t) (size x))
  where
    go : (b : Bool) → (T (not b) → size t < size x) → (c : Bool) → (T (not c) → size x < size t)
        → 1 ≤ elim b as (λ _. ℕ) [ true ↦ 1 | false ↦ 0 ] + elim c as (λ _. ℕ) [ true ↦ 1 | false ↦ 0 ]
    go true f c g = omega arith
    go false f true g = omega arith
    go false f false g = (let a = f tt in let b = g tt in absurd (omega arith))

self_large : (x : Tree) → 1 ≤ is_large (size x) x
self_large x = (let a = either_large x x in omega arith)

-- of a list's trees, those at least as large as each
unfoldable ranks : List Tree → List Tree → ℕ
unfolding sum_of
ranks l ds = sum_of (λ d. length (large (size d) l)) ds

ranks_cons : (x : Tree) (l ds : List Tree) → ranks (x ∷ l) ds ≡ sum_of (λ d. is_large (size d) x) ds + ranks l ds
unfolding ranks sum_of
ranks_cons x l [] = omega arith
ranks_cons x l (d ∷ ds) = (let a = ranks_cons x l ds in let b = large_cons (size d) x l in omega arith)

both_ways : (x : Tree) (l : List Tree) → length l ≤ length (large (size x) l) + sum_of (λ d. is_large (size d) x) l
unfolding sum_of
both_ways x [] = omega arith
both_ways x (t ∷ l) = (let a = both_ways x l in let b = large_cons (size x) t l in let c = either_large x t in omega arith)

ranks_first : (x : Tree) (l : List Tree) → ranks (x ∷ l) (x ∷ l) ≡ length (large (size x) (x ∷ l)) + ranks (x ∷ l) l
unfolding ranks sum_of
ranks_first x l = refl

pairs : (l : List Tree) → length l * suc (length l) ≤ 2 * ranks l l
pairs [] = (let a = zero-mul 1 in omega arith)
pairs (x ∷ l) =
    (let a = pairs l in
    let b = ranks_first x l in
    let c = ranks_cons x l l in
    let e = both_ways x l in
    let f = large_cons (size x) x l in
    let g = self_large x in
    let m = mul-suc (suc (length l)) (suc (length l)) in
    let n = suc-mul (length l) (suc (length l)) in
    omega arith)

-- ---- the sum

ranked_sum : (N : ℕ) (l ds : List Tree) → AllTrees (λ d. 4 * length (large (size d) l) + 2 * size d ≤ N + 2) ds → 4 * ranks l ds + 2 * reciprocals_most ds ≤ length ds * (N + 6)
unfolding ranks reciprocals_most sum_of
ranked_sum N l [] h = (let a = zero-mul (N + 6) in omega arith)
ranked_sum N l (d ∷ ds) h = (let a = ranked_sum N l ds h.1 in let b = h.0 in let c = suc-mul (length ds) (N + 6) in omega arith)

-- twice what reciprocals add
pub reciprocals_add :
    (scoped : Bool) (s : State)
    → 2 * reciprocals_most (bound_divisors scoped s) + 2 * (length (bound_divisors scoped s) * suc (length (bound_divisors scoped s))) ≤ length (bound_divisors scoped s) * (total_size (roots s) + 6)
reciprocals_add scoped s =
    (let ds = bound_divisors scoped s in
    let ns = all_nodes (roots s) in
    let a = ranked_sum (total_size (roots s)) ds ds
    (all_map (λ d. 2 ≤ count d (divisors ns)) (λ d. 4 * length (large (size d) ds) + 2 * size d ≤ total_size (roots s) + 2)
    (λ d h. (let r = twice_room d (roots s) (let q = divisors_all d (roots s) in omega arith) in let t = large_twice ns ds (bound_once scoped s) (bound_twice scoped s) (size d) in omega arith)) ds
    (bound_twice scoped s)) in
    let b = pairs ds in
    omega arith)
