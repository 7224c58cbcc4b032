-- Trees that print takes, of at most 1,024 nodes, and what keeps them so: parts, replacing, divisors and members replaced (01, "Turned down", 13). Assumes nothing.
use Prim.Native.Nat.{ℕ, suc, ◌+◌, ◌≤◌}
use native.Mathlib.Omega.{arith}
use mathlib.Core.Path.{◌≡◌, refl, sym, ap, ap₂, subst}
use mathlib.Core.Bool.{Bool, true, false, ◌&&◌, cond}
use mathlib.Core.Option.{Option, none, some}
use mathlib.Core.List.{List, [], ◌∷◌}
use lib.IntN.{pos}
use lib.ListN.{length}
use lib.Dec.{T, eqb, leb}
use Rattle.spec_tree.specs.Outcome.{Outcome, ok, refused, ◌>>=◌, each}
use Rattle.spec_tree.specs.Tree.{Name, input, xname, mname, Tree, Forest, Sym, Const, Op, nil, ◌◂◌, folds, eq_tree, operands}
use Rattle.spec_tree.specs.Kinds.{Mul, Div, is_switch}
use Rattle.spec_tree.specs.Facts.{size, has_symbol, nodes, nodes_of, all_nodes, outer, outer_of, outer_first, all_outer}
use Rattle.spec_tree.specs.Rows.{occurrences, within_limits}
use Rattle.spec_tree.specs.Passes.{all_of, of_list, of_paper, operands_ok, expression, expressions, passes, symbol_ok, tree_ok, trees_ok}
use Rattle.spec_tree.proofs.Formed.{operand_count, tests, tests_length}
use Rattle.spec_tree.proofs.Logic.{and_left, and_right, and_both}
use Rattle.spec_rewrite.specs.Rewrite.{replace, divides_by, replace_divisor, replace_divisors, dividend, replace_outside_arms, replace_operands, replace_key}
use Rattle.spec_rewrite.proofs.Measure.{sum_each, sizes, size_op, size_up, size_const, by_size, least_size}
use Rattle.spec_rewrite.proofs.Shrinks.{replace_shrinks}
use Rattle.spec_rewrite.proofs.DivisorCount.{divisor_size}
use Rattle.spec_rewrite.proofs.OutsideSize.{outside_size}
use Rattle.spec_cse.specs.Extract.{divisor_of, divisors}
use Rattle.laws.proofs.cse.Outcomes.{Good, then_good, good_ok}
use Rattle.laws.proofs.cse.RoundsCount.{symbol_factor}
use Rattle.laws.proofs.cse.ReciprocalsCount.{AllTrees, inverse}
use Rattle.laws.proofs.cse.Levels.{trees_append}
use Rattle.laws.proofs.cse.ScopeRoom.{limits_rows}
use Rattle.rounds.proofs.kept.Passing.{taken, taken_each, replace_fits}
use Rattle.rounds.proofs.kept.Words.{taken_formed}

abbrev Taken : Tree → Type 0
Taken t = T (taken symbol_ok t)

abbrev TakenEach : Forest → Type 0
TakenEach f = T (taken_each symbol_ok f)

-- ---- the test of 13

abbrev oks : Forest → List Bool
oks f = folds symbol_ok of_paper (λ k l. operands_ok k (length l) && all_of l) f

oks_length : (f : Forest) → length (oks f) ≡ operand_count f
unfolding folds operand_count
oks_length nil = refl
oks_length (t ◂ f) = ap suc (oks_length f)

mutual
  unfolding tree_ok taken

  pub tree_same : (t : Tree) → tree_ok t ≡ taken symbol_ok t
  tree_same (Sym n) = refl
  tree_same (Const c) = refl
  tree_same (Op k f) = ap₂ (λ (n : ℕ) (b : Bool). operands_ok k n && b) (oks_length f) (each_same f)

  each_same : (f : Forest) → all_of (oks f) ≡ taken_each symbol_ok f
  each_same nil = refl
  each_same (t ◂ f) = ap₂ ◌&&◌ (tree_same t) (each_same f)

-- ---- what a list holds that passes 9

listed : (n : Name) → T (of_list n) → T (symbol_ok n)
unfolding of_list symbol_ok
listed (input s) h = h
listed (xname i) h = tt
listed (mname i) h = tt

mutual
  unfolding expression taken

  expression_taken : (t : Tree) → T (expression t) → Taken t
  expression_taken (Sym n) h = listed n h
  expression_taken (Const c) h = h
  expression_taken (Op k f) h =
      and_both (operands_ok k (operand_count f)) (taken_each symbol_ok f)
      (subst (λ (n : ℕ). T (operands_ok k n)) (tests_length f) (and_left (operands_ok k (length (tests f))) (all_of (tests f)) h))
      (expression_taken_each f (and_right (operands_ok k (length (tests f))) (all_of (tests f)) h))

  expression_taken_each : (f : Forest) → T (all_of (tests f)) → TakenEach f
  expression_taken_each nil h = tt
  expression_taken_each (t ◂ f) h =
      and_both (taken symbol_ok t) (taken_each symbol_ok f) (expression_taken t (and_left (expression t) (all_of (tests f)) h)) (expression_taken_each f (and_right (expression t) (all_of (tests f)) h))

-- ---- operations and operands

operation_taken : (k : ℕ) (f : Forest) → T (operands_ok k (operand_count f)) → TakenEach f → Taken (Op k f)
unfolding taken
operation_taken k f g h = and_both (operands_ok k (operand_count f)) (taken_each symbol_ok f) g h

kind_taken : (k : ℕ) (f : Forest) → Taken (Op k f) → T (operands_ok k (operand_count f))
unfolding taken
kind_taken k f h = and_left (operands_ok k (operand_count f)) (taken_each symbol_ok f) h

operands_taken : (k : ℕ) (f : Forest) → Taken (Op k f) → TakenEach f
unfolding taken
operands_taken k f h = and_right (operands_ok k (operand_count f)) (taken_each symbol_ok f) h

nil_taken : TakenEach nil
unfolding taken
nil_taken = tt

cons_taken : (t : Tree) (f : Forest) → Taken t → TakenEach f → TakenEach (t ◂ f)
unfolding taken
cons_taken t f g h = and_both (taken symbol_ok t) (taken_each symbol_ok f) g h

head_taken : (t : Tree) (f : Forest) → TakenEach (t ◂ f) → Taken t
unfolding taken
head_taken t f h = and_left (taken symbol_ok t) (taken_each symbol_ok f) h

tail_taken : (t : Tree) (f : Forest) → TakenEach (t ◂ f) → TakenEach f
unfolding taken
tail_taken t f h = and_right (taken symbol_ok t) (taken_each symbol_ok f) h

symbol_taken : (n : Name) → T (symbol_ok n) → Taken (Sym n)
unfolding taken
symbol_taken n h = h

inverse_taken : (d : Tree) → Taken d → Taken (inverse d)
unfolding inverse
inverse_taken d h = operation_taken Div (Const (pos 1) ◂ d ◂ nil) (unfold operands_ok operand_count in tt) (cons_taken (Const (pos 1)) (d ◂ nil) (unfold taken of_paper in tt) (cons_taken d nil h nil_taken))

-- ---- divisors replaced

module _ (d : Tree) (n : Name) (name_ok : T (symbol_ok n)) where
  -- a division has a dividend, so what stands for it has two operands
  product_taken : (f : Forest) → T (divides_by d f) → TakenEach (dividend d n f) → T (operands_ok Mul (operand_count (dividend d n f)))
  unfolding divides_by dividend operands_ok operand_count
  product_taken nil t h = absurd t
  product_taken (a ◂ f) t h = tt

  divided_step :
      (k : ℕ) (f : Forest) (b : Bool) → (T b → T (divides_by d f)) → T (operands_ok k (operand_count f)) → operand_count (replace_divisors d n f) ≡ operand_count f → TakenEach (replace_divisors d n f)
      → TakenEach (dividend d n f) → Taken (elim b as (λ _. Tree) [ true ↦ Op Mul (dividend d n f) | false ↦ Op k (replace_divisors d n f) ])
  divided_step k f true t o c g h = operation_taken Mul (dividend d n f) (product_taken f (t tt) h) h
  divided_step k f false t o c g h = operation_taken k (replace_divisors d n f) (subst (λ (m : ℕ). T (operands_ok k m)) (sym c) o) g

  divided_count : (f : Forest) → operand_count (replace_divisors d n f) ≡ operand_count f
  unfolding replace_divisors operand_count
  divided_count nil = refl
  divided_count (t ◂ f) = ap suc (divided_count f)

  mutual
    unfolding replace_divisor

    divided_taken : (t : Tree) → Taken t → Taken (replace_divisor d n t)
    divided_taken (Sym s) h = h
    divided_taken (Const c) h = h
    divided_taken (Op k f) h =
        divided_step k f (eqb k Div && divides_by d f) (λ t. and_right (eqb k Div) (divides_by d f) t) (kind_taken k f h) (divided_count f) (divided_taken_each f (operands_taken k f h))
        (dividend_taken f (operands_taken k f h))

    divided_taken_each : (f : Forest) → TakenEach f → TakenEach (replace_divisors d n f)
    divided_taken_each nil h = h
    divided_taken_each (t ◂ f) h = cons_taken (replace_divisor d n t) (replace_divisors d n f) (divided_taken t (head_taken t f h)) (divided_taken_each f (tail_taken t f h))

    dividend_taken : (f : Forest) → TakenEach f → TakenEach (dividend d n f)
    dividend_taken nil h = h
    dividend_taken (t ◂ f) h = cons_taken (replace_divisor d n t) (Sym n ◂ nil) (divided_taken t (head_taken t f h)) (cons_taken (Sym n) nil (symbol_taken n name_ok) nil_taken)

-- ---- outside arms

module _ (target : Tree) (n : Name) (name_ok : T (symbol_ok n)) where
  leaf_taken : (t : Tree) → Taken t → (b : Bool) → Taken (elim b [ true ↦ Sym n | false ↦ t ])
  leaf_taken t h true = symbol_taken n name_ok
  leaf_taken t h false = h

  -- as many operands, each of which fits
  abbrev Same : Forest → Forest → Type 0
  Same f r = TakenEach r × (operand_count r ≡ operand_count f)

  same_either : (f g r : Forest) (b : Bool) → Same f g → Same f r → Same f (elim b [ true ↦ g | false ↦ r ])
  same_either f g r true x y = x
  same_either f g r false x y = y

  same_node : (k : ℕ) (f r : Forest) → Taken (Op k f) → Same f r → Taken (Op k r)
  same_node k f r h z = operation_taken k r (subst (λ (m : ℕ). T (operands_ok k m)) (sym z.1) (kind_taken k f h)) z.0

  mutual
    unfolding replace_outside_arms operand_count

    outside_taken : (t : Tree) → Taken t → Taken (replace_outside_arms target n t)
    outside_taken (Sym s) h = leaf_taken (Sym s) h (eq_tree (Sym s) target)
    outside_taken (Const c) h = leaf_taken (Const c) h (eq_tree (Const c) target)
    outside_taken (Op k f) h =
        let r = elim (is_switch k) as (λ _. Forest) [ true ↦ replace_key target n f | false ↦ replace_operands target n f ] in
        leaf_taken (Op k r)
        (same_node k f r h (same_either f (replace_key target n f) (replace_operands target n f) (is_switch k) (key_taken f (operands_taken k f h)) (outside_operands_taken f (operands_taken k f h))))
        (eq_tree (Op k f) target)

    outside_operands_taken : (f : Forest) → TakenEach f → Same f (replace_operands target n f)
    outside_operands_taken nil h = (h, refl)
    outside_operands_taken (t ◂ f) h =
        let q = outside_operands_taken f (tail_taken t f h) in
        (cons_taken (replace_outside_arms target n t) (replace_operands target n f) (outside_taken t (head_taken t f h)) q.0, ap suc q.1)

    key_taken : (f : Forest) → TakenEach f → Same f (replace_key target n f)
    key_taken nil h = (h, refl)
    key_taken (t ◂ f) h = (cons_taken (replace_outside_arms target n t) f (outside_taken t (head_taken t f h)) (tail_taken t f h), refl)

-- ---- and no larger than a list may be

abbrev pub Fits : Tree → Type 0
Fits t = T (taken symbol_ok t) × (size t ≤ 1024)

abbrev pub FitsEach : Forest → Type 0
FitsEach f = T (taken_each symbol_ok f) × (sizes f ≤ 1024)

abbrev pub FitsAll : List Tree → Type 0
FitsAll l = AllTrees Fits l

pub fit_trees : (l : List Tree) → FitsAll l → T (trees_ok l)
unfolding trees_ok
fit_trees [] h = tt
fit_trees (t ∷ l) h = and_both (tree_ok t) (trees_ok l) (subst T (sym (tree_same t)) h.0.0) (fit_trees l h.1)

-- each root of a list that passes 9
pub passes_fit : (l : List Tree) → T (passes l) → FitsAll l
unfolding passes
passes_fit l h =
    let g = and_right (leb (length l) 64) (within_limits l && expressions l) h in
    go l (and_right (within_limits l) (expressions l) g) (limits_rows l (and_left (within_limits l) (expressions l) g))
  where
    go : (l : List Tree) → T (expressions l) → occurrences l ≤ 1024 → FitsAll l
    go [] h n = tt
    go (t ∷ l) h n = (
      (expression_taken t (unfold expressions in and_left (expression t) (expressions l) h), (unfold occurrences in omega arith)),
      go l (unfold expressions in and_right (expression t) (expressions l) h) (unfold occurrences in omega arith),
    )

pub kind_fits : (k : ℕ) (f : Forest) → Fits (Op k f) → T (operands_ok k (operand_count f))
kind_fits k f h = kind_taken k f h.0

pub operands_fit : (k : ℕ) (f : Forest) → Fits (Op k f) → FitsEach f
operands_fit k f h = (operands_taken k f h.0, omega (arith, size_op k f, h.1))

forest_sizes : (t : Tree) (f : Forest) → sizes (t ◂ f) ≡ size t + sizes f
unfolding sum_each
forest_sizes t f = refl

pub head_fits : (t : Tree) (f : Forest) → FitsEach (t ◂ f) → Fits t
head_fits t f h = (head_taken t f h.0, omega (arith, forest_sizes t f, h.1))

pub tail_fits : (t : Tree) (f : Forest) → FitsEach (t ◂ f) → FitsEach f
tail_fits t f h = (tail_taken t f h.0, omega (arith, forest_sizes t f, h.1))

pub xname_ok : (i : ℕ) → T (symbol_ok (xname i))
unfolding symbol_ok
xname_ok i = tt

pub mname_ok : (i : ℕ) → T (symbol_ok (mname i))
unfolding symbol_ok
mname_ok i = tt

pub list_fits : (f : Forest) → FitsEach f → FitsAll (operands f)
unfolding operands
list_fits nil h = tt
list_fits (t ◂ f) h = (head_fits t f h, list_fits f (tail_fits t f h))

-- ---- nodes

mutual
  unfolding nodes

  nodes_fit : (t : Tree) → Fits t → FitsAll (nodes t)
  nodes_fit (Sym n) h = (h, tt)
  nodes_fit (Const c) h = (h, tt)
  nodes_fit (Op k f) h = (h, nodes_of_fit f (operands_fit k f h))

  nodes_of_fit : (f : Forest) → FitsEach f → FitsAll (nodes_of f)
  nodes_of_fit nil h = tt
  nodes_of_fit (t ◂ f) h = trees_append Fits (nodes t) (nodes_of f) (nodes_fit t (head_fits t f h)) (nodes_of_fit f (tail_fits t f h))

pub all_nodes_fit : (l : List Tree) → FitsAll l → FitsAll (all_nodes l)
unfolding all_nodes
all_nodes_fit [] h = tt
all_nodes_fit (t ∷ l) h = trees_append Fits (nodes t) (all_nodes l) (nodes_fit t h.0) (all_nodes_fit l h.1)

outer_part : (b : Bool) (x y : List Tree) → FitsAll x → FitsAll y → FitsAll (elim b [ true ↦ x | false ↦ y ])
outer_part true x y g h = g
outer_part false x y g h = h

mutual
  unfolding outer

  outer_fit : (t : Tree) → Fits t → FitsAll (outer t)
  outer_fit (Sym n) h = (h, tt)
  outer_fit (Const c) h = (h, tt)
  outer_fit (Op k f) h =
      (h, outer_part (is_switch k) (outer_first f) (outer_of f) (outer_first_fit f (operands_fit k f h)) (outer_of_fit f (operands_fit k f h)))

  outer_of_fit : (f : Forest) → FitsEach f → FitsAll (outer_of f)
  outer_of_fit nil h = tt
  outer_of_fit (t ◂ f) h = trees_append Fits (outer t) (outer_of f) (outer_fit t (head_fits t f h)) (outer_of_fit f (tail_fits t f h))

  outer_first_fit : (f : Forest) → FitsEach f → FitsAll (outer_first f)
  outer_first_fit nil h = tt
  outer_first_fit (t ◂ f) h = outer_fit t (head_fits t f h)

pub all_outer_fit : (l : List Tree) → FitsAll l → FitsAll (all_outer l)
unfolding all_outer
all_outer_fit [] h = tt
all_outer_fit (t ∷ l) h = trees_append Fits (outer t) (all_outer l) (outer_fit t h.0) (all_outer_fit l h.1)

inverse_size : (d : Tree) → size (inverse d) ≡ size d + 2
unfolding inverse
inverse_size d =
    let one : size (Const (pos 1)) ≡ 1 = size_const (pos 1) in
    let none : sizes nil ≡ 0 = (unfold sum_each in refl) in
    omega (arith, size_op Div (Const (pos 1) ◂ d ◂ nil), forest_sizes (Const (pos 1)) (d ◂ nil), forest_sizes d nil, one, none)

-- ---- divisors, each as the reciprocal that may be bound: a division has two nodes more than its divisor

if_inverse_fits : Option Tree → Type 0
if_inverse_fits none = Unit {0}
if_inverse_fits (some d) = Fits (inverse d)

divisor_fits : (t : Tree) → Fits t → if_inverse_fits (divisor_of t)
unfolding divisor_of if_inverse_fits
divisor_fits (Sym n) h = tt
divisor_fits (Const c) h = tt
divisor_fits (Op k nil) h = tt
divisor_fits (Op k (a ◂ nil)) h = tt
divisor_fits (Op k (a ◂ (b ◂ f))) h = go (eqb k Div)
  where
    parts : FitsEach (a ◂ (b ◂ f))
    parts = operands_fit k (a ◂ (b ◂ f)) h

    small : size (inverse b) ≤ 1024
    small = omega (arith, inverse_size b, size_op k (a ◂ (b ◂ f)), forest_sizes a (b ◂ f), forest_sizes b f, size_up a, h.1)

    go : (c : Bool) → if_inverse_fits (cond c (some b) none)
    go true = (inverse_taken b (head_fits b f (tail_fits a (b ◂ f) parts)).0, small)
    go false = tt

pub divisors_fit : (l : List Tree) → FitsAll l → AllTrees (λ d. Fits (inverse d)) (divisors l)
unfolding divisors if_inverse_fits
divisors_fit [] h = tt
divisors_fit (t ∷ l) h = go (divisor_of t) (divisor_fits t h.0) (divisors_fit l h.1)
  where
    go : (o : Option Tree) → if_inverse_fits o → AllTrees (λ d. Fits (inverse d)) (divisors l) → AllTrees (λ d. Fits (inverse d)) (elim o [ none ↦ divisors l | some d ↦ d ∷ divisors l ])
    go none g k = k
    go (some d) g k = (g, k)

-- ---- rewriting

pub divided_fits : (d : Tree) (i : ℕ) (t : Tree) → Fits t → Fits (replace_divisor d (xname i) t)
divided_fits d i t h = (divided_taken d (xname i) (xname_ok i) t h.0, omega (arith, divisor_size d (xname i) t, h.1))

pub outside_fits : (m : Tree) (i : ℕ) (t : Tree) → Fits t → Fits (replace_outside_arms m (mname i) t)
outside_fits m i t h = (outside_taken m (mname i) (mname_ok i) t h.0, omega (arith, outside_size m (mname i) t, h.1))

module _ (x : Tree) (i : ℕ) (some_symbol : T (has_symbol x)) where
  pub replaced_fits : (t : Tree) → Fits t → Good Fits (replace x (xname i) t)
  unfolding Good
  replaced_fits t h = go (replace x (xname i) t) refl (replace_fits symbol_ok x (xname i) (xname_ok i) t h.0)
    where
      go : (o : Outcome Tree) → replace x (xname i) t ≡ o → Good (λ (r : Tree). T (taken symbol_ok r)) o → Good Fits o
      go (ok r) e g = (g, omega (arith, (replace_shrinks by_size x (xname i) (least_size (xname i)) (λ _. symbol_factor x some_symbol) t r (taken_formed symbol_ok t h.0) e).0, h.1))
      go (refused j) e g = tt

  pub each_replaced_fit : (l : List Tree) → FitsAll l → Good FitsAll (each (λ e. replace x (xname i) e) l)
  unfolding each
  each_replaced_fit [] h = good_ok FitsAll [] tt
  each_replaced_fit (t ∷ l) h =
      then_good Fits FitsAll (replace x (xname i) t) (replaced_fits t h.0) (λ b. each (λ e. replace x (xname i) e) l >>= λ r. ok (b ∷ r))
      (λ b q. then_good FitsAll FitsAll (each (λ e. replace x (xname i) e) l) (each_replaced_fit l h.1) (λ r. ok (b ∷ r)) (λ r z. good_ok FitsAll (b ∷ r) (q, z)))
