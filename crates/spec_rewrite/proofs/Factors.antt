-- The factors of a product: what they are, what is left of them where a target's are taken out, and the product built from the rest.
-- Assumes nothing.
use Prim.Native.Nat.{ℕ, ◌+◌, ◌≤◌}
use mathlib.Core.Path.{◌≡◌, refl, sym, ◌∙◌, ap, ap₂, subst}
use mathlib.Core.Bool.{Bool, true, false, ◌&&◌}
use mathlib.Core.Option.{Option, none, some}
use mathlib.Core.List.{List, [], ◌∷◌, ◌++◌, append_assoc, append-nil}
use native.Mathlib.Omega.{arith}
use native.Mathlib.Nat.{add-zero, zero-add}
use lib.IntN.{ℤ, pos, negsuc}
use lib.Dec.{T, eqb}
use lib.Ieee as Ieee
use Rattle.spec_tree.specs.Tree.{Name, Tree, Forest, Sym, Const, Op, nil, ◌◂◌, eq_tree, eq_int}
use Rattle.spec_tree.specs.Kinds.{Neg, Mul, arity_ok}
use Rattle.spec_tree.proofs.Formed.{operand_count, well_formed, well_formed_each}
use Rattle.spec_tree.proofs.TreeLaws.{eq_tree_sound}
use Rattle.spec_tree.proofs.Logic.{and_left, and_right, and_both}
use Rattle.spec_rewrite.specs.Rewrite.{Factors, one, flatten_mul_factors, flatten_operands, flatten_after, times, negated, nested_product, with_coefficient, built, remove_first, remove_each, is_mul, match_factors}
use Rattle.spec_rewrite.proofs.Measure.{sum_of, sum_append, sum_each, one_of, one_self}

abbrev pub factors_of : Tree → List Tree
factors_of e = (flatten_mul_factors e).factors

-- a node that is no product and no minus sign is its own factor
pub factors_alone : (k : ℕ) (f : Forest) → eqb k Mul ≡ false → eqb k Neg ≡ false → factors_of (Op k f) ≡ Op k f ∷ []
unfolding flatten_mul_factors
factors_alone k f p q =
    ap₂
    (λ (b c : Bool). (elim b as (λ _. Factors) [ true ↦ flatten_operands f | false ↦ elim c [ true ↦ negated (flatten_operands f) | false ↦ record { coefficient = one; factors = Op k f ∷ [] } ] ]).factors)
    p q

-- and any other has those of its operands
pub factors_cases :
    (P : List Tree → Type 0) (k : ℕ) (f : Forest) → P (flatten_operands f).factors → (factors_of (Op k f) ≡ Op k f ∷ [] → P (Op k f ∷ [])) → P (factors_of (Op k f))
unfolding flatten_mul_factors negated
factors_cases P k f h i = go (eqb k Mul) refl (eqb k Neg) refl
  where
    go : (b : Bool) → eqb k Mul ≡ b → (c : Bool) → eqb k Neg ≡ c
        → P (elim b as (λ _. Factors) [ true ↦ flatten_operands f | false ↦ elim c [ true ↦ negated (flatten_operands f) | false ↦ record { coefficient = one; factors = Op k f ∷ [] } ] ]).factors
    go true p c q = h
    go false p true q = h
    go false p false q = i (factors_alone k f p q)

-- a sum over the factors of operands
sum_after : (μ : Tree → ℕ) (f : Forest) (p : Factors) → sum_of μ (flatten_after f p).factors ≡ sum_of μ p.factors + sum_each (λ t. sum_of μ (factors_of t)) f
unfolding flatten_mul_factors sum_each times
sum_after μ nil p = sym (add-zero (sum_of μ p.factors))
sum_after μ (t ◂ f) p = (let a = sum_after μ f (times p (flatten_mul_factors t)) in let b = sum_append μ p.factors (factors_of t) in omega arith)

pub sum_factors : (μ : Tree → ℕ) (f : Forest) → sum_of μ (flatten_operands f).factors ≡ sum_each (λ t. sum_of μ (factors_of t)) f
unfolding flatten_mul_factors sum_of sum_each
sum_factors μ nil = refl
sum_factors μ (t ◂ f) = sum_after μ f (flatten_mul_factors t)

-- ---- each factor of a well-formed tree is well-formed, and its own only factor

abbrev pub All : (Tree → Type 0) → List Tree → Type 0
All P [] = Unit {0}
All P (t ∷ l) = P t × All P l

pub append_all : (P : Tree → Type 0) (s t : List Tree) → All P s → All P t → All P (s ++ t)
append_all P [] t g h = h
append_all P (x ∷ s) t g h = (g.0, append_all P s t g.1 h)

abbrev pub Factor : Tree → Type 0
Factor t = T (well_formed t) × (factors_of t ≡ t ∷ [])

symbol_is_factor : (n : Name) → All Factor (Sym n ∷ [])
unfolding well_formed flatten_mul_factors
symbol_is_factor n = ((tt, refl), tt)

mutual
  unfolding flatten_mul_factors well_formed times

  factors_all : (e : Tree) → T (well_formed e) → All Factor (factors_of e)
  factors_all (Sym s) w = ((tt, refl), tt)
  factors_all (Const c) w = tt
  factors_all (Op k f) w = factors_cases (All Factor) k f (operands_all f (and_right (arity_ok k (operand_count f)) (well_formed_each f) w)) (λ e. ((w, e), tt))

  operands_all : (f : Forest) → T (well_formed_each f) → All Factor (flatten_operands f).factors
  operands_all nil w = tt
  operands_all (t ◂ f) w =
      after_all f (flatten_mul_factors t) (and_right (well_formed t) (well_formed_each f) w) (factors_all t (and_left (well_formed t) (well_formed_each f) w))

  after_all : (f : Forest) (p : Factors) → T (well_formed_each f) → All Factor p.factors → All Factor (flatten_after f p).factors
  after_all nil p w h = h
  after_all (t ◂ f) p w h =
      after_all f (times p (flatten_mul_factors t)) (and_right (well_formed t) (well_formed_each f) w)
      (append_all Factor p.factors (factors_of t) h (factors_all t (and_left (well_formed t) (well_formed_each f) w)))

-- ---- a product built from such factors has these, and is well-formed

product_factors : (t : Tree) (l : List Tree) → All Factor l → factors_of (nested_product t l) ≡ factors_of t ++ l
unfolding nested_product flatten_mul_factors times
product_factors t [] a = sym (append-nil (factors_of t))
product_factors t (f ∷ l) a =
    product_factors (Op Mul (t ◂ f ◂ nil)) l a.1 ∙ ap (λ (m : List Tree). (factors_of t ++ m) ++ l) a.0.1 ∙ append_assoc (factors_of t) (f ∷ []) l

product_formed : (t : Tree) (l : List Tree) → T (well_formed t) → All Factor l → T (well_formed (nested_product t l))
unfolding nested_product well_formed
product_formed t [] g h = g
product_formed t (f ∷ l) g h =
    product_formed (Op Mul (t ◂ f ◂ nil)) l (and_both (well_formed t) (well_formed f && true) g (and_both (well_formed f) true h.0.0 tt)) h.1

coefficient_step :
    (c : ℤ) (t : Tree) (b d : Bool) → T (well_formed t)
    → let r : Tree = elim b [ true ↦ t | false ↦ elim d [ true ↦ Op Neg (t ◂ nil) | false ↦ Op Mul (Const c ◂ t ◂ nil) ] ] in
    (factors_of r ≡ factors_of t) × T (well_formed r)
unfolding flatten_mul_factors negated times well_formed
coefficient_step c t true d w = (refl, w)
coefficient_step c t false true w = (refl, and_both (well_formed t) true w tt)
coefficient_step c t false false w = (refl, and_both (well_formed t) true w tt)

pub built_factors : (c : ℤ) (l : List Tree) → All Factor l → (factors_of (built c l) ≡ l) × T (well_formed (built c l))
unfolding built with_coefficient
built_factors c [] a = (unfold flatten_mul_factors well_formed in (refl, tt))
built_factors c (t ∷ l) a =
    let s = coefficient_step c (nested_product t l) (eq_int c (pos 1)) (eq_int c (negsuc 0)) (product_formed t l a.0.0 a.1) in
    (s.0 ∙ product_factors t l a.1 ∙ ap (λ (m : List Tree). m ++ l) a.0.1, s.1)

-- ---- factors taken out

-- l is r with t put in somewhere, and with each of several put in
pub data Put : Tree → List Tree → List Tree → Type 0 where
  here : {t : Tree} {r : List Tree} → Put t r (t ∷ r)
  past : {t f : Tree} {r l : List Tree} → Put t r l → Put t (f ∷ r) (f ∷ l)

pub data Puts : List Tree → List Tree → List Tree → Type 0 where
  done : {r : List Tree} → Puts [] r r
  also : {t : Tree} {ts r s l : List Tree} → Put t s l → Puts ts r s → Puts (t ∷ ts) r l

-- every sum is the two sums together
put_sum : (μ : Tree → ℕ) {t : Tree} {r l : List Tree} → Put t r l → sum_of μ l ≡ μ t + sum_of μ r
unfolding sum_of
put_sum μ here = refl
put_sum μ (past p) = (let a = put_sum μ p in omega arith)

pub puts_sum : (μ : Tree → ℕ) {ts r l : List Tree} → Puts ts r l → sum_of μ l ≡ sum_of μ ts + sum_of μ r
unfolding sum_of
puts_sum μ (done {r = r}) = sym (zero-add (sum_of μ r))
puts_sum μ (also p q) = (let a = put_sum μ p in let b = puts_sum μ q in omega arith)

-- what all have, the rest have
put_all : (P : Tree → Type 0) {t : Tree} {r l : List Tree} → Put t r l → All P l → All P r
put_all P here a = a.1
put_all P (past p) a = (a.0, put_all P p a.1)

pub puts_all : (P : Tree → Type 0) {ts r l : List Tree} → Puts ts r l → All P l → All P r
puts_all P done a = a
puts_all P (also p q) a = puts_all P q (put_all P p a)

-- the first that is equal is taken out, or there is none
First : Tree → List Tree → Option (List Tree) → Type 0
First t l none = sum_of (λ y. one_of y t) l ≡ 0
First t l (some r) = Put t r l

first_step :
    (t f : Tree) (l : List Tree) (b : Bool) → (T b → f ≡ t) → one_of f t ≡ elim b [ true ↦ 1 | false ↦ 0 ] → (o : Option (List Tree)) → First t l o
    → First t (f ∷ l) (elim b [ true ↦ some l | false ↦ elim o [ none ↦ none | some r ↦ some (f ∷ r) ] ])
unfolding First sum_of
first_step t f l true e q o h = subst (λ (s : Tree). Put t l (s ∷ l)) (sym (e tt)) here
first_step t f l false e q none h = omega arith
first_step t f l false e q (some r) h = past h

first : (t : Tree) (l : List Tree) → First t l (remove_first t l)
unfolding First remove_first sum_of one_of
first t [] = refl
first t (f ∷ l) = first_step t f l (eq_tree f t) (eq_tree_sound f t) refl (remove_first t l) (first t l)

-- each of several is, or they are not all there
Left : List Tree → List Tree → Option (List Tree) → Type 0
Left ts l none = ((μ : Tree → ℕ) → sum_of μ ts ≤ sum_of μ l) → ⊥
Left ts l (some r) = Puts ts r l

left_step :
    (t : Tree) (ts l : List Tree) (o : Option (List Tree)) → First t l o → ((r : List Tree) → Left ts r (remove_each ts r))
    → Left (t ∷ ts) l (elim o [ none ↦ none | some r ↦ remove_each ts r ])
unfolding First Left sum_of
left_step t ts l none h k = λ f. (let a = f (λ y. one_of y t) in let d = one_self t in omega arith)
left_step t ts l (some r) h k = on (remove_each ts r) (k r)
  where
    on : (o : Option (List Tree)) → Left ts r o → Left (t ∷ ts) l o
    on none j = λ f. j (λ μ. (let a = f μ in let b = put_sum μ h in omega arith))
    on (some s) j = also h j

left : (ts l : List Tree) → Left ts l (remove_each ts l)
unfolding Left remove_each
left [] l = done
left (t ∷ ts) l = left_step t ts l (remove_first t l) (first t l) (λ r. left ts r)

pub puts_from : (ts l r : List Tree) → remove_each ts l ≡ some r → Puts ts r l
unfolding Left
puts_from ts l r e = subst (Left ts l) e (left ts l)

-- the targets that are matched by their factors
abbrev pub Product : Tree → Type 0
Product target = T (is_mul target && Ieee.eq (flatten_mul_factors target).coefficient one)

-- what a match of a product e with the target says
module _ (target : Tree) (n : Name) where
  unfoldable pub Matched : Tree → Option Factors → Type 0
  Matched e none = Product target → ((μ : Tree → ℕ) → sum_of μ (factors_of target) ≤ sum_of μ (factors_of e)) → ⊥
  Matched e (some p) =
      (r : List Tree) × (p ≡ record { coefficient = (flatten_mul_factors e).coefficient; factors = r ++ (Sym n ∷ []) }) × Puts (factors_of target) r (factors_of e) × Product target

  matched_step :
      (e : Tree) (b : Bool) → (is_mul target && Ieee.eq (flatten_mul_factors target).coefficient one) ≡ b → (o : Option (List Tree)) → Left (factors_of target) (factors_of e) o
      → Matched e
      (elim b [
        | true ↦ elim o [
          | none ↦ none
          | some r ↦ some (record { coefficient = (flatten_mul_factors e).coefficient; factors = r ++ (Sym n ∷ []) })
        ]
        | false ↦ none
      ])
  unfolding Matched Left
  matched_step e true q none h = λ u. h
  matched_step e true q (some r) h = (r, refl, h, subst T (sym q) tt)
  matched_step e false q o h = λ u. absurd (subst T q u)

  pub matched : (e : Tree) → Matched e (match_factors target n e)
  unfolding match_factors
  matched e =
      matched_step e (is_mul target && Ieee.eq (flatten_mul_factors target).coefficient one) refl (remove_each (factors_of target) (factors_of e))
      (left (factors_of target) (factors_of e))

-- the factors that are left, and the name
pub rest_all : (n : Name) (e : Tree) {ts r : List Tree} → T (well_formed e) → Puts ts r (factors_of e) → All Factor (r ++ (Sym n ∷ []))
rest_all n e {r = r} w p = append_all Factor r (Sym n ∷ []) (puts_all Factor p (factors_all e w)) (symbol_is_factor n)
