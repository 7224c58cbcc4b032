-- `replace`, `replace_divisor` and `replace_outside_arms` of the source, on trees (01, "Rewriting", "Reciprocals", "Scoped fusion"). Assumes nothing.
use Rattle.std.specs.Prelude.{ℕ, zero, suc, ◌+◌, ◌*◌, ◌/◌, ◌%◌, ◌^◌, Bool, true, false, ◌&&◌, List, [], ◌∷◌, ◌++◌, ℤ, pos, negsuc, eqb, ltb, Float}
use Rattle.std.proofs.Math.Option.{Option, none, some}
use Rattle.std.specs.Float.Ieee as Ieee
use Rattle.std.specs.Float.{nan, inf, fin, binary64}
use Rattle.std.specs.Float.Ieee.{up, down}
use Rattle.spec_tree.specs.Outcome.{Outcome, ok, refused, ◌>>=◌, by}
use Rattle.spec_tree.specs.Tree.{Name, Tree, Forest, Sym, Const, Op, nil, ◌◂◌, eq_tree, eq_int}
use Rattle.spec_tree.specs.Kinds.{Neg, Mul, Div, is_switch}
use Rattle.spec_tree.specs.Facts.{size}

-- ---- products (01, "Rewriting")

-- an f64 coefficient and the factors, in order
abbrev pub Factors : Type 0
Factors = record { coefficient : Float; factors : List Tree }

unfoldable pub one : Float
one = fin false 1 (pos 0)

unfoldable pub negated : Factors → Factors
unfolding Ieee.neg
negated p = record { coefficient = Ieee.neg p.coefficient; factors = p.factors }

unfoldable pub times : Factors → Factors → Factors
unfolding Ieee.mul
times p q = record { coefficient = Ieee.mul binary64 p.coefficient q.coefficient; factors = p.factors ++ q.factors }

-- `flatten_mul_factors`. A Mul's operands are multiplied from the left, and a Neg's are too, so that no clause turns on how many there are.
unfoldable mutual
  unfolding negated times one Ieee.of_int

  pub flatten_mul_factors : Tree → Factors
  flatten_mul_factors (Sym n) = record { coefficient = one; factors = Sym n ∷ [] }
  flatten_mul_factors (Const c) = record { coefficient = Ieee.of_int binary64 c; factors = [] }
  flatten_mul_factors (Op k f) =
      elim (eqb k Mul) [
        | true ↦ flatten_operands f
        | false ↦ elim (eqb k Neg) [ true ↦ negated (flatten_operands f) | false ↦ record { coefficient = one; factors = Op k f ∷ [] } ]
      ]

  pub flatten_operands : Forest → Factors
  flatten_operands nil = record { coefficient = one; factors = [] }
  flatten_operands (t ◂ f) = flatten_after f (flatten_mul_factors t)

  pub flatten_after : Forest → Factors → Factors
  flatten_after nil p = p
  flatten_after (t ◂ f) p = flatten_after f (times p (flatten_mul_factors t))

-- an integer by its sign and size; minus zero is none
unfoldable pub whole_number : Bool → ℕ → Outcome ℤ
whole_number false n = ok (pos n)
whole_number true zero = refused (by 10)
whole_number true (suc n) = ok (negsuc n)

-- The integer of a rebuilt coefficient, or refusal 10: minus zero, an infinity, NaN, a fraction, or 10^15 and more in magnitude.
unfoldable pub constant_of : Float → Outcome ℤ
unfolding whole_number
constant_of nan = refused (by 10)
constant_of (inf s) = refused (by 10)
constant_of (fin s m e) =
    elim (eqb (m * up e % down e) 0 && ltb (m * up e / down e) (10 ^ 15)) [ true ↦ whole_number s (m * up e / down e) | false ↦ refused (by 10) ]

-- left-nested
unfoldable pub nested_product : Tree → List Tree → Tree
nested_product t [] = t
nested_product t (f ∷ l) = nested_product (Op Mul (t ◂ f ◂ nil)) l

unfoldable pub with_coefficient : ℤ → Tree → Tree
unfolding eq_int
with_coefficient c t =
    elim (eq_int c (pos 1)) [
      | true ↦ t
      | false ↦ elim (eq_int c (negsuc 0)) [ true ↦ Op Neg (t ◂ nil) | false ↦ Op Mul (Const c ◂ t ◂ nil) ]
    ]

unfoldable pub built : ℤ → List Tree → Tree
unfolding nested_product with_coefficient
built c [] = Const c
built c (t ∷ l) = with_coefficient c (nested_product t l)

unfoldable pub build_mul_from_factors : Factors → Outcome Tree
unfolding constant_of built
build_mul_from_factors p = constant_of p.coefficient >>= λ c. ok (built c p.factors)

-- ---- replace (01, "Rewriting")

-- without the first factor equal to t
unfoldable pub remove_first : Tree → List Tree → Option (List Tree)
unfolding eq_tree
remove_first t [] = none
remove_first t (f ∷ l) =
    elim (eq_tree f t) [ true ↦ some l | false ↦ elim (remove_first t l) [ none ↦ none | some r ↦ some (f ∷ r) ] ]

-- without each factor of the first list in turn, or none where one is missing
unfoldable pub remove_each : List Tree → List Tree → Option (List Tree)
unfolding remove_first
remove_each [] l = some l
remove_each (t ∷ ts) l = elim (remove_first t l) [ none ↦ none | some r ↦ remove_each ts r ]

unfoldable pub is_mul : Tree → Bool
is_mul (Sym n) = false
is_mul (Const c) = false
is_mul (Op k f) = eqb k Mul

-- The product e with the target's factors taken out and the name put at its end, where the target is a Mul with coefficient 1
-- whose factors are all there. The coefficient is e's.
unfoldable pub match_factors : Tree → Name → Tree → Option Factors
unfolding flatten_mul_factors remove_each is_mul one Ieee.eq
match_factors target n e =
    elim (is_mul target && Ieee.eq (flatten_mul_factors target).coefficient one) [
      | true ↦ elim (remove_each (flatten_mul_factors target).factors (flatten_mul_factors e).factors) [
        | none ↦ none
        | some r ↦ some (record { coefficient = (flatten_mul_factors e).coefficient; factors = r ++ (Sym n ∷ []) })
      ]
      | false ↦ none
    ]

-- a step at each operand, left to right
unfoldable pub each_operand : (Tree → Outcome Tree) → Forest → Outcome Forest
each_operand g nil = ok nil
each_operand g (t ◂ f) = g t >>= λ u. each_operand g f >>= λ r. ok (u ◂ r)

-- The first argument bounds how deep the calls go. Weigh the new name 1 and every other node 2: an operand weighs less than its
-- node, and a product rebuilt after a match less than the product, so twice the size is enough.
unfoldable pub replace_within : ℕ → Tree → Name → Tree → Outcome Tree
unfolding eq_tree match_factors build_mul_from_factors each_operand
replace_within zero target n e = ok e
replace_within (suc fuel) target n (Sym s) = elim (eq_tree (Sym s) target) [ true ↦ ok (Sym n) | false ↦ ok (Sym s) ]
replace_within (suc fuel) target n (Const c) = elim (eq_tree (Const c) target) [ true ↦ ok (Sym n) | false ↦ ok (Const c) ]
replace_within (suc fuel) target n (Op k f) =
    elim (eq_tree (Op k f) target) [
      | true ↦ ok (Sym n)
      | false ↦ elim (eqb k Mul) [
        | true ↦ elim (match_factors target n (Op k f)) [
          | none ↦ (each_operand (λ t. replace_within fuel target n t) f >>= λ g. ok (Op k g))
          | some p ↦ (build_mul_from_factors p >>= λ t. replace_within fuel target n t)
        ]
        | false ↦ (each_operand (λ t. replace_within fuel target n t) f >>= λ g. ok (Op k g))
      ]
    ]

unfoldable pub replace : Tree → Name → Tree → Outcome Tree
unfolding replace_within size
replace target n e = replace_within (2 * size e) target n e

-- ---- replace_divisor: a / d becomes a * n (01, "Reciprocals")

unfoldable pub divides_by : Tree → Forest → Bool
unfolding eq_tree
divides_by d nil = false
divides_by d (a ◂ nil) = false
divides_by d (a ◂ (b ◂ f)) = eq_tree b d

module _ (d : Tree) (n : Name) where
  unfoldable mutual
    unfolding divides_by

    pub replace_divisor : Tree → Tree
    replace_divisor (Sym s) = Sym s
    replace_divisor (Const c) = Const c
    replace_divisor (Op k f) = elim (eqb k Div && divides_by d f) [ true ↦ Op Mul (dividend f) | false ↦ Op k (replace_divisors f) ]

    pub replace_divisors : Forest → Forest
    replace_divisors nil = nil
    replace_divisors (t ◂ f) = replace_divisor t ◂ replace_divisors f

    pub dividend : Forest → Forest
    dividend nil = nil
    dividend (t ◂ f) = replace_divisor t ◂ Sym n ◂ nil

-- ---- replace_outside_arms: never below a switch's operands after the first (01, "Scoped fusion")

module _ (target : Tree) (n : Name) where
  unfoldable mutual
    unfolding eq_tree

    pub replace_outside_arms : Tree → Tree
    replace_outside_arms (Sym s) = elim (eq_tree (Sym s) target) [ true ↦ Sym n | false ↦ Sym s ]
    replace_outside_arms (Const c) = elim (eq_tree (Const c) target) [ true ↦ Sym n | false ↦ Const c ]
    replace_outside_arms (Op k f) =
        elim (eq_tree (Op k f) target) [
          | true ↦ Sym n
          | false ↦ Op k (elim (is_switch k) [ true ↦ replace_key f | false ↦ replace_operands f ])
        ]

    pub replace_operands : Forest → Forest
    replace_operands nil = nil
    replace_operands (t ◂ f) = replace_outside_arms t ◂ replace_operands f

    pub replace_key : Forest → Forest
    replace_key nil = nil
    replace_key (t ◂ f) = replace_outside_arms t ◂ f
