-- The factors of a well-formed tree are each their own only factor, with coefficient 1; a product built from such has its coefficient exactly. Assumes nothing.
use Rattle.std.proofs.Common.{◌≡◌, ℕ, Bool, true, false, T, eqb, List, [], ◌∷◌, ℤ, pos, negsuc, sym, refl, ap, ◌∙◌, subst, ap₂, arith}
use lib.Ieee as Ieee
use lib.Ieee.{binary64}
use Rattle.spec_tree.specs.Outcome.{ok}
use Rattle.spec_tree.specs.Tree.{Name, Tree, Forest, Sym, Const, Op, nil, ◌◂◌, eq_int}
use Rattle.spec_tree.specs.Kinds.{Neg, Mul, arity_ok}
use Rattle.spec_tree.proofs.Formed.{operand_count, well_formed, well_formed_each}
use Rattle.spec_tree.proofs.TreeLaws.{eq_int_sound}
use Rattle.spec_tree.proofs.Logic.{and_left, and_right}
use Rattle.spec_rewrite.specs.Rewrite.{Factors, one, flatten_mul_factors, flatten_operands, flatten_after, times, negated, nested_product, with_coefficient, built, constant_of}
use Rattle.spec_rewrite.proofs.Factors.{All, Factor, factors_of, append_all}
use Rattle.replace.proofs.closed.Unit.{Small, small_accepted, times_one, one_times_one, one_accepted}

pub each_all : (P Q : Tree → Type 0) → ((t : Tree) → P t → Q t) → (l : List Tree) → All P l → All Q l
each_all P Q f [] h = tt
each_all P Q f (t ∷ l) h = (f t h.0, each_all P Q f l h.1)

abbrev single : Tree → Factors
single t = record { coefficient = one; factors = t ∷ [] }

abbrev pub Alone : Tree → Type 0
Alone t = T (well_formed t) × (flatten_mul_factors t ≡ single t)

pub alone_factor : (t : Tree) → Alone t → Factor t
alone_factor t h = (h.0, ap (λ (p : Factors). p.factors) h.1)

pub name_alone : (n : Name) → Alone (Sym n)
unfolding flatten_mul_factors well_formed
name_alone n = (tt, refl)

node_alone : (k : ℕ) (f : Forest) → T (well_formed (Op k f)) → All Alone (flatten_operands f).factors → All Alone (factors_of (Op k f))
unfolding flatten_mul_factors negated
node_alone k f w h = three (eqb k Mul) (eqb k Neg) refl
  where
    three : (b c : Bool)
        → flatten_mul_factors (Op k f) ≡ elim b as (λ _. Factors) [ true ↦ flatten_operands f | false ↦ elim c [ true ↦ negated (flatten_operands f) | false ↦ single (Op k f) ] ]
        → All Alone (elim b as (λ _. Factors) [ true ↦ flatten_operands f | false ↦ elim c [ true ↦ negated (flatten_operands f) | false ↦ single (Op k f) ] ]).factors
    three true c q = h
    three false true q = h
    three false false q = ((w, q), tt)

mutual
  unfolding flatten_mul_factors well_formed times

  pub factors_alone : (e : Tree) → T (well_formed e) → All Alone (factors_of e)
  factors_alone (Sym s) w = (name_alone s, tt)
  factors_alone (Const c) w = tt
  factors_alone (Op k f) w =
      node_alone k f w (operands_alone f (and_right (arity_ok k (operand_count f)) (well_formed_each f) w))

  operands_alone : (f : Forest) → T (well_formed_each f) → All Alone (flatten_operands f).factors
  operands_alone nil w = tt
  operands_alone (t ◂ f) w =
      after_alone f (flatten_mul_factors t) (and_right (well_formed t) (well_formed_each f) w) (factors_alone t (and_left (well_formed t) (well_formed_each f) w))

  after_alone : (f : Forest) (p : Factors) → T (well_formed_each f) → All Alone p.factors → All Alone (flatten_after f p).factors
  after_alone nil p w h = h
  after_alone (t ◂ f) p w h =
      after_alone f (times p (flatten_mul_factors t)) (and_right (well_formed t) (well_formed_each f) w)
      (append_all Alone p.factors (factors_of t) h (factors_alone t (and_left (well_formed t) (well_formed_each f) w)))

-- ---- coefficients

product_one : (t : Tree) (l : List Tree) → (flatten_mul_factors t).coefficient ≡ one → All Alone l → (flatten_mul_factors (nested_product t l)).coefficient ≡ one
unfolding nested_product
product_one t [] e h = e
product_one t (f ∷ l) e h =
    product_one (Op Mul (t ◂ f ◂ nil)) l (two_one t f e (ap (λ (p : Factors). p.coefficient) h.0.1)) h.1
  where
    two_one : (t f : Tree) → (flatten_mul_factors t).coefficient ≡ one → (flatten_mul_factors f).coefficient ≡ one → (flatten_mul_factors (Op Mul (t ◂ f ◂ nil))).coefficient ≡ one
    two_one t f p q = coefficient_two t f ∙ ap₂ (Ieee.mul binary64) p q ∙ one_times_one
      where
        coefficient_two : (t f : Tree) → (flatten_mul_factors (Op Mul (t ◂ f ◂ nil))).coefficient ≡ Ieee.mul binary64 (flatten_mul_factors t).coefficient (flatten_mul_factors f).coefficient
        coefficient_two t f = (unfold flatten_mul_factors times in refl)

-- the coefficient put before a product, by the two tests of it
abbrev pub headed : Bool → Bool → ℤ → Tree → Tree
headed b d c t = elim b [ true ↦ t | false ↦ elim d [ true ↦ Op Neg (t ◂ nil) | false ↦ Op Mul (Const c ◂ t ◂ nil) ] ]

coefficient_const : (c : ℤ) (t : Tree) → (flatten_mul_factors (Op Mul (Const c ◂ t ◂ nil))).coefficient ≡ Ieee.mul binary64 (Ieee.of_int binary64 c) (flatten_mul_factors t).coefficient
unfolding flatten_mul_factors times
coefficient_const c t = refl

-- but for -1, whose product is no product
pub built_coefficient :
    (c : ℤ) (t : Tree) (l : List Tree) → Small c → eq_int c (negsuc 0) ≡ false → All Alone (t ∷ l) → constant_of (flatten_mul_factors (built c (t ∷ l))).coefficient ≡ ok c
unfolding built with_coefficient
built_coefficient c t l h m a = go (eq_int c (pos 1)) refl (eq_int c (negsuc 0)) m
  where
    ones : (flatten_mul_factors (nested_product t l)).coefficient ≡ one
    ones = product_one t l (ap (λ (p : Factors). p.coefficient) a.0.1) a.1

    go : (b : Bool) → eq_int c (pos 1) ≡ b → (d : Bool) → d ≡ false → constant_of (flatten_mul_factors (headed b d c (nested_product t l))).coefficient ≡ ok c
    go true p d q = ap constant_of ones ∙ one_accepted ∙ ap ok (sym (eq_int_sound c (pos 1) (subst T (sym p) tt)))
    go false p true q = (let z : ◌≡◌ {A = ℕ} 0 1 = cc in absurd (omega arith))
    go false p false q = ap constant_of (coefficient_const c (nested_product t l) ∙ ap (Ieee.mul binary64 (Ieee.of_int binary64 c)) ones ∙ times_one c h) ∙ small_accepted c h

-- ---- which is a product

pub nested_mul : (t f : Tree) (l : List Tree) → (g : Forest) × (nested_product t (f ∷ l) ≡ Op Mul g)
unfolding nested_product
nested_mul t f [] = (t ◂ f ◂ nil, refl)
nested_mul t f (h ∷ l) = nested_mul (Op Mul (t ◂ f ◂ nil)) h l

pub built_mul : (c : ℤ) (t f : Tree) (l : List Tree) → eq_int c (negsuc 0) ≡ false → (g : Forest) × (built c (t ∷ f ∷ l) ≡ Op Mul g)
unfolding built with_coefficient
built_mul c t f l m = go (eq_int c (pos 1)) (eq_int c (negsuc 0)) m
  where
    go : (b d : Bool) → d ≡ false → (g : Forest) × (headed b d c (nested_product t (f ∷ l)) ≡ Op Mul g)
    go true d q = nested_mul t f l
    go false true q = (let z : ◌≡◌ {A = ℕ} 0 1 = cc in absurd (omega arith))
    go false false q = (Const c ◂ nested_product t (f ∷ l) ◂ nil, refl)
