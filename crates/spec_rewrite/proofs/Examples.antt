-- Small trees rewritten, by computing: one theorem, a field for each, named by the misreading of 01 ("Rewriting", "Reciprocals", "Scoped fusion") that it shuts
-- out. Assumes nothing.
use mathlib.Core.Path.{◌≡◌, refl}
use Rattle.spec_tree.specs.Outcome.{ok}
use Rattle.spec_tree.specs.Tree.{xname, mname, Tree, Op, nil, ◌◂◌}
use Rattle.spec_tree.specs.Kinds.{Select}
use Rattle.spec_tree.proofs.Notation.{v, x, m, num, ◌⊕◌, ◌⊗◌, ◌⊘◌, minus}
use Rattle.spec_rewrite.specs.Rewrite.{replace, replace_divisor, replace_outside_arms}

-- a tree in which a * b becomes `__x0`
abbrev Becomes : Tree → Tree → Type 0
Becomes e r = replace (v "a" ⊗ v "b") (xname 0) e ≡ ok r

pub record Examples : Type 0 where
  removing_the_last_equal_factor : Becomes (v "a" ⊗ v "c" ⊗ v "a" ⊗ v "b") (v "c" ⊗ v "a" ⊗ x 0)
  factors_from_the_right : Becomes ((v "c" ⊗ v "a") ⊗ (v "b" ⊗ v "d")) (v "c" ⊗ v "d" ⊗ x 0)
  the_name_first : Becomes (v "a" ⊗ v "c" ⊗ v "b") (v "c" ⊗ x 0)
  a_product_nested_to_the_right : Becomes (v "a" ⊗ v "c" ⊗ v "b" ⊗ v "d") (v "c" ⊗ v "d" ⊗ x 0)
  a_sign_lost : Becomes (minus (v "a") ⊗ v "c" ⊗ v "b") (minus (v "c" ⊗ x 0))
  a_coefficient_lost : Becomes (num 3 ⊗ v "a" ⊗ v "b") (num 3 ⊗ x 0)
  a_dividend_left : replace_divisor (num 2) (xname 0) (v "p" ⊘ num 2 ⊘ num 2) ≡ v "p" ⊗ x 0 ⊗ x 0
  a_divisor_left : replace_divisor (num 2) (xname 0) (v "p" ⊘ (v "q" ⊘ num 2)) ≡ v "p" ⊘ (v "q" ⊗ x 0)
  an_arm_rewritten :
      replace_outside_arms (v "a") (mname 0) (Op Select (v "a" ◂ v "a" ⊕ v "b" ◂ nil)) ≡ Op Select (m 0 ◂ v "a" ⊕ v "b" ◂ nil)

pub examples : Examples
unfolding replace replace_divisor replace_outside_arms
examples =
    record {
      removing_the_last_equal_factor = refl;
      factors_from_the_right = refl;
      the_name_first = refl;
      a_product_nested_to_the_right = refl;
      a_sign_lost = refl;
      a_coefficient_lost = refl;
      a_dividend_left = refl;
      a_divisor_left = refl;
      an_arm_rewritten = refl;
    }
