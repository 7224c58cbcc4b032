-- A coefficient worked out by f64 products in the source's order, where `constant_of` accepts it, is the exact product of the integers in the tree; and one that
-- `is_one` takes for 1 is exactly 1 (01, "Rewriting"). Both are spec_rewrite/proofs/Coefficient, on codes. Assumes nothing.
use Rattle.std.specs.Prelude.{Some}
use Rattle.std.proofs.Common.{◌≡◌, ℕ, Bool, true, T, ℤ, pos, sym, refl, ap, ◌∙◌, subst, arith}
use lib.Ieee.{binary64, eq, of_bits}
use Rattle.spec_tree.specs.Outcome.{Outcome, ok, refused}
use Rattle.spec_tree.specs.Tree.{Tree}
use Rattle.spec_tree.specs.Tokens.{constant_at, constant_code}
use Rattle.spec_tree.proofs.TokenCode.{constant_back}
use Rattle.spec_rewrite.specs.Rewrite.{one, constant_of, flatten_mul_factors}
use Rattle.spec_rewrite.proofs.ReplaceValue.{exact}
use Rattle.spec_rewrite.proofs.Coefficient.{exactly}
use Rattle.replace.specs.coefficient.Answers.{constant_answer}

-- the literal 1.0
pub one_literal : of_bits binary64 0x3ff0_0000_0000_0000 ≡ one
unfolding of_bits one
one_literal = refl

accepted_code : (o : Outcome ℤ) (code : ℕ) → Some code ≡ constant_answer o → o ≡ ok (constant_at code)
unfolding constant_answer
accepted_code (ok c) code e = let q : code ≡ constant_code c = cc in ap ok (sym (constant_back c) ∙ ap constant_at (sym q))
accepted_code (refused r) code e = absurd (let z : ◌≡◌ {A = ℕ} 0 1 = cc in omega arith)

-- the exact integer product, plus zero among them
pub exact_code : (t : Tree) (code : ℕ) → Some code ≡ constant_answer (constant_of (flatten_mul_factors t).coefficient) → constant_at code ≡ exact t
exact_code t code e = exactly.accepted t (constant_at code) (accepted_code (constant_of (flatten_mul_factors t).coefficient) code e)

pub exact_one : (t : Tree) (b : Bool) → b ≡ eq (flatten_mul_factors t).coefficient one → b ≡ true → exact t ≡ pos 1
exact_one t b e h = exactly.unit t (subst T e (subst T (sym h) tt))
