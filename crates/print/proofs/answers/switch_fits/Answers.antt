-- `print::answers::switch_fits` meets its contract. Assumes nothing.
use Rattle.std.proofs.Common.{◌≡◌, ℕ, ◌-◌, ◌≤◌, Bool, true, false, ◌&&◌, eqb, refl, ◌∙◌, ap, arith}
use borrow.Author.Tests.{eqb-true, eqb-false}
use Rattle.spec_tree.specs.Kinds.{is_switch, arity_ok}
use Rattle.node_rows.specs.kinds.Numbers.{kind_number}
use Rattle.print.proofs.answers.switch_fits.Goals as goal
use Rattle.print.proofs.answers.switch_fits.Goals.{then-row-eq-BRANCH_ROW, else-row-eq-BRANCH_ROW}

branch_is : (row n : ℕ) → row ≡ 30 → arity_ok (kind_number 26 (eqb row 32)) n ≡ (is_switch (row - 4) && arity_ok (row - 4) n)
branch_is row n e = rw e

select_is : (row n : ℕ) → row ≡ 31 → arity_ok (kind_number 27 (eqb row 32)) n ≡ (is_switch (row - 4) && arity_ok (row - 4) n)
select_is row n e = rw e

default_is : (row n : ℕ) → row ≡ 32 → arity_ok (kind_number 27 (eqb row 32)) n ≡ (is_switch (row - 4) && arity_ok (row - 4) n)
default_is row n e = rw e

other_is : (row n : ℕ) → 30 ≤ row → row ≤ 32 → (row ≡ 30 → ⊥) → arity_ok (kind_number 27 (eqb row 32)) n ≡ (is_switch (row - 4) && arity_ok (row - 4) n)
other_is row n l h b = go (eqb row 32) refl
  where
    go : (x : Bool) → eqb row 32 ≡ x → arity_ok (kind_number 27 (eqb row 32)) n ≡ (is_switch (row - 4) && arity_ok (row - 4) n)
    go true e = default_is row n (eqb-true row 32 e)
    go false e = let f = eqb-false row 32 e in select_is row n (omega (arith, b, f))

pub returns : goal.returns
returns c =
    let is = λ (k : ℕ). arity_ok (kind_number k (eqb c.args.row 32)) c.args.operands in
    c.operands_ok.ensures
    ∙ elim c.if-row-eq-BRANCH_ROW.branch [
      | then-row-eq-BRANCH_ROW w ↦ ap is w.kind-is ∙ branch_is c.args.row c.args.operands w.if-row-eq-BRANCH_ROW.true
      | else-row-eq-BRANCH_ROW w ↦ ap is w.kind-is ∙ other_is c.args.row c.args.operands c.requires.0 c.requires.1 w.if-row-eq-BRANCH_ROW.false
    ]
