-- `words::bits::get` meets its contract. Assumes nothing.
use native.Mathlib.Omega.{arith}
use mathlib.Core.Path.{sym, ◌∙◌}
use lib.ListN.{length}
use Rattle.words.specs.bits.Bits.{bit}
use Rattle.words.proofs.bits.BitLaws.{is_in, yes_inside, no_outside}
use Rattle.words.proofs.bits.get.Goals as goal

pub returns-then-not-is_inside : goal.returns-then-not-is_inside
unfolding bit
returns-then-not-is_inside c = let a = c.args in
    no_outside a.table.now a.row a.column (sym c.is_inside.ensures ∙ c.if-not-is_inside.true)

pub overflow_mul-i : goal.overflow_mul-i
unfolding bit
overflow_mul-i c = let a = c.args in
    omega (arith, c.well_formed.0, is_in (length a.table.now) a.row a.column (sym c.is_inside.ensures ∙ c.if-not-is_inside.false))

pub overflow_add-i : goal.overflow_add-i
unfolding bit
overflow_add-i c = let a = c.args in
    omega (arith, c.well_formed.0, is_in (length a.table.now) a.row a.column (sym c.is_inside.ensures ∙ c.if-not-is_inside.false))

pub offset_bounds-table-i : goal.offset_bounds-table-i
unfolding bit
offset_bounds-table-i c = let a = c.args in
    omega (arith, c.well_formed.0, is_in (length a.table.now) a.row a.column (sym c.is_inside.ensures ∙ c.if-not-is_inside.false))

pub bounds-table-i : goal.bounds-table-i
unfolding bit
bounds-table-i c = let a = c.args in
    (is_in (length a.table.now) a.row a.column (sym c.is_inside.ensures ∙ c.if-not-is_inside.false)).1

pub overflow_shr-result : goal.overflow_shr-result
unfolding bit
overflow_shr-result c = omega arith

pub returns : goal.returns
unfolding bit
returns c = let a = c.args in
    yes_inside a.table.now a.row a.column (sym c.is_inside.ensures ∙ c.if-not-is_inside.false)
