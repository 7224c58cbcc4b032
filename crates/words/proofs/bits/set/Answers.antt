-- `words::bits::set` meets its contract. Assumes nothing.
use native.Mathlib.Omega.{arith}
use mathlib.Core.Path.{sym, ◌∙◌}
use lib.ListN.{length}
use Rattle.words.proofs.bits.BitLaws.{is_in, with_shifted, with_outside}
use Rattle.words.proofs.bits.set.Goals as goal

pub returns-then-not-is_inside : goal.returns-then-not-is_inside
returns-then-not-is_inside c = let a = c.args in
    let out = sym c.is_inside.ensures ∙ c.if-not-is_inside.true in
    (sym out, with_outside a.table.now a.row a.column out)

pub overflow_mul-i : goal.overflow_mul-i
overflow_mul-i c = let a = c.args in
    omega (arith, c.well_formed.0, is_in (length a.table.now) a.row a.column (sym c.is_inside.ensures ∙ c.if-not-is_inside.false))

pub overflow_add-i : goal.overflow_add-i
overflow_add-i c = let a = c.args in
    omega (arith, c.well_formed.0, is_in (length a.table.now) a.row a.column (sym c.is_inside.ensures ∙ c.if-not-is_inside.false))

pub overflow_shl-place : goal.overflow_shl-place
overflow_shl-place c = omega arith

pub offset_bounds-table-i : goal.offset_bounds-table-i
offset_bounds-table-i c = let a = c.args in
    omega (arith, c.well_formed.0, is_in (length a.table.now) a.row a.column (sym c.is_inside.ensures ∙ c.if-not-is_inside.false))

pub bounds-table-i : goal.bounds-table-i
bounds-table-i c = let a = c.args in
    (is_in (length a.table.now) a.row a.column (sym c.is_inside.ensures ∙ c.if-not-is_inside.false)).1

pub offset_bounds-table-i-2 : goal.offset_bounds-table-i-2
offset_bounds-table-i-2 c = let a = c.args in
    omega (arith, c.well_formed.0, is_in (length a.table.now) a.row a.column (sym c.is_inside.ensures ∙ c.if-not-is_inside.false))

pub bounds-table-i-2 : goal.bounds-table-i-2
bounds-table-i-2 c = let a = c.args in
    (is_in (length a.table.now) a.row a.column (sym c.is_inside.ensures ∙ c.if-not-is_inside.false)).1

pub returns : goal.returns
returns c = let a = c.args in
    let in_table = sym c.is_inside.ensures ∙ c.if-not-is_inside.false in
    (sym in_table, with_shifted a.table.now a.row a.column in_table)
