-- `csescoped::sheet::scoped_sheet` meets its contract, whatever takes apart what `load` returned. Assumes nothing.
use Rattle.std.proofs.Common.{sym, arith, rules, length}
use lib.Seq.{length-take-le}
use Rattle.csescoped.specs.sheet.Said.{told}
use Rattle.csescoped.proofs.sheet.Steps.{fits_by, scoped_by}
use Rattle.csescoped.proofs.sheet.scoped_sheet.Goals as goal

pub overflow_mul-end : goal.overflow_mul-end
overflow_mul-end c = let h = fits_by c.args.sheet.now c.args.rows.now c.args.roots.now _ _ _ c.load.ensures in grind arith

pub slice_bounds-extracted-end : goal.slice_bounds-extracted-end
slice_bounds-extracted-end c = let h = fits_by c.args.sheet.now c.args.rows.now c.args.roots.now _ _ _ c.load.ensures in search rules

pub slice_bounds-extracted-end-2 : goal.slice_bounds-extracted-end-2
slice_bounds-extracted-end-2 c = let h = fits_by c.args.sheet.now c.args.rows.now c.args.roots.now _ _ _ c.load.ensures in sym (length-take-le _ _ (search rules))

pub slice_bounds-extracted-end-3 : goal.slice_bounds-extracted-end-3
slice_bounds-extracted-end-3 c = let h = fits_by c.args.sheet.now c.args.rows.now c.args.roots.now _ _ _ c.load.ensures in search rules

pub slice_bounds-extracted-end-4 : goal.slice_bounds-extracted-end-4
slice_bounds-extracted-end-4 c = let h = fits_by c.args.sheet.now c.args.rows.now c.args.roots.now _ _ _ c.load.ensures in sym (length-take-le _ _ (search rules))

pub returns-in_err-loaded : goal.returns-in_err-loaded
returns-in_err-loaded c =
    let a = c.args in
    let h = scoped_by a.sheet.now a.rows.now a.roots.now _ _ (length a.work.now) (length a.text.now) a.table.now a.out.now a.table.now a.out.now (told c.from_residual.result) _ c.load.ensures in
    search rules

pub returns : goal.returns
returns c =
    let a = c.args in
    let h = scoped_by a.sheet.now a.rows.now a.roots.now _ _ (length a.work.now) (length a.text.now) a.table.now a.out.now c.extracted.new.table c.extracted.new.out (told c.extracted.result) _ c.load.ensures in
    search rules
