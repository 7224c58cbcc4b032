-- `flat_sheet::flat_sheet` meets its contract, whatever takes apart what `load` returned. Assumes nothing.
use Rattle.std.proofs.Common.{sym, arith, rules, length}
use lib.Seq.{length-take-le}
use Rattle.flat_sheet.specs.Flat.{told}
use Rattle.flat_sheet.proofs.Steps.{fits_by, flattened_by}
use Rattle.flat_sheet.proofs.flat_sheet.Goals as goal

pub overflow_mul-end : goal.overflow_mul-end
overflow_mul-end c = let h = fits_by _ _ c.args.sheet.now c.args.rows.now c.args.roots.now _ _ _ c.load.ensures in grind arith

pub slice_bounds-extracted-end : goal.slice_bounds-extracted-end
slice_bounds-extracted-end c = let h = fits_by _ _ c.args.sheet.now c.args.rows.now c.args.roots.now _ _ _ c.load.ensures in search rules

pub slice_bounds-extracted-end-2 : goal.slice_bounds-extracted-end-2
slice_bounds-extracted-end-2 c = let h = fits_by _ _ c.args.sheet.now c.args.rows.now c.args.roots.now _ _ _ c.load.ensures in sym (length-take-le _ _ (search rules))

pub slice_bounds-extracted-end-3 : goal.slice_bounds-extracted-end-3
slice_bounds-extracted-end-3 c = let h = fits_by _ _ c.args.sheet.now c.args.rows.now c.args.roots.now _ _ _ c.load.ensures in search rules

pub slice_bounds-extracted-end-4 : goal.slice_bounds-extracted-end-4
slice_bounds-extracted-end-4 c = let h = fits_by _ _ c.args.sheet.now c.args.rows.now c.args.roots.now _ _ _ c.load.ensures in sym (length-take-le _ _ (search rules))

pub returns : goal.returns
returns c =
    let h = flattened_by _ _ c.args.sheet.now c.args.rows.now c.args.roots.now _ _ (length c.args.work.now) (length c.args.text.now) c.args.table.now c.extracted.new.table (told c.extracted.result) _ c.load.ensures in
    search rules
