-- `csesheet::say_any` is safe. Assumes nothing.
use Rattle.std.proofs.Common.{sym, ap}
use lib.Seq.{length-take-le}
use Rattle.flat_sheet.specs.Flat.{told}
use Rattle.flat_sheet.proofs.Steps.{parts_inside}
use Rattle.csesheet.proofs.say_any.Goals as goal

pub slice_bounds-rows-end : goal.slice_bounds-rows-end
slice_bounds-rows-end c = (parts_inside _ _ _ _ _ _ _ _ _ _ _ c.flat_sheet-answer.ensures (ap told c.in-Ok.is)).0

pub slice_bounds-say_lines-end : goal.slice_bounds-say_lines-end
slice_bounds-say_lines-end c = sym (length-take-le _ _ (parts_inside _ _ _ _ _ _ _ _ _ _ _ c.flat_sheet-answer.ensures (ap told c.in-Ok.is)).0)

pub slice_bounds-table-end : goal.slice_bounds-table-end
slice_bounds-table-end c = (parts_inside _ _ _ _ _ _ _ _ _ _ _ c.flat_sheet-answer.ensures (ap told c.in-Ok.is)).1

pub slice_bounds-say_lines-end-in-Ok : goal.slice_bounds-say_lines-end-in-Ok
slice_bounds-say_lines-end-in-Ok c = sym (length-take-le _ _ (parts_inside _ _ _ _ _ _ _ _ _ _ _ c.flat_sheet-answer.ensures (ap told c.in-Ok.is)).1)
