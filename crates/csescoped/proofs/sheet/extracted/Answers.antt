-- `csescoped::sheet::extracted` meets its contract, whatever takes apart what `cse_scoped` returned. Assumes nothing.
use Rattle.std.proofs.Common.{sym, length, rules}
use lib.Seq.{length-take-le}
use Rattle.csescoped.specs.sheet.Said.{told}
use Rattle.csescoped.proofs.sheet.Steps.{inside_by, says_by}
use Rattle.csescoped.proofs.sheet.extracted.Goals as goal

pub slice_bounds-printed-end : goal.slice_bounds-printed-end
slice_bounds-printed-end c =
    let a = c.args in
    let h = inside_by (length a.work.now) (length a.text.now) a.rows.now a.roots.now a.table.now _ _ c.cse_scoped.ensures.0 c.cse_scoped.ensures.1 in
    search rules

pub slice_bounds-printed-end-2 : goal.slice_bounds-printed-end-2
slice_bounds-printed-end-2 c =
    let a = c.args in
    let h = inside_by (length a.work.now) (length a.text.now) a.rows.now a.roots.now a.table.now _ _ c.cse_scoped.ensures.0 c.cse_scoped.ensures.1 in
    sym (length-take-le _ _ (search rules))

pub returns-in_err-extracted : goal.returns-in_err-extracted
returns-in_err-extracted c =
    let a = c.args in
    let h = says_by (length a.work.now) (length a.text.now) a.rows.now a.roots.now a.table.now _ _ c.cse_scoped.ensures.0 c.cse_scoped.ensures.1 a.out.now a.out.now (told c.from_residual.result) in
    let t = c.cse_scoped.ensures.1 in
    search rules

pub returns : goal.returns
returns c =
    let a = c.args in
    let h = says_by (length a.work.now) (length a.text.now) a.rows.now a.roots.now a.table.now _ _ c.cse_scoped.ensures.0 c.cse_scoped.ensures.1 a.out.now c.printed.new.out (told c.printed.result) in
    let t = c.cse_scoped.ensures.1 in
    search rules
