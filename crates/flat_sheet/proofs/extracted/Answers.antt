-- `flat_sheet::extracted` meets its contract. Assumes nothing.
use Rattle.std.proofs.Common.{sym, ◌∙◌, ap, length, false, rules}
use Rattle.spec_cse.specs.Call.{extract_call}
use Rattle.cse_flat.specs.Answers.{told}
use Rattle.flat_sheet.proofs.Steps.{took_refused, took_rows}
use Rattle.flat_sheet.proofs.extracted.Goals as goal

pub returns-in_err-extracted : goal.returns-in_err-extracted
returns-in_err-extracted c = let a = c.args in
    let e = took_refused (length a.rows.now) (extract_call false (length a.work.now) (length a.text.now) a.rows.now a.roots.now (length a.table.now)) _ (sym (ap told c.in_err-extracted.was) ∙ c.cse.ensures.0) in
    let t = c.cse.ensures.1 in
    search rules

pub returns : goal.returns
returns c = let a = c.args in
    (took_rows (length a.rows.now) (extract_call false (length a.work.now) (length a.text.now) a.rows.now a.roots.now (length a.table.now)) _ _ (sym (ap told c.in_ok-extracted.was) ∙ c.cse.ensures.0), c.cse.ensures.1)
