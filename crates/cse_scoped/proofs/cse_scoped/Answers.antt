-- `cse_scoped::cse_scoped` meets its contract. Assumes nothing.
use mathlib.Core.Path.{sym, ◌∙◌}
use lib.ListN.{length}
use lib.Seq.{length-take-le}
use Rattle.cse_flat.proofs.refined.Finishing.{enough_words, enough_bytes}
use Rattle.cse_scoped.proofs.Ends.{is_eight, is_rest}
use Rattle.cse_scoped.proofs.Rows.{rows_within}
use Rattle.scope_laws.proofs.call.Scoped.{scoped_call}
use Rattle.cse_scoped.proofs.cse_scoped.Goals as goal

pub returns-then-is_short : goal.returns-then-is_short
returns-then-is_short c = let a = c.args in is_eight a.rows.now a.roots.now (length a.work.now) (length a.text.now) a.table.now (sym c.is_short.ensures ∙ c.if-is_short.true)

pub slice_bounds-write_rows-end : goal.slice_bounds-write_rows-end
slice_bounds-write_rows-end c = let a = c.args in enough_words (length a.work.now) (length a.text.now) (sym c.is_short.ensures ∙ c.if-is_short.false)

pub slice_bounds-write_rows-end-2 : goal.slice_bounds-write_rows-end-2
slice_bounds-write_rows-end-2 c = let a = c.args in sym (length-take-le 65536 a.work.now (enough_words (length a.work.now) (length a.text.now) (sym c.is_short.ensures ∙ c.if-is_short.false)))

pub write_rows-requires : goal.write_rows-requires
write_rows-requires c = let a = c.args in
    let e = sym c.is_short.ensures ∙ c.if-is_short.false in
    record { work_len = (length-take-le 65536 a.work.now (enough_words (length a.work.now) (length a.text.now) e), enough_bytes (length a.work.now) (length a.text.now) e); roots_bound = rows_within a.rows.now a.roots.now }

pub returns : goal.returns
returns c = let a = c.args in let e = sym c.is_short.ensures ∙ c.if-is_short.false in is_rest a.rows.now a.roots.now (length a.work.now) (length a.text.now) a.table.now (scoped_call a.rows.now a.roots.now (length a.table.now)) e _ _ c.write_rows.ensures
