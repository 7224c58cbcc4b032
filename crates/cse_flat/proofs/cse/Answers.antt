use native.Mathlib.Omega.{arith}
use mathlib.Core.Path.{sym, ◌∙◌}
use lib.ListN.{length}
use Rattle.cse_flat.proofs.Ends.{is_eight, is_rest}
use Rattle.cse_flat.proofs.refined.Finishing.{enough_words, enough_bytes, front_long}
use Rattle.cse_flat.proofs.cse.Goals as goal

pub returns-then-is_short : goal.returns-then-is_short
returns-then-is_short c = let a = c.args in is_eight a.rows.now a.roots.now (length a.work.now) (length a.text.now) a.table.now (sym c.is_short.ensures ∙ c.if-is_short.true)

pub slice_bounds-extract_flat-end : goal.slice_bounds-extract_flat-end
slice_bounds-extract_flat-end c = let a = c.args in let e = sym c.is_short.ensures ∙ c.if-is_short.false in omega (arith, enough_words (length a.work.now) (length a.text.now) e)

pub slice_bounds-extract_flat-end-2 : goal.slice_bounds-extract_flat-end-2
slice_bounds-extract_flat-end-2 c = let a = c.args in let e = sym c.is_short.ensures ∙ c.if-is_short.false in front_long a.work.now (enough_words (length a.work.now) (length a.text.now) e)

pub extract_flat-requires : goal.extract_flat-requires
extract_flat-requires c = let a = c.args in let e = sym c.is_short.ensures ∙ c.if-is_short.false in (sym (front_long a.work.now (enough_words (length a.work.now) (length a.text.now) e)), enough_bytes (length a.work.now) (length a.text.now) e)

pub returns : goal.returns
returns c = let a = c.args in is_rest a.rows.now a.roots.now (length a.work.now) (length a.text.now) a.table.now (sym c.is_short.ensures ∙ c.if-is_short.false) _ _ c.extract_flat.ensures
