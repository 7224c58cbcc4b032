-- `load::load` meets its contract. Assumes nothing.
use mathlib.Core.Path.{sym, ◌∙◌}
use borrow.Author.Tests.{eqb-true, eqb-false}
use Rattle.std.proofs.Common.{rules}
use Rattle.load.proofs.Finishing.{few_rows, few_roots, no_bytes, many_bytes}
use Rattle.load.proofs.load.Goals as goal
use Rattle.load.proofs.load.Goals.{then-rows-lt1024-via-then-rows-lt1024, then-rows-lt1024-via-else-rows-lt1024+then-roots-lt64}

pub returns-then-rows-lt1024 : goal.returns-then-rows-lt1024
returns-then-rows-lt1024 c = elim c.then-rows-lt1024.branch [
  | then-rows-lt1024-via-then-rows-lt1024 w ↦ let e = few_rows c.args.sheet.now c.args.rows.now c.args.roots.now w.if-rows-lt1024.true in search rules
  | then-rows-lt1024-via-else-rows-lt1024+then-roots-lt64 w ↦ let e = few_roots c.args.sheet.now c.args.rows.now c.args.roots.now w.if-rows-lt1024.false w.if-roots-lt64.true in search rules
]

pub returns-then-is_empty : goal.returns-then-is_empty
returns-then-is_empty c = let e = no_bytes c.args.sheet.now c.args.rows.now c.args.roots.now c.if-rows-lt1024.false c.if-roots-lt64.false (eqb-true _ _ (sym c.is_empty.ensures ∙ c.if-is_empty.true)) in search rules

pub returns-then-sheet-gt65535 : goal.returns-then-sheet-gt65535
returns-then-sheet-gt65535 c = let e = many_bytes c.args.sheet.now c.args.rows.now c.args.roots.now c.if-rows-lt1024.false c.if-roots-lt64.false (eqb-false _ _ (sym c.is_empty.ensures ∙ c.if-is_empty.false)) c.if-sheet-gt65535.true in search rules
