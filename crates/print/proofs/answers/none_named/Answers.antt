-- `print::answers::none_named` meets its contract: the rows are compared from the first. Assumes nothing.
use Rattle.std.proofs.Common.{◌<◌, length, sym, ◌∙◌, arith}
use Rattle.fmt.specs.checked.Check.{rows_in}
use Rattle.laws.proofs.answer.RowFirst.{none_some, none_more, none_yet, rows_many}
use Rattle.print.proofs.answers.none_named.Goals as goal

pub loop-i-init : goal.loop-i-init
loop-i-init c = none_yet c.args.name.now (rows_in c.args.rows.now)

pub returns-then-named : goal.returns-then-named
returns-then-named c =
    let inside : c.loop-i.i < length (rows_in c.args.rows.now) = omega (arith, rows_many c.args.rows.now, c.loop-i-test.true, c.requires) in
    none_some c.args.name.now (rows_in c.args.rows.now) c.loop-i.i c.args.n c.loop-i-test.true inside (sym c.named.ensures ∙ c.if-named.true)

pub loop-i-preserved : goal.loop-i-preserved
loop-i-preserved c =
    let inside : c.loop-i.i < length (rows_in c.args.rows.now) = omega (arith, rows_many c.args.rows.now, c.loop-i-test.true, c.requires) in
    none_more c.args.name.now (rows_in c.args.rows.now) c.loop-i.i inside (sym c.named.ensures ∙ c.if-named.false) c.loop-i.invariant
