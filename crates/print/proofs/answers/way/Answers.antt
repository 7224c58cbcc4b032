-- `print::answers::way` meets its contract. Assumes nothing.
use Rattle.std.proofs.Common.{sym, ◌∙◌, arith}
use Rattle.laws.proofs.answer.WayLaws.{way_bound, way_past, way_goes, way_in, way_stops}
use Rattle.print.proofs.answers.way.Goals as goal

pub returns-then-is_entered : goal.returns-then-is_entered
returns-then-is_entered c = (
  omega arith,
  omega (arith, c.requires.0),
  way_in c.args.words.now c.args.code c.args.i c.args.at c.requires.0 c.requires.1 c.in-None.ensures (sym c.is_entered.ensures ∙ c.if-is_entered.true),
)

pub returns-else-is_entered : goal.returns-else-is_entered
returns-else-is_entered c = way_stops c.args.words.now c.args.code c.args.i c.args.at c.requires.0 c.requires.1 c.in-None.ensures (sym c.is_entered.ensures ∙ c.if-is_entered.false)

pub returns-then-binds : goal.returns-then-binds
returns-then-binds c = way_bound c.args.words.now c.args.code c.args.i c.args.at c.requires.0 c.requires.1 c.in-Some.end c.in-Some.ensures (sym c.binds.ensures ∙ c.if-binds.true)

pub returns-else-binds : goal.returns-else-binds
returns-else-binds c =
    let words = c.args.words.now in
    let end = c.in-Some.end in (
      way_goes words c.args.code c.args.i c.args.at c.requires.0 c.requires.1 end c.in-Some.ensures,
      c.in-Some.ensures.before_by,
      way_past words c.args.code c.args.i c.args.at c.requires.0 c.requires.1 end c.in-Some.ensures (sym c.binds.ensures ∙ c.if-binds.false),
    )
