-- `print::answers::bound_at` meets its contract: what is bound on the way is what is bound from the place reached on. Assumes nothing.
use Rattle.std.proofs.Common.{sym, ◌∙◌, arith}
use Rattle.laws.proofs.answer.WayLaws.{way_begins, way_ends}
use Rattle.print.proofs.answers.bound_at.Goals as goal

pub loop-i-init : goal.loop-i-init
loop-i-init c = (omega arith, way_begins c.args.words.now c.args.code c.args.at)

pub loop-i-smaller : goal.loop-i-smaller
loop-i-smaller c = omega (arith, c.in-On.ensures.0, c.in-On.ensures.1, c.loop-i.invariant.0)

pub loop-i-preserved : goal.loop-i-preserved
loop-i-preserved c = (c.in-On.ensures.1, c.loop-i.invariant.1 ∙ c.in-On.ensures.2)

pub returns-in-Bound : goal.returns-in-Bound
returns-in-Bound c = sym (c.loop-i.invariant.1 ∙ c.in-Bound.ensures)

pub returns-in-Unbound : goal.returns-in-Unbound
returns-in-Unbound c = sym (c.loop-i.invariant.1 ∙ c.in-Unbound.ensures)

pub returns : goal.returns
returns c = sym (c.loop-i.invariant.1 ∙ way_ends c.args.words.now c.args.code c.loop-i.i c.args.at c.loop-i-test.false)
