-- `print::answers::names_bind` meets its contract: the names are compared from the place on. Assumes nothing.
use Rattle.std.proofs.Common.{◌-◌, length, take, drop, sym, ◌∙◌}
use Rattle.laws.proofs.answer.WayLaws.{names_next, names_found, names_other, names_past}
use Rattle.print.proofs.answers.names_bind.Goals as goal

pub returns-then-w-ne-NAME : goal.returns-then-w-ne-NAME
returns-then-w-ne-NAME c = let items = take (length c.args.words.now - c.args.at) (drop c.args.at c.args.words.now) in
    sym (c.loop-w.invariant ∙ names_other items c.args.code c.loop-w.w-index c.loop-w-test.true c.if-w-ne-NAME.true)

pub returns-then-w-code : goal.returns-then-w-code
returns-then-w-code c = let items = take (length c.args.words.now - c.args.at) (drop c.args.at c.args.words.now) in
    sym (c.loop-w.invariant ∙ names_found items c.args.code c.loop-w.w-index c.loop-w-test.true c.if-w-ne-NAME.false c.if-w-code.true)

pub loop-w-preserved : goal.loop-w-preserved
loop-w-preserved c = let items = take (length c.args.words.now - c.args.at) (drop c.args.at c.args.words.now) in
    c.loop-w.invariant ∙ names_next items c.args.code c.loop-w.w-index c.loop-w-test.true c.if-w-ne-NAME.false c.if-w-code.false

pub returns : goal.returns
returns c = let items = take (length c.args.words.now - c.args.at) (drop c.args.at c.args.words.now) in
    sym (c.loop-w.invariant ∙ names_past items c.args.code c.loop-w.w-index c.loop-w-test.false)
