-- `fmt::symbols::put_words` meets its contract: so many words are written. Assumes nothing.
use Rattle.fmt.proofs.emit.TextLaws.{words_begin, words_turn, words_end}
use Rattle.fmt.proofs.emit.WriteLaws.{writes_length}
use Rattle.fmt.proofs.symbols.put_words.Goals as goal

pub loop-w-init : goal.loop-w-init
loop-w-init c = words_begin c.args.s.now c.place-at.result c.place-at.ensures

pub loop-w-preserved : goal.loop-w-preserved
loop-w-preserved c = words_turn c.args.s.now c.loop-w-test.true c.loop-w.invariant c.put-at.ensures

pub shape_of-out : goal.shape_of-out
shape_of-out c = writes_length c.loop-w.invariant

pub returns : goal.returns
returns c = words_end c.args.s.now c.loop-w-test.false c.loop-w.invariant
