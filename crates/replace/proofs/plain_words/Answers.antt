-- `replace::plain_words` meets its contract. Assumes nothing.
use Rattle.std.proofs.Common.{arith}
use Rattle.replace.proofs.replacing.Passing.{first_plain}
use Rattle.replace.proofs.plain_words.Goals as goal

pub loop-q-init : goal.loop-q-init
loop-q-init c = (omega arith, omega (arith, c.requires), first_plain c.args.tokens.now c.requires.2)
