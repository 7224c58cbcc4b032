-- `replace::put_repeated` meets its contract. Assumes nothing.
use Rattle.std.proofs.Common.{arith}
use Rattle.std.proofs.lemmas.Grind.{common_steps}
use Rattle.replace.proofs.Writing.{repeated_is}
use Rattle.replace.proofs.put_repeated.Goals as goal

pub returns : goal.returns
returns c = let a = c.args in
    let f = c.fill.ensures.after (λ y e. e) in
    let r = repeated_is a.n a.w in
    grind (arith, common_steps)
