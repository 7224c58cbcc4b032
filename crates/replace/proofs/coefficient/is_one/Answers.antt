-- `replace::coefficient::is_one` meets its contract. Assumes nothing.
use Rattle.std.proofs.Common.{ap}
use lib.Ieee.{Float, eq}
use Rattle.replace.proofs.coefficient.Exactness.{one_literal}
use Rattle.replace.proofs.coefficient.is_one.Goals as goal

pub returns : goal.returns
returns c = ap (λ (y : Float). eq c.args.x y) one_literal
