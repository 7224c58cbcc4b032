use native.Mathlib.Omega.{arith}
use mathlib.Core.Path.{ap}
use lib.ListN.{length}
use Rattle.cse_flat.proofs.ending.Entering.{same_put}
use Rattle.cse_flat.proofs.ending.put_tree.Goals as goal

pub returns : goal.returns
returns c = (omega (arith, ap length c.words-words.ensures), same_put c.args.table.now c.args.at _ _ _ c.words-words.ensures c.put.ensures)
