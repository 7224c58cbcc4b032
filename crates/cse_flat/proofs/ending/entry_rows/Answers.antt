use native.Mathlib.Omega.{arith}
use mathlib.Core.Path.{ap}
use lib.ListN.{length}
use Rattle.reciprocals.proofs.final.Taking.{run_short}
use Rattle.reciprocals.proofs.final.Writing.{tree_there}
use Rattle.cse_flat.proofs.ending.Entering.{entry_has}
use Rattle.cse_flat.proofs.ending.entry_rows.Goals as goal

pub make-made-requires : goal.make-made-requires
make-made-requires c = (omega (arith, c.tree_of-i.ensures, tree_there c.args.trees.now.ready c.requires.positions c.args.q c.requires.q_in_bounds.0), c.requires.q_in_bounds.1)

pub returns : goal.returns
returns c =
    let t = c.args.trees.now in
    let below = tree_there t.ready c.requires.positions c.args.q c.requires.q_in_bounds.0 in
    let short = run_short t.ready c.tree_of-i.result (omega (arith, c.tree_of-i.ensures, below)) in
    (omega (arith, ap length c.words.ensures, entry_has t.results t.places.now t.tokens.now c.args.taken.now c.args.q _ c.tree_of-i.ensures), omega (arith, ap length c.words.ensures, short))
