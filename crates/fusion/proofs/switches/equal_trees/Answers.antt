-- `fusion::switches::equal_trees` meets its contract. Assumes nothing.
use Rattle.fusion.proofs.switches.Among.{same_there, trees_same}
use Rattle.fusion.proofs.switches.equal_trees.Goals as goal

pub unwrap-requires : goal.unwrap-requires
unwrap-requires c = same_there c.args.tokens.now c.requires.complete c.args.i c.args.j c.requires.i_in_bounds.0 c.requires.i_in_bounds.1 _ c.same.ensures

pub returns : goal.returns
returns c = trees_same c.args.tokens.now c.requires.complete c.args.i c.args.j c.requires.i_in_bounds.0 c.requires.i_in_bounds.1 _ _ c.same.ensures c.unwrap.ensures
