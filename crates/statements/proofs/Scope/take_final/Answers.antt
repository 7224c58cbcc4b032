-- `statements::Scope::take_final` meets its contract. Assumes nothing.
use native.Mathlib.Omega.{arith}
use Rattle.statements.proofs.Held.{settled_run_short}
use Rattle.statements.proofs.Taking.{fusable, run_complete, final_stands}
use Rattle.statements.proofs.Scope.take_final.Goals as goal

pub fuse_words-requires-clause-fusable : goal.fuse_words-requires-clause-fusable
fuse_words-requires-clause-fusable c = fusable c.requires.readied.1

pub fuse_words-requires-clause-len_in_bounds : goal.fuse_words-requires-clause-len_in_bounds
fuse_words-requires-clause-len_in_bounds c = (c.take_tree-n.ensures.inside, omega (arith, c.take_tree-n.ensures.many, settled_run_short c.requires.readied.1 c.args.i, c.requires.readied.1.few))

pub fuse_words-requires-clause-complete : goal.fuse_words-requires-clause-complete
fuse_words-requires-clause-complete c = run_complete c.requires.readied.1 c.args.i c.requires.i_in_bounds.0 _ _ c.take_tree-n.ensures

pub returns : goal.returns
returns c = final_stands c.requires.readied.1 c.args.i c.requires.i_in_bounds.0 _ _ c.take_tree-n.ensures _ _ c.fuse_words.ensures
