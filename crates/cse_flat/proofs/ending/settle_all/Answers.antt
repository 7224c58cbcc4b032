use mathlib.Core.Path.{sym, ◌∙◌}
use Rattle.reciprocals.proofs.final.Starting.{settled_front, settled_always}
use Rattle.cse_flat.proofs.ending.Ends.{never_err}
use Rattle.cse_flat.proofs.ending.settle_all.Goals as goal

pub unreachable-requires : goal.unreachable-requires
unreachable-requires c = let a = c.args in never_err c.settle.result (settled_always c.requires.there a.settled.now _ c.requires.tokens_in_bounds c.put.ensures c.settle.result c.settle.ensures.0) _ c.in-Err.is

pub returns : goal.returns
returns c = let a = c.args in settled_front c.requires.there a.settled.now _ c.requires.tokens_in_bounds c.put.ensures c.in-Ok.n _ (sym c.in-Ok.is ∙ c.settle.ensures.0) c.settle.ensures.1
