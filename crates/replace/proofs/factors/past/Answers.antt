-- `replace::factors::past` meets its contract. Assumes nothing.
use Rattle.std.proofs.Common.{arith}
use Rattle.replace.proofs.factors.Answering.{past_is}
use Rattle.replace.proofs.factors.WordRuns.{node_of, stands_run}
use Rattle.replace.proofs.factors.Flattening.{leaf_long}
use Rattle.replace.proofs.factors.past.Goals as goal

pub offset_bounds-tokens-at : goal.offset_bounds-tokens-at
offset_bounds-tokens-at c = omega (arith, (node_of c.requires).inside, c.well_formed.0)

pub bounds-tokens-at : goal.bounds-tokens-at
bounds-tokens-at c = (node_of c.requires).inside

pub overflow_add-result : goal.overflow_add-result
overflow_add-result c = omega (arith, (node_of c.requires).inside, c.well_formed.0)

pub returns-then-tokens-at-eq-SYM : goal.returns-then-tokens-at-eq-SYM
returns-then-tokens-at-eq-SYM c = omega (arith, leaf_long c.requires (omega (arith, c.if-tokens-at-eq-SYM.true)))

pub tree_end-requires : goal.tree_end-requires
tree_end-requires c = (_, stands_run c.requires)

pub returns : goal.returns
returns c = past_is c.requires c.tree_end.ensures
