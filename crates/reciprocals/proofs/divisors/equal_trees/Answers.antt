-- `reciprocals::divisors::equal_trees` meets its contract. Assumes nothing.
use Rattle.reciprocals.proofs.divisors.Counting.{equal_so}
use Rattle.reciprocals.proofs.divisors.equal_trees.Goals as goal

pub returns : goal.returns
returns c =
    let a = c.args in
    equal_so a.tokens.now c.requires.complete a.i a.j c.requires.i_in_bounds.0 c.requires.i_in_bounds.1 c.same.result _ c.same.ensures c.unwrap_or.ensures
