-- `statements::write_let` meets its contract. Assumes nothing.
use Prim.Native.Nat.{◌+◌}
use native.Mathlib.Omega.{arith}
use Rattle.statements.proofs.Held.{lets_are, trees_few, places_few}
use Rattle.statements.proofs.Writing.{let_long, let_written}
use Rattle.fusion.specs.place.Whole.{tree_run}
use Rattle.statements.proofs.write_let.Goals as goal

pub overflow_add-first : goal.overflow_add-first
overflow_add-first c = omega (arith, c.requires.readied.1.low, c.requires.p_bound, lets_are c.requires.readied.1, trees_few c.requires.readied.1, places_few c.requires.readied.1)

pub overflow_mul-first : goal.overflow_mul-first
overflow_mul-first c = omega (arith, c.requires.readied.1.low, c.requires.p_bound, lets_are c.requires.readied.1, trees_few c.requires.readied.1, places_few c.requires.readied.1)

pub overflow_add-first-2 : goal.overflow_add-first-2
overflow_add-first-2 c = omega (arith, c.requires.readied.1.low, c.requires.p_bound, lets_are c.requires.readied.1, trees_few c.requires.readied.1, places_few c.requires.readied.1)

pub overflow_add-results : goal.overflow_add-results
overflow_add-results c = omega (arith, c.requires.readied.1.enough, c.requires.p_bound, lets_are c.requires.readied.1, trees_few c.requires.readied.1, places_few c.requires.readied.1)

pub write_tree-requires-clause-i_in_bounds : goal.write_tree-requires-clause-i_in_bounds
write_tree-requires-clause-i_in_bounds c = (omega (arith, c.requires.readied.1.enough, c.requires.p_bound, lets_are c.requires.readied.1), omega (arith, c.requires.p_bound_2, let_long (c.args.first + c.args.p) (tree_run c.args.tokens.now c.args.results c.args.first c.args.places.now c.args.numbers.now (c.args.results + c.args.p))))

pub returns : goal.returns
returns c = let_written c.args.at (c.args.first + c.args.p) _ c.args.table.now _ _ _ c.write_tree.ensures.0 c.put_word.ensures c.write_tree.ensures.1
