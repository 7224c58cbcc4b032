-- `statements::Scope::write_value` meets its contract. Assumes nothing.
use native.Mathlib.Omega.{arith}
use Rattle.fusion.specs.place.Whole.{tree_run}
use Rattle.statements.proofs.Writing.{value_long, value_written}
use Rattle.statements.proofs.Scope.write_value.Goals as goal

pub write_tree-requires-clause-i_in_bounds : goal.write_tree-requires-clause-i_in_bounds
write_tree-requires-clause-i_in_bounds c = (omega (arith, c.requires.readied.1.enough, c.requires.i_lt_results), omega (arith, c.requires.i_bound, value_long c.args.row (tree_run c.args.self.now.tokens.now c.args.self.now.results c.args.self.now.first c.args.self.now.places.now c.args.self.now.numbers.now c.args.i)))

pub returns : goal.returns
returns c = value_written c.args.at c.args.row _ c.args.table.now _ _ _ c.write_tree.ensures.0 c.put_word.ensures c.write_tree.ensures.1
