-- `statements::write_values` meets its contract: the first values are laid over the table. Assumes nothing.
use native.Mathlib.Omega.{arith}
use Rattle.statements.proofs.Writing.{laid_begins, laid_room, laid_turns, value, values_done, values_room}
use Rattle.statements.proofs.write_values.Goals as goal

pub loop-i-init : goal.loop-i-init
loop-i-init c = laid_begins (value c.args.tokens.now c.args.results c.args.first c.args.places.now c.args.numbers.now c.args.row) c.args.at c.args.table.now

pub write_value-to-requires-clause-i_bound : goal.write_value-to-requires-clause-i_bound
write_value-to-requires-clause-i_bound c = laid_room (value c.args.tokens.now c.args.results c.args.first c.args.places.now c.args.numbers.now c.args.row) c.args.at c.args.table.now c.loop-i.invariant c.args.results 9223372036854775808 c.loop-i-test.true (values_room c.args.tokens.now c.args.results c.args.first c.args.places.now c.args.numbers.now c.args.row c.args.at c.args.results 9223372036854775808 c.requires.results_bound)

pub loop-i-preserved : goal.loop-i-preserved
loop-i-preserved c = laid_turns (value c.args.tokens.now c.args.results c.args.first c.args.places.now c.args.numbers.now c.args.row) c.args.at c.args.table.now c.loop-i.invariant _ _ c.write_value-to.ensures.0 c.write_value-to.ensures.1

pub returns : goal.returns
returns c = values_done c.args.tokens.now c.args.results c.args.first c.args.places.now c.args.numbers.now c.args.row c.args.at c.args.table.now _ _ _ c.loop-i.invariant (omega arith)
