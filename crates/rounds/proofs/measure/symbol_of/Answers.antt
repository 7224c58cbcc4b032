-- `rounds::measure::symbol_of` meets its contract. Assumes nothing.
use Rattle.rounds.proofs.measure.WordFacts.{symbol_so}
use Rattle.rounds.proofs.measure.symbol_of.Goals as goal

pub returns : goal.returns
returns c = symbol_so c.args.w _ c.from.ensures
