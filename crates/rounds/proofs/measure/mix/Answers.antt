-- `rounds::measure::mix` meets its contract. Assumes nothing.
use mathlib.Core.Path.{refl}
use Rattle.rounds.specs.value_numbers.Classes.{mixed}
use Rattle.rounds.proofs.measure.mix.Goals as goal

pub returns : goal.returns
unfolding mixed
returns c = refl
