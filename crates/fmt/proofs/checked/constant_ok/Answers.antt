-- `fmt::checked::constant_ok` meets its contract. Assumes nothing.
use Rattle.fmt.proofs.checked.WordLaws.{constant_small}
use Rattle.fmt.proofs.checked.constant_ok.Goals as goal

pub returns : goal.returns
returns c = constant_small c.args.code
