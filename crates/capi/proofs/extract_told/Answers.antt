-- `capi::extract_told` meets its contract. Assumes nothing.
use Rattle.std.proofs.Common.{ap}
use Rattle.cse_flat.specs.Answers.{told}
use Rattle.capi.proofs.ExtractEnds.{extracted, extract_refused}
use Rattle.capi.proofs.extract_told.Goals as goal

pub returns-in-Ok : goal.returns-in-Ok
returns-in-Ok c = extracted _ _ c.requires _ _ (ap told c.in-Ok.is)

pub returns-in-Err : goal.returns-in-Err
returns-in-Err c = rw c.into.ensures (extract_refused _ _ _ (ap told c.in-Err.is))
