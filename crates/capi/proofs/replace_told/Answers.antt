-- `capi::replace_told` meets its contract. Assumes nothing.
use Rattle.capi.proofs.ReplaceEnds.{replace_wrote}
use Rattle.capi.proofs.replace_told.Goals as goal

pub returns-in-Ok : goal.returns-in-Ok
returns-in-Ok c = replace_wrote _ _ c.requires _ c.in-Ok.is
