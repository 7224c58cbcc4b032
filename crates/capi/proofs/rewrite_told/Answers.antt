-- `capi::rewrite_told` meets its contract. Assumes nothing.
use Rattle.capi.proofs.RewriteEnds.{rewrite_wrote}
use Rattle.capi.proofs.rewrite_told.Goals as goal

pub returns-in-Ok : goal.returns-in-Ok
returns-in-Ok c = rewrite_wrote _ _ c.requires _ c.in-Ok.is
