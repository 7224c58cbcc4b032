-- `capi::cse_load` meets its contract. Assumes nothing.
use Rattle.std.proofs.Common.{ap, rules}
use Rattle.load.specs.Loaded.{told}
use Rattle.capi.proofs.LoadEnds.{not_loaded, is_loaded, is_refused}
use Rattle.capi.proofs.cse_load.Goals as goal

pub returns-then-answer-lt2 : goal.returns-then-answer-lt2
returns-then-answer-lt2 c = not_loaded _ c.args.rows.now c.args.roots.now c.args.answer.now c.if-answer-lt2.true

pub returns-in-Ok : goal.returns-in-Ok
returns-in-Ok c = is_loaded _ _ _ c.args.answer.now (told c.load.result) _ _ c.if-answer-lt2.false c.load.ensures _ _ (ap told c.in-Ok.is)

pub returns-in-Err : goal.returns-in-Err
returns-in-Err c = is_refused _ _ _ c.args.answer.now (told c.load.result) _ _ c.if-answer-lt2.false c.load.ensures _ _ (search rules)
