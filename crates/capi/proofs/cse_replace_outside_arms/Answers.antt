-- `capi::cse_replace_outside_arms` meets its contract. Assumes nothing.
use Rattle.capi.specs.Rewrites.{rewritten_number, rewritten_answer}
use Rattle.capi.proofs.Ends.{no_room, is_called}
use Rattle.capi.proofs.cse_replace_outside_arms.Goals as goal

pub returns-then-answer-lt1 : goal.returns-then-answer-lt1
returns-then-answer-lt1 c = no_room 1 _ _ _ c.args.out.now c.args.answer.now c.if-answer-lt1.true

pub returns : goal.returns
returns c = is_called 1 rewritten_number rewritten_answer _ _ c.args.out.now c.args.answer.now c.outside_no_deeper-got.result _ _ _ c.if-answer-lt1.false c.outside_no_deeper-got.ensures c.rewrite_told.ensures
