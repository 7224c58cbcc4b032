-- `capi::cse_text` meets its contract. Assumes nothing.
use Rattle.capi.specs.Texts.{text_number, text_answer}
use Rattle.capi.proofs.Ends.{no_room, is_called}
use Rattle.capi.proofs.TextEnds.{text_written, text_broken}
use Rattle.capi.proofs.cse_text.Goals as goal

pub returns-then-answer-lt2 : goal.returns-then-answer-lt2
returns-then-answer-lt2 c = no_room 2 _ _ _ c.args.out.now c.args.answer.now c.if-answer-lt2.true

pub returns-in-Some : goal.returns-in-Some
returns-in-Some c = is_called 2 text_number text_answer _ _ c.args.out.now c.args.answer.now c.text_no_deeper.result _ _ _ c.if-answer-lt2.false c.text_no_deeper.ensures (text_written _ c.args.answer.now c.if-answer-lt2.false _ c.in-Some.is)

pub returns-in-None : goal.returns-in-None
returns-in-None c = is_called 2 text_number text_answer _ _ c.args.out.now c.args.answer.now c.text_no_deeper.result _ _ _ c.if-answer-lt2.false c.text_no_deeper.ensures (text_broken _ c.args.answer.now c.in-None.is)
