-- `capi::cse_extract` meets its contract. Assumes nothing.
use Rattle.capi.specs.Extracts.{extracted_number, extracted_answer}
use Rattle.capi.proofs.Ends.{no_room, is_called}
use Rattle.cse_flat.specs.Answers.{told}
use Rattle.capi.proofs.cse_extract.Goals as goal

pub returns-then-answer-lt2 : goal.returns-then-answer-lt2
returns-then-answer-lt2 c = no_room 2 _ _ _ c.args.table.now c.args.answer.now c.if-answer-lt2.true

pub returns : goal.returns
returns c = is_called 2 extracted_number extracted_answer _ _ c.args.table.now c.args.answer.now (told c.cse-got.result) _ _ _ c.if-answer-lt2.false c.cse-got.ensures c.extract_told.ensures
