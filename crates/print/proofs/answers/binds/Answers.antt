-- `print::answers::binds` meets its contract. Assumes nothing.
use Rattle.std.proofs.Common.{length, get_or, ◌∙◌}
use Rattle.laws.proofs.answer.WayLaws.{bind_let, bind_keyless, bind_names}
use Rattle.print.proofs.answers.Ends.{match_row, match_most, bind_no}
use Rattle.print.proofs.answers.binds.Goals as goal

pub returns-then-w-eq-LET : goal.returns-then-w-eq-LET
returns-then-w-eq-LET c = bind_let c.args.words.now c.args.code c.args.at c.if-w-eq-LET.true

pub returns-then-not-is_match : goal.returns-then-not-is_match
returns-then-not-is_match c = bind_no c.args.words.now c.args.code c.args.at c.if-w-eq-LET.false c.if-not-is_match.ensures

pub returns-in_default : goal.returns-in_default
returns-in_default c =
    let w = get_or c.args.words.now c.args.at 0 in
    bind_keyless c.args.words.now c.args.code c.args.at (match_row w c.if-not-is_match.ensures) (match_most w c.if-not-is_match.ensures) c.requires c.in_default.ensures

pub returns : goal.returns
returns c =
    let words = c.args.words.now in
    let w = get_or words c.args.at 0 in
    c.names_bind.ensures ∙ bind_names words c.args.code c.args.at (match_row w c.if-not-is_match.ensures) (match_most w c.if-not-is_match.ensures) (length words) c.in-Some.end c.in-Some.ensures
