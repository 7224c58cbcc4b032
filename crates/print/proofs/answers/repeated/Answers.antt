-- `print::answers::repeated` meets its contract. Assumes nothing.
use Rattle.std.proofs.Common.{◌+◌, get_or, sym, ◌∙◌, ap}
use Rattle.laws.specs.answer.Seen.{occurs}
use Rattle.laws.proofs.answer.WayLaws.{repeated_so}
use Rattle.print.proofs.answers.Lists.{occurs_is, to_end}
use Rattle.print.proofs.answers.repeated.Goals as goal

pub returns-then-is_binding : goal.returns-then-is_binding
returns-then-is_binding c =
    let words = c.args.words.now in
    let w = get_or words c.args.at 0 in
    c.contains.ensures.value ∙ (occurs_is w _ ∙ (ap (occurs w) (to_end words (c.args.at + 1)) ∙ repeated_so words c.args.at (sym c.if-is_binding.true ∙ c.is_binding.ensures)))
