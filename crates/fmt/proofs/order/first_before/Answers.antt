-- `fmt::order::first_before` meets its contract. Assumes nothing.
use Rattle.std.proofs.Common.{◌∙◌, ap, ap₂}
use lib.Seq.{take-length}
use Rattle.spec_tree.specs.text.Text.{before, later}
use Rattle.fmt.proofs.order.OrderLaws.{before_later}
use Rattle.fmt.proofs.order.first_before.Goals as goal

pub returns : goal.returns
returns c = let a = c.args in
    c.before-2.ensures
    ∙ (ap (before a.first.now) (c.later-last.ensures ∙ ap₂ later (take-length a.first.now) (take-length a.second.now)) ∙ before_later a.first.now a.second.now)
