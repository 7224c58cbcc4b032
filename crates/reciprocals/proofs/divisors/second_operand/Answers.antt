-- `reciprocals::divisors::second_operand` meets its contract. Assumes nothing.
use native.Mathlib.Omega.{arith}
use mathlib.Core.Path.{◌∙◌}
use Rattle.reciprocals.proofs.divisors.Places.{other_kind, one_operand, second_there}
use Rattle.reciprocals.proofs.divisors.second_operand.Goals as goal
use Rattle.reciprocals.proofs.divisors.second_operand.Goals.{then-w-ne-DIV-via-then-w-ne-DIV, then-w-ne-DIV-via-else-w-ne-DIV+then-w-lt2}

pub returns-then-w-ne-DIV : goal.returns-then-w-ne-DIV
returns-then-w-ne-DIV c =
    elim c.then-w-ne-DIV.branch [
      | then-w-ne-DIV-via-then-w-ne-DIV w ↦ other_kind c.args.tokens.now c.args.p w.if-w-ne-DIV.true
      | then-w-ne-DIV-via-else-w-ne-DIV+then-w-lt2 w ↦ one_operand c.args.tokens.now c.args.p (omega (arith, w.if-w-ne-DIV.false)) w.if-w-lt2.true
    ]

pub returns : goal.returns
returns c = c.end_of.ensures ∙ second_there c.args.tokens.now c.args.p (omega (arith, c.if-w-ne-DIV.false)) c.requires.0 c.requires.1 c.if-w-lt2.false
