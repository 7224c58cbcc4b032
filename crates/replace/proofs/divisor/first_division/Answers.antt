-- `replace::divisor::first_division` meets its contract. Assumes nothing.
use Rattle.std.proofs.Common.{false, sym, ◌∙◌, arith}
use Rattle.words.specs.words.Words.{tree_of}
use Rattle.replace.proofs.divisor.Dividing.{other_kind, other_few}
use Rattle.replace.proofs.divisor.Searching.{is_other, first_there_is, second_inside, compared, whole_there_is, found}
use Rattle.replace.proofs.divisor.first_division.Goals as goal
use Rattle.replace.proofs.divisor.first_division.Goals.{then-w-ne-DIV-via-then-w-ne-DIV, then-w-ne-DIV-via-else-w-ne-DIV+then-w-lt2}

pub returns-then-w-ne-DIV : goal.returns-then-w-ne-DIV
returns-then-w-ne-DIV c = let us = c.args.tokens.now in
    let d = c.args.divisor.now in elim c.then-w-ne-DIV.branch [
      | then-w-ne-DIV-via-then-w-ne-DIV w ↦ is_other us d (other_kind (tree_of d) us c.requires.tokens_nonzero.0 w.if-w-ne-DIV.true)
      | then-w-ne-DIV-via-else-w-ne-DIV+then-w-lt2 w ↦ is_other us d (other_few (tree_of d) us c.requires.tokens_nonzero.0 w.if-w-lt2.true)
    ]

pub returns-in_err-second : goal.returns-in_err-second
returns-in_err-second c = absurd (first_there_is c.args.tokens.now c.args.divisor.now c.requires.tokens_nonzero.0 c.requires.tokens_nonzero.1 c.requires.divisor_value (omega (arith, c.if-w-ne-DIV.false)) (omega (arith, c.if-w-lt2.false)) (sym c.in_err-second.was ∙ c.end_of.ensures))

pub offset_bounds-tokens-second : goal.offset_bounds-tokens-second
offset_bounds-tokens-second c = omega (arith, second_inside c.args.tokens.now c.args.divisor.now c.requires.tokens_nonzero.0 c.requires.tokens_nonzero.1 c.requires.divisor_value (omega (arith, c.if-w-ne-DIV.false)) (omega (arith, c.if-w-lt2.false)) c.in_ok-second.second (sym c.in_ok-second.was ∙ c.end_of.ensures), c.well_formed.0)

pub slice_bounds-starts_with-count : goal.slice_bounds-starts_with-count
slice_bounds-starts_with-count c = omega (arith, second_inside c.args.tokens.now c.args.divisor.now c.requires.tokens_nonzero.0 c.requires.tokens_nonzero.1 c.requires.divisor_value (omega (arith, c.if-w-ne-DIV.false)) (omega (arith, c.if-w-lt2.false)) c.in_ok-second.second (sym c.in_ok-second.was ∙ c.end_of.ensures), c.well_formed.0)

pub slice_bounds-starts_with-start : goal.slice_bounds-starts_with-start
slice_bounds-starts_with-start c = omega (arith, second_inside c.args.tokens.now c.args.divisor.now c.requires.tokens_nonzero.0 c.requires.tokens_nonzero.1 c.requires.divisor_value (omega (arith, c.if-w-ne-DIV.false)) (omega (arith, c.if-w-lt2.false)) c.in_ok-second.second (sym c.in_ok-second.was ∙ c.end_of.ensures), c.well_formed.0)

pub returns-then-not-starts_with : goal.returns-then-not-starts_with
returns-then-not-starts_with c = let us = c.args.tokens.now in
    let d = c.args.divisor.now in
    is_other us d (compared us d c.requires.tokens_nonzero.0 c.requires.tokens_nonzero.1 c.requires.divisor_value (omega (arith, c.if-w-ne-DIV.false)) (omega (arith, c.if-w-lt2.false)) c.in_ok-second.second (sym c.in_ok-second.was ∙ c.end_of.ensures) false (rw c.if-not-starts_with.true at c.starts_with.ensures))

pub returns-in_err-end : goal.returns-in_err-end
returns-in_err-end c = absurd (whole_there_is c.args.tokens.now c.args.divisor.now c.requires.tokens_nonzero.0 c.requires.tokens_nonzero.1 c.requires.divisor_value (sym c.in_err-end.was ∙ c.end_of-2.ensures))

pub returns : goal.returns
returns c = let us = c.args.tokens.now in
    let d = c.args.divisor.now in
    found us d c.requires.tokens_nonzero.0 c.requires.tokens_nonzero.1 c.requires.divisor_value (omega (arith, c.if-w-ne-DIV.false)) (omega (arith, c.if-w-lt2.false)) c.in_ok-second.second (sym c.in_ok-second.was ∙ c.end_of.ensures) (rw c.if-not-starts_with.false at c.starts_with.ensures) c.in_ok-end.end (sym c.in_ok-end.was ∙ c.end_of-2.ensures)
