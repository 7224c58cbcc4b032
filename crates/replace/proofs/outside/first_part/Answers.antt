-- `replace::outside::first_part` meets its contract. Assumes nothing.
use Rattle.std.proofs.Common.{true, false, sym, ◌∙◌, arith}
use Rattle.words.proofs.words.Runs.{whole_not_broken}
use Rattle.replace.proofs.outside.Searching.{compared, low_kind, no_operand, is_target, is_node, key_there, switch_found}
use Rattle.replace.proofs.outside.first_part.Goals as goal
use Rattle.replace.proofs.outside.first_part.Goals.{then-w-lt-BRANCH-via-then-w-lt-BRANCH, then-w-lt-BRANCH-via-else-w-lt-BRANCH+then-w-lt1}

pub returns-then-w-lt-BRANCH : goal.returns-then-w-lt-BRANCH
returns-then-w-lt-BRANCH c = let us = c.args.tokens.now in let d = c.args.target.now in let other = compared us d c.requires.tokens_nonzero.0 c.requires.tokens_nonzero.1 c.requires.target_value false (rw c.if-starts_with.false at c.starts_with.ensures) in
    elim c.then-w-lt-BRANCH.branch [
      | then-w-lt-BRANCH-via-then-w-lt-BRANCH w ↦ is_node us d other (low_kind _ w.if-w-lt-BRANCH.true)
      | then-w-lt-BRANCH-via-else-w-lt-BRANCH+then-w-lt1 w ↦ is_node us d other (no_operand _ w.if-w-lt1.true)
    ]

pub returns-then-starts_with : goal.returns-then-starts_with
returns-then-starts_with c = let us = c.args.tokens.now in
    let d = c.args.target.now in
    is_target us d (compared us d c.requires.tokens_nonzero.0 c.requires.tokens_nonzero.1 c.requires.target_value true (rw c.if-starts_with.true at c.starts_with.ensures))

pub returns-in_default : goal.returns-in_default
returns-in_default c = let us = c.args.tokens.now in
    let d = c.args.target.now in
    let other = compared us d c.requires.tokens_nonzero.0 c.requires.tokens_nonzero.1 c.requires.target_value false (rw c.if-starts_with.false at c.starts_with.ensures) in
    absurd (key_there us d other (omega (arith, c.if-w-lt-BRANCH.false)) (omega (arith, c.if-w-lt1.false)) c.requires.tokens_nonzero.0 c.requires.tokens_nonzero.1 (sym c.in_default.is ∙ c.end_of.ensures))

pub returns-in_default-end_of : goal.returns-in_default-end_of
returns-in_default-end_of c = let us = c.args.tokens.now in
    let d = c.args.target.now in
    absurd (whole_not_broken us c.requires.tokens_nonzero.0 c.requires.tokens_nonzero.1 (sym c.in_default-end_of.is ∙ c.end_of-2.ensures))

pub returns : goal.returns
returns c = let us = c.args.tokens.now in
    let d = c.args.target.now in
    let other = compared us d c.requires.tokens_nonzero.0 c.requires.tokens_nonzero.1 c.requires.target_value false (rw c.if-starts_with.false at c.starts_with.ensures) in
    switch_found us d other (omega (arith, c.if-w-lt-BRANCH.false)) (omega (arith, c.if-w-lt1.false)) _ _ (sym c.in-Some.is ∙ c.end_of.ensures) (sym c.in-Some-end_of.is ∙ c.end_of-2.ensures)
