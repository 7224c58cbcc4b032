-- `print::answers::head` meets its contract. Assumes nothing.
use Rattle.std.proofs.Common.{◌-◌, refl}
use Rattle.fmt.specs.checked.Check.{rows_in}
use Rattle.laws.proofs.answer.CodeLaws.{head_keyless, head_nameless, head_narrow}
use Rattle.print.proofs.answers.Ends.{head_no, head_told}
use Rattle.print.proofs.answers.head.Goals as goal
use Rattle.print.proofs.answers.head.Goals.{then-names-eq0-via-then-names-eq0, then-names-eq0-via-else-names-eq0+then-below-names}

pub returns-then-not-is_match : goal.returns-then-not-is_match
returns-then-not-is_match c = head_no (rows_in c.args.rows.now) c.args.words.now c.args.at c.requires c.if-not-is_match.ensures

pub returns-in_err-first : goal.returns-in_err-first
returns-in_err-first c = rw c.from_residual.ensures (head_keyless (rows_in c.args.rows.now) c.args.words.now c.args.at c.requires c.in_err-first.ensures)

pub overflow_sub-names : goal.overflow_sub-names
overflow_sub-names c = (c.names-start.ensures (rows_in c.args.rows.now)).0

pub returns-then-names-eq0 : goal.returns-then-names-eq0
returns-then-names-eq0 c =
    let list = rows_in c.args.rows.now in
    let named = c.names-start.ensures list in
    elim c.then-names-eq0.branch [
      | then-names-eq0-via-then-names-eq0 w ↦
          head_nameless list c.args.words.now c.args.at c.requires c.in_ok-first.first c.names-start.result (c.names-start.result - c.in_ok-first.first) c.in_ok-first.ensures.2 named.2 w.if-names-eq0.true
      | then-names-eq0-via-else-names-eq0+then-below-names w ↦
          head_narrow list c.args.words.now c.args.at c.requires c.in_ok-first.first c.names-start.result (c.names-start.result - c.in_ok-first.first) c.in_ok-first.ensures.2 named.2 w.if-below-names.true
    ]

pub returns : goal.returns
returns c =
    let list = rows_in c.args.rows.now in
    let named = c.names-start.ensures list in
    rw c.then_some.ensures
    (head_told list c.args.words.now c.args.at c.requires c.in_ok-first.first c.names-start.result (c.names-start.result - c.in_ok-first.first) refl c.in_ok-first.ensures named c.if-not-is_match.ensures c.if-names-eq0.false c.if-below-names.false c.switch_fits-fits.result c.switch_fits-fits.ensures)
