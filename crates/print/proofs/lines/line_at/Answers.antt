-- `print::lines::line_at` meets its contract. Assumes nothing.
use Prim.Native.Nat.{◌+◌}
use native.Mathlib.Omega.{arith}
use mathlib.Core.Path.{sym, ◌∙◌}
use Rattle.fmt.proofs.writer.Answering.{passed_stands}
use Rattle.print.proofs.lines.LineLaws.{begun_inside, not_begun, not_there, no_room, written}
use Rattle.print.proofs.lines.line_at.Goals as goal

pub returns-then-not-begins : goal.returns-then-not-begins
returns-then-not-begins c = not_begun c.args.rows.now c.args.answer.now c.args.at c.args.out.now
    (sym (c.if-not-begins.true) ∙ c.begins.ensures)

pub overflow_add-at : goal.overflow_add-at
overflow_add-at c = let b = sym (c.if-not-begins.false) ∙ c.begins.ensures in
    omega (arith, begun_inside c.args.rows.now c.args.answer.now c.args.at b, c.well_formed.1.0)

pub returns-in_default : goal.returns-in_default
returns-in_default c = not_there c.args.rows.now c.args.answer.now c.args.at c.args.out.now
    (sym c.in_default.is ∙ c.tree_ok.ensures)

pub write_line-measured-requires : goal.write_line-measured-requires
write_line-measured-requires c = let b = sym (c.if-not-begins.false) ∙ c.begins.ensures in
    let r = c.args.rows.now in
    let w = c.args.answer.now in
    let i = c.args.at in
    record { at_in_bounds = (begun_inside r w i b, b); stands = passed_stands r w (i + 1) c.in-Some.field-0 (sym c.in-Some.is ∙ c.tree_ok.ensures) }

pub returns-then-measured-out : goal.returns-then-measured-out
returns-then-measured-out c = let b = sym (c.if-not-begins.false) ∙ c.begins.ensures in
    let r = c.args.rows.now in
    let w = c.args.answer.now in
    let i = c.args.at in
    let s = passed_stands r w (i + 1) c.in-Some.field-0 (sym c.in-Some.is ∙ c.tree_ok.ensures) in
    no_room r w i c.args.out.now b s _ _ _ c.write_line-measured.ensures c.if-measured-out.true

pub write_line-written-requires : goal.write_line-written-requires
write_line-written-requires c = let b = sym (c.if-not-begins.false) ∙ c.begins.ensures in
    let r = c.args.rows.now in
    let w = c.args.answer.now in
    let i = c.args.at in
    record { at_in_bounds = (begun_inside r w i b, b); stands = passed_stands r w (i + 1) c.in-Some.field-0 (sym c.in-Some.is ∙ c.tree_ok.ensures) }

pub returns : goal.returns
returns c = let b = sym (c.if-not-begins.false) ∙ c.begins.ensures in
    let r = c.args.rows.now in
    let w = c.args.answer.now in
    let i = c.args.at in
    let s = passed_stands r w (i + 1) c.in-Some.field-0 (sym c.in-Some.is ∙ c.tree_ok.ensures) in
    written r w i c.args.out.now b s _ _ _ c.write_line-measured.ensures _ _ _ c.if-measured-out.false c.write_line-written.ensures
