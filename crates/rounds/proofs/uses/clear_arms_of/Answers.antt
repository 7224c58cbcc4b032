-- `rounds::uses::clear_arms_of` meets its contract. Assumes nothing.
use Prim.Native.Nat.{◌≤◌}
use native.Mathlib.Omega.{arith}
use lib.ListN.{length}
use mathlib.Core.Path.{sym, ◌∙◌}
use Rattle.rounds.proofs.uses.Marking.{no_switch, no_operands, never_broken, arms_cleared, end_fits, part_cleared, nothing_cleared}
use Rattle.rounds.proofs.uses.clear_arms_of.Goals as goal

pub returns-then-tokens-p-lt-BRANCH : goal.returns-then-tokens-p-lt-BRANCH
returns-then-tokens-p-lt-BRANCH c = no_switch c.args.tokens.now c.args.marks.now c.args.p c.if-tokens-p-lt-BRANCH.true

pub returns-in_default : goal.returns-in_default
returns-in_default c = no_operands c.args.tokens.now c.requires.complete c.args.p c.requires.p_in_bounds.0 c.args.marks.now (sym c.in_default.is ∙ c.end_of.ensures)

pub returns-in_default-end_of : goal.returns-in_default-end_of
returns-in_default-end_of c = absurd (never_broken c.args.tokens.now c.requires.complete c.args.p c.requires.p_in_bounds.0 c.args.p c.requires.p_in_bounds.0 (sym c.in_default-end_of.is ∙ c.end_of-2.ensures))

pub offset_bounds-marks-arms : goal.offset_bounds-marks-arms
offset_bounds-marks-arms c = omega (arith, c.if-arms-end.true, c.requires.p_in_bounds, end_fits c.args.tokens.now c.requires.complete c.args.p c.requires.p_in_bounds.0 c.in-Some-end_of.end (sym c.in-Some-end_of.is ∙ c.end_of-2.ensures), c.well_formed)

pub slice_bounds-fill-end : goal.slice_bounds-fill-end
slice_bounds-fill-end c = omega (arith, c.requires.p_in_bounds, end_fits c.args.tokens.now c.requires.complete c.args.p c.requires.p_in_bounds.0 c.in-Some-end_of.end (sym c.in-Some-end_of.is ∙ c.end_of-2.ensures))

pub returns-then-arms-end : goal.returns-then-arms-end
returns-then-arms-end c =
    let within : c.in-Some-end_of.end ≤ length c.args.marks.now = omega (arith, c.requires.p_in_bounds, end_fits c.args.tokens.now c.requires.complete c.args.p c.requires.p_in_bounds.0 c.in-Some-end_of.end (sym c.in-Some-end_of.is ∙ c.end_of-2.ensures)) in
    arms_cleared c.args.tokens.now c.requires.complete c.args.p c.requires.p_in_bounds.0 c.args.marks.now _ c.in-Some.arms c.in-Some-end_of.end c.if-tokens-p-lt-BRANCH.false (sym c.in-Some.is ∙ c.end_of.ensures) (sym c.in-Some-end_of.is ∙ c.end_of-2.ensures)
    (part_cleared c.args.marks.now c.fill.new.self c.in-Some.arms c.in-Some-end_of.end (omega (arith, c.if-arms-end.true)) within (c.fill.ensures.after (λ y e. e)))

pub returns-else-arms-end : goal.returns-else-arms-end
returns-else-arms-end c =
    arms_cleared c.args.tokens.now c.requires.complete c.args.p c.requires.p_in_bounds.0 c.args.marks.now _ c.in-Some.arms c.in-Some-end_of.end c.if-tokens-p-lt-BRANCH.false (sym c.in-Some.is ∙ c.end_of.ensures) (sym c.in-Some-end_of.is ∙ c.end_of-2.ensures)
    (nothing_cleared c.args.marks.now c.in-Some.arms c.in-Some-end_of.end c.if-arms-end.false)
