-- `replace::coefficient::size_of` meets its contract. The truncated number is the only one whose float a can be, and equal bits say that it is. Assumes nothing.
use Rattle.std.proofs.Common.{◌≡◌, ℕ, ◌^◌, ◌<◌, false, not, T, pos, sym, ap, ◌∙◌, subst, true≢false}
use lib.Ieee.{Float, binary64, of_bits, neg, of_int, to_bits, to_unsigned, is_nan, lt}
use lib.Ieee.Fits.{of_int-fits}
use lib.Ieee.Bits.{is_true}
use Rattle.replace.specs.coefficient.Answers.{float}
use Rattle.replace.proofs.coefficient.Whole.{limit, minus_one, to_word, float_no_nan, cut_below, same_bits, float_below, float_cut}
use Rattle.replace.proofs.coefficient.size_of.Goals as goal
use Rattle.replace.proofs.coefficient.size_of.Goals.{else-a-via-then-a+else-a-2, else-a-via-else-a}

pub truncating_f64_to_u64-n-requires : goal.truncating_f64_to_u64-n-requires
unfolding of_bits neg
truncating_f64_to_u64-n-requires c = record { lower_bound = subst T (sym c.if-a.true) tt; upper_bound = to_word c.args.a (subst T (sym c.if-a-2.true) tt) }

pub returns-else-a : goal.returns-else-a
unfolding of_bits neg
returns-else-a c = elim c.else-a.branch [
  | else-a-via-then-a+else-a-2 w ↦ λ n l e. true≢false (sym (is_true (lt (float false n) limit) (float_below n l).0) ∙ ap (λ (x : Float). lt x limit) (sym e) ∙ w.if-a-2.false)
  | else-a-via-else-a w ↦ λ n l e. true≢false (sym (is_true (lt minus_one (float false n)) (float_below n l).1) ∙ ap (λ (x : Float). lt minus_one x) (sym e) ∙ w.if-a.false)
]

pub float_to_bits-y : goal.float_to_bits-y
unfolding of_int
float_to_bits-y c = subst (λ (x : Float). T (not (is_nan x))) (sym c.nearest_u64_to_f64-y.ensures) (float_no_nan false c.truncating_f64_to_u64-n.result)

pub returns-then-y-a : goal.returns-then-y-a
unfolding of_bits neg of_int
returns-then-y-a c = let a = c.args.a in
    let n = c.truncating_f64_to_u64-n.result in
    let y = c.nearest_u64_to_f64-y.result in
    let e : y ≡ float false n = c.nearest_u64_to_f64-y.ensures in (
      same_bits a y (subst T (sym c.well_formed.0.1) tt) (subst (λ (x : Float). T (lib.Ieee.fits binary64 x)) (sym e) (of_int-fits binary64 (pos n))) (sym c.if-y-a.true) ∙ e,
      subst (λ (z : ℕ). z < 10 ^ 15) (sym c.truncating_f64_to_u64-n.ensures) (cut_below a (subst T (sym c.if-a-2.true) tt) (subst T (sym c.if-a.true) tt)),
    )

pub returns-else-y-a : goal.returns-else-y-a
unfolding of_int
returns-else-y-a c = λ n l e.
    let a = c.args.a in
    let r = c.truncating_f64_to_u64-n.result in
    let same : r ≡ n = c.truncating_f64_to_u64-n.ensures ∙ ap (to_unsigned 64) e ∙ float_cut n l in
    c.if-y-a.false (ap (to_bits binary64) (c.nearest_u64_to_f64-y.ensures ∙ ap (float false) same ∙ sym e))
