-- `replace::divisor::rewrite` meets its contract. What is written so far, with what the rest becomes, is the whole; it falls by the words of the first operand. Assumes nothing.
use Rattle.std.proofs.Common.{sym, ◌∙◌, arith}
use Rattle.words.proofs.words.Scanning.{here_asked, scan_ends}
use Rattle.replace.proofs.divisor.Turning.{by_words, place_at, turn_other, room, part_complete, lent_room, few, back_long, turn_by}
use Rattle.replace.proofs.divisor.+rewrite.Goals as goal

pub first_division-requires : goal.first_division-requires
first_division-requires t c = record { tokens_nonzero = here_asked c.args.tokens.now c.requires.complete c.loop-i.i c.loop-i-test.true; divisor_value = c.requires.divisor_value.0 }

pub overflow_add-to : goal.overflow_add-to
overflow_add-to t c = let h = place_at c.args.tokens.now c.args.divisor.now c.args.name c.args.out.now (c.requires.complete, (c.requires.divisor_value, c.requires.tokens_in_bounds)) c.loop-i.invariant c.loop-i-test.true in
    let q = sym c.in-Some.is ∙ c.first_division.ensures in
    let r = room h _ _ q in
    omega (arith, r, h.fits, c.well_formed)

pub slice_bounds-rewrite-count : goal.slice_bounds-rewrite-count
slice_bounds-rewrite-count t c = let h = place_at c.args.tokens.now c.args.divisor.now c.args.name c.args.out.now (c.requires.complete, (c.requires.divisor_value, c.requires.tokens_in_bounds)) c.loop-i.invariant c.loop-i-test.true in
    let q = sym c.in-Some.is ∙ c.first_division.ensures in
    let r = room h _ _ q in
    omega (arith, r, h.fits, c.well_formed)

pub slice_bounds-rewrite-start : goal.slice_bounds-rewrite-start
slice_bounds-rewrite-start t c = let h = place_at c.args.tokens.now c.args.divisor.now c.args.name c.args.out.now (c.requires.complete, (c.requires.divisor_value, c.requires.tokens_in_bounds)) c.loop-i.invariant c.loop-i-test.true in
    let q = sym c.in-Some.is ∙ c.first_division.ensures in
    let r = room h _ _ q in
    omega (arith, r, h.fits, c.well_formed)

pub slice_bounds-rewrite-end : goal.slice_bounds-rewrite-end
slice_bounds-rewrite-end t c = let h = place_at c.args.tokens.now c.args.divisor.now c.args.name c.args.out.now (c.requires.complete, (c.requires.divisor_value, c.requires.tokens_in_bounds)) c.loop-i.invariant c.loop-i-test.true in
    let q = sym c.in-Some.is ∙ c.first_division.ensures in
    let r = room h _ _ q in
    omega (arith, r, h.fits, c.well_formed)

pub rewrite-n-requires : goal.rewrite-n-requires
rewrite-n-requires t c = let h = place_at c.args.tokens.now c.args.divisor.now c.args.name c.args.out.now (c.requires.complete, (c.requires.divisor_value, c.requires.tokens_in_bounds)) c.loop-i.invariant c.loop-i-test.true in
    let q = sym c.in-Some.is ∙ c.first_division.ensures in
    let r = room h _ _ q in
    (omega (arith, r, c.decreases), (part_complete h _ _ q, (c.requires.divisor_value, lent_room h _ _ q)))

pub bounds-out-last : goal.bounds-out-last
bounds-out-last t c = let h = place_at c.args.tokens.now c.args.divisor.now c.args.name c.args.out.now (c.requires.complete, (c.requires.divisor_value, c.requires.tokens_in_bounds)) c.loop-i.invariant c.loop-i-test.true in
    let q = sym c.in-Some.is ∙ c.first_division.ensures in
    let r = room h _ _ q in
    let k = few h _ _ q c.rewrite-n.result c.rewrite-n.new.out c.rewrite-n.ensures in
    omega (arith, r, k, h.fits, back_long h _ _ q c.rewrite-n.result c.rewrite-n.new.out c.rewrite-n.ensures)

pub overflow_add-i : goal.overflow_add-i
overflow_add-i t c = let h = place_at c.args.tokens.now c.args.divisor.now c.args.name c.args.out.now (c.requires.complete, (c.requires.divisor_value, c.requires.tokens_in_bounds)) c.loop-i.invariant c.loop-i-test.true in
    let q = sym c.in-Some.is ∙ c.first_division.ensures in
    let r = room h _ _ q in
    omega (arith, r, h.fits, c.well_formed)

pub loop-i-smaller-in-Some : goal.loop-i-smaller-in-Some
loop-i-smaller-in-Some t c = let h = place_at c.args.tokens.now c.args.divisor.now c.args.name c.args.out.now (c.requires.complete, (c.requires.divisor_value, c.requires.tokens_in_bounds)) c.loop-i.invariant c.loop-i-test.true in
    let q = sym c.in-Some.is ∙ c.first_division.ensures in
    let r = room h _ _ q in
    omega (arith, r, h.fits, c.well_formed)

pub loop-i-preserved-in-Some : goal.loop-i-preserved-in-Some
loop-i-preserved-in-Some t c = let h = place_at c.args.tokens.now c.args.divisor.now c.args.name c.args.out.now (c.requires.complete, (c.requires.divisor_value, c.requires.tokens_in_bounds)) c.loop-i.invariant c.loop-i-test.true in
    let q = sym c.in-Some.is ∙ c.first_division.ensures in
    turn_by h _ _ q c.rewrite-n.result c.rewrite-n.new.out c.rewrite-n.ensures

pub loop-i-preserved : goal.loop-i-preserved
loop-i-preserved t c = let h = place_at c.args.tokens.now c.args.divisor.now c.args.name c.args.out.now (c.requires.complete, (c.requires.divisor_value, c.requires.tokens_in_bounds)) c.loop-i.invariant c.loop-i-test.true in
    turn_other h (sym c.in-None.is ∙ c.first_division.ensures)

pub returns : goal.returns
returns t c = scan_ends (by_words c.args.divisor.now c.args.name) c.args.tokens.now c.args.out.now c.loop-i.invariant c.loop-i-test.false
