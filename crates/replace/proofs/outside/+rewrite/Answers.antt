-- `replace::outside::rewrite` meets its contract. What is written so far, with what the rest becomes, is the whole; it falls by the words of the key. Assumes nothing.
use Rattle.std.proofs.Common.{sym, ◌∙◌, arith}
use Rattle.words.proofs.words.Scanning.{here_asked, scan_ends}
use Rattle.replace.proofs.outside.Turning.{by_words, place_at, target_within, target_some, turn_target, turn_node, room, key_complete, lent_room, arms_room, turn_switch}
use Rattle.replace.proofs.outside.+rewrite.Goals as goal

pub first_part-requires : goal.first_part-requires
first_part-requires t c = record { tokens_nonzero = here_asked c.args.tokens.now c.requires.complete c.loop-i.i c.loop-i-test.true; target_value = c.requires.target_value.0 }

pub loop-i-smaller-in-Target : goal.loop-i-smaller-in-Target
loop-i-smaller-in-Target t c = let h = place_at c.args.tokens.now c.args.target.now c.args.name c.args.out.now (c.requires.complete, (c.requires.target_value, c.requires.tokens_in_bounds)) c.loop-i.invariant c.loop-i-test.true in
    let q = sym c.in-Target.is ∙ c.first_part.ensures in
    omega (arith, target_within h q, target_some h q, c.well_formed)

pub loop-i-preserved-in-Target : goal.loop-i-preserved-in-Target
loop-i-preserved-in-Target t c = let h = place_at c.args.tokens.now c.args.target.now c.args.name c.args.out.now (c.requires.complete, (c.requires.target_value, c.requires.tokens_in_bounds)) c.loop-i.invariant c.loop-i-test.true in
    let q = sym c.in-Target.is ∙ c.first_part.ensures in
    turn_target h q

pub overflow_add-to : goal.overflow_add-to
overflow_add-to t c = let h = place_at c.args.tokens.now c.args.target.now c.args.name c.args.out.now (c.requires.complete, (c.requires.target_value, c.requires.tokens_in_bounds)) c.loop-i.invariant c.loop-i-test.true in
    let q = sym c.in-Switch.is ∙ c.first_part.ensures in
    let r = room h _ _ q in
    omega (arith, r, h.fits, c.well_formed)

pub slice_bounds-rewrite-count : goal.slice_bounds-rewrite-count
slice_bounds-rewrite-count t c = let h = place_at c.args.tokens.now c.args.target.now c.args.name c.args.out.now (c.requires.complete, (c.requires.target_value, c.requires.tokens_in_bounds)) c.loop-i.invariant c.loop-i-test.true in
    let q = sym c.in-Switch.is ∙ c.first_part.ensures in
    let r = room h _ _ q in
    omega (arith, r, h.fits, c.well_formed)

pub slice_bounds-rewrite-start : goal.slice_bounds-rewrite-start
slice_bounds-rewrite-start t c = let h = place_at c.args.tokens.now c.args.target.now c.args.name c.args.out.now (c.requires.complete, (c.requires.target_value, c.requires.tokens_in_bounds)) c.loop-i.invariant c.loop-i-test.true in
    let q = sym c.in-Switch.is ∙ c.first_part.ensures in
    let r = room h _ _ q in
    omega (arith, r, h.fits, c.well_formed)

pub slice_bounds-rewrite-end : goal.slice_bounds-rewrite-end
slice_bounds-rewrite-end t c = let h = place_at c.args.tokens.now c.args.target.now c.args.name c.args.out.now (c.requires.complete, (c.requires.target_value, c.requires.tokens_in_bounds)) c.loop-i.invariant c.loop-i-test.true in
    let q = sym c.in-Switch.is ∙ c.first_part.ensures in
    let r = room h _ _ q in
    omega (arith, r, h.fits, c.well_formed)

pub rewrite-n-requires : goal.rewrite-n-requires
rewrite-n-requires t c = let h = place_at c.args.tokens.now c.args.target.now c.args.name c.args.out.now (c.requires.complete, (c.requires.target_value, c.requires.tokens_in_bounds)) c.loop-i.invariant c.loop-i-test.true in
    let q = sym c.in-Switch.is ∙ c.first_part.ensures in
    let r = room h _ _ q in
    (omega (arith, r, c.decreases), (key_complete h _ _ q, (c.requires.target_value, lent_room h _ _ q)))

pub overflow_add-next : goal.overflow_add-next
overflow_add-next t c = let h = place_at c.args.tokens.now c.args.target.now c.args.name c.args.out.now (c.requires.complete, (c.requires.target_value, c.requires.tokens_in_bounds)) c.loop-i.invariant c.loop-i-test.true in
    let q = sym c.in-Switch.is ∙ c.first_part.ensures in
    let r = room h _ _ q in
    omega (arith, r, h.fits, c.well_formed)

pub offset_bounds-tokens-to : goal.offset_bounds-tokens-to
offset_bounds-tokens-to t c = let h = place_at c.args.tokens.now c.args.target.now c.args.name c.args.out.now (c.requires.complete, (c.requires.target_value, c.requires.tokens_in_bounds)) c.loop-i.invariant c.loop-i-test.true in
    let q = sym c.in-Switch.is ∙ c.first_part.ensures in
    let r = room h _ _ q in
    omega (arith, r, h.fits, c.well_formed)

pub slice_bounds-copy-count : goal.slice_bounds-copy-count
slice_bounds-copy-count t c = let h = place_at c.args.tokens.now c.args.target.now c.args.name c.args.out.now (c.requires.complete, (c.requires.target_value, c.requires.tokens_in_bounds)) c.loop-i.invariant c.loop-i-test.true in
    let q = sym c.in-Switch.is ∙ c.first_part.ensures in
    let r = room h _ _ q in
    omega (arith, r, h.fits, c.well_formed)

pub slice_bounds-copy-start : goal.slice_bounds-copy-start
slice_bounds-copy-start t c = let h = place_at c.args.tokens.now c.args.target.now c.args.name c.args.out.now (c.requires.complete, (c.requires.target_value, c.requires.tokens_in_bounds)) c.loop-i.invariant c.loop-i-test.true in
    let q = sym c.in-Switch.is ∙ c.first_part.ensures in
    let r = room h _ _ q in
    omega (arith, r, h.fits, c.well_formed)

pub slice_bounds-copy-end : goal.slice_bounds-copy-end
slice_bounds-copy-end t c = let h = place_at c.args.tokens.now c.args.target.now c.args.name c.args.out.now (c.requires.complete, (c.requires.target_value, c.requires.tokens_in_bounds)) c.loop-i.invariant c.loop-i-test.true in
    let q = sym c.in-Switch.is ∙ c.first_part.ensures in
    let r = room h _ _ q in
    omega (arith, r, h.fits, c.well_formed)

pub copy-requires : goal.copy-requires
copy-requires t c = let h = place_at c.args.tokens.now c.args.target.now c.args.name c.args.out.now (c.requires.complete, (c.requires.target_value, c.requires.tokens_in_bounds)) c.loop-i.invariant c.loop-i-test.true in
    let q = sym c.in-Switch.is ∙ c.first_part.ensures in
    arms_room h _ _ q c.rewrite-n.result c.rewrite-n.new.out c.rewrite-n.ensures

pub overflow_sub-o : goal.overflow_sub-o
overflow_sub-o t c = let h = place_at c.args.tokens.now c.args.target.now c.args.name c.args.out.now (c.requires.complete, (c.requires.target_value, c.requires.tokens_in_bounds)) c.loop-i.invariant c.loop-i-test.true in
    let q = sym c.in-Switch.is ∙ c.first_part.ensures in
    let r = room h _ _ q in
    omega (arith, r, h.fits, c.well_formed)

pub loop-i-smaller-in-Switch : goal.loop-i-smaller-in-Switch
loop-i-smaller-in-Switch t c = let h = place_at c.args.tokens.now c.args.target.now c.args.name c.args.out.now (c.requires.complete, (c.requires.target_value, c.requires.tokens_in_bounds)) c.loop-i.invariant c.loop-i-test.true in
    let q = sym c.in-Switch.is ∙ c.first_part.ensures in
    let r = room h _ _ q in
    omega (arith, r, h.fits, c.well_formed)

pub loop-i-preserved-in-Switch : goal.loop-i-preserved-in-Switch
loop-i-preserved-in-Switch t c = let h = place_at c.args.tokens.now c.args.target.now c.args.name c.args.out.now (c.requires.complete, (c.requires.target_value, c.requires.tokens_in_bounds)) c.loop-i.invariant c.loop-i-test.true in
    let q = sym c.in-Switch.is ∙ c.first_part.ensures in
    turn_switch h _ _ q c.rewrite-n.result c.rewrite-n.new.out c.rewrite-n.ensures _ c.copy.ensures

pub loop-i-preserved : goal.loop-i-preserved
loop-i-preserved t c = let h = place_at c.args.tokens.now c.args.target.now c.args.name c.args.out.now (c.requires.complete, (c.requires.target_value, c.requires.tokens_in_bounds)) c.loop-i.invariant c.loop-i-test.true in
    let q = sym c.in-Node.is ∙ c.first_part.ensures in
    turn_node h q

pub returns : goal.returns
returns t c = scan_ends (by_words c.args.target.now c.args.name) c.args.tokens.now c.args.out.now c.loop-i.invariant c.loop-i-test.false
