-- `replace::unchanged::replace_or_leave` meets its contract. Assumes nothing.
use Rattle.std.specs.Prelude.{Err}
use Rattle.std.proofs.Common.{◌≡◌, List, ◌++◌, length, drop, sym, ap, ◌∙◌, arith, length-take-le}
use Rattle.replace.proofs.unchanged.Keeping.{two_thirds, as_lent, room_enough, behind_inside, kept_behind, kept_short, words_stay, error_stays, put_back}
use Rattle.replace.proofs.unchanged.replace_or_leave.Goals as goal

pub slice_bounds-copy-end : goal.slice_bounds-copy-end
slice_bounds-copy-end c = let old = c.args.out.now in
    let ws = c.args.tokens.now in
    let places = c.args.places.now in
    let mid = c.keep.new.places in
    let lent = length-take-le (two_thirds places) mid (omega (arith, c.keep.ensures.long)) in
    let told = as_lent _ _ _ ws c.args.target.now old places _ lent (sym (c.in-Err.is ∙ ap Err c.in-Refused.is) ∙ c.replace.ensures.0, c.replace.ensures.1) in
    let r = room_enough _ _ _ ws c.args.target.now old places told in
    let front : length c.replace.new.places ≡ two_thirds places = c.replace.auto.places ∙ lent in
    behind_inside old places mid c.replace.new.places (length ws) c.keep.ensures front r.0 r.1

pub copy-requires : goal.copy-requires
copy-requires c = let old = c.args.out.now in
    let ws = c.args.tokens.now in
    let places = c.args.places.now in
    let mid = c.keep.new.places in
    let lent = length-take-le (two_thirds places) mid (omega (arith, c.keep.ensures.long)) in
    let told = as_lent _ _ _ ws c.args.target.now old places _ lent (sym (c.in-Err.is ∙ ap Err c.in-Refused.is) ∙ c.replace.ensures.0, c.replace.ensures.1) in
    let r = room_enough _ _ _ ws c.args.target.now old places told in
    let front : length c.replace.new.places ≡ two_thirds places = c.replace.auto.places ∙ lent in
    omega (arith, kept_short old places mid c.replace.new.places (length ws) c.keep.ensures front r.0 r.1, r.0, c.replace.auto.out)

pub returns-in-Ok : goal.returns-in-Ok
returns-in-Ok c = let old = c.args.out.now in
    let ws = c.args.tokens.now in
    let places = c.args.places.now in
    let mid = c.keep.new.places in
    let lent = length-take-le (two_thirds places) mid (omega (arith, c.keep.ensures.long)) in
    let told = as_lent _ _ _ ws c.args.target.now old places _ lent (sym c.in-Ok.is ∙ c.replace.ensures.0, c.replace.ensures.1) in
    words_stay _ _ _ _ ws old _ _ told

pub returns-in-Refused : goal.returns-in-Refused
returns-in-Refused c = let old = c.args.out.now in
    let ws = c.args.tokens.now in
    let places = c.args.places.now in
    let mid = c.keep.new.places in
    let lent = length-take-le (two_thirds places) mid (omega (arith, c.keep.ensures.long)) in
    let told = as_lent _ _ _ ws c.args.target.now old places _ lent (sym (c.in-Err.is ∙ ap Err c.in-Refused.is) ∙ c.replace.ensures.0, c.replace.ensures.1) in
    let r = room_enough _ _ _ ws c.args.target.now old places told in
    let front : length c.replace.new.places ≡ two_thirds places = c.replace.auto.places ∙ lent in
    rw c.in-Refused.is (put_back _ _ _ _ ws old _ r.0 told _
    (c.copy.ensures ∙ ap (λ (s : List _). s ++ drop (length s) c.replace.new.out) (kept_behind old places mid c.replace.new.places (length ws) c.keep.ensures front r.0 r.1)))

pub returns-in_default : goal.returns-in_default
returns-in_default c = let old = c.args.out.now in
    let ws = c.args.tokens.now in
    let places = c.args.places.now in
    let mid = c.keep.new.places in
    let lent = length-take-le (two_thirds places) mid (omega (arith, c.keep.ensures.long)) in
    let told = as_lent _ _ _ ws c.args.target.now old places _ lent (sym c.in-Err.is ∙ c.replace.ensures.0, c.replace.ensures.1) in
    error_stays _ _ _ _ ws old _ _ c.in_default.not-Refused told
