-- `replace::matching::lacks_factor` meets its contract. Assumes nothing.
use Rattle.std.proofs.Common.{◌-◌, length, take, drop, sym, ap, ◌∙◌, arith, rules, tests}
use lib.Seq.{take_all}
use Rattle.std.proofs.lemmas.Iterator.{YieldsList-from_slice}
use Rattle.std.proofs.lemmas.Iterator.Search.{any_from_yields_List}
use Rattle.words.specs.words.Words.{begins_with}
use Rattle.replace.specs.matching.Matching.{factor_runs, words_at, remove_runs}
use Rattle.replace.proofs.matching.Removing.{missed_all, before_more, lacks_here}
use Rattle.replace.proofs.matching.lacks_factor.Goals as goal

pub returns-then-not-any : goal.returns-then-not-any
returns-then-not-any c = let a = c.args in
    let at = words_at a.tokens.now a.name in
    let l = a.places.now in
    let run = take (c.end_from-end.result - c.loop-q.q) (drop c.loop-q.q a.part.now) in
    let r = any_from_yields_List (λ p. begins_with (at p) run) _ _ c.any.result c.any.ensures.ran (YieldsList-from_slice l (cc)) (λ x b q k. search (rules, tests)) in
    let m = missed_all at run l (sym r ∙ c.if-not-any.true) in
    let n = lacks_here at a.part.now l (length l) c.loop-q.q _ c.loop-q.invariant c.loop-q-test.true c.end_from-end.ensures.0 (omega arith) (length l) (omega arith) m in
    ap (remove_runs at (factor_runs a.part.now)) (sym (take_all (length l) l (omega arith))) ∙ n

pub loop-q-preserved : goal.loop-q-preserved
loop-q-preserved c = before_more c.args.part.now c.loop-q.q _ _ c.loop-q.invariant c.loop-q-test.true c.end_from-end.ensures.0 c.next_factor-q-in-loop-q.ensures
