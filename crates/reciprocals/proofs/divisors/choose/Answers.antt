-- `reciprocals::divisors::choose` meets its contract. Assumes nothing.
use mathlib.Core.Path.{sym, ◌∙◌}
use Rattle.reciprocals.proofs.divisors.Choosing.{choosing_starts, choosing_skips, choosing_takes, choosing_ends}
use Rattle.reciprocals.proofs.divisors.choose.Goals as goal
use Rattle.reciprocals.proofs.divisors.choose.Goals.{then-is_chosen, else-is_chosen}

pub loop-i-init : goal.loop-i-init
loop-i-init c = let w = c.args.tokens.now in let all = c.args.all.now in let out = c.args.outside.now in choosing_starts w all out c.args.places.now

pub loop-i-preserved : goal.loop-i-preserved
loop-i-preserved c =
    let w = c.args.tokens.now in
    let all = c.args.all.now in
    let out = c.args.outside.now in
    elim c.if-is_chosen.branch [
      | then-is_chosen b ↦
          rw (b.places-is, b.n-is) (choosing_takes w all out c.loop-i.invariant c.loop-i-test.true c.requires.complete.1 (sym b.if-is_chosen.true ∙ c.is_chosen.ensures))
      | else-is_chosen b ↦ rw (b.places-is, b.n-is) (choosing_skips w all out c.loop-i.invariant c.loop-i-test.true (sym b.if-is_chosen.false ∙ c.is_chosen.ensures))
    ]

pub returns : goal.returns
returns c = let w = c.args.tokens.now in let all = c.args.all.now in let out = c.args.outside.now in let s = c.loop-i.invariant in choosing_ends w all out s c.loop-i-test.false
