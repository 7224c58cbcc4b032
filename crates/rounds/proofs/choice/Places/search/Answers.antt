-- `rounds::choice::Places::search` meets its contract. Assumes nothing.
use native.Mathlib.Omega.{arith}
use mathlib.Core.Path.{refl, ◌∙◌}
use Rattle.rounds.proofs.choice.Leaders.{searching_starts, searching_turns, searching_ends}
use Rattle.rounds.proofs.choice.Places.search.Goals as goal

pub loop-i-init : goal.loop-i-init
loop-i-init c = (let a = c.args in (searching_starts a.rows.now a.self.now.tokens.now a.self.now.scoped, refl))

pub met-leader-requires : goal.met-leader-requires
met-leader-requires c = record { worked_out = c.requires.worked_out; i_in_bounds = c.loop-i-test.true; writable = record { pass = c.requires.writable.pass; fits = omega (arith, c.requires.writable.fits, c.loop-i.invariant.1) }; lead = c.loop-i.invariant.0.lead }

pub loop-i-preserved : goal.loop-i-preserved
loop-i-preserved c = (searching_turns c.loop-i.invariant.0 c.loop-i-test.true c.met-leader.ensures, c.met-leader.auto.text ∙ c.loop-i.invariant.1)

pub returns : goal.returns
returns c = searching_ends c.loop-i.invariant.0 c.loop-i-test.false
