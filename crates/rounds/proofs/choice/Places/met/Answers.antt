-- `rounds::choice::Places::met` meets its contract. Assumes nothing.
use native.Mathlib.Omega.{arith}
use mathlib.Core.Path.{sym, ◌∙◌}
use mathlib.Core.Logic.{inl, inr}
use borrow.Author.Tests.{lt-ltb}
use Rattle.std.proofs.lemmas.Bool.{false≢true}
use Rattle.rounds.proofs.choice.Leaders.{saves_less, saves_more, saves_none, comes_later, comes_not, leads_within}
use Rattle.rounds.proofs.choice.Places.met.Goals as goal
use Rattle.rounds.proofs.choice.Places.met.Goals.{then-savings-leader-2, else-savings-leader-2}

pub returns-then-savings-leader : goal.returns-then-savings-leader
returns-then-savings-leader c =
    let a = c.args in
    elim c.if-savings-leader.either [
      | inl z ↦ saves_none a.rows.now a.self.now.tokens.now a.self.now.scoped a.i a.leader.place a.leader.savings c.savings_of-savings.result c.requires.i_in_bounds c.savings_of-savings.ensures c.requires.lead z
      | inr h ↦ saves_less a.rows.now a.self.now.tokens.now a.self.now.scoped a.i a.leader.place a.leader.savings c.savings_of-savings.result c.requires.i_in_bounds c.savings_of-savings.ensures c.requires.lead h.1
    ]

pub later-requires : goal.later-requires
later-requires c =
    let a = c.args in
    record {
      worked_out = c.requires.worked_out;
      place_in_bounds = (leads_within a.rows.now a.self.now.tokens.now a.self.now.scoped a.i a.leader.place a.leader.savings c.savings_of-savings.result c.requires.i_in_bounds c.savings_of-savings.ensures c.requires.lead (omega arith) (omega arith), c.requires.i_in_bounds);
      writable = c.requires.writable;
    }

pub returns-then-later : goal.returns-then-later
returns-then-later c =
    let a = c.args in
    elim c.if-savings-leader-2.branch [
      | then-savings-leader-2 w ↦ saves_more a.rows.now a.self.now.tokens.now a.self.now.scoped a.i a.leader.place a.leader.savings c.savings_of-savings.result c.requires.i_in_bounds c.savings_of-savings.ensures c.requires.lead w.if-savings-leader-2.true
      | else-savings-leader-2 w ↦ comes_later a.rows.now a.self.now.tokens.now a.self.now.scoped a.i a.leader.place a.leader.savings c.savings_of-savings.result c.requires.i_in_bounds c.savings_of-savings.ensures c.requires.lead (omega arith) (omega arith) (sym c.if-later.true ∙ (w.value-is ∙ w.later.ensures))
    ]

pub returns-else-later : goal.returns-else-later
returns-else-later c =
    let a = c.args in
    elim c.if-savings-leader-2.branch [
      | then-savings-leader-2 w ↦ absurd (false≢true (sym c.if-later.false ∙ (w.value-is ∙ lt-ltb _ _ w.if-savings-leader-2.true)))
      | else-savings-leader-2 w ↦ comes_not a.rows.now a.self.now.tokens.now a.self.now.scoped a.i a.leader.place a.leader.savings c.savings_of-savings.result c.requires.i_in_bounds c.savings_of-savings.ensures c.requires.lead (omega arith) (omega arith) (sym c.if-later.false ∙ (w.value-is ∙ w.later.ensures))
    ]
