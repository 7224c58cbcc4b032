-- `rounds::choice::best_place` meets its contract. Assumes nothing.
use native.Mathlib.Omega.{arith}
use Rattle.rounds.proofs.choice.Giving.{facts_left, uses_left, finds_so}
use Rattle.rounds.proofs.choice.best_place.Goals as goal

pub search-leader-requires : goal.search-leader-requires
search-leader-requires c =
    record {
      worked_out = record {
        complete = c.requires.complete.0;
        few = c.requires.complete.1;
        fits = λ j. omega (arith, c.type_inv.tokens j);
        facts = facts_left _ _ _ c.requires.lent.for_facts c.class_tables.ensures.facts_are;
        classes = c.class_tables.ensures.classes_are;
        uses = uses_left c.requires.complete.0 c.class_tables.ensures;
        outside = c.count_outside.ensures;
      };
      writable = c.requires.complete.2;
    }

pub returns : goal.returns
returns c =
    let a = c.args in
    finds_so a.rows.now a.tokens.now _ a.scoped _ _ c.search-leader.ensures c.with_arms-arms.ensures _ c.then_some.ensures
