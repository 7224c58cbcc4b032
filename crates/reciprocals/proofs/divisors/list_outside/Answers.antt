-- `reciprocals::divisors::list_outside` meets its contract. Assumes nothing.
use Rattle.spec_tree.specs.Tokens.{trees_in}
use Rattle.rounds.proofs.choice.Giving.{marks_left}
use Rattle.reciprocals.proofs.divisors.Within.{not_none}
use Rattle.reciprocals.proofs.divisors.list_outside.Goals as goal

pub list_marked-requires : goal.list_marked-requires
list_marked-requires c = let w = c.args.tokens.now in
    record { complete = (c.requires.complete, c.requires.tokens_in_bounds.1); has_marks = marks_left w c.args.scoped _ _ c.requires.tokens_in_bounds.0 (not_none (trees_in w) c.requires.complete) c.mark_outside.ensures.1 }
