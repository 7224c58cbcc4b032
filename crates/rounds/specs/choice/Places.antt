-- What the struct that the search goes through holds. Assumes nothing.
use Rattle.rounds.specs.declared.choice.Places.{Places}
use Rattle.rounds.specs.choice.Leading.{Worked}

abbrev pub WorkedOut : Places → Type 0
WorkedOut p = Worked p.tokens.now p.scoped p.facts.now p.classes.now p.uses.now p.outside.now
