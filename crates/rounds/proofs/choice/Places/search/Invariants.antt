use mathlib.Core.Path.{◌≡◌}
use lib.ListN.{length}
use Rattle.rounds.proofs.choice.Leaders.{Searching}
use Rattle.rounds.proofs.choice.Places.search.Given as goal

abbrev pub invariant-loop-i : goal.invariant-loop-i
invariant-loop-i l = Searching l.rows l.self.tokens.now l.self.scoped l.i l.leader.place l.leader.savings × (length l.text ≡ length l.initial.text)
