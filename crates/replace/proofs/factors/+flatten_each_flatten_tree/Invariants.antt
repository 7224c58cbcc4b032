use Rattle.std.proofs.Common.{ℕ, ◌+◌, ◌-◌, ◌*◌, List, length}
use Rattle.replace.proofs.factors.Flattening.{Looping}
use Rattle.replace.proofs.factors.+flatten_each_flatten_tree.Given as goal

abbrev pub decreases-flatten_tree : goal.decreases-flatten_tree
decreases-flatten_tree l = 2 * (length l.tokens.now - l.at)

abbrev pub decreases-flatten_each : goal.decreases-flatten_each
decreases-flatten_each l = 2 * (length l.tokens.now - l.at) + 1

abbrev pub invariant-flatten_each-loop : goal.invariant-flatten_each-loop
invariant-flatten_each-loop l = (old : List ℕ) → Looping l.tokens l.at l.count old l.used l.initial.places l.initial.coefficient l.initial.found l.initial.next (l.count - l.initial.counter) → Looping l.tokens l.at l.count old l.used l.places l.coefficient l.found l.next (l.count - l.counter)
