-- `rounds::extract_all` meets its contract. Assumes nothing.
use native.Mathlib.Omega.{arith}
use Rattle.rounds.proofs.Lending.{few_lent, some_lent, many_lent}
use Rattle.rounds.proofs.extract_all.Goals as goal

pub rounds_within-requires-clause-lent : goal.rounds_within-requires-clause-lent
rounds_within-requires-clause-lent c = (few_lent c.args.len c.if-len-le-FEW_WORDS.true, omega arith, omega arith, omega arith)

pub rounds_within-requires-then-len-le-SOME_WORDS-clause-lent : goal.rounds_within-requires-then-len-le-SOME_WORDS-clause-lent
rounds_within-requires-then-len-le-SOME_WORDS-clause-lent c = (some_lent c.args.len c.if-len-le-SOME_WORDS.true, omega arith, omega arith, omega arith)

pub rounds_within-requires-else-len-le-SOME_WORDS-clause-lent : goal.rounds_within-requires-else-len-le-SOME_WORDS-clause-lent
rounds_within-requires-else-len-le-SOME_WORDS-clause-lent c = (many_lent c.args.len c.requires.t.2, omega arith, omega arith, omega arith)
