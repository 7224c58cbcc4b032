-- `replace::matching::is_passed` meets its contract. Assumes nothing.
use Rattle.std.proofs.Common.{arith}
use Rattle.std.proofs.lemmas.Bool.Decides.{nat_tests}
use Rattle.replace.specs.matching.Matching.{is_passed}
use Rattle.replace.proofs.matching.is_passed.Goals as goal

pub returns-then-kind-eq-NEG : goal.returns-then-kind-eq-NEG
unfolding is_passed
returns-then-kind-eq-NEG c = grind (arith, nat_tests)

pub returns-else-kind-eq-NEG : goal.returns-else-kind-eq-NEG
unfolding is_passed
returns-else-kind-eq-NEG c = grind (arith, nat_tests)
