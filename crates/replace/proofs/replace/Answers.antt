-- `replace::replace` meets its contract. Assumes nothing.
use Rattle.std.proofs.Common.{length, sym, ◌∙◌, rules}
use Rattle.replace.proofs.Ends.{tests_fail, request_refused, asked, done}
use Rattle.replace.proofs.replace.Goals as goal

pub returns-then-not-are_formed : goal.returns-then-not-are_formed
returns-then-not-are_formed c = let a = c.args in tests_fail a.tokens.now a.target.now a.name (length a.places.now) a.out.now (rw c.if-not-are_formed.true at c.are_formed.ensures)

pub returns-in_err-check : goal.returns-in_err-check
returns-in_err-check c = let a = c.args in
    let e = request_refused a.tokens.now a.target.now a.name (length a.places.now) a.out.now (rw c.if-not-are_formed.false at c.are_formed.ensures) _ (sym c.in_err-check.was ∙ c.check.ensures) in
    search rules

pub replace_trees-requires : goal.replace_trees-requires
replace_trees-requires c = let a = c.args in asked a.tokens.now a.target.now a.name (length a.places.now) a.out.now (rw c.if-not-are_formed.false at c.are_formed.ensures) (sym c.in_ok-check.was ∙ c.check.ensures)

pub returns : goal.returns
returns c = let a = c.args in done a.tokens.now a.target.now a.name (length a.places.now) a.out.now (rw c.if-not-are_formed.false at c.are_formed.ensures) (sym c.in_ok-check.was ∙ c.check.ensures) c.replace_trees.result c.replace_trees.new.out c.replace_trees.ensures
