-- `replace::seek` meets its contract. Assumes nothing.
use Rattle.std.proofs.Common.{true, false, sym, ◌∙◌}
use Rattle.replace.proofs.Deciding.{not_sought, sought_by, never_refused}
use Rattle.replace.proofs.Ends.{seeks_whole, seeks_factors, seeks_endless}
use Rattle.words.proofs.words.Rewriting.{one_long}
use Rattle.replace.proofs.seek.Goals as goal

pub returns-in_default : goal.returns-in_default
returns-in_default c = let a = c.args in
    absurd (never_refused a.target.now a.places.now 1 c.requires.0 (one_long a.target.now c.requires.0) c.requires.2 _ (sym c.in_default.is ∙ c.flatten_mul_factors.ensures.0))

pub returns-then-not-is_one : goal.returns-then-not-is_one
returns-then-not-is_one c = let a = c.args in seeks_whole a.target.now a.name (sought_by a.target.now a.places.now c.flatten_mul_factors.new.places c.in-Ok.flat c.requires.0 c.if-target-ne-MUL.false (sym c.in-Ok.is ∙ c.flatten_mul_factors.ensures.0) c.flatten_mul_factors.ensures.1 false (rw c.if-not-is_one.true at c.is_one.ensures))

pub returns-then-is_lone : goal.returns-then-is_lone
returns-then-is_lone c = let a = c.args in seeks_endless a.target.now a.name (sought_by a.target.now a.places.now c.flatten_mul_factors.new.places c.in-Ok.flat c.requires.0 c.if-target-ne-MUL.false (sym c.in-Ok.is ∙ c.flatten_mul_factors.ensures.0) c.flatten_mul_factors.ensures.1 true (rw c.if-not-is_one.false at c.is_one.ensures)) (rw c.if-is_lone.true at c.is_lone.ensures)

pub returns-else-is_lone : goal.returns-else-is_lone
returns-else-is_lone c = let a = c.args in seeks_factors a.target.now a.name (sought_by a.target.now a.places.now c.flatten_mul_factors.new.places c.in-Ok.flat c.requires.0 c.if-target-ne-MUL.false (sym c.in-Ok.is ∙ c.flatten_mul_factors.ensures.0) c.flatten_mul_factors.ensures.1 true (rw c.if-not-is_one.false at c.is_one.ensures)) (rw c.if-is_lone.false at c.is_lone.ensures)

pub bounds-target-0 : goal.bounds-target-0
bounds-target-0 c = one_long c.args.target.now c.requires.0

pub returns-then-target-ne-MUL : goal.returns-then-target-ne-MUL
returns-then-target-ne-MUL c = let a = c.args in seeks_whole a.target.now a.name (not_sought a.target.now c.requires.0 c.if-target-ne-MUL.true)
