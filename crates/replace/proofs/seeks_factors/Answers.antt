-- `replace::seeks_factors` meets its contract. Assumes nothing.
use Rattle.std.proofs.Common.{sym, ◌∙◌}
use Rattle.replace.proofs.Ends.{by_whole, by_parts, by_lone}
use Rattle.replace.proofs.seeks_factors.Goals as goal

pub returns-in-Whole : goal.returns-in-Whole
returns-in-Whole c = let a = c.args in
    (by_whole a.target.now a.name (sym c.in-Whole.is ∙ c.seek.ensures)).0

pub returns-in-Factors : goal.returns-in-Factors
returns-in-Factors c = let a = c.args in
    (by_parts a.target.now a.name (sym c.in-Factors.is ∙ c.seek.ensures)).0

pub returns-in-Endless : goal.returns-in-Endless
returns-in-Endless c = let a = c.args in
    by_lone a.target.now a.name (sym c.in-Endless.is ∙ c.seek.ensures)
