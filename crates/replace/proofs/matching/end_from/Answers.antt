use mathlib.Core.Path.{◌≡◌}
use Rattle.replace.specs.matching.Matching.{run_end}
-- `replace::matching::end_from` meets its contract. Assumes nothing.
use Rattle.std.proofs.Common.{◌∙◌, arith}
use Rattle.replace.proofs.matching.Runs.{end_within, end_either}
use Rattle.replace.proofs.matching.end_from.Goals as goal

pub returns : goal.returns
returns c = let a = c.args in
    let e = end_either a.part.now a.at c.end_of.result c.requires c.end_of.ensures in
    let w = end_within a.part.now a.at c.requires in
    let r : c.unwrap_or.result ≡ run_end a.part.now a.at = c.unwrap_or.ensures ∙ e in
    (r, omega (arith, w.0), omega (arith, w.1))
