-- `load::fields::first_comma` meets its contract. Assumes nothing.
use mathlib.Core.Path.{◌∙◌}
use Rattle.std.proofs.Common.{rules, tests}
use Rattle.std.proofs.lemmas.Iterator.{YieldsList-from_slice}
use Rattle.std.proofs.lemmas.Iterator.Search.{position_from_yields_List}
use Rattle.load.proofs.fields.Commas.{comma, comma_placed}
use Rattle.load.proofs.fields.first_comma.Goals as goal

pub returns : goal.returns
returns c =
    let s = c.args.s.now in
    position_from_yields_List comma _ _ _ c.position.ensures.ran (YieldsList-from_slice s cc) (λ x b q k. search (rules, tests)) ∙ comma_placed s
