-- `rounds::uses::has_switch` meets its contract. Assumes nothing.
use Rattle.std.proofs.Common.{rules, tests}
use Rattle.std.proofs.lemmas.Iterator.{YieldsList-from_slice}
use Rattle.std.proofs.lemmas.Iterator.Search.{any_from_yields_List}
use Rattle.spec_tree.specs.Kinds.{is_switch}
use Rattle.spec_tree.specs.Tokens.{kind_of}
use Rattle.rounds.proofs.choice.Forms.{any_switch}
use Rattle.rounds.proofs.uses.has_switch.Goals as goal

pub returns : goal.returns
returns c =
    any_switch c.args.tokens.now c.any.result
    (any_from_yields_List (λ w. is_switch (kind_of w)) _ _ c.any.result c.any.ensures.ran (YieldsList-from_slice c.args.tokens.now cc)
    (λ x b q k. search (rules, tests)))
