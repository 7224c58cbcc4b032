-- `fusion::groups::after_tree` meets its contract: a tree ends at each place. Assumes nothing.
use mathlib.Core.Path.{sym, ◌∙◌}
use Rattle.fusion.proofs.Tests.{some_by}
use Rattle.fusion.proofs.groups.Arms.{tree_end, tree_there}
use Rattle.fusion.proofs.groups.after_tree.Goals as goal

pub unwrap-requires : goal.unwrap-requires
unwrap-requires c = some_by c.end_of.result (λ e. tree_there c.args.tokens.now c.requires.0 c.args.at c.requires.1 (e ∙ c.end_of.ensures))

pub returns : goal.returns
returns c = tree_end c.args.tokens.now c.requires.0 c.args.at _ c.requires.1 (sym c.unwrap.ensures ∙ c.end_of.ensures)
