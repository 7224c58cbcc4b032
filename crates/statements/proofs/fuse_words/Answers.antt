-- `statements::fuse_words` meets its contract. Assumes nothing.
use mathlib.Core.Path.{sym, ◌∙◌}
use Rattle.statements.proofs.Taking.{fused_stands, fused_always, unfused_stands}
use Rattle.statements.proofs.fuse_words.Goals as goal

pub returns-then-no_switch : goal.returns-then-no_switch
returns-then-no_switch c = unfused_stands c.requires.fusable c.args.tree.now c.args.len c.requires.len_in_bounds.0 c.requires.len_in_bounds.1 c.requires.complete (sym c.no_switch.ensures ∙ c.if-no_switch.true)

pub unwrap-requires : goal.unwrap-requires
unwrap-requires c = fused_always c.requires.fusable c.args.tree.now c.args.len c.requires.len_in_bounds.0 c.requires.len_in_bounds.1 c.requires.complete c.fuse.result c.fuse.ensures.0

pub returns : goal.returns
returns c = fused_stands c.requires.fusable c.args.tree.now c.args.len c.requires.len_in_bounds.0 c.requires.len_in_bounds.1 c.requires.complete _ _ (sym c.unwrap.ensures ∙ c.fuse.ensures.0) c.fuse.ensures.1
