-- `fusion::fuse::fuse` meets its contract: the words are fused in areas of its own. Assumes nothing.
use mathlib.Core.Path.{sym, ◌∙◌}
use lib.ListN.{length, take}
use Rattle.fusion.proofs.Tests.{uncounted_by, counted_by}
use Rattle.fusion.proofs.fuse.Numbers.{fit_small}
use Rattle.fusion.proofs.fuse.Fusing.{too_few, incomplete, numberless, long_list, large_number}
use Rattle.fusion.proofs.fuse.fuse.Goals.{then-len-tokens-via-then-len-tokens, then-len-tokens-via-else-len-tokens+then-is_none, then-len-tokens-via-else-len-tokens+else-is_none+then-places-numbers, then-len-gt-AREA-via-then-len-gt-AREA, then-len-gt-AREA-via-else-len-gt-AREA+then-not-fit}
use Rattle.fusion.proofs.fuse.fuse.Goals as goal

pub returns-then-len-tokens : goal.returns-then-len-tokens
returns-then-len-tokens c = elim c.then-len-tokens.branch [
  | then-len-tokens-via-then-len-tokens w ↦ too_few c.args.base.now c.args.places.now c.args.numbers.now c.args.tokens.now c.args.len w.if-len-tokens.true
  | then-len-tokens-via-else-len-tokens+then-is_none w ↦ incomplete c.args.base.now c.args.places.now c.args.numbers.now c.args.tokens.now c.args.len (uncounted_by (take c.args.len c.args.tokens.now) _ _ w.count_trees.ensures w.is_none.ensures w.if-is_none.true) w.if-len-tokens.false
  | then-len-tokens-via-else-len-tokens+else-is_none+then-places-numbers w ↦ numberless c.args.base.now c.args.places.now c.args.numbers.now c.args.tokens.now c.args.len w.if-len-tokens.false (counted_by (take c.args.len c.args.tokens.now) _ _ w.count_trees.ensures w.is_none.ensures w.if-is_none.false) w.if-places-numbers.true
]

pub returns-then-len-gt-AREA : goal.returns-then-len-gt-AREA
returns-then-len-gt-AREA c = elim c.then-len-gt-AREA.branch [
  | then-len-gt-AREA-via-then-len-gt-AREA w ↦ long_list c.args.base.now c.args.places.now c.args.numbers.now c.args.tokens.now c.args.len c.if-len-tokens.false (counted_by (take c.args.len c.args.tokens.now) _ _ c.count_trees.ensures c.is_none.ensures c.if-is_none.false) c.if-places-numbers.false w.if-len-gt-AREA.true
  | then-len-gt-AREA-via-else-len-gt-AREA+then-not-fit w ↦ large_number c.args.base.now c.args.places.now c.args.numbers.now c.args.tokens.now c.args.len c.if-len-tokens.false (counted_by (take c.args.len c.args.tokens.now) _ _ c.count_trees.ensures c.is_none.ensures c.if-is_none.false) c.if-places-numbers.false w.if-len-gt-AREA.false (sym w.if-not-fit.true ∙ w.fit.ensures ∙ fit_small _)
]

pub fuse_within-requires-clause-len_in_bounds : goal.fuse_within-requires-clause-len_in_bounds
fuse_within-requires-clause-len_in_bounds c = (c.if-len-tokens.false, (counted_by (take c.args.len c.args.tokens.now) _ _ c.count_trees.ensures c.is_none.ensures c.if-is_none.false), c.if-places-numbers.false)

pub fuse_within-requires-clause-len_bound : goal.fuse_within-requires-clause-len_bound
fuse_within-requires-clause-len_bound c = (c.if-len-le-FEW.true, c.if-len-gt-AREA.false, (sym (fit_small (take (length c.args.places.now) c.args.numbers.now)) ∙ (sym c.fit.ensures ∙ c.if-not-fit.false)))

pub fuse_within-requires-else-len-le-FEW-clause-len_in_bounds : goal.fuse_within-requires-else-len-le-FEW-clause-len_in_bounds
fuse_within-requires-else-len-le-FEW-clause-len_in_bounds c = (c.if-len-tokens.false, (counted_by (take c.args.len c.args.tokens.now) _ _ c.count_trees.ensures c.is_none.ensures c.if-is_none.false), c.if-places-numbers.false)

pub fuse_within-requires-else-len-le-FEW-clause-len_bound : goal.fuse_within-requires-else-len-le-FEW-clause-len_bound
fuse_within-requires-else-len-le-FEW-clause-len_bound c = (c.if-len-gt-AREA.false, c.if-len-gt-AREA.false, (sym (fit_small (take (length c.args.places.now) c.args.numbers.now)) ∙ (sym c.fit.ensures ∙ c.if-not-fit.false)))
