-- `statements::holding::settle_all` meets its contract: the trees can always be settled. Assumes nothing.
use borrow.Author.Tests.{eqb-true}
use lib.ListN.{length}
use mathlib.Core.Path.{sym, ◌∙◌}
use Rattle.statements.proofs.holding.Taking.{settled_all, settled_none, settled_always}
use Rattle.statements.proofs.holding.settle_all.Goals as goal

pub returns-then-is_empty-clause-value : goal.returns-then-is_empty-clause-value
returns-then-is_empty-clause-value c = (settled_none c.args.tokens.now c.args.places.now c.args.first c.requires.0 c.args.work.now _ c.requires.1 c.put.ensures (eqb-true (length c.args.places.now) 0 (sym c.is_empty.ensures ∙ c.if-is_empty.true))).0

pub returns-then-is_empty-clause-work_after : goal.returns-then-is_empty-clause-work_after
returns-then-is_empty-clause-work_after c = (settled_none c.args.tokens.now c.args.places.now c.args.first c.requires.0 c.args.work.now _ c.requires.1 c.put.ensures (eqb-true (length c.args.places.now) 0 (sym c.is_empty.ensures ∙ c.if-is_empty.true))).1

pub unwrap-requires : goal.unwrap-requires
unwrap-requires c = settled_always c.args.tokens.now c.args.places.now c.args.first c.requires.0 c.args.work.now _ c.requires.1 c.put.ensures c.settle.result c.settle.ensures.0

pub returns-clause-value : goal.returns-clause-value
returns-clause-value c = (settled_all c.args.tokens.now c.args.places.now c.args.first c.requires.0 c.args.work.now _ c.requires.1 c.put.ensures _ _ (sym c.unwrap.ensures ∙ c.settle.ensures.0) c.settle.ensures.1).0

pub returns-clause-work_after : goal.returns-clause-work_after
returns-clause-work_after c = (settled_all c.args.tokens.now c.args.places.now c.args.first c.requires.0 c.args.work.now _ c.requires.1 c.put.ensures _ _ (sym c.unwrap.ensures ∙ c.settle.ensures.0) c.settle.ensures.1).1
