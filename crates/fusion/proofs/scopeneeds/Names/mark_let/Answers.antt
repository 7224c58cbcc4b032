-- `fusion::scopeneeds::Names::mark_let` meets its contract. Assumes nothing.
use mathlib.Core.Path.{◌∙◌}
use Rattle.fusion.proofs.scopeneeds.Marking.{let_before, let_past, let_there}
use Rattle.fusion.proofs.scopeneeds.Names.mark_let.Goals.{else-n-self-via-then-n-self+else-n-self-2, else-n-self-via-else-n-self}
use Rattle.fusion.proofs.scopeneeds.Names.mark_let.Goals as goal

pub returns-then-n-self-2 : goal.returns-then-n-self-2
returns-then-n-self-2 c = c.set.ensures.1 ∙ let_there c.args.self.now.first c.args.self.now.lets c.args.n c.args.row c.args.table.now c.if-n-self.true c.if-n-self-2.true

pub returns-else-n-self : goal.returns-else-n-self
returns-else-n-self c = elim c.else-n-self.branch [ else-n-self-via-then-n-self+else-n-self-2 w ↦ let_past c.args.self.now.first c.args.self.now.lets c.args.n c.args.row c.args.table.now w.if-n-self.true w.if-n-self-2.false | else-n-self-via-else-n-self w ↦ let_before c.args.self.now.first c.args.self.now.lets c.args.n c.args.row c.args.table.now w.if-n-self.false ]
