-- `fusion::scopeneeds::find_group` meets its contract. Assumes nothing.
use Prim.Native.Nat.{◌≤◌, ◌<◌}
use borrow.Author.Tests.{tests}
use borrow.Author.Rules.{rules}
use mathlib.Core.Path.{sym, ◌∙◌}
use Rattle.std.proofs.lemmas.Iterator.{YieldsList-from_slice, IsFirst-from_position}
use Rattle.fusion.proofs.scopeneeds.Finding.{group_first}
use Rattle.fusion.proofs.scopeneeds.find_group.Goals as goal

pub returns : goal.returns
returns c = c.unwrap_or.ensures ∙ sym (group_first c.args.i c.args.ends.now c.position.result
    (IsFirst-from_position _ _ c.position.result (λ e. c.args.i < e) (λ e. e ≤ c.args.i) c.position.ensures.ran (YieldsList-from_slice c.args.ends.now cc) (λ x q k. search (rules, tests)) (λ x q k. search (rules, tests))))
