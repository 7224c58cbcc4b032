-- `cse_scoped::one_scope::count_arms` meets its contract. Assumes nothing.
use native.Mathlib.Omega.{arith}
use Rattle.cse_scoped.proofs.one_scope.Leaves.{opener_there, group_some, takes_some, arms_counted}
use Rattle.cse_scoped.proofs.one_scope.count_arms.Goals as goal

pub bounds-group-0 : goal.bounds-group-0
bounds-group-0 c = let a = c.args in group_some a.held.now a.group.now c.requires.2 c.requires.0

pub offset_bounds-held-opener : goal.offset_bounds-held-opener
offset_bounds-held-opener c = let a = c.args in omega (arith, opener_there a.held.now a.group.now c.requires.2 c.requires.0, c.requires.1)

pub bounds-held-opener : goal.bounds-held-opener
bounds-held-opener c = let a = c.args in opener_there a.held.now a.group.now c.requires.2 c.requires.0

pub overflow_sub-result : goal.overflow_sub-result
overflow_sub-result c = let a = c.args in omega (arith, c.operand_count.ensures, takes_some a.held.now a.group.now c.requires.2 c.requires.0)

pub returns : goal.returns
returns c = let a = c.args in arms_counted a.held.now a.group.now c.operand_count.result c.operand_count.ensures
