-- `node_rows::kinds::operand_counts` meets its contract: where each answer stands, the tests leave a span of kinds, and antt computes the counts over it. Assumes nothing.
use native.Mathlib.Omega.{arith}
use mathlib.Core.Bool.{true, false}
use Rattle.spec_tree.specs.Kinds.{kind_at}
use Rattle.node_rows.proofs.kinds.Spans.{is, counts_at, counts_past, counts_select}
use Rattle.node_rows.proofs.kinds.operand_counts.Goals as goal

pub returns-in-2 : goal.returns-in-2
unfolding is kind_at
returns-in-2 c = counts_at 1 1 2 1 tt c.args.kind c.args.default (omega arith) (omega arith)

pub returns-in-14 : goal.returns-in-14
unfolding is kind_at
returns-in-14 c = counts_at 2 2 14 1 tt c.args.kind c.args.default (omega arith) (omega arith)

pub returns-then-default : goal.returns-then-default
unfolding is kind_at
returns-then-default c = counts_select 3 18 c.args.kind c.args.default true c.in-27.is c.if-default.true tt

pub returns-else-default : goal.returns-else-default
unfolding is kind_at
returns-else-default c = counts_select 2 17 c.args.kind c.args.default false c.in-27.is c.if-default.false tt

pub returns-in-0-to-1 : goal.returns-in-0-to-1
unfolding is kind_at
returns-in-0-to-1 c = counts_at 0 0 0 2 tt c.args.kind c.args.default (omega arith) (omega arith)

pub returns-in-3-to-7 : goal.returns-in-3-to-7
unfolding is kind_at
returns-in-3-to-7 c = counts_at 2 2 3 5 tt c.args.kind c.args.default (omega arith) (omega arith)

pub returns-in-8-to-13 : goal.returns-in-8-to-13
unfolding is kind_at
returns-in-8-to-13 c = counts_at 1 1 8 6 tt c.args.kind c.args.default (omega arith) (omega arith)

pub returns-in-15-to-24 : goal.returns-in-15-to-24
unfolding is kind_at
returns-in-15-to-24 c = counts_at 1 1 15 10 tt c.args.kind c.args.default (omega arith) (omega arith)

pub returns-in-25-to-26 : goal.returns-in-25-to-26
unfolding is kind_at
returns-in-25-to-26 c = counts_at 3 3 25 2 tt c.args.kind c.args.default (omega arith) (omega arith)

pub returns-in_default : goal.returns-in_default
unfolding is kind_at
returns-in_default c = counts_past c.args.kind c.args.default (omega (arith, c.in_default.in_default-own.rest.1))
