-- `rounds::value_numbers::same_node` meets its contract. Assumes nothing.
use Prim.Native.Nat.{◌+◌}
use native.Mathlib.Omega.{arith}
use mathlib.Core.Path.{◌∙◌}
use borrow.Author.Tests.{ne_eqb}
use Rattle.rounds.proofs.value_numbers.Belows.{walk_there, walk_there_as, words_differ, classes_agree}
use Rattle.rounds.proofs.value_numbers.same_node.Goals as goal

pub returns-else-tokens-p : goal.returns-else-tokens-p
returns-else-tokens-p c = let a = c.args in
    ne_eqb _ _ c.if-tokens-p.false ∙ words_differ _ _ _ (a.i + 1) c.requires.sized c.requires.known c.requires.complete a.i a.p (omega arith) c.requires.i_lt_p.1 (omega arith) (omega arith) c.if-tokens-p.false

pub same_below-requires : goal.same_below-requires
same_below-requires c = let a = c.args in
    record { walk = walk_there _ _ _ (a.i + 1) c.requires.sized c.requires.known c.requires.complete a.i (omega arith) (omega arith) c.operand_count.result c.operand_count.ensures; walk_2 = walk_there_as _ _ _ (a.i + 1) c.requires.sized c.requires.known c.requires.complete a.p c.requires.i_lt_p.1 (omega arith) c.operand_count.result _ c.operand_count.ensures c.if-tokens-p.true }

pub returns-then-tokens-p : goal.returns-then-tokens-p
returns-then-tokens-p c = let a = c.args in
    classes_agree _ _ _ (a.i + 1) c.requires.sized c.requires.known c.requires.complete a.i a.p (omega arith) c.requires.i_lt_p.1 (omega arith) (omega arith) c.if-tokens-p.true c.operand_count.result c.same_below.result c.operand_count.ensures c.same_below.ensures
