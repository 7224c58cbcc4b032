-- `replace::write_head` meets its contract. Assumes nothing.
use Rattle.std.proofs.Common.{refl, arith, length-set}
use Rattle.replace.proofs.Writing.{head_one, head_minus, head_other, room_one, room_minus, room_other}
use Rattle.replace.proofs.write_head.Goals as goal

pub put_repeated-requires : goal.put_repeated-requires
put_repeated-requires c = let a = c.args in omega (arith, room_one a.code a.signs a.out.now c.if-code-eq-ONE.true, c.requires.1)

pub returns-then-code-eq-ONE : goal.returns-then-code-eq-ONE
returns-then-code-eq-ONE c = let a = c.args in head_one a.code a.signs a.out.now c.if-code-eq-ONE.true c.put_repeated.new.out c.put_repeated.ensures

pub bounds-out-0 : goal.bounds-out-0
bounds-out-0 c = let a = c.args in omega (arith, room_minus a.code a.signs a.out.now c.if-code-eq-ONE.false c.if-code-eq-MINUS_ONE.true, c.requires.1)

pub put_repeated-requires-then-code-eq-MINUS_ONE : goal.put_repeated-requires-then-code-eq-MINUS_ONE
put_repeated-requires-then-code-eq-MINUS_ONE c = let a = c.args in simp length-set (omega (arith, room_minus a.code a.signs a.out.now c.if-code-eq-ONE.false c.if-code-eq-MINUS_ONE.true, c.requires.1))

pub overflow_add-result : goal.overflow_add-result
overflow_add-result c = let a = c.args in omega (arith, room_minus a.code a.signs a.out.now c.if-code-eq-ONE.false c.if-code-eq-MINUS_ONE.true, c.requires.1, c.well_formed)

pub returns-then-code-eq-MINUS_ONE : goal.returns-then-code-eq-MINUS_ONE
returns-then-code-eq-MINUS_ONE c = let a = c.args in head_minus a.code a.signs a.out.now c.if-code-eq-ONE.false c.if-code-eq-MINUS_ONE.true (omega (arith, room_minus a.code a.signs a.out.now c.if-code-eq-ONE.false c.if-code-eq-MINUS_ONE.true, c.requires.1)) c.put_repeated-then-code-eq-MINUS_ONE.new.out c.put_repeated-then-code-eq-MINUS_ONE.ensures

pub bounds-out-0-2 : goal.bounds-out-0-2
bounds-out-0-2 c = let a = c.args in omega (arith, room_other a.code a.signs a.out.now c.if-code-eq-ONE.false c.if-code-eq-MINUS_ONE.false, c.requires.1)

pub bounds-out-1 : goal.bounds-out-1
bounds-out-1 c = let a = c.args in simp length-set (omega (arith, room_other a.code a.signs a.out.now c.if-code-eq-ONE.false c.if-code-eq-MINUS_ONE.false, c.requires.1))

pub put_repeated-requires-2 : goal.put_repeated-requires-2
put_repeated-requires-2 c = let a = c.args in simp length-set (omega (arith, room_other a.code a.signs a.out.now c.if-code-eq-ONE.false c.if-code-eq-MINUS_ONE.false, c.requires.1))

pub overflow_add-result-2 : goal.overflow_add-result-2
overflow_add-result-2 c = let a = c.args in omega (arith, room_other a.code a.signs a.out.now c.if-code-eq-ONE.false c.if-code-eq-MINUS_ONE.false, c.requires.1, c.well_formed)

pub returns : goal.returns
returns c = let a = c.args in head_other a.code a.signs a.out.now c.if-code-eq-ONE.false c.if-code-eq-MINUS_ONE.false (omega (arith, room_other a.code a.signs a.out.now c.if-code-eq-ONE.false c.if-code-eq-MINUS_ONE.false, c.requires.1)) _ refl c.put_repeated-2.new.out c.put_repeated-2.ensures
