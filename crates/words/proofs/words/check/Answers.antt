-- `words::words::check` meets its contract. Assumes nothing.
use native.Mathlib.Omega.{arith}
use Rattle.spec_tree.specs.Tokens.{trees_in}
use Rattle.words.proofs.words.Requests.{counted_ok, uncounted_err, words_broken, part_broken, part_many, name_broken, no_room, all_sound}
use Rattle.std.proofs.Common.{rules}
use Rattle.words.proofs.words.check.Goals as goal
use Rattle.words.proofs.words.check.Goals.{then-n-ne1-via-then-n-ne1, then-n-ne1-via-else-n-ne1+then-name-ne-SYM}

pub returns-in_err-ok_or : goal.returns-in_err-ok_or
returns-in_err-ok_or c = let a = c.args in
    let q = uncounted_err (trees_in a.tokens.now) _ _ (rw c.count_trees.ensures at c.ok_or.ensures.value) c.in_err-ok_or.was in
    let e = words_broken a.tokens.now a.part.now a.name a.room q in
    search rules

pub returns-in_err-n : goal.returns-in_err-n
returns-in_err-n c = let a = c.args in
    let p = counted_ok _ (trees_in a.tokens.now) _ (rw c.count_trees.ensures at c.ok_or.ensures.value) c.in_ok-ok_or.was in
    let q = uncounted_err (trees_in a.part.now) _ _ (rw c.count_trees-2.ensures at c.ok_or-2.ensures.value) c.in_err-n.was in
    let e = part_broken a.tokens.now a.part.now a.name a.room _ p q in
    search rules

pub returns-then-n-ne1 : goal.returns-then-n-ne1
returns-then-n-ne1 c = let a = c.args in
    let p = counted_ok _ (trees_in a.tokens.now) _ (rw c.count_trees.ensures at c.ok_or.ensures.value) c.in_ok-ok_or.was in
    let q = counted_ok _ (trees_in a.part.now) _ (rw c.count_trees-2.ensures at c.ok_or-2.ensures.value) c.in_ok-n.was in
    elim c.then-n-ne1.branch [
      | then-n-ne1-via-then-n-ne1 w ↦ part_many a.tokens.now a.part.now a.name a.room _ p _ q w.if-n-ne1.true
      | then-n-ne1-via-else-n-ne1+then-name-ne-SYM w ↦ name_broken a.tokens.now a.part.now a.name a.room _ p _ q (omega (arith, w.if-n-ne1.false)) w.if-name-ne-SYM.true
    ]

pub returns-then-room-tokens : goal.returns-then-room-tokens
returns-then-room-tokens c = let a = c.args in
    let p = counted_ok _ (trees_in a.tokens.now) _ (rw c.count_trees.ensures at c.ok_or.ensures.value) c.in_ok-ok_or.was in
    let q = counted_ok _ (trees_in a.part.now) _ (rw c.count_trees-2.ensures at c.ok_or-2.ensures.value) c.in_ok-n.was in
    no_room a.tokens.now a.part.now a.name a.room _ p _ q (omega (arith, c.if-n-ne1.false)) (omega (arith, c.if-name-ne-SYM.false)) c.if-room-tokens.true

pub returns : goal.returns
returns c = let a = c.args in
    let p = counted_ok _ (trees_in a.tokens.now) _ (rw c.count_trees.ensures at c.ok_or.ensures.value) c.in_ok-ok_or.was in
    let q = counted_ok _ (trees_in a.part.now) _ (rw c.count_trees-2.ensures at c.ok_or-2.ensures.value) c.in_ok-n.was in
    all_sound a.tokens.now a.part.now a.name a.room _ p _ q (omega (arith, c.if-n-ne1.false)) (omega (arith, c.if-name-ne-SYM.false)) c.if-room-tokens.false
