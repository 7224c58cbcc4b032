-- `topo_sort::links::link_need` meets its contract. Assumes nothing.
use native.Mathlib.Omega.{arith}
use Rattle.topo_sort.proofs.links.Making.{unnamed, named, past_word}
use Rattle.topo_sort.proofs.links.link_need.Goals as goal

pub returns-then-i-heads : goal.returns-then-i-heads
returns-then-i-heads c = let a = c.args in
    unnamed a.w a.j a.n a.heads.now a.links.now c.requires.within (λ i h. past_word a.w i (omega (arith, c.if-i-heads.true)))

pub returns : goal.returns
returns c = let a = c.args in
    named a.w a.j a.n a.heads.now a.links.now c.requires.within c.requires.number c.requires.room _ c.if-i-heads.false (omega (arith, c.if-w-ne-LET_NAME.false)) _ _ _ c.add_link.ensures
