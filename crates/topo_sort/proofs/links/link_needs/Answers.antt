-- `topo_sort::links::link_needs` meets its contract. Assumes nothing.
use Rattle.topo_sort.proofs.links.Making.{reading_begins, reading_turns, reading_ends}
use Rattle.topo_sort.proofs.links.link_needs.Goals as goal

pub loop-w-init : goal.loop-w-init
loop-w-init c = let a = c.args in
    reading_begins a.words.now a.j a.n a.heads.now a.links.now c.requires.by_index

pub loop-w-preserved : goal.loop-w-preserved
loop-w-preserved c = let a = c.args in
    reading_turns a.words.now a.j a.n a.heads.now a.links.now c.loop-w.invariant c.loop-w-test.true _ _ _ c.link_need-m.ensures

pub returns : goal.returns
returns c = let a = c.args in
    reading_ends a.words.now a.j a.n a.heads.now a.links.now c.loop-w.invariant c.loop-w-test.false
