-- `topo_sort::links::link_stmt` meets its contract. Assumes nothing.
use native.Mathlib.Omega.{arith}
use Rattle.topo_sort.proofs.links.Making.{stmt_linked}
use Rattle.topo_sort.proofs.links.link_stmt.Goals as goal

pub returns : goal.returns
returns c = let a = c.args in
    stmt_linked a.words.now a.j a.n a.heads.now a.links.now a.waiting.now c.requires.0 c.requires.1 (omega (arith, c.requires.0.room, c.if-words-links.false)) _ _ _ c.link_needs-m.ensures
