-- `topo_sort::links::begins_with` meets its contract. Assumes nothing.
use mathlib.Core.Path.{◌≡◌, refl}
use native.Mathlib.Omega.{arith}
use Rattle.topo_sort.proofs.links.Making.{no_link, link_first}
use Rattle.topo_sort.proofs.links.begins_with.Goals as goal

pub returns-then-h-gt0 : goal.returns-then-h-gt0
returns-then-h-gt0 c = link_first _ c.args.h c.args.j (omega (arith, c.if-h-gt0.true))

pub returns-else-h-gt0 : goal.returns-else-h-gt0
returns-else-h-gt0 c = let none : c.args.h ≡ 0 = omega (arith, c.if-h-gt0.false) in rw none (no_link _ 0 c.args.j refl)
