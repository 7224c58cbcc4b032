-- `topo_sort::count_all` meets its contract. Assumes nothing.
use Rattle.std.proofs.Common.{◌≡◌, length, arith}
use Rattle.topo_sort.specs.Needs.{columns}
use Rattle.topo_sort.proofs.Loops.{set_reads}
use Rattle.topo_sort.proofs.count_all.Goals as goal

pub loop-j-preserved : goal.loop-j-preserved
loop-j-preserved c = let a = c.args in
    set_reads (λ k w. w ≡ length (columns a.needs.now k 0 a.count)) c.loop-j.waiting c.loop-j.j _ (omega (arith, c.requires, c.loop-j-test.true)) c.loop-j.invariant c.count_needs.ensures
