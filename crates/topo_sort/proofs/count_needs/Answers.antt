-- `topo_sort::count_needs` meets its contract. Assumes nothing.
use Rattle.std.proofs.Common.{◌∙◌, refl, arith, rules, tests}
use Rattle.std.proofs.lemmas.Iterator.{YieldsList-from_range}
use Rattle.std.proofs.lemmas.Iterator.Consumers.{YieldsList-at, count_from_yields_List, YieldsList-from_filter}
use Rattle.words.specs.bits.Bits.{yes}
use Rattle.topo_sort.proofs.Left.{columns_filtered}
use Rattle.topo_sort.proofs.count_needs.Goals as goal

pub returns : goal.returns
returns c = let a = c.args in
    count_from_yields_List c.filter.result _ c.count.ensures.ran
    (YieldsList-from_filter _ (yes a.needs.now a.j) (YieldsList-at c.filter.ensures.source (YieldsList-from_range 0 a.count a.count refl (omega arith))) c.filter.ensures.closure (λ x r q k. search (rules, tests)))
    ∙ columns_filtered a.needs.now a.j 0 a.count
