-- `fmt::order::beginning` meets its contract. Assumes nothing.
use Rattle.fmt.proofs.order.Beginnings.{beginning, beginning_long}
use Rattle.fmt.proofs.order.beginning.Goals as goal

pub slice_bounds-result-end : goal.slice_bounds-result-end
slice_bounds-result-end c = beginning_long c.args.n _ c.args.s.now c.min.ensures

pub returns : goal.returns
returns c = beginning c.args.n _ c.args.s.now c.min.ensures
