-- The trees of a sheet that load accepts pass 9. Assumes nothing.
use Prim.Native.Nat.{ℕ}
use mathlib.Core.Path.{◌≡◌}
use mathlib.Core.List.{List}
use lib.Dec.{T}
use Rattle.spec_tree.specs.Outcome.{ok}
use Rattle.spec_tree.specs.Rows.{Table, trees}
use Rattle.spec_tree.specs.Passes.{passes}
use Rattle.spec_tree.proofs.DomainPasses.{loadable_passes}
use Rattle.spec_sheet.specs.Sheet.{load}
use Rattle.spec_sheet.proofs.Loaded.{loaded_loadable}

pub accepted_passes : (row_places root_places : ℕ) (s : List ℕ) (t : Table) → load row_places root_places s ≡ ok t → T (passes (trees t))
accepted_passes row_places root_places s t e = loadable_passes t (loaded_loadable row_places root_places s t e)
