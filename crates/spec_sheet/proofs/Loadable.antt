-- A table is loadable exactly where load gives it for some sheet. Assumes nothing.
use Prim.Native.Nat.{ℕ, ◌≤◌, ◌/◌}
use mathlib.Core.Path.{◌≡◌}
use mathlib.Core.Logic.{◌↔◌}
use mathlib.Core.List.{List}
use lib.Dec.{T}
use Rattle.spec_tree.specs.Outcome.{ok}
use Rattle.spec_tree.specs.Rows.{Table}
use Rattle.spec_tree.specs.Records.{sheet_of}
use Rattle.spec_tree.specs.Layout.{loadable, row_width, in_domain, sheet_fits}
use Rattle.spec_sheet.specs.Sheet.{load}
use Rattle.spec_sheet.proofs.Loads.{loadable_loads}
use Rattle.spec_sheet.proofs.Loaded.{loaded_loadable}
use Rattle.spec_tree.proofs.Logic.{and_left}
use Rattle.spec_tree.proofs.DomainPasses.{Domain, domain}
use Rattle.spec_sheet.specs.Call.{load_call}

pub loadable_exactly : (row_places root_places : ℕ) → 1024 ≤ row_places → 64 ≤ root_places → (t : Table) → T (loadable t) ↔ ((s : List ℕ) × (load row_places root_places s ≡ ok t))
loadable_exactly row_places root_places p q t =
    ((λ h. (sheet_of t, loadable_loads t h row_places root_places p q)), (λ g. loaded_loadable row_places root_places g.0 t g.1))

pub loaded_domain : (words places : ℕ) (sheet : List ℕ) (t : Table) → load_call words places sheet ≡ ok t → Domain t
unfolding load_call loadable
loaded_domain words places sheet t e = domain t (and_left (in_domain t) (sheet_fits t) (loaded_loadable (words / row_width) places sheet t e))
