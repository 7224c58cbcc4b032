-- Rows that are measured by laying them over an empty table, and then laid over a table that has room for them; and 12 where it hasn't (01, "Turned down":
-- Extract). Assumes nothing.
use Prim.Native.Nat.{ℕ, suc, ◌-◌, ◌≤◌}
use mathlib.Core.Path.{◌≡◌, sym, ◌∙◌, ap}
use mathlib.Core.Bool.{Bool, cond}
use mathlib.Core.List.{List}
use lib.ListN.{length}
use lib.Dec.{ltb, lt→ltb}
use Rattle.spec_tree.specs.Outcome.{Outcome, ok, refused, by}
use Rattle.spec_tree.proofs.Tests.{is_true}
use Rattle.spec_cse.specs.Call.{Extracted, table_after}
use Rattle.fusion.specs.place.Overlay.{overlay}
use Rattle.fusion.specs.place.Whole.{Told}
use Rattle.scope_laws.specs.measured.Roots.{told_or_12}
use borrow.Author.Tests.{le-ltb}
use Rattle.fusion.proofs.tables.Laws.{overlay_front}

module _ (lent : ℕ) (a : Told) where
  abbrev rows_told : Bool → Outcome Extracted
  rows_told b = cond b (refused (by 12)) (ok (record { words = a.words; extracted = a.extracted }))

  pub too_few : suc lent ≤ length a.words → told_or_12 lent a ≡ refused (by 12)
  unfolding told_or_12
  too_few h = ap rows_told (is_true (ltb lent (length a.words)) (lt→ltb lent (length a.words) h))

  pub enough : length a.words ≤ lent → told_or_12 lent a ≡ ok (record { words = a.words; extracted = a.extracted })
  unfolding told_or_12
  enough h = ap rows_told (le-ltb lent (length a.words) h)

-- what the call leaves in a table with room
pub table_told : (a : Told) (old : List ℕ) → length a.words ≤ length old → overlay 0 a.words old ≡ table_after (told_or_12 (length old) a) old
unfolding table_after
table_told a old h = overlay_front a.words old h ∙ ap (λ (o : Outcome Extracted). table_after o old) (sym (enough (length old) a h))
