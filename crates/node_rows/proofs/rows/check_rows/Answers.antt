-- `node_rows::rows::check_rows` meets its contract. Assumes nothing.
use mathlib.Core.Path.{◌≡◌, refl, sym, ap, ◌∙◌}
use mathlib.Core.Bool.{Bool, true, false, cond}
use Prim.Native.Nat.{ℕ}
use Rattle.std.specs.Bool.{then_some}
use Rattle.std.proofs.Common.{rules}
use Rattle.spec_tree.specs.Outcome.{ok, refused, by}
use Rattle.node_rows.specs.rows.Check.{checked}
use Rattle.node_rows.proofs.rows.Shaped.{not_in_domain, laid_by, in_domain_then}
use Rattle.node_rows.proofs.rows.check_rows.Goals as goal

checked_then : (b : Bool) (n : ℕ) → checked (then_some b n) ≡ cond b (ok n) (refused (by 9))
checked_then true n = refl
checked_then false n = refl

pub returns-in_err-occurrences : goal.returns-in_err-occurrences
returns-in_err-occurrences c = let e = not_in_domain c.args.rows.now c.args.roots.now (sym (ap checked c.in_err-occurrences.was) ∙ c.check_domain.ensures) in search rules

pub fits_a_sheet-requires : goal.fits_a_sheet-requires
fits_a_sheet-requires c = laid_by c.args.rows.now c.args.roots.now _ (sym (ap checked c.in_ok-occurrences.was) ∙ c.check_domain.ensures)

pub returns : goal.returns
returns c = let n = c.in_ok-occurrences.occurrences in
    ap checked c.then_some.ensures ∙ (checked_then c.fits_a_sheet.result n
    ∙ in_domain_then c.args.rows.now c.args.roots.now n c.fits_a_sheet.result (sym (ap checked c.in_ok-occurrences.was) ∙ c.check_domain.ensures) c.fits_a_sheet.ensures)
