-- A tree of an answer that stands at a place (Places) is one that the expression writer takes, and what it leaves. Assumes nothing.
use Prim.Native.Nat.{ℕ, ◌+◌}
use mathlib.Core.Path.{◌≡◌, sym, ap, ◌∙◌, subst}
use mathlib.Core.Bool.{Bool}
use mathlib.Core.Option.{some}
use mathlib.Core.List.{List}
use lib.ListN.{length}
use lib.Dec.{T}
use Rattle.spec_tree.specs.Tree.{Tree}
use Rattle.spec_tree.specs.Facts.{size}
use Rattle.spec_tree.specs.Passes.{tree_ok}
use Rattle.spec_tree.specs.Tokens.{tokens, number_in}
use Rattle.spec_tree.specs.text.Text.{display}
use Rattle.spec_tree.proofs.TokenCode.{tokens_length}
use Rattle.fmt.specs.emit.Writing.{Writes}
use Rattle.fmt.specs.checked.Check.{rows_in}
use Rattle.fmt.specs.shapes.Places.{tree_here, Stands, Passes}
use Rattle.print.specs.told.Places.{TreeAt, Passed}
use Rattle.print.proofs.told.PlaceLaws.{tree_run, tree_is}

module _ (rows ws : List ℕ) (at : ℕ) (t : Tree) (h : TreeAt (rows_in rows) ws at t) where
  here_is : tree_here rows ws at ≡ t
  unfolding tree_here
  here_is = tree_is (rows_in rows) ws t h

  long : length (tokens (number_in (rows_in rows)) t) ≡ size (tree_here rows ws at)
  long = tokens_length (number_in (rows_in rows)) t ∙ ap size (sym here_is)

  pub tree_stands : Stands rows ws at
  tree_stands = record { run = tree_run (rows_in rows) ws t h ∙ ap some long; good = subst (λ (x : Tree). T (tree_ok x)) (sym here_is) h.passes }

  pub tree_written : {dry : Bool} {old : List ℕ} {to : ℕ} {new : List ℕ} {next end : ℕ} → Passes dry old at to (tree_here rows ws at) (display (tree_here rows ws at)) new next end
      → Passed dry old at to (tokens (number_in (rows_in rows)) t) (display t) new next end
  tree_written {dry} {old} {to} {new} {next} {end} p =
      record { token = p.token ∙ ap (λ (n : ℕ). at + n) (sym long); written = subst (λ (x : Tree). Writes dry old to (display x) new end) here_is p.written }
