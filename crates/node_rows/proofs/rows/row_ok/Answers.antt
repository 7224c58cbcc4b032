-- `node_rows::rows::row_ok` meets its contract. Assumes nothing.
use Prim.Native.Nat.{ℕ}
use mathlib.Core.Path.{sym, ◌∙◌, ap}
use lib.ListN.{get_or, take, drop}
use borrow.Author.Tests.{le-leb}
use Rattle.node_rows.specs.fields.Tests.{fields_test}
use Rattle.node_rows.specs.rows.Check.{row_test}
use Rattle.node_rows.proofs.names.Leaves.{back}
use Rattle.node_rows.proofs.rows.row_ok.Goals as goal

pub returns-then-zero_from : goal.returns-then-zero_from
unfolding row_test
returns-then-zero_from c = let w = c.args.row.now in
    rw (le-leb (get_or w 2 0) 32 c.if-row-gt32.false, sym c.zero_from.ensures ∙ c.if-zero_from.true)
    (c.fields_ok.ensures ∙ ap (λ (m : ℕ). fields_test (get_or w 0 0) (get_or w 1 0) (take m (drop 3 w)) c.args.i) (back 3 (get_or w 2 0)))
