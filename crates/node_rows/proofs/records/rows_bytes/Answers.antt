-- `node_rows::records::rows_bytes` meets its contract: the sum and what the rows still to come have are the whole. Assumes nothing.
use mathlib.Core.Path.{◌≡◌, ap}
use Prim.Native.Nat.{ℕ, ◌+◌, ◌*◌, ◌-◌, ◌/◌}
use native.Mathlib.Omega.{arith}
use native.Mathlib.Numerals.{add-one}
use lib.ListN.{length, take, drop}
use Rattle.spec_tree.specs.Records.{row_record}
use Rattle.spec_tree.specs.Layout.{row_of}
use Rattle.node_rows.proofs.records.RecordBytes.{rows_from, rows_end}
use Rattle.node_rows.proofs.records.rows_bytes.Goals as goal

pub loop-i-preserved : goal.loop-i-preserved
loop-i-preserved c = let s = c.args.rows.now in
    let e : 35 * c.loop-i.i + 35 - 35 * c.loop-i.i ≡ 35 = omega arith in
    let n = ap (λ (m : ℕ). length (row_record (row_of (take m (drop (35 * c.loop-i.i) s))))) e in
    let h = rows_from (length s / 35) s c.loop-i.i c.loop-i-test.true in
    (omega (arith, c.row_bytes.ensures), rw add-one (omega (arith, c.row_bytes.ensures, c.loop-i.invariant.1, n, h)))

pub returns : goal.returns
returns c = let s = c.args.rows.now in
    (omega (arith, c.loop-i.invariant.1, rows_end (length s / 35) c.loop-i.i s c.loop-i-test.false), omega (arith, c.requires.few_rows))
