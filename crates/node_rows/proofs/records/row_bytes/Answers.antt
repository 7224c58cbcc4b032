-- `node_rows::records::row_bytes` meets its contract. Assumes nothing.
use mathlib.Core.Path.{◌≡◌, ap}
use Prim.Native.Nat.{ℕ, ◌+◌, ◌-◌}
use lib.ListN.{length, get_or, take, drop}
use Rattle.spec_tree.specs.Records.{numbers_text}
use native.Mathlib.Omega.{arith}
use Rattle.node_rows.proofs.records.RecordBytes.{name_bytes, constant_record, operation_record}
use Rattle.node_rows.proofs.records.row_bytes.Goals as goal

pub returns-in-0 : goal.returns-in-0
returns-in-0 c = (omega (arith, name_bytes c.args.row.now c.requires c.in-0.is), omega (arith, c.requires.few))

pub returns-in-1 : goal.returns-in-1
returns-in-1 c = let k = constant_record c.args.row.now c.requires c.in-1.is in
    (omega (arith, c.constant_bytes.ensures, k), omega (arith, c.constant_bytes.ensures))

pub returns-in_default : goal.returns-in_default
returns-in_default c = let row = c.args.row.now in
    let k = operation_record row c.requires (omega arith) in
    let n = ap (λ (m : ℕ). length (numbers_text (take m (drop 3 row)))) (let e : 3 + get_or row 2 0 - 3 ≡ get_or row 2 0 = omega arith in e) in
    (omega (arith, c.numbers_bytes.ensures, c.word_bytes.ensures, k, n), omega (arith, c.numbers_bytes.ensures, c.word_bytes.ensures))
