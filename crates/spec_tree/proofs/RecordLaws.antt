-- How many bytes joined records have. Assumes nothing.
use Prim.Native.Nat.{ℕ, ◌+◌, ◌≤◌}
use mathlib.Core.Path.{◌≡◌}
use mathlib.Core.List.{List, [], ◌∷◌, ◌++◌}
use native.Mathlib.Omega.{arith}
use lib.ListN.{length, length-append}
use Rattle.spec_tree.specs.Bytes.{bytes, joined}
use Rattle.spec_tree.specs.Rows.{Row}
use Rattle.spec_tree.specs.Records.{row_records, terminated}

pub terminated_append : (a b : List (List ℕ)) → terminated (a ++ b) ≡ terminated a + terminated b
unfolding terminated
terminated_append [] b = omega arith
terminated_append (r ∷ a) b = let e = terminated_append a b in omega arith

-- joined records lack the last CRLF
pub joined_bytes : (l : List (List ℕ)) → 1 ≤ length l → length (joined (bytes "\r\n") l) + 2 ≡ terminated l
unfolding joined terminated
joined_bytes [] h = absurd (omega arith)
joined_bytes (r ∷ []) h = omega arith
joined_bytes (r ∷ (q ∷ l)) h =
    let sep = bytes "\r\n" in
    let more = joined sep (q ∷ l) in
    omega (arith, length-append (r ++ sep) more, length-append r sep, joined_bytes (q ∷ l) (omega arith))

pub records_long : (l : List Row) (rest : List (List ℕ)) → length l ≤ length (row_records l ++ rest)
unfolding row_records
records_long [] rest = omega arith
records_long (r ∷ l) rest = let h = records_long l rest in omega arith
