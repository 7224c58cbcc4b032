-- The order at small tables, by computing. Assumes nothing.
use Rattle.std.specs.Prelude.{Err}
use Prim.Native.Nat.{ℕ}
use mathlib.Core.Path.{◌≡◌, refl}
use mathlib.Core.Bool.{true}
use mathlib.Core.List.{List, [], ◌∷◌, ◌++◌}
use lib.ListN.{replicate}
use Rattle.words.specs.bits.Bits.{yes, inside, bit}
use Rattle.spec_cse.specs.Order.{positions_taken, take_all, free_from, joining, push, member, within}
use Rattle.topo_sort.specs.Needs.{table_of, rows_from, columns, order_answer, order_written}
use Rattle.topo_sort.specs.declared.OrderError.TheVariants as order_error

row : ℕ → List ℕ
row w = w ∷ replicate 31 0

-- two bindings free of others: the second comes first (01, M2)
two_free : order_written true (positions_taken (table_of (row 0 ++ row 0) 2)) (7 ∷ 7 ∷ 7 ∷ []) ≡ 1 ∷ 0 ∷ 7 ∷ []
unfolding row yes inside bit positions_taken take_all free_from joining push member within table_of rows_from columns order_written
two_free = refl

-- 0 needs 1 and 2, and 2 needs 1
one_after_another : order_written true (positions_taken (table_of (row 6 ++ row 0 ++ row 2) 3)) (7 ∷ 7 ∷ 7 ∷ []) ≡ 1 ∷ 2 ∷ 0 ∷ []
unfolding row yes inside bit positions_taken take_all free_from joining push member within table_of rows_from columns order_written
one_after_another = refl

-- 0 and 1 need each other; 2 is taken
a_ring : order_answer true 3 (positions_taken (table_of (row 2 ++ row 1 ++ row 0) 3)) ≡ Err (order_error.Ring 1)
unfolding row yes inside bit positions_taken take_all free_from joining push member within table_of rows_from columns order_answer
a_ring = refl

-- one that needs itself
itself : order_answer true 1 (positions_taken (table_of (row 1) 1)) ≡ Err (order_error.Ring 0)
unfolding row yes inside bit positions_taken take_all free_from joining push member within table_of rows_from columns order_answer
itself = refl
