-- The tests of a row's fields, in the code's order (01, "Expressions and facts"): names, constants, operand counts, earlier operands. Assumes nothing.
use Rattle.std.specs.Prelude.{ℕ, Bool, true, false, ◌&&◌, cond, List, length, eqb, leb}
use Rattle.spec_tree.specs.Bytes.{every}
use Rattle.spec_tree.specs.Kinds.{kind_at, Select}
use Rattle.spec_tree.specs.Symbol.{is_name}
use Rattle.node_rows.specs.kinds.Numbers.{kind_number}
use Rattle.node_rows.specs.fields.Below.{below}
use Rattle.node_rows.specs.fields.Constant.{constant_test}

unfoldable pub operation_test : ℕ → Bool → List ℕ → ℕ → Bool
unfolding kind_at every
operation_test k default f i =
    leb (kind_at (kind_number k default)).fewest (length f) && (leb (length f) (kind_at (kind_number k default)).most && below i f)

-- the fields of a row with no default
unfoldable pub plain_test : ℕ → List ℕ → ℕ → Bool
unfolding is_name constant_test operation_test
plain_test k f i = cond (eqb k 0) (is_name f) (cond (eqb k 1) (constant_test f) (operation_test k false f i))

unfoldable pub fields_test : ℕ → ℕ → List ℕ → ℕ → Bool
unfolding plain_test operation_test
fields_test k d f i = cond (eqb d 0) (plain_test k f i) (eqb d 1 && (eqb k Select && operation_test Select true f i))
