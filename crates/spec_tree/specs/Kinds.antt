-- The kinds of 01, numbered as it lists them, in one table (01, "Expressions and facts"). A Select with a default has a number of its own, 28, named by the
-- sheet's word SelectOr; its last operand is the default. Assumes nothing.
use Rattle.std.specs.Prelude.{ℕ, Bool, ◌&&◌, List, [], ◌∷◌, get_or, leb}
use Prim.Native.String.{String}
use Rattle.spec_tree.specs.Bytes.{bytes}

-- a kind's record word in a sheet, the name that its text puts before a bracket, and the fewest and the most operands: those of `children`
abbrev pub Kind : Type 0
Kind = record { word : List ℕ; printed : List ℕ; fewest : ℕ; most : ℕ }

abbrev kind : String → String → ℕ → ℕ → Kind
kind w p n m = record { word = bytes w; printed = bytes p; fewest = n; most = m }

unfoldable pub kinds : List Kind
kinds =
    kind "Sym" "" 0 0
    ∷ kind "Const" "" 0 0
    ∷ kind "Neg" "" 1 1
    ∷ kind "Add" "" 2 2
    ∷ kind "Sub" "" 2 2
    ∷ kind "Mul" "" 2 2
    ∷ kind "Div" "" 2 2
    ∷ kind "Pow" "" 2 2
    ∷ kind "Sin" "sin" 1 1
    ∷ kind "Cos" "cos" 1 1
    ∷ kind "Tan" "tan" 1 1
    ∷ kind "Asin" "asin" 1 1
    ∷ kind "Acos" "acos" 1 1
    ∷ kind "Atan" "atan" 1 1
    ∷ kind "Atan2" "atan2" 2 2
    ∷ kind "Sinh" "sinh" 1 1
    ∷ kind "Cosh" "cosh" 1 1
    ∷ kind "Tanh" "tanh" 1 1
    ∷ kind "Exp" "exp" 1 1
    ∷ kind "Ln" "ln" 1 1
    ∷ kind "Log2" "log2" 1 1
    ∷ kind "Log10" "log10" 1 1
    ∷ kind "Sqrt" "sqrt" 1 1
    ∷ kind "Abs" "abs" 1 1
    ∷ kind "Heaviside" "H" 1 1
    ∷ kind "Clamp" "clamp" 3 3
    ∷ kind "Branch" "branch" 3 3
    ∷ kind "Select" "select" 2 17
    ∷ kind "SelectOr" "select_or" 3 18
    ∷ []

-- past the table no count of operands is right
unfoldable pub kind_at : ℕ → Kind
unfolding kinds
kind_at k = get_or kinds k (kind "" "" 1 0)

unfoldable pub printed_name : ℕ → List ℕ
unfolding kind_at
printed_name k = (kind_at k).printed

-- whether a kind may have n operands
unfoldable pub arity_ok : ℕ → ℕ → Bool
unfolding kind_at
arity_ok k n = leb (kind_at k).fewest n && leb n (kind_at k).most

-- ---- numbers by name

abbrev pub Neg : ℕ
Neg = 2

abbrev pub Add : ℕ
Add = 3

abbrev pub Sub : ℕ
Sub = 4

abbrev pub Mul : ℕ
Mul = 5

abbrev pub Div : ℕ
Div = 6

abbrev pub Pow : ℕ
Pow = 7

abbrev pub Sin : ℕ
Sin = 8

abbrev pub Cos : ℕ
Cos = 9

abbrev pub Atan2 : ℕ
Atan2 = 14

abbrev pub Heaviside : ℕ
Heaviside = 24

abbrev pub Clamp : ℕ
Clamp = 25

abbrev pub Branch : ℕ
Branch = 26

abbrev pub Select : ℕ
Select = 27

abbrev pub SelectOr : ℕ
SelectOr = 28

-- Select, with or without a default
abbrev pub is_select : ℕ → Bool
is_select k = leb Select k

-- the kinds with arms: every operand after the first is one
abbrev pub is_switch : ℕ → Bool
is_switch k = leb Branch k
