-- Short forms of trees, in which examples are written. Assumes nothing.
use Prim.Native.Nat.{ℕ}
use Prim.Native.String.{String}
use lib.IntN.{pos}
use Rattle.spec_tree.specs.Bytes.{bytes}
use Rattle.spec_tree.specs.Tree.{input, xname, mname, Tree, Sym, Const, Op, nil, ◌◂◌}
use Rattle.spec_tree.specs.Kinds.{Neg, Add, Mul, Div, Sin, Cos}

-- a symbol of the list, `__xN` and `__mN`
abbrev pub v : String → Tree
v s = Sym (input (bytes s))

abbrev pub x : ℕ → Tree
x i = Sym (xname i)

abbrev pub m : ℕ → Tree
m i = Sym (mname i)

abbrev pub num : ℕ → Tree
num n = Const (pos n)

infixl 75 ◌⊕◌
abbrev pub ◌⊕◌ : Tree → Tree → Tree
a ⊕ b = Op Add (a ◂ b ◂ nil)

infixl 76 ◌⊗◌
abbrev pub ◌⊗◌ : Tree → Tree → Tree
a ⊗ b = Op Mul (a ◂ b ◂ nil)

infixl 76 ◌⊘◌
abbrev pub ◌⊘◌ : Tree → Tree → Tree
a ⊘ b = Op Div (a ◂ b ◂ nil)

abbrev pub minus : Tree → Tree
minus a = Op Neg (a ◂ nil)

abbrev pub sin : Tree → Tree
sin a = Op Sin (a ◂ nil)

abbrev pub cos : Tree → Tree
cos a = Op Cos (a ◂ nil)
