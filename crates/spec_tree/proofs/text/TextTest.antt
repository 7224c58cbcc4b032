-- spot checks of the text
use Prim.Native.Nat.{ℕ}
use mathlib.Core.Path.{◌≡◌, refl}
use mathlib.Core.List.{List, [], ◌∷◌}
use lib.IntN.{pos, negsuc}
use Rattle.spec_tree.specs.Tree.{Name, input, xname, Tree, Sym, Const, Op, nil, ◌◂◌}
use Rattle.spec_tree.specs.Kinds.{Neg, Add, Sub, Mul, Div, Pow, Sin, SelectOr}
use Rattle.spec_tree.specs.Bytes.{bytes}
use Rattle.spec_tree.specs.text.Text.{display, before}

a : Tree
a = Sym (input (bytes "a"))

t1 : display (Op Mul (Op Add (a ◂ Const (pos 12) ◂ nil) ◂ Op Neg (Op Sub (a ◂ Sym (xname 10) ◂ nil) ◂ nil) ◂ nil)) ≡ bytes "(a + 12) * -(a - __x10)"
unfolding display a
t1 = refl

t2 : display (Op Pow (Op Pow (a ◂ Const (negsuc 4) ◂ nil) ◂ Op Div (a ◂ Op Div (a ◂ a ◂ nil) ◂ nil) ◂ nil)) ≡ bytes "(a^-5)^(a / (a / a))"
unfolding display a
t2 = refl

t3 : display (Op SelectOr (a ◂ Op Sin (a ◂ nil) ◂ a ◂ nil)) ≡ bytes "select_or(a, sin(a), a)"
unfolding display a
t3 = refl
