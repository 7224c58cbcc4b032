-- Expressions as trees: names, equality, and one fold from which every fact common to all kinds is made (01, "Expressions and facts").
-- A tree here may have any number of operands under any kind number; Passes says which trees 01 has. Assumes nothing.
use Rattle.std.specs.Prelude.{ℕ, Bool, true, false, List, [], ◌∷◌, ℤ, pos, negsuc, eqb}
use Rattle.spec_tree.specs.Bytes.{eq_bytes}

-- A symbol of the list by its bytes, `__xN` by N, or `__mN` by N. No symbol of a list is spelled like the other two (01), so the three never meet.
pub data Name : Type 0 where
  input : List ℕ → Name
  xname : ℕ → Name
  mname : ℕ → Name

-- An operation has its kind's number and its operands.
infixr 5 ◌◂◌
mutual
  pub data Tree : Type 0 where
    Sym : Name → Tree
    Const : ℤ → Tree
    Op : ℕ → Forest → Tree

  pub data Forest : Type 0 where
    nil : Forest
    ◌◂◌ : Tree → Forest → Forest

-- ---- equality, of whole trees

unfoldable pub eq_name : Name → Name → Bool
unfolding eq_bytes
eq_name (input a) (input b) = eq_bytes a b
eq_name (input a) (xname n) = false
eq_name (input a) (mname n) = false
eq_name (xname n) (input b) = false
eq_name (xname n) (xname k) = eqb n k
eq_name (xname n) (mname k) = false
eq_name (mname n) (input b) = false
eq_name (mname n) (xname k) = false
eq_name (mname n) (mname k) = eqb n k

unfoldable pub eq_int : ℤ → ℤ → Bool
eq_int (pos a) (pos b) = eqb a b
eq_int (pos a) (negsuc b) = false
eq_int (negsuc a) (pos b) = false
eq_int (negsuc a) (negsuc b) = eqb a b

unfoldable mutual
  unfolding eq_name eq_int

  pub eq_tree : Tree → Tree → Bool
  eq_tree (Sym a) (Sym b) = eq_name a b
  eq_tree (Sym a) (Const d) = false
  eq_tree (Sym a) (Op l g) = false
  eq_tree (Const c) (Sym b) = false
  eq_tree (Const c) (Const d) = eq_int c d
  eq_tree (Const c) (Op l g) = false
  eq_tree (Op k f) (Sym b) = false
  eq_tree (Op k f) (Const d) = false
  eq_tree (Op k f) (Op l g) = elim (eqb k l) [ true ↦ eq_forest f g | false ↦ false ]

  pub eq_forest : Forest → Forest → Bool
  eq_forest nil nil = true
  eq_forest nil (b ◂ g) = false
  eq_forest (a ◂ f) nil = false
  eq_forest (a ◂ f) (b ◂ g) = elim (eq_tree a b) [ true ↦ eq_forest f g | false ↦ false ]

-- ---- the fold: a value for each leaf, and for an operation one from its kind and its operands' values

module _ {A : Type 0} (leaf : Name → A) (constant : ℤ → A) (operation : ℕ → List A → A) where
  unfoldable mutual
    pub fold : Tree → A
    fold (Sym n) = leaf n
    fold (Const c) = constant c
    fold (Op k f) = operation k (folds f)

    pub folds : Forest → List A
    folds nil = []
    folds (t ◂ f) = fold t ∷ folds f

-- the operands as a list
unfoldable pub operands : Forest → List Tree
operands nil = []
operands (t ◂ f) = t ∷ operands f

unfoldable pub forest : List Tree → Forest
forest [] = nil
forest (t ∷ l) = t ◂ forest l
