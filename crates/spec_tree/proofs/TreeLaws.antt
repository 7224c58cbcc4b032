-- The tests of equality say equality. Assumes nothing.
use Prim.Native.Nat.{ℕ}
use mathlib.Core.Path.{◌≡◌, refl, ap, ap₂}
use mathlib.Core.Bool.{Bool, true, false}
use mathlib.Core.List.{List, [], ◌∷◌}
use lib.IntN.{ℤ, pos, negsuc}
use lib.Dec.{T, eqb, eqb→eq, eqb_refl}
use Rattle.spec_tree.specs.Tree.{Name, input, xname, mname, Tree, Forest, Sym, Const, Op, nil, ◌◂◌, eq_name, eq_int, eq_tree, eq_forest}
use Rattle.spec_tree.specs.Bytes.{eq_bytes}
use borrow.Author.Tests.{eq-eqb, ne_eqb}
use lib.ListN.{length}

-- a test that goes on only where the first passes
pub both : (b c : Bool) → T (elim b [ true ↦ c | false ↦ false ]) → T b × T c
both true c t = (tt, t)
both false c t = absurd t

pub then_test : (b c : Bool) → T b → T c → T (elim b [ true ↦ c | false ↦ false ])
then_test true c s t = t
then_test false c s t = s

pub eq_bytes_sound : (a b : List ℕ) → T (eq_bytes a b) → a ≡ b
unfolding eq_bytes
eq_bytes_sound [] [] t = refl
eq_bytes_sound [] (b ∷ s) t = absurd t
eq_bytes_sound (a ∷ r) [] t = absurd t
eq_bytes_sound (a ∷ r) (b ∷ s) t =
    let h = both (eqb a b) (eq_bytes r s) t in
    ap₂ ◌∷◌ (eqb→eq a b h.0) (eq_bytes_sound r s h.1)

pub eq_bytes_refl : (a : List ℕ) → T (eq_bytes a a)
unfolding eq_bytes
eq_bytes_refl [] = tt
eq_bytes_refl (a ∷ r) = then_test (eqb a a) (eq_bytes r r) (eqb_refl a) (eq_bytes_refl r)

pub eq_name_sound : (a b : Name) → T (eq_name a b) → a ≡ b
unfolding eq_name
eq_name_sound (input a) (input b) t = ap input (eq_bytes_sound a b t)
eq_name_sound (input a) (xname n) t = absurd t
eq_name_sound (input a) (mname n) t = absurd t
eq_name_sound (xname n) (input b) t = absurd t
eq_name_sound (xname n) (xname k) t = ap xname (eqb→eq n k t)
eq_name_sound (xname n) (mname k) t = absurd t
eq_name_sound (mname n) (input b) t = absurd t
eq_name_sound (mname n) (xname k) t = absurd t
eq_name_sound (mname n) (mname k) t = ap mname (eqb→eq n k t)

pub eq_name_refl : (a : Name) → T (eq_name a a)
unfolding eq_name
eq_name_refl (input a) = eq_bytes_refl a
eq_name_refl (xname n) = eqb_refl n
eq_name_refl (mname n) = eqb_refl n

pub eq_int_sound : (a b : ℤ) → T (eq_int a b) → a ≡ b
unfolding eq_int
eq_int_sound (pos a) (pos b) t = ap pos (eqb→eq a b t)
eq_int_sound (pos a) (negsuc b) t = absurd t
eq_int_sound (negsuc a) (pos b) t = absurd t
eq_int_sound (negsuc a) (negsuc b) t = ap negsuc (eqb→eq a b t)

pub eq_int_refl : (a : ℤ) → T (eq_int a a)
unfolding eq_int
eq_int_refl (pos a) = eqb_refl a
eq_int_refl (negsuc a) = eqb_refl a

mutual
  unfolding eq_tree

  pub eq_tree_sound : (a b : Tree) → T (eq_tree a b) → a ≡ b
  eq_tree_sound (Sym a) (Sym b) t = ap Sym (eq_name_sound a b t)
  eq_tree_sound (Sym a) (Const d) t = absurd t
  eq_tree_sound (Sym a) (Op l g) t = absurd t
  eq_tree_sound (Const c) (Sym b) t = absurd t
  eq_tree_sound (Const c) (Const d) t = ap Const (eq_int_sound c d t)
  eq_tree_sound (Const c) (Op l g) t = absurd t
  eq_tree_sound (Op k f) (Sym b) t = absurd t
  eq_tree_sound (Op k f) (Const d) t = absurd t
  eq_tree_sound (Op k f) (Op l g) t =
      let h = both (eqb k l) (eq_forest f g) t in
      ap₂ Op (eqb→eq k l h.0) (eq_forest_sound f g h.1)

  pub eq_forest_sound : (f g : Forest) → T (eq_forest f g) → f ≡ g
  eq_forest_sound nil nil t = refl
  eq_forest_sound nil (b ◂ g) t = absurd t
  eq_forest_sound (a ◂ f) nil t = absurd t
  eq_forest_sound (a ◂ f) (b ◂ g) t =
      let h = both (eq_tree a b) (eq_forest f g) t in
      ap₂ ◌◂◌ (eq_tree_sound a b h.0) (eq_forest_sound f g h.1)

mutual
  unfolding eq_tree

  pub eq_tree_refl : (a : Tree) → T (eq_tree a a)
  eq_tree_refl (Sym a) = eq_name_refl a
  eq_tree_refl (Const c) = eq_int_refl c
  eq_tree_refl (Op k f) = then_test (eqb k k) (eq_forest f f) (eqb_refl k) (eq_forest_refl f)

  pub eq_forest_refl : (f : Forest) → T (eq_forest f f)
  eq_forest_refl nil = tt
  eq_forest_refl (a ◂ f) = then_test (eq_tree a a) (eq_forest f f) (eq_tree_refl a) (eq_forest_refl f)

-- ---- bytes that differ

pub other_lengths : (a b : List ℕ) → (length a ≡ length b → ⊥) → false ≡ eq_bytes a b
other_lengths a b n = go (eq_bytes a b) (λ t. n (ap length (eq_bytes_sound a b t)))
  where
    go : (t : Bool) → (T t → ⊥) → false ≡ t
    go true f = absurd (f tt)
    go false f = refl

pub alike : (x y : ℕ) (a b : List ℕ) → x ≡ y → eq_bytes (x ∷ a) (y ∷ b) ≡ eq_bytes a b
unfolding eq_bytes
alike x y a b e = rw (eq-eqb x y e, eq_bytes)

pub unlike : (x y : ℕ) (a b : List ℕ) → (x ≡ y → ⊥) → eq_bytes (x ∷ a) (y ∷ b) ≡ false
unfolding eq_bytes
unlike x y a b n = rw (ne_eqb x y n, eq_bytes)
