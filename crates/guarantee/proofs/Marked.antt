-- The marked lists M1 to M11 of 01 ("Marked lists"), as one theorem, proved by computing the definitions. Assumes nothing.
use Prim.Native.Nat.{ℕ}
use mathlib.Core.Path.{◌≡◌, refl}
use mathlib.Core.Bool.{Bool, true, false}
use mathlib.Core.List.{List, [], ◌∷◌}
use Rattle.spec_tree.specs.Outcome.{Outcome, ok, refused, ◌>>=◌, by}
use Rattle.spec_tree.specs.Tree.{Tree, Op, nil, ◌◂◌}
use Rattle.spec_tree.specs.Kinds.{Select}
use Rattle.spec_tree.specs.Bytes.{bytes}
use Rattle.spec_tree.proofs.Notation.{v, num, ◌⊕◌, ◌⊗◌, ◌⊘◌, sin, cos}
use Rattle.spec_cse.specs.Answer.{end, answer_text}
use Rattle.spec_cse.specs.Scope.{answer}
use Rattle.spec_program.specs.Program.{csesheet}
use Rattle.spec_program.specs.Calls.{by_calls}

-- what a list prints, flat (false) or scoped (true)
abbrev prints : Bool → List Tree → Outcome (List ℕ)
prints scoped es = answer scoped es >>= λ a. ok (answer_text a)

-- the same in both forms
abbrev Prints : List Tree → Outcome (List ℕ) → Type 0
Prints es o = (prints false es ≡ o) × (prints true es ≡ o)

-- the sheet of 01, and what `csesheet` writes for it
abbrev sheet1 : List ℕ
sheet1 = bytes "Sym,a\r\nSym,b\r\nAdd,0,1\r\nSym,c\r\nMul,2,3\r\nSin,2\r\nRoot,4\r\nRoot,5\r\n"

abbrev text1 : List ℕ
text1 = bytes "let __x0 = a + b;\n__x0 * c\nsin(__x0)\n"

abbrev s8 : Tree
s8 = Op Select (v "i" ◂ v "a" ◂ v "b" ◂ nil)

abbrev list8 : List Tree
list8 = (s8 ⊕ v "y") ∷ Op Select (v "i" ◂ (s8 ⊕ v "y") ◂ v "c" ◂ nil) ∷ []

abbrev list10 : ℕ → List Tree
list10 n = (v "a" ⊗ v "b") ∷ sin (v "a" ⊗ v "b") ∷ (num 1000000000 ⊗ v "a" ⊗ num n ⊗ v "b") ∷ []

pub record Marked : Type 0 where
  M1 : csesheet sheet1 ≡ text1
  -- the same by load, extract and print over rows, with as many answer rows and bytes lent as they take, and with one less
  M1Calls : by_calls false 11 37 sheet1 ≡ ok text1
  M1NoRow : by_calls false 10 37 sheet1 ≡ refused (by 12)
  M1NoByte : by_calls false 11 36 sheet1 ≡ refused (by 14)
  M1Trees : Prints ((v "a" ⊕ v "b") ⊗ v "c" ∷ sin (v "a" ⊕ v "b") ∷ []) (ok text1)
  M2 :
      Prints (sin (v "a" ⊕ v "b") ∷ cos (v "a" ⊕ v "b") ∷ sin (v "c" ⊕ v "d") ∷ cos (v "c" ⊕ v "d") ∷ [])
      (ok (bytes "let __x1 = a + b;\nlet __x0 = c + d;\nsin(__x1)\ncos(__x1)\nsin(__x0)\ncos(__x0)\n"))
  M3 :
      Prints (v "a" ⊗ v "b" ∷ sin (v "a" ⊗ v "b") ∷ v "a" ⊗ v "c" ⊗ v "b" ∷ [])
      (ok (bytes "let __x0 = a * b;\n__x0\nsin(__x0)\nc * __x0\n"))
  M4 :
      Prints (sin (num 2 ⊗ v "a") ∷ cos (num 2 ⊗ v "a") ∷ num 2 ⊗ v "b" ⊗ v "a" ∷ [])
      (ok (bytes "let __x0 = 2 * a;\nsin(__x0)\ncos(__x0)\n2 * b * a\n"))
  M5 : Prints (v "p" ⊘ num 2 ∷ v "q" ⊘ num 2 ∷ []) (ok (bytes "let __x0 = 1 / 2;\np * __x0\nq * __x0\n"))
  M6 : Prints (v "p" ⊘ num 2 ∷ []) (ok (bytes "p / 2\n"))
  M7 : Prints (sin (num 1 ⊕ num 2) ∷ cos (num 1 ⊕ num 2) ∷ []) (ok (bytes "sin(1 + 2)\ncos(1 + 2)\n"))
  M8 : prints true list8 ≡ refused (by 11)
  M8Flat : prints false list8 ≡ ok (bytes "let __x0 = select(i, a, b) + y;\n__x0\nselect(i, __x0, c)\n")
  M9 :
      Prints (sin (v "a" ⊕ (v "b" ⊕ v "c")) ∷ cos (v "a" ⊕ (v "b" ⊕ v "c")) ∷ sin (v "a" ⊕ v "b" ⊕ v "c") ∷ cos (v "a" ⊕ v "b" ⊕ v "c") ∷ [])
      (ok (bytes "let __x1 = a + b + c;\nlet __x0 = a + b + c;\nsin(__x0)\ncos(__x0)\nsin(__x1)\ncos(__x1)\n"))
  M10 : Prints (list10 1000000) (refused (by 10))
  M10Below : Prints (list10 999999) (ok (bytes "let __x0 = a * b;\n__x0\nsin(__x0)\n999999000000000 * __x0\n"))
  M11 : (scoped : Bool) → answer scoped [] ≡ ok (record { inters = end; results = []; extracted = 0 })

pub marked : Marked
unfolding answer answer_text csesheet by_calls
marked =
    record {
      M1 = refl;
      M1Calls = refl;
      M1NoRow = refl;
      M1NoByte = refl;
      M1Trees = (refl, refl);
      M2 = (refl, refl);
      M3 = (refl, refl);
      M4 = (refl, refl);
      M5 = (refl, refl);
      M6 = (refl, refl);
      M7 = (refl, refl);
      M8 = refl;
      M8Flat = refl;
      M9 = (refl, refl);
      M10 = (refl, refl);
      M10Below = (refl, refl);
      M11 = none_given;
    }
  where
    none_given : (scoped : Bool) → answer scoped [] ≡ ok (record { inters = end; results = []; extracted = 0 })
    none_given false = refl
    none_given true = refl
