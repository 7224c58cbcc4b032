-- An operation's text is what stands before its operands, the operands with what stands between them, and what stands after them. Assumes nothing.
use Prim.Native.Nat.{ℕ, suc, ◌+◌, ◌≤◌, ◌<◌}
use native.Mathlib.Omega.{arith}
use mathlib.Core.Path.{◌≡◌, refl, sym, ◌∙◌, ap, ap₂, subst}
use mathlib.Core.Bool.{Bool, true, false, ◌&&◌, ◌||◌}
use mathlib.Core.List.{List, [], ◌∷◌, ◌++◌, append_assoc, append-nil}
use borrow.Author.Tests.{eqb-true, eqb-false, ne_eqb, lt-leb}
use lib.Dec.{T, eqb, leb, ltb, leb→le}
use lib.ListN.{length}
use Rattle.spec_tree.specs.Bytes.{bytes, joined}
use Rattle.spec_tree.specs.Kinds.{kinds, kind_at, printed_name, arity_ok, Neg}
use Rattle.spec_tree.specs.Passes.{operands_ok}
use Rattle.spec_tree.proofs.Logic.{and_left, and_right}
use Rattle.spec_tree.specs.text.Text.{Part, bracketed, texts, call, infix_text, neg_text, operation_text}
use Rattle.fmt.specs.shapes.Operands.{opening, sign, separator, closing, left_test, right_test, brackets, between, operand_text, operands_text}

-- ---- an operation by its kind

pub data Which (k : ℕ) : Type 0 where
  neg : k ≡ 2 → Which k
  add : k ≡ 3 → Which k
  sub : k ≡ 4 → Which k
  mul : k ≡ 5 → Which k
  div : k ≡ 6 → Which k
  pow : k ≡ 7 → Which k
  past : 7 < k → Which k

pub which : (k : ℕ) → 1 < k → Which k
which k h = go (eqb k 2) (eqb k 3) (eqb k 4) (eqb k 5) (eqb k 6) (eqb k 7) refl refl refl refl refl refl
  where
    go : (a b c d e f : Bool) → eqb k 2 ≡ a → eqb k 3 ≡ b → eqb k 4 ≡ c → eqb k 5 ≡ d → eqb k 6 ≡ e → eqb k 7 ≡ f → Which k
    go true b c d e f p q r s t u = neg (eqb-true k 2 p)
    go false true c d e f p q r s t u = add (eqb-true k 3 q)
    go false false true d e f p q r s t u = sub (eqb-true k 4 r)
    go false false false true e f p q r s t u = mul (eqb-true k 5 s)
    go false false false false true f p q r s t u = div (eqb-true k 6 t)
    go false false false false false true p q r s t u = pow (eqb-true k 7 u)
    go false false false false false false p q r s t u =
        past (above 7 (above 6 (above 5 (above 4 (above 3 (above 2 h (eqb-false k 2 p)) (eqb-false k 3 q)) (eqb-false k 4 r)) (eqb-false k 5 s)) (eqb-false k 6 t)) (eqb-false k 7 u))
      where
        above : (n : ℕ) → n ≤ k → (k ≡ n → ⊥) → n < k
        above n g m = omega (arith, m)

-- a kind with one count of operands
arity : (k n f : ℕ) → (kind_at k).fewest ≡ f → (kind_at k).most ≡ f → T (operands_ok k n) → n ≡ f
unfolding operands_ok arity_ok
arity k n f p q t =
    let a = leb (kind_at k).fewest n in
    let b = leb n (kind_at k).most in
    let u = and_right (leb Neg k) (a && b) t in
    omega (arith, p, q, leb→le (kind_at k).fewest n (and_left a b u), leb→le n (kind_at k).most (and_right a b u))

-- ---- Neg and the infix kinds

abbrev Layout : ℕ → List Part → Type 0
Layout k parts = operation_text k parts ≡ opening k ++ (operands_text k 0 parts ++ closing k)

neg_layout : (parts : List Part) → length parts ≡ 1 → Layout 2 parts
unfolding operation_text neg_text opening closing operands_text operand_text between brackets left_test
neg_layout [] e = absurd (omega arith)
neg_layout (a ∷ []) e = ap (λ (l : List ℕ). 45 ∷ l) (sym (append-nil (bracketed (eqb a.prec 1 || eqb a.prec 3) a.text ++ []) ∙ append-nil (bracketed (eqb a.prec 1 || eqb a.prec 3) a.text)))
neg_layout (a ∷ (b ∷ l)) e = absurd (omega arith)

infix_shape : (a s b : List ℕ) → a ++ s ++ b ≡ (a ++ ((s ++ b) ++ [])) ++ []
infix_shape a s b = append_assoc a s b ∙ sym (append-nil (a ++ ((s ++ b) ++ [])) ∙ ap (λ (l : List ℕ). a ++ l) (append-nil (s ++ b)))

abbrev Infix : ℕ → Type 0
Infix k = (parts : List Part) → length parts ≡ 2 → Layout k parts

add_layout : Infix 3
unfolding operation_text infix_text opening closing operands_text operand_text between separator sign brackets left_test right_test
add_layout [] e = absurd (omega arith)
add_layout (a ∷ []) e = absurd (omega arith)
add_layout (a ∷ (b ∷ [])) e = infix_shape (bracketed (ltb a.prec 1) a.text) (bytes " + ") (bracketed (ltb b.prec 1) b.text)
add_layout (a ∷ (b ∷ (c ∷ l))) e = absurd (omega arith)

sub_layout : Infix 4
unfolding operation_text infix_text opening closing operands_text operand_text between separator sign brackets left_test right_test
sub_layout [] e = absurd (omega arith)
sub_layout (a ∷ []) e = absurd (omega arith)
sub_layout (a ∷ (b ∷ [])) e = infix_shape (bracketed (ltb a.prec 1) a.text) (bytes " - ") (bracketed (leb b.prec 1) b.text)
sub_layout (a ∷ (b ∷ (c ∷ l))) e = absurd (omega arith)

mul_layout : Infix 5
unfolding operation_text infix_text opening closing operands_text operand_text between separator sign brackets left_test right_test
mul_layout [] e = absurd (omega arith)
mul_layout (a ∷ []) e = absurd (omega arith)
mul_layout (a ∷ (b ∷ [])) e = infix_shape (bracketed (ltb a.prec 2) a.text) (bytes " * ") (bracketed (ltb b.prec 2) b.text)
mul_layout (a ∷ (b ∷ (c ∷ l))) e = absurd (omega arith)

div_layout : Infix 6
unfolding operation_text infix_text opening closing operands_text operand_text between separator sign brackets left_test right_test
div_layout [] e = absurd (omega arith)
div_layout (a ∷ []) e = absurd (omega arith)
div_layout (a ∷ (b ∷ [])) e = infix_shape (bracketed (ltb a.prec 2) a.text) (bytes " / ") (bracketed (leb b.prec 2) b.text)
div_layout (a ∷ (b ∷ (c ∷ l))) e = absurd (omega arith)

pow_layout : Infix 7
unfolding operation_text infix_text opening closing operands_text operand_text between separator sign brackets left_test right_test
pow_layout [] e = absurd (omega arith)
pow_layout (a ∷ []) e = absurd (omega arith)
pow_layout (a ∷ (b ∷ [])) e = infix_shape (bracketed (leb a.prec 4) a.text) (bytes "^") (bracketed (ltb b.prec 10) b.text)
pow_layout (a ∷ (b ∷ (c ∷ l))) e = absurd (omega arith)

-- ---- a function's call

module _ (k : ℕ) (h : 7 < k) where
  not_at : (n : ℕ) → n ≤ 7 → eqb k n ≡ false
  not_at n g = ne_eqb k n (λ e. omega arith)

  call_is : (parts : List Part) → operation_text k parts ≡ call k parts
  unfolding operation_text
  call_is parts = rw (not_at 2 (omega arith), not_at 3 (omega arith), not_at 4 (omega arith), not_at 5 (omega arith), not_at 6 (omega arith), not_at 7 (omega arith))

  pub opening_is : opening k ≡ printed_name k ++ bytes "("
  unfolding opening
  opening_is = rw (not_at 2 (omega arith), lt-leb k 7 h)

  pub closing_is : closing k ≡ bytes ")"
  unfolding closing
  closing_is = rw (lt-leb k 7 h)

  separator_is : separator k ≡ bytes ", "
  unfolding separator
  separator_is = rw (lt-leb k 6 (omega arith), not_at 7 (omega arith))

  no_left : (p : ℕ) → left_test k p ≡ false
  unfolding left_test
  no_left p = rw (not_at 2 (omega arith), lt-leb k 4 (omega arith), lt-leb k 6 (omega arith), not_at 7 (omega arith))

  no_right : (p : ℕ) → right_test k p ≡ false
  unfolding right_test
  no_right p = rw (not_at 3 (omega arith), not_at 4 (omega arith), not_at 5 (omega arith), not_at 6 (omega arith), not_at 7 (omega arith))

  pub first_is : (a : Part) → operand_text k 0 a ≡ a.text
  unfolding operand_text between brackets bracketed
  first_is a = rw (no_left a.prec)

  pub next_is : (i : ℕ) (a : Part) → operand_text k (suc i) a ≡ bytes ", " ++ a.text
  unfolding operand_text between brackets bracketed
  next_is i a = rw (ne_eqb (suc i) 0 (λ e. omega arith), no_right a.prec, separator_is)

  joined_is : (s : List ℕ) (i : ℕ) (l : List Part) → joined (bytes ", ") (s ∷ texts l) ≡ s ++ operands_text k (suc i) l
  unfolding joined texts operands_text
  joined_is s i [] = sym (append-nil s)
  joined_is s i (a ∷ l) =
      append_assoc s (bytes ", ") (joined (bytes ", ") (a.text ∷ texts l))
      ∙ ap (λ (r : List ℕ). s ++ r)
      (ap (λ (r : List ℕ). bytes ", " ++ r) (joined_is a.text (suc i) l)
      ∙ (sym (append_assoc (bytes ", ") a.text (operands_text k (suc (suc i)) l)) ∙ ap (λ (r : List ℕ). r ++ operands_text k (suc (suc i)) l) (sym (next_is i a))))

  operands_joined : (parts : List Part) → joined (bytes ", ") (texts parts) ≡ operands_text k 0 parts
  unfolding joined texts operands_text
  operands_joined [] = refl
  operands_joined (a ∷ l) = joined_is a.text 0 l ∙ ap (λ (r : List ℕ). r ++ operands_text k 1 l) (sym (first_is a))

  call_layout : (parts : List Part) → Layout k parts
  unfolding call
  call_layout parts =
      call_is parts
      ∙ (append_assoc (printed_name k ++ bytes "(") (joined (bytes ", ") (texts parts)) (bytes ")")
      ∙ ap₂ ◌++◌ (sym opening_is) (ap₂ ◌++◌ (operands_joined parts) (sym closing_is)))

-- ---- any kind

two : (k : ℕ) (parts : List Part) → Infix k → (kind_at k).fewest ≡ 2 → (kind_at k).most ≡ 2 → T (operands_ok k (length parts)) → Layout k parts
two k parts f p q t = f parts (arity k (length parts) 2 p q t)

pub operation_layout : (k : ℕ) (parts : List Part) → 1 < k → T (operands_ok k (length parts)) → operation_text k parts ≡ opening k ++ (operands_text k 0 parts ++ closing k)
unfolding kind_at kinds
operation_layout k parts h t = go (which k h)
  where
    at : (n : ℕ) → k ≡ n → (T (operands_ok n (length parts)) → Layout n parts) → Layout k parts
    at n e f = subst (λ (j : ℕ). Layout j parts) (sym e) (f (subst (λ (j : ℕ). T (operands_ok j (length parts))) e t))

    go : Which k → Layout k parts
    go (neg e) = at 2 e (λ u. neg_layout parts (arity 2 (length parts) 1 refl refl u))
    go (add e) = at 3 e (two 3 parts add_layout refl refl)
    go (sub e) = at 4 e (two 4 parts sub_layout refl refl)
    go (mul e) = at 5 e (two 5 parts mul_layout refl refl)
    go (div e) = at 6 e (two 6 parts div_layout refl refl)
    go (pow e) = at 7 e (two 7 parts pow_layout refl refl)
    go (past g) = call_layout k g parts

-- ---- one operand more

pub operands_more : (k i : ℕ) (l : List Part) (a : Part) → operands_text k i (l ++ (a ∷ [])) ≡ operands_text k i l ++ operand_text k (i + length l) a
unfolding operands_text
operands_more k i [] a = append-nil (operand_text k i a) ∙ ap (λ (n : ℕ). operand_text k n a) (let e : i ≡ i + 0 = omega arith in e)
operands_more k i (b ∷ l) a =
    let e : suc i + length l ≡ i + suc (length l) = omega arith in
    ap (λ (r : List ℕ). operand_text k i b ++ r) (operands_more k (suc i) l a ∙ ap (λ (n : ℕ). operands_text k (suc i) l ++ operand_text k n a) e)
    ∙ sym (append_assoc (operand_text k i b) (operands_text k (suc i) l) (operand_text k (i + suc (length l)) a))

pub no_operands : (k : ℕ) → operands_text k 0 [] ≡ []
unfolding operands_text
no_operands k = refl
