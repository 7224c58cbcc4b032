-- What an operation's text has besides its operands' texts: at most 30 bytes, and two for each operand. Assumes nothing.
use Prim.Native.Nat.{ℕ, zero, suc, ◌+◌, ◌*◌, ◌≤◌, ◌<◌}
use native.Mathlib.Omega.{arith}
use mathlib.Core.Path.{◌≡◌, sym, ap, subst}
use mathlib.Core.Bool.{Bool, true, false, ◌&&◌, cond}
use mathlib.Core.List.{List, [], ◌∷◌, ◌++◌}
use borrow.Author.Tests.{le-leb}
use lib.Dec.{T, eqb, leb, leb→le}
use lib.ListN.{length, get_or, length-append}
use Rattle.spec_tree.specs.Bytes.{bytes}
use Rattle.spec_tree.specs.Kinds.{Kind, kinds, kind_at, printed_name, arity_ok, Neg, Div, Pow}
use Rattle.spec_tree.specs.Passes.{operands_ok}
use Rattle.spec_tree.proofs.Logic.{and_left, and_right}
use Rattle.spec_tree.specs.text.Text.{Part, bracketed, operation_text}
use Rattle.fmt.specs.shapes.Operands.{opening, sign, separator, closing, brackets, between, operand_text, operands_text}
use Rattle.fmt.proofs.shapes.OperandLaws.{Which, neg, add, sub, mul, div, pow, past, which, opening_is, closing_is, first_is, next_is, operation_layout}

-- the bytes of the operands' texts
unfoldable pub lengths : List Part → ℕ
lengths [] = 0
lengths (a ∷ l) = length a.text + lengths l

-- ---- one operand

cond_short : (n : ℕ) (b : Bool) (x y : List ℕ) → length x ≤ n → length y ≤ n → length (cond b x y) ≤ n
cond_short n true x y h g = h
cond_short n false x y h g = g

separator_short : (k : ℕ) → length (separator k) ≤ 3
unfolding separator
separator_short k =
    cond_short 3 (leb k Div) (32 ∷ sign k ∷ 32 ∷ []) _ (omega arith) (cond_short 3 (eqb k Pow) (bytes "^") (bytes ", ") (omega arith) (omega arith))

between_short : (k i : ℕ) → length (between k i) ≤ 3
unfolding between
between_short k i = cond_short 3 (eqb i 0) [] (separator k) (omega arith) (separator_short k)

bracketed_short : (b : Bool) (s : List ℕ) → length (bracketed b s) ≤ 2 + length s
unfolding bracketed
bracketed_short true s = omega (arith, length-append s (41 ∷ []))
bracketed_short false s = omega arith

infix_operand : (k i : ℕ) (a : Part) → length (operand_text k i a) ≤ 5 + length a.text
unfolding operand_text
infix_operand k i a =
    omega (arith, length-append (between k i) (bracketed (brackets k i a.prec) a.text), between_short k i, bracketed_short (brackets k i a.prec) a.text)

call_operand : (k i : ℕ) (a : Part) → 7 < k → length (operand_text k i a) ≤ 2 + length a.text
call_operand k zero a h = omega (arith, ap length (first_is k h a))
call_operand k (suc i) a h = omega (arith, ap length (next_is k h i a))

-- ---- all of them

operands_short : (c k i : ℕ) (l : List Part) → ((i : ℕ) (a : Part) → length (operand_text k i a) ≤ c + length a.text) → length (operands_text k i l) ≤ c * length l + lengths l
unfolding operands_text lengths
operands_short c k i [] h = omega arith
operands_short c k i (a ∷ l) h =
    let e : c * suc (length l) ≡ c + c * length l = mul_suc c (length l) in
    omega (arith, length-append (operand_text k i a) (operands_text k (suc i) l), h i a, operands_short c k (suc i) l h, e)
  where
    mul_suc : (c n : ℕ) → c * suc n ≡ c + c * n
    mul_suc c n = omega arith

-- ---- what stands round them

abbrev short_names : List Kind → Bool
short_names [] = true
short_names (k ∷ l) = leb (length k.printed) 9 && short_names l

named_short : (l : List Kind) (n : ℕ) (d : Kind) → T (short_names l) → length d.printed ≤ 9 → length (get_or l n d).printed ≤ 9
named_short [] n d t h = h
named_short (k ∷ l) zero d t h = leb→le (length k.printed) 9 (and_left (leb (length k.printed) 9) (short_names l) t)
named_short (k ∷ l) (suc n) d t h = named_short l n d (and_right (leb (length k.printed) 9) (short_names l) t) h

printed_short : (k : ℕ) → length (printed_name k) ≤ 9
unfolding printed_name kind_at kinds
printed_short k = named_short kinds k (kind_at 29) tt (omega arith)

call_opening : (k : ℕ) → 7 < k → length (opening k) ≤ 10
call_opening k h = omega (arith, ap length (opening_is k h), length-append (printed_name k) (bytes "("), printed_short k)

infix_opening : (k : ℕ) → k ≤ 7 → length (opening k) ≤ 1
unfolding opening
infix_opening k h = rw (le-leb k 7 h) (cond_short 1 (eqb k Neg) (bytes "-") [] (omega arith) (omega arith))

infix_closing : (k : ℕ) → k ≤ 7 → length (closing k) ≡ 0
unfolding closing
infix_closing k h = rw (le-leb k 7 h)

most : (k n : ℕ) → T (operands_ok k n) → n ≤ (kind_at k).most
unfolding operands_ok arity_ok
most k n t =
    let a = leb (kind_at k).fewest n in
    let b = leb n (kind_at k).most in
    leb→le n (kind_at k).most (and_right a b (and_right (leb Neg k) (a && b) t))

pub not_leaf : (k n : ℕ) → T (operands_ok k n) → 1 < k
unfolding operands_ok
not_leaf k n t = let h = leb→le Neg k (and_left (leb Neg k) (arity_ok k n) t) in omega arith

-- ---- an operation

laid : (k : ℕ) (parts : List Part) → T (operands_ok k (length parts)) → length (operation_text k parts) ≡ length (opening k) + (length (operands_text k 0 parts) + length (closing k))
laid k parts t =
    omega (arith, ap length (operation_layout k parts (not_leaf k (length parts) t) t), length-append (opening k) (operands_text k 0 parts ++ closing k), length-append (operands_text k 0 parts) (closing k))

call_short : (k : ℕ) (parts : List Part) → 7 < k → T (operands_ok k (length parts)) → length (operation_text k parts) ≤ 30 + (2 * length parts + lengths parts)
call_short k parts h t =
    omega (arith, laid k parts t, call_opening k h, operands_short 2 k 0 parts (λ i a. call_operand k i a h), ap length (closing_is k h))

infix_short : (k : ℕ) (parts : List Part) → k ≤ 7 → (kind_at k).most ≤ 2 → T (operands_ok k (length parts)) → length (operation_text k parts) ≤ 30 + (2 * length parts + lengths parts)
infix_short k parts h g t =
    omega (arith, laid k parts t, infix_opening k h, operands_short 5 k 0 parts (λ i a. infix_operand k i a), infix_closing k h, most k (length parts) t)

pub operation_short : (k : ℕ) (parts : List Part) → T (operands_ok k (length parts)) → length (operation_text k parts) ≤ 30 + (2 * length parts + lengths parts)
unfolding kind_at kinds
operation_short k parts t = go (which k (not_leaf k (length parts) t))
  where
    at : (n : ℕ) → k ≡ n → n ≤ 7 → (kind_at n).most ≤ 2 → length (operation_text k parts) ≤ 30 + (2 * length parts + lengths parts)
    at n e h g = infix_short k parts (omega arith) (subst (λ (j : ℕ). (kind_at j).most ≤ 2) (sym e) g) t

    go : Which k → length (operation_text k parts) ≤ 30 + (2 * length parts + lengths parts)
    go (neg e) = at 2 e (omega arith) (omega arith)
    go (add e) = at 3 e (omega arith) (omega arith)
    go (sub e) = at 4 e (omega arith) (omega arith)
    go (mul e) = at 5 e (omega arith) (omega arith)
    go (div e) = at 6 e (omega arith) (omega arith)
    go (pow e) = at 7 e (omega arith) (omega arith)
    go (past g) = call_short k parts g t
