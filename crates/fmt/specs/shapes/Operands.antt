-- An operation's text as what stands before its operands, between two of them and after them, with each operand's test for brackets by its place
-- (`infix-text`, `neg-text` and `call` of Text, in one form). Assumes nothing.
use Rattle.std.specs.Prelude.{ℕ, suc, Bool, false, ◌||◌, cond, List, [], ◌∷◌, ◌++◌, eqb, leb, ltb}
use Rattle.spec_tree.specs.Bytes.{bytes}
use Rattle.spec_tree.specs.Kinds.{printed_name, Neg, Add, Sub, Mul, Div, Pow}
use Rattle.spec_tree.specs.text.Text.{Part, bracketed}

-- what stands before the operands
unfoldable pub opening : ℕ → List ℕ
opening k = cond (eqb k Neg) (bytes "-") (cond (leb k Pow) [] (printed_name k ++ bytes "("))

-- an operator's sign, as far as Div
unfoldable pub sign : ℕ → ℕ
sign k = cond (eqb k Add) 43 (cond (eqb k Sub) 45 (cond (eqb k Mul) 42 47))

-- what stands between two of them
unfoldable pub separator : ℕ → List ℕ
unfolding sign
separator k = cond (leb k Div) (32 ∷ sign k ∷ 32 ∷ []) (cond (eqb k Pow) (bytes "^") (bytes ", "))

-- what stands after them
unfoldable pub closing : ℕ → List ℕ
closing k = cond (leb k Pow) [] (bytes ")")

-- whether the first operand of kind k has brackets, by its precedence
unfoldable pub left_test : ℕ → ℕ → Bool
left_test k p =
    cond (eqb k Neg) (eqb p 1 || eqb p 3)
    (cond (leb k Sub) (ltb p 1)
    (cond (leb k Div) (ltb p 2)
    (cond (eqb k Pow) (leb p 4) false)))

-- and any other
unfoldable pub right_test : ℕ → ℕ → Bool
right_test k p =
    cond (eqb k Add) (ltb p 1)
    (cond (eqb k Sub) (leb p 1)
    (cond (eqb k Mul) (ltb p 2)
    (cond (eqb k Div) (leb p 2)
    (cond (eqb k Pow) (ltb p 10) false))))

-- whether operand i has brackets
unfoldable pub brackets : ℕ → ℕ → ℕ → Bool
unfolding left_test right_test
brackets k i p = cond (eqb i 0) (left_test k p) (right_test k p)

-- what stands before operand i
unfoldable pub between : ℕ → ℕ → List ℕ
unfolding separator
between k i = cond (eqb i 0) [] (separator k)

-- operand i with what stands before it
unfoldable pub operand_text : ℕ → ℕ → Part → List ℕ
unfolding between brackets bracketed
operand_text k i a = between k i ++ bracketed (brackets k i a.prec) a.text

-- the operands from number i on
unfoldable pub operands_text : ℕ → ℕ → List Part → List ℕ
unfolding operand_text
operands_text k i [] = []
operands_text k i (a ∷ l) = operand_text k i a ++ operands_text k (suc i) l
