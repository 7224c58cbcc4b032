-- The text of an expression, `Display` for `Expr`, and the order of texts (01, "Text"). Assumes nothing.
use Rattle.std.specs.Prelude.{ℕ, Bool, true, false, ◌||◌, cond, List, [], ◌∷◌, ◌++◌, eqb, leb, ltb}
use Prim.Native.String.{String}
use Rattle.spec_tree.specs.Bytes.{bytes, decimal, integer, joined}
use Rattle.spec_tree.specs.Tree.{Name, input, xname, mname, Tree, fold}
use Rattle.spec_tree.specs.Kinds.{printed_name, Neg, Add, Sub, Mul, Div, Pow}

-- ---- names

unfoldable pub name_text : Name → List ℕ
unfolding decimal
name_text (input s) = s
name_text (xname n) = bytes "__x" ++ decimal n
name_text (mname n) = bytes "__m" ++ decimal n

-- ---- expressions

unfoldable pub precedence : ℕ → ℕ
precedence k =
    cond (ltb k Neg) 10
    (cond (eqb k Neg) 3
    (cond (leb k Sub) 1
    (cond (leb k Div) 2
    (cond (eqb k Pow) 4 10))))

-- a part's text with the precedence of its kind
abbrev pub Part : Type 0
Part = record { prec : ℕ; text : List ℕ }

unfoldable pub bracketed : Bool → List ℕ → List ℕ
bracketed true s = bytes "(" ++ s ++ bytes ")"
bracketed false s = s

unfoldable pub texts : List Part → List (List ℕ)
texts [] = []
texts (p ∷ l) = p.text ∷ texts l

-- a function's name and its operands in brackets
unfoldable pub call : ℕ → List Part → List ℕ
unfolding printed_name joined texts
call k parts = printed_name k ++ bytes "(" ++ joined (bytes ", ") (texts parts) ++ bytes ")"

-- a binary operator with each side's test for brackets
unfoldable pub infix_text : String → (ℕ → Bool) → (ℕ → Bool) → List Part → List ℕ
unfolding bracketed
infix_text s left right [] = []
infix_text s left right (a ∷ []) = []
infix_text s left right (a ∷ (b ∷ l)) = bracketed (left a.prec) a.text ++ bytes s ++ bracketed (right b.prec) b.text

-- minus puts brackets round an Add, a Sub and a Neg only
unfoldable pub neg_text : List Part → List ℕ
unfolding bracketed
neg_text [] = []
neg_text (a ∷ l) = 45 ∷ bracketed (eqb a.prec 1 || eqb a.prec 3) a.text

unfoldable pub operation_text : ℕ → List Part → List ℕ
unfolding call infix_text neg_text
operation_text k parts =
    cond (eqb k Neg) (neg_text parts)
    (cond (eqb k Add) (infix_text " + " (λ p. ltb p 1) (λ p. ltb p 1) parts)
    (cond (eqb k Sub) (infix_text " - " (λ p. ltb p 1) (λ p. leb p 1) parts)
    (cond (eqb k Mul) (infix_text " * " (λ p. ltb p 2) (λ p. ltb p 2) parts)
    (cond (eqb k Div) (infix_text " / " (λ p. ltb p 2) (λ p. leb p 2) parts)
    (cond (eqb k Pow) (infix_text "^" (λ p. leb p 4) (λ p. ltb p 10) parts)
    (call k parts))))))

unfoldable pub part : Tree → Part
unfolding fold name_text integer precedence operation_text
part =
    fold (λ n. record { prec = 10; text = name_text n })
    (λ c. record { prec = 10; text = integer c })
    (λ k parts. record { prec = precedence k; text = operation_text k parts })

unfoldable pub display : Tree → List ℕ
unfolding part
display e = (part e).text

-- ---- order, by bytes, a proper prefix first

-- s comes before t
unfoldable pub before : List ℕ → List ℕ → Bool
before [] [] = false
before [] (b ∷ t) = true
before (a ∷ s) [] = false
before (a ∷ s) (b ∷ t) = elim (eqb a b) [ true ↦ before s t | false ↦ ltb a b ]

-- the later of two texts, the first if equal
unfoldable pub later : List ℕ → List ℕ → List ℕ
unfolding before
later s t = cond (before s t) t s
