-- `replace` in closed form: a product is rebuilt once, with its coefficient and the factors that there are after the target's were taken out, and the name put
-- in, as often as they were there, each rewritten by itself (01, "Rewriting"). By recursion on trees alone. Assumes nothing.
use Rattle.std.specs.Prelude.{ℕ, zero, suc, ◌*◌, Bool, true, false, ◌&&◌, List, [], ◌∷◌, ◌++◌, length, ◌==◌, Float}
use Rattle.std.proofs.Math.Option.{none, some}
use Rattle.std.specs.Float.Ieee as Ieee
use Rattle.spec_tree.specs.Outcome.{Outcome, ok, ◌>>=◌, each}
use Rattle.spec_tree.specs.Tree.{Name, Tree, Forest, Sym, Const, Op, nil, ◌◂◌, eq_tree}
use Rattle.spec_tree.specs.Kinds.{Neg, Mul}
use Rattle.spec_rewrite.specs.Rewrite.{one, flatten_mul_factors, flatten_operands, constant_of, built, remove_each, is_mul}

-- ---- factors taken out again and again, and the name put in at the end each time

-- the factors then, and how often all were there
abbrev pub Taken : Type 0
Taken = record { factors : List Tree; times : ℕ }

unfoldable pub once_more : Taken → Taken
once_more q = record { factors = q.factors; times = suc q.times }

-- at most so often
unfoldable pub take_out : ℕ → Name → List Tree → List Tree → Taken
unfolding remove_each once_more
take_out zero n ts l = record { factors = l; times = 0 }
take_out (suc most) n ts l =
    elim (remove_each ts l) [ none ↦ record { factors = l; times = 0 } | some r ↦ once_more (take_out most n ts (r ++ (Sym n ∷ []))) ]

-- Twice as often as there are factors, which is enough: each time there is a factor less, or one that isn't the name.
unfoldable pub taken : Name → List Tree → List Tree → Taken
unfolding take_out
taken n ts l = take_out (2 * length l) n ts l

-- a target that is matched by its factors
unfoldable pub by_factors : Tree → Bool
unfolding flatten_mul_factors is_mul one Ieee.eq
by_factors target = is_mul target && Ieee.eq (flatten_mul_factors target).coefficient one

-- no factor, or the name alone
unfoldable pub lone : Name → List Tree → Bool
unfolding eq_tree
lone n [] = true
lone n (t ∷ []) = eq_tree t (Sym n)
lone n (t ∷ (u ∷ l)) = false

-- a product of which nothing but the name would be taken out, and the name put in again, for ever
unfoldable pub endless : Tree → Name → Bool
unfolding by_factors lone flatten_mul_factors
endless target n = by_factors target && lone n (flatten_mul_factors target).factors

-- ---- the closed form

-- a factor beside its rewriting
abbrev pub Rewriting : Type 0
Rewriting = record { factor : Tree; becomes : Outcome Tree }

-- what a factor becomes; the name, where it isn't among them, stays
unfoldable pub becomes_in : List Rewriting → Tree → Outcome Tree
unfolding eq_tree
becomes_in [] t = ok t
becomes_in (p ∷ l) t = elim (eq_tree p.factor t) [ true ↦ p.becomes | false ↦ becomes_in l t ]

-- A product by its coefficient and its factors after the target was taken out so often; what it is otherwise, if it never was. g rewrites a factor.
unfoldable pub rebuilt : (Tree → Outcome Tree) → Float → List Tree → ℕ → Outcome Tree → Outcome Tree
unfolding constant_of built each
rebuilt g x factors zero otherwise = otherwise
rebuilt g x factors (suc k) otherwise = constant_of x >>= λ c. each g factors >>= λ l. ok (built c l)

module _ (target : Tree) (n : Name) where
  unfoldable mutual
    unfolding eq_tree taken by_factors becomes_in rebuilt flatten_mul_factors

    pub closed : Tree → Outcome Tree
    closed (Sym s) = elim (eq_tree (Sym s) target) [ true ↦ ok (Sym n) | false ↦ ok (Sym s) ]
    closed (Const c) = elim (eq_tree (Const c) target) [ true ↦ ok (Sym n) | false ↦ ok (Const c) ]
    closed (Op k f) =
        elim (eq_tree (Op k f) target) [
          | true ↦ ok (Sym n)
          | false ↦ elim (k == Mul && by_factors target) [
            | true ↦ (let q = taken n (flatten_mul_factors target).factors (flatten_operands f).factors in
                rebuilt (becomes_in (rewritings_of f)) (flatten_operands f).coefficient q.factors q.times (closed_each f >>= λ g. ok (Op k g)))
            | false ↦ (closed_each f >>= λ g. ok (Op k g))
          ]
        ]

    pub closed_each : Forest → Outcome Forest
    closed_each nil = ok nil
    closed_each (t ◂ f) = closed t >>= λ u. closed_each f >>= λ r. ok (u ◂ r)

    -- each factor with its rewriting
    pub rewritings : Tree → List Rewriting
    rewritings (Sym s) = record { factor = Sym s; becomes = elim (eq_tree (Sym s) target) [ true ↦ ok (Sym n) | false ↦ ok (Sym s) ] } ∷ []
    rewritings (Const c) = []
    rewritings (Op k f) =
        elim (k == Mul) [
          | true ↦ rewritings_of f
          | false ↦ elim (k == Neg) [
            | true ↦ rewritings_of f
            | false ↦ record {
              factor = Op k f;
              becomes = elim (eq_tree (Op k f) target) [ true ↦ ok (Sym n) | false ↦ (closed_each f >>= λ g. ok (Op k g)) ];
            }
                ∷ []
          ]
        ]

    pub rewritings_of : Forest → List Rewriting
    rewritings_of nil = []
    rewritings_of (t ◂ f) = rewritings t ++ rewritings_of f
