-- Factors taken out of a list that goes on, and what is left of one. Assumes nothing.
use Rattle.std.proofs.Common.{◌≡◌, ℕ, zero, suc, ◌+◌, ◌*◌, ◌≤◌, Bool, true, false, List, [], ◌∷◌, ◌++◌, length, refl, ap, ◌∙◌, arith}
use mathlib.Core.Option.{Option, none, some}
use Rattle.spec_tree.specs.Tree.{Name, Tree, Sym, eq_tree}
use Rattle.spec_tree.specs.Facts.{count}
use Rattle.spec_rewrite.specs.Rewrite.{remove_first, remove_each}
use Rattle.spec_rewrite.proofs.Measure.{length_sum, count_sum, one_of}
use Rattle.replace.specs.closed.Closed.{Taken, once_more, take_out, taken}
use Rattle.spec_rewrite.proofs.Factors.{All, puts_all, puts_sum, puts_from}

-- ---- a list that goes on

abbrev found : Tree → Option (List Tree) → Option (List Tree)
found f o = elim o [ none ↦ none | some r ↦ some (f ∷ r) ]

abbrev then_each : List Tree → Option (List Tree) → Option (List Tree)
then_each ts o = elim o [ none ↦ none | some r ↦ remove_each ts r ]

first_more : (t : Tree) (a b r : List Tree) → remove_first t a ≡ some r → remove_first t (a ++ b) ≡ some (r ++ b)
unfolding remove_first
first_more t [] b r e = (let z : ◌≡◌ {A = ℕ} 0 1 = cc in absurd (omega arith))
first_more t (f ∷ a) b r e = go (eq_tree f t) (remove_first t a) (remove_first t (a ++ b)) (λ s. first_more t a b s) e
  where
    go : (d : Bool) (o p : Option (List Tree)) → ((s : List Tree) → o ≡ some s → p ≡ some (s ++ b))
        → elim d as (λ _. Option (List Tree)) [ true ↦ some a | false ↦ found f o ] ≡ some r
        → elim d as (λ _. Option (List Tree)) [ true ↦ some (a ++ b) | false ↦ found f p ] ≡ some (r ++ b)
    go true o p h e = (let q : a ≡ r = cc in ap (λ (s : List Tree). some (s ++ b)) q)
    go false none p h e = (let z : ◌≡◌ {A = ℕ} 0 1 = cc in absurd (omega arith))
    go false (some s) p h e = (let q : f ∷ s ≡ r = cc in ap (found f) (h s refl) ∙ ap (λ (s : List Tree). some (s ++ b)) q)

-- what is there is there in a longer list
each_more : (ts a b r : List Tree) → remove_each ts a ≡ some r → remove_each ts (a ++ b) ≡ some (r ++ b)
unfolding remove_each
each_more [] a b r e = (let q : a ≡ r = cc in ap (λ (s : List Tree). some (s ++ b)) q)
each_more (t ∷ ts) a b r e = go (λ s. each_more ts s b r) (remove_first t a) refl e
  where
    go : ((s : List Tree) → remove_each ts s ≡ some r → remove_each ts (s ++ b) ≡ some (r ++ b)) → (o : Option (List Tree)) → remove_first t a ≡ o
        → then_each ts o ≡ some r → then_each ts (remove_first t (a ++ b)) ≡ some (r ++ b)
    go h none q e = (let z : ◌≡◌ {A = ℕ} 0 1 = cc in absurd (omega arith))
    go h (some s) q e = ap (then_each ts) (first_more t a b s q) ∙ h s e

pub none_before : (ts a b : List Tree) → remove_each ts (a ++ b) ≡ none → remove_each ts a ≡ none
none_before ts a b e = go (remove_each ts a) refl
  where
    go : (o : Option (List Tree)) → remove_each ts a ≡ o → o ≡ none
    go none q = refl
    go (some r) q = (let u = each_more ts a b r q in let z : ◌≡◌ {A = ℕ} 0 1 = cc in absurd (omega arith))

-- ---- what is left

pub rest_of : (P : Tree → Type 0) (ts l r : List Tree) → remove_each ts l ≡ some r → (All P l → All P r) × (length r + length ts ≡ length l)
rest_of P ts l r e =
    let h = puts_from ts l r e in (
      puts_all P h,
      let a = puts_sum (λ t. 1) h in let b = length_sum l in let c = length_sum ts in let d = length_sum r in omega arith,
    )

-- how often an expression is there
pub count_of_rest : (x : Tree) (ts l r : List Tree) → remove_each ts l ≡ some r → count x l ≡ count x ts + count x r
count_of_rest x ts l r e =
    (let a = puts_sum (λ y. one_of y x) (puts_from ts l r e) in let b = count_sum x l in let c = count_sum x ts in let d = count_sum x r in omega arith)

-- what was never taken out isn't there
pub never_there : (n : Name) (ts l : List Tree) → 1 ≤ length ts → (taken n ts l).times ≡ 0 → remove_each ts l ≡ none
unfolding taken
never_there n ts l some_factor e = by l (2 * length l) (λ h. omega arith) e
  where
    none_left : (ts : List Tree) → 1 ≤ length ts → remove_each ts [] ≡ none
    none_left [] h = absurd (omega arith)
    none_left (t ∷ ts) h = (unfold remove_each remove_first in refl)

    by : (l : List Tree) (most : ℕ) → (1 ≤ length l → 1 ≤ most) → (take_out most n ts l).times ≡ 0 → remove_each ts l ≡ none
    by [] most h e = none_left ts some_factor
    by (t ∷ l) zero h e = (let x = h (omega arith) in absurd (omega arith))
    by (t ∷ l) (suc most) h e = (unfold take_out in go (remove_each ts (t ∷ l)) (λ r. take_out most n ts r) e)
      where
        go : (o : Option (List Tree)) (again : List Tree → Taken)
            → (elim o as (λ _. Taken) [ none ↦ record { factors = t ∷ l; times = 0 } | some r ↦ once_more (again (r ++ (Sym n ∷ []))) ]).times ≡ 0 → o ≡ none
        go none again e = refl
        go (some r) again e = (unfold once_more in absurd (omega arith))
