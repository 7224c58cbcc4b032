-- How deep arms nest, as a level. Assumes nothing.
use Prim.Native.Nat.{ℕ, suc, max, ◌≤◌}
use mathlib.Core.Path.{◌≡◌, refl}
use mathlib.Core.Bool.{Bool, true, false, cond}
use mathlib.Core.List.{List, [], ◌∷◌}
use native.Mathlib.Omega.{arith}
use Rattle.spec_tree.specs.Tree.{Tree}
use Rattle.spec_tree.specs.Kinds.{is_switch}
use Rattle.spec_tree.specs.Facts.{greatest, first_or_deeper, nesting}
use Rattle.laws.proofs.cse.Levels.{Lower, Most, Level, μ}

-- ---- the greatest of some numbers

pub greatest_mono : (ls ms : List ℕ) → Lower ls ms → greatest ls ≤ greatest ms
unfolding greatest
greatest_mono [] [] h = omega arith
greatest_mono [] (m ∷ ms) h = absurd h
greatest_mono (l ∷ ls) [] h = absurd h
greatest_mono (l ∷ ls) (m ∷ ms) h = (let a = h.0 in let b = greatest_mono ls ms h.1 in omega arith)

pub most_greatest : (N : ℕ) (ls : List ℕ) → Most N ls → greatest ls ≤ N
unfolding greatest
most_greatest N [] h = omega arith
most_greatest N (l ∷ ls) h = (let a = h.0 in let b = most_greatest N ls h.1 in omega arith)

pub greatest_most : (N : ℕ) (ls : List ℕ) → greatest ls ≤ N → Most N ls
unfolding greatest
greatest_most N [] h = tt
greatest_most N (l ∷ ls) h = (omega arith, greatest_most N ls (omega arith))

-- ---- nesting

abbrev pub nesting_op : ℕ → List ℕ → ℕ
nesting_op k ls = cond (is_switch k) (first_or_deeper ls) (greatest ls)

deeper_mono : (ls ms : List ℕ) → Lower ls ms → first_or_deeper ls ≤ first_or_deeper ms
unfolding first_or_deeper
deeper_mono [] [] h = omega arith
deeper_mono [] (m ∷ ms) h = absurd h
deeper_mono (l ∷ ls) [] h = absurd h
deeper_mono (l ∷ []) (m ∷ []) h = h.0
deeper_mono (l ∷ []) (m ∷ (n ∷ ms)) h = absurd h.1
deeper_mono (l ∷ (k ∷ ls)) (m ∷ []) h = absurd h.1
deeper_mono (l ∷ (k ∷ ls)) (m ∷ (n ∷ ms)) h = (let a = h.0 in let b = greatest_mono (k ∷ ls) (n ∷ ms) h.1 in omega arith)

deeper_most : (ls : List ℕ) → Most (first_or_deeper ls) ls
unfolding first_or_deeper
deeper_most [] = tt
deeper_most (l ∷ []) = (omega arith, tt)
deeper_most (l ∷ (k ∷ ls)) = (omega arith, greatest_most (max l (suc (greatest (k ∷ ls)))) (k ∷ ls) (omega arith))

pub nesting_level : Level nesting_op
nesting_level =
    record {
      mono = λ k ls ms h. mono (is_switch k) ls ms h;
      parts = λ k ls. parts (is_switch k) ls;
      product = λ a b N g h. (unfold greatest in omega arith);
      negation = λ a N h. (unfold greatest in omega arith);
    }
  where
    mono : (b : Bool) (ls ms : List ℕ) → Lower ls ms → cond b (first_or_deeper ls) (greatest ls) ≤ cond b (first_or_deeper ms) (greatest ms)
    mono true ls ms h = deeper_mono ls ms h
    mono false ls ms h = greatest_mono ls ms h

    parts : (b : Bool) (ls : List ℕ) → Most (cond b (first_or_deeper ls) (greatest ls)) ls
    parts true ls = deeper_most ls
    parts false ls = greatest_most (greatest ls) ls (omega arith)

pub nesting_is : (t : Tree) → nesting t ≡ μ nesting_op nesting_level t
unfolding nesting
nesting_is t = refl

-- an arm is one level further in
pub arms_deeper : (N n : ℕ) (ls : List ℕ) → first_or_deeper (n ∷ ls) ≤ N → (m : ℕ) → suc m ≡ N → Most m ls
unfolding first_or_deeper
arms_deeper N n [] h m e = tt
arms_deeper N n (k ∷ ls) h m e = greatest_most m (k ∷ ls) (omega arith)
