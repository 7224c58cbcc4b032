-- `1 / d` written to the front of an area: two words, then those of d, and the rest as it was. Assumes nothing.
use Prim.Native.Nat.{ℕ, suc, ◌+◌, ◌-◌, ◌≤◌}
use native.Mathlib.Omega.{arith}
use mathlib.Core.Path.{◌≡◌, sym, ◌∙◌, ap}
use mathlib.Core.Bool.{cond}
use mathlib.Core.Option.{Option, none, some}
use mathlib.Core.List.{List, [], ◌∷◌, ◌++◌}
use lib.ListN.{length, take, drop, set, length-set, length-drop}
use lib.Dec.{leb}
use lib.Seq.{length-take-le}
use borrow.Rule.Slice.PartMut.{put_mid}
use Rattle.spec_tree.specs.Tokens.{takes, trees_in}
use Rattle.reciprocals.specs.reciprocal.Bindings.{one_over}
use Rattle.spec_tree.proofs.Lists.{rest_is, rest_back}

-- ---- a part lent on: what the callee is handed, and what the whole is when it comes back

-- two words written, the rest lent on, and what comes back
abbrev begun : List ℕ → ℕ → ℕ → List ℕ
begun old v w = set (set old 0 v) 1 w

abbrev lent : List ℕ → ℕ → ℕ → List ℕ
lent old v w = take (length (begun old v w) - 2) (drop 2 (begun old v w))

abbrev ended : List ℕ → ℕ → ℕ → List ℕ → List ℕ
ended old v w x = put_mid 2 (length (begun old v w) - 2) (begun old v w) x

lent_is : (old : List ℕ) (v w : ℕ) → 2 ≤ length old → lent old v w ≡ drop 2 old
lent_is [] v w h = absurd (omega arith)
lent_is (a ∷ []) v w h = absurd (omega arith)
lent_is (a ∷ (b ∷ l)) v w h = rest_is (v ∷ (w ∷ l)) 2

ended_is : (old : List ℕ) (v w : ℕ) (x : List ℕ) → 2 ≤ length old → ended old v w x ≡ v ∷ (w ∷ x)
ended_is [] v w x h = absurd (omega arith)
ended_is (a ∷ []) v w x h = absurd (omega arith)
ended_is (a ∷ (b ∷ l)) v w x h = rest_back (v ∷ (w ∷ l)) x 2

after_two : (n : ℕ) (old : List ℕ) → 2 ≤ length old → drop n (drop 2 old) ≡ drop (2 + n) old
after_two n [] h = absurd (omega arith)
after_two n (a ∷ []) h = absurd (omega arith)
after_two n (a ∷ (b ∷ l)) h =
    let i : 2 + n ≡ suc (suc n) = omega arith in
    sym (ap (λ (k : ℕ). drop k (a ∷ (b ∷ l))) i)

module _ (base old : List ℕ) (place end : ℕ) (after : place ≤ end) (within : end ≤ length base) (room : 2 + (end - place) ≤ length old) where
  abbrev part : List ℕ
  part = take (end - place) (drop place base)

  part_long : length part ≡ end - place
  part_long = length-take-le (end - place) (drop place base) (omega (arith, length-drop place base, after, within))

  -- whatever the two words are, there is room
  pub one_begun : (v : ℕ) → 2 ≤ length (set old 0 v)
  one_begun v = omega (arith, length-set old 0 v, room)

  module _ (v w : ℕ) where
    pub two_begun : 2 ≤ length (begun old v w)
    two_begun = omega (arith, length-set (set old 0 v) 1 w, one_begun v)

    lent_long : length (lent old v w) ≡ length old - 2
    lent_long = ap length (lent_is old v w (omega (arith, room))) ∙ length-drop 2 old

    pub part_fits : length part ≤ length (lent old v w)
    part_fits = omega (arith, part_long, lent_long, room)

    pub ended_long : (x : List ℕ) → length x ≡ length (lent old v w) → length (ended old v w x) ≡ length old
    ended_long x e = ap length (ended_is old v w x (omega (arith, room))) ∙ omega (arith, e, lent_long, room)

  pub quotient_written :
      (x : List ℕ) → x ≡ part ++ drop (length part) (lent old 134 129) → ended old 134 129 x ≡ one_over base place (end - place) ++ drop (2 + (end - place)) old
  unfolding one_over
  quotient_written x e =
      ended_is old 134 129 x (omega (arith, room))
      ∙ ap (λ (l : List ℕ). 134 ∷ (129 ∷ l))
      (e
      ∙ (ap (λ (l : List ℕ). part ++ drop (length part) l) (lent_is old 134 129 (omega (arith, room)))
      ∙ (ap (λ (k : ℕ). part ++ drop k (drop 2 old)) part_long ∙ ap (λ (l : List ℕ). part ++ l) (after_two (end - place) old (omega (arith, room))))))

-- ---- one tree

two_words : (d : List ℕ) → trees_in d ≡ some 1 → trees_in (134 ∷ (129 ∷ d)) ≡ some 1
unfolding trees_in takes
two_words d e =
    ap (λ (o : Option ℕ). elim (elim o as (λ _. Option ℕ) [ none ↦ none | some n ↦ cond (leb (takes 129) n) (some (suc (n - takes 129))) none ]) as (λ _. Option ℕ) [ none ↦ none | some n ↦ cond (leb (takes 134) n) (some (suc (n - takes 134))) none ]) e

pub one_tree_over : (base : List ℕ) (place n : ℕ) → trees_in (take n (drop place base)) ≡ some 1 → trees_in (one_over base place n) ≡ some 1
unfolding one_over
one_tree_over base place n e = two_words (take n (drop place base)) e

pub one_over_long : (base : List ℕ) (place n : ℕ) → n ≤ length (drop place base) → length (one_over base place n) ≡ 2 + n
unfolding one_over
one_over_long base place n h = omega (arith, length-take-le n (drop place base) h)
