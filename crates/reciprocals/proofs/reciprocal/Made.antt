-- Where a tree stands at each place, the words of the reciprocal of number j are those of element j of the settled reciprocals, at most two more than the
-- divisor's (01, "Reciprocals"). Assumes nothing.
use Prim.Native.Nat.{ℕ, zero, suc, ◌+◌, ◌≤◌, ◌<◌}
use native.Mathlib.Omega.{arith}
use mathlib.Core.Path.{◌≡◌, refl, sym, ◌∙◌, ap, subst}
use mathlib.Core.Option.{Option, some}
use mathlib.Core.List.{List, [], ◌∷◌, ◌++◌, map}
use lib.ListN.{length, get_or, take, drop}
use lib.Seq.{drop-cons, take-suc}
use Rattle.spec_tree.specs.Facts.{size}
use Rattle.spec_tree.specs.Tree.{Tree}
use Rattle.spec_tree.specs.Tokens.{all_tokens, read, numbered, run_at, trees_in}
use Rattle.spec_tree.proofs.TokenLaws.{map_drop}
use Rattle.spec_tree.proofs.TokenCode.{unnumbered, all_tokens_append}
use Rattle.laws.specs.positions.Places.{numbered_at}
use Rattle.reciprocals.specs.settle.Steps.{settled_words}
use Rattle.reciprocals.proofs.bindings.Parts.{settle_tree, reciprocal, settled_reciprocals, reciprocal_of, AllThere, settled_are}
use Rattle.reciprocals.specs.reciprocal.Bindings.{one_over, settled_reciprocal, whole_reciprocal, BoundSo}
use Rattle.reciprocals.proofs.reciprocal.There.{there_after, there_at}
use Rattle.reciprocals.proofs.reciprocal.Reading.{inside, run_long, over_complete, over_long, over_read, settled_no_more, settled_complete, settled_read}

-- ---- element j of the settled reciprocals

first_is : (l : List Tree) (j : ℕ) (t : Tree) (r : List Tree) (x : Tree) → drop j l ≡ t ∷ r → get_or l j x ≡ t
first_is [] zero t r x e = let z : ◌≡◌ {A = ℕ} 0 1 = cc in absurd (omega arith)
first_is [] (suc j) t r x e = let z : ◌≡◌ {A = ℕ} 0 1 = cc in absurd (omega arith)
first_is (u ∷ l) zero t r x e = let q : u ≡ t = cc in q
first_is (u ∷ l) (suc j) t r x e = first_is l j t r x e

pub settled_long : (ds : List Tree) (n : ℕ) → length (settled_reciprocals ds n) ≡ length ds
settled_long [] n = refl
settled_long (d ∷ l) n = ap suc (settled_long l (suc n))

mapped_long : (f : ℕ → Tree) (l : List ℕ) → length (map f l) ≡ length l
mapped_long f [] = refl
mapped_long f (p ∷ l) = ap suc (mapped_long f l)

module _ (base places : List ℕ) (first j : ℕ) where
  abbrev pub divisors : List Tree
  divisors = map (numbered_at base) places

  abbrev pub divisor : Tree
  divisor = numbered_at base (get_or places j 0)

  -- `1 / d`, settled by the divisors after it
  abbrev pub made : Tree
  made = settle_tree (drop (suc j) divisors) (suc (first + j)) (reciprocal divisor)

  abbrev pub made_words : List ℕ
  made_words = all_tokens unnumbered (made ∷ [])

  module _ (h : j < length places) where
    divisor_first : drop j divisors ≡ divisor ∷ drop (suc j) divisors
    divisor_first =
        sym (map_drop (numbered_at base) j places)
        ∙ (ap (map (numbered_at base)) (drop-cons places j 0 h) ∙ ap (λ (l : List Tree). divisor ∷ l) (map_drop (numbered_at base) (suc j) places))

    pub made_is : (x : Tree) → get_or (settled_reciprocals divisors first) j x ≡ made
    made_is x =
        first_is (settled_reciprocals divisors first) j made (drop (suc j) (settled_reciprocals divisors first)) x
        (reciprocal_of j divisors first divisor (drop (suc j) divisors) divisor_first)

    -- the words of one reciprocal after those of the reciprocals before it
    pub so_far :
        all_tokens unnumbered (take (suc j) (settled_reciprocals divisors first))
        ≡ all_tokens unnumbered (take j (settled_reciprocals divisors first)) ++ made_words
    so_far =
        let rs = settled_reciprocals divisors first in
        let k : j < length rs = omega (arith, h, settled_long divisors first, mapped_long (numbered_at base) places) in
        ap (all_tokens unnumbered) (take-suc rs j made k)
        ∙ (all_tokens_append unnumbered (take j rs) (get_or rs j made ∷ []) ∙ ap (λ (t : Tree). all_tokens unnumbered (take j rs) ++ all_tokens unnumbered (t ∷ [])) (made_is made))

    module _ (there : AllThere base places) where
      abbrev run : ℕ
      run = (there_at base places j h there).0

      stands : run_at base (get_or places j 0) ≡ some run
      stands = (there_at base places j h there).1

      pub run_is : run_at base (get_or places j 0) ≡ some (size divisor)
      run_is = stands ∙ ap some (run_long base (get_or places j 0) run stands)

      pub divisor_inside : size divisor ≤ length base
      divisor_inside = omega (arith, inside base (get_or places j 0) run stands, run_long base (get_or places j 0) run stands)

      abbrev over : List ℕ
      over = one_over base (get_or places j 0) (size divisor)

      settled_over : map (settle_tree (drop (suc j) divisors) (suc (first + j))) (read numbered over) ≡ made ∷ []
      settled_over = ap (map (settle_tree (drop (suc j) divisors) (suc (first + j)))) (over_read base (get_or places j 0) (size divisor) run_is)

      pub became : settled_reciprocal base places first j (size divisor) ≡ some made_words
      unfolding settled_reciprocal
      became =
          let i : j + 1 ≡ suc j = omega arith in
          let k : first + (j + 1) ≡ suc (first + j) = omega arith in
          ap (λ (x : ℕ). settled_words base (drop x places) (first + (j + 1)) over) i
          ∙ (ap (λ (y : ℕ). settled_words base (drop (suc j) places) y over) k
          ∙ (settled_are base (drop (suc j) places) (suc (first + j)) over 1 (over_complete base (get_or places j 0) (size divisor) run_is) (there_after base places (suc j) there)
          ∙ (ap (λ (l : List Tree). some (all_tokens unnumbered (map (settle_tree l (suc (first + j))) (read numbered over)))) (map_drop (numbered_at base) (suc j) places)
          ∙ ap (λ (l : List Tree). some (all_tokens unnumbered l)) settled_over)))

      -- no more than two words besides the divisor's
      pub made_short : length made_words ≤ 2 + size divisor
      made_short =
          let e : length (all_tokens unnumbered (map (settle_tree (drop (suc j) divisors) (suc (first + j))) (read numbered over))) ≡ length made_words = ap (λ (l : List Tree). length (all_tokens unnumbered l)) settled_over in
          omega (arith, e, settled_no_more (drop (suc j) divisors) (suc (first + j)) over, over_long base (get_or places j 0) (size divisor) run_is)

      pub made_within : length made_words ≤ 2 + length base
      made_within = omega (arith, made_short, divisor_inside)

      -- the words are one tree, and are read as it
      pub made_complete : trees_in made_words ≡ some 1
      made_complete =
          ap (λ (l : List Tree). trees_in (all_tokens unnumbered l)) (sym settled_over)
          ∙ settled_complete (drop (suc j) divisors) (suc (first + j)) over 1 (over_complete base (get_or places j 0) (size divisor) run_is)

      pub made_read : read numbered made_words ≡ made ∷ []
      made_read =
          ap (λ (l : List Tree). read numbered (all_tokens unnumbered l)) (sym settled_over)
          ∙ (settled_read (drop (suc j) divisors) (suc (first + j)) over ∙ settled_over)

      -- ---- what binding leaves

      -- the words in front are those
      pub made_so : (out : List ℕ) (n : ℕ) → BoundSo (whole_reciprocal base places first j) n out → (n ≡ length made_words) × (take n out ≡ made_words) × (n ≤ length out)
      unfolding BoundSo whole_reciprocal
      made_so out n s = subst (λ (o : Option (List ℕ)). BoundSo o n out) became s

      pub so_made : (out : List ℕ) (n : ℕ) → n ≡ length made_words → take n out ≡ made_words → n ≤ length out → BoundSo (whole_reciprocal base places first j) n out
      unfolding BoundSo whole_reciprocal
      so_made out n e f l = subst (λ (o : Option (List ℕ)). BoundSo o n out) (sym became) (e, f, l)
