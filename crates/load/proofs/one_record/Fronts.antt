-- A cleared row whose fields are written from its fourth word on: what is lent, what comes back, and the row's words. Assumes nothing.
use Prim.Native.Nat.{ℕ, zero, suc, ◌+◌, ◌-◌, ◌≤◌, ◌<◌, min}
use mathlib.Core.Path.{◌≡◌, refl, sym, ◌∙◌, ap}
use mathlib.Core.Bool.{Bool, true, false, not, ◌&&◌}
use mathlib.Core.List.{List, [], ◌∷◌, ◌++◌, append_assoc}
use native.Mathlib.Omega.{arith}
use borrow.Author.Tests.{le-ltb, lt-ltb}
use lib.Dec.{T, ltb, ltb→lt, nltb→le}
use lib.ListN.{length, take, drop, replicate, length-append, length-drop, length-replicate}
use lib.Seq.{take_at, drop-append-le}
use borrow.Rule.Slice.PartMut.{put_mid}
use Rattle.spec_tree.specs.Bytes.{every}
use Rattle.spec_tree.proofs.Logic.{and_left, and_right}
use Rattle.load.specs.one_record.Reading.{capped_all}
use Rattle.spec_tree.proofs.Lists.{rest_is, rest_back}

-- ---- zeros

drop_zeros : (m n : ℕ) → n ≤ m → drop {A = ℕ} n (replicate m 0) ≡ replicate (m - n) 0
drop_zeros m zero h = ap (λ (k : ℕ). replicate k 0) (let e : m ≡ m - 0 = omega arith in e)
drop_zeros zero (suc n) h = absurd (omega arith)
drop_zeros (suc m) (suc n) h = drop_zeros m n (omega arith) ∙ ap (λ (k : ℕ). replicate k 0) (let e : m - n ≡ suc m - suc n = omega arith in e)

module _ (old cl : List ℕ) (clear : cl ≡ replicate 35 0 ++ drop 35 old) (long : 35 ≤ length old) where
  abbrev lent : List ℕ
  lent = take (length cl - 3) (drop 3 cl)

  abbrev back : List ℕ → List ℕ
  back x = put_mid 3 (length cl - 3) cl x

  lent_is : lent ≡ replicate 32 0 ++ drop 35 old
  lent_is = rest_is cl 3 ∙ ap (λ (l : List ℕ). drop 3 l) clear

  pub lent_long : length lent + 3 ≡ length old
  lent_long = omega (arith, ap length lent_is, length-append (replicate 32 0) (drop 35 old), length-drop 35 old, length-replicate {A = ℕ} 32 0)

  pub back_is : (x : List ℕ) → back x ≡ 0 ∷ (0 ∷ (0 ∷ x))
  back_is x = rest_back cl x 3 ∙ ap (λ (l : List ℕ). take 3 l ++ x) clear

  pub back_long : (x : List ℕ) → length x ≡ length lent → length (back x) ≡ length old
  back_long x h = omega (arith, ap length (back_is x), lent_long)

  -- n words f in front
  module _ (x f : List ℕ) (n : ℕ) (few : n ≤ 32) (many : n ≡ length f) (w : x ≡ f ++ drop n lent) where
    pub part_is : take ((n + 3) - 3) (drop 3 (back x)) ≡ f
    part_is =
        ap (λ (l : List ℕ). take ((n + 3) - 3) (drop 3 l)) (back_is x)
        ∙ ap (λ (l : List ℕ). take ((n + 3) - 3) l) w
        ∙ take_at f (drop n lent) ((n + 3) - 3) (let h : length f ≡ (n + 3) - 3 = omega arith in h)

    pub words_are : drop 3 (back x) ≡ (f ++ replicate (32 - length f) 0) ++ drop 35 old
    words_are =
        ap (λ (l : List ℕ). drop 3 l) (back_is x)
        ∙ (w
        ∙ ap (λ (l : List ℕ). f ++ drop n l) lent_is
        ∙ ap (λ (l : List ℕ). f ++ l) (drop-append-le n (replicate 32 0) (drop 35 old) (let h = length-replicate {A = ℕ} 32 0 in omega arith))
        ∙ ap (λ (l : List ℕ). f ++ (l ++ drop 35 old)) (drop_zeros 32 n few ∙ ap (λ (k : ℕ). replicate (32 - k) 0) many)
        ∙ sym (append_assoc f (replicate (32 - length f) 0) (drop 35 old)))

-- ---- numbers that are read up to a million

module _ (rows : ℕ) (small : rows ≤ 1000000) where
  cap_test : (n : ℕ) → ltb (min n 1000000) rows ≡ ltb n rows
  cap_test n = go (ltb n rows) (ltb→lt n rows) (nltb→le n rows)
    where
      go : (b : Bool) → (T b → n < rows) → (T (not b) → rows ≤ n) → ltb (min n 1000000) rows ≡ b
      go true p q = let h = p tt in lt-ltb (min n 1000000) rows (omega arith)
      go false p q = let h = q tt in le-ltb (min n 1000000) rows (omega arith)

  -- capping changes no answer
  pub cap_below : (ns : List ℕ) → every (λ n. ltb n rows) (capped_all ns) ≡ every (λ n. ltb n rows) ns
  unfolding every capped_all
  cap_below [] = refl
  cap_below (n ∷ l) = ap (λ (b : Bool). b && every (λ n. ltb n rows) (capped_all l)) (cap_test n) ∙ ap (λ (b : Bool). ltb n rows && b) (cap_below l)

  -- and no number of an earlier node
  pub cap_same : (ns : List ℕ) → T (every (λ n. ltb n rows) ns) → capped_all ns ≡ ns
  unfolding every capped_all
  cap_same [] t = refl
  cap_same (n ∷ l) t =
      let h = ltb→lt n rows (and_left (ltb n rows) (every (λ n. ltb n rows) l) t) in
      let e : min n 1000000 ≡ n = omega arith in
      ap (λ (k : ℕ). k ∷ capped_all l) e ∙ ap (λ (m : List ℕ). n ∷ m) (cap_same l (and_right (ltb n rows) (every (λ n. ltb n rows) l) t))

pub capped_long : (ns : List ℕ) → length (capped_all ns) ≡ length ns
unfolding capped_all
capped_long [] = refl
capped_long (n ∷ l) = ap suc (capped_long l)
