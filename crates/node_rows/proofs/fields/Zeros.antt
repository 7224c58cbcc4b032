-- Words that are 0: put together and tested once, and in two parts. Assumes nothing.
use Prim.Native.Nat.{ℕ, zero, suc, ◌+◌, ◌-◌, ◌≤◌, ◌<◌}
use mathlib.Core.Path.{◌≡◌, refl, sym, ap, ap₂, ◌∙◌}
use mathlib.Core.Bool.{Bool, true, false, ◌&&◌}
use mathlib.Core.List.{List, [], ◌∷◌}
use native.Mathlib.Omega.{arith}
use native.Mathlib.Numerals.{add-one}
use borrow.Author.Tests.{le-ltb, ne_eqb}
use lib.Bits.{bit_or, or_add_and, and_le_r}
use lib.Dec.{eqb, ltb}
use lib.ListN.{length, get_or, take, drop, length-drop, drop_of_length-le}
use lib.Seq.{drop-cons, drop-drop, take_all}
use Rattle.spec_tree.specs.Bytes.{every}
use Rattle.node_rows.specs.fields.Below.{below}

regroup : (a b c : Bool) → (a && (b && c)) ≡ ((a && b) && c)
regroup true b c = refl
regroup false b c = refl

and_true : (b : Bool) → (b && true) ≡ b
and_true true = refl
and_true false = refl

none : (x : ℕ) → eqb x 0 ≡ ltb x 1
none zero = refl
none (suc x) = rw (ne_eqb (suc x) 0 (λ e. omega arith), le-ltb (suc x) 1 (let h : 1 ≤ suc x = omega arith in h))

-- two words put together are 0 where both are
or_none : (a x : ℕ) → eqb (bit_or a x) 0 ≡ (eqb a 0 && ltb x 1)
or_none zero x = none x
or_none (suc a) x =
    rw (ne_eqb (bit_or (suc a) x) 0 (λ e. omega (arith, or_add_and (suc a) x, and_le_r (suc a) x)), ne_eqb (suc a) 0 (λ e. omega arith))

module _ (l : List ℕ) where
  abbrev pub Zeros : ℕ → ℕ → Type 0
  Zeros any i = below 1 l ≡ (eqb any 0 && below 1 (drop i l))

  pub zeros_next : (any i : ℕ) → i < length l → Zeros any i → Zeros (bit_or any (get_or l i 0)) (i + 1)
  unfolding every
  zeros_next any i h q =
      q ∙ (ap (λ (t : List ℕ). eqb any 0 && below 1 t) (drop-cons l i 0 h)
      ∙ (regroup (eqb any 0) (ltb (get_or l i 0) 1) (below 1 (drop (suc i) l))
      ∙ ap₂ (λ (a b : Bool). a && b) (sym (or_none any (get_or l i 0))) (ap (λ (n : ℕ). below 1 (drop n l)) (sym (add-one i)))))

  pub zeros_end : (any i : ℕ) → length l ≤ i → Zeros any i → eqb any 0 ≡ below 1 l
  unfolding every
  zeros_end any i h q = sym (q ∙ (ap (λ (t : List ℕ). eqb any 0 && below 1 t) (drop_of_length-le l {i = i} h) ∙ and_true (eqb any 0)))

-- ---- in two parts

every_split : (P : ℕ → Bool) (n : ℕ) (l : List ℕ) → every P l ≡ (every P (take n l) && every P (drop n l))
unfolding every
every_split P zero l = refl
every_split P (suc n) [] = refl
every_split P (suc n) (x ∷ l) = ap (λ (b : Bool). P x && b) (every_split P n l) ∙ regroup (P x) (every P (take n l)) (every P (drop n l))

pub zero_split : (row : List ℕ) (end : ℕ) → length row ≡ 35 → end ≤ 5 → below 1 (drop end row) ≡ (below 1 (take (5 - end) (drop end row)) && below 1 (take 30 (drop 5 row)))
zero_split row end h k =
    let e : end + (5 - end) ≡ 5 = omega arith in
    let d : drop (5 - end) (drop end row) ≡ drop 5 row = drop-drop (5 - end) end row ∙ ap (λ (n : ℕ). drop n row) e in
    let t : take 30 (drop 5 row) ≡ drop 5 row = take_all 30 (drop 5 row) (let n = length-drop 5 row in omega arith) in
    every_split (λ k. ltb k 1) (5 - end) (drop end row) ∙ rw (d, t)
