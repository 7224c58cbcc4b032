-- The order of statements takes each once: a sum over the statements in order is the sum over the statements given, and what all of them have, all of
-- them have in order. Assumes nothing.
use Prim.Native.Nat.{ℕ, zero, suc, ◌+◌, ◌*◌, ◌≤◌, ◌<◌}
use mathlib.Core.Path.{◌≡◌, refl, sym, ◌∙◌, ap, subst}
use mathlib.Core.Logic.{inl, inr}
use mathlib.Core.Bool.{Bool, true, false}
use mathlib.Core.List.{List, [], ◌∷◌, reverse, reverse_aux}
use native.Mathlib.Omega.{arith}
use native.Mathlib.Nat.{mul-zero, mul-one, mul-suc}
use lib.ListN.{length, get_or}
use lib.Dec.{T, eqb, eqb→eq}
use Rattle.spec_tree.specs.Outcome.{Outcome, ok, refused, by}
use Rattle.spec_cse.specs.Answer.{Intermediate}
use Rattle.spec_cse.specs.Order.{needs, member, positions_taken, nothing, at_each, topo_sort_intermediates}
use Rattle.laws.proofs.cse.OrderLaws.{member_cases, member_here, member_later, All, Distinct, taken_ok, at_most}
use Rattle.laws.proofs.cse.ReadLaws.{needs_length}

-- ---- positions past the first, counted from the second

down : List ℕ → List ℕ
down [] = []
down (zero ∷ l) = down l
down (suc i ∷ l) = i ∷ down l

zeros : List ℕ → ℕ
zeros [] = 0
zeros (zero ∷ l) = suc (zeros l)
zeros (suc i ∷ l) = zeros l

down_member : (i : ℕ) (l : List ℕ) → T (member i (down l)) → T (member (suc i) l)
unfolding down
down_member i [] t = absurd (unfold member in t)
down_member i (zero ∷ l) t = member_later (suc i) zero l (down_member i l t)
down_member i (suc j ∷ l) t =
    elim (member_cases i j (down l) t) [
      | inl e ↦ subst (λ (k : ℕ). T (member (suc k) (suc j ∷ l))) e (member_here (suc j) l)
      | inr u ↦ member_later (suc i) (suc j) l (down_member i l u)
    ]

down_distinct : (l : List ℕ) → Distinct l → Distinct (down l)
unfolding down
down_distinct [] d = tt
down_distinct (zero ∷ l) d = down_distinct l d.1
down_distinct (suc i ∷ l) d = ((λ t. d.0 (down_member i l t)), down_distinct l d.1)

down_inside : (n : ℕ) (l : List ℕ) → All (λ j. j < suc n) l → All (λ j. j < n) (down l)
unfolding down
down_inside n [] a = tt
down_inside n (zero ∷ l) a = down_inside n l a.1
down_inside n (suc i ∷ l) a = ((let q = a.0 in omega arith), down_inside n l a.1)

no_zeros : (l : List ℕ) → (T (member 0 l) → ⊥) → zeros l ≡ 0
unfolding zeros
no_zeros [] f = refl
no_zeros (zero ∷ l) f = absurd (f (member_here 0 l))
no_zeros (suc i ∷ l) f = no_zeros l (λ t. f (member_later 0 (suc i) l t))

one_zero : (l : List ℕ) → Distinct l → zeros l ≤ 1
unfolding zeros
one_zero [] d = omega arith
one_zero (zero ∷ l) d = (let q = no_zeros l d.0 in omega arith)
one_zero (suc i ∷ l) d = one_zero l d.1

-- ---- sums

module _ (v : Intermediate → ℕ) where
  unfoldable pub summed : List Intermediate → ℕ
  summed [] = 0
  summed (s ∷ l) = v s + summed l

  reversed : (l r : List Intermediate) → summed (reverse_aux l r) ≡ summed l + summed r
  unfolding summed
  reversed [] r = omega arith
  reversed (s ∷ l) r = (let q = reversed l (s ∷ r) in omega arith)

  picked : (x : Intermediate) (l : List Intermediate) (order : List ℕ) → summed (at_each (x ∷ l) order) ≡ v x * zeros order + summed (at_each l (down order))
  unfolding at_each zeros down summed
  picked x l [] = (let q = mul-zero (v x) in omega arith)
  picked x l (zero ∷ o) = (let q = picked x l o in let m = mul-suc (v x) (zeros o) in omega arith)
  picked x l (suc i ∷ o) = (let q = picked x l o in omega arith)

-- ---- the order

taken_inside : (l : List Intermediate) → All (λ j. j < length l) (positions_taken (needs l l))
taken_inside l = subst (λ (m : ℕ). All (λ j. j < m) (positions_taken (needs l l))) (needs_length l l) (taken_ok (needs l l)).inside

-- what comes out is the reversed statements at the positions taken
Places : List Intermediate → Outcome (List Intermediate) → Type 0
Places l (ok r) = r ≡ reverse (at_each l (positions_taken (needs l l)))
Places l (refused i) = Unit {0}

places : (l : List Intermediate) → Places l (topo_sort_intermediates l)
unfolding Places topo_sort_intermediates
places l = go (eqb (length (positions_taken (needs l l))) (length l))
  where
    go : (b : Bool) → Places l (elim b [ true ↦ ok (reverse (at_each l (positions_taken (needs l l)))) | false ↦ refused (by 11) ])
    go true = refl
    go false = tt

at_places : (l r : List Intermediate) → topo_sort_intermediates l ≡ ok r → r ≡ reverse (at_each l (positions_taken (needs l l)))
unfolding Places
at_places l r e = subst (Places l) e (places l)

-- ---- none is lost

length_reversed : (l r : List Intermediate) → length (reverse_aux l r) ≡ length l + length r
length_reversed [] r = omega arith
length_reversed (s ∷ l) r = (let q = length_reversed l (s ∷ r) in omega arith)

pub length_at_each : (l : List Intermediate) (o : List ℕ) → length (at_each l o) ≡ length o
unfolding at_each
length_at_each l [] = refl
length_at_each l (i ∷ o) = ap suc (length_at_each l o)

Whole : List Intermediate → Outcome (List Intermediate) → Type 0
Whole l (ok r) = length r ≡ length l
Whole l (refused i) = Unit {0}

pub sorted_length : (l r : List Intermediate) → topo_sort_intermediates l ≡ ok r → length r ≡ length l
unfolding Whole topo_sort_intermediates
sorted_length l r e = subst (Whole l) e (go (eqb (length o) (length l)) (eqb→eq (length o) (length l)))
  where
    o : List ℕ
    o = positions_taken (needs l l)

    go : (b : Bool) → (T b → length o ≡ length l) → Whole l (elim b [ true ↦ ok (reverse (at_each l o)) | false ↦ refused (by 11) ])
    go true f = (let a = length_reversed (at_each l o) [] in let b = length_at_each l o in let c = f tt in omega arith)
    go false f = tt

-- so a sum over the statements in order is that over the statements given
down_length : (l : List ℕ) → length (down l) + zeros l ≡ length l
unfolding down zeros
down_length [] = refl
down_length (zero ∷ l) = (let q = down_length l in omega arith)
down_length (suc i ∷ l) = (let q = down_length l in omega arith)

each_just : (v : Intermediate → ℕ) (l : List Intermediate) (order : List ℕ) → Distinct order → All (λ j. j < length l) order → length order ≡ length l → summed v (at_each l order) ≡ summed v l
each_just v [] [] d a e = (unfold at_each summed in refl)
each_just v [] (i ∷ o) d a e = absurd (omega arith)
each_just v (x ∷ l) order d a e =
    (let p = picked v x l order in
    let D = down_distinct order d in
    let A = down_inside (length l) order a in
    let m = at_most (length l) (down order) D A in
    let n = down_length order in
    let o = one_zero order d in
    let q = each_just v l (down order) D A (omega arith) in
    let z : v x * zeros order ≡ v x = ap (λ (k : ℕ). v x * k) (let y : zeros order ≡ 1 = omega arith in y) ∙ mul-one (v x) in
    let s : summed v (x ∷ l) ≡ v x + summed v l = (unfold summed in refl) in
    omega arith)

pub sorted_sum : (v : Intermediate → ℕ) (l r : List Intermediate) → topo_sort_intermediates l ≡ ok r → summed v r ≡ summed v l
sorted_sum v l r e =
    (let o = positions_taken (needs l l) in
    let a : summed v r ≡ summed v (at_each l o) + summed v [] = ap (summed v) (at_places l r e) ∙ reversed v (at_each l o) [] in
    let z : summed v [] ≡ 0 = (unfold summed in refl) in
    let n : length r ≡ length o + 0 = ap length (at_places l r e) ∙ length_reversed (at_each l o) [] ∙ ap (λ (k : ℕ). k + 0) (length_at_each l o) in
    let m = sorted_length l r e in
    let b = each_just v l o (taken_ok (needs l l)).distinct (taken_inside l) (omega arith) in
    omega arith)

-- ---- what all have

abbrev pub Every : (Intermediate → Type 0) → List Intermediate → Type 0
Every P [] = Unit {0}
Every P (s ∷ l) = P s × Every P l

every_at : (P : Intermediate → Type 0) (l : List Intermediate) (i : ℕ) → Every P l → i < length l → P (get_or l i nothing)
every_at P [] i h a = absurd (omega arith)
every_at P (s ∷ l) zero h a = h.0
every_at P (s ∷ l) (suc i) h a = every_at P l i h.1 (omega arith)

every_each : (P : Intermediate → Type 0) (l : List Intermediate) (o : List ℕ) → Every P l → All (λ j. j < length l) o → Every P (at_each l o)
unfolding at_each
every_each P l [] h a = tt
every_each P l (i ∷ o) h a = (every_at P l i h a.0, every_each P l o h a.1)

every_reversed : (P : Intermediate → Type 0) (l r : List Intermediate) → Every P l → Every P r → Every P (reverse_aux l r)
every_reversed P [] r g h = h
every_reversed P (s ∷ l) r g h = every_reversed P l (s ∷ r) g.1 (g.0, h)

pub sorted_every : (P : Intermediate → Type 0) (l r : List Intermediate) → topo_sort_intermediates l ≡ ok r → Every P l → Every P r
sorted_every P l r e h =
    subst (Every P) (sym (at_places l r e)) (every_reversed P (at_each l (positions_taken (needs l l))) [] (every_each P l (positions_taken (needs l l)) h (taken_inside l)) tt)
