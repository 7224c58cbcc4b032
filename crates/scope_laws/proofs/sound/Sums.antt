-- Sums over the first numbers and over lists: one after another, of entries, and over different numbers in any order. Assumes nothing.
use Prim.Native.Nat.{ℕ, zero, suc, ◌+◌, ◌*◌, ◌-◌, ◌≤◌, ◌<◌}
use native.Mathlib.Omega.{arith}
use mathlib.Core.Path.{◌≡◌, refl, sym, ◌∙◌, ap, subst}
use mathlib.Core.Bool.{Bool, true, false, cond}
use mathlib.Core.List.{List, [], ◌∷◌, ◌++◌, reverse, reverse_aux}
use borrow.Author.Tests.{eqb-true, eqb-false, eq-eqb, ne_eqb}
use lib.ListN.{length, get_or, length-append}
use lib.Dec.{T, eqb}
use Rattle.spec_cse.specs.Order.{member}
use Rattle.laws.proofs.cse.OrderLaws.{member_here, member_later, All, Distinct}
use Rattle.reciprocals.specs.final.Entries.{runs}

-- of the first n numbers
unfoldable pub sum_first : (ℕ → ℕ) → ℕ → ℕ
sum_first f zero = 0
sum_first f (suc n) = sum_first f n + f n

-- of a list's entries
unfoldable pub sum_each : {A : Type 0} → (A → ℕ) → List A → ℕ
sum_each f [] = 0
sum_each f (a ∷ l) = f a + sum_each f l

pub first_more : (f : ℕ → ℕ) (n : ℕ) → sum_first f (suc n) ≡ sum_first f n + f n
unfolding sum_first
first_more f n = refl

pub first_none : (f : ℕ → ℕ) → sum_first f 0 ≡ 0
unfolding sum_first
first_none f = refl

first_shift : (f : ℕ → ℕ) (n : ℕ) → sum_first f (suc n) ≡ f 0 + sum_first (λ i. f (suc i)) n
first_shift f zero = (let a = first_more f 0 in let b = first_none f in let c = first_none (λ i. f (suc i)) in omega arith)
first_shift f (suc n) =
    let a = first_more f (suc n) in
    let b = first_shift f n in
    let c = first_more (λ i. f (suc i)) n in
    omega arith

-- over the numbers of a list's entries
pub first_entries : {A : Type 0} (f : A → ℕ) (d : A) (l : List A) → sum_first (λ i. f (get_or l i d)) (length l) ≡ sum_each f l
unfolding sum_each
first_entries f d [] = first_none (λ i. f (get_or [] i d))
first_entries f d (a ∷ l) =
    let s = first_shift (λ i. f (get_or (a ∷ l) i d)) (length l) in
    let r = first_entries f d l in
    omega (arith, s, r)

pub each_append : {A : Type 0} (f : A → ℕ) (a b : List A) → sum_each f (a ++ b) ≡ sum_each f a + sum_each f b
unfolding sum_each
each_append f [] b = omega arith
each_append f (x ∷ a) b = (let r = each_append f a b in omega arith)

turned : (f : ℕ → ℕ) (a b : List ℕ) → sum_each f (reverse_aux a b) ≡ sum_each f a + sum_each f b
unfolding sum_each
turned f [] b = omega arith
turned f (i ∷ a) b = (let r = turned f a (i ∷ b) in omega arith)

pub each_reversed : (f : ℕ → ℕ) (l : List ℕ) → sum_each f (reverse l) ≡ sum_each f l
each_reversed f l = (let r = turned f l [] in let n : sum_each f [] ≡ 0 = (unfold sum_each in refl) in omega arith)

-- the length of runs
pub runs_length : (f : ℕ → List ℕ) (n : ℕ) → length (runs f n) ≡ sum_first (λ i. length (f i)) n
unfolding runs sum_first
runs_length f zero = refl
runs_length f (suc n) = (let r = runs_length f n in let a = length-append (runs f n) (f n) in omega arith)

pub runs_within : (f : ℕ → List ℕ) (q n : ℕ) → q ≤ n → length (runs f q) ≤ length (runs f n)
runs_within f q n h = (let e : q + (n - q) ≡ n = omega arith in subst (λ (i : ℕ). length (runs f q) ≤ length (runs f i)) e (more (n - q)))
  where
    more : (j : ℕ) → length (runs f q) ≤ length (runs f (q + j))
    more zero = (let e : q ≡ q + 0 = omega arith in subst (λ (i : ℕ). length (runs f q) ≤ length (runs f i)) e (omega arith))
    more (suc j) =
        let a = runs_length f (q + j) in
        let b = runs_length f (suc (q + j)) in
        let c = first_more (λ i. length (f i)) (q + j) in
        let r = more j in
        let e : suc (q + j) ≡ q + suc j = omega arith in
        subst (λ (i : ℕ). length (runs f q) ≤ length (runs f i)) e (omega (arith, a, b, c, r))

-- at most so much each
pub first_most : (f : ℕ → ℕ) (c n : ℕ) → ((i : ℕ) → i < n → f i ≤ c) → sum_first f n ≤ c * n
unfolding sum_first
first_most f c zero h = omega arith
first_most f c (suc n) h = (let r = first_most f c n (λ i l. h i (omega arith)) in let k = h n (omega arith) in let e : c * suc n ≡ c * n + c = omega arith in omega arith)

pub first_under : (f g : ℕ → ℕ) (n : ℕ) → ((i : ℕ) → i < n → f i ≤ g i) → sum_first f n ≤ sum_first g n
unfolding sum_first
first_under f g zero h = omega arith
first_under f g (suc n) h = (let r = first_under f g n (λ i l. h i (omega arith)) in let k = h n (omega arith) in omega arith)

-- ---- over different numbers

-- all but one
abbrev without : (ℕ → ℕ) → ℕ → ℕ → ℕ
without f i j = cond (eqb j i) 0 (f j)

without_less : (f : ℕ → ℕ) (i j : ℕ) → without f i j ≤ f j
without_less f i j = go (eqb j i)
  where
    go : (b : Bool) → cond b 0 (f j) ≤ f j
    go true = omega arith
    go false = omega arith

without_other : (f : ℕ → ℕ) (i j : ℕ) → (j ≡ i → ⊥) → without f i j ≡ f j
without_other f i j n = rw (ne_eqb j i n) refl

without_it : (f : ℕ → ℕ) (i : ℕ) → without f i i ≡ 0
without_it f i = rw (eq-eqb i i refl) refl

others_same : (f : ℕ → ℕ) (i : ℕ) (l : List ℕ) → (T (member i l) → ⊥) → sum_each f l ≡ sum_each (without f i) l
unfolding sum_each
others_same f i [] n = refl
others_same f i (j ∷ l) n =
    let r = others_same f i l (λ t. n (member_later i j l t)) in
    let e = without_other f i j (λ q. n (subst (λ (x : ℕ). T (member i (x ∷ l))) (sym q) (member_here i l))) in
    omega (arith, r, e)

one_out : (f : ℕ → ℕ) (i n : ℕ) → i < n → f i + sum_first (without f i) n ≤ sum_first f n
one_out f i zero h = absurd (omega arith)
one_out f i (suc n) h = go (λ l. one_out f i n l) (eqb n i) refl
  where
    a : sum_first (without f i) (suc n) ≡ sum_first (without f i) n + without f i n
    a = first_more (without f i) n

    b : sum_first f (suc n) ≡ sum_first f n + f n
    b = first_more f n

    go : (i < n → f i + sum_first (without f i) n ≤ sum_first f n) → (c : Bool) → eqb n i ≡ c → f i + sum_first (without f i) (suc n) ≤ sum_first f (suc n)
    go s true e =
        let q = eqb-true n i e in
        let z : without f i n ≡ 0 = ap (λ (x : ℕ). without f i x) q ∙ without_it f i in
        let y : f n ≡ f i = ap f q in
        let u = first_under (without f i) f n (λ j k. without_less f i j) in
        omega (arith, a, b, z, y, u)
    go s false e =
        let q = eqb-false n i e in
        let r = s (omega (arith, h, q)) in
        let z = without_less f i n in
        omega (arith, a, b, r, z)

pub different_most : (f : ℕ → ℕ) (n : ℕ) (l : List ℕ) → Distinct l → All (λ j. j < n) l → sum_each f l ≤ sum_first f n
unfolding sum_each
different_most f n [] d s = omega arith
different_most f n (i ∷ l) d s =
    let e = others_same f i l d.0 in
    let r = different_most (without f i) n l d.1 s.1 in
    let o = one_out f i n s.0 in
    omega (arith, e, r, o)
