-- How many needs of a statement aren't met: none are left where all it needs is taken, and one less where it needs the one just taken. Assumes nothing.
use Rattle.std.specs.List.{filter, range_with_len}
use Prim.Native.Nat.{ℕ, zero, suc, ◌+◌, ◌≤◌, ◌<◌}
use mathlib.Core.Path.{◌≡◌, refl, sym, ◌∙◌, ap, subst}
use mathlib.Core.Bool.{Bool, true, false, ◌&&◌, cond}
use mathlib.Core.List.{List, [], ◌∷◌}
use native.Mathlib.Omega.{arith}
use native.Mathlib.Numerals.{add-one}
use borrow.Author.Tests.{eqb-true, eqb-false, eq-eqb, ne_eqb}
use lib.Dec.{T, eqb, eqb-suc-zero, eqb-suc-suc}
use lib.ListN.{length, get_or}
use Rattle.words.specs.bits.Bits.{yes}
use Rattle.spec_cse.specs.Order.{member, within, joining}
use Rattle.laws.proofs.cse.OrderLaws.{Distinct}
use Rattle.topo_sort.specs.Needs.{columns, rows_from, table_of}
use Rattle.topo_sort.specs.Turns.{joined, lower, joins}
use Rattle.spec_tree.proofs.Logic.{not_true}

-- the needs that aren't among those taken
unfoldable pub left : List ℕ → List ℕ → ℕ
unfolding member
left [] done = 0
left (n ∷ ns) done = elim (member n done) [ true ↦ left ns done | false ↦ suc (left ns done) ]

pub left_none : (ns : List ℕ) → left ns [] ≡ length ns
unfolding left member
left_none [] = refl
left_none (n ∷ ns) = ap suc (left_none ns)

pub left_within : (ns done : List ℕ) → eqb (left ns done) 0 ≡ within ns done
unfolding left within
left_within [] done = refl
left_within (n ∷ ns) done = go (member n done) (left_within ns done)
  where
    go : (b : Bool) → eqb (left ns done) 0 ≡ within ns done
        → eqb (elim b [ true ↦ left ns done | false ↦ suc (left ns done) ]) 0 ≡ elim b [ true ↦ within ns done | false ↦ false ]
    go true h = h
    go false h = eqb-suc-zero (left ns done)

abbrev one_if : Bool → ℕ
one_if true = 1
one_if false = 0

member_same : (i j : ℕ) (l : List ℕ) → j ≡ i → member i (j ∷ l) ≡ true
unfolding member
member_same i j l e = rw (eq-eqb j i e, member)

member_other : (i j : ℕ) (l : List ℕ) → (j ≡ i → ⊥) → member i (j ∷ l) ≡ member i l
unfolding member
member_other i j l n = rw (ne_eqb j i n, member)

left_step : (n : ℕ) (ns done : List ℕ) (b : Bool) → member n done ≡ b → left (n ∷ ns) done ≡ left ns done + one_if (elim b [ true ↦ false | false ↦ true ])
unfolding left
left_step n ns done true e = rw (e, left) (omega arith)
left_step n ns done false e = rw (e, left) (omega arith)

-- one taken: a statement that needs it has one need less
pub left_taken :
    (i : ℕ) (done ns : List ℕ) → member i done ≡ false → Distinct ns → left ns done ≡ left ns (i ∷ done) + one_if (member i ns)
left_taken i done [] f d = unfold left in unfold member in refl
left_taken i done (n ∷ ns) f d = go (eqb i n) refl (member n done) refl (left_taken i done ns f d.1)
  where
    go : (b : Bool) → eqb i n ≡ b → (c : Bool) → member n done ≡ c → left ns done ≡ left ns (i ∷ done) + one_if (member i ns)
        → left (n ∷ ns) done ≡ left (n ∷ ns) (i ∷ done) + one_if (member i (n ∷ ns))
    go true e c g rest =
        let q : i ≡ n = eqb-true i n e in
        let m : member n done ≡ false = subst (λ (k : ℕ). member k done ≡ false) q f in
        let o : member i ns ≡ false = not_true (member i ns) (λ t. d.0 (subst (λ (k : ℕ). T (member k ns)) q t)) in
        rw (left_step n ns done false m, left_step n ns (i ∷ done) true (member_same n i done q), member_same i n ns (sym q))
        (omega (arith, (let r : left ns done ≡ left ns (i ∷ done) + one_if false = rw o at rest in r)))
    go false e true g rest =
        let q : i ≡ n → ⊥ = eqb-false i n e in
        rw (left_step n ns done true g, left_step n ns (i ∷ done) true (member_other n i done q ∙ g), member_other i n ns (λ p. q (sym p)))
        (omega (arith, rest))
    go false e false g rest =
        let q : i ≡ n → ⊥ = eqb-false i n e in
        rw (left_step n ns done false g, left_step n ns (i ∷ done) false (member_other n i done q ∙ g), member_other i n ns (λ p. q (sym p)))
        (omega (arith, rest))

pub left_lower : (i : ℕ) (done ns : List ℕ) → member i done ≡ false → Distinct ns → lower (member i ns) (left ns done) ≡ left ns (i ∷ done)
left_lower i done ns f d = go (member i ns) (left_taken i done ns f d)
  where
    go : (b : Bool) → left ns done ≡ left ns (i ∷ done) + one_if b → lower b (left ns done) ≡ left ns (i ∷ done)
    go true e = omega arith
    go false e = omega arith

pub left_some : (i : ℕ) (done ns : List ℕ) → member i done ≡ false → Distinct ns → member i ns ≡ true → 1 ≤ left ns done
left_some i done ns f d e =
    let q : left ns done ≡ left ns (i ∷ done) + 1 = subst (λ (b : Bool). left ns done ≡ left ns (i ∷ done) + one_if b) e (left_taken i done ns f d) in
    omega arith

one_zero : (x : ℕ) → eqb (x + 1) 1 ≡ eqb x 0
one_zero x = ap (λ (k : ℕ). eqb k 1) (let e : x + 1 ≡ suc x = omega arith in e) ∙ eqb-suc-suc x 0

-- its last need is the one just taken
pub last_need :
    (i w : ℕ) (done ns : List ℕ) → member i done ≡ false → Distinct ns → w ≡ left ns done → (member i ns && eqb w 1) ≡ (member i ns && within ns (i ∷ done))
last_need i w done ns f d e = go (member i ns) (left_taken i done ns f d)
  where
    go : (b : Bool) → left ns done ≡ left ns (i ∷ done) + one_if b → (b && eqb w 1) ≡ (b && within ns (i ∷ done))
    go true q = ap (λ (k : ℕ). eqb k 1) (e ∙ q) ∙ (one_zero (left ns (i ∷ done)) ∙ left_within ns (i ∷ done))
    go false q = refl

-- ---- the needs read from a row of bits

pub columns_step : (needs : List ℕ) (j i n : ℕ) → columns needs j i (suc n) ≡ joined (yes needs j i) i (columns needs j (suc i) n)
unfolding columns
columns_step needs j i n = go (yes needs j i)
  where
    go : (b : Bool) → ◌≡◌ {A = List ℕ} (elim b [ true ↦ i ∷ columns needs j (suc i) n | false ↦ columns needs j (suc i) n ]) (joined b i (columns needs j (suc i) n))
    go true = refl
    go false = refl

-- the needs are those places of the row that are yes
pub columns_filtered : (needs : List ℕ) (j i n : ℕ) → length (filter (yes needs j) (range_with_len i n)) ≡ length (columns needs j i n)
unfolding columns
columns_filtered needs j i zero = refl
columns_filtered needs j i (suc n) = rw (columns_step needs j i n, add-one i) (go (yes needs j i) _ _ (columns_filtered needs j (suc i) n))
  where
    go : (b : Bool) (l m : List ℕ) → length l ≡ length m → length (cond b (i ∷ l) l) ≡ length (joined b i m)
    go true l m h = ap suc h
    go false l m h = h

member_joined : (b : Bool) (i j : ℕ) (l : List ℕ) → (j ≡ i → ⊥) → member i (joined b j l) ≡ member i l
member_joined true i j l n = member_other i j l n
member_joined false i j l n = refl

columns_before : (needs : List ℕ) (j a n i : ℕ) → i < a → member i (columns needs j a n) ≡ false
columns_before needs j a zero i h = unfold columns in unfold member in refl
columns_before needs j a (suc n) i h =
    rw (columns_step needs j a n, member_joined (yes needs j a) i a (columns needs j (suc a) n) (λ e. omega arith)) (columns_before needs j (suc a) n i (omega arith))

pub columns_distinct : (needs : List ℕ) (j a n : ℕ) → Distinct (columns needs j a n)
columns_distinct needs j a zero = unfold columns in tt
columns_distinct needs j a (suc n) = rw (columns_step needs j a n) (go (yes needs j a) (columns_distinct needs j (suc a) n))
  where
    go : (b : Bool) → Distinct (columns needs j (suc a) n) → Distinct (joined b a (columns needs j (suc a) n))
    go true d = ((λ t. subst T (columns_before needs j (suc a) n a (omega arith)) t), d)
    go false d = d

pub columns_member : (needs : List ℕ) (j a n i : ℕ) → a ≤ i → i < a + n → member i (columns needs j a n) ≡ yes needs j i
columns_member needs j a zero i g h = absurd (omega arith)
columns_member needs j a (suc n) i g h = rw (columns_step needs j a n) (go (eqb a i) refl (yes needs j a) refl (λ l. columns_member needs j (suc a) n i l (omega arith)))
  where
    go : (b : Bool) → eqb a i ≡ b → (c : Bool) → yes needs j a ≡ c → (suc a ≤ i → member i (columns needs j (suc a) n) ≡ yes needs j i)
        → member i (joined c a (columns needs j (suc a) n)) ≡ yes needs j i
    go true e true f more = let q = eqb-true a i e in member_same i a (columns needs j (suc a) n) q ∙ subst (λ (k : ℕ). true ≡ yes needs j k) q (sym f)
    go true e false f more =
        let q = eqb-true a i e in
        columns_before needs j (suc a) n i (omega arith) ∙ subst (λ (k : ℕ). false ≡ yes needs j k) q (sym f)
    go false e c f more =
        let q : a ≡ i → ⊥ = eqb-false a i e in
        member_joined c i a (columns needs j (suc a) n) q ∙ more (let l : suc a ≤ i = omega (arith, q) in l)

pub row_member : (needs : List ℕ) (j count i : ℕ) → i < count → member i (columns needs j 0 count) ≡ yes needs j i
row_member needs j count i h = columns_member needs j 0 count i (omega arith) (omega arith)

-- ---- the table

pub rows_length : (needs : List ℕ) (count j n : ℕ) → length (rows_from needs count j n) ≡ n
unfolding rows_from
rows_length needs count j zero = refl
rows_length needs count j (suc n) = ap suc (rows_length needs count (suc j) n)

pub table_length : (needs : List ℕ) (count : ℕ) → length (table_of needs count) ≡ count
unfolding table_of
table_length needs count = rows_length needs count 0 count

-- those that join are those of the definition
pub joins_are :
    (needs : List ℕ) (count i : ℕ) (waiting done : List ℕ) → i < count → member i done ≡ false
    → ((k : ℕ) → k < count → get_or waiting k 0 ≡ left (columns needs k 0 count) done) → (j n : ℕ) → j + n ≤ count
    → joins needs i waiting j n ≡ joining j i (i ∷ done) (rows_from needs count j n)
unfolding joins joining rows_from
joins_are needs count i waiting done h f w j zero l = refl
joins_are needs count i waiting done h f w j (suc n) l =
    let row = columns needs j 0 count in
    let e : (yes needs j i && eqb (get_or waiting j 0) 1) ≡ (member i row && within row (i ∷ done)) =
    rw (sym (row_member needs j count i h)) (last_need i (get_or waiting j 0) done row f (columns_distinct needs j 0 count) (w j (omega arith)))
    in
    rw (e, joins_are needs count i waiting done h f w (suc j) n (omega arith)) (go (member i row && within row (i ∷ done)) (joining (suc j) i (i ∷ done) (rows_from needs count (suc j) n)))
  where
    go : (b : Bool) (l : List ℕ) → joined b j l ≡ elim b [ true ↦ j ∷ l | false ↦ l ]
    go true l = refl
    go false l = refl
