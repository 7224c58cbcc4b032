-- Where each statement needs only statements of a lower rank, the order takes all of them. Assumes nothing.
use Prim.Native.Nat.{ℕ, zero, suc, ◌+◌, ◌≤◌, ◌<◌}
use mathlib.Core.Path.{◌≡◌, sym, ◌∙◌, subst}
use mathlib.Core.Logic.{◌⊎◌, inl, inr}
use mathlib.Core.Bool.{Bool, true, false, ◌&&◌}
use mathlib.Core.List.{List, [], ◌∷◌}
use native.Mathlib.Omega.{arith}
use lib.ListN.{length, get_or}
use lib.Dec.{T, eqb, eqb→eq}
use Rattle.spec_cse.specs.Order.{member, within, free_from, joining, push, take_all, positions_taken}
use Rattle.laws.proofs.cse.OrderLaws.{member_cases, member_later, member_here, taken_ok, remove, at_most}
use Rattle.spec_tree.proofs.Logic.{and_both}
use Rattle.spec_tree.proofs.TreeLaws.{both, then_test}

-- ---- what joins the stack

push_member : (l stack : List ℕ) (j : ℕ) → T (member j l) ⊎ T (member j stack) → T (member j (push l stack))
unfolding push
push_member [] stack j (inl t) = absurd (unfold member in t)
push_member [] stack j (inr t) = t
push_member (i ∷ l) stack j (inl t) =
    elim (member_cases j i l t) [
      | inl e ↦ push_member l (i ∷ stack) j (inr (subst (λ (k : ℕ). T (member k (i ∷ stack))) e (member_here i stack)))
      | inr u ↦ push_member l (i ∷ stack) j (inl u)
    ]
push_member (i ∷ l) stack j (inr t) = push_member l (i ∷ stack) j (inr (member_later j i stack t))

moved : (i k : ℕ) (l : List ℕ) → T (member (suc i + k) l) → T (member (i + suc k) l)
moved i k l t = subst (λ (n : ℕ). T (member n l)) (let e : suc i + k ≡ i + suc k = omega arith in e) t

at_first : (i : ℕ) (l : List ℕ) → T (member (i + 0) (i ∷ l))
at_first i l = subst (λ (n : ℕ). T (member n (i ∷ l))) (let e : i ≡ i + 0 = omega arith in e) (member_here i l)

needs_none : (j : ℕ) (js : List ℕ) → T (within (j ∷ js) []) → ⊥
unfolding within member
needs_none j js t = t

free_member : (i : ℕ) (rows : List (List ℕ)) (k : ℕ) → k < length rows → T (within (get_or rows k []) []) → T (member (i + k) (free_from i rows))
unfolding free_from
free_member i [] k h w = absurd (omega arith)
free_member i ([] ∷ rows) zero h w = at_first i (free_from (suc i) rows)
free_member i ([] ∷ rows) (suc k) h w = member_later (i + suc k) i (free_from (suc i) rows) (moved i k (free_from (suc i) rows) (free_member (suc i) rows k (omega arith) w))
free_member i ((j ∷ js) ∷ rows) zero h w = absurd (needs_none j js w)
free_member i ((j ∷ js) ∷ rows) (suc k) h w = moved i k (free_from (suc i) rows) (free_member (suc i) rows k (omega arith) w)

joining_member :
    (i t : ℕ) (done : List ℕ) (rows : List (List ℕ)) (k : ℕ) → k < length rows → T (member t (get_or rows k [])) → T (within (get_or rows k []) done)
    → T (member (i + k) (joining i t done rows))
unfolding joining
joining_member i t done [] k h m w = absurd (omega arith)
joining_member i t done (ns ∷ rows) zero h m w = go (member t ns && within ns done) (and_both (member t ns) (within ns done) m w)
  where
    go : (b : Bool) → T b → T (member (i + 0) (elim b [ true ↦ i ∷ joining (suc i) t done rows | false ↦ joining (suc i) t done rows ]))
    go true u = at_first i (joining (suc i) t done rows)
    go false u = absurd u
joining_member i t done (ns ∷ rows) (suc k) h m w = go (member t ns && within ns done) (moved i k (joining (suc i) t done rows) (joining_member (suc i) t done rows k (omega arith) m w))
  where
    go : (b : Bool) → T (member (i + suc k) (joining (suc i) t done rows)) → T (member (i + suc k) (elim b [ true ↦ i ∷ joining (suc i) t done rows | false ↦ joining (suc i) t done rows ]))
    go true u = member_later (i + suc k) i (joining (suc i) t done rows) u
    go false u = u

within_split : (ns done : List ℕ) (i : ℕ) → T (within ns (i ∷ done)) → T (within ns done) ⊎ T (member i ns)
unfolding within
within_split [] done i w = inl tt
within_split (n ∷ ns) done i w =
    let h = both (member n (i ∷ done)) (within ns (i ∷ done)) w in
    elim (member_cases n i done h.0) [
      | inl e ↦ inr (subst (λ (k : ℕ). T (member k (n ∷ ns))) (sym e) (member_here n ns))
      | inr u ↦ elim (within_split ns done i h.1) [
        | inl v ↦ inl (then_test (member n done) (within ns done) u v)
        | inr m ↦ inr (member_later i n ns m)
      ]
    ]

within_all : (ns done : List ℕ) → ((j : ℕ) → T (member j ns) → T (member j done)) → T (within ns done)
unfolding within
within_all [] done f = tt
within_all (n ∷ ns) done f = then_test (member n done) (within ns done) (f n (member_here n ns)) (within_all ns done (λ j t. f j (member_later j n ns t)))

-- ---- as many positions as there are

remove_keeps : (n i : ℕ) (l : List ℕ) → (i ≡ n → ⊥) → T (member i l) → T (member i (remove n l))
unfolding remove
remove_keeps n i [] f t = t
remove_keeps n i (j ∷ l) f t = go (eqb j n) (eqb→eq j n) (member_cases i j l t) (λ u. remove_keeps n i l f u)
  where
    go : (b : Bool) → (T b → j ≡ n) → (j ≡ i) ⊎ T (member i l) → (T (member i l) → T (member i (remove n l))) → T (member i (elim b [ true ↦ remove n l | false ↦ j ∷ remove n l ]))
    go true e (inl q) k = absurd (f (sym q ∙ e tt))
    go true e (inr u) k = k u
    go false e (inl q) k = subst (λ (k : ℕ). T (member k (j ∷ remove n l))) q (member_here j (remove n l))
    go false e (inr u) k = member_later i j (remove n l) (k u)

remove_most : (n : ℕ) (l : List ℕ) → length (remove n l) ≤ length l
unfolding remove
remove_most n [] = omega arith
remove_most n (j ∷ l) = go (eqb j n) (remove_most n l)
  where
    go : (b : Bool) → length (remove n l) ≤ length l → length {A = ℕ} (elim b [ true ↦ remove n l | false ↦ j ∷ remove n l ]) ≤ suc (length l)
    go true h = omega arith
    go false h = omega arith

remove_fewer : (n : ℕ) (l : List ℕ) → T (member n l) → suc (length (remove n l)) ≤ length l
unfolding remove member
remove_fewer n [] t = absurd t
remove_fewer n (j ∷ l) t = go (eqb j n) t (λ u. remove_fewer n l u)
  where
    go : (b : Bool) → T (elim b [ true ↦ true | false ↦ member n l ]) → (T (member n l) → suc (length (remove n l)) ≤ length l) → suc (length {A = ℕ} (elim b [ true ↦ remove n l | false ↦ j ∷ remove n l ])) ≤ suc (length l)
    go true t k = (let q = remove_most n l in omega arith)
    go false t k = (let q = k t in omega arith)

as_many : (n : ℕ) (l : List ℕ) → ((i : ℕ) → i < n → T (member i l)) → n ≤ length l
as_many zero l f = omega arith
as_many (suc n) l f =
    let a = as_many n (remove n l) (λ i h. remove_keeps n i l (λ e. omega arith) (f i (omega arith))) in
    let b = remove_fewer n l (f n (omega arith)) in
    omega arith

-- ---- the order

module _ (table : List (List ℕ)) where
  -- each position whose needs are met is taken or waits
  Complete : List ℕ → List ℕ → Type 0
  Complete stack done = (j : ℕ) → j < length table → T (within (get_or table j []) done) → T (member j done) ⊎ T (member j stack)

  complete_step : (i : ℕ) (stack done : List ℕ) → Complete (i ∷ stack) done → Complete (push (joining 0 i (i ∷ done) table) stack) (i ∷ done)
  unfolding Complete
  complete_step i stack done C j h w =
      elim (within_split (get_or table j []) done i w) [
        | inl v ↦ waited (C j h v)
        | inr m ↦ inr
            (push_member (joining 0 i (i ∷ done) table) stack j
            (inl (subst (λ (k : ℕ). T (member k (joining 0 i (i ∷ done) table))) (let e : 0 + j ≡ j = omega arith in e) (joining_member 0 i (i ∷ done) table j h m w))))
      ]
    where
      waited : T (member j done) ⊎ T (member j (i ∷ stack)) → T (member j (i ∷ done)) ⊎ T (member j (push (joining 0 i (i ∷ done) table) stack))
      waited (inl m) = inl (member_later j i done m)
      waited (inr m) =
          elim (member_cases j i stack m) [
            | inl e ↦ inl (subst (λ (k : ℕ). T (member k (i ∷ done))) e (member_here i done))
            | inr u ↦ inr (push_member (joining 0 i (i ∷ done) table) stack j (inr u))
          ]

  complete_end : (fuel : ℕ) (stack done : List ℕ) → Complete stack done → (length (take_all fuel table stack done) ≡ fuel + length done) ⊎ Complete [] (take_all fuel table stack done)
  unfolding take_all
  complete_end zero stack done C = inl (omega arith)
  complete_end (suc fuel) [] done C = inr C
  complete_end (suc fuel) (i ∷ stack) done C =
      elim (complete_end fuel (push (joining 0 i (i ∷ done) table) stack) (i ∷ done) (complete_step i stack done C)) [
        | inl e ↦ inl (omega (arith, e))
        | inr D ↦ inr D
      ]

  module _ (rank : ℕ → ℕ) (falls : (i j : ℕ) → i < length table → T (member j (get_or table i [])) → (j < length table) × (rank j < rank i)) where
    each_done : (done : List ℕ) → Complete [] done → (m i : ℕ) → rank i < m → i < length table → T (member i done)
    unfolding Complete
    each_done done C zero i r h = absurd (omega arith)
    each_done done C (suc m) i r h =
        elim (C i h (within_all (get_or table i []) done (λ j t. let q = falls i j h t in each_done done C m j (let a = q.1 in omega arith) q.0))) [
          | inl t ↦ t
          | inr u ↦ absurd (unfold member in u)
        ]

    pub all_taken : length (positions_taken table) ≡ length table
    unfolding positions_taken Complete
    all_taken =
        elim (complete_end (length table) (push (free_from 0 table) []) []
        (λ j h w. inr (push_member (free_from 0 table) [] j (inl (subst (λ (k : ℕ). T (member k (free_from 0 table))) (let e : 0 + j ≡ j = omega arith in e) (free_member 0 table j h w)))))) [
          | inl e ↦ omega (arith, e)
          | inr C ↦ (let K = taken_ok table in
              let a = as_many (length table) (take_all (length table) table (push (free_from 0 table) []) []) (λ i h. each_done (take_all (length table) table (push (free_from 0 table) []) []) C (suc (rank i)) i (omega arith) h) in
              let b = at_most (length table) (take_all (length table) table (push (free_from 0 table) []) []) K.distinct K.inside in
              omega arith)
        ]
