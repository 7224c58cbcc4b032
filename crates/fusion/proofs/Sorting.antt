-- Statements in order are as many and take as many rows as before (01, "Order"): every position is taken once. Assumes nothing.
use Prim.Native.Nat.{ℕ, zero, suc, ◌+◌, ◌≤◌, ◌<◌}
use native.Mathlib.Omega.{arith}
use mathlib.Core.Path.{◌≡◌, refl, sym, ◌∙◌, ap, subst}
use mathlib.Core.Bool.{Bool, true, false}
use mathlib.Core.List.{List, [], ◌∷◌, ◌++◌, reverse, reverse_aux}
use mathlib.Core.Logic.{inl, inr, ◌≢◌}
use lib.ListN.{length, get_or, take, length-reverse}
use lib.Seq.{take-suc, take_all}
use lib.Dec.{T, eqb, eqb→eq, eqb_refl}
use Rattle.spec_tree.specs.Outcome.{Outcome, ok, refused, by}
use Rattle.spec_cse.specs.Answer.{Intermediate, block, stmt_rows, stmts_rows}
use Rattle.spec_cse.specs.Order.{needs, member, positions_taken, nothing, at_each, topo_sort_intermediates}
use Rattle.laws.proofs.cse.OrderLaws.{member_cases, member_later, member_here, All, Distinct, taken_ok, none_missing, remove}

-- ---- sums at positions

abbrev total_at : (ℕ → ℕ) → List ℕ → ℕ
total_at f [] = 0
total_at f (i ∷ l) = f i + total_at f l

abbrev total_below : (ℕ → ℕ) → ℕ → ℕ
total_below f zero = 0
total_below f (suc n) = total_below f n + f n

ones : (l : List ℕ) → total_at (λ i. 1) l ≡ length l
ones [] = refl
ones (i ∷ l) = omega (arith, ones l)

-- without the last position
module _ (n : ℕ) where
  absent_stays : (l : List ℕ) → (T (member n l) → ⊥) → remove n l ≡ l
  unfolding remove
  absent_stays [] h = refl
  absent_stays (i ∷ l) h = go (eqb i n) (eqb→eq i n) (absent_stays l (λ t. h (member_later n i l t)))
    where
      go : (b : Bool) → (T b → i ≡ n) → remove n l ≡ l → ◌≡◌ {A = List ℕ} (elim b [ true ↦ remove n l | false ↦ i ∷ remove n l ]) (i ∷ l)
      go true e q = absurd (h (subst (λ (k : ℕ). T (member k (i ∷ l))) (e tt) (member_here i l)))
      go false e q = ap (λ (r : List ℕ). i ∷ r) q

  removed_total : (f : ℕ → ℕ) (l : List ℕ) → Distinct l → T (member n l) → total_at f l ≡ f n + total_at f (remove n l)
  unfolding remove member
  removed_total f [] d t = absurd t
  removed_total f (i ∷ l) d t = go (eqb i n) (eqb→eq i n) (λ e. subst (λ (k : ℕ). T (eqb i k)) e (eqb_refl i)) (λ u. removed_total f l d.1 u)
    where
      go :
          (b : Bool) → (T b → i ≡ n) → (i ≡ n → T b) → (T (member n l) → total_at f l ≡ f n + total_at f (remove n l))
          → f i + total_at f l ≡ f n + total_at f (elim b as (λ _. List ℕ) [ true ↦ remove n l | false ↦ i ∷ remove n l ])
      go true e g h =
          let q = e tt in
          let away = absent_stays l (λ u. d.0 (subst (λ (k : ℕ). T (member k l)) (sym q) u)) in
          let a : f i ≡ f n = ap f q in
          let b : total_at f (remove n l) ≡ total_at f l = ap (total_at f) away in
          omega (arith, a, b)
      go false e g h = elim (member_cases n i l t) [ inl q ↦ absurd (g q) | inr u ↦ omega (arith, h u) ]

  still_absent : (j : ℕ) (l : List ℕ) → (T (member j l) → ⊥) → T (member j (remove n l)) → ⊥
  unfolding remove member
  still_absent j [] h t = t
  still_absent j (i ∷ l) h t = go (eqb i n) t (still_absent j l (λ u. h (member_later j i l u)))
    where
      go : (b : Bool) → T (member j (elim b as (λ _. List ℕ) [ true ↦ remove n l | false ↦ i ∷ remove n l ])) → (T (member j (remove n l)) → ⊥) → ⊥
      go true t g = g t
      go false t g =
          elim (member_cases j i (remove n l) t) [ inl q ↦ h (subst (λ (k : ℕ). T (member k (i ∷ l))) q (member_here i l)) | inr u ↦ g u ]

  removed_distinct : (l : List ℕ) → Distinct l → Distinct (remove n l)
  unfolding remove
  removed_distinct [] d = tt
  removed_distinct (i ∷ l) d = go (eqb i n) (removed_distinct l d.1)
    where
      go : (b : Bool) → Distinct (remove n l) → Distinct (elim b as (λ _. List ℕ) [ true ↦ remove n l | false ↦ i ∷ remove n l ])
      go true h = h
      go false h = (still_absent i l d.0, h)

  removed_below : (l : List ℕ) → All (λ j. j < suc n) l → All (λ j. j < n) (remove n l)
  unfolding remove
  removed_below [] h = tt
  removed_below (i ∷ l) h = go (eqb i n) (λ e. subst (λ (k : ℕ). T (eqb i k)) e (eqb_refl i)) (removed_below l h.1)
    where
      go : (b : Bool) → (i ≡ n → T b) → All (λ j. j < n) (remove n l) → All (λ j. j < n) (elim b as (λ _. List ℕ) [ true ↦ remove n l | false ↦ i ∷ remove n l ])
      go true e g = g
      go false e g = (let f : i ≢ n = λ q. e q in let s = h.0 in omega (arith, f, s), g)

every_once : (f : ℕ → ℕ) (n : ℕ) (l : List ℕ) → Distinct l → All (λ j. j < n) l → length l ≡ n → total_at f l ≡ total_below f n
every_once f zero [] d s e = refl
every_once f zero (i ∷ l) d s e = absurd (omega arith)
every_once f (suc n) l d s e =
    let m = none_missing (suc n) l d s e n (omega arith) in
    let r = remove n l in
    let one = removed_total n (λ i. 1) l d m in
    let c : length r ≡ n = omega (arith, one, ones l, ones r, e) in
    let h = every_once f n r (removed_distinct n l d) (removed_below n l s) c in
    omega (arith, removed_total n f l d m, h)

-- ---- of statements

abbrev pub rows_each : List Intermediate → ℕ
rows_each [] = 0
rows_each (s ∷ l) = stmt_rows s + rows_each l

pub block_rows : (l : List Intermediate) → stmts_rows (block l) ≡ rows_each l
unfolding block stmts_rows
block_rows [] = refl
block_rows (s ∷ l) = ap (λ (n : ℕ). stmt_rows s + n) (block_rows l)

pub rows_append : (a b : List Intermediate) → rows_each (a ++ b) ≡ rows_each a + rows_each b
rows_append [] b = omega arith
rows_append (s ∷ a) b = omega (arith, rows_append a b)

reversed_rows : (a b : List Intermediate) → rows_each (reverse_aux a b) ≡ rows_each a + rows_each b
reversed_rows [] b = omega arith
reversed_rows (s ∷ a) b = omega (arith, reversed_rows a (s ∷ b))

module _ (l : List Intermediate) where
  abbrev row_at : ℕ → ℕ
  row_at i = stmt_rows (get_or l i nothing)

  each_rows : (order : List ℕ) → rows_each (at_each l order) ≡ total_at row_at order
  unfolding at_each
  each_rows [] = refl
  each_rows (i ∷ r) = ap (λ (n : ℕ). row_at i + n) (each_rows r)

  each_count : (order : List ℕ) → length (at_each l order) ≡ length order
  unfolding at_each
  each_count [] = refl
  each_count (i ∷ r) = ap suc (each_count r)

  below_rows : (n : ℕ) → n ≤ length l → total_below row_at n ≡ rows_each (take n l)
  below_rows zero h = refl
  below_rows (suc n) h =
      let e : rows_each (take (suc n) l) ≡ rows_each (take n l ++ (get_or l n nothing ∷ [])) = ap rows_each (take-suc l n nothing h) in
      omega (arith, below_rows n (omega arith), e, rows_append (take n l) (get_or l n nothing ∷ []))

  table_count : (r : List Intermediate) → length (needs l r) ≡ length r
  unfolding needs
  table_count [] = refl
  table_count (s ∷ r) = ap suc (table_count r)

  pub record SameRows (r : List Intermediate) : Type 0 where
    pub count : length r ≡ length l
    pub rows : rows_each r ≡ rows_each l

  sorted_by : (order : List ℕ) → length order ≡ length l → Distinct order → All (λ j. j < length l) order → SameRows (reverse (at_each l order))
  sorted_by order e d s =
      let a = reversed_rows (at_each l order) [] in
      let b = each_rows order in
      let c = every_once row_at (length l) order d s e in
      let f = below_rows (length l) (omega arith) in
      let g : rows_each (take (length l) l) ≡ rows_each l = ap rows_each (take_all (length l) l (omega arith)) in
      record { count = length-reverse (at_each l order) ∙ (each_count order ∙ e); rows = (let z : rows_each (reverse (at_each l order)) ≡ rows_each (at_each l order) + 0 = a in omega (arith, z, b, c, f, g)) }

  pub sorted_same : (r : List Intermediate) → topo_sort_intermediates l ≡ ok r → SameRows r
  unfolding topo_sort_intermediates
  sorted_same r h = go (eqb (length order) (length l)) (eqb→eq (length order) (length l)) h
    where
      order : List ℕ
      order = positions_taken (needs l l)

      go :
          (b : Bool) → (T b → length order ≡ length l)
          → ◌≡◌ {A = Outcome (List Intermediate)} (elim b [ true ↦ ok (reverse (at_each l order)) | false ↦ refused (by 11) ]) (ok r) → SameRows r
      go true e q =
          let t = taken_ok (needs l l) in
          let p : reverse (at_each l order) ≡ r = cc in
          subst SameRows p
          (sorted_by order (e tt) t.distinct (subst (λ (n : ℕ). All (λ j. j < n) order) (table_count l) t.inside))
      go false e q = let z : ◌≡◌ {A = ℕ} 0 1 = cc in absurd (omega arith)
