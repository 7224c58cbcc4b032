-- The order of statements: each position comes after those that it needs, no position comes twice, where none is missing all are there, and the fuel is enough.
-- Assumes nothing.
use Prim.Native.Nat.{ℕ, zero, suc, ◌+◌, ◌≤◌, ◌<◌, ◌-◌}
use mathlib.Core.Path.{◌≡◌, refl, sym, ◌∙◌, ap, subst}
use mathlib.Core.Logic.{◌⊎◌, inl, inr, ◌≢◌}
use mathlib.Core.Bool.{Bool, true, false, ◌&&◌}
use mathlib.Core.List.{List, [], ◌∷◌, reverse_aux}
use native.Mathlib.Omega.{arith}
use native.Mathlib.Nat.{zero-add, add-zero, suc-add}
use lib.ListN.{length, get_or}
use lib.Dec.{T, eqb, eqb→eq, eqb_refl}
use Rattle.spec_cse.specs.Order.{member, within, free_from, joining, push, take_all, positions_taken}
use Rattle.spec_tree.proofs.Logic.{and_left, and_right}
use Rattle.spec_tree.proofs.TreeLaws.{both, then_test}

-- ---- members

pub member_cases : (i j : ℕ) (l : List ℕ) → T (member i (j ∷ l)) → (j ≡ i) ⊎ T (member i l)
unfolding member
member_cases i j l t = go (eqb j i) (eqb→eq j i) t
  where
    go : (b : Bool) → (T b → j ≡ i) → T (elim b [ true ↦ true | false ↦ member i l ]) → (j ≡ i) ⊎ T (member i l)
    go true f t = inl (f tt)
    go false f t = inr t

pub member_later : (i j : ℕ) (l : List ℕ) → T (member i l) → T (member i (j ∷ l))
unfolding member
member_later i j l t = go (eqb j i)
  where
    go : (b : Bool) → T (elim b [ true ↦ true | false ↦ member i l ])
    go true = tt
    go false = t

pub member_here : (i : ℕ) (l : List ℕ) → T (member i (i ∷ l))
unfolding member
member_here i l = go (eqb i i) (eqb_refl i)
  where
    go : (b : Bool) → T b → T (elim b [ true ↦ true | false ↦ member i l ])
    go true t = tt
    go false t = absurd t

pub within_member : (ns l : List ℕ) (j : ℕ) → T (within ns l) → T (member j ns) → T (member j l)
unfolding within
within_member [] l j w t = absurd (unfold member in t)
within_member (n ∷ ns) l j w t =
    let h = both (member n l) (within ns l) w in
    elim (member_cases j n ns t) [ inl e ↦ subst (λ (k : ℕ). T (member k l)) e h.0 | inr u ↦ within_member ns l j h.1 u ]

pub within_later : (ns l : List ℕ) (j : ℕ) → T (within ns l) → T (within ns (j ∷ l))
unfolding within
within_later [] l j w = tt
within_later (n ∷ ns) l j w =
    let h = both (member n l) (within ns l) w in
    then_test (member n (j ∷ l)) (within ns (j ∷ l)) (member_later n j l h.0) (within_later ns l j h.1)

-- ---- lists of positions

abbrev pub All : (ℕ → Type 0) → List ℕ → Type 0
All P [] = Unit {0}
All P (i ∷ l) = P i × All P l

pub all_map : (P Q : ℕ → Type 0) → ((i : ℕ) → P i → Q i) → (l : List ℕ) → All P l → All Q l
all_map P Q f [] h = tt
all_map P Q f (i ∷ l) h = (f i h.0, all_map P Q f l h.1)

pub all_at : (P : ℕ → Type 0) (l : List ℕ) (i : ℕ) → All P l → T (member i l) → P i
unfolding member
all_at P [] i h t = absurd t
all_at P (j ∷ l) i h t = elim (member_cases i j l t) [ inl e ↦ subst P e h.0 | inr u ↦ all_at P l i h.1 u ]

abbrev pub Distinct : List ℕ → Type 0
Distinct [] = Unit {0}
Distinct (i ∷ l) = (T (member i l) → ⊥) × Distinct l

module _ (table : List (List ℕ)) where
  abbrev pub Ordered : List ℕ → Type 0
  Ordered [] = Unit {0}
  Ordered (i ∷ l) = T (within (get_or table i []) l) × Ordered l

  -- a position whose needs are all met
  abbrev Ready : List ℕ → ℕ → Type 0
  Ready done j = T (within (get_or table j []) done) × (j < length table)

  record Inv (stack done : List ℕ) : Type 0 where
    distinct_stack : Distinct stack
    distinct_done : Distinct done
    apart : All (λ j. T (member j done) → ⊥) stack
    ready : All (Ready done) stack
    ordered : Ordered done
    inside : All (λ j. j < length table) done

  -- positions from i on, each with a property, and all different
  abbrev From : ℕ → (ℕ → Type 0) → List ℕ → Type 0
  From i P l = All (λ j. P j × (i ≤ j)) l × Distinct l

  from_later : (i : ℕ) (P : ℕ → Type 0) (l : List ℕ) → From (suc i) P l → From i P l
  from_later i P l h = (all_map (λ j. P j × (suc i ≤ j)) (λ j. P j × (i ≤ j)) (λ j q. (q.0, let k = q.1 in omega arith)) l h.0, h.1)

  from_here : (i : ℕ) (P : ℕ → Type 0) (l : List ℕ) → P i → From (suc i) P l → From i P (i ∷ l)
  from_here i P l p h =
      (((p, omega arith), (from_later i P l h).0), ((λ t. let k = (all_at (λ j. P j × (suc i ≤ j)) l i h.0 t).1 in omega arith), h.1))

  from_step : (b : Bool) (i : ℕ) (P : ℕ → Type 0) (l : List ℕ) → (T b → P i) → From (suc i) P l → From i P (elim b [ true ↦ i ∷ l | false ↦ l ])
  from_step true i P l p h = from_here i P l (p tt) h
  from_step false i P l p h = from_later i P l h

  row_at : (i : ℕ) (ns : List ℕ) (rows : List (List ℕ)) → ((k : ℕ) → get_or (ns ∷ rows) k [] ≡ get_or table (i + k) []) → ns ≡ get_or table i []
  row_at i ns rows same = same 0 ∙ ap (λ (n : ℕ). get_or table n []) (add-zero i)

  row_later : (i : ℕ) (ns : List ℕ) (rows : List (List ℕ)) → ((k : ℕ) → get_or (ns ∷ rows) k [] ≡ get_or table (i + k) []) → (k : ℕ) → get_or rows k [] ≡ get_or table (suc i + k) []
  row_later i ns rows same k = same (suc k) ∙ ap (λ (n : ℕ). get_or table n []) (let e : i + suc k ≡ suc i + k = omega arith in e)

  -- what joins the stack: it needs the one just taken
  joining_from :
      (i t : ℕ) (done : List ℕ) (rows : List (List ℕ)) → ((k : ℕ) → get_or rows k [] ≡ get_or table (i + k) []) → i + length rows ≡ length table
      → From i (λ j. T (member t (get_or table j [])) × Ready done j) (joining i t done rows)
  unfolding joining
  joining_from i t done [] same len = (tt, tt)
  joining_from i t done (ns ∷ rows) same len =
      from_step (member t ns && within ns done) i (λ j. T (member t (get_or table j [])) × Ready done j) (joining (suc i) t done rows)
      (λ u. let e = row_at i ns rows same in (
        subst (λ (r : List ℕ). T (member t r)) e (and_left (member t ns) (within ns done) u),
        (subst (λ (r : List ℕ). T (within r done)) e (and_right (member t ns) (within ns done) u), omega (arith, len)),
      ))
      (joining_from (suc i) t done rows (row_later i ns rows same) (omega (arith, len)))

  free_positions :
      (i : ℕ) (rows : List (List ℕ)) → ((k : ℕ) → get_or rows k [] ≡ get_or table (i + k) []) → i + length rows ≡ length table
      → From i (Ready []) (free_from i rows)
  unfolding free_from within
  free_positions i [] same len = (tt, tt)
  free_positions i ([] ∷ rows) same len =
      from_here i (Ready []) (free_from (suc i) rows) (subst (λ (r : List ℕ). T (within r [])) (row_at i [] rows same) tt, omega (arith, len))
      (free_positions (suc i) rows (row_later i [] rows same) (omega (arith, len)))
  free_positions i ((j ∷ js) ∷ rows) same len =
      from_later i (Ready []) (free_from (suc i) rows) (free_positions (suc i) rows (row_later i (j ∷ js) rows same) (omega (arith, len)))

  -- pushed one by one
  pushed :
      (l stack done : List ℕ) → Inv stack done → Distinct l → All (λ j. Ready done j × (T (member j done) → ⊥) × (T (member j stack) → ⊥)) l → Inv (push l stack) done
  unfolding push
  pushed [] stack done v d h = v
  pushed (j ∷ l) stack done v d h =
      pushed l (j ∷ stack) done
      (record {
        distinct_stack = (h.0.2, v.distinct_stack);
        distinct_done = v.distinct_done;
        apart = (h.0.1, v.apart);
        ready = (h.0.0, v.ready);
        ordered = v.ordered;
        inside = v.inside;
      })
      d.1 (keep l d.0 h.1)
    where
      other : (k : ℕ) → (j ≡ k → ⊥) → (T (member k stack) → ⊥) → T (member k (j ∷ stack)) → ⊥
      other k f g t = elim (member_cases k j stack t) [ inl e ↦ f e | inr u ↦ g u ]

      keep : (l : List ℕ) → (T (member j l) → ⊥) → All (λ j. Ready done j × (T (member j done) → ⊥) × (T (member j stack) → ⊥)) l
          → All (λ i. Ready done i × (T (member i done) → ⊥) × (T (member i (j ∷ stack)) → ⊥)) l
      keep [] f h = tt
      keep (k ∷ l) f h = (
        (h.0.0, h.0.1, other k (λ e. f (subst (λ (n : ℕ). T (member j (n ∷ l))) e (member_here j l))) h.0.2),
        keep l (λ t. f (member_later j k l t)) h.1,
      )

  -- the top is taken
  popped : (i : ℕ) (stack done : List ℕ) → Inv (i ∷ stack) done → Inv stack (i ∷ done)
  popped i stack done v =
      record {
        distinct_stack = v.distinct_stack.1;
        distinct_done = (v.apart.0, v.distinct_done);
        apart = away stack v.distinct_stack.0 v.apart.1;
        ready = all_map (Ready done) (Ready (i ∷ done)) (λ j r. (within_later (get_or table j []) done i r.0, r.1)) stack v.ready.1;
        ordered = (v.ready.0.0, v.ordered);
        inside = (v.ready.0.1, v.inside);
      }
    where
      away : (l : List ℕ) → (T (member i l) → ⊥) → All (λ j. T (member j done) → ⊥) l → All (λ j. T (member j (i ∷ done)) → ⊥) l
      away [] f h = tt
      away (j ∷ l) f h = (
        (λ t. elim (member_cases j i done t) [ inl e ↦ f (subst (λ (n : ℕ). T (member i (n ∷ l))) e (member_here i l)) | inr u ↦ h.0 u ]),
        away l (λ t. f (member_later i j l t)) h.1,
      )

  -- of a position taken, the needs were taken too
  ordered_at : (done : List ℕ) (j t : ℕ) → Ordered done → T (member j done) → T (member t (get_or table j [])) → T (member t done)
  unfolding member
  ordered_at [] j t o m u = absurd m
  ordered_at (i ∷ done) j t o m u =
      elim (member_cases j i done m) [
        | inl e ↦ member_later t i done (within_member (get_or table i []) done t o.0 (subst (λ (n : ℕ). T (member t (get_or table n []))) (sym e) u))
        | inr w ↦ member_later t i done (ordered_at done j t o.1 w u)
      ]

  stepped : (i : ℕ) (stack done : List ℕ) → Inv (i ∷ stack) done → Inv (push (joining 0 i (i ∷ done) table) stack) (i ∷ done)
  stepped i stack done v =
      pushed (joining 0 i (i ∷ done) table) stack (i ∷ done) (popped i stack done v) j.1
      (all_map _ _ (λ k q. (q.0.1, not_done k q.0.0, not_waiting k q.0.0)) (joining 0 i (i ∷ done) table) j.0)
    where
      j : From 0 (λ j. T (member i (get_or table j [])) × Ready (i ∷ done) j) (joining 0 i (i ∷ done) table)
      j = joining_from 0 i (i ∷ done) table (λ k. ap (λ (n : ℕ). get_or table n []) (let e : k ≡ 0 + k = omega arith in e)) (omega arith)

      not_done : (k : ℕ) → T (member i (get_or table k [])) → T (member k (i ∷ done)) → ⊥
      not_done k u t =
          elim (member_cases k i done t) [
            | inl e ↦ v.apart.0 (within_member (get_or table i []) done i v.ready.0.0 (subst (λ (n : ℕ). T (member i (get_or table n []))) (sym e) u))
            | inr w ↦ v.apart.0 (ordered_at done k i v.ordered w u)
          ]

      not_waiting : (k : ℕ) → T (member i (get_or table k [])) → T (member k stack) → ⊥
      not_waiting k u t = v.apart.0 (within_member (get_or table k []) done i (all_at (Ready done) stack k v.ready.1 t).0 u)

  -- what was taken
  pub record Taken (done : List ℕ) : Type 0 where
    pub distinct : Distinct done
    pub ordered : Ordered done
    pub inside : All (λ j. j < length table) done

  taken_of : (stack done : List ℕ) → Inv stack done → Taken done
  taken_of stack done v = record { distinct = v.distinct_done; ordered = v.ordered; inside = v.inside }

  take_all_taken : (fuel : ℕ) (stack done : List ℕ) → Inv stack done → Taken (take_all fuel table stack done)
  unfolding take_all
  take_all_taken zero stack done v = taken_of stack done v
  take_all_taken (suc fuel) [] done v = taken_of [] done v
  take_all_taken (suc fuel) (i ∷ stack) done v =
      take_all_taken fuel (push (joining 0 i (i ∷ done) table) stack) (i ∷ done) (stepped i stack done v)

  started : Inv (push (free_from 0 table) []) []
  started =
      pushed (free_from 0 table) [] []
      (record { distinct_stack = tt; distinct_done = tt; apart = tt; ready = tt; ordered = tt; inside = tt }) f.1
      (all_map _ _ (λ k q. (q.0, none k, none k)) (free_from 0 table) f.0)
    where
      f : From 0 (Ready []) (free_from 0 table)
      f = free_positions 0 table (λ k. ap (λ (n : ℕ). get_or table n []) (let e : k ≡ 0 + k = omega arith in e)) (omega arith)

      none : (k : ℕ) → T (member k []) → ⊥
      none k t = unfold member in t

  pub taken_ok : Taken (positions_taken table)
  unfolding positions_taken
  taken_ok = take_all_taken (length table) (push (free_from 0 table) []) [] started

-- ---- none missing: as many different positions as there are positions

unfoldable pub remove : ℕ → List ℕ → List ℕ
remove n [] = []
remove n (i ∷ l) = elim (eqb i n) [ true ↦ remove n l | false ↦ i ∷ remove n l ]

Fewer : ℕ → List ℕ → List ℕ → Type 0
Fewer n l r = ((k : ℕ) → T (member k r) → T (member k l)) × Distinct r × All (λ j. j < n) r × ((T (member n l) → ⊥) → length r ≡ length l) × (length l ≤ suc (length r))

fewer_step :
    (n i : ℕ) (l r : List ℕ) (b : Bool) → (T b → i ≡ n) → (i ≡ n → T b) → (T (member i l) → ⊥) → i < suc n → Fewer n l r
    → Fewer n (i ∷ l) (elim b [ true ↦ r | false ↦ i ∷ r ])
unfolding Fewer
fewer_step n i l r true e f d s h = (
  (λ k t. member_later k i l (h.0 k t)),
  h.1,
  h.2,
  (λ g. absurd (g (subst (λ (k : ℕ). T (member k (i ∷ l))) (e tt) (member_here i l)))),
  (let q : length r ≡ length l = h.3 (λ t. d (subst (λ (k : ℕ). T (member k l)) (sym (e tt)) t)) in omega arith),
)
fewer_step n i l r false e f d s h = (
  (λ k t. elim (member_cases k i r t) [ inl q ↦ subst (λ (j : ℕ). T (member j (i ∷ l))) q (member_here i l) | inr u ↦ member_later k i l (h.0 k u) ]),
  ((λ t. d (h.0 i t)), h.1),
  ((let g : i ≢ n = λ q. f q in omega arith), h.2),
  (λ g. ap suc (h.3 (λ t. g (member_later n i l t)))),
  (let q = h.4 in omega arith),
)

fewer : (n : ℕ) (l : List ℕ) → Distinct l → All (λ j. j < suc n) l → Fewer n l (remove n l)
unfolding Fewer remove
fewer n [] d s = ((λ k t. t), tt, tt, (λ g. refl), omega arith)
fewer n (i ∷ l) d s =
    fewer_step n i l (remove n l) (eqb i n) (eqb→eq i n) (λ e. subst (λ (k : ℕ). T (eqb i k)) e (eqb_refl i)) d.0 s.0 (fewer n l d.1 s.1)

pub at_most : (n : ℕ) (l : List ℕ) → Distinct l → All (λ j. j < n) l → length l ≤ n
unfolding Fewer
at_most zero [] d s = omega arith
at_most zero (i ∷ l) d s = let q = s.0 in absurd (omega arith)
at_most (suc n) l d s =
    let h = fewer n l d s in
    let q = at_most n (remove n l) h.1 h.2 in
    let r = h.4 in
    omega arith

pub none_missing : (n : ℕ) (l : List ℕ) → Distinct l → All (λ j. j < n) l → length l ≡ n → (i : ℕ) → i < n → T (member i l)
none_missing n l d s e i h = go (member i l) refl
  where
    go : (b : Bool) → member i l ≡ b → T b
    go true q = tt
    go false q = let m = at_most n (i ∷ l) ((λ t. subst T q t), d) (h, s) in omega arith

-- ---- the fuel: as many steps as there are positions are enough

module _ (table : List (List ℕ)) where
  one_more : (fuel : ℕ) (stack done : List ℕ) → Inv table stack done → length table ≤ fuel + length done → take_all (suc fuel) table stack done ≡ take_all fuel table stack done
  unfolding take_all
  one_more zero [] done v h = refl
  one_more zero (i ∷ stack) done v h =
      let p = popped table i stack done v in
      let m = at_most (length table) (i ∷ done) p.distinct_done p.inside in
      absurd (omega arith)
  one_more (suc fuel) [] done v h = refl
  one_more (suc fuel) (i ∷ stack) done v h = one_more fuel (push (joining 0 i (i ∷ done) table) stack) (i ∷ done) (stepped table i stack done v) (omega arith)

  pub taken_enough : (more : ℕ) → take_all (more + length table) table (push (free_from 0 table) []) [] ≡ positions_taken table
  unfolding positions_taken
  taken_enough zero = rw (zero-add (length table)) refl
  taken_enough (suc more) =
      rw (suc-add more (length table)) (one_more (more + length table) (push (free_from 0 table) []) [] (started table) (omega arith) ∙ taken_enough more)

-- ---- every entry of a list

pub all_get_d : (P : ℕ → Type 0) (l : List ℕ) → All P l → (q : ℕ) → q < length l → P (get_or l q 0)
all_get_d P [] h q i = absurd (omega arith)
all_get_d P (j ∷ l) h zero i = h.0
all_get_d P (j ∷ l) h (suc q) i = all_get_d P l h.1 q (omega arith)

pub all_turned : (P : ℕ → Type 0) (a b : List ℕ) → All P a → All P b → All P (reverse_aux a b)
all_turned P [] b g h = h
all_turned P (j ∷ a) b g h = all_turned P a (j ∷ b) g.1 (g.0, h)
