-- The bindings of rounds and reciprocals read one another in no ring: each has a rank, and reads only names of lower rank. A new name takes the
-- rank just above what it stands for, which is below every binding that held it. Assumes nothing.
use Prim.Native.Nat.{ℕ, zero, suc, ◌+◌, ◌*◌, ◌≤◌, ◌<◌, max}
use mathlib.Core.Path.{◌≡◌, refl, sym, subst}
use mathlib.Core.Bool.{Bool, true, false, ◌&&◌, cond}
use mathlib.Core.Option.{Option, none, some}
use mathlib.Core.List.{List, [], ◌∷◌, ◌++◌}
use native.Mathlib.Omega.{arith}
use lib.IntN.{pos}
use lib.ListN.{length}
use lib.Dec.{T, eqb, ltb, eqb→eq, eqb_refl, ltb→lt, lt→ltb}
use Rattle.spec_tree.specs.Outcome.{Outcome, ok, refused, ◌>>=◌, each}
use Rattle.spec_tree.specs.Tree.{Name, input, xname, mname, Tree, Forest, Sym, Const, Op, nil, ◌◂◌}
use Rattle.spec_tree.specs.Kinds.{Div}
use Rattle.spec_tree.specs.Facts.{all_operations, all_nodes}
use Rattle.spec_rewrite.specs.Rewrite.{replace, replace_divisor}
use Rattle.spec_cse.specs.Extract.{Binding, State, Candidate, bound, roots, best, replace_bound, extract, rounds, extract_all, divisors, distinct, shared_divisors, sort_by_text, replace_divisor_each, replace_divisor_bound, bind_reciprocal, bind_reciprocals, reciprocals}
use Rattle.spec_tree.proofs.Logic.{and_left, and_right, and_both}
use Rattle.spec_rewrite.proofs.Names.{holds, holds_each, holds_all, holds_append, weaken, weaken_all, all_nodes_hold, Holds, replace_holds, divisor_holds}
use Rattle.laws.proofs.cse.RoundsValue.{Chosen, chosen, divisors_known, distinct_known, shared_known, sort_known}
use Rattle.laws.proofs.cse.RoundsCount.{made_before, made_suc, made_new, length_append}

-- ---- names below a rank

-- every symbol but `__xN` with N from n on, or of rank c and more
unfoldable pub low : (ℕ → ℕ) → ℕ → ℕ → Name → Bool
low r n c (input s) = true
low r n c (xname j) = ltb j n && ltb (r j) c
low r n c (mname j) = true

-- the least rank above an expression's names
mutual
  pub ceiling : (ℕ → ℕ) → Tree → ℕ
  ceiling r (Sym (input s)) = 0
  ceiling r (Sym (xname j)) = suc (r j)
  ceiling r (Sym (mname j)) = 0
  ceiling r (Const c) = 0
  ceiling r (Op k f) = ceilings r f

  ceilings : (ℕ → ℕ) → Forest → ℕ
  ceilings r nil = 0
  ceilings r (t ◂ f) = max (ceiling r t) (ceilings r f)

module _ (r : ℕ → ℕ) (n c : ℕ) where
  mutual
    unfolding ceiling holds low

    ceiling_least : (e : Tree) → T (holds (low r n c) e) → ceiling r e ≤ c
    ceiling_least (Sym (input s)) h = omega arith
    ceiling_least (Sym (xname j)) h = (let q = ltb→lt (r j) c (and_right (ltb j n) (ltb (r j) c) h) in omega arith)
    ceiling_least (Sym (mname j)) h = omega arith
    ceiling_least (Const k) h = omega arith
    ceiling_least (Op k f) h = ceilings_least f h

    ceilings_least : (f : Forest) → T (holds_each (low r n c) f) → ceilings r f ≤ c
    ceilings_least nil h = omega arith
    ceilings_least (t ◂ f) h =
        (let a = ceiling_least t (and_left (holds (low r n c) t) (holds_each (low r n c) f) h) in
        let b = ceilings_least f (and_right (holds (low r n c) t) (holds_each (low r n c) f) h) in
        omega arith)

  mutual
    unfolding ceiling holds low made_before

    ceiling_low : (e : Tree) → T (holds (made_before n) e) → ceiling r e ≤ c → T (holds (low r n c) e)
    ceiling_low (Sym (input s)) h l = tt
    ceiling_low (Sym (xname j)) h l = and_both (ltb j n) (ltb (r j) c) h (lt→ltb (r j) c (omega arith))
    ceiling_low (Sym (mname j)) h l = tt
    ceiling_low (Const k) h l = tt
    ceiling_low (Op k f) h l = ceilings_low f h l

    ceilings_low : (f : Forest) → T (holds_each (made_before n) f) → ceilings r f ≤ c → T (holds_each (low r n c) f)
    ceilings_low nil h l = tt
    ceilings_low (t ◂ f) h l =
        and_both (holds (low r n c) t) (holds_each (low r n c) f) (ceiling_low t (and_left (holds (made_before n) t) (holds_each (made_before n) f) h) (omega arith))
        (ceilings_low f (and_right (holds (made_before n) t) (holds_each (made_before n) f) h) (omega arith))

  low_made : (m : Name) → T (low r n c m) → T (made_before n m)
  unfolding low made_before
  low_made (input s) h = tt
  low_made (xname j) h = and_left (ltb j n) (ltb (r j) c) h
  low_made (mname j) h = tt

-- the bindings from position i on, each over names of lower rank
abbrev pub Ranked : (ℕ → ℕ) → ℕ → ℕ → List Binding → Type 0
Ranked r n i [] = Unit {0}
Ranked r n i (b ∷ l) = T (holds (low r n (r i)) b.expr) × Ranked r n (suc i) l

ranked_bound : (r : ℕ → ℕ) (n i : ℕ) (l : List Binding) → Ranked r n i l → T (holds_all (made_before n) (bound l))
unfolding bound holds_all
ranked_bound r n i [] h = tt
ranked_bound r n i (b ∷ l) h =
    and_both (holds (made_before n) b.expr) (holds_all (made_before n) (bound l)) (weaken (low r n (r i)) (made_before n) (low_made r n (r i)) b.expr h.0) (ranked_bound r n (suc i) l h.1)

ranked_append : (r : ℕ → ℕ) (n i : ℕ) (l : List Binding) (b : Binding) → Ranked r n i l → T (holds (low r n (r (i + length l))) b.expr) → Ranked r n i (l ++ (b ∷ []))
ranked_append r n i [] b h t = (subst (λ (j : ℕ). T (holds (low r n (r j)) b.expr)) (let e : i + 0 ≡ i = omega arith in e) t, tt)
ranked_append r n i (c ∷ l) b h t =
    (h.0, ranked_append r n (suc i) l b h.1 (subst (λ (j : ℕ). T (holds (low r n (r j)) b.expr)) (let e : i + suc (length l) ≡ suc i + length l = omega arith in e) t))

-- ---- one new name

module _ (r : ℕ → ℕ) (n : ℕ) (x : Tree) (known : T (holds (made_before n) x)) where
  -- the new name just above what it stands for, and room between the others
  next_rank : ℕ → ℕ
  next_rank j = cond (eqb j n) (2 * ceiling r x) (2 * r j + 1)

  rank_old : (j : ℕ) → j < n → next_rank j ≡ 2 * r j + 1
  unfolding next_rank
  rank_old j h = go (eqb j n) (eqb→eq j n)
    where
      go : (b : Bool) → (T b → j ≡ n) → cond b (2 * ceiling r x) (2 * r j + 1) ≡ 2 * r j + 1
      go true f = (let q = f tt in absurd (omega arith))
      go false f = refl

  rank_new : next_rank n ≡ 2 * ceiling r x
  unfolding next_rank
  rank_new = go (eqb n n) (eqb_refl n)
    where
      go : (b : Bool) → T b → cond b (2 * ceiling r x) (2 * r n + 1) ≡ 2 * ceiling r x
      go true t = refl
      go false t = absurd t

  low_next : (c d : ℕ) → 2 * c ≤ d → (m : Name) → T (low r n c m) → T (low next_rank (suc n) d m)
  unfolding low
  low_next c d e (input s) h = tt
  low_next c d e (xname j) h =
      (let a = ltb→lt j n (and_left (ltb j n) (ltb (r j) c) h) in
      let b = ltb→lt (r j) c (and_right (ltb j n) (ltb (r j) c) h) in
      let q = rank_old j a in
      and_both (ltb j (suc n)) (ltb (next_rank j) d) (lt→ltb j (suc n) (omega arith)) (lt→ltb (next_rank j) d (omega arith)))
  low_next c d e (mname j) h = tt

  -- back to the ranks before
  low_back : (c : ℕ) (m : Name) → T (made_before n m) → T (low next_rank (suc n) (2 * c + 1) m) → T (low r n c m)
  unfolding low made_before
  low_back c (input s) k h = tt
  low_back c (xname j) k h =
      (let a = ltb→lt j n k in
      let q = rank_old j a in
      let b = ltb→lt (next_rank j) (2 * c + 1) (and_right (ltb j (suc n)) (ltb (next_rank j) (2 * c + 1)) h) in
      and_both (ltb j n) (ltb (r j) c) k (lt→ltb (r j) c (omega arith)))
  low_back c (mname j) k h = tt

  mutual
    unfolding holds

    back : (c : ℕ) (e : Tree) → T (holds (made_before n) e) → T (holds (low next_rank (suc n) (2 * c + 1)) e) → T (holds (low r n c) e)
    back c (Sym m) k h = low_back c m k h
    back c (Const i) k h = tt
    back c (Op i f) k h = back_each c f k h

    back_each : (c : ℕ) (f : Forest) → T (holds_each (made_before n) f) → T (holds_each (low next_rank (suc n) (2 * c + 1)) f) → T (holds_each (low r n c) f)
    back_each c nil k h = tt
    back_each c (t ◂ f) k h =
        and_both (holds (low r n c) t) (holds_each (low r n c) f)
        (back c t (and_left (holds (made_before n) t) (holds_each (made_before n) f) k)
        (and_left (holds (low next_rank (suc n) (2 * c + 1)) t) (holds_each (low next_rank (suc n) (2 * c + 1)) f) h))
        (back_each c f (and_right (holds (made_before n) t) (holds_each (made_before n) f) k)
        (and_right (holds (low next_rank (suc n) (2 * c + 1)) t) (holds_each (low next_rank (suc n) (2 * c + 1)) f) h))

  -- where a binding held what the name stands for, the name is below it
  name_low : (c : ℕ) → T (holds (low next_rank (suc n) (2 * c + 1)) x) → T (low next_rank (suc n) (2 * c + 1) (xname n))
  unfolding low
  name_low c h =
      (let a = ceiling_least r n c x (back c x known h) in
      let q = rank_new in
      and_both (ltb n (suc n)) (ltb (next_rank n) (2 * c + 1)) (lt→ltb n (suc n) (omega arith)) (lt→ltb (next_rank n) (2 * c + 1) (omega arith)))

  own_low : T (holds (low next_rank (suc n) (next_rank n)) x)
  own_low =
      weaken (low r n (ceiling r x)) (low next_rank (suc n) (next_rank n)) (low_next (ceiling r x) (next_rank n) (let q = rank_new in omega arith)) x
      (ceiling_low r n (ceiling r x) x known (omega arith))

  raised : (c : ℕ) (e : Tree) → T (holds (low r n c) e) → T (holds (low next_rank (suc n) (2 * c + 1)) e)
  raised c e h = weaken (low r n c) (low next_rank (suc n) (2 * c + 1)) (low_next c (2 * c + 1) (omega arith)) e h

  at_rank : (i : ℕ) → i < n → (e : Tree) → T (holds (low next_rank (suc n) (2 * r i + 1)) e) → T (holds (low next_rank (suc n) (next_rank i)) e)
  at_rank i h e w = subst (λ (c : ℕ). T (holds (low next_rank (suc n) c) e)) (sym (rank_old i h)) w

  -- ---- in every binding

  After : ℕ → Outcome (List Binding) → Type 0
  After i (ok l) = Ranked next_rank (suc n) i l × (i + length l ≡ n)
  After i (refused k) = Unit {0}

  after_step :
      (i : ℕ) (h : i < n) (b : Binding) (o : Outcome Tree) → Holds (low next_rank (suc n) (2 * r i + 1)) x (xname n) (name_low (r i)) o → (q : Outcome (List Binding)) → After (suc i) q
      → After i ((o >>= λ e. ok (record { name = b.name; expr = e })) >>= λ c. q >>= λ l. ok (c ∷ l))
  unfolding Holds After
  after_step i h b (ok e) w (ok l) g = ((at_rank i h e w, g.0), (let a = g.1 in omega arith))
  after_step i h b (ok e) w (refused k) g = tt
  after_step i h b (refused k) w q g = tt

  bindings_after : (i : ℕ) (l : List Binding) → i + length l ≡ n → Ranked r n i l → After i (each (λ b. replace_bound x (xname n) b) l)
  unfolding After each replace_bound
  bindings_after i [] e h = (tt, e)
  bindings_after i (b ∷ l) e h =
      after_step i (omega (arith, e)) b (replace x (xname n) b.expr) (replace_holds (low next_rank (suc n) (2 * r i + 1)) x (xname n) (name_low (r i)) b.expr (raised (r i) b.expr h.0))
      (each (λ b. replace_bound x (xname n) b) l) (bindings_after (suc i) l (omega (arith, e)) h.1)

  divided_after :
      (i : ℕ) (l : List Binding) → i + length l ≡ n → Ranked r n i l
      → Ranked next_rank (suc n) i (replace_divisor_bound x (xname n) l) × (i + length (replace_divisor_bound x (xname n) l) ≡ n)
  unfolding replace_divisor_bound
  divided_after i [] e h = (tt, e)
  divided_after i (b ∷ l) e h =
      let g = divided_after (suc i) l (omega (arith, e)) h.1 in (
        (
          at_rank i (omega (arith, e)) (replace_divisor x (xname n) b.expr)
              (divisor_holds (low next_rank (suc n) (2 * r i + 1)) x (xname n) (name_low (r i)) b.expr (raised (r i) b.expr h.0)),
          g.0,
        ),
        (let a = g.1 in omega arith),
      )

-- ---- states

pub record Ranks (s : State) : Type 0 where
  pub rank : ℕ → ℕ
  pub lets : Ranked rank s.next 0 s.lets
  pub results : T (holds_all (made_before s.next) s.results)
  pub long : length s.lets ≡ s.next

unfoldable pub AllRanks : Outcome State → Type 0
AllRanks (ok s) = Ranks s
AllRanks (refused i) = Unit {0}

ranks_roots : (s : State) → Ranks s → T (holds_all (made_before s.next) (roots s))
unfolding roots
ranks_roots s K = holds_append (made_before s.next) s.results (bound s.lets) K.results (ranked_bound K.rank s.next 0 s.lets K.lets)

TreesMade : ℕ → Outcome (List Tree) → Type 0
TreesMade n (ok l) = T (holds_all (made_before n) l)
TreesMade n (refused i) = Unit {0}

module _ (n : ℕ) (x : Tree) where
  tree_step : (o : Outcome Tree) → Holds (made_before (suc n)) x (xname n) (λ _. made_new n) o → (q : Outcome (List Tree)) → TreesMade (suc n) q → TreesMade (suc n) (o >>= λ b. q >>= λ l. ok (b ∷ l))
  unfolding Holds TreesMade holds_all
  tree_step (ok t) g (ok l) h = and_both (holds (made_before (suc n)) t) (holds_all (made_before (suc n)) l) g h
  tree_step (ok t) g (refused i) h = tt
  tree_step (refused i) g q h = tt

  trees_made : (l : List Tree) → T (holds_all (made_before n) l) → TreesMade (suc n) (each (λ e. replace x (xname n) e) l)
  unfolding TreesMade each holds_all
  trees_made [] h = tt
  trees_made (t ∷ l) h =
      tree_step (replace x (xname n) t)
      (replace_holds (made_before (suc n)) x (xname n) (λ _. made_new n) t (weaken (made_before n) (made_before (suc n)) (made_suc n) t (and_left (holds (made_before n) t) (holds_all (made_before n) l) h)))
      (each (λ e. replace x (xname n) e) l) (trees_made l (and_right (holds (made_before n) t) (holds_all (made_before n) l) h))

  divided_made : (l : List Tree) → T (holds_all (made_before n) l) → T (holds_all (made_before (suc n)) (replace_divisor_each x (xname n) l))
  unfolding replace_divisor_each holds_all
  divided_made [] h = tt
  divided_made (t ∷ l) h =
      and_both (holds (made_before (suc n)) (replace_divisor x (xname n) t)) (holds_all (made_before (suc n)) (replace_divisor_each x (xname n) l))
      (divisor_holds (made_before (suc n)) x (xname n) (λ _. made_new n) t (weaken (made_before n) (made_before (suc n)) (made_suc n) t (and_left (holds (made_before n) t) (holds_all (made_before n) l) h)))
      (divided_made l (and_right (holds (made_before n) t) (holds_all (made_before n) l) h))

-- ---- rounds

module _ (x : Tree) (s : State) (K : Ranks s) (known : T (holds (made_before s.next) x)) where
  extract_step :
      (o : Outcome (List Tree)) → TreesMade (suc s.next) o → (q : Outcome (List Binding)) → After K.rank s.next x known 0 q
      → AllRanks (o >>= λ rs. q >>= λ ls. ok (record { results = rs; lets = ls ++ (record { name = xname s.next; expr = x } ∷ []); next = suc s.next }))
  unfolding TreesMade After AllRanks
  extract_step (ok rs) g (ok ls) h =
      record {
        rank = next_rank K.rank s.next x known;
        lets =
            ranked_append (next_rank K.rank s.next x known) (suc s.next) 0 ls (record { name = xname s.next; expr = x }) h.0
            (subst (λ (j : ℕ). T (holds (low (next_rank K.rank s.next x known) (suc s.next) (next_rank K.rank s.next x known j)) x)) (sym h.1) (own_low K.rank s.next x known));
        results = g;
        long = (let a = length_append ls (record { name = xname s.next; expr = x } ∷ []) in let b = h.1 in omega arith);
      }
  extract_step (ok rs) g (refused i) h = tt
  extract_step (refused i) g q h = tt

  extract_ranks : AllRanks (extract x s)
  unfolding extract
  extract_ranks =
      extract_step (each (λ e. replace x (xname s.next) e) s.results) (trees_made s.next x s.results K.results)
      (each (λ b. replace_bound x (xname s.next) b) s.lets) (bindings_after K.rank s.next x known 0 s.lets (let a = K.long in omega arith) K.lets)

then_ranks : (o : Outcome State) → AllRanks o → (g : State → Outcome State) → ((s : State) → Ranks s → AllRanks (g s)) → AllRanks (o >>= g)
unfolding AllRanks
then_ranks (ok s) h g f = f s h
then_ranks (refused i) h g f = tt

round_step :
    (s : State) → Ranks s → (o : Option Candidate) → Chosen (made_before s.next) o → (g : State → Outcome State) → ((s : State) → Ranks s → AllRanks (g s))
    → AllRanks (elim o [ none ↦ ok s | some c ↦ (extract c.tree s >>= λ t. g t) ])
unfolding AllRanks Chosen
round_step s K none h g f = K
round_step s K (some c) h g f = then_ranks (extract c.tree s) (extract_ranks c.tree s K h) g f

rounds_ranks : (fuel : ℕ) (scoped : Bool) (s : State) → Ranks s → AllRanks (rounds fuel scoped s)
unfolding AllRanks rounds
rounds_ranks zero scoped s K = K
rounds_ranks (suc fuel) scoped s K =
    round_step s K (best scoped (roots s)) (chosen (made_before s.next) scoped (roots s) (ranks_roots s K)) (λ t. rounds fuel scoped t) (λ t G. rounds_ranks fuel scoped t G)

pub extract_all_ranks : (scoped : Bool) (es : List Tree) → T (holds_all (made_before 0) es) → AllRanks (extract_all scoped 0 es)
unfolding extract_all
extract_all_ranks scoped es h = rounds_ranks (all_operations es) scoped (record { results = es; lets = []; next = 0 }) (record { rank = λ i. i; lets = tt; results = h; long = refl })

-- ---- reciprocals

one_over : (p : Name → Bool) (d : Tree) → T (holds p d) → T (holds p (Op Div (Const (pos 1) ◂ d ◂ nil)))
unfolding holds
one_over p d h = and_both (holds p d) true h tt

reciprocal_ranks : (d : Tree) (s : State) → T (holds (made_before s.next) d) → Ranks s → Ranks (bind_reciprocal d s)
unfolding bind_reciprocal
reciprocal_ranks d s known K =
    let R = next_rank K.rank s.next d known in
    let D = divided_after K.rank s.next d known 0 s.lets (let a = K.long in omega arith) K.lets in
    let b : Binding = record { name = xname s.next; expr = Op Div (Const (pos 1) ◂ d ◂ nil) } in
    record {
      rank = R;
      lets =
          ranked_append R (suc s.next) 0 (replace_divisor_bound d (xname s.next) s.lets) b D.0
          (subst (λ (j : ℕ). T (holds (low R (suc s.next) (R j)) b.expr)) (sym D.1) (one_over (low R (suc s.next) (R s.next)) d (own_low K.rank s.next d known)));
      results = divided_made s.next d s.results K.results;
      long = (let a = length_append (replace_divisor_bound d (xname s.next) s.lets) (b ∷ []) in let c = D.1 in omega arith);
    }

reciprocal_each_ranks : (l : List Tree) (s : State) → T (holds_all (made_before s.next) l) → Ranks s → Ranks (bind_reciprocals l s)
unfolding bind_reciprocals holds_all
reciprocal_each_ranks [] s h K = K
reciprocal_each_ranks (d ∷ l) s h K =
    reciprocal_each_ranks l (bind_reciprocal d s)
    (unfold bind_reciprocal in weaken_all (made_before s.next) (made_before (suc s.next)) (made_suc s.next) l (and_right (holds (made_before s.next) d) (holds_all (made_before s.next) l) h))
    (reciprocal_ranks d s (and_left (holds (made_before s.next) d) (holds_all (made_before s.next) l) h) K)

pub reciprocals_ranks : (scoped : Bool) (s : State) → Ranks s → Ranks (reciprocals scoped s)
unfolding reciprocals
reciprocals_ranks scoped s K =
    let p = made_before s.next in
    let rs = roots s in
    reciprocal_each_ranks (sort_by_text (shared_divisors scoped rs (distinct [] (divisors (all_nodes rs))))) s
    (sort_known p (shared_divisors scoped rs (distinct [] (divisors (all_nodes rs))))
    (shared_known p scoped rs (distinct [] (divisors (all_nodes rs)))
    (distinct_known p [] (divisors (all_nodes rs)) (divisors_known p (all_nodes rs) (all_nodes_hold p rs (ranks_roots s K))))))
    K
