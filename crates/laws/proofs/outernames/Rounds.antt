-- Rounds and reciprocals lose no symbol, bring in none but the names that they make, and keep operand counts (01, "Extraction", "Reciprocals"), whatever the texts of
-- trees are that decide between candidates and order divisors. Assumes nothing.
use Prim.Native.Nat.{ℕ, zero, suc, ◌+◌, ◌≤◌}
use native.Mathlib.Omega.{arith}
use mathlib.Core.Path.{◌≡◌, refl, sym, ◌∙◌, subst}
use mathlib.Core.Logic.{inl, inr}
use mathlib.Core.Bool.{Bool, true, false, ◌&&◌}
use mathlib.Core.Option.{Option, none, some}
use mathlib.Core.List.{List, [], ◌∷◌}
use lib.ListN.{length, drop}
use lib.Dec.{T, leb, leb→le, ltb→lt, lt→ltb}
use Rattle.spec_tree.specs.Outcome.{Outcome, ok, refused, ◌>>=◌}
use Rattle.spec_tree.specs.Tree.{Name, xname, Tree}
use Rattle.spec_tree.specs.Facts.{all_operations, all_nodes, outside, count}
use Rattle.spec_tree.proofs.Formed.{well_formed}
use Rattle.spec_tree.proofs.Logic.{and_left, and_right, and_both}
use Rattle.spec_tree.specs.text.Text.{display, before}
use Rattle.spec_rewrite.specs.Rewrite.{replace, replace_divisor}
use Rattle.spec_rewrite.proofs.Measure.{by_operations, least_operations}
use Rattle.spec_rewrite.proofs.Shrinks.{replace_shrinks}
use Rattle.spec_rewrite.proofs.Factors.{factors_of}
use Rattle.spec_rewrite.proofs.Counts.{well_formed_all, all_append, counted_formed, counted_holds, all_nodes_formed}
use Rattle.spec_rewrite.proofs.Names.{holds, holds_all, holds_append, holds_left, holds_right, below, weaken, weaken_all, all_nodes_hold, Holds, replace_holds, divisor_holds}
use Rattle.spec_cse.specs.Extract.{State, roots, is_candidate, Candidate, candidate, extract, extract_all, divisors, distinct, shared_divisors, replace_divisor_each, bind_reciprocal, bind_reciprocals, reciprocals}
use Rattle.spec_cse.specs.Answer.{names}
use Rattle.spec_cse.specs.Scope.{binds}
use Rattle.laws.proofs.cse.Outcomes.{Good, good_ok, good_at}
use Rattle.laws.proofs.cse.RoundsCount.{symbol_factor, candidate_facts, Replaced, extracted, begin, begin_roots}
use Rattle.laws.proofs.cse.ReciprocalsCount.{AllTrees, all_map, divisors_all, inverse, roots_reciprocal, divided_formed, inverse_formed}
use Rattle.laws.proofs.cse.Symbols.{elem_cases, no_elem, Sub, all_names}
use Rattle.laws.proofs.cse.ScopeValue.{under, under_le}
use Rattle.laws.specs.positions.Shown.{beats_by, best_from_by, best_by, rounds_by, extract_all_by, insert_by, sort_by, reciprocals_by}
use Rattle.laws.specs.positions.Rounds.{by_number, next_number, state_of, rounds_on, reciprocals_on}
use Rattle.laws.proofs.positions.ByText.{extract_all_text, reciprocals_text}
use Rattle.laws.proofs.positions.RoundsOn.{extract_all_on, reciprocals_on_state, rounds_on_length}
use Rattle.laws.proofs.outernames.Replacing.{replace_back, divisor_back}

-- ---- what rounds and reciprocals keep

-- a test that every name numbered from a number on passes
abbrev pub New : ℕ → (Name → Bool) → Type 0
New start q = (n : Name) → (T (under start n) → ⊥) → T (q n)

pub new_x : (start : ℕ) (q : Name → Bool) → New start q → (i : ℕ) → start ≤ i → T (q (xname i))
unfolding below
new_x start q new i h = new (xname i) (λ t. let z = ltb→lt i start t in omega arith)

under_x : (k : ℕ) → T (under (suc k) (xname k))
unfolding below
under_x k = lt→ltb k (suc k) (omega arith)

-- of the roots of a scope that starts with a number and some trees: operand counts are right, what the trees hold they hold, and they hold no more but the names made
record Going (start : ℕ) (es : List Tree) (s : State) : Type 0 where
  later : start ≤ s.next
  formed : T (well_formed_all (roots s))
  back : (p : Name → Bool) → T (holds_all p (roots s)) → T (holds_all p es)
  forth : (q : Name → Bool) → New start q → T (holds_all q es) → T (holds_all q (roots s))
  top : T (holds_all (under start) es) → T (holds_all (under s.next) (roots s))

-- ---- one extraction

replaced_back : (p : Name → Bool) (x : Tree) (n : Name) → T (holds p x) → (es rs : List Tree) → Replaced x n es rs → T (holds_all p rs) → T (holds_all p es)
unfolding holds_all
replaced_back p x n t [] [] h w = tt
replaced_back p x n t [] (r ∷ rs) h w = absurd h
replaced_back p x n t (e ∷ es) [] h w = absurd h
replaced_back p x n t (e ∷ es) (r ∷ rs) h w =
    and_both (holds p e) (holds_all p es)
    (good_at (λ (u : Tree). T (holds p u) → T (holds p e)) (replace x n e) r h.0 (replace_back p x n t e) (and_left (holds p r) (holds_all p rs) w))
    (replaced_back p x n t es rs h.1 (and_right (holds p r) (holds_all p rs) w))

replaced_formed : (x : Tree) (n : Name) → 1 ≤ length (factors_of x) → (es rs : List Tree) → Replaced x n es rs → T (well_formed_all es) → T (well_formed_all rs)
unfolding well_formed_all
replaced_formed x n s [] [] h v = tt
replaced_formed x n s [] (r ∷ rs) h v = absurd h
replaced_formed x n s (e ∷ es) [] h v = absurd h
replaced_formed x n s (e ∷ es) (r ∷ rs) h v =
    and_both (well_formed r) (well_formed_all rs) (replace_shrinks by_operations x n (least_operations n) (λ _. s) e r (and_left (well_formed e) (well_formed_all es) v) h.0).1
    (replaced_formed x n s es rs h.1 (and_right (well_formed e) (well_formed_all es) v))

one_all : (p : Name → Bool) (x : Tree) → T (holds_all p (x ∷ [])) → T (holds p x)
unfolding holds_all
one_all p x h = and_left (holds p x) true h

one_formed : (x : Tree) → T (well_formed x) → T (well_formed_all (x ∷ []))
unfolding well_formed_all
one_formed x h = and_both (well_formed x) true h tt

replaced_hold : (p : Name → Bool) (x : Tree) (n : Name) → T (p n) → (es rs : List Tree) → Replaced x n es rs → T (holds_all p es) → T (holds_all p rs)
unfolding holds_all
replaced_hold p x n t [] [] h v = tt
replaced_hold p x n t [] (r ∷ rs) h v = absurd h
replaced_hold p x n t (e ∷ es) [] h v = absurd h
replaced_hold p x n t (e ∷ es) (r ∷ rs) h v =
    and_both (holds p r) (holds_all p rs)
    (unfold Holds in (subst (Holds p x n (λ _. t)) h.0 (replace_holds p x n (λ _. t) e (and_left (holds p e) (holds_all p es) v))))
    (replaced_hold p x n t es rs h.1 (and_right (holds p e) (holds_all p es) v))

one_holds : (p : Name → Bool) (x : Tree) → T (holds p x) → T (holds_all p (x ∷ []))
unfolding holds_all
one_holds p x h = and_both (holds p x) true h tt

going_starts : (start : ℕ) (es : List Tree) → T (well_formed_all es) → Going start es (begin es start)
going_starts start es w =
    let e = begin_roots es start in
    record {
      later = (unfold begin in omega arith);
      formed = subst (λ (l : List Tree). T (well_formed_all l)) (sym e) w;
      back = λ p h. subst (λ (l : List Tree). T (holds_all p l)) e h;
      forth = λ q new h. subst (λ (l : List Tree). T (holds_all q l)) (sym e) h;
      top = λ h. subst (λ (l : List Tree). T (holds_all (under (begin es start).next) l)) (sym e) (unfold begin in h);
    }

module _ (scoped : Bool) (start : ℕ) (es : List Tree) (x : Tree) (s t : State) (c : T (is_candidate scoped (roots s) x)) (e : extract x s ≡ ok t) (G : Going start es s) where
  abbrev n : Name
  n = xname s.next

  stands : 1 ≤ count x (all_nodes (roots s))
  stands = let q = (candidate_facts scoped (roots s) x c).2 in omega arith

  -- a test that the roots and the new name pass
  kept : (q : Name → Bool) → T (q n) → T (holds_all q (roots s)) → T (holds_all q (roots t))
  kept q new h =
      let E = extracted x s t e in
      subst (λ (l : List Tree). T (holds_all q l)) (sym E.now)
      (holds_append q E.made (x ∷ []) (replaced_hold q x n new (roots s) E.made E.replaced h)
      (one_holds q x (counted_holds q x (all_nodes (roots s)) (all_nodes_hold q (roots s) h) stands)))

  going_extract : Going start es t
  going_extract =
      let E = extracted x s t e in
      let f = candidate_facts scoped (roots s) x c in
      let xw = counted_formed x (all_nodes (roots s)) (all_nodes_formed (roots s) G.formed) stands in
      record {
        later = (let a = G.later in let b = E.next in omega arith);
        formed = subst (λ (l : List Tree). T (well_formed_all l)) (sym E.now)
            (all_append E.made (x ∷ []) (replaced_formed x n (symbol_factor x f.1) (roots s) E.made E.replaced G.formed) (one_formed x xw));
        back = λ p h.
            let w = subst (λ (l : List Tree). T (holds_all p l)) E.now h in
            G.back p (replaced_back p x n (one_all p x (holds_right p E.made (x ∷ []) w)) (roots s) E.made E.replaced (holds_left p E.made (x ∷ []) w));
        forth = λ q new h. kept q (new_x start q new s.next G.later) (G.forth q new h);
        top = λ h.
            let k = s.next in
            subst (λ (i : ℕ). T (holds_all (under i) (roots t))) (sym E.next)
            (kept (under (suc k)) (under_x k) (weaken_all (under k) (under (suc k)) (under_le k (suc k) (omega arith)) (roots s) (G.top h)));
      }

-- ---- rounds, however the best candidate is chosen

module _ (shown : Tree → List ℕ) (scoped : Bool) (rs : List Tree) where
  Fit : Option Candidate → Type 0
  Fit none = Unit {0}
  Fit (some c) = T (is_candidate scoped rs c.tree)

  fit_step : (b : Bool) (x y : Option Candidate) → (T b → Fit x) → Fit y → Fit (elim b [ true ↦ x | false ↦ y ])
  fit_step true x y g h = g tt
  fit_step false x y g h = h

  fit_from : (l : List Tree) (o : Option Candidate) → Fit o → Fit (best_from_by shown scoped rs o l)
  unfolding best_from_by candidate Fit
  fit_from [] o g = g
  fit_from (e ∷ l) none g = fit_step (is_candidate scoped rs e) _ _ (λ t. fit_from l (some (candidate rs e)) t) (fit_from l none tt)
  fit_from (e ∷ l) (some a) g =
      fit_step (is_candidate scoped rs e && beats_by shown a (candidate rs e)) _ _
      (λ t. fit_from l (some (candidate rs e)) (and_left (is_candidate scoped rs e) (beats_by shown a (candidate rs e)) t)) (fit_from l (some a) g)

  best_fits : (c : Candidate) → best_by shown scoped rs ≡ some c → T (is_candidate scoped rs c.tree)
  unfolding best_by Fit
  best_fits c e = subst Fit e (fit_from (all_nodes rs) none tt)

module _ (shown : Tree → List ℕ) (scoped : Bool) (start : ℕ) (es : List Tree) where
  round_going :
      (s : State) → Going start es s → (g : State → Outcome State) → ((t : State) → Going start es t → Good (Going start es) (g t)) → (o : Option Candidate) → best_by shown scoped (roots s) ≡ o
      → Good {A = State} (Going start es) (elim o [ none ↦ ok s | some c ↦ (extract c.tree s >>= λ t. g t) ])
  round_going s G g k none e = good_ok (Going start es) s G
  round_going s G g k (some c) e = go (extract c.tree s) refl
    where
      go : (o : Outcome State) → extract c.tree s ≡ o → Good (Going start es) (o >>= λ t. g t)
      go (ok t) z = k t (going_extract scoped start es c.tree s t (best_fits shown scoped (roots s) c e) z G)
      go (refused i) z = (unfold Good in tt)

  rounds_going : (fuel : ℕ) (s : State) → Going start es s → Good (Going start es) (rounds_by shown fuel scoped s)
  unfolding rounds_by
  rounds_going zero s G = good_ok (Going start es) s G
  rounds_going (suc fuel) s G = round_going s G (λ t. rounds_by shown fuel scoped t) (λ t g. rounds_going fuel t g) (best_by shown scoped (roots s)) refl

  extract_all_going : T (well_formed_all es) → Good (Going start es) (extract_all_by shown scoped start es)
  unfolding extract_all_by begin
  extract_all_going w = rounds_going (all_operations es) (record { results = es; lets = []; next = start }) (going_starts start es w)

-- ---- reciprocals

divided_back : (p : Name → Bool) (d : Tree) (n : Name) → T (holds p d) → (l : List Tree) → T (well_formed_all l) → T (holds_all p (replace_divisor_each d n l)) → T (holds_all p l)
unfolding holds_all replace_divisor_each well_formed_all
divided_back p d n t [] v w = tt
divided_back p d n t (e ∷ l) v w =
    and_both (holds p e) (holds_all p l)
    (divisor_back p d n t e (and_left (well_formed e) (well_formed_all l) v) (and_left (holds p (replace_divisor d n e)) (holds_all p (replace_divisor_each d n l)) w))
    (divided_back p d n t l (and_right (well_formed e) (well_formed_all l) v) (and_right (holds p (replace_divisor d n e)) (holds_all p (replace_divisor_each d n l)) w))

inverse_back : (p : Name → Bool) (d : Tree) → T (holds_all p (inverse d ∷ [])) → T (holds p d)
unfolding holds_all holds inverse
inverse_back p d h = and_left (holds p d) true (and_left (holds p d && true) true h)

divided_hold : (p : Name → Bool) (d : Tree) (n : Name) → T (p n) → (l : List Tree) → T (holds_all p l) → T (holds_all p (replace_divisor_each d n l))
unfolding holds_all replace_divisor_each
divided_hold p d n t [] h = tt
divided_hold p d n t (e ∷ l) h =
    and_both (holds p (replace_divisor d n e)) (holds_all p (replace_divisor_each d n l)) (divisor_holds p d n (λ _. t) e (and_left (holds p e) (holds_all p l) h))
    (divided_hold p d n t l (and_right (holds p e) (holds_all p l) h))

inverse_hold : (p : Name → Bool) (d : Tree) → T (holds p d) → T (holds_all p (inverse d ∷ []))
unfolding holds_all holds inverse
inverse_hold p d h = and_both (holds p d && true) true (and_both (holds p d) true h tt) tt

-- a divisor of the roots that rounds leave: it has right operand counts, and holds what they hold
record Divisor (start : ℕ) (es : List Tree) (next : ℕ) (d : Tree) : Type 0 where
  formed : T (well_formed d)
  forth : (q : Name → Bool) → New start q → T (holds_all q es) → T (holds q d)
  top : T (holds_all (under start) es) → T (holds (under next) d)

next_number_is : (d : Tree) (s : State) → (bind_reciprocal d s).next ≡ suc s.next
unfolding bind_reciprocal
next_number_is d s = refl

going_reciprocal : (start : ℕ) (es : List Tree) (k : ℕ) (d : Tree) (s : State) → k ≤ s.next → Divisor start es k d → Going start es s → Going start es (bind_reciprocal d s)
going_reciprocal start es k d s h D G =
    let n = xname s.next in
    let now = roots_reciprocal d s in
    let more : (q : Name → Bool) → T (q n) → T (holds q d) → T (holds_all q (roots s)) → T (holds_all q (roots (bind_reciprocal d s))) =
    λ q new o r. subst (λ (l : List Tree). T (holds_all q l)) (sym now)
    (holds_append q (replace_divisor_each d n (roots s)) (inverse d ∷ []) (divided_hold q d n new (roots s) r) (inverse_hold q d o)) in
    let i = s.next in
    record {
      later = (unfold bind_reciprocal in (let a = G.later in omega arith));
      formed = subst (λ (l : List Tree). T (well_formed_all l)) (sym now)
          (all_append (replace_divisor_each d n (roots s)) (inverse d ∷ []) (divided_formed d n (roots s) G.formed) (inverse_formed d D.formed));
      back = λ p h.
          let w = subst (λ (l : List Tree). T (holds_all p l)) now h in
          G.back p
          (divided_back p d n (inverse_back p d (holds_right p (replace_divisor_each d n (roots s)) (inverse d ∷ []) w)) (roots s) G.formed
          (holds_left p (replace_divisor_each d n (roots s)) (inverse d ∷ []) w));
      forth = λ q new h. more q (new_x start q new s.next G.later) (D.forth q new h) (G.forth q new h);
      top = λ g. subst (λ (j : ℕ). T (holds_all (under j) (roots (bind_reciprocal d s)))) (sym (next_number_is d s))
          (more (under (suc i)) (under_x i) (weaken (under k) (under (suc i)) (under_le k (suc i) (omega arith)) d (D.top g))
          (weaken_all (under i) (under (suc i)) (under_le i (suc i) (omega arith)) (roots s) (G.top g)));
    }

going_each : (start : ℕ) (es : List Tree) (k : ℕ) (ds : List Tree) (s : State) → k ≤ s.next → AllTrees (Divisor start es k) ds → Going start es s → Going start es (bind_reciprocals ds s)
unfolding bind_reciprocals
going_each start es k [] s h g G = G
going_each start es k (d ∷ ds) s h g G =
    going_each start es k ds (bind_reciprocal d s) (unfold bind_reciprocal in omega arith) g.1 (going_reciprocal start es k d s h g.0 G)

-- the divisors that are bound stand among the roots
shared_twice : (scoped : Bool) (rs l : List Tree) → AllTrees (λ d. 2 ≤ count d (divisors (all_nodes rs))) (shared_divisors scoped rs l)
unfolding shared_divisors
shared_twice scoped rs [] = tt
shared_twice scoped rs (d ∷ l) =
    go (leb 2 (count d (divisors (all_nodes rs))) && leb 1 (count d (divisors (outside scoped rs))))
    (λ t. leb→le 2 (count d (divisors (all_nodes rs))) (and_left (leb 2 (count d (divisors (all_nodes rs)))) _ t))
    (shared_twice scoped rs l)
  where
    go : (b : Bool) → (T b → 2 ≤ count d (divisors (all_nodes rs))) → AllTrees (λ d. 2 ≤ count d (divisors (all_nodes rs))) (shared_divisors scoped rs l)
        → AllTrees (λ d. 2 ≤ count d (divisors (all_nodes rs))) (elim b [ true ↦ d ∷ shared_divisors scoped rs l | false ↦ shared_divisors scoped rs l ])
    go true f h = (f tt, h)
    go false f h = h

module _ (shown : Tree → List ℕ) (P : Tree → Type 0) where
  insert_all : (d : Tree) (l : List Tree) → P d → AllTrees P l → AllTrees P (insert_by shown d l)
  unfolding insert_by
  insert_all d [] p h = (p, tt)
  insert_all d (e ∷ l) p h = go (before (shown e) (shown d)) (insert_all d l p h.1)
    where
      go : (b : Bool) → AllTrees P (insert_by shown d l) → AllTrees P (elim b [ true ↦ e ∷ insert_by shown d l | false ↦ d ∷ (e ∷ l) ])
      go true k = (h.0, k)
      go false k = (p, h)

  sort_all : (l : List Tree) → AllTrees P l → AllTrees P (sort_by shown l)
  unfolding sort_by
  sort_all [] h = tt
  sort_all (d ∷ l) h = insert_all d (sort_by shown l) h.0 (sort_all l h.1)

reciprocals_going : (shown : Tree → List ℕ) (scoped : Bool) (start : ℕ) (es : List Tree) (s : State) → Going start es s → Going start es (reciprocals_by shown scoped s)
unfolding reciprocals_by
reciprocals_going shown scoped start es s G =
    let rs = roots s in
    let ds = shared_divisors scoped rs (distinct [] (divisors (all_nodes rs))) in
    going_each start es s.next (sort_by shown ds) s (omega arith)
    (sort_all shown (Divisor start es s.next) ds
    (all_map (λ d. 2 ≤ count d (divisors (all_nodes rs))) (Divisor start es s.next) (λ d q. divisor d q) ds (shared_twice scoped rs (distinct [] (divisors (all_nodes rs)))))) G
  where
    divisor : (d : Tree) → 2 ≤ count d (divisors (all_nodes (roots s))) → Divisor start es s.next d
    divisor d q =
        let rs = roots s in
        let u : 1 ≤ count d (all_nodes rs) = (let c = divisors_all d rs in omega arith) in
        record {
          formed = counted_formed d (all_nodes rs) (all_nodes_formed rs G.formed) u;
          forth = λ q new h. counted_holds q d (all_nodes rs) (all_nodes_hold q rs (G.forth q new h)) u;
          top = λ h. counted_holds (under s.next) d (all_nodes rs) (all_nodes_hold (under s.next) rs (G.top h)) u;
        }

-- ---- names by number

pub bound_below : (top i : ℕ) (l : List Tree) → i + length l ≤ top → Sub (under top) (all_names (binds (by_number i l)))
unfolding binds by_number all_names names
bound_below top i [] h = λ m t. absurd (no_elem m t)
bound_below top i (e ∷ l) h = λ m t. elim (elem_cases m (xname i) (all_names (binds (by_number (suc i) l))) t) [
  | inl q ↦ subst (λ (x : Name). T (under top x)) q (unfold below in lt→ltb i top (omega arith))
  | inr u ↦ bound_below top (suc i) l (omega arith) m u
]

-- the names that a state of trees by number binds lie below its next number
pub state_below : (k first : ℕ) (ts : List Tree) → Sub (under (state_of k first ts).next) (all_names (binds (state_of k first ts).lets))
unfolding state_of next_number
state_below k first ts = bound_below (first + length (drop k ts)) first (drop k ts) (omega arith)

-- ---- a scope's roots before fusion

pub record Begun (start : ℕ) (es : List Tree) (s : State) : Type 0 where
  pub later : start ≤ s.next
  pub formed : T (well_formed_all (roots s))
  pub back : (p : Name → Bool) → T (holds_all p (roots s)) → T (holds_all p es)
  pub forth : (q : Name → Bool) → New start q → T (holds_all q es) → T (holds_all q (roots s))
  pub top : T (holds_all (under start) es) → T (holds_all (under s.next) (roots s))
  pub bound : T (holds_all (under start) es) → Sub (under s.next) (all_names (binds s.lets))

module _ (shown : Tree → List ℕ) (scoped : Bool) (start : ℕ) (es : List Tree) (s : State) (e : extract_all_by shown scoped start es ≡ ok s) where
  abbrev Below : State → Type 0
  Below t = Sub (under t.next) (all_names (binds t.lets))

  names_below : Below (reciprocals_by shown scoped s)
  names_below = go (rounds_on shown (all_operations es) scoped (length es) start es) (rounds_on_length shown (all_operations es) scoped (length es) start es (omega arith)) (sym (extract_all_on shown scoped start es) ∙ e)
    where
      same : (t u : State) → ◌≡◌ {A = Outcome State} (ok t) (ok u) → t ≡ u
      same t u q = cc

      go :
          (o : Outcome (List Tree)) → Good (λ (us : List Tree). length es ≤ length us) o → (o >>= λ us. ok (state_of (length es) start us)) ≡ ok s
          → Sub (under (reciprocals_by shown scoped s).next) (all_names (binds (reciprocals_by shown scoped s).lets))
      go (ok ts) h q =
          let k = length es in
          subst (λ (t : State). Sub (under (reciprocals_by shown scoped t).next) (all_names (binds (reciprocals_by shown scoped t).lets))) (same (state_of k start ts) s q)
          (subst (λ (t : State). Sub (under t.next) (all_names (binds t.lets))) (sym (reciprocals_on_state shown scoped k start ts (unfold Good in h)))
          (state_below k start (reciprocals_on shown scoped k start ts)))
      go (refused i) h q = absurd (let z : ◌≡◌ {A = ℕ} 0 1 = cc in omega arith)

  -- whatever the texts are
  pub begun_by : T (well_formed_all es) → Begun start es (reciprocals_by shown scoped s)
  begun_by w =
      let G = reciprocals_going shown scoped start es s (good_at (Going start es) (extract_all_by shown scoped start es) s e (extract_all_going shown scoped start es w)) in
      record { later = G.later; formed = G.formed; back = G.back; forth = G.forth; top = G.top; bound = λ h. names_below }

-- and with those of `Display`
pub begun : (scoped : Bool) (start : ℕ) (es : List Tree) → T (well_formed_all es) → (s : State) → extract_all scoped start es ≡ ok s → Begun start es (reciprocals scoped s)
begun scoped start es w s e =
    subst (Begun start es) (reciprocals_text scoped s) (begun_by display scoped start es s (extract_all_text scoped start es ∙ e) w)
