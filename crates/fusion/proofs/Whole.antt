-- A scope is its settled form (specs, Whole), whatever the scopes of arms do (01, "Scoped fusion"). Assumes nothing.
use Prim.Native.Nat.{ℕ, suc, ◌+◌, ◌≤◌}
use native.Mathlib.Omega.{arith}
use mathlib.Core.Path.{◌≡◌, refl, sym, ◌∙◌, ap, ap₂}
use mathlib.Core.Bool.{true}
use mathlib.Core.List.{List, [], ◌∷◌, ◌++◌, append_assoc, map}
use lib.ListN.{length, take, drop, length-append, length-map, length-drop}
use Rattle.spec_tree.specs.Outcome.{Outcome, ok, refused, ◌>>=◌}
use Rattle.spec_tree.specs.Tree.{xname, Tree}
use Rattle.spec_tree.specs.Facts.{all_operations}
use Rattle.spec_tree.proofs.TokenLaws.{map_append}
use Rattle.spec_tree.specs.text.Text.{display}
use Rattle.spec_cse.specs.Extract.{State, extract_all, reciprocals}
use Rattle.spec_cse.specs.Answer.{Intermediate, Let}
use Rattle.spec_cse.specs.Scope.{collect_switches, groups_from, Work, Scoped, binds, unfused, fuse_groups, fuse_all, finish, statements}
use Rattle.laws.specs.positions.Shown.{extract_all_by, reciprocals_by}
use Rattle.laws.specs.positions.Rounds.{by_number, next_number, state_of, bind_each_on, rounds_on, reciprocals_on}
use Rattle.laws.proofs.positions.ByText.{extract_all_text, reciprocals_text}
use Rattle.laws.proofs.positions.RoundsOn.{then_same, roots_of_state, extract_all_on, reciprocals_on_state, rounds_on_length}
use Rattle.reciprocals.proofs.bindings.Parts.{settle_tree, settled_reciprocals, bound_are_settled}
use Rattle.fusion.specs.Settled.{Step, fused_tree, fused_stmt, Walked, numbered_groups, all_steps, group_matches, settled_work, settled_groups}
use Rattle.fusion.specs.Whole.{divisors_of, settled_fused, lets_from, settled_roots, scope_groups, scope_stmts, scope_work, settled_scope}
use Rattle.fusion.proofs.Naming.{same_work}
use Rattle.fusion.proofs.Fusing.{fused_are}
use Rattle.spec_tree.proofs.Lists.{map_through, take_front, drop_front}
use Rattle.reciprocals.proofs.reciprocal.Made.{settled_long}
use Rattle.spec_tree.proofs.Outcomes.{then_then}

-- ---- lists

-- ---- lets

pub lets_append : (i : ℕ) (a b : List Tree) → lets_from i (a ++ b) ≡ lets_from i a ++ lets_from (i + length a) b
unfolding lets_from
lets_append i [] b = let z : i ≡ i + 0 = omega arith in ap (λ (n : ℕ). lets_from n b) z
lets_append i (t ∷ a) b =
    let z : suc i + length a ≡ i + suc (length a) = omega arith in
    ap (λ (r : List Intermediate). Let (xname i) t ∷ r) (lets_append (suc i) a b ∙ ap (λ (n : ℕ). lets_from (suc i) a ++ lets_from n b) z)

pub lets_fused : (steps : List Step) (i : ℕ) (l : List Tree) → map (fused_stmt steps) (binds (by_number i l)) ≡ lets_from i (map (fused_tree steps) l)
unfolding binds by_number lets_from fused_stmt
lets_fused steps i [] = refl
lets_fused steps i (t ∷ l) = ap (λ (r : List Intermediate). Let (xname i) (fused_tree steps t) ∷ r) (lets_fused steps (suc i) l)

-- ---- one scope

module _ (k first : ℕ) (ts ds : List Tree) (within : k ≤ length ts) where
  abbrev n : ℕ
  n = next_number k first ts

  abbrev us : List Tree
  us = settled_roots ds n ts

  next_is : next_number k first us ≡ n + length ds
  unfolding next_number settled_roots
  next_is =
      let m = next_number k first ts in
      let f : Tree → Tree = settle_tree ds m in
      omega (arith, length-append (map f ts) (settled_reciprocals ds m), length-map ts f, settled_long ds m, length-drop k (settled_roots ds m ts), length-drop k ts)

  module _ (x : ℕ) (l : Walked) where
    abbrev steps : List Step
    steps = all_steps l.groups

    results_are : map (fused_tree steps) (take k us) ≡ map (settled_fused ds n steps) (take k ts)
    unfolding settled_roots settled_fused
    results_are =
        ap (map (fused_tree steps)) (take_front (settle_tree ds n) k ts (settled_reciprocals ds n) within)
        ∙ map_through (settle_tree ds n) (fused_tree steps) (settled_fused ds n steps) (λ (t : Tree). refl) (take k ts)

    lets_are :
        lets_from first (map (fused_tree steps) (drop k us))
        ≡ lets_from first (map (settled_fused ds n steps) (drop k ts)) ++ lets_from n (map (fused_tree steps) (settled_reciprocals ds n))
    unfolding settled_roots settled_fused next_number
    lets_are =
        let f : Tree → Tree = settle_tree ds n in
        let g : Tree → Tree = fused_tree steps in
        let h : Tree → Tree = settled_fused ds n steps in
        let rs = settled_reciprocals ds n in
        let z : first + length (map h (drop k ts)) ≡ first + length (drop k ts) = omega (arith, length-map (drop k ts) h) in
        ap (λ (y : List Tree). lets_from first (map g y)) (drop_front f k ts rs within)
        ∙ (ap (lets_from first) (map_append g (map f (drop k ts)) rs)
        ∙ (ap (λ (y : List Tree). lets_from first (y ++ map g rs)) (map_through f g h (λ (t : Tree). refl) (drop k ts))
        ∙ (lets_append first (map h (drop k ts)) (map g rs) ∙ ap (λ (i : ℕ). lets_from first (map h (drop k ts)) ++ lets_from i (map g rs)) z)))

    work_is : settled_work (unfused x (state_of k first us)) l ≡ scope_work x k first ts ds l
    unfolding settled_work unfused state_of scope_work scope_stmts
    work_is =
        let a = lets_from first (map (settled_fused ds n steps) (drop k ts)) in
        let b = lets_from n (map (fused_tree steps) (settled_reciprocals ds n)) in
        let ms = group_matches l.groups in
        same_work (map (fused_tree steps) (take k us)) (map (settled_fused ds n steps) (take k ts))
        (map (fused_stmt steps) (binds (by_number first (drop k us))) ++ ms) (a ++ (b ++ ms)) l.next l.next (x + l.extracted) (x + l.extracted) results_are
        (ap (λ (y : List Intermediate). y ++ ms) (lets_fused steps first (drop k us) ∙ lets_are) ∙ append_assoc a b ms) refl refl

  module _ (scope : ℕ → List Tree → Outcome Scoped) (x : ℕ) where
    finished : (o : Outcome Walked) → ((o >>= λ l. ok (settled_work (unfused x (state_of k first us)) l)) >>= λ w. finish w) ≡ (o >>= λ l. finish (scope_work x k first ts ds l))
    finished (ok l) = ap finish (work_is x l)
    finished (refused r) = refl

    pub scope_is : (fuse_all scope x (state_of k first (bind_each_on ds n ts)) >>= λ w. finish w) ≡ settled_scope scope x k first ts ds
    unfolding fuse_all settled_groups settled_scope scope_groups
    scope_is =
        let s = state_of k first us in
        let gs = groups_from [] (collect_switches us) in
        ap (λ (y : List Tree). fuse_all scope x (state_of k first y) >>= λ w. finish w) all_roots
        ∙ (ap (λ (y : List Tree). fuse_groups scope (groups_from [] (collect_switches y)) (unfused x s) >>= λ w. finish w) (roots_of_state k first us)
        ∙ (ap (λ (o : Outcome Work). o >>= λ w. finish w) (fused_are scope gs (unfused x s))
        ∙ (ap (λ (i : ℕ). (numbered_groups scope i gs >>= λ l. ok (settled_work (unfused x s) l)) >>= λ w. finish w) starts ∙ finished (numbered_groups scope (n + length ds) gs))))
      where
        all_roots : bind_each_on ds n ts ≡ us
        all_roots = (unfold settled_roots in bound_are_settled ds n ts)

        starts : (unfused x (state_of k first us)).next ≡ n + length ds
        starts = (unfold unfused in unfold state_of in next_is)

-- ---- after rounds

numbers_length : (i : ℕ) (l : List Tree) → length (by_number i l) ≡ length l
unfolding by_number
numbers_length i [] = refl
numbers_length i (e ∷ l) = ap suc (numbers_length (suc i) l)

lets_length : (k first : ℕ) (ts : List Tree) → length (state_of k first ts).lets ≡ length (drop k ts)
unfolding state_of
lets_length k first ts = numbers_length first (drop k ts)

-- its statements: a let for each tree after the results and for each divisor, and a match for each group
pub statements_are :
    (k first : ℕ) (ts ds : List Tree) → k ≤ length ts
    → statements (state_of k first (bind_each_on ds (next_number k first ts) ts)) ≡ (length (drop k ts) + length ds) + length (scope_groups ds (next_number k first ts) ts)
unfolding statements scope_groups
statements_are k first ts ds within =
    ap (λ (y : List Tree). statements (state_of k first y)) all_roots
    ∙ ap₂ ◌+◌ (lets_length k first (settled_roots ds n ts) ∙ lets) (ap (λ (y : List Tree). length (groups_from [] (collect_switches y))) (roots_of_state k first (settled_roots ds n ts)))
  where
    n : ℕ
    n = next_number k first ts

    all_roots : bind_each_on ds (next_number k first ts) ts ≡ settled_roots ds (next_number k first ts) ts
    all_roots = (unfold settled_roots in bound_are_settled ds (next_number k first ts) ts)

    lets : length (drop k (settled_roots ds (next_number k first ts) ts)) ≡ length (drop k ts) + length ds
    lets =
        (unfold settled_roots in
        let m = next_number k first ts in
        let f : Tree → Tree = settle_tree ds m in
        omega (arith, length-append (map f ts) (settled_reciprocals ds m), length-map ts f, settled_long ds m, length-drop k (settled_roots ds m ts), length-drop k ts))

-- with the divisors of the trees
divided : (shown : Tree → List ℕ) (k first : ℕ) (ts : List Tree) → reciprocals_on shown true k first ts ≡ bind_each_on (divisors_of shown ts) (next_number k first ts) ts
unfolding reciprocals_on divisors_of
divided shown k first ts = refl

-- whatever comes after reciprocals, given the count of extractions and the state, is done on the trees that rounds leave
module _ (end : ℕ → State → Outcome Scoped) where
  pub rounds_then :
      (shown : Tree → List ℕ) (next : ℕ) (es : List Tree) → let k = length es in
      (extract_all_by shown true next es >>= λ s. end (length s.lets) (reciprocals_by shown true s))
      ≡ (rounds_on shown (all_operations es) true k next es >>= λ ts.
      end (length (drop k ts)) (state_of k next (bind_each_on (divisors_of shown ts) (next_number k next ts) ts)))
  rounds_then shown next es =
      let k = length es in
      let o = rounds_on shown (all_operations es) true k next es in
      let whole : State → Outcome Scoped = λ s. end (length s.lets) (reciprocals_by shown true s) in
      ap (λ (o : Outcome State). o >>= whole) (extract_all_on shown true next es)
      ∙ (then_then o (λ ts. ok (state_of k next ts)) whole
      ∙ then_same (λ (ts : List Tree). k ≤ length ts) o (λ ts. whole (state_of k next ts))
      (λ ts. end (length (drop k ts)) (state_of k next (bind_each_on (divisors_of shown ts) (next_number k next ts) ts)))
      (rounds_on_length shown (all_operations es) true k next es (omega arith))
      (λ ts h. ap₂ end (lets_length k next ts) (reciprocals_on_state shown true k next ts h ∙ ap (state_of k next) (divided shown k next ts))))

  -- the same with the texts of trees
  pub by_text :
      (next : ℕ) (es : List Tree)
      → (extract_all true next es >>= λ s. end (length s.lets) (reciprocals true s))
      ≡ (extract_all_by display true next es >>= λ s. end (length s.lets) (reciprocals_by display true s))
  by_text next es =
      ap (λ (o : Outcome State). o >>= λ s. end (length s.lets) (reciprocals true s)) (sym (extract_all_text true next es)) ∙ same_end (extract_all_by display true next es)
    where
      same_end : (o : Outcome State)
          → (o >>= λ s. end (length s.lets) (reciprocals true s)) ≡ (o >>= λ s. end (length s.lets) (reciprocals_by display true s))
      same_end (ok s) = ap (end (length s.lets)) (sym (reciprocals_text true s))
      same_end (refused r) = refl

module _ (scope : ℕ → List Tree → Outcome Scoped) where
  -- the scope of some trees, as texts by `shown` have it
  pub scoped_is :
      (shown : Tree → List ℕ) (next : ℕ) (es : List Tree) → let k = length es in
      (extract_all_by shown true next es >>= λ s. fuse_all scope (length s.lets) (reciprocals_by shown true s) >>= λ w. finish w)
      ≡ (rounds_on shown (all_operations es) true k next es >>= λ ts. settled_scope scope (length (drop k ts)) k next ts (divisors_of shown ts))
  scoped_is shown next es =
      let k = length es in
      let end : ℕ → State → Outcome Scoped = λ x s. (fuse_all scope x s >>= λ w. finish w) in
      rounds_then end shown next es
      ∙ then_same (λ (ts : List Tree). k ≤ length ts) (rounds_on shown (all_operations es) true k next es)
      (λ ts. end (length (drop k ts)) (state_of k next (bind_each_on (divisors_of shown ts) (next_number k next ts) ts)))
      (λ ts. settled_scope scope (length (drop k ts)) k next ts (divisors_of shown ts)) (rounds_on_length shown (all_operations es) true k next es (omega arith))
      (λ ts h. scope_is k next ts (divisors_of shown ts) h scope (length (drop k ts)))

  -- and as `cse_scope` has it
  pub scope_settled :
      (next : ℕ) (es : List Tree) → let k = length es in
      (extract_all true next es >>= λ s. fuse_all scope (length s.lets) (reciprocals true s) >>= λ w. finish w)
      ≡ (rounds_on display (all_operations es) true k next es >>= λ ts. settled_scope scope (length (drop k ts)) k next ts (divisors_of display ts))
  scope_settled next es = by_text (λ x s. fuse_all scope x s >>= λ w. finish w) next es ∙ scoped_is display next es
