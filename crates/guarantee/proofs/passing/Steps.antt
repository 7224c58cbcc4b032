-- Rounds and reciprocals keep trees such as print takes, and bind `__xN` alone (01, "Extraction", "Reciprocals", "Turned down": 13). Assumes nothing.
use Prim.Native.Nat.{ℕ, suc, ◌≤◌}
use native.Mathlib.Omega.{arith}
use mathlib.Core.Path.{sym, subst}
use mathlib.Core.Bool.{Bool}
use mathlib.Core.List.{List, [], ◌∷◌, ◌++◌}
use lib.IntN.{pos}
use lib.Dec.{T}
use Rattle.spec_tree.specs.Outcome.{ok, ◌>>=◌, each}
use Rattle.spec_tree.specs.Tree.{xname, Tree, Const, Op, nil, ◌◂◌}
use Rattle.spec_tree.specs.Kinds.{Div}
use Rattle.spec_tree.specs.Facts.{has_symbol, all_nodes, count}
use Rattle.spec_rewrite.specs.Rewrite.{replace, replace_divisor}
use Rattle.spec_cse.specs.Extract.{Binding, State, bound, roots, is_candidate, replace_bound, extract, extract_all, divisors, replace_divisor_each, replace_divisor_bound, bind_reciprocal, bind_reciprocals, reciprocals}
use Rattle.spec_cse.specs.AnswerRows.{let_name}
use Rattle.laws.proofs.cse.Outcomes.{Good, then_good, good_ok, good_at}
use Rattle.laws.proofs.cse.RoundsCount.{candidate_facts, begin}
use Rattle.laws.proofs.cse.RoundsGood.{extract_all_good}
use Rattle.laws.proofs.cse.ReciprocalsCount.{AllTrees, all_map, inverse, bound_divisors, bound_twice, reciprocals_are}
use Rattle.laws.proofs.cse.Levels.{trees_append, trees_at}
use Rattle.guarantee.proofs.passing.Trees.{Fits, FitsAll, all_nodes_fit, divisors_fit, divided_fits, replaced_fits, each_replaced_fit}

abbrev pub OkLet : Binding → Type 0
OkLet b = T (let_name b.name) × Fits b.expr

abbrev pub OkLets : List Binding → Type 0
OkLets [] = Unit {0}
OkLets (b ∷ l) = OkLet b × OkLets l

abbrev pub OkState : State → Type 0
OkState s = FitsAll s.results × OkLets s.lets

bound_fit : (l : List Binding) → OkLets l → FitsAll (bound l)
unfolding bound
bound_fit [] h = tt
bound_fit (b ∷ l) h = (h.0.1, bound_fit l h.1)

pub roots_fit : (s : State) → OkState s → FitsAll (roots s)
unfolding roots
roots_fit s h = trees_append Fits s.results (bound s.lets) h.0 (bound_fit s.lets h.1)

lets_append : (l r : List Binding) → OkLets l → OkLets r → OkLets (l ++ r)
lets_append [] r g h = h
lets_append (b ∷ l) r g h = (g.0, lets_append l r g.1 h)

let_named : (i : ℕ) → T (let_name (xname i))
unfolding let_name
let_named i = tt

-- ---- rounds

module _ (x : Tree) (i : ℕ) (some_symbol : T (has_symbol x)) where
  bound_replaced : (b : Binding) → OkLet b → Good OkLet (replace_bound x (xname i) b)
  unfolding replace_bound
  bound_replaced b h =
      then_good Fits OkLet (replace x (xname i) b.expr) (replaced_fits x i some_symbol b.expr h.1) (λ e. ok (record { name = b.name; expr = e }))
      (λ e g. good_ok OkLet (record { name = b.name; expr = e }) (h.0, g))

  lets_replaced : (l : List Binding) → OkLets l → Good OkLets (each (λ b. replace_bound x (xname i) b) l)
  unfolding each
  lets_replaced [] h = good_ok OkLets [] tt
  lets_replaced (b ∷ l) h =
      then_good OkLet OkLets (replace_bound x (xname i) b) (bound_replaced b h.0) (λ c. each (λ b. replace_bound x (xname i) b) l >>= λ r. ok (c ∷ r))
      (λ c g. then_good OkLets OkLets (each (λ b. replace_bound x (xname i) b) l) (lets_replaced l h.1) (λ r. ok (c ∷ r)) (λ r k. good_ok OkLets (c ∷ r) (g, k)))

extract_ok : (x : Tree) (s : State) → T (has_symbol x) → Fits x → OkState s → Good OkState (extract x s)
unfolding extract
extract_ok x s q f h =
    then_good FitsAll OkState (each (λ e. replace x (xname s.next) e) s.results) (each_replaced_fit x s.next q s.results h.0) _
    (λ rs g. then_good OkLets OkState (each (λ b. replace_bound x (xname s.next) b) s.lets) (lets_replaced x s.next q s.lets h.1) _
    (λ ls k. good_ok OkState (record { results = rs; lets = ls ++ (record { name = xname s.next; expr = x } ∷ []); next = suc s.next })
    (g, lets_append ls (record { name = xname s.next; expr = x } ∷ []) k ((let_named s.next, f), tt))))

candidate_fits : (scoped : Bool) (x : Tree) (s : State) → T (is_candidate scoped (roots s) x) → OkState s → Fits x
candidate_fits scoped x s c h = trees_at Fits x (all_nodes (roots s)) (all_nodes_fit (roots s) (roots_fit s h)) (let q = (candidate_facts scoped (roots s) x c).2 in omega arith)

pub extract_all_ok : (scoped : Bool) (next : ℕ) (es : List Tree) → FitsAll es → Good OkState (extract_all scoped next es)
extract_all_ok scoped next es h =
    extract_all_good scoped OkState (λ x s t c e g. good_at OkState (extract x s) t e (extract_ok x s (candidate_facts scoped (roots s) x c).1 (candidate_fits scoped x s c g) g)) next es (unfold begin in (h, tt))

-- ---- reciprocals

module _ (d : Tree) (i : ℕ) where
  each_divided : (l : List Tree) → FitsAll l → FitsAll (replace_divisor_each d (xname i) l)
  unfolding replace_divisor_each
  each_divided [] h = h
  each_divided (t ∷ l) h = (divided_fits d i t h.0, each_divided l h.1)

  lets_divided : (l : List Binding) → OkLets l → OkLets (replace_divisor_bound d (xname i) l)
  unfolding replace_divisor_bound
  lets_divided [] h = tt
  lets_divided (b ∷ l) h = ((h.0.0, divided_fits d i b.expr h.0.1), lets_divided l h.1)

reciprocal_ok : (d : Tree) (s : State) → Fits (inverse d) → OkState s → OkState (bind_reciprocal d s)
unfolding bind_reciprocal
reciprocal_ok d s f h = (
  each_divided d s.next s.results h.0,
  lets_append (replace_divisor_bound d (xname s.next) s.lets) (record { name = xname s.next; expr = Op Div (Const (pos 1) ◂ d ◂ nil) } ∷ []) (lets_divided d s.next s.lets h.1)
      ((let_named s.next, (unfold inverse in f)), tt),
)

each_reciprocal : (l : List Tree) (s : State) → AllTrees (λ d. Fits (inverse d)) l → OkState s → OkState (bind_reciprocals l s)
unfolding bind_reciprocals
each_reciprocal [] s f h = h
each_reciprocal (d ∷ l) s f h = each_reciprocal l (bind_reciprocal d s) f.1 (reciprocal_ok d s f.0 h)

bound_divisors_fit : (scoped : Bool) (s : State) → OkState s → AllTrees (λ d. Fits (inverse d)) (bound_divisors scoped s)
bound_divisors_fit scoped s h =
    let all = all_nodes (roots s) in
    all_map (λ d. 2 ≤ count d (divisors all)) (λ d. Fits (inverse d))
    (λ d c. trees_at (λ x. Fits (inverse x)) d (divisors all) (divisors_fit all (all_nodes_fit (roots s) (roots_fit s h))) (omega arith)) (bound_divisors scoped s)
    (bound_twice scoped s)

pub reciprocals_ok : (scoped : Bool) (s : State) → OkState s → OkState (reciprocals scoped s)
reciprocals_ok scoped s h = subst OkState (sym (reciprocals_are scoped s)) (each_reciprocal (bound_divisors scoped s) s (bound_divisors_fit scoped s h) h)
