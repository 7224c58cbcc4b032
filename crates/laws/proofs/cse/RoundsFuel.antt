-- Rounds have fuel enough, and so has each `replace` in a round: any more gives the same. Assumes nothing.
use Prim.Native.Nat.{ℕ, zero, suc, ◌+◌, ◌-◌, ◌*◌, ◌≤◌}
use mathlib.Core.Path.{◌≡◌, refl, ◌∙◌, ap, subst}
use mathlib.Core.Bool.{Bool}
use mathlib.Core.Option.{Option, none, some}
use mathlib.Core.List.{List}
use native.Mathlib.Omega.{arith}
use native.Mathlib.Nat.{zero-add, suc-add}
use lib.Dec.{T}
use Rattle.spec_tree.specs.Outcome.{Outcome, ok, refused, ◌>>=◌}
use Rattle.spec_tree.specs.Tree.{xname, Tree, Sym}
use Rattle.spec_tree.specs.Facts.{size, all_operations, all_nodes}
use Rattle.spec_tree.proofs.Formed.{well_formed}
use Rattle.spec_rewrite.specs.Rewrite.{replace_within, replace}
use Rattle.spec_rewrite.proofs.Names.{holds_all, all_nodes_hold}
use Rattle.spec_rewrite.proofs.Counts.{well_formed_all}
use Rattle.spec_rewrite.proofs.Counts.{counted_holds, absent}
use Rattle.spec_rewrite.proofs.ReplaceFuel.{replace_enough}
use Rattle.spec_cse.specs.Extract.{State, Candidate, roots, is_candidate, best, extract, rounds, extract_all}
use Rattle.laws.proofs.cse.RoundsCount.{symbol_factor, factors_nodes, best_fits, candidate_facts, made_before, new_name, Sound, round, rounds_ended, begin, begin_roots, begin_sound}

module _ (scoped : Bool) where
  round_same :
      (s : State) → Sound s → (g h : State → Outcome State) → ((t : State) → Sound t → suc (all_operations (roots t)) ≤ all_operations (roots s) → g t ≡ h t)
      → (o : Option Candidate) → best scoped (roots s) ≡ o
      → ◌≡◌ {A = Outcome State} (elim o [ none ↦ ok s | some c ↦ (extract c.tree s >>= λ t. g t) ]) (elim o [ none ↦ ok s | some c ↦ (extract c.tree s >>= λ t. h t) ])
  round_same s S g h f none e = refl
  round_same s S g h f (some c) e = go (extract c.tree s) refl
    where
      go : (o : Outcome State) → extract c.tree s ≡ o → (o >>= λ t. g t) ≡ (o >>= λ t. h t)
      go (ok t) z = (let r = round scoped c.tree s t S (best_fits scoped (roots s) c e) z in f t r.0 r.1)
      go (refused i) z = refl

  -- no operations, no candidate
  at_end : (s : State) → (o : Option Candidate) → best scoped (roots s) ≡ o → o ≡ none → ◌≡◌ {A = Outcome State} (elim o [ none ↦ ok s | some c ↦ (extract c.tree s >>= λ t. ok t) ]) (ok s)
  at_end s o e z = rw z refl

  one_more : (fuel : ℕ) (s : State) → Sound s → all_operations (roots s) ≤ fuel → rounds (suc fuel) scoped s ≡ rounds fuel scoped s
  unfolding rounds
  one_more zero s S h = at_end s (best scoped (roots s)) refl (rounds_ended scoped 0 s s S h (unfold rounds in refl)).none_left
  one_more (suc fuel) s S h =
      round_same s S (λ t. rounds (suc fuel) scoped t) (λ t. rounds fuel scoped t) (λ t U l. one_more fuel t U (omega arith)) (best scoped (roots s)) refl

  some_more : (more : ℕ) (s : State) → Sound s → rounds (more + all_operations (roots s)) scoped s ≡ rounds (all_operations (roots s)) scoped s
  some_more zero s S = rw (zero-add (all_operations (roots s))) refl
  some_more (suc more) s S =
      rw (suc-add more (all_operations (roots s))) (one_more (more + all_operations (roots s)) s S (omega arith) ∙ some_more more s S)

  as_given :
      (next : ℕ) (es : List Tree) (more : ℕ) → rounds (more + all_operations es) scoped (begin es next) ≡ rounds (all_operations es) scoped (begin es next)
      → rounds (more + all_operations es) scoped (begin es next) ≡ extract_all scoped next es
  unfolding extract_all begin
  as_given next es more e = e

  -- any fuel from the operations given on
  pub extract_all_enough :
      (next : ℕ) (es : List Tree) → T (well_formed_all es) → T (holds_all (made_before next) es) → (fuel : ℕ) → all_operations es ≤ fuel
      → rounds fuel scoped (begin es next) ≡ extract_all scoped next es
  extract_all_enough next es w h fuel l =
      let a : all_operations (roots (begin es next)) ≡ all_operations es = ap all_operations (begin_roots es next) in
      let q : (fuel - all_operations es) + all_operations es ≡ fuel = omega arith in
      subst (λ (m : ℕ). rounds m scoped (begin es next) ≡ extract_all scoped next es) q
      (as_given next es (fuel - all_operations es) (rw a at (some_more (fuel - all_operations es) (begin es next) (begin_sound es next w h))))

  -- a candidate's, in a round
  pub replace_in_round_enough :
      (s : State) → Sound s → (x : Tree) → T (is_candidate scoped (roots s) x) → (fuel : ℕ) (e : Tree) → 2 * size e ≤ fuel → T (well_formed e)
      → replace_within fuel x (xname s.next) e ≡ replace x (xname s.next) e
  replace_in_round_enough s S x c =
      let f = candidate_facts scoped (roots s) x c in
      let k = s.next in
      let held = counted_holds (made_before k) x (all_nodes (roots s)) (all_nodes_hold (made_before k) (roots s) S.known) (let q = f.2 in omega arith) in
      replace_enough x (xname k)
      (λ _. (let a = absent (made_before k) (xname k) (new_name k) x held in let b = factors_nodes (Sym (xname k)) x in let c = symbol_factor x f.1 in omega arith))
