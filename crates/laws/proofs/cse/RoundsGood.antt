-- What each extraction of a candidate keeps, the rounds keep. Assumes nothing.
use Prim.Native.Nat.{ℕ, zero, suc}
use mathlib.Core.Path.{◌≡◌, refl}
use mathlib.Core.Bool.{Bool}
use mathlib.Core.Option.{Option, none, some}
use mathlib.Core.List.{List, []}
use lib.Dec.{T}
use Rattle.spec_tree.specs.Outcome.{Outcome, ok, refused, ◌>>=◌}
use Rattle.spec_tree.specs.Tree.{Tree}
use Rattle.spec_tree.specs.Facts.{all_operations}
use Rattle.spec_cse.specs.Extract.{State, Candidate, roots, is_candidate, best, extract, rounds, extract_all}
use Rattle.laws.proofs.cse.Outcomes.{Good, good_ok}
use Rattle.laws.proofs.cse.RoundsCount.{best_fits, begin}

module _ (scoped : Bool) (P : State → Type 0) (keeps : (x : Tree) (s t : State) → T (is_candidate scoped (roots s) x) → extract x s ≡ ok t → P s → P t) where
  round_good :
      (s : State) → P s → (g : State → Outcome State) → ((t : State) → P t → Good P (g t)) → (o : Option Candidate) → best scoped (roots s) ≡ o
      → Good {A = State} P (elim o [ none ↦ ok s | some c ↦ (extract c.tree s >>= λ t. g t) ])
  round_good s h g k none e = good_ok P s h
  round_good s h g k (some c) e = go (extract c.tree s) refl
    where
      go : (o : Outcome State) → extract c.tree s ≡ o → Good P (o >>= λ t. g t)
      go (ok t) z = k t (keeps c.tree s t (best_fits scoped (roots s) c e) z h)
      go (refused i) z = (unfold Good in tt)

  rounds_good : (fuel : ℕ) (s : State) → P s → Good P (rounds fuel scoped s)
  unfolding rounds
  rounds_good zero s h = good_ok P s h
  rounds_good (suc fuel) s h = round_good s h (λ t. rounds fuel scoped t) (λ t g. rounds_good fuel t g) (best scoped (roots s)) refl

  pub extract_all_good : (next : ℕ) (es : List Tree) → P (begin es next) → Good P (extract_all scoped next es)
  unfolding extract_all begin
  extract_all_good next es h = rounds_good (all_operations es) (record { results = es; lets = []; next = next }) h
