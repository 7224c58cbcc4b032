-- In complete words the first operand of the first node and the whole of it are there, so that where they end is never refused. Assumes nothing.
use Rattle.std.specs.Prelude.{None}
use Prim.Native.Nat.{ℕ, ◌≤◌, ◌<◌}
use native.Mathlib.Omega.{arith}
use mathlib.Core.Path.{◌≡◌}
use mathlib.Core.Option.{Option, none, some}
use mathlib.Core.List.{List, [], ◌∷◌}
use lib.ListN.{length, get_or}
use Rattle.spec_tree.specs.Tokens.{takes, run_at}
use Rattle.words.specs.tokens.Answers.{end_answer}
use Rattle.words.specs.words.Words.{Complete}
use Rattle.words.proofs.words.Rewriting.{first_there, whole_there}

pub first_run : (us : List ℕ) → 0 < length us → Complete us → 1 ≤ takes (get_or us 0 0) → (x : ℕ) × (run_at us 1 ≡ some x)
unfolding run_at
first_run [] h c k = absurd (omega arith)
first_run (w ∷ ws) h c k = first_there w ws c.0 c.1 k

pub whole_run : (us : List ℕ) → 0 < length us → Complete us → (y : ℕ) × (run_at us 0 ≡ some y)
unfolding run_at
whole_run [] h c = absurd (omega arith)
whole_run (w ∷ ws) h c = whole_there w ws c.0 c.1

not_broken : (at : ℕ) (o : Option ℕ) (x : ℕ) → o ≡ some x → None ≡ end_answer at o → ⊥
unfolding end_answer
not_broken at none x e p = absurd (let z : ◌≡◌ {A = ℕ} 0 1 = cc in omega arith)
not_broken at (some k) x e p = let z : ◌≡◌ {A = ℕ} 0 1 = cc in absurd (omega arith)

pub first_not_broken : (us : List ℕ) → 0 < length us → Complete us → 1 ≤ takes (get_or us 0 0) → None ≡ end_answer 1 (run_at us 1) → ⊥
first_not_broken us h c k p = let q = first_run us h c k in not_broken 1 (run_at us 1) q.0 q.1 p

pub whole_not_broken : (us : List ℕ) → 0 < length us → Complete us → None ≡ end_answer 0 (run_at us 0) → ⊥
whole_not_broken us h c p = let q = whole_run us h c in not_broken 0 (run_at us 0) q.0 q.1 p
