-- The ends of a call from another language. Assumes nothing.
use Prim.Native.Nat.{ℕ, ◌≤◌, ◌<◌}
use mathlib.Core.Path.{◌≡◌, refl, sym, ap, ◌∙◌, subst}
use mathlib.Core.Bool.{Bool}
use mathlib.Core.List.{List, [], ◌∷◌}
use native.Mathlib.Omega.{arith}
use borrow.Author.Tests.{le-leb, lt-leb}
use lib.ListN.{length, drop, set}
use Rattle.capi.specs.Calls.{CallsBy, Calls}

-- ---- an answer's values

pub one_set : (n : ℕ) (w : List ℕ) → 1 ≤ length w → set w 0 n ≡ n ∷ drop 1 w
one_set n (a ∷ w) h = refl
one_set n [] h = absurd (omega (arith, h))

pub two_set : (n m : ℕ) (w : List ℕ) → 2 ≤ length w → set (set w 0 n) 1 m ≡ n ∷ (m ∷ drop 2 w)
two_set n m (a ∷ (b ∷ w)) h = refl
two_set n m [] h = absurd (omega (arith, h))
two_set n m (a ∷ []) h = absurd (omega (arith, h))

-- ---- a call without room for them

pub no_room :
    (values number : ℕ) (new_out new_answer out answer : List ℕ) → length answer < values → Calls values number new_out new_answer out answer 255 out answer
no_room values number new_out new_answer out answer h =
    subst (λ (b : Bool). CallsBy b number new_out new_answer out answer 255 out answer) (sym (lt-leb values (length answer) h))
    (record { number_is = refl; out_is = refl; answer_is = refl })

-- ---- a call with room, by what was got, and how that is told

module _ (values : ℕ) {G : Type 0} (number : G → ℕ) (answer_after : G → List ℕ → List ℕ) (due : G) (new_out out answer : List ℕ) where
  pub is_called :
      (got : G) (q : ℕ) (o a : List ℕ) → values ≤ length answer → (got ≡ due) × (o ≡ new_out)
      → (q ≡ number got) × (a ≡ answer_after got answer)
      → Calls values (number due) new_out (answer_after due answer) out answer q o a
  is_called got q o a h r t =
      subst (λ (b : Bool). CallsBy b (number due) new_out (answer_after due answer) out answer q o a) (sym (le-leb values (length answer) h))
      (record { number_is = t.0 ∙ ap number r.0; out_is = r.1; answer_is = t.1 ∙ ap (λ g. answer_after g answer) r.0 })
