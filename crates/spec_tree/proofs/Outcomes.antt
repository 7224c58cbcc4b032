-- Steps one after another, each of which may refuse. Assumes nothing.
use mathlib.Core.Path.{◌≡◌, refl}
use Rattle.spec_tree.specs.Outcome.{Outcome, ok, refused, ◌>>=◌}

pub then_then : {A B C : Type 0} (o : Outcome A) (f : A → Outcome B) (g : B → Outcome C) → ((o >>= f) >>= g) ≡ (o >>= λ a. f a >>= g)
then_then (ok a) f g = refl
then_then (refused i) f g = refl

pub then_known : {A B : Type 0} (o : Outcome A) (f g : A → Outcome B) → ((a : A) → o ≡ ok a → f a ≡ g a) → (o >>= f) ≡ (o >>= g)
then_known (ok a) f g h = h a refl
then_known (refused i) f g h = refl

pub got : {A : Type 0} {a b : A} → ◌≡◌ {A = Outcome A} (ok a) (ok b) → a ≡ b
got e = cc
