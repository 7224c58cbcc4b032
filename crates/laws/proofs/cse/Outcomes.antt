-- What a step gives, if it gives anything, has a property. Assumes nothing.
use mathlib.Core.Path.{◌≡◌, subst}
use Rattle.spec_tree.specs.Outcome.{Outcome, ok, refused, ◌>>=◌}

unfoldable pub Good : {A : Type 0} → (A → Type 0) → Outcome A → Type 0
Good Q (ok a) = Q a
Good Q (refused i) = Unit {0}

pub then_good : {A B : Type 0} (Q : A → Type 0) (R : B → Type 0) (o : Outcome A) → Good Q o → (f : A → Outcome B) → ((a : A) → Q a → Good R (f a)) → Good R (o >>= f)
unfolding Good
then_good Q R (ok a) h f g = g a h
then_good Q R (refused i) h f g = tt

pub any_good : {A B : Type 0} (R : B → Type 0) (o : Outcome A) (f : A → Outcome B) → ((a : A) → Good R (f a)) → Good R (o >>= f)
unfolding Good
any_good R (ok a) f g = g a
any_good R (refused i) f g = tt

pub good_ok : {A : Type 0} (Q : A → Type 0) (a : A) → Q a → Good Q (ok a)
unfolding Good
good_ok Q a h = h

pub good_at : {A : Type 0} (Q : A → Type 0) (o : Outcome A) (a : A) → o ≡ ok a → Good Q o → Q a
unfolding Good
good_at Q o a e h = subst (Good Q) e h
