-- Small laws on tests, on the lesser of two numbers, and on lists. Assumes nothing.
use Prim.Native.Nat.{ℕ, ◌≤◌, ◌<◌}
use native.Mathlib.Omega.{arith}
use mathlib.Core.Path.{◌≡◌, refl, ap₂}
use mathlib.Core.Bool.{Bool, true, false, not}
use mathlib.Core.List.{List, [], ◌∷◌, map}
use lib.Dec.{T, leb, ltb, leb→le, nleb→lt, ltb→lt}

pub is_false : (b : Bool) → (T b → ⊥) → b ≡ false
is_false true h = absurd (h tt)
is_false false h = refl

-- one of two numbers is at most the other
pub either : (a b : ℕ) (P : Type 0) → (a ≤ b → P) → (b < a → P) → P
either a b P f g = go (leb a b) (λ t. leb→le a b t) (λ t. nleb→lt a b t)
  where
    go : (c : Bool) → (T c → a ≤ b) → (T (not c) → b < a) → P
    go true u v = f (u tt)
    go false u v = g (v tt)

pub no_less : (a b : ℕ) → b ≤ a → ltb a b ≡ false
no_less a b h = is_false (ltb a b) (λ t. (let q = ltb→lt a b t in omega arith))

pub map_same : {A : Type 0} (f g : A → A) → ((a : A) → f a ≡ g a) → (l : List A) → map f l ≡ map g l
map_same f g h [] = refl
map_same f g h (a ∷ l) = ap₂ ◌∷◌ (h a) (map_same f g h l)

pub map_map : {A B C : Type 0} (f : B → C) (g : A → B) (l : List A) → map f (map g l) ≡ map (λ (a : A). f (g a)) l
map_map f g [] = refl
map_map f g (a ∷ l) = ap₂ ◌∷◌ refl (map_map f g l)
