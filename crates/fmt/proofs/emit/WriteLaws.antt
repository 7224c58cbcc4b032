-- Texts written one after another are one text and the empty text is written by doing nothing. Assumes nothing.
use Prim.Native.Nat.{ℕ, suc, ◌+◌, ◌≤◌, ◌<◌, min}
use mathlib.Core.Path.{◌≡◌, refl, sym, ap, ◌∙◌, subst}
use mathlib.Core.Bool.{Bool, true, false, not}
use mathlib.Core.List.{List, [], ◌∷◌, ◌++◌}
use native.Mathlib.Omega.{arith}
use lib.Dec.{T, ltb, ltb→lt, nltb→le}
use lib.ListN.{length, length-append}
use lib.Seq.{sets, length-sets, set_out}
use Rattle.fmt.specs.emit.Writing.{Writes, bytes_after}
use Rattle.spec_tree.proofs.Lists.{sets_append}

-- ---- stores

sets_out : (w l : List ℕ) (i : ℕ) → length l ≤ i → sets l i w ≡ l
sets_out [] l i h = refl
sets_out (a ∷ w) l i h = ap (λ (z : List ℕ). sets z (suc i) w) (set_out l i a h) ∙ sets_out w l (suc i) (omega arith)

-- ---- one text after another

pub writes_length : {dry : Bool} {old : List ℕ} {to : ℕ} {w new : List ℕ} {e : ℕ} → Writes dry old to w new e → length new ≡ length old
writes_length {dry} {old} {to} {w} h = ap length h.leaves ∙ go dry
  where
    go : (b : Bool) → length (bytes_after b old to w) ≡ length old
    go true = refl
    go false = length-sets old to w

pub writes_then :
    {dry : Bool} {old mid new : List ℕ} {to j e : ℕ} {v w : List ℕ} → Writes dry old to v mid j → Writes dry mid j w new e → Writes dry old to (v ++ w) new e
writes_then {dry} {old} {mid} {new} {to} {j} {e} {v} {w} h k = record {
  ends = omega (arith, h.ends, k.ends, writes_length h, length-append v w);
  leaves = go dry h.leaves k.leaves (writes_length h);
}
  where
    inside : to + length v ≤ length old → j ≡ to + length v
    inside g = omega (arith, h.ends)

    stored : mid ≡ sets old to v → length mid ≡ length old → (b : Bool) → (T b → length old < to + length v) → (T (not b) → to + length v ≤ length old) → sets mid j w ≡ sets old to (v ++ w)
    stored p len true f g =
        sets_out w mid j (omega (arith, h.ends, f tt))
        ∙ (sym (sets_out w mid (to + length v) (omega (arith, f tt))) ∙ (ap (λ (z : List ℕ). sets z (to + length v) w) p ∙ sets_append old to v w))
    stored p len false f g = (λ d. sets (p d) (inside (g tt) d) w) ∙ sets_append old to v w

    go : (b : Bool) → mid ≡ bytes_after b old to v → new ≡ bytes_after b mid j w → length mid ≡ length old → new ≡ bytes_after b old to (v ++ w)
    go true p q len = q ∙ p
    go false p q len = q ∙ stored p len (ltb (length old) (to + length v)) (ltb→lt (length old) (to + length v)) (nltb→le (length old) (to + length v))

pub writes_none : {dry : Bool} {old : List ℕ} {to e : ℕ} → e ≡ min to (length old + 1) → Writes dry old to [] old e
writes_none {dry} {old} {to} h = record { ends = omega (arith, h); leaves = go dry }
  where
    go : (b : Bool) → old ≡ bytes_after b old to []
    go true = refl
    go false = refl

-- the same text by another name
pub writes_as : {dry : Bool} {old : List ℕ} {to : ℕ} {new : List ℕ} {e : ℕ} (v w : List ℕ) → v ≡ w → Writes dry old to v new e → Writes dry old to w new e
writes_as {dry} {old} {to} {new} {e} v w p h = subst (λ (z : List ℕ). Writes dry old to z new e) p h
