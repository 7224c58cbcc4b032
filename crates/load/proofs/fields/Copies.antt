-- A name's bytes copied to the front of a slice, or nothing where they are too many. Assumes nothing.
use Prim.Native.Nat.{ℕ, ◌+◌, ◌≤◌, ◌<◌}
use mathlib.Core.Path.{◌≡◌, sym, ◌∙◌, ap}
use mathlib.Core.List.{List}
use native.Mathlib.Numerals.{add-one}
use native.Mathlib.Omega.{arith}
use lib.ListN.{length, get_or, set}
use lib.Seq.{paste, paste-suc}

module _ (s old : List ℕ) where
  pub copied_next : (new : List ℕ) (i v : ℕ) → length s ≤ length old → new ≡ paste old 0 s i → i < length s → v ≡ get_or s i 0 → set new i v ≡ paste old 0 s (i + 1)
  copied_next new i v l e h w =
      let k : 0 + i < length old = omega arith in
      let z : 0 + i ≡ i = omega arith in
      ap (λ (m : List ℕ). set m i v) e ∙ (ap (λ (x : ℕ). set (paste old 0 s i) i x) w ∙ (ap (λ (n : ℕ). set (paste old 0 s i) n (get_or s i 0)) (sym z) ∙ (paste-suc old 0 s i 0 k h ∙ ap (λ (n : ℕ). paste old 0 s n) (sym (add-one i)))))
