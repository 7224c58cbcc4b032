-- The first i words copied, the rest as it was: how the copy starts, goes on and ends. Assumes nothing.
use Prim.Native.Nat.{ℕ, suc, ◌+◌, ◌≤◌, ◌<◌}
use native.Mathlib.Omega.{arith}
use mathlib.Core.Path.{◌≡◌, sym, ◌∙◌, ap}
use mathlib.Core.List.{List, [], ◌∷◌, ◌++◌, append_assoc}
use lib.ListN.{length, get_or, take, drop, set, length-append, length-drop}
use lib.Seq.{length-take-le, drop-cons, take-suc, set_at, take-length}

pub copy_long : (s old out : List ℕ) (i : ℕ) → length s ≤ length old → i ≤ length s → out ≡ take i s ++ drop i old → length out ≡ length old
copy_long s old out i fit h e = ap length e ∙ omega (arith, length-append (take i s) (drop i old), length-take-le i s h, length-drop i old)

pub copy_turn :
    (s old out : List ℕ) (i : ℕ) → length s ≤ length old → i < length s → out ≡ take i s ++ drop i old → set out i (get_or s i 0) ≡ take (i + 1) s ++ drop (i + 1) old
copy_turn s old out i fit h e =
    let w = get_or s i 0 in
    let n : suc i ≡ i + 1 = omega arith in
    ap (λ (l : List ℕ). set l i w) (e ∙ ap (λ (l : List ℕ). take i s ++ l) (drop-cons old i 0 (omega arith)))
    ∙ (set_at (take i s) (get_or old i 0) (drop (suc i) old) w i (length-take-le i s (omega arith))
    ∙ (sym (append_assoc (take i s) (w ∷ []) (drop (suc i) old))
    ∙ (ap (λ (l : List ℕ). l ++ drop (suc i) old) (sym (take-suc s i 0 h)) ∙ ap (λ (k : ℕ). take k s ++ drop k old) n)))

pub copy_ends : (s old out : List ℕ) (i : ℕ) → i ≤ length s → length s ≤ i → out ≡ take i s ++ drop i old → out ≡ s ++ drop (length s) old
copy_ends s old out i h k e =
    let n : i ≡ length s = omega arith in
    e ∙ (ap (λ (j : ℕ). take j s ++ drop j old) n ∙ ap (λ (l : List ℕ). l ++ drop (length s) old) (take-length s))
