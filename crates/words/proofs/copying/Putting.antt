-- Words written at a place, one after another. Assumes nothing.
use Prim.Native.Nat.{ℕ, suc, ◌+◌, ◌≤◌, ◌<◌}
use native.Mathlib.Omega.{arith}
use mathlib.Core.Path.{◌≡◌, refl, sym, ◌∙◌, ap, subst}
use mathlib.Core.List.{List, [], ◌∷◌, ◌++◌}
use lib.ListN.{length, get_or, take, drop, set, length-set, take-append-drop}
use lib.Seq.{take-suc, take_all, length-take-le}
use Rattle.words.proofs.words.Scanning.{Put, put_one, put_more}

pub record Putting (words old : List ℕ) (at : ℕ) (out : List ℕ) (k : ℕ) : Type 0 where
  pub most : k ≤ length words
  pub put : Put old at (take k words) out
  pub long : length out ≡ length old

pub put_starts : (words old : List ℕ) (at : ℕ) → Putting words old at old 0
put_starts words old at =
    let z : at + 0 ≡ at = omega arith in
    record { most = omega arith; put = sym (ap (λ (k : ℕ). take at old ++ drop k old) z ∙ take-append-drop at old); long = refl }

pub put_turns :
    {words old : List ℕ} {at : ℕ} {out : List ℕ} {k : ℕ} → at + length words ≤ length old → Putting words old at out k → k < length words
    → Putting words old at (set out (at + k) (get_or words k 0)) (k + 1)
put_turns {words} {old} {at} {out} {k} f r h =
    let w = get_or words k 0 in
    let l = length-take-le k words (omega arith) in
    let o = put_one out (at + k) w (omega (arith, r.long)) in
    let e : at + k ≡ at + length (take k words) = omega arith in
    let n : suc k ≡ k + 1 = omega arith in
    let s : take k words ++ (w ∷ []) ≡ take (k + 1) words = sym (take-suc words k 0 h) ∙ ap (λ (j : ℕ). take j words) n in
    record {
      most = omega arith;
      put = subst (λ (x : List ℕ). Put old at x (set out (at + k) w)) s (put_more old at (take k words) (w ∷ []) out (set out (at + k) w) (at + k) (omega arith) e r.put o);
      long = length-set out (at + k) w ∙ r.long;
    }

pub put_ends : {words old : List ℕ} {at : ℕ} {out : List ℕ} {k : ℕ} → Putting words old at out k → length words ≤ k → Put old at words out
put_ends {words} {old} {at} {out} {k} r h = subst (λ (x : List ℕ). Put old at x out) (take_all k words h) r.put
