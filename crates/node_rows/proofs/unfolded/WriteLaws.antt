-- Runs written one after another. Assumes nothing.
use Prim.Native.Nat.{ℕ, ◌+◌, ◌≤◌, ◌<◌}
use mathlib.Core.Path.{◌≡◌, sym}
use mathlib.Core.List.{List, [], ◌∷◌, ◌++◌, append_assoc, append-nil}
use native.Mathlib.Nat.{add-zero}
use native.Mathlib.Numerals.{add-one}
use native.Mathlib.Omega.{arith}
use lib.ListN.{length, take, drop, set, length-append, length-take, length-drop, take-append-drop}
use lib.Seq.{set_split, take_at, drop_at, drop-drop}
use Rattle.node_rows.specs.unfolded.Write.{wrote, Wrote}

length_wrote : (old : List ℕ) (at : ℕ) (run : List ℕ) → at + length run ≤ length old → length (wrote old at run) ≡ length old
unfolding wrote
length_wrote old at run h = simp (length-append, length-take, length-drop) (omega arith)

wrote_nothing : (old : List ℕ) (at : ℕ) → wrote old at [] ≡ old
unfolding wrote
wrote_nothing old at = simp (add-zero, append-nil, take-append-drop)

wrote_one : (old : List ℕ) (at w : ℕ) → at < length old → set old at w ≡ wrote old at (w ∷ [])
unfolding wrote
wrote_one old at w h = rw (set_split old at w h, append_assoc, add-one)

wrote_more : (old : List ℕ) (at : ℕ) (a b : List ℕ) → at + length a ≤ length old → wrote (wrote old at a) (at + length a) b ≡ wrote old at (a ++ b)
unfolding wrote
wrote_more old at a b h =
    let la : length (take at old ++ a) ≡ at + length a = simp (length-append, length-take) (omega arith) in
    let t : take (at + length a) (wrote old at a) ≡ take at old ++ a = take_at (take at old ++ a) (drop (at + length a) old) (at + length a) la in
    let n = at + length a in
    let u : drop n (wrote old at a) ≡ drop n old = drop_at (take at old ++ a) (drop n old) n la in
    let e : n + length b ≡ at + length (a ++ b) = omega (arith, length-append a b) in
    let r : drop (n + length b) (wrote old at a) ≡ drop (at + length (a ++ b)) old = rw (← drop-drop (length b) n (wrote old at a), u, drop-drop, e) in
    rw (t, r, append_assoc (take at old) a b)

-- as long as before
pub wrote_long : {old new run : List ℕ} {at end : ℕ} → Wrote old at run end new → length new ≡ length old
wrote_long {old} {new} {run} {at} w = rw w.now_is (length_wrote old at run (omega (arith, w.end_is, w.fits)))

pub wrote_none : (old : List ℕ) (at : ℕ) → at ≤ length old → Wrote old at [] at old
wrote_none old at h = record { now_is = sym (wrote_nothing old at); end_is = omega arith; fits = h }

pub wrote_set : (old : List ℕ) (at w : ℕ) → at < length old → Wrote old at (w ∷ []) (at + 1) (set old at w)
wrote_set old at w h = record { now_is = wrote_one old at w h; end_is = omega arith; fits = omega arith }

pub wrote_then : {old mid new a b : List ℕ} {at to end : ℕ} → Wrote old at a to mid → Wrote mid to b end new → Wrote old at (a ++ b) end new
wrote_then {old} {mid} {new} {a} {b} {at} {to} {end} v w =
    let l : at + length a ≤ length old = omega (arith, v.end_is, v.fits) in
    record {
      now_is = rw (w.now_is, v.now_is, v.end_is) (wrote_more old at a b l);
      end_is = omega (arith, length-append a b, w.end_is, v.end_is);
      fits = omega (arith, w.fits, wrote_long v);
    }
