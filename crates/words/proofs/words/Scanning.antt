-- A scan that rewrites words from the left into a lent slice: what it has read and written, one turn more, and its end. Assumes nothing.
use Prim.Native.Nat.{ℕ, suc, ◌+◌, ◌-◌, ◌≤◌, ◌<◌}
use native.Mathlib.Omega.{arith}
use mathlib.Core.Path.{◌≡◌, refl, sym, ◌∙◌, ap, ap₂, subst}
use mathlib.Core.List.{List, [], ◌∷◌, ◌++◌, append_assoc, append-nil}
use borrow.Rule.Slice.PartMut.{put_mid}
use lib.ListN.{length, take, drop, set, length-append, length-drop, drop_of_length-le}
use lib.Seq.{take_at, drop_at, drop-drop, length-take-le, set_split}
use Rattle.spec_tree.specs.Tree.{Tree}
use Rattle.spec_tree.proofs.TokenLaws.{complete_end}
use Rattle.words.specs.words.Words.{rewritten_words, Complete, Writes}
use Rattle.words.proofs.words.Rewriting.{rewritten_none}
use Rattle.spec_tree.proofs.Lists.{rest_is, rest_back}

-- ---- words put at a place, everything else as it was

abbrev pub Put : List ℕ → ℕ → List ℕ → List ℕ → Type 0
Put old o new out = out ≡ take o old ++ (new ++ drop (o + length new) old)

pub put_one : (old : List ℕ) (o w : ℕ) → o < length old → Put old o (w ∷ []) (set old o w)
put_one old o w h = let e : suc o ≡ o + 1 = omega arith in set_split old o w h ∙ ap (λ (k : ℕ). take o old ++ w ∷ drop k old) e

pub put_long : (old : List ℕ) (o : ℕ) (new out : List ℕ) → o + length new ≤ length old → Put old o new out → length out ≡ length old
put_long old o new out h p =
    ap length p
    ∙ omega (
      arith,
      length-append (take o old) (new ++ drop (o + length new) old),
      length-append new (drop (o + length new) old),
      length-drop (o + length new) old,
      length-take-le o old (omega arith),
    )

pub put_more :
    (old : List ℕ) (o : ℕ) (a b out then_out : List ℕ) (p : ℕ) → o + length a ≤ length old → p ≡ o + length a → Put old o a out → Put out p b then_out
    → Put old o (a ++ b) then_out
put_more old o a b out then_out p h e one two =
    let l = length-take-le o old (omega arith) in
    let front = take o old ++ a in
    let rest = drop (o + length a) old in
    let split : out ≡ front ++ rest = one ∙ sym (append_assoc (take o old) a rest) in
    let fl : length front ≡ p = omega (arith, length-append (take o old) a) in
    let first : take p out ≡ front = ap (take p) split ∙ take_at front rest p fl in
    let tail : drop p out ≡ rest = ap (drop p) split ∙ drop_at front rest p fl in
    let n : o + length a + length b ≡ o + length (a ++ b) = omega (arith, length-append a b) in
    let past : drop (p + length b) out ≡ drop (o + length (a ++ b)) old =
    sym (drop-drop (length b) p out) ∙ (ap (drop (length b)) tail ∙ (drop-drop (length b) (o + length a) old ∙ ap (λ (k : ℕ). drop k old) n)) in
    two
    ∙ (ap₂ (λ (x y : List ℕ). x ++ (b ++ y)) first past
    ∙ (append_assoc (take o old) a (b ++ drop (o + length (a ++ b)) old)
    ∙ ap (λ (x : List ℕ). take o old ++ x) (sym (append_assoc a b (drop (o + length (a ++ b)) old)))))

pub put_lent :
    (old x new : List ℕ) (u : ℕ) → x ≡ new ++ drop (length new) (take (length old - u) (drop u old)) → Put old u new (put_mid u (length old - u) old x)
put_lent old x new u e =
    rest_back old x u
    ∙ ap (λ (l : List ℕ). take u old ++ l) (e ∙ ap (λ (l : List ℕ). new ++ l) (ap (drop (length new)) (rest_is old u) ∙ drop-drop (length new) u old))

-- ---- the words from a place on

module _ (ws : List ℕ) (complete : Complete ws) (i : ℕ) (more : i < length ws) where
  pub here_long : 0 < length (drop i ws)
  here_long = omega (arith, length-drop i ws)

  pub here_complete : Complete (drop i ws)
  here_complete = complete_end i ws complete.0 complete.1

  -- as they are lent
  pub here_asked : (0 < length (take (length ws - i) (drop i ws))) × Complete (take (length ws - i) (drop i ws))
  here_asked =
      (subst (λ (l : List ℕ). 0 < length l) (sym (rest_is ws i)) here_long, subst (λ (l : List ℕ). Complete l) (sym (rest_is ws i)) here_complete)

-- ---- the scan

module _ (f : Tree → Tree) (ws old : List ℕ) where
  pub record Scanned (out : List ℕ) (i o : ℕ) : Type 0 where
    pub within : i ≤ length ws
    pub fewer : o ≤ i
    pub done : List ℕ
    pub many : length done ≡ o
    pub written : out ≡ done ++ drop o old
    pub to_come : done ++ rewritten_words f (drop i ws) ≡ rewritten_words f ws

  pub scan_starts : Scanned old 0 0
  scan_starts = record { within = omega arith; fewer = omega arith; done = []; many = refl; written = refl; to_come = refl }

  pub scan_long : {out : List ℕ} {i o : ℕ} → length ws ≤ length old → Scanned out i o → length out ≡ length old
  scan_long {out} {i} {o} fits s = ap length s.written ∙ omega (arith, length-append s.done (drop o old), length-drop o old, s.many, s.fewer, s.within)

  pub scan_turn :
      {out : List ℕ} {i o : ℕ} (s : Scanned out i o) (new : List ℕ) (j : ℕ) (out' : List ℕ) (i' o' : ℕ)
      → i' ≡ i + j → o' ≡ o + length new → i' ≤ length ws → length new ≤ j
      → rewritten_words f (drop i ws) ≡ new ++ rewritten_words f (drop j (drop i ws)) → Put out o new out' → Scanned out' i' o'
  scan_turn {out} {i} {o} s new j out' i' o' ei eo h short step put =
      let first : take o out ≡ s.done = ap (take o) s.written ∙ take_at s.done (drop o old) o s.many in
      let tail : drop o out ≡ drop o old = ap (drop o) s.written ∙ drop_at s.done (drop o old) o s.many in
      let past : drop (o + length new) out ≡ drop o' old =
      sym (drop-drop (length new) o out) ∙ (ap (drop (length new)) tail ∙ (drop-drop (length new) o old ∙ ap (λ (k : ℕ). drop k old) (sym eo))) in
      let on : rewritten_words f (drop j (drop i ws)) ≡ rewritten_words f (drop i' ws) =
      ap (rewritten_words f) (drop-drop j i ws ∙ ap (λ (k : ℕ). drop k ws) (sym ei)) in
      record {
        within = h;
        fewer = omega (arith, s.fewer);
        done = s.done ++ new;
        many = omega (arith, length-append s.done new, s.many);
        written = put ∙ (ap₂ (λ (x y : List ℕ). x ++ (new ++ y)) first past ∙ sym (append_assoc s.done new (drop o' old)));
        to_come =
            append_assoc s.done new (rewritten_words f (drop i' ws))
            ∙ (ap (λ (x : List ℕ). s.done ++ x) (sym (step ∙ ap (λ (x : List ℕ). new ++ x) on)) ∙ s.to_come);
      }

  pub scan_ends : {out : List ℕ} {i o : ℕ} → Scanned out i o → length ws ≤ i → Writes f ws old o out
  scan_ends {out} {i} {o} s h =
      let none_left : rewritten_words f (drop i ws) ≡ [] = ap (rewritten_words f) (drop_of_length-le ws h) ∙ rewritten_none f in
      let all : s.done ≡ rewritten_words f ws =
      sym (append-nil s.done) ∙ (ap (λ (x : List ℕ). s.done ++ x) (sym none_left) ∙ s.to_come) in
      let n : o ≡ length (rewritten_words f ws) = sym s.many ∙ ap length all in
      record { count = n; words = s.written ∙ ap₂ (λ (x : List ℕ) (k : ℕ). x ++ drop k old) all n }
