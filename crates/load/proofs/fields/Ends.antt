-- Where a record ends, and what that says of the records of a sheet. Assumes nothing.
use Prim.Native.Nat.{ℕ, suc, ◌+◌, ◌-◌, ◌≤◌, ◌<◌}
use mathlib.Core.Path.{◌≡◌, refl, sym, ◌∙◌, ap, subst}
use mathlib.Core.Bool.{Bool, true, false, ◌&&◌}
use mathlib.Core.Logic.{◌⊎◌, inl, inr, ⊎_elim}
use mathlib.Core.List.{List, [], ◌∷◌, ◌++◌, reverse, reverse-cons, append-nil}
use native.Mathlib.Numerals.{add-one}
use native.Mathlib.Omega.{arith}
use borrow.Author.Tests.{lt-ltb, le-ltb}
use lib.Dec.{T, eqb, eqb→eq}
use lib.ListN.{length, get_or, take, drop, length-drop, drop_of_length-le}
use lib.Seq.{drop-cons, drop-drop, get_or-drop}
use Rattle.spec_tree.proofs.Logic.{and_left, and_right}
use Rattle.spec_sheet.specs.Sheet.{records_from}
use Rattle.load.specs.fields.End.{end_from, record_end}
use Rattle.spec_tree.proofs.Lists.{reverse_shift}

-- ---- the search

abbrev pub crlf : ℕ → ℕ → Bool
crlf b c = eqb b 13 && eqb c 10

here : (i b c : ℕ) (l : List ℕ) → crlf b c ≡ true → end_from i (b ∷ (c ∷ l)) ≡ i
unfolding end_from
here i b c l e = rw (e, end_from)

later : (i b c : ℕ) (l : List ℕ) → crlf b c ≡ false → end_from i (b ∷ (c ∷ l)) ≡ end_from (suc i) (c ∷ l)
unfolding end_from
later i b c l e = rw (e, end_from)

module _ (s : List ℕ) (at : ℕ) where
  pub end_past : length s ≤ at → length s ≡ record_end s at
  unfolding record_end
  end_past h = rw (le-ltb at (length s) h)

  pub end_begin : at < length s → record_end s at ≡ end_from at (drop at s)
  unfolding record_end
  end_begin h = rw (lt-ltb at (length s) h)

  module _ (i : ℕ) (q : record_end s at ≡ end_from i (drop i s)) where
    two : i + 1 < length s → drop i s ≡ get_or s i 0 ∷ (get_or s (i + 1) 0 ∷ drop (suc (i + 1)) s)
    two h =
        let l : i < length s = omega arith in
        drop-cons s i 0 l ∙ ap (λ (r : List ℕ). get_or s i 0 ∷ r) (ap (λ (n : ℕ). drop n s) (sym (add-one i)) ∙ drop-cons s (i + 1) 0 h)

    pub end_next : i + 1 < length s → crlf (get_or s i 0) (get_or s (i + 1) 0) ≡ false → record_end s at ≡ end_from (i + 1) (drop (i + 1) s)
    end_next h e =
        q ∙ (ap (λ (l : List ℕ). end_from i l) (two h) ∙ (later i (get_or s i 0) (get_or s (i + 1) 0) (drop (suc (i + 1)) s) e
        ∙ (ap (λ (l : List ℕ). end_from (suc i) l) (sym (drop-cons s (i + 1) 0 h)) ∙ ap (λ (n : ℕ). end_from n (drop (i + 1) s)) (sym (add-one i)))))

    pub end_found : i + 1 < length s → crlf (get_or s i 0) (get_or s (i + 1) 0) ≡ true → i ≡ record_end s at
    end_found h e = sym (q ∙ (ap (λ (l : List ℕ). end_from i l) (two h) ∙ here i (get_or s i 0) (get_or s (i + 1) 0) (drop (suc (i + 1)) s) e))

    pub end_last : suc i ≡ length s → length s ≡ record_end s at
    unfolding end_from
    end_last e =
        let h : i < length s = omega arith in
        let l : length s ≤ suc i = omega arith in
        sym (q ∙ rw (drop-cons s i 0 h, drop_of_length-le s {i = suc i} l) e)

-- ---- what it says of the records

-- at a place of s there is a CRLF, or s ends
abbrev Stops : List ℕ → ℕ → Type 0
Stops s e = (e ≡ length s) ⊎ ((suc e < length s) × (get_or s e 0 ≡ 13) × (get_or s (suc e) 0 ≡ 10))

-- records rs of s, whose first starts with `got`, where the end's place is counted from k
record Ended (rs : List (List ℕ)) (got s : List ℕ) (k e : ℕ) : Type 0 where
  place : ℕ
  counted : e ≡ k + place
  stops : Stops s place
  parts : rs ≡ (reverse got ++ take place s) ∷ records_from [] (drop (suc (suc place)) s)

ended_later : (rs : List (List ℕ)) (got : List ℕ) (b : ℕ) (s : List ℕ) (k e : ℕ) → Ended rs (b ∷ got) s (suc k) e → Ended rs got (b ∷ s) k e
ended_later rs got b s k e h =
    record {
      place = suc h.place;
      counted = omega arith;
      stops = ⊎_elim (λ q. inl (ap suc q)) (λ q. inr (omega (arith, q.0), q.1, q.2)) h.stops;
      parts = h.parts ∙ ap (λ (l : List ℕ). l ∷ records_from [] (drop (suc (suc h.place)) s)) (reverse_shift got b (take h.place s));
    }

ended : (got : List ℕ) (b : ℕ) (s : List ℕ) (k : ℕ) → Ended (records_from got (b ∷ s)) got (b ∷ s) k (end_from k (b ∷ s))
unfolding end_from records_from
ended got b [] k = record { place = 1; counted = omega arith; stops = inl refl; parts = ap (λ (l : List ℕ). l ∷ []) (reverse-cons b got) }
ended got b (c ∷ l) k =
    go (crlf b c) (λ t. (eqb→eq b 13 (and_left (eqb b 13) (eqb c 10) t), eqb→eq c 10 (and_right (eqb b 13) (eqb c 10) t)))
    (ended_later (records_from (b ∷ got) (c ∷ l)) got b (c ∷ l) k (end_from (suc k) (c ∷ l)) (ended (b ∷ got) c l (suc k)))
  where
    go : (t : Bool) → (T t → (b ≡ 13) × (c ≡ 10)) → Ended (records_from (b ∷ got) (c ∷ l)) got (b ∷ (c ∷ l)) k (end_from (suc k) (c ∷ l))
        → Ended (elim t [ true ↦ reverse got ∷ records_from [] l | false ↦ records_from (b ∷ got) (c ∷ l) ]) got (b ∷ (c ∷ l)) k
        (elim t [ true ↦ k | false ↦ end_from (suc k) (c ∷ l) ])
    go true f h =
        record {
          place = 0;
          counted = omega arith;
          stops = inr (omega arith, (f tt).0, (f tt).1);
          parts = ap (λ (r : List ℕ). r ∷ records_from [] l) (sym (append-nil (reverse got)));
        }
    go false f h = h

-- a record from `at` to e, and those after its CRLF; where it ends the sheet, none come after it
pub record Record (s : List ℕ) (at e : ℕ) : Type 0 where
  pub after : at ≤ e
  pub stops : (e ≡ length s) ⊎ ((e + 1 < length s) × (get_or s e 0 ≡ 13) × (get_or s (e + 1) 0 ≡ 10))
  pub parts : records_from [] (drop at s) ≡ take (e - at) (drop at s) ∷ records_from [] (drop (e + 2) s)

pub records_cut : (s : List ℕ) (at : ℕ) → at < length s → Record s at (record_end s at)
records_cut s at h = subst (λ (n : ℕ). Record s at n) (sym (end_begin s at h)) (go (drop at s) refl (ended [] (get_or s at 0) (drop (suc at) s) at))
  where
    place_at : (p : ℕ) → at + p + 2 ≡ at + suc (suc p)
    place_at p = omega arith

    stops_at : (p : ℕ) → Stops (drop at s) p → (at + p ≡ length s) ⊎ ((at + p + 1 < length s) × (get_or s (at + p) 0 ≡ 13) × (get_or s (at + p + 1) 0 ≡ 10))
    stops_at p = ⊎_elim
        (λ q. inl (omega (arith, length-drop at s)))
        (λ q. inr (
          omega (arith, q.0, length-drop at s),
          sym (get_or-drop at s p 0) ∙ q.1,
          ap (λ (n : ℕ). get_or s n 0) (let e : at + p + 1 ≡ at + suc p = omega arith in e) ∙ (sym (get_or-drop at s (suc p) 0) ∙ q.2),
        ))

    whole : (e : ℕ) → Ended (records_from [] (drop at s)) [] (drop at s) at e → Record s at e
    whole e r =
        subst (λ (n : ℕ). Record s at n) (sym r.counted)
        (record {
          after = omega arith;
          stops = stops_at r.place r.stops;
          parts =
              r.parts
              ∙ (ap (λ (n : ℕ). take n (drop at s) ∷ records_from [] (drop (suc (suc r.place)) (drop at s))) (let q : r.place ≡ (at + r.place) - at = omega arith in q)
              ∙ ap (λ (l : List ℕ). take ((at + r.place) - at) (drop at s) ∷ records_from [] l) (drop-drop (suc (suc r.place)) at s ∙ ap (λ (n : ℕ). drop n s) (sym (place_at r.place))));
        })

    go : (l : List ℕ) → drop at s ≡ l → Ended (records_from [] (get_or s at 0 ∷ drop (suc at) s)) [] (get_or s at 0 ∷ drop (suc at) s) at (end_from at (get_or s at 0 ∷ drop (suc at) s))
        → Record s at (end_from at (drop at s))
    go l e r = whole (end_from at (drop at s)) (subst (λ (m : List ℕ). Ended (records_from [] m) [] m at (end_from at m)) (sym (drop-cons s at 0 h)) r)
