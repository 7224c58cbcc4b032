-- The first comma: a record splits there, or is one field. Assumes nothing.
use Rattle.std.specs.Prelude as std
use Rattle.std.specs.Prelude.{Some, None, position}
use Rattle.std.specs.List.{position_or_len}
use Prim.Native.Nat.{ℕ, suc, ◌+◌, ◌<◌}
use mathlib.Core.Path.{◌≡◌, refl, sym, ◌∙◌, ap, ap₂}
use mathlib.Core.Bool.{Bool, true, false, not, cond}
use mathlib.Core.Option.{Option, none, some}
use mathlib.Core.List.{List, [], ◌∷◌, ◌++◌, reverse, append-nil}
use native.Mathlib.Omega.{arith}
use native.Mathlib.Nat.{zero-add, add-zero}
use borrow.Author.Tests.{lt-ltb}
use Rattle.std.proofs.lemmas.Bool.Decides.{nat_tests}
use lib.Dec.{eqb, ltb}
use lib.ListN.{length, take, drop}
use Rattle.spec_sheet.specs.Sheet.{fields_from}
use Rattle.load.specs.fields.Comma.{comma_from, comma_at}
use Rattle.load.specs.fields.Answers.{split_answer}
use Rattle.spec_tree.proofs.Lists.{reverse_shift}

-- ---- the search

abbrev pub comma : ℕ → Bool
comma b = eqb b 44

abbrev PlacedFrom : ℕ → List ℕ → std.Option ℕ
PlacedFrom i s = cond (ltb (position_or_len comma s) (length s)) (Some (i + position_or_len comma s)) None

less_next : (p n : ℕ) → ltb (1 + p) (suc n) ≡ ltb p n
less_next p n = grind (arith, nat_tests)

placed_from : (i : ℕ) (s : List ℕ) → PlacedFrom i s ≡ split_answer (comma_from i s)
unfolding comma_from
placed_from i [] = refl
placed_from i (b ∷ s) = go (eqb b 44) (placed_from (suc i) s)
  where
    go : (t : Bool) → PlacedFrom (suc i) s ≡ split_answer (comma_from (suc i) s)
        → cond (ltb (cond (not t) (1 + position_or_len comma s) 0) (suc (length s))) (Some (i + cond (not t) (1 + position_or_len comma s) 0)) None
        ≡ split_answer (elim t [ true ↦ some i | false ↦ comma_from (suc i) s ])
    go true e = rw (lt-ltb 0 (suc (length s)) (omega arith)) (ap Some (add-zero i))
    go false e =
        let next : i + (1 + position_or_len comma s) ≡ suc i + position_or_len comma s = omega arith in
        ap₂ (λ (t : Bool) (n : ℕ). cond t (Some n) None) (less_next (position_or_len comma s) (length s)) next ∙ e

-- what `position` gives
pub comma_placed : (s : List ℕ) → position comma s ≡ split_answer (comma_at s)
unfolding comma_at
comma_placed s = ap (λ (n : ℕ). cond (ltb (position_or_len comma s) (length s)) (Some n) None) (sym (zero-add (position_or_len comma s))) ∙ placed_from 0 s

-- ---- what it says of the fields

-- fields fs of s, whose first starts with `got`, where the comma's place is counted from k
record Cut (fs : List (List ℕ)) (got s : List ℕ) (k i : ℕ) : Type 0 where
  place : ℕ
  counted : i ≡ k + place
  inside : place < length s
  parts : fs ≡ (reverse got ++ take place s) ∷ fields_from [] (drop (suc place) s)

abbrev Cuts : List (List ℕ) → List ℕ → List ℕ → ℕ → Option ℕ → Type 0
Cuts fs got s k none = fs ≡ (reverse got ++ s) ∷ []
Cuts fs got s k (some i) = Cut fs got s k i

cut_later : (fs : List (List ℕ)) (got : List ℕ) (b : ℕ) (s : List ℕ) (k : ℕ) (o : Option ℕ) → Cuts fs (b ∷ got) s (suc k) o → Cuts fs got (b ∷ s) k o
cut_later fs got b s k none h = h ∙ ap (λ (l : List ℕ). l ∷ []) (reverse_shift got b s)
cut_later fs got b s k (some i) h =
    record {
      place = suc h.place;
      counted = omega arith;
      inside = omega arith;
      parts = h.parts ∙ ap (λ (l : List ℕ). l ∷ fields_from [] (drop (suc h.place) s)) (reverse_shift got b (take h.place s));
    }

cuts : (got s : List ℕ) (k : ℕ) → Cuts (fields_from got s) got s k (comma_from k s)
unfolding comma_from fields_from
cuts got [] k = ap (λ (l : List ℕ). l ∷ []) (sym (append-nil (reverse got)))
cuts got (b ∷ s) k = go (eqb b 44) (cut_later (fields_from (b ∷ got) s) got b s k (comma_from (suc k) s) (cuts (b ∷ got) s (suc k)))
  where
    go : (t : Bool) → Cuts (fields_from (b ∷ got) s) got (b ∷ s) k (comma_from (suc k) s)
        → Cuts (elim t [ true ↦ reverse got ∷ fields_from [] s | false ↦ fields_from (b ∷ got) s ]) got (b ∷ s) k (elim t [ true ↦ some k | false ↦ comma_from (suc k) s ])
    go true h =
        record {
          place = 0;
          counted = omega arith;
          inside = omega arith;
          parts = ap (λ (l : List ℕ). l ∷ fields_from [] s) (sym (append-nil (reverse got)));
        }
    go false h = h

-- the answer Nowhere: one field
pub fields_whole : (s : List ℕ) → None ≡ split_answer (comma_at s) → fields_from [] s ≡ s ∷ []
unfolding comma_at
fields_whole s e = go (comma_from 0 s) (cuts [] s 0) e
  where
    go : (o : Option ℕ) → Cuts (fields_from [] s) [] s 0 o → None ≡ split_answer o → fields_from [] s ≡ s ∷ []
    go none h e = h
    go (some i) h e = absurd (let z : ◌≡◌ {A = ℕ} 0 1 = cc in omega arith)

-- the answer At i: a field, and those after the comma
pub record Fields (s : List ℕ) (i : ℕ) : Type 0 where
  pub inside : i < length s
  pub parts : fields_from [] s ≡ take i s ∷ fields_from [] (drop (suc i) s)

pub fields_cut : (s : List ℕ) (i : ℕ) → Some i ≡ split_answer (comma_at s) → Fields s i
unfolding comma_at
fields_cut s i e = go (comma_from 0 s) (cuts [] s 0) e
  where
    go : (o : Option ℕ) → Cuts (fields_from [] s) [] s 0 o → Some i ≡ split_answer o → Fields s i
    go none h e = absurd (let z : ◌≡◌ {A = ℕ} 0 1 = cc in omega arith)
    go (some j) h e =
        let k : j ≡ i = cc in
        let p : h.place ≡ i = omega arith in
        record { inside = omega arith; parts = rw p at h.parts }
