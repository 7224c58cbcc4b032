-- Records and fields: what is joined is split again as it was, and what is split was so joined. Assumes nothing.
use Prim.Native.Nat.{ℕ, suc, ◌+◌, ◌≤◌}
use mathlib.Core.Path.{◌≡◌, refl, sym, ◌∙◌, ap, subst}
use mathlib.Core.Bool.{Bool, true, false, ◌&&◌}
use mathlib.Core.Option.{Option, none, some}
use mathlib.Core.List.{List, [], ◌∷◌, ◌++◌, reverse, reverse-cons, append-nil, append_assoc}
use native.Mathlib.Omega.{arith}
use lib.ListN.{length, length-reverse}
use lib.Dec.{T, eqb, eqb→eq}
use Rattle.spec_tree.specs.Bytes.{bytes, every, joined, decimal}
use Rattle.spec_tree.specs.Records.{terminated, numbers_text}
use Rattle.spec_tree.proofs.Logic.{and_left, and_right}
use Rattle.spec_sheet.specs.Sheet.{records_from, fields_from, plain, number, numbers}
use Rattle.spec_sheet.proofs.Numerals.{number_decimal, Reads, number_reads, written_decimal}
use Rattle.spec_sheet.proofs.Inner.{no_comma, inner_no_comma, decimal_inner}
use Rattle.spec_tree.proofs.Lists.{reverse_shift}

-- ---- records: joined and split again

-- records that can stand in a sheet: plain bytes, and at least one
abbrev pub Sound : List (List ℕ) → Type 0
Sound [] = Unit {0}
Sound (r ∷ l) = T (every plain r) × (1 ≤ length r) × Sound l

not_return : (b : ℕ) → T (plain b) → b ≡ 13 → ⊥
unfolding plain
not_return b h e = subst (λ (m : ℕ). T (plain m)) e h

step : (got : List ℕ) (b c : ℕ) (l : List ℕ) → T (plain b) → records_from got (b ∷ (c ∷ l)) ≡ records_from (b ∷ got) (c ∷ l)
unfolding records_from
step got b c l h = go (eqb b 13) (λ u. not_return b h (eqb→eq b 13 u))
  where
    go : (t : Bool) → (T t → ⊥)
        → ◌≡◌ {A = List (List ℕ)} (elim (t && eqb c 10) [ true ↦ reverse got ∷ records_from [] l | false ↦ records_from (b ∷ got) (c ∷ l) ]) (records_from (b ∷ got) (c ∷ l))
    go true n = absurd (n tt)
    go false n = refl

one_record : (got r s : List ℕ) → T (every plain r) → records_from got (r ++ (13 ∷ (10 ∷ s))) ≡ (reverse got ++ r) ∷ records_from [] s
unfolding every
one_record got [] s h = unfold records_from in ap (λ (l : List ℕ). l ∷ records_from [] s) (sym (append-nil (reverse got)))
one_record got (b ∷ []) s h =
    step got b 13 (10 ∷ s) (and_left (plain b) true h) ∙ (one_record (b ∷ got) [] s tt ∙ ap (λ (l : List ℕ). l ∷ records_from [] s) (reverse_shift got b []))
one_record got (b ∷ (c ∷ r)) s h =
    step got b c (r ++ (13 ∷ (10 ∷ s))) (and_left (plain b) (every plain (c ∷ r)) h)
    ∙ (one_record (b ∷ got) (c ∷ r) s (and_right (plain b) (every plain (c ∷ r)) h) ∙ ap (λ (l : List ℕ). l ∷ records_from [] s) (reverse_shift got b (c ∷ r)))

last_record : (got r : List ℕ) → T (every plain r) → 1 ≤ length r → records_from got r ≡ (reverse got ++ r) ∷ []
unfolding every
last_record got [] h g = absurd (omega arith)
last_record got (b ∷ []) h g = unfold records_from in ap (λ (l : List ℕ). l ∷ []) (reverse-cons b got)
last_record got (b ∷ (c ∷ r)) h g =
    step got b c r (and_left (plain b) (every plain (c ∷ r)) h)
    ∙ (last_record (b ∷ got) (c ∷ r) (and_right (plain b) (every plain (c ∷ r)) h) (omega arith) ∙ ap (λ (l : List ℕ). l ∷ []) (reverse_shift got b (c ∷ r)))

pub records_joined : (l : List (List ℕ)) → Sound l → records_from [] (joined (bytes "\r\n") l) ≡ l
unfolding joined
records_joined [] h = unfold records_from in refl
records_joined (r ∷ []) h = last_record [] r h.0 h.1
records_joined (r ∷ (q ∷ l)) h =
    let more = joined (bytes "\r\n") (q ∷ l) in
    ap (λ (s : List ℕ). records_from [] s) (append_assoc r (bytes "\r\n") more)
    ∙ (one_record [] r more h.0 ∙ ap (λ (m : List (List ℕ)). r ∷ m) (records_joined (q ∷ l) h.2))

-- ---- records: their bytes, each with a CRLF after it

-- the records of a sheet are no longer than it is with one more CRLF
pub records_bytes : (got s : List ℕ) → terminated (records_from got s) ≤ length got + length s + 2
unfolding records_from terminated
records_bytes [] [] = omega arith
records_bytes (g ∷ got) [] = omega (arith, length-reverse (g ∷ got))
records_bytes got (b ∷ []) = omega (arith, length-reverse (b ∷ got))
records_bytes got (b ∷ (c ∷ l)) = go (eqb b 13 && eqb c 10) (records_bytes [] l) (records_bytes (b ∷ got) (c ∷ l))
  where
    go : (t : Bool) → terminated (records_from [] l) ≤ 0 + length l + 2 → terminated (records_from (b ∷ got) (c ∷ l)) ≤ suc (length got) + suc (length l) + 2
        → terminated (elim t [ true ↦ reverse got ∷ records_from [] l | false ↦ records_from (b ∷ got) (c ∷ l) ]) ≤ length got + suc (suc (length l)) + 2
    go true h k = omega (arith, length-reverse got)
    go false h k = omega arith

pub some_record : (got s : List ℕ) → 1 ≤ length s → 1 ≤ length (records_from got s)
unfolding records_from
some_record got [] h = absurd (omega arith)
some_record got (b ∷ []) h = omega arith
some_record got (b ∷ (c ∷ l)) h = go (eqb b 13 && eqb c 10) (some_record (b ∷ got) (c ∷ l) (omega arith))
  where
    go : (t : Bool) → 1 ≤ length (records_from (b ∷ got) (c ∷ l))
        → 1 ≤ length {A = List ℕ} (elim t [ true ↦ reverse got ∷ records_from [] l | false ↦ records_from (b ∷ got) (c ∷ l) ])
    go true k = omega arith
    go false k = k

-- ---- fields

not_comma : (b : ℕ) → T (no_comma b) → b ≡ 44 → ⊥
not_comma b h e = subst (λ (m : ℕ). T (no_comma m)) e h

field_step : (got : List ℕ) (b : ℕ) (l : List ℕ) → T (no_comma b) → fields_from got (b ∷ l) ≡ fields_from (b ∷ got) l
unfolding fields_from
field_step got b l h = go (eqb b 44) (λ u. not_comma b h (eqb→eq b 44 u))
  where
    go : (t : Bool) → (T t → ⊥) → ◌≡◌ {A = List (List ℕ)} (elim t [ true ↦ reverse got ∷ fields_from [] l | false ↦ fields_from (b ∷ got) l ]) (fields_from (b ∷ got) l)
    go true n = absurd (n tt)
    go false n = refl

pub one_field : (got f s : List ℕ) → T (every no_comma f) → fields_from got (f ++ (44 ∷ s)) ≡ (reverse got ++ f) ∷ fields_from [] s
unfolding every
one_field got [] s h = unfold fields_from in ap (λ (l : List ℕ). l ∷ fields_from [] s) (sym (append-nil (reverse got)))
one_field got (b ∷ f) s h =
    field_step got b (f ++ (44 ∷ s)) (and_left (no_comma b) (every no_comma f) h)
    ∙ (one_field (b ∷ got) f s (and_right (no_comma b) (every no_comma f) h) ∙ ap (λ (l : List ℕ). l ∷ fields_from [] s) (reverse_shift got b f))

last_field : (got f : List ℕ) → T (every no_comma f) → fields_from got f ≡ (reverse got ++ f) ∷ []
unfolding every
last_field got [] h = unfold fields_from in ap (λ (l : List ℕ). l ∷ []) (sym (append-nil (reverse got)))
last_field got (b ∷ f) h =
    field_step got b f (and_left (no_comma b) (every no_comma f) h)
    ∙ (last_field (b ∷ got) f (and_right (no_comma b) (every no_comma f) h) ∙ ap (λ (l : List ℕ). l ∷ []) (reverse_shift got b f))

pub two_fields : (w f : List ℕ) → T (every no_comma w) → T (every no_comma f) → fields_from [] (w ++ (44 ∷ f)) ≡ w ∷ f ∷ []
two_fields w f h g = one_field [] w f h ∙ ap (λ (l : List (List ℕ)). w ∷ l) (last_field [] f g)

-- ---- fields that are numbers

unfoldable pub texts : List ℕ → List (List ℕ)
texts [] = []
texts (n ∷ l) = decimal n ∷ texts l

pub number_fields : (w : List ℕ) → T (every no_comma w) → (ns : List ℕ) → fields_from [] (w ++ numbers_text ns) ≡ w ∷ texts ns
unfolding numbers_text texts
number_fields w h [] = ap (λ (l : List ℕ). fields_from [] l) (append-nil w) ∙ last_field [] w h
number_fields w h (n ∷ ns) =
    one_field [] w (decimal n ++ numbers_text ns) h ∙ ap (λ (l : List (List ℕ)). w ∷ l) (number_fields (decimal n) (inner_no_comma (decimal n) (decimal_inner n)) ns)

pub numbers_texts : (ns : List ℕ) → numbers (texts ns) ≡ some ns
unfolding numbers texts
numbers_texts [] = refl
numbers_texts (n ∷ ns) = go (number (decimal n)) (number_decimal n) (numbers (texts ns)) (numbers_texts ns)
  where
    go : (o : Option ℕ) → o ≡ some n → (q : Option (List ℕ)) → q ≡ some ns
        → ◌≡◌ {A = Option (List ℕ)} (elim o [ none ↦ none | some m ↦ elim q [ none ↦ none | some ms ↦ some (m ∷ ms) ] ]) (some (n ∷ ns))
    go none e q f = cc
    go (some m) e none f = cc
    go (some m) e (some ms) f = cc

pub texts_length : (ns : List ℕ) → length (texts ns) ≡ length ns
unfolding texts
texts_length [] = refl
texts_length (n ∷ ns) = ap suc (texts_length ns)

-- ---- and back

-- each field after a comma
unfoldable pub glued : List (List ℕ) → List ℕ
glued [] = []
glued (f ∷ l) = 44 ∷ (f ++ glued l)

fields_glued : (got r : List ℕ) → glued (fields_from got r) ≡ 44 ∷ (reverse got ++ r)
unfolding fields_from glued
fields_glued got [] = refl
fields_glued got (b ∷ r) = go (eqb b 44) (eqb→eq b 44) (fields_glued [] r) (fields_glued (b ∷ got) r)
  where
    go : (t : Bool) → (T t → b ≡ 44) → glued (fields_from [] r) ≡ 44 ∷ r → glued (fields_from (b ∷ got) r) ≡ 44 ∷ (reverse (b ∷ got) ++ r)
        → glued (elim t [ true ↦ reverse got ∷ fields_from [] r | false ↦ fields_from (b ∷ got) r ]) ≡ 44 ∷ (reverse got ++ (b ∷ r))
    go true e h k = ap (λ (l : List ℕ). 44 ∷ (reverse got ++ l)) (h ∙ ap (λ (c : ℕ). c ∷ r) (sym (e tt)))
    go false e h k = k ∙ ap (λ (l : List ℕ). 44 ∷ l) (reverse_shift got b r)

-- a record is its first field and the others
abbrev pub Split : List ℕ → List (List ℕ) → Type 0
Split r [] = ⊥
Split r (w ∷ fs) = r ≡ w ++ glued fs

pub record_split : (r : List ℕ) → Split r (fields_from [] r)
unfolding glued
record_split r = go (fields_from [] r) (fields_glued [] r)
  where
    go : (l : List (List ℕ)) → glued l ≡ 44 ∷ r → Split r l
    go [] e = let z : ◌≡◌ {A = ℕ} 0 1 = cc in omega arith
    go (w ∷ fs) e = cc

pub glued_texts : (ns : List ℕ) → glued (texts ns) ≡ numbers_text ns
unfolding glued texts numbers_text
glued_texts [] = refl
glued_texts (n ∷ ns) = ap (λ (l : List ℕ). 44 ∷ (decimal n ++ l)) (glued_texts ns)

abbrev pub ReadsAll : List (List ℕ) → Option (List ℕ) → Type 0
ReadsAll fs none = Unit {0}
ReadsAll fs (some ns) = fs ≡ texts ns

pub numbers_read : (fs : List (List ℕ)) → ReadsAll fs (numbers fs)
unfolding numbers texts
numbers_read [] = refl
numbers_read (f ∷ l) = go (number f) (number_reads f) (numbers l) (numbers_read l)
  where
    go : (o : Option ℕ) → Reads f o → (q : Option (List ℕ)) → ReadsAll l q → ReadsAll (f ∷ l) (elim o [ none ↦ none | some n ↦ elim q [ none ↦ none | some ns ↦ some (n ∷ ns) ] ])
    go none r q h = tt
    go (some n) r none h = tt
    go (some n) r (some ns) h = let e = written_decimal r in cc
