-- Numbers written one after another: what the last field and each field before it leave. Assumes nothing.
use Rattle.std.specs.Prelude as std
use Rattle.std.specs.Prelude.{Some, None}
use Prim.Native.Nat.{ℕ, suc, ◌+◌, ◌-◌, ◌≤◌, ◌<◌, min}
use mathlib.Core.Path.{◌≡◌, refl, sym, ◌∙◌, ap, subst}
use mathlib.Core.Option.{Option, none, some}
use mathlib.Core.List.{List, [], ◌∷◌, ◌++◌}
use native.Mathlib.Omega.{arith}
use native.Mathlib.Numerals.{add-one}
use lib.ListN.{length, take, drop, set, length-drop}
use lib.Seq.{length-take-le, drop-drop}
use borrow.Rule.Slice.PartMut.{put_mid}
use Rattle.spec_sheet.specs.Sheet.{number, numbers, fields_from}
use Rattle.load.specs.fields.Comma.{comma_at}
use Rattle.load.specs.fields.Answers.{split_answer}
use Rattle.load.specs.numerals.Values.{capped, number_answer}
use Rattle.load.proofs.fields.Commas.{fields_whole, fields_cut}
use Rattle.load.specs.one_record.Reading.{capped_all, Writes}
use Rattle.load.proofs.one_record.Pieces.{fields_some}
use Rattle.spec_tree.proofs.Lists.{rest_is, rest_back}

-- ---- a part lent on: what the callee is handed, and what the whole is when it comes back

-- after the first word
pub tail_is : (old : List ℕ) (v : ℕ) → take (length (set old 0 v) - 1) (drop 1 (set old 0 v)) ≡ drop 1 old
tail_is [] v = refl
tail_is (a ∷ l) v = rest_is (v ∷ l) 1

pub tail_back : (old x : List ℕ) (v : ℕ) → 1 ≤ length old → put_mid 1 (length (set old 0 v) - 1) (set old 0 v) x ≡ v ∷ x
tail_back [] x v h = absurd (omega arith)
tail_back (a ∷ l) x v h = rest_back (v ∷ l) x 1

-- ---- the fields, from the first

module _ (w : List ℕ) (fs : List (List ℕ)) (old : List ℕ) where
  -- it is no number
  pub first_none : (new : List ℕ) → None ≡ number_answer (capped (number w)) → length new ≡ length old → Writes (numbers (w ∷ fs)) old None new
  unfolding numbers
  first_none new e h = go (number w) (numbers fs) e
    where
      go : (o : Option ℕ) (q : Option (List ℕ)) → None ≡ number_answer (capped o)
          → Writes (elim o [ none ↦ none | some n ↦ elim q [ none ↦ none | some ns ↦ some (n ∷ ns) ] ]) old None new
      go none q e = (refl, h)
      go (some n) q e = absurd (let z : ◌≡◌ {A = ℕ} 0 1 = cc in omega arith)

  -- a later one is no number
  pub later_none : (lent x new : List ℕ) → Writes (numbers fs) lent None x → length new ≡ length old → Writes (numbers (w ∷ fs)) old None new
  unfolding numbers
  later_none lent x new r h = go (number w) (numbers fs) r
    where
      go : (o : Option ℕ) (q : Option (List ℕ)) → Writes q lent None x
          → Writes (elim o [ none ↦ none | some n ↦ elim q [ none ↦ none | some ns ↦ some (n ∷ ns) ] ]) old None new
      go none q r = (refl, h)
      go (some n) none r = (refl, h)
      go (some n) (some ns) r = absurd (let e = r.0 in let z : ◌≡◌ {A = ℕ} 0 1 = cc in omega arith)

  -- all are numbers
  pub both : (v n : ℕ) (x : List ℕ) → Some v ≡ number_answer (capped (number w)) → Writes (numbers fs) (drop 1 old) (Some n) x
      → Writes (numbers (w ∷ fs)) old (Some (n + 1)) (v ∷ x)
  unfolding numbers capped_all
  both v n x e r = go (number w) (numbers fs) e r
    where
      go : (o : Option ℕ) (q : Option (List ℕ)) → Some v ≡ number_answer (capped o) → Writes q (drop 1 old) (Some n) x
          → Writes (elim o [ none ↦ none | some n ↦ elim q [ none ↦ none | some ns ↦ some (n ∷ ns) ] ]) old (Some (n + 1)) (v ∷ x)
      go none q e r = absurd (let z : ◌≡◌ {A = ℕ} 0 1 = cc in omega arith)
      go (some m) none e r = absurd (let f = r.0 in let z : ◌≡◌ {A = ℕ} 0 1 = cc in omega arith)
      go (some m) (some ns) e r =
          let f : n ≡ length ns = (let g = r.0 in cc) in
          let d : v ≡ min m 1000000 = cc in
          (ap Some (add-one n ∙ ap suc f), ap (λ (l : List ℕ). v ∷ l) (r.1 ∙ ap (λ (l : List ℕ). capped_all ns ++ l) (drop-drop (length ns) 1 old ∙ ap (λ (k : ℕ). drop k old) (let k : 1 + length ns ≡ suc (length ns) = omega arith in k))) ∙ ap (λ (k : ℕ). k ∷ (capped_all ns ++ drop (suc (length ns)) old)) d)

-- the last field
pub last_one : (w old : List ℕ) (v : ℕ) → Some v ≡ number_answer (capped (number w)) → 1 ≤ length old → Writes (numbers (w ∷ [])) old (Some 1) (set old 0 v)
last_one w [] v e h = absurd (omega arith)
last_one w (a ∷ l) v e h = both w [] (a ∷ l) v 0 l e (unfold numbers capped_all in (refl, refl))

-- ---- how many there are

pub numbers_long : (fs : List (List ℕ)) (ns : List ℕ) → numbers fs ≡ some ns → length ns ≡ length fs
unfolding numbers
numbers_long [] ns e = let f : ns ≡ [] = cc in ap length f
numbers_long (f ∷ l) ns e = go (number f) (numbers l) (numbers_long l) e
  where
    go : (o : Option ℕ) (q : Option (List ℕ)) → ((m : List ℕ) → q ≡ some m → length m ≡ length l)
        → ◌≡◌ {A = Option (List ℕ)} (elim o [ none ↦ none | some n ↦ elim q [ none ↦ none | some ns ↦ some (n ∷ ns) ] ]) (some ns) → length ns ≡ suc (length l)
    go none q h e = absurd (let z : ◌≡◌ {A = ℕ} 0 1 = cc in omega arith)
    go (some n) none h e = absurd (let z : ◌≡◌ {A = ℕ} 0 1 = cc in omega arith)
    go (some n) (some m) h e = let k : ns ≡ n ∷ m = cc in ap length k ∙ ap suc (h m refl)

-- an answer that all are numbers
pub record AllNumbers (fs : List (List ℕ)) (old : List ℕ) (n : ℕ) (new : List ℕ) : Type 0 where
  pub ns : List ℕ
  pub are : numbers fs ≡ some ns
  pub many : n ≡ length ns
  pub fields_many : n ≡ length fs
  pub words : new ≡ capped_all ns ++ drop n old

pub all_numbers : (fs : List (List ℕ)) (old : List ℕ) (n : ℕ) (new : List ℕ) → Writes (numbers fs) old (Some n) new → AllNumbers fs old n new
all_numbers fs old n new r = go (numbers fs) refl r
  where
    go : (q : Option (List ℕ)) → numbers fs ≡ q → Writes q old (Some n) new → AllNumbers fs old n new
    go none e r = absurd (let f = r.0 in let z : ◌≡◌ {A = ℕ} 0 1 = cc in omega arith)
    go (some ns) e r =
        let f : n ≡ length ns = (let g = r.0 in cc) in
        record { ns = ns; are = e; many = f; fields_many = f ∙ numbers_long fs ns e; words = r.1 ∙ ap (λ (k : ℕ). capped_all ns ++ drop k old) (sym f) }

-- ---- the fields of a text, in the code's words

module _ (s old : List ℕ) (pre : length (fields_from [] s) ≤ length old) where
  pub some_place : 1 ≤ length old
  some_place = let h = fields_some [] s in omega arith

  pub whole : None ≡ split_answer (comma_at s) → (r : std.Option ℕ) (new : List ℕ) → Writes (numbers (s ∷ [])) old r new → Writes (numbers (fields_from [] s)) old r new
  whole e r new w = rw (fields_whole s e) w

  module _ (i : ℕ) (e : Some i ≡ split_answer (comma_at s)) where
    pub comma_in : i < length s
    comma_in = (fields_cut s i e).inside

    pub cut_long : i ≡ length (take i s)
    cut_long = sym (length-take-le i s (let h = comma_in in omega arith))

    pub first_bad : None ≡ number_answer (capped (number (take i s))) → Writes (numbers (fields_from [] s)) old None old
    first_bad n = rw (fields_cut s i e).parts (first_none (take i s) (fields_from [] (drop (suc i) s)) old old n refl)

    abbrev rest : List ℕ
    rest = take (length s - (i + 1)) (drop (i + 1) s)

    rest_same : rest ≡ drop (suc i) s
    rest_same = rest_is s (i + 1) ∙ ap (λ (k : ℕ). drop k s) (add-one i)

    pub rest_less : length rest < length s
    rest_less = let h = comma_in in omega (arith, ap length rest_same, length-drop (suc i) s)

    rest_count : suc (length (fields_from [] rest)) ≡ length (fields_from [] s)
    rest_count = ap (λ (l : List ℕ). suc (length (fields_from [] l))) rest_same ∙ sym (ap length (fields_cut s i e).parts)

    module _ (v : ℕ) where
      abbrev lent : List ℕ
      lent = take (length (set old 0 v) - 1) (drop 1 (set old 0 v))

      pub rest_pre : length (fields_from [] rest) ≤ length lent
      rest_pre = omega (arith, rest_count, ap length (tail_is old v), length-drop 1 old)

      abbrev back : List ℕ → List ℕ
      back x = put_mid 1 (length (set old 0 v) - 1) (set old 0 v) x

      pub back_long : (x : List ℕ) → length x ≡ length lent → length (back x) ≡ length old
      back_long x h = let p = some_place in omega (arith, ap length (tail_back old x v some_place), ap length (tail_is old v), length-drop 1 old)

      -- the answer is known by its case
      module _ (x : List ℕ) (r : std.Option ℕ) (w : Writes (numbers (fields_from [] rest)) lent r x) where
        after : (a : std.Option ℕ) → r ≡ a → Writes (numbers (fields_from [] (drop (suc i) s))) (drop 1 old) a x
        after a f =
            subst (λ (d : List ℕ). Writes (numbers (fields_from [] (drop (suc i) s))) d a x) (tail_is old v)
            (subst (λ (l : List ℕ). Writes (numbers (fields_from [] l)) lent a x) rest_same (subst (λ (b : std.Option ℕ). Writes (numbers (fields_from [] rest)) lent b x) f w))

        pub later_bad : r ≡ None → length x ≡ length lent → Writes (numbers (fields_from [] s)) old None (back x)
        later_bad f h = rw (fields_cut s i e).parts (later_none (take i s) (fields_from [] (drop (suc i) s)) old (drop 1 old) x (back x) (after None f) (back_long x h))

        module _ (n : ℕ) (f : r ≡ Some n) where
          pub all_good : Some v ≡ number_answer (capped (number (take i s))) → Writes (numbers (fields_from [] s)) old (Some (n + 1)) (back x)
          all_good q =
              rw ((fields_cut s i e).parts, tail_back old x v some_place) (both (take i s) (fields_from [] (drop (suc i) s)) old v n x q (after (Some n) f))

          pub one_more : n + 1 ≤ length old
          one_more = omega (arith, (all_numbers (fields_from [] (drop (suc i) s)) (drop 1 old) n x (after (Some n) f)).fields_many, ap length (fields_cut s i e).parts)
