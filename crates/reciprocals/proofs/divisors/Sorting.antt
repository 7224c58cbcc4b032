-- Text order by insertion from the right, as the definition sorts: two texts, one place put among those after it, and all. Assumes nothing.
use Prim.Native.Nat.{ℕ, suc, ◌+◌, ◌-◌, ◌≤◌, ◌<◌}
use native.Mathlib.Omega.{arith}
use mathlib.Core.Path.{◌≡◌, refl, sym, ◌∙◌, ap, ap₂, subst}
use mathlib.Core.Bool.{Bool, true, false}
use mathlib.Core.List.{List, [], ◌∷◌, ◌++◌, append-nil, append_assoc}
use borrow.Rule.Slice.PartMut.{put_mid}
use lib.ListN.{length, get_or, take, drop, set, length-append, length-drop, length-set, drop_of_length-le}
use lib.Seq.{drop-cons, take-suc, take_all, take_at, drop_at, set_at, get_or_at, take-length, drop-length, length-take-le}
use Rattle.spec_tree.specs.Tokens.{name_in}
use Rattle.spec_tree.specs.text.Text.{before}
use Rattle.fmt.specs.checked.Check.{rows_in}
use Rattle.fmt.specs.order.Order.{text_here}
use Rattle.rounds.proofs.choice.Passing.{text_is}
use Rattle.laws.specs.positions.Places.{text_at, insert_place, sort_places}
use Rattle.reciprocals.specs.divisors.Places.{Inside}
use Rattle.reciprocals.proofs.divisors.Within.{inside_at, inside_drop, sort_inside, sort_length}

-- ---- two texts

-- whether the text at one place comes before that at another
abbrev pub precedes : List ℕ → List ℕ → ℕ → ℕ → Bool
precedes rows ws a b = before (text_at ws (name_in (rows_in rows)) a) (text_at ws (name_in (rows_in rows)) b)

pub by_text : (rows ws : List ℕ) (a b : ℕ) (r : Bool) → r ≡ before (text_here rows ws a) (text_here rows ws b) → r ≡ precedes rows ws a b
by_text rows ws a b r e = e ∙ ap₂ before (text_is rows ws a) (text_is rows ws b)

-- ---- the first put among those after it

some_first : (l : List ℕ) → 0 < length l → l ≡ get_or l 0 0 ∷ drop 1 l
some_first [] h = absurd (omega arith)
some_first (q ∷ l) h = refl

none_there : (l : List ℕ) → length l ≡ 0 → l ≡ []
none_there [] e = refl
none_there (q ∷ l) e = absurd (omega arith)

module _ (rows ws : List ℕ) where
  abbrev put_in : ℕ → List ℕ → List ℕ
  put_in q l = insert_place ws (name_in (rows_in rows)) q l

  abbrev sorted : List ℕ → List ℕ
  sorted l = sort_places ws (name_in (rows_in rows)) l

  goes_past : (q r : ℕ) (l : List ℕ) (b : Bool) → precedes rows ws r q ≡ b → put_in q (r ∷ l) ≡ elim b as (λ _. List ℕ) [ true ↦ r ∷ put_in q l | false ↦ q ∷ (r ∷ l) ]
  unfolding insert_place
  goes_past q r l b e = ap (λ (c : Bool). elim c as (λ _. List ℕ) [ true ↦ r ∷ put_in q l | false ↦ q ∷ (r ∷ l) ]) e

  alone : (q : ℕ) → put_in q [] ≡ q ∷ []
  unfolding insert_place
  alone q = refl

  -- `passed` stand before the one that is put in, and `rest` after it
  pub record Inserting (old places : List ℕ) (j : ℕ) : Type 0 where
    pub passed : List ℕ
    pub rest : List ℕ
    pub many : length passed ≡ j
    pub stands : places ≡ passed ++ get_or old 0 0 ∷ rest
    pub total : passed ++ put_in (get_or old 0 0) rest ≡ put_in (get_or old 0 0) (drop 1 old)
    pub first_inside : get_or old 0 0 < length ws
    pub rest_inside : Inside (length ws) rest
    pub long : length places ≡ length old

  pub inserting_starts : (old : List ℕ) → 0 < length old → Inside (length ws) old → Inserting old old 0
  inserting_starts old h g =
      record {
        passed = [];
        rest = drop 1 old;
        many = refl;
        stands = some_first old h;
        total = refl;
        first_inside = inside_at (length ws) old 0 g h;
        rest_inside = inside_drop (length ws) 1 old g;
        long = refl;
      }

  module _ {old places : List ℕ} {j : ℕ} (s : Inserting old places j) where
    abbrev q : ℕ
    q = get_or old 0 0

    pub rest_long : length s.rest + (j + 1) ≡ length places
    rest_long = omega (arith, ap length s.stands, length-append s.passed (q ∷ s.rest), s.many)

    pub here_is : get_or places j 0 ≡ get_or old 0 0
    here_is = ap (λ (l : List ℕ). get_or l j 0) s.stands ∙ get_or_at s.passed q s.rest 0 j s.many

    module _ (h : j + 1 < length places) where
      some_rest : 0 < length s.rest
      some_rest = omega (arith, rest_long, h)

      rest_is : s.rest ≡ get_or s.rest 0 0 ∷ drop 1 s.rest
      rest_is = some_first s.rest some_rest

      regroup : (r : ℕ) (l : List ℕ) → s.passed ++ q ∷ (r ∷ l) ≡ (s.passed ++ (q ∷ [])) ++ (r ∷ l)
      regroup r l = sym (append_assoc s.passed (q ∷ []) (r ∷ l))

      after_long : (x : ℕ) → length (s.passed ++ (x ∷ [])) ≡ j + 1
      after_long x = omega (arith, length-append s.passed (x ∷ []), s.many)

      next_is : get_or places (j + 1) 0 ≡ get_or s.rest 0 0
      next_is =
          ap (λ (l : List ℕ). get_or l (j + 1) 0) (s.stands ∙ (ap (λ (l : List ℕ). s.passed ++ q ∷ l) rest_is ∙ regroup (get_or s.rest 0 0) (drop 1 s.rest)))
          ∙ get_or_at (s.passed ++ (q ∷ [])) (get_or s.rest 0 0) (drop 1 s.rest) 0 (j + 1) (after_long q)

      pub places_inside : (get_or places (j + 1) 0 < length ws) × (get_or places j 0 < length ws)
      places_inside = (subst (λ (x : ℕ). x < length ws) (sym next_is) (inside_at (length ws) s.rest 0 s.rest_inside some_rest), subst (λ (x : ℕ). x < length ws) (sym here_is) s.first_inside)

      tested : (b : Bool) → b ≡ precedes rows ws (get_or places (j + 1) 0) (get_or places j 0) → precedes rows ws (get_or s.rest 0 0) q ≡ b
      tested b e = sym (e ∙ ap₂ (precedes rows ws) next_is here_is)

      pub inserting_stops :
          false ≡ precedes rows ws (get_or places (j + 1) 0) (get_or places j 0) → places ≡ insert_place ws (name_in (rows_in rows)) (get_or old 0 0) (drop 1 old)
      inserting_stops e =
          let r = get_or s.rest 0 0 in
          let l = drop 1 s.rest in
          s.stands
          ∙ (ap (λ (x : List ℕ). s.passed ++ x) (ap (λ (x : List ℕ). q ∷ x) rest_is ∙ sym (ap (put_in q) rest_is ∙ goes_past q r l false (tested false e))) ∙ s.total)

      pub inserting_goes :
          true ≡ precedes rows ws (get_or places (j + 1) 0) (get_or places j 0) → Inserting old (set (set places j (get_or places (j + 1) 0)) (j + 1) (get_or places j 0)) (j + 1)
      inserting_goes e =
          let r = get_or s.rest 0 0 in
          let l = drop 1 s.rest in
          let whole : places ≡ s.passed ++ q ∷ (r ∷ l) = s.stands ∙ ap (λ (x : List ℕ). s.passed ++ q ∷ x) rest_is in
          let one : set places j r ≡ (s.passed ++ (r ∷ [])) ++ (r ∷ l) =
          ap (λ (x : List ℕ). set x j r) whole ∙ (set_at s.passed q (r ∷ l) r j s.many ∙ sym (append_assoc s.passed (r ∷ []) (r ∷ l))) in
          let two : set (set places j r) (j + 1) q ≡ (s.passed ++ (r ∷ [])) ++ (q ∷ l) =
          ap (λ (x : List ℕ). set x (j + 1) q) one ∙ set_at (s.passed ++ (r ∷ [])) r l q (j + 1) (after_long r) in
          record {
            passed = s.passed ++ (r ∷ []);
            rest = l;
            many = after_long r;
            stands = ap₂ (λ (x y : ℕ). set (set places j x) (j + 1) y) next_is here_is ∙ two;
            total =
                append_assoc s.passed (r ∷ []) (put_in q l)
                ∙ (ap (λ (x : List ℕ). s.passed ++ x) (sym (ap (put_in q) rest_is ∙ goes_past q r l true (tested true e))) ∙ s.total);
            first_inside = s.first_inside;
            rest_inside = inside_drop (length ws) 1 s.rest s.rest_inside;
            long = length-set (set places j (get_or places (j + 1) 0)) (j + 1) (get_or places j 0) ∙ (length-set places j (get_or places (j + 1) 0) ∙ s.long);
          }

    pub inserting_ends : length places ≤ j + 1 → places ≡ insert_place ws (name_in (rows_in rows)) (get_or old 0 0) (drop 1 old)
    inserting_ends h =
        let e = none_there s.rest (omega (arith, rest_long, h)) in
        s.stands ∙ (ap (λ (x : List ℕ). s.passed ++ x) (ap (λ (x : List ℕ). q ∷ x) e ∙ sym (ap (put_in q) e ∙ alone q)) ∙ s.total)

  -- ---- all, from the last on

  pub record Sorting (old places : List ℕ) (i : ℕ) : Type 0 where
    pub within : i ≤ length old
    pub stands : places ≡ take i old ++ sort_places ws (name_in (rows_in rows)) (drop i old)
    pub long : length places ≡ length old

  none_sorted : sorted [] ≡ []
  unfolding sort_places
  none_sorted = refl

  more_sorted : (q : ℕ) (l : List ℕ) → sorted (q ∷ l) ≡ put_in q (sorted l)
  unfolding sort_places
  more_sorted q l = refl

  pub sorting_starts : (old : List ℕ) → Sorting old old (length old)
  sorting_starts old =
      record {
        within = omega arith;
        stands = sym (ap₂ (λ (x y : List ℕ). x ++ y) (take-length old) (ap sorted (drop-length old) ∙ none_sorted) ∙ append-nil old);
        long = refl;
      }

  pub sorting_ends : {old places : List ℕ} {i : ℕ} → Sorting old places i → i ≤ 0 → places ≡ sort_places ws (name_in (rows_in rows)) old
  sorting_ends {old} {places} {i} s h = let z : i ≡ 0 = omega arith in s.stands ∙ ap (λ (k : ℕ). take k old ++ sorted (drop k old)) z

  module _ {old places : List ℕ} {i : ℕ} (s : Sorting old places i) (h : 0 < i) (g : Inside (length ws) old) where
    abbrev j : ℕ
    j = i - 1

    next : suc (i - 1) ≡ i
    next = omega arith

    j_within : i - 1 < length old
    j_within = omega (arith, s.within)

    split : places ≡ take (i - 1) old ++ (get_or old (i - 1) 0 ∷ sorted (drop i old))
    split =
        s.stands
        ∙ (ap (λ (x : List ℕ). x ++ sorted (drop i old)) (ap (λ (k : ℕ). take k old) (sym next) ∙ take-suc old (i - 1) 0 j_within)
        ∙ append_assoc (take (i - 1) old) (get_or old (i - 1) 0 ∷ []) (sorted (drop i old)))

    front_long : length (take (i - 1) old) ≡ i - 1
    front_long = length-take-le (i - 1) old (omega (arith, j_within))

    -- what is lent from the place before on
    lent_is : take (length places - (i - 1)) (drop (i - 1) places) ≡ get_or old (i - 1) 0 ∷ sorted (drop i old)
    lent_is =
        take_all (length places - (i - 1)) (drop (i - 1) places) (omega (arith, length-drop (i - 1) places))
        ∙ (ap (drop (i - 1)) split ∙ drop_at (take (i - 1) old) (get_or old (i - 1) 0 ∷ sorted (drop i old)) (i - 1) front_long)

    pub lent_some : 0 < length (take (length places - (i - 1)) (drop (i - 1) places))
    lent_some = subst (λ (x : List ℕ). 0 < length x) (sym lent_is) (omega arith)

    pub lent_inside : Inside (length ws) (take (length places - (i - 1)) (drop (i - 1) places))
    lent_inside =
        subst (Inside (length ws)) (sym lent_is)
        (inside_at (length ws) old (i - 1) g j_within, sort_inside ws (name_in (rows_in rows)) (drop i old) (inside_drop (length ws) i old g))

    pub sorting_turns :
        (new : List ℕ)
        → new ≡ insert_place ws (name_in (rows_in rows)) (get_or (take (length places - (i - 1)) (drop (i - 1) places)) 0 0) (drop 1 (take (length places - (i - 1)) (drop (i - 1) places)))
        → Sorting old (put_mid (i - 1) (length places - (i - 1)) places new) (i - 1)
    sorting_turns new e =
        let put : new ≡ sorted (drop (i - 1) old) =
        e
        ∙ (ap (λ (x : List ℕ). put_in (get_or x 0 0) (drop 1 x)) lent_is
        ∙ (sym (more_sorted (get_or old (i - 1) 0) (drop i old)) ∙ ap sorted (sym (drop-cons old (i - 1) 0 j_within ∙ ap (λ (k : ℕ). get_or old (i - 1) 0 ∷ drop k old) next)))) in
        let none_after : drop (length places - (i - 1)) (drop (i - 1) places) ≡ [] =
        drop_of_length-le (drop (i - 1) places) {i = length places - (i - 1)} (omega (arith, length-drop (i - 1) places)) in
        let whole : put_mid (i - 1) (length places - (i - 1)) places new ≡ take (i - 1) old ++ sorted (drop (i - 1) old) =
        ap₂ (λ (x y : List ℕ). x ++ y) (ap (take (i - 1)) split ∙ take_at (take (i - 1) old) (get_or old (i - 1) 0 ∷ sorted (drop i old)) (i - 1) front_long)
        (ap₂ (λ (x y : List ℕ). x ++ y) put none_after ∙ append-nil (sorted (drop (i - 1) old))) in
        record {
          within = omega (arith, j_within);
          stands = whole;
          long = ap length whole
              ∙ omega (arith, length-append (take (i - 1) old) (sorted (drop (i - 1) old)), front_long, sort_length ws (name_in (rows_in rows)) (drop (i - 1) old), length-drop (i - 1) old, j_within);
        }
