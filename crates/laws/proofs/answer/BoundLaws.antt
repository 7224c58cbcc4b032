-- Which codes are bound on the way to a place, part by part (Seen). Assumes nothing.
use Prim.Native.Nat.{ℕ, zero, suc, ◌+◌, ◌-◌, ◌*◌, ◌≤◌, ◌<◌}
use native.Mathlib.Omega.{arith}
use mathlib.Core.Path.{◌≡◌, refl, sym, ◌∙◌, ap}
use mathlib.Core.Bool.{Bool, true, false, ◌||◌}
use mathlib.Core.Option.{Option, none, some}
use mathlib.Core.List.{List, [], ◌∷◌, ◌++◌}
use borrow.Author.Tests.{eq-eqb, ne_eqb, le-leb, lt-leb, lt-ltb, le-ltb, eqb-true}
use lib.ListN.{length, drop}
use lib.Seq.{drop_at}
use lib.Dec.{T, eqb}
use Rattle.spec_tree.specs.Tree.{Name, input, xname, mname, eq_name}
use Rattle.spec_tree.specs.Tokens.{word, name_code, kind_of, below_of}
use Rattle.spec_cse.specs.Answer.{names, elem}
use Rattle.spec_cse.specs.AnswerRows.{name_row, names_words, stands_below, let_name, match_names}
use Rattle.laws.specs.answer.Seen.{span_words, entered, names_bind, match_binds, binds, ended, bound_by}
use Rattle.laws.proofs.answer.ListNames.{made_names}
use Rattle.laws.proofs.answer.SpanWords.{Whole}

-- ---- a row and what stands below it

pub none_first : (r : List ℕ) → span_words r 0 ≡ some 0
unfolding span_words
none_first [] = refl
none_first (w ∷ r) = refl

below_so : (o : Option ℕ) (n : ℕ) → ◌≡◌ {A = Option ℕ} (elim o [ none ↦ none | some k ↦ some (suc k) ]) (some n) → (k : ℕ) × (o ≡ some k) × (n ≡ suc k)
below_so none n e = absurd (let z : ◌≡◌ {A = ℕ} 0 1 = cc in omega arith)
below_so (some k) n e = (k, refl, cc)

pub row_below : (w n : ℕ) (l : List ℕ) → span_words (w ∷ l) 1 ≡ some n → (k : ℕ) × (span_words l (stands_below w) ≡ some k) × (n ≡ suc k)
unfolding span_words
row_below w n l e =
    let z : 0 + stands_below w ≡ stands_below w = omega arith in
    let p = below_so (span_words l (0 + stands_below w)) n e in
    (p.0, ap (span_words l) (sym z) ∙ p.1, p.2)

pub whole_span : (l : List ℕ) → Whole l 1 → (r : List ℕ) → span_words (l ++ r) 1 ≡ some (length l)
whole_span l f r =
    let z : length l + 0 ≡ length l = omega arith in
    let y : 1 + 0 ≡ 1 = omega arith in
    ap (span_words (l ++ r)) (sym y) ∙ (f r 0 0 (none_first r) ∙ ap some z)

whole_below : (w : ℕ) (l r : List ℕ) → Whole (w ∷ l) 1 → span_words (l ++ r) (stands_below w) ≡ some (length l)
whole_below w l r f =
    let p = row_below w (suc (length l)) (l ++ r) (whole_span (w ∷ l) f r) in
    let z : p.0 ≡ length l = omega (arith, p.2) in
    p.1 ∙ ap some z

-- ---- passed, entered, or neither

or_case : (b c : Bool) → ◌≡◌ {A = Bool} (elim b [ true ↦ true | false ↦ c ]) (b || c)
or_case true c = refl
or_case false c = refl

and_case : (b c : Bool) → b ≡ true → ◌≡◌ {A = Bool} (elim b [ true ↦ c | false ↦ false ]) c
and_case true c e = refl
and_case false c e = absurd (let z : ◌≡◌ {A = ℕ} 0 1 = cc in omega arith)

and_not : (b c : Bool) → b ≡ false → ◌≡◌ {A = Bool} (elim b [ true ↦ c | false ↦ false ]) false
and_not true c e = absurd (let z : ◌≡◌ {A = ℕ} 0 1 = cc in omega arith)
and_not false c e = refl

pub ended_yes : (p m : ℕ) (o : Option ℕ) → o ≡ some m → m ≤ p → ended p o ≡ some m
unfolding ended
ended_yes p m o e h = rw (e, le-leb m p h)

pub ended_none : (p : ℕ) (o : Option ℕ) → o ≡ none → ended p o ≡ none
unfolding ended
ended_none p o e = rw e

pub ended_later : (p m : ℕ) (o : Option ℕ) → o ≡ some m → p < m → ended p o ≡ none
unfolding ended
ended_later p m o e h = rw (e, lt-leb m p h)

module _ (c : ℕ) where
  nothing : (p : ℕ) → bound_by c 0 p [] ≡ false
  unfolding bound_by
  nothing zero = refl
  nothing (suc p) = refl

  nowhere : (s : ℕ) (l : List ℕ) → false ≡ bound_by c 0 (0 - suc s) (drop (suc s) l)
  unfolding bound_by
  nowhere s l = let z : 0 - suc s ≡ 0 = omega arith in rw z

  skipped : (s p : ℕ) (l : List ℕ) → bound_by c s p l ≡ bound_by c 0 (p - s) (drop s l)
  unfolding bound_by
  skipped zero p l = let z : p ≡ p - 0 = omega arith in ap (λ (n : ℕ). bound_by c 0 n l) z
  skipped (suc s) zero l = nowhere s l
  skipped (suc s) (suc p) [] = sym (nothing (suc p - suc s))
  skipped (suc s) (suc p) (w ∷ l) = let z : p - s ≡ suc p - suc s = omega arith in skipped s p l ∙ ap (λ (n : ℕ). bound_by c 0 n (drop s l)) z

  -- a span that ends in time is passed
  pub pass_row : (w m p : ℕ) (l : List ℕ) → ended p (span_words l (stands_below w)) ≡ some m → bound_by c 0 (suc p) (w ∷ l) ≡ (binds c w l || bound_by c 0 (p - m) (drop m l))
  unfolding bound_by
  pass_row w m p l e = rw (e, bound_by) (or_case (binds c w l) (bound_by c m p l) ∙ ap (λ (b : Bool). binds c w l || b) (skipped m p l))

  pub enter_row : (w p : ℕ) (l : List ℕ) → ended p (span_words l (stands_below w)) ≡ none → entered w ≡ true → bound_by c 0 (suc p) (w ∷ l) ≡ bound_by c 0 p l
  unfolding bound_by
  enter_row w p l e h = rw (e, bound_by) (and_case (entered w) (bound_by c zero p l) h)

  pub stop_row : (w p : ℕ) (l : List ℕ) → ended p (span_words l (stands_below w)) ≡ none → entered w ≡ false → bound_by c 0 (suc p) (w ∷ l) ≡ false
  unfolding bound_by
  stop_row w p l e h = rw (e, bound_by) (and_not (entered w) (bound_by c zero p l) h)

  module _ (w : ℕ) (l : List ℕ) (f : Whole (w ∷ l) 1) (r : List ℕ) where
    pub pass : (p : ℕ) → bound_by c 0 (suc (length l) + p) (w ∷ (l ++ r)) ≡ (binds c w (l ++ r) || bound_by c 0 p r)
    pass p =
        let z : suc (length l) + p ≡ suc (length l + p) = omega arith in
        let y : length l + p - length l ≡ p = omega arith in
        rw (z, pass_row w (length l) (length l + p) (l ++ r) (ended_yes (length l + p) (length l) (span_words (l ++ r) (stands_below w)) (whole_below w l r f) (omega arith)), y, drop_at l r (length l) refl)

    pub enter : (p : ℕ) → p < length l → entered w ≡ true → bound_by c 0 (suc p) (w ∷ (l ++ r)) ≡ bound_by c 0 p (l ++ r)
    enter p h e = enter_row w p (l ++ r) (ended_later p (length l) (span_words (l ++ r) (stands_below w)) (whole_below w l r f) h) e

    pub stop : (p : ℕ) → p < length l → entered w ≡ false → bound_by c 0 (suc p) (w ∷ (l ++ r)) ≡ false
    stop p h e = stop_row w p (l ++ r) (ended_later p (length l) (span_words (l ++ r) (stands_below w)) (whole_below w l r f) h) e

-- ---- what rows bind, by their kind

pub enters_match : (w : ℕ) → 30 ≤ kind_of w → kind_of w < 33 → entered w ≡ true
enters_match w low high = rw (le-leb 30 (kind_of w) low, lt-ltb (kind_of w) 33 high)

pub enters_arm : (w : ℕ) → kind_of w ≡ 34 → entered w ≡ true
enters_arm w e = rw e

pub enters_no : (w : ℕ) → kind_of w < 30 → entered w ≡ false
enters_no w h = let n : kind_of w ≡ 34 → ⊥ = λ e. omega arith in rw (lt-leb 30 (kind_of w) h, ne_eqb (kind_of w) 34 n)

pub enters_none : (w : ℕ) → 33 ≤ kind_of w → (kind_of w ≡ 34 → ⊥) → entered w ≡ false
enters_none w h n = let g : 30 ≤ kind_of w = omega arith in rw (le-leb 30 (kind_of w) g, le-ltb (kind_of w) 33 h, ne_eqb (kind_of w) 34 n)

pub binds_let : (c w : ℕ) (l : List ℕ) → kind_of w ≡ 29 → binds c w l ≡ eqb (below_of w) c
unfolding binds
binds_let c w l e = rw (eq-eqb (kind_of w) 29 e)

pub binds_match : (c w : ℕ) (l : List ℕ) → 30 ≤ kind_of w → kind_of w < 33 → binds c w l ≡ match_binds c l
unfolding binds
binds_match c w l low high = let n : kind_of w ≡ 29 → ⊥ = λ e. omega arith in rw (ne_eqb (kind_of w) 29 n, le-leb 30 (kind_of w) low, lt-ltb (kind_of w) 33 high)

pub binds_low : (c w : ℕ) (l : List ℕ) → kind_of w < 29 → binds c w l ≡ false
unfolding binds
binds_low c w l h =
    let n : kind_of w ≡ 29 → ⊥ = λ e. omega arith in
    let g : kind_of w < 30 = omega arith in
    rw (ne_eqb (kind_of w) 29 n, lt-leb 30 (kind_of w) g)

pub binds_high : (c w : ℕ) (l : List ℕ) → 33 ≤ kind_of w → binds c w l ≡ false
unfolding binds
binds_high c w l h =
    let n : kind_of w ≡ 29 → ⊥ = λ e. omega arith in
    let g : 30 ≤ kind_of w = omega arith in
    rw (ne_eqb (kind_of w) 29 n, le-leb 30 (kind_of w) g, le-ltb (kind_of w) 33 h)

-- ---- codes and names

same_code : (n m : ℕ) (b : Bool) → (b ≡ true → n ≡ m) → (n ≡ m → b ≡ true) → eqb n m ≡ b
same_code n m true f g = eq-eqb n m (f refl)
same_code n m false f g = ne_eqb n m (λ e. (let q = g e in let z : ◌≡◌ {A = ℕ} 0 1 = cc in omega arith))

module _ (number : List ℕ → ℕ) where
  -- names that an answer makes are equal where their codes are
  pub code_same : (n x : Name) → T (made_names (n ∷ [])) → T (made_names (x ∷ [])) → eqb (name_code number n) (name_code number x) ≡ eq_name n x
  unfolding made_names name_code eq_name
  code_same (input s) x h g = absurd h
  code_same (xname i) (input s) h g = absurd g
  code_same (xname i) (xname j) h g = same_code (1 + 3 * i) (1 + 3 * j) (eqb i j) (λ e. let q = eqb-true i j e in omega arith) (λ e. eq-eqb i j (omega arith))
  code_same (xname i) (mname j) h g = ne_eqb (1 + 3 * i) (2 + 3 * j) (λ e. omega arith)
  code_same (mname i) (input s) h g = absurd g
  code_same (mname i) (xname j) h g = ne_eqb (2 + 3 * i) (1 + 3 * j) (λ e. omega arith)
  code_same (mname i) (mname j) h g = same_code (2 + 3 * i) (2 + 3 * j) (eqb i j) (λ e. let q = eqb-true i j e in omega arith) (λ e. eq-eqb i j (omega arith))

  one_name : (n : Name) (l : List Name) → T (match_names (n ∷ l)) → T (made_names (n ∷ [])) × T (match_names l)
  unfolding match_names made_names
  one_name (input s) l h = absurd h
  one_name (xname i) l h = absurd h
  one_name (mname i) l h = (tt, h)

  pub let_made_name : (n : Name) → T (let_name n) → T (made_names (n ∷ []))
  unfolding let_name made_names
  let_made_name (input s) h = h
  let_made_name (xname i) h = tt
  let_made_name (mname i) h = absurd h

  taken_name : (c w : ℕ) (l : List ℕ) → kind_of w ≡ 33 → names_bind c (w ∷ l) ≡ (eqb (below_of w) c || names_bind c l)
  unfolding names_bind
  taken_name c w l e = rw (eq-eqb (kind_of w) 33 e, names_bind)

  pub names_bound : (ns : List Name) (x : Name) (r : List ℕ) → T (match_names ns) → T (made_names (x ∷ [])) → names_bind (name_code number x) r ≡ false → names_bind (name_code number x) (names_words number ns ++ r) ≡ elem x ns
  unfolding names_words elem
  names_bound [] x r h g e = e
  names_bound (n ∷ l) x r h g e =
      let w = word name_row (name_code number n) in
      let k : kind_of w ≡ 33 = omega arith in
      let b : below_of w ≡ name_code number n = omega arith in
      let p = one_name n l h in
      taken_name (name_code number x) w (names_words number l ++ r) k ∙ rw (b, code_same n x p.0 g, names_bound l x r p.1 g e) (sym (or_case (eq_name n x) (elem x l)))
