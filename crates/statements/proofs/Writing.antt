-- Rows laid over a table one after another: a row and the run below it, all values, and a match before its arms. Assumes nothing.
use Prim.Native.Nat.{ℕ, zero, suc, ◌+◌, ◌-◌, ◌*◌, ◌≤◌, ◌<◌}
use native.Mathlib.Omega.{arith}
use mathlib.Core.Path.{◌≡◌, refl, sym, ◌∙◌, ap, ap₂, subst}
use mathlib.Core.Bool.{Bool, true}
use mathlib.Core.List.{List, [], ◌∷◌, ◌++◌}
use borrow.Author.Tests.{le-leb}
use lib.ListN.{length, get_or, take, drop, length-append, length-drop}
use lib.Seq.{length-take-le, get_or-take, get_or-drop}
use Rattle.spec_tree.specs.Tokens.{word}
use Rattle.spec_cse.specs.AnswerRows.{let_row}
use Rattle.reciprocals.specs.final.Entries.{runs}
use Rattle.reciprocals.specs.final.Ready.{Stands}
use Rattle.fusion.specs.tables.Names.{rows_of_names, names_fit, names_put}
use Rattle.fusion.proofs.tables.Laws.{overlay_none, overlay_length, overlay_append}
use Rattle.fusion.proofs.tables.Putting.{rows_long, rows_named}
use Rattle.fusion.specs.place.Overlay.{overlay}
use Rattle.fusion.specs.place.Parts.{place_groups, group_at, group_start, key_run, names_run, match_head, let_run, value_run}
use Rattle.fusion.specs.place.Whole.{tree_run, values_runs}
use Rattle.statements.specs.Prepared.{most, Grouped, begin_of, head_run}
use Rattle.statements.proofs.Keys.{end_inside, numbers_part}

-- ---- a row and the run below it

row_written : (at w : ℕ) (run old mid out : List ℕ) → mid ≡ overlay at (w ∷ []) old → out ≡ overlay (at + 1) run mid → out ≡ overlay at (w ∷ run) old
row_written at w run old mid out e f = f ∙ (ap (overlay (at + 1) run) e ∙ sym (overlay_append at (w ∷ []) run old))

pub let_word : (x : ℕ) → 93 + 192 * x ≡ word let_row (1 + 3 * x)
let_word x = omega arith

pub let_long : (x : ℕ) (run : List ℕ) → length (let_run x run) ≡ suc (length run)
unfolding let_run
let_long x run = refl

pub let_written :
    (at x : ℕ) (run old mid out : List ℕ) (end : ℕ) → end ≡ at + 1 + length run → mid ≡ overlay at ((93 + 192 * x) ∷ []) old → out ≡ overlay (at + 1) run mid
    → (end ≡ at + length (let_run x run)) × (out ≡ overlay at (let_run x run) old)
unfolding let_run
let_written at x run old mid out end s e f =
    (omega (arith, s), row_written at (93 + 192 * x) run old mid out e f ∙ ap (λ (w : ℕ). overlay at (w ∷ run) old) (let_word x))

pub value_long : (row : ℕ) (run : List ℕ) → length (value_run row run) ≡ suc (length run)
unfolding value_run
value_long row run = refl

pub value_written :
    (at row : ℕ) (run old mid out : List ℕ) (end : ℕ) → end ≡ at + 1 + length run → mid ≡ overlay at (row ∷ []) old → out ≡ overlay (at + 1) run mid
    → (end ≡ at + length (value_run row run)) × (out ≡ overlay at (value_run row run) old)
unfolding value_run
value_written at row run old mid out end s e f =
    let z : row ≡ word row 0 = omega arith in
    (omega (arith, s), row_written at row run old mid out e f ∙ ap (λ (w : ℕ). overlay at (w ∷ run) old) z)

-- ---- runs one after another

runs_next : (f : ℕ → List ℕ) (n : ℕ) → runs f (n + 1) ≡ runs f n ++ f n
unfolding runs
runs_next f n = ap (runs f) (let z : n + 1 ≡ suc n = omega arith in z)

runs_none : (f : ℕ → List ℕ) → runs f 0 ≡ []
unfolding runs
runs_none f = refl

runs_grow : (f : ℕ → List ℕ) (i d : ℕ) → length (runs f i) ≤ length (runs f (i + d))
runs_grow f i zero = omega (arith, ap (λ (x : ℕ). length (runs f x)) (let z : i + 0 ≡ i = omega arith in z))
runs_grow f i (suc d) =
    omega (arith, runs_grow f i d, ap (λ (x : ℕ). length (runs f x)) (let z : i + suc d ≡ (i + d) + 1 = omega arith in z), ap length (runs_next f (i + d)), length-append (runs f (i + d)) (f (i + d)))

pub record Laid (f : ℕ → List ℕ) (at : ℕ) (old table : List ℕ) (to i : ℕ) : Type 0 where
  pub place : to ≡ at + length (runs f i)
  pub written : table ≡ overlay at (runs f i) old
  pub long : length table ≡ length old

module _ (f : ℕ → List ℕ) (at : ℕ) (old : List ℕ) where
  pub laid_begins : Laid f at old old at 0
  laid_begins =
      record {
        place = omega (arith, ap length (runs_none f));
        written = sym (ap (λ (l : List ℕ). overlay at l old) (runs_none f) ∙ overlay_none at old);
        long = refl;
      }

  module _ {table : List ℕ} {to i : ℕ} (s : Laid f at old table to i) where
    pub laid_room : (n most : ℕ) → i < n → at + length (runs f n) ≤ most → to + length (f i) ≤ most
    laid_room n most h b =
        let z : (i + 1) + (n - (i + 1)) ≡ n = omega arith in
        omega (arith, b, s.place, ap length (runs_next f i), length-append (runs f i) (f i), runs_grow f (i + 1) (n - (i + 1)), ap (λ (x : ℕ). length (runs f x)) z)

    pub laid_turns : (to' : ℕ) (table' : List ℕ) → to' ≡ to + length (f i) → table' ≡ overlay to (f i) table → Laid f at old table' to' (i + 1)
    laid_turns to' table' e g =
        let w : table' ≡ overlay at (runs f (i + 1)) old =
        g
        ∙ (ap₂ (λ (x : ℕ) (t : List ℕ). overlay x (f i) t) s.place s.written
        ∙ (sym (overlay_append at (runs f i) (f i) old) ∙ ap (λ (l : List ℕ). overlay at l old) (sym (runs_next f i)))) in
        record {
          place = omega (arith, e, s.place, ap length (runs_next f i), length-append (runs f i) (f i));
          written = w;
          long = ap length w ∙ overlay_length at (runs f (i + 1)) old;
        }

-- ---- all values

module _ (ws : List ℕ) (k first : ℕ) (places numbers : List ℕ) (row : ℕ) where
  abbrev pub value : ℕ → List ℕ
  value i = value_run row (tree_run ws k first places numbers i)

  pub values_are : (n : ℕ) → runs value n ≡ values_runs ws k first places numbers row n
  unfolding values_runs
  values_are n = refl

  pub values_done :
      (at : ℕ) (old table : List ℕ) (to i : ℕ) → Laid value at old table to i → i ≡ k
      → (to ≡ at + length (values_runs ws k first places numbers row k)) × (table ≡ overlay at (values_runs ws k first places numbers row k) old)
  values_done at old table to i s e =
      let r : runs value i ≡ values_runs ws k first places numbers row k = values_are i ∙ ap (values_runs ws k first places numbers row) e in
      (s.place ∙ ap (λ (l : List ℕ). at + length l) r, s.written ∙ ap (λ (l : List ℕ). overlay at l old) r)

  pub values_room : (at n b : ℕ) → at + length (values_runs ws k first places numbers row n) ≤ b → at + length (runs value n) ≤ b
  values_room at n b h = subst (λ (l : List ℕ). at + length l ≤ b) (sym (values_are n)) h

-- ---- a match before its arms

fit_each : (l : List ℕ) → ((i : ℕ) → i < length l → get_or l i 0 ≤ most) → names_fit l ≡ true
unfolding names_fit
fit_each [] f = refl
fit_each (n ∷ l) f = rw (le-leb n 549755813888 (f 0 (omega arith)), fit_each l (λ i h. f (suc i) (omega arith))) refl

module _ {held members ends numbers : List ℕ} (G : Grouped held members ends numbers) (g : ℕ) (h : g < length ends) (b : ℕ) (e : b ≡ begin_of ends g) where
  abbrev gs : List (List ℕ)
  gs = place_groups held

  abbrev part : List ℕ
  part = take (get_or ends g 0 - b) (drop b numbers)

  part_inside : get_or ends g 0 - b ≤ length (drop b numbers)
  part_inside = omega (arith, length-drop b numbers, G.numbered, end_inside G g h)

  part_count : length part ≡ get_or ends g 0 - b
  part_count = length-take-le (get_or ends g 0 - b) (drop b numbers) part_inside

  part_small : (i : ℕ) → i < length part → get_or part i 0 ≤ most
  part_small i l =
      let w : i < get_or ends g 0 - b = omega (arith, l, part_count) in
      subst (λ (x : ℕ). x ≤ most) (sym (get_or-take (get_or ends g 0 - b) (drop b numbers) i 0 w ∙ get_or-drop b numbers i 0))
      (G.small (b + i) (omega (arith, w, part_inside, length-drop b numbers)))

  names_are : rows_of_names part ≡ names_run held gs numbers g
  unfolding names_run
  names_are =
      ap rows_of_names (numbers_part G g h b e) ∙ sym (rows_named held gs numbers (take (length (group_at gs g)) (drop (group_start gs g) numbers)))

  names_count : length (names_run held gs numbers g) ≡ get_or ends g 0 - b
  names_count = sym (ap length names_are) ∙ (rows_long part ∙ part_count)

  pub head_written :
      (at w : ℕ) (old t1 t2 t3 tree : List ℕ) (n : ℕ) → w ≡ match_head held (place_groups held) numbers g → Stands (key_run held (place_groups held) numbers g) tree n
      → t1 ≡ overlay at (w ∷ []) old → t2 ≡ overlay (at + 1) (take n tree) t1
      → t3 ≡ names_put (names_fit (take (get_or ends g 0 - b) (drop b numbers))) (take (get_or ends g 0 - b) (drop b numbers)) (at + 1 + n) t2
      → (at + 1 + n + (get_or ends g 0 - b) ≡ at + length (head_run held (place_groups held) numbers g)) × (t3 ≡ overlay at (head_run held (place_groups held) numbers g) old)
  unfolding head_run names_put
  head_written at w old t1 t2 t3 tree n ew s e1 e2 e3 =
      let key = key_run held gs numbers g in
      let names = names_run held gs numbers g in
      let both : t2 ≡ overlay at (w ∷ key) old = row_written at w key old t1 t2 e1 (e2 ∙ ap (λ (l : List ℕ). overlay (at + 1) l t1) s.words) in
      let z : at + 1 + n ≡ at + length (w ∷ key) = omega (arith, s.many) in
      let put : t3 ≡ overlay (at + 1 + n) (rows_of_names part) t2 = e3 ∙ ap (λ (x : Bool). names_put x part (at + 1 + n) t2) (fit_each part part_small) in (
        omega (arith, s.many, length-append key names, names_count),
        put
            ∙ (ap (λ (l : List ℕ). overlay (at + 1 + n) l t2) names_are
            ∙ (ap₂ (λ (x : ℕ) (t : List ℕ). overlay x names t) z both
            ∙ (sym (overlay_append at (w ∷ key) names old) ∙ ap (λ (x : ℕ). overlay at (x ∷ (key ++ names)) old) ew))),
      )
