-- The laws that a check of references uses, at places of the words: where spans end, which names are bound on the way, and which rows repeat (Seen). Assumes nothing.
use Prim.Native.Nat.{ℕ, zero, suc, ◌+◌, ◌-◌, ◌/◌, ◌%◌, ◌≤◌, ◌<◌}
use native.Mathlib.Omega.{arith}
use mathlib.Core.Path.{◌≡◌, refl, sym, ◌∙◌, ap, ap₂, subst}
use mathlib.Core.Bool.{Bool, true, false, not, ◌&&◌, ◌||◌}
use mathlib.Core.Option.{Option, none, some}
use mathlib.Core.List.{List, [], ◌∷◌}
use borrow.Author.Tests.{eq-eqb, ne_eqb, le-leb, lt-leb}
use lib.ListN.{length, get_or, drop, length-drop}
use lib.Seq.{drop-drop}
use lib.Dec.{T, eqb, leb, ltb}
use Rattle.spec_tree.specs.Rows.{Row}
use Rattle.spec_tree.specs.Tokens.{kind_of, below_of, number_in}
use Rattle.spec_cse.specs.Demand.{bound_stmts, all_different}
use Rattle.spec_cse.specs.AnswerRows.{stands_below, answer_words, references_ok, rows_of_answer}
use Rattle.laws.specs.answer.Fitting.{numbered_in}
use Rattle.laws.specs.answer.Fronts.{AnswerRows}
use Rattle.laws.specs.answer.Seen.{span_words, entered, names_bind, match_binds, binds, ended, bound_by, use_ok, seen, a_binding, occurs, once, Ended, Unended, Left}
use Rattle.laws.proofs.answer.CodeLaws.{past}
use Rattle.laws.proofs.answer.BoundLaws.{none_first, row_below, ended_yes, ended_none, ended_later, pass_row, enter_row, stop_row, enters_no, binds_let, binds_match, binds_low, binds_high}
use Rattle.laws.proofs.answer.ListNames.{answer_fits}
use Rattle.laws.proofs.answer.LaidOut.{laid_rows, rows_laid}
use Rattle.laws.proofs.answer.ScopeLaws.{all_seen, stmts_bound_made}
use Rattle.laws.proofs.answer.OnceLaws.{once_different}
use Rattle.spec_tree.proofs.TokenLaws.{some_is}
use Rattle.spec_tree.proofs.Lists.{place_is}

-- ---- `stands_below`

pub stands_none : (w : ℕ) → kind_of w ≤ 1 → 0 ≡ stands_below w
unfolding stands_below
stands_none w h = rw (le-leb (kind_of w) 1 h)

pub stands_name : (w : ℕ) → 1 < kind_of w → kind_of w ≡ 33 → 0 ≡ stands_below w
unfolding stands_below
stands_name w h e = rw e

pub stands_let : (w : ℕ) → 1 < kind_of w → kind_of w ≡ 29 → 1 ≡ stands_below w
unfolding stands_below
stands_let w h e = rw e

pub stands_each : (w : ℕ) → 35 ≤ kind_of w → 1 ≡ stands_below w
unfolding stands_below
stands_each w h =
    let a : 1 < kind_of w = omega arith in
    let n : kind_of w ≡ 33 → ⊥ = λ e. omega arith in
    let l : kind_of w ≡ 29 → ⊥ = λ e. omega arith in
    rw (lt-leb (kind_of w) 1 a, ne_eqb (kind_of w) 33 n, ne_eqb (kind_of w) 29 l, le-leb 35 (kind_of w) h)

pub stands_many : (w : ℕ) → 1 < kind_of w → (kind_of w ≡ 33 → ⊥) → (kind_of w ≡ 29 → ⊥) → kind_of w < 35 → below_of w ≡ stands_below w
unfolding stands_below
stands_many w low n l high = rw (lt-leb (kind_of w) 1 low, ne_eqb (kind_of w) 33 n, ne_eqb (kind_of w) 29 l, lt-leb 35 (kind_of w) high)

-- ---- `span_end`

-- each span has a word at least
span_long : (l : List ℕ) (n m : ℕ) → span_words l n ≡ some m → n ≤ m
unfolding span_words
span_long [] zero m e = omega arith
span_long [] (suc n) m e = absurd (let z : ◌≡◌ {A = ℕ} 0 1 = cc in omega arith)
span_long (w ∷ l) zero m e = omega arith
span_long (w ∷ l) (suc n) m e = go (span_words l (n + stands_below w)) (λ k q. span_long l (n + stands_below w) k q) refl e
  where
    go :
        (o : Option ℕ) → ((k : ℕ) → span_words l (n + stands_below w) ≡ some k → n + stands_below w ≤ k) → span_words l (n + stands_below w) ≡ o
        → ◌≡◌ {A = Option ℕ} (elim o [ none ↦ none | some k ↦ some (suc k) ]) (some m) → suc n ≤ m
    go none f q e = absurd (let z : ◌≡◌ {A = ℕ} 0 1 = cc in omega arith)
    go (some k) f q e = let z : suc k ≡ m = some_is e in omega (arith, f k q, z)

span_within : (l : List ℕ) (n m : ℕ) → span_words l n ≡ some m → m ≤ length l
unfolding span_words
span_within [] zero m e = let z : 0 ≡ m = some_is e in omega arith
span_within [] (suc n) m e = absurd (let z : ◌≡◌ {A = ℕ} 0 1 = cc in omega arith)
span_within (w ∷ l) zero m e = let z : 0 ≡ m = some_is e in omega arith
span_within (w ∷ l) (suc n) m e = go (span_words l (n + stands_below w)) (λ k q. span_within l (n + stands_below w) k q) refl e
  where
    go :
        (o : Option ℕ) → ((k : ℕ) → span_words l (n + stands_below w) ≡ some k → k ≤ length l) → span_words l (n + stands_below w) ≡ o
        → ◌≡◌ {A = Option ℕ} (elim o [ none ↦ none | some k ↦ some (suc k) ]) (some m) → m ≤ suc (length l)
    go none f q e = absurd (let z : ◌≡◌ {A = ℕ} 0 1 = cc in omega arith)
    go (some k) f q e = let z : suc k ≡ m = some_is e in omega (arith, f k q, z)

row_to : (w n k : ℕ) (l : List ℕ) → span_words (w ∷ l) (suc k) ≡ some n → (m : ℕ) × (n ≡ suc m) × (span_words l (k + stands_below w) ≡ some m)
unfolding span_words
row_to w n k l e = go (span_words l (k + stands_below w)) refl e
  where
    go :
        (o : Option ℕ) → span_words l (k + stands_below w) ≡ o → ◌≡◌ {A = Option ℕ} (elim o [ none ↦ none | some j ↦ some (suc j) ]) (some n)
        → (m : ℕ) × (n ≡ suc m) × (span_words l (k + stands_below w) ≡ some m)
    go none q e = absurd (let z : ◌≡◌ {A = ℕ} 0 1 = cc in omega arith)
    go (some j) q e = (j, sym (some_is e), q)

row_from : (w m k : ℕ) (l : List ℕ) → span_words l (k + stands_below w) ≡ some m → span_words (w ∷ l) (suc k) ≡ some (suc m)
unfolding span_words
row_from w m k l e = rw e

module _ (ws : List ℕ) (at : ℕ) where
  pub left_begin : Left ws at at 1
  left_begin =
      record {
        to = λ n e. (n, omega arith, e);
        from = λ m e. let z : m ≡ at - at + m = omega arith in e ∙ ap some z;
      }

  module _ (i left : ℕ) (after : at ≤ i) (some_left : 0 < left) (k : Left ws at i left) where
    pub left_next : (s : ℕ) → i < length ws → s ≡ stands_below (get_or ws i 0) → Left ws at (i + 1) (left - 1 + s)
    left_next s h e =
        let z : left ≡ suc (left - 1) = omega arith in
        let d = place_is ws i h in
        let y : left - 1 + s ≡ left - 1 + stands_below (get_or ws i 0) = ap (λ (n : ℕ). left - 1 + n) e in
        record {
          to = λ n q.
              let p = k.to n q in
              let t : span_words (get_or ws i 0 ∷ drop (i + 1) ws) (suc (left - 1)) ≡ some p.0 = ap₂ span_words (sym d) (sym z) ∙ p.2 in
              let r = row_to (get_or ws i 0) p.0 (left - 1) (drop (i + 1) ws) t in
              (r.0, omega (arith, p.1, r.1), ap (span_words (drop (i + 1) ws)) y ∙ r.2);
          from = λ m q.
              let t : span_words (drop (i + 1) ws) (left - 1 + stands_below (get_or ws i 0)) ≡ some m = ap (span_words (drop (i + 1) ws)) (sym y) ∙ q in
              let r : span_words (drop i ws) left ≡ some (suc m) = ap₂ span_words d z ∙ row_from (get_or ws i 0) m (left - 1) (drop (i + 1) ws) t in
              let x : i - at + suc m ≡ i + 1 - at + m = omega arith in
              k.from (suc m) r ∙ ap some x;
        }

    pub left_over : (by : ℕ) → by - i < left → i ≤ by → Unended ws at by
    left_over by h g n e =
        let p = k.to n e in
        omega (arith, span_long (drop i ws) left p.0 p.2, p.1)

  pub left_ends : (i left by : ℕ) → at ≤ i → i ≤ by → left ≤ 0 → Left ws at i left → Ended ws at by i
  left_ends i zero by a b h k =
      let z : i - at + 0 ≡ i - at = omega arith in
      record { after = a; before_by = b; words = k.from 0 (none_first (drop i ws)) ∙ ap some z }
  left_ends i (suc left) by a b h k = absurd (omega arith)

-- ---- `names_bind`

module _ (ws : List ℕ) (c i : ℕ) where
  pub names_next : i < length ws → get_or ws i 0 % 64 ≡ 33 → (get_or ws i 0 / 64 ≡ c → ⊥) → names_bind c (drop i ws) ≡ names_bind c (drop (i + 1) ws)
  unfolding names_bind
  names_next h e n = ap (names_bind c) (place_is ws i h) ∙ rw (eq-eqb (get_or ws i 0 % 64) 33 e, names_bind, ne_eqb (get_or ws i 0 / 64) c n)

  pub names_found : i < length ws → get_or ws i 0 % 64 ≡ 33 → get_or ws i 0 / 64 ≡ c → names_bind c (drop i ws) ≡ true
  unfolding names_bind
  names_found h e n = ap (names_bind c) (place_is ws i h) ∙ rw (eq-eqb (get_or ws i 0 % 64) 33 e, names_bind, eq-eqb (get_or ws i 0 / 64) c n)

  pub names_other : i < length ws → (get_or ws i 0 % 64 ≡ 33 → ⊥) → names_bind c (drop i ws) ≡ false
  unfolding names_bind
  names_other h n = ap (names_bind c) (place_is ws i h) ∙ rw (ne_eqb (get_or ws i 0 % 64) 33 n, names_bind)

  pub names_past : length ws ≤ i → names_bind c (drop i ws) ≡ false
  unfolding names_bind
  names_past h = ap (names_bind c) (past ws i h)

-- ---- `binds`

module _ (ws : List ℕ) (c at : ℕ) where
  abbrev bound_here : Bool
  bound_here = binds c (get_or ws at 0) (drop (at + 1) ws)

  pub bind_let : get_or ws at 0 % 64 ≡ 29 → eqb (get_or ws at 0 / 64) c ≡ bound_here
  bind_let e = sym (binds_let c (get_or ws at 0) (drop (at + 1) ws) e)

  pub bind_low : (get_or ws at 0 % 64 ≡ 29 → ⊥) → get_or ws at 0 % 64 < 30 → false ≡ bound_here
  bind_low n h = sym (binds_low c (get_or ws at 0) (drop (at + 1) ws) (omega (arith, n)))

  pub bind_high : 32 < get_or ws at 0 % 64 → false ≡ bound_here
  bind_high h = sym (binds_high c (get_or ws at 0) (drop (at + 1) ws) (omega arith))

  module _ (low : 30 ≤ get_or ws at 0 % 64) (high : get_or ws at 0 % 64 ≤ 32) where
    pub bind_keyless : at < length ws → Unended ws (at + 1) (length ws) → false ≡ bound_here
    unfolding match_binds
    bind_keyless h u = sym (binds_match c (get_or ws at 0) (drop (at + 1) ws) low (omega arith) ∙ go (span_words (drop (at + 1) ws) 1) refl)
      where
        go : (o : Option ℕ) → span_words (drop (at + 1) ws) 1 ≡ o → match_binds c (drop (at + 1) ws) ≡ false
        go none e = rw (e, match_binds)
        go (some m) e = absurd (omega (arith, u m e, span_within (drop (at + 1) ws) 1 m e, length-drop (at + 1) ws))

    pub bind_names : (by e : ℕ) → Ended ws (at + 1) by e → names_bind c (drop e ws) ≡ bound_here
    unfolding match_binds
    bind_names by e k =
        let z : at + 1 + (e - (at + 1)) ≡ e = omega (arith, k.after) in
        sym (binds_match c (get_or ws at 0) (drop (at + 1) ws) low (omega arith)
        ∙ rw (k.words, match_binds) (ap (names_bind c) (drop-drop (e - (at + 1)) (at + 1) ws ∙ ap (λ (n : ℕ). drop n ws) z)))

-- ---- `way`

module _ (ws : List ℕ) (c i at : ℕ) (h : i < at) (g : at ≤ length ws) where
  abbrev way_on : Bool
  way_on = bound_by c 0 (at - i) (drop i ws)

  inside : i < length ws
  inside = omega arith

  way_is : way_on ≡ bound_by c 0 (suc (at - i - 1)) (get_or ws i 0 ∷ drop (i + 1) ws)
  way_is = let z : at - i ≡ suc (at - i - 1) = omega arith in ap₂ (bound_by c 0) z (place_is ws i inside)

  closed : (e : ℕ) → Ended ws i at e → way_on ≡ (binds c (get_or ws i 0) (drop (i + 1) ws) || bound_by c 0 (at - e) (drop e ws))
  closed e k =
      let w = get_or ws i 0 in
      let l = drop (i + 1) ws in
      let r = row_below w (e - i) l (ap (λ (x : List ℕ). span_words x 1) (sym (place_is ws i inside)) ∙ k.words) in
      let m = r.0 in
      let z : at - i - 1 - m ≡ at - e = omega (arith, r.2, k.after, k.before_by) in
      let y : i + 1 + m ≡ e = omega (arith, r.2, k.after) in
      way_is
      ∙ (pass_row c w m (at - i - 1) l (ended_yes (at - i - 1) m (span_words l (stands_below w)) r.1 (omega (arith, r.2, k.after, k.before_by)))
      ∙ ap₂ (λ (n : ℕ) (x : List ℕ). binds c w l || bound_by c 0 n x) z (drop-drop m (i + 1) ws ∙ ap (λ (n : ℕ). drop n ws) y))

  pub way_bound : (e : ℕ) → Ended ws i at e → binds c (get_or ws i 0) (drop (i + 1) ws) ≡ true → way_on ≡ true
  way_bound e k b = closed e k ∙ rw b

  pub way_past : (e : ℕ) → Ended ws i at e → binds c (get_or ws i 0) (drop (i + 1) ws) ≡ false → way_on ≡ bound_by c 0 (at - e) (drop e ws)
  way_past e k b = closed e k ∙ rw b

  pub way_goes : (e : ℕ) → Ended ws i at e → i < e
  way_goes e k = let r = row_below (get_or ws i 0) (e - i) (drop (i + 1) ws) (ap (λ (x : List ℕ). span_words x 1) (sym (place_is ws i inside)) ∙ k.words) in omega (arith, r.2)

  open_here : (u : Unended ws i at) → ended (at - i - 1) (span_words (drop (i + 1) ws) (stands_below (get_or ws i 0))) ≡ none
  open_here u = go (span_words (drop (i + 1) ws) (stands_below (get_or ws i 0))) refl
    where
      go : (o : Option ℕ) → span_words (drop (i + 1) ws) (stands_below (get_or ws i 0)) ≡ o → ended (at - i - 1) (span_words (drop (i + 1) ws) (stands_below (get_or ws i 0))) ≡ none
      go none e = ended_none (at - i - 1) (span_words (drop (i + 1) ws) (stands_below (get_or ws i 0))) e
      go (some m) e =
          let z : 0 + stands_below (get_or ws i 0) ≡ stands_below (get_or ws i 0) = omega arith in
          let q = row_from (get_or ws i 0) m 0 (drop (i + 1) ws) (ap (span_words (drop (i + 1) ws)) z ∙ e) in
          let k = u (suc m) (ap (λ (x : List ℕ). span_words x 1) (place_is ws i inside) ∙ q) in
          ended_later (at - i - 1) m (span_words (drop (i + 1) ws) (stands_below (get_or ws i 0))) e (omega (arith, k))

  pub way_in : Unended ws i at → entered (get_or ws i 0) ≡ true → way_on ≡ bound_by c 0 (at - (i + 1)) (drop (i + 1) ws)
  way_in u e =
      let z : at - i - 1 ≡ at - (i + 1) = omega arith in
      way_is ∙ (enter_row c (get_or ws i 0) (at - i - 1) (drop (i + 1) ws) (open_here u) e ∙ ap (λ (n : ℕ). bound_by c 0 n (drop (i + 1) ws)) z)

  pub way_stops : Unended ws i at → entered (get_or ws i 0) ≡ false → way_on ≡ false
  way_stops u e = way_is ∙ stop_row c (get_or ws i 0) (at - i - 1) (drop (i + 1) ws) (open_here u) e

pub way_begins : (ws : List ℕ) (c at : ℕ) → bound_by c 0 at ws ≡ bound_by c 0 (at - 0) (drop 0 ws)
way_begins ws c at = let z : at ≡ at - 0 = omega arith in ap (λ (n : ℕ). bound_by c 0 n ws) z

pub way_ends : (ws : List ℕ) (c i at : ℕ) → at ≤ i → bound_by c 0 (at - i) (drop i ws) ≡ false
unfolding bound_by
way_ends ws c i at h = let z : at - i ≡ 0 = omega arith in rw z

pub entered_arm : (w : ℕ) → kind_of w ≡ 34 → true ≡ entered w
entered_arm w e = rw e

pub entered_no : (w : ℕ) → (kind_of w ≡ 34 → ⊥) → kind_of w < 30 → false ≡ entered w
entered_no w n h = sym (enters_no w h)

pub entered_some : (w : ℕ) → (kind_of w ≡ 34 → ⊥) → 30 ≤ kind_of w → ltb (kind_of w) 33 ≡ entered w
entered_some w n h = go (ltb (kind_of w) 33)
  where
    go : (b : Bool) → b ≡ ((leb 30 (kind_of w) && b) || eqb (kind_of w) 34)
    go b = rw (le-leb 30 (kind_of w) h, ne_eqb (kind_of w) 34 n) (same b)
      where
        same : (b : Bool) → b ≡ (b || false)
        same true = refl
        same false = refl

-- ---- `use_ok` and `in_scope`

module _ (ws : List ℕ) (p : ℕ) where
  pub use_other : (get_or ws p 0 % 64 ≡ 0 → ⊥) → true ≡ use_ok ws p
  unfolding use_ok
  use_other n = rw (ne_eqb (get_or ws p 0 % 64) 0 n, use_ok)

  pub use_listed : get_or ws p 0 % 64 ≡ 0 → get_or ws p 0 / 64 % 3 ≡ 0 → true ≡ use_ok ws p
  unfolding use_ok
  use_listed e z = rw (eq-eqb (get_or ws p 0 % 64) 0 e, eq-eqb (get_or ws p 0 / 64 % 3) 0 z, use_ok)

  pub use_made : get_or ws p 0 % 64 ≡ 0 → (get_or ws p 0 / 64 % 3 ≡ 0 → ⊥) → bound_by (get_or ws p 0 / 64) 0 p ws ≡ use_ok ws p
  unfolding use_ok
  use_made e n = rw (eq-eqb (get_or ws p 0 % 64) 0 e, ne_eqb (get_or ws p 0 / 64 % 3) 0 n, use_ok)

  seen_split : p < length ws → seen ws p (length ws - p) ≡ (use_ok ws p && seen ws (p + 1) (length ws - (p + 1)))
  unfolding seen
  seen_split h =
      let z : length ws - p ≡ suc (length ws - (p + 1)) = omega arith in
      let y : suc p ≡ p + 1 = omega arith in
      ap (seen ws p) z ∙ ap (λ (n : ℕ). use_ok ws p && seen ws n (length ws - (p + 1))) y

  pub seen_next : p < length ws → use_ok ws p ≡ true → seen ws p (length ws - p) ≡ seen ws (p + 1) (length ws - (p + 1))
  seen_next h e = seen_split h ∙ rw e

  pub seen_stops : p < length ws → use_ok ws p ≡ false → seen ws p (length ws - p) ≡ false
  seen_stops h e = seen_split h ∙ rw e

  pub seen_ends : length ws ≤ p → seen ws p (length ws - p) ≡ true
  unfolding seen
  seen_ends h = let z : length ws - p ≡ 0 = omega arith in rw z

pub seen_begins : (ws : List ℕ) → seen ws 0 (length ws) ≡ seen ws 0 (length ws - 0)
seen_begins ws = let z : length ws ≡ length ws - 0 = omega arith in ap (seen ws 0) z

-- ---- `occurs`, `repeated` and `bound_once`

module _ (ws : List ℕ) (w i : ℕ) where
  pub occurs_here : i < length ws → get_or ws i 0 ≡ w → occurs w (drop i ws) ≡ true
  unfolding occurs
  occurs_here h e = ap (occurs w) (place_is ws i h) ∙ rw (eq-eqb (get_or ws i 0) w e, occurs)

  pub occurs_next : i < length ws → (get_or ws i 0 ≡ w → ⊥) → occurs w (drop i ws) ≡ occurs w (drop (i + 1) ws)
  unfolding occurs
  occurs_next h n = ap (occurs w) (place_is ws i h) ∙ rw (ne_eqb (get_or ws i 0) w n, occurs)

  pub occurs_past : length ws ≤ i → occurs w (drop i ws) ≡ false
  unfolding occurs
  occurs_past h = ap (occurs w) (past ws i h)

pub binding_let : (w : ℕ) → kind_of w ≡ 29 → eqb (below_of w % 3) 1 ≡ a_binding w
binding_let w e = go (eqb (below_of w % 3) 1)
  where
    go : (b : Bool) → b ≡ ((eqb (kind_of w) 29 && b) || (eqb (kind_of w) 33 && eqb (below_of w % 3) 2))
    go b =
        let n : kind_of w ≡ 33 → ⊥ = λ k. omega arith in
        rw (eq-eqb (kind_of w) 29 e, ne_eqb (kind_of w) 33 n) (same b)
      where
        same : (b : Bool) → b ≡ (b || false)
        same true = refl
        same false = refl

pub binding_name : (w : ℕ) → (kind_of w ≡ 29 → ⊥) → kind_of w ≡ 33 → eqb (below_of w % 3) 2 ≡ a_binding w
binding_name w n e = rw (ne_eqb (kind_of w) 29 n, eq-eqb (kind_of w) 33 e)

pub binding_no : (w : ℕ) → (kind_of w ≡ 29 → ⊥) → (kind_of w ≡ 33 → ⊥) → false ≡ a_binding w
binding_no w n e = rw (ne_eqb (kind_of w) 29 n, ne_eqb (kind_of w) 33 e)

module _ (ws : List ℕ) (i : ℕ) where
  abbrev again : Bool
  again = a_binding (get_or ws i 0) && occurs (get_or ws i 0) (drop (i + 1) ws)

  pub repeated_no : false ≡ a_binding (get_or ws i 0) → false ≡ again
  repeated_no e = ap (λ (b : Bool). b && occurs (get_or ws i 0) (drop (i + 1) ws)) e

  pub repeated_so : true ≡ a_binding (get_or ws i 0) → occurs (get_or ws i 0) (drop (i + 1) ws) ≡ again
  repeated_so e = ap (λ (b : Bool). b && occurs (get_or ws i 0) (drop (i + 1) ws)) e

  once_split : i < length ws → once (drop i ws) ≡ (not again && once (drop (i + 1) ws))
  unfolding once
  once_split h = ap once (place_is ws i h)

  pub once_next : i < length ws → again ≡ false → once (drop i ws) ≡ once (drop (i + 1) ws)
  once_next h e = once_split h ∙ ap (λ (b : Bool). not b && once (drop (i + 1) ws)) e

  pub once_stops : i < length ws → again ≡ true → once (drop i ws) ≡ false
  once_stops h e = once_split h ∙ ap (λ (b : Bool). not b && once (drop (i + 1) ws)) e

  pub once_ends : length ws ≤ i → once (drop i ws) ≡ true
  unfolding once
  once_ends h = ap once (past ws i h)

-- ---- 13, from the shape of the rows and the two tests of references

module _ (rows : List Row) (ws : List ℕ) where
  references : (a : AnswerRows rows ws) → references_ok rows a.answer ≡ (once ws && seen ws 0 (length ws))
  unfolding references_ok answer_words
  references a =
      let l = a.answer.inters in
      let vs = a.answer.results in
      let made = stmts_bound_made l a.parts in
      let o : once ws ≡ all_different (bound_stmts l) = ap once a.words ∙ once_different (number_in rows) (numbered_in rows) l vs a.parts_fit a.results_fit made in
      let s = all_seen rows (bound_stmts l) made ws l vs a.parts a.parts_fit a.results a.results_fit a.words in
      sym (ap₂ ◌&&◌ o s)

  so : (b : Bool) → b ≡ true → T b
  so true e = tt
  so false e = let z : ◌≡◌ {A = ℕ} 0 1 = cc in absurd (omega arith)

  same : (a b : Bool) → (T a → T b) → (T b → T a) → a ≡ b
  same true true f g = refl
  same true false f g = absurd (f tt)
  same false true f g = absurd (g tt)
  same false false f g = refl

  never : (b : Bool) → (T b → ⊥) → false ≡ b
  never true f = absurd (f tt)
  never false f = refl

  shape : T (rows_of_answer rows ws) → AnswerRows rows ws
  shape h =
      let r = laid_rows rows ws h in
      let f = answer_fits rows r.answer r.parts r.results r.references in
      record { answer = r.answer; parts = r.parts; results = r.results; parts_fit = f.0; results_fit = f.1; words = sym r.words }

  pub laid_unshaped : (AnswerRows rows ws → ⊥) → false ≡ rows_of_answer rows ws
  laid_unshaped n = never (rows_of_answer rows ws) (λ h. n (shape h))

  pub laid_shaped : AnswerRows rows ws → (once ws && seen ws 0 (length ws)) ≡ rows_of_answer rows ws
  unfolding shape
  laid_shaped a =
      same (once ws && seen ws 0 (length ws)) (rows_of_answer rows ws)
      (λ h. rows_laid rows ws (record { answer = a.answer; words = sym a.words; parts = a.parts; results = a.results; references = subst (λ (b : Bool). T b) (sym (references a)) h }))
      (λ h.
      let r = laid_rows rows ws h in
      let c = shape h in
      subst (λ (b : Bool). T b) (references c) r.references)
