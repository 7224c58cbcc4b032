-- How deep rows stand, from what is still to come below those that are open. Assumes nothing.
use Prim.Native.Nat.{ℕ, zero, suc, ◌+◌, ◌-◌, ◌≤◌, ◌<◌, max}
use native.Mathlib.Omega.{arith}
use mathlib.Core.Path.{◌≡◌, refl, sym, ◌∙◌, ap, ap₂, subst}
use mathlib.Core.Bool.{true, false}
use mathlib.Core.List.{List, [], ◌∷◌}
use native.Mathlib.Numerals.{add-one}
use borrow.Author.Tests.{le-leb, lt-leb}
use lib.ListN.{length, get_or, drop, set, length-set, drop_of_length-le}
use lib.Seq.{drop-cons, get_or-set_same, get_or-set_other}
use lib.Dec.{leb, leb→le, le→leb}
use Rattle.spec_tree.proofs.Logic.{same_test}
use Rattle.spec_cse.specs.AnswerRows.{Spans, no_span, take_spans, drop_spans, stands_below, read_spans, spans_depth, deepest, no_deeper}

-- The innermost open row has n spans to come, those around it the numbers of a list, the innermost first; the last of all these is for what is below no row, and
-- has all that is left.
abbrev pub under : ℕ → List ℕ → Spans → ℕ
under n [] s = spans_depth s
under n (m ∷ l) s = max (length (m ∷ l) + spans_depth (take_spans n s)) (under m l (drop_spans n s))

-- a row opens
opened : (n : ℕ) (l : List ℕ) (w : ℕ) (ws : List ℕ) → under (stands_below w) (n ∷ l) (read_spans ws) ≡ under (suc n) l (read_spans (w ∷ ws))
unfolding read_spans spans_depth take_spans drop_spans
opened n [] w ws = omega arith
opened n (m ∷ l) w ws = omega arith

-- ---- the numbers of the rows that are open, from an array that has the outermost first

abbrev pub stack : List ℕ → ℕ → List ℕ
stack l zero = []
stack l (suc d) = get_or l d 0 ∷ stack l d

stack_length : (l : List ℕ) (d : ℕ) → length (stack l d) ≡ d
stack_length l zero = refl
stack_length l (suc d) = ap suc (stack_length l d)

-- what is stored further in changes nothing further out
stack_set : (l : List ℕ) (v d i : ℕ) → d ≤ i → stack (set l i v) d ≡ stack l d
stack_set l v zero i h = refl
stack_set l v (suc d) i h = ap₂ ◌∷◌ (get_or-set_other l i d v 0 (λ e. omega arith)) (stack_set l v d i (omega arith))

-- the last number, for what is below no row
abbrev pub bottom : ℕ → List ℕ → ℕ
bottom n [] = n
bottom n (m ∷ l) = bottom m l

no_span_under : (n : ℕ) (l : List ℕ) → length l ≤ deepest → under n l no_span ≤ deepest
unfolding spans_depth take_spans drop_spans
no_span_under n [] h = omega arith
no_span_under n (m ∷ l) h = go n (no_span_under m l (omega arith))
  where
    go : (n : ℕ) → under m l no_span ≤ deepest → under n (m ∷ l) no_span ≤ deepest
    go zero g = omega arith
    go (suc n) g = omega arith

-- ---- the loop of `no_deeper`

pub record Open (ws left : List ℕ) (level below i : ℕ) : Type 0 where
  pub long : length left ≡ 1041
  pub high : level ≤ 1041
  pub inside : i ≤ length ws
  pub enough : length ws ≤ i + bottom below (stack left level)
  pub depth : leb (under below (stack left level) (read_spans (drop i ws))) deepest ≡ no_deeper ws

pub begun : (ws left : List ℕ) → length left ≡ 1041 → Open ws left 0 (length ws) 0
unfolding no_deeper
begun ws left h = record { long = h; high = omega arith; inside = omega arith; enough = omega arith; depth = refl }

module _ {ws left : List ℕ} {level below i : ℕ} (o : Open ws left level below i) where
  pub closed : i < length ws → below ≡ 0 → Open ws left (level - 1) (get_or left (level - 1) 0) i
  unfolding take_spans drop_spans spans_depth
  closed h z = go level below z o
    where
      shut : (d u : ℕ) → suc d ≤ deepest → leb (max (suc d + 0) u) deepest ≡ leb u deepest
      shut d u l =
          same_test (leb (max (suc d + 0) u) deepest) (leb u deepest)
          (λ t. le→leb u deepest (let h = leb→le (max (suc d + 0) u) deepest t in omega arith))
          (λ t. le→leb (max (suc d + 0) u) deepest (let h = leb→le u deepest t in omega arith))

      go : (d n : ℕ) → n ≡ 0 → Open ws left d n i → Open ws left (d - 1) (get_or left (d - 1) 0) i
      go zero n e p = absurd (omega (arith, p.enough))
      go (suc d) zero e p =
          let k : suc (length (stack left d)) ≡ suc d = ap suc (stack_length left d) in
          let u = under (get_or left d 0) (stack left d) (read_spans (drop i ws)) in
          let z : suc d - 1 ≡ d = omega arith in
          let outer : Open ws left d (get_or left d 0) i =
          record {
            long = p.long;
            high = omega (arith, p.high);
            inside = p.inside;
            enough = p.enough;
            depth = sym (ap (λ (x : ℕ). leb (max (x + 0) u) deepest) k ∙ shut d u p.high) ∙ p.depth;
          } in
          subst (λ (x : ℕ). Open ws left x (get_or left x 0) i) (sym z) outer
      go (suc d) (suc n) e p = absurd (omega arith)

  row_here : i < length ws → read_spans (drop i ws) ≡ read_spans (get_or ws i 0 ∷ drop (suc i) ws)
  row_here h = ap read_spans (drop-cons ws i 0 h)

  pub entered : i < length ws → (below ≡ 0 → ⊥) → level < 1041 → Open ws (set left level (below - 1)) (level + 1) (stands_below (get_or ws i 0)) (i + 1)
  entered h z l =
      let new = set left level (below - 1) in
      let n : suc (below - 1) ≡ below = omega arith in
      let top : get_or new level 0 ≡ below - 1 = get_or-set_same left level (below - 1) 0 (omega (arith, o.long)) in
      let rest : stack new level ≡ stack left level = stack_set left (below - 1) level level (omega arith) in
      let whole : stack new (level + 1) ≡ (below - 1) ∷ stack left level = ap (stack new) (add-one level) ∙ ap₂ ◌∷◌ top rest in
      let w = get_or ws i 0 in
      let next : drop (i + 1) ws ≡ drop (suc i) ws = ap (λ (j : ℕ). drop j ws) (add-one i) in
      record {
        long = length-set left level (below - 1) ∙ o.long;
        high = omega arith;
        inside = omega arith;
        enough = rw whole (go (stack left level) (omega arith) o.enough);
        depth =
            rw (whole, next) (ap (λ (x : ℕ). leb x deepest) (opened (below - 1) (stack left level) w (drop (suc i) ws)
            ∙ (ap (λ (x : ℕ). under x (stack left level) (read_spans (w ∷ drop (suc i) ws))) n ∙ ap (under below (stack left level)) (sym (row_here h)))) ∙ o.depth);
      }
    where
      go : (l : List ℕ) → 1 ≤ below → length ws ≤ i + bottom below l → length ws ≤ i + 1 + bottom (below - 1) l
      go [] b e = omega arith
      go (m ∷ l) b e = omega arith

  pub too_deep : i < length ws → (below ≡ 0 → ⊥) → level ≡ 1041 → false ≡ no_deeper ws
  too_deep h z e =
      let n : suc (below - 1) ≡ below = omega arith in
      let w = get_or ws i 0 in
      let s = read_spans (drop (suc i) ws) in
      let d : deepest < under below (stack left level) (read_spans (drop i ws)) =
      subst (λ (x : ℕ). deepest < x) (opened (below - 1) (stack left level) w (drop (suc i) ws) ∙ (ap (λ (x : ℕ). under x (stack left level) (read_spans (w ∷ drop (suc i) ws))) n ∙ ap (under below (stack left level)) (sym (row_here h))))
      (deep (stands_below w) (below - 1) (stack left level) s (stack_length left level ∙ e)) in
      sym (lt-leb (under below (stack left level) (read_spans (drop i ws))) deepest d) ∙ o.depth
    where
      deep : (k n : ℕ) (l : List ℕ) (s : Spans) → length l ≡ 1041 → deepest < under k (n ∷ l) s
      deep k n l s e = omega arith

  pub all_read : length ws ≤ i → true ≡ no_deeper ws
  all_read h =
      let e : read_spans (drop i ws) ≡ no_span = ap read_spans (drop_of_length-le ws {i = i} h) ∙ (unfold read_spans in refl) in
      sym (ap (λ (s : Spans). leb (under below (stack left level) s) deepest) e ∙ le-leb (under below (stack left level) no_span) deepest (no_span_under below (stack left level) (omega (arith, stack_length left level, o.high)))) ∙ o.depth
