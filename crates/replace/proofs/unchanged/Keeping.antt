-- What is kept of the words that `replace_or_leave` may write to, and how it is put back. Assumes nothing.
use Rattle.std.specs.Prelude.{Ok, Err, Result}
use Rattle.replace.specs.declared.ReplaceError.TheVariants as replace_error
use Rattle.replace.specs.declared.ReplaceError.{ReplaceError}
use Rattle.std.proofs.Common.{◌≡◌, ℕ, ◌+◌, ◌-◌, ◌*◌, ◌/◌, ◌<◌, ◌≤◌, Bool, true, false, ◌||◌, ltb, List, ◌++◌, length, take, drop, refl, ap, ◌∙◌, subst, ap₂, arith, length-append, length-drop, take-append-drop, length-take-le, take_at, drop_at, ltb-false}
use lib.Seq.{drop-append_seam}
use Rattle.spec_tree.specs.Outcome.{Outcome, ok, refused}
use Rattle.spec_tree.proofs.Logic.{or_left_false, or_right_false}
use Rattle.replace.specs.Answers.{Replacement, replaced_by, replacement, Leaves, scratch_short, short_of_room}
use Rattle.replace.specs.unchanged.Unchanged.{words_left, unchanged, Kept}

-- ---- keeping

module _ (words : List ℕ) (n at : ℕ) (old : List ℕ) where
  pub too_few : length words < n → Kept words n at old old
  too_few h = record { long = refl; kept = λ g r. absurd (omega arith) }

  pub no_place : at ≤ length old → length old - at < n → Kept words n at old old
  no_place g h = record { long = refl; kept = λ q r. absurd (omega arith) }

  pub kept : (new : List ℕ) → n ≤ length words → at + n ≤ length old → new ≡ take at old ++ (take n words ++ drop (at + length (take n words)) old) → Kept words n at old new
  kept new h r e =
      let t = length-take-le n words h in
      let f = length-take-le at old (omega arith) in
      let rest = drop (at + length (take n words)) old in
      record {
        long = ap length e ∙ omega (arith, length-append (take at old) (take n words ++ rest), length-append (take n words) rest, length-drop (at + length (take n words)) old, t, f);
        kept = λ q s. ap (λ (l : List ℕ). take n (drop at l)) e ∙ (ap (take n) (drop_at (take at old) (take n words ++ rest) at f) ∙ take_at (take n words) rest n t);
      }

-- ---- what is left, by what `replace` answered

-- where the trees are no answer they are as they were
left_broken : (a b c : Bool) (o : Outcome (List ℕ)) (ws old : List ℕ) → Err replace_error.Broken ≡ (replacement a b c o ws old).answer → (replacement a b c o ws old).out ≡ old
unfolding replacement
left_broken false b c o ws old e = refl
left_broken true true c o ws old e = refl
left_broken true false true o ws old e = refl
left_broken true false false (ok new) ws old e = unfold replaced_by in absurd (let z : ◌≡◌ {A = ℕ} 0 1 = cc in omega arith)
left_broken true false false (refused i) ws old e = unfold replaced_by in absurd (let z : ◌≡◌ {A = ℕ} 0 1 = cc in omega arith)

left_short : (a b c : Bool) (o : Outcome (List ℕ)) (ws old : List ℕ) → Err replace_error.NoRoom ≡ (replacement a b c o ws old).answer → (replacement a b c o ws old).out ≡ old
unfolding replacement
left_short false b c o ws old e = refl
left_short true true c o ws old e = refl
left_short true false true o ws old e = refl
left_short true false false (ok new) ws old e = unfold replaced_by in absurd (let z : ◌≡◌ {A = ℕ} 0 1 = cc in omega arith)
left_short true false false (refused i) ws old e = unfold replaced_by in absurd (let z : ◌≡◌ {A = ℕ} 0 1 = cc in omega arith)

-- where one is refused there was room, and the trees were written
left_refused : (a b c : Bool) (o : Outcome (List ℕ)) (ws old : List ℕ) → Err replace_error.Refused ≡ (replacement a b c o ws old).answer
    → (b ≡ false) × ((replacement a b c o ws old).out ≡ ws ++ drop (length ws) old)
unfolding replacement
left_refused false b c o ws old e = absurd (let z : ◌≡◌ {A = ℕ} 0 1 = cc in omega arith)
left_refused true true c o ws old e = absurd (let z : ◌≡◌ {A = ℕ} 0 1 = cc in omega arith)
left_refused true false true o ws old e = absurd (let z : ◌≡◌ {A = ℕ} 0 1 = cc in omega arith)
left_refused true false false (ok new) ws old e = unfold replaced_by in absurd (let z : ◌≡◌ {A = ℕ} 0 1 = cc in omega arith)
left_refused true false false (refused i) ws old e = (refl, (unfold replaced_by in refl))

module _ (a b c : Bool) (o : Outcome (List ℕ)) (ws old new : List ℕ) where
  abbrev due : Replacement
  due = replacement a b c o ws old

  pub words_stay : (n : ℕ) → Leaves due (Ok n) new → Leaves (unchanged due old) (Ok n) new
  unfolding unchanged
  words_stay n h = (h.0, h.1 ∙ ap (λ (r : Result ℕ ReplaceError). words_left r due.out old) h.0)

  pub broken_stay : Leaves due (Err replace_error.Broken) new → Leaves (unchanged due old) (Err replace_error.Broken) new
  unfolding unchanged words_left
  broken_stay h = (h.0, h.1 ∙ (left_broken a b c o ws old h.0 ∙ ap (λ (r : Result ℕ ReplaceError). words_left r due.out old) h.0))

  pub short_stay : Leaves due (Err replace_error.NoRoom) new → Leaves (unchanged due old) (Err replace_error.NoRoom) new
  unfolding unchanged words_left
  short_stay h = (h.0, h.1 ∙ (left_short a b c o ws old h.0 ∙ ap (λ (r : Result ℕ ReplaceError). words_left r due.out old) h.0))

  pub error_stays : (e : ReplaceError) → (e ≡ replace_error.Refused → ⊥) → Leaves due (Err e) new → Leaves (unchanged due old) (Err e) new
  error_stays replace_error.Refused n h = absurd (n refl)
  error_stays replace_error.Broken n h = broken_stay h
  error_stays replace_error.NoRoom n h = short_stay h

  pub put_back : length ws ≤ length old → Leaves due (Err replace_error.Refused) new → (last : List ℕ) → last ≡ take (length ws) old ++ drop (length (take (length ws) old)) new
      → Leaves (unchanged due old) (Err replace_error.Refused) last
  unfolding unchanged words_left
  put_back r h last e =
      let q = left_refused a b c o ws old h.0 in
      let t = length-take-le (length ws) old r in
      let d : drop (length (take (length ws) old)) new ≡ drop (length ws) old =
      ap₂ drop t (h.1 ∙ q.1) ∙ drop-append_seam ws (drop (length ws) old) in
      let whole : last ≡ old = e ∙ (ap (λ (l : List ℕ). take (length ws) old ++ l) d ∙ take-append-drop (length ws) old) in
      (h.0, whole ∙ ap (λ (r : Result ℕ ReplaceError). words_left r due.out old) h.0)

-- ---- the room that is lent

-- two thirds of the places, and the third that is left
abbrev pub two_thirds : List ℕ → ℕ
two_thirds places = 2 * (length places / 3)

module _ (a c : Bool) (o : Outcome (List ℕ)) (ws part old places : List ℕ) where
  abbrev asked : ℕ → Replacement
  asked k = replacement a (short_of_room ws part k (length old)) c o ws old

  -- as many are lent as are left in front
  pub as_lent : {got : Result ℕ ReplaceError} {new : List ℕ} (k : ℕ) → k ≡ two_thirds places → Leaves (asked k) got new → Leaves (asked (two_thirds places)) got new
  as_lent {got} {new} k e h = subst (λ (i : ℕ). Leaves (asked i) got new) e h

  -- where a coefficient is refused there was room for all words, and for keeping as many
  pub room_enough : {new : List ℕ} → Leaves (asked (two_thirds places)) (Err replace_error.Refused) new → (length ws ≤ length old) × (two_thirds places + length ws ≤ length places)
  unfolding short_of_room scratch_short
  room_enough h =
      let s : short_of_room ws part (two_thirds places) (length old) ≡ false = (left_refused a (short_of_room ws part (two_thirds places) (length old)) c o ws old h.0).0 in
      let t : (ltb (length old) (length ws) || (ltb (two_thirds places / 2) (length ws) || ltb (two_thirds places) (length part))) ≡ false = s in
      let x = ltb-false (length old) (length ws) (or_left_false (ltb (length old) (length ws)) _ t) in
      let y = ltb-false (two_thirds places / 2) (length ws) (or_left_false (ltb (two_thirds places / 2) (length ws)) _ (or_right_false (ltb (length old) (length ws)) _ t)) in
      (omega arith, omega arith)

-- the words that were kept stand behind what was lent
module _ (words places mid front : List ℕ) (n : ℕ) (k : Kept words n (two_thirds places) places mid) (l : length front ≡ two_thirds places) (h : n ≤ length words) (r : two_thirds places + n ≤ length places) where
  pub behind_inside : two_thirds places + n ≤ length (front ++ drop (two_thirds places) mid)
  behind_inside = omega (arith, length-append front (drop (two_thirds places) mid), length-drop (two_thirds places) mid, k.long, l, r)

  pub kept_behind : take (two_thirds places + n - two_thirds places) (drop (two_thirds places) (front ++ drop (two_thirds places) mid)) ≡ take n words
  kept_behind =
      let e : two_thirds places + n - two_thirds places ≡ n = omega arith in
      ap₂ take e (drop_at front (drop (two_thirds places) mid) (two_thirds places) l) ∙ k.kept h r

  pub kept_short : length (take (two_thirds places + n - two_thirds places) (drop (two_thirds places) (front ++ drop (two_thirds places) mid))) ≡ n
  kept_short = ap length kept_behind ∙ length-take-le n words h
