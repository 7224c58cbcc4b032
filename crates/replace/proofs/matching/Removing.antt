-- Places removed run by run: one search, and the next, again and again; and the name's places at the end. Assumes nothing.
use Rattle.std.specs.List.{list_any}
use Rattle.spec_tree.proofs.Logic.{or_left_false, or_right_false}
use Rattle.std.specs.Prelude.{Some, None}
use Rattle.std.specs.Prelude.{Option as Maybe}
use Rattle.std.proofs.Common.{◌≡◌, ℕ, zero, suc, ◌+◌, ◌-◌, ◌*◌, ◌<◌, ◌≤◌, Bool, true, false, ◌&&◌, T, eqb, leb, List, [], ◌∷◌, ◌++◌, length, get_or, take, drop, set, sym, refl, ap, ◌∙◌, subst, ap₂, append_assoc, arith, le→leb, leb→le, length-append, length-drop, length-set, take-append-drop, drop_of_length-le, length-take-le, drop-cons, get_or-take, take-take, drop-drop, take_at, eq-eqb, ne_eqb}
use mathlib.Core.Option.{Option, none, some}
use lib.Seq.{set_at}
use Rattle.spec_tree.proofs.Tests.{is_true}
use Rattle.words.specs.words.Words.{begins_with}
use Rattle.replace.specs.matching.Matching.{is_passed, run_end, factor_runs, words_at, remove_run, remove_runs, PlacesTaken, once_more, take_out_places, names_after}
use Rattle.replace.specs.matching.Answers.{Seeks, Removes, Lacks, Takes}
use Rattle.replace.proofs.matching.Runs.{factor_here, no_more}

-- whether the run stands at the i-th place
abbrev pub hit : (ℕ → List ℕ) → List ℕ → List ℕ → ℕ → Bool
hit at run l i = begins_with (at (get_or l i 0)) run

-- at none of the first n
pub record Missed (at : ℕ → List ℕ) (run l : List ℕ) (n : ℕ) : Type 0 where
  pub none : (i : ℕ) → i < n → hit at run l i ≡ false

pub missed_all : (at : ℕ → List ℕ) (run l : List ℕ) → list_any (λ p. begins_with (at p) run) l ≡ false → Missed at run l (length l)
missed_all at run l e = record { none = λ i h. go l i h e }
  where
    go : (l : List ℕ) (i : ℕ) → i < length l → list_any (λ p. begins_with (at p) run) l ≡ false → hit at run l i ≡ false
    go [] i h e = absurd (omega arith)
    go (p ∷ l) zero h e = or_left_false (begins_with (at p) run) _ e
    go (p ∷ l) (suc i) h e = go l i (omega arith) (or_right_false (begins_with (at p) run) _ e)

abbrev picked : Bool → List ℕ → ℕ → Option (List ℕ) → Option (List ℕ)
picked b l p o = elim b [ true ↦ some l | false ↦ elim o [ none ↦ none | some r ↦ some (p ∷ r) ] ]

remove_none : (at : ℕ → List ℕ) (run l : List ℕ) → ((i : ℕ) → i < length l → hit at run l i ≡ false) → remove_run at run l ≡ none
unfolding remove_run
remove_none at run [] h = refl
remove_none at run (p ∷ l) h =
    ap₂ (λ (b : Bool) (o : Option (List ℕ)). picked b l p o) (h 0 (omega arith)) (remove_none at run l (λ i g. h (suc i) (omega arith)))

remove_at :
    (at : ℕ → List ℕ) (run l : List ℕ) (j : ℕ) → j < length l → hit at run l j ≡ true → ((i : ℕ) → i < j → hit at run l i ≡ false) → remove_run at run l ≡ some (take j l ++ drop (suc j) l)
unfolding remove_run
remove_at at run [] j b e h = absurd (omega arith)
remove_at at run (p ∷ l) zero b e h = ap (λ (b : Bool). picked b l p (remove_run at run l)) e
remove_at at run (p ∷ l) (suc j) b e h =
    ap₂ (λ (b : Bool) (o : Option (List ℕ)). picked b l p o) (h 0 (omega arith)) (remove_at at run l j (omega arith) e (λ i g. h (suc i) (omega arith)))

abbrev then_runs : (ℕ → List ℕ) → List (List ℕ) → Option (List ℕ) → Option (List ℕ)
then_runs at runs o = elim o [ none ↦ none | some r ↦ remove_runs at runs r ]

-- the factors from q on, among the first m places of l
module _ (at : ℕ → List ℕ) (part l : List ℕ) (q m : ℕ) where
  pub all_removed : length part ≤ q → remove_runs at (factor_runs (drop q part)) (take m l) ≡ some (take m l)
  unfolding remove_runs
  all_removed h = ap (λ (t : List (List ℕ)). remove_runs at t (take m l)) (no_more part q h)

  module _ (h : q < length part) (starts : is_passed (get_or part q 0) ≡ false) (fits : m ≤ length l) where
    abbrev run : List ℕ
    run = take (run_end part q - q) (drop q part)

    next : remove_runs at (factor_runs (drop q part)) (take m l) ≡ then_runs at (factor_runs (drop (run_end part q) part)) (remove_run at run (take m l))
    unfolding remove_runs
    next = ap (λ (t : List (List ℕ)). remove_runs at t (take m l)) (factor_here part q h starts)

    here : (k : ℕ) → k < m → (b : Bool) → hit at run l k ≡ b → hit at run (take m l) k ≡ b
    here k g b e = ap (λ (p : ℕ). begins_with (at p) run) (get_or-take m l k 0 g) ∙ e

    pub missing_at : Missed at run l m → remove_runs at (factor_runs (drop q part)) (take m l) ≡ none
    missing_at miss =
        next
        ∙ ap (then_runs at (factor_runs (drop (run_end part q) part)))
        (remove_none at run (take m l) (λ k g. let x : k < m = subst (λ (z : ℕ). k < z) (length-take-le m l fits) g in here k x false (miss.none k x)))

    pub removed_at :
        (j : ℕ) → j < m → hit at run l j ≡ true → Missed at run l j → (l' : List ℕ)
        → take (m - 1) l' ≡ take j l ++ drop (j + 1) (take m l)
        → remove_runs at (factor_runs (drop q part)) (take m l) ≡ remove_runs at (factor_runs (drop (run_end part q) part)) (take (m - 1) l')
    removed_at j b e miss l' g =
        let z : suc j ≡ j + 1 = omega arith in
        next
        ∙ ap (then_runs at (factor_runs (drop (run_end part q) part)))
        (remove_at at run (take m l) j (subst (λ (z : ℕ). j < z) (sym (length-take-le m l fits)) b) (here j b true e) (λ k c. here k (less k c) false (miss.none k c)))
        ∙ ap (remove_runs at (factor_runs (drop (run_end part q) part)))
        (ap₂ (λ (x : List ℕ) (k : ℕ). x ++ drop k (take m l)) (take-take j m l (short j b)) z ∙ sym g)
      where
        less : (k : ℕ) → k < j → k < m
        less k c = omega arith

        short : (a : ℕ) → a < m → a ≤ m
        short a c = omega arith

-- ---- a run that stands at no place

module _ (at : ℕ → List ℕ) (run : List ℕ) where
  -- it stands at none of what is left either
  none_left : (other l r : List ℕ) → remove_run at other l ≡ some r → ((i : ℕ) → i < length l → hit at run l i ≡ false) → (i : ℕ) → i < length r → hit at run r i ≡ false
  unfolding remove_run
  none_left other [] r e h = (let z : ◌≡◌ {A = ℕ} 0 1 = cc in absurd (omega arith))
  none_left other (p ∷ l) r e h = go (begins_with (at p) other) (remove_run at other l) (λ s q. none_left other l s q (λ i g. h (suc i) (omega arith))) e
    where
      go : (b : Bool) (o : Option (List ℕ)) → ((s : List ℕ) → o ≡ some s → (i : ℕ) → i < length s → hit at run s i ≡ false) → picked b l p o ≡ some r
          → (i : ℕ) → i < length r → hit at run r i ≡ false
      go true o k e = (let q : l ≡ r = cc in subst (λ (s : List ℕ). (i : ℕ) → i < length s → hit at run s i ≡ false) q (λ i g. h (suc i) (omega arith)))
      go false none k e = (let z : ◌≡◌ {A = ℕ} 0 1 = cc in absurd (omega arith))
      go false (some s) k e = (let q : p ∷ s ≡ r = cc in subst (λ (s : List ℕ). (i : ℕ) → i < length s → hit at run s i ≡ false) q (cons s (k s refl)))
        where
          cons : (s : List ℕ) → ((i : ℕ) → i < length s → hit at run s i ≡ false) → (i : ℕ) → i < length (p ∷ s) → hit at run (p ∷ s) i ≡ false
          cons s k zero g = h 0 (omega arith)
          cons s k (suc i) g = k i (omega arith)

  none_anywhere :
      (before rest : List (List ℕ)) (l : List ℕ) → ((i : ℕ) → i < length l → hit at run l i ≡ false) → remove_runs at (before ++ (run ∷ rest)) l ≡ none
  unfolding remove_runs
  none_anywhere [] rest l h = ap (then_runs at rest) (remove_none at run l h)
  none_anywhere (other ∷ before) rest l h = go (λ r. none_anywhere before rest r) (remove_run at other l) refl
    where
      go : ((r : List ℕ) → ((i : ℕ) → i < length r → hit at run r i ≡ false) → remove_runs at (before ++ (run ∷ rest)) r ≡ none)
          → (o : Option (List ℕ)) → remove_run at other l ≡ o → then_runs at (before ++ (run ∷ rest)) o ≡ none
      go k none e = refl
      go k (some r) e = k r (none_left other l r e h)

-- the runs before a place
pub record Before (part : List ℕ) (q : ℕ) : Type 0 where
  pub runs : List (List ℕ)
  pub are : factor_runs part ≡ runs ++ factor_runs (drop q part)
  pub starts : q < length part → is_passed (get_or part q 0) ≡ false

pub before_more : (part : List ℕ) (q end next : ℕ) → Before part q → q < length part → end ≡ run_end part q → Seeks part end next → Before part next
before_more part q end next b h e s =
    let run = take (run_end part q - q) (drop q part) in
    record {
      runs = b.runs ++ (run ∷ []);
      are =
          b.are ∙ ap (λ (r : List (List ℕ)). b.runs ++ r) (factor_here part q h (b.starts h) ∙ ap (λ (k : ℕ). run ∷ factor_runs (drop k part)) (sym e) ∙ ap (λ (r : List (List ℕ)). run ∷ r) s.runs)
          ∙ sym (append_assoc b.runs (run ∷ []) (factor_runs (drop next part)));
      starts = s.starts;
    }

pub lacks_here :
    (at : ℕ → List ℕ) (part l : List ℕ) (m q end : ℕ) → Before part q → q < length part → end ≡ run_end part q → m ≤ length l → (i : ℕ) → m ≤ i → Missed at (take (end - q) (drop q part)) l i
    → remove_runs at (factor_runs part) (take m l) ≡ none
lacks_here at part l m q end b h e fits i g miss =
    let run = take (run_end part q - q) (drop q part) in
    let same : take (end - q) (drop q part) ≡ run = ap (λ (k : ℕ). take (k - q) (drop q part)) e in
    ap (λ (r : List (List ℕ)). remove_runs at r (take m l)) (b.are ∙ ap (λ (r : List (List ℕ)). b.runs ++ r) (factor_here part q h (b.starts h)))
    ∙ none_anywhere at run b.runs (factor_runs (drop (run_end part q) part)) (take m l)
    (λ j k.
    let x : j < m = subst (λ (z : ℕ). j < z) (length-take-le m l fits) k in
    ap (λ (p : ℕ). begins_with (at p) run) (get_or-take m l j 0 x) ∙ ap (λ (r : List ℕ). hit at r l j) (sym same) ∙ miss.none j (below j x))
  where
    below : (j : ℕ) → j < m → j < i
    below j x = omega arith

-- ---- what stands after all places stays

pub rest_stays : (a b : List ℕ) (left count : ℕ) → left ≤ count → drop left a ≡ drop left b → drop count a ≡ drop count b
rest_stays a b left count h e =
    let z : left + (count - left) ≡ count = omega arith in
    ap (λ (k : ℕ). drop k a) (sym z) ∙ sym (drop-drop (count - left) left a) ∙ ap (drop (count - left)) e ∙ drop-drop (count - left) left b ∙ ap (λ (k : ℕ). drop k b) z

-- ---- what is left is less

run_fewer : (at : ℕ → List ℕ) (run l r : List ℕ) → remove_run at run l ≡ some r → length r < length l
unfolding remove_run
run_fewer at run [] r e = (let z : ◌≡◌ {A = ℕ} 0 1 = cc in absurd (omega arith))
run_fewer at run (p ∷ l) r e = go (begins_with (at p) run) (remove_run at run l) (λ s. run_fewer at run l s) e
  where
    go : (b : Bool) (o : Option (List ℕ)) → ((s : List ℕ) → o ≡ some s → length s < length l) → picked b l p o ≡ some r → length r < suc (length l)
    go true o i e = (let q : l ≡ r = cc in let z = ap length q in omega arith)
    go false none i e = (let z : ◌≡◌ {A = ℕ} 0 1 = cc in absurd (omega arith))
    go false (some s) i e = (let q : p ∷ s ≡ r = cc in let z = ap length q in let y = i s refl in omega arith)

runs_fewer : (at : ℕ → List ℕ) (runs : List (List ℕ)) (l r : List ℕ) → remove_runs at runs l ≡ some r → length r + length runs ≤ length l
unfolding remove_runs
runs_fewer at [] l r e = (let q : l ≡ r = cc in let z = ap length q in omega arith)
runs_fewer at (run ∷ runs) l r e = go (λ s. runs_fewer at runs s r) (remove_run at run l) refl e
  where
    go : ((s : List ℕ) → remove_runs at runs s ≡ some r → length r + length runs ≤ length s) → (o : Option (List ℕ)) → remove_run at run l ≡ o → then_runs at runs o ≡ some r
        → length r + suc (length runs) ≤ length l
    go i none q e = (let z : ◌≡◌ {A = ℕ} 0 1 = cc in absurd (omega arith))
    go i (some s) q e = (let x = run_fewer at run l s q in let y = i s e in omega arith)

-- ---- again and again

-- a word put at a place stands at the end of those before it
pub put_at_end : (l : List ℕ) (n v : ℕ) → n < length l → take (n + 1) (set l n v) ≡ take n l ++ (v ∷ [])
put_at_end l n v h =
    let k = length-take-le n l (omega arith) in
    ap (λ (x : List ℕ). take (n + 1) (set x n v)) (sym (take-append-drop n l) ∙ ap (λ (x : List ℕ). take n l ++ x) (drop-cons l n 0 h))
    ∙ ap (take (n + 1)) (set_at (take n l) (get_or l n 0) (drop (suc n) l) v n k ∙ sym (append_assoc (take n l) (v ∷ []) (drop (suc n) l)))
    ∙ take_at (take n l ++ (v ∷ [])) (drop (suc n) l) (n + 1) (let j = length-append (take n l) (v ∷ []) in omega arith)

module _ (at : ℕ → List ℕ) (end : ℕ) where
  abbrev next_time : ℕ → List (List ℕ) → List ℕ → Option (List ℕ) → PlacesTaken
  next_time most runs ps o = elim o [ none ↦ record { places = ps; times = 0 } | some r ↦ once_more (take_out_places most at end runs (r ++ (end ∷ []))) ]

  pub unrolled : (most : ℕ) (runs : List (List ℕ)) (ps : List ℕ) → 1 ≤ length runs → take_out_places (suc most) at end runs ps ≡ next_time most runs ps (remove_runs at runs ps)
  unfolding take_out_places
  unrolled most [] ps h = absurd (omega arith)
  unrolled most (run ∷ runs) ps h = refl

  pub never_taken : (most : ℕ) (ps : List ℕ) → take_out_places most at end [] ps ≡ record { places = ps; times = 0 }
  unfolding take_out_places
  never_taken zero ps = refl
  never_taken (suc most) ps = refl

module _ (at : ℕ → List ℕ) (end : ℕ) (runs : List (List ℕ)) (old : List ℕ) (count : ℕ) where
  abbrev out : ℕ → List ℕ → PlacesTaken
  out most ps = take_out_places most at end runs ps

  abbrev goal : PlacesTaken
  goal = out (2 * count) (take count old)

  pub record Taking (new : List ℕ) (left times : ℕ) : Type 0 where
    pub same : length new ≡ length old
    pub fewer : left ≤ count
    pub most : times ≤ 2 * count
    pub room : count + count ≤ length old
    pub some_run : 1 ≤ length runs
    pub yet : (goal.places ≡ (out (2 * count - times) (take left new)).places) × (goal.times ≡ times + (out (2 * count - times) (take left new)).times)

  pub taking_starts : count + count ≤ length old → 1 ≤ length runs → Taking old count 0
  taking_starts h some_run =
      let z : 2 * count - 0 ≡ 2 * count = omega arith in
      let e : out (2 * count - 0) (take count old) ≡ goal = ap (λ (k : ℕ). out k (take count old)) z in
      record {
        same = refl;
        fewer = omega arith;
        most = omega arith;
        room = h;
        some_run = some_run;
        yet = (sym (ap (λ (q : PlacesTaken). q.places) e), let x = ap (λ (q : PlacesTaken). q.times) e in omega arith);
      }

  step : {new : List ℕ} {left times : ℕ} → Taking new left times → times < 2 * count → (o : Option (List ℕ)) → remove_runs at runs (take left new) ≡ o
      → out (2 * count - times) (take left new) ≡ next_time at end (2 * count - (times + 1)) runs (take left new) o
  step {new} {left} {times} t h o e =
      let z : 2 * count - times ≡ suc (2 * count - (times + 1)) = omega arith in
      ap (λ (k : ℕ). out k (take left new)) z ∙ unrolled at end (2 * count - (times + 1)) runs (take left new) t.some_run
      ∙ ap (next_time at end (2 * count - (times + 1)) runs (take left new)) e

  -- all were there once more
  pub taking_turns :
      {new : List ℕ} {left times : ℕ} → Taking new left times → times < 2 * count → (mid : List ℕ) (n : ℕ) → length mid ≡ length old → n < left
      → remove_runs at runs (take left new) ≡ some (take n mid) → Taking (set mid n end) (n + 1) (times + 1)
  unfolding once_more
  taking_turns {new} {left} {times} t h mid n l f e =
      let s = step t h (some (take n mid)) e in
      let p = put_at_end mid n end (omega (arith, t.fewer, t.room)) in
      let r = out (2 * count - (times + 1)) (take (n + 1) (set mid n end)) in
      let u : out (2 * count - (times + 1)) (take n mid ++ (end ∷ [])) ≡ r = ap (out (2 * count - (times + 1))) (sym p) in
      record {
        same = length-set mid n end ∙ l;
        fewer = omega (arith, t.fewer);
        most = omega arith;
        room = t.room;
        some_run = t.some_run;
        yet = (
          t.yet.0 ∙ ap (λ (q : PlacesTaken). q.places) s ∙ ap (λ (q : PlacesTaken). q.places) u,
          let x : (out (2 * count - times) (take left new)).times ≡ suc r.times = ap (λ (q : PlacesTaken). q.times) s ∙ ap (λ (q : PlacesTaken). suc q.times) u in
              let y = t.yet.1 in
              omega arith,
        );
      }

  -- they were not
  pub taking_stops :
      {new : List ℕ} {left times : ℕ} → Taking new left times → times < 2 * count → remove_runs at runs (take left new) ≡ none
      → (take left new ≡ goal.places) × (times ≡ goal.times)
  taking_stops {new} {left} {times} t h e =
      let s = step t h none e in (
        sym (t.yet.0 ∙ ap (λ (q : PlacesTaken). q.places) s),
        let x : (out (2 * count - times) (take left new)).times ≡ 0 = ap (λ (q : PlacesTaken). q.times) s in
            let y = t.yet.1 in
            omega arith,
      )

  -- as often as may be
  pub taking_ends : {new : List ℕ} {left times : ℕ} → Taking new left times → 2 * count ≤ times → (take left new ≡ goal.places) × (times ≡ goal.times)
  unfolding take_out_places
  taking_ends {new} {left} {times} t h =
      let z : 2 * count - times ≡ 0 = omega arith in
      let s = ap (λ (k : ℕ). out k (take left new)) z in (
        sym (t.yet.0 ∙ ap (λ (q : PlacesTaken). q.places) s),
        let x : (out (2 * count - times) (take left new)).times ≡ 0 = ap (λ (q : PlacesTaken). q.times) s in
            let y = t.yet.1 in
            omega arith,
      )

-- ---- the ends of `take_out`

removes_left : (o : Option (List ℕ)) (new : List ℕ) (r : Maybe ℕ) (n : ℕ) → r ≡ Some n → Removes o new r → (o ≡ some (take n new)) × (n ≤ length new)
removes_left o new r n e h = subst (Removes o new) e h

removes_missing : (o : Option (List ℕ)) (new : List ℕ) (r : Maybe ℕ) → r ≡ None → Removes o new r → o ≡ none
removes_missing o new r e h = subst (Removes o new) e h

-- l is what stood in front, kept behind itself; then it may be removed from
pub record Kept (left : ℕ) (l kept : List ℕ) : Type 0 where
  pub behind : take left (drop left kept) ≡ take left l
  pub front : take left kept ≡ take left l
  pub same : length kept ≡ length l

pub keeps : (left : ℕ) (l kept : List ℕ) → take left (drop left kept) ≡ take left l → take left kept ≡ take left l → length kept ≡ length l → Kept left l kept
keeps left l kept a b c = record { behind = a; front = b; same = c }

module _ (ws part : List ℕ) (name : ℕ) (old : List ℕ) (count : ℕ) where
  abbrev at : ℕ → List ℕ
  at = words_at ws name

  abbrev runs : List (List ℕ)
  runs = factor_runs part

  abbrev pub Turning : List ℕ → ℕ → ℕ → Type 0
  Turning = Taking at (length ws) runs old count

  pub starts : (q : ℕ) → Seeks part 0 q → (q ≡ length part → ⊥) → count + count ≤ length old → Turning old count 0
  starts q s n h =
      let l : q < length part = omega (arith, s.within, n) in
      taking_starts at (length ws) runs old count h (let x = ap length (s.runs ∙ factor_here part q l (s.starts l)) in omega arith)

  pub no_factor : (q : ℕ) → Seeks part 0 q → q ≡ length part → count ≤ length old → 2 * count ≤ length old → Takes ws part name old count old (Some (record { left = count; times = 0 }))
  no_factor q s e f h =
      let x : runs ≡ [] = s.runs ∙ no_more part q (omega arith) in
      let y = ap (λ (r : List (List ℕ)). take_out_places (2 * count) at (length ws) r (take count old)) x ∙ never_taken at (length ws) (2 * count) (take count old) in
      (h, (sym (ap (λ (q : PlacesTaken). q.places) y), f, sym (ap (λ (q : PlacesTaken). q.times) y)))

  module _ {l : List ℕ} {left times : ℕ} (t : Turning l left times) (h : times < 2 * count) (kept : List ℕ) (k : Kept left l kept) where
    -- how many are left
    pub left_less : (new : List ℕ) → length new ≡ length kept → (r : Maybe ℕ) (n : ℕ) → r ≡ Some n → Removes (remove_runs at runs (take left kept)) new r → n < left
    left_less new same r n e m =
        let x = removes_left (remove_runs at runs (take left kept)) new r n e m in
        let f = runs_fewer at runs (take left kept) (take n new) x.0 in
        let a = length-take-le n new x.1 in
        let b = length-take-le left kept (omega (arith, k.same, t.same, t.fewer, t.room)) in
        omega (arith, t.some_run)

    pub turns :
        (new : List ℕ) → length new ≡ length kept → (r : Maybe ℕ) (n : ℕ) → r ≡ Some n → Removes (remove_runs at runs (take left kept)) new r
        → Turning (set new n (length ws)) (n + 1) (times + 1)
    turns new same r n e m =
        let x = removes_left (remove_runs at runs (take left kept)) new r n e m in
        taking_turns at (length ws) runs old count t h new n (same ∙ k.same ∙ t.same) (left_less new same r n e m) (ap (remove_runs at runs) (sym k.front) ∙ x.0)

    pub stops :
        (new back : List ℕ) → length new ≡ length kept → length back ≡ length new → (r : Maybe ℕ) → r ≡ None → Removes (remove_runs at runs (take left kept)) new r
        → drop left new ≡ drop left kept → take left back ≡ take left (drop left new) → Takes ws part name old count back (Some (record { left = left; times = times }))
    stops new back same again r e m rest b =
        let x = removes_missing (remove_runs at runs (take left kept)) new r e m in
        let s = taking_stops at (length ws) runs old count t h (ap (remove_runs at runs) (sym k.front) ∙ x) in
        (omega (arith, t.room), (b ∙ ap (take left) rest ∙ k.behind ∙ s.0, omega (arith, t.same, t.fewer, t.room, k.same), s.1))

  -- one is missing, and nothing was touched
  pub lacks :
      {l : List ℕ} {left times : ℕ} → Turning l left times → times < 2 * count → (b : Bool) → b ≡ true → Lacks (remove_runs at runs (take left l)) b
      → Takes ws part name old count l (Some (record { left = left; times = times }))
  lacks {l} {left} t h b q e =
      let s = taking_stops at (length ws) runs old count t h (subst (Lacks (remove_runs at runs (take left l))) q e) in
      (omega (arith, t.room), (s.0, omega (arith, t.same, t.fewer, t.room), s.1))

  pub ends : {l : List ℕ} {left times : ℕ} → Turning l left times → 2 * count ≤ times → Takes ws part name old count l (Some (record { left = left; times = times }))
  ends t h =
      let s = taking_ends at (length ws) runs old count t h in
      (omega (arith, t.room), (s.0, omega (arith, t.same, t.fewer, t.room), s.1))

-- ---- the name's places at the end

module _ (limit : ℕ) where
  pub after_most : (l : List ℕ) → names_after limit l ≤ length l
  unfolding names_after
  after_most [] = omega arith
  after_most (p ∷ l) = go (eqb (names_after limit l) (length l) && leb limit p) (after_most l)
    where
      go : (b : Bool) → names_after limit l ≤ length l → elim b [ true ↦ suc (length l) | false ↦ names_after limit l ] ≤ suc (length l)
      go true h = omega arith
      go false h = omega arith

  -- one more, where all after it are the name's
  pub after_more : (p : ℕ) (l : List ℕ) → names_after limit l ≡ length l → limit ≤ p → names_after limit (p ∷ l) ≡ suc (length l)
  unfolding names_after
  after_more p l e h =
      ap₂ (λ (a b : Bool). elim (a && b) as (λ _. ℕ) [ true ↦ suc (length l) | false ↦ names_after limit l ]) (eq-eqb (names_after limit l) (length l) e) (is_true (leb limit p) (le→leb limit p h))

  -- none before one that isn't
  pub after_other : (p : ℕ) (l : List ℕ) → p < limit → names_after limit (p ∷ l) ≡ names_after limit l
  unfolding names_after
  after_other p l h =
      ap (λ (b : Bool). elim (eqb (names_after limit l) (length l) && b) as (λ _. ℕ) [ true ↦ suc (length l) | false ↦ names_after limit l ]) (lt_leb p h)
      ∙ go (eqb (names_after limit l) (length l))
    where
      lt_leb : (p : ℕ) → p < limit → leb limit p ≡ false
      lt_leb p h = by (leb limit p) (leb→le limit p)
        where
          by : (b : Bool) → (T b → limit ≤ p) → b ≡ false
          by true f = (let x = f tt in absurd (omega arith))
          by false f = refl

      go : (a : Bool) → elim (a && false) as (λ _. ℕ) [ true ↦ suc (length l) | false ↦ names_after limit l ] ≡ names_after limit l
      go true = refl
      go false = refl

  -- what stands before doesn't count where one after it isn't the name's
  pub after_drop : (l : List ℕ) (j : ℕ) → names_after limit (drop j l) < length (drop j l) → names_after limit l ≡ names_after limit (drop j l)
  unfolding names_after
  after_drop l zero h = refl
  after_drop [] (suc j) h = refl
  after_drop (p ∷ l) (suc j) h =
      let i = after_drop l j h in
      let d = length-drop j l in
      ap (λ (b : Bool). elim (b && leb limit p) as (λ _. ℕ) [ true ↦ suc (length l) | false ↦ names_after limit l ]) (ne_eqb (names_after limit l) (length l) (λ e. omega arith)) ∙ i

  -- a scan from the end: all from k on are the name's
  pub scan_starts : (l : List ℕ) → names_after limit (drop (length l) l) ≡ length l - length l
  unfolding names_after
  scan_starts l = (let h : length l ≤ length l = omega arith in ap (names_after limit) (drop_of_length-le l h)) ∙ (let z : 0 ≡ length l - length l = omega arith in z)

  pub scan_turns : (l : List ℕ) (k : ℕ) → 0 < k → k ≤ length l → names_after limit (drop k l) ≡ length l - k → limit ≤ get_or l (k - 1) 0 → names_after limit (drop (k - 1) l) ≡ length l - (k - 1)
  scan_turns l k p h e g =
      let z : suc (k - 1) ≡ k = omega arith in
      let d = length-drop k l in
      ap (names_after limit) (drop-cons l (k - 1) 0 (omega arith) ∙ ap (λ (j : ℕ). get_or l (k - 1) 0 ∷ drop j l) z) ∙ after_more (get_or l (k - 1) 0) (drop k l) (e ∙ sym d) g
      ∙ (let y : suc (length (drop k l)) ≡ length l - (k - 1) = omega arith in y)

  pub scan_stops : (l : List ℕ) (k : ℕ) → 0 < k → k ≤ length l → names_after limit (drop k l) ≡ length l - k → get_or l (k - 1) 0 < limit → length l - k ≡ names_after limit l
  scan_stops l k p h e g =
      let z : suc (k - 1) ≡ k = omega arith in
      let d = length-drop k l in
      let c = length-drop (k - 1) l in
      let x : names_after limit (drop (k - 1) l) ≡ names_after limit (drop k l) =
      ap (names_after limit) (drop-cons l (k - 1) 0 (omega arith) ∙ ap (λ (j : ℕ). get_or l (k - 1) 0 ∷ drop j l) z) ∙ after_other (get_or l (k - 1) 0) (drop k l) g in
      sym (after_drop l (k - 1) (omega arith) ∙ x ∙ e)

  pub scan_ends : (l : List ℕ) (k : ℕ) → k ≡ 0 → names_after limit (drop k l) ≡ length l - k → length l ≡ names_after limit l
  scan_ends l k z e = (let y : length l ≡ length l - k = omega arith in y) ∙ sym e ∙ ap (λ (j : ℕ). names_after limit (drop j l)) z
