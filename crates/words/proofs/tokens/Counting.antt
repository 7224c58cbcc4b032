-- What the loops of `count_trees`, `end_of` and `tree_end` keep, with no code in it. Assumes nothing.
use Rattle.std.specs.Prelude.{Some, None}
use Prim.Native.Nat.{ℕ, suc, ◌+◌, ◌-◌, ◌≤◌, ◌<◌}
use native.Mathlib.Omega.{arith}
use mathlib.Core.Path.{◌≡◌, refl, sym, ◌∙◌, ap}
use mathlib.Core.Bool.{Bool, true, false}
use mathlib.Core.Option.{Option, none, some}
use borrow.Author.Tests.{ltb-true, ltb-false}
use lib.Dec.{ltb}
use mathlib.Core.List.{List, ◌∷◌, reverse}
use Rattle.std.proofs.lemmas.List.{length-reverse, get_or-reverse, get_or_default}
use lib.ListN.{length, get_or, drop, length-drop, drop_of_length-le}
use lib.Seq.{drop-cons, drop-length}
use Rattle.spec_tree.specs.Tokens.{takes, trees_in, words_of, run_at}
use Rattle.spec_tree.proofs.TokenLaws.{complete_cons, broken_here, broken_end, complete_within, words_none, words_short}
use Rattle.words.specs.tokens.Answers.{count_answer, end_answer, There}
use Rattle.spec_tree.proofs.Lists.{place_before}

-- ---- counting from the right

pub record Counting (ws : List ℕ) (i n : ℕ) : Type 0 where
  pub inside : i ≤ length ws
  pub here : trees_in (drop i ws) ≡ some n
  pub few : n + i ≤ length ws

counting : (ws : List ℕ) (i n : ℕ) → i ≤ length ws → trees_in (drop i ws) ≡ some n → Counting ws i n
counting ws i n h e = record { inside = h; here = e; few = omega (arith, complete_within (drop i ws) n e, length-drop i ws) }

pub counting_starts : (ws : List ℕ) → Counting ws (length ws) 0
unfolding trees_in
counting_starts ws = counting ws (length ws) 0 (omega arith) (rw (drop-length ws))

pub counting_turns : {ws : List ℕ} {i n : ℕ} → Counting ws i n → 0 < i → takes (get_or ws (i - 1) 0) ≤ n → Counting ws (i - 1) (n - takes (get_or ws (i - 1) 0) + 1)
counting_turns {ws} {i} {n} k h l =
    let w = get_or ws (i - 1) 0 in
    let e : suc (n - takes w) ≡ n - takes w + 1 = omega arith in
    counting ws (i - 1) (n - takes w + 1) (omega (arith, k.inside)) (rw (place_before ws i h k.inside) (complete_cons w (drop i ws) n k.here l ∙ ap some e))

pub counting_stops : {ws : List ℕ} {i n : ℕ} → Counting ws i n → 0 < i → n < takes (get_or ws (i - 1) 0) → None ≡ count_answer (trees_in ws)
unfolding count_answer
counting_stops {ws} {i} {n} k h l =
    rw (broken_end (i - 1) ws (rw (place_before ws i h k.inside) (broken_here (get_or ws (i - 1) 0) (drop i ws) n k.here l)))

pub counting_ends : {ws : List ℕ} {i n : ℕ} → Counting ws i n → i ≤ 0 → Some n ≡ count_answer (trees_in ws)
unfolding count_answer
counting_ends {ws} {i} {n} k h =
    let z : i ≡ 0 = omega arith in
    let e : trees_in ws ≡ some n = rw z at k.here in
    rw e

-- the place of the word that comes after k others, from the right
pub from_the_right : (ws : List ℕ) (k w : ℕ) → (k < length (reverse ws)) × (w ≡ get_or (reverse ws) k w) → (k < length ws) × (w ≡ get_or ws (length ws - k - 1) 0)
from_the_right ws k w h =
    let l : k < length ws = omega (arith, h.0, length-reverse ws) in
    let e : length ws - 1 - k ≡ length ws - k - 1 = omega arith in
    (l, h.1 ∙ (get_or-reverse ws k w l ∙ (ap (λ (i : ℕ). get_or ws i w) e ∙ get_or_default ws (length ws - k - 1) w 0 (omega arith))))

-- ---- to the end of a tree

pub record Ending (ws : List ℕ) (at i left : ℕ) : Type 0 where
  pub inside : i ≤ length ws
  pub answer : end_answer i (words_of (drop i ws) left) ≡ end_answer at (run_at ws at)

pub ending_starts : {ws : List ℕ} {at : ℕ} → at ≤ length ws → Ending ws at at 1
unfolding run_at
ending_starts h = record { inside = h; answer = refl }

pub ending_past : (ws : List ℕ) (at : ℕ) → length ws < at → None ≡ end_answer at (run_at ws at)
unfolding run_at end_answer words_of
ending_past ws at h = rw (drop_of_length-le ws {i = at} (omega arith))

pub ending_stops : {ws : List ℕ} {at i left : ℕ} → Ending ws at i left → length ws - i < left → None ≡ end_answer at (run_at ws at)
unfolding end_answer
ending_stops {ws} {at} {i} {left} k h = rw (words_short (drop i ws) left (omega (arith, length-drop i ws))) at k.answer

step : (at i : ℕ) (o : Option ℕ) → end_answer i (elim o [ none ↦ none | some m ↦ some (suc m) ]) ≡ end_answer (i + 1) o
unfolding end_answer
step at i none = refl
step at i (some m) = let e : i + suc m ≡ i + 1 + m = omega arith in ap Some e

words_cons : (w : ℕ) (ws : List ℕ) (n : ℕ) → words_of (w ∷ ws) (suc n) ≡ elim (words_of ws (n + takes w)) [ none ↦ none | some m ↦ some (suc m) ]
unfolding words_of
words_cons w ws n = refl

turn : (ws : List ℕ) (at i n : ℕ) → i < length ws → end_answer i (words_of (drop i ws) (suc n)) ≡ end_answer (i + 1) (words_of (drop (i + 1) ws) (n + takes (get_or ws i 0)))
turn ws at i n l =
    let d : i + 1 ≡ suc i = omega arith in
    rw (drop-cons ws i 0 l, words_cons (get_or ws i 0) (drop (suc i) ws) n) (step at i (words_of (drop (suc i) ws) (n + takes (get_or ws i 0))) ∙ ap (λ (k : ℕ). end_answer (i + 1) (words_of (drop k ws) (n + takes (get_or ws i 0)))) (sym d))

pub ending_turns : {ws : List ℕ} {at i left : ℕ} → Ending ws at i left → 0 < left → i < length ws → Ending ws at (i + 1) (left - 1 + takes (get_or ws i 0))
ending_turns {ws} {at} {i} {left} k h l =
    let e : left ≡ suc (left - 1) = omega arith in
    let before = ap (λ (n : ℕ). end_answer i (words_of (drop i ws) n)) e in
    record { inside = omega arith; answer = sym (turn ws at i (left - 1) l) ∙ (sym before ∙ k.answer) }

-- no words are left, or the walk began past them
pub ending_none : {ws : List ℕ} {at i left : ℕ} → (at ≤ length ws → Ending ws at i left) → 0 < left → length ws ≤ i → None ≡ end_answer at (run_at ws at)
ending_none {ws} {at} {i} {left} k p h = go (ltb (length ws) at) refl
  where
    go : (b : Bool) → ltb (length ws) at ≡ b → None ≡ end_answer at (run_at ws at)
    go true e = ending_past ws at (ltb-true (length ws) at e)
    go false e = ending_stops (k (ltb-false (length ws) at e)) (omega (arith, p, h))

-- the next turn of a walk from `at`, which need not be among the words
pub ending_next :
    {ws : List ℕ} {at i left : ℕ} (r : ℕ) → (at ≤ length ws → Ending ws at i left) → at ≤ i → i < length ws → 0 < left → r ≡ takes (get_or ws i 0)
    → Ending ws at (i + 1) (left - 1 + r)
ending_next {ws} {at} {i} {left} r k h l p e = rw e (ending_turns (k (omega arith)) p l)

pub ending_ends : {ws : List ℕ} {at i left : ℕ} → Ending ws at i left → left ≤ 0 → Some i ≡ end_answer at (run_at ws at)
unfolding end_answer
ending_ends {ws} {at} {i} {left} k h =
    let z : left ≡ 0 = omega arith in
    let e : words_of (drop i ws) left ≡ some 0 = rw z (words_none (drop i ws)) in
    let p : Some (i + 0) ≡ end_answer at (run_at ws at) = rw e at k.answer in
    let q : i ≡ i + 0 = omega arith in
    ap Some q ∙ p

-- ---- where the tree is there

there_whole : (ws : List ℕ) (at : ℕ) → There ws at → None ≡ end_answer at (run_at ws at) → ⊥
unfolding end_answer
there_whole ws at t e =
    let f : None ≡ Some (at + t.0) = e ∙ ap (end_answer at) t.1 in
    let z : ◌≡◌ {A = ℕ} 0 1 = cc in
    omega arith

pub there_starts : {ws : List ℕ} {at : ℕ} → There ws at → Ending ws at at 1
there_starts {ws} {at} t =
    let n : length ws < at → ⊥ = λ h. there_whole ws at t (ending_past ws at h) in
    ending_starts (omega arith)

-- as many words as trees are still to come
pub there_room : {ws : List ℕ} {at i left : ℕ} → There ws at → Ending ws at i left → left ≤ length ws - i
there_room {ws} {at} {i} {left} t k =
    let n : length ws - i < left → ⊥ = λ h. there_whole ws at t (ending_stops k h) in
    omega arith
