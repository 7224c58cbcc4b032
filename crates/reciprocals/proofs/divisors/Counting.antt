-- How many of some places have a tree, one by one, and what the counts decide. Assumes nothing.
use Rattle.std.specs.Prelude.{Option, unwrap_or}
use Prim.Native.Nat.{ℕ, suc, ◌+◌, ◌≤◌, ◌<◌}
use native.Mathlib.Omega.{arith}
use mathlib.Core.Path.{◌≡◌, refl, sym, ◌∙◌, ap}
use mathlib.Core.Bool.{Bool, true, false, not, ◌&&◌}
use mathlib.Core.Option.{some}
use mathlib.Core.List.{List, [], ◌∷◌}
use borrow.Author.Tests.{le-leb, lt-leb}
use lib.ListN.{length, get_or, take, drop, drop_of_length-le}
use lib.Seq.{drop-cons}
use lib.Dec.{leb}
use Rattle.spec_tree.specs.Tree.{eq_tree}
use Rattle.spec_tree.specs.Tokens.{same_at}
use Rattle.words.specs.tokens.Answers.{same_answer}
use Rattle.words.proofs.tokens.Complete.{same_is}
use Rattle.words.specs.words.Words.{Complete}
use Rattle.laws.specs.positions.Places.{numbered_at, among_places, count_places}
use Rattle.reciprocals.specs.divisors.Places.{chosen_at}
use Rattle.spec_tree.proofs.Logic.{and_false}

-- ---- whether two trees are equal

answered : (b : Bool) → unwrap_or (same_answer (some b)) false ≡ b
unfolding same_answer
answered true = refl
answered false = refl

module _ (ws : List ℕ) (complete : Complete ws) (i j : ℕ) (hi : i < length ws) (hj : j < length ws) where
  is : same_answer (same_at ws i j) ≡ same_answer (some (eq_tree (numbered_at ws i) (numbered_at ws j)))
  unfolding numbered_at
  is = same_is ws complete.0 complete.1 i j hi hj

  pub equal_so : (r : Option Bool) (b : Bool) → r ≡ same_answer (same_at ws i j) → b ≡ unwrap_or r false → b ≡ eq_tree (numbered_at ws i) (numbered_at ws j)
  equal_so r b e f = f ∙ (ap (λ (o : Option Bool). unwrap_or o false) (e ∙ is) ∙ answered (eq_tree (numbered_at ws i) (numbered_at ws j)))

-- ---- one by one

module _ (ws list : List ℕ) (q : ℕ) where
  pub record Counting (count k : ℕ) : Type 0 where
    pub within : k ≤ length list
    pub few : count ≤ k
    pub total : count + count_places ws q (drop k list) ≡ count_places ws q list

  pub counting_starts : Counting 0 0
  counting_starts = record { within = omega arith; few = omega arith; total = omega arith }

  module _ {count k : ℕ} (s : Counting count k) (h : k < length list) where
    here : (b : Bool) → eq_tree (numbered_at ws (get_or list k 0)) (numbered_at ws q) ≡ b
        → count_places ws q (drop k list) ≡ elim b as (λ _. ℕ) [ true ↦ suc (count_places ws q (drop (k + 1) list)) | false ↦ count_places ws q (drop (k + 1) list) ]
    unfolding count_places
    here b e =
        let i : suc k ≡ k + 1 = omega arith in
        ap (count_places ws q) (drop-cons list k 0 h ∙ ap (λ (m : ℕ). get_or list k 0 ∷ drop m list) i)
        ∙ ap (λ (c : Bool). elim c as (λ _. ℕ) [ true ↦ suc (count_places ws q (drop (k + 1) list)) | false ↦ count_places ws q (drop (k + 1) list) ]) e

    pub counts : true ≡ eq_tree (numbered_at ws (get_or list k 0)) (numbered_at ws q) → Counting (count + 1) (k + 1)
    counts e = record { within = omega arith; few = omega (arith, s.few); total = omega (arith, s.total, here true (sym e)) }

    pub passes : false ≡ eq_tree (numbered_at ws (get_or list k 0)) (numbered_at ws q) → Counting count (k + 1)
    passes e = record { within = omega arith; few = omega (arith, s.few); total = omega (arith, s.total, here false (sym e)) }

  none_left : (k : ℕ) → length list ≤ k → count_places ws q (drop k list) ≡ 0
  unfolding count_places
  none_left k h = ap (count_places ws q) (drop_of_length-le list h)

  pub counting_ends : {count k : ℕ} → Counting count k → length list ≤ k → count ≡ count_places ws q list
  counting_ends {count} {k} s h = omega (arith, s.total, none_left k h)

-- ---- what the counts decide

among_step : (b c : Bool) (n : ℕ) → c ≡ leb 1 n → elim b as (λ _. Bool) [ true ↦ true | false ↦ c ] ≡ leb 1 (elim b as (λ _. ℕ) [ true ↦ suc n | false ↦ n ])
among_step true c n e = sym (le-leb 1 (suc n) (omega arith))
among_step false c n e = e

pub among_counted : (ws : List ℕ) (q : ℕ) (l : List ℕ) → among_places ws q l ≡ leb 1 (count_places ws q l)
unfolding among_places count_places
among_counted ws q [] = refl
among_counted ws q (r ∷ l) = among_step (eq_tree (numbered_at ws r) (numbered_at ws q)) (among_places ws q l) (count_places ws q l) (among_counted ws q l)

module _ (ws all out : List ℕ) (i n : ℕ) where
  abbrev tree_here : ℕ
  tree_here = get_or all i 0

  pub stood_before : n ≡ count_places ws (get_or all i 0) (take i all) → 0 < n → false ≡ chosen_at ws all out i
  unfolding chosen_at
  stood_before e h =
      let a : among_places ws tree_here (take i all) ≡ true =
      among_counted ws tree_here (take i all) ∙ le-leb 1 (count_places ws tree_here (take i all)) (omega (arith, e, h)) in
      rw a

  pub stands_once : n ≡ count_places ws (get_or all i 0) all → n < 2 → false ≡ chosen_at ws all out i
  unfolding chosen_at
  stands_once e h =
      sym (ap (λ (b : Bool). not (among_places ws tree_here (take i all)) && (b && leb 1 (count_places ws tree_here out))) (lt-leb 2 (count_places ws tree_here all) (omega (arith, e, h)))
      ∙ and_false (not (among_places ws tree_here (take i all))))

  pub last_test :
      (m k : ℕ) → n ≡ count_places ws (get_or all i 0) (take i all) → n ≤ 0 → m ≡ count_places ws (get_or all i 0) all → 2 ≤ m
      → k ≡ count_places ws (get_or all i 0) out → leb 1 k ≡ chosen_at ws all out i
  unfolding chosen_at
  last_test m k e h f g d =
      let a : among_places ws tree_here (take i all) ≡ false =
      among_counted ws tree_here (take i all) ∙ lt-leb 1 (count_places ws tree_here (take i all)) (omega (arith, e, h)) in
      rw (a, le-leb 2 (count_places ws tree_here all) (omega (arith, f, g))) (ap (leb 1) d)
