-- What the parts of `divisors_to_bind` leave, and what it answers. Assumes nothing.
use Prim.Native.Nat.{ℕ, suc, ◌≤◌, ◌<◌}
use native.Mathlib.Omega.{arith}
use mathlib.Core.Path.{◌≡◌, refl, sym, ◌∙◌, ap, ap₂, subst}
use mathlib.Core.Bool.{Bool, true, false, ◌&&◌}
use mathlib.Core.List.{List, [], ◌∷◌, ◌++◌}
use borrow.Author.Tests.{lt-leb}
use lib.ListN.{length, take, drop, length-append}
use lib.Seq.{take_at}
use lib.Dec.{leb}
use Rattle.spec_tree.specs.Tree.{eq_tree}
use Rattle.words.specs.words.Words.{Complete}
use Rattle.reciprocals.specs.divisors.Listing.{all_places}
use Rattle.laws.specs.positions.Places.{numbered_at, count_places, distinct_places, shared_places, sort_places, divisors_to_bind}
use Rattle.reciprocals.specs.divisors.Places.{Inside, Sized, with_sizes, Listed, outside_places, chosen_places}
use Rattle.reciprocals.proofs.divisors.Sizes.{inside_more, with_long, with_kept, with_there}
use Rattle.reciprocals.proofs.divisors.Within.{divisors_inside, divisors_few, chosen_inside, sort_length}

-- ---- what `list` leaves

pub listed_all :
    (ws old : List ℕ) (n : ℕ) (out : List ℕ) → (n ≡ length (all_places ws)) × (out ≡ all_places ws ++ drop (length (all_places ws)) old)
    → Listed (all_places ws) old n out
listed_all ws old n out e = record { count = e.0; places = e.1 }

-- the first places are the list
pub front_is : {new old : List ℕ} {n : ℕ} {out : List ℕ} → Listed new old n out → take n out ≡ new
front_is {new} {old} {n} {out} k = ap (take n) k.places ∙ take_at new (drop (length new) old) n (sym k.count)

-- as many as are counted, and all there
pub listed_room : {new old : List ℕ} {n : ℕ} {out : List ℕ} → Listed new old n out → n ≤ length out
listed_room {new} {old} {n} {out} k = omega (arith, k.count, ap length k.places, length-append new (drop (length new) old))

pub front_long : {new old : List ℕ} {n : ℕ} {out : List ℕ} → Listed new old n out → n ≡ length (take n out)
front_long {new} {old} {n} {out} k = k.count ∙ ap length (sym (front_is k))

pub all_few : (ws : List ℕ) → length (all_places ws) ≤ length ws
unfolding all_places
all_few ws = divisors_few ws (λ j. true) (length ws)

pub all_inside : (ws : List ℕ) → Complete ws → Inside (length ws) (all_places ws)
unfolding all_places
all_inside ws complete = divisors_inside ws complete (λ j. true) (length ws) (omega arith)

pub outside_few : (ws : List ℕ) (scoped : Bool) → length (outside_places ws scoped) ≤ length ws
unfolding outside_places
outside_few ws scoped = divisors_few ws _ (length ws)

pub outside_inside : (ws : List ℕ) (scoped : Bool) → Complete ws → Inside (length ws) (outside_places ws scoped)
unfolding outside_places
outside_inside ws scoped complete = divisors_inside ws complete _ (length ws) (omega arith)

-- ---- the lists that are chosen from

module _ (ws : List ℕ) (scoped : Bool) (complete : Complete ws) {n m : ℕ} {old all old' out : List ℕ} (a : Listed (all_places ws) old n all) (b : Listed (outside_places ws scoped) old' m out) where
  pub first_few : n ≤ length ws
  first_few = omega (arith, a.count, all_few ws)

  pub second_few : m ≤ length ws
  second_few = omega (arith, b.count, outside_few ws scoped)

  pub first_inside : Inside (length ws) (take n all)
  first_inside = subst (Inside (length ws)) (sym (front_is a)) (all_inside ws complete)

  pub second_inside : Inside (length ws) (take m out)
  second_inside = subst (Inside (length ws)) (sym (front_is b)) (outside_inside ws scoped complete)

  -- the sizes of both are put in one table
  pub both_sized :
      (old mid new : List ℕ) → length ws ≤ length old → mid ≡ with_sizes ws (take n all) old → new ≡ with_sizes ws (take m out) mid
      → Sized ws new (take n all) × Sized ws new (take m out)
  both_sized old mid new h e f =
      let long : length mid ≡ length old = ap length e ∙ with_long ws (take n all) old in
      let one = inside_more (length ws) (length old) h (take n all) first_inside in
      let two = inside_more (length ws) (length mid) (omega (arith, h, long)) (take m out) second_inside in
      let s : Sized ws mid (take n all) = subst (λ (l : List ℕ). Sized ws l (take n all)) (sym e) (with_there ws (take n all) old one) in
      subst (λ (l : List ℕ). Sized ws l (take n all) × Sized ws l (take m out)) (sym f) (with_kept ws (take m out) mid (take n all) two s, with_there ws (take m out) mid two)

  pub gathered :
      {places left : List ℕ} {r : ℕ} → Listed (chosen_places ws (take n all) (take m out)) places r left
      → Listed (chosen_places ws (all_places ws) (outside_places ws scoped)) places r left
  gathered {places} {left} {r} k =
      subst (λ (l : List ℕ). Listed l places r left) (ap₂ (chosen_places ws) (front_is a) (front_is b)) k

module _ (ws : List ℕ) (scoped : Bool) where
  pub chosen_there :
      {old out : List ℕ} {n : ℕ} → Complete ws → Listed (chosen_places ws (all_places ws) (outside_places ws scoped)) old n out → Inside (length ws) (take n out)
  chosen_there {old} {out} {n} complete k =
      subst (Inside (length ws)) (sym (front_is k)) (chosen_inside ws (all_places ws) (outside_places ws scoped) (all_inside ws complete))

-- ---- fewer than two divisions

module _ (ws : List ℕ) where
  counted_few : (q : ℕ) (l : List ℕ) → count_places ws q l ≤ length l
  unfolding count_places
  counted_few q [] = omega arith
  counted_few q (r ∷ l) = go (eq_tree (numbered_at ws r) (numbered_at ws q)) (counted_few q l)
    where
      go : (b : Bool) → count_places ws q l ≤ length l → elim b as (λ _. ℕ) [ true ↦ suc (count_places ws q l) | false ↦ count_places ws q l ] ≤ suc (length l)
      go true h = omega arith
      go false h = omega arith

  none_shared : (all out l : List ℕ) → length all < 2 → shared_places ws all out l ≡ []
  unfolding shared_places
  none_shared all out [] h = refl
  none_shared all out (q ∷ l) h =
      ap (λ (b : Bool). elim (b && leb 1 (count_places ws q out)) as (λ _. List ℕ) [ true ↦ q ∷ shared_places ws all out l | false ↦ shared_places ws all out l ])
      (lt-leb 2 (count_places ws q all) (omega (arith, counted_few q all, h)))
      ∙ none_shared all out l h

  pub none_bound : (name_at : ℕ → List ℕ) (scoped : Bool) → length (all_places ws) < 2 → [] ≡ divisors_to_bind ws name_at scoped
  unfolding divisors_to_bind all_places sort_places outside_places
  none_bound name_at scoped h =
      sym (ap (sort_places ws name_at) (none_shared (all_places ws) (outside_places ws scoped) (distinct_places ws [] (all_places ws)) h))

-- ---- the list made of the words, sorted in its place

module _ (ws : List ℕ) (name_at : ℕ → List ℕ) (scoped : Bool) {old : List ℕ} {n : ℕ} {mid : List ℕ}
    (k : Listed (chosen_places ws (all_places ws) (outside_places ws scoped)) old n mid) (new : List ℕ) (e : new ≡ sort_places ws name_at (take n mid)) where
  new_is : new ≡ divisors_to_bind ws name_at scoped
  unfolding divisors_to_bind all_places outside_places chosen_places
  new_is = e ∙ ap (sort_places ws name_at) (front_is k)

  new_long : length new ≡ n
  new_long = ap length e ∙ (sort_length ws name_at (take n mid) ∙ sym (front_long k))

  pub bound : (take n (new ++ drop n mid) ≡ divisors_to_bind ws name_at scoped) × (n ≤ length (new ++ drop n mid))
  bound = (take_at new (drop n mid) n new_long ∙ new_is, omega (arith, new_long, length-append new (drop n mid)))
