-- Those to be bound, one after another: each is met where its tree stands first. Assumes nothing.
use Prim.Native.Nat.{ℕ, suc, ◌+◌, ◌≤◌, ◌<◌}
use native.Mathlib.Omega.{arith}
use mathlib.Core.Path.{◌≡◌, refl, sym, ◌∙◌, ap, ap₂, subst}
use mathlib.Core.Bool.{Bool, true, false, not, ◌&&◌, ◌||◌}
use mathlib.Core.List.{List, [], ◌∷◌, ◌++◌, append-nil, append_assoc}
use lib.ListN.{length, get_or, take, drop, set, length-append, length-drop, drop_of_length-le}
use lib.Seq.{drop-cons, take-suc, set_at}
use lib.Dec.{T, leb}
use Rattle.spec_tree.specs.Tree.{eq_tree}
use Rattle.spec_tree.proofs.TreeLaws.{eq_tree_sound}
use Rattle.laws.specs.positions.Places.{numbered_at, among_places, count_places, distinct_places, shared_places}
use Rattle.reciprocals.specs.divisors.Places.{Listed, chosen_at, chosen_places}
use Rattle.spec_tree.proofs.Logic.{or_true}

-- ---- whether a tree is among some

or_none : (b : Bool) → (b || false) ≡ b
or_none true = refl
or_none false = refl

or_swap : (a b : Bool) → (a || b) ≡ (b || a)
or_swap true b = sym (or_true b)
or_swap false b = sym (or_none b)

step_or : (a b : Bool) → elim a as (λ _. Bool) [ true ↦ true | false ↦ b ] ≡ (a || b)
step_or true b = refl
step_or false b = refl

step_more : (a b c : Bool) → elim a as (λ _. Bool) [ true ↦ true | false ↦ b || c ] ≡ (elim a as (λ _. Bool) [ true ↦ true | false ↦ b ] || c)
step_more true b c = refl
step_more false b c = refl

module _ (ws : List ℕ) where
  abbrev equal : ℕ → ℕ → Bool
  equal r q = eq_tree (numbered_at ws r) (numbered_at ws q)

  among_first : (q r : ℕ) (l : List ℕ) → among_places ws q (r ∷ l) ≡ (equal r q || among_places ws q l)
  unfolding among_places
  among_first q r l = step_or (equal r q) (among_places ws q l)

  among_last : (q r : ℕ) (l : List ℕ) → among_places ws q (l ++ (r ∷ [])) ≡ (among_places ws q l || equal r q)
  unfolding among_places
  among_last q r [] = step_or (equal r q) false ∙ or_none (equal r q)
  among_last q r (s ∷ l) =
      ap (λ (b : Bool). elim (equal s q) as (λ _. Bool) [ true ↦ true | false ↦ b ]) (among_last q r l) ∙ step_more (equal s q) (among_places ws q l) (equal r q)

  among_same : (q r : ℕ) (l : List ℕ) → numbered_at ws r ≡ numbered_at ws q → among_places ws r l ≡ among_places ws q l
  unfolding among_places
  among_same q r [] e = refl
  among_same q r (s ∷ l) e =
      ap₂ (λ (a b : Bool). elim a as (λ _. Bool) [ true ↦ true | false ↦ b ]) (ap (eq_tree (numbered_at ws s)) e) (among_same q r l e)

  -- one that has been met adds no tree
  met_already : (q r : ℕ) (l : List ℕ) → among_places ws r l ≡ true → among_places ws q (l ++ (r ∷ [])) ≡ among_places ws q l
  met_already q r l e = among_last q r l ∙ go (equal r q) refl
    where
      go : (b : Bool) → equal r q ≡ b → (among_places ws q l || b) ≡ among_places ws q l
      go true f =
          or_true (among_places ws q l)
          ∙ sym (sym (among_same q r l (eq_tree_sound (numbered_at ws r) (numbered_at ws q) (subst T (sym f) tt))) ∙ e)
      go false f = or_none (among_places ws q l)

-- ---- one after another

module _ (ws all out : List ℕ) where
  abbrev shared : ℕ → Bool
  shared q = leb 2 (count_places ws q all) && leb 1 (count_places ws q out)

  abbrev pub to_come : List ℕ → List ℕ → List ℕ
  to_come seen l = shared_places ws all out (distinct_places ws seen l)

  pub record Choosing (old places : List ℕ) (n i : ℕ) : Type 0 where
    pub within : i ≤ length all
    pub few : n ≤ i
    pub done : List ℕ
    pub seen : List ℕ
    pub count : n ≡ length done
    pub written : places ≡ done ++ drop n old
    pub total : done ++ to_come seen (drop i all) ≡ chosen_places ws all out
    pub covers : (q : ℕ) → among_places ws q seen ≡ among_places ws q (take i all)

  pub choosing_starts : (old : List ℕ) → Choosing old old 0 0
  unfolding chosen_places
  choosing_starts old =
      record { within = omega arith; few = omega arith; done = []; seen = []; count = refl; written = refl; total = refl; covers = λ q. refl }

  -- what is to come, from the next on
  comes_known : (q : ℕ) (seen l : List ℕ) → among_places ws q seen ≡ true → to_come seen (q ∷ l) ≡ to_come seen l
  unfolding distinct_places
  comes_known q seen l e =
      ap (λ (c : Bool). shared_places ws all out (elim c as (λ _. List ℕ) [ true ↦ distinct_places ws seen l | false ↦ q ∷ distinct_places ws (q ∷ seen) l ])) e

  comes_new :
      (q : ℕ) (seen l : List ℕ) (b : Bool) → among_places ws q seen ≡ false → shared q ≡ b
      → to_come seen (q ∷ l) ≡ elim b as (λ _. List ℕ) [ true ↦ q ∷ to_come (q ∷ seen) l | false ↦ to_come (q ∷ seen) l ]
  unfolding distinct_places shared_places
  comes_new q seen l b e f =
      ap (λ (c : Bool). shared_places ws all out (elim c as (λ _. List ℕ) [ true ↦ distinct_places ws seen l | false ↦ q ∷ distinct_places ws (q ∷ seen) l ])) e
      ∙ ap (λ (c : Bool). elim c as (λ _. List ℕ) [ true ↦ q ∷ to_come (q ∷ seen) l | false ↦ to_come (q ∷ seen) l ]) f

  module _ {old places : List ℕ} {n i : ℕ} (s : Choosing old places n i) (h : i < length all) where
    abbrev q : ℕ
    q = get_or all i 0

    next : suc i ≡ i + 1
    next = omega arith

    rest : drop i all ≡ q ∷ drop (i + 1) all
    rest = drop-cons all i 0 h ∙ ap (λ (m : ℕ). q ∷ drop m all) next

    front : take (i + 1) all ≡ take i all ++ (q ∷ [])
    front = ap (λ (m : ℕ). take m all) (sym next) ∙ take-suc all i 0 h

    covers_known : among_places ws q (take i all) ≡ true → (x : ℕ) → among_places ws x s.seen ≡ among_places ws x (take (i + 1) all)
    covers_known e x = s.covers x ∙ sym (ap (among_places ws x) front ∙ met_already ws x q (take i all) e)

    covers_new : (x : ℕ) → among_places ws x (q ∷ s.seen) ≡ among_places ws x (take (i + 1) all)
    covers_new x =
        among_first ws x q s.seen
        ∙ (ap (λ (b : Bool). equal ws q x || b) (s.covers x)
        ∙ (or_swap (equal ws q x) (among_places ws x (take i all)) ∙ sym (ap (among_places ws x) front ∙ among_last ws x q (take i all))))

    known : (b c : Bool) → chosen_at ws all out i ≡ b → among_places ws q (take i all) ≡ c → (not c && shared q) ≡ b
    unfolding chosen_at
    known b c e f = ap (λ (d : Bool). not d && shared q) (sym f) ∙ e

    pub choosing_skips : false ≡ chosen_at ws all out i → Choosing old places n (i + 1)
    choosing_skips e = go (among_places ws q (take i all)) refl (known false (among_places ws q (take i all)) (sym e) refl)
      where
        go : (c : Bool) → among_places ws q (take i all) ≡ c → (not c && shared q) ≡ false → Choosing old places n (i + 1)
        go true f g =
            record {
              within = omega arith;
              few = omega (arith, s.few);
              done = s.done;
              seen = s.seen;
              count = s.count;
              written = s.written;
              total = ap (λ (l : List ℕ). s.done ++ l) (sym (ap (to_come s.seen) rest ∙ comes_known q s.seen (drop (i + 1) all) (s.covers q ∙ f))) ∙ s.total;
              covers = covers_known f;
            }
        go false f g =
            record {
              within = omega arith;
              few = omega (arith, s.few);
              done = s.done;
              seen = q ∷ s.seen;
              count = s.count;
              written = s.written;
              total = ap (λ (l : List ℕ). s.done ++ l) (sym (ap (to_come s.seen) rest ∙ comes_new q s.seen (drop (i + 1) all) false (s.covers q ∙ f) g)) ∙ s.total;
              covers = covers_new;
            }

    pub choosing_takes : length all ≤ length old → true ≡ chosen_at ws all out i → Choosing old (set places n (get_or all i 0)) (n + 1) (i + 1)
    choosing_takes room e = go (among_places ws q (take i all)) refl (known true (among_places ws q (take i all)) (sym e) refl)
      where
        go : (c : Bool) → among_places ws q (take i all) ≡ c → (not c && shared q) ≡ true → Choosing old (set places n q) (n + 1) (i + 1)
        go true f g = absurd (let z : ◌≡◌ {A = ℕ} 0 1 = cc in omega arith)
        go false f g =
            let one : suc n ≡ n + 1 = omega arith in
            record {
              within = omega arith;
              few = omega (arith, s.few);
              done = s.done ++ (q ∷ []);
              seen = q ∷ s.seen;
              count = omega (arith, length-append s.done (q ∷ []), s.count);
              written =
                  ap (λ (l : List ℕ). set l n q) (s.written ∙ ap (λ (l : List ℕ). s.done ++ l) (drop-cons old n 0 (omega (arith, s.few, room))))
                  ∙ (set_at s.done (get_or old n 0) (drop (suc n) old) q n (sym s.count)
                  ∙ (sym (append_assoc s.done (q ∷ []) (drop (suc n) old)) ∙ ap (λ (k : ℕ). (s.done ++ (q ∷ [])) ++ drop k old) one));
              total =
                  append_assoc s.done (q ∷ []) (to_come (q ∷ s.seen) (drop (i + 1) all))
                  ∙ (ap (λ (l : List ℕ). s.done ++ l) (sym (ap (to_come s.seen) rest ∙ comes_new q s.seen (drop (i + 1) all) true (s.covers q ∙ f) g)) ∙ s.total);
              covers = covers_new;
            }

  pub chosen_long : {old places : List ℕ} {n i : ℕ} → Choosing old places n i → length all ≤ length old → length places ≡ length old
  chosen_long {old} {places} {n} {i} s room =
      ap length s.written ∙ omega (arith, length-append s.done (drop n old), length-drop n old, s.count, s.few, s.within, room)

  none_come : (seen : List ℕ) → to_come seen [] ≡ []
  unfolding distinct_places shared_places
  none_come seen = refl

  pub choosing_ends : {old places : List ℕ} {n i : ℕ} → Choosing old places n i → length all ≤ i → Listed (chosen_places ws all out) old n places
  choosing_ends {old} {places} {n} {i} s h =
      let whole : s.done ≡ chosen_places ws all out =
      sym (append-nil s.done) ∙ (ap (λ (l : List ℕ). s.done ++ l) (sym (ap (to_come s.seen) (drop_of_length-le all h) ∙ none_come s.seen)) ∙ s.total) in
      let c : n ≡ length (chosen_places ws all out) = s.count ∙ ap length whole in
      record { count = c; places = s.written ∙ ap₂ (λ (l : List ℕ) (k : ℕ). l ++ drop k old) whole c }
