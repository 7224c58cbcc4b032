-- Whether a place is a new switch, test by test, and the list of all so far: how it starts, goes on and ends. Assumes nothing.
use Prim.Native.Nat.{ℕ, zero, suc, ◌+◌, ◌-◌, ◌≤◌, ◌<◌}
use native.Mathlib.Omega.{arith}
use mathlib.Core.Path.{◌≡◌, refl, sym, ◌∙◌, ap, subst}
use mathlib.Core.Bool.{Bool, true, false, not, ◌&&◌}
use mathlib.Core.List.{List, [], ◌∷◌, ◌++◌, append-nil, append_assoc}
use borrow.Author.Tests.{le-leb, lt-leb}
use lib.ListN.{length, get_or, take, drop, set, length-append, length-drop, drop_of_length-le}
use lib.Seq.{drop-cons, set_at, take_at}
use lib.Dec.{leb}
use Rattle.laws.specs.positions.Places.{outside_at, among_places}
use Rattle.laws.proofs.positions.Extraction.{Every}
use Rattle.rounds.specs.uses.Marks.{is_marked}
use Rattle.laws.specs.switches.Switches.{switch_at, places_within, switch_places, new_switch}
use Rattle.laws.proofs.switches.Stepping.{Outer, places_next, places_begin, places_end, places_few, places_outer}
use Rattle.fusion.specs.switches.Listing.{switch_word, Inside, Outsides, Listing, put_by, put_front}
use Rattle.std.specs.Prelude.{Result, Ok, Err}
use Rattle.fusion.specs.declared.switches.SwitchError.{SwitchError}
use Rattle.fusion.specs.declared.switches.SwitchError.TheVariants as switch_error
use Rattle.fusion.proofs.switches.Words.{word_at}
use Rattle.spec_tree.proofs.Logic.{and_false}

-- ---- one place

module _ (ws marks met : List ℕ) (p : ℕ) (k : Outsides ws marks) (here : p < length ws) where
  pub in_an_arm : get_or marks p 0 ≡ 0 → false ≡ new_switch ws met p
  unfolding new_switch is_marked
  in_an_arm e =
      let o : outside_at ws true p ≡ false = sym (k.marked p here) ∙ ap (leb 1) e in
      sym (ap (λ (b : Bool). b && (switch_at ws p && not (among_places ws p met))) o)

  pub no_switch : false ≡ switch_word (get_or ws p 0) → false ≡ new_switch ws met p
  unfolding new_switch
  no_switch e =
      let s : switch_at ws p ≡ false = sym (word_at ws p) ∙ sym e in
      sym (ap (λ (b : Bool). outside_at ws true p && (b && not (among_places ws p met))) s ∙ and_false (outside_at ws true p))

  pub last_test : (get_or marks p 0 ≡ 0 → ⊥) → true ≡ switch_word (get_or ws p 0) → (b : Bool) → b ≡ among_places ws p met → not b ≡ new_switch ws met p
  unfolding new_switch is_marked
  last_test ne e b d =
      let o : outside_at ws true p ≡ true = sym (k.marked p here) ∙ le-leb 1 (get_or marks p 0) (some_mark (get_or marks p 0) ne) in
      let s : switch_at ws p ≡ true = sym (word_at ws p) ∙ sym e in
      ap not d
      ∙ sym (ap (λ (c : Bool). outside_at ws true p && (c && not (among_places ws p met))) s ∙ ap (λ (c : Bool). c && not (among_places ws p met)) o)
    where
      some_mark : (m : ℕ) → (m ≡ 0 → ⊥) → 1 ≤ m
      some_mark zero h = absurd (h refl)
      some_mark (suc m) h = omega arith

-- ---- all places so far

all_inside : (ws : List ℕ) (n : ℕ) (l : List ℕ) → n ≤ length ws → Every (Outer ws n) l → Inside (length ws) l
all_inside ws n [] g h = tt
all_inside ws n (p ∷ l) g h = ((let k = h.0.0 in omega arith), all_inside ws n l g h.1)

-- what is answered, and the places lent after it
abbrev pub Puts : List ℕ → List ℕ → Result ℕ SwitchError → List ℕ → Type 0
Puts new old r out = (r ≡ (put_front new old).answer) × (out ≡ (put_front new old).out)

module _ (new old : List ℕ) where
  pub puts_all : length new ≤ length old → put_front new old ≡ record { answer = Ok (length new); out = new ++ drop (length new) old }
  unfolding put_front put_by
  puts_all h = ap (λ (b : Bool). put_by b new old) (le-leb (length new) (length old) h)

  pub puts_first : length old < length new → put_front new old ≡ record { answer = (Err switch_error.TooMany); out = take (length old) new }
  unfolding put_front put_by
  puts_first h = ap (λ (b : Bool). put_by b new old) (lt-leb (length new) (length old) h)

module _ (ws : List ℕ) where
  -- the places met are in front of those met later
  further : (d p m : ℕ) → m ≡ d + p → (rest : List ℕ) × (places_within ws m ≡ places_within ws p ++ rest)
  further zero p m e =
      let i : m ≡ p = omega (arith, e) in
      ([], ap (places_within ws) i ∙ sym (append-nil (places_within ws p)))
  further (suc d) p m e =
      let k = further d p (d + p) refl in
      let more : List ℕ = elim (new_switch ws (places_within ws (d + p)) (d + p)) [ true ↦ (d + p) ∷ [] | false ↦ [] ] in
      let i : m ≡ suc (d + p) = omega (arith, e) in
      (k.0 ++ more, ap (places_within ws) i ∙ places_next ws (d + p) ∙ ap (λ (l : List ℕ). l ++ more) k.1 ∙ append_assoc (places_within ws p) k.0 more)

  pub record State (old out : List ℕ) (n p : ℕ) : Type 0 where
    pub inside : p ≤ length ws
    pub lent : n ≤ length old
    pub count : n ≡ length (places_within ws p)
    pub places : out ≡ places_within ws p ++ drop n old

  pub starts : (old : List ℕ) → State old old 0 0
  starts old =
      let e = places_begin ws in
      record { inside = omega arith; lent = omega arith; count = sym (ap length e); places = sym (ap (λ (l : List ℕ). l ++ old) e) }

  module _ {old out : List ℕ} {n p : ℕ} (state : State old out n p) where
    pub few : n ≤ p
    few = omega (arith, state.count, places_few ws p)

    pub met_are : take n out ≡ places_within ws p
    met_are = ap (take n) state.places ∙ take_at (places_within ws p) (drop n old) n (sym state.count)

    pub met_inside : Inside (length ws) (take n out)
    met_inside = subst (Inside (length ws)) (sym met_are) (all_inside ws p (places_within ws p) state.inside (places_outer ws p))

    pub list_long : length out ≡ length old
    list_long = ap length state.places ∙ omega (arith, length-append (places_within ws p) (drop n old), length-drop n old, state.count, state.lent)

    next : (b : Bool) → b ≡ new_switch ws (take n out) p → places_within ws (p + 1) ≡ places_within ws p ++ elim b as (λ _. List ℕ) [ true ↦ p ∷ [] | false ↦ [] ]
    next b e =
        let i : p + 1 ≡ suc p = omega arith in
        let d : new_switch ws (places_within ws p) p ≡ b = ap (λ (l : List ℕ). new_switch ws l p) (sym met_are) ∙ sym e in
        ap (places_within ws) i ∙ places_next ws p ∙ ap (λ (c : Bool). places_within ws p ++ elim c as (λ _. List ℕ) [ true ↦ p ∷ [] | false ↦ [] ]) d

    module _ (here : p < length ws) where
      pub turn_none : false ≡ new_switch ws (take n out) p → State old out n (p + 1)
      turn_none e =
          let g : places_within ws (p + 1) ≡ places_within ws p = next false e ∙ append-nil (places_within ws p) in
          record { inside = omega arith; lent = state.lent; count = state.count ∙ ap length (sym g); places = state.places ∙ ap (λ (l : List ℕ). l ++ drop n old) (sym g) }

      pub turn_one : n < length old → true ≡ new_switch ws (take n out) p → State old (set out n p) (n + 1) (p + 1)
      turn_one room e =
          let l = places_within ws p in
          let g : places_within ws (p + 1) ≡ l ++ (p ∷ []) = next true e in
          let i : suc n ≡ n + 1 = omega arith in
          record {
            inside = omega arith;
            lent = omega (arith, room);
            count = omega (arith, ap length g, length-append l (p ∷ []), state.count);
            places =
                ap (λ (x : List ℕ). set x n p) (state.places ∙ ap (λ (x : List ℕ). l ++ x) (drop-cons old n 0 room))
                ∙ set_at l (get_or old n 0) (drop (suc n) old) p n (sym state.count)
                ∙ sym (append_assoc l (p ∷ []) (drop (suc n) old))
                ∙ ap (λ (x : List ℕ). x ++ drop (suc n) old) (sym g)
                ∙ ap (λ (k : ℕ). places_within ws (p + 1) ++ drop k old) i;
          }

    pub list_ends : length ws ≤ p → Puts (switch_places ws) old (Ok n) out
    list_ends h =
        let i : p ≡ length ws = omega (arith, state.inside, h) in
        let w : places_within ws p ≡ switch_places ws = ap (places_within ws) i ∙ sym (places_end ws) in
        let c : n ≡ length (switch_places ws) = state.count ∙ ap length w in
        let d : length (switch_places ws) ≤ length old = omega (arith, c, state.lent) in
        let e : out ≡ switch_places ws ++ drop (length (switch_places ws)) old = state.places ∙ ap (λ (x : List ℕ). x ++ drop n old) w ∙ ap (λ (k : ℕ). switch_places ws ++ drop k old) c in
        (ap (λ (k : ℕ). Ok k) c ∙ sym (ap (λ (x : Listing). x.answer) (puts_all (switch_places ws) old d)), e ∙ sym (ap (λ (x : Listing). x.out) (puts_all (switch_places ws) old d)))

    -- another switch, and no place left: the places lent are the first of the switches
    pub list_full : p < length ws → length old ≤ n → true ≡ new_switch ws (take n out) p → Puts (switch_places ws) old (Err switch_error.TooMany) out
    list_full here full e =
        let l = places_within ws p in
        let rest = further (length ws - (p + 1)) (p + 1) (length ws) (omega (arith, here)) in
        let w : switch_places ws ≡ l ++ (p ∷ rest.0) =
        places_end ws ∙ rest.1 ∙ ap (λ (x : List ℕ). x ++ rest.0) (next true e) ∙ append_assoc l (p ∷ []) rest.0 in
        let c : length l ≡ length old = omega (arith, state.count, state.lent, full) in
        let d : length old < length (switch_places ws) = omega (arith, ap length w, length-append l (p ∷ rest.0), c) in
        let t : take (length old) (switch_places ws) ≡ l = ap (take (length old)) w ∙ take_at l (p ∷ rest.0) (length old) c in
        let o : out ≡ l = state.places ∙ ap (λ (x : List ℕ). l ++ x) (drop_of_length-le old full) ∙ append-nil l in
        (sym (ap (λ (x : Listing). x.answer) (puts_first (switch_places ws) old d)), o ∙ sym t ∙ sym (ap (λ (x : Listing). x.out) (puts_first (switch_places ws) old d)))
