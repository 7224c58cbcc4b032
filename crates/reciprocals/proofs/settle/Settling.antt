-- Step after step, and what settling answers: the words so far, with the steps to come, are the whole. Assumes nothing.
use Prim.Native.Nat.{ℕ, suc, ◌+◌, ◌*◌, ◌/◌, ◌%◌, ◌≤◌, ◌<◌}
use native.Mathlib.Omega.{arith}
use mathlib.Core.Path.{◌≡◌, refl, sym, ◌∙◌, ap, ap₂, subst}
use mathlib.Core.Bool.{Bool, true, false}
use mathlib.Core.Option.{Option, none, some}
use mathlib.Core.List.{List, [], ◌∷◌, ◌++◌}
use borrow.Author.Tests.{le-leb, lt-leb}
use lib.ListN.{length, get_or, take, drop, take-append-drop}
use lib.Seq.{length-take-le, take_at, drop-cons}
use Rattle.spec_tree.specs.Tree.{Name, xname}
use Rattle.spec_tree.specs.Tokens.{kind_of, below_of, name_by, run_at, trees_in}
use Rattle.spec_rewrite.specs.Rewrite.{replace_divisor}
use Rattle.words.specs.words.Words.{rewritten_words, tree_of, name_of, some_trees, Complete}
use Rattle.replace.proofs.divisor.Chaining.{never_longer, as_many_trees}
use Rattle.reciprocals.specs.settle.Steps.{step_words, settled_words}
use Rattle.reciprocals.specs.settle.Answers.{stepped_answer, Front, Settling, settling_by, forest_there, room_for, settling}
use Rattle.std.specs.Prelude as answer
use Rattle.std.specs.Prelude.{Result, Ok, Err}
use Rattle.std.specs.Option.{ok_or}
use Rattle.words.specs.declared.fault.Fault.{Fault}
use Rattle.words.specs.declared.fault.Fault.TheVariants as fault
use Rattle.spec_tree.proofs.Lists.{fits_in, none_left}

-- ---- names

abbrev pub x_word : ℕ → ℕ
x_word n = 64 + 192 * n

pub x_word_symbol : (n : ℕ) → kind_of (x_word n) ≡ 0
x_word_symbol n = omega arith

pub x_word_name : (n : ℕ) → name_of (x_word n) ≡ xname n
unfolding name_of name_by
x_word_name n =
    let b : below_of (x_word n) ≡ 1 + 3 * n = omega arith in
    let c : (1 + 3 * n) % 3 ≡ 1 = omega arith in
    let d : (1 + 3 * n) / 3 ≡ n = omega arith in
    rw b (rw c (rw d refl))

-- ---- what steps keep

pub record Stays (ws new : List ℕ) : Type 0 where
  pub short : length new ≤ length ws
  pub complete : Complete ws → Complete new

pub step_stays : (base : List ℕ) (place n : ℕ) (ws new : List ℕ) → step_words base place (xname n) ws ≡ some new → Stays ws new
unfolding step_words
step_stays base place n ws new e = go (run_at base place) e
  where
    become : List ℕ
    become = rewritten_words (replace_divisor (tree_of (drop place base)) (xname n)) ws

    named : rewritten_words (replace_divisor (tree_of (drop place base)) (name_of (x_word n))) ws ≡ become
    named = ap (λ (x : Name). rewritten_words (replace_divisor (tree_of (drop place base)) x) ws) (x_word_name n)

    made : become ≡ new → Stays ws new
    made q =
        let w : rewritten_words (replace_divisor (tree_of (drop place base)) (name_of (x_word n))) ws ≡ new = named ∙ q in
        record {
          short = subst (λ (l : List ℕ). length l ≤ length ws) w (never_longer (drop place base) (x_word n) ws);
          complete = λ c. subst Complete w (c.0, as_many_trees (drop place base) (x_word n) ws c.0 c.1);
        }

    go : (o : Option ℕ) → ◌≡◌ {A = Option (List ℕ)} (elim o [ none ↦ none | some m ↦ some become ]) (some new) → Stays ws new
    go none q = let z : ◌≡◌ {A = ℕ} 0 1 = cc in absurd (omega arith)
    go (some m) q = let p : become ≡ new = cc in made p

pub settled_short : (base l : List ℕ) (n : ℕ) (ws new : List ℕ) → settled_words base l n ws ≡ some new → length new ≤ length ws
unfolding settled_words
settled_short base [] n ws new e = let q : ws ≡ new = cc in subst (λ (l : List ℕ). length l ≤ length ws) q (omega arith)
settled_short base (p ∷ l) n ws new e = go (step_words base p (xname n) ws) refl e (λ vs q. settled_short base l (suc n) vs new q)
  where
    go :
        (o : Option (List ℕ)) → step_words base p (xname n) ws ≡ o
        → ◌≡◌ {A = Option (List ℕ)} (elim o [ none ↦ none | some vs ↦ settled_words base l (suc n) vs ]) (some new)
        → ((vs : List ℕ) → settled_words base l (suc n) vs ≡ some new → length new ≤ length vs) → length new ≤ length ws
    go none s q h = let z : ◌≡◌ {A = ℕ} 0 1 = cc in absurd (omega arith)
    go (some vs) s q h = omega (arith, (step_stays base p n ws vs s).short, h vs q)

-- ---- the loop

pub record State (base places : List ℕ) (from first : ℕ) (ws : List ℕ) (room spares : ℕ) (work spare : List ℕ) (k n : ℕ) : Type 0 where
  pub long : length work ≡ room
  pub spare_long : length spare ≡ spares
  pub fits : n ≤ room
  pub complete : Complete (take n work)
  pub same : settled_words base (drop k places) (first + k) (take n work) ≡ settled_words base (drop from places) (first + from) ws

pub starts :
    (base places : List ℕ) (from first len : ℕ) (work spare : List ℕ) → len ≤ length work → Complete (take len work)
    → State base places from first (take len work) (length work) (length spare) work spare from len
starts base places from first len work spare h c = record { long = refl; spare_long = refl; fits = h; complete = c; same = refl }

module _ {base places : List ℕ} {from first : ℕ} {ws : List ℕ} {room spares : ℕ} {work spare : List ℕ} {k n : ℕ} (state : State base places from first ws room spares work spare k n) where
  abbrev pub whole : Option (List ℕ)
  whole = settled_words base (drop from places) (first + from) ws

  abbrev pub Ends : answer.Option ℕ → List ℕ → Type 0
  Ends r out = (r ≡ stepped_answer whole) × Front whole out

  module _ (more : k < length places) where
    abbrev pub one : Option (List ℕ)
    one = step_words base (get_or places k 0) (name_of (x_word (first + k))) (take n work)

    step_is : one ≡ step_words base (get_or places k 0) (xname (first + k)) (take n work)
    step_is = ap (λ (x : Name). step_words base (get_or places k 0) x (take n work)) (x_word_name (first + k))

    ahead : settled_words base (get_or places k 0 ∷ drop (suc k) places) (first + k) (take n work) ≡ whole
    ahead = sym (ap (λ (l : List ℕ). settled_words base l (first + k) (take n work)) (drop-cons places k 0 more)) ∙ state.same

    after : (o : Option (List ℕ)) → one ≡ o → ◌≡◌ {A = Option (List ℕ)} (elim o [ none ↦ none | some vs ↦ settled_words base (drop (suc k) places) (suc (first + k)) vs ]) whole
    unfolding settled_words
    after o e = subst (λ (q : Option (List ℕ)). ◌≡◌ {A = Option (List ℕ)} (elim q [ none ↦ none | some vs ↦ settled_words base (drop (suc k) places) (suc (first + k)) vs ]) whole) (sym step_is ∙ e) ahead

    pub turn_broken : (out : List ℕ) → answer.None ≡ stepped_answer one → Ends answer.None out
    unfolding stepped_answer Front
    turn_broken out e = go one refl e
      where
        go : (o : Option (List ℕ)) → one ≡ o → answer.None ≡ stepped_answer o → Ends answer.None out
        go none s q = subst (λ (w : Option (List ℕ)). (answer.None ≡ stepped_answer w) × Front w out) (after none s) (refl, tt)
        go (some vs) s q = let z : ◌≡◌ {A = ℕ} 0 1 = cc in absurd (omega arith)

    pub turn :
        (m : ℕ) (work' spare' : List ℕ) → answer.Some m ≡ stepped_answer one → Front one work' → length work' ≡ length work → length spare' ≡ length spare
        → State base places from first ws room spares work' spare' (k + 1) m
    unfolding stepped_answer Front
    turn m work' spare' e f l g = go one refl e f
      where
        go : (o : Option (List ℕ)) → one ≡ o → answer.Some m ≡ stepped_answer o → Front o work' → State base places from first ws room spares work' spare' (k + 1) m
        go none s q t = let z : ◌≡◌ {A = ℕ} 0 1 = cc in absurd (omega arith)
        go (some vs) s q t =
            let c : m ≡ length vs = cc in
            let v : take m work' ≡ vs = ap (λ (i : ℕ). take i work') c ∙ t in
            let stays = step_stays base (get_or places k 0) (first + k) (take n work) vs (sym step_is ∙ s) in
            let b = stays.short in
            let d = length-take-le n work (omega (arith, state.fits, state.long)) in
            let i : suc k ≡ k + 1 = omega arith in
            let j : suc (first + k) ≡ first + (k + 1) = omega arith in
            record {
              long = l ∙ state.long;
              spare_long = g ∙ state.spare_long;
              fits = omega (arith, b, c, d, state.fits);
              complete = subst Complete (sym v) (stays.complete state.complete);
              same = ap (settled_words base (drop (k + 1) places) (first + (k + 1))) v ∙ (sym (ap (λ (x : ℕ). settled_words base (drop x places) (first + (k + 1)) vs) i) ∙ (sym (ap (λ (y : ℕ). settled_words base (drop (suc k) places) y vs) j) ∙ after (some vs) s));
            }

  pub ends : length places ≤ k → Ends (answer.Some n) work
  unfolding settled_words stepped_answer Front
  ends h =
      let l = length-take-le n work (omega (arith, state.fits, state.long)) in
      let e : some (take n work) ≡ whole = sym (ap (λ (r : List ℕ). settled_words base r (first + k) (take n work)) (none_left k places h)) ∙ state.same in
      subst (λ (w : Option (List ℕ)). (answer.Some n ≡ stepped_answer w) × Front w work) e (ap answer.Some (sym l), ap (λ (i : ℕ). take i work) l)

-- ---- what settling answers and leaves

pub some_steps : (o : answer.Option ℕ) (r : Result ℕ Fault) (n : ℕ) → r ≡ ok_or o fault.Broken → r ≡ Ok n → answer.Some n ≡ o
some_steps answer.None r n e p = absurd (let z : ◌≡◌ {A = ℕ} 0 1 = cc in omega arith)
some_steps (answer.Some m) r n e p = let q : n ≡ m = cc in ap answer.Some q

pub no_steps : (o : answer.Option ℕ) (r : Result ℕ Fault) (f : Fault) → r ≡ ok_or o fault.Broken → r ≡ Err f → answer.None ≡ o
no_steps answer.None r f e p = refl
no_steps (answer.Some m) r f e p = absurd (let z : ◌≡◌ {A = ℕ} 0 1 = cc in omega arith)

module _ (base places : List ℕ) (from first : ℕ) (old : List ℕ) (len : ℕ) where
  abbrev pub Answers : Result ℕ Fault → List ℕ → Type 0
  Answers r out = (r ≡ (settling base places from first old len).answer) × (out ≡ (settling base places from first old len).out)

  abbrev pub became : Option (List ℕ)
  became = settled_words base (drop from places) (first + from) (take len old)

  answers_by :
      (a b : Bool) → forest_there old len ≡ a → room_for len first (length places) ≡ b → (r : Result ℕ Fault) (out : List ℕ) → settling_by a b became old ≡ record { answer = r; out = out }
      → Answers r out
  unfolding settling
  answers_by a b e f r out q =
      let s : settling base places from first old len ≡ record { answer = r; out = out } =
      ap (λ (x : Bool). settling_by x (room_for len first (length places)) became old) e ∙ (ap (λ (y : Bool). settling_by a y became old) f ∙ q) in
      (sym (ap (λ (x : Settling). x.answer) s), sym (ap (λ (x : Settling). x.out) s))

  pub too_few : length old < len → Answers (Err fault.Broken) old
  unfolding forest_there settling_by
  too_few h = answers_by false (room_for len first (length places)) (rw (lt-leb len (length old) h) refl) refl (Err fault.Broken) old refl

  pub incomplete : trees_in (take len old) ≡ none → len ≤ length old → Answers (Err fault.Broken) old
  unfolding forest_there settling_by some_trees
  incomplete e h = answers_by false (room_for len first (length places)) (rw (le-leb len (length old) h) (rw e refl)) refl (Err fault.Broken) old refl

  module _ (h : len ≤ length old) (complete : Complete (take len old)) where
    there : forest_there old len ≡ true
    unfolding forest_there some_trees
    there = rw (le-leb len (length old) h) (rw complete.1 refl)

    full : room_for len first (length places) ≡ false → Answers (Err fault.NoRoom) old
    unfolding settling_by
    full e = answers_by true false there e (Err fault.NoRoom) old refl

    pub long_list : 1929 < len → Answers (Err fault.NoRoom) old
    unfolding room_for
    long_list g = full (rw (lt-leb len 1929 g) refl)

    module _ (short : len ≤ 1929) where
      pub high_number : 4294967296 < first → Answers (Err fault.NoRoom) old
      unfolding room_for
      high_number g = full (rw (le-leb len 1929 short) (rw (lt-leb first 4294967296 g) refl))

      module _ (low : first ≤ 4294967296) where
        pub many_places : 4294967296 < length places → Answers (Err fault.NoRoom) old
        unfolding room_for
        many_places g = full (rw (le-leb len 1929 short) (rw (le-leb first 4294967296 low) (rw (lt-leb (length places) 4294967296 g) refl)))

        module _ (few : length places ≤ 4294967296) where
          room : room_for len first (length places) ≡ true
          unfolding room_for
          room = rw (le-leb len 1929 short) (rw (le-leb first 4294967296 low) (rw (le-leb (length places) 4294967296 few) refl))

          -- no divisor is left to replace
          pub nothing_to_settle : length places ≤ from → Answers (Ok len) old
          unfolding settling_by settled_words
          nothing_to_settle g =
              let l = length-take-le len old h in
              let e : became ≡ some (take len old) = ap (λ (q : List ℕ). settled_words base q (first + from) (take len old)) (none_left from places g) in
              let w : take len old ++ drop (length (take len old)) old ≡ old =
              ap (λ (i : ℕ). take len old ++ drop i old) l ∙ take-append-drop len old in
              answers_by true true there room (Ok len) old
              (ap (λ (o : Option (List ℕ)). settling_by true true o old) e
              ∙ ap₂ (λ (i : ℕ) (o : List ℕ). record { answer = Ok i; out = o }) l w)

          -- the words are copied to an area
          module _ (area copied : List ℕ) (copies : copied ≡ take len old ++ drop (length (take len old)) area) where
            pub copied_front : take len copied ≡ take len old
            copied_front = ap (take len) copies ∙ take_at (take len old) (drop (length (take len old)) area) len (length-take-le len old h)

            abbrev pub result : Option (List ℕ)
            result = settled_words base (drop from places) (first + from) (take len copied)

            result_is : result ≡ became
            result_is = ap (settled_words base (drop from places) (first + from)) copied_front

            pub unsettled : answer.None ≡ stepped_answer result → Answers (Err fault.Broken) old
            unfolding stepped_answer settling_by
            unsettled e = go became refl (e ∙ ap stepped_answer result_is)
              where
                go : (o : Option (List ℕ)) → became ≡ o → answer.None ≡ stepped_answer o → Answers (Err fault.Broken) old
                go none s q = answers_by true true there room (Err fault.Broken) old (ap (λ (w : Option (List ℕ)). settling_by true true w old) s)
                go (some new) s q = let z : ◌≡◌ {A = ℕ} 0 1 = cc in absurd (omega arith)

            module _ (n : ℕ) (work : List ℕ) (e : answer.Some n ≡ stepped_answer result) (f : Front result work) where
              pub record New : Type 0 where
                pub new : List ℕ
                pub is : became ≡ some new
                pub count : n ≡ length new
                pub front : take n work ≡ new

              new_there : New
              unfolding stepped_answer Front
              new_there = go result refl e f
                where
                  go : (o : Option (List ℕ)) → result ≡ o → answer.Some n ≡ stepped_answer o → Front o work → New
                  go none s q t = let z : ◌≡◌ {A = ℕ} 0 1 = cc in absurd (omega arith)
                  go (some new) s q t =
                      let c : n ≡ length new = cc in
                      record { new = new; is = sym result_is ∙ s; count = c; front = ap (λ (i : ℕ). take i work) c ∙ t }

              -- no more than there were, and within the area
              pub no_more : n ≤ len
              no_more =
                  let x = new_there in
                  let b = settled_short base (drop from places) (first + from) (take len old) x.new x.is in
                  let l = length-take-le len old h in
                  let c = x.count in
                  omega (arith, b, l, c)

              pub in_area : n ≤ length work
              in_area =
                  let x = new_there in
                  let l : length (take n work) ≡ length x.new = ap length x.front in
                  let c = x.count in
                  omega (arith, fits_in n work, l, c)

              pub goes_back : length (take n work) ≤ length old
              goes_back =
                  let x = new_there in
                  let l : length (take n work) ≡ length x.new = ap length x.front in
                  let c = x.count in
                  omega (arith, no_more, l, c, h)

              pub settled_so : (out : List ℕ) → out ≡ take n work ++ drop (length (take n work)) old → Answers (Ok n) out
              unfolding settling_by
              settled_so out q =
                  let x = new_there in
                  let w : out ≡ x.new ++ drop (length x.new) old = q ∙ ap (λ (l : List ℕ). l ++ drop (length l) old) x.front in
                  answers_by true true there room (Ok n) out
                  (ap (λ (o : Option (List ℕ)). settling_by true true o old) x.is
                  ∙ (ap (λ (i : ℕ). record { answer = Ok i; out = x.new ++ drop (length x.new) old }) (sym x.count)
                  ∙ ap (λ (l : List ℕ). record { answer = Ok n; out = l }) (sym w)))
