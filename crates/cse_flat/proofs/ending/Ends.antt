-- What the end answers and leaves, by cases of the tests and of the outcome. Assumes nothing.
use Rattle.std.specs.Prelude.{Result, Ok, Err}
use Prim.Native.Nat.{ℕ, ◌+◌, ◌-◌, ◌≤◌, ◌<◌}
use native.Mathlib.Omega.{arith}
use mathlib.Core.Path.{◌≡◌, refl, sym, ◌∙◌, ap, ap₂, subst}
use mathlib.Core.Bool.{Bool, true, false, ◌&&◌, cond}
use mathlib.Core.Option.{Option, none, some}
use mathlib.Core.List.{List, ◌++◌}
use borrow.Author.Tests.{lt-ltb, le-ltb, le-leb, lt-leb, leb-true}
use lib.Dec.{T, leb, ltb}
use lib.ListN.{length, drop, length-drop}
use Rattle.refusal.specs.declared.Refusal.{Refusal as RefusalName}
use Rattle.words.specs.declared.fault.Fault.{Fault}
use Rattle.words.specs.declared.fault.Fault.TheVariants as fault
use Rattle.spec_tree.specs.Outcome.{Outcome, ok, refused, by}
use Rattle.spec_tree.specs.Tokens.{read, numbered, trees_in}
use Rattle.spec_tree.proofs.Logic.{and_left, and_right}
use Rattle.spec_tree.proofs.Tests.{is_true}
use Rattle.spec_tree.proofs.TokenLaws.{complete_length}
use Rattle.spec_cse.specs.Call.{Extracted}
use Rattle.reciprocals.specs.reciprocal.Bindings.{all_there}
use Rattle.reciprocals.specs.final.Final.{final_rows}
use Rattle.reciprocals.specs.final.Ready.{lent_rows, There}
use Rattle.cse_flat.specs.ending.Answers.{by_number, finish_outcome, at_least, trees_there, room_for, Tested, Ended, Broken, NoRoom, TestedFinishing, finish_by, finishing}

-- an answer and a table are those of an outcome
abbrev pub Ends : Outcome Extracted → List ℕ → Result ℕ ℕ → List ℕ → Type 0
Ends o old r new = (r ≡ (finish_outcome o old).answer) × (new ≡ (finish_outcome o old).table)

pub same_ends : (a b : Outcome Extracted) → a ≡ b → (old : List ℕ) (r : Result ℕ ℕ) (new : List ℕ) → Ends b old r new → Ends a old r new
same_ends a b e old r new h = (h.0 ∙ ap (λ (o : Outcome Extracted). (finish_outcome o old).answer) (sym e), h.1 ∙ ap (λ (o : Outcome Extracted). (finish_outcome o old).table) (sym e))

pub ring_ends : (o : Outcome Extracted) → o ≡ refused (by 11) → (old : List ℕ) → Ends o old (Err 11) old
unfolding finish_outcome
ring_ends o e old = same_ends o (refused (by 11)) e old (Err 11) old (refl, refl)

-- ---- rows, where as many are lent

module _ (rows old : List ℕ) (made : ℕ) where
  lent_by : (b : Bool) → ltb (length old) (length rows) ≡ b → lent_rows (length old) rows made ≡ cond b (refused (by 12)) (ok (record { words = rows; extracted = made }))
  unfolding lent_rows
  lent_by b e = ap (λ (x : Bool). cond x (refused (by 12)) (ok (record { words = rows; extracted = made }))) e

  pub too_many : (n : ℕ) → n ≡ length rows → length old < n → Ends (lent_rows (length old) rows made) old (Err 12) old
  unfolding finish_outcome
  too_many n e h =
      same_ends (lent_rows (length old) rows made) (refused (by 12)) (lent_by true (lt-ltb (length old) (length rows) (omega arith))) old (Err 12) old (refl, refl)

  pub rows_written :
      (n : ℕ) → n ≡ length rows → n ≤ length old → (new : List ℕ) → new ≡ rows ++ drop (length rows) old → Ends (lent_rows (length old) rows made) old (Ok n) new
  unfolding finish_outcome
  rows_written n e h new f =
      same_ends (lent_rows (length old) rows made) (ok (record { words = rows; extracted = made })) (lent_by false (le-ltb (length old) (length rows) (omega arith))) old (Ok n) new
      (ap (λ (x : ℕ). Ok x) e, f)

-- ---- a fault that isn't there

pub never_err : {A : Type 0} (b : Result A Fault) → (b ≡ Err fault.Broken → ⊥) × (b ≡ Err fault.NoRoom → ⊥) → (f : Fault) → b ≡ Err f → ⊥
never_err b h fault.Broken e = h.0 e
never_err b h fault.NoRoom e = h.1 e

-- ---- what the tests say

pub made_is : (ws : List ℕ) (k m : ℕ) → trees_in ws ≡ some m → length (drop k (read numbered ws)) ≡ m - k
made_is ws k m complete = omega (arith, length-drop k (read numbered ws), complete_length numbered ws m complete)

module _ (ws : List ℕ) (k : ℕ) (places old : List ℕ) where
  abbrev pub Finishes : Tested → List ℕ → Type 0
  Finishes r new = (r ≡ (finishing ws k places old).answer) × (new ≡ (finishing ws k places old).table)

  finishes_by : (b c : Bool) → trees_there ws k places ≡ b → room_for ws k places ≡ c → finishing ws k places old ≡ finish_by b c (final_rows (length old) k places ws) old
  unfolding finishing
  finishes_by b c d e = ap₂ (λ (x y : Bool). finish_by x y (final_rows (length old) k places ws) old) d e

  broken : trees_there ws k places ≡ false → Finishes Broken old
  unfolding finish_by
  broken e =
      let q = finishes_by false (room_for ws k places) e refl in
      (sym (ap (λ (f : TestedFinishing). f.answer) q), sym (ap (λ (f : TestedFinishing). f.table) q))

  full : trees_there ws k places ≡ true → room_for ws k places ≡ false → Finishes NoRoom old
  unfolding finish_by
  full d e =
      let q = finishes_by true false d e in
      (sym (ap (λ (f : TestedFinishing). f.answer) q), sym (ap (λ (f : TestedFinishing). f.table) q))

  pub no_trees : trees_in ws ≡ none → Finishes Broken old
  unfolding trees_there at_least
  no_trees e = broken (ap (λ (o : Option ℕ). at_least k o && all_there ws places) e)

  module _ (m : ℕ) (complete : trees_in ws ≡ some m) where
    pub too_few : m < k → Finishes Broken old
    unfolding trees_there at_least
    too_few h = broken (ap (λ (o : Option ℕ). at_least k o && all_there ws places) complete ∙ ap (λ (b : Bool). b && all_there ws places) (lt-leb k m h))

    module _ (enough : k ≤ m) where
      by_places : (b : Bool) → all_there ws places ≡ b → trees_there ws k places ≡ b
      unfolding trees_there at_least
      by_places b e = ap (λ (o : Option ℕ). at_least k o && all_there ws places) complete ∙ (ap (λ (b : Bool). b && all_there ws places) (le-leb k m enough) ∙ e)

      pub not_there : all_there ws places ≡ false → Finishes Broken old
      not_there e = broken (by_places false e)

      module _ (there : all_there ws places ≡ true) where
        pub all_are_there : T (trees_there ws k places)
        all_are_there = subst T (sym (by_places true there)) tt

        pub too_long : 1024 < length ws → Finishes NoRoom old
        unfolding room_for
        too_long h = full (by_places true there) (ap (λ (b : Bool). b && leb (length (drop k (read numbered ws)) + length places) 1024) (lt-leb (length ws) 1024 h))

        module _ (short : length ws ≤ 1024) where
          by_names : (b : Bool) → leb (length (drop k (read numbered ws)) + length places) 1024 ≡ b → room_for ws k places ≡ b
          unfolding room_for
          by_names b e = ap (λ (b : Bool). b && leb (length (drop k (read numbered ws)) + length places) 1024) (le-leb (length ws) 1024 short) ∙ e

          names_fit : (m - k) + length places ≤ 1024 → leb (length (drop k (read numbered ws)) + length places) 1024 ≡ true
          names_fit h = le-leb (length (drop k (read numbered ws)) + length places) 1024 (omega (arith, made_is ws k m complete))

          pub too_many_names : 1024 < (m - k) + length places → Finishes NoRoom old
          too_many_names h = full (by_places true there) (by_names false (lt-leb (length (drop k (read numbered ws)) + length places) 1024 (omega (arith, made_is ws k m complete))))

          pub all_have_room : (m - k) + length places ≤ 1024 → T (room_for ws k places)
          all_have_room h = subst T (sym (by_names true (names_fit h))) tt

          -- where all is there and has room, what the end answers
          pub goes_on :
              (m - k) + length places ≤ 1024
              → (r q : Result ℕ RefusalName) → r ≡ q → (new : List ℕ) → Ends (final_rows (length old) k places ws) old (by_number r) new → Finishes (Ended (by_number q)) new
          unfolding finish_by
          goes_on h r q e new x =
              let f = finishes_by true true (by_places true there) (by_names true (names_fit h)) in
              (ap (λ (z : Result ℕ RefusalName). Ended (by_number z)) (sym e) ∙ (ap Ended x.0 ∙ sym (ap (λ (z : TestedFinishing). z.answer) f)), x.1 ∙ sym (ap (λ (z : TestedFinishing). z.table) f))

-- ---- where the trees are there and have room

module _ (ws : List ℕ) (k : ℕ) (places : List ℕ) (there : T (trees_there ws k places)) (room : T (room_for ws k places)) where
  enough_by : (o : Option ℕ) (m : ℕ) → o ≡ some m → T (at_least k o) → k ≤ m
  unfolding at_least
  enough_by none m e h = absurd h
  enough_by (some n) m e h = (let z : n ≡ m = cc in omega (arith, leb-true k n (is_true (leb k n) h)))

  some_there : T (at_least k (trees_in ws))
  unfolding trees_there
  some_there = and_left (at_least k (trees_in ws)) (all_there ws places) there

  places_there : T (all_there ws places)
  unfolding trees_there
  places_there = and_right (at_least k (trees_in ws)) (all_there ws places) there

  few_words : length ws ≤ 1024
  unfolding room_for
  few_words = leb-true (length ws) 1024 (is_true (leb (length ws) 1024) (and_left (leb (length ws) 1024) (leb (length (drop k (read numbered ws)) + length places) 1024) room))

  few_names : length (drop k (read numbered ws)) + length places ≤ 1024
  unfolding room_for
  few_names =
      let n = length (drop k (read numbered ws)) + length places in
      leb-true n 1024 (is_true (leb n 1024) (and_right (leb (length ws) 1024) (leb n 1024) room))

  pub there_is : (m : ℕ) → trees_in ws ≡ some m → There ws k m places
  there_is m complete =
      record {
        complete = complete;
        enough = enough_by (trees_in ws) m complete some_there;
        there = places_there;
        few = few_words;
        numbers = omega (arith, few_names, made_is ws k m complete);
      }
