-- The marks that are listed by, and what `list_switches` answers and leaves in each case. Assumes nothing.
use Prim.Native.Nat.{ℕ, ◌+◌, ◌≤◌, ◌<◌}
use native.Mathlib.Omega.{arith}
use mathlib.Core.Path.{◌≡◌, refl, sym, ◌∙◌, ap}
use mathlib.Core.Bool.{Bool, true, false}
use mathlib.Core.Option as maybe
use mathlib.Core.Option.{none, some}
use mathlib.Core.List.{List, ◌++◌}
use borrow.Author.Tests.{le-ltb, le-leb, lt-leb, ltb-true, ltb-false}
use lib.ListN.{length, get_or, drop, length-append, get_or-append}
use lib.Dec.{leb, ltb}
use Rattle.spec_tree.specs.Tokens.{trees_in, flag}
use Rattle.words.specs.words.Words.{some_trees, Complete}
use Rattle.laws.specs.positions.Places.{outside_at}
use Rattle.rounds.specs.uses.Marks.{is_marked, marks_of}
use Rattle.words.specs.declared.fault.Fault.{Fault}
use Rattle.words.specs.declared.fault.Fault.TheVariants as fault
use Rattle.rounds.specs.uses.Answers.{marked_by, mark_answer}
use Rattle.rounds.proofs.uses.Marking.{marks_length, mark_at}
use Rattle.laws.specs.switches.Switches.{switch_places}
use Rattle.fusion.specs.switches.Listing.{Outsides, Listing, put_front, listing_by, listing}
use Rattle.std.specs.Prelude.{Result, Ok, Err, ⊤}
use Rattle.fusion.specs.declared.switches.SwitchError.{SwitchError}
use Rattle.fusion.specs.declared.switches.SwitchError.TheVariants as switch_error
use Rattle.fusion.proofs.switches.Listed.{Puts}
use Rattle.rounds.proofs.choice.Giving.{flag_back}

-- ---- marks

module _ (ws old new : List ℕ) (h : length ws ≤ length old) (c : Complete ws) (e : new ≡ (mark_answer ws true old).marks) where
  marks_are : new ≡ marks_of (outside_at ws true) 0 (length ws) ++ drop (length ws) old
  unfolding mark_answer
  marks_are = e ∙ rw (le-ltb (length old) (length ws) h, c.1)

  pub marks_left : Outsides ws new
  unfolding is_marked
  marks_left =
      let test = outside_at ws true in
      let l = marks_of test 0 (length ws) in
      let n = marks_length test 0 (length ws) in
      record {
        long = omega (arith, ap length marks_are, length-append l (drop (length ws) old), n);
        marked = λ j g.
            let z : 0 + j ≡ j = omega arith in
            ap (leb 1) (ap (λ (x : List ℕ). get_or x j 0) marks_are ∙ (get_or-append l (drop (length ws) old) 0 j (omega (arith, n)) ∙ (mark_at test 0 (length ws) j g ∙ ap (λ (k : ℕ). flag (test k)) z)))
            ∙ flag_back (test j);
      }

-- ---- whether the marks are long enough, by what `mark_outside` answers

module _ (ws old : List ℕ) (c : Complete ws) (r : Result ⊤ Fault) (e : r ≡ (mark_answer ws true old).answer) where
  pub marks_refused : (f : Fault) → r ≡ Err f → (f ≡ fault.NoRoom) × (length old < length ws)
  unfolding mark_answer marked_by
  marks_refused f g = go (ltb (length old) (length ws)) (trees_in ws) refl c.1 (sym g ∙ e)
    where
      go :
          (b : Bool) (o : maybe.Option ℕ) → ltb (length old) (length ws) ≡ b → o ≡ some c.0
          → Err f ≡ (marked_by b o (marks_of (outside_at ws true) 0 (length ws)) (length ws) old).answer → (f ≡ fault.NoRoom) × (length old < length ws)
      go true o q p h = (cc, ltb-true (length old) (length ws) q)
      go false none q p h = absurd (let k : none ≡ some c.0 = p in cc)
      go false (some m) q p h = absurd (let k : ◌≡◌ {A = Result ⊤ Fault} (Err f) (Ok tt) = h in cc)

  pub marks_accepted : (x : ⊤) → r ≡ Ok x → length ws ≤ length old
  unfolding mark_answer marked_by
  marks_accepted x g = go (ltb (length old) (length ws)) (trees_in ws) refl (sym g ∙ e)
    where
      go :
          (b : Bool) (o : maybe.Option ℕ) → ltb (length old) (length ws) ≡ b
          → Ok x ≡ (marked_by b o (marks_of (outside_at ws true) 0 (length ws)) (length ws) old).answer → length ws ≤ length old
      go true o q h = absurd (let k : ◌≡◌ {A = Result ⊤ Fault} (Ok x) (Err fault.NoRoom) = h in cc)
      go false o q h = ltb-false (length old) (length ws) q

-- ---- answers

module _ (ws : List ℕ) (marks : ℕ) (old : List ℕ) where
  abbrev pub Answers : Result ℕ SwitchError → List ℕ → Type 0
  Answers r out = (r ≡ (listing ws marks old).answer) × (out ≡ (listing ws marks old).out)

  pub listing_is : (a b : Bool) → some_trees (trees_in ws) ≡ a → leb (length ws) marks ≡ b → listing ws marks old ≡ listing_by a b (switch_places ws) old
  unfolding listing
  listing_is a b e f =
      ap (λ (y : Bool). listing_by y (leb (length ws) marks) (switch_places ws) old) e ∙ ap (λ (y : Bool). listing_by a y (switch_places ws) old) f

  answers_by : (x : Listing) → listing ws marks old ≡ x → Answers x.answer x.out
  answers_by x s = (sym (ap (λ (y : Listing). y.answer) s), sym (ap (λ (y : Listing). y.out) s))

  pub broken : trees_in ws ≡ none → Answers (Err switch_error.Broken) old
  unfolding listing_by some_trees
  broken e = answers_by (record { answer = (Err switch_error.Broken); out = old }) (listing_is false (leb (length ws) marks) (ap some_trees e) refl)

  module _ (complete : Complete ws) where
    pub few_marks : marks < length ws → Answers (Err switch_error.NoRoom) old
    unfolding listing_by some_trees
    few_marks h = answers_by (record { answer = (Err switch_error.NoRoom); out = old }) (listing_is true false (ap some_trees complete.1) (lt-leb (length ws) marks h))

    pub puts_are : length ws ≤ marks → listing ws marks old ≡ put_front (switch_places ws) old
    unfolding listing_by some_trees
    puts_are marked = listing_is true true (ap some_trees complete.1) (le-leb (length ws) marks marked)

    pub listed : length ws ≤ marks → (r : Result ℕ SwitchError) (out : List ℕ) → Puts (switch_places ws) old r out → Answers r out
    listed marked r out k = let s = puts_are marked in (k.0 ∙ sym (ap (λ (y : Listing). y.answer) s), k.1 ∙ sym (ap (λ (y : Listing). y.out) s))
