-- What `mark_outside` answers in each case. Assumes nothing.
use Rattle.words.specs.declared.fault.Fault.TheVariants as fault
use Prim.Native.Nat.{ℕ, ◌≤◌, ◌<◌}
use native.Mathlib.Omega.{arith}
use mathlib.Core.Path.{◌≡◌, refl, ◌∙◌}
use mathlib.Core.Bool.{Bool, true, false}
use mathlib.Core.Option.{none, some}
use mathlib.Core.List.{List}
use borrow.Author.Tests.{lt-ltb, le-ltb}
use lib.ListN.{length, get_or}
use lib.Dec.{ltb}
use Rattle.spec_tree.specs.Tokens.{trees_in, flag}
use Rattle.laws.specs.positions.Places.{outside_at}
use Rattle.rounds.specs.uses.Marks.{Complete, Ones, Marking, not_in_arms}
use Rattle.rounds.specs.uses.Answers.{mark_answer}
use Rattle.std.specs.Prelude.{Result, Ok, Err, ⊤}
use Rattle.words.specs.declared.fault.Fault.{Fault}
use Rattle.rounds.proofs.uses.Marking.{marked_list}

pub complete : (ws : List ℕ) (n : ℕ) → trees_in ws ≡ some n → Complete ws
complete ws n p = λ b. let z : ◌≡◌ {A = ℕ} 0 1 = cc in omega arith

-- ---- marks

abbrev pub Gives : List ℕ → Bool → List ℕ → Result ⊤ Fault → List ℕ → Type 0
Gives ws scoped old answer new = (answer ≡ (mark_answer ws scoped old).answer) × (new ≡ (mark_answer ws scoped old).marks)

module _ (ws : List ℕ) (scoped : Bool) (old : List ℕ) where
  pub gives_no_room : length old < length ws → Gives ws scoped old (Err fault.NoRoom) old
  unfolding mark_answer
  gives_no_room h = let t = lt-ltb (length old) (length ws) h in (rw t, rw t)

  pub gives_broken : length ws ≤ length old → trees_in ws ≡ none → Gives ws scoped old (Err fault.Broken) old
  unfolding mark_answer
  gives_broken h b = let t = le-ltb (length old) (length ws) h in (rw (t, b), rw (t, b))

  pub gives_done : (new : List ℕ) (n : ℕ) → length ws ≤ length old → trees_in ws ≡ some n → Marking ws (outside_at ws scoped) old new → Gives ws scoped old (Ok tt) new
  unfolding mark_answer
  gives_done new n h b k =
      let t = le-ltb (length old) (length ws) h in
      (rw (t, b), rw (t, b) (marked_list ws (outside_at ws scoped) old new h k))

-- in the flat form every place is outside
pub flat_marked : (ws old new : List ℕ) → Ones old (length ws) new → Marking ws (outside_at ws false) old new
unfolding outside_at flag
flat_marked ws old new k =
    record { long = k.long; here = λ j h. k.each j ∙ rw (lt-ltb j (length ws) h); after = λ j h. k.each j ∙ rw (le-ltb j (length ws) h) }

pub scoped_marked : (ws old mid new : List ℕ) → Ones old (length ws) mid → Marking ws (not_in_arms ws (length ws)) mid new → Marking ws (outside_at ws true) old new
unfolding outside_at not_in_arms
scoped_marked ws old mid new k m =
    record { long = m.long ∙ k.long; here = λ j h. m.here j h; after = λ j h. m.after j h ∙ (k.each j ∙ rw (le-ltb j (length ws) h)) }

-- marks that are set are set again
pub ones_again : (old mid : List ℕ) (n : ℕ) → Ones old n mid → Ones mid n mid
ones_again old mid n k = record { long = refl; each = λ j. go j (ltb j n) refl }
  where
    go : (j : ℕ) (b : Bool) → ltb j n ≡ b → get_or mid j 0 ≡ mathlib.Core.Bool.cond (ltb j n) 1 (get_or mid j 0)
    go j true e = k.each j ∙ rw e
    go j false e = rw e
