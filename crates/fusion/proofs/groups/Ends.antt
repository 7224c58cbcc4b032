-- What copying a column answers and leaves, case by case. Assumes nothing.
use Rattle.std.specs.Prelude.{Ok, Err, Result}
use Prim.Native.Nat.{ℕ}
use borrow.Author.Tests.{leb-true}
use mathlib.Core.Path.{◌≡◌, refl, sym, ◌∙◌, ap}
use mathlib.Core.Bool.{Bool, true, false, ◌&&◌}
use mathlib.Core.Option.{Option, none}
use mathlib.Core.List.{List, ◌++◌}
use lib.ListN.{length, drop}
use lib.Dec.{leb}
use Prim.Native.Nat.{◌≤◌}
use Rattle.spec_tree.specs.Tokens.{trees_in}
use Rattle.words.specs.words.Words.{some_trees, Complete}
use Rattle.laws.specs.switches.Columns.{column_words}
use Rattle.fusion.specs.groups.Copying.{all_armed, column_there, Copying, copying_by, copying}
use Rattle.words.specs.declared.fault.Fault.{Fault}
use Rattle.words.specs.declared.fault.Fault.TheVariants as fault

-- what is answered and left is as the definition has it
abbrev pub Copies : List ℕ → List ℕ → ℕ → List ℕ → Result ℕ Fault → List ℕ → Type 0
Copies ws qs a old r out = (r ≡ (copying ws qs a old).answer) × (out ≡ (copying ws qs a old).out)

module _ (ws qs : List ℕ) (a : ℕ) (old : List ℕ) where
  abbrev new : List ℕ
  new = column_words ws qs a

  -- by what the two tests tell
  by_tests : (b f : Bool) → column_there ws a qs ≡ b → leb (length (column_words ws qs a)) (length old) ≡ f → copying ws qs a old ≡ copying_by b f (column_words ws qs a) old
  unfolding copying
  by_tests b f e g = ap (λ (x : Bool). copying_by x (leb (length new) (length old)) new old) e ∙ ap (λ (y : Bool). copying_by b y new old) g

  -- what is there when one of them doesn't hold
  abbrev ends : (c : Copying) → copying ws qs a old ≡ c → Copies ws qs a old c.answer c.out
  ends c e = (ap (λ (x : Copying). x.answer) (sym e), ap (λ (x : Copying). x.out) (sym e))

  pub broken_trees : trees_in ws ≡ none → Copies ws qs a old (Err fault.Broken) old
  unfolding column_there some_trees copying_by
  broken_trees e = ends _ (by_tests false (leb (length new) (length old)) (ap (λ (o : Option ℕ). some_trees o && all_armed ws a qs) e) refl)

  module _ (complete : Complete ws) where
    there_is : (b : Bool) → all_armed ws a qs ≡ b → column_there ws a qs ≡ b
    unfolding column_there some_trees
    there_is b e = ap (λ (o : Option ℕ). some_trees o && all_armed ws a qs) complete.1 ∙ e

    pub arm_missing : (r : Bool) → r ≡ all_armed ws a qs → r ≡ false → Copies ws qs a old (Err fault.Broken) old
    unfolding copying_by
    arm_missing r e f = ends _ (by_tests false (leb (length new) (length old)) (there_is false (sym e ∙ f)) refl)

    pub too_many : all_armed ws a qs ≡ true → (r : Bool) → r ≡ leb (length (column_words ws qs a)) (length old) → r ≡ false → Copies ws qs a old (Err fault.NoRoom) old
    unfolding copying_by
    too_many armed r e f = ends _ (by_tests true false (there_is true armed) (sym e ∙ f))

    pub copied :
        all_armed ws a qs ≡ true → (r : Bool) → r ≡ leb (length (column_words ws qs a)) (length old) → r ≡ true → (n : ℕ) → n ≡ length (column_words ws qs a) → (out : List ℕ)
        → out ≡ column_words ws qs a ++ drop (length (column_words ws qs a)) old → Copies ws qs a old (Ok n) out
    unfolding copying_by
    copied armed r e f n c out o =
        let k = ends _ (by_tests true true (there_is true armed) (sym e ∙ f)) in
        (ap Ok c ∙ k.0, o ∙ k.1)

pub fits_told : (ws qs : List ℕ) (a room : ℕ) (r : Bool) → r ≡ leb (length (column_words ws qs a)) room → r ≡ true → length (column_words ws qs a) ≤ room
fits_told ws qs a room r e f = leb-true (length (column_words ws qs a)) room (sym e ∙ f)
