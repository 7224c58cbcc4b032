-- What holding answers and leaves, case by case. Assumes nothing.
use Rattle.std.specs.Prelude.{Option, Result, Ok, Err, is_some}
use Prim.Native.Nat.{ℕ, ◌≤◌, ◌<◌}
use native.Mathlib.Omega.{arith}
use borrow.Author.Tests.{le-leb, lt-leb, leb-true}
use mathlib.Core.Path.{◌≡◌, refl, sym, ◌∙◌, ap, subst}
use mathlib.Core.Bool.{Bool, true, false, ◌&&◌}
use mathlib.Core.Option as maybe
use mathlib.Core.Option.{none, some}
use mathlib.Core.List.{List}
use lib.ListN.{length}
use lib.Dec.{T, leb}
use Rattle.spec_tree.specs.Tokens.{trees_in}
use Rattle.words.specs.tokens.Answers.{count_answer}
use Rattle.words.specs.words.Words.{some_trees, Complete}
use Rattle.reciprocals.specs.reciprocal.Bindings.{all_there}
use Rattle.fusion.specs.place.Overlay.{overlay}
use Rattle.fusion.specs.place.Parts.{words_held}
use Rattle.statements.specs.holding.Holding.{whole_there, room_to_hold, Ready, Holding, holding_by, holding}
use Rattle.statements.specs.declared.holding.HoldError.{HoldError}
use Rattle.statements.specs.declared.holding.HoldError.TheVariants as hold_error
use Rattle.statements.proofs.holding.Front.{held_length}
use Rattle.fusion.proofs.Tests.{some_counted}
use Rattle.spec_tree.proofs.Logic.{both_true}

-- ---- the tests

module _ (ws places : List ℕ) (q : Option ℕ) (s : Bool) (counts : q ≡ count_answer (trees_in ws)) (test : s ≡ is_some q) where
  some_so : s ≡ some_trees (trees_in ws)
  some_so = test ∙ (ap is_some counts ∙ some_counted (trees_in ws))

  pub not_whole : s ≡ false → s ≡ whole_there ws places
  unfolding whole_there
  not_whole f = f ∙ sym (ap (λ (b : Bool). b && all_there ws places) (sym some_so ∙ f))

  pub whole_told : s ≡ true → (r : Bool) → r ≡ all_there ws places → r ≡ whole_there ws places
  unfolding whole_there
  whole_told f r t = t ∙ sym (ap (λ (b : Bool). b && all_there ws places) (sym some_so ∙ f))

whole_so : (ws places : List ℕ) → whole_there ws places ≡ true → Complete ws × (all_there ws places ≡ true)
unfolding whole_there some_trees
whole_so ws places e = go (trees_in ws) refl e
  where
    go : (o : maybe.Option ℕ) → trees_in ws ≡ o → some_trees o && all_there ws places ≡ true → Complete ws × (all_there ws places ≡ true)
    go none s q = absurd (subst T (sym q) tt)
    go (some m) s q = ((m, s), q)

module _ (words places first lent : ℕ) where
  room_so : room_to_hold words places first lent ≡ true → (words ≤ 1927) × ((first ≤ 4294967296) × ((places ≤ 4294967296) × (words ≤ lent)))
  unfolding room_to_hold
  room_so e =
      let a = both_true (leb words 1927) (leb first 4294967296 && (leb places 4294967296 && leb words lent)) e in
      let b = both_true (leb first 4294967296) (leb places 4294967296 && leb words lent) a.1 in
      let c = both_true (leb places 4294967296) (leb words lent) b.1 in
      (leb-true words 1927 a.0, (leb-true first 4294967296 b.0, (leb-true places 4294967296 c.0, leb-true words lent c.1)))

-- ---- the answers

-- what is answered and left is as the definition has it
abbrev pub Holds : List ℕ → List ℕ → ℕ → List ℕ → Result ℕ HoldError → List ℕ → Type 0
Holds ws places first old r out = (r ≡ (holding ws places first old).answer) × (out ≡ (holding ws places first old).out)

module _ (ws places : List ℕ) (first : ℕ) (old : List ℕ) where
  abbrev new : List ℕ
  new = words_held ws first places

  by_tests :
      (b r f : Bool) → whole_there ws places ≡ b → room_to_hold (length ws) (length places) first (length old) ≡ r → leb (length (words_held ws first places)) (length old) ≡ f
      → holding ws places first old ≡ holding_by b r f ws (words_held ws first places) old
  unfolding holding
  by_tests b r f e g h =
      ap (λ (x : Bool). holding_by x (room_to_hold (length ws) (length places) first (length old)) (leb (length new) (length old)) ws new old) e
      ∙ (ap (λ (y : Bool). holding_by b y (leb (length new) (length old)) ws new old) g ∙ ap (λ (z : Bool). holding_by b r z ws new old) h)

  ends : (c : Holding) → holding ws places first old ≡ c → Holds ws places first old c.answer c.out
  ends c e = (ap (λ (x : Holding). x.answer) (sym e), ap (λ (x : Holding). x.out) (sym e))

  pub held_broken : (r : Bool) → r ≡ whole_there ws places → r ≡ false → Holds ws places first old (Err hold_error.Broken) old
  unfolding holding_by
  held_broken r e f =
      ends (record { answer = Err hold_error.Broken; out = old })
      (by_tests false (room_to_hold (length ws) (length places) first (length old)) (leb (length new) (length old)) (sym e ∙ f) refl refl)

  module _ (b : Bool) (e : b ≡ whole_there ws places) (t : b ≡ true) where
    pub held_full : (r : Bool) → r ≡ room_to_hold (length ws) (length places) first (length old) → r ≡ false → Holds ws places first old (Err hold_error.NoRoom) old
    unfolding holding_by
    held_full r g f = ends (record { answer = Err hold_error.NoRoom; out = old }) (by_tests true false (leb (length new) (length old)) (sym e ∙ t) (sym g ∙ f) refl)

    module _ (r : Bool) (g : r ≡ room_to_hold (length ws) (length places) first (length old)) (u : r ≡ true) where
      room_is : (length ws ≤ 1927) × ((first ≤ 4294967296) × ((length places ≤ 4294967296) × (length ws ≤ length old)))
      room_is = room_so (length ws) (length places) first (length old) (sym g ∙ u)

      pub ready_so : Ready ws places first × (length ws ≤ length old)
      ready_so = let q = room_is in ((whole_so ws places (sym e ∙ t), (q.0, (q.1.0, q.1.1.0))), q.1.1.1)

      module _ (n : ℕ) (c : n ≡ length (words_held ws first places)) (out : List ℕ) (w : out ≡ overlay 0 (words_held ws first places) (overlay 0 ws old)) where
        out_long : length out ≡ length old
        out_long = ap length w ∙ held_length ws (words_held ws first places) old

        pub held_many : length out < n → Holds ws places first old (Err hold_error.TooMany) out
        unfolding holding_by
        held_many h =
            let k =
            ends (record { answer = Err hold_error.TooMany; out = overlay 0 new (overlay 0 ws old) })
            (by_tests true true false (sym e ∙ t) (sym g ∙ u) (lt-leb (length new) (length old) (omega (arith, c, h, out_long)))) in
            (k.0, w ∙ k.1)

        pub held_written : n ≤ length out → Holds ws places first old (Ok n) out
        unfolding holding_by
        held_written h =
            let k =
            ends (record { answer = Ok (length new); out = overlay 0 new (overlay 0 ws old) })
            (by_tests true true true (sym e ∙ t) (sym g ∙ u) (le-leb (length new) (length old) (omega (arith, c, h, out_long)))) in
            (ap Ok c ∙ k.0, w ∙ k.1)
