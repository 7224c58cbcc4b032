-- Whether a switch with such an arm stands at a place, and at each of some places: what the tests tell, and how they go on and end. Assumes nothing.
use Prim.Native.Nat.{ℕ, zero, suc, ◌-◌, ◌≤◌, ◌<◌}
use native.Mathlib.Omega.{arith}
use borrow.Author.Tests.{leb-true, ltb-true}
use mathlib.Core.Path.{◌≡◌, refl, sym, ◌∙◌, ap, subst}
use mathlib.Core.Bool.{Bool, true, false, ◌&&◌}
use mathlib.Core.List.{List, [], ◌∷◌}
use lib.ListN.{length, get_or}
use lib.Dec.{T, leb, ltb}
use Rattle.spec_tree.specs.Tokens.{kind_of, takes}
use Rattle.laws.specs.switches.Switches.{switch_at, arm_count}
use Rattle.laws.proofs.switches.Collected.{Switching}
use Rattle.fusion.specs.groups.Answers.{switch_stands}
use Rattle.fusion.specs.groups.Copying.{armed_at, all_armed}
use Rattle.spec_tree.proofs.Logic.{both_true}

-- ---- tests joined

pub and_false : (b : Bool) → b && false ≡ false
and_false true = refl
and_false false = refl

-- ---- one place

-- a switch with an arm of number a
abbrev pub HasArm : List ℕ → ℕ → ℕ → Type 0
HasArm ws a q = Switching ws q × (a < arm_count ws q)

pub has_arm : (ws : List ℕ) (a q : ℕ) → armed_at ws a q ≡ true → HasArm ws a q
unfolding armed_at
has_arm ws a q e =
    let f = both_true (ltb q (length ws)) (switch_at ws q && ltb a (arm_count ws q)) e in
    let g = both_true (switch_at ws q) (ltb a (arm_count ws q)) f.1 in
    ((ltb-true q (length ws) f.0, subst T (sym g.0) tt), ltb-true a (arm_count ws q) g.1)

module _ (ws : List ℕ) (a q : ℕ) where
  armed_by : armed_at ws a q ≡ (switch_stands ws q && ltb a (arm_count ws q))
  unfolding armed_at switch_stands
  armed_by = go (ltb q (length ws))
    where
      go : (b : Bool) → (b && (switch_at ws q && ltb a (arm_count ws q))) ≡ ((b && switch_at ws q) && ltb a (arm_count ws q))
      go true = refl
      go false = refl

  pub some_operand : true ≡ switch_stands ws q → 1 ≤ takes (get_or ws q 0)
  unfolding switch_stands switch_at
  some_operand e =
      let f = both_true (ltb q (length ws)) (leb 26 (kind_of (get_or ws q 0)) && leb 1 (takes (get_or ws q 0))) (sym e) in
      leb-true 1 (takes (get_or ws q 0)) (both_true (leb 26 (kind_of (get_or ws q 0))) (leb 1 (takes (get_or ws q 0))) f.1).1

  pub arm_of_switch : true ≡ switch_stands ws q → (n : ℕ) → n ≡ takes (get_or ws q 0) → ltb a (n - 1) ≡ armed_at ws a q
  unfolding arm_count
  arm_of_switch e n c = ap (λ (j : ℕ). ltb a (j - 1)) c ∙ sym (armed_by ∙ ap (λ (b : Bool). b && ltb a (takes (get_or ws q 0) - 1)) (sym e))

  pub no_switch_there : (r : Bool) → r ≡ switch_stands ws q → r ≡ false → r ≡ armed_at ws a q
  no_switch_there r e f = f ∙ sym (armed_by ∙ ap (λ (b : Bool). b && ltb a (arm_count ws q)) (sym e ∙ f))

-- ---- each place

pub armed_one : (ws : List ℕ) (a : ℕ) (qs : List ℕ) (k : ℕ) → all_armed ws a qs ≡ true → k < length qs → armed_at ws a (get_or qs k 0) ≡ true
unfolding all_armed
armed_one ws a [] k e h = absurd (omega arith)
armed_one ws a (q ∷ qs) zero e h = (both_true (armed_at ws a q) (all_armed ws a qs) e).0
armed_one ws a (q ∷ qs) (suc k) e h = armed_one ws a qs k (both_true (armed_at ws a q) (all_armed ws a qs) e).1 (omega arith)
