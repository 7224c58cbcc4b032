-- What `list_switches` tells those who ask for trees with a mark for each word. Assumes nothing.
use Prim.Native.Nat.{ℕ, ◌≤◌, ◌<◌}
use native.Mathlib.Omega.{arith}
use mathlib.Core.Path.{◌≡◌, refl, sym, ◌∙◌, ap}
use mathlib.Core.Bool.{Bool, true, false}
use mathlib.Core.List.{List}
use borrow.Author.Tests.{leb-true, leb-false}
use lib.ListN.{length, take, drop}
use lib.Seq.{take_at}
use lib.Dec.{leb}
use Rattle.words.specs.words.Words.{Complete}
use Rattle.laws.specs.switches.Switches.{switch_places}
use Rattle.laws.proofs.switches.Stepping.{places_end, places_few}
use Rattle.fusion.specs.switches.Listing.{Listed, Listing, put_by, put_front, listing}
use Rattle.std.specs.Prelude.{Result, Ok, Err}
use Rattle.fusion.specs.declared.switches.SwitchError.{SwitchError}
use Rattle.fusion.specs.declared.switches.SwitchError.TheVariants as switch_error
use Rattle.fusion.proofs.switches.Listed.{puts_all}
use Rattle.fusion.proofs.switches.Giving.{puts_are}

-- no more switches than words
pub switches_few : (ws : List ℕ) → length (switch_places ws) ≤ length ws
switches_few ws = omega (arith, ap length (places_end ws), places_few ws (length ws))

module _ (ws : List ℕ) (marks : ℕ) (old : List ℕ) (complete : Complete ws) (marked : length ws ≤ marks) where
  answered : (r : Result ℕ SwitchError) → r ≡ (listing ws marks old).answer → r ≡ (put_front (switch_places ws) old).answer
  answered r e = e ∙ ap (λ (x : Listing). x.answer) (puts_are ws marks old complete marked)

  -- a count is told where there is a place for each
  counted : (b : Bool) (n : ℕ) → Ok n ≡ (put_by b (switch_places ws) old).answer → b ≡ true
  unfolding put_by
  counted true n e = refl
  counted false n e = absurd (let z : ◌≡◌ {A = ℕ} 0 1 = cc in omega arith)

  uncounted : (b : Bool) → (Err switch_error.TooMany) ≡ (put_by b (switch_places ws) old).answer → b ≡ false
  unfolding put_by
  uncounted true e = absurd (let z : ◌≡◌ {A = ℕ} 0 1 = cc in omega arith)
  uncounted false e = refl

  pub all_fit : (n : ℕ) → Ok n ≡ (listing ws marks old).answer → length (switch_places ws) ≤ length old
  unfolding put_front
  all_fit n e = leb-true (length (switch_places ws)) (length old) (counted (leb (length (switch_places ws)) (length old)) n (answered (Ok n) e))

  pub more_than_lent : (Err switch_error.TooMany) ≡ (listing ws marks old).answer → length old < length (switch_places ws)
  unfolding put_front
  more_than_lent e = leb-false (length (switch_places ws)) (length old) (uncounted (leb (length (switch_places ws)) (length old)) (answered (Err switch_error.TooMany) e))

  pub listed_all : (n : ℕ) (out : List ℕ) → Ok n ≡ (listing ws marks old).answer → out ≡ (listing ws marks old).out → Listed (switch_places ws) old n out
  listed_all n out e f =
      let s = puts_are ws marks old complete marked ∙ puts_all (switch_places ws) old (all_fit n e) in
      let q : Ok n ≡ Ok (length (switch_places ws)) = e ∙ ap (λ (x : Listing). x.answer) s in
      let c : n ≡ length (switch_places ws) = cc in
      record { count = c; places = f ∙ ap (λ (x : Listing). x.out) s }

  never_broken : (b : Bool) → (Err switch_error.Broken) ≡ (put_by b (switch_places ws) old).answer → ⊥
  unfolding put_by
  never_broken true e = let z : ◌≡◌ {A = ℕ} 0 1 = cc in omega arith
  never_broken false e = let z : ◌≡◌ {A = ℕ} 0 1 = cc in omega arith

  never_full : (b : Bool) → (Err switch_error.NoRoom) ≡ (put_by b (switch_places ws) old).answer → ⊥
  unfolding put_by
  never_full true e = let z : ◌≡◌ {A = ℕ} 0 1 = cc in omega arith
  never_full false e = let z : ◌≡◌ {A = ℕ} 0 1 = cc in omega arith

  pub not_broken : (Err switch_error.Broken) ≡ (listing ws marks old).answer → ⊥
  unfolding put_front
  not_broken e = never_broken (leb (length (switch_places ws)) (length old)) (answered (Err switch_error.Broken) e)

  pub not_full : (Err switch_error.NoRoom) ≡ (listing ws marks old).answer → ⊥
  unfolding put_front
  not_full e = never_full (leb (length (switch_places ws)) (length old)) (answered (Err switch_error.NoRoom) e)

-- the first places are the switches
pub front_is : {new old : List ℕ} {n : ℕ} {out : List ℕ} → Listed new old n out → take n out ≡ new
front_is {new} {old} {n} {out} k = ap (take n) k.places ∙ take_at new (drop (length new) old) n (sym k.count)
