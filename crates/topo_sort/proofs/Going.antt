-- The order while it is made: what is still to take leads to the order of the definition; so the positions on the stack and those taken are no more than there
-- are, and the top wasn't taken yet. Assumes nothing.
use Prim.Native.Nat.{ℕ, zero, suc, ◌+◌, ◌-◌, ◌≤◌, ◌<◌, min}
use mathlib.Core.Path.{◌≡◌, refl, sym, ◌∙◌, subst}
use mathlib.Core.List.{List, [], ◌∷◌}
use native.Mathlib.Omega.{arith}
use lib.Dec.{T}
use lib.ListN.{length}
use Rattle.spec_cse.specs.Order.{member, free_from, joining, push, take_all, positions_taken}
use Rattle.laws.proofs.cse.OrderLaws.{All, Distinct, taken_ok, taken_enough, at_most}
use Rattle.topo_sort.proofs.Stacks.{push_length}

-- what holds of the whole order holds of what was taken before
taken_part :
    (P : List ℕ → Type 0) → ((i : ℕ) (l : List ℕ) → P (i ∷ l) → P l) → (fuel : ℕ) (table : List (List ℕ)) (stack done : List ℕ)
    → P (take_all fuel table stack done) → P done
unfolding take_all
taken_part P e zero table stack done p = p
taken_part P e (suc fuel) table [] done p = p
taken_part P e (suc fuel) table (i ∷ stack) done p = e i done (taken_part P e fuel table (push (joining 0 i (i ∷ done) table) stack) (i ∷ done) p)

-- as many steps, as many taken, while the stack lasts
taken_most : (m fuel : ℕ) (table : List (List ℕ)) (stack done : List ℕ) → m ≤ length stack → m ≤ fuel → m + length done ≤ length (take_all fuel table stack done)
unfolding take_all
taken_most m zero table stack done h k = omega arith
taken_most m (suc fuel) table [] done h k = omega arith
taken_most zero (suc fuel) table (i ∷ stack) done h k =
    let q = taken_most zero fuel table (push (joining 0 i (i ∷ done) table) stack) (i ∷ done) (omega arith) (omega arith) in
    omega arith
taken_most (suc m) (suc fuel) table (i ∷ stack) done h k =
    let l = push_length (joining 0 i (i ∷ done) table) stack in
    let q = taken_most m fuel table (push (joining 0 i (i ∷ done) table) stack) (i ∷ done) (omega arith) (omega arith) in
    omega arith

take_none : (fuel : ℕ) (table : List (List ℕ)) (done : List ℕ) → take_all fuel table [] done ≡ done
unfolding take_all
take_none zero table done = refl
take_none (suc fuel) table done = refl

take_one :
    (fuel : ℕ) (table : List (List ℕ)) (i : ℕ) (stack done : List ℕ)
    → take_all (suc fuel) table (i ∷ stack) done ≡ take_all fuel table (push (joining 0 i (i ∷ done) table) stack) (i ∷ done)
unfolding take_all
take_one fuel table i stack done = refl

module _ (table : List (List ℕ)) where
  -- one step more than there are positions is always left over
  pub record Going (stack done : List ℕ) : Type 0 where
    pub leads : take_all (suc (length table) - length done) table stack done ≡ positions_taken table
    pub few : length done ≤ length table

  pub going_starts : Going (push (free_from 0 table) []) []
  going_starts = record { leads = rw (let e : suc (length table) - 0 ≡ 1 + length table = omega arith in e) (taken_enough table 1); few = omega arith }

  whole_few : length (positions_taken table) ≤ length table
  whole_few = let k = taken_ok table in at_most (length table) (positions_taken table) k.distinct k.inside

  -- those on the stack and those taken are no more than there are
  pub going_room : (stack done : List ℕ) → Going stack done → length stack + length done ≤ length table
  going_room stack done g =
      let fuel = suc (length table) - length done in
      let q : min (length stack) fuel + length done ≤ length (positions_taken table) =
      subst (λ (l : List ℕ). min (length stack) fuel + length done ≤ length l) g.leads (taken_most (min (length stack) fuel) fuel table stack done (omega arith) (omega arith))
      in
      omega (arith, q, whole_few, g.few)

  pub going_turns : (i : ℕ) (stack done : List ℕ) → Going (i ∷ stack) done → Going (push (joining 0 i (i ∷ done) table) stack) (i ∷ done)
  going_turns i stack done g =
      let r = going_room (i ∷ stack) done g in
      let e : suc (suc (length table) - suc (length done)) ≡ suc (length table) - length done = omega arith in
      record {
        leads = sym (take_one (suc (length table) - suc (length done)) table i stack done) ∙ rw e g.leads;
        few = omega arith;
      }

  of_taken : (P : List ℕ → Type 0) → ((i : ℕ) (l : List ℕ) → P (i ∷ l) → P l) → P (positions_taken table) → (stack done : List ℕ) → Going stack done → P done
  of_taken P e p stack done g = taken_part P e (suc (length table) - length done) table stack done (subst P (sym g.leads) p)

  -- the top is a position that wasn't taken yet
  pub going_fresh : (i : ℕ) (stack done : List ℕ) → Going (i ∷ stack) done → (T (member i done) → ⊥) × (i < length table)
  going_fresh i stack done g =
      let t = going_turns i stack done g in
      let k = taken_ok table in (
        (of_taken Distinct (λ j l d. d.1) k.distinct (push (joining 0 i (i ∷ done) table) stack) (i ∷ done) t).0,
        (of_taken (All (λ j. j < length table)) (λ j l d. d.1) k.inside (push (joining 0 i (i ∷ done) table) stack) (i ∷ done) t).0,
      )

  pub going_ends : (done : List ℕ) → Going [] done → done ≡ positions_taken table
  going_ends done g = sym (take_none (suc (length table) - length done) table done) ∙ g.leads
