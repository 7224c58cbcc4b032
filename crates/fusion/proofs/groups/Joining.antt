-- Whether two switches join, by their words and keys, and the first that a switch joins, one by one. Assumes nothing.
use Prim.Native.Nat.{ℕ, suc, ◌+◌, ◌-◌, ◌≤◌, ◌<◌}
use native.Mathlib.Omega.{arith}
use mathlib.Core.Path.{◌≡◌, refl, sym, ◌∙◌, ap, subst}
use mathlib.Core.Bool.{Bool, true, false, ◌&&◌}
use mathlib.Core.List.{List}
use borrow.Author.Tests.{eq-eqb, ne_eqb}
use lib.ListN.{length, get_or}
use lib.Dec.{T, eqb}
use Rattle.spec_tree.specs.Tree.{eq_tree}
use Rattle.words.specs.words.Words.{Complete}
use Rattle.laws.specs.positions.Places.{numbered_at}
use Rattle.laws.proofs.positions.DivisorPlaces.{enough}
use Rattle.laws.specs.switches.Switches.{key_place}
use Rattle.laws.specs.switches.Groups.{joins_at, member, first_joined, group_first}
use Rattle.laws.proofs.switches.Parts.{has_key}
use Rattle.laws.proofs.switches.Words.{place_within}
use Rattle.laws.proofs.switches.Joining.{joins_back, joins_on, joins_by_word, none_sooner, first_joins}
use Rattle.fusion.specs.groups.Answers.{switch_stands}
use Rattle.fusion.proofs.groups.Standing.{stands_inside, stands_switch}

-- ---- two switches

-- a switch's key is there
pub key_inside : (ws : List ℕ) (p : ℕ) → Complete ws → T (switch_stands ws p) → p + 1 < length ws
key_inside ws p c t =
    let k = (has_key ws p (stands_switch ws p t)).0 in
    let n = enough ws c.0 c.1 p (stands_inside ws p t) in
    let h = place_within ws (suc p) (omega (arith, k, n)) in
    omega arith

module _ (ws : List ℕ) (p q : ℕ) (s : T (switch_stands ws p)) (t : T (switch_stands ws q)) where
  by_both : (b : Bool) → eqb (get_or ws p 0) (get_or ws q 0) ≡ b → joins_at ws p q ≡ (b && eq_tree (numbered_at ws (p + 1)) (numbered_at ws (q + 1)))
  unfolding key_place
  by_both b e =
      let i : suc p ≡ p + 1 = omega arith in
      let j : suc q ≡ q + 1 = omega arith in
      joins_by_word ws p q (stands_switch ws p s) (stands_switch ws q t)
      ∙ ap (λ (c : Bool). c && eq_tree (numbered_at ws (suc p)) (numbered_at ws (suc q))) e
      ∙ ap (λ (k : ℕ). b && eq_tree (numbered_at ws k) (numbered_at ws (suc q))) i
      ∙ ap (λ (k : ℕ). b && eq_tree (numbered_at ws (p + 1)) (numbered_at ws k)) j

  pub other_word : (get_or ws p 0 ≡ get_or ws q 0 → ⊥) → false ≡ joins_at ws p q
  other_word ne = sym (by_both false (ne_eqb (get_or ws p 0) (get_or ws q 0) ne))

  pub by_keys : get_or ws p 0 ≡ get_or ws q 0 → (b : Bool) → b ≡ eq_tree (numbered_at ws (p + 1)) (numbered_at ws (q + 1)) → b ≡ joins_at ws p q
  by_keys e b d = d ∙ sym (by_both true (eq-eqb (get_or ws p 0) (get_or ws q 0) e))

-- ---- the first that a switch joins

module _ (ws ps : List ℕ) (i : ℕ) where
  -- it joins none of the first j
  pub record Seeking (j : ℕ) : Type 0 where
    pub within : j ≤ i
    pub rest : group_first ws ps i ≡ first_joined ws ps i j (i - j)

  pub seeking_starts : Seeking 0
  unfolding group_first
  seeking_starts = let z : i ≡ i - 0 = omega arith in record { within = omega arith; rest = ap (first_joined ws ps i 0) z }

  module _ {j : ℕ} (s : Seeking j) (h : j < i) where
    here : (b : Bool) → joins_at ws (get_or ps j 0) (get_or ps i 0) ≡ b
        → group_first ws ps i ≡ elim b as (λ _. ℕ) [ true ↦ j | false ↦ first_joined ws ps i (suc j) (i - suc j) ]
    unfolding first_joined member
    here b e =
        let z : i - j ≡ suc (i - suc j) = omega arith in
        s.rest ∙ ap (first_joined ws ps i j) z ∙ ap (λ (c : Bool). elim c as (λ _. ℕ) [ true ↦ j | false ↦ first_joined ws ps i (suc j) (i - suc j) ]) e

    pub joins_there : true ≡ joins_at ws (get_or ps j 0) (get_or ps i 0) → j ≡ group_first ws ps i
    joins_there e = sym (here true (sym e))

    pub goes_past : false ≡ joins_at ws (get_or ps j 0) (get_or ps i 0) → Seeking (j + 1)
    goes_past e =
        let k : suc j ≡ j + 1 = omega arith in
        record { within = omega arith; rest = here false (sym e) ∙ ap (λ (x : ℕ). first_joined ws ps i x (i - x)) k }

  pub seeking_ends : {j : ℕ} → Seeking j → i ≤ j → i ≡ group_first ws ps i
  unfolding first_joined
  seeking_ends {j} s h =
      let z : i - j ≡ 0 = omega arith in
      let k : i ≡ j = omega (arith, s.within) in
      k ∙ sym (s.rest ∙ ap (first_joined ws ps i j) z)

  -- ---- where it opens a group, the members are those that join it: joining is an equivalence

  module _ (opens : group_first ws ps i ≡ i) (j : ℕ) where
    abbrev first : ℕ
    first = group_first ws ps j

    no_sooner : T (joins_at ws (get_or ps i 0) (get_or ps j 0)) → first < i → ⊥
    unfolding member
    no_sooner t h =
        let back = joins_back ws (get_or ps i 0) (get_or ps j 0) t in
        let both = joins_on ws (get_or ps first 0) (get_or ps j 0) (get_or ps i 0) (first_joins ws ps j) back in
        subst (λ (b : Bool). T b) (none_sooner ws ps i first (omega (arith, opens, h))) both

    no_later : T (joins_at ws (get_or ps i 0) (get_or ps j 0)) → i < first → ⊥
    unfolding member
    no_later t h = subst (λ (b : Bool). T b) (none_sooner ws ps j i h) t

    apart : (a b : ℕ) → (a < b → ⊥) → (b < a → ⊥) → a ≡ b
    apart a b f g = omega (arith, f, g)

    pub member_joins : eqb first i ≡ joins_at ws (get_or ps i 0) (get_or ps j 0)
    unfolding member
    member_joins = go (joins_at ws (get_or ps i 0) (get_or ps j 0)) refl
      where
        go : (b : Bool) → joins_at ws (get_or ps i 0) (get_or ps j 0) ≡ b → eqb first i ≡ b
        go true e =
            let t = subst (λ (b : Bool). T b) (sym e) tt in
            eq-eqb first i (apart first i (no_sooner t) (no_later t))
        go false e =
            ne_eqb first i
            (λ d. subst (λ (b : Bool). T b) (ap (λ (k : ℕ). joins_at ws (get_or ps k 0) (get_or ps j 0)) d ∙ e) (first_joins ws ps j))
