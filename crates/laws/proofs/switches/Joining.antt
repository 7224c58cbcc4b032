-- Which switches join, by places (specs, Groups): it is what the definition of groups asks of the switches there, and an equivalence. Assumes nothing.
use Prim.Native.Nat.{ℕ, zero, suc, ◌+◌, ◌-◌, ◌≤◌, ◌<◌}
use native.Mathlib.Omega.{arith}
use mathlib.Core.Path.{◌≡◌, refl, sym, ◌∙◌, ap, ap₂, subst}
use mathlib.Core.Bool.{Bool, true, false, ◌&&◌}
use mathlib.Core.List.{List, map}
use borrow.Author.Tests.{eqb-true, eqb-false}
use lib.ListN.{length, get_or, length-map}
use lib.Dec.{T, eqb, eqb→eq}
use Rattle.spec_tree.specs.Tree.{Tree, eq_tree}
use Rattle.spec_tree.specs.Tokens.{kind_of, takes}
use Rattle.spec_tree.proofs.Logic.{and_left, and_right, and_both}
use Rattle.spec_tree.proofs.Tests.{eq→eqb}
use Rattle.spec_tree.proofs.TreeLaws.{eq_tree_sound, eq_tree_refl}
use Rattle.spec_tree.proofs.TokenLaws.{operation_takes}
use Rattle.spec_cse.specs.Scope.{joins}
use Rattle.laws.specs.positions.Places.{numbered_at}
use Rattle.laws.specs.switches.Switches.{switch_at, key_place, arm_count, arm_places, switch_there}
use Rattle.laws.specs.switches.Groups.{joins_at, member, first_joined, group_first}
use Rattle.laws.proofs.switches.Parts.{arms_length, has_key}
use Rattle.laws.proofs.switches.Collected.{is_so}

module _ (ws : List ℕ) where
  pub arms_counted : (p : ℕ) → length (map (numbered_at ws) (arm_places ws p)) ≡ arm_count ws p
  unfolding arm_places
  arms_counted p = length-map (arm_places ws p) (numbered_at ws) ∙ arms_length ws p (arm_count ws p)

  pub joins_there : (p q : ℕ) → joins (switch_there ws p) (switch_there ws q) ≡ joins_at ws p q
  unfolding joins joins_at switch_there
  joins_there p q =
      ap₂
      (λ (a b : ℕ). eqb (kind_of (get_or ws p 0)) (kind_of (get_or ws q 0)) && (eq_tree (numbered_at ws (key_place p)) (numbered_at ws (key_place q)) && eqb a b))
      (arms_counted p) (arms_counted q)

  -- ---- an equivalence

  pub record Joined (p q : ℕ) : Type 0 where
    pub kind : kind_of (get_or ws p 0) ≡ kind_of (get_or ws q 0)
    pub key : numbered_at ws (key_place p) ≡ numbered_at ws (key_place q)
    pub count : arm_count ws p ≡ arm_count ws q

  pub joined_so : (p q : ℕ) → T (joins_at ws p q) → Joined p q
  unfolding joins_at
  joined_so p q t =
      let a = eqb (kind_of (get_or ws p 0)) (kind_of (get_or ws q 0)) in
      let b = eq_tree (numbered_at ws (key_place p)) (numbered_at ws (key_place q)) in
      let c = eqb (arm_count ws p) (arm_count ws q) in
      let r = and_right a (b && c) t in
      record {
        kind = eqb→eq (kind_of (get_or ws p 0)) (kind_of (get_or ws q 0)) (and_left a (b && c) t);
        key = eq_tree_sound (numbered_at ws (key_place p)) (numbered_at ws (key_place q)) (and_left b c r);
        count = eqb→eq (arm_count ws p) (arm_count ws q) (and_right b c r);
      }

  pub so_joined : (p q : ℕ) → Joined p q → T (joins_at ws p q)
  unfolding joins_at
  so_joined p q j =
      let a = eqb (kind_of (get_or ws p 0)) (kind_of (get_or ws q 0)) in
      let b = eq_tree (numbered_at ws (key_place p)) (numbered_at ws (key_place q)) in
      let c = eqb (arm_count ws p) (arm_count ws q) in
      and_both a (b && c) (eq→eqb (kind_of (get_or ws p 0)) (kind_of (get_or ws q 0)) j.kind)
      (and_both b c
      (subst (λ (t : Tree). T (eq_tree (numbered_at ws (key_place p)) t)) j.key (eq_tree_refl (numbered_at ws (key_place p))))
      (eq→eqb (arm_count ws p) (arm_count ws q) j.count))

  pub joins_itself : (p : ℕ) → T (joins_at ws p p)
  joins_itself p = so_joined p p (record { kind = refl; key = refl; count = refl })

  pub joins_back : (p q : ℕ) → T (joins_at ws p q) → T (joins_at ws q p)
  joins_back p q t = let j = joined_so p q t in so_joined q p (record { kind = sym j.kind; key = sym j.key; count = sym j.count })

  pub joins_on : (p q r : ℕ) → T (joins_at ws p q) → T (joins_at ws q r) → T (joins_at ws p r)
  joins_on p q r s t =
      let j = joined_so p q s in
      let k = joined_so q r t in
      so_joined p r (record { kind = j.kind ∙ k.kind; key = j.key ∙ k.key; count = j.count ∙ k.count })

  -- ---- switches join where their words and their keys are equal

  so_is : (b c : Bool) → (T b → T c) → (T c → T b) → b ≡ c
  so_is true true f g = refl
  so_is true false f g = absurd (f tt)
  so_is false true f g = absurd (g tt)
  so_is false false f g = refl

  pub joins_by_word :
      (p q : ℕ) → T (switch_at ws p) → T (switch_at ws q)
      → joins_at ws p q ≡ (eqb (get_or ws p 0) (get_or ws q 0) && eq_tree (numbered_at ws (key_place p)) (numbered_at ws (key_place q)))
  unfolding arm_count
  joins_by_word p q s t =
      let w = get_or ws p 0 in
      let v = get_or ws q 0 in
      let key = eq_tree (numbered_at ws (key_place p)) (numbered_at ws (key_place q)) in
      let a = has_key ws p s in
      let b = has_key ws q t in
      let ka = a.0 in
      let kb = b.0 in
      let la = a.1 in
      let lb = b.1 in
      let ta = operation_takes w (omega arith) in
      let tb = operation_takes v (omega arith) in
      so_is (joins_at ws p q) (eqb w v && key)
      (λ u.
      let j = joined_so p q u in
      let jk = j.kind in
      let jc = j.count in
      let same : w ≡ v = omega arith in
      and_both (eqb w v) key (eq→eqb w v same)
      (subst (λ (t : Tree). T (eq_tree (numbered_at ws (key_place p)) t)) j.key (eq_tree_refl (numbered_at ws (key_place p)))))
      (λ u.
      let e : w ≡ v = eqb→eq w v (and_left (eqb w v) key u) in
      so_joined p q
      (record {
        kind = ap kind_of e;
        key = eq_tree_sound (numbered_at ws (key_place p)) (numbered_at ws (key_place q)) (and_right (eqb w v) key u);
        count = ap (λ (x : ℕ). takes x - 1) e;
      }))

  -- ---- the first that a member joins

  module _ (ps : List ℕ) where
    pub record First (i j n r : ℕ) : Type 0 where
      pub from : j ≤ r
      pub to : r ≤ j + n
      pub none_before : (k : ℕ) → j ≤ k → k < r → joins_at ws (member ps k) (member ps i) ≡ false
      pub one_there : r < j + n → T (joins_at ws (member ps r) (member ps i))

    pub first_is : (i j n : ℕ) → First i j n (first_joined ws ps i j n)
    unfolding first_joined
    first_is i j zero =
        record { from = omega arith; to = omega arith; none_before = λ k g h. absurd (omega arith); one_there = λ h. absurd (omega arith) }
    first_is i j (suc n) = go (joins_at ws (member ps j) (member ps i)) refl (first_is i (suc j) n)
      where
        go : (b : Bool) → joins_at ws (member ps j) (member ps i) ≡ b → First i (suc j) n (first_joined ws ps i (suc j) n)
            → First i j (suc n) (elim b [ true ↦ j | false ↦ first_joined ws ps i (suc j) n ])
        go true e f =
            record {
              from = omega arith;
              to = omega arith;
              none_before = λ k g h. absurd (omega arith);
              one_there = λ h. is_so (joins_at ws (member ps j) (member ps i)) e;
            }
        go false e f =
            let a = f.from in
            let b = f.to in
            record {
              from = omega arith;
              to = omega arith;
              none_before = λ k g h. here_or k g h e f (eqb k j) refl;
              one_there = λ h. f.one_there (omega arith);
            }
          where
            here_or : (k : ℕ) → j ≤ k → k < first_joined ws ps i (suc j) n → joins_at ws (member ps j) (member ps i) ≡ false → First i (suc j) n (first_joined ws ps i (suc j) n)
                → (c : Bool) → eqb k j ≡ c → joins_at ws (member ps k) (member ps i) ≡ false
            here_or k g h e f true d = ap (λ (x : ℕ). joins_at ws (member ps x) (member ps i)) (eqb-true k j d) ∙ e
            here_or k g h e f false d = let ne = eqb-false k j d in f.none_before k (omega (arith, ne)) h

    -- a member's group is opened by it or by one before it
    pub first_within : (i : ℕ) → group_first ws ps i ≤ i
    unfolding group_first
    first_within i = let f = (first_is i 0 i).to in omega arith

    pub none_sooner : (i k : ℕ) → k < group_first ws ps i → joins_at ws (member ps k) (member ps i) ≡ false
    unfolding group_first
    none_sooner i k h = (first_is i 0 i).none_before k (omega arith) h

    one_then : (i : ℕ) → group_first ws ps i < i → T (joins_at ws (member ps (group_first ws ps i)) (member ps i))
    unfolding group_first
    one_then i h = (first_is i 0 i).one_there (omega arith)

    pub first_joins : (i : ℕ) → T (joins_at ws (member ps (group_first ws ps i)) (member ps i))
    first_joins i = go (eqb (group_first ws ps i) i) refl
      where
        go : (b : Bool) → eqb (group_first ws ps i) i ≡ b → T (joins_at ws (member ps (group_first ws ps i)) (member ps i))
        go true e = subst (λ (k : ℕ). T (joins_at ws (member ps k) (member ps i))) (sym (eqb-true (group_first ws ps i) i e)) (joins_itself (member ps i))
        go false e =
            let ne = eqb-false (group_first ws ps i) i e in
            let le = first_within i in
            one_then i (omega (arith, ne, le))

    -- and the one that opens it is in its own
    pub first_opens : (i : ℕ) → group_first ws ps (group_first ws ps i) ≡ group_first ws ps i
    first_opens i = go (eqb (group_first ws ps (group_first ws ps i)) (group_first ws ps i)) refl
      where
        go : (b : Bool) → eqb (group_first ws ps (group_first ws ps i)) (group_first ws ps i) ≡ b → group_first ws ps (group_first ws ps i) ≡ group_first ws ps i
        go true e = eqb-true (group_first ws ps (group_first ws ps i)) (group_first ws ps i) e
        go false e =
            let h = group_first ws ps i in
            let g = group_first ws ps h in
            let ne = eqb-false g h e in
            let le = first_within h in
            let both = joins_on (member ps g) (member ps h) (member ps i) (first_joins h) (first_joins i) in
            absurd (subst (λ (b : Bool). T b) (none_sooner i g (omega (arith, ne, le))) both)
