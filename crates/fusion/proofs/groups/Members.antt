-- The members of one group so far: how they start, go on and end. Assumes nothing.
use Prim.Native.Nat.{ℕ, zero, suc, ◌+◌, ◌-◌, ◌≤◌, ◌<◌}
use native.Mathlib.Omega.{arith}
use mathlib.Core.Path.{◌≡◌, refl, sym, ◌∙◌, ap, ap₂}
use mathlib.Core.Bool.{Bool, true, false}
use mathlib.Core.List.{List, [], ◌∷◌, ◌++◌, append-nil, append_assoc, map}
use borrow.Author.Tests.{ne_eqb}
use lib.ListN.{length, get_or, drop, set, length-append, length-drop, length-map}
use lib.Seq.{drop-cons, set_at}
use lib.Dec.{eqb}
use Rattle.spec_tree.proofs.TokenLaws.{map_append}
use Rattle.laws.specs.switches.Groups.{joins_at, member, group_first, members_within, members_from, members_of, member_places}
use Rattle.laws.proofs.switches.Joining.{first_within}
use Rattle.laws.proofs.switches.Remaining.{members_remain}
use Rattle.fusion.specs.groups.Answers.{Front}
use Rattle.fusion.proofs.groups.Joining.{member_joins}

module _ (ws ps : List ℕ) (i : ℕ) where
  abbrev numbers : ℕ → List ℕ
  numbers j = members_within ws ps i j

  abbrev so_far : ℕ → List ℕ
  so_far j = map (member ps) (numbers j)

  pub record State (old out : List ℕ) (n j : ℕ) : Type 0 where
    pub from : i ≤ j
    pub inside : j ≤ length ps
    pub count : n ≡ length (members_within ws ps i j)
    pub written : out ≡ map (member ps) (members_within ws ps i j) ++ drop n old

  -- a group has no member before the one that opens it
  none_before : (n : ℕ) → n ≤ i → numbers n ≡ []
  unfolding members_within
  none_before zero h = refl
  none_before (suc n) h =
      let w = first_within ws ps n in
      let other : eqb (group_first ws ps n) i ≡ false = ne_eqb (group_first ws ps n) i (λ e. omega arith) in
      ap₂ (λ (l : List ℕ) (b : Bool). l ++ elim b as (λ _. List ℕ) [ true ↦ n ∷ [] | false ↦ [] ]) (none_before n (omega arith)) other

  pub starts : (old : List ℕ) → i < length ps → State old old 0 i
  starts old h =
      let e = none_before i (omega arith) in
      record { from = omega arith; inside = omega arith; count = sym (ap length e); written = sym (ap (λ (l : List ℕ). map (member ps) l ++ old) e) }

  -- no more than all
  few : (j : ℕ) → j ≤ length ps → length (numbers j) ≤ length (member_places ws ps i)
  unfolding member_places
  few j h =
      let n = length ps - j in
      let e = ap length (members_remain ws ps i j n (omega arith)) in
      omega (arith, e, length-append (numbers j) (members_from ws ps i j n), length-map (members_of ws ps i) (member ps))

  module _ {old out : List ℕ} {n j : ℕ} (s : State old out n j) where
    pub group_long : length (member_places ws ps i) ≤ length old → length out ≡ length old
    group_long room =
        ap length s.written
        ∙ omega (arith, length-append (so_far j) (drop n old), length-map (numbers j) (member ps), length-drop n old, s.count, few j s.inside, room)

    module _ (opens : group_first ws ps i ≡ i) (h : j < length ps) where
      next : (b : Bool) → b ≡ joins_at ws (get_or ps i 0) (get_or ps j 0) → numbers (j + 1) ≡ numbers j ++ elim b as (λ _. List ℕ) [ true ↦ j ∷ [] | false ↦ [] ]
      unfolding members_within
      next b e =
          let k : j + 1 ≡ suc j = omega arith in
          ap numbers k ∙ ap (λ (c : Bool). numbers j ++ elim c as (λ _. List ℕ) [ true ↦ j ∷ [] | false ↦ [] ]) (member_joins ws ps i opens j ∙ sym e)

      pub turn_none : false ≡ joins_at ws (get_or ps i 0) (get_or ps j 0) → State old out n (j + 1)
      turn_none e =
          let g : numbers (j + 1) ≡ numbers j = next false e ∙ append-nil (numbers j) in
          record {
            from = omega (arith, s.from);
            inside = omega arith;
            count = s.count ∙ ap length (sym g);
            written = s.written ∙ ap (λ (l : List ℕ). map (member ps) l ++ drop n old) (sym g);
          }

      module _ (e : true ≡ joins_at ws (get_or ps i 0) (get_or ps j 0)) (room : length (member_places ws ps i) ≤ length old) where
        -- one more fits
        pub one_fits : n < length old
        one_fits = omega (arith, ap length (next true e), length-append (numbers j) (j ∷ []), s.count, few (j + 1) (omega arith), room)

        one_longer : so_far (j + 1) ≡ so_far j ++ (get_or ps j 0 ∷ [])
        unfolding member
        one_longer = ap (map (member ps)) (next true e) ∙ map_append (member ps) (numbers j) (j ∷ [])

        pub turn_one : State old (set out n (get_or ps j 0)) (n + 1) (j + 1)
        turn_one =
            let q = get_or ps j 0 in
            let k : suc n ≡ n + 1 = omega arith in
            let l : length (so_far j) ≡ n = length-map (numbers j) (member ps) ∙ sym s.count in
            record {
              from = omega (arith, s.from);
              inside = omega arith;
              count = omega (arith, ap length (next true e), length-append (numbers j) (j ∷ []), s.count);
              written =
                  ap (λ (x : List ℕ). set x n q) (s.written ∙ ap (λ (x : List ℕ). so_far j ++ x) (drop-cons old n 0 one_fits))
                  ∙ set_at (so_far j) (get_or old n 0) (drop (suc n) old) q n l
                  ∙ sym (append_assoc (so_far j) (q ∷ []) (drop (suc n) old))
                  ∙ ap (λ (x : List ℕ). x ++ drop (suc n) old) (sym one_longer)
                  ∙ ap (λ (m : ℕ). so_far (j + 1) ++ drop m old) k;
            }

    pub group_ends : length ps ≤ j → Front (member_places ws ps i) old n out
    unfolding member_places members_of
    group_ends h =
        let k : j ≡ length ps = omega (arith, s.inside, h) in
        let w : so_far j ≡ so_far (length ps) = ap so_far k in
        let c : n ≡ length (so_far (length ps)) = s.count ∙ sym (length-map (numbers j) (member ps)) ∙ ap length w in
        record { count = c; words = s.written ∙ ap (λ (x : List ℕ). x ++ drop n old) w ∙ ap (λ (m : ℕ). so_far (length ps) ++ drop m old) c }
