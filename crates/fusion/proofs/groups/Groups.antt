-- All groups so far, their members and their ends: how they start, go on and end. Assumes nothing.
use Prim.Native.Nat.{ℕ, suc, ◌+◌, ◌-◌, ◌≤◌, ◌<◌}
use native.Mathlib.Omega.{arith}
use mathlib.Core.Path.{◌≡◌, refl, sym, ◌∙◌, ap, ap₂}
use mathlib.Core.Bool.{Bool, true, false}
use mathlib.Core.List.{List, [], ◌∷◌, ◌++◌, append-nil, append_assoc, map}
use borrow.Author.Tests.{eq-eqb, ne_eqb}
use borrow.Rule.Slice.PartMut.{put_mid}
use lib.ListN.{length, get_or, take, drop, set, length-append, length-drop, length-map}
use lib.Seq.{drop-cons, set_at, take_at, drop_at, drop-drop}
use Rattle.spec_tree.proofs.TokenLaws.{map_append}
use Rattle.words.proofs.words.Scanning.{Put, put_lent}
use Rattle.laws.specs.switches.Groups.{group_first, firsts_within, group_numbers, member_places}
use Rattle.fusion.specs.place.Parts.{joined_groups, ends_from}
use Rattle.fusion.specs.groups.Answers.{groups_at, Front, GroupsWritten}
use Rattle.fusion.proofs.groups.Fewer.{members_fewer, groups_fewer}
use Rattle.spec_tree.proofs.Lists.{rest_is}

-- ---- one group more

pub joined_last : (gs : List (List ℕ)) (g : List ℕ) → joined_groups (gs ++ (g ∷ [])) ≡ joined_groups gs ++ g
unfolding joined_groups
joined_last [] g = append-nil g
joined_last (f ∷ gs) g = ap (λ (l : List ℕ). f ++ l) (joined_last gs g) ∙ sym (append_assoc f (joined_groups gs) g)

ends_last : (n : ℕ) (gs : List (List ℕ)) (g : List ℕ) → ends_from n (gs ++ (g ∷ [])) ≡ ends_from n gs ++ ((n + length (joined_groups gs) + length g) ∷ [])
unfolding joined_groups ends_from
ends_last n [] g = let z : n + length g ≡ n + 0 + length g = omega arith in ap (λ (k : ℕ). k ∷ []) z
ends_last n (f ∷ gs) g =
    let z : n + length f + length (joined_groups gs) + length g ≡ n + length (f ++ joined_groups gs) + length g = omega (arith, length-append f (joined_groups gs)) in
    ap (λ (l : List ℕ). (n + length f) ∷ l) (ends_last (n + length f) gs g ∙ ap (λ (k : ℕ). ends_from (n + length f) gs ++ (k ∷ [])) z)

pub ends_length : (n : ℕ) (gs : List (List ℕ)) → length (ends_from n gs) ≡ length gs
unfolding ends_from
ends_length n [] = refl
ends_length n (g ∷ gs) = ap suc (ends_length (n + length g) gs)

-- words put right after those in front are in front too
put_on : (a b old mid out : List ℕ) (n m : ℕ) → length a ≡ n → m ≡ n + length b → mid ≡ a ++ drop n old → Put mid n b out → out ≡ (a ++ b) ++ drop m old
put_on a b old mid out n m l e w p =
    let first : take n mid ≡ a = ap (take n) w ∙ take_at a (drop n old) n l in
    let rest : drop n mid ≡ drop n old = ap (drop n) w ∙ drop_at a (drop n old) n l in
    let past : drop (n + length b) mid ≡ drop m old =
    sym (drop-drop (length b) n mid) ∙ ap (drop (length b)) rest ∙ drop-drop (length b) n old ∙ ap (λ (k : ℕ). drop k old) (sym e) in
    p ∙ ap₂ (λ (x y : List ℕ). x ++ (b ++ y)) first past ∙ sym (append_assoc a b (drop m old))

module _ (ws ps : List ℕ) where
  abbrev so_far : ℕ → List (List ℕ)
  so_far i = map (member_places ws ps) (firsts_within ws ps i)

  pub record State (members₀ ends₀ members ends : List ℕ) (count at i : ℕ) : Type 0 where
    pub inside : i ≤ length ps
    pub counted : count ≡ length (map (member_places ws ps) (firsts_within ws ps i))
    pub placed : at ≡ length (joined_groups (map (member_places ws ps) (firsts_within ws ps i)))
    pub members_so : members ≡ joined_groups (map (member_places ws ps) (firsts_within ws ps i)) ++ drop at members₀
    pub ends_so : ends ≡ ends_from 0 (map (member_places ws ps) (firsts_within ws ps i)) ++ drop count ends₀

  pub starts : (members₀ ends₀ : List ℕ) → State members₀ ends₀ members₀ ends₀ 0 0 0
  unfolding firsts_within joined_groups ends_from
  starts members₀ ends₀ = record { inside = omega arith; counted = refl; placed = refl; members_so = refl; ends_so = refl }

  opened : (i : ℕ) → group_first ws ps i ≡ i → so_far (i + 1) ≡ so_far i ++ (member_places ws ps i ∷ [])
  unfolding firsts_within
  opened i o =
      let k : i + 1 ≡ suc i = omega arith in
      ap so_far k
      ∙ ap (λ (b : Bool). map (member_places ws ps) (firsts_within ws ps i ++ elim b as (λ _. List ℕ) [ true ↦ i ∷ [] | false ↦ [] ])) (eq-eqb (group_first ws ps i) i o)
      ∙ map_append (member_places ws ps) (firsts_within ws ps i) (i ∷ [])

  not_opened : (i : ℕ) → (group_first ws ps i ≡ i → ⊥) → so_far (i + 1) ≡ so_far i
  unfolding firsts_within
  not_opened i o =
      let k : i + 1 ≡ suc i = omega arith in
      ap so_far k
      ∙ ap (λ (b : Bool). map (member_places ws ps) (firsts_within ws ps i ++ elim b as (λ _. List ℕ) [ true ↦ i ∷ [] | false ↦ [] ])) (ne_eqb (group_first ws ps i) i o)
      ∙ ap (map (member_places ws ps)) (append-nil (firsts_within ws ps i))

  module _ {members₀ ends₀ members ends : List ℕ} {count at i : ℕ} (s : State members₀ ends₀ members ends count at i) where
    pub count_few : count ≤ i
    count_few = omega (arith, s.counted, length-map (firsts_within ws ps i) (member_places ws ps), groups_fewer ws ps i)

    pub at_few : at ≤ length ps
    at_few = omega (arith, s.placed, members_fewer ws ps i)

    pub members_long : length ps ≤ length members₀ → length members ≡ length members₀
    members_long room =
        ap length s.members_so ∙ omega (arith, length-append (joined_groups (so_far i)) (drop at members₀), length-drop at members₀, s.placed, at_few, room)

    pub ends_long : length ps ≤ length ends₀ → length ends ≡ length ends₀
    ends_long room =
        ap length s.ends_so
        ∙ omega (arith, length-append (ends_from 0 (so_far i)) (drop count ends₀), length-drop count ends₀, ends_length 0 (so_far i), s.counted, count_few, s.inside, room)

    module _ (h : i < length ps) where
      pub turn_none : (group_first ws ps i ≡ i → ⊥) → State members₀ ends₀ members ends count at (i + 1)
      turn_none o =
          let e = sym (not_opened i o) in
          record {
            inside = omega arith;
            counted = s.counted ∙ ap length e;
            placed = s.placed ∙ ap (λ (gs : List (List ℕ)). length (joined_groups gs)) e;
            members_so = s.members_so ∙ ap (λ (gs : List (List ℕ)). joined_groups gs ++ drop at members₀) e;
            ends_so = s.ends_so ∙ ap (λ (gs : List (List ℕ)). ends_from 0 gs ++ drop count ends₀) e;
          }

      module _ (o : group_first ws ps i ≡ i) where
        abbrev group : List ℕ
        group = member_places ws ps i

        joined_more : joined_groups (so_far (i + 1)) ≡ joined_groups (so_far i) ++ group
        joined_more = ap joined_groups (opened i o) ∙ joined_last (so_far i) group

        -- the group fits with all before it
        pub group_few : at + length (member_places ws ps i) ≤ length ps
        group_few = omega (arith, ap length joined_more, length-append (joined_groups (so_far i)) group, s.placed, members_fewer ws ps (i + 1))

        pub group_room : length ps ≤ length members₀ → length (member_places ws ps i) ≤ length (take (length members - at) (drop at members))
        group_room room = omega (arith, ap length (rest_is members at), length-drop at members, members_long room, group_few, room)

        module _ {r : ℕ} {x : List ℕ} (f : Front (member_places ws ps i) (take (length members - at) (drop at members)) r x) where
          pub turn_one :
              length ps ≤ length ends₀ → State members₀ ends₀ (put_mid at (length members - at) members x) (set ends count (at + r)) (count + 1) (at + r) (i + 1)
          turn_one room =
              let out = put_mid at (length members - at) members x in
              let before = joined_groups (so_far i) in
              let stops = ends_from 0 (so_far i) in
              let k : suc count ≡ count + 1 = omega arith in
              let end : 0 + length before + length group ≡ at + r = omega (arith, s.placed, f.count) in
              let l : length stops ≡ count = ends_length 0 (so_far i) ∙ sym s.counted in
              let stops_more : ends_from 0 (so_far (i + 1)) ≡ stops ++ ((at + r) ∷ []) =
              ap (ends_from 0) (opened i o) ∙ ends_last 0 (so_far i) group ∙ ap (λ (n : ℕ). stops ++ (n ∷ [])) end in
              record {
                inside = omega arith;
                counted = omega (arith, ap length (opened i o), length-append (so_far i) (group ∷ []), s.counted);
                placed = omega (arith, ap length joined_more, length-append before group, s.placed, f.count);
                members_so =
                    put_on before group members₀ members out at (at + r) (sym s.placed) (omega (arith, f.count)) s.members_so (put_lent members x group at f.words)
                    ∙ ap (λ (l : List ℕ). l ++ drop (at + r) members₀) (sym joined_more);
                ends_so =
                    ap (λ (y : List ℕ). set y count (at + r))
                    (s.ends_so ∙ ap (λ (y : List ℕ). stops ++ y) (drop-cons ends₀ count 0 (omega (arith, count_few, room))))
                    ∙ set_at stops (get_or ends₀ count 0) (drop (suc count) ends₀) (at + r) count l
                    ∙ sym (append_assoc stops ((at + r) ∷ []) (drop (suc count) ends₀))
                    ∙ ap (λ (y : List ℕ). y ++ drop (suc count) ends₀) (sym stops_more)
                    ∙ ap (λ (n : ℕ). ends_from 0 (so_far (i + 1)) ++ drop n ends₀) k;
              }

    pub groups_end : length ps ≤ i → GroupsWritten (groups_at ws ps) members₀ ends₀ count members ends
    unfolding groups_at group_numbers
    groups_end h =
        let e : i ≡ length ps = omega (arith, s.inside, h) in
        let w : so_far i ≡ so_far (length ps) = ap so_far e in
        let n : at ≡ length (joined_groups (so_far (length ps))) = s.placed ∙ ap (λ (gs : List (List ℕ)). length (joined_groups gs)) w in
        let c : count ≡ length (so_far (length ps)) = s.counted ∙ ap length w in
        let m : count ≡ length (ends_from 0 (so_far (length ps))) = c ∙ sym (ends_length 0 (so_far (length ps))) in
        record {
          count = c;
          members_are = s.members_so ∙ ap₂ (λ (gs : List (List ℕ)) (k : ℕ). joined_groups gs ++ drop k members₀) w n;
          ends_are = s.ends_so ∙ ap₂ (λ (gs : List (List ℕ)) (k : ℕ). ends_from 0 gs ++ drop k ends₀) w m;
        }
