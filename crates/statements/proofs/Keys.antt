-- A group by where it ends: where it begins, its first member, its key with the members of later groups replaced, and its match's row. Assumes nothing.
use Rattle.std.specs.Prelude.{Some, None}
use Prim.Native.Nat.{ℕ, zero, suc, ◌+◌, ◌-◌, ◌*◌, ◌/◌, ◌%◌, ◌≤◌, ◌<◌}
use native.Mathlib.Omega.{arith}
use mathlib.Core.Path.{◌≡◌, refl, sym, ◌∙◌, ap, subst}
use mathlib.Core.Bool.{Bool, true, false}
use mathlib.Core.Option.{some}
use mathlib.Core.List.{List}
use lib.Dec.{T}
use lib.ListN.{length, get_or, take, drop, length-drop}
use lib.Seq.{get_or-drop, length-take-le}
use Rattle.spec_tree.specs.Facts.{size}
use Rattle.spec_tree.specs.Tokens.{tokens, numbered, run_at, trees_in}
use Rattle.spec_tree.proofs.TokenLaws.{complete_end, complete_length, complete_within, operation_takes}
use Rattle.words.specs.tokens.Answers.{end_answer}
use Rattle.words.specs.words.Words.{number, Complete}
use Rattle.laws.specs.positions.Places.{numbered_at}
use Rattle.laws.proofs.positions.DivisorPlaces.{enough}
use Rattle.reciprocals.proofs.bindings.Parts.{AllThere}
use Rattle.laws.specs.switches.Switches.{switch_at, key_place, arm_count}
use Rattle.laws.specs.switches.Columns.{words_at}
use Rattle.laws.proofs.switches.Collected.{Switching}
use Rattle.laws.proofs.switches.Parts.{has_key}
use Rattle.laws.proofs.switches.Words.{ends_within, words_one, words_read}
use Rattle.reciprocals.specs.final.Ready.{Stands}
use Rattle.fusion.specs.Settled.{fused_tree}
use Rattle.fusion.specs.Words.{steps_at}
use Rattle.fusion.proofs.Switchless.{OfSwitches}
use Rattle.fusion.proofs.scopeneeds.Arms.{key_inside, key_stands}
use Rattle.fusion.specs.place.Overlay.{overlay}
use Rattle.fusion.specs.place.Parts.{place_groups, joined_groups, group_at, group_start, group_end, opener, steps_from, key_run, match_head}
use Rattle.statements.specs.Prepared.{most, Prepared, Grouped, Roomy, Fusable, fused_by, begin_of}
use Rattle.statements.proofs.Held.{held_complete, held_places_small, rewritten_one}
use Rattle.statements.proofs.Groups.{end_is, begin_is, group_long, group_inside, group_part, opener_is, group_switches, opener_switch, members_there, members_steps}
use Rattle.statements.proofs.Taking.{put_front, stands_as}
use Rattle.node_rows.proofs.names.Leaves.{rest}
use Rattle.fusion.proofs.groups.Groups.{ends_length}

pub first_begins : (ends : List ℕ) (g : ℕ) → g ≡ 0 → 0 ≡ begin_of ends g
unfolding begin_of
first_begins ends zero e = refl
first_begins ends (suc g) e = absurd (omega arith)

pub next_begins : (ends : List ℕ) (g : ℕ) → (g ≡ 0 → ⊥) → get_or ends (g - 1) 0 ≡ begin_of ends g
unfolding begin_of
next_begins ends zero ne = absurd (ne refl)
next_begins ends (suc g) ne = ap (λ (i : ℕ). get_or ends i 0) (let z : suc g - 1 ≡ g = omega arith in z)

pub grouped : {ws : List ℕ} {k first : ℕ} {places held starts members ends numbers : List ℕ} → Prepared ws k first places held starts members ends numbers → Grouped held members ends numbers
grouped {ws} {k} {first} {places} {held} p = record { complete = held_complete p; short = p.short; members_are = p.members_are; ends_are = p.ends_are; numbered = p.numbered; small = p.small; trees_small = held_places_small ws k first places held p.there p.few p.held_is }

-- few words have room for each of their trees
pub few_room : {held members ends numbers : List ℕ} → Grouped held members ends numbers → (n : ℕ) → length held ≤ n → Roomy held n
few_room {held} G n h q inside = omega (arith, ends_within held G.complete.0 G.complete.1 q inside, h)

module _ {held members ends numbers : List ℕ} (G : Grouped held members ends numbers) (g : ℕ) (h : g < length ends) where
  abbrev gs : List (List ℕ)
  gs = place_groups held

  abbrev q : ℕ
  q = opener gs g

  pub group_there : g < length (place_groups held)
  group_there = omega (arith, h, ap length G.ends_are, ends_length 0 gs)

  pub begin_at : (b : ℕ) → b ≡ begin_of ends g → b ≡ group_start (place_groups held) g
  begin_at b e = e ∙ (ap (λ (l : List ℕ). begin_of l g) G.ends_are ∙ begin_is gs g group_there)

  pub end_at : get_or ends g 0 ≡ group_end (place_groups held) g
  end_at = ap (λ (l : List ℕ). get_or l g 0) G.ends_are ∙ end_is gs g group_there

  one : 1 ≤ length (group_at gs g)
  one = (group_switches held g group_there).0.0

  pub end_inside : get_or ends g 0 ≤ length members
  end_inside = omega (arith, end_at, group_inside gs g group_there, ap length G.members_are)

  module _ (b : ℕ) (e : b ≡ begin_of ends g) where
    pub begin_before : b < get_or ends g 0
    begin_before = omega (arith, begin_at b e, end_at, group_long gs g group_there, one)

    pub begin_inside : b < length members
    begin_inside = omega (arith, begin_before, end_inside)

    pub first_member : get_or members b 0 ≡ opener (place_groups held) g
    first_member =
        ap (λ (l : List ℕ). get_or l b 0) G.members_are ∙ (ap (λ (i : ℕ). get_or (joined_groups gs) i 0) (begin_at b e) ∙ opener_is gs g group_there one)

    pub members_part : take (get_or ends g 0 - b) (drop b members) ≡ group_at (place_groups held) g
    members_part =
        ap (λ (l : List ℕ). take (get_or ends g 0 - b) (drop b l)) G.members_are
        ∙ (ap (λ (i : ℕ). take (i - b) (drop b (joined_groups gs))) end_at
        ∙ (ap (λ (i : ℕ). take (group_end gs g - i) (drop i (joined_groups gs))) (begin_at b e) ∙ group_part gs g group_there))

    pub part_long : get_or ends g 0 - b ≡ length (group_at (place_groups held) g)
    part_long = omega (arith, begin_at b e, end_at, group_long gs g group_there)

    pub numbers_part : take (get_or ends g 0 - b) (drop b numbers) ≡ take (length (group_at (place_groups held) g)) (drop (group_start (place_groups held) g) numbers)
    numbers_part =
        ap (λ (n : ℕ). take n (drop b numbers)) part_long ∙ ap (λ (i : ℕ). take (length (group_at gs g)) (drop i numbers)) (begin_at b e)

    -- ---- the key

    switching : Switching held q
    switching = opener_switch held g group_there

    switch_true : (x : Bool) → T x → x ≡ true
    switch_true true t = refl
    switch_true false t = absurd t

    switch_so : switch_at held q ≡ true
    switch_so = switch_true (switch_at held q) switching.1

    pub member_inside : get_or members b 0 < length held
    member_inside = subst (λ (i : ℕ). i < length held) (sym first_member) switching.0

    abbrev k : ℕ
    k = get_or members b 0 + 1

    k_is : k ≡ q + 1
    k_is = ap (λ (i : ℕ). i + 1) first_member

    k_inside : k < length held
    k_inside = subst (λ (i : ℕ). i < length held) (sym k_is) (key_inside held q G.complete switching.0 switch_so)

    k_stands : run_at held k ≡ some (size (numbered_at held k))
    k_stands = subst (λ (i : ℕ). run_at held i ≡ some (size (numbered_at held i))) (sym k_is) (key_stands held q G.complete switching.0 switch_so)

    pub key_not_broken : None ≡ end_answer (get_or members b 0 + 1) (run_at held (get_or members b 0 + 1)) → ⊥
    unfolding end_answer
    key_not_broken x =
        let p : None ≡ Some (k + size (numbered_at held k)) = x ∙ ap (end_answer k) k_stands in
        let z : ◌≡◌ {A = ℕ} 0 1 = cc in
        absurd (omega arith)

    pub key_stop : (s : ℕ) → Some s ≡ end_answer (get_or members b 0 + 1) (run_at held (get_or members b 0 + 1)) → s ≡ get_or members b 0 + 1 + size (numbered_at held (get_or members b 0 + 1))
    unfolding end_answer
    key_stop s x =
        let p : Some s ≡ Some (k + size (numbered_at held k)) = x ∙ ap (end_answer k) k_stands in
        let c : s ≡ k + size (numbered_at held k) = cc in
        c

    module _ (s : ℕ) (es : s ≡ get_or members b 0 + 1 + size (numbered_at held (get_or members b 0 + 1))) where
      pub stop_inside : s ≤ length held
      stop_inside = omega (arith, es, ends_within held G.complete.0 G.complete.1 k k_inside)

      pub key_short : s - (get_or members b 0 + 1) ≤ 1929
      key_short = omega (arith, es, G.trees_small k)

      key_words : take (s - k) (drop k held) ≡ words_at held k
      unfolding words_at
      key_words = let z : s - k ≡ size (numbered_at held k) = omega (arith, es) in ap (λ (n : ℕ). take n (drop k held)) z

      key_one : trees_in (words_at held k) ≡ some 1
      key_one = words_one held G.complete.0 G.complete.1 k k_inside

      long_part : (n x : ℕ) (l : List ℕ) → x + n ≤ length l → length (take n (drop x l)) ≡ n
      long_part n x l w = length-take-le n (drop x l) (omega (arith, w, length-drop x l))

      pub key_stands_there : (old out : List ℕ) → Roomy held (length old) → out ≡ overlay 0 (take (s - (get_or members b 0 + 1)) (drop (get_or members b 0 + 1) held)) old → Stands (words_at held (get_or members b 0 + 1)) out (s - (get_or members b 0 + 1))
      key_stands_there old out l f =
          let w = long_part (s - k) k held (omega (arith, stop_inside, es)) in
          let y = ap length key_words in
          put_front (words_at held k) old out (s - k) (omega (arith, w, y)) (omega (arith, w, y, es, l k k_inside)) (f ∙ ap (λ (x : List ℕ). overlay 0 x old) key_words)

      pub key_complete : (out : List ℕ) (n : ℕ) → Stands (words_at held (get_or members b 0 + 1)) out n → Complete (take n out)
      key_complete out n t = (1, ap trees_in t.words ∙ key_one)

      later : Fusable held (drop (get_or ends g 0) members) (drop (get_or ends g 0) numbers)
      later =
          record {
            there = subst (λ (l : List ℕ). AllThere held (drop (get_or ends g 0) l)) (sym G.members_are) (members_there held G.complete (get_or ends g 0));
            switches = subst (λ (l : List ℕ). OfSwitches (steps_at held (drop (get_or ends g 0) l) (drop (get_or ends g 0) numbers))) (sym G.members_are)
                (members_steps held G.complete (get_or ends g 0) (drop (get_or ends g 0) numbers));
            numbered = omega (arith, length-drop (get_or ends g 0) members, length-drop (get_or ends g 0) numbers, G.numbered);
            small = λ i w.
                subst (λ (x : ℕ). x ≤ most) (sym (get_or-drop (get_or ends g 0) numbers i 0))
                (G.small (get_or ends g 0 + i) (omega (arith, w, length-drop (get_or ends g 0) members, G.numbered)));
          }

      pub later_fusable :
          Fusable held (take (length members - get_or ends g 0) (drop (get_or ends g 0) members)) (take (length numbers - get_or ends g 0) (drop (get_or ends g 0) numbers))
      later_fusable =
          subst (λ (l : List ℕ). Fusable held l (take (length numbers - get_or ends g 0) (drop (get_or ends g 0) numbers))) (sym (rest (get_or ends g 0) members))
          (subst (λ (l : List ℕ). Fusable held (drop (get_or ends g 0) members) l) (sym (rest (get_or ends g 0) numbers)) later)

      key_final : fused_by held (drop (get_or ends g 0) members) (drop (get_or ends g 0) numbers) (words_at held k) ≡ key_run held gs numbers g
      unfolding fused_by key_run steps_from key_place
      key_final =
          let z : k ≡ suc q = k_is ∙ (let y : q + 1 ≡ suc q = omega arith in y) in
          rewritten_one (fused_tree (steps_at held (drop (get_or ends g 0) members) (drop (get_or ends g 0) numbers))) (numbered_at held k) (words_at held k)
          (words_read held G.complete.0 G.complete.1 k k_inside)
          ∙ (ap (λ (i : ℕ). tokens number (fused_tree (steps_at held (drop (get_or ends g 0) members) (drop (get_or ends g 0) numbers)) (numbered_at held i))) z
          ∙ (ap (λ (l : List ℕ). tokens number (fused_tree (steps_at held (drop (get_or ends g 0) l) (drop (get_or ends g 0) numbers)) (numbered_at held (suc q)))) G.members_are
          ∙ ap (λ (i : ℕ). tokens number (fused_tree (steps_at held (drop i (joined_groups gs)) (drop i numbers)) (numbered_at held (suc q)))) end_at))

      pub key_done :
          (mid : List ℕ) (len : ℕ) → Stands (words_at held (get_or members b 0 + 1)) mid len → (out : List ℕ) (n : ℕ)
          → Stands
          (fused_by held (take (length members - get_or ends g 0) (drop (get_or ends g 0) members)) (take (length numbers - get_or ends g 0) (drop (get_or ends g 0) numbers)) (take len mid)) out n
          → Stands (key_run held (place_groups held) numbers g) out n
      key_done mid len t out n u =
          stands_as _ (key_run held gs numbers g) out n
          (ap (λ (l : List ℕ). fused_by held l (take (length numbers - get_or ends g 0) (drop (get_or ends g 0) numbers)) (take len mid)) (rest (get_or ends g 0) members)
          ∙ (ap (λ (l : List ℕ). fused_by held (drop (get_or ends g 0) members) l (take len mid)) (rest (get_or ends g 0) numbers)
          ∙ (ap (fused_by held (drop (get_or ends g 0) members) (drop (get_or ends g 0) numbers)) t.words ∙ key_final))) u

    -- ---- the match's row

    abbrev w : ℕ
    w = get_or held (get_or members b 0) 0

    w_is : w ≡ get_or held q 0
    w_is = ap (λ (i : ℕ). get_or held i 0) first_member

    pub kind_there : (26 ≤ get_or held (get_or members b 0) 0 % 64) × ((1 ≤ get_or held (get_or members b 0) 0 / 64) × (get_or held (get_or members b 0) 0 / 64 ≤ 65536))
    kind_there =
        let a = has_key held q switching.1 in
        let o = operation_takes (get_or held q 0) (omega (arith, a.1)) in
        let c = complete_end (suc q) held G.complete.0 G.complete.1 in
        let n = enough held G.complete.0 G.complete.1 q switching.0 in
        let l = complete_length numbered (drop (suc q) held) c.0 c.1 in
        let v = complete_within (drop (suc q) held) c.0 c.1 in
        let m = length-drop (suc q) held in
        (omega (arith, w_is, a.1), (omega (arith, w_is, a.0, o), omega (arith, w_is, o, n, l, v, m, G.short)))

    pub part_few : get_or ends g 0 - b ≤ 65536
    part_few = omega (arith, part_long, (group_switches held g group_there).0.1, G.short)

    pub head_is :
        get_or held (get_or members b 0) 0 % 64 + 4 + 64 * (get_or held (get_or members b 0) 0 / 64 + (get_or ends g 0 - b)) ≡ match_head held (place_groups held) numbers g
    unfolding match_head arm_count
    head_is =
        let a = has_key held q switching.1 in
        let o = operation_takes (get_or held q 0) (omega (arith, a.1)) in
        omega (arith, w_is, o, a.0, part_long)
