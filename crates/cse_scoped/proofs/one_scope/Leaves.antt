-- What the steps that a scope asks of other crates answer where they can be done (01, "Scoped fusion"). Assumes nothing.
use Prim.Native.Nat.{ℕ, zero, suc, ◌+◌, ◌-◌, ◌≤◌, ◌<◌}
use native.Mathlib.Omega.{arith}
use mathlib.Core.Path.{◌≡◌, refl, sym, ◌∙◌, ap, ap₂, subst}
use mathlib.Core.Bool.{Bool, true, false, ◌&&◌}
use mathlib.Core.Option.{Option, none, some}
use mathlib.Core.List.{List, [], ◌∷◌, ◌++◌}
use lib.ListN.{length, get_or, take, drop, set, length-append, length-drop}
use lib.Seq.{take_at, drop_at, length-take-le}
use Rattle.std.proofs.lemmas.List.{take-append-le}
use lib.Dec.{T, leb, ltb, lt→ltb, leb→le}
use borrow.Author.Tests.{le-leb, leb-true, leb-false}
use Rattle.spec_tree.specs.Kinds.{is_switch}
use Rattle.spec_tree.specs.Tokens.{trees_in, takes, kind_of}
use Rattle.spec_tree.proofs.Logic.{and_both, and_right}
use Rattle.spec_tree.proofs.Tests.{is_true}
use Rattle.words.specs.words.Words.{some_trees, Complete}
use Rattle.laws.proofs.positions.Extraction.{Every}
use Rattle.reciprocals.specs.reciprocal.Bindings.{all_there}
use Rattle.laws.specs.switches.Switches.{switch_at, switch_places, arm_count}
use Rattle.laws.specs.switches.Columns.{column_words}
use Rattle.laws.proofs.switches.Turned.{Armed}
use Rattle.laws.proofs.switches.GroupColumns.{every_at}
use Rattle.words.specs.tokens.Answers.{count_answer}
use Rattle.words.specs.declared.fault.Fault.{Fault}
use Rattle.words.specs.declared.fault.Fault.TheVariants as fault
use Rattle.fusion.specs.Words.{numbers_from}
use Rattle.fusion.proofs.Members.{numbers_count}
use Rattle.fusion.specs.switches.Listing.{Listed}
use Rattle.fusion.specs.groups.Answers.{groups_at, all_stand, GroupsWritten}
use Rattle.fusion.proofs.groups.Told.{are_place_groups, places_stand}
use Rattle.fusion.specs.place.Overlay.{overlay}
use Rattle.fusion.proofs.tables.Laws.{overlay_none, overlay_word, overlay_append}
use Rattle.statements.specs.Prepared.{begin_of}
use Rattle.fusion.specs.groups.Copying.{armed_at, all_armed, Copying, copying_by, column_there, copying}
use Rattle.statements.specs.holding.Holding.{whole_there, room_to_hold, Holding as HeldSo, holding_by, holding}
use Rattle.statements.specs.declared.holding.HoldError.{HoldError}
use Rattle.statements.proofs.holding.Front.{held_front, held_length}
use Rattle.statements.specs.declared.holding.HoldError.TheVariants as hold_error
use Rattle.fusion.specs.place.Parts.{place_groups, joined_groups, ends_from, words_held}
use Rattle.scope_laws.proofs.sound.Columns.{Fused, group_fused, members_count}
use Rattle.cse_scoped.specs.one_scope.Answers.{HoldingSo, CopiedSo, SwitchesSo}
use Rattle.cse_scoped.specs.one_scope.Frame.{IsGroup, GroupingSo}
use Rattle.std.specs.Prelude.{Option as Maybe, Some, None, Result, Ok, Err}
use Rattle.fusion.proofs.groups.Groups.{ends_length}

pub complete_so : (ws : List ℕ) → T (some_trees (trees_in ws)) → Complete ws
unfolding some_trees
complete_so ws t = go (trees_in ws) refl t
  where
    go : (o : Option ℕ) → trees_in ws ≡ o → T (some_trees o) → Complete ws
    go none e t = absurd t
    go (some n) e t = (n, e)

-- ---- a column

module _ (held group : List ℕ) (complete : T (some_trees (trees_in held))) (g : IsGroup held group) (a : ℕ) (l : a < arm_count held (get_or group 0 0)) (input : List ℕ) (room : ℕ) (lent : length input ≡ room) (short : room ≤ 1927) where
  fused : Fused held group
  fused = let c = complete_so held complete in subst (Fused held) (sym g.is) (group_fused held c.0 c.1 g.number g.there)

  armed_all : (n : ℕ) → a < n → (qs : List ℕ) → Every (Armed held n) qs → T (all_armed held a qs)
  unfolding all_armed armed_at
  armed_all n h [] e = tt
  armed_all n h (q ∷ qs) e =
      and_both (ltb q (length held) && (switch_at held q && ltb a (arm_count held q))) (all_armed held a qs)
      (and_both (ltb q (length held)) (switch_at held q && ltb a (arm_count held q)) (lt→ltb q (length held) e.0.0.0) (and_both (switch_at held q) (ltb a (arm_count held q)) e.0.0.1 (lt→ltb a (arm_count held q) (omega (arith, e.0.1)))))
      (armed_all n h qs e.1)

  there : column_there held a group ≡ true
  unfolding column_there
  there = is_true (some_trees (trees_in held) && all_armed held a group) (and_both (some_trees (trees_in held)) (all_armed held a group) complete (armed_all (arm_count held (get_or group 0 0)) l group fused.armed))

  abbrev words : List ℕ
  words = column_words held group a

  copied_by : copying held group a input ≡ copying_by true (leb (length words) (length input)) words input
  unfolding copying
  copied_by = ap (λ (b : Bool). copying_by b (leb (length words) (length input)) words input) there

  module _ (r : Result ℕ Fault) (out : List ℕ) (given : (r ≡ (copying held group a input).answer) × (out ≡ (copying held group a input).out)) where
    abbrev By : Result ℕ Fault → Type 0
    By (Ok n) = (take n out ≡ words) × ((n ≡ length words) × ((n ≤ length out) × (n ≤ 1927)))
    By (Err fault.Broken) = ⊥
    By (Err fault.NoRoom) = room < length words

    by_room : (b : Bool) → leb (length words) (length input) ≡ b → out ≡ (copying_by true b words input).out → By (copying_by true b words input).answer
    unfolding copying_by
    by_room true q e =
        let n = length words in
        let f = leb-true n (length input) q in
        (ap (take n) e ∙ take_at words (drop n input) n refl, (refl, (omega (arith, ap length e, length-append words (drop n input)), omega (arith, f, lent, short))))
    by_room false q e = omega (arith, leb-false (length words) (length input) q, lent)

    by_answer : By r
    by_answer = subst By (sym (given.0 ∙ ap (λ (x : Copying). x.answer) copied_by)) (by_room (leb (length words) (length input)) refl (given.1 ∙ ap (λ (x : Copying). x.out) copied_by))

    pub words_so : (n : ℕ) → r ≡ Ok n → By (Ok n)
    words_so n e = subst By e by_answer

    pub column_never_broken : r ≡ Err fault.Broken → ⊥
    column_never_broken e = subst By e by_answer

    pub column_over : r ≡ Err fault.NoRoom → room < length words
    column_over e = subst By e by_answer

-- ---- a column copied behind what is held

module _ (work group : List ℕ) (h a room : ℕ) (inside : h ≤ length work) (g : IsGroup (take h work) group) (l : a < arm_count (take h work) (get_or group 0 0)) (complete : T (some_trees (trees_in (take h work))))
    (short : room ≤ 1927) (fits : room ≤ length work - h) (full : (n : ℕ) → n ≤ 1927 → room < n → length work - h < n) (r : Result ℕ Fault) (out : List ℕ) where
  abbrev there_words : List ℕ
  there_words = column_words (take h work) group a

  abbrev Copied : List ℕ → List ℕ → Type 0
  Copied front back = (r ≡ (copying front group a (take room back)).answer) × (out ≡ (copying front group a (take room back)).out)

  abbrev whole_area : List ℕ → List ℕ → List ℕ
  whole_area front back = front ++ (out ++ drop room back)

  abbrev CopiedIn : Maybe ℕ → List ℕ → List ℕ → Type 0
  CopiedIn m front back = CopiedSo there_words m (drop h (whole_area front back)) × (take h (whole_area front back) ≡ take h work)

  front_long : length (take h work) ≡ h
  front_long = length-take-le h work inside

  input_long : length (take room (drop h work)) ≡ room
  input_long = length-take-le room (drop h work) (omega (arith, length-drop h work, fits))

  -- for what stands in front and behind it by their names
  by_parts : (m : Maybe ℕ) → (Copied (take h work) (drop h work) → CopiedIn m (take h work) (drop h work)) → (front back : List ℕ) → front ≡ take h work → back ≡ drop h work → Copied front back → CopiedIn m front back
  by_parts m f front back e0 e1 =
      subst (λ (z : List ℕ). Copied z back → CopiedIn m z back) (sym e0) (subst (λ (z : List ℕ). Copied (take h work) z → CopiedIn m (take h work) z) (sym e1) f)

  pub copied_there : (n : ℕ) → r ≡ Ok n → (front back : List ℕ) → front ≡ take h work → back ≡ drop h work → Copied front back → CopiedIn (Some n) front back
  copied_there n e = by_parts (Some n) (λ given.
      let s = words_so (take h work) group complete g a l (take room (drop h work)) room input_long short r out given n e in
      let rest = drop room (drop h work) in
      let d = drop_at (take h work) (out ++ rest) h front_long in (
        (ap (take n) d ∙ take-append-le n out rest s.1.1.0 ∙ s.0, omega (arith, ap length d, length-append out rest, s.1.1.0), s.1.1.1),
        take_at (take h work) (out ++ rest) h front_long,
      ))

  pub copied_over : r ≡ Err fault.NoRoom → length out ≡ room → (front back : List ℕ) → front ≡ take h work → back ≡ drop h work → Copied front back → CopiedIn None front back
  copied_over e same = by_parts None (λ given.
      let over = column_over (take h work) group complete g a l (take room (drop h work)) room input_long short r out given e in
      let rest = drop room (drop h work) in
      let d = drop_at (take h work) (out ++ rest) h front_long in (
        λ few. (let most = full (length there_words) few over in omega (arith, most, same, fits, ap length d, length-append out rest, length-drop room (drop h work), length-drop h work)),
        take_at (take h work) (out ++ rest) h front_long,
      ))

  pub never_broken : r ≡ Err fault.Broken → (front back : List ℕ) → front ≡ take h work → back ≡ drop h work → Copied front back → ⊥
  never_broken e front back e0 e1 =
      subst (λ (z : List ℕ). Copied z back → ⊥) (sym e0) (subst (λ (z : List ℕ). Copied (take h work) z → ⊥) (sym e1)
      (λ given. column_never_broken (take h work) group complete g a l (take room (drop h work)) room input_long short r out given e))

-- ---- what is held

module _ (ws places : List ℕ) (number : ℕ) (old : List ℕ) (complete : T (some_trees (trees_in ws))) (at_all : T (all_there ws places)) (few : length ws ≤ 1927) (short : length places ≤ 1927) (low : number ≤ 4294967296) (lent : length ws ≤ length old) where
  abbrev hs : List ℕ
  hs = words_held ws number places

  whole : whole_there ws places ≡ true
  unfolding whole_there
  whole = is_true (some_trees (trees_in ws) && all_there ws places) (and_both (some_trees (trees_in ws)) (all_there ws places) complete at_all)

  roomy : room_to_hold (length ws) (length places) number (length old) ≡ true
  unfolding room_to_hold
  roomy = rw (le-leb (length ws) 1927 few, le-leb number 4294967296 low, le-leb (length places) 4294967296 (omega arith), le-leb (length ws) (length old) lent)

  held_by : holding ws places number old ≡ holding_by true true (leb (length hs) (length old)) ws hs old
  unfolding holding
  held_by = ap₂ (λ (a b : Bool). holding_by a b (leb (length hs) (length old)) ws hs old) whole roomy

  module _ (r : Result ℕ HoldError) (out : List ℕ) (given : (r ≡ (holding ws places number old).answer) × (out ≡ (holding ws places number old).out)) where
    abbrev HeldBy : Result ℕ HoldError → Type 0
    HeldBy (Ok n) = HoldingSo hs (Some n) out
    HeldBy (Err hold_error.TooMany) = HoldingSo hs None out
    HeldBy (Err hold_error.Broken) = ⊥
    HeldBy (Err hold_error.NoRoom) = ⊥

    by_few : (b : Bool) → leb (length hs) (length old) ≡ b → out ≡ (holding_by true true b ws hs old).out → HeldBy (holding_by true true b ws hs old).answer
    unfolding holding_by
    by_few true q e = (ap (take (length hs)) e ∙ held_front ws hs old (leb-true (length hs) (length old) q), omega (arith, ap length e, held_length ws hs old, leb-true (length hs) (length old) q))
    by_few false q e = omega (arith, ap length e, held_length ws hs old, leb-false (length hs) (length old) q)

    held_answer : HeldBy r
    held_answer = subst HeldBy (sym (given.0 ∙ ap (λ (x : HeldSo). x.answer) held_by)) (by_few (leb (length hs) (length old)) refl (given.1 ∙ ap (λ (x : HeldSo). x.out) held_by))

    pub held_words_are : (n : ℕ) → r ≡ Ok n → HoldingSo hs (Some n) out
    held_words_are n e = subst HeldBy e held_answer

    pub held_too_many : r ≡ Err hold_error.TooMany → HoldingSo hs None out
    held_too_many e = subst HeldBy e held_answer

    pub held_never_broken : r ≡ Err hold_error.Broken → ⊥
    held_never_broken e = subst HeldBy e held_answer

    pub held_never_full : r ≡ Err hold_error.NoRoom → ⊥
    held_never_full e = subst HeldBy e held_answer

-- ---- groups

pub listed_in : {new old : List ℕ} {n : ℕ} {out : List ℕ} → Listed new old n out → n ≤ length out
listed_in {new} {old} {n} {out} l = omega (arith, l.count, ap length l.places, length-append new (drop (length new) old))

module _ (held places : List ℕ) (r : Maybe ℕ) (so : SwitchesSo held r places) where
  pub switches_there : (n : ℕ) → r ≡ Some n → (take n places ≡ switch_places held) × (n ≤ length places)
  switches_there n e = subst (λ (q : Maybe ℕ). SwitchesSo held q places) e so

  pub switches_over : r ≡ None → length places < length (switch_places held)
  switches_over e = subst (λ (q : Maybe ℕ). SwitchesSo held q places) e so

pub stand_so : (held places : List ℕ) → places ≡ switch_places held → T (all_stand held places)
stand_so held places e = subst (λ (z : List ℕ). T (all_stand held z)) (sym e) (places_stand held)

pub grouping_so : (held places : List ℕ) → T (some_trees (trees_in held)) → places ≡ switch_places held → {members ends : List ℕ} {n : ℕ} {members' ends' : List ℕ}
    → GroupsWritten (groups_at held places) members ends n members' ends' → GroupingSo held (length places) n members' ends'
grouping_so held places t e {members} {ends} {n} {members'} {ends'} w =
    let c = complete_so held t in
    let gs : groups_at held places ≡ place_groups held = ap (groups_at held) e ∙ are_place_groups held in
    let j = joined_groups (place_groups held) in
    let f = ends_from 0 (place_groups held) in
    let m : members' ≡ j ++ drop (length j) members = w.members_are ∙ ap (λ (z : List (List ℕ)). joined_groups z ++ drop (length (joined_groups z)) members) gs in
    let d : ends' ≡ f ++ drop (length f) ends = w.ends_are ∙ ap (λ (z : List (List ℕ)). ends_from 0 z ++ drop (length (ends_from 0 z)) ends) gs in
    let p : length j ≡ length places = members_count held c.0 c.1 ∙ sym (ap length e) in
    let q : length f ≡ n = ends_length 0 (place_groups held) ∙ (sym (ap length gs) ∙ sym w.count) in
    record {
      members_are = ap (take (length places)) m ∙ take_at j (drop (length j) members) (length places) p;
      ends_are = ap (take n) d ∙ take_at f (drop (length f) ends) n q;
      members_in = omega (arith, p, ap length m, length-append j (drop (length j) members));
      ends_in = omega (arith, q, ap length d, length-append f (drop (length f) ends));
    }

-- ---- trees

module _ (ws : List ℕ) (r : Maybe ℕ) (given : r ≡ count_answer (trees_in ws)) where
  abbrev CountBy : Maybe ℕ → Type 0
  CountBy (Some n) = trees_in ws ≡ some n
  CountBy None = trees_in ws ≡ none

  count_by : (o : Option ℕ) → trees_in ws ≡ o → CountBy (count_answer o)
  unfolding count_answer
  count_by none e = e
  count_by (some n) e = e

  counted_so : CountBy r
  counted_so = subst CountBy (sym given) (count_by (trees_in ws) refl)

  pub counted : (n : ℕ) → r ≡ Some n → trees_in ws ≡ some n
  counted n e = subst CountBy e counted_so

pub uncounted : (ws : List ℕ) → T (some_trees (trees_in ws)) → (r : Maybe ℕ) → r ≡ count_answer (trees_in ws) → r ≡ None → ⊥
unfolding some_trees
uncounted ws t r given e = subst (λ (o : Option ℕ). T (some_trees o)) (subst (CountBy ws r given) e (counted_so ws r given)) t

-- ---- where a group begins

pub begins_at : (ends : List ℕ) (g : ℕ) → 0 < g → get_or ends (g - 1) 0 ≡ begin_of ends g
unfolding begin_of
begins_at ends g h = sym (ap (begin_of ends) (let e : g ≡ suc (g - 1) = omega arith in e))

-- ---- how many arms

module _ (held group : List ℕ) (t : T (some_trees (trees_in held))) (g : IsGroup held group) where
  group_is : Fused held group
  group_is = let c = complete_so held t in subst (Fused held) (sym g.is) (group_fused held c.0 c.1 g.number g.there)

  pub group_some : 0 < length group
  group_some = group_is.some_member

  first_armed : Armed held (arm_count held (get_or group 0 0)) (get_or group 0 0)
  first_armed = every_at (Armed held (arm_count held (get_or group 0 0))) 0 group group_is.armed 0 group_some

  pub opener_there : get_or group 0 0 < length held
  opener_there = first_armed.0.0

  pub takes_some : 1 ≤ takes (get_or held (get_or group 0 0) 0)
  unfolding switch_at
  takes_some = leb→le 1 (takes (get_or held (get_or group 0 0) 0)) (and_right (is_switch (kind_of (get_or held (get_or group 0 0) 0))) (leb 1 (takes (get_or held (get_or group 0 0) 0))) first_armed.0.1)

pub arms_counted : (held group : List ℕ) (n : ℕ) → n ≡ takes (get_or held (get_or group 0 0) 0) → n - 1 ≡ arm_count held (get_or group 0 0)
unfolding arm_count
arms_counted held group n e = ap (λ (k : ℕ). k - 1) e

-- ---- numbers one after another

pub numbers_none : (first at : ℕ) (old : List ℕ) → old ≡ overlay at (numbers_from first 0) old
unfolding numbers_from
numbers_none first at old = sym (overlay_none at old)

numbers_last : (first i : ℕ) → numbers_from first (suc i) ≡ numbers_from first i ++ ((first + i) ∷ [])
unfolding numbers_from
numbers_last first zero = ap (λ (k : ℕ). k ∷ []) (omega arith)
numbers_last first (suc i) = ap (λ (l : List ℕ). first ∷ l) (numbers_last (suc first) i ∙ ap (λ (k : ℕ). numbers_from (suc first) i ++ (k ∷ [])) (omega arith))

pub numbers_more : (first at : ℕ) (old now : List ℕ) (i : ℕ) → now ≡ overlay at (numbers_from first i) old → set now (at + i) (first + i) ≡ overlay at (numbers_from first (i + 1)) old
numbers_more first at old now i e =
    ap (λ (l : List ℕ). set l (at + i) (first + i)) e
    ∙ (sym (overlay_word (at + i) (first + i) (overlay at (numbers_from first i) old))
    ∙ (ap (λ (k : ℕ). overlay k ((first + i) ∷ []) (overlay at (numbers_from first i) old)) (omega (arith, numbers_count first i))
    ∙ (sym (overlay_append at (numbers_from first i) ((first + i) ∷ []) old) ∙ ap (λ (l : List ℕ). overlay at l old) (sym (numbers_last first i) ∙ ap (numbers_from first) (omega arith)))))

pub found_so : (held : List ℕ) (m n g : ℕ) (members ends : List ℕ) → GroupingSo held m g members ends → m ≡ n → GroupingSo held n g members ends
found_so held m n g members ends s e = subst (λ (k : ℕ). GroupingSo held k g members ends) e s
