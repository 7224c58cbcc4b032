-- The beginning of a scope: what its rounds leave, what it holds, its groups, and its members numbered (01, "Scoped fusion"). Assumes nothing.
use Prim.Native.Nat.{ℕ, zero, suc, ◌+◌, ◌-◌, ◌≤◌, ◌<◌}
use native.Mathlib.Omega.{arith}
use mathlib.Core.Path.{◌≡◌, refl, sym, ◌∙◌, ap, ap₂, subst}
use mathlib.Core.Bool.{Bool, true, false, ◌&&◌}
use mathlib.Core.Option.{Option, some}
use mathlib.Core.List.{List, [], ◌∷◌, ◌++◌, map}
use lib.ListN.{length, get_or, take, drop, length-append, length-drop, length-map}
use lib.Seq.{take_at, length-take-le}
use lib.Dec.{T, leb}
use borrow.Author.Tests.{le-leb, lt-leb, leb-true, leb-false}
use Rattle.spec_tree.specs.Outcome.{Refusal, Outcome, ok, refused, by, ◌>>=◌}
use Rattle.spec_tree.specs.Rows.{Row}
use Rattle.spec_tree.specs.Tokens.{read, numbered, trees_in, name_in}
use Rattle.spec_tree.proofs.TokenLaws.{complete_length, complete_within}
use Rattle.words.specs.words.Words.{some_trees}
use Rattle.laws.specs.positions.Names.{is_number, symbols_pass}
use Rattle.laws.specs.positions.Rounds.{next_number}
use Rattle.rounds.specs.kept.Sound.{extractable}
use Rattle.rounds.proofs.kept.Steps.{ready_of}
use Rattle.reciprocals.specs.reciprocal.Bindings.{all_there}
use Rattle.reciprocals.proofs.reciprocal.There.{there_tested}
use Rattle.topo_sort.specs.treelist.Starts.{starts_of, tree_listing, listing_by, listing_room}
use Rattle.topo_sort.proofs.treelist.Begins.{as_many}
use Rattle.laws.specs.switches.Switches.{switch_places}
use Rattle.laws.proofs.switches.GroupColumns.{every_at}
use Rattle.laws.proofs.switches.Stepping.{places_end, places_few}
use Rattle.fusion.specs.place.Overlay.{overlay}
use Rattle.fusion.specs.place.Parts.{place_groups, ends_from, reciprocals_first, lets_count, trees_held, words_held, held_words}
use Rattle.fusion.specs.place.Whole.{Told, Walk, stmts_count, ordered_scope, room_for, fused_scope}
use Rattle.fusion.proofs.tables.Laws.{overlay_front}
use Rattle.scope_laws.proofs.sound.Bounds.{WalkBound, walk_bound, numbers_small, numbers_all}
use Rattle.scope_laws.proofs.sound.Columns.{members_count, groups_count}
use Rattle.scope_laws.proofs.sound.Counting.{places_there, held_extractable, held_passes, held_trees, first_lets, trees_few, lets_few, held_trees_few}
use Rattle.statements.specs.Prepared.{Prepared}
use Rattle.cse_scoped.specs.one_scope.Answers.{walk_answer, KeptSo, WalkWrote, HoldingSo}
use Rattle.cse_scoped.specs.one_scope.Frame.{Holds, Ready, groups_told, grouped_scope, Numbered, Left, left_scope, GroupingSo, Room}
use Rattle.cse_scoped.specs.one_scope.Scoped as scoped
use Rattle.std.specs.Prelude.{Option as Maybe, Some, None}
use Rattle.cse_scoped.specs.one_scope.Walked.{Walked}
use Rattle.cse_scoped.specs.one_scope.Walked as walked_enum
use Rattle.cse_scoped.proofs.one_scope.Sound.{words_ok}
use Rattle.reciprocals.proofs.bindings.Parts.{AllThere, settle_tree, settled_reciprocals}
use Rattle.laws.specs.positions.Places.{divisors_to_bind, numbered_at}
use Rattle.fusion.specs.Switchless.{with_switches}
use Rattle.cse_scoped.proofs.one_scope.Statements.{by_test, by_no_test}
use Rattle.cse_scoped.proofs.one_scope.Ending.{ScopeDone, scope_refused}
use Rattle.spec_tree.proofs.Logic.{and_false}
use Rattle.fusion.proofs.groups.Groups.{ends_length}

-- ---- from the groups on

module _ (rows : List Row) (fuel left row : ℕ) (ws : List ℕ) (k first : ℕ) (places held starts members ends : List ℕ)
    (h : Holds rows (reciprocals_first ws k first places + length places) held) (rd : Ready ws k first places held starts members ends) where
  abbrev from : ℕ
  from = reciprocals_first ws k first places + length places

  abbrev lets : ℕ
  lets = (length starts - k) + length places

  abbrev gs : List (List ℕ)
  gs = place_groups held

  lets_are : lets_count ws k first places ≡ lets
  unfolding lets_count
  lets_are = omega (arith, length-drop k (read numbered ws), complete_length numbered ws (length starts) rd.complete)

  few_stmts : lets + length gs ≤ 2048
  unfolding stmts_count
  few_stmts = omega (arith, lets_are, rd.statements [], ap (λ (hs : List ℕ). length (place_groups hs)) rd.held_is)

  pub lets_small : lets ≤ 2048
  lets_small = omega (arith, few_stmts)

  pub from_low : first + lets ≤ 2147485696
  from_low = omega (arith, lets_small, rd.low)

  pub holds_from : Holds rows (first + lets) held
  holds_from = subst (λ (n : ℕ). Holds rows n held) (sym rd.last) h

  pub ends_short : length ends ≤ 2048
  ends_short = omega (arith, few_stmts, ap length rd.grouped.ends_are, ends_length 0 gs)

  module _ (w : Walked) (numbers stops kept : List ℕ) (given : (w ≡ walk_answer (groups_told rows fuel left (first + lets) held)) × WalkWrote (groups_told rows fuel left (first + lets) held) numbers stops kept) where
    pub record WalkDone (after extracted : ℕ) : Type 0 where
      pub walk : Walk
      pub told : groups_told rows fuel left from held ≡ ok walk
      pub after_is : after ≡ walk.next
      pub extracted_is : extracted ≡ walk.extracted
      pub numbers_are : take (length walk.numbers) numbers ≡ walk.numbers
      pub stops_are : take (length walk.arms) stops ≡ ends_from 0 walk.arms
      pub kept_is : KeptSo walk.arms kept

    abbrev By : Walked → Type 0
    By (walked_enum.Done after extracted) = WalkDone after extracted
    By (walked_enum.Refused q) = (i : Refusal) × (groups_told rows fuel left from held ≡ refused i) × (i.number ≡ q)

    by_outcome : (o : Outcome Walk) → groups_told rows fuel left from held ≡ o → WalkWrote o numbers stops kept → By (walk_answer o)
    unfolding walk_answer
    by_outcome (ok l) e x = record { walk = l; told = e; after_is = refl; extracted_is = refl; numbers_are = x.0; stops_are = x.1; kept_is = x.2 }
    by_outcome (refused i) e x = (i, e, refl)

    by_answer : By w
    by_answer =
        let s = ap (λ (n : ℕ). groups_told rows fuel left n held) rd.last in
        subst By (sym (given.0 ∙ ap walk_answer s)) (by_outcome (groups_told rows fuel left from held) refl (subst (λ (o : Outcome Walk). WalkWrote o numbers stops kept) s given.1))

    pub walk_refused : (q : ℕ) → w ≡ walked_enum.Refused q → (at : ℕ) (old : List ℕ) → ScopeDone (grouped_scope rows fuel left row ws k first places) at old (scoped.Refused q) old
    unfolding grouped_scope
    walk_refused q e at old =
        let m = subst By e by_answer in
        let s : grouped_scope rows fuel left row ws k first places ≡ refused m.0 =
        ap (λ (y : List ℕ). groups_told rows fuel left from y >>= λ l. ordered_scope row ws k first places l) (sym rd.held_is) ∙ ap (λ (o : Outcome Walk). o >>= λ l. ordered_scope row ws k first places l) m.1 in
        subst (λ (n : ℕ). ScopeDone (grouped_scope rows fuel left row ws k first places) at old (scoped.Refused n) old) m.2 (scope_refused (grouped_scope rows fuel left row ws k first places) m.0 s at old)

    module _ (after extracted : ℕ) (e : w ≡ walked_enum.Done after extracted) where
      d : WalkDone after extracted
      d = subst By e by_answer

      bound : WalkBound gs from (length gs) d.walk
      unfolding groups_told
      bound = walk_bound rows (is_number rows) fuel left from held h.good h.pass (words_ok rows from held h) (length gs) (omega arith) d.walk d.told

      numbers_many : length d.walk.numbers ≡ length members
      numbers_many = numbers_all gs from (length gs) d.walk bound refl ∙ sym (ap length rd.grouped.members_are)

      arms_many : length d.walk.arms ≡ length ends
      arms_many = bound.arms_many ∙ sym (ap length rd.grouped.ends_are ∙ ends_length 0 gs)

      numbers_here : take (length members) numbers ≡ d.walk.numbers
      numbers_here = ap (λ (n : ℕ). take n numbers) (sym numbers_many) ∙ d.numbers_are

      pub numbered_so : Numbered rows fuel left from held (take (length members) numbers) (take (length ends) stops) kept after extracted
      numbered_so = record {
        sized = record { walk = d.walk; told = d.told; numbers_are = numbers_here; stops_are = ap (λ (n : ℕ). take n stops) (sym arms_many) ∙ d.stops_are; kept_is = d.kept_is };
        after_is = d.after_is;
        extracted_is = d.extracted_is;
      }

      pub prepared_so : Prepared ws k first places held starts members ends (take (length members) numbers)
      prepared_so = record {
        complete = rd.complete;
        enough = rd.enough;
        there = rd.there;
        few = rd.few;
        low = rd.low;
        held_is = rd.held_is;
        short = h.few;
        starts_are = rd.starts_are;
        members_are = rd.grouped.members_are;
        ends_are = rd.grouped.ends_are;
        numbered = ap length numbers_here ∙ numbers_many;
        small = λ i l.
            let q : get_or (take (length members) numbers) i 0 ≡ get_or d.walk.numbers i 0 = ap (λ (y : List ℕ). get_or y i 0) numbers_here in
            let r = every_at (λ (j : ℕ). j ≤ 549755813888) 0 d.walk.numbers (numbers_small gs from (length gs) d.walk bound (omega (arith, rd.last, from_low))) i (omega (arith, l, ap length numbers_here)) in
            omega (arith, q, r);
        statements = rd.statements (take (length members) numbers);
      }

-- ---- from what is held on

take_front : (n : ℕ) (a b : List ℕ) → n ≤ length a → take n (a ++ b) ≡ take n a
take_front zero a b h = refl
take_front (suc n) [] b h = absurd (omega arith)
take_front (suc n) (x ∷ a) b h = ap (λ (l : List ℕ). x ∷ l) (take_front n a b (omega arith))

starts_listed : (hs old : List ℕ) (m : ℕ) → trees_in hs ≡ some m → m ≤ length old → (tree_listing hs old).out ≡ starts_of hs ++ drop m old
unfolding tree_listing listing_by listing_room
starts_listed hs old m e l =
    ap (λ (o : Option ℕ). (listing_by o (starts_of hs) old).out) e ∙ ap (λ (b : Bool). (listing_room b m (starts_of hs) old).out) (le-leb m (length old) l)

lets_of : (ws : List ℕ) (k first : ℕ) (places : List ℕ) (trees : ℕ) → trees_in ws ≡ some trees → lets_count ws k first places ≡ (trees - k) + length places
unfolding lets_count
lets_of ws k first places trees whole = omega (arith, length-drop k (read numbered ws), complete_length numbered ws trees whole)

stmts_are : (ws : List ℕ) (k first : ℕ) (places numbers : List ℕ) (trees : ℕ) → trees_in ws ≡ some trees
    → stmts_count ws k first places numbers ≡ ((trees - k) + length places) + length (place_groups (held_words ws k first places))
unfolding stmts_count
stmts_are ws k first places numbers trees whole = omega (arith, lets_of ws k first places trees whole)

groups_many : (held : List ℕ) (m g : ℕ) (members ends : List ℕ) → GroupingSo held m g members ends → g ≡ length (place_groups held)
groups_many held m g members ends s = omega (arith, length-take-le g ends s.ends_in, ap length s.ends_are, ends_length 0 (place_groups held))

-- with room for what is held, for the switches and for the statements, or without
module _ (rows : List Row) (fuel left row : ℕ) (ws : List ℕ) (k first : ℕ) (places : List ℕ) where
  abbrev hs : List ℕ
  hs = held_words ws k first places

  abbrev stmts : ℕ
  stmts = lets_count ws k first places + length (place_groups hs)

  abbrev outcome : Outcome Told
  outcome = left_scope rows fuel left row ws k first places

  -- by the three tests
  tested : (a b c : Bool) → leb (length hs) left ≡ a → leb (length (switch_places hs)) 3640 ≡ b → leb stmts 2048 ≡ c → (leb (length hs) left && (leb (length (switch_places hs)) 3640 && leb stmts 2048)) ≡ (a && (b && c))
  tested a b c e f g = ap₂ (λ (x y : Bool). x && y) e (ap₂ (λ (x y : Bool). x && y) f g)

  fused_so : length hs ≤ left → length (switch_places hs) ≤ 3640 → stmts ≤ 2048 → left_scope rows fuel left row ws k first places ≡ grouped_scope rows fuel (left - length hs) row ws k first places
  unfolding left_scope fused_scope grouped_scope groups_told room_for
  fused_so h n s =
      by_test (leb (length hs) left && (leb (length (switch_places hs)) 3640 && leb stmts 2048)) _ (refused (by 23))
      (tested true true true (le-leb (length hs) left h) (le-leb (length (switch_places hs)) 3640 n) (le-leb stmts 2048 s))

  refused_so : (leb (length hs) left && (leb (length (switch_places hs)) 3640 && leb stmts 2048)) ≡ false → left_scope rows fuel left row ws k first places ≡ refused (by 23)
  unfolding left_scope fused_scope room_for
  refused_so e = by_no_test (leb (length hs) left && (leb (length (switch_places hs)) 3640 && leb stmts 2048)) _ (refused (by 23)) e

  held_many_refused : left < length hs → left_scope rows fuel left row ws k first places ≡ refused (by 23)
  held_many_refused h = refused_so (tested false (leb (length (switch_places hs)) 3640) (leb stmts 2048) (lt-leb (length hs) left h) refl refl)

  switches_many_refused : 3640 < length (switch_places hs) → left_scope rows fuel left row ws k first places ≡ refused (by 23)
  switches_many_refused h =
      refused_so (tested (leb (length hs) left) false (leb stmts 2048) refl (lt-leb (length (switch_places hs)) 3640 h) refl ∙ and_false (leb (length hs) left))

  stmts_many_refused : 2048 < stmts → left_scope rows fuel left row ws k first places ≡ refused (by 23)
  stmts_many_refused h =
      refused_so
      (tested (leb (length hs) left) (leb (length (switch_places hs)) 3640) false refl refl (lt-leb stmts 2048 h)
      ∙ (ap (λ (b : Bool). leb (length hs) left && b) (and_false (leb (length (switch_places hs)) 3640)) ∙ and_false (leb (length hs) left)))

  module _ (held : List ℕ) (held_is : held ≡ held_words ws k first places) where
    pub too_many_switches : 3640 < length (switch_places held) → (at : ℕ) (table : List ℕ) → ScopeDone (left_scope rows fuel left row ws k first places) at table (scoped.Refused 23) table
    too_many_switches h at table = scope_refused outcome (by 23) (switches_many_refused (omega (arith, h, ap (λ (z : List ℕ). length (switch_places z)) held_is))) at table

    -- by how many groups there are
    module _ (trees : ℕ) (whole : trees_in ws ≡ some trees) (m g : ℕ) (members ends : List ℕ) (s : GroupingSo held m g members ends) where
      count_so : stmts ≡ ((trees - k) + length places) + g
      count_so = omega (arith, lets_of ws k first places trees whole, groups_many held m g members ends s, ap (λ (z : List ℕ). length (place_groups z)) held_is)

      pub too_many_stmts : 2048 < ((trees - k) + length places) + g → (at : ℕ) (table : List ℕ) → ScopeDone (left_scope rows fuel left row ws k first places) at table (scoped.Refused 23) table
      too_many_stmts h at table = scope_refused outcome (by 23) (stmts_many_refused (omega (arith, count_so))) at table

      pub outcome_is : length held ≤ left → length (switch_places held) ≤ 3640 → ((trees - k) + length places) + g ≤ 2048 → (rest : ℕ) → rest ≡ left - length held
          → left_scope rows fuel left row ws k first places ≡ grouped_scope rows fuel rest row ws k first places
      outcome_is h n few rest e =
          fused_so (omega (arith, h, ap length held_is)) (omega (arith, n, ap (λ (z : List ℕ). length (switch_places z)) held_is)) (omega (arith, count_so))
          ∙ ap (λ (j : ℕ). grouped_scope rows fuel j row ws k first places) (omega (arith, e, ap length held_is))

module _ (rows : List Row) (ws : List ℕ) (k first : ℕ) (places : List ℕ) (l : Left rows ws k first places) where
  abbrev good : ℕ → Bool
  good = is_number rows

  abbrev same : List ℕ → Type 0
  same ps = ps ≡ places

  pub left_there : T (all_there ws places)
  left_there = there_tested ws places (subst (AllThere ws) (sym l.places_are) (places_there rows good k first ws l.good l.pass))

  module _ (held : List ℕ) (held_is : held ≡ held_words ws k first places) where
    at_places : (P : List ℕ → Type 0) → P (divisors_to_bind ws (name_in rows) true) → P places
    at_places P x = subst P (sym l.places_are) x

    held_good : T (extractable rows (reciprocals_first ws k first places + length places) held)
    held_good = subst (λ (z : List ℕ). T (extractable rows (reciprocals_first ws k first places + length places) z)) (sym held_is) (at_places (λ ps. T (extractable rows (reciprocals_first ws k first ps + length ps) (held_words ws k first ps))) (held_extractable rows good k first ws l.good l.pass))

    pub left_holds : length held ≤ 65536 → length (switch_places held) ≤ 3640 → Holds rows (reciprocals_first ws k first places + length places) held
    left_holds short few = record {
      good = held_good;
      pass = subst (λ (z : List ℕ). T (symbols_pass good z)) (sym held_is) (at_places (λ ps. T (symbols_pass good (held_words ws k first ps))) (held_passes rows good k first ws l.good l.pass));
      few = short;
      switches = few;
    }

    trees_here : trees_in held ≡ some (length (trees_held ws (next_number k first (read numbered ws)) places))
    trees_here = ap trees_in held_is ∙ at_places (λ ps. trees_in (held_words ws k first ps) ≡ some (length (trees_held ws (next_number k first (read numbered ws)) ps))) (held_trees rows good k first ws l.good l.pass)

    pub held_whole : T (some_trees (trees_in held))
    unfolding some_trees
    held_whole = subst (λ (o : Option ℕ). T (some_trees o)) (sym trees_here) tt

    abbrev after : ℕ
    after = reciprocals_first ws k first places + length places

    module _ (members ends : List ℕ) (mm gg : ℕ) (g : GroupingSo held mm gg members ends) where
      -- as many members as switches
      members_are : length (take mm members) ≡ length (switch_places held)
      members_are = let r = ready_of rows after held held_good in ap length g.members_are ∙ members_count held r.trees r.complete

      pub switches_here : length members ≤ 3640 → length (switch_places held) ≤ 3640
      switches_here long = omega (arith, members_are, length-take-le mm members g.members_in, g.members_in, long)

      pub groups_short : length members ≤ 3640 → gg ≤ 3640
      groups_short long =
          let r = ready_of rows after held held_good in
          omega (arith, groups_many held mm gg members ends g, groups_count held r.trees r.complete, switches_here long)

      -- a stop for each group, where they aren't too many
      pub stops_enough : (stops : List ℕ) → (length stops < length (place_groups held) → 2048 < length (place_groups held)) → gg ≤ 2048 → length (take gg ends) ≤ length stops
      stops_enough stops over few =
          let n = groups_many held mm gg members ends g in
          let e = length-take-le gg ends g.ends_in in
          go (leb gg (length stops)) refl n e
        where
          go : (b : Bool) → leb gg (length stops) ≡ b → gg ≡ length (place_groups held) → length (take gg ends) ≡ gg → length (take gg ends) ≤ length stops
          go true q n e = omega (arith, leb-true gg (length stops) q, e)
          go false q n e = let f = over (omega (arith, leb-false gg (length stops) q, n)) in omega (arith, f, n, few)

      pub members_within : (n : ℕ) → length members ≤ n → length (take mm members) ≤ n
      members_within n h = omega (arith, length-take-le mm members g.members_in, g.members_in, h)

    module _ (trees : ℕ) (whole : trees_in ws ≡ some trees) where
      pub trees_short : trees ≤ 1927
      trees_short = omega (arith, complete_length numbered ws trees whole, trees_few rows good k first ws l.good l.pass l.few)

      abbrev m : ℕ
      m = length (trees_held ws (next_number k first (read numbered ws)) places)

      held_many : trees ≤ m
      unfolding trees_held
      held_many = omega (arith, complete_length numbered ws trees whole, length-append (map (settle_tree (map (numbered_at ws) places) (next_number k first (read numbered ws))) (read numbered ws)) (with_switches (settled_reciprocals (map (numbered_at ws) places) (next_number k first (read numbered ws)))), length-map (read numbered ws) (settle_tree (map (numbered_at ws) places) (next_number k first (read numbered ws))))

      held_few : m ≤ 1927
      held_few = at_places (λ ps. length (trees_held ws (next_number k first (read numbered ws)) ps) ≤ 1927) (held_trees_few rows good k first ws l.good l.pass l.few)

      all_starts : length (starts_of held) ≡ m
      all_starts = as_many held ∙ complete_length numbered held m trees_here

      pub trees_listed : trees ≤ length (starts_of held)
      trees_listed = omega (arith, all_starts, held_many)

      -- arrays as long as the most, and short ones for few words
      pub room_most : (starts members ends numbers stops : List ℕ) → length starts ≡ 1927 → length members ≡ 3640 → length ends ≡ 3640 → length numbers ≡ 3640 → length stops ≡ 2048
          → Room held starts members ends numbers stops
      room_most starts members ends numbers stops a b c d e =
          record {
            trees = omega (arith, a, all_starts, held_few);
            switches = record { most = omega (arith, d); over = λ h. omega (arith, h, d) };
            members_as = omega (arith, b, d);
            ends_as = omega (arith, c, d);
            stops_over = λ h. omega (arith, h, e);
          }

      pub room_few : length held ≤ 128 → (starts members ends numbers stops : List ℕ) → length starts ≡ 128 → length members ≡ 128 → length ends ≡ 128 → length numbers ≡ 128
          → length stops ≡ 128 → Room held starts members ends numbers stops
      room_few few starts members ends numbers stops a b c d e =
          let r = ready_of rows after held held_good in
          let n : length (switch_places held) ≤ length held = omega (arith, ap length (places_end held), places_few held (length held)) in
          let g = groups_count held r.trees r.complete in
          record {
            trees = omega (arith, a, all_starts, complete_within held m trees_here, few);
            switches = record { most = omega (arith, d); over = λ h. omega (arith, h, d, n, few) };
            members_as = omega (arith, b, d);
            ends_as = omega (arith, c, d);
            stops_over = λ h. omega (arith, h, e, n, g, few);
          }

      module _ (old starts : List ℕ) (lent : length (starts_of held) ≤ length old) (listed : starts ≡ (tree_listing held old).out) where
        starts_are : take trees starts ≡ take trees (starts_of held)
        starts_are =
            ap (take trees) (listed ∙ starts_listed held old m trees_here (omega (arith, lent, all_starts))) ∙ take_front trees (starts_of held) (drop m old) (omega (arith, all_starts, held_many))

        pub starts_long : length (take trees starts) ≡ trees
        starts_long = ap length starts_are ∙ length-take-le trees (starts_of held) (omega (arith, all_starts, held_many))

        pub ready_so : (members ends : List ℕ) (mm gg : ℕ) → GroupingSo held mm gg members ends → ((trees - k) + length places) + gg ≤ 2048
            → Ready ws k first places held (take trees starts) (take mm members) (take gg ends)
        ready_so members ends mm gg g few =
            record {
              complete = whole ∙ ap some (sym starts_long);
              enough = omega (arith, starts_long, l.enough, complete_length numbered ws trees whole);
              there = left_there;
              few = l.few;
              low = l.low;
              held_is = held_is;
              starts_are = starts_are ∙ ap (λ (n : ℕ). take n (starts_of held)) (sym starts_long);
              grouped = record { members_are = g.members_are; ends_are = g.ends_are };
              statements = λ numbers. omega (arith, stmts_are ws k first places numbers trees whole, few, groups_many held mm gg members ends g, ap (λ (hs : List ℕ). length (place_groups hs)) held_is);
              last = last_is;
            }
          where
            last_is : first + ((length (take trees starts) - k) + length places) ≡ reciprocals_first ws k first places + length places
            last_is =
                let q = at_places (λ ps. reciprocals_first ws k first ps + length ps ≡ first + lets_count ws k first ps) (first_lets rows good k first ws l.good l.pass) in
                omega (arith, q, lets_of ws k first places trees whole, starts_long)

-- ---- what is held

pub whole_so : (rows : List Row) (n : ℕ) (ws : List ℕ) → T (extractable rows n ws) → T (some_trees (trees_in ws))
unfolding some_trees
whole_so rows n ws g = let r = ready_of rows n ws g in subst (λ (o : Option ℕ). T (some_trees o)) (sym r.complete) tt

module _ (rows : List Row) (fuel left row : ℕ) (ws : List ℕ) (k first : ℕ) (places : List ℕ) (l : Left rows ws k first places) (trees : ℕ) (whole : trees_in ws ≡ some trees) where
  pub trees_enough : k ≤ trees
  trees_enough = omega (arith, l.enough, complete_length numbered ws trees whole)

  pub trees_few_here : trees ≤ 1927
  trees_few_here = omega (arith, complete_length numbered ws trees whole, trees_few rows (is_number rows) k first ws l.good l.pass l.few)

  number_is : first + (trees - k) ≡ reciprocals_first ws k first places
  unfolding reciprocals_first next_number
  number_is = omega (arith, length-drop k (read numbered ws), complete_length numbered ws trees whole)

  pub places_short : length places ≤ 1927
  places_short = omega (arith, lets_of ws k first places trees whole, subst (λ (ps : List ℕ). lets_count ws k first ps ≤ 1927) (sym l.places_are) (lets_few rows (is_number rows) k first ws l.good l.pass l.few))

  pub words_whole : T (some_trees (trees_in ws))
  words_whole = whole_so rows (next_number k first (read numbered ws)) ws l.good

  module _ (r : Maybe ℕ) (held : List ℕ) (given : HoldingSo (words_held ws (first + (trees - k)) places) r held) where
    words_are : words_held ws (first + (trees - k)) places ≡ held_words ws k first places
    unfolding held_words
    words_are = ap (λ (n : ℕ). words_held ws n places) number_is

    pub too_many : r ≡ None → length held ≡ left → (at : ℕ) (table : List ℕ) → ScopeDone (left_scope rows fuel left row ws k first places) at table (scoped.Refused 23) table
    too_many e long at table =
        let g = subst (λ (q : Maybe ℕ). HoldingSo (words_held ws (first + (trees - k)) places) q held) e given in
        scope_refused (left_scope rows fuel left row ws k first places) (by 23) (held_many_refused rows fuel left row ws k first places (omega (arith, g, ap length words_are, long))) at table

    module _ (n : ℕ) (e : r ≡ Some n) where
      so : HoldingSo (words_held ws (first + (trees - k)) places) (Some n) held
      so = subst (λ (q : Maybe ℕ). HoldingSo (words_held ws (first + (trees - k)) places) q held) e given

      pub held_in : n ≤ length held
      held_in = so.1

      pub held_are : take n held ≡ held_words ws k first places
      held_are = so.0 ∙ words_are

      pub held_short : length (take n held) ≤ length held
      held_short = omega (arith, length-take-le n held so.1, so.1)

-- ---- from the rounds on

module _ (rows : List Row) (fuel left row : ℕ) (work : List ℕ) (used k first : ℕ) (places : List ℕ) (there : used ≤ length work) (l : Left rows (take used work) k first places) where
  abbrev vs : List ℕ
  vs = take used work

  used_long : length vs ≡ used
  used_long = length-take-le used work there

  pub used_few : used ≤ 1927
  used_few = omega (arith, used_long, l.few)

  abbrev as_left : Outcome Told
  as_left = left_scope rows fuel left row vs k first places

  module _ (old tokens : List ℕ) (long : used ≤ length old) (copied : tokens ≡ overlay 0 vs old) where
    pub tokens_are : take used tokens ≡ vs
    tokens_are = ap (take used) (copied ∙ overlay_front vs old (omega (arith, used_long, long))) ∙ take_at vs (drop (length vs) old) used used_long

    pub tokens_inside : length (take used tokens) ≤ length work
    tokens_inside = omega (arith, ap length tokens_are, used_long, there)

    pub tokens_left : Left rows (take used tokens) k first places
    tokens_left = subst (λ (z : List ℕ). Left rows z k first places) (sym tokens_are) l

    pub tokens_whole : T (some_trees (trees_in (take used tokens)))
    tokens_whole = whole_so rows (next_number k first (read numbered (take used tokens))) (take used tokens) tokens_left.good

    pub same_outcome : as_left ≡ left_scope rows fuel left row (take used tokens) k first places
    same_outcome = ap (λ (z : List ℕ). left_scope rows fuel left row z k first places) (sym tokens_are)
