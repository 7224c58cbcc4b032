-- Links followed: the first stack, the dependents of one taken, and all that are taken, as by the table of bits that says the same. Assumes nothing.
use Rattle.std.specs.Prelude.{⊤, Result}
use Prim.Native.Nat.{ℕ, zero, suc, ◌+◌, ◌-◌, ◌≤◌, ◌<◌}
use mathlib.Core.Path.{◌≡◌, refl, sym, ◌∙◌, ap, subst}
use mathlib.Core.Bool.{Bool, true, false}
use mathlib.Core.List.{List, ◌++◌, reverse}
use native.Mathlib.Omega.{arith}
use lib.Dec.{eqb}
use lib.ListN.{length, get_or, drop}
use lib.Seq.{set-get_or}
use Rattle.words.specs.bits.Bits.{yes}
use Rattle.spec_cse.specs.Order.{positions_taken}
use Rattle.topo_sort.specs.Needs.{table_of, all_or_ring, order_answer, order_written}
use Rattle.topo_sort.specs.Turns.{joined, Pushed, Begun, Met, Lowered, Taken}
use Rattle.topo_sort.specs.declared.OrderError.{OrderError}
use Rattle.topo_sort.specs.links.Links.{stmt_of, next_of, Chain, needing, Linked, Joinable, SomeJoinable, OrdersLinked}
use Rattle.topo_sort.proofs.Loops.{begun, not_met, Joining, joining_waits, joining_room, joining_turns, joining_ends, Taking, top_inside, taking_waits, taking_room}

-- ---- the first stack

pub begun_linked :
    (left j : ℕ) (waiting stack : List ℕ) (top : ℕ) (new_stack : List ℕ) (new_top : ℕ) → get_or waiting j 0 ≡ left → Pushed (eqb (get_or waiting j 0) 0) j stack top new_stack new_top
    → Begun left j waiting stack top waiting new_stack new_top
begun_linked left j waiting stack top new_stack new_top e p =
    subst (λ (l : List ℕ). Begun left j waiting stack top l new_stack new_top) (set-get_or waiting j 0) (begun (get_or waiting j 0) left j waiting stack top new_stack new_top e p)

-- ---- the dependents of one taken

module _ (needs : List ℕ) (count i : ℕ) (links : List ℕ) (head : ℕ) (old_waiting old_stack : List ℕ) (top : ℕ)
    (joinable : Joinable needs count i links head old_waiting old_stack top) where
  -- what is linked from h on is still to be met
  pub record Following (waiting stack : List ℕ) (t h : ℕ) : Type 0 where
    pub place : ℕ
    pub state : Joining needs count i old_waiting old_stack top waiting stack t place
    pub chain : Chain links h (needing needs i place (count - place))

  -- the statement of link h is the next to be met
  pub record Meeting (waiting stack : List ℕ) (t h : ℕ) : Type 0 where
    pub below : stmt_of links h < count
    pub needed : yes needs (stmt_of links h) i ≡ true
    pub back : next_of links h < h
    pub state : Joining needs count i old_waiting old_stack top waiting stack t (stmt_of links h)
    pub rest : Chain links (next_of links h) (needing needs i (stmt_of links h + 1) (count - (stmt_of links h + 1)))

  module _ (waiting stack : List ℕ) (t h : ℕ) where
    -- one that doesn't need it is passed over
    passed :
        (j : ℕ) → j < count → yes needs j i ≡ false → Joining needs count i old_waiting old_stack top waiting stack t j → Joining needs count i old_waiting old_stack top waiting stack t (j + 1)
    passed j b e s =
        joining_turns needs count i old_waiting old_stack top waiting stack t j s joinable.wide joinable.room b waiting stack t (not_met (yes needs j i) j waiting stack t e s.inside)

    found : (j : ℕ) → stmt_of links h ≡ j → j < count → yes needs j i ≡ true → next_of links h < h → Joining needs count i old_waiting old_stack top waiting stack t j
        → Chain links (next_of links h) (needing needs i (j + 1) (count - (j + 1))) → Meeting waiting stack t h
    found j e b y n s c =
        record {
          below = omega arith;
          needed = rw e y;
          back = n;
          state = rw e s;
          rest = rw e c;
        }

    next_meeting :
        0 < h → (d j : ℕ) → count - j ≡ d → Joining needs count i old_waiting old_stack top waiting stack t j → Chain links h (needing needs i j d) → Meeting waiting stack t h
    unfolding needing Chain
    next_meeting some zero j e s c = let z : h ≡ 0 = c in absurd (omega arith)
    next_meeting some (suc d) j e s c = go (yes needs j i) refl c (λ s c. next_meeting some d (suc j) (omega arith) s c)
      where
        go : (b : Bool) → yes needs j i ≡ b → Chain links h (joined b j (needing needs i (suc j) d))
            → (Joining needs count i old_waiting old_stack top waiting stack t (suc j) → Chain links h (needing needs i (suc j) d) → Meeting waiting stack t h) → Meeting waiting stack t h
        go true y c later =
            found j c.1.0 (omega arith) y c.1.1.0 s
            (subst (λ (n : ℕ). Chain links (next_of links h) (needing needs i (j + 1) n)) (let g : d ≡ count - (j + 1) = omega arith in g)
            (subst (λ (k : ℕ). Chain links (next_of links h) (needing needs i k d)) (let f : suc j ≡ j + 1 = omega arith in f) c.1.1.1))
        go false y c later =
            later (subst (λ (k : ℕ). Joining needs count i old_waiting old_stack top waiting stack t k) (let f : j + 1 ≡ suc j = omega arith in f) (passed j (omega arith) y s)) c

    pub meeting : Following waiting stack t h → 0 < h → Meeting waiting stack t h
    meeting f some = next_meeting some (count - f.place) f.place refl f.state f.chain

    -- no link is left
    none_left :
        h ≡ 0 → (d j : ℕ) → count - j ≡ d → Joining needs count i old_waiting old_stack top waiting stack t j → Chain links h (needing needs i j d)
        → Lowered needs count i old_waiting old_stack top waiting stack t
    unfolding needing Chain
    none_left none zero j e s c = joining_ends needs count i old_waiting old_stack top waiting stack t j s joinable.wide joinable.room (omega arith)
    none_left none (suc d) j e s c = go (yes needs j i) refl c (λ s c. none_left none d (suc j) (omega arith) s c)
      where
        go : (b : Bool) → yes needs j i ≡ b → Chain links h (joined b j (needing needs i (suc j) d))
            → (Joining needs count i old_waiting old_stack top waiting stack t (suc j) → Chain links h (needing needs i (suc j) d) → Lowered needs count i old_waiting old_stack top waiting stack t)
            → Lowered needs count i old_waiting old_stack top waiting stack t
        go true y c later = let some : 0 < h = c.0 in absurd (omega arith)
        go false y c later =
            later (subst (λ (k : ℕ). Joining needs count i old_waiting old_stack top waiting stack t k) (let f : j + 1 ≡ suc j = omega arith in f) (passed j (omega arith) y s)) c

    pub following_ends : Following waiting stack t h → h ≤ 0 → Lowered needs count i old_waiting old_stack top waiting stack t
    following_ends f none = none_left (omega arith) (count - f.place) f.place refl f.state f.chain

    module _ (m : Meeting waiting stack t h) where
      pub meeting_wide : stmt_of links h < length waiting
      meeting_wide = omega (arith, m.below, m.state.waiting_long, joinable.wide)

      pub meeting_waits : 1 ≤ get_or waiting (stmt_of links h) 0
      meeting_waits =
          joining_waits needs count i old_waiting old_stack top waiting stack t (stmt_of links h) m.state joinable.wide joinable.room m.below joinable.waits m.needed

      pub meeting_room : eqb (get_or waiting (stmt_of links h) 0) 1 ≡ true → t < length stack
      meeting_room e =
          joining_room needs count i old_waiting old_stack top waiting stack t (stmt_of links h) m.state joinable.wide joinable.room m.below (rw (m.needed, e) refl)

      pub following_turns : (new_waiting new_stack : List ℕ) (new_top : ℕ) → Met true (stmt_of links h) waiting stack t new_waiting new_stack new_top → Following new_waiting new_stack new_top (next_of links h)
      following_turns new_waiting new_stack new_top e =
          record {
            place = stmt_of links h + 1;
            state =
                joining_turns needs count i old_waiting old_stack top waiting stack t (stmt_of links h) m.state joinable.wide joinable.room m.below new_waiting new_stack new_top
                (subst (λ (b : Bool). Met b (stmt_of links h) waiting stack t new_waiting new_stack new_top) (sym m.needed) e);
            chain = m.rest;
          }

-- ---- all that are taken

module _ (needs : List ℕ) (count : ℕ) (heads links first_waiting : List ℕ) (linked : Linked needs count heads links first_waiting) (old_taken waiting stack taken : List ℕ) (top n : ℕ)
    (s : Taking needs count old_taken waiting stack taken top n) (long : count ≤ length old_taken) (some : 0 < top) where
  pub top_below : get_or stack (top - 1) 0 < count
  top_below = top_inside needs count old_taken waiting stack taken top n s long some

  pub top_joinable : Joinable needs count (get_or stack (top - 1) 0) links (get_or heads (get_or stack (top - 1) 0) 0) waiting stack (top - 1)
  top_joinable =
      record {
        chain = linked.chains (get_or stack (top - 1) 0) top_below;
        wide = s.wide;
        room = taking_room needs count old_taken waiting stack taken top n s long some;
        waits = taking_waits needs count old_taken waiting stack taken top n s long some;
      }

  pub top_some : SomeJoinable links (get_or heads (get_or stack (top - 1) 0) 0) waiting stack (top - 1)
  top_some = record { within = linked.within (get_or stack (top - 1) 0) top_below; needs = needs; count = count; stmt = get_or stack (top - 1) 0; joinable = top_joinable }

-- ---- the answer

module _ (needs : List ℕ) (count : ℕ) (old new : List ℕ) (n : ℕ) (t : Taken (positions_taken (table_of needs count)) old new n) where
  written : new ≡ order_written true (positions_taken (table_of needs count)) old
  unfolding order_written
  written = subst (λ (k : ℕ). new ≡ reverse (positions_taken (table_of needs count)) ++ drop k old) t.many t.words

  pub linked : (r : Result ⊤ OrderError) → r ≡ all_or_ring (eqb n count) n → OrdersLinked needs count old r new
  unfolding order_answer
  linked r e = record { answer_is = e ∙ ap (λ (k : ℕ). all_or_ring (eqb k count) k) t.many; taken_is = written }
