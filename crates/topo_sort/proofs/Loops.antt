-- The loops of the order, turn by turn: needs counted, the first stack, the dependents of one taken, and all that are taken. Assumes nothing.
use Prim.Native.Nat.{ℕ, suc, ◌+◌, ◌-◌, ◌≤◌, ◌<◌}
use mathlib.Core.Path.{◌≡◌, refl, sym, ◌∙◌, ap, subst}
use mathlib.Core.Logic.{◌≢◌}
use mathlib.Core.Bool.{Bool, true, false, ◌&&◌}
use mathlib.Core.List.{List, [], ◌∷◌, ◌++◌, reverse, reverse-reverse}
use native.Mathlib.Omega.{arith}
use native.Mathlib.Numerals.{add-one}
use borrow.Author.Tests.{eqb-true, eqb-false}
use lib.Dec.{eqb, eqb-suc-zero}
use lib.ListN.{length, get_or, take, drop, set, length-set, take-append-drop}
use lib.Seq.{get_or-set_same, get_or-set_other, drop-set-lt, drop-drop, set-get_or}
use Rattle.words.specs.bits.Bits.{yes}
use Rattle.spec_cse.specs.Order.{member, free_from, joining, push, positions_taken}
use Rattle.topo_sort.specs.Needs.{columns, rows_from, table_of}
use Rattle.topo_sort.specs.Turns.{stack_of, joined, lower, joins, Pushed, Begun, Met, Counted, Lowered, Taken}
use Rattle.topo_sort.proofs.Stacks.{stack_length, stack_grows, stack_top, stack_empty, pushed_top, push_length, push_joined}
use Rattle.topo_sort.proofs.Left.{left, left_none, left_lower, left_some, columns_distinct, row_member, table_length, joins_are}
use Rattle.topo_sort.proofs.Going.{Going, going_starts, going_room, going_turns, going_fresh, going_ends}
use Rattle.spec_tree.proofs.Logic.{not_true}

-- ---- needs counted

joined_long : (b : Bool) (j : ℕ) (l : List ℕ) → b ≡ true → length (joined b j l) ≡ suc (length l)
joined_long b j l e = rw e refl

-- ---- one word after another

-- a word set, and the others as before
pub set_reads : (P : ℕ → ℕ → Type 0) (words : List ℕ) (j v : ℕ) → j < length words → ((k : ℕ) → k < j → P k (get_or words k 0)) → P j v → (k : ℕ) → k < j + 1 → P k (get_or (set words j v) k 0)
set_reads P words j v h f p k l = go (eqb k j) refl
  where
    go : (b : Bool) → eqb k j ≡ b → P k (get_or (set words j v) k 0)
    go true e = let q = eqb-true k j e in rw (q, get_or-set_same words j v 0 h) p
    go false e = let q : k ≢ j = eqb-false k j e in rw (get_or-set_other words j k v 0 q) (f k (omega (arith, q)))

set_after : (words : List ℕ) (j v k : ℕ) → j + 1 ≤ k → get_or (set words j v) k 0 ≡ get_or words k 0
set_after words j v k h = get_or-set_other words j k v 0 (λ e. omega arith)

-- ---- the first stack

free_row : (j : ℕ) (ns : List ℕ) (rows : List (List ℕ)) (stack : List ℕ) → push (free_from j (ns ∷ rows)) stack ≡ push (free_from (suc j) rows) (joined (eqb (length ns) 0) j stack)
unfolding free_from push
free_row j [] rows stack = refl
free_row j (n ∷ ns) rows stack = rw (eqb-suc-zero (length ns)) refl

free_step :
    (needs : List ℕ) (count j : ℕ) (stack : List ℕ) → j < count
    → push (free_from j (rows_from needs count j (count - j))) stack
    ≡ push (free_from (j + 1) (rows_from needs count (j + 1) (count - (j + 1)))) (joined (eqb (length (columns needs j 0 count)) 0) j stack)
unfolding rows_from
free_step needs count j stack h =
    let e : count - j ≡ suc (count - suc j) = omega arith in
    rw (e, add-one j) (free_row j (columns needs j 0 count) (rows_from needs count (suc j) (count - suc j)) stack)

pub begun :
    (n left j : ℕ) (waiting stack : List ℕ) (top : ℕ) (new_stack : List ℕ) (new_top : ℕ) → n ≡ left → Pushed (eqb n 0) j stack top new_stack new_top
    → Begun left j waiting stack top (set waiting j n) new_stack new_top
begun n left j waiting stack top new_stack new_top e p =
    record { waits = ap (λ (k : ℕ). set waiting j k) e; pushes = subst (λ (k : ℕ). Pushed (eqb k 0) j stack top new_stack new_top) e p }

pub record Starting (needs : List ℕ) (count : ℕ) (old_waiting old_stack waiting stack : List ℕ) (top j : ℕ) : Type 0 where
  pub turns : push (free_from j (rows_from needs count j (count - j))) (stack_of top stack) ≡ push (free_from 0 (table_of needs count)) []
  pub waits : (k : ℕ) → k < j → get_or waiting k 0 ≡ length (columns needs k 0 count)
  pub low : top ≤ j
  pub in_count : j ≤ count
  pub waiting_long : length waiting ≡ length old_waiting
  pub stack_long : length stack ≡ length old_stack

pub starting : (needs : List ℕ) (count : ℕ) (waiting stack : List ℕ) (j : ℕ) → 0 ≡ j → Starting needs count waiting stack waiting stack 0 j
unfolding table_of
starting needs count waiting stack j e =
    subst (λ (k : ℕ). Starting needs count waiting stack waiting stack 0 k) e
    (record {
      turns = rw (stack_empty stack, (let e : count - 0 ≡ count = omega arith in e)) refl;
      waits = λ k h. absurd (omega arith);
      low = omega arith;
      in_count = omega arith;
      waiting_long = refl;
      stack_long = refl;
    })

module _ (needs : List ℕ) (count : ℕ) (old_waiting old_stack waiting stack : List ℕ) (top j : ℕ) (s : Starting needs count old_waiting old_stack waiting stack top j)
    (wide : count ≤ length old_waiting) (deep : count ≤ length old_stack) where
  pub starting_turns :
      j < count → (next : ℕ) → j + 1 ≡ next → (new_waiting new_stack : List ℕ) (new_top : ℕ)
      → Begun (length (columns needs j 0 count)) j waiting stack top new_waiting new_stack new_top
      → Starting needs count old_waiting old_stack new_waiting new_stack new_top next
  starting_turns h next e new_waiting new_stack new_top b =
      let p = b.pushes in
      let inside : top ≤ length stack = omega (arith, s.low, s.stack_long) in
      subst (λ (k : ℕ). Starting needs count old_waiting old_stack new_waiting new_stack new_top k) e
      (record {
        turns = rw p.pushed (sym (free_step needs count j (stack_of top stack) h)) ∙ s.turns;
        waits = rw b.waits (set_reads (λ k w. w ≡ length (columns needs k 0 count)) waiting j (length (columns needs j 0 count)) (omega (arith, s.waiting_long)) s.waits refl);
        low = omega (arith, pushed_top (eqb (length (columns needs j 0 count)) 0) j stack top new_stack new_top p inside, s.low);
        in_count = omega arith;
        waiting_long = rw (b.waits, length-set waiting j (length (columns needs j 0 count))) s.waiting_long;
        stack_long = p.long ∙ s.stack_long;
      })

  pub started : count ≤ j → Counted needs count waiting stack top
  unfolding rows_from free_from push
  started h =
      let e : j ≡ count = omega (arith, s.in_count) in
      record {
        waits = λ k l. s.waits k (omega arith);
        pushes = subst (λ (m : ℕ). push (free_from j (rows_from needs count j m)) (stack_of top stack) ≡ push (free_from 0 (table_of needs count)) []) (let z : count - j ≡ 0 = omega arith in z) s.turns;
        inside = omega (arith, s.low, s.stack_long);
      }

-- ---- the dependents of one taken

joins_step :
    (needs : List ℕ) (i : ℕ) (waiting : List ℕ) (count j : ℕ) (stack : List ℕ) → j < count
    → push (joins needs i waiting j (count - j)) stack
    ≡ push (joins needs i waiting (j + 1) (count - (j + 1))) (joined (yes needs j i && eqb (get_or waiting j 0) 1) j stack)
unfolding joins
joins_step needs i waiting count j stack h =
    let e : count - j ≡ suc (count - suc j) = omega arith in
    rw (e, add-one j) (push_joined (yes needs j i && eqb (get_or waiting j 0) 1) j (joins needs i waiting (suc j) (count - suc j)) stack)

pub record Joining (needs : List ℕ) (count i : ℕ) (old_waiting old_stack : List ℕ) (top : ℕ) (waiting stack : List ℕ) (t j : ℕ) : Type 0 where
  pub turns : push (joins needs i old_waiting j (count - j)) (stack_of t stack) ≡ push (joins needs i old_waiting 0 count) (stack_of top old_stack)
  pub lowered : (k : ℕ) → k < j → get_or waiting k 0 ≡ lower (yes needs k i) (get_or old_waiting k 0)
  pub later : (k : ℕ) → j ≤ k → get_or waiting k 0 ≡ get_or old_waiting k 0
  pub inside : t ≤ length stack
  pub in_count : j ≤ count
  pub waiting_long : length waiting ≡ length old_waiting
  pub stack_long : length stack ≡ length old_stack

module _ (needs : List ℕ) (count i : ℕ) (old_waiting old_stack : List ℕ) (top : ℕ) (waiting stack : List ℕ) (t j : ℕ)
    (s : Joining needs count i old_waiting old_stack top waiting stack t j) (wide : count ≤ length old_waiting)
    (room : top + length (joins needs i old_waiting 0 count) ≤ length old_stack) where
  same_count : get_or waiting j 0 ≡ get_or old_waiting j 0
  same_count = s.later j (omega arith)

  pub joining_waits : j < count → ((k : ℕ) → k < count → yes needs k i ≡ true → 1 ≤ get_or old_waiting k 0) → yes needs j i ≡ true → 1 ≤ get_or waiting j 0
  joining_waits h f e = rw same_count (f j h e)

  -- where one joins, the stack has a place for it
  pub joining_room : j < count → (yes needs j i && eqb (get_or waiting j 0) 1) ≡ true → t < length stack
  joining_room h e =
      let b : (yes needs j i && eqb (get_or old_waiting j 0) 1) ≡ true = subst (λ (w : ℕ). (yes needs j i && eqb w 1) ≡ true) same_count e in
      let q = ap length (sym (joins_step needs i old_waiting count j (stack_of t stack) h) ∙ s.turns) in
      let l = joined_long (yes needs j i && eqb (get_or old_waiting j 0) 1) j (stack_of t stack) b in
      omega (
        arith,
        q,
        l,
        stack_length t stack s.inside,
        stack_length top old_stack (omega arith),
        s.stack_long,
        push_length (joins needs i old_waiting (j + 1) (count - (j + 1))) (joined (yes needs j i && eqb (get_or old_waiting j 0) 1) j (stack_of t stack)),
        push_length (joins needs i old_waiting 0 count) (stack_of top old_stack),
      )

  pub joining_turns :
      j < count → (new_waiting new_stack : List ℕ) (new_top : ℕ) → Met (yes needs j i) j waiting stack t new_waiting new_stack new_top
      → Joining needs count i old_waiting old_stack top new_waiting new_stack new_top (j + 1)
  joining_turns h new_waiting new_stack new_top m =
      let p = m.pushes in
      record {
        turns =
            rw (p.pushed, same_count) (sym (joins_step needs i old_waiting count j (stack_of t stack) h)) ∙ s.turns;
        lowered =
            rw m.waits
            (set_reads (λ k w. w ≡ lower (yes needs k i) (get_or old_waiting k 0)) waiting j (lower (yes needs j i) (get_or waiting j 0)) (omega (arith, s.waiting_long)) s.lowered
            (ap (λ (w : ℕ). lower (yes needs j i) w) same_count));
        later = λ k l. rw m.waits (set_after waiting j (lower (yes needs j i) (get_or waiting j 0)) k l ∙ s.later k (omega arith));
        inside = p.inside;
        in_count = omega arith;
        waiting_long = rw (m.waits, length-set waiting j (lower (yes needs j i) (get_or waiting j 0))) s.waiting_long;
        stack_long = p.long ∙ s.stack_long;
      }

  pub joining_ends : count ≤ j → Lowered needs count i old_waiting old_stack top waiting stack t
  unfolding joins push
  joining_ends h =
      record {
        waits = λ k l. s.lowered k (omega arith);
        pushes =
            subst (λ (m : ℕ). push (joins needs i old_waiting j m) (stack_of t stack) ≡ push (joins needs i old_waiting 0 count) (stack_of top old_stack))
            (let z : count - j ≡ 0 = omega arith in z) s.turns;
        inside = s.inside;
      }

-- ---- one statement after another is taken

pub not_met :
    (needed : Bool) (j : ℕ) (waiting stack : List ℕ) (top : ℕ) → needed ≡ false → top ≤ length stack → Met needed j waiting stack top waiting stack top
not_met needed j waiting stack top e h =
    record {
      waits = rw e (sym (set-get_or waiting j 0));
      pushes = rw e (record { pushed = refl; inside = h; long = refl });
    }

-- ---- all that are taken

pub record Taking (needs : List ℕ) (count : ℕ) (old_taken waiting stack taken : List ℕ) (top n : ℕ) : Type 0 where
  pub going : Going (table_of needs count) (stack_of top stack) (stack_of n taken)
  pub waits : (k : ℕ) → k < count → get_or waiting k 0 ≡ left (columns needs k 0 count) (stack_of n taken)
  pub inside : top ≤ length stack
  pub few : n ≤ count
  pub wide : count ≤ length waiting
  pub deep : count ≤ length stack
  pub taken_long : length taken ≡ length old_taken
  pub rest : drop n taken ≡ drop n old_taken

pub taking_starts :
    (needs : List ℕ) (count : ℕ) (waiting stack taken : List ℕ) (top : ℕ) → count ≤ length waiting → count ≤ length stack → Counted needs count waiting stack top
    → Taking needs count taken waiting stack taken top 0
taking_starts needs count waiting stack taken top w d c =
    record {
      going = rw (stack_empty taken, c.pushes) (going_starts (table_of needs count));
      waits = λ k h. rw (stack_empty taken) (c.waits k h ∙ sym (left_none (columns needs k 0 count)));
      inside = c.inside;
      few = omega arith;
      wide = w;
      deep = d;
      taken_long = refl;
      rest = refl;
    }

module _ (needs : List ℕ) (count : ℕ) (old_taken waiting stack taken : List ℕ) (top n : ℕ) (s : Taking needs count old_taken waiting stack taken top n)
    (long : count ≤ length old_taken) (some : 0 < top) where
  on_top : Going (table_of needs count) (get_or stack (top - 1) 0 ∷ stack_of (top - 1) stack) (stack_of n taken)
  on_top = rw (sym (stack_top top stack some s.inside)) s.going

  done_length : length (stack_of n taken) ≡ n
  done_length = stack_length n taken (omega (arith, s.few, s.taken_long))

  pub taking_below : n < count
  taking_below = omega (arith, going_room (table_of needs count) _ _ on_top, table_length needs count, done_length)

  pub top_inside : get_or stack (top - 1) 0 < count
  top_inside = omega (arith, (going_fresh (table_of needs count) _ _ _ on_top).1, table_length needs count)

  fresh : member (get_or stack (top - 1) 0) (stack_of n taken) ≡ false
  fresh = not_true _ (going_fresh (table_of needs count) _ _ _ on_top).0

  -- a statement that needs it waits
  pub taking_waits : (k : ℕ) → k < count → yes needs k (get_or stack (top - 1) 0) ≡ true → 1 ≤ get_or waiting k 0
  taking_waits k h e =
      rw (s.waits k h)
      (left_some (get_or stack (top - 1) 0) (stack_of n taken) (columns needs k 0 count) fresh (columns_distinct needs k 0 count)
      (row_member needs k count (get_or stack (top - 1) 0) top_inside ∙ e))

  those_joining :
      joins needs (get_or stack (top - 1) 0) waiting 0 count
      ≡ joining 0 (get_or stack (top - 1) 0) (get_or stack (top - 1) 0 ∷ stack_of n taken) (table_of needs count)
  unfolding table_of
  those_joining = joins_are needs count (get_or stack (top - 1) 0) waiting (stack_of n taken) top_inside fresh s.waits 0 count (omega arith)

  turned :
      Going (table_of needs count) (push (joins needs (get_or stack (top - 1) 0) waiting 0 count) (stack_of (top - 1) stack)) (get_or stack (top - 1) 0 ∷ stack_of n taken)
  turned = rw those_joining (going_turns (table_of needs count) (get_or stack (top - 1) 0) (stack_of (top - 1) stack) (stack_of n taken) on_top)

  -- the stack has a place for each that joins
  pub taking_room : top - 1 + length (joins needs (get_or stack (top - 1) 0) waiting 0 count) ≤ length stack
  taking_room =
      omega (
        arith,
        going_room (table_of needs count) _ _ turned,
        push_length (joins needs (get_or stack (top - 1) 0) waiting 0 count) (stack_of (top - 1) stack),
        stack_length (top - 1) stack (omega (arith, s.inside)),
        table_length needs count,
        s.deep,
      )

  taken_grows : stack_of (n + 1) (set taken n (get_or stack (top - 1) 0)) ≡ get_or stack (top - 1) 0 ∷ stack_of n taken
  taken_grows = stack_grows n (get_or stack (top - 1) 0) taken (omega (arith, taking_below, s.taken_long))

  pub taking_turns :
      (new_waiting new_stack : List ℕ) (new_top : ℕ) → Lowered needs count (get_or stack (top - 1) 0) waiting stack (top - 1) new_waiting new_stack new_top
      → length new_waiting ≡ length waiting → length new_stack ≡ length stack
      → Taking needs count old_taken new_waiting new_stack (set taken n (get_or stack (top - 1) 0)) new_top (n + 1)
  taking_turns new_waiting new_stack new_top l wl sl =
      record {
        going = rw (taken_grows, l.pushes) turned;
        waits = λ k h.
            rw (taken_grows, l.waits k h, s.waits k h, sym (row_member needs k count (get_or stack (top - 1) 0) top_inside))
            (left_lower (get_or stack (top - 1) 0) (stack_of n taken) (columns needs k 0 count) fresh (columns_distinct needs k 0 count));
        inside = l.inside;
        few = omega (arith, taking_below);
        wide = omega (arith, s.wide);
        deep = omega (arith, s.deep);
        taken_long = length-set taken n (get_or stack (top - 1) 0) ∙ s.taken_long;
        rest =
            drop-set-lt (n + 1) taken n (get_or stack (top - 1) 0) (omega arith)
            ∙ (sym (drop-drop 1 n taken) ∙ (ap (λ (l : List ℕ). drop 1 l) s.rest ∙ drop-drop 1 n old_taken));
      }

pub taking_ends :
    (needs : List ℕ) (count : ℕ) (old_taken waiting stack taken : List ℕ) (top n : ℕ) → Taking needs count old_taken waiting stack taken top n → top ≤ 0
    → count ≤ length old_taken → Taken (positions_taken (table_of needs count)) old_taken taken n
unfolding stack_of
taking_ends needs count old_taken waiting stack taken top n s h long =
    let e : stack_of n taken ≡ positions_taken (table_of needs count) =
    going_ends (table_of needs count) (stack_of n taken)
    (subst (λ (t : ℕ). Going (table_of needs count) (stack_of t stack) (stack_of n taken)) (let z : top ≡ 0 = omega arith in z) s.going)
    in
    record {
      many = sym (stack_length n taken (omega (arith, s.few, s.taken_long))) ∙ ap length e;
      words =
          sym (take-append-drop n taken)
          ∙ (ap (λ (l : List ℕ). l ++ drop n taken) (sym (reverse-reverse (take n taken)) ∙ ap (λ (l : List ℕ). reverse l) e)
          ∙ ap (λ (l : List ℕ). reverse (positions_taken (table_of needs count)) ++ l) s.rest);
    }
