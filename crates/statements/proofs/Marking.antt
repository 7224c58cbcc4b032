-- What each statement reads, marked one statement after another, and the order that follows (01, "Order"). Assumes nothing.
use Prim.Native.Nat.{ℕ, zero, suc, ◌+◌, ◌-◌, ◌*◌, ◌≤◌, ◌<◌}
use native.Mathlib.Omega.{arith}
use mathlib.Core.Path.{◌≡◌, refl, sym, ◌∙◌, ap, ap₂}
use mathlib.Core.Bool.{Bool, true, false, cond}
use mathlib.Core.List.{List, [], ◌∷◌, ◌++◌, reverse}
use borrow.Author.Tests.{lt-ltb, le-ltb, le-leb}
use lib.Dec.{T, eqb}
use lib.ListN.{length, get_or, take, drop, replicate, length-replicate, length-reverse}
use Rattle.words.specs.words.Words.{some_trees}
use Rattle.spec_cse.specs.Order.{positions_taken}
use Rattle.laws.proofs.cse.OrderLaws.{taken_ok, all_get_d, all_turned}
use Rattle.topo_sort.specs.Needs.{table_of, room, all_or_ring, order_answer, order_written, Orders}
use Rattle.topo_sort.specs.declared.OrderError.{OrderError}
use Rattle.std.specs.Prelude.{⊤, Result}
use Rattle.laws.proofs.positions.Extraction.{Every}
use Rattle.laws.specs.switches.Switches.{switch_at}
use Rattle.laws.proofs.switches.Collected.{Switching}
use Rattle.reciprocals.specs.final.Ready.{Stands}
use Rattle.fusion.specs.scopeneeds.Marked.{switch_inside, all_switches, arms_there, arms_marked}
use Rattle.fusion.proofs.scopeneeds.Marking.{reads_append, reads_long}
use Rattle.fusion.specs.place.Parts.{place_groups, ends_from, group_at, lets_count, held_words, key_run}
use Rattle.fusion.specs.place.Reads.{with_reads, all_arms_run, marks_by}
use Rattle.fusion.specs.place.Whole.{stmts_count, tree_run, reads_run, needs_table, stmts_order}
use Rattle.statements.specs.Prepared.{Prepared, Grouped, order_told, match_reads, begin_of}
use Rattle.statements.proofs.Held.{lets_are, count_is}
use Rattle.statements.proofs.Groups.{group_switches}
use Rattle.statements.proofs.Keys.{group_there, members_part}
use Rattle.topo_sort.proofs.Left.{table_length}
use Rattle.fusion.proofs.groups.Groups.{ends_length}

-- ---- one let

pub let_marked :
    (first lets : ℕ) (numbers ends run out : List ℕ) (n row : ℕ) (bits : List ℕ) → Stands run out n
    → with_reads first lets numbers ends (take n out) row bits ≡ with_reads first lets numbers ends run row bits
let_marked first lets numbers ends run out n row bits s = ap (λ (l : List ℕ). with_reads first lets numbers ends l row bits) s.words

pub reads_same :
    (first lets : ℕ) (numbers ends a b : List ℕ) (row : ℕ) (bits : List ℕ) → a ≡ b → with_reads first lets numbers ends a row bits ≡ with_reads first lets numbers ends b row bits
reads_same first lets numbers ends a b row bits e = ap (λ (l : List ℕ). with_reads first lets numbers ends l row bits) e

-- ---- one match

switches_all : (hs l : List ℕ) → Every (Switching hs) l → all_switches hs l ≡ true
unfolding all_switches switch_inside
switches_all hs [] h = refl
switches_all hs (q ∷ l) h = rw (lt-ltb q (length hs) h.0.0, so (switch_at hs q) h.0.1, switches_all hs l h.1) refl
  where
    so : (b : Bool) → T b → b ≡ true
    so true t = refl
    so false t = absurd t

module _ {held members ends numbers : List ℕ} (G : Grouped held members ends numbers) (g : ℕ) (h : g < length ends) (b : ℕ) (e : b ≡ begin_of ends g) where
  abbrev gs : List (List ℕ)
  gs = place_groups held

  abbrev part : List ℕ
  part = take (get_or ends g 0 - b) (drop b members)

  arms_so : arms_there held part ≡ true
  unfolding arms_there some_trees
  arms_so =
      let all : all_switches held part ≡ true = ap (all_switches held) (members_part G g h b e) ∙ switches_all held (group_at gs g) (group_switches held g (group_there G g h)).1 in
      rw G.complete.1 all

  arms_run_is : all_arms_run held part ≡ all_arms_run held (get_or gs g [])
  unfolding group_at
  arms_run_is = ap (all_arms_run held) (members_part G g h b e)

  pub match_marked :
      (first lets row : ℕ) (bits mid out tree : List ℕ) (n : ℕ) → Stands (key_run held (place_groups held) numbers g) tree n
      → mid ≡ with_reads first lets numbers ends (take n tree) row bits
      → out ≡ arms_marked first lets numbers ends held (take (get_or ends g 0 - b) (drop b members)) row mid
      → out ≡ with_reads first lets numbers ends (match_reads held (place_groups held) numbers g) row bits
  unfolding arms_marked match_reads
  match_marked first lets row bits mid out tree n s e1 e2 =
      let key = key_run held gs numbers g in
      let arms = all_arms_run held (get_or gs g []) in
      e2
      ∙ (ap (λ (c : Bool). cond c (with_reads first lets numbers ends (all_arms_run held part) row mid) mid) arms_so
      ∙ (ap (λ (l : List ℕ). with_reads first lets numbers ends l row mid) arms_run_is
      ∙ (ap (with_reads first lets numbers ends arms row) (e1 ∙ ap (λ (l : List ℕ). with_reads first lets numbers ends l row bits) s.words)
      ∙ sym (reads_append first lets numbers ends key arms row bits))))

-- ---- any statement

module _ {ws : List ℕ} {k first : ℕ} {places held starts members ends numbers : List ℕ} (p : Prepared ws k first places held starts members ends numbers) where
  abbrev lets : ℕ
  lets = (length starts - k) + length places

  pub let_reads : (q : ℕ) → q < (length starts - k) + length places → tree_run ws k first places numbers (k + q) ≡ reads_run ws k first places numbers q
  unfolding reads_run
  let_reads q h = rw (lt-ltb q (lets_count ws k first places) (omega (arith, h, lets_are p))) refl

  match_by : (x : ℕ) → x ≡ (length starts - k) + length places → (hs : List ℕ) → hs ≡ held → (q : ℕ) → match_reads held (place_groups held) numbers (q - lets) ≡ match_reads hs (place_groups hs) numbers (q - x)
  match_by x e hs f q =
      ap (λ (y : ℕ). match_reads held (place_groups held) numbers (q - y)) (sym e) ∙ ap (λ (l : List ℕ). match_reads l (place_groups l) numbers (q - x)) (sym f)

  pub later_reads : (q : ℕ) → (length starts - k) + length places ≤ q → match_reads held (place_groups held) numbers (q - ((length starts - k) + length places)) ≡ reads_run ws k first places numbers q
  unfolding reads_run match_reads group_at
  later_reads q h =
      match_by (lets_count ws k first places) (lets_are p) (held_words ws k first places) (sym p.held_is) q ∙ rw (le-ltb q (lets_count ws k first places) (omega (arith, h, lets_are p))) refl

  pub stmt_group : (q : ℕ) → (length starts - k) + length places ≤ q → q < stmts_count ws k first places numbers → q - ((length starts - k) + length places) < length ends
  stmt_group q h l = omega (arith, h, l, count_is p, ap length p.ends_are, ends_length 0 (place_groups held))

  -- ---- all of them

  needs_step :
      (n : ℕ) (t : List ℕ)
      → needs_table ws k first places numbers (suc n) t
      ≡ with_reads first (lets_count ws k first places) numbers (ends_from 0 (place_groups (held_words ws k first places))) (reads_run ws k first places numbers n) n (needs_table ws k first places numbers n t)
  unfolding needs_table marks_by
  needs_step n t = refl

  needs_none : (t : List ℕ) → needs_table ws k first places numbers 0 t ≡ t
  unfolding needs_table marks_by
  needs_none t = refl

  ends_there : ends_from 0 (place_groups (held_words ws k first places)) ≡ ends
  ends_there = ap (λ (hs : List ℕ). ends_from 0 (place_groups hs)) (sym p.held_is) ∙ sym p.ends_are

  needs_more :
      (n : ℕ) (t : List ℕ)
      → needs_table ws k first places numbers (n + 1) t
      ≡ with_reads first ((length starts - k) + length places) numbers ends (reads_run ws k first places numbers n) n (needs_table ws k first places numbers n t)
  needs_more n t =
      let z : n + 1 ≡ suc n = omega arith in
      ap (λ (x : ℕ). needs_table ws k first places numbers x t) z
      ∙ (needs_step n t
      ∙ ap₂ (λ (x : ℕ) (l : List ℕ). with_reads first x numbers l (reads_run ws k first places numbers n) n (needs_table ws k first places numbers n t)) (lets_are p) ends_there)

  pub needs_long : (n : ℕ) (t : List ℕ) → length (needs_table ws k first places numbers n t) ≡ length t
  needs_long zero t = ap length (needs_none t)
  needs_long (suc n) t =
      ap length (needs_step n t)
      ∙ (reads_long first (lets_count ws k first places) numbers (ends_from 0 (place_groups (held_words ws k first places))) (reads_run ws k first places numbers n) n (needs_table ws k first places numbers n t)
      ∙ needs_long n t)

-- what is marked so far
pub record Marked (ws : List ℕ) (k first : ℕ) (places numbers : List ℕ) (old : List ℕ) (count : ℕ) (bits : List ℕ) (j : ℕ) : Type 0 where
  pub most : j ≤ count
  pub marked : bits ≡ needs_table ws k first places numbers j old
  pub long : length bits ≡ length old

module _ {ws : List ℕ} {k first : ℕ} {places held starts members ends numbers : List ℕ} (p : Prepared ws k first places held starts members ends numbers) where
  pub marked_begins : (old : List ℕ) (count : ℕ) → Marked ws k first places numbers old count old 0
  marked_begins old count = record { most = omega arith; marked = sym (needs_none p old); long = refl }

  pub marked_turns :
      {old : List ℕ} {count : ℕ} {bits : List ℕ} {j : ℕ} → Marked ws k first places numbers old count bits j → j < count → (new : List ℕ)
      → new ≡ with_reads first ((length starts - k) + length places) numbers ends (reads_run ws k first places numbers j) j bits → Marked ws k first places numbers old count new (j + 1)
  marked_turns {old} {count} {bits} {j} s h new e =
      let m : new ≡ needs_table ws k first places numbers (j + 1) old =
      e ∙ (ap (with_reads first ((length starts - k) + length places) numbers ends (reads_run ws k first places numbers j) j) s.marked ∙ sym (needs_more p j old)) in
      record { most = omega arith; marked = m; long = ap length m ∙ needs_long p (j + 1) old }

  pub marked_ends : {old : List ℕ} {count : ℕ} {bits : List ℕ} {j : ℕ} → Marked ws k first places numbers old count bits j → count ≤ j → bits ≡ needs_table ws k first places numbers count old
  marked_ends {old} {count} {bits} {j} s h = s.marked ∙ ap (λ (n : ℕ). needs_table ws k first places numbers n old) (let z : j ≡ count = omega (arith, s.most) in z)

  pub counted : (length starts - k) + length places + length ends ≡ stmts_count ws k first places numbers
  counted = omega (arith, count_is p, ap length p.ends_are, ends_length 0 (place_groups held))

  -- ---- the order

  order_is : stmts_order ws k first places numbers ≡ reverse (positions_taken (table_of (needs_table ws k first places numbers (stmts_count ws k first places numbers) (replicate (32 * stmts_count ws k first places numbers) 0)) (stmts_count ws k first places numbers)))
  unfolding stmts_order
  order_is = refl

  module _ (bits waiting stack taken : List ℕ) (count : ℕ) (ec : count ≡ stmts_count ws k first places numbers) (more : count ≤ length waiting) (deep : count ≤ length stack) (lent : 2048 ≤ length taken) where
    few : count ≤ 2048
    few = omega (arith, ec, p.statements)

    roomy : 32 * count ≤ length bits → room bits count waiting stack taken ≡ true
    unfolding room
    roomy wide =
        rw (le-leb count 2048 few)
        (rw (le-leb (32 * count) (length bits) wide)
        (rw (le-leb count (length waiting) more) (rw (le-leb count (length stack) deep) (rw (le-leb count (length taken) (omega (arith, few))) refl))))

    told_as : (order taken' : List ℕ) → taken' ≡ reverse order → order_answer true count order ≡ order_told taken' (stmts_count ws k first places numbers)
    unfolding order_answer order_told
    told_as order taken' e =
        let l : length order ≡ length taken' = sym (ap length e ∙ length-reverse order) in
        ap₂ (λ (a c : ℕ). all_or_ring (eqb a c) a) l ec

    written_as : (order taken' : List ℕ) → taken' ≡ reverse order → order_written true order taken ≡ taken' ++ drop (length taken') taken
    unfolding order_written
    written_as order taken' e =
        let l : length order ≡ length taken' = sym (ap length e ∙ length-reverse order) in
        ap₂ (λ (a : List ℕ) (n : ℕ). a ++ drop n taken) (sym e) l

    pub ordered_so :
        (zeros : List ℕ) → zeros ≡ replicate (32 * count) 0 → bits ≡ needs_table ws k first places numbers count zeros → (r : Result ⊤ OrderError) (new_waiting new_stack new : List ℕ)
        → Orders bits count waiting stack taken r new_waiting new_stack new
        → (r ≡ order_told (stmts_order ws k first places numbers) (stmts_count ws k first places numbers))
        × (new ≡ stmts_order ws k first places numbers ++ drop (length (stmts_order ws k first places numbers)) taken)
    ordered_so zeros z e r new_waiting new_stack new o =
        let zeros_long : length zeros ≡ 32 * count = ap length z ∙ length-replicate (32 * count) 0 in
        let wide : 32 * count ≤ length bits = omega (arith, ap length e, needs_long p count zeros, zeros_long) in
        let enough = roomy wide in
        let same : positions_taken (table_of bits count)
        ≡ positions_taken (table_of (needs_table ws k first places numbers (stmts_count ws k first places numbers) (replicate (32 * stmts_count ws k first places numbers) 0)) (stmts_count ws k first places numbers)) =
        ap (λ (t : List ℕ). positions_taken (table_of t count)) (e ∙ ap (λ (t : List ℕ). needs_table ws k first places numbers count t) z)
        ∙ ap (λ (c : ℕ). positions_taken (table_of (needs_table ws k first places numbers c (replicate (32 * c) 0)) c)) ec in
        let turned : stmts_order ws k first places numbers ≡ reverse (positions_taken (table_of bits count)) = order_is ∙ ap reverse (sym same) in (
          o.answer_is ∙ (ap (λ (b : Bool). order_answer b count (positions_taken (table_of bits count))) enough ∙ told_as (positions_taken (table_of bits count)) (stmts_order ws k first places numbers) turned),
          o.taken_is ∙ (ap (λ (b : Bool). order_written b (positions_taken (table_of bits count)) taken) enough ∙ written_as (positions_taken (table_of bits count)) (stmts_order ws k first places numbers) turned),
        )

-- ---- positions in the order

taken_below : (needs : List ℕ) (count q : ℕ) → q < length (reverse (positions_taken (table_of needs count))) → get_or (reverse (positions_taken (table_of needs count))) q 0 < count
taken_below needs count q h =
    let table = table_of needs count in
    omega (arith, table_length needs count, all_get_d (λ j. j < length table) (reverse (positions_taken table)) (all_turned (λ j. j < length table) (positions_taken table) [] (taken_ok table).inside tt) q h)

-- each is a statement's
pub order_positions :
    (ws : List ℕ) (k first : ℕ) (places numbers : List ℕ) (q : ℕ) → q < length (stmts_order ws k first places numbers)
    → get_or (stmts_order ws k first places numbers) q 0 < stmts_count ws k first places numbers
unfolding stmts_order
order_positions ws k first places numbers q h = taken_below (needs_table ws k first places numbers (stmts_count ws k first places numbers) (replicate (32 * stmts_count ws k first places numbers) 0)) (stmts_count ws k first places numbers) q h
