-- The rows of a scope's statements, each a let or a match (01, "Scoped fusion"). Assumes nothing.
use Prim.Native.Nat.{ℕ, zero, suc, ◌+◌, ◌-◌, ◌≤◌, ◌<◌}
use native.Mathlib.Omega.{arith}
use mathlib.Core.Path.{◌≡◌, refl, sym, ◌∙◌, ap, ap₂, subst}
use mathlib.Core.Bool.{Bool, true, false, cond}
use mathlib.Core.List.{List, [], ◌∷◌, ◌++◌}
use lib.ListN.{length, get_or, take, drop, length-append}
use lib.Seq.{take_at}
use lib.Dec.{ltb}
use borrow.Author.Tests.{lt-ltb, le-ltb}
use Rattle.spec_tree.specs.Outcome.{ok}
use Rattle.spec_tree.specs.Rows.{Row}
use Rattle.laws.specs.positions.Names.{is_number}
use Rattle.reciprocals.specs.final.Entries.{runs}
use Rattle.laws.proofs.switches.GroupColumns.{every_at}
use Rattle.rounds.proofs.kept.Steps.{ready_of}
use Rattle.fusion.specs.place.Overlay.{overlay}
use Rattle.fusion.specs.place.Parts.{place_groups, joined_groups, group_at, group_start, group_end, match_run, let_run, reciprocals_first, lets_count, held_words}
use Rattle.fusion.specs.place.Whole.{Walk, walked, tree_run, stmts_count, stmt_run, stmts_runs}
use Rattle.scope_laws.proofs.sound.Columns.{group_fused}
use Rattle.scope_laws.proofs.sound.Sums.{runs_within}
use Rattle.scope_laws.proofs.sound.Bounds.{WalkBound, walk_bound}
use Rattle.statements.specs.Prepared.{Prepared, Readied, Grouped, begin_of}
use Rattle.statements.proofs.Groups.{end_is, begin_is, group_long, group_inside, group_part}
use Rattle.statements.proofs.Held.{lets_are, count_is, first_number}
use Rattle.statements.proofs.Keys.{grouped as all_grouped}
use Rattle.cse_scoped.specs.one_scope.Answers.{inner, Laid, arms_of, words_of}
use Rattle.cse_scoped.specs.one_scope.Frame.{most_rows, Holds, groups_told, Sized, group_again, GroupSized, scope_arms}
use Rattle.cse_scoped.proofs.one_scope.Sound.{words_ok, holds_later}
use Rattle.cse_scoped.proofs.one_scope.Walking.{joined_low}
use Rattle.cse_scoped.proofs.one_scope.WalkLaws.{joined_first, WalkedAt, walked_at, starts_grow}
use Rattle.cse_scoped.proofs.one_scope.Laying.{laid_none, laid_exact, laid_append, laid_as}
use Rattle.fusion.proofs.groups.Groups.{ends_length}

pub by_test : {A : Type 0} (b : Bool) (x y : A) → b ≡ true → cond b x y ≡ x
by_test true x y e = refl
by_test false x y e = absurd (let z : ◌≡◌ {A = ℕ} 0 1 = cc in omega arith)

pub by_no_test : {A : Type 0} (b : Bool) (x y : A) → b ≡ false → cond b x y ≡ y
by_no_test true x y e = absurd (let z : ◌≡◌ {A = ℕ} 0 1 = cc in omega arith)
by_no_test false x y e = refl

-- what begins alike has the same part there
part_same : (f n : ℕ) (x y : List ℕ) → take (f + n) x ≡ take (f + n) y → take n (drop f x) ≡ take n (drop f y)
part_same f n x y e = sym (drop_of f n x) ∙ (ap (drop f) e ∙ drop_of f n y)
  where
    none : (k : ℕ) → ◌≡◌ {A = List ℕ} (take k []) []
    none zero = refl
    none (suc k) = refl

    drop_of : (f n : ℕ) (z : List ℕ) → drop f (take (f + n) z) ≡ take n (drop f z)
    drop_of zero n z = ap (λ (k : ℕ). take k z) (let e : 0 + n ≡ n = omega arith in e)
    drop_of (suc f) n [] = ap (λ (k : ℕ). drop (suc f) (take k [])) (let e : suc f + n ≡ suc (f + n) = omega arith in e) ∙ sym (none n)
    drop_of (suc f) n (w ∷ z) = ap (λ (k : ℕ). drop (suc f) (take k (w ∷ z))) (let e : suc f + n ≡ suc (f + n) = omega arith in e) ∙ drop_of f n z

module _ (rows : List Row) (fuel left : ℕ) (ws : List ℕ) (k first : ℕ) (places held starts members ends numbers stops kept : List ℕ)
    (h : Holds rows (reciprocals_first ws k first places + length places) held) (p : Prepared ws k first places held starts members ends numbers)
    (sz : Sized rows fuel left (reciprocals_first ws k first places + length places) held numbers stops kept) where
  abbrev from : ℕ
  from = reciprocals_first ws k first places + length places

  abbrev lets : ℕ
  lets = (length starts - k) + length places

  abbrev arms : List (List ℕ)
  arms = scope_arms rows fuel left ws k first places

  abbrev gs : List (List ℕ)
  gs = place_groups held

  abbrev run : ℕ → List ℕ
  run q = stmt_run ws k first places numbers arms q

  pub readied : Readied ws k first places held starts members numbers
  readied = (ends, p)

  pub grouped : Grouped held members ends numbers
  grouped = all_grouped p

  pub lets_few : lets ≤ 2048
  lets_few = omega (arith, count_is p, p.statements)

  pub let_is : (q : ℕ) → q < lets → run q ≡ let_run (first + q) (tree_run ws k first places numbers (k + q))
  unfolding stmt_run
  let_is q l = by_test (ltb q (lets_count ws k first places)) _ _ (lt-ltb q (lets_count ws k first places) (omega (arith, lets_are p)))

  pub let_there : (q : ℕ) → q < lets → q < lets_count ws k first places
  let_there q l = omega (arith, lets_are p)

  -- ---- a match

  all_told : walked (inner rows fuel left) held gs from (length gs) ≡ ok sz.walk
  unfolding groups_told
  all_told = sz.told

  pub arms_are : arms ≡ sz.walk.arms
  unfolding scope_arms arms_of
  arms_are = ap (λ (z : List ℕ). arms_of (groups_told rows fuel left from z)) (sym p.held_is) ∙ ap arms_of sz.told

  bound : (n : ℕ) (r : Walk) → n ≤ length gs → walked (inner rows fuel left) held gs from n ≡ ok r → WalkBound gs from n r
  bound n r l e = walk_bound rows (is_number rows) fuel left from held h.good h.pass (words_ok rows from held h) n l r e

  module _ (q : ℕ) (l : q < stmts_count ws k first places numbers) (past : lets ≤ q) where
    abbrev g : ℕ
    g = q - lets

    inside : g < length gs
    inside = omega (arith, count_is p)

    pub group_there : g < length ends
    group_there = omega (arith, inside, ap length p.ends_are ∙ ends_length 0 gs)

    at_g : WalkedAt (inner rows fuel left) held gs from (λ n r i e. (let b = bound n r i e in (b.numbers_many, b.arms_many))) (λ j i. (let r = ready_of rows from held h.good in (group_fused held r.trees r.complete j i).some_member)) sz.walk g
    at_g = walked_at (inner rows fuel left) held gs from (λ n r i e. (let b = bound n r i e in (b.numbers_many, b.arms_many))) (λ j i. (let r = ready_of rows from held h.good in (group_fused held r.trees r.complete j i).some_member)) (length gs) (omega arith) sz.walk all_told g inside

    again : group_again rows fuel left held numbers g ≡ ok at_g.arms
    unfolding group_again
    again = subst (λ (z : List ℕ). group_again rows fuel left held z g ≡ ok at_g.arms) (sym sz.numbers_are) at_g.told

    abbrev all_arms : List (List ℕ)
    all_arms = sz.walk.arms

    arms_many : length all_arms ≡ length gs
    arms_many = (bound (length gs) sz.walk (omega arith) all_told).arms_many

    pub stop_in : g < length stops
    stop_in = omega (arith, inside, ap length sz.stops_are, ends_length 0 all_arms, arms_many)

    arms_there : g < length all_arms
    arms_there = omega (arith, inside, arms_many)

    stop_is : get_or stops g 0 ≡ group_end all_arms g
    stop_is = ap (λ (z : List ℕ). get_or z g 0) sz.stops_are ∙ end_is all_arms g arms_there

    module _ (begin : ℕ) (begins : begin ≡ begin_of stops g) where
      begin_at : begin ≡ group_start all_arms g
      begin_at = begins ∙ (ap (λ (z : List ℕ). begin_of z g) sz.stops_are ∙ begin_is all_arms g arms_there)

      rows_at : length (group_at all_arms g) ≡ length at_g.arms.words
      unfolding group_at
      rows_at = ap length at_g.rows

      pub stop_over : begin ≤ get_or stops g 0
      stop_over = omega (arith, begin_at, stop_is, group_long all_arms g arms_there)

      low : get_or stops g 0 ≤ 288230376151711744
      low =
          let b = bound (length gs) sz.walk (omega arith) all_told in
          let first_low : from ≤ 4294967296 = omega (arith, first_number p, lets_are p, count_is p, p.statements, p.low) in
          omega (arith, stop_is, group_inside all_arms g arms_there, joined_low all_arms, b.rows, b.most 4294967296 first_low (omega arith))

      end_here : group_end all_arms g ≡ length (joined_groups (take (suc g) all_arms))
      unfolding group_end group_start
      end_here = refl

      stands : begin + (get_or stops g 0 - begin) ≤ length kept → take (get_or stops g 0 - begin) (drop begin kept) ≡ at_g.arms.words
      unfolding group_at
      stands within =
          let size = get_or stops g 0 - begin in
          let last : begin + size ≡ group_end all_arms g = omega (arith, stop_over, stop_is) in
          let long : size ≡ group_end all_arms g - group_start all_arms g = omega (arith, begin_at, stop_is) in
          let first = joined_groups (take (suc g) all_arms) in
          let upto : begin + size ≡ length first = last ∙ end_here in
          part_same begin size kept (joined_groups all_arms)
          (ap (λ (j : ℕ). take j kept) upto
          ∙ (sz.kept_is (suc g) (omega (arith, upto, within))
          ∙ (sym (take_at first (joined_groups (drop (suc g) all_arms)) (length first) refl)
          ∙ ap₂ (λ (j : ℕ) (z : List ℕ). take j z) (sym upto) (sym (joined_first (suc g) all_arms)))))
          ∙ (ap₂ (λ (k : ℕ) (b : ℕ). take k (drop b (joined_groups all_arms))) long begin_at ∙ (group_part all_arms g arms_there ∙ at_g.rows))

      pub group_sized : GroupSized rows fuel left held numbers g begin (get_or stops g 0 - begin) kept
      group_sized = record {
        arms = at_g.arms;
        told = again;
        size_is = omega (arith, rows_at, begin_at, stop_is, group_long all_arms g arms_there);
        low = omega (arith, stop_over, low);
        here = stands;
      }

    pub number_holds : Holds rows (get_or numbers (group_start gs g) 0) held
    number_holds =
        let b = bound (length gs) sz.walk (omega arith) all_told in
        let i : group_start gs g < length sz.walk.numbers =
        omega (arith, b.numbers_many, starts_grow (inner rows fuel left) held gs from (λ n r i e. (let b = bound n r i e in (b.numbers_many, b.arms_many))) (λ j i. (let r = ready_of rows from held h.good in (group_fused held r.trees r.complete j i).some_member)) (length gs) g inside (omega arith)) in
        let e = every_at (λ (j : ℕ). (from ≤ j) × (j < sz.walk.next)) 0 sz.walk.numbers b.numbers_between (group_start gs g) i in
        let f : get_or numbers (group_start gs g) 0 ≡ get_or sz.walk.numbers (group_start gs g) 0 = ap (λ (z : List ℕ). get_or z (group_start gs g) 0) sz.numbers_are in
        holds_later rows from (get_or numbers (group_start gs g) 0) held (omega (arith, e.0, f)) h

    pub match_is : run q ≡ match_run held gs numbers (words_of (group_again rows fuel left held numbers g)) g
    unfolding stmt_run words_of
    match_is =
        by_no_test (ltb q (lets_count ws k first places)) _ _ (le-ltb q (lets_count ws k first places) (omega (arith, lets_are p)))
        ∙ (ap (λ (j : ℕ). match_run (held_words ws k first places) (place_groups (held_words ws k first places)) numbers (get_or arms (q - j) []) (q - j)) (lets_are p)
        ∙ (ap (λ (z : List ℕ). match_run z (place_groups z) numbers (get_or arms g []) g) (sym p.held_is)
        ∙ ap (λ (z : List ℕ). match_run held gs numbers z g) (ap (λ (z : List (List ℕ)). get_or z g []) arms_are ∙ (at_g.rows ∙ sym (ap words_of again)))))

  -- ---- all statements

  module _ (taken : List ℕ) where
    abbrev entry : ℕ → List ℕ
    entry q = run (get_or taken q 0)

    abbrev all_runs : ℕ → List ℕ
    all_runs n = stmts_runs ws k first places numbers arms taken n

    next_run : (n : ℕ) → all_runs (suc n) ≡ all_runs n ++ entry n
    unfolding stmts_runs runs
    next_run n = refl

    no_runs : all_runs 0 ≡ []
    unfolding stmts_runs runs
    no_runs = refl

    runs_under : (q n : ℕ) → q ≤ n → length (all_runs q) ≤ length (all_runs n)
    unfolding stmts_runs
    runs_under q n l = runs_within entry q n l

    module _ (at : ℕ) (old : List ℕ) (fits : at + length (all_runs (length taken)) ≤ most_rows) where
      -- after the first n
      pub record StmtsSo (n to : ℕ) (table : List ℕ) : Type 0 where
        pub to_is : to ≡ at + length (all_runs n)
        pub table_is : Laid at (all_runs n) old table

      pub stmts_begin : StmtsSo 0 at old
      stmts_begin = record { to_is = omega (arith, ap length no_runs); table_is = laid_as at (all_runs 0) [] old old no_runs (laid_none at old) }

      module _ (n to : ℕ) (table : List ℕ) (so : StmtsSo n to table) where
        pub entry_fits : n < length taken → to + length (entry n) ≤ most_rows
        entry_fits l = omega (arith, so.to_is, ap length (next_run n), length-append (all_runs n) (entry n), runs_under (suc n) (length taken) (omega arith))

        pub stmts_on : (r : ℕ) (new : List ℕ) → (r ≡ to + length (entry n)) × Laid to (entry n) table new → StmtsSo (n + 1) r new
        stmts_on r new (e, f) =
            subst (λ (j : ℕ). StmtsSo j r new) (omega arith)
            (record {
              to_is = omega (arith, e, so.to_is, ap length (next_run n), length-append (all_runs n) (entry n));
              table_is =
                  laid_as at (all_runs (suc n)) (all_runs n ++ entry n) old new (next_run n) (laid_append at (all_runs n) (entry n) old table new so.table_is to so.to_is f);
            })

        pub stmts_end : n ≡ length taken → (to ≡ at + length (all_runs (length taken))) × Laid at (all_runs (length taken)) old table
        stmts_end e = (so.to_is ∙ ap (λ (j : ℕ). at + length (all_runs j)) e, subst (λ (j : ℕ). Laid at (all_runs j) old table) e so.table_is)

-- the same by an equal run
pub rows_as : (x y : List ℕ) → x ≡ y → (at : ℕ) (old : List ℕ) (r : ℕ) (new : List ℕ) → (r ≡ at + length y) × Laid at y old new → (r ≡ at + length x) × Laid at x old new
rows_as x y e at old r new d = subst (λ (z : List ℕ). (r ≡ at + length z) × Laid at z old new) (sym e) d

-- and of a run that is written as far as it has room
pub rows_exact : (y : List ℕ) (at : ℕ) (old : List ℕ) (r : ℕ) (new : List ℕ) → (r ≡ at + length y) × (new ≡ overlay at y old) → (r ≡ at + length y) × Laid at y old new
rows_exact y at old r new d = (d.0, laid_exact at y old new d.1)
