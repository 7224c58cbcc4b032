-- How long the parts of a scope's answer are: each final tree, each key, each statement beside its arms, and all statements in the order in which they are taken
-- (01, "Scoped fusion", "Turned down", refusal 12). Assumes nothing.
use Prim.Native.Nat.{ℕ, zero, suc, ◌+◌, ◌*◌, ◌-◌, ◌≤◌, ◌<◌}
use native.Mathlib.Omega.{arith}
use mathlib.Core.Path.{◌≡◌, refl, sym, ap}
use mathlib.Core.Bool.{Bool, true, false, cond}
use mathlib.Core.Option.{some}
use mathlib.Core.List.{List, [], ◌∷◌, ◌++◌, map}
use borrow.Author.Tests.{lt-ltb, le-ltb}
use lib.ListN.{length, get_or, take, drop, replicate, length-append}
use lib.Dec.{ltb}
use Rattle.spec_tree.specs.Tree.{Tree, Op, nil}
use Rattle.spec_tree.specs.Facts.{size}
use Rattle.spec_tree.specs.Tokens.{trees_in}
use Rattle.spec_tree.proofs.TokenCode.{unnumbered, tokens_length}
use Rattle.spec_cse.specs.Order.{positions_taken}
use Rattle.laws.proofs.cse.OrderLaws.{taken_ok}
use Rattle.topo_sort.specs.Needs.{table_of}
use Rattle.laws.specs.positions.Places.{numbered_at}
use Rattle.laws.proofs.positions.Extraction.{Every}
use Rattle.reciprocals.proofs.bindings.Parts.{AllThere}
use Rattle.laws.specs.switches.Switches.{key_place}
use Rattle.laws.proofs.switches.Words.{ends_within}
use Rattle.fusion.specs.Settled.{fused_tree}
use Rattle.fusion.proofs.Sizes.{fused_size}
use Rattle.fusion.specs.place.Parts.{place_groups, group_at, group_start, group_end, opener, lets_count, held_words, settled_trees, steps_from, fused_run, key_run, name_rows, names_run, match_run, let_run, value_run}
use Rattle.fusion.specs.place.Whole.{stmts_count, tree_run, needs_table, stmts_order, stmt_run, stmts_runs, values_runs}
use Rattle.fusion.proofs.place.Small.{Small, small_at, settled_small}
use Rattle.scope_laws.proofs.sound.Sums.{sum_first, sum_each, first_more, first_none, first_entries, each_reversed, runs_length, first_most, different_most}
use Rattle.topo_sort.proofs.Left.{table_length}
use Rattle.laws.proofs.answer.CodeLaws.{run_starts}

-- ---- trees

module _ (ws : List ℕ) (m : ℕ) (complete : trees_in ws ≡ some m) where
  pub place_size : (i : ℕ) → i < length ws → size (numbered_at ws i) ≤ length ws
  place_size i h = (let e = ends_within ws m complete i h in omega arith)

  divisors_small : (l : List ℕ) → AllThere ws l → Every (Small (length ws)) (map (numbered_at ws) l)
  divisors_small [] h = tt
  divisors_small (p ∷ l) h = (place_size p (run_starts ws p h.0.0 h.0.1), divisors_small l h.1)

  module _ (k first : ℕ) (places : List ℕ) (there : AllThere ws places) where
    fused_length : (hs : List ℕ) (gs : List (List ℕ)) (numbers : List ℕ) (t : Tree) → length (fused_run hs gs numbers t) ≤ size t
    unfolding fused_run
    fused_length hs gs numbers t =
        let s = steps_from hs gs numbers 0 in
        omega (arith, tokens_length unnumbered (fused_tree s t), fused_size s t)

    -- a final tree: two words more at most than rounds leave
    pub tree_run_length : (numbers : List ℕ) (i : ℕ) → length (tree_run ws k first places numbers i) ≤ 2 + length ws
    unfolding tree_run
    tree_run_length numbers i =
        let hs = held_words ws k first places in
        let t = get_or (settled_trees ws k first places) i (Op 0 nil) in
        let e = settled_small (length ws) ws (omega arith) places (divisors_small places there) k first in
        omega (arith, fused_length hs (place_groups hs) numbers t, small_at (2 + length ws) (settled_trees ws k first places) (omega arith) e i)

-- ---- a match's rows

-- a key is no larger than a tree at a place
module _ (hs : List ℕ) (c : ℕ) (small : (p : ℕ) → size (numbered_at hs p) ≤ c) (gs : List (List ℕ)) (numbers : List ℕ) where
  pub key_run_length : (g : ℕ) → length (key_run hs gs numbers g) ≤ c
  unfolding key_run
  key_run_length g =
      let s = steps_from hs gs numbers (group_end gs g) in
      let t = numbered_at hs (key_place (opener gs g)) in
      omega (arith, tokens_length unnumbered (fused_tree s t), fused_size s t, small (key_place (opener gs g)))

  name_rows_length : (l : List ℕ) → length (name_rows hs gs numbers l) ≡ length l
  unfolding name_rows
  name_rows_length [] = refl
  name_rows_length (n ∷ l) = ap suc (name_rows_length l)

  take_few : (n : ℕ) (l : List ℕ) → length (take n l) ≤ n
  take_few zero l = omega arith
  take_few (suc n) [] = omega arith
  take_few (suc n) (x ∷ l) = omega (arith, take_few n l)

  pub names_run_length : (g : ℕ) → length (names_run hs gs numbers g) ≤ length (group_at gs g)
  unfolding names_run
  names_run_length g =
      let l = take (length (group_at gs g)) (drop (group_start gs g) numbers) in
      omega (arith, name_rows_length l, take_few (length (group_at gs g)) (drop (group_start gs g) numbers))

  pub match_run_length : (arms : List ℕ) (g : ℕ) → length (match_run hs gs numbers arms g) ≤ suc c + length (group_at gs g) + length arms
  unfolding match_run
  match_run_length arms g =
      let a = length-append (key_run hs gs numbers g) (names_run hs gs numbers g ++ arms) in
      let b = length-append (names_run hs gs numbers g) arms in
      omega (arith, a, b, key_run_length g, names_run_length g)

-- ---- statements in the order in which they are taken

module _ (vs : List ℕ) (k first : ℕ) (places : List ℕ) (numbers : List ℕ) where
  abbrev count : ℕ
  count = stmts_count vs k first places numbers

  abbrev lets : ℕ
  lets = lets_count vs k first places

  abbrev groups : List (List ℕ)
  groups = place_groups (held_words vs k first places)

  -- each position once
  pub order_most : (f : ℕ → ℕ) → sum_each f (stmts_order vs k first places numbers) ≤ sum_first f (stmts_count vs k first places numbers)
  unfolding stmts_order
  order_most f =
      let table = table_of (needs_table vs k first places numbers count (replicate (32 * count) 0)) count in
      let t = taken_ok table in
      let c = table_length (needs_table vs k first places numbers count (replicate (32 * count) 0)) count in
      let d = different_most f (length table) (positions_taken table) t.distinct t.inside in
      let e : sum_first f (length table) ≡ sum_first f count = ap (sum_first f) c in
      omega (arith, each_reversed f (positions_taken table), d, e)

  module _ (arms : List (List ℕ)) (one most : ℕ) (lets_short : (i : ℕ) → suc (length (tree_run vs k first places numbers i)) ≤ one)
      (matches_short : (run : List ℕ) (g : ℕ) → g < length groups → length (match_run (held_words vs k first places) groups numbers run g) ≤ most + length run) where
    abbrev rows_at : ℕ → ℕ
    rows_at p = length (stmt_run vs k first places numbers arms p)

    abbrev let_at : ℕ → List ℕ
    let_at p = let_run (first + p) (tree_run vs k first places numbers (k + p))

    abbrev match_at : ℕ → List ℕ
    match_at p = match_run (held_words vs k first places) groups numbers (get_or arms (p - lets) []) (p - lets)

    stmt_is : (p : ℕ) (b : Bool) → ltb p lets ≡ b → stmt_run vs k first places numbers arms p ≡ cond b (let_at p) (match_at p)
    unfolding stmt_run
    stmt_is p b e = ap (λ (c : Bool). cond c (let_at p) (match_at p)) e

    let_long : (n : ℕ) (run : List ℕ) → length (let_run n run) ≡ suc (length run)
    unfolding let_run
    let_long n run = refl

    let_rows : (p : ℕ) → p < lets → rows_at p ≤ one
    let_rows p h =
        let e = ap length (stmt_is p true (lt-ltb p lets h)) in
        let l = let_long (first + p) (tree_run vs k first places numbers (k + p)) in
        omega (arith, e, l, lets_short (k + p))

    match_rows : (j : ℕ) → j < length groups → rows_at (lets + j) ≤ most + length (get_or arms j [])
    match_rows j h =
        let d : (lets + j) - lets ≡ j = omega arith in
        let e = ap length (stmt_is (lets + j) false (le-ltb (lets + j) lets (omega arith))) in
        let f : length (match_at (lets + j)) ≡ length (match_run (held_words vs k first places) groups numbers (get_or arms j []) j) =
        ap (λ (i : ℕ). length (match_run (held_words vs k first places) groups numbers (get_or arms i []) i)) d in
        omega (arith, e, f, matches_short (get_or arms j []) j h)

    abbrev weight : ℕ → ℕ
    weight j = most + length (get_or arms j [])

    some_rows : (j : ℕ) → j ≤ length groups → sum_first rows_at (lets + j) ≤ one * lets + sum_first weight j
    some_rows zero h =
        let e : lets + 0 ≡ lets = omega arith in
        let a = first_most rows_at one lets (λ i l. let_rows i l) in
        let b : sum_first rows_at (lets + 0) ≡ sum_first rows_at lets = ap (sum_first rows_at) e in
        omega (arith, a, b, first_none weight)
    some_rows (suc j) h =
        let e : lets + suc j ≡ suc (lets + j) = omega arith in
        let b : sum_first rows_at (lets + suc j) ≡ sum_first rows_at (suc (lets + j)) = ap (sum_first rows_at) e in
        let r = some_rows j (omega arith) in
        let g = match_rows j (omega arith) in
        omega (arith, b, first_more rows_at (lets + j), first_more weight j, r, g)

    -- all statements: so many rows for each let, and so many for each match beside its arms'
    pub stmts_length :
        length (stmts_order vs k first places numbers) ≡ stmts_count vs k first places numbers → length arms ≡ length groups
        → length (stmts_runs vs k first places numbers arms (stmts_order vs k first places numbers) (stmts_count vs k first places numbers))
        ≤ one * lets + sum_each (λ (run : List ℕ). most + length run) arms
    unfolding stmts_runs stmts_count
    stmts_length taken equal =
        let order = stmts_order vs k first places numbers in
        let a = runs_length (λ q. stmt_run vs k first places numbers arms (get_or order q 0)) count in
        let b : sum_first (λ q. rows_at (get_or order q 0)) count ≡ sum_first (λ q. rows_at (get_or order q 0)) (length order) = ap (sum_first (λ q. rows_at (get_or order q 0))) (sym taken) in
        let c = first_entries rows_at 0 order in
        let d = order_most rows_at in
        let s = some_rows (length groups) (omega arith) in
        let w : sum_first weight (length groups) ≡ sum_first weight (length arms) = ap (sum_first weight) (sym equal) in
        let z = first_entries (λ (run : List ℕ). most + length run) [] arms in
        omega (arith, a, b, c, d, s, w, z)

    -- values: a row each
    pub values_length : (row n : ℕ) → length (values_runs vs k first places numbers row n) ≤ one * n
    unfolding values_runs value_run
    values_length row n =
        let a = runs_length (λ i. value_run row (tree_run vs k first places numbers i)) n in
        let b = first_most (λ i. suc (length (tree_run vs k first places numbers i))) one n (λ i l. lets_short i) in
        omega (arith, a, b)
