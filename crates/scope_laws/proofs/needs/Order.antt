-- The order of a scope's statements told on words is that of `topo_sort_intermediates` (01, "Order", "Scoped fusion"): the table of bits marked from the words that
-- each statement reads is the table of their needs. Assumes nothing.
use Prim.Native.Nat.{ℕ, zero, suc, ◌+◌, ◌-◌, ◌*◌, ◌%◌, ◌≤◌, ◌<◌}
use native.Mathlib.Omega.{arith}
use mathlib.Core.Path.{◌≡◌, refl, sym, ◌∙◌, ap, ap₂, subst}
use mathlib.Core.Bool.{Bool, true, false, ◌&&◌, cond}
use mathlib.Core.Option.{some}
use mathlib.Core.List.{List, [], ◌∷◌, ◌++◌, map, reverse}
use borrow.Author.Tests.{ltb-true, ltb-false, lt-ltb, le-ltb}
use lib.ListN.{length, get_or, drop, replicate, length-append, length-map, length-drop, length-replicate, length-reverse, get_or-replicate, get_or-append}
use lib.Seq.{get_or-append-add, get_or-drop}
use lib.Dec.{T, ltb}
use Rattle.spec_tree.specs.Outcome.{Outcome, ok, refused, by}
use Rattle.spec_tree.specs.Tree.{Name, xname, Tree, Op, nil}
use Rattle.spec_tree.specs.Tokens.{word, name_code, tokens, read, numbered, trees_in, kind_of}
use Rattle.spec_tree.proofs.TokenLaws.{complete_length}
use Rattle.spec_tree.proofs.TokenCode.{unnumbered}
use Rattle.spec_rewrite.proofs.Counts.{well_formed_all}
use Rattle.spec_rewrite.proofs.Names.{holds_all}
use Rattle.spec_cse.specs.Answer.{Intermediate, names, symbols, elem}
use Rattle.spec_cse.specs.Order.{meets, needs, nothing, at_each, positions_taken, topo_sort_intermediates}
use Rattle.spec_cse.specs.Scope.{Scoped}
use Rattle.laws.proofs.cse.Outcomes.{Good, good_at}
use Rattle.laws.proofs.cse.OrderLaws.{taken_ok, all_get_d, all_turned}
use Rattle.laws.proofs.cse.ScopeValue.{under}
use Rattle.laws.specs.positions.Places.{numbered_at}
use Rattle.laws.specs.positions.Rounds.{next_number}
use Rattle.reciprocals.proofs.bindings.Parts.{AllThere}
use Rattle.words.specs.bits.Bits.{bit, word_of, inside, yes}
use Rattle.words.proofs.bits.BitLaws.{zero_bit, is_in}
use Rattle.topo_sort.specs.Needs.{table_of}
use Rattle.topo_sort.proofs.Left.{table_length}
use Rattle.topo_sort.proofs.Sorted.{sorted_all, sorted_ring}
use Rattle.laws.proofs.outernames.Arms.{SameNames}
use Rattle.laws.proofs.outernames.Matches.{AllShaped, groups_shaped}
use Rattle.laws.proofs.outernames.Ordering.{read_before}
use Rattle.fusion.specs.Settled.{fused_tree, Numbered, Walked, numbered_groups, all_steps, group_matches}
use Rattle.fusion.specs.Whole.{lets_from, settled_roots, scope_groups, scope_stmts}
use Rattle.fusion.specs.Words.{all_numbers}
use Rattle.fusion.proofs.Grouping.{group_of, groups_kept}
use Rattle.fusion.proofs.Places.{lets_count as lets_many, let_at, matches_count}
use Rattle.fusion.specs.place.Parts.{place_groups, ends_from, group_at, reciprocals_first, lets_count, words_held, trees_held, held_words, settled_trees, steps_from, fused_run, key_run}
use Rattle.fusion.specs.place.Reads.{all_arms_run}
use Rattle.fusion.specs.place.Whole.{stmts_count, tree_run, reads_run, needs_table, stmts_order}
use Rattle.scope_laws.proofs.needs.Marks.{any, names_place, marks, marks_yes}
use Rattle.scope_laws.proofs.needs.Positions.{Ascending, group_names}
use Rattle.scope_laws.proofs.needs.Naming.{names_none, names_let, names_match}
use Rattle.scope_laws.proofs.needs.Held.{fused_fits, roots_fit, held_complete, groups_by_place, Beside, beside_groups, beside_counted, beside_long, steps_of_all, groups_ascend}
use Rattle.scope_laws.proofs.needs.Statements.{roots_count, stmts_are, stmts_needs}
use Rattle.scope_laws.proofs.needs.Reading.{table_by, lets_read, read_count, tree_reads, match_reads, match_names}

-- ---- a table that is all no

zero_row : (t : List ℕ) (n : ℕ) → t ≡ replicate n 0 → (r c : ℕ) → yes t r c ≡ false
unfolding yes
zero_row t n q r c = go (inside (length t) r c) refl
  where
    go : (b : Bool) → inside (length t) r c ≡ b → (b && bit (get_or t (word_of r c) 0) (c % 64)) ≡ false
    go true e =
        let w = is_in (length t) r c e in
        let l : length t ≡ n = ap length q ∙ length-replicate n 0 in
        ap (λ (x : ℕ). bit x (c % 64)) (ap (λ (t : List ℕ). get_or t (word_of r c) 0) q ∙ get_or-replicate n (word_of r c) 0 0 (omega (arith, w.1, l))) ∙ zero_bit (c % 64)
    go false e = refl

when_true : (b : Bool) (x y : List ℕ) → b ≡ true → cond b x y ≡ x
when_true true x y e = refl
when_true false x y e = absurd (subst T (sym e) tt)

when_false : (b : Bool) (x y : List ℕ) → b ≡ false → cond b x y ≡ y
when_false true x y e = absurd (subst T e tt)
when_false false x y e = refl

-- ---- positions taken

module _ (ws : List ℕ) (k first : ℕ) (places : List ℕ) (m : ℕ) (complete : trees_in ws ≡ some m) (enough : k ≤ m) (there : AllThere ws places) where
  abbrev ts : List Tree
  ts = read numbered ws

  abbrev ds : List Tree
  ds = map (numbered_at ws) places

  abbrev n : ℕ
  n = next_number k first ts

  abbrev us : List Tree
  us = settled_roots ds n ts

  abbrev hs : List ℕ
  hs = words_held ws n places

  abbrev gs : List (List ℕ)
  gs = place_groups hs

  abbrev lets : ℕ
  lets = lets_count ws k first places

  within : k ≤ length ts
  within = omega (arith, complete_length numbered ws m complete, enough)

  held_are : held_words ws k first places ≡ hs
  unfolding held_words reciprocals_first
  held_are = refl

  settled_are : settled_trees ws k first places ≡ us
  unfolding settled_trees reciprocals_first
  settled_are = refl

  lets_is : lets ≡ length (drop k ts) + length places
  unfolding lets_count
  lets_is = refl

  later_count : length (drop k us) ≡ lets
  later_count = omega (arith, length-drop k us, roots_count k first ts ds within, length-drop k ts, lets_is, length-map places (numbered_at ws), within)

  module _ (scope : ℕ → List Tree → Outcome Scoped) (ih : (start : ℕ) (es : List Tree) → T (well_formed_all es) → Good (SameNames start es) (scope start es))
      (formed : T (well_formed_all us)) (under_next : T (holds_all (under (n + length ds)) us)) (l : Walked) (walk : numbered_groups scope (n + length ds) (scope_groups ds n ts) ≡ ok l) where
    abbrev ls : List Numbered
    ls = l.groups

    abbrev numbers : List ℕ
    numbers = all_numbers ls

    abbrev pub stmts : List Intermediate
    stmts = scope_stmts k first ts ds l.groups

    groups_are : map group_of ls ≡ scope_groups ds n ts
    groups_are = good_at (λ (l : Walked). map group_of l.groups ≡ scope_groups ds n ts) (numbered_groups scope (n + length ds) (scope_groups ds n ts)) l walk (groups_kept scope (n + length ds) (scope_groups ds n ts))

    all_shaped : AllShaped (scope_groups ds n ts)
    unfolding scope_groups
    all_shaped = groups_shaped us formed

    shaped : AllShaped (map group_of ls)
    shaped = subst AllShaped (sym groups_are) all_shaped

    beside : Beside hs ls gs
    beside = beside_groups hs ls (groups_are ∙ groups_by_place ws n places there)

    ascending : Ascending (n + length ds) ls
    ascending = good_at (λ (l : Walked). Ascending (n + length ds) l.groups) (numbered_groups scope (n + length ds) (scope_groups ds n ts)) l walk (groups_ascend scope ih (n + length ds) (scope_groups ds n ts) all_shaped)

    -- ---- the statements

    abbrev lets_trees : List Tree
    lets_trees = map (fused_tree (all_steps ls)) (drop k us)

    abbrev bound : List Intermediate
    bound = lets_from first lets_trees

    stmts_split : stmts ≡ bound ++ group_matches ls
    stmts_split = stmts_are k first ts ds within ls

    trees_count : length lets_trees ≡ lets
    trees_count = length-map (drop k us) (fused_tree (all_steps ls)) ∙ later_count

    bound_count : length bound ≡ lets
    bound_count = lets_many first lets_trees ∙ trees_count

    pub stmts_long : length stmts ≡ stmts_count ws k first places (all_numbers l.groups)
    unfolding stmts_count
    stmts_long =
        ap length stmts_split
        ∙ omega (arith, length-append bound (group_matches ls), bound_count, matches_count ls, beside_long hs ls gs beside, ap (λ (x : List ℕ). length (place_groups x)) held_are)

    stmts_many : length stmts ≡ lets + length ls
    stmts_many = ap length stmts_split ∙ omega (arith, length-append bound (group_matches ls), bound_count, matches_count ls)

    let_names : (i : ℕ) → i < lets → names (get_or stmts i nothing) ≡ xname (first + i) ∷ []
    let_names i h =
        ap (λ (x : List Intermediate). names (get_or x i nothing)) stmts_split
        ∙ (ap names (get_or-append bound (group_matches ls) nothing i (omega (arith, bound_count)) ∙ let_at first lets_trees i nothing (Op 0 nil) (omega (arith, trees_count)))
        ∙ (unfold names in refl))

    later_names : (j : ℕ) → j < length ls → names (get_or stmts (lets + j) nothing) ≡ group_names ls j
    later_names j h =
        ap (λ (x : List Intermediate). names (get_or x (lets + j) nothing)) stmts_split
        ∙ (ap (λ (i : ℕ). names (get_or (bound ++ group_matches ls) (i + j) nothing)) (sym bound_count)
        ∙ (ap names (get_or-append-add bound (group_matches ls) j nothing) ∙ match_names ls j nothing h))

    -- a word names a position where it is the word of a name that the statement binds
    named : (i : ℕ) → i < length stmts → (x : Name) → names_place first lets numbers (ends_from 0 gs) i (word 0 (name_code unnumbered x)) ≡ elem x (names (get_or stmts i nothing))
    named i h x = go (ltb i lets) refl
      where
        go : (b : Bool) → ltb i lets ≡ b → names_place first lets numbers (ends_from 0 gs) i (word 0 (name_code unnumbered x)) ≡ elem x (names (get_or stmts i nothing))
        go true e =
            let low : i < lets = ltb-true i lets e in
            names_let first lets numbers (ends_from 0 gs) unnumbered x i low ∙ ap (elem x) (sym (let_names i low))
        go false e =
            let high = ltb-false i lets e in
            let j = i - lets in
            let z : lets + j ≡ i = omega arith in
            let there : j < length ls = omega (arith, stmts_many) in
            ap (λ (i : ℕ). names_place first lets numbers (ends_from 0 gs) i (word 0 (name_code unnumbered x))) (sym z)
            ∙ (names_match first lets (n + length ds) ls gs ascending (beside_counted hs ls gs beside) unnumbered x j there
            ∙ (ap (elem x) (sym (later_names j there)) ∙ ap (λ (i : ℕ). elem x (names (get_or stmts i nothing))) z))

    -- ---- what they read

    abbrev reads : List (List Name)
    reads = read_before stmts (scope_groups ds n ts)

    reads_split : reads ≡ map symbols lets_trees ++ read_before (group_matches ls) (map group_of ls)
    reads_split = ap₂ read_before stmts_split (sym groups_are) ∙ lets_read first lets_trees (group_matches ls) (map group_of ls)

    symbols_count : length (map symbols lets_trees) ≡ lets
    symbols_count = length-map lets_trees symbols ∙ trees_count

    abbrev tree : ℕ → Tree
    tree j = fused_tree (all_steps ls) (get_or us (k + j) (Op 0 nil))

    let_row : (j : ℕ) → j < lets → get_or reads j [] ≡ symbols (tree j)
    let_row j h =
        ap (λ (x : List (List Name)). get_or x j []) reads_split
        ∙ (get_or-append (map symbols lets_trees) (read_before (group_matches ls) (map group_of ls)) [] j (omega (arith, symbols_count))
        ∙ (in_map (drop k us) j (omega (arith, later_count)) ∙ ap (λ (t : Tree). symbols (fused_tree (all_steps ls) t)) (get_or-drop k us j (Op 0 nil))))
      where
        in_map : (l : List Tree) (j : ℕ) → j < length l → get_or (map symbols (map (fused_tree (all_steps ls)) l)) j [] ≡ symbols (fused_tree (all_steps ls) (get_or l j (Op 0 nil)))
        in_map [] j h = absurd (omega arith)
        in_map (t ∷ l) zero h = refl
        in_map (t ∷ l) (suc j) h = in_map l j (omega arith)

    later_row : (j : ℕ) → get_or reads (lets + j) [] ≡ get_or (read_before (group_matches ls) (map group_of ls)) j []
    later_row j =
        ap (λ (x : List (List Name)). get_or x (lets + j) []) reads_split
        ∙ (ap (λ (i : ℕ). get_or (map symbols lets_trees ++ read_before (group_matches ls) (map group_of ls)) (i + j) []) (sym symbols_count)
        ∙ get_or-append-add (map symbols lets_trees) (read_before (group_matches ls) (map group_of ls)) j [])

    -- the words that they read
    abbrev run : ℕ → List ℕ
    run = reads_run ws k first places numbers

    let_run : (j : ℕ) → j < lets → run j ≡ tokens unnumbered (tree j)
    unfolding reads_run tree_run fused_run
    let_run j h =
        when_true (ltb j lets) _ _ (lt-ltb j lets h)
        ∙ (ap₂ (λ (x : List ℕ) (y : List Tree). tokens unnumbered (fused_tree (steps_from x (place_groups x) numbers 0) (get_or y (k + j) (Op 0 nil)))) held_are settled_are
        ∙ ap (λ (s : _). tokens unnumbered (fused_tree s (get_or us (k + j) (Op 0 nil)))) (steps_of_all hs ls gs beside))

    later_run : (j : ℕ) → run (lets + j) ≡ key_run hs gs numbers j ++ all_arms_run hs (group_at gs j)
    unfolding reads_run
    later_run j =
        let z : lets + j - lets ≡ j = omega arith in
        when_false (ltb (lets + j) lets) _ _ (le-ltb (lets + j) lets (omega arith))
        ∙ (ap (λ (x : List ℕ). key_run x (place_groups x) numbers (lets + j - lets) ++ all_arms_run x (group_at (place_groups x) (lets + j - lets))) held_are
        ∙ ap (λ (i : ℕ). key_run hs gs numbers i ++ all_arms_run hs (group_at gs i)) z)

    read_bits : (j i : ℕ) → j < length stmts → i < length stmts → any (names_place first lets numbers (ends_from 0 gs) i) (run j) ≡ meets (names (get_or stmts i nothing)) (get_or reads j [])
    read_bits j i h g = go (ltb j lets) refl
      where
        whole : trees_in hs ≡ some (length (trees_held ws n places))
        whole = held_complete ws n places there

        none : (w : ℕ) → 0 < kind_of w → names_place first lets numbers (ends_from 0 gs) i w ≡ false
        none w q = names_none first lets numbers (ends_from 0 gs) i w q

        go : (b : Bool) → ltb j lets ≡ b → any (names_place first lets numbers (ends_from 0 gs) i) (run j) ≡ meets (names (get_or stmts i nothing)) (get_or reads j [])
        go true e =
            let low : j < lets = ltb-true j lets e in
            let fit = fused_fits (all_steps ls) (get_or us (k + j) (Op 0 nil)) (roots_fit ws n places there (k + j) (Op 0 nil) (omega (arith, later_count, length-drop k us))) in
            ap (any (names_place first lets numbers (ends_from 0 gs) i)) (let_run j low)
            ∙ (tree_reads hs (length (trees_held ws n places)) whole (names_place first lets numbers (ends_from 0 gs) i) (names (get_or stmts i nothing)) (named i g) none (tree j) fit
            ∙ ap (meets (names (get_or stmts i nothing))) (sym (let_row j low)))
        go false e =
            let high = ltb-false j lets e in
            let q = j - lets in
            let z : lets + q ≡ j = omega arith in
            let inside : q < length ls = omega (arith, stmts_many) in
            ap (λ (j : ℕ). any (names_place first lets numbers (ends_from 0 gs) i) (run j)) (sym z)
            ∙ (ap (any (names_place first lets numbers (ends_from 0 gs) i)) (later_run q)
            ∙ (match_reads hs (length (trees_held ws n places)) whole (names_place first lets numbers (ends_from 0 gs) i) (names (get_or stmts i nothing)) (named i g) none ls gs beside shaped q inside
            ∙ (ap (meets (names (get_or stmts i nothing))) (sym (later_row q)) ∙ ap (λ (j : ℕ). meets (names (get_or stmts i nothing)) (get_or reads j [])) z)))

    -- ---- the table

    module _ (few : stmts_count ws k first places (all_numbers l.groups) ≤ 2048) where
      abbrev count : ℕ
      count = stmts_count ws k first places numbers

      abbrev zeros : List ℕ
      zeros = replicate (32 * count) 0

      abbrev bits : List ℕ
      bits = needs_table ws k first places numbers count zeros

      bits_are : bits ≡ marks first lets numbers (ends_from 0 gs) run count zeros
      unfolding needs_table
      bits_are = ap (λ (x : List ℕ). marks first lets numbers (ends_from 0 (place_groups x)) run count zeros) held_are

      bit_at : (j i : ℕ) → j < length stmts → i < length stmts → yes bits j i ≡ meets (names (get_or stmts i nothing)) (get_or reads j [])
      bit_at j i h g =
          let c = stmts_long in
          ap (λ (t : List ℕ). yes t j i) bits_are
          ∙ (marks_yes first lets numbers (ends_from 0 gs) run zeros (zero_row zeros (32 * count) refl) count (omega (arith, length-replicate {A = ℕ} (32 * count) 0)) j i (omega arith) (omega (arith, few)) ∙ read_bits j i h g)

      -- the table of bits is that of the needs
      pub table_is :
          table_of (needs_table ws k first places (all_numbers l.groups) (stmts_count ws k first places (all_numbers l.groups)) (replicate (32 * stmts_count ws k first places (all_numbers l.groups)) 0)) (stmts_count ws k first places (all_numbers l.groups))
          ≡ needs (scope_stmts k first (read numbered ws) (map (numbered_at ws) places) l.groups) (scope_stmts k first (read numbered ws) (map (numbered_at ws) places) l.groups)
      table_is =
          ap (table_of bits) (sym stmts_long)
          ∙ (table_by bits stmts reads (read_count stmts (scope_groups ds n ts)) bit_at ∙ sym (stmts_needs k first ts ds within scope ih formed under_next l walk))

      -- and so the order
      pub order_is :
          stmts_order ws k first places (all_numbers l.groups)
          ≡ reverse (positions_taken (needs (scope_stmts k first (read numbered ws) (map (numbered_at ws) places) l.groups) (scope_stmts k first (read numbered ws) (map (numbered_at ws) places) l.groups)))
      unfolding stmts_order
      order_is = ap (λ (t : List (List ℕ)). reverse (positions_taken t)) table_is

      taken_count : length (stmts_order ws k first places numbers) ≡ length (positions_taken (needs stmts stmts))
      taken_count = ap length order_is ∙ length-reverse (positions_taken (needs stmts stmts))

      -- all are taken, in this order
      pub order_all :
          length (stmts_order ws k first places (all_numbers l.groups)) ≡ stmts_count ws k first places (all_numbers l.groups)
          → topo_sort_intermediates (scope_stmts k first (read numbered ws) (map (numbered_at ws) places) l.groups)
          ≡ ok (at_each (scope_stmts k first (read numbered ws) (map (numbered_at ws) places) l.groups) (stmts_order ws k first places (all_numbers l.groups)))
      order_all h =
          sorted_all stmts (needs stmts stmts) refl (sym taken_count ∙ (h ∙ sym stmts_long)) ∙ ap (λ (t : List ℕ). ok (at_each stmts t)) (sym order_is)

      -- some never are
      pub order_ring :
          (length (stmts_order ws k first places (all_numbers l.groups)) ≡ stmts_count ws k first places (all_numbers l.groups) → ⊥)
          → topo_sort_intermediates (scope_stmts k first (read numbered ws) (map (numbered_at ws) places) l.groups) ≡ refused (by 11)
      order_ring h = sorted_ring stmts (needs stmts stmts) refl (λ e. h (taken_count ∙ (e ∙ stmts_long)))

      -- each is a statement's position
      pub order_below :
          (q : ℕ) → q < length (stmts_order ws k first places (all_numbers l.groups))
          → get_or (stmts_order ws k first places (all_numbers l.groups)) q 0 < stmts_count ws k first places (all_numbers l.groups)
      unfolding stmts_order
      order_below q h =
          let table = table_of bits count in
          omega (arith, table_length bits count, all_get_d (λ j. j < length table) (reverse (positions_taken table)) (all_turned (λ j. j < length table) (positions_taken table) [] (taken_ok table).inside tt) q h)
