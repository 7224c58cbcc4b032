-- Each statement of a scope by its position, and each value, as words (01, "Scoped fusion"). Assumes nothing.
use Prim.Native.Nat.{ℕ, zero, suc, ◌+◌, ◌*◌, ◌-◌, ◌≤◌, ◌<◌}
use native.Mathlib.Omega.{arith}
use mathlib.Core.Path.{◌≡◌, refl, sym, ◌∙◌, ap, ap₂}
use mathlib.Core.Bool.{Bool, true, false, cond}
use mathlib.Core.List.{List, [], ◌∷◌, ◌++◌, append_assoc, map}
use borrow.Author.Tests.{ltb-true, ltb-false}
use lib.ListN.{length, get_or, take, drop, length-append, length-map, length-drop, get_or-append, get_or-map}
use lib.Seq.{get_or-append-add, get_or-drop}
use lib.Dec.{ltb}
use Rattle.spec_tree.specs.Tree.{xname, Tree, Op, nil}
use Rattle.spec_tree.specs.Tokens.{word, tokens, read, numbered, name_code}
use Rattle.spec_tree.proofs.TokenLaws.{map_append}
use Rattle.words.specs.words.Words.{number}
use Rattle.spec_cse.specs.Answer.{Intermediate, Let}
use Rattle.spec_cse.specs.AnswerRows.{let_row, intermediate_words, each_words}
use Rattle.spec_cse.specs.Order.{nothing}
use Rattle.laws.specs.positions.Places.{numbered_at}
use Rattle.laws.specs.positions.Rounds.{next_number}
use Rattle.laws.proofs.positions.Extraction.{Every}
use Rattle.reciprocals.proofs.bindings.Parts.{settle_tree, settled_reciprocals}
use Rattle.fusion.specs.Settled.{Step, fused_tree, Numbered, all_steps, group_matches}
use Rattle.fusion.specs.Words.{all_numbers}
use Rattle.fusion.specs.Whole.{settled_fused, lets_from, settled_roots, scope_stmts}
use Rattle.fusion.proofs.Whole.{lets_append}
use Rattle.fusion.proofs.Places.{lets_count, let_at, matches_count, match_at}
use Rattle.reciprocals.specs.final.Entries.{runs}
use Rattle.reciprocals.proofs.final.Entering.{runs_front}
use Rattle.fusion.specs.place.Parts as parts
use Rattle.fusion.specs.place.Parts.{place_groups, held_words, settled_trees, fused_run, reciprocals_first, let_run, match_run, value_run}
use Rattle.fusion.specs.place.Whole.{stmts_count, tree_run, stmt_run, values_runs}
use Rattle.scope_laws.proofs.told.Groups.{group_of, numbers_of, groups_count}
use Rattle.scope_laws.proofs.told.Walking.{arm_words}
use Rattle.scope_laws.proofs.told.Matches.{its_group, ArmedWell, all_steps_from, match_words}
use Rattle.reciprocals.proofs.reciprocal.Made.{settled_long}
use Rattle.spec_tree.proofs.Lists.{map_through, take_front, drop_front}

-- ---- lists

-- ---- lets, reciprocals among them, and then matches

module _ (k first : ℕ) (ts ds : List Tree) (within : k ≤ length ts) (steps : List Step) where
  abbrev n : ℕ
  n = next_number k first ts

  abbrev us : List Tree
  us = settled_roots ds n ts

  lets_are :
      lets_from first (map (settled_fused ds n steps) (drop k ts)) ++ lets_from n (map (fused_tree steps) (settled_reciprocals ds n))
      ≡ lets_from first (map (fused_tree steps) (drop k us))
  unfolding settled_roots settled_fused next_number
  lets_are =
      let f : Tree → Tree = settle_tree ds n in
      let g : Tree → Tree = fused_tree steps in
      let h : Tree → Tree = settled_fused ds n steps in
      let rs = settled_reciprocals ds n in
      let z : first + length (map h (drop k ts)) ≡ first + length (drop k ts) = omega (arith, length-map (drop k ts) h) in
      sym
      (ap (λ (y : List Tree). lets_from first (map g y)) (drop_front f k ts rs within)
      ∙ (ap (lets_from first) (map_append g (map f (drop k ts)) rs)
      ∙ (ap (λ (y : List Tree). lets_from first (y ++ map g rs)) (map_through f g h (λ (t : Tree). refl) (drop k ts))
      ∙ (lets_append first (map h (drop k ts)) (map g rs) ∙ ap (λ (i : ℕ). lets_from first (map h (drop k ts)) ++ lets_from i (map g rs)) z))))

  values_are : map (settled_fused ds n steps) (take k ts) ≡ map (fused_tree steps) (take k us)
  unfolding settled_roots settled_fused
  values_are =
      sym
      (ap (map (fused_tree steps)) (take_front (settle_tree ds n) k ts (settled_reciprocals ds n) within)
      ∙ map_through (settle_tree ds n) (fused_tree steps) (settled_fused ds n steps) (λ (t : Tree). refl) (take k ts))

  roots_count : length us ≡ length ts + length ds
  unfolding settled_roots
  roots_count = omega (arith, length-append (map (settle_tree ds n) ts) (settled_reciprocals ds n), length-map ts (settle_tree ds n), settled_long ds n)

-- ---- by position

module _
    (vs : List ℕ) (k first : ℕ) (places : List ℕ) (within : k ≤ length (read numbered vs)) (gs : List Numbered)
    (same : map its_group gs ≡ map (group_of (held_words vs k first places)) (numbers_of (held_words vs k first places))) (well : Every ArmedWell gs)
  where
    abbrev ts : List Tree
    ts = read numbered vs

    abbrev ds : List Tree
    ds = map (numbered_at vs) places

    abbrev hs : List ℕ
    hs = held_words vs k first places

    abbrev roots : List Tree
    roots = settled_roots ds (next_number k first ts) ts

    abbrev steps : List Step
    steps = all_steps gs

    abbrev stmts : List Intermediate
    stmts = scope_stmts k first ts ds gs

    abbrev arms : List (List ℕ)
    arms = map arm_words gs

    abbrev bound : List Intermediate
    bound = lets_from first (map (fused_tree steps) (drop k roots))

    trees_are : settled_trees vs k first places ≡ roots
    unfolding settled_trees reciprocals_first
    trees_are = refl

    stmts_are : stmts ≡ bound ++ group_matches gs
    unfolding scope_stmts
    stmts_are =
        let a = lets_from first (map (settled_fused ds (next_number k first ts) steps) (drop k ts)) in
        let b = lets_from (next_number k first ts) (map (fused_tree steps) (settled_reciprocals ds (next_number k first ts))) in
        sym (append_assoc a b (group_matches gs)) ∙ ap (λ (l : List Intermediate). l ++ group_matches gs) (lets_are k first ts ds within steps)

    bound_count : length bound ≡ parts.lets_count vs k first places
    unfolding parts.lets_count
    bound_count =
        omega (
          arith,
          lets_count first (map (fused_tree steps) (drop k roots)),
          length-map (drop k roots) (fused_tree steps),
          length-drop k roots,
          length-drop k ts,
          roots_count k first ts ds within steps,
          length-map places (numbered_at vs),
        )

    groups_many : length gs ≡ length (place_groups hs)
    groups_many = sym (length-map gs its_group) ∙ (ap length same ∙ (length-map (numbers_of hs) (group_of hs) ∙ sym (groups_count hs)))

    -- how many there are
    pub count_is : length (scope_stmts k first (read numbered vs) (map (numbered_at vs) places) gs) ≡ stmts_count vs k first places (all_numbers gs)
    unfolding stmts_count
    count_is =
        ap length stmts_are
        ∙ (length-append bound (group_matches gs) ∙ ap₂ ◌+◌ bound_count (matches_count gs ∙ groups_many))

    -- the words of a final tree
    tree_words : (i : ℕ) → tokens number (fused_tree steps (get_or roots i (Op 0 nil))) ≡ tree_run vs k first places (all_numbers gs) i
    unfolding tree_run fused_run
    tree_words i = ap₂ (λ (s : List Step) (l : List Tree). tokens number (fused_tree s (get_or l i (Op 0 nil)))) (all_steps_from hs gs same) (sym trees_are)

    let_words :
        (p : ℕ) → p < parts.lets_count vs k first places
        → intermediate_words number (get_or stmts p nothing) ≡ let_run (first + p) (tree_run vs k first places (all_numbers gs) (k + p))
    unfolding let_run
    let_words p h =
        let d : Tree = Op 0 nil in
        let g : Tree → Tree = fused_tree steps in
        let l = map g (drop k roots) in
        let c = lets_count first l in
        let b = bound_count in
        ap (λ (r : List Intermediate). intermediate_words number (get_or r p nothing)) stmts_are
        ∙ (ap (intermediate_words number)
        (get_or-append bound (group_matches gs) nothing p (omega (arith, b, h))
        ∙ (let_at first l p nothing (g d) (omega (arith, b, c, h)) ∙ ap (Let (xname (first + p))) (get_or-map g (drop k roots) p d ∙ ap g (get_or-drop k roots p d))))
        ∙ (written (first + p) (g (get_or roots (k + p) d)) ∙ ap (λ (r : List ℕ). word let_row (1 + 3 * (first + p)) ∷ r) (tree_words (k + p))))
      where
        written : (x : ℕ) (t : Tree) → intermediate_words number (Let (xname x) t) ≡ word let_row (1 + 3 * x) ∷ tokens number t
        written x t = (unfold intermediate_words in unfold name_code in refl)

    match_there :
        (j : ℕ) → j < length (place_groups hs)
        → intermediate_words number (get_or stmts (parts.lets_count vs k first places + j) nothing) ≡ match_run hs (place_groups hs) (all_numbers gs) (get_or arms j []) j
    match_there j h =
        ap (λ (r : List Intermediate). intermediate_words number (get_or r (parts.lets_count vs k first places + j) nothing)) stmts_are
        ∙ (ap (λ (x : ℕ). intermediate_words number (get_or (bound ++ group_matches gs) (x + j) nothing)) (sym bound_count)
        ∙ (ap (intermediate_words number) (get_or-append-add bound (group_matches gs) j nothing) ∙ go (drop j gs) refl))
      where
        go : (l : List Numbered) → drop j gs ≡ l → intermediate_words number (get_or (group_matches gs) j nothing) ≡ match_run hs (place_groups hs) (all_numbers gs) (get_or arms j []) j
        go [] e = absurd (let a = ap length e in let b = length-drop j gs in omega (arith, a, b, groups_many, h))
        go (g ∷ after) e = ap (intermediate_words number) (match_at gs j nothing g after e) ∙ match_words hs gs same well j g after e

    -- the statement at a position
    pub stmt_words :
        (p : ℕ) → p < stmts_count vs k first places (all_numbers gs)
        → intermediate_words number (get_or (scope_stmts k first (read numbered vs) (map (numbered_at vs) places) gs) p nothing)
        ≡ stmt_run vs k first places (all_numbers gs) (map arm_words gs) p
    unfolding stmt_run stmts_count
    stmt_words p h = go (ltb p (parts.lets_count vs k first places)) refl
      where
        go : (b : Bool) → ltb p (parts.lets_count vs k first places) ≡ b
            → intermediate_words number (get_or stmts p nothing)
            ≡ cond b (let_run (first + p) (tree_run vs k first places (all_numbers gs) (k + p)))
            (match_run hs (place_groups hs) (all_numbers gs) (get_or arms (p - parts.lets_count vs k first places) []) (p - parts.lets_count vs k first places))
        go true e = let_words p (ltb-true p (parts.lets_count vs k first places) e)
        go false e =
            let m = parts.lets_count vs k first places in
            let l = ltb-false p m e in
            let z : p ≡ m + (p - m) = omega (arith, l) in
            ap (λ (x : ℕ). intermediate_words number (get_or stmts x nothing)) z ∙ match_there (p - m) (omega (arith, l, h))

    -- ---- values

    each_are : (row : ℕ) (g : Tree → Tree) (j : ℕ) (l : List Tree) → j ≤ length l → runs (λ i. value_run row (tokens number (g (get_or l i (Op 0 nil))))) j ≡ each_words number row (map g (take j l))
    unfolding each_words value_run
    each_are row g zero l h = (unfold runs in refl)
    each_are row g (suc j) [] h = absurd (omega arith)
    each_are row g (suc j) (t ∷ l) h =
        runs_front (λ i. value_run row (tokens number (g (get_or (t ∷ l) i (Op 0 nil))))) j
        ∙ ap (λ (r : List ℕ). word row 0 ∷ (tokens number (g t) ++ r)) (each_are row g j l (omega arith))

    same_runs : (f g : ℕ → List ℕ) (j : ℕ) → ((i : ℕ) → f i ≡ g i) → runs f j ≡ runs g j
    unfolding runs
    same_runs f g zero h = refl
    same_runs f g (suc j) h = ap₂ (λ (a b : List ℕ). a ++ b) (same_runs f g j h) (h j)

    pub values_words :
        (row : ℕ)
        → each_words number row (map (settled_fused (map (numbered_at vs) places) (next_number k first (read numbered vs)) (all_steps gs)) (take k (read numbered vs)))
        ≡ values_runs vs k first places (all_numbers gs) row k
    unfolding values_runs
    values_words row =
        let c = roots_count k first ts ds within steps in
        ap (each_words number row) (values_are k first ts ds within steps)
        ∙ (sym (each_are row (fused_tree steps) k roots (omega (arith, c, within)))
        ∙ same_runs (λ i. value_run row (tokens number (fused_tree steps (get_or roots i (Op 0 nil))))) (λ i. value_run row (tree_run vs k first places (all_numbers gs) i)) k
        (λ i. ap (value_run row) (tree_words i)))
