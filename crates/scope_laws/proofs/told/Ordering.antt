-- A scope's statements in the order of their needs, and its values, as words (01, "Order", "Scoped fusion"): given that the positions are taken in the same order.
-- Assumes nothing.
use Prim.Native.Nat.{ℕ, suc, ◌+◌, ◌-◌, ◌≤◌, ◌<◌}
use native.Mathlib.Omega.{arith}
use mathlib.Core.Path.{◌≡◌, refl, sym, ◌∙◌, ap, ap₂}
use mathlib.Core.Bool.{Bool, true, false, cond}
use mathlib.Core.List.{List, [], ◌∷◌, ◌++◌, map, reverse}
use borrow.Author.Tests.{eqb-true, eqb-false}
use lib.ListN.{length, get_or, take, drop, length-drop, length-reverse}
use lib.Dec.{eqb}
use Rattle.spec_tree.specs.Outcome.{Outcome, ok, refused, by, ◌>>=◌}
use Rattle.spec_tree.specs.Tree.{Tree}
use Rattle.spec_tree.specs.Tokens.{read, numbered}
use Rattle.words.specs.words.Words.{number}
use Rattle.spec_cse.specs.Answer.{Intermediate, block}
use Rattle.spec_cse.specs.AnswerRows.{intermediate_words, intermediates_words, each_words}
use Rattle.spec_cse.specs.Order.{needs, nothing, at_each, positions_taken, topo_sort_intermediates}
use Rattle.spec_cse.specs.Scope.{Scoped, finish}
use Rattle.laws.proofs.cse.OrderLaws.{taken_ok, all_get_d, all_turned}
use Rattle.laws.specs.positions.Places.{numbered_at}
use Rattle.laws.specs.positions.Rounds.{next_number}
use Rattle.laws.proofs.positions.Extraction.{Every}
use Rattle.topo_sort.proofs.Sorted.{sorted_all, sorted_ring}
use Rattle.fusion.specs.Settled.{Walked, all_steps}
use Rattle.fusion.specs.Words.{all_numbers}
use Rattle.fusion.specs.Whole.{settled_fused, scope_stmts, scope_work}
use Rattle.reciprocals.specs.final.Entries.{runs}
use Rattle.reciprocals.proofs.final.Entering.{runs_front}
use Rattle.fusion.specs.place.Parts.{held_words}
use Rattle.fusion.specs.place.Whole.{Told, stmt_run, stmts_order, stmts_runs, values_runs, ordered_scope}
use Rattle.scope_laws.specs.told.Told.{told}
use Rattle.scope_laws.proofs.told.Groups.{group_of, numbers_of}
use Rattle.scope_laws.proofs.told.Walking.{arm_words, told_groups}
use Rattle.scope_laws.proofs.told.Matches.{its_group, ArmedWell}
use Rattle.scope_laws.proofs.told.Statements.{count_is, stmt_words, values_words}
use Rattle.laws.proofs.cse.ReadLaws.{needs_length}
use Rattle.laws.proofs.cse.SortCount.{length_at_each}

-- ---- positions

-- the order of some statements
abbrev pub order_of : List Intermediate → List ℕ
order_of l = reverse (positions_taken (needs l l))

order_inside : (l : List Intermediate) (q : ℕ) → q < length (order_of l) → get_or (order_of l) q 0 < length l
order_inside l q h =
    let table = needs l l in
    let c = needs_length l l in
    let a = all_get_d (λ j. j < length table) (order_of l) (all_turned (λ j. j < length table) (positions_taken table) [] (taken_ok table).inside tt) q h in
    omega (arith, c, a)

-- ---- words of statements in an order

runs_words :
    (l : List Intermediate) (run : ℕ → List ℕ) → ((p : ℕ) → p < length l → intermediate_words number (get_or l p nothing) ≡ run p) → (taken : List ℕ)
    → ((q : ℕ) → q < length taken → get_or taken q 0 < length l) → runs (λ q. run (get_or taken q 0)) (length taken) ≡ intermediates_words number (block (at_each l taken))
unfolding runs block at_each intermediates_words
runs_words l run f [] h = refl
runs_words l run f (j ∷ taken) h =
    runs_front (λ q. run (get_or (j ∷ taken) q 0)) (length taken)
    ∙ ap₂ (λ (a b : List ℕ). a ++ b) (sym (f j (h 0 (omega arith)))) (runs_words l run f taken (λ q i. h (suc q) (omega arith)))

-- ---- the end of a scope

module _
    (vs : List ℕ) (k first : ℕ) (places : List ℕ) (within : k ≤ length (read numbered vs)) (l : Walked)
    (same : map its_group l.groups ≡ map (group_of (held_words vs k first places)) (numbers_of (held_words vs k first places))) (well : Every ArmedWell l.groups)
  where
    abbrev ts : List Tree
    ts = read numbered vs

    abbrev ds : List Tree
    ds = map (numbered_at vs) places

    abbrev stmts : List Intermediate
    stmts = scope_stmts k first ts ds l.groups

    abbrev values : List Tree
    values = map (settled_fused ds (next_number k first ts) (all_steps l.groups)) (take k ts)

    abbrev ns : List ℕ
    ns = all_numbers l.groups

    abbrev arms : List (List ℕ)
    arms = map arm_words l.groups

    abbrev scoped : List Intermediate → Scoped
    scoped r = record { inters = r; results = values; next = l.next; extracted = length (drop k ts) + l.extracted }

    -- the answer with given positions and count
    abbrev answer : ℕ → List ℕ → ℕ → Told
    answer row taken count =
        record {
          words = stmts_runs vs k first places ns arms taken count ++ values_runs vs k first places ns row k;
          steps = count;
          next = l.next;
          extracted = (length ts - k) + l.extracted;
        }

    stmts_words : stmts_runs vs k first places ns arms (order_of stmts) (length (order_of stmts)) ≡ intermediates_words number (block (at_each stmts (order_of stmts)))
    unfolding stmts_runs
    stmts_words =
        let c = count_is vs k first places within l.groups same well in
        runs_words stmts (stmt_run vs k first places ns arms) (λ p h. stmt_words vs k first places within l.groups same well p (omega (arith, c, h))) (order_of stmts)
        (λ q h. order_inside stmts q h)

    told_is : (row : ℕ) → length (order_of stmts) ≡ length stmts → answer row (order_of stmts) (length stmts) ≡ told row (scoped (at_each stmts (order_of stmts)))
    unfolding told
    told_is row e =
        let T = order_of stmts in
        let words : stmts_runs vs k first places ns arms T (length stmts) ++ values_runs vs k first places ns row k
        ≡ intermediates_words number (block (at_each stmts T)) ++ each_words number row values =
        ap₂ (λ (a b : List ℕ). a ++ b) (ap (stmts_runs vs k first places ns arms T) (sym e) ∙ stmts_words)
        (sym (values_words vs k first places within l.groups same well row)) in
        let steps : length stmts ≡ length (at_each stmts T) = sym (length_at_each stmts T ∙ e) in
        let made : (length ts - k) + l.extracted ≡ length (drop k ts) + l.extracted = omega (arith, length-drop k ts) in
        rw words (ap₂ (λ (x y : ℕ). record { words = intermediates_words number (block (at_each stmts T)) ++ each_words number row values; steps = x; next = l.next; extracted = y }) steps made)

    -- topo_sort_intermediates on words
    sorted_is :
        (row : ℕ)
        → cond (eqb (length (order_of stmts)) (length stmts)) (ok (answer row (order_of stmts) (length stmts))) (refused (by 11))
        ≡ ((topo_sort_intermediates stmts >>= λ r. ok (scoped r)) >>= λ a. ok (told row a))
    sorted_is row = go (eqb (length (order_of stmts)) (length stmts)) refl
      where
        turned : length (order_of stmts) ≡ length (positions_taken (needs stmts stmts))
        turned = length-reverse (positions_taken (needs stmts stmts))

        go : (b : Bool) → eqb (length (order_of stmts)) (length stmts) ≡ b
            → cond b (ok (answer row (order_of stmts) (length stmts))) (refused (by 11)) ≡ ((topo_sort_intermediates stmts >>= λ r. ok (scoped r)) >>= λ a. ok (told row a))
        go true e =
            let q = eqb-true (length (order_of stmts)) (length stmts) e in
            ap ok (told_is row q)
            ∙ ap (λ (o : Outcome (List Intermediate)). (o >>= λ r. ok (scoped r)) >>= λ a. ok (told row a)) (sym (sorted_all stmts (needs stmts stmts) refl (sym turned ∙ q)))
        go false e =
            ap (λ (o : Outcome (List Intermediate)). (o >>= λ r. ok (scoped r)) >>= λ a. ok (told row a))
            (sym (sorted_ring stmts (needs stmts stmts) refl (λ q. eqb-false (length (order_of stmts)) (length stmts) e (turned ∙ q))))

    pub ordered_is :
        (row : ℕ)
        → stmts_order vs k first places (all_numbers l.groups)
        ≡ reverse
        (positions_taken (needs (scope_stmts k first (read numbered vs) (map (numbered_at vs) places) l.groups) (scope_stmts k first (read numbered vs) (map (numbered_at vs) places) l.groups)))
        → ordered_scope row vs k first places (told_groups l)
        ≡ (finish (scope_work (length (drop k (read numbered vs))) k first (read numbered vs) (map (numbered_at vs) places) l) >>= λ a. ok (told row a))
    unfolding ordered_scope finish scope_work
    ordered_is row e =
        ap₂ (λ (taken : List ℕ) (count : ℕ). cond (eqb (length taken) count) (ok (answer row taken count)) (refused (by 11))) e
        (sym (count_is vs k first places within l.groups same well))
        ∙ sorted_is row
