-- One scope on words, whole (01, "Scoped fusion", "Order"): its arms' scopes in order, its statements in the order of their needs, and its answer as rows.
-- Assumes nothing.
use Prim.Native.Nat.{ℕ, zero, suc, ◌+◌, ◌-◌, ◌*◌}
use Rattle.std.specs.Prelude.{Bool, true, ◌&&◌, get_or, replicate, eqb, leb, ltb}
use Rattle.std.proofs.Math.Bool.{cond}
use mathlib.Core.List.{List, [], ◌∷◌, ◌++◌, reverse}
use Rattle.std.proofs.Math.ListN.{length}
use Rattle.spec_tree.specs.Outcome.{Outcome, ok, refused, by, ◌>>=◌}
use Rattle.spec_tree.specs.Tree.{Op, nil}
use Rattle.spec_tree.specs.Rows.{Row}
use Rattle.spec_tree.specs.Tokens.{word, read, numbered, name_in}
use Rattle.spec_cse.specs.AnswerRows.{arm_row, value_row}
use Rattle.spec_cse.specs.Order.{positions_taken}
use Rattle.spec_cse.specs.Scope.{most_number}
use Rattle.topo_sort.specs.Needs.{table_of}
use Rattle.laws.specs.positions.Places.{divisors_to_bind}
use Rattle.rounds.specs.Rounds.{all_rounds}
use Rattle.laws.specs.switches.Switches.{arm_count, switch_places}
use Rattle.laws.specs.switches.Columns.{column_words}
use Rattle.fusion.specs.Words.{numbers_from}
use Rattle.reciprocals.specs.final.Entries.{runs}
use Rattle.fusion.specs.place.Parts.{place_groups, ends_from, group_at, reciprocals_first, lets_count, held_words, settled_trees, fused_run, key_run, match_run, let_run, value_run}
use Rattle.fusion.specs.place.Reads.{with_reads, all_arms_run, marks_by}

-- a scope's answer: the rows of its statements and of its values, how many statements there are, the next number, and how many bindings rounds made
abbrev pub Told : Type 0
Told = record { words : List ℕ; steps : ℕ; next : ℕ; extracted : ℕ }

-- some arms of a match: their rows, the next number, and how many bindings rounds made in them
abbrev pub ArmsTold : Type 0
ArmsTold = record { words : List ℕ; next : ℕ; extracted : ℕ }

-- some groups: the numbers of their members, the rows of their arms, the next number, and how many bindings rounds made in their arms
abbrev pub Walk : Type 0
Walk = record { numbers : List ℕ; arms : List (List ℕ); next : ℕ; extracted : ℕ }

-- ---- arms and groups, `scope` being what an arm's scope gives

module _ (scope : ℕ → List ℕ → Outcome Told) (hs : List ℕ) where
  -- the first n arms of a group's match, each a scope of its own
  unfoldable pub arms_told : List ℕ → ℕ → ℕ → Outcome ArmsTold
  unfolding column_words
  arms_told g next zero = ok (record { words = []; next = next; extracted = 0 })
  arms_told g next (suc n) =
      arms_told g next n >>= λ r.
      scope r.next (column_words hs g n) >>= λ a.
      ok (record { words = r.words ++ (word arm_row (a.steps + length g) ∷ a.words); next = a.next; extracted = r.extracted + a.extracted })

  -- all arms of a group: its members take the numbers before theirs
  unfoldable pub group_told : List ℕ → ℕ → Outcome ArmsTold
  unfolding arms_told arm_count
  group_told g next = arms_told g (next + length g) (arm_count hs (get_or g 0 0))

  -- the first n groups in order
  unfoldable pub walked : List (List ℕ) → ℕ → ℕ → Outcome Walk
  unfolding group_told group_at numbers_from
  walked gs next zero = ok (record { numbers = []; arms = []; next = next; extracted = 0 })
  walked gs next (suc n) =
      walked gs next n >>= λ r.
      group_told (group_at gs n) r.next >>= λ a.
      ok (record {
        numbers = r.numbers ++ numbers_from r.next (length (group_at gs n));
        arms = r.arms ++ (a.words ∷ []);
        next = a.next;
        extracted = r.extracted + a.extracted;
      })

-- ---- statements by position, once the members are numbered

module _ (ws : List ℕ) (k first : ℕ) (places : List ℕ) (numbers : List ℕ) where
  -- how many statements there are
  unfoldable pub stmts_count : ℕ
  unfolding lets_count place_groups held_words
  stmts_count = lets_count ws k first places + length (place_groups (held_words ws k first places))

  -- the words of the final tree of number i: results, lets, reciprocals
  unfoldable pub tree_run : ℕ → List ℕ
  unfolding fused_run held_words place_groups settled_trees
  tree_run i =
      let hs = held_words ws k first places in
      fused_run hs (place_groups hs) numbers (get_or (settled_trees ws k first places) i (Op 0 nil))

  -- the words that statement p reads: its tree, or its key and all arms of its members
  unfoldable pub reads_run : ℕ → List ℕ
  unfolding lets_count tree_run held_words place_groups key_run all_arms_run group_at
  reads_run p =
      let hs = held_words ws k first places in
      let gs = place_groups hs in
      let g = p - lets_count ws k first places in
      cond (ltb p (lets_count ws k first places)) (tree_run (k + p)) (key_run hs gs numbers g ++ all_arms_run hs (group_at gs g))

  -- the table of needs
  unfoldable pub needs_table : ℕ → List ℕ → List ℕ
  unfolding marks_by with_reads reads_run lets_count ends_from place_groups held_words
  needs_table n table =
      marks_by (λ p row t. with_reads first (lets_count ws k first places) numbers (ends_from 0 (place_groups (held_words ws k first places))) (reads_run p) row t) n table

  -- the positions in the order in which they are taken, by a table with a row of 32 words for each
  unfoldable pub stmts_order : List ℕ
  unfolding needs_table stmts_count table_of positions_taken
  stmts_order = reverse (positions_taken (table_of (needs_table stmts_count (replicate (32 * stmts_count) 0)) stmts_count))

  -- the rows of statement p, given those of the groups' arms
  unfoldable pub stmt_run : List (List ℕ) → ℕ → List ℕ
  unfolding lets_count let_run tree_run match_run held_words place_groups
  stmt_run arms p =
      let hs = held_words ws k first places in
      let g = p - lets_count ws k first places in
      cond (ltb p (lets_count ws k first places)) (let_run (first + p) (tree_run (k + p))) (match_run hs (place_groups hs) numbers (get_or arms g []) g)

  -- the first n statements in their order, and then the first m values
  unfoldable pub stmts_runs : List (List ℕ) → List ℕ → ℕ → List ℕ
  unfolding runs stmt_run
  stmts_runs arms taken n = runs (λ q. stmt_run arms (get_or taken q 0)) n

  unfoldable pub values_runs : ℕ → ℕ → List ℕ
  unfolding runs value_run tree_run
  values_runs row m = runs (λ i. value_run row (tree_run i)) m

-- the answer, or refusal 11 where some statements are never taken; `made` bindings were made by this scope's own rounds
unfoldable pub ordered_scope : ℕ → List ℕ → ℕ → ℕ → List ℕ → Walk → Outcome Told
unfolding stmts_order stmts_count stmts_runs values_runs read
ordered_scope row ws k first places l =
    let taken = stmts_order ws k first places l.numbers in
    let count = stmts_count ws k first places l.numbers in
    cond (eqb (length taken) count)
    (ok (record {
      words = stmts_runs ws k first places l.numbers l.arms taken count ++ values_runs ws k first places l.numbers row k;
      steps = count;
      next = l.next;
      extracted = (length (read numbered ws) - k) + l.extracted;
    }))
    (refused (by 11))

-- whether there is room for what the scope holds in the rows that are left, for its switches, and for the order of its statements
unfoldable pub room_for : ℕ → List ℕ → ℕ → ℕ → List ℕ → Bool
unfolding held_words switch_places place_groups lets_count
room_for left ws k first places =
    let hs = held_words ws k first places in
    leb (length hs) left && (leb (length (switch_places hs)) 3640 && leb (lets_count ws k first places + length (place_groups hs)) 2048)

-- after the rounds: 23 where there is no room, then the groups in order, and then the order of statements
unfoldable pub fused_scope : (ℕ → List ℕ → Outcome Told) → ℕ → ℕ → List ℕ → ℕ → ℕ → List ℕ → Outcome Told
unfolding room_for held_words place_groups walked ordered_scope reciprocals_first
fused_scope scope left row ws k first places =
    let hs = held_words ws k first places in
    let gs = place_groups hs in
    cond (room_for left ws k first places) (walked scope hs gs (reciprocals_first ws k first places + length places) (length gs) >>= λ l. ordered_scope row ws k first places l) (refused (by 23))

-- A scope on the words of its input, with values in rows of a kind, in the rows of the work area that are left: its arms' scopes have those after what it holds. 23
-- for more scopes than can be open, more words than are left or can be worked on, and numbers too large; and as `room_for` says, after the rounds.
unfoldable pub scope_told : List Row → ℕ → ℕ → ℕ → ℕ → List ℕ → Outcome Told
unfolding all_rounds divisors_to_bind name_in held_words fused_scope read
scope_told rows zero left row next ws = refused (by 23)
scope_told rows (suc fuel) left row next ws =
    cond (leb (length ws) left && (leb (length ws) 1927 && leb next most_number))
    (all_rounds rows true next ws >>= λ vs.
    let k = length (read numbered ws) in
    let places = divisors_to_bind vs (name_in rows) true in
    fused_scope (λ n cs. scope_told rows fuel (left - length (held_words vs k next places)) value_row n cs) left row vs k next places)
    (refused (by 23))
