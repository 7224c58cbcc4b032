-- A scope after its test, on words and by trees (01, "Extraction", "Reciprocals", "Scoped fusion", "Order"): its rounds, and then what comes after them. Assumes
-- nothing.
use Prim.Native.Nat.{ℕ, ◌+◌, ◌-◌, ◌≤◌, ◌<◌}
use native.Mathlib.Omega.{arith}
use mathlib.Core.Path.{◌≡◌, sym, ◌∙◌, ap, subst}
use mathlib.Core.Bool.{true}
use mathlib.Core.Option.{some}
use mathlib.Core.List.{List, [], map, reverse}
use lib.ListN.{length, get_or, drop}
use lib.Dec.{T}
use Rattle.spec_tree.specs.Outcome.{Outcome, ok, ◌>>=◌}
use Rattle.spec_tree.specs.Tree.{Tree}
use Rattle.spec_tree.specs.Facts.{all_operations}
use Rattle.spec_tree.specs.Rows.{Row}
use Rattle.spec_tree.specs.Tokens.{read, numbered, trees_in, name_in}
use Rattle.spec_cse.specs.AnswerRows.{value_row}
use Rattle.spec_cse.specs.Extract.{State}
use Rattle.spec_cse.specs.Order.{needs, positions_taken}
use Rattle.spec_cse.specs.Scope.{Scoped, left_after, fuse_held}
use Rattle.laws.proofs.cse.Outcomes.{Good, good_at}
use Rattle.laws.specs.positions.Shown.{extract_all_by, reciprocals_by}
use Rattle.laws.specs.positions.Places.{numbered_at, divisors_to_bind}
use Rattle.laws.specs.positions.Rounds.{next_number, state_of, bind_each_on, rounds_on, reciprocals_on}
use Rattle.laws.proofs.positions.BestPlace.{text_of}
use Rattle.laws.proofs.positions.Coded.{read_again}
use Rattle.laws.proofs.positions.RoundsOn.{rounds_on_length}
use Rattle.laws.proofs.positions.WordReciprocals.{to_bind_are, reciprocals_fit}
use Rattle.laws.proofs.positions.WordRounds.{InCode, written, written_complete, rounds_words_are}
use Rattle.reciprocals.proofs.bindings.Parts.{bound_are_settled}
use Rattle.rounds.specs.Rounds.{all_rounds}
use Rattle.laws.specs.switches.Switches.{arm_count}
use Rattle.laws.specs.switches.Columns.{column_words}
use Rattle.fusion.specs.Settled.{Walked, numbered_groups}
use Rattle.fusion.specs.Words.{all_numbers}
use Rattle.fusion.specs.Whole.{divisors_of, settled_roots, scope_groups, scope_stmts}
use Rattle.fusion.proofs.Whole.{rounds_then}
use Rattle.fusion.specs.place.Parts.{reciprocals_first, held_words}
use Rattle.fusion.specs.place.Whole.{Told, stmts_order, room_for, fused_scope}
use Rattle.scope_laws.specs.told.Told.{told}
use Rattle.scope_laws.proofs.told.Groups.{places_of, OpensGroup}
use Rattle.scope_laws.proofs.told.Walking.{Proper}
use Rattle.scope_laws.proofs.told.Fusing.{left_is, fused_is}
use Rattle.spec_tree.proofs.Outcomes.{then_then, then_known}

-- ---- the trees that a scope settles are within the code

module _ (name_at : ℕ → List ℕ) (k first : ℕ) (vs : List ℕ) (m : ℕ) (complete : trees_in vs ≡ some m) where
  abbrev ts : List Tree
  ts = read numbered vs

  abbrev ds : List Tree
  ds = map (numbered_at vs) (divisors_to_bind vs name_at true)

  abbrev n : ℕ
  n = next_number k first (read numbered vs)

  -- the divisors that a scope binds are those at the places
  pub divisors_are : divisors_of (text_of vs name_at) (read numbered vs) ≡ map (numbered_at vs) (divisors_to_bind vs name_at true)
  unfolding divisors_of
  divisors_are = to_bind_are vs name_at m complete true

  bound : reciprocals_on (text_of vs name_at) true k first ts ≡ bind_each_on ds n ts
  unfolding reciprocals_on
  bound = ap (λ (l : List Tree). bind_each_on l n ts) (to_bind_are vs name_at m complete true)

  pub roots_fit :
      InCode (settled_roots (map (numbered_at vs) (divisors_to_bind vs name_at true)) (next_number k first (read numbered vs)) (read numbered vs))
  unfolding settled_roots
  roots_fit = subst InCode (bound ∙ bound_are_settled ds n ts) (reciprocals_fit name_at true k first vs m complete)

-- ---- what a scope's arms and order owe, for the words that its rounds leave

module _ (rows : List Row) (k first : ℕ) (vs : List ℕ) where
  abbrev bind_at : List ℕ
  bind_at = divisors_to_bind vs (name_in rows) true

  abbrev hs : List ℕ
  hs = held_words vs k first bind_at

  abbrev pub HasRoom : ℕ → Type 0
  HasRoom left = T (room_for left vs k first bind_at)

  -- the rows that are left for its arms
  abbrev pub rows_after : ℕ → ℕ
  rows_after left = left - length (held_words vs k first (divisors_to_bind vs (name_in rows) true))

  module _ (scope : ℕ → List Tree → Outcome Scoped) where
    -- the table of bits gives the order of the needs
    abbrev pub OrderAgrees : Type 0
    OrderAgrees =
        (l : Walked)
        → numbered_groups scope (reciprocals_first vs k first bind_at + length bind_at)
        (scope_groups (map (numbered_at vs) bind_at) (next_number k first (read numbered vs)) (read numbered vs))
        ≡ ok l
        → stmts_order vs k first bind_at (all_numbers l.groups)
        ≡ reverse
        (positions_taken
        (needs (scope_stmts k first (read numbered vs) (map (numbered_at vs) bind_at) l.groups) (scope_stmts k first (read numbered vs) (map (numbered_at vs) bind_at) l.groups)))

    -- each arm's scope is the same on words as by trees
    abbrev pub ArmsAgree : (ℕ → List ℕ → Outcome Told) → Type 0
    ArmsAgree by_words =
        (n i a : ℕ) → reciprocals_first vs k first bind_at + length bind_at ≤ n → OpensGroup hs i → a < arm_count hs (get_or (places_of hs i) 0 0)
        → by_words n (column_words hs (places_of hs i) a) ≡ (scope n (read numbered (column_words hs (places_of hs i) a)) >>= λ s. ok (told value_row s))

-- ---- rounds, and then what comes after them

module _
    (rows : List Row) (scope : ℕ → ℕ → List Tree → Outcome Scoped) (proper : (i n : ℕ) (es : List Tree) → Good (Proper n es) (scope i n es))
    (by_words : ℕ → ℕ → List ℕ → Outcome Told) (left next : ℕ) (ws : List ℕ) (m : ℕ) (complete : trees_in ws ≡ some m)
    (agree : (vs : List ℕ) → all_rounds rows true next ws ≡ ok vs → HasRoom rows (length (read numbered ws)) next vs left
    → let i = rows_after rows (length (read numbered ws)) next vs left in
    ArmsAgree rows (length (read numbered ws)) next vs (scope i) (by_words i) × OrderAgrees rows (length (read numbered ws)) next vs (scope i))
    (row : ℕ)
  where
    abbrev names : ℕ → List ℕ
    names = name_in rows

    abbrev text : Tree → List ℕ
    text = text_of [] (name_in rows)

    abbrev es : List Tree
    es = read numbered ws

    abbrev k : ℕ
    k = length (read numbered ws)

    abbrev trees_left : Outcome (List Tree)
    trees_left = rounds_on text (all_operations es) true k next es

    -- what comes after the rounds, on words and by trees
    abbrev on_words : List ℕ → Outcome Told
    on_words vs = fused_scope (by_words (rows_after rows k next vs left)) left row vs k next (divisors_to_bind vs (name_in rows) true)

    abbrev fused : ℕ → State → Outcome Scoped
    fused x s = fuse_held (scope (left_after left x s)) left x s

    abbrev on_trees : List Tree → Outcome Scoped
    on_trees us = fused (length (drop k us)) (state_of k next (bind_each_on (divisors_of text us) (next_number k next us) us))

    same_after :
        (us : List Tree) → InCode us → k ≤ length us → all_rounds rows true next ws ≡ ok (written us) → on_words (written us) ≡ (on_trees us >>= λ a. ok (told row a))
    same_after us code long e =
        let vs = written us in
        let back = read_again us code in
        let c = written_complete us code in
        let i = rows_after rows k next vs left in
        let places = divisors_to_bind vs names true in
        let enough = subst (λ (l : List Tree). k ≤ length l) (sym back) long in
        let fit = roots_fit names k next vs (length us) c in
        let x = length (drop k (read numbered vs)) in
        let state : List Tree → State = λ ds. state_of k next (bind_each_on ds (next_number k next (read numbered vs)) (read numbered vs)) in
        fused_is (scope i) (proper i) (by_words i) left vs k next places enough fit (λ room. (agree vs e room).0) (λ room. (agree vs e room).1) row
        ∙ (ap (λ (j : ℕ). fuse_held (scope j) left x (state (map (numbered_at vs) places)) >>= λ a. ok (told row a))
        (left_is (scope i) (proper i) (by_words i) left vs k next places enough fit)
        ∙ (ap (λ (ds : List Tree). fused x (state ds) >>= λ a. ok (told row a)) (sym (divisors_are names k next vs (length us) c))
        ∙ ap (λ (l : List Tree). on_trees l >>= λ a. ok (told row a)) back))

    rounds_are : all_rounds rows true next ws ≡ (trees_left >>= λ us. ok (written us))
    unfolding all_rounds
    rounds_are = (rounds_words_are names (all_operations es) true k next ws m complete).1

    -- the law of a scope after its test
    pub body_is :
        (all_rounds rows true next ws >>= λ vs.
        fused_scope (by_words (rows_after rows (length (read numbered ws)) next vs left)) left row vs (length (read numbered ws)) next (divisors_to_bind vs (name_in rows) true))
        ≡ ((extract_all_by (text_of [] (name_in rows)) true next (read numbered ws) >>= λ s.
        let t = reciprocals_by (text_of [] (name_in rows)) true s in
        fuse_held (scope (left_after left (length s.lets) t)) left (length s.lets) t) >>= λ a. ok (told row a))
    body_is =
        ap (λ (o : Outcome (List ℕ)). o >>= on_words) rounds_are
        ∙ (then_then trees_left (λ us. ok (written us)) on_words
        ∙ (then_known trees_left (λ us. on_words (written us)) (λ us. on_trees us >>= λ a. ok (told row a))
        (λ us e.
        same_after us (good_at InCode trees_left us e (rounds_words_are names (all_operations es) true k next ws m complete).0)
        (good_at (λ (l : List Tree). k ≤ length l) trees_left us e (rounds_on_length text (all_operations es) true k next es (omega arith)))
        (rounds_are ∙ ap (λ (o : Outcome (List Tree)). o >>= λ us. ok (written us)) e))
        ∙ (sym (then_then trees_left on_trees (λ a. ok (told row a)))
        ∙ ap (λ (o : Outcome Scoped). o >>= λ a. ok (told row a)) (sym (rounds_then fused text next es)))))
