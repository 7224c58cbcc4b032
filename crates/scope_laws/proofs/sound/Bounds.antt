-- Bounds on a scope's answer (01, "Scoped fusion", refusal 23): its numbers stay below 2^32, its statements are at most 2,048, and its rows are paid for by the scope
-- itself and by the numbers that it takes, so that no sum of rows comes near 2^63. The same for some arms of a group and for some groups. Assumes nothing.
use Prim.Native.Nat.{ℕ, zero, suc, ◌+◌, ◌*◌, ◌-◌, ◌≤◌, ◌<◌}
use native.Mathlib.Omega.{arith}
use mathlib.Core.Path.{◌≡◌, refl, sym, ap}
use mathlib.Core.Bool.{Bool, true, false, ◌&&◌, cond}
use mathlib.Core.Option.{some}
use mathlib.Core.List.{List, [], ◌∷◌, ◌++◌}
use borrow.Author.Tests.{eqb-true}
use lib.ListN.{length, get_or, take, length-append, length-drop}
use lib.Seq.{take-length}
use lib.Dec.{T, eqb, leb, leb→le}
use Rattle.spec_tree.specs.Bytes.{every}
use Rattle.spec_tree.specs.Outcome.{Refusal, Outcome, ok, refused, by, ◌>>=◌}
use Rattle.spec_tree.specs.Rows.{Row}
use Rattle.spec_tree.specs.Tokens.{word, read, numbered, name_in, trees_in}
use Rattle.spec_tree.proofs.Logic.{and_left, and_right}
use Rattle.spec_cse.specs.AnswerRows.{arm_row, value_row}
use Rattle.spec_cse.specs.Scope.{most_number}
use Rattle.laws.proofs.cse.Outcomes.{Good, then_good, good_ok, good_at}
use Rattle.laws.specs.positions.Names.{symbols_pass}
use Rattle.laws.specs.positions.Places.{divisors_to_bind}
use Rattle.laws.specs.positions.Rounds.{next_number}
use Rattle.laws.proofs.positions.Extraction.{Every, every_append}
use Rattle.rounds.specs.kept.Sound.{extractable}
use Rattle.rounds.proofs.kept.Steps.{ready_of}
use Rattle.fmt.specs.checked.Check.{word_ok}
use Rattle.rounds.specs.Rounds.{all_rounds}
use Rattle.laws.specs.switches.Switches.{arm_count}
use Rattle.laws.specs.switches.Columns.{column_words}
use Rattle.laws.proofs.switches.Turned.{Armed}
use Rattle.laws.proofs.switches.Grouped.{every_so}
use Rattle.laws.proofs.switches.GroupColumns.{every_at}
use Rattle.fusion.specs.Words.{numbers_from}
use Rattle.fusion.proofs.Members.{numbers_count}
use Rattle.fusion.specs.place.Parts.{place_groups, joined_groups, group_at, group_start, reciprocals_first, held_words, match_run}
use Rattle.fusion.specs.place.Whole.{Told, ArmsTold, Walk, arms_told, group_told, walked, stmts_count, tree_run, stmts_order, stmts_runs, values_runs, ordered_scope, room_for, fused_scope, scope_told}
use Rattle.fusion.proofs.place.Room.{switches_few, stmts_few}
use Rattle.scope_laws.proofs.sound.Columns.{armed_past, column_sound, column_pass, Fused, group_fused}
use Rattle.scope_laws.proofs.sound.Rounds.{rounds_sound, rounds_short, rounds_pass, rounds_results}
use Rattle.scope_laws.proofs.sound.Sums.{sum_each, each_append}
use Rattle.scope_laws.proofs.sound.Counting.{arms_some, places_there, held_extractable, held_passes, held_words_ok, first_lets, last_most, trees_few, places_small, members_few, made_are}
use Rattle.scope_laws.proofs.sound.Sizes.{tree_run_length, match_run_length, stmts_length, values_length}

-- the rows that a scope may have beside those that its numbers pay for, and what a number pays for
abbrev pub per_scope : ℕ
per_scope = 3721037

abbrev pub per_number : ℕ
per_number = 67108864

-- the rows of a match beside its arms': its own, those of its key, and one for each member
abbrev pub per_match : ℕ
per_match = 5570

-- ---- what is bounded

-- a scope's answer, from the number that it starts with
pub record ScopeBound (from : ℕ) (a : Told) : Type 0 where
  pub low : from ≤ most_number
  pub forth : from ≤ a.next
  pub most : a.next ≤ most_number + 2048
  pub made : from + a.extracted ≤ a.next
  pub few : a.steps ≤ 2048
  pub rows : length a.words + per_number * from ≤ per_scope + per_number * a.next

-- the first n arms of a group, from the number after its members'
pub record ArmsBound (from n : ℕ) (a : ArmsTold) : Type 0 where
  pub low : 1 ≤ n → from ≤ most_number
  pub forth : from ≤ a.next
  pub most : (x : ℕ) → from ≤ x → most_number + 2048 ≤ x → a.next ≤ x
  pub made : from + a.extracted ≤ a.next
  pub rows : length a.words + per_number * from ≤ suc per_scope * n + per_number * a.next

-- the first n groups, from the number after lets and reciprocals
pub record WalkBound (gs : List (List ℕ)) (from n : ℕ) (l : Walk) : Type 0 where
  pub forth : from ≤ l.next
  pub most : (x : ℕ) → from ≤ x → most_number + 2048 ≤ x → l.next ≤ x
  pub made : from + l.extracted ≤ l.next
  pub arms_many : length l.arms ≡ n
  pub numbers_many : length l.numbers ≡ group_start gs n
  pub numbers_between : Every (λ (j : ℕ). (from ≤ j) × (j < l.next)) l.numbers
  pub rows : sum_each (λ (run : List ℕ). per_match + length run) l.arms + per_number * from ≤ per_number * l.next

-- ---- members before a group

joined_none : joined_groups [] ≡ []
unfolding joined_groups
joined_none = refl

joined_more : (g : List ℕ) (gs : List (List ℕ)) → joined_groups (g ∷ gs) ≡ g ++ joined_groups gs
unfolding joined_groups
joined_more g gs = refl

pub start_none : (gs : List (List ℕ)) → group_start gs 0 ≡ 0
unfolding group_start joined_groups
start_none gs = refl

joined_next : (gs : List (List ℕ)) (n : ℕ) → n < length gs → length (joined_groups (take (suc n) gs)) ≡ length (joined_groups (take n gs)) + length (get_or gs n [])
joined_next [] n h = absurd (omega arith)
joined_next (g ∷ gs) zero h =
    let a = ap length (joined_more g []) in
    let b = ap length joined_none in
    let c = length-append g (joined_groups []) in
    omega (arith, a, b, c)
joined_next (g ∷ gs) (suc n) h =
    let a = ap length (joined_more g (take (suc n) gs)) in
    let b = ap length (joined_more g (take n gs)) in
    let c = length-append g (joined_groups (take (suc n) gs)) in
    let d = length-append g (joined_groups (take n gs)) in
    omega (arith, a, b, c, d, joined_next gs n (omega arith))

pub start_next : (gs : List (List ℕ)) (n : ℕ) → n < length gs → group_start gs (suc n) ≡ group_start gs n + length (group_at gs n)
unfolding group_start group_at
start_next gs n h = joined_next gs n h

pub start_all : (gs : List (List ℕ)) → group_start gs (length gs) ≡ length (joined_groups gs)
unfolding group_start
start_all gs = ap (λ (l : List (List ℕ)). length (joined_groups l)) (take-length gs)

pub group_within : (gs : List (List ℕ)) (n : ℕ) → length (group_at gs n) ≤ length (joined_groups gs)
unfolding group_at
group_within gs n = go gs n
  where
    go : (l : List (List ℕ)) (i : ℕ) → length (get_or l i []) ≤ length (joined_groups l)
    go [] i = omega arith
    go (g ∷ l) zero = (let a = ap length (joined_more g l) in let b = length-append g (joined_groups l) in omega arith)
    go (g ∷ l) (suc i) = (let a = ap length (joined_more g l) in let b = length-append g (joined_groups l) in let r = go l i in omega arith)

-- ---- arms and groups, given what an arm's scope gives

numbers_bound : (from to n k : ℕ) → from ≤ n → n + k ≤ to → Every (λ (j : ℕ). (from ≤ j) × (j < to)) (numbers_from n k)
unfolding numbers_from
numbers_bound from to n zero g h = tt
numbers_bound from to n (suc k) g h = ((omega arith, omega arith), numbers_bound from to (suc n) k (omega arith) (omega arith))

module _ (rows : List Row) (good : ℕ → Bool) (scope : ℕ → List ℕ → Outcome Told) where
  -- what an arm's scope gives is bounded, if its words are sound
  abbrev pub BoundsAll : Type 0
  BoundsAll = (n : ℕ) (cs : List ℕ) → T (extractable rows n cs) → T (symbols_pass good cs) → Good (ScopeBound n) (scope n cs)

  module _ (bounded : BoundsAll) (from : ℕ) (hs : List ℕ) (sound : T (extractable rows from hs)) (pass : T (symbols_pass good hs)) where
    abbrev trees : ℕ
    trees = (ready_of rows from hs sound).trees

    abbrev complete : trees_in hs ≡ some trees
    complete = (ready_of rows from hs sound).complete

    one_arm :
        (start n : ℕ) (g : List ℕ) (r : ArmsTold) (a : Told) → ArmsBound start n r → ScopeBound r.next a
        → ArmsBound start (suc n) (record { words = r.words ++ (word arm_row (a.steps + length g) ∷ a.words); next = a.next; extracted = r.extracted + a.extracted })
    one_arm start n g r a f b =
        let l = length-append r.words (word arm_row (a.steps + length g) ∷ a.words) in
        let p = f.rows in
        let q = b.rows in
        let low = b.low in
        let x = f.forth in
        let y = b.forth in
        let u = f.made in
        let v = b.made in
        let most = b.most in
        record {
          low = λ h. omega (arith, low, x);
          forth = omega (arith, x, y);
          most = λ i h j. omega (arith, most, j);
          made = omega (arith, u, v);
          rows = omega (arith, l, p, q);
        }

    pub arms_bounded :
        (g : List ℕ) → Fused hs g → (start : ℕ) → from ≤ start → (n : ℕ) → n ≤ arm_count hs (get_or g 0 0) → Good (ArmsBound start n) (arms_told scope hs g start n)
    unfolding arms_told
    arms_bounded g f start s zero h =
        good_ok (ArmsBound start 0) (record { words = []; next = start; extracted = 0 })
        (record { low = λ i. absurd (omega arith); forth = omega arith; most = λ x i j. i; made = omega arith; rows = omega arith })
    arms_bounded g f start s (suc n) h =
        let past = armed_past hs (arm_count hs (get_or g 0 0)) n (omega arith) g f.armed in
        then_good (ArmsBound start n) (ArmsBound start (suc n)) (arms_told scope hs g start n) (arms_bounded g f start s n (omega arith))
        (λ r. scope r.next (column_words hs g n) >>= λ a.
        ok (record { words = r.words ++ (word arm_row (a.steps + length g) ∷ a.words); next = a.next; extracted = r.extracted + a.extracted }))
        (λ r b.
        let forth = b.forth in
        let more : from ≤ r.next = omega (arith, s, forth) in
        then_good (ScopeBound r.next) (ArmsBound start (suc n)) (scope r.next (column_words hs g n))
        (bounded r.next (column_words hs g n) (column_sound rows good from hs sound pass r.next more g n past) (column_pass rows good from hs sound pass r.next more g n past))
        (λ a. ok (record { words = r.words ++ (word arm_row (a.steps + length g) ∷ a.words); next = a.next; extracted = r.extracted + a.extracted }))
        (λ a c.
        good_ok (ArmsBound start (suc n)) (record { words = r.words ++ (word arm_row (a.steps + length g) ∷ a.words); next = a.next; extracted = r.extracted + a.extracted })
        (one_arm start n g r a b c)))

    -- a group has a member, and its match an arm at least and 17 at most
    group_arms : T (every (word_ok rows) hs) → (g : List ℕ) → Fused hs g → (1 ≤ arm_count hs (get_or g 0 0)) × (arm_count hs (get_or g 0 0) ≤ 17)
    group_arms words g f = arms_some rows hs words (get_or g 0 0) (every_at (Armed hs (arm_count hs (get_or g 0 0))) 0 g f.armed 0 (omega (arith, f.some_member))).0

    module _ (words : T (every (word_ok rows) hs)) where
      pub group_bounded :
          (g : List ℕ) → Fused hs g → (start : ℕ) → from ≤ start
          → Good (ArmsBound (start + length g) (arm_count hs (get_or g 0 0))) (group_told scope hs g start)
      unfolding group_told
      group_bounded g f start s = arms_bounded g f (start + length g) (omega arith) (arm_count hs (get_or g 0 0)) (omega arith)

      abbrev gs : List (List ℕ)
      gs = place_groups hs

      abbrev with_group : ℕ → Walk → ArmsTold → Walk
      with_group n r a =
          record {
            numbers = r.numbers ++ numbers_from r.next (length (group_at gs n));
            arms = r.arms ++ (a.words ∷ []);
            next = a.next;
            extracted = r.extracted + a.extracted;
          }

      between_more : (to more : ℕ) (l : List ℕ) → to ≤ more → Every (λ (j : ℕ). (from ≤ j) × (j < to)) l → Every (λ (j : ℕ). (from ≤ j) × (j < more)) l
      between_more to more l h e =
          every_so (λ (j : ℕ). (from ≤ j) × (j < to)) (λ (j : ℕ). (from ≤ j) × (j < more)) (λ j b. (b.0, (let c = b.1 in omega arith))) l e

      one_run : (run : List ℕ) → sum_each (λ (r : List ℕ). per_match + length r) (run ∷ []) ≡ per_match + length run
      unfolding sum_each
      one_run run = omega arith

      one_group :
          (n : ℕ) → n < length gs → (r : Walk) (a : ArmsTold) → WalkBound gs from n r
          → ArmsBound (r.next + length (group_at gs n)) (arm_count hs (get_or (group_at gs n) 0 0)) a → WalkBound gs from (suc n) (with_group n r a)
      one_group n h r a w b =
          let g = group_at gs n in
          let f = group_fused hs trees complete n h in
          let c = group_arms words g f in
          let some_arm = c.0 in
          let few_arms = c.1 in
          let member = f.some_member in
          let low = b.low some_arm in
          let forth = b.forth in
          let before = w.forth in
          let made = b.made in
          let made_before = w.made in
          let p = w.rows in
          let q = b.rows in
          let s = each_append (λ (run : List ℕ). per_match + length run) r.arms (a.words ∷ []) in
          let o = one_run a.words in
          let l = length-append r.arms (a.words ∷ []) in
          let m = w.arms_many in
          let k = length-append r.numbers (numbers_from r.next (length g)) in
          let i = numbers_count r.next (length g) in
          let t = start_next gs n h in
          let u = w.numbers_many in
          record {
            forth = omega (arith, forth, before);
            most = λ x e d. b.most x (omega (arith, low, d)) d;
            made = omega (arith, made, made_before);
            arms_many = omega (arith, l, m);
            numbers_many = omega (arith, k, i, t, u);
            numbers_between =
                every_append (λ (j : ℕ). (from ≤ j) × (j < a.next)) r.numbers (numbers_from r.next (length g))
                (between_more r.next a.next r.numbers (omega (arith, forth)) w.numbers_between)
                (numbers_bound from a.next r.next (length g) before forth);
            rows = omega (arith, p, q, s, o, few_arms, member);
          }

      no_run : sum_each (λ (r : List ℕ). per_match + length r) [] ≡ 0
      unfolding sum_each
      no_run = refl

      pub walk_bounded : (n : ℕ) → n ≤ length (place_groups hs) → Good (WalkBound (place_groups hs) from n) (walked scope hs (place_groups hs) from n)
      unfolding walked
      walk_bounded zero h =
          good_ok (WalkBound gs from 0) (record { numbers = []; arms = []; next = from; extracted = 0 })
          (record {
            forth = omega arith;
            most = λ x i j. i;
            made = omega arith;
            arms_many = refl;
            numbers_many = sym (start_none gs);
            numbers_between = tt;
            rows = omega (arith, no_run);
          })
      walk_bounded (suc n) h =
          then_good (WalkBound gs from n) (WalkBound gs from (suc n)) (walked scope hs gs from n) (walk_bounded n (omega arith))
          (λ r. group_told scope hs (group_at gs n) r.next >>= λ a. ok (with_group n r a))
          (λ r w.
          then_good (ArmsBound (r.next + length (group_at gs n)) (arm_count hs (get_or (group_at gs n) 0 0))) (WalkBound gs from (suc n)) (group_told scope hs (group_at gs n) r.next)
          (group_bounded (group_at gs n) (group_fused hs trees complete n (omega arith)) r.next w.forth) (λ a. ok (with_group n r a))
          (λ a b. good_ok (WalkBound gs from (suc n)) (with_group n r a) (one_group n (omega arith) r a w b)))

-- ---- a scope

known : {A : Type 0} (o : Outcome A) → Good (λ (a : A). o ≡ ok a) o
unfolding Good
known (ok a) = refl
known (refused i) = tt

tested : {A : Type 0} (Q : A → Type 0) (b : Bool) (o : Outcome A) (i : Refusal) → (T b → Good Q o) → Good Q (cond b o (refused i))
unfolding Good
tested Q true o i h = h tt
tested Q false o i h = tt

so : (b : Bool) → T b → b ≡ true
so true t = refl
so false t = absurd t

-- after the rounds, which leave k results and lets numbered from `first` on
module _ (rows : List Row) (good : ℕ → Bool) (k first : ℕ) (vs : List ℕ) (sound : T (extractable rows (next_number k first (read numbered vs)) vs)) (pass : T (symbols_pass good vs)) where
  abbrev ps : List ℕ
  ps = divisors_to_bind vs (name_in rows) true

  abbrev hs : List ℕ
  hs = held_words vs k first ps

  abbrev start : ℕ
  start = reciprocals_first vs k first ps + length ps

  abbrev held_sounds : T (extractable rows start hs)
  held_sounds = held_extractable rows good k first vs sound pass

  module _ (short : length vs ≤ 1927) (results : k ≤ length (read numbered vs)) (low : first ≤ most_number) where
    module _ (left : ℕ) (room : T (room_for left vs k first ps)) (l : Walk) (w : WalkBound (place_groups hs) start (length (place_groups hs)) l) where
      lets_short : (i : ℕ) → suc (length (tree_run vs k first ps l.numbers i)) ≤ 1930
      lets_short i =
          let r = ready_of rows (next_number k first (read numbered vs)) vs sound in
          let t = tree_run_length vs r.trees r.complete k first ps (places_there rows good k first vs sound pass) l.numbers i in
          omega (arith, t, short)

      matches_short : (run : List ℕ) (g : ℕ) → g < length (place_groups hs) → length (match_run hs (place_groups hs) l.numbers run g) ≤ per_match + length run
      matches_short run g h =
          let m = match_run_length hs 1929 (places_small rows good k first vs sound pass short) (place_groups hs) l.numbers run g in
          let a = group_within (place_groups hs) g in
          let b = members_few rows good k first vs sound pass (switches_few left vs k first ps room) in
          omega (arith, m, a, b)

      pub ordered_bounded : (row : ℕ) → Good (ScopeBound first) (ordered_scope row vs k first ps l)
      unfolding ordered_scope
      ordered_bounded row =
          let order = stmts_order vs k first ps l.numbers in
          let count = stmts_count vs k first ps l.numbers in
          let stmts = stmts_runs vs k first ps l.numbers l.arms order count in
          let values = values_runs vs k first ps l.numbers row k in
          tested (ScopeBound first) (eqb (length order) count)
          (ok (record { words = stmts ++ values; steps = count; next = l.next; extracted = (length (read numbered vs) - k) + l.extracted })) (by 11)
          (λ t.
          good_ok (ScopeBound first) (record { words = stmts ++ values; steps = count; next = l.next; extracted = (length (read numbered vs) - k) + l.extracted })
          (bound row (eqb-true (length order) count (so (eqb (length order) count) t))))
        where
          bound :
              (row : ℕ) → length (stmts_order vs k first ps l.numbers) ≡ stmts_count vs k first ps l.numbers
              → ScopeBound first
              (record {
                words =
                    stmts_runs vs k first ps l.numbers l.arms (stmts_order vs k first ps l.numbers) (stmts_count vs k first ps l.numbers)
                    ++ values_runs vs k first ps l.numbers row k;
                steps = stmts_count vs k first ps l.numbers;
                next = l.next;
                extracted = (length (read numbered vs) - k) + l.extracted;
              })
          bound row e =
              let stmts = stmts_runs vs k first ps l.numbers l.arms (stmts_order vs k first ps l.numbers) (stmts_count vs k first ps l.numbers) in
              let values = values_runs vs k first ps l.numbers row k in
              let a = length-append stmts values in
              let b = stmts_length vs k first ps l.numbers l.arms 1930 per_match lets_short matches_short e w.arms_many in
              let c = values_length vs k first ps l.numbers l.arms 1930 per_match lets_short matches_short row k in
              let d = first_lets rows good k first vs sound pass in
              let f = last_most rows good k first vs sound pass short in
              let g = made_are rows good k first vs sound pass in
              let h = length-drop k (read numbered vs) in
              let i = trees_few rows good k first vs sound pass short in
              let forth = w.forth in
              let made = w.made in
              let paid = w.rows in
              record {
                low = low;
                forth = omega (arith, d, forth);
                most = w.most (most_number + 2048) (omega (arith, f, low)) (omega arith);
                made = omega (arith, made, d, g, h);
                few = stmts_few left vs k first ps room l.numbers;
                rows = omega (arith, a, b, c, d, i, results, paid);
              }

    module _ (scope : ℕ → List ℕ → Outcome Told) (bounded : BoundsAll rows good scope) where
      -- its groups in order
      pub groups_bounded : (n : ℕ) → n ≤ length (place_groups hs) → Good (WalkBound (place_groups hs) start n) (walked scope hs (place_groups hs) start n)
      groups_bounded n h =
          walk_bounded rows good scope bounded start hs held_sounds (held_passes rows good k first vs sound pass) (held_words_ok rows good k first vs sound pass) n h

      pub fused_bounded : (left row : ℕ) → Good (ScopeBound first) (fused_scope scope left row vs k first ps)
      unfolding fused_scope
      fused_bounded left row =
          tested (ScopeBound first) (room_for left vs k first ps) (walked scope hs (place_groups hs) start (length (place_groups hs)) >>= λ l. ordered_scope row vs k first ps l) (by 23)
          (λ t.
          then_good (WalkBound (place_groups hs) start (length (place_groups hs))) (ScopeBound first) (walked scope hs (place_groups hs) start (length (place_groups hs)))
          (groups_bounded (length (place_groups hs)) (omega arith)) (λ l. ordered_scope row vs k first ps l) (λ l w. ordered_bounded left t l w row))

-- ---- a whole scope, arms and all

module _ (rows : List Row) (good : ℕ → Bool) where
  pub scope_bounded :
      (fuel left row next : ℕ) (ws : List ℕ) → T (extractable rows next ws) → T (symbols_pass good ws) → Good (ScopeBound next) (scope_told rows fuel left row next ws)
  unfolding scope_told Good
  scope_bounded zero left row next ws sound pass = tt
  scope_bounded (suc fuel) left row next ws sound pass =
      let k = length (read numbered ws) in
      let places : List ℕ → List ℕ = λ vs. divisors_to_bind vs (name_in rows) true in
      let after : List ℕ → ℕ = λ vs. left - length (held_words vs k next (places vs)) in
      let fused : List ℕ → Outcome Told = λ vs. fused_scope (λ n cs. scope_told rows fuel (after vs) value_row n cs) left row vs k next (places vs) in
      tested (ScopeBound next) (leb (length ws) left && (leb (length ws) 1927 && leb next most_number)) (all_rounds rows true next ws >>= fused) (by 23)
      (λ both.
      let t = and_right (leb (length ws) left) (leb (length ws) 1927 && leb next most_number) both in
      let few = leb→le (length ws) 1927 (and_left (leb (length ws) 1927) (leb next most_number) t) in
      let low = leb→le next most_number (and_right (leb (length ws) 1927) (leb next most_number) t) in
      then_good (λ (vs : List ℕ). all_rounds rows true next ws ≡ ok vs) (ScopeBound next) (all_rounds rows true next ws) (known (all_rounds rows true next ws))
      fused
      (λ vs e.
      let short = rounds_short rows true good next ws sound pass vs e in
      fused_bounded rows good k next vs (rounds_sound rows true good next ws sound pass vs e) (rounds_pass rows true good next ws sound pass vs e)
      (omega (arith, few, short)) (rounds_results rows true good next ws sound pass vs e) low (λ n cs. scope_told rows fuel (after vs) value_row n cs)
      (λ n cs s p. scope_bounded fuel (after vs) value_row n cs s p) left row))

  -- an answer that was given
  pub scope_bound :
      (fuel left row next : ℕ) (ws : List ℕ) → T (extractable rows next ws) → T (symbols_pass good ws) → (a : Told) → scope_told rows fuel left row next ws ≡ ok a → ScopeBound next a
  scope_bound fuel left row next ws sound pass a e = good_at (ScopeBound next) (scope_told rows fuel left row next ws) a e (scope_bounded fuel left row next ws sound pass)

  module _ (fuel left from : ℕ) (hs : List ℕ) (sound : T (extractable rows from hs)) (pass : T (symbols_pass good hs)) where
    abbrev inner : ℕ → List ℕ → Outcome Told
    inner n cs = scope_told rows fuel left value_row n cs

    inner_bounded : BoundsAll rows good inner
    inner_bounded n cs s p = scope_bounded fuel left value_row n cs s p

    -- the first n arms of a group that were given
    pub arms_bound :
        (g : List ℕ) → Fused hs g → (start : ℕ) → from ≤ start → (n : ℕ) → n ≤ arm_count hs (get_or g 0 0) → (a : ArmsTold)
        → arms_told (λ n cs. scope_told rows fuel left value_row n cs) hs g start n ≡ ok a → ArmsBound start n a
    arms_bound g f start s n h a e =
        good_at (ArmsBound start n) (arms_told inner hs g start n) a e (arms_bounded rows good inner inner_bounded from hs sound pass g f start s n h)

    -- the first n groups that were given
    pub walk_bound :
        T (every (word_ok rows) hs) → (n : ℕ) → n ≤ length (place_groups hs) → (l : Walk)
        → walked (λ n cs. scope_told rows fuel left value_row n cs) hs (place_groups hs) from n ≡ ok l → WalkBound (place_groups hs) from n l
    walk_bound words n h l e =
        good_at (WalkBound (place_groups hs) from n) (walked inner hs (place_groups hs) from n) l e (walk_bounded rows good inner inner_bounded from hs sound pass words n h)

-- ---- in figures

-- a scope's rows are below 2^58
pub rows_most : (from : ℕ) (a : Told) → ScopeBound from a → length a.words ≤ 288230376151711744
rows_most from a b = (let p = b.rows in let q = b.most in omega arith)

module _ (gs : List (List ℕ)) (from n : ℕ) (l : Walk) (b : WalkBound gs from n l) where
  pub walk_next_most : from ≤ most_number + 2048 → l.next ≤ most_number + 2048
  walk_next_most low = b.most (most_number + 2048) low (omega arith)

  -- each member's number is a word's to hold
  pub numbers_small : from ≤ most_number + 2048 → Every (λ (j : ℕ). j ≤ 549755813888) l.numbers
  numbers_small low =
      let q = walk_next_most low in
      every_so (λ (j : ℕ). (from ≤ j) × (j < l.next)) (λ (j : ℕ). j ≤ 549755813888) (λ j h. (let c = h.1 in omega (arith, c, q))) l.numbers b.numbers_between

  -- a number for each member
  pub numbers_all : n ≡ length gs → length l.numbers ≡ length (joined_groups gs)
  numbers_all e = (let a = b.numbers_many in let c : group_start gs n ≡ group_start gs (length gs) = ap (group_start gs) e in omega (arith, a, c, start_all gs))
