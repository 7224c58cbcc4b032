-- How many statements a scope has (01, "Scoped fusion"): in words that are whole trees each tree and each operand has its word, so that words with two operands or more are
-- few, and with them divisors and switches. Assumes nothing.
use Prim.Native.Nat.{ℕ, zero, suc, ◌+◌, ◌*◌, ◌≤◌, ◌<◌}
use native.Mathlib.Omega.{arith}
use mathlib.Core.Path.{◌≡◌, refl, sym, ◌∙◌, ap, subst}
use mathlib.Core.Bool.{Bool, true, false, ◌&&◌}
use mathlib.Core.Option.{some}
use mathlib.Core.List.{List, [], ◌∷◌, ◌++◌, map}
use borrow.Author.Tests.{eqb-true, eqb-false}
use lib.ListN.{length, get_or, drop, length-append, length-drop, length-map}
use lib.Dec.{T, eqb, leb, leb→le}
use Rattle.spec_tree.specs.Bytes.{every}
use Rattle.spec_tree.specs.Kinds.{Div, arity_ok, is_switch}
use Rattle.spec_tree.specs.Passes.{operands_ok}
use Rattle.spec_tree.specs.Tree.{Tree}
use Rattle.spec_tree.specs.Facts.{size}
use Rattle.spec_tree.specs.Rows.{Row}
use Rattle.spec_tree.specs.Tokens.{kind_of, below_of, takes, read, numbered, name_in, trees_in}
use Rattle.spec_tree.specs.text.Text.{before}
use Rattle.spec_tree.proofs.KindLaws.{arity_kind}
use Rattle.spec_tree.proofs.Logic.{and_left, and_right}
use Rattle.spec_tree.proofs.TokenLaws.{complete_tail, complete_length, operation_takes}
use Rattle.fmt.specs.checked.Check.{word_ok}
use Rattle.fmt.proofs.checked.RunLaws.{operation_word}
use Rattle.laws.specs.positions.Names.{symbols_pass}
use Rattle.laws.specs.positions.Rounds.{next_number}
use Rattle.laws.specs.positions.Places.{numbered_at, outside_at, divides_at, second_at, divisor_places, among_places, count_places, text_at, distinct_places, shared_places, insert_place, sort_places, divisors_to_bind}
use Rattle.laws.proofs.positions.Extraction.{Every}
use Rattle.reciprocals.proofs.bindings.Parts.{settle_tree, settled_reciprocals, AllThere}
use Rattle.reciprocals.proofs.bindings.There.{to_bind_there}
use Rattle.rounds.specs.kept.Sound.{extractable}
use Rattle.rounds.proofs.kept.Steps.{Ready, ready_of}
use Rattle.rounds.proofs.kept.Words.{words_taken}
use Rattle.fusion.specs.Switchless.{switchless, with_switches}
use Rattle.laws.specs.switches.Switches.{switch_at, arm_count, switches_passing, switch_places}
use Rattle.laws.proofs.switches.Collected.{Switching}
use Rattle.fusion.specs.place.Parts.{place_groups, joined_groups, trees_held, words_held, reciprocals_first, lets_count, held_words}
use Rattle.fusion.specs.place.Whole.{stmts_count}
use Rattle.fusion.proofs.place.Small.{Small, place_small, divisors_small, held_small}
use Rattle.scope_laws.proofs.sound.Held.{held_sound, held_pass, held_complete, held_read}
use Rattle.scope_laws.proofs.sound.Columns.{members_count, groups_count}
use Rattle.scope_laws.proofs.sound.Sums.{sum_first, sum_each, first_entries}
use Rattle.reciprocals.proofs.reciprocal.Made.{settled_long}
use Rattle.laws.proofs.cse.PassesLaws.{arity_of}

-- ---- operands and trees are words

no_words : (m : ℕ) → trees_in [] ≡ some m → m ≡ 0
unfolding trees_in
no_words m e = cc

pub takes_total : (ws : List ℕ) (m : ℕ) → trees_in ws ≡ some m → sum_each takes ws + m ≡ length ws
unfolding sum_each
takes_total [] m e = omega (arith, no_words m e)
takes_total (w ∷ ws) m e =
    let t = complete_tail w ws m e in
    let r = takes_total ws t.trees t.are in
    omega (arith, t.enough, t.left, r)

-- the operands of the first n words
abbrev pub taken_first : List ℕ → ℕ → ℕ
taken_first ws n = sum_first (λ i. takes (get_or ws i 0)) n

pub taken_all : (ws : List ℕ) (m : ℕ) → trees_in ws ≡ some m → taken_first ws (length ws) + m ≡ length ws
taken_all ws m e = omega (arith, takes_total ws m e, first_entries takes 0 ws)

-- ---- places of words with two operands

place_step : (b : Bool) (l : List ℕ) (q s w : ℕ) → 2 * length l ≤ s → (T b → 2 ≤ w) → 2 * length (l ++ elim b as (λ _. List ℕ) [ true ↦ q ∷ [] | false ↦ [] ]) ≤ s + w
place_step true l q s w h g = (let a = length-append l (q ∷ []) in let k = g tt in omega arith)
place_step false l q s w h g = (let a = length-append l [] in omega arith)

module _ (ws : List ℕ) where
  divides_two : (p : ℕ) → T (divides_at ws p) → 2 ≤ takes (get_or ws p 0)
  unfolding divides_at
  divides_two p t = leb→le 2 (takes (get_or ws p 0)) (and_right (eqb (kind_of (get_or ws p 0)) Div) (leb 2 (takes (get_or ws p 0))) t)

  divisors_two : (test : ℕ → Bool) (n : ℕ) → 2 * length (divisor_places ws test n) ≤ taken_first ws n
  unfolding divisor_places sum_first
  divisors_two test zero = omega arith
  divisors_two test (suc n) =
      place_step (test n && divides_at ws n) (divisor_places ws test n) (second_at ws n) (taken_first ws n) (takes (get_or ws n 0)) (divisors_two test n)
      (λ t. divides_two n (and_right (test n) (divides_at ws n) t))

  distinct_step : (b : Bool) (q : ℕ) (r s : List ℕ) (n : ℕ) → length r ≤ n → length s ≤ n → length {A = ℕ} (elim b as (λ _. List ℕ) [ true ↦ r | false ↦ q ∷ s ]) ≤ suc n
  distinct_step true q r s n g h = omega arith
  distinct_step false q r s n g h = omega arith

  pub distinct_few : (seen l : List ℕ) → length (distinct_places ws seen l) ≤ length l
  unfolding distinct_places
  distinct_few seen [] = omega arith
  distinct_few seen (q ∷ l) =
      distinct_step (among_places ws q seen) q (distinct_places ws seen l) (distinct_places ws (q ∷ seen) l) (length l) (distinct_few seen l) (distinct_few (q ∷ seen) l)

  shared_step : (b : Bool) (q : ℕ) (r : List ℕ) (n : ℕ) → length r ≤ n → length {A = ℕ} (elim b as (λ _. List ℕ) [ true ↦ q ∷ r | false ↦ r ]) ≤ suc n
  shared_step true q r n h = omega arith
  shared_step false q r n h = omega arith

  shared_few : (all out l : List ℕ) → length (shared_places ws all out l) ≤ length l
  unfolding shared_places
  shared_few all out [] = omega arith
  shared_few all out (q ∷ l) = shared_step (leb 2 (count_places ws q all) && leb 1 (count_places ws q out)) q (shared_places ws all out l) (length l) (shared_few all out l)

  module _ (name_at : ℕ → List ℕ) where
    insert_step : (b : Bool) (q r : ℕ) (l s : List ℕ) → length s ≡ suc (length l) → length {A = ℕ} (elim b as (λ _. List ℕ) [ true ↦ r ∷ s | false ↦ q ∷ (r ∷ l) ]) ≡ suc (suc (length l))
    insert_step true q r l s h = ap suc h
    insert_step false q r l s h = refl

    insert_length : (q : ℕ) (l : List ℕ) → length (insert_place ws name_at q l) ≡ suc (length l)
    unfolding insert_place
    insert_length q [] = refl
    insert_length q (r ∷ l) = insert_step (before (text_at ws name_at r) (text_at ws name_at q)) q r l (insert_place ws name_at q l) (insert_length q l)

    sort_length : (l : List ℕ) → length (sort_places ws name_at l) ≡ length l
    unfolding sort_places
    sort_length [] = refl
    sort_length (q ∷ l) = insert_length q (sort_places ws name_at l) ∙ ap suc (sort_length l)

    -- divisors to bind: each is the second operand of a division
    pub divisors_few : (scoped : Bool) (m : ℕ) → trees_in ws ≡ some m → 2 * length (divisors_to_bind ws name_at scoped) + m ≤ length ws
    unfolding divisors_to_bind
    divisors_few scoped m e =
        let all = divisor_places ws (λ j. true) (length ws) in
        let out = divisor_places ws (outside_at ws scoped) (length ws) in
        let once = distinct_places ws [] all in
        let a = sort_length (shared_places ws all out once) in
        let b = shared_few all out once in
        let c = distinct_few [] all in
        let d = divisors_two (λ j. true) (length ws) in
        let t = taken_all ws m e in
        omega (arith, a, b, c, d, t)

-- ---- switches

-- a kind with arms has a key and an arm at least, and 18 operands at most
kind_cases : (k : ℕ) → 26 ≤ k → k < 29 → (P : ℕ → Type 0) → P 26 → P 27 → P 28 → P k
kind_cases k h l P a b c = go (eqb k 26) (eqb k 27) refl refl
  where
    go : (x y : Bool) → eqb k 26 ≡ x → eqb k 27 ≡ y → P k
    go true y p q = subst P (sym (eqb-true k 26 p)) a
    go false true p q = subst P (sym (eqb-true k 27 q)) b
    go false false p q =
        let u = eqb-false k 26 p in
        let v = eqb-false k 27 q in
        let e : 28 ≡ k = omega (arith, u, v, h, l) in
        subst P e c

abbrev Arity : ℕ → Type 0
Arity k = (n : ℕ) → T (arity_ok k n) → (2 ≤ n) × (n ≤ 18)

branch_arity : Arity 26
unfolding arity_ok
branch_arity n t = (let a = leb→le 3 n (and_left (leb 3 n) (leb n 3) t) in let b = leb→le n 3 (and_right (leb 3 n) (leb n 3) t) in (omega arith, omega arith))

select_arity : Arity 27
unfolding arity_ok
select_arity n t = (let a = leb→le 2 n (and_left (leb 2 n) (leb n 17) t) in let b = leb→le n 17 (and_right (leb 2 n) (leb n 17) t) in (omega arith, omega arith))

default_arity : Arity 28
unfolding arity_ok
default_arity n t = (let a = leb→le 3 n (and_left (leb 3 n) (leb n 18) t) in let b = leb→le n 18 (and_right (leb 3 n) (leb n 18) t) in (omega arith, omega arith))

pub switch_arity : (k n : ℕ) → 26 ≤ k → T (arity_ok k n) → (2 ≤ n) × (n ≤ 18)
switch_arity k n h t = kind_cases k h (arity_kind k n t) Arity branch_arity select_arity default_arity n t

pub switch_takes : (rows : List Row) (w : ℕ) → 26 ≤ kind_of w → T (word_ok rows w) → (2 ≤ takes w) × (takes w ≤ 18)
switch_takes rows w h t =
    let o : T (operands_ok (kind_of w) (below_of w)) = subst T (operation_word rows w (λ e. omega (arith, h, e)) (λ e. omega (arith, h, e))) t in
    let a = arity_of (kind_of w) (below_of w) o in
    let s = switch_arity (kind_of w) (below_of w) h a in
    let e = operation_takes w (omega (arith, h)) in
    (let x = s.0 in omega (arith, x, e), let y = s.1 in omega (arith, y, e))

every_there : (p : ℕ → Bool) (ws : List ℕ) (i : ℕ) → i < length ws → T (every p ws) → T (p (get_or ws i 0))
unfolding every
every_there p [] i h t = absurd (omega arith)
every_there p (w ∷ ws) zero h t = and_left (p w) (every p ws) t
every_there p (w ∷ ws) (suc i) h t = every_there p ws i (omega arith) (and_right (p w) (every p ws) t)

module _ (rows : List Row) (ws : List ℕ) (words : T (every (word_ok rows) ws)) where
  -- a switch of words that print takes has an arm at least, and 17 at most
  pub switch_operands : (p : ℕ) → Switching ws p → (2 ≤ takes (get_or ws p 0)) × (takes (get_or ws p 0) ≤ 18)
  unfolding switch_at
  switch_operands p s =
      switch_takes rows (get_or ws p 0) (leb→le 26 (kind_of (get_or ws p 0)) (and_left (is_switch (kind_of (get_or ws p 0))) (leb 1 (takes (get_or ws p 0))) s.1))
      (every_there (word_ok rows) ws p s.0 words)

  pub arms_some : (p : ℕ) → Switching ws p → (1 ≤ arm_count ws p) × (arm_count ws p ≤ 17)
  unfolding arm_count
  arms_some p s = (let a = (switch_operands p s).0 in let b = (switch_operands p s).1 in (omega arith, omega arith))

  switches_two : (test : ℕ → Bool) (n : ℕ) → n ≤ length ws → 2 * length (switches_passing ws test n) ≤ taken_first ws n
  unfolding switches_passing sum_first
  switches_two test zero h = omega arith
  switches_two test (suc n) h =
      place_step (test n && switch_at ws n) (switches_passing ws test n) n (taken_first ws n) (takes (get_or ws n 0)) (switches_two test n (omega arith))
      (λ t. (switch_operands n (omega arith, and_right (test n) (switch_at ws n) t)).0)

  pub switches_few : (m : ℕ) → trees_in ws ≡ some m → 2 * length (switch_places ws) + m ≤ length ws
  unfolding switch_places
  switches_few m e =
      let a = distinct_few ws [] (switches_passing ws (outside_at ws true) (length ws)) in
      let b = switches_two (outside_at ws true) (length ws) (omega arith) in
      let t = taken_all ws m e in
      omega (arith, a, b, t)

-- ---- the statements of a scope

-- the words that rounds leave, and what is held of them
module _ (rows : List Row) (good : ℕ → Bool) (k first : ℕ) (vs : List ℕ) (sound : T (extractable rows (next_number k first (read numbered vs)) vs)) (pass : T (symbols_pass good vs)) where
  abbrev pub places : List ℕ
  places = divisors_to_bind vs (name_in rows) true

  abbrev pub held : List ℕ
  held = held_words vs k first places

  abbrev n : ℕ
  n = next_number k first (read numbered vs)

  abbrev ready : Ready rows n vs
  ready = ready_of rows n vs sound

  pub places_there : AllThere vs places
  places_there = to_bind_there vs ready.trees ready.complete (name_in rows) true

  pub first_is : reciprocals_first vs k first places ≡ next_number k first (read numbered vs)
  unfolding reciprocals_first
  first_is = refl

  number_is : next_number k first (read numbered vs) ≡ first + length (drop k (read numbered vs))
  unfolding next_number
  number_is = refl

  held_is : held ≡ words_held vs n places
  unfolding held_words
  held_is = ap (λ (i : ℕ). words_held vs i places) first_is

  pub held_extractable : T (extractable rows (reciprocals_first vs k first places + length places) held)
  held_extractable =
      subst (λ (i : ℕ). T (extractable rows (i + length places) held)) (sym first_is)
      (subst (λ (l : List ℕ). T (extractable rows (n + length places) l)) (sym held_is) (held_sound rows good n vs sound pass places places_there))

  pub held_passes : T (symbols_pass good held)
  held_passes = subst (λ (l : List ℕ). T (symbols_pass good l)) (sym held_is) (held_pass rows good n vs sound pass places places_there)

  pub held_trees : trees_in held ≡ some (length (trees_held vs n places))
  held_trees = ap trees_in held_is ∙ held_complete rows good n vs sound pass places places_there

  held_again : read numbered held ≡ trees_held vs n places
  held_again = ap (read numbered) held_is ∙ held_read rows good n vs sound pass places places_there

  pub held_words_ok : T (every (word_ok rows) held)
  held_words_ok =
      let r = ready_of rows (reciprocals_first vs k first places + length places) held held_extractable in
      subst T (sym (words_taken rows held r.trees r.complete)) r.taken

  -- no more trees than rounds leave and a reciprocal for each divisor
  some_switched : (l : List Tree) → length (with_switches l) ≤ length l
  unfolding with_switches
  some_switched [] = omega arith
  some_switched (t ∷ l) = go (switchless t) (some_switched l)
    where
      go : (b : Bool) → length (with_switches l) ≤ length l → length {A = Tree} (elim b [ true ↦ with_switches l | false ↦ t ∷ with_switches l ]) ≤ suc (length l)
      go true h = omega arith
      go false h = omega arith

  held_few : length (trees_held vs n places) ≤ length (read numbered vs) + length places
  unfolding trees_held
  held_few =
      let ds = map (numbered_at vs) places in
      let a = length-append (map (settle_tree ds n) (read numbered vs)) (with_switches (settled_reciprocals ds n)) in
      let b = length-map (read numbered vs) (settle_tree ds n) in
      let c = some_switched (settled_reciprocals ds n) in
      let d = settled_long ds n in
      let e = length-map places (numbered_at vs) in
      omega (arith, a, b, c, d, e)

  lets_are : lets_count vs k first places ≡ length (drop k (read numbered vs)) + length places
  unfolding lets_count
  lets_are = refl

  stmts_are : (numbers : List ℕ) → stmts_count vs k first places numbers ≡ lets_count vs k first places + length (place_groups held)
  unfolding stmts_count
  stmts_are numbers = refl

  trees_count : length (read numbered vs) ≡ ready.trees
  trees_count = complete_length numbered vs ready.trees ready.complete

  lets_most : lets_count vs k first places ≤ length (read numbered vs) + length places
  lets_most = omega (arith, lets_are, length-drop k (read numbered vs))

  divisors_most : 2 * length places + length (read numbered vs) ≤ length vs
  divisors_most = (let d = divisors_few vs (name_in rows) true ready.trees ready.complete in omega (arith, d, trees_count))

  -- the number of the first reciprocal, and the number after the last
  pub first_from : first ≤ reciprocals_first vs k first places
  first_from = omega (arith, first_is, number_is)

  pub first_lets : reciprocals_first vs k first places + length places ≡ first + lets_count vs k first places
  first_lets = omega (arith, first_is, number_is, lets_are)

  pub made_are : length (drop k (read numbered vs)) ≤ lets_count vs k first places
  made_are = omega (arith, lets_are)

  module _ (short : length vs ≤ 1927) where
    pub trees_few : length (read numbered vs) ≤ 1927
    trees_few = omega (arith, divisors_most, short)

    pub lets_few : lets_count vs k first places ≤ 1927
    lets_few = omega (arith, lets_most, divisors_most, short)

    pub held_trees_few : length (trees_held vs (next_number k first (read numbered vs)) places) ≤ 1927
    held_trees_few = omega (arith, held_few, divisors_most, short)

    pub first_most : reciprocals_first vs k first places ≤ first + 1927
    first_most = omega (arith, first_is, number_is, length-drop k (read numbered vs), divisors_most, short)

    pub last_most : reciprocals_first vs k first places + length places ≤ first + 1927
    last_most = omega (arith, first_lets, lets_few)

    -- no tree at a place of what is held is larger than a reciprocal
    pub places_small : (p : ℕ) → size (numbered_at held p) ≤ 1929
    places_small p =
        place_small 1929 held (omega arith)
        (subst (λ (l : List Tree). Every (Small 1929) l) (sym held_again) (held_small 1927 vs short places (divisors_small 1927 vs (omega arith) short places) n)) p

  module _ (switched : length (switch_places held) ≤ 3640) where
    pub members_few : length (joined_groups (place_groups held)) ≤ 3640
    members_few = (let m = members_count held (length (trees_held vs n places)) held_trees in omega (arith, m, switched))

    pub groups_few : length (place_groups held) ≤ 3640
    groups_few = (let g = groups_count held (length (trees_held vs n places)) held_trees in omega (arith, g, switched))
