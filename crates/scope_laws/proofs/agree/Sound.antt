-- What the words of a scope satisfy, the words of its arms' scopes do (01, "Scoped fusion"): none lacks an operand, each is one of a tree that print takes, symbols of
-- the list have numbers that pass, and every `__xN` and `__mN` has a number below the scope's first. Assumes nothing.
use Prim.Native.Nat.{ℕ, zero, suc, ◌+◌, ◌≤◌, ◌<◌}
use native.Mathlib.Omega.{arith}
use mathlib.Core.Path.{◌≡◌, refl, sym, ◌∙◌, ap, subst}
use mathlib.Core.Bool.{Bool, true, false}
use mathlib.Core.Option.{some}
use mathlib.Core.List.{List, [], ◌∷◌, ◌++◌, map}
use lib.ListN.{length, get_or, length-map}
use lib.Dec.{T}
use Rattle.spec_tree.specs.Outcome.{Outcome, ok, refused, ◌>>=◌}
use Rattle.spec_tree.specs.Tree.{Name, Tree, Op, nil}
use Rattle.spec_tree.specs.Facts.{all_operations}
use Rattle.spec_tree.specs.Rows.{Row}
use Rattle.spec_tree.specs.Tokens.{read, trees_at, numbered, trees_in, name_in}
use Rattle.spec_tree.proofs.Logic.{and_left, and_right, and_both}
use Rattle.spec_tree.proofs.TokenLaws.{places_are_nodes, trees_length}
use Rattle.spec_rewrite.proofs.Counts.{well_formed_all}
use Rattle.spec_rewrite.proofs.Names.{holds, holds_all, weaken_all, all_nodes_hold}
use Rattle.laws.proofs.cse.Outcomes.{Good}
use Rattle.laws.proofs.cse.ScopeValue.{under, under_le}
use Rattle.laws.specs.positions.Names.{symbols_pass}
use Rattle.laws.specs.positions.Places.{numbered_at, divisors_to_bind}
use Rattle.laws.specs.positions.Rounds.{next_number, rounds_on}
use Rattle.laws.proofs.positions.BestPlace.{text_of}
use Rattle.laws.proofs.positions.Coded.{read_again}
use Rattle.laws.proofs.positions.Extraction.{Every}
use Rattle.laws.proofs.positions.WordRounds.{InCode, written, rounds_words_are}
use Rattle.reciprocals.proofs.bindings.Parts.{settle_tree, settled_reciprocals}
use Rattle.rounds.specs.kept.Sound.{extractable}
use Rattle.rounds.proofs.kept.Steps.{Ready, ready_of}
use Rattle.rounds.proofs.kept.Words.{name_ok, all_taken_formed}
use Rattle.rounds.specs.Rounds.{all_rounds}
use Rattle.laws.specs.switches.Switches.{arm_count, arm_place, switch_places}
use Rattle.laws.specs.switches.Groups.{member}
use Rattle.laws.specs.switches.Columns.{column_words}
use Rattle.laws.proofs.switches.Collected.{places_switch}
use Rattle.laws.proofs.switches.GroupColumns.{members_armed}
use Rattle.laws.proofs.switches.Words.{arm_within}
use Rattle.fusion.specs.Switchless.{switchless, with_switches}
use Rattle.fusion.specs.Whole.{divisors_of, settled_roots}
use Rattle.fusion.specs.place.Parts.{trees_held, words_held, reciprocals_first, held_words}
use Rattle.scope_laws.proofs.sound.Rounds.{rounds_sound, rounds_pass}
use Rattle.scope_laws.proofs.sound.Columns.{Past, arm_trees, armed_past, column_sound, column_pass, column_read}
use Rattle.scope_laws.proofs.sound.Counting.{held_extractable, held_passes, held_trees}
use Rattle.scope_laws.proofs.needs.Scopes.{roots_formed, roots_under}
use Rattle.scope_laws.proofs.told.Groups.{places_of, OpensGroup, opener_is}
use Rattle.scope_laws.proofs.told.Holding.{held_read}
use Rattle.scope_laws.proofs.told.Body.{divisors_are, roots_fit}
use Rattle.scope_laws.proofs.told.Whole.{KeepsSound}

pub record Sound (rows : List Row) (good : ℕ → Bool) (next : ℕ) (ws : List ℕ) : Type 0 where
  pub words : T (extractable rows next ws)
  pub pass : T (symbols_pass good ws)
  pub names : T (holds_all (under next) (read numbered ws))

pub whole : (rows : List Row) (good : ℕ → Bool) (next : ℕ) (ws : List ℕ) → Sound rows good next ws → (m : ℕ) × (trees_in ws ≡ some m)
whole rows good next ws s = let r = ready_of rows next ws s.words in (r.trees, r.complete)

-- ---- names in parts of trees

module _ (p : Name → Bool) where
  front_holds : (a b : List Tree) → T (holds_all p (a ++ b)) → T (holds_all p a)
  unfolding holds_all
  front_holds [] b h = tt
  front_holds (t ∷ a) b h = and_both (holds p t) (holds_all p a) (and_left (holds p t) (holds_all p (a ++ b)) h) (front_holds a b (and_right (holds p t) (holds_all p (a ++ b)) h))

  back_holds : (a b : List Tree) → T (holds_all p (a ++ b)) → T (holds_all p b)
  unfolding holds_all
  back_holds [] b h = h
  back_holds (t ∷ a) b h = back_holds a b (and_right (holds p t) (holds_all p (a ++ b)) h)

  both_hold : (a b : List Tree) → T (holds_all p a) → T (holds_all p b) → T (holds_all p (a ++ b))
  unfolding holds_all
  both_hold [] b g h = h
  both_hold (t ∷ a) b g h = and_both (holds p t) (holds_all p (a ++ b)) (and_left (holds p t) (holds_all p a) g) (both_hold a b (and_right (holds p t) (holds_all p a) g) h)

  with_hold : (l : List Tree) → T (holds_all p l) → T (holds_all p (with_switches l))
  unfolding with_switches holds_all
  with_hold [] h = tt
  with_hold (t ∷ l) h = go (switchless t) (with_hold l (and_right (holds p t) (holds_all p l) h))
    where
      go : (b : Bool) → T (holds_all p (with_switches l)) → T (holds_all p (elim b as (λ _. List Tree) [ true ↦ with_switches l | false ↦ t ∷ with_switches l ]))
      go true g = g
      go false g = and_both (holds p t) (holds_all p (with_switches l)) (and_left (holds p t) (holds_all p l) h) g

  entry_holds : (l : List Tree) (i : ℕ) → i < length l → T (holds_all p l) → T (holds p (get_or l i (Op 0 nil)))
  unfolding holds_all
  entry_holds [] i h g = absurd (omega arith)
  entry_holds (t ∷ l) zero h g = and_left (holds p t) (holds_all p l) g
  entry_holds (t ∷ l) (suc i) h g = entry_holds l i (omega arith) (and_right (holds p t) (holds_all p l) g)

  place_holds : (ws : List ℕ) (i : ℕ) → i < length ws → T (holds_all p (read numbered ws)) → T (holds p (numbered_at ws i))
  unfolding numbered_at
  place_holds ws i h g =
      entry_holds (trees_at numbered ws) i (omega (arith, trees_length numbered ws, h))
      (subst (λ (l : List Tree). T (holds_all p l)) (sym (places_are_nodes numbered ws)) (all_nodes_hold p (read numbered ws) g))

  column_holds :
      (hs : List ℕ) (m : ℕ) → trees_in hs ≡ some m → T (holds_all p (read numbered hs)) → (g : List ℕ) (a : ℕ) → Every (Past hs a) g → T (holds_all p (arm_trees hs g a))
  unfolding holds_all
  column_holds hs m c h [] a s = tt
  column_holds hs m c h (q ∷ g) a s =
      and_both (holds p (numbered_at hs (arm_place hs q a))) (holds_all p (arm_trees hs g a))
      (place_holds hs (arm_place hs q a) (arm_within hs m c q s.0.0 a s.0.1) h) (column_holds hs m c h g a s.1)

-- ---- after the rounds

module _ (rows : List Row) (good : ℕ → Bool) (next : ℕ) (ws : List ℕ) (s : Sound rows good next ws) (vs : List ℕ) (e : all_rounds rows true next ws ≡ ok vs) where
  abbrev text : Tree → List ℕ
  text = text_of [] (name_in rows)

  abbrev es : List Tree
  es = read numbered ws

  abbrev k : ℕ
  k = length (read numbered ws)

  abbrev places : List ℕ
  places = divisors_to_bind vs (name_in rows) true

  abbrev ds : List Tree
  ds = map (numbered_at vs) places

  abbrev n : ℕ
  n = next_number k next (read numbered vs)

  abbrev hs : List ℕ
  hs = held_words vs k next places

  pub left_sound : T (extractable rows (next_number (length (read numbered ws)) next (read numbered vs)) vs)
  left_sound = rounds_sound rows true good next ws s.words s.pass vs e

  pub left_pass : T (symbols_pass good vs)
  left_pass = rounds_pass rows true good next ws s.words s.pass vs e

  pub left_ready : Ready rows (next_number (length (read numbered ws)) next (read numbered vs)) vs
  left_ready = ready_of rows n vs left_sound

  -- the same rounds of trees
  pub rounds_trees : rounds_on (text_of [] (name_in rows)) (all_operations (read numbered ws)) true (length (read numbered ws)) next (read numbered ws) ≡ ok (read numbered vs)
  unfolding all_rounds
  rounds_trees =
      let r = ready_of rows next ws s.words in
      let a = rounds_words_are (name_in rows) (all_operations es) true k next ws r.trees r.complete in
      go (rounds_on text (all_operations es) true k next es) a.0 (sym a.1 ∙ e)
    where
      go : (o : Outcome (List Tree)) → Good InCode o → (o >>= λ us. ok (written us)) ≡ ok vs → o ≡ ok (read numbered vs)
      go (ok us) h q =
          let z : written us ≡ vs = cc in
          ap ok (sym (read_again us (unfold Good in h)) ∙ ap (read numbered) z)
      go (refused i) h q = let z : ◌≡◌ {A = ℕ} 0 1 = cc in absurd (omega arith)

  -- the divisors bound are those at the places
  bound_are : divisors_of text (read numbered vs) ≡ ds
  bound_are = divisors_are (name_in rows) k next vs left_ready.trees left_ready.complete

  formed : T (well_formed_all es)
  formed = all_taken_formed (name_ok rows) es (ready_of rows next ws s.words).taken

  pub settled_formed : T (well_formed_all (settled_roots (map (numbered_at vs) (divisors_to_bind vs (name_in rows) true)) (next_number (length (read numbered ws)) next (read numbered vs)) (read numbered vs)))
  settled_formed = subst (λ (l : List Tree). T (well_formed_all (settled_roots l n (read numbered vs)))) bound_are (roots_formed text next es (read numbered vs) rounds_trees formed)

  pub settled_under :
      T (holds_all (under (next_number (length (read numbered ws)) next (read numbered vs) + length (map (numbered_at vs) (divisors_to_bind vs (name_in rows) true))))
      (settled_roots (map (numbered_at vs) (divisors_to_bind vs (name_in rows) true)) (next_number (length (read numbered ws)) next (read numbered vs)) (read numbered vs)))
  settled_under =
      subst (λ (l : List Tree). T (holds_all (under (n + length l)) (settled_roots l n (read numbered vs)))) bound_are
      (roots_under text next es (read numbered vs) rounds_trees formed s.names)

  -- ---- what is held

  fit : InCode (settled_roots ds n (read numbered vs))
  fit = roots_fit (name_in rows) k next vs left_ready.trees left_ready.complete

  held_is : hs ≡ words_held vs n places
  unfolding held_words reciprocals_first
  held_is = refl

  first_is : reciprocals_first vs k next places ≡ n
  unfolding reciprocals_first
  first_is = refl

  abbrev start : ℕ
  start = reciprocals_first vs k next places + length places

  start_is : start ≡ n + length ds
  start_is = omega (arith, first_is, length-map places (numbered_at vs))

  held_under : T (holds_all (under start) (read numbered hs))
  held_under =
      subst (λ (l : List Tree). T (holds_all (under start) l)) (sym (ap (read numbered) held_is ∙ held_read vs n places fit))
      (subst (λ (i : ℕ). T (holds_all (under i) (trees_held vs n places))) (sym start_is) (parts settled_under))
    where
      parts : T (holds_all (under (n + length ds)) (settled_roots ds n (read numbered vs))) → T (holds_all (under (n + length ds)) (trees_held vs n places))
      parts h =
          (unfold trees_held in
          both_hold (under (n + length ds)) (map (settle_tree ds n) (read numbered vs)) (with_switches (settled_reciprocals ds n)) (front h)
          (with_hold (under (n + length ds)) (settled_reciprocals ds n) (back h)))
        where
          front : T (holds_all (under (n + length ds)) (settled_roots ds n (read numbered vs))) → T (holds_all (under (n + length ds)) (map (settle_tree ds n) (read numbered vs)))
          front h = (unfold settled_roots in front_holds (under (n + length ds)) (map (settle_tree ds n) (read numbered vs)) (settled_reciprocals ds n) h)

          back : T (holds_all (under (n + length ds)) (settled_roots ds n (read numbered vs))) → T (holds_all (under (n + length ds)) (settled_reciprocals ds n))
          back h = (unfold settled_roots in back_holds (under (n + length ds)) (map (settle_tree ds n) (read numbered vs)) (settled_reciprocals ds n) h)

  module _ (m i a : ℕ) (more : reciprocals_first vs (length (read numbered ws)) next (divisors_to_bind vs (name_in rows) true) + length (divisors_to_bind vs (name_in rows) true) ≤ m)
      (o : OpensGroup (held_words vs (length (read numbered ws)) next (divisors_to_bind vs (name_in rows) true)) i)
      (h : a < arm_count (held_words vs (length (read numbered ws)) next (divisors_to_bind vs (name_in rows) true))
      (get_or (places_of (held_words vs (length (read numbered ws)) next (divisors_to_bind vs (name_in rows) true)) i) 0 0)) where
    abbrev sp : List ℕ
    sp = switch_places hs

    past : Every (Past hs a) (places_of hs i)
    past =
        let q = ap (arm_count hs) (opener_is hs i o) in
        armed_past hs (arm_count hs (member sp i)) a (omega (arith, q, h)) (places_of hs i) (members_armed hs sp (places_switch hs) i)

    held_ready : T (extractable rows start hs)
    held_ready = held_extractable rows good k next vs left_sound left_pass

    held_pass : T (symbols_pass good hs)
    held_pass = held_passes rows good k next vs left_sound left_pass

    -- the words of an arm's scope
    pub column_is_sound : Sound rows good m (column_words (held_words vs (length (read numbered ws)) next (divisors_to_bind vs (name_in rows) true))
        (places_of (held_words vs (length (read numbered ws)) next (divisors_to_bind vs (name_in rows) true)) i) a)
    column_is_sound =
        record {
          words = column_sound rows good start hs held_ready held_pass m more (places_of hs i) a past;
          pass = column_pass rows good start hs held_ready held_pass m more (places_of hs i) a past;
          names = subst (λ (l : List Tree). T (holds_all (under m) l)) (sym (column_read rows good start hs held_ready held_pass m more (places_of hs i) a past))
              (weaken_all (under start) (under m) (under_le start m more) (arm_trees hs (places_of hs i) a)
              (column_holds (under start) hs (length (trees_held vs n places)) (held_trees rows good k next vs left_sound left_pass) held_under (places_of hs i) a past));
        }

pub keeps_sound : (rows : List Row) (good : ℕ → Bool) → KeepsSound rows (Sound rows good)
keeps_sound rows good left next ws vs s few low e room m i a more o h = column_is_sound rows good next ws s vs e m i a more o h
