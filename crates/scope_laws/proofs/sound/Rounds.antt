-- What rounds leave is sound (01, "Extraction"): words that rounds take, with names below the number after those of the bindings, no more words than there were, and
-- no new symbols of the list. Assumes nothing.
use Prim.Native.Nat.{ℕ, zero, suc, ◌≤◌}
use native.Mathlib.Omega.{arith}
use mathlib.Core.Path.{◌≡◌, refl, sym, ◌∙◌, ap, subst}
use mathlib.Core.Bool.{Bool}
use mathlib.Core.Option.{Option, none, some}
use mathlib.Core.List.{List}
use lib.ListN.{length}
use lib.Dec.{T}
use Rattle.spec_tree.specs.Outcome.{Refusal, Outcome, ok, refused, by, ◌>>=◌}
use Rattle.spec_tree.specs.Rows.{Row}
use Rattle.spec_tree.specs.Facts.{all_operations}
use Rattle.spec_tree.specs.Tokens.{read, numbered, name_in}
use Rattle.spec_tree.proofs.TokenLaws.{complete_length}
use Rattle.spec_cse.specs.Extract.{extract_all}
use Rattle.laws.proofs.cse.Refusals.{Ten, only_at, extract_all_ten}
use Rattle.laws.proofs.cse.Outcomes.{Good, good_ok, good_at}
use Rattle.laws.specs.positions.Names.{is_number, symbols_pass}
use Rattle.laws.specs.positions.Places.{numbered_at, best_place}
use Rattle.laws.specs.positions.Rounds.{next_number, state_of, extract_words, rounds_words}
use Rattle.laws.proofs.positions.WordSteps.{numbers_kept}
use Rattle.rounds.specs.kept.Sound.{extractable}
use Rattle.rounds.proofs.kept.Steps.{Ready, ready_of, ready_so, inside, stepped, ready_next}
use Rattle.rounds.proofs.kept.Looping.{number_first}
use Rattle.rounds.proofs.kept.Whole.{rounds_are}
use Rattle.rounds.specs.Rounds.{all_rounds}

module _ (rows : List Row) (scoped : Bool) (good : ℕ → Bool) (k first before : ℕ) where
  abbrev next : List ℕ → ℕ
  next ws = next_number k first (read numbered ws)

  -- k results and then bindings numbered from `first` on
  pub record Rounded (vs : List ℕ) : Type 0 where
    pub ready : Ready rows (next_number k first (read numbered vs)) vs
    pub results : k ≤ length (read numbered vs)
    pub short : length vs ≤ before
    pub pass : T (symbols_pass good vs)

  from_here : (fuel : ℕ) (ws : List ℕ) → Rounded ws → Good Rounded (rounds_words (name_in rows) fuel scoped k first ws)
  unfolding rounds_words Good
  from_here zero ws r = good_ok Rounded ws r
  from_here (suc fuel) ws r = go (λ us h. from_here fuel us h) (best_place ws (name_in rows) scoped) refl
    where
      go : ((us : List ℕ) → Rounded us → Good Rounded (rounds_words (name_in rows) fuel scoped k first us)) → (o : Option ℕ) → best_place ws (name_in rows) scoped ≡ o
          → Good Rounded
          (elim o as (λ _. Outcome (List ℕ)) [ none ↦ ok ws | some p ↦ (extract_words (numbered_at ws p) (next ws) ws >>= λ vs. rounds_words (name_in rows) fuel scoped k first vs) ])
      go i none e = good_ok Rounded ws r
      go i (some p) e = by_outcome (extract_words (numbered_at ws p) (next ws) ws) refl
        where
          enough : k ≤ r.ready.trees
          enough = omega (arith, r.results, complete_length numbered ws r.ready.trees r.ready.complete)

          by_outcome : (o : Outcome (List ℕ)) → extract_words (numbered_at ws p) (next ws) ws ≡ o → Good Rounded (o >>= λ vs. rounds_words (name_in rows) fuel scoped k first vs)
          by_outcome (refused x) z = tt
          by_outcome (ok us) z =
              let s = stepped rows scoped (next ws) ws r.ready p e k first enough refl us z in
              let q = ready_next rows scoped (next ws) ws r.ready p e k first enough refl us z in
              let a = s.0.results in
              let b = complete_length numbered us s.0.trees s.0.complete in
              let c = s.2 in
              i us
              (record {
                ready = subst (λ (n : ℕ). Ready rows n us) (sym s.3) q;
                results = omega (arith, a, b);
                short = omega (arith, c, r.short);
                pass = numbers_kept good ws r.ready.trees r.ready.complete r.pass p (inside rows scoped (next ws) ws r.ready p e) (next ws) us z;
              })

-- all rounds, from words all of whose trees are results
module _ (rows : List Row) (scoped : Bool) (good : ℕ → Bool) (first : ℕ) (ws : List ℕ) (sound : T (extractable rows first ws)) (pass : T (symbols_pass good ws)) where
  abbrev k : ℕ
  k = length (read numbered ws)

  starts : Rounded rows scoped good k first (length ws) ws
  starts =
      record {
        ready = subst (λ (n : ℕ). Ready rows n ws) (sym (number_first first (read numbered ws))) (ready_of rows first ws sound);
        results = omega arith;
        short = omega arith;
        pass = pass;
      }

  module _ (vs : List ℕ) (e : all_rounds rows scoped first ws ≡ ok vs) where
    pub rounds_rounded : Rounded rows scoped good (length (read numbered ws)) first (length ws) vs
    unfolding all_rounds
    rounds_rounded =
        good_at (Rounded rows scoped good k first (length ws)) (rounds_words (name_in rows) (all_operations (read numbered ws)) scoped k first ws) vs e
        (from_here rows scoped good k first (length ws) (all_operations (read numbered ws)) ws starts)

    pub rounds_sound : T (extractable rows (next_number (length (read numbered ws)) first (read numbered vs)) vs)
    rounds_sound = ready_so rows (next_number k first (read numbered vs)) vs rounds_rounded.ready

    pub rounds_short : length vs ≤ length ws
    rounds_short = rounds_rounded.short

    pub rounds_pass : T (symbols_pass good vs)
    rounds_pass = rounds_rounded.pass

    pub rounds_results : length (read numbered ws) ≤ length (read numbered vs)
    rounds_results = rounds_rounded.results

-- refused rounds are refused by 10
module _ (rows : List Row) (scoped : Bool) (first : ℕ) (ws : List ℕ) (sound : T (extractable rows first ws)) (pass : T (symbols_pass (is_number rows) ws)) where
  pub rounds_ten : (i : Refusal) → all_rounds rows scoped first ws ≡ refused i → i ≡ by 10
  unfolding all_rounds
  rounds_ten i e =
      let r = ready_of rows first ws sound in
      only_at Ten (extract_all scoped first (read (name_in rows) ws)) i
      (rounds_are rows scoped first ws r.trees r.complete pass
      ∙ ap (λ (o : Outcome (List ℕ)). o >>= λ vs. ok (state_of (length (read numbered ws)) first (read (name_in rows) vs))) e)
      (extract_all_ten scoped first (read (name_in rows) ws))
