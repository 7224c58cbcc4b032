-- What a loop over rounds has at each turn, and where it ends (01, "Extraction"): until no candidate is left. Assumes nothing.
use Prim.Native.Nat.{ℕ, suc, ◌+◌, ◌≤◌}
use native.Mathlib.Omega.{arith}
use mathlib.Core.Path.{◌≡◌, refl, sym, ◌∙◌, ap, subst}
use mathlib.Core.Bool.{Bool}
use mathlib.Core.Option.{none, some}
use mathlib.Core.List.{List}
use lib.ListN.{length, drop}
use lib.Seq.{drop-length}
use Rattle.spec_tree.specs.Outcome.{Refusal, Outcome, ok, refused, ◌>>=◌}
use Rattle.spec_tree.specs.Tree.{Tree}
use Rattle.spec_tree.specs.Facts.{all_operations}
use Rattle.spec_tree.specs.Rows.{Row}
use Rattle.spec_tree.specs.Tokens.{read, numbered, name_in}
use Rattle.spec_tree.proofs.TokenLaws.{complete_length}
use Rattle.laws.specs.positions.Places.{numbered_at, best_place}
use Rattle.laws.specs.positions.Rounds.{next_number, extract_words}
use Rattle.laws.proofs.positions.WordLoop.{all_rounds, rounds_done, rounds_go_on}
use Rattle.rounds.proofs.kept.Steps.{Ready, ready_turn, stepped, ready_next, operations_words}

pub number_there : (k first : ℕ) (ts : List Tree) → next_number k first ts ≡ first + length (drop k ts)
unfolding next_number
number_there k first ts = refl

pub number_first : (first : ℕ) (ts : List Tree) → next_number (length ts) first ts ≡ first
number_first first ts = let z = ap (λ (l : List Tree). length l) (drop-length ts) in omega (arith, number_there (length ts) first ts, z)

module _ (rows : List Row) (scoped : Bool) (k first : ℕ) (start : List ℕ) where
  abbrev pub ending : List ℕ → Outcome (List ℕ)
  ending ws = all_rounds (name_in rows) scoped k first ws

  -- after so many bindings: the rounds from here on end as those from the start
  pub record Going (ws : List ℕ) (made : ℕ) : Type 0 where
    pub ready : Ready rows (first + made) ws
    pub results : k ≤ ready.trees
    pub next : next_number k first (read numbered ws) ≡ first + made
    pub same : ending start ≡ ending ws
    pub fewer : made + all_operations (read numbered ws) ≤ all_operations (read numbered start)
    pub short : length ws ≤ length start

  pub going_most : (ws : List ℕ) (made : ℕ) → Going ws made → made ≤ length start
  going_most ws made g = omega (arith, g.fewer, operations_words start)

  pub going_first : k ≡ length (read numbered start) → Ready rows first start → Going start 0
  going_first e r =
      let z : first ≡ first + 0 = omega arith in
      record {
        ready = subst (λ (n : ℕ). Ready rows n start) z r;
        results = lim (first + 0) (subst (λ (n : ℕ). Ready rows n start) z r);
        next = subst (λ (j : ℕ). next_number j first (read numbered start) ≡ first + 0) (sym e) (number_first first (read numbered start) ∙ z);
        same = refl;
        fewer = omega arith;
        short = omega arith;
      }
    where
      lim : (n : ℕ) (q : Ready rows n start) → k ≤ q.trees
      lim n q = omega (arith, e, complete_length numbered start q.trees q.complete)

  module _ (ws : List ℕ) (made : ℕ) (g : Going ws made) where
    -- no candidate is left
    pub going_done : best_place ws (name_in rows) scoped ≡ none → (ending start ≡ ok ws) × (made ≡ length (drop k (read numbered ws)))
    going_done e = (g.same ∙ rounds_done (name_in rows) scoped k first ws e, omega (arith, g.next, number_there k first (read numbered ws)))

    module _ (p : ℕ) (best : best_place ws (name_in rows) scoped ≡ some p) where
      abbrev turned : Outcome (List ℕ)
      turned = extract_words (numbered_at ws p) (first + made) ws

      onward : ending start ≡ (turned >>= λ vs. ending vs)
      onward =
          g.same ∙ rounds_go_on (name_in rows) scoped k first ws (ready_turn rows k first (first + made) ws g.ready g.results g.next) p best
          ∙ ap (λ (n : ℕ). extract_words (numbered_at ws p) n ws >>= λ vs. ending vs) g.next

      pub going_refused : (i : Refusal) → turned ≡ refused i → ending start ≡ refused i
      going_refused i e = onward ∙ ap (λ (o : Outcome (List ℕ)). o >>= λ vs. ending vs) e

      -- one more binding
      pub going_on : (vs : List ℕ) → turned ≡ ok vs → Going vs (suc made)
      going_on vs e =
          let n = stepped rows scoped (first + made) ws g.ready p best k first g.results g.next vs e in
          let r = ready_next rows scoped (first + made) ws g.ready p best k first g.results g.next vs e in
          let z : suc (first + made) ≡ first + suc made = omega arith in
          record {
            ready = subst (λ (m : ℕ). Ready rows m vs) z r;
            results = lim (first + suc made) (subst (λ (m : ℕ). Ready rows m vs) z r) n.0.results (complete_length numbered vs n.0.trees n.0.complete);
            next = n.3 ∙ ap suc g.next ∙ z;
            same = onward ∙ ap (λ (o : Outcome (List ℕ)). o >>= λ vs. ending vs) e;
            fewer = (let f = n.1 in omega (arith, f, g.fewer));
            short = (let f = n.2 in omega (arith, f, g.short));
          }
        where
          lim : (m : ℕ) (q : Ready rows m vs) {t : ℕ} → k ≤ t → length (read numbered vs) ≡ t → k ≤ q.trees
          lim m q a b = omega (arith, a, b, complete_length numbered vs q.trees q.complete)

      pub going_less : (vs : List ℕ) → turned ≡ ok vs → suc (all_operations (read numbered vs)) ≤ all_operations (read numbered ws)
      going_less vs e = (stepped rows scoped (first + made) ws g.ready p best k first g.results g.next vs e).1
