-- A whole scope, from its tests and its rounds on (01, "Scoped fusion", refusals 10 and 23). Assumes nothing.
use Prim.Native.Nat.{ℕ, suc, ◌-◌, ◌≤◌, ◌<◌}
use native.Mathlib.Omega.{arith}
use mathlib.Core.Path.{◌≡◌, refl, sym, ◌∙◌, ap, ap₂, subst}
use mathlib.Core.Bool.{Bool, true, false, ◌&&◌}
use mathlib.Core.Option.{some}
use mathlib.Core.List.{List, []}
use lib.ListN.{length, take}
use lib.Seq.{length-take-le}
use lib.Dec.{T, leb}
use borrow.Author.Tests.{le-leb, lt-leb, leb-true}
use Rattle.spec_tree.specs.Outcome.{Outcome, refused, by, ◌>>=◌}
use Rattle.spec_tree.specs.Rows.{Row}
use Rattle.spec_tree.specs.Tokens.{read, numbered, trees_in, name_in}
use Rattle.spec_tree.proofs.TokenLaws.{complete_length}
use Rattle.laws.specs.positions.Names.{is_number, symbols_pass}
use Rattle.laws.specs.positions.Places.{divisors_to_bind}
use Rattle.rounds.specs.kept.Sound.{extractable}
use Rattle.rounds.specs.Rounds.{all_rounds}
use Rattle.spec_cse.specs.Scope.{most_number}
use Rattle.fusion.specs.place.Whole.{scope_told}
use Rattle.scope_laws.proofs.sound.Rounds.{rounds_sound, rounds_short, rounds_pass, rounds_results, rounds_ten}
use Rattle.laws.specs.switches.Columns.{column_words}
use Rattle.cse_scoped.specs.one_scope.Answers.{inner, arm_told, CopiedSo}
use Rattle.cse_flat.specs.Answers.{Lists}
use Rattle.cse_scoped.specs.one_scope.Frame.{Left, left_scope}
use Rattle.cse_scoped.specs.one_scope.Scoped as scoped
use Rattle.cse_scoped.specs.one_scope.Armed as armed
use Rattle.std.specs.Prelude.{Option as Maybe, None, Result, Ok, Err}
use Rattle.cse_flat.specs.declared.Listed.{Listed}
use Rattle.replace.specs.declared.NotConstant.{NotConstant}
use Rattle.cse_scoped.proofs.one_scope.Areas.{copied_none}
use Rattle.cse_scoped.proofs.one_scope.ArmLaws.{ArmDone, done_refused, arm_refused}
use Rattle.cse_scoped.proofs.one_scope.Statements.{by_test, by_no_test}
use Rattle.cse_scoped.proofs.one_scope.Ending.{ScopeDone, scope_refused}
use Rattle.spec_tree.proofs.Logic.{and_false}

module _ (rows : List Row) (left row next : ℕ) (ws : List ℕ) (at : ℕ) (old : List ℕ) where
  pub too_deep : (fuel : ℕ) → fuel ≡ 0 → ScopeDone (scope_told rows fuel left row next ws) at old (scoped.Refused 23) old
  unfolding scope_told
  too_deep fuel e = subst (λ (f : ℕ). ScopeDone (scope_told rows f left row next ws) at old (scoped.Refused 23) old) (sym e) (scope_refused (scope_told rows 0 left row next ws) (by 23) refl at old)

  module _ (f : ℕ) where
    abbrev test : Bool
    test = leb (length ws) left && (leb (length ws) 1927 && leb next most_number)

    not_tested : test ≡ false → scope_told rows (suc f) left row next ws ≡ refused (by 23)
    unfolding scope_told
    not_tested e = by_no_test test _ (refused (by 23)) e

    tested : test ≡ true → scope_told rows (suc f) left row next ws ≡ (all_rounds rows true next ws >>= λ vs. left_scope rows f left row vs (length (read numbered ws)) next (divisors_to_bind vs (name_in rows) true))
    unfolding scope_told left_scope
    tested e = by_test test _ (refused (by 23)) e

  module _ (fuel : ℕ) (more : fuel ≡ suc (fuel - 1)) where
    refused_so : test 0 ≡ false → ScopeDone (scope_told rows fuel left row next ws) at old (scoped.Refused 23) old
    refused_so e = scope_refused (scope_told rows fuel left row next ws) (by 23) (ap (λ (f : ℕ). scope_told rows f left row next ws) more ∙ not_tested (fuel - 1) e) at old

    pub too_many_left : left < length ws → ScopeDone (scope_told rows fuel left row next ws) at old (scoped.Refused 23) old
    too_many_left h = refused_so (ap (λ (b : Bool). b && (leb (length ws) 1927 && leb next most_number)) (lt-leb (length ws) left h))

    pub too_long : 1927 < length ws → ScopeDone (scope_told rows fuel left row next ws) at old (scoped.Refused 23) old
    too_long h =
        refused_so (ap (λ (b : Bool). leb (length ws) left && (b && leb next most_number)) (lt-leb (length ws) 1927 h) ∙ and_false (leb (length ws) left))

    pub too_large : most_number < next → ScopeDone (scope_told rows fuel left row next ws) at old (scoped.Refused 23) old
    too_large h =
        refused_so
        (ap (λ (b : Bool). leb (length ws) left && (leb (length ws) 1927 && b)) (lt-leb next most_number h)
        ∙ (ap (λ (b : Bool). leb (length ws) left && b) (and_false (leb (length ws) 1927)) ∙ and_false (leb (length ws) left)))

    module _ (there : length ws ≤ left) (few : length ws ≤ 1927) (low : next ≤ most_number) (sound : T (extractable rows next ws)) (pass : T (symbols_pass (is_number rows) ws)) where
      from_rounds :
          scope_told rows fuel left row next ws ≡ (all_rounds rows true next ws >>= λ vs. left_scope rows (fuel - 1) left row vs (length (read numbered ws)) next (divisors_to_bind vs (name_in rows) true))
      from_rounds =
          ap (λ (f : ℕ). scope_told rows f left row next ws) more
          ∙ tested (fuel - 1)
          (ap₂ (λ (a b : Bool). a && b) (le-leb (length ws) left there) (ap₂ (λ (a b : Bool). a && b) (le-leb (length ws) 1927 few) (le-leb next most_number low)))

      module _ (r : Result Listed NotConstant) (tokens places : List ℕ) (given : Lists rows true next ws r tokens places) where
        pub ten : (n : NotConstant) → r ≡ Err n → ScopeDone (scope_told rows fuel left row next ws) at old (scoped.Refused 10) old
        ten n e =
            let g = subst (λ (q : Result Listed NotConstant). Lists rows true next ws q tokens places) e given in
            let i : g.0 ≡ by 10 = rounds_ten rows true next ws sound pass g.0 g.1 in
            scope_refused (scope_told rows fuel left row next ws) (by 10)
            (from_rounds ∙ ap (λ (o : Outcome (List ℕ)). o >>= λ vs. left_scope rows (fuel - 1) left row vs (length (read numbered ws)) next (divisors_to_bind vs (name_in rows) true)) (g.1 ∙ ap refused i)) at old

        module _ (all : Listed) (e : r ≡ Ok all) where
          abbrev n : ℕ
          n = all.words

          abbrev d : ℕ
          d = all.divisors

          so : Lists rows true next ws (Ok all) tokens places
          so = subst (λ (q : Result Listed NotConstant). Lists rows true next ws q tokens places) e given

          pub words_in : n ≤ length tokens
          words_in = so.3

          -- rounds leave no more words
          pub words_short : n ≤ length ws
          words_short = omega (arith, rounds_short rows true (is_number rows) next ws sound pass (take n tokens) so.0, length-take-le n tokens words_in)

          pub places_in : d ≤ length places
          places_in = so.4

          module _ (k : ℕ) (whole : trees_in ws ≡ some k) where
            results_are : length (read numbered ws) ≡ k
            results_are = complete_length numbered ws k whole

            pub left_so : Left rows (take n tokens) k next (take d places)
            left_so =
                subst (λ (j : ℕ). Left rows (take n tokens) j next (take d places)) results_are
                (record {
                  good = rounds_sound rows true (is_number rows) next ws sound pass (take n tokens) so.0;
                  pass = rounds_pass rows true (is_number rows) next ws sound pass (take n tokens) so.0;
                  enough = rounds_results rows true (is_number rows) next ws sound pass (take n tokens) so.0;
                  places_are = so.2;
                  few = omega (arith, rounds_short rows true (is_number rows) next ws sound pass (take n tokens) so.0);
                  low = low;
                })

            pub scope_is : scope_told rows fuel left row next ws ≡ left_scope rows (fuel - 1) left row (take n tokens) k next (take d places)
            scope_is =
                from_rounds
                ∙ (ap (λ (o : Outcome (List ℕ)). o >>= λ vs. left_scope rows (fuel - 1) left row vs (length (read numbered ws)) next (divisors_to_bind vs (name_in rows) true)) so.0
                ∙ ap₂ (λ (j : ℕ) (ps : List ℕ). left_scope rows (fuel - 1) left row (take n tokens) j next ps) results_are (sym so.2))

-- ---- an arm whose words are more than are left, or than can be worked on

module _ (rows : List Row) (left row next : ℕ) (ws : List ℕ) where
  no_room : (f : ℕ) → (length ws ≤ 1927 → left < length ws) → scope_told rows (suc f) left row next ws ≡ refused (by 23)
  no_room f h = not_tested rows left row next ws 0 [] f (go (leb (length ws) 1927) refl)
    where
      go : (b : Bool) → leb (length ws) 1927 ≡ b → test rows left row next ws 0 [] f ≡ false
      go true e = ap (λ (b : Bool). b && (leb (length ws) 1927 && leb next most_number)) (lt-leb (length ws) left (h (leb-true (length ws) 1927 e)))
      go false e = ap (λ (b : Bool). leb (length ws) left && (b && leb next most_number)) e ∙ and_false (leb (length ws) left)

pub arm_too_many : (rows : List Row) (fuel left next : ℕ) (held group : List ℕ) (a : ℕ) → fuel ≡ suc (fuel - 1) → (r : Maybe ℕ) (rest : List ℕ) → CopiedSo (column_words held group a) r rest
    → r ≡ None → length rest ≡ left → (at : ℕ) (old : List ℕ) → ArmDone (arm_told (inner rows fuel left) held group next a) at old (armed.Refused 23) old
arm_too_many rows fuel left next held group a more r rest given e long at old =
    done_refused (arm_told (inner rows fuel left) held group next a) (by 23)
    (arm_refused (inner rows fuel left) held group next a (by 23)
    (ap (λ (f : ℕ). scope_told rows f left 35 next (column_words held group a)) more
    ∙ no_room rows left 35 next (column_words held group a) (fuel - 1) (λ few. (let k = copied_none (column_words held group a) r rest given e few in omega (arith, k, long))))) at old old

-- ---- rows left by length

pub left_now : (rows : List Row) (fuel row : ℕ) (ws : List ℕ) (k first : ℕ) (places : List ℕ) (m n : ℕ) → m ≡ n → left_scope rows fuel n row ws k first places ≡ left_scope rows fuel m row ws k first places
left_now rows fuel row ws k first places m n e = ap (λ (j : ℕ). left_scope rows fuel j row ws k first places) (sym e)
