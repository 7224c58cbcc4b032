-- The rounds one after another (01, "Extraction"): what the loop keeps, and what it ends with. Assumes nothing.
use Prim.Native.Nat.{ℕ, suc, ◌+◌, ◌-◌, ◌≤◌, ◌<◌}
use native.Mathlib.Omega.{arith}
use mathlib.Core.Path.{◌≡◌, refl, sym, ◌∙◌, ap, ap₂, subst}
use mathlib.Core.Bool.{Bool}
use mathlib.Core.Option.{some}
use mathlib.Core.List.{List}
use lib.ListN.{length, take, drop, length-append, length-drop}
use lib.Seq.{take_at, drop_at, drop-drop, length-take-le}
use lib.Dec.{T}
use Rattle.spec_tree.specs.Outcome.{Outcome, ok, refused}
use Rattle.spec_tree.specs.Rows.{Row}
use Rattle.spec_tree.specs.Facts.{all_operations}
use Rattle.spec_tree.specs.Tokens.{name_in, read, numbered}
use Rattle.laws.specs.positions.Places.{numbered_at, best_place}
use Rattle.laws.specs.positions.Rounds.{extract_words}
use Rattle.replace.specs.replacing.Deciding.{Wrote}
use Rattle.rounds.specs.kept.Sound.{extractable}
use Rattle.rounds.specs.Answers.{TurnedSo}
use Rattle.rounds.specs.Rounds.{all_rounds, rounds_by, rounds_answer, Leaves, LeavesWords}
use Rattle.std.specs.Prelude.{Option, Some, None, Result, Ok, Err}
use Rattle.replace.specs.declared.NotConstant.{NotConstant}
use Rattle.rounds.specs.declared.Rounds.{Rounds}
use Rattle.rounds.proofs.kept.Steps.{ready_of, ready_so}
use Rattle.rounds.proofs.kept.Looping.{Going, going_most, going_first, going_done, going_refused, going_on, going_less}

-- what an answer holds
pub held : (q : Result (Option ℕ) NotConstant) (o p : Option ℕ) → q ≡ Ok o → o ≡ p → q ≡ Ok p
held q o p e f = subst (λ (x : Option ℕ). q ≡ Ok x) f e

module _ (rows : List Row) (old : List ℕ) (len : ℕ) (scoped : Bool) (first : ℕ) where
  abbrev ws : List ℕ
  ws = take len old

  abbrev k : ℕ
  k = length (read numbered ws)

  abbrev ending : Outcome (List ℕ)
  ending = all_rounds rows scoped first ws

  abbrev operations_in : List ℕ → ℕ
  operations_in vs = all_operations (read numbered vs)

  abbrev done_with : ℕ → ℕ → Result Rounds NotConstant
  done_with n m = Ok (record { words = n; made = m })

  -- ---- what the loop keeps

  pub record Loop (tokens : List ℕ) (words made : ℕ) : Type 0 where
    pub going : Going rows scoped k first ws (take words tokens) made
    pub most : words ≤ len
    pub rest : drop len tokens ≡ drop len old
    pub long : length tokens ≡ length old

  abbrev pub Ends : Result Rounds NotConstant → List ℕ → Type 0
  Ends r out = (r ≡ rounds_answer rows old len scoped first) × LeavesWords rows old len scoped first out

  module _ (good : T (extractable rows first (take len old))) (within : len ≤ length old) (few : len ≤ 1927) where
    ws_long : length ws ≡ len
    ws_long = length-take-le len old within

    pub loop_starts : Loop old len 0
    loop_starts = record { going = going_first rows scoped k first ws refl (ready_of rows first ws good); most = omega arith; rest = refl; long = refl }

    module _ {tokens : List ℕ} {words made : ℕ} (l : Loop tokens words made) where
      abbrev here : List ℕ
      here = take words tokens

      here_long : length here ≡ words
      here_long = length-take-le words tokens (omega (arith, l.long, l.most, within))

      -- what the next round asks for
      pub few_made : made ≤ 1927
      few_made = omega (arith, going_most rows scoped k first ws here made l.going, ws_long, few)

      pub ready : T (extractable rows (first + made) here) × (words ≤ length tokens) × (words ≤ 1927)
      ready = (ready_so rows (first + made) here l.going.ready, omega (arith, l.long, l.most, within), omega (arith, l.most, few))

      ends_with : (o : Outcome (List ℕ)) → ending ≡ o → (r : Result Rounds NotConstant) → r ≡ rounds_by o k → (out : List ℕ) → Leaves o len old out → Ends r out
      unfolding rounds_answer
      ends_with o z r a out b = (a ∙ ap (λ (o : Outcome (List ℕ)). rounds_by o k) (sym z), subst (λ (o : Outcome (List ℕ)). Leaves o len old out) (sym z) b)

      module _ (q : Result (Option ℕ) NotConstant) (out : List ℕ) (t : TurnedSo rows tokens words scoped (first + made) q out) where
        pub turn_last : q ≡ Ok None → Ends (Ok (record { words = words; made = made })) out
        unfolding rounds_by all_rounds
        turn_last w =
            let u = subst (λ (q : Result (Option ℕ) NotConstant). TurnedSo rows tokens words scoped (first + made) q out) w t in
            let d = going_done rows scoped k first ws here made l.going u.0 in
            ends_with (ok here) d.0 (Ok (record { words = words; made = made })) (ap₂ done_with (sym here_long) d.1) out
            (ap₂ (λ (n : ℕ) (x : List ℕ). take n x) here_long u.1, ap (drop len) u.1 ∙ l.rest)

        pub turn_refused : (e : NotConstant) → q ≡ Err e → Ends (Err e) out
        unfolding rounds_by all_rounds
        turn_refused e w =
            let u = subst (λ (q : Result (Option ℕ) NotConstant). TurnedSo rows tokens words scoped (first + made) q out) w t in
            ends_with (refused u.2.0) (going_refused rows scoped k first ws here made l.going u.0 u.1 u.2.0 u.2.1) (Err e) refl out
            (ap (drop len) u.3 ∙ l.rest)

        module _ (n : ℕ) (w : q ≡ Ok (Some n)) where
          abbrev u : (p : ℕ) × (best_place here (name_in rows) scoped ≡ some p) × Wrote (extract_words (numbered_at here p) (first + made) here) tokens n out
          u = subst (λ (q : Result (Option ℕ) NotConstant). TurnedSo rows tokens words scoped (first + made) q out) w t

          abbrev vs : List ℕ
          vs = u.2.new

          next : Going rows scoped k first ws vs (suc made)
          next = going_on rows scoped k first ws here made l.going u.0 u.1 vs u.2.is

          short_now : n ≤ len
          short_now = omega (arith, next.short, ws_long, u.2.count)

          front : take n out ≡ vs
          front = ap (take n) u.2.words ∙ take_at vs (drop n tokens) n (sym u.2.count)

          past : drop len out ≡ drop len old
          past =
              let after : drop n out ≡ drop n tokens = ap (drop n) u.2.words ∙ drop_at vs (drop n tokens) n (sym u.2.count) in
              let split : n + (len - n) ≡ len = omega (arith, short_now) in
              ap (λ (j : ℕ). drop j out) (sym split) ∙ sym (drop-drop (len - n) n out) ∙ ap (drop (len - n)) after ∙ drop-drop (len - n) n tokens
              ∙ ap (λ (j : ℕ). drop j tokens) split ∙ l.rest

          pub turn_next : Loop out n (made + 1) × (operations_in (take n out) < operations_in here)
          turn_next =
              let z : suc made ≡ made + 1 = omega arith in
              let whole = length-append vs (drop n tokens) in
              let less = going_less rows scoped k first ws here made l.going u.0 u.1 vs u.2.is in (
                record {
                  going = subst (λ (m : ℕ). Going rows scoped k first ws (take n out) m) z (subst (λ (x : List ℕ). Going rows scoped k first ws x (suc made)) (sym front) next);
                  most = short_now;
                  rest = past;
                  long = omega (arith, ap length u.2.words, whole, length-drop n tokens, l.long, short_now, within, u.2.count);
                },
                subst (λ (x : List ℕ). operations_in x < operations_in here) (sym front) (omega (arith, less)),
              )
