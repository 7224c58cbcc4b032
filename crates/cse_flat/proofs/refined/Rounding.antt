-- What rounds answer and leave: the words in front, or a refused coefficient (01, "Extraction"). Assumes nothing.
use Prim.Native.Nat.{ℕ}
use mathlib.Core.Path.{◌≡◌, refl, sym, ◌∙◌, ap, subst}
use mathlib.Core.Bool.{Bool}
use mathlib.Core.List.{List}
use lib.ListN.{length, take, drop}
use Rattle.spec_tree.specs.Outcome.{Refusal, Outcome, ok, refused}
use Rattle.spec_tree.specs.Rows.{Row}
use Rattle.spec_tree.specs.Tokens.{read, numbered}
use Rattle.rounds.specs.Rounds.{all_rounds, rounds_by, rounds_answer, Leaves, LeavesWords}
use Rattle.rounds.specs.declared.Rounds.{Rounds}
use Rattle.replace.specs.declared.NotConstant.{NotConstant}
use Rattle.std.specs.Prelude.{Result, Ok, Err}

-- by what rounds answer: the words stand in front and are as many, and so many bindings were made; or a coefficient was refused
abbrev pub Rounded : List Row → Bool → ℕ → List ℕ → Result Rounds NotConstant → List ℕ → Type 0
Rounded rows scoped first ws (Ok r) out =
    (all_rounds rows scoped first ws ≡ ok (take r.words out)) × (r.words ≡ length (take r.words out)) × (r.made ≡ length (drop (length (read numbered ws)) (read numbered (take r.words out))))
Rounded rows scoped first ws (Err e) out = (i : Refusal) × (all_rounds rows scoped first ws ≡ refused i)

module _ (rows : List Row) (old : List ℕ) (len : ℕ) (scoped : Bool) (first : ℕ) where
  abbrev ws : List ℕ
  ws = take len old

  by_outcome :
      (o : Outcome (List ℕ)) → all_rounds rows scoped first ws ≡ o → (out : List ℕ) → Leaves o len old out
      → Rounded rows scoped first ws (rounds_by o (length (read numbered ws))) out
  unfolding rounds_by
  by_outcome (ok vs) e out l =
      (e ∙ ap ok (sym l.0), ap length (sym l.0), ap (λ (us : List ℕ). length (drop (length (read numbered ws)) (read numbered us))) (sym l.0))
  by_outcome (refused i) e out l = (i, e)

  pub rounded : (r : Result Rounds NotConstant) (out : List ℕ) → (r ≡ rounds_answer rows old len scoped first) × LeavesWords rows old len scoped first out → Rounded rows scoped first ws r out
  unfolding rounds_answer
  rounded r out (e, l) = subst (λ (r : Result Rounds NotConstant). Rounded rows scoped first ws r out) (sym e) (by_outcome (all_rounds rows scoped first ws) refl out l)
