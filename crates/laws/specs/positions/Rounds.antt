-- Rounds and reciprocals on one list of trees, results first and then bindings by number (01, "Extraction", "Reciprocals"): a binding's name follows from where it
-- stands. And on the words of these trees, as places. Assumes nothing.
use Prim.Native.Nat.{ℕ, zero, suc, ◌+◌}
use Rattle.std.specs.Prelude.{Bool, pos, length, get_or, take, drop}
use Rattle.std.proofs.Math.Option.{none, some}
use mathlib.Core.List.{List, [], ◌∷◌, ◌++◌, map}
use Rattle.spec_tree.specs.Outcome.{Outcome, ok, ◌>>=◌, each}
use Rattle.spec_tree.specs.Tree.{xname, Tree, Const, Op, nil, ◌◂◌}
use Rattle.spec_tree.specs.Kinds.{Div}
use Rattle.spec_tree.specs.Facts.{all_nodes}
use Rattle.spec_tree.specs.Tokens.{all_tokens, read, numbered}
use Rattle.spec_rewrite.specs.Rewrite.{replace, replace_divisor}
use Rattle.spec_cse.specs.Extract.{Binding, State, divisors, distinct, shared_divisors}
use Rattle.laws.specs.positions.Shown.{best_by, sort_by}
use Rattle.laws.specs.positions.Places.{numbered_at, best_place, divisors_to_bind}

-- bindings by number
unfoldable pub by_number : ℕ → List Tree → List Binding
by_number i [] = []
by_number i (e ∷ l) = record { name = xname i; expr = e } ∷ by_number (suc i) l

-- the number after those of the bindings, which stand after k results and are numbered from `first` on
unfoldable pub next_number : ℕ → ℕ → List Tree → ℕ
next_number k first ts = first + length (drop k ts)

unfoldable pub state_of : ℕ → ℕ → List Tree → State
unfolding by_number next_number
state_of k first ts = record { results = take k ts; lets = by_number first (drop k ts); next = next_number k first ts }

-- each tree with the target replaced, and the target after them
unfoldable pub extract_on : Tree → ℕ → List Tree → Outcome (List Tree)
unfolding replace each
extract_on target n ts = each (λ e. replace target (xname n) e) ts >>= λ us. ok (us ++ (target ∷ []))

-- each tree with divisions by d as products, and 1 / d after them
unfoldable pub bind_on : Tree → ℕ → List Tree → List Tree
unfolding replace_divisor
bind_on d n ts = map (λ e. replace_divisor d (xname n) e) ts ++ (Op Div (Const (pos 1) ◂ d ◂ nil) ∷ [])

unfoldable pub bind_each_on : List Tree → ℕ → List Tree → List Tree
unfolding bind_on
bind_each_on [] n ts = ts
bind_each_on (d ∷ l) n ts = bind_each_on l (suc n) (bind_on d n ts)

module _ (shown : Tree → List ℕ) where
  unfoldable pub rounds_on : ℕ → Bool → ℕ → ℕ → List Tree → Outcome (List Tree)
  unfolding best_by extract_on next_number
  rounds_on zero scoped k first ts = ok ts
  rounds_on (suc fuel) scoped k first ts =
      elim (best_by shown scoped ts) [ none ↦ ok ts | some c ↦ (extract_on c.tree (next_number k first ts) ts >>= λ us. rounds_on fuel scoped k first us) ]

  unfoldable pub reciprocals_on : Bool → ℕ → ℕ → List Tree → List Tree
  unfolding bind_each_on sort_by shared_divisors distinct divisors all_nodes next_number
  reciprocals_on scoped k first ts = bind_each_on (sort_by shown (shared_divisors scoped ts (distinct [] (divisors (all_nodes ts))))) (next_number k first ts) ts

-- ---- the same on words, with numbers for the names of the list's symbols

unfoldable pub extract_words : Tree → ℕ → List ℕ → Outcome (List ℕ)
unfolding extract_on read all_tokens
extract_words target n ws = extract_on target n (read numbered ws) >>= λ us. ok (all_tokens (λ s. get_or s 0 0) us)

unfoldable pub bind_words : Tree → ℕ → List ℕ → List ℕ
unfolding bind_on read all_tokens
bind_words d n ws = all_tokens (λ s. get_or s 0 0) (bind_on d n (read numbered ws))

-- the tree at the best place, until there is none
unfoldable pub rounds_words : (ℕ → List ℕ) → ℕ → Bool → ℕ → ℕ → List ℕ → Outcome (List ℕ)
unfolding best_place extract_words numbered_at next_number read
rounds_words name_at zero scoped k first ws = ok ws
rounds_words name_at (suc fuel) scoped k first ws =
    elim (best_place ws name_at scoped) [
      | none ↦ ok ws
      | some p ↦ (extract_words (numbered_at ws p) (next_number k first (read numbered ws)) ws >>= λ vs. rounds_words name_at fuel scoped k first vs)
    ]

unfoldable pub bind_each_words : List Tree → ℕ → List ℕ → List ℕ
unfolding bind_words
bind_each_words [] n ws = ws
bind_each_words (d ∷ l) n ws = bind_each_words l (suc n) (bind_words d n ws)

-- the trees at the places of the divisors to bind, as they are before the first is bound
unfoldable pub reciprocals_words : (ℕ → List ℕ) → Bool → ℕ → ℕ → List ℕ → List ℕ
unfolding bind_each_words divisors_to_bind numbered_at next_number read
reciprocals_words name_at scoped k first ws = bind_each_words (map (numbered_at ws) (divisors_to_bind ws name_at scoped)) (next_number k first (read numbered ws)) ws
