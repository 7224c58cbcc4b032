-- What a rewriting that is called from another language returns and leaves in each slice that is lent (01, "Rewriting", "Reciprocals", "Scoped fusion").
-- Assumes nothing.
use Rattle.std.specs.Prelude.{ℕ, ◌≡◌, Bool, true, false, ◌&&◌, List, ◌∷◌, drop, Result, Ok, Err}
use Rattle.spec_tree.specs.Tree.{Name, Tree}
use Rattle.spec_cse.specs.AnswerRows.{no_deeper}
use Rattle.words.specs.words.Answers.{Rewriting, rewriting}
use Rattle.words.specs.declared.fault.Fault.{Fault}
use Rattle.words.specs.declared.fault.Fault.TheVariants as fault
use Rattle.capi.specs.Calls.{Calls}

-- words that stand deeper than an answer's are as words that aren't trees
unfoldable pub rewriting_within : Bool → Rewriting → List ℕ → Rewriting
rewriting_within true w old = w
rewriting_within false w old = record { answer = Err fault.Broken; out = old }

unfoldable pub rewrite_call : (Tree → Name → Tree → Tree) → List ℕ → List ℕ → ℕ → List ℕ → Rewriting
unfolding rewriting_within no_deeper rewriting
rewrite_call f ws part name old = rewriting_within (no_deeper ws && no_deeper part) (rewriting f ws part name old) old

abbrev pub Rewrote : Rewriting → Result ℕ Fault → List ℕ → Type 0
Rewrote w r out = (r ≡ w.answer) × (out ≡ w.out)

-- 0 where words were written, 253 for words that are no trees or a word that is no symbol's, 254 for too few places
unfoldable pub rewritten_number : Result ℕ Fault → ℕ
rewritten_number (Ok n) = 0
rewritten_number (Err fault.Broken) = 253
rewritten_number (Err fault.NoRoom) = 254

-- how many words were written, in front of what the answer held
unfoldable pub rewritten_answer : Result ℕ Fault → List ℕ → List ℕ
rewritten_answer (Ok n) old = n ∷ drop 1 old
rewritten_answer (Err fault.Broken) old = old
rewritten_answer (Err fault.NoRoom) old = old

abbrev pub Rewrites : Rewriting → List ℕ → List ℕ → ℕ → List ℕ → List ℕ → Type 0
Rewrites w old_out old_answer = Calls 1 (rewritten_number w.answer) w.out (rewritten_answer w.answer old_answer) old_out old_answer
