-- What a writer of texts that is called from another language returns and leaves in each slice that is lent (01, "Text"). Assumes nothing.
use Rattle.std.specs.Prelude.{ℕ, Bool, true, false, List, ◌∷◌, drop, Option, Some, None}
use Rattle.fmt.specs.writer.Answers.{Written}
use Rattle.fmt.specs.declared.writer.Pos.{Pos}
use Rattle.capi.specs.Calls.{Calls}

-- 0 for a tree's text, 253 for words that are no tree of an answer
unfoldable pub text_number : Option Pos → ℕ
text_number (Some p) = 0
text_number None = 253

-- the place after the tree's words and the place after its text, in front of what the answer held
unfoldable pub text_answer : Option Pos → List ℕ → List ℕ
text_answer (Some p) old = p.next ∷ (p.to ∷ drop 2 old)
text_answer None old = old

-- by whether the words stand no deeper than an answer's: deeper ones are as words that are no tree
unfoldable pub text_by : Bool → Written → List ℕ → Written
text_by true w old = w
text_by false w old = record { answer = None; bytes = old }

abbrev pub Texts : Written → List ℕ → List ℕ → ℕ → List ℕ → List ℕ → Type 0
Texts w old_out old_answer = Calls 2 (text_number w.answer) w.bytes (text_answer w.answer old_answer) old_out old_answer
