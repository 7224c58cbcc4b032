-- What `replace` that is called from another language returns and leaves in each slice that is lent (01, "Rewriting"). Assumes nothing.
use Rattle.std.specs.Prelude.{ℕ, ◌*◌, ◌/◌, ◌&&◌, List, ◌∷◌, length, drop, Result, Ok, Err}
use Rattle.spec_cse.specs.AnswerRows.{no_deeper}
use Rattle.words.specs.words.Words.{tree_of, name_of}
use Rattle.replace.specs.closed.Closed.{endless}
use Rattle.replace.specs.replacing.Replacing.{replaced_words, replaceable}
use Rattle.replace.specs.Answers.{Replacement, replacement, short_of_room}
use Rattle.replace.specs.unchanged.Unchanged.{unchanged}
use Rattle.replace.specs.declared.ReplaceError.{ReplaceError}
use Rattle.replace.specs.declared.ReplaceError.TheVariants as replace_error
use Rattle.capi.specs.Calls.{Calls}

-- Words and a target that stand deeper than an answer's are as words that aren't trees; and where a coefficient is refused nothing is written.
unfoldable pub replace_call : List ℕ → List ℕ → ℕ → ℕ → List ℕ → Replacement
unfolding no_deeper replaceable short_of_room endless tree_of name_of replacement unchanged
replace_call ws part name places old =
    let sound = (no_deeper ws && no_deeper part) && replaceable ws part name in
    let short = short_of_room ws part (2 * (places / 3)) (length old) in
    let without_end = endless (tree_of part) (name_of name) in
    unchanged (replacement sound short without_end (replaced_words (tree_of part) (name_of name) ws) ws old) old

-- as for the other rewritings, and 10 for a rebuilt coefficient outside the constants
unfoldable pub replaced_number : Result ℕ ReplaceError → ℕ
replaced_number (Ok n) = 0
replaced_number (Err replace_error.Refused) = 10
replaced_number (Err replace_error.Broken) = 253
replaced_number (Err replace_error.NoRoom) = 254

unfoldable pub replaced_answer : Result ℕ ReplaceError → List ℕ → List ℕ
replaced_answer (Ok n) old = n ∷ drop 1 old
replaced_answer (Err replace_error.Refused) old = old
replaced_answer (Err replace_error.Broken) old = old
replaced_answer (Err replace_error.NoRoom) old = old

abbrev pub Replaces : Replacement → List ℕ → List ℕ → ℕ → List ℕ → List ℕ → Type 0
Replaces w old_out old_answer = Calls 1 (replaced_number w.answer) w.out (replaced_answer w.answer old_answer) old_out old_answer
