-- What `replace_or_leave` answers and leaves. Assumes nothing.
use Rattle.std.specs.Prelude.{◌≡◌, ℕ, ◌+◌, ◌≤◌, List, length, take, drop, Result, Ok, Err}
use Rattle.replace.specs.Answers.{Replacement}
use Rattle.replace.specs.declared.ReplaceError.{ReplaceError}

unfoldable pub words_left : Result ℕ ReplaceError → List ℕ → List ℕ → List ℕ
words_left (Ok n) new old = new
words_left (Err e) new old = old

-- the same answer, and nothing is written but what is answered
unfoldable pub unchanged : Replacement → List ℕ → Replacement
unfolding words_left
unchanged p old = record { answer = p.answer; out = words_left p.answer p.out old }

-- the first n words stand at a place, where there are as many and there was room
pub record Kept (words : List ℕ) (n at : ℕ) (old new : List ℕ) : Type 0 where
  pub long : length new ≡ length old
  pub kept : n ≤ length words → at + n ≤ length old → take n (drop at new) ≡ take n words
