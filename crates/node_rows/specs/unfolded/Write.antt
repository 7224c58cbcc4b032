-- What a function that writes a run of words ensures: the words afterwards, and where the run ends. Assumes nothing.
use Rattle.std.specs.Prelude.{ℕ, ◌+◌, ◌≤◌, ◌≡◌, List, ◌++◌, length, take, drop}

-- `run` in its place, and all else as it was
unfoldable pub wrote : List ℕ → ℕ → List ℕ → List ℕ
wrote old at run = (take at old ++ run) ++ drop (at + length run) old

pub record Wrote (old : List ℕ) (at : ℕ) (run : List ℕ) (end : ℕ) (new : List ℕ) : Type 0 where
  pub now_is : new ≡ wrote old at run
  pub end_is : end ≡ at + length run
  pub fits : end ≤ length old
