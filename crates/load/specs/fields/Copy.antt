-- A copy of a name (01, "Sheet and printing"). Assumes nothing.
use Rattle.std.specs.Prelude.{ℕ, Bool, ◌&&◌, cond, List, ◌++◌, length, drop, leb}

-- a name has at most 32 bytes
abbrev pub has_room : List ℕ → List ℕ → Bool
has_room s old = leb (length s) 32 && leb (length s) (length old)

-- the bytes as words in front of what stood after them, or nothing written
abbrev pub copied : List ℕ → List ℕ → List ℕ
copied s old = cond (has_room s old) (s ++ drop (length s) old) old
