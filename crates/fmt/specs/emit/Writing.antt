-- What a writer of bytes does to the slice that it is lent, and where its text ends (01, "Text"). A writer never fails: bytes past the end are dropped, and a
-- place past the end stays one after it, so that a text was too long exactly where it ends past the slice. Assumes nothing.
use Rattle.std.specs.Prelude.{ℕ, suc, ◌+◌, ◌%◌, min, ◌≡◌, Bool, cond, List, map, length}
use Rattle.std.proofs.lemmas.List.Edits.{sets}

-- the place after a text that starts at a place
abbrev pub place_after : List ℕ → ℕ → List ℕ → ℕ
place_after old to text = min (to + length text) (suc (length old))

-- the bytes after it was written, or the same bytes where it was only measured
abbrev pub bytes_after : Bool → List ℕ → ℕ → List ℕ → List ℕ
bytes_after dry old to text = cond dry old (sets old to text)

-- a text was written, or measured where `dry`
pub record Writes (dry : Bool) (old : List ℕ) (to : ℕ) (text : List ℕ) (new : List ℕ) (end : ℕ) : Type 0 where
  pub ends : end ≡ place_after old to text
  pub leaves : new ≡ bytes_after dry old to text

-- words as bytes: what is above a byte is dropped
unfoldable pub low_bytes : List ℕ → List ℕ
low_bytes s = map (λ w. w % 256) s
