-- What the count of a table's bytes asks of its words, and how many fields its rows have. Assumes nothing.
use Rattle.std.specs.Prelude.{ℕ, zero, suc, ◌+◌, ◌*◌, ◌/◌, ◌≤◌, ◌<◌, ◌≡◌, List, length, get_or, take, drop}

pub record Shape (row : List ℕ) : Type 0 where
  pub wide : length row ≡ 35
  pub kind_small : get_or row 0 0 + get_or row 1 0 < 29
  pub few : get_or row 2 0 ≤ 32
  pub constant : get_or row 0 0 + get_or row 1 0 ≡ 1 → 2 ≤ get_or row 2 0

pub record Shapes (ws : List ℕ) : Type 0 where
  pub whole : length ws ≡ 35 * (length ws / 35)
  pub few_rows : length ws / 35 ≤ 1024
  pub each_row : (i : ℕ) → i < length ws / 35 → Shape (take 35 (drop (35 * i) ws))

-- the fields of n rows
unfoldable pub field_count : ℕ → List ℕ → ℕ
field_count zero ws = 0
field_count (suc n) ws = get_or ws 2 0 + field_count n (drop 35 ws)
