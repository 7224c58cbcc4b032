-- Marks of places (01, "Uses"): 1 for a place that passes and 0 for one that doesn't, and what each step of marking leaves. Assumes nothing.
use Rattle.std.specs.Prelude.{ℕ, zero, suc, ◌≤◌, ◌<◌, ◌≡◌, Bool, false, not, ◌&&◌, ◌||◌, cond, List, [], ◌∷◌, length, get_or, leb, ltb}
use Rattle.std.proofs.Math.Option.{none}
use Rattle.spec_tree.specs.Kinds.{is_switch}
use Rattle.spec_tree.specs.Tokens.{trees_in, flag, kind_of}
use Rattle.laws.specs.positions.Places.{in_arm_of, in_arm}

-- no word lacks an operand
abbrev pub Complete : List ℕ → Type 0
Complete ws = trees_in ws ≡ none → ⊥

-- one of the first n words is a switch
unfoldable pub switch_among : List ℕ → ℕ → Bool
switch_among ws zero = false
switch_among ws (suc n) = is_switch (kind_of (get_or ws n 0)) || switch_among ws n

unfoldable pub is_marked : List ℕ → ℕ → Bool
is_marked marks j = leb 1 (get_or marks j 0)

-- the marks of the n places from i on
unfoldable pub marks_of : (ℕ → Bool) → ℕ → ℕ → List ℕ
unfolding flag
marks_of test i zero = []
marks_of test i (suc n) = flag (test i) ∷ marks_of test (suc i) n

-- ---- the steps of marking, place by place

-- the marks from one place to another were cleared
pub record Cleared (old : List ℕ) (from to : ℕ) (new : List ℕ) : Type 0 where
  pub long : length new ≡ length old
  pub each : (j : ℕ) → get_or new j 0 ≡ cond (leb from j && ltb j to) 0 (get_or old j 0)

-- the first n were set
pub record Ones (old : List ℕ) (n : ℕ) (new : List ℕ) : Type 0 where
  pub long : length new ≡ length old
  pub each : (j : ℕ) → get_or new j 0 ≡ cond (ltb j n) 1 (get_or old j 0)

-- those in an arm of the switch at p were cleared
pub record Arms (ws : List ℕ) (p : ℕ) (old new : List ℕ) : Type 0 where
  pub long : length new ≡ length old
  pub each : (j : ℕ) → get_or new j 0 ≡ cond (in_arm_of ws p j) 0 (get_or old j 0)

-- in no arm of a switch at one of the first n places
unfoldable pub not_in_arms : List ℕ → ℕ → ℕ → Bool
not_in_arms ws n j = not (in_arm ws n j)

-- the places of the words have their marks, and what stands after them is unchanged
pub record Marking (ws : List ℕ) (test : ℕ → Bool) (old new : List ℕ) : Type 0 where
  pub long : length new ≡ length old
  pub here : (j : ℕ) → j < length ws → get_or new j 0 ≡ flag (test j)
  pub after : (j : ℕ) → length ws ≤ j → get_or new j 0 ≡ get_or old j 0
