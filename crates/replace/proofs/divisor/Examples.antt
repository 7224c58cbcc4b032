-- The answers at work: 01's M5 and M6, a division of a division, and a divisor that stands above the line. Assumes nothing.
use Rattle.std.specs.Prelude.{Ok, Err}
use Rattle.words.specs.declared.fault.Fault.TheVariants as fault
use Rattle.std.proofs.Common.{◌≡◌, ℕ, List, [], ◌∷◌, replicate, refl}
use Rattle.spec_rewrite.specs.Rewrite.{replace_divisor}
use Rattle.words.specs.words.Answers.{rewriting}

-- 2, and `__x0`
abbrev two : List ℕ
two = 257 ∷ []

abbrev name : ℕ
name = 64

-- p / 2, q / 2
abbrev halves : List ℕ
halves = 134 ∷ 0 ∷ 257 ∷ 134 ∷ 192 ∷ 257 ∷ []

pub record Examples : Type 0 where
  both : (rewriting replace_divisor halves two name (replicate 7 9)).answer ≡ Ok 6
  both_written : (rewriting replace_divisor halves two name (replicate 7 9)).out ≡ 133 ∷ 0 ∷ 64 ∷ 133 ∷ 192 ∷ 64 ∷ 9 ∷ []
  -- (p / 2) / 2
  nested : (rewriting replace_divisor (134 ∷ 134 ∷ 0 ∷ 257 ∷ 257 ∷ []) two name (replicate 5 9)).out ≡ 133 ∷ 133 ∷ 0 ∷ 64 ∷ 64 ∷ []
  -- 2 / p
  above : (rewriting replace_divisor (134 ∷ 257 ∷ 0 ∷ []) two name (replicate 3 9)).out ≡ 134 ∷ 257 ∷ 0 ∷ []
  -- p / sin(2) by sin(2): one word less
  shorter : (rewriting replace_divisor (134 ∷ 0 ∷ 72 ∷ 257 ∷ []) (72 ∷ 257 ∷ []) name (replicate 4 9)).answer ≡ Ok 3
  no_room : (rewriting replace_divisor halves two name (replicate 5 9)).answer ≡ Err fault.NoRoom
  two_divisors : (rewriting replace_divisor halves (257 ∷ 0 ∷ []) name (replicate 6 9)).answer ≡ Err fault.Broken
  no_symbol : (rewriting replace_divisor halves two 257 (replicate 6 9)).answer ≡ Err fault.Broken
  no_operand : (rewriting replace_divisor (134 ∷ 0 ∷ []) two name (replicate 6 9)).out ≡ replicate 6 9

pub examples : Examples
unfolding rewriting replace_divisor
examples =
    record {
      both = refl;
      both_written = refl;
      nested = refl;
      above = refl;
      shorter = refl;
      no_room = refl;
      two_divisors = refl;
      no_symbol = refl;
      no_operand = refl;
    }
