-- The answers at work: a symbol under a function, in a key and in an arm, a whole switch, and a switch in a key. Assumes nothing.
use Rattle.std.specs.Prelude.{Ok, Err}
use Rattle.words.specs.declared.fault.Fault.TheVariants as fault
use Rattle.std.proofs.Common.{◌≡◌, ℕ, List, [], ◌∷◌, replicate, refl}
use Rattle.spec_rewrite.specs.Rewrite.{replace_outside_arms}
use Rattle.words.specs.words.Answers.{rewriting}

-- q, and `__m0`
abbrev target : List ℕ
target = 192 ∷ []

abbrev name : ℕ
name = 128

-- sin(q), select(q, q)
abbrev trees : List ℕ
trees = 72 ∷ 192 ∷ 155 ∷ 192 ∷ 192 ∷ []

pub record Examples : Type 0 where
  count : (rewriting replace_outside_arms trees target name (replicate 6 9)).answer ≡ Ok 5
  key_only : (rewriting replace_outside_arms trees target name (replicate 6 9)).out ≡ 72 ∷ 128 ∷ 155 ∷ 128 ∷ 192 ∷ 9 ∷ []
  -- the switch itself
  whole : (rewriting replace_outside_arms trees (155 ∷ 192 ∷ 192 ∷ []) name (replicate 5 9)).out ≡ 72 ∷ 192 ∷ 128 ∷ 9 ∷ 9 ∷ []
  -- select(select(q, q), q)
  key_of_key : (rewriting replace_outside_arms (155 ∷ 155 ∷ 192 ∷ 192 ∷ 192 ∷ []) target name (replicate 5 9)).out ≡ 155 ∷ 155 ∷ 128 ∷ 192 ∷ 192 ∷ []
  -- branch(q, q, q) and clamp(q, q, q)
  branch : (rewriting replace_outside_arms (218 ∷ 192 ∷ 192 ∷ 192 ∷ []) target name (replicate 4 9)).out ≡ 218 ∷ 128 ∷ 192 ∷ 192 ∷ []
  clamp : (rewriting replace_outside_arms (217 ∷ 192 ∷ 192 ∷ 192 ∷ []) target name (replicate 4 9)).out ≡ 217 ∷ 128 ∷ 128 ∷ 128 ∷ []
  no_room : (rewriting replace_outside_arms trees target name (replicate 4 9)).answer ≡ Err fault.NoRoom
  broken : (rewriting replace_outside_arms (155 ∷ 192 ∷ []) target name (replicate 4 9)).out ≡ replicate 4 9

pub examples : Examples
unfolding rewriting replace_outside_arms
examples =
    record { count = refl; key_only = refl; whole = refl; key_of_key = refl; branch = refl; clamp = refl; no_room = refl; broken = refl }
