-- The definitions at work, on five results: select(i, a, select(b, a, b)), branch(i, a, b), select(i, b, a), the first again, and
-- select(branch(i, a, b), a, b). Assumes nothing.
use Prim.Native.Nat.{ℕ}
use mathlib.Core.Path.{◌≡◌, refl}
use mathlib.Core.Bool.{true, false}
use mathlib.Core.Option.{some}
use mathlib.Core.List.{List, [], ◌∷◌}
use Rattle.spec_tree.specs.Tokens.{trees_in}
use Rattle.laws.specs.switches.Switches.{switch_places, arm_places}
use Rattle.laws.specs.switches.Groups.{joins_at, group_first, group_numbers, member_places}
use Rattle.laws.specs.switches.Columns.{column_words, columns_length}

words : List ℕ
words =
    219 ∷ 0 ∷ 192 ∷ 219 ∷ 384 ∷ 192 ∷ 384
    ∷ 218 ∷ 0 ∷ 192 ∷ 384
    ∷ 219 ∷ 0 ∷ 384 ∷ 192
    ∷ 219 ∷ 0 ∷ 192 ∷ 219 ∷ 384 ∷ 192 ∷ 384
    ∷ 219 ∷ 218 ∷ 0 ∷ 192 ∷ 384 ∷ 192 ∷ 384
    ∷ []

five_trees : trees_in words ≡ some 5
unfolding trees_in words
five_trees = refl

-- the one at 3 is in an arm, and those at 15 and 23 were met before
their_places : switch_places words ≡ 0 ∷ 7 ∷ 11 ∷ 22 ∷ []
unfolding switch_places words
their_places = refl

first_arms : arm_places words 0 ≡ 2 ∷ 3 ∷ []
unfolding arm_places words
first_arms = refl

key_passed : arm_places words 22 ≡ 27 ∷ 28 ∷ []
unfolding arm_places words
key_passed = refl

-- a Branch is never in one match with a Select
apart : joins_at words 0 7 ≡ false
unfolding joins_at words
apart = refl

groups : group_numbers words (switch_places words) ≡ 0 ∷ 1 ∷ 3 ∷ []
unfolding group_numbers switch_places words
groups = refl

third_joins : group_first words (switch_places words) 2 ≡ 0
unfolding group_first switch_places words
third_joins = refl

first_group : member_places words (switch_places words) 0 ≡ 0 ∷ 11 ∷ []
unfolding member_places switch_places words
first_group = refl

-- a and b; select(b, a, b) and a
first_column : column_words words (0 ∷ 11 ∷ []) 0 ≡ 192 ∷ 384 ∷ []
unfolding column_words words
first_column = refl

second_column : column_words words (0 ∷ 11 ∷ []) 1 ≡ 219 ∷ 384 ∷ 192 ∷ 384 ∷ 192 ∷ []
unfolding column_words words
second_column = refl

both_columns : columns_length words (0 ∷ 11 ∷ []) 2 ≡ 7
unfolding columns_length words
both_columns = refl
