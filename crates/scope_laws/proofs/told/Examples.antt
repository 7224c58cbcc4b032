-- The two forms of a scope at work on small lists: place by place on words, and by trees, told as words. Assumes nothing.
use Prim.Native.Nat.{ℕ}
use mathlib.Core.Path.{◌≡◌, refl}
use mathlib.Core.Bool.{true}
use mathlib.Core.List.{List, [], ◌∷◌}
use Rattle.spec_tree.specs.Bytes.{bytes}
use Rattle.spec_tree.specs.Outcome.{Outcome, ok, refused, by, ◌>>=◌}
use Rattle.spec_tree.specs.Rows.{Row, row_sym}
use Rattle.spec_tree.specs.Tokens.{name_in, read, numbered}
use Rattle.spec_tree.proofs.TokenCode.{renamed}
use Rattle.spec_rewrite.specs.Rewrite.{replace_divisor}
use Rattle.spec_cse.specs.AnswerRows.{result_row}
use Rattle.spec_cse.specs.Scope.{area_rows}
use Rattle.laws.specs.positions.Shown.{cse_scope_by}
use Rattle.laws.proofs.positions.BestPlace.{text_of}
use Rattle.fusion.specs.place.Whole.{Told, scope_told}
use Rattle.scope_laws.specs.told.Told.{told}

rows : List Row
rows = row_sym (bytes "i") ∷ row_sym (bytes "a") ∷ row_sym (bytes "b") ∷ row_sym (bytes "y") ∷ row_sym (bytes "c") ∷ []

by_trees : List ℕ → Outcome Told
by_trees ws = cse_scope_by (text_of [] (name_in rows)) 9 area_rows true 0 (read numbered ws) >>= λ a. ok (told result_row a)

by_places : List ℕ → Outcome Told
by_places ws = scope_told rows 9 area_rows result_row 0 ws

-- select(i, a, b) + select(i, b, a): one match with two names
two : List ℕ
two = 131 ∷ 219 ∷ 0 ∷ 192 ∷ 384 ∷ 219 ∷ 0 ∷ 384 ∷ 192 ∷ []

two_same : by_places two ≡ by_trees two
unfolding by_places by_trees rows two scope_told cse_scope_by told name_in read renamed
two_same = refl

two_steps : (by_places two >>= λ t. ok t.steps) ≡ ok 1
unfolding by_places rows two scope_told name_in read
two_steps = refl

-- select(i, select(y, a, b), b) + select(i, b, a): a match in an arm
nested : List ℕ
nested = 131 ∷ 219 ∷ 0 ∷ 219 ∷ 576 ∷ 192 ∷ 384 ∷ 384 ∷ 219 ∷ 0 ∷ 384 ∷ 192 ∷ []

nested_same : by_places nested ≡ by_trees nested
unfolding by_places by_trees rows nested scope_told cse_scope_by told name_in read renamed
nested_same = refl

nested_steps : (by_places nested >>= λ t. ok t.steps) ≡ ok 1
unfolding by_places rows nested scope_told name_in read
nested_steps = refl

-- select(select(i, a, b), a, b) + branch(y, a, b): a switch in a key, and another kind of switch
key : List ℕ
key = 131 ∷ 219 ∷ 219 ∷ 0 ∷ 192 ∷ 384 ∷ 192 ∷ 384 ∷ 218 ∷ 576 ∷ 192 ∷ 384 ∷ []

key_same : by_places key ≡ by_trees key
unfolding by_places by_trees rows key scope_told cse_scope_by told name_in read renamed
key_same = refl

key_steps : (by_places key >>= λ t. ok t.steps) ≡ ok 3
unfolding by_places rows key scope_told name_in read
key_steps = refl

-- a / select(1, 2, 3) and b / select(1, 2, 3): a switch in a reciprocal
divisor : List ℕ
divisor = 134 ∷ 192 ∷ 219 ∷ 129 ∷ 257 ∷ 385 ∷ 134 ∷ 384 ∷ 219 ∷ 129 ∷ 257 ∷ 385 ∷ []

divisor_same : by_places divisor ≡ by_trees divisor
unfolding by_places by_trees rows divisor scope_told cse_scope_by told name_in read renamed
divisor_same = refl

divisor_steps : (by_places divisor >>= λ t. ok t.steps) ≡ ok 2
unfolding by_places rows divisor scope_told name_in read replace_divisor
divisor_steps = refl

-- with s = select(i, a, b): s + y and select(i, s + y, c)
ring : List ℕ
ring = 131 ∷ 219 ∷ 0 ∷ 192 ∷ 384 ∷ 576 ∷ 219 ∷ 0 ∷ 131 ∷ 219 ∷ 0 ∷ 192 ∷ 384 ∷ 576 ∷ 768 ∷ []

ring_same : by_places ring ≡ by_trees ring
unfolding by_places by_trees rows ring scope_told cse_scope_by told name_in read renamed
ring_same = refl

ring_told : by_places ring ≡ refused (by 11)
unfolding by_places rows ring scope_told name_in read
ring_told = refl
