-- How long the text of an expression can be: so many bytes for each node. Assumes nothing.
use Rattle.std.specs.Prelude.{ℕ, ◌*◌, ◌^◌, Bool, true, ltb}
use Rattle.spec_tree.specs.Tree.{Name, input, xname, mname, Tree, fold}
use Rattle.spec_tree.specs.Facts.{size}
use Rattle.spec_tree.specs.Passes.{all_of}

-- a name that an answer makes has a number below 2^64
unfoldable pub number_fits : Name → Bool
number_fits (input s) = true
number_fits (xname n) = ltb n (2 ^ 64)
number_fits (mname n) = ltb n (2 ^ 64)

unfoldable pub numbers_fit : Tree → Bool
unfolding fold number_fits all_of
numbers_fit = fold number_fits (λ c. true) (λ k tests. all_of tests)

-- a name of 32 bytes, with a comma and a space before it
abbrev pub bytes_a_node : ℕ
bytes_a_node = 34

-- room for the text of a tree
abbrev pub text_room : Tree → ℕ
text_room t = bytes_a_node * size t
