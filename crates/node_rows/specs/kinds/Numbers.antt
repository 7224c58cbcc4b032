-- The number under which the table of kinds has a row's kind and default flag. Assumes nothing.
use Rattle.std.specs.Prelude.{ℕ, Bool, cond, eqb, ltb}
use Rattle.spec_tree.specs.Kinds.{Select, SelectOr}

-- the first number past the table
abbrev pub no_kind : ℕ
no_kind = 29

-- a Select with a default has a number of its own, and no row has a kind past Select
abbrev pub kind_number : ℕ → Bool → ℕ
kind_number k default = cond (eqb k Select) (cond default SelectOr Select) (cond (ltb Select k) no_kind k)
