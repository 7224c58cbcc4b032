-- Trees that fusion leaves as they are: those without a switch outside arms (01, "Scoped fusion"). Assumes nothing.
use Rattle.std.specs.Prelude.{ℕ, Bool, true, false, not, ◌&&◌, List, [], ◌∷◌}
use Rattle.spec_tree.specs.Tree.{Tree, Forest, Sym, Const, Op, nil, ◌◂◌}
use Rattle.spec_tree.specs.Kinds.{is_switch}
use Rattle.replace.specs.outside.Part.{has_arms}

-- a switch with a key, as switches are collected
unfoldable pub switch_node : Tree → Bool
switch_node (Sym n) = false
switch_node (Const c) = false
switch_node (Op k nil) = false
switch_node (Op k (q ◂ f)) = is_switch k

-- no node is one: the first in reading order would be outside arms
unfoldable mutual
  unfolding switch_node

  pub switchless : Tree → Bool
  switchless (Sym n) = true
  switchless (Const c) = true
  switchless (Op k f) = not (switch_node (Op k f)) && switchless_each f

  pub switchless_each : Forest → Bool
  switchless_each nil = true
  switchless_each (t ◂ f) = switchless t && switchless_each f

unfoldable pub all_switchless : List Tree → Bool
unfolding switchless
all_switchless [] = true
all_switchless (t ∷ l) = switchless t && all_switchless l

-- of words: none is a switch's that has operands
unfoldable pub no_switch_words : List ℕ → Bool
unfolding has_arms
no_switch_words [] = true
no_switch_words (w ∷ ws) = not (has_arms w) && no_switch_words ws

-- those of some trees in which there is a switch
unfoldable pub with_switches : List Tree → List Tree
unfolding switchless
with_switches [] = []
with_switches (t ∷ l) = elim (switchless t) [ true ↦ with_switches l | false ↦ t ∷ with_switches l ]
