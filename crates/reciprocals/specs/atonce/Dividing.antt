-- Divisions by the divisors to bind become products all at once (01, "Reciprocals"). Rule k is that of the divisor of rank k, and the rules from s on
-- are applied. Assumes nothing.
use Rattle.std.specs.Prelude.{ℕ, min, Bool, ◌&&◌, eqb}
use Rattle.std.proofs.Math.Bool.{true, false}
use Rattle.std.proofs.Math.Option.{Option}
use Rattle.std.proofs.Math.Dec.{ltb}
use Rattle.spec_tree.specs.Tree.{Name, Tree, Forest, Sym, Const, Op, nil, ◌◂◌}
use Rattle.spec_tree.specs.Kinds.{Mul, Div}
use Rattle.reciprocals.specs.atonce.Rules.{rule_of}

module _ (rank : Tree → Option ℕ) (m s : ℕ) where
  -- the rule of a node, or m: that of its divisor, if it is a division
  unfoldable pub own_rule : ℕ → Forest → ℕ
  unfolding rule_of
  own_rule k nil = m
  own_rule k (a ◂ nil) = m
  own_rule k (a ◂ (b ◂ f)) = elim (eqb k Div) [ true ↦ rule_of rank m s b | false ↦ m ]

  -- the first rule that changes a tree, or m: the least one of its nodes
  unfoldable mutual
    unfolding own_rule

    pub change : Tree → ℕ
    change (Sym n) = m
    change (Const c) = m
    change (Op k f) = min (own_rule k f) (changes f)

    pub changes : Forest → ℕ
    changes nil = m
    changes (t ◂ f) = min (change t) (changes f)

  -- whether a division with these operands is replaced: its divisor has a rule, and no earlier rule changes the divisor
  unfoldable pub replaced : Forest → Bool
  unfolding rule_of change
  replaced nil = false
  replaced (a ◂ nil) = false
  replaced (a ◂ (b ◂ f)) = ltb (rule_of rank m s b) (change b)

  -- one pass: a / b becomes a * n_k where b is replaced by rule k, and any other node stays over its operands
  module _ (name : ℕ → Name) where
    unfoldable mutual
      unfolding replaced rule_of

      pub settled : Tree → Tree
      settled (Sym n) = Sym n
      settled (Const c) = Const c
      settled (Op k f) = elim (eqb k Div && replaced f) [ true ↦ Op Mul (settled_dividend f) | false ↦ Op k (settled_each f) ]

      pub settled_each : Forest → Forest
      settled_each nil = nil
      settled_each (t ◂ f) = settled t ◂ settled_each f

      pub settled_dividend : Forest → Forest
      settled_dividend nil = nil
      settled_dividend (a ◂ nil) = nil
      settled_dividend (a ◂ (b ◂ f)) = settled a ◂ Sym (name (rule_of rank m s b)) ◂ nil
