-- The facts of a word's tree from those of its operands. Assumes nothing.
use Prim.Native.Nat.{ℕ, suc, ◌+◌, ◌≤◌, ◌<◌, max}
use native.Mathlib.Omega.{arith}
use mathlib.Core.Path.{◌≡◌, refl, ◌∙◌, ap}
use mathlib.Core.Bool.{Bool, true, false, ◌||◌, cond}
use mathlib.Core.List.{List, [], ◌∷◌, map}
use borrow.Author.Tests.{eq-eqb, ne_eqb, le-leb, lt-leb}
use lib.ListN.{take}
use lib.Dec.{eqb}
use Rattle.std.specs.Int.{from_bool}
use Rattle.spec_tree.specs.Kinds.{is_select}
use Rattle.spec_tree.specs.Tree.{Tree}
use Rattle.spec_tree.specs.Facts.{total, greatest, some_of, first_and_greatest, cost, depth, has_symbol}
use Rattle.spec_tree.specs.Tokens.{kind_of, takes, flag}
use Rattle.spec_tree.proofs.TokenLaws.{Word, a_symbol, a_constant, an_operation, word_is, leaf_takes, symbol_tree, constant_tree, operation_tree, fold_operation, made}
use Rattle.spec_tree.proofs.FactLaws.{flag_one}
use Rattle.rounds.specs.measure.Columns.{own_operation, own_symbol, operand_costs}

pub leaf_own : (w : ℕ) → kind_of w ≤ 1 → own_operation w ≡ 0
unfolding own_operation
leaf_own w h = rw (le-leb (kind_of w) 1 h)

pub operation_own : (w : ℕ) → 1 < kind_of w → own_operation w ≡ 1
unfolding own_operation
operation_own w h = rw (lt-leb (kind_of w) 1 h)

pub symbol_own : (w : ℕ) → kind_of w ≡ 0 → own_symbol w ≡ 1
unfolding own_symbol
symbol_own w h = rw (eq-eqb (kind_of w) 0 h)

pub symbol_so : (w r : ℕ) → r ≡ from_bool (eqb (kind_of w) 0) → r ≡ own_symbol w
unfolding own_symbol
symbol_so w r e = e ∙ go (eqb (kind_of w) 0)
  where
    go : (b : Bool) → from_bool b ≡ cond b 1 0
    go true = refl
    go false = refl

pub other_own : (w : ℕ) → 0 < kind_of w → own_symbol w ≡ 0
unfolding own_symbol
other_own w h = let n : kind_of w ≡ 0 → ⊥ = λ e. omega arith in rw (ne_eqb (kind_of w) 0 n)

flags_greatest : (l : List Tree) → flag (some_of (map has_symbol l)) ≡ greatest (map (λ t. flag (has_symbol t)) l)
unfolding flag some_of greatest
flags_greatest [] = refl
flags_greatest (t ∷ l) = go (has_symbol t) (flags_greatest l)
  where
    go : (b : Bool) → flag (some_of (map has_symbol l)) ≡ greatest (map (λ t. flag (has_symbol t)) l) → flag (b || some_of (map has_symbol l)) ≡ max (flag b) (greatest (map (λ t. flag (has_symbol t)) l))
    go true e = omega (arith, flag_one (some_of (map has_symbol l)), e)
    go false e = omega (arith, e)

module _ (name_at : ℕ → List ℕ) (w : ℕ) (l : List Tree) where
  abbrev below : List Tree
  below = take (takes w) l

  pub cost_made : cost (made name_at w l) ≡ own_operation w + operand_costs (kind_of w) (map cost (take (takes w) l))
  unfolding cost operand_costs first_and_greatest total
  cost_made = go (word_is w)
    where
      leaf : kind_of w ≤ 1 → 0 ≡ own_operation w + operand_costs (kind_of w) (map cost below)
      leaf h = rw (leaf_own w h, leaf_takes w h) (go (is_select (kind_of w)))
        where
          go : (b : Bool) → 0 ≡ 0 + cond b (first_and_greatest []) (total [])
          go true = refl
          go false = refl

      go : Word w → cost (made name_at w l) ≡ own_operation w + operand_costs (kind_of w) (map cost below)
      go (a_symbol h) = rw (symbol_tree name_at w below h) (leaf (omega arith))
      go (a_constant h) = rw (constant_tree name_at w below h) (leaf (omega arith))
      go (an_operation h) =
          let e = fold_operation (λ n. 0) (λ c. 0) (λ k costs. suc (cond (is_select k) (first_and_greatest costs) (total costs))) (kind_of w) below in
          rw (operation_tree name_at w below h, operation_own w h) (omega (arith, e))

  pub depth_made : depth (made name_at w l) ≡ own_operation w + greatest (map depth (take (takes w) l))
  unfolding depth greatest
  depth_made = go (word_is w)
    where
      go : Word w → depth (made name_at w l) ≡ own_operation w + greatest (map depth below)
      go (a_symbol h) = rw (symbol_tree name_at w below h, leaf_own w (omega arith), leaf_takes w (omega arith))
      go (a_constant h) = rw (constant_tree name_at w below h, leaf_own w (omega arith), leaf_takes w (omega arith))
      go (an_operation h) =
          let e = fold_operation (λ n. 0) (λ c. 0) (λ k depths. suc (greatest depths)) (kind_of w) below in
          rw (operation_tree name_at w below h, operation_own w h) (omega (arith, e))

  pub symbol_made : flag (has_symbol (made name_at w l)) ≡ own_symbol w + greatest (map (λ t. flag (has_symbol t)) (take (takes w) l))
  unfolding has_symbol greatest flag
  symbol_made = go (word_is w)
    where
      go : Word w → flag (has_symbol (made name_at w l)) ≡ own_symbol w + greatest (map (λ t. flag (has_symbol t)) below)
      go (a_symbol h) = rw (symbol_tree name_at w below h, symbol_own w h, leaf_takes w (omega arith))
      go (a_constant h) = rw (constant_tree name_at w below h, other_own w (omega arith), leaf_takes w (omega arith))
      go (an_operation h) =
          let e = fold_operation (λ n. true) (λ c. false) (λ k tests. some_of tests) (kind_of w) below in
          rw (operation_tree name_at w below h, other_own w (omega arith)) (ap flag e ∙ (flags_greatest below ∙ omega arith))
