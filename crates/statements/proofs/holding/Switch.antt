-- A word is a switch's by either definition. Assumes nothing.
use Prim.Native.Nat.{ℕ}
use native.Mathlib.Omega.{arith}
use borrow.Author.Tests.{leb-true}
use mathlib.Core.Path.{◌≡◌, refl, ap}
use mathlib.Core.Bool.{Bool, true, false, ◌&&◌}
use lib.Dec.{leb}
use Rattle.spec_tree.specs.Tokens.{kind_of, below_of, takes}
use Rattle.spec_tree.proofs.TokenLaws.{operation_takes}
use Rattle.replace.specs.outside.Part.{has_arms}
use Rattle.fusion.specs.switches.Listing.{switch_word}

pub word_arms : (w : ℕ) → switch_word w ≡ has_arms w
unfolding switch_word has_arms
word_arms w = go (leb 26 (kind_of w)) refl
  where
    go : (b : Bool) → leb 26 (kind_of w) ≡ b → (leb 26 (kind_of w) && leb 1 (takes w)) ≡ (leb 26 (kind_of w) && leb 1 (below_of w))
    go true q = ap (λ (n : ℕ). leb 26 (kind_of w) && leb 1 n) (operation_takes w (omega (arith, leb-true 26 (kind_of w) q)))
    go false q = rw q refl
