-- Whether a word is a switch's. Assumes nothing.
use Prim.Native.Nat.{ℕ, ◌≤◌, ◌<◌}
use native.Mathlib.Omega.{arith}
use mathlib.Core.Path.{◌≡◌, refl, sym, ◌∙◌, ap}
use mathlib.Core.Bool.{Bool, false, ◌&&◌}
use mathlib.Core.List.{List}
use borrow.Author.Tests.{le-leb, lt-leb}
use lib.ListN.{get_or}
use lib.Dec.{leb}
use Rattle.spec_tree.specs.Tokens.{kind_of, below_of, takes}
use Rattle.spec_tree.proofs.TokenLaws.{operation_takes}
use Rattle.laws.specs.switches.Switches.{switch_at}
use Rattle.fusion.specs.switches.Listing.{switch_word}

pub other_kind : (w : ℕ) → kind_of w < 26 → false ≡ switch_word w
unfolding switch_word
other_kind w h = sym (ap (λ (b : Bool). b && leb 1 (takes w)) (lt-leb 26 (kind_of w) h))

pub has_operand : (w : ℕ) → 26 ≤ kind_of w → leb 1 (below_of w) ≡ switch_word w
unfolding switch_word
has_operand w h = ap (leb 1) (sym (operation_takes w (omega (arith, h)))) ∙ sym (ap (λ (b : Bool). b && leb 1 (takes w)) (le-leb 26 (kind_of w) h))

pub word_at : (ws : List ℕ) (p : ℕ) → switch_word (get_or ws p 0) ≡ switch_at ws p
unfolding switch_word switch_at
word_at ws p = refl
