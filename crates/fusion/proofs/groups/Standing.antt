-- Whether a switch is at each of some places, place by place. Assumes nothing.
use Prim.Native.Nat.{ℕ, zero, suc, ◌≤◌, ◌<◌}
use native.Mathlib.Omega.{arith}
use mathlib.Core.Path.{◌≡◌, sym, ◌∙◌, ap}
use mathlib.Core.Bool.{Bool, false, ◌&&◌}
use mathlib.Core.List.{List, [], ◌∷◌}
use borrow.Author.Tests.{lt-ltb, le-ltb}
use lib.ListN.{length, get_or}
use lib.Dec.{T, ltb, ltb→lt}
use Rattle.spec_tree.specs.Bytes.{every}
use Rattle.spec_tree.proofs.Logic.{and_left, and_right}
use Rattle.laws.specs.switches.Switches.{switch_at}
use Rattle.fusion.specs.switches.Listing.{switch_word}
use Rattle.fusion.proofs.switches.Words.{word_at}
use Rattle.fusion.specs.groups.Answers.{switch_stands, all_stand}

-- ---- one place

module _ (ws : List ℕ) (p : ℕ) where
  pub past_end : length ws ≤ p → false ≡ switch_stands ws p
  unfolding switch_stands
  past_end h = sym (ap (λ (b : Bool). b && switch_at ws p) (le-ltb p (length ws) h))

  pub by_word : p < length ws → (b : Bool) → b ≡ switch_word (get_or ws p 0) → b ≡ switch_stands ws p
  unfolding switch_stands
  by_word h b e = e ∙ word_at ws p ∙ sym (ap (λ (c : Bool). c && switch_at ws p) (lt-ltb p (length ws) h))

  pub stands_inside : T (switch_stands ws p) → p < length ws
  unfolding switch_stands
  stands_inside t = ltb→lt p (length ws) (and_left (ltb p (length ws)) (switch_at ws p) t)

  pub stands_switch : T (switch_stands ws p) → T (switch_at ws p)
  unfolding switch_stands
  stands_switch t = and_right (ltb p (length ws)) (switch_at ws p) t

-- ---- all places

each_passes : (test : ℕ → Bool) (l : List ℕ) (i : ℕ) → T (every test l) → i < length l → T (test (get_or l i 0))
unfolding every
each_passes test [] i t h = absurd (omega arith)
each_passes test (q ∷ l) zero t h = and_left (test q) (every test l) t
each_passes test (q ∷ l) (suc i) t h = each_passes test l i (and_right (test q) (every test l) t) (omega arith)

module _ (ws ps : List ℕ) where
  pub each_stands : T (all_stand ws ps) → (i : ℕ) → i < length ps → T (switch_stands ws (get_or ps i 0))
  unfolding all_stand
  each_stands t i h = each_passes (switch_stands ws) ps i t h
