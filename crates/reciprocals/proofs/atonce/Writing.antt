-- What a pass from the left has still to write at a place: what is written of each tree that is read from there on. Assumes nothing.
use Prim.Native.Nat.{ℕ, zero, suc, ◌+◌, ◌≤◌, ◌<◌}
use native.Mathlib.Omega.{arith}
use mathlib.Core.Path.{◌≡◌, refl, sym, ◌∙◌, ap}
use mathlib.Core.Option.{some}
use mathlib.Core.List.{List, [], ◌∷◌, ◌++◌, append_assoc}
use lib.ListN.{length, drop}
use Rattle.spec_tree.specs.Facts.{size}
use Rattle.spec_tree.specs.Tokens.{read, numbered, trees_in}
use Rattle.spec_tree.proofs.TokenLaws.{complete_length}
use Rattle.laws.specs.positions.Places.{numbered_at}
use Rattle.reciprocals.specs.atonce.Places.{places_from, operand_places}
use Rattle.reciprocals.proofs.atonce.Ends.{roots, roots_next, places_inside}

module _ (ws : List ℕ) (n : ℕ) (complete : trees_in ws ≡ some n) (out : ℕ → List ℕ) where
  unfoldable pub all_out : List ℕ → List ℕ
  all_out [] = []
  all_out (q ∷ l) = out q ++ all_out l

  unfoldable pub remaining : ℕ → List ℕ
  unfolding all_out roots places_from
  remaining p = all_out (places_from ws (roots ws n complete p) p)

  out_append : (a b : List ℕ) → all_out (a ++ b) ≡ all_out a ++ all_out b
  unfolding all_out
  out_append [] b = refl
  out_append (q ∷ a) b = ap (λ (l : List ℕ). out q ++ l) (out_append a b) ∙ sym (append_assoc (out q) (all_out a) (all_out b))

  -- the tree at p, and what comes past it
  pub remaining_past : (p : ℕ) → p < length ws → remaining p ≡ out p ++ remaining (p + size (numbered_at ws p))
  unfolding remaining places_from all_out
  remaining_past p h = ap (λ (k : ℕ). all_out (places_from ws k p)) (roots_next ws n complete p h)

  -- the operands of the node at p, and what comes past it
  pub remaining_inside : (p : ℕ) → p < length ws → remaining (suc p) ≡ all_out (operand_places ws p) ++ remaining (p + size (numbered_at ws p))
  unfolding remaining
  remaining_inside p h =
      ap all_out (places_inside ws n complete p h)
      ∙ out_append (operand_places ws p) (places_from ws (roots ws n complete (p + size (numbered_at ws p))) (p + size (numbered_at ws p)))

  pub remaining_starts : remaining 0 ≡ all_out (places_from ws n 0)
  unfolding remaining roots
  remaining_starts = ap (λ (k : ℕ). all_out (places_from ws k 0)) (complete_length numbered ws n complete)

  none_left : (k : ℕ) (l : List ℕ) → length l ≤ k → drop k l ≡ []
  none_left zero [] h = refl
  none_left zero (w ∷ l) h = absurd (omega arith)
  none_left (suc k) [] h = refl
  none_left (suc k) (w ∷ l) h = none_left k l (omega arith)

  pub remaining_ends : (p : ℕ) → length ws ≤ p → remaining p ≡ []
  unfolding remaining roots read places_from all_out
  remaining_ends p h = ap (λ (l : List ℕ). all_out (places_from ws (length (read numbered l)) p)) (none_left p ws h)
