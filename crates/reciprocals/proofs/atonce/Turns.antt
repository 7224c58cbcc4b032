-- Rules one after another (specs, Rules) are one pass, and leave a tree as it is exactly before the first that changes it: by what one rule does. Assumes nothing.
use Prim.Native.Nat.{ℕ, zero, suc, ◌+◌, ◌≤◌, ◌<◌}
use native.Mathlib.Omega.{arith}
use mathlib.Core.Path.{◌≡◌, refl, sym, ◌∙◌, ap}
use Rattle.spec_tree.specs.Tree.{Tree}
use Rattle.reciprocals.specs.atonce.Rules.{in_turn}
use Rattle.reciprocals.proofs.atonce.Bits.{either}

module _ (rule : ℕ → Tree → Tree) (m : ℕ) where
  pub turns_at_once :
      (settled : ℕ → Tree → Tree) → ((s : ℕ) → s < m → (t : Tree) → settled s t ≡ settled (suc s) (rule s t)) → ((t : Tree) → settled m t ≡ t)
      → (n s : ℕ) → s + n ≡ m → (t : Tree) → in_turn rule n s t ≡ settled s t
  unfolding in_turn
  turns_at_once settled step last zero s e t = let q : m ≡ s = omega arith in sym (last t) ∙ ap (λ (i : ℕ). settled i t) q
  turns_at_once settled step last (suc n) s e t = turns_at_once settled step last n (suc s) (omega arith) (rule s t) ∙ sym (step s (omega arith) t)

  module _
      (change : ℕ → Tree → ℕ)
      (unmoved : (s : ℕ) → s < m → (t : Tree) → s < change s t → rule s t ≡ t)
      (next : (s : ℕ) (t : Tree) → s < change s t → change (suc s) t ≡ change s t) where
    pub turns_stay : (n s : ℕ) → s + n ≤ m → (t : Tree) → s + n ≤ change s t → in_turn rule n s t ≡ t
    unfolding in_turn
    turns_stay zero s l t h = refl
    turns_stay (suc n) s l t h =
        ap (in_turn rule n (suc s)) (unmoved s (omega arith) t (omega arith))
        ∙ turns_stay n (suc s) (omega arith) t (let e = next s t (omega arith) in omega arith)

    module _
        (least : (s : ℕ) → s ≤ m → (t : Tree) → s ≤ change s t)
        (measure : Tree → ℕ)
        (lower : (s : ℕ) (t : Tree) → measure (rule s t) ≤ measure t)
        (lowers : (s : ℕ) → s < m → (t : Tree) → change s t ≡ s → measure (rule s t) < measure t) where
      turns_lower : (n s : ℕ) (t : Tree) → measure (in_turn rule n s t) ≤ measure t
      unfolding in_turn
      turns_lower zero s t = omega arith
      turns_lower (suc n) s t = omega (arith, turns_lower n (suc s) (rule s t), lower s t)

      pub turns_move : (n s : ℕ) → s + n ≤ m → (t : Tree) → change s t < s + n → in_turn rule n s t ≡ t → ⊥
      unfolding in_turn
      turns_move zero s l t h e = (let q = least s (omega arith) t in omega arith)
      turns_move (suc n) s l t h e =
          either (change s t) s ⊥
          (λ q. (let a = lowers s (omega arith) t (let r = least s (omega arith) t in omega arith) in
          let b = turns_lower n (suc s) (rule s t) in
          let c : measure (in_turn rule n (suc s) (rule s t)) ≡ measure t = ap measure e in
          omega arith))
          (λ q. turns_move n (suc s) (omega arith) t (let r = next s t q in omega arith) (ap (in_turn rule n (suc s)) (sym (unmoved s (omega arith) t q)) ∙ e))
