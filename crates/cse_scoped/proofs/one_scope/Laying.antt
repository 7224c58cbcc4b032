-- Words laid over a table from a place on, one run after another (01, "Turned down", refusal 12). Assumes nothing.
use Prim.Native.Nat.{ℕ, zero, suc, ◌+◌, ◌≤◌}
use native.Mathlib.Omega.{arith}
use mathlib.Core.Path.{◌≡◌, refl, sym, ◌∙◌, ap, ap₂, subst}
use mathlib.Core.List.{List, [], ◌∷◌, ◌++◌}
use lib.ListN.{length, take, length-append}
use lib.Seq.{take-take}
use Rattle.fusion.specs.place.Overlay.{overlay}
use Rattle.fusion.proofs.tables.Laws.{overlay_none, overlay_length, overlay_append, overlay_row_last, overlay_next}
use Rattle.cse_scoped.specs.one_scope.Answers.{Laid}

-- what begins alike up to a place does so up to an earlier one
pub front_less : (m n : ℕ) → m ≤ n → (x y : List ℕ) → take n x ≡ take n y → take m x ≡ take m y
front_less m n h x y e = sym (take-take m n x h) ∙ (ap (take m) e ∙ take-take m n y h)

set_front : (at w : ℕ) (old : List ℕ) → take at (lib.ListN.set old at w) ≡ take at old
set_front zero w old = refl
set_front (suc at) w [] = refl
set_front (suc at) w (x ∷ old) = ap (λ (l : List ℕ). x ∷ l) (set_front at w old)

-- words laid over others leave what stands before them
overlay_kept : (ws : List ℕ) (at : ℕ) (old : List ℕ) → take at (overlay at ws old) ≡ take at old
overlay_kept [] at old = ap (take at) (overlay_none at old)
overlay_kept (w ∷ ws) at old =
    ap (take at) (overlay_next at w ws old)
    ∙ (front_less at (suc at) (omega arith) (overlay (suc at) ws (lib.ListN.set old at w)) (lib.ListN.set old at w) (overlay_kept ws (suc at) (lib.ListN.set old at w)) ∙ set_front at w old)

pub laid_exact : (at : ℕ) (ws old new : List ℕ) → new ≡ overlay at ws old → Laid at ws old new
laid_exact at ws old new e = record { long = ap length e ∙ overlay_length at ws old; front = ap (take at) e ∙ overlay_kept ws at old; all = λ h. e }

pub laid_none : (at : ℕ) (old : List ℕ) → Laid at [] old old
laid_none at old = laid_exact at [] old old (sym (overlay_none at old))

pub laid_append : (at : ℕ) (a b old mid new : List ℕ) → Laid at a old mid → (to : ℕ) → to ≡ at + length a → Laid to b mid new → Laid at (a ++ b) old new
laid_append at a b old mid new l to e m =
    record {
      long = m.long ∙ l.long;
      front = front_less at to (omega (arith, e)) new mid m.front ∙ l.front;
      all = λ h.
          let k = length-append a b in
          m.all (omega (arith, k, h, e, l.long))
          ∙ (ap₂ (λ (j : ℕ) (t : List ℕ). overlay j b t) e (l.all (omega (arith, k, h))) ∙ sym (overlay_append at a b old));
    }

-- a word put before words that were laid
pub laid_row : (at w : ℕ) (ws old mid new : List ℕ) → Laid (at + 1) ws old mid → new ≡ overlay at (w ∷ []) mid → Laid at (w ∷ ws) old new
laid_row at w ws old mid new l e =
    record {
      long = ap length e ∙ (overlay_length at (w ∷ []) mid ∙ l.long);
      front = ap (take at) e ∙ (overlay_kept (w ∷ []) at mid ∙ front_less at (at + 1) (omega arith) mid old l.front);
      all = λ h. e ∙ (ap (overlay at (w ∷ [])) (l.all (omega (arith, h))) ∙ sym (overlay_row_last at w ws old));
    }

-- words that don't fit, of which the first are laid
pub laid_past : (at : ℕ) (a b old mid : List ℕ) → Laid at a old mid → length old + 1 ≤ at + length (a ++ b) → Laid at (a ++ b) old mid
laid_past at a b old mid l h = record { long = l.long; front = l.front; all = λ k. absurd (omega (arith, h, k)) }

pub laid_as : (at : ℕ) (x y old new : List ℕ) → x ≡ y → Laid at y old new → Laid at x old new
laid_as at x y old new e l = subst (λ (z : List ℕ). Laid at z old new) (sym e) l
