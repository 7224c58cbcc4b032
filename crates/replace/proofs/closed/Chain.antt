-- Chains of steps put together. Assumes nothing.
use Rattle.std.proofs.Common.{◌≡◌, ℕ, suc, List, [], ◌∷◌, ◌++◌, length, sym, refl, ap, ◌∙◌, arith}
use Rattle.spec_tree.specs.Outcome.{Outcome, ok, refused, ◌>>=◌, each}
use Rattle.spec_tree.specs.Tree.{Tree}

pub chain_end : {A : Type 0} (o : Outcome A) → (o >>= λ a. ok a) ≡ o
chain_end (ok a) = refl
chain_end (refused i) = refl

-- ---- steps at each of some trees

module _ (g : Tree → Outcome Tree) where
  pub each_both : (l m : List Tree) → each g (l ++ m) ≡ (each g l >>= λ a. each g m >>= λ b. ok (a ++ b))
  unfolding each
  each_both [] m = go (each g m)
    where
      go : (o : Outcome (List Tree)) → o ≡ (o >>= λ b. ok b)
      go (ok b) = refl
      go (refused i) = refl
  each_both (t ∷ l) m = go (g t) (each g l) (each g m) (each g (l ++ m)) (each_both l m)
    where
      go : (o : Outcome Tree) (p q r : Outcome (List Tree)) → r ≡ (p >>= λ a. q >>= λ b. ok (a ++ b))
          → (o >>= λ u. r >>= λ s. ok (u ∷ s)) ≡ ((o >>= λ u. p >>= λ s. ok (u ∷ s)) >>= λ a. q >>= λ b. ok (a ++ b))
      go (ok u) (ok a) (ok b) r e = ap (λ (x : Outcome (List Tree)). x >>= λ s. ok (u ∷ s)) e
      go (ok u) (ok a) (refused i) r e = ap (λ (x : Outcome (List Tree)). x >>= λ s. ok (u ∷ s)) e
      go (ok u) (refused i) q r e = ap (λ (x : Outcome (List Tree)). x >>= λ s. ok (u ∷ s)) e
      go (refused i) p q r e = refl

  pub each_long : (l m : List Tree) → each g l ≡ ok m → length m ≡ length l
  unfolding each
  each_long [] m e = (let q : [] ≡ m = cc in sym (ap length q))
  each_long (t ∷ l) m e = go (g t) (each g l) (λ s. each_long l s) e
    where
      go : (o : Outcome Tree) (p : Outcome (List Tree)) → ((s : List Tree) → p ≡ ok s → length s ≡ length l) → (o >>= λ u. p >>= λ s. ok (u ∷ s)) ≡ ok m → length m ≡ suc (length l)
      go (ok u) (ok s) h e = (let q : u ∷ s ≡ m = cc in sym (ap length q) ∙ ap suc (h s refl))
      go (ok u) (refused i) h e = (let z : ◌≡◌ {A = ℕ} 0 1 = cc in absurd (omega arith))
      go (refused i) p h e = (let z : ◌≡◌ {A = ℕ} 0 1 = cc in absurd (omega arith))
