-- Which rule a number stands for (specs, Rules), as the rules that are left get fewer. Assumes nothing.
use Prim.Native.Nat.{ℕ, suc, ◌≤◌, ◌<◌}
use native.Mathlib.Omega.{arith}
use mathlib.Core.Path.{◌≡◌, refl, ◌∙◌, ap}
use mathlib.Core.Bool.{Bool, true, false}
use mathlib.Core.Option.{Option, none, some}
use lib.Dec.{T, leb, ltb, leb→le, le→leb}
use Rattle.spec_tree.proofs.Tests.{is_true}
use Rattle.spec_tree.specs.Tree.{Tree}
use Rattle.reciprocals.specs.atonce.Rules.{rule_from, rule_of, Ranked}
use Rattle.reciprocals.proofs.atonce.Bits.{is_false}

module _ (m : ℕ) where
  pub from_least : (s : ℕ) → s ≤ m → (o : Option ℕ) → s ≤ rule_from m s o
  unfolding rule_from
  from_least s h none = h
  from_least s h (some k) = go (leb s k) (leb→le s k)
    where
      go : (b : Bool) → (T b → s ≤ k) → s ≤ elim b [ true ↦ k | false ↦ m ]
      go true f = f tt
      go false f = h

  pub from_most : (s : ℕ) (o : Option ℕ) → ((k : ℕ) → o ≡ some k → k < m) → rule_from m s o ≤ m
  unfolding rule_from
  from_most s none h = omega arith
  from_most s (some k) h = go (leb s k)
    where
      go : (b : Bool) → elim b [ true ↦ k | false ↦ m ] ≤ m
      go true = (let q = h k refl in omega arith)
      go false = omega arith

  pub from_next : (s : ℕ) (o : Option ℕ) → s < rule_from m s o → rule_from m (suc s) o ≡ rule_from m s o
  unfolding rule_from
  from_next s none h = refl
  from_next s (some k) h = go (leb s k) (leb (suc s) k) (λ (l : s < k). le→leb (suc s) k l) (λ t. le→leb s k (let q = leb→le (suc s) k t in omega arith)) h
    where
      go : (b c : Bool) → (s < k → T c) → (T c → T b) → s < elim b [ true ↦ k | false ↦ m ] → ◌≡◌ {A = ℕ} (elim c [ true ↦ k | false ↦ m ]) (elim b [ true ↦ k | false ↦ m ])
      go true true f g l = refl
      go true false f g l = absurd (f l)
      go false true f g l = absurd (g tt)
      go false false f g l = refl

  pub from_some : (s k : ℕ) → s ≤ k → rule_from m s (some k) ≡ k
  unfolding rule_from
  from_some s k h = ap (λ (b : Bool). elim b as (λ _. ℕ) [ true ↦ k | false ↦ m ]) (is_true (leb s k) (le→leb s k h))

  pub from_before : (s k : ℕ) → k < s → rule_from m s (some k) ≡ m
  unfolding rule_from
  from_before s k h = ap (λ (b : Bool). elim b as (λ _. ℕ) [ true ↦ k | false ↦ m ]) (is_false (leb s k) (λ t. (let q = leb→le s k t in omega arith)))

  pub from_none : (s : ℕ) → rule_from m s none ≡ m
  unfolding rule_from
  from_none s = refl

  -- a rule that is one is the number's own
  pub from_number : (s : ℕ) (o : Option ℕ) (j : ℕ) → j < m → rule_from m s o ≡ j → o ≡ some j
  unfolding rule_from
  from_number s none j l e = absurd (omega arith)
  from_number s (some k) j l e = go (leb s k) e
    where
      go : (b : Bool) → elim b [ true ↦ k | false ↦ m ] ≡ j → ◌≡◌ {A = Option ℕ} (some k) (some j)
      go true e = ap some e
      go false e = absurd (omega arith)

-- ---- rules by rank

module _ (rank : Tree → Option ℕ) (target : ℕ → Tree) (m : ℕ) (ranked : Ranked rank target m) where
  pub rule_least : (s : ℕ) → s ≤ m → (d : Tree) → s ≤ rule_of rank m s d
  unfolding rule_of
  rule_least s h d = from_least m s h (rank d)

  pub rule_most : (s : ℕ) (d : Tree) → rule_of rank m s d ≤ m
  unfolding rule_of
  rule_most s d = from_most m s (rank d) (λ k e. (ranked.there d k e).0)

  pub rule_next : (s : ℕ) (d : Tree) → s < rule_of rank m s d → rule_of rank m (suc s) d ≡ rule_of rank m s d
  unfolding rule_of
  rule_next s d h = from_next m s (rank d) h

  pub rule_target : (s k : ℕ) → s ≤ k → k < m → rule_of rank m s (target k) ≡ k
  unfolding rule_of
  rule_target s k h l = ap (rule_from m s) (ranked.found k l) ∙ from_some m s k h

  pub rule_tree : (s : ℕ) (d : Tree) (k : ℕ) → k < m → rule_of rank m s d ≡ k → d ≡ target k
  unfolding rule_of
  rule_tree s d k l e = (ranked.there d k (from_number m s (rank d) k l e)).1

  pub rule_unranked : (s : ℕ) (d : Tree) → rank d ≡ none → rule_of rank m s d ≡ m
  unfolding rule_of
  rule_unranked s d e = ap (rule_from m s) e ∙ from_none m s

  -- a rule before s is past
  pub rule_passed : (s k : ℕ) → k < s → k < m → rule_of rank m s (target k) ≡ m
  unfolding rule_of
  rule_passed s k h l = ap (rule_from m s) (ranked.found k l) ∙ from_before m s k h

-- ---- two tests whether a rule comes before a change, with one answer, and by one rule where they pass

pub record Alike (r c r' c' : ℕ) : Type 0 where
  pub test : ltb r c ≡ ltb r' c'
  pub number : T (ltb r c) → r ≡ r'
