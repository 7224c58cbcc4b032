-- What extraction chooses from, under other names of the list's symbols: candidates, and the divisors to bind. The choice itself turns on texts, which are
-- those of the renamed trees. Assumes nothing.
use Prim.Native.Nat.{ℕ, ◌-◌, ◌*◌}
use mathlib.Core.Path.{◌≡◌, refl, ◌∙◌, ap, ap₂}
use mathlib.Core.Bool.{Bool, true, false, ◌&&◌, cond}
use mathlib.Core.Option.{Option, none, some}
use mathlib.Core.List.{List, [], ◌∷◌, map}
use lib.Dec.{eqb, leb}
use Rattle.spec_tree.specs.Tree.{Tree, Sym, Const, Op, nil, ◌◂◌}
use Rattle.spec_tree.specs.Kinds.{Div}
use Rattle.spec_tree.specs.Facts.{all_nodes, count, outside}
use Rattle.spec_tree.proofs.Logic.{and_left, and_right}
use Rattle.spec_tree.proofs.TokenCode.{renamed as RenamedBy}
use Rattle.spec_rewrite.proofs.Names.{holds, holds_each}
use Rattle.spec_cse.specs.Extract.{is_candidate, Candidate, candidate, among, distinct, divisor_of, divisors, shared_divisors}
use Rattle.laws.proofs.positions.Renaming.{Renaming, renamed, is_known, Known, KnownAll, first_known, rest_known, both_known, none_known, cost_renamed, depth_renamed, has_symbol_renamed, eq_tree_renamed, all_nodes_renamed, outside_renamed, all_nodes_known, outside_known, count_renamed, uses_renamed, uses_outside_renamed}

module _ (R : Renaming) where
  -- ---- candidates

  pub is_candidate_renamed :
      (scoped : Bool) (rs : List Tree) (e : Tree) → KnownAll R rs → Known R e → is_candidate scoped (map (renamed R) rs) (renamed R e) ≡ is_candidate scoped rs e
  unfolding is_candidate
  is_candidate_renamed scoped rs e h g =
      ap₂ ◌&&◌ (ap (leb 1) (cost_renamed R e))
      (ap₂ ◌&&◌ (has_symbol_renamed R e) (ap₂ ◌&&◌ (ap (leb 2) (uses_renamed R rs e h g)) (ap (leb 1) (uses_outside_renamed R scoped rs e h g))))

  abbrev pub renamed_candidate : Candidate → Candidate
  renamed_candidate c = record { tree = renamed R c.tree; savings = c.savings; deep = c.deep }

  pub candidate_renamed : (rs : List Tree) (e : Tree) → KnownAll R rs → Known R e → candidate (map (renamed R) rs) (renamed R e) ≡ renamed_candidate (candidate rs e)
  unfolding candidate
  candidate_renamed rs e h g =
      ap₂ (λ (s d : ℕ). record { tree = renamed R e; savings = s; deep = d })
      (ap₂ ◌*◌ (ap (λ (n : ℕ). n - 1) (uses_renamed R rs e h g)) (cost_renamed R e)) (depth_renamed R e)

  -- ---- each once

  pub among_renamed : (t : Tree) (l : List Tree) → Known R t → KnownAll R l → among (renamed R t) (map (renamed R) l) ≡ among t l
  unfolding among
  among_renamed t [] g h = refl
  among_renamed t (e ∷ l) g h =
      ap₂ (λ (x y : Bool). elim x as (λ _. Bool) [ true ↦ true | false ↦ y ]) (eq_tree_renamed R e t (first_known R e l h) g) (among_renamed t l g (rest_known R e l h))

  once_step :
      (b c : Bool) → b ≡ c → (t : Tree) (p q r s : List Tree) → p ≡ map (renamed R) r → q ≡ map (renamed R) s
      → ◌≡◌ {A = List Tree} (elim b [ true ↦ p | false ↦ renamed R t ∷ q ]) (map (renamed R) (elim c [ true ↦ r | false ↦ t ∷ s ]))
  once_step b c e t p q r s d f = rw e (go c)
    where
      go : (c : Bool) → ◌≡◌ {A = List Tree} (elim c [ true ↦ p | false ↦ renamed R t ∷ q ]) (map (renamed R) (elim c [ true ↦ r | false ↦ t ∷ s ]))
      go true = d
      go false = ap (λ (l : List Tree). renamed R t ∷ l) f

  pub distinct_renamed :
      (seen l : List Tree) → KnownAll R seen → KnownAll R l → distinct (map (renamed R) seen) (map (renamed R) l) ≡ map (renamed R) (distinct seen l)
  unfolding distinct
  distinct_renamed seen [] g h = refl
  distinct_renamed seen (t ∷ l) g h =
      let k = first_known R t l h in
      let more = rest_known R t l h in
      once_step (among (renamed R t) (map (renamed R) seen)) (among t seen) (among_renamed t seen k g) t
      (distinct (map (renamed R) seen) (map (renamed R) l)) (distinct (renamed R t ∷ map (renamed R) seen) (map (renamed R) l)) (distinct seen l) (distinct (t ∷ seen) l)
      (distinct_renamed seen l g more) (distinct_renamed (t ∷ seen) l (both_known R t seen k g) more)

  once_known : (b : Bool) (t : Tree) (r s : List Tree) → Known R t → KnownAll R r → KnownAll R s → KnownAll R (elim b [ true ↦ r | false ↦ t ∷ s ])
  once_known true t r s h d e = d
  once_known false t r s h d e = both_known R t s h e

  pub distinct_known : (seen l : List Tree) → KnownAll R l → KnownAll R (distinct seen l)
  unfolding distinct
  distinct_known seen [] h = none_known R
  distinct_known seen (t ∷ l) h =
      once_known (among t seen) t (distinct seen l) (distinct (t ∷ seen) l) (first_known R t l h) (distinct_known seen l (rest_known R t l h))
      (distinct_known (t ∷ seen) l (rest_known R t l h))

  -- ---- divisors

  abbrev renamed_if : Option Tree → Option Tree
  renamed_if none = none
  renamed_if (some t) = some (renamed R t)

  KnownIf : Option Tree → Type 0
  KnownIf none = Unit {0}
  KnownIf (some t) = Known R t

  divided_step : (b : Bool) (t : Tree) → ◌≡◌ {A = Option Tree} (cond b (some (renamed R t)) none) (renamed_if (cond b (some t) none))
  divided_step true t = refl
  divided_step false t = refl

  divisor_of_renamed : (t : Tree) → divisor_of (renamed R t) ≡ renamed_if (divisor_of t)
  unfolding divisor_of RenamedBy
  divisor_of_renamed (Sym n) = refl
  divisor_of_renamed (Const c) = refl
  divisor_of_renamed (Op k nil) = refl
  divisor_of_renamed (Op k (a ◂ nil)) = refl
  divisor_of_renamed (Op k (a ◂ (b ◂ f))) = divided_step (eqb k Div) b

  divided_known : (b : Bool) (t : Tree) → Known R t → KnownIf (cond b (some t) none)
  unfolding KnownIf
  divided_known true t h = h
  divided_known false t h = tt

  divisor_of_known : (t : Tree) → Known R t → KnownIf (divisor_of t)
  unfolding divisor_of holds KnownIf
  divisor_of_known (Sym n) h = tt
  divisor_of_known (Const c) h = tt
  divisor_of_known (Op k nil) h = tt
  divisor_of_known (Op k (a ◂ nil)) h = tt
  divisor_of_known (Op k (a ◂ (b ◂ f))) h =
      divided_known (eqb k Div) b (and_left (holds (is_known R) b) (holds_each (is_known R) f) (and_right (holds (is_known R) a) (holds_each (is_known R) (b ◂ f)) h))

  divisors_step :
      (o q : Option Tree) → o ≡ renamed_if q → (p r : List Tree) → p ≡ map (renamed R) r
      → ◌≡◌ {A = List Tree} (elim o [ none ↦ p | some d ↦ d ∷ p ]) (map (renamed R) (elim q [ none ↦ r | some d ↦ d ∷ r ]))
  divisors_step o q e p r d = rw e (go q)
    where
      go : (q : Option Tree) → ◌≡◌ {A = List Tree} (elim (renamed_if q) [ none ↦ p | some d ↦ d ∷ p ]) (map (renamed R) (elim q [ none ↦ r | some d ↦ d ∷ r ]))
      go none = d
      go (some t) = ap (λ (l : List Tree). renamed R t ∷ l) d

  pub divisors_renamed : (l : List Tree) → divisors (map (renamed R) l) ≡ map (renamed R) (divisors l)
  unfolding divisors
  divisors_renamed [] = refl
  divisors_renamed (t ∷ l) =
      divisors_step (divisor_of (renamed R t)) (divisor_of t) (divisor_of_renamed t) (divisors (map (renamed R) l)) (divisors l) (divisors_renamed l)

  divisors_known_step : (o : Option Tree) (l : List Tree) → KnownIf o → KnownAll R l → KnownAll R (elim o [ none ↦ l | some d ↦ d ∷ l ])
  unfolding KnownIf
  divisors_known_step none l h g = g
  divisors_known_step (some d) l h g = both_known R d l h g

  pub divisors_known : (l : List Tree) → KnownAll R l → KnownAll R (divisors l)
  unfolding divisors
  divisors_known [] h = none_known R
  divisors_known (t ∷ l) h =
      divisors_known_step (divisor_of t) (divisors l) (divisor_of_known t (first_known R t l h)) (divisors_known l (rest_known R t l h))

  -- how often a list of nodes divides by d
  divided_by : (d : Tree) (p ns : List Tree) → p ≡ map (renamed R) ns → Known R d → KnownAll R ns → count (renamed R d) (divisors p) ≡ count d (divisors ns)
  divided_by d p ns e g h =
      ap (λ (l : List Tree). count (renamed R d) (divisors l)) e
      ∙ ap (count (renamed R d)) (divisors_renamed ns)
      ∙ count_renamed R d (divisors ns) g (divisors_known ns h)

  shared_step :
      (b c : Bool) → b ≡ c → (t : Tree) (p r : List Tree) → p ≡ map (renamed R) r
      → ◌≡◌ {A = List Tree} (elim b [ true ↦ renamed R t ∷ p | false ↦ p ]) (map (renamed R) (elim c [ true ↦ t ∷ r | false ↦ r ]))
  shared_step b c e t p r d = rw e (go c)
    where
      go : (c : Bool) → ◌≡◌ {A = List Tree} (elim c [ true ↦ renamed R t ∷ p | false ↦ p ]) (map (renamed R) (elim c [ true ↦ t ∷ r | false ↦ r ]))
      go true = ap (λ (l : List Tree). renamed R t ∷ l) d
      go false = d

  pub shared_divisors_renamed :
      (scoped : Bool) (rs l : List Tree) → KnownAll R rs → KnownAll R l
      → shared_divisors scoped (map (renamed R) rs) (map (renamed R) l) ≡ map (renamed R) (shared_divisors scoped rs l)
  unfolding shared_divisors
  shared_divisors_renamed scoped rs [] h g = refl
  shared_divisors_renamed scoped rs (d ∷ l) h g =
      let k = first_known R d l g in
      shared_step
      (leb 2 (count (renamed R d) (divisors (all_nodes (map (renamed R) rs)))) && leb 1 (count (renamed R d) (divisors (outside scoped (map (renamed R) rs)))))
      (leb 2 (count d (divisors (all_nodes rs))) && leb 1 (count d (divisors (outside scoped rs))))
      (ap₂ ◌&&◌ (ap (leb 2) (divided_by d (all_nodes (map (renamed R) rs)) (all_nodes rs) (all_nodes_renamed R rs) k (all_nodes_known R rs h)))
      (ap (leb 1) (divided_by d (outside scoped (map (renamed R) rs)) (outside scoped rs) (outside_renamed R scoped rs) k (outside_known R scoped rs h)))) d
      (shared_divisors scoped (map (renamed R) rs) (map (renamed R) l)) (shared_divisors scoped rs l) (shared_divisors_renamed scoped rs l h (rest_known R d l g))

  shared_known_step : (b : Bool) (t : Tree) (l : List Tree) → Known R t → KnownAll R l → KnownAll R (elim b [ true ↦ t ∷ l | false ↦ l ])
  shared_known_step true t l h g = both_known R t l h g
  shared_known_step false t l h g = g

  pub shared_divisors_known : (scoped : Bool) (rs l : List Tree) → KnownAll R l → KnownAll R (shared_divisors scoped rs l)
  unfolding shared_divisors
  shared_divisors_known scoped rs [] g = none_known R
  shared_divisors_known scoped rs (d ∷ l) g =
      shared_known_step (leb 2 (count d (divisors (all_nodes rs))) && leb 1 (count d (divisors (outside scoped rs)))) d (shared_divisors scoped rs l)
      (first_known R d l g) (shared_divisors_known scoped rs l (rest_known R d l g))
