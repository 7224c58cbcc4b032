-- What reciprocals make (01, "Reciprocals"), all at once: each tree that was there settled from rule 0 on, and `1 / d` of divisor j from rule j + 1 on. Assumes nothing.
use Prim.Native.Nat.{ℕ, zero, suc, ◌+◌, ◌≤◌, ◌<◌}
use native.Mathlib.Omega.{arith}
use mathlib.Core.Path.{◌≡◌, refl, sym, ◌∙◌, ap, ap₂, subst}
use mathlib.Core.Bool.{Bool, true, false}
use mathlib.Core.List.{List, [], ◌∷◌, ◌++◌, map}
use lib.IntN.{pos}
use lib.ListN.{length, drop}
use lib.Dec.{T, ltb→lt}
use Rattle.spec_tree.specs.Tree.{Name, xname, Tree, Const, Op, nil, ◌◂◌}
use Rattle.spec_tree.specs.Kinds.{Mul}
use Rattle.spec_tree.specs.Facts.{all_nodes}
use Rattle.spec_rewrite.specs.Rewrite.{replace_divisor}
use Rattle.spec_rewrite.proofs.Names.{holds_all, all_nodes_hold}
use Rattle.spec_cse.specs.Extract.{State, roots, divisors, distinct, shared_divisors}
use Rattle.laws.proofs.cse.RoundsCount.{made_before}
use Rattle.laws.proofs.cse.RoundsValue.{divisors_known, distinct_known, shared_known, sort_known}
use Rattle.laws.proofs.cse.ReciprocalsCount.{bound_divisors}
use Rattle.laws.proofs.cse.DivisorsMost.{bound_once}
use Rattle.laws.specs.positions.Rounds.{bind_each_on}
use Rattle.reciprocals.proofs.bindings.Parts.{settle_tree, settled_reciprocals, reciprocal, bound_are_settled}
use Rattle.reciprocals.specs.atonce.Rules.{EachOnce, rule_of, Ranked, in_turn, place_in, nth}
use Rattle.reciprocals.specs.atonce.Dividing.{change, replaced, settled, settled_dividend}
use Rattle.reciprocals.proofs.atonce.Bits.{no_less, map_same}
use Rattle.reciprocals.proofs.atonce.RuleLaws.{rule_passed}
use Rattle.reciprocals.proofs.atonce.Dividing.{rule, at_once, change_most}
use Rattle.reciprocals.proofs.atonce.ListRanks.{list_ranked, ranked_holds, rest_at}

-- rule k's name, the numbers from n on
abbrev pub x_name : ℕ → ℕ → Name
x_name n k = xname (n + k)

-- ---- the list's rules are the steps of settling

in_turn_is : (ds : List Tree) (n : ℕ) (l : List Tree) (s : ℕ) (t : Tree) (ranked : Ranked (place_in ds) (nth ds) (length ds))
    → drop s ds ≡ l → settle_tree l (n + s) t ≡ in_turn (rule (place_in ds) (nth ds) (length ds) ranked (x_name n)) (length l) s t
unfolding in_turn
in_turn_is ds n [] s t ranked e = refl
in_turn_is ds n (d ∷ l) s t ranked e =
    let r = rest_at s ds d l e in
    let i : suc (n + s) ≡ n + suc s = omega arith in
    ap (λ (j : ℕ). settle_tree l j (replace_divisor d (xname (n + s)) t)) i
    ∙ (ap (λ (x : Tree). settle_tree l (n + suc s) (replace_divisor x (xname (n + s)) t)) (sym r.1)
    ∙ in_turn_is ds n l (suc s) (replace_divisor (nth ds s) (xname (n + s)) t) ranked r.2)

rest_length : (s : ℕ) (l : List Tree) → s ≤ length l → s + length (drop s l) ≡ length l
rest_length zero l h = omega arith
rest_length (suc s) [] h = absurd (omega arith)
rest_length (suc s) (d ∷ l) h = (let e = rest_length s l (omega arith) in omega arith)

-- `__xN` with N from n on are none of those made before n
module _ (n : ℕ) where
  new_name : (m i : ℕ) → i < m → T (made_before n (x_name n i)) → ⊥
  unfolding made_before
  new_name m i l t = (let h = ltb→lt (n + i) n t in omega arith)

  -- a list of divisors, each once, that hold no name from n on
  module _ (ds : List Tree) (once : EachOnce ds) (known : T (holds_all (made_before n) ds)) where
    abbrev pub at_rule : ℕ → Tree → Tree
    at_rule s = settled (place_in ds) (length ds) s (x_name n)

    pub settle_at_once : (s : ℕ) → s ≤ length ds → (t : Tree) → settle_tree (drop s ds) (n + s) t ≡ at_rule s t
    settle_at_once s h t =
        let ranked = list_ranked ds once in
        in_turn_is ds n (drop s ds) s t ranked refl
        ∙ at_once (place_in ds) (nth ds) (length ds) ranked (x_name n) (made_before n) (new_name (length ds)) (ranked_holds (made_before n) ds known)
        (length (drop s ds)) s (rest_length s ds h) t

    pub settle_all_at_once : (t : Tree) → settle_tree ds n t ≡ at_rule 0 t
    settle_all_at_once t = let i : n ≡ n + 0 = omega arith in ap (λ (k : ℕ). settle_tree ds k t) i ∙ settle_at_once 0 (omega arith) t

    -- a division by a divisor whose rule is past stays
    past_stays : (k : ℕ) → k < length ds → (a : Tree) → replaced (place_in ds) (length ds) (suc k) (a ◂ nth ds k ◂ nil) ≡ false
    unfolding replaced
    past_stays k h a =
        let ranked = list_ranked ds once in
        let r = rule_passed (place_in ds) (nth ds) (length ds) ranked (suc k) k (omega arith) h in
        let c = change_most (place_in ds) (nth ds) (length ds) ranked (suc k) (nth ds k) in
        no_less (rule_of (place_in ds) (length ds) (suc k) (nth ds k)) (change (place_in ds) (length ds) (suc k) (nth ds k)) (omega arith)

    -- divisor k's reciprocal is 1 over the divisor, settled from rule k + 1 on
    pub reciprocal_by_rules : (k : ℕ) → k < length ds → at_rule (suc k) (reciprocal (nth ds k)) ≡ reciprocal (at_rule (suc k) (nth ds k))
    unfolding settled
    reciprocal_by_rules k h =
        ap (λ (b : Bool). elim b as (λ _. Tree) [
          | true ↦ Op Mul (settled_dividend (place_in ds) (length ds) (suc k) (x_name n) (Const (pos 1) ◂ nth ds k ◂ nil))
          | false ↦ reciprocal (at_rule (suc k) (nth ds k))
        ]) (past_stays k h (Const (pos 1)))

    pub reciprocal_at_once : (k : ℕ) → k < length ds → settle_tree (drop (suc k) ds) (n + suc k) (reciprocal (nth ds k)) ≡ reciprocal (at_rule (suc k) (nth ds k))
    reciprocal_at_once k h = settle_at_once (suc k) h (reciprocal (nth ds k)) ∙ reciprocal_by_rules k h

    -- each divisor's reciprocal, the first of number k
    abbrev pub reciprocals_at : ℕ → List Tree → List Tree
    reciprocals_at k [] = []
    reciprocals_at k (d ∷ l) = reciprocal (at_rule (suc k) d) ∷ reciprocals_at (suc k) l

    reciprocals_rest : (l : List Tree) (k : ℕ) → drop k ds ≡ l → settled_reciprocals l (n + k) ≡ reciprocals_at k l
    reciprocals_rest [] k e = refl
    reciprocals_rest (d ∷ l) k e =
        let r = rest_at k ds d l e in
        let i : suc (n + k) ≡ n + suc k = omega arith in
        let one : settle_tree l (suc (n + k)) (reciprocal d) ≡ reciprocal (at_rule (suc k) d) =
        ap (λ (j : ℕ). settle_tree l j (reciprocal d)) i
        ∙ (ap (λ (x : List Tree). settle_tree x (n + suc k) (reciprocal d)) (sym r.2)
        ∙ subst (λ (x : Tree). settle_tree (drop (suc k) ds) (n + suc k) (reciprocal x) ≡ reciprocal (at_rule (suc k) x)) r.1 (reciprocal_at_once k r.0)) in
        let rest : settled_reciprocals l (suc (n + k)) ≡ reciprocals_at (suc k) l = ap (settled_reciprocals l) i ∙ reciprocals_rest l (suc k) r.2 in
        ap₂ (λ (x : Tree) (y : List Tree). x ∷ y) one rest

    pub reciprocals_at_once : settled_reciprocals ds n ≡ reciprocals_at 0 ds
    reciprocals_at_once = let i : n ≡ n + 0 = omega arith in ap (settled_reciprocals ds) i ∙ reciprocals_rest ds 0 refl

    -- the divisors bound one after another
    pub bound_at_once : (ts : List Tree) → bind_each_on ds n ts ≡ map (at_rule 0) ts ++ reciprocals_at 0 ds
    bound_at_once ts = bound_are_settled ds n ts ∙ ap₂ (λ (x y : List Tree). x ++ y) (map_same (settle_tree ds n) (at_rule 0) settle_all_at_once ts) reciprocals_at_once

  -- ---- the divisors that a scope binds are such a list, where its trees hold no name from n on

  pub divisors_known_to : (scoped : Bool) (s : State) → T (holds_all (made_before n) (roots s)) → T (holds_all (made_before n) (bound_divisors scoped s))
  unfolding bound_divisors
  divisors_known_to scoped s h =
      let p = made_before n in
      let all = divisors (all_nodes (roots s)) in
      sort_known p (shared_divisors scoped (roots s) (distinct [] all))
      (shared_known p scoped (roots s) (distinct [] all) (distinct_known p [] all (divisors_known p (all_nodes (roots s)) (all_nodes_hold p (roots s) h))))

pub divisors_once : (scoped : Bool) (s : State) → EachOnce (bound_divisors scoped s)
divisors_once = bound_once
