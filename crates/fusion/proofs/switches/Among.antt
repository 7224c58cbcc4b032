-- Whether one of some places has a tree, place by place. Assumes nothing.
use Rattle.std.specs.Prelude.{Option, Some, IsSome}
use Prim.Native.Nat.{ℕ, zero, suc, ◌+◌, ◌≤◌, ◌<◌}
use native.Mathlib.Omega.{arith}
use mathlib.Core.Path.{◌≡◌, refl, sym, ◌∙◌, ap, subst}
use mathlib.Core.Bool.{Bool, true, false}
use mathlib.Core.List.{List, [], ◌∷◌}
use lib.ListN.{length, get_or, drop, drop_of_length-le}
use lib.Seq.{drop-cons}
use Rattle.spec_tree.specs.Tree.{eq_tree}
use Rattle.spec_tree.specs.Tokens.{same_at}
use Rattle.words.specs.tokens.Answers.{same_answer}
use Rattle.words.proofs.tokens.Complete.{same_is}
use Rattle.words.specs.words.Words.{Complete}
use Rattle.laws.specs.positions.Places.{numbered_at, among_places}
use Rattle.fusion.specs.switches.Listing.{Inside}

-- ---- whether two trees are equal

module _ (ws : List ℕ) (complete : Complete ws) (i j : ℕ) (hi : i < length ws) (hj : j < length ws) where
  told : same_answer (same_at ws i j) ≡ Some (eq_tree (numbered_at ws i) (numbered_at ws j))
  unfolding numbered_at same_answer
  told = same_is ws complete.0 complete.1 i j hi hj

  pub same_there : (q : Option Bool) → q ≡ same_answer (same_at ws i j) → IsSome q
  same_there q e = subst (λ (o : Option Bool). IsSome o) (sym (e ∙ told)) refl

  pub trees_same : (q : Option Bool) (r : Bool) → q ≡ same_answer (same_at ws i j) → q ≡ Some r → r ≡ eq_tree (numbered_at ws i) (numbered_at ws j)
  trees_same q r e f = let h : Some r ≡ Some (eq_tree (numbered_at ws i) (numbered_at ws j)) = sym f ∙ (e ∙ told) in cc

-- ---- one by one

pub inside_at : (n : ℕ) (l : List ℕ) (i : ℕ) → Inside n l → i < length l → get_or l i 0 < n
inside_at n [] i h g = absurd (omega arith)
inside_at n (q ∷ l) zero h g = h.0
inside_at n (q ∷ l) (suc i) h g = inside_at n l i h.1 (omega arith)

module _ (ws list : List ℕ) (q : ℕ) where
  -- none of the first k has it
  pub record Seeking (k : ℕ) : Type 0 where
    pub within : k ≤ length list
    pub rest : among_places ws q list ≡ among_places ws q (drop k list)

  pub seeking_starts : Seeking 0
  seeking_starts = record { within = omega arith; rest = refl }

  module _ {k : ℕ} (s : Seeking k) (h : k < length list) where
    here : (b : Bool) → eq_tree (numbered_at ws (get_or list k 0)) (numbered_at ws q) ≡ b
        → among_places ws q list ≡ elim b as (λ _. Bool) [ true ↦ true | false ↦ among_places ws q (drop (suc k) list) ]
    unfolding among_places
    here b e =
        s.rest ∙ ap (among_places ws q) (drop-cons list k 0 h)
        ∙ ap (λ (c : Bool). elim c as (λ _. Bool) [ true ↦ true | false ↦ among_places ws q (drop (suc k) list) ]) e

    pub found_there : true ≡ eq_tree (numbered_at ws (get_or list k 0)) (numbered_at ws q) → true ≡ among_places ws q list
    found_there e = sym (here true (sym e))

    pub goes_past : false ≡ eq_tree (numbered_at ws (get_or list k 0)) (numbered_at ws q) → Seeking (k + 1)
    goes_past e = let i : suc k ≡ k + 1 = omega arith in record { within = omega arith; rest = here false (sym e) ∙ ap (λ (j : ℕ). among_places ws q (drop j list)) i }

  none_left : (k : ℕ) → length list ≤ k → among_places ws q (drop k list) ≡ false
  unfolding among_places
  none_left k h = ap (among_places ws q) (drop_of_length-le list h)

  pub seeking_ends : {k : ℕ} → Seeking k → length list ≤ k → false ≡ among_places ws q list
  seeking_ends {k} s h = sym (s.rest ∙ none_left k h)
