-- What reciprocals make of words, all at once (01, "Reciprocals"): the words that the pass from the left writes, and those of each divisor's reciprocal; and ranks by
-- classes of places. Assumes nothing.
use Prim.Native.Nat.{ℕ, suc, ◌<◌}
use mathlib.Core.Path.{◌≡◌, refl, sym, ◌∙◌, ap, ap₂, subst}
use mathlib.Core.Bool.{Bool, true, false}
use mathlib.Core.Option.{Option, none, some}
use mathlib.Core.List.{List, [], ◌∷◌, ◌++◌, map}
use lib.ListN.{length}
use lib.Dec.{T, eqb, eqb→eq, eqb_refl}
use Rattle.spec_tree.proofs.Tests.{is_true}
use Rattle.spec_tree.specs.Tree.{Name, Tree, eq_tree, operands}
use Rattle.spec_tree.specs.Tokens.{constant_code, tokens, all_tokens, read, numbered, trees_in}
use Rattle.spec_tree.proofs.TreeLaws.{eq_tree_sound, eq_tree_refl}
use Rattle.spec_tree.proofs.TokenCode.{unnumbered}
use Rattle.spec_rewrite.proofs.Names.{holds_all}
use Rattle.laws.proofs.cse.RoundsCount.{made_before}
use Rattle.laws.specs.positions.Places.{numbered_at, divisors_to_bind}
use Rattle.laws.specs.positions.Rounds.{next_number, reciprocals_words}
use Rattle.laws.proofs.positions.BestPlace.{text_of}
use Rattle.laws.proofs.positions.WordReciprocals.{to_bind_are}
use Rattle.reciprocals.specs.settle.Steps.{settled_words}
use Rattle.reciprocals.proofs.bindings.Parts.{settle_tree, reciprocal, reciprocals_parts}
use Rattle.reciprocals.proofs.bindings.There.{results_settled}
use Rattle.reciprocals.specs.atonce.Rules.{EachOnce, place_in, number_place}
use Rattle.reciprocals.specs.atonce.Dividing.{settled}
use Rattle.reciprocals.proofs.atonce.Bits.{is_false, map_same}
use Rattle.reciprocals.proofs.atonce.Once.{to_bind_once, to_bind_holds}
use Rattle.reciprocals.proofs.atonce.Reciprocals.{x_name, settle_all_at_once, reciprocals_at, reciprocals_at_once}
use Rattle.reciprocals.proofs.atonce.Marks.{to_write, pass_starts}

module _ (name_at : ℕ → List ℕ) (scoped : Bool) (ws : List ℕ) (m : ℕ) (complete : trees_in ws ≡ some m) where
  -- the divisors to bind, and the rank of a tree among them
  abbrev pub bound : List Tree
  bound = map (numbered_at ws) (divisors_to_bind ws name_at scoped)

  abbrev pub rank : Tree → Option ℕ
  rank = place_in bound

  pub bound_once : EachOnce bound
  bound_once = subst EachOnce (to_bind_are ws name_at m complete scoped) (to_bind_once (text_of ws name_at) scoped (read numbered ws))

  module _ (n : ℕ) (known : T (holds_all (made_before n) (read numbered ws))) where
    pub bound_known : T (holds_all (made_before n) bound)
    bound_known =
        subst (λ (l : List Tree). T (holds_all (made_before n) l)) (to_bind_are ws name_at m complete scoped)
        (to_bind_holds (text_of ws name_at) (made_before n) scoped (read numbered ws) known)

    all_settled : map (settle_tree bound n) (read numbered ws) ≡ map (settled rank (length bound) 0 (x_name n)) (read numbered ws)
    all_settled = map_same (settle_tree bound n) (settled rank (length bound) 0 (x_name n)) (settle_all_at_once n bound bound_once bound_known) (read numbered ws)

    -- the trees that are there, settled by every divisor: what `settle` answers is what the pass writes
    pub settle_writes : settled_words ws (divisors_to_bind ws name_at scoped) n ws ≡ some (to_write ws m complete rank (length bound) 0 (x_name n) 0)
    settle_writes =
        results_settled ws m complete name_at scoped n
        ∙ ap some (ap (all_tokens unnumbered) all_settled ∙ sym (pass_starts ws m complete rank (length bound) 0 (x_name n)))

  -- ---- all that reciprocals make

  module _ (k first : ℕ) (known : T (holds_all (made_before (next_number k first (read numbered ws))) (read numbered ws))) where
    abbrev number_first : ℕ
    number_first = next_number k first (read numbered ws)

    pub reciprocals_at_places :
        reciprocals_words name_at scoped k first ws
        ≡ to_write ws m complete rank (length bound) 0 (x_name (next_number k first (read numbered ws))) 0
        ++ all_tokens unnumbered (reciprocals_at (next_number k first (read numbered ws)) bound bound_once (bound_known (next_number k first (read numbered ws)) known) 0 bound)
    reciprocals_at_places =
        reciprocals_parts name_at scoped k first ws m complete
        ∙ ap₂ (λ (x y : List ℕ). x ++ y)
        (ap (all_tokens unnumbered) (all_settled number_first known) ∙ sym (pass_starts ws m complete rank (length bound) 0 (x_name number_first)))
        (ap (all_tokens unnumbered) (reciprocals_at_once number_first bound bound_once (bound_known number_first known)))

-- ---- the rank of the tree at a place by classes: equal classes are equal trees

module _
    (ws : List ℕ)
    (class : ℕ → ℕ)
    (same : (p q : ℕ) → p < length ws → q < length ws → class p ≡ class q → numbered_at ws p ≡ numbered_at ws q)
    (alike : (p q : ℕ) → p < length ws → q < length ws → numbered_at ws p ≡ numbered_at ws q → class p ≡ class q) where
  tests_alike : (p q : ℕ) → p < length ws → q < length ws → eq_tree (numbered_at ws p) (numbered_at ws q) ≡ eqb (class p) (class q)
  tests_alike p q h i = go (eqb (class p) (class q)) refl
    where
      go : (b : Bool) → eqb (class p) (class q) ≡ b → eq_tree (numbered_at ws p) (numbered_at ws q) ≡ b
      go true e =
          is_true (eq_tree (numbered_at ws p) (numbered_at ws q))
          (subst (λ (t : Tree). T (eq_tree (numbered_at ws p) t)) (same p q h i (eqb→eq (class p) (class q) (subst T (sym e) tt))) (eq_tree_refl (numbered_at ws p)))
      go false e =
          is_false (eq_tree (numbered_at ws p) (numbered_at ws q))
          (λ t. subst T e (subst (λ (c : ℕ). T (eqb (class p) c)) (alike p q h i (eq_tree_sound (numbered_at ws p) (numbered_at ws q) t)) (eqb_refl (class p))))

  abbrev pub Within : List ℕ → Type 0
  Within [] = Unit {0}
  Within (p ∷ l) = (p < length ws) × Within l

  pub rank_by_class : (l : List ℕ) (q : ℕ) → Within l → q < length ws → place_in (map (numbered_at ws) l) (numbered_at ws q) ≡ number_place (map class l) (class q)
  unfolding place_in number_place
  rank_by_class [] q h i = refl
  rank_by_class (p ∷ l) q h i =
      ap₂ (λ (b : Bool) (o : Option ℕ). elim b as (λ _. Option ℕ) [ true ↦ some 0 | false ↦ elim o [ none ↦ none | some i ↦ some (suc i) ] ]) (tests_alike p q h.0 i) (rank_by_class l q h.1 i)

-- ---- a reciprocal's words: those of `1 /`, and what the pass writes of the divisor's own words

pub reciprocal_writes :
    (us : List ℕ) (d : Tree) (one : trees_in us ≡ some 1) → read numbered us ≡ d ∷ [] → (rank : Tree → Option ℕ) (m s : ℕ) (name : ℕ → Name)
    → tokens unnumbered (reciprocal (settled rank m s name d)) ≡ 134 ∷ 129 ∷ to_write us 1 one rank m s name 0
unfolding tokens operands all_tokens constant_code
reciprocal_writes us d one e rank m s name =
    let w : all_tokens unnumbered (map (settled rank m s name) (read numbered us)) ≡ tokens unnumbered (settled rank m s name d) ++ [] = ap (λ (l : List Tree). all_tokens unnumbered (map (settled rank m s name) l)) e in
    ap (λ (l : List ℕ). 134 ∷ 129 ∷ l) (sym (pass_starts us 1 one rank m s name ∙ w))
