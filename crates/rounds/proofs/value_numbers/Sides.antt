-- A class tells the tree: a leaf by its word, an operation by the place that stands for it. Assumes nothing.
use Prim.Native.Nat.{ℕ, zero, suc, ◌+◌, ◌*◌, ◌/◌, ◌%◌, ◌≤◌, ◌<◌}
use native.Mathlib.Omega.{arith}
use mathlib.Core.Path.{◌≡◌, refl, sym, ◌∙◌, ap, subst}
use mathlib.Core.Bool.{Bool, true, false, ◌&&◌, cond}
use mathlib.Core.List.{List, []}
use borrow.Author.Tests.{eq-eqb, ne_eqb, le-leb, lt-leb, leb-true, leb-false}
use lib.ListN.{length, get_or}
use lib.Dec.{T, eqb, leb}
use Rattle.spec_tree.specs.Tree.{Tree, eq_tree}
use Rattle.spec_tree.specs.Tokens.{numbered, kind_of, tree_of_word}
use Rattle.spec_tree.specs.Facts.{cost}
use Rattle.spec_tree.proofs.TreeLaws.{eq_tree_sound, eq_tree_refl}
use Rattle.spec_tree.proofs.TokenLaws.{Word, a_symbol, a_constant, an_operation, word_is, leaf_takes, symbol_tree, constant_tree}
use Rattle.laws.specs.positions.Places.{numbered_at, equal_places}
use Rattle.rounds.specs.uses.Marks.{Complete}
use Rattle.rounds.specs.value_numbers.Classes.{last_at, class_by, class_at, class_places, operands_at}
use Rattle.rounds.proofs.value_numbers.Laws.{last_high, last_tree, last_same}
use Rattle.rounds.proofs.value_numbers.Nodes.{node_tree, node_word}

-- a leaf's word is 0 or 1 by 4
pub leaf_side : (w : ℕ) → kind_of w ≤ 1 → w % 4 ≤ 1
leaf_side w h = omega arith

more : (a b : Bool) (x y : ℕ) → a ≡ b → x ≡ y → ◌≡◌ {A = ℕ} (elim a [ true ↦ suc x | false ↦ x ]) (elim b [ true ↦ suc y | false ↦ y ])
more a b x y e f =
    ap (λ (d : Bool). elim d as (λ _. ℕ) [ true ↦ suc x | false ↦ x ]) e ∙ ap (λ (z : ℕ). elim b as (λ _. ℕ) [ true ↦ suc z | false ↦ z ]) f

module _ (ws : List ℕ) where
  -- ---- what a place's class is

  by_leaf : (p : ℕ) → kind_of (get_or ws p 0) ≤ 1 → class_by ws p ≡ get_or ws p 0
  unfolding class_by
  by_leaf p h = rw (le-leb (kind_of (get_or ws p 0)) 1 h)

  by_operation : (p : ℕ) → 1 < kind_of (get_or ws p 0) → class_by ws p ≡ 4 * p + 2
  unfolding class_by
  by_operation p h = rw (lt-leb (kind_of (get_or ws p 0)) 1 h)

  class_is : (q : ℕ) → class_at ws q ≡ class_by ws (last_at ws q)
  unfolding class_at last_at
  class_is q = refl

  pub class_same : (q r : ℕ) → numbered_at ws q ≡ numbered_at ws r → class_at ws q ≡ class_at ws r
  class_same q r e = class_is q ∙ (ap (class_by ws) (last_same ws q r e) ∙ sym (class_is r))

  -- ---- the tree of a class

  -- a leaf is told by its word
  leaf_tree : (p : ℕ) → p < length ws → kind_of (get_or ws p 0) ≤ 1 → numbered_at ws p ≡ tree_of_word numbered (get_or ws p 0) []
  leaf_tree p h l = node_tree ws p h ∙ ap (tree_of_word numbered (get_or ws p 0)) none
    where
      none : operands_at ws p ≡ []
      none = rw (leaf_takes (get_or ws p 0) l)

  unfoldable pub tree_by : ℕ → Tree
  unfolding tree_of_word numbered_at
  tree_by c = cond (leb (c % 4) 1) (tree_of_word numbered c []) (numbered_at ws (c / 4))

  tree_leaf : (c : ℕ) → c % 4 ≤ 1 → tree_by c ≡ tree_of_word numbered c []
  unfolding tree_by
  tree_leaf c h = rw (le-leb (c % 4) 1 h)

  tree_operation : (p : ℕ) → tree_by (4 * p + 2) ≡ numbered_at ws p
  unfolding tree_by
  tree_operation p =
      let m : 1 < (4 * p + 2) % 4 = omega arith in
      let d : (4 * p + 2) / 4 ≡ p = omega arith in
      rw (lt-leb ((4 * p + 2) % 4) 1 m, d)

  pub class_tree : (q : ℕ) → q < length ws → tree_by (class_at ws q) ≡ numbered_at ws q
  class_tree q h = go (leb (kind_of (get_or ws (last_at ws q) 0)) 1) refl
    where
      high : last_at ws q < length ws
      high = last_high ws q h

      go : (b : Bool) → leb (kind_of (get_or ws (last_at ws q) 0)) 1 ≡ b → tree_by (class_at ws q) ≡ numbered_at ws q
      go true e =
          let l = leb-true (kind_of (get_or ws (last_at ws q) 0)) 1 e in
          ap tree_by (class_is q ∙ by_leaf (last_at ws q) l)
          ∙ (tree_leaf (get_or ws (last_at ws q) 0) (leaf_side (get_or ws (last_at ws q) 0) l) ∙ (sym (leaf_tree (last_at ws q) high l) ∙ last_tree ws q h))
      go false e =
          let l = leb-false (kind_of (get_or ws (last_at ws q) 0)) 1 e in
          ap tree_by (class_is q ∙ by_operation (last_at ws q) l) ∙ (tree_operation (last_at ws q) ∙ last_tree ws q h)

  pub tree_same : (q r : ℕ) → q < length ws → r < length ws → class_at ws q ≡ class_at ws r → numbered_at ws q ≡ numbered_at ws r
  tree_same q r h g e = sym (class_tree q h) ∙ (ap tree_by e ∙ class_tree r g)

  -- two places have one class exactly where their trees are equal
  class_test : (q r : ℕ) → q < length ws → r < length ws → eq_tree (numbered_at ws q) (numbered_at ws r) ≡ eqb (class_at ws q) (class_at ws r)
  class_test q r h g = go (eq_tree (numbered_at ws q) (numbered_at ws r)) refl
    where
      go : (b : Bool) → eq_tree (numbered_at ws q) (numbered_at ws r) ≡ b → b ≡ eqb (class_at ws q) (class_at ws r)
      go true p = sym (eq-eqb (class_at ws q) (class_at ws r) (class_same q r (eq_tree_sound (numbered_at ws q) (numbered_at ws r) (subst T (sym p) tt))))
      go false p =
          sym (ne_eqb (class_at ws q) (class_at ws r)
          (λ e. subst T p (subst (λ (u : Tree). T (eq_tree (numbered_at ws q) u)) (tree_same q r h g e) (eq_tree_refl (numbered_at ws q)))))

  -- so the places with a tree are those with its class
  pub places_same :
      (test : ℕ → Bool) (i n c : ℕ) → i < length ws → n ≤ length ws → class_at ws i ≡ 4 * c + 2 → equal_places ws test i n ≡ class_places ws test c n
  unfolding equal_places class_places
  places_same test i zero c h l e = refl
  places_same test i (suc n) c h l e =
      more (test n && eq_tree (numbered_at ws n) (numbered_at ws i)) (test n && eqb (class_at ws n) (4 * c + 2)) (equal_places ws test i n) (class_places ws test c n)
      (ap (λ (b : Bool). test n && b) (class_test n i (omega arith) h ∙ ap (eqb (class_at ws n)) e)) (places_same test i n c h (omega arith) e)

  -- ---- leaves and operations

  -- what stands for an operation is one
  module _ (complete : Complete ws) (q : ℕ) (h : q < length ws) where
    same_word : get_or ws (last_at ws q) 0 ≡ get_or ws q 0
    same_word = node_word ws complete (last_at ws q) q (last_high ws q h) h (last_tree ws q h)

    pub stands_operation : 1 < kind_of (get_or ws q 0) → 1 < kind_of (get_or ws (last_at ws q) 0)
    stands_operation l = rw same_word l

    pub leaf_class : kind_of (get_or ws q 0) ≤ 1 → get_or ws q 0 ≡ class_at ws q
    leaf_class l = sym (class_is q ∙ (by_leaf (last_at ws q) (rw same_word l) ∙ same_word))

    pub operation_class : 1 < kind_of (get_or ws q 0) → class_at ws q ≡ 4 * last_at ws q + 2
    operation_class l = class_is q ∙ by_operation (last_at ws q) (stands_operation l)

    -- a leaf has the class of no operation
    pub leaf_apart : kind_of (get_or ws q 0) ≤ 1 → (c : ℕ) → class_at ws q ≡ 4 * c + 2 → ⊥
    leaf_apart l c e = omega (arith, leaf_class l, leaf_side (get_or ws q 0) l)

  -- by its class alone
  pub class_apart : (q v : ℕ) → v ≡ class_at ws q → v % 4 < 2 → (c : ℕ) → class_at ws q ≡ 4 * c + 2 → ⊥
  class_apart q v e h c f = omega arith

  pub class_place : (q v : ℕ) → q < length ws → v ≡ class_at ws q → 2 ≤ v % 4 → (class_at ws q ≡ 4 * (v / 4) + 2) × (v / 4 < length ws)
  class_place q v h e s = go (leb (kind_of (get_or ws (last_at ws q) 0)) 1) refl
    where
      go : (b : Bool) → leb (kind_of (get_or ws (last_at ws q) 0)) 1 ≡ b → (class_at ws q ≡ 4 * (v / 4) + 2) × (v / 4 < length ws)
      go true t =
          let l = leb-true (kind_of (get_or ws (last_at ws q) 0)) 1 t in
          absurd (omega (arith, class_is q, by_leaf (last_at ws q) l, leaf_side (get_or ws (last_at ws q) 0) l))
      go false t =
          let l = leb-false (kind_of (get_or ws (last_at ws q) 0)) 1 t in
          let c = class_is q ∙ by_operation (last_at ws q) l in
          (omega (arith, c), omega (arith, c, last_high ws q h))

  -- what costs something is an operation
  pub costs_operation : (q : ℕ) → q < length ws → 1 ≤ cost (numbered_at ws q) → 1 < kind_of (get_or ws q 0)
  unfolding cost
  costs_operation q h l = go (word_is (get_or ws q 0))
    where
      go : Word (get_or ws q 0) → 1 < kind_of (get_or ws q 0)
      go (a_symbol s) = absurd (let z : cost (numbered_at ws q) ≡ 0 = ap cost (node_tree ws q h ∙ symbol_tree numbered (get_or ws q 0) (operands_at ws q) s) in omega arith)
      go (a_constant s) = absurd (let z : cost (numbered_at ws q) ≡ 0 = ap cost (node_tree ws q h ∙ constant_tree numbered (get_or ws q 0) (operands_at ws q) s) in omega arith)
      go (an_operation s) = s
