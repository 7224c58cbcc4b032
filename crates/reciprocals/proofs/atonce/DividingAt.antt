-- Divisors all at once, at places of words (specs, Places): the change at a place from those at its operands' places, and the words of a settled tree. Assumes nothing.
use Prim.Native.Nat.{ℕ, zero, suc, ◌+◌, ◌≤◌, ◌<◌, min}
use native.Mathlib.Omega.{arith}
use mathlib.Core.Path.{◌≡◌, refl, sym, ◌∙◌, ap, ap₂}
use mathlib.Core.Bool.{Bool, true, false, ◌&&◌}
use mathlib.Core.Option.{Option, some}
use mathlib.Core.List.{List, [], ◌∷◌, ◌++◌, map}
use lib.ListN.{length, get_or, length-map}
use lib.Seq.{take_all}
use lib.Dec.{eqb, leb, ltb, eqb→eq, le→leb}
use Rattle.spec_tree.proofs.Tests.{is_true}
use Rattle.spec_tree.specs.Tree.{Name, Tree, Forest, Sym, Op, nil, ◌◂◌, forest, operands}
use Rattle.spec_tree.specs.Kinds.{Mul, Div}
use Rattle.spec_tree.specs.Facts.{size}
use Rattle.spec_tree.specs.Tokens.{tokens, all_tokens, read, numbered, kind_of, takes, tree_of_word, trees_in}
use Rattle.spec_tree.proofs.TokenLaws.{Word, a_symbol, a_constant, an_operation, word_is, leaf_takes, symbol_tree, constant_tree, operation_tree, complete_length}
use Rattle.laws.specs.positions.Places.{numbered_at, divides_at, second_at}
use Rattle.words.specs.words.Words.{number}
use Rattle.words.proofs.words.Rewriting.{node_written}
use Rattle.reciprocals.specs.atonce.Rules.{rule_of}
use Rattle.reciprocals.specs.atonce.Dividing.{own_rule, change, changes, replaced, settled, settled_each}
use Rattle.reciprocals.specs.atonce.Places.{places_from, operand_places, least_at, rule_at, change_at, own_at, replaced_at}
use Rattle.reciprocals.proofs.atonce.Bits.{is_false, map_map}
use Rattle.reciprocals.proofs.atonce.Places.{node_at, places_count, trees_from}

pub no_division : (w : ℕ) → kind_of w ≤ 1 → (b : Bool) → (eqb (kind_of w) Div && b) ≡ false
no_division w h b = ap (λ (c : Bool). c && b) (is_false (eqb (kind_of w) Div) (λ t. (let e = eqb→eq (kind_of w) Div t in omega arith)))

two_or_more : (k : ℕ) → leb 2 (suc (suc k)) ≡ true
two_or_more k = is_true (leb 2 (suc (suc k))) (le→leb 2 (suc (suc k)) (omega arith))

and_none : (b : Bool) → (b && false) ≡ false
and_none true = refl
and_none false = refl

module _ (rank : Tree → Option ℕ) (m s : ℕ) (ws : List ℕ) (n : ℕ) (complete : trees_in ws ≡ some n) where
  -- ---- the change at a place

  changes_list : (l : List ℕ) → changes rank m s (forest (map (numbered_at ws) l)) ≡ least_at m (change_at rank m s ws) l
  unfolding change forest least_at change_at
  changes_list [] = refl
  changes_list (q ∷ l) = ap (min (change rank m s (numbered_at ws q))) (changes_list l)

  own_list :
      (j k q : ℕ)
      → own_rule rank m s j (forest (map (numbered_at ws) (places_from ws k q)))
      ≡ elim (eqb j Div && leb 2 k) [ true ↦ rule_at rank m s ws (q + size (numbered_at ws q)) | false ↦ m ]
  unfolding own_rule forest places_from rule_at
  own_list j zero q = ap (λ (b : Bool). elim b as (λ _. ℕ) [ true ↦ rule_of rank m s (numbered_at ws (q + size (numbered_at ws q))) | false ↦ m ]) (sym (and_none (eqb j Div)))
  own_list j (suc zero) q = ap (λ (b : Bool). elim b as (λ _. ℕ) [ true ↦ rule_of rank m s (numbered_at ws (q + size (numbered_at ws q))) | false ↦ m ]) (sym (and_none (eqb j Div)))
  own_list j (suc (suc k)) q =
      go (eqb j Div)
      ∙ ap (λ (b : Bool). elim (eqb j Div && b) as (λ _. ℕ) [ true ↦ rule_of rank m s (numbered_at ws (q + size (numbered_at ws q))) | false ↦ m ]) (sym (two_or_more k))
    where
      go : (c : Bool)
          → ◌≡◌ {A = ℕ} (elim c [ true ↦ rule_of rank m s (numbered_at ws (q + size (numbered_at ws q))) | false ↦ m ])
          (elim (c && true) [ true ↦ rule_of rank m s (numbered_at ws (q + size (numbered_at ws q))) | false ↦ m ])
      go true = refl
      go false = refl

  no_operands : (p : ℕ) → kind_of (get_or ws p 0) ≤ 1 → operand_places ws p ≡ []
  unfolding operand_places places_from
  no_operands p h = ap (λ (k : ℕ). places_from ws k (suc p)) (leaf_takes (get_or ws p 0) h)

  pub change_at_is : (p : ℕ) → p < length ws → change_at rank m s ws p ≡ min (own_at rank m s ws p) (least_at m (change_at rank m s ws) (operand_places ws p))
  unfolding change change_at own_at divides_at second_at operand_places least_at
  change_at_is p h = ap (change rank m s) (node_at ws n complete p h) ∙ go (word_is (get_or ws p 0))
    where
      w : ℕ
      w = get_or ws p 0

      leaf : (t : Tree) → tree_of_word numbered w (map (numbered_at ws) (operand_places ws p)) ≡ t → change rank m s t ≡ m → kind_of w ≤ 1
          → change rank m s (tree_of_word numbered w (map (numbered_at ws) (operand_places ws p))) ≡ min (own_at rank m s ws p) (least_at m (change_at rank m s ws) (operand_places ws p))
      leaf t e c k =
          let o : own_at rank m s ws p ≡ m =
          ap (λ (b : Bool). elim b as (λ _. ℕ) [ true ↦ rule_at rank m s ws (second_at ws p) | false ↦ m ]) (no_division w k (leb 2 (takes w))) in
          let l : least_at m (change_at rank m s ws) (operand_places ws p) ≡ m = ap (least_at m (change_at rank m s ws)) (no_operands p k) in
          ap (change rank m s) e ∙ (c ∙ (let z : m ≡ min (own_at rank m s ws p) (least_at m (change_at rank m s ws) (operand_places ws p)) = omega (arith, o, l) in z))

      go : Word w
          → change rank m s (tree_of_word numbered w (map (numbered_at ws) (operand_places ws p))) ≡ min (own_at rank m s ws p) (least_at m (change_at rank m s ws) (operand_places ws p))
      go (a_symbol k) = leaf _ (symbol_tree numbered w (map (numbered_at ws) (operand_places ws p)) k) refl (omega arith)
      go (a_constant k) = leaf _ (constant_tree numbered w (map (numbered_at ws) (operand_places ws p)) k) refl (omega arith)
      go (an_operation k) =
          ap (change rank m s) (operation_tree numbered w (map (numbered_at ws) (operand_places ws p)) k)
          ∙ ap₂ min (own_list (kind_of w) (takes w) (suc p)) (changes_list (places_from ws (takes w) (suc p)))

  -- ---- the settled tree at a place

  module _ (name : ℕ → Name) where
    -- the tree at a place, settled
    unfoldable pub settled_at : ℕ → Tree
    settled_at q = settled rank m s name (numbered_at ws q)

    settled_list : (l : List ℕ) → settled_each rank m s name (forest (map (numbered_at ws) l)) ≡ forest (map settled_at l)
    unfolding settled forest settled_at
    settled_list [] = refl
    settled_list (q ∷ l) = ap (λ (f : Forest). settled rank m s name (numbered_at ws q) ◂ f) (settled_list l)

    product_of : ℕ → ℕ → Tree
    product_of q r = Op Mul (settled_at q ◂ Sym (name (rule_at rank m s ws r)) ◂ nil)

    node_list :
        (j k q : ℕ) → let r = q + size (numbered_at ws q) in
        settled rank m s name (Op j (forest (map (numbered_at ws) (places_from ws k q))))
        ≡ elim ((eqb j Div && leb 2 k) && ltb (rule_at rank m s ws r) (change_at rank m s ws r)) [
          | true ↦ product_of q r
          | false ↦ Op j (forest (map settled_at (places_from ws k q)))
        ]
    unfolding settled forest places_from rule_at change_at replaced product_of settled_at
    node_list j zero q = few (eqb j Div)
      where
        few : (c : Bool)
            → ◌≡◌ {A = Tree} (elim (c && false) [ true ↦ Op Mul nil | false ↦ Op j nil ])
            (elim ((c && false) && ltb (rule_at rank m s ws (q + size (numbered_at ws q))) (change_at rank m s ws (q + size (numbered_at ws q)))) [
              | true ↦ product_of q (q + size (numbered_at ws q))
              | false ↦ Op j nil
            ])
        few true = refl
        few false = refl
    node_list j (suc zero) q = few (eqb j Div)
      where
        few : (c : Bool)
            → ◌≡◌ {A = Tree} (elim (c && false) [ true ↦ Op Mul nil | false ↦ Op j (settled_at q ◂ nil) ])
            (elim ((c && false) && ltb (rule_at rank m s ws (q + size (numbered_at ws q))) (change_at rank m s ws (q + size (numbered_at ws q)))) [
              | true ↦ product_of q (q + size (numbered_at ws q))
              | false ↦ Op j (settled_at q ◂ nil)
            ])
        few true = refl
        few false = refl
    node_list j (suc (suc k)) q =
        many (eqb j Div)
        ∙ ap (λ (b : Bool). elim ((eqb j Div && b) && ltb (rule_at rank m s ws r) (change_at rank m s ws r)) as (λ _. Tree) [
          | true ↦ product_of q r
          | false ↦ Op j (forest (map settled_at (places_from ws (suc (suc k)) q)))
        ]) (sym (two_or_more k))
      where
        r : ℕ
        r = q + size (numbered_at ws q)

        many : (c : Bool)
            → ◌≡◌ {A = Tree}
            (elim (c && ltb (rule_at rank m s ws r) (change_at rank m s ws r)) [
              | true ↦ product_of q r
              | false ↦ Op j (settled_each rank m s name (forest (map (numbered_at ws) (places_from ws (suc (suc k)) q))))
            ])
            (elim ((c && true) && ltb (rule_at rank m s ws r) (change_at rank m s ws r)) [
              | true ↦ product_of q r
              | false ↦ Op j (forest (map settled_at (places_from ws (suc (suc k)) q)))
            ])
        many true = ap (λ (f : Forest). elim (ltb (rule_at rank m s ws r) (change_at rank m s ws r)) as (λ _. Tree) [ true ↦ product_of q r | false ↦ Op j f ]) (settled_list (places_from ws (suc (suc k)) q))
        many false = ap (Op j) (settled_list (places_from ws (suc (suc k)) q))

    pub settled_at_is :
        (p : ℕ) → p < length ws
        → settled_at p
        ≡ elim (replaced_at rank m s ws p) [
          | true ↦ Op Mul (settled_at (suc p) ◂ Sym (name (rule_at rank m s ws (second_at ws p))) ◂ nil)
          | false ↦ tree_of_word numbered (get_or ws p 0) (map settled_at (operand_places ws p))
        ]
    unfolding settled settled_at replaced_at divides_at second_at operand_places product_of
    settled_at_is p h = ap (settled rank m s name) (node_at ws n complete p h) ∙ go (word_is (get_or ws p 0))
      where
        w : ℕ
        w = get_or ws p 0

        leaf : (t : Tree) → tree_of_word numbered w (map (numbered_at ws) (operand_places ws p)) ≡ t → settled rank m s name t ≡ t → kind_of w ≤ 1
            → settled rank m s name (tree_of_word numbered w (map (numbered_at ws) (operand_places ws p)))
            ≡ elim (replaced_at rank m s ws p) [
              | true ↦ Op Mul (settled_at (suc p) ◂ Sym (name (rule_at rank m s ws (second_at ws p))) ◂ nil)
              | false ↦ tree_of_word numbered w (map settled_at (operand_places ws p))
            ]
        leaf t e c k =
            let o = no_division w k (leb 2 (takes w)) in
            let z = no_operands p k in
            let x : map (numbered_at ws) (operand_places ws p) ≡ [] = ap (map (numbered_at ws)) z in
            let y : map settled_at (operand_places ws p) ≡ [] = ap (map settled_at) z in
            ap (settled rank m s name) e ∙ (c ∙ (sym e ∙ (ap (tree_of_word numbered w) (x ∙ sym y)
            ∙ ap (λ (b : Bool). elim (b && ltb (rule_at rank m s ws (second_at ws p)) (change_at rank m s ws (second_at ws p))) as (λ _. Tree) [
              | true ↦ Op Mul (settled_at (suc p) ◂ Sym (name (rule_at rank m s ws (second_at ws p))) ◂ nil)
              | false ↦ tree_of_word numbered w (map settled_at (operand_places ws p))
            ]) (sym o))))

        go : Word w
            → settled rank m s name (tree_of_word numbered w (map (numbered_at ws) (operand_places ws p)))
            ≡ elim (replaced_at rank m s ws p) [
              | true ↦ Op Mul (settled_at (suc p) ◂ Sym (name (rule_at rank m s ws (second_at ws p))) ◂ nil)
              | false ↦ tree_of_word numbered w (map settled_at (operand_places ws p))
            ]
        go (a_symbol k) = leaf _ (symbol_tree numbered w (map (numbered_at ws) (operand_places ws p)) k) refl (omega arith)
        go (a_constant k) = leaf _ (constant_tree numbered w (map (numbered_at ws) (operand_places ws p)) k) refl (omega arith)
        go (an_operation k) =
            ap (settled rank m s name) (operation_tree numbered w (map (numbered_at ws) (operand_places ws p)) k)
            ∙ (node_list (kind_of w) (takes w) (suc p)
            ∙ ap (λ (t : Tree). elim (replaced_at rank m s ws p) as (λ _. Tree) [
              | true ↦ Op Mul (settled_at (suc p) ◂ Sym (name (rule_at rank m s ws (second_at ws p))) ◂ nil)
              | false ↦ t
            ]) (sym (operation_tree numbered w (map settled_at (operand_places ws p)) k)))

    -- ---- its words

    unfoldable pub words_at : ℕ → List ℕ
    words_at q = tokens number (settled_at q)

    -- the word of a Mul of two operands, the dividend's words, and the name's
    pub words_replaced :
        (p : ℕ) → p < length ws → replaced_at rank m s ws p ≡ true
        → words_at p ≡ 133 ∷ (words_at (suc p) ++ tokens number (Sym (name (rule_at rank m s ws (second_at ws p)))))
    unfolding words_at tokens operands
    words_replaced p h e =
        let k = rule_at rank m s ws (second_at ws p) in
        ap (tokens number) (settled_at_is p h
        ∙ ap (λ (b : Bool). elim b as (λ _. Tree) [
          | true ↦ Op Mul (settled_at (suc p) ◂ Sym (name k) ◂ nil)
          | false ↦ tree_of_word numbered (get_or ws p 0) (map settled_at (operand_places ws p))
        ]) e)

    -- the node's word, and its operands' words
    pub words_kept :
        (p : ℕ) → p < length ws → replaced_at rank m s ws p ≡ false
        → words_at p ≡ get_or ws p 0 ∷ all_tokens number (map settled_at (operand_places ws p))
    unfolding words_at operand_places
    words_kept p h e =
        let k = rule_at rank m s ws (second_at ws p) in
        ap (tokens number) (settled_at_is p h
        ∙ ap (λ (b : Bool). elim b as (λ _. Tree) [
          | true ↦ Op Mul (settled_at (suc p) ◂ Sym (name k) ◂ nil)
          | false ↦ tree_of_word numbered (get_or ws p 0) (map settled_at (operand_places ws p))
        ]) e)
        ∙ node_written (get_or ws p 0) (map settled_at (operand_places ws p)) (length-map (operand_places ws p) settled_at ∙ places_count ws (takes (get_or ws p 0)) (suc p))

    -- all trees, settled, are those at the roots' places
    pub all_settled_at : map (settled rank m s name) (read numbered ws) ≡ map settled_at (places_from ws n 0)
    unfolding settled_at
    all_settled_at =
        let e = complete_length numbered ws n complete in
        ap (map (settled rank m s name)) (sym (take_all n (read numbered ws) (omega arith)) ∙ trees_from ws n 0 (omega arith)) ∙ map_map (settled rank m s name) (numbered_at ws) (places_from ws n 0)
