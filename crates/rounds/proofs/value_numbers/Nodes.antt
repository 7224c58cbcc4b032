-- Equal trees have equal words and equal operands, and so are in one chain. Assumes nothing.
use Prim.Native.Nat.{ℕ, suc, ◌+◌, ◌≤◌, ◌<◌}
use native.Mathlib.Omega.{arith}
use mathlib.Core.Path.{◌≡◌, refl, sym, ◌∙◌, ap, subst}
use mathlib.Core.Bool.{Bool, true, false}
use mathlib.Core.Option.{Option, none, some}
use mathlib.Core.List.{List, map}
use borrow.Author.Tests.{eqb-true, eqb-false}
use lib.ListN.{length, get_or, take, drop}
use lib.Seq.{drop-cons}
use lib.Dec.{T, eqb}
use Rattle.spec_tree.specs.Tree.{Tree, Op, nil, eq_tree, forest, operands}
use Rattle.spec_tree.specs.Tokens.{read, numbered, takes, tree_of_word, trees_in, kind_of}
use Rattle.spec_tree.specs.Facts.{size}
use Rattle.spec_tree.proofs.FactLaws.{size_one}
use Rattle.spec_tree.proofs.TreeLaws.{eq_tree_refl}
use Rattle.spec_tree.proofs.TokenLaws.{tree_at, read_cons, made, Word, a_symbol, a_constant, an_operation, word_is, leaf_takes, operation_tree, operands_forest, complete_tail, broken_end, complete_length}
use Rattle.laws.specs.positions.Places.{numbered_at}
use Rattle.rounds.specs.uses.Marks.{Complete}
use Rattle.rounds.proofs.uses.Runs.{word_differs}
use Rattle.rounds.specs.value_numbers.Classes.{chain_of, mixed_all, class_of, bucket_at, operands_at}

-- the operands of a word are told by its tree
below_same : (w : ℕ) (l r : List Tree) → tree_of_word numbered w (take (takes w) l) ≡ tree_of_word numbered w (take (takes w) r) → take (takes w) l ≡ take (takes w) r
below_same w l r e = go (word_is w)
  where
    go : Word w → take (takes w) l ≡ take (takes w) r
    go (a_symbol h) = rw (leaf_takes w (omega arith))
    go (a_constant h) = rw (leaf_takes w (omega arith))
    go (an_operation h) =
        let p : Op (kind_of w) (forest (take (takes w) l)) ≡ Op (kind_of w) (forest (take (takes w) r)) =
        sym (operation_tree numbered w (take (takes w) l) h) ∙ (e ∙ operation_tree numbered w (take (takes w) r) h) in
        let f : forest (take (takes w) l) ≡ forest (take (takes w) r) = cc in
        sym (operands_forest (take (takes w) l)) ∙ (ap operands f ∙ operands_forest (take (takes w) r))

module _ (ws : List ℕ) where
  -- a node is its word and its operands
  pub node_tree : (i : ℕ) → i < length ws → numbered_at ws i ≡ tree_of_word numbered (get_or ws i 0) (operands_at ws i)
  unfolding numbered_at
  node_tree i h =
      let s : suc i ≡ i + 1 = omega arith in
      tree_at numbered ws i
      ∙ (ap (λ (l : List ℕ). get_or (read numbered l) 0 (Op 0 nil)) (drop-cons ws i 0 h)
      ∙ (ap (λ (l : List Tree). get_or l 0 (Op 0 nil)) (read_cons numbered (get_or ws i 0) (drop (suc i) ws))
      ∙ ap (λ (k : ℕ). made numbered (get_or ws i 0) (read numbered (drop k ws))) s))

  module _ (complete : Complete ws) where
    pub node_word : (i p : ℕ) → i < length ws → p < length ws → numbered_at ws i ≡ numbered_at ws p → get_or ws i 0 ≡ get_or ws p 0
    node_word i p h g e = go (eqb (get_or ws i 0) (get_or ws p 0)) refl
      where
        go : (b : Bool) → eqb (get_or ws i 0) (get_or ws p 0) ≡ b → get_or ws i 0 ≡ get_or ws p 0
        go true q = eqb-true (get_or ws i 0) (get_or ws p 0) q
        go false q =
            let zi : i + 0 ≡ i = omega arith in
            let zp : p + 0 ≡ p = omega arith in
            let ne : get_or ws (i + 0) 0 ≡ get_or ws (p + 0) 0 → ⊥ = rw (zi, zp) (eqb-false (get_or ws i 0) (get_or ws p 0) q) in
            let f = word_differs ws complete p (size (numbered_at ws p)) i g h refl 0 (size_one (numbered_at ws p)) ne in
            absurd (subst T (sym f) (subst (λ (u : Tree). T (eq_tree (numbered_at ws i) u)) e (eq_tree_refl (numbered_at ws i))))

    pub node_operands : (i p : ℕ) → i < length ws → p < length ws → numbered_at ws i ≡ numbered_at ws p → operands_at ws i ≡ operands_at ws p
    node_operands i p h g e =
        let w = node_word i p h g e in
        let a = read numbered (drop (i + 1) ws) in
        let b = read numbered (drop (p + 1) ws) in
        let t : tree_of_word numbered (get_or ws p 0) (take (takes (get_or ws p 0)) a) ≡ tree_of_word numbered (get_or ws p 0) (take (takes (get_or ws p 0)) b) =
        rw w at (sym (node_tree i h) ∙ (e ∙ node_tree p g)) in
        ap (λ (x : ℕ). take (takes x) a) w ∙ below_same (get_or ws p 0) a b t

    pub bucket_same : (i p : ℕ) → i < length ws → p < length ws → numbered_at ws i ≡ numbered_at ws p → bucket_at ws i ≡ bucket_at ws p
    unfolding bucket_at
    bucket_same i p h g e =
        ap (λ (x : ℕ). chain_of (length ws) (mixed_all x (map (class_of ws) (operands_at ws i)))) (node_word i p h g e)
        ∙ ap (λ (l : List Tree). chain_of (length ws) (mixed_all (get_or ws p 0) (map (class_of ws) l))) (node_operands i p h g e)

    -- the operands are there
    pub enough : (j : ℕ) → j < length ws → takes (get_or ws j 0) ≤ length (read numbered (drop (j + 1) ws))
    enough j inside = go (trees_in (drop j ws)) refl
      where
        go : (o : Option ℕ) → trees_in (drop j ws) ≡ o → takes (get_or ws j 0) ≤ length (read numbered (drop (j + 1) ws))
        go none e = absurd (complete (broken_end j ws e))
        go (some n) e =
            let s : j + 1 ≡ suc j = omega arith in
            let t = complete_tail (get_or ws j 0) (drop (suc j) ws) n (rw (drop-cons ws j 0 inside) at e) in
            rw s (omega (arith, t.enough, complete_length numbered (drop (suc j) ws) t.trees t.are))

  -- nodes with one word and the same operands are equal
  pub same_node_tree : (i p : ℕ) → i < length ws → p < length ws → get_or ws i 0 ≡ get_or ws p 0 → operands_at ws i ≡ operands_at ws p → numbered_at ws i ≡ numbered_at ws p
  same_node_tree i p h g w l =
      node_tree i h
      ∙ (ap (λ (x : ℕ). tree_of_word numbered x (operands_at ws i)) w ∙ (ap (tree_of_word numbered (get_or ws p 0)) l ∙ sym (node_tree p g)))
