-- The classes that the tables give for a word's operands are those of its operands. Assumes nothing.
use Prim.Native.Nat.{ℕ, zero, suc, ◌+◌, ◌*◌, ◌≤◌, ◌<◌}
use native.Mathlib.Omega.{arith}
use native.Mathlib.Nat.{add-zero}
use mathlib.Core.Path.{◌≡◌, refl, sym, ◌∙◌, ap, subst}
use mathlib.Core.Bool.{Bool, true, false}
use mathlib.Core.List.{List, [], ◌∷◌, map}
use borrow.Author.Tests.{eq-eqb, ne_eqb}
use lib.ListN.{length, get_or, take, drop, length-drop}
use lib.Seq.{drop-drop}
use lib.Dec.{T, eqb}
use Rattle.spec_tree.specs.Bytes.{eq_bytes}
use Rattle.spec_tree.specs.Tree.{Tree, Op, nil}
use Rattle.spec_tree.specs.Facts.{total, size}
use Rattle.spec_tree.specs.Tokens.{read, numbered, takes}
use Rattle.spec_tree.proofs.FactLaws.{size_one}
use Rattle.spec_tree.proofs.TreeLaws.{eq_bytes_sound, eq_bytes_refl}
use Rattle.spec_tree.proofs.TokenLaws.{sizes, read_past, read_size, tree_at}
use Rattle.laws.specs.positions.Places.{numbered_at}
use Rattle.rounds.specs.uses.Marks.{Complete}
use Rattle.rounds.specs.value_numbers.Classes.{chain_of, mixed_all, class_of, class_at, bucket_at, operands_at}
use Rattle.rounds.specs.value_numbers.Walks.{below, Walk, Sized}
use Rattle.rounds.specs.value_numbers.Tables.{Known}
use Rattle.rounds.proofs.value_numbers.Nodes.{node_word, node_operands, enough, same_node_tree}
use Rattle.rounds.proofs.value_numbers.Sides.{tree_by, class_tree, class_same, tree_same}

module _ (ws : List ℕ) where
  abbrev here : ℕ → List Tree
  here p = read numbered (drop p ws)

  -- past the first tree
  past : (p : ℕ) (t : Tree) (ts : List Tree) → here p ≡ t ∷ ts → here (p + size t) ≡ ts
  unfolding sizes total
  past p t ts e =
      let r = read_past numbered (drop p ws) 1 in
      let s : sizes (take 1 (here p)) ≡ size t = rw e (add-zero (size t)) in
      rw (← drop-drop (size t) p ws, ← s) (r ∙ ap (drop 1) e)

  -- the first tree ends inside
  ends : (p : ℕ) (t : Tree) (ts : List Tree) → here p ≡ t ∷ ts → p + size t ≤ length ws
  unfolding sizes total
  ends p t ts e =
      let s : sizes (t ∷ ts) ≡ length (drop p ws) = rw e at (read_size numbered (drop p ws)) in
      omega (arith, s, length-drop p ws, size_one t)

  here_tree : (p : ℕ) (t : Tree) (ts : List Tree) → here p ≡ t ∷ ts → numbered_at ws p ≡ t
  unfolding numbered_at
  here_tree p t ts e = tree_at numbered ws p ∙ ap (λ (l : List Tree). get_or l 0 (Op 0 nil)) e

module _ (ws fs cl : List ℕ) (i : ℕ) (sized : Sized ws i fs) (known : Known ws i cl) where
  record Below (n p : ℕ) : Type 0 where
    walk : Walk fs cl p n
    classes : below fs cl p n ≡ map (class_of ws) (take n (here ws p))
    trees : map (tree_by ws) (below fs cl p n) ≡ take n (here ws p)

  belows : (n p : ℕ) → i ≤ p → n ≤ length (here ws p) → Below n p
  unfolding below Walk class_at
  belows zero p h l = record { walk = tt; classes = refl; trees = refl }
  belows (suc n) p h l = go (λ q a b. belows n q a b) (here ws p) refl l
    where
      go : ((q : ℕ) → i ≤ q → n ≤ length (here ws q) → Below n q) → (ts : List Tree) → here ws p ≡ ts → suc n ≤ length ts → Below (suc n) p
      go fewer [] e l = absurd (omega arith)
      go fewer (t ∷ ts) e l =
          let w = ends ws p t ts e in
          let inw : p < length ws = omega (arith, w, size_one t) in
          let is = here_tree ws p t ts e in
          let sz : get_or fs (4 * p) 0 ≡ size t = sized.sizes p h inw ∙ ap size is in
          let cp : get_or cl p 0 ≡ class_at ws p = known.each p h inw in
          let ct : class_at ws p ≡ class_of ws t = ap (class_of ws) is in
          let tr : tree_by ws (class_at ws p) ≡ t = class_tree ws p inw ∙ is in
          let q = past ws p t ts e in
          let more = fewer (p + size t) (omega arith) (rw q (omega arith)) in
          record {
            walk = (omega (arith, inw, sized.long), omega (arith, inw, known.long), omega (arith, sz, w, known.long), rw sz more.walk);
            classes = rw (cp, ct, sz, more.classes, q, e);
            trees = rw (cp, tr, sz, more.trees, q, e);
          }

  module _ (complete : Complete ws) (j : ℕ) (inside : j < length ws) (later : i ≤ j + 1) where
    operands_below : Below (takes (get_or ws j 0)) (j + 1)
    operands_below = belows (takes (get_or ws j 0)) (j + 1) later (enough ws complete j inside)

    pub walk_there : (n : ℕ) → n ≡ takes (get_or ws j 0) → Walk fs cl (j + 1) n
    walk_there n e = rw e operands_below.walk

    -- an equal word's too
    pub walk_there_as : (n w : ℕ) → n ≡ takes w → get_or ws j 0 ≡ w → Walk fs cl (j + 1) n
    walk_there_as n w e f = walk_there n (e ∙ ap takes (sym f))

    pub bucket_is : (n key : ℕ) → n ≡ takes (get_or ws j 0) → key ≡ mixed_all (get_or ws j 0) (below fs cl (j + 1) n) → chain_of (length ws) key ≡ bucket_at ws j
    unfolding bucket_at
    bucket_is n key e k = rw (k, e, operands_below.classes)

  module _ (complete : Complete ws) (j p : ℕ) (inside : j < length ws) (other : p < length ws) (later : i ≤ j + 1) (latest : i ≤ p + 1) where
    pub words_differ : (get_or ws p 0 ≡ get_or ws j 0 → ⊥) → false ≡ eqb (class_at ws j) (class_at ws p)
    words_differ ne =
        sym (ne_eqb (class_at ws j) (class_at ws p) (λ e. ne (node_word ws complete p j other inside (tree_same ws p j other inside (sym e)))))

    module _ (word : get_or ws p 0 ≡ get_or ws j 0) where
      below_j : Below (takes (get_or ws j 0)) (j + 1)
      below_j = operands_below complete j inside later

      below_p : Below (takes (get_or ws j 0)) (p + 1)
      below_p = rw word at (operands_below complete p other latest)

      lists : eq_bytes (below fs cl (j + 1) (takes (get_or ws j 0))) (below fs cl (p + 1) (takes (get_or ws j 0))) ≡ eqb (class_at ws j) (class_at ws p)
      lists = go (eq_bytes (below fs cl (j + 1) (takes (get_or ws j 0))) (below fs cl (p + 1) (takes (get_or ws j 0)))) refl
        where
          go :
              (t : Bool) → eq_bytes (below fs cl (j + 1) (takes (get_or ws j 0))) (below fs cl (p + 1) (takes (get_or ws j 0))) ≡ t
              → t ≡ eqb (class_at ws j) (class_at ws p)
          go true q =
              let a = below fs cl (j + 1) (takes (get_or ws j 0)) in
              let b = below fs cl (p + 1) (takes (get_or ws j 0)) in
              let same : a ≡ b = eq_bytes_sound a b (subst T (sym q) tt) in
              let os : operands_at ws j ≡ take (takes (get_or ws j 0)) (here ws (p + 1)) =
              sym below_j.trees ∙ (ap (map (tree_by ws)) same ∙ below_p.trees) in
              let all : operands_at ws j ≡ operands_at ws p = os ∙ ap (λ (x : ℕ). take (takes x) (here ws (p + 1))) (sym word) in
              sym (eq-eqb (class_at ws j) (class_at ws p) (class_same ws j p (same_node_tree ws j p inside other (sym word) all)))
          go false q =
              sym (ne_eqb (class_at ws j) (class_at ws p)
              (λ e.
              let a = below fs cl (j + 1) (takes (get_or ws j 0)) in
              let b = below fs cl (p + 1) (takes (get_or ws j 0)) in
              let os = node_operands ws complete j p inside other (tree_same ws j p inside other e) in
              let same : a ≡ b =
              below_j.classes
              ∙ (ap (map (class_of ws)) (os ∙ ap (λ (x : ℕ). take (takes x) (here ws (p + 1))) word) ∙ sym below_p.classes) in
              subst T q (subst (λ (l : List ℕ). T (eq_bytes a l)) same (eq_bytes_refl a))))

      pub classes_agree : (n : ℕ) (r : Bool) → n ≡ takes (get_or ws j 0) → r ≡ eq_bytes (below fs cl (j + 1) n) (below fs cl (p + 1) n) → r ≡ eqb (class_at ws j) (class_at ws p)
      classes_agree n r e k = k ∙ (ap (λ (m : ℕ). eq_bytes (below fs cl (j + 1) m) (below fs cl (p + 1) m)) e ∙ lists)
