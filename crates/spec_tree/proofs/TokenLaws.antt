-- Words read as trees (Tokens): what a word is by its kind, what a complete list of words is, where the next tree starts, that places are nodes in reading
-- order, and that a fold that does not look at names has one value however symbols are named. Assumes nothing.
use Prim.Native.Nat.{ℕ, zero, suc, ◌+◌, ◌-◌, ◌/◌, ◌%◌, ◌≤◌, ◌<◌}
use native.Mathlib.Omega.{arith}
use mathlib.Core.Path.{◌≡◌, refl, sym, ◌∙◌, ap, ap₂}
use mathlib.Core.Bool.{Bool, true, false, cond}
use mathlib.Core.Option.{Option, none, some}
use mathlib.Core.List.{List, [], ◌∷◌, ◌++◌, append_assoc, map}
use borrow.Author.Tests.{eqb-true, eqb-false, leb-true, eq-eqb, ne_eqb, le-leb, lt-leb}
use lib.IntN.{ℤ}
use lib.ListN.{length, get_or, take, drop, length-drop, take-append-drop}
use lib.Seq.{get_or-drop, take-append-le, drop-append-le, drop-drop, take-add}
use lib.Dec.{eqb, leb}
use Rattle.spec_tree.specs.Tree.{Name, Tree, Forest, Sym, Const, Op, nil, ◌◂◌, fold, folds, operands, forest}
use Rattle.spec_tree.specs.Facts.{total, size, nodes, nodes_of, all_nodes}
use Rattle.spec_tree.specs.Tokens.{kind_of, below_of, takes, constant_at, name_by, tree_of_word, read, trees_at, trees_in, words_of, run_at}

-- ---- a word by its kind

pub data Word (w : ℕ) : Type 0 where
  a_symbol : kind_of w ≡ 0 → Word w
  a_constant : kind_of w ≡ 1 → Word w
  an_operation : 1 < kind_of w → Word w

pub word_is : (w : ℕ) → Word w
word_is w = go (eqb (kind_of w) 0) (eqb (kind_of w) 1) refl refl
  where
    go : (a b : Bool) → eqb (kind_of w) 0 ≡ a → eqb (kind_of w) 1 ≡ b → Word w
    go true b p q = a_symbol (eqb-true (kind_of w) 0 p)
    go false true p q = a_constant (eqb-true (kind_of w) 1 q)
    go false false p q =
        let n = eqb-false (kind_of w) 0 p in
        let m = eqb-false (kind_of w) 1 q in
        an_operation (omega (arith, n, m))

pub leaf_takes : (w : ℕ) → kind_of w ≤ 1 → takes w ≡ 0
unfolding takes
leaf_takes w h = rw (le-leb (kind_of w) 1 h)

pub operation_takes : (w : ℕ) → 1 < kind_of w → takes w ≡ below_of w
unfolding takes
operation_takes w h = rw (lt-leb (kind_of w) 1 h)

pub takes_below : (w : ℕ) → takes w ≤ below_of w
takes_below w = go (word_is w)
  where
    go : Word w → takes w ≤ below_of w
    go (a_symbol h) = omega (arith, leaf_takes w (omega arith))
    go (a_constant h) = omega (arith, leaf_takes w (omega arith))
    go (an_operation h) = omega (arith, operation_takes w h)

module _ (name_at : ℕ → List ℕ) where
  pub symbol_tree : (w : ℕ) (l : List Tree) → kind_of w ≡ 0 → tree_of_word name_at w l ≡ Sym (name_by name_at (below_of w % 3) (below_of w / 3))
  unfolding tree_of_word
  symbol_tree w l h = rw (eq-eqb (kind_of w) 0 h)

  pub constant_tree : (w : ℕ) (l : List Tree) → kind_of w ≡ 1 → tree_of_word name_at w l ≡ Const (constant_at (below_of w))
  unfolding tree_of_word
  constant_tree w l h = let n : kind_of w ≡ 0 → ⊥ = λ e. omega arith in rw (ne_eqb (kind_of w) 0 n, eq-eqb (kind_of w) 1 h)

  pub operation_tree : (w : ℕ) (l : List Tree) → 1 < kind_of w → tree_of_word name_at w l ≡ Op (kind_of w) (forest l)
  unfolding tree_of_word
  operation_tree w l h =
      let n : kind_of w ≡ 0 → ⊥ = λ e. omega arith in
      let m : kind_of w ≡ 1 → ⊥ = λ e. omega arith in
      rw (ne_eqb (kind_of w) 0 n, ne_eqb (kind_of w) 1 m)

-- ---- lists of trees and of numbers

pub operands_forest : (l : List Tree) → operands (forest l) ≡ l
unfolding operands forest
operands_forest [] = refl
operands_forest (t ∷ l) = ap (λ (r : List Tree). t ∷ r) (operands_forest l)

pub forest_operands : (f : Forest) → forest (operands f) ≡ f
unfolding operands forest
forest_operands nil = refl
forest_operands (t ◂ f) = ap (λ (g : Forest). t ◂ g) (forest_operands f)

pub total_append : (a b : List ℕ) → total (a ++ b) ≡ total a + total b
unfolding total
total_append [] b = omega arith
total_append (n ∷ a) b = omega (arith, total_append a b)

module _ {A B : Type 0} (f : A → B) where
  pub map_append : (a b : List A) → map f (a ++ b) ≡ map f a ++ map f b
  map_append [] b = refl
  map_append (x ∷ a) b = ap (λ (l : List B). f x ∷ l) (map_append a b)

  pub map_take : (n : ℕ) (l : List A) → map f (take n l) ≡ take n (map f l)
  map_take zero l = refl
  map_take (suc n) [] = refl
  map_take (suc n) (x ∷ l) = ap (λ (r : List B). f x ∷ r) (map_take n l)

  pub map_drop : (n : ℕ) (l : List A) → map f (drop n l) ≡ drop n (map f l)
  map_drop zero l = refl
  map_drop (suc n) [] = refl
  map_drop (suc n) (x ∷ l) = map_drop n l

unfoldable pub sizes : List Tree → ℕ
sizes l = total (map size l)

-- ---- folds

module _ {A : Type 0} (leaf : Name → A) (constant : ℤ → A) (operation : ℕ → List A → A) where
  pub folds_forest : (l : List Tree) → folds leaf constant operation (forest l) ≡ map (fold leaf constant operation) l
  unfolding folds forest
  folds_forest [] = refl
  folds_forest (t ∷ l) = ap (λ (r : List A). fold leaf constant operation t ∷ r) (folds_forest l)

  pub fold_operation : (k : ℕ) (l : List Tree) → fold leaf constant operation (Op k (forest l)) ≡ operation k (map (fold leaf constant operation) l)
  unfolding fold
  fold_operation k l = ap (operation k) (folds_forest l)

pub size_operation : (k : ℕ) (l : List Tree) → size (Op k (forest l)) ≡ suc (sizes l)
unfolding size sizes
size_operation k l = fold_operation (λ n. 1) (λ c. 1) (λ k sizes. suc (total sizes)) k l

pub sizes_append : (a b : List Tree) → sizes (a ++ b) ≡ sizes a + sizes b
unfolding sizes
sizes_append a b = rw (map_append size a b) (total_append (map size a) (map size b))

-- ---- one word and what is read after it

module _ (name_at : ℕ → List ℕ) where
  abbrev pub made : ℕ → List Tree → Tree
  made w l = tree_of_word name_at w (take (takes w) l)

  -- a word's tree is it and its operands, whatever its kind
  pub size_made : (w : ℕ) (l : List Tree) → size (made w l) ≡ suc (sizes (take (takes w) l))
  unfolding size sizes
  size_made w l = go (word_is w)
    where
      go : Word w → size (made w l) ≡ suc (sizes (take (takes w) l))
      go (a_symbol h) = rw (symbol_tree name_at w (take (takes w) l) h, leaf_takes w (omega arith))
      go (a_constant h) = rw (constant_tree name_at w (take (takes w) l) h, leaf_takes w (omega arith))
      go (an_operation h) = rw (operation_tree name_at w (take (takes w) l) h) (size_operation (kind_of w) (take (takes w) l))

  pub read_cons : (w : ℕ) (ws : List ℕ) → read name_at (w ∷ ws) ≡ made w (read name_at ws) ∷ drop (takes w) (read name_at ws)
  unfolding read
  read_cons w ws = refl

  pub trees_cons : (w : ℕ) (ws : List ℕ) → trees_at name_at (w ∷ ws) ≡ made w (read name_at ws) ∷ trees_at name_at ws
  unfolding trees_at
  trees_cons w ws = refl

  -- past the words of the first k trees the others are read
  pub read_past : (ws : List ℕ) (k : ℕ) → read name_at (drop (sizes (take k (read name_at ws))) ws) ≡ drop k (read name_at ws)
  unfolding read sizes total
  read_past [] zero = refl
  read_past [] (suc k) = refl
  read_past (w ∷ ws) zero = refl
  read_past (w ∷ ws) (suc k) =
      let rs = read name_at ws in
      let a = takes w in
      let e : sizes (take (suc k) (read name_at (w ∷ ws))) ≡ suc (sizes (take (a + k) rs)) =
      rw (size_made w rs, take-add a k rs) (omega (arith, sizes_append (take a rs) (take k (drop a rs)))) in
      rw (e, read_past ws (a + k)) (sym (drop-drop k a rs))

  -- every word is a node of a tree read
  pub read_size : (ws : List ℕ) → sizes (read name_at ws) ≡ length ws
  unfolding read sizes total
  read_size [] = refl
  read_size (w ∷ ws) =
      let rs = read name_at ws in
      let p = sizes_append (take (takes w) rs) (drop (takes w) rs) in
      rw (size_made w rs) (omega (arith, read_size ws, rw take-append-drop at p))

  pub trees_length : (ws : List ℕ) → length (trees_at name_at ws) ≡ length ws
  unfolding trees_at
  trees_length [] = refl
  trees_length (w ∷ ws) = ap suc (trees_length ws)

  pub trees_drop : (i : ℕ) (ws : List ℕ) → drop i (trees_at name_at ws) ≡ trees_at name_at (drop i ws)
  unfolding trees_at
  trees_drop zero ws = refl
  trees_drop (suc i) [] = refl
  trees_drop (suc i) (w ∷ ws) = trees_drop i ws

  -- ---- places are nodes in reading order

  nodes_forest : (l : List Tree) → nodes_of (forest l) ≡ all_nodes l
  unfolding nodes_of forest all_nodes
  nodes_forest [] = refl
  nodes_forest (t ∷ l) = ap (λ (r : List Tree). nodes t ++ r) (nodes_forest l)

  nodes_made : (w : ℕ) (l : List Tree) → nodes (made w l) ≡ made w l ∷ all_nodes (take (takes w) l)
  unfolding nodes all_nodes
  nodes_made w l = go (word_is w)
    where
      go : Word w → nodes (made w l) ≡ made w l ∷ all_nodes (take (takes w) l)
      go (a_symbol h) = rw (symbol_tree name_at w (take (takes w) l) h, leaf_takes w (omega arith))
      go (a_constant h) = rw (constant_tree name_at w (take (takes w) l) h, leaf_takes w (omega arith))
      go (an_operation h) =
          rw (operation_tree name_at w (take (takes w) l) h) (ap (λ (r : List Tree). Op (kind_of w) (forest (take (takes w) l)) ∷ r) (nodes_forest (take (takes w) l)))

  all_nodes_append : (a b : List Tree) → all_nodes (a ++ b) ≡ all_nodes a ++ all_nodes b
  unfolding all_nodes
  all_nodes_append [] b = refl
  all_nodes_append (t ∷ a) b = rw (all_nodes_append a b, append_assoc)

  all_nodes_cons : (t : Tree) (l : List Tree) → all_nodes (t ∷ l) ≡ nodes t ++ all_nodes l
  unfolding all_nodes
  all_nodes_cons t l = refl

  no_places : trees_at name_at [] ≡ all_nodes (read name_at [])
  unfolding trees_at read all_nodes
  no_places = refl

  pub places_are_nodes : (ws : List ℕ) → trees_at name_at ws ≡ all_nodes (read name_at ws)
  places_are_nodes [] = no_places
  places_are_nodes (w ∷ ws) =
      let rs = read name_at ws in
      let both = all_nodes_append (take (takes w) rs) (drop (takes w) rs) in
      rw (trees_cons w ws, read_cons w ws, all_nodes_cons, nodes_made w rs, places_are_nodes ws)
      (ap (λ (r : List Tree). made w rs ∷ r) (rw take-append-drop at both))

-- ---- a fold that does not look at names

module _ {A : Type 0} (leaf : Name → A) (constant : ℤ → A) (operation : ℕ → List A → A) (blind : (n m : Name) → leaf n ≡ leaf m) (a b : ℕ → List ℕ) where
  abbrev value : Tree → A
  value = fold leaf constant operation

  blind_word : (w : ℕ) (l r : List Tree) → map value l ≡ map value r → value (tree_of_word a w l) ≡ value (tree_of_word b w r)
  unfolding fold
  blind_word w l r e = go (word_is w)
    where
      go : Word w → value (tree_of_word a w l) ≡ value (tree_of_word b w r)
      go (a_symbol h) = rw (symbol_tree a w l h, symbol_tree b w r h) (blind _ _)
      go (a_constant h) = rw (constant_tree a w l h, constant_tree b w r h)
      go (an_operation h) =
          rw (operation_tree a w l h, operation_tree b w r h, folds_forest leaf constant operation l, folds_forest leaf constant operation r, e)

  pub blind_read : (ws : List ℕ) → map value (read a ws) ≡ map value (read b ws)
  unfolding read
  blind_read [] = refl
  blind_read (w ∷ ws) =
      let e = blind_read ws in
      ap₂ ◌∷◌ (blind_word w (take (takes w) (read a ws)) (take (takes w) (read b ws)) (rw (map_take value (takes w) (read a ws), map_take value (takes w) (read b ws), e)))
      (rw (map_drop value (takes w) (read a ws), map_drop value (takes w) (read b ws), e))

  pub blind_trees : (ws : List ℕ) → map value (trees_at a ws) ≡ map value (trees_at b ws)
  unfolding trees_at
  blind_trees [] = refl
  blind_trees (w ∷ ws) =
      let e = blind_read ws in
      ap₂ ◌∷◌ (blind_word w (take (takes w) (read a ws)) (take (takes w) (read b ws)) (rw (map_take value (takes w) (read a ws), map_take value (takes w) (read b ws), e))) (blind_trees ws)

-- ---- complete lists

-- what a word needs of the trees after it, and what it leaves
pub record Takes (after : Option ℕ) (a n : ℕ) : Type 0 where
  pub trees : ℕ
  pub are : after ≡ some trees
  pub enough : a ≤ trees
  pub left : n ≡ suc (trees - a)

pub takes_so : (after : Option ℕ) (a n : ℕ) → ◌≡◌ {A = Option ℕ} (elim after [ none ↦ none | some m ↦ cond (leb a m) (some (suc (m - a))) none ]) (some n) → Takes after a n
takes_so none a n e = absurd (let z : ◌≡◌ {A = ℕ} 0 1 = cc in omega arith)
takes_so (some m) a n e = go (leb a m) refl e
  where
    go : (t : Bool) → leb a m ≡ t → ◌≡◌ {A = Option ℕ} (cond t (some (suc (m - a))) none) (some n) → Takes (some m) a n
    go true p q = record { trees = m; are = refl; enough = leb-true a m p; left = cc }
    go false p q = absurd (let z : ◌≡◌ {A = ℕ} 0 1 = cc in omega arith)

pub complete_tail : (w : ℕ) (ws : List ℕ) (n : ℕ) → trees_in (w ∷ ws) ≡ some n → Takes (trees_in ws) (takes w) n
unfolding trees_in
complete_tail w ws n e = takes_so (trees_in ws) (takes w) n e

pub complete_cons : (w : ℕ) (ws : List ℕ) (n : ℕ) → trees_in ws ≡ some n → takes w ≤ n → trees_in (w ∷ ws) ≡ some (suc (n - takes w))
unfolding trees_in
complete_cons w ws n e h = rw (e, le-leb (takes w) n h)

pub broken_here : (w : ℕ) (ws : List ℕ) (n : ℕ) → trees_in ws ≡ some n → n < takes w → trees_in (w ∷ ws) ≡ none
unfolding trees_in
broken_here w ws n e h = rw (e, lt-leb (takes w) n h)

pub broken_tail : (w : ℕ) (ws : List ℕ) → trees_in ws ≡ none → trees_in (w ∷ ws) ≡ none
unfolding trees_in
broken_tail w ws e = rw e

-- a list is broken where its end is
pub broken_end : (i : ℕ) (ws : List ℕ) → trees_in (drop i ws) ≡ none → trees_in ws ≡ none
broken_end zero ws e = e
broken_end (suc i) [] e = e
broken_end (suc i) (w ∷ ws) e = broken_tail w ws (broken_end i ws e)

-- and its end is complete where it is
pub complete_end : (i : ℕ) (ws : List ℕ) (n : ℕ) → trees_in ws ≡ some n → (m : ℕ) × (trees_in (drop i ws) ≡ some m)
complete_end zero ws n e = (n, e)
complete_end (suc i) [] n e = (n, e)
complete_end (suc i) (w ∷ ws) n e = let t = complete_tail w ws n e in complete_end i ws t.trees t.are

pub some_is : {n m : ℕ} → some n ≡ some m → n ≡ m
some_is e = cc

pub complete_within : (ws : List ℕ) (n : ℕ) → trees_in ws ≡ some n → n ≤ length ws
unfolding trees_in
complete_within [] n e = let z : 0 ≡ n = some_is e in omega arith
complete_within (w ∷ ws) n e = let t = complete_tail w ws n e in omega (arith, complete_within ws t.trees t.are, t)

module _ (name_at : ℕ → List ℕ) where
  pub complete_length : (ws : List ℕ) (n : ℕ) → trees_in ws ≡ some n → length (read name_at ws) ≡ n
  unfolding trees_in read
  complete_length [] n e = some_is e
  complete_length (w ∷ ws) n e =
      let t = complete_tail w ws n e in
      omega (arith, complete_length ws t.trees t.are, t, length-drop (takes w) (read name_at ws))

  nothing_before : (more : List ℕ) → read name_at more ≡ read name_at [] ++ read name_at more
  unfolding read
  nothing_before more = refl

  -- what stands after a complete list does not change how it is read
  pub complete_read : (ws more : List ℕ) (n : ℕ) → trees_in ws ≡ some n → read name_at (ws ++ more) ≡ read name_at ws ++ read name_at more
  complete_read [] more n e = nothing_before more
  complete_read (w ∷ ws) more n e =
      let t = complete_tail w ws n e in
      let l = complete_length ws t.trees t.are in
      let h : takes w ≤ length (read name_at ws) = omega (arith, t) in
      rw (
        read_cons name_at w (ws ++ more),
        read_cons name_at w ws,
        complete_read ws more t.trees t.are,
        take-append-le (takes w) (read name_at ws) (read name_at more) h,
        drop-append-le (takes w) (read name_at ws) (read name_at more) h,
      )

-- ---- the words of the first trees

pub record Words (after : Option ℕ) (m : ℕ) : Type 0 where
  pub words : ℕ
  pub are : after ≡ some words
  pub one_more : m ≡ suc words

words_so : (after : Option ℕ) (m : ℕ) → ◌≡◌ {A = Option ℕ} (elim after [ none ↦ none | some k ↦ some (suc k) ]) (some m) → Words after m
words_so none m e = absurd (let z : ◌≡◌ {A = ℕ} 0 1 = cc in omega arith)
words_so (some k) m e = record { words = k; are = refl; one_more = cc }

pub words_tail : (w : ℕ) (ws : List ℕ) (n m : ℕ) → words_of (w ∷ ws) (suc n) ≡ some m → Words (words_of ws (n + takes w)) m
unfolding words_of
words_tail w ws n m e = words_so (words_of ws (n + takes w)) m e

pub words_none : (ws : List ℕ) → words_of ws 0 ≡ some 0
unfolding words_of
words_none [] = refl
words_none (w ∷ ws) = refl

-- each tree has a word at least
pub words_short : (ws : List ℕ) (n : ℕ) → length ws < n → words_of ws n ≡ none
unfolding words_of
words_short [] zero h = absurd (omega arith)
words_short [] (suc n) h = refl
words_short (w ∷ ws) zero h = absurd (omega arith)
words_short (w ∷ ws) (suc n) h = rw (words_short ws (n + takes w) (omega arith))

-- the first n trees are a complete list
pub words_complete : (ws : List ℕ) (n m : ℕ) → words_of ws n ≡ some m → (m ≤ length ws) × (trees_in (take m ws) ≡ some n)
unfolding words_of trees_in
words_complete [] zero m e = let z : 0 ≡ m = some_is e in (omega arith, rw (← z))
words_complete [] (suc n) m e = absurd (let z : ◌≡◌ {A = ℕ} 0 1 = cc in omega arith)
words_complete (w ∷ ws) zero m e = let z : 0 ≡ m = some_is e in (omega arith, rw (← z))
words_complete (w ∷ ws) (suc n) m e =
    let t = words_tail w ws n m e in
    let h = words_complete ws (n + takes w) t.words t.are in
    let k : takes w ≤ n + takes w = omega arith in
    let d : suc (n + takes w - takes w) ≡ suc n = omega arith in
    (omega (arith, t, h.0), rw t.one_more (complete_cons w (take t.words ws) (n + takes w) h.1 k ∙ ap some d))

-- ---- the tree at a place

no_trees : (n : ℕ) → trees_in [] ≡ some n → 0 ≡ n
unfolding trees_in
no_trees n e = some_is e

one_at_least : (ts : List Tree) → 0 < sizes ts → 1 ≤ length ts
unfolding sizes total
one_at_least [] h = absurd (omega arith)
one_at_least (t ∷ ts) h = omega arith

pub first_size : (ts : List Tree) → 1 ≤ length ts → sizes (take 1 ts) ≡ size (get_or ts 0 (Op 0 nil))
unfolding sizes total
first_size [] h = absurd (omega arith)
first_size (t ∷ ts) h = omega arith

module _ (name_at : ℕ → List ℕ) where
  first_tree : (ws : List ℕ) → get_or (trees_at name_at ws) 0 (Op 0 nil) ≡ get_or (read name_at ws) 0 (Op 0 nil)
  unfolding trees_at read
  first_tree [] = refl
  first_tree (w ∷ ws) = refl

  -- it is the first that is read from there
  pub tree_at : (ws : List ℕ) (k : ℕ) → get_or (trees_at name_at ws) k (Op 0 nil) ≡ get_or (read name_at (drop k ws)) 0 (Op 0 nil)
  tree_at ws k =
      let e : k + 0 ≡ k = omega arith in
      rw (← first_tree (drop k ws), ← trees_drop name_at k ws, get_or-drop k (trees_at name_at ws) 0 (Op 0 nil), e)

  -- the first trees of a complete list are as many words as their nodes
  pub words_sizes : (ws : List ℕ) (n k : ℕ) → trees_in ws ≡ some n → k ≤ n → words_of ws k ≡ some (sizes (take k (read name_at ws)))
  unfolding words_of read sizes total
  words_sizes [] n zero e h = refl
  words_sizes [] n (suc k) e h = absurd (let z : 0 ≡ n = no_trees n e in omega arith)
  words_sizes (w ∷ ws) n zero e h = refl
  words_sizes (w ∷ ws) n (suc k) e h =
      let t = complete_tail w ws n e in
      let rs = read name_at ws in
      let a = takes w in
      let s : a + k ≡ k + a = omega arith in
      let more = words_sizes ws t.trees (k + a) t.are (omega (arith, t)) in
      let both = sizes_append (take a rs) (take k (drop a rs)) in
      let all : suc (sizes (take (k + a) rs)) ≡ sizes (take (suc k) (read name_at (w ∷ ws))) =
      rw (← s, take-add a k rs, size_made name_at w rs) (omega (arith, both)) in
      rw more (ap some all)

  -- the tree at a place of a complete list is as many words as it has nodes
  pub run_size : (ws : List ℕ) (n i : ℕ) → trees_in ws ≡ some n → i < length ws → run_at ws i ≡ some (size (get_or (trees_at name_at ws) i (Op 0 nil)))
  unfolding run_at
  run_size ws n i e h =
      let c = complete_end i ws n e in
      let l = complete_length name_at (drop i ws) c.0 c.1 in
      let s = read_size name_at (drop i ws) in
      let d = length-drop i ws in
      let t = one_at_least (read name_at (drop i ws)) (omega (arith, s, d)) in
      rw (tree_at ws i) (words_sizes (drop i ws) c.0 1 c.1 (omega (arith, l, t)) ∙ ap some (first_size (read name_at (drop i ws)) t))
