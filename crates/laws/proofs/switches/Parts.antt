-- The trees at the places of a switch's key and arms are its operands (specs, Switches). Assumes nothing.
use Prim.Native.Nat.{ℕ, zero, suc, ◌+◌, ◌-◌, ◌≤◌, ◌<◌}
use native.Mathlib.Omega.{arith}
use mathlib.Core.Path.{◌≡◌, refl, sym, ◌∙◌, ap, ap₂}
use mathlib.Core.Bool.{Bool, true, false, ◌&&◌}
use mathlib.Core.Option.{some}
use mathlib.Core.List.{List, [], ◌∷◌, ◌++◌, map}
use borrow.Author.Tests.{le-leb, lt-leb}
use lib.ListN.{length, get_or, take, drop, length-drop, length-append}
use lib.Seq.{take-suc, get_or-drop, drop-drop}
use lib.Dec.{T, leb, leb→le}
use Rattle.spec_tree.specs.Tree.{Tree, Sym, Const, Op, nil, ◌◂◌, operands, forest}
use Rattle.spec_tree.specs.Kinds.{is_switch}
use Rattle.spec_tree.specs.Facts.{size}
use Rattle.spec_tree.specs.Tokens.{read, numbered, kind_of, takes, trees_in}
use Rattle.spec_tree.proofs.Logic.{and_left, and_right, and_false}
use Rattle.spec_tree.proofs.TokenLaws.{Word, a_symbol, a_constant, an_operation, word_is, symbol_tree, constant_tree, operation_tree, operands_forest, made, map_append, sizes, read_past, tree_at, first_size}
use Rattle.spec_cse.specs.Scope.{Switch, switches}
use Rattle.laws.specs.positions.Places.{numbered_at, second_at}
use Rattle.laws.proofs.positions.Arms.{and_true}
use Rattle.laws.proofs.positions.DivisorPlaces.{here_is, enough}
use Rattle.laws.specs.switches.Switches.{switch_at, key_place, arm_count, trees_past, arm_place, arms_within, arm_places, switch_there}

-- ---- trees one after another

module _ (ws : List ℕ) where
  abbrev pub after : ℕ → List Tree
  after q = read numbered (drop q ws)

  pub first_after : (q : ℕ) → numbered_at ws q ≡ get_or (after q) 0 (Op 0 nil)
  unfolding numbered_at
  first_after q = tree_at numbered ws q

  -- past a tree the others are read
  pub next_read : (q : ℕ) → 1 ≤ length (after q) → after (q + size (numbered_at ws q)) ≡ drop 1 (after q)
  next_read q h =
      let e : size (numbered_at ws q) ≡ sizes (take 1 (after q)) = ap size (first_after q) ∙ sym (first_size (after q) h) in
      ap (λ (n : ℕ). after (q + n)) e
      ∙ ap (read numbered) (sym (drop-drop (sizes (take 1 (after q))) q ws))
      ∙ read_past numbered (drop q ws) 1

  pub read_trees_past : (n q : ℕ) → n ≤ length (after q) → after (trees_past ws n q) ≡ drop n (after q)
  unfolding trees_past
  read_trees_past zero q h = refl
  read_trees_past (suc n) q h =
      let r = trees_past ws n q in
      let e = read_trees_past n q (omega arith) in
      let z : n + 1 ≡ suc n = omega arith in
      next_read r (omega (arith, ap length e, length-drop n (after q)))
      ∙ ap (drop 1) e
      ∙ drop-drop 1 n (after q)
      ∙ ap (λ (k : ℕ). drop k (after q)) z

  pub tree_past : (n q : ℕ) → n ≤ length (after q) → numbered_at ws (trees_past ws n q) ≡ get_or (after q) n (Op 0 nil)
  tree_past n q h =
      let z : n + 0 ≡ n = omega arith in
      first_after (trees_past ws n q)
      ∙ ap (λ (l : List Tree). get_or l 0 (Op 0 nil)) (read_trees_past n q h)
      ∙ get_or-drop n (after q) 0 (Op 0 nil)
      ∙ ap (λ (k : ℕ). get_or (after q) k (Op 0 nil)) z

  -- ---- the arms of a place

  pub arms_length : (p n : ℕ) → length (arms_within ws p n) ≡ n
  unfolding arms_within
  arms_length p zero = refl
  arms_length p (suc n) = omega (arith, length-append (arms_within ws p n) (arm_place ws p n ∷ []), arms_length p n)

  pub after_key : (p : ℕ) → 1 ≤ length (after (suc p)) → after (second_at ws p) ≡ drop 1 (after (suc p))
  unfolding second_at
  after_key p h = next_read (suc p) h

  pub arms_within_are : (p n : ℕ) → suc n ≤ length (after (suc p)) → map (numbered_at ws) (arms_within ws p n) ≡ take n (drop 1 (after (suc p)))
  unfolding arms_within arm_place
  arms_within_are p zero h = refl
  arms_within_are p (suc n) h =
      let r = second_at ws p in
      let e = after_key p (omega arith) in
      let l = length-drop 1 (after (suc p)) in
      let here : numbered_at ws (trees_past ws n r) ≡ get_or (drop 1 (after (suc p))) n (Op 0 nil) =
      tree_past n r (omega (arith, ap length e, l)) ∙ ap (λ (l : List Tree). get_or l n (Op 0 nil)) e in
      map_append (numbered_at ws) (arms_within ws p n) (trees_past ws n r ∷ [])
      ∙ ap₂ (λ (a : List Tree) (t : Tree). a ++ (t ∷ [])) (arms_within_are p n (omega arith)) here
      ∙ sym (take-suc (drop 1 (after (suc p))) n (Op 0 nil) (omega (arith, l)))

-- ---- which trees are switches

unfoldable pub switch_tree : Tree → Bool
switch_tree (Sym n) = false
switch_tree (Const c) = false
switch_tree (Op k nil) = false
switch_tree (Op k (q ◂ f)) = is_switch k

low_switch : (w : ℕ) → kind_of w ≤ 1 → (is_switch (kind_of w) && leb 1 (takes w)) ≡ false
low_switch w h = ap (λ (b : Bool). b && leb 1 (takes w)) (lt-leb 26 (kind_of w) (omega arith))

operation_switch : (k n : ℕ) (rs : List Tree) → n ≤ length rs → switch_tree (Op k (forest (take n rs))) ≡ (is_switch k && leb 1 n)
unfolding switch_tree forest
operation_switch k zero rs h = sym (and_false (is_switch k))
operation_switch k (suc n) [] h = absurd (omega arith)
operation_switch k (suc n) (t ∷ rs) h = sym (ap (λ (b : Bool). is_switch k && b) (le-leb 1 (suc n) (omega arith)) ∙ and_true (is_switch k))

made_switch : (w : ℕ) (rs : List Tree) → takes w ≤ length rs → switch_tree (made numbered w rs) ≡ (is_switch (kind_of w) && leb 1 (takes w))
unfolding switch_tree
made_switch w rs h = go (word_is w)
  where
    go : Word w → switch_tree (made numbered w rs) ≡ (is_switch (kind_of w) && leb 1 (takes w))
    go (a_symbol k) = ap switch_tree (symbol_tree numbered w (take (takes w) rs) k) ∙ sym (low_switch w (omega arith))
    go (a_constant k) = ap switch_tree (constant_tree numbered w (take (takes w) rs) k) ∙ sym (low_switch w (omega arith))
    go (an_operation k) = ap switch_tree (operation_tree numbered w (take (takes w) rs) k) ∙ operation_switch (kind_of w) (takes w) rs h

-- ---- a switch by its place

one_switch :
    (k n : ℕ) (rs : List Tree) (l : List Tree) → T (is_switch k) → 1 ≤ n → n ≤ length rs
    → switches (Op k (forest (take n rs)) ∷ l)
    ≡ record { tree = Op k (forest (take n rs)); kind = k; key = get_or rs 0 (Op 0 nil); arms = take (n - 1) (drop 1 rs) } ∷ switches l
unfolding switches forest
one_switch k zero rs l t g h = absurd (omega arith)
one_switch k (suc n) [] l t g h = absurd (omega arith)
one_switch k (suc n) (q ∷ rs) l t g h =
    let z : n ≡ suc n - 1 = omega arith in
    go (is_switch k) t ∙ ap (λ (i : ℕ). record { tree = Op k (q ◂ forest (take n rs)); kind = k; key = q; arms = take i rs } ∷ switches l) z
  where
    go : (b : Bool) → T b
        → ◌≡◌ {A = List Switch} (elim b [ true ↦ record { tree = Op k (q ◂ forest (take n rs)); kind = k; key = q; arms = operands (forest (take n rs)) } ∷ switches l | false ↦ switches l ])
        (record { tree = Op k (q ◂ forest (take n rs)); kind = k; key = q; arms = take n rs } ∷ switches l)
    go true t = ap (λ (a : List Tree). record { tree = Op k (q ◂ forest (take n rs)); kind = k; key = q; arms = a } ∷ switches l) (operands_forest (take n rs))
    go false t = absurd t

module _ (ws : List ℕ) where
  -- a switch has an operand, and its word is an operation's
  pub has_key : (p : ℕ) → T (switch_at ws p) → (1 ≤ takes (get_or ws p 0)) × (26 ≤ kind_of (get_or ws p 0))
  unfolding switch_at
  has_key p t = (
    leb→le 1 (takes (get_or ws p 0)) (and_right (is_switch (kind_of (get_or ws p 0))) (leb 1 (takes (get_or ws p 0))) t),
    leb→le 26 (kind_of (get_or ws p 0)) (and_left (is_switch (kind_of (get_or ws p 0))) (leb 1 (takes (get_or ws p 0))) t),
  )

module _ (ws : List ℕ) (m : ℕ) (complete : trees_in ws ≡ some m) where
  pub switch_at_is : (p : ℕ) → p < length ws → switch_tree (numbered_at ws p) ≡ switch_at ws p
  unfolding switch_at
  switch_at_is p h = ap switch_tree (here_is ws m complete p h) ∙ made_switch (get_or ws p 0) (after ws (suc p)) (enough ws m complete p h)

  -- it is its kind over its key and its arms
  pub switch_is : (p : ℕ) → p < length ws → T (switch_at ws p) → numbered_at ws p ≡ Op (kind_of (get_or ws p 0)) (forest (take (takes (get_or ws p 0)) (after ws (suc p))))
  switch_is p h t =
      let k = (has_key ws p t).1 in
      here_is ws m complete p h ∙ operation_tree numbered (get_or ws p 0) (take (takes (get_or ws p 0)) (after ws (suc p))) (omega arith)

  pub arms_are : (p : ℕ) → p < length ws → T (switch_at ws p) → map (numbered_at ws) (arm_places ws p) ≡ take (takes (get_or ws p 0) - 1) (drop 1 (after ws (suc p)))
  unfolding arm_places arm_count
  arms_are p h t =
      let k = (has_key ws p t).0 in
      let n = enough ws m complete p h in
      arms_within_are ws p (takes (get_or ws p 0) - 1) (omega arith)

  pub switch_there_is : (p : ℕ) → p < length ws → T (switch_at ws p) → (l : List Tree) → switches (numbered_at ws p ∷ l) ≡ switch_there ws p ∷ switches l
  unfolding switch_there key_place switch_at
  switch_there_is p h t l =
      let w = get_or ws p 0 in
      let k = (has_key ws p t).0 in
      let e = switch_is p h t in
      ap (λ (u : Tree). switches (u ∷ l)) e
      ∙ one_switch (kind_of w) (takes w) (after ws (suc p)) l (and_left (is_switch (kind_of w)) (leb 1 (takes w)) t) k (enough ws m complete p h)
      ∙ ap (λ (u : Tree). record { tree = u; kind = kind_of w; key = get_or (after ws (suc p)) 0 (Op 0 nil); arms = take (takes w - 1) (drop 1 (after ws (suc p))) } ∷ switches l) (sym e)
      ∙ ap₂ (λ (q : Tree) (a : List Tree). record { tree = numbered_at ws p; kind = kind_of w; key = q; arms = a } ∷ switches l) (sym (first_after ws (suc p))) (sym (arms_are p h t))
