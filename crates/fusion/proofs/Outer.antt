-- Which trees are without switches (specs, Switchless): those of which no switch is collected, and those of words none of which is a switch's. Assumes nothing.
use Prim.Native.Nat.{ℕ, zero, suc, ◌+◌, ◌≤◌}
use native.Mathlib.Omega.{arith}
use mathlib.Core.Path.{◌≡◌, refl, ◌∙◌, ap, subst}
use mathlib.Core.Bool.{Bool, true, false, not, ◌&&◌}
use mathlib.Core.Option.{some}
use mathlib.Core.List.{List, [], ◌∷◌, ◌++◌}
use lib.ListN.{length, take, drop, length-append, length-take}
use lib.Seq.{length-take-le}
use lib.Dec.{T, leb, leb→le, le→leb}
use Rattle.spec_tree.specs.Tree.{Tree, Forest, Sym, Const, Op, nil, ◌◂◌, operands, forest}
use Rattle.spec_tree.specs.Kinds.{is_switch}
use Rattle.spec_tree.specs.Facts.{outer, outer_of, outer_first}
use Rattle.spec_tree.specs.Tokens.{kind_of, below_of, takes, tree_of_word, read, trees_in, numbered}
use Rattle.spec_tree.proofs.Logic.{and_left, and_right, and_both}
use Rattle.spec_tree.proofs.TokenLaws.{Word, a_symbol, a_constant, an_operation, word_is, leaf_takes, operation_takes, symbol_tree, constant_tree, operation_tree, complete_tail, complete_length}
use Rattle.spec_cse.specs.Scope.{Switch, switches}
use Rattle.replace.specs.outside.Part.{has_arms}
use Rattle.fusion.specs.Switchless.{switch_node, switchless, switchless_each, all_switchless, no_switch_words}

-- ---- by the switches outside arms

switches_append : (a b : List Tree) → switches (a ++ b) ≡ switches a ++ switches b
unfolding switches
switches_append [] b = refl
switches_append (Sym n ∷ a) b = switches_append a b
switches_append (Const c ∷ a) b = switches_append a b
switches_append (Op k nil ∷ a) b = switches_append a b
switches_append (Op k (q ◂ f) ∷ a) b = go (is_switch k) (switches_append a b)
  where
    go : (s : Bool) → switches (a ++ b) ≡ switches a ++ switches b
        → ◌≡◌ {A = List Switch} (elim s [ true ↦ record { tree = Op k (q ◂ f); kind = k; key = q; arms = operands f } ∷ switches (a ++ b) | false ↦ switches (a ++ b) ])
        ((elim s as (λ _. List Switch) [ true ↦ record { tree = Op k (q ◂ f); kind = k; key = q; arms = operands f } ∷ switches a | false ↦ switches a ]) ++ switches b)
    go true e = ap (λ (l : List Switch). record { tree = Op k (q ◂ f); kind = k; key = q; arms = operands f } ∷ l) e
    go false e = e

no_node :
    (s : Switch) (x y : List Tree) (c b : Bool)
    → length {A = Switch} (elim b as (λ _. List Switch) [ true ↦ s ∷ switches (elim b as (λ _. List Tree) [ true ↦ x | false ↦ y ]) | false ↦ switches (elim b as (λ _. List Tree) [ true ↦ x | false ↦ y ]) ]) ≡ 0
    → (length (switches y) ≡ 0 → T c) → T (not b && c)
no_node s x y c true h g = absurd (omega arith)
no_node s x y c false h g = g h

node_outside :
    (k : ℕ) (f : Forest) → length (switches (outer (Op k f))) ≡ 0 → (length (switches (outer_of f)) ≡ 0 → T (switchless_each f)) → T (switchless (Op k f))
unfolding switchless outer switches switch_node
node_outside k nil h g = tt
node_outside k (q ◂ f) h g =
    no_node (record { tree = Op k (q ◂ f); kind = k; key = q; arms = operands f }) (outer_first (q ◂ f)) (outer_of (q ◂ f)) (switchless_each (q ◂ f)) (is_switch k) h g

mutual
  unfolding switchless outer switches switch_node

  pub none_outside : (t : Tree) → length (switches (outer t)) ≡ 0 → T (switchless t)
  none_outside (Sym n) h = tt
  none_outside (Const c) h = tt
  none_outside (Op k f) h = node_outside k f h (λ e. none_outside_each f e)

  none_outside_each : (f : Forest) → length (switches (outer_of f)) ≡ 0 → T (switchless_each f)
  none_outside_each nil h = tt
  none_outside_each (t ◂ f) h =
      let e : length (switches (outer t ++ outer_of f)) ≡ length (switches (outer t)) + length (switches (outer_of f)) =
      ap length (switches_append (outer t) (outer_of f)) ∙ length-append (switches (outer t)) (switches (outer_of f)) in
      let a : length (switches (outer t)) ≡ 0 = omega (arith, e, h) in
      let b : length (switches (outer_of f)) ≡ 0 = omega (arith, e, h) in
      and_both (switchless t) (switchless_each f) (none_outside t a) (none_outside_each f b)

-- and the other way round
no_switch_here :
    (s : Switch) (x y : List Tree) (b : Bool) → T (not b) → switches y ≡ []
    → ◌≡◌ {A = List Switch} (elim b as (λ _. List Switch) [ true ↦ s ∷ switches (elim b as (λ _. List Tree) [ true ↦ x | false ↦ y ]) | false ↦ switches (elim b as (λ _. List Tree) [ true ↦ x | false ↦ y ]) ]) []
no_switch_here s x y true h e = absurd h
no_switch_here s x y false h e = e

nothing_below : (b : Bool) → switches (elim b as (λ _. List Tree) [ true ↦ [] | false ↦ [] ]) ≡ []
unfolding switches
nothing_below true = refl
nothing_below false = refl

node_none : (k : ℕ) (f : Forest) → T (not (switch_node (Op k f))) → switches (outer_of f) ≡ [] → switches (outer (Op k f)) ≡ []
unfolding outer switches switch_node
node_none k nil h e = nothing_below (is_switch k)
node_none k (q ◂ f) h e =
    no_switch_here (record { tree = Op k (q ◂ f); kind = k; key = q; arms = operands f }) (outer_first (q ◂ f)) (outer_of (q ◂ f)) (is_switch k) h e

mutual
  unfolding switchless outer switches

  pub switchless_none : (t : Tree) → T (switchless t) → switches (outer t) ≡ []
  switchless_none (Sym n) h = refl
  switchless_none (Const c) h = refl
  switchless_none (Op k f) h =
      node_none k f (and_left (not (switch_node (Op k f))) (switchless_each f) h) (switchless_none_each f (and_right (not (switch_node (Op k f))) (switchless_each f) h))

  switchless_none_each : (f : Forest) → T (switchless_each f) → switches (outer_of f) ≡ []
  switchless_none_each nil h = refl
  switchless_none_each (t ◂ f) h =
      let a = switchless_none t (and_left (switchless t) (switchless_each f) h) in
      let b = switchless_none_each f (and_right (switchless t) (switchless_each f) h) in
      switches_append (outer t) (outer_of f) ∙ (ap (λ (l : List Switch). l ++ switches (outer_of f)) a ∙ b)

-- ---- by words

all_take : (n : ℕ) (l : List Tree) → T (all_switchless l) → T (all_switchless (take n l))
unfolding all_switchless
all_take zero l h = tt
all_take (suc n) [] h = tt
all_take (suc n) (t ∷ l) h =
    and_both (switchless t) (all_switchless (take n l)) (and_left (switchless t) (all_switchless l) h) (all_take n l (and_right (switchless t) (all_switchless l) h))

all_drop : (n : ℕ) (l : List Tree) → T (all_switchless l) → T (all_switchless (drop n l))
unfolding all_switchless
all_drop zero l h = h
all_drop (suc n) [] h = tt
all_drop (suc n) (t ∷ l) h = all_drop n l (and_right (switchless t) (all_switchless l) h)

forest_switchless : (l : List Tree) → T (all_switchless l) → T (switchless_each (forest l))
unfolding all_switchless switchless forest
forest_switchless [] h = tt
forest_switchless (t ∷ l) h =
    and_both (switchless t) (switchless_each (forest l)) (and_left (switchless t) (all_switchless l) h) (forest_switchless l (and_right (switchless t) (all_switchless l) h))

no_switch : (s b : Bool) → T (not (s && b)) → T b → T (not s)
no_switch true true h t = h
no_switch true false h t = absurd t
no_switch false b h t = tt

made_switchless : (w : ℕ) (l : List Tree) → length l ≤ takes w → T (not (has_arms w)) → T (all_switchless l) → T (switchless (tree_of_word numbered w l))
made_switchless w l b h g = go (word_is w)
  where
    node : (k : ℕ) (l : List Tree) → (1 ≤ length l → T (not (is_switch k))) → T (all_switchless l) → T (switchless (Op k (forest l)))
    node k [] f g = (unfold switchless in unfold forest in unfold switch_node in tt)
    node k (t ∷ l) f g =
        (unfold switchless in unfold forest in unfold switch_node in and_both (not (is_switch k)) (switchless_each (t ◂ forest l)) (f (omega arith)) (forest_switchless (t ∷ l) g))

    go : Word w → T (switchless (tree_of_word numbered w l))
    go (a_symbol k) = rw (symbol_tree numbered w l k) (unfold switchless in tt)
    go (a_constant k) = rw (constant_tree numbered w l k) (unfold switchless in tt)
    go (an_operation k) =
        rw (operation_tree numbered w l k)
        (node (kind_of w) l
        (λ m. no_switch (is_switch (kind_of w)) (leb 1 (below_of w)) (unfold has_arms in h) (le→leb 1 (below_of w) (omega (arith, m, b, operation_takes w k)))) g)

-- words none of which is a switch's are trees without switches
pub no_switch_read : (ws : List ℕ) → T (no_switch_words ws) → T (all_switchless (read numbered ws))
unfolding no_switch_words read all_switchless
no_switch_read [] h = tt
no_switch_read (w ∷ ws) h =
    let rs = read numbered ws in
    let g = no_switch_read ws (and_right (not (has_arms w)) (no_switch_words ws) h) in
    and_both (switchless (tree_of_word numbered w (take (takes w) rs))) (all_switchless (drop (takes w) rs))
    (made_switchless w (take (takes w) rs) (omega (arith, length-take (takes w) rs)) (and_left (not (has_arms w)) (no_switch_words ws) h) (all_take (takes w) rs g))
    (all_drop (takes w) rs g)

-- and the other way round, where no word lacks an operand
all_parts : (n : ℕ) (l : List Tree) → T (all_switchless (take n l)) → T (all_switchless (drop n l)) → T (all_switchless l)
unfolding all_switchless
all_parts zero l a b = b
all_parts (suc n) [] a b = tt
all_parts (suc n) (t ∷ l) a b =
    and_both (switchless t) (all_switchless l) (and_left (switchless t) (all_switchless (take n l)) a) (all_parts n l (and_right (switchless t) (all_switchless (take n l)) a) b)

all_below : (l : List Tree) → T (switchless_each (forest l)) → T (all_switchless l)
unfolding all_switchless switchless forest
all_below [] h = tt
all_below (t ∷ l) h =
    and_both (switchless t) (all_switchless l) (and_left (switchless t) (switchless_each (forest l)) h) (all_below l (and_right (switchless t) (switchless_each (forest l)) h))

no_arms : (w : ℕ) → T (not (is_switch (kind_of w) && leb 1 (below_of w))) → T (not (has_arms w))
unfolding has_arms
no_arms w h = h

-- a node's word and what is below it
node_parts : (w : ℕ) (l : List Tree) → length l ≡ takes w → T (switchless (tree_of_word numbered w l)) → T (not (has_arms w)) × T (all_switchless l)
node_parts w l e h = go (word_is w)
  where
    bare : (l : List Tree) → length l ≡ 0 → T (all_switchless l)
    bare [] e = (unfold all_switchless in tt)
    bare (t ∷ l) e = absurd (omega arith)

    no_kind : (k : ℕ) (b : Bool) → k ≤ 1 → T (not (is_switch k && b))
    no_kind zero b h = tt
    no_kind (suc zero) b h = tt
    no_kind (suc (suc k)) b h = absurd (omega arith)

    leaf : kind_of w ≤ 1 → T (not (has_arms w)) × T (all_switchless l)
    leaf k = (no_arms w (no_kind (kind_of w) (leb 1 (below_of w)) k), bare l (omega (arith, e, leaf_takes w k)))

    denied : (b : Bool) → (T b → ⊥) → T (not b)
    denied true f = f tt
    denied false f = tt

    neither : (s : Bool) (n : ℕ) → (1 ≤ n → T (not s)) → T (not (s && leb 1 n))
    neither true n f = denied (leb 1 n) (λ t. f (leb→le 1 n t))
    neither false n f = tt

    opened : (k : ℕ) (t : Tree) (l : List Tree) → T (switchless (Op k (forest (t ∷ l)))) → T (not (is_switch k) && switchless_each (t ◂ forest l))
    opened k t l h = unfold switchless in unfold switch_node in unfold forest in h

    head : (k : ℕ) (l : List Tree) → T (switchless (Op k (forest l))) → 1 ≤ length l → T (not (is_switch k))
    head k [] h m = absurd (omega arith)
    head k (t ∷ l) h m = and_left (not (is_switch k)) (switchless_each (t ◂ forest l)) (opened k t l h)

    tail : (k : ℕ) (l : List Tree) → T (switchless (Op k (forest l))) → T (all_switchless l)
    tail k l h = all_below l (and_right (not (switch_node (Op k (forest l)))) (switchless_each (forest l)) (unfold switchless in h))

    go : Word w → T (not (has_arms w)) × T (all_switchless l)
    go (a_symbol k) = leaf (omega (arith, k))
    go (a_constant k) = leaf (omega (arith, k))
    go (an_operation k) =
        let g : T (switchless (Op (kind_of w) (forest l))) = subst (λ (t : Tree). T (switchless t)) (operation_tree numbered w l k) h in
        (no_arms w (neither (is_switch (kind_of w)) (below_of w) (λ m. head (kind_of w) l g (omega (arith, m, e, operation_takes w k)))), tail (kind_of w) l g)

pub read_no_switch : (ws : List ℕ) (m : ℕ) → trees_in ws ≡ some m → T (all_switchless (read numbered ws)) → T (no_switch_words ws)
unfolding no_switch_words read all_switchless
read_no_switch [] m e h = tt
read_no_switch (w ∷ ws) m e h =
    let rs = read numbered ws in
    let t = complete_tail w ws m e in
    let c = complete_length numbered ws t.trees t.are in
    let below = take (takes w) rs in
    let l : length below ≡ takes w = (let b = t.enough in length-take-le (takes w) rs (omega (arith, b, c))) in
    let p = node_parts w below l (and_left (switchless (tree_of_word numbered w below)) (all_switchless (drop (takes w) rs)) h) in
    and_both (not (has_arms w)) (no_switch_words ws) p.0
    (read_no_switch ws t.trees t.are
    (all_parts (takes w) rs p.1 (and_right (switchless (tree_of_word numbered w below)) (all_switchless (drop (takes w) rs)) h)))
