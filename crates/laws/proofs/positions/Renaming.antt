-- Symbols of the list under other names (TokenCode's `renamed`): where different symbols keep different names, facts, equality, nodes, uses and divisors are those
-- of the tree before. `__xN` and `__mN` keep their names. Assumes nothing.
use Prim.Native.Nat.{ℕ, suc, ◌+◌}
use mathlib.Core.Path.{◌≡◌, refl, sym, ◌∙◌, ap, ap₂, subst}
use mathlib.Core.Bool.{Bool, true, false, ◌&&◌, cond}
use mathlib.Core.List.{List, [], ◌∷◌, ◌++◌, map}
use lib.IntN.{ℤ}
use lib.Dec.{T, eqb}
use Rattle.spec_tree.specs.Bytes.{eq_bytes}
use Rattle.spec_tree.specs.Tree.{Name, input, xname, mname, Tree, Forest, Sym, Const, Op, nil, ◌◂◌, eq_name, eq_tree, eq_forest, fold, folds}
use Rattle.spec_tree.specs.Kinds.{arity_ok, is_switch, is_select}
use Rattle.spec_tree.specs.Facts.{total, greatest, first_and_greatest, some_of, first_or_deeper, cost, depth, has_symbol, operations, size, nesting, all_operations, nodes, nodes_of, outer, outer_of, outer_first, all_nodes, all_outer, count, outside, uses, uses_outside}
use Rattle.spec_tree.specs.Rows.{occurrences}
use Rattle.spec_tree.proofs.Formed.{operand_count, well_formed, well_formed_each}
use Rattle.spec_tree.proofs.TreeLaws.{eq_bytes_sound, eq_bytes_refl}
use Rattle.spec_tree.proofs.Logic.{and_left, and_right, and_both, same_test}
use Rattle.spec_tree.proofs.TokenLaws.{map_append}
use Rattle.spec_tree.proofs.TokenCode.{known_name, renamed_name, renamed as RenamedBy, renamed_each as renamed_each_by}
use Rattle.spec_rewrite.proofs.Counts.{well_formed_all}
use Rattle.spec_rewrite.proofs.Names.{holds, holds_each, holds_all, holds_append, all_nodes_hold}

-- The symbols that `known` passes get the name of their number, each another.
pub record Renaming : Type 0 where
  pub number : List ℕ → ℕ
  pub name_at : ℕ → List ℕ
  pub known : List ℕ → Bool
  pub one_to_one : (s r : List ℕ) → T (known s) → T (known r) → name_at (number s) ≡ name_at (number r) → s ≡ r

module _ (R : Renaming) where
  abbrev pub named : Name → Name
  named = renamed_name R.number R.name_at

  abbrev pub renamed : Tree → Tree
  renamed = RenamedBy R.number R.name_at

  abbrev pub renamed_each : Forest → Forest
  renamed_each = renamed_each_by R.number R.name_at

  -- trees that can be renamed: every symbol of the list in them is known
  abbrev pub is_known : Name → Bool
  is_known = known_name R.known

  abbrev pub Known : Tree → Type 0
  Known t = T (holds is_known t)

  abbrev pub KnownEach : Forest → Type 0
  KnownEach f = T (holds_each is_known f)

  abbrev pub KnownAll : List Tree → Type 0
  KnownAll l = T (holds_all is_known l)

  pub first_known : (t : Tree) (l : List Tree) → KnownAll (t ∷ l) → Known t
  unfolding holds_all
  first_known t l h = and_left (holds is_known t) (holds_all is_known l) h

  pub rest_known : (t : Tree) (l : List Tree) → KnownAll (t ∷ l) → KnownAll l
  unfolding holds_all
  rest_known t l h = and_right (holds is_known t) (holds_all is_known l) h

  pub both_known : (t : Tree) (l : List Tree) → Known t → KnownAll l → KnownAll (t ∷ l)
  unfolding holds_all
  both_known t l g h = and_both (holds is_known t) (holds_all is_known l) g h

  pub none_known : KnownAll []
  unfolding holds_all
  none_known = tt

  -- ---- a fold that does not look at the names of the list's symbols

  module _ {A : Type 0} (leaf : Name → A) (constant : ℤ → A) (operation : ℕ → List A → A) (blind : (n : Name) → leaf (named n) ≡ leaf n) where
    mutual
      unfolding fold RenamedBy

      pub fold_renamed : (t : Tree) → fold leaf constant operation (renamed t) ≡ fold leaf constant operation t
      fold_renamed (Sym n) = blind n
      fold_renamed (Const c) = refl
      fold_renamed (Op k f) = ap (operation k) (folds_renamed f)

      folds_renamed : (f : Forest) → folds leaf constant operation (renamed_each f) ≡ folds leaf constant operation f
      folds_renamed nil = refl
      folds_renamed (t ◂ f) = ap₂ ◌∷◌ (fold_renamed t) (folds_renamed f)

  pub cost_renamed : (t : Tree) → cost (renamed t) ≡ cost t
  unfolding cost
  cost_renamed t = fold_renamed (λ n. 0) (λ c. 0) (λ k costs. suc (cond (is_select k) (first_and_greatest costs) (total costs))) (λ n. refl) t

  pub depth_renamed : (t : Tree) → depth (renamed t) ≡ depth t
  unfolding depth
  depth_renamed t = fold_renamed (λ n. 0) (λ c. 0) (λ k depths. suc (greatest depths)) (λ n. refl) t

  pub has_symbol_renamed : (t : Tree) → has_symbol (renamed t) ≡ has_symbol t
  unfolding has_symbol
  has_symbol_renamed t = fold_renamed (λ n. true) (λ c. false) (λ k tests. some_of tests) (λ n. refl) t

  pub operations_renamed : (t : Tree) → operations (renamed t) ≡ operations t
  unfolding operations
  operations_renamed t = fold_renamed (λ n. 0) (λ c. 0) (λ k counts. suc (total counts)) (λ n. refl) t

  pub size_renamed : (t : Tree) → size (renamed t) ≡ size t
  unfolding size
  size_renamed t = fold_renamed (λ n. 1) (λ c. 1) (λ k sizes. suc (total sizes)) (λ n. refl) t

  pub nesting_renamed : (t : Tree) → nesting (renamed t) ≡ nesting t
  unfolding nesting
  nesting_renamed t = fold_renamed (λ n. 0) (λ c. 0) (λ k levels. cond (is_switch k) (first_or_deeper levels) (greatest levels)) (λ n. refl) t

  pub all_operations_renamed : (l : List Tree) → all_operations (map renamed l) ≡ all_operations l
  unfolding all_operations
  all_operations_renamed [] = refl
  all_operations_renamed (t ∷ l) = ap₂ ◌+◌ (operations_renamed t) (all_operations_renamed l)

  pub occurrences_renamed : (l : List Tree) → occurrences (map renamed l) ≡ occurrences l
  unfolding occurrences
  occurrences_renamed [] = refl
  occurrences_renamed (t ∷ l) = ap₂ ◌+◌ (size_renamed t) (occurrences_renamed l)

  -- ---- tests that do not look at the names of the list's symbols

  mutual
    unfolding well_formed RenamedBy

    pub well_formed_renamed : (t : Tree) → well_formed (renamed t) ≡ well_formed t
    well_formed_renamed (Sym n) = refl
    well_formed_renamed (Const c) = refl
    well_formed_renamed (Op k f) = ap₂ (λ (n : ℕ) (b : Bool). arity_ok k n && b) (operand_count_renamed f) (well_formed_each_renamed f)

    well_formed_each_renamed : (f : Forest) → well_formed_each (renamed_each f) ≡ well_formed_each f
    well_formed_each_renamed nil = refl
    well_formed_each_renamed (t ◂ f) = ap₂ ◌&&◌ (well_formed_renamed t) (well_formed_each_renamed f)

    operand_count_renamed : (f : Forest) → operand_count (renamed_each f) ≡ operand_count f
    operand_count_renamed nil = refl
    operand_count_renamed (t ◂ f) = ap suc (operand_count_renamed f)

  pub well_formed_all_renamed : (l : List Tree) → well_formed_all (map renamed l) ≡ well_formed_all l
  unfolding well_formed_all
  well_formed_all_renamed [] = refl
  well_formed_all_renamed (t ∷ l) = ap₂ ◌&&◌ (well_formed_renamed t) (well_formed_all_renamed l)

  module _ (q : Name → Bool) (blind : (n : Name) → q (named n) ≡ q n) where
    mutual
      unfolding holds RenamedBy

      pub holds_renamed : (t : Tree) → holds q (renamed t) ≡ holds q t
      holds_renamed (Sym n) = blind n
      holds_renamed (Const c) = refl
      holds_renamed (Op k f) = holds_each_renamed f

      holds_each_renamed : (f : Forest) → holds_each q (renamed_each f) ≡ holds_each q f
      holds_each_renamed nil = refl
      holds_each_renamed (t ◂ f) = ap₂ ◌&&◌ (holds_renamed t) (holds_each_renamed f)

    pub holds_all_renamed : (l : List Tree) → holds_all q (map renamed l) ≡ holds_all q l
    unfolding holds_all
    holds_all_renamed [] = refl
    holds_all_renamed (t ∷ l) = ap₂ ◌&&◌ (holds_renamed t) (holds_all_renamed l)

  -- ---- equality

  pub eq_name_renamed : (a b : Name) → T (is_known a) → T (is_known b) → eq_name (named a) (named b) ≡ eq_name a b
  unfolding eq_name renamed_name known_name
  eq_name_renamed (input s) (input r) h g =
      let name = R.name_at in
      let number = R.number in
      same_test (eq_bytes (name (number s)) (name (number r))) (eq_bytes s r)
      (λ t. subst (λ (x : List ℕ). T (eq_bytes s x)) (R.one_to_one s r h g (eq_bytes_sound (name (number s)) (name (number r)) t)) (eq_bytes_refl s))
      (λ t. subst (λ (x : List ℕ). T (eq_bytes (name (number s)) (name (number x)))) (eq_bytes_sound s r t) (eq_bytes_refl (name (number s))))
  eq_name_renamed (input s) (xname m) h g = refl
  eq_name_renamed (input s) (mname m) h g = refl
  eq_name_renamed (xname n) (input r) h g = refl
  eq_name_renamed (xname n) (xname m) h g = refl
  eq_name_renamed (xname n) (mname m) h g = refl
  eq_name_renamed (mname n) (input r) h g = refl
  eq_name_renamed (mname n) (xname m) h g = refl
  eq_name_renamed (mname n) (mname m) h g = refl

  mutual
    unfolding eq_tree RenamedBy holds

    pub eq_tree_renamed : (a b : Tree) → Known a → Known b → eq_tree (renamed a) (renamed b) ≡ eq_tree a b
    eq_tree_renamed (Sym n) (Sym m) h g = eq_name_renamed n m h g
    eq_tree_renamed (Sym n) (Const d) h g = refl
    eq_tree_renamed (Sym n) (Op l q) h g = refl
    eq_tree_renamed (Const c) (Sym m) h g = refl
    eq_tree_renamed (Const c) (Const d) h g = refl
    eq_tree_renamed (Const c) (Op l q) h g = refl
    eq_tree_renamed (Op k f) (Sym m) h g = refl
    eq_tree_renamed (Op k f) (Const d) h g = refl
    eq_tree_renamed (Op k f) (Op l q) h g = ap (λ (b : Bool). elim (eqb k l) as (λ _. Bool) [ true ↦ b | false ↦ false ]) (eq_forest_renamed f q h g)

    eq_forest_renamed : (f q : Forest) → KnownEach f → KnownEach q → eq_forest (renamed_each f) (renamed_each q) ≡ eq_forest f q
    eq_forest_renamed nil nil h g = refl
    eq_forest_renamed nil (b ◂ q) h g = refl
    eq_forest_renamed (a ◂ f) nil h g = refl
    eq_forest_renamed (a ◂ f) (b ◂ q) h g =
        ap₂ (λ (x y : Bool). elim x as (λ _. Bool) [ true ↦ y | false ↦ false ])
        (eq_tree_renamed a b (and_left (holds is_known a) (holds_each is_known f) h) (and_left (holds is_known b) (holds_each is_known q) g))
        (eq_forest_renamed f q (and_right (holds is_known a) (holds_each is_known f) h) (and_right (holds is_known b) (holds_each is_known q) g))

  -- ---- nodes in reading order

  mutual
    unfolding nodes RenamedBy

    pub nodes_renamed : (t : Tree) → nodes (renamed t) ≡ map renamed (nodes t)
    nodes_renamed (Sym n) = refl
    nodes_renamed (Const c) = refl
    nodes_renamed (Op k f) = ap (λ (l : List Tree). renamed (Op k f) ∷ l) (nodes_of_renamed f)

    nodes_of_renamed : (f : Forest) → nodes_of (renamed_each f) ≡ map renamed (nodes_of f)
    nodes_of_renamed nil = refl
    nodes_of_renamed (t ◂ f) = ap₂ ◌++◌ (nodes_renamed t) (nodes_of_renamed f) ∙ sym (map_append renamed (nodes t) (nodes_of f))

  outer_step :
      (b : Bool) (t : Tree) (p q r s : List Tree) → p ≡ map renamed r → q ≡ map renamed s
      → ◌≡◌ {A = List Tree} (t ∷ elim b [ true ↦ p | false ↦ q ]) (t ∷ map renamed (elim b [ true ↦ r | false ↦ s ]))
  outer_step true t p q r s d e = ap (λ (l : List Tree). t ∷ l) d
  outer_step false t p q r s d e = ap (λ (l : List Tree). t ∷ l) e

  mutual
    unfolding outer RenamedBy

    pub outer_renamed : (t : Tree) → outer (renamed t) ≡ map renamed (outer t)
    outer_renamed (Sym n) = refl
    outer_renamed (Const c) = refl
    outer_renamed (Op k f) =
        outer_step (is_switch k) (renamed (Op k f)) (outer_first (renamed_each f)) (outer_of (renamed_each f)) (outer_first f) (outer_of f) (outer_first_renamed f) (outer_of_renamed f)

    outer_of_renamed : (f : Forest) → outer_of (renamed_each f) ≡ map renamed (outer_of f)
    outer_of_renamed nil = refl
    outer_of_renamed (t ◂ f) = ap₂ ◌++◌ (outer_renamed t) (outer_of_renamed f) ∙ sym (map_append renamed (outer t) (outer_of f))

    outer_first_renamed : (f : Forest) → outer_first (renamed_each f) ≡ map renamed (outer_first f)
    outer_first_renamed nil = refl
    outer_first_renamed (t ◂ f) = outer_renamed t

  pub all_nodes_renamed : (l : List Tree) → all_nodes (map renamed l) ≡ map renamed (all_nodes l)
  unfolding all_nodes
  all_nodes_renamed [] = refl
  all_nodes_renamed (t ∷ l) = ap₂ ◌++◌ (nodes_renamed t) (all_nodes_renamed l) ∙ sym (map_append renamed (nodes t) (all_nodes l))

  pub all_outer_renamed : (l : List Tree) → all_outer (map renamed l) ≡ map renamed (all_outer l)
  unfolding all_outer
  all_outer_renamed [] = refl
  all_outer_renamed (t ∷ l) = ap₂ ◌++◌ (outer_renamed t) (all_outer_renamed l) ∙ sym (map_append renamed (outer t) (all_outer l))

  pub outside_renamed : (scoped : Bool) (l : List Tree) → outside scoped (map renamed l) ≡ map renamed (outside scoped l)
  unfolding outside
  outside_renamed false l = all_nodes_renamed l
  outside_renamed true l = all_outer_renamed l

  -- and these are known where the trees are
  outer_known_step :
      (b : Bool) (t : Tree) (p q : List Tree) → Known t → KnownAll p → KnownAll q → KnownAll (t ∷ elim b [ true ↦ p | false ↦ q ])
  outer_known_step true t p q h d e = both_known t p h d
  outer_known_step false t p q h d e = both_known t q h e

  mutual
    unfolding outer holds

    pub outer_known : (t : Tree) → Known t → KnownAll (outer t)
    outer_known (Sym n) h = both_known (Sym n) [] h none_known
    outer_known (Const c) h = both_known (Const c) [] h none_known
    outer_known (Op k f) h = outer_known_step (is_switch k) (Op k f) (outer_first f) (outer_of f) h (outer_first_known f h) (outer_of_known f h)

    outer_of_known : (f : Forest) → KnownEach f → KnownAll (outer_of f)
    outer_of_known nil h = none_known
    outer_of_known (t ◂ f) h =
        holds_append is_known (outer t) (outer_of f) (outer_known t (and_left (holds is_known t) (holds_each is_known f) h))
        (outer_of_known f (and_right (holds is_known t) (holds_each is_known f) h))

    outer_first_known : (f : Forest) → KnownEach f → KnownAll (outer_first f)
    outer_first_known nil h = none_known
    outer_first_known (t ◂ f) h = outer_known t (and_left (holds is_known t) (holds_each is_known f) h)

  pub all_nodes_known : (l : List Tree) → KnownAll l → KnownAll (all_nodes l)
  all_nodes_known l h = all_nodes_hold is_known l h

  pub all_outer_known : (l : List Tree) → KnownAll l → KnownAll (all_outer l)
  unfolding all_outer
  all_outer_known [] h = none_known
  all_outer_known (t ∷ l) h = holds_append is_known (outer t) (all_outer l) (outer_known t (first_known t l h)) (all_outer_known l (rest_known t l h))

  pub outside_known : (scoped : Bool) (l : List Tree) → KnownAll l → KnownAll (outside scoped l)
  unfolding outside
  outside_known false l h = all_nodes_known l h
  outside_known true l h = all_outer_known l h

  -- ---- uses

  pub count_renamed : (e : Tree) (l : List Tree) → Known e → KnownAll l → count (renamed e) (map renamed l) ≡ count e l
  unfolding count
  count_renamed e [] g h = refl
  count_renamed e (t ∷ l) g h =
      ap₂ (λ (b : Bool) (n : ℕ). elim b as (λ _. ℕ) [ true ↦ suc n | false ↦ n ]) (eq_tree_renamed t e (first_known t l h) g)
      (count_renamed e l g (rest_known t l h))

  pub uses_renamed : (rs : List Tree) (e : Tree) → KnownAll rs → Known e → uses (map renamed rs) (renamed e) ≡ uses rs e
  unfolding uses
  uses_renamed rs e h g = ap (count (renamed e)) (all_nodes_renamed rs) ∙ count_renamed e (all_nodes rs) g (all_nodes_known rs h)

  pub uses_outside_renamed :
      (scoped : Bool) (rs : List Tree) (e : Tree) → KnownAll rs → Known e → uses_outside scoped (map renamed rs) (renamed e) ≡ uses_outside scoped rs e
  unfolding uses_outside
  uses_outside_renamed scoped rs e h g = ap (count (renamed e)) (outside_renamed scoped rs) ∙ count_renamed e (outside scoped rs) g (outside_known scoped rs h)
