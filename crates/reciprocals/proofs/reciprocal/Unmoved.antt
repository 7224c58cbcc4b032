-- `1 / d` stays as it is where no word of d is a division's and none of the divisors after it is d: no later divisor is replaced in it. Assumes nothing.
use Prim.Native.Nat.{ℕ, suc}
use mathlib.Core.Path.{◌≡◌, refl, sym, ◌∙◌, ap, ap₂, subst}
use mathlib.Core.Bool.{Bool, true, false, not, ◌&&◌}
use mathlib.Core.List.{List, [], ◌∷◌, map}
use lib.IntN.{pos}
use lib.ListN.{take, drop}
use lib.Dec.{T, eqb}
use Rattle.std.specs.List.{list_all}
use Rattle.spec_tree.specs.Tree.{Name, xname, Tree, Forest, Const, Op, nil, ◌◂◌, forest, eq_tree}
use Rattle.spec_tree.specs.Kinds.{Mul, Div}
use Rattle.spec_tree.specs.Tokens.{read, numbered, kind_of, takes, tree_of_word}
use Rattle.spec_tree.proofs.Logic.{and_left, and_right, not_so}
use Rattle.spec_tree.proofs.TokenLaws.{Word, a_symbol, a_constant, an_operation, word_is, symbol_tree, constant_tree, operation_tree, map_take, map_drop}
use Rattle.spec_tree.proofs.TreeLaws.{eq_tree_sound, eq_tree_refl}
use Rattle.spec_rewrite.specs.Rewrite.{divides_by, replace_divisor, replace_divisors, dividend}
use Rattle.laws.specs.positions.Places.{numbered_at, among_places}
use Rattle.reciprocals.specs.reciprocal.Bindings.{no_division_words}
use Rattle.reciprocals.proofs.bindings.Parts.{settle_tree, reciprocal}

-- ---- the test of words

pub none_divides : (ws : List ℕ) → list_all (λ w. not (eqb (kind_of w) 6)) ws ≡ no_division_words ws
unfolding no_division_words
none_divides [] = refl
none_divides (w ∷ ws) = ap (λ (b : Bool). not (eqb (kind_of w) 6) && b) (none_divides ws)

-- ---- trees without a division

module _ (d : Tree) (n : Name) where
  abbrev f : Tree → Tree
  f = replace_divisor d n

  operands_are : (l : List Tree) → replace_divisors d n (forest l) ≡ forest (map (replace_divisor d n) l)
  unfolding replace_divisor forest
  operands_are [] = refl
  operands_are (t ∷ l) = ap (λ (g : Forest). replace_divisor d n t ◂ g) (operands_are l)

  node_kept : (k : ℕ) (g : Forest) (b : Bool) → (T b → ⊥) → ◌≡◌ {A = Tree} (elim b [ true ↦ Op Mul (dividend d n g) | false ↦ Op k (replace_divisors d n g) ]) (Op k (replace_divisors d n g))
  node_kept k g true h = absurd (h tt)
  node_kept k g false h = refl

  other_kept : (k : ℕ) (l : List Tree) → T (not (eqb k Div)) → replace_divisor d n (Op k (forest l)) ≡ Op k (forest (map (replace_divisor d n) l))
  unfolding replace_divisor
  other_kept k l h =
      node_kept k (forest l) (eqb k Div && divides_by d (forest l)) (λ t. not_so (eqb k Div) h (and_left (eqb k Div) (divides_by d (forest l)) t))
      ∙ ap (Op k) (operands_are l)

  word_kept : (w : ℕ) (l : List Tree) → T (not (eqb (kind_of w) Div)) → replace_divisor d n (tree_of_word numbered w l) ≡ tree_of_word numbered w (map (replace_divisor d n) l)
  unfolding replace_divisor
  word_kept w l h = go (word_is w)
    where
      go : Word w → replace_divisor d n (tree_of_word numbered w l) ≡ tree_of_word numbered w (map (replace_divisor d n) l)
      go (a_symbol k) = ap f (symbol_tree numbered w l k) ∙ sym (symbol_tree numbered w (map f l) k)
      go (a_constant k) = ap f (constant_tree numbered w l k) ∙ sym (constant_tree numbered w (map f l) k)
      go (an_operation k) = ap f (operation_tree numbered w l k) ∙ (other_kept (kind_of w) l h ∙ sym (operation_tree numbered w (map f l) k))

  pub read_kept : (ws : List ℕ) → T (no_division_words ws) → map (replace_divisor d n) (read numbered ws) ≡ read numbered ws
  unfolding no_division_words read
  read_kept [] h = refl
  read_kept (w ∷ ws) h =
      let e = read_kept ws (and_right (not (eqb (kind_of w) Div)) (no_division_words ws) h) in
      let r = read numbered ws in
      ap₂ (λ (t : Tree) (l : List Tree). t ∷ l)
      (word_kept w (take (takes w) r) (and_left (not (eqb (kind_of w) Div)) (no_division_words ws) h)
      ∙ ap (tree_of_word numbered w) (map_take f (takes w) r ∙ ap (take (takes w)) e))
      (map_drop f (takes w) r ∙ ap (drop (takes w)) e)

  -- one over a tree that stays, which isn't the divisor
  pub over_kept : (t : Tree) → replace_divisor d n t ≡ t → (T (eq_tree t d) → ⊥) → replace_divisor d n (reciprocal t) ≡ reciprocal t
  unfolding replace_divisor divides_by
  over_kept t e h =
      node_kept Div (Const (pos 1) ◂ t ◂ nil) (eqb Div Div && eq_tree t d) (λ b. h (and_right (eqb Div Div) (eq_tree t d) b))
      ∙ ap (λ (u : Tree). Op Div (Const (pos 1) ◂ u ◂ nil)) e

-- ---- all later divisors

equal_back : (a b : Tree) → T (eq_tree a b) → T (eq_tree b a)
equal_back a b h = subst (λ (x : Tree). T (eq_tree b x)) (sym (eq_tree_sound a b h)) (eq_tree_refl b)

module _ (base : List ℕ) (q : ℕ) (still : (d : Tree) (n : Name) → replace_divisor d n (numbered_at base q) ≡ numbered_at base q) where
  pub over_settled : (l : List ℕ) (n : ℕ) → among_places base q l ≡ false → settle_tree (map (numbered_at base) l) n (reciprocal (numbered_at base q)) ≡ reciprocal (numbered_at base q)
  unfolding among_places
  over_settled [] n h = refl
  over_settled (p ∷ l) n h = go (eq_tree (numbered_at base p) (numbered_at base q)) refl h (λ g. over_settled l (suc n) g)
    where
      t : Tree
      t = numbered_at base q

      go : (b : Bool) → eq_tree (numbered_at base p) (numbered_at base q) ≡ b → elim b as (λ _. Bool) [ true ↦ true | false ↦ among_places base q l ] ≡ false
          → (among_places base q l ≡ false → settle_tree (map (numbered_at base) l) (suc n) (reciprocal (numbered_at base q)) ≡ reciprocal (numbered_at base q))
          → settle_tree (map (numbered_at base) (p ∷ l)) n (reciprocal (numbered_at base q)) ≡ reciprocal (numbered_at base q)
      go true e g rest = absurd (subst T g tt)
      go false e g rest =
          ap (settle_tree (map (numbered_at base) l) (suc n)) (over_kept (numbered_at base p) (xname n) t (still (numbered_at base p) (xname n)) (λ x. subst T e (equal_back t (numbered_at base p) x)))
          ∙ rest g
