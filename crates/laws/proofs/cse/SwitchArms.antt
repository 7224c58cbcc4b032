-- From a scope's roots to its arms: where a property passes from an operation to its operands, and a second one holds of a switch's arms where the first holds of
-- the switch, the second holds of every arm of the switches that are collected. Assumes nothing.
use Prim.Native.Nat.{ℕ}
use mathlib.Core.Bool.{Bool, true, false}
use mathlib.Core.List.{List, [], ◌∷◌}
use lib.Dec.{T}
use Rattle.spec_tree.specs.Tree.{Tree, Forest, Sym, Const, Op, nil, ◌◂◌, operands}
use Rattle.spec_tree.specs.Kinds.{is_switch}
use Rattle.spec_tree.specs.Facts.{outer, outer_of, outer_first, all_outer}
use Rattle.spec_cse.specs.Extract.{among, distinct}
use Rattle.spec_cse.specs.Scope.{switches, collect_switches, groups_from}
use Rattle.laws.proofs.cse.ReciprocalsCount.{AllTrees}
use Rattle.laws.proofs.cse.Levels.{trees_append}
use Rattle.laws.proofs.cse.ArmNodes.{AllArms, Groups, groups_arms}

-- of each operand
abbrev pub AllOperands : (Tree → Type 0) → Forest → Type 0
AllOperands P nil = Unit {0}
AllOperands P (t ◂ f) = P t × AllOperands P f

pub as_list : (P : Tree → Type 0) (f : Forest) → AllOperands P f → AllTrees P (operands f)
unfolding operands
as_list P nil h = tt
as_list P (t ◂ f) h = (h.0, as_list P f h.1)

module _
    (P Q : Tree → Type 0)
    (parts : (k : ℕ) (f : Forest) → P (Op k f) → AllOperands P f)
    (arms : (k : ℕ) (q : Tree) (f : Forest) → T (is_switch k) → P (Op k (q ◂ f)) → AllTrees Q (operands f))
  where
    outer_step : (b : Bool) (x y : List Tree) → AllTrees P x → AllTrees P y → AllTrees P (elim b [ true ↦ x | false ↦ y ])
    outer_step true x y g h = g
    outer_step false x y g h = h

    mutual
      unfolding outer

      outer_all : (t : Tree) → P t → AllTrees P (outer t)
      outer_all (Sym n) h = (h, tt)
      outer_all (Const c) h = (h, tt)
      outer_all (Op k f) h = (h, outer_step (is_switch k) (outer_first f) (outer_of f) (outer_first_all f (parts k f h)) (outer_of_all f (parts k f h)))

      outer_of_all : (f : Forest) → AllOperands P f → AllTrees P (outer_of f)
      outer_of_all nil h = tt
      outer_of_all (t ◂ f) h = trees_append P (outer t) (outer_of f) (outer_all t h.0) (outer_of_all f h.1)

      outer_first_all : (f : Forest) → AllOperands P f → AllTrees P (outer_first f)
      outer_first_all nil h = tt
      outer_first_all (t ◂ f) h = outer_all t h.0

    all_outer_all : (l : List Tree) → AllTrees P l → AllTrees P (all_outer l)
    unfolding all_outer
    all_outer_all [] h = tt
    all_outer_all (t ∷ l) h = trees_append P (outer t) (all_outer l) (outer_all t h.0) (all_outer_all l h.1)

    distinct_all : (seen l : List Tree) → AllTrees P l → AllTrees P (distinct seen l)
    unfolding distinct
    distinct_all seen [] h = tt
    distinct_all seen (t ∷ l) h = go (among t seen) (distinct_all seen l h.1) (distinct_all (t ∷ seen) l h.1)
      where
        go : (b : Bool) → AllTrees P (distinct seen l) → AllTrees P (distinct (t ∷ seen) l) → AllTrees P (elim b [ true ↦ distinct seen l | false ↦ t ∷ distinct (t ∷ seen) l ])
        go true g k = g
        go false g k = (h.0, k)

    switches_all : (l : List Tree) → AllTrees P l → AllArms Q (switches l)
    unfolding switches
    switches_all [] h = tt
    switches_all (Sym n ∷ l) h = switches_all l h.1
    switches_all (Const c ∷ l) h = switches_all l h.1
    switches_all (Op k nil ∷ l) h = switches_all l h.1
    switches_all (Op k (q ◂ f) ∷ l) h = go (is_switch k) (λ t. arms k q f t h.0) (switches_all l h.1)
      where
        go : (b : Bool) → (T b → AllTrees Q (operands f)) → AllArms Q (switches l)
            → AllArms Q (elim b [ true ↦ record { tree = Op k (q ◂ f); kind = k; key = q; arms = operands f } ∷ switches l | false ↦ switches l ])
        go true g k = (g tt, k)
        go false g k = k

    pub groups_all : (rs : List Tree) → AllTrees P rs → Groups Q (groups_from [] (collect_switches rs))
    unfolding collect_switches
    groups_all rs h = groups_arms Q [] (switches (distinct [] (all_outer rs))) tt (switches_all (distinct [] (all_outer rs)) (distinct_all [] (all_outer rs) (all_outer_all rs h)))
