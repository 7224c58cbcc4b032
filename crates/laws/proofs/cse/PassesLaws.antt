-- A list that passes 9 has trees as 01 has them, and no name of an answer among its symbols. Assumes nothing.
use Prim.Native.Nat.{ℕ}
use mathlib.Core.Path.{subst}
use mathlib.Core.Bool.{◌&&◌}
use mathlib.Core.List.{List, [], ◌∷◌}
use lib.ListN.{length}
use lib.Dec.{T, leb}
use Rattle.spec_tree.specs.Tree.{Name, input, xname, mname, Tree, Forest, Sym, Const, Op, nil, ◌◂◌}
use Rattle.spec_tree.specs.Kinds.{arity_ok, Neg}
use Rattle.spec_tree.proofs.Formed.{operand_count, well_formed, well_formed_each}
use Rattle.spec_tree.specs.Rows.{within_limits}
use Rattle.spec_tree.specs.Passes.{all_of, of_list, operands_ok, expression, expressions, passes}
use Rattle.spec_tree.proofs.Formed.{tests, tests_length}
use Rattle.spec_tree.proofs.Logic.{and_left, and_right, and_both}
use Rattle.spec_rewrite.proofs.Counts.{well_formed_all}
use Rattle.spec_rewrite.proofs.Names.{holds, holds_each, holds_all, below}
use Rattle.laws.proofs.cse.ScopeValue.{under}

pub arity_of : (k n : ℕ) → T (operands_ok k n) → T (arity_ok k n)
unfolding operands_ok
arity_of k n h = and_right (leb Neg k) (arity_ok k n) h

mutual
  unfolding expression well_formed

  formed : (t : Tree) → T (expression t) → T (well_formed t)
  formed (Sym n) h = tt
  formed (Const c) h = tt
  formed (Op k f) h =
      and_both (arity_ok k (operand_count f)) (well_formed_each f)
      (subst (λ (n : ℕ). T (arity_ok k n)) (tests_length f) (arity_of k (length (tests f)) (and_left (operands_ok k (length (tests f))) (all_of (tests f)) h)))
      (formed_each f (and_right (operands_ok k (length (tests f))) (all_of (tests f)) h))

  formed_each : (f : Forest) → T (all_of (tests f)) → T (well_formed_each f)
  formed_each nil h = tt
  formed_each (t ◂ f) h =
      and_both (well_formed t) (well_formed_each f) (formed t (and_left (expression t) (all_of (tests f)) h)) (formed_each f (and_right (expression t) (all_of (tests f)) h))

own : (n : Name) → T (of_list n) → T (under 0 n)
unfolding of_list below
own (input s) h = tt
own (xname i) h = absurd h
own (mname i) h = absurd h

mutual
  unfolding expression holds

  unmade : (t : Tree) → T (expression t) → T (holds (under 0) t)
  unmade (Sym n) h = own n h
  unmade (Const c) h = tt
  unmade (Op k f) h = unmade_each f (and_right (operands_ok k (length (tests f))) (all_of (tests f)) h)

  unmade_each : (f : Forest) → T (all_of (tests f)) → T (holds_each (under 0) f)
  unmade_each nil h = tt
  unmade_each (t ◂ f) h =
      and_both (holds (under 0) t) (holds_each (under 0) f) (unmade t (and_left (expression t) (all_of (tests f)) h)) (unmade_each f (and_right (expression t) (all_of (tests f)) h))

all_formed : (es : List Tree) → T (expressions es) → T (well_formed_all es)
unfolding expressions well_formed_all
all_formed [] h = tt
all_formed (t ∷ l) h = and_both (well_formed t) (well_formed_all l) (formed t (and_left (expression t) (expressions l) h)) (all_formed l (and_right (expression t) (expressions l) h))

all_unmade : (es : List Tree) → T (expressions es) → T (holds_all (under 0) es)
unfolding expressions holds_all
all_unmade [] h = tt
all_unmade (t ∷ l) h =
    and_both (holds (under 0) t) (holds_all (under 0) l) (unmade t (and_left (expression t) (expressions l) h)) (all_unmade l (and_right (expression t) (expressions l) h))

pub passed : (es : List Tree) → T (passes es) → T (expressions es)
unfolding passes
passed es h = and_right (within_limits es) (expressions es) (and_right (leb (length es) 64) (within_limits es && expressions es) h)

pub passes_formed : (es : List Tree) → T (passes es) → T (well_formed_all es)
passes_formed es h = all_formed es (passed es h)

pub passes_unmade : (es : List Tree) → T (passes es) → T (holds_all (under 0) es)
passes_unmade es h = all_unmade es (passed es h)
