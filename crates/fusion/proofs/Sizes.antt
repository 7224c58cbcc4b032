-- No step of fusion or of settling makes a tree larger, so that fused words fit where the words before did (01, "Reciprocals", "Scoped fusion"). Assumes nothing.
use Prim.Native.Nat.{◌≤◌}
use native.Mathlib.Omega.{arith}
use mathlib.Core.List.{List, [], ◌∷◌, map}
use Rattle.spec_tree.specs.Tree.{mname, Tree}
use Rattle.spec_tree.specs.Facts.{size}
use Rattle.spec_tree.specs.Rows.{occurrences}
use Rattle.spec_rewrite.specs.Rewrite.{replace_outside_arms}
use Rattle.spec_rewrite.proofs.OutsideSize.{outside_size}
use Rattle.fusion.specs.Settled.{Step, fused_tree}

pub fused_size : (steps : List Step) (t : Tree) → size (fused_tree steps t) ≤ size t
unfolding fused_tree
fused_size [] t = omega arith
fused_size (s ∷ l) t =
    let u = replace_outside_arms s.member (mname s.number) t in
    omega (arith, outside_size s.member (mname s.number) t, fused_size l u)

-- ---- of several trees

pub no_more_nodes : (f : Tree → Tree) → ((t : Tree) → size (f t) ≤ size t) → (l : List Tree) → occurrences (map f l) ≤ occurrences l
unfolding occurrences
no_more_nodes f h [] = omega arith
no_more_nodes f h (t ∷ l) = omega (arith, h t, no_more_nodes f h l)
