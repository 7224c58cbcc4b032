-- No expression of a flat answer is larger than the list: each has at most 1,024 nodes, so that a line of its text has room in a buffer of fixed length, though
-- all of it may not (01, "Sheet and printing"). Assumes nothing.
use Prim.Native.Nat.{◌+◌, ◌*◌, ◌≤◌}
use mathlib.Core.Path.{◌≡◌, refl, sym, subst}
use mathlib.Core.Bool.{false}
use mathlib.Core.List.{List, [], ◌∷◌, ◌++◌}
use native.Mathlib.Omega.{arith}
use lib.IntN.{pos}
use lib.Dec.{T}
use Rattle.spec_tree.specs.Outcome.{ok}
use Rattle.spec_tree.specs.Tree.{Name, xname, Tree, Const, nil, ◌◂◌}
use Rattle.spec_tree.specs.Kinds.{Div}
use Rattle.spec_tree.specs.Facts.{size}
use Rattle.spec_tree.specs.Passes.{passes}
use Rattle.spec_rewrite.proofs.Measure.{sum_of, sum_each, sizes, size_op, size_const}
use Rattle.spec_rewrite.proofs.DivisorCount.{divisor_size}
use Rattle.spec_cse.specs.Extract.{Binding, State, bound, roots, replace_divisor_each, bind_reciprocal, bind_reciprocals, reciprocals}
use Rattle.spec_cse.specs.Answer.{Intermediate, Intermediates, Answer, Let, Match, end, step, block}
use Rattle.spec_cse.specs.Scope.{binds, answer}
use Rattle.laws.proofs.cse.PassesLaws.{passes_formed, passes_unmade}
use Rattle.laws.proofs.cse.FlatCount.{parts, list_made}
use Rattle.laws.proofs.cse.SortCount.{Every, sorted_every}
use Rattle.laws.proofs.cse.ReciprocalsCount.{AllTrees, all_map, inverse, roots_reciprocal, bound_divisors, reciprocals_are}
use Rattle.laws.proofs.cse.SizeCount.{total_size, extract_all_size, divisor_half}
use Rattle.guarantee.proofs.passing.FlatRows.{few_nodes}

abbrev pub Small : Tree → Type 0
Small t = size t ≤ 1024

-- every statement is a let of such an expression
abbrev pub SmallLets : Intermediates → Type 0
SmallLets end = Unit {0}
SmallLets (step (Let n e) l) = Small e × SmallLets l
SmallLets (step (Match k key ns arms) l) = ⊥

-- ---- before reciprocals, and after

each_small : (l : List Tree) → total_size l ≤ 1024 → AllTrees Small l
unfolding sum_of
each_small [] h = tt
each_small (t ∷ l) h = ((omega arith), each_small l (omega arith))

append_small : (a b : List Tree) → AllTrees Small a → AllTrees Small b → AllTrees Small (a ++ b)
append_small [] b g h = h
append_small (t ∷ a) b g h = (g.0, append_small a b g.1 h)

left_small : (a b : List Tree) → AllTrees Small (a ++ b) → AllTrees Small a
left_small [] b h = tt
left_small (t ∷ a) b h = (h.0, left_small a b h.1)

right_small : (a b : List Tree) → AllTrees Small (a ++ b) → AllTrees Small b
right_small [] b h = h
right_small (t ∷ a) b h = right_small a b h.1

divided_small : (d : Tree) (n : Name) (l : List Tree) → AllTrees Small l → AllTrees Small (replace_divisor_each d n l)
unfolding replace_divisor_each
divided_small d n [] h = tt
divided_small d n (t ∷ l) h = ((let a = h.0 in let b = divisor_size d n t in omega arith), divided_small d n l h.1)

inverse_small : (d : Tree) → 2 * size d ≤ 1024 → Small (inverse d)
unfolding inverse
inverse_small d h =
    (let a = size_op Div (Const (pos 1) ◂ d ◂ nil) in
    let b : sizes (Const (pos 1) ◂ d ◂ nil) ≡ size (Const (pos 1)) + (size d + 0) = (unfold sum_each in refl) in
    let c = size_const (pos 1) in
    omega arith)

reciprocals_small : (l : List Tree) (s : State) → AllTrees (λ d. 2 * size d ≤ 1024) l → AllTrees Small (roots s) → AllTrees Small (roots (bind_reciprocals l s))
unfolding bind_reciprocals
reciprocals_small [] s g h = h
reciprocals_small (d ∷ l) s g h =
    reciprocals_small l (bind_reciprocal d s) g.1
    (subst (AllTrees Small) (sym (roots_reciprocal d s))
    (append_small (replace_divisor_each d (xname s.next) (roots s)) (inverse d ∷ []) (divided_small d (xname s.next) (roots s) h) (inverse_small d g.0, tt)))

-- ---- the answer

abbrev SmallLet : Intermediate → Type 0
SmallLet (Let n e) = Small e
SmallLet (Match k key ns arms) = ⊥

binds_small : (l : List Binding) → AllTrees Small (bound l) → Every SmallLet (binds l)
unfolding binds bound
binds_small [] h = tt
binds_small (b ∷ l) h = (h.0, binds_small l h.1)

block_small : (l : List Intermediate) → Every SmallLet l → SmallLets (block l)
unfolding block
block_small [] h = tt
block_small (Let n e ∷ l) h = (h.0, block_small l h.1)
block_small (Match k key ns arms ∷ l) h = absurd h.0

pub flat_trees_small : (es : List Tree) → T (passes es) → (a : Answer) → answer false es ≡ ok a → SmallLets a.inters × AllTrees Small a.results
flat_trees_small es h a e =
    let P = parts es a e in
    let s = P.state in
    let t = reciprocals false s in
    let few : total_size (roots s) ≤ 1024 =
    (let x = extract_all_size false 0 es (passes_formed es h) (list_made es (passes_unmade es h)) s P.rounds in let y = few_nodes es h in omega arith) in
    let halves = all_map (λ d. 2 * size d ≤ total_size (roots s)) (λ d. 2 * size d ≤ 1024) (λ d g. omega (arith, g, few)) (bound_divisors false s) (divisor_half false s) in
    let all : AllTrees Small (roots t) =
    subst (λ (u : State). AllTrees Small (roots u)) (sym (reciprocals_are false s)) (reciprocals_small (bound_divisors false s) s halves (each_small (roots s) few)) in
    let q = split t all in (
      subst SmallLets (sym P.inters) (block_small P.stmts (sorted_every SmallLet (binds t.lets) P.stmts P.sorted (binds_small t.lets q.1))),
      subst (AllTrees Small) (sym P.results) q.0,
    )
  where
    split : (t : State) → AllTrees Small (roots t) → AllTrees Small t.results × AllTrees Small (bound t.lets)
    split t g = (unfold roots in (left_small t.results (bound t.lets) g, right_small t.results (bound t.lets) g))
