-- A whole scope in settled form (01, "Extraction", "Reciprocals", "Scoped fusion"): `ts` are the trees that rounds leave, k results and then the bindings by number
-- from `first` on, and `ds` the divisors to bind. Each statement is made of one of these trees by itself. Assumes nothing.
use Rattle.std.specs.Prelude.{ℕ, suc, ◌+◌, true, List, [], ◌∷◌, ◌++◌, map, length, take, drop}
use Rattle.spec_tree.specs.Outcome.{Outcome, ◌>>=◌}
use Rattle.spec_tree.specs.Tree.{xname, Tree}
use Rattle.spec_tree.specs.Facts.{all_nodes}
use Rattle.spec_cse.specs.Extract.{divisors, distinct, shared_divisors}
use Rattle.spec_cse.specs.Answer.{Intermediate, Let}
use Rattle.spec_cse.specs.Scope.{Group, collect_switches, groups_from, Work, Scoped, finish}
use Rattle.laws.specs.positions.Shown.{sort_by}
use Rattle.laws.specs.positions.Rounds.{next_number}
use Rattle.reciprocals.proofs.bindings.Parts.{settle_tree, settled_reciprocals}
use Rattle.fusion.specs.Settled.{Step, fused_tree, Numbered, Walked, numbered_groups, all_steps, group_matches}

-- the divisors that a scope binds, in text order
unfoldable pub divisors_of : (Tree → List ℕ) → List Tree → List Tree
unfolding sort_by shared_divisors distinct divisors all_nodes
divisors_of shown ts = sort_by shown (shared_divisors true ts (distinct [] (divisors (all_nodes ts))))

-- a tree with every divisor and then every member replaced
unfoldable pub settled_fused : List Tree → ℕ → List Step → Tree → Tree
unfolding fused_tree
settled_fused ds n steps t = fused_tree steps (settle_tree ds n t)

-- trees as lets, numbered from i on
unfoldable pub lets_from : ℕ → List Tree → List Intermediate
lets_from i [] = []
lets_from i (e ∷ l) = Let (xname i) e ∷ lets_from (suc i) l

-- the trees in which switches are looked for, reciprocals after them
unfoldable pub settled_roots : List Tree → ℕ → List Tree → List Tree
settled_roots ds n ts = map (settle_tree ds n) ts ++ settled_reciprocals ds n

unfoldable pub scope_groups : List Tree → ℕ → List Tree → List Group
unfolding collect_switches groups_from settled_roots
scope_groups ds n ts = groups_from [] (collect_switches (settled_roots ds n ts))

-- lets by number, reciprocals by number, matches in the groups' order
unfoldable pub scope_stmts : ℕ → ℕ → List Tree → List Tree → List Numbered → List Intermediate
unfolding lets_from settled_fused fused_tree all_steps group_matches next_number
scope_stmts k first ts ds gs =
    let n = next_number k first ts in
    let steps = all_steps gs in
    lets_from first (map (settled_fused ds n steps) (drop k ts)) ++ (lets_from n (map (fused_tree steps) (settled_reciprocals ds n)) ++ group_matches gs)

unfoldable pub scope_work : ℕ → ℕ → ℕ → List Tree → List Tree → Walked → Work
unfolding scope_stmts settled_fused all_steps next_number
scope_work x k first ts ds l =
    record {
      results = map (settled_fused ds (next_number k first ts) (all_steps l.groups)) (take k ts);
      inters = scope_stmts k first ts ds l.groups;
      next = l.next;
      extracted = x + l.extracted;
    }

-- the arms' scopes in order, and then the statements in order, or the first refusal
unfoldable pub settled_scope : (ℕ → List Tree → Outcome Scoped) → ℕ → ℕ → ℕ → List Tree → List Tree → Outcome Scoped
unfolding numbered_groups scope_groups scope_work finish next_number
settled_scope scope x k first ts ds =
    let n = next_number k first ts in
    numbered_groups scope (n + length ds) (scope_groups ds n ts) >>= λ l. finish (scope_work x k first ts ds l)
