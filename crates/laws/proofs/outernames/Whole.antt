-- A name from outside a scope is read in the scope's answer exactly where its input holds it, and so a match that a group makes reads exactly what its key and its
-- members' arms hold (01, "Order", "Scoped fusion"). Assumes nothing.
use Prim.Native.Nat.{ℕ, zero, suc}
use mathlib.Core.Path.{◌≡◌}
use mathlib.Core.Bool.{Bool, true, false}
use mathlib.Core.List.{List, [], ◌++◌}
use lib.ListN.{length}
use lib.Dec.{T}
use Rattle.spec_tree.specs.Outcome.{ok}
use Rattle.spec_tree.specs.Tree.{Name, Tree}
use Rattle.spec_rewrite.proofs.Counts.{well_formed_all}
use Rattle.spec_rewrite.proofs.Names.{holds_all}
use Rattle.spec_cse.specs.Extract.{State, roots, extract_all, reciprocals}
use Rattle.spec_cse.specs.Answer.{block, all_symbols, free_stmts, elem}
use Rattle.spec_cse.specs.Order.{needs}
use Rattle.spec_cse.specs.Scope.{Work, Scoped, collect_switches, groups_from, fuse_all, left_after, opens, cse_scope}
use Rattle.laws.proofs.cse.Outcomes.{Good, good_at}
use Rattle.laws.proofs.cse.ScopeValue.{under}
use Rattle.laws.proofs.cse.ScopeRoom.{or_no_room, or_not_held}
use Rattle.laws.proofs.outernames.Arms.{SameNames, Outside, scope_elem, scope_elem_any}
use Rattle.laws.proofs.outernames.Finishing.{fused_finished, plain_finished, from_input}
use Rattle.laws.proofs.outernames.Ordering.{needs_of, read_before, fused_needs}
use Rattle.laws.proofs.outernames.Rounds.{begun}

pub scope_same : (fuel left : ℕ) (scoped : Bool) (start : ℕ) (es : List Tree) → T (well_formed_all es) → Good (SameNames start es) (cse_scope fuel left scoped start es)
unfolding cse_scope
scope_same zero left scoped start es w = (unfold Good in tt)
scope_same (suc fuel) left false start es w = from_input false start es w _ (λ s B. plain_finished start es (length s.lets) (reciprocals false s) B)
scope_same (suc fuel) left true start es w =
    or_no_room (Good (SameNames start es)) (unfold Good in tt) (opens left start es) _
    (from_input true start es w _
    (λ s B.
    let m = left_after left (length s.lets) (reciprocals true s) in
    or_not_held (Good (SameNames start es)) (unfold Good in tt) (λ n l. cse_scope fuel m true n l) left (length s.lets) (reciprocals true s)
    (fused_finished (λ n l. cse_scope fuel m true n l) (λ n l v. scope_same fuel m true n l v) start es (length s.lets) (reciprocals true s) B)))

-- For every input symbol and every name with a number below the scope's first.
pub scope_reads :
    (fuel left : ℕ) (scoped : Bool) (start : ℕ) (es : List Tree) → T (well_formed_all es) → (a : Scoped) → cse_scope fuel left scoped start es ≡ ok a
    → (n : Name) → T (under start n) → elem n (free_stmts (block a.inters) ++ all_symbols a.results) ≡ elem n (all_symbols es)
scope_reads fuel left scoped start es w a e n u =
    scope_elem start es a (good_at (SameNames start es) (cse_scope fuel left scoped start es) a e (scope_same fuel left scoped start es w)) n u

-- And for every name with a number from the scope's next on, where the input holds none that the scope could make.
pub scope_reads_any :
    (fuel left : ℕ) (scoped : Bool) (start : ℕ) (es : List Tree) → T (well_formed_all es) → T (holds_all (under start) es)
    → (a : Scoped) → cse_scope fuel left scoped start es ≡ ok a
    → (n : Name) → Outside start a.next n → elem n (free_stmts (block a.inters) ++ all_symbols a.results) ≡ elem n (all_symbols es)
scope_reads_any fuel left scoped start es w h a e n u =
    scope_elem_any start es a (good_at (SameNames start es) (cse_scope fuel left scoped start es) a e (scope_same fuel left scoped start es w)) h n u

-- The needs of a scope's statements, told from the scope's roots before its arms' scopes.
pub scope_needs :
    (fuel left start : ℕ) (es : List Tree) → T (well_formed_all es) → T (holds_all (under start) es) → (s : State) → extract_all true start es ≡ ok s
    → (x : ℕ) (w : Work) → fuse_all (λ n l. cse_scope fuel left true n l) x (reciprocals true s) ≡ ok w
    → needs w.inters w.inters ≡ needs_of w.inters (read_before w.inters (groups_from [] (collect_switches (roots (reciprocals true s)))))
scope_needs fuel left start es v h s e x w f =
    fused_needs (λ n l. cse_scope fuel left true n l) (λ n l u. scope_same fuel left true n l u) start es x (reciprocals true s) (begun true start es v s e) h w f
