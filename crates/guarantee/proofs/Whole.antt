-- Demand 3, whole: one theorem over both answers together, for any list that passes 9, and so for any sheet that load accepts. Assumes nothing.
use Prim.Native.Nat.{ℕ, ◌≤◌}
use mathlib.Core.Path.{◌≡◌}
use mathlib.Core.Bool.{Bool, true, false}
use mathlib.Core.List.{List}
use mathlib.Core.Logic.{◌⊎◌}
use lib.ListN.{length}
use lib.Dec.{T, leb}
use Rattle.spec_tree.specs.Outcome.{Refusal, ok, refused, by, ◌>>=◌}
use Rattle.spec_tree.specs.Tree.{Tree}
use Rattle.spec_cse.specs.Answer.{Answer}
use Rattle.spec_cse.specs.Scope.{area_rows, scopes_open, cse_scope, as_answer, answer}
use Rattle.spec_tree.specs.Rows.{Table, trees, within_limits}
use Rattle.spec_sheet.specs.Sheet.{load}
use Rattle.spec_cse.specs.Demand.{flat_shaped, Demand3}
use Rattle.spec_tree.specs.Layout.{table_of, laid_out}
use Rattle.spec_tree.proofs.LayoutLaws.{laid_out_passes}
use Rattle.spec_tree.specs.Passes.{passes}
use Rattle.laws.proofs.cse.PassesLaws.{passes_formed, passes_unmade}
use Rattle.spec_sheet.proofs.SheetPasses.{accepted_passes}
use Rattle.laws.proofs.cse.FlatCount.{flat_no_repeats, flat_counted, flat_count}
use Rattle.laws.proofs.cse.Refusals as refusals
use Rattle.laws.proofs.cse.ReciprocalBindings as bindings
use Rattle.laws.proofs.cse.ScopedCount as counts
use Rattle.laws.proofs.cse.CleanDivisors.{PlainDivisors}
use Rattle.laws.proofs.cse.BoundSwitches.{no_switch_bound}
use Rattle.laws.proofs.cse.RoomEnough as room
use Rattle.laws.proofs.cse.PlainBound as plain
use Rattle.laws.proofs.cse.ScopeRoom as scopes
use Rattle.spec_tree.proofs.Logic.{and_left, and_right}
use Rattle.laws.proofs.cse.ScopedCount.{Tally, over_lets, each_one, inverse_one}
use Rattle.laws.proofs.cse.Both as both

pub demand3 : (es : List Tree) → T (passes es) → Demand3 es
demand3 es h =
    let formed = passes_formed es h in
    let known = passes_unmade es h in
    both.demand3 es known (flat_no_repeats es formed known) (flat_counted es formed known) (flat_count es formed known)

pub sheet_demand3 : (row_places root_places : ℕ) (s : List ℕ) (t : Table) → load row_places root_places s ≡ ok t → Demand3 (trees t)
sheet_demand3 row_places root_places s t e = demand3 (trees t) (accepted_passes row_places root_places s t e)

-- for any words that pass 9
pub rows_demand3 : (ws roots : List ℕ) → T (laid_out ws roots) → Demand3 (trees (table_of ws roots))
rows_demand3 ws roots h = demand3 (trees (table_of ws roots)) (laid_out_passes ws roots h)

passes_limits : (es : List Tree) → T (passes es) → T (within_limits es)
unfolding passes
passes_limits es h = and_left (within_limits es) _ (and_right (leb (length es) 64) _ h)

-- the flat form refuses by 10 alone, never by 11
pub flat_refused_by_10 : (es : List Tree) → T (passes es) → (i : Refusal) → answer false es ≡ refused i → i ≡ by 10
flat_refused_by_10 es h i e = refusals.flat_refused_by_10 es (passes_unmade es h) i e

pub flat_never_11 : (es : List Tree) → T (passes es) → answer false es ≡ refused (by 11) → ⊥
flat_never_11 es h e = refusals.flat_never_11 es (passes_unmade es h) e

-- and by 10 or 11 alone, never by 23, where no scope that is reached binds a divisor with a switch outside arms
pub scoped_refused_by_10_or_11 : (es : List Tree) → T (passes es) → T (no_switch_bound es) → (i : Refusal) → answer true es ≡ refused i → (i ≡ by 10) ⊎ (i ≡ by 11)
scoped_refused_by_10_or_11 es h p = room.refused_by_10_or_11 es (passes_formed es h) (passes_unmade es h) (passes_limits es h) p

-- so where each divisor of the list holds a symbol, or no Select or Branch
pub plain_none_bound : (es : List Tree) → T (passes es) → PlainDivisors es → T (no_switch_bound es)
plain_none_bound es h p = plain.plain_none_bound es (passes_formed es h) (passes_unmade es h) (passes_limits es h) p

pub plain_refused_by_10_or_11 : (es : List Tree) → T (passes es) → PlainDivisors es → (i : Refusal) → answer true es ≡ refused i → (i ≡ by 10) ⊎ (i ≡ by 11)
plain_refused_by_10_or_11 es h p = scoped_refused_by_10_or_11 es h (plain_none_bound es h p)

-- For a list that passes 9 more than nine open scopes would change nothing: 23 arises only where a scope's input or what it holds for fusion is more than the
-- rows that are left, or its input, its first number, its switches or its statements are more than they may be.
pub nine_scopes : (fuel : ℕ) → scopes_open ≤ fuel → (scoped : Bool) (es : List Tree) → T (passes es) → answer scoped es ≡ (cse_scope fuel area_rows scoped 0 es >>= λ a. ok (as_answer a))
nine_scopes fuel m scoped es h = scopes.answer_by_more fuel m scoped es (passes_limits es h)

-- in a flat answer each statement binds some `__xi`, and where i is not below the extraction count, to 1 / d
pub flat_reciprocals : (es : List Tree) → T (passes es) → (a : Answer) → answer false es ≡ ok a → flat_shaped a
flat_reciprocals es h = bindings.flat_reciprocals es (passes_unmade es h)

-- in each answer the Lets, arms included, are as many as the extraction count says and some more, and at least as many as these are of the form 1 / d
pub answer_counted :
    (scoped : Bool) (es : List Tree) → T (passes es) → (a : Answer) → answer scoped es ≡ ok a
    → Tally a.extracted (over_lets each_one a.inters) (over_lets inverse_one a.inters)
answer_counted scoped es h = counts.answer_counted scoped es (passes_unmade es h)
