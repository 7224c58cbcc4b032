-- The rows of a scope's answer (specs, Rows), and how many statements and results it has (01, "Turned down", refusal 12). Assumes nothing.
use Prim.Native.Nat.{ℕ, suc, ◌+◌, ◌≤◌}
use native.Mathlib.Omega.{arith}
use mathlib.Core.Path.{◌≡◌, refl, ◌∙◌, subst}
use mathlib.Core.List.{List, [], ◌∷◌, ◌++◌, map}
use lib.ListN.{length, take, drop}
use Rattle.spec_tree.specs.Outcome.{Outcome, ok, refused, ◌>>=◌}
use Rattle.spec_tree.specs.Tree.{Tree}
use Rattle.spec_tree.specs.Facts.{size}
use Rattle.spec_tree.specs.Rows.{occurrences}
use Rattle.spec_cse.specs.Answer.{Intermediate, value_rows, stmt_rows, arms_rows, rows}
use Rattle.spec_cse.specs.Order.{topo_sort_intermediates}
use Rattle.spec_cse.specs.Scope.{members, Scoped, finish, as_answer}
use Rattle.laws.specs.positions.Rounds.{next_number}
use Rattle.reciprocals.proofs.bindings.Parts.{settled_reciprocals}
use Rattle.fusion.specs.Settled.{Step, fused_tree, Numbered, Walked, numbered_groups, all_steps, group_match, group_matches}
use Rattle.fusion.specs.Whole.{settled_fused, lets_from, scope_groups, scope_stmts, scope_work, settled_scope}
use Rattle.fusion.specs.Rows.{scoped_rows, match_rows, rows_of, settled_rows}
use Rattle.fusion.proofs.Places.{stmts_count}
use Rattle.fusion.proofs.Sizes.{fused_size}
use Rattle.fusion.proofs.Sorting.{rows_each, block_rows, rows_append, sorted_same}
use Rattle.laws.proofs.cse.Widths.{member_names_long}

-- ---- before they are ordered

pub values_rows : (l : List Tree) → value_rows l ≡ rows_of l
unfolding value_rows rows_of occurrences
values_rows [] = refl
values_rows (t ∷ l) = omega (arith, values_rows l)

lets_rows : (i : ℕ) (l : List Tree) → rows_each (lets_from i l) ≡ rows_of l
unfolding lets_from rows_of occurrences stmt_rows
lets_rows i [] = refl
lets_rows i (t ∷ l) = omega (arith, lets_rows (suc i) l)

pub matches_rows : (gs : List Numbered) → rows_each (group_matches gs) ≡ match_rows gs
unfolding group_matches group_match match_rows stmt_rows
matches_rows [] = refl
matches_rows (g ∷ l) = omega (arith, member_names_long g.start (members g.group), matches_rows l)

module _ (k first : ℕ) (ts ds : List Tree) (gs : List Numbered) where
  abbrev n : ℕ
  n = next_number k first ts

  abbrev steps : List Step
  steps = all_steps gs

  pub all_rows : rows_each (scope_stmts k first ts ds gs) + value_rows (map (settled_fused ds n steps) (take k ts)) ≡ settled_rows k first ts ds gs
  unfolding scope_stmts settled_rows
  all_rows =
      let a = map (settled_fused ds n steps) (drop k ts) in
      let b = map (fused_tree steps) (settled_reciprocals ds n) in
      omega (
        arith,
        rows_append (lets_from first a) (lets_from n b ++ group_matches gs),
        rows_append (lets_from n b) (group_matches gs),
        lets_rows first a,
        lets_rows n b,
        matches_rows gs,
        values_rows (map (settled_fused ds n steps) (take k ts)),
      )

-- ---- of the answer

pub record Measured (x k first : ℕ) (ts ds : List Tree) (l : Walked) (a : Scoped) : Type 0 where
  pub rows : scoped_rows a ≡ settled_rows k first ts ds l.groups
  pub stmts : length a.inters ≡ length (drop k ts) + (length ds + length l.groups)
  pub results : a.results ≡ map (settled_fused ds (next_number k first ts) (all_steps l.groups)) (take k ts)
  pub next : a.next ≡ l.next
  pub extracted : a.extracted ≡ x + l.extracted

pub finished_measured : (x k first : ℕ) (ts ds : List Tree) (l : Walked) (a : Scoped) → finish (scope_work x k first ts ds l) ≡ ok a → Measured x k first ts ds l a
unfolding finish scope_work
finished_measured x k first ts ds l a h = go (topo_sort_intermediates stmts) refl h
  where
    stmts : List Intermediate
    stmts = scope_stmts k first ts ds l.groups

    values : List Tree
    values = map (settled_fused ds (next_number k first ts) (all_steps l.groups)) (take k ts)

    made : (r : List Intermediate) → topo_sort_intermediates stmts ≡ ok r
        → Measured x k first ts ds l (record { inters = r; results = values; next = l.next; extracted = x + l.extracted })
    made r e =
        let s = sorted_same stmts r e in
        let b = block_rows r in
        let c = s.rows in
        let d = all_rows k first ts ds l.groups in
        record {
          rows = (unfold scoped_rows in omega (arith, b, c, d));
          stmts = s.count ∙ stmts_count k first ts ds l.groups;
          results = refl;
          next = refl;
          extracted = refl;
        }

    go :
        (o : Outcome (List Intermediate)) → topo_sort_intermediates stmts ≡ o
        → (o >>= λ r. ok (record { inters = r; results = values; next = l.next; extracted = x + l.extracted })) ≡ ok a → Measured x k first ts ds l a
    go (ok r) e q =
        let p : record { inters = r; results = values; next = l.next; extracted = x + l.extracted } ≡ a = cc in
        subst (Measured x k first ts ds l) p (made r e)
    go (refused i) e q = let z : ◌≡◌ {A = ℕ} 0 1 = cc in absurd (omega arith)

-- what a scope gives is measured by its numbered groups
pub scope_measured :
    (scope : ℕ → List Tree → Outcome Scoped) (x k first : ℕ) (ts ds : List Tree) (a : Scoped) → settled_scope scope x k first ts ds ≡ ok a
    → (l : Walked) × (numbered_groups scope (next_number k first ts + length ds) (scope_groups ds (next_number k first ts) ts) ≡ ok l) × Measured x k first ts ds l a
unfolding settled_scope
scope_measured scope x k first ts ds a h = go (numbered_groups scope (next_number k first ts + length ds) (scope_groups ds (next_number k first ts) ts)) refl h
  where
    walked : Outcome Walked
    walked = numbered_groups scope (next_number k first ts + length ds) (scope_groups ds (next_number k first ts) ts)

    go : (o : Outcome Walked) → walked ≡ o → (o >>= λ l. finish (scope_work x k first ts ds l)) ≡ ok a → (l : Walked) × (walked ≡ ok l) × Measured x k first ts ds l a
    go (ok l) e q = (l, e, finished_measured x k first ts ds l a q)
    go (refused i) e q = let z : ◌≡◌ {A = ℕ} 0 1 = cc in absurd (omega arith)

-- a scope's rows are those of its answer
pub answer_rows : (a : Scoped) → rows (as_answer a) ≡ scoped_rows a
unfolding rows as_answer scoped_rows
answer_rows a = refl

-- ---- at most

-- with the keys as they were
abbrev pub match_rows_most : List Numbered → ℕ
match_rows_most [] = 0
match_rows_most (g ∷ l) = suc (size g.group.first.key + length (members g.group)) + arms_rows g.armed.arms + match_rows_most l

pub match_rows_bound : (gs : List Numbered) → match_rows gs ≤ match_rows_most gs
unfolding match_rows
match_rows_bound [] = omega arith
match_rows_bound (g ∷ l) = omega (arith, fused_size (all_steps l) g.group.first.key, match_rows_bound l)
