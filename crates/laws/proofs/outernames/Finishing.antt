-- The order of statements takes each, so that it loses no symbol and brings in none; and so a scope reads from outside what its input reads, where the scopes of
-- its arms do (01, "Order", "Scoped fusion"). Assumes nothing.
use Prim.Native.Nat.{ℕ, suc, ◌≤◌}
use native.Mathlib.Omega.{arith}
use mathlib.Core.Path.{◌≡◌, refl, sym, ◌∙◌, subst}
use mathlib.Core.Logic.{inl, inr}
use mathlib.Core.Bool.{Bool, true, false}
use mathlib.Core.List.{List, [], ◌∷◌}
use lib.Dec.{T}
use Rattle.spec_tree.specs.Outcome.{Outcome, ok, refused, ◌>>=◌}
use Rattle.spec_tree.specs.Tree.{Name, Tree}
use Rattle.spec_rewrite.proofs.Counts.{well_formed_all}
use Rattle.spec_cse.specs.Extract.{State, extract_all, reciprocals}
use Rattle.spec_cse.specs.Answer.{Intermediate, block, all_symbols, free, free_stmts}
use Rattle.spec_cse.specs.Order.{topo_sort_intermediates}
use Rattle.spec_cse.specs.Scope.{Work, Scoped, fuse_all, unfused, finish}
use Rattle.laws.proofs.cse.Outcomes.{Good, then_good, good_ok}
use Rattle.laws.proofs.cse.SortCount.{summed, sorted_sum}
use Rattle.laws.proofs.cse.Symbols.{elem_cases, elem_here, elem_later, holds_all_at, Sub, sub_left, sub_right, sub_append, no_elem, holds_all_by}
use Rattle.laws.proofs.cse.ScopeValue.{under}
use Rattle.laws.specs.positions.Shown.{extract_all_by, reciprocals_by}
use Rattle.laws.proofs.outernames.Rounds.{Begun, begun, begun_by}
use Rattle.laws.proofs.outernames.Arms.{read_by, SameNames}
use Rattle.laws.proofs.outernames.Fusing.{Stmts, Reads, SameWork, unfused_same, fused_same}

-- ---- names that fail a test, counted

module _ (p : Name → Bool) where
  failing : List Name → ℕ
  failing [] = 0
  failing (n ∷ l) = elim (p n) [ true ↦ failing l | false ↦ suc (failing l) ]

  none_fails : (l : List Name) → Sub p l → failing l ≡ 0
  unfolding failing
  none_fails [] u = refl
  none_fails (n ∷ l) u = go (p n) (u n (elem_here n l)) (none_fails l (λ m t. u m (elem_later m n l t)))
    where
      go : (b : Bool) → T b → failing l ≡ 0 → ◌≡◌ {A = ℕ} (elim b [ true ↦ failing l | false ↦ suc (failing l) ]) 0
      go true t e = e
      go false t e = absurd t

  both_zero : (b : Bool) (k : ℕ) → ◌≡◌ {A = ℕ} (elim b [ true ↦ k | false ↦ suc k ]) 0 → T b × (k ≡ 0)
  both_zero true k e = (tt, e)
  both_zero false k e = absurd (omega arith)

  fails_none : (l : List Name) → failing l ≡ 0 → Sub p l
  unfolding failing
  fails_none [] e = λ m t. absurd (no_elem m t)
  fails_none (n ∷ l) e =
      let r = both_zero (p n) (failing l) e in
      λ m t. elim (elem_cases m n l t) [ inl q ↦ subst (λ (x : Name). T (p x)) q r.0 | inr u ↦ fails_none l r.1 m u ]

  abbrev stmt_fails : Intermediate → ℕ
  stmt_fails s = failing (free s)

  stmts_none : (l : List Intermediate) → Stmts p l → summed stmt_fails l ≡ 0
  unfolding summed
  stmts_none [] h = refl
  stmts_none (s ∷ l) h = (let a = none_fails (free s) h.0 in let b = stmts_none l h.1 in omega arith)

  none_stmts : (l : List Intermediate) → summed stmt_fails l ≡ 0 → Stmts p l
  unfolding summed
  none_stmts [] e = tt
  none_stmts (s ∷ l) e = (fails_none (free s) (omega arith), none_stmts l (omega arith))

  sorted_forth : (l r : List Intermediate) → topo_sort_intermediates l ≡ ok r → Stmts p l → Stmts p r
  sorted_forth l r e h = none_stmts r (sorted_sum stmt_fails l r e ∙ stmts_none l h)

  sorted_back : (l r : List Intermediate) → topo_sort_intermediates l ≡ ok r → Stmts p r → Stmts p l
  sorted_back l r e h = none_stmts l (sym (sorted_sum stmt_fails l r e) ∙ stmts_none r h)

  block_sub : (l : List Intermediate) → Stmts p l → Sub p (free_stmts (block l))
  unfolding free_stmts block
  block_sub [] h = λ n t. absurd (no_elem n t)
  block_sub (s ∷ l) h = sub_append p (free s) (free_stmts (block l)) h.0 (block_sub l h.1)

  sub_block : (l : List Intermediate) → Sub p (free_stmts (block l)) → Stmts p l
  unfolding free_stmts block
  sub_block [] u = tt
  sub_block (s ∷ l) u = (sub_left p (free s) (free_stmts (block l)) u, sub_block l (sub_right p (free s) (free_stmts (block l)) u))

-- ---- the end of a scope

module _ (start low : ℕ) (es : List Tree) (from : start ≤ low) (w : Work) (W : SameWork start low es w) where
  abbrev done : List Intermediate → Scoped
  done l = record { inters = l; results = w.results; next = w.next; extracted = w.extracted }

  reads_sub : (p : Name → Bool) (l : List Intermediate) → topo_sort_intermediates w.inters ≡ ok l → Reads p w → Sub p (read_by (done l))
  reads_sub p l e h =
      sub_append p (free_stmts (block l)) (all_symbols w.results) (block_sub p l (sorted_forth p w.inters l e h.0)) (λ n t. holds_all_at p w.results n h.1 t)

  sub_reads : (p : Name → Bool) (l : List Intermediate) → topo_sort_intermediates w.inters ≡ ok l → Sub p (read_by (done l)) → Reads p w
  sub_reads p l e u = (
    sorted_back p w.inters l e (sub_block p l (sub_left p (free_stmts (block l)) (all_symbols w.results) u)),
    holds_all_by p w.results (sub_right p (free_stmts (block l)) (all_symbols w.results) u),
  )

  pub finish_same : Good (SameNames start es) (finish w)
  unfolding finish
  finish_same = go (topo_sort_intermediates w.inters) refl
    where
      go : (o : Outcome (List Intermediate)) → topo_sort_intermediates w.inters ≡ o → Good (SameNames start es) (o >>= λ l. ok (done l))
      go (refused i) e = (unfold Good in tt)
      go (ok l) e =
          good_ok (SameNames start es) (done l)
          (record {
            later = (let x = W.later in omega arith);
            back = λ p u. W.back p (sub_reads p l e u);
            forth = λ q new h. reads_sub q l e (W.forth q new h);
            top = λ h. reads_sub (under w.next) l e (W.top h);
          })

-- ---- a scope, where its arms' scopes are so

then_at : {A B : Type 0} (Q : B → Type 0) (o : Outcome A) (f : A → Outcome B) → ((a : A) → o ≡ ok a → Good Q (f a)) → Good Q (o >>= f)
then_at Q (ok a) f g = g a refl
then_at Q (refused i) f g = (unfold Good in tt)

-- after rounds and reciprocals: fusion and order
pub fused_finished :
    (scope : ℕ → List Tree → Outcome Scoped) → ((start : ℕ) (es : List Tree) → T (well_formed_all es) → Good (SameNames start es) (scope start es))
    → (start : ℕ) (es : List Tree) (x : ℕ) (s : State) → Begun start es s → Good (SameNames start es) (fuse_all scope x s >>= λ w. finish w)
fused_finished scope ih start es x s B =
    then_good (SameWork start s.next es) (SameNames start es) (fuse_all scope x s) (fused_same scope ih start es x s B) _ (λ w W. finish_same start s.next es B.later w W)

-- order alone
pub plain_finished : (start : ℕ) (es : List Tree) (x : ℕ) (s : State) → Begun start es s → Good (SameNames start es) (finish (unfused x s))
plain_finished start es x s B = finish_same start s.next es B.later (unfused x s) (unfused_same start es x s B)

-- from the input on, whatever the texts of trees are and whatever is done with the roots
pub from_input_by :
    (shown : Tree → List ℕ) (scoped : Bool) (start : ℕ) (es : List Tree) → T (well_formed_all es) → (next : State → Outcome Scoped)
    → ((s : State) → Begun start es (reciprocals_by shown scoped s) → Good (SameNames start es) (next s)) → Good (SameNames start es) (extract_all_by shown scoped start es >>= next)
from_input_by shown scoped start es w next f =
    then_at (SameNames start es) (extract_all_by shown scoped start es) next (λ s e. f s (begun_by shown scoped start es s e w))

-- with the texts of `Display`
pub from_input :
    (scoped : Bool) (start : ℕ) (es : List Tree) → T (well_formed_all es) → (next : State → Outcome Scoped)
    → ((s : State) → Begun start es (reciprocals scoped s) → Good (SameNames start es) (next s)) → Good (SameNames start es) (extract_all scoped start es >>= next)
from_input scoped start es w next f = then_at (SameNames start es) (extract_all scoped start es) next (λ s e. f s (begun scoped start es w s e))
