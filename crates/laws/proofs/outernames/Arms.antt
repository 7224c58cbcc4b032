-- What the arms of a match read from outside is what their inputs read, where each arm's scope is so: then what a match needs can be told from its members' arms
-- as they were collected (01, "Order", "Scoped fusion"). Assumes nothing.
use Prim.Native.Nat.{ℕ, ◌+◌, ◌≤◌}
use native.Mathlib.Omega.{arith}
use mathlib.Core.Path.{◌≡◌, sym, ◌∙◌, ap, subst}
use mathlib.Core.Logic.{◌⊎◌, inl, inr}
use mathlib.Core.Bool.{Bool, true, false, not, ◌||◌}
use mathlib.Core.List.{List, [], ◌∷◌, ◌++◌}
use lib.ListN.{length}
use lib.Dec.{T}
use Rattle.spec_tree.specs.Outcome.{Outcome}
use Rattle.spec_tree.specs.Tree.{Name, Tree, eq_name}
use Rattle.spec_tree.proofs.TreeLaws.{eq_name_sound, eq_name_refl}
use Rattle.spec_rewrite.proofs.Counts.{well_formed_all}
use Rattle.spec_rewrite.proofs.Names.{holds_all}
use Rattle.spec_cse.specs.Answer.{Arms, Match, no_arm, arm, block, symbols, all_symbols, free, free_stmts, free_arms, elem}
use Rattle.spec_cse.specs.Scope.{Group, Scoped, Armed, members, arms_of_members, scope_arms}
use Rattle.laws.proofs.cse.Outcomes.{Good, then_good, good_ok}
use Rattle.laws.proofs.cse.Symbols.{decide, elem_left, elem_right, elem_append, holds_all_at, Sub, sub_left, sub_right, sub_append, no_elem, holds_all_by}
use Rattle.laws.proofs.cse.SwitchLaws.{FairGroup, AllHold}
use Rattle.laws.proofs.cse.ScopeValue.{under, under_le, hold_more}
use Rattle.laws.proofs.outernames.Rounds.{New}
use Rattle.laws.proofs.outernames.Switches.{AllFormed, columns_forth, group_columns, group_arms_back}
use Rattle.spec_tree.proofs.Logic.{or_left, or_right, or_cases, same_test}

-- ---- tests that only one name fails

unfoldable pub apart : Name → Name → Bool
unfolding eq_name
apart n m = not (eq_name m n)

not_so : (b : Bool) → (T b → ⊥) → T (not b)
not_so true f = f tt
not_so false f = tt

so_not : (b : Bool) → T b → T (not b) → ⊥
so_not true t u = u
so_not false t u = t

apart_self : (n : Name) → T (apart n n) → ⊥
unfolding apart
apart_self n t = so_not (eq_name n n) (eq_name_refl n) t

-- what a list lacks, and what lacks it
pub lacks_sub : (n : Name) (ns : List Name) → (T (elem n ns) → ⊥) → Sub (apart n) ns
unfolding apart
lacks_sub n ns f m t = not_so (eq_name m n) (λ u. f (subst (λ (x : Name). T (elem x ns)) (eq_name_sound m n u) t))

pub sub_lacks : (n : Name) (ns : List Name) → Sub (apart n) ns → T (elem n ns) → ⊥
sub_lacks n ns u t = apart_self n (u n t)

pub apart_new : (start : ℕ) (n : Name) → T (under start n) → New start (apart n)
unfolding apart
apart_new start n u m f = not_so (eq_name m n) (λ t. f (subst (λ (x : Name). T (under start x)) (sym (eq_name_sound m n t)) u))

-- two lists that pass the same of these tests hold the name or don't
pub elem_same : (n : Name) (s t : List Name) → (Sub (apart n) s → Sub (apart n) t) → (Sub (apart n) t → Sub (apart n) s) → elem n s ≡ elem n t
elem_same n s t f g = same_test (elem n s) (elem n t) (along s t g) (along t s f)
  where
    along : (s t : List Name) → (Sub (apart n) t → Sub (apart n) s) → T (elem n s) → T (elem n t)
    along s t h u = elim (decide (elem n t)) [ inl v ↦ v | inr v ↦ absurd (sub_lacks n s (h (lacks_sub n t v)) u) ]

pub elem_or : (n : Name) (s t : List Name) → elem n (s ++ t) ≡ (elem n s || elem n t)
elem_or n s t =
    same_test (elem n (s ++ t)) (elem n s || elem n t)
    (λ u. elim (elem_append n s t u) [ inl a ↦ or_left (elem n s) (elem n t) a | inr b ↦ or_right (elem n s) (elem n t) b ])
    (λ u. elim (or_cases (elem n s) (elem n t) u) [ inl a ↦ elem_left n s t a | inr b ↦ elem_right n s t b ])

-- ---- the symbols of several inputs

unfoldable pub column_symbols : List (List Tree) → List Name
unfolding all_symbols
column_symbols [] = []
column_symbols (l ∷ ls) = all_symbols l ++ column_symbols ls

pub columns_by : (p : Name → Bool) (ls : List (List Tree)) → Sub p (column_symbols ls) → AllHold p ls
unfolding column_symbols
columns_by p [] u = tt
columns_by p (l ∷ ls) u = (
  holds_all_by p l (sub_left p (all_symbols l) (column_symbols ls) u),
  columns_by p ls (sub_right p (all_symbols l) (column_symbols ls) u),
)

pub columns_at : (p : Name → Bool) (ls : List (List Tree)) → AllHold p ls → Sub p (column_symbols ls)
unfolding column_symbols
columns_at p [] h = λ n t. absurd (no_elem n t)
columns_at p (l ∷ ls) h = sub_append p (all_symbols l) (column_symbols ls) (λ n t. holds_all_at p l n h.0 t) (columns_at p ls h.1)

-- ---- what a scope reads

-- every symbol that a scope's statements and results hold
abbrev pub read_by : Scoped → List Name
read_by a = free_stmts (block a.inters) ++ all_symbols a.results

-- nothing of its input is lost, and nothing but its own names comes in
pub record SameNames (start : ℕ) (es : List Tree) (a : Scoped) : Type 0 where
  pub later : start ≤ a.next
  pub back : (p : Name → Bool) → Sub p (read_by a) → T (holds_all p es)
  pub forth : (q : Name → Bool) → New start q → T (holds_all q es) → Sub q (read_by a)
  pub top : T (holds_all (under start) es) → Sub (under a.next) (read_by a)

pub record SameArms (start : ℕ) (ls : List (List Tree)) (a : Armed) : Type 0 where
  pub later : start ≤ a.next
  pub back : (p : Name → Bool) → Sub p (free_arms a.arms) → AllHold p ls
  pub forth : (q : Name → Bool) → New start q → AllHold q ls → Sub q (free_arms a.arms)
  pub top : AllHold (under start) ls → Sub (under a.next) (free_arms a.arms)

pub new_later : (start k : ℕ) → start ≤ k → (q : Name → Bool) → New start q → New k q
new_later start k h q new n f = new n (λ t. f (under_le start k h n t))

arm_same :
    (start : ℕ) (es : List Tree) (ls : List (List Tree)) (a : Scoped) (r : Armed) → SameNames start es a → SameArms a.next ls r
    → SameArms start (es ∷ ls) (record { arms = arm (block a.inters) a.results r.arms; next = r.next; extracted = a.extracted + r.extracted })
unfolding free_stmts
arm_same start es ls a r A B =
    let s = free_stmts (block a.inters) in
    let v = all_symbols a.results in
    let f = free_arms r.arms in
    record {
      later = (let x = A.later in let y = B.later in omega arith);
      back = λ p u. (
        A.back p (sub_append p s v (sub_left p s (v ++ f) u) (sub_left p v f (sub_right p s (v ++ f) u))),
        B.back p (sub_right p v f (sub_right p s (v ++ f) u)),
      );
      forth = λ q new h.
          let g = A.forth q new h.0 in
          sub_append q s (v ++ f) (sub_left q s v g) (sub_append q v f (sub_right q s v g) (B.forth q (new_later start a.next A.later q new) h.1));
      top = λ h.
          let g : Sub (under r.next) (s ++ v) = λ n t. under_le a.next r.next B.later n (A.top h.0 n t) in
          sub_append (under r.next) s (v ++ f) (sub_left (under r.next) s v g)
          (sub_append (under r.next) v f (sub_right (under r.next) s v g) (B.top (hold_more (under start) (under a.next) (under_le start a.next A.later) ls h.1)));
    }

module _ (scope : ℕ → List Tree → Outcome Scoped) (ih : (start : ℕ) (es : List Tree) → T (well_formed_all es) → Good (SameNames start es) (scope start es)) where
  pub arms_same : (ls : List (List Tree)) (start : ℕ) → AllFormed ls → Good (SameArms start ls) (scope_arms scope start ls)
  unfolding scope_arms
  arms_same [] start w =
      good_ok (SameArms start []) (record { arms = no_arm; next = start; extracted = 0 })
      (record { later = omega arith; back = λ p u. tt; forth = λ q new h n t. absurd (no_elem n (unfold free_stmts in t)); top = λ h n t. absurd (no_elem n (unfold free_stmts in t)) })
  arms_same (es ∷ ls) start w =
      then_good (SameNames start es) (SameArms start (es ∷ ls)) (scope start es) (ih start es w.0) _
      (λ a A. then_good (SameArms a.next ls) (SameArms start (es ∷ ls)) (scope_arms scope a.next ls) (arms_same ls a.next w.1) _
      (λ r B. good_ok (SameArms start (es ∷ ls)) (record { arms = arm (block a.inters) a.results r.arms; next = r.next; extracted = a.extracted + r.extracted })
      (arm_same start es ls a r A B)))

-- ---- as tests that are equal

-- a name from outside a scope is read there exactly where the input holds it
pub scope_elem : (start : ℕ) (es : List Tree) (a : Scoped) → SameNames start es a → (n : Name) → T (under start n) → elem n (read_by a) ≡ elem n (all_symbols es)
scope_elem start es a A n u =
    elem_same n (read_by a) (all_symbols es) (λ s m t. holds_all_at (apart n) es m (A.back (apart n) s) t)
    (λ s. A.forth (apart n) (apart_new start n u) (holds_all_by (apart n) es s))

pub arms_elem : (start : ℕ) (ls : List (List Tree)) (a : Armed) → SameArms start ls a → (n : Name) → T (under start n) → elem n (free_arms a.arms) ≡ elem n (column_symbols ls)
arms_elem start ls a A n u =
    elem_same n (free_arms a.arms) (column_symbols ls) (λ s. columns_at (apart n) ls (A.back (apart n) s))
    (λ s. A.forth (apart n) (apart_new start n u) (columns_by (apart n) ls s))

-- A name that was there before a scope's first number, or comes from its next on: none that the scope makes.
abbrev pub Outside : ℕ → ℕ → Name → Type 0
Outside start next n = T (under start n) ⊎ (T (under next n) → ⊥)

none_there : (n : Name) (s t : List Name) → (T (elem n s) → ⊥) → (T (elem n t) → ⊥) → elem n s ≡ elem n t
none_there n s t f g = same_test (elem n s) (elem n t) (λ u. absurd (f u)) (λ u. absurd (g u))

pub scope_elem_any :
    (start : ℕ) (es : List Tree) (a : Scoped) → SameNames start es a → T (holds_all (under start) es) → (n : Name) → Outside start a.next n → elem n (read_by a) ≡ elem n (all_symbols es)
scope_elem_any start es a A h n (inl u) = scope_elem start es a A n u
scope_elem_any start es a A h n (inr f) =
    none_there n (read_by a) (all_symbols es) (λ t. f (A.top h n t)) (λ t. f (under_le start a.next A.later n (holds_all_at (under start) es n h t)))

pub arms_elem_any :
    (start : ℕ) (ls : List (List Tree)) (a : Armed) → SameArms start ls a → AllHold (under start) ls → (n : Name) → Outside start a.next n
    → elem n (free_arms a.arms) ≡ elem n (column_symbols ls)
arms_elem_any start ls a A h n (inl u) = arms_elem start ls a A n u
arms_elem_any start ls a A h n (inr f) =
    none_there n (free_arms a.arms) (column_symbols ls) (λ t. f (A.top h n t)) (λ t. f (under_le start a.next A.later n (columns_at (under start) ls h n t)))

pub free_match : (n : Name) (k : ℕ) (key : Tree) (ns : List Name) (arms : Arms) → elem n (free (Match k key ns arms)) ≡ (elem n (symbols key) || elem n (free_arms arms))
unfolding free
free_match n k key ns arms = elem_or n (symbols key) (free_arms arms)

-- a match reads a name from outside exactly where its key or the inputs of its arms hold it
pub match_elem :
    (arms : Arms) (ls : List (List Tree)) (n : Name) → elem n (free_arms arms) ≡ elem n (column_symbols ls) → (k : ℕ) (key : Tree) (ns : List Name)
    → elem n (free (Match k key ns arms)) ≡ (elem n (symbols key) || elem n (column_symbols ls))
match_elem arms ls n e k key ns = free_match n k key ns arms ∙ ap (λ (b : Bool). elem n (symbols key) || b) e

-- the columns of a group hold what its members' arms hold
pub columns_elem : (g : Group) → FairGroup (λ n. true) g → (n : Name) → elem n (column_symbols (group_columns g)) ≡ elem n (column_symbols (arms_of_members (members g)))
columns_elem g f n =
    elem_same n (column_symbols (group_columns g)) (column_symbols (arms_of_members (members g)))
    (λ s. columns_at (apart n) (arms_of_members (members g)) (group_arms_back (apart n) g f (columns_by (apart n) (group_columns g) s)))
    (λ s. columns_at (apart n) (group_columns g) (columns_forth (apart n) (length g.first.arms) (arms_of_members (members g)) (columns_by (apart n) (arms_of_members (members g)) s)))
