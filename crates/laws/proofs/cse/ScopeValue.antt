-- Both answers have the input's values: the second clause of demand 3. One environment serves a whole scope: it holds each `__xN`'s expression's
-- value and each `__mN`'s switch's value, and every statement leaves it as it is. The depth of nesting is the induction's measure. Assumes nothing.
use Prim.Native.Nat.{ℕ, ◌+◌, zero, suc, ◌%◌, ◌≤◌, ◌<◌}
use mathlib.Core.Path.{◌≡◌, refl, sym, ◌∙◌, ap, ap₂, subst}
use mathlib.Core.Logic.{◌⊎◌, inl, inr}
use mathlib.Core.Bool.{Bool, true, false, not, ◌&&◌, cond}
use mathlib.Core.List.{List, [], ◌∷◌, ◌++◌, reverse, append_assoc}
use native.Mathlib.Omega.{arith}
use lib.ListN.{length, get_or, get_or-eq_default}
use lib.Dec.{T, eqb, ltb, ltb→lt, lt→ltb, nltb→le, not_T, eqb→eq, eqb_refl}
use Rattle.spec_tree.specs.Outcome.{Outcome, ok, refused, ◌>>=◌, by}
use Rattle.spec_tree.specs.Tree.{Name, input, xname, mname, Tree, Sym}
use Rattle.spec_cse.specs.Extract.{Binding, State, extract_all, reciprocals, roots}
use Rattle.spec_cse.specs.Answer.{Intermediate, Arms, Answer, Let, Match, arm, block, names, symbols, all_symbols, free, free_stmts, free_arms, elem}
use Rattle.spec_cse.specs.Order.{needs, positions_taken, nothing, at_each, topo_sort_intermediates}
use Rattle.laws.proofs.cse.OrderLaws.{All, Taken, taken_ok}
use Rattle.spec_rewrite.specs.Rewrite.{replace_outside_arms}
use Rattle.spec_cse.specs.Scope.{Switch, Group, Work, Scoped, Armed, members, collect_switches, groups_from, replace_in_results, replace_in_stmts, name_members, member_names, columns, arms_of_members, scope_arms, fuse_group, fuse_groups, fuse_all, binds, unfused, finish, cse_scope, left_after, opens, area_rows, scopes_open, fuse_held, as_answer, answer}
use Rattle.spec_tree.specs.Value.{Reading, Env, value, values, choice}
use Rattle.spec_cse.specs.Read.{set, set_each, arm_count, read_stmt, read_stmts, read_arm, answer_values}
use Rattle.spec_tree.proofs.Logic.{and_left, and_right}
use Rattle.spec_rewrite.proofs.Names.{holds, holds_all, below, weaken, weaken_all, value_same, values_same}
use Rattle.spec_rewrite.proofs.ReplaceValue.{value_reduced}
use Rattle.spec_rewrite.proofs.DivisorValue.{replace_outside_arms_keeps}
use Rattle.laws.proofs.cse.RoundsValue.{let_names, Numbered, Binds, Model, Modeled, extract_all_keeps, reciprocals_keep, roots_known}
use Rattle.laws.proofs.cse.Symbols.{decide, elem_cases, elem_here, elem_later, elem_left, elem_right, holds_by, holds_at, holds_all_at, Sub, sub_left, sub_right, sub_append, no_elem, all_names}
use Rattle.laws.proofs.cse.ReadLaws.{needs_length, Like, set_apart, set_at, Fits, set_fits, set_each_fits, read_apart, stmt_like, free_back, sorted_reads}
use Rattle.laws.proofs.cse.SwitchLaws.{outside_holds, results_hold, FairGroup, FairGroups, groups_fair, LikeFirst, AllLike, members_like, first_key_known, AllHold, group_columns_known, length_columns, length_values, switch_value, values_each, picked, AllLong, column_at, column_past}
use Rattle.laws.proofs.cse.ScopeRoom.{or_no_room, or_not_held}

-- ---- names with numbers below k, and the list's symbols

abbrev pub under : ℕ → Name → Bool
under k = below (λ s. true) k k

pub under_le : (k l : ℕ) → k ≤ l → (n : Name) → T (under k n) → T (under l n)
unfolding below
under_le k l h (input s) t = tt
under_le k l h (xname i) t = lt→ltb i l (let q = ltb→lt i k t in omega arith)
under_le k l h (mname i) t = lt→ltb i l (let q = ltb→lt i k t in omega arith)

pub under_m : (k : ℕ) → T (under (suc k) (mname k))
unfolding below
under_m k = lt→ltb k (suc k) (omega arith)

-- in a scope, the names of its bindings and those around it
pub under_below : (inp : List ℕ → Bool) (j k : ℕ) → j ≤ k → (n : Name) → T (below inp j k n) → T (under k n)
unfolding below
under_below inp j k h (input s) t = tt
under_below inp j k h (xname i) t = t
under_below inp j k h (mname i) t = lt→ltb i k (let q = ltb→lt i j t in omega arith)

sub_le : (k l : ℕ) → k ≤ l → (ns : List Name) → Sub (under k) ns → Sub (under l) ns
sub_le k l h ns u n t = under_le k l h n (u n t)

mname_not_under : (k j : ℕ) → k ≤ j → T (under k (mname j)) → ⊥
unfolding below
mname_not_under k j h t = let q = ltb→lt j k t in omega arith

-- names to come are not among those there
pub names_to_come : (k j : ℕ) (ms : List Switch) (n : Name) → k ≤ j → T (elem n (member_names j ms)) → T (under k n) → ⊥
unfolding member_names
names_to_come k j [] n h t u = no_elem n t
names_to_come k j (s ∷ ms) n h t u =
    elim (elem_cases n (mname j) (member_names (suc j) ms) t) [
      | inl e ↦ mname_not_under k j h (subst (λ (y : Name). T (under k y)) (sym e) u)
      | inr v ↦ names_to_come k (suc j) ms n (omega arith) v u
    ]

pub all_names_append : (l r : List Intermediate) → all_names (l ++ r) ≡ all_names l ++ all_names r
unfolding all_names
all_names_append [] r = refl
all_names_append (s ∷ l) r = ap {B = List Name} (λ x. names s ++ x) (all_names_append l r) ∙ sym (append_assoc (names s) (all_names l) (all_names r))

names_replaced : (m : Tree) (n : Name) (l : List Intermediate) → all_names (replace_in_stmts m n l) ≡ all_names l
unfolding all_names replace_in_stmts names
names_replaced m n [] = refl
names_replaced m n (Let a e ∷ l) = ap {B = List Name} (λ x. a ∷ x) (names_replaced m n l)
names_replaced m n (Match k key ns arms ∷ l) = ap {B = List Name} (λ x. ns ++ x) (names_replaced m n l)

-- the work after one member is named
abbrev pub one_named : Switch → Work → Work
one_named s w =
    record { results = replace_in_results s.tree (mname w.next) w.results; inters = replace_in_stmts s.tree (mname w.next) w.inters; next = suc w.next; extracted = w.extracted }

pub names_kept : (ms : List Switch) (w : Work) → all_names (name_members ms w).inters ≡ all_names w.inters
unfolding name_members
names_kept [] w = refl
names_kept (s ∷ ms) w =
    names_kept ms (one_named s w) ∙ names_replaced s.tree (mname w.next) w.inters

pub name_members_later : (ms : List Switch) (w : Work) → w.next ≤ (name_members ms w).next
unfolding name_members
name_members_later [] w = omega arith
name_members_later (s ∷ ms) w =
    let q = name_members_later ms (one_named s w) in omega arith

pub names_made : (ms : List Switch) (w : Work) (n : Name) → T (elem n (member_names w.next ms)) → T (under (name_members ms w).next n)
unfolding member_names name_members
names_made [] w n t = absurd (no_elem n t)
names_made (s ∷ ms) w n t =
    let w1 : Work = one_named s w in
    elim (elem_cases n (mname w.next) (member_names (suc w.next) ms) t) [
      | inl e ↦ subst (λ (y : Name). T (under (name_members ms w1).next y)) e
          (under_le (suc w.next) (name_members ms w1).next (name_members_later ms w1) (mname w.next) (under_m w.next))
      | inr u ↦ names_made ms w1 n u
    ]

match_name : (k : ℕ) (key : Tree) (arms : Arms) (n : Name) (ns : List Name) → T (elem n ns) → T (elem n (all_names (Match k key ns arms ∷ [])))
unfolding all_names names
match_name k key arms n ns t = elem_left n ns [] t

abbrev pub AllTrees : (Name → Bool) → List Switch → Type 0
AllTrees p [] = Unit {0}
AllTrees p (s ∷ l) = T (holds p s.tree) × AllTrees p l

pub trees_more : (p q : Name → Bool) → ((n : Name) → T (p n) → T (q n)) → (l : List Switch) → AllTrees p l → AllTrees q l
trees_more p q i [] h = tt
trees_more p q i (s ∷ l) h = (weaken p q i s.tree h.0, trees_more p q i l h.1)

pub like_trees : (p : Name → Bool) (a : Switch) (l : List Switch) → AllLike p a l → AllTrees p l
like_trees p a [] h = tt
like_trees p a (s ∷ l) h = (h.0.fair.known, like_trees p a l h.1)

pub hold_more : (p q : Name → Bool) → ((n : Name) → T (p n) → T (q n)) → (ls : List (List Tree)) → AllHold p ls → AllHold q ls
hold_more p q i [] h = tt
hold_more p q i (l ∷ ls) h = (weaken_all p q i l h.0, hold_more p q i ls h.1)

pub bind_names : (l : List Binding) → all_names (binds l) ≡ let_names l
unfolding all_names binds let_names names
bind_names [] = refl
bind_names (b ∷ l) = ap {B = List Name} (λ x. b.name ∷ x) (bind_names l)

pub numbered_elem : (k top i : ℕ) (l : List Name) → Numbered k top l → k ≤ i → i < top → T (elem (xname i) l)
numbered_elem k top i [] h a b = absurd (omega arith)
numbered_elem k top i (n ∷ l) h a b =
    elim (decide (eqb i k)) [
      | inl t ↦ subst (λ (y : Name). T (elem y (n ∷ l))) (h.0 ∙ ap xname (sym (eqb→eq i k t))) (elem_here n l)
      | inr t ↦ elem_later (xname i) n l (numbered_elem (suc k) top i l h.1 (let q : i ≡ k → ⊥ = λ e. t (subst (λ (j : ℕ). T (eqb i j)) e (eqb_refl i)) in omega arith) b)
    ]

module _ (R : Reading) where
  reduce : {a b : ℕ} → a ≡ b → Like R a b
  reduce e = ap (λ (v : ℕ). v % R.modulus) e

  -- ---- statements that leave an environment as it is

  abbrev Fixed : Env → Intermediate → Type 0
  Fixed σ s = (n : Name) → Like R (read_stmt R s σ n) (σ n)

  abbrev Good : ℕ → Env → List Intermediate → Type 0
  Good k σ [] = Unit {0}
  Good k σ (s ∷ l) = (Fixed σ s × Sub (under k) (free s) × Sub (under k) (names s)) × Good k σ l

  fixed_more : (p : Name → Bool) (s : Intermediate) (σ τ : Env) → Sub p (free s) → Sub p (names s) → ((n : Name) → T (p n) → τ n ≡ σ n) → Fixed σ s → Fixed τ s
  fixed_more p s σ τ u v same f n =
      elim (decide (elem n (names s))) [
        | inl t ↦ stmt_like R p s τ σ u (λ x h. reduce (same x h)) n (λ g. absurd (g t)) ∙ f n ∙ reduce (sym (same n (v n t)))
        | inr t ↦ reduce (read_apart R s τ n t)
      ]

  good_more : (k j : ℕ) (σ τ : Env) → k ≤ j → ((n : Name) → T (under k n) → τ n ≡ σ n) → (l : List Intermediate) → Good k σ l → Good j τ l
  good_more k j σ τ h same [] g = tt
  good_more k j σ τ h same (s ∷ l) g = (
    (fixed_more (under k) s σ τ g.0.1 g.0.2 same g.0.0, sub_le k j h (free s) g.0.1, sub_le k j h (names s) g.0.2),
    good_more k j σ τ h same l g.1,
  )

  good_append : (k : ℕ) (σ : Env) (l r : List Intermediate) → Good k σ l → Good k σ r → Good k σ (l ++ r)
  good_append k σ [] r g h = h
  good_append k σ (s ∷ l) r g h = (g.0, good_append k σ l r g.1 h)

  good_at : (k : ℕ) (σ : Env) (l : List Intermediate) → Good k σ l → (i : ℕ) → i < length l → Fixed σ (get_or l i nothing) × Sub (under k) (free (get_or l i nothing))
  good_at k σ [] g i h = absurd (omega arith)
  good_at k σ (s ∷ l) g zero h = (g.0.0, g.0.1)
  good_at k σ (s ∷ l) g (suc i) h = good_at k σ l g.1 i (omega arith)

  module _ (k : ℕ) (σ : Env) (m : Tree) (n : Name) (h : value R σ (Sym n) ≡ value R σ m) (new : T (under k n)) where
    symbols_replaced : (e : Tree) → Sub (under k) (symbols e) → Sub (under k) (symbols (replace_outside_arms m n e))
    symbols_replaced e u x t = holds_at (under k) (replace_outside_arms m n e) x (outside_holds (under k) m n new e (holds_by (under k) e u)) t

    good_replaced : (l : List Intermediate) → Good k σ l → Good k σ (replace_in_stmts m n l)
    unfolding replace_in_stmts read_stmt free names
    good_replaced [] g = tt
    good_replaced (Let a e ∷ l) g = (
      (
        (λ x. subst (λ (v : ℕ). Like R (set σ a v x) (σ x)) (sym (replace_outside_arms_keeps R σ m n h e)) (g.0.0 x)),
        symbols_replaced e g.0.1,
        g.0.2,
      ),
      good_replaced l g.1,
    )
    good_replaced (Match c key ns arms ∷ l) g = (
      (
        (λ x.
            subst (λ (v : ℕ). Like R (set_each σ ns (read_arm R arms (choice R c (arm_count arms) v) σ) x) (σ x)) (sym (replace_outside_arms_keeps R σ m n h key)) (g.0.0 x)),
        sub_append (under k) (symbols (replace_outside_arms m n key)) (free_arms arms)
            (symbols_replaced key (sub_left (under k) (symbols key) (free_arms arms) g.0.1)) (sub_right (under k) (symbols key) (free_arms arms) g.0.1),
        g.0.2,
      ),
      good_replaced l g.1,
    )

    results_keep : (l : List Tree) → values R σ (replace_in_results m n l) ≡ values R σ l
    unfolding values replace_in_results
    results_keep [] = refl
    results_keep (t ∷ l) = ap₂ ◌∷◌ (replace_outside_arms_keeps R σ m n h t) (results_keep l)

  -- ---- naming a group's members

  abbrev Tagged : Env → ℕ → List Switch → Type 0
  Tagged σ k [] = Unit {0}
  Tagged σ k (s ∷ l) = (σ (mname k) ≡ value R σ s.tree) × Tagged σ (suc k) l

  module _ (vs : List ℕ) where
    record Kept (w : Work) (σ : Env) : Type 0 where
      results : values R σ w.results ≡ vs
      known : T (holds_all (under w.next) w.results)
      good : Good w.next σ w.inters

    record Named (ms : List Switch) (w : Work) (σ : Env) : Type 0 where
      env : Env
      kept : Kept (name_members ms w) env
      same : (n : Name) → (T (elem n (member_names w.next ms)) → ⊥) → env n ≡ σ n
      tagged : Tagged env w.next ms
      later : w.next ≤ (name_members ms w).next

    -- one member more
    module _ (s : Switch) (w : Work) (σ : Env) (K : Kept w σ) (h : T (holds (under w.next) s.tree)) where
      with_name : Env
      with_name = set σ (mname w.next) (value R σ s.tree)

      with_same : (n : Name) → T (under w.next n) → with_name n ≡ σ n
      unfolding with_name
      with_same n t = set_apart R σ (mname w.next) _ n (λ e. mname_not_under w.next w.next (omega arith) (subst (λ (y : Name). T (under w.next y)) e t))

      with_value : with_name (mname w.next) ≡ value R σ s.tree
      unfolding with_name
      with_value = set_at R σ (mname w.next) (value R σ s.tree)

      named_value : value R with_name (Sym (mname w.next)) ≡ value R with_name s.tree
      unfolding value
      named_value = reduce with_value ∙ value_reduced R σ s.tree ∙ sym (value_same R (under w.next) with_name σ with_same s.tree h)

      more : (n : Name) → T (under w.next n) → T (under (suc w.next) n)
      more = under_le w.next (suc w.next) (omega arith)

      one_kept : Kept (one_named s w) with_name
      one_kept =
          record {
            results =
                results_keep (suc w.next) with_name s.tree (mname w.next) named_value (under_m w.next) w.results
                ∙ values_same R (under w.next) with_name σ with_same w.results K.known ∙ K.results;
            known =
                results_hold (under (suc w.next)) s.tree (mname w.next) (under_m w.next) w.results
                (weaken_all (under w.next) (under (suc w.next)) more w.results K.known);
            good =
                good_replaced (suc w.next) with_name s.tree (mname w.next) named_value (under_m w.next) w.inters
                (good_more w.next (suc w.next) σ with_name (omega arith) with_same w.inters K.good);
          }

    named : (ms : List Switch) (w : Work) (σ : Env) → Kept w σ → AllTrees (under w.next) ms → Named ms w σ
    unfolding name_members member_names with_name
    named [] w σ K h = record { env = σ; kept = K; same = λ n f. refl; tagged = tt; later = omega arith }
    named (s ∷ ms) w σ K h =
        let k = w.next in
        let w1 : Work = one_named s w in
        let σ1 = with_name s w σ K h.0 in
        let r : Named ms w1 σ1 = named ms w1 σ1 (one_kept s w σ K h.0) (trees_more (under k) (under (suc k)) (under_le k (suc k) (omega arith)) ms h.1) in
        let old : (n : Name) → T (under (suc k) n) → r.env n ≡ σ1 n = λ n t. r.same n (λ u. names_to_come (suc k) (suc k) ms n (omega arith) u t) in
        let before : (n : Name) → T (under k n) → r.env n ≡ σ n = λ n t. old n (under_le k (suc k) (omega arith) n t) ∙ with_same s w σ K h.0 n t in
        record {
          env = r.env;
          kept = r.kept;
          same = λ n f.
              r.same n (λ t. f (elem_later n (mname k) (member_names (suc k) ms) t))
              ∙ set_apart R σ (mname k) (value R σ s.tree) n (λ e. f (subst (λ (y : Name). T (elem n (y ∷ member_names (suc k) ms))) e (elem_here n (member_names (suc k) ms))));
          tagged = (
            old (mname k) (under_m k) ∙ with_value s w σ K h.0 ∙ sym (value_same R (under k) r.env σ before s.tree h.0),
            r.tagged,
          );
          later = (let q = r.later in omega arith);
        }

  -- ---- a match leaves the environment as it is

  module _ (σ : Env) (p : Name → Bool) (a : Switch) where
    choice_of : ℕ
    choice_of = choice R a.kind (length a.arms) (value R σ a.key)

    member_value : (s : Switch) → LikeFirst p a s → value R σ s.tree ≡ get_or (values R σ s.arms) choice_of 0 % R.modulus
    unfolding choice_of
    member_value s l =
        let f = l.fair in
        ap (value R σ) f.is ∙ switch_value R σ s.kind s.key f.rest f.switch
        ∙ ap (λ (x : List Tree). get_or (values R σ x) (choice R s.kind (length x) (value R σ s.key)) 0 % R.modulus) f.arms
        ∙ ap (λ (k : ℕ). get_or (values R σ s.arms) (choice R k (length s.arms) (value R σ s.key)) 0 % R.modulus) l.kind
        ∙ ap (λ (k : ℕ). get_or (values R σ s.arms) (choice R a.kind k (value R σ s.key)) 0 % R.modulus) l.count
        ∙ ap (λ (k : Tree). get_or (values R σ s.arms) (choice R a.kind (length a.arms) (value R σ k)) 0 % R.modulus) l.key

    member_like : (k : ℕ) (s : Switch) → LikeFirst p a s → σ (mname k) ≡ value R σ s.tree → Like R (get_or (values R σ s.arms) choice_of 0) (σ (mname k))
    member_like k s l e = sym (reduce e ∙ value_reduced R σ s.tree ∙ member_value s l)

    fits_at : (k : ℕ) (ms : List Switch) → AllLike p a ms → Tagged σ k ms → Fits R σ (member_names k ms) (picked R σ choice_of (arms_of_members ms))
    unfolding member_names picked arms_of_members
    fits_at k [] h t = tt
    fits_at k (s ∷ ms) h t = (member_like k s h.0 t.0, fits_at (suc k) ms h.1 t.1)

    fits_past : (k : ℕ) (ms : List Switch) → length a.arms ≤ choice_of → AllLike p a ms → Tagged σ k ms → Fits R σ (member_names k ms) []
    unfolding member_names
    fits_past k [] l h t = tt
    fits_past k (s ∷ ms) l h t = (
      reduce (sym (get_or-eq_default (values R σ s.arms) 0 {n = choice_of} (let e = length_values R σ s.arms in let q = h.0.count in omega arith)))
          ∙ member_like k s h.0 t.0,
      fits_past (suc k) ms l h.1 t.1,
    )

    all_long : (ms : List Switch) → AllLike p a ms → AllLong R σ (length a.arms) (arms_of_members ms)
    unfolding arms_of_members
    all_long [] h = tt
    all_long (s ∷ ms) h = (h.0.count, all_long ms h.1)

    match_fixed :
        (k : ℕ) (ms : List Switch) (arms : Arms) → AllLike p a ms → Tagged σ k ms → arm_count arms ≡ length a.arms
        → ((c : ℕ) → read_arm R arms c σ ≡ get_or (values_each R σ (columns (length a.arms) (arms_of_members ms))) c [])
        → Fixed σ (Match a.kind a.key (member_names k ms) arms)
    unfolding read_stmt choice_of
    match_fixed k ms arms h t e f n =
        set_each_fits R (member_names k ms) (read_arm R arms (choice R a.kind (arm_count arms) (value R σ a.key)) σ) σ σ
        (subst (Fits R σ (member_names k ms))
        (sym (ap (λ (i : ℕ). read_arm R arms (choice R a.kind i (value R σ a.key)) σ) e ∙ f choice_of))
        (fits (decide (ltb choice_of (length a.arms)))))
        (λ x. refl) n
      where
        fits : T (ltb choice_of (length a.arms)) ⊎ (T (ltb choice_of (length a.arms)) → ⊥)
            → Fits R σ (member_names k ms) (get_or (values_each R σ (columns (length a.arms) (arms_of_members ms))) choice_of [])
        fits (inl l) =
            subst (Fits R σ (member_names k ms)) (sym (column_at R σ (length a.arms) choice_of (arms_of_members ms) (all_long ms h) (ltb→lt choice_of (length a.arms) l)))
            (fits_at k ms h t)
        fits (inr l) =
            let q = nltb→le choice_of (length a.arms) (not_T (ltb choice_of (length a.arms)) l) in
            subst (Fits R σ (member_names k ms)) (sym (column_past R σ (length a.arms) choice_of (arms_of_members ms) q)) (fits_past k ms q h t)

  -- ---- what a scope gives

  record ScopeReads (start : ℕ) (es : List Tree) (a : Scoped) : Type 0 where
    later : start ≤ a.next
    free : Sub (under a.next) (free_stmts (block a.inters))
    known : T (holds_all (under a.next) a.results)
    reads : (ρ : Env) → values R (read_stmts R (block a.inters) ρ) a.results ≡ values R ρ es

  Reads : ℕ → List Tree → Outcome Scoped → Type 0
  Reads start es (ok a) = ScopeReads start es a
  Reads start es (refused i) = Unit {0}

  record ArmsRead (start : ℕ) (ls : List (List Tree)) (a : Armed) : Type 0 where
    later : start ≤ a.next
    free : Sub (under a.next) (free_arms a.arms)
    count : arm_count a.arms ≡ length ls
    reads : (c : ℕ) (σ : Env) → read_arm R a.arms c σ ≡ get_or (values_each R σ ls) c []

  ArmsReads : ℕ → List (List Tree) → Outcome Armed → Type 0
  ArmsReads start ls (ok a) = ArmsRead start ls a
  ArmsReads start ls (refused i) = Unit {0}

  arm_added : (start : ℕ) (es : List Tree) (ls : List (List Tree)) (a : Scoped) (r : Armed) → ScopeReads start es a → ArmsRead a.next ls r
      → ArmsRead start (es ∷ ls) (record { arms = arm (block a.inters) a.results r.arms; next = r.next; extracted = a.extracted + r.extracted })
  unfolding free_stmts arm_count values_each read_arm
  arm_added start es ls a r A B =
      record {
        later = (let x = A.later in let y = B.later in omega arith);
        free =
            sub_append (under r.next) (free_stmts (block a.inters)) (all_symbols a.results ++ free_arms r.arms)
            (sub_le a.next r.next B.later (free_stmts (block a.inters)) A.free)
            (sub_append (under r.next) (all_symbols a.results) (free_arms r.arms)
            (λ n t. under_le a.next r.next B.later n (holds_all_at (under a.next) a.results n A.known t)) B.free);
        count = ap suc B.count;
        reads = λ c σ. at c σ;
      }
    where
      at : (c : ℕ) (σ : Env) → read_arm R (arm (block a.inters) a.results r.arms) c σ ≡ get_or (values_each R σ (es ∷ ls)) c []
      at zero σ = A.reads σ
      at (suc c) σ = B.reads c σ

  arms_step :
      (start : ℕ) (es : List Tree) (ls : List (List Tree)) (o : Outcome Scoped) → Reads start es o → (g : ℕ → Outcome Armed)
      → ((k : ℕ) → start ≤ k → ArmsReads k ls (g k))
      → ArmsReads start (es ∷ ls) (o >>= λ a. g a.next >>= λ r. ok (record { arms = arm (block a.inters) a.results r.arms; next = r.next; extracted = a.extracted + r.extracted }))
  unfolding Reads ArmsReads
  arms_step start es ls (refused i) h g f = tt
  arms_step start es ls (ok a) h g f = inner (g a.next) (f a.next h.later)
    where
      inner : (o : Outcome Armed) → ArmsReads a.next ls o
          → ArmsReads start (es ∷ ls) (o >>= λ r. ok (record { arms = arm (block a.inters) a.results r.arms; next = r.next; extracted = a.extracted + r.extracted }))
      inner (ok r) k = arm_added start es ls a r h k
      inner (refused i) k = tt

  -- ---- fusion

  module _ (ρ : Env) (vs : List ℕ) (low : ℕ) where
    -- a work in hand, with the environment that serves it
    record Stage (w : Work) : Type 0 where
      env : Env
      kept : Kept vs w env
      apart : (n : Name) → (T (elem n (all_names w.inters)) → ⊥) → env n ≡ ρ n
      above : low ≤ w.next

    Staged : Outcome Work → Type 0
    Staged (ok w) = Stage w
    Staged (refused i) = Unit {0}

    group_step :
        (g : Group) (w : Work) → FairGroup (under low) g → (S : Stage w) → Named vs (members g) w S.env
        → (o : Outcome Armed) → ArmsReads (name_members (members g) w).next (columns (length g.first.arms) (arms_of_members (members g))) o
        → Staged
        (o >>= λ a.
        ok (record {
          results = (name_members (members g) w).results;
          inters = (name_members (members g) w).inters ++ (Match g.first.kind g.first.key (member_names w.next (members g)) a.arms ∷ []);
          next = a.next;
          extracted = (name_members (members g) w).extracted + a.extracted;
        }))
    unfolding Staged ArmsReads free names
    group_step g w f S N (refused i) A = tt
    group_step g w f S N (ok a) A =
        let v = name_members (members g) w in
        let like = members_like (under low) g f in
        let ns = member_names w.next (members g) in
        let st : Intermediate = Match g.first.kind g.first.key ns a.arms in
        let upto : low ≤ a.next = (let x = S.above in let y = N.later in let z = A.later in omega arith) in
        record {
          env = N.env;
          kept =
              record {
                results = N.kept.results;
                known = weaken_all (under v.next) (under a.next) (under_le v.next a.next A.later) v.results N.kept.known;
                good =
                    good_append a.next N.env v.inters (st ∷ [])
                    (good_more v.next a.next N.env N.env A.later (λ n t. refl) v.inters N.kept.good) (
                      (
                        match_fixed N.env (under low) g.first w.next (members g) a.arms like N.tagged
                            (A.count ∙ length_columns (length g.first.arms) (arms_of_members (members g))) (λ c. A.reads c N.env),
                        sub_append (under a.next) (symbols g.first.key) (free_arms a.arms)
                            (λ n t. under_le low a.next upto n (holds_at (under low) g.first.key n (first_key_known (under low) g f) t)) A.free,
                        (λ n t. under_le v.next a.next A.later n (names_made (members g) w n t)),
                      ),
                      tt,
                    );
              };
          apart = λ n t.
              N.same n (λ u. t (subst (λ (x : List Name). T (elem n x)) (sym (all_names_append v.inters (st ∷ []))) (elem_right n (all_names v.inters) (all_names (st ∷ [])) (match_name g.first.kind g.first.key a.arms n ns u))))
              ∙ S.apart n
              (λ u. t (subst (λ (x : List Name). T (elem n x)) (sym (all_names_append v.inters (st ∷ [])))
              (elem_left n (all_names v.inters) (all_names (st ∷ [])) (subst (λ (x : List Name). T (elem n x)) (sym (names_kept (members g) w)) u))));
          above = upto;
        }

    then_staged : (o : Outcome Work) → Staged o → (f : Work → Outcome Work) → ((w : Work) → Stage w → Staged (f w)) → Staged (o >>= f)
    unfolding Staged
    then_staged (ok w) S f h = h w S
    then_staged (refused i) S f h = tt

  -- over scopes that keep values
  module _ (scope : ℕ → List Tree → Outcome Scoped) (keeps : (start : ℕ) (es : List Tree) → T (holds_all (under start) es) → Reads start es (scope start es)) where
    arms_read : (ls : List (List Tree)) (start : ℕ) → AllHold (under start) ls → ArmsReads start ls (scope_arms scope start ls)
    unfolding scope_arms ArmsReads free_stmts arm_count values_each read_arm
    arms_read [] start h = record { later = omega arith; free = λ n t. absurd (no_elem n t); count = refl; reads = λ c σ. refl }
    arms_read (es ∷ ls) start h =
        arms_step start es ls (scope start es) (keeps start es h.0) (λ k. scope_arms scope k ls)
        (λ k l. arms_read ls k (hold_more (under start) (under k) (under_le start k l) ls h.1))

    module _ (ρ : Env) (vs : List ℕ) (low : ℕ) where
      group_staged : (g : Group) (w : Work) → FairGroup (under low) g → Stage ρ vs low w → Staged ρ vs low (fuse_group scope g w)
      unfolding fuse_group
      group_staged g w f S =
          let up : (n : Name) → T (under low n) → T (under w.next n) = under_le low w.next S.above in
          let N = named vs (members g) w S.env S.kept (trees_more (under low) (under w.next) up (members g) (like_trees (under low) g.first (members g) (members_like (under low) g f))) in
          let upto : low ≤ (name_members (members g) w).next = (let x = S.above in let y = N.later in omega arith) in
          group_step ρ vs low g w f S N (scope_arms scope (name_members (members g) w).next (columns (length g.first.arms) (arms_of_members (members g))))
          (arms_read (columns (length g.first.arms) (arms_of_members (members g))) (name_members (members g) w).next
          (hold_more (under low) (under (name_members (members g) w).next) (under_le low (name_members (members g) w).next upto) (columns (length g.first.arms) (arms_of_members (members g)))
          (group_columns_known (under low) g f)))

      groups_staged : (gs : List Group) (w : Work) → FairGroups (under low) gs → Stage ρ vs low w → Staged ρ vs low (fuse_groups scope gs w)
      unfolding fuse_groups Staged
      groups_staged [] w f S = S
      groups_staged (g ∷ gs) w f S = then_staged ρ vs low (fuse_group scope g w) (group_staged g w f.0 S) (λ v. fuse_groups scope gs v) (λ v H. groups_staged gs v f.1 H)

  -- ---- from the rounds and reciprocals of a scope

  inp : List ℕ → Bool
  inp s = true

  module _ (start : ℕ) (ρ : Env) (vs : List ℕ) (s : State) (M : Model R inp start ρ vs s) where
    -- the scope's own names
    own : Name → Bool
    own (input x) = false
    own (xname i) = not (ltb i start) && ltb i s.next
    own (mname i) = false

    -- the rounds' environment at those, and the given one elsewhere
    patched : Env
    patched n = cond (own n) (M.env n) (ρ n)

    patched_same : (n : Name) → T (below inp start s.next n) → patched n ≡ M.env n
    unfolding patched own below
    patched_same (input x) t = sym (M.agrees (input x) t)
    patched_same (xname i) t = go (ltb i start) (ltb i s.next) t (λ u. M.agrees (xname i) u)
      where
        go : (b c : Bool) → T c → (T b → M.env (xname i) ≡ ρ (xname i)) → cond (not b && c) (M.env (xname i)) (ρ (xname i)) ≡ M.env (xname i)
        go true c t f = sym (f tt)
        go false true t f = refl
        go false false t f = absurd t
    patched_same (mname i) t = sym (M.agrees (mname i) t)

    own_bound : (n : Name) → T (own n) → T (elem n (let_names s.lets))
    unfolding own
    own_bound (input x) t = absurd t
    own_bound (xname i) t =
        numbered_elem start s.next i (let_names s.lets) M.numbered (nltb→le i start (and_left (not (ltb i start)) (ltb i s.next) t))
        (ltb→lt i s.next (and_right (not (ltb i start)) (ltb i s.next) t))
    own_bound (mname i) t = absurd t

    patched_apart : (n : Name) → (T (elem n (all_names (binds s.lets))) → ⊥) → patched n ≡ ρ n
    unfolding patched
    patched_apart n f = go (own n) (λ t. f (subst (λ (l : List Name). T (elem n l)) (sym (bind_names s.lets)) (own_bound n t)))
      where
        go : (b : Bool) → (T b → ⊥) → cond b (M.env n) (ρ n) ≡ ρ n
        go true g = absurd (g tt)
        go false g = refl

    bindings_good : (l : List Binding) → Binds R inp start s.next M.env l → Good s.next patched (binds l)
    unfolding Binds binds read_stmt free names
    bindings_good [] h = tt
    bindings_good (b ∷ l) h = (
      (
        set_fits R patched patched b.name (value R patched b.expr) (fits b h.0) (λ n. refl),
        (λ n t. up n (holds_at (below inp start s.next) b.expr n h.0.1 t)),
        (λ n t. elim (elem_cases n b.name [] t) [ inl e ↦ subst (λ (y : Name). T (under s.next y)) e (up b.name h.0.0) | inr u ↦ absurd (no_elem n u) ]),
      ),
      bindings_good l h.1,
    )
      where
        up : (n : Name) → T (below inp start s.next n) → T (under s.next n)
        up = under_below inp start s.next M.later

        fits : (b : Binding) → T (below inp start s.next b.name) × T (holds (below inp start s.next) b.expr) × (value R M.env (Sym b.name) ≡ value R M.env b.expr)
            → Like R (value R patched b.expr) (patched b.name)
        fits b h =
            value_reduced R patched b.expr ∙ value_same R (below inp start s.next) patched M.env patched_same b.expr h.1 ∙ sym h.2
            ∙ (unfold value in reduce (sym (patched_same b.name h.0)))

  module _ (start : ℕ) (es : List Tree) where
    sorted_step :
        (w : Work) (x : ℕ) (l : List Intermediate) (b : Bool) → (T b → ScopeReads start es (record { inters = l; results = w.results; next = w.next; extracted = x }))
        → Reads start es
        ((elim b as (λ _. Outcome (List Intermediate)) [ true ↦ ok l | false ↦ refused (by 11) ])
        >>= λ l. ok (record { inters = l; results = w.results; next = w.next; extracted = x }))
    unfolding Reads
    sorted_step w x l true h = h tt
    sorted_step w x l false h = tt

    module _ (low : ℕ) (from : start ≤ low) where
      finished : (w : Work) → ((ρ : Env) → Stage ρ (values R ρ es) low w) → Reads start es (finish w)
      unfolding finish topo_sort_intermediates
      finished w S =
          let l = w.inters in
          let done = positions_taken (needs l l) in
          let k : Taken (needs l l) done = taken_ok (needs l l) in
          let inside : All (λ j. j < length l) done = subst (λ (m : ℕ). All (λ j. j < m) done) (needs_length l l) k.inside in
          let S0 = S (λ n. 0) in
          sorted_step w w.extracted (reverse (at_each l done)) (eqb (length done) (length l))
          (λ t.
          record {
            later = (let q = S0.above in omega arith);
            free = free_back (under w.next) l done [] inside (λ i h. (good_at w.next S0.env l S0.kept.good i h).1) (λ n u. absurd (no_elem n (unfold free_stmts block in u)));
            known = S0.kept.known;
            reads = λ ρ.
                sorted_reads R l ρ (S ρ).env (λ i h. (good_at w.next (S ρ).env l (S ρ).kept.good i h).0) (S ρ).apart (eqb→eq (length done) (length l) t) w.results
                ∙ (S ρ).kept.results;
          })

      then_finished : (o : Outcome Work) → ((ρ : Env) → Staged ρ (values R ρ es) low o) → Reads start es (o >>= λ w. finish w)
      unfolding Staged Reads
      then_finished (ok w) S = finished w S
      then_finished (refused i) S = tt

    begun : (x : ℕ) (s : State) (ρ : Env) → Model R inp start ρ (values R ρ es) s → Stage ρ (values R ρ es) s.next (unfused x s)
    unfolding unfused
    begun x s ρ M =
        record {
          env = patched start ρ (values R ρ es) s M;
          kept =
              record {
                results =
                    values_same R (below inp start s.next) (patched start ρ (values R ρ es) s M) M.env (patched_same start ρ (values R ρ es) s M) s.results M.known ∙ M.results;
                known = weaken_all (below inp start s.next) (under s.next) (under_below inp start s.next M.later) s.results M.known;
                good = bindings_good start ρ (values R ρ es) s M s.lets M.binds;
              };
          apart = patched_apart start ρ (values R ρ es) s M;
          above = omega arith;
        }

    flat_step : (o : Outcome State) → ((ρ : Env) → Modeled R inp start ρ (values R ρ es) o) → Reads start es (o >>= λ s. finish (unfused (length s.lets) (reciprocals false s)))
    unfolding Modeled Reads
    flat_step (refused i) M = tt
    flat_step (ok s) M =
        let t = reciprocals false s in
        let N : (ρ : Env) → Model R inp start ρ (values R ρ es) t = λ ρ. reciprocals_keep R inp start ρ (values R ρ es) false s (M ρ) in
        finished t.next (N (λ n. 0)).later (unfused (length s.lets) t) (λ ρ. begun (length s.lets) t ρ (N ρ))

    module _ (scope : ℕ → List Tree → Outcome Scoped) (keeps : (start : ℕ) (es : List Tree) → T (holds_all (under start) es) → Reads start es (scope start es)) where
      fused : (x : ℕ) (s : State) (ρ : Env) → Model R inp start ρ (values R ρ es) s → Staged ρ (values R ρ es) s.next (fuse_all scope x s)
      unfolding fuse_all
      fused x s ρ M =
          groups_staged scope keeps ρ (values R ρ es) s.next (groups_from [] (collect_switches (roots s))) (unfused x s)
          (groups_fair (under s.next) (roots s)
          (weaken_all (below inp start s.next) (under s.next) (under_below inp start s.next M.later) (roots s) (roots_known R inp start ρ (values R ρ es) s M)))
          (begun x s ρ M)

    -- its arms' scopes have what is left after what it holds
    scoped_step :
        (scope : ℕ → ℕ → List Tree → Outcome Scoped) → ((left start : ℕ) (es : List Tree) → T (holds_all (under start) es) → Reads start es (scope left start es))
        → (left : ℕ) (o : Outcome State) → ((ρ : Env) → Modeled R inp start ρ (values R ρ es) o)
        → Reads start es (o >>= λ s. fuse_held (λ n l. scope (left_after left (length s.lets) (reciprocals true s)) n l) left (length s.lets) (reciprocals true s))
    unfolding Modeled Reads
    scoped_step scope keeps left (refused i) M = tt
    scoped_step scope keeps left (ok s) M =
        let t = reciprocals true s in
        let inner : ℕ → List Tree → Outcome Scoped = λ n l. scope (left_after left (length s.lets) t) n l in
        let N : (ρ : Env) → Model R inp start ρ (values R ρ es) t = λ ρ. reciprocals_keep R inp start ρ (values R ρ es) true s (M ρ) in
        or_not_held (Reads start es) tt inner left (length s.lets) t
        (then_finished t.next (N (λ n. 0)).later (fuse_all inner (length s.lets) t)
        (λ ρ. fused inner (λ n l g. keeps (left_after left (length s.lets) t) n l g) (length s.lets) t ρ (N ρ)))

  scope_reads : (fuel left : ℕ) (scoped : Bool) (start : ℕ) (es : List Tree) → T (holds_all (under start) es) → Reads start es (cse_scope fuel left scoped start es)
  unfolding cse_scope Reads
  scope_reads zero left scoped start es h = tt
  scope_reads (suc fuel) left false start es h = flat_step start es (extract_all false start es) (λ ρ. extract_all_keeps R inp start ρ false es (unfold inp in h))
  scope_reads (suc fuel) left true start es h =
      or_no_room (Reads start es) tt (opens left start es) _
      (scoped_step start es (λ k n l. cse_scope fuel k true n l) (λ k n l g. scope_reads fuel k true n l g) left (extract_all true start es)
      (λ ρ. extract_all_keeps R inp start ρ true es (unfold inp in h)))

  -- ---- the answer

  as_read : (es : List Tree) (o : Outcome Scoped) → Reads 0 es o → (a : Answer) → (o >>= λ x. ok (as_answer x)) ≡ ok a → (ρ : Env) → answer_values R ρ a ≡ values R ρ es
  unfolding Reads
  as_read es (ok x) h a e ρ = subst (λ (b : Answer). answer_values R ρ b ≡ values R ρ es) (answer_of x a e) (unfold answer_values as_answer in h.reads ρ)
    where
      answer_of : (x : Scoped) (a : Answer) → ◌≡◌ {A = Outcome Answer} (ok (as_answer x)) (ok a) → as_answer x ≡ a
      answer_of x a e = cc
  as_read es (refused i) h a e ρ = (let z : ◌≡◌ {A = ℕ} 0 1 = cc in absurd (omega arith))

  -- Whatever residues the symbols hold, each answer has the input's values, result by result, for a list that holds no name of an answer.
  pub answer_keeps_values :
      (scoped : Bool) (es : List Tree) → T (holds_all (under 0) es) → (a : Answer) → answer scoped es ≡ ok a → (ρ : Env) → answer_values R ρ a ≡ values R ρ es
  unfolding answer
  answer_keeps_values scoped es h a e ρ = as_read es (cse_scope scopes_open area_rows scoped 0 es) (scope_reads scopes_open area_rows scoped 0 es h) a e ρ
