-- In both answers each name is bound once, and used only later and inside its scope: the first clause of demand 3.
-- A scope makes the numbers from its start up to its next, each of its arms later ones, and an arm reads from outside only what its input reads.
-- Assumes nothing.
use Prim.Native.Nat.{ℕ, ◌+◌, zero, suc, ◌≤◌, ◌<◌}
use mathlib.Core.Path.{◌≡◌, refl, sym, ◌∙◌, ap, subst}
use mathlib.Core.Logic.{inl, inr}
use mathlib.Core.Bool.{Bool, true, false, not, ◌&&◌, ◌||◌}
use mathlib.Core.List.{List, [], ◌∷◌, ◌++◌, reverse, reverse_aux, append_assoc}
use native.Mathlib.Omega.{arith}
use lib.ListN.{length, get_or}
use lib.Dec.{T, eqb, ltb, ltb→lt, lt→ltb, nltb→le, T_not, not_T, eqb→eq}
use Rattle.spec_tree.specs.Outcome.{Outcome, ok, refused, ◌>>=◌, by}
use Rattle.spec_tree.specs.Tree.{Name, input, xname, mname, Tree}
use Rattle.spec_cse.specs.Extract.{Binding, State, extract_all, reciprocals, roots}
use Rattle.spec_cse.specs.Answer.{Intermediate, Arms, Answer, Let, Match, arm, block, names, symbols, all_symbols, free, free_stmts, free_arms, elem}
use Rattle.spec_cse.specs.Order.{needs, member, positions_taken, nothing, at_each, topo_sort_intermediates}
use Rattle.laws.proofs.cse.OrderLaws.{member_cases, member_later, member_here, All, Distinct, Ordered, Taken, taken_ok, none_missing}
use Rattle.spec_cse.specs.Scope.{Switch, Group, Work, Scoped, Armed, members, collect_switches, groups_from, replace_in_stmts, name_members, member_names, columns, arms_of_members, scope_arms, fuse_group, fuse_groups, fuse_all, binds, unfused, finish, cse_scope, left_after, opens, area_rows, scopes_open, fuse_held, as_answer, answer}
use Rattle.spec_tree.specs.Value.{Reading, Env, values}
use Rattle.spec_cse.specs.Demand.{bound_stmt, bound_stmts, bound_arms, all_different, known, in_scope, stmt_in_scope, arms_in_scope, well_scoped}
use Rattle.spec_tree.proofs.Logic.{and_left, and_right, and_both, or_left, or_right, or_cases}
use Rattle.spec_rewrite.proofs.Names.{holds, holds_all, below, weaken, weaken_all}
use Rattle.laws.proofs.cse.RoundsValue.{let_names, Numbered, Binds, Model, Modeled, extract_all_keeps, reciprocals_keep, roots_known}
use Rattle.laws.proofs.cse.Symbols.{decide, elem_cases, elem_here, elem_later, elem_left, elem_right, elem_append, holds_at, holds_all_at, Sub, sub_append, no_elem, holds_all_by, all_names}
use Rattle.laws.proofs.cse.ReadLaws.{needs_length, name_place, place_name, bound_before, free_back}
use Rattle.laws.proofs.cse.SwitchLaws.{outside_holds, results_hold, FairGroup, FairGroups, groups_fair, first_key_known, AllHold, group_columns_known}
use Rattle.laws.proofs.cse.ScopeValue.{under, under_le, under_m, under_below, names_to_come, all_names_append, one_named, names_kept, name_members_later, names_made, hold_more, bind_names, numbered_elem}
use Rattle.laws.proofs.cse.RoundsNames.{LetsHold, Held, AllHeld, roots_held, extract_all_held, reciprocals_held}
use Rattle.laws.proofs.cse.ScopeRoom.{or_no_room, or_not_held}

-- ---- names made from a number on and below another

abbrev Made : ℕ → ℕ → List Name → Type 0
Made k l ns = (n : Name) → T (elem n ns) → (T (under k n) → ⊥) × T (under l n)

made_more : (k l i j : ℕ) → i ≤ k → l ≤ j → (ns : List Name) → Made k l ns → Made i j ns
made_more k l i j a b ns h n t = ((λ u. (h n t).0 (under_le i k a n u)), under_le l j b n (h n t).1)

made_append : (k l : ℕ) (s t : List Name) → Made k l s → Made k l t → Made k l (s ++ t)
made_append k l s t f g n h = elim (elem_append n s t h) [ inl a ↦ f n a | inr b ↦ g n b ]

made_apart : (k l m : ℕ) (s t : List Name) → Made k l s → Made l m t → (n : Name) → T (elem n s) → T (elem n t) → ⊥
made_apart k l m s t f g n a b = (g n b).0 (f n a).1

different_append : (s t : List Name) → T (all_different s) → T (all_different t) → ((n : Name) → T (elem n s) → T (elem n t) → ⊥) → T (all_different (s ++ t))
unfolding all_different
different_append [] t a b f = b
different_append (x ∷ s) t a b f =
    and_both (not (elem x (s ++ t))) (all_different (s ++ t))
    (not_T (elem x (s ++ t))
    (λ u. elim (elem_append x s t u) [
      | inl v ↦ T_not (elem x s) (and_left (not (elem x s)) (all_different s) a) v
      | inr w ↦ f x (elem_here x s) w
    ]))
    (different_append s t (and_right (not (elem x s)) (all_different s) a) b (λ n u v. f n (elem_later n x s u) v))

-- a statement's names, arms included, lie after those of the statements before it
abbrev Spans : ℕ → ℕ → List Intermediate → Type 0
Spans k top [] = k ≤ top
Spans k top (s ∷ l) = (mid : ℕ) × (k ≤ mid) × Made k mid (bound_stmt s) × T (all_different (bound_stmt s)) × Spans mid top l

spans_later : (k top : ℕ) (l : List Intermediate) → Spans k top l → k ≤ top
spans_later k top [] h = h
spans_later k top (s ∷ l) h = (let x = h.1 in let y = spans_later h.0 top l h.4 in omega arith)

spans_lower : (j k top : ℕ) (l : List Intermediate) → j ≤ k → Spans k top l → Spans j top l
spans_lower j k top [] a h = omega arith
spans_lower j k top (s ∷ l) a h = (h.0, (let x = h.1 in omega arith), made_more k h.0 j h.0 a (omega arith) (bound_stmt s) h.2, h.3, h.4)

spans_append : (k mid top : ℕ) (l r : List Intermediate) → Spans k mid l → Spans mid top r → Spans k top (l ++ r)
spans_append k mid top [] r g h = spans_lower k mid top r g h
spans_append k mid top (s ∷ l) r g h = (g.0, g.1, g.2, g.3, spans_append g.0 mid top l r g.4 h)

spans_at : (k top : ℕ) (l : List Intermediate) → Spans k top l → (i : ℕ) → i < length l → Made k top (bound_stmt (get_or l i nothing)) × T (all_different (bound_stmt (get_or l i nothing)))
spans_at k top [] h i a = absurd (omega arith)
spans_at k top (s ∷ l) h zero a = (made_more k h.0 k top (omega arith) (spans_later h.0 top l h.4) (bound_stmt s) h.2, h.3)
spans_at k top (s ∷ l) h (suc i) a =
    let r = spans_at h.0 top l h.4 i (omega arith) in
    (made_more h.0 top k top h.1 (omega arith) (bound_stmt (get_or l i nothing)) r.0, r.1)

-- two statements bind different names
spans_apart :
    (k top : ℕ) (l : List Intermediate) → Spans k top l → (i j : ℕ) → i < length l → j < length l → (i ≡ j → ⊥) → (n : Name)
    → T (elem n (bound_stmt (get_or l i nothing))) → T (elem n (bound_stmt (get_or l j nothing))) → ⊥
spans_apart k top [] h i j a b f n s t = omega arith
spans_apart k top (x ∷ l) h zero zero a b f n s t = f refl
spans_apart k top (x ∷ l) h zero (suc j) a b f n s t =
    made_apart k h.0 top (bound_stmt x) (bound_stmt (get_or l j nothing)) h.2 (spans_at h.0 top l h.4 j (omega arith)).0 n s t
spans_apart k top (x ∷ l) h (suc i) zero a b f n s t =
    made_apart k h.0 top (bound_stmt x) (bound_stmt (get_or l i nothing)) h.2 (spans_at h.0 top l h.4 i (omega arith)).0 n t s
spans_apart k top (x ∷ l) h (suc i) (suc j) a b f n s t = spans_apart h.0 top l h.4 i j (omega arith) (omega arith) (λ e. f (ap suc e)) n s t

spans_replaced : (m : Tree) (n : Name) (k top : ℕ) (l : List Intermediate) → Spans k top l → Spans k top (replace_in_stmts m n l)
unfolding replace_in_stmts bound_stmt
spans_replaced m n k top [] h = h
spans_replaced m n k top (Let a e ∷ l) h = (h.0, h.1, h.2, h.3, spans_replaced m n h.0 top l h.4)
spans_replaced m n k top (Match c key ns arms ∷ l) h = (h.0, h.1, h.2, h.3, spans_replaced m n h.0 top l h.4)

spans_named : (ms : List Switch) (w : Work) (k top : ℕ) → Spans k top w.inters → Spans k top (name_members ms w).inters
unfolding name_members
spans_named [] w k top h = h
spans_named (s ∷ ms) w k top h =
    spans_named ms (one_named s w) k top (spans_replaced s.tree (mname w.next) k top w.inters h)

-- ---- in order: names are different still, and in the same range

different_back :
    (k top : ℕ) (l : List Intermediate) → Spans k top l → (done : List ℕ) (acc : List Intermediate) → Distinct done → All (λ j. j < length l) done → T (all_different (bound_stmts (block acc)))
    → ((i : ℕ) → T (member i done) → (n : Name) → T (elem n (bound_stmt (get_or l i nothing))) → T (elem n (bound_stmts (block acc))) → ⊥)
    → T (all_different (bound_stmts (block (reverse_aux (at_each l done) acc))))
unfolding at_each bound_stmts block
different_back k top l h [] acc d a t f = t
different_back k top l h (i ∷ done) acc d a t f =
    different_back k top l h done (get_or l i nothing ∷ acc) d.1 a.1
    (different_append (bound_stmt (get_or l i nothing)) (bound_stmts (block acc)) (spans_at k top l h i a.0).1 t (f i (member_here i done)))
    (λ j m n u v.
    elim (elem_append n (bound_stmt (get_or l i nothing)) (bound_stmts (block acc)) v) [
      | inl x ↦ spans_apart k top l h j i (all_in done a.1 j m) a.0 (λ e. d.0 (subst (λ (y : ℕ). T (member y done)) e m)) n u x
      | inr y ↦ f j (member_later j i done m) n u y
    ])
  where
    all_in : (done : List ℕ) → All (λ j. j < length l) done → (j : ℕ) → T (member j done) → j < length l
    all_in [] a j m = absurd (unfold member in m)
    all_in (i ∷ done) a j m = elim (member_cases j i done m) [ inl e ↦ subst (λ (y : ℕ). y < length l) e a.0 | inr u ↦ all_in done a.1 j u ]

made_back :
    (k top : ℕ) (l : List Intermediate) → Spans k top l → (done : List ℕ) (acc : List Intermediate) → All (λ j. j < length l) done → Made k top (bound_stmts (block acc))
    → Made k top (bound_stmts (block (reverse_aux (at_each l done) acc)))
unfolding at_each bound_stmts block
made_back k top l h [] acc a m = m
made_back k top l h (i ∷ done) acc a m =
    made_back k top l h done (get_or l i nothing ∷ acc) a.1 (made_append k top (bound_stmt (get_or l i nothing)) (bound_stmts (block acc)) (spans_at k top l h i a.0).0 m)

free_on : (xs acc : List Intermediate) (n : Name) → T (elem n (free_stmts (block acc))) → T (elem n (free_stmts (block (reverse_aux xs acc))))
free_on [] acc n t = t
free_on (s ∷ xs) acc n t = free_on xs (s ∷ acc) n (unfold free_stmts block in (elem_right n (free s) (free_stmts (block acc)) t))

free_placed :
    (l : List Intermediate) (done : List ℕ) (acc : List Intermediate) (i : ℕ) (n : Name) → T (member i done) → T (elem n (free (get_or l i nothing)))
    → T (elem n (free_stmts (block (reverse_aux (at_each l done) acc))))
unfolding at_each
free_placed l [] acc i n m t = absurd (unfold member in m)
free_placed l (j ∷ done) acc i n m t =
    elim (member_cases i j done m) [
      | inl e ↦ free_on (at_each l done) (get_or l j nothing ∷ acc) n
          (unfold free_stmts block in (elem_left n (free (get_or l j nothing)) (free_stmts (block acc)) (subst (λ (y : ℕ). T (elem n (free (get_or l y nothing)))) (sym e) t)))
      | inr u ↦ free_placed l done (get_or l j nothing ∷ acc) i n u t
    ]

-- ---- what statements read

-- a name bound before and in scope, or an input symbol that the answer does not bind
abbrev Known : List Name → List Name → List Name → Name → Type 0
Known inputs bound scope n = T (elem n scope || (elem n inputs && not (elem n bound)))

known_further : (inputs bound s t : List Name) (n : Name) → Known inputs bound t n → Known inputs bound (s ++ t) n
known_further inputs bound s t n h =
    elim (or_cases (elem n t) (elem n inputs && not (elem n bound)) h) [
      | inl a ↦ or_left (elem n (s ++ t)) _ (elem_right n s t a)
      | inr b ↦ or_right (elem n (s ++ t)) (elem n inputs && not (elem n bound)) b
    ]

known_by :
    (inputs bound scope ns : List Name) → ((s : Name) → T (elem s ns) → T (elem s scope || (elem s inputs && not (elem s bound)))) → T (known inputs bound scope ns)
unfolding known
known_by inputs bound scope [] f = tt
known_by inputs bound scope (n ∷ ns) f =
    and_both (elem n scope || (elem n inputs && not (elem n bound))) (known inputs bound scope ns) (f n (elem_here n ns))
    (known_by inputs bound scope ns (λ s t. f s (elem_later s n ns t)))

-- symbols of bound expressions and keys pass a test, and arms have a property
abbrev Each : (Name → Bool) → (Arms → Type 0) → List Intermediate → Type 0
Each p A [] = Unit {0}
Each p A (Let n e ∷ l) = T (holds p e) × Each p A l
Each p A (Match k key ns arms ∷ l) = (T (holds p key) × A arms) × Each p A l

each_more : (p q : Name → Bool) (A B : Arms → Type 0) → ((n : Name) → T (p n) → T (q n)) → ((a : Arms) → A a → B a) → (l : List Intermediate) → Each p A l → Each q B l
each_more p q A B f g [] h = tt
each_more p q A B f g (Let n e ∷ l) h = (weaken p q f e h.0, each_more p q A B f g l h.1)
each_more p q A B f g (Match k key ns arms ∷ l) h = ((weaken p q f key h.0.0, g arms h.0.1), each_more p q A B f g l h.1)

each_append : (p : Name → Bool) (A : Arms → Type 0) (l r : List Intermediate) → Each p A l → Each p A r → Each p A (l ++ r)
each_append p A [] r g h = h
each_append p A (Let n e ∷ l) r g h = (g.0, each_append p A l r g.1 h)
each_append p A (Match k key ns arms ∷ l) r g h = (g.0, each_append p A l r g.1 h)

module _ (p : Name → Bool) (A : Arms → Type 0) where
  each_replaced : (m : Tree) (n : Name) → T (p n) → (l : List Intermediate) → Each p A l → Each p A (replace_in_stmts m n l)
  unfolding replace_in_stmts
  each_replaced m n new [] h = tt
  each_replaced m n new (Let a e ∷ l) h = (outside_holds p m n new e h.0, each_replaced m n new l h.1)
  each_replaced m n new (Match k key ns arms ∷ l) h = ((outside_holds p m n new key h.0.0, h.0.1), each_replaced m n new l h.1)

  -- naming members keeps this for a test that the new names pass
  each_named :
      (ms : List Switch) (w : Work) → Sub p (member_names w.next ms) → T (holds_all p w.results) → Each p A w.inters
      → T (holds_all p (name_members ms w).results) × Each p A (name_members ms w).inters
  unfolding name_members member_names
  each_named [] w u g h = (g, h)
  each_named (s ∷ ms) w u g h =
      let n = mname w.next in
      let new = u n (elem_here n (member_names (suc w.next) ms)) in
      each_named ms (one_named s w)
      (λ x t. u x (elem_later x n (member_names (suc w.next) ms) t)) (results_hold p s.tree n new w.results g) (each_replaced s.tree n new w.inters h)

-- arms that read from outside only what passes the test
abbrev Closed : (Name → Bool) → Arms → Type 0
Closed p arms = (inputs bound scope : List Name) → ((n : Name) → T (elem n (free_arms arms)) → T (p n) → Known inputs bound scope n) → T (arms_in_scope inputs bound arms scope)

closed_more : (p q : Name → Bool) → ((n : Name) → T (p n) → T (q n)) → (a : Arms) → Closed p a → Closed q a
closed_more p q f a h inputs bound scope g = h inputs bound scope (λ n t u. g n t (f n u))

-- such a statement is in scope where what it reads is known
each_scoped :
    (p : Name → Bool) (l : List Intermediate) → Each p (Closed p) l → (i : ℕ) → i < length l → (inputs bound scope : List Name)
    → ((n : Name) → T (elem n (free (get_or l i nothing))) → T (p n) → Known inputs bound scope n) → T (stmt_in_scope inputs bound (get_or l i nothing) scope)
unfolding stmt_in_scope free
each_scoped p [] h i a inputs bound scope f = absurd (omega arith)
each_scoped p (Let x e ∷ l) h zero a inputs bound scope f = known_by inputs bound scope (symbols e) (λ n t. f n t (holds_at p e n h.0 t))
each_scoped p (Match k key ns arms ∷ l) h zero a inputs bound scope f =
    and_both (known inputs bound scope (symbols key)) (arms_in_scope inputs bound arms scope)
    (known_by inputs bound scope (symbols key) (λ n t. f n (elem_left n (symbols key) (free_arms arms) t) (holds_at p key n h.0.0 t)))
    (h.0.1 inputs bound scope (λ n t u. f n (elem_right n (symbols key) (free_arms arms) t) u))
each_scoped p (Let x e ∷ l) h (suc i) a inputs bound scope f = each_scoped p l h.1 i (omega arith) inputs bound scope f
each_scoped p (Match k key ns arms ∷ l) h (suc i) a inputs bound scope f = each_scoped p l h.1 i (omega arith) inputs bound scope f

each_free : (q : Name → Bool) (l : List Intermediate) → Each q (λ a. Sub q (free_arms a)) l → (i : ℕ) → i < length l → Sub q (free (get_or l i nothing))
unfolding free
each_free q [] h i a = absurd (omega arith)
each_free q (Let x e ∷ l) h zero a = λ n t. holds_at q e n h.0 t
each_free q (Match k key ns arms ∷ l) h zero a = sub_append q (symbols key) (free_arms arms) (λ n t. holds_at q key n h.0.0 t) h.0.1
each_free q (Let x e ∷ l) h (suc i) a = each_free q l h.1 i (omega arith)
each_free q (Match k key ns arms ∷ l) h (suc i) a = each_free q l h.1 i (omega arith)

-- ---- what a scope gives

-- every symbol that a scope's statements and results hold
abbrev read_by : Scoped → List Name
read_by a = free_stmts (block a.inters) ++ all_symbols a.results

record ScopeNames (start : ℕ) (es : List Tree) (a : Scoped) : Type 0 where
  later : start ≤ a.next
  different : T (all_different (bound_stmts (block a.inters)))
  made : Made start a.next (bound_stmts (block a.inters))
  -- what it reads from outside, its input reads
  held : (q : Name → Bool) → T (holds_all q es) → (n : Name) → T (elem n (read_by a)) → T (under start n) → T (q n)
  -- it is in scope where what it reads from outside is known
  scoped :
      (inputs bound scope : List Name) → ((n : Name) → T (elem n (read_by a)) → T (under start n) → Known inputs bound scope n)
      → T (in_scope inputs bound (block a.inters) scope a.results)

Named : ℕ → List Tree → Outcome Scoped → Type 0
Named start es (ok a) = ScopeNames start es a
Named start es (refused i) = Unit {0}

record ArmsNames (start : ℕ) (ls : List (List Tree)) (a : Armed) : Type 0 where
  later : start ≤ a.next
  different : T (all_different (bound_arms a.arms))
  made : Made start a.next (bound_arms a.arms)
  held : (q : Name → Bool) → AllHold q ls → (n : Name) → T (elem n (free_arms a.arms)) → T (under start n) → T (q n)
  scoped :
      (inputs bound scope : List Name) → ((n : Name) → T (elem n (free_arms a.arms)) → T (under start n) → Known inputs bound scope n)
      → T (arms_in_scope inputs bound a.arms scope)

ArmsNamed : ℕ → List (List Tree) → Outcome Armed → Type 0
ArmsNamed start ls (ok a) = ArmsNames start ls a
ArmsNamed start ls (refused i) = Unit {0}

arm_added :
    (start : ℕ) (es : List Tree) (ls : List (List Tree)) (a : Scoped) (r : Armed) → AllHold (under start) ls → ScopeNames start es a → ArmsNames a.next ls r
    → ArmsNames start (es ∷ ls) (record { arms = arm (block a.inters) a.results r.arms; next = r.next; extracted = a.extracted + r.extracted })
unfolding free_stmts bound_stmts in_scope
arm_added start es ls a r hold A B =
    let s = block a.inters in
    record {
      later = (let x = A.later in let y = B.later in omega arith);
      different = different_append (bound_stmts s) (bound_arms r.arms) A.different B.different (made_apart start a.next r.next (bound_stmts s) (bound_arms r.arms) A.made B.made);
      made =
          made_append start r.next (bound_stmts s) (bound_arms r.arms) (made_more start a.next start r.next (omega arith) B.later (bound_stmts s) A.made)
          (made_more a.next r.next start r.next A.later (omega arith) (bound_arms r.arms) B.made);
      held = λ q h n t u.
          elim (elem_append n (free_stmts s) (all_symbols a.results ++ free_arms r.arms) t) [
            | inl x ↦ A.held q h.0 n (elem_left n (free_stmts s) (all_symbols a.results) x) u
            | inr y ↦ elim (elem_append n (all_symbols a.results) (free_arms r.arms) y) [
              | inl x ↦ A.held q h.0 n (elem_right n (free_stmts s) (all_symbols a.results) x) u
              | inr z ↦ B.held q h.1 n z (under_le start a.next A.later n u)
            ]
          ];
      scoped = λ inputs bound scope f.
          and_both (in_scope inputs bound s scope a.results) (arms_in_scope inputs bound r.arms scope)
          (A.scoped inputs bound scope
          (λ n t u. f n
          (elim (elem_append n (free_stmts s) (all_symbols a.results) t) [
            | inl x ↦ elem_left n (free_stmts s) (all_symbols a.results ++ free_arms r.arms) x
            | inr y ↦ elem_right n (free_stmts s) (all_symbols a.results ++ free_arms r.arms) (elem_left n (all_symbols a.results) (free_arms r.arms) y)
          ]) u))
          (B.scoped inputs bound scope
          (λ n t u. f n (elem_right n (free_stmts s) (all_symbols a.results ++ free_arms r.arms) (elem_right n (all_symbols a.results) (free_arms r.arms) t))
          (B.held (under start) hold n t u)));
    }

arms_step :
    (start : ℕ) (es : List Tree) (ls : List (List Tree)) → AllHold (under start) ls → (o : Outcome Scoped) → Named start es o → (g : ℕ → Outcome Armed)
    → ((k : ℕ) → start ≤ k → ArmsNamed k ls (g k))
    → ArmsNamed start (es ∷ ls) (o >>= λ a. g a.next >>= λ r. ok (record { arms = arm (block a.inters) a.results r.arms; next = r.next; extracted = a.extracted + r.extracted }))
unfolding Named ArmsNamed
arms_step start es ls hold (refused i) h g f = tt
arms_step start es ls hold (ok a) h g f = inner (g a.next) (f a.next h.later)
  where
    inner : (o : Outcome Armed) → ArmsNamed a.next ls o
        → ArmsNamed start (es ∷ ls) (o >>= λ r. ok (record { arms = arm (block a.inters) a.results r.arms; next = r.next; extracted = a.extracted + r.extracted }))
    inner (ok r) k = arm_added start es ls a r hold h k
    inner (refused i) k = tt

-- ---- the members' names

members_made : (ms : List Switch) (w : Work) → Made w.next (name_members ms w).next (member_names w.next ms)
members_made ms w n t = ((λ u. names_to_come w.next w.next ms n (omega arith) t u), names_made ms w n t)

members_different : (k : ℕ) (ms : List Switch) → T (all_different (member_names k ms))
unfolding all_different member_names
members_different k [] = tt
members_different k (s ∷ ms) =
    and_both (not (elem (mname k) (member_names (suc k) ms))) (all_different (member_names (suc k) ms))
    (not_T (elem (mname k) (member_names (suc k) ms)) (λ t. names_to_come (suc k) (suc k) ms (mname k) (omega arith) t (under_m k))) (members_different (suc k) ms)

-- ---- fusion

module _ (start low : ℕ) (from : start ≤ low) where
  -- the symbols of a scope's results and bindings before fusion
  base : Name → Bool
  base = below (λ s. true) start low

  base_under : (k : ℕ) → low ≤ k → (n : Name) → T (base n) → T (under k n)
  unfolding base
  base_under k h n t = under_le low k h n (under_below (λ s. true) start low from n t)

  -- from outside, or bound by a statement of the list
  here : List Name → Name → Bool
  here made n = under start n || elem n made

  here_more : (s t : List Name) → ((n : Name) → T (elem n s) → T (elem n t)) → (n : Name) → T (here s n) → T (here t n)
  unfolding here
  here_more s t f n h = elim (or_cases (under start n) (elem n s) h) [ inl a ↦ or_left (under start n) (elem n t) a | inr b ↦ or_right (under start n) (elem n t) (f n b) ]

  here_elem : (s : List Name) (n : Name) → T (elem n s) → T (here s n)
  unfolding here
  here_elem s n t = or_right (under start n) (elem n s) t

  -- ---- what is read from outside

  module _ (q : Name → Bool) (new : (n : Name) → (T (under start n) → ⊥) → T (q n)) where
    record ReadingHeld (w : Work) : Type 0 where
      results : T (holds_all q w.results)
      stmts : Each q (λ a. Sub q (free_arms a)) w.inters
      above : low ≤ w.next

    WorkHeld : Outcome Work → Type 0
    WorkHeld (ok w) = ReadingHeld w
    WorkHeld (refused i) = Unit {0}

    held_step :
        (g : Group) (w : Work) → FairGroup q g → ReadingHeld w
        → (o : Outcome Armed) → ArmsNamed (name_members (members g) w).next (columns (length g.first.arms) (arms_of_members (members g))) o
        → WorkHeld
        (o >>= λ a.
        ok (record {
          results = (name_members (members g) w).results;
          inters = (name_members (members g) w).inters ++ (Match g.first.kind g.first.key (member_names w.next (members g)) a.arms ∷ []);
          next = a.next;
          extracted = (name_members (members g) w).extracted + a.extracted;
        }))
    unfolding WorkHeld ArmsNamed
    held_step g w f H (refused i) A = tt
    held_step g w f H (ok a) A =
        let v = name_members (members g) w in
        let later : w.next ≤ v.next = name_members_later (members g) w in
        let N =
        each_named q (λ a. Sub q (free_arms a)) (members g) w
        (λ n t. new n (λ u. names_to_come w.next w.next (members g) n (omega arith) t (under_le start w.next (let x = H.above in omega arith) n u))) H.results H.stmts in
        record {
          results = N.0;
          stmts =
              each_append q (λ a. Sub q (free_arms a)) v.inters (Match g.first.kind g.first.key (member_names w.next (members g)) a.arms ∷ []) N.1 (
                (
                  first_key_known q g f,
                  (λ n t.
                      elim (decide (under v.next n)) [
                        | inl u ↦ A.held q (group_columns_known q g f) n t u
                        | inr u ↦ new n (λ x. u (under_le start v.next (let y = H.above in omega arith) n x))
                      ]),
                ),
                tt,
              );
          above = (let x = H.above in let y = A.later in omega arith);
        }

    then_held : (o : Outcome Work) → WorkHeld o → (f : Work → Outcome Work) → ((w : Work) → ReadingHeld w → WorkHeld (f w)) → WorkHeld (o >>= f)
    unfolding WorkHeld
    then_held (ok w) S f h = h w S
    then_held (refused i) S f h = tt

  -- ---- what is bound, and what is read of it

  record Stage (w : Work) : Type 0 where
    results : T (holds_all (here (all_names w.inters)) w.results)
    stmts : Each (here (all_names w.inters)) (Closed (here (all_names w.inters))) w.inters
    spans : Spans start w.next w.inters
    bases : (n : Name) → T (base n) → T (here (all_names w.inters) n)
    above : low ≤ w.next

  Staged : Outcome Work → Type 0
  Staged (ok w) = Stage w
  Staged (refused i) = Unit {0}

  match_names : (l : List Intermediate) (k : ℕ) (key : Tree) (ns : List Name) (arms : Arms) (n : Name) → T (elem n (all_names l ++ ns)) → T (elem n (all_names (l ++ (Match k key ns arms ∷ []))))
  match_names l k key ns arms n t =
      subst (λ (x : List Name). T (elem n x)) (sym (all_names_append l (Match k key ns arms ∷ [])))
      (elim (elem_append n (all_names l) ns t) [
        | inl a ↦ elem_left n (all_names l) (all_names (Match k key ns arms ∷ [])) a
        | inr b ↦ elem_right n (all_names l) (all_names (Match k key ns arms ∷ [])) (unfold all_names names in (elem_left n ns [] b))
      ])

  stage_step :
      (g : Group) (w : Work) → FairGroup base g → Stage w
      → (o : Outcome Armed) → ArmsNamed (name_members (members g) w).next (columns (length g.first.arms) (arms_of_members (members g))) o
      → Staged
      (o >>= λ a.
      ok (record {
        results = (name_members (members g) w).results;
        inters = (name_members (members g) w).inters ++ (Match g.first.kind g.first.key (member_names w.next (members g)) a.arms ∷ []);
        next = a.next;
        extracted = (name_members (members g) w).extracted + a.extracted;
      }))
  unfolding Staged ArmsNamed
  stage_step g w f S (refused i) A = tt
  stage_step g w f S (ok a) A =
      let v = name_members (members g) w in
      let ns = member_names w.next (members g) in
      let st : Intermediate = Match g.first.kind g.first.key ns a.arms in
      let later : w.next ≤ v.next = name_members_later (members g) w in
      -- with the new names, before their match stands
      let p : Name → Bool = here (all_names w.inters ++ ns) in
      let p1 : (n : Name) → T (here (all_names w.inters) n) → T (p n) = here_more (all_names w.inters) (all_names w.inters ++ ns) (λ n t. elem_left n (all_names w.inters) ns t) in
      let N =
      each_named p (Closed p) (members g) w (λ n t. here_elem (all_names w.inters ++ ns) n (elem_right n (all_names w.inters) ns t))
      (weaken_all (here (all_names w.inters)) p p1 w.results S.results)
      (each_more (here (all_names w.inters)) p (Closed (here (all_names w.inters))) (Closed p) p1 (closed_more (here (all_names w.inters)) p p1) w.inters S.stmts) in
      -- and after
      let r : Name → Bool = here (all_names (v.inters ++ (st ∷ []))) in
      let p2 : (n : Name) → T (p n) → T (r n) =
      here_more (all_names w.inters ++ ns) (all_names (v.inters ++ (st ∷ [])))
      (λ n t. match_names v.inters g.first.kind g.first.key ns a.arms n (subst (λ (x : List Name). T (elem n (x ++ ns))) (sym (names_kept (members g) w)) t)) in
      let b : (n : Name) → T (base n) → T (r n) = λ n t. p2 n (p1 n (S.bases n t)) in
      record {
        results = weaken_all p r p2 v.results N.0;
        stmts =
            each_append r (Closed r) v.inters (st ∷ []) (each_more p r (Closed p) (Closed r) p2 (closed_more p r p2) v.inters N.1) (
              (
                weaken base r b g.first.key (first_key_known base g f),
                (λ inputs bound scope h. A.scoped inputs bound scope (λ n t u. h n t (b n (A.held base (group_columns_known base g f) n t u)))),
              ),
              tt,
            );
        spans =
            spans_append start w.next a.next v.inters (st ∷ []) (spans_named (members g) w start w.next S.spans) (
              a.next,
              (let x = A.later in omega arith),
              unfold bound_stmt in
                  (made_append w.next a.next (bound_arms a.arms) ns (made_more v.next a.next w.next a.next later (omega arith) (bound_arms a.arms) A.made)
                  (made_more w.next v.next w.next a.next (omega arith) A.later ns (members_made (members g) w))),
              unfold bound_stmt in
                  (different_append (bound_arms a.arms) ns A.different (members_different w.next (members g))
                  (λ n t u. made_apart w.next v.next a.next ns (bound_arms a.arms) (members_made (members g) w) A.made n u t)),
              omega arith,
            );
        bases = b;
        above = (let x = S.above in let y = A.later in omega arith);
      }

  then_staged : (o : Outcome Work) → Staged o → (f : Work → Outcome Work) → ((w : Work) → Stage w → Staged (f w)) → Staged (o >>= f)
  unfolding Staged
  then_staged (ok w) S f h = h w S
  then_staged (refused i) S f h = tt

-- over scopes with names in order
module _ (scope : ℕ → List Tree → Outcome Scoped) (ih : (start : ℕ) (es : List Tree) → T (holds_all (under start) es) → Named start es (scope start es)) where
  arms_named : (ls : List (List Tree)) (start : ℕ) → AllHold (under start) ls → ArmsNamed start ls (scope_arms scope start ls)
  unfolding scope_arms ArmsNamed free_stmts bound_stmts in_scope all_different
  arms_named [] start h =
      record {
        later = omega arith;
        different = tt;
        made = λ n t. absurd (no_elem n t);
        held = λ q g n t u. absurd (no_elem n t);
        scoped = λ inputs bound scope f. tt;
      }
  arms_named (es ∷ ls) start h =
      arms_step start es ls h.1 (scope start es) (ih start es h.0) (λ k. scope_arms scope k ls)
      (λ k l. arms_named ls k (hold_more (under start) (under k) (under_le start k l) ls h.1))

  module _ (start low : ℕ) (from : start ≤ low) where
    module _ (q : Name → Bool) (new : (n : Name) → (T (under start n) → ⊥) → T (q n)) where
      group_held : (g : Group) (w : Work) → FairGroup q g → FairGroup (base start low from) g → ReadingHeld start low from q new w → WorkHeld start low from q new (fuse_group scope g w)
      unfolding fuse_group
      group_held g w f b H =
          let v = name_members (members g) w in
          let later : w.next ≤ v.next = name_members_later (members g) w in
          let ls = columns (length g.first.arms) (arms_of_members (members g)) in
          held_step start low from q new g w f H (scope_arms scope v.next ls)
          (arms_named ls v.next (hold_more (base start low from) (under v.next) (base_under start low from v.next (let y = H.above in omega arith)) ls (group_columns_known (base start low from) g b)))

      groups_held : (gs : List Group) (w : Work) → FairGroups q gs → FairGroups (base start low from) gs → ReadingHeld start low from q new w → WorkHeld start low from q new (fuse_groups scope gs w)
      unfolding fuse_groups WorkHeld
      groups_held [] w f b H = H
      groups_held (g ∷ gs) w f b H = then_held start low from q new (fuse_group scope g w) (group_held g w f.0 b.0 H) (λ v. fuse_groups scope gs v) (λ v G. groups_held gs v f.1 b.1 G)

    group_staged : (g : Group) (w : Work) → FairGroup (base start low from) g → Stage start low from w → Staged start low from (fuse_group scope g w)
    unfolding fuse_group
    group_staged g w f S =
        let v = name_members (members g) w in
        let later : w.next ≤ v.next = name_members_later (members g) w in
        let ls = columns (length g.first.arms) (arms_of_members (members g)) in
        stage_step start low from g w f S (scope_arms scope v.next ls)
        (arms_named ls v.next (hold_more (base start low from) (under v.next) (base_under start low from v.next (let y = S.above in omega arith)) ls (group_columns_known (base start low from) g f)))

    groups_staged : (gs : List Group) (w : Work) → FairGroups (base start low from) gs → Stage start low from w → Staged start low from (fuse_groups scope gs w)
    unfolding fuse_groups Staged
    groups_staged [] w f S = S
    groups_staged (g ∷ gs) w f S = then_staged start low from (fuse_group scope g w) (group_staged g w f.0 S) (λ v. fuse_groups scope gs v) (λ v H. groups_staged gs v f.1 H)

-- ---- the statements in order

module _ (inputs bound scope : List Name) where
  -- each statement of a list, the latest first, reads what is known after those behind it
  Fine : List Intermediate → Type 0
  Fine [] = Unit {0}
  Fine (s ∷ l) = T (stmt_in_scope inputs bound s (all_names l ++ scope)) × Fine l

  scope_back :
      (xs acc : List Intermediate) (vs : List Tree) → Fine xs → T (in_scope inputs bound (block acc) (all_names xs ++ scope) vs)
      → T (in_scope inputs bound (block (reverse_aux xs acc)) scope vs)
  unfolding Fine all_names
  scope_back [] acc vs f h = h
  scope_back (s ∷ xs) acc vs f h =
      scope_back xs (s ∷ acc) vs f.1
      (unfold in_scope block in
      (and_both (stmt_in_scope inputs bound s (all_names xs ++ scope)) (in_scope inputs bound (block acc) (names s ++ (all_names xs ++ scope)) vs) f.0
      (subst (λ (x : List Name). T (in_scope inputs bound (block acc) x vs)) (append_assoc (names s) (all_names xs) scope) h)))

  results_scoped : (s : List Name) (vs : List Tree) → T (known inputs bound s (all_symbols vs)) → T (in_scope inputs bound (block []) s vs)
  unfolding in_scope block
  results_scoped s vs h = h

  module _ (start : ℕ) (l : List Intermediate) (closed : Each (λ n. under start n || elem n (all_names l)) (Closed (λ n. under start n || elem n (all_names l))) l) where
    fine :
        (done : List ℕ) → Ordered (needs l l) done → All (λ j. j < length l) done
        → ((i : ℕ) → T (member i done) → (n : Name) → T (elem n (free (get_or l i nothing))) → T (under start n) → Known inputs bound scope n) → Fine (at_each l done)
    unfolding Fine at_each
    fine [] o a f = tt
    fine (i ∷ done) o a f = (
      each_scoped (λ n. under start n || elem n (all_names l)) l closed i a.0 inputs bound (all_names (at_each l done) ++ scope)
          (λ n t u.
          elim (or_cases (under start n) (elem n (all_names l)) u) [
            | inl x ↦ known_further inputs bound (all_names (at_each l done)) scope n (f i (member_here i done) n t x)
            | inr y ↦ or_left (elem n (all_names (at_each l done) ++ scope)) _ (elem_left n (all_names (at_each l done)) scope (bound_before l i done a.0 o.0 n t y))
          ]),
      fine done o.1 a.1 (λ j m. f j (member_later j i done m)),
    )

    -- where none is missing
    sorted_scoped :
        (results : List Tree) → T (holds_all (λ n. under start n || elem n (all_names l)) results) → length (positions_taken (needs l l)) ≡ length l
        → ((n : Name) → T (elem n (free_stmts (block (reverse (at_each l (positions_taken (needs l l))))) ++ all_symbols results)) → T (under start n) → Known inputs bound scope n)
        → T (in_scope inputs bound (block (reverse (at_each l (positions_taken (needs l l))))) scope results)
    sorted_scoped results h e f =
        let done = positions_taken (needs l l) in
        let k : Taken (needs l l) done = taken_ok (needs l l) in
        let inside : All (λ j. j < length l) done = subst (λ (m : ℕ). All (λ j. j < m) done) (needs_length l l) k.inside in
        let stmts = free_stmts (block (reverse (at_each l done))) in
        let last : T (known inputs bound (all_names (at_each l done) ++ scope) (all_symbols results)) =
        known_by inputs bound (all_names (at_each l done) ++ scope) (all_symbols results)
        (λ n t.
        elim (or_cases (under start n) (elem n (all_names l)) (holds_all_at (λ n. under start n || elem n (all_names l)) results n h t)) [
          | inl x ↦ known_further inputs bound (all_names (at_each l done)) scope n (f n (elem_right n stmts (all_symbols results) t) x)
          | inr y ↦ or_left (elem n (all_names (at_each l done) ++ scope)) _
              (elem_left n (all_names (at_each l done)) scope
              (let r = name_place l n y in place_name l done r.0 n (none_missing (length l) done k.distinct inside e r.0 r.1) r.2))
        ]) in
        scope_back (at_each l done) [] results
        (fine done k.ordered inside (λ i m n t u. f n (elem_left n stmts (all_symbols results) (free_placed l done [] i n m t)) u)) (results_scoped (all_names (at_each l done) ++ scope) results last)

-- ---- a scope

-- the test of being read by the input, or made by the scope
outside : (Name → Bool) → ℕ → Name → Bool
outside p start n = p n || not (under start n)

module _ (start : ℕ) (es : List Tree) where
  sorted_step :
      (w : Work) (x : ℕ) (l : List Intermediate) (b : Bool) → (T b → ScopeNames start es (record { inters = l; results = w.results; next = w.next; extracted = x }))
      → Named start es
      ((elim b as (λ _. Outcome (List Intermediate)) [ true ↦ ok l | false ↦ refused (by 11) ])
      >>= λ l. ok (record { inters = l; results = w.results; next = w.next; extracted = x }))
  unfolding Named
  sorted_step w x l true h = h tt
  sorted_step w x l false h = tt

  outside_new : (p : Name → Bool) (n : Name) → (T (under start n) → ⊥) → T (outside p start n)
  unfolding outside
  outside_new p n f = or_right (p n) (not (under start n)) (not_T (under start n) f)

  outside_old : (p : Name → Bool) (n : Name) → T (outside p start n) → T (under start n) → T (p n)
  unfolding outside
  outside_old p n t u = elim (or_cases (p n) (not (under start n)) t) [ inl a ↦ a | inr b ↦ absurd (T_not (under start n) b u) ]

  finished :
      (low : ℕ) (from : start ≤ low) (w : Work) → ((p : Name → Bool) → T (holds_all p es) → ReadingHeld start low from (outside p start) (outside_new p) w)
      → Stage start low from w → Named start es (finish w)
  unfolding finish topo_sort_intermediates here
  finished low from w H S =
      let l = w.inters in
      let done = positions_taken (needs l l) in
      let k : Taken (needs l l) done = taken_ok (needs l l) in
      let inside : All (λ j. j < length l) done = subst (λ (m : ℕ). All (λ j. j < m) done) (needs_length l l) k.inside in
      sorted_step w w.extracted (reverse (at_each l done)) (eqb (length done) (length l))
      (λ t.
      record {
        later = (let a = S.above in omega arith);
        different =
            different_back start w.next l S.spans done [] k.distinct inside (unfold all_different bound_stmts block in tt)
            (λ i m n u v. no_elem n (unfold bound_stmts block in v));
        made = made_back start w.next l S.spans done [] inside (λ n u. absurd (no_elem n (unfold bound_stmts block in u)));
        held = λ p h n u v.
            outside_old p n
            (sub_append (outside p start) (free_stmts (block (reverse (at_each l done)))) (all_symbols w.results)
            (free_back (outside p start) l done [] inside (each_free (outside p start) l (H p h).stmts) (λ y z. absurd (no_elem y (unfold free_stmts block in z))))
            (λ y z. holds_all_at (outside p start) w.results y (H p h).results z) n u)
            v;
        scoped = λ inputs bound sc f. sorted_scoped inputs bound sc start l S.stmts w.results S.results (eqb→eq (length done) (length l) t) f;
      })

  then_finished :
      (low : ℕ) (from : start ≤ low) (o : Outcome Work)
      → ((p : Name → Bool) → T (holds_all p es) → WorkHeld start low from (outside p start) (outside_new p) o) → Staged start low from o
      → Named start es (o >>= λ w. finish w)
  unfolding WorkHeld Staged Named
  then_finished low from (ok w) H S = finished low from w H S
  then_finished low from (refused i) H S = tt

-- ---- from the rounds and reciprocals of a scope

-- any reading serves to say that the rounds' names are in order
some_reading : Reading
some_reading = record { modulus = 2; two_up = omega arith; reciprocal = λ a. a; function = λ k l. 0; index = λ a. a; sign = λ a. true }

xname_made : (k : ℕ) (n : Name) → n ≡ xname k → Made k (suc k) (n ∷ [])
unfolding below
xname_made k n e x t =
    elim (elem_cases x n [] t) [
      | inl q ↦ subst (λ (y : Name). (T (under k y) → ⊥) × T (under (suc k) y)) (sym e ∙ q) ((λ u. let z = ltb→lt k k u in omega arith), lt→ltb k (suc k) (omega arith))
      | inr u ↦ absurd (no_elem x u)
    ]

binds_spans : (k top : ℕ) (l : List Binding) → Numbered k top (let_names l) → Spans k top (binds l)
unfolding let_names binds bound_stmt all_different elem
binds_spans k top [] h = omega (arith, h)
binds_spans k top (b ∷ l) h = (suc k, (omega arith), xname_made k b.name h.0, tt, binds_spans (suc k) top l h.1)

lets_each : (q : Name → Bool) (start : ℕ) (new : (i : ℕ) → start ≤ i → T (q (xname i))) (l : List Binding) → LetsHold q start new l → Each q (λ a. Sub q (free_arms a)) (binds l)
unfolding binds
lets_each q start new [] h = tt
lets_each q start new (b ∷ l) h = (h.0, lets_each q start new l h.1)

module _ (start : ℕ) (es : List Tree) where
  ρ : Env
  ρ n = 0

  Mod : State → Type 0
  Mod s = Model some_reading (λ s. true) start ρ (values some_reading ρ es) s

  outside_x : (p : Name → Bool) (i : ℕ) → start ≤ i → T (outside p start (xname i))
  unfolding below
  outside_x p i h = outside_new start es p (xname i) (λ t. let z = ltb→lt i start t in omega arith)

  module _ (s : State) (M : Mod s) where
    from : start ≤ s.next
    unfolding Mod
    from = M.later

    own : (n : Name) → T (below (λ x. true) start s.next n) → T (under start n || elem n (all_names (binds s.lets)))
    unfolding below Mod
    own (input x) t = tt
    own (xname i) t =
        elim (decide (ltb i start)) [
          | inl u ↦ or_left (ltb i start) _ u
          | inr u ↦ or_right (ltb i start) (elem (xname i) (all_names (binds s.lets)))
              (subst (λ (l : List Name). T (elem (xname i) l)) (sym (bind_names s.lets))
              (numbered_elem start s.next i (let_names s.lets) M.numbered (nltb→le i start (not_T (ltb i start) u)) (ltb→lt i s.next t)))
        ]
    own (mname i) t = or_left (ltb i start) _ t

    binds_each :
        (p : Name → Bool) → ((n : Name) → T (below (λ x. true) start s.next n) → T (p n)) → (l : List Binding)
        → Binds some_reading (λ x. true) start s.next (unfold Mod in M.env) l → Each p (Closed p) (binds l)
    unfolding Binds binds
    binds_each p f [] h = tt
    binds_each p f (b ∷ l) h = (weaken (below (λ x. true) start s.next) p f b.expr h.0.1, binds_each p f l h.1)

    begun : (x : ℕ) → Stage start s.next from (unfused x s)
    unfolding unfused here base Mod
    begun x =
        let p : Name → Bool = λ n. under start n || elem n (all_names (binds s.lets)) in
        record {
          results = weaken_all (below (λ x. true) start s.next) p own s.results M.known;
          stmts = binds_each p own s.lets M.binds;
          spans = binds_spans start s.next s.lets M.numbered;
          bases = own;
          above = omega arith;
        }

    groups_base : FairGroups (base start s.next from) (groups_from [] (collect_switches (roots s)))
    unfolding base Mod
    groups_base = groups_fair (below (λ x. true) start s.next) (roots s) (roots_known some_reading (λ x. true) start ρ (values some_reading ρ es) s M)

    begun_held : (x : ℕ) (p : Name → Bool) → Held (outside p start) start (outside_x p) s → ReadingHeld start s.next from (outside p start) (outside_new start es p) (unfused x s)
    unfolding unfused
    begun_held x p H = record { results = H.results; stmts = lets_each (outside p start) start (outside_x p) s.lets H.lets; above = omega arith }

  flat_step :
      (o : Outcome State) → Modeled some_reading (λ s. true) start ρ (values some_reading ρ es) o
      → ((p : Name → Bool) → T (holds_all p es) → AllHeld (outside p start) start (outside_x p) o)
      → Named start es (o >>= λ s. finish (unfused (length s.lets) (reciprocals false s)))
  unfolding Modeled AllHeld Named Mod
  flat_step (refused i) M H = tt
  flat_step (ok s) M H =
      let t = reciprocals false s in
      let N : Mod t = reciprocals_keep some_reading (λ s. true) start ρ (values some_reading ρ es) false s M in
      finished start es t.next (from t N) (unfused (length s.lets) t)
      (λ p h. begun_held t N (length s.lets) p (reciprocals_held (outside p start) start (outside_x p) false s (H p h))) (begun t N (length s.lets))

  module _ (scope : ℕ → List Tree → Outcome Scoped) (ih : (start : ℕ) (es : List Tree) → T (holds_all (under start) es) → Named start es (scope start es)) where
    module _ (x : ℕ) (s : State) (M : Mod s) where
      fused_staged : Staged start s.next (from s M) (fuse_all scope x s)
      unfolding fuse_all
      fused_staged = groups_staged scope ih start s.next (from s M) (groups_from [] (collect_switches (roots s))) (unfused x s) (groups_base s M) (begun s M x)

      fused_held :
          (p : Name → Bool) → Held (outside p start) start (outside_x p) s → WorkHeld start s.next (from s M) (outside p start) (outside_new start es p) (fuse_all scope x s)
      unfolding fuse_all
      fused_held p H =
          groups_held scope ih start s.next (from s M) (outside p start) (outside_new start es p) (groups_from [] (collect_switches (roots s))) (unfused x s)
          (groups_fair (outside p start) (roots s) (roots_held (outside p start) start (outside_x p) s H)) (groups_base s M)
          (begun_held s M x p H)

  -- its arms' scopes have what is left after what it holds
  scoped_step :
      (scope : ℕ → ℕ → List Tree → Outcome Scoped) → ((left start : ℕ) (es : List Tree) → T (holds_all (under start) es) → Named start es (scope left start es))
      → (left : ℕ) (o : Outcome State) → Modeled some_reading (λ s. true) start ρ (values some_reading ρ es) o
      → ((p : Name → Bool) → T (holds_all p es) → AllHeld (outside p start) start (outside_x p) o)
      → Named start es (o >>= λ s. fuse_held (λ n l. scope (left_after left (length s.lets) (reciprocals true s)) n l) left (length s.lets) (reciprocals true s))
  unfolding Modeled AllHeld Named Mod
  scoped_step scope ih left (refused i) M H = tt
  scoped_step scope ih left (ok s) M H =
      let t = reciprocals true s in
      let inner : ℕ → List Tree → Outcome Scoped = λ n l. scope (left_after left (length s.lets) t) n l in
      let named : (n : ℕ) (l : List Tree) → T (holds_all (under n) l) → Named n l (inner n l) = λ n l g. ih (left_after left (length s.lets) t) n l g in
      let N : Mod t = reciprocals_keep some_reading (λ s. true) start ρ (values some_reading ρ es) true s M in
      or_not_held (Named start es) tt inner left (length s.lets) t
      (then_finished start es t.next (from t N) (fuse_all inner (length s.lets) t)
      (λ p h. fused_held inner named (length s.lets) t N p (reciprocals_held (outside p start) start (outside_x p) true s (H p h))) (fused_staged inner named (length s.lets) t N))

  outside_all : (p : Name → Bool) → T (holds_all p es) → T (holds_all (outside p start) es)
  unfolding outside
  outside_all p h = weaken_all p (outside p start) (λ n t. or_left (p n) (not (under start n)) t) es h

scope_names : (fuel left : ℕ) (scoped : Bool) (start : ℕ) (es : List Tree) → T (holds_all (under start) es) → Named start es (cse_scope fuel left scoped start es)
unfolding cse_scope Named
scope_names zero left scoped start es h = tt
scope_names (suc fuel) left false start es h =
    flat_step start es (extract_all false start es) (extract_all_keeps some_reading (λ s. true) start (ρ start es) false es h)
    (λ p g. extract_all_held (outside p start) start (outside_x start es p) false es (outside_all start es p g))
scope_names (suc fuel) left true start es h =
    or_no_room (Named start es) tt (opens left start es) _
    (scoped_step start es (λ k n l. cse_scope fuel k true n l) (λ k n l g. scope_names fuel k true n l g) left (extract_all true start es)
    (extract_all_keeps some_reading (λ s. true) start (ρ start es) true es h)
    (λ p g. extract_all_held (outside p start) start (outside_x start es p) true es (outside_all start es p g)))

-- ---- the answer

as_well : (es : List Tree) (o : Outcome Scoped) → Named 0 es o → (a : Answer) → (o >>= λ x. ok (as_answer x)) ≡ ok a → T (well_scoped es a)
unfolding Named
as_well es (refused i) h a e = (let z : ◌≡◌ {A = ℕ} 0 1 = cc in absurd (omega arith))
as_well es (ok x) h a e = subst (λ (b : Answer). T (well_scoped es b)) (answer_of x a e) well
  where
    answer_of : (x : Scoped) (a : Answer) → ◌≡◌ {A = Outcome Answer} (ok (as_answer x)) (ok a) → as_answer x ≡ a
    answer_of x a e = cc

    b : List Name
    b = bound_stmts (block x.inters)

    input_known : (n : Name) → T (elem n (read_by x)) → T (under 0 n) → Known (all_symbols es) b [] n
    input_known n t u =
        or_right (elem n []) (elem n (all_symbols es) && not (elem n b))
        (and_both (elem n (all_symbols es)) (not (elem n b)) (h.held (λ y. elem y (all_symbols es)) (holds_all_by (λ y. elem y (all_symbols es)) es (λ y z. z)) n t u)
        (not_T (elem n b) (λ v. (h.made n v).0 u)))

    well : T (well_scoped es (as_answer x))
    well =
        unfold well_scoped as_answer in
        (and_both (all_different b) (in_scope (all_symbols es) b (block x.inters) [] x.results) h.different (h.scoped (all_symbols es) b [] input_known))

-- In each answer each name is bound once, and used only later and inside its scope, for a list that holds no name of an answer.
pub answer_well_scoped : (scoped : Bool) (es : List Tree) → T (holds_all (under 0) es) → (a : Answer) → answer scoped es ≡ ok a → T (well_scoped es a)
unfolding answer
answer_well_scoped scoped es h a e = as_well es (cse_scope scopes_open area_rows scoped 0 es) (scope_names scopes_open area_rows scoped 0 es h) a e
