-- An answer is refused by 10, 11 or 23 alone, and the flat form by 10 alone. Assumes nothing.
use Prim.Native.Nat.{ℕ, zero, suc, ◌+◌, ◌*◌, ◌%◌, ◌/◌, ◌^◌, ◌<◌}
use mathlib.Core.Path.{◌≡◌, refl, ◌∙◌, ap, subst}
use mathlib.Core.Logic.{◌⊎◌, inl, inr}
use mathlib.Core.Bool.{Bool, true, false, ◌&&◌}
use mathlib.Core.Option.{Option, none, some}
use mathlib.Core.List.{List, [], ◌∷◌, reverse}
use native.Mathlib.Omega.{arith}
use lib.IntN.{ℤ}
use lib.ListN.{length, get_or}
use lib.Dec.{T, eqb, ltb, eqb_refl, ltb→lt}
use lib.Ieee.{Float, nan, inf, fin, up, down}
use Rattle.spec_tree.specs.Outcome.{Refusal, Outcome, ok, refused, ◌>>=◌, each, by}
use Rattle.spec_tree.specs.Tree.{Name, xname, Tree, Forest, Sym, Const, Op, nil, ◌◂◌, eq_tree}
use Rattle.spec_tree.specs.Kinds.{Mul}
use Rattle.spec_tree.specs.Facts.{all_operations, size}
use Rattle.spec_rewrite.specs.Rewrite.{Factors, whole_number, constant_of, built, build_mul_from_factors, match_factors, each_operand, replace_within, replace}
use Rattle.spec_cse.specs.Extract.{Binding, State, Candidate, roots, best, replace_bound, extract, rounds, extract_all, reciprocals}
use Rattle.spec_cse.specs.Answer.{Intermediate, Let, Match, names, symbols, free, elem}
use Rattle.spec_cse.specs.Order.{meets, needs_from, needs, member, positions_taken, nothing, at_each, topo_sort_intermediates}
use Rattle.spec_cse.specs.Scope.{Group, Work, Scoped, Armed, members, collect_switches, groups_from, name_members, columns, arms_of_members, scope_arms, fuse_group, fuse_groups, fuse_all, binds, unfused, finish, cse_scope, left_after, opens, area_rows, scopes_open, as_answer, answer}
use Rattle.spec_tree.specs.Value.{values}
use Rattle.spec_tree.proofs.Logic.{and_right}
use Rattle.spec_rewrite.proofs.Names.{holds, holds_all}
use Rattle.laws.proofs.cse.Symbols.{holds_at}
use Rattle.laws.proofs.cse.ReadLaws.{needs_at, needs_length}
use Rattle.laws.proofs.cse.ScopeValue.{under}
use Rattle.laws.proofs.cse.RoundsValue.{let_names, Numbered, reciprocals_keep}
use Rattle.laws.proofs.cse.FlatCount.{some_reading, rounds_model, list_made}
use Rattle.laws.proofs.cse.OrderLaws.{member_cases}
use Rattle.laws.proofs.cse.OrderWhole.{all_taken}
use Rattle.laws.proofs.cse.Ranks.{low, Ranked, Ranks, AllRanks, extract_all_ranks, reciprocals_ranks}
use Rattle.laws.proofs.cse.ScopeRoom.{or_no_room, or_not_held}

-- ---- refusals by some numbers alone

module _ (P : Refusal → Type 0) where
  pub Only : {A : Type 0} → Outcome A → Type 0
  Only (ok a) = Unit {0}
  Only (refused i) = P i

  then_only : {A B : Type 0} (o : Outcome A) → Only o → (f : A → Outcome B) → ((a : A) → Only (f a)) → Only (o >>= f)
  unfolding Only
  then_only (ok a) h f g = g a
  then_only (refused i) h f g = h

  only_ok : {A : Type 0} (a : A) → Only (ok a)
  unfolding Only
  only_ok a = tt

  each_only : {A B : Type 0} (f : A → Outcome B) → ((a : A) → Only (f a)) → (l : List A) → Only (each f l)
  unfolding each
  each_only f g [] = only_ok []
  each_only f g (a ∷ l) = then_only (f a) (g a) (λ b. each f l >>= λ r. ok (b ∷ r)) (λ b. then_only (each f l) (each_only f g l) (λ r. ok (b ∷ r)) (λ r. only_ok (b ∷ r)))

pub only_more : (P Q : Refusal → Type 0) → ((i : Refusal) → P i → Q i) → {A : Type 0} (o : Outcome A) → Only P o → Only Q o
unfolding Only
only_more P Q f (ok a) h = tt
only_more P Q f (refused i) h = f i h

pub only_at : (P : Refusal → Type 0) {A : Type 0} (o : Outcome A) (i : Refusal) → o ≡ refused i → Only P o → P i
unfolding Only
only_at P o i e h = subst (Only P) e h

-- ---- rounds: 10

abbrev pub Ten : Refusal → Type 0
Ten i = i ≡ by 10

whole_ten : (s : Bool) (n : ℕ) → Only Ten (whole_number s n)
unfolding whole_number Only
whole_ten false n = tt
whole_ten true zero = refl
whole_ten true (suc n) = tt

constant_ten : (x : Float) → Only Ten (constant_of x)
unfolding constant_of Only
constant_ten nan = refl
constant_ten (inf s) = refl
constant_ten (fin s m e) = go (eqb (m * up e % down e) 0 && ltb (m * up e / down e) (10 ^ 15))
  where
    go : (b : Bool) → Only Ten {A = ℤ} (elim b [ true ↦ whole_number s (m * up e / down e) | false ↦ refused (by 10) ])
    go true = whole_ten s (m * up e / down e)
    go false = (unfold Only in refl)

built_ten : (q : Factors) → Only Ten (build_mul_from_factors q)
unfolding build_mul_from_factors
built_ten q = then_only Ten (constant_of q.coefficient) (constant_ten q.coefficient) (λ c. ok (built c q.factors)) (λ c. only_ok Ten (built c q.factors))

operands_ten : (g : Tree → Outcome Tree) → ((t : Tree) → Only Ten (g t)) → (f : Forest) → Only Ten (each_operand g f)
unfolding each_operand
operands_ten g h nil = only_ok Ten nil
operands_ten g h (t ◂ f) =
    then_only Ten (g t) (h t) (λ u. each_operand g f >>= λ r. ok (u ◂ r)) (λ u. then_only Ten (each_operand g f) (operands_ten g h f) (λ r. ok (u ◂ r)) (λ r. only_ok Ten (u ◂ r)))

module _ (target : Tree) (n : Name) where
  node_ten :
      (k : ℕ) (f : Forest) (g : Tree → Outcome Tree) → ((t : Tree) → Only Ten (g t)) → (b d : Bool) (o : Option Factors)
      → Only Ten {A = Tree}
      (elim b [
        | true ↦ ok (Sym n)
        | false ↦ elim d [
          | true ↦ elim o [
            | none ↦ (each_operand g f >>= λ r. ok (Op k r))
            | some q ↦ (build_mul_from_factors q >>= λ t. g t)
          ]
          | false ↦ (each_operand g f >>= λ r. ok (Op k r))
        ]
      ])
  node_ten k f g h true d o = only_ok Ten (Sym n)
  node_ten k f g h false true none = then_only Ten (each_operand g f) (operands_ten g h f) (λ r. ok (Op k r)) (λ r. only_ok Ten (Op k r))
  node_ten k f g h false true (some q) = then_only Ten (build_mul_from_factors q) (built_ten q) g h
  node_ten k f g h false false o = then_only Ten (each_operand g f) (operands_ten g h f) (λ r. ok (Op k r)) (λ r. only_ok Ten (Op k r))

  leaf_ten : (t : Tree) (b : Bool) → Only Ten {A = Tree} (elim b [ true ↦ ok (Sym n) | false ↦ ok t ])
  leaf_ten t true = only_ok Ten (Sym n)
  leaf_ten t false = only_ok Ten t

  within_ten : (fuel : ℕ) (e : Tree) → Only Ten (replace_within fuel target n e)
  unfolding replace_within
  within_ten zero e = only_ok Ten e
  within_ten (suc fuel) (Sym s) = leaf_ten (Sym s) (eq_tree (Sym s) target)
  within_ten (suc fuel) (Const c) = leaf_ten (Const c) (eq_tree (Const c) target)
  within_ten (suc fuel) (Op k f) =
      node_ten k f (λ t. replace_within fuel target n t) (λ t. within_ten fuel t) (eq_tree (Op k f) target) (eqb k Mul) (match_factors target n (Op k f))

  replace_ten : (e : Tree) → Only Ten (replace target n e)
  unfolding replace
  replace_ten e = within_ten (2 * size e) e

  bound_ten : (b : Binding) → Only Ten (replace_bound target n b)
  unfolding replace_bound
  bound_ten b =
      then_only Ten (replace target n b.expr) (replace_ten b.expr) (λ e. ok (record { name = b.name; expr = e })) (λ e. only_ok Ten {A = Binding} (record { name = b.name; expr = e }))

extract_ten : (x : Tree) (s : State) → Only Ten (extract x s)
unfolding extract
extract_ten x s =
    let n = xname s.next in
    then_only Ten (each (λ e. replace x n e) s.results) (each_only Ten (λ e. replace x n e) (replace_ten x n) s.results) _
    (λ rs. then_only Ten (each (λ b. replace_bound x n b) s.lets) (each_only Ten (λ b. replace_bound x n b) (bound_ten x n) s.lets) _
    (λ ls. only_ok Ten {A = State} _))

round_ten : (s : State) (o : Option Candidate) (g : State → Outcome State) → ((t : State) → Only Ten (g t)) → Only Ten {A = State} (elim o [ none ↦ ok s | some c ↦ (extract c.tree s >>= λ t. g t) ])
round_ten s none g h = only_ok Ten s
round_ten s (some c) g h = then_only Ten (extract c.tree s) (extract_ten c.tree s) g h

rounds_ten : (fuel : ℕ) (scoped : Bool) (s : State) → Only Ten (rounds fuel scoped s)
unfolding rounds
rounds_ten zero scoped s = only_ok Ten s
rounds_ten (suc fuel) scoped s = round_ten s (best scoped (roots s)) (λ t. rounds fuel scoped t) (λ t. rounds_ten fuel scoped t)

pub extract_all_ten : (scoped : Bool) (next : ℕ) (es : List Tree) → Only Ten (extract_all scoped next es)
unfolding extract_all
extract_all_ten scoped next es = rounds_ten (all_operations es) scoped (record { results = es; lets = []; next = next })

-- ---- scopes: 10, 11 or 23

abbrev pub OfSteps : Refusal → Type 0
OfSteps i = (i ≡ by 10) ⊎ ((i ≡ by 11) ⊎ (i ≡ by 23))

sort_only : (l : List Intermediate) → Only OfSteps (topo_sort_intermediates l)
unfolding topo_sort_intermediates
sort_only l = go (eqb (length (positions_taken (needs l l))) (length l))
  where
    go : (b : Bool) → Only OfSteps {A = (List Intermediate)} (elim b [ true ↦ ok (reverse (at_each l (positions_taken (needs l l)))) | false ↦ refused (by 11) ])
    go true = only_ok OfSteps (reverse (at_each l (positions_taken (needs l l))))
    go false = (unfold Only in inr (inl refl))

finish_only : (w : Work) → Only OfSteps (finish w)
unfolding finish
finish_only w = then_only OfSteps (topo_sort_intermediates w.inters) (sort_only w.inters) _ (λ l. only_ok OfSteps {A = Scoped} _)

module _ (scope : ℕ → List Tree → Outcome Scoped) (only : (n : ℕ) (es : List Tree) → Only OfSteps (scope n es)) where
  arms_only : (next : ℕ) (l : List (List Tree)) → Only OfSteps (scope_arms scope next l)
  unfolding scope_arms
  arms_only next [] = only_ok OfSteps {A = Armed} _
  arms_only next (es ∷ l) =
      then_only OfSteps (scope next es) (only next es) _
      (λ a. then_only OfSteps (scope_arms scope a.next l) (arms_only a.next l) _ (λ r. only_ok OfSteps {A = Armed} _))

  group_only : (g : Group) (w : Work) → Only OfSteps (fuse_group scope g w)
  unfolding fuse_group
  group_only g w =
      let v = name_members (members g) w in
      let l = columns (length g.first.arms) (arms_of_members (members g)) in
      then_only OfSteps (scope_arms scope v.next l) (arms_only v.next l) _ (λ a. only_ok OfSteps {A = Work} _)

  groups_only : (gs : List Group) (w : Work) → Only OfSteps (fuse_groups scope gs w)
  unfolding fuse_groups
  groups_only [] w = only_ok OfSteps w
  groups_only (g ∷ gs) w = then_only OfSteps (fuse_group scope g w) (group_only g w) _ (λ v. groups_only gs v)

  fuse_only : (x : ℕ) (s : State) → Only OfSteps (fuse_all scope x s)
  unfolding fuse_all
  fuse_only x s = groups_only (groups_from [] (collect_switches (roots s))) (unfused x s)

rounds_only : (scoped : Bool) (next : ℕ) (es : List Tree) → Only OfSteps (extract_all scoped next es)
rounds_only scoped next es = only_more Ten OfSteps (λ i e. inl e) (extract_all scoped next es) (extract_all_ten scoped next es)

scope_only : (fuel left : ℕ) (scoped : Bool) (next : ℕ) (es : List Tree) → Only OfSteps (cse_scope fuel left scoped next es)
unfolding cse_scope
scope_only zero left scoped next es = (unfold Only in inr (inr refl))
scope_only (suc fuel) left false next es =
    then_only OfSteps (extract_all false next es) (rounds_only false next es) _ (λ s. finish_only (unfused (length s.lets) (reciprocals false s)))
scope_only (suc fuel) left true next es =
    let inner : State → ℕ → List Tree → Outcome Scoped = λ s n l. cse_scope fuel (left_after left (length s.lets) (reciprocals true s)) true n l in
    or_no_room (Only OfSteps {A = Scoped}) (unfold Only in inr (inr refl)) (opens left next es) _
    (then_only OfSteps (extract_all true next es) (rounds_only true next es) _
    (λ s. or_not_held (Only OfSteps) (unfold Only in inr (inr refl)) (inner s) left (length s.lets) (reciprocals true s)
    (then_only OfSteps (fuse_all (inner s) (length s.lets) (reciprocals true s))
    (fuse_only (inner s) (λ n l. scope_only fuel _ true n l) (length s.lets) (reciprocals true s)) _ (λ w. finish_only w))))

answer_only : (scoped : Bool) (es : List Tree) → Only OfSteps (answer scoped es)
unfolding answer
answer_only scoped es =
    then_only OfSteps (cse_scope scopes_open area_rows scoped 0 es) (scope_only scopes_open area_rows scoped 0 es) _ (λ a. only_ok OfSteps (as_answer a))

-- Whatever the list, an answer is refused by 10, 11 or 23 alone.
pub refused_by_10_11_or_23 : (scoped : Bool) (es : List Tree) (i : Refusal) → answer scoped es ≡ refused i → (i ≡ by 10) ⊎ ((i ≡ by 11) ⊎ (i ≡ by 23))
refused_by_10_11_or_23 scoped es i e = only_at OfSteps (answer scoped es) i e (answer_only scoped es)

-- ---- the flat form: never 11

record Need (read : List Name) (l : List Intermediate) (i j : ℕ) : Type 0 where
  place : ℕ
  there : j ≡ i + place
  inside : place < length l
  reads : T (meets (names (get_or l place nothing)) read)

needs_back : (i : ℕ) (read : List Name) (l : List Intermediate) (j : ℕ) → T (member j (needs_from i read l)) → Need read l i j
unfolding needs_from
needs_back i read [] j t = absurd (unfold member in t)
needs_back i read (s ∷ l) j t = go (meets (names s) read) (λ u. u) t (λ u. later (needs_back (suc i) read l j u))
  where
    later : Need read l (suc i) j → Need read (s ∷ l) i j
    later N = record { place = suc N.place; there = (let e = N.there in omega arith); inside = (let h = N.inside in omega arith); reads = N.reads }

    go : (b : Bool) → (T b → T (meets (names s) read)) → T (member j (elim b [ true ↦ i ∷ needs_from (suc i) read l | false ↦ needs_from (suc i) read l ]))
        → (T (member j (needs_from (suc i) read l)) → Need read (s ∷ l) i j) → Need read (s ∷ l) i j
    go true f t k =
        elim (member_cases j i (needs_from (suc i) read l) t) [
          | inl e ↦ record { place = 0; there = (omega (arith, e)); inside = omega arith; reads = f tt }
          | inr u ↦ k u
        ]
    go false f t k = k t

module _ (r : ℕ → ℕ) (n : ℕ) where
  -- a binding at its place, over names of lower rank
  Placed : ℕ → Intermediate → Type 0
  Placed m (Let a e) = (a ≡ xname m) × T (holds (low r n (r m)) e)
  Placed m (Match k key ns arms) = ⊥

  placed : (k top : ℕ) (l : List Binding) → Numbered k top (let_names l) → Ranked r n k l → (i : ℕ) → i < length (binds l) → Placed (k + i) (get_or (binds l) i nothing)
  unfolding let_names binds Placed
  placed k top [] g h i q = absurd (omega arith)
  placed k top (b ∷ l) g h zero q =
      subst (λ (m : ℕ). (b.name ≡ xname m) × T (holds (low r n (r m)) b.expr)) (let e : k ≡ k + 0 = omega arith in e) (g.0, h.0)
  placed k top (b ∷ l) g h (suc i) q =
      subst (λ (m : ℕ). Placed m (get_or (binds l) i nothing)) (let e : suc k + i ≡ k + suc i = omega arith in e) (placed (suc k) top l g.1 h.1 i (omega arith))

  falls_at : (s u : Intermediate) (i j : ℕ) → Placed i s → Placed j u → T (meets (names u) (free s)) → r j < r i
  unfolding Placed names free meets low
  falls_at (Let a e) (Let b f) i j p q t =
      (let m : T (elem (xname j) (symbols e)) = subst (λ (x : Name). T (elem x (symbols e))) q.0 (go (elem b (symbols e)) t) in
      let w : T (ltb j n && ltb (r j) (r i)) = holds_at (low r n (r i)) e (xname j) p.1 m in
      ltb→lt (r j) (r i) (and_right (ltb j n) (ltb (r j) (r i)) w))
    where
      go : (c : Bool) → T (elim c [ true ↦ true | false ↦ false ]) → T c
      go true t = tt
      go false t = t
  falls_at (Let a e) (Match k key ns arms) i j p q t = absurd q
  falls_at (Match k key ns arms) u i j p q t = absurd p

-- bindings with ranks are all taken
sort_ten : (s : State) → Ranks s → Numbered 0 s.next (let_names s.lets) → Only Ten (topo_sort_intermediates (binds s.lets))
unfolding topo_sort_intermediates
sort_ten s K N =
    go (eqb (length (positions_taken (needs l l))) (length l)) (subst (λ (m : ℕ). T (eqb (length (positions_taken (needs l l))) m)) all (eqb_refl (length (positions_taken (needs l l)))))
  where
    l : List Intermediate
    l = binds s.lets

    at : (i : ℕ) → i < length l → Placed K.rank s.next i (get_or l i nothing)
    at i h = subst (λ (m : ℕ). Placed K.rank s.next m (get_or (binds s.lets) i nothing)) (let e : 0 + i ≡ i = omega arith in e) (placed K.rank s.next 0 s.next s.lets N K.lets i h)

    falls : (i j : ℕ) → i < length (needs l l) → T (member j (get_or (needs l l) i [])) → (j < length (needs l l)) × (K.rank j < K.rank i)
    falls i j h t =
        let z = needs_length l l in
        let q : i < length l = omega arith in
        let D = needs_back 0 (free (get_or l i nothing)) l j (subst (λ (x : List ℕ). T (member j x)) (needs_at l l i q) t) in
        let e : D.place ≡ j = (let a = D.there in omega arith) in
        let w = falls_at K.rank s.next (get_or l i nothing) (get_or l D.place nothing) i D.place (at i q) (at D.place D.inside) D.reads in
        ((let a = D.inside in omega arith), subst (λ (m : ℕ). K.rank m < K.rank i) e w)

    all : length (positions_taken (needs l l)) ≡ length l
    all = all_taken (needs l l) K.rank falls ∙ needs_length l l

    go : (b : Bool) → T b → Only Ten {A = (List Intermediate)} (elim b [ true ↦ ok (reverse (at_each l (positions_taken (needs l l)))) | false ↦ refused (by 11) ])
    go true t = only_ok Ten (reverse (at_each l (positions_taken (needs l l))))
    go false t = absurd t

module _ (es : List Tree) (known : T (holds_all (under 0) es)) where
  finish_ten : (s : State) → extract_all false 0 es ≡ ok s → Ranks s → Only Ten (finish (unfused (length s.lets) (reciprocals false s)))
  unfolding finish unfused
  finish_ten s e K =
      let M = reciprocals_keep some_reading (λ s. true) 0 (λ n. 0) (values some_reading (λ n. 0) es) false s (rounds_model es known s e) in
      then_only Ten (topo_sort_intermediates (binds (reciprocals false s).lets)) (sort_ten (reciprocals false s) (reciprocals_ranks false s K) M.numbered) _
      (λ l. only_ok Ten {A = Scoped} _)

  rounds_then : (o : Outcome State) → extract_all false 0 es ≡ o → Only Ten o → AllRanks o → Only Ten (o >>= λ s. finish (unfused (length s.lets) (reciprocals false s)))
  unfolding AllRanks Only
  rounds_then (ok s) e h K = finish_ten s e K
  rounds_then (refused i) e h K = h

  flat_ten : Only Ten (answer false es)
  unfolding answer cse_scope
  flat_ten =
      then_only Ten (extract_all false 0 es >>= λ s. finish (unfused (length s.lets) (reciprocals false s)))
      (rounds_then (extract_all false 0 es) refl (extract_all_ten false 0 es) (extract_all_ranks false es (list_made es known))) _ (λ a. only_ok Ten (as_answer a))

  -- for a list with no name of an answer among its symbols
  pub flat_refused_by_10 : (i : Refusal) → answer false es ≡ refused i → i ≡ by 10
  flat_refused_by_10 i e = only_at Ten (answer false es) i e flat_ten

  pub flat_never_11 : answer false es ≡ refused (by 11) → ⊥
  flat_never_11 e = (let q : ◌≡◌ {A = ℕ} 11 10 = ap (λ (r : Refusal). r.number) (flat_refused_by_10 (by 11) e) in omega arith)
