-- Reading statements: what is read turns on the free symbols alone, and any order in which each statement comes after its needs gives one
-- environment that every statement leaves as it is. Assumes nothing.
use Prim.Native.Nat.{ℕ, zero, suc, ◌+◌, ◌%◌, ◌<◌}
use mathlib.Core.Path.{◌≡◌, refl, sym, ◌∙◌, ap, subst}
use mathlib.Core.Logic.{◌⊎◌, inl, inr}
use mathlib.Core.Bool.{Bool, true, false, not, ◌||◌, cond}
use mathlib.Core.List.{List, [], ◌∷◌, ◌++◌, reverse, reverse_aux}
use native.Mathlib.Omega.{arith}
use native.Mathlib.Nat.{add-zero, zero-add}
use lib.ListN.{length, get_or}
use lib.Dec.{T}
use Rattle.spec_tree.specs.Tree.{Name, Tree, eq_name}
use Rattle.spec_tree.proofs.TreeLaws.{eq_name_sound, eq_name_refl}
use Rattle.spec_cse.specs.Answer.{Intermediate, Intermediates, Arms, Let, Match, end, step, no_arm, arm, block, names, symbols, all_symbols, free, free_stmts, free_arms, elem}
use Rattle.spec_cse.specs.Order.{meets, needs_from, needs, member, within, positions_taken, nothing, at_each}
use Rattle.laws.proofs.cse.OrderLaws.{member_cases, member_later, member_here, within_member, All, Ordered, Taken, taken_ok, none_missing}
use Rattle.spec_tree.specs.Value.{Reading, Env, value, values, choice}
use Rattle.spec_cse.specs.Read.{set, set_each, arm_count, read_stmt, read_stmts, read_arm}
use Rattle.spec_rewrite.proofs.Names.{value_like, values_like}
use Rattle.laws.proofs.cse.Symbols.{decide, elem_cases, elem_here, elem_later, elem_left, elem_right, elem_append, holds_by, Sub, sub_left, sub_right, sub_append, no_elem, not_elem, holds_all_by, all_names}

-- ---- rows of needs

needs_first : (b : Bool) (i : ℕ) (l : List ℕ) → T b → T (member (i + 0) (elim b [ true ↦ i ∷ l | false ↦ l ]))
needs_first true i l t = subst (λ (n : ℕ). T (member n (i ∷ l))) (sym (add-zero i)) (member_here i l)
needs_first false i l t = absurd t

needs_later : (b : Bool) (i j : ℕ) (l : List ℕ) → T (member (suc i + j) l) → T (member (i + suc j) (elim b [ true ↦ i ∷ l | false ↦ l ]))
needs_later b i j l t = go b (subst (λ (n : ℕ). T (member n l)) (let e : suc i + j ≡ i + suc j = omega arith in e) t)
  where
    go : (b : Bool) → T (member (i + suc j) l) → T (member (i + suc j) (elim b [ true ↦ i ∷ l | false ↦ l ]))
    go true u = member_later (i + suc j) i l u
    go false u = u

pub needs_member : (i : ℕ) (read : List Name) (l : List Intermediate) (j : ℕ) → j < length l → T (meets (names (get_or l j nothing)) read) → T (member (i + j) (needs_from i read l))
unfolding needs_from
needs_member i read [] j h t = absurd (omega arith)
needs_member i read (s ∷ l) zero h t = needs_first (meets (names s) read) i (needs_from (suc i) read l) t
needs_member i read (s ∷ l) (suc j) h t = needs_later (meets (names s) read) i j (needs_from (suc i) read l) (needs_member (suc i) read l j (omega arith) t)

pub needs_at : (all l : List Intermediate) (i : ℕ) → i < length l → get_or (needs all l) i [] ≡ needs_from 0 (free (get_or l i nothing)) all
unfolding needs
needs_at all [] i h = absurd (omega arith)
needs_at all (s ∷ l) zero h = refl
needs_at all (s ∷ l) (suc i) h = needs_at all l i (omega arith)

pub needs_length : (all l : List Intermediate) → length (needs all l) ≡ length l
unfolding needs
needs_length all [] = refl
needs_length all (s ∷ l) = ap suc (needs_length all l)

-- ---- reading

module _ (R : Reading) where
  -- equal residues
  abbrev pub Like : ℕ → ℕ → Type 0
  Like a b = a % R.modulus ≡ b % R.modulus

  -- from the latest back
  read_back : List Intermediate → Env → Env
  read_back [] ρ = ρ
  read_back (s ∷ l) ρ = read_stmt R s (read_back l ρ)

  read_reversed : (l r : List Intermediate) (ρ : Env) → read_stmts R (block (reverse_aux l r)) ρ ≡ read_stmts R (block r) (read_back l ρ)
  unfolding read_back read_stmts block
  read_reversed [] r ρ = refl
  read_reversed (s ∷ l) r ρ = read_reversed l (s ∷ r) ρ

  -- ---- setting names

  pub set_like : (τ σ : Env) (x : Name) (v w : ℕ) (n : Name) → Like v w → ((n ≡ x → ⊥) → Like (τ n) (σ n)) → Like (set τ x v n) (set σ x w n)
  unfolding set
  set_like τ σ x v w n e f = go (eq_name n x) (λ q. subst (λ (y : Name). T (eq_name n y)) q (eq_name_refl n))
    where
      go : (b : Bool) → (n ≡ x → T b) → Like (cond b v (τ n)) (cond b w (σ n))
      go true g = e
      go false g = f g

  pub set_apart : (τ : Env) (x : Name) (v : ℕ) (n : Name) → (n ≡ x → ⊥) → set τ x v n ≡ τ n
  unfolding set
  set_apart τ x v n f = go (eq_name n x) (eq_name_sound n x)
    where
      go : (b : Bool) → (T b → n ≡ x) → cond b v (τ n) ≡ τ n
      go true g = absurd (f (g tt))
      go false g = refl

  pub set_at : (τ : Env) (x : Name) (v : ℕ) → set τ x v x ≡ v
  unfolding set
  set_at τ x v = go (eq_name x x) (eq_name_refl x)
    where
      go : (b : Bool) → T b → cond b v (τ x) ≡ v
      go true t = refl
      go false t = absurd t

  set_each_like : (ns : List Name) (vs : List ℕ) (τ σ : Env) (n : Name) → ((T (elem n ns) → ⊥) → Like (τ n) (σ n)) → Like (set_each τ ns vs n) (set_each σ ns vs n)
  unfolding set_each
  set_each_like [] vs τ σ n f = f (no_elem n)
  set_each_like (x ∷ ns) [] τ σ n f = set_each_like ns [] (set τ x 0) (set σ x 0) n (λ a. set_like τ σ x 0 0 n refl (λ b. f (not_elem n x ns b a)))
  set_each_like (x ∷ ns) (v ∷ vs) τ σ n f = set_each_like ns vs (set τ x v) (set σ x v) n (λ a. set_like τ σ x v v n refl (λ b. f (not_elem n x ns b a)))

  set_each_apart : (ns : List Name) (vs : List ℕ) (τ : Env) (n : Name) → (T (elem n ns) → ⊥) → set_each τ ns vs n ≡ τ n
  unfolding set_each
  set_each_apart [] vs τ n f = refl
  set_each_apart (x ∷ ns) [] τ n f =
      set_each_apart ns [] (set τ x 0) n (λ t. f (elem_later n x ns t)) ∙ set_apart τ x 0 n (λ e. f (subst (λ (y : Name). T (elem n (y ∷ ns))) e (elem_here n ns)))
  set_each_apart (x ∷ ns) (v ∷ vs) τ n f =
      set_each_apart ns vs (set τ x v) n (λ t. f (elem_later n x ns t)) ∙ set_apart τ x v n (λ e. f (subst (λ (y : Name). T (elem n (y ∷ ns))) e (elem_here n ns)))

  -- an environment that holds the values already
  abbrev pub Fits : Env → List Name → List ℕ → Type 0
  Fits σ [] vs = Unit {0}
  Fits σ (n ∷ ns) [] = Like 0 (σ n) × Fits σ ns []
  Fits σ (n ∷ ns) (v ∷ vs) = Like v (σ n) × Fits σ ns vs

  pub set_fits : (τ σ : Env) (x : Name) (v : ℕ) → Like v (σ x) → ((n : Name) → Like (τ n) (σ n)) → (n : Name) → Like (set τ x v n) (σ n)
  set_fits τ σ x v e f n =
      elim (decide (eq_name n x)) [
        | inl t ↦ subst (λ (y : Name). Like (set τ x v y) (σ y)) (sym (eq_name_sound n x t)) (ap (λ (u : ℕ). u % R.modulus) (set_at τ x v) ∙ e)
        | inr t ↦ ap (λ (u : ℕ). u % R.modulus) (set_apart τ x v n (λ q. t (subst (λ (y : Name). T (eq_name n y)) q (eq_name_refl n)))) ∙ f n
      ]

  pub set_each_fits : (ns : List Name) (vs : List ℕ) (τ σ : Env) → Fits σ ns vs → ((n : Name) → Like (τ n) (σ n)) → (n : Name) → Like (set_each τ ns vs n) (σ n)
  unfolding set_each
  set_each_fits [] vs τ σ h f n = f n
  set_each_fits (x ∷ ns) [] τ σ h f n = set_each_fits ns [] (set τ x 0) σ h.1 (set_fits τ σ x 0 h.0 f) n
  set_each_fits (x ∷ ns) (v ∷ vs) τ σ h f n = set_each_fits ns vs (set τ x v) σ h.1 (set_fits τ σ x v h.0 f) n

  -- ---- what is read turns on the free symbols

  pub read_apart : (s : Intermediate) (τ : Env) (n : Name) → (T (elem n (names s)) → ⊥) → read_stmt R s τ n ≡ τ n
  unfolding read_stmt names
  read_apart (Let x e) τ n f = set_apart τ x _ n (λ q. f (subst (λ (y : Name). T (elem n (y ∷ []))) q (elem_here n [])))
  read_apart (Match k key ns arms) τ n f = set_each_apart ns _ τ n f

  module _ (p : Name → Bool) where
    abbrev pub Likes : Env → Env → Type 0
    Likes τ σ = (n : Name) → T (p n) → Like (τ n) (σ n)

    mutual
      unfolding read_stmt names free

      pub stmt_like :
          (s : Intermediate) (τ σ : Env) → Sub p (free s) → Likes τ σ → (n : Name) → ((T (elem n (names s)) → ⊥) → Like (τ n) (σ n))
          → Like (read_stmt R s τ n) (read_stmt R s σ n)
      stmt_like (Let x e) τ σ u l n f =
          set_like τ σ x (value R τ e) (value R σ e) n (ap (λ (v : ℕ). v % R.modulus) (value_like R p τ σ l e (holds_by p e u))) (λ b. f (not_elem n x [] b (no_elem n)))
      stmt_like (Match k key ns arms) τ σ u l n f =
          subst (λ (vs : List ℕ). Like (set_each τ ns (read_arm R arms (choice R k (arm_count arms) (value R τ key)) τ) n) (set_each σ ns vs n))
          (ap (λ (q : ℕ). read_arm R arms (choice R k (arm_count arms) q) τ) (value_like R p τ σ l key (holds_by p key (sub_left p (symbols key) (free_arms arms) u)))
          ∙ arm_like arms (choice R k (arm_count arms) (value R σ key)) τ σ (sub_right p (symbols key) (free_arms arms) u) l)
          (set_each_like ns (read_arm R arms (choice R k (arm_count arms) (value R τ key)) τ) τ σ n f)

      pub stmts_like : (s : Intermediates) (τ σ : Env) → Sub p (free_stmts s) → Likes τ σ → Likes (read_stmts R s τ) (read_stmts R s σ)
      stmts_like end τ σ u l n t = l n t
      stmts_like (step s r) τ σ u l n t =
          stmts_like r (read_stmt R s τ) (read_stmt R s σ) (sub_right p (free s) (free_stmts r) u)
          (λ x h. stmt_like s τ σ (sub_left p (free s) (free_stmts r) u) l x (λ f. l x h)) n t

      pub arm_like : (arms : Arms) (i : ℕ) (τ σ : Env) → Sub p (free_arms arms) → Likes τ σ → read_arm R arms i τ ≡ read_arm R arms i σ
      arm_like no_arm i τ σ u l = refl
      arm_like (arm s vs r) zero τ σ u l =
          values_like R p (read_stmts R s τ) (read_stmts R s σ) (λ n t. stmts_like s τ σ (sub_left p (free_stmts s) (all_symbols vs ++ free_arms r) u) l n t) vs
          (holds_all_by p vs (sub_left p (all_symbols vs) (free_arms r) (sub_right p (free_stmts s) (all_symbols vs ++ free_arms r) u)))
      arm_like (arm s vs r) (suc i) τ σ u l =
          arm_like r i τ σ (sub_right p (all_symbols vs) (free_arms r) (sub_right p (free_stmts s) (all_symbols vs ++ free_arms r) u)) l

-- ---- names and places

pub name_place : (l : List Intermediate) (n : Name) → T (elem n (all_names l)) → (j : ℕ) × (j < length l) × T (elem n (names (get_or l j nothing)))
unfolding all_names
name_place [] n t = absurd (no_elem n t)
name_place (s ∷ l) n t =
    elim (elem_append n (names s) (all_names l) t) [
      | inl a ↦ (0, (omega arith), a)
      | inr b ↦ (let r = name_place l n b in let h = r.1 in (suc r.0, (omega arith), r.2))
    ]

pub place_name : (l : List Intermediate) (done : List ℕ) (j : ℕ) (n : Name) → T (member j done) → T (elem n (names (get_or l j nothing))) → T (elem n (all_names (at_each l done)))
unfolding all_names at_each
place_name l [] j n t h = absurd (unfold member in t)
place_name l (i ∷ done) j n t h =
    elim (member_cases j i done t) [
      | inl e ↦ elem_left n (names (get_or l i nothing)) (all_names (at_each l done)) (subst (λ (k : ℕ). T (elem n (names (get_or l k nothing)))) (sym e) h)
      | inr u ↦ elem_right n (names (get_or l i nothing)) (all_names (at_each l done)) (place_name l done j n u h)
    ]

meets_at : (n : Name) (ns read : List Name) → T (elem n ns) → T (elem n read) → T (meets ns read)
unfolding meets
meets_at n [] read t h = absurd (no_elem n t)
meets_at n (x ∷ ns) read t h = go (elem x read) (elem_cases n x ns t) (λ e. subst (λ (y : Name). T (elem y read)) (sym e) h) (λ u. meets_at n ns read u h)
  where
    go : (b : Bool) → (x ≡ n) ⊎ T (elem n ns) → (x ≡ n → T b) → (T (elem n ns) → T (meets ns read)) → T (elim b [ true ↦ true | false ↦ meets ns read ])
    go true c f g = tt
    go false (inl e) f g = absurd (f e)
    go false (inr u) f g = g u

-- what a statement reads was bound before it, if by any of the list
pub bound_before :
    (l : List Intermediate) (i : ℕ) (done : List ℕ) → i < length l → T (within (get_or (needs l l) i []) done) → (n : Name)
    → T (elem n (free (get_or l i nothing))) → T (elem n (all_names l)) → T (elem n (all_names (at_each l done)))
bound_before l i done h w n f t =
    let r = name_place l n t in
    let j = r.0 in
    let q = r.1 in
    let m : T (member (0 + j) (needs_from 0 (free (get_or l i nothing)) l)) =
    needs_member 0 (free (get_or l i nothing)) l j q (meets_at n (names (get_or l j nothing)) (free (get_or l i nothing)) r.2 f) in
    place_name l done j n
    (within_member (get_or (needs l l) i []) done j w
    (subst (λ (x : List ℕ). T (member j x)) (sym (needs_at l l i h)) (subst (λ (y : ℕ). T (member y (needs_from 0 (free (get_or l i nothing)) l))) (zero-add j) m)))
    r.2

-- the statements in order read what the list's statements read
pub free_back : (p : Name → Bool) (l : List Intermediate) (done : List ℕ) (acc : List Intermediate) → All (λ j. j < length l) done
    → ((i : ℕ) → i < length l → Sub p (free (get_or l i nothing))) → Sub p (free_stmts (block acc))
    → Sub p (free_stmts (block (reverse_aux (at_each l done) acc)))
unfolding at_each
free_back p l [] acc a f u = u
free_back p l (i ∷ done) acc a f u =
    free_back p l done (get_or l i nothing ∷ acc) a.1 f (unfold free_stmts block in (sub_append p (free (get_or l i nothing)) (free_stmts (block acc)) (f i a.0) u))

-- ---- an order gives the environment that every statement leaves as it is

module _ (R : Reading) (l : List Intermediate) (ρ σ : Env)
    (fixed : (i : ℕ) → i < length l → (n : Name) → Like R (read_stmt R (get_or l i nothing) σ n) (σ n))
    (apart : (n : Name) → (T (elem n (all_names l)) → ⊥) → σ n ≡ ρ n) where
  -- bound by the statements done, or by none
  ready : List ℕ → Name → Bool
  ready done n = not (elem n (all_names l)) || elem n (all_names (at_each l done))

  ready_by : (b c : Bool) → (T b → T c) → T (not b || c)
  ready_by true c f = f tt
  ready_by false c f = tt

  ready_cases : (b c : Bool) → T (not b || c) → (T b → ⊥) ⊎ T c
  ready_cases true c t = inr t
  ready_cases false c t = inl (λ u. u)

  reads : (done : List ℕ) → Ordered (needs l l) done → All (λ j. j < length l) done → (n : Name) → T (ready done n) → Like R (read_back R (at_each l done) ρ n) (σ n)
  unfolding at_each read_back ready
  reads [] o a n t =
      elim (ready_cases (elem n (all_names l)) (elem n (all_names [])) t) [
        | inl f ↦ ap (λ (v : ℕ). v % R.modulus) (sym (apart n f))
        | inr u ↦ absurd (no_elem n (unfold all_names in u))
      ]
  reads (i ∷ done) o a n t =
      stmt_like R (ready done) (get_or l i nothing) (read_back R (at_each l done) ρ) σ
      (λ x h. ready_by (elem x (all_names l)) (elem x (all_names (at_each l done))) (bound_before l i done a.0 o.0 x h))
      (λ x h. reads done o.1 a.1 x h) n
      (λ f. reads done o.1 a.1 n
      (ready_by (elem n (all_names l)) (elem n (all_names (at_each l done)))
      (λ u. elim (ready_cases (elem n (all_names l)) (elem n (names (get_or l i nothing) ++ all_names (at_each l done))) (unfold all_names in t)) [
        | inl g ↦ absurd (g u)
        | inr v ↦ elim (elem_append n (names (get_or l i nothing)) (all_names (at_each l done)) v) [ inl x ↦ absurd (f x) | inr y ↦ y ]
      ])))
      ∙ fixed i a.0 n

  all_ready : (done : List ℕ) → ((j : ℕ) → j < length l → T (member j done)) → (n : Name) → T (ready done n)
  unfolding ready
  all_ready done f n =
      ready_by (elem n (all_names l)) (elem n (all_names (at_each l done))) (λ u. let r = name_place l n u in place_name l done r.0 n (f r.0 r.1) r.2)

  -- where none is missing, every symbol holds what σ says
  pub sorted_reads :
      length (positions_taken (needs l l)) ≡ length l → (results : List Tree)
      → values R (read_stmts R (block (reverse (at_each l (positions_taken (needs l l))))) ρ) results ≡ values R σ results
  unfolding read_stmts block
  sorted_reads e results =
      let done = positions_taken (needs l l) in
      let k : Taken (needs l l) done = taken_ok (needs l l) in
      let inside : All (λ j. j < length l) done = subst (λ (m : ℕ). All (λ j. j < m) done) (needs_length l l) k.inside in
      ap (λ (τ : Env). values R τ results) (read_reversed R (at_each l done) [] ρ)
      ∙ values_like R (λ n. true) (read_back R (at_each l done) ρ) σ
      (λ n t. reads done k.ordered inside n (all_ready done (none_missing (length l) done k.distinct inside e) n))
      results (holds_all_by (λ n. true) results (λ n t. tt))
