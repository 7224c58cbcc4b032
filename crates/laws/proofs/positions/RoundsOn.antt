-- Rounds and reciprocals on one list of trees are those of states (specs, Rounds). Assumes nothing.
use Prim.Native.Nat.{ℕ, zero, suc, ◌+◌, ◌-◌, ◌≤◌}
use native.Mathlib.Omega.{arith}
use mathlib.Core.Path.{◌≡◌, refl, sym, ◌∙◌, ap, ap₂}
use mathlib.Core.Bool.{Bool, true, false}
use mathlib.Core.Option.{Option, none, some}
use mathlib.Core.List.{List, [], ◌∷◌, ◌++◌, append_assoc, map}
use lib.IntN.{pos}
use lib.ListN.{length, take, drop, length-append, length-map, length-drop, take-append-drop}
use lib.Seq.{take_at, drop_at, take_all, drop-length, length-take-le}
use Rattle.spec_tree.specs.Outcome.{Outcome, ok, refused, by, ◌>>=◌, each}
use Rattle.spec_tree.specs.Tree.{xname, Tree, Const, Op, nil, ◌◂◌}
use Rattle.spec_tree.specs.Kinds.{Div}
use Rattle.spec_tree.specs.Facts.{all_operations, all_nodes}
use Rattle.spec_tree.proofs.TokenLaws.{map_append}
use Rattle.spec_rewrite.specs.Rewrite.{replace, replace_divisor}
use Rattle.spec_cse.specs.Extract.{Binding, State, bound, roots, Candidate, replace_bound, extract, divisors, distinct, shared_divisors, replace_divisor_each, replace_divisor_bound, bind_reciprocal, bind_reciprocals}
use Rattle.spec_cse.specs.Scope.{Scoped, unfused, finish, left_after, fuse_held, opens}
use Rattle.laws.proofs.cse.Outcomes.{Good, then_good, good_ok}
use Rattle.laws.specs.positions.Shown.{best_by, rounds_by, extract_all_by, sort_by, reciprocals_by, cse_scope_by}
use Rattle.laws.specs.positions.Rounds.{by_number, next_number, state_of, extract_on, bind_on, bind_each_on, rounds_on, reciprocals_on}
use Rattle.spec_tree.proofs.Outcomes.{then_then}

-- ---- chains of steps

pub then_same : {A B : Type 0} (Q : A → Type 0) (o : Outcome A) (f g : A → Outcome B) → Good Q o → ((a : A) → Q a → f a ≡ g a) → (o >>= f) ≡ (o >>= g)
unfolding Good
then_same Q (ok a) f g h e = e a h
then_same Q (refused i) f g h e = refl

-- ---- a step at each element

pub each_length : {A B : Type 0} (f : A → Outcome B) (l : List A) → Good (λ (r : List B). length r ≡ length l) (each f l)
unfolding Good each
each_length f [] = refl
each_length {A} {B} f (a ∷ l) = go (f a) (each f l) (each_length f l)
  where
    go : (o : Outcome B) (p : Outcome (List B)) → Good (λ (r : List B). length r ≡ length l) p → Good (λ (r : List B). length r ≡ suc (length l)) (o >>= λ b. p >>= λ r. ok (b ∷ r))
    go (ok b) (ok r) h = ap suc h
    go (ok b) (refused i) h = tt
    go (refused i) p h = tt

pub each_append : {A B : Type 0} (f : A → Outcome B) (l m : List A) → each f (l ++ m) ≡ (each f l >>= λ r. each f m >>= λ s. ok (r ++ s))
unfolding each
each_append {A} {B} f [] m = go (each f m)
  where
    go : (p : Outcome (List B)) → p ≡ (p >>= λ s. ok s)
    go (ok s) = refl
    go (refused i) = refl
each_append {A} {B} f (a ∷ l) m = go (f a) (each f l) (each f m) (each f (l ++ m)) (each_append f l m)
  where
    go : (o : Outcome B) (p q r : Outcome (List B)) → r ≡ (p >>= λ x. q >>= λ y. ok (x ++ y))
        → (o >>= λ b. r >>= λ z. ok (b ∷ z)) ≡ ((o >>= λ b. p >>= λ x. ok (b ∷ x)) >>= λ x. q >>= λ y. ok (x ++ y))
    go (ok b) (ok x) (ok y) r e = ap (λ (r : Outcome (List B)). r >>= λ z. ok (b ∷ z)) e
    go (ok b) (ok x) (refused i) r e = ap (λ (r : Outcome (List B)). r >>= λ z. ok (b ∷ z)) e
    go (ok b) (refused i) q r e = ap (λ (r : Outcome (List B)). r >>= λ z. ok (b ∷ z)) e
    go (refused i) p q r e = refl

-- ---- states by results and bindings

abbrev with_bound : ℕ → List Tree → List Tree → State
with_bound first a b = record { results = a; lets = by_number first b; next = first + length b }

parts_state : (k first : ℕ) (a b : List Tree) → length a ≡ k → state_of k first (a ++ b) ≡ with_bound first a b
unfolding state_of next_number
parts_state k first a b e =
    ap₂ (λ (x y : List Tree). with_bound first x y) (take_at a b k e) (drop_at a b k e)

state_parts : (k first : ℕ) (ts : List Tree) → state_of k first ts ≡ with_bound first (take k ts) (drop k ts)
unfolding state_of next_number
state_parts k first ts = refl

bound_numbers : (i : ℕ) (l : List Tree) → bound (by_number i l) ≡ l
unfolding bound by_number
bound_numbers i [] = refl
bound_numbers i (e ∷ l) = ap (λ (r : List Tree). e ∷ r) (bound_numbers (suc i) l)

pub roots_of_state : (k first : ℕ) (ts : List Tree) → roots (state_of k first ts) ≡ ts
unfolding roots state_of
roots_of_state k first ts = ap (λ (l : List Tree). take k ts ++ l) (bound_numbers first (drop k ts)) ∙ take-append-drop k ts

numbers_append : (i : ℕ) (l : List Tree) (e : Tree) → by_number i (l ++ (e ∷ [])) ≡ by_number i l ++ (record { name = xname (i + length l); expr = e } ∷ [])
unfolding by_number
numbers_append i [] e = let z : i ≡ i + 0 = omega arith in ap (λ (n : ℕ). record { name = xname n; expr = e } ∷ []) z
numbers_append i (t ∷ l) e =
    let z : suc i + length l ≡ i + suc (length l) = omega arith in
    ap (λ (r : List Binding). record { name = xname i; expr = t } ∷ r)
    (numbers_append (suc i) l e ∙ ap (λ (n : ℕ). by_number (suc i) l ++ (record { name = xname n; expr = e } ∷ [])) z)

-- one more binding
one_bound : (first n : ℕ) (a b : List Tree) (e : Tree) → first + length b ≡ n
    → ◌≡◌ {A = State} (record { results = a; lets = by_number first b ++ (record { name = xname n; expr = e } ∷ []); next = suc n }) (with_bound first a (b ++ (e ∷ [])))
one_bound first n a b e z =
    let s : suc n ≡ first + length (b ++ (e ∷ [])) = omega (arith, z, length-append b (e ∷ [])) in
    ap₂ (λ (ls : List Binding) (m : ℕ). record { results = a; lets = ls; next = m })
    (ap (λ (m : ℕ). by_number first b ++ (record { name = xname m; expr = e } ∷ [])) (sym z) ∙ sym (numbers_append first b e)) s

-- ---- one extraction

bound_each :
    (target : Tree) (n i : ℕ) (l : List Tree)
    → each (λ b. replace_bound target (xname n) b) (by_number i l) ≡ (each (λ e. replace target (xname n) e) l >>= λ r. ok (by_number i r))
unfolding each by_number replace_bound
bound_each target n i [] = refl
bound_each target n i (e ∷ l) =
    go (replace target (xname n) e) (each (λ e. replace target (xname n) e) l) (each (λ b. replace_bound target (xname n) b) (by_number (suc i) l)) (bound_each target n (suc i) l)
  where
    go : (o : Outcome Tree) (p : Outcome (List Tree)) (q : Outcome (List Binding)) → q ≡ (p >>= λ r. ok (by_number (suc i) r))
        → ((o >>= λ t. ok (record { name = xname i; expr = t })) >>= λ b. q >>= λ r. ok (b ∷ r)) ≡ ((o >>= λ t. p >>= λ r. ok (t ∷ r)) >>= λ r. ok (by_number i r))
    go (ok t) (ok r) q h = ap (λ (q : Outcome (List Binding)). q >>= λ r. ok (record { name = xname i; expr = t } ∷ r)) h
    go (ok t) (refused j) q h = ap (λ (q : Outcome (List Binding)). q >>= λ r. ok (record { name = xname i; expr = t } ∷ r)) h
    go (refused j) p q h = refl

extract_parts :
    (target : Tree) (first : ℕ) (a b : List Tree) → let g : Tree → Outcome Tree = λ e. replace target (xname (first + length b)) e in
    extract target (with_bound first a b) ≡ (each g a >>= λ x. each g b >>= λ y. ok (with_bound first x (y ++ (target ∷ []))))
unfolding extract
extract_parts target first a b =
    let n = first + length b in
    let g : Tree → Outcome Tree = λ e. replace target (xname n) e in
    let done : List Tree → List Binding → Outcome State = λ x ls. ok (record { results = x; lets = ls ++ (record { name = xname n; expr = target } ∷ []); next = suc n }) in
    then_same (λ x. Unit {0}) (each g a) (λ x. each (λ c. replace_bound target (xname n) c) (by_number first b) >>= λ ls. done x ls)
    (λ x. each g b >>= λ y. ok (with_bound first x (y ++ (target ∷ [])))) (no_matter (each g a))
    (λ x u.
    ap (λ (o : Outcome (List Binding)). o >>= λ ls. done x ls) (bound_each target n first b)
    ∙ then_then (each g b) (λ y. ok (by_number first y)) (λ ls. done x ls)
    ∙ then_same (λ (y : List Tree). length y ≡ length b) (each g b) (λ y. done x (by_number first y)) (λ y. ok (with_bound first x (y ++ (target ∷ [])))) (each_length g b)
    (λ y l. let z : first + length y ≡ n = omega arith in ap ok (one_bound first n x y target z)))
  where
    no_matter : {A : Type 0} (o : Outcome A) → Good (λ a. Unit {0}) o
    no_matter (ok a) = (unfold Good in tt)
    no_matter (refused i) = (unfold Good in tt)

pub extract_on_state :
    (target : Tree) (k first : ℕ) (ts : List Tree) → k ≤ length ts
    → extract target (state_of k first ts) ≡ (extract_on target (next_number k first ts) ts >>= λ us. ok (state_of k first us))
unfolding extract_on next_number
extract_on_state target k first ts h =
    let a = take k ts in
    let b = drop k ts in
    let g : Tree → Outcome Tree = λ e. replace target (xname (first + length b)) e in
    let whole : each g ts ≡ (each g a >>= λ x. each g b >>= λ y. ok (x ++ y)) = ap (each g) (sym (take-append-drop k ts)) ∙ each_append g a b in
    ap (extract target) (state_parts k first ts)
    ∙ extract_parts target first a b
    ∙ go (each g a) (each g b) (each_length g a)
    ∙ sym (ap (λ (o : Outcome (List Tree)). (o >>= λ us. ok (us ++ (target ∷ []))) >>= λ us. ok (state_of k first us)) whole)
  where
    go : (o p : Outcome (List Tree)) → Good (λ (x : List Tree). length x ≡ length (take k ts)) o
        → (o >>= λ x. p >>= λ y. ok (with_bound first x (y ++ (target ∷ []))))
        ≡ (((o >>= λ x. p >>= λ y. ok (x ++ y)) >>= λ us. ok (us ++ (target ∷ []))) >>= λ us. ok (state_of k first us))
    go (ok x) (ok y) e =
        let l : length x ≡ length (take k ts) = (unfold Good in e) in
        let z : length x ≡ k = omega (arith, l, length-take-le k ts h) in
        ap ok (sym (ap (state_of k first) (append_assoc x y (target ∷ [])) ∙ parts_state k first x (y ++ (target ∷ [])) z))
    go (ok x) (refused i) e = refl
    go (refused i) p e = refl

pub extract_on_length : (target : Tree) (n : ℕ) (ts : List Tree) → Good (λ (us : List Tree). length us ≡ suc (length ts)) (extract_on target n ts)
unfolding extract_on
extract_on_length target n ts =
    then_good (λ (us : List Tree). length us ≡ length ts) (λ (us : List Tree). length us ≡ suc (length ts)) (each (λ e. replace target (xname n) e) ts)
    (each_length (λ e. replace target (xname n) e) ts) (λ us. ok (us ++ (target ∷ [])))
    (λ us l. good_ok (λ (us : List Tree). length us ≡ suc (length ts)) (us ++ (target ∷ [])) (omega (arith, l, length-append us (target ∷ []))))

-- ---- rounds

module _ (shown : Tree → List ℕ) where
  round_on :
      (k first : ℕ) (ts : List Tree) → k ≤ length ts → (f : State → Outcome State) (g : List Tree → Outcome (List Tree))
      → ((us : List Tree) → k ≤ length us → f (state_of k first us) ≡ (g us >>= λ vs. ok (state_of k first vs))) → (o u : Option Candidate) → o ≡ u
      → ◌≡◌ {A = Outcome State} (elim o [ none ↦ ok (state_of k first ts) | some c ↦ (extract c.tree (state_of k first ts) >>= λ t. f t) ])
      ((elim u as (λ _. Outcome (List Tree)) [ none ↦ ok ts | some c ↦ (extract_on c.tree (next_number k first ts) ts >>= λ us. g us) ]) >>= λ vs. ok (state_of k first vs))
  round_on k first ts h f g e o u z = rw z (go u)
    where
      go : (u : Option Candidate)
          → ◌≡◌ {A = Outcome State} (elim u [ none ↦ ok (state_of k first ts) | some c ↦ (extract c.tree (state_of k first ts) >>= λ t. f t) ])
          ((elim u as (λ _. Outcome (List Tree)) [ none ↦ ok ts | some c ↦ (extract_on c.tree (next_number k first ts) ts >>= λ us. g us) ]) >>= λ vs. ok (state_of k first vs))
      go none = refl
      go (some c) =
          let x = extract_on c.tree (next_number k first ts) ts in
          ap (λ (o : Outcome State). o >>= λ t. f t) (extract_on_state c.tree k first ts h)
          ∙ then_then x (λ us. ok (state_of k first us)) (λ t. f t)
          ∙ then_same (λ (us : List Tree). length us ≡ suc (length ts)) x (λ us. f (state_of k first us)) (λ us. g us >>= λ vs. ok (state_of k first vs))
          (extract_on_length c.tree (next_number k first ts) ts) (λ us l. e us (omega arith))
          ∙ sym (then_then x (λ us. g us) (λ vs. ok (state_of k first vs)))

  pub rounds_on_state :
      (fuel : ℕ) (scoped : Bool) (k first : ℕ) (ts : List Tree) → k ≤ length ts
      → rounds_by shown fuel scoped (state_of k first ts) ≡ (rounds_on shown fuel scoped k first ts >>= λ us. ok (state_of k first us))
  unfolding rounds_by rounds_on
  rounds_on_state zero scoped k first ts h = refl
  rounds_on_state (suc fuel) scoped k first ts h =
      round_on k first ts h (λ t. rounds_by shown fuel scoped t) (λ us. rounds_on shown fuel scoped k first us) (λ us l. rounds_on_state fuel scoped k first us l)
      (best_by shown scoped (roots (state_of k first ts))) (best_by shown scoped ts) (ap (best_by shown scoped) (roots_of_state k first ts))

  -- a list with no binding yet
  none_bound : (first : ℕ) (es : List Tree) → state_of (length es) first es ≡ record { results = es; lets = []; next = first }
  unfolding state_of by_number next_number
  none_bound first es =
      let d = drop-length es in
      let z : first + 0 ≡ first = omega arith in
      ap₂ (λ (x y : List Tree). record { results = x; lets = by_number first y; next = first + length y }) (take_all (length es) es (omega arith)) d
      ∙ ap (λ (n : ℕ). record { results = es; lets = []; next = n }) z

  pub extract_all_on :
      (scoped : Bool) (next : ℕ) (es : List Tree)
      → extract_all_by shown scoped next es ≡ (rounds_on shown (all_operations es) scoped (length es) next es >>= λ us. ok (state_of (length es) next us))
  unfolding extract_all_by
  extract_all_on scoped next es =
      ap (rounds_by shown (all_operations es) scoped) (sym (none_bound next es)) ∙ rounds_on_state (all_operations es) scoped (length es) next es (omega arith)

  -- ---- reciprocals

  each_divided : (d : Tree) (n : ℕ) (l : List Tree) → replace_divisor_each d (xname n) l ≡ map (λ e. replace_divisor d (xname n) e) l
  unfolding replace_divisor_each
  each_divided d n [] = refl
  each_divided d n (t ∷ l) = ap (λ (r : List Tree). replace_divisor d (xname n) t ∷ r) (each_divided d n l)

  bound_divided : (d : Tree) (n i : ℕ) (l : List Tree) → replace_divisor_bound d (xname n) (by_number i l) ≡ by_number i (map (λ e. replace_divisor d (xname n) e) l)
  unfolding replace_divisor_bound by_number
  bound_divided d n i [] = refl
  bound_divided d n i (t ∷ l) = ap (λ (r : List Binding). record { name = xname i; expr = replace_divisor d (xname n) t } ∷ r) (bound_divided d n (suc i) l)

  bind_parts :
      (d : Tree) (first n : ℕ) (a b : List Tree) → first + length b ≡ n → let f : Tree → Tree = λ e. replace_divisor d (xname n) e in
      bind_reciprocal d (with_bound first a b) ≡ with_bound first (map f a) (map f b ++ (Op Div (Const (pos 1) ◂ d ◂ nil) ∷ []))
  unfolding bind_reciprocal
  bind_parts d first n a b e =
      let f : Tree → Tree = λ e. replace_divisor d (xname n) e in
      let q = Op Div (Const (pos 1) ◂ d ◂ nil) in
      let z : first + length (map f b) ≡ n = omega (arith, length-map b f) in
      let bound_to : ℕ → State = λ m.
      record {
        results = replace_divisor_each d (xname m) a;
        lets = replace_divisor_bound d (xname m) (by_number first b) ++ (record { name = xname m; expr = q } ∷ []);
        next = suc m;
      } in
      let done : List Tree → List Binding → State = λ rs ls. record { results = rs; lets = ls ++ (record { name = xname n; expr = q } ∷ []); next = suc n } in
      ap bound_to e ∙ ap₂ done (each_divided d n a) (bound_divided d n first b) ∙ one_bound first n (map f a) (map f b) q z

  parts_again : (f : Tree → Tree) (q : Tree) (k : ℕ) (ts : List Tree) → (map f (take k ts) ++ (map f (drop k ts) ++ (q ∷ []))) ≡ (map f ts ++ (q ∷ []))
  parts_again f q k ts =
      sym (append_assoc (map f (take k ts)) (map f (drop k ts)) (q ∷ []))
      ∙ ap (λ (l : List Tree). l ++ (q ∷ [])) (sym (map_append f (take k ts) (drop k ts)) ∙ ap (map f) (take-append-drop k ts))

  bind_on_state :
      (d : Tree) (k first : ℕ) (ts : List Tree) → k ≤ length ts
      → bind_reciprocal d (state_of k first ts) ≡ state_of k first (bind_on d (next_number k first ts) ts)
  unfolding bind_on next_number
  bind_on_state d k first ts h =
      let n = first + length (drop k ts) in
      let f : Tree → Tree = λ e. replace_divisor d (xname n) e in
      let q = Op Div (Const (pos 1) ◂ d ◂ nil) in
      let la : length (map f (take k ts)) ≡ k = omega (arith, length-map (take k ts) f, length-take-le k ts h) in
      ap (bind_reciprocal d) (state_parts k first ts)
      ∙ bind_parts d first n (take k ts) (drop k ts) refl
      ∙ sym (parts_state k first (map f (take k ts)) (map f (drop k ts) ++ (q ∷ [])) la)
      ∙ ap (state_of k first) (parts_again f q k ts)

  bind_on_length : (d : Tree) (n : ℕ) (ts : List Tree) → length (bind_on d n ts) ≡ suc (length ts)
  unfolding bind_on
  bind_on_length d n ts =
      let f : Tree → Tree = λ e. replace_divisor d (xname n) e in
      omega (arith, length-append (map f ts) (Op Div (Const (pos 1) ◂ d ◂ nil) ∷ []), length-map ts f)

  next_after : (d : Tree) (n k first : ℕ) (ts : List Tree) → k ≤ length ts → next_number k first (bind_on d n ts) ≡ suc (next_number k first ts)
  unfolding next_number
  next_after d n k first ts h = omega (arith, length-drop k ts, length-drop k (bind_on d n ts), bind_on_length d n ts)

  pub bind_each_on_state :
      (l : List Tree) (k first : ℕ) (ts : List Tree) → k ≤ length ts
      → bind_reciprocals l (state_of k first ts) ≡ state_of k first (bind_each_on l (next_number k first ts) ts)
  unfolding bind_reciprocals bind_each_on
  bind_each_on_state [] k first ts h = refl
  bind_each_on_state (d ∷ l) k first ts h =
      let n = next_number k first ts in
      ap (bind_reciprocals l) (bind_on_state d k first ts h)
      ∙ bind_each_on_state l k first (bind_on d n ts) (omega (arith, bind_on_length d n ts))
      ∙ ap (λ (m : ℕ). state_of k first (bind_each_on l m (bind_on d n ts))) (next_after d n k first ts h)

  pub reciprocals_on_state :
      (scoped : Bool) (k first : ℕ) (ts : List Tree) → k ≤ length ts → reciprocals_by shown scoped (state_of k first ts) ≡ state_of k first (reciprocals_on shown scoped k first ts)
  unfolding reciprocals_by reciprocals_on
  reciprocals_on_state scoped k first ts h =
      ap (λ (rs : List Tree). bind_reciprocals (sort_by shown (shared_divisors scoped rs (distinct [] (divisors (all_nodes rs))))) (state_of k first ts)) (roots_of_state k first ts)
      ∙ bind_each_on_state (sort_by shown (shared_divisors scoped ts (distinct [] (divisors (all_nodes ts))))) k first ts h

  -- ---- scopes

  grown_step :
      (k first : ℕ) (ts : List Tree) → k ≤ length ts → (g : List Tree → Outcome (List Tree)) → ((us : List Tree) → k ≤ length us → Good (λ (vs : List Tree). k ≤ length vs) (g us))
      → (u : Option Candidate)
      → Good (λ (vs : List Tree). k ≤ length vs) (elim u as (λ _. Outcome (List Tree)) [ none ↦ ok ts | some c ↦ (extract_on c.tree (next_number k first ts) ts >>= λ us. g us) ])
  grown_step k first ts h g e none = good_ok (λ (vs : List Tree). k ≤ length vs) ts h
  grown_step k first ts h g e (some c) =
      then_good (λ (us : List Tree). length us ≡ suc (length ts)) (λ (vs : List Tree). k ≤ length vs) (extract_on c.tree (next_number k first ts) ts)
      (extract_on_length c.tree (next_number k first ts) ts) g (λ us l. e us (omega arith))

  -- results stay
  pub rounds_on_length : (fuel : ℕ) (scoped : Bool) (k first : ℕ) (ts : List Tree) → k ≤ length ts → Good (λ (us : List Tree). k ≤ length us) (rounds_on shown fuel scoped k first ts)
  unfolding rounds_on
  rounds_on_length zero scoped k first ts h = good_ok (λ (us : List Tree). k ≤ length us) ts h
  rounds_on_length (suc fuel) scoped k first ts h =
      grown_step k first ts h (λ us. rounds_on shown fuel scoped k first us) (λ us l. rounds_on_length fuel scoped k first us l) (best_by shown scoped ts)

  numbers_length : (i : ℕ) (l : List Tree) → length (by_number i l) ≡ length l
  unfolding by_number
  numbers_length i [] = refl
  numbers_length i (e ∷ l) = ap suc (numbers_length (suc i) l)

  lets_length : (k first : ℕ) (us : List Tree) → length (state_of k first us).lets ≡ length (drop k us)
  unfolding state_of
  lets_length k first us = numbers_length first (drop k us)

  -- the flat form
  pub flat_on :
      (fuel left next : ℕ) (es : List Tree) → let k = length es in
      cse_scope_by shown (suc fuel) left false next es
      ≡ (rounds_on shown (all_operations es) false k next es >>= λ us. finish (unfused (length (drop k us)) (state_of k next (reciprocals_on shown false k next us))))
  unfolding cse_scope_by
  flat_on fuel left next es =
      let k = length es in
      let o = rounds_on shown (all_operations es) false k next es in
      let end : State → Outcome Scoped = λ s. finish (unfused (length s.lets) (reciprocals_by shown false s)) in
      ap (λ (o : Outcome State). o >>= end) (extract_all_on false next es)
      ∙ then_then o (λ us. ok (state_of k next us)) end
      ∙ then_same (λ (us : List Tree). k ≤ length us) o (λ us. end (state_of k next us))
      (λ us. finish (unfused (length (drop k us)) (state_of k next (reciprocals_on shown false k next us)))) (rounds_on_length (all_operations es) false k next es (omega arith))
      (λ us l. ap finish (ap₂ unfused (lets_length k next us) (reciprocals_on_state false k next us l)))

  -- the scoped form, where the input has no more occurrences than rows are left and than a scope may be given, and its numbers are within 2^31
  pub scoped_on :
      (fuel left next : ℕ) (es : List Tree) → opens left next es ≡ true → let k = length es in
      cse_scope_by shown (suc fuel) left true next es
      ≡ (rounds_on shown (all_operations es) true k next es >>= λ us.
      let x = length (drop k us) in
      let s = state_of k next (reciprocals_on shown true k next us) in
      fuse_held (λ n l. cse_scope_by shown fuel (left_after left x s) true n l) left x s)
  unfolding cse_scope_by
  scoped_on fuel left next es e =
      let k = length es in
      let o = rounds_on shown (all_operations es) true k next es in
      let fused : ℕ → State → Outcome Scoped = λ x s. fuse_held (λ n l. cse_scope_by shown fuel (left_after left x s) true n l) left x s in
      let end : State → Outcome Scoped = λ s. fused (length s.lets) (reciprocals_by shown true s) in
      ap (λ (b : Bool). elim b as (λ _. Outcome Scoped) [ true ↦ (extract_all_by shown true next es >>= end) | false ↦ refused (by 23) ]) e
      ∙ ap (λ (o : Outcome State). o >>= end) (extract_all_on true next es)
      ∙ then_then o (λ us. ok (state_of k next us)) end
      ∙ then_same (λ (us : List Tree). k ≤ length us) o (λ us. end (state_of k next us))
      (λ us. fused (length (drop k us)) (state_of k next (reciprocals_on shown true k next us)))
      (rounds_on_length (all_operations es) true k next es (omega arith))
      (λ us l. ap₂ fused (lets_length k next us) (reciprocals_on_state true k next us l))
