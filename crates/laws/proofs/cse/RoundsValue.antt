-- Extraction and reciprocals keep values: after any number of rounds there is a reading of the names made so far under which each name holds
-- its expression's value and the results have the values that they started with. Assumes nothing.
use Prim.Native.Nat.{ℕ, zero, suc, ◌*◌, ◌%◌, ◌≤◌}
use mathlib.Core.Path.{◌≡◌, refl, sym, ◌∙◌, ap, ap₂, subst}
use mathlib.Core.Bool.{Bool, true, false, ◌&&◌, cond}
use mathlib.Core.Option.{Option, none, some}
use mathlib.Core.List.{List, [], ◌∷◌, ◌++◌}
use native.Mathlib.Omega.{arith}
use lib.IntN.{pos}
use lib.Dec.{T, eqb, leb, ltb→lt, eqb→eq, eqb_refl}
use Rattle.spec_tree.specs.Outcome.{Outcome, ok, refused, ◌>>=◌, each}
use Rattle.spec_tree.specs.Tree.{Name, input, xname, mname, Tree, Sym, Const, Op, nil, ◌◂◌, eq_name}
use Rattle.spec_tree.specs.Kinds.{Div}
use Rattle.spec_tree.specs.Facts.{all_operations, all_nodes, outside, count, size}
use Rattle.spec_tree.specs.text.Text.{display, before}
use Rattle.spec_rewrite.specs.Rewrite.{replace, replace_within, replace_divisor}
use Rattle.spec_cse.specs.Extract.{Binding, State, Candidate, bound, roots, is_candidate, candidate, beats, best_from, best, replace_bound, extract, rounds, extract_all, divisor_of, divisors, among, distinct, shared_divisors, insert_by_text, sort_by_text, replace_divisor_each, replace_divisor_bound, bind_reciprocal, bind_reciprocals, reciprocals}
use Rattle.spec_tree.specs.Value.{Reading, Env, value, values}
use Rattle.spec_cse.specs.Read.{set}
use Rattle.spec_tree.proofs.Logic.{and_left, and_right, and_both, not_true}
use Rattle.spec_rewrite.proofs.Names.{holds, holds_each, holds_all, holds_append, below, below_suc, below_le, below_x, weaken, weaken_all, value_same, values_same, all_nodes_hold, Holds, replace_holds, divisor_holds}
use Rattle.spec_rewrite.proofs.ReplaceValue.{Keeps, replace_within_keeps, value_reduced}
use Rattle.spec_rewrite.proofs.DivisorValue.{replace_divisor_keeps}
use Rattle.spec_rewrite.proofs.Coefficient.{exactly}

-- ---- one more name

on : (b : Bool) → T b → b ≡ true
on true t = refl
on false t = absurd t

pub set_other : (inp : List ℕ → Bool) (σ : Env) (j k v : ℕ) (n : Name) → T (below inp j k n) → set σ (xname k) v n ≡ σ n
unfolding set below eq_name
set_other inp σ j k v (input s) h = refl
set_other inp σ j k v (xname i) h = ap (λ (b : Bool). cond b v (σ (xname i))) (not_true (eqb i k) (λ t. let e = eqb→eq i k t in let l = ltb→lt i k h in omega arith))
set_other inp σ j k v (mname i) h = refl

pub set_self : (σ : Env) (k v : ℕ) → set σ (xname k) v (xname k) ≡ v
unfolding set eq_name
set_self σ k v = ap (λ (b : Bool). cond b v (σ (xname k))) (on (eqb k k) (eqb_refl k))

-- ---- what is chosen stands among the roots

module _ (p : Name → Bool) where
  unfoldable pub Chosen : Option Candidate → Type 0
  Chosen none = Unit {0}
  Chosen (some c) = T (holds p c.tree)

  mutual_step : (b : Bool) (x y : Option Candidate) → Chosen x → Chosen y → Chosen (elim b [ true ↦ x | false ↦ y ])
  mutual_step true x y g h = g
  mutual_step false x y g h = h

  chosen_from : (scoped : Bool) (rs : List Tree) (l : List Tree) (o : Option Candidate) → Chosen o → T (holds_all p l) → Chosen (best_from scoped rs o l)
  unfolding best_from candidate Chosen holds_all
  chosen_from scoped rs [] o g w = g
  chosen_from scoped rs (e ∷ l) none g w =
      mutual_step (is_candidate scoped rs e) _ _
      (chosen_from scoped rs l (some (candidate rs e)) (and_left (holds p e) (holds_all p l) w) (and_right (holds p e) (holds_all p l) w))
      (chosen_from scoped rs l none tt (and_right (holds p e) (holds_all p l) w))
  chosen_from scoped rs (e ∷ l) (some a) g w =
      mutual_step (is_candidate scoped rs e && beats a (candidate rs e)) _ _
      (chosen_from scoped rs l (some (candidate rs e)) (and_left (holds p e) (holds_all p l) w) (and_right (holds p e) (holds_all p l) w))
      (chosen_from scoped rs l (some a) g (and_right (holds p e) (holds_all p l) w))

  pub chosen : (scoped : Bool) (rs : List Tree) → T (holds_all p rs) → Chosen (best scoped rs)
  unfolding best Chosen
  chosen scoped rs w = chosen_from scoped rs (all_nodes rs) none tt (all_nodes_hold p rs w)

  -- the divisors to bind
  Divides : Option Tree → Type 0
  Divides none = Unit {0}
  Divides (some d) = T (holds p d)

  pick : (b : Bool) (d : Tree) → T (holds p d) → Divides (cond b (some d) none)
  unfolding Divides
  pick true d h = h
  pick false d h = tt

  divides : (t : Tree) → T (holds p t) → Divides (divisor_of t)
  unfolding Divides divisor_of holds
  divides (Sym n) h = tt
  divides (Const c) h = tt
  divides (Op k nil) h = tt
  divides (Op k (a ◂ nil)) h = tt
  divides (Op k (a ◂ (b ◂ f))) h = pick (eqb k Div) b (and_left (holds p b) (holds_each p f) (and_right (holds p a) (holds p b && holds_each p f) h))

  divisor_part : (o : Option Tree) (l : List Tree) → T (holds_all p l) → Divides o → T (holds_all p (elim o [ none ↦ l | some d ↦ d ∷ l ]))
  unfolding holds_all Divides
  divisor_part none l w h = w
  divisor_part (some d) l w h = and_both (holds p d) (holds_all p l) h w

  pub divisors_known : (l : List Tree) → T (holds_all p l) → T (holds_all p (divisors l))
  unfolding holds_all divisors
  divisors_known [] w = tt
  divisors_known (t ∷ l) w =
      divisor_part (divisor_of t) (divisors l) (divisors_known l (and_right (holds p t) (holds_all p l) w)) (divides t (and_left (holds p t) (holds_all p l) w))

  keep_or_drop : (b : Bool) (d : Tree) (l r : List Tree) → T (holds p d) → T (holds_all p l) → T (holds_all p r) → T (holds_all p (elim b [ true ↦ d ∷ l | false ↦ r ]))
  unfolding holds_all
  keep_or_drop true d l r g h k = and_both (holds p d) (holds_all p l) g h
  keep_or_drop false d l r g h k = k

  drop_or_keep : (b : Bool) (d : Tree) (l r : List Tree) → T (holds p d) → T (holds_all p l) → T (holds_all p r) → T (holds_all p (elim b [ true ↦ r | false ↦ d ∷ l ]))
  unfolding holds_all
  drop_or_keep true d l r g h k = k
  drop_or_keep false d l r g h k = and_both (holds p d) (holds_all p l) g h

  pub distinct_known : (seen l : List Tree) → T (holds_all p l) → T (holds_all p (distinct seen l))
  unfolding holds_all distinct
  distinct_known seen [] w = tt
  distinct_known seen (t ∷ l) w =
      drop_or_keep (among t seen) t (distinct (t ∷ seen) l) (distinct seen l) (and_left (holds p t) (holds_all p l) w)
      (distinct_known (t ∷ seen) l (and_right (holds p t) (holds_all p l) w)) (distinct_known seen l (and_right (holds p t) (holds_all p l) w))

  pub shared_known : (scoped : Bool) (rs l : List Tree) → T (holds_all p l) → T (holds_all p (shared_divisors scoped rs l))
  unfolding holds_all shared_divisors
  shared_known scoped rs [] w = tt
  shared_known scoped rs (d ∷ l) w =
      keep_or_drop (leb 2 (count d (divisors (all_nodes rs))) && leb 1 (count d (divisors (outside scoped rs)))) d (shared_divisors scoped rs l)
      (shared_divisors scoped rs l) (and_left (holds p d) (holds_all p l) w) (shared_known scoped rs l (and_right (holds p d) (holds_all p l) w))
      (shared_known scoped rs l (and_right (holds p d) (holds_all p l) w))

  insert_known : (d : Tree) (l : List Tree) → T (holds p d) → T (holds_all p l) → T (holds_all p (insert_by_text d l))
  unfolding holds_all insert_by_text
  insert_known d [] g w = and_both (holds p d) true g tt
  insert_known d (e ∷ l) g w =
      keep_or_drop (before (display e) (display d)) e (insert_by_text d l) (d ∷ (e ∷ l)) (and_left (holds p e) (holds_all p l) w)
      (insert_known d l g (and_right (holds p e) (holds_all p l) w)) (and_both (holds p d) (holds p e && holds_all p l) g w)

  pub sort_known : (l : List Tree) → T (holds_all p l) → T (holds_all p (sort_by_text l))
  unfolding holds_all sort_by_text
  sort_known [] w = tt
  sort_known (d ∷ l) w = insert_known d (sort_by_text l) (and_left (holds p d) (holds_all p l) w) (sort_known l (and_right (holds p d) (holds_all p l) w))

-- ---- the names bound, in order: `__xN` with N from k up to below the top

unfoldable pub let_names : List Binding → List Name
let_names [] = []
let_names (b ∷ l) = b.name ∷ let_names l

abbrev pub Numbered : ℕ → ℕ → List Name → Type 0
Numbered k top [] = k ≡ top
Numbered k top (n ∷ l) = (n ≡ xname k) × Numbered (suc k) top l

numbered_append : (k top : ℕ) (l : List Name) → Numbered k top l → Numbered k (suc top) (l ++ (xname top ∷ []))
numbered_append k top [] h = (ap xname (sym h), ap suc h)
numbered_append k top (n ∷ l) h = (h.0, numbered_append (suc k) top l h.1)

names_append : (l r : List Binding) → let_names (l ++ r) ≡ let_names l ++ let_names r
unfolding let_names
names_append [] r = refl
names_append (b ∷ l) r = ap {B = List Name} (λ x. b.name ∷ x) (names_append l r)

SameNames : List Binding → Outcome (List Binding) → Type 0
SameNames l (ok r) = let_names r ≡ let_names l
SameNames l (refused i) = Unit {0}

same_step :
    (b : Binding) (l : List Binding) (o : Outcome Tree) (q : Outcome (List Binding)) → SameNames l q
    → SameNames (b ∷ l) ((o >>= λ e. ok (record { name = b.name; expr = e })) >>= λ c. q >>= λ r. ok (c ∷ r))
unfolding SameNames let_names
same_step b l (ok e) (ok r) h = ap {B = List Name} (λ x. b.name ∷ x) h
same_step b l (ok e) (refused i) h = tt
same_step b l (refused i) q h = tt

same_names : (target : Tree) (n : Name) (l : List Binding) → SameNames l (each (λ b. replace_bound target n b) l)
unfolding SameNames each replace_bound let_names
same_names target n [] = refl
same_names target n (b ∷ l) = same_step b l (replace target n b.expr) (each (λ b. replace_bound target n b) l) (same_names target n l)

divided_names : (d : Tree) (n : Name) (l : List Binding) → let_names (replace_divisor_bound d n l) ≡ let_names l
unfolding replace_divisor_bound let_names
divided_names d n [] = refl
divided_names d n (b ∷ l) = ap {B = List Name} (λ x. b.name ∷ x) (divided_names d n l)

-- one binding more
numbered_more :
    (k top : ℕ) (l r : List Binding) (e : Tree) → Numbered k top (let_names l) → let_names r ≡ let_names l
    → Numbered k (suc top) (let_names (r ++ (record { name = xname top; expr = e } ∷ [])))
unfolding let_names
numbered_more k top l r e h q =
    subst (Numbered k (suc top)) (sym (names_append r (record { name = xname top; expr = e } ∷ []) ∙ ap (λ (x : List Name). x ++ (xname top ∷ [])) q))
    (numbered_append k top (let_names l) h)

-- ---- a reading of the names made so far

module _ (R : Reading) (inp : List ℕ → Bool) (start : ℕ) where
  -- each name is known and holds its expression's value
  unfoldable pub Binds : ℕ → Env → List Binding → Type 0
  Binds k σ [] = Unit {0}
  Binds k σ (b ∷ l) = (T (below inp start k b.name) × T (holds (below inp start k) b.expr) × (value R σ (Sym b.name) ≡ value R σ b.expr)) × Binds k σ l

  binds_known : (k : ℕ) (σ : Env) (l : List Binding) → Binds k σ l → T (holds_all (below inp start k) (bound l))
  unfolding Binds bound holds_all
  binds_known k σ [] h = tt
  binds_known k σ (b ∷ l) h = and_both (holds (below inp start k) b.expr) (holds_all (below inp start k) (bound l)) h.0.1 (binds_known k σ l h.1)

  binds_append : (k : ℕ) (σ : Env) (l r : List Binding) → Binds k σ l → Binds k σ r → Binds k σ (l ++ r)
  unfolding Binds
  binds_append k σ [] r g h = h
  binds_append k σ (b ∷ l) r g h = (g.0, binds_append k σ l r g.1 h)

  module _ (ρ : Env) (vs : List ℕ) where
    pub record Model (s : State) : Type 0 where
      pub env : Env
      pub agrees : (n : Name) → T (below inp start start n) → env n ≡ ρ n
      pub results : values R env s.results ≡ vs
      pub known : T (holds_all (below inp start s.next) s.results)
      pub binds : Binds s.next env s.lets
      pub later : start ≤ s.next
      pub numbered : Numbered start s.next (let_names s.lets)

    unfoldable pub Modeled : Outcome State → Type 0
    Modeled (ok s) = Model s
    Modeled (refused i) = Unit {0}

  -- ---- a new name for x

  module _ (σ : Env) (k : ℕ) (x : Tree) (w : T (holds (below inp start k) x)) where
    unfoldable pub named : Env
    named = set σ (xname k) (value R σ x)

    same : (n : Name) → T (below inp start k n) → σ n ≡ named n
    unfolding named
    same n h = sym (set_other inp σ start k (value R σ x) n h)

    name_value : value R named (Sym (xname k)) ≡ value R named x
    unfolding named value
    name_value = ap (λ (v : ℕ). v % R.modulus) (set_self σ k (value R σ x)) ∙ value_reduced R σ x ∙ value_same R (below inp start k) σ named same x w

    -- what was bound stays bound
    binds_named : (l : List Binding) → Binds k σ l → Binds (suc k) named l
    unfolding Binds
    binds_named [] h = tt
    binds_named (b ∷ l) h = (
      (
        below_suc inp start k b.name h.0.0,
        weaken (below inp start k) (below inp start (suc k)) (below_suc inp start k) b.expr h.0.1,
        sym (value_same R (below inp start k) σ named same (Sym b.name) (unfold holds in h.0.0)) ∙ h.0.2 ∙ value_same R (below inp start k) σ named same b.expr h.0.1,
      ),
      binds_named l h.1,
    )

    last : Binds (suc k) named (record { name = xname k; expr = x } ∷ [])
    unfolding Binds
    last = ((below_x inp start k, weaken (below inp start k) (below inp start (suc k)) (below_suc inp start k) x w, name_value), tt)

    -- a binding's expression may be rewritten to one of the same value
    Rewritten : Tree → Outcome Tree → Type 0
    Rewritten e (ok r) = (value R named r ≡ value R named e) × T (holds (below inp start (suc k)) r)
    Rewritten e (refused i) = Unit {0}

    RewrittenAll : List Tree → Outcome (List Tree) → Type 0
    RewrittenAll l (ok r) = (values R named r ≡ values R named l) × T (holds_all (below inp start (suc k)) r)
    RewrittenAll l (refused i) = Unit {0}

    rewritten_step :
        (e : Tree) (l : List Tree) (o : Outcome Tree) → Rewritten e o → (q : Outcome (List Tree)) → RewrittenAll l q
        → RewrittenAll (e ∷ l) (o >>= λ b. q >>= λ r. ok (b ∷ r))
    unfolding Rewritten RewrittenAll values holds_all
    rewritten_step e l (ok t) g (ok r) h = (ap₂ ◌∷◌ g.0 h.0, and_both (holds (below inp start (suc k)) t) (holds_all (below inp start (suc k)) r) g.1 h.1)
    rewritten_step e l (ok t) g (refused i) h = tt
    rewritten_step e l (refused i) g q h = tt

    rewritten_all : (g : Tree → Outcome Tree) → ((e : Tree) → T (holds (below inp start (suc k)) e) → Rewritten e (g e)) → (l : List Tree) → T (holds_all (below inp start (suc k)) l) → RewrittenAll l (each g l)
    unfolding RewrittenAll each values holds_all
    rewritten_all g f [] v = (refl, tt)
    rewritten_all g f (e ∷ l) v =
        rewritten_step e l (g e) (f e (and_left (holds (below inp start (suc k)) e) (holds_all (below inp start (suc k)) l) v)) (each g l)
        (rewritten_all g f l (and_right (holds (below inp start (suc k)) e) (holds_all (below inp start (suc k)) l) v))

    BoundAll : Outcome (List Binding) → Type 0
    BoundAll (ok l) = Binds (suc k) named l
    BoundAll (refused i) = Unit {0}

    bound_step :
        (b : Binding) → T (below inp start (suc k) b.name) × T (holds (below inp start (suc k)) b.expr) × (value R named (Sym b.name) ≡ value R named b.expr)
        → (o : Outcome Tree) → Rewritten b.expr o → (q : Outcome (List Binding)) → BoundAll q
        → BoundAll ((o >>= λ e. ok (record { name = b.name; expr = e })) >>= λ c. q >>= λ r. ok (c ∷ r))
    unfolding Rewritten BoundAll Binds
    bound_step b h (ok t) g (ok r) f = ((h.0, g.1, h.2 ∙ sym g.0), f)
    bound_step b h (ok t) g (refused i) f = tt
    bound_step b h (refused i) g q f = tt

  -- ---- extraction

  module _ (σ : Env) (k : ℕ) (target : Tree) (w : T (holds (below inp start k) target)) where
    both : (e : Tree) (o : Outcome Tree) → Keeps R (named σ k target w) exactly target (xname k) (name_value σ k target w) (value R (named σ k target w) e) o → Holds (below inp start (suc k)) target (xname k) (λ _. below_x inp start k) o → Rewritten σ k target w e o
    unfolding Keeps Holds Rewritten
    both e (ok r) g h = (g, h)
    both e (refused i) g h = tt

    replaced : (e : Tree) → T (holds (below inp start (suc k)) e) → Rewritten σ k target w e (replace target (xname k) e)
    unfolding replace
    replaced e v =
        both e (replace_within (2 * size e) target (xname k) e)
        (replace_within_keeps R (named σ k target w) exactly target (xname k) (name_value σ k target w) (2 * size e) e)
        (replace_holds (below inp start (suc k)) target (xname k) (λ _. below_x inp start k) e v)

    replaced_bound : (l : List Binding) → Binds (suc k) (named σ k target w) l → BoundAll σ k target w (each (λ b. replace_bound target (xname k) b) l)
    unfolding Binds BoundAll each replace_bound
    replaced_bound [] h = tt
    replaced_bound (b ∷ l) h = bound_step σ k target w b h.0 (replace target (xname k) b.expr) (replaced b.expr h.0.1) (each (λ b. replace_bound target (xname k) b) l) (replaced_bound l h.1)

  module _ (ρ : Env) (vs : List ℕ) where
    extract_step :
        (target : Tree) (s : State) (M : Model ρ vs s) (w : T (holds (below inp start s.next) target))
        → (o : Outcome (List Tree)) → RewrittenAll M.env s.next target w s.results o
        → (q : Outcome (List Binding)) → BoundAll M.env s.next target w q → SameNames s.lets q
        → Modeled ρ vs
        (o >>= λ rs. q >>= λ ls. ok (record { results = rs; lets = ls ++ (record { name = xname s.next; expr = target } ∷ []); next = suc s.next }))
    unfolding RewrittenAll BoundAll Modeled SameNames
    extract_step target s M w (ok rs) g (ok ls) h f =
        record {
          env = named M.env s.next target w;
          agrees = λ n a. sym (same M.env s.next target w n (below_le inp start start s.next M.later n a)) ∙ M.agrees n a;
          results = g.0 ∙ sym (values_same R (below inp start s.next) M.env (named M.env s.next target w) (same M.env s.next target w) s.results M.known) ∙ M.results;
          known = g.1;
          binds = binds_append (suc s.next) (named M.env s.next target w) ls _ h (last M.env s.next target w);
          later = omega (arith, M.later);
          numbered = numbered_more start s.next s.lets ls target M.numbered f;
        }
    extract_step target s M w (ok rs) g (refused i) h f = tt
    extract_step target s M w (refused i) g q h f = tt

    extracted : (target : Tree) (s : State) → Model ρ vs s → T (holds (below inp start s.next) target) → Modeled ρ vs (extract target s)
    unfolding extract
    extracted target s M w =
        extract_step target s M w (each (λ e. replace target (xname s.next) e) s.results)
        (rewritten_all M.env s.next target w (λ e. replace target (xname s.next) e) (replaced M.env s.next target w) s.results
        (weaken_all (below inp start s.next) (below inp start (suc s.next)) (below_suc inp start s.next) s.results M.known))
        (each (λ b. replace_bound target (xname s.next) b) s.lets)
        (replaced_bound M.env s.next target w s.lets (binds_named M.env s.next target w s.lets M.binds))
        (same_names target (xname s.next) s.lets)

    pub roots_known : (s : State) → Model ρ vs s → T (holds_all (below inp start s.next) (roots s))
    unfolding roots
    roots_known s M = holds_append (below inp start s.next) s.results (bound s.lets) M.known (binds_known s.next M.env s.lets M.binds)

    then_modeled : (o : Outcome State) → Modeled ρ vs o → (g : State → Outcome State) → ((s : State) → Model ρ vs s → Modeled ρ vs (g s)) → Modeled ρ vs (o >>= g)
    unfolding Modeled
    then_modeled (ok s) h g f = f s h
    then_modeled (refused i) h g f = tt

    round_step :
        (s : State) → Model ρ vs s → (o : Option Candidate) → Chosen (below inp start s.next) o → (g : State → Outcome State)
        → ((s : State) → Model ρ vs s → Modeled ρ vs (g s))
        → Modeled ρ vs (elim o [ none ↦ ok s | some c ↦ (extract c.tree s >>= λ t. g t) ])
    unfolding Modeled Chosen
    round_step s M none h g f = M
    round_step s M (some c) h g f = then_modeled (extract c.tree s) (extracted c.tree s M h) g f

    pub rounds_keep : (fuel : ℕ) (scoped : Bool) (s : State) → Model ρ vs s → Modeled ρ vs (rounds fuel scoped s)
    unfolding Modeled rounds
    rounds_keep zero scoped s M = M
    rounds_keep (suc fuel) scoped s M =
        round_step s M (best scoped (roots s)) (chosen (below inp start s.next) scoped (roots s) (roots_known s M)) (λ t. rounds fuel scoped t) (λ t N. rounds_keep fuel scoped t N)

    -- ---- reciprocals

    divided_results : (σ : Env) (k : ℕ) (d : Tree) (w : T (holds (below inp start k) (Op Div (Const (pos 1) ◂ d ◂ nil)))) (l : List Tree) → T (holds_all (below inp start (suc k)) l)
        → (values R (named σ k (Op Div (Const (pos 1) ◂ d ◂ nil)) w) (replace_divisor_each d (xname k) l) ≡ values R (named σ k (Op Div (Const (pos 1) ◂ d ◂ nil)) w) l)
        × T (holds_all (below inp start (suc k)) (replace_divisor_each d (xname k) l))
    unfolding values holds_all replace_divisor_each
    divided_results σ k d w [] v = (refl, tt)
    divided_results σ k d w (t ∷ l) v =
        let p = below inp start (suc k) in
        let r = divided_results σ k d w l (and_right (holds p t) (holds_all p l) v) in
        let x = Op Div (Const (pos 1) ◂ d ◂ nil) in (
          ap₂ ◌∷◌ (replace_divisor_keeps R (named σ k x w) d (xname k) (name_value σ k x w) t) r.0,
          and_both (holds p (replace_divisor d (xname k) t)) (holds_all p (replace_divisor_each d (xname k) l))
              (divisor_holds p d (xname k) (λ _. below_x inp start k) t (and_left (holds p t) (holds_all p l) v)) r.1,
        )

    divided_bound : (σ : Env) (k : ℕ) (d : Tree) (w : T (holds (below inp start k) (Op Div (Const (pos 1) ◂ d ◂ nil)))) (l : List Binding)
        → Binds (suc k) (named σ k (Op Div (Const (pos 1) ◂ d ◂ nil)) w) l → Binds (suc k) (named σ k (Op Div (Const (pos 1) ◂ d ◂ nil)) w) (replace_divisor_bound d (xname k) l)
    unfolding Binds replace_divisor_bound
    divided_bound σ k d w [] h = tt
    divided_bound σ k d w (b ∷ l) h =
        let x = Op Div (Const (pos 1) ◂ d ◂ nil) in (
          (
            h.0.0,
            divisor_holds (below inp start (suc k)) d (xname k) (λ _. below_x inp start k) b.expr h.0.1,
            h.0.2 ∙ sym (replace_divisor_keeps R (named σ k x w) d (xname k) (name_value σ k x w) b.expr),
          ),
          divided_bound σ k d w l h.1,
        )

    one_over : (k : ℕ) (d : Tree) → T (holds (below inp start k) d) → T (holds (below inp start k) (Op Div (Const (pos 1) ◂ d ◂ nil)))
    unfolding holds
    one_over k d h = and_both (holds (below inp start k) d) true h tt

    reciprocal_keeps : (d : Tree) (s : State) → T (holds (below inp start s.next) d) → Model ρ vs s → Model ρ vs (bind_reciprocal d s)
    unfolding bind_reciprocal
    reciprocal_keeps d s h M =
        let x = Op Div (Const (pos 1) ◂ d ◂ nil) in
        let w = one_over s.next d h in
        let r = divided_results M.env s.next d w s.results (weaken_all (below inp start s.next) (below inp start (suc s.next)) (below_suc inp start s.next) s.results M.known) in
        record {
          env = named M.env s.next x w;
          agrees = λ n a. sym (same M.env s.next x w n (below_le inp start start s.next M.later n a)) ∙ M.agrees n a;
          results = r.0 ∙ sym (values_same R (below inp start s.next) M.env (named M.env s.next x w) (same M.env s.next x w) s.results M.known) ∙ M.results;
          known = r.1;
          binds =
              binds_append (suc s.next) (named M.env s.next x w) (replace_divisor_bound d (xname s.next) s.lets) _
              (divided_bound M.env s.next d w s.lets (binds_named M.env s.next x w s.lets M.binds)) (last M.env s.next x w);
          later = omega (arith, M.later);
          numbered = numbered_more start s.next s.lets (replace_divisor_bound d (xname s.next) s.lets) x M.numbered (divided_names d (xname s.next) s.lets);
        }

    reciprocal_each_keeps : (l : List Tree) (s : State) → T (holds_all (below inp start s.next) l) → Model ρ vs s → Model ρ vs (bind_reciprocals l s)
    unfolding bind_reciprocals holds_all bind_reciprocal
    reciprocal_each_keeps [] s h M = M
    reciprocal_each_keeps (d ∷ l) s h M =
        reciprocal_each_keeps l (bind_reciprocal d s)
        (weaken_all (below inp start s.next) (below inp start (suc s.next)) (below_suc inp start s.next) l (and_right (holds (below inp start s.next) d) (holds_all (below inp start s.next) l) h))
        (reciprocal_keeps d s (and_left (holds (below inp start s.next) d) (holds_all (below inp start s.next) l) h) M)

    pub reciprocals_keep : (scoped : Bool) (s : State) → Model ρ vs s → Model ρ vs (reciprocals scoped s)
    unfolding reciprocals
    reciprocals_keep scoped s M =
        let p = below inp start s.next in
        let rs = roots s in
        reciprocal_each_keeps (sort_by_text (shared_divisors scoped rs (distinct [] (divisors (all_nodes rs))))) s
        (sort_known p (shared_divisors scoped rs (distinct [] (divisors (all_nodes rs))))
        (shared_known p scoped rs (distinct [] (divisors (all_nodes rs)))
        (distinct_known p [] (divisors (all_nodes rs)) (divisors_known p (all_nodes rs) (all_nodes_hold p rs (roots_known s M))))))
        M

  -- a scope begins with its expressions as they are
  pub begin : (ρ : Env) (es : List Tree) → T (holds_all (below inp start start) es) → Model ρ (values R ρ es) (record { results = es; lets = []; next = start })
  unfolding Binds let_names
  begin ρ es h = record { env = ρ; agrees = λ n a. refl; results = refl; known = h; binds = tt; later = omega arith; numbered = refl }

  pub extract_all_keeps : (ρ : Env) (scoped : Bool) (es : List Tree) → T (holds_all (below inp start start) es) → Modeled ρ (values R ρ es) (extract_all scoped start es)
  unfolding extract_all
  extract_all_keeps ρ scoped es h = rounds_keep ρ (values R ρ es) (all_operations es) scoped (record { results = es; lets = []; next = start }) (begin ρ es h)
