-- The rounds of extraction and the reciprocals under other names of the list's symbols: the same states, renamed, where texts are those of the renamed trees.
-- Assumes nothing.
use Prim.Native.Nat.{ℕ, zero, suc}
use mathlib.Core.Path.{◌≡◌, refl, sym, ◌∙◌, ap, ap₂, subst}
use mathlib.Core.Bool.{Bool, true, false, ◌&&◌}
use mathlib.Core.Option.{Option, none, some}
use mathlib.Core.List.{List, [], ◌∷◌, ◌++◌, map}
use lib.IntN.{pos}
use lib.Dec.{T}
use Rattle.spec_tree.specs.Outcome.{Outcome, ok, ◌>>=◌, each}
use Rattle.spec_tree.specs.Tree.{xname, Tree, Const, Op, nil, ◌◂◌}
use Rattle.spec_tree.specs.Kinds.{Div}
use Rattle.spec_tree.specs.Facts.{all_operations, all_nodes}
use Rattle.spec_tree.specs.text.Text.{display, before}
use Rattle.spec_tree.proofs.Logic.{and_both}
use Rattle.spec_tree.proofs.TokenLaws.{map_append}
use Rattle.spec_tree.proofs.TokenCode.{known_name, renamed_name, renamed as RenamedBy}
use Rattle.spec_rewrite.specs.Rewrite.{replace, replace_divisor}
use Rattle.spec_rewrite.proofs.Names.{holds, holds_append}
use Rattle.spec_cse.specs.Extract.{Binding, State, bound, roots, is_candidate, Candidate, candidate, beats, best_from, best, replace_bound, extract, rounds, extract_all, distinct, divisors, shared_divisors, insert_by_text, sort_by_text, replace_divisor_each, replace_divisor_bound, bind_reciprocal, bind_reciprocals, reciprocals}
use Rattle.laws.specs.positions.Shown.{beats_by, best_from_by, best_by, rounds_by, extract_all_by, insert_by, sort_by, reciprocals_by}
use Rattle.laws.proofs.positions.Renaming.{Renaming, named, renamed, is_known, Known, KnownAll, first_known, rest_known, both_known, none_known, all_operations_renamed, all_nodes_renamed, all_nodes_known}
use Rattle.laws.proofs.positions.Choosing.{is_candidate_renamed, renamed_candidate, candidate_renamed, distinct_renamed, distinct_known, divisors_renamed, divisors_known, shared_divisors_renamed, shared_divisors_known}
use Rattle.laws.proofs.positions.Rewriting.{Agree, agree_ok, then_agree, AgreeIf, replace_renamed, divisor_renamed, divisor_keeps_known}

-- ---- a step at each element

abbrev pub Every : {A : Type 0} → (A → Type 0) → List A → Type 0
Every Q [] = Unit {0}
Every Q (a ∷ l) = Q a × Every Q l

pub every_append : {A : Type 0} (Q : A → Type 0) (l m : List A) → Every Q l → Every Q m → Every Q (l ++ m)
every_append Q [] m g h = h
every_append Q (a ∷ l) m g h = (g.0, every_append Q l m g.1 h)

pub each_agree :
    {A B C D : Type 0} (Q : A → Type 0) (f : A → B) (S : C → Type 0) (g : C → D) (k : A → Outcome C) (l : B → Outcome D)
    → ((a : A) → Q a → Agree S g (k a) (l (f a))) → (xs : List A) → Every Q xs → Agree (Every S) (map g) (each k xs) (each l (map f xs))
unfolding each
each_agree Q f S g k l e [] h = agree_ok (Every S) (map g) [] tt
each_agree Q f S g k l e (a ∷ xs) h =
    then_agree S g (Every S) (map g) (k a) (l (f a)) (e a h.0) (λ b. each k xs >>= λ r. ok (b ∷ r)) (λ b. each l (map f xs) >>= λ r. ok (b ∷ r))
    (λ b q.
    then_agree (Every S) (map g) (Every S) (map g) (each k xs) (each l (map f xs)) (each_agree Q f S g k l e xs h.1) (λ r. ok (b ∷ r)) (λ r. ok (g b ∷ r))
    (λ r z. agree_ok (Every S) (map g) (b ∷ r) (q, z)))

module _ (R : Renaming) where
  pub every_known : (l : List Tree) → KnownAll R l → Every (Known R) l
  every_known [] h = tt
  every_known (t ∷ l) h = (first_known R t l h, every_known l (rest_known R t l h))

  pub known_every : (l : List Tree) → Every (Known R) l → KnownAll R l
  known_every [] h = none_known R
  known_every (t ∷ l) h = both_known R t l h.0 (known_every l h.1)

  -- a made name is its own
  pub made_known : (n : ℕ) → T (is_known R (xname n))
  unfolding known_name
  made_known n = tt

  -- ---- states

  abbrev pub renamed_binding : Binding → Binding
  renamed_binding b = record { name = named R b.name; expr = renamed R b.expr }

  abbrev pub KnownBinding : Binding → Type 0
  KnownBinding b = T (is_known R b.name) × Known R b.expr

  abbrev pub renamed_state : State → State
  renamed_state s = record { results = map (renamed R) s.results; lets = map renamed_binding s.lets; next = s.next }

  abbrev pub KnownState : State → Type 0
  KnownState s = KnownAll R s.results × Every KnownBinding s.lets

  bound_renamed : (l : List Binding) → bound (map renamed_binding l) ≡ map (renamed R) (bound l)
  unfolding bound
  bound_renamed [] = refl
  bound_renamed (b ∷ l) = ap (λ (r : List Tree). renamed R b.expr ∷ r) (bound_renamed l)

  bound_known : (l : List Binding) → Every KnownBinding l → KnownAll R (bound l)
  unfolding bound
  bound_known [] h = none_known R
  bound_known (b ∷ l) h = both_known R b.expr (bound l) h.0.1 (bound_known l h.1)

  pub roots_renamed : (s : State) → roots (renamed_state s) ≡ map (renamed R) (roots s)
  unfolding roots
  roots_renamed s = ap (λ (r : List Tree). map (renamed R) s.results ++ r) (bound_renamed s.lets) ∙ sym (map_append (renamed R) s.results (bound s.lets))

  pub roots_known : (s : State) → KnownState s → KnownAll R (roots s)
  unfolding roots
  roots_known s h = holds_append (is_known R) s.results (bound s.lets) h.0 (bound_known s.lets h.1)

  -- ---- one extraction

  pub replace_bound_renamed :
      (target : Tree) (n : ℕ) → Known R target → (b : Binding) → KnownBinding b
      → Agree KnownBinding renamed_binding (replace_bound target (xname n) b) (replace_bound (renamed R target) (xname n) (renamed_binding b))
  unfolding replace_bound renamed_name
  replace_bound_renamed target n g b h =
      then_agree (Known R) (renamed R) KnownBinding renamed_binding (replace target (xname n) b.expr) (replace (renamed R target) (xname n) (renamed R b.expr))
      (replace_renamed R target (xname n) g (made_known n) b.expr h.1) (λ e. ok (record { name = b.name; expr = e }))
      (λ e. ok (record { name = named R b.name; expr = e })) (λ e q. agree_ok KnownBinding renamed_binding (record { name = b.name; expr = e }) (h.0, q))

  pub extract_renamed :
      (target : Tree) (s : State) → Known R target → KnownState s → Agree KnownState renamed_state (extract target s) (extract (renamed R target) (renamed_state s))
  unfolding extract renamed_name
  extract_renamed target s g h =
      let n = xname s.next in
      let last : Binding = record { name = n; expr = target } in
      let done : List Tree → List Binding → State = λ rs ls. record { results = rs; lets = ls ++ (last ∷ []); next = suc s.next } in
      let renamed_done : List Tree → List Binding → State = λ rs ls. record { results = rs; lets = ls ++ (renamed_binding last ∷ []); next = suc s.next } in
      let bound_each = each_agree KnownBinding renamed_binding KnownBinding renamed_binding (λ b. replace_bound target n b) (λ b. replace_bound (renamed R target) n b)
      (λ b q. replace_bound_renamed target s.next g b q) s.lets h.1 in
      let results_each = each_agree (Known R) (renamed R) (Known R) (renamed R) (λ e. replace target n e) (λ e. replace (renamed R target) n e)
      (λ e q. replace_renamed R target n g (made_known s.next) e q) s.results (every_known s.results h.0) in
      then_agree (Every (Known R)) (map (renamed R)) KnownState renamed_state (each (λ e. replace target n e) s.results)
      (each (λ e. replace (renamed R target) n e) (map (renamed R) s.results)) results_each
      (λ rs. each (λ b. replace_bound target n b) s.lets >>= λ ls. ok (done rs ls))
      (λ rs. each (λ b. replace_bound (renamed R target) n b) (map renamed_binding s.lets) >>= λ ls. ok (renamed_done rs ls))
      (λ rs q.
      then_agree (Every KnownBinding) (map renamed_binding) KnownState renamed_state (each (λ b. replace_bound target n b) s.lets)
      (each (λ b. replace_bound (renamed R target) n b) (map renamed_binding s.lets)) bound_each (λ ls. ok (done rs ls)) (λ ls. ok (renamed_done (map (renamed R) rs) ls))
      (λ ls z. (
        (agree_ok KnownState renamed_state (done rs ls) (known_every rs q, every_append KnownBinding ls (last ∷ []) z ((made_known s.next, g), tt))).0,
        ap (λ (l : List Binding). ok (record { results = map (renamed R) rs; lets = l; next = suc s.next })) (sym (map_append renamed_binding ls (last ∷ []))),
      )))

  -- ---- the best candidate

  -- the text that a tree has under the names
  abbrev pub shown : Tree → List ℕ
  shown t = display (renamed R t)

  abbrev pub KnownCandidate : Candidate → Type 0
  KnownCandidate c = Known R c.tree

  beats_renamed : (a b : Candidate) → beats (renamed_candidate R a) (renamed_candidate R b) ≡ beats_by shown a b
  unfolding beats beats_by
  beats_renamed a b = refl

  abbrev pub AgreeBest : Option Candidate → Option Candidate → Type 0
  AgreeBest = AgreeIf KnownCandidate (renamed_candidate R)

  best_step :
      (b c : Bool) → b ≡ c → (p q r s : Option Candidate) → AgreeBest p r → AgreeBest q s → AgreeBest (elim c [ true ↦ p | false ↦ q ]) (elim b [ true ↦ r | false ↦ s ])
  best_step b c e p q r s h g = subst (λ (b : Bool). AgreeBest (elim c [ true ↦ p | false ↦ q ]) (elim b [ true ↦ r | false ↦ s ])) (sym e) (go c)
    where
      go : (c : Bool) → AgreeBest (elim c [ true ↦ p | false ↦ q ]) (elim c [ true ↦ r | false ↦ s ])
      go true = h
      go false = g

  best_from_renamed :
      (scoped : Bool) (rs : List Tree) → KnownAll R rs → (l : List Tree) → KnownAll R l → (o u : Option Candidate) → AgreeBest o u
      → AgreeBest (best_from_by shown scoped rs o l) (best_from scoped (map (renamed R) rs) u (map (renamed R) l))
  unfolding best_from best_from_by
  best_from_renamed scoped rs h [] g o u a = a
  best_from_renamed scoped rs h (e ∷ l) g none none a =
      let k = first_known R e l g in
      let more = best_from_renamed scoped rs h l (rest_known R e l g) in
      let c = candidate (map (renamed R) rs) (renamed R e) in
      best_step (is_candidate scoped (map (renamed R) rs) (renamed R e)) (is_candidate scoped rs e) (is_candidate_renamed R scoped rs e h k)
      (best_from_by shown scoped rs (some (candidate rs e)) l) (best_from_by shown scoped rs none l) (best_from scoped (map (renamed R) rs) (some c) (map (renamed R) l))
      (best_from scoped (map (renamed R) rs) none (map (renamed R) l))
      (more (some (candidate rs e)) (some c) (unfold candidate in k, sym (candidate_renamed R rs e h k))) (more none none a)
  best_from_renamed scoped rs h (e ∷ l) g none (some y) a = absurd a
  best_from_renamed scoped rs h (e ∷ l) g (some x) none a = absurd a
  best_from_renamed scoped rs h (e ∷ l) g (some x) (some y) a =
      let k = first_known R e l g in
      let more = best_from_renamed scoped rs h l (rest_known R e l g) in
      let c = candidate (map (renamed R) rs) (renamed R e) in
      let same : beats y c ≡ beats_by shown x (candidate rs e) = ap₂ beats (sym a.1) (candidate_renamed R rs e h k) ∙ beats_renamed x (candidate rs e) in
      best_step (is_candidate scoped (map (renamed R) rs) (renamed R e) && beats y c) (is_candidate scoped rs e && beats_by shown x (candidate rs e))
      (ap₂ ◌&&◌ (is_candidate_renamed R scoped rs e h k) same) (best_from_by shown scoped rs (some (candidate rs e)) l) (best_from_by shown scoped rs (some x) l)
      (best_from scoped (map (renamed R) rs) (some c) (map (renamed R) l)) (best_from scoped (map (renamed R) rs) (some y) (map (renamed R) l))
      (more (some (candidate rs e)) (some c) (unfold candidate in k, sym (candidate_renamed R rs e h k))) (more (some x) (some y) a)

  pub best_renamed : (scoped : Bool) (rs : List Tree) → KnownAll R rs → AgreeBest (best_by shown scoped rs) (best scoped (map (renamed R) rs))
  unfolding best best_by
  best_renamed scoped rs h =
      subst (λ (l : List Tree). AgreeBest (best_from_by shown scoped rs none (all_nodes rs)) (best_from scoped (map (renamed R) rs) none l)) (sym (all_nodes_renamed R rs))
      (best_from_renamed scoped rs h (all_nodes rs) (all_nodes_known R rs h) none none tt)

  -- ---- rounds

  round_step :
      (fuel : ℕ) (scoped : Bool) (s : State) → KnownState s
      → ((t : State) → KnownState t → Agree KnownState renamed_state (rounds_by shown fuel scoped t) (rounds fuel scoped (renamed_state t)))
      → (o u : Option Candidate) → AgreeBest o u
      → Agree KnownState renamed_state (elim o [ none ↦ ok s | some c ↦ (extract c.tree s >>= λ t. rounds_by shown fuel scoped t) ])
      (elim u [ none ↦ ok (renamed_state s) | some c ↦ (extract c.tree (renamed_state s) >>= λ t. rounds fuel scoped t) ])
  round_step fuel scoped s h k none none a = agree_ok KnownState renamed_state s h
  round_step fuel scoped s h k none (some y) a = absurd a
  round_step fuel scoped s h k (some x) none a = absurd a
  round_step fuel scoped s h k (some x) (some y) a =
      subst
      (λ (y : Candidate).
      Agree KnownState renamed_state (extract x.tree s >>= λ t. rounds_by shown fuel scoped t) (extract y.tree (renamed_state s) >>= λ t. rounds fuel scoped t)) a.1
      (then_agree KnownState renamed_state KnownState renamed_state (extract x.tree s) (extract (renamed R x.tree) (renamed_state s))
      (extract_renamed x.tree s a.0 h) (λ t. rounds_by shown fuel scoped t) (λ t. rounds fuel scoped t) k)

  pub rounds_renamed :
      (fuel : ℕ) (scoped : Bool) (s : State) → KnownState s → Agree KnownState renamed_state (rounds_by shown fuel scoped s) (rounds fuel scoped (renamed_state s))
  unfolding rounds rounds_by
  rounds_renamed zero scoped s h = agree_ok KnownState renamed_state s h
  rounds_renamed (suc fuel) scoped s h =
      round_step fuel scoped s h (λ t q. rounds_renamed fuel scoped t q) (best_by shown scoped (roots s)) (best scoped (roots (renamed_state s)))
      (subst (λ (l : List Tree). AgreeBest (best_by shown scoped (roots s)) (best scoped l)) (sym (roots_renamed s)) (best_renamed scoped (roots s) (roots_known s h)))

  pub extract_all_renamed :
      (scoped : Bool) (next : ℕ) (es : List Tree) → KnownAll R es
      → Agree KnownState renamed_state (extract_all_by shown scoped next es) (extract_all scoped next (map (renamed R) es))
  unfolding extract_all extract_all_by
  extract_all_renamed scoped next es h =
      let s : State = record { results = es; lets = []; next = next } in
      subst (λ (n : ℕ). Agree KnownState renamed_state (rounds_by shown (all_operations es) scoped s) (rounds n scoped (renamed_state s))) (sym (all_operations_renamed R es))
      (rounds_renamed (all_operations es) scoped s (h, tt))

  -- ---- reciprocals

  insert_step :
      (b : Bool) (d e : Tree) (l p q : List Tree) → p ≡ map (renamed R) q
      → ◌≡◌ {A = List Tree} (elim b [ true ↦ renamed R e ∷ p | false ↦ renamed R d ∷ (renamed R e ∷ map (renamed R) l) ])
      (map (renamed R) (elim b [ true ↦ e ∷ q | false ↦ d ∷ (e ∷ l) ]))
  insert_step true d e l p q h = ap (λ (l : List Tree). renamed R e ∷ l) h
  insert_step false d e l p q h = refl

  insert_renamed : (d : Tree) (l : List Tree) → insert_by_text (renamed R d) (map (renamed R) l) ≡ map (renamed R) (insert_by shown d l)
  unfolding insert_by_text insert_by
  insert_renamed d [] = refl
  insert_renamed d (e ∷ l) =
      insert_step (before (shown e) (shown d)) d e l (insert_by_text (renamed R d) (map (renamed R) l)) (insert_by shown d l) (insert_renamed d l)

  pub sort_renamed : (l : List Tree) → sort_by_text (map (renamed R) l) ≡ map (renamed R) (sort_by shown l)
  unfolding sort_by_text sort_by
  sort_renamed [] = refl
  sort_renamed (d ∷ l) = ap (insert_by_text (renamed R d)) (sort_renamed l) ∙ insert_renamed d (sort_by shown l)

  insert_known_step : (b : Bool) (d e : Tree) (l q : List Tree) → Known R d → KnownAll R (e ∷ l) → KnownAll R q → KnownAll R (elim b [ true ↦ e ∷ q | false ↦ d ∷ (e ∷ l) ])
  insert_known_step true d e l q g h k = both_known R e q (first_known R e l h) k
  insert_known_step false d e l q g h k = both_known R d (e ∷ l) g h

  insert_known : (d : Tree) (l : List Tree) → Known R d → KnownAll R l → KnownAll R (insert_by shown d l)
  unfolding insert_by
  insert_known d [] g h = both_known R d [] g h
  insert_known d (e ∷ l) g h = insert_known_step (before (shown e) (shown d)) d e l (insert_by shown d l) g h (insert_known d l g (rest_known R e l h))

  pub sort_known : (l : List Tree) → KnownAll R l → KnownAll R (sort_by shown l)
  unfolding sort_by
  sort_known [] h = h
  sort_known (d ∷ l) h = insert_known d (sort_by shown l) (first_known R d l h) (sort_known l (rest_known R d l h))

  module _ (d : Tree) (n : ℕ) (g : Known R d) where
    divisor_each_renamed :
        (l : List Tree) → KnownAll R l → replace_divisor_each (renamed R d) (xname n) (map (renamed R) l) ≡ map (renamed R) (replace_divisor_each d (xname n) l)
    unfolding replace_divisor_each renamed_name
    divisor_each_renamed [] h = refl
    divisor_each_renamed (t ∷ l) h = ap₂ ◌∷◌ (divisor_renamed R d (xname n) g t (first_known R t l h)) (divisor_each_renamed l (rest_known R t l h))

    divisor_each_known : (l : List Tree) → KnownAll R l → KnownAll R (replace_divisor_each d (xname n) l)
    unfolding replace_divisor_each
    divisor_each_known [] h = h
    divisor_each_known (t ∷ l) h =
        both_known R (replace_divisor d (xname n) t) (replace_divisor_each d (xname n) l)
        (divisor_keeps_known R d (xname n) g t (made_known n) (first_known R t l h)) (divisor_each_known l (rest_known R t l h))

    divisor_bound_renamed :
        (l : List Binding) → Every KnownBinding l
        → replace_divisor_bound (renamed R d) (xname n) (map renamed_binding l) ≡ map renamed_binding (replace_divisor_bound d (xname n) l)
    unfolding replace_divisor_bound renamed_name
    divisor_bound_renamed [] h = refl
    divisor_bound_renamed (b ∷ l) h =
        ap₂ (λ (e : Tree) (r : List Binding). record { name = named R b.name; expr = e } ∷ r) (divisor_renamed R d (xname n) g b.expr h.0.1) (divisor_bound_renamed l h.1)

    divisor_bound_known : (l : List Binding) → Every KnownBinding l → Every KnownBinding (replace_divisor_bound d (xname n) l)
    unfolding replace_divisor_bound
    divisor_bound_known [] h = tt
    divisor_bound_known (b ∷ l) h = ((h.0.0, divisor_keeps_known R d (xname n) g b.expr (made_known n) h.0.1), divisor_bound_known l h.1)

  pub bind_reciprocal_renamed : (d : Tree) (s : State) → Known R d → KnownState s → bind_reciprocal (renamed R d) (renamed_state s) ≡ renamed_state (bind_reciprocal d s)
  unfolding bind_reciprocal RenamedBy
  bind_reciprocal_renamed d s g h =
      let last : Binding = record { name = xname s.next; expr = Op Div (Const (pos 1) ◂ d ◂ nil) } in
      ap₂ (λ (rs : List Tree) (ls : List Binding). record { results = rs; lets = ls; next = suc s.next }) (divisor_each_renamed d s.next g s.results h.0)
      (ap (λ (l : List Binding). l ++ (renamed_binding last ∷ [])) (divisor_bound_renamed d s.next g s.lets h.1)
      ∙ sym (map_append renamed_binding (replace_divisor_bound d (xname s.next) s.lets) (last ∷ [])))

  pub bind_reciprocal_known : (d : Tree) (s : State) → Known R d → KnownState s → KnownState (bind_reciprocal d s)
  unfolding bind_reciprocal holds
  bind_reciprocal_known d s g h =
      let last : Binding = record { name = xname s.next; expr = Op Div (Const (pos 1) ◂ d ◂ nil) } in (
        divisor_each_known d s.next g s.results h.0,
        every_append KnownBinding (replace_divisor_bound d (xname s.next) s.lets) (last ∷ []) (divisor_bound_known d s.next g s.lets h.1)
            ((made_known s.next, and_both (holds (is_known R) d) true g tt), tt),
      )

  pub bind_reciprocals_renamed :
      (l : List Tree) (s : State) → KnownAll R l → KnownState s → bind_reciprocals (map (renamed R) l) (renamed_state s) ≡ renamed_state (bind_reciprocals l s)
  unfolding bind_reciprocals
  bind_reciprocals_renamed [] s g h = refl
  bind_reciprocals_renamed (d ∷ l) s g h =
      let k = first_known R d l g in
      ap (bind_reciprocals (map (renamed R) l)) (bind_reciprocal_renamed d s k h)
      ∙ bind_reciprocals_renamed l (bind_reciprocal d s) (rest_known R d l g) (bind_reciprocal_known d s k h)

  pub bind_reciprocals_known : (l : List Tree) (s : State) → KnownAll R l → KnownState s → KnownState (bind_reciprocals l s)
  unfolding bind_reciprocals
  bind_reciprocals_known [] s g h = h
  bind_reciprocals_known (d ∷ l) s g h =
      bind_reciprocals_known l (bind_reciprocal d s) (rest_known R d l g) (bind_reciprocal_known d s (first_known R d l g) h)

  -- the divisors to bind
  pub listed_known : (scoped : Bool) (rs : List Tree) → KnownAll R rs → KnownAll R (sort_by shown (shared_divisors scoped rs (distinct [] (divisors (all_nodes rs)))))
  listed_known scoped rs h =
      sort_known (shared_divisors scoped rs (distinct [] (divisors (all_nodes rs))))
      (shared_divisors_known R scoped rs (distinct [] (divisors (all_nodes rs)))
      (distinct_known R [] (divisors (all_nodes rs)) (divisors_known R (all_nodes rs) (all_nodes_known R rs h))))

  pub listed_renamed :
      (scoped : Bool) (rs : List Tree) → KnownAll R rs
      → sort_by_text (shared_divisors scoped (map (renamed R) rs) (distinct [] (divisors (all_nodes (map (renamed R) rs)))))
      ≡ map (renamed R) (sort_by shown (shared_divisors scoped rs (distinct [] (divisors (all_nodes rs)))))
  listed_renamed scoped rs h =
      let ds = divisors_known R (all_nodes rs) (all_nodes_known R rs h) in
      let a : distinct [] (divisors (all_nodes (map (renamed R) rs))) ≡ map (renamed R) (distinct [] (divisors (all_nodes rs))) =
      ap (λ (l : List Tree). distinct [] (divisors l)) (all_nodes_renamed R rs) ∙ ap (distinct []) (divisors_renamed R (all_nodes rs))
      ∙ distinct_renamed R [] (divisors (all_nodes rs)) (none_known R) ds in
      ap (λ (l : List Tree). sort_by_text (shared_divisors scoped (map (renamed R) rs) l)) a
      ∙ ap sort_by_text (shared_divisors_renamed R scoped rs (distinct [] (divisors (all_nodes rs))) h (distinct_known R [] (divisors (all_nodes rs)) ds))
      ∙ sort_renamed (shared_divisors scoped rs (distinct [] (divisors (all_nodes rs))))

  pub reciprocals_renamed : (scoped : Bool) (s : State) → KnownState s → reciprocals scoped (renamed_state s) ≡ renamed_state (reciprocals_by shown scoped s)
  unfolding reciprocals reciprocals_by
  reciprocals_renamed scoped s h =
      let k = roots_known s h in
      ap (λ (rs : List Tree). bind_reciprocals (sort_by_text (shared_divisors scoped rs (distinct [] (divisors (all_nodes rs))))) (renamed_state s)) (roots_renamed s)
      ∙ ap (λ (l : List Tree). bind_reciprocals l (renamed_state s)) (listed_renamed scoped (roots s) k)
      ∙ bind_reciprocals_renamed (sort_by shown (shared_divisors scoped (roots s) (distinct [] (divisors (all_nodes (roots s)))))) s (listed_known scoped (roots s) k) h

  pub reciprocals_known : (scoped : Bool) (s : State) → KnownState s → KnownState (reciprocals_by shown scoped s)
  unfolding reciprocals_by
  reciprocals_known scoped s h =
      bind_reciprocals_known (sort_by shown (shared_divisors scoped (roots s) (distinct [] (divisors (all_nodes (roots s)))))) s (listed_known scoped (roots s) (roots_known s h)) h
