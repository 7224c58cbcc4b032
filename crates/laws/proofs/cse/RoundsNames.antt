-- Rounds and reciprocals bring in no symbol but the names that they make: a test that the list's symbols and those names pass, every symbol
-- of the results and the bindings passes. Assumes nothing.
use Prim.Native.Nat.{ℕ, zero, suc, ◌≤◌}
use mathlib.Core.Bool.{Bool, true}
use mathlib.Core.Option.{Option, none, some}
use mathlib.Core.List.{List, [], ◌∷◌, ◌++◌}
use native.Mathlib.Omega.{arith}
use lib.IntN.{pos}
use lib.Dec.{T}
use Rattle.spec_tree.specs.Outcome.{Outcome, ok, refused, ◌>>=◌, each}
use Rattle.spec_tree.specs.Tree.{Name, xname, Tree, Const, Op, nil, ◌◂◌}
use Rattle.spec_tree.specs.Kinds.{Div}
use Rattle.spec_tree.specs.Facts.{all_operations, all_nodes}
use Rattle.spec_rewrite.specs.Rewrite.{replace, replace_divisor}
use Rattle.spec_cse.specs.Extract.{Binding, State, Candidate, bound, roots, best, replace_bound, extract, rounds, extract_all, divisors, distinct, shared_divisors, sort_by_text, replace_divisor_each, replace_divisor_bound, bind_reciprocal, bind_reciprocals, reciprocals}
use Rattle.spec_tree.proofs.Logic.{and_left, and_right, and_both}
use Rattle.spec_rewrite.proofs.Names.{holds, holds_all, holds_append, all_nodes_hold, Holds, replace_holds, divisor_holds}
use Rattle.laws.proofs.cse.RoundsValue.{Chosen, chosen, divisors_known, distinct_known, shared_known, sort_known}

module _ (q : Name → Bool) (start : ℕ) (new : (i : ℕ) → start ≤ i → T (q (xname i))) where
  abbrev pub LetsHold : List Binding → Type 0
  LetsHold [] = Unit {0}
  LetsHold (b ∷ l) = T (holds q b.expr) × LetsHold l

  pub record Held (s : State) : Type 0 where
    pub results : T (holds_all q s.results)
    pub lets : LetsHold s.lets
    pub later : start ≤ s.next

  unfoldable pub AllHeld : Outcome State → Type 0
  AllHeld (ok s) = Held s
  AllHeld (refused i) = Unit {0}

  lets_bound : (l : List Binding) → LetsHold l → T (holds_all q (bound l))
  unfolding bound holds_all
  lets_bound [] h = tt
  lets_bound (b ∷ l) h = and_both (holds q b.expr) (holds_all q (bound l)) h.0 (lets_bound l h.1)

  lets_append : (l : List Binding) (b : Binding) → LetsHold l → T (holds q b.expr) → LetsHold (l ++ (b ∷ []))
  lets_append [] b h t = (t, tt)
  lets_append (c ∷ l) b h t = (h.0, lets_append l b h.1 t)

  pub roots_held : (s : State) → Held s → T (holds_all q (roots s))
  unfolding roots
  roots_held s h = holds_append q s.results (bound s.lets) h.results (lets_bound s.lets h.lets)

  -- ---- one extraction

  TreesHeld : Outcome (List Tree) → Type 0
  TreesHeld (ok l) = T (holds_all q l)
  TreesHeld (refused i) = Unit {0}

  BindingsHeld : Outcome (List Binding) → Type 0
  BindingsHeld (ok l) = LetsHold l
  BindingsHeld (refused i) = Unit {0}

  module _ (target : Tree) (n : Name) (named : T (q n)) where
    tree_step : (o : Outcome Tree) → Holds q target n (λ _. named) o → (r : Outcome (List Tree)) → TreesHeld r → TreesHeld (o >>= λ b. r >>= λ l. ok (b ∷ l))
    unfolding Holds TreesHeld holds_all
    tree_step (ok t) g (ok l) h = and_both (holds q t) (holds_all q l) g h
    tree_step (ok t) g (refused i) h = tt
    tree_step (refused i) g r h = tt

    trees_held : (l : List Tree) → T (holds_all q l) → TreesHeld (each (λ e. replace target n e) l)
    unfolding TreesHeld each holds_all
    trees_held [] h = tt
    trees_held (t ∷ l) h =
        tree_step (replace target n t) (replace_holds q target n (λ _. named) t (and_left (holds q t) (holds_all q l) h)) (each (λ e. replace target n e) l)
        (trees_held l (and_right (holds q t) (holds_all q l) h))

    binding_step :
        (b : Binding) (o : Outcome Tree) → Holds q target n (λ _. named) o → (r : Outcome (List Binding)) → BindingsHeld r
        → BindingsHeld ((o >>= λ e. ok (record { name = b.name; expr = e })) >>= λ c. r >>= λ l. ok (c ∷ l))
    unfolding Holds BindingsHeld
    binding_step b (ok t) g (ok l) h = (g, h)
    binding_step b (ok t) g (refused i) h = tt
    binding_step b (refused i) g r h = tt

    bindings_held : (l : List Binding) → LetsHold l → BindingsHeld (each (λ b. replace_bound target n b) l)
    unfolding BindingsHeld each replace_bound
    bindings_held [] h = tt
    bindings_held (b ∷ l) h =
        binding_step b (replace target n b.expr) (replace_holds q target n (λ _. named) b.expr h.0) (each (λ b. replace_bound target n b) l) (bindings_held l h.1)

  extract_step :
      (target : Tree) (s : State) → Held s → T (holds q target) → (o : Outcome (List Tree)) → TreesHeld o → (r : Outcome (List Binding)) → BindingsHeld r
      → AllHeld
      (o >>= λ rs. r >>= λ ls. ok (record { results = rs; lets = ls ++ (record { name = xname s.next; expr = target } ∷ []); next = suc s.next }))
  unfolding TreesHeld BindingsHeld AllHeld
  extract_step target s H w (ok rs) g (ok ls) h =
      record { results = g; lets = lets_append ls (record { name = xname s.next; expr = target }) h w; later = (let x = H.later in omega arith) }
  extract_step target s H w (ok rs) g (refused i) h = tt
  extract_step target s H w (refused i) g r h = tt

  extract_held : (target : Tree) (s : State) → Held s → T (holds q target) → AllHeld (extract target s)
  unfolding extract
  extract_held target s H w =
      extract_step target s H w (each (λ e. replace target (xname s.next) e) s.results) (trees_held target (xname s.next) (new s.next H.later) s.results H.results)
      (each (λ b. replace_bound target (xname s.next) b) s.lets) (bindings_held target (xname s.next) (new s.next H.later) s.lets H.lets)

  -- ---- rounds

  then_held : (o : Outcome State) → AllHeld o → (g : State → Outcome State) → ((s : State) → Held s → AllHeld (g s)) → AllHeld (o >>= g)
  unfolding AllHeld
  then_held (ok s) h g f = f s h
  then_held (refused i) h g f = tt

  round_step :
      (s : State) → Held s → (o : Option Candidate) → Chosen q o → (g : State → Outcome State) → ((s : State) → Held s → AllHeld (g s))
      → AllHeld (elim o [ none ↦ ok s | some c ↦ (extract c.tree s >>= λ t. g t) ])
  unfolding AllHeld Chosen
  round_step s H none h g f = H
  round_step s H (some c) h g f = then_held (extract c.tree s) (extract_held c.tree s H h) g f

  rounds_held : (fuel : ℕ) (scoped : Bool) (s : State) → Held s → AllHeld (rounds fuel scoped s)
  unfolding AllHeld rounds
  rounds_held zero scoped s H = H
  rounds_held (suc fuel) scoped s H =
      round_step s H (best scoped (roots s)) (chosen q scoped (roots s) (roots_held s H)) (λ t. rounds fuel scoped t) (λ t G. rounds_held fuel scoped t G)

  pub extract_all_held : (scoped : Bool) (es : List Tree) → T (holds_all q es) → AllHeld (extract_all scoped start es)
  unfolding extract_all
  extract_all_held scoped es h = rounds_held (all_operations es) scoped (record { results = es; lets = []; next = start }) (record { results = h; lets = tt; later = omega arith })

  -- ---- reciprocals

  divided_results : (d : Tree) (n : Name) → T (q n) → (l : List Tree) → T (holds_all q l) → T (holds_all q (replace_divisor_each d n l))
  unfolding holds_all replace_divisor_each
  divided_results d n g [] h = tt
  divided_results d n g (t ∷ l) h =
      and_both (holds q (replace_divisor d n t)) (holds_all q (replace_divisor_each d n l)) (divisor_holds q d n (λ _. g) t (and_left (holds q t) (holds_all q l) h))
      (divided_results d n g l (and_right (holds q t) (holds_all q l) h))

  divided_lets : (d : Tree) (n : Name) → T (q n) → (l : List Binding) → LetsHold l → LetsHold (replace_divisor_bound d n l)
  unfolding replace_divisor_bound
  divided_lets d n g [] h = tt
  divided_lets d n g (b ∷ l) h = (divisor_holds q d n (λ _. g) b.expr h.0, divided_lets d n g l h.1)

  one_over : (d : Tree) → T (holds q d) → T (holds q (Op Div (Const (pos 1) ◂ d ◂ nil)))
  unfolding holds
  one_over d h = and_both (holds q d) true h tt

  reciprocal_held : (d : Tree) (s : State) → T (holds q d) → Held s → Held (bind_reciprocal d s)
  unfolding bind_reciprocal
  reciprocal_held d s h H =
      let g = new s.next H.later in
      record {
        results = divided_results d (xname s.next) g s.results H.results;
        lets = lets_append (replace_divisor_bound d (xname s.next) s.lets) _ (divided_lets d (xname s.next) g s.lets H.lets) (one_over d h);
        later = (let x = H.later in omega arith);
      }

  reciprocal_each_held : (l : List Tree) (s : State) → T (holds_all q l) → Held s → Held (bind_reciprocals l s)
  unfolding bind_reciprocals holds_all
  reciprocal_each_held [] s h H = H
  reciprocal_each_held (d ∷ l) s h H =
      reciprocal_each_held l (bind_reciprocal d s) (and_right (holds q d) (holds_all q l) h) (reciprocal_held d s (and_left (holds q d) (holds_all q l) h) H)

  pub reciprocals_held : (scoped : Bool) (s : State) → Held s → Held (reciprocals scoped s)
  unfolding reciprocals
  reciprocals_held scoped s H =
      let rs = roots s in
      reciprocal_each_held (sort_by_text (shared_divisors scoped rs (distinct [] (divisors (all_nodes rs))))) s
      (sort_known q (shared_divisors scoped rs (distinct [] (divisors (all_nodes rs))))
      (shared_known q scoped rs (distinct [] (divisors (all_nodes rs)))
      (distinct_known q [] (divisors (all_nodes rs)) (divisors_known q (all_nodes rs) (all_nodes_hold q rs (roots_held s H))))))
      H
