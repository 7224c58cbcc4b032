-- The rounds of extraction, and reciprocals (01, "Extraction", "Reciprocals"): the part of `cse_scope` that both forms share. Assumes nothing.
use Rattle.std.specs.Prelude.{ℕ, zero, suc, ◌-◌, ◌*◌, Bool, true, false, ◌&&◌, ◌||◌, cond, List, [], ◌∷◌, ◌++◌, pos, eqb, leb, ltb}
use Rattle.std.proofs.Math.Option.{Option, none, some}
use Rattle.spec_tree.specs.Outcome.{Outcome, ok, ◌>>=◌, each}
use Rattle.spec_tree.specs.Tree.{Name, xname, Tree, Sym, Const, Op, nil, ◌◂◌, eq_tree}
use Rattle.spec_tree.specs.Kinds.{Div}
use Rattle.spec_tree.specs.Facts.{cost, depth, has_symbol, all_operations, count, uses, uses_outside, outside, all_nodes}
use Rattle.spec_tree.specs.text.Text.{display, before}
use Rattle.spec_rewrite.specs.Rewrite.{replace, replace_divisor}

-- a binding, and what a scope works on: the results, the bindings by number, and the next number
abbrev pub Binding : Type 0
Binding = record { name : Name; expr : Tree }

abbrev pub State : Type 0
State = record { results : List Tree; lets : List Binding; next : ℕ }

unfoldable pub bound : List Binding → List Tree
bound [] = []
bound (b ∷ l) = b.expr ∷ bound l

-- the results, then the bindings by number
unfoldable pub roots : State → List Tree
unfolding bound
roots s = s.results ++ bound s.lets

-- ---- the best candidate (01, "Extraction")

unfoldable pub is_candidate : Bool → List Tree → Tree → Bool
unfolding cost has_symbol uses uses_outside
is_candidate scoped rs e = leb 1 (cost e) && (has_symbol e && (leb 2 (uses rs e) && leb 1 (uses_outside scoped rs e)))

abbrev pub Candidate : Type 0
Candidate = record { tree : Tree; savings : ℕ; deep : ℕ }

unfoldable pub candidate : List Tree → Tree → Candidate
unfolding cost depth uses
candidate rs e = record { tree = e; savings = (uses rs e - 1) * cost e; deep = depth e }

-- the second beats the first: more savings, then deeper, then a later text
unfoldable pub beats : Candidate → Candidate → Bool
unfolding display before
beats a b =
    ltb a.savings b.savings
    || (eqb a.savings b.savings
    && (ltb a.deep b.deep || (eqb a.deep b.deep && before (display a.tree) (display b.tree))))

-- the best of those met so far and the rest: of equals the one met first
unfoldable pub best_from : Bool → List Tree → Option Candidate → List Tree → Option Candidate
unfolding is_candidate candidate beats
best_from scoped rs o [] = o
best_from scoped rs none (e ∷ l) =
    elim (is_candidate scoped rs e) [ true ↦ best_from scoped rs (some (candidate rs e)) l | false ↦ best_from scoped rs none l ]
best_from scoped rs (some a) (e ∷ l) =
    elim (is_candidate scoped rs e && beats a (candidate rs e)) [
      | true ↦ best_from scoped rs (some (candidate rs e)) l
      | false ↦ best_from scoped rs (some a) l
    ]

unfoldable pub best : Bool → List Tree → Option Candidate
unfolding best_from all_nodes
best scoped rs = best_from scoped rs none (all_nodes rs)

-- ---- rounds (01, "Extraction")

unfoldable pub replace_bound : Tree → Name → Binding → Outcome Binding
unfolding replace
replace_bound target n b = replace target n b.expr >>= λ e. ok (record { name = b.name; expr = e })

-- one extraction
unfoldable pub extract : Tree → State → Outcome State
unfolding replace replace_bound each
extract target s =
    let n = xname s.next in
    each (λ e. replace target n e) s.results >>= λ rs.
    each (λ b. replace_bound target n b) s.lets >>= λ ls.
    ok (record { results = rs; lets = ls ++ (record { name = n; expr = target } ∷ []); next = suc s.next })

-- Until no candidate is left. Each extraction lowers the operations, so their number is fuel enough.
unfoldable pub rounds : ℕ → Bool → State → Outcome State
unfolding best extract roots
rounds zero scoped s = ok s
rounds (suc fuel) scoped s =
    elim (best scoped (roots s)) [ none ↦ ok s | some c ↦ (extract c.tree s >>= λ t. rounds fuel scoped t) ]

unfoldable pub extract_all : Bool → ℕ → List Tree → Outcome State
unfolding rounds all_operations
extract_all scoped next es = rounds (all_operations es) scoped (record { results = es; lets = []; next = next })

-- ---- reciprocals (01, "Reciprocals")

-- the divisors of the divisions in a list of nodes, in order
unfoldable pub divisor_of : Tree → Option Tree
divisor_of (Sym n) = none
divisor_of (Const c) = none
divisor_of (Op k nil) = none
divisor_of (Op k (a ◂ nil)) = none
divisor_of (Op k (a ◂ (b ◂ f))) = cond (eqb k Div) (some b) none

unfoldable pub divisors : List Tree → List Tree
unfolding divisor_of
divisors [] = []
divisors (t ∷ l) = elim (divisor_of t) [ none ↦ divisors l | some d ↦ d ∷ divisors l ]

unfoldable pub among : Tree → List Tree → Bool
unfolding eq_tree
among t [] = false
among t (e ∷ l) = elim (eq_tree e t) [ true ↦ true | false ↦ among t l ]

-- each once, where it stands first; `seen` holds those met before
unfoldable pub distinct : List Tree → List Tree → List Tree
unfolding among
distinct seen [] = []
distinct seen (t ∷ l) = elim (among t seen) [ true ↦ distinct seen l | false ↦ t ∷ distinct (t ∷ seen) l ]

-- those to bind: divided by outside arms, and twice in all
unfoldable pub shared_divisors : Bool → List Tree → List Tree → List Tree
unfolding count divisors outside all_nodes
shared_divisors scoped rs [] = []
shared_divisors scoped rs (d ∷ l) =
    elim (leb 2 (count d (divisors (all_nodes rs))) && leb 1 (count d (divisors (outside scoped rs)))) [
      | true ↦ d ∷ shared_divisors scoped rs l
      | false ↦ shared_divisors scoped rs l
    ]

-- in text order, equal texts as they stood
unfoldable pub insert_by_text : Tree → List Tree → List Tree
unfolding display before
insert_by_text d [] = d ∷ []
insert_by_text d (e ∷ l) = elim (before (display e) (display d)) [ true ↦ e ∷ insert_by_text d l | false ↦ d ∷ (e ∷ l) ]

unfoldable pub sort_by_text : List Tree → List Tree
unfolding insert_by_text
sort_by_text [] = []
sort_by_text (d ∷ l) = insert_by_text d (sort_by_text l)

unfoldable pub replace_divisor_each : Tree → Name → List Tree → List Tree
unfolding replace_divisor
replace_divisor_each d n [] = []
replace_divisor_each d n (t ∷ l) = replace_divisor d n t ∷ replace_divisor_each d n l

unfoldable pub replace_divisor_bound : Tree → Name → List Binding → List Binding
unfolding replace_divisor
replace_divisor_bound d n [] = []
replace_divisor_bound d n (b ∷ l) = record { name = b.name; expr = replace_divisor d n b.expr } ∷ replace_divisor_bound d n l

unfoldable pub bind_reciprocal : Tree → State → State
unfolding replace_divisor_each replace_divisor_bound
bind_reciprocal d s =
    let n = xname s.next in
    record {
      results = replace_divisor_each d n s.results;
      lets = replace_divisor_bound d n s.lets ++ (record { name = n; expr = Op Div (Const (pos 1) ◂ d ◂ nil) } ∷ []);
      next = suc s.next;
    }

unfoldable pub bind_reciprocals : List Tree → State → State
unfolding bind_reciprocal
bind_reciprocals [] s = s
bind_reciprocals (d ∷ l) s = bind_reciprocals l (bind_reciprocal d s)

-- the list of divisors is made once, before the first of them is bound
unfoldable pub reciprocals : Bool → State → State
unfolding roots bind_reciprocals sort_by_text shared_divisors distinct divisors all_nodes
reciprocals scoped s =
    let rs = roots s in
    bind_reciprocals (sort_by_text (shared_divisors scoped rs (distinct [] (divisors (all_nodes rs))))) s
