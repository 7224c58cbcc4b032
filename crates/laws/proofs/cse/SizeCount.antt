-- The total size, nodes of results and bindings: no round raises it, and no reciprocal raises that of results and of the rounds' bindings.
-- Assumes nothing.
use Prim.Native.Nat.{ℕ, zero, suc, ◌+◌, ◌-◌, ◌*◌, ◌≤◌}
use mathlib.Core.Path.{◌≡◌, refl, sym, ◌∙◌, ap, ap₂, subst}
use mathlib.Core.Bool.{Bool, true, false}
use mathlib.Core.Option.{Option, none, some}
use mathlib.Core.List.{List, [], ◌∷◌}
use native.Mathlib.Omega.{arith}
use lib.IntN.{pos}
use lib.ListN.{length}
use lib.Dec.{T, ltb}
use Rattle.spec_tree.specs.Outcome.{Outcome, ok, refused, ◌>>=◌}
use Rattle.spec_tree.specs.Tree.{input, xname, mname, Tree, Sym, Const, Op, nil, ◌◂◌}
use Rattle.spec_tree.specs.Kinds.{Div}
use Rattle.spec_tree.specs.Facts.{all_operations, cost, has_symbol, size, all_nodes, count}
use Rattle.spec_rewrite.specs.Rewrite.{flatten_mul_factors}
use Rattle.spec_cse.specs.Extract.{State, Candidate, bound, roots, is_candidate, best, extract, rounds, extract_all, divisors, replace_divisor_each, bind_reciprocal, bind_reciprocals, reciprocals}
use Rattle.spec_cse.specs.Answer.{Intermediate, Intermediates, Answer, Let, Match, block}
use Rattle.spec_cse.specs.Scope.{binds, answer}
use Rattle.spec_cse.specs.Demand.{extracted_exprs}
use Rattle.spec_rewrite.proofs.Measure.{sum_of, sum_append, sum_each, by_size, sizes, size_op, size_up}
use Rattle.spec_rewrite.proofs.Savings.{size_saves}
use Rattle.spec_rewrite.proofs.Names.{holds_all, below, all_nodes_hold}
use Rattle.spec_rewrite.proofs.Counts.{counted_holds, counted_formed, well_formed_all, all_nodes_formed, absent, part_sum}
use Rattle.laws.proofs.cse.RoundsCount.{twice_up, symbol_factor, factors_nodes, candidate_facts, best_fits, replaced_saves, extracted, Sound, made_before, new_name, round, begin, begin_roots, begin_sound, extract_all_end}
use Rattle.laws.proofs.cse.SortCount.{summed, sorted_sum}
use Rattle.spec_rewrite.proofs.DivisorCount.{divisor_size}
use Rattle.laws.proofs.cse.ReciprocalsCount.{inverse, roots_reciprocal, divided_falls, AllTrees, all_map, divisors_all, bound_twice, from_rounds, bindings_most, reciprocal_each_falls, bound_divisors, reciprocals_are}
use Rattle.laws.proofs.cse.FlatCount.{parts, list_made}

abbrev pub total_size : List Tree → ℕ
total_size l = sum_of size l

-- ---- one round

-- an operation with a symbol has an operand
two_nodes : (e : Tree) → 1 ≤ cost e → T (has_symbol e) → 2 ≤ size e
unfolding cost has_symbol
two_nodes (Sym n) c h = absurd (omega arith)
two_nodes (Const d) c h = absurd (omega arith)
two_nodes (Op k nil) c h = absurd h
two_nodes (Op k (t ◂ f)) c h = (let a = size_op k (t ◂ f) in let b : sizes (t ◂ f) ≡ size t + sizes f = (unfold sum_each in refl) in let u = size_up t in omega arith)

pub round_size :
    (scoped : Bool) (x : Tree) (s t : State) → Sound s → T (is_candidate scoped (roots s) x) → extract x s ≡ ok t → total_size (roots t) ≤ total_size (roots s)
round_size scoped x s t S c e =
    (let E = extracted x s t e in
    let k = s.next in
    let f = candidate_facts scoped (roots s) x c in
    let u : 1 ≤ count x (all_nodes (roots s)) = (let q = f.2 in omega arith) in
    let xw = counted_formed x (all_nodes (roots s)) (all_nodes_formed (roots s) S.formed) u in
    let xh = counted_holds (made_before k) x (all_nodes (roots s)) (all_nodes_hold (made_before k) (roots s) S.known) u in
    let nf : count (Sym (xname k)) (flatten_mul_factors x).factors ≡ 0 = (let a = absent (made_before k) (xname k) (new_name k) x xh in let b = factors_nodes (Sym (xname k)) x in omega arith) in
    let o = two_nodes x f.0 f.1 in
    let q = replaced_saves size x (xname k) (size x - 1) (size_saves (xname k) x xw (symbol_factor x f.1) nf) (roots s) E.made E.replaced S.formed in
    let a : total_size (roots t) ≡ total_size E.made + total_size (x ∷ []) = ap (sum_of size) E.now ∙ sum_append size E.made (x ∷ []) in
    let b : total_size (x ∷ []) ≡ size x + 0 = (unfold sum_of in refl) in
    let d = twice_up (size x - 1) (count x (all_nodes (roots s))) f.2 in
    omega arith)

-- ---- all rounds

module _ (scoped : Bool) where
  Small : ℕ → Outcome State → Type 0
  Small N (ok t) = total_size (roots t) ≤ N
  Small N (refused i) = Unit {0}

  small_later : (M N : ℕ) → M ≤ N → (o : Outcome State) → Small M o → Small N o
  unfolding Small
  small_later M N h (ok t) e = omega arith
  small_later M N h (refused i) e = tt

  small_extract :
      (s : State) → Sound s → (x : Tree) → T (is_candidate scoped (roots s) x) → (g : State → Outcome State)
      → ((t : State) → Sound t → Small (total_size (roots t)) (g t)) → (o : Outcome State) → extract x s ≡ o → Small (total_size (roots s)) (o >>= g)
  small_extract s S x c g f (ok t) e = small_later (total_size (roots t)) (total_size (roots s)) (round_size scoped x s t S c e) (g t) (f t (round scoped x s t S c e).0)
  small_extract s S x c g f (refused i) e = (unfold Small in tt)

  small_step :
      (s : State) → Sound s → (g : State → Outcome State) → ((t : State) → Sound t → Small (total_size (roots t)) (g t))
      → (o : Option Candidate) → best scoped (roots s) ≡ o → Small (total_size (roots s)) (elim o [ none ↦ ok s | some c ↦ (extract c.tree s >>= λ t. g t) ])
  small_step s S g f none e = (unfold Small in omega arith)
  small_step s S g f (some c) e = small_extract s S c.tree (best_fits scoped (roots s) c e) g f (extract c.tree s) refl

  small_rounds : (fuel : ℕ) (s : State) → Sound s → Small (total_size (roots s)) (rounds fuel scoped s)
  unfolding rounds
  small_rounds zero s S = (unfold Small in omega arith)
  small_rounds (suc fuel) s S = small_step s S (λ t. rounds fuel scoped t) (λ t U. small_rounds fuel t U) (best scoped (roots s)) refl

  small_of : (N : ℕ) (t : State) (o : Outcome State) → o ≡ ok t → Small N o → total_size (roots t) ≤ N
  unfolding Small
  small_of N t o e h = subst (Small N) e h

  -- however many rounds
  pub rounds_size : (fuel : ℕ) (s t : State) → Sound s → rounds fuel scoped s ≡ ok t → total_size (roots t) ≤ total_size (roots s)
  rounds_size fuel s t S e = small_of (total_size (roots s)) t (rounds fuel scoped s) e (small_rounds fuel s S)

  pub extract_all_size :
      (next : ℕ) (es : List Tree) → T (well_formed_all es) → T (holds_all (made_before next) es) → (t : State) → extract_all scoped next es ≡ ok t → total_size (roots t) ≤ total_size es
  extract_all_size next es w h t e =
      (let r : rounds (all_operations es) scoped (begin es next) ≡ ok t = (unfold extract_all begin in e) in
      let a = rounds_size (all_operations es) (begin es next) t (begin_sound es next w h) r in
      let b : total_size (roots (begin es next)) ≡ total_size es = ap (sum_of size) (begin_roots es next) in
      omega arith)

-- ---- reciprocals

-- results and the bindings numbered below x, where reciprocals begin at x or later
pub reciprocals_size :
    (scoped : Bool) (x : ℕ) (s : State) → x ≤ s.next
    → total_size (reciprocals scoped s).results + summed (from_rounds size x) (binds (reciprocals scoped s).lets) ≤ total_size (roots s)
reciprocals_size scoped x s h =
    (let f = reciprocal_each_falls size x divisor_size (bound_divisors scoped s) s h in
    let q = sym (reciprocals_are scoped s) in
    let f0 : total_size (reciprocals scoped s).results ≤ total_size s.results = subst (λ (u : State). total_size u.results ≤ total_size s.results) q f.0 in
    let f1 : summed (from_rounds size x) (binds (reciprocals scoped s).lets) ≤ summed (from_rounds size x) (binds s.lets) =
    subst (λ (u : State). summed (from_rounds size x) (binds u.lets) ≤ summed (from_rounds size x) (binds s.lets)) q f.1 in
    let g = bindings_most size x s.lets in
    let r : total_size (roots s) ≡ total_size s.results + total_size (bound s.lets) = (unfold roots in sum_append size s.results (bound s.lets)) in
    omega arith)

-- 1 / d has two nodes more than d, and replaced divisors raise nothing: the reciprocals' bindings add at most these
unfoldable pub reciprocals_most : List Tree → ℕ
reciprocals_most l = sum_of (λ d. size d + 2) l

inverse_size : (d : Tree) → total_size (inverse d ∷ []) ≡ size d + 2
unfolding inverse sum_of
inverse_size d =
    (let a = size_op Div (Const (pos 1) ◂ d ◂ nil) in
    let b : sizes (Const (pos 1) ◂ d ◂ nil) ≡ 1 + (size d + 0) = (unfold sum_each size in refl) in
    omega arith)

pub reciprocal_each_size : (l : List Tree) (s : State) → total_size (roots (bind_reciprocals l s)) ≤ total_size (roots s) + reciprocals_most l
unfolding bind_reciprocals reciprocals_most sum_of
reciprocal_each_size [] s = omega arith
reciprocal_each_size (d ∷ l) s =
    (let a = reciprocal_each_size l (bind_reciprocal d s) in
    let b : total_size (roots (bind_reciprocal d s)) ≡ total_size (replace_divisor_each d (xname s.next) (roots s)) + total_size (inverse d ∷ []) =
    ap (sum_of size) (roots_reciprocal d s) ∙ sum_append size (replace_divisor_each d (xname s.next) (roots s)) (inverse d ∷ []) in
    let c = divided_falls size 0 divisor_size d (xname s.next) (roots s) in
    let e = inverse_size d in
    omega arith)

-- ---- equal trees do not overlap: a divisor bound has at most half of all nodes

pub divisor_half : (scoped : Bool) (s : State) → AllTrees (λ d. 2 * size d ≤ total_size (roots s)) (bound_divisors scoped s)
divisor_half scoped s =
    all_map (λ d. 2 ≤ count d (divisors (all_nodes (roots s)))) (λ d. 2 * size d ≤ total_size (roots s))
    (λ d h. (let a = divisors_all d (roots s) in let b = part_sum by_size d (roots s) in let c = twice_up (size d) (count d (all_nodes (roots s))) (omega arith) in omega arith))
    (bound_divisors scoped s) (bound_twice scoped s)

-- ---- the flat answer, reciprocals left out

extracted_size : (x : ℕ) (l : List Intermediate) → total_size (extracted_exprs x (block l)) ≡ summed (from_rounds size x) l
unfolding extracted_exprs block sum_of summed
extracted_size x [] = refl
extracted_size x (Let (input s) e ∷ l) = (let q = extracted_size x l in omega arith)
extracted_size x (Let (xname i) e ∷ l) = go (ltb i x) (extracted_size x l)
  where
    go : (b : Bool) → total_size (extracted_exprs x (block l)) ≡ summed (from_rounds size x) l
        → total_size (elim b [ true ↦ e ∷ extracted_exprs x (block l) | false ↦ extracted_exprs x (block l) ])
        ≡ elim b as (λ _. ℕ) [ true ↦ size e | false ↦ 0 ] + summed (from_rounds size x) l
    go true h = omega arith
    go false h = omega arith
extracted_size x (Let (mname i) e ∷ l) = (let q = extracted_size x l in omega arith)
extracted_size x (Match k key ns arms ∷ l) = (let q = extracted_size x l in omega arith)

pub flat_size :
    (es : List Tree) → T (well_formed_all es) → T (holds_all (below (λ s. true) 0 0) es) → (a : Answer) → answer false es ≡ ok a
    → total_size a.results + total_size (extracted_exprs a.extracted a.inters) ≤ total_size es
flat_size es formed known a e =
    (let P = parts es a e in
    let s = P.state in
    let x = length s.lets in
    let E = extract_all_end false 0 es formed (list_made es known) s P.rounds in
    let z = extract_all_size false 0 es formed (list_made es known) s P.rounds in
    let f = reciprocals_size false x s (let q = E.3 in omega arith) in
    let g = sorted_sum (from_rounds size x) (binds (reciprocals false s).lets) P.stmts P.sorted in
    let j : total_size a.results ≡ total_size (reciprocals false s).results = ap (sum_of size) P.results in
    let k : total_size (extracted_exprs a.extracted a.inters) ≡ summed (from_rounds size x) P.stmts =
    ap₂ (λ (m : ℕ) (l : Intermediates). total_size (extracted_exprs m l)) P.extracted P.inters ∙ extracted_size x P.stmts in
    omega arith)
