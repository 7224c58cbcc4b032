-- How many rows a flat answer can have (01, "Turned down", 12): a bound for every list that passes 9, so that a program that lends as many never sees 12.
-- Assumes nothing.
use Prim.Native.Nat.{ℕ, zero, suc, ◌+◌, ◌-◌, ◌*◌, ◌≤◌}
use mathlib.Core.Path.{◌≡◌, refl, sym, ◌∙◌, ap, subst}
use mathlib.Core.Bool.{false, ◌&&◌}
use mathlib.Core.List.{List, [], ◌∷◌}
use native.Mathlib.Omega.{arith}
use native.Mathlib.Nat.{mul-add, mul-le-mul_left, mul-le-mul_right}
use lib.ListN.{length, length-append}
use lib.Dec.{T, leb}
use Rattle.spec_tree.specs.Outcome.{ok}
use Rattle.spec_tree.specs.Tree.{xname, Tree}
use Rattle.spec_tree.specs.Facts.{size}
use Rattle.spec_tree.specs.Rows.{occurrences, within_limits}
use Rattle.spec_tree.specs.Passes.{expressions, passes}
use Rattle.spec_tree.proofs.Logic.{and_left, and_right}
use Rattle.spec_rewrite.proofs.Measure.{sum_of, sum_append}
use Rattle.spec_cse.specs.Extract.{Binding, State, bound, roots, extract_all, replace_divisor_each, bind_reciprocal, bind_reciprocals, reciprocals}
use Rattle.spec_cse.specs.Answer.{Intermediate, Answer, block, value_rows, stmt_rows, stmts_rows, rows}
use Rattle.spec_cse.specs.Scope.{binds, answer}
use Rattle.laws.proofs.cse.PassesLaws.{passes_formed, passes_unmade}
use Rattle.laws.proofs.cse.FlatCount.{Parts, parts, list_made}
use Rattle.laws.proofs.cse.SortCount.{summed, sorted_sum}
use Rattle.laws.proofs.cse.ReciprocalsCount.{inverse, roots_reciprocal, bound_divisors, reciprocals_are}
use Rattle.laws.proofs.cse.SizeCount.{total_size, extract_all_size, reciprocals_most, reciprocal_each_size}
use Rattle.guarantee.proofs.passing.DivisionsMost.{bound_quarter}
use Rattle.guarantee.proofs.passing.Larger.{reciprocals_add}
use Rattle.laws.proofs.cse.Widths.{divided_long}
use Rattle.laws.proofs.cse.ScopeRoom.{limits_rows}

-- ---- rows of an answer by its trees

value_count : (l : List Tree) → value_rows l ≡ length l + total_size l
unfolding value_rows sum_of
value_count [] = refl
value_count (t ∷ l) = (let a = value_count l in omega arith)

block_count : (l : List Intermediate) → stmts_rows (block l) ≡ summed stmt_rows l
unfolding stmts_rows block summed
block_count [] = refl
block_count (s ∷ l) = (let a = block_count l in omega arith)

binds_count : (l : List Binding) → summed stmt_rows (binds l) ≡ length (bound l) + total_size (bound l)
unfolding binds bound summed stmt_rows sum_of
binds_count [] = refl
binds_count (b ∷ l) = (let a = binds_count l in omega arith)

-- ---- reciprocals add one binding each

bound_length : (l : List Tree) (s : State) → length (roots (bind_reciprocals l s)) ≡ length (roots s) + length l
unfolding bind_reciprocals
bound_length [] s = omega arith
bound_length (d ∷ l) s =
    (let a = bound_length l (bind_reciprocal d s) in
    let b : length (roots (bind_reciprocal d s)) ≡ length (replace_divisor_each d (xname s.next) (roots s)) + 1 =
    ap length (roots_reciprocal d s) ∙ length-append (replace_divisor_each d (xname s.next) (roots s)) (inverse d ∷ []) in
    let c = divided_long d (xname s.next) (roots s) in
    omega arith)

-- ---- the bound

occurrences_are : (l : List Tree) → occurrences l ≡ total_size l
unfolding occurrences sum_of
occurrences_are [] = refl
occurrences_are (t ∷ l) = ap (λ (n : ℕ). size t + n) (occurrences_are l)

limited : (es : List Tree) → T (passes es) → T (within_limits es)
unfolding passes
limited es h = and_left (within_limits es) (expressions es) (and_right (leb (length es) 64) (within_limits es && expressions es) h)

-- a list that passes 9 has at most 1,024 nodes
pub few_nodes : (es : List Tree) → T (passes es) → total_size es ≤ 1024
few_nodes es h = (let y = occurrences_are es in let z = limits_rows es (limited es h) in omega arith)

-- by the state after reciprocals
pub answer_rows : (es : List Tree) (a : Answer) (P : Parts es a) → rows a ≡ length (roots (reciprocals false P.state)) + total_size (roots (reciprocals false P.state))
unfolding rows roots
answer_rows es a P =
    let t = reciprocals false P.state in
    let i : stmts_rows a.inters ≡ length (bound t.lets) + total_size (bound t.lets) =
    ap stmts_rows P.inters ∙ block_count P.stmts ∙ sorted_sum stmt_rows (binds t.lets) P.stmts P.sorted ∙ binds_count t.lets in
    let r : value_rows a.results ≡ length t.results + total_size t.results = ap value_rows P.results ∙ value_count t.results in
    let l = length-append t.results (bound t.lets) in
    let m = sum_append size t.results (bound t.lets) in
    omega (arith, i, r, l, m)

-- what the state after rounds is bounded by, and how many results and bindings there are after reciprocals
few_left : (es : List Tree) → T (passes es) → (s : State) → extract_all false 0 es ≡ ok s → total_size (roots s) ≤ 1024
few_left es h s e = (let x = extract_all_size false 0 es (passes_formed es h) (list_made es (passes_unmade es h)) s e in let y = few_nodes es h in omega arith)

roots_long : (s : State) → length (roots (reciprocals false s)) ≡ length (roots s) + length (bound_divisors false s)
roots_long s = ap (λ (u : State). length (roots u)) (reciprocals_are false s) ∙ bound_length (bound_divisors false s) s

pub few_roots : (es : List Tree) → T (passes es) → (s : State) → extract_all false 0 es ≡ ok s → length (roots (reciprocals false s)) ≤ 1024
few_roots es h s e = (let a = few_left es h s e in let b = roots_long s in let c = bound_quarter false s in omega arith)

-- the most of 511 r - r * r, for r up to 256
square_most : (r : ℕ) → r ≤ 256 → 512 * r ≤ 65280 + r * suc r
square_most r h = go (256 - r) (omega arith)
  where
    go : (k : ℕ) → r + k ≡ 256 → 512 * r ≤ 65280 + r * suc r
    go zero e = (let q : r * suc r ≡ 256 * 257 = ap (λ (n : ℕ). n * suc n) (let z : r ≡ 256 = omega arith in z) in omega arith)
    go (suc k) e =
        (let a : r * 256 ≡ r * suc r + r * k = ap (λ (n : ℕ). r * n) (let z : 256 ≡ suc r + k = omega arith in z) ∙ mul-add r (suc r) k in
        let b : r * k ≤ 256 * k = mul-le-mul_right k h in
        omega arith)

pub flat_rows_most : (es : List Tree) → T (passes es) → (a : Answer) → answer false es ≡ ok a → rows a ≤ 67328
flat_rows_most es h a e =
    (let P = parts es a e in
    let s = P.state in
    let t = reciprocals false s in
    let ds = bound_divisors false s in
    let same = answer_rows es a P in
    let small = few_left es h s P.rounds in
    let long = roots_long s in
    let big : total_size (roots t) ≤ total_size (roots s) + reciprocals_most ds =
    subst (λ (u : State). total_size (roots u) ≤ total_size (roots s) + reciprocals_most ds) (sym (reciprocals_are false s)) (reciprocal_each_size ds s) in
    let add = reciprocals_add false s in
    let most : length ds * (total_size (roots s) + 6) ≤ length ds * 1030 = mul-le-mul_left (length ds) (omega (arith, small)) in
    let few = bound_quarter false s in
    let square = square_most (length ds) (omega (arith, few, small)) in
    omega arith)
