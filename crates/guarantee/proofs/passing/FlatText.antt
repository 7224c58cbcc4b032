-- How long the text of a flat answer can be (01, "Turned down", 14): at most 34 bytes for each row, and a few more for each line; a bound for every list that
-- passes 9. Assumes nothing.
use Prim.Native.Nat.{ℕ, suc, ◌+◌, ◌*◌, ◌^◌, ◌≤◌}
use mathlib.Core.Path.{◌≡◌, refl, sym, ◌∙◌, ap, subst}
use mathlib.Core.Bool.{Bool, true, false}
use mathlib.Core.List.{List, [], ◌∷◌, ◌++◌}
use native.Mathlib.Omega.{arith}
use lib.ListN.{length, length-append}
use lib.Dec.{T, ltb→lt, lt→ltb}
use Rattle.spec_tree.specs.Bytes.{bytes}
use Rattle.spec_tree.specs.Outcome.{ok}
use Rattle.spec_tree.specs.Tree.{Name, input, xname, mname, Tree, Forest, Sym, Const, Op, nil, ◌◂◌, folds}
use Rattle.spec_tree.specs.Facts.{size}
use Rattle.spec_tree.specs.Passes.{all_of, symbol_ok, passes}
use Rattle.spec_tree.proofs.Logic.{and_left, and_right, and_both}
use Rattle.spec_tree.specs.text.Text.{name_text, display}
use Rattle.spec_rewrite.proofs.Measure.{sum_of, sum_append}
use Rattle.spec_rewrite.proofs.Names.{holds, holds_each, holds_all, below}
use Rattle.spec_cse.specs.Extract.{Binding, State, bound, roots, extract_all, reciprocals}
use Rattle.spec_cse.specs.Answer.{Intermediate, Intermediates, Answer, Let, block, displays, stmt_text, stmts_texts, lines, answer_text}
use Rattle.spec_cse.specs.Scope.{binds, answer}
use Rattle.spec_tree.specs.Value.{values}
use Rattle.laws.proofs.cse.Outcomes.{good_at}
use Rattle.laws.proofs.cse.PassesLaws.{passes_unmade, passed}
use Rattle.laws.proofs.cse.FlatCount.{Parts, parts, some_reading, rounds_model}
use Rattle.laws.proofs.cse.SortCount.{summed, sorted_sum}
use Rattle.laws.proofs.cse.RoundsValue.{let_names, Numbered, reciprocals_keep, roots_known}
use Rattle.laws.proofs.cse.ReciprocalsCount.{AllTrees}
use Rattle.laws.proofs.cse.SizeCount.{total_size}
use Rattle.fmt.specs.lengths.Room.{number_fits, numbers_fit}
use Rattle.fmt.proofs.lengths.Leaves.{symbol_short}
use Rattle.fmt.proofs.lengths.Whole.{text_fits}
use Rattle.guarantee.proofs.passing.Trees.{FitsAll, tree_same, xname_ok, passes_fit}
use Rattle.guarantee.proofs.passing.Steps.{OkState, roots_fit, extract_all_ok, reciprocals_ok}
use Rattle.guarantee.proofs.passing.FlatRows.{answer_rows, few_roots, flat_rows_most}

-- ---- names by small numbers

small_number : (k : ℕ) → k ≤ 1024 → (n : Name) → T (below (λ s. true) 0 k n) → T (number_fits n)
unfolding below number_fits
small_number k h (input s) t = tt
small_number k h (xname i) t = lt→ltb i (2 ^ 64) (let a = ltb→lt i k t in omega arith)
small_number k h (mname i) t = lt→ltb i (2 ^ 64) (let a = ltb→lt i 0 t in omega arith)

abbrev fits_of : Forest → List Bool
fits_of f = folds number_fits (λ c. true) (λ k tests. all_of tests) f

module _ (k : ℕ) (h : k ≤ 1024) where
  abbrev known : Name → Bool
  known = below (λ s. true) 0 k

  mutual
    unfolding holds numbers_fit all_of

    small_numbers : (t : Tree) → T (holds known t) → T (numbers_fit t)
    small_numbers (Sym n) t = small_number k h n t
    small_numbers (Const c) t = tt
    small_numbers (Op o f) t = small_numbers_each f t

    small_numbers_each : (f : Forest) → T (holds_each known f) → T (all_of (fits_of f))
    small_numbers_each nil t = tt
    small_numbers_each (x ◂ f) t =
        and_both (numbers_fit x) (all_of (fits_of f)) (small_numbers x (and_left (holds known x) (holds_each known f) t)) (small_numbers_each f (and_right (holds known x) (holds_each known f) t))

  all_short : (l : List Tree) → FitsAll l → T (holds_all known l) → AllTrees (λ t. length (display t) ≤ 34 * size t) l
  unfolding holds_all
  all_short [] f t = tt
  all_short (x ∷ l) f t = (
    text_fits x (subst T (sym (tree_same x)) f.0.0) (small_numbers x (and_left (holds known x) (holds_all known l) t)),
    all_short l f.1 (and_right (holds known x) (holds_all known l) t),
  )

numbered_long : (k top : ℕ) (l : List Binding) → Numbered k top (let_names l) → k + length l ≡ top
unfolding let_names
numbered_long k top [] h = omega (arith, h)
numbered_long k top (b ∷ l) h = (let a = numbered_long (suc k) top l h.1 in omega arith)

abbrev ShortNames : List Binding → Type 0
ShortNames [] = Unit {0}
ShortNames (b ∷ l) = (length (name_text b.name) ≤ 32) × ShortNames l

made_short : (i : ℕ) → i ≤ 1024 → length (name_text (xname i)) ≤ 32
made_short i h = symbol_short (xname i) (xname_ok i) (unfold number_fits in lt→ltb i (2 ^ 64) (omega arith))

names_short : (k top : ℕ) → top ≤ 1024 → (l : List Binding) → Numbered k top (let_names l) → ShortNames l
unfolding let_names
names_short k top h [] g = tt
names_short k top h (b ∷ l) g = (
  subst (λ (n : Name). length (name_text n) ≤ 32) (sym g.0) (made_short k (let a = numbered_long (suc k) top l g.1 in omega arith)),
  names_short (suc k) top h l g.1,
)

-- ---- lines

line : Intermediate → ℕ
line s = suc (length (stmt_text s))

lines_cons : (s : List ℕ) (l : List (List ℕ)) → length (lines (s ∷ l)) ≡ suc (length s) + length (lines l)
unfolding lines
lines_cons s l = (let a = length-append s (10 ∷ lines l) in omega arith)

lines_both : (a b : List (List ℕ)) → length (lines (a ++ b)) ≡ length (lines a) + length (lines b)
lines_both [] b = (let z : length (lines []) ≡ 0 = (unfold lines in refl) in omega arith)
lines_both (s ∷ a) b = (let x = lines_cons s (a ++ b) in let y = lines_cons s a in let z = lines_both a b in omega arith)

block_lines : (l : List Intermediate) → length (lines (stmts_texts (block l))) ≡ summed line l
unfolding block stmt_text summed line
block_lines [] = (unfold lines in refl)
block_lines (s ∷ l) = (let a = lines_cons (stmt_text s) (stmts_texts (block l)) in let b = block_lines l in omega arith)

let_line : (n : Name) (e : Tree) → line (Let n e) ≡ length (name_text n) + length (display e) + 9
unfolding stmt_text line
let_line n e =
    (let a = length-append (name_text n ++ bytes " = " ++ display e) (bytes ";") in
    let b = length-append (name_text n ++ bytes " = ") (display e) in
    let c = length-append (name_text n) (bytes " = ") in
    omega arith)

binds_lines : (l : List Binding) → ShortNames l → AllTrees (λ t. length (display t) ≤ 34 * size t) (bound l) → summed line (binds l) ≤ 34 * total_size (bound l) + 41 * length (bound l)
unfolding binds bound summed sum_of
binds_lines [] g h = omega arith
binds_lines (b ∷ l) g h = (let a = let_line b.name b.expr in let c = g.0 in let d = h.0 in let e = binds_lines l g.1 h.1 in omega arith)

results_lines : (l : List Tree) → AllTrees (λ t. length (display t) ≤ 34 * size t) l → length (lines (displays l)) ≤ 34 * total_size l + 41 * length l
unfolding displays sum_of
results_lines [] h = (let z : length (lines []) ≡ 0 = (unfold lines in refl) in omega arith)
results_lines (t ∷ l) h = (let a = lines_cons (display t) (displays l) in let b = results_lines l h.1 in let c = h.0 in omega arith)

-- ---- the answer's text

short_left : (P : Tree → Type 0) (a b : List Tree) → AllTrees P (a ++ b) → AllTrees P a
short_left P [] b h = tt
short_left P (t ∷ a) b h = (h.0, short_left P a b h.1)

short_right : (P : Tree → Type 0) (a b : List Tree) → AllTrees P (a ++ b) → AllTrees P b
short_right P [] b h = h
short_right P (t ∷ a) b h = short_right P a b h.1

roots_lines :
    (t : State) → ShortNames t.lets → AllTrees (λ e. length (display e) ≤ 34 * size e) (roots t)
    → summed line (binds t.lets) + length (lines (displays t.results)) ≤ 34 * total_size (roots t) + 41 * length (roots t)
unfolding roots
roots_lines t g h =
    (let a = binds_lines t.lets g (short_right (λ e. length (display e) ≤ 34 * size e) t.results (bound t.lets) h) in
    let b = results_lines t.results (short_left (λ e. length (display e) ≤ 34 * size e) t.results (bound t.lets) h) in
    let c = length-append t.results (bound t.lets) in
    let d = sum_append size t.results (bound t.lets) in
    omega arith)

text_lines : (es : List Tree) (a : Answer) (P : Parts es a) → length (answer_text a) ≡ summed line (binds (reciprocals false P.state).lets) + length (lines (displays (reciprocals false P.state).results))
unfolding answer_text
text_lines es a P =
    let t = reciprocals false P.state in
    let b = lines_both (stmts_texts a.inters) (displays a.results) in
    let i : length (lines (stmts_texts a.inters)) ≡ summed line (binds t.lets) =
    ap (λ (l : Intermediates). length (lines (stmts_texts l))) P.inters ∙ block_lines P.stmts ∙ sorted_sum line (binds t.lets) P.stmts P.sorted in
    let r : length (lines (displays a.results)) ≡ length (lines (displays t.results)) = ap (λ (l : List Tree). length (lines (displays l))) P.results in
    omega (arith, b, i, r)

bound_long : (l : List Binding) → length (bound l) ≡ length l
unfolding bound
bound_long [] = refl
bound_long (b ∷ l) = ap suc (bound_long l)

roots_more : (t : State) → length t.lets ≤ length (roots t)
unfolding roots
roots_more t = (let a = length-append t.results (bound t.lets) in let b = bound_long t.lets in omega arith)

pub flat_text_most : (es : List Tree) → T (passes es) → (a : Answer) → answer false es ≡ ok a → length (answer_text a) ≤ 2296320
flat_text_most es h a e =
    (let P = parts es a e in
    let s = P.state in
    let t = reciprocals false s in
    let vs = values some_reading (λ n. 0) es in
    let N = reciprocals_keep some_reading (λ s. true) 0 (λ n. 0) vs false s (rounds_model es (passes_unmade es h) s P.rounds) in
    let few = few_roots es h s P.rounds in
    let more = roots_more t in
    let next = numbered_long 0 t.next t.lets N.numbered in
    let top : t.next ≤ 1024 = omega arith in
    let good = reciprocals_ok false s (good_at OkState (extract_all false 0 es) s P.rounds (extract_all_ok false 0 es (passes_fit es h))) in
    let short = all_short t.next top (roots t) (roots_fit t good) (roots_known some_reading (λ s. true) 0 (λ n. 0) vs t N) in
    let x = roots_lines t (names_short 0 t.next top t.lets N.numbered) short in
    let y = text_lines es a P in
    let z = answer_rows es a P in
    let w = flat_rows_most es h a e in
    omega arith)
