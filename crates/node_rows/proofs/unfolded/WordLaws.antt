-- The word of a row's node, by the row's kind. Assumes nothing.
use Prim.Native.Nat.{ℕ, zero, suc, ◌+◌, ◌-◌, ◌*◌, ◌^◌, ◌≤◌, ◌<◌}
use mathlib.Core.Path.{◌≡◌, refl, sym, ap, ◌∙◌}
use mathlib.Core.Bool.{Bool, cond}
use mathlib.Core.List.{List, []}
use native.Mathlib.Omega.{arith}
use native.Mathlib.Nat.{add-zero}
use lib.IntN.{pos, negsuc}
use lib.ListN.{length, get_or, drop}
use lib.Seq.{get_or-take, get_or-drop}
use lib.Dec.{T, ltb, ltb→lt, eqb-suc-zero}
use Rattle.spec_tree.specs.Bytes.{every}
use Rattle.spec_tree.specs.Passes.{of_paper, operands_ok}
use Rattle.spec_tree.specs.Rows.{Row, row_sym, row_const, row_op}
use Rattle.spec_tree.specs.Layout.{row_fields, row_ok, signed}
use Rattle.spec_tree.specs.Tokens.{constant_code, number_in}
use Rattle.spec_tree.proofs.Logic.{and_left}
use Rattle.node_rows.specs.unfolded.Unfold.{row_count, rows_in, row_at, row_number, operand_rows, run, RowsLaid}
use Rattle.node_rows.proofs.unfolded.RowLaws.{Stands, few_kinds}
use Rattle.node_rows.proofs.unfolded.RunLaws.{row_word, run_is}

-- field j of row i
pub field_at : {ws : List ℕ} {i : ℕ} → Stands ws i → (j : ℕ) → j < length (row_fields (row_at ws i)) → get_or ws (i * 35 + 3 + j) 0 ≡ get_or (row_fields (row_at ws i)) j 0
field_at {ws} {i} c j h =
    let n = length (row_fields (row_at ws i)) in
    sym (get_or-drop (i * 35 + 3) ws j 0) ∙ sym (get_or-take n (drop (i * 35 + 3) ws) j 0 h) ∙ ap (λ (l : List ℕ). get_or l j 0) c.fields

pub head_is : {ws : List ℕ} → RowsLaid ws → (i : ℕ) → i < row_count ws → get_or (run ws i) 0 0 ≡ row_word (number_in (rows_in ws)) (row_at ws i)
head_is laid i h = ap (λ (l : List ℕ). get_or l 0 0) (run_is laid i h)

pub number_fits : (i : ℕ) (r : Row) → T (row_ok i r) → row_number r ≤ 28
unfolding row_ok row_number
number_fits i (row_sym s) t = omega arith
number_fits i (row_const c) t = omega arith
number_fits i (row_op k ns) t = (few_kinds k (length ns) (and_left (operands_ok k (length ns)) (every (λ n. ltb n i) ns) t)).1

-- of an operation
operation : (i k : ℕ) (ns : List ℕ) → T (row_ok i (row_op k ns)) → 2 ≤ k
unfolding row_ok
operation i k ns t = (few_kinds k (length ns) (and_left (operands_ok k (length ns)) (every (λ n. ltb n i) ns) t)).0

module _ (number : List ℕ → ℕ) (i : ℕ) where
  pub symbol_word : (r : Row) → T (row_ok i r) → row_number r ≡ 0 → row_word number r ≡ 192 * number (row_fields r)
  unfolding row_number row_word row_fields
  symbol_word (row_sym s) t e = omega arith
  symbol_word (row_const c) t e = absurd (omega arith)
  symbol_word (row_op k ns) t e = absurd (omega (arith, operation i k ns t))

  pub operation_word : (r : Row) → T (row_ok i r) → 2 ≤ row_number r → row_word number r ≡ row_number r + 64 * length (row_fields r)
  unfolding row_number row_word row_fields
  operation_word (row_sym s) t e = absurd (omega arith)
  operation_word (row_const c) t e = absurd (omega arith)
  operation_word (row_op k ns) t e = refl

pub leaf_operands : (i : ℕ) (r : Row) → T (row_ok i r) → row_number r < 2 → operand_rows r ≡ []
unfolding row_number operand_rows
leaf_operands i (row_sym s) t e = refl
leaf_operands i (row_const c) t e = refl
leaf_operands i (row_op k ns) t e = absurd (omega (arith, operation i k ns t))

pub operation_operands : (r : Row) → 2 ≤ row_number r → operand_rows r ≡ row_fields r
unfolding row_number operand_rows row_fields
operation_operands (row_sym s) e = absurd (omega arith)
operation_operands (row_const c) e = absurd (omega arith)
operation_operands (row_op k ns) e = refl

-- a constant's row
pub record Constant (number : List ℕ → ℕ) (r : Row) : Type 0 where
  pub two : length (row_fields r) ≡ 2
  pub small : get_or (row_fields r) 1 0 < 10 ^ 15
  pub minus : 0 < get_or (row_fields r) 0 0 → 0 < get_or (row_fields r) 1 0
  pub word_is : row_word number r ≡ 1 + 64 * constant_code (signed (get_or (row_fields r) 0 0) (get_or (row_fields r) 1 0))

pub constant_word : (number : List ℕ → ℕ) (i : ℕ) (r : Row) → T (row_ok i r) → row_number r ≡ 1 → Constant number r
unfolding row_ok of_paper row_number row_word row_fields signed
constant_word number i (row_sym s) t e = absurd (omega arith)
constant_word number i (row_const (pos n)) t e = record { two = refl; small = ltb→lt n (10 ^ 15) t; minus = λ h. absurd (omega arith); word_is = refl }
constant_word number i (row_const (negsuc n)) t e = record { two = refl; small = ltb→lt (suc n) (10 ^ 15) t; minus = λ h. omega arith; word_is = refl }
constant_word number i (row_op k ns) t e = absurd (omega (arith, operation i k ns t))

-- ---- a constant's code

pub plus_code : (s n : ℕ) → s ≡ 0 → 2 * n ≡ constant_code (signed s n)
unfolding constant_code signed
plus_code s n e = rw e refl

pub minus_code : (s n : ℕ) → (s ≡ 0 → ⊥) → 0 < n → 2 * n - 1 ≡ constant_code (signed s n)
unfolding constant_code signed
minus_code zero n e h = absurd (e refl)
minus_code (suc s) zero e h = absurd (omega arith)
minus_code (suc s) (suc n) e h =
    let m : signed (suc s) (suc n) ≡ negsuc n = ap (λ (b : Bool). cond b (pos (suc n)) (negsuc n)) (eqb-suc-zero s) in
    let c : 2 * suc n - 1 ≡ 1 + 2 * n = omega arith in
    c ∙ sym (ap constant_code m)

-- ---- the ends of `operand_count` and `node_word`

module _ {ws : List ℕ} {i : ℕ} (c : Stands ws i) where
  abbrev kind : ℕ
  kind = row_number (row_at ws i)

  pub kind_done : (get_or ws (i * 35) 0 + get_or ws (i * 35 + 1) 0 ≡ kind) × (get_or ws (i * 35) 0 + get_or ws (i * 35 + 1) 0 ≤ 28)
  kind_done = (c.kind, omega (arith, c.kind, number_fits i (row_at ws i) c.tested))

  pub count_small : get_or ws (i * 35 + 2) 0 ≤ 32
  count_small = omega (arith, c.count, c.most)

  module _ (laid : RowsLaid ws) (inside : i < row_count ws) where
    pub symbol_done : (n : ℕ) → kind ≡ 0 → n ≡ number_in (rows_in ws) (row_fields (row_at ws i)) → 192 * n ≡ get_or (run ws i) 0 0
    symbol_done n z e =
        let w = symbol_word (number_in (rows_in ws)) i (row_at ws i) c.tested z in
        omega (arith, head_is laid i inside)

    pub operation_done : (k : ℕ) → k ≡ kind → 2 ≤ k → k + 64 * get_or ws (i * 35 + 2) 0 ≡ get_or (run ws i) 0 0
    operation_done k e h =
        let w = operation_word (number_in (rows_in ws)) i (row_at ws i) c.tested (omega arith) in
        omega (arith, c.count, head_is laid i inside)

    pub constant_here : kind ≡ 1 → Constant (number_in (rows_in ws)) (row_at ws i)
    constant_here e = constant_word (number_in (rows_in ws)) i (row_at ws i) c.tested e

    pub sign_is : kind ≡ 1 → get_or ws (i * 35 + 3) 0 ≡ get_or (row_fields (row_at ws i)) 0 0
    sign_is e = ap (λ (j : ℕ). get_or ws j 0) (sym (add-zero (i * 35 + 3))) ∙ field_at c 0 (omega (arith, (constant_here e).two))

    pub size_is : kind ≡ 1 → get_or ws (i * 35 + 4) 0 ≡ get_or (row_fields (row_at ws i)) 1 0
    size_is e =
        let p : i * 35 + 4 ≡ i * 35 + 3 + 1 = omega arith in
        ap (λ (j : ℕ). get_or ws j 0) p ∙ field_at c 1 (omega (arith, (constant_here e).two))

    pub constant_done :
        (n : ℕ) → kind ≡ 1 → n ≡ constant_code (signed (get_or ws (i * 35 + 3) 0) (get_or ws (i * 35 + 4) 0)) → 1 + 64 * n ≡ get_or (run ws i) 0 0
    constant_done n e h =
        let k = (constant_here e).word_is in
        let m = rw (sign_is e, size_is e) at h in
        omega (arith, head_is laid i inside)
