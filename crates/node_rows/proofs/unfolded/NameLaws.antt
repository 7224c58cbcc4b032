-- The first row with a symbol's name. Assumes nothing.
use Prim.Native.Nat.{ℕ, zero, suc, ◌+◌, ◌-◌, ◌*◌, ◌<◌}
use mathlib.Core.Path.{◌≡◌, refl, sym, ap, ◌∙◌, subst}
use mathlib.Core.Bool.{Bool, true, false}
use mathlib.Core.List.{List, [], ◌∷◌}
use native.Mathlib.Omega.{arith}
use native.Mathlib.Nat.{zero-add, add-zero}
use lib.ListN.{length, get_or, take, drop}
use lib.Dec.{T, ltb}
use Rattle.spec_tree.specs.Bytes.{eq_bytes, every}
use Rattle.spec_tree.specs.Rows.{Row, row_sym, row_const, row_op}
use Rattle.spec_tree.specs.Layout.{row_fields, row_ok}
use Rattle.spec_tree.specs.Tokens.{first_named, number_in}
use Rattle.spec_tree.specs.Passes.{operands_ok}
use Rattle.spec_tree.proofs.Logic.{and_left}
use Rattle.spec_tree.proofs.TreeLaws.{eq_bytes_sound, eq_bytes_refl}
use Rattle.node_rows.specs.unfolded.Unfold.{row_count, rows_in, row_at, row_number, RowsLaid}
use Rattle.node_rows.specs.unfolded.Chain.{FirstNamed}
use Rattle.node_rows.proofs.unfolded.RowLaws.{Stands, stands, few_kinds}
use Rattle.spec_tree.proofs.LayoutLaws.{rows_long}

true_is : (b : Bool) → T b → b ≡ true
true_is true t = refl
true_is false t = absurd t

-- a row before the first with the name is passed over
passed : (j : ℕ) (r : Row) (l : List Row) (s : List ℕ) → (r ≡ row_sym s → ⊥) → first_named j (r ∷ l) s ≡ first_named (suc j) l s
unfolding first_named
passed j (row_sym n) l s f = go (eq_bytes n s) (λ t. f (ap row_sym (eq_bytes_sound n s t)))
  where
    go : (b : Bool) → (T b → ⊥) → ◌≡◌ {A = ℕ} (elim b [ true ↦ j | false ↦ first_named (suc j) l s ]) (first_named (suc j) l s)
    go true g = absurd (g tt)
    go false g = refl
passed j (row_const c) l s f = refl
passed j (row_op k ns) l s f = refl

met : (j : ℕ) (l : List Row) (s : List ℕ) → first_named j (row_sym s ∷ l) s ≡ j
unfolding first_named
met j l s = rw (true_is (eq_bytes s s) (eq_bytes_refl s), first_named)

first_is :
    (l : List Row) (j i : ℕ) (s : List ℕ) (d : Row) → i < length l → get_or l i d ≡ row_sym s → ((k : ℕ) → k < i → get_or l k d ≡ row_sym s → ⊥)
    → first_named j l s ≡ j + i
first_is [] j i s d h e f = absurd (omega arith)
first_is (r ∷ l) j zero s d h e f = subst (λ (x : Row). first_named j (x ∷ l) s ≡ j + 0) (sym e) (met j l s ∙ sym (add-zero j))
first_is (r ∷ l) j (suc i) s d h e f =
    let m : suc j + i ≡ j + suc i = omega arith in
    passed j r l s (f 0 (omega arith)) ∙ first_is l (suc j) i s d (omega arith) e (λ k n. f (suc k) (omega arith)) ∙ m

symbol_is : (i : ℕ) (r : Row) → T (row_ok i r) → row_number r ≡ 0 → r ≡ row_sym (row_fields r)
unfolding row_ok row_number row_fields
symbol_is i (row_sym s) t e = refl
symbol_is i (row_const c) t e = absurd (omega arith)
symbol_is i (row_op k ns) t e = absurd (omega (arith, few_kinds k (length ns) (and_left (operands_ok k (length ns)) (every (λ n. ltb n i) ns) t)))

-- the first row that is the same as a symbol's is the symbol's number
pub found :
    {ws : List ℕ} → RowsLaid ws → (r e : ℕ) → r < row_count ws → row_number (row_at ws r) ≡ 0 → FirstNamed ws r e
    → e ≡ number_in (rows_in ws) (row_fields (row_at ws r))
unfolding rows_in row_at number_in
found {ws} laid r e h z f =
    let l = f.earlier in
    let c = stands laid r h in
    let q : row_at ws r ≡ row_sym (row_fields (row_at ws r)) = symbol_is r (row_at ws r) c.tested z in
    let n : e < length (rows_in ws) = rw (rows_long (row_count ws) ws) (omega arith) in
    sym (first_is (rows_in ws) 0 e (row_fields (row_at ws r)) (row_op 0 []) n (f.same ∙ q) (λ k m g. f.first k m (g ∙ sym q)) ∙ zero-add e)

-- ---- two symbols' names

module _ {ws : List ℕ} {i r : ℕ} (c : Stands ws i) (d : Stands ws r) where
  abbrev name : ℕ → List ℕ
  name k = row_fields (row_at ws k)

  pub same_by_name : row_number (row_at ws i) ≡ 0 → row_number (row_at ws r) ≡ 0 → name i ≡ name r → row_at ws i ≡ row_at ws r
  same_by_name y z e = symbol_is i (row_at ws i) c.tested y ∙ ap row_sym e ∙ sym (symbol_is r (row_at ws r) d.tested z)

-- the part of the words that is lent is the name
pub name_lent : {ws : List ℕ} {i : ℕ} (c : Stands ws i) (n : ℕ) → n ≡ get_or ws (i * 35 + 2) 0 → take (i * 35 + 3 + n - (i * 35 + 3)) (drop (i * 35 + 3) ws) ≡ row_fields (row_at ws i)
name_lent {ws} {i} c n h =
    let e : i * 35 + 3 + n - (i * 35 + 3) ≡ length (row_fields (row_at ws i)) = omega (arith, c.count) in
    rw e c.fields
