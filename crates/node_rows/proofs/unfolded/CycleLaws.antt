-- The steps of `unfold_row` and `unfold_each`: a row's word and then its operands' trees; trees one after another. Assumes nothing.
use Prim.Native.Nat.{ℕ, suc, ◌+◌, ◌≤◌, ◌<◌}
use mathlib.Core.Path.{◌≡◌, sym, ap, ◌∙◌}
use mathlib.Core.List.{List, [], ◌∷◌}
use native.Mathlib.Omega.{arith}
use lib.ListN.{length, get_or, take, set}
use lib.Dec.{T, ltb}
use Rattle.spec_tree.specs.Bytes.{every}
use Rattle.spec_tree.specs.Layout.{row_fields}
use Rattle.spec_tree.specs.Tokens.{number_in}
use Rattle.node_rows.specs.unfolded.Write.{Wrote}
use Rattle.node_rows.specs.unfolded.Unfold.{row_count, rows_in, row_at, row_number, operand_rows, run, runs, RowsLaid}
use Rattle.node_rows.proofs.unfolded.RowLaws.{stands}
use Rattle.node_rows.proofs.unfolded.RunLaws.{row_word, run_is, runs_none, runs_more, runs_room, bound, bound_of, operands_earlier}
use Rattle.spec_tree.proofs.Tests.{every_less}
use Rattle.node_rows.proofs.unfolded.WordLaws.{head_is, leaf_operands, operation_operands}
use Rattle.node_rows.proofs.unfolded.WriteLaws.{wrote_long, wrote_none, wrote_set, wrote_then}

-- ---- a row

module _ {ws : List ℕ} (laid : RowsLaid ws) (r : ℕ) (inside : r < row_count ws) where
  -- an operation, whose fields are lent
  module _ (kind : 2 ≤ row_number (row_at ws r)) (lent : List ℕ) (fields : lent ≡ row_fields (row_at ws r)) where
    lent_is : lent ≡ operand_rows (row_at ws r)
    lent_is = fields ∙ sym (operation_operands (row_at ws r) kind)

    pub lent_below : T (every (λ k. ltb k (row_count ws)) lent)
    lent_below = rw lent_is (every_less r (row_count ws) (omega arith) (operand_rows (row_at ws r)) (operands_earlier laid r inside))

    pub lent_bound : bound lent ≤ r
    lent_bound = rw lent_is (bound_of r (operand_rows (row_at ws r)) (operands_earlier laid r inside))

    run_lent : run ws r ≡ get_or (run ws r) 0 0 ∷ runs ws lent
    run_lent = rw (lent_is, head_is laid r inside) (run_is laid r inside)

    pub row_room : length (run ws r) ≡ suc (length (runs ws lent))
    row_room = ap length run_lent

    pub row_done :
        (old new : List ℕ) (at w end : ℕ) → at < length old → w ≡ get_or (run ws r) 0 0 → Wrote (set old at w) (at + 1) (runs ws lent) end new
        → Wrote old at (run ws r) end new
    row_done old new at w end h e v = rw (run_lent, ← e) (wrote_then (wrote_set old at w h) v)

  -- a leaf
  pub leaf_done : row_number (row_at ws r) < 2 → (old : List ℕ) (at w : ℕ) → at < length old → w ≡ get_or (run ws r) 0 0 → Wrote old at (run ws r) (at + 1) (set old at w)
  leaf_done z old at w h e =
      let c = stands laid r inside in
      let none : operand_rows (row_at ws r) ≡ [] = leaf_operands r (row_at ws r) c.tested z in
      let word : run ws r ≡ get_or (run ws r) 0 0 ∷ [] = rw (head_is laid r inside) (run_is laid r inside ∙ ap (λ (l : List ℕ). row_word (number_in (rows_in ws)) (row_at ws r) ∷ l) (ap (runs ws) none ∙ runs_none ws)) in
      rw (word, ← e) (wrote_set old at w h)

pub row_holds_word : {ws : List ℕ} → RowsLaid ws → (r : ℕ) → r < row_count ws → 0 < length (run ws r)
row_holds_word laid r h = omega (arith, ap length (run_is laid r h))

-- ---- several rows

pub each_begins : (ws ns old : List ℕ) (at : ℕ) → at ≤ length old → Wrote old at (runs ws (take 0 ns)) at old
each_begins ws ns old at h = rw (runs_none ws) (wrote_none old at h)

module _ (ws ns : List ℕ) {old mid : List ℕ} {at to : ℕ} (i : ℕ) (v : Wrote old at (runs ws (take i ns)) to mid) where
  pub each_room : i < length ns → at + length (runs ws ns) ≤ length old → to + length (run ws (get_or ns i 0)) ≤ length mid
  each_room h room = omega (arith, v.end_is, wrote_long v, runs_room ws ns i h)

  pub each_more : {new : List ℕ} {end : ℕ} → i < length ns → Wrote mid to (run ws (get_or ns i 0)) end new → Wrote old at (runs ws (take (i + 1) ns)) end new
  each_more h w = rw (runs_more ws ns i h) (wrote_then v w)
