-- Load one record at a time: what a record gives, given how many rows and roots stand before it (01, "Turned down": Load). `Items` in proofs/ says that load is
-- these steps one after another. Assumes nothing.
use Rattle.std.specs.Prelude.{ℕ, length, get_or, eqb}
use Rattle.std.proofs.Math.Bool.{true, false, cond}
use Rattle.std.proofs.Math.Option.{none, some}
use mathlib.Core.List.{List, [], ◌∷◌, ◌++◌}
use Rattle.std.proofs.Math.Dec.{ltb}
use Rattle.spec_tree.specs.Outcome.{Outcome, ok, refused, ◌at_record◌}
use Rattle.spec_tree.specs.Bytes.{every}
use Rattle.spec_tree.specs.Kinds.{arity_ok}
use Rattle.spec_tree.specs.Symbol.{is_name}
use Rattle.spec_tree.specs.Rows.{Row, row_sym, row_const, row_op, Table}
use Rattle.spec_sheet.specs.Sheet.{plain, fields_from, find, words, Root, fields_ok, constant, numbers}

-- a node's row, or a root
pub data Item : Type 0 where
  a_row : Row → Item
  a_root : ℕ → Item

-- record i, after so many rows and roots
module _ (i rows roots : ℕ) where
  unfoldable pub row_item : Row → Outcome Item
  row_item r = cond (ltb rows 1024) (ok (a_row r)) (refused (6 at_record i))

  unfoldable pub root_item : ℕ → Outcome Item
  root_item n = cond (ltb roots 64) (ok (a_root n)) (refused (6 at_record i))

  unfoldable pub numbers_item : ℕ → List ℕ → Outcome Item
  unfolding every row_item root_item
  numbers_item k ns =
      elim (every (λ n. ltb n rows) ns) [
        | true ↦ cond (eqb k Root) (root_item (get_or ns 0 0)) (row_item (row_op k ns))
        | false ↦ refused (5 at_record i)
      ]

  unfoldable pub fields_item : ℕ → List (List ℕ) → Outcome Item
  unfolding is_name constant numbers row_item numbers_item
  fields_item k fs =
      elim (eqb k 0) [
        | true ↦ cond (is_name (get_or fs 0 [])) (row_item (row_sym (get_or fs 0 []))) (refused (3 at_record i))
        | false ↦ elim (eqb k 1) [
          | true ↦ elim (constant (get_or fs 0 [])) [ none ↦ refused (4 at_record i) | some c ↦ row_item (row_const c) ]
          | false ↦ elim (numbers fs) [ none ↦ refused (2 at_record i) | some ns ↦ numbers_item k ns ]
        ]
      ]

  unfoldable pub split_item : List (List ℕ) → Outcome Item
  unfolding find words arity_ok fields_item
  split_item [] = refused (2 at_record i)
  split_item (w ∷ fs) =
      elim (find 0 w words) [
        | none ↦ refused (2 at_record i)
        | some k ↦ elim (fields_ok k (length fs)) [ true ↦ fields_item k fs | false ↦ refused (2 at_record i) ]
      ]

  unfoldable pub record_item : List ℕ → Outcome Item
  unfolding every plain fields_from split_item
  record_item r = elim (every plain r) [ true ↦ split_item (fields_from [] r) | false ↦ refused (2 at_record i) ]

-- the table with what a record gave
unfoldable pub with_item : Item → Table → Table
with_item (a_row r) t = record { rows = t.rows ++ (r ∷ []); roots = t.roots }
with_item (a_root n) t = record { rows = t.rows; roots = t.roots ++ (n ∷ []) }
