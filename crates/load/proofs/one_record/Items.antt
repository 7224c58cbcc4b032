-- Load's records one after another are the items that `record-item` gives. Assumes nothing.
use Prim.Native.Nat.{ℕ, suc}
use mathlib.Core.Path.{◌≡◌, refl, ap}
use mathlib.Core.Bool.{Bool, true, false, cond}
use mathlib.Core.Option.{Option, none, some}
use mathlib.Core.List.{List, [], ◌∷◌, ◌++◌}
use lib.IntN.{ℤ}
use lib.ListN.{length, get_or}
use lib.Dec.{eqb, ltb}
use Rattle.spec_tree.specs.Outcome.{Outcome, ok, refused, ◌at_record◌, ◌>>=◌}
use Rattle.spec_tree.specs.Bytes.{every}
use Rattle.spec_tree.specs.Symbol.{is_name}
use Rattle.spec_tree.specs.Rows.{Row, row_sym, row_const, row_op, Table}
use Rattle.spec_sheet.specs.Sheet.{plain, fields_from, find, words, Root, fields_ok, constant, numbers, add_row, add_root, add_numbers, add_fields, add_record, load_records}
use Rattle.load.specs.one_record.Item.{Item, a_row, a_root, row_item, root_item, numbers_item, fields_item, split_item, record_item, with_item}

module _ (i : ℕ) (t : Table) where
  -- an item joins the table
  abbrev joined : Outcome Item → Outcome Table
  joined o = o >>= λ x. ok (with_item x t)

  abbrev n : ℕ
  n = length t.rows

  abbrev m : ℕ
  m = length t.roots

  row_step : (r : Row) → add_row i r t ≡ joined (row_item i n m r)
  unfolding add_row row_item with_item
  row_step r = go (ltb n 1024)
    where
      go : (b : Bool) → ◌≡◌ {A = Outcome Table} (cond b (ok (record { rows = t.rows ++ (r ∷ []); roots = t.roots })) (refused (6 at_record i)))
          (cond b (ok (a_row r)) (refused (6 at_record i)) >>= λ x. ok (with_item x t))
      go true = refl
      go false = refl

  root_step : (k : ℕ) → add_root i k t ≡ joined (root_item i n m k)
  unfolding add_root root_item with_item
  root_step k = go (ltb m 64)
    where
      go : (b : Bool) → ◌≡◌ {A = Outcome Table} (cond b (ok (record { rows = t.rows; roots = t.roots ++ (k ∷ []) })) (refused (6 at_record i)))
          (cond b (ok (a_root k)) (refused (6 at_record i)) >>= λ x. ok (with_item x t))
      go true = refl
      go false = refl

  numbers_step : (k : ℕ) (ns : List ℕ) → add_numbers i k ns t ≡ joined (numbers_item i n m k ns)
  unfolding add_numbers numbers_item
  numbers_step k ns = go (every (λ x. ltb x n) ns) (eqb k Root)
    where
      go : (b c : Bool) → ◌≡◌ {A = Outcome Table} (elim b [ true ↦ cond c (add_root i (get_or ns 0 0) t) (add_row i (row_op k ns) t) | false ↦ refused (5 at_record i) ])
          (joined (elim b [ true ↦ cond c (root_item i n m (get_or ns 0 0)) (row_item i n m (row_op k ns)) | false ↦ refused (5 at_record i) ]))
      go true true = root_step (get_or ns 0 0)
      go true false = row_step (row_op k ns)
      go false c = refl

  fields_step : (k : ℕ) (fs : List (List ℕ)) → add_fields i k fs t ≡ joined (fields_item i n m k fs)
  unfolding add_fields fields_item
  fields_step k fs = go (eqb k 0) (eqb k 1) (is_name (get_or fs 0 [])) (constant (get_or fs 0 [])) (numbers fs)
    where
      go : (a b c : Bool) (o : Option ℤ) (q : Option (List ℕ))
          → ◌≡◌ {A = Outcome Table}
          (elim a [
            | true ↦ cond c (add_row i (row_sym (get_or fs 0 [])) t) (refused (3 at_record i))
            | false ↦ elim b [
              | true ↦ elim o [ none ↦ refused (4 at_record i) | some x ↦ add_row i (row_const x) t ]
              | false ↦ elim q [ none ↦ refused (2 at_record i) | some ns ↦ add_numbers i k ns t ]
            ]
          ])
          (joined
          (elim a [
            | true ↦ cond c (row_item i n m (row_sym (get_or fs 0 []))) (refused (3 at_record i))
            | false ↦ elim b [
              | true ↦ elim o [ none ↦ refused (4 at_record i) | some x ↦ row_item i n m (row_const x) ]
              | false ↦ elim q [ none ↦ refused (2 at_record i) | some ns ↦ numbers_item i n m k ns ]
            ]
          ]))
      go true b true o q = row_step (row_sym (get_or fs 0 []))
      go true b false o q = refl
      go false true c none q = refl
      go false true c (some x) q = row_step (row_const x)
      go false false c o none = refl
      go false false c o (some ns) = numbers_step k ns

  split_step : (fs : List (List ℕ)) → add_record i fs t ≡ joined (split_item i n m fs)
  unfolding add_record split_item
  split_step [] = refl
  split_step (w ∷ fs) = go (find 0 w words)
    where
      inner : (k : ℕ) (b : Bool) → ◌≡◌ {A = Outcome Table} (elim b [ true ↦ add_fields i k fs t | false ↦ refused (2 at_record i) ])
          (joined (elim b [ true ↦ fields_item i n m k fs | false ↦ refused (2 at_record i) ]))
      inner k true = fields_step k fs
      inner k false = refl

      go : (o : Option ℕ)
          → ◌≡◌ {A = Outcome Table}
          (elim o [ none ↦ refused (2 at_record i) | some k ↦ elim (fields_ok k (length fs)) [ true ↦ add_fields i k fs t | false ↦ refused (2 at_record i) ] ])
          (joined (elim o [ none ↦ refused (2 at_record i) | some k ↦ elim (fields_ok k (length fs)) [ true ↦ fields_item i n m k fs | false ↦ refused (2 at_record i) ] ]))
      go none = refl
      go (some k) = inner k (fields_ok k (length fs))

-- one record more
pub records_step : (i : ℕ) (r : List ℕ) (l : List (List ℕ)) (t : Table)
    → load_records i (r ∷ l) t ≡ (record_item i (length t.rows) (length t.roots) r >>= λ x. load_records (suc i) l (with_item x t))
unfolding load_records record_item
records_step i r l t = go (every plain r)
  where
    after : (o : Outcome Item) (q : Outcome Table) → q ≡ (o >>= λ x. ok (with_item x t))
        → ◌≡◌ {A = Outcome Table} (elim q [ ok u ↦ load_records (suc i) l u | refused e ↦ refused e ]) (o >>= λ x. load_records (suc i) l (with_item x t))
    after (ok x) q e = ap (λ (q : Outcome Table). elim q as (λ _. Outcome Table) [ ok u ↦ load_records (suc i) l u | refused e ↦ refused e ]) e
    after (refused z) q e = ap (λ (q : Outcome Table). elim q as (λ _. Outcome Table) [ ok u ↦ load_records (suc i) l u | refused e ↦ refused e ]) e

    go : (b : Bool)
        → ◌≡◌ {A = Outcome Table}
        (elim b [ true ↦ elim (add_record i (fields_from [] r) t) [ ok u ↦ load_records (suc i) l u | refused e ↦ refused e ] | false ↦ refused (2 at_record i) ])
        (elim b [ true ↦ split_item i (length t.rows) (length t.roots) (fields_from [] r) | false ↦ refused (2 at_record i) ] >>= λ x. load_records (suc i) l (with_item x t))
    go true = after (split_item i (length t.rows) (length t.roots) (fields_from [] r)) (add_record i (fields_from [] r) t) (split_step i t (fields_from [] r))
    go false = refl
