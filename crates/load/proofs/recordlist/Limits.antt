-- What a record gives: a row only where there are fewer than 1,024, a root only where there are fewer than 64, and but for the record's number in a refusal
-- the same whatever that number is. Assumes nothing.
use Prim.Native.Nat.{ℕ, suc, ◌≤◌}
use mathlib.Core.Path.{◌≡◌, refl}
use mathlib.Core.Bool.{Bool, true, false, cond}
use mathlib.Core.Option.{Option, none, some}
use mathlib.Core.List.{List, [], ◌∷◌}
use lib.IntN.{ℤ}
use lib.ListN.{length, get_or}
use lib.Dec.{T, eqb, ltb, ltb→lt}
use Rattle.spec_tree.specs.Outcome.{Outcome, ok, refused, ◌at_record◌}
use Rattle.spec_tree.specs.Bytes.{every}
use Rattle.spec_tree.specs.Symbol.{is_name}
use Rattle.spec_tree.specs.Rows.{Row, row_sym, row_const, row_op}
use Rattle.spec_sheet.specs.Sheet.{plain, fields_from, find, words, Root, fields_ok, constant, numbers}
use Rattle.load.specs.one_record.Item.{Item, a_row, a_root, row_item, root_item, numbers_item, fields_item, split_item, record_item}

abbrev pub Limits : ℕ → ℕ → Outcome Item → Type 0
Limits n m (ok (a_row x)) = suc n ≤ 1024
Limits n m (ok (a_root k)) = suc m ≤ 64
Limits n m (refused q) = Unit {0}

module _ (i n m : ℕ) where
  row_limit : (r : Row) → Limits n m (row_item i n m r)
  unfolding row_item
  row_limit r = go (ltb n 1024) (ltb→lt n 1024)
    where
      go : (b : Bool) → (T b → suc n ≤ 1024) → Limits n m (cond b (ok (a_row r)) (refused (6 at_record i)))
      go true h = h tt
      go false h = tt

  root_limit : (k : ℕ) → Limits n m (root_item i n m k)
  unfolding root_item
  root_limit k = go (ltb m 64) (ltb→lt m 64)
    where
      go : (b : Bool) → (T b → suc m ≤ 64) → Limits n m (cond b (ok (a_root k)) (refused (6 at_record i)))
      go true h = h tt
      go false h = tt

  numbers_limit : (k : ℕ) (ns : List ℕ) → Limits n m (numbers_item i n m k ns)
  unfolding numbers_item
  numbers_limit k ns = go (every (λ x. ltb x n) ns) (eqb k Root)
    where
      go : (b c : Bool) → Limits n m (elim b [ true ↦ cond c (root_item i n m (get_or ns 0 0)) (row_item i n m (row_op k ns)) | false ↦ refused (5 at_record i) ])
      go true true = root_limit (get_or ns 0 0)
      go true false = row_limit (row_op k ns)
      go false c = tt

  fields_limit : (k : ℕ) (fs : List (List ℕ)) → Limits n m (fields_item i n m k fs)
  unfolding fields_item
  fields_limit k fs = go (eqb k 0) (eqb k 1) (is_name (get_or fs 0 [])) (constant (get_or fs 0 [])) (numbers fs)
    where
      go : (a b c : Bool) (o : Option ℤ) (q : Option (List ℕ))
          → Limits n m
          (elim a [
            | true ↦ cond c (row_item i n m (row_sym (get_or fs 0 []))) (refused (3 at_record i))
            | false ↦ elim b [
              | true ↦ elim o [ none ↦ refused (4 at_record i) | some x ↦ row_item i n m (row_const x) ]
              | false ↦ elim q [ none ↦ refused (2 at_record i) | some ns ↦ numbers_item i n m k ns ]
            ]
          ])
      go true b true o q = row_limit (row_sym (get_or fs 0 []))
      go true b false o q = tt
      go false true c none q = tt
      go false true c (some x) q = row_limit (row_const x)
      go false false c o none = tt
      go false false c o (some ns) = numbers_limit k ns

  split_limit : (fs : List (List ℕ)) → Limits n m (split_item i n m fs)
  unfolding split_item
  split_limit [] = tt
  split_limit (w ∷ fs) = go (find 0 w words)
    where
      inner : (k : ℕ) (b : Bool) → Limits n m (elim b [ true ↦ fields_item i n m k fs | false ↦ refused (2 at_record i) ])
      inner k true = fields_limit k fs
      inner k false = tt

      go : (o : Option ℕ) → Limits n m (elim o [ none ↦ refused (2 at_record i) | some k ↦ elim (fields_ok k (length fs)) [ true ↦ fields_item i n m k fs | false ↦ refused (2 at_record i) ] ])
      go none = tt
      go (some k) = inner k (fields_ok k (length fs))

  pub record_limit : (r : List ℕ) → Limits n m (record_item i n m r)
  unfolding record_item
  record_limit r = go (every plain r)
    where
      go : (b : Bool) → Limits n m (elim b [ true ↦ split_item i n m (fields_from [] r) | false ↦ refused (2 at_record i) ])
      go true = split_limit (fields_from [] r)
      go false = tt

-- ---- the record's number

abbrev pub placed : ℕ → Outcome Item → Outcome Item
placed i (ok x) = ok x
placed i (refused q) = refused (q.number at_record i)

module _ (i n m : ℕ) where
  row_placed : (r : Row) → row_item i n m r ≡ placed i (row_item 0 n m r)
  unfolding row_item
  row_placed r = go (ltb n 1024)
    where
      go : (b : Bool) → cond b (ok (a_row r)) (refused (6 at_record i)) ≡ placed i (cond b (ok (a_row r)) (refused (6 at_record 0)))
      go true = refl
      go false = refl

  root_placed : (k : ℕ) → root_item i n m k ≡ placed i (root_item 0 n m k)
  unfolding root_item
  root_placed k = go (ltb m 64)
    where
      go : (b : Bool) → cond b (ok (a_root k)) (refused (6 at_record i)) ≡ placed i (cond b (ok (a_root k)) (refused (6 at_record 0)))
      go true = refl
      go false = refl

  numbers_placed : (k : ℕ) (ns : List ℕ) → numbers_item i n m k ns ≡ placed i (numbers_item 0 n m k ns)
  unfolding numbers_item
  numbers_placed k ns = go (every (λ x. ltb x n) ns) (eqb k Root)
    where
      go : (b c : Bool) → ◌≡◌ {A = Outcome Item} (elim b [ true ↦ cond c (root_item i n m (get_or ns 0 0)) (row_item i n m (row_op k ns)) | false ↦ refused (5 at_record i) ])
          (placed i (elim b [ true ↦ cond c (root_item 0 n m (get_or ns 0 0)) (row_item 0 n m (row_op k ns)) | false ↦ refused (5 at_record 0) ]))
      go true true = root_placed (get_or ns 0 0)
      go true false = row_placed (row_op k ns)
      go false c = refl

  fields_placed : (k : ℕ) (fs : List (List ℕ)) → fields_item i n m k fs ≡ placed i (fields_item 0 n m k fs)
  unfolding fields_item
  fields_placed k fs = go (eqb k 0) (eqb k 1) (is_name (get_or fs 0 [])) (constant (get_or fs 0 [])) (numbers fs)
    where
      go : (a b c : Bool) (o : Option ℤ) (q : Option (List ℕ))
          → ◌≡◌ {A = Outcome Item}
          (elim a [
            | true ↦ cond c (row_item i n m (row_sym (get_or fs 0 []))) (refused (3 at_record i))
            | false ↦ elim b [
              | true ↦ elim o [ none ↦ refused (4 at_record i) | some x ↦ row_item i n m (row_const x) ]
              | false ↦ elim q [ none ↦ refused (2 at_record i) | some ns ↦ numbers_item i n m k ns ]
            ]
          ])
          (placed i
          (elim a [
            | true ↦ cond c (row_item 0 n m (row_sym (get_or fs 0 []))) (refused (3 at_record 0))
            | false ↦ elim b [
              | true ↦ elim o [ none ↦ refused (4 at_record 0) | some x ↦ row_item 0 n m (row_const x) ]
              | false ↦ elim q [ none ↦ refused (2 at_record 0) | some ns ↦ numbers_item 0 n m k ns ]
            ]
          ]))
      go true b true o q = row_placed (row_sym (get_or fs 0 []))
      go true b false o q = refl
      go false true c none q = refl
      go false true c (some x) q = row_placed (row_const x)
      go false false c o none = refl
      go false false c o (some ns) = numbers_placed k ns

  split_placed : (fs : List (List ℕ)) → split_item i n m fs ≡ placed i (split_item 0 n m fs)
  unfolding split_item
  split_placed [] = refl
  split_placed (w ∷ fs) = go (find 0 w words)
    where
      inner : (k : ℕ) (b : Bool) → ◌≡◌ {A = Outcome Item} (elim b [ true ↦ fields_item i n m k fs | false ↦ refused (2 at_record i) ])
          (placed i (elim b [ true ↦ fields_item 0 n m k fs | false ↦ refused (2 at_record 0) ]))
      inner k true = fields_placed k fs
      inner k false = refl

      go : (o : Option ℕ)
          → ◌≡◌ {A = Outcome Item} (elim o [ none ↦ refused (2 at_record i) | some k ↦ elim (fields_ok k (length fs)) [ true ↦ fields_item i n m k fs | false ↦ refused (2 at_record i) ] ])
          (placed i (elim o [ none ↦ refused (2 at_record 0) | some k ↦ elim (fields_ok k (length fs)) [ true ↦ fields_item 0 n m k fs | false ↦ refused (2 at_record 0) ] ]))
      go none = refl
      go (some k) = inner k (fields_ok k (length fs))

  pub record_placed : (r : List ℕ) → record_item i n m r ≡ placed i (record_item 0 n m r)
  unfolding record_item
  record_placed r = go (every plain r)
    where
      go : (b : Bool) → ◌≡◌ {A = Outcome Item} (elim b [ true ↦ split_item i n m (fields_from [] r) | false ↦ refused (2 at_record i) ])
          (placed i (elim b [ true ↦ split_item 0 n m (fields_from [] r) | false ↦ refused (2 at_record 0) ]))
      go true = split_placed (fields_from [] r)
      go false = refl
