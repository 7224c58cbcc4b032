-- Loading a sheet: from bytes to node rows and roots, or a refusal with its record (01, "Sheet and printing", "Turned down": Load). Assumes nothing.
use Rattle.std.specs.Prelude.{ℕ, zero, suc, ◌+◌, ◌-◌, ◌*◌, ◌^◌, Bool, true, false, not, ◌&&◌, ◌||◌, cond, List, [], ◌∷◌, ◌++◌, reverse, ℤ, pos, negsuc, length, get_or, eqb, leb, ltb}
use Rattle.std.proofs.Math.Option.{Option, none, some}
use Rattle.spec_tree.specs.Bytes.{every, eq_bytes, bytes}
use Rattle.spec_tree.specs.Symbol.{is_digit, is_name}
use Rattle.spec_tree.specs.Rows.{Row, row_sym, row_const, row_op, Table, trees, within_limits}
use Rattle.spec_tree.specs.Kinds.{Kind, kinds, arity_ok}
use Rattle.spec_tree.specs.Outcome.{Outcome, ok, refused, ◌at_record◌}

-- ---- records and fields (01, "Sheet and printing")

-- CRLF ends a record, and may be missing at the end. `got` holds the record's bytes so far, latest first.
unfoldable pub records_from : List ℕ → List ℕ → List (List ℕ)
records_from [] [] = []
records_from (g ∷ got) [] = reverse (g ∷ got) ∷ []
records_from got (b ∷ []) = reverse (b ∷ got) ∷ []
records_from got (b ∷ (c ∷ l)) =
    elim (eqb b 13 && eqb c 10) [ true ↦ reverse got ∷ records_from [] l | false ↦ records_from (b ∷ got) (c ∷ l) ]

-- the fields between commas
unfoldable pub fields_from : List ℕ → List ℕ → List (List ℕ)
fields_from got [] = reverse got ∷ []
fields_from got (b ∷ l) = elim (eqb b 44) [ true ↦ reverse got ∷ fields_from [] l | false ↦ fields_from (b ∷ got) l ]

-- no quote, and no CR or LF, which would stand alone
unfoldable pub plain : ℕ → Bool
plain b = not (eqb b 34 || (eqb b 13 || eqb b 10))

-- ---- numbers and constants (01, "Sheet and printing")

unfoldable pub number_from : ℕ → List ℕ → ℕ
number_from n [] = n
number_from n (b ∷ l) = number_from (n * 10 + (b - 48)) l

-- decimal digits without leading zeros
unfoldable pub number : List ℕ → Option ℕ
unfolding every number_from
number [] = none
number (b ∷ []) = cond (is_digit b) (some (b - 48)) none
number (b ∷ (c ∷ l)) = cond (every is_digit (b ∷ (c ∷ l)) && not (eqb b 48)) (some (number_from 0 (b ∷ (c ∷ l)))) none

unfoldable pub below_limit : (ℕ → Option ℤ) → Option ℕ → Option ℤ
below_limit g none = none
below_limit g (some n) = cond (ltb n (10 ^ 15)) (g n) none

unfoldable pub minus : ℕ → Option ℤ
minus zero = none
minus (suc n) = some (negsuc n)

unfoldable pub constant : List ℕ → Option ℤ
unfolding number below_limit minus
constant [] = none
constant (b ∷ l) = elim (eqb b 45) [ true ↦ below_limit minus (number l) | false ↦ below_limit (λ n. some (pos n)) (number (b ∷ l)) ]

-- ---- record words (01, "Sheet and printing")

-- the record words, by the kind's number; Root comes last
unfoldable pub record_words : List Kind → List (List ℕ)
record_words [] = bytes "Root" ∷ []
record_words (k ∷ l) = k.word ∷ record_words l

unfoldable pub words : List (List ℕ)
unfolding record_words kinds
words = record_words kinds

abbrev pub Root : ℕ
Root = 29

unfoldable pub find : ℕ → List ℕ → List (List ℕ) → Option ℕ
unfolding eq_bytes
find i w [] = none
find i w (v ∷ l) = elim (eq_bytes v w) [ true ↦ some i | false ↦ find (suc i) w l ]

-- a root, a symbol and a constant have one field, and any other node its operands
abbrev pub fields_ok : ℕ → ℕ → Bool
fields_ok k n = cond (eqb k Root || leb k 1) (eqb n 1) (arity_ok k n)

-- ---- a record (01, "Turned down": Load)

unfoldable pub numbers : List (List ℕ) → Option (List ℕ)
unfolding number
numbers [] = some []
numbers (f ∷ l) = elim (number f) [ none ↦ none | some n ↦ elim (numbers l) [ none ↦ none | some ns ↦ some (n ∷ ns) ] ]

unfoldable pub add_row : ℕ → Row → Table → Outcome Table
add_row i r t = cond (ltb (length t.rows) 1024) (ok (record { rows = t.rows ++ (r ∷ []); roots = t.roots })) (refused (6 at_record i))

unfoldable pub add_root : ℕ → ℕ → Table → Outcome Table
add_root i n t = cond (ltb (length t.roots) 64) (ok (record { rows = t.rows; roots = t.roots ++ (n ∷ []) })) (refused (6 at_record i))

-- an operation's or a root's node numbers, after 2 is settled
unfoldable pub add_numbers : ℕ → ℕ → List ℕ → Table → Outcome Table
unfolding every add_row add_root
add_numbers i k ns t =
    elim (every (λ n. ltb n (length t.rows)) ns) [
      | true ↦ cond (eqb k Root) (add_root i (get_or ns 0 0) t) (add_row i (row_op k ns) t)
      | false ↦ refused (5 at_record i)
    ]

unfoldable pub add_fields : ℕ → ℕ → List (List ℕ) → Table → Outcome Table
unfolding is_name constant numbers add_row add_numbers
add_fields i k fs t =
    elim (eqb k 0) [
      | true ↦ cond (is_name (get_or fs 0 [])) (add_row i (row_sym (get_or fs 0 [])) t) (refused (3 at_record i))
      | false ↦ elim (eqb k 1) [
        | true ↦ elim (constant (get_or fs 0 [])) [ none ↦ refused (4 at_record i) | some c ↦ add_row i (row_const c) t ]
        | false ↦ elim (numbers fs) [ none ↦ refused (2 at_record i) | some ns ↦ add_numbers i k ns t ]
      ]
    ]

-- record i, split into kind and rest
unfoldable pub add_record : ℕ → List (List ℕ) → Table → Outcome Table
unfolding find words arity_ok add_fields
add_record i [] t = refused (2 at_record i)
add_record i (w ∷ fs) t =
    elim (find 0 w words) [
      | none ↦ refused (2 at_record i)
      | some k ↦ elim (fields_ok k (length fs)) [ true ↦ add_fields i k fs t | false ↦ refused (2 at_record i) ]
    ]

unfoldable pub load_records : ℕ → List (List ℕ) → Table → Outcome Table
unfolding add_record every plain fields_from
load_records i [] t = ok t
load_records i (r ∷ l) t =
    elim (every plain r) [
      | true ↦ elim (add_record i (fields_from [] r) t) [ ok u ↦ load_records (suc i) l u | refused r ↦ refused r ]
      | false ↦ refused (2 at_record i)
    ]

-- ---- load, given how many rows and roots the lent tables hold (01, "Turned down": Load)

unfoldable pub load : ℕ → ℕ → List ℕ → Outcome Table
unfolding records_from load_records trees within_limits
load row_places root_places s =
    cond (ltb row_places 1024 || ltb root_places 64) (refused (7 at_record 0))
    (cond (eqb (length s) 0) (refused (1 at_record 0))
    (cond (ltb 65535 (length s)) (refused (6 at_record 0))
    (let rs = records_from [] s in
    elim (load_records 0 rs (record { rows = []; roots = [] })) [
      | ok t ↦ cond (within_limits (trees t)) (ok t) (refused (6 at_record (length rs)))
      | refused r ↦ refused r
    ])))
