-- Spot checks beyond the marked lists, by computing: a scoped answer from a sheet's bytes to text and by way of rows, its names' scopes, its rows, the limits of
-- scopes (that of switches by counting, MostSwitches), rows that print refuses, and each refusal of load. Assumes nothing.
use Prim.Native.Nat.{ℕ, zero, suc, ◌+◌}
use mathlib.Core.Path.{◌≡◌, refl}
use mathlib.Core.Bool.{true, false}
use mathlib.Core.List.{List, [], ◌∷◌, ◌++◌}
use lib.ListN.{length}
use Rattle.spec_tree.specs.Outcome.{Outcome, ok, refused, by, ◌>>=◌}
use Rattle.spec_tree.specs.Bytes.{bytes}
use Rattle.spec_tree.specs.Kinds.{Neg, Branch, Select, SelectOr}
use Rattle.spec_tree.specs.Tree.{xname, Tree, Op, nil, ◌◂◌}
use Rattle.spec_tree.specs.Rows.{row_sym, row_op, occurrences}
use Rattle.spec_tree.specs.Layout.{table_words}
use Rattle.spec_tree.specs.Tokens.{word}
use Rattle.spec_tree.proofs.Notation.{v, num, ◌⊕◌, ◌⊗◌, ◌⊘◌, sin, cos}
use Rattle.spec_cse.specs.Answer.{rows}
use Rattle.spec_cse.specs.AnswerRows.{result_row, let_row}
use Rattle.spec_cse.specs.Extract.{Binding, State, extract_all, reciprocals}
use Rattle.spec_cse.specs.Scope.{area_rows, held, left_after, has_room, fuse_held, cse_scope, answer}
use Rattle.spec_cse.specs.Demand.{well_scoped}
use Rattle.spec_cse.specs.Call.{extract_call}
use Rattle.spec_cse.proofs.RowsRefused.{RowsRefused}
use Rattle.laws.proofs.cse.BoundSwitches.{no_switch_bound}
use Rattle.spec_program.specs.Print.{print_call}
use Rattle.spec_program.specs.Program.{csesheet, csescoped}
use Rattle.spec_program.specs.Calls.{by_calls}
use Rattle.guarantee.proofs.MostSwitches.{selecting, switches_enough, one_switch_too_many}

-- two selects on one index and a branch, with work shared inside an arm
abbrev mixed : List Tree
mixed =
    Op SelectOr (v "i" ◂ (sin (v "a" ⊕ v "b") ⊗ cos (v "a" ⊕ v "b")) ◂ v "c" ◂ v "d" ◂ nil)
    ∷ Op SelectOr (v "i" ◂ (v "a" ⊕ v "b") ◂ v "e" ◂ Op Branch (v "q" ◂ sin (v "c") ⊗ sin (v "c") ◂ v "d" ◂ nil) ◂ nil)
    ∷ []

abbrev mixed_sheet : List ℕ
mixed_sheet =
    bytes "Sym,i\r\nSym,a\r\nSym,b\r\nAdd,1,2\r\nSin,3\r\nCos,3\r\nMul,4,5\r\nSym,c\r\nSym,d\r\nSelectOr,0,6,7,8\r\nSym,e\r\nSym,q\r\nSin,7\r\nMul,12,12\r\nBranch,11,13,8\r\nSelectOr,0,3,10,14\r\nRoot,9\r\nRoot,15"

abbrev mixed_text : List ℕ
mixed_text =
    bytes "let (__m0, __m1) = match i { 0 => { let __x2 = a + b; (sin(__x2) * cos(__x2), __x2) }, 1 => (c, e), _ => { let __m3 = if q >= 0 { let __x4 = sin(c); __x4 * __x4 } else { d }; (d, __m3) } };\n__m0\n__m1\n"

-- the rows of a and of a + a
abbrev few : List ℕ
few = table_words (row_sym (bytes "a") ∷ row_op 3 (0 ∷ 0 ∷ []) ∷ [])

-- how many numbers select(i, a + b) takes where so many scopes can be open: it needs one, and its arm another
abbrev numbers_in : ℕ → Outcome ℕ
numbers_in scopes = cse_scope scopes area_rows true 0 (Op Select (v "i" ◂ (v "a" ⊕ v "b") ◂ nil) ∷ []) >>= λ a. ok a.next

-- arms that nest so deep
abbrev nested : ℕ → Tree
nested zero = v "a"
nested (suc n) = Op Select (v "i" ◂ nested n ◂ nil)

abbrev copies : ℕ → Tree → List Tree
copies zero t = []
copies (suc n) t = t ∷ copies n t

-- how many numbers a list takes in so many rows: nested 8 needs 17, and the scopes that are open inside it 15, 13 and so on to 1, 81 in all
abbrev numbers_within : ℕ → List Tree → Outcome ℕ
numbers_within left es = cse_scope 9 left true 0 es >>= λ a. ok a.next

-- 9 occurrences, of which 7 are held: a let of sin(a + b), and its name twice
abbrev shared : List Tree
shared = (sin (v "a" ⊕ v "b") ⊕ sin (v "a" ⊕ v "b")) ∷ []

-- a switch with an arm of 3 occurrences, and a let as above: of 13 occurrences 11 are held
abbrev shared_beside : List Tree
shared_beside = Op Select (v "i" ◂ (v "c" ⊕ v "d") ◂ nil) ∷ sin (v "a" ⊕ v "b") ∷ sin (v "a" ⊕ v "b") ∷ []

-- two matches of two arms and one, each a leaf, whose scopes have the same rows in turn
abbrev beside : List Tree
beside = Op Select (v "i" ◂ v "a" ◂ v "b" ◂ nil) ∷ Op Select (v "j" ◂ v "c" ◂ nil) ∷ []

-- a state with so many results, each a leaf, and one reciprocal, and how many numbers it has used then, in so many rows
abbrev leaves : ℕ → Tree → State
leaves n d = record { results = copies n (v "a"); lets = record { name = xname 0; expr = num 1 ⊘ d } ∷ []; next = 1 }

abbrev numbers_held : ℕ → ℕ → Tree → Outcome ℕ
numbers_held left n d = fuse_held (λ k l. cse_scope 1 (left_after left 0 (leaves n d)) true k l) left 0 (leaves n d) >>= λ a. ok a.next

-- a state with so many bindings that read nothing, and one switch
abbrev bindings : ℕ → List Binding
bindings zero = []
bindings (suc n) = record { name = xname n; expr = num 2 } ∷ bindings n

abbrev bound : ℕ → State
bound n = record { results = Op Select (num 1 ◂ num 2 ◂ nil) ∷ []; lets = bindings n; next = n }

-- sums of a tree with itself
abbrev doubled : ℕ → Tree
doubled zero = num 2
doubled (suc n) = doubled n ⊕ doubled n

-- divisors in one another, the innermost first in text order, and a switch in it with one arm: each reciprocal holds the switch
abbrev divided : Tree → ℕ → Tree
divided arm zero = Op Neg (Op Select (num 1 ◂ arm ◂ nil) ◂ nil)
divided arm (suc n) = num (10 + (n + n)) ⊘ divided arm n

abbrev twice_divided : Tree → ℕ → List Tree
twice_divided arm n = v "p" ⊘ divided arm n ∷ v "q" ⊘ divided arm n ∷ []

-- with an arm of 255 occurrences, for which there are rows after what the list's scope holds
abbrev many : ℕ → List Tree
many n = twice_divided (doubled 7) n

-- The same where the arm is divided by numbers that are divisors outside too, and stand between the others in text order: in each reciprocal other divisions of the
-- arm are replaced, so that each has a switch of its own, and the arm's scope is given them all.
abbrev over : ℕ → Tree
over zero = doubled 7
over (suc n) = over n ⊘ num (11 + (n + n))

abbrev outside : ℕ → List Tree
outside zero = []
outside (suc n) = v "r" ⊘ num (11 + (n + n)) ∷ outside n

abbrev different : ℕ → List Tree
different n = twice_divided (over n) n ++ outside n

-- a switch in a divisor: 3 / select(1, 7 / 2)
abbrev in_divisor : Tree
in_divisor = num 3 ⊘ Op Select (num 1 ◂ (num 7 ⊘ num 2) ◂ nil)

-- a list's occurrences, and how many its scope would hold
abbrev rows_for : List Tree → Outcome (ℕ × ℕ)
rows_for es = extract_all true 0 es >>= λ s. ok (occurrences es, occurrences (held (length s.lets) (reciprocals true s)))

pub record Examples : Type 0 where
  mixed_scoped : csescoped mixed_sheet ≡ mixed_text
  mixed_by_calls : by_calls true 45 200 mixed_sheet ≡ ok mixed_text
  mixed_no_row : by_calls true 44 200 mixed_sheet ≡ refused (by 12)
  mixed_no_byte : by_calls true 45 199 mixed_sheet ≡ refused (by 14)
  mixed_in_scope : (answer true mixed >>= λ a. ok (well_scoped mixed a)) ≡ ok true
  mixed_rows : (answer true mixed >>= λ a. ok (rows a)) ≡ ok 45
  two_scopes : numbers_in 2 ≡ ok 1
  one_scope : numbers_in 1 ≡ refused (by 23)
  eight_deep : (answer true (nested 8 ∷ []) >>= λ a. ok (rows a)) ≡ ok 50
  nine_deep : answer true (nested 9 ∷ []) ≡ refused (by 23)
  input_enough : (cse_scope 1 area_rows true 0 (copies 1927 (v "a")) >>= λ a. ok a.next) ≡ ok 0
  input_too_large : cse_scope 1 area_rows true 0 (copies 1928 (v "a")) ≡ refused (by 23)
  last_number : (cse_scope 1 area_rows true 2147483648 (v "a" ∷ []) >>= λ a. ok a.next) ≡ ok 2147483648
  number_too_large : cse_scope 1 area_rows true 2147483649 (v "a" ∷ []) ≡ refused (by 23)
  rows_for_shared : rows_for shared ≡ ok (9, 7)
  rows_for_input : numbers_within 9 shared ≡ ok 1
  no_row_for_input : numbers_within 8 shared ≡ refused (by 23)
  rows_enough : numbers_held 40 40 (num 2) ≡ ok 1
  a_row_too_few : numbers_held 40 41 (num 2) ≡ refused (by 23)
  room_for_a_switch : has_room 40 0 (leaves 35 (Op Select (num 1 ◂ num 2 ◂ nil))) ≡ true
  no_row_for_a_switch : has_room 40 0 (leaves 36 (Op Select (num 1 ◂ num 2 ◂ nil))) ≡ false
  a_switch_held : numbers_held 41 35 (Op Select (num 1 ◂ num 2 ◂ nil)) ≡ ok 2
  no_row_for_its_arm : numbers_held 40 35 (Op Select (num 1 ◂ num 2 ◂ nil)) ≡ refused (by 23)
  room_for_switches : has_room area_rows 0 (selecting 3640) ≡ true
  a_switch_too_many : has_room area_rows 0 (selecting 3641) ≡ false
  room_for_statements : has_room area_rows 0 (bound 2047) ≡ true
  a_statement_too_many : fuse_held (λ n l. cse_scope 1 area_rows true n l) area_rows 0 (bound 2048) ≡ refused (by 23)
  an_arm : numbers_within 4 (nested 1 ∷ []) ≡ ok 1
  no_row_for_an_arm : numbers_within 3 (nested 1 ∷ []) ≡ refused (by 23)
  an_arm_in_an_arm : numbers_within 9 (nested 2 ∷ []) ≡ ok 2
  no_row_for_an_arm_in_an_arm : numbers_within 8 (nested 2 ∷ []) ≡ refused (by 23)
  the_ninth_scope : numbers_within 81 (nested 8 ∷ []) ≡ ok 8
  no_row_for_the_ninth_scope : numbers_within 80 (nested 8 ∷ []) ≡ refused (by 23)
  rows_for_shared_beside : rows_for shared_beside ≡ ok (13, 11)
  after_what_is_held : numbers_within 14 shared_beside ≡ ok 2
  no_row_after_what_is_held : numbers_within 13 shared_beside ≡ refused (by 23)
  the_same_rows : numbers_within 8 beside ≡ ok 2
  no_row_for_either : numbers_within 7 beside ≡ refused (by 23)
  rows_for_many : rows_for (many 25) ≡ ok (620, 7516)
  many_divisors_flat : (answer false (many 25) >>= λ a. ok a.extracted) ≡ ok 0
  many_divisors : (answer true (many 25) >>= λ a. ok (rows a)) ≡ ok 1148
  rows_enough_for_many : numbers_within 7771 (many 25) ≡ ok 27
  a_row_too_few_for_many : numbers_within 7770 (many 25) ≡ refused (by 23)
  some_switches : (answer true (different 7) >>= λ a. ok (rows a)) ≡ ok 2108
  rows_for_switches : rows_for (different 8) ≡ ok (608, 2618)
  many_switches : answer true (different 8) ≡ refused (by 23)
  divided_once : no_switch_bound (v "p" ⊘ Op Select (num 1 ◂ num 2 ◂ num 3 ◂ nil) ∷ []) ≡ true
  divided_twice : no_switch_bound (v "p" ⊘ in_divisor ∷ v "q" ⊘ in_divisor ∷ v "r" ⊘ num 2 ∷ []) ≡ false
  work_too_short : extract_call false 65535 131072 few (1 ∷ []) 9 ≡ refused (by 8)
  text_too_short : extract_call false 65536 131071 few (1 ∷ []) 9 ≡ refused (by 8)
  no_such_root : extract_call false 65536 131072 few (2 ∷ []) 9 ≡ refused (by 9)
  a_result : print_call few (word result_row 0 ∷ 0 ∷ []) 2 ≡ ok (bytes "a\n")
  no_result_row : print_call few (0 ∷ []) 2 ≡ refused (by 13)
  no_symbol_row : print_call few (word result_row 0 ∷ word 0 3 ∷ []) 2 ≡ refused (by 13)
  no_operand : print_call few (word result_row 0 ∷ word 8 1 ∷ []) 9 ≡ refused (by 13)
  never_bound : print_call few (word result_row 0 ∷ word 0 1 ∷ []) 9 ≡ refused (by 13)
  read_too_early : print_call few (word let_row 4 ∷ word 0 1 ∷ word let_row 1 ∷ 0 ∷ []) 40 ≡ refused (by 13)
  bound_twice : print_call few (word let_row 1 ∷ 0 ∷ word let_row 1 ∷ 0 ∷ []) 40 ≡ refused (by 13)
  bound_then_read : print_call few (word let_row 1 ∷ 0 ∷ word result_row 0 ∷ word 0 1 ∷ []) 40 ≡ ok (bytes "let __x0 = a;\n__x0\n")
  a_let_of_the_list : print_call few (word let_row 0 ∷ 0 ∷ []) 20 ≡ refused (by 13)
  more_rows : RowsRefused (λ ws. print_call few ws 99)
  no_bytes : csesheet [] ≡ bytes "refused 1 0\n"
  leading_zero : csesheet (bytes "Sym,a\r\nAdd,0,01") ≡ bytes "refused 2 1\n"
  made_name : csesheet (bytes "Sym,__x12\r\n") ≡ bytes "refused 3 0\n"
  minus_zero : csesheet (bytes "Const,-0") ≡ bytes "refused 4 0\n"
  no_earlier_node : csesheet (bytes "Sym,a\r\nRoot,1") ≡ bytes "refused 5 1\n"

by_print : RowsRefused (λ ws. print_call few ws 99)
unfolding print_call table_words
by_print =
    record {
      a_let = refl;
      a_match = refl;
      a_default = refl;
      a_branch = refl;
      the_largest_constant = refl;
      a_constant_too_large = refl;
      a_negative_constant_too_large = refl;
      a_let_of_a_symbol = refl;
      a_let_of_an_m_name = refl;
      a_second_let_of_an_m_name = refl;
      a_let_of_a_constant_too_large = refl;
      a_match_of_a_symbol = refl;
      a_match_of_an_x_name = refl;
      a_second_name_that_is_an_x_name = refl;
      a_match_without_names = refl;
      a_key_too_large = refl;
      a_match_without_arms = refl;
      a_default_alone = refl;
      a_branch_with_one_side = refl;
      no_value = refl;
      two_values_for_one_name = refl;
      no_value_in_a_second_arm = refl;
      a_value_too_large = refl;
      a_let_of_an_m_name_in_an_arm = refl;
      a_name_twice = refl;
      its_own_name_as_key = refl;
      its_own_name_in_an_arm = refl;
      a_name_of_an_arm_after_it = refl;
      a_value_among_results = refl;
      a_result_in_an_arm = refl;
    }

pub examples : Examples
unfolding cse_scope left_after has_room fuse_held answer no_switch_bound well_scoped rows by_calls csesheet csescoped extract_call print_call
examples =
    record {
      mixed_scoped = refl;
      mixed_by_calls = refl;
      mixed_no_row = refl;
      mixed_no_byte = refl;
      mixed_in_scope = refl;
      mixed_rows = refl;
      two_scopes = refl;
      one_scope = refl;
      eight_deep = refl;
      nine_deep = refl;
      input_enough = refl;
      input_too_large = refl;
      last_number = refl;
      number_too_large = refl;
      rows_for_shared = refl;
      rows_for_input = refl;
      no_row_for_input = refl;
      rows_enough = refl;
      a_row_too_few = refl;
      room_for_a_switch = refl;
      no_row_for_a_switch = refl;
      a_switch_held = refl;
      no_row_for_its_arm = refl;
      room_for_switches = switches_enough;
      a_switch_too_many = one_switch_too_many;
      room_for_statements = refl;
      a_statement_too_many = refl;
      an_arm = refl;
      no_row_for_an_arm = refl;
      an_arm_in_an_arm = refl;
      no_row_for_an_arm_in_an_arm = refl;
      the_ninth_scope = refl;
      no_row_for_the_ninth_scope = refl;
      rows_for_shared_beside = refl;
      after_what_is_held = refl;
      no_row_after_what_is_held = refl;
      the_same_rows = refl;
      no_row_for_either = refl;
      rows_for_many = refl;
      many_divisors_flat = refl;
      many_divisors = refl;
      rows_enough_for_many = refl;
      a_row_too_few_for_many = refl;
      some_switches = refl;
      rows_for_switches = refl;
      many_switches = refl;
      divided_once = refl;
      divided_twice = refl;
      work_too_short = refl;
      text_too_short = refl;
      no_such_root = refl;
      a_result = refl;
      no_result_row = refl;
      no_symbol_row = refl;
      no_operand = refl;
      never_bound = refl;
      read_too_early = refl;
      bound_twice = refl;
      bound_then_read = refl;
      a_let_of_the_list = refl;
      more_rows = by_print;
      no_bytes = refl;
      leading_zero = refl;
      made_name = refl;
      minus_zero = refl;
      no_earlier_node = refl;
    }
