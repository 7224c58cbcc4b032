-- Small wrong answers that demand 3 refuses: one theorem, a field for each, named by what is wrong and proved by computing its clause; and beside them right answers
-- that the same clauses let through. An edit that weakens a clause by one sign is refused here, because a field is false under it. Assumes nothing.
use Prim.Native.Nat.{ℕ}
use mathlib.Core.Path.{◌≡◌, refl, ap}
use mathlib.Core.Bool.{true, not}
use mathlib.Core.List.{List, [], ◌∷◌}
use native.Mathlib.Omega.{arith}
use lib.ListN.{get_or}
use lib.Dec.{T}
use Rattle.spec_tree.specs.Tree.{Name, input, xname, mname, Tree, Sym, Const, Op, nil, ◌◂◌}
use Rattle.spec_tree.specs.Kinds.{Select}
use Rattle.spec_tree.specs.Bytes.{bytes}
use Rattle.spec_tree.specs.Facts.{all_operations}
use Rattle.spec_tree.specs.Value.{Reading, Env, values}
use Rattle.spec_tree.specs.Outcome.{ok}
use Rattle.spec_tree.proofs.Notation.{v, x, m, num, ◌⊕◌, ◌⊗◌, ◌⊘◌, sin, cos}
use Rattle.spec_cse.specs.Answer.{Intermediate, Intermediates, Arms, Answer, Let, Match, end, step, no_arm, arm}
use Rattle.spec_cse.specs.Order.{topo_sort_intermediates}
use Rattle.spec_cse.specs.Scope.{Switch, member_names}
use Rattle.spec_cse.specs.Read.{set, answer_values}
use Rattle.spec_cse.specs.Demand.{well_scoped, values_kept, flat_shaped, bound_exprs, depends, no_repeats, extracted_exprs, counted, count_bounded}

-- ---- lists and answers

-- an answer with its extraction count
abbrev given : ℕ → Intermediates → List Tree → Answer
given n s l = record { inters = s; results = l; extracted = n }

abbrev lets : ℕ → Tree → Intermediates → Intermediates
lets i e l = step (Let (xname i) e) l

-- a match on i of some names, and what follows it
abbrev binding : List Name → Arms → Intermediates → Intermediates
binding ns arms l = step (Match Select (v "i") ns arms) l

-- one match on i of one name, `__m0`
abbrev on_i : Arms → Intermediates
on_i arms = binding (mname 0 ∷ []) arms end

-- an arm of one value
abbrev gives : Tree → Arms → Arms
gives t l = arm end (t ∷ []) l

-- M1 and M2, and their right answers
abbrev list1 : List Tree
list1 = (v "a" ⊕ v "b") ⊗ v "c" ∷ sin (v "a" ⊕ v "b") ∷ []

abbrev right1 : ℕ → Answer
right1 n = given n (lets 0 (v "a" ⊕ v "b") end) (x 0 ⊗ v "c" ∷ sin (x 0) ∷ [])

abbrev list2 : List Tree
list2 = sin (v "a" ⊕ v "b") ∷ cos (v "a" ⊕ v "b") ∷ sin (v "c" ⊕ v "d") ∷ cos (v "c" ⊕ v "d") ∷ []

-- a symbol twice
abbrev twice_a : List Tree
twice_a = v "a" ∷ v "a" ∷ []

-- M5: a reciprocal, and no extraction
abbrev list5 : List Tree
list5 = v "p" ⊘ num 2 ∷ v "q" ⊘ num 2 ∷ []

abbrev right5 : Answer
right5 = given 0 (lets 0 (num 1 ⊘ num 2) end) (v "p" ⊗ x 0 ∷ v "q" ⊗ x 0 ∷ [])

-- two arms
abbrev list_i : List Tree
list_i = Op Select (v "i" ◂ v "a" ◂ v "b" ◂ nil) ∷ []

abbrev right_i : Answer
right_i = given 0 (on_i (gives (v "a") (gives (v "b") no_arm))) (m 0 ∷ [])

abbrev swapped_i : Answer
swapped_i = given 0 (on_i (gives (v "b") (gives (v "a") no_arm))) (m 0 ∷ [])

-- a match on `__x0`, the statement that binds it, and a switch as collected
abbrev on_x0 : Intermediate
on_x0 = Match Select (x 0) (mname 1 ∷ []) (gives (v "a") no_arm)

abbrev let_x0 : Intermediate
let_x0 = Let (xname 0) (v "b")

abbrev switch_i : Switch
switch_i = record { tree = Op Select (v "i" ◂ v "a" ◂ nil); kind = Select; key = v "i"; arms = v "a" ∷ [] }

-- modulo 5; i picks the arm of its value, a is 1 and b is 2
abbrev by_5 : Reading
by_5 = record { modulus = 5; two_up = omega arith; reciprocal = λ a. a; function = λ k l. 0; index = λ a. a; sign = λ a. true }

abbrev i_is : ℕ → Env
i_is n = set (set (set (λ s. 0) (input (bytes "a")) 1) (input (bytes "b")) 2) (input (bytes "i")) n

abbrev kind_of : Tree → ℕ
kind_of (Sym n) = 0
kind_of (Const c) = 1
kind_of (Op k f) = k

-- ---- refused

abbrev Unscoped : List Tree → Answer → Type 0
Unscoped es a = T (not (well_scoped es a))

pub record WrongAnswers : Type 0 where
  -- names: bound once
  bound_twice : Unscoped list_i (given 2 (lets 0 (v "a") (lets 0 (v "b") end)) (x 0 ∷ []))
  bound_in_two_arms : Unscoped list_i (given 0 (on_i (arm (lets 1 (v "a") end) (x 1 ∷ []) (arm (lets 1 (v "b") end) (x 1 ∷ []) no_arm))) (m 0 ∷ []))
  -- later
  used_where_bound : Unscoped list_i (given 1 (lets 0 (x 0 ⊕ v "a") end) (x 0 ∷ []))
  used_before : Unscoped list_i (given 2 (lets 1 (x 0 ⊕ v "a") (lets 0 (v "a" ⊕ v "b") end)) (x 1 ∷ []))
  never_bound : Unscoped list_i (given 0 end (x 0 ∷ []))
  input_bound_and_used_before : Unscoped list_i (given 1 (lets 0 (v "a") (step (Let (input (bytes "a")) (v "b")) end)) (x 0 ∷ []))
  -- inside its scope
  used_in_next_arm : Unscoped list_i (given 0 (on_i (arm (lets 1 (v "a" ⊕ v "b") end) (x 1 ∷ []) (gives (x 1) no_arm))) (m 0 ∷ []))
  used_after_match : Unscoped list_i (given 0 (on_i (arm (lets 1 (v "a" ⊕ v "b") end) (x 1 ∷ []) no_arm)) (m 0 ∷ x 1 ∷ []))
  own_name_in_arm : Unscoped list_i (given 0 (on_i (gives (v "a") (gives (m 0) no_arm))) (m 0 ∷ []))
  own_name_in_key : Unscoped list_i (given 0 (step (Match Select (m 0) (mname 0 ∷ []) (gives (v "a") no_arm)) end) (m 0 ∷ []))
  -- a match binds its names as a let does: each once, in its arms too, and for what follows it
  one_match_binds_twice : Unscoped list_i (given 0 (binding (mname 0 ∷ mname 0 ∷ []) (arm end (v "a" ∷ v "b" ∷ []) no_arm) end) (m 0 ∷ []))
  two_matches_bind_one_name : Unscoped list_i (given 0 (binding (mname 0 ∷ []) (gives (v "a") no_arm) (on_i (gives (v "b") no_arm))) (m 0 ∷ []))
  match_binds_a_name_of_its_arm : Unscoped list_i (given 0 (on_i (arm (on_i (gives (v "a") no_arm)) (m 0 ∷ []) no_arm)) (m 0 ∷ []))
  input_bound_by_match_and_used_before :
      Unscoped list_i (given 1 (lets 0 (v "a") (binding (input (bytes "a") ∷ []) (gives (v "b") no_arm) end)) (x 0 ∷ []))
  match_name_never_bound : Unscoped list_i (given 0 (on_i (gives (v "a") (gives (v "b") no_arm))) (m 1 ∷ []))
  -- values
  arms_swapped : values_kept list_i swapped_i → ⊥
  -- repeats: a copier that binds nothing, one that binds once and returns, and one that leaves sin(__x0), which depends by its name alone. Each cost is 1.
  copied : no_repeats list1 (given 0 end list1) → ⊥
  bound_once_only : no_repeats list2 (given 1 (lets 0 (v "c" ⊕ v "d") end) (sin (v "a" ⊕ v "b") ∷ cos (v "a" ⊕ v "b") ∷ sin (x 0) ∷ cos (x 0) ∷ [])) → ⊥
  repeated_by_name : no_repeats list1 (given 1 (lets 0 (v "a" ⊕ v "b") end) (sin (x 0) ⊗ v "c" ∷ sin (x 0) ∷ [])) → ⊥
  -- a repeat is one wherever the two stand: one in a result and one in a binding, or both in bindings
  repeated_in_result_and_binding : no_repeats list1 (given 1 (lets 0 (v "a" ⊕ v "b") end) (x 0 ⊗ v "c" ∷ sin (v "a" ⊕ v "b") ∷ [])) → ⊥
  repeated_in_bindings : no_repeats list1 (given 2 (lets 0 ((v "a" ⊕ v "b") ⊗ v "c") (lets 1 (sin (v "a" ⊕ v "b")) end)) (x 0 ∷ x 1 ∷ [])) → ⊥
  -- repeats hidden in a match
  repeated_in_match : flat_shaped (given 0 (on_i (gives (v "a" ⊕ v "b") (gives (v "a" ⊕ v "b") no_arm))) (m 0 ∷ [])) → ⊥
  -- M1 answered rightly, but for the count
  count_too_high : counted (right1 2) → ⊥
  count_too_low : flat_shaped (right1 0) → ⊥
  -- a + b bound where it stands once: with no count in the sum it would be met
  bound_for_nothing : count_bounded (sin (v "a" ⊕ v "b") ∷ []) (given 1 (lets 0 (v "a" ⊕ v "b") end) (sin (x 0) ∷ [])) → ⊥
  -- one operation too many
  one_too_many : count_bounded list1 (given 1 (lets 0 (v "a" ⊕ v "b") end) (x 0 ⊗ v "c" ∷ sin (num 1 ⊗ x 0) ∷ [])) → ⊥

pub wrong_answers : WrongAnswers
unfolding well_scoped answer_values values set no_repeats extracted_exprs all_operations
wrong_answers =
    record {
      bound_twice = tt;
      bound_in_two_arms = tt;
      used_where_bound = tt;
      used_before = tt;
      never_bound = tt;
      input_bound_and_used_before = tt;
      used_in_next_arm = tt;
      used_after_match = tt;
      own_name_in_arm = tt;
      own_name_in_key = tt;
      one_match_binds_twice = tt;
      two_matches_bind_one_name = tt;
      match_binds_a_name_of_its_arm = tt;
      input_bound_by_match_and_used_before = tt;
      match_name_never_bound = tt;
      arms_swapped = λ h. (let q : ◌≡◌ {A = ℕ} 2 1 = ap (λ (l : List ℕ). get_or l 0 0) (h by_5 (i_is 0)) in omega arith);
      copied = λ h. (let q = h (v "a" ⊕ v "b") tt tt in omega arith);
      bound_once_only = λ h. (let q = h (v "a" ⊕ v "b") tt tt in omega arith);
      repeated_by_name = λ h. (let q = h (sin (x 0)) tt tt in omega arith);
      repeated_in_result_and_binding = λ h. (let q = h (v "a" ⊕ v "b") tt tt in omega arith);
      repeated_in_bindings = λ h. (let q = h (v "a" ⊕ v "b") tt tt in omega arith);
      repeated_in_match = λ h. h.0;
      count_too_high = λ h. omega arith;
      count_too_low = λ h. (let q = ap kind_of (h.0 (omega arith)).1 in omega arith);
      bound_for_nothing = λ h. omega arith;
      one_too_many = λ h. omega arith;
    }

-- ---- let through

pub record RightAnswers : Type 0 where
  names : T (well_scoped list1 (right1 1)) × T (well_scoped list_i right_i)
  -- an index past the last arm gives 0
  arm_picked : answer_values by_5 (i_is 1) right_i ≡ values by_5 (i_is 1) list_i
  no_arm_picked : answer_values by_5 (i_is 3) right_i ≡ values by_5 (i_is 3) list_i
  arm_with_let : answer_values by_5 (i_is 0) (given 0 (on_i (arm (lets 1 (v "a" ⊕ v "b") end) (x 1 ∷ []) no_arm)) (m 0 ∷ [])) ≡ values by_5 (i_is 0) (Op Select (v "i" ◂ (v "a" ⊕ v "b") ◂ nil) ∷ [])
  -- 1 + 2 may stand twice, as in M7
  constants_alone : T (not (depends (λ n. true) (num 1 ⊕ num 2)))
  -- and a symbol too, which is no operation
  leaves_alone : no_repeats twice_a (given 0 end twice_a)
  shapes : flat_shaped (right1 1) × flat_shaped right5
  counts : counted (right1 1) × counted right5
  operations : count_bounded list1 (right1 1) × count_bounded list5 right5
  -- a match comes after what its key reads
  match_after_its_key : topo_sort_intermediates (let_x0 ∷ on_x0 ∷ []) ≡ ok (let_x0 ∷ on_x0 ∷ [])
  -- and each of its members has a name of its own
  members_named : member_names 3 (switch_i ∷ switch_i ∷ []) ≡ mname 3 ∷ mname 4 ∷ []

leaf_twice : no_repeats twice_a (given 0 end twice_a)
unfolding no_repeats
leaf_twice (Sym n) h d = absurd h
leaf_twice (Const c) h d = absurd h
leaf_twice (Op k f) h d = omega arith

pub right_answers : RightAnswers
unfolding well_scoped answer_values values set depends bound_exprs extracted_exprs all_operations topo_sort_intermediates member_names
right_answers =
    record {
      names = (tt, tt);
      arm_picked = refl;
      no_arm_picked = refl;
      arm_with_let = refl;
      constants_alone = tt;
      leaves_alone = leaf_twice;
      shapes = (((λ h. absurd (omega arith)), tt), ((λ h. (num 2, refl)), tt));
      counts = (refl, refl);
      operations = ((omega arith), (omega arith));
      match_after_its_key = refl;
      members_named = refl;
    }
