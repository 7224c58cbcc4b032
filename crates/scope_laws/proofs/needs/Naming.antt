-- A word names the position of a statement where it is the word of one of the names that the statement binds (01, "Order"): of a let's `__xN`, of a match's `__mN`.
-- Assumes nothing.
use Prim.Native.Nat.{ℕ, zero, suc, ◌+◌, ◌-◌, ◌*◌, ◌/◌, ◌%◌, ◌<◌}
use native.Mathlib.Omega.{arith}
use mathlib.Core.Path.{◌≡◌, refl, sym, ◌∙◌, ap, ap₂}
use mathlib.Core.Bool.{Bool, true, false, ◌&&◌, cond}
use mathlib.Core.Option.{none, some}
use mathlib.Core.List.{List, [], ◌∷◌}
use borrow.Author.Tests.{eqb-true, eqb-false, eq-eqb, ne_eqb, ltb-true, lt-ltb, leb-true, le-leb}
use lib.Dec.{eqb, leb, ltb}
use lib.ListN.{length}
use Rattle.spec_tree.specs.Tree.{Name, input, xname, mname, eq_name}
use Rattle.spec_tree.specs.Tokens.{word, name_code, kind_of}
use Rattle.spec_cse.specs.Answer.{elem}
use Rattle.spec_cse.specs.Scope.{members}
use Rattle.topo_sort.proofs.reads.NameLaws.{elem_one}
use Rattle.fusion.specs.Settled.{Numbered}
use Rattle.fusion.specs.Words.{all_numbers}
use Rattle.fusion.specs.place.Parts.{ends_from}
use Rattle.fusion.specs.place.Reads.{place_of, group_of}
use Rattle.scope_laws.proofs.needs.Marks.{hit, position, names_place}
use Rattle.scope_laws.proofs.needs.Positions.{Ascending, Counted, group_names, found, not_member_x, not_member_input}
use Rattle.spec_tree.proofs.Logic.{and_second}

no_input : (s : List ℕ) (ls : List Numbered) (j : ℕ) → elem (input s) (group_names ls j) ≡ false
no_input s [] j = (unfold elem in refl)
no_input s (g ∷ l) zero = not_member_input g.start s (members g.group)
no_input s (g ∷ l) (suc j) = no_input s l j

no_x : (i : ℕ) (ls : List Numbered) (j : ℕ) → elem (xname i) (group_names ls j) ≡ false
no_x i [] j = (unfold elem in refl)
no_x i (g ∷ l) zero = not_member_x g.start i (members g.group)
no_x i (g ∷ l) (suc j) = no_x i l j

-- a test and its answer's number
picked : (b : Bool) (x q : ℕ) → hit (cond b (some x) none) q ≡ (b && eqb x q)
picked true x q = refl
picked false x q = refl

both_true : (a b : Bool) → a ≡ true → b ≡ true → (a && b) ≡ true
both_true true b e f = f
both_true false b e f = e

and_right_false : (a b : Bool) → (a ≡ true → b ≡ false) → (a && b) ≡ false
and_right_false true b f = f refl
and_right_false false b f = refl

true_left : (a b : Bool) → (a && b) ≡ true → a ≡ true
true_left true b e = refl
true_left false b e = e

module _ (first lets : ℕ) (numbers ends : List ℕ) where
  abbrev ours : ℕ → Bool
  ours i = leb first i && ltb i (first + lets)

  abbrev theirs : ℕ → Bool
  theirs i = ltb (place_of i 0 numbers) (length numbers)

  abbrev group : ℕ → ℕ
  group i = group_of (place_of i 0 numbers) 0 ends

  -- ---- by the class of a word

  by_class :
      (w q : ℕ) (a b : Bool) → eqb (w % 192) 64 ≡ a → eqb (w % 192) 128 ≡ b
      → names_place first lets numbers ends q w
      ≡ hit (cond (a && ours (w / 192)) (some (w / 192 - first)) (cond (b && theirs (w / 192)) (some (lets + group (w / 192))) none)) q
  unfolding names_place position
  by_class w q a b e f =
      ap₂ (λ (x y : Bool). hit (cond (x && ours (w / 192)) (some (w / 192 - first)) (cond (y && theirs (w / 192)) (some (lets + group (w / 192))) none)) q) e f

  no_class : (w q : ℕ) → (w % 192 ≡ 64 → ⊥) → (w % 192 ≡ 128 → ⊥) → names_place first lets numbers ends q w ≡ false
  no_class w q e f = by_class w q false false (ne_eqb (w % 192) 64 e) (ne_eqb (w % 192) 128 f)

  x_class : (w i q : ℕ) → w ≡ 64 * (1 + 3 * i) → names_place first lets numbers ends q w ≡ (ours i && eqb (i - first) q)
  x_class w i q e =
      let z : w % 192 ≡ 64 = omega arith in
      let d : w / 192 ≡ i = omega arith in
      by_class w q true false (eq-eqb (w % 192) 64 z) (ne_eqb (w % 192) 128 (λ x. omega arith))
      ∙ (ap (λ (i : ℕ). hit (cond (ours i) (some (i - first)) none) q) d ∙ picked (ours i) (i - first) q)

  m_class : (w i q : ℕ) → w ≡ 64 * (2 + 3 * i) → names_place first lets numbers ends q w ≡ (theirs i && eqb (lets + group i) q)
  m_class w i q e =
      let z : w % 192 ≡ 128 = omega arith in
      let d : w / 192 ≡ i = omega arith in
      by_class w q false true (ne_eqb (w % 192) 64 (λ x. omega arith)) (eq-eqb (w % 192) 128 z)
      ∙ (ap (λ (i : ℕ). hit (cond (theirs i) (some (lets + group i)) none) q) d ∙ picked (theirs i) (lets + group i) q)

  -- a word of another kind names nothing
  pub names_none : (q w : ℕ) → 0 < kind_of w → names_place first lets numbers ends q w ≡ false
  names_none q w h = no_class w q (λ e. omega arith) (λ e. omega arith)

  -- ---- a let

  let_test : (i q : ℕ) → q < lets → (ours i && eqb (i - first) q) ≡ eqb (first + q) i
  let_test i q h = go (eqb (first + q) i) refl
    where
      go : (b : Bool) → eqb (first + q) i ≡ b → (ours i && eqb (i - first) q) ≡ eqb (first + q) i
      go true e =
          let z : first + q ≡ i = eqb-true (first + q) i e in
          both_true (ours i) (eqb (i - first) q) (both_true (leb first i) (ltb i (first + lets)) (le-leb first i (omega arith)) (lt-ltb i (first + lets) (omega arith))) (eq-eqb (i - first) q (omega arith))
          ∙ sym e
      go false e =
          and_right_false (ours i) (eqb (i - first) q)
          (λ o. let a = leb-true first i (true_left (leb first i) (ltb i (first + lets)) o) in
          let n = eqb-false (first + q) i e in
          ne_eqb (i - first) q (λ x. n (omega arith)))
          ∙ sym e

  pub names_let : (number : List ℕ → ℕ) (n : Name) (q : ℕ) → q < lets → names_place first lets numbers ends q (word 0 (name_code number n)) ≡ elem n (xname (first + q) ∷ [])
  unfolding name_code eq_name
  names_let number (input s) q h = no_class (word 0 (3 * number s)) q (λ e. omega arith) (λ e. omega arith) ∙ sym (elem_one (input s) (xname (first + q)))
  names_let number (xname i) q h = x_class (word 0 (1 + 3 * i)) i q (omega arith) ∙ (let_test i q h ∙ sym (elem_one (xname i) (xname (first + q))))
  names_let number (mname i) q h =
      m_class (word 0 (2 + 3 * i)) i q (omega arith)
      ∙ (and_right_false (theirs i) (eqb (lets + group i) q) (λ t. ne_eqb (lets + group i) q (λ e. omega arith)) ∙ sym (elem_one (mname i) (xname (first + q))))

-- ---- a match

module _ (first lets low : ℕ) (ls : List Numbered) (pss : List (List ℕ)) (ascending : Ascending low ls) (counted : Counted ls pss) where
  match_test :
      (i j : ℕ) → j < length ls
      → (theirs first lets (all_numbers ls) (ends_from 0 pss) i && eqb (lets + group first lets (all_numbers ls) (ends_from 0 pss) i) (lets + j)) ≡ elem (mname i) (group_names ls j)
  match_test i j h =
      ap (λ (b : Bool). theirs first lets (all_numbers ls) (ends_from 0 pss) i && b) (past (group first lets (all_numbers ls) (ends_from 0 pss) i) (eqb (group first lets (all_numbers ls) (ends_from 0 pss) i) j) refl)
      ∙ (shifted ∙ found i low 0 0 ls pss ascending counted j h)
    where
      past : (x : ℕ) (b : Bool) → eqb x j ≡ b → eqb (lets + x) (lets + j) ≡ eqb x j
      past x true e = eq-eqb (lets + x) (lets + j) (let z = eqb-true x j e in omega arith) ∙ sym e
      past x false e = ne_eqb (lets + x) (lets + j) (λ z. eqb-false x j e (omega arith)) ∙ sym e

      shifted :
          (ltb (place_of i 0 (all_numbers ls)) (length (all_numbers ls)) && eqb (group_of (place_of i 0 (all_numbers ls)) 0 (ends_from 0 pss)) j)
          ≡ (ltb (place_of i 0 (all_numbers ls)) (0 + length (all_numbers ls)) && eqb (group_of (place_of i 0 (all_numbers ls)) 0 (ends_from 0 pss)) (0 + j))
      shifted =
          let a : length (all_numbers ls) ≡ 0 + length (all_numbers ls) = omega arith in
          let b : j ≡ 0 + j = omega arith in
          ap₂ (λ (x y : ℕ). ltb (place_of i 0 (all_numbers ls)) x && eqb (group_of (place_of i 0 (all_numbers ls)) 0 (ends_from 0 pss)) y) a b

  pub names_match :
      (number : List ℕ → ℕ) (n : Name) (j : ℕ) → j < length ls
      → names_place first lets (all_numbers ls) (ends_from 0 pss) (lets + j) (word 0 (name_code number n)) ≡ elem n (group_names ls j)
  unfolding name_code
  names_match number (input s) j h = no_class first lets (all_numbers ls) (ends_from 0 pss) (word 0 (3 * number s)) (lets + j) (λ e. omega arith) (λ e. omega arith) ∙ sym (no_input s ls j)
  names_match number (xname i) j h =
      x_class first lets (all_numbers ls) (ends_from 0 pss) (word 0 (1 + 3 * i)) i (lets + j) (omega arith)
      ∙ (and_right_false (ours first lets (all_numbers ls) (ends_from 0 pss) i) (eqb (i - first) (lets + j))
      (λ o.
      let a = leb-true first i (true_left (leb first i) (ltb i (first + lets)) o) in
      let b = ltb-true i (first + lets) (and_second (leb first i) (ltb i (first + lets)) o) in
      ne_eqb (i - first) (lets + j) (λ e. omega arith))
      ∙ sym (no_x i ls j))
  names_match number (mname i) j h = m_class first lets (all_numbers ls) (ends_from 0 pss) (word 0 (2 + 3 * i)) i (lets + j) (omega arith) ∙ match_test i j h
