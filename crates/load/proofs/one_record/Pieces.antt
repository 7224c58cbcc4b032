-- The small pieces: fields counted by their commas, a row cleared, its first three words, and the counts of operands. Assumes nothing.
use Prim.Native.Nat.{ℕ, zero, suc, ◌+◌, ◌≤◌, ◌<◌}
use mathlib.Core.Path.{◌≡◌, refl, sym, ◌∙◌, ap, subst}
use mathlib.Core.Bool.{Bool, true, false, ◌&&◌, ◌||◌, cond}
use mathlib.Core.List.{List, [], ◌∷◌, ◌++◌, reverse}
use native.Mathlib.Omega.{arith}
use borrow.Author.Tests.{eqb-true, leb-false, ltb-true, ltb-false, lt-leb, le-leb, eq-eqb, ne_eqb, lt-ltb, le-ltb}
use Rattle.std.specs.List.{count_by}
use Rattle.std.proofs.lemmas.List.Recursion.{is_count_by}
use lib.Dec.{T, eqb, leb, ltb, leb→le, eqb→eq}
use lib.ListN.{length, replicate}
use Rattle.spec_tree.specs.Kinds.{Kind, kinds, kind_at, arity_ok, Select, SelectOr}
use Rattle.spec_tree.proofs.Logic.{and_left, and_right}
use Rattle.spec_tree.proofs.KindLaws.{kinds_long, arity_kind, arity_by}
use Rattle.spec_tree.proofs.Tests.{all_from, entry_at}
use Rattle.node_rows.specs.kinds.Numbers.{kind_number}
use Rattle.spec_sheet.specs.Sheet.{fields_from, Root, fields_ok}

-- ---- counting

pub fields_some : (got s : List ℕ) → 1 ≤ length (fields_from got s)
unfolding fields_from
fields_some got [] = omega arith
fields_some got (b ∷ l) = go (eqb b 44) (fields_some (b ∷ got) l)
  where
    go : (t : Bool) → 1 ≤ length (fields_from (b ∷ got) l) → 1 ≤ length {A = List ℕ} (elim t [ true ↦ reverse got ∷ fields_from [] l | false ↦ fields_from (b ∷ got) l ])
    go true h = omega arith
    go false h = h

abbrev comma : ℕ → Bool
comma b = eqb b 44

commas : List ℕ → ℕ
commas [] = 0
commas (b ∷ s) = cond (comma b) (1 + commas s) (commas s)

-- a field more than there are commas
fields_more : (got s : List ℕ) → length (fields_from got s) ≡ 1 + commas s
unfolding fields_from commas
fields_more got [] = refl
fields_more got (b ∷ s) = go (eqb b 44) (fields_more [] s) (fields_more (b ∷ got) s)
  where
    go : (t : Bool) → length (fields_from [] s) ≡ 1 + commas s → length (fields_from (b ∷ got) s) ≡ 1 + commas s
        → length {A = List ℕ} (elim t [ true ↦ reverse got ∷ fields_from [] s | false ↦ fields_from (b ∷ got) s ]) ≡ 1 + cond t (1 + commas s) (commas s)
    go true e f = omega arith
    go false e f = omega arith

pub fields_counted : (s : List ℕ) → 1 + count_by (λ b. eqb b 44) s ≡ length (fields_from [] s)
unfolding commas
fields_counted s = sym (fields_more [] s ∙ ap (λ (n : ℕ). 1 + n) (is_count_by commas comma refl (λ b l. refl) s))

-- ---- clearing

more_zeros : (i : ℕ) (l : List ℕ) → replicate i 0 ++ (0 ∷ l) ≡ replicate (suc i) 0 ++ l
more_zeros zero l = refl
more_zeros (suc i) l = ap (λ (m : List ℕ). 0 ∷ m) (more_zeros i l)

-- ---- the first three words

-- ---- counts of operands

pub ok_root : (k n : ℕ) → k ≡ Root → fields_ok k n ≡ eqb n 1
ok_root k n e = rw (eq-eqb k Root e)

pub ok_leaf : (k n : ℕ) → (k ≡ Root → ⊥) → k ≤ 1 → fields_ok k n ≡ eqb n 1
ok_leaf k n e h = rw (ne_eqb k Root e, le-leb k 1 h)

pub ok_default : (k n : ℕ) → k ≡ SelectOr → fields_ok k n ≡ arity_ok SelectOr n
ok_default k n e = rw e

-- past the table no count is right, whatever the number
no_arity : (k n : ℕ) → 29 ≤ k → arity_ok k n ≡ false
no_arity k n h = go (arity_ok k n) (λ t. arity_kind k n t)
  where
    go : (b : Bool) → (T b → k < 29) → b ≡ false
    go true f = let l = f tt in absurd (omega arith)
    go false f = refl

numbered : (k n : ℕ) → (k ≡ SelectOr → ⊥) → arity_ok (kind_number k false) n ≡ arity_ok k n
numbered k n e = go (ltb k 28) refl
  where
    within : k < 28 → arity_ok (kind_number k false) n ≡ arity_ok k n
    within l = select (eqb k Select) refl
      where
        select : (b : Bool) → eqb k Select ≡ b → arity_ok (cond b Select (cond (ltb Select k) 29 k)) n ≡ arity_ok k n
        select true q = ap (λ (m : ℕ). arity_ok m n) (sym (eqb-true k Select q))
        select false q = let g : k ≤ Select = omega arith in rw (le-ltb Select k g)

    past : 28 ≤ k → arity_ok (kind_number k false) n ≡ arity_ok k n
    past l =
        let a : 29 ≤ k = omega arith in
        let b : Select < k = omega arith in
        let d : (k ≡ Select → ⊥) = λ q. omega arith in
        rw (ne_eqb k Select d, lt-ltb Select k b, no_arity 29 n (omega arith), no_arity k n a)

    go : (b : Bool) → ltb k 28 ≡ b → arity_ok (kind_number k false) n ≡ arity_ok k n
    go true q = within (ltb-true k 28 q)
    go false q = past (ltb-false k 28 q)

pub ok_operation : (k n : ℕ) → (k ≡ Root → ⊥) → 1 < k → (k ≡ SelectOr → ⊥) → fields_ok k n ≡ arity_ok (kind_number k false) n
ok_operation k n r h e = rw (ne_eqb k Root r, lt-leb k 1 h) (sym (numbered k n e))

-- every kind with operands has at least one and at most 32
counts_small : ℕ → Kind → Bool
counts_small i k = leb i 1 || (leb 1 k.fewest && leb k.most 32)

small_kinds : T (all_from counts_small 0 kinds)
unfolding counts_small kinds
small_kinds = tt

pub operands_few : (k n : ℕ) → 1 < k → T (arity_ok k n) → (1 ≤ n) × (n ≤ 32)
unfolding counts_small
operands_few k n h t =
    let low = (kind_at k).fewest in
    let high = (kind_at k).most in
    let u = subst T (arity_by k n) t in
    let a = leb→le low n (and_left (leb low n) (leb n high) u) in
    let b = leb→le n high (and_right (leb low n) (leb n high) u) in
    let e = subst T (ap (λ (x : Bool). x || (leb 1 low && leb high 32)) (lt-leb k 1 h)) (at_kind (arity_kind k n t)) in
    let f = leb→le 1 low (and_left (leb 1 low) (leb high 32) e) in
    let g = leb→le high 32 (and_right (leb 1 low) (leb high 32) e) in
    (omega arith, omega arith)
  where
    at_kind : k < 29 → T (counts_small k (kind_at k))
    at_kind l = unfold kind_at in entry_at counts_small _ kinds small_kinds k (let q = kinds_long in omega arith)

-- so a right count is 1 to 32
pub right_count : (k n : ℕ) → T (fields_ok k n) → (1 ≤ n) × (n ≤ 32)
right_count k n = go (eqb k Root) (leb k 1) (λ e. leb-false k 1 e)
  where
    go : (r l : Bool) → (l ≡ false → 1 < k) → T (cond (r || l) (eqb n 1) (arity_ok k n)) → (1 ≤ n) × (n ≤ 32)
    go true l f t = let e = eqb→eq n 1 t in (omega arith, omega arith)
    go false true f t = let e = eqb→eq n 1 t in (omega arith, omega arith)
    go false false f t = operands_few k n (f refl) t

-- a count of fields by the kind
pub ruleset right_counts = (ok_root, ok_leaf, ok_default, ok_operation)
