-- The tests that the code makes of a row's 35 words are those of the layout: the words are the row's that they are read as, and that row is one that load
-- lays out. Assumes nothing.
use Prim.Native.Nat.{ℕ, zero, suc, ◌+◌, ◌-◌, ◌≤◌, ◌<◌, ◌^◌}
use mathlib.Core.Path.{◌≡◌, refl, sym, ◌∙◌, ap, ap₂, subst}
use mathlib.Core.Bool.{Bool, true, false, ◌&&◌, cond}
use mathlib.Core.Logic.{◌⊎◌, inl, inr, ⊎_elim}
use mathlib.Core.List.{List, [], ◌∷◌, ◌++◌}
use native.Mathlib.Omega.{arith}
use borrow.Author.Tests.{le-leb, eq-eqb, ne_eqb}
use lib.IntN.{ℤ, pos, negsuc}
use lib.Dec.{T, eqb, leb, ltb, eqb→eq, leb→le, le→leb, ltb→lt, lt→ltb}
use lib.ListN.{length, get_or, take, drop, replicate, length-append, length-take, length-drop, length-replicate, take-append-drop, get_or-eq_default}
use lib.Seq.{take_at, drop_at}
use Rattle.spec_tree.specs.Bytes.{eq_bytes, every}
use Rattle.spec_tree.specs.Kinds.{Kind, kinds, kind_at, arity_ok, Neg, Select, SelectOr}
use Rattle.spec_tree.specs.Symbol.{is_name}
use Rattle.spec_tree.specs.Rows.{Row, row_sym, row_const, row_op}
use Rattle.spec_tree.specs.Passes.{of_paper, operands_ok}
use Rattle.spec_tree.specs.Layout.{row_kind, row_default, row_fields, row_words, signed, row_by, row_of, row_ok}
use Rattle.spec_tree.proofs.Logic.{and_left, and_right, and_both, same_test}
use Rattle.spec_tree.proofs.TreeLaws.{eq_bytes_sound, eq_bytes_refl}
use Rattle.spec_tree.proofs.LayoutLaws.{row_number}
use Rattle.node_rows.specs.kinds.Numbers.{kind_number}
use Rattle.node_rows.specs.fields.Below.{below}
use Rattle.node_rows.specs.fields.Constant.{constant_test}
use Rattle.node_rows.specs.fields.Tests.{operation_test, plain_test, fields_test}
use Rattle.node_rows.specs.rows.Check.{row_test}
use Rattle.node_rows.proofs.rows.RowTrees.{flag_cases}

-- ---- the words past the fields are 0

below_zeros : (m : ℕ) → T (below 1 (replicate m 0))
unfolding every
below_zeros zero = tt
below_zeros (suc m) = below_zeros m

zeros_below : (l : List ℕ) → T (below 1 l) → l ≡ replicate (length l) 0
unfolding every
zeros_below [] t = refl
zeros_below (k ∷ l) t = ap₂ ◌∷◌ (let q = ltb→lt k 1 (and_left (ltb k 1) (below 1 l) t) in omega arith) (zeros_below l (and_right (ltb k 1) (below 1 l) t))

module _ (n : ℕ) (rest : List ℕ) (long : length rest ≡ 32) where
  record Padded (f : List ℕ) : Type 0 where
    few : n ≤ 32
    front : take n rest ≡ f
    zeros : T (below 1 (drop n rest))

  padded : (f : List ℕ) → length f ≡ n → f ++ replicate (32 - length f) 0 ≡ rest → Padded f
  padded f e p =
      let l : length f + (32 - length f) ≡ 32 = sym (length-append f (replicate (32 - length f) 0) ∙ ap (λ (m : ℕ). length f + m) (length-replicate (32 - length f) 0)) ∙ ap length p ∙ long in
      record {
        few = omega arith;
        front = subst (λ (r : List ℕ). take n r ≡ f) p (take_at f (replicate (32 - length f) 0) n e);
        zeros = subst (λ (r : List ℕ). T (below 1 (drop n r))) p (subst (λ (r : List ℕ). T (below 1 r)) (sym (drop_at f (replicate (32 - length f) 0) n e)) (below_zeros (32 - length f)));
      }

  front_long : n ≤ 32 → length (take n rest) ≡ n
  front_long h = length-take n rest ∙ (omega arith)

  filled_up : n ≤ 32 → T (below 1 (drop n rest)) → take n rest ++ replicate (32 - length (take n rest)) 0 ≡ rest
  filled_up h z =
      let e : length (drop n rest) ≡ 32 - length (take n rest) = (let a = length-drop n rest in let b = front_long h in omega arith) in
      ap (λ (r : List ℕ). take n rest ++ r) (sym (zeros_below (drop n rest) z ∙ ap (λ (m : ℕ). replicate m 0) e)) ∙ take-append-drop n rest

-- ---- constants

constant_passes : (c : ℤ) (f : List ℕ) → f ≡ row_fields (row_const c) → T (of_paper c) → T (constant_test f)
unfolding row_fields of_paper constant_test
constant_passes (pos v) f e t = subst (λ (l : List ℕ). T (constant_test l)) (sym e) (and_both (ltb v (10 ^ 15)) true t tt)
constant_passes (negsuc v) f e t =
    subst (λ (l : List ℕ). T (constant_test l)) (sym e) (and_both (ltb (suc v) (10 ^ 15)) (ltb 0 (suc v)) t (lt→ltb 0 (suc v) (omega arith)))

record Constant (f : List ℕ) : Type 0 where
  fields : row_fields (row_const (signed (get_or f 0 0) (get_or f 1 0))) ≡ f
  paper : T (of_paper (signed (get_or f 0 0) (get_or f 1 0)))

signed_minus : (s v : ℕ) → signed (suc s) (suc v) ≡ negsuc v
unfolding signed
signed_minus s v = rw (ne_eqb (suc s) 0 (λ e. omega arith))

two_fields : (s v : ℕ) → T (ltb v (10 ^ 15)) → T (cond (eqb s 0) true (eqb s 1 && ltb 0 v)) → Constant (s ∷ v ∷ [])
unfolding row_fields of_paper signed
two_fields zero v h t = record { fields = refl; paper = h }
two_fields (suc s) zero h t = absurd (ltb_none (and_right (eqb (suc s) 1) (ltb 0 0) (subst (λ (b : Bool). T (cond b true (eqb (suc s) 1 && ltb 0 0))) (ne_eqb (suc s) 0 (λ e. omega arith)) t)))
  where
    ltb_none : T (ltb 0 0) → ⊥
    ltb_none z = z
two_fields (suc s) (suc v) h t =
    let n : eqb (suc s) 0 ≡ false = ne_eqb (suc s) 0 (λ e. omega arith) in
    let one : suc s ≡ 1 = eqb→eq (suc s) 1 (and_left (eqb (suc s) 1) (ltb 0 (suc v)) (subst (λ (b : Bool). T (cond b true (eqb (suc s) 1 && ltb 0 (suc v)))) n t)) in
    let c : signed (suc s) (suc v) ≡ negsuc v = signed_minus s v in
    record {
      fields = subst (λ (c : ℤ). row_fields (row_const c) ≡ suc s ∷ suc v ∷ []) (sym c) (ap (λ (a : ℕ). a ∷ suc v ∷ []) (sym one));
      paper = subst (λ (c : ℤ). T (of_paper c)) (sym c) h;
    }

constant_back : (f : List ℕ) → T (constant_test f) → Constant f
unfolding constant_test
constant_back [] t = absurd t
constant_back (s ∷ []) t = absurd t
constant_back (s ∷ (v ∷ [])) t =
    two_fields s v (and_left (ltb v (10 ^ 15)) (cond (eqb s 0) true (eqb s 1 && ltb 0 v)) t) (and_right (ltb v (10 ^ 15)) (cond (eqb s 0) true (eqb s 1 && ltb 0 v)) t)
constant_back (s ∷ (v ∷ (u ∷ f))) t =
    absurd (none (eqb→eq (suc (suc (suc (length f)))) 2 (and_left (eqb (suc (suc (suc (length f)))) 2) (ltb v (10 ^ 15) && cond (eqb s 0) true (eqb s 1 && ltb 0 v)) t)))
  where
    none : suc (suc (suc (length f))) ≡ 2 → ⊥
    none e = omega arith

-- ---- operations

-- but for SelectOr, which no kind word says, the number of a kind without a default is the kind
plain_number : (k : ℕ) → (k ≡ SelectOr → ⊥) → kind_at (kind_number k false) ≡ kind_at k
unfolding kind_at kinds
plain_number k h = go (eqb k Select) (eqb→eq k Select) (ltb Select k) (ltb→lt Select k)
  where
    past : Select < k → kind_at 29 ≡ kind_at k
    past l = sym (get_or-eq_default kinds (kind_at 29) {n = k} (let q : 29 ≤ k = omega arith in q))

    go : (b : Bool) → (T b → k ≡ Select) → (c : Bool) → (T c → Select < k) → kind_at (cond b (cond false SelectOr Select) (cond c 29 k)) ≡ kind_at k
    go true e c l = ap kind_at (sym (e tt))
    go false e true l = past (l tt)
    go false e false l = refl

abbrev fits : Kind → ℕ → Bool
fits K n = leb K.fewest n && leb n K.most

operation_by : (k : ℕ) (default : Bool) (f : List ℕ) (i : ℕ) → operation_test k default f i ≡ (fits (kind_at (kind_number k default)) (length f) && below i f)
unfolding operation_test
operation_by k default f i = regroup (leb (kind_at (kind_number k default)).fewest (length f)) (leb (length f) (kind_at (kind_number k default)).most) (below i f)
  where
    regroup : (a b c : Bool) → (a && (b && c)) ≡ ((a && b) && c)
    regroup true b c = refl
    regroup false b c = refl

-- an operation's row passes exactly where its test does
row_op_ok : (i k : ℕ) (f : List ℕ) → 2 ≤ k → row_ok i (row_op k f) ≡ (fits (kind_at k) (length f) && below i f)
unfolding row_ok operands_ok arity_ok
row_op_ok i k f h = rw (le-leb Neg k h)

select_or : (i : ℕ) (f : List ℕ) → row_ok i (row_op SelectOr f) ≡ operation_test Select true f i
select_or i f = row_op_ok i SelectOr f (omega arith) ∙ sym (operation_by Select true f i)

plain_op : (i k : ℕ) (f : List ℕ) → 2 ≤ k → (k ≡ SelectOr → ⊥) → row_ok i (row_op k f) ≡ operation_test k false f i
plain_op i k f h n = row_op_ok i k f h ∙ ap (λ (K : Kind). fits K (length f) && below i f) (sym (plain_number k n)) ∙ sym (operation_by k false f i)

-- the number of a Select with a default is no kind word's
no_such_kind : (f : List ℕ) (i : ℕ) → T (operation_test SelectOr false f i) → ⊥
unfolding operation_test kind_at
no_such_kind f i t =
    let a = leb→le 1 (length f) (and_left (leb 1 (length f)) (leb (length f) 0 && below i f) t) in
    let b = leb→le (length f) 0 (and_left (leb (length f) 0) (below i f) (and_right (leb 1 (length f)) (leb (length f) 0 && below i f) t)) in
    omega arith

plain_op_test : (k : ℕ) (f : List ℕ) (i : ℕ) → 2 ≤ k → plain_test k f i ≡ operation_test k false f i
unfolding plain_test
plain_op_test k f i h = let a : (k ≡ 0) → ⊥ = λ e. omega arith in let b : (k ≡ 1) → ⊥ = λ e. omega arith in rw (ne_eqb k 0 a, ne_eqb k 1 b)

name_fields : (f : List ℕ) (i : ℕ) → T (is_name f) → T (fields_test 0 0 f i)
unfolding fields_test plain_test
name_fields f i t = t

constant_fields : (f : List ℕ) (i : ℕ) → T (constant_test f) → T (fields_test 1 0 f i)
unfolding fields_test plain_test
constant_fields f i t = t

-- ---- a row's words, both ways

module _ (i k d n : ℕ) (rest : List ℕ) (long : length rest ≡ 32) where
  abbrev words : List ℕ
  words = k ∷ d ∷ n ∷ rest

  abbrev fields : List ℕ
  fields = take n rest

  -- what the layout's tests of the row r say of the words
  record Parts (r : Row) : Type 0 where
    kind : row_kind r ≡ k
    default : row_default r ≡ d
    padding : Padded n rest long (row_fields r)

  parts : (r : Row) → T (eq_bytes (row_words r) words) → Parts r
  unfolding row_words
  parts r t =
      let e : (row_kind r ∷ row_default r ∷ length (row_fields r) ∷ (row_fields r ++ replicate (32 - length (row_fields r)) 0)) ≡ words = eq_bytes_sound (row_words r) words t in
      record { kind = cc; default = cc; padding = padded n rest long (row_fields r) (cc) (cc) }

  whole : (r : Row) → row_kind r ≡ k → row_default r ≡ d → row_fields r ≡ fields → n ≤ 32 → T (below 1 (drop n rest)) → T (eq_bytes (row_words r) words)
  unfolding row_words
  whole r a b c h z =
      let p : row_words r ≡ words =
      ap₂ ◌∷◌ a (ap₂ ◌∷◌ b (rw c (ap₂ ◌∷◌ (front_long n rest long h) (filled_up n rest long h z)))) in
      subst (λ (l : List ℕ). T (eq_bytes l words)) (sym p) (eq_bytes_refl words)

  -- ---- from the layout's tests to the code's

  op_there : (m : ℕ) → 2 ≤ m → Parts (row_op m fields) → T (row_ok i (row_op m fields)) → T (fields_test k d fields i)
  unfolding fields_test row_kind row_default
  op_there m h P t = go (eqb m SelectOr) (eqb→eq m SelectOr) (λ e. eq-eqb m SelectOr e) P.kind P.default
    where
      plain : m ≡ k → 0 ≡ d → (m ≡ SelectOr → ⊥) → T (fields_test k d fields i)
      plain a b n =
          subst (λ (x : ℕ). T (fields_test x d fields i)) a
          (subst (λ (x : ℕ). T (fields_test m x fields i)) b (subst T (sym (plain_op_test m fields i h)) (subst T (plain_op i m fields h n) t)))

      select : m ≡ SelectOr → Select ≡ k → 1 ≡ d → T (fields_test k d fields i)
      select e a b =
          subst (λ (x : ℕ). T (fields_test x d fields i)) a
          (subst (λ (x : ℕ). T (fields_test Select x fields i)) b (subst T (select_or i fields) (subst (λ (x : ℕ). T (row_ok i (row_op x fields))) e t)))

      go : (b : Bool) → (T b → m ≡ SelectOr) → (m ≡ SelectOr → b ≡ true) → cond b Select m ≡ k → cond b 1 0 ≡ d → T (fields_test k d fields i)
      go true e g a b = select (e tt) a b
      go false e g a b = plain a b (λ q. let z : ◌≡◌ {A = Bool} false true = g q in absurd (subst T (sym z) tt))

  there : (m : ℕ) → T (eq_bytes (row_words (row_by m fields)) words) → T (row_ok i (row_by m fields)) → T (fields_test k d fields i) × Padded n rest long (row_fields (row_by m fields))
  unfolding row_by row_kind row_default row_fields row_ok
  there zero t u =
      let P = parts (row_sym fields) t in
      (subst (λ (x : ℕ). T (fields_test x d fields i)) P.kind (subst (λ (x : ℕ). T (fields_test 0 x fields i)) P.default (name_fields fields i u)), P.padding)
  there (suc zero) t u =
      let c = signed (get_or fields 0 0) (get_or fields 1 0) in
      let P = parts (row_const c) t in
      let v = constant_passes c fields P.padding.front u in
      (subst (λ (x : ℕ). T (fields_test x d fields i)) P.kind (subst (λ (x : ℕ). T (fields_test 1 x fields i)) P.default (constant_fields fields i v)), P.padding)
  there (suc (suc m)) t u =
      let P = parts (row_op (suc (suc m)) fields) t in
      (op_there (suc (suc m)) (omega arith) P u, P.padding)

  -- ---- and back

  abbrev Fine : Row → Type 0
  Fine r = T (eq_bytes (row_words r) words) × T (row_ok i r)

  fine_at : (r : Row) → row_by (k + d) fields ≡ r → Fine r → Fine (row_by (k + d) fields)
  fine_at r e f = subst Fine (sym e) f

  back_again : n ≤ 32 → T (below 1 (drop n rest)) → T (fields_test k d fields i) → Fine (row_by (k + d) fields)
  unfolding row_by row_kind row_default row_fields
  back_again h z t = ⊎_elim (λ e. plain e.0 e.1) (λ e. select e.0 e.1.0 e.1.1) (flag_cases k d fields i t)
    where
      by : (m : ℕ) → k + d ≡ m → row_by (k + d) fields ≡ row_by m fields
      by m e = ap (λ (x : ℕ). row_by x fields) e

      select : d ≡ 1 → k ≡ Select → T (operation_test Select true fields i) → Fine (row_by (k + d) fields)
      select a b u =
          fine_at (row_op 28 fields) (by 28 (omega arith)) (whole (row_op 28 fields) (sym b) (sym a) refl h z, subst T (sym (select_or i fields)) u)

      name : d ≡ 0 → k ≡ 0 → T (plain_test k fields i) → Fine (row_by (k + d) fields)
      name a b u =
          fine_at (row_sym fields) (by 0 (omega arith)) (whole (row_sym fields) (sym b) (sym a) refl h z, (unfold row_ok plain_test in subst (λ (x : ℕ). T (plain_test x fields i)) b u))

      constant : d ≡ 0 → k ≡ 1 → T (plain_test k fields i) → Fine (row_by (k + d) fields)
      constant a b u =
          let v : T (constant_test fields) = (unfold plain_test in subst (λ (x : ℕ). T (plain_test x fields i)) b u) in
          let C = constant_back fields v in
          let c = signed (get_or fields 0 0) (get_or fields 1 0) in
          fine_at (row_const c) (by 1 (omega arith)) (whole (row_const c) (sym b) (sym a) C.fields h z, (unfold row_ok in C.paper))

      operation : d ≡ 0 → 2 ≤ k → T (plain_test k fields i) → Fine (row_by (k + d) fields)
      operation a b u =
          let v = subst T (plain_op_test k fields i b) u in
          let no : (k ≡ SelectOr) → ⊥ = λ e. no_such_kind fields i (subst (λ (x : ℕ). T (operation_test x false fields i)) e v) in
          let q = ne_eqb k SelectOr no in
          fine_at (row_op k fields) (by k (omega arith) ∙ row_number k fields b)
          (whole (row_op k fields) (ap (λ (c : Bool). cond c Select k) q) (ap (λ (c : Bool). cond c 1 0) q ∙ sym a) refl h z, subst T (sym (plain_op i k fields b no)) v)

      three : (m : ℕ) → (m ≡ 0) ⊎ ((m ≡ 1) ⊎ (2 ≤ m))
      three zero = inl refl
      three (suc zero) = inr (inl refl)
      three (suc (suc m)) = inr (inr (omega arith))

      plain : d ≡ 0 → T (plain_test k fields i) → Fine (row_by (k + d) fields)
      plain a u = ⊎_elim (λ e. name a e u) (⊎_elim (λ e. constant a e u) (λ e. operation a e u)) (three k)

  -- ---- the two tests as they compute

  abbrev matched : Bool
  matched = eq_bytes (row_words (row_by (k + d) fields)) words

  abbrev laid : Bool
  laid = row_ok i (row_by (k + d) fields)

  abbrev padding_test : Bool
  padding_test = below 1 (drop (3 + n) words)

  abbrev tested : Bool
  tested = fields_test k d fields i

  skip : drop (3 + n) words ≡ drop n rest
  skip = ap (λ (m : ℕ). drop m words) (let q : 3 + n ≡ suc (suc (suc n)) = omega arith in q)

  to : T (matched && laid) → T (leb n 32 && (padding_test && tested))
  to t =
      let p = there (k + d) (and_left matched laid t) (and_right matched laid t) in
      and_both (leb n 32) (padding_test && tested) (le→leb n 32 p.1.few)
      (and_both padding_test tested (subst (λ (l : List ℕ). T (below 1 l)) (sym skip) p.1.zeros) p.0)

  from : T (leb n 32 && (padding_test && tested)) → T (matched && laid)
  from t =
      let u = and_right (leb n 32) (padding_test && tested) t in
      let f = back_again (leb→le n 32 (and_left (leb n 32) (padding_test && tested) t)) (subst (λ (l : List ℕ). T (below 1 l)) skip (and_left padding_test tested u))
      (and_right padding_test tested u) in
      and_both matched laid f.0 f.1

  same : (matched && laid) ≡ (leb n 32 && (padding_test && tested))
  same = same_test (matched && laid) (leb n 32 && (padding_test && tested)) to from

-- the layout's tests of a row's words
unfoldable pub row_fine : ℕ → List ℕ → Bool
unfolding eq_bytes row_words row_of row_ok
row_fine i w = eq_bytes (row_words (row_of w)) w && row_ok i (row_of w)

pub row_fine_is : (i : ℕ) (w : List ℕ) → length w ≡ 35 → row_fine i w ≡ row_test i w
unfolding row_fine row_of row_test
row_fine_is i [] l = absurd (omega arith)
row_fine_is i (k ∷ []) l = absurd (omega arith)
row_fine_is i (k ∷ (d ∷ [])) l = absurd (omega arith)
row_fine_is i (k ∷ (d ∷ (n ∷ rest))) l = same i k d n rest (omega arith)
