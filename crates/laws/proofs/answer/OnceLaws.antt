-- Rows that bind are all different exactly where the names that an answer binds are (Seen). Rows have a match's names before its arms, and the list of bound names has
-- them after, so both are counted. Assumes nothing.
use Prim.Native.Nat.{ℕ, zero, suc, ◌+◌, ◌*◌, ◌/◌, ◌%◌, ◌≤◌, ◌<◌}
use native.Mathlib.Omega.{arith}
use mathlib.Core.Path.{◌≡◌, refl, sym, ◌∙◌, ap}
use mathlib.Core.Bool.{Bool, true, false, not, ◌&&◌, ◌||◌}
use mathlib.Core.List.{List, [], ◌∷◌, ◌++◌}
use borrow.Author.Tests.{eq-eqb, ne_eqb, eqb-true}
use lib.ListN.{length}
use lib.Dec.{T, eqb, leb, ltb, leb→le, ltb→lt}
use Rattle.spec_tree.specs.Tree.{Name, input, xname, mname, Tree, Forest, Sym, Const, Op, nil, ◌◂◌, operands, eq_name}
use Rattle.spec_tree.specs.Tokens.{word, constant_code, name_code, tokens, tokens_of, kind_of, below_of}
use Rattle.spec_tree.proofs.Logic.{and_left, and_right, and_both, not_so}
use Rattle.spec_tree.proofs.TreeLaws.{eq_name_sound, eq_name_refl}
use Rattle.spec_cse.specs.Answer.{Intermediate, Intermediates, Arms, Let, Match, end, step, no_arm, arm, elem}
use Rattle.spec_cse.specs.Read.{arm_count}
use Rattle.spec_cse.specs.Demand.{bound_stmt, bound_stmts, bound_arms, all_different}
use Rattle.spec_cse.specs.AnswerRows.{let_row, match_row, name_row, arm_row, value_row, step_count, names_words, each_words, intermediate_words, intermediates_words, arms_words, let_name, match_names}
use Rattle.laws.specs.answer.Fitting.{an_operation_kind, fitting, fitting_each, all_fitting, a_switch_kind, stmt_fitting, stmts_fitting, arms_fitting}
use Rattle.laws.specs.answer.Seen.{a_binding, occurs, once}
use Rattle.laws.proofs.answer.ListNames.{made_names}

-- ---- counts

flag : Bool → ℕ
flag true = 1
flag false = 0

occ : ℕ → List ℕ → ℕ
occ w [] = 0
occ w (v ∷ l) = flag (eqb v w) + occ w l

cnt : Name → List Name → ℕ
cnt x [] = 0
cnt x (n ∷ l) = flag (eq_name n x) + cnt x l

flag_yes : (b : Bool) → b ≡ true → flag b ≡ 1
unfolding flag
flag_yes b e = rw e

flag_no : (b : Bool) → b ≡ false → flag b ≡ 0
unfolding flag
flag_no b e = rw e

occ_cons : (w v : ℕ) (l : List ℕ) → occ w (v ∷ l) ≡ flag (eqb v w) + occ w l
unfolding occ
occ_cons w v l = refl

occ_nil : (w : ℕ) → occ w [] ≡ 0
unfolding occ
occ_nil w = refl

occ_both : (w : ℕ) (a b : List ℕ) → occ w (a ++ b) ≡ occ w a + occ w b
unfolding occ
occ_both w [] b = omega arith
occ_both w (v ∷ a) b = omega (arith, occ_both w a b)

cnt_cons : (x n : Name) (l : List Name) → cnt x (n ∷ l) ≡ flag (eq_name n x) + cnt x l
unfolding cnt
cnt_cons x n l = refl

cnt_nil : (x : Name) → cnt x [] ≡ 0
unfolding cnt
cnt_nil x = refl

cnt_both : (x : Name) (a b : List Name) → cnt x (a ++ b) ≡ cnt x a + cnt x b
unfolding cnt
cnt_both x [] b = omega arith
cnt_both x (n ∷ a) b = omega (arith, cnt_both x a b)

-- ---- occurring is being counted

occurs_counted : (w : ℕ) (l : List ℕ) → T (occurs w l) → 1 ≤ occ w l
unfolding occurs occ
occurs_counted w [] t = absurd t
occurs_counted w (v ∷ l) t = go (eqb v w) (occurs_counted w l) t
  where
    go : (b : Bool) → (T (occurs w l) → 1 ≤ occ w l) → T (elim b [ true ↦ true | false ↦ occurs w l ]) → 1 ≤ flag b + occ w l
    go true f t = omega (arith, flag_yes true refl)
    go false f t = omega (arith, f t)

counted_occurs : (w : ℕ) (l : List ℕ) → 1 ≤ occ w l → T (occurs w l)
unfolding occurs occ
counted_occurs w [] h = absurd (omega arith)
counted_occurs w (v ∷ l) h = go (eqb v w) (counted_occurs w l) h
  where
    go : (b : Bool) → (1 ≤ occ w l → T (occurs w l)) → 1 ≤ flag b + occ w l → T (elim b [ true ↦ true | false ↦ occurs w l ])
    go true f h = tt
    go false f h = f (omega (arith, flag_no false refl))

elem_counted : (x : Name) (l : List Name) → T (elem x l) → 1 ≤ cnt x l
unfolding elem cnt
elem_counted x [] t = absurd t
elem_counted x (n ∷ l) t = go (eq_name n x) (elem_counted x l) t
  where
    go : (b : Bool) → (T (elem x l) → 1 ≤ cnt x l) → T (elim b [ true ↦ true | false ↦ elem x l ]) → 1 ≤ flag b + cnt x l
    go true f t = omega (arith, flag_yes true refl)
    go false f t = omega (arith, f t)

counted_elem : (x : Name) (l : List Name) → 1 ≤ cnt x l → T (elem x l)
unfolding elem cnt
counted_elem x [] h = absurd (omega arith)
counted_elem x (n ∷ l) h = go (eq_name n x) (counted_elem x l) h
  where
    go : (b : Bool) → (1 ≤ cnt x l → T (elem x l)) → 1 ≤ flag b + cnt x l → T (elim b [ true ↦ true | false ↦ elem x l ])
    go true f h = tt
    go false f h = f (omega (arith, flag_no false refl))

so_not : (b : Bool) → (T b → ⊥) → T (not b)
so_not true f = f tt
so_not false f = tt

test_true : (b : Bool) → b ≡ true → T b
test_true true e = tt
test_true false e = let z : ◌≡◌ {A = ℕ} 0 1 = cc in absurd (omega arith)

-- ---- different, and counted once at most

once_counts : (ws : List ℕ) → T (once ws) → (w : ℕ) → T (a_binding w) → occ w ws ≤ 1
unfolding once
once_counts [] h w t = omega (arith, occ_nil w)
once_counts (v ∷ l) h w t = go (eqb v w) refl (once_counts l (and_right (not (a_binding v && occurs v l)) (once l) h) w t)
  where
    go : (b : Bool) → eqb v w ≡ b → occ w l ≤ 1 → occ w (v ∷ l) ≤ 1
    go true e i =
        let same = eqb-true v w e in
        let none : occ w l < 1 = lt (λ k. not_so (a_binding v && occurs v l) (and_left (not (a_binding v && occurs v l)) (once l) h) (rw same (and_both (a_binding w) (occurs w l) t (counted_occurs w l k)))) in
        omega (arith, occ_cons w v l, flag_yes (eqb v w) e, none)
      where
        lt : (1 ≤ occ w l → ⊥) → occ w l < 1
        lt f = small (occ w l) f
          where
            small : (n : ℕ) → (1 ≤ n → ⊥) → n < 1
            small zero f = omega arith
            small (suc n) f = absurd (f (omega arith))
    go false e i = omega (arith, occ_cons w v l, flag_no (eqb v w) e)

counts_once : (ws : List ℕ) → ((w : ℕ) → T (a_binding w) → occ w ws ≤ 1) → T (once ws)
unfolding once
counts_once [] f = tt
counts_once (v ∷ l) f =
    and_both (not (a_binding v && occurs v l)) (once l)
    (so_not (a_binding v && occurs v l) (λ t.
    let k = occurs_counted v l (and_right (a_binding v) (occurs v l) t) in
    omega (arith, f v (and_left (a_binding v) (occurs v l) t), occ_cons v v l, flag_yes (eqb v v) (eq-eqb v v refl))))
    (counts_once l (λ w t. omega (arith, f w t, occ_cons w v l)))

different_counts : (l : List Name) → T (all_different l) → (x : Name) → cnt x l ≤ 1
unfolding all_different
different_counts [] h x = omega (arith, cnt_nil x)
different_counts (n ∷ l) h x = go (eq_name n x) refl (different_counts l (and_right (not (elem n l)) (all_different l) h) x)
  where
    go : (b : Bool) → eq_name n x ≡ b → cnt x l ≤ 1 → cnt x (n ∷ l) ≤ 1
    go true e i =
        let same = eq_name_sound n x (test_true (eq_name n x) e) in
        let none : cnt x l < 1 = lt (λ k. not_so (elem n l) (and_left (not (elem n l)) (all_different l) h) (rw same (counted_elem x l k))) in
        omega (arith, cnt_cons x n l, flag_yes (eq_name n x) e, none)
      where
        lt : (1 ≤ cnt x l → ⊥) → cnt x l < 1
        lt f = small (cnt x l) f
          where
            small : (n : ℕ) → (1 ≤ n → ⊥) → n < 1
            small zero f = omega arith
            small (suc n) f = absurd (f (omega arith))
    go false e i = omega (arith, cnt_cons x n l, flag_no (eq_name n x) e)

same_name : (n : Name) → eq_name n n ≡ true
same_name n = go (eq_name n n) (eq_name_refl n)
  where
    go : (b : Bool) → T b → b ≡ true
    go true t = refl
    go false t = absurd t

first_made : (n : Name) (l : List Name) → T (made_names (n ∷ l)) → T (made_names (n ∷ [])) × T (made_names l)
unfolding made_names
first_made (input s) l h = absurd h
first_made (xname i) l h = (tt, h)
first_made (mname i) l h = (tt, h)

none_different : T (all_different [])
unfolding all_different
none_different = tt

more_different : (n : Name) (l : List Name) → (T (elem n l) → ⊥) → T (all_different l) → T (all_different (n ∷ l))
unfolding all_different
more_different n l h g = and_both (not (elem n l)) (all_different l) (so_not (elem n l) h) g

counts_different : (l : List Name) → T (made_names l) → ((x : Name) → T (made_names (x ∷ [])) → cnt x l ≤ 1) → T (all_different l)
counts_different [] m f = none_different
counts_different (n ∷ l) m f =
    let p = first_made n l m in
    more_different n l (λ t.
    let k = elem_counted n l t in
    omega (arith, f n p.0, cnt_cons n n l, flag_yes (eq_name n n) (same_name n)))
    (counts_different l p.1 (λ x t. omega (arith, f x t, cnt_cons x n l)))

-- ---- the row that binds a name

row_of : Name → ℕ
row_of (input s) = 0
row_of (xname i) = word 29 (1 + 3 * i)
row_of (mname i) = word 33 (2 + 3 * i)

row_binds : (x : Name) → T (made_names (x ∷ [])) → T (a_binding (row_of x)) × (29 ≤ kind_of (row_of x)) × (kind_of (row_of x) < 34) × (kind_of (row_of x) ≡ 30 → ⊥) × (kind_of (row_of x) ≡ 31 → ⊥) × (kind_of (row_of x) ≡ 32 → ⊥)
unfolding row_of made_names
row_binds (input s) m = absurd m
row_binds (xname i) m =
    let w = word 29 (1 + 3 * i) in
    let k : kind_of w ≡ 29 = omega arith in
    let d : below_of w ≡ 1 + 3 * i = omega arith in
    let c : (1 + 3 * i) % 3 ≡ 1 = omega arith in
    (rw (k, d, c) tt, omega arith, omega arith, λ e. omega arith, λ e. omega arith, λ e. omega arith)
row_binds (mname i) m =
    let w = word 33 (2 + 3 * i) in
    let k : kind_of w ≡ 33 = omega arith in
    let d : below_of w ≡ 2 + 3 * i = omega arith in
    let c : (2 + 3 * i) % 3 ≡ 2 = omega arith in
    (rw (k, d, c) tt, omega arith, omega arith, λ e. omega arith, λ e. omega arith, λ e. omega arith)

bound_row : (w : ℕ) → T (a_binding w) → (x : Name) × T (made_names (x ∷ [])) × (w ≡ row_of x)
unfolding row_of made_names
bound_row w h = go (eqb (kind_of w) 29) (eqb (below_of w % 3) 1) (eqb (kind_of w) 33) (eqb (below_of w % 3) 2) refl refl refl refl h
  where
    go :
        (a b c d : Bool) → eqb (kind_of w) 29 ≡ a → eqb (below_of w % 3) 1 ≡ b → eqb (kind_of w) 33 ≡ c → eqb (below_of w % 3) 2 ≡ d → T ((a && b) || (c && d))
        → (x : Name) × T (made_names (x ∷ [])) × (w ≡ row_of x)
    go true true c d p q r s t =
        let k = eqb-true (kind_of w) 29 p in
        let m = eqb-true (below_of w % 3) 1 q in
        (xname (below_of w / 3), tt, omega arith)
    go true false true true p q r s t =
        let k = eqb-true (kind_of w) 29 p in
        let m = eqb-true (kind_of w) 33 r in
        absurd (omega arith)
    go true false true false p q r s t = absurd t
    go true false false d p q r s t = absurd t
    go false b true true p q r s t =
        let k = eqb-true (kind_of w) 33 r in
        let m = eqb-true (below_of w % 3) 2 s in
        (mname (below_of w / 3), tt, omega arith)
    go false b true false p q r s t = absurd t
    go false b false d p q r s t = absurd t

same_number : (a b : ℕ) (t : Bool) → (t ≡ true → a ≡ b) → (a ≡ b → t ≡ true) → eqb a b ≡ t
same_number a b true f g = eq-eqb a b (f refl)
same_number a b false f g = ne_eqb a b (λ e. (let q = g e in let z : ◌≡◌ {A = ℕ} 0 1 = cc in omega arith))

module _ (number : List ℕ → ℕ) where
  let_counted : (n x : Name) → T (let_name n) → T (made_names (x ∷ [])) → eqb (word let_row (name_code number n)) (row_of x) ≡ eq_name n x
  unfolding let_name made_names name_code row_of eq_name
  let_counted (input s) x h m = absurd h
  let_counted (mname i) x h m = absurd h
  let_counted (xname i) (input s) h m = absurd m
  let_counted (xname i) (xname j) h m = same_number (word 29 (1 + 3 * i)) (word 29 (1 + 3 * j)) (eqb i j) (λ e. let q = eqb-true i j e in omega arith) (λ e. eq-eqb i j (omega arith))
  let_counted (xname i) (mname j) h m = ne_eqb (word 29 (1 + 3 * i)) (word 33 (2 + 3 * j)) (λ e. omega arith)

  name_counted : (n x : Name) (l : List Name) → T (match_names (n ∷ l)) → T (made_names (x ∷ [])) → eqb (word name_row (name_code number n)) (row_of x) ≡ eq_name n x
  unfolding match_names made_names name_code row_of eq_name
  name_counted (input s) x l h m = absurd h
  name_counted (xname i) x l h m = absurd h
  name_counted (mname i) (input s) l h m = absurd m
  name_counted (mname i) (xname j) l h m = ne_eqb (word 33 (2 + 3 * i)) (word 29 (1 + 3 * j)) (λ e. omega arith)
  name_counted (mname i) (mname j) l h m = same_number (word 33 (2 + 3 * i)) (word 33 (2 + 3 * j)) (eqb i j) (λ e. let q = eqb-true i j e in omega arith) (λ e. eq-eqb i j (omega arith))

  names_rest : (n : Name) (l : List Name) → T (match_names (n ∷ l)) → T (match_names l)
  unfolding match_names
  names_rest (input s) l h = absurd h
  names_rest (xname i) l h = absurd h
  names_rest (mname i) l h = h

  module _ (known : List ℕ → Bool) (x : Name) (m : T (made_names (x ∷ []))) where
    other : (v : ℕ) → (v ≡ row_of x → ⊥) → flag (eqb v (row_of x)) ≡ 0
    other v n = flag_no (eqb v (row_of x)) (ne_eqb v (row_of x) n)

    mutual
      unfolding tokens fitting

      tree_counted : (t : Tree) → T (fitting known t) → occ (row_of x) (tokens number t) ≡ 0
      tree_counted (Sym n) h =
          let w = word 0 (name_code number n) in
          let r = row_binds x m in
          omega (arith, occ_cons (row_of x) w [], occ_nil (row_of x), other w (λ e. omega (arith, r.1)))
      tree_counted (Const c) h =
          let w = word 1 (constant_code c) in
          let r = row_binds x m in
          omega (arith, occ_cons (row_of x) w [], occ_nil (row_of x), other w (λ e. omega (arith, r.1)))
      tree_counted (Op k f) h =
          let a = and_left (an_operation_kind k) (fitting_each known f) h in
          let high = ltb→lt k 29 (and_right (leb 2 k) (ltb k 29) a) in
          let w = word k (length (operands f)) in
          let r = row_binds x m in
          omega (arith, occ_cons (row_of x) w (tokens_of number f), other w (λ e. omega (arith, r.1)), forest_counted f (and_right (an_operation_kind k) (fitting_each known f) h))

      forest_counted : (f : Forest) → T (fitting_each known f) → occ (row_of x) (tokens_of number f) ≡ 0
      forest_counted nil h = occ_nil (row_of x)
      forest_counted (t ◂ f) h =
          omega (arith, occ_both (row_of x) (tokens number t) (tokens_of number f), tree_counted t (and_left (fitting known t) (fitting_each known f) h), forest_counted f (and_right (fitting known t) (fitting_each known f) h))

    names_counted : (ns : List Name) → T (match_names ns) → occ (row_of x) (names_words number ns) ≡ cnt x ns
    unfolding names_words
    names_counted [] h = occ_nil (row_of x) ∙ sym (cnt_nil x)
    names_counted (n ∷ l) h =
        omega (arith, occ_cons (row_of x) (word name_row (name_code number n)) (names_words number l), cnt_cons x n l, ap flag (name_counted n x l h m), names_counted l (names_rest n l h))

    each_counted : (row : ℕ) (vs : List Tree) → 35 ≤ row → row < 64 → T (all_fitting known vs) → occ (row_of x) (each_words number row vs) ≡ 0
    unfolding each_words all_fitting
    each_counted row [] low high h = occ_nil (row_of x)
    each_counted row (t ∷ l) low high h =
        let w = word row 0 in
        let r = row_binds x m in
        omega (
          arith,
          occ_cons (row_of x) w (tokens number t ++ each_words number row l),
          occ_both (row_of x) (tokens number t) (each_words number row l),
          other w (λ e. omega (arith, r.2)),
          tree_counted t (and_left (fitting known t) (all_fitting known l) h),
          each_counted row l low high (and_right (fitting known t) (all_fitting known l) h),
        )

    mutual
      unfolding stmt_fitting intermediate_words bound_stmt

      stmt_counted : (s : Intermediate) → T (stmt_fitting known s) → occ (row_of x) (intermediate_words number s) ≡ cnt x (bound_stmt s)
      stmt_counted (Let n e) h =
          omega (
            arith,
            occ_cons (row_of x) (word let_row (name_code number n)) (tokens number e),
            cnt_cons x n [],
            cnt_nil x,
            ap flag (let_counted n x (and_left (let_name n) (fitting known e) h) m),
            tree_counted e (and_right (let_name n) (fitting known e) h),
          )
      stmt_counted (Match k key ns arms) h =
          let a = and_left (a_switch_kind k) (fitting known key && (match_names ns && arms_fitting known arms)) h in
          let g = and_right (a_switch_kind k) (fitting known key && (match_names ns && arms_fitting known arms)) h in
          let r = and_right (fitting known key) (match_names ns && arms_fitting known arms) g in
          let low = leb→le 26 k (and_left (leb 26 k) (ltb k 29) a) in
          let high = ltb→lt k 29 (and_right (leb 26 k) (ltb k 29) a) in
          let w = word (match_row k) (suc (length ns + arm_count arms)) in
          let row = row_binds x m in
          let apart : w ≡ row_of x → ⊥ = λ e. (let n1 = row.3 in let n2 = row.4 in let n3 = row.5 in omega (arith, row.1, n1, n2, n3)) in
          let rest = names_words number ns ++ arms_words number arms in
          omega (
            arith,
            occ_cons (row_of x) w (tokens number key ++ rest),
            occ_both (row_of x) (tokens number key) rest,
            occ_both (row_of x) (names_words number ns) (arms_words number arms),
            other w apart,
            tree_counted key (and_left (fitting known key) (match_names ns && arms_fitting known arms) g),
            names_counted ns (and_left (match_names ns) (arms_fitting known arms) r),
            arms_counted arms (and_right (match_names ns) (arms_fitting known arms) r),
            cnt_both x (bound_arms arms) ns,
          )

      stmts_counted : (l : Intermediates) → T (stmts_fitting known l) → occ (row_of x) (intermediates_words number l) ≡ cnt x (bound_stmts l)
      stmts_counted end h = occ_nil (row_of x) ∙ sym (cnt_nil x)
      stmts_counted (step s l) h =
          omega (
            arith,
            occ_both (row_of x) (intermediate_words number s) (intermediates_words number l),
            cnt_both x (bound_stmt s) (bound_stmts l),
            stmt_counted s (and_left (stmt_fitting known s) (stmts_fitting known l) h),
            stmts_counted l (and_right (stmt_fitting known s) (stmts_fitting known l) h),
          )

      arms_counted : (arms : Arms) → T (arms_fitting known arms) → occ (row_of x) (arms_words number arms) ≡ cnt x (bound_arms arms)
      arms_counted no_arm h = occ_nil (row_of x) ∙ sym (cnt_nil x)
      arms_counted (arm s vs l) h =
          let g = and_left (stmts_fitting known s && all_fitting known vs) (arms_fitting known l) h in
          let w = word arm_row (step_count s + length vs) in
          let row = row_binds x m in
          let i = intermediates_words number s in
          let v = each_words number value_row vs in
          let z = arms_words number l in
          omega (
            arith,
            occ_cons (row_of x) w (i ++ (v ++ z)),
            occ_both (row_of x) i (v ++ z),
            occ_both (row_of x) v z,
            other w (λ e. omega (arith, row.2)),
            stmts_counted s (and_left (stmts_fitting known s) (all_fitting known vs) g),
            each_counted value_row vs (omega arith) (omega arith) (and_right (stmts_fitting known s) (all_fitting known vs) g),
            arms_counted l (and_right (stmts_fitting known s && all_fitting known vs) (arms_fitting known l) h),
            cnt_both x (bound_stmts s) (bound_arms l),
          )

  -- ---- the whole

  module _ (known : List ℕ → Bool) (l : Intermediates) (vs : List Tree) (f : T (stmts_fitting known l)) (g : T (all_fitting known vs)) where
    abbrev ws : List ℕ
    ws = intermediates_words number l ++ each_words number 36 vs

    all_counted : (x : Name) → T (made_names (x ∷ [])) → occ (row_of x) ws ≡ cnt x (bound_stmts l)
    all_counted x m =
        omega (arith, occ_both (row_of x) (intermediates_words number l) (each_words number 36 vs), stmts_counted known x m l f, each_counted known x m 36 vs (omega arith) (omega arith) g)

    same_test : (a b : Bool) → (T a → T b) → (T b → T a) → a ≡ b
    same_test true true f g = refl
    same_test true false f g = absurd (f tt)
    same_test false true f g = absurd (g tt)
    same_test false false f g = refl

    pub once_different : T (made_names (bound_stmts l)) → once ws ≡ all_different (bound_stmts l)
    once_different made =
        same_test (once ws) (all_different (bound_stmts l))
        (λ h. counts_different (bound_stmts l) made (λ x m. omega (arith, once_counts ws h (row_of x) (row_binds x m).0, all_counted x m)))
        (λ h. counts_once ws (λ w t. let p = bound_row w t in rw p.2 (omega (arith, different_counts (bound_stmts l) h p.0, all_counted p.0 p.1))))
