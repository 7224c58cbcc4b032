-- The laws that the functions of a check of rows use, at places of the words: what stands from a place_is on, one part after another (Fronts). Assumes nothing.
use Prim.Native.Nat.{ℕ, zero, suc, ◌+◌, ◌-◌, ◌/◌, ◌%◌, ◌≤◌, ◌<◌}
use native.Mathlib.Omega.{arith}
use mathlib.Core.Path.{◌≡◌, refl, sym, ◌∙◌, ap, subst}
use mathlib.Core.Bool.{Bool, true, false, not, ◌&&◌}
use mathlib.Core.Option.{none, some}
use mathlib.Core.List.{List, [], ◌∷◌}
use borrow.Author.Tests.{ne_eqb, eqb-true, eqb-false, le-leb, lt-leb, leb-true, leb-false}
use lib.ListN.{length, get_or, take, drop, length-drop, drop_of_length-le}
use lib.Dec.{T, eqb, leb, ltb, leb→le}
use Rattle.spec_tree.specs.Bytes.{every}
use Rattle.spec_tree.specs.Kinds.{is_switch, arity_ok, kind_at, kinds}
use Rattle.spec_tree.specs.Rows.{Row}
use Rattle.spec_tree.specs.Passes.{tree_ok}
use Rattle.spec_tree.specs.Tokens.{word, kind_of, words_of, run_at}
use Rattle.spec_tree.proofs.Logic.{and_left, and_right}
use Rattle.spec_tree.proofs.KindLaws.{arity_kind}
use Rattle.spec_tree.proofs.TokenLaws.{words_complete}
use Rattle.spec_cse.specs.AnswerRows.{match_row, value_row, result_row, arm_row}
use Rattle.laws.specs.answer.First.{first_word}
use Rattle.laws.specs.answer.Fronts.{statement_row, match_name_row, no_statement, no_match_name, TreeFront, ValuesFront, StmtFront, StmtsFront, ArmsFront, NamesFront, HeadFront, AnswerRows, Results, Same, Through, Named}
use Rattle.laws.proofs.answer.FrontLaws.{head_is, tail_is, tree_rest, values_none, values_apart, values_zero, values_more, values_cons, stmt_longer, stmts_none, stmts_cons, stmts_more, stmts_first, stmts_rest, arms_none, arms_cons, arms_apart, arm_made, arm_apart, arms_more}
use Rattle.laws.proofs.answer.HeadLaws.{names_none, names_cons, names_rest, head_rest, match_made, match_apart, let_made, let_apart, answer_made, answer_apart}
use Rattle.laws.proofs.answer.TreeFronts.{here, tree_found, tree_there}
use Rattle.spec_tree.proofs.Lists.{place_is}

-- ---- tests

pub between_low : (n a b : ℕ) → n < a → false ≡ (leb a n && leb n b)
between_low n a b h = rw (lt-leb a n h)

pub between_high : (n a b : ℕ) → a ≤ n → leb n b ≡ (leb a n && leb n b)
between_high n a b h = rw (le-leb a n h)

pub statement_low : (w : ℕ) → kind_of w < 29 → false ≡ statement_row w
statement_low w h = rw (lt-leb 29 (kind_of w) h)

pub statement_high : (w : ℕ) → 29 ≤ kind_of w → ltb (kind_of w) 33 ≡ statement_row w
statement_high w h = rw (le-leb 29 (kind_of w) h)

shift : (a n : ℕ) → leb (suc a) (1 + n) ≡ leb a n
shift a n = go (leb a n) refl
  where
    go : (b : Bool) → leb a n ≡ b → leb (suc a) (1 + n) ≡ b
    go true e = let h = leb-true a n e in le-leb (suc a) (1 + n) (omega arith)
    go false e = let h = leb-false a n e in lt-leb (suc a) (1 + n) (omega arith)

shift_down : (n b : ℕ) → leb (1 + n) (suc b) ≡ leb n b
shift_down n b = go (leb n b) refl
  where
    go : (q : Bool) → leb n b ≡ q → leb (1 + n) (suc b) ≡ q
    go true e = let h = leb-true n b e in le-leb (1 + n) (suc b) (omega arith)
    go false e = let h = leb-false n b e in lt-leb (1 + n) (suc b) (omega arith)

sides : (n : ℕ) → eqb n 2 ≡ (leb 2 n && leb n 2)
sides n = go (eqb n 2) refl
  where
    go : (b : Bool) → eqb n 2 ≡ b → b ≡ (leb 2 n && leb n 2)
    go true e = let h = eqb-true n 2 e in rw h
    go false e = low (leb 2 n) (leb n 2) refl refl
      where
        low : (p q : Bool) → leb 2 n ≡ p → leb n 2 ≡ q → false ≡ (p && q)
        low true true x y =
            let a = leb-true 2 n x in
            let b = leb-true n 2 y in
            absurd (eqb-false n 2 e (omega arith))
        low true false x y = refl
        low false q x y = refl

module _ (row n : ℕ) where
  switch_is : (k a b : ℕ) → row - 4 ≡ k → 26 ≤ k → (kind_at k).fewest ≡ suc a → (kind_at k).most ≡ suc b → (leb a n && leb n b) ≡ (is_switch (row - 4) && arity_ok (row - 4) (1 + n))
  unfolding arity_ok
  switch_is k a b e h f m = rw (e, le-leb 26 k h, f, m, shift a n, shift_down n b)

  pub branch_fit : row ≡ 30 → eqb n 2 ≡ (is_switch (row - 4) && arity_ok (row - 4) (1 + n))
  unfolding kind_at kinds
  branch_fit e = sides n ∙ switch_is 26 2 2 (omega arith) (omega arith) refl refl

  pub select_fit : row ≡ 31 → (leb 1 n && leb n 16) ≡ (is_switch (row - 4) && arity_ok (row - 4) (1 + n))
  unfolding kind_at kinds
  select_fit e = switch_is 27 1 16 (omega arith) (omega arith) refl refl

  pub default_fit : 30 ≤ row → row ≤ 32 → (row ≡ 30 → ⊥) → (row ≡ 31 → ⊥) → (leb 2 n && leb n 17) ≡ (is_switch (row - 4) && arity_ok (row - 4) (1 + n))
  unfolding kind_at kinds
  default_fit l h a b = switch_is 28 2 17 (omega (arith, a, b)) (omega arith) refl refl

-- ---- places

pub past : (ws : List ℕ) (i : ℕ) → length ws ≤ i → drop i ws ≡ []
past ws i h = drop_of_length-le ws {i = i} h

no_word : {w : ℕ} {l : List ℕ} → [] ≡ w ∷ l → ⊥
no_word e = let z : ◌≡◌ {A = ℕ} 0 1 = cc in omega arith

pub run_starts : (ws : List ℕ) (at n : ℕ) → run_at ws at ≡ some n → at < length ws
run_starts ws at n e = go (drop at ws) refl (unfold run_at in e)
  where
    go : (l : List ℕ) → drop at ws ≡ l → words_of l 1 ≡ some n → at < length ws
    go [] q r = absurd (let z : ◌≡◌ {A = ℕ} 0 1 = (unfold words_of in cc) in omega arith)
    go (w ∷ l) q r = omega (arith, ap length q, length-drop at ws)

pub run_within : (ws : List ℕ) (at n : ℕ) → run_at ws at ≡ some n → at + n ≤ length ws
unfolding run_at
run_within ws at n e = omega (arith, (words_complete (drop at ws) 1 n e).0, length-drop at ws, run_starts ws at n e)

module _ (rows : List Row) (ws : List ℕ) where
  -- ---- `tree`

  pub tree_ends :
      (at n : ℕ) → run_at ws at ≡ some n → tree_ok (here rows ws at) ≡ true → every (first_word rows) (take n (drop at ws)) ≡ true
      → (at + n ≤ length ws) × TreeFront rows (drop at ws) (drop (at + n) ws)
  tree_ends at n e o f =
      let h = run_starts ws at n e in
      tree_found rows ws at n (omega arith) e (subst (λ (b : Bool). T b) (sym o) tt) (subst (λ (b : Bool). T b) (sym f) tt)

  clash : (b : Bool) → T b → b ≡ false → ⊥
  clash true t e = let z : ◌≡◌ {A = ℕ} 0 1 = cc in omega arith
  clash false t e = t

  pub tree_none : (at : ℕ) → run_at ws at ≡ none → (r : List ℕ) → TreeFront rows (drop at ws) r → ⊥
  tree_none at e r f =
      let p = tree_there rows ws at r f in
      let q : none ≡ some p.0 = sym e ∙ p.1 in
      let z : ◌≡◌ {A = ℕ} 0 1 = cc in
      omega arith

  pub tree_unfit : (at : ℕ) → tree_ok (here rows ws at) ≡ false → (r : List ℕ) → TreeFront rows (drop at ws) r → ⊥
  tree_unfit at e r f = clash (tree_ok (here rows ws at)) (tree_there rows ws at r f).2 e

  pub tree_unnamed : (at n : ℕ) → run_at ws at ≡ some n → every (first_word rows) (take n (drop at ws)) ≡ false → (r : List ℕ) → TreeFront rows (drop at ws) r → ⊥
  tree_unnamed at n e g r f =
      let p = tree_there rows ws at r f in
      let q : some n ≡ some p.0 = sym e ∙ p.1 in
      let z : n ≡ p.0 = cc in
      clash (every (first_word rows) (take n (drop at ws))) (rw z p.3) g

  -- ---- values and results

  module _ (row i : ℕ) where
    pub values_short : (left : ℕ) → 0 < left → length ws ≤ i → (r : List ℕ) → ValuesFront rows row left (drop i ws) r → ⊥
    values_short zero one h r f = absurd (omega arith)
    values_short (suc left) one h r f = let p = values_apart rows row left f in no_word (sym (past ws i h) ∙ p.2)

    pub values_other : (left : ℕ) → 0 < left → i < length ws → (get_or ws i 0 ≡ row → ⊥) → (r : List ℕ) → ValuesFront rows row left (drop i ws) r → ⊥
    values_other zero one h n r f = absurd (omega arith)
    values_other (suc left) one h n r f = let p = values_apart rows row left f in n (head_is (sym (place_is ws i h) ∙ p.2))

    pub values_broken :
        (left : ℕ) → 0 < left → i < length ws → ((r : List ℕ) → TreeFront rows (drop (i + 1) ws) r → ⊥) → (r : List ℕ) → ValuesFront rows row left (drop i ws) r → ⊥
    values_broken zero one h n r f = absurd (omega arith)
    values_broken (suc left) one h n r f =
        let p = values_apart rows row left f in
        let e = tail_is (sym (place_is ws i h) ∙ p.2) in
        n p.1 (subst (λ (x : List ℕ). TreeFront rows x p.1) (sym e) p.3)

    pub values_next :
        (left e : ℕ) → 0 < left → i < length ws → get_or ws i 0 ≡ row → TreeFront rows (drop (i + 1) ws) (drop e ws)
        → Same (ValuesFront rows row left (drop i ws)) (ValuesFront rows row (left - 1) (drop e ws))
    values_next zero e one h q t = absurd (omega arith)
    values_next (suc left) e one h q t =
        let z : suc left - 1 ≡ left = omega arith in
        let l : drop i ws ≡ row ∷ drop (i + 1) ws = place_is ws i h ∙ ap (λ (w : ℕ). w ∷ drop (i + 1) ws) q in
        rw z (record { to = λ r f. values_more rows row left l t f; from = λ r f. values_cons rows row left l t f })

    pub values_done : (left : ℕ) → left ≤ 0 → ValuesFront rows row left (drop i ws) (drop i ws)
    values_done zero h = values_none rows row (drop i ws)
    values_done (suc left) h = absurd (omega arith)

  module _ (i : ℕ) where
    results_some : i < length ws → (f : Results rows (drop i ws)) → 0 < f.0
    results_some h f = go f.0 f.1
      where
        go : (n : ℕ) → ValuesFront rows result_row n (drop i ws) [] → 0 < n
        go zero g = absurd (no_word (sym (values_zero rows result_row g) ∙ place_is ws i h))
        go (suc n) g = omega arith

    pub results_other : i < length ws → (get_or ws i 0 ≡ 36 → ⊥) → Results rows (drop i ws) → ⊥
    results_other h n f = values_other 36 i f.0 (results_some h f) h n [] f.1

    pub results_broken : i < length ws → ((r : List ℕ) → TreeFront rows (drop (i + 1) ws) r → ⊥) → Results rows (drop i ws) → ⊥
    results_broken h n f = values_broken 36 i f.0 (results_some h f) h n [] f.1

    pub results_next :
        (e : ℕ) → i < length ws → get_or ws i 0 ≡ 36 → TreeFront rows (drop (i + 1) ws) (drop e ws)
        → (Results rows (drop i ws) → Results rows (drop e ws)) × (Results rows (drop e ws) → Results rows (drop i ws))
    results_next e h q t =
        let l : drop i ws ≡ result_row ∷ drop (i + 1) ws = place_is ws i h ∙ ap (λ (w : ℕ). w ∷ drop (i + 1) ws) q in
        (λ f. (f.0 - 1, (values_next 36 i f.0 e (results_some h f) h q t).to [] f.1), λ f. (suc f.0, values_cons rows result_row f.0 l t f.1))

    pub results_done : length ws ≤ i → Results rows (drop i ws)
    results_done h = rw (past ws i h) (0, values_none rows result_row [])

-- ---- match names

not_so : (b : Bool) → b ≡ false → T (not b)
not_so true e = let z : ◌≡◌ {A = ℕ} 0 1 = cc in absurd (omega arith)
not_so false e = tt

so : (b : Bool) → b ≡ true → T b
so true e = tt
so false e = let z : ◌≡◌ {A = ℕ} 0 1 = cc in absurd (omega arith)

no_name_here : (ws : List ℕ) (i : ℕ) → i < length ws → match_name_row (get_or ws i 0) ≡ false → T (no_match_name (drop i ws))
no_name_here ws i h e = subst (λ (l : List ℕ). T (no_match_name l)) (sym (place_is ws i h)) (unfold no_match_name in not_so (match_name_row (get_or ws i 0)) e)

module _ (ws : List ℕ) (at : ℕ) where
  pub named_begin : Named ws at at
  named_begin rows m r f = let z : m ≡ at - at + m = omega arith in subst (λ (n : ℕ). NamesFront rows n (drop at ws) r) z f

  module _ (i : ℕ) (after : at ≤ i) (k : Named ws at i) where
    pub named_next : i < length ws → get_or ws i 0 % 64 ≡ 33 → get_or ws i 0 / 64 % 3 ≡ 2 → Named ws at (i + 1)
    named_next h row class rows m r f =
        let w = get_or ws i 0 in
        let t : match_name_row w ≡ true = rw (row, class) in
        let z : i - at + suc m ≡ i + 1 - at + m = omega arith in
        subst (λ (n : ℕ). NamesFront rows n (drop at ws) r) z (k rows (suc m) r (names_cons rows w m (so (match_name_row w) t) (place_is ws i h) f))

    ended : T (no_match_name (drop i ws)) → (rows : List Row) → NamesFront rows (i - at) (drop at ws) (drop i ws)
    ended h rows = let z : i - at + 0 ≡ i - at = omega arith in subst (λ (n : ℕ). NamesFront rows n (drop at ws) (drop i ws)) z (k rows 0 (drop i ws) (names_none rows (drop i ws) h))

    pub named_other : i < length ws → (get_or ws i 0 % 64 ≡ 33 → ⊥) → (rows : List Row) → NamesFront rows (i - at) (drop at ws) (drop i ws)
    named_other h n = ended (no_name_here ws i h (rw (ne_eqb (get_or ws i 0 % 64) 33 n)))

    pub named_unmade : i < length ws → get_or ws i 0 % 64 ≡ 33 → (get_or ws i 0 / 64 % 3 ≡ 2 → ⊥) → (rows : List Row) → NamesFront rows (i - at) (drop at ws) (drop i ws)
    named_unmade h e n = ended (no_name_here ws i h (rw (e, ne_eqb (get_or ws i 0 / 64 % 3) 2 n)))

    pub named_past : length ws ≤ i → (rows : List Row) → NamesFront rows (i - at) (drop at ws) (drop i ws)
    named_past h = ended (subst (λ (l : List ℕ). T (no_match_name l)) (sym (past ws i h)) (unfold no_match_name in tt))

module _ (rows : List Row) (ws : List ℕ) where
  -- ---- heads of matches

  module _ (at : ℕ) (inside : at < length ws) where
    head_row : (n m : ℕ) (r : List ℕ) (f : HeadFront rows n m (drop at ws) r) → (get_or ws at 0 % 64 ≡ f.kind + 4) × (get_or ws at 0 / 64 ≡ suc (n + m)) × (26 ≤ f.kind) × (f.kind < 29) × (drop (at + 1) ws ≡ f.l1)
    head_row n m r f =
        let e = sym (place_is ws at inside) ∙ f.row in
        let h = head_is e in
        let a = leb→le 26 f.kind (and_left (is_switch f.kind) (arity_ok f.kind (suc m)) f.switch) in
        let b = arity_kind f.kind (suc m) (and_right (is_switch f.kind) (arity_ok f.kind (suc m)) f.switch) in
        (omega arith, omega arith, a, b, tail_is e)

    pub head_low : get_or ws at 0 % 64 < 30 → (n m : ℕ) (r : List ℕ) → HeadFront rows n m (drop at ws) r → ⊥
    head_low h n m r f = let p = head_row n m r f in omega (arith, p.0, p.2)

    pub head_high : 32 < get_or ws at 0 % 64 → (n m : ℕ) (r : List ℕ) → HeadFront rows n m (drop at ws) r → ⊥
    head_high h n m r f = let p = head_row n m r f in omega (arith, p.0, p.3)

    pub head_keyless : ((r : List ℕ) → TreeFront rows (drop (at + 1) ws) r → ⊥) → (n m : ℕ) (r : List ℕ) → HeadFront rows n m (drop at ws) r → ⊥
    head_keyless k n m r f = k f.l2 (subst (λ (l : List ℕ). TreeFront rows l f.l2) (sym (head_row n m r f).4) f.key)

    module _ (s e c : ℕ) (key : TreeFront rows (drop (at + 1) ws) (drop s ws)) (names : NamesFront rows c (drop s ws) (drop e ws)) where
      same_count : (n m : ℕ) (r : List ℕ) → HeadFront rows n m (drop at ws) r → n ≡ c
      same_count n m r f =
          let p = head_row n m r f in
          let q = tree_rest rows key (subst (λ (l : List ℕ). TreeFront rows l f.l2) (sym p.4) f.key) in
          (names_rest rows n c f.names (subst (λ (l : List ℕ). NamesFront rows c l (drop e ws)) q names)).0

      pub head_nameless : c ≡ 0 → (n m : ℕ) (r : List ℕ) → HeadFront rows n m (drop at ws) r → ⊥
      head_nameless z n m r f = let q = same_count n m r f in omega (arith, q, f.some)

      pub head_narrow : get_or ws at 0 / 64 ≤ c → (n m : ℕ) (r : List ℕ) → HeadFront rows n m (drop at ws) r → ⊥
      head_narrow h n m r f =
          let q = same_count n m r f in
          let p = head_row n m r f in
          omega (arith, q, p.1)

      module _ (wide : c < get_or ws at 0 / 64) where
        pub head_unfit :
            false ≡ (is_switch (get_or ws at 0 % 64 - 4) && arity_ok (get_or ws at 0 % 64 - 4) (1 + (get_or ws at 0 / 64 - 1 - c))) → (n m : ℕ) (r : List ℕ) → HeadFront rows n m (drop at ws) r → ⊥
        head_unfit unfit n m r f =
            let q = same_count n m r f in
            let p = head_row n m r f in
            let k : get_or ws at 0 % 64 - 4 ≡ f.kind = omega (arith, p.0) in
            let z : 1 + (get_or ws at 0 / 64 - 1 - c) ≡ suc m = omega (arith, q, p.1) in
            let t : T (is_switch (get_or ws at 0 % 64 - 4) && arity_ok (get_or ws at 0 % 64 - 4) (1 + (get_or ws at 0 / 64 - 1 - c))) = rw (k, z) f.switch in
            clash rows ws (is_switch (get_or ws at 0 % 64 - 4) && arity_ok (get_or ws at 0 % 64 - 4) (1 + (get_or ws at 0 / 64 - 1 - c))) t (sym unfit)

        pub head_ends :
            30 ≤ get_or ws at 0 % 64 → (c ≡ 0 → ⊥) → true ≡ (is_switch (get_or ws at 0 % 64 - 4) && arity_ok (get_or ws at 0 % 64 - 4) (1 + (get_or ws at 0 / 64 - 1 - c)))
            → HeadFront rows c (get_or ws at 0 / 64 - 1 - c) (drop at ws) (drop e ws)
        head_ends low n fit =
            let w = get_or ws at 0 in
            let m = w / 64 - 1 - c in
            let z : 1 + m ≡ suc m = omega arith in
            let row : w ≡ word (match_row (w % 64 - 4)) (suc (c + m)) = omega arith in
            record {
              kind = w % 64 - 4;
              l1 = drop (at + 1) ws;
              l2 = drop s ws;
              switch = rw z at (so (is_switch (w % 64 - 4) && arity_ok (w % 64 - 4) (1 + m)) (sym fit));
              some = omega (arith, n);
              row = place_is ws at inside ∙ ap (λ (x : ℕ). x ∷ drop (at + 1) ws) row;
              key = key;
              names = names;
            }

    -- ---- statements

    pub let_unmade : get_or ws at 0 % 64 ≡ 29 → (get_or ws at 0 / 64 % 3 ≡ 1 → ⊥) → (r : List ℕ) → StmtFront rows (drop at ws) r → ⊥
    let_unmade k n r f = n (let_apart rows (get_or ws at 0) f (place_is ws at inside) k).0

    pub let_broken : get_or ws at 0 % 64 ≡ 29 → ((r : List ℕ) → TreeFront rows (drop (at + 1) ws) r → ⊥) → (r : List ℕ) → StmtFront rows (drop at ws) r → ⊥
    let_broken k n r f = n r (let_apart rows (get_or ws at 0) f (place_is ws at inside) k).1

    pub let_ends : (e : ℕ) → get_or ws at 0 % 64 ≡ 29 → get_or ws at 0 / 64 % 3 ≡ 1 → TreeFront rows (drop (at + 1) ws) (drop e ws) → StmtFront rows (drop at ws) (drop e ws)
    let_ends e k c t = let_made rows (get_or ws at 0) (place_is ws at inside) k c t

    pub match_headless : (get_or ws at 0 % 64 ≡ 29 → ⊥) → ((n m : ℕ) (r : List ℕ) → HeadFront rows n m (drop at ws) r → ⊥) → (r : List ℕ) → StmtFront rows (drop at ws) r → ⊥
    match_headless k n r f = let p = match_apart rows (get_or ws at 0) f (place_is ws at inside) k in n p.0 p.1 p.2 p.3

    pub match_broken :
        (n m s : ℕ) → (get_or ws at 0 % 64 ≡ 29 → ⊥) → HeadFront rows n m (drop at ws) (drop s ws) → ((r : List ℕ) → ArmsFront rows n m (drop s ws) r → ⊥)
        → (r : List ℕ) → StmtFront rows (drop at ws) r → ⊥
    match_broken n m s k h b r f =
        let p = match_apart rows (get_or ws at 0) f (place_is ws at inside) k in
        let q = head_rest rows p.0 p.1 n m p.3 h in
        let a1 : ArmsFront rows n p.1 p.2 r = subst (λ (x : ℕ). ArmsFront rows x p.1 p.2 r) q.0 p.4 in
        let a2 : ArmsFront rows n m p.2 r = subst (λ (x : ℕ). ArmsFront rows n x p.2 r) q.1 a1 in
        b r (subst (λ (x : List ℕ). ArmsFront rows n m x r) q.2 a2)

  pub match_ends : (n m at s e : ℕ) → HeadFront rows n m (drop at ws) (drop s ws) → ArmsFront rows n m (drop s ws) (drop e ws) → StmtFront rows (drop at ws) (drop e ws)
  match_ends n m at s e h a = match_made rows n m h a

  pub stmt_goes : (at e : ℕ) → StmtFront rows (drop at ws) (drop e ws) → at < e
  stmt_goes at e f = omega (arith, stmt_longer rows f, length-drop at ws, length-drop e ws)

  pub no_stmt_here : (i : ℕ) → i < length ws → false ≡ statement_row (get_or ws i 0) → T (no_statement (drop i ws))
  no_stmt_here i h e = subst (λ (l : List ℕ). T (no_statement l)) (sym (place_is ws i h)) (unfold no_statement in not_so (statement_row (get_or ws i 0)) (sym e))

  pub no_stmt_past : (i : ℕ) → length ws ≤ i → T (no_statement (drop i ws))
  no_stmt_past i h = subst (λ (l : List ℕ). T (no_statement l)) (sym (past ws i h)) (unfold no_statement in tt)

  a_stmt_here : (i : ℕ) → i < length ws → true ≡ statement_row (get_or ws i 0) → T (no_statement (drop i ws)) → ⊥
  unfolding no_statement
  a_stmt_here i h e t = go (statement_row (get_or ws i 0)) e (subst (λ (l : List ℕ). T (no_statement l)) (place_is ws i h) t)
    where
      go : (b : Bool) → true ≡ b → T (not b) → ⊥
      go true q u = u
      go false q u = let z : ◌≡◌ {A = ℕ} 0 1 = cc in omega arith

  module _ (at : ℕ) where
    pub through_begin : Through rows ws at 0 at
    through_begin =
        record {
          to = λ n r f. let z : n ≡ 0 + n = omega arith in subst (λ (x : ℕ). StmtsFront rows x (drop at ws) r) z f;
          from = λ n r f. (n, omega arith, f);
        }

    module _ (count i : ℕ) (k : Through rows ws at count i) where
      pub through_next : (e : ℕ) → StmtFront rows (drop i ws) (drop e ws) → Through rows ws at (count + 1) e
      through_next e s =
          record {
            to =
                λ n r f.
                let z : count + suc n ≡ count + 1 + n = omega arith in
                subst (λ (x : ℕ). StmtsFront rows x (drop at ws) r) z (k.to (suc n) r (stmts_cons rows n s f));
            from =
                λ n r f.
                let p = k.from n r f in
                let q = stmts_more rows p.0 s p.2 in
                (q.0, omega (arith, p.1, q.1), q.2);
          }

      pub through_ends : T (no_statement (drop i ws)) → StmtsFront rows count (drop at ws) (drop i ws)
      through_ends h = let z : count + 0 ≡ count = omega arith in subst (λ (x : ℕ). StmtsFront rows x (drop at ws) (drop i ws)) z (k.to 0 (drop i ws) (stmts_none rows (drop i ws) h))

      pub through_broken :
          i < length ws → true ≡ statement_row (get_or ws i 0) → ((r : List ℕ) → StmtFront rows (drop i ws) r → ⊥) → (n : ℕ) (r : List ℕ) → StmtsFront rows n (drop at ws) r → ⊥
      through_broken h t b n r f =
          let p = k.from n r f in
          let q = stmts_first rows p.0 p.2 (a_stmt_here i h t) in
          b q.0 q.1

  -- ---- arms

  module _ (n i : ℕ) where
    pub arms_broken : (left : ℕ) → 0 < left → ((r : List ℕ) → ArmsFront rows n 1 (drop i ws) r → ⊥) → (r : List ℕ) → ArmsFront rows n left (drop i ws) r → ⊥
    arms_broken zero one b r f = absurd (omega arith)
    arms_broken (suc left) one b r f = let p = arms_apart rows n left f in b p.0 p.1

    pub arms_next :
        (left e : ℕ) → 0 < left → ArmsFront rows n 1 (drop i ws) (drop e ws) → Same (ArmsFront rows n left (drop i ws)) (ArmsFront rows n (left - 1) (drop e ws))
    arms_next zero e one a = absurd (omega arith)
    arms_next (suc left) e one a =
        let z : suc left - 1 ≡ left = omega arith in
        rw z (record { to = λ r f. arms_more rows n left a f; from = λ r f. arms_cons rows n left a f })

    pub arms_done : (left : ℕ) → left ≤ 0 → ArmsFront rows n left (drop i ws) (drop i ws)
    arms_done zero h = arms_none rows n (drop i ws)
    arms_done (suc left) h = absurd (omega arith)

    module _ (one : 1 ≤ n) where
      pub arm_short : length ws ≤ i → (r : List ℕ) → ArmsFront rows n 1 (drop i ws) r → ⊥
      arm_short h r f = let p = arm_apart rows n one f in no_word (sym (past ws i h) ∙ p.3)

      module _ (inside : i < length ws) where
        pub arm_other : (get_or ws i 0 % 64 ≡ 34 → ⊥) → (r : List ℕ) → ArmsFront rows n 1 (drop i ws) r → ⊥
        arm_other k r f =
            let p = arm_apart rows n one f in
            let e = head_is (sym (place_is ws i inside) ∙ p.3) in
            k (omega arith)

        arm_stmts : (r : List ℕ) (f : ArmsFront rows n 1 (drop i ws) r) → let p = arm_apart rows n one f in StmtsFront rows p.0 (drop (i + 1) ws) p.2
        arm_stmts r f =
            let p = arm_apart rows n one f in
            let e = tail_is (sym (place_is ws i inside) ∙ p.3) in
            subst (λ (l : List ℕ). StmtsFront rows p.0 l p.2) (sym e) p.4

        pub arm_broken : ((c : ℕ) (r : List ℕ) → StmtsFront rows c (drop (i + 1) ws) r → ⊥) → (r : List ℕ) → ArmsFront rows n 1 (drop i ws) r → ⊥
        arm_broken b r f = let p = arm_apart rows n one f in b p.0 p.2 (arm_stmts r f)

        module _ (c s : ℕ) (found : StmtsFront rows c (drop (i + 1) ws) (drop s ws)) where
          pub arm_miscounted : (get_or ws i 0 / 64 ≡ c + n → ⊥) → (r : List ℕ) → ArmsFront rows n 1 (drop i ws) r → ⊥
          arm_miscounted k r f =
              let p = arm_apart rows n one f in
              let e = head_is (sym (place_is ws i inside) ∙ p.3) in
              let q = stmts_rest rows p.0 c (arm_stmts r f) found in
              k (omega (arith, q.0))

          pub arm_valueless : ((r : List ℕ) → ValuesFront rows value_row n (drop s ws) r → ⊥) → (r : List ℕ) → ArmsFront rows n 1 (drop i ws) r → ⊥
          arm_valueless b r f =
              let p = arm_apart rows n one f in
              let q = stmts_rest rows p.0 c (arm_stmts r f) found in
              b r (subst (λ (l : List ℕ). ValuesFront rows value_row n l r) q.1 p.5)

          pub arm_ends : (e : ℕ) → get_or ws i 0 % 64 ≡ 34 → get_or ws i 0 / 64 ≡ c + n → ValuesFront rows value_row n (drop s ws) (drop e ws) → ArmsFront rows n 1 (drop i ws) (drop e ws)
          arm_ends e k b v =
              let row : get_or ws i 0 ≡ word arm_row (c + n) = omega arith in
              arm_made rows n c (place_is ws i inside ∙ ap (λ (x : ℕ). x ∷ drop (i + 1) ws) row) found v

  -- ---- answers

  pub answer_none : ((n : ℕ) (r : List ℕ) → StmtsFront rows n (drop 0 ws) r → ⊥) → AnswerRows rows ws → ⊥
  answer_none b a = let p = answer_apart rows a in b p.0 p.2 p.3

  pub answer_some : (c e : ℕ) → StmtsFront rows c (drop 0 ws) (drop e ws) → Results rows (drop e ws) → AnswerRows rows ws
  answer_some c e f g = answer_made rows c g.0 f g.1

  pub answer_not : (c e : ℕ) → StmtsFront rows c (drop 0 ws) (drop e ws) → (Results rows (drop e ws) → ⊥) → AnswerRows rows ws → ⊥
  answer_not c e f b a =
      let p = answer_apart rows a in
      let q = stmts_rest rows p.0 c p.3 f in
      b (p.1, subst (λ (l : List ℕ). ValuesFront rows result_row p.1 l []) q.1 p.4)
