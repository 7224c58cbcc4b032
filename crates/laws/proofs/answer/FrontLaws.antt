-- Parts in front of words are put together and taken apart, and what is left after a part is known (Fronts). Assumes nothing.
use Prim.Native.Nat.{ℕ, zero, suc, ◌+◌, ◌≤◌, ◌<◌}
use native.Mathlib.Omega.{arith}
use mathlib.Core.Path.{◌≡◌, refl, sym, ◌∙◌, ap, ap₂, subst}
use mathlib.Core.Bool.{Bool, true, false, not, ◌&&◌}
use mathlib.Core.List.{List, [], ◌∷◌, ◌++◌, append_assoc}
use lib.ListN.{length, length-append}
use lib.Dec.{T, eqb, leb, ltb, eqb→eq, le→leb, lt→ltb}
use Rattle.spec_tree.specs.Tree.{Tree}
use Rattle.spec_tree.specs.Rows.{Row}
use Rattle.spec_tree.specs.Passes.{tree_ok, trees_ok}
use Rattle.spec_tree.specs.Tokens.{word, name_code, tokens, number_in, name_in, kind_of}
use Rattle.spec_tree.proofs.Logic.{and_left, and_right, and_both}
use Rattle.spec_tree.proofs.Tests.{eq→eqb}
use Rattle.spec_cse.specs.Answer.{Intermediate, Intermediates, Arms, Let, Match, end, step, no_arm, arm}
use Rattle.spec_cse.specs.Read.{arm_count}
use Rattle.spec_cse.specs.AnswerRows.{let_row, match_row, arm_row, value_row, step_count, names_words, each_words, intermediate_words, intermediates_words, arms_words, read_spans, row_of_span, tree_of_span, intermediate_of_span, arms_of_spans, intermediate_ok, intermediates_ok, arms_ok}
use Rattle.laws.specs.answer.Fitting.{fitting, all_fitting, stmt_fitting, stmts_fitting, arms_fitting, numbered_in}
use Rattle.laws.specs.answer.Fronts.{statement_row, no_statement, TreeFront, ValuesFront, StmtFront, StmtsFront, ArmsFront}
use Rattle.laws.proofs.answer.SpanLaws.{join, tree_span, read_tree_span, span_tree}
use Rattle.laws.proofs.answer.RowSpans.{stmt_span, arm_spans, read_stmt, read_arms}
use Rattle.laws.proofs.answer.ReadBack.{stmt_back, stmt_row, arms_back}
use Rattle.laws.proofs.answer.ListNames.{numbered_back}
use Rattle.spec_tree.proofs.Lists.{cancel}

pub head_is : {a b : ℕ} {l r : List ℕ} → a ∷ l ≡ b ∷ r → a ≡ b
head_is e = cc

pub tail_is : {a b : ℕ} {l r : List ℕ} → a ∷ l ≡ b ∷ r → l ≡ r
tail_is e = cc

module _ (rows : List Row) where
  abbrev number : List ℕ → ℕ
  number = number_in rows

  abbrev name_at : ℕ → List ℕ
  name_at = name_in rows

  abbrev known : List ℕ → Bool
  known = numbered_in rows

  back : (s : List ℕ) → T (known s) → name_at (number s) ≡ s
  back s h = numbered_back rows s h

  -- ---- no part's words begin another's

  tree_only : (a b : Tree) (r s : List ℕ) → T (fitting known a) → T (fitting known b) → tokens number a ++ r ≡ tokens number b ++ s → a ≡ b
  tree_only a b r s h g e =
      let p = sym (read_tree_span number known a h r) ∙ (ap read_spans e ∙ read_tree_span number known b g s) in
      let q : tree_span number a ≡ tree_span number b = cc in
      sym (span_tree number name_at known back a h) ∙ (ap (tree_of_span name_at) q ∙ span_tree number name_at known back b g)

  stmt_only : (a b : Intermediate) (r s : List ℕ) → T (stmt_fitting known a) → T (stmt_fitting known b) → intermediate_words number a ++ r ≡ intermediate_words number b ++ s → a ≡ b
  stmt_only a b r s h g e =
      let p = sym (read_stmt number known a h r) ∙ (ap read_spans e ∙ read_stmt number known b g s) in
      let q : stmt_span number a ≡ stmt_span number b = cc in
      sym (stmt_back number name_at known back a h) ∙ (ap (intermediate_of_span name_at) q ∙ stmt_back number name_at known back b g)

  pub tree_rest : {l r s : List ℕ} → TreeFront rows l r → TreeFront rows l s → r ≡ s
  tree_rest {l} {r} {s} f g =
      let e = sym f.words ∙ g.words in
      let k = tree_only f.tree g.tree r s f.fits g.fits e in
      cancel (tokens number f.tree) (e ∙ ap (λ (t : Tree). tokens number t ++ s) (sym k))

  pub stmt_rest : {l r s : List ℕ} → StmtFront rows l r → StmtFront rows l s → r ≡ s
  stmt_rest {l} {r} {s} f g =
      let e = sym f.words ∙ g.words in
      let k = stmt_only f.stmt g.stmt r s f.fits g.fits e in
      cancel (intermediate_words number f.stmt) (e ∙ ap (λ (t : Intermediate). intermediate_words number t ++ s) (sym k))

  -- ---- values and results

  pub values_none : (row : ℕ) (l : List ℕ) → ValuesFront rows row 0 l l
  unfolding each_words trees_ok all_fitting
  values_none row l = record { values = []; count = refl; passes = tt; fits = tt; words = refl }

  values_parts :
      (row n : ℕ) (l r : List ℕ) (vs : List Tree) → length vs ≡ suc n → T (trees_ok vs) → T (all_fitting known vs) → l ≡ each_words number row vs ++ r
      → (l1 : List ℕ) × (l2 : List ℕ) × (l ≡ row ∷ l1) × TreeFront rows l1 l2 × ValuesFront rows row n l2 r
  unfolding each_words trees_ok all_fitting
  values_parts row n l r [] c p f e = absurd (omega arith)
  values_parts row n l r (t ∷ vs) c p f e =
      let z : word row 0 ≡ row = omega arith in (
        tokens number t ++ (each_words number row vs ++ r),
        each_words number row vs ++ r,
        e ∙ rw (z, append_assoc (tokens number t) (each_words number row vs) r),
        record { tree = t; passes = and_left (tree_ok t) (trees_ok vs) p; fits = and_left (fitting known t) (all_fitting known vs) f; words = refl },
        record { values = vs; count = omega arith; passes = and_right (tree_ok t) (trees_ok vs) p; fits = and_right (fitting known t) (all_fitting known vs) f; words = refl },
      )

  pub values_zero : (row : ℕ) {l r : List ℕ} → ValuesFront rows row 0 l r → l ≡ r
  values_zero row {l} {r} f = go f.values f.count f.words
    where
      go : (vs : List Tree) → length vs ≡ 0 → l ≡ each_words number row vs ++ r → l ≡ r
      go [] c e = unfold each_words in e
      go (t ∷ vs) c e = absurd (omega arith)

  pub values_apart :
      (row n : ℕ) {l r : List ℕ} → ValuesFront rows row (suc n) l r → (l1 : List ℕ) × (l2 : List ℕ) × (l ≡ row ∷ l1) × TreeFront rows l1 l2 × ValuesFront rows row n l2 r
  values_apart row n {l} {r} f = values_parts row n l r f.values f.count f.passes f.fits f.words

  pub values_more : (row n : ℕ) {l l1 l2 r : List ℕ} → l ≡ row ∷ l1 → TreeFront rows l1 l2 → ValuesFront rows row (suc n) l r → ValuesFront rows row n l2 r
  values_more row n {l} {l1} {l2} {r} e t f =
      let p = values_parts row n l r f.values f.count f.passes f.fits f.words in
      let same : l1 ≡ p.0 = tail_is (sym e ∙ p.2) in
      let t' : TreeFront rows l1 p.1 = subst (λ (m : List ℕ). TreeFront rows m p.1) (sym same) p.3 in
      subst (λ (m : List ℕ). ValuesFront rows row n m r) (tree_rest t' t) p.4

  pub values_cons : (row n : ℕ) {l l1 l2 r : List ℕ} → l ≡ row ∷ l1 → TreeFront rows l1 l2 → ValuesFront rows row n l2 r → ValuesFront rows row (suc n) l r
  unfolding each_words trees_ok all_fitting
  values_cons row n {l} {l1} {l2} {r} e t f =
      let z : word row 0 ≡ row = omega arith in
      record {
        values = t.tree ∷ f.values;
        count = ap suc f.count;
        passes = and_both (tree_ok t.tree) (trees_ok f.values) t.passes f.passes;
        fits = and_both (fitting known t.tree) (all_fitting known f.values) t.fits f.fits;
        words = e ∙ rw (z, append_assoc (tokens number t.tree) (each_words number row f.values) r, ← f.words, ← t.words);
      }

  -- ---- statements

  stmt_front : (s : Intermediate) (r : List ℕ) → T (stmt_fitting known s) → (w : ℕ) × (l : List ℕ) × (intermediate_words number s ++ r ≡ w ∷ l) × T (statement_row w)
  unfolding intermediate_words stmt_span row_of_span
  stmt_front (Let n e) r h =
      let w = word let_row (name_code number n) in
      let k : kind_of w ≡ 29 = omega arith in
      (w, tokens number e ++ r, refl, rw k tt)
  stmt_front (Match k key ns arms) r h =
      let w = word (match_row k) (suc (length ns + arm_count arms)) in
      let z = stmt_row number known (Match k key ns arms) h in
      let below = tokens number key ++ (names_words number ns ++ arms_words number arms) in
      (w, below ++ r, refl, and_both (leb 29 (kind_of w)) (ltb (kind_of w) 33) (le→leb 29 (kind_of w) z.0) (lt→ltb (kind_of w) 33 z.1))

  -- a statement's first row
  pub stmt_starts : {l r : List ℕ} → StmtFront rows l r → (w : ℕ) × (l1 : List ℕ) × (l ≡ w ∷ l1) × T (statement_row w)
  stmt_starts {l} {r} f =
      let p = stmt_front f.stmt r f.fits in
      (p.0, p.1, f.words ∙ p.2, p.3)

  pub stmt_longer : {l r : List ℕ} → StmtFront rows l r → length r < length l
  unfolding intermediate_words
  stmt_longer {l} {r} f = go f.stmt f.words
    where
      go : (s : Intermediate) → l ≡ intermediate_words number s ++ r → length r < length l
      go (Let n e) q = rw q (omega (arith, length-append (tokens number e) r))
      go (Match k key ns arms) q = rw q (omega (arith, length-append (tokens number key ++ (names_words number ns ++ arms_words number arms)) r))

  pub not_both : (b : Bool) → T b → T (not b) → ⊥
  not_both true t u = u
  not_both false t u = t

  pub stmts_none : (l : List ℕ) → T (no_statement l) → StmtsFront rows 0 l l
  unfolding intermediates_words intermediates_ok stmts_fitting step_count
  stmts_none l h = record { stmts = end; count = refl; passes = tt; fits = tt; words = refl; last = h }

  pub stmts_cons : (n : ℕ) {l l1 r : List ℕ} → StmtFront rows l l1 → StmtsFront rows n l1 r → StmtsFront rows (suc n) l r
  unfolding intermediates_words intermediates_ok stmts_fitting step_count
  stmts_cons n {l} {l1} {r} s f =
      record {
        stmts = step s.stmt f.stmts;
        count = ap suc f.count;
        passes = and_both (intermediate_ok s.stmt) (intermediates_ok f.stmts) s.passes f.passes;
        fits = and_both (stmt_fitting known s.stmt) (stmts_fitting known f.stmts) s.fits f.fits;
        words = s.words ∙ rw (append_assoc (intermediate_words number s.stmt) (intermediates_words number f.stmts) r, ← f.words);
        last = f.last;
      }

  -- none, or one and others
  pub data StmtsParts (n : ℕ) (l r : List ℕ) : Type 0 where
    no_more : n ≡ 0 → l ≡ r → T (no_statement l) → StmtsParts n l r
    one_more : (m : ℕ) (l1 : List ℕ) → n ≡ suc m → StmtFront rows l l1 → StmtsFront rows m l1 r → StmtsParts n l r

  pub stmts_apart : (n : ℕ) {l r : List ℕ} → StmtsFront rows n l r → StmtsParts n l r
  unfolding intermediates_words intermediates_ok stmts_fitting step_count
  stmts_apart n {l} {r} f = go f.stmts f.count f.passes f.fits f.words
    where
      go : (k : Intermediates) → step_count k ≡ n → T (intermediates_ok k) → T (stmts_fitting known k) → l ≡ intermediates_words number k ++ r → StmtsParts n l r
      go end c p q e = no_more (sym c) e (subst (λ (m : List ℕ). T (no_statement m)) (sym e) f.last)
      go (step s k) c p q e =
          one_more (step_count k) (intermediates_words number k ++ r) (sym c)
          (record {
            stmt = s;
            passes = and_left (intermediate_ok s) (intermediates_ok k) p;
            fits = and_left (stmt_fitting known s) (stmts_fitting known k) q;
            words = e ∙ append_assoc (intermediate_words number s) (intermediates_words number k) r;
          })
          (record {
            stmts = k;
            count = refl;
            passes = and_right (intermediate_ok s) (intermediates_ok k) p;
            fits = and_right (stmt_fitting known s) (stmts_fitting known k) q;
            words = refl;
            last = f.last;
          })

  starts_not : {l r : List ℕ} → StmtFront rows l r → T (no_statement l) → ⊥
  unfolding no_statement
  starts_not {l} {r} f h =
      let p = stmt_starts f in
      not_both (statement_row p.0) p.3 (subst (λ (m : List ℕ). T (no_statement m)) p.2 h)

  -- one statement in front, and then the others
  pub stmts_more : (n : ℕ) {l l1 r : List ℕ} → StmtFront rows l l1 → StmtsFront rows n l r → (m : ℕ) × (n ≡ suc m) × StmtsFront rows m l1 r
  stmts_more n {l} {l1} {r} s f = go (stmts_apart n f)
    where
      go : StmtsParts n l r → (m : ℕ) × (n ≡ suc m) × StmtsFront rows m l1 r
      go (no_more c e h) = absurd (starts_not s h)
      go (one_more m k c t g) = (m, c, subst (λ (x : List ℕ). StmtsFront rows m x r) (stmt_rest t s) g)

  -- where a statement's row is in front, a statement is
  pub stmts_first : (n : ℕ) {l r : List ℕ} → StmtsFront rows n l r → (T (no_statement l) → ⊥) → (l1 : List ℕ) × StmtFront rows l l1
  stmts_first n {l} {r} f h = go (stmts_apart n f)
    where
      go : StmtsParts n l r → (l1 : List ℕ) × StmtFront rows l l1
      go (no_more c e q) = absurd (h q)
      go (one_more m k c t g) = (k, t)

  -- how many, and what is left
  pub stmts_rest : (m n : ℕ) {l r s : List ℕ} → StmtsFront rows m l r → StmtsFront rows n l s → (m ≡ n) × (r ≡ s)
  stmts_rest zero n {l} {r} {s} f g = go (stmts_apart zero f) (stmts_apart n g)
    where
      go : StmtsParts zero l r → StmtsParts n l s → (zero ≡ n) × (r ≡ s)
      go (no_more c e h) (no_more d q i) = (sym d, sym e ∙ q)
      go (no_more c e h) (one_more k l1 d t u) = absurd (starts_not t h)
      go (one_more k l1 c t u) b = absurd (omega arith)
  stmts_rest (suc m) n {l} {r} {s} f g = go (λ i l1 a b. stmts_rest m i a b) (stmts_apart (suc m) f)
    where
      go : ((i : ℕ) (l1 : List ℕ) → StmtsFront rows m l1 r → StmtsFront rows i l1 s → (m ≡ i) × (r ≡ s)) → StmtsParts (suc m) l r → (suc m ≡ n) × (r ≡ s)
      go more (no_more c e h) = absurd (omega arith)
      go more (one_more k l1 c t u) =
          let b = stmts_more n t g in
          let z : k ≡ m = omega arith in
          let p = more b.0 l1 (subst (λ (j : ℕ). StmtsFront rows j l1 r) z u) b.2 in
          (ap suc p.0 ∙ sym b.1, p.1)

  -- ---- arms

  pub arms_none : (n : ℕ) (l : List ℕ) → ArmsFront rows n 0 l l
  unfolding arms_words arms_ok arms_fitting arm_count
  arms_none n l = record { arms = no_arm; count = refl; passes = tt; fits = tt; words = refl }

  one_arm : (s : Intermediates) (vs : List Tree) (l : Arms) (r : List ℕ) → arms_words number (arm s vs l) ++ r ≡ arms_words number (arm s vs no_arm) ++ (arms_words number l ++ r)
  unfolding arms_words
  one_arm s vs l r =
      let a = intermediates_words number s in
      let b = each_words number value_row vs in
      let c = arms_words number l in
      let w = word arm_row (step_count s + length vs) in
      let e : (a ++ (b ++ c)) ++ r ≡ (a ++ (b ++ [])) ++ (c ++ r) = simp append_assoc in
      ap (λ (m : List ℕ). w ∷ m) e

  -- one arm in front, and then m others
  pub arms_cons : (n m : ℕ) {l l1 r : List ℕ} → ArmsFront rows n 1 l l1 → ArmsFront rows n m l1 r → ArmsFront rows n (suc m) l r
  unfolding arms_ok arms_fitting arm_count
  arms_cons n m {l} {l1} {r} f g = go f.arms f.count f.passes f.fits f.words
    where
      go : (a : Arms) → arm_count a ≡ 1 → T (arms_ok n a) → T (arms_fitting known a) → l ≡ arms_words number a ++ l1 → ArmsFront rows n (suc m) l r
      go no_arm c p q e = absurd (omega arith)
      go (arm s vs (arm s2 vs2 k)) c p q e = absurd (omega arith)
      go (arm s vs no_arm) c p q e =
          let here = intermediates_ok s && (eqb (length vs) n && trees_ok vs) in
          let there = stmts_fitting known s && all_fitting known vs in
          record {
            arms = arm s vs g.arms;
            count = ap suc g.count;
            passes = and_both here (arms_ok n g.arms) (and_left here true p) g.passes;
            fits = and_both there (arms_fitting known g.arms) (and_left there true q) g.fits;
            words = e ∙ (ap (λ (x : List ℕ). arms_words number (arm s vs no_arm) ++ x) g.words ∙ sym (one_arm s vs g.arms r));
          }

  pub arms_apart : (n m : ℕ) {l r : List ℕ} → ArmsFront rows n (suc m) l r → (l1 : List ℕ) × ArmsFront rows n 1 l l1 × ArmsFront rows n m l1 r
  unfolding arms_ok arms_fitting arm_count
  arms_apart n m {l} {r} f = go f.arms f.count f.passes f.fits f.words
    where
      go : (a : Arms) → arm_count a ≡ suc m → T (arms_ok n a) → T (arms_fitting known a) → l ≡ arms_words number a ++ r → (l1 : List ℕ) × ArmsFront rows n 1 l l1 × ArmsFront rows n m l1 r
      go no_arm c p q e = absurd (omega arith)
      go (arm s vs k) c p q e =
          let here = intermediates_ok s && (eqb (length vs) n && trees_ok vs) in
          let there = stmts_fitting known s && all_fitting known vs in (
            arms_words number k ++ r,
            record {
              arms = arm s vs no_arm;
              count = refl;
              passes = and_both here true (and_left here (arms_ok n k) p) tt;
              fits = and_both there true (and_left there (arms_fitting known k) q) tt;
              words = e ∙ one_arm s vs k r;
            },
            record { arms = k; count = omega arith; passes = and_right here (arms_ok n k) p; fits = and_right there (arms_fitting known k) q; words = refl },
          )

  pub arms_zero : (n : ℕ) {l r : List ℕ} → ArmsFront rows n 0 l r → l ≡ r
  unfolding arms_words arm_count
  arms_zero n {l} {r} f = go f.arms f.count f.words
    where
      go : (a : Arms) → arm_count a ≡ 0 → l ≡ arms_words number a ++ r → l ≡ r
      go no_arm c e = e
      go (arm s vs k) c e = absurd (omega arith)

  -- an arm's row, its statements and its values
  pub arm_made : (n c : ℕ) {l l1 l2 r : List ℕ} → l ≡ word arm_row (c + n) ∷ l1 → StmtsFront rows c l1 l2 → ValuesFront rows value_row n l2 r → ArmsFront rows n 1 l r
  unfolding arms_words arms_ok arms_fitting arm_count
  arm_made n c {l} {l1} {l2} {r} e f g =
      let w = word arm_row (step_count f.stmts + length g.values) in
      let z : word arm_row (c + n) ≡ w = omega (arith, f.count, g.count) in
      let a = intermediates_words number f.stmts in
      let b = each_words number value_row g.values in
      let q : l1 ≡ (a ++ (b ++ [])) ++ r = f.words ∙ (ap (λ (x : List ℕ). a ++ x) g.words ∙ simp append_assoc) in
      record {
        arms = arm f.stmts g.values no_arm;
        count = refl;
        passes =
            and_both (intermediates_ok f.stmts && (eqb (length g.values) n && trees_ok g.values)) true
            (and_both (intermediates_ok f.stmts) (eqb (length g.values) n && trees_ok g.values) f.passes
            (and_both (eqb (length g.values) n) (trees_ok g.values) (eq→eqb (length g.values) n g.count) g.passes)) tt;
        fits = and_both (stmts_fitting known f.stmts && all_fitting known g.values) true (and_both (stmts_fitting known f.stmts) (all_fitting known g.values) f.fits g.fits) tt;
        words = e ∙ ap₂ ◌∷◌ z q;
      }

  value_first : (n : ℕ) (vs : List Tree) (r : List ℕ) → length vs ≡ n → 1 ≤ n → T (no_statement (each_words number value_row vs ++ r))
  unfolding each_words no_statement
  value_first n [] r c h = absurd (omega arith)
  value_first n (t ∷ vs) r c h = tt

  pub arm_apart :
      (n : ℕ) {l r : List ℕ} → 1 ≤ n → ArmsFront rows n 1 l r
      → (c : ℕ) × (l1 : List ℕ) × (l2 : List ℕ) × (l ≡ word arm_row (c + n) ∷ l1) × StmtsFront rows c l1 l2 × ValuesFront rows value_row n l2 r
  unfolding arms_words arms_ok arms_fitting arm_count
  arm_apart n {l} {r} some f = go f.arms f.count f.passes f.fits f.words
    where
      go :
          (a : Arms) → arm_count a ≡ 1 → T (arms_ok n a) → T (arms_fitting known a) → l ≡ arms_words number a ++ r
          → (c : ℕ) × (l1 : List ℕ) × (l2 : List ℕ) × (l ≡ word arm_row (c + n) ∷ l1) × StmtsFront rows c l1 l2 × ValuesFront rows value_row n l2 r
      go no_arm c p q e = absurd (omega arith)
      go (arm s vs (arm s2 vs2 k)) c p q e = absurd (omega arith)
      go (arm s vs no_arm) c p q e =
          let g = and_left (intermediates_ok s && (eqb (length vs) n && trees_ok vs)) true p in
          let v = and_right (intermediates_ok s) (eqb (length vs) n && trees_ok vs) g in
          let h = and_left (stmts_fitting known s && all_fitting known vs) true q in
          let len : length vs ≡ n = eqb→eq (length vs) n (and_left (eqb (length vs) n) (trees_ok vs) v) in
          let a = intermediates_words number s in
          let b = each_words number value_row vs in
          let z : word arm_row (step_count s + length vs) ≡ word arm_row (step_count s + n) = omega arith in
          let y : (a ++ (b ++ [])) ++ r ≡ a ++ (b ++ r) = simp append_assoc in (
            step_count s,
            a ++ (b ++ r),
            b ++ r,
            e ∙ ap₂ ◌∷◌ z y,
            record {
              stmts = s;
              count = refl;
              passes = and_left (intermediates_ok s) (eqb (length vs) n && trees_ok vs) g;
              fits = and_left (stmts_fitting known s) (all_fitting known vs) h;
              words = refl;
              last = value_first n vs r len some;
            },
            record { values = vs; count = len; passes = and_right (eqb (length vs) n) (trees_ok vs) v; fits = and_right (stmts_fitting known s) (all_fitting known vs) h; words = refl },
          )

  arms_only : (a b : Arms) (r s : List ℕ) → arm_count a ≡ 1 → arm_count b ≡ 1 → T (arms_fitting known a) → T (arms_fitting known b) → arms_words number a ++ r ≡ arms_words number b ++ s → a ≡ b
  unfolding arm_count arm_spans join
  arms_only no_arm b r s c d h g e = absurd (omega arith)
  arms_only (arm i vs (arm i2 vs2 k)) b r s c d h g e = absurd (omega arith)
  arms_only (arm i vs no_arm) no_arm r s c d h g e = absurd (omega arith)
  arms_only (arm i vs no_arm) (arm j us (arm j2 us2 k)) r s c d h g e = absurd (omega arith)
  arms_only (arm i vs no_arm) (arm j us no_arm) r s c d h g e =
      let p = sym (read_arms number known (arm i vs no_arm) h r) ∙ (ap read_spans e ∙ read_arms number known (arm j us no_arm) g s) in
      let q : arm_spans number (arm i vs no_arm) ≡ arm_spans number (arm j us no_arm) = cc in
      sym (arms_back number name_at known back (arm i vs no_arm) h) ∙ (ap (arms_of_spans name_at) q ∙ arms_back number name_at known back (arm j us no_arm) g)

  pub arm_rest : (n : ℕ) {l r s : List ℕ} → ArmsFront rows n 1 l r → ArmsFront rows n 1 l s → r ≡ s
  arm_rest n {l} {r} {s} f g =
      let e = sym f.words ∙ g.words in
      let k = arms_only f.arms g.arms r s f.count g.count f.fits g.fits e in
      cancel (arms_words number f.arms) (e ∙ ap (λ (t : Arms). arms_words number t ++ s) (sym k))

  pub arms_more : (n m : ℕ) {l l1 r : List ℕ} → ArmsFront rows n 1 l l1 → ArmsFront rows n (suc m) l r → ArmsFront rows n m l1 r
  arms_more n m {l} {l1} {r} a f =
      let p = arms_apart n m f in
      subst (λ (x : List ℕ). ArmsFront rows n m x r) (arm_rest n p.1 a) p.2
