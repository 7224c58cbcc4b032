-- Match names, heads of matches, statements and whole answers put together and taken apart (Fronts). Assumes nothing.
use Prim.Native.Nat.{ℕ, zero, suc, ◌+◌, ◌*◌, ◌/◌, ◌%◌, ◌≤◌, ◌<◌}
use native.Mathlib.Omega.{arith}
use mathlib.Core.Path.{◌≡◌, refl, sym, ◌∙◌, ap, ap₂, subst}
use mathlib.Core.Bool.{Bool, true, false, ◌&&◌}
use mathlib.Core.List.{List, [], ◌∷◌, ◌++◌, append_assoc}
use borrow.Author.Tests.{eqb-true, eqb-false}
use lib.ListN.{length}
use lib.Dec.{T, eqb, leb, ltb, leb→le, eqb→eq, le→leb, lt→ltb}
use Rattle.spec_tree.specs.Kinds.{is_switch, arity_ok}
use Rattle.spec_tree.specs.Tree.{Name, input, xname, mname, Tree}
use Rattle.spec_tree.specs.Rows.{Row}
use Rattle.spec_tree.specs.Passes.{tree_ok}
use Rattle.spec_tree.specs.Tokens.{word, name_code, tokens, number_in, kind_of, below_of}
use Rattle.spec_tree.proofs.Logic.{and_left, and_right, and_both}
use Rattle.spec_tree.proofs.KindLaws.{arity_kind}
use Rattle.spec_tree.proofs.Tests.{eq→eqb}
use Rattle.spec_cse.specs.Answer.{Intermediate, Arms, Let, Match, no_arm, arm}
use Rattle.spec_cse.specs.Read.{arm_count}
use Rattle.spec_cse.specs.AnswerRows.{let_row, match_row, name_row, arm_row, result_row, step_count, names_words, each_words, intermediate_words, intermediates_words, arms_words, answer_words, let_name, match_names, intermediate_ok, arms_ok}
use Rattle.laws.specs.answer.Fitting.{fitting, a_switch_kind, stmt_fitting, arms_fitting, numbered_in}
use Rattle.laws.specs.answer.Fronts.{match_name_row, no_statement, no_match_name, TreeFront, ValuesFront, StmtFront, StmtsFront, ArmsFront, NamesFront, HeadFront, AnswerRows}
use Rattle.laws.proofs.answer.FrontLaws.{tail_is, head_is, not_both, tree_rest}

-- ---- match names

class_of : (b c n : ℕ) → b ≡ c + 3 * n → c < 3 → b % 3 ≡ c
class_of b c n e h = rw e (omega arith)

module _ (rows : List Row) where
  abbrev number : List ℕ → ℕ
  number = number_in rows

  abbrev known : List ℕ → Bool
  known = numbered_in rows

  pub names_none : (l : List ℕ) → T (no_match_name l) → NamesFront rows 0 l l
  unfolding names_words match_names
  names_none l h = record { names = []; count = refl; made = tt; words = refl; last = h }

  pub names_cons : (w n : ℕ) {l l1 r : List ℕ} → T (match_name_row w) → l ≡ w ∷ l1 → NamesFront rows n l1 r → NamesFront rows (suc n) l r
  unfolding names_words match_names name_code
  names_cons w n {l} {l1} {r} h e f =
      let k = eqb→eq (kind_of w) 33 (and_left (eqb (kind_of w) name_row) (eqb (below_of w % 3) 2) h) in
      let c = eqb→eq (below_of w % 3) 2 (and_right (eqb (kind_of w) name_row) (eqb (below_of w % 3) 2) h) in
      let z : w ≡ word name_row (2 + 3 * (below_of w / 3)) = omega arith in
      record {
        names = mname (below_of w / 3) ∷ f.names;
        count = ap suc f.count;
        made = f.made;
        words = e ∙ ap₂ ◌∷◌ z f.words;
        last = f.last;
      }

  name_front : (n : Name) (ns : List Name) → T (match_names (n ∷ ns)) → T (match_name_row (word name_row (name_code number n))) × T (match_names ns)
  unfolding match_names name_code
  name_front (input s) ns h = absurd h
  name_front (xname n) ns h = absurd h
  name_front (mname n) ns h =
      let w = word name_row (2 + 3 * n) in
      let k : kind_of w ≡ 33 = omega arith in
      let b : below_of w ≡ 2 + 3 * n = omega arith in
      let c : below_of w % 3 ≡ 2 = class_of (below_of w) 2 n b (omega arith) in
      (and_both (eqb (kind_of w) name_row) (eqb (below_of w % 3) 2) (eq→eqb (kind_of w) 33 k) (eq→eqb (below_of w % 3) 2 c), h)

  same_names :
      (a b : List Name) (r s : List ℕ) → T (match_names a) → T (match_names b) → T (no_match_name r) → T (no_match_name s) → names_words number a ++ r ≡ names_words number b ++ s
      → (length a ≡ length b) × (r ≡ s)
  unfolding names_words no_match_name
  same_names [] [] r s h g i j e = (refl, e)
  same_names [] (n ∷ b) r s h g i j e =
      absurd (not_both rows (match_name_row (word name_row (name_code number n))) (name_front n b g).0 (subst (λ (x : List ℕ). T (no_match_name x)) e i))
  same_names (n ∷ a) [] r s h g i j e =
      absurd (not_both rows (match_name_row (word name_row (name_code number n))) (name_front n a h).0 (subst (λ (x : List ℕ). T (no_match_name x)) (sym e) j))
  same_names (n ∷ a) (m ∷ b) r s h g i j e =
      let p = same_names a b r s (name_front n a h).1 (name_front m b g).1 i j (tail_is e) in
      (ap suc p.0, p.1)

  pub names_rest : (m n : ℕ) {l r s : List ℕ} → NamesFront rows m l r → NamesFront rows n l s → (m ≡ n) × (r ≡ s)
  names_rest m n {l} {r} {s} f g =
      let p = same_names f.names g.names r s f.made g.made f.last g.last (sym f.words ∙ g.words) in
      (sym f.count ∙ (p.0 ∙ g.count), p.1)

  -- ---- heads of matches

  switch_below : (k m : ℕ) → T (is_switch k && arity_ok k m) → (26 ≤ k) × (k < 29)
  switch_below k m h = (leb→le 26 k (and_left (is_switch k) (arity_ok k m) h), arity_kind k m (and_right (is_switch k) (arity_ok k m) h))

  pub head_rest : (n m i j : ℕ) {l r s : List ℕ} → HeadFront rows n m l r → HeadFront rows i j l s → (n ≡ i) × (m ≡ j) × (r ≡ s)
  head_rest n m i j {l} {r} {s} f g =
      let a = switch_below f.kind (suc m) f.switch in
      let b = switch_below g.kind (suc j) g.switch in
      let e = sym f.row ∙ g.row in
      let h = head_is e in
      let t = tail_is e in
      let z : n + m ≡ i + j = omega (arith, a, b, h) in
      let q = tree_rest rows (subst (λ (x : List ℕ). TreeFront rows x f.l2) t f.key) g.key in
      let p = names_rest n i (subst (λ (x : List ℕ). NamesFront rows n x r) q f.names) g.names in
      (p.0, omega (arith, p.0), p.1)

  -- a switch has an arm at least
  pub arms_some : (k m : ℕ) → T (is_switch k && arity_ok k (suc m)) → 1 ≤ m
  arms_some k zero h = absurd (go (eqb k 26) (eqb k 27) refl refl)
    where
      unfit : (j : ℕ) → k ≡ j → (T (arity_ok j 1) → ⊥) → ⊥
      unfit j e f = f (subst (λ (x : ℕ). T (arity_ok x 1)) e (and_right (is_switch k) (arity_ok k 1) h))

      go : (a b : Bool) → eqb k 26 ≡ a → eqb k 27 ≡ b → ⊥
      go true b p q = unfit 26 (eqb-true k 26 p) (unfold arity_ok in λ t. t)
      go false true p q = unfit 27 (eqb-true k 27 q) (unfold arity_ok in λ t. t)
      go false false p q =
          let x = eqb-false k 26 p in
          let y = eqb-false k 27 q in
          let z = switch_below k 1 h in
          unfit 28 (omega (arith, x, y, z)) (unfold arity_ok in λ t. t)
  arms_some k (suc m) h = omega arith

  arm_first : (arms : Arms) (r : List ℕ) → 1 ≤ arm_count arms → T (no_match_name (arms_words number arms ++ r))
  unfolding arm_count arms_words no_match_name
  arm_first no_arm r h = absurd (omega arith)
  arm_first (arm s vs l) r h =
      let w = word arm_row (step_count s + length vs) in
      let k : kind_of w ≡ 34 = omega arith in
      rw k tt

  -- ---- statements

  pub match_made : (n m : ℕ) {l l2 r : List ℕ} → HeadFront rows n m l l2 → ArmsFront rows n m l2 r → StmtFront rows l r
  unfolding intermediate_words intermediate_ok stmt_fitting
  match_made n m {l} {l2} {r} f g =
      let k = f.kind in
      let key = f.key.tree in
      let ns = f.names.names in
      let arms = g.arms in
      let len = f.names.count in
      let sw : T (is_switch k && arity_ok k (suc (arm_count arms))) = subst (λ (x : ℕ). T (is_switch k && arity_ok k (suc x))) (sym g.count) f.switch in
      let ok : T (arms_ok (length ns) arms) = subst (λ (x : ℕ). T (arms_ok x arms)) (sym len) g.passes in
      let some : T (leb 1 (length ns)) = le→leb 1 (length ns) (omega (arith, f.some, len)) in
      let z : word (match_row k) (suc (n + m)) ≡ word (match_row k) (suc (length ns + arm_count arms)) = omega (arith, len, g.count) in
      let a = tokens number key in
      let b = names_words number ns in
      let c = arms_words number arms in
      let y : f.l1 ≡ (a ++ (b ++ c)) ++ r = f.key.words ∙ (ap (λ (x : List ℕ). a ++ x) (f.names.words ∙ ap (λ (x : List ℕ). b ++ x) g.words) ∙ simp append_assoc) in
      let KindOk = switch_below k (suc m) f.switch in
      record {
        stmt = Match k key ns arms;
        passes =
            and_both (is_switch k && arity_ok k (suc (arm_count arms))) (tree_ok key && ((leb 1 (length ns) && match_names ns) && arms_ok (length ns) arms)) sw
            (and_both (tree_ok key) ((leb 1 (length ns) && match_names ns) && arms_ok (length ns) arms) f.key.passes
            (and_both (leb 1 (length ns) && match_names ns) (arms_ok (length ns) arms) (and_both (leb 1 (length ns)) (match_names ns) some f.names.made) ok));
        fits =
            and_both (a_switch_kind k) (fitting known key && (match_names ns && arms_fitting known arms))
            (and_both (leb 26 k) (ltb k 29) (le→leb 26 k KindOk.0) (lt→ltb k 29 KindOk.1))
            (and_both (fitting known key) (match_names ns && arms_fitting known arms) f.key.fits
            (and_both (match_names ns) (arms_fitting known arms) f.names.made g.fits));
        words = f.row ∙ ap₂ ◌∷◌ z y;
      }

  pub match_apart :
      (w : ℕ) {l l1 r : List ℕ} → StmtFront rows l r → l ≡ w ∷ l1 → (kind_of w ≡ 29 → ⊥) → (n : ℕ) × (m : ℕ) × (l2 : List ℕ) × HeadFront rows n m l l2 × ArmsFront rows n m l2 r
  unfolding intermediate_words intermediate_ok stmt_fitting
  match_apart w {l} {l1} {r} f e other = go f.stmt f.passes f.fits f.words
    where
      go :
          (s : Intermediate) → T (intermediate_ok s) → T (stmt_fitting known s) → l ≡ intermediate_words number s ++ r
          → (n : ℕ) × (m : ℕ) × (l2 : List ℕ) × HeadFront rows n m l l2 × ArmsFront rows n m l2 r
      go (Let n t) p q y = absurd (other (let h = head_is (sym e ∙ y) in omega arith))
      go (Match k key ns arms) p q y =
          let sw = is_switch k && arity_ok k (suc (arm_count arms)) in
          let ds = leb 1 (length ns) && match_names ns in
          let g = and_right sw (tree_ok key && (ds && arms_ok (length ns) arms)) p in
          let h = and_right (tree_ok key) (ds && arms_ok (length ns) arms) g in
          let d = and_left ds (arms_ok (length ns) arms) h in
          let u = and_right (a_switch_kind k) (fitting known key && (match_names ns && arms_fitting known arms)) q in
          let v = and_right (fitting known key) (match_names ns && arms_fitting known arms) u in
          let s = and_left sw (tree_ok key && (ds && arms_ok (length ns) arms)) p in
          let a = tokens number key in
          let b = names_words number ns in
          let c = arms_words number arms in
          let y2 : (a ++ (b ++ c)) ++ r ≡ a ++ (b ++ (c ++ r)) = simp append_assoc in (
            length ns,
            arm_count arms,
            c ++ r,
            record {
              kind = k;
              l1 = a ++ (b ++ (c ++ r));
              l2 = b ++ (c ++ r);
              switch = s;
              some = leb→le 1 (length ns) (and_left (leb 1 (length ns)) (match_names ns) d);
              row = y ∙ ap (λ (x : List ℕ). word (match_row k) (suc (length ns + arm_count arms)) ∷ x) y2;
              key = record { tree = key; passes = and_left (tree_ok key) (ds && arms_ok (length ns) arms) g; fits = and_left (fitting known key) (match_names ns && arms_fitting known arms) u; words = refl };
              names = record { names = ns; count = refl; made = and_right (leb 1 (length ns)) (match_names ns) d; words = refl; last = arm_first arms r (arms_some k (arm_count arms) s) };
            },
            record { arms = arms; count = refl; passes = and_right ds (arms_ok (length ns) arms) h; fits = and_right (match_names ns) (arms_fitting known arms) v; words = refl },
          )

  pub let_made : (w : ℕ) {l l1 r : List ℕ} → l ≡ w ∷ l1 → kind_of w ≡ 29 → below_of w % 3 ≡ 1 → TreeFront rows l1 r → StmtFront rows l r
  unfolding intermediate_words intermediate_ok stmt_fitting let_name name_code
  let_made w {l} {l1} {r} e k c t =
      let z : w ≡ word let_row (1 + 3 * (below_of w / 3)) = omega arith in
      record { stmt = Let (xname (below_of w / 3)) t.tree; passes = t.passes; fits = t.fits; words = e ∙ ap₂ ◌∷◌ z t.words }

  pub let_apart : (w : ℕ) {l l1 r : List ℕ} → StmtFront rows l r → l ≡ w ∷ l1 → kind_of w ≡ 29 → (below_of w % 3 ≡ 1) × TreeFront rows l1 r
  unfolding intermediate_words intermediate_ok stmt_fitting let_name name_code
  let_apart w {l} {l1} {r} f e k = go f.stmt f.passes f.fits f.words
    where
      go : (s : Intermediate) → T (intermediate_ok s) → T (stmt_fitting known s) → l ≡ intermediate_words number s ++ r → (below_of w % 3 ≡ 1) × TreeFront rows l1 r
      go (Let (input s) t) p q y = absurd p
      go (Let (xname n) t) p q y = (let h = head_is (sym e ∙ y) in let b : below_of w ≡ 1 + 3 * n = omega arith in class_of (below_of w) 1 n b (omega arith), record { tree = t; passes = p; fits = q; words = tail_is (sym e ∙ y) })
      go (Let (mname n) t) p q y = absurd p
      go (Match j key ns arms) p q y =
          let sw = is_switch j && arity_ok j (suc (arm_count arms)) in
          let b = switch_below j (suc (arm_count arms)) (and_left sw (tree_ok key && ((leb 1 (length ns) && match_names ns) && arms_ok (length ns) arms)) p) in
          let h = head_is (sym e ∙ y) in
          absurd (omega (arith, b))

  -- ---- answers

  pub answer_made : (c n : ℕ) {ws l : List ℕ} → StmtsFront rows c ws l → ValuesFront rows result_row n l [] → AnswerRows rows ws
  unfolding answer_words
  answer_made c n {ws} {l} f g =
      record {
        answer = record { inters = f.stmts; results = g.values; extracted = 0 };
        parts = f.passes;
        results = g.passes;
        parts_fit = f.fits;
        results_fit = g.fits;
        words = f.words ∙ ap (λ (x : List ℕ). intermediates_words number f.stmts ++ x) (g.words ∙ append_nil (each_words number result_row g.values));
      }
    where
      append_nil : (x : List ℕ) → x ++ [] ≡ x
      append_nil [] = refl
      append_nil (w ∷ x) = ap (λ (r : List ℕ). w ∷ r) (append_nil x)

  result_first : (vs : List Tree) → T (no_statement (each_words number result_row vs))
  unfolding each_words no_statement
  result_first [] = tt
  result_first (t ∷ vs) = tt

  pub answer_apart : {ws : List ℕ} → AnswerRows rows ws → (c : ℕ) × (n : ℕ) × (l : List ℕ) × StmtsFront rows c ws l × ValuesFront rows result_row n l []
  unfolding answer_words
  answer_apart {ws} a =
      let i = a.answer.inters in
      let vs = a.answer.results in (
        step_count i,
        length vs,
        each_words number result_row vs,
        record { stmts = i; count = refl; passes = a.parts; fits = a.parts_fit; words = a.words; last = result_first vs },
        record { values = vs; count = refl; passes = a.results; fits = a.results_fit; words = sym (append_nil (each_words number result_row vs)) },
      )
    where
      append_nil : (x : List ℕ) → x ++ [] ≡ x
      append_nil [] = refl
      append_nil (w ∷ x) = ap (λ (r : List ℕ). w ∷ r) (append_nil x)
