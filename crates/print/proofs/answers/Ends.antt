-- What is answered where a part ends or breaks, from what is answered of the parts that it is made of. Assumes nothing.
use Prim.Native.Nat.{ℕ, ◌+◌, ◌-◌, ◌/◌, ◌%◌, ◌≤◌, ◌<◌}
use native.Mathlib.Omega.{arith}
use mathlib.Core.Path.{◌≡◌, refl, sym, ◌∙◌, ap, ap₂, subst}
use mathlib.Core.Bool.{Bool, true, false, ◌&&◌, cond}
use mathlib.Core.Option.{none, some}
use mathlib.Core.Option as maybe
use Rattle.std.specs.Prelude.{Option, Some, None}
use mathlib.Core.List.{List}
use lib.ListN.{length, get_or, take, drop}
use Rattle.spec_tree.specs.Bytes.{every}
use Rattle.spec_tree.specs.Rows.{Row}
use Rattle.spec_tree.specs.Passes.{tree_ok}
use Rattle.spec_tree.specs.Tokens.{run_at}
use Rattle.fmt.specs.checked.Check.{tree_in, checked_answer}
use Rattle.laws.specs.answer.First.{first_word}
use Rattle.laws.specs.answer.Fronts.{TreeFront, ValuesFront, StmtFront, StmtsFront, ArmsFront, HeadFront, NamesFront, AnswerRows, Results}
use Rattle.laws.proofs.answer.CodeLaws.{run_within, tree_ends, tree_none, tree_unfit, tree_unnamed, head_low, head_high, head_ends, head_unfit, let_broken, let_ends, match_broken, match_ends, arm_valueless, arm_ends, answer_some, answer_not}
use Rattle.spec_cse.specs.AnswerRows.{rows_of_answer}
use Rattle.laws.specs.answer.Seen.{seen, once, a_match, binds, match_binds}
use Rattle.std.specs.Bool.{then_some}
use borrow.Author.Tests.{le-leb, lt-ltb, leb-true, ltb-true, ne_eqb, clash}
use lib.Dec.{leb, ltb, eqb}
use Rattle.spec_tree.specs.Kinds.{is_switch, arity_ok}
use Rattle.laws.proofs.answer.WayLaws.{laid_unshaped, laid_shaped}
use Rattle.print.specs.answers.Said.{Stands, Says, Heads, Tells}

-- ---- a row that a match may have

and_left : (a b : Bool) → true ≡ (a && b) → a ≡ true
and_left true b e = refl
and_left false b e = absurd (clash (sym e))

and_right : (a b : Bool) → true ≡ (a && b) → b ≡ true
and_right true b e = sym e
and_right false b e = absurd (clash (sym e))

pub match_row : (w : ℕ) → true ≡ a_match w → 30 ≤ w % 64
match_row w e = leb-true 30 (w % 64) (and_left (leb 30 (w % 64)) (ltb (w % 64) 33) e)

pub match_most : (w : ℕ) → true ≡ a_match w → w % 64 ≤ 32
match_most w e = let l = ltb-true (w % 64) 33 (and_right (leb 30 (w % 64)) (ltb (w % 64) 33) e) in omega arith

no_match : (w : ℕ) → false ≡ a_match w → (w % 64 < 30 → ⊥) → (32 < w % 64 → ⊥) → ⊥
no_match w e a b =
    let l : 30 ≤ w % 64 = omega arith in
    let g : w % 64 < 33 = omega arith in
    let y : a_match w ≡ true = ap₂ ◌&&◌ (le-leb 30 (w % 64) l) (lt-ltb (w % 64) 33 g) in
    clash (e ∙ y)

-- ---- parts

module _ (rows : List Row) (ws : List ℕ) (at : ℕ) where
  -- ---- `tree`

  pub no_tree : None ≡ checked_answer at (run_at ws at) (tree_ok (tree_in rows ws at)) → (r : List ℕ) → TreeFront rows (drop at ws) r → ⊥
  unfolding checked_answer
  no_tree e = go (run_at ws at) (tree_ok (tree_in rows ws at)) refl refl e
    where
      go : (o : maybe.Option ℕ) (b : Bool) → run_at ws at ≡ o → tree_ok (tree_in rows ws at) ≡ b → None ≡ checked_answer at o b → (r : List ℕ) → TreeFront rows (drop at ws) r → ⊥
      go none b p q e r f = tree_none rows ws at p r f
      go (some n) true p q e r f = let z : ◌≡◌ {A = ℕ} 0 1 = cc in omega arith
      go (some n) false p q e r f = tree_unfit rows ws at q r f

  pub a_tree : (e : ℕ) → Some e ≡ checked_answer at (run_at ws at) (tree_ok (tree_in rows ws at)) → (n : ℕ) × (run_at ws at ≡ some n) × (tree_ok (tree_in rows ws at) ≡ true) × (e ≡ at + n)
  unfolding checked_answer
  a_tree e h = go (run_at ws at) (tree_ok (tree_in rows ws at)) refl refl h
    where
      go :
          (o : maybe.Option ℕ) (b : Bool) → run_at ws at ≡ o → tree_ok (tree_in rows ws at) ≡ b → Some e ≡ checked_answer at o b
          → (n : ℕ) × (run_at ws at ≡ some n) × (tree_ok (tree_in rows ws at) ≡ true) × (e ≡ at + n)
      go none b p q h = let z : ◌≡◌ {A = ℕ} 0 1 = cc in absurd (omega arith)
      go (some n) true p q h = (n, p, q, cc)
      go (some n) false p q h = let z : ◌≡◌ {A = ℕ} 0 1 = cc in absurd (omega arith)

  pub tree_inside : (e : ℕ) → Some e ≡ checked_answer at (run_at ws at) (tree_ok (tree_in rows ws at)) → (at ≤ e) × (e ≤ length ws)
  tree_inside e h =
      let p = a_tree e h in
      let w = run_within ws at p.0 p.1 in
      (omega (arith, p.3), omega (arith, p.3, w))

  pub tree_says :
      (e m : ℕ) → Some e ≡ checked_answer at (run_at ws at) (tree_ok (tree_in rows ws at)) → m ≡ e - at → true ≡ every (first_word rows) (take m (drop at ws))
      → Stands (TreeFront rows) ws at e
  tree_says e m h z f =
      let p = a_tree e h in
      let y : m ≡ p.0 = omega (arith, z, p.3) in
      let g : every (first_word rows) (take p.0 (drop at ws)) ≡ true = ap (λ (k : ℕ). every (first_word rows) (take k (drop at ws))) (sym y) ∙ sym f in
      let t = tree_ends rows ws at p.0 p.1 p.2 g in
      let q = tree_inside e h in
      (q.0, q.1, subst (λ (k : ℕ). TreeFront rows (drop at ws) (drop k ws)) (sym p.3) t.1)

  pub tree_denies :
      (e m : ℕ) → Some e ≡ checked_answer at (run_at ws at) (tree_ok (tree_in rows ws at)) → m ≡ e - at → false ≡ every (first_word rows) (take m (drop at ws))
      → (r : List ℕ) → TreeFront rows (drop at ws) r → ⊥
  tree_denies e m h z f =
      let p = a_tree e h in
      let y : m ≡ p.0 = omega (arith, z, p.3) in
      let g : every (first_word rows) (take p.0 (drop at ws)) ≡ false = ap (λ (k : ℕ). every (first_word rows) (take k (drop at ws))) (sym y) ∙ sym f in
      tree_unnamed rows ws at p.0 p.1 g

  pub tree_told :
      (e m : ℕ) → Some e ≡ checked_answer at (run_at ws at) (tree_ok (tree_in rows ws at)) → m ≡ e - at → (b : Bool) → b ≡ every (first_word rows) (take m (drop at ws))
      → Says (TreeFront rows) ws at (then_some b e)
  tree_told e m h z true f = tree_says e m h z f
  tree_told e m h z false f = tree_denies e m h z f

  -- ---- a match

  pub head_no : at < length ws → false ≡ a_match (get_or ws at 0) → (n m : ℕ) (r : List ℕ) → HeadFront rows n m (drop at ws) r → ⊥
  head_no h e n m r f = no_match (get_or ws at 0) e (λ l. head_low rows ws at h l n m r f) (λ l. head_high rows ws at h l n m r f)

  -- a switch has its key and its arms as operands
  with_key : (c : ℕ) → c < get_or ws at 0 / 64 → (b : Bool) → b ≡ (is_switch (get_or ws at 0 % 64 - 4) && arity_ok (get_or ws at 0 % 64 - 4) (get_or ws at 0 / 64 - c))
      → b ≡ (is_switch (get_or ws at 0 % 64 - 4) && arity_ok (get_or ws at 0 % 64 - 4) (1 + (get_or ws at 0 / 64 - 1 - c)))
  with_key c l b f =
      let y : get_or ws at 0 / 64 - c ≡ 1 + (get_or ws at 0 / 64 - 1 - c) = omega (arith, l) in
      f ∙ ap (λ (k : ℕ). is_switch (get_or ws at 0 % 64 - 4) && arity_ok (get_or ws at 0 % 64 - 4) k) y

  pub head_told :
      at < length ws → (s e c : ℕ) → c ≡ e - s → Stands (TreeFront rows) ws (at + 1) s → Stands (NamesFront rows c) ws s e → true ≡ a_match (get_or ws at 0) → (c ≡ 0 → ⊥) → c < get_or ws at 0 / 64 → (b : Bool)
      → b ≡ (is_switch (get_or ws at 0 % 64 - 4) && arity_ok (get_or ws at 0 % 64 - 4) (get_or ws at 0 / 64 - c))
      → Heads rows ws at (then_some b (record { start = e; names = c; arms = get_or ws at 0 / 64 - 1 - c }))
  head_told h s e c z key named m n l true fit =
      ((omega (arith, key.0, named.0), named.1, head_ends rows ws at h s e c key.2 named.2 l (match_row (get_or ws at 0) m) n (with_key c l true fit)), omega (arith, z, named.1))
  head_told h s e c z key named m n l false fit = head_unfit rows ws at h s e c key.2 named.2 l (with_key c l false fit)

  -- ---- a part whose last part is given

  pub let_says : (p : Option ℕ) → at < length ws → get_or ws at 0 % 64 ≡ 29 → get_or ws at 0 / 64 % 3 ≡ 1 → Says (TreeFront rows) ws (at + 1) p → Says (StmtFront rows) ws at p
  let_says (Some e) h k c s = (omega (arith, s.0), s.1, let_ends rows ws at h e k c s.2)
  let_says None h k c s = let_broken rows ws at h k s

  pub match_says :
      (p : Option ℕ) (n m s : ℕ) → at < length ws → (get_or ws at 0 % 64 ≡ 29 → ⊥) → Stands (HeadFront rows n m) ws at s → Says (ArmsFront rows n m) ws s p → Says (StmtFront rows) ws at p
  match_says (Some e) n m s h k f a = (omega (arith, a.0, f.0), a.1, match_ends rows ws n m at s e f.2 a.2)
  match_says None n m s h k f a = match_broken rows ws at h n m s k f.2 a

  pub arm_says :
      (p : Option ℕ) (n c s : ℕ) → 1 ≤ n → at < length ws → get_or ws at 0 % 64 ≡ 34 → get_or ws at 0 / 64 ≡ c + n → Stands (StmtsFront rows c) ws (at + 1) s → Says (ValuesFront rows 35 n) ws s p
      → Says (ArmsFront rows n 1) ws at p
  arm_says (Some e) n c s o h k b f v = (omega (arith, v.0, f.0), v.1, arm_ends rows ws n at o h c s f.2 e k b v.2)
  arm_says None n c s o h k b f v = arm_valueless rows ws n at o h c s f.2 v

pub shaped_tells : (rows : List Row) (ws : List ℕ) (b : Bool) (c e : ℕ) → StmtsFront rows c (drop 0 ws) (drop e ws) → Tells (Results rows (drop e ws)) b → Tells (AnswerRows rows ws) b
shaped_tells rows ws true c e f t = answer_some rows ws c e f t
shaped_tells rows ws false c e f t = answer_not rows ws c e f t

-- ---- the whole

module _ (rows : List Row) (ws : List ℕ) (b : Bool) (tells : Tells (AnswerRows rows ws) b) where
  pub unshaped : b ≡ false → false ≡ rows_of_answer rows ws
  unshaped e = laid_unshaped rows ws (subst (λ (x : Bool). Tells (AnswerRows rows ws) x) e tells)

  pub laid : b ≡ true → (once ws && seen ws 0 (length ws)) ≡ rows_of_answer rows ws
  laid e = laid_shaped rows ws (subst (λ (x : Bool). Tells (AnswerRows rows ws) x) e tells)

-- ---- a row that binds nothing

pub bind_no : (ws : List ℕ) (c at : ℕ) → (get_or ws at 0 % 64 ≡ 29 → ⊥) → false ≡ a_match (get_or ws at 0) → false ≡ binds c (get_or ws at 0) (drop (at + 1) ws)
unfolding binds
bind_no ws c at n e =
    let w = get_or ws at 0 in
    let l = drop (at + 1) ws in
    sym (ap (λ (b : Bool). cond b (eqb (w / 64) c) (cond (a_match w) (match_binds c l) false)) (ne_eqb (w % 64) 29 n) ∙ ap (λ (b : Bool). cond b (match_binds c l) false) (sym e))
