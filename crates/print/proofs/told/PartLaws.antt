-- A statement's rows and an arm's, taken apart at their places (Places). Assumes nothing.
use Prim.Native.Nat.{ℕ, suc, ◌+◌, ◌*◌, ◌/◌, ◌%◌, ◌≤◌, ◌<◌}
use native.Mathlib.Omega.{arith}
use mathlib.Core.Path.{◌≡◌, refl, sym, ap, ◌∙◌, subst}
use mathlib.Core.Bool.{Bool, true, false, ◌&&◌}
use mathlib.Core.List.{List, [], ◌∷◌, ◌++◌, append_assoc}
use borrow.Author.Tests.{eqb-true, eqb-false}
use lib.ListN.{length, get_or, drop, length-append}
use lib.Dec.{T, eqb, leb, ltb, leb→le, ltb→lt, eqb→eq}
use Rattle.spec_tree.specs.Kinds.{is_switch, arity_ok}
use Rattle.spec_tree.specs.Tree.{Name, input, xname, mname, Tree}
use Rattle.spec_tree.specs.Rows.{Row}
use Rattle.spec_tree.specs.Passes.{tree_ok, trees_ok}
use Rattle.spec_tree.specs.Tokens.{word, name_code, tokens, number_in}
use Rattle.spec_tree.proofs.Logic.{and_left, and_right}
use Rattle.spec_cse.specs.Answer.{Intermediate, Intermediates, Arms, Let, Match, step, no_arm, arm}
use Rattle.spec_cse.specs.Read.{arm_count}
use Rattle.spec_cse.specs.AnswerRows.{arm_row, value_row, step_count, names_words, each_words, intermediate_words, intermediates_words, arms_words, let_name, match_names, intermediate_ok, intermediates_ok, arms_ok}
use Rattle.laws.specs.answer.Fitting.{a_switch_kind, fitting, all_fitting, stmt_fitting, stmts_fitting, arms_fitting, numbered_in}
use Rattle.laws.proofs.answer.CodeLaws.{branch_fit, select_fit, default_fit}
use Rattle.print.specs.told.Places.{At, names_ahead, TreeAt, NamesAt, StmtAt, ArmAt, ArmsAt}
use Rattle.print.proofs.told.PlaceLaws.{at_left, at_right, at_in, at_head, at_tail, names_cons, let_code, ahead_names}

-- ---- how many arms a match has

so : (b c : Bool) → T c → b ≡ c → T b
so b c h e = subst (λ (x : Bool). T x) (sym e) h

pub two_arms : (m : ℕ) → T (is_switch 26 && arity_ok 26 (1 + m)) → m ≡ 2
two_arms m h = eqb→eq m 2 (so (eqb m 2) (is_switch 26 && arity_ok 26 (1 + m)) h (branch_fit 30 m refl))

-- a sign switch, an index switch, or one with a default
pub data Switches (k : ℕ) : Type 0 where
  by_sign : k ≡ 26 → Switches k
  by_index : k ≡ 27 → Switches k
  by_default : k ≡ 28 → Switches k

pub switches : (k : ℕ) → 26 ≤ k → k < 29 → Switches k
switches k low high = go (eqb k 26) refl (eqb k 27) refl
  where
    go : (a : Bool) → eqb k 26 ≡ a → (b : Bool) → eqb k 27 ≡ b → Switches k
    go true e b f = by_sign (eqb-true k 26 e)
    go false e true f = by_index (eqb-true k 27 f)
    go false e false f =
        let n = eqb-false k 26 e in
        let m = eqb-false k 27 f in
        by_default (omega (arith, n, m))

pub some_arms : (k m : ℕ) → Switches k → T (is_switch k && arity_ok k (1 + m)) → 1 ≤ m
some_arms k m (by_sign e) h = omega (arith, two_arms m (subst (λ (x : ℕ). T (is_switch x && arity_ok x (1 + m))) e h))
some_arms k m (by_index e) h =
    leb→le 1 m (and_left (leb 1 m) (leb m 16) (so (leb 1 m && leb m 16) (is_switch 27 && arity_ok 27 (1 + m)) (subst (λ (x : ℕ). T (is_switch x && arity_ok x (1 + m))) e h) (select_fit 31 m refl)))
some_arms k m (by_default e) h =
    let n : 2 ≤ m = leb→le 2 m (and_left (leb 2 m) (leb m 17) (so (leb 2 m && leb m 17) (is_switch 28 && arity_ok 28 (1 + m)) (subst (λ (x : ℕ). T (is_switch x && arity_ok x (1 + m))) e h) (default_fit 32 m (omega arith) (omega arith) (λ q. omega arith) (λ q. omega arith)))) in
    omega arith

module _ (rows : List Row) (ws : List ℕ) where
  abbrev number : List ℕ → ℕ
  number = number_in rows

  abbrev known : List ℕ → Bool
  known = numbered_in rows

  -- ---- a let

  pub record LetParts (n : Name) (e : Tree) (at : ℕ) : Type 0 where
    pub made : ℕ
    pub name : n ≡ xname made
    pub inside : at < length ws
    pub kind : get_or ws at 0 % 64 ≡ 29
    pub code : get_or ws at 0 / 64 ≡ 1 + 3 * made
    pub tree : TreeAt rows ws (at + 1) e
    pub words : at + 1 + length (tokens number e) ≡ at + length (intermediate_words number (Let n e))

  let_words : (n : Name) (e : Tree) → intermediate_words number (Let n e) ≡ word 29 (name_code number n) ∷ tokens number e
  unfolding intermediate_words
  let_words n e = refl

  let_named : (n : Name) → T (let_name n) → (x : ℕ) × (n ≡ xname x)
  unfolding let_name
  let_named (input s) h = absurd h
  let_named (xname x) h = (x, refl)
  let_named (mname x) h = absurd h

  pub let_parts : (n : Name) (e : Tree) (at : ℕ) → StmtAt rows ws at (Let n e) → LetParts n e at
  unfolding intermediate_ok stmt_fitting
  let_parts n e at h =
      let p = let_named n (and_left (let_name n) (fitting known e) h.fits) in
      let g = subst (At ws at) (let_words n e) h.here in
      let w = word 29 (name_code number n) in
      let r = at_head w (tokens number e) g in
      let c : name_code number n ≡ 1 + 3 * p.0 = ap (name_code number) p.1 ∙ let_code rows p.0 in
      record {
        made = p.0;
        name = p.1;
        inside = at_in w (tokens number e) g;
        kind = omega arith;
        code = omega arith;
        tree = record { passes = and_right (let_name n) (tree_ok e) h.passes; fits = and_right (let_name n) (fitting known e) h.fits; here = at_tail w (tokens number e) g };
        words = omega (arith, ap length (let_words n e));
      }

  -- ---- a match

  module _ (k : ℕ) (key : Tree) (ns : List Name) (arms : Arms) where
    abbrev after_key : ℕ → ℕ
    after_key at = at + 1 + length (tokens number key)

    pub record MatchParts (at : ℕ) : Type 0 where
      pub switch : Switches k
      pub arity : T (is_switch k && arity_ok k (1 + arm_count arms))
      pub inside : at < length ws
      pub kind : get_or ws at 0 % 64 ≡ k + 4
      pub below : get_or ws at 0 / 64 ≡ suc (length ns + arm_count arms)
      pub key_here : TreeAt rows ws (at + 1) key
      pub names_here : NamesAt rows ws (length ns) (after_key at) ns
      pub ahead : names_ahead (drop (after_key at) ws) ≡ length ns
      pub arms_here : ArmsAt rows ws (length ns) (arm_count arms) (after_key at + length ns) arms
      pub words : after_key at + length ns + length (arms_words number arms) ≡ at + length (intermediate_words number (Match k key ns arms))

    match_words : intermediate_words number (Match k key ns arms) ≡ word (k + 4) (suc (length ns + arm_count arms)) ∷ (tokens number key ++ (names_words number ns ++ arms_words number arms))
    unfolding intermediate_words
    match_words = refl

    names_long : (l : List Name) → length (names_words number l) ≡ length l
    names_long [] = unfold names_words in refl
    names_long (n ∷ l) = ap length (names_cons rows n l) ∙ ap suc (names_long l)

    arms_ahead : (l : Arms) → 1 ≤ arm_count l → (r : List ℕ) → names_ahead (names_words number ns ++ arms_words number l ++ r) ≡ length ns
    unfolding arms_words arm_count
    arms_ahead no_arm h r = absurd (omega arith)
    arms_ahead (arm s vs l) h r =
        let w = word arm_row (step_count s + length vs) in
        let below = intermediates_words number s ++ (each_words number value_row vs ++ arms_words number l) in
        ap names_ahead (append_assoc (names_words number ns) (w ∷ below) r) ∙ ahead_names rows ns w (below ++ r) (λ e. omega arith)

    pub match_parts : (at : ℕ) → StmtAt rows ws at (Match k key ns arms) → MatchParts at
    unfolding intermediate_ok stmt_fitting
    match_parts at h =
        let aw = arms_words number arms in
        let nw = names_words number ns in
        let w = word (k + 4) (suc (length ns + arm_count arms)) in
        let f1 = and_left (a_switch_kind k) (fitting known key && (match_names ns && arms_fitting known arms)) h.fits in
        let f2 = and_right (a_switch_kind k) (fitting known key && (match_names ns && arms_fitting known arms)) h.fits in
        let f3 = and_right (fitting known key) (match_names ns && arms_fitting known arms) f2 in
        let sw = is_switch k && arity_ok k (suc (arm_count arms)) in
        let okey = tree_ok key && ((leb 1 (length ns) && match_names ns) && arms_ok (length ns) arms) in
        let arity = and_left sw okey h.passes in
        let p2 = and_right sw okey h.passes in
        let p3 = and_right (tree_ok key) ((leb 1 (length ns) && match_names ns) && arms_ok (length ns) arms) p2 in
        let low = leb→le 26 k (and_left (leb 26 k) (ltb k 29) f1) in
        let high = ltb→lt k 29 (and_right (leb 26 k) (ltb k 29) f1) in
        let s = switches k low high in
        let g = subst (At ws at) match_words h.here in
        let r = at_head w (tokens number key ++ (nw ++ aw)) g in
        let t = at_tail w (tokens number key ++ (nw ++ aw)) g in
        let n = at_right (tokens number key) (nw ++ aw) t in
        let z : suc (arm_count arms) ≡ 1 + arm_count arms = omega arith in
        let ar : T (is_switch k && arity_ok k (1 + arm_count arms)) = subst (λ (x : ℕ). T (is_switch k && arity_ok k x)) z arity in
        record {
          switch = s;
          arity = ar;
          inside = at_in w (tokens number key ++ (nw ++ aw)) g;
          kind = omega arith;
          below = omega arith;
          key_here = record { passes = and_left (tree_ok key) ((leb 1 (length ns) && match_names ns) && arms_ok (length ns) arms) p2; fits = and_left (fitting known key) (match_names ns && arms_fitting known arms) f2; here = at_left (tokens number key) (nw ++ aw) t };
          names_here = record { count = refl; made = and_left (match_names ns) (arms_fitting known arms) f3; here = at_left nw aw n };
          ahead = ap names_ahead n.words ∙ arms_ahead arms (some_arms k (arm_count arms) s ar) n.rest;
          arms_here = record {
            count = refl;
            passes = and_right (leb 1 (length ns) && match_names ns) (arms_ok (length ns) arms) p3;
            fits = and_right (match_names ns) (arms_fitting known arms) f3;
            here = subst (λ (i : ℕ). At ws (after_key at + i) aw) (names_long ns) (at_right nw aw n);
          };
          words = omega (arith, ap length match_words, length-append (tokens number key) (nw ++ aw), length-append nw aw, names_long ns);
        }

  -- ---- an arm, and the others

  abbrev pub arm_words : Intermediates → List Tree → List ℕ
  arm_words s vs = word arm_row (step_count s + length vs) ∷ (intermediates_words number s ++ each_words number value_row vs)

  pub arms_split : (s : Intermediates) (vs : List Tree) (l : Arms) → arms_words number (arm s vs l) ≡ arm_words s vs ++ arms_words number l
  unfolding arms_words
  arms_split s vs l =
      ap (λ (x : List ℕ). word arm_row (step_count s + length vs) ∷ x) (sym (append_assoc (intermediates_words number s) (each_words number value_row vs) (arms_words number l)))

  module _ {n m at : ℕ} (s : Intermediates) (vs : List Tree) (l : Arms) (h : ArmsAt rows ws n m at (arm s vs l)) where
    abbrev own : Bool
    own = intermediates_ok s && (eqb (length vs) n && trees_ok vs)

    pub first_arm : ArmAt rows ws n at s vs
    unfolding arms_ok arms_fitting
    first_arm =
        let p = and_left own (arms_ok n l) h.passes in
        let q = and_right (intermediates_ok s) (eqb (length vs) n && trees_ok vs) p in
        let f = and_left (stmts_fitting known s && all_fitting known vs) (arms_fitting known l) h.fits in
        record {
          passes = and_left (intermediates_ok s) (eqb (length vs) n && trees_ok vs) p;
          fits = and_left (stmts_fitting known s) (all_fitting known vs) f;
          count = eqb→eq (length vs) n (and_left (eqb (length vs) n) (trees_ok vs) q);
          values_pass = and_right (eqb (length vs) n) (trees_ok vs) q;
          values_fit = and_right (stmts_fitting known s) (all_fitting known vs) f;
          here = at_left (arm_words s vs) (arms_words number l) (subst (At ws at) (arms_split s vs l) h.here);
        }

    pub other_arms : ArmsAt rows ws n (arm_count l) (at + length (arm_words s vs)) l
    unfolding arms_ok arms_fitting
    other_arms = record {
      count = refl;
      passes = and_right own (arms_ok n l) h.passes;
      fits = and_right (stmts_fitting known s && all_fitting known vs) (arms_fitting known l) h.fits;
      here = at_right (arm_words s vs) (arms_words number l) (subst (At ws at) (arms_split s vs l) h.here);
    }

  -- ---- a statement, and what stands after it

  pub stmts_split : (s : Intermediate) (l : Intermediates) (r : List ℕ) → intermediates_words number (step s l) ++ r ≡ intermediate_words number s ++ (intermediates_words number l ++ r)
  unfolding intermediates_words
  stmts_split s l r = append_assoc (intermediate_words number s) (intermediates_words number l) r

  module _ {at : ℕ} (s : Intermediate) (l : Intermediates) (r : List ℕ) (p : T (intermediates_ok (step s l))) (f : T (stmts_fitting known (step s l))) (h : At ws at (intermediates_words number (step s l) ++ r)) where
    pub first_stmt : StmtAt rows ws at s
    unfolding intermediates_ok stmts_fitting
    first_stmt = record {
      passes = and_left (intermediate_ok s) (intermediates_ok l) p;
      fits = and_left (stmt_fitting known s) (stmts_fitting known l) f;
      here = at_left (intermediate_words number s) (intermediates_words number l ++ r) (subst (At ws at) (stmts_split s l r) h);
    }

    pub stmts_pass : T (intermediates_ok l)
    unfolding intermediates_ok
    stmts_pass = and_right (intermediate_ok s) (intermediates_ok l) p

    pub stmts_fit : T (stmts_fitting known l)
    unfolding stmts_fitting
    stmts_fit = and_right (stmt_fitting known s) (stmts_fitting known l) f

    pub after_stmt : At ws (at + length (intermediate_words number s)) (intermediates_words number l ++ r)
    after_stmt = at_right (intermediate_words number s) (intermediates_words number l ++ r) (subst (At ws at) (stmts_split s l r) h)

    pub stmt_length : length (intermediates_words number (step s l) ++ r) ≡ length (intermediate_words number s) + length (intermediates_words number l ++ r)
    stmt_length = ap length (stmts_split s l r) ∙ length-append (intermediate_words number s) (intermediates_words number l ++ r)
