-- A tree in front of words: found where it passes and its symbols of the list are named by their first rows, and nowhere else (Fronts, First). Assumes nothing.
use Prim.Native.Nat.{ℕ, zero, suc, ◌+◌, ◌*◌, ◌/◌, ◌%◌, ◌≤◌, ◌<◌}
use native.Mathlib.Omega.{arith}
use mathlib.Core.Path.{◌≡◌, refl, sym, ◌∙◌, ap, ap₂, subst}
use mathlib.Core.Bool.{Bool, true, false, ◌&&◌, cond}
use mathlib.Core.Option.{some}
use mathlib.Core.List.{List, [], ◌∷◌, ◌++◌, append_assoc}
use borrow.Author.Tests.{eq-eqb, ne_eqb}
use lib.IntN.{ℤ, pos}
use lib.ListN.{length, get_or, take, drop, length-append, length-drop, take-append-drop}
use lib.Seq.{length-take-le, drop-drop, take_at}
use lib.Dec.{T, eqb, leb, ltb, leb→le, ltb→lt, eqb→eq, lt→ltb}
use Rattle.spec_tree.specs.Bytes.{eq_bytes, every}
use Rattle.spec_tree.specs.Symbol.{is_name}
use Rattle.spec_tree.specs.Tree.{Name, input, xname, mname, Tree, Forest, Sym, Const, Op, nil, ◌◂◌, operands, forest, folds}
use Rattle.spec_tree.specs.Rows.{Row, row_sym, row_const, row_op}
use Rattle.spec_tree.specs.Passes.{all_of, symbol_ok, of_paper, operands_ok, tree_ok}
use Rattle.spec_tree.specs.Tokens.{word, constant_code, name_code, tokens, tokens_of, all_tokens, number_in, name_of_row, name_in, kind_of, below_of, takes, constant_at, name_by, read, trees_at, trees_in, words_of, run_at}
use Rattle.spec_tree.proofs.Logic.{and_left, and_right, and_both}
use Rattle.spec_tree.proofs.Tests.{every_more, eq→eqb}
use Rattle.spec_tree.proofs.TreeLaws.{eq_bytes_refl}
use Rattle.spec_tree.proofs.TokenLaws.{Word, a_symbol, a_constant, an_operation, word_is, leaf_takes, operation_takes, symbol_tree, constant_tree, operation_tree, operands_forest, made, read_cons, complete_tail, complete_length, complete_read, words_complete, words_none, tree_at}
use Rattle.spec_tree.proofs.TokenCode.{known_name, coded, coded_each, all_coded, fits_word, renamed, read_tree, reads_back, all_tokens_cons, all_tokens_append, tokens_forest, constant_written}
use Rattle.spec_rewrite.proofs.Names.{holds, holds_each, holds_all, holds_left, holds_right}
use Rattle.laws.specs.answer.Fitting.{an_operation_kind, fitting, fitting_each, numbered_in}
use Rattle.laws.specs.answer.First.{is_symbol_row, first_row, first_word}
use Rattle.laws.specs.answer.Fronts.{TreeFront}
use Rattle.laws.proofs.answer.SpanLaws.{ok_fitting}
use Rattle.laws.proofs.answer.ListNames.{numbered_back}

-- ---- trees that fit, in words of the tree's own laws

module _ (known : List ℕ → Bool) where
  mutual
    unfolding fitting coded

    pub fitting_coded : (t : Tree) → T (fitting known t) → T (coded known t)
    fitting_coded (Sym n) h = h
    fitting_coded (Const c) h = tt
    fitting_coded (Op k f) h =
        let a = and_left (an_operation_kind k) (fitting_each known f) h in
        let b = ltb→lt k 29 (and_right (leb 2 k) (ltb k 29) a) in
        and_both (fits_word k) (coded_each known f)
        (and_both (leb 2 k) (ltb k 64) (and_left (leb 2 k) (ltb k 29) a) (lt→ltb k 64 (omega arith)))
        (each_coded f (and_right (an_operation_kind k) (fitting_each known f) h))

    each_coded : (f : Forest) → T (fitting_each known f) → T (coded_each known f)
    each_coded nil h = tt
    each_coded (t ◂ f) h =
        and_both (coded known t) (coded_each known f) (fitting_coded t (and_left (fitting known t) (fitting_each known f) h))
        (each_coded f (and_right (fitting known t) (fitting_each known f) h))

-- ---- how many words a tree is

module _ (number : List ℕ → ℕ) (known : List ℕ → Bool) where
  words_front : (w n m all : ℕ) (ws : List ℕ) → all ≡ suc m → words_of ws (n + takes w) ≡ some m → words_of (w ∷ ws) (suc n) ≡ some all
  unfolding words_of
  words_front w n m all ws z e = rw (e, z)

  mutual
    unfolding fitting tokens operands

    pub tree_words : (t : Tree) → T (fitting known t) → (r : List ℕ) (k m : ℕ) → words_of r k ≡ some m → words_of (tokens number t ++ r) (suc k) ≡ some (length (tokens number t) + m)
    tree_words (Sym n) h r k m e =
        let w = word 0 (name_code number n) in
        let z : k + takes w ≡ k = omega (arith, leaf_takes w (omega arith)) in
        words_front w k m (1 + m) r (omega arith) (rw z e)
    tree_words (Const c) h r k m e =
        let w = word 1 (constant_code c) in
        let z : k + takes w ≡ k = omega (arith, leaf_takes w (omega arith)) in
        words_front w k m (1 + m) r (omega arith) (rw z e)
    tree_words (Op j f) h r k m e =
        let a = and_left (an_operation_kind j) (fitting_each known f) h in
        let low = leb→le 2 j (and_left (leb 2 j) (ltb j 29) a) in
        let high = ltb→lt j 29 (and_right (leb 2 j) (ltb j 29) a) in
        let w = word j (length (operands f)) in
        let b : below_of w ≡ length (operands f) = omega arith in
        let z : k + takes w ≡ length (operands f) + k = omega (arith, operation_takes w (omega arith), b) in
        words_front w k (length (tokens_of number f) + m) (suc (length (tokens_of number f)) + m) (tokens_of number f ++ r) (omega arith) (rw z (forest_words f (and_right (an_operation_kind j) (fitting_each known f) h) r k m e))

    pub forest_words : (f : Forest) → T (fitting_each known f) → (r : List ℕ) (k m : ℕ) → words_of r k ≡ some m → words_of (tokens_of number f ++ r) (length (operands f) + k) ≡ some (length (tokens_of number f) + m)
    forest_words nil h r k m e =
        let z : 0 + k ≡ k = omega arith in
        let y : 0 + m ≡ m = omega arith in
        rw (z, y) e
    forest_words (t ◂ f) h r k m e =
        let more = forest_words f (and_right (fitting known t) (fitting_each known f) h) r k m e in
        let z : suc (length (operands f)) + k ≡ suc (length (operands f) + k) = omega arith in
        let l = length-append (tokens number t) (tokens_of number f) in
        let y : length (tokens number t) + (length (tokens_of number f) + m) ≡ length (tokens number t ++ tokens_of number f) + m = omega (arith, l) in
        rw (append_assoc (tokens number t) (tokens_of number f) r, z)
        (tree_words t (and_left (fitting known t) (fitting_each known f) h) (tokens_of number f ++ r) (length (operands f) + k) (length (tokens_of number f) + m) more ∙ ap some y)

-- ---- words whose symbols of the list are named by their first rows

module _ (rows : List Row) where
  abbrev number : List ℕ → ℕ
  number = number_in rows

  abbrev pub name_at : ℕ → List ℕ
  name_at = name_in rows

  abbrev known : List ℕ → Bool
  known = numbered_in rows

  first_number : (n : ℕ) → T (first_row rows n) → number (name_at n) ≡ n
  unfolding first_row
  first_number n h = eqb→eq (number (name_at n)) n (and_right (is_symbol_row (get_or rows n (row_const (pos 0)))) (eqb (number (name_at n)) n) h)

  first_symbol : (w : ℕ) → kind_of w ≡ 0 → below_of w % 3 ≡ 0 → T (first_word rows w) → T (first_row rows (below_of w / 3))
  unfolding first_word
  first_symbol w k c h = rw (eq-eqb (kind_of w) 0 k, eq-eqb (below_of w % 3) 0 c) at h

  name_written : (class n : ℕ) → class < 3 → (class ≡ 0 → T (first_row rows n)) → name_code number (name_by name_at class n) ≡ class + 3 * n
  unfolding name_code name_by
  name_written zero n h f = omega (arith, first_number n (f refl))
  name_written (suc zero) n h f = omega arith
  name_written (suc (suc class)) n h f = omega arith

  name_known : (class n : ℕ) → (class ≡ 0 → T (first_row rows n)) → T (known_name known (name_by name_at class n))
  unfolding name_by known_name numbered_in
  name_known zero n f = subst (λ (s : List ℕ). T (eq_bytes s (name_at n))) (ap name_at (sym (first_number n (f refl)))) (eq_bytes_refl (name_at n))
  name_known (suc zero) n f = tt
  name_known (suc (suc class)) n f = tt

  made_written : (w : ℕ) (ts : List Tree) → takes w ≤ length ts → T (first_word rows w) → tokens number (made name_at w ts) ≡ w ∷ all_tokens number (take (takes w) ts)
  unfolding tokens all_tokens
  made_written w ts h f = go (word_is w)
    where
      go : Word w → tokens number (made name_at w ts) ≡ w ∷ all_tokens number (take (takes w) ts)
      go (a_symbol k) =
          let c = name_written (below_of w % 3) (below_of w / 3) (omega arith) (λ z. first_symbol w k z f) in
          let e : word 0 (name_code number (name_by name_at (below_of w % 3) (below_of w / 3))) ≡ w = omega (arith, c) in
          rw (symbol_tree name_at w (take (takes w) ts) k, leaf_takes w (omega arith)) (ap (λ (x : ℕ). x ∷ []) e)
      go (a_constant k) =
          let c = constant_written (below_of w) in
          let e : word 1 (constant_code (constant_at (below_of w))) ≡ w = omega (arith, c) in
          rw (constant_tree name_at w (take (takes w) ts) k, leaf_takes w (omega arith)) (ap (λ (x : ℕ). x ∷ []) e)
      go (an_operation k) =
          let z = operation_takes w k in
          let l = length-take-le (takes w) ts h in
          let e : word (kind_of w) (length (take (takes w) ts)) ≡ w = omega (arith, z, l) in
          rw (operation_tree name_at w (take (takes w) ts) k, operands_forest (take (takes w) ts), tokens_forest number (take (takes w) ts))
          (ap (λ (x : ℕ). x ∷ all_tokens number (take (takes w) ts)) e)

  nothing_written : all_tokens number (read name_at []) ≡ []
  unfolding all_tokens read
  nothing_written = refl

  every_first : (w : ℕ) (ws : List ℕ) → T (every (first_word rows) (w ∷ ws)) → T (first_word rows w) × T (every (first_word rows) ws)
  unfolding every
  every_first w ws h = (and_left (first_word rows w) (every (first_word rows) ws) h, and_right (first_word rows w) (every (first_word rows) ws) h)

  pub writes_back : (ws : List ℕ) (n : ℕ) → trees_in ws ≡ some n → T (every (first_word rows) ws) → all_tokens number (read name_at ws) ≡ ws
  writes_back [] n e h = nothing_written
  writes_back (w ∷ ws) n e h =
      let t = complete_tail w ws n e in
      let rs = read name_at ws in
      let f = every_first w ws h in
      let l = complete_length name_at ws t.trees t.are in
      let both = all_tokens_append number (take (takes w) rs) (drop (takes w) rs) in
      rw (read_cons name_at w ws, all_tokens_cons number (made name_at w rs) (drop (takes w) rs), made_written w rs (omega (arith, l, t)) f.0)
      (ap (λ (r : List ℕ). w ∷ r) (sym both ∙ rw (take-append-drop (takes w) rs) (writes_back ws t.trees t.are f.1)))

  abbrev named : Name → Bool
  named = known_name known

  holds_forest : (l : List Tree) → T (holds_all named l) → T (holds_each named (forest l))
  unfolding holds_all holds_each forest
  holds_forest [] h = tt
  holds_forest (t ∷ l) h = and_both (holds named t) (holds_each named (forest l)) (and_left (holds named t) (holds_all named l) h) (holds_forest l (and_right (holds named t) (holds_all named l) h))

  holds_made : (w : ℕ) (ts : List Tree) → T (holds_all named (take (takes w) ts)) → T (first_word rows w) → T (holds named (made name_at w ts))
  holds_made w ts h f = go (word_is w)
    where
      symbol : (t : Tree) (n : Name) → t ≡ Sym n → T (named n) → T (holds named t)
      symbol t n e k = unfold holds in subst (λ (x : Tree). T (holds named x)) (sym e) k

      constant : (t : Tree) (c : ℤ) → t ≡ Const c → T (holds named t)
      constant t c e = unfold holds in subst (λ (x : Tree). T (holds named x)) (sym e) tt

      operation : (t : Tree) (k : ℕ) (g : Forest) → t ≡ Op k g → T (holds_each named g) → T (holds named t)
      operation t k g e i = unfold holds in subst (λ (x : Tree). T (holds named x)) (sym e) i

      go : Word w → T (holds named (made name_at w ts))
      go (a_symbol k) = symbol _ _ (symbol_tree name_at w (take (takes w) ts) k) (name_known (below_of w % 3) (below_of w / 3) (λ z. first_symbol w k z f))
      go (a_constant k) = constant _ _ (constant_tree name_at w (take (takes w) ts) k)
      go (an_operation k) = operation _ _ _ (operation_tree name_at w (take (takes w) ts) k) (holds_forest (take (takes w) ts) h)

  nothing_held : T (holds_all named (read name_at []))
  unfolding holds_all read
  nothing_held = tt

  holds_more : (t : Tree) (l : List Tree) → T (holds named t) → T (holds_all named l) → T (holds_all named (t ∷ l))
  unfolding holds_all
  holds_more t l h g = and_both (holds named t) (holds_all named l) h g

  holds_read : (ws : List ℕ) → T (every (first_word rows) ws) → T (holds_all named (read name_at ws))
  holds_read [] h = nothing_held
  holds_read (w ∷ ws) h =
      let rs = read name_at ws in
      let f = every_first w ws h in
      let all : T (holds_all named (take (takes w) rs ++ drop (takes w) rs)) = rw (take-append-drop (takes w) rs) (holds_read ws f.1) in
      rw (read_cons name_at w ws)
      (holds_more (made name_at w rs) (drop (takes w) rs) (holds_made w rs (holds_left named (take (takes w) rs) (drop (takes w) rs) all) f.0)
      (holds_right named (take (takes w) rs) (drop (takes w) rs) all))

  -- ---- the words of a tree that passes name its symbols of the list by their first rows

  named_row : (r : Row) (s : List ℕ) → name_of_row r ≡ s → T (is_name s) → T (is_symbol_row r)
  unfolding name_of_row is_symbol_row
  named_row (row_sym n) s e h = tt
  named_row (row_const c) s e h = unfold is_name in subst (λ (x : List ℕ). T (is_name x)) (sym e) h
  named_row (row_op k ns) s e h = unfold is_name in subst (λ (x : List ℕ). T (is_name x)) (sym e) h

  known_first : (s : List ℕ) → T (known s) → T (is_name s) → T (first_row rows (number s))
  unfolding first_row
  known_first s k h =
      let b = numbered_back rows s k in
      and_both (is_symbol_row (get_or rows (number s) (row_const (pos 0)))) (eqb (number (name_at (number s))) (number s))
      (named_row (get_or rows (number s) (row_const (pos 0))) s (unfold name_in in b) h)
      (eq→eqb (number (name_at (number s))) (number s) (ap number b))

  other_first : (w : ℕ) → (kind_of w ≡ 0 → ⊥) → T (first_word rows w)
  unfolding first_word
  other_first w h = rw (ne_eqb (kind_of w) 0 h) tt

  made_first : (w : ℕ) → (below_of w % 3 ≡ 0 → ⊥) → T (first_word rows w)
  unfolding first_word
  made_first w h = go (eqb (kind_of w) 0)
    where
      go : (b : Bool) → T (cond (b && eqb (below_of w % 3) 0) (first_row rows (below_of w / 3)) true)
      go true = rw (ne_eqb (below_of w % 3) 0 h) tt
      go false = tt

  list_first : (w : ℕ) → T (first_row rows (below_of w / 3)) → T (first_word rows w)
  unfolding first_word
  list_first w h = go (eqb (kind_of w) 0 && eqb (below_of w % 3) 0)
    where
      go : (b : Bool) → T (cond b (first_row rows (below_of w / 3)) true)
      go true = h
      go false = tt

  class_of : (b c n : ℕ) → b ≡ c + 3 * n → c < 3 → b % 3 ≡ c
  class_of b c n e h = rw e (omega arith)

  symbol_first : (n : Name) → T (symbol_ok n) → T (named n) → T (first_word rows (word 0 (name_code number n)))
  unfolding symbol_ok known_name name_code
  symbol_first (input s) h k =
      let w = word 0 (3 * number s) in
      let b : below_of w ≡ 3 * number s = omega arith in
      let d : (3 * number s) / 3 ≡ number s = omega arith in
      list_first w (rw (b, d) (known_first s k h))
  symbol_first (xname n) h k =
      let w = word 0 (1 + 3 * n) in
      let b : below_of w ≡ 1 + 3 * n = omega arith in
      let c = class_of (below_of w) 1 n b (omega arith) in
      made_first w (λ z. omega (arith, c, z))
  symbol_first (mname n) h k =
      let w = word 0 (2 + 3 * n) in
      let b : below_of w ≡ 2 + 3 * n = omega arith in
      let c = class_of (below_of w) 2 n b (omega arith) in
      made_first w (λ z. omega (arith, c, z))

  abbrev tests : Forest → List Bool
  tests f = folds symbol_ok of_paper (λ k l. operands_ok k (length l) && all_of l) f

  mutual
    unfolding tree_ok all_of fitting tokens every

    tokens_first : (t : Tree) → T (tree_ok t) → T (fitting known t) → T (every (first_word rows) (tokens number t))
    tokens_first (Sym n) h g = and_both (first_word rows (word 0 (name_code number n))) true (symbol_first n h g) tt
    tokens_first (Const c) h g = let w = word 1 (constant_code c) in and_both (first_word rows w) true (other_first w (λ z. omega arith)) tt
    tokens_first (Op k f) h g =
        let a = and_left (an_operation_kind k) (fitting_each known f) g in
        let low = leb→le 2 k (and_left (leb 2 k) (ltb k 29) a) in
        let high = ltb→lt k 29 (and_right (leb 2 k) (ltb k 29) a) in
        let w = word k (length (operands f)) in
        and_both (first_word rows w) (every (first_word rows) (tokens_of number f)) (other_first w (λ z. omega arith))
        (each_first f (and_right (operands_ok k (length (tests f))) (all_of (tests f)) h) (and_right (an_operation_kind k) (fitting_each known f) g))

    each_first : (f : Forest) → T (all_of (tests f)) → T (fitting_each known f) → T (every (first_word rows) (tokens_of number f))
    each_first nil h g = tt
    each_first (t ◂ f) h g =
        every_more (first_word rows) (tokens number t) (tokens_of number f) (tokens_first t (and_left (tree_ok t) (all_of (tests f)) h) (and_left (fitting known t) (fitting_each known f) g))
        (each_first f (and_right (tree_ok t) (all_of (tests f)) h) (and_right (fitting known t) (fitting_each known f) g))

  -- ---- at a place

  abbrev pub here : List ℕ → ℕ → Tree
  here ws at = get_or (trees_at name_at ws) at (Op 0 nil)

  single : (l : List Tree) → length l ≡ 1 → l ≡ get_or l 0 (Op 0 nil) ∷ []
  single [] c = absurd (omega arith)
  single (t ∷ []) c = refl
  single (t ∷ (u ∷ l)) c = absurd (omega arith)

  one_held : (t : Tree) → T (holds_all named (t ∷ [])) → T (holds named t)
  unfolding holds_all
  one_held t h = and_left (holds named t) true h

  one_written : (t : Tree) (us : List ℕ) → all_tokens number (t ∷ []) ≡ us → tokens number t ≡ us
  one_written t us e = sym (append_nil (tokens number t)) ∙ (sym (nothing (tokens number t)) ∙ (sym (all_tokens_cons number t []) ∙ e))
    where
      append_nil : (l : List ℕ) → l ++ [] ≡ l
      append_nil [] = refl
      append_nil (w ∷ l) = ap (λ (r : List ℕ). w ∷ r) (append_nil l)

      nothing : (l : List ℕ) → l ++ all_tokens number [] ≡ l ++ []
      nothing l = unfold all_tokens in refl

  same_tree : (t : Tree) → T (fitting known t) → renamed number name_at t ≡ t
  same_tree t h =
      let c = fitting_coded known t h in
      let a : read name_at (all_tokens number (t ∷ [])) ≡ t ∷ [] = reads_back number name_at known (numbered_back rows) (t ∷ []) (one_coded c) in
      let b : read name_at (all_tokens number (t ∷ [])) ≡ renamed number name_at t ∷ read name_at (all_tokens number []) =
      ap (read name_at) (all_tokens_cons number t []) ∙ read_tree number name_at known t c (all_tokens number []) in
      let e : renamed number name_at t ∷ read name_at (all_tokens number []) ≡ t ∷ [] = sym b ∙ a in
      cc
    where
      one_coded : T (coded known t) → T (all_coded known (t ∷ []))
      one_coded c = unfold all_coded in and_both (coded known t) true c tt

  pub tree_found :
      (ws : List ℕ) (at n : ℕ) → at ≤ length ws → run_at ws at ≡ some n → T (tree_ok (here ws at)) → T (every (first_word rows) (take n (drop at ws)))
      → (at + n ≤ length ws) × TreeFront rows (drop at ws) (drop (at + n) ws)
  unfolding run_at
  tree_found ws at n inside e ok first =
      let l = drop at ws in
      let c = words_complete l 1 n e in
      let us = take n l in
      let rest = drop n l in
      let ts = read name_at us in
      let len = complete_length name_at us 1 c.1 in
      let t = get_or ts 0 (Op 0 nil) in
      let one : ts ≡ t ∷ [] = single ts len in
      let all : l ≡ us ++ rest = sym (take-append-drop n l) in
      let reads : read name_at l ≡ ts ++ read name_at rest = ap (read name_at) all ∙ complete_read name_at us rest 1 c.1 in
      let same : here ws at ≡ t = tree_at name_at ws at ∙ (ap (λ (x : List Tree). get_or x 0 (Op 0 nil)) (reads ∙ ap (λ (x : List Tree). x ++ read name_at rest) one)) in
      let okay : T (tree_ok t) = subst (λ (x : Tree). T (tree_ok x)) same ok in
      let held : T (holds named t) = one_held t (subst (λ (x : List Tree). T (holds_all named x)) one (holds_read us first)) in
      let written : tokens number t ≡ us = one_written t us (ap (all_tokens number) (sym one) ∙ writes_back us 1 c.1 first) in
      let left : drop n l ≡ drop (at + n) ws = drop-drop n at ws in
      let d = length-drop at ws in (
        omega (arith, c.0, d),
        record { tree = t; passes = okay; fits = ok_fitting known t okay held; words = all ∙ ap₂ (λ (x y : List ℕ). x ++ y) (sym written) left },
      )

  pub tree_there :
      (ws : List ℕ) (at : ℕ) (r : List ℕ) → TreeFront rows (drop at ws) r
      → (n : ℕ) × (run_at ws at ≡ some n) × T (tree_ok (here ws at)) × T (every (first_word rows) (take n (drop at ws)))
  unfolding run_at
  tree_there ws at r f =
      let t = f.tree in
      let us = tokens number t in
      let n = length us in
      let z : n + 0 ≡ n = omega arith in
      let run : words_of (us ++ r) 1 ≡ some n = tree_words number known t f.fits r 0 0 (words_none r) ∙ ap some z in
      let taken : take n (drop at ws) ≡ us = ap (take n) f.words ∙ take_at us r n refl in
      let back : renamed number name_at t ≡ t = same_tree t f.fits in
      let reads : read name_at (drop at ws) ≡ t ∷ read name_at r =
      ap (read name_at) f.words ∙ (read_tree number name_at known t (fitting_coded known t f.fits) r ∙ ap (λ (x : Tree). x ∷ read name_at r) back) in
      let same : here ws at ≡ t = tree_at name_at ws at ∙ ap (λ (x : List Tree). get_or x 0 (Op 0 nil)) reads in (
        n,
        ap (λ (x : List ℕ). words_of x 1) f.words ∙ run,
        subst (λ (x : Tree). T (tree_ok x)) (sym same) f.passes,
        subst (λ (x : List ℕ). T (every (first_word rows) x)) (sym taken) (tokens_first t f.passes f.fits),
      )
