-- Words at places: a part's words are those of its own parts, one after another (Places). Assumes nothing.
use Prim.Native.Nat.{ℕ, suc, ◌+◌, ◌-◌, ◌*◌, ◌/◌, ◌≤◌, ◌<◌}
use native.Mathlib.Omega.{arith}
use native.Mathlib.Nat.{add-zero}
use mathlib.Core.Path.{◌≡◌, refl, sym, ap, ◌∙◌, subst}
use mathlib.Core.Bool.{Bool, true}
use mathlib.Core.Option.{some}
use mathlib.Core.List.{List, [], ◌∷◌, ◌++◌, append_assoc}
use borrow.Author.Tests.{eq-eqb, ne_eqb}
use lib.ListN.{length, get_or, drop, length-append, length-drop}
use lib.Seq.{drop-drop, drop-append_seam, get_or-drop}
use lib.Dec.{T}
use Rattle.spec_tree.specs.Tree.{Name, input, xname, mname, Tree, Op, nil}
use Rattle.spec_tree.specs.Rows.{Row}
use Rattle.spec_tree.specs.Passes.{tree_ok, trees_ok}
use Rattle.spec_tree.specs.Tokens.{word, name_code, tokens, all_tokens, number_in, name_in, kind_of, read, trees_at, words_of, run_at}
use Rattle.spec_tree.proofs.Logic.{and_left, and_right, and_both}
use Rattle.spec_tree.proofs.TokenLaws.{words_none, tree_at}
use Rattle.spec_tree.proofs.TokenCode.{coded, all_coded, renamed, read_tree, reads_back, all_tokens_cons}
use Rattle.spec_cse.specs.AnswerRows.{name_row, names_words, each_words, match_names}
use Rattle.laws.specs.answer.Fitting.{fitting, all_fitting, numbered_in}
use Rattle.laws.proofs.answer.ListNames.{numbered_back}
use Rattle.laws.proofs.answer.TreeFronts.{fitting_coded, tree_words}
use Rattle.print.specs.told.Places.{At, names_ahead, TreeAt, ValuesAt}

-- ---- words

module _ {ws : List ℕ} {at : ℕ} where
  pub at_left : (a b : List ℕ) → At ws at (a ++ b) → At ws at a
  at_left a b h = record { rest = b ++ h.rest; words = h.words ∙ append_assoc a b h.rest }

  pub at_right : (a b : List ℕ) → At ws at (a ++ b) → At ws (at + length a) b
  at_right a b h =
      record { rest = h.rest; words = sym (drop-drop (length a) at ws) ∙ (ap (drop (length a)) (h.words ∙ append_assoc a b h.rest) ∙ drop-append_seam a (b ++ h.rest)) }

  pub at_room : (a : List ℕ) → At ws at a → length a ≤ length ws - at
  at_room a h = omega (arith, length-drop at ws, ap length h.words, length-append a h.rest)

  module _ (w : ℕ) (a : List ℕ) (h : At ws at (w ∷ a)) where
    pub at_in : at < length ws
    at_in = let r = at_room (w ∷ a) h in omega arith

    pub at_head : get_or ws at 0 ≡ w
    at_head = ap (λ (i : ℕ). get_or ws i 0) (sym (add-zero at)) ∙ (sym (get_or-drop at ws 0 0) ∙ ap (λ (l : List ℕ). get_or l 0 0) h.words)

    pub at_tail : At ws (at + 1) a
    at_tail = at_right (w ∷ []) a h

-- ---- rows by their kind

ahead_cons : (w : ℕ) (l : List ℕ) → kind_of w ≡ 33 → names_ahead (w ∷ l) ≡ suc (names_ahead l)
unfolding names_ahead
ahead_cons w l h = rw (eq-eqb (kind_of w) 33 h, names_ahead)

ahead_none : (w : ℕ) (l : List ℕ) → (kind_of w ≡ 33 → ⊥) → names_ahead (w ∷ l) ≡ 0
unfolding names_ahead
ahead_none w l h = rw (ne_eqb (kind_of w) 33 h, names_ahead)

module _ (rows : List Row) where
  abbrev number : List ℕ → ℕ
  number = number_in rows

  abbrev known : List ℕ → Bool
  known = numbered_in rows

  abbrev name_at : ℕ → List ℕ
  name_at = name_in rows

  pub each_cons : (row : ℕ) (t : Tree) (l : List Tree) → each_words number row (t ∷ l) ≡ word row 0 ∷ (tokens number t ++ each_words number row l)
  unfolding each_words
  each_cons row t l = refl

  pub each_none : (row : ℕ) → each_words number row [] ≡ []
  unfolding each_words
  each_none row = refl

  pub names_cons : (n : Name) (l : List Name) → names_words number (n ∷ l) ≡ word name_row (name_code number n) ∷ names_words number l
  unfolding names_words
  names_cons n l = refl

  pub match_code : (x : ℕ) → name_code number (mname x) ≡ 2 + 3 * x
  unfolding name_code
  match_code x = refl

  pub let_code : (x : ℕ) → name_code number (xname x) ≡ 1 + 3 * x
  unfolding name_code
  let_code x = refl

  pub ahead_names : (ns : List Name) (w : ℕ) (r : List ℕ) → (kind_of w ≡ 33 → ⊥) → names_ahead (names_words number ns ++ (w ∷ r)) ≡ length ns
  ahead_names [] w r h = unfold names_words in ahead_none w r h
  ahead_names (n ∷ l) w r h =
      ap (λ (x : List ℕ). names_ahead (x ++ (w ∷ r))) (names_cons n l)
      ∙ (ahead_cons (word name_row (name_code number n)) (names_words number l ++ (w ∷ r)) (omega arith) ∙ ap suc (ahead_names l w r h))

  same_tree : (t : Tree) → T (fitting known t) → renamed number name_at t ≡ t
  same_tree t h =
      let c = fitting_coded known t h in
      let a : read name_at (all_tokens number (t ∷ [])) ≡ t ∷ [] = reads_back number name_at known (numbered_back rows) (t ∷ []) (one_coded c) in
      let b : read name_at (all_tokens number (t ∷ [])) ≡ renamed number name_at t ∷ read name_at (all_tokens number []) =
      ap (read name_at) (all_tokens_cons number t []) ∙ read_tree number name_at known t c (all_tokens number []) in
      let e : renamed number name_at t ∷ read name_at (all_tokens number []) ≡ t ∷ [] = sym b ∙ a in
      cc
    where
      one_coded : T (coded known t) → T (all_coded known (t ∷ []))
      one_coded c = unfold all_coded in and_both (coded known t) true c tt

module _ (rows : List Row) (ws : List ℕ) where
  -- ---- trees

  pub tree_run : {at : ℕ} (t : Tree) → TreeAt rows ws at t → run_at ws at ≡ some (length (tokens (number rows) t))
  unfolding run_at
  tree_run {at} t h =
      let z : length (tokens (number rows) t) + 0 ≡ length (tokens (number rows) t) = omega arith in
      ap (λ (l : List ℕ). words_of l 1) h.here.words ∙ (tree_words (number rows) (known rows) t h.fits h.here.rest 0 0 (words_none h.here.rest) ∙ ap some z)

  pub tree_is : {at : ℕ} (t : Tree) → TreeAt rows ws at t → get_or (trees_at (name_at rows) ws) at (Op 0 nil) ≡ t
  tree_is {at} t h =
      let r = h.here.rest in
      let reads : read (name_at rows) (drop at ws) ≡ t ∷ read (name_at rows) r =
      ap (read (name_at rows)) h.here.words ∙ (read_tree (number rows) (name_at rows) (known rows) t (fitting_coded (known rows) t h.fits) r ∙ ap (λ (x : Tree). x ∷ read (name_at rows) r) (same_tree rows t h.fits)) in
      tree_at (name_at rows) ws at ∙ ap (λ (x : List Tree). get_or x 0 (Op 0 nil)) reads

  -- ---- values and results, one first and the others

  module _ {row n at : ℕ} (t : Tree) (l : List Tree) (h : ValuesAt rows ws row n at (t ∷ l)) where
    there : At ws at (word row 0 ∷ (tokens (number rows) t ++ each_words (number rows) row l))
    there = subst (At ws at) (each_cons rows row t l) h.here

    pub value_in : at < length ws
    value_in = at_in (word row 0) (tokens (number rows) t ++ each_words (number rows) row l) there

    pub value_row_is : get_or ws at 0 ≡ row
    value_row_is = let e = at_head (word row 0) (tokens (number rows) t ++ each_words (number rows) row l) there in omega arith

    pub value_tree : TreeAt rows ws (at + 1) t
    unfolding trees_ok all_fitting
    value_tree = record {
      passes = and_left (tree_ok t) (trees_ok l) h.passes;
      fits = and_left (fitting (known rows) t) (all_fitting (known rows) l) h.fits;
      here = at_left (tokens (number rows) t) (each_words (number rows) row l) (at_tail (word row 0) (tokens (number rows) t ++ each_words (number rows) row l) there);
    }

    pub value_others : ValuesAt rows ws row (length l) (at + 1 + length (tokens (number rows) t)) l
    unfolding trees_ok all_fitting
    value_others = record {
      count = refl;
      passes = and_right (tree_ok t) (trees_ok l) h.passes;
      fits = and_right (fitting (known rows) t) (all_fitting (known rows) l) h.fits;
      here = at_right (tokens (number rows) t) (each_words (number rows) row l) (at_tail (word row 0) (tokens (number rows) t ++ each_words (number rows) row l) there);
    }

    pub value_words : at + 1 + length (tokens (number rows) t) + length (each_words (number rows) row l) ≡ at + length (each_words (number rows) row (t ∷ l))
    value_words = omega (arith, ap length (each_cons rows row t l), length-append (tokens (number rows) t) (each_words (number rows) row l))

  -- ---- match names

  -- what `names` is told of a first name
  pub record NameFirst (n : Name) (l : List Name) (at : ℕ) : Type 0 where
    pub made : ℕ
    pub name : n ≡ mname made
    pub inside : at < length ws
    pub code : get_or ws at 0 / 64 ≡ 2 + 3 * made
    pub others : T (match_names l)
    pub after : At ws (at + 1) (names_words (number rows) l)

  pub name_first : {at : ℕ} (n : Name) (l : List Name) → T (match_names (n ∷ l)) → At ws at (names_words (number rows) (n ∷ l)) → NameFirst n l at
  unfolding match_names
  name_first {at} (input s) l h g = absurd h
  name_first {at} (xname x) l h g = absurd h
  name_first {at} (mname x) l h g =
      let k = subst (At ws at) (names_cons rows (mname x) l) g in
      let w = word name_row (name_code (number rows) (mname x)) in
      let e = at_head w (names_words (number rows) l) k in
      record {
        made = x;
        name = refl;
        inside = at_in w (names_words (number rows) l) k;
        code = omega (arith, e, match_code rows x);
        others = h;
        after = at_tail w (names_words (number rows) l) k;
      }
