-- What words that may be extracted from are as trees: operand counts, names below a number, and the tree at a place. Assumes nothing.
use Prim.Native.Nat.{ℕ, zero, suc, ◌+◌, ◌*◌, ◌/◌, ◌%◌, ◌≤◌, ◌<◌}
use native.Mathlib.Omega.{arith}
use mathlib.Core.Path.{◌≡◌, refl, sym, ◌∙◌, ap, ap₂, subst}
use mathlib.Core.Bool.{Bool, true, false, ◌&&◌, ◌||◌, cond}
use mathlib.Core.Option.{some}
use mathlib.Core.List.{List, [], ◌∷◌, ◌++◌}
use borrow.Author.Tests.{eq-eqb, ne_eqb}
use lib.ListN.{length, get_or, take, drop, take-append-drop}
use lib.Seq.{length-take-le}
use lib.Dec.{T, eqb, leb, ltb, le→leb}
use Rattle.spec_tree.specs.Bytes.{every}
use Rattle.spec_tree.specs.Kinds.{arity_ok}
use Rattle.spec_tree.specs.Symbol.{is_name}
use Rattle.spec_tree.specs.Tree.{Name, input, xname, mname, Tree, Forest, Sym, Const, Op, nil, ◌◂◌, forest}
use Rattle.spec_tree.specs.Facts.{nodes, nodes_of, all_nodes}
use Rattle.spec_tree.specs.Rows.{Row}
use Rattle.spec_tree.specs.Passes.{symbol_ok, operands_ok}
use Rattle.spec_tree.specs.Tokens.{kind_of, below_of, takes, name_by, name_in, numbered, read, trees_at, trees_in, tree_of_word}
use Rattle.spec_tree.proofs.Formed.{operand_count, well_formed, well_formed_each}
use Rattle.spec_tree.proofs.Logic.{and_left, and_right, and_both, and_assoc, or_left, or_right}
use Rattle.spec_tree.proofs.TokenLaws.{Word, a_symbol, a_constant, an_operation, word_is, leaf_takes, operation_takes, symbol_tree, constant_tree, operation_tree, made, read_cons, complete_tail, complete_length, places_are_nodes, trees_length}
use Rattle.spec_tree.proofs.TokenCode.{unnumbered}
use Rattle.spec_rewrite.proofs.Names.{holds, holds_each, holds_all}
use Rattle.spec_rewrite.proofs.Counts.{well_formed_all, all_append as formed_append}
use Rattle.laws.proofs.cse.RoundsCount.{made_before}
use Rattle.words.specs.words.Words.{name_of}
use Rattle.replace.specs.replacing.Replacing.{formed_word}
use Rattle.laws.specs.positions.Places.{numbered_at}
use Rattle.fmt.specs.checked.Check.{word_ok}
use Rattle.fmt.proofs.checked.RunLaws.{symbol_word, constant_word, operation_word}
use Rattle.rounds.specs.kept.Sound.{name_word, numbered_below}
use Rattle.rounds.proofs.kept.Passing.{taken, taken_each, all_taken}
use Rattle.replace.proofs.replacing.Turns.{count_forest}

and_true : (b : Bool) → (b && true) ≡ b
and_true true = refl
and_true false = refl

-- ---- trees that print takes, with numbers for names

module _ (rows : List Row) where
  unfoldable pub name_ok : Name → Bool
  unfolding is_name
  name_ok (input s) = is_name (name_in rows (unnumbered s))
  name_ok (xname n) = true
  name_ok (mname n) = true

  class_ok : (c i : ℕ) → name_ok (name_by numbered c i) ≡ symbol_ok (name_by (name_in rows) c i)
  unfolding name_ok symbol_ok name_by
  class_ok zero i = refl
  class_ok (suc zero) i = refl
  class_ok (suc (suc c)) i = refl

  taken_cons : (t : Tree) (l : List Tree) → all_taken name_ok (t ∷ l) ≡ (taken name_ok t && all_taken name_ok l)
  unfolding all_taken
  taken_cons t l = refl

  taken_both : (a b : List Tree) → all_taken name_ok (a ++ b) ≡ (all_taken name_ok a && all_taken name_ok b)
  unfolding all_taken
  taken_both [] b = refl
  taken_both (t ∷ a) b = rw (taken_both a b) (sym (and_assoc (taken name_ok t) (all_taken name_ok a) (all_taken name_ok b)))

  taken_forest : (l : List Tree) → taken_each name_ok (forest l) ≡ all_taken name_ok l
  unfolding all_taken taken forest
  taken_forest [] = refl
  taken_forest (t ∷ l) = ap (λ (b : Bool). taken name_ok t && b) (taken_forest l)

  taken_none : all_taken name_ok [] ≡ true
  unfolding all_taken
  taken_none = refl

  made_taken : (w : ℕ) (ts : List Tree) → takes w ≤ length ts → taken name_ok (made numbered w ts) ≡ (word_ok rows w && all_taken name_ok (take (takes w) ts))
  unfolding taken
  made_taken w ts h = go (word_is w)
    where
      leaf : kind_of w ≤ 1 → (word_ok rows w && all_taken name_ok (take (takes w) ts)) ≡ word_ok rows w
      leaf k = rw (leaf_takes w k, taken_none) (and_true (word_ok rows w))

      go : Word w → taken name_ok (made numbered w ts) ≡ (word_ok rows w && all_taken name_ok (take (takes w) ts))
      go (a_symbol k) = rw (leaf (omega arith), symbol_word rows w k, symbol_tree numbered w (take (takes w) ts) k) (class_ok (below_of w % 3) (below_of w / 3))
      go (a_constant k) = rw (leaf (omega arith), constant_word rows w k, constant_tree numbered w (take (takes w) ts) k)
      go (an_operation k) =
          let c : operand_count (forest (take (takes w) ts)) ≡ below_of w = count_forest (take (takes w) ts) ∙ length-take-le (takes w) ts h ∙ operation_takes w k in
          rw (operation_word rows w (λ e. omega arith) (λ e. omega arith), operation_tree numbered w (take (takes w) ts) k)
          (ap₂ (λ (n : ℕ) (b : Bool). operands_ok (kind_of w) n && b) c (taken_forest (take (takes w) ts)))

  no_words : all_taken name_ok (read numbered []) ≡ true
  unfolding read
  no_words = taken_none

  -- words that are tested one by one are those of such trees
  pub words_taken : (ws : List ℕ) (n : ℕ) → trees_in ws ≡ some n → every (word_ok rows) ws ≡ all_taken name_ok (read numbered ws)
  unfolding every
  words_taken [] n e = sym no_words
  words_taken (w ∷ ws) n e =
      let t = complete_tail w ws n e in
      let rs = read numbered ws in
      let l = complete_length numbered ws t.trees t.are in
      let a = take (takes w) rs in
      let b = drop (takes w) rs in
      let both : (all_taken name_ok a && all_taken name_ok b) ≡ every (word_ok rows) ws =
      sym (taken_both a b) ∙ ap (all_taken name_ok) (take-append-drop (takes w) rs) ∙ sym (words_taken ws t.trees t.are) in
      sym
      (ap (all_taken name_ok) (read_cons numbered w ws) ∙ taken_cons (made numbered w rs) b
      ∙ ap (λ (c : Bool). c && all_taken name_ok b) (made_taken w rs (omega (arith, l, t.enough)))
      ∙ and_assoc (word_ok rows w) (all_taken name_ok a) (all_taken name_ok b)
      ∙ ap (λ (c : Bool). word_ok rows w && c) both)

  pub made_ok : (n : ℕ) → T (name_ok (xname n))
  unfolding name_ok
  made_ok n = tt

-- ---- operand counts

module _ (p : Name → Bool) where
  mutual
    unfolding taken well_formed operands_ok

    pub taken_formed : (t : Tree) → T (taken p t) → T (well_formed t)
    taken_formed (Sym n) h = tt
    taken_formed (Const c) h = tt
    taken_formed (Op k f) h =
        and_both (arity_ok k (operand_count f)) (well_formed_each f)
        (and_right (leb 2 k) (arity_ok k (operand_count f)) (and_left (operands_ok k (operand_count f)) (taken_each p f) h))
        (taken_formed_each f (and_right (operands_ok k (operand_count f)) (taken_each p f) h))

    taken_formed_each : (f : Forest) → T (taken_each p f) → T (well_formed_each f)
    taken_formed_each nil h = tt
    taken_formed_each (t ◂ f) h =
        and_both (well_formed t) (well_formed_each f) (taken_formed t (and_left (taken p t) (taken_each p f) h)) (taken_formed_each f (and_right (taken p t) (taken_each p f) h))

  pub all_taken_formed : (l : List Tree) → T (all_taken p l) → T (well_formed_all l)
  unfolding all_taken well_formed_all
  all_taken_formed [] h = tt
  all_taken_formed (t ∷ l) h =
      and_both (well_formed t) (well_formed_all l) (taken_formed t (and_left (taken p t) (all_taken p l) h)) (all_taken_formed l (and_right (taken p t) (all_taken p l) h))

  -- ---- the tree at a place

  taken_append : (a b : List Tree) → T (all_taken p a) → T (all_taken p b) → T (all_taken p (a ++ b))
  unfolding all_taken
  taken_append [] b g h = h
  taken_append (t ∷ a) b g h = and_both (taken p t) (all_taken p (a ++ b)) (and_left (taken p t) (all_taken p a) g) (taken_append a b (and_right (taken p t) (all_taken p a) g) h)

  one_taken : (t : Tree) (l : List Tree) → T (taken p t) → T (all_taken p l) → T (all_taken p (t ∷ l))
  unfolding all_taken
  one_taken t l g h = and_both (taken p t) (all_taken p l) g h

  none_taken : T (all_taken p [])
  unfolding all_taken
  none_taken = tt

  mutual
    unfolding nodes taken

    nodes_taken : (t : Tree) → T (taken p t) → T (all_taken p (nodes t))
    nodes_taken (Sym n) h = one_taken (Sym n) [] h none_taken
    nodes_taken (Const c) h = one_taken (Const c) [] h none_taken
    nodes_taken (Op k f) h = one_taken (Op k f) (nodes_of f) h (nodes_of_taken f (and_right (operands_ok k (operand_count f)) (taken_each p f) h))

    nodes_of_taken : (f : Forest) → T (taken_each p f) → T (all_taken p (nodes_of f))
    nodes_of_taken nil h = none_taken
    nodes_of_taken (t ◂ f) h =
        taken_append (nodes t) (nodes_of f) (nodes_taken t (and_left (taken p t) (taken_each p f) h)) (nodes_of_taken f (and_right (taken p t) (taken_each p f) h))

  all_nodes_taken : (l : List Tree) → T (all_taken p l) → T (all_taken p (all_nodes l))
  unfolding all_nodes all_taken
  all_nodes_taken [] h = tt
  all_nodes_taken (t ∷ l) h =
      taken_append (nodes t) (all_nodes l) (nodes_taken t (and_left (taken p t) (all_taken p l) h)) (all_nodes_taken l (and_right (taken p t) (all_taken p l) h))

  entry_taken : (l : List Tree) (i : ℕ) → i < length l → T (all_taken p l) → T (taken p (get_or l i (Op 0 nil)))
  unfolding all_taken
  entry_taken [] i j h = absurd (omega arith)
  entry_taken (t ∷ l) zero j h = and_left (taken p t) (all_taken p l) h
  entry_taken (t ∷ l) (suc i) j h = entry_taken l i (omega arith) (and_right (taken p t) (all_taken p l) h)

  pub taken_at : (ws : List ℕ) (i : ℕ) → i < length ws → T (all_taken p (read numbered ws)) → T (taken p (numbered_at ws i))
  unfolding numbered_at
  taken_at ws i j h =
      let l = trees_length numbered ws in
      entry_taken (trees_at numbered ws) i (omega (arith, l)) (subst (λ (l : List Tree). T (all_taken p l)) (sym (places_are_nodes numbered ws)) (all_nodes_taken (read numbered ws) h))

-- ---- the words of formed trees

formed_cons : (t : Tree) (l : List Tree) → well_formed_all (t ∷ l) ≡ (well_formed t && well_formed_all l)
unfolding well_formed_all
formed_cons t l = refl

forest_formed : (l : List Tree) → T (well_formed_each (forest l)) → T (well_formed_all l)
unfolding well_formed_all well_formed forest
forest_formed [] h = tt
forest_formed (t ∷ l) h =
    and_both (well_formed t) (well_formed_all l) (and_left (well_formed t) (well_formed_each (forest l)) h) (forest_formed l (and_right (well_formed t) (well_formed_each (forest l)) h))

made_formed : (w : ℕ) (l : List Tree) → length l ≡ takes w → T (well_formed (tree_of_word numbered w l)) → T (formed_word w) × (1 < kind_of w → T (well_formed_all l))
unfolding formed_word
made_formed w l e h = go (word_is w)
  where
    leaf : kind_of w ≤ 1 → T (leb (kind_of w) 1 || arity_ok (kind_of w) (below_of w))
    leaf k = or_left (leb (kind_of w) 1) (arity_ok (kind_of w) (below_of w)) (le→leb (kind_of w) 1 k)

    go : Word w → T (leb (kind_of w) 1 || arity_ok (kind_of w) (below_of w)) × (1 < kind_of w → T (well_formed_all l))
    go (a_symbol k) = (leaf (omega arith), λ n. absurd (omega arith))
    go (a_constant k) = (leaf (omega arith), λ n. absurd (omega arith))
    go (an_operation k) =
        let c : operand_count (forest l) ≡ below_of w = count_forest l ∙ e ∙ operation_takes w k in
        let g : T (arity_ok (kind_of w) (operand_count (forest l)) && well_formed_each (forest l)) = unfold well_formed in subst (λ (t : Tree). T (well_formed t)) (operation_tree numbered w l k) h in (
          or_right (leb (kind_of w) 1) (arity_ok (kind_of w) (below_of w))
              (subst (λ (n : ℕ). T (arity_ok (kind_of w) n)) c (and_left (arity_ok (kind_of w) (operand_count (forest l))) (well_formed_each (forest l)) g)),
          λ n. forest_formed l (and_right (arity_ok (kind_of w) (operand_count (forest l))) (well_formed_each (forest l)) g),
        )

pub formed_words : (ws : List ℕ) (n : ℕ) → trees_in ws ≡ some n → T (well_formed_all (read numbered ws)) → T (every formed_word ws)
unfolding every
formed_words [] n e h = tt
formed_words (w ∷ ws) n e h =
    let t = complete_tail w ws n e in
    let rs = read numbered ws in
    let l = complete_length numbered ws t.trees t.are in
    let g : T (well_formed (made numbered w rs) && well_formed_all (drop (takes w) rs)) =
    subst T (formed_cons (made numbered w rs) (drop (takes w) rs)) (subst (λ (r : List Tree). T (well_formed_all r)) (read_cons numbered w ws) h) in
    let f = made_formed w (take (takes w) rs) (length-take-le (takes w) rs (omega (arith, t.enough))) (and_left (well_formed (made numbered w rs)) (well_formed_all (drop (takes w) rs)) g) in
    let after = and_right (well_formed (made numbered w rs)) (well_formed_all (drop (takes w) rs)) g in
    and_both (formed_word w) (every formed_word ws) f.0 (formed_words ws t.trees t.are (go (word_is w) f.1 after))
  where
    first_leaf : kind_of w ≤ 1 → T (well_formed_all (drop (takes w) (read numbered ws))) → T (well_formed_all (read numbered ws))
    first_leaf k h = subst (λ (a : ℕ). T (well_formed_all (drop a (read numbered ws)))) (leaf_takes w k) h

    go : Word w → (1 < kind_of w → T (well_formed_all (take (takes w) (read numbered ws)))) → T (well_formed_all (drop (takes w) (read numbered ws))) → T (well_formed_all (read numbered ws))
    go (a_symbol k) f h = first_leaf (omega arith) h
    go (a_constant k) f h = first_leaf (omega arith) h
    go (an_operation k) f h =
        subst (λ (l : List Tree). T (well_formed_all l)) (take-append-drop (takes w) (read numbered ws))
        (formed_append (take (takes w) (read numbered ws)) (drop (takes w) (read numbered ws)) (f k) h)

-- ---- names below a number

pub kind_zero : (u : ℕ) → (64 * u) % 64 ≡ 0
kind_zero u = omega arith

pub below_zero : (u : ℕ) → (64 * u) / 64 ≡ u
below_zero u = omega arith

pub word_names : (n : ℕ) → name_of (name_word n) ≡ xname n
unfolding name_of name_by
word_names n =
    let b = below_zero (1 + 3 * n) in
    let c1 : (1 + 3 * n) % 3 ≡ 1 = omega arith in
    let d1 : (1 + 3 * n) / 3 ≡ n = omega arith in
    ap (λ (v : ℕ). name_by numbered (v % 3) (v / 3)) b ∙ ap₂ (λ (x y : ℕ). name_by numbered x y) c1 d1

module _ (n : ℕ) where
  abbrev p : Name → Bool
  p = made_before n

  class_below : (c i : ℕ) → p (name_by numbered c i) ≡ cond (eqb c 1) (ltb i n) true
  unfolding made_before name_by
  class_below zero i = refl
  class_below (suc zero) i = refl
  class_below (suc (suc c)) i = let z : suc (suc c) ≡ 1 → ⊥ = λ e. omega arith in rw (ne_eqb (suc (suc c)) 1 z)

  all_cons : (t : Tree) (l : List Tree) → holds_all p (t ∷ l) ≡ (holds p t && holds_all p l)
  unfolding holds_all
  all_cons t l = refl

  all_append : (a b : List Tree) → holds_all p (a ++ b) ≡ (holds_all p a && holds_all p b)
  unfolding holds_all
  all_append [] b = refl
  all_append (t ∷ a) b = rw (all_append a b) (sym (and_assoc (holds p t) (holds_all p a) (holds_all p b)))

  forest_all : (l : List Tree) → holds_each p (forest l) ≡ holds_all p l
  unfolding holds_all holds forest
  forest_all [] = refl
  forest_all (t ∷ l) = ap (λ (b : Bool). holds p t && b) (forest_all l)

  none_all : holds_all p [] ≡ true
  unfolding holds_all
  none_all = refl

  made_below : (w : ℕ) (ts : List Tree) → holds p (made numbered w ts) ≡ (numbered_below n w && holds_all p (take (takes w) ts))
  unfolding numbered_below holds
  made_below w ts = go (word_is w)
    where
      leaf : kind_of w ≤ 1 → (b : Bool) → (b && holds_all p (take (takes w) ts)) ≡ b
      leaf k b = rw (leaf_takes w k, none_all) (and_true b)

      test : Bool
      test = cond (eqb (kind_of w) 0) (cond (eqb (below_of w % 3) 1) (ltb (below_of w / 3) n) true) true

      go : Word w → holds p (made numbered w ts) ≡ ((cond (eqb (kind_of w) 0) (cond (eqb (below_of w % 3) 1) (ltb (below_of w / 3) n) true) true) && holds_all p (take (takes w) ts))
      go (a_symbol k) =
          rw (leaf (omega arith) (cond (eqb (kind_of w) 0) (cond (eqb (below_of w % 3) 1) (ltb (below_of w / 3) n) true) true), symbol_tree numbered w (take (takes w) ts) k, eq-eqb (kind_of w) 0 k)
          (class_below (below_of w % 3) (below_of w / 3))
      go (a_constant k) =
          let z : kind_of w ≡ 0 → ⊥ = λ e. omega arith in
          rw (leaf (omega arith) (cond (eqb (kind_of w) 0) (cond (eqb (below_of w % 3) 1) (ltb (below_of w / 3) n) true) true), constant_tree numbered w (take (takes w) ts) k, ne_eqb (kind_of w) 0 z)
      go (an_operation k) =
          let z : kind_of w ≡ 0 → ⊥ = λ e. omega arith in
          rw (operation_tree numbered w (take (takes w) ts) k, ne_eqb (kind_of w) 0 z) (forest_all (take (takes w) ts))

  pub names_below : (ws : List ℕ) → every (numbered_below n) ws ≡ holds_all p (read numbered ws)
  unfolding every
  names_below [] = sym (unfold read in none_all)
  names_below (w ∷ ws) =
      let rs = read numbered ws in
      let both : (holds_all p (take (takes w) rs) && holds_all p (drop (takes w) rs)) ≡ every (numbered_below n) ws =
      sym (all_append (take (takes w) rs) (drop (takes w) rs)) ∙ ap (holds_all p) (take-append-drop (takes w) rs) ∙ sym (names_below ws) in
      sym
      (ap (holds_all p) (read_cons numbered w ws) ∙ all_cons (made numbered w rs) (drop (takes w) rs)
      ∙ ap (λ (b : Bool). b && holds_all p (drop (takes w) rs)) (made_below w rs)
      ∙ and_assoc (numbered_below n w) (holds_all p (take (takes w) rs)) (holds_all p (drop (takes w) rs))
      ∙ ap (λ (b : Bool). numbered_below n w && b) both)
