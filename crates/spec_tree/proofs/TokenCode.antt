-- Trees written as words and read back, and words read and written back: so equal runs of words are equal trees (Tokens). Assumes nothing.
use Prim.Native.Nat.{ℕ, zero, suc, ◌+◌, ◌-◌, ◌*◌, ◌/◌, ◌%◌, ◌≤◌, ◌<◌}
use native.Mathlib.Omega.{arith}
use mathlib.Core.Path.{◌≡◌, refl, sym, ◌∙◌, ap, ap₂, subst}
use mathlib.Core.Bool.{Bool, true, false, ◌&&◌, cond}
use mathlib.Core.Option.{some}
use mathlib.Core.List.{List, [], ◌∷◌, ◌++◌, append_assoc}
use borrow.Author.Tests.{eqb-true, eqb-false, ltb-true, ltb-false}
use lib.IntN.{ℤ, pos, negsuc}
use lib.ListN.{length, get_or, take, drop, length-append, take-append-drop, get_or-eq_default}
use lib.Seq.{take_at, drop_at, length-take-le}
use lib.Dec.{T, eqb, leb, ltb, leb→le, ltb→lt, lt→ltb}
use Rattle.spec_tree.specs.Kinds.{Kind, kinds, kind_at, arity_ok}
use Rattle.spec_tree.specs.Tree.{Name, input, xname, mname, Tree, Forest, Sym, Const, Op, nil, ◌◂◌, operands, forest}
use Rattle.spec_tree.specs.Facts.{total, size}
use Rattle.spec_tree.specs.Rows.{occurrences}
use Rattle.spec_tree.specs.Symbol.{is_name}
use Rattle.spec_tree.specs.Passes.{all_of, of_list, operands_ok, expression, expressions}
use Rattle.spec_tree.specs.Tokens.{word, constant_code, name_code, tokens, tokens_of, all_tokens, kind_of, below_of, takes, constant_at, name_by, read, trees_in, numbered}
use Rattle.spec_tree.proofs.Logic.{and_left, and_right, and_both}
use Rattle.spec_tree.proofs.Formed.{tests}
use Rattle.spec_tree.proofs.TokenLaws.{Word, a_symbol, a_constant, an_operation, word_is, leaf_takes, operation_takes, symbol_tree, constant_tree, operation_tree, operands_forest, forest_operands, made, read_cons, complete_tail, complete_cons, complete_length}

-- ---- trees that fit the code: every symbol of the list is one that `known` passes, and every operation's kind fits a word

abbrev pub fits_word : ℕ → Bool
fits_word k = leb 2 k && ltb k 64

module _ (known : List ℕ → Bool) where
  unfoldable pub known_name : Name → Bool
  known_name (input s) = known s
  known_name (xname n) = true
  known_name (mname n) = true

  unfoldable mutual
    unfolding known_name

    pub coded : Tree → Bool
    coded (Sym n) = known_name n
    coded (Const c) = true
    coded (Op k f) = fits_word k && coded_each f

    pub coded_each : Forest → Bool
    coded_each nil = true
    coded_each (t ◂ f) = coded t && coded_each f

  unfoldable pub all_coded : List Tree → Bool
  unfolding coded
  all_coded [] = true
  all_coded (t ∷ l) = coded t && all_coded l

-- ---- as many words as nodes

module _ (number : List ℕ → ℕ) where
  mutual
    unfolding tokens size total

    pub tokens_length : (t : Tree) → length (tokens number t) ≡ size t
    tokens_length (Sym n) = refl
    tokens_length (Const c) = refl
    tokens_length (Op k f) = omega (arith, tokens_of_length f)

    pub tokens_of_length : (f : Forest) → suc (length (tokens_of number f)) ≡ size (Op 0 f)
    tokens_of_length nil = refl
    tokens_of_length (t ◂ f) = omega (arith, length-append (tokens number t) (tokens_of number f), tokens_length t, tokens_of_length f)

  pub all_tokens_length : (ts : List Tree) → length (all_tokens number ts) ≡ occurrences ts
  unfolding all_tokens occurrences
  all_tokens_length [] = refl
  all_tokens_length (t ∷ ts) = omega (arith, length-append (tokens number t) (all_tokens number ts), tokens_length t, all_tokens_length ts)

  pub all_tokens_cons : (t : Tree) (l : List Tree) → all_tokens number (t ∷ l) ≡ tokens number t ++ all_tokens number l
  unfolding all_tokens
  all_tokens_cons t l = refl

  pub all_tokens_append : (a b : List Tree) → all_tokens number (a ++ b) ≡ all_tokens number a ++ all_tokens number b
  unfolding all_tokens
  all_tokens_append [] b = refl
  all_tokens_append (t ∷ a) b = rw (all_tokens_append a b, append_assoc)

  pub tokens_forest : (l : List Tree) → tokens_of number (forest l) ≡ all_tokens number l
  unfolding tokens_of forest all_tokens
  tokens_forest [] = refl
  tokens_forest (t ∷ l) = ap (λ (r : List ℕ). tokens number t ++ r) (tokens_forest l)

-- ---- reading back, with each symbol of the list named anew

pub constant_back : (c : ℤ) → constant_at (constant_code c) ≡ c
unfolding constant_at constant_code
constant_back (pos n) =
    let m : (2 * n) % 2 ≡ 0 = omega arith in
    let d : (2 * n) / 2 ≡ n = omega arith in
    rw (m, d)
constant_back (negsuc n) =
    let m : (1 + 2 * n) % 2 ≡ 1 = omega arith in
    let d : (1 + 2 * n) / 2 ≡ n = omega arith in
    rw (m, d)

module _ (number : List ℕ → ℕ) (name_at : ℕ → List ℕ) where
  unfoldable pub renamed_name : Name → Name
  renamed_name (input s) = input (name_at (number s))
  renamed_name (xname n) = xname n
  renamed_name (mname n) = mname n

  unfoldable mutual
    unfolding renamed_name

    pub renamed : Tree → Tree
    renamed (Sym n) = Sym (renamed_name n)
    renamed (Const c) = Const c
    renamed (Op k f) = Op k (renamed_each f)

    pub renamed_each : Forest → Forest
    renamed_each nil = nil
    renamed_each (t ◂ f) = renamed t ◂ renamed_each f

  pub renamed_count : (f : Forest) → length (operands (renamed_each f)) ≡ length (operands f)
  unfolding operands renamed
  renamed_count nil = refl
  renamed_count (t ◂ f) = ap suc (renamed_count f)

  name_back : (n : Name) → name_by name_at (name_code number n % 3) (name_code number n / 3) ≡ renamed_name n
  unfolding name_by name_code renamed_name
  name_back (input s) =
      let m : (3 * number s) % 3 ≡ 0 = omega arith in
      let d : (3 * number s) / 3 ≡ number s = omega arith in
      rw (m, d)
  name_back (xname n) =
      let m : (1 + 3 * n) % 3 ≡ 1 = omega arith in
      let d : (1 + 3 * n) / 3 ≡ n = omega arith in
      rw (m, d)
  name_back (mname n) =
      let m : (2 + 3 * n) % 3 ≡ 2 = omega arith in
      let d : (2 + 3 * n) / 3 ≡ n = omega arith in
      rw (m, d)

  -- one word in front of what is read
  read_symbol : (n : Name) (more : List ℕ) → read name_at (word 0 (name_code number n) ∷ more) ≡ Sym (renamed_name n) ∷ read name_at more
  read_symbol n more =
      let w = word 0 (name_code number n) in
      let k : kind_of w ≡ 0 = omega arith in
      let b : below_of w ≡ name_code number n = omega arith in
      let rs = read name_at more in
      let z : takes w ≡ 0 = leaf_takes w (omega arith) in
      read_cons name_at w more ∙ rw (symbol_tree name_at w (take (takes w) rs) k, z, b, name_back n)

  read_constant : (c : ℤ) (more : List ℕ) → read name_at (word 1 (constant_code c) ∷ more) ≡ Const c ∷ read name_at more
  read_constant c more =
      let w = word 1 (constant_code c) in
      let k : kind_of w ≡ 1 = omega arith in
      let b : below_of w ≡ constant_code c = omega arith in
      let rs = read name_at more in
      let z : takes w ≡ 0 = leaf_takes w (omega arith) in
      read_cons name_at w more ∙ rw (constant_tree name_at w (take (takes w) rs) k, z, b, constant_back c)

  read_operation :
      (k n : ℕ) (ts : List Tree) (more words : List ℕ) → 2 ≤ k → k < 64 → length ts ≡ n → read name_at words ≡ ts ++ read name_at more
      → read name_at (word k n ∷ words) ≡ Op k (forest ts) ∷ read name_at more
  read_operation k n ts more words low high l e =
      let w = word k n in
      let ek : kind_of w ≡ k = omega arith in
      let eb : below_of w ≡ n = omega arith in
      let z : takes w ≡ n = operation_takes w (omega arith) ∙ eb in
      let rs = read name_at words in
      read_cons name_at w words
      ∙ rw (operation_tree name_at w (take (takes w) rs) (omega arith), z, ek, e, take_at ts (read name_at more) n l, drop_at ts (read name_at more) n l)

  module _ (known : List ℕ → Bool) where
    mutual
      unfolding coded tokens renamed operands

      pub read_tree :
          (t : Tree) → T (coded known t) → (more : List ℕ) → read name_at (tokens number t ++ more) ≡ renamed t ∷ read name_at more
      read_tree (Sym n) h more = read_symbol n more
      read_tree (Const c) h more = read_constant c more
      read_tree (Op k f) h more =
          let k_ok = and_left (fits_word k) (coded_each known f) h in
          let low = leb→le 2 k (and_left (leb 2 k) (ltb k 64) k_ok) in
          let high = ltb→lt k 64 (and_right (leb 2 k) (ltb k 64) k_ok) in
          read_operation k (length (operands f)) (operands (renamed_each f)) more (tokens_of number f ++ more) low high (renamed_count f)
          (read_each f (and_right (fits_word k) (coded_each known f) h) more)
          ∙ ap (λ (g : Forest). Op k g ∷ read name_at more) (forest_operands (renamed_each f))

      pub read_each :
          (f : Forest) → T (coded_each known f) → (more : List ℕ) → read name_at (tokens_of number f ++ more) ≡ operands (renamed_each f) ++ read name_at more
      read_each nil h more = refl
      read_each (t ◂ f) h more =
          rw (
            append_assoc (tokens number t) (tokens_of number f) more,
            read_tree t (and_left (coded known t) (coded_each known f) h) (tokens_of number f ++ more),
            read_each f (and_right (coded known t) (coded_each known f) h) more,
          )

-- where the names come back, the trees do
module _ (number : List ℕ → ℕ) (name_at : ℕ → List ℕ) (known : List ℕ → Bool) (back : (s : List ℕ) → T (known s) → name_at (number s) ≡ s) where
  name_same : (n : Name) → T (known_name known n) → renamed_name number name_at n ≡ n
  unfolding renamed_name known_name
  name_same (input s) h = ap input (back s h)
  name_same (xname n) h = refl
  name_same (mname n) h = refl

  mutual
    unfolding coded renamed

    tree_same : (t : Tree) → T (coded known t) → renamed number name_at t ≡ t
    tree_same (Sym n) h = ap Sym (name_same n h)
    tree_same (Const c) h = refl
    tree_same (Op k f) h = ap (Op k) (each_same f (and_right (fits_word k) (coded_each known f) h))

    each_same : (f : Forest) → T (coded_each known f) → renamed_each number name_at f ≡ f
    each_same nil h = refl
    each_same (t ◂ f) h =
        ap₂ ◌◂◌ (tree_same t (and_left (coded known t) (coded_each known f) h)) (each_same f (and_right (coded known t) (coded_each known f) h))

  pub reads_back : (ts : List Tree) → T (all_coded known ts) → read name_at (all_tokens number ts) ≡ ts
  unfolding all_coded all_tokens read
  reads_back [] h = refl
  reads_back (t ∷ ts) h =
      let c = and_left (coded known t) (all_coded known ts) h in
      read_tree number name_at known t c (all_tokens number ts)
      ∙ ap₂ ◌∷◌ (tree_same t c) (reads_back ts (and_right (coded known t) (all_coded known ts) h))

-- ---- the words of trees are complete

module _ (number : List ℕ → ℕ) (known : List ℕ → Bool) where
  leaf_complete : (w : ℕ) (more : List ℕ) (n : ℕ) → kind_of w ≤ 1 → trees_in more ≡ some n → trees_in (w ∷ more) ≡ some (suc n)
  leaf_complete w more n h e =
      let z = leaf_takes w h in
      let d : suc (n - takes w) ≡ suc n = omega (arith, z) in
      complete_cons w more n e (omega (arith, z)) ∙ ap some d

  mutual
    unfolding coded tokens operands

    tree_complete : (t : Tree) → T (coded known t) → (more : List ℕ) (n : ℕ) → trees_in more ≡ some n → trees_in (tokens number t ++ more) ≡ some (suc n)
    tree_complete (Sym a) h more n e = leaf_complete (word 0 (name_code number a)) more n (omega arith) e
    tree_complete (Const c) h more n e = leaf_complete (word 1 (constant_code c)) more n (omega arith) e
    tree_complete (Op k f) h more n e =
        let k_ok = and_left (fits_word k) (coded_each known f) h in
        let low = leb→le 2 k (and_left (leb 2 k) (ltb k 64) k_ok) in
        let high = ltb→lt k 64 (and_right (leb 2 k) (ltb k 64) k_ok) in
        let w = word k (length (operands f)) in
        let ek : kind_of w ≡ k = omega arith in
        let eb : below_of w ≡ length (operands f) = omega arith in
        let z = operation_takes w (omega arith) in
        let all = each_complete f (and_right (fits_word k) (coded_each known f) h) more n e in
        let d : suc (length (operands f) + n - takes w) ≡ suc n = omega (arith, z, eb) in
        complete_cons w (tokens_of number f ++ more) (length (operands f) + n) all (omega (arith, z, eb)) ∙ ap some d

    each_complete :
        (f : Forest) → T (coded_each known f) → (more : List ℕ) (n : ℕ) → trees_in more ≡ some n → trees_in (tokens_of number f ++ more) ≡ some (length (operands f) + n)
    each_complete nil h more n e = let z : n ≡ 0 + n = omega arith in e ∙ ap some z
    each_complete (t ◂ f) h more n e =
        let rest = each_complete f (and_right (coded known t) (coded_each known f) h) more n e in
        let z : suc (length (operands f) + n) ≡ suc (length (operands f)) + n = omega arith in
        rw (append_assoc (tokens number t) (tokens_of number f) more)
        (tree_complete t (and_left (coded known t) (coded_each known f) h) (tokens_of number f ++ more) (length (operands f) + n) rest ∙ ap some z)

  pub tokens_complete : (ts : List Tree) → T (all_coded known ts) → trees_in (all_tokens number ts) ≡ some (length ts)
  unfolding all_coded all_tokens trees_in
  tokens_complete [] h = refl
  tokens_complete (t ∷ ts) h =
      tree_complete t (and_left (coded known t) (all_coded known ts) h) (all_tokens number ts) (length ts)
      (tokens_complete ts (and_right (coded known t) (all_coded known ts) h))

-- ---- equal words are equal trees

module _ (number : List ℕ → ℕ) (known : List ℕ → Bool) (apart : (s r : List ℕ) → T (known s) → T (known r) → number s ≡ number r → s ≡ r) where
  names_are : (n m : Name) → T (known_name known n) → T (known_name known m) → renamed_name number numbered n ≡ renamed_name number numbered m → n ≡ m
  unfolding renamed_name known_name
  names_are (input s) (input r) h g e = let k : number s ≡ number r = cc in ap input (apart s r h g k)
  names_are (input s) (xname m) h g e = cc
  names_are (input s) (mname m) h g e = cc
  names_are (xname n) (input r) h g e = cc
  names_are (xname n) (xname m) h g e = cc
  names_are (xname n) (mname m) h g e = cc
  names_are (mname n) (input r) h g e = cc
  names_are (mname n) (xname m) h g e = cc
  names_are (mname n) (mname m) h g e = cc

  mutual
    unfolding coded renamed

    trees_are : (a b : Tree) → T (coded known a) → T (coded known b) → renamed number numbered a ≡ renamed number numbered b → a ≡ b
    trees_are (Sym n) (Sym m) h g e =
        let k : renamed_name number numbered n ≡ renamed_name number numbered m = cc in
        ap Sym (names_are n m h g k)
    trees_are (Sym n) (Const d) h g e = cc
    trees_are (Sym n) (Op l q) h g e = cc
    trees_are (Const c) (Sym m) h g e = cc
    trees_are (Const c) (Const d) h g e = cc
    trees_are (Const c) (Op l q) h g e = cc
    trees_are (Op k f) (Sym m) h g e = cc
    trees_are (Op k f) (Const d) h g e = cc
    trees_are (Op k f) (Op l q) h g e =
        let same : k ≡ l = cc in
        let below : renamed_each number numbered f ≡ renamed_each number numbered q = cc in
        ap₂ Op same (each_are f q (and_right (fits_word k) (coded_each known f) h) (and_right (fits_word l) (coded_each known q) g) below)

    each_are :
        (f q : Forest) → T (coded_each known f) → T (coded_each known q) → renamed_each number numbered f ≡ renamed_each number numbered q → f ≡ q
    each_are nil nil h g e = refl
    each_are nil (b ◂ q) h g e = cc
    each_are (a ◂ f) nil h g e = cc
    each_are (a ◂ f) (b ◂ q) h g e =
        let first : renamed number numbered a ≡ renamed number numbered b = cc in
        let rest : renamed_each number numbered f ≡ renamed_each number numbered q = cc in
        ap₂ ◌◂◌
        (trees_are a b (and_left (coded known a) (coded_each known f) h) (and_left (coded known b) (coded_each known q) g) first)
        (each_are f q (and_right (coded known a) (coded_each known f) h) (and_right (coded known b) (coded_each known q) g) rest)

  cancel : (a : List ℕ) {r s : List ℕ} → a ++ r ≡ a ++ s → r ≡ s
  cancel [] e = e
  cancel (x ∷ a) e = cancel a (cc)

  -- no tree's words begin another's
  pub prefix_free :
      (a b : Tree) → T (coded known a) → T (coded known b) → (r s : List ℕ) → tokens number a ++ r ≡ tokens number b ++ s → (a ≡ b) × (r ≡ s)
  prefix_free a b h g r s e =
      let p : renamed number numbered a ∷ read numbered r ≡ renamed number numbered b ∷ read numbered s =
      sym (read_tree number numbered known a h r) ∙ (ap (read numbered) e ∙ read_tree number numbered known b g s) in
      let q : renamed number numbered a ≡ renamed number numbered b = cc in
      let k = trees_are a b h g q in
      (k, cancel (tokens number a) (e ∙ ap (λ (t : Tree). tokens number t ++ s) (sym k)))

  pub equal_words : (a b : Tree) → T (coded known a) → T (coded known b) → tokens number a ≡ tokens number b → a ≡ b
  equal_words a b h g e = (prefix_free a b h g [] [] (ap (λ (l : List ℕ). l ++ []) e)).0

-- ---- writing back what was read

-- the number of a symbol that is named by its number
abbrev pub unnumbered : List ℕ → ℕ
unnumbered s = get_or s 0 0

name_written : (class n : ℕ) → class < 3 → name_code unnumbered (name_by numbered class n) ≡ class + 3 * n
unfolding name_code name_by
name_written zero n h = omega arith
name_written (suc zero) n h = omega arith
name_written (suc (suc class)) n h = omega arith

pub constant_written : (b : ℕ) → constant_code (constant_at b) ≡ b
unfolding constant_code constant_at
constant_written b = go (eqb (b % 2) 0) refl
  where
    go : (t : Bool) → eqb (b % 2) 0 ≡ t → constant_code (cond t (pos (b / 2)) (negsuc (b / 2))) ≡ b
    go true e = omega (arith, eqb-true (b % 2) 0 e)
    go false e = let n = eqb-false (b % 2) 0 e in omega (arith, n)

made_written : (w : ℕ) (ts : List Tree) → takes w ≤ length ts → tokens unnumbered (made numbered w ts) ≡ w ∷ all_tokens unnumbered (take (takes w) ts)
unfolding tokens all_tokens
made_written w ts h = go (word_is w)
  where
    go : Word w → tokens unnumbered (made numbered w ts) ≡ w ∷ all_tokens unnumbered (take (takes w) ts)
    go (a_symbol k) =
        let c = name_written (below_of w % 3) (below_of w / 3) (omega arith) in
        let e : word 0 (name_code unnumbered (name_by numbered (below_of w % 3) (below_of w / 3))) ≡ w = omega (arith, c) in
        rw (symbol_tree numbered w (take (takes w) ts) k, leaf_takes w (omega arith)) (ap (λ (x : ℕ). x ∷ []) e)
    go (a_constant k) =
        let c = constant_written (below_of w) in
        let e : word 1 (constant_code (constant_at (below_of w))) ≡ w = omega (arith, c) in
        rw (constant_tree numbered w (take (takes w) ts) k, leaf_takes w (omega arith)) (ap (λ (x : ℕ). x ∷ []) e)
    go (an_operation k) =
        let z = operation_takes w k in
        let l = length-take-le (takes w) ts h in
        let e : word (kind_of w) (length (take (takes w) ts)) ≡ w = omega (arith, z, l) in
        rw (operation_tree numbered w (take (takes w) ts) k, operands_forest (take (takes w) ts), tokens_forest unnumbered (take (takes w) ts))
        (ap (λ (x : ℕ). x ∷ all_tokens unnumbered (take (takes w) ts)) e)

nothing_written : all_tokens unnumbered (read numbered []) ≡ []
unfolding all_tokens read
nothing_written = refl

-- the words of complete trees come back
pub writes_back : (ws : List ℕ) (n : ℕ) → trees_in ws ≡ some n → all_tokens unnumbered (read numbered ws) ≡ ws
writes_back [] n e = nothing_written
writes_back (w ∷ ws) n e =
    let t = complete_tail w ws n e in
    let rs = read numbered ws in
    let l = complete_length numbered ws t.trees t.are in
    let both = all_tokens_append unnumbered (take (takes w) rs) (drop (takes w) rs) in
    rw (read_cons numbered w ws, all_tokens_cons unnumbered (made numbered w rs) (drop (takes w) rs), made_written w rs (omega (arith, l, t)))
    (ap (λ (r : List ℕ). w ∷ r) (sym both ∙ rw (take-append-drop (takes w) rs) (writes_back ws t.trees t.are)))

-- ---- the expressions of 01 fit the code

-- past the table of kinds no count of operands is right
kind_below : (k n : ℕ) → T (arity_ok k n) → k < 64
unfolding arity_ok kind_at kinds
kind_below k n h = go (ltb k 64) refl
  where
    go : (b : Bool) → ltb k 64 ≡ b → k < 64
    go true e = ltb-true k 64 e
    go false e =
        let far = ltb-false k 64 e in
        let l : length kinds ≤ k = omega arith in
        let d = get_or-eq_default kinds (record { word = []; printed = []; fewest = 1; most = 0 }) {n = k} l in
        let t : T (leb 1 n && leb n 0) = subst (λ (q : Kind). T (leb q.fewest n && leb n q.most)) d h in
        let a = leb→le 1 n (and_left (leb 1 n) (leb n 0) t) in
        let b = leb→le n 0 (and_right (leb 1 n) (leb n 0) t) in
        absurd (omega arith)

kind_fits : (k n : ℕ) → T (operands_ok k n) → T (fits_word k)
unfolding operands_ok
kind_fits k n h =
    and_both (leb 2 k) (ltb k 64) (and_left (leb 2 k) (arity_ok k n) h) (lt→ltb k 64 (kind_below k n (and_right (leb 2 k) (arity_ok k n) h)))

name_of_list : (n : Name) → T (of_list n) → T (known_name is_name n)
unfolding of_list known_name
name_of_list (input s) h = h
name_of_list (xname n) h = tt
name_of_list (mname n) h = tt

mutual
  unfolding expression coded all_of

  pub expression_coded : (t : Tree) → T (expression t) → T (coded is_name t)
  expression_coded (Sym n) h = name_of_list n h
  expression_coded (Const c) h = tt
  expression_coded (Op k f) h =
      and_both (fits_word k) (coded_each is_name f) (kind_fits k (length (tests f)) (and_left (operands_ok k (length (tests f))) (all_of (tests f)) h))
      (each_coded f (and_right (operands_ok k (length (tests f))) (all_of (tests f)) h))

  each_coded : (f : Forest) → T (all_of (tests f)) → T (coded_each is_name f)
  each_coded nil h = tt
  each_coded (t ◂ f) h =
      and_both (coded is_name t) (coded_each is_name f) (expression_coded t (and_left (expression t) (all_of (tests f)) h))
      (each_coded f (and_right (expression t) (all_of (tests f)) h))

pub expressions_coded : (ts : List Tree) → T (expressions ts) → T (all_coded is_name ts)
unfolding expressions all_coded
expressions_coded [] h = tt
expressions_coded (t ∷ ts) h =
    and_both (coded is_name t) (all_coded is_name ts) (expression_coded t (and_left (expression t) (expressions ts) h))
    (expressions_coded ts (and_right (expression t) (expressions ts) h))
