-- The numbers and the names of a list's rows, as renamings in both directions, and the trees of a table: read from their words with numbers for names they are
-- known, and renamed they are the table's trees. Assumes nothing.
use Prim.Native.Nat.{ℕ, zero, suc, ◌-◌, ◌≤◌}
use native.Mathlib.Omega.{arith}
use mathlib.Core.Path.{◌≡◌, sym, ◌∙◌, ap, subst}
use mathlib.Core.Bool.{Bool, true, false}
use mathlib.Core.Option.{some}
use mathlib.Core.List.{List, [], ◌∷◌, ◌++◌, map}
use lib.IntN.{pos}
use lib.ListN.{length, get_or}
use lib.Dec.{T, eqb→eq}
use Rattle.spec_tree.specs.Bytes.{eq_bytes}
use Rattle.spec_tree.specs.Tree.{Tree, Forest, Sym, Const, Op, nil, ◌◂◌}
use Rattle.spec_tree.specs.Rows.{Row, row_sym, row_const, row_op, Table, at, tree_of_row, trees_from, trees}
use Rattle.spec_tree.specs.Passes.{expressions}
use Rattle.spec_tree.specs.Symbol.{is_name}
use Rattle.spec_tree.specs.Tokens.{tokens, all_tokens, first_named, number_in, name_of_row, name_in, read, trees_at, trees_in, numbered}
use Rattle.spec_tree.proofs.TreeLaws.{eq_bytes_sound, eq_bytes_refl}
use Rattle.spec_tree.proofs.Logic.{and_left, and_right, and_both}
use Rattle.spec_tree.proofs.Tests.{eq→eqb}
use Rattle.spec_tree.proofs.TokenCode.{fits_word, known_name, coded, coded_each, all_coded, unnumbered, reads_back, tokens_complete, expressions_coded}
use Rattle.spec_rewrite.proofs.Names.{holds, holds_each, holds_all, holds_append}
use Rattle.laws.specs.positions.Names.{is_number, is_listed, symbols_pass}
use Rattle.laws.proofs.positions.Renaming.{Renaming, renamed, Known, KnownAll}
use Rattle.laws.proofs.positions.Reading.{read_renamed, trees_at_renamed, tokens_renamed, all_tokens_renamed, forest_holds, read_holds, all_tokens_pass}

-- ---- both renamings

-- from numbers to names: known is a number alone that is its name's
abbrev pub names_of : List Row → Renaming
names_of rows =
    record {
      number = unnumbered;
      name_at = name_in rows;
      known = λ s. eq_bytes (numbered (number_in rows (name_in rows (unnumbered s)))) s;
      one_to_one = λ s r h g e.
          sym (eq_bytes_sound (numbered (number_in rows (name_in rows (unnumbered s)))) s h)
          ∙ ap (λ (x : List ℕ). numbered (number_in rows x)) e
          ∙ eq_bytes_sound (numbered (number_in rows (name_in rows (unnumbered r)))) r g;
    }

pub listed_name : (rows : List Row) (s : List ℕ) → T (is_listed rows s) → name_in rows (number_in rows s) ≡ s
unfolding is_listed
listed_name rows s h = eq_bytes_sound (name_in rows (number_in rows s)) s h

-- from names to numbers: known is a name that is its number's
abbrev pub numbers_of : List Row → Renaming
numbers_of rows =
    record {
      number = number_in rows;
      name_at = numbered;
      known = is_listed rows;
      one_to_one = λ s r h g e.
          sym (listed_name rows s h) ∙ ap (λ (x : List ℕ). name_in rows (unnumbered x)) e ∙ listed_name rows r g;
    }

module _ (rows : List Row) where
  number_passes : (n : ℕ) → T (is_number rows n) → T ((names_of rows).known (numbered n))
  unfolding is_number
  number_passes n h =
      subst (λ (m : ℕ). T (eq_bytes (numbered (number_in rows (name_in rows n))) (numbered m))) (eqb→eq (number_in rows (name_in rows n)) n h)
      (eq_bytes_refl (numbered (number_in rows (name_in rows n))))

  pub known_number : (s : List ℕ) → T ((names_of rows).known s) → number_in rows (name_in rows (unnumbered s)) ≡ unnumbered s
  known_number s h = ap unnumbered (eq_bytes_sound (numbered (number_in rows (name_in rows (unnumbered s)))) s h)

  known_passes : (s : List ℕ) → T ((names_of rows).known s) → T (is_number rows (unnumbered s))
  unfolding is_number
  known_passes s h = eq→eqb (number_in rows (name_in rows (unnumbered s))) (unnumbered s) (known_number s h)

  listed_passes : (s : List ℕ) → T (is_listed rows s) → T (is_number rows (number_in rows s))
  unfolding is_number
  listed_passes s h = eq→eqb (number_in rows (name_in rows (number_in rows s))) (number_in rows s) (ap (number_in rows) (listed_name rows s h))

  -- words whose symbols are numbers of rows
  pub words_known : (ws : List ℕ) → T (symbols_pass (is_number rows) ws) → KnownAll (names_of rows) (read numbered ws)
  words_known ws h = read_holds (names_of rows).known (is_number rows) number_passes ws h

  pub words_renamed : (ws : List ℕ) → read (name_in rows) ws ≡ map (renamed (names_of rows)) (read numbered ws)
  words_renamed ws = read_renamed (name_in rows) ws

  pub places_renamed : (ws : List ℕ) → trees_at (name_in rows) ws ≡ map (renamed (names_of rows)) (trees_at numbered ws)
  places_renamed ws = trees_at_renamed (name_in rows) ws

  -- the words of the trees, with their numbers, are those of the renamed with their names
  pub words_same : (l : List Tree) → KnownAll (names_of rows) l → all_tokens (number_in rows) (map (renamed (names_of rows)) l) ≡ all_tokens unnumbered l
  words_same l h = all_tokens_renamed (names_of rows) (number_in rows) known_number l h

  pub word_same : (t : Tree) → Known (names_of rows) t → tokens (number_in rows) (renamed (names_of rows) t) ≡ tokens unnumbered t
  word_same t h = tokens_renamed (names_of rows) (number_in rows) known_number t h

  pub known_words_pass : (l : List Tree) → T (all_coded (names_of rows).known l) → T (symbols_pass (is_number rows) (all_tokens unnumbered l))
  known_words_pass l h = all_tokens_pass unnumbered (names_of rows).known (is_number rows) known_passes l h

  pub listed_words_pass : (l : List Tree) → T (all_coded (is_listed rows) l) → T (symbols_pass (is_number rows) (all_tokens (number_in rows) l))
  listed_words_pass l h = all_tokens_pass (number_in rows) (is_listed rows) (is_number rows) listed_passes l h

-- ---- kinds that fit and names that are known fit the code

module _ (p q : List ℕ → Bool) where
  mutual
    unfolding coded holds

    pub tree_coded : (t : Tree) → T (coded p t) → T (holds (known_name q) t) → T (coded q t)
    tree_coded (Sym n) h g = g
    tree_coded (Const c) h g = tt
    tree_coded (Op k f) h g =
        and_both (fits_word k) (coded_each q f) (and_left (fits_word k) (coded_each p f) h) (each_coded f (and_right (fits_word k) (coded_each p f) h) g)

    each_coded : (f : Forest) → T (coded_each p f) → T (holds_each (known_name q) f) → T (coded_each q f)
    each_coded nil h g = tt
    each_coded (t ◂ f) h g =
        and_both (coded q t) (coded_each q f)
        (tree_coded t (and_left (coded p t) (coded_each p f) h) (and_left (holds (known_name q) t) (holds_each (known_name q) f) g))
        (each_coded f (and_right (coded p t) (coded_each p f) h) (and_right (holds (known_name q) t) (holds_each (known_name q) f) g))

  pub all_code : (l : List Tree) → T (all_coded p l) → T (holds_all (known_name q) l) → T (all_coded q l)
  unfolding all_coded holds_all
  all_code [] h g = tt
  all_code (t ∷ l) h g =
      and_both (coded q t) (all_coded q l)
      (tree_coded t (and_left (coded p t) (all_coded p l) h) (and_left (holds (known_name q) t) (holds_all (known_name q) l) g))
      (all_code l (and_right (coded p t) (all_coded p l) h) (and_right (holds (known_name q) t) (holds_all (known_name q) l) g))

-- ---- the symbols of a table's trees are names of its rows

has_row : List ℕ → List Row → Bool
has_row s [] = false
has_row s (row_sym n ∷ l) = elim (eq_bytes n s) [ true ↦ true | false ↦ has_row s l ]
has_row s (row_const c ∷ l) = has_row s l
has_row s (row_op k ns ∷ l) = has_row s l

first_from : (i : ℕ) (l : List Row) (s : List ℕ) → i ≤ first_named i l s
unfolding first_named
first_from i [] s = omega arith
first_from i (row_sym n ∷ l) s = go (eq_bytes n s) (first_from (suc i) l s)
  where
    go : (b : Bool) → suc i ≤ first_named (suc i) l s → i ≤ elim b [ true ↦ i | false ↦ first_named (suc i) l s ]
    go true h = omega arith
    go false h = omega arith
first_from i (row_const c ∷ l) s = omega (arith, first_from (suc i) l s)
first_from i (row_op k ns ∷ l) s = omega (arith, first_from (suc i) l s)

-- the row at the number found has the name
first_name : (i : ℕ) (l : List Row) (s : List ℕ) → T (has_row s l) → name_in l (first_named i l s - i) ≡ s
unfolding has_row first_named name_in
first_name i [] s h = absurd h
first_name i (row_sym n ∷ l) s h = go (eq_bytes n s) (λ t. eq_bytes_sound n s t) h (first_from (suc i) l s) (λ t. first_name (suc i) l s t)
  where
    go : (b : Bool) → (T b → n ≡ s) → T (elim b [ true ↦ true | false ↦ has_row s l ]) → suc i ≤ first_named (suc i) l s
        → (T (has_row s l) → name_of_row (get_or l (first_named (suc i) l s - suc i) (row_const (pos 0))) ≡ s)
        → name_of_row (get_or (row_sym n ∷ l) (elim b as (λ _. ℕ) [ true ↦ i | false ↦ first_named (suc i) l s ] - i) (row_const (pos 0))) ≡ s
    go true e t q k = let z : i - i ≡ 0 = omega arith in rw z (e tt)
    go false e t q k = let z : first_named (suc i) l s - i ≡ suc (first_named (suc i) l s - suc i) = omega arith in rw z (k t)
first_name i (row_const c ∷ l) s h =
    let z : first_named (suc i) l s - i ≡ suc (first_named (suc i) l s - suc i) = omega (arith, first_from (suc i) l s) in
    rw z (first_name (suc i) l s h)
first_name i (row_op k ns ∷ l) s h =
    let z : first_named (suc i) l s - i ≡ suc (first_named (suc i) l s - suc i) = omega (arith, first_from (suc i) l s) in
    rw z (first_name (suc i) l s h)

row_listed : (rows : List Row) (s : List ℕ) → T (has_row s rows) → T (is_listed rows s)
unfolding is_listed number_in
row_listed rows s h =
    let z : first_named 0 rows s - 0 ≡ first_named 0 rows s = omega arith in
    let e : name_in rows (first_named 0 rows s) ≡ s = ap (name_in rows) (sym z) ∙ first_name 0 rows s h in
    subst (λ (x : List ℕ). T (eq_bytes (name_in rows (first_named 0 rows s)) x)) e (eq_bytes_refl (name_in rows (first_named 0 rows s)))

module _ (p : List ℕ → Bool) where
  pub picked : (ts : List Tree) (n : ℕ) → T (holds_all (known_name p) ts) → T (holds (known_name p) (get_or ts n (Op 0 nil)))
  unfolding holds holds_all
  picked [] n h = tt
  picked (t ∷ ts) zero h = and_left (holds (known_name p) t) (holds_all (known_name p) ts) h
  picked (t ∷ ts) (suc n) h = picked ts n (and_right (holds (known_name p) t) (holds_all (known_name p) ts) h)

  all_picked : (ts : List Tree) (ns : List ℕ) → T (holds_all (known_name p) ts) → T (holds_all (known_name p) (at ts ns))
  unfolding holds_all at
  all_picked ts [] h = tt
  all_picked ts (n ∷ ns) h =
      and_both (holds (known_name p) (get_or ts n (Op 0 nil))) (holds_all (known_name p) (at ts ns)) (picked ts n h) (all_picked ts ns h)

  row_in : (r : Row) (l : List Row) (s : List ℕ) → T (has_row s l) → T (has_row s (r ∷ l))
  unfolding has_row
  row_in (row_sym n) l s h = go (eq_bytes n s)
    where
      go : (b : Bool) → T (elim b [ true ↦ true | false ↦ has_row s l ])
      go true = tt
      go false = h
  row_in (row_const c) l s h = h
  row_in (row_op k ns) l s h = h

  row_here : (n : List ℕ) (l : List Row) → T (has_row n (row_sym n ∷ l))
  unfolding has_row
  row_here n l = go (eq_bytes n n) (eq_bytes_refl n)
    where
      go : (b : Bool) → T b → T (elim b [ true ↦ true | false ↦ has_row n l ])
      go true h = tt
      go false h = absurd h

  row_holds :
      (ts : List Tree) (r : Row) (l : List Row) → ((s : List ℕ) → T (has_row s (r ∷ l)) → T (p s)) → T (holds_all (known_name p) ts)
      → T (holds (known_name p) (tree_of_row ts r))
  unfolding holds known_name tree_of_row
  row_holds ts (row_sym s) l k h = k s (row_here s l)
  row_holds ts (row_const c) l k h = tt
  row_holds ts (row_op o ns) l k h = forest_holds (known_name p) (at ts ns) (all_picked ts ns h)

  rows_hold :
      (ts : List Tree) (l : List Row) → ((s : List ℕ) → T (has_row s l) → T (p s)) → T (holds_all (known_name p) ts) → T (holds_all (known_name p) (trees_from ts l))
  unfolding trees_from
  rows_hold ts [] k h = h
  rows_hold ts (r ∷ l) k h =
      rows_hold (ts ++ (tree_of_row ts r ∷ [])) l (λ s t. k s (row_in r l s t))
      (holds_append (known_name p) ts (tree_of_row ts r ∷ []) h (unfold holds_all in (and_both (holds (known_name p) (tree_of_row ts r)) true (row_holds ts r l k h) tt)))

pub table_listed : (t : Table) → T (holds_all (known_name (is_listed t.rows)) (trees t))
unfolding trees
table_listed t =
    all_picked (is_listed t.rows) (trees_from [] t.rows) t.roots (rows_hold (is_listed t.rows) [] t.rows (λ s h. row_listed t.rows s h) (unfold holds_all in tt))

-- ---- a table's trees from their words

-- the words of its trees, as `unfold` writes them
abbrev pub tree_words : Table → List ℕ
tree_words t = all_tokens (number_in t.rows) (trees t)

module _ (t : Table) (h : T (expressions (trees t))) where
  table_coded : T (all_coded (is_listed t.rows) (trees t))
  table_coded = all_code is_name (is_listed t.rows) (trees t) (expressions_coded (trees t) h) (table_listed t)

  pub table_complete : trees_in (tree_words t) ≡ some (length (trees t))
  table_complete = tokens_complete (number_in t.rows) (is_listed t.rows) (trees t) table_coded

  pub table_words_pass : T (symbols_pass (is_number t.rows) (tree_words t))
  table_words_pass = listed_words_pass t.rows (trees t) table_coded

  pub table_read : read (name_in t.rows) (tree_words t) ≡ trees t
  table_read =
      reads_back (number_in t.rows) (name_in t.rows) (is_listed t.rows)
      (λ s k. listed_name t.rows s k) (trees t) table_coded

  pub table_renamed : map (renamed (names_of t.rows)) (read numbered (tree_words t)) ≡ trees t
  table_renamed = sym (words_renamed t.rows (tree_words t)) ∙ table_read

  pub table_known : KnownAll (names_of t.rows) (read numbered (tree_words t))
  table_known = words_known t.rows (tree_words t) table_words_pass
