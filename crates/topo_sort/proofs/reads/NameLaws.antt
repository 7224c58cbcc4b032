-- The words of a tree hold the word of `__xN` where the tree has that symbol, and so a place marked says whether one let reads the name that another binds (01,
-- "Order"). Assumes nothing.
use Prim.Native.Nat.{ℕ, ◌+◌, ◌*◌, ◌<◌}
use native.Mathlib.Omega.{arith}
use mathlib.Core.Path.{◌≡◌, refl, sym, ◌∙◌, ap, ap₂}
use mathlib.Core.Bool.{Bool, true, false, ◌||◌}
use mathlib.Core.List.{List, [], ◌∷◌, ◌++◌}
use borrow.Author.Tests.{eqb-true, eq-eqb, ne_eqb}
use lib.IntN.{ℤ}
use lib.Dec.{T, eqb, leb, ltb, leb→le, ltb→lt}
use lib.ListN.{length}
use Rattle.spec_tree.specs.Tree.{Name, input, xname, mname, Tree, Forest, Sym, Const, Op, nil, ◌◂◌, operands, fold, folds, eq_name}
use Rattle.spec_tree.specs.Tokens.{word, constant_code, name_code, tokens, tokens_of, all_tokens, kind_of}
use Rattle.spec_tree.proofs.Logic.{and_left, and_right, or_assoc}
use Rattle.spec_tree.proofs.TokenCode.{fits_word, coded, coded_each, all_coded}
use Rattle.spec_cse.specs.Answer.{Let, names, free, concat, symbols, all_symbols, elem}
use Rattle.spec_cse.specs.Order.{meets}
use Rattle.laws.proofs.answer.ScopeLaws.{elem_both, elem_nil}
use Rattle.words.specs.bits.Bits.{inside, yes}
use Rattle.topo_sort.specs.reads.Marks.{name_word, holds_name, with_needs}
use Rattle.topo_sort.proofs.reads.MarkLaws.{or_false, holds_none, holds_cons, needs_fresh}

-- ---- words

pub holds_append : (a b : List ℕ) (i : ℕ) → holds_name (a ++ b) i ≡ (holds_name a i || holds_name b i)
holds_append [] b i = sym (ap (λ (t : Bool). t || holds_name b i) (holds_none i))
holds_append (w ∷ a) b i =
    holds_cons w (a ++ b) i
    ∙ (ap (λ (t : Bool). eqb w (name_word i) || t) (holds_append a b i)
    ∙ (or_assoc (eqb w (name_word i)) (holds_name a i) (holds_name b i) ∙ ap (λ (t : Bool). t || holds_name b i) (sym (holds_cons w a i))))

holds_one : (w i : ℕ) → holds_name (w ∷ []) i ≡ eqb w (name_word i)
holds_one w i = holds_cons w [] i ∙ (ap (λ (t : Bool). eqb w (name_word i) || t) (holds_none i) ∙ or_false (eqb w (name_word i)))

-- a word of another kind is no name's
pub other_kind : (w i : ℕ) → 0 < kind_of w → eqb w (name_word i) ≡ false
other_kind w i h = ne_eqb w (name_word i) (λ e. let z : kind_of w ≡ 0 = omega arith in omega arith)

-- the word of a name is that of `__xN` where the name is
pub code_test : (number : List ℕ → ℕ) (n : Name) (i : ℕ) → eqb (word 0 (name_code number n)) (name_word i) ≡ eq_name n (xname i)
unfolding name_code eq_name
code_test number (input s) i = ne_eqb (word 0 (3 * number s)) (name_word i) (λ e. omega arith)
code_test number (xname n) i = go (eqb n i) refl
  where
    go : (b : Bool) → eqb n i ≡ b → eqb (word 0 (1 + 3 * n)) (name_word i) ≡ eqb n i
    go true q = eq-eqb (word 0 (1 + 3 * n)) (name_word i) (omega (arith, eqb-true n i q)) ∙ sym q
    go false q = ne_eqb (word 0 (1 + 3 * n)) (name_word i) (λ e. not_same q (omega arith)) ∙ sym q
      where
        not_same : eqb n i ≡ false → n ≡ i → ⊥
        not_same q e = let t : ◌≡◌ {A = Bool} true false = sym (eq-eqb n i e) ∙ q in let z : ◌≡◌ {A = ℕ} 0 1 = cc in omega arith
code_test number (mname n) i = ne_eqb (word 0 (2 + 3 * n)) (name_word i) (λ e. omega arith)

-- ---- symbols

pub elem_one : (n s : Name) → elem n (s ∷ []) ≡ eq_name s n
unfolding elem
elem_one n s = go (eq_name s n)
  where
    go : (b : Bool) → ◌≡◌ {A = Bool} (elim b [ true ↦ true | false ↦ false ]) b
    go true = refl
    go false = refl

symbols_each : Forest → List Name
symbols_each f = concat (folds (λ n. n ∷ []) (λ c. []) (λ k l. concat l) f)

each_none : symbols_each nil ≡ []
unfolding symbols_each concat folds
each_none = refl

each_cons : (t : Tree) (f : Forest) → symbols_each (t ◂ f) ≡ symbols t ++ symbols_each f
unfolding symbols_each concat folds symbols
each_cons t f = refl

pub symbol_symbols : (n : Name) → symbols (Sym n) ≡ n ∷ []
unfolding symbols fold
symbol_symbols n = refl

pub constant_symbols : (c : ℤ) → symbols (Const c) ≡ []
unfolding symbols fold
constant_symbols c = refl

operation_symbols : (k : ℕ) (f : Forest) → symbols (Op k f) ≡ symbols_each f
unfolding symbols fold symbols_each
operation_symbols k f = refl

-- one let reads the name that another binds
pub meets_one : (m n : Name) (e other : Tree) → meets (names (Let m other)) (free (Let n e)) ≡ elem m (symbols e)
unfolding meets names free
meets_one m n e other = go (elem m (symbols e))
  where
    go : (b : Bool) → ◌≡◌ {A = Bool} (elim b [ true ↦ true | false ↦ false ]) b
    go true = refl
    go false = refl

-- ---- a tree's words, whatever the numbers of the list's symbols

module _ (number : List ℕ → ℕ) (known : List ℕ → Bool) (i : ℕ) where
  mutual
    unfolding tokens coded

    pub holds_tree : (t : Tree) → T (coded known t) → holds_name (tokens number t) i ≡ elem (xname i) (symbols t)
    holds_tree (Sym n) h =
        holds_one (word 0 (name_code number n)) i ∙ (code_test number n i ∙ (sym (elem_one (xname i) n) ∙ ap (elem (xname i)) (sym (symbol_symbols n))))
    holds_tree (Const c) h = holds_one (word 1 (constant_code c)) i ∙ (other_kind (word 1 (constant_code c)) i (omega arith) ∙ (sym (elem_nil (xname i)) ∙ ap (elem (xname i)) (sym (constant_symbols c))))
    holds_tree (Op k f) h =
        let fit = and_left (fits_word k) (coded_each known f) h in
        let low = leb→le 2 k (and_left (leb 2 k) (ltb k 64) fit) in
        let high = ltb→lt k 64 (and_right (leb 2 k) (ltb k 64) fit) in
        holds_cons (word k (length (operands f))) (tokens_of number f) i
        ∙ (ap (λ (t : Bool). t || holds_name (tokens_of number f) i) (other_kind (word k (length (operands f))) i (omega (arith, low, high)))
        ∙ (holds_each f (and_right (fits_word k) (coded_each known f) h) ∙ ap (elem (xname i)) (sym (operation_symbols k f))))

    holds_each : (f : Forest) → T (coded_each known f) → holds_name (tokens_of number f) i ≡ elem (xname i) (symbols_each f)
    holds_each nil h = holds_none i ∙ (sym (elem_nil (xname i)) ∙ ap (elem (xname i)) (sym each_none))
    holds_each (t ◂ f) h =
        holds_append (tokens number t) (tokens_of number f) i
        ∙ (ap₂ ◌||◌ (holds_tree t (and_left (coded known t) (coded_each known f) h)) (holds_each f (and_right (coded known t) (coded_each known f) h))
        ∙ (sym (elem_both (xname i) (symbols t) (symbols_each f)) ∙ ap (elem (xname i)) (sym (each_cons t f))))

  pub holds_all : (ts : List Tree) → T (all_coded known ts) → holds_name (all_tokens number ts) i ≡ elem (xname i) (all_symbols ts)
  unfolding all_tokens all_coded all_symbols
  holds_all [] h = holds_none i ∙ sym (elem_nil (xname i))
  holds_all (t ∷ ts) h =
      holds_append (tokens number t) (all_tokens number ts) i
      ∙ (ap₂ ◌||◌ (holds_tree t (and_left (coded known t) (all_coded known ts) h)) (holds_all ts (and_right (coded known t) (all_coded known ts) h))
      ∙ sym (elem_both (xname i) (symbols t) (all_symbols ts)))

  -- ---- one let needs another

  pub reads_name : (n : Name) (e other : Tree) → T (coded known e) → meets (names (Let (xname i) other)) (free (Let n e)) ≡ holds_name (tokens number e) i
  reads_name n e other h = meets_one (xname i) n e other ∙ sym (holds_tree e h)

  -- the place marked says so
  pub marked_reads :
      (n : Name) (e other : Tree) (row : ℕ) (table : List ℕ) → T (coded known e) → yes table row i ≡ false → inside (length table) row i ≡ true
      → yes (with_needs (tokens number e) row table) row i ≡ meets (names (Let (xname i) other)) (free (Let n e))
  marked_reads n e other row table h was here = needs_fresh (tokens number e) row table i was here ∙ sym (reads_name n e other h)
