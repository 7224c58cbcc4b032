-- The text of the tree at a place from its word: a leaf's, an operation's, and a child's with its brackets. Assumes nothing.
use Prim.Native.Nat.{ℕ, zero, suc, ◌+◌, ◌/◌, ◌%◌, ◌≤◌, ◌<◌}
use native.Mathlib.Omega.{arith}
use mathlib.Core.Path.{◌≡◌, refl, sym, ◌∙◌, ap, ap₂, subst}
use mathlib.Core.Bool.{Bool, true, false, ◌&&◌, ◌||◌, not}
use mathlib.Core.List.{List, [], ◌∷◌, ◌++◌, map}
use borrow.Author.Tests.{lt-ltb}
use lib.Dec.{T, eqb, leb, leb→le, eqb→eq}
use lib.ListN.{length, get_or, take, drop}
use Rattle.spec_tree.specs.Bytes.{integer, every}
use Rattle.spec_tree.specs.Symbol.{is_letter, is_digit, is_made, is_name}
use Rattle.spec_tree.specs.Tree.{Name, input, xname, mname, Tree, Sym, Const, Op, fold, forest}
use Rattle.spec_tree.specs.Facts.{total, size}
use Rattle.spec_tree.specs.Passes.{all_of, symbol_ok, of_paper, operands_ok, tree_ok, trees_ok}
use Rattle.spec_tree.specs.Tokens.{kind_of, below_of, constant_at, name_by, name_in, tree_of_word, read}
use Rattle.spec_tree.proofs.Logic.{and_left, and_right, either}
use Rattle.spec_tree.proofs.TokenLaws.{Word, a_symbol, a_constant, an_operation, word_is, sizes, symbol_tree, constant_tree, operation_tree, leaf_takes, fold_operation}
use Rattle.spec_tree.specs.text.Text.{Part, name_text, precedence, operation_text, part, display, bracketed}
use Rattle.fmt.specs.emit.Writing.{Writes, low_bytes}
use Rattle.fmt.specs.symbols.Symbols.{row_name, symbol_text}
use Rattle.fmt.proofs.emit.WriteLaws.{writes_then, writes_as}
use Rattle.fmt.proofs.emit.TextLaws.{low_none}
use Rattle.fmt.proofs.symbols.NameLaws.{low_made, low_one, low_append}
use Rattle.fmt.specs.checked.Check.{rows_in}
use Rattle.fmt.specs.shapes.Operands.{brackets}
use Rattle.fmt.specs.shapes.Places.{tree_here, Stands, Passes}
use Rattle.fmt.proofs.shapes.PlaceLaws.{below_here, Node, node}

-- ---- a symbol's name is bytes

letter_low : (b : ℕ) → T (is_letter b) → b < 256
letter_low b t =
    either (b < 256) (leb 65 b && leb b 90) ((leb 97 b && leb b 122) || eqb b 95) (λ u. let h = leb→le b 90 (and_right (leb 65 b) (leb b 90) u) in omega arith)
    (λ v. either (b < 256) (leb 97 b && leb b 122) (eqb b 95) (λ u. let h = leb→le b 122 (and_right (leb 97 b) (leb b 122) u) in omega arith) (λ u. let h = eqb→eq b 95 u in omega arith) v) t

word_low : (b : ℕ) → T (is_letter b || is_digit b) → b < 256
word_low b t = either (b < 256) (is_letter b) (is_digit b) (letter_low b) (λ u. let h = leb→le b 57 (and_right (leb 48 b) (leb b 57) u) in omega arith) t

low_word : (l : List ℕ) → T (every (λ c. is_letter c || is_digit c) l) → low_bytes l ≡ l
unfolding every
low_word [] t = low_none
low_word (b ∷ l) t =
    let u = and_left (is_letter b || is_digit b) (every (λ c. is_letter c || is_digit c) l) t in
    let v = and_right (is_letter b || is_digit b) (every (λ c. is_letter c || is_digit c) l) t in
    low_append (b ∷ []) l ∙ ap₂ ◌++◌ (low_one b (word_low b u)) (low_word l v)

low_name : (s : List ℕ) → T (is_name s) → low_bytes s ≡ s
unfolding is_name
low_name [] t = absurd t
low_name (b ∷ l) t =
    let c = every (λ c. is_letter c || is_digit c) l in
    let d = leb (suc (length l)) 32 && not (is_made (b ∷ l)) in
    let u = and_left (is_letter b) (c && d) t in
    let v = and_left c d (and_right (is_letter b) (c && d) t) in
    low_append (b ∷ []) l ∙ ap₂ ◌++◌ (low_one b (letter_low b u)) (low_word l v)

low_symbol : (n : Name) → T (symbol_ok n) → low_bytes (name_text n) ≡ name_text n
unfolding symbol_ok name_text
low_symbol (input s) t = low_name s t
low_symbol (xname n) t = low_made 95 95 120 n (omega arith) (omega arith) (omega arith)
low_symbol (mname n) t = low_made 95 95 109 n (omega arith) (omega arith) (omega arith)

-- ---- trees by their top

display_symbol : (n : Name) → display (Sym n) ≡ name_text n
unfolding display part fold
display_symbol n = refl

display_constant : (c : _) → display (Const c) ≡ integer c
unfolding display part fold
display_constant c = refl

pub display_operation : (k : ℕ) (l : List Tree) → display (Op k (forest l)) ≡ operation_text k (map part l)
unfolding display part
display_operation k l = ap (λ (p : Part). p.text) (fold_operation (λ n. record { prec = 10; text = name_text n }) (λ c. record { prec = 10; text = integer c }) (λ k parts. record { prec = precedence k; text = operation_text k parts }) k l)

prec_symbol : (n : Name) → (part (Sym n)).prec ≡ 10
unfolding part fold
prec_symbol n = refl

prec_constant : (c : _) → (part (Const c)).prec ≡ 10
unfolding part fold
prec_constant c = refl

prec_operation : (k : ℕ) (l : List Tree) → (part (Op k (forest l))).prec ≡ precedence k
unfolding part
prec_operation k l = ap (λ (p : Part). p.prec) (fold_operation (λ n. record { prec = 10; text = name_text n }) (λ c. record { prec = 10; text = integer c }) (λ k parts. record { prec = precedence k; text = operation_text k parts }) k l)

leaf_precedence : (k : ℕ) → k ≤ 1 → precedence k ≡ 10
unfolding precedence
leaf_precedence k h = rw (lt-ltb k 2 (omega arith))

ok_symbol : (n : Name) → tree_ok (Sym n) ≡ symbol_ok n
unfolding tree_ok fold
ok_symbol n = refl

map_length : (l : List Tree) → length (map tree_ok l) ≡ length l
map_length [] = refl
map_length (t ∷ l) = ap suc (map_length l)

each_ok : (l : List Tree) → all_of (map tree_ok l) ≡ trees_ok l
unfolding all_of trees_ok
each_ok [] = refl
each_ok (t ∷ l) = ap (λ (b : Bool). tree_ok t && b) (each_ok l)

pub ok_operation : (k : ℕ) (l : List Tree) → tree_ok (Op k (forest l)) ≡ (operands_ok k (length l) && trees_ok l)
unfolding tree_ok
ok_operation k l =
    fold_operation symbol_ok of_paper (λ k tests. operands_ok k (length tests) && all_of tests) k l
    ∙ ap₂ (λ (n : ℕ) (b : Bool). operands_ok k n && b) (map_length l) (each_ok l)

pub ok_at : (l : List Tree) (i : ℕ) (d : Tree) → T (trees_ok l) → i < length l → T (tree_ok (get_or l i d))
unfolding trees_ok
ok_at [] i d t h = absurd (omega arith)
ok_at (u ∷ l) zero d t h = and_left (tree_ok u) (trees_ok l) t
ok_at (u ∷ l) (suc i) d t h = ok_at l i d (and_right (tree_ok u) (trees_ok l) t) (omega arith)

-- ---- the node at a place

abbrev pub names : List ℕ → ℕ → List ℕ
names rows = name_in (rows_in rows)

pub stands_node : {rows ws : List ℕ} {at : ℕ} → Stands rows ws at → Node (names rows) ws at
unfolding tree_here
stands_node {rows} {ws} {at} S = node (names rows) ws at S.run

pub stands_inside : {rows ws : List ℕ} {at : ℕ} → Stands rows ws at → at < length ws
stands_inside S = (stands_node S).inside

none_sized : sizes [] ≡ 0
unfolding sizes total
none_sized = refl

module _ {rows ws : List ℕ} {at : ℕ} (S : Stands rows ws at) where
  abbrev w : ℕ
  w = get_or ws at 0

  abbrev kids : List Tree
  kids = below_here (names rows) ws at

  here_is : tree_here rows ws at ≡ tree_of_word (names rows) w kids
  unfolding tree_here
  here_is = (stands_node S).is

  pub here_size : size (tree_here rows ws at) ≡ suc (sizes kids)
  unfolding tree_here
  here_size = (stands_node S).sized

  leaf_size : kind_of w ≤ 1 → size (tree_here rows ws at) ≡ 1
  leaf_size h = here_size ∙ (ap (λ (n : ℕ). suc (sizes (take n (read (names rows) (drop (suc at) ws))))) (leaf_takes w h) ∙ ap suc none_sized)

  pub here_prec : (part (tree_here rows ws at)).prec ≡ precedence (kind_of w)
  here_prec = ap (λ (t : Tree). (part t).prec) here_is ∙ go (word_is w)
    where
      go : Word w → (part (tree_of_word (names rows) w kids)).prec ≡ precedence (kind_of w)
      go (a_symbol h) = ap (λ (t : Tree). (part t).prec) (symbol_tree (names rows) w kids h) ∙ (prec_symbol _ ∙ sym (leaf_precedence (kind_of w) (omega arith)))
      go (a_constant h) = ap (λ (t : Tree). (part t).prec) (constant_tree (names rows) w kids h) ∙ (prec_constant _ ∙ sym (leaf_precedence (kind_of w) (omega arith)))
      go (an_operation h) = ap (λ (t : Tree). (part t).prec) (operation_tree (names rows) w kids h) ∙ prec_operation (kind_of w) kids

  -- a child's test by the precedence of its word
  pub child_test : (k i p : ℕ) (r b : Bool) → r ≡ brackets k i p → p ≡ precedence (kind_of w) → r ≡ b → brackets k i (part (tree_here rows ws at)).prec ≡ b
  child_test k i p r b e q f = ap (brackets k i) (here_prec ∙ sym q) ∙ (sym e ∙ f)

  -- an operation's operands
  pub operation_is : 1 < kind_of w → tree_here rows ws at ≡ Op (kind_of w) (forest kids)
  operation_is h = here_is ∙ operation_tree (names rows) w kids h

  module _ {dry : Bool} {old : List ℕ} {to : ℕ} {new : List ℕ} {e : ℕ} where
    pub symbol_done : kind_of w ≡ 0 → Writes dry old to (low_bytes (symbol_text rows (below_of w))) new e → Passes dry old at to (tree_here rows ws at) (display (tree_here rows ws at)) new (at + 1) e
    unfolding symbol_text row_name
    symbol_done h p =
        let n = name_by (names rows) (below_of w % 3) (below_of w / 3) in
        let is = here_is ∙ symbol_tree (names rows) w kids h in
        let ok : T (symbol_ok n) = subst T (ap tree_ok is ∙ ok_symbol n) S.good in
        record {
          token = omega (arith, leaf_size (omega arith));
          written = writes_as (low_bytes (name_text n)) (display (tree_here rows ws at)) (low_symbol n ok ∙ sym (ap display is ∙ display_symbol n)) p;
        }

    pub constant_done : kind_of w ≡ 1 → Writes dry old to (integer (constant_at (below_of w))) new e → Passes dry old at to (tree_here rows ws at) (display (tree_here rows ws at)) new (at + 1) e
    constant_done h p =
        let is = here_is ∙ constant_tree (names rows) w kids h in
        record {
          token = omega (arith, leaf_size (omega arith));
          written = writes_as (integer (constant_at (below_of w))) (display (tree_here rows ws at)) (sym (ap display is ∙ display_constant (constant_at (below_of w)))) p;
        }

-- ---- a child's brackets

module _ {dry : Bool} {old : List ℕ} {at to : ℕ} {t : Tree} {text : List ℕ} {b : Bool} {next : ℕ} where
  pub plain_done : {new : List ℕ} {e : ℕ} → b ≡ false → Passes dry old at to t text new next e → Passes dry old at to t (bracketed b text) new next e
  unfolding bracketed
  plain_done p P = rw p P

  pub bracket_done :
      {m1 m2 new : List ℕ} {j1 j2 e : ℕ} → b ≡ true → Writes dry old to (40 ∷ []) m1 j1 → Passes dry m1 at j1 t text m2 next j2 → Writes dry m2 j2 (41 ∷ []) new e
      → Passes dry old at to t (bracketed b text) new next e
  unfolding bracketed
  bracket_done p R P Q =
      rw p (record { token = P.token; written = writes_then (writes_then R P.written) Q })
