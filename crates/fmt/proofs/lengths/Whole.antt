-- The text of an expression has at most 34 bytes for each node: so that of 1,927 nodes fits 65,536 bytes, and two fit 131,072. A tree that is read from words
-- below 2^64 is such an expression where it passes. Assumes nothing.
use Prim.Native.Nat.{ℕ, zero, suc, ◌+◌, ◌*◌, ◌/◌, ◌%◌, ◌^◌, ◌≤◌, ◌<◌}
use native.Mathlib.Omega.{arith}
use mathlib.Core.Path.{◌≡◌, refl, sym, ap, subst}
use mathlib.Core.Bool.{Bool, true, ◌&&◌}
use mathlib.Core.List.{List, [], ◌∷◌, map}
use lib.Dec.{T, ltb, ltb→lt, lt→ltb}
use lib.ListN.{length, get_or, take, drop}
use Rattle.spec_tree.specs.Bytes.{every, integer}
use Rattle.spec_tree.specs.Tree.{Tree, Forest, Sym, Const, Op, nil, ◌◂◌, fold, folds}
use Rattle.spec_tree.specs.Facts.{total, size}
use Rattle.spec_tree.specs.Passes.{all_of, symbol_ok, of_paper, operands_ok, tree_ok}
use Rattle.spec_tree.specs.Tokens.{kind_of, below_of, takes, name_by, tree_of_word, read, trees_at}
use Rattle.spec_tree.proofs.Logic.{and_left, and_right, and_both}
use Rattle.spec_tree.proofs.TokenLaws.{Word, a_symbol, a_constant, an_operation, word_is, symbol_tree, constant_tree, operation_tree, fold_operation, made, tree_at}
use Rattle.spec_tree.specs.text.Text.{Part, name_text, precedence, operation_text, part, display}
use Rattle.fmt.specs.emit.Writing.{place_after}
use Rattle.fmt.specs.lengths.Room.{number_fits, numbers_fit, text_room}
use Rattle.fmt.proofs.lengths.Leaves.{symbol_short, constant_short}
use Rattle.fmt.proofs.lengths.Operations.{lengths, operation_short}

-- ---- any tree

abbrev parts_of : Forest → List Part
parts_of f = folds (λ n. record { prec = 10; text = name_text n }) (λ c. record { prec = 10; text = integer c }) (λ k parts. record { prec = precedence k; text = operation_text k parts }) f

abbrev tests_of : Forest → List Bool
tests_of f = folds symbol_ok of_paper (λ k tests. operands_ok k (length tests) && all_of tests) f

abbrev fits_of : Forest → List Bool
fits_of f = folds number_fits (λ c. true) (λ k tests. all_of tests) f

abbrev sizes_of : Forest → List ℕ
sizes_of f = folds (λ n. 1) (λ c. 1) (λ k sizes. suc (total sizes)) f

as_many : (f : Forest) → length (tests_of f) ≡ length (parts_of f)
unfolding folds
as_many nil = refl
as_many (t ◂ f) = ap suc (as_many f)

mutual
  unfolding display part fold tree_ok numbers_fit size total all_of lengths

  text_short : (t : Tree) → T (tree_ok t) → T (numbers_fit t) → length (display t) + 2 ≤ 34 * size t
  text_short (Sym n) t u = omega (arith, symbol_short n t u)
  text_short (Const c) t u = omega (arith, constant_short c t)
  text_short (Op k f) t u =
      let a = operands_ok k (length (tests_of f)) in
      let b = all_of (tests_of f) in
      let ok : T (operands_ok k (length (parts_of f))) = subst (λ (n : ℕ). T (operands_ok k n)) (as_many f) (and_left a b t) in
      omega (arith, operation_short k (parts_of f) ok, texts_short f (and_right a b t) u)

  texts_short : (f : Forest) → T (all_of (tests_of f)) → T (all_of (fits_of f)) → 2 * length (parts_of f) + lengths (parts_of f) ≤ 34 * total (sizes_of f)
  texts_short nil t u = omega arith
  texts_short (x ◂ f) t u =
      omega (arith, text_short x (and_left (tree_ok x) (all_of (tests_of f)) t) (and_left (numbers_fit x) (all_of (fits_of f)) u), texts_short f (and_right (tree_ok x) (all_of (tests_of f)) t) (and_right (numbers_fit x) (all_of (fits_of f)) u))

pub text_fits : (t : Tree) → T (tree_ok t) → T (numbers_fit t) → length (display t) ≤ text_room t
text_fits t h g = omega (arith, text_short t h g)

-- half of the text area
pub text_half : (t : Tree) → T (tree_ok t) → T (numbers_fit t) → size t ≤ 1927 → length (display t) ≤ 65536
text_half t h g k = omega (arith, text_short t h g)

-- two texts, one after the other
pub two_texts :
    (t u : Tree) (old : List ℕ) → T (tree_ok t) → T (numbers_fit t) → size t ≤ 1927 → T (tree_ok u) → T (numbers_fit u) → size u ≤ 1927 → 131072 ≤ length old
    → (place_after old 0 (display t) ≡ length (display t)) × (place_after old (length (display t)) (display u) ≡ length (display t) + length (display u))
two_texts t u old h g k i j l m = (omega (arith, text_short t h g), omega (arith, text_short t h g, text_short u i j))

-- ---- a tree that is read from words of 64 bits

abbrev small : ℕ → Bool
small w = ltb w (2 ^ 64)

abbrev all_fit : List Tree → Bool
all_fit [] = true
all_fit (t ∷ l) = numbers_fit t && all_fit l

fit_take : (n : ℕ) (l : List Tree) → T (all_fit l) → T (all_fit (take n l))
fit_take zero l t = tt
fit_take (suc n) [] t = tt
fit_take (suc n) (x ∷ l) t = and_both (numbers_fit x) (all_fit (take n l)) (and_left (numbers_fit x) (all_fit l) t) (fit_take n l (and_right (numbers_fit x) (all_fit l) t))

fit_drop : (n : ℕ) (l : List Tree) → T (all_fit l) → T (all_fit (drop n l))
fit_drop zero l t = t
fit_drop (suc n) [] t = tt
fit_drop (suc n) (x ∷ l) t = fit_drop n l (and_right (numbers_fit x) (all_fit l) t)

fit_first : (l : List Tree) → T (all_fit l) → T (numbers_fit (get_or l 0 (Op 0 nil)))
unfolding numbers_fit fold all_of
fit_first [] t = tt
fit_first (x ∷ l) t = and_left (numbers_fit x) (all_fit l) t

each_fits : (l : List Tree) → T (all_fit l) → T (all_of (map numbers_fit l))
unfolding all_of
each_fits [] t = tt
each_fits (x ∷ l) t = and_both (numbers_fit x) (all_of (map numbers_fit l)) (and_left (numbers_fit x) (all_fit l) t) (each_fits l (and_right (numbers_fit x) (all_fit l) t))

module _ (name_at : ℕ → List ℕ) where
  fit_name : (class n : ℕ) → n < 2 ^ 64 → T (number_fits (name_by name_at class n))
  unfolding number_fits name_by
  fit_name zero n h = tt
  fit_name (suc zero) n h = lt→ltb n (2 ^ 64) h
  fit_name (suc (suc class)) n h = lt→ltb n (2 ^ 64) h

  fit_word : (w : ℕ) (l : List Tree) → w < 2 ^ 64 → T (all_fit l) → T (numbers_fit (tree_of_word name_at w l))
  unfolding numbers_fit fold
  fit_word w l h t = go (word_is w)
    where
      go : Word w → T (numbers_fit (tree_of_word name_at w l))
      go (a_symbol k) = subst (λ (x : Tree). T (numbers_fit x)) (sym (symbol_tree name_at w l k)) (fit_name (below_of w % 3) (below_of w / 3) (omega arith))
      go (a_constant k) = subst (λ (x : Tree). T (numbers_fit x)) (sym (constant_tree name_at w l k)) tt
      go (an_operation k) =
          subst (λ (x : Tree). T (numbers_fit x)) (sym (operation_tree name_at w l k))
          (subst T (sym (fold_operation number_fits (λ c. true) (λ k tests. all_of tests) (kind_of w) l)) (each_fits l t))

  fit_read : (ws : List ℕ) → T (every small ws) → T (all_fit (read name_at ws))
  unfolding every read
  fit_read [] t = tt
  fit_read (w ∷ ws) t =
      let rs = read name_at ws in
      let below = fit_read ws (and_right (small w) (every small ws) t) in
      and_both (numbers_fit (made name_at w rs)) (all_fit (drop (takes w) rs)) (fit_word w (take (takes w) rs) (ltb→lt w (2 ^ 64) (and_left (small w) (every small ws) t)) (fit_take (takes w) rs below))
      (fit_drop (takes w) rs below)

  small_drop : (n : ℕ) (ws : List ℕ) → T (every small ws) → T (every small (drop n ws))
  unfolding every
  small_drop zero ws t = t
  small_drop (suc n) [] t = t
  small_drop (suc n) (w ∷ ws) t = small_drop n ws (and_right (small w) (every small ws) t)

  pub read_fits : (ws : List ℕ) (at : ℕ) → T (every (λ w. ltb w (2 ^ 64)) ws) → T (numbers_fit (get_or (trees_at name_at ws) at (Op 0 nil)))
  read_fits ws at t = subst (λ (x : Tree). T (numbers_fit x)) (sym (tree_at name_at ws at)) (fit_first (read name_at (drop at ws)) (fit_read (drop at ws) (small_drop at ws t)))
