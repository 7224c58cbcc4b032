-- Rewritten words are words of trees again: as many as before, and read back they are the rewritten trees, so that one rewriting can follow another.
-- Assumes nothing.
use Prim.Native.Nat.{ℕ, zero, suc, ◌/◌, ◌%◌}
use native.Mathlib.Omega.{arith}
use mathlib.Core.Path.{◌≡◌, refl, ◌∙◌, ap}
use mathlib.Core.Bool.{Bool}
use mathlib.Core.Option.{some}
use mathlib.Core.List.{List, [], ◌∷◌, map}
use lib.ListN.{length, take, drop}
use lib.Dec.{T, eqb, leb, ltb, eqb→eq, le→leb, lt→ltb}
use Rattle.spec_tree.specs.Tree.{Tree, Sym, forest}
use Rattle.spec_tree.specs.Tokens.{kind_of, below_of, takes, name_by, tree_of_word, read, all_tokens, trees_in, numbered}
use Rattle.spec_tree.proofs.Logic.{and_left, and_right, and_both}
use Rattle.spec_tree.proofs.TokenLaws.{Word, a_symbol, a_constant, an_operation, word_is, symbol_tree, constant_tree, operation_tree, complete_length}
use Rattle.spec_tree.proofs.TokenCode.{fits_word, known_name, coded, coded_each, all_coded, reads_back, tokens_complete}
use Rattle.words.specs.words.Words.{number, rewritten_words, name_of}

-- a symbol that is named by its number alone
abbrev pub named_by_number : List ℕ → Bool
named_by_number s = eqb (length s) 1

-- a tree that words can be read as
abbrev pub readable : Tree → Bool
readable t = coded named_by_number t

number_back : (s : List ℕ) → T (named_by_number s) → numbered (number s) ≡ s
number_back [] t = absurd t
number_back (n ∷ []) t = refl
number_back (n ∷ (m ∷ s)) t = let e = eqb→eq (suc (suc (length s))) 1 t in absurd (omega arith)

name_known : (class n : ℕ) → T (known_name named_by_number (name_by numbered class n))
unfolding known_name name_by
name_known zero n = tt
name_known (suc zero) n = tt
name_known (suc (suc class)) n = tt

pub name_readable : (w : ℕ) → T (readable (Sym (name_of w)))
unfolding coded name_of
name_readable w = name_known (below_of w % 3) (below_of w / 3)

-- ---- what is read is readable

all_take : (n : ℕ) (l : List Tree) → T (all_coded named_by_number l) → T (all_coded named_by_number (take n l))
unfolding all_coded
all_take zero l h = tt
all_take (suc n) [] h = tt
all_take (suc n) (t ∷ l) h =
    and_both (readable t) (all_coded named_by_number (take n l)) (and_left (readable t) (all_coded named_by_number l) h)
    (all_take n l (and_right (readable t) (all_coded named_by_number l) h))

all_drop : (n : ℕ) (l : List Tree) → T (all_coded named_by_number l) → T (all_coded named_by_number (drop n l))
unfolding all_coded
all_drop zero l h = h
all_drop (suc n) [] h = tt
all_drop (suc n) (t ∷ l) h = all_drop n l (and_right (readable t) (all_coded named_by_number l) h)

forest_readable : (l : List Tree) → T (all_coded named_by_number l) → T (coded_each named_by_number (forest l))
unfolding all_coded coded_each forest
forest_readable [] h = tt
forest_readable (t ∷ l) h =
    and_both (readable t) (coded_each named_by_number (forest l)) (and_left (readable t) (all_coded named_by_number l) h)
    (forest_readable l (and_right (readable t) (all_coded named_by_number l) h))

made_readable : (w : ℕ) (l : List Tree) → T (all_coded named_by_number l) → T (readable (tree_of_word numbered w l))
unfolding coded
made_readable w l h = go (word_is w)
  where
    go : Word w → T (readable (tree_of_word numbered w l))
    go (a_symbol k) = rw (symbol_tree numbered w l k) (name_known (below_of w % 3) (below_of w / 3))
    go (a_constant k) = rw (constant_tree numbered w l k) tt
    go (an_operation k) =
        rw (operation_tree numbered w l k)
        (and_both (fits_word (kind_of w)) (coded_each named_by_number (forest l))
        (and_both (leb 2 (kind_of w)) (ltb (kind_of w) 64) (le→leb 2 (kind_of w) (omega arith)) (lt→ltb (kind_of w) 64 (omega arith))) (forest_readable l h))

pub read_readable : (ws : List ℕ) → T (all_coded named_by_number (read numbered ws))
unfolding all_coded read
read_readable [] = tt
read_readable (w ∷ ws) =
    let rs = read numbered ws in
    let h = read_readable ws in
    and_both (readable (tree_of_word numbered w (take (takes w) rs))) (all_coded named_by_number (drop (takes w) rs))
    (made_readable w (take (takes w) rs) (all_take (takes w) rs h)) (all_drop (takes w) rs h)

-- ---- a rewriting that keeps trees readable

module _ (f : Tree → Tree) (keeps : (t : Tree) → T (readable t) → T (readable (f t))) where
  map_readable : (l : List Tree) → T (all_coded named_by_number l) → T (all_coded named_by_number (map f l))
  unfolding all_coded
  map_readable [] h = tt
  map_readable (t ∷ l) h =
      and_both (readable (f t)) (all_coded named_by_number (map f l)) (keeps t (and_left (readable t) (all_coded named_by_number l) h))
      (map_readable l (and_right (readable t) (all_coded named_by_number l) h))

  map_length : (l : List Tree) → length (map f l) ≡ length l
  map_length [] = refl
  map_length (t ∷ l) = ap suc (map_length l)

  -- the rewritten words are the rewritten trees
  pub rewritten_trees : (ws : List ℕ) → read numbered (rewritten_words f ws) ≡ map f (read numbered ws)
  unfolding rewritten_words
  rewritten_trees ws = reads_back number numbered named_by_number number_back (map f (read numbered ws)) (map_readable (read numbered ws) (read_readable ws))

  -- no word lacks an operand, and there are as many trees
  pub rewritten_complete : (ws : List ℕ) (n : ℕ) → trees_in ws ≡ some n → trees_in (rewritten_words f ws) ≡ some n
  unfolding rewritten_words
  rewritten_complete ws n e =
      tokens_complete number named_by_number (map f (read numbered ws)) (map_readable (read numbered ws) (read_readable ws))
      ∙ ap some (map_length (read numbered ws) ∙ complete_length numbered ws n e)

  map_twice : (g : Tree → Tree) (l : List Tree) → map g (map f l) ≡ map (λ (t : Tree). g (f t)) l
  map_twice g [] = refl
  map_twice g (t ∷ l) = ap (λ (r : List Tree). g (f t) ∷ r) (map_twice g l)

  -- one rewriting after another
  pub rewritten_twice : (g : Tree → Tree) (ws : List ℕ) → rewritten_words g (rewritten_words f ws) ≡ rewritten_words (λ (t : Tree). g (f t)) ws
  unfolding rewritten_words
  rewritten_twice g ws = ap (λ (l : List Tree). all_tokens number (map g l)) (rewritten_trees ws) ∙ ap (all_tokens number) (map_twice g (read numbered ws))
