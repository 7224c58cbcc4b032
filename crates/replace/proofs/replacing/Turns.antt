-- The words of rewritten trees, a node at a time: the target, a node that stays with its operands rewritten, or any other first tree. Assumes nothing.
use Rattle.std.proofs.Common.{◌≡◌, ℕ, zero, suc, Bool, true, false, ◌||◌, T, leb, List, [], ◌∷◌, ◌++◌, length, take, drop, sym, refl, ap, ◌∙◌, subst, arith, leb→le, take-append-drop, length-take-le}
use mathlib.Core.Option.{some}
use Rattle.spec_tree.specs.Bytes.{every}
use Rattle.spec_tree.specs.Outcome.{Outcome, ok, refused, ◌>>=◌, each}
use Rattle.spec_tree.specs.Tree.{Name, Tree, Forest, Sym, ◌◂◌, forest}
use Rattle.spec_tree.specs.Kinds.{arity_ok}
use Rattle.spec_tree.specs.Tokens.{kind_of, below_of, takes, tree_of_word, numbered, read, tokens, all_tokens, trees_in}
use Rattle.spec_tree.proofs.Formed.{operand_count, well_formed, well_formed_each}
use Rattle.spec_tree.proofs.Logic.{and_left, and_right, and_both}
use Rattle.spec_tree.proofs.TokenLaws.{Word, a_symbol, a_constant, an_operation, word_is, operation_takes, symbol_tree, constant_tree, operation_tree, made, read_cons, complete_tail, complete_length}
use Rattle.spec_tree.proofs.TokenCode.{all_tokens_append, all_tokens_cons}
use Rattle.spec_rewrite.specs.Rewrite.{each_operand, replace}
use Rattle.spec_rewrite.proofs.Counts.{well_formed_all}
use Rattle.words.specs.words.Words.{number, name_of}
use Rattle.words.proofs.words.Rewriting.{node_written, name_written}
use Rattle.replace.proofs.closed.Chain.{each_both, each_long}
use Rattle.replace.specs.replacing.Replacing.{replaced_words, formed_word}

-- ---- trees formed as 01 has them

formed_take : (n : ℕ) (l : List Tree) → T (well_formed_all l) → T (well_formed_all (take n l))
unfolding well_formed_all
formed_take zero l h = tt
formed_take (suc n) [] h = tt
formed_take (suc n) (t ∷ l) h =
    and_both (well_formed t) (well_formed_all (take n l)) (and_left (well_formed t) (well_formed_all l) h) (formed_take n l (and_right (well_formed t) (well_formed_all l) h))

formed_drop : (n : ℕ) (l : List Tree) → T (well_formed_all l) → T (well_formed_all (drop n l))
unfolding well_formed_all
formed_drop zero l h = h
formed_drop (suc n) [] h = tt
formed_drop (suc n) (t ∷ l) h = formed_drop n l (and_right (well_formed t) (well_formed_all l) h)

formed_forest : (l : List Tree) → T (well_formed_all l) → T (well_formed_each (forest l))
unfolding well_formed_all well_formed forest
formed_forest [] h = tt
formed_forest (t ∷ l) h =
    and_both (well_formed t) (well_formed_each (forest l)) (and_left (well_formed t) (well_formed_all l) h) (formed_forest l (and_right (well_formed t) (well_formed_all l) h))

pub count_forest : (l : List Tree) → operand_count (forest l) ≡ length l
unfolding operand_count forest
count_forest [] = refl
count_forest (t ∷ l) = ap suc (count_forest l)

formed_made : (w : ℕ) (l : List Tree) → length l ≡ takes w → T (formed_word w) → T (well_formed_all l) → T (well_formed (tree_of_word numbered w l))
unfolding well_formed
formed_made w l e f h = go (word_is w)
  where
    arity : (b c : Bool) → (T b → ⊥) → T (b || c) → T c
    arity true c n t = absurd (n tt)
    arity false c n t = t

    go : Word w → T (well_formed (tree_of_word numbered w l))
    go (a_symbol k) = rw (symbol_tree numbered w l k) tt
    go (a_constant k) = rw (constant_tree numbered w l k) tt
    go (an_operation k) =
        let c : operand_count (forest l) ≡ below_of w = count_forest l ∙ e ∙ operation_takes w k in
        rw (operation_tree numbered w l k)
        (and_both (arity_ok (kind_of w) (operand_count (forest l))) (well_formed_each (forest l))
        (subst (λ (n : ℕ). T (arity_ok (kind_of w) n)) (sym c)
        (arity (leb (kind_of w) 1) (arity_ok (kind_of w) (below_of w)) (λ t. (let x = leb→le (kind_of w) 1 t in omega arith)) (unfold formed_word in f)))
        (formed_forest l h))

pub words_formed : (ws : List ℕ) (n : ℕ) → trees_in ws ≡ some n → T (every formed_word ws) → T (well_formed_all (read numbered ws))
unfolding every well_formed_all
words_formed [] n e h = (unfold read in tt)
words_formed (w ∷ ws) n e h =
    let t = complete_tail w ws n e in
    let l = complete_length numbered ws t.trees t.are in
    let i = words_formed ws t.trees t.are (and_right (formed_word w) (every formed_word ws) h) in
    subst (λ (r : List Tree). T (well_formed_all r)) (sym (read_cons numbered w ws))
    (and_both (well_formed (made numbered w (read numbered ws))) (well_formed_all (drop (takes w) (read numbered ws)))
    (formed_made w (take (takes w) (read numbered ws)) (length-take-le (takes w) (read numbered ws) (omega (arith, t.enough))) (and_left (formed_word w) (every formed_word ws) h)
    (formed_take (takes w) (read numbered ws) i))
    (formed_drop (takes w) (read numbered ws) i))

-- ---- steps at each of some trees

module _ (g : Tree → Outcome Tree) where
  pub each_forest : (l : List Tree) → each_operand g (forest l) ≡ (each g l >>= λ m. ok (forest m))
  unfolding each each_operand forest
  each_forest [] = refl
  each_forest (t ∷ l) = go (g t) (each g l) (each_operand g (forest l)) (each_forest l)
    where
      go : (o : Outcome Tree) (p : Outcome (List Tree)) (q : Outcome Forest) → q ≡ (p >>= λ m. ok (forest m))
          → (o >>= λ u. q >>= λ r. ok (u ◂ r)) ≡ ((o >>= λ u. p >>= λ s. ok (u ∷ s)) >>= λ m. ok (forest m))
      go (ok u) (ok s) q e = ap (λ (x : Outcome Forest). x >>= λ r. ok (u ◂ r)) e
      go (ok u) (refused i) q e = ap (λ (x : Outcome Forest). x >>= λ r. ok (u ◂ r)) e
      go (refused i) p q e = refl

module _ (target : Tree) (n : Name) where
  abbrev rep : Tree → Outcome Tree
  rep = replace target n

  abbrev words_out : List Tree → Outcome (List ℕ)
  words_out l = each rep l >>= λ m. ok (all_tokens number m)

  pub replaced_read : (ws : List ℕ) (l : List Tree) → read numbered ws ≡ l → replaced_words target n ws ≡ words_out l
  unfolding replaced_words
  replaced_read ws l e = ap words_out e

  pub replaced_none : replaced_words target n [] ≡ ok []
  unfolding replaced_words read each all_tokens
  replaced_none = refl

  -- the first tree, and those after it
  pub first_out : (ws rest : List ℕ) (e : Tree) → read numbered ws ≡ e ∷ read numbered rest
      → replaced_words target n ws ≡ (rep e >>= λ u. replaced_words target n rest >>= λ b. ok (tokens number u ++ b))
  unfolding each replaced_words
  first_out ws rest e q = ap words_out q ∙ go (rep e) (each rep (read numbered rest))
    where
      go : (o : Outcome Tree) (p : Outcome (List Tree))
          → ((o >>= λ u. p >>= λ s. ok (u ∷ s)) >>= λ m. ok (all_tokens number m)) ≡ (o >>= λ u. (p >>= λ s. ok (all_tokens number s)) >>= λ b. ok (tokens number u ++ b))
      go (ok u) (ok s) = ap ok (all_tokens_cons number u s)
      go (ok u) (refused i) = refl
      go (refused i) p = refl

  -- the target becomes the name
  pub target_out :
      (ws rest : List ℕ) (name : ℕ) (e : Tree) → n ≡ name_of name → kind_of name ≡ 0 → read numbered ws ≡ e ∷ read numbered rest → rep e ≡ ok (Sym n)
      → replaced_words target n ws ≡ (replaced_words target n rest >>= λ b. ok (name ∷ b))
  target_out ws rest name e q k r h =
      first_out ws rest e r ∙ ap (λ (o : Outcome Tree). o >>= λ u. replaced_words target n rest >>= λ b. ok (tokens number u ++ b)) (h ∙ ap (λ (m : Name). ok (Sym m)) q)
      ∙ ap (λ (x : List ℕ). replaced_words target n rest >>= λ b. ok (x ++ b)) (name_written name k)

  -- a node that stays, its operands rewritten
  abbrev pub Stays : ℕ → List ℕ → Type 0
  Stays w ws = rep (made numbered w (read numbered ws)) ≡ (each rep (take (takes w) (read numbered ws)) >>= λ m. ok (tree_of_word numbered w m))

  pub word_out :
      (w : ℕ) (ws : List ℕ) (k : ℕ) → trees_in (w ∷ ws) ≡ some k → Stays w ws
      → replaced_words target n (w ∷ ws) ≡ (replaced_words target n ws >>= λ b. ok (w ∷ b))
  unfolding each replaced_words
  word_out w ws k e h =
      let rs = read numbered ws in
      let t = complete_tail w ws k e in
      let l = take (takes w) rs in
      let d = drop (takes w) rs in
      let len : length l ≡ takes w = length-take-le (takes w) rs (omega (arith, t.enough, complete_length numbered ws t.trees t.are)) in
      ap words_out (read_cons numbered w ws)
      ∙ ap (λ (o : Outcome Tree). (o >>= λ u. each rep d >>= λ s. ok (u ∷ s)) >>= λ m. ok (all_tokens number m)) h
      ∙ go (each rep l) (each rep d) (λ m q. each_long rep l m q ∙ len) refl
      ∙ ap (λ (o : Outcome (List Tree)). (o >>= λ m. ok (all_tokens number m)) >>= λ b. ok (w ∷ b))
      (sym (ap (each rep) (sym (take-append-drop (takes w) rs)) ∙ each_both rep l d))
    where
      go : (o p : Outcome (List Tree)) → ((m : List Tree) → each rep (take (takes w) (read numbered ws)) ≡ ok m → length m ≡ takes w) → each rep (take (takes w) (read numbered ws)) ≡ o
          → (((o >>= λ m. ok (tree_of_word numbered w m)) >>= λ u. p >>= λ s. ok (u ∷ s)) >>= λ m. ok (all_tokens number m))
          ≡ (((o >>= λ a. p >>= λ b. ok (a ++ b)) >>= λ m. ok (all_tokens number m)) >>= λ b. ok (w ∷ b))
      go (ok a) (ok b) f q =
          ap ok (all_tokens_cons number (tree_of_word numbered w a) b ∙ ap (λ (x : List ℕ). x ++ all_tokens number b) (node_written w a (f a q))
          ∙ ap (λ (x : List ℕ). w ∷ x) (sym (all_tokens_append number a b)))
      go (ok a) (refused i) f q = refl
      go (refused i) p f q = refl
