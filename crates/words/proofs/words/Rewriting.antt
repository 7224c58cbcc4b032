-- Rewriting words a run at a time: what is read before and after a run, the words of a node whose operands are rewritten, when words begin with a tree's, and
-- that no more words are written than read. Assumes nothing.
use Prim.Native.Nat.{ℕ, zero, suc, ◌+◌, ◌-◌, ◌≤◌, ◌<◌}
use native.Mathlib.Omega.{arith}
use mathlib.Core.Path.{◌≡◌, refl, sym, ◌∙◌, ap, subst}
use mathlib.Core.Bool.{Bool, true, false}
use mathlib.Core.Option.{some}
use mathlib.Core.List.{List, [], ◌∷◌, ◌++◌, append-nil, map}
use lib.ListN.{length, get_or, take, drop, length-append, take-append-drop}
use lib.Seq.{take_at, drop_at, length-take-le}
use lib.Dec.{T}
use Rattle.spec_tree.specs.Bytes.{eq_bytes}
use Rattle.spec_tree.specs.Tree.{Tree, Sym, Op, nil, eq_tree}
use Rattle.spec_tree.specs.Facts.{total, size}
use Rattle.spec_tree.specs.Tokens.{word, tokens, all_tokens, kind_of, takes, tree_of_word, read, trees_in, words_of, numbered}
use Rattle.spec_tree.proofs.FactLaws.{size_one}
use Rattle.spec_tree.proofs.TreeLaws.{eq_bytes_sound, eq_bytes_refl, eq_tree_sound, eq_tree_refl}
use Rattle.spec_tree.proofs.TokenLaws.{Word, a_symbol, a_constant, an_operation, word_is, leaf_takes, operation_takes, symbol_tree, operation_tree, operands_forest, map_append, sizes, made, read_cons, read_size, complete_tail, complete_length, complete_read, words_tail, words_complete, words_sizes, some_is}
use Rattle.spec_tree.proofs.TokenCode.{tokens_length, all_tokens_append, all_tokens_cons, tokens_forest, writes_back}
use Rattle.words.specs.words.Words.{number, rewritten_words, tree_of, name_of, begins_with}
use Rattle.spec_tree.proofs.Lists.{one_alone}

-- ---- a run of trees in front of others

pub record Segment (us : List ℕ) (k x : ℕ) : Type 0 where
  pub within : x ≤ length us
  pub whole : trees_in (take x us) ≡ some k
  pub first : read numbered (take x us) ≡ take k (read numbered us)
  pub rest : read numbered (drop x us) ≡ drop k (read numbered us)

pub segment : (us : List ℕ) (k x : ℕ) → words_of us k ≡ some x → Segment us k x
segment us k x e =
    let c = words_complete us k x e in
    let l = complete_length numbered (take x us) k c.1 in
    let r = complete_read numbered (take x us) (drop x us) k c.1 in
    let both : read numbered us ≡ read numbered (take x us) ++ read numbered (drop x us) = rw take-append-drop at r in
    record {
      within = c.0;
      whole = c.1;
      first = sym (ap (take k) both ∙ take_at (read numbered (take x us)) (read numbered (drop x us)) k l);
      rest = sym (ap (drop k) both ∙ drop_at (read numbered (take x us)) (read numbered (drop x us)) k l);
    }

-- ---- a node whose operands are rewritten is its word in front of them

leaf_written : (w : ℕ) → takes w ≡ 0 → all_tokens number (tree_of_word numbered w [] ∷ []) ≡ w ∷ []
unfolding trees_in read
leaf_written w h =
    let e : trees_in (w ∷ []) ≡ some 1 = rw h in
    let b = writes_back (w ∷ []) 1 e in
    rw h at b

pub node_written : (w : ℕ) (l : List Tree) → length l ≡ takes w → tokens number (tree_of_word numbered w l) ≡ w ∷ all_tokens number l
unfolding tokens all_tokens
node_written w l h = go (word_is w) l h
  where
    leaf : (l : List Tree) → length l ≡ takes w → takes w ≡ 0 → tokens number (tree_of_word numbered w l) ≡ w ∷ all_tokens number l
    leaf [] h z = sym (append-nil (tokens number (tree_of_word numbered w []))) ∙ leaf_written w z
    leaf (t ∷ l) h z = absurd (omega arith)

    go : Word w → (l : List Tree) → length l ≡ takes w → tokens number (tree_of_word numbered w l) ≡ w ∷ all_tokens number l
    go (a_symbol k) l h = leaf l h (leaf_takes w (omega arith))
    go (a_constant k) l h = leaf l h (leaf_takes w (omega arith))
    go (an_operation k) l h =
        let z = operation_takes w k in
        let e : word (kind_of w) (length l) ≡ w = omega (arith, z, h) in
        rw (operation_tree numbered w l k, operands_forest l, tokens_forest number l) (ap (λ (x : ℕ). x ∷ all_tokens number l) e)

-- the word of a symbol is that of its name
pub name_written : (w : ℕ) → kind_of w ≡ 0 → tokens number (Sym (name_of w)) ≡ w ∷ []
unfolding name_of tokens all_tokens
name_written w h =
    let t = symbol_tree numbered w [] h in
    let n = node_written w [] (sym (leaf_takes w (omega arith))) in
    rw t at n

-- ---- words that begin with a tree's

pub one_written : (d : List ℕ) → trees_in d ≡ some 1 → all_tokens number (tree_of d ∷ []) ≡ d
unfolding tree_of
one_written d e = ap (all_tokens number) (sym (one_alone (read numbered d) (complete_length numbered d 1 e))) ∙ writes_back d 1 e

pub one_long : (d : List ℕ) → trees_in d ≡ some 1 → 0 < length d
unfolding trees_in
one_long [] e = let z : ◌≡◌ {A = ℕ} 0 1 = cc in absurd (omega arith)
one_long (w ∷ d) e = omega arith

test_true : (b : Bool) → T b → b ≡ true
test_true true t = refl
test_true false t = absurd t

-- what stands after a tree that words begin with
pub after_tree : (us d : List ℕ) → trees_in d ≡ some 1 → T (begins_with us d) → read numbered us ≡ tree_of d ∷ read numbered (drop (length d) us)
unfolding begins_with tree_of
after_tree us d e t =
    let b = eq_bytes_sound (take (length d) us) d t in
    let r = complete_read numbered d (drop (length d) us) 1 e in
    let u : us ≡ d ++ drop (length d) us = sym (take-append-drop (length d) us) ∙ ap (λ (l : List ℕ). l ++ drop (length d) us) b in
    ap (read numbered) u ∙ (r ∙ ap (λ (l : List Tree). l ++ read numbered (drop (length d) us)) (one_alone (read numbered d) (complete_length numbered d 1 e)))

first_is : (l : List Tree) (t : Tree) (m : List Tree) → l ≡ t ∷ m → get_or l 0 (Op 0 nil) ≡ t
first_is l t m e = ap (λ (q : List Tree). get_or q 0 (Op 0 nil)) e

pub take_one : (l : List Tree) → 1 ≤ length l → take 1 l ≡ get_or l 0 (Op 0 nil) ∷ []
take_one [] h = absurd (omega arith)
take_one (t ∷ l) h = refl

pub first_of : (a : ℕ) (l : List Tree) → 1 ≤ a → a ≤ length l → take a l ≡ get_or l 0 (Op 0 nil) ∷ drop 1 (take a l)
first_of zero l h k = absurd (omega arith)
first_of (suc a) [] h k = absurd (omega arith)
first_of (suc a) (t ∷ l) h k = refl

pub one_tree_words : (f : Tree → Tree) (t : Tree) → all_tokens number (map f (t ∷ [])) ≡ tokens number (f t)
unfolding all_tokens
one_tree_words f t = append-nil (tokens number (f t))

module _ (us : List ℕ) (n : ℕ) (all : trees_in us ≡ some n) (some_there : 1 ≤ n) (d : List ℕ) (one : trees_in d ≡ some 1) where
  -- the words of the first tree
  first_words : (x : ℕ) → words_of us 1 ≡ some x → take x us ≡ all_tokens number (tree_of us ∷ [])
  unfolding tree_of
  first_words x e =
      let s = segment us 1 x e in
      let l = complete_length numbered us n all in
      sym (writes_back (take x us) 1 s.whole) ∙ ap (all_tokens number) (s.first ∙ take_one (read numbered us) (omega (arith, l)))

  pub begins_so : T (eq_tree (tree_of us) (tree_of d)) → T (begins_with us d)
  unfolding begins_with
  begins_so t =
      let x = sizes (take 1 (read numbered us)) in
      let e = words_sizes numbered us n 1 all some_there in
      let w : take x us ≡ d = first_words x e ∙ (ap (λ (u : Tree). all_tokens number (u ∷ [])) (eq_tree_sound (tree_of us) (tree_of d) t) ∙ one_written d one) in
      let s = segment us 1 x e in
      let l : x ≡ length d = sym (length-take-le x us s.within) ∙ ap length w in
      let v : take (length d) us ≡ d = ap (λ (k : ℕ). take k us) (sym l) ∙ w in
      subst (λ (l : List ℕ). T (eq_bytes l d)) (sym v) (eq_bytes_refl d)

  -- they begin with a tree's where it is the first
  pub begins_tree : (b : Bool) → b ≡ begins_with us d → eq_tree (tree_of us) (tree_of d) ≡ b
  unfolding tree_of
  begins_tree true e =
      let t = subst T e tt in
      let q = first_is (read numbered us) (tree_of d) (read numbered (drop (length d) us)) (after_tree us d one t) in
      test_true (eq_tree (tree_of us) (tree_of d)) (subst (λ (u : Tree). T (eq_tree u (tree_of d))) (sym q) (eq_tree_refl (tree_of d)))
  begins_tree false e = go (eq_tree (tree_of us) (tree_of d)) refl
    where
      go : (c : Bool) → eq_tree (tree_of us) (tree_of d) ≡ c → eq_tree (tree_of us) (tree_of d) ≡ false
      go true p = absurd (subst T (sym e) (begins_so (subst T (sym p) tt)))
      go false p = p

-- ---- a node of complete words: where its first operand and the whole of it end

pub first_tree : (w : ℕ) (ws : List ℕ) → tree_of (w ∷ ws) ≡ made numbered w (read numbered ws)
unfolding tree_of read
first_tree w ws = refl

pub first_there : (w : ℕ) (ws : List ℕ) (n : ℕ) → trees_in (w ∷ ws) ≡ some n → 1 ≤ takes w → (x : ℕ) × (words_of ws 1 ≡ some x)
first_there w ws n e h =
    let t = complete_tail w ws n e in
    (sizes (take 1 (read numbered ws)), words_sizes numbered ws t.trees 1 t.are (omega (arith, t.enough)))

pub whole_there : (w : ℕ) (ws : List ℕ) (n : ℕ) → trees_in (w ∷ ws) ≡ some n → (y : ℕ) × (words_of (w ∷ ws) 1 ≡ some y)
whole_there w ws n e =
    let t = complete_tail w ws n e in
    (sizes (take 1 (read numbered (w ∷ ws))), words_sizes numbered (w ∷ ws) n 1 e (omega (arith, t.left)))

-- each tree has a word at least
many_words : (a : ℕ) (l : List Tree) → a ≤ length l → a ≤ sizes (take a l)
unfolding sizes total
many_words zero l h = omega arith
many_words (suc a) [] h = absurd (omega arith)
many_words (suc a) (t ∷ l) h = omega (arith, size_one t, many_words a l (omega arith))

first_and_others : (a : ℕ) (l : List Tree) → 1 ≤ a → a ≤ length l → sizes (take 1 l) + a ≤ suc (sizes (take a l))
unfolding sizes total
first_and_others zero l h k = absurd (omega arith)
first_and_others (suc a) [] h k = absurd (omega arith)
first_and_others (suc a) (t ∷ l) h k = omega (arith, many_words a l (omega arith))

-- x words of the first operand, y of the node
pub record Node (w : ℕ) (ws : List ℕ) (x y : ℕ) : Type 0 where
  pub inside : x + takes w ≤ y
  pub within : y ≤ suc (length ws)
  pub operands : words_of ws (takes w) ≡ some (y - 1)
  pub first_whole : trees_in (take x ws) ≡ some 1
  pub first_long : length (take x ws) ≡ x
  pub first_read : read numbered (take x ws) ≡ take 1 (read numbered ws)
  pub after : read numbered (drop y (w ∷ ws)) ≡ drop (takes w) (read numbered ws)

pub node :
    (w : ℕ) (ws : List ℕ) (n x y : ℕ) → trees_in (w ∷ ws) ≡ some n → 1 ≤ takes w → words_of ws 1 ≡ some x → words_of (w ∷ ws) 1 ≡ some y → Node w ws x y
node w ws n x y e h ex ey =
    let rs = read numbered ws in
    let t = complete_tail w ws n e in
    let l = complete_length numbered ws t.trees t.are in
    let tail = words_tail w ws 0 y ey in
    let z : 0 + takes w ≡ takes w = omega arith in
    let are : words_of ws (takes w) ≡ some tail.words = ap (words_of ws) (sym z) ∙ tail.are in
    let first = segment ws 1 x ex in
    let whole = segment (w ∷ ws) 1 y ey in
    let sx : x ≡ sizes (take 1 rs) = some_is (sym ex ∙ words_sizes numbered ws t.trees 1 t.are (omega (arith, t.enough))) in
    let sy : tail.words ≡ sizes (take (takes w) rs) = some_is (sym are ∙ words_sizes numbered ws t.trees (takes w) t.are t.enough) in
    let m = first_and_others (takes w) rs h (omega (arith, t.enough, l)) in
    let less : tail.words ≡ y - 1 = omega (arith, tail.one_more) in
    record {
      inside = omega (arith, m, sx, sy, tail.one_more);
      within = whole.within;
      operands = are ∙ ap some less;
      first_whole = first.whole;
      first_long = length-take-le x ws first.within;
      first_read = first.first;
      after = whole.rest ∙ ap (drop 1) (read_cons numbered w ws);
    }

-- ---- rewriting

module _ (f : Tree → Tree) where
  pub rewritten_none : rewritten_words f [] ≡ []
  unfolding rewritten_words read all_tokens
  rewritten_none = refl

  -- what is read is what is rewritten
  pub rewritten_read : (ws : List ℕ) (l : List Tree) → read numbered ws ≡ l → rewritten_words f ws ≡ all_tokens number (map f l)
  unfolding rewritten_words
  rewritten_read ws l e = ap (λ (q : List Tree). all_tokens number (map f q)) e

  -- a word and the trees after it
  pub rewritten_word :
      (w : ℕ) (ws : List ℕ)
      → rewritten_words f (w ∷ ws) ≡ tokens number (f (made numbered w (read numbered ws))) ++ all_tokens number (map f (drop (takes w) (read numbered ws)))
  rewritten_word w ws =
      rewritten_read (w ∷ ws) (made numbered w (read numbered ws) ∷ drop (takes w) (read numbered ws)) (read_cons numbered w ws)
      ∙ all_tokens_cons number (f (made numbered w (read numbered ws))) (map f (drop (takes w) (read numbered ws)))

  -- a node that stays, with its operands rewritten
  pub rewritten_node :
      (w : ℕ) (ws : List ℕ) (n : ℕ) → trees_in (w ∷ ws) ≡ some n
      → f (made numbered w (read numbered ws)) ≡ tree_of_word numbered w (map f (take (takes w) (read numbered ws)))
      → rewritten_words f (w ∷ ws) ≡ w ∷ rewritten_words f ws
  unfolding rewritten_words
  rewritten_node w ws n e h =
      let rs = read numbered ws in
      let t = complete_tail w ws n e in
      let l = complete_length numbered ws t.trees t.are in
      let k : length (map f (take (takes w) rs)) ≡ takes w = map_length (take (takes w) rs) ∙ length-take-le (takes w) rs (omega (arith, l, t.enough)) in
      rewritten_word w ws
      ∙ (ap (λ (q : List ℕ). q ++ all_tokens number (map f (drop (takes w) rs))) (ap (tokens number) h ∙ node_written w (map f (take (takes w) rs)) k)
      ∙ ap (λ (q : List ℕ). w ∷ q)
      (sym (all_tokens_append number (map f (take (takes w) rs)) (map f (drop (takes w) rs)))
      ∙ ap (all_tokens number) (sym (map_append f (take (takes w) rs) (drop (takes w) rs)) ∙ ap (map f) (take-append-drop (takes w) rs))))
    where
      map_length : (l : List Tree) → length (map f l) ≡ length l
      map_length [] = refl
      map_length (t ∷ l) = ap suc (map_length l)

  -- a tree that becomes a symbol
  pub rewritten_symbol :
      (us d : List ℕ) (w : ℕ) → trees_in d ≡ some 1 → kind_of w ≡ 0 → T (begins_with us d) → f (tree_of d) ≡ Sym (name_of w)
      → rewritten_words f us ≡ w ∷ rewritten_words f (drop (length d) us)
  unfolding rewritten_words
  rewritten_symbol us d w one k t h =
      rewritten_read us (tree_of d ∷ read numbered (drop (length d) us)) (after_tree us d one t)
      ∙ (all_tokens_cons number (f (tree_of d)) (map f (read numbered (drop (length d) us)))
      ∙ ap (λ (q : List ℕ). q ++ all_tokens number (map f (read numbered (drop (length d) us)))) (ap (tokens number) h ∙ name_written w k))

  module _ (shrinks : (t : Tree) → size (f t) ≤ size t) where
    all_shrink : (l : List Tree) → length (all_tokens number (map f l)) ≤ sizes l
    unfolding all_tokens sizes total
    all_shrink [] = omega arith
    all_shrink (t ∷ l) =
        omega (arith, length-append (tokens number (f t)) (all_tokens number (map f l)), tokens_length number (f t), shrinks t, all_shrink l)

    -- no more words than there were
    pub rewritten_short : (ws : List ℕ) → length (rewritten_words f ws) ≤ length ws
    unfolding rewritten_words
    rewritten_short ws = omega (arith, all_shrink (read numbered ws), read_size numbered ws)
