-- Words read with their numbers for names, and read with names: the second are the first renamed. Trees and renamed trees have the same words. Words
-- whose symbols have numbers that pass are read as known trees, and known trees are written as such words. Assumes nothing.
use Prim.Native.Nat.{ℕ, zero, suc, ◌+◌, ◌/◌, ◌%◌, ◌*◌}
use native.Mathlib.Omega.{arith}
use mathlib.Core.Path.{◌≡◌, refl, sym, ◌∙◌, ap, ap₂, subst}
use mathlib.Core.Bool.{Bool, true, false, cond}
use mathlib.Core.List.{List, [], ◌∷◌, ◌++◌, map}
use borrow.Author.Tests.{eqb-true, eq-eqb}
use lib.ListN.{length, take, drop}
use lib.Dec.{T, eqb, leb, ltb, leb→le, ltb→lt}
use Rattle.spec_tree.specs.Tree.{Name, input, xname, mname, Tree, Forest, Sym, Const, Op, nil, ◌◂◌, operands, forest}
use Rattle.spec_tree.specs.Tokens.{word, name_code, constant_code, tokens, tokens_of, all_tokens, kind_of, below_of, takes, name_by, tree_of_word, read, trees_at, numbered}
use Rattle.spec_tree.proofs.Logic.{and_left, and_right, and_both}
use Rattle.spec_tree.proofs.TokenLaws.{Word, a_symbol, a_constant, an_operation, word_is, symbol_tree, constant_tree, operation_tree, map_take, map_drop}
use Rattle.spec_tree.proofs.TokenCode.{fits_word, known_name, coded, coded_each, all_coded, renamed_name, renamed as RenamedBy, renamed_each as renamed_each_by, renamed_count, unnumbered}
use Rattle.spec_rewrite.proofs.Names.{holds, holds_each, holds_all}
use Rattle.laws.specs.positions.Names.{symbol_passes, symbols_pass}
use Rattle.laws.proofs.positions.Renaming.{Renaming, named, renamed, renamed_each, is_known, Known, KnownEach, KnownAll, first_known, rest_known}

-- ---- reading

module _ (name_at : ℕ → List ℕ) where
  abbrev to_names : Tree → Tree
  to_names = RenamedBy unnumbered name_at

  name_read : (class n : ℕ) → name_by name_at class n ≡ renamed_name unnumbered name_at (name_by numbered class n)
  unfolding name_by renamed_name
  name_read zero n = refl
  name_read (suc zero) n = refl
  name_read (suc (suc class)) n = refl

  forest_read : (l : List Tree) → forest (map to_names l) ≡ renamed_each_by unnumbered name_at (forest l)
  unfolding forest RenamedBy
  forest_read [] = refl
  forest_read (t ∷ l) = ap (λ (f : Forest). to_names t ◂ f) (forest_read l)

  word_read : (w : ℕ) (l m : List Tree) → m ≡ map to_names l → tree_of_word name_at w m ≡ to_names (tree_of_word numbered w l)
  unfolding RenamedBy
  word_read w l m e = go (word_is w)
    where
      go : Word w → tree_of_word name_at w m ≡ to_names (tree_of_word numbered w l)
      go (a_symbol h) = rw (symbol_tree name_at w m h, symbol_tree numbered w l h) (ap Sym (name_read (below_of w % 3) (below_of w / 3)))
      go (a_constant h) = rw (constant_tree name_at w m h, constant_tree numbered w l h)
      go (an_operation h) = rw (operation_tree name_at w m h, operation_tree numbered w l h) (ap (λ (r : List Tree). Op (kind_of w) (forest r)) e ∙ ap (Op (kind_of w)) (forest_read l))

  pub read_renamed : (ws : List ℕ) → read name_at ws ≡ map to_names (read numbered ws)
  unfolding read
  read_renamed [] = refl
  read_renamed (w ∷ ws) =
      let e = read_renamed ws in
      ap₂ ◌∷◌
      (word_read w (take (takes w) (read numbered ws)) (take (takes w) (read name_at ws)) (ap (take (takes w)) e ∙ sym (map_take to_names (takes w) (read numbered ws))))
      (ap (drop (takes w)) e ∙ sym (map_drop to_names (takes w) (read numbered ws)))

  pub trees_at_renamed : (ws : List ℕ) → trees_at name_at ws ≡ map to_names (trees_at numbered ws)
  unfolding trees_at
  trees_at_renamed [] = refl
  trees_at_renamed (w ∷ ws) =
      let e = read_renamed ws in
      ap₂ ◌∷◌
      (word_read w (take (takes w) (read numbered ws)) (take (takes w) (read name_at ws)) (ap (take (takes w)) e ∙ sym (map_take to_names (takes w) (read numbered ws))))
      (trees_at_renamed ws)

-- ---- the words of renamed trees

module _ (R : Renaming) (back : List ℕ → ℕ) (comes_back : (s : List ℕ) → T (R.known s) → back (R.name_at (R.number s)) ≡ R.number s) where
  pub code_renamed : (n : Name) → T (is_known R n) → name_code back (named R n) ≡ name_code R.number n
  unfolding name_code renamed_name known_name
  code_renamed (input s) h = omega (arith, comes_back s h)
  code_renamed (xname n) h = refl
  code_renamed (mname n) h = refl

  mutual
    unfolding tokens RenamedBy holds

    pub tokens_renamed : (t : Tree) → Known R t → tokens back (renamed R t) ≡ tokens R.number t
    tokens_renamed (Sym n) h = ap (λ (c : ℕ). word 0 c ∷ []) (code_renamed n h)
    tokens_renamed (Const c) h = refl
    tokens_renamed (Op k f) h = ap₂ (λ (n : ℕ) (l : List ℕ). word k n ∷ l) (renamed_count R.number R.name_at f) (tokens_of_renamed f h)

    tokens_of_renamed : (f : Forest) → KnownEach R f → tokens_of back (renamed_each R f) ≡ tokens_of R.number f
    tokens_of_renamed nil h = refl
    tokens_of_renamed (t ◂ f) h =
        ap₂ ◌++◌ (tokens_renamed t (and_left (holds (is_known R) t) (holds_each (is_known R) f) h))
        (tokens_of_renamed f (and_right (holds (is_known R) t) (holds_each (is_known R) f) h))

  pub all_tokens_renamed : (l : List Tree) → KnownAll R l → all_tokens back (map (renamed R) l) ≡ all_tokens R.number l
  unfolding all_tokens
  all_tokens_renamed [] h = refl
  all_tokens_renamed (t ∷ l) h = ap₂ ◌++◌ (tokens_renamed t (first_known R t l h)) (all_tokens_renamed l (rest_known R t l h))

-- ---- words whose symbols pass are read as known trees

module _ (p : Name → Bool) where
  pub forest_holds : (l : List Tree) → T (holds_all p l) → T (holds_each p (forest l))
  unfolding holds holds_all forest
  forest_holds [] h = tt
  forest_holds (t ∷ l) h = and_both (holds p t) (holds_each p (forest l)) (and_left (holds p t) (holds_all p l) h) (forest_holds l (and_right (holds p t) (holds_all p l) h))

  take_holds : (n : ℕ) (l : List Tree) → T (holds_all p l) → T (holds_all p (take n l))
  unfolding holds_all
  take_holds zero l h = tt
  take_holds (suc n) [] h = tt
  take_holds (suc n) (t ∷ l) h = and_both (holds p t) (holds_all p (take n l)) (and_left (holds p t) (holds_all p l) h) (take_holds n l (and_right (holds p t) (holds_all p l) h))

  drop_holds : (n : ℕ) (l : List Tree) → T (holds_all p l) → T (holds_all p (drop n l))
  unfolding holds_all
  drop_holds zero l h = h
  drop_holds (suc n) [] h = h
  drop_holds (suc n) (t ∷ l) h = drop_holds n l (and_right (holds p t) (holds_all p l) h)

module _ (known : List ℕ → Bool) (good : ℕ → Bool) (passes : (n : ℕ) → T (good n) → T (known (numbered n))) where
  name_passes : (class n : ℕ) → (class ≡ 0 → T (good n)) → T (known_name known (name_by numbered class n))
  unfolding name_by known_name
  name_passes zero n h = passes n (h refl)
  name_passes (suc zero) n h = tt
  name_passes (suc (suc class)) n h = tt

  symbol_good : (w : ℕ) → kind_of w ≡ 0 → T (symbol_passes good w) → below_of w % 3 ≡ 0 → T (good (below_of w / 3))
  unfolding symbol_passes
  symbol_good w k h c =
      subst (λ (b : Bool). T (cond b (good (below_of w / 3)) true)) (eq-eqb (below_of w % 3) 0 c)
      (subst (λ (b : Bool). T (cond b (cond (eqb (below_of w % 3) 0) (good (below_of w / 3)) true) true)) (eq-eqb (kind_of w) 0 k) h)

  word_holds : (w : ℕ) (l : List Tree) → T (symbol_passes good w) → T (holds_all (known_name known) l) → T (holds (known_name known) (tree_of_word numbered w l))
  unfolding holds
  word_holds w l h g = go (word_is w)
    where
      go : Word w → T (holds (known_name known) (tree_of_word numbered w l))
      go (a_symbol k) = rw (symbol_tree numbered w l k) (name_passes (below_of w % 3) (below_of w / 3) (symbol_good w k h))
      go (a_constant k) = rw (constant_tree numbered w l k) tt
      go (an_operation k) = rw (operation_tree numbered w l k) (forest_holds (known_name known) l g)

  pub read_holds : (ws : List ℕ) → T (symbols_pass good ws) → T (holds_all (known_name known) (read numbered ws))
  unfolding symbols_pass read holds_all
  read_holds [] h = tt
  read_holds (w ∷ ws) h =
      let rs = read numbered ws in
      let more = read_holds ws (and_right (symbol_passes good w) (symbols_pass good ws) h) in
      and_both (holds (known_name known) (tree_of_word numbered w (take (takes w) rs))) (holds_all (known_name known) (drop (takes w) rs))
      (word_holds w (take (takes w) rs) (and_left (symbol_passes good w) (symbols_pass good ws) h) (take_holds (known_name known) (takes w) rs more))
      (drop_holds (known_name known) (takes w) rs more)

-- ---- and the words of known trees pass

module _ (number : List ℕ → ℕ) (known : List ℕ → Bool) (good : ℕ → Bool) (good_number : (s : List ℕ) → T (known s) → T (good (number s))) where
  symbol_written : (w n : ℕ) → below_of w ≡ 3 * n → T (good n) → T (symbol_passes good w)
  unfolding symbol_passes
  symbol_written w n b h =
      let c : below_of w % 3 ≡ 0 = omega (arith, b) in
      let d : below_of w / 3 ≡ n = omega (arith, b) in
      go (eqb (kind_of w) 0) (eqb (below_of w % 3) 0) (subst (λ (m : ℕ). T (good m)) (sym d) h)
    where
      go : (x y : Bool) → T (good (below_of w / 3)) → T (cond x (cond y (good (below_of w / 3)) true) true)
      go true true g = g
      go true false g = tt
      go false y g = tt

  made_written : (w : ℕ) → (below_of w % 3 ≡ 0 → ⊥) → T (symbol_passes good w)
  unfolding symbol_passes
  made_written w h = go (eqb (kind_of w) 0) (eqb (below_of w % 3) 0) refl
    where
      go : (x y : Bool) → eqb (below_of w % 3) 0 ≡ y → T (cond x (cond y (good (below_of w / 3)) true) true)
      go true true e = absurd (h (eqb-true (below_of w % 3) 0 e))
      go true false e = tt
      go false y e = tt

  other_written : (w : ℕ) → (kind_of w ≡ 0 → ⊥) → T (symbol_passes good w)
  unfolding symbol_passes
  other_written w h = go (eqb (kind_of w) 0) refl
    where
      go : (x : Bool) → eqb (kind_of w) 0 ≡ x → T (cond x (cond (eqb (below_of w % 3) 0) (good (below_of w / 3)) true) true)
      go true e = absurd (h (eqb-true (kind_of w) 0 e))
      go false e = tt

  name_written : (n : Name) → T (known_name known n) → T (symbol_passes good (word 0 (name_code number n)))
  unfolding name_code known_name
  name_written (input s) h = symbol_written (word 0 (3 * number s)) (number s) (omega arith) (good_number s h)
  name_written (xname n) h = made_written (word 0 (1 + 3 * n)) (λ e. omega arith)
  name_written (mname n) h = made_written (word 0 (2 + 3 * n)) (λ e. omega arith)

  pass_append : (a b : List ℕ) → T (symbols_pass good a) → T (symbols_pass good b) → T (symbols_pass good (a ++ b))
  unfolding symbols_pass
  pass_append [] b g h = h
  pass_append (w ∷ a) b g h =
      and_both (symbol_passes good w) (symbols_pass good (a ++ b)) (and_left (symbol_passes good w) (symbols_pass good a) g)
      (pass_append a b (and_right (symbol_passes good w) (symbols_pass good a) g) h)

  one_passes : (w : ℕ) (l : List ℕ) → T (symbol_passes good w) → T (symbols_pass good l) → T (symbols_pass good (w ∷ l))
  unfolding symbols_pass
  one_passes w l g h = and_both (symbol_passes good w) (symbols_pass good l) g h

  none_passes : T (symbols_pass good [])
  unfolding symbols_pass
  none_passes = tt

  mutual
    unfolding coded tokens operands

    pub tokens_pass : (t : Tree) → T (coded known t) → T (symbols_pass good (tokens number t))
    tokens_pass (Sym n) h = one_passes (word 0 (name_code number n)) [] (name_written n h) none_passes
    tokens_pass (Const c) h = one_passes (word 1 (constant_code c)) [] (other_written (word 1 (constant_code c)) (λ e. omega arith)) none_passes
    tokens_pass (Op k f) h =
        let k_ok = and_left (fits_word k) (coded_each known f) h in
        let low = leb→le 2 k (and_left (leb 2 k) (ltb k 64) k_ok) in
        let high = ltb→lt k 64 (and_right (leb 2 k) (ltb k 64) k_ok) in
        one_passes (word k (length (operands f))) (tokens_of number f) (other_written (word k (length (operands f))) (λ e. omega arith))
        (tokens_of_pass f (and_right (fits_word k) (coded_each known f) h))

    tokens_of_pass : (f : Forest) → T (coded_each known f) → T (symbols_pass good (tokens_of number f))
    tokens_of_pass nil h = none_passes
    tokens_of_pass (t ◂ f) h =
        pass_append (tokens number t) (tokens_of number f) (tokens_pass t (and_left (coded known t) (coded_each known f) h))
        (tokens_of_pass f (and_right (coded known t) (coded_each known f) h))

  pub all_tokens_pass : (l : List Tree) → T (all_coded known l) → T (symbols_pass good (all_tokens number l))
  unfolding all_coded all_tokens
  all_tokens_pass [] h = none_passes
  all_tokens_pass (t ∷ l) h =
      pass_append (tokens number t) (all_tokens number l) (tokens_pass t (and_left (coded known t) (all_coded known l) h))
      (all_tokens_pass l (and_right (coded known t) (all_coded known l) h))
