-- The first tree of complete words as a division: what each test says of it, and what the rewriting makes of it. Assumes nothing.
use Rattle.std.proofs.Common.{◌≡◌, ℕ, zero, suc, ◌+◌, ◌-◌, ◌<◌, ◌≤◌, Bool, true, false, ◌&&◌, T, eqb, List, [], ◌∷◌, ◌++◌, map, length, get_or, take, drop, sym, refl, ap, ◌∙◌, subst, ap₂, arith, eq-eqb, ne_eqb}
use mathlib.Core.Option.{some}
use Rattle.spec_tree.specs.Kinds.{Mul, Div}
use Rattle.spec_tree.specs.Tree.{Name, Tree, Forest, Sym, Op, nil, ◌◂◌, operands, forest, eq_tree}
use Rattle.spec_tree.specs.Tokens.{tokens, kind_of, below_of, takes, tree_of_word, read, trees_in, words_of, numbered}
use Rattle.spec_tree.proofs.TokenLaws.{Word, a_symbol, a_constant, an_operation, word_is, operation_takes, takes_below, symbol_tree, constant_tree, operation_tree, made, complete_tail, complete_length}
use Rattle.spec_rewrite.specs.Rewrite.{divides_by, replace_divisor, replace_divisors, dividend}
use Rattle.words.specs.words.Words.{number, rewritten_words, tree_of, name_of, Complete}
use Rattle.words.proofs.words.Rewriting.{segment, name_written, first_tree, first_of, take_one, one_tree_words, node, rewritten_read, rewritten_word, rewritten_node}
use Rattle.replace.specs.divisor.Division.{divided_by}
use Rattle.spec_tree.proofs.Logic.{and_not, and_second}

-- ---- on trees

module _ (d : Tree) (n : Name) where
  operands_rewritten : (l : List Tree) → replace_divisors d n (forest l) ≡ forest (map (replace_divisor d n) l)
  unfolding replace_divisors forest
  operands_rewritten [] = refl
  operands_rewritten (t ∷ l) = ap (λ (g : Forest). replace_divisor d n t ◂ g) (operands_rewritten l)

  made_product : (k : ℕ) (f : Forest) → (eqb k Div && divides_by d f) ≡ true → replace_divisor d n (Op k f) ≡ Op Mul (dividend d n f)
  unfolding replace_divisor
  made_product k f e = ap (λ (b : Bool). elim b as (λ _. Tree) [ true ↦ Op Mul (dividend d n f) | false ↦ Op k (replace_divisors d n f) ]) e

  made_again : (k : ℕ) (f : Forest) → (eqb k Div && divides_by d f) ≡ false → replace_divisor d n (Op k f) ≡ Op k (replace_divisors d n f)
  unfolding replace_divisor
  made_again k f e = ap (λ (b : Bool). elim b as (λ _. Tree) [ true ↦ Op Mul (dividend d n f) | false ↦ Op k (replace_divisors d n f) ]) e

  -- what is no division by d stays, with its operands rewritten
  stays :
      (w : ℕ) (l : List Tree) → divided_by d (tree_of_word numbered w l) ≡ false
      → replace_divisor d n (tree_of_word numbered w l) ≡ tree_of_word numbered w (map (replace_divisor d n) l)
  unfolding replace_divisor divided_by
  stays w l h = go (word_is w)
    where
      go : Word w → replace_divisor d n (tree_of_word numbered w l) ≡ tree_of_word numbered w (map (replace_divisor d n) l)
      go (a_symbol k) = rw (symbol_tree numbered w l k, symbol_tree numbered w (map (replace_divisor d n) l) k)
      go (a_constant k) = rw (constant_tree numbered w l k, constant_tree numbered w (map (replace_divisor d n) l) k)
      go (an_operation k) =
          let e = operation_tree numbered w l k in
          let b : (eqb (kind_of w) Div && divides_by d (forest l)) ≡ false = sym (ap (divided_by d) e) ∙ h in
          ap (replace_divisor d n) e
          ∙ (made_again (kind_of w) (forest l) b ∙ (ap (Op (kind_of w)) (operands_rewritten l) ∙ sym (operation_tree numbered w (map (replace_divisor d n) l) k)))

  -- a division by d becomes a product of its first operand and the name
  product :
      (w : ℕ) (t : Tree) (l : List Tree) → divided_by d (tree_of_word numbered w (t ∷ l)) ≡ true
      → replace_divisor d n (tree_of_word numbered w (t ∷ l)) ≡ Op Mul (replace_divisor d n t ◂ Sym n ◂ nil)
  unfolding divided_by forest dividend
  product w t l h = go (word_is w)
    where
      go : Word w → replace_divisor d n (tree_of_word numbered w (t ∷ l)) ≡ Op Mul (replace_divisor d n t ◂ Sym n ◂ nil)
      go (a_symbol k) = absurd (let z : ◌≡◌ {A = Bool} false true = sym (ap (divided_by d) (symbol_tree numbered w (t ∷ l) k)) ∙ h in subst T (sym z) tt)
      go (a_constant k) = absurd (let z : ◌≡◌ {A = Bool} false true = sym (ap (divided_by d) (constant_tree numbered w (t ∷ l) k)) ∙ h in subst T (sym z) tt)
      go (an_operation k) =
          let e = operation_tree numbered w (t ∷ l) k in
          let b : (eqb (kind_of w) Div && divides_by d (forest (t ∷ l))) ≡ true = sym (ap (divided_by d) e) ∙ h in
          ap (replace_divisor d n) e ∙ made_product (kind_of w) (forest (t ∷ l)) b

-- its second operand is d
second_is : (d : Tree) (a : ℕ) (l : List Tree) → 2 ≤ a → a ≤ length l → divides_by d (forest (take a l)) ≡ eq_tree (get_or (drop 1 l) 0 (Op 0 nil)) d
unfolding divides_by forest
second_is d zero l h k = absurd (omega arith)
second_is d (suc zero) l h k = absurd (omega arith)
second_is d (suc (suc a)) [] h k = absurd (omega arith)
second_is d (suc (suc a)) (t ∷ []) h k = absurd (omega arith)
second_is d (suc (suc a)) (t ∷ (u ∷ l)) h k = refl

few_operands : (d : Tree) (a : ℕ) (l : List Tree) → a < 2 → divides_by d (forest (take a l)) ≡ false
unfolding divides_by forest
few_operands d zero l h = refl
few_operands d (suc zero) [] h = refl
few_operands d (suc zero) (t ∷ l) h = refl
few_operands d (suc (suc a)) l h = absurd (omega arith)

two_at_least : (d : Tree) (a : ℕ) (l : List Tree) → divides_by d (forest (take a l)) ≡ true → 2 ≤ a
unfolding divides_by forest
two_at_least d zero l h = absurd (subst T (sym h) tt)
two_at_least d (suc zero) [] h = absurd (subst T (sym h) tt)
two_at_least d (suc zero) (t ∷ l) h = absurd (subst T (sym h) tt)
two_at_least d (suc (suc a)) l h = omega arith

-- ---- on words

module _ (d : Tree) where
  -- a test that fails for every operation fails for the word's tree
  no_division :
      (w : ℕ) (ws : List ℕ) → (1 < kind_of w → (eqb (kind_of w) Div && divides_by d (forest (take (takes w) (read numbered ws)))) ≡ false)
      → divided_by d (tree_of (w ∷ ws)) ≡ false
  unfolding divided_by
  no_division w ws h = ap (divided_by d) (first_tree w ws) ∙ go (word_is w)
    where
      go : Word w → divided_by d (made numbered w (read numbered ws)) ≡ false
      go (a_symbol k) = ap (divided_by d) (symbol_tree numbered w (take (takes w) (read numbered ws)) k)
      go (a_constant k) = ap (divided_by d) (constant_tree numbered w (take (takes w) (read numbered ws)) k)
      go (an_operation k) = ap (divided_by d) (operation_tree numbered w (take (takes w) (read numbered ws)) k) ∙ h k

  pub other_kind : (us : List ℕ) → 0 < length us → (kind_of (get_or us 0 0) ≡ 6 → ⊥) → divided_by d (tree_of us) ≡ false
  other_kind [] h ne = absurd (omega arith)
  other_kind (w ∷ ws) h ne =
      no_division w ws (λ k. ap (λ (b : Bool). b && divides_by d (forest (take (takes w) (read numbered ws)))) (ne_eqb (kind_of w) 6 ne))

  pub other_few : (us : List ℕ) → 0 < length us → below_of (get_or us 0 0) < 2 → divided_by d (tree_of us) ≡ false
  other_few [] h few = absurd (omega arith)
  other_few (w ∷ ws) h few =
      no_division w ws
      (λ k. and_not (eqb (kind_of w) 6) (divides_by d (forest (take (takes w) (read numbered ws))))
      (few_operands d (takes w) (read numbered ws) (omega (arith, takes_below w))))

  -- a Div of two operands or more: whether the second is d
  pub second_tree :
      (w : ℕ) (ws : List ℕ) (n x : ℕ) → trees_in (w ∷ ws) ≡ some n → kind_of w ≡ 6 → 2 ≤ below_of w → words_of ws 1 ≡ some x
      → divided_by d (tree_of (w ∷ ws)) ≡ eq_tree (tree_of (drop x ws)) d
  unfolding divided_by tree_of
  second_tree w ws n x e k two f =
      let rs = read numbered ws in
      let t = complete_tail w ws n e in
      let l = complete_length numbered ws t.trees t.are in
      let a = operation_takes w (omega arith) in
      ap (divided_by d) (first_tree w ws ∙ operation_tree numbered w (take (takes w) rs) (omega arith))
      ∙ (ap (λ (b : Bool). b && divides_by d (forest (take (takes w) rs))) (eq-eqb (kind_of w) 6 k)
      ∙ (second_is d (takes w) rs (omega (arith, a)) (omega (arith, t.enough, l))
      ∙ ap (λ (q : List Tree). eq_tree (get_or q 0 (Op 0 nil)) d) (sym (segment ws 1 x f).rest)))

-- ---- what the rewriting makes of the first tree

module _ (d : Tree) where
  tokens_product : (t : Tree) (w : ℕ) → kind_of w ≡ 0 → tokens number (Op Mul (t ◂ Sym (name_of w) ◂ nil)) ≡ 133 ∷ (tokens number t ++ (w ∷ []))
  unfolding tokens operands
  tokens_product t w h =
      let e = name_written w h in
      ap (λ (q : List ℕ). 133 ∷ (tokens number t ++ q)) (ap (λ (q : List ℕ). q ++ []) e)

  -- any other node stays
  pub node_stays :
      (n : Name) (us : List ℕ) → Complete us → 0 < length us → divided_by d (tree_of us) ≡ false
      → rewritten_words (replace_divisor d n) us ≡ (get_or us 0 0 ∷ []) ++ rewritten_words (replace_divisor d n) (drop 1 us)
  node_stays n [] c h not_so = absurd (omega arith)
  node_stays n (w ∷ ws) c h not_so =
      rewritten_node (replace_divisor d n) w ws c.0 c.1
      (stays d n w (take (takes w) (read numbered ws)) (sym (ap (divided_by d) (first_tree w ws)) ∙ not_so))

  pub takes_two : (w : ℕ) (ws : List ℕ) → divided_by d (tree_of (w ∷ ws)) ≡ true → 2 ≤ takes w
  unfolding divided_by
  takes_two w ws h = go (word_is w)
    where
      is : divided_by d (made numbered w (read numbered ws)) ≡ true
      is = sym (ap (divided_by d) (first_tree w ws)) ∙ h

      go : Word w → 2 ≤ takes w
      go (a_symbol k) = absurd (let z : ◌≡◌ {A = Bool} false true = sym (ap (divided_by d) (symbol_tree numbered w (take (takes w) (read numbered ws)) k)) ∙ is in subst T (sym z) tt)
      go (a_constant k) = absurd (let z : ◌≡◌ {A = Bool} false true = sym (ap (divided_by d) (constant_tree numbered w (take (takes w) (read numbered ws)) k)) ∙ is in subst T (sym z) tt)
      go (an_operation k) =
          let b : (eqb (kind_of w) Div && divides_by d (forest (take (takes w) (read numbered ws)))) ≡ true =
          sym (ap (divided_by d) (operation_tree numbered w (take (takes w) (read numbered ws)) k)) ∙ is in
          two_at_least d (takes w) (read numbered ws) (and_second (eqb (kind_of w) Div) (divides_by d (forest (take (takes w) (read numbered ws)))) b)

  -- a division by d becomes a product
  pub record Divided (us : List ℕ) (w e y : ℕ) : Type 0 where
    pub start : 1 ≤ e
    pub inside : e + 1 ≤ y
    pub within : y ≤ length us
    pub whole : trees_in (take (e - 1) (drop 1 us)) ≡ some 1
    pub long : length (take (e - 1) (drop 1 us)) ≡ e - 1
    pub makes :
        rewritten_words (replace_divisor d (name_of w)) us
        ≡ (133 ∷ (rewritten_words (replace_divisor d (name_of w)) (take (e - 1) (drop 1 us)) ++ (w ∷ []))) ++ rewritten_words (replace_divisor d (name_of w)) (drop y us)

  pub division_made :
      (us : List ℕ) (w e y : ℕ) → kind_of w ≡ 0 → Complete us → 0 < length us → divided_by d (tree_of us) ≡ true → 1 ≤ e → words_of (drop 1 us) 1 ≡ some (e - 1)
      → words_of us 1 ≡ some y → Divided us w e y
  division_made [] w e y sym_word c h so start ex ey = absurd (omega arith)
  division_made (v ∷ ws) w e y sym_word c h so start ex ey =
      let f = replace_divisor d (name_of w) in
      let rs = read numbered ws in
      let two = takes_two v ws so in
      let t = complete_tail v ws c.0 c.1 in
      let l = complete_length numbered ws t.trees t.are in
      let m = node v ws c.0 (e - 1) y c.1 (omega (arith, two)) ex ey in
      let t0 = get_or rs 0 (Op 0 nil) in
      let ops = first_of (takes v) rs (omega (arith, two)) (omega (arith, t.enough, l)) in
      let is : divided_by d (tree_of_word numbered v (t0 ∷ drop 1 (take (takes v) rs))) ≡ true =
      ap (λ (q : List Tree). divided_by d (tree_of_word numbered v q)) (sym ops) ∙ (sym (ap (divided_by d) (first_tree v ws)) ∙ so) in
      let made_so : f (made numbered v rs) ≡ Op Mul (f t0 ◂ Sym (name_of w) ◂ nil) =
      ap (λ (q : List Tree). f (tree_of_word numbered v q)) ops ∙ product d (name_of w) v t0 (drop 1 (take (takes v) rs)) is in
      let first : rewritten_words f (take (e - 1) ws) ≡ tokens number (f t0) =
      rewritten_read f (take (e - 1) ws) (t0 ∷ []) (m.first_read ∙ take_one rs (omega (arith, two, t.enough, l))) ∙ one_tree_words f t0 in
      let after = rewritten_read f (drop y (v ∷ ws)) (drop (takes v) rs) m.after in
      record {
        start = start;
        inside = omega (arith, m.inside, two);
        within = m.within;
        whole = m.first_whole;
        long = m.first_long;
        makes =
            rewritten_word f v ws
            ∙ ap₂ (λ (p q : List ℕ). p ++ q)
            (ap (tokens number) made_so ∙ (tokens_product (f t0) w sym_word ∙ ap (λ (q : List ℕ). 133 ∷ (q ++ (w ∷ []))) (sym first)))
            (sym after);
      }
