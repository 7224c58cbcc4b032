-- What `replace_outside_arms` makes of the first tree of complete words, case by case. Assumes nothing.
use Rattle.std.proofs.Common.{◌≡◌, ℕ, ◌+◌, ◌-◌, ◌<◌, ◌≤◌, Bool, true, false, ◌&&◌, T, leb, List, [], ◌∷◌, ◌++◌, map, length, get_or, take, drop, sym, refl, ap, ◌∙◌, subst, ap₂, arith, length-take, length-take-le, drop-drop, take-add, le-leb, leb-false}
use mathlib.Core.Option.{some}
use Rattle.spec_tree.specs.Kinds.{is_switch}
use Rattle.spec_tree.specs.Tree.{Name, Tree, Forest, Sym, Const, Op, nil, ◌◂◌, forest, eq_tree}
use Rattle.spec_tree.specs.Tokens.{tokens, all_tokens, kind_of, below_of, takes, tree_of_word, read, trees_in, words_of, numbered}
use Rattle.spec_tree.proofs.TreeLaws.{eq_bytes_sound, eq_tree_refl}
use Rattle.spec_tree.proofs.TokenLaws.{Word, a_symbol, a_constant, an_operation, word_is, operation_takes, symbol_tree, constant_tree, operation_tree, made, complete_tail, complete_length}
use Rattle.spec_tree.proofs.TokenCode.{all_tokens_cons, writes_back}
use Rattle.spec_rewrite.specs.Rewrite.{replace_outside_arms, replace_operands, replace_key}
use Rattle.words.specs.words.Words.{number, rewritten_words, tree_of, name_of, begins_with, Complete}
use Rattle.words.proofs.words.Rewriting.{segment, node_written, first_tree, first_of, take_one, one_tree_words, begins_so, node, rewritten_read, rewritten_word, rewritten_node, rewritten_symbol}
use Rattle.replace.specs.outside.Part.{has_arms}
use Rattle.spec_tree.proofs.Lists.{cancel}

test_true : (b : Bool) → T b → b ≡ true
test_true true t = refl
test_true false t = absurd t

-- ---- on trees

module _ (g : Tree) (n : Name) where
  -- an equal tree becomes the name
  pub equal_named : (t : Tree) → eq_tree t g ≡ true → replace_outside_arms g n t ≡ Sym n
  unfolding replace_outside_arms
  equal_named (Sym s) e = ap (λ (b : Bool). elim b as (λ _. Tree) [ true ↦ Sym n | false ↦ Sym s ]) e
  equal_named (Const c) e = ap (λ (b : Bool). elim b as (λ _. Tree) [ true ↦ Sym n | false ↦ Const c ]) e
  equal_named (Op k f) e =
      ap (λ (b : Bool). elim b as (λ _. Tree) [ true ↦ Sym n | false ↦ Op k (elim (is_switch k) as (λ _. Forest) [ true ↦ replace_key g n f | false ↦ replace_operands g n f ]) ]) e

  symbol_kept : (s : Name) → eq_tree (Sym s) g ≡ false → replace_outside_arms g n (Sym s) ≡ Sym s
  unfolding replace_outside_arms
  symbol_kept s e = ap (λ (b : Bool). elim b as (λ _. Tree) [ true ↦ Sym n | false ↦ Sym s ]) e

  constant_kept : (c : _) → eq_tree (Const c) g ≡ false → replace_outside_arms g n (Const c) ≡ Const c
  unfolding replace_outside_arms
  constant_kept c e = ap (λ (b : Bool). elim b as (λ _. Tree) [ true ↦ Sym n | false ↦ Const c ]) e

  node_kept :
      (k : ℕ) (f : Forest) (s : Bool) → eq_tree (Op k f) g ≡ false → is_switch k ≡ s
      → replace_outside_arms g n (Op k f) ≡ Op k (elim s as (λ _. Forest) [ true ↦ replace_key g n f | false ↦ replace_operands g n f ])
  unfolding replace_outside_arms
  node_kept k f s e q =
      ap (λ (b : Bool). elim b as (λ _. Tree) [ true ↦ Sym n | false ↦ Op k (elim (is_switch k) as (λ _. Forest) [ true ↦ replace_key g n f | false ↦ replace_operands g n f ]) ]) e
      ∙ ap (λ (b : Bool). Op k (elim b as (λ _. Forest) [ true ↦ replace_key g n f | false ↦ replace_operands g n f ])) q

  operands_rewritten : (l : List Tree) → replace_operands g n (forest l) ≡ forest (map (replace_outside_arms g n) l)
  unfolding replace_operands forest
  operands_rewritten [] = refl
  operands_rewritten (t ∷ l) = ap (λ (r : Forest). replace_outside_arms g n t ◂ r) (operands_rewritten l)

  no_key : (l : List Tree) → length l ≡ 0 → replace_key g n (forest l) ≡ forest (map (replace_outside_arms g n) l)
  unfolding replace_key forest
  no_key [] h = refl
  no_key (t ∷ l) h = absurd (omega arith)

  key_rewritten : (t : Tree) (l : List Tree) → replace_key g n (forest (t ∷ l)) ≡ forest (replace_outside_arms g n t ∷ l)
  unfolding replace_key forest
  key_rewritten t l = refl

  -- any other node without arms stays, with its operands rewritten
  stays :
      (w : ℕ) (l : List Tree) → length l ≡ takes w → eq_tree (tree_of_word numbered w l) g ≡ false → has_arms w ≡ false
      → replace_outside_arms g n (tree_of_word numbered w l) ≡ tree_of_word numbered w (map (replace_outside_arms g n) l)
  unfolding has_arms
  stays w l h e q = go (word_is w)
    where
      f : Tree → Tree
      f = replace_outside_arms g n

      go : Word w → replace_outside_arms g n (tree_of_word numbered w l) ≡ tree_of_word numbered w (map (replace_outside_arms g n) l)
      go (a_symbol k) =
          let s = symbol_tree numbered w l k in
          ap f s ∙ (symbol_kept _ (sym (ap (λ (t : Tree). eq_tree t g) s) ∙ e) ∙ sym (symbol_tree numbered w (map f l) k))
      go (a_constant k) =
          let s = constant_tree numbered w l k in
          ap f s ∙ (constant_kept _ (sym (ap (λ (t : Tree). eq_tree t g) s) ∙ e) ∙ sym (constant_tree numbered w (map f l) k))
      go (an_operation k) = op (is_switch (kind_of w)) refl q
        where
          s : tree_of_word numbered w l ≡ Op (kind_of w) (forest l)
          s = operation_tree numbered w l k

          op : (b : Bool) → is_switch (kind_of w) ≡ b → (b && leb 1 (below_of w)) ≡ false
              → replace_outside_arms g n (tree_of_word numbered w l) ≡ tree_of_word numbered w (map (replace_outside_arms g n) l)
          op true eb few =
              let z = leb-false 1 (below_of w) few in
              let a = operation_takes w k in
              ap f s
              ∙ (node_kept (kind_of w) (forest l) true (sym (ap (λ (t : Tree). eq_tree t g) s) ∙ e) eb
              ∙ (ap (Op (kind_of w)) (no_key l (omega (arith, z, a, h))) ∙ sym (operation_tree numbered w (map f l) k)))
          op false eb few =
              ap f s
              ∙ (node_kept (kind_of w) (forest l) false (sym (ap (λ (t : Tree). eq_tree t g) s) ∙ e) eb
              ∙ (ap (Op (kind_of w)) (operands_rewritten l) ∙ sym (operation_tree numbered w (map f l) k)))

  -- of a switch only the key is rewritten
  key_only :
      (w : ℕ) (t : Tree) (l : List Tree) → eq_tree (tree_of_word numbered w (t ∷ l)) g ≡ false → 26 ≤ kind_of w
      → replace_outside_arms g n (tree_of_word numbered w (t ∷ l)) ≡ tree_of_word numbered w (replace_outside_arms g n t ∷ l)
  key_only w t l e k =
      let s = operation_tree numbered w (t ∷ l) (omega arith) in
      ap (replace_outside_arms g n) s
      ∙ (node_kept (kind_of w) (forest (t ∷ l)) true (sym (ap (λ (u : Tree). eq_tree u g) s) ∙ e) (le-leb 26 (kind_of w) k)
      ∙ (ap (Op (kind_of w)) (key_rewritten t l) ∙ sym (operation_tree numbered w (replace_outside_arms g n t ∷ l) (omega arith))))

-- ---- on words

-- the arms of a node are the words between its first operand and its end
arms_words :
    (ws : List ℕ) (a x z : ℕ) → 1 ≤ a → a ≤ length (read numbered ws) → words_of ws 1 ≡ some x → words_of ws a ≡ some z → x ≤ z
    → all_tokens number (drop 1 (take a (read numbered ws))) ≡ take (z - x) (drop x ws)
arms_words ws a x z h l ex ez le =
    let rs = read numbered ws in
    let t0 = get_or rs 0 (Op 0 nil) in
    let one = segment ws 1 x ex in
    let all = segment ws a z ez in
    let ops = first_of a rs h l in
    let whole : all_tokens number (take a rs) ≡ take z ws = sym (ap (all_tokens number) all.first) ∙ writes_back (take z ws) a all.whole in
    let first : tokens number t0 ≡ take x ws =
    sym (one_tree_words (λ (t : Tree). t) t0)
    ∙ (ap (all_tokens number) (sym (one.first ∙ take_one rs (omega arith))) ∙ writes_back (take x ws) 1 one.whole) in
    let n : x + (z - x) ≡ z = omega arith in
    let split : take z ws ≡ take x ws ++ take (z - x) (drop x ws) = ap (λ (k : ℕ). take k ws) (sym n) ∙ take-add x (z - x) ws in
    let both : take x ws ++ all_tokens number (drop 1 (take a rs)) ≡ take x ws ++ take (z - x) (drop x ws) =
    ap (λ (q : List ℕ). q ++ all_tokens number (drop 1 (take a rs))) (sym first)
    ∙ (sym (all_tokens_cons number t0 (drop 1 (take a rs))) ∙ (ap (all_tokens number) (sym ops) ∙ (whole ∙ split))) in
    cancel (take x ws) both

module _ (g : Tree) where
  pub node_stays :
      (n : Name) (us : List ℕ) → Complete us → 0 < length us → eq_tree (tree_of us) g ≡ false → has_arms (get_or us 0 0) ≡ false
      → rewritten_words (replace_outside_arms g n) us ≡ (get_or us 0 0 ∷ []) ++ rewritten_words (replace_outside_arms g n) (drop 1 us)
  node_stays n [] c h e q = absurd (omega arith)
  node_stays n (w ∷ ws) c h e q =
      let t = complete_tail w ws c.0 c.1 in
      let l = complete_length numbered ws t.trees t.are in
      rewritten_node (replace_outside_arms g n) w ws c.0 c.1
      (stays g n w (take (takes w) (read numbered ws)) (length-take-le (takes w) (read numbered ws) (omega (arith, l, t.enough)))
      (sym (ap (λ (u : Tree). eq_tree u g) (first_tree w ws)) ∙ e) q)

  -- a switch with operands: its word, its key rewritten, its arms as they are
  pub record Switched (n : Name) (us : List ℕ) (e y : ℕ) : Type 0 where
    pub start : 1 ≤ e
    pub inside : e ≤ y
    pub within : y ≤ length us
    pub whole : trees_in (take (e - 1) (drop 1 us)) ≡ some 1
    pub long : length (take (e - 1) (drop 1 us)) ≡ e - 1
    pub makes :
        rewritten_words (replace_outside_arms g n) us
        ≡ (get_or us 0 0 ∷ (rewritten_words (replace_outside_arms g n) (take (e - 1) (drop 1 us)) ++ take (y - e) (drop e us)))
        ++ rewritten_words (replace_outside_arms g n) (drop y us)

  pub switch_made :
      (n : Name) (us : List ℕ) (e y : ℕ) → Complete us → 0 < length us → eq_tree (tree_of us) g ≡ false → 26 ≤ kind_of (get_or us 0 0) → 1 ≤ below_of (get_or us 0 0)
      → 1 ≤ e → words_of (drop 1 us) 1 ≡ some (e - 1) → words_of us 1 ≡ some y → Switched n us e y
  switch_made n [] e y c h not_so k b start ex ey = absurd (omega arith)
  switch_made n (v ∷ ws) e y c h not_so k b start ex ey =
      let f = replace_outside_arms g n in
      let rs = read numbered ws in
      let a = operation_takes v (omega arith) in
      let t = complete_tail v ws c.0 c.1 in
      let l = complete_length numbered ws t.trees t.are in
      let m = node v ws c.0 (e - 1) y c.1 (omega (arith, a)) ex ey in
      let t0 = get_or rs 0 (Op 0 nil) in
      let arms = drop 1 (take (takes v) rs) in
      let ops = first_of (takes v) rs (omega (arith, a)) (omega (arith, t.enough, l)) in
      let count : length (f t0 ∷ arms) ≡ takes v = sym (ap length ops) ∙ length-take-le (takes v) rs (omega (arith, t.enough, l)) in
      let is : eq_tree (tree_of_word numbered v (t0 ∷ arms)) g ≡ false =
      ap (λ (q : List Tree). eq_tree (tree_of_word numbered v q) g) (sym ops) ∙ (sym (ap (λ (u : Tree). eq_tree u g) (first_tree v ws)) ∙ not_so) in
      let made_so : f (made numbered v rs) ≡ tree_of_word numbered v (f t0 ∷ arms) =
      ap (λ (q : List Tree). f (tree_of_word numbered v q)) ops ∙ key_only g n v t0 arms is k in
      let first : rewritten_words f (take (e - 1) ws) ≡ tokens number (f t0) =
      rewritten_read f (take (e - 1) ws) (t0 ∷ []) (m.first_read ∙ take_one rs (omega (arith, a, t.enough, l))) ∙ one_tree_words f t0 in
      let after = rewritten_read f (drop y (v ∷ ws)) (drop (takes v) rs) m.after in
      let arm_words = arms_words ws (takes v) (e - 1) (y - 1) (omega (arith, a)) (omega (arith, t.enough, l)) ex m.operands (omega (arith, m.inside, a)) in
      let n1 : (y - 1) - (e - 1) ≡ y - e = omega (arith, m.inside) in
      let n2 : 1 + (e - 1) ≡ e = omega arith in
      let arms_are : all_tokens number arms ≡ take (y - e) (drop e (v ∷ ws)) =
      arm_words ∙ (ap (λ (j : ℕ). take j (drop (e - 1) ws)) n1 ∙ ap (take (y - e)) (drop-drop (e - 1) 1 (v ∷ ws) ∙ ap (λ (j : ℕ). drop j (v ∷ ws)) n2)) in
      record {
        start = start;
        inside = omega (arith, m.inside, a);
        within = m.within;
        whole = m.first_whole;
        long = m.first_long;
        makes =
            rewritten_word f v ws
            ∙ ap₂ (λ (p q : List ℕ). p ++ q)
            (ap (tokens number) made_so
            ∙ (node_written v (f t0 ∷ arms) count
            ∙ ap (λ (q : List ℕ). v ∷ q) (all_tokens_cons number (f t0) arms ∙ ap₂ (λ (p q : List ℕ). p ++ q) (sym first) arms_are)))
            (sym after);
      }

-- the target becomes the name
pub record Named (us d : List ℕ) (w : ℕ) : Type 0 where
  pub within : length d ≤ length us
  pub makes :
      rewritten_words (replace_outside_arms (tree_of d) (name_of w)) us ≡ (w ∷ []) ++ rewritten_words (replace_outside_arms (tree_of d) (name_of w)) (drop (length d) us)

pub target_made :
    (us d : List ℕ) (w n : ℕ) → trees_in us ≡ some n → 1 ≤ n → trees_in d ≡ some 1 → kind_of w ≡ 0 → eq_tree (tree_of us) (tree_of d) ≡ true → Named us d w
unfolding begins_with
target_made us d w n all some_there one k e =
    let b = begins_so us n all some_there d one (subst T (sym e) tt) in
    let l = ap length (eq_bytes_sound (take (length d) us) d b) in
    record {
      within = omega (arith, l, length-take (length d) us);
      makes =
          rewritten_symbol (replace_outside_arms (tree_of d) (name_of w)) us d w one k b
          (equal_named (tree_of d) (name_of w) (tree_of d) (test_true (eq_tree (tree_of d) (tree_of d)) (eq_tree_refl (tree_of d))));
    }
