-- What is decided at the first of some trees: the target, a word that stays, or a product with matches. Assumes nothing.
use Rattle.std.specs.Prelude.{Some, None}
use Rattle.std.proofs.Common.{◌≡◌, ℕ, zero, suc, ◌+◌, ◌-◌, ◌*◌, ◌/◌, ◌%◌, ◌^◌, ◌<◌, ◌≤◌, Bool, true, false, T, eqb, List, [], ◌∷◌, ◌++◌, length, get_or, take, drop, ℤ, pos, negsuc, sym, refl, ap, ◌∙◌, subst, ap₂, append-nil, arith, lit≤, length-append, length-take-le, get_or-take, take-take, take_at, eqb-true}
use mathlib.Core.Option.{none, some}
use lib.Ieee.{Float}
use Rattle.spec_tree.specs.Outcome.{Refusal, Outcome, ok, refused, ◌>>=◌, each}
use Rattle.spec_tree.specs.Tree.{Name, Tree, Forest, Sym, Const, Op, nil, forest, eq_tree}
use Rattle.spec_tree.specs.Kinds.{Mul}
use Rattle.spec_tree.specs.Facts.{size}
use Rattle.spec_tree.specs.Rows.{occurrences}
use Rattle.spec_tree.specs.Tokens.{kind_of, takes, constant_code, constant_at, name_by, below_of, tree_of_word, numbered, read, tokens, all_tokens, trees_in, run_at}
use Rattle.spec_tree.proofs.Formed.{well_formed}
use Rattle.spec_tree.proofs.Logic.{and_left}
use Rattle.spec_tree.proofs.TokenLaws.{Word, a_symbol, a_constant, an_operation, word_is, leaf_takes, symbol_tree, constant_tree, operation_tree, made, read_cons, complete_tail, tree_at, words_complete}
use Rattle.spec_tree.proofs.TokenCode.{tokens_length, all_tokens_length}
use Rattle.spec_rewrite.specs.Rewrite.{flatten_mul_factors, constant_of, built, remove_each, each_operand, replace, match_factors}
use Rattle.spec_rewrite.proofs.Counts.{well_formed_all}
use Rattle.spec_rewrite.proofs.Measure.{sum_of, sum_append, size_up}
use Rattle.spec_rewrite.proofs.Factors.{factors_of}
use Rattle.words.specs.words.Words.{number, tree_of, name_of, begins_with}
use Rattle.words.proofs.words.Rewriting.{name_written, after_tree, begins_tree, first_tree}
use Rattle.replace.specs.coefficient.Answers.{constant_answer}
use Rattle.replace.specs.factors.Places.{tree, at_places}
use Rattle.replace.specs.declared.factors.Product.{Product}
use Rattle.replace.proofs.factors.PlaceLaws.{Each, Inside}
use Rattle.replace.proofs.factors.Products.{ProductOf}
use Rattle.replace.specs.closed.Closed.{Taken, taken, take_out, by_factors, rebuilt}
use Rattle.replace.proofs.closed.Chain.{each_both, each_long}
use Rattle.replace.proofs.closed.Unit.{Small, magnitude, accepted_small}
use Rattle.replace.proofs.closed.Taken.{never_there}
use Rattle.replace.proofs.closed.Steps.{at_operation, at_op}
use Rattle.replace.proofs.closed.Products.{at_symbol, at_constant, at_other, at_unmatched, no_match, name_stays, at_product}
use Rattle.replace.specs.matching.Matching.{factor_runs, words_at, PlacesTaken, take_out_places, names_after}
use Rattle.replace.specs.matching.Answers.{TakenAs}
use Rattle.replace.proofs.matching.Removing.{after_more, after_other}
use Rattle.replace.specs.replacing.Replacing.{named, repeated, head_words}
use Rattle.replace.specs.replacing.Deciding.{Trees, Target, rewritten, rewritten_words, StaysAt, RefusedAt, Match}
use Rattle.replace.proofs.replacing.Turns.{words_formed, each_forest, target_out, Stays, word_out}
use Rattle.replace.proofs.replacing.Targets.{several, some_factor}
use Rattle.replace.proofs.replacing.Runs.{Runs, target_runs, factors_at, at_within, at_end, Apart, Agree, taken_agree}
use Rattle.replace.proofs.replacing.Products.{product_words, repeated_long, named_long, rest_size, built_size}
use Rattle.spec_tree.proofs.Outcomes.{then_then, then_known}

module _ (part : List ℕ) (name : ℕ) (t : Target part name) where
  abbrev rep : Tree → Outcome Tree
  rep = replace (tree_of part) (name_of name)

  abbrev ts : List Tree
  ts = factors_of (tree_of part)

  -- ---- the first tree

  pub head_formed : (ws : List ℕ) → Trees ws → 0 < length ws → T (well_formed (tree_of ws))
  unfolding well_formed_all
  head_formed [] h p = absurd (omega arith)
  head_formed (w ∷ ws) h p =
      let a = words_formed (w ∷ ws) h.count h.complete h.formed in
      let rs = read numbered ws in
      subst (λ (e : Tree). T (well_formed e)) (sym (first_tree w ws))
      (and_left (well_formed (made numbered w rs)) (well_formed_all (drop (takes w) rs)) (subst (λ (l : List Tree). T (well_formed_all l)) (read_cons numbered w ws) a))

  trees_there : (w : ℕ) (ws : List ℕ) (n : ℕ) → trees_in (w ∷ ws) ≡ some n → 1 ≤ n
  trees_there w ws n e = omega (arith, (complete_tail w ws n e).left)

  pub first_equal : (ws : List ℕ) → Trees ws → 0 < length ws → (b : Bool) → b ≡ begins_with ws part → eq_tree (tree_of ws) (tree_of part) ≡ b
  first_equal [] h p b e = absurd (omega arith)
  first_equal (w ∷ ws) h p b e = begins_tree (w ∷ ws) h.count h.complete (trees_there w ws h.count h.complete) part t.one b e

  -- ---- the target itself

  replaced_self : (e : Tree) → T (well_formed e) → eq_tree e (tree_of part) ≡ true → rep e ≡ ok (Sym (name_of name))
  replaced_self (Sym s) w q =
      at_symbol (tree_of part) (name_of name) s ∙ ap (λ (b : Bool). elim b as (λ _. Outcome Tree) [ true ↦ ok (Sym (name_of name)) | false ↦ ok (Sym s) ]) q
  replaced_self (Const c) w q =
      at_constant (tree_of part) (name_of name) c ∙ ap (λ (b : Bool). elim b as (λ _. Outcome Tree) [ true ↦ ok (Sym (name_of name)) | false ↦ ok (Const c) ]) q
  replaced_self (Op k f) w q =
      at_op (tree_of part) (name_of name) (several t) k f w
      ∙ ap (λ (b : Bool). at_operation (tree_of part) (name_of name) rep k f b (eqb k Mul) (match_factors (tree_of part) (name_of name) (Op k f))) q

  pub equal_turn :
      (ws : List ℕ) → Trees ws → 0 < length ws → true ≡ begins_with ws part
      → rewritten_words part name ws ≡ (rewritten_words part name (drop (length part) ws) >>= λ b. ok (name ∷ b))
  unfolding tree_of
  equal_turn ws h p e =
      let a = after_tree ws part t.one (subst T e tt) in
      let same : tree_of ws ≡ tree_of part = ap (λ (l : List Tree). get_or l 0 (Op 0 nil)) a in
      target_out (tree_of part) (name_of name) ws (drop (length part) ws) name (tree_of part) refl t.symbol a
      (subst (λ (e : Tree). rep e ≡ ok (Sym (name_of name))) same (replaced_self (tree_of ws) (head_formed ws h p) (first_equal ws h p true e)))

  -- ---- a word that stays

  stays_word :
      (w : ℕ) (ws : List ℕ) → eq_tree (made numbered w (read numbered ws)) (tree_of part) ≡ false
      → (1 < kind_of w → rep (Op (kind_of w) (forest (take (takes w) (read numbered ws)))) ≡ (each_operand rep (forest (take (takes w) (read numbered ws))) >>= λ h. ok (Op (kind_of w) h)))
      → Stays (tree_of part) (name_of name) w ws
  unfolding each
  stays_word w ws e h = go (word_is w)
    where
      rs : List Tree
      rs = read numbered ws

      none_taken : kind_of w ≤ 1 → take (takes w) rs ≡ []
      none_taken k = ap (λ (a : ℕ). take a rs) (leaf_takes w k)

      leaf_out : (x : Tree) → kind_of w ≤ 1 → ((l : List Tree) → tree_of_word numbered w l ≡ x) → (eq_tree x (tree_of part) ≡ false → rep x ≡ ok x)
          → rep (made numbered w rs) ≡ (each rep (take (takes w) rs) >>= λ m. ok (tree_of_word numbered w m))
      leaf_out x k q r =
          ap rep (q (take (takes w) rs)) ∙ r (ap (λ (y : Tree). eq_tree y (tree_of part)) (sym (q (take (takes w) rs))) ∙ e)
          ∙ sym (ap (λ (l : List Tree). each rep l >>= λ m. ok (tree_of_word numbered w m)) (none_taken k) ∙ ap ok (q []))

      go : Word w → rep (made numbered w rs) ≡ (each rep (take (takes w) rs) >>= λ m. ok (tree_of_word numbered w m))
      go (a_symbol k) =
          let s = name_by numbered (below_of w % 3) (below_of w / 3) in
          leaf_out (Sym s) (omega arith) (λ l. symbol_tree numbered w l k)
          (λ q. at_symbol (tree_of part) (name_of name) s ∙ ap (λ (b : Bool). elim b as (λ _. Outcome Tree) [ true ↦ ok (Sym (name_of name)) | false ↦ ok (Sym s) ]) q)
      go (a_constant k) =
          let c = constant_at (below_of w) in
          leaf_out (Const c) (omega arith) (λ l. constant_tree numbered w l k)
          (λ q. at_constant (tree_of part) (name_of name) c ∙ ap (λ (b : Bool). elim b as (λ _. Outcome Tree) [ true ↦ ok (Sym (name_of name)) | false ↦ ok (Const c) ]) q)
      go (an_operation k) =
          ap rep (operation_tree numbered w (take (takes w) rs) k) ∙ h k
          ∙ ap (λ (o : Outcome Forest). o >>= λ g. ok (Op (kind_of w) g)) (each_forest rep (take (takes w) rs))
          ∙ then_then (each rep (take (takes w) rs)) (λ m. ok (forest m)) (λ g. ok (Op (kind_of w) g))
          ∙ then_known (each rep (take (takes w) rs)) (λ m. ok (Op (kind_of w) (forest m))) (λ m. ok (tree_of_word numbered w m)) (λ m q. ap ok (sym (operation_tree numbered w m k)))

  -- any word where the target isn't sought by factors, and any but a Mul
  pub plain_turn :
      (ws : List ℕ) → Trees ws → 0 < length ws → false ≡ begins_with ws part → (kind_of (get_or ws 0 0) ≡ 5 → by_factors (tree_of part) ≡ false) → StaysAt part name ws
  plain_turn [] h p e f = absurd (omega arith)
  plain_turn (w ∷ ws) h p e f =
      let q = ap (λ (x : Tree). eq_tree x (tree_of part)) (sym (first_tree w ws)) ∙ first_equal (w ∷ ws) h p false e in
      let formed = subst (λ (x : Tree). T (well_formed x)) (first_tree w ws) (head_formed (w ∷ ws) h p) in
      word_out (tree_of part) (name_of name) w ws h.count h.complete
      (stays_word w ws q
      (λ k.
      let x = operation_tree numbered w (take (takes w) (read numbered ws)) k in
      by_kind (forest (take (takes w) (read numbered ws))) (subst (λ (y : Tree). T (well_formed y)) x formed) (ap (λ (y : Tree). eq_tree y (tree_of part)) (sym x) ∙ q) (eqb (kind_of w) 5) refl))
    where
      by_kind : (g : Forest) → T (well_formed (Op (kind_of w) g)) → eq_tree (Op (kind_of w) g) (tree_of part) ≡ false → (b : Bool) → eqb (kind_of w) 5 ≡ b
          → rep (Op (kind_of w) g) ≡ (each_operand rep g >>= λ h. ok (Op (kind_of w) h))
      by_kind g v q true z =
          at_unmatched (tree_of part) (name_of name) (several t) (kind_of w) g v q
          (no_match (tree_of part) (name_of name) (several t) (f (eqb-true (kind_of w) 5 z)) (Op (kind_of w) g))
      by_kind g v q false z = at_other (tree_of part) (name_of name) (several t) (kind_of w) g v q z

-- ---- lists

pub sum_occurrences : (l : List Tree) → sum_of size l ≡ occurrences l
unfolding sum_of occurrences
sum_occurrences [] = refl
sum_occurrences (t ∷ l) = ap (λ (n : ℕ). size t + n) (sum_occurrences l)

places_long : (ws ps : List ℕ) → length (at_places ws ps) ≡ length ps
unfolding at_places
places_long ws [] = refl
places_long ws (p ∷ ps) = ap suc (places_long ws ps)

each_at : (P : ℕ → Type 0) (ps : List ℕ) (j : ℕ) → Each P ps → j < length ps → P (get_or ps j 0)
each_at P [] j h l = absurd (omega arith)
each_at P (p ∷ ps) zero h l = h.0
each_at P (p ∷ ps) (suc j) h l = each_at P ps j h.1 (omega arith)

-- ---- the name's places at the end

all_names : (limit k : ℕ) → names_after limit (repeated k limit) ≡ k
unfolding names_after repeated
all_names limit zero = refl
all_names limit (suc k) = (let i = all_names limit k in let l = repeated_long k limit in after_more limit limit (repeated k limit) (i ∙ sym l) (omega arith) ∙ ap suc l)

names_apart : (P : ℕ → Type 0) (limit : ℕ) → ((p : ℕ) → P p → p < limit) → (front : List ℕ) (k : ℕ) → Each P front → names_after limit (front ++ repeated k limit) ≡ k
names_apart P limit f [] k h = all_names limit k
names_apart P limit f (p ∷ front) k h = after_other limit p (front ++ repeated k limit) (f p h.0) ∙ names_apart P limit f front k h.1

runs_long : (runs : List (List ℕ)) (ts : List Tree) → Runs runs ts → length runs ≡ length ts
runs_long [] [] m = refl
runs_long [] (t ∷ ts) m = absurd m
runs_long (r ∷ runs) [] m = absurd m
runs_long (r ∷ runs) (t ∷ ts) m = ap suc (runs_long runs ts m.2)

accepted : (code : ℕ) (o : Outcome ℤ) → Some code ≡ constant_answer o → (c : ℤ) × ((o ≡ ok c) × (code ≡ constant_code c))
unfolding constant_answer
accepted code (ok c) e = (c, (refl, cc))
accepted code (refused i) e = (let z : ◌≡◌ {A = ℕ} 0 1 = cc in absurd (omega arith))

small_code : (c : ℤ) → Small c → constant_code c < 2 ^ 51
unfolding constant_code magnitude
small_code (pos n) h = (let l : 2 * 10 ^ 15 ≤ 2 ^ 51 = lit≤ tt in omega arith)
small_code (negsuc n) h = (let l : 2 * 10 ^ 15 ≤ 2 ^ 51 = lit≤ tt in omega arith)

unaccepted : (o : Outcome ℤ) → None ≡ constant_answer o → (i : Refusal) × (o ≡ refused i)
unfolding constant_answer
unaccepted (ok c) e = (let z : ◌≡◌ {A = ℕ} 0 1 = cc in absurd (omega arith))
unaccepted (refused i) e = (i, refl)

-- ---- a product

-- the first tree is a product and not the target
pub record ProductAt (part : List ℕ) (name : ℕ) (ws : List ℕ) : Type 0 where
  pub operands : Forest
  pub is : tree_of ws ≡ Op Mul operands
  pub formed : T (well_formed (Op Mul operands))
  pub unequal : eq_tree (Op Mul operands) (tree_of part) ≡ false
  pub stays : rewritten part name (Op Mul operands) ≡ (each_operand (rewritten part name) operands >>= λ g. ok (Op Mul g)) → StaysAt part name ws

pub product_at :
    (part : List ℕ) (name : ℕ) → Target part name → (ws : List ℕ) → Trees ws → 0 < length ws → false ≡ begins_with ws part → kind_of (get_or ws 0 0) ≡ 5 → ProductAt part name ws
product_at part name t [] h p e k = absurd (omega arith)
product_at part name t (w ∷ ws) h p e k =
    let f = forest (take (takes w) (read numbered ws)) in
    let x : made numbered w (read numbered ws) ≡ Op Mul f =
    operation_tree numbered w (take (takes w) (read numbered ws)) (omega arith) ∙ ap (λ (j : ℕ). Op j f) k in
    let y : tree_of (w ∷ ws) ≡ Op Mul f = first_tree w ws ∙ x in
    let u = ap (λ (z : Tree). eq_tree z (tree_of part)) (sym y) ∙ first_equal part name t (w ∷ ws) h p false e in
    record {
      operands = f;
      is = y;
      formed = subst (λ (z : Tree). T (well_formed z)) y (head_formed part name t (w ∷ ws) h p);
      unequal = u;
      stays = λ r.
          word_out (tree_of part) (name_of name) w ws h.count h.complete
          (stays_word part name t w ws (ap (λ (z : Tree). eq_tree z (tree_of part)) x ∙ u)
          (λ l. subst (λ (j : ℕ). rewritten part name (Op j f) ≡ (each_operand (rewritten part name) f >>= λ g. ok (Op j g))) (sym k) r));
    }

module _
    (part : List ℕ) (name : ℕ) (t : Target part name) (ws : List ℕ) (h : Trees ws) (is_product : ProductAt part name ws) (by : T (by_factors (tree_of part))) where
  abbrev rp : Tree → Outcome Tree
  rp = replace (tree_of part) (name_of name)

  abbrev f : Forest
  f = is_product.operands

  abbrev e : Tree
  e = Op Mul f

  abbrev n : Name
  n = name_of name

  abbrev q : Taken
  q = taken n (factors_of (tree_of part)) (factors_of e)

  tree_first : tree ws 0 ≡ e
  unfolding tree_of
  tree_first = tree_at numbered ws 0 ∙ is_product.is

  one_factor : 1 ≤ length (factors_of (tree_of part))
  unfolding by_factors
  one_factor = some_factor t by

  -- how it is rewritten
  rebuilt_is : rp e ≡ rebuilt rp (flatten_mul_factors e).coefficient q.factors q.times (each_operand rp f >>= λ g. ok (Op Mul g))
  rebuilt_is = at_product (tree_of part) n (several t) by f is_product.formed is_product.unequal

  names_stay : (k : ℕ) → each rp (named n k) ≡ ok (named n k)
  unfolding each named
  names_stay zero = refl
  names_stay (suc k) = ap₂ (λ (a : Outcome Tree) (o : Outcome (List Tree)). a >>= λ u. o >>= λ r. ok (u ∷ r)) (name_stays (tree_of part) n (several t) by) (names_stay k)

  -- the factors at places of the words, and names
  module _ (P : ℕ → Type 0) (below : (p : ℕ) → P p → p < length ws) where
    abbrev fs : List ℕ → List Tree
    fs = factors_at ws h.count h.complete name t.symbol

    factors_names : (k : ℕ) → fs (repeated k (length ws)) ≡ named n k
    unfolding factors_at named repeated
    factors_names zero = refl
    factors_names (suc k) = ap₂ (λ (x : Tree) (l : List Tree). x ∷ l) (at_end ws h.count h.complete name t.symbol) (factors_names k)

    factors_split : (front : List ℕ) (k : ℕ) → Each P front → fs (front ++ repeated k (length ws)) ≡ at_places ws front ++ named n k
    unfolding factors_at at_places
    factors_split [] k g = factors_names k
    factors_split (p ∷ front) k g = ap₂ (λ (x : Tree) (l : List Tree). x ∷ l) (at_within ws h.count h.complete name t.symbol p (below p g.0)) (factors_split front k g.1)

  module _
      (old new places : List ℕ) (p : Product) (pr : ProductOf ws 0 old p new) (all times : ℕ)
      (ta : TakenAs (take_out_places (2 * p.count) (words_at ws name) (length ws) (factor_runs part) (take p.count new)) places all times) where
    abbrev inside : ℕ → Type 0
    inside = Inside ws 0 (0 + size (tree ws 0))

    below : (i : ℕ) → inside i → i < length ws
    unfolding run_at
    below i x = (let a = x.high in let b = size_up (tree ws i) in let c = (words_complete ws 1 (size (tree ws 0)) pr.there).0 in omega arith)

    abbrev out : PlacesTaken
    out = take_out_places (2 * p.count) (words_at ws name) (length ws) (factor_runs part) (take p.count new)

    first_apart : Apart ws h.count h.complete name t.symbol inside (take p.count new)
    unfolding repeated
    first_apart = record { front = take p.count new; names = 0; is = sym (append-nil (take p.count new)); inside = pr.inside }

    first_factors : fs inside below (take p.count new) ≡ factors_of e
    unfolding repeated named
    first_factors =
        ap (fs inside below) (sym (append-nil (take p.count new))) ∙ factors_split inside below (take p.count new) 0 pr.inside ∙ append-nil (at_places ws (take p.count new))
        ∙ pr.factors_are ∙ ap factors_of tree_first

    agree : Agree ws h.count h.complete name t.symbol inside 0 out q
    unfolding taken first_apart
    agree =
        let runs = target_runs part t.one in
        let some_run : 1 ≤ length (factor_runs part) = (let x = runs_long (factor_runs part) (factors_of (tree_of part)) runs in let y = one_factor in omega arith) in
        let a = taken_agree ws h.count h.complete name t.symbol inside (2 * p.count) (factor_runs part) (factors_of (tree_of part)) runs some_run (take p.count new) first_apart in
        let c : 2 * p.count ≡ 2 * length (factors_of e) = ap (λ (k : ℕ). 2 * k) (pr.count_is ∙ ap (λ (x : Tree). length (factors_of x)) tree_first) in
        subst (λ (k : ℕ). Agree ws h.count h.complete name t.symbol inside 0 out (take_out k n (factors_of (tree_of part)) (factors_of e))) c
        (subst (λ (m : List Tree). Agree ws h.count h.complete name t.symbol inside 0 out (take_out (2 * p.count) n (factors_of (tree_of part)) m)) first_factors a)

    times_is : times ≡ q.times
    times_is = ta.2 ∙ agree.times_is

    coefficient_is : p.coefficient ≡ (flatten_mul_factors e).coefficient
    coefficient_is = pr.coefficient_is ∙ ap (λ (x : Tree). (flatten_mul_factors x).coefficient) tree_first

    -- nothing was taken out, so not all of the target's factors are there
    pub none_there : times ≡ 0 → remove_each (factors_of (tree_of part)) (factors_of (tree_of ws)) ≡ none
    none_there z =
        ap (λ (y : Tree). remove_each (factors_of (tree_of part)) (factors_of y)) is_product.is
        ∙ never_there n (factors_of (tree_of part)) (factors_of e) one_factor (sym times_is ∙ z)

    module _ (k : ℕ) (some_time : times ≡ suc k) where
      opened : rp e ≡ (constant_of p.coefficient >>= λ c. each rp q.factors >>= λ l. ok (built c l))
      unfolding rebuilt
      opened =
          rebuilt_is
          ∙ ap (λ (k : ℕ). rebuilt rp (flatten_mul_factors e).coefficient q.factors k (each_operand rp f >>= λ g. ok (Op Mul g))) (sym times_is ∙ some_time)
          ∙ ap (λ (x : Float). constant_of x >>= λ c. each rp q.factors >>= λ l. ok (built c l)) (sym coefficient_is)

      -- its coefficient is no constant
      pub refused_there : None ≡ constant_answer (constant_of p.coefficient) → RefusedAt part name ws
      refused_there z =
          let u = unaccepted (constant_of p.coefficient) z in
          (u.0, ap rp is_product.is ∙ opened ∙ ap (λ (o : Outcome ℤ). o >>= λ c. each rp q.factors >>= λ l. ok (built c l)) u.1)

      module _ (code : ℕ) (z : Some code ≡ constant_answer (constant_of p.coefficient)) (left copies : ℕ) (cp : copies ≡ names_after (length ws) (take all places)) (lf : left ≡ all - copies) where
        abbrev front : List ℕ
        front = agree.apart.front

        places_are : take all places ≡ front ++ repeated agree.apart.names (length ws)
        places_are = ta.0 ∙ agree.apart.is

        copies_are : copies ≡ agree.apart.names
        copies_are = cp ∙ ap (names_after (length ws)) places_are ∙ names_apart inside (length ws) below front agree.apart.names agree.apart.inside

        all_long : all ≡ length front + copies
        all_long =
            (let a = length-take-le all places ta.1 in
            let b = ap length places_are ∙ length-append front (repeated agree.apart.names (length ws)) in
            let c = repeated_long agree.apart.names (length ws) in
            let d = copies_are in
            omega arith)

        left_long : left ≡ length front
        left_long = (let a = all_long in omega arith)

        left_there : left ≤ length places
        left_there = (let a = ta.1 in omega arith)

        front_is : take left places ≡ front
        front_is =
            let short : left ≤ all = omega arith in
            sym (take-take left all places short) ∙ ap (take left) places_are ∙ take_at front (repeated agree.apart.names (length ws)) left (sym left_long)

        abbrev X : List Tree
        X = at_places ws (take left places)

        factors_are : q.factors ≡ X ++ named n copies
        factors_are =
            sym agree.factors_are ∙ ap (fs inside below) agree.apart.is ∙ factors_split inside below front agree.apart.names agree.apart.inside
            ∙ ap₂ (λ (l : List ℕ) (k : ℕ). at_places ws l ++ named n k) (sym front_is) (sym copies_are)

        XLong : length X ≡ left
        XLong = places_long ws (take left places) ∙ length-take-le left places left_there

        some_copy : copies ≡ suc (copies - 1)
        some_copy = (let a = agree.some_name (let b = ta.2 in omega arith) in let c = copies_are in omega arith)

        abbrev c : ℤ
        c = (accepted code (constant_of p.coefficient) z).0

        c_is : constant_of p.coefficient ≡ ok c
        c_is = (accepted code (constant_of p.coefficient) z).1.0

        code_is : code ≡ constant_code c
        code_is = (accepted code (constant_of p.coefficient) z).1.1

        signs_is : left + (copies - 1) ≡ left + copies - 1
        signs_is = omega (arith, some_copy)

        words_of : (l : List Tree) → length l ≡ left
            → tokens number (built c (l ++ named n copies)) ≡ head_words code (left + copies - 1) ++ (all_tokens number l ++ repeated copies name)
        words_of l m =
            ap (λ (k : ℕ). tokens number (built c (l ++ named n k))) some_copy
            ∙ product_words c n name (copies - 1) l (name_written name t.symbol)
            ∙ ap₂ (λ (i j : ℕ). head_words i j ++ (all_tokens number l ++ repeated (suc (copies - 1)) name)) (sym code_is) (ap (λ (i : ℕ). i + (copies - 1)) m ∙ signs_is)
            ∙ ap (λ (i : ℕ). head_words code (left + copies - 1) ++ (all_tokens number l ++ repeated i name)) (sym some_copy)

        split : (each rp q.factors >>= λ l. ok (built c l)) ≡ (each rp X >>= λ l. ok (built c (l ++ named n copies)))
        split =
            ap (λ (m : List Tree). each rp m >>= λ l. ok (built c l)) factors_are
            ∙ ap (λ (o : Outcome (List Tree)). o >>= λ l. ok (built c l)) (each_both rp X (named n copies) ∙ ap (λ (o : Outcome (List Tree)). each rp X >>= λ a. o >>= λ b. ok (a ++ b)) (names_stay copies))
            ∙ then_then (each rp X) (λ a. ok (a ++ named n copies)) (λ l. ok (built c l))

        becomes :
            (rp (tree_of ws) >>= λ u. ok (tokens number u))
            ≡ (each rp X >>= λ l. ok (head_words code (left + copies - 1) ++ (all_tokens number l ++ repeated copies name)))
        becomes =
            ap (λ (o : Outcome Tree). o >>= λ u. ok (tokens number u))
            (ap rp is_product.is ∙ opened ∙ ap (λ (o : Outcome ℤ). o >>= λ c. each rp q.factors >>= λ l. ok (built c l)) c_is ∙ split)
            ∙ then_then (each rp X) (λ l. ok (built c (l ++ named n copies))) (λ u. ok (tokens number u))
            ∙ then_known (each rp X) (λ l. ok (tokens number (built c (l ++ named n copies))))
            (λ l. ok (head_words code (left + copies - 1) ++ (all_tokens number l ++ repeated copies name))) (λ l x. ap ok (words_of l (each_long rp X l x ∙ XLong)))

        long_names : (k : ℕ) → length (named n k) ≡ k
        long_names k = named_long n k

        factors_long : length q.factors ≡ left + copies
        factors_long = ap length factors_are ∙ length-append X (named n copies) ∙ (let a = XLong in let b = long_names copies in omega arith)

        pub match_there : Match part name ws places left copies code (size (tree ws 0))
        match_there =
            let sz : size (tree ws 0) ≡ size e = ap size tree_first in
            let b = built_size (tree_of part) n one_factor f is_product.formed c (ap constant_of (sym coefficient_is) ∙ c_is) (let x = factors_long in let y = some_copy in omega arith) in
            let bk : size (built c (X ++ named n copies)) ≤ size e = subst (λ (m : List Tree). size (built c m) ≤ size e) factors_are b in
            let len = sym (tokens_length number (built c (X ++ named n copies))) ∙ ap length (words_of X XLong) in
            let l1 = length-append (head_words code (left + copies - 1)) (all_tokens number X ++ repeated copies name) in
            let l2 = length-append (all_tokens number X) (repeated copies name) in
            let l3 = all_tokens_length number X in
            let l4 = repeated_long copies name in
            let rs = rest_size (tree_of part) n one_factor f is_product.formed in
            let so = ap (sum_of size) factors_are ∙ sum_append size X (named n copies) in
            let sx = sum_occurrences X in
            record {
              size_is = ap size (tree_first ∙ sym is_product.is);
              run_is = pr.there;
              some_copy = omega (arith, some_copy);
              small = subst (λ (i : ℕ). i < 2 ^ 51) (sym code_is) (small_code c (accepted_small p.coefficient c c_is));
              there = left_there;
              within = λ j l.
                  (let x = each_at inside (take left places) j (subst (Each inside) (sym front_is) agree.apart.inside) (omega (arith, length-take-le left places left_there)) in
                  let y : Inside ws 0 (0 + size (tree ws 0)) (get_or places j 0) = subst (Inside ws 0 (0 + size (tree ws 0))) (get_or-take left places j 0 l) x in
                  record { before = omega (arith, y.high); run = y.run });
              becomes = becomes;
              room = omega arith;
              smaller = omega arith;
            }
