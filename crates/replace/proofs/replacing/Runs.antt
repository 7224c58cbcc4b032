-- The runs that stand for a target's factors, and the places that stand for a product's: taking out runs is taking out factors. Assumes nothing.
use Rattle.std.proofs.Common.{◌≡◌, ℕ, zero, suc, ◌+◌, ◌-◌, ◌/◌, ◌%◌, ◌<◌, ◌≤◌, Bool, true, false, not, ◌||◌, T, eqb, ltb, List, [], ◌∷◌, ◌++◌, map, length, get_or, take, drop, ℤ, sym, refl, ap, ◌∙◌, subst, ap₂, append_assoc, append-nil, arith, ltb→lt, nltb→le, length-drop, take-append-drop, drop-cons, eqb-true}
use mathlib.Core.Option.{Option, none, some}
use Rattle.spec_tree.specs.Tree.{Name, Tree, Forest, Sym, Const, Op, nil, forest, eq_tree}
use Rattle.spec_tree.specs.Kinds.{Neg, Mul}
use Rattle.spec_tree.specs.Tokens.{kind_of, below_of, name_by, constant_at, takes, tree_of_word, numbered, read, trees_in, words_of}
use Rattle.spec_tree.proofs.TokenLaws.{Word, a_symbol, a_constant, an_operation, word_is, symbol_tree, constant_tree, operation_tree, made, read_cons, Takes, complete_tail, complete_cons, complete_end, complete_length, tree_at, leaf_takes, words_tail}
use Rattle.spec_rewrite.specs.Rewrite.{Factors, one, flatten_mul_factors, flatten_operands, flatten_after, times, negated, remove_first, remove_each}
use Rattle.spec_rewrite.proofs.Factors.{factors_of, factors_alone}
use Rattle.words.specs.words.Words.{tree_of, name_of, begins_with}
use Rattle.words.proofs.words.Rewriting.{segment, begins_tree, first_tree, whole_there}
use Rattle.replace.specs.factors.Places.{tree}
use Rattle.replace.proofs.factors.PlaceLaws.{Each}
use Rattle.replace.specs.closed.Closed.{Taken, take_out, once_more as tree_once_more}
use Rattle.replace.specs.matching.Matching.{is_passed, first_run, runs_after, factor_runs, words_at, remove_run, remove_runs, PlacesTaken, take_out_places, once_more}
use Rattle.replace.proofs.matching.Runs.{skipped, stands_within, stands_past}
use Rattle.replace.proofs.matching.Removing.{unrolled}
use Rattle.replace.specs.replacing.Replacing.{repeated}
use Rattle.replace.proofs.replacing.Products.{repeated_more}
use Rattle.spec_tree.proofs.Lists.{one_alone}

-- ---- the factors of several trees

unfoldable pub factors_all : List Tree → List Tree
unfolding flatten_mul_factors
factors_all [] = []
factors_all (t ∷ l) = factors_of t ++ factors_all l

pub all_append : (a b : List Tree) → factors_all (a ++ b) ≡ factors_all a ++ factors_all b
unfolding factors_all
all_append [] b = refl
all_append (t ∷ a) b = ap (λ (l : List Tree). factors_of t ++ l) (all_append a b) ∙ sym (append_assoc (factors_of t) (factors_all a) (factors_all b))

after_all : (l : List Tree) (p : Factors) → (flatten_after (forest l) p).factors ≡ p.factors ++ factors_all l
unfolding factors_all flatten_mul_factors forest times
after_all [] p = sym (append-nil p.factors)
after_all (t ∷ l) p = after_all l (times p (flatten_mul_factors t)) ∙ append_assoc p.factors (factors_of t) (factors_all l)

operands_all : (l : List Tree) → (flatten_operands (forest l)).factors ≡ factors_all l
unfolding factors_all flatten_mul_factors forest
operands_all [] = refl
operands_all (t ∷ l) = after_all l (flatten_mul_factors t)

-- a word that is passed through: the factors are those after it; any other starts one
node_passed : (k : ℕ) (f : Forest) → eqb k Mul ≡ true → factors_of (Op k f) ≡ (flatten_operands f).factors
unfolding flatten_mul_factors
node_passed k f e =
    ap (λ (b : Bool). (elim b as (λ _. Factors) [ true ↦ flatten_operands f | false ↦ elim (eqb k Neg) [ true ↦ negated (flatten_operands f) | false ↦ record { coefficient = one; factors = Op k f ∷ [] } ] ]).factors) e

node_minus : (k : ℕ) (f : Forest) → eqb k Mul ≡ false → eqb k Neg ≡ true → factors_of (Op k f) ≡ (flatten_operands f).factors
unfolding flatten_mul_factors negated
node_minus k f e g =
    ap₂ (λ (b d : Bool). (elim b as (λ _. Factors) [ true ↦ flatten_operands f | false ↦ elim d [ true ↦ negated (flatten_operands f) | false ↦ record { coefficient = one; factors = Op k f ∷ [] } ] ]).factors) e g

symbol_alone : (n : Name) → factors_of (Sym n) ≡ Sym n ∷ []
unfolding flatten_mul_factors
symbol_alone n = refl

constant_none : (c : ℤ) → factors_of (Const c) ≡ []
unfolding flatten_mul_factors
constant_none c = refl

pub word_passed : (w : ℕ) (l : List Tree) → (takes w ≡ 0 → l ≡ []) → is_passed w ≡ true → factors_of (tree_of_word numbered w l) ≡ factors_all l
unfolding factors_all is_passed
word_passed w l z p = go (word_is w)
  where
    by_kind : (b d c : Bool) → eqb (kind_of w) Mul ≡ b → eqb (kind_of w) Neg ≡ d → eqb (kind_of w) 1 ≡ c → (b || (d || c)) ≡ true → (1 < kind_of w)
        → factors_of (Op (kind_of w) (forest l)) ≡ factors_all l
    by_kind true d c e f g h k = node_passed (kind_of w) (forest l) e ∙ operands_all l
    by_kind false true c e f g h k = node_minus (kind_of w) (forest l) e f ∙ operands_all l
    by_kind false false true e f g h k = (let x = eqb-true (kind_of w) 1 g in absurd (omega arith))
    by_kind false false false e f g h k = (let y : ◌≡◌ {A = ℕ} 0 1 = cc in absurd (omega arith))

    zero_kind : (k : ℕ) → k ≡ 0 → (eqb k Mul || (eqb k Neg || eqb k 1)) ≡ true → ⊥
    zero_kind k e h = (let q : (eqb 0 Mul || (eqb 0 Neg || eqb 0 1)) ≡ true = subst (λ (j : ℕ). (eqb j Mul || (eqb j Neg || eqb j 1)) ≡ true) e h in let y : ◌≡◌ {A = ℕ} 0 1 = cc in omega arith)

    go : Word w → factors_of (tree_of_word numbered w l) ≡ factors_all l
    go (a_symbol k) = absurd (zero_kind (kind_of w) k p)
    go (a_constant k) =
        ap factors_of (constant_tree numbered w l k) ∙ constant_none (constant_at (below_of w)) ∙ sym (ap factors_all (z (leaf_takes w (omega arith))))
    go (an_operation k) = ap factors_of (operation_tree numbered w l k) ∙ by_kind (eqb (kind_of w) Mul) (eqb (kind_of w) Neg) (eqb (kind_of w) 1) refl refl refl p k

word_alone : (w : ℕ) (l : List Tree) → is_passed w ≡ false → factors_of (tree_of_word numbered w l) ≡ tree_of_word numbered w l ∷ []
unfolding is_passed
word_alone w l p = go (word_is w)
  where
    by_kind : (b d c : Bool) → eqb (kind_of w) Mul ≡ b → eqb (kind_of w) Neg ≡ d → (b || (d || c)) ≡ false → factors_of (Op (kind_of w) (forest l)) ≡ Op (kind_of w) (forest l) ∷ []
    by_kind true d c e f h = (let y : ◌≡◌ {A = ℕ} 0 1 = cc in absurd (omega arith))
    by_kind false true c e f h = (let y : ◌≡◌ {A = ℕ} 0 1 = cc in absurd (omega arith))
    by_kind false false c e f h = factors_alone (kind_of w) (forest l) e f

    one_kind : (k : ℕ) → k ≡ 1 → (eqb k Mul || (eqb k Neg || eqb k 1)) ≡ false → ⊥
    one_kind k e h = (let q : (eqb 1 Mul || (eqb 1 Neg || eqb 1 1)) ≡ false = subst (λ (j : ℕ). (eqb j Mul || (eqb j Neg || eqb j 1)) ≡ false) e h in let y : ◌≡◌ {A = ℕ} 0 1 = cc in omega arith)

    go : Word w → factors_of (tree_of_word numbered w l) ≡ tree_of_word numbered w l ∷ []
    go (a_symbol k) = ap factors_of (symbol_tree numbered w l k) ∙ symbol_alone (name_by numbered (below_of w % 3) (below_of w / 3)) ∙ ap (λ (t : Tree). t ∷ []) (sym (symbol_tree numbered w l k))
    go (a_constant k) = absurd (one_kind (kind_of w) k p)
    go (an_operation k) =
        ap factors_of (operation_tree numbered w l k) ∙ by_kind (eqb (kind_of w) Mul) (eqb (kind_of w) Neg) (eqb (kind_of w) 1) refl refl p
        ∙ ap (λ (t : Tree). t ∷ []) (sym (operation_tree numbered w l k))

-- ---- the runs of complete words are those of their trees' factors

abbrev pub One : List ℕ → Type 0
One run = trees_in run ≡ some 1

abbrev pub Runs : List (List ℕ) → List Tree → Type 0
Runs [] [] = Unit {0}
Runs [] (t ∷ l) = ⊥
Runs (r ∷ rs) [] = ⊥
Runs (r ∷ rs) (t ∷ l) = One r × (tree_of r ≡ t) × Runs rs l

abbrev tried : ℕ → List ℕ → Bool → List (List ℕ)
tried w ws b = elim b [ true ↦ runs_after 0 ws | false ↦ take (first_run (w ∷ ws)) (w ∷ ws) ∷ runs_after (first_run (w ∷ ws) - 1) ws ]

first_is : (ws : List ℕ) (y : ℕ) → words_of ws 1 ≡ some y → first_run ws ≡ y
unfolding first_run
first_is ws y e = ap (λ (o : Option ℕ). elim o as (λ _. ℕ) [ none ↦ length ws | some n ↦ n ]) e

words_up : (w : ℕ) (ws : List ℕ) (y : ℕ) → words_of (w ∷ ws) 1 ≡ some y → 0 < y
words_up w ws y e = omega (arith, (words_tail w ws 0 y e).one_more)

-- by as many words as there may be
runs_most : (most : ℕ) (ws : List ℕ) (n : ℕ) → length ws ≤ most → trees_in ws ≡ some n → Runs (runs_after 0 ws) (factors_all (read numbered ws))
unfolding runs_after tree_of
runs_most zero [] n h e = (unfold read factors_all in tt)
runs_most zero (w ∷ ws) n h e = absurd (omega arith)
runs_most (suc most) [] n h e = (unfold read factors_all in tt)
runs_most (suc most) (w ∷ ws) n h e = go (is_passed w) refl (λ us m a b. runs_most most us m a b)
  where
    rs : List Tree
    rs = read numbered ws

    split : Takes (trees_in ws) (takes w) n
    split = complete_tail w ws n e

    read_is : factors_all (read numbered (w ∷ ws)) ≡ factors_of (made numbered w rs) ++ factors_all (drop (takes w) rs)
    read_is = ap factors_all (read_cons numbered w ws) ∙ opened (made numbered w rs) (drop (takes w) rs)
      where
        opened : (t : Tree) (l : List Tree) → factors_all (t ∷ l) ≡ factors_of t ++ factors_all l
        opened t l = (unfold factors_all in refl)

    go : (b : Bool) → is_passed w ≡ b → ((us : List ℕ) (m : ℕ) → length us ≤ most → trees_in us ≡ some m → Runs (runs_after 0 us) (factors_all (read numbered us)))
        → Runs (tried w ws b) (factors_all (read numbered (w ∷ ws)))
    go true p i =
        subst (Runs (runs_after 0 ws))
        (sym (read_is ∙ ap (λ (l : List Tree). l ++ factors_all (drop (takes w) rs)) (word_passed w (take (takes w) rs) (λ z. ap (λ (k : ℕ). take k rs) z) p)
        ∙ sym (all_append (take (takes w) rs) (drop (takes w) rs)) ∙ ap factors_all (take-append-drop (takes w) rs)))
        (i ws split.trees (omega arith) split.are)
    go false p i =
        let y = whole_there w ws n e in
        let s = segment (w ∷ ws) 1 y.0 y.1 in
        let f : first_run (w ∷ ws) ≡ y.0 = first_is (w ∷ ws) y.0 y.1 in
        let up : 0 < y.0 = words_up w ws y.0 y.1 in
        let c = complete_end y.0 (w ∷ ws) n e in
        let d : drop (y.0 - 1) ws ≡ drop y.0 (w ∷ ws) = shifted y.0 up in
        subst (Runs (take (first_run (w ∷ ws)) (w ∷ ws) ∷ runs_after (first_run (w ∷ ws) - 1) ws))
        (sym (read_is ∙ ap (λ (l : List Tree). l ++ factors_all (drop (takes w) rs)) (word_alone w (take (takes w) rs) p)))
        (subst (λ (k : ℕ). Runs (take k (w ∷ ws) ∷ runs_after (k - 1) ws) (made numbered w rs ∷ factors_all (drop (takes w) rs))) (sym f) (
          s.whole,
          ap (λ (l : List Tree). get_or l 0 (Op 0 nil)) (s.first ∙ ap (take 1) (read_cons numbered w ws)),
          subst (λ (l : List (List ℕ)). Runs l (factors_all (drop (takes w) rs))) (sym (skipped (y.0 - 1) ws))
              (subst (λ (l : List Tree). Runs (runs_after 0 (drop (y.0 - 1) ws)) (factors_all l)) (ap (read numbered) d ∙ s.rest ∙ ap (drop 1) (read_cons numbered w ws))
              (i (drop (y.0 - 1) ws) c.0 (omega (arith, length-drop (y.0 - 1) ws)) (ap trees_in d ∙ c.1))),
        ))
      where
        shifted : (k : ℕ) → 0 < k → drop (k - 1) ws ≡ drop k (w ∷ ws)
        shifted k u = ap (λ (j : ℕ). drop j (w ∷ ws)) (let z : suc (k - 1) ≡ k = omega arith in z)

pub runs_are : (ws : List ℕ) (n : ℕ) → trees_in ws ≡ some n → Runs (factor_runs ws) (factors_all (read numbered ws))
unfolding factor_runs
runs_are ws n e = runs_most (length ws) ws n (omega arith) e

-- of one tree
pub target_runs : (part : List ℕ) → trees_in part ≡ some 1 → Runs (factor_runs part) (factors_of (tree_of part))
unfolding tree_of
target_runs part e =
    subst (Runs (factor_runs part)) (ap factors_all (one_alone (read numbered part) (complete_length numbered part 1 e)) ∙ (unfold factors_all in append-nil (factors_of (get_or (read numbered part) 0 (Op 0 nil)))))
    (runs_are part 1 e)

-- ---- places by runs are trees by factors

-- the word of a symbol is a tree
pub name_alone : (name : ℕ) → kind_of name ≡ 0 → trees_in (name ∷ []) ≡ some 1
name_alone name e =
    let z : kind_of name ≤ 1 = omega arith in
    let t = leaf_takes name z in
    complete_cons name [] 0 none_there (omega arith) ∙ ap (λ (k : ℕ). some (suc (0 - k))) t
  where
    none_there : trees_in [] ≡ some 0
    none_there = (unfold trees_in in refl)

pub name_tree : (name : ℕ) → kind_of name ≡ 0 → tree_of (name ∷ []) ≡ Sym (name_of name)
unfolding name_of
name_tree name e = first_tree name [] ∙ symbol_tree numbered name (take (takes name) (read numbered [])) e

module _ (ws : List ℕ) (n : ℕ) (all : trees_in ws ≡ some n) (name : ℕ) (symbol : kind_of name ≡ 0) where
  abbrev at : ℕ → List ℕ
  at = words_at ws name

  -- the factor at a place, or the name past the end
  unfoldable pub factor_at : ℕ → Tree
  unfolding words_at tree_of
  factor_at p = tree_of (at p)

  unfoldable pub factors_at : List ℕ → List Tree
  unfolding factor_at
  factors_at ps = map factor_at ps

  pub at_within : (p : ℕ) → p < length ws → factor_at p ≡ tree ws p
  unfolding factor_at tree_of
  at_within p h = ap tree_of (stands_within ws name p h) ∙ sym (tree_at numbered ws p)

  pub at_end : factor_at (length ws) ≡ Sym (name_of name)
  unfolding factor_at
  at_end = (let z : length ws ≤ length ws = omega arith in ap tree_of (stands_past ws name (length ws) z)) ∙ name_tree name symbol

  -- at least a tree stands at a place
  some_there : (p : ℕ) → (m : ℕ) × ((trees_in (at p) ≡ some m) × (1 ≤ m))
  some_there p = go (ltb p (length ws)) (ltb→lt p (length ws)) (nltb→le p (length ws))
    where
      more_than_none : (p m : ℕ) → p < length ws → trees_in (drop p ws) ≡ some m → 1 ≤ m
      more_than_none p m h e = (let t = complete_tail (get_or ws p 0) (drop (suc p) ws) m (ap trees_in (sym (drop-cons ws p 0 h)) ∙ e) in omega (arith, t.left))

      go : (b : Bool) → (T b → p < length ws) → (T (not b) → length ws ≤ p) → (m : ℕ) × ((trees_in (at p) ≡ some m) × (1 ≤ m))
      go true f g = (let c = complete_end p ws n all in (c.0, (ap trees_in (stands_within ws name p (f tt)) ∙ c.1, more_than_none p c.0 (f tt) c.1)))
      go false f g = (1, (ap trees_in (stands_past ws name p (g tt)) ∙ name_alone name symbol, omega arith))

  stands : (p : ℕ) (run : List ℕ) → One run → begins_with (at p) run ≡ eq_tree (factor_at p) (tree_of run)
  unfolding factor_at
  stands p run o = (let c = some_there p in sym (begins_tree (at p) c.0 c.1.0 c.1.1 run o (begins_with (at p) run) refl))

  abbrev mapped : Option (List ℕ) → Option (List Tree)
  mapped o = elim o [ none ↦ none | some ps ↦ some (factors_at ps) ]

  abbrev picked : Bool → List ℕ → ℕ → Option (List ℕ) → Option (List ℕ)
  picked b l p o = elim b [ true ↦ some l | false ↦ elim o [ none ↦ none | some r ↦ some (p ∷ r) ] ]

  abbrev picked_tree : Bool → List Tree → Tree → Option (List Tree) → Option (List Tree)
  picked_tree b l t o = elim b [ true ↦ some l | false ↦ elim o [ none ↦ none | some r ↦ some (t ∷ r) ] ]

  run_removed : (run : List ℕ) → One run → (ps : List ℕ) → mapped (remove_run at run ps) ≡ remove_first (tree_of run) (factors_at ps)
  unfolding remove_run remove_first factors_at
  run_removed run o [] = refl
  run_removed run o (p ∷ ps) =
      ap (λ (x : Bool). mapped (picked x ps p (remove_run at run ps))) (stands p run o)
      ∙ go (eq_tree (factor_at p) (tree_of run)) (remove_run at run ps) (remove_first (tree_of run) (factors_at ps)) (run_removed run o ps)
    where
      go : (x : Bool) (q : Option (List ℕ)) (r : Option (List Tree)) → mapped q ≡ r → mapped (picked x ps p q) ≡ picked_tree x (factors_at ps) (factor_at p) r
      go true q r e = refl
      go false none r e = ap (λ (z : Option (List Tree)). picked_tree false (factors_at ps) (factor_at p) z) e
      go false (some s) r e = ap (λ (z : Option (List Tree)). picked_tree false (factors_at ps) (factor_at p) z) e

  abbrev then_runs : List (List ℕ) → Option (List ℕ) → Option (List ℕ)
  then_runs runs o = elim o [ none ↦ none | some r ↦ remove_runs at runs r ]

  abbrev then_each : List Tree → Option (List Tree) → Option (List Tree)
  then_each ts o = elim o [ none ↦ none | some r ↦ remove_each ts r ]

  runs_removed : (runs : List (List ℕ)) (ts : List Tree) → Runs runs ts → (ps : List ℕ) → mapped (remove_runs at runs ps) ≡ remove_each ts (factors_at ps)
  unfolding remove_runs remove_each
  runs_removed [] [] m ps = refl
  runs_removed [] (t ∷ ts) m ps = absurd m
  runs_removed (run ∷ runs) [] m ps = absurd m
  runs_removed (run ∷ runs) (t ∷ ts) m ps =
      go (λ s. runs_removed runs ts m.2 s) (remove_run at run ps)
      ∙ ap (then_each ts) (run_removed run m.0 ps ∙ ap (λ (x : Tree). remove_first x (factors_at ps)) m.1)
    where
      go : ((s : List ℕ) → mapped (remove_runs at runs s) ≡ remove_each ts (factors_at s)) → (o : Option (List ℕ)) → mapped (then_runs runs o) ≡ then_each ts (mapped o)
      go i none = refl
      go i (some s) = i s

  -- ---- places of the words, and then the name's

  module _ (P : ℕ → Type 0) where
    pub record Apart (ps : List ℕ) : Type 0 where
      pub front : List ℕ
      pub names : ℕ
      pub is : ps ≡ front ++ repeated names (length ws)
      pub inside : Each P front

    -- a name's place taken from the names
    names_fewer : (run : List ℕ) (k : ℕ) (r : List ℕ) → remove_run at run (repeated k (length ws)) ≡ some r → (j : ℕ) × (r ≡ repeated j (length ws))
    unfolding remove_run repeated
    names_fewer run zero r e = (let z : ◌≡◌ {A = ℕ} 0 1 = cc in absurd (omega arith))
    names_fewer run (suc k) r e = go (begins_with (at (length ws)) run) (remove_run at run (repeated k (length ws))) (λ s. names_fewer run k s) e
      where
        go : (b : Bool) (o : Option (List ℕ)) → ((s : List ℕ) → o ≡ some s → (j : ℕ) × (s ≡ repeated j (length ws))) → picked b (repeated k (length ws)) (length ws) o ≡ some r
            → (j : ℕ) × (r ≡ repeated j (length ws))
        go true o i e = (k, let q : repeated k (length ws) ≡ r = cc in sym q)
        go false none i e = (let z : ◌≡◌ {A = ℕ} 0 1 = cc in absurd (omega arith))
        go false (some s) i e = (let q : length ws ∷ s ≡ r = cc in let x = i s refl in (suc x.0, sym q ∙ ap (λ (l : List ℕ). length ws ∷ l) x.1))

    -- a place taken out
    run_apart : (run front : List ℕ) (k : ℕ) (r : List ℕ) → Each P front → remove_run at run (front ++ repeated k (length ws)) ≡ some r → Apart r
    unfolding remove_run
    run_apart run [] k r h e = (let x = names_fewer run k r e in record { front = []; names = x.0; is = x.1; inside = tt })
    run_apart run (p ∷ front) k r h e = go (begins_with (at p) run) (remove_run at run (front ++ repeated k (length ws))) (λ s. run_apart run front k s h.1) e
      where
        go : (b : Bool) (o : Option (List ℕ)) → ((s : List ℕ) → o ≡ some s → Apart s) → picked b (front ++ repeated k (length ws)) p o ≡ some r → Apart r
        go true o i e = (let q : front ++ repeated k (length ws) ≡ r = cc in record { front = front; names = k; is = sym q; inside = h.1 })
        go false none i e = (let z : ◌≡◌ {A = ℕ} 0 1 = cc in absurd (omega arith))
        go false (some s) i e =
            (let q : p ∷ s ≡ r = cc in let x = i s refl in record { front = p ∷ x.front; names = x.names; is = sym q ∙ ap (λ (l : List ℕ). p ∷ l) x.is; inside = (h.0, x.inside) })

    runs_apart : (runs : List (List ℕ)) (ps r : List ℕ) → Apart ps → remove_runs at runs ps ≡ some r → Apart r
    unfolding remove_runs
    runs_apart [] ps r h e = (let q : ps ≡ r = cc in subst Apart q h)
    runs_apart (run ∷ runs) ps r h e = go (λ s. runs_apart runs s r) (remove_run at run ps) refl e
      where
        go : ((s : List ℕ) → Apart s → remove_runs at runs s ≡ some r → Apart r) → (o : Option (List ℕ)) → remove_run at run ps ≡ o → then_runs runs o ≡ some r → Apart r
        go i none q e = (let z : ◌≡◌ {A = ℕ} 0 1 = cc in absurd (omega arith))
        go i (some s) q e = i s (run_apart run h.front h.names s h.inside (ap (remove_run at run) (sym h.is) ∙ q)) e

    -- the name's place put at the end
    one_name : (ps : List ℕ) (h : Apart ps) → ps ++ (length ws ∷ []) ≡ h.front ++ repeated (suc h.names) (length ws)
    one_name ps h =
        ap (λ (l : List ℕ). l ++ (length ws ∷ [])) h.is ∙ append_assoc h.front (repeated h.names (length ws)) (length ws ∷ [])
        ∙ ap (λ (l : List ℕ). h.front ++ l) (repeated_more h.names (length ws) ∙ ap (λ (k : ℕ). repeated k (length ws)) (let z : h.names + 1 ≡ suc h.names = omega arith in z))

    abbrev more_names : (ps : List ℕ) → Apart ps → Apart (ps ++ (length ws ∷ []))
    more_names ps h = record { front = h.front; names = suc h.names; is = one_name ps h; inside = h.inside }

    -- ---- again and again

    abbrev next_time : ℕ → List (List ℕ) → List ℕ → Option (List ℕ) → PlacesTaken
    next_time most runs ps o = elim o [ none ↦ record { places = ps; times = 0 } | some r ↦ once_more (take_out_places most at (length ws) runs (r ++ (length ws ∷ []))) ]

    abbrev next_tree : ℕ → List Tree → List Tree → Option (List Tree) → Taken
    next_tree most ts l o = elim o [ none ↦ record { factors = l; times = 0 } | some r ↦ tree_once_more (take_out most (name_of name) ts (r ++ (Sym (name_of name) ∷ []))) ]

    -- what stands there, how often, and that a name does after the first time or where one did before
    pub record Agree (before : ℕ) (q : PlacesTaken) (t : Taken) : Type 0 where
      pub factors_are : factors_at q.places ≡ t.factors
      pub times_is : q.times ≡ t.times
      pub apart : Apart q.places
      pub some_name : 1 ≤ before + q.times → 1 ≤ apart.names

    put_factor : (r : List ℕ) → factors_at (r ++ (length ws ∷ [])) ≡ factors_at r ++ (Sym (name_of name) ∷ [])
    unfolding factors_at
    put_factor [] = ap (λ (t : Tree). t ∷ []) at_end
    put_factor (p ∷ r) = ap (λ (l : List Tree). factor_at p ∷ l) (put_factor r)

    pub taken_agree :
        (most : ℕ) (runs : List (List ℕ)) (ts : List Tree) → Runs runs ts → 1 ≤ length runs → (ps : List ℕ) (h : Apart ps)
        → Agree h.names (take_out_places most at (length ws) runs ps) (take_out most (name_of name) ts (factors_at ps))
    unfolding take_out_places take_out once_more tree_once_more
    taken_agree zero runs ts m some_run ps h = record { factors_are = refl; times_is = refl; apart = h; some_name = λ x. omega arith }
    taken_agree (suc most) runs ts m some_run ps h =
        subst (λ (q : PlacesTaken). Agree h.names q (take_out (suc most) (name_of name) ts (factors_at ps))) (sym (unrolled at (length ws) most runs ps some_run))
        (subst (λ (o : Option (List Tree)). Agree h.names (next_time most runs ps (remove_runs at runs ps)) (next_tree most ts (factors_at ps) o)) (runs_removed runs ts m ps)
        (go (λ s g. taken_agree most runs ts m some_run (s ++ (length ws ∷ [])) g) (remove_runs at runs ps) refl))
      where
        go : ((s : List ℕ) (g : Apart (s ++ (length ws ∷ [])))
            → Agree g.names (take_out_places most at (length ws) runs (s ++ (length ws ∷ []))) (take_out most (name_of name) ts (factors_at (s ++ (length ws ∷ [])))))
            → (o : Option (List ℕ)) → remove_runs at runs ps ≡ o → Agree h.names (next_time most runs ps o) (next_tree most ts (factors_at ps) (mapped o))
        go i none q = record { factors_are = refl; times_is = refl; apart = h; some_name = λ x. omega arith }
        go i (some s) q =
            let a = i s (more_names s (runs_apart runs ps s h q)) in
            let e = ap (take_out most (name_of name) ts) (put_factor s) in
            record {
              factors_are = a.factors_are ∙ ap (λ (t : Taken). t.factors) e;
              times_is = ap suc (a.times_is ∙ ap (λ (t : Taken). t.times) e);
              apart = a.apart;
              some_name = λ x. a.some_name (omega arith);
            }
