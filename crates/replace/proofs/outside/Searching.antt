-- What `first_part` answers at each of its exits, and what each answer says. Assumes nothing.
use Rattle.std.specs.Prelude.{Some, None}
use Rattle.std.proofs.Common.{◌≡◌, ℕ, ◌+◌, ◌-◌, ◌<◌, ◌≤◌, Bool, true, false, ◌&&◌, T, leb, List, [], ◌∷◌, length, get_or, drop, sym, refl, ap, ◌∙◌, subst, arith, le-leb, leb-true}
use mathlib.Core.Option.{Option, none, some}
use borrow.Author.Tests.{lt-leb}
use Rattle.spec_tree.specs.Kinds.{is_switch}
use Rattle.spec_tree.specs.Tree.{eq_tree}
use Rattle.spec_tree.specs.Tokens.{kind_of, below_of, takes, trees_in, words_of, run_at}
use Rattle.spec_tree.proofs.TokenLaws.{operation_takes, complete_tail}
use Rattle.words.specs.tokens.Answers.{end_answer}
use Rattle.words.proofs.tokens.Comparing.{run_ends, run_after}
use Rattle.words.specs.words.Words.{tree_of, begins_with, Complete}
use Rattle.words.proofs.words.Rewriting.{begins_tree}
use Rattle.words.proofs.words.Runs.{first_run, whole_run, first_not_broken}
use Rattle.replace.specs.outside.Part.{has_arms, part_answer, part_of}
use Rattle.replace.specs.declared.outside.Part.TheVariants as part
use Rattle.spec_tree.proofs.Logic.{and_not}

pub some_tree : (us : List ℕ) → 0 < length us → (c : Complete us) → 1 ≤ c.0
some_tree [] h c = absurd (omega arith)
some_tree (w ∷ ws) h c = omega (arith, (complete_tail w ws c.0 c.1).left)

pub compared : (us d : List ℕ) → 0 < length us → Complete us → trees_in d ≡ some 1 → (b : Bool) → b ≡ begins_with us d → eq_tree (tree_of us) (tree_of d) ≡ b
compared us d h c one b q = begins_tree us c.0 c.1 (some_tree us h c) d one b q

-- ---- a switch with a key

pub low_kind : (w : ℕ) → kind_of w < 26 → has_arms w ≡ false
unfolding has_arms
low_kind w h = ap (λ (b : Bool). b && leb 1 (below_of w)) (lt-leb 26 (kind_of w) h)

pub no_operand : (w : ℕ) → below_of w < 1 → has_arms w ≡ false
unfolding has_arms
no_operand w h = and_not (is_switch (kind_of w)) (leb 1 (below_of w)) (lt-leb 1 (below_of w) h)

arms_so : (w : ℕ) → 26 ≤ kind_of w → 1 ≤ below_of w → has_arms w ≡ true
unfolding has_arms
arms_so w k b = rw (le-leb 26 (kind_of w) k, le-leb 1 (below_of w) b)

pub arms_mean : (w : ℕ) → has_arms w ≡ true → (26 ≤ kind_of w) × (1 ≤ below_of w)
unfolding has_arms
arms_mean w e = go (leb 26 (kind_of w)) (leb 1 (below_of w)) refl refl e
  where
    go : (a b : Bool) → leb 26 (kind_of w) ≡ a → leb 1 (below_of w) ≡ b → (a && b) ≡ true → (26 ≤ kind_of w) × (1 ≤ below_of w)
    go true true ea eb e = (leb-true 26 (kind_of w) ea, leb-true 1 (below_of w) eb)
    go true false ea eb e = absurd (subst T (sym e) tt)
    go false b ea eb e = absurd (subst T (sym e) tt)

pub arms_take : (w : ℕ) → 26 ≤ kind_of w → 1 ≤ below_of w → 1 ≤ takes w
arms_take w k b = omega (arith, operation_takes w (omega arith))

-- ---- the answers

module _ (us d : List ℕ) where
  pub is_target : eq_tree (tree_of us) (tree_of d) ≡ true → part.Target ≡ part_of us d
  unfolding part_of part_answer
  is_target e = rw e

  pub is_node : eq_tree (tree_of us) (tree_of d) ≡ false → has_arms (get_or us 0 0) ≡ false → part.Node ≡ part_of us d
  unfolding part_of part_answer
  is_node e a = rw (e, a)

  is_switched :
      eq_tree (tree_of us) (tree_of d) ≡ false → has_arms (get_or us 0 0) ≡ true → (x y : ℕ) → run_at us 1 ≡ some x → run_at us 0 ≡ some y
      → part.Switch (1 + x) y ≡ part_of us d
  unfolding part_of part_answer
  is_switched e a x y ex ey = rw (e, a, ex, ey)

  module _ (other : eq_tree (tree_of us) (tree_of d) ≡ false) (kind : 26 ≤ kind_of (get_or us 0 0)) (below : 1 ≤ below_of (get_or us 0 0)) where
    pub key_there : 0 < length us → Complete us → None ≡ end_answer 1 (run_at us 1) → ⊥
    key_there h c p = first_not_broken us h c (arms_take (get_or us 0 0) kind below) p

    pub switch_found :
        (e y : ℕ) → Some e ≡ end_answer 1 (run_at us 1) → Some y ≡ end_answer 0 (run_at us 0) → part.Switch e y ≡ part_of us d
    switch_found e y first whole =
        let n : e ≡ 1 + (e - 1) = omega (arith, run_after us 1 e first) in
        let m : y - 0 ≡ y = omega arith in
        ap (λ (k : ℕ). part.Switch k y) n
        ∙ is_switched other (arms_so (get_or us 0 0) kind below) (e - 1) y (run_ends us 1 e first) (run_ends us 0 y whole ∙ ap some m)

-- ---- what an answer says

pub target_means : (us d : List ℕ) → part.Target ≡ part_of us d → eq_tree (tree_of us) (tree_of d) ≡ true
unfolding part_of part_answer
target_means us d q = go (eq_tree (tree_of us) (tree_of d)) (has_arms (get_or us 0 0)) (run_at us 1) (run_at us 0) refl q
  where
    go : (b a : Bool) (o p : Option ℕ) → eq_tree (tree_of us) (tree_of d) ≡ b → part.Target ≡ part_answer b a o p → eq_tree (tree_of us) (tree_of d) ≡ true
    go true a o p eb q = eb
    go false true (some x) (some y) eb q = absurd (let z : ◌≡◌ {A = ℕ} 0 1 = cc in omega arith)
    go false true (some x) none eb q = absurd (let z : ◌≡◌ {A = ℕ} 0 1 = cc in omega arith)
    go false true none p eb q = absurd (let z : ◌≡◌ {A = ℕ} 0 1 = cc in omega arith)
    go false false o p eb q = absurd (let z : ◌≡◌ {A = ℕ} 0 1 = cc in omega arith)

pub record Found (us d : List ℕ) (e y : ℕ) : Type 0 where
  pub other : eq_tree (tree_of us) (tree_of d) ≡ false
  pub arms : has_arms (get_or us 0 0) ≡ true
  pub start : 1 ≤ e
  pub first : words_of (drop 1 us) 1 ≡ some (e - 1)
  pub whole : words_of us 1 ≡ some y

pub switch_means : (us d : List ℕ) (e y : ℕ) → part.Switch e y ≡ part_of us d → Found us d e y
unfolding part_of part_answer run_at
switch_means us d e y q = go (eq_tree (tree_of us) (tree_of d)) (has_arms (get_or us 0 0)) (words_of (drop 1 us) 1) (words_of us 1) refl refl refl refl q
  where
    go : (b a : Bool) (o p : Option ℕ) → eq_tree (tree_of us) (tree_of d) ≡ b → has_arms (get_or us 0 0) ≡ a → words_of (drop 1 us) 1 ≡ o → words_of us 1 ≡ p
        → part.Switch e y ≡ part_answer b a o p → Found us d e y
    go true a o p eb ea eo ep q = absurd (let z : ◌≡◌ {A = ℕ} 0 1 = cc in omega arith)
    go false true (some x) (some z) eb ea eo ep q =
        let qe : e ≡ 1 + x = cc in
        let qy : y ≡ z = cc in
        let n : x ≡ e - 1 = omega arith in
        record { other = eb; arms = ea; start = omega arith; first = eo ∙ ap some n; whole = ep ∙ ap some (sym qy) }
    go false true (some x) none eb ea eo ep q = absurd (let z : ◌≡◌ {A = ℕ} 0 1 = cc in omega arith)
    go false true none p eb ea eo ep q = absurd (let z : ◌≡◌ {A = ℕ} 0 1 = cc in omega arith)
    go false false o p eb ea eo ep q = absurd (let z : ◌≡◌ {A = ℕ} 0 1 = cc in omega arith)

pub node_means :
    (us d : List ℕ) → 0 < length us → Complete us → part.Node ≡ part_of us d → (eq_tree (tree_of us) (tree_of d) ≡ false) × (has_arms (get_or us 0 0) ≡ false)
node_means us d h c q = go (eq_tree (tree_of us) (tree_of d)) (has_arms (get_or us 0 0)) refl refl
  where
    go : (b a : Bool) → eq_tree (tree_of us) (tree_of d) ≡ b → has_arms (get_or us 0 0) ≡ a → (eq_tree (tree_of us) (tree_of d) ≡ false) × (has_arms (get_or us 0 0) ≡ false)
    go true a eb ea =
        let clash : part.Target ≡ part.Node = is_target us d eb ∙ sym q in
        absurd (let z : ◌≡◌ {A = ℕ} 0 1 = cc in omega arith)
    go false true eb ea =
        let m = arms_mean (get_or us 0 0) ea in
        let x = first_run us h c (arms_take (get_or us 0 0) m.0 m.1) in
        let y = whole_run us h c in
        let clash : part.Switch (1 + x.0) y.0 ≡ part.Node = is_switched us d eb ea x.0 y.0 x.1 y.1 ∙ sym q in
        absurd (let z : ◌≡◌ {A = ℕ} 0 1 = cc in omega arith)
    go false false eb ea = (eb, ea)
