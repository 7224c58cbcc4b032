-- A test of every word, and of one word by its kind. Assumes nothing.
use Rattle.std.proofs.Common.{◌≡◌, ℕ, ◌%◌, ◌/◌, ◌<◌, ◌≤◌, Bool, true, false, cond, ◌&&◌, ◌||◌, T, eqb, ltb, leb, List, [], ◌∷◌, sym, refl, ap, ◌∙◌, arith, le-ltb, eqb-true, le-leb, leb-false, leb-true}
use Rattle.std.specs.List.{list_all}
use borrow.Author.Tests.{lt-leb}
use Rattle.spec_tree.specs.Bytes.{every}
use Rattle.spec_tree.specs.Kinds.{arity_ok}
use Rattle.spec_tree.specs.Tokens.{kind_of, below_of}
use Rattle.spec_tree.proofs.KindLaws.{arity_kind}
use Rattle.node_rows.specs.kinds.Numbers.{kind_number}
use Rattle.replace.specs.replacing.Replacing.{formed_word}

-- ---- a word by its kind

pub leaf_formed : (w : ℕ) → kind_of w ≤ 1 → true ≡ formed_word w
unfolding formed_word
leaf_formed w h = sym (ap (λ (b : Bool). b || arity_ok (kind_of w) (below_of w)) (le-leb (kind_of w) 1 h))

operation_formed : (w : ℕ) → 1 < kind_of w → formed_word w ≡ arity_ok (kind_of w) (below_of w)
unfolding formed_word
operation_formed w h = ap (λ (b : Bool). b || arity_ok (kind_of w) (below_of w)) (lt-leb (kind_of w) 1 h)

pub select_formed : (w : ℕ) → kind_of w ≡ 28 → (b : Bool) → b ≡ arity_ok (kind_number 27 true) (below_of w) → b ≡ formed_word w
select_formed w k b e = e ∙ ap (λ (j : ℕ). arity_ok j (below_of w)) (sym k) ∙ sym (operation_formed w (omega arith))

pub past_formed : (w : ℕ) → 28 < kind_of w → false ≡ formed_word w
past_formed w h = sym (operation_formed w (omega arith) ∙ go (arity_ok (kind_of w) (below_of w)) (arity_kind (kind_of w) (below_of w)))
  where
    go : (b : Bool) → (T b → kind_of w < 29) → b ≡ false
    go true f = (let x = f tt in absurd (omega arith))
    go false f = refl

pub other_formed : (w : ℕ) → 1 < kind_of w → (kind_of w ≡ 28 → ⊥) → kind_of w ≤ 28 → (b : Bool) → b ≡ arity_ok (kind_number (kind_of w) false) (below_of w) → b ≡ formed_word w
other_formed w h n l b e = e ∙ ap (λ (j : ℕ). arity_ok j (below_of w)) (number (kind_of w) n l) ∙ sym (operation_formed w h)
  where
    number : (k : ℕ) → (k ≡ 28 → ⊥) → k ≤ 28 → kind_number k false ≡ k
    number k n l = go (eqb k 27) refl
      where
        less : (k : ℕ) → (k ≡ 28 → ⊥) → k ≤ 28 → k ≤ 27
        less k n l = by (leb k 27) refl
          where
            by : (b : Bool) → leb k 27 ≡ b → k ≤ 27
            by true e = leb-true k 27 e
            by false e = (let x = leb-false k 27 e in absurd (n (omega arith)))

        go : (b : Bool) → eqb k 27 ≡ b → cond b (cond false 28 27) (cond (ltb 27 k) 29 k) ≡ k
        go true e = sym (eqb-true k 27 e)
        go false e = ap (λ (c : Bool). cond c 29 k) (le-ltb 27 k (less k n l))

-- ---- what a word's test is, by its kind

pub formed_leaf : (w : ℕ) → w % 64 ≤ 1 → formed_word w ≡ true
formed_leaf w h = sym (leaf_formed w h)

pub formed_select : (w : ℕ) → w % 64 ≡ 28 → formed_word w ≡ arity_ok (kind_number 27 true) (w / 64)
formed_select w k = sym (select_formed w k _ refl)

pub formed_other : (w : ℕ) → 1 < w % 64 → w % 64 < 28 → formed_word w ≡ arity_ok (kind_number (w % 64) false) (w / 64)
formed_other w h l = sym (other_formed w h (λ e. omega arith) (omega arith) _ refl)

pub formed_past : (w : ℕ) → 28 < w % 64 → formed_word w ≡ false
formed_past w h = sym (past_formed w h)

pub ruleset word_tests = (formed_leaf, formed_select, formed_other, formed_past)

-- ---- the tests together

pub not_first : (a b c : Bool) → false ≡ a → false ≡ (a && (b && c))
not_first a b c e = ap (λ (x : Bool). x && (b && c)) e

pub every_is : (f : ℕ → Bool) (ws : List ℕ) → list_all f ws ≡ every f ws
unfolding every
every_is f [] = refl
every_is f (w ∷ ws) = ap (λ (b : Bool). f w && b) (every_is f ws)
