-- Some word of a tree passes a test where some symbol of the tree does, if the test tells symbols alone; and one statement needs another where a symbol that it reads
-- is among the other's names (01, "Order"). Assumes nothing.
use Prim.Native.Nat.{ℕ, ◌<◌}
use native.Mathlib.Omega.{arith}
use mathlib.Core.Path.{◌≡◌, refl, sym, ◌∙◌, ap, ap₂, subst}
use mathlib.Core.Bool.{Bool, true, false, ◌||◌}
use mathlib.Core.List.{List, [], ◌∷◌, ◌++◌}
use lib.Dec.{T, leb, ltb, leb→le, ltb→lt}
use lib.ListN.{length}
use Rattle.spec_tree.specs.Tree.{Name, Tree, Forest, Sym, Const, Op, nil, ◌◂◌, operands, fold, folds, eq_name}
use Rattle.spec_tree.specs.Tokens.{word, constant_code, name_code, tokens, tokens_of, all_tokens, kind_of}
use Rattle.spec_tree.proofs.Logic.{and_left, and_right, or_assoc, same_test}
use Rattle.spec_tree.proofs.TreeLaws.{eq_name_sound, eq_name_refl}
use Rattle.spec_tree.proofs.TokenCode.{fits_word, coded, coded_each, all_coded}
use Rattle.spec_cse.specs.Answer.{concat, symbols, all_symbols, elem}
use Rattle.spec_cse.specs.Order.{meets}
use Rattle.scope_laws.proofs.needs.Marks.{any, any_append}

-- ---- names that pass a test

unfoldable pub any_name : (Name → Bool) → List Name → Bool
any_name t [] = false
any_name t (n ∷ l) = t n || any_name t l

pub any_name_append : (t : Name → Bool) (a b : List Name) → any_name t (a ++ b) ≡ (any_name t a || any_name t b)
unfolding any_name
any_name_append t [] b = refl
any_name_append t (n ∷ a) b = ap (λ (x : Bool). t n || x) (any_name_append t a b) ∙ or_assoc (t n) (any_name t a) (any_name t b)

turned : (a b : Name) → T (eq_name a b) → T (eq_name b a)
turned a b t = subst (λ (x : Name). T (eq_name b x)) (sym (eq_name_sound a b t)) (eq_name_refl b)

pub eq_name_turned : (a b : Name) → eq_name a b ≡ eq_name b a
eq_name_turned a b = same_test (eq_name a b) (eq_name b a) (turned a b) (turned b a)

meets_none : (ns : List Name) → meets ns [] ≡ false
unfolding meets elem
meets_none [] = refl
meets_none (n ∷ ns) = meets_none ns

meets_cons : (ns : List Name) (x : Name) (l : List Name) → meets ns (x ∷ l) ≡ (elem x ns || meets ns l)
unfolding meets elem
meets_cons [] x l = refl
meets_cons (n ∷ ns) x l =
    ap₂ (λ (a c : Bool). elim (elim a as (λ _. Bool) [ true ↦ true | false ↦ elem n l ]) as (λ _. Bool) [ true ↦ true | false ↦ c ]) (eq_name_turned x n) (meets_cons ns x l)
    ∙ go (eq_name n x) (elem n l) (elem x ns) (meets ns l)
  where
    or_true : (b : Bool) → true ≡ (b || true)
    or_true true = refl
    or_true false = refl

    go : (a b c d : Bool)
        → ◌≡◌ {A = Bool} (elim (elim a as (λ _. Bool) [ true ↦ true | false ↦ b ]) as (λ _. Bool) [ true ↦ true | false ↦ (c || d) ])
        ((elim a as (λ _. Bool) [ true ↦ true | false ↦ c ]) || (elim b as (λ _. Bool) [ true ↦ true | false ↦ d ]))
    go true b c d = refl
    go false true c d = or_true c
    go false false c d = refl

-- some name of the one list is in the other
pub meets_any : (ns l : List Name) → meets ns l ≡ any_name (λ n. elem n ns) l
unfolding any_name
meets_any ns [] = meets_none ns
meets_any ns (x ∷ l) = meets_cons ns x l ∙ ap (λ (b : Bool). elem x ns || b) (meets_any ns l)

pub any_name_same : (s t : Name → Bool) → ((n : Name) → s n ≡ t n) → (l : List Name) → any_name s l ≡ any_name t l
unfolding any_name
any_name_same s t f [] = refl
any_name_same s t f (n ∷ l) = ap₂ ◌||◌ (f n) (any_name_same s t f l)

-- ---- a tree's words

symbols_each : Forest → List Name
symbols_each f = concat (folds (λ n. n ∷ []) (λ c. []) (λ k l. concat l) f)

module _ (number : List ℕ → ℕ) (known : List ℕ → Bool) (p : ℕ → Bool) (t : Name → Bool) (symbol : (n : Name) → p (word 0 (name_code number n)) ≡ t n)
    (other : (w : ℕ) → 0 < kind_of w → p w ≡ false) where
  mutual
    unfolding tokens coded any any_name symbols fold symbols_each

    pub any_tree : (e : Tree) → T (coded known e) → any p (tokens number e) ≡ any_name t (symbols e)
    any_tree (Sym n) h = ap (λ (b : Bool). b || false) (symbol n)
    any_tree (Const c) h = ap (λ (b : Bool). b || false) (other (word 1 (constant_code c)) (omega arith))
    any_tree (Op k f) h =
        let fit = and_left (fits_word k) (coded_each known f) h in
        let low = leb→le 2 k (and_left (leb 2 k) (ltb k 64) fit) in
        let high = ltb→lt k 64 (and_right (leb 2 k) (ltb k 64) fit) in
        ap (λ (b : Bool). b || any p (tokens_of number f)) (other (word k (length (operands f))) (omega (arith, low, high)))
        ∙ any_each f (and_right (fits_word k) (coded_each known f) h)

    any_each : (f : Forest) → T (coded_each known f) → any p (tokens_of number f) ≡ any_name t (symbols_each f)
    any_each nil h = refl
    any_each (e ◂ f) h =
        any_append p (tokens number e) (tokens_of number f)
        ∙ (ap₂ ◌||◌ (any_tree e (and_left (coded known e) (coded_each known f) h)) (any_each f (and_right (coded known e) (coded_each known f) h))
        ∙ sym (any_name_append t (symbols e) (symbols_each f)))

  pub any_trees : (l : List Tree) → T (all_coded known l) → any p (all_tokens number l) ≡ any_name t (all_symbols l)
  unfolding all_tokens all_coded all_symbols any any_name
  any_trees [] h = refl
  any_trees (e ∷ l) h =
      any_append p (tokens number e) (all_tokens number l)
      ∙ (ap₂ ◌||◌ (any_tree e (and_left (coded known e) (all_coded known l) h)) (any_trees l (and_right (coded known e) (all_coded known l) h))
      ∙ sym (any_name_append t (symbols e) (all_symbols l)))
