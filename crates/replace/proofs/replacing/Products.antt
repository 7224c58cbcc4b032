-- A rebuilt product as words, and the room that it takes. Assumes nothing.
use Rattle.std.proofs.Common.{◌≡◌, ℕ, zero, suc, ◌+◌, ◌*◌, ◌<◌, ◌≤◌, Bool, true, false, T, eqb, List, [], ◌∷◌, ◌++◌, length, ℤ, pos, negsuc, sym, refl, ap, ◌∙◌, ap₂, append_assoc, append-nil, arith, length-append, eq-eqb, ne_eqb, eqb-true}
use mathlib.Core.Option.{Option, none, some}
use borrow.Author.Tests.{eqb-false}
use Rattle.spec_tree.specs.Outcome.{ok}
use Rattle.spec_tree.specs.Tree.{Name, Tree, Forest, Sym, Const, Op, nil, ◌◂◌, eq_int}
use Rattle.spec_tree.specs.Kinds.{Neg, Mul}
use Rattle.spec_tree.specs.Facts.{size}
use Rattle.spec_tree.specs.Tokens.{constant_code, tokens, all_tokens}
use Rattle.spec_tree.proofs.Formed.{well_formed}
use Rattle.spec_tree.proofs.FactLaws.{size_one}
use Rattle.spec_tree.proofs.TokenCode.{all_tokens_append, all_tokens_cons}
use Rattle.spec_rewrite.specs.Rewrite.{flatten_mul_factors, constant_of, nested_product, with_coefficient, built, remove_each}
use Rattle.spec_rewrite.proofs.Measure.{sum_of, sum_each, sum_append, sizes, size_op, by_size, least_size}
use Rattle.spec_rewrite.proofs.Factors.{factors_of, factors_cases, sum_factors, puts_sum, puts_from}
use Rattle.spec_rewrite.proofs.Products.{with_sign, spread_up, extra, factors_bound, built_of}
use Rattle.spec_rewrite.proofs.Coefficient.{exactly}
use Rattle.words.specs.words.Words.{number}
use Rattle.replace.specs.closed.Closed.{Taken, once_more, take_out, taken}
use Rattle.replace.proofs.closed.Spine.{headed}
use Rattle.replace.specs.replacing.Replacing.{named, repeated, coefficient_words, head_words}

-- ---- words

pub repeated_long : (n w : ℕ) → length (repeated n w) ≡ n
unfolding repeated
repeated_long zero w = refl
repeated_long (suc n) w = ap suc (repeated_long n w)

repeated_in : (n w : ℕ) (l : List ℕ) → repeated n w ++ (w ∷ l) ≡ w ∷ (repeated n w ++ l)
unfolding repeated
repeated_in zero w l = refl
repeated_in (suc n) w l = ap (λ (x : List ℕ). w ∷ x) (repeated_in n w l)

pub repeated_more : (n w : ℕ) → repeated n w ++ (w ∷ []) ≡ repeated (n + 1) w
unfolding repeated
repeated_more n w = repeated_in n w [] ∙ ap (λ (x : List ℕ). w ∷ x) (append-nil (repeated n w)) ∙ ap (λ (k : ℕ). repeated k w) (let z : suc n ≡ n + 1 = omega arith in z)

pub named_words : (n : Name) (name k : ℕ) → tokens number (Sym n) ≡ name ∷ [] → all_tokens number (named n k) ≡ repeated k name
unfolding named repeated all_tokens
named_words n name zero e = refl
named_words n name (suc k) e = ap₂ (λ (a b : List ℕ). a ++ b) e (named_words n name k e)

pub named_long : (n : Name) (k : ℕ) → length (named n k) ≡ k
unfolding named
named_long n zero = refl
named_long n (suc k) = ap suc (named_long n k)

product_tokens : (t f : Tree) → tokens number (Op Mul (t ◂ f ◂ nil)) ≡ 133 ∷ (tokens number t ++ tokens number f)
unfolding tokens
product_tokens t f = ap (λ (l : List ℕ). 133 ∷ (tokens number t ++ l)) (append-nil (tokens number f))

nested_tokens : (t : Tree) (l : List Tree) → tokens number (nested_product t l) ≡ repeated (length l) 133 ++ (tokens number t ++ all_tokens number l)
unfolding nested_product repeated all_tokens
nested_tokens t [] = sym (append-nil (tokens number t))
nested_tokens t (f ∷ l) =
    nested_tokens (Op Mul (t ◂ f ◂ nil)) l
    ∙ ap (λ (x : List ℕ). repeated (length l) 133 ++ (x ++ all_tokens number l)) (product_tokens t f)
    ∙ repeated_in (length l) 133 ((tokens number t ++ tokens number f) ++ all_tokens number l)
    ∙ ap (λ (x : List ℕ). 133 ∷ (repeated (length l) 133 ++ x)) (append_assoc (tokens number t) (tokens number f) (all_tokens number l))

minus_tokens : (t : Tree) → tokens number (Op Neg (t ◂ nil)) ≡ 66 ∷ tokens number t
unfolding tokens
minus_tokens t = ap (λ (l : List ℕ). 66 ∷ l) (append-nil (tokens number t))

constant_tokens : (c : ℤ) (t : Tree) → tokens number (Op Mul (Const c ◂ t ◂ nil)) ≡ 133 ∷ (1 + 64 * constant_code c) ∷ tokens number t
unfolding tokens
constant_tokens c t = ap (λ (l : List ℕ). 133 ∷ (1 + 64 * constant_code c) ∷ l) (append-nil (tokens number t))

-- a coefficient by its code is the coefficient itself
code_one : (c : ℤ) → eqb (constant_code c) 2 ≡ eq_int c (pos 1)
unfolding constant_code eq_int
code_one (pos n) = go n
  where
    go : (n : ℕ) → eqb (2 * n) 2 ≡ eqb n 1
    go n = by (eqb n 1) refl
      where
        by : (b : Bool) → eqb n 1 ≡ b → eqb (2 * n) 2 ≡ b
        by true e = eq-eqb (2 * n) 2 (let x = eqb-true n 1 e in omega arith)
        by false e = ne_eqb (2 * n) 2 (λ x. eqb-false n 1 e (omega arith))
code_one (negsuc n) = ne_eqb (1 + 2 * n) 2 (λ e. omega arith)

code_minus : (c : ℤ) → eqb (constant_code c) 1 ≡ eq_int c (negsuc 0)
unfolding constant_code eq_int
code_minus (pos n) = ne_eqb (2 * n) 1 (λ e. omega arith)
code_minus (negsuc n) = by (eqb n 0) refl
  where
    by : (b : Bool) → eqb n 0 ≡ b → eqb (1 + 2 * n) 1 ≡ b
    by true e = eq-eqb (1 + 2 * n) 1 (let x = eqb-true n 0 e in omega arith)
    by false e = ne_eqb (1 + 2 * n) 1 (λ x. eqb-false n 0 e (omega arith))

headed_tokens :
    (c : ℤ) (t : Tree) (b d : Bool)
    → tokens number (headed b d c t) ≡ elim b as (λ _. List ℕ) [ true ↦ [] | false ↦ elim d [ true ↦ 66 ∷ [] | false ↦ 133 ∷ (1 + 64 * constant_code c) ∷ [] ] ] ++ tokens number t
headed_tokens c t true d = refl
headed_tokens c t false true = minus_tokens t
headed_tokens c t false false = constant_tokens c t

pub built_tokens :
    (c : ℤ) (t : Tree) (l : List Tree) → tokens number (built c (t ∷ l)) ≡ head_words (constant_code c) (length l) ++ all_tokens number (t ∷ l)
unfolding built with_coefficient head_words coefficient_words
built_tokens c t l =
    headed_tokens c (nested_product t l) (eq_int c (pos 1)) (eq_int c (negsuc 0))
    ∙ ap₂ (λ (b d : Bool). elim b as (λ _. List ℕ) [ true ↦ [] | false ↦ elim d [ true ↦ 66 ∷ [] | false ↦ 133 ∷ (1 + 64 * constant_code c) ∷ [] ] ] ++ tokens number (nested_product t l))
    (sym (code_one c)) (sym (code_minus c))
    ∙ ap (λ (x : List ℕ). coefficient_words (constant_code c) ++ x) (nested_tokens t l ∙ ap (λ (x : List ℕ). repeated (length l) 133 ++ x) (sym (all_tokens_cons number t l)))
    ∙ sym (append_assoc (coefficient_words (constant_code c)) (repeated (length l) 133) (all_tokens number (t ∷ l)))

-- with names at its end
pub product_words :
    (c : ℤ) (n : Name) (name k : ℕ) (l : List Tree) → tokens number (Sym n) ≡ name ∷ []
    → tokens number (built c (l ++ named n (suc k))) ≡ head_words (constant_code c) (length l + k) ++ (all_tokens number l ++ repeated (suc k) name)
unfolding named all_tokens
product_words c n name k [] e =
    built_tokens c (Sym n) (named n k)
    ∙ ap₂ (λ (i : ℕ) (x : List ℕ). head_words (constant_code c) i ++ x) (named_long n k ∙ (let z : k ≡ 0 + k = omega arith in z)) (opened ∙ named_words n name (suc k) e)
  where
    opened : all_tokens number (Sym n ∷ named n k) ≡ all_tokens number (named n (suc k))
    opened = (unfold named in refl)
product_words c n name k (t ∷ l) e =
    built_tokens c t (l ++ named n (suc k))
    ∙ ap₂ (λ (i : ℕ) (x : List ℕ). head_words (constant_code c) i ++ x)
    (length-append l (named n (suc k)) ∙ (let z = named_long n (suc k) in let y : length l + length (named n (suc k)) ≡ suc (length l) + k = omega arith in y))
    (all_tokens_append number (t ∷ l) (named n (suc k)) ∙ ap (λ (x : List ℕ). all_tokens number (t ∷ l) ++ x) (named_words n name (suc k) e))

-- ---- room

-- taking out lets no sum grow that the name adds less to than the target's factors
pub taken_sum : (μ : Tree → ℕ) (n : Name) (most : ℕ) (ts l : List Tree) → μ (Sym n) ≤ sum_of μ ts → sum_of μ (take_out most n ts l).factors ≤ sum_of μ l
unfolding take_out once_more sum_of
taken_sum μ n zero ts l h = omega arith
taken_sum μ n (suc most) ts l h = go (λ s. taken_sum μ n most ts (s ++ (Sym n ∷ [])) h) (remove_each ts l) refl
  where
    go : ((s : List Tree) → sum_of μ (take_out most n ts (s ++ (Sym n ∷ []))).factors ≤ sum_of μ (s ++ (Sym n ∷ []))) → (o : Option (List Tree)) → remove_each ts l ≡ o
        → let q : Taken = elim o [ none ↦ record { factors = l; times = 0 } | some s ↦ once_more (take_out most n ts (s ++ (Sym n ∷ []))) ] in sum_of μ q.factors ≤ sum_of μ l
    go i none e = omega arith
    go i (some s) e = (let a = i s in let b = puts_sum μ (puts_from ts l s e) in let c = sum_append μ s (Sym n ∷ []) in omega arith)

-- the factors are smaller than the product together
mutual
  unfolding flatten_mul_factors sum_of sum_each

  factors_size : (e : Tree) → sum_of size (factors_of e) ≤ size e
  factors_size (Sym s) = omega arith
  factors_size (Const c) = omega arith
  factors_size (Op k f) =
      factors_cases (λ l. sum_of size l ≤ size (Op k f)) k f (let a = sum_factors size f in let b = operands_size f in let c = size_op k f in omega arith) (λ e. omega arith)

  operands_size : (f : Forest) → sum_each (λ t. sum_of size (factors_of t)) f ≤ sizes f
  operands_size nil = omega arith
  operands_size (t ◂ f) = (let a = factors_size t in let b = operands_size f in omega arith)

product_size : (f : Forest) → sum_of size (factors_of (Op Mul f)) < size (Op Mul f)
unfolding flatten_mul_factors
product_size f = (let a = sum_factors size f in let b = operands_size f in let c = size_op Mul f in omega arith)

module _ (target : Tree) (n : Name) (some_factor : 1 ≤ length (factors_of target)) (f : Forest) (w : T (well_formed (Op Mul f))) where
  abbrev q : List Tree
  q = (taken n (factors_of target) (factors_of (Op Mul f))).factors

  name_size : size (Sym n) ≡ 1
  unfolding size
  name_size = refl

  factors_up : (l : List Tree) → 1 ≤ length l → size (Sym n) ≤ sum_of size l
  unfolding sum_of
  factors_up [] h = absurd (omega arith)
  factors_up (t ∷ l) h = (let a = size_one t in let b = name_size in omega arith)

  -- the factors then are smaller than the product together
  pub rest_size : sum_of size q < size (Op Mul f)
  unfolding taken
  rest_size =
      (let a = taken_sum size n (2 * length (factors_of (Op Mul f))) (factors_of target) (factors_of (Op Mul f)) (factors_up (factors_of target) some_factor) in let b = product_size f in omega arith)

  -- and so is the product rebuilt from them
  pub built_size : (c : ℤ) → constant_of (flatten_mul_factors (Op Mul f)).coefficient ≡ ok c → 1 ≤ length q → size (built c q) ≤ size (Op Mul f)
  unfolding taken
  built_size c z h =
      (let a = taken_sum (with_sign by_size) n (2 * length (factors_of (Op Mul f))) (factors_of target) (factors_of (Op Mul f)) (spread_up by_size n (least_size n) (factors_of target) some_factor) in
      let b = factors_bound by_size (Op Mul f) w in
      let e = exactly.accepted (Op Mul f) c z in
      let d = built_of by_size c q h in
      let t = ap (extra by_size) e in
      omega arith)
