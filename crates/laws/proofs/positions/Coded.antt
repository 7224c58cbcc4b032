-- Rewriting keeps trees within the code of words (TokenCode's `coded`), so that the words of rewritten trees are read back as these trees. Assumes nothing.
use Prim.Native.Nat.{ℕ, zero, suc, ◌*◌, ◌/◌, ◌%◌}
use native.Mathlib.Omega.{arith}
use mathlib.Core.Path.{◌≡◌, sym, ◌∙◌, ap}
use mathlib.Core.Bool.{Bool, true, false, ◌&&◌}
use mathlib.Core.Option.{Option, none, some}
use mathlib.Core.List.{List, [], ◌∷◌, ◌++◌, map}
use lib.IntN.{ℤ, pos, negsuc}
use lib.ListN.{take, drop}
use lib.Dec.{T, eqb, leb, ltb, le→leb, lt→ltb}
use lib.Ieee as Ieee
use lib.Ieee.{Float}
use Rattle.spec_tree.specs.Bytes.{eq_bytes}
use Rattle.spec_tree.specs.Outcome.{Outcome, ok, refused, ◌>>=◌, each}
use Rattle.spec_tree.specs.Tree.{Name, xname, Tree, Forest, Sym, Const, Op, nil, ◌◂◌, eq_tree, eq_int, forest}
use Rattle.spec_tree.specs.Kinds.{Neg, Mul, Div, is_switch}
use Rattle.spec_tree.specs.Facts.{size}
use Rattle.spec_tree.specs.Tokens.{all_tokens, kind_of, below_of, takes, name_by, read, numbered}
use Rattle.spec_tree.proofs.TreeLaws.{eq_bytes_sound, eq_bytes_refl}
use Rattle.spec_tree.proofs.Logic.{and_left, and_right, and_both}
use Rattle.spec_tree.proofs.TokenLaws.{Word, a_symbol, a_constant, an_operation, word_is, symbol_tree, constant_tree, operation_tree, made, read_cons}
use Rattle.spec_tree.proofs.TokenCode.{fits_word, known_name, coded, coded_each, all_coded, unnumbered, reads_back}
use Rattle.spec_rewrite.specs.Rewrite.{Factors, one, negated, times, flatten_mul_factors, flatten_operands, flatten_after, constant_of, nested_product, with_coefficient, built, build_mul_from_factors, remove_first, remove_each, is_mul, match_factors, each_operand, replace_within, replace, divides_by, replace_divisor, replace_divisors, dividend, replace_outside_arms, replace_operands, replace_key}
use Rattle.laws.proofs.cse.Outcomes.{Good, then_good, good_ok}
use Rattle.laws.specs.positions.Rounds.{extract_on, bind_on}
use Rattle.laws.proofs.positions.Renaming.{Renaming}

module _ (p : List ℕ → Bool) where
  abbrev Fits : Tree → Type 0
  Fits t = T (coded p t)

  abbrev FitsEach : Forest → Type 0
  FitsEach f = T (coded_each p f)

  abbrev FitsAll : List Tree → Type 0
  FitsAll l = T (all_coded p l)

  pub none_fit : FitsAll []
  unfolding all_coded
  none_fit = tt

  pub one_fits : (t : Tree) (l : List Tree) → Fits t → FitsAll l → FitsAll (t ∷ l)
  unfolding all_coded
  one_fits t l g h = and_both (coded p t) (all_coded p l) g h

  pub first_fits : (t : Tree) (l : List Tree) → FitsAll (t ∷ l) → Fits t
  unfolding all_coded
  first_fits t l h = and_left (coded p t) (all_coded p l) h

  pub rest_fits : (t : Tree) (l : List Tree) → FitsAll (t ∷ l) → FitsAll l
  unfolding all_coded
  rest_fits t l h = and_right (coded p t) (all_coded p l) h

  pub append_fits : (a b : List Tree) → FitsAll a → FitsAll b → FitsAll (a ++ b)
  append_fits [] b g h = h
  append_fits (t ∷ a) b g h = one_fits t (a ++ b) (first_fits t a g) (append_fits a b (rest_fits t a g) h)

  operation_fits : (k : ℕ) (f : Forest) → T (fits_word k) → FitsEach f → Fits (Op k f)
  unfolding coded
  operation_fits k f g h = and_both (fits_word k) (coded_each p f) g h

  kind_fits : (k : ℕ) (f : Forest) → Fits (Op k f) → T (fits_word k)
  unfolding coded
  kind_fits k f h = and_left (fits_word k) (coded_each p f) h

  operands_fit : (k : ℕ) (f : Forest) → Fits (Op k f) → FitsEach f
  unfolding coded
  operands_fit k f h = and_right (fits_word k) (coded_each p f) h

  nil_fits : FitsEach nil
  unfolding coded
  nil_fits = tt

  cons_fits : (t : Tree) (f : Forest) → Fits t → FitsEach f → FitsEach (t ◂ f)
  unfolding coded
  cons_fits t f g h = and_both (coded p t) (coded_each p f) g h

  head_fits : (t : Tree) (f : Forest) → FitsEach (t ◂ f) → Fits t
  unfolding coded
  head_fits t f h = and_left (coded p t) (coded_each p f) h

  tail_fits : (t : Tree) (f : Forest) → FitsEach (t ◂ f) → FitsEach f
  unfolding coded
  tail_fits t f h = and_right (coded p t) (coded_each p f) h

  constant_fits : (c : ℤ) → Fits (Const c)
  unfolding coded
  constant_fits c = tt

  symbol_fits : (n : Name) → T (known_name p n) → Fits (Sym n)
  unfolding coded
  symbol_fits n h = h

  -- ---- factors

  factors_step :
      (b c : Bool) (k : ℕ) (f : Forest) (q : Factors) → FitsAll q.factors → Fits (Op k f)
      → FitsAll (elim b as (λ _. Factors) [ true ↦ q | false ↦ elim c [ true ↦ negated q | false ↦ record { coefficient = one; factors = Op k f ∷ [] } ] ]).factors
  unfolding negated
  factors_step true c k f q h w = h
  factors_step false true k f q h w = h
  factors_step false false k f q h w = one_fits (Op k f) [] w none_fit

  mutual
    unfolding flatten_mul_factors times

    factors_fit : (t : Tree) → Fits t → FitsAll (flatten_mul_factors t).factors
    factors_fit (Sym n) h = one_fits (Sym n) [] h none_fit
    factors_fit (Const c) h = none_fit
    factors_fit (Op k f) h = factors_step (eqb k Mul) (eqb k Neg) k f (flatten_operands f) (factors_of_fit f (operands_fit k f h)) h

    factors_of_fit : (f : Forest) → FitsEach f → FitsAll (flatten_operands f).factors
    factors_of_fit nil h = none_fit
    factors_of_fit (t ◂ f) h = factors_after_fit f (flatten_mul_factors t) (tail_fits t f h) (factors_fit t (head_fits t f h))

    factors_after_fit : (f : Forest) (q : Factors) → FitsEach f → FitsAll q.factors → FitsAll (flatten_after f q).factors
    factors_after_fit nil q h g = g
    factors_after_fit (t ◂ f) q h g =
        factors_after_fit f (times q (flatten_mul_factors t)) (tail_fits t f h)
        (append_fits q.factors (flatten_mul_factors t).factors g (factors_fit t (head_fits t f h)))

  product_fits : (t : Tree) (l : List Tree) → Fits t → FitsAll l → Fits (nested_product t l)
  unfolding nested_product
  product_fits t [] g h = g
  product_fits t (f ∷ l) g h =
      product_fits (Op Mul (t ◂ f ◂ nil)) l (operation_fits Mul (t ◂ f ◂ nil) tt (cons_fits t (f ◂ nil) g (cons_fits f nil (first_fits f l h) nil_fits))) (rest_fits f l h)

  coefficient_fits : (b d : Bool) (c : ℤ) (t : Tree) → Fits t → Fits (elim b [ true ↦ t | false ↦ elim d [ true ↦ Op Neg (t ◂ nil) | false ↦ Op Mul (Const c ◂ t ◂ nil) ] ])
  coefficient_fits true d c t h = h
  coefficient_fits false true c t h = operation_fits Neg (t ◂ nil) tt (cons_fits t nil h nil_fits)
  coefficient_fits false false c t h = operation_fits Mul (Const c ◂ t ◂ nil) tt (cons_fits (Const c) (t ◂ nil) (constant_fits c) (cons_fits t nil h nil_fits))

  built_fits : (c : ℤ) (l : List Tree) → FitsAll l → Fits (built c l)
  unfolding built with_coefficient
  built_fits c [] h = constant_fits c
  built_fits c (t ∷ l) h = coefficient_fits (eq_int c (pos 1)) (eq_int c (negsuc 0)) c (nested_product t l) (product_fits t l (first_fits t l h) (rest_fits t l h))

  build_step : (l : List Tree) → FitsAll l → (o : Outcome ℤ) → Good Fits (o >>= λ c. ok (built c l))
  build_step l h (ok c) = good_ok Fits (built c l) (built_fits c l h)
  build_step l h (refused i) = (unfold Good in tt)

  build_fits : (q : Factors) → FitsAll q.factors → Good Fits (build_mul_from_factors q)
  unfolding build_mul_from_factors
  build_fits q h = build_step q.factors h (constant_of q.coefficient)

  -- ---- factors taken out

  abbrev IfSome : {A : Type 0} → (A → Type 0) → Option A → Type 0
  IfSome Q none = Unit {0}
  IfSome Q (some a) = Q a

  first_step :
      (f : Tree) (l : List Tree) → FitsAll (f ∷ l) → (b : Bool) (o : Option (List Tree)) → IfSome FitsAll o
      → IfSome FitsAll (elim b [ true ↦ some l | false ↦ elim o [ none ↦ none | some r ↦ some (f ∷ r) ] ])
  first_step f l h true o k = rest_fits f l h
  first_step f l h false none k = tt
  first_step f l h false (some r) k = one_fits f r (first_fits f l h) k

  first_left : (t : Tree) (l : List Tree) → FitsAll l → IfSome FitsAll (remove_first t l)
  unfolding remove_first
  first_left t [] h = tt
  first_left t (f ∷ l) h = first_step f l h (eq_tree f t) (remove_first t l) (first_left t l (rest_fits f l h))

  each_step : (ts : List Tree) → ((r : List Tree) → FitsAll r → IfSome FitsAll (remove_each ts r)) → (o : Option (List Tree)) → IfSome FitsAll o → IfSome FitsAll (elim o [ none ↦ none | some r ↦ remove_each ts r ])
  each_step ts k none h = tt
  each_step ts k (some r) h = k r h

  each_left : (ts l : List Tree) → FitsAll l → IfSome FitsAll (remove_each ts l)
  unfolding remove_each
  each_left [] l h = h
  each_left (t ∷ ts) l h = each_step ts (λ r k. each_left ts r k) (remove_first t l) (first_left t l h)

  module _ (target : Tree) (n : Name) (name_fits : T (known_name p n)) where
    abbrev FactorsFit : Factors → Type 0
    FactorsFit q = FitsAll q.factors

    match_step :
        (x : Float) (b : Bool) (o : Option (List Tree)) → IfSome FitsAll o
        → IfSome FactorsFit (elim b [ true ↦ elim o [ none ↦ none | some r ↦ some (record { coefficient = x; factors = r ++ (Sym n ∷ []) }) ] | false ↦ none ])
    match_step x true none h = tt
    match_step x true (some r) h = append_fits r (Sym n ∷ []) h (one_fits (Sym n) [] (symbol_fits n name_fits) none_fit)
    match_step x false o h = tt

    match_fits : (e : Tree) → Fits e → IfSome FactorsFit (match_factors target n e)
    unfolding match_factors
    match_fits e h =
        match_step (flatten_mul_factors e).coefficient (is_mul target && Ieee.eq (flatten_mul_factors target).coefficient one)
        (remove_each (flatten_mul_factors target).factors (flatten_mul_factors e).factors)
        (each_left (flatten_mul_factors target).factors (flatten_mul_factors e).factors (factors_fit e h))

    -- ---- replace

    each_fits : (g : Tree → Outcome Tree) → ((t : Tree) → Fits t → Good Fits (g t)) → (f : Forest) → FitsEach f → Good FitsEach (each_operand g f)
    unfolding each_operand
    each_fits g a nil h = good_ok FitsEach nil h
    each_fits g a (t ◂ f) h =
        then_good Fits FitsEach (g t) (a t (head_fits t f h)) (λ u. each_operand g f >>= λ r. ok (u ◂ r))
        (λ u q. then_good FitsEach FitsEach (each_operand g f) (each_fits g a f (tail_fits t f h)) (λ r. ok (u ◂ r)) (λ r z. good_ok FitsEach (u ◂ r) (cons_fits u r q z)))

    leaf_fits : (t : Tree) → Fits t → (b : Bool) → Good Fits (elim b [ true ↦ ok (Sym n) | false ↦ ok t ])
    leaf_fits t h true = good_ok Fits (Sym n) (symbol_fits n name_fits)
    leaf_fits t h false = good_ok Fits t h

    node_fits :
        (k : ℕ) (f : Forest) (g : Tree → Outcome Tree) → ((t : Tree) → Fits t → Good Fits (g t)) → Fits (Op k f) → (b d : Bool) (o : Option Factors) → IfSome FactorsFit o
        → Good Fits
        (elim b [
          | true ↦ ok (Sym n)
          | false ↦ elim d [
            | true ↦ elim o [ none ↦ (each_operand g f >>= λ r. ok (Op k r)) | some q ↦ (build_mul_from_factors q >>= λ t. g t) ]
            | false ↦ (each_operand g f >>= λ r. ok (Op k r))
          ]
        ])
    node_fits k f g a h true d o m = good_ok Fits (Sym n) (symbol_fits n name_fits)
    node_fits k f g a h false true none m =
        then_good FitsEach Fits (each_operand g f) (each_fits g a f (operands_fit k f h)) (λ r. ok (Op k r)) (λ r z. good_ok Fits (Op k r) (operation_fits k r (kind_fits k f h) z))
    node_fits k f g a h false true (some q) m = then_good Fits Fits (build_mul_from_factors q) (build_fits q m) g a
    node_fits k f g a h false false o m =
        then_good FitsEach Fits (each_operand g f) (each_fits g a f (operands_fit k f h)) (λ r. ok (Op k r)) (λ r z. good_ok Fits (Op k r) (operation_fits k r (kind_fits k f h) z))

    within_fits : (fuel : ℕ) (e : Tree) → Fits e → Good Fits (replace_within fuel target n e)
    unfolding replace_within
    within_fits zero e h = good_ok Fits e h
    within_fits (suc fuel) (Sym s) h = leaf_fits (Sym s) h (eq_tree (Sym s) target)
    within_fits (suc fuel) (Const c) h = leaf_fits (Const c) h (eq_tree (Const c) target)
    within_fits (suc fuel) (Op k f) h =
        node_fits k f (λ t. replace_within fuel target n t) (λ t w. within_fits fuel t w) h (eq_tree (Op k f) target) (eqb k Mul) (match_factors target n (Op k f)) (match_fits (Op k f) h)

    pub replace_fits : (e : Tree) → Fits e → Good Fits (replace target n e)
    unfolding replace
    replace_fits e h = within_fits (2 * size e) e h

    pub replace_each_fits : (l : List Tree) → FitsAll l → Good FitsAll (each (λ e. replace target n e) l)
    unfolding each
    replace_each_fits [] h = good_ok FitsAll [] h
    replace_each_fits (t ∷ l) h =
        then_good Fits FitsAll (replace target n t) (replace_fits t (first_fits t l h)) (λ b. each (λ e. replace target n e) l >>= λ r. ok (b ∷ r))
        (λ b q. then_good FitsAll FitsAll (each (λ e. replace target n e) l) (replace_each_fits l (rest_fits t l h)) (λ r. ok (b ∷ r)) (λ r z. good_ok FitsAll (b ∷ r) (one_fits b r q z)))

    -- ---- replace_outside_arms

    outside_step :
        (b d : Bool) (k : ℕ) (r s : Forest) → T (fits_word k) → FitsEach r → FitsEach s → Fits (elim b [ true ↦ Sym n | false ↦ Op k (elim d [ true ↦ r | false ↦ s ]) ])
    outside_step true d k r s w x y = symbol_fits n name_fits
    outside_step false true k r s w x y = operation_fits k r w x
    outside_step false false k r s w x y = operation_fits k s w y

    outside_leaf : (b : Bool) (t : Tree) → Fits t → Fits (elim b [ true ↦ Sym n | false ↦ t ])
    outside_leaf true t h = symbol_fits n name_fits
    outside_leaf false t h = h

    mutual
      unfolding replace_outside_arms

      pub outside_arms_fits : (e : Tree) → Fits e → Fits (replace_outside_arms target n e)
      outside_arms_fits (Sym s) h = outside_leaf (eq_tree (Sym s) target) (Sym s) h
      outside_arms_fits (Const c) h = outside_leaf (eq_tree (Const c) target) (Const c) h
      outside_arms_fits (Op k f) h =
          outside_step (eq_tree (Op k f) target) (is_switch k) k (replace_key target n f) (replace_operands target n f) (kind_fits k f h) (key_fits f (operands_fit k f h))
          (outside_each_fits f (operands_fit k f h))

      outside_each_fits : (f : Forest) → FitsEach f → FitsEach (replace_operands target n f)
      outside_each_fits nil h = h
      outside_each_fits (t ◂ f) h = cons_fits (replace_outside_arms target n t) (replace_operands target n f) (outside_arms_fits t (head_fits t f h)) (outside_each_fits f (tail_fits t f h))

      key_fits : (f : Forest) → FitsEach f → FitsEach (replace_key target n f)
      key_fits nil h = h
      key_fits (t ◂ f) h = cons_fits (replace_outside_arms target n t) f (outside_arms_fits t (head_fits t f h)) (tail_fits t f h)

    -- ---- replace_divisor, by the target

    divisor_step : (b : Bool) (k : ℕ) (r s : Forest) → T (fits_word k) → FitsEach r → FitsEach s → Fits (elim b [ true ↦ Op Mul r | false ↦ Op k s ])
    divisor_step true k r s w x y = operation_fits Mul r tt x
    divisor_step false k r s w x y = operation_fits k s w y

    mutual
      unfolding replace_divisor

      pub divisor_fits : (e : Tree) → Fits e → Fits (replace_divisor target n e)
      divisor_fits (Sym s) h = h
      divisor_fits (Const c) h = h
      divisor_fits (Op k f) h =
          divisor_step (eqb k Div && divides_by target f) k (dividend target n f) (replace_divisors target n f) (kind_fits k f h) (dividend_fits f (operands_fit k f h))
          (divisors_fit f (operands_fit k f h))

      divisors_fit : (f : Forest) → FitsEach f → FitsEach (replace_divisors target n f)
      divisors_fit nil h = h
      divisors_fit (t ◂ f) h = cons_fits (replace_divisor target n t) (replace_divisors target n f) (divisor_fits t (head_fits t f h)) (divisors_fit f (tail_fits t f h))

      dividend_fits : (f : Forest) → FitsEach f → FitsEach (dividend target n f)
      dividend_fits nil h = h
      dividend_fits (t ◂ f) h =
          cons_fits (replace_divisor target n t) (Sym n ◂ nil) (divisor_fits t (head_fits t f h)) (cons_fits (Sym n) nil (symbol_fits n name_fits) nil_fits)

  pub map_fits : (g : Tree → Tree) → ((t : Tree) → Fits t → Fits (g t)) → (l : List Tree) → FitsAll l → FitsAll (map g l)
  map_fits g k [] h = h
  map_fits g k (t ∷ l) h = one_fits (g t) (map g l) (k t (first_fits t l h)) (map_fits g k l (rest_fits t l h))

  made_name_fits : (n : ℕ) → T (known_name p (xname n))
  unfolding known_name
  made_name_fits n = tt

  pub extract_on_fits : (target : Tree) (n : ℕ) (ts : List Tree) → Fits target → FitsAll ts → Good FitsAll (extract_on target n ts)
  unfolding extract_on
  extract_on_fits target n ts g h =
      then_good FitsAll FitsAll (each (λ e. replace target (xname n) e) ts) (replace_each_fits target (xname n) (made_name_fits n) ts h) (λ us. ok (us ++ (target ∷ [])))
      (λ us z. good_ok FitsAll (us ++ (target ∷ [])) (append_fits us (target ∷ []) z (one_fits target [] g none_fit)))

  pub bind_on_fits : (d : Tree) (n : ℕ) (ts : List Tree) → Fits d → FitsAll ts → FitsAll (bind_on d n ts)
  unfolding bind_on
  bind_on_fits d n ts g h =
      append_fits (map (λ e. replace_divisor d (xname n) e) ts) (Op Div (Const (pos 1) ◂ d ◂ nil) ∷ [])
      (map_fits (λ e. replace_divisor d (xname n) e) (λ t k. divisor_fits d (xname n) (made_name_fits n) t k) ts h)
      (one_fits (Op Div (Const (pos 1) ◂ d ◂ nil)) []
      (operation_fits Div (Const (pos 1) ◂ d ◂ nil) tt (cons_fits (Const (pos 1)) (d ◂ nil) (constant_fits (pos 1)) (cons_fits d nil g nil_fits))) none_fit)

  forest_fits : (l : List Tree) → FitsAll l → FitsEach (forest l)
  unfolding forest
  forest_fits [] h = nil_fits
  forest_fits (t ∷ l) h = cons_fits t (forest l) (first_fits t l h) (forest_fits l (rest_fits t l h))

  pub take_fits : (n : ℕ) (l : List Tree) → FitsAll l → FitsAll (take n l)
  take_fits zero l h = none_fit
  take_fits (suc n) [] h = none_fit
  take_fits (suc n) (t ∷ l) h = one_fits t (take n l) (first_fits t l h) (take_fits n l (rest_fits t l h))

  drop_fits : (n : ℕ) (l : List Tree) → FitsAll l → FitsAll (drop n l)
  drop_fits zero l h = h
  drop_fits (suc n) [] h = h
  drop_fits (suc n) (t ∷ l) h = drop_fits n l (rest_fits t l h)

-- ---- trees whose symbols are numbers alone

unfoldable pub is_alone : List ℕ → Bool
unfolding eq_bytes
is_alone s = eq_bytes (numbered (unnumbered s)) s

name_alone : (class n : ℕ) → T (known_name is_alone (name_by numbered class n))
unfolding name_by known_name is_alone
name_alone zero n = eq_bytes_refl (numbered n)
name_alone (suc zero) n = tt
name_alone (suc (suc class)) n = tt

pub made_alone : (w : ℕ) (l : List Tree) → T (all_coded is_alone (take (takes w) l)) → T (coded is_alone (made numbered w l))
made_alone w l h = go (word_is w)
  where
    go : Word w → T (coded is_alone (made numbered w l))
    go (a_symbol k) = rw (symbol_tree numbered w (take (takes w) l) k) (symbol_fits is_alone (name_by numbered (below_of w % 3) (below_of w / 3)) (name_alone (below_of w % 3) (below_of w / 3)))
    go (a_constant k) = rw (constant_tree numbered w (take (takes w) l) k) (constant_fits is_alone _)
    go (an_operation k) =
        rw (operation_tree numbered w (take (takes w) l) k)
        (operation_fits is_alone (kind_of w) (forest (take (takes w) l))
        (and_both (leb 2 (kind_of w)) (ltb (kind_of w) 64) (le→leb 2 (kind_of w) (omega arith)) (lt→ltb (kind_of w) 64 (omega arith)))
        (forest_fits is_alone (take (takes w) l) h))

no_words : T (all_coded is_alone (read numbered []))
unfolding all_coded read
no_words = tt

-- whatever the words, they are read as such trees
pub read_fits : (ws : List ℕ) → T (all_coded is_alone (read numbered ws))
read_fits [] = no_words
read_fits (w ∷ ws) =
    let rs = read numbered ws in
    rw (read_cons numbered w ws)
    (one_fits is_alone (made numbered w rs) (drop (takes w) rs) (made_alone w rs (take_fits is_alone (takes w) rs (read_fits ws))) (drop_fits is_alone (takes w) rs (read_fits ws)))

pub alone_is : (s : List ℕ) → T (is_alone s) → numbered (unnumbered s) ≡ s
unfolding is_alone
alone_is s h = eq_bytes_sound (numbered (unnumbered s)) s h

-- and such trees are read back from their words
pub read_again : (ts : List Tree) → T (all_coded is_alone ts) → read numbered (all_tokens unnumbered ts) ≡ ts
read_again ts h = reads_back unnumbered numbered is_alone alone_is ts h

-- ---- a renaming of numbers

-- Numbers that `good` passes get their names, each another.
abbrev pub by_numbers : (name_at : ℕ → List ℕ) (good : ℕ → Bool) → ((i j : ℕ) → T (good i) → T (good j) → name_at i ≡ name_at j → i ≡ j) → Renaming
by_numbers name_at good apart =
    record {
      number = unnumbered;
      name_at = name_at;
      known = λ s. is_alone s && good (unnumbered s);
      one_to_one = λ s r h g e.
          sym (alone_is s (and_left (is_alone s) (good (unnumbered s)) h))
          ∙ ap numbered (apart (unnumbered s) (unnumbered r) (and_right (is_alone s) (good (unnumbered s)) h) (and_right (is_alone r) (good (unnumbered r)) g) e)
          ∙ alone_is r (and_left (is_alone r) (good (unnumbered r)) g);
    }
