-- Rewriting keeps trees such as print takes (01, "Turned down", 13): operand counts, constants, and names that pass a test. Assumes nothing.
use Prim.Native.Nat.{ℕ, zero, suc, ◌*◌, ◌/◌, ◌%◌, ◌^◌}
use mathlib.Core.Path.{◌≡◌, refl, ap, subst, sym}
use mathlib.Core.Bool.{Bool, true, false, ◌&&◌}
use mathlib.Core.Option.{Option, none, some}
use mathlib.Core.List.{List, [], ◌∷◌, ◌++◌}
use lib.IntN.{ℤ, pos, negsuc}
use lib.Dec.{T, eqb, ltb}
use lib.Ieee as Ieee
use lib.Ieee.{Float, nan, inf, fin, up, down}
use Rattle.spec_tree.specs.Outcome.{Outcome, ok, refused, ◌>>=◌, each, by}
use Rattle.spec_tree.specs.Tree.{Name, xname, Tree, Forest, Sym, Const, Op, nil, ◌◂◌, eq_tree, eq_int}
use Rattle.spec_tree.specs.Kinds.{Neg, Mul}
use Rattle.spec_tree.specs.Facts.{size}
use Rattle.spec_tree.specs.Passes.{of_paper, operands_ok}
use Rattle.spec_tree.proofs.Formed.{operand_count}
use Rattle.spec_tree.proofs.Logic.{and_left, and_right, and_both}
use Rattle.spec_rewrite.specs.Rewrite.{Factors, one, negated, times, flatten_mul_factors, flatten_operands, flatten_after, whole_number, constant_of, nested_product, with_coefficient, built, build_mul_from_factors, remove_first, remove_each, is_mul, match_factors, each_operand, replace_within, replace}
use Rattle.laws.proofs.cse.Outcomes.{Good, then_good, good_ok}
use Rattle.laws.specs.positions.Rounds.{extract_on}

-- a rebuilt coefficient is a constant of 01
whole_paper : (s : Bool) (n : ℕ) → T (ltb n (10 ^ 15)) → Good (λ (c : ℤ). T (of_paper c)) (whole_number s n)
unfolding whole_number Good of_paper
whole_paper false n h = h
whole_paper true zero h = tt
whole_paper true (suc n) h = h

constant_paper : (x : Float) → Good (λ (c : ℤ). T (of_paper c)) (constant_of x)
unfolding constant_of Good
constant_paper nan = tt
constant_paper (inf s) = tt
constant_paper (fin s m e) = go (eqb (m * up e % down e) 0 && ltb (m * up e / down e) (10 ^ 15)) (λ h. and_right (eqb (m * up e % down e) 0) (ltb (m * up e / down e) (10 ^ 15)) h)
  where
    go : (b : Bool) → (T b → T (ltb (m * up e / down e) (10 ^ 15))) → Good (λ (c : ℤ). T (of_paper c)) (elim b as (λ _. Outcome ℤ) [ true ↦ whole_number s (m * up e / down e) | false ↦ refused (by 10) ])
    go true h = whole_paper s (m * up e / down e) (h tt)
    go false h = (unfold Good in tt)

module _ (p : Name → Bool) where
  unfoldable mutual
    unfolding of_paper operands_ok operand_count

    pub taken : Tree → Bool
    taken (Sym n) = p n
    taken (Const c) = of_paper c
    taken (Op k f) = operands_ok k (operand_count f) && taken_each f

    pub taken_each : Forest → Bool
    taken_each nil = true
    taken_each (t ◂ f) = taken t && taken_each f

  unfoldable pub all_taken : List Tree → Bool
  unfolding taken
  all_taken [] = true
  all_taken (t ∷ l) = taken t && all_taken l

  abbrev Fits : Tree → Type 0
  Fits t = T (taken t)

  abbrev FitsEach : Forest → Type 0
  FitsEach f = T (taken_each f)

  abbrev FitsAll : List Tree → Type 0
  FitsAll l = T (all_taken l)

  pub none_fit : FitsAll []
  unfolding all_taken
  none_fit = tt

  pub one_fits : (t : Tree) (l : List Tree) → Fits t → FitsAll l → FitsAll (t ∷ l)
  unfolding all_taken
  one_fits t l g h = and_both (taken t) (all_taken l) g h

  pub first_fits : (t : Tree) (l : List Tree) → FitsAll (t ∷ l) → Fits t
  unfolding all_taken
  first_fits t l h = and_left (taken t) (all_taken l) h

  pub rest_fits : (t : Tree) (l : List Tree) → FitsAll (t ∷ l) → FitsAll l
  unfolding all_taken
  rest_fits t l h = and_right (taken t) (all_taken l) h

  pub append_fits : (a b : List Tree) → FitsAll a → FitsAll b → FitsAll (a ++ b)
  append_fits [] b g h = h
  append_fits (t ∷ a) b g h = one_fits t (a ++ b) (first_fits t a g) (append_fits a b (rest_fits t a g) h)

  operation_fits : (k : ℕ) (f : Forest) → T (operands_ok k (operand_count f)) → FitsEach f → Fits (Op k f)
  unfolding taken
  operation_fits k f g h = and_both (operands_ok k (operand_count f)) (taken_each f) g h

  kind_fits : (k : ℕ) (f : Forest) → Fits (Op k f) → T (operands_ok k (operand_count f))
  unfolding taken
  kind_fits k f h = and_left (operands_ok k (operand_count f)) (taken_each f) h

  operands_fit : (k : ℕ) (f : Forest) → Fits (Op k f) → FitsEach f
  unfolding taken
  operands_fit k f h = and_right (operands_ok k (operand_count f)) (taken_each f) h

  nil_fits : FitsEach nil
  unfolding taken
  nil_fits = tt

  cons_fits : (t : Tree) (f : Forest) → Fits t → FitsEach f → FitsEach (t ◂ f)
  unfolding taken
  cons_fits t f g h = and_both (taken t) (taken_each f) g h

  head_fits : (t : Tree) (f : Forest) → FitsEach (t ◂ f) → Fits t
  unfolding taken
  head_fits t f h = and_left (taken t) (taken_each f) h

  tail_fits : (t : Tree) (f : Forest) → FitsEach (t ◂ f) → FitsEach f
  unfolding taken
  tail_fits t f h = and_right (taken t) (taken_each f) h

  constant_fits : (c : ℤ) → T (of_paper c) → Fits (Const c)
  unfolding taken
  constant_fits c h = h

  two_operands : (t u : Tree) → T (operands_ok Mul (operand_count (t ◂ u ◂ nil)))
  unfolding operands_ok operand_count
  two_operands t u = tt

  one_operand : (t : Tree) → T (operands_ok Neg (operand_count (t ◂ nil)))
  unfolding operands_ok operand_count
  one_operand t = tt

  symbol_fits : (n : Name) → T (p n) → Fits (Sym n)
  unfolding taken
  symbol_fits n h = h

  -- ---- factors

  factors_step :
      (b c : Bool) (k : ℕ) (f : Forest) (q : Factors) → FitsAll q.factors → Fits (Op k f)
      → FitsAll (elim b as (λ _. Factors) [ true ↦ q | false ↦ elim c [ true ↦ negated q | false ↦ record { coefficient = one; factors = Op k f ∷ [] } ] ]).factors
  unfolding negated
  factors_step true c k f q h w = h
  factors_step false true k f q h w = h
  factors_step false false k f q h w = one_fits (Op k f) [] w none_fit

  mutual
    unfolding flatten_mul_factors times

    factors_fit : (t : Tree) → Fits t → FitsAll (flatten_mul_factors t).factors
    factors_fit (Sym n) h = one_fits (Sym n) [] h none_fit
    factors_fit (Const c) h = none_fit
    factors_fit (Op k f) h = factors_step (eqb k Mul) (eqb k Neg) k f (flatten_operands f) (factors_of_fit f (operands_fit k f h)) h

    factors_of_fit : (f : Forest) → FitsEach f → FitsAll (flatten_operands f).factors
    factors_of_fit nil h = none_fit
    factors_of_fit (t ◂ f) h = factors_after_fit f (flatten_mul_factors t) (tail_fits t f h) (factors_fit t (head_fits t f h))

    factors_after_fit : (f : Forest) (q : Factors) → FitsEach f → FitsAll q.factors → FitsAll (flatten_after f q).factors
    factors_after_fit nil q h g = g
    factors_after_fit (t ◂ f) q h g =
        factors_after_fit f (times q (flatten_mul_factors t)) (tail_fits t f h)
        (append_fits q.factors (flatten_mul_factors t).factors g (factors_fit t (head_fits t f h)))

  product_fits : (t : Tree) (l : List Tree) → Fits t → FitsAll l → Fits (nested_product t l)
  unfolding nested_product
  product_fits t [] g h = g
  product_fits t (f ∷ l) g h =
      product_fits (Op Mul (t ◂ f ◂ nil)) l (operation_fits Mul (t ◂ f ◂ nil) (two_operands t f) (cons_fits t (f ◂ nil) g (cons_fits f nil (first_fits f l h) nil_fits))) (rest_fits f l h)

  coefficient_fits : (b d : Bool) (c : ℤ) (t : Tree) → T (of_paper c) → Fits t → Fits (elim b [ true ↦ t | false ↦ elim d [ true ↦ Op Neg (t ◂ nil) | false ↦ Op Mul (Const c ◂ t ◂ nil) ] ])
  coefficient_fits true d c t g h = h
  coefficient_fits false true c t g h = operation_fits Neg (t ◂ nil) (one_operand t) (cons_fits t nil h nil_fits)
  coefficient_fits false false c t g h = operation_fits Mul (Const c ◂ t ◂ nil) (two_operands (Const c) t) (cons_fits (Const c) (t ◂ nil) (constant_fits c g) (cons_fits t nil h nil_fits))

  built_fits : (c : ℤ) → T (of_paper c) → (l : List Tree) → FitsAll l → Fits (built c l)
  unfolding built with_coefficient
  built_fits c g [] h = constant_fits c g
  built_fits c g (t ∷ l) h = coefficient_fits (eq_int c (pos 1)) (eq_int c (negsuc 0)) c (nested_product t l) g (product_fits t l (first_fits t l h) (rest_fits t l h))

  build_fits : (q : Factors) → FitsAll q.factors → Good Fits (build_mul_from_factors q)
  unfolding build_mul_from_factors
  build_fits q h =
      then_good (λ (c : ℤ). T (of_paper c)) Fits (constant_of q.coefficient) (constant_paper q.coefficient) (λ c. ok (built c q.factors))
      (λ c g. good_ok Fits (built c q.factors) (built_fits c g q.factors h))

  -- ---- factors taken out

  abbrev IfSome : {A : Type 0} → (A → Type 0) → Option A → Type 0
  IfSome Q none = Unit {0}
  IfSome Q (some a) = Q a

  first_step :
      (f : Tree) (l : List Tree) → FitsAll (f ∷ l) → (b : Bool) (o : Option (List Tree)) → IfSome FitsAll o
      → IfSome FitsAll (elim b [ true ↦ some l | false ↦ elim o [ none ↦ none | some r ↦ some (f ∷ r) ] ])
  first_step f l h true o k = rest_fits f l h
  first_step f l h false none k = tt
  first_step f l h false (some r) k = one_fits f r (first_fits f l h) k

  first_left : (t : Tree) (l : List Tree) → FitsAll l → IfSome FitsAll (remove_first t l)
  unfolding remove_first
  first_left t [] h = tt
  first_left t (f ∷ l) h = first_step f l h (eq_tree f t) (remove_first t l) (first_left t l (rest_fits f l h))

  each_step : (ts : List Tree) → ((r : List Tree) → FitsAll r → IfSome FitsAll (remove_each ts r)) → (o : Option (List Tree)) → IfSome FitsAll o → IfSome FitsAll (elim o [ none ↦ none | some r ↦ remove_each ts r ])
  each_step ts k none h = tt
  each_step ts k (some r) h = k r h

  each_left : (ts l : List Tree) → FitsAll l → IfSome FitsAll (remove_each ts l)
  unfolding remove_each
  each_left [] l h = h
  each_left (t ∷ ts) l h = each_step ts (λ r k. each_left ts r k) (remove_first t l) (first_left t l h)

  module _ (target : Tree) (n : Name) (name_fits : T (p n)) where
    abbrev FactorsFit : Factors → Type 0
    FactorsFit q = FitsAll q.factors

    match_step :
        (x : Float) (b : Bool) (o : Option (List Tree)) → IfSome FitsAll o
        → IfSome FactorsFit (elim b [ true ↦ elim o [ none ↦ none | some r ↦ some (record { coefficient = x; factors = r ++ (Sym n ∷ []) }) ] | false ↦ none ])
    match_step x true none h = tt
    match_step x true (some r) h = append_fits r (Sym n ∷ []) h (one_fits (Sym n) [] (symbol_fits n name_fits) none_fit)
    match_step x false o h = tt

    match_fits : (e : Tree) → Fits e → IfSome FactorsFit (match_factors target n e)
    unfolding match_factors
    match_fits e h =
        match_step (flatten_mul_factors e).coefficient (is_mul target && Ieee.eq (flatten_mul_factors target).coefficient one)
        (remove_each (flatten_mul_factors target).factors (flatten_mul_factors e).factors)
        (each_left (flatten_mul_factors target).factors (flatten_mul_factors e).factors (factors_fit e h))

    -- ---- replace

    -- as many operands, each of which fits
    abbrev Same : Forest → Forest → Type 0
    Same f r = FitsEach r × (operand_count r ≡ operand_count f)

    each_fits : (g : Tree → Outcome Tree) → ((t : Tree) → Fits t → Good Fits (g t)) → (f : Forest) → FitsEach f → Good (Same f) (each_operand g f)
    unfolding each_operand operand_count
    each_fits g a nil h = good_ok (Same nil) nil (h, refl)
    each_fits g a (t ◂ f) h =
        then_good Fits (Same (t ◂ f)) (g t) (a t (head_fits t f h)) (λ u. each_operand g f >>= λ r. ok (u ◂ r))
        (λ u q. then_good (Same f) (Same (t ◂ f)) (each_operand g f) (each_fits g a f (tail_fits t f h)) (λ r. ok (u ◂ r))
        (λ r z. good_ok (Same (t ◂ f)) (u ◂ r) (cons_fits u r q z.0, ap suc z.1)))

    same_node : (k : ℕ) (f : Forest) → Fits (Op k f) → (r : Forest) → Same f r → Fits (Op k r)
    same_node k f h r z = operation_fits k r (subst (λ (n : ℕ). T (operands_ok k n)) (sym z.1) (kind_fits k f h)) z.0

    leaf_fits : (t : Tree) → Fits t → (b : Bool) → Good Fits (elim b [ true ↦ ok (Sym n) | false ↦ ok t ])
    leaf_fits t h true = good_ok Fits (Sym n) (symbol_fits n name_fits)
    leaf_fits t h false = good_ok Fits t h

    node_fits :
        (k : ℕ) (f : Forest) (g : Tree → Outcome Tree) → ((t : Tree) → Fits t → Good Fits (g t)) → Fits (Op k f) → (b d : Bool) (o : Option Factors) → IfSome FactorsFit o
        → Good Fits
        (elim b [
          | true ↦ ok (Sym n)
          | false ↦ elim d [
            | true ↦ elim o [ none ↦ (each_operand g f >>= λ r. ok (Op k r)) | some q ↦ (build_mul_from_factors q >>= λ t. g t) ]
            | false ↦ (each_operand g f >>= λ r. ok (Op k r))
          ]
        ])
    node_fits k f g a h true d o m = good_ok Fits (Sym n) (symbol_fits n name_fits)
    node_fits k f g a h false true none m =
        then_good (Same f) Fits (each_operand g f) (each_fits g a f (operands_fit k f h)) (λ r. ok (Op k r)) (λ r z. good_ok Fits (Op k r) (same_node k f h r z))
    node_fits k f g a h false true (some q) m = then_good Fits Fits (build_mul_from_factors q) (build_fits q m) g a
    node_fits k f g a h false false o m =
        then_good (Same f) Fits (each_operand g f) (each_fits g a f (operands_fit k f h)) (λ r. ok (Op k r)) (λ r z. good_ok Fits (Op k r) (same_node k f h r z))

    within_fits : (fuel : ℕ) (e : Tree) → Fits e → Good Fits (replace_within fuel target n e)
    unfolding replace_within
    within_fits zero e h = good_ok Fits e h
    within_fits (suc fuel) (Sym s) h = leaf_fits (Sym s) h (eq_tree (Sym s) target)
    within_fits (suc fuel) (Const c) h = leaf_fits (Const c) h (eq_tree (Const c) target)
    within_fits (suc fuel) (Op k f) h =
        node_fits k f (λ t. replace_within fuel target n t) (λ t w. within_fits fuel t w) h (eq_tree (Op k f) target) (eqb k Mul) (match_factors target n (Op k f)) (match_fits (Op k f) h)

    pub replace_fits : (e : Tree) → Fits e → Good Fits (replace target n e)
    unfolding replace
    replace_fits e h = within_fits (2 * size e) e h

    pub replace_each_fits : (l : List Tree) → FitsAll l → Good FitsAll (each (λ e. replace target n e) l)
    unfolding each
    replace_each_fits [] h = good_ok FitsAll [] h
    replace_each_fits (t ∷ l) h =
        then_good Fits FitsAll (replace target n t) (replace_fits t (first_fits t l h)) (λ b. each (λ e. replace target n e) l >>= λ r. ok (b ∷ r))
        (λ b q. then_good FitsAll FitsAll (each (λ e. replace target n e) l) (replace_each_fits l (rest_fits t l h)) (λ r. ok (b ∷ r)) (λ r z. good_ok FitsAll (b ∷ r) (one_fits b r q z)))

  pub extract_on_taken : (target : Tree) (n : ℕ) (ts : List Tree) → T (p (xname n)) → Fits target → FitsAll ts → Good FitsAll (extract_on target n ts)
  unfolding extract_on
  extract_on_taken target n ts x g h =
      then_good FitsAll FitsAll (each (λ e. replace target (xname n) e) ts) (replace_each_fits target (xname n) x ts h) (λ us. ok (us ++ (target ∷ [])))
      (λ us z. good_ok FitsAll (us ++ (target ∷ [])) (append_fits us (target ∷ []) z (one_fits target [] g none_fit)))
