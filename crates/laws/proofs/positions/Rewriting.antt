-- `replace`, `replace_divisor` and `replace_outside_arms` under other names of the list's symbols: what they give is the renamed tree, and it is known. The name
-- that is put in is one that both trees have alike. Assumes nothing.
use Prim.Native.Nat.{ℕ, zero, suc, ◌*◌}
use mathlib.Core.Path.{◌≡◌, refl, sym, ◌∙◌, ap, ap₂, subst}
use mathlib.Core.Bool.{Bool, true, false, ◌&&◌}
use mathlib.Core.Option.{Option, none, some}
use mathlib.Core.List.{List, [], ◌∷◌, ◌++◌, map}
use lib.IntN.{ℤ, pos, negsuc}
use lib.Dec.{T, eqb}
use lib.Ieee as Ieee
use lib.Ieee.{Float}
use Rattle.spec_tree.specs.Outcome.{Outcome, ok, refused, ◌>>=◌}
use Rattle.spec_tree.specs.Tree.{Name, Tree, Forest, Sym, Const, Op, nil, ◌◂◌, eq_tree, eq_int}
use Rattle.spec_tree.specs.Kinds.{Neg, Mul, Div, is_switch}
use Rattle.spec_tree.specs.Facts.{size}
use Rattle.spec_tree.proofs.Logic.{and_left, and_right, and_both}
use Rattle.spec_tree.proofs.TokenLaws.{map_append}
use Rattle.spec_tree.proofs.TokenCode.{renamed as RenamedBy}
use Rattle.spec_rewrite.specs.Rewrite.{Factors, one, negated, times, flatten_mul_factors, flatten_operands, flatten_after, constant_of, nested_product, with_coefficient, built, build_mul_from_factors, remove_first, remove_each, is_mul, match_factors, each_operand, replace_within, replace, divides_by, replace_divisor, replace_divisors, dividend, replace_outside_arms, replace_operands, replace_key}
use Rattle.spec_rewrite.proofs.Names.{holds, holds_each, holds_append, divisor_holds}
use Rattle.laws.proofs.cse.Outcomes.{Good, then_good}
use Rattle.laws.proofs.positions.Renaming.{Renaming, named, renamed, renamed_each, is_known, Known, KnownEach, KnownAll, first_known, rest_known, both_known, none_known, size_renamed, eq_tree_renamed}

-- ---- two steps agree: what the first gives has a property, and the second gives what it is sent to, or the same refusal

abbrev pub Agree : {A B : Type 0} → (A → Type 0) → (A → B) → Outcome A → Outcome B → Type 0
Agree Q f o u = Good Q o × (u ≡ (o >>= λ a. ok (f a)))

pub agree_ok : {A B : Type 0} (Q : A → Type 0) (f : A → B) (a : A) → Q a → Agree Q f (ok a) (ok (f a))
unfolding Good
agree_ok Q f a h = (h, refl)

pub then_agree :
    {A B C D : Type 0} (Q : A → Type 0) (f : A → B) (S : C → Type 0) (g : C → D) (o : Outcome A) (u : Outcome B) → Agree Q f o u
    → (k : A → Outcome C) (l : B → Outcome D) → ((a : A) → Q a → Agree S g (k a) (l (f a)))
    → Agree S g (o >>= k) (u >>= l)
unfolding Good
then_agree {A} {B} {C} {D} Q f S g o u h k l e = (then_good Q S o h.0 k (λ a q. (e a q).0), ap (λ (v : Outcome B). v >>= l) h.1 ∙ go o h.0)
  where
    go : (o : Outcome A) → Good Q o → ((o >>= λ a. ok (f a)) >>= l) ≡ ((o >>= k) >>= λ c. ok (g c))
    go (ok a) q = (e a q).1
    go (refused i) q = refl

-- the same where there may be nothing
abbrev pub AgreeIf : {A B : Type 0} → (A → Type 0) → (A → B) → Option A → Option B → Type 0
AgreeIf Q f none none = Unit {0}
AgreeIf Q f none (some b) = ⊥
AgreeIf Q f (some a) none = ⊥
AgreeIf Q f (some a) (some b) = Q a × (f a ≡ b)

module _ (R : Renaming) where
  -- ---- the factors of a product

  abbrev pub renamed_factors : Factors → Factors
  renamed_factors p = record { coefficient = p.coefficient; factors = map (renamed R) p.factors }

  abbrev pub KnownFactors : Factors → Type 0
  KnownFactors p = KnownAll R p.factors

  times_renamed : (p q : Factors) → times (renamed_factors p) (renamed_factors q) ≡ renamed_factors (times p q)
  unfolding times
  times_renamed p q =
      ap (λ (l : List Tree). record { coefficient = Ieee.mul Ieee.binary64 p.coefficient q.coefficient; factors = l }) (sym (map_append (renamed R) p.factors q.factors))

  flatten_step :
      (b c : Bool) (k : ℕ) (f : Forest) (p q : Factors) → p ≡ renamed_factors q
      → ◌≡◌ {A = Factors} (elim b [ true ↦ p | false ↦ elim c [ true ↦ negated p | false ↦ record { coefficient = one; factors = Op k (renamed_each R f) ∷ [] } ] ])
      (renamed_factors (elim b [ true ↦ q | false ↦ elim c [ true ↦ negated q | false ↦ record { coefficient = one; factors = Op k f ∷ [] } ] ]))
  unfolding negated RenamedBy
  flatten_step true c k f p q e = e
  flatten_step false true k f p q e = ap negated e
  flatten_step false false k f p q e = refl

  mutual
    unfolding flatten_mul_factors RenamedBy

    pub flatten_renamed : (t : Tree) → flatten_mul_factors (renamed R t) ≡ renamed_factors (flatten_mul_factors t)
    flatten_renamed (Sym n) = refl
    flatten_renamed (Const c) = refl
    flatten_renamed (Op k f) = flatten_step (eqb k Mul) (eqb k Neg) k f (flatten_operands (renamed_each R f)) (flatten_operands f) (flatten_operands_renamed f)

    flatten_operands_renamed : (f : Forest) → flatten_operands (renamed_each R f) ≡ renamed_factors (flatten_operands f)
    flatten_operands_renamed nil = refl
    flatten_operands_renamed (t ◂ f) = flatten_after_renamed f (flatten_mul_factors (renamed R t)) (flatten_mul_factors t) (flatten_renamed t)

    flatten_after_renamed : (f : Forest) (p q : Factors) → p ≡ renamed_factors q → flatten_after (renamed_each R f) p ≡ renamed_factors (flatten_after f q)
    flatten_after_renamed nil p q e = e
    flatten_after_renamed (t ◂ f) p q e =
        flatten_after_renamed f (times p (flatten_mul_factors (renamed R t))) (times q (flatten_mul_factors t))
        (ap₂ times e (flatten_renamed t) ∙ times_renamed q (flatten_mul_factors t))

  flatten_known_step :
      (b c : Bool) (k : ℕ) (f : Forest) (q : Factors) → KnownFactors q → Known R (Op k f)
      → KnownFactors (elim b [ true ↦ q | false ↦ elim c [ true ↦ negated q | false ↦ record { coefficient = one; factors = Op k f ∷ [] } ] ])
  unfolding negated
  flatten_known_step true c k f q h w = h
  flatten_known_step false true k f q h w = h
  flatten_known_step false false k f q h w = both_known R (Op k f) [] w (none_known R)

  mutual
    unfolding flatten_mul_factors times holds

    pub flatten_known : (t : Tree) → Known R t → KnownFactors (flatten_mul_factors t)
    flatten_known (Sym n) h = both_known R (Sym n) [] h (none_known R)
    flatten_known (Const c) h = none_known R
    flatten_known (Op k f) h = flatten_known_step (eqb k Mul) (eqb k Neg) k f (flatten_operands f) (flatten_operands_known f h) h

    flatten_operands_known : (f : Forest) → KnownEach R f → KnownFactors (flatten_operands f)
    flatten_operands_known nil h = none_known R
    flatten_operands_known (t ◂ f) h =
        flatten_after_known f (flatten_mul_factors t) (and_right (holds (is_known R) t) (holds_each (is_known R) f) h)
        (flatten_known t (and_left (holds (is_known R) t) (holds_each (is_known R) f) h))

    flatten_after_known : (f : Forest) (q : Factors) → KnownEach R f → KnownFactors q → KnownFactors (flatten_after f q)
    flatten_after_known nil q h g = g
    flatten_after_known (t ◂ f) q h g =
        flatten_after_known f (times q (flatten_mul_factors t)) (and_right (holds (is_known R) t) (holds_each (is_known R) f) h)
        (holds_append (is_known R) q.factors (flatten_mul_factors t).factors g (flatten_known t (and_left (holds (is_known R) t) (holds_each (is_known R) f) h)))

  -- ---- the product built from factors

  product_renamed : (t : Tree) (l : List Tree) → nested_product (renamed R t) (map (renamed R) l) ≡ renamed R (nested_product t l)
  unfolding nested_product RenamedBy
  product_renamed t [] = refl
  product_renamed t (f ∷ l) = product_renamed (Op Mul (t ◂ f ◂ nil)) l

  coefficient_step :
      (b d : Bool) (c : ℤ) (t u : Tree) → u ≡ renamed R t
      → ◌≡◌ {A = Tree} (elim b [ true ↦ u | false ↦ elim d [ true ↦ Op Neg (u ◂ nil) | false ↦ Op Mul (Const c ◂ u ◂ nil) ] ])
      (renamed R (elim b [ true ↦ t | false ↦ elim d [ true ↦ Op Neg (t ◂ nil) | false ↦ Op Mul (Const c ◂ t ◂ nil) ] ]))
  unfolding RenamedBy
  coefficient_step true d c t u e = e
  coefficient_step false true c t u e = ap (λ (t : Tree). Op Neg (t ◂ nil)) e
  coefficient_step false false c t u e = ap (λ (t : Tree). Op Mul (Const c ◂ t ◂ nil)) e

  pub built_renamed : (c : ℤ) (l : List Tree) → built c (map (renamed R) l) ≡ renamed R (built c l)
  unfolding built with_coefficient RenamedBy
  built_renamed c [] = refl
  built_renamed c (t ∷ l) =
      coefficient_step (eq_int c (pos 1)) (eq_int c (negsuc 0)) c (nested_product t l) (nested_product (renamed R t) (map (renamed R) l)) (product_renamed t l)

  product_known : (t : Tree) (l : List Tree) → Known R t → KnownAll R l → Known R (nested_product t l)
  unfolding nested_product holds
  product_known t [] g h = g
  product_known t (f ∷ l) g h =
      product_known (Op Mul (t ◂ f ◂ nil)) l
      (and_both (holds (is_known R) t) (holds (is_known R) f && true) g (and_both (holds (is_known R) f) true (first_known R f l (unfold holds in h)) tt)) (rest_known R f l (unfold holds in h))

  coefficient_known :
      (b d : Bool) (c : ℤ) (t : Tree) → Known R t
      → Known R (elim b [ true ↦ t | false ↦ elim d [ true ↦ Op Neg (t ◂ nil) | false ↦ Op Mul (Const c ◂ t ◂ nil) ] ])
  unfolding holds
  coefficient_known true d c t w = w
  coefficient_known false true c t w = and_both (holds (is_known R) t) true w tt
  coefficient_known false false c t w = and_both (holds (is_known R) t) true w tt

  pub built_known : (c : ℤ) (l : List Tree) → KnownAll R l → Known R (built c l)
  unfolding built with_coefficient
  built_known c [] w = unfold holds in tt
  built_known c (t ∷ l) w =
      coefficient_known (eq_int c (pos 1)) (eq_int c (negsuc 0)) c (nested_product t l) (product_known t l (first_known R t l w) (rest_known R t l w))

  build_step :
      (l : List Tree) → KnownAll R l → (o : Outcome ℤ)
      → Agree (Known R) (renamed R) (o >>= λ c. ok (built c l)) (o >>= λ c. ok (built c (map (renamed R) l)))
  unfolding Good
  build_step l h (ok c) = (built_known c l h, ap ok (built_renamed c l))
  build_step l h (refused i) = (tt, refl)

  pub build_renamed : (p : Factors) → KnownFactors p → Agree (Known R) (renamed R) (build_mul_from_factors p) (build_mul_from_factors (renamed_factors p))
  unfolding build_mul_from_factors
  build_renamed p h = build_step p.factors h (constant_of p.coefficient)

  -- ---- factors taken out

  first_step :
      (f : Tree) (l : List Tree) (b c : Bool) → b ≡ c → (o u : Option (List Tree)) → AgreeIf (KnownAll R) (map (renamed R)) o u → KnownAll R (f ∷ l)
      → AgreeIf (KnownAll R) (map (renamed R)) (elim c [ true ↦ some l | false ↦ elim o [ none ↦ none | some r ↦ some (f ∷ r) ] ])
      (elim b [ true ↦ some (map (renamed R) l) | false ↦ elim u [ none ↦ none | some r ↦ some (renamed R f ∷ r) ] ])
  first_step f l b c e o u a h =
      subst (λ (b : Bool).
      AgreeIf (KnownAll R) (map (renamed R)) (elim c [ true ↦ some l | false ↦ elim o [ none ↦ none | some r ↦ some (f ∷ r) ] ])
      (elim b [ true ↦ some (map (renamed R) l) | false ↦ elim u [ none ↦ none | some r ↦ some (renamed R f ∷ r) ] ])) (sym e)
      (go c o u a)
    where
      go : (c : Bool) (o u : Option (List Tree)) → AgreeIf (KnownAll R) (map (renamed R)) o u
          → AgreeIf (KnownAll R) (map (renamed R)) (elim c [ true ↦ some l | false ↦ elim o [ none ↦ none | some r ↦ some (f ∷ r) ] ])
          (elim c [ true ↦ some (map (renamed R) l) | false ↦ elim u [ none ↦ none | some r ↦ some (renamed R f ∷ r) ] ])
      go true o u a = (rest_known R f l h, refl)
      go false none none a = tt
      go false none (some m) a = absurd a
      go false (some r) none a = absurd a
      go false (some r) (some m) a = (both_known R f r (first_known R f l h) a.0, ap (λ (l : List Tree). renamed R f ∷ l) a.1)

  pub remove_first_renamed :
      (t : Tree) (l : List Tree) → Known R t → KnownAll R l
      → AgreeIf (KnownAll R) (map (renamed R)) (remove_first t l) (remove_first (renamed R t) (map (renamed R) l))
  unfolding remove_first
  remove_first_renamed t [] g h = tt
  remove_first_renamed t (f ∷ l) g h =
      first_step f l (eq_tree (renamed R f) (renamed R t)) (eq_tree f t) (eq_tree_renamed R f t (first_known R f l h) g) (remove_first t l)
      (remove_first (renamed R t) (map (renamed R) l)) (remove_first_renamed t l g (rest_known R f l h)) h

  each_step :
      (ts : List Tree) → ((r : List Tree) → KnownAll R r → AgreeIf (KnownAll R) (map (renamed R)) (remove_each ts r) (remove_each (map (renamed R) ts) (map (renamed R) r)))
      → (o u : Option (List Tree)) → AgreeIf (KnownAll R) (map (renamed R)) o u
      → AgreeIf (KnownAll R) (map (renamed R)) (elim o [ none ↦ none | some r ↦ remove_each ts r ]) (elim u [ none ↦ none | some r ↦ remove_each (map (renamed R) ts) r ])
  each_step ts k none none a = tt
  each_step ts k none (some m) a = absurd a
  each_step ts k (some r) none a = absurd a
  each_step ts k (some r) (some m) a =
      subst (λ (m : List Tree). AgreeIf (KnownAll R) (map (renamed R)) (remove_each ts r) (remove_each (map (renamed R) ts) m)) a.1 (k r a.0)

  pub remove_each_renamed :
      (ts l : List Tree) → KnownAll R ts → KnownAll R l
      → AgreeIf (KnownAll R) (map (renamed R)) (remove_each ts l) (remove_each (map (renamed R) ts) (map (renamed R) l))
  unfolding remove_each
  remove_each_renamed [] l g h = (h, refl)
  remove_each_renamed (t ∷ ts) l g h =
      each_step ts (λ r k. remove_each_renamed ts r (rest_known R t ts g) k) (remove_first t l) (remove_first (renamed R t) (map (renamed R) l))
      (remove_first_renamed t l (first_known R t ts g) h)

  is_mul_renamed : (t : Tree) → is_mul (renamed R t) ≡ is_mul t
  unfolding is_mul RenamedBy
  is_mul_renamed (Sym n) = refl
  is_mul_renamed (Const c) = refl
  is_mul_renamed (Op k f) = refl

  -- a match from the factors of both
  abbrev match_with : Name → Bool → Factors → Factors → Option Factors
  match_with n b p q =
      elim (b && Ieee.eq p.coefficient one) [
        | true ↦ elim (remove_each p.factors q.factors) [
          | none ↦ none
          | some r ↦ some (record { coefficient = q.coefficient; factors = r ++ (Sym n ∷ []) })
        ]
        | false ↦ none
      ]

  match_step :
      (n : Name) → T (is_known R n) → (x : Float) (b : Bool) (o u : Option (List Tree)) → AgreeIf (KnownAll R) (map (renamed R)) o u
      → AgreeIf KnownFactors renamed_factors
      (elim b [ true ↦ elim o [ none ↦ none | some r ↦ some (record { coefficient = x; factors = r ++ (Sym n ∷ []) }) ] | false ↦ none ])
      (elim b [ true ↦ elim u [ none ↦ none | some r ↦ some (record { coefficient = x; factors = r ++ (Sym (named R n) ∷ []) }) ] | false ↦ none ])
  unfolding RenamedBy
  match_step n i x false o u a = tt
  match_step n i x true none none a = tt
  match_step n i x true none (some m) a = absurd a
  match_step n i x true (some r) none a = absurd a
  match_step n i x true (some r) (some m) a = (
    holds_append (is_known R) r (Sym n ∷ []) a.0 (both_known R (Sym n) [] (unfold holds in i) (none_known R)),
    ap (λ (l : List Tree). record { coefficient = x; factors = l }) (map_append (renamed R) r (Sym n ∷ []) ∙ ap (λ (l : List Tree). l ++ (Sym (named R n) ∷ [])) a.1),
  )

  pub match_renamed :
      (target : Tree) (n : Name) (e : Tree) → Known R target → T (is_known R n) → Known R e
      → AgreeIf KnownFactors renamed_factors (match_factors target n e) (match_factors (renamed R target) (named R n) (renamed R e))
  unfolding match_factors
  match_renamed target n e g i h =
      let p = flatten_mul_factors target in
      let q = flatten_mul_factors e in
      let same : match_factors (renamed R target) (named R n) (renamed R e) ≡ match_with (named R n) (is_mul target) (renamed_factors p) (renamed_factors q) =
      ap (λ (b : Bool). match_with (named R n) b (flatten_mul_factors (renamed R target)) (flatten_mul_factors (renamed R e))) (is_mul_renamed target)
      ∙ ap₂ (λ (p q : Factors). match_with (named R n) (is_mul target) p q) (flatten_renamed target) (flatten_renamed e) in
      subst (λ (u : Option Factors). AgreeIf KnownFactors renamed_factors (match_factors target n e) u) (sym same)
      (match_step n i q.coefficient (is_mul target && Ieee.eq p.coefficient one) (remove_each p.factors q.factors)
      (remove_each (map (renamed R) p.factors) (map (renamed R) q.factors)) (remove_each_renamed p.factors q.factors (flatten_known target g) (flatten_known e h)))

  -- ---- replace

  abbrev pub AgreeTree : Outcome Tree → Outcome Tree → Type 0
  AgreeTree = Agree (Known R) (renamed R)

  pub each_operand_renamed :
      (g k : Tree → Outcome Tree) → ((t : Tree) → Known R t → AgreeTree (g t) (k (renamed R t)))
      → (f : Forest) → KnownEach R f → Agree (KnownEach R) (renamed_each R) (each_operand g f) (each_operand k (renamed_each R f))
  unfolding each_operand RenamedBy holds
  each_operand_renamed g k a nil h = agree_ok (KnownEach R) (renamed_each R) nil h
  each_operand_renamed g k a (t ◂ f) h =
      then_agree (Known R) (renamed R) (KnownEach R) (renamed_each R) (g t) (k (renamed R t)) (a t (and_left (holds (is_known R) t) (holds_each (is_known R) f) h))
      (λ u. each_operand g f >>= λ r. ok (u ◂ r)) (λ u. each_operand k (renamed_each R f) >>= λ r. ok (u ◂ r))
      (λ u q.
      then_agree (KnownEach R) (renamed_each R) (KnownEach R) (renamed_each R) (each_operand g f) (each_operand k (renamed_each R f))
      (each_operand_renamed g k a f (and_right (holds (is_known R) t) (holds_each (is_known R) f) h)) (λ r. ok (u ◂ r)) (λ r. ok (renamed R u ◂ r))
      (λ r z. agree_ok (KnownEach R) (renamed_each R) (u ◂ r) (and_both (holds (is_known R) u) (holds_each (is_known R) r) q z)))

  module _ (target : Tree) (n : Name) (target_known : Known R target) (name_known : T (is_known R n)) where
    leaf_step :
        (t : Tree) → Known R t → (b c : Bool) → b ≡ c
        → AgreeTree (elim c [ true ↦ ok (Sym n) | false ↦ ok t ]) (elim b [ true ↦ ok (Sym (named R n)) | false ↦ ok (renamed R t) ])
    unfolding RenamedBy Good holds
    leaf_step t h b c e =
        subst (λ (b : Bool). AgreeTree (elim c [ true ↦ ok (Sym n) | false ↦ ok t ]) (elim b [ true ↦ ok (Sym (named R n)) | false ↦ ok (renamed R t) ])) (sym e) (go c)
      where
        go : (c : Bool) → AgreeTree (elim c [ true ↦ ok (Sym n) | false ↦ ok t ]) (elim c [ true ↦ ok (Sym (named R n)) | false ↦ ok (renamed R t) ])
        go true = (name_known, refl)
        go false = (h, refl)

    operands_step :
        (k : ℕ) (f : Forest) (g l : Tree → Outcome Tree) → ((t : Tree) → Known R t → AgreeTree (g t) (l (renamed R t))) → KnownEach R f
        → AgreeTree (each_operand g f >>= λ r. ok (Op k r)) (each_operand l (renamed_each R f) >>= λ r. ok (Op k r))
    unfolding RenamedBy holds
    operands_step k f g l a h =
        then_agree (KnownEach R) (renamed_each R) (Known R) (renamed R) (each_operand g f) (each_operand l (renamed_each R f)) (each_operand_renamed g l a f h)
        (λ r. ok (Op k r)) (λ r. ok (Op k r)) (λ r z. agree_ok (Known R) (renamed R) (Op k r) z)

    product_step :
        (g l : Tree → Outcome Tree) → ((t : Tree) → Known R t → AgreeTree (g t) (l (renamed R t))) → (x y : Outcome Tree) → AgreeTree x y
        → (o u : Option Factors) → AgreeIf KnownFactors renamed_factors o u
        → AgreeTree (elim o [ none ↦ x | some p ↦ (build_mul_from_factors p >>= λ t. g t) ]) (elim u [ none ↦ y | some p ↦ (build_mul_from_factors p >>= λ t. l t) ])
    product_step g l a x y h none none m = h
    product_step g l a x y h none (some q) m = absurd m
    product_step g l a x y h (some p) none m = absurd m
    product_step g l a x y h (some p) (some q) m =
        subst (λ (q : Factors). AgreeTree (build_mul_from_factors p >>= λ t. g t) (build_mul_from_factors q >>= λ t. l t)) m.1
        (then_agree (Known R) (renamed R) (Known R) (renamed R) (build_mul_from_factors p) (build_mul_from_factors (renamed_factors p)) (build_renamed p m.0) g l a)

    node_step :
        (b c d : Bool) → b ≡ c → (p q x y : Outcome Tree) → AgreeTree p q → AgreeTree x y
        → AgreeTree (elim c [ true ↦ ok (Sym n) | false ↦ elim d [ true ↦ p | false ↦ x ] ])
        (elim b [ true ↦ ok (Sym (named R n)) | false ↦ elim d [ true ↦ q | false ↦ y ] ])
    unfolding RenamedBy Good holds
    node_step b c d e p q x y h g =
        subst (λ (b : Bool).
        AgreeTree (elim c [ true ↦ ok (Sym n) | false ↦ elim d [ true ↦ p | false ↦ x ] ])
        (elim b [ true ↦ ok (Sym (named R n)) | false ↦ elim d [ true ↦ q | false ↦ y ] ])) (sym e) (go c d)
      where
        go : (c d : Bool)
            → AgreeTree (elim c [ true ↦ ok (Sym n) | false ↦ elim d [ true ↦ p | false ↦ x ] ])
            (elim c [ true ↦ ok (Sym (named R n)) | false ↦ elim d [ true ↦ q | false ↦ y ] ])
        go true d = (name_known, refl)
        go false true = h
        go false false = g

    pub replace_within_renamed :
        (fuel : ℕ) (e : Tree) → Known R e → AgreeTree (replace_within fuel target n e) (replace_within fuel (renamed R target) (named R n) (renamed R e))
    unfolding replace_within RenamedBy
    replace_within_renamed zero e h = agree_ok (Known R) (renamed R) e h
    replace_within_renamed (suc fuel) (Sym s) h =
        leaf_step (Sym s) h (eq_tree (renamed R (Sym s)) (renamed R target)) (eq_tree (Sym s) target) (eq_tree_renamed R (Sym s) target h target_known)
    replace_within_renamed (suc fuel) (Const c) h =
        leaf_step (Const c) h (eq_tree (renamed R (Const c)) (renamed R target)) (eq_tree (Const c) target) (eq_tree_renamed R (Const c) target h target_known)
    replace_within_renamed (suc fuel) (Op k f) h =
        let g : Tree → Outcome Tree = λ t. replace_within fuel target n t in
        let l : Tree → Outcome Tree = λ t. replace_within fuel (renamed R target) (named R n) t in
        let a : (t : Tree) → Known R t → AgreeTree (g t) (l (renamed R t)) = λ t w. replace_within_renamed fuel t w in
        let x = each_operand g f >>= λ r. ok (Op k r) in
        let y = each_operand l (renamed_each R f) >>= λ r. ok (Op k r) in
        let o = operands_step k f g l a (unfold holds in h) in
        node_step (eq_tree (renamed R (Op k f)) (renamed R target)) (eq_tree (Op k f) target) (eqb k Mul) (eq_tree_renamed R (Op k f) target h target_known)
        (elim (match_factors target n (Op k f)) as (λ _. Outcome Tree) [ none ↦ x | some p ↦ (build_mul_from_factors p >>= λ t. g t) ])
        (elim (match_factors (renamed R target) (named R n) (renamed R (Op k f))) as (λ _. Outcome Tree) [ none ↦ y | some p ↦ (build_mul_from_factors p >>= λ t. l t) ])
        x y
        (product_step g l a x y o (match_factors target n (Op k f)) (match_factors (renamed R target) (named R n) (renamed R (Op k f)))
        (match_renamed target n (Op k f) target_known name_known h)) o

    pub replace_renamed : (e : Tree) → Known R e → AgreeTree (replace target n e) (replace (renamed R target) (named R n) (renamed R e))
    unfolding replace
    replace_renamed e h =
        subst (λ (m : ℕ). AgreeTree (replace target n e) (replace_within (2 * m) (renamed R target) (named R n) (renamed R e))) (sym (size_renamed R e))
        (replace_within_renamed (2 * size e) e h)

    -- ---- replace_outside_arms

    arms_step :
        (b c d : Bool) → b ≡ c → (k : ℕ) (p q r s : Forest) → p ≡ renamed_each R r → q ≡ renamed_each R s
        → ◌≡◌ {A = Tree} (elim b [ true ↦ Sym (named R n) | false ↦ Op k (elim d [ true ↦ p | false ↦ q ]) ])
        (renamed R (elim c [ true ↦ Sym n | false ↦ Op k (elim d [ true ↦ r | false ↦ s ]) ]))
    unfolding RenamedBy
    arms_step b c d e k p q r s x y = rw e (go c d)
      where
        go : (c d : Bool)
            → ◌≡◌ {A = Tree} (elim c [ true ↦ Sym (named R n) | false ↦ Op k (elim d [ true ↦ p | false ↦ q ]) ])
            (renamed R (elim c [ true ↦ Sym n | false ↦ Op k (elim d [ true ↦ r | false ↦ s ]) ]))
        go true d = refl
        go false true = ap (Op k) x
        go false false = ap (Op k) y

    outside_leaf : (b c : Bool) → b ≡ c → (t : Tree) → ◌≡◌ {A = Tree} (elim b [ true ↦ Sym (named R n) | false ↦ renamed R t ]) (renamed R (elim c [ true ↦ Sym n | false ↦ t ]))
    unfolding RenamedBy
    outside_leaf b c e t = rw e (go c)
      where
        go : (c : Bool) → ◌≡◌ {A = Tree} (elim c [ true ↦ Sym (named R n) | false ↦ renamed R t ]) (renamed R (elim c [ true ↦ Sym n | false ↦ t ]))
        go true = refl
        go false = refl

    mutual
      unfolding replace_outside_arms RenamedBy holds

      pub outside_arms_renamed :
          (e : Tree) → Known R e → replace_outside_arms (renamed R target) (named R n) (renamed R e) ≡ renamed R (replace_outside_arms target n e)
      outside_arms_renamed (Sym s) h =
          outside_leaf (eq_tree (renamed R (Sym s)) (renamed R target)) (eq_tree (Sym s) target) (eq_tree_renamed R (Sym s) target h target_known) (Sym s)
      outside_arms_renamed (Const c) h =
          outside_leaf (eq_tree (renamed R (Const c)) (renamed R target)) (eq_tree (Const c) target) (eq_tree_renamed R (Const c) target h target_known) (Const c)
      outside_arms_renamed (Op k f) h =
          arms_step (eq_tree (renamed R (Op k f)) (renamed R target)) (eq_tree (Op k f) target) (is_switch k) (eq_tree_renamed R (Op k f) target h target_known) k
          (replace_key (renamed R target) (named R n) (renamed_each R f)) (replace_operands (renamed R target) (named R n) (renamed_each R f))
          (replace_key target n f) (replace_operands target n f) (key_renamed f h) (operands_renamed f h)

      operands_renamed :
          (f : Forest) → KnownEach R f → replace_operands (renamed R target) (named R n) (renamed_each R f) ≡ renamed_each R (replace_operands target n f)
      operands_renamed nil h = refl
      operands_renamed (t ◂ f) h =
          ap₂ ◌◂◌ (outside_arms_renamed t (and_left (holds (is_known R) t) (holds_each (is_known R) f) h))
          (operands_renamed f (and_right (holds (is_known R) t) (holds_each (is_known R) f) h))

      key_renamed : (f : Forest) → KnownEach R f → replace_key (renamed R target) (named R n) (renamed_each R f) ≡ renamed_each R (replace_key target n f)
      key_renamed nil h = refl
      key_renamed (t ◂ f) h =
          ap (λ (u : Tree). u ◂ renamed_each R f) (outside_arms_renamed t (and_left (holds (is_known R) t) (holds_each (is_known R) f) h))

    arms_known_step :
        (c d : Bool) (k : ℕ) (r s : Forest) → KnownEach R r → KnownEach R s
        → Known R (elim c [ true ↦ Sym n | false ↦ Op k (elim d [ true ↦ r | false ↦ s ]) ])
    unfolding holds
    arms_known_step true d k r s x y = name_known
    arms_known_step false true k r s x y = x
    arms_known_step false false k r s x y = y

    outside_known_leaf : (c : Bool) (t : Tree) → Known R t → Known R (elim c [ true ↦ Sym n | false ↦ t ])
    unfolding holds
    outside_known_leaf true t h = name_known
    outside_known_leaf false t h = h

    mutual
      unfolding replace_outside_arms holds

      pub outside_arms_known : (e : Tree) → Known R e → Known R (replace_outside_arms target n e)
      outside_arms_known (Sym s) h = outside_known_leaf (eq_tree (Sym s) target) (Sym s) h
      outside_arms_known (Const c) h = outside_known_leaf (eq_tree (Const c) target) (Const c) h
      outside_arms_known (Op k f) h =
          arms_known_step (eq_tree (Op k f) target) (is_switch k) k (replace_key target n f) (replace_operands target n f) (key_known f h) (operands_known f h)

      operands_known : (f : Forest) → KnownEach R f → KnownEach R (replace_operands target n f)
      operands_known nil h = tt
      operands_known (t ◂ f) h =
          and_both (holds (is_known R) (replace_outside_arms target n t)) (holds_each (is_known R) (replace_operands target n f))
          (outside_arms_known t (and_left (holds (is_known R) t) (holds_each (is_known R) f) h))
          (operands_known f (and_right (holds (is_known R) t) (holds_each (is_known R) f) h))

      key_known : (f : Forest) → KnownEach R f → KnownEach R (replace_key target n f)
      key_known nil h = tt
      key_known (t ◂ f) h =
          and_both (holds (is_known R) (replace_outside_arms target n t)) (holds_each (is_known R) f)
          (outside_arms_known t (and_left (holds (is_known R) t) (holds_each (is_known R) f) h)) (and_right (holds (is_known R) t) (holds_each (is_known R) f) h)

  -- ---- replace_divisor

  module _ (d : Tree) (n : Name) (divisor_known : Known R d) where
    divides_renamed : (f : Forest) → KnownEach R f → divides_by (renamed R d) (renamed_each R f) ≡ divides_by d f
    unfolding divides_by RenamedBy holds
    divides_renamed nil h = refl
    divides_renamed (a ◂ nil) h = refl
    divides_renamed (a ◂ (b ◂ f)) h =
        eq_tree_renamed R b d
        (unfold holds in and_left (holds (is_known R) b) (holds_each (is_known R) f) (and_right (holds (is_known R) a) (holds_each (is_known R) (b ◂ f)) h)) divisor_known

    divisor_step :
        (b c : Bool) → b ≡ c → (k : ℕ) (p q r s : Forest) → p ≡ renamed_each R r → q ≡ renamed_each R s
        → ◌≡◌ {A = Tree} (elim b [ true ↦ Op Mul p | false ↦ Op k q ]) (renamed R (elim c [ true ↦ Op Mul r | false ↦ Op k s ]))
    unfolding RenamedBy
    divisor_step b c e k p q r s x y = rw e (go c)
      where
        go : (c : Bool) → ◌≡◌ {A = Tree} (elim c [ true ↦ Op Mul p | false ↦ Op k q ]) (renamed R (elim c [ true ↦ Op Mul r | false ↦ Op k s ]))
        go true = ap (Op Mul) x
        go false = ap (Op k) y

    mutual
      unfolding replace_divisor RenamedBy holds

      pub divisor_renamed : (e : Tree) → Known R e → replace_divisor (renamed R d) (named R n) (renamed R e) ≡ renamed R (replace_divisor d n e)
      divisor_renamed (Sym s) h = refl
      divisor_renamed (Const c) h = refl
      divisor_renamed (Op k f) h =
          divisor_step (eqb k Div && divides_by (renamed R d) (renamed_each R f)) (eqb k Div && divides_by d f) (ap (λ (b : Bool). eqb k Div && b) (divides_renamed f h)) k
          (dividend (renamed R d) (named R n) (renamed_each R f)) (replace_divisors (renamed R d) (named R n) (renamed_each R f)) (dividend d n f) (replace_divisors d n f)
          (dividend_renamed f h) (divisors_renamed f h)

      divisors_renamed : (f : Forest) → KnownEach R f → replace_divisors (renamed R d) (named R n) (renamed_each R f) ≡ renamed_each R (replace_divisors d n f)
      divisors_renamed nil h = refl
      divisors_renamed (t ◂ f) h =
          ap₂ ◌◂◌ (divisor_renamed t (and_left (holds (is_known R) t) (holds_each (is_known R) f) h))
          (divisors_renamed f (and_right (holds (is_known R) t) (holds_each (is_known R) f) h))

      dividend_renamed : (f : Forest) → KnownEach R f → dividend (renamed R d) (named R n) (renamed_each R f) ≡ renamed_each R (dividend d n f)
      dividend_renamed nil h = refl
      dividend_renamed (t ◂ f) h =
          ap (λ (u : Tree). u ◂ Sym (named R n) ◂ nil) (divisor_renamed t (and_left (holds (is_known R) t) (holds_each (is_known R) f) h))

    pub divisor_keeps_known : (e : Tree) → T (is_known R n) → Known R e → Known R (replace_divisor d n e)
    divisor_keeps_known e i h = divisor_holds (is_known R) d n (λ w. i) e h
