-- A product with the target's factors in it, rewritten: they are taken out, and the name is put in, as often as they are there; then each factor is rewritten by
-- itself. Assumes nothing.
use Rattle.std.proofs.Common.{◌≡◌, ℕ, zero, suc, ◌+◌, ◌*◌, ◌≤◌, Bool, true, false, ◌&&◌, T, eqb, List, [], ◌∷◌, ◌++◌, length, ℤ, pos, negsuc, sym, refl, ap, ◌∙◌, subst, ap₂, append_assoc, arith, length-append}
use mathlib.Core.Option.{Option, none, some}
use lib.Ieee as Ieee
use lib.Ieee.{Float}
use Rattle.spec_tree.specs.Outcome.{Outcome, ok, refused, ◌>>=◌, each}
use Rattle.spec_tree.specs.Tree.{Name, Tree, Forest, Sym, Const, Op, nil, ◌◂◌, eq_tree, eq_int}
use Rattle.spec_tree.specs.Kinds.{Neg, Mul}
use Rattle.spec_tree.specs.Facts.{size, count}
use Rattle.spec_tree.proofs.Formed.{well_formed}
use Rattle.spec_tree.proofs.TreeLaws.{eq_tree_sound, eq_tree_refl, eq_int_sound}
use Rattle.spec_tree.proofs.Logic.{and_left, and_right, and_both, not_true}
use Rattle.spec_tree.proofs.Tests.{is_true}
use Rattle.spec_rewrite.specs.Rewrite.{Factors, one, flatten_mul_factors, times, constant_of, nested_product, with_coefficient, built, build_mul_from_factors, remove_first, remove_each, is_mul, match_factors, each_operand, replace_within, replace}
use Rattle.spec_rewrite.proofs.Measure.{count_cons, one_self}
use Rattle.spec_rewrite.proofs.Counts.{count_append, one_le}
use Rattle.spec_rewrite.proofs.ReplaceValue.{exact}
use Rattle.spec_rewrite.proofs.Coefficient.{exactly}
use Rattle.spec_rewrite.proofs.Factors.{All, Factor, Product, factors_of, built_factors, append_all}
use Rattle.replace.specs.closed.Closed.{Taken, once_more, take_out, taken, by_factors, rebuilt}
use Rattle.replace.proofs.closed.Chain.{chain_end, each_long}
use Rattle.replace.proofs.closed.Unit.{Small, one_small, accepted_small}
use Rattle.replace.proofs.closed.Taken.{none_before, rest_of, count_of_rest}
use Rattle.replace.proofs.closed.Steps.{at_operation, at_op}
use Rattle.replace.proofs.closed.Spine.{each_all, Alone, alone_factor, name_alone, headed, built_coefficient, built_mul, factors_alone}
use Rattle.spec_tree.proofs.Outcomes.{then_then, then_known}

-- ---- tests

pub leaf_sym : (s : Name) (target : Tree) → T (is_mul target) → eq_tree (Sym s) target ≡ false
unfolding eq_tree is_mul
leaf_sym s (Sym b) m = absurd m
leaf_sym s (Const d) m = absurd m
leaf_sym s (Op l g) m = refl

pub leaf_const : (c : ℤ) (target : Tree) → T (is_mul target) → eq_tree (Const c) target ≡ false
unfolding eq_tree is_mul
leaf_const c (Sym b) m = absurd m
leaf_const c (Const d) m = absurd m
leaf_const c (Op l g) m = refl

-- a product's factors are all there in themselves
self_first : (t : Tree) (l : List Tree) → remove_first t (t ∷ l) ≡ some l
unfolding remove_first
self_first t l = ap (λ (b : Bool). elim b as (λ _. Option (List Tree)) [ true ↦ some l | false ↦ elim (remove_first t l) [ none ↦ none | some r ↦ some (t ∷ r) ] ]) (is_true (eq_tree t t) (eq_tree_refl t))

pub self_each : (ts : List Tree) → remove_each ts ts ≡ some []
unfolding remove_each
self_each [] = refl
self_each (t ∷ ts) = ap (λ (o : Option (List Tree)). elim o as (λ _. Option (List Tree)) [ none ↦ none | some r ↦ remove_each ts r ]) (self_first t ts) ∙ self_each ts

pub none_empty : (ts : List Tree) → 1 ≤ length ts → remove_each ts [] ≡ none
unfolding remove_each remove_first
none_empty [] h = absurd (omega arith)
none_empty (t ∷ ts) h = refl

pub empty_list : {A : Type 0} (l : List A) → length l ≤ 0 → l ≡ []
empty_list [] h = refl
empty_list (a ∷ l) h = absurd (omega arith)

-- ---- no more equal than there are

pub count_most : (x : Tree) (l : List Tree) → count x l ≤ length l
unfolding count
count_most x [] = omega arith
count_most x (y ∷ l) = (let a = count_cons x y l in let b = one_le y x in let c = count_most x l in omega arith)

-- ---- leaves

pub at_symbol : (target : Tree) (n s : Name) → replace target n (Sym s) ≡ elim (eq_tree (Sym s) target) [ true ↦ ok (Sym n) | false ↦ ok (Sym s) ]
unfolding replace replace_within size
at_symbol target n s = refl

pub at_constant : (target : Tree) (n : Name) (c : ℤ) → replace target n (Const c) ≡ elim (eq_tree (Const c) target) [ true ↦ ok (Sym n) | false ↦ ok (Const c) ]
unfolding replace replace_within size
at_constant target n c = refl

module _ (target : Tree) (n : Name) (several : Product target → 2 + count (Sym n) (factors_of target) ≤ 2 * length (factors_of target)) where
  abbrev rep : Tree → Outcome Tree
  rep = replace target n

  abbrev ts : List Tree
  ts = factors_of target

  -- ---- nodes that are not the target

  -- one that is no product
  pub at_other :
      (k : ℕ) (f : Forest) → T (well_formed (Op k f)) → eq_tree (Op k f) target ≡ false → eqb k Mul ≡ false → rep (Op k f) ≡ (each_operand rep f >>= λ h. ok (Op k h))
  at_other k f w e q =
      at_op target n several k f w
      ∙ ap₂ (λ (b d : Bool). at_operation target n rep k f b d (match_factors target n (Op k f))) e q

  -- one where the target is not matched by its factors
  pub at_unmatched :
      (k : ℕ) (f : Forest) → T (well_formed (Op k f)) → eq_tree (Op k f) target ≡ false → match_factors target n (Op k f) ≡ none
      → rep (Op k f) ≡ (each_operand rep f >>= λ h. ok (Op k h))
  at_unmatched k f w e q =
      at_op target n several k f w
      ∙ ap₂ (λ (b : Bool) (o : Option Factors). at_operation target n rep k f b (eqb k Mul) o) e q
      ∙ go (eqb k Mul)
    where
      go : (d : Bool) → at_operation target n rep k f false d none ≡ (each_operand rep f >>= λ h. ok (Op k h))
      go true = refl
      go false = refl

  pub no_match : by_factors target ≡ false → (e : Tree) → match_factors target n e ≡ none
  unfolding match_factors by_factors
  no_match p e =
      ap
      (λ (b : Bool). elim b as (λ _. Option Factors) [
        | true ↦ elim (remove_each (flatten_mul_factors target).factors (flatten_mul_factors e).factors) [
          | none ↦ none
          | some r ↦ some (record { coefficient = (flatten_mul_factors e).coefficient; factors = r ++ (Sym n ∷ []) })
        ]
        | false ↦ none
      ])
      p

  module _ (product : T (by_factors target)) where
    is_product : T (is_mul target)
    unfolding by_factors
    is_product = and_left (is_mul target) _ product

    enough : 2 + count (Sym n) ts ≤ 2 * length ts
    unfolding by_factors
    enough = several product

    unit_target : exact target ≡ pos 1
    unfolding by_factors
    unit_target = exactly.unit target (and_right (is_mul target) _ product)

    abbrev pub matched_by : Tree → Option (List Tree) → Option Factors
    matched_by e o = elim o [ none ↦ none | some r ↦ some (record { coefficient = (flatten_mul_factors e).coefficient; factors = r ++ (Sym n ∷ []) }) ]

    pub match_is : (e : Tree) → match_factors target n e ≡ matched_by e (remove_each ts (factors_of e))
    unfolding match_factors by_factors
    match_is e = ap (λ (b : Bool). elim b as (λ _. Option Factors) [ true ↦ matched_by e (remove_each ts (factors_of e)) | false ↦ none ]) (is_true (is_mul target && Ieee.eq (flatten_mul_factors target).coefficient one) product)

    -- the target has itself in it
    not_target : (e : Tree) → remove_each ts (factors_of e) ≡ none → eq_tree e target ≡ false
    not_target e q =
        not_true (eq_tree e target)
        (λ t.
        (let u = eq_tree_sound e target t in
        let v : remove_each ts (factors_of e) ≡ some [] = ap (λ (x : Tree). remove_each ts (factors_of x)) u ∙ self_each ts in
        let z : ◌≡◌ {A = ℕ} 0 1 = cc in
        omega arith))

    pub without_match : (k : ℕ) (f : Forest) → T (well_formed (Op k f)) → remove_each ts (factors_of (Op k f)) ≡ none → rep (Op k f) ≡ (each_operand rep f >>= λ h. ok (Op k h))
    without_match k f w q = at_unmatched k f w (not_target (Op k f) q) (match_is (Op k f) ∙ ap (matched_by (Op k f)) q)

    -- a match: the product is built, and rewritten again
    pub with_match :
        (f : Forest) (r : List Tree) → T (well_formed (Op Mul f)) → eq_tree (Op Mul f) target ≡ false → remove_each ts (factors_of (Op Mul f)) ≡ some r
        → rep (Op Mul f) ≡ (constant_of (flatten_mul_factors (Op Mul f)).coefficient >>= λ c. rep (built c (r ++ (Sym n ∷ []))))
    unfolding build_mul_from_factors
    with_match f r w e q =
        at_op target n several Mul f w
        ∙ ap₂ (λ (b : Bool) (o : Option Factors). at_operation target n rep Mul f b true o) e (match_is (Op Mul f) ∙ ap (matched_by (Op Mul f)) q)
        ∙ then_then (constant_of (flatten_mul_factors (Op Mul f)).coefficient) (λ c. ok (built c (r ++ (Sym n ∷ [])))) rep

    -- ---- a product without a match

    two_factors : (t f : Tree) → Alone f → factors_of (Op Mul (t ◂ f ◂ nil)) ≡ factors_of t ++ (f ∷ [])
    unfolding flatten_mul_factors times
    two_factors t f a = ap (λ (p : Factors). factors_of t ++ p.factors) a.1

    two_formed : (t f : Tree) → T (well_formed t) → T (well_formed f) → T (well_formed (Op Mul (t ◂ f ◂ nil)))
    unfolding well_formed
    two_formed t f g h = and_both (well_formed t) (well_formed f && true) g (and_both (well_formed f) true h tt)

    shuffle :
        (a b : Outcome Tree) (o : Outcome (List Tree))
        → (((a >>= λ u. (b >>= λ v. ok nil >>= λ r. ok (v ◂ r)) >>= λ r. ok (u ◂ r)) >>= λ h. ok (Op Mul h)) >>= λ w. o >>= λ r. ok (nested_product w r))
        ≡ (a >>= λ u. (b >>= λ v. o >>= λ r. ok (v ∷ r)) >>= λ r. ok (nested_product u r))
    unfolding nested_product
    shuffle (ok u) (ok v) (ok r) = refl
    shuffle (ok u) (ok v) (refused i) = refl
    shuffle (ok u) (refused i) o = refl
    shuffle (refused i) b o = refl

    nested_plain :
        (t : Tree) (l : List Tree) → T (well_formed t) → All Alone l → remove_each ts (factors_of t ++ l) ≡ none
        → rep (nested_product t l) ≡ (rep t >>= λ u. each rep l >>= λ r. ok (nested_product u r))
    unfolding nested_product each each_operand
    nested_plain t [] w a q = sym (chain_end (rep t))
    nested_plain t (f ∷ l) w a q =
        let all : remove_each ts (factors_of (Op Mul (t ◂ f ◂ nil)) ++ l) ≡ none =
        ap (λ (m : List Tree). remove_each ts (m ++ l)) (two_factors t f a.0) ∙ ap (remove_each ts) (append_assoc (factors_of t) (f ∷ []) l) ∙ q in
        nested_plain (Op Mul (t ◂ f ◂ nil)) l (two_formed t f w a.0.0) a.1 all
        ∙ ap (λ (o : Outcome Tree). o >>= λ w. each rep l >>= λ r. ok (nested_product w r))
        (without_match Mul (t ◂ f ◂ nil) (two_formed t f w a.0.0) (none_before ts (factors_of (Op Mul (t ◂ f ◂ nil))) l all))
        ∙ shuffle (rep t) (rep f) (each rep l)

    not_minus : (f : Forest) → eq_tree (Op Neg f) target ≡ false
    not_minus f =
        not_true (eq_tree (Op Neg f) target)
        (λ t. (unfold is_mul in subst (λ (x : Tree). T (is_mul x)) (sym (eq_tree_sound (Op Neg f) target t)) is_product))

    one_operand : (k : ℕ) (o : Outcome Tree) → ((o >>= λ u. ok nil >>= λ r. ok (u ◂ r)) >>= λ h. ok (Op k h)) ≡ (o >>= λ u. ok (Op k (u ◂ nil)))
    one_operand k (ok u) = refl
    one_operand k (refused i) = refl

    minus_plain : (t : Tree) → T (well_formed t) → rep (Op Neg (t ◂ nil)) ≡ (rep t >>= λ u. ok (Op Neg (u ◂ nil)))
    unfolding each_operand well_formed
    minus_plain t w = at_other Neg (t ◂ nil) (and_both (well_formed t) true w tt) (not_minus (t ◂ nil)) refl ∙ one_operand Neg (rep t)

    constant_stays : (c : ℤ) → rep (Const c) ≡ ok (Const c)
    constant_stays c =
        at_constant target n c ∙ ap (λ (b : Bool). elim b as (λ _. Outcome Tree) [ true ↦ ok (Sym n) | false ↦ ok (Const c) ]) (leaf_const c target is_product)

    pub name_stays : rep (Sym n) ≡ ok (Sym n)
    name_stays = at_symbol target n n ∙ ap (λ (b : Bool). elim b as (λ _. Outcome Tree) [ true ↦ ok (Sym n) | false ↦ ok (Sym n) ]) (leaf_sym n target is_product)

    headed_plain :
        (c : ℤ) (b d : Bool) (t : Tree) → T (well_formed t) → remove_each ts (factors_of t) ≡ none → rep (headed b d c t) ≡ (rep t >>= λ u. ok (headed b d c u))
    headed_plain c true d t w q = sym (chain_end (rep t))
    headed_plain c false true t w q = minus_plain t w
    headed_plain c false false t w q =
        without_match Mul (Const c ◂ t ◂ nil) (two_formed (Const c) t (unfold well_formed in tt) w) (ap (remove_each ts) (factors_const t) ∙ q)
        ∙ ap (λ (o : Outcome Forest). o >>= λ h. ok (Op Mul h)) (operands_two t)
        ∙ ap (λ (o : Outcome Tree). (o >>= λ u. (rep t >>= λ v. ok nil >>= λ r. ok (v ◂ r)) >>= λ r. ok (u ◂ r)) >>= λ h. ok (Op Mul h)) (constant_stays c)
        ∙ go (rep t)
      where
        factors_const : (t : Tree) → factors_of (Op Mul (Const c ◂ t ◂ nil)) ≡ factors_of t
        factors_const t = (unfold flatten_mul_factors times in refl)

        operands_two : (t : Tree) → each_operand rep (Const c ◂ t ◂ nil) ≡ (rep (Const c) >>= λ u. (rep t >>= λ v. ok nil >>= λ r. ok (v ◂ r)) >>= λ r. ok (u ◂ r))
        operands_two t = (unfold each_operand in refl)

        go : (o : Outcome Tree) → (((o >>= λ v. ok nil >>= λ r. ok (v ◂ r)) >>= λ r. ok (Const c ◂ r)) >>= λ h. ok (Op Mul h)) ≡ (o >>= λ u. ok (Op Mul (Const c ◂ u ◂ nil)))
        go (ok u) = refl
        go (refused i) = refl

    nested_factors : (t : Tree) (l : List Tree) → All Alone (t ∷ l) → (factors_of (nested_product t l) ≡ t ∷ l) × T (well_formed (nested_product t l))
    nested_factors t l a =
        subst (λ (x : Tree). (factors_of x ≡ t ∷ l) × T (well_formed x)) plain_built (built_factors (pos 1) (t ∷ l) (each_all Alone Factor alone_factor (t ∷ l) a))
      where
        plain_built : built (pos 1) (t ∷ l) ≡ nested_product t l
        plain_built = (unfold built with_coefficient eq_int in refl)

    gathered :
        (c : ℤ) (a : Outcome Tree) (o : Outcome (List Tree))
        → ((a >>= λ u. o >>= λ r. ok (nested_product u r)) >>= λ w. ok (headed (eq_int c (pos 1)) (eq_int c (negsuc 0)) c w))
        ≡ ((a >>= λ u. o >>= λ r. ok (u ∷ r)) >>= λ r. ok (built c r))
    unfolding built with_coefficient
    gathered c (ok u) (ok r) = refl
    gathered c (ok u) (refused i) = refl
    gathered c (refused i) o = refl

    -- each factor is rewritten by itself
    plain : (c : ℤ) (l : List Tree) → All Alone l → 1 ≤ length l → remove_each ts l ≡ none → rep (built c l) ≡ (each rep l >>= λ r. ok (built c r))
    plain c [] a h q = absurd (omega arith)
    plain c (t ∷ l) a h q =
        opened
        ∙ headed_plain c (eq_int c (pos 1)) (eq_int c (negsuc 0)) (nested_product t l) (nested_factors t l a).1 (ap (remove_each ts) (nested_factors t l a).0 ∙ q)
        ∙ ap (λ (o : Outcome Tree). o >>= λ w. ok (headed (eq_int c (pos 1)) (eq_int c (negsuc 0)) c w))
        (nested_plain t l a.0.0 a.1 (ap (λ (p : Factors). remove_each ts (p.factors ++ l)) a.0.1 ∙ q))
        ∙ gathered c (rep t) (each rep l)
        ∙ closed_up
      where
        opened : rep (built c (t ∷ l)) ≡ rep (headed (eq_int c (pos 1)) (eq_int c (negsuc 0)) c (nested_product t l))
        opened = (unfold built with_coefficient in refl)

        closed_up : ((rep t >>= λ u. each rep l >>= λ r. ok (u ∷ r)) >>= λ r. ok (built c r)) ≡ (each rep (t ∷ l) >>= λ r. ok (built c r))
        closed_up = (unfold each in refl)

    -- ---- a product with a match

    -- it may be the target itself
    same_target : (c : ℤ) (l r : List Tree) (g : Forest) → built c l ≡ Op Mul g → T (well_formed (Op Mul g)) → eq_tree (Op Mul g) target ≡ true → factors_of (built c l) ≡ l
        → constant_of (flatten_mul_factors (built c l)).coefficient ≡ ok c → remove_each ts l ≡ some r → rep (built c l) ≡ rep (built c (r ++ (Sym n ∷ [])))
    same_target c l r g q w e b z m =
        let u : built c l ≡ target = q ∙ eq_tree_sound (Op Mul g) target (subst T (sym e) tt) in
        let s : some r ≡ some [] = sym m ∙ ap (remove_each ts) (sym b ∙ ap factors_of u) ∙ self_each ts in
        let empty : r ≡ [] = cc in
        let unit : c ≡ pos 1 = exactly.accepted (built c l) c z ∙ ap exact u ∙ unit_target in
        ap rep q ∙ at_op target n several Mul g w ∙ ap (λ (b : Bool). at_operation target n rep Mul g b true (match_factors target n (Op Mul g))) e
        ∙ sym (ap₂ (λ (k : ℤ) (m : List Tree). rep (built k (m ++ (Sym n ∷ [])))) unit empty ∙ ap rep name_built ∙ name_stays)
      where
        name_built : built (pos 1) (Sym n ∷ []) ≡ Sym n
        name_built = (unfold built with_coefficient eq_int nested_product in refl)

    again :
        (c : ℤ) (l r : List Tree) → Small c → eq_int c (negsuc 0) ≡ false → All Alone l → 2 ≤ length l → remove_each ts l ≡ some r
        → rep (built c l) ≡ rep (built c (r ++ (Sym n ∷ [])))
    again c [] r s d a h m = absurd (omega arith)
    again c (t ∷ []) r s d a h m = absurd (omega arith)
    again c (t ∷ (f ∷ l)) r s d a h m = go (eq_tree (Op Mul g) target) refl
      where
        g : Forest
        g = (built_mul c t f l d).0

        is : built c (t ∷ f ∷ l) ≡ Op Mul g
        is = (built_mul c t f l d).1

        facts : (factors_of (built c (t ∷ f ∷ l)) ≡ t ∷ f ∷ l) × T (well_formed (built c (t ∷ f ∷ l)))
        facts = built_factors c (t ∷ f ∷ l) (each_all Alone Factor alone_factor (t ∷ f ∷ l) a)

        formed : T (well_formed (Op Mul g))
        formed = subst (λ (x : Tree). T (well_formed x)) is facts.1

        coefficient : constant_of (flatten_mul_factors (built c (t ∷ f ∷ l))).coefficient ≡ ok c
        coefficient = built_coefficient c t (f ∷ l) s d a

        go : (b : Bool) → eq_tree (Op Mul g) target ≡ b → rep (built c (t ∷ f ∷ l)) ≡ rep (built c (r ++ (Sym n ∷ [])))
        go true e = same_target c (t ∷ f ∷ l) r g is formed e facts.0 coefficient m
        go false e =
            ap rep is
            ∙ with_match g r formed e (ap (λ (x : Tree). remove_each ts (factors_of x)) (sym is) ∙ ap (remove_each ts) facts.0 ∙ m)
            ∙ ap (λ (o : Outcome ℤ). o >>= λ c. rep (built c (r ++ (Sym n ∷ [])))) (ap (λ (x : Tree). constant_of (flatten_mul_factors x).coefficient) (sym is) ∙ coefficient)

    -- the name at the end of some factors
    abbrev with_name : List Tree → List Tree
    with_name r = r ++ (Sym n ∷ [])

    name_length : (r : List Tree) → length (with_name r) ≡ length r + 1
    name_length r = length-append r (Sym n ∷ [])

    name_count : (r : List Tree) → count (Sym n) (with_name r) ≡ count (Sym n) r + 1
    name_count r = (let a = count_append (Sym n) r (Sym n ∷ []) in let b = count_cons (Sym n) (Sym n) [] in let c = one_self (Sym n) in let d : count (Sym n) [] ≡ 0 = (unfold count in refl) in omega arith)

    -- again and again, the coefficient not being -1
    ends :
        (most : ℕ) (c : ℤ) (r : List Tree) → Small c → eq_int c (negsuc 0) ≡ false → All Alone r → 2 * length (with_name r) ≤ most + count (Sym n) (with_name r)
        → rep (built c (with_name r)) ≡ (each rep (take_out most n ts (with_name r)).factors >>= λ l. ok (built c l))
    unfolding take_out once_more
    ends zero c r h d a b = (let x = name_length r in let y = count_most (Sym n) (with_name r) in absurd (omega arith))
    ends (suc most) c r h d a b = go (λ s x y. ends most c s h d x y) (remove_each ts (with_name r)) refl
      where
        all : All Alone (with_name r)
        all = append_all Alone r (Sym n ∷ []) a (name_alone n, tt)

        go : ((s : List Tree) → All Alone s → 2 * length (with_name s) ≤ most + count (Sym n) (with_name s)
            → rep (built c (with_name s)) ≡ (each rep (take_out most n ts (with_name s)).factors >>= λ l. ok (built c l)))
            → (o : Option (List Tree)) → remove_each ts (with_name r) ≡ o
            → let q : Taken = elim o [ none ↦ record { factors = with_name r; times = 0 } | some s ↦ once_more (take_out most n ts (with_name s)) ] in
            rep (built c (with_name r)) ≡ (each rep q.factors >>= λ l. ok (built c l))
        go i none q = plain c (with_name r) all (let x = name_length r in omega arith) q
        go i (some s) q =
            (let x = rest_of Alone ts (with_name r) s q in
            let len = x.1 in
            let cnt = count_of_rest (Sym n) ts (with_name r) s q in
            let en = enough in
            let l1 = name_length r in
            let c1 = name_count r in
            let l2 = name_length s in
            let c2 = name_count s in
            let u = count_most (Sym n) s in
            again c (with_name r) s h d all (omega arith) q ∙ i s (x.0 all) (omega arith))

    minus_built : (l : List Tree) → 1 ≤ length l → built (negsuc 0) l ≡ Op Neg (built (pos 1) l ◂ nil)
    unfolding built with_coefficient eq_int
    minus_built [] h = absurd (omega arith)
    minus_built (t ∷ l) h = refl

    -- there is a factor however often the target is taken out
    taken_some : (most : ℕ) (l : List Tree) → 1 ≤ length l → 1 ≤ length (take_out most n ts l).factors
    unfolding take_out once_more
    taken_some zero l h = h
    taken_some (suc most) l h = go (λ s. taken_some most (with_name s) (let x = name_length s in omega arith)) (remove_each ts l)
      where
        go : ((s : List Tree) → 1 ≤ length (take_out most n ts (with_name s)).factors) → (o : Option (List Tree))
            → 1 ≤ length (elim o as (λ _. Taken) [ none ↦ record { factors = l; times = 0 } | some s ↦ once_more (take_out most n ts (with_name s)) ]).factors
        go i none = h
        go i (some s) = i s

    minus_ends :
        (most : ℕ) (r : List Tree) → All Alone r → 2 * length (with_name r) ≤ most + count (Sym n) (with_name r)
        → rep (built (negsuc 0) (with_name r)) ≡ (each rep (take_out most n ts (with_name r)).factors >>= λ l. ok (built (negsuc 0) l))
    minus_ends most r a b =
        let l = with_name r in
        let q = (take_out most n ts l).factors in
        let some_there : 1 ≤ length l = (let x = name_length r in omega arith) in
        ap rep (minus_built l some_there)
        ∙ minus_plain (built (pos 1) l) (built_factors (pos 1) l (each_all Alone Factor alone_factor l (append_all Alone r (Sym n ∷ []) a (name_alone n, tt)))).1
        ∙ ap (λ (o : Outcome Tree). o >>= λ u. ok (Op Neg (u ◂ nil))) (ends most (pos 1) r one_small (unfold eq_int in refl) a b)
        ∙ then_then (each rep q) (λ l. ok (built (pos 1) l)) (λ u. ok (Op Neg (u ◂ nil)))
        ∙ then_known (each rep q) (λ l. ok (Op Neg (built (pos 1) l ◂ nil))) (λ l. ok (built (negsuc 0) l))
        (λ m e. ap ok (sym (minus_built m (let x = each_long rep q m e in let y = taken_some most l some_there in omega arith))))

    all_ends :
        (most : ℕ) (c : ℤ) (r : List Tree) → Small c → All Alone r → 2 * length (with_name r) ≤ most + count (Sym n) (with_name r)
        → rep (built c (with_name r)) ≡ (each rep (take_out most n ts (with_name r)).factors >>= λ l. ok (built c l))
    all_ends most c r h a b = go (eq_int c (negsuc 0)) refl
      where
        go : (d : Bool) → eq_int c (negsuc 0) ≡ d → rep (built c (with_name r)) ≡ (each rep (take_out most n ts (with_name r)).factors >>= λ l. ok (built c l))
        go true q =
            subst (λ (z : ℤ). rep (built z (with_name r)) ≡ (each rep (take_out most n ts (with_name r)).factors >>= λ l. ok (built z l)))
            (sym (eq_int_sound c (negsuc 0) (subst T (sym q) tt))) (minus_ends most r a b)
        go false q = ends most c r h q a b

    -- ---- a product, whichever it is

    module _ (f : Forest) (w : T (well_formed (Op Mul f))) (e : eq_tree (Op Mul f) target ≡ false) where
      abbrev otherwise : Outcome Tree
      otherwise = each_operand rep f >>= λ h. ok (Op Mul h)

      abbrev coefficient : Float
      coefficient = (flatten_mul_factors (Op Mul f)).coefficient

      abbrev rebuilt_from : Taken → Outcome Tree
      rebuilt_from q = rebuilt rep coefficient q.factors q.times otherwise

      at_most : (most : ℕ) → 2 * length (factors_of (Op Mul f)) ≤ most → rep (Op Mul f) ≡ rebuilt_from (take_out most n ts (factors_of (Op Mul f)))
      unfolding take_out once_more rebuilt
      at_most zero b = without_match Mul f w (ap (remove_each ts) (empty_list (factors_of (Op Mul f)) (omega arith)) ∙ none_empty ts (let h = enough in omega arith))
      at_most (suc most) b = go (remove_each ts (factors_of (Op Mul f))) refl
        where
          go : (o : Option (List Tree)) → remove_each ts (factors_of (Op Mul f)) ≡ o
              → rep (Op Mul f) ≡ rebuilt_from (elim o [ none ↦ record { factors = factors_of (Op Mul f); times = 0 } | some s ↦ once_more (take_out most n ts (with_name s)) ])
          go none q = without_match Mul f w q
          go (some s) q =
              let x = rest_of Alone ts (factors_of (Op Mul f)) s q in
              with_match f s w e q
              ∙ then_known (constant_of coefficient) (λ c. rep (built c (with_name s))) (λ c. each rep (take_out most n ts (with_name s)).factors >>= λ l. ok (built c l))
              (λ c z. all_ends most c s (accepted_small coefficient c z) (x.0 (factors_alone (Op Mul f) w))
              (let y = x.1 in let h = enough in let l = name_length s in let k = name_count s in omega arith))

      -- rebuilt once
      pub at_product : rep (Op Mul f) ≡ rebuilt_from (taken n ts (factors_of (Op Mul f)))
      unfolding taken
      at_product = at_most (2 * length (factors_of (Op Mul f))) (omega arith)
