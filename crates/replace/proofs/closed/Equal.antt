-- `replace` is the closed form, for trees with as many operands as their kinds have and any target but an endless one. Assumes nothing.
use Rattle.std.proofs.Common.{◌≡◌, ℕ, zero, suc, ◌+◌, ◌*◌, ◌≤◌, Bool, true, false, ◌&&◌, T, eqb, ◌⊎◌, List, [], ◌∷◌, ◌++◌, length, sym, refl, ap, ◌∙◌, subst, ap₂, inl, inr, append_assoc, append-nil, arith, eqb→eq}
use mathlib.Core.Option.{Option, none, some}
use lib.Ieee as Ieee
use lib.Ieee.{Float}
use Rattle.spec_tree.specs.Outcome.{Outcome, ok, ◌>>=◌, each}
use Rattle.spec_tree.specs.Tree.{Name, Tree, Forest, Sym, Const, Op, nil, ◌◂◌, eq_tree}
use Rattle.spec_tree.specs.Kinds.{Neg, Mul, arity_ok}
use Rattle.spec_tree.specs.Facts.{count}
use Rattle.spec_tree.proofs.Formed.{operand_count, well_formed, well_formed_each}
use Rattle.spec_tree.proofs.TreeLaws.{eq_tree_sound, eq_tree_refl}
use Rattle.spec_tree.proofs.Logic.{and_left, and_right}
use Rattle.spec_rewrite.specs.Rewrite.{Factors, one, flatten_mul_factors, flatten_operands, flatten_after, times, negated, constant_of, built, remove_each, is_mul, match_factors, each_operand, replace}
use Rattle.spec_rewrite.proofs.Measure.{count_cons}
use Rattle.spec_rewrite.proofs.Factors.{All, Product, factors_of, append_all}
use Rattle.spec_rewrite.proofs.Counts.{one_cases, one_le}
use Rattle.replace.specs.closed.Closed.{Taken, once_more, take_out, taken, by_factors, lone, endless, rebuilt, Rewriting, becomes_in, closed, closed_each, rewritings, rewritings_of}
use Rattle.replace.proofs.closed.Taken.{rest_of}
use Rattle.replace.proofs.closed.Spine.{each_all}
use Rattle.replace.proofs.closed.Steps.{at_operation, at_op}
use Rattle.replace.proofs.closed.Products.{count_most, at_symbol, at_constant, at_other, at_unmatched, no_match, name_stays, at_product}

-- ---- what is there was there, or is the name

pub taken_all : (P : Tree → Type 0) (n : Name) → P (Sym n) → (most : ℕ) (ts l : List Tree) → All P l → All P (take_out most n ts l).factors
unfolding take_out once_more
taken_all P n h zero ts l a = a
taken_all P n h (suc most) ts l a = go (λ s. taken_all P n h most ts (s ++ (Sym n ∷ []))) (remove_each ts l) refl
  where
    go : ((s : List Tree) → All P (s ++ (Sym n ∷ [])) → All P (take_out most n ts (s ++ (Sym n ∷ []))).factors) → (o : Option (List Tree)) → remove_each ts l ≡ o
        → All P (elim o as (λ _. Taken) [ none ↦ record { factors = l; times = 0 } | some s ↦ once_more (take_out most n ts (s ++ (Sym n ∷ []))) ]).factors
    go i none q = a
    go i (some s) q = i s (append_all P s (Sym n ∷ []) ((rest_of P ts l s q).0 a) (h, tt))

-- ---- what a factor becomes

abbrev In : Tree → List Rewriting → Type 0
In t [] = ⊥
In t (p ∷ l) = (p.factor ≡ t) ⊎ In t l

abbrev names_of : List Rewriting → List Tree
names_of [] = []
names_of (p ∷ l) = p.factor ∷ names_of l

all_in : (l : List Rewriting) → All (λ t. In t l) (names_of l)
all_in [] = tt
all_in (p ∷ l) = (inl refl, each_all (λ t. In t l) (λ t. In t (p ∷ l)) (λ t h. inr h) (names_of l) (all_in l))

-- each rewriting is g's
abbrev Right : (Tree → Outcome Tree) → List Rewriting → Type 0
Right g [] = Unit {0}
Right g (p ∷ l) = (p.becomes ≡ g p.factor) × Right g l

right_append : (g : Tree → Outcome Tree) (l m : List Rewriting) → Right g l → Right g m → Right g (l ++ m)
right_append g [] m a b = b
right_append g (p ∷ l) m a b = (a.0, right_append g l m a.1 b)

becomes_right : (g : Tree → Outcome Tree) (l : List Rewriting) → Right g l → (t : Tree) → In t l → becomes_in l t ≡ g t
unfolding becomes_in
becomes_right g [] a t h = absurd h
becomes_right g (p ∷ l) a t h = go (eq_tree p.factor t) refl h (becomes_right g l a.1 t)
  where
    later : In t (p ∷ l) → (p.factor ≡ t → ⊥) → In t l
    later (inl q) f = absurd (f q)
    later (inr h) f = h

    go : (b : Bool) → eq_tree p.factor t ≡ b → In t (p ∷ l) → (In t l → becomes_in l t ≡ g t)
        → ◌≡◌ {A = Outcome Tree} (elim b [ true ↦ p.becomes | false ↦ becomes_in l t ]) (g t)
    go true q h i = a.0 ∙ ap g (eq_tree_sound p.factor t (subst T (sym q) tt))
    go false q h i = i (later h (λ e. subst T (ap (eq_tree p.factor) e ∙ q) (eq_tree_refl p.factor)))

-- whatever stays stays where it has no rewriting
becomes_stays : (g : Tree → Outcome Tree) (l : List Rewriting) → Right g l → (t : Tree) → g t ≡ ok t → becomes_in l t ≡ g t
unfolding becomes_in
becomes_stays g [] a t h = sym h
becomes_stays g (p ∷ l) a t h = go (eq_tree p.factor t) refl (becomes_stays g l a.1 t h)
  where
    go : (b : Bool) → eq_tree p.factor t ≡ b → becomes_in l t ≡ g t → ◌≡◌ {A = Outcome Tree} (elim b [ true ↦ p.becomes | false ↦ becomes_in l t ]) (g t)
    go true q i = a.0 ∙ ap g (eq_tree_sound p.factor t (subst T (sym q) tt))
    go false q i = i

each_same : (g h : Tree → Outcome Tree) (l : List Tree) → All (λ t. g t ≡ h t) l → each g l ≡ each h l
unfolding each
each_same g h [] a = refl
each_same g h (t ∷ l) a = ap₂ (λ (o : Outcome Tree) (p : Outcome (List Tree)). o >>= λ u. p >>= λ r. ok (u ∷ r)) a.0 (each_same g h l a.1)

rebuilt_same :
    (g h : Tree → Outcome Tree) (x : Float) (l : List Tree) (times : ℕ) (o p : Outcome Tree) → All (λ t. g t ≡ h t) l → o ≡ p → rebuilt g x l times o ≡ rebuilt h x l times p
unfolding rebuilt
rebuilt_same g h x l zero o p a e = e
rebuilt_same g h x l (suc k) o p a e = ap (λ (q : Outcome (List Tree)). constant_of x >>= λ c. q >>= λ m. ok (built c m)) (each_same g h l a)

-- ---- the factors that the closed form lists

module _ (target : Tree) (n : Name) where
  abbrev rs : Tree → List Rewriting
  rs = rewritings target n

  abbrev rs_of : Forest → List Rewriting
  rs_of = rewritings_of target n

  names_append : (l m : List Rewriting) → names_of (l ++ m) ≡ names_of l ++ names_of m
  names_append [] m = refl
  names_append (p ∷ l) m = ap (λ (x : List Tree). p.factor ∷ x) (names_append l m)

  names_node :
      (k : ℕ) (f : Forest) (b d : Bool) (o : Outcome Tree) → names_of (rs_of f) ≡ (flatten_operands f).factors
      → names_of (elim b as (λ _. List Rewriting) [ true ↦ rs_of f | false ↦ elim d [ true ↦ rs_of f | false ↦ record { factor = Op k f; becomes = o } ∷ [] ] ])
      ≡ (elim b as (λ _. Factors) [ true ↦ flatten_operands f | false ↦ elim d [ true ↦ negated (flatten_operands f) | false ↦ record { coefficient = one; factors = Op k f ∷ [] } ] ]).factors
  unfolding negated
  names_node k f true d o h = h
  names_node k f false true o h = h
  names_node k f false false o h = refl

  mutual
    unfolding closed flatten_mul_factors times

    names_tree : (t : Tree) → names_of (rs t) ≡ factors_of t
    names_tree (Sym s) = refl
    names_tree (Const c) = refl
    names_tree (Op k f) = names_node k f (eqb k Mul) (eqb k Neg) _ (names_operands f)

    names_operands : (f : Forest) → names_of (rs_of f) ≡ (flatten_operands f).factors
    names_operands nil = refl
    names_operands (t ◂ f) =
        names_append (rs t) (rs_of f) ∙ ap (λ (l : List Tree). l ++ names_of (rs_of f)) (names_tree t) ∙ sym (names_after f (flatten_mul_factors t))

    names_after : (f : Forest) (p : Factors) → (flatten_after f p).factors ≡ p.factors ++ names_of (rs_of f)
    names_after nil p = sym (append-nil p.factors)
    names_after (t ◂ f) p =
        names_after f (times p (flatten_mul_factors t))
        ∙ append_assoc p.factors (factors_of t) (names_of (rs_of f))
        ∙ ap (λ (l : List Tree). p.factors ++ l) (ap (λ (l : List Tree). l ++ names_of (rs_of f)) (sym (names_tree t)) ∙ sym (names_append (rs t) (rs_of f)))

-- ---- a node, where its operands are known

unequal : (b c : Bool) → (b && c) ≡ false → (b ≡ false) ⊎ (c ≡ false)
unequal true c e = inr e
unequal false c e = inl refl

both_true : (b c : Bool) → (b && c) ≡ true → T b × T c
both_true true true e = (tt, tt)
both_true true false e = (let z : ◌≡◌ {A = ℕ} 0 1 = cc in absurd (omega arith))
both_true false c e = (let z : ◌≡◌ {A = ℕ} 0 1 = cc in absurd (omega arith))

module _ (target : Tree) (n : Name) (several : Product target → 2 + count (Sym n) (factors_of target) ≤ 2 * length (factors_of target)) where
  abbrev rep : Tree → Outcome Tree
  rep = replace target n

  abbrev ts : List Tree
  ts = factors_of target

  node_target : (k : ℕ) (f : Forest) → T (well_formed (Op k f)) → eq_tree (Op k f) target ≡ true → rep (Op k f) ≡ ok (Sym n)
  node_target k f w e =
      at_op target n several k f w ∙ ap (λ (b : Bool). at_operation target n rep k f b (eqb k Mul) (match_factors target n (Op k f))) e

  abbrev product_form : Forest → Outcome Tree → Outcome Tree
  product_form f o =
      (let q = taken n ts (flatten_operands f).factors in
      rebuilt (becomes_in (rs_of target n f)) (flatten_operands f).coefficient q.factors q.times o)

  product_is :
      (f : Forest) → T (well_formed (Op Mul f)) → eq_tree (Op Mul f) target ≡ false → T (by_factors target) → Right rep (rs_of target n f)
      → rep (Op Mul f) ≡ product_form f (each_operand rep f >>= λ g. ok (Op Mul g))
  unfolding flatten_mul_factors taken
  product_is f w e p r =
      at_product target n several p f w e
      ∙ rebuilt_same rep (becomes_in (rs_of target n f)) (flatten_operands f).coefficient (taken n ts (flatten_operands f).factors).factors (taken n ts (flatten_operands f).factors).times
      (each_operand rep f >>= λ g. ok (Op Mul g)) (each_operand rep f >>= λ g. ok (Op Mul g))
      (taken_all same n (sym (becomes_stays rep (rs_of target n f) r (Sym n) (name_stays target n several p))) (2 * length (flatten_operands f).factors) ts (flatten_operands f).factors
      (subst (All same) (names_operands target n f)
      (each_all (λ t. In t (rs_of target n f)) same (λ t h. sym (becomes_right rep (rs_of target n f) r t h)) (names_of (rs_of target n f)) (all_in (rs_of target n f)))))
      refl
    where
      same : Tree → Type 0
      same t = rep t ≡ becomes_in (rs_of target n f) t

  node_is :
      (k : ℕ) (f : Forest) → T (well_formed (Op k f)) → each_operand rep f ≡ closed_each target n f → Right rep (rs_of target n f) → rep (Op k f) ≡ closed target n (Op k f)
  unfolding closed
  node_is k f w i r = go (eq_tree (Op k f) target) refl (eqb k Mul && by_factors target) refl
    where
      below : (each_operand rep f >>= λ g. ok (Op k g)) ≡ (closed_each target n f >>= λ g. ok (Op k g))
      below = ap (λ (o : Outcome Forest). o >>= λ g. ok (Op k g)) i

      plain : eq_tree (Op k f) target ≡ false → (eqb k Mul ≡ false) ⊎ (by_factors target ≡ false) → rep (Op k f) ≡ (closed_each target n f >>= λ g. ok (Op k g))
      plain e (inl q) = at_other target n several k f w e q ∙ below
      plain e (inr q) = at_unmatched target n several k f w e (no_match target n several q (Op k f)) ∙ below

      go : (b : Bool) → eq_tree (Op k f) target ≡ b → (d : Bool) → (eqb k Mul && by_factors target) ≡ d
          → ◌≡◌ {A = Outcome Tree} (rep (Op k f))
          (elim b [
            | true ↦ ok (Sym n)
            | false ↦ elim d [
              | true ↦ product_form f (closed_each target n f >>= λ g. ok (Op k g))
              | false ↦ (closed_each target n f >>= λ g. ok (Op k g))
            ]
          ])
      go true e d q = node_target k f w e
      go false e false q = plain e (unequal (eqb k Mul) (by_factors target) q)
      go false e true q =
          let t = both_true (eqb k Mul) (by_factors target) q in
          let m = eqb→eq k Mul t.0 in
          subst (λ (j : ℕ). T (well_formed (Op j f)) → eq_tree (Op j f) target ≡ false → rep (Op j f) ≡ product_form f (each_operand rep f >>= λ g. ok (Op j g))) (sym m)
          (λ v h. product_is f v h t.1 r) w e
          ∙ ap (product_form f) below

  -- a factor that is an operation is no product
  factor_is :
      (k : ℕ) (f : Forest) → T (well_formed (Op k f)) → each_operand rep f ≡ closed_each target n f → eqb k Mul ≡ false
      → elim (eq_tree (Op k f) target) as (λ _. Outcome Tree) [ true ↦ ok (Sym n) | false ↦ (closed_each target n f >>= λ g. ok (Op k g)) ] ≡ rep (Op k f)
  factor_is k f w i q = go (eq_tree (Op k f) target) refl
    where
      go : (b : Bool) → eq_tree (Op k f) target ≡ b
          → ◌≡◌ {A = Outcome Tree} (elim b [ true ↦ ok (Sym n) | false ↦ (closed_each target n f >>= λ g. ok (Op k g)) ]) (rep (Op k f))
      go true e = sym (node_target k f w e)
      go false e = sym (at_other target n several k f w e q ∙ ap (λ (o : Outcome Forest). o >>= λ g. ok (Op k g)) i)

  right_node :
      (k : ℕ) (f : Forest) → T (well_formed (Op k f)) → each_operand rep f ≡ closed_each target n f → Right rep (rs_of target n f) → Right rep (rs target n (Op k f))
  unfolding closed
  right_node k f w i r = go (eqb k Mul) refl (eqb k Neg)
    where
      go : (b : Bool) → eqb k Mul ≡ b → (d : Bool)
          → Right rep
          (elim b [
            | true ↦ rs_of target n f
            | false ↦ elim d [
              | true ↦ rs_of target n f
              | false ↦ record {
                factor = Op k f;
                becomes = elim (eq_tree (Op k f) target) [ true ↦ ok (Sym n) | false ↦ (closed_each target n f >>= λ g. ok (Op k g)) ];
              }
                  ∷ []
            ]
          ])
      go true q d = r
      go false q true = r
      go false q false = (factor_is k f w i q, tt)

  mutual
    unfolding closed each_operand well_formed

    pub tree_is : (e : Tree) → T (well_formed e) → rep e ≡ closed target n e
    tree_is (Sym s) w = at_symbol target n s
    tree_is (Const c) w = at_constant target n c
    tree_is (Op k f) w =
        let v = and_right (arity_ok k (operand_count f)) (well_formed_each f) w in
        node_is k f w (operands_are f v) (right_operands f v)

    operands_are : (f : Forest) → T (well_formed_each f) → each_operand rep f ≡ closed_each target n f
    operands_are nil w = refl
    operands_are (t ◂ f) w =
        ap₂ (λ (a : Outcome Tree) (b : Outcome Forest). a >>= λ u. b >>= λ r. ok (u ◂ r)) (tree_is t (and_left (well_formed t) (well_formed_each f) w))
        (operands_are f (and_right (well_formed t) (well_formed_each f) w))

    right_tree : (e : Tree) → T (well_formed e) → Right rep (rs target n e)
    right_tree (Sym s) w = (sym (at_symbol target n s), tt)
    right_tree (Const c) w = tt
    right_tree (Op k f) w =
        let v = and_right (arity_ok k (operand_count f)) (well_formed_each f) w in
        right_node k f w (operands_are f v) (right_operands f v)

    right_operands : (f : Forest) → T (well_formed_each f) → Right rep (rs_of target n f)
    right_operands nil w = tt
    right_operands (t ◂ f) w =
        right_append rep (rs target n t) (rs_of target n f) (right_tree t (and_left (well_formed t) (well_formed_each f) w))
        (right_operands f (and_right (well_formed t) (well_formed_each f) w))

-- ---- targets that are not endless

lone_or_several : (n : Name) (l : List Tree) → lone n l ≡ false → 2 + count (Sym n) l ≤ 2 * length l
unfolding lone count
lone_or_several n [] e = (let z : ◌≡◌ {A = ℕ} 0 1 = cc in absurd (omega arith))
lone_or_several n (t ∷ []) e = (let a = count_cons (Sym n) t [] in let b = one_cases t (Sym n) false e in let c : count (Sym n) [] ≡ 0 = refl in omega arith)
lone_or_several n (t ∷ (u ∷ l)) e =
    (let a = count_cons (Sym n) t (u ∷ l) in let b = one_le t (Sym n) in let c = count_cons (Sym n) u l in let d = one_le u (Sym n) in let f = count_most (Sym n) l in omega arith)

pub ends_several : (target : Tree) (n : Name) → endless target n ≡ false → Product target → 2 + count (Sym n) (factors_of target) ≤ 2 * length (factors_of target)
unfolding endless by_factors
ends_several target n e p = lone_or_several n (factors_of target) (go (is_mul target && Ieee.eq (flatten_mul_factors target).coefficient one) p e)
  where
    go : (b : Bool) → T b → (b && lone n (factors_of target)) ≡ false → lone n (factors_of target) ≡ false
    go true t q = q
    go false t q = absurd t

-- one with a factor, of which none is the name
pub several_ends : (target : Tree) (n : Name) → 1 ≤ length (factors_of target) → count (Sym n) (factors_of target) ≡ 0 → endless target n ≡ false
unfolding endless
several_ends target n h k = go (by_factors target) (lone n (factors_of target)) (not_lone n (factors_of target) h k)
  where
    go : (b c : Bool) → c ≡ false → (b && c) ≡ false
    go true c e = e
    go false c e = refl

    not_lone : (n : Name) (l : List Tree) → 1 ≤ length l → count (Sym n) l ≡ 0 → lone n l ≡ false
    not_lone n [] p z = absurd (omega arith)
    not_lone n (t ∷ []) p z = (unfold lone in by (eq_tree t (Sym n)) refl)
      where
        by : (b : Bool) → eq_tree t (Sym n) ≡ b → b ≡ false
        by true e = (let a = count_cons (Sym n) t [] in let b = one_cases t (Sym n) true e in absurd (omega arith))
        by false e = refl
    not_lone n (t ∷ (u ∷ l)) p z = (unfold lone in refl)

-- the law
pub replace_closed : (target : Tree) (n : Name) → endless target n ≡ false → (e : Tree) → T (well_formed e) → replace target n e ≡ closed target n e
replace_closed target n k e w = tree_is target n (ends_several target n k) e w
