-- Divisors replaced one after another are replaced all at once (specs, Dividing), where no divisor holds a name that a rule puts in. Assumes nothing.
use Prim.Native.Nat.{ℕ, suc, ◌+◌, ◌≤◌, ◌<◌, min}
use native.Mathlib.Omega.{arith}
use mathlib.Core.Path.{◌≡◌, refl, sym, ◌∙◌, ap, ap₂, subst}
use mathlib.Core.Bool.{Bool, true, false, ◌&&◌}
use mathlib.Core.Option.{Option, none, some}
use lib.Dec.{T, eqb, ltb, lt→ltb}
use Rattle.spec_tree.proofs.Tests.{is_true}
use Rattle.spec_tree.specs.Tree.{Name, Tree, Forest, Sym, Const, Op, nil, ◌◂◌, fold, folds, eq_tree}
use Rattle.spec_tree.specs.Kinds.{Mul, Div}
use Rattle.spec_tree.specs.Facts.{size, total}
use Rattle.spec_tree.proofs.TreeLaws.{eq_tree_sound, eq_tree_refl}
use Rattle.spec_tree.proofs.Logic.{and_left, and_right}
use Rattle.spec_rewrite.specs.Rewrite.{divides_by, replace_divisor, replace_divisors, dividend}
use Rattle.spec_rewrite.proofs.Names.{holds, holds_each}
use Rattle.reciprocals.specs.atonce.Rules.{rule_of, Ranked, in_turn}
use Rattle.reciprocals.specs.atonce.Dividing.{own_rule, change, changes, replaced, settled, settled_each, settled_dividend}
use Rattle.reciprocals.proofs.atonce.Bits.{either, no_less}
use Rattle.reciprocals.proofs.atonce.RuleLaws.{rule_least, rule_next, rule_target, rule_tree, rule_unranked, Alike}
use Rattle.reciprocals.proofs.atonce.Turns.{turns_at_once, turns_stay, turns_move}

-- ---- a tree no larger than the divisor holds no division by it

module _ (d : Tree) (n : Name) where
  small_step : (k : ℕ) (f : Forest) (b : Bool) → (T b → ⊥) → replace_divisors d n f ≡ f → elim b [ true ↦ Op Mul (dividend d n f) | false ↦ Op k (replace_divisors d n f) ] ≡ Op k f
  small_step k f true h e = absurd (h tt)
  small_step k f false h e = ap (Op k) e

  abbrev sizes : Forest → ℕ
  sizes f = total (folds (λ n. 1) (λ c. 1) (λ k l. suc (total l)) f)

  same_size : (b : Tree) → T (eq_tree b d) → size b ≡ size d
  same_size b t = ap size (eq_tree_sound b d t)

  too_large : (f : Forest) → sizes f < size d → T (divides_by d f) → ⊥
  unfolding divides_by size fold total
  too_large nil h t = t
  too_large (a ◂ nil) h t = t
  too_large (a ◂ (b ◂ f)) h t = (let e = same_size b t in omega arith)

  mutual
    unfolding replace_divisor size fold total

    small : (t : Tree) → size t ≤ size d → replace_divisor d n t ≡ t
    small (Sym s) h = refl
    small (Const c) h = refl
    small (Op k f) h =
        small_step k f (eqb k Div && divides_by d f) (λ t. too_large f (omega arith) (and_right (eqb k Div) (divides_by d f) t)) (small_each f (omega arith))

    small_each : (f : Forest) → sizes f ≤ size d → replace_divisors d n f ≡ f
    small_each nil h = refl
    small_each (t ◂ f) h = ap₂ ◌◂◌ (small t (omega arith)) (small_each f (omega arith))

  pub own_stays : replace_divisor d n d ≡ d
  own_stays = small d (omega arith)

-- ---- replacing divisors lowers the number of divisions

unfoldable mutual
  divisions : Tree → ℕ
  divisions (Sym n) = 0
  divisions (Const c) = 0
  divisions (Op k f) = elim (eqb k Div) [ true ↦ suc (divisions_of f) | false ↦ divisions_of f ]

  divisions_of : Forest → ℕ
  divisions_of nil = 0
  divisions_of (t ◂ f) = divisions t + divisions_of f

divisions_op : (k : ℕ) (f : Forest) → divisions_of f ≤ divisions (Op k f)
unfolding divisions
divisions_op k f = go (eqb k Div)
  where
    go : (b : Bool) → divisions_of f ≤ elim b [ true ↦ suc (divisions_of f) | false ↦ divisions_of f ]
    go true = omega arith
    go false = omega arith

divisions_same : (k : ℕ) (f g : Forest) → divisions_of f ≤ divisions_of g → divisions (Op k f) ≤ divisions (Op k g)
unfolding divisions
divisions_same k f g h = go (eqb k Div)
  where
    go : (b : Bool) → elim b [ true ↦ suc (divisions_of f) | false ↦ divisions_of f ] ≤ elim b [ true ↦ suc (divisions_of g) | false ↦ divisions_of g ]
    go true = omega arith
    go false = h

divisions_fewer : (k : ℕ) (f g : Forest) → divisions_of f < divisions_of g → divisions (Op k f) < divisions (Op k g)
unfolding divisions
divisions_fewer k f g h = go (eqb k Div)
  where
    go : (b : Bool) → elim b [ true ↦ suc (divisions_of f) | false ↦ divisions_of f ] < elim b [ true ↦ suc (divisions_of g) | false ↦ divisions_of g ]
    go true = omega arith
    go false = h

divisions_mul : (f : Forest) → divisions (Op Mul f) ≡ divisions_of f
unfolding divisions
divisions_mul f = refl

divisions_div : (k : ℕ) (f : Forest) → T (eqb k Div) → divisions (Op k f) ≡ suc (divisions_of f)
unfolding divisions
divisions_div k f t = ap (λ (b : Bool). elim b as (λ _. ℕ) [ true ↦ suc (divisions_of f) | false ↦ divisions_of f ]) (is_true (eqb k Div) t)

module _ (d : Tree) (n : Name) where
  lower_step :
      (k : ℕ) (f : Forest) (b : Bool) → (T b → T (eqb k Div)) → divisions_of (dividend d n f) ≤ divisions_of f → divisions_of (replace_divisors d n f) ≤ divisions_of f
      → divisions (elim b [ true ↦ Op Mul (dividend d n f) | false ↦ Op k (replace_divisors d n f) ]) ≤ divisions (Op k f)
  lower_step k f true t g h = omega (arith, divisions_mul (dividend d n f), divisions_op k f)
  lower_step k f false t g h = divisions_same k (replace_divisors d n f) f h

  mutual
    unfolding replace_divisor divisions

    divisions_lower : (t : Tree) → divisions (replace_divisor d n t) ≤ divisions t
    divisions_lower (Sym s) = omega arith
    divisions_lower (Const c) = omega arith
    divisions_lower (Op k f) = lower_step k f (eqb k Div && divides_by d f) (and_left (eqb k Div) (divides_by d f)) (dividend_lower f) (divisions_each f)

    divisions_each : (f : Forest) → divisions_of (replace_divisors d n f) ≤ divisions_of f
    divisions_each nil = omega arith
    divisions_each (t ◂ f) = omega (arith, divisions_lower t, divisions_each f)

    dividend_lower : (f : Forest) → divisions_of (dividend d n f) ≤ divisions_of f
    dividend_lower nil = omega arith
    dividend_lower (t ◂ f) = omega (arith, divisions_lower t)

-- ---- rules by rank

module _ (rank : Tree → Option ℕ) (target : ℕ → Tree) (m : ℕ) (ranked : Ranked rank target m) where
  -- ---- the first rule that changes a tree

  own_least : (s : ℕ) → s ≤ m → (k : ℕ) (f : Forest) → s ≤ own_rule rank m s k f
  unfolding own_rule
  own_least s h k nil = h
  own_least s h k (a ◂ nil) = h
  own_least s h k (a ◂ (b ◂ f)) = go (eqb k Div)
    where
      go : (c : Bool) → s ≤ elim c [ true ↦ rule_of rank m s b | false ↦ m ]
      go true = rule_least rank target m ranked s h b
      go false = h

  mutual
    unfolding change

    pub change_least : (s : ℕ) → s ≤ m → (t : Tree) → s ≤ change rank m s t
    change_least s h (Sym n) = h
    change_least s h (Const c) = h
    change_least s h (Op k f) = omega (arith, own_least s h k f, changes_least s h f)

    pub changes_least : (s : ℕ) → s ≤ m → (f : Forest) → s ≤ changes rank m s f
    changes_least s h nil = h
    changes_least s h (t ◂ f) = omega (arith, change_least s h t, changes_least s h f)

  mutual
    unfolding change

    pub change_most : (s : ℕ) (t : Tree) → change rank m s t ≤ m
    change_most s (Sym n) = omega arith
    change_most s (Const c) = omega arith
    change_most s (Op k f) = omega (arith, changes_most s f)

    pub changes_most : (s : ℕ) (f : Forest) → changes rank m s f ≤ m
    changes_most s nil = omega arith
    changes_most s (t ◂ f) = omega (arith, change_most s t)

  -- a rule that doesn't change a tree may be left out
  own_next : (s : ℕ) (k : ℕ) (f : Forest) → s < own_rule rank m s k f → own_rule rank m (suc s) k f ≡ own_rule rank m s k f
  unfolding own_rule
  own_next s k nil h = refl
  own_next s k (a ◂ nil) h = refl
  own_next s k (a ◂ (b ◂ f)) h = go (eqb k Div) h
    where
      go : (c : Bool) → s < elim c [ true ↦ rule_of rank m s b | false ↦ m ]
          → ◌≡◌ {A = ℕ} (elim c [ true ↦ rule_of rank m (suc s) b | false ↦ m ]) (elim c [ true ↦ rule_of rank m s b | false ↦ m ])
      go true h = rule_next rank target m ranked s b h
      go false h = refl

  mutual
    unfolding change

    pub change_next : (s : ℕ) (t : Tree) → s < change rank m s t → change rank m (suc s) t ≡ change rank m s t
    change_next s (Sym n) h = refl
    change_next s (Const c) h = refl
    change_next s (Op k f) h = ap₂ min (own_next s k f (omega arith)) (changes_next s f (omega arith))

    pub changes_next : (s : ℕ) (f : Forest) → s < changes rank m s f → changes rank m (suc s) f ≡ changes rank m s f
    changes_next s nil h = refl
    changes_next s (t ◂ f) h = ap₂ min (change_next s t (omega arith)) (changes_next s f (omega arith))

  -- ---- a node's own rule is the one that replaces it

  divides_own : (s k : ℕ) → s < m → (f : Forest) → T (eqb k Div && divides_by (target s) f) → own_rule rank m s k f ≡ s
  unfolding own_rule divides_by
  divides_own s k l nil t = absurd (and_right (eqb k Div) false t)
  divides_own s k l (a ◂ nil) t = absurd (and_right (eqb k Div) false t)
  divides_own s k l (a ◂ (b ◂ f)) t = go (eqb k Div) (and_left (eqb k Div) (eq_tree b (target s)) t)
    where
      go : (c : Bool) → T c → ◌≡◌ {A = ℕ} (elim c [ true ↦ rule_of rank m s b | false ↦ m ]) s
      go true u =
          ap (rule_of rank m s) (eq_tree_sound b (target s) (and_right (eqb k Div) (eq_tree b (target s)) t)) ∙ rule_target rank target m ranked s s (omega arith) l
      go false u = absurd u

  own_divides : (s k : ℕ) → s < m → (f : Forest) → own_rule rank m s k f ≡ s → T (eqb k Div && divides_by (target s) f)
  unfolding own_rule divides_by
  own_divides s k l nil e = absurd (omega arith)
  own_divides s k l (a ◂ nil) e = absurd (omega arith)
  own_divides s k l (a ◂ (b ◂ f)) e = go (eqb k Div) e
    where
      go : (c : Bool) → ◌≡◌ {A = ℕ} (elim c [ true ↦ rule_of rank m s b | false ↦ m ]) s → T (c && eq_tree b (target s))
      go true e = subst (λ (t : Tree). T (eq_tree b t)) (rule_tree rank target m ranked s b s l e) (eq_tree_refl b)
      go false e = absurd (omega arith)

  module _ (name : ℕ → Name) where
    -- rule s
    abbrev pub rule : ℕ → Tree → Tree
    rule s = replace_divisor (target s) (name s)

    abbrev pub rule_each : ℕ → Forest → Forest
    rule_each s = replace_divisors (target s) (name s)

    -- ---- rule s leaves a tree whose change is later

    mutual
      unfolding change replace_divisor

      pub unmoved : (s : ℕ) → s < m → (t : Tree) → s < change rank m s t → rule s t ≡ t
      unmoved s l (Sym n) h = refl
      unmoved s l (Const c) h = refl
      unmoved s l (Op k f) h =
          small_step (target s) (name s) k f (eqb k Div && divides_by (target s) f) (λ t. (let e = divides_own s k l f t in omega arith)) (unmoved_each s l f (omega arith))

      unmoved_each : (s : ℕ) → s < m → (f : Forest) → s < changes rank m s f → rule_each s f ≡ f
      unmoved_each s l nil h = refl
      unmoved_each s l (t ◂ f) h = ap₂ ◌◂◌ (unmoved s l t (omega arith)) (unmoved_each s l f (omega arith))

    -- ---- rule s takes a division from a tree whose change is s

    fewer_step :
        (s k : ℕ) (f : Forest) (b : Bool) → (T b → T (eqb k Div)) → ((T b → ⊥) → divisions_of (rule_each s f) < divisions_of f)
        → divisions (elim b [ true ↦ Op Mul (dividend (target s) (name s) f) | false ↦ Op k (rule_each s f) ]) < divisions (Op k f)
    fewer_step s k f true v h = omega (arith, divisions_mul (dividend (target s) (name s) f), dividend_lower (target s) (name s) f, divisions_div k f (v tt))
    fewer_step s k f false v h = divisions_fewer k (rule_each s f) f (h (λ t. t))

    mutual
      unfolding change replace_divisor divisions

      fewer : (s : ℕ) → s < m → (t : Tree) → change rank m s t ≡ s → divisions (rule s t) < divisions t
      fewer s l (Sym n) e = absurd (omega arith)
      fewer s l (Const c) e = absurd (omega arith)
      fewer s l (Op k f) e =
          fewer_step s k f (eqb k Div && divides_by (target s) f) (and_left (eqb k Div) (divides_by (target s) f))
          (λ other. fewer_each s l f
          (either (own_rule rank m s k f) (changes rank m s f) (changes rank m s f ≡ s) (λ q. absurd (other (own_divides s k l f (omega arith)))) (λ q. omega arith)))

      fewer_each : (s : ℕ) → s < m → (f : Forest) → changes rank m s f ≡ s → divisions_of (rule_each s f) < divisions_of f
      fewer_each s l nil e = absurd (omega arith)
      fewer_each s l (t ◂ f) e =
          either (change rank m s t) (changes rank m s f) (divisions_of (rule_each s (t ◂ f)) < divisions_of (t ◂ f))
          (λ q. omega (arith, fewer s l t (omega arith), divisions_each (target s) (name s) f))
          (λ q. omega (arith, divisions_lower (target s) (name s) t, fewer_each s l f (omega arith)))

    -- ---- the change is right: n rules from s on leave a tree as it is exactly where s + n is at most its change

    pub stays : (n s : ℕ) → s + n ≤ m → (t : Tree) → s + n ≤ change rank m s t → in_turn rule n s t ≡ t
    stays = turns_stay rule m (change rank m) unmoved change_next

    pub moves : (n s : ℕ) → s + n ≤ m → (t : Tree) → change rank m s t < s + n → in_turn rule n s t ≡ t → ⊥
    moves = turns_move rule m (change rank m) unmoved change_next change_least divisions (λ s t. divisions_lower (target s) (name s) t) fewer

    -- ---- no rule is left

    none_replaced : (f : Forest) → replaced rank m m f ≡ false
    unfolding replaced
    none_replaced nil = refl
    none_replaced (a ◂ nil) = refl
    none_replaced (a ◂ (b ◂ f)) = no_less (rule_of rank m m b) (change rank m m b) (omega (arith, rule_least rank target m ranked m (omega arith) b, change_most m b))

    none_step : (v : Bool) (k : ℕ) (f g h : Forest) (b : Bool) → b ≡ false → h ≡ f → elim (v && b) [ true ↦ Op Mul g | false ↦ Op k h ] ≡ Op k f
    none_step v k f g h true e q = absurd (subst T e tt)
    none_step true k f g h false e q = ap (Op k) q
    none_step false k f g h false e q = ap (Op k) q

    mutual
      unfolding settled

      pub settled_last : (t : Tree) → settled rank m m name t ≡ t
      settled_last (Sym n) = refl
      settled_last (Const c) = refl
      settled_last (Op k f) =
          none_step (eqb k Div) k f (settled_dividend rank m m name f) (settled_each rank m m name f) (replaced rank m m f) (none_replaced f) (settled_last_each f)

      settled_last_each : (f : Forest) → settled_each rank m m name f ≡ f
      settled_last_each nil = refl
      settled_last_each (t ◂ f) = ap₂ ◌◂◌ (settled_last t) (settled_last_each f)

    -- ---- rule s puts its name into a tree whose change is s

    module _ (p : Name → Bool) (fresh : (i : ℕ) → i < m → T (p (name i)) → ⊥) where
      named : (s : ℕ) → s < m → (f : Forest) → T (divides_by (target s) f) → T (holds_each p (dividend (target s) (name s) f)) → ⊥
      unfolding divides_by holds replace_divisor
      named s l nil t h = t
      named s l (a ◂ f) t h = fresh s l (and_left (p (name s)) true (and_right (holds p (rule s a)) (p (name s) && true) h))

      moved_step :
          (s k : ℕ) → s < m → (f : Forest) (b : Bool) → (T b → T (divides_by (target s) f)) → ((T b → ⊥) → T (holds_each p (rule_each s f)) → ⊥)
          → T (holds p (elim b [ true ↦ Op Mul (dividend (target s) (name s) f) | false ↦ Op k (rule_each s f) ])) → ⊥
      unfolding holds
      moved_step s k l f true d g h = named s l f (d tt) h
      moved_step s k l f false d g h = g (λ t. t) h

      mutual
        unfolding change replace_divisor holds

        pub moved : (s : ℕ) → s < m → (t : Tree) → change rank m s t ≡ s → T (holds p (rule s t)) → ⊥
        moved s l (Sym n) e h = omega arith
        moved s l (Const c) e h = omega arith
        moved s l (Op k f) e h =
            moved_step s k l f (eqb k Div && divides_by (target s) f) (and_right (eqb k Div) (divides_by (target s) f))
            (λ other x. moved_each s l f
            (either (own_rule rank m s k f) (changes rank m s f) (changes rank m s f ≡ s) (λ q. absurd (other (own_divides s k l f (omega arith)))) (λ q. omega arith)) x)
            h

        moved_each : (s : ℕ) → s < m → (f : Forest) → changes rank m s f ≡ s → T (holds_each p (rule_each s f)) → ⊥
        moved_each s l nil e h = omega arith
        moved_each s l (t ◂ f) e h =
            either (change rank m s t) (changes rank m s f) ⊥
            (λ q. moved s l t (omega arith) (and_left (holds p (rule s t)) (holds_each p (rule_each s f)) h))
            (λ q. moved_each s l f (omega arith) (and_right (holds p (rule s t)) (holds_each p (rule_each s f)) h))

      module _ (known : (t : Tree) (k : ℕ) → rank t ≡ some k → T (holds p t)) where
        -- a divisor holds no division by itself
        pub own_later : (s : ℕ) → s < m → s < change rank m s (target s)
        own_later s l =
            either (change rank m s (target s)) s (s < change rank m s (target s))
            (λ q. absurd (moved s l (target s) (let h = change_least s (omega arith) (target s) in omega arith)
            (subst (λ (t : Tree). T (holds p t)) (sym (own_stays (target s) (name s))) (known (target s) s (ranked.found s l)))))
            (λ q. q)

        -- a divisor that rule s rewrote is sought by no rule
        pub rewritten_unranked : (s : ℕ) → s < m → (t : Tree) → change rank m s t ≡ s → rank (rule s t) ≡ none
        rewritten_unranked s l t e = go (rank (rule s t)) refl
          where
            go : (o : Option ℕ) → rank (rule s t) ≡ o → o ≡ none
            go none q = refl
            go (some k) q = absurd (moved s l t e (known (rule s t) k q))

        -- ---- one rule less

        -- a divisor other than rule s's is replaced by the same rule after rule s as before
        alike :
            (s : ℕ) → s < m → (b : Tree) → (T (eq_tree b (target s)) → ⊥)
            → Alike (rule_of rank m s b) (change rank m s b) (rule_of rank m (suc s) (rule s b)) (change rank m (suc s) (rule s b))
        alike s l b other =
            either (change rank m s b) s (Alike (rule_of rank m s b) (change rank m s b) (rule_of rank m (suc s) (rule s b)) (change rank m (suc s) (rule s b))) changed kept
          where
            least : s ≤ change rank m s b
            least = change_least s (omega arith) b

            later : s < rule_of rank m s b
            later =
                either (rule_of rank m s b) s (s < rule_of rank m s b)
                (λ q. absurd (other (subst (λ (t : Tree). T (eq_tree b t)) (rule_tree rank target m ranked s b s l (let h = rule_least rank target m ranked s (omega arith) b in omega arith)) (eq_tree_refl b)))) (λ q. q)

            kept : s < change rank m s b → Alike (rule_of rank m s b) (change rank m s b) (rule_of rank m (suc s) (rule s b)) (change rank m (suc s) (rule s b))
            kept h =
                let e = unmoved s l b h in
                let r : rule_of rank m (suc s) (rule s b) ≡ rule_of rank m s b = ap (rule_of rank m (suc s)) e ∙ rule_next rank target m ranked s b later in
                let c : change rank m (suc s) (rule s b) ≡ change rank m s b = ap (change rank m (suc s)) e ∙ change_next s b h in
                record { test = sym (ap₂ ltb r c); number = λ t. sym r }

            changed : change rank m s b ≤ s → Alike (rule_of rank m s b) (change rank m s b) (rule_of rank m (suc s) (rule s b)) (change rank m (suc s) (rule s b))
            changed h =
                let u : rank (rule s b) ≡ none = rewritten_unranked s l b (omega (arith, least, h)) in
                let r : rule_of rank m (suc s) (rule s b) ≡ m = rule_unranked rank target m ranked (suc s) (rule s b) u in
                let x = no_less (rule_of rank m s b) (change rank m s b) (omega (arith, later, h)) in
                let y = no_less (rule_of rank m (suc s) (rule s b)) (change rank m (suc s) (rule s b)) (let z = change_most (suc s) (rule s b) in omega (arith, r, z)) in
                record { test = x ∙ sym y; number = λ t. absurd (subst T x t) }

        -- the same of a node's operands, where rule s doesn't replace the node
        replaced_alike : (s : ℕ) → s < m → (f : Forest) → (T (divides_by (target s) f) → ⊥) → replaced rank m s f ≡ replaced rank m (suc s) (rule_each s f)
        unfolding replaced divides_by replace_divisor
        replaced_alike s l nil other = refl
        replaced_alike s l (a ◂ nil) other = refl
        replaced_alike s l (a ◂ (b ◂ f)) other = (alike s l b other).test

        dividend_alike :
            (s : ℕ) → s < m → (f : Forest) → (T (divides_by (target s) f) → ⊥) → T (replaced rank m s f)
            → settled_each rank m s name f ≡ settled_each rank m (suc s) name (rule_each s f)
            → settled_dividend rank m s name f ≡ settled_dividend rank m (suc s) name (rule_each s f)
        unfolding replaced divides_by replace_divisor settled
        dividend_alike s l nil other t e = refl
        dividend_alike s l (a ◂ nil) other t e = refl
        dividend_alike s l (a ◂ (b ◂ f)) other t e =
            let h : settled rank m s name a ≡ settled rank m (suc s) name (rule s a) = first (settled rank m s name a) (settled rank m (suc s) name (rule s a)) _ _ e in
            ap₂ (λ (x : Tree) (i : ℕ). x ◂ Sym (name i) ◂ nil) h ((alike s l b other).number t)
          where
            first : (x y : Tree) (f g : Forest) → x ◂ f ≡ y ◂ g → x ≡ y
            first x y f g e = cc

        -- a division by rule s's divisor is replaced by rule s
        division_replaced : (s : ℕ) → s < m → (f : Forest) → T (divides_by (target s) f) → T (replaced rank m s f)
        unfolding replaced divides_by
        division_replaced s l nil t = t
        division_replaced s l (a ◂ nil) t = t
        division_replaced s l (a ◂ (b ◂ f)) t =
            let e = eq_tree_sound b (target s) t in
            subst (λ (x : Tree). T (ltb (rule_of rank m s x) (change rank m s x))) (sym e)
            (lt→ltb (rule_of rank m s (target s)) (change rank m s (target s)) (let r = rule_target rank target m ranked s s (omega arith) l in let c = own_later s l in omega arith))

        dividend_settled :
            (s : ℕ) → s < m → (f : Forest) → T (divides_by (target s) f) → settled_each rank m s name f ≡ settled_each rank m (suc s) name (rule_each s f)
            → settled_dividend rank m s name f ≡ settled_each rank m (suc s) name (dividend (target s) (name s) f)
        unfolding replaced divides_by replace_divisor settled
        dividend_settled s l nil t e = absurd t
        dividend_settled s l (a ◂ nil) t e = absurd t
        dividend_settled s l (a ◂ (b ◂ f)) t e =
            let h : settled rank m s name a ≡ settled rank m (suc s) name (rule s a) = first (settled rank m s name a) (settled rank m (suc s) name (rule s a)) _ _ e in
            let r : rule_of rank m s b ≡ s = ap (rule_of rank m s) (eq_tree_sound b (target s) t) ∙ rule_target rank target m ranked s s (omega arith) l in
            ap₂ (λ (x : Tree) (i : ℕ). x ◂ Sym (name i) ◂ nil) h r
          where
            first : (x y : Tree) (f g : Forest) → x ◂ f ≡ y ◂ g → x ≡ y
            first x y f g e = cc

        -- by whether the kind is Div, and whether rule s's divisor is the node's
        settle_node :
            (s k : ℕ) → s < m → (f : Forest) (v b : Bool) → (T b → T (divides_by (target s) f)) → (T (divides_by (target s) f) → T b)
            → eqb k Div ≡ v → settled_each rank m s name f ≡ settled_each rank m (suc s) name (rule_each s f)
            → elim (v && replaced rank m s f) [ true ↦ Op Mul (settled_dividend rank m s name f) | false ↦ Op k (settled_each rank m s name f) ]
            ≡ settled rank m (suc s) name (elim (v && b) [ true ↦ Op Mul (dividend (target s) (name s) f) | false ↦ Op k (rule_each s f) ])
        settle_node s k l f true true d d' q e =
            ap (λ (c : Bool). elim c as (λ _. Tree) [ true ↦ Op Mul (settled_dividend rank m s name f) | false ↦ Op k (settled_each rank m s name f) ])
            (is_true (replaced rank m s f) (division_replaced s l f (d tt)))
            ∙ (ap (Op Mul) (dividend_settled s l f (d tt) e) ∙ product (dividend (target s) (name s) f))
          where
            product : (g : Forest) → Op Mul (settled_each rank m (suc s) name g) ≡ settled rank m (suc s) name (Op Mul g)
            product g = (unfold settled in refl)
        settle_node s k l f true false d d' q e =
            let other : T (divides_by (target s) f) → ⊥ = λ t. d' t in
            node (replaced rank m s f) (replaced rank m (suc s) (rule_each s f)) refl (replaced_alike s l f other) other
            ∙ rest (rule_each s f)
          where
            node : (x y : Bool) → replaced rank m s f ≡ x → x ≡ y → (T (divides_by (target s) f) → ⊥)
                → ◌≡◌ {A = Tree} (elim x [ true ↦ Op Mul (settled_dividend rank m s name f) | false ↦ Op k (settled_each rank m s name f) ])
                (elim y [ true ↦ Op Mul (settled_dividend rank m (suc s) name (rule_each s f)) | false ↦ Op k (settled_each rank m (suc s) name (rule_each s f)) ])
            node true true z w other = ap (Op Mul) (dividend_alike s l f other (subst T (sym z) tt) e)
            node true false z w other = absurd (subst T w tt)
            node false true z w other = absurd (subst T (sym w) tt)
            node false false z w other = ap (Op k) e

            rest : (g : Forest)
                → ◌≡◌ {A = Tree} (elim (replaced rank m (suc s) g) [ true ↦ Op Mul (settled_dividend rank m (suc s) name g) | false ↦ Op k (settled_each rank m (suc s) name g) ])
                (settled rank m (suc s) name (Op k g))
            rest g =
                (unfold settled in
                ap (λ (c : Bool). elim (c && replaced rank m (suc s) g) as (λ _. Tree) [ true ↦ Op Mul (settled_dividend rank m (suc s) name g) | false ↦ Op k (settled_each rank m (suc s) name g) ]) (sym q))
        settle_node s k l f false b d d' q e = ap (Op k) e ∙ rest (rule_each s f)
          where
            rest : (g : Forest) → Op k (settled_each rank m (suc s) name g) ≡ settled rank m (suc s) name (Op k g)
            rest g =
                (unfold settled in
                ap (λ (c : Bool). elim (c && replaced rank m (suc s) g) as (λ _. Tree) [ true ↦ Op Mul (settled_dividend rank m (suc s) name g) | false ↦ Op k (settled_each rank m (suc s) name g) ]) (sym q))

        mutual
          unfolding settled replace_divisor

          pub settle_step : (s : ℕ) → s < m → (t : Tree) → settled rank m s name t ≡ settled rank m (suc s) name (rule s t)
          settle_step s l (Sym n) = refl
          settle_step s l (Const c) = refl
          settle_step s l (Op k f) =
              settle_node s k l f (eqb k Div) (divides_by (target s) f) (λ t. t) (λ t. t) refl (settle_steps s l f)

          settle_steps : (s : ℕ) → s < m → (f : Forest) → settled_each rank m s name f ≡ settled_each rank m (suc s) name (rule_each s f)
          settle_steps s l nil = refl
          settle_steps s l (t ◂ f) = ap₂ ◌◂◌ (settle_step s l t) (settle_steps s l f)

        -- ---- all at once

        pub at_once : (n s : ℕ) → s + n ≡ m → (t : Tree) → in_turn rule n s t ≡ settled rank m s name t
        at_once = turns_at_once rule m (λ s. settled rank m s name) settle_step settled_last
