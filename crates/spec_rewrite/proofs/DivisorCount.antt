-- `replace_divisor` lets no measure grow by which the new name counts least, so neither operations nor nodes, keeps trees well-formed, can be undone,
-- and leaves no division by d: so an operation stands after it no more often than what it came from stood before. Assumes nothing.
use Prim.Native.Nat.{ℕ, zero, suc, ◌≤◌}
use mathlib.Core.Path.{◌≡◌, refl, sym, ◌∙◌, ap, ap₂, subst}
use mathlib.Core.Bool.{Bool, true, false, ◌&&◌, cond}
use native.Mathlib.Omega.{arith}
use lib.Dec.{T, eqb, eqb→eq}
use Rattle.spec_tree.specs.Tree.{Name, Tree, Forest, Sym, Const, Op, nil, ◌◂◌, eq_tree, eq_name}
use Rattle.spec_tree.specs.Kinds.{Mul, Div, arity_ok}
use Rattle.spec_tree.proofs.Formed.{arity_div, operand_count, well_formed, well_formed_each}
use Rattle.spec_tree.proofs.TreeLaws.{eq_tree_sound, eq_tree_refl, eq_name_sound, eq_name_refl}
use Rattle.spec_tree.specs.Facts.{operations, size, nodes, nodes_of, count}
use Rattle.spec_rewrite.specs.Rewrite.{divides_by, replace_divisor, replace_divisors, dividend}
use Rattle.spec_tree.proofs.Logic.{and_left, and_right, and_both, not_true}
use Rattle.spec_rewrite.proofs.Measure.{sum_each, Measure, Least, by_operations, by_size, least_operations, least_size, one_of, one_self}
use Rattle.spec_rewrite.proofs.Names.{holds, holds_each}
use Rattle.spec_rewrite.proofs.Counts.{count_sym, count_const, count_op, count_none, count_operands, one_none, one_le, one_equal}

on : (b : Bool) → T b → b ≡ true
on true t = refl
on false t = absurd t

-- ---- any measure by which the name counts least, and operand counts

module _ (M : Measure) (d : Tree) (n : Name) (least : Least M n) where
  divisor_step :
      (k : ℕ) (f : Forest) (b : Bool) → (T b → T (divides_by d f)) → (T (divides_by d f) → sum_each M.of (dividend d n f) ≤ sum_each M.of f)
      → sum_each M.of (replace_divisors d n f) ≤ sum_each M.of f
      → M.of (elim b [ true ↦ Op Mul (dividend d n f) | false ↦ Op k (replace_divisors d n f) ]) ≤ M.of (Op k f)
  divisor_step k f true t g h = (let a = M.at_node Mul (dividend d n f) in let b = M.at_node k f in let c = g (t tt) in omega arith)
  divisor_step k f false t g h = (let a = M.at_node k (replace_divisors d n f) in let b = M.at_node k f in omega arith)

  mutual
    unfolding replace_divisor sum_each divides_by

    pub divisor_measure : (e : Tree) → M.of (replace_divisor d n e) ≤ M.of e
    divisor_measure (Sym s) = omega arith
    divisor_measure (Const c) = omega arith
    divisor_measure (Op k f) = divisor_step k f (eqb k Div && divides_by d f) (and_right (eqb k Div) (divides_by d f)) (λ c. dividend_of f c) (divisors_of f)

    divisors_of : (f : Forest) → sum_each M.of (replace_divisors d n f) ≤ sum_each M.of f
    divisors_of nil = omega arith
    divisors_of (t ◂ f) = (let a = divisor_measure t in let b = divisors_of f in omega arith)

    -- a name in place of a divisor
    dividend_of : (f : Forest) → T (divides_by d f) → sum_each M.of (dividend d n f) ≤ sum_each M.of f
    dividend_of nil c = absurd c
    dividend_of (t ◂ nil) c = absurd c
    dividend_of (t ◂ (b ◂ f)) c = (let a = divisor_measure t in let q = least b in omega arith)

pub divisor_operations : (d : Tree) (n : Name) (e : Tree) → operations (replace_divisor d n e) ≤ operations e
divisor_operations d n = divisor_measure by_operations d n (least_operations n)

pub divisor_size : (d : Tree) (n : Name) (e : Tree) → size (replace_divisor d n e) ≤ size e
divisor_size d n = divisor_measure by_size d n (least_size n)

module _ (d : Tree) (n : Name) where
  formed_step :
      (k : ℕ) (f : Forest) (b : Bool) → (T b → T (divides_by d f)) → (T (divides_by d f) → T (well_formed_each (dividend d n f)) × (operand_count (dividend d n f) ≡ 2))
      → T (well_formed_each (replace_divisors d n f)) × (operand_count (replace_divisors d n f) ≡ operand_count f) → T (arity_ok k (operand_count f))
      → T (well_formed (elim b [ true ↦ Op Mul (dividend d n f) | false ↦ Op k (replace_divisors d n f) ]))
  unfolding well_formed
  formed_step k f true t g h a =
      let c = g (t tt) in
      and_both (arity_ok Mul (operand_count (dividend d n f))) (well_formed_each (dividend d n f))
      (subst (λ (j : ℕ). T (arity_ok Mul j)) (sym c.1) (unfold arity_ok in tt)) c.0
  formed_step k f false t g h a =
      and_both (arity_ok k (operand_count (replace_divisors d n f))) (well_formed_each (replace_divisors d n f))
      (subst (λ (j : ℕ). T (arity_ok k j)) (sym h.1) a) h.0

  mutual
    unfolding replace_divisor well_formed

    pub divisor_formed : (e : Tree) → T (well_formed e) → T (well_formed (replace_divisor d n e))
    divisor_formed (Sym s) w = tt
    divisor_formed (Const c) w = tt
    divisor_formed (Op k f) w =
        let v = and_right (arity_ok k (operand_count f)) (well_formed_each f) w in
        formed_step k f (eqb k Div && divides_by d f) (and_right (eqb k Div) (divides_by d f)) (λ c. dividend_formed f v c) (divisors_formed f v)
        (and_left (arity_ok k (operand_count f)) (well_formed_each f) w)

    divisors_formed : (f : Forest) → T (well_formed_each f) → T (well_formed_each (replace_divisors d n f)) × (operand_count (replace_divisors d n f) ≡ operand_count f)
    divisors_formed nil w = (tt, refl)
    divisors_formed (t ◂ f) w =
        let a = divisors_formed f (and_right (well_formed t) (well_formed_each f) w) in (
          and_both (well_formed (replace_divisor d n t)) (well_formed_each (replace_divisors d n f)) (divisor_formed t (and_left (well_formed t) (well_formed_each f) w)) a.0,
          ap suc a.1,
        )

    dividend_formed : (f : Forest) → T (well_formed_each f) → T (divides_by d f) → T (well_formed_each (dividend d n f)) × (operand_count (dividend d n f) ≡ 2)
    dividend_formed nil w c = absurd c
    dividend_formed (t ◂ f) w c = (and_both (well_formed (replace_divisor d n t)) true (divisor_formed t (and_left (well_formed t) (well_formed_each f) w)) tt, refl)

-- ---- undone: the name is d again, and a * n a division

by_name : Name → Forest → Bool
by_name n nil = false
by_name n (a ◂ nil) = false
by_name n (a ◂ (b ◂ nil)) = eq_tree b (Sym n)
by_name n (a ◂ (b ◂ (c ◂ f))) = false

module _ (d : Tree) (n : Name) where
  unfoldable mutual
    unfolding by_name

    pub restore : Tree → Tree
    restore (Sym s) = elim (eq_name s n) [ true ↦ d | false ↦ Sym s ]
    restore (Const c) = Const c
    restore (Op k f) = Op (cond (eqb k Mul && by_name n f) Div k) (restores f)

    pub restores : Forest → Forest
    restores nil = nil
    restores (t ◂ f) = restore t ◂ restores f

  module _ (p : Name → Bool) (new : T (p n) → ⊥) where
    -- a symbol made before n is not n
    older : (s : Name) → T (p s) → eq_name s n ≡ false
    older s h = not_true (eq_name s n) (λ t. new (subst (λ (m : Name). T (p m)) (eq_name_sound s n t) h))

    restore_sym : (s : Name) → T (p s) → restore (Sym s) ≡ Sym s
    unfolding restore
    restore_sym s h = ap (λ (b : Bool). elim b as (λ _. Tree) [ true ↦ d | false ↦ Sym s ]) (older s h)

    other_tree : (b : Tree) → T (holds p b) → eq_tree b (Sym n) ≡ false
    unfolding eq_tree holds
    other_tree (Sym s) h = older s h
    other_tree (Const c) h = refl
    other_tree (Op k f) h = refl

    -- no operand is the name
    no_name : (f : Forest) → T (holds_each p f) → by_name n f ≡ false
    unfolding by_name holds
    no_name nil h = refl
    no_name (a ◂ nil) h = refl
    no_name (a ◂ (b ◂ nil)) h = other_tree b (and_left (holds p b) true (and_right (holds p a) (holds p b && true) h))
    no_name (a ◂ (b ◂ (c ◂ f))) h = refl

    and_false : (b c : Bool) → c ≡ false → (b && c) ≡ false
    and_false true c e = e
    and_false false c e = refl

    restore_op : (k : ℕ) (f : Forest) → by_name n f ≡ false → restore (Op k f) ≡ Op k (restores f)
    unfolding restore
    restore_op k f e = ap (λ (b : Bool). Op (cond b Div k) (restores f)) (and_false (eqb k Mul) (by_name n f) e)

    mutual
      unfolding restore holds

      pub restore_same : (e : Tree) → T (holds p e) → restore e ≡ e
      restore_same (Sym s) h = restore_sym s h
      restore_same (Const c) h = refl
      restore_same (Op k f) h = restore_op k f (no_name f h) ∙ ap (Op k) (restores_same f h)

      restores_same : (f : Forest) → T (holds_each p f) → restores f ≡ f
      restores_same nil h = refl
      restores_same (t ◂ f) h = ap₂ ◌◂◌ (restore_same t (and_left (holds p t) (holds_each p f) h)) (restores_same f (and_right (holds p t) (holds_each p f) h))

    -- what was no name is none afterwards
    not_made : (b : Tree) → T (holds p b) → eq_tree (replace_divisor d n b) (Sym n) ≡ false
    not_made (Sym s) h = (unfold replace_divisor in other_tree (Sym s) h)
    not_made (Const c) h = (unfold replace_divisor in other_tree (Const c) h)
    not_made (Op k f) h = (unfold replace_divisor in go (eqb k Div && divides_by d f))
      where
        go : (b : Bool) → eq_tree (elim b [ true ↦ Op Mul (dividend d n f) | false ↦ Op k (replace_divisors d n f) ]) (Sym n) ≡ false
        go true = (unfold eq_tree in refl)
        go false = (unfold eq_tree in refl)

    no_name_made : (f : Forest) → T (holds_each p f) → by_name n (replace_divisors d n f) ≡ false
    unfolding by_name holds replace_divisor
    no_name_made nil h = refl
    no_name_made (a ◂ nil) h = refl
    no_name_made (a ◂ (b ◂ nil)) h = not_made b (and_left (holds p b) true (and_right (holds p a) (holds p b && true) h))
    no_name_made (a ◂ (b ◂ (c ◂ f))) h = refl

    -- a division by d
    restore_name : restore (Sym n) ≡ d
    unfolding restore
    restore_name = ap (λ (b : Bool). elim b as (λ _. Tree) [ true ↦ d | false ↦ Sym n ]) (on (eq_name n n) (eq_name_refl n))

    restore_quotient : (a : Tree) → restore (Op Mul (a ◂ Sym n ◂ nil)) ≡ Op Div (restore a ◂ d ◂ nil)
    unfolding restore by_name
    restore_quotient a =
        ap (λ (b : Bool). Op (cond b Div Mul) (restore a ◂ restore (Sym n) ◂ nil)) (on (eq_tree (Sym n) (Sym n)) (eq_tree_refl (Sym n)))
        ∙ ap (λ (t : Tree). Op Div (restore a ◂ t ◂ nil)) restore_name

    restore_divided :
        (k : ℕ) (f : Forest) → k ≡ Div → T (divides_by d f) → operand_count f ≡ 2 → restores (replace_divisors d n f) ≡ f → restore (Op Mul (dividend d n f)) ≡ Op k f
    unfolding divides_by replace_divisor operand_count restore
    restore_divided k nil e t c r = absurd t
    restore_divided k (a ◂ nil) e t c r = absurd t
    restore_divided k (a ◂ (b ◂ nil)) e t c r =
        (unfold replace_divisor restore in restore_quotient (replace_divisor d n a))
        ∙ ap₂ (λ (x y : Tree). Op Div (x ◂ y ◂ nil)) (first r) (sym (eq_tree_sound b d t)) ∙ ap (λ (j : ℕ). Op j (a ◂ b ◂ nil)) (sym e)
      where
        first : restores (replace_divisors d n (a ◂ b ◂ nil)) ≡ a ◂ b ◂ nil → restore (replace_divisor d n a) ≡ a
        first r = cc
    restore_divided k (a ◂ (b ◂ (x ◂ f))) e t c r = absurd (omega (arith, c))

    restore_step :
        (k : ℕ) (f : Forest) (b : Bool) → (T b → (k ≡ Div) × T (divides_by d f)) → T (arity_ok k (operand_count f)) → by_name n (replace_divisors d n f) ≡ false
        → restores (replace_divisors d n f) ≡ f → restore (elim b [ true ↦ Op Mul (dividend d n f) | false ↦ Op k (replace_divisors d n f) ]) ≡ Op k f
    restore_step k f true t a z r = restore_divided k f (t tt).0 (t tt).1 (arity_div k (operand_count f) (t tt).0 a) r
    restore_step k f false t a z r = restore_op k (replace_divisors d n f) z ∙ ap (Op k) r

    mutual
      unfolding replace_divisor restore holds well_formed

      pub restored : (e : Tree) → T (well_formed e) → T (holds p e) → restore (replace_divisor d n e) ≡ e
      restored (Sym s) w h = restore_sym s h
      restored (Const c) w h = refl
      restored (Op k f) w h =
          restore_step k f (eqb k Div && divides_by d f)
          (λ t. (eqb→eq k Div (and_left (eqb k Div) (divides_by d f) t), and_right (eqb k Div) (divides_by d f) t))
          (and_left (arity_ok k (operand_count f)) (well_formed_each f) w) (no_name_made f h)
          (restored_each f (and_right (arity_ok k (operand_count f)) (well_formed_each f) w) h)

      restored_each : (f : Forest) → T (well_formed_each f) → T (holds_each p f) → restores (replace_divisors d n f) ≡ f
      restored_each nil w h = refl
      restored_each (t ◂ f) w h =
          ap₂ ◌◂◌ (restored t (and_left (well_formed t) (well_formed_each f) w) (and_left (holds p t) (holds_each p f) h))
          (restored_each f (and_right (well_formed t) (well_formed_each f) w) (and_right (holds p t) (holds_each p f) h))

    -- ---- an operation stands no more often than what it is restored to stood

    module _ (j : ℕ) (g : Forest) where
      one_restored : (r e : Tree) → restore r ≡ e → one_of r (Op j g) ≤ one_of e (restore (Op j g))
      one_restored r e z = go (one_of r (Op j g)) refl
        where
          go : (m : ℕ) → one_of r (Op j g) ≡ m → one_of r (Op j g) ≤ one_of e (restore (Op j g))
          go zero q = omega arith
          go (suc m) q =
              let x : restore (Op j g) ≡ e = ap restore (sym (one_equal r (Op j g) (omega arith))) ∙ z in
              let a : one_of e (restore (Op j g)) ≡ 1 = ap (one_of e) x ∙ one_self e in
              let b = one_le r (Op j g) in
              omega arith

      name_is_none : one_of (Sym n) (Op j g) ≡ 0
      name_is_none = one_none (Sym n) (Op j g) (λ e. (let z : ◌≡◌ {A = ℕ} 0 1 = cc in omega arith))

      count_step :
          (k : ℕ) (f : Forest) (b : Bool) → count (Op j g) (nodes_of (dividend d n f)) ≤ count (restore (Op j g)) (nodes_of f)
          → count (Op j g) (nodes_of (replace_divisors d n f)) ≤ count (restore (Op j g)) (nodes_of f)
          → restore (elim b [ true ↦ Op Mul (dividend d n f) | false ↦ Op k (replace_divisors d n f) ]) ≡ Op k f
          → count (Op j g) (nodes (elim b [ true ↦ Op Mul (dividend d n f) | false ↦ Op k (replace_divisors d n f) ])) ≤ count (restore (Op j g)) (nodes (Op k f))
      count_step k f true x y z =
          (let a = count_op (Op j g) Mul (dividend d n f) in
          let b = count_op (restore (Op j g)) k f in
          let c = one_restored (Op Mul (dividend d n f)) (Op k f) z in
          omega arith)
      count_step k f false x y z =
          (let a = count_op (Op j g) k (replace_divisors d n f) in
          let b = count_op (restore (Op j g)) k f in
          let c = one_restored (Op k (replace_divisors d n f)) (Op k f) z in
          omega arith)

      mutual
        unfolding replace_divisor holds well_formed

        pub restored_count : (e : Tree) → T (well_formed e) → T (holds p e) → count (Op j g) (nodes (replace_divisor d n e)) ≤ count (restore (Op j g)) (nodes e)
        restored_count (Sym s) w h =
            (let a = count_sym (Op j g) s in let b = count_sym (restore (Op j g)) s in let c = one_restored (Sym s) (Sym s) (restore_sym s h) in omega arith)
        restored_count (Const c) w h =
            (let a = count_const (Op j g) c in let b = count_const (restore (Op j g)) c in let x = one_restored (Const c) (Const c) (restore_same (Const c) tt) in omega arith)
        restored_count (Op k f) w h =
            let v = and_right (arity_ok k (operand_count f)) (well_formed_each f) w in
            count_step k f (eqb k Div && divides_by d f) (dividend_count f v h) (divisors_count f v h) (restored (Op k f) w h)

        divisors_count : (f : Forest) → T (well_formed_each f) → T (holds_each p f) → count (Op j g) (nodes_of (replace_divisors d n f)) ≤ count (restore (Op j g)) (nodes_of f)
        divisors_count nil w h = (let a = count_none (Op j g) in omega arith)
        divisors_count (t ◂ f) w h =
            (let a = restored_count t (and_left (well_formed t) (well_formed_each f) w) (and_left (holds p t) (holds_each p f) h) in
            let b = divisors_count f (and_right (well_formed t) (well_formed_each f) w) (and_right (holds p t) (holds_each p f) h) in
            let x = count_operands (Op j g) (replace_divisor d n t) (replace_divisors d n f) in
            let y = count_operands (restore (Op j g)) t f in
            omega arith)

        dividend_count : (f : Forest) → T (well_formed_each f) → T (holds_each p f) → count (Op j g) (nodes_of (dividend d n f)) ≤ count (restore (Op j g)) (nodes_of f)
        dividend_count nil w h = (let a = count_none (Op j g) in omega arith)
        dividend_count (t ◂ f) w h =
            (let a = restored_count t (and_left (well_formed t) (well_formed_each f) w) (and_left (holds p t) (holds_each p f) h) in
            let x = count_operands (Op j g) (replace_divisor d n t) (Sym n ◂ nil) in
            let u = count_operands (Op j g) (Sym n) nil in
            let v = count_none (Op j g) in
            let m = count_sym (Op j g) n in
            let z = name_is_none in
            let y = count_operands (restore (Op j g)) t f in
            omega arith)

    -- ---- no division by d is left

    module _ (known : T (holds p d)) (a : Tree) where
      -- a division that was none by d is none afterwards
      not_by_d :
          (k : ℕ) (f : Forest) → T (well_formed_each f) → T (holds_each p f) → (T (eqb k Div && divides_by d f) → ⊥) → Op k (replace_divisors d n f) ≡ Op Div (a ◂ d ◂ nil) → ⊥
      unfolding replace_divisor divides_by holds well_formed
      not_by_d k nil w h c e = (let z : ◌≡◌ {A = ℕ} 0 1 = cc in omega arith)
      not_by_d k (x ◂ nil) w h c e = (let z : ◌≡◌ {A = ℕ} 0 1 = cc in omega arith)
      not_by_d k (x ◂ (y ◂ f)) w h c e =
          let q : k ≡ Div = cc in
          let r : replace_divisor d n y ≡ d = cc in
          let wy = and_left (well_formed y) (well_formed_each f) (and_right (well_formed x) (well_formed y && well_formed_each f) w) in
          let hy = and_left (holds p y) (holds_each p f) (and_right (holds p x) (holds p y && holds_each p f) h) in
          let s : y ≡ d = sym (restored y wy hy) ∙ ap restore r ∙ restore_same d known in
          c (and_both (eqb k Div) (eq_tree y d) (subst (λ (i : ℕ). T (eqb i Div)) (sym q) tt) (subst (λ (t : Tree). T (eq_tree y t)) s (eq_tree_refl y)))

      gone_step :
          (k : ℕ) (f : Forest) (b : Bool) → (eqb k Div && divides_by d f) ≡ b → T (well_formed_each f) → T (holds_each p f)
          → count (Op Div (a ◂ d ◂ nil)) (nodes_of (dividend d n f)) ≡ 0 → count (Op Div (a ◂ d ◂ nil)) (nodes_of (replace_divisors d n f)) ≡ 0
          → count (Op Div (a ◂ d ◂ nil)) (nodes (elim b [ true ↦ Op Mul (dividend d n f) | false ↦ Op k (replace_divisors d n f) ])) ≡ 0
      gone_step k f true e w h x y =
          (let q = count_op (Op Div (a ◂ d ◂ nil)) Mul (dividend d n f) in
          let r = one_none (Op Mul (dividend d n f)) (Op Div (a ◂ d ◂ nil)) (λ z. (let u : ◌≡◌ {A = ℕ} 5 6 = cc in omega arith)) in
          omega arith)
      gone_step k f false e w h x y =
          (let q = count_op (Op Div (a ◂ d ◂ nil)) k (replace_divisors d n f) in
          let r = one_none (Op k (replace_divisors d n f)) (Op Div (a ◂ d ◂ nil)) (not_by_d k f w h (λ t. subst T e t)) in
          omega arith)

      mutual
        unfolding replace_divisor holds well_formed

        pub division_gone : (e : Tree) → T (well_formed e) → T (holds p e) → count (Op Div (a ◂ d ◂ nil)) (nodes (replace_divisor d n e)) ≡ 0
        division_gone (Sym s) w h =
            (let q = count_sym (Op Div (a ◂ d ◂ nil)) s in let r = one_none (Sym s) (Op Div (a ◂ d ◂ nil)) (λ z. (let u : ◌≡◌ {A = ℕ} 0 1 = cc in omega arith)) in omega arith)
        division_gone (Const c) w h =
            (let q = count_const (Op Div (a ◂ d ◂ nil)) c in let r = one_none (Const c) (Op Div (a ◂ d ◂ nil)) (λ z. (let u : ◌≡◌ {A = ℕ} 0 1 = cc in omega arith)) in omega arith)
        division_gone (Op k f) w h =
            let v = and_right (arity_ok k (operand_count f)) (well_formed_each f) w in
            gone_step k f (eqb k Div && divides_by d f) refl v h (dividend_gone f v h) (divisors_gone f v h)

        divisors_gone : (f : Forest) → T (well_formed_each f) → T (holds_each p f) → count (Op Div (a ◂ d ◂ nil)) (nodes_of (replace_divisors d n f)) ≡ 0
        divisors_gone nil w h = count_none (Op Div (a ◂ d ◂ nil))
        divisors_gone (t ◂ f) w h =
            (let x = division_gone t (and_left (well_formed t) (well_formed_each f) w) (and_left (holds p t) (holds_each p f) h) in
            let y = divisors_gone f (and_right (well_formed t) (well_formed_each f) w) (and_right (holds p t) (holds_each p f) h) in
            let z = count_operands (Op Div (a ◂ d ◂ nil)) (replace_divisor d n t) (replace_divisors d n f) in
            omega arith)

        dividend_gone : (f : Forest) → T (well_formed_each f) → T (holds_each p f) → count (Op Div (a ◂ d ◂ nil)) (nodes_of (dividend d n f)) ≡ 0
        dividend_gone nil w h = count_none (Op Div (a ◂ d ◂ nil))
        dividend_gone (t ◂ f) w h =
            (let x = division_gone t (and_left (well_formed t) (well_formed_each f) w) (and_left (holds p t) (holds_each p f) h) in
            let y = count_operands (Op Div (a ◂ d ◂ nil)) (replace_divisor d n t) (Sym n ◂ nil) in
            let u = count_operands (Op Div (a ◂ d ◂ nil)) (Sym n) nil in
            let v = count_none (Op Div (a ◂ d ◂ nil)) in
            let m = count_sym (Op Div (a ◂ d ◂ nil)) n in
            let z = name_is_none Div (a ◂ d ◂ nil) in
            omega arith)
