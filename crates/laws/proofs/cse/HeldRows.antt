-- What a scope holds for fusion where no divisor that it binds has a switch: its results and the bindings of its rounds, which replaced divisors never enlarge, and
-- no reciprocal. Assumes nothing.
use Prim.Native.Nat.{ℕ, zero, suc, ◌+◌, ◌≤◌}
use mathlib.Core.Path.{◌≡◌, refl, ◌∙◌, ap}
use mathlib.Core.Bool.{Bool, true, false}
use mathlib.Core.List.{List, [], ◌∷◌, ◌++◌}
use native.Mathlib.Omega.{arith}
use lib.ListN.{length}
use lib.Dec.{T}
use Rattle.spec_tree.specs.Tree.{Name, xname, Tree}
use Rattle.spec_tree.specs.Facts.{size}
use Rattle.spec_tree.specs.Rows.{occurrences}
use Rattle.spec_rewrite.proofs.DivisorCount.{divisor_size}
use Rattle.spec_cse.specs.Extract.{Binding, State, bound, roots, replace_divisor_each, replace_divisor_bound, bind_reciprocal, bind_reciprocals, reciprocals}
use Rattle.spec_cse.specs.Scope.{holds_switch, held_bindings, held}
use Rattle.laws.proofs.cse.ReciprocalsCount.{AllTrees, inverse, bound_divisors, reciprocals_are}
use Rattle.laws.proofs.cse.ReciprocalBindings.{Past, past_none, past_append}
use Rattle.laws.proofs.cse.CleanDivisors.{no_switch, divided_no_switch, inverse_no_switch, none_outside}
use Rattle.spec_tree.proofs.Lists.{occurrences_append}

abbrev None : Tree → Type 0
None e = T (no_switch e)

-- the nodes of the first x bindings
first_total : ℕ → List Binding → ℕ
first_total x [] = 0
first_total zero (b ∷ l) = 0
first_total (suc x) (b ∷ l) = size b.expr + first_total x l

-- where the others have no switch, these are what is held
held_first : (x : ℕ) (l : List Binding) → Past None x l → occurrences (held_bindings x l) ≡ first_total x l
unfolding held_bindings occurrences first_total
held_first x [] h = refl
held_first zero (b ∷ l) h = go (holds_switch b.expr) (none_outside b.expr h.0) (held_first zero l h.1)
  where
    nothing : (l : List Binding) → first_total zero l ≡ 0
    nothing [] = refl
    nothing (b ∷ l) = refl

    go : (c : Bool) → (T c → ⊥) → occurrences (held_bindings zero l) ≡ first_total zero l → occurrences (elim c [ true ↦ b.expr ∷ held_bindings zero l | false ↦ held_bindings zero l ]) ≡ 0
    go true n g = absurd (n tt)
    go false n g = g ∙ nothing l
held_first (suc x) (b ∷ l) h = ap (λ (m : ℕ). size b.expr + m) (held_first x l h)

-- all of them, where x is their number
first_all : (l : List Binding) → first_total (length l) l ≡ occurrences (bound l)
unfolding first_total bound occurrences
first_all [] = refl
first_all (b ∷ l) = ap (λ (m : ℕ). size b.expr + m) (first_all l)

-- one more at the end is none of the first
first_append : (x : ℕ) (l : List Binding) (b : Binding) → x ≤ length l → first_total x (l ++ (b ∷ [])) ≡ first_total x l
unfolding first_total
first_append zero [] b h = refl
first_append zero (a ∷ l) b h = refl
first_append (suc x) [] b h = absurd (omega arith)
first_append (suc x) (a ∷ l) b h = ap (λ (m : ℕ). size a.expr + m) (first_append x l b (omega arith))

-- ---- replaced divisors

module _ (d : Tree) (n : Name) where
  divided_first : (x : ℕ) (l : List Binding) → first_total x (replace_divisor_bound d n l) ≤ first_total x l
  unfolding first_total replace_divisor_bound
  divided_first x [] = omega arith
  divided_first zero (b ∷ l) = omega arith
  divided_first (suc x) (b ∷ l) = (let a = divisor_size d n b.expr in let c = divided_first x l in omega arith)

  divided_results : (l : List Tree) → occurrences (replace_divisor_each d n l) ≤ occurrences l
  unfolding replace_divisor_each occurrences
  divided_results [] = omega arith
  divided_results (t ∷ l) = (let a = divisor_size d n t in let b = divided_results l in omega arith)

  divided_length : (l : List Binding) → length (replace_divisor_bound d n l) ≡ length l
  unfolding replace_divisor_bound
  divided_length [] = refl
  divided_length (b ∷ l) = ap suc (divided_length l)

  divided_none : (x : ℕ) (l : List Binding) → Past None x l → Past None x (replace_divisor_bound d n l)
  unfolding replace_divisor_bound
  divided_none x [] h = tt
  divided_none zero (b ∷ l) h = (divided_no_switch d n b.expr h.0, divided_none zero l h.1)
  divided_none (suc x) (b ∷ l) h = divided_none x l h

length_more : (l : List Binding) (b : Binding) → length (l ++ (b ∷ [])) ≡ suc (length l)
length_more [] b = refl
length_more (a ∷ l) b = ap suc (length_more l b)

-- ---- all reciprocals

each_first :
    (x : ℕ) (ds : List Tree) (s : State) → x ≤ length s.lets
    → occurrences (bind_reciprocals ds s).results + first_total x (bind_reciprocals ds s).lets ≤ occurrences s.results + first_total x s.lets
unfolding bind_reciprocals bind_reciprocal
each_first x [] s h = omega arith
each_first x (d ∷ ds) s h =
    (let n = xname s.next in
    let l = replace_divisor_bound d n s.lets in
    let b : Binding = record { name = n; expr = inverse d } in
    let a = each_first x ds (bind_reciprocal d s) (let u = length_more l b in let v = divided_length d n s.lets in (unfold inverse in omega arith)) in
    let c = divided_results d n s.results in
    let e = divided_first d n x s.lets in
    let f : first_total x (bind_reciprocal d s).lets ≡ first_total x l = (unfold inverse in first_append x l b (let v = divided_length d n s.lets in omega arith)) in
    omega arith)

-- each reciprocal is one binding more
lets_each : (ds : List Tree) (s : State) → length (bind_reciprocals ds s).lets ≡ length ds + length s.lets
unfolding bind_reciprocals bind_reciprocal inverse
lets_each [] s = omega arith
lets_each (d ∷ ds) s =
    (let n = xname s.next in
    let l = replace_divisor_bound d n s.lets in
    let a = lets_each ds (bind_reciprocal d s) in
    let u = length_more l (record { name = n; expr = inverse d }) in
    let v = divided_length d n s.lets in
    omega arith)

pub reciprocals_lets : (scoped : Bool) (s : State) → length (reciprocals scoped s).lets ≡ length (bound_divisors scoped s) + length s.lets
reciprocals_lets scoped s = ap (λ (t : State). length t.lets) (reciprocals_are scoped s) ∙ lets_each (bound_divisors scoped s) s

each_none : (x : ℕ) (ds : List Tree) (s : State) → AllTrees None ds → Past None x s.lets → Past None x (bind_reciprocals ds s).lets
unfolding bind_reciprocals
each_none x [] s g h = h
each_none x (d ∷ ds) s g h =
    each_none x ds (bind_reciprocal d s) g.1
    (unfold bind_reciprocal in
    past_append None x (replace_divisor_bound d (xname s.next) s.lets) _ (divided_none d (xname s.next) x s.lets h) (let i = inverse_no_switch d g.0 in (unfold inverse in i)))

held_parts : (x : ℕ) (s : State) → occurrences (held x s) ≡ occurrences s.results + occurrences (held_bindings x s.lets)
unfolding held
held_parts x s = occurrences_append s.results (held_bindings x s.lets)

roots_parts : (s : State) → occurrences (roots s) ≡ occurrences s.results + occurrences (bound s.lets)
unfolding roots
roots_parts s = occurrences_append s.results (bound s.lets)

-- no more than the scope had after its rounds
pub held_rows : (s : State) → AllTrees None (bound_divisors true s) → occurrences (held (length s.lets) (reciprocals true s)) ≤ occurrences (roots s)
held_rows s g =
    (let x = length s.lets in
    let t = bind_reciprocals (bound_divisors true s) s in
    let a : occurrences (held x (reciprocals true s)) ≡ occurrences (held x t) = ap (λ (u : State). occurrences (held x u)) (reciprocals_are true s) in
    let b = held_parts x t in
    let c = held_first x t.lets (each_none x (bound_divisors true s) s g (past_none None s.lets)) in
    let d = each_first x (bound_divisors true s) s (omega arith) in
    let e = first_all s.lets in
    let f = roots_parts s in
    omega arith)
