-- The places of a product's factors: what stands there are its factors in order, each a tree inside the product's run, and at most as many as its words.
-- Assumes nothing.
use Rattle.std.proofs.Common.{◌≡◌, ℕ, zero, suc, ◌+◌, ◌≤◌, Bool, true, false, eqb, List, [], ◌∷◌, ◌++◌, map, length, get_or, sym, refl, ap, ◌∙◌, subst, ap₂, append_assoc, append-nil, arith, length-append}
use mathlib.Core.Option.{some}
use Rattle.spec_tree.specs.Tree.{Tree, Forest, Sym, Const, Op, nil, ◌◂◌, forest}
use Rattle.spec_tree.specs.Kinds.{Neg, Mul}
use Rattle.spec_tree.specs.Facts.{total, size}
use Rattle.spec_tree.specs.Tokens.{kind_of, takes, numbered, run_at}
use Rattle.spec_tree.proofs.TokenLaws.{Word, a_symbol, a_constant, an_operation, word_is, symbol_tree, constant_tree, operation_tree, map_append}
use Rattle.spec_rewrite.specs.Rewrite.{Factors, one, flatten_mul_factors, flatten_operands, flatten_after, times, negated}
use Rattle.replace.specs.factors.Places.{tree, trees_from, Stands, factor_places, operand_places, at_places}
use Rattle.replace.proofs.factors.WordRuns.{first_of, none_from, Node, node_of, stands_run}

-- ---- from a node to its operands

pub record Operands (ws : List ℕ) (at : ℕ) (f : Forest) : Type 0 where
  pub count : ℕ
  pub stand : Stands ws (at + 1) count
  pub are : forest (trees_from ws (at + 1) count) ≡ f
  pub long : size (tree ws at) ≡ suc (total (map size (trees_from ws (at + 1) count)))

pub operands_of : {ws : List ℕ} {at k : ℕ} {f : Forest} → Stands ws at 1 → tree ws at ≡ Op k f → Operands ws at f
operands_of {ws} {at} {k} {f} s e = go (word_is (get_or ws at 0))
  where
    m : Node ws at
    m = node_of s

    l : List Tree
    l = trees_from ws (at + 1) (takes (get_or ws at 0))

    go : Word (get_or ws at 0) → Operands ws at f
    go (a_symbol h) = absurd (let z : ◌≡◌ {A = ℕ} 0 1 = cc (e, m.is, symbol_tree numbered (get_or ws at 0) l h) in omega arith)
    go (a_constant h) = absurd (let z : ◌≡◌ {A = ℕ} 0 1 = cc (e, m.is, constant_tree numbered (get_or ws at 0) l h) in omega arith)
    go (an_operation h) =
        let o : Op (kind_of (get_or ws at 0)) (forest l) ≡ Op k f = sym (m.is ∙ operation_tree numbered (get_or ws at 0) l h) ∙ e in
        record { count = takes (get_or ws at 0); stand = m.operands; are = cc; long = m.long }

pub record SplitForest (ws : List ℕ) (at : ℕ) (t : Tree) (f : Forest) : Type 0 where
  pub count : ℕ
  pub alone : Stands ws at 1
  pub is : tree ws at ≡ t
  pub stand : Stands ws (at + size t) count
  pub are : forest (trees_from ws (at + size t) count) ≡ f

pub split_forest : {ws : List ℕ} {at : ℕ} {t : Tree} {f : Forest} (n : ℕ) → Stands ws at n → forest (trees_from ws at n) ≡ t ◂ f → SplitForest ws at t f
unfolding forest
split_forest {ws} {at} {t} {f} zero s e = absurd (let z : ◌≡◌ {A = ℕ} 0 1 = cc (e, ap forest (none_from ws at)) in omega arith)
split_forest {ws} {at} {t} {f} (suc n) s e =
    let h = first_of s in
    let q : tree ws at ◂ forest (trees_from ws (at + size (tree ws at)) n) ≡ t ◂ f = sym (ap forest h.are) ∙ e in
    let r : tree ws at ≡ t = cc in
    let g : forest (trees_from ws (at + size (tree ws at)) n) ≡ f = cc in
    record {
      count = n;
      alone = h.alone;
      is = r;
      stand = subst (λ (u : Tree). Stands ws (at + size u) n) r h.rest;
      are = subst (λ (u : Tree). forest (trees_from ws (at + size u) n) ≡ f) r g;
    }

-- ---- the factors of operands one after another

pub factors_each : Forest → List Tree
factors_each nil = []
factors_each (t ◂ f) = (flatten_mul_factors t).factors ++ factors_each f

factors_after : (f : Forest) (p : Factors) → (flatten_after f p).factors ≡ p.factors ++ factors_each f
unfolding flatten_mul_factors times factors_each
factors_after nil p = sym (append-nil p.factors)
factors_after (t ◂ f) p = rw (factors_after f (times p (flatten_mul_factors t)), append_assoc)

factors_operands : (f : Forest) → (flatten_operands f).factors ≡ factors_each f
unfolding flatten_mul_factors factors_each
factors_operands nil = refl
factors_operands (t ◂ f) = factors_after f (flatten_mul_factors t)

-- ---- what stands at the places

at_one : (ws : List ℕ) (at : ℕ) (t : Tree) → tree ws at ≡ t → at_places ws (at ∷ []) ≡ t ∷ []
unfolding at_places
at_one ws at t e = ap (λ (u : Tree). u ∷ []) e

at_both : (ws ps qs : List ℕ) → at_places ws (ps ++ qs) ≡ at_places ws ps ++ at_places ws qs
unfolding at_places
at_both ws ps qs = map_append (tree ws) ps qs

at_none : (ws : List ℕ) → at_places ws [] ≡ []
unfolding at_places
at_none ws = refl

three :
    (b c : Bool) (ws ps qs : List ℕ) (F G H : Factors) → at_places ws ps ≡ F.factors → at_places ws ps ≡ G.factors → at_places ws qs ≡ H.factors
    → at_places ws (elim b [ true ↦ ps | false ↦ elim c [ true ↦ ps | false ↦ qs ] ])
    ≡ (elim b as (λ _. Factors) [ true ↦ F | false ↦ elim c [ true ↦ G | false ↦ H ] ]).factors
three true c ws ps qs F G H f g h = f
three false true ws ps qs F G H f g h = g
three false false ws ps qs F G H f g h = h

mutual
  unfolding factor_places flatten_mul_factors negated factors_each

  at_tree : (t : Tree) (ws : List ℕ) (at : ℕ) → Stands ws at 1 → tree ws at ≡ t → at_places ws (factor_places at t) ≡ (flatten_mul_factors t).factors
  at_tree (Sym n) ws at s e = at_one ws at (Sym n) e
  at_tree (Const c) ws at s e = at_none ws
  at_tree (Op k f) ws at s e =
      let o = operands_of s e in
      let h : at_places ws (operand_places (at + 1) f) ≡ (flatten_operands f).factors = at_each f ws (at + 1) o.count o.stand o.are ∙ sym (factors_operands f) in
      three (eqb k Mul) (eqb k Neg) ws (operand_places (at + 1) f) (at ∷ []) (flatten_operands f) (negated (flatten_operands f))
      (record { coefficient = one; factors = Op k f ∷ [] }) h h (at_one ws at (Op k f) e)

  at_each : (f : Forest) (ws : List ℕ) (at n : ℕ) → Stands ws at n → forest (trees_from ws at n) ≡ f → at_places ws (operand_places at f) ≡ factors_each f
  at_each nil ws at n s e = at_none ws
  at_each (t ◂ f) ws at n s e =
      let h = split_forest n s e in
      at_both ws (factor_places at t) (operand_places (at + size t) f)
      ∙ ap₂ (λ (a b : List Tree). a ++ b) (at_tree t ws at h.alone h.is) (at_each f ws (at + size t) h.count h.stand h.are)

-- the trees at the places are the factors, in order
pub places_are_factors : (ws : List ℕ) (at : ℕ) → Stands ws at 1 → at_places ws (factor_places at (tree ws at)) ≡ (flatten_mul_factors (tree ws at)).factors
places_are_factors ws at s = at_tree (tree ws at) ws at s refl

-- ---- each place

abbrev pub Each : (ℕ → Type 0) → List ℕ → Type 0
Each P [] = Unit {0}
Each P (p ∷ ps) = P p × Each P ps

-- a tree starts there, and its run lies between two places
pub record Inside (ws : List ℕ) (from to p : ℕ) : Type 0 where
  pub low : from ≤ p
  pub high : p + size (tree ws p) ≤ to
  pub run : run_at ws p ≡ some (size (tree ws p))

each_both : (P : ℕ → Type 0) (ps qs : List ℕ) → Each P ps → Each P qs → Each P (ps ++ qs)
each_both P [] qs h g = g
each_both P (p ∷ ps) qs (a, h) g = (a, each_both P ps qs h g)

wider : (ws : List ℕ) (a b c d : ℕ) → c ≤ a → b ≤ d → (ps : List ℕ) → Each (Inside ws a b) ps → Each (Inside ws c d) ps
wider ws a b c d l r [] h = tt
wider ws a b c d l r (p ∷ ps) (i, h) =
    (record { low = omega (arith, i.low); high = omega (arith, i.high); run = i.run }, wider ws a b c d l r ps h)

three_each :
    (P : ℕ → Type 0) (b c : Bool) (ps qs : List ℕ) → Each P ps → Each P qs
    → Each P (elim b [ true ↦ ps | false ↦ elim c [ true ↦ ps | false ↦ qs ] ])
three_each P true c ps qs h g = h
three_each P false true ps qs h g = h
three_each P false false ps qs h g = g

whole : (ws : List ℕ) (at : ℕ) (t : Tree) → Stands ws at 1 → tree ws at ≡ t → Each (Inside ws at (at + size t)) (at ∷ [])
whole ws at t s e =
    let z : size (tree ws at) ≡ size t = ap size e in
    (record { low = omega arith; high = omega arith; run = stands_run s }, tt)

size_more : (t : Tree) (f : Forest) → size (Op 0 (t ◂ f)) ≡ size t + size (Op 0 f)
unfolding size total
size_more t f = omega arith

size_some : (f : Forest) → 1 ≤ size (Op 0 f)
unfolding size
size_some f = omega arith

size_kind : (k : ℕ) (f : Forest) → size (Op k f) ≡ size (Op 0 f)
unfolding size
size_kind k f = refl

mutual
  unfolding factor_places

  in_tree : (t : Tree) (ws : List ℕ) (at : ℕ) → Stands ws at 1 → tree ws at ≡ t → Each (Inside ws at (at + size t)) (factor_places at t)
  in_tree (Sym n) ws at s e = whole ws at (Sym n) s e
  in_tree (Const c) ws at s e = tt
  in_tree (Op k f) ws at s e =
      let o = operands_of s e in
      three_each (Inside ws at (at + size (Op k f))) (eqb k Mul) (eqb k Neg) (operand_places (at + 1) f) (at ∷ [])
      (in_each f ws at (at + size (Op k f)) (at + 1) o.count (omega arith) (omega (arith, size_kind k f)) o.stand o.are) (whole ws at (Op k f) s e)

  in_each :
      (f : Forest) (ws : List ℕ) (from to at n : ℕ) → from ≤ at → at + size (Op 0 f) ≤ to + 1 → Stands ws at n → forest (trees_from ws at n) ≡ f
      → Each (Inside ws from to) (operand_places at f)
  in_each nil ws from to at n l r s e = tt
  in_each (t ◂ f) ws from to at n l r s e =
      let h = split_forest n s e in
      let z = size_more t f in
      let y = size_some f in
      each_both (Inside ws from to) (factor_places at t) (operand_places (at + size t) f)
      (wider ws at (at + size t) from to l (omega arith) (factor_places at t) (in_tree t ws at h.alone h.is))
      (in_each f ws from to (at + size t) h.count (omega arith) (omega arith) h.stand h.are)

-- each factor is a tree inside the product's run
pub places_inside : (ws : List ℕ) (at : ℕ) → Stands ws at 1 → Each (Inside ws at (at + size (tree ws at))) (factor_places at (tree ws at))
places_inside ws at s = in_tree (tree ws at) ws at s refl

-- ---- how many there are

three_few : (b c : Bool) (ps : List ℕ) (at n : ℕ) → length ps + 1 ≤ n → length {A = ℕ} (elim b [ true ↦ ps | false ↦ elim c [ true ↦ ps | false ↦ at ∷ [] ] ]) ≤ n
three_few true c ps at n h = omega arith
three_few false true ps at n h = omega arith
three_few false false ps at n h = omega arith

size_leaf : (t : Tree) → 1 ≤ size t
unfolding size
size_leaf (Sym n) = omega arith
size_leaf (Const c) = omega arith
size_leaf (Op k f) = omega arith

mutual
  unfolding factor_places

  pub few_places : (at : ℕ) (t : Tree) → length (factor_places at t) ≤ size t
  few_places at (Sym n) = size_leaf (Sym n)
  few_places at (Const c) = omega arith
  few_places at (Op k f) =
      three_few (eqb k Mul) (eqb k Neg) (operand_places (at + 1) f) at (size (Op k f)) (omega (arith, few_operands (at + 1) f, size_kind k f))

  few_operands : (at : ℕ) (f : Forest) → length (operand_places at f) + 1 ≤ size (Op 0 f)
  few_operands at nil = size_some nil
  few_operands at (t ◂ f) =
      omega (arith, length-append (factor_places at t) (operand_places (at + size t) f), few_places at t, few_operands (at + size t) f, size_more t f)
