-- The steps of `flatten_tree` and `flatten_operands`, with no code in them: a tree by its word's kind, and trees multiplied one after another. Assumes nothing.
use Rattle.std.proofs.Common.{◌≡◌, ℕ, suc, ◌+◌, ◌-◌, ◌<◌, ◌≤◌, Bool, true, false, ◌||◌, eqb, List, [], ◌∷◌, ◌++◌, map, length, get_or, set, ℤ, sym, refl, ap, ◌∙◌, subst, ap₂, true≢false, append_assoc, append-nil, arith, length-append, ne_eqb}
use borrow.Author.Tests.{eqb-false}
use lib.Seq.{sets, length-sets}
use lib.Ieee.{Float, binary64, mul, neg, of_int}
use Rattle.spec_tree.specs.Tree.{Name, Tree, Forest, Sym, Const, Op, forest}
use Rattle.spec_tree.specs.Kinds.{Neg, Mul}
use Rattle.spec_tree.specs.Facts.{total, size}
use Rattle.spec_tree.specs.Tokens.{kind_of, below_of, takes, constant_at, numbered}
use Rattle.spec_tree.proofs.TokenLaws.{Word, a_symbol, a_constant, an_operation, word_is, symbol_tree, constant_tree, operation_tree, leaf_takes}
use Rattle.spec_rewrite.specs.Rewrite.{Factors, one, flatten_mul_factors, flatten_operands, flatten_after, times, negated}
use Rattle.replace.specs.factors.Places.{tree, trees_from, Stands, factor_places, operand_places, Flat, passes_through}
use Rattle.replace.proofs.factors.WordRuns.{First, first_of, none_from, node_of}
use Rattle.replace.proofs.factors.PlaceLaws.{few_places}
use Rattle.spec_tree.proofs.Lists.{sets_append}

-- ---- words stored one run after another

pub flat_long : {c : Float} {ps old new : List ℕ} {used n : ℕ} {x : Float} → Flat c ps old used x n new → length new ≡ length old
flat_long {c} {ps} {old} {new} {used} f = ap length f.places_are ∙ length-sets old used ps

-- ---- a tree by the kind of its word

abbrev pub Taken : Tree → ℕ → List ℕ → ℕ → Float → ℕ → List ℕ → Type 0
Taken t at old used c n new = Flat (flatten_mul_factors t).coefficient (factor_places at t) old used c n new

constant_taken : (t : Tree) (z : ℤ) (at : ℕ) (old : List ℕ) (used : ℕ) (c : Float) → t ≡ Const z → c ≡ of_int binary64 z → Taken t at old used c 0 old
unfolding flatten_mul_factors factor_places
constant_taken t z at old used c e h =
    subst (λ (u : Tree). Taken u at old used c 0 old) (sym e) (record { coefficient_is = h; count_is = refl; places_are = refl })

product_taken :
    (t : Tree) (f : Forest) (at : ℕ) {old new : List ℕ} {used n : ℕ} {c : Float} → t ≡ Op 5 f
    → Flat (flatten_operands f).coefficient (operand_places (at + 1) f) old used c n new → Taken t at old used c n new
unfolding flatten_mul_factors factor_places
product_taken t f at {old} {new} {used} {n} {c} e h = subst (λ (u : Tree). Taken u at old used c n new) (sym e) h

minus_taken :
    (t : Tree) (f : Forest) (at : ℕ) {old new : List ℕ} {used n : ℕ} {c : Float} → t ≡ Op 2 f
    → Flat (flatten_operands f).coefficient (operand_places (at + 1) f) old used c n new → Taken t at old used (neg c) n new
unfolding flatten_mul_factors factor_places negated
minus_taken t f at {old} {new} {used} {n} {c} e h =
    subst (λ (u : Tree). Taken u at old used (neg c) n new) (sym e)
    (record { coefficient_is = ap neg h.coefficient_is; count_is = h.count_is; places_are = h.places_are })

symbol_taken : (t : Tree) (a : Name) (at : ℕ) (old : List ℕ) (used : ℕ) (c : Float) → t ≡ Sym a → c ≡ one → Taken t at old used c 1 (set old used at)
unfolding flatten_mul_factors factor_places
symbol_taken t a at old used c e h =
    subst (λ (u : Tree). Taken u at old used c 1 (set old used at)) (sym e) (record { coefficient_is = h; count_is = refl; places_are = refl })

other_step :
    (b d : Bool) (F G H : Factors) (ps old : List ℕ) (at used : ℕ) (c : Float) → b ≡ false → d ≡ false → c ≡ H.coefficient
    → Flat (elim b as (λ _. Factors) [ true ↦ F | false ↦ elim d [ true ↦ G | false ↦ H ] ]).coefficient
    (elim b [ true ↦ ps | false ↦ elim d [ true ↦ ps | false ↦ at ∷ [] ] ]) old used c 1 (set old used at)
other_step true d F G H ps old at used c p q h = absurd (true≢false p)
other_step false true F G H ps old at used c p q h = absurd (true≢false q)
other_step false false F G H ps old at used c p q h = record { coefficient_is = h; count_is = refl; places_are = refl }

other_taken :
    (t : Tree) (k : ℕ) (f : Forest) (at : ℕ) (old : List ℕ) (used : ℕ) (c : Float) → t ≡ Op k f → (k ≡ 5 → ⊥) → (k ≡ 2 → ⊥) → c ≡ one
    → Taken t at old used c 1 (set old used at)
unfolding flatten_mul_factors factor_places
other_taken t k f at old used c e p q h =
    subst (λ (u : Tree). Taken u at old used c 1 (set old used at)) (sym e)
    (other_step (eqb k Mul) (eqb k Neg) (flatten_operands f) (negated (flatten_operands f)) (record { coefficient = one; factors = Op k f ∷ [] })
    (operand_places (at + 1) f) old at used c (ne_eqb k 5 p) (ne_eqb k 2 q) h)

module _ {ws : List ℕ} {at : ℕ} (s : Stands ws at 1) where
  abbrev w : ℕ
  w = get_or ws at 0

  is_operation : (k : ℕ) → kind_of w ≡ k → 1 < k → tree ws at ≡ Op k (forest (trees_from ws (at + 1) (takes w)))
  is_operation k e h =
      let m = node_of s in
      let l = trees_from ws (at + 1) (takes w) in
      m.is ∙ (operation_tree numbered w l (omega arith) ∙ ap (λ (j : ℕ). Op j (forest l)) e)

  pub leaf_long : kind_of w ≤ 1 → size (tree ws at) ≡ 1
  unfolding total
  leaf_long e =
      let m = node_of s in
      let z = leaf_takes w e in
      m.long ∙ ap suc (ap (λ (n : ℕ). total (map size (trees_from ws (at + 1) n))) z ∙ ap (λ (l : List Tree). total (map size l)) (none_from ws (at + 1)))

  pub constant_done :
      (old : List ℕ) (used : ℕ) (c : Float) → kind_of w ≡ 1 → c ≡ of_int binary64 (constant_at (below_of w))
      → Taken (tree ws at) at old used c 0 old × (at + 1 ≡ at + size (tree ws at))
  constant_done old used c e h =
      let m = node_of s in
      let z = leaf_long (omega arith) in
      let is : tree ws at ≡ Const (constant_at (below_of w)) = m.is ∙ constant_tree numbered w (trees_from ws (at + 1) (takes w)) e in
      (constant_taken (tree ws at) (constant_at (below_of w)) at old used c is h, omega arith)

  -- neither a Mul nor a Neg
  plain_kind : passes_through w ≡ false → (kind_of w ≡ 5 → ⊥) × (kind_of w ≡ 2 → ⊥)
  unfolding passes_through
  plain_kind e = go (eqb (kind_of w) 5) (eqb (kind_of w) 2) refl refl e
    where
      go : (a b : Bool) → eqb (kind_of w) 5 ≡ a → eqb (kind_of w) 2 ≡ b → (a || b) ≡ false → (kind_of w ≡ 5 → ⊥) × (kind_of w ≡ 2 → ⊥)
      go true b p q e = absurd (true≢false e)
      go false true p q e = absurd (true≢false e)
      go false false p q e = (eqb-false (kind_of w) 5 p, eqb-false (kind_of w) 2 q)

  pub kind_plain : (kind_of w ≡ 5 → ⊥) → (kind_of w ≡ 2 → ⊥) → passes_through w ≡ false
  unfolding passes_through
  kind_plain p q = rw (ne_eqb (kind_of w) 5 p, ne_eqb (kind_of w) 2 q)

  pub other_done :
      (old : List ℕ) (used : ℕ) (c : Float) → (kind_of w ≡ 1 → ⊥) → passes_through w ≡ false → c ≡ one
      → Taken (tree ws at) at old used c 1 (set old used at)
  other_done old used c p q h = go (word_is w)
    where
      go : Word w → Taken (tree ws at) at old used c 1 (set old used at)
      go (a_symbol e) = symbol_taken (tree ws at) _ at old used c ((node_of s).is ∙ symbol_tree numbered w (trees_from ws (at + 1) (takes w)) e) h
      go (a_constant e) = absurd (p e)
      go (an_operation e) = other_taken (tree ws at) (kind_of w) (forest (trees_from ws (at + 1) (takes w))) at old used c (is_operation (kind_of w) refl e) (plain_kind q).0 (plain_kind q).1 h

  -- the operands, as many as the word says
  module _ (n : ℕ) (count : n ≡ takes w) where
    abbrev f : Forest
    f = forest (trees_from ws (at + 1) n)

    pub operands_stand : Stands ws (at + 1) n
    operands_stand = rw count (node_of s).operands

    pub operands_long : size (tree ws at) ≡ suc (total (map size (trees_from ws (at + 1) n)))
    operands_long = rw count (node_of s).long

    is_op : (k : ℕ) → kind_of w ≡ k → 1 < k → tree ws at ≡ Op k f
    is_op k e h = rw count (is_operation k e h)

    pub product_done :
        {old new : List ℕ} {used m next : ℕ} {c : Float} → kind_of w ≡ 5
        → Flat (flatten_operands f).coefficient (operand_places (at + 1) f) old used c m new × (next ≡ at + 1 + total (map size (trees_from ws (at + 1) n)))
        → Taken (tree ws at) at old used c m new × (next ≡ at + size (tree ws at))
    product_done e h = (product_taken (tree ws at) f at (is_op 5 e (omega arith)) h.0, omega (arith, operands_long, h.1))

    pub minus_done :
        {old new : List ℕ} {used m next : ℕ} {c : Float} → kind_of w ≡ 2
        → Flat (flatten_operands f).coefficient (operand_places (at + 1) f) old used c m new × (next ≡ at + 1 + total (map size (trees_from ws (at + 1) n)))
        → Taken (tree ws at) at old used (neg c) m new × (next ≡ at + size (tree ws at))
    minus_done e h = (minus_taken (tree ws at) f at (is_op 2 e (omega arith)) h.0, omega (arith, operands_long, h.1))

-- ---- trees one after another

-- the running product, multiplied by the coefficient of each tree
unfoldable pub after : List Tree → Float → Float
after [] c = c
after (t ∷ l) c = after l (mul binary64 c (flatten_mul_factors t).coefficient)

after_is : (l : List Tree) (p : Factors) → (flatten_after (forest l) p).coefficient ≡ after l p.coefficient
unfolding after flatten_mul_factors forest times
after_is [] p = refl
after_is (t ∷ l) p = after_is l (times p (flatten_mul_factors t))

abbrev long : List ℕ → ℕ → ℕ → ℕ
long ws at n = total (map size (trees_from ws at n))

-- the first of some trees and the others: their product, places and sizes
record Begun (ws : List ℕ) (at n : ℕ) : Type 0 where
  product : (flatten_operands (forest (trees_from ws at (suc n)))).coefficient ≡ after (trees_from ws (at + size (tree ws at)) n) (flatten_mul_factors (tree ws at)).coefficient
  more : (c : Float) → after (trees_from ws at (suc n)) c ≡ after (trees_from ws (at + size (tree ws at)) n) (mul binary64 c (flatten_mul_factors (tree ws at)).coefficient)
  places : operand_places at (forest (trees_from ws at (suc n))) ≡ factor_places at (tree ws at) ++ operand_places (at + size (tree ws at)) (forest (trees_from ws (at + size (tree ws at)) n))
  sum : long ws at (suc n) ≡ size (tree ws at) + long ws (at + size (tree ws at)) n

begun : {ws : List ℕ} {at n : ℕ} → First ws at n → Begun ws at n
unfolding after forest total flatten_mul_factors factor_places
begun {ws} {at} {n} h =
    let l = trees_from ws (at + size (tree ws at)) n in
    record {
      product = ap (λ (k : List Tree). (flatten_operands (forest k)).coefficient) h.are ∙ after_is l (flatten_mul_factors (tree ws at));
      more = λ c. ap (λ (k : List Tree). after k c) h.are;
      places = ap (λ (k : List Tree). operand_places at (forest k)) h.are;
      sum = ap (λ (k : List Tree). total (map size k)) h.are;
    }

module _ (ws : List ℕ) (at count : ℕ) (old : List ℕ) (used : ℕ) where
  abbrev pub EachTaken : Float → ℕ → List ℕ → Type 0
  EachTaken c n new =
      Flat (flatten_operands (forest (trees_from ws at count))).coefficient (operand_places at (forest (trees_from ws at count))) old used c n new

  -- the trees before `next` are multiplied and their factors written; `left` trees are to come
  pub record Looping (new : List ℕ) (c : Float) (found next left : ℕ) : Type 0 where
    pub from : at ≤ next
    pub stand : Stands ws next left
    pub done : List ℕ
    pub found_is : found ≡ length done
    pub places_are : new ≡ sets old used done
    pub all : operand_places at (forest (trees_from ws at count)) ≡ done ++ operand_places next (forest (trees_from ws next left))
    pub product : (flatten_operands (forest (trees_from ws at count))).coefficient ≡ after (trees_from ws next left) c
    pub end : next + long ws next left ≡ at + long ws at count
    pub room : used + found + long ws next left ≤ length old

  pub none_done : count ≡ 0 → (c : Float) → c ≡ one → EachTaken c 0 old × (at ≡ at + long ws at count)
  unfolding flatten_mul_factors factor_places forest total
  none_done e c h =
      let z : trees_from ws at count ≡ [] = ap (trees_from ws at) e ∙ none_from ws at in
      let y : long ws at count ≡ 0 = ap (λ (l : List Tree). total (map size l)) z in (
        record {
          coefficient_is = h ∙ ap (λ (l : List Tree). (flatten_operands (forest l)).coefficient) (sym z);
          count_is = ap (λ (l : List Tree). length (operand_places at (forest l))) (sym z);
          places_are = ap (λ (l : List Tree). sets old used (operand_places at (forest l))) (sym z);
        },
        omega arith,
      )

  pub first_room : (count ≡ 0 → ⊥) → Stands ws at count → used + long ws at count ≤ length old → Stands ws at 1 × (used + size (tree ws at) ≤ length old)
  first_room h s r =
      let e : count ≡ suc (count - 1) = omega (arith, h) in
      let first = first_of (subst (Stands ws at) e s) in
      let z : long ws at count ≡ size (tree ws at) + long ws (at + size (tree ws at)) (count - 1) = ap (long ws at) e ∙ (begun first).sum in
      (first.alone, omega arith)

  pub loop_starts :
      {new : List ℕ} {c : Float} {k next : ℕ} → (count ≡ 0 → ⊥) → Stands ws at count → used + long ws at count ≤ length old
      → Taken (tree ws at) at old used c k new → next ≡ at + size (tree ws at) → Looping new c k next (count - 1)
  loop_starts {new} {c} {k} {next} some s r f h =
      let n = count - 1 in
      let e : count ≡ suc n = omega (arith, some) in
      let first = first_of (subst (Stands ws at) e s) in
      let b = begun first in
      let z : long ws at count ≡ size (tree ws at) + long ws (at + size (tree ws at)) n = ap (long ws at) e ∙ b.sum in
      let few = few_places at (tree ws at) in
      subst (λ (j : ℕ). Looping new c k j n) (sym h)
      (record {
        from = omega arith;
        stand = first.rest;
        done = factor_places at (tree ws at);
        found_is = f.count_is;
        places_are = f.places_are;
        all = ap (λ (j : ℕ). operand_places at (forest (trees_from ws at j))) e ∙ b.places;
        product =
            ap (λ (j : ℕ). (flatten_operands (forest (trees_from ws at j))).coefficient) e
            ∙ (b.product ∙ ap (after (trees_from ws (at + size (tree ws at)) n)) (sym f.coefficient_is));
        end = omega arith;
        room = omega (arith, f.count_is);
      })

module _ {ws : List ℕ} {at count : ℕ} {old : List ℕ} {used : ℕ} {mid : List ℕ} {c : Float} {found next left : ℕ} (h : Looping ws at count old used mid c found next left) where
  pub mid_long : length mid ≡ length old
  mid_long = ap length h.places_are ∙ length-sets old used h.done

  module _ (some : 0 < left) where
    abbrev n : ℕ
    n = left - 1

    more : left ≡ suc n
    more = omega arith

    first_left : First ws next n
    first_left = first_of (subst (Stands ws next) more h.stand)

    pub next_stands : Stands ws next 1
    next_stands = first_left.alone

    pub next_room : used + found + size (tree ws next) ≤ length mid
    next_room =
        let z : long ws next left ≡ size (tree ws next) + long ws (next + size (tree ws next)) n = ap (long ws next) more ∙ (begun first_left).sum in
        omega (arith, h.room, mid_long)

    pub loop_turns :
        {new : List ℕ} {d : Float} {k then : ℕ} → Taken (tree ws next) next mid (used + found) d k new → then ≡ next + size (tree ws next)
        → Looping ws at count old used new (mul binary64 c d) (found + k) then (left - 1)
    loop_turns {new} {d} {k} {then} f e =
        let b = begun first_left in
        let z : long ws next left ≡ size (tree ws next) + long ws (next + size (tree ws next)) n = ap (long ws next) more ∙ b.sum in
        let few = few_places next (tree ws next) in
        let ps = factor_places next (tree ws next) in
        let rest = operand_places (next + size (tree ws next)) (forest (trees_from ws (next + size (tree ws next)) n)) in
        subst (λ (j : ℕ). Looping ws at count old used new (mul binary64 c d) (found + k) j n) (sym e)
        (record {
          from = omega (arith, h.from);
          stand = first_left.rest;
          done = h.done ++ ps;
          found_is = omega (arith, h.found_is, f.count_is, length-append h.done ps);
          places_are =
              f.places_are ∙ (ap₂ (λ (l : List ℕ) (j : ℕ). sets l (used + j) ps) h.places_are h.found_is ∙ sets_append old used h.done ps);
          all =
              h.all ∙ (ap (λ (j : ℕ). h.done ++ operand_places next (forest (trees_from ws next j))) more
              ∙ (ap (λ (l : List ℕ). h.done ++ l) b.places ∙ sym (append_assoc h.done ps rest)));
          product =
              h.product ∙ (ap (λ (j : ℕ). after (trees_from ws next j) c) more
              ∙ (b.more c ∙ ap (λ (x : Float). after (trees_from ws (next + size (tree ws next)) n) (mul binary64 c x)) (sym f.coefficient_is)));
          end = omega (arith, h.end);
          room = omega (arith, h.room, f.count_is);
        })

  pub loop_ends : left ≡ 0 → EachTaken ws at count old used c found mid × (next ≡ at + long ws at count)
  unfolding after factor_places forest total
  loop_ends e =
      let z : trees_from ws next left ≡ [] = ap (trees_from ws next) e ∙ none_from ws next in
      let y : long ws next left ≡ 0 = ap (λ (l : List Tree). total (map size l)) z in
      let ps : operand_places at (forest (trees_from ws at count)) ≡ h.done =
      h.all ∙ (ap (λ (l : List Tree). h.done ++ operand_places next (forest l)) z ∙ append-nil h.done) in (
        record {
          coefficient_is = sym (h.product ∙ ap (λ (l : List Tree). after l c) z);
          count_is = h.found_is ∙ ap length (sym ps);
          places_are = h.places_are ∙ ap (sets old used) (sym ps);
        },
        omega (arith, h.end),
      )
