-- What the loops over a word's operands keep, a column's sum and greatest so far, and a word's facts from them. Assumes nothing.
use Prim.Native.Nat.{ℕ, zero, suc, ◌+◌, ◌-◌, ◌*◌, ◌≤◌, ◌<◌, max}
use native.Mathlib.Omega.{arith}
use mathlib.Core.Path.{◌≡◌, refl, subst, sym}
use mathlib.Core.List.{List, [], ◌∷◌}
use borrow.Author.Tests.{le-leb, lt-leb}
use lib.ListN.{length, get_or}
use lib.Dec.{lit<}
use Rattle.spec_tree.specs.Kinds.{is_select}
use Rattle.spec_tree.specs.Facts.{total, greatest, first_and_greatest}
use Rattle.spec_tree.specs.Tokens.{kind_of, takes}
use Rattle.spec_tree.proofs.FactLaws.{greatest_total, costs_total}
use Rattle.rounds.specs.measure.Columns.{column, Inside, Ready, WordFacts, operand_costs}
use Rattle.rounds.proofs.measure.WordFacts.{operation_own, other_own}

-- the first of some operands, and those after it
pub record Next (fs : List ℕ) (c p left : ℕ) : Type 0 where
  pub room : 4 * p + 3 < length fs
  pub within : p + get_or fs (4 * p) 0 ≤ length fs
  pub rest : Inside fs (p + get_or fs (4 * p) 0) (left - 1)
  pub are : column fs c p left ≡ get_or fs (4 * p + c) 0 ∷ column fs c (p + get_or fs (4 * p) 0) (left - 1)

pub next : (fs : List ℕ) (c p left : ℕ) → Inside fs p left → 0 < left → Next fs c p left
unfolding Inside column
next fs c p zero i h = absurd (omega arith)
next fs c p (suc n) i h =
    let e : suc n - 1 ≡ n = omega arith in
    record { room = i.0; within = i.1; rest = rw e i.2; are = rw e }

pub none_left : (fs : List ℕ) (c p left : ℕ) → left ≤ 0 → column fs c p left ≡ []
unfolding column
none_left fs c p zero h = refl
none_left fs c p (suc n) h = absurd (omega arith)

total_cons : (n : ℕ) (l : List ℕ) → total (n ∷ l) ≡ n + total l
unfolding total
total_cons n l = refl

greatest_cons : (n : ℕ) (l : List ℕ) → greatest (n ∷ l) ≡ max n (greatest l)
unfolding greatest
greatest_cons n l = refl

module _ (fs : List ℕ) (fact place count : ℕ) where
  pub record Summing (sum p left : ℕ) : Type 0 where
    pub inside : Inside fs p left
    pub so_far : sum + total (column fs fact p left) ≡ total (column fs fact place count)

  pub record SumTurn (sum p left : ℕ) : Type 0 where
    pub here : Next fs fact p left
    pub small : sum + get_or fs (4 * p + fact) 0 ≤ total (column fs fact place count)
    pub after : Summing (sum + get_or fs (4 * p + fact) 0) (p + get_or fs (4 * p) 0) (left - 1)

  pub summing : Inside fs place count → Summing 0 place count
  summing i = record { inside = i; so_far = omega arith }

  pub sum_turn : {sum p left : ℕ} → Summing sum p left → 0 < left → SumTurn sum p left
  sum_turn {sum} {p} {left} s h =
      let k = next fs fact p left s.inside h in
      let v = get_or fs (4 * p + fact) 0 in
      let l = column fs fact (p + get_or fs (4 * p) 0) (left - 1) in
      let e : total (column fs fact p left) ≡ v + total l = rw k.are (total_cons v l) in
      record { here = k; small = omega (arith, s.so_far, e); after = record { inside = k.rest; so_far = omega (arith, s.so_far, e) } }

  pub sum_end : {sum p left : ℕ} → Summing sum p left → left ≤ 0 → sum ≡ total (column fs fact place count)
  unfolding total
  sum_end {sum} {p} {left} s h =
      let e : total (column fs fact p left) ≡ 0 = rw (none_left fs fact p left h) in
      omega (arith, s.so_far, e)

  pub record Seeking (most p left : ℕ) : Type 0 where
    pub inside : Inside fs p left
    pub so_far : max most (greatest (column fs fact p left)) ≡ greatest (column fs fact place count)

  pub record SeekTurn (most p left : ℕ) : Type 0 where
    pub here : Next fs fact p left
    pub after : Seeking (max most (get_or fs (4 * p + fact) 0)) (p + get_or fs (4 * p) 0) (left - 1)

  pub seeking : Inside fs place count → Seeking 0 place count
  seeking i = record { inside = i; so_far = omega arith }

  pub seek_turn : {most p left : ℕ} → Seeking most p left → 0 < left → SeekTurn most p left
  seek_turn {most} {p} {left} s h =
      let k = next fs fact p left s.inside h in
      let v = get_or fs (4 * p + fact) 0 in
      let l = column fs fact (p + get_or fs (4 * p) 0) (left - 1) in
      let e : greatest (column fs fact p left) ≡ max v (greatest l) = rw k.are (greatest_cons v l) in
      record { here = k; after = record { inside = k.rest; so_far = omega (arith, s.so_far, e) } }

  pub seek_end : {most p left : ℕ} → Seeking most p left → left ≤ 0 → most ≡ greatest (column fs fact place count)
  unfolding greatest
  seek_end {most} {p} {left} s h =
      let e : greatest (column fs fact p left) ≡ 0 = rw (none_left fs fact p left h) in
      omega (arith, s.so_far, e)

-- ---- the cost of some operands

pub costs_sum : (k : ℕ) (l : List ℕ) → k < 27 → total l ≡ operand_costs k l
unfolding operand_costs
costs_sum k l h = rw (lt-leb 27 k h)

pub costs_none : (k : ℕ) (fs : List ℕ) (p n : ℕ) → 27 ≤ k → n ≡ 0 → 0 ≡ operand_costs k (column fs 1 p n)
unfolding operand_costs first_and_greatest
costs_none k fs p n h e = rw (le-leb 27 k h, none_left fs 1 p n (omega arith))

pub record Arms (k : ℕ) (fs : List ℕ) (p n : ℕ) : Type 0 where
  pub here : Next fs 1 p n
  pub are : get_or fs (4 * p + 1) 0 + greatest (column fs 1 (p + get_or fs (4 * p) 0) (n - 1)) ≡ operand_costs k (column fs 1 p n)
  pub small : get_or fs (4 * p + 1) 0 + greatest (column fs 1 (p + get_or fs (4 * p) 0) (n - 1)) ≤ total (column fs 1 p n)

pub arms : (k : ℕ) (fs : List ℕ) (p n : ℕ) → 27 ≤ k → (n ≡ 0 → ⊥) → Inside fs p n → Arms k fs p n
unfolding operand_costs first_and_greatest total
arms k fs p n h z i =
    let m = next fs 1 p n i (omega (arith, z)) in
    record {
      here = m;
      are = rw (le-leb 27 k h, m.are);
      small = rw m.are (omega (arith, greatest_total (column fs 1 (p + get_or fs (4 * p) 0) (n - 1))));
    }

-- ---- the facts of a word

-- all sums stay below the length
pub record Small (len : ℕ) (fs : List ℕ) (p n : ℕ) : Type 0 where
  pub inside : Inside fs p n
  pub sizes : total (column fs 0 p n) < len
  pub costs : total (column fs 1 p n) < len
  pub depths : greatest (column fs 2 p n) < len
  pub symbols : greatest (column fs 3 p n) < len

pub small : {len : ℕ} {fs : List ℕ} {p n m : ℕ} → n ≡ m → Ready len fs p m → Small len fs p n
small {len} {fs} {p} {n} {m} e r =
    subst (λ (k : ℕ). Small len fs p k) (sym e)
    (record {
      inside = r.inside;
      sizes = r.sums 0 (lit< tt);
      costs = r.sums 1 (lit< tt);
      depths = omega (arith, r.sums 2 (lit< tt), greatest_total (column fs 2 p m));
      symbols = omega (arith, r.sums 3 (lit< tt), greatest_total (column fs 3 p m));
    })

pub operands_small : (k : ℕ) (l : List ℕ) → operand_costs k l ≤ total l
unfolding operand_costs
operands_small k l = costs_total (is_select k) l

-- of an operation
pub word_facts :
    (w : ℕ) (fs : List ℕ) (p : ℕ) {n s c d h : ℕ} → 1 < kind_of w → n ≡ takes w → s ≡ total (column fs 0 p n) → c ≡ operand_costs (kind_of w) (column fs 1 p n)
    → d ≡ greatest (column fs 2 p n) → h ≡ greatest (column fs 3 p n) → WordFacts w fs p (1 + s) (1 + c) (1 + d) h
word_facts w fs p op en es ec ed eh =
    record {
      size_is = rw (es, en);
      cost_is = rw (ec, operation_own w op, en);
      depth_is = rw (ed, operation_own w op, en);
      symbol_is = rw (eh, other_own w (omega arith), en) (omega arith);
    }
