-- A name is looked for along its bucket's chain, and a new name's row is put before the others. Assumes nothing.
use Prim.Native.Nat.{ℕ, zero, suc, ◌+◌, ◌*◌, ◌/◌, ◌%◌, ◌≤◌, ◌<◌}
use mathlib.Core.Path.{◌≡◌, refl, sym, ap, ◌∙◌, subst}
use mathlib.Core.Bool.{Bool, true, false}
use mathlib.Core.Logic.{◌⊎◌, inl, inr}
use mathlib.Core.List.{List}
use native.Mathlib.Omega.{arith}
use native.Mathlib.Numerals.{add-one}
use borrow.Author.Tests.{eqb-true, eqb-false}
use lib.Dec.{eqb}
use lib.ListN.{length, get_or, drop, set, replicate, length-replicate, get_or-replicate, drop_of_length-le}
use lib.Seq.{drop-cons, get_or-set_same, get_or-set_other}
use Rattle.node_rows.specs.unfolded.Unfold.{row_count, row_at, row_number, run}
use Rattle.node_rows.specs.unfolded.Chain.{mixed, bucket, bucket_at, NoneBefore, FirstNamed, First, Link, Chains}

-- ---- the bucket

abbrev pub Mixing : List ℕ → ℕ → ℕ → ℕ → Type 0
Mixing name sum sums i = bucket name ≡ mixed sum sums (drop i name)

pub mixing_next : (name : List ℕ) (sum sums i : ℕ) → i < length name → Mixing name sum sums i → Mixing name (sum + get_or name i 0 % 256) (sums + (sum + get_or name i 0 % 256)) (i + 1)
unfolding mixed
mixing_next name sum sums i h q = q ∙ rw (drop-cons name i 0 h, add-one i)

pub mixing_end : (name : List ℕ) (sum sums i : ℕ) → length name ≤ i → Mixing name sum sums i → (31 * sums + sum) % 256 ≡ bucket name
unfolding mixed
mixing_end name sum sums i h q = sym (q ∙ rw (drop_of_length-le name {i = i} h))

-- ---- along a chain

-- from link q on: it leads to first rows of row r's bucket, and any that is the same as row r is still ahead
pub record Search (ws : List ℕ) (r q : ℕ) : Type 0 where
  pub inside : q ≤ r
  pub leads : (k : ℕ) → q ≡ suc k → First ws k × (bucket_at ws k ≡ bucket_at ws r)
  pub ahead : (k : ℕ) → k < r → First ws k → row_at ws k ≡ row_at ws r → k < q

module _ {ws : List ℕ} {r : ℕ} where
  module _ {q : ℕ} (s : Search ws r q) (i : ℕ) (e : q ≡ suc i) where
    pub search_found : row_at ws i ≡ row_at ws r → FirstNamed ws r i
    search_found p = record { earlier = omega (arith, s.inside); same = p; first = λ k h g. (s.leads i e).0.1 k h (g ∙ sym p) }

-- the first of the rows that are the same would be one of the chain's
none_up :
    (ws : List ℕ) (r : ℕ) → row_number (row_at ws r) ≡ 0 → ((k : ℕ) → k < r → First ws k → row_at ws k ≡ row_at ws r → ⊥) → (n : ℕ) → n ≤ r → NoneBefore ws r n
none_up ws r z none zero h k l e = omega arith
none_up ws r z none (suc n) h k l e =
    none k (omega arith) (ap row_number e ∙ z, λ m j g. none_up ws r z none n (omega arith) m (omega arith) (g ∙ e)) e

pub search_end : {ws : List ℕ} {r q : ℕ} → row_number (row_at ws r) ≡ 0 → Search ws r q → q ≡ 0 → FirstNamed ws r r
search_end {ws} {r} z s e =
    record { earlier = omega arith; same = refl; first = none_up ws r z (λ k h f g. let l = s.ahead k h f g in omega arith) r (omega arith) }

-- ---- no rows

pub chains_begin : {ws next : List ℕ} → row_count ws ≤ length next → Chains ws 0 (replicate 256 0) next
chains_begin {ws} h =
    record {
      buckets = length-replicate {A = ℕ} 256 0;
      long = h;
      heads_are = λ b k. rw (get_or-replicate {A = ℕ} 256 b 0 0 k) none;
      nexts_are = λ k h f. absurd (omega arith);
    }
  where
    none : {b : ℕ} → Link ws b 0 0
    none = record { inside = omega arith; leads = λ k e. absurd (omega arith); last = λ k h f e. absurd (omega arith) }

-- ---- the words of nodes

equal : (a b : ℕ) → (a ≡ b) ⊎ (a ≡ b → ⊥)
equal a b = go (eqb a b) refl
  where
    go : (t : Bool) → eqb a b ≡ t → (a ≡ b) ⊎ (a ≡ b → ⊥)
    go true e = inl (eqb-true a b e)
    go false e = inr (eqb-false a b e)

pub count_is : (ws : List ℕ) → row_count ws ≡ length ws / 35
unfolding row_count
count_is ws = refl

pub words_more :
    (ws words : List ℕ) (r w : ℕ) → ((k : ℕ) → k < r → get_or words k 0 ≡ get_or (run ws k) 0 0) → r < length words → w ≡ get_or (run ws r) 0 0
    → (k : ℕ) → k < r + 1 → get_or (set words r w) k 0 ≡ get_or (run ws k) 0 0
words_more ws words r w f h e k l =
    elim (equal k r) [
      | inl z ↦ subst (λ (m : ℕ). get_or (set words r w) m 0 ≡ get_or (run ws m) 0 0) (sym z) (get_or-set_same words r w 0 h ∙ e)
      | inr n ↦ get_or-set_other words r k w 0 n ∙ f k (omega arith)
    ]
