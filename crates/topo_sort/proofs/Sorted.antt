-- What a caller has: where each bit says whether one statement reads a name that another binds, the order is that of `topo_sort_intermediates`. Assumes nothing.
use Prim.Native.Nat.{ℕ, suc, ◌+◌, ◌<◌}
use mathlib.Core.Path.{◌≡◌, refl, sym, ◌∙◌, ap, subst}
use mathlib.Core.Bool.{Bool, true, false}
use mathlib.Core.List.{List, [], ◌∷◌, reverse, reverse_aux}
use native.Mathlib.Omega.{arith}
use borrow.Author.Tests.{eq-eqb, ne_eqb}
use lib.Dec.{T, eqb}
use lib.ListN.{length, get_or}
use Rattle.spec_tree.specs.Outcome.{Outcome, ok, refused, by}
use Rattle.spec_tree.specs.Tree.{Name}
use Rattle.spec_cse.specs.Answer.{Intermediate, names, free}
use Rattle.spec_cse.specs.Order.{meets, needs_from, needs, positions_taken, nothing, at_each, topo_sort_intermediates}
use Rattle.words.specs.bits.Bits.{yes}
use Rattle.topo_sort.specs.Needs.{columns, rows_from, table_of}
use Rattle.topo_sort.specs.Turns.{joined}
use Rattle.topo_sort.proofs.Left.{columns_step}

-- ---- the table

pub needs_step : (i : ℕ) (read : List Name) (s : Intermediate) (l : List Intermediate) → needs_from i read (s ∷ l) ≡ joined (meets (names s) read) i (needs_from (suc i) read l)
unfolding needs_from
needs_step i read s l = go (meets (names s) read)
  where
    go : (b : Bool) → ◌≡◌ {A = List ℕ} (elim b [ true ↦ i ∷ needs_from (suc i) read l | false ↦ needs_from (suc i) read l ]) (joined b i (needs_from (suc i) read l))
    go true = refl
    go false = refl

module _ (bits : List ℕ) where
  row_needs :
      (j i : ℕ) (read : List Name) (l : List Intermediate) → ((k : ℕ) → k < length l → yes bits j (i + k) ≡ meets (names (get_or l k nothing)) read)
      → columns bits j i (length l) ≡ needs_from i read l
  row_needs j i read [] f = unfold columns in unfold needs_from in refl
  row_needs j i read (s ∷ l) f =
      let e : yes bits j i ≡ meets (names s) read = subst (λ (k : ℕ). yes bits j k ≡ meets (names s) read) (let z : i + 0 ≡ i = omega arith in z) (f 0 (omega arith)) in
      let rest = row_needs j (suc i) read l (λ k h. subst (λ (m : ℕ). yes bits j m ≡ meets (names (get_or l k nothing)) read) (let z : i + suc k ≡ suc i + k = omega arith in z) (f (suc k) (omega arith))) in
      columns_step bits j i (length l) ∙ (rw (e, rest) refl ∙ sym (needs_step i read s l))

  rows_need :
      (all : List Intermediate) (j : ℕ) (l : List Intermediate)
      → ((k : ℕ) → k < length l → columns bits (j + k) 0 (length all) ≡ needs_from 0 (free (get_or l k nothing)) all) → rows_from bits (length all) j (length l) ≡ needs all l
  unfolding rows_from needs
  rows_need all j [] f = refl
  rows_need all j (s ∷ l) f =
      let e : columns bits j 0 (length all) ≡ needs_from 0 (free s) all =
      subst (λ (k : ℕ). columns bits k 0 (length all) ≡ needs_from 0 (free s) all) (let z : j + 0 ≡ j = omega arith in z) (f 0 (omega arith))
      in
      let rest = rows_need all (suc j) l (λ k h. subst (λ (m : ℕ). columns bits m 0 (length all) ≡ needs_from 0 (free (get_or l k nothing)) all) (let z : j + suc k ≡ suc j + k = omega arith in z) (f (suc k) (omega arith))) in
      rw (e, rest) refl

  -- each bit says whether a statement reads a name that another binds
  abbrev pub Reads : List Intermediate → Type 0
  Reads l = (j i : ℕ) → j < length l → i < length l → yes bits j i ≡ meets (names (get_or l i nothing)) (free (get_or l j nothing))

  pub table_needs : (l : List Intermediate) → Reads l → table_of bits (length l) ≡ needs l l
  unfolding table_of
  table_needs l f =
      rows_need l 0 l (λ k h. subst (λ (m : ℕ). columns bits m 0 (length l) ≡ needs_from 0 (free (get_or l k nothing)) l) (let z : k ≡ 0 + k = omega arith in z)
      (row_needs k 0 (free (get_or l k nothing)) l (λ i g. subst (λ (m : ℕ). yes bits k m ≡ meets (names (get_or l i nothing)) (free (get_or l k nothing))) (let z : i ≡ 0 + i = omega arith in z) (f k i h g))))

-- ---- the statements in the order of the positions

each_turned : (all : List Intermediate) (a b : List ℕ) → reverse_aux (at_each all a) (at_each all b) ≡ at_each all (reverse_aux a b)
unfolding at_each
each_turned all [] b = refl
each_turned all (i ∷ a) b = each_turned all a (i ∷ b)

pub each_reversed : (all : List Intermediate) (order : List ℕ) → reverse (at_each all order) ≡ at_each all (reverse order)
unfolding at_each
each_reversed all order = each_turned all order []

-- all are taken: the statements at the positions as they stand in `taken`
pub sorted_all :
    (l : List Intermediate) (table : List (List ℕ)) → table ≡ needs l l → length (positions_taken table) ≡ length l
    → topo_sort_intermediates l ≡ ok (at_each l (reverse (positions_taken table)))
unfolding topo_sort_intermediates
sorted_all l table e h = go (eqb (length (positions_taken (needs l l))) (length l)) (eq-eqb (length (positions_taken (needs l l))) (length l) (ap (λ (t : List (List ℕ)). length (positions_taken t)) (sym e) ∙ h))
  where
    go : (b : Bool) → b ≡ true
        → ◌≡◌ {A = Outcome (List Intermediate)} (elim b [ true ↦ ok (reverse (at_each l (positions_taken (needs l l)))) | false ↦ refused (by 11) ]) (ok (at_each l (reverse (positions_taken table))))
    go true q = ap (λ (s : List Intermediate). ok s) (each_reversed l (positions_taken (needs l l)) ∙ ap (λ (t : List (List ℕ)). at_each l (reverse (positions_taken t))) (sym e))
    go false q = absurd (subst T (sym q) tt)

-- some are never taken: refusal 11
pub sorted_ring : (l : List Intermediate) (table : List (List ℕ)) → table ≡ needs l l → (length (positions_taken table) ≡ length l → ⊥) → topo_sort_intermediates l ≡ refused (by 11)
unfolding topo_sort_intermediates
sorted_ring l table e h = go (eqb (length (positions_taken (needs l l))) (length l)) (ne_eqb (length (positions_taken (needs l l))) (length l) (λ q. h (ap (λ (t : List (List ℕ)). length (positions_taken t)) e ∙ q)))
  where
    go : (b : Bool) → b ≡ false → ◌≡◌ {A = Outcome (List Intermediate)} (elim b [ true ↦ ok (reverse (at_each l (positions_taken (needs l l)))) | false ↦ refused (by 11) ]) (refused (by 11))
    go true q = absurd (subst T q tt)
    go false q = refl
