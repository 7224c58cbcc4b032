-- The row that an entry begins with and the number of its tree, by whether it is a let's or a result's; and how many entries there are. Assumes nothing.
use Prim.Native.Nat.{ℕ, zero, suc, ◌+◌, ◌-◌, ◌*◌, ◌≤◌, ◌<◌}
use native.Mathlib.Omega.{arith}
use mathlib.Core.Path.{◌≡◌, refl, sym, ◌∙◌, ap, subst}
use mathlib.Core.Bool.{Bool, true, false, cond}
use mathlib.Core.List.{List, [], ◌∷◌, ◌++◌}
use borrow.Author.Tests.{lt-ltb, le-ltb, ltb-true, ltb-false}
use lib.Dec.{ltb}
use lib.ListN.{length, get_or, length-append}
use Rattle.spec_tree.specs.Tokens.{word}
use Rattle.spec_cse.specs.AnswerRows.{let_row, result_row}
use Rattle.reciprocals.specs.final.Entries.{final_run, entry_row, entry_tree, entry, runs, entries}

module _ (taken : List ℕ) (k q : ℕ) where
  pub row_let : q < length taken → 93 + 192 * get_or taken q 0 ≡ entry_row taken q
  unfolding entry_row
  row_let h =
      let z : 93 + 192 * get_or taken q 0 ≡ 29 + 64 * (1 + 3 * get_or taken q 0) = omega arith in
      z ∙ sym (ap (λ (b : Bool). cond b (word let_row (1 + 3 * get_or taken q 0)) (word result_row 0)) (lt-ltb q (length taken) h))

  pub row_result : length taken ≤ q → 36 ≡ entry_row taken q
  unfolding entry_row
  row_result h = sym (ap (λ (b : Bool). cond b (word let_row (1 + 3 * get_or taken q 0)) (word result_row 0)) (le-ltb q (length taken) h))

  pub tree_let : q < length taken → k + get_or taken q 0 ≡ entry_tree taken k q
  unfolding entry_tree
  tree_let h = sym (ap (λ (b : Bool). cond b (k + get_or taken q 0) (q - length taken)) (lt-ltb q (length taken) h))

  pub tree_result : length taken ≤ q → q - length taken ≡ entry_tree taken k q
  unfolding entry_tree
  tree_result h = sym (ap (λ (b : Bool). cond b (k + get_or taken q 0) (q - length taken)) (le-ltb q (length taken) h))

-- ---- the number of an entry's tree is that of a tree

pub tree_below :
    (taken : List ℕ) (k q count : ℕ) → ((p : ℕ) → p < length taken → get_or taken p 0 < count) → q < length taken + k → entry_tree taken k q < k + count
unfolding entry_tree
tree_below taken k q count f h = go (ltb q (length taken)) refl
  where
    go : (b : Bool) → ltb q (length taken) ≡ b → cond b (k + get_or taken q 0) (q - length taken) < k + count
    go true e = omega (arith, f q (ltb-true q (length taken) e))
    go false e = omega (arith, ltb-false q (length taken) e)

-- ---- one entry more

module _ (k : ℕ) (places ws taken : List ℕ) where
  pub entry_long : (q : ℕ) → length (entry k places ws taken q) ≡ 1 + length (final_run k places ws (entry_tree taken k q))
  unfolding entry
  entry_long q = omega arith

  pub entry_is : (q : ℕ) → entry k places ws taken q ≡ entry_row taken q ∷ final_run k places ws (entry_tree taken k q)
  unfolding entry
  entry_is q = refl

  pub no_entries : entries k places ws taken 0 ≡ []
  unfolding entries runs
  no_entries = refl

  pub one_more : (q : ℕ) → entries k places ws taken (q + 1) ≡ entries k places ws taken q ++ entry k places ws taken q
  unfolding entries runs
  one_more q = ap (runs (entry k places ws taken)) (let z : q + 1 ≡ suc q = omega arith in z)

  pub more_long : (q : ℕ) → length (entries k places ws taken (q + 1)) ≡ length (entries k places ws taken q) + length (entry k places ws taken q)
  more_long q = ap length (one_more q) ∙ length-append (entries k places ws taken q) (entry k places ws taken q)

  -- all are as long as some at least
  pub entries_within : (q n : ℕ) → q ≤ n → length (entries k places ws taken q) ≤ length (entries k places ws taken n)
  entries_within q n h = let z : q + (n - q) ≡ n = omega arith in subst (λ (x : ℕ). length (entries k places ws taken q) ≤ length (entries k places ws taken x)) z (go (n - q))
    where
      go : (r : ℕ) → length (entries k places ws taken q) ≤ length (entries k places ws taken (q + r))
      go zero = let z : q ≡ q + 0 = omega arith in omega (arith, ap (λ (x : ℕ). length (entries k places ws taken x)) z)
      go (suc r) =
          let z : (q + r) + 1 ≡ q + suc r = omega arith in
          omega (arith, go r, more_long (q + r), ap (λ (x : ℕ). length (entries k places ws taken x)) z)
