-- The entries of an answer one after another are its words: lets in the order of the positions, then results. Assumes nothing.
use Prim.Native.Nat.{ℕ, zero, suc, ◌+◌, ◌-◌, ◌*◌, ◌≤◌, ◌<◌}
use native.Mathlib.Omega.{arith}
use mathlib.Core.Path.{◌≡◌, refl, sym, ◌∙◌, ap, ap₂}
use mathlib.Core.Bool.{Bool, cond}
use mathlib.Core.List.{List, [], ◌∷◌, ◌++◌, append_assoc, append-nil}
use borrow.Author.Tests.{lt-ltb, le-ltb}
use lib.ListN.{length, get_or, take}
use Rattle.spec_tree.specs.Tree.{xname, Tree, Op, nil}
use Rattle.spec_tree.specs.Tokens.{word, name_code, tokens}
use Rattle.spec_cse.specs.Answer.{Intermediate, Let, block}
use Rattle.spec_cse.specs.AnswerRows.{let_row, result_row, each_words, intermediate_words, intermediates_words}
use Rattle.spec_cse.specs.Order.{nothing, at_each}
use Rattle.words.specs.words.Words.{number}
use Rattle.reciprocals.specs.final.Final.{final_trees}
use Rattle.reciprocals.specs.final.Entries.{final_run, entry_row, entry_tree, entry, runs, entries}

-- ---- runs

pub runs_same : (f g : ℕ → List ℕ) (n : ℕ) → ((q : ℕ) → q < n → f q ≡ g q) → runs f n ≡ runs g n
unfolding runs
runs_same f g zero h = refl
runs_same f g (suc n) h = ap₂ (λ (a b : List ℕ). a ++ b) (runs_same f g n (λ q i. h q (omega arith))) (h n (omega arith))

pub runs_front : (f : ℕ → List ℕ) (n : ℕ) → runs f (suc n) ≡ f 0 ++ runs (λ q. f (suc q)) n
unfolding runs
runs_front f zero = sym (append-nil (f 0))
runs_front f (suc n) = ap (λ (l : List ℕ). l ++ f (suc n)) (runs_front f n) ∙ append_assoc (f 0) (runs (λ q. f (suc q)) n) (f (suc n))

pub runs_plus : (f : ℕ → List ℕ) (a b : ℕ) → runs f (a + b) ≡ runs f a ++ runs (λ q. f (a + q)) b
unfolding runs
runs_plus f a zero = ap (runs f) (let z : a + 0 ≡ a = omega arith in z) ∙ sym (append-nil (runs f a))
runs_plus f a (suc b) =
    ap (runs f) (let z : a + suc b ≡ suc (a + b) = omega arith in z)
    ∙ (ap (λ (l : List ℕ). l ++ f (a + b)) (runs_plus f a b) ∙ append_assoc (runs f a) (runs (λ q. f (a + q)) b) (f (a + b)))

-- ---- lets and results

module _ (F : List Tree) (k : ℕ) where
  abbrev pub let_run : ℕ → List ℕ
  let_run j = word let_row (1 + 3 * j) ∷ tokens number (get_or F (k + j) (Op 0 nil))

  abbrev pub result_run : ℕ → List ℕ
  result_run r = word result_row 0 ∷ tokens number (get_or F r (Op 0 nil))

  -- the statements are lets by number
  abbrev pub ByNumber : List Intermediate → Type 0
  ByNumber l = (j : ℕ) → j < length l → get_or l j nothing ≡ Let (xname j) (get_or F (k + j) (Op 0 nil))

  pub lets_words :
      (l : List Intermediate) → ByNumber l → (taken : List ℕ) → ((q : ℕ) → q < length taken → get_or taken q 0 < length l)
      → runs (λ q. let_run (get_or taken q 0)) (length taken) ≡ intermediates_words number (block (at_each l taken))
  unfolding runs block at_each intermediates_words intermediate_words name_code
  lets_words l f [] h = refl
  lets_words l f (j ∷ taken) h =
      runs_front (λ q. let_run (get_or (j ∷ taken) q 0)) (length taken)
      ∙ ap₂ (λ (a b : List ℕ). a ++ b) (sym (ap (intermediate_words number) (f j (h 0 (omega arith))))) (lets_words l f taken (λ q i. h (suc q) (omega arith)))

pub results_words : (F : List Tree) (k : ℕ) → k ≤ length F → runs (result_run F 0) k ≡ each_words number result_row (take k F)
unfolding runs each_words
results_words F zero h = refl
results_words [] (suc k) h = absurd (omega arith)
results_words (t ∷ F) (suc k) h =
    runs_front (result_run (t ∷ F) 0) k ∙ ap (λ (l : List ℕ). word result_row 0 ∷ (tokens number t ++ l)) (results_words F k (omega arith))

-- ---- entries

module _ (k : ℕ) (places ws taken : List ℕ) where
  let_entry : (q : ℕ) → q < length taken → entry k places ws taken q ≡ let_run (final_trees k places ws) k (get_or taken q 0)
  unfolding entry entry_row entry_tree final_run
  let_entry q h =
      ap (λ (b : Bool). cond b (word let_row (1 + 3 * get_or taken q 0)) (word result_row 0) ∷ tokens number (get_or (final_trees k places ws) (cond b (k + get_or taken q 0) (q - length taken)) (Op 0 nil)))
      (lt-ltb q (length taken) h)

  result_entry : (r : ℕ) → entry k places ws taken (length taken + r) ≡ result_run (final_trees k places ws) 0 r
  unfolding entry entry_row entry_tree final_run
  result_entry r =
      let q = length taken + r in
      let z : q - length taken ≡ r = omega arith in
      ap (λ (b : Bool). cond b (word let_row (1 + 3 * get_or taken q 0)) (word result_row 0) ∷ tokens number (get_or (final_trees k places ws) (cond b (k + get_or taken q 0) (q - length taken)) (Op 0 nil)))
      (le-ltb q (length taken) (omega arith))
      ∙ ap (λ (i : ℕ). word result_row 0 ∷ tokens number (get_or (final_trees k places ws) i (Op 0 nil))) z

  pub entries_are :
      (l : List Intermediate) → ByNumber (final_trees k places ws) k l → ((q : ℕ) → q < length taken → get_or taken q 0 < length l) → k ≤ length (final_trees k places ws)
      → entries k places ws taken (length taken + k) ≡ intermediates_words number (block (at_each l taken)) ++ each_words number result_row (take k (final_trees k places ws))
  unfolding entries
  entries_are l f h g =
      let F = final_trees k places ws in
      let e : ℕ → List ℕ = entry k places ws taken in
      runs_plus e (length taken) k
      ∙ ap₂ (λ (a b : List ℕ). a ++ b)
      (runs_same e (λ q. let_run F k (get_or taken q 0)) (length taken) let_entry ∙ lets_words F k l f taken h)
      (runs_same (λ r. e (length taken + r)) (result_run F 0) k (λ r i. result_entry r) ∙ results_words F k g)
