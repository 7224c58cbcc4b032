-- The final trees: those of the final words, the settled trees from before and then the reciprocals; and their bindings as statements. Assumes nothing.
use Prim.Native.Nat.{ℕ, zero, suc, ◌+◌, ◌-◌, ◌<◌}
use native.Mathlib.Omega.{arith}
use mathlib.Core.Path.{◌≡◌, refl, sym, ◌∙◌, ap, subst}
use mathlib.Core.Option.{some}
use mathlib.Core.List.{List, [], ◌∷◌, ◌++◌, map}
use lib.Dec.{T}
use lib.ListN.{length, get_or, drop, length-append, length-drop, length-map, get_or-append}
use lib.Seq.{get_or-append-add, get_or-drop}
use Rattle.spec_tree.specs.Tree.{xname, Tree, Op, nil}
use Rattle.spec_tree.specs.Tokens.{read, numbered, words_of, run_at, trees_in}
use Rattle.spec_tree.proofs.TokenLaws.{complete_length}
use Rattle.spec_tree.proofs.TokenCode.{coded, all_coded, writes_back}
use Rattle.spec_cse.specs.Answer.{Let}
use Rattle.spec_cse.specs.Order.{nothing}
use Rattle.spec_cse.specs.Scope.{binds}
use Rattle.words.specs.words.Words.{tree_of}
use Rattle.laws.specs.positions.Places.{numbered_at}
use Rattle.laws.specs.positions.Rounds.{by_number, next_number, bind_each_on, bind_each_words}
use Rattle.laws.proofs.positions.Coded.{is_alone, none_fit, one_fits, first_fits, read_fits, read_again}
use Rattle.laws.proofs.positions.WordReciprocals.{bind_each_are, bind_each_fits}
use Rattle.reciprocals.proofs.bindings.Parts.{settle_tree, settled_reciprocals, bound_are_settled, tree_there, AllThere}
use Rattle.reciprocals.proofs.reciprocal.Made.{settled_long}
use Rattle.reciprocals.specs.final.Final.{divisors_at, final_trees, final_words}
use Rattle.reciprocals.proofs.final.Entering.{ByNumber}

-- ---- within the code

first_fits_word : (l : List ℕ) (n : ℕ) → words_of l 1 ≡ some n → T (coded is_alone (tree_of l))
unfolding words_of tree_of read
first_fits_word [] n e = let z : ◌≡◌ {A = ℕ} 0 1 = cc in absurd (omega arith)
first_fits_word (w ∷ l) n e = first_fits is_alone (tree_of (w ∷ l)) (drop 1 (read numbered (w ∷ l))) (read_fits (w ∷ l))

pub divisors_fit : (ws l : List ℕ) → AllThere ws l → T (all_coded is_alone (divisors_at ws l))
unfolding run_at
divisors_fit ws [] h = none_fit is_alone
divisors_fit ws (p ∷ l) h =
    one_fits is_alone (numbered_at ws p) (divisors_at ws l) (subst (λ (t : Tree). T (coded is_alone t)) (tree_there ws p) (first_fits_word (drop p ws) h.0.0 h.0.1))
    (divisors_fit ws l h.1)

-- ---- the final trees

module _ (k m : ℕ) (places ws : List ℕ) (complete : trees_in ws ≡ some m) (there : AllThere ws places) where
  pub final_fit : T (all_coded is_alone (final_trees k places ws))
  unfolding final_trees
  final_fit = bind_each_fits (divisors_at ws places) (next_number k 0 (read numbered ws)) (read numbered ws) (divisors_fit ws places there) (read_fits ws)

  pub final_read : read numbered (final_words k places ws) ≡ final_trees k places ws
  unfolding final_words final_trees
  final_read =
      let ds = divisors_at ws places in
      let n = next_number k 0 (read numbered ws) in
      let ts = read numbered ws in
      ap (λ (us : List ℕ). read numbered (bind_each_words ds n us)) (sym (writes_back ws m complete))
      ∙ (ap (read numbered) (bind_each_are ds n ts (divisors_fit ws places there) (read_fits ws)) ∙ read_again (bind_each_on ds n ts) final_fit)

  pub first_number : next_number k 0 (read numbered ws) ≡ m - k
  unfolding next_number
  first_number = omega (arith, length-drop k (read numbered ws), complete_length numbered ws m complete)

  -- the trees from before, settled
  abbrev pub settled_trees : List Tree
  settled_trees = map (settle_tree (divisors_at ws places) (m - k)) (read numbered ws)

  abbrev pub last_trees : List Tree
  last_trees = settled_reciprocals (divisors_at ws places) (m - k)

  pub final_parts : final_trees k places ws ≡ settled_trees ++ last_trees
  unfolding final_trees
  final_parts =
      ap (λ (n : ℕ). bind_each_on (divisors_at ws places) n (read numbered ws)) first_number ∙ bound_are_settled (divisors_at ws places) (m - k) (read numbered ws)

  pub settled_count : length settled_trees ≡ m
  settled_count = length-map (read numbered ws) (settle_tree (divisors_at ws places) (m - k)) ∙ complete_length numbered ws m complete

  pub last_count : length last_trees ≡ length places
  last_count = settled_long (divisors_at ws places) (m - k) ∙ length-map places (numbered_at ws)

  pub final_count : length (final_trees k places ws) ≡ m + length places
  final_count = ap length final_parts ∙ omega (arith, length-append settled_trees last_trees, settled_count, last_count)

  pub final_before : (i : ℕ) → i < m → get_or (final_trees k places ws) i (Op 0 nil) ≡ get_or settled_trees i (Op 0 nil)
  final_before i h =
      ap (λ (l : List Tree). get_or l i (Op 0 nil)) final_parts ∙ get_or-append settled_trees last_trees (Op 0 nil) i (omega (arith, settled_count))

  pub final_after : (j : ℕ) → get_or (final_trees k places ws) (m + j) (Op 0 nil) ≡ get_or last_trees j (Op 0 nil)
  final_after j =
      ap (λ (l : List Tree). get_or l (m + j) (Op 0 nil)) final_parts
      ∙ (ap (λ (i : ℕ). get_or (settled_trees ++ last_trees) (i + j) (Op 0 nil)) (sym settled_count) ∙ get_or-append-add settled_trees last_trees j (Op 0 nil))

-- ---- their bindings as statements

pub binds_count : (i : ℕ) (l : List Tree) → length (binds (by_number i l)) ≡ length l
unfolding binds by_number
binds_count i [] = refl
binds_count i (t ∷ l) = ap suc (binds_count (suc i) l)

binds_at : (i : ℕ) (l : List Tree) (j : ℕ) → j < length l → get_or (binds (by_number i l)) j nothing ≡ Let (xname (i + j)) (get_or l j (Op 0 nil))
unfolding binds by_number
binds_at i [] j h = absurd (omega arith)
binds_at i (t ∷ l) zero h = ap (λ (n : ℕ). Let (xname n) t) (let z : i ≡ i + 0 = omega arith in z)
binds_at i (t ∷ l) (suc j) h = binds_at (suc i) l j (omega arith) ∙ ap (λ (n : ℕ). Let (xname n) (get_or l j (Op 0 nil))) (let z : suc i + j ≡ i + suc j = omega arith in z)

pub lets_by_number : (F : List Tree) (k : ℕ) → ByNumber F k (binds (by_number 0 (drop k F)))
lets_by_number F k j h =
    binds_at 0 (drop k F) j (omega (arith, binds_count 0 (drop k F)))
    ∙ (ap (λ (n : ℕ). Let (xname n) (get_or (drop k F) j (Op 0 nil))) (let z : 0 + j ≡ j = omega arith in z) ∙ ap (λ (t : Tree). Let (xname j) t) (get_or-drop k F j (Op 0 nil)))
