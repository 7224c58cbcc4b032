-- The order of the bindings by the marked needs is that of `topo_sort_intermediates` (01, "Order"). Assumes nothing.
use Prim.Native.Nat.{ℕ, zero, suc, ◌+◌, ◌-◌, ◌*◌, ◌≤◌, ◌<◌}
use native.Mathlib.Omega.{arith}
use mathlib.Core.Path.{◌≡◌, sym, ◌∙◌, ap, ap₂}
use mathlib.Core.Option.{some}
use mathlib.Core.List.{List, [], ◌∷◌, reverse}
use lib.Dec.{T}
use lib.ListN.{length, get_or, drop, replicate, length-drop}
use Rattle.spec_tree.specs.Outcome.{ok, refused, by}
use Rattle.spec_tree.specs.Tree.{xname, Tree, Op, nil}
use Rattle.spec_tree.specs.Tokens.{trees_in}
use Rattle.spec_tree.proofs.TokenCode.{coded, all_coded}
use Rattle.spec_cse.specs.Answer.{Intermediate, names, free}
use Rattle.spec_cse.specs.Order.{meets, needs, nothing, at_each, positions_taken, topo_sort_intermediates}
use Rattle.laws.proofs.cse.OrderLaws.{taken_ok, all_get_d, all_turned}
use Rattle.words.specs.bits.Bits.{yes}
use Rattle.topo_sort.specs.Needs.{table_of}
use Rattle.topo_sort.proofs.Sorted.{table_needs, sorted_all, sorted_ring}
use Rattle.words.specs.words.Words.{number}
use Rattle.laws.proofs.positions.Coded.{is_alone, first_fits, rest_fits}
use Rattle.reciprocals.proofs.bindings.Parts.{AllThere}
use Rattle.topo_sort.proofs.reads.NameLaws.{reads_name}
use Rattle.reciprocals.specs.final.Final.{final_trees}
use Rattle.reciprocals.specs.final.Entries.{final_run}
use Rattle.reciprocals.specs.final.Ready.{marks, binding_run}
use Rattle.reciprocals.proofs.final.Trees.{final_fit, final_count, binds_count, lets_by_number}
use Rattle.reciprocals.proofs.final.Ending.{lets}
use Rattle.reciprocals.proofs.final.Marking.{marked_yes}
use Rattle.topo_sort.proofs.Left.{table_length}

-- ---- positions

fits_at : (l : List Tree) → T (all_coded is_alone l) → (i : ℕ) → i < length l → T (coded is_alone (get_or l i (Op 0 nil)))
fits_at [] h i g = absurd (omega arith)
fits_at (t ∷ l) h zero g = first_fits is_alone t l h
fits_at (t ∷ l) h (suc i) g = fits_at l (rest_fits is_alone t l h) i (omega arith)

module _ (k m : ℕ) (places ws : List ℕ) (complete : trees_in ws ≡ some m) (there : AllThere ws places) (enough : k ≤ m) (count : ℕ) (many : count ≡ (m - k) + length places)
    (few : count ≤ 1024) where
  abbrev F : List Tree
  F = final_trees k places ws

  abbrev pub bindings : List Intermediate
  bindings = lets k F

  pub bindings_count : length bindings ≡ count
  bindings_count = omega (arith, binds_count 0 (drop k F), length-drop k F, final_count k m places ws complete there)

  module _ (words : ℕ) (wide : words ≡ 32 * count) where
    abbrev bits : List ℕ
    bits = marks (binding_run k places ws) count (replicate words 0)

    marked_reads : (j i : ℕ) → j < length bindings → i < length bindings → yes bits j i ≡ meets (names (get_or bindings i nothing)) (free (get_or bindings j nothing))
    unfolding binding_run final_run
    marked_reads j i h g =
        let tree : ℕ → Tree = λ n. get_or F (k + n) (Op 0 nil) in
        let fit = fits_at F (final_fit k m places ws complete there) (k + j) (omega (arith, bindings_count, final_count k m places ws complete there)) in
        marked_yes (binding_run k places ws) words count wide j i (omega (arith, bindings_count)) (omega (arith, bindings_count, few))
        ∙ (sym (reads_name number is_alone i (xname j) (tree j) (tree i) fit)
        ∙ sym (ap₂ (λ (a b : Intermediate). meets (names a) (free b)) (lets_by_number F k i g) (lets_by_number F k j h)))

    marked_table : table_of bits count ≡ needs bindings bindings
    marked_table = ap (table_of bits) (sym bindings_count) ∙ table_needs bits bindings marked_reads

    pub marked_ring : (length (positions_taken (table_of bits count)) ≡ count → ⊥) → topo_sort_intermediates bindings ≡ refused (by 11)
    marked_ring h = sorted_ring bindings (table_of bits count) marked_table (λ e. h (e ∙ bindings_count))

    pub marked_all :
        length (positions_taken (table_of bits count)) ≡ count → topo_sort_intermediates bindings ≡ ok (at_each bindings (reverse (positions_taken (table_of bits count))))
    marked_all h = sorted_all bindings (table_of bits count) marked_table (h ∙ sym bindings_count)

    pub marked_positions : (q : ℕ) → q < length (reverse (positions_taken (table_of bits count))) → get_or (reverse (positions_taken (table_of bits count))) q 0 < count
    marked_positions q h =
        let table = table_of bits count in
        omega (arith, table_length bits count, all_get_d (λ j. j < length table) (reverse (positions_taken table)) (all_turned (λ j. j < length table) (positions_taken table) [] (taken_ok table).inside tt) q h)
