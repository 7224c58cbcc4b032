-- That the end of the flat form finds its trees and has room for them, what it comes to, and the work area's two lengths (01, "Turned down": Extract). Assumes
-- nothing.
use Prim.Native.Nat.{ℕ, ◌+◌, ◌≤◌}
use native.Mathlib.Omega.{arith}
use mathlib.Core.Path.{◌≡◌, sym, ◌∙◌, ap, ap₂, subst}
use mathlib.Core.Bool.{Bool, false, ◌||◌}
use mathlib.Core.Option.{Option}
use mathlib.Core.List.{List}
use lib.ListN.{length, take, drop}
use lib.Seq.{length-take-le}
use lib.Dec.{T, leb, ltb, le→leb}
use Rattle.spec_tree.specs.Layout.{table_of, laid_out}
use Rattle.spec_tree.specs.Tokens.{read, numbered, trees_in}
use Rattle.spec_tree.proofs.Logic.{and_both, or_left_false, or_right_false}
use Rattle.spec_tree.proofs.Tests.{is_true}
use Rattle.spec_cse.specs.Call.{work_words, work_bytes}
use Rattle.fmt.specs.checked.Check.{rows_in}
use Rattle.laws.proofs.positions.RowNames.{tree_words}
use Rattle.reciprocals.specs.reciprocal.Bindings.{all_there}
use Rattle.reciprocals.specs.final.Final.{final_rows}
use Rattle.cse_flat.specs.ending.Answers.{Ended, TestedFinishing, finish_outcome, finish_by, finishing, at_least, trees_there, room_for}
use Rattle.cse_flat.specs.refined.Parts.{extract_from, RoundsListed}
use Rattle.cse_flat.proofs.refined.Starting.{start_short}
use Rattle.cse_flat.proofs.refined.Flat.{to_bind, flat_rest, flat_complete, flat_results, flat_shorter, flat_short, flat_room, flat_there, flat_made}
use borrow.Author.Tests.{ltb-false}
use Rattle.reciprocals.proofs.reciprocal.There.{there_tested}

module _ (rows roots : List ℕ) (lent : ℕ) (h : T (laid_out rows roots)) (ws : List ℕ) (same : ws ≡ tree_words (table_of rows roots)) where
  module _ (n m d : ℕ) (tokens places : List ℕ) (l : RoundsListed (rows_in rows) false 0 ws n m d tokens places) where
    abbrev vs : List ℕ
    vs = take n tokens

    abbrev ds : List ℕ
    ds = take d places

    ds_are : ds ≡ to_bind rows roots lent h ws same vs l.0
    ds_are = l.2

    -- no word lacks an operand, the results are there, and a tree stands at each place
    pub flat_trees_there : T (trees_there vs (length roots) ds)
    unfolding trees_there at_least
    flat_trees_there =
        and_both (at_least (length roots) (trees_in vs)) (all_there vs ds)
        (subst (λ (o : Option ℕ). T (at_least (length roots) o)) (sym (flat_complete rows roots lent h ws same vs l.0)) (le→leb (length roots) _ (flat_results rows roots lent h ws same vs l.0)))
        (subst (λ (ps : List ℕ). T (all_there vs ps)) (sym ds_are) (there_tested vs (to_bind rows roots lent h ws same vs l.0) (flat_there rows roots lent h ws same vs l.0)))

    pub flat_room_for : T (room_for vs (length roots) ds)
    unfolding room_for
    flat_room_for =
        let e = ap length ds_are in
        and_both (leb (length vs) 1024) (leb (length (drop (length roots) (read numbered vs)) + length ds) 1024) (le→leb (length vs) 1024 (flat_short rows roots lent h ws same vs l.0))
        (le→leb (length (drop (length roots) (read numbered vs)) + length ds) 1024 (omega (arith, e, flat_room rows roots lent h ws same vs l.0, start_short rows roots h)))

    -- nor is more needed than the list has words
    pub flat_fits : (length vs ≤ length ws) × (length (drop (length roots) (read numbered vs)) + length ds ≤ length ws)
    flat_fits =
        let e = ap length ds_are in
        let w = ap length same in
        (omega (arith, w, flat_shorter rows roots lent h ws same vs l.0), omega (arith, e, w, flat_room rows roots lent h ws same vs l.0))

    pub flat_bindings : m ≡ length (drop (length roots) (read numbered vs))
    flat_bindings = l.1 ∙ flat_made rows roots lent h ws same vs l.0

    pub flat_outcome : extract_from false rows roots lent ≡ final_rows lent (length roots) ds vs
    flat_outcome = flat_rest rows roots lent h ws same vs l.0 ∙ ap (λ (ps : List ℕ). final_rows lent (length roots) ps vs) (sym ds_are)

-- where the trees are there and have room, the end is that of the definition
pub finishes :
    (ws : List ℕ) (k : ℕ) (places table : List ℕ) → T (trees_there ws k places) → T (room_for ws k places)
    → ((finishing ws k places table).answer ≡ Ended (finish_outcome (final_rows (length table) k places ws) table).answer)
    × ((finishing ws k places table).table ≡ (finish_outcome (final_rows (length table) k places ws) table).table)
unfolding finishing finish_by
finishes ws k places table g h =
    let e = ap₂ (λ (a b : Bool). finish_by a b (final_rows (length table) k places ws) table) (is_true (trees_there ws k places) g) (is_true (room_for ws k places) h) in
    (ap (λ (f : TestedFinishing). f.answer) e, ap (λ (f : TestedFinishing). f.table) e)

-- ---- the work area

module _ (words bytes : ℕ) (e : (ltb words work_words || ltb bytes work_bytes) ≡ false) where
  pub enough_words : 65536 ≤ words
  enough_words = ltb-false words 65536 (or_left_false (ltb words 65536) (ltb bytes 131072) e)

  pub enough_bytes : 131072 ≤ bytes
  enough_bytes = ltb-false bytes 131072 (or_right_false (ltb words 65536) (ltb bytes 131072) e)

-- the front of the work area
pub front_long : (work : List ℕ) → 65536 ≤ length work → 65536 ≡ length (take 65536 work)
front_long work h = sym (length-take-le 65536 work h)
