-- The words of all arms of some switches are those of the arms' trees, one after another (01, "Order", "Scoped fusion"). Assumes nothing.
use Prim.Native.Nat.{ℕ, zero, suc, ◌+◌, ◌-◌, ◌≤◌, ◌<◌}
use native.Mathlib.Omega.{arith}
use mathlib.Core.Path.{◌≡◌, refl, sym, ◌∙◌, ap, ap₂, subst}
use mathlib.Core.Bool.{Bool, false, ◌||◌}
use mathlib.Core.Option.{some}
use mathlib.Core.List.{List, [], ◌∷◌, ◌++◌, map}
use lib.ListN.{length, take, drop}
use lib.Seq.{drop-drop, take-add}
use lib.Dec.{T}
use Rattle.spec_tree.specs.Tree.{Name, Tree}
use Rattle.spec_tree.specs.Facts.{size}
use Rattle.spec_tree.specs.Tokens.{word, name_code, all_tokens, trees_in, kind_of}
use Rattle.spec_tree.proofs.TokenLaws.{map_append}
use Rattle.spec_tree.proofs.TokenCode.{coded, all_coded, unnumbered, all_tokens_append}
use Rattle.spec_cse.specs.Answer.{all_symbols}
use Rattle.spec_cse.specs.Scope.{arms_of_members}
use Rattle.laws.specs.positions.Places.{numbered_at, second_at}
use Rattle.laws.proofs.positions.Coded.{is_alone, none_fit, first_fits, append_fits, read_fits}
use Rattle.laws.proofs.positions.Extraction.{Every}
use Rattle.laws.specs.switches.Switches.{arm_count, arm_place, arms_within, arm_places, switch_there}
use Rattle.laws.specs.switches.Columns.{words_at}
use Rattle.laws.proofs.switches.Collected.{Switching}
use Rattle.laws.proofs.switches.Words.{words_read, words_are, arms_end, arm_within, next_arm, first_arm}
use Rattle.laws.proofs.outernames.Arms.{column_symbols}
use Rattle.fusion.specs.place.Reads.{arms_run, all_arms_run}
use Rattle.scope_laws.proofs.needs.Marks.{any, any_append}
use Rattle.scope_laws.proofs.needs.Symbols.{any_name, any_name_append, any_trees}

module _ (ws : List ℕ) (m : ℕ) (complete : trees_in ws ≡ some m) where
  -- the tree at a place fits the code
  pub tree_fits : (r : ℕ) → r < length ws → T (coded is_alone (numbered_at ws r))
  tree_fits r h = first_fits is_alone (numbered_at ws r) [] (subst (λ (l : List Tree). T (all_coded is_alone l)) (words_read ws m complete r h) (read_fits (words_at ws r)))

  module _ (q : ℕ) (s : Switching ws q) where
    later : (n : ℕ) → second_at ws q ≤ arm_place ws q n
    later zero = let e = first_arm ws m complete q s in omega arith
    later (suc n) = let e = next_arm ws m complete q s n in let h = later n in omega arith

    one_more : (n : ℕ) → arms_within ws q (suc n) ≡ arms_within ws q n ++ (arm_place ws q n ∷ [])
    unfolding arms_within
    one_more n = refl

    none_yet : all_tokens unnumbered (map (numbered_at ws) (arms_within ws q 0)) ≡ []
    unfolding arms_within all_tokens
    none_yet = refl

    words_here : (r : ℕ) → take (size (numbered_at ws r)) (drop r ws) ≡ words_at ws r
    unfolding words_at
    words_here r = refl

    -- the words of the first n arms
    arms_written : (n : ℕ) → n ≤ arm_count ws q → take (arm_place ws q n - second_at ws q) (drop (second_at ws q) ws) ≡ all_tokens unnumbered (map (numbered_at ws) (arms_within ws q n))
    arms_written zero h =
        let e = first_arm ws m complete q s in
        let z : arm_place ws q 0 - second_at ws q ≡ 0 = omega arith in
        ap (λ (k : ℕ). take k (drop (second_at ws q) ws)) z ∙ sym none_yet
    arms_written (suc n) h =
        let a = second_at ws q in
        let r = arm_place ws q n in
        let t = numbered_at ws r in
        let e = next_arm ws m complete q s n in
        let l = later n in
        let z : arm_place ws q (suc n) - a ≡ (r - a) + size t = omega arith in
        let y : a + (r - a) ≡ r = omega arith in
        let here : take (size t) (drop (r - a) (drop a ws)) ≡ all_tokens unnumbered (t ∷ []) =
        ap (take (size t)) (drop-drop (r - a) a ws ∙ ap (λ (k : ℕ). drop k ws) y) ∙ (words_here r ∙ sym (words_are ws m complete r (arm_within ws m complete q s n (omega arith)))) in
        ap (λ (k : ℕ). take k (drop a ws)) z
        ∙ (take-add (r - a) (size t) (drop a ws)
        ∙ (ap₂ ◌++◌ (arms_written n (omega arith)) here
        ∙ (sym (all_tokens_append unnumbered (map (numbered_at ws) (arms_within ws q n)) (t ∷ []))
        ∙ ap (all_tokens unnumbered) (sym (ap (map (numbered_at ws)) (one_more n) ∙ map_append (numbered_at ws) (arms_within ws q n) (r ∷ []))))))

    pub arms_words : arms_run ws q ≡ all_tokens unnumbered (map (numbered_at ws) (arm_places ws q))
    unfolding arms_run arm_places
    arms_words =
        ap (λ (k : ℕ). take (k - second_at ws q) (drop (second_at ws q) ws)) (sym (arms_end ws m complete q s)) ∙ arms_written (arm_count ws q) (omega arith)

    within_fit : (n : ℕ) → n ≤ arm_count ws q → T (all_coded is_alone (map (numbered_at ws) (arms_within ws q n)))
    within_fit zero h = (unfold arms_within in none_fit is_alone)
    within_fit (suc n) h =
        let r = arm_place ws q n in
        subst (λ (l : List Tree). T (all_coded is_alone l)) (sym (ap (map (numbered_at ws)) (one_more n) ∙ map_append (numbered_at ws) (arms_within ws q n) (r ∷ [])))
        (append_fits is_alone (map (numbered_at ws) (arms_within ws q n)) (numbered_at ws r ∷ []) (within_fit n (omega arith))
        (subst (λ (l : List Tree). T (all_coded is_alone l)) (words_read ws m complete r (arm_within ws m complete q s n (omega arith))) (read_fits (words_at ws r))))

    pub arms_fit : T (all_coded is_alone (map (numbered_at ws) (arm_places ws q)))
    unfolding arm_places
    arms_fit = within_fit (arm_count ws q) (omega arith)

  -- ---- a test of symbols on all of them

  module _ (p : ℕ → Bool) (t : Name → Bool) (symbol : (n : Name) → p (word 0 (name_code unnumbered n)) ≡ t n) (other : (w : ℕ) → 0 < kind_of w → p w ≡ false) where
    pub any_arms : (qs : List ℕ) → Every (Switching ws) qs → any p (all_arms_run ws qs) ≡ any_name t (column_symbols (arms_of_members (map (switch_there ws) qs)))
    unfolding all_arms_run arms_of_members column_symbols switch_there any any_name
    any_arms [] h = refl
    any_arms (q ∷ qs) h =
        let arms = map (numbered_at ws) (arm_places ws q) in
        any_append p (arms_run ws q) (all_arms_run ws qs)
        ∙ (ap₂ ◌||◌ (ap (any p) (arms_words q h.0) ∙ any_trees unnumbered is_alone p t symbol other arms (arms_fit q h.0)) (any_arms qs h.1)
        ∙ sym (any_name_append t (all_symbols arms) (column_symbols (arms_of_members (map (switch_there ws) qs)))))
