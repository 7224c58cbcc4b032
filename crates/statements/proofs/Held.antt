-- What a scope holds, read back: results and lets are its first trees, each of them and each reciprocal is the settled tree of its number, and with the members replaced
-- it is the final one (01, "Reciprocals", "Scoped fusion"). Assumes nothing.
use Prim.Native.Nat.{ℕ, zero, suc, ◌+◌, ◌-◌, ◌≤◌, ◌<◌}
use native.Mathlib.Omega.{arith}
use mathlib.Core.Path.{◌≡◌, refl, sym, ◌∙◌, ap, subst}
use mathlib.Core.Bool.{Bool, true, false}
use mathlib.Core.Option.{some}
use mathlib.Core.List.{List, [], ◌∷◌, ◌++◌, append-nil, map}
use lib.Dec.{T}
use lib.ListN.{length, get_or, length-append, length-drop, length-map, get_or-append}
use lib.Seq.{get_or-append-add}
use Rattle.spec_tree.specs.Tree.{Tree, Op, nil}
use Rattle.spec_tree.specs.Facts.{size}
use Rattle.spec_tree.specs.Tokens.{tokens, all_tokens, read, numbered, trees_in}
use Rattle.spec_tree.proofs.TokenLaws.{complete_length, complete_within}
use Rattle.spec_tree.proofs.TokenCode.{coded, all_coded, unnumbered, tokens_complete, tokens_length}
use Rattle.words.specs.words.Words.{number, rewritten_words, Complete}
use Rattle.laws.specs.positions.Places.{numbered_at}
use Rattle.laws.specs.positions.Rounds.{next_number, bind_each_on}
use Rattle.laws.proofs.positions.Coded.{is_alone, none_fit, one_fits, first_fits, rest_fits, read_fits, read_again, bind_on_fits}
use Rattle.laws.proofs.positions.Extraction.{Every}
use Rattle.laws.proofs.switches.Words.{ends_within}
use Rattle.laws.proofs.answer.CodeLaws.{run_starts}
use Rattle.reciprocals.proofs.bindings.Parts.{settle_tree, settled_reciprocals, bound_are_settled, AllThere}
use Rattle.reciprocals.specs.reciprocal.Bindings.{all_there}
use Rattle.reciprocals.proofs.reciprocal.There.{tested_there}
use Rattle.reciprocals.proofs.reciprocal.Made.{settled_long}
use Rattle.reciprocals.proofs.final.Trees.{divisors_fit}
use Rattle.fusion.specs.Settled.{fused_tree}
use Rattle.fusion.specs.Whole.{settled_roots}
use Rattle.fusion.specs.Switchless.{switchless, with_switches}
use Rattle.fusion.specs.Words.{steps_at}
use Rattle.fusion.specs.place.Parts.{place_groups, joined_groups, trees_held, words_held, reciprocals_first, lets_count, held_words, settled_trees, steps_from, fused_run}
use Rattle.fusion.specs.place.Whole.{stmts_count, tree_run}
use Rattle.fusion.proofs.place.Small.{Small, small_at, place_small, divisors_small, settled_small, held_small}
use Rattle.statements.specs.Prepared.{Prepared, Roomy, run_number, reciprocal_run, settled_run, fused_by}

-- ---- within the code

abbrev Fits : List Tree → Type 0
Fits l = T (all_coded is_alone l)

bind_each_fits : (l : List Tree) (n : ℕ) (ts : List Tree) → Fits l → Fits ts → Fits (bind_each_on l n ts)
unfolding bind_each_on
bind_each_fits [] n ts g h = h
bind_each_fits (d ∷ l) n ts g h = bind_each_fits l (suc n) _ (rest_fits is_alone d l g) (bind_on_fits is_alone d n ts (first_fits is_alone d l g) h)

with_fits : (a l : List Tree) → Fits (a ++ l) → Fits (a ++ with_switches l)
unfolding with_switches
with_fits (t ∷ a) l h = one_fits is_alone t (a ++ with_switches l) (first_fits is_alone t (a ++ l) h) (with_fits a l (rest_fits is_alone t (a ++ l) h))
with_fits [] [] h = h
with_fits [] (t ∷ l) h = go (switchless t) (with_fits [] l (rest_fits is_alone t l h))
  where
    go : (b : Bool) → Fits (with_switches l) → Fits (elim b as (λ _. List Tree) [ true ↦ with_switches l | false ↦ t ∷ with_switches l ])
    go true f = f
    go false f = one_fits is_alone t (with_switches l) (first_fits is_alone t l h) f

fits_at : (l : List Tree) → Fits l → (i : ℕ) → i < length l → T (coded is_alone (get_or l i (Op 0 nil)))
fits_at [] h i g = absurd (omega arith)
fits_at (t ∷ l) h zero g = first_fits is_alone t l h
fits_at (t ∷ l) h (suc i) g = fits_at l (rest_fits is_alone t l h) i (omega arith)

-- ---- one tree's words

one_run : (t : Tree) → all_tokens number (t ∷ []) ≡ tokens number t
unfolding all_tokens
one_run t = append-nil (tokens number t)

-- words that are one tree, each rewritten
pub rewritten_one : (f : Tree → Tree) (t : Tree) (ws : List ℕ) → read numbered ws ≡ t ∷ [] → rewritten_words f ws ≡ tokens number (f t)
unfolding rewritten_words
rewritten_one f t ws e = ap (λ (l : List Tree). all_tokens number (map f l)) e ∙ one_run (f t)

module _ (t : Tree) (h : T (coded is_alone t)) where
  alone : Fits (t ∷ [])
  alone = one_fits is_alone t [] h (none_fit is_alone)

  run_whole : trees_in (tokens number t) ≡ some 1
  run_whole = sym (ap trees_in (one_run t)) ∙ tokens_complete unnumbered is_alone (t ∷ []) alone

  run_read : read numbered (tokens number t) ≡ t ∷ []
  run_read = sym (ap (read numbered) (one_run t)) ∙ read_again (t ∷ []) alone

-- ---- what is held, read back

module _ (ws : List ℕ) (k first : ℕ) (places : List ℕ) (there : AllThere ws places) where
  abbrev from : ℕ
  from = reciprocals_first ws k first places

  abbrev divisors : List Tree
  divisors = map (numbered_at ws) places

  settled_fit : Fits (map (settle_tree divisors from) (read numbered ws) ++ settled_reciprocals divisors from)
  settled_fit = subst Fits (bound_are_settled divisors from (read numbered ws)) (bind_each_fits divisors from (read numbered ws) (divisors_fit ws places there) (read_fits ws))

  held_fit : Fits (trees_held ws from places)
  unfolding trees_held
  held_fit = with_fits (map (settle_tree divisors from) (read numbered ws)) (settled_reciprocals divisors from) settled_fit

  held_written : held_words ws k first places ≡ all_tokens unnumbered (trees_held ws from places)
  unfolding held_words words_held
  held_written = refl

  held_whole : Complete (held_words ws k first places)
  held_whole = (length (trees_held ws from places), ap trees_in held_written ∙ tokens_complete unnumbered is_alone (trees_held ws from places) held_fit)

  held_again : read numbered (held_words ws k first places) ≡ trees_held ws from places
  held_again = ap (read numbered) held_written ∙ read_again (trees_held ws from places) held_fit

  -- a reciprocal has two nodes besides its divisor's
  each_small : length ws ≤ 1927 → Every (Small 1929) (read numbered (held_words ws k first places))
  each_small few =
      subst (λ (l : List Tree). Every (Small 1929) l) (sym held_again) (held_small 1927 ws few places (divisors_small 1927 ws (omega arith) few places) from)

-- so that none is larger at any place
pub held_places_small :
    (ws : List ℕ) (k first : ℕ) (places held : List ℕ) → T (all_there ws places) → length ws ≤ 1927 → held ≡ held_words ws k first places → (p : ℕ) → size (numbered_at held p) ≤ 1929
held_places_small ws k first places held there few e p =
    subst (λ (hs : List ℕ). size (numbered_at hs p) ≤ 1929) (sym e)
    (place_small 1929 (held_words ws k first places) (omega arith) (each_small ws k first places (tested_there ws places there) few) p)

-- ---- of a scope

module _ {ws : List ℕ} {k first : ℕ} {places held starts members ends numbers : List ℕ} (p : Prepared ws k first places held starts members ends numbers) where
  pub places_there : AllThere ws places
  places_there = tested_there ws places p.there

  abbrev m : ℕ
  m = length starts

  abbrev n : ℕ
  n = reciprocals_first ws k first places

  abbrev ds : List Tree
  ds = map (numbered_at ws) places

  abbrev S : List Tree
  S = map (settle_tree ds n) (read numbered ws)

  abbrev R : List Tree
  R = settled_reciprocals ds n

  read_count : length (read numbered ws) ≡ m
  read_count = complete_length numbered ws m p.complete

  pub first_number : reciprocals_first ws k first places ≡ first + (length starts - k)
  unfolding reciprocals_first next_number
  first_number = omega (arith, length-drop k (read numbered ws), read_count)

  pub lets_are : lets_count ws k first places ≡ (length starts - k) + length places
  unfolding lets_count
  lets_are = omega (arith, length-drop k (read numbered ws), read_count)

  held_read : read numbered held ≡ S ++ with_switches R
  unfolding trees_held
  held_read = ap (read numbered) p.held_is ∙ held_again ws k first places places_there

  pub held_complete : Complete held
  held_complete = subst Complete (sym p.held_is) (held_whole ws k first places places_there)

  settled_count : length S ≡ m
  settled_count = length-map (read numbered ws) (settle_tree ds n) ∙ read_count

  last_count : length R ≡ length places
  last_count = settled_long ds n ∙ length-map places (numbered_at ws)

  settled_are : settled_trees ws k first places ≡ S ++ R
  unfolding settled_trees settled_roots
  settled_are = refl

  -- ---- a tree from before

  pub trees_few : length starts ≤ 1927
  trees_few = omega (arith, complete_within ws m p.complete, p.few)

  pub count_is : stmts_count ws k first places numbers ≡ ((length starts - k) + length places) + length (place_groups held)
  unfolding stmts_count
  count_is = omega (arith, lets_are, ap (λ (hs : List ℕ). length (place_groups hs)) p.held_is)

  pub places_few : length places ≤ 2048
  places_few = omega (arith, count_is, p.statements)

  settled_before : (i : ℕ) → i < m → get_or (settled_trees ws k first places) i (Op 0 nil) ≡ get_or S i (Op 0 nil)
  settled_before i h = ap (λ (l : List Tree). get_or l i (Op 0 nil)) settled_are ∙ get_or-append S R (Op 0 nil) i (omega (arith, settled_count))

  pub held_run_is : (i : ℕ) → i < length starts → run_number held i ≡ settled_run ws k first places i
  unfolding run_number settled_run
  held_run_is i h =
      ap (tokens number)
      (ap (λ (l : List Tree). get_or l i (Op 0 nil)) held_read ∙ (get_or-append S (with_switches R) (Op 0 nil) i (omega (arith, settled_count)) ∙ sym (settled_before i h)))

  pub held_many : length starts ≤ length (read numbered held)
  held_many = omega (arith, ap length held_read, length-append S (with_switches R), settled_count)

  -- ---- no tree has more than two words besides those that rounds leave

  divisors_within : (l : List ℕ) → AllThere ws l → Every (Small (length ws)) (map (numbered_at ws) l)
  divisors_within [] h = tt
  divisors_within (q ∷ l) h = ((let e = ends_within ws m p.complete q (run_starts ws q h.0.0 h.0.1) in omega arith), divisors_within l h.1)

  pub settled_run_short : (i : ℕ) → length (settled_run ws k first places i) ≤ 2 + length ws
  unfolding settled_run
  settled_run_short i =
      let e = settled_small (length ws) ws (omega arith) places (divisors_within places places_there) k first in
      omega (
        arith,
        tokens_length unnumbered (get_or (settled_trees ws k first places) i (Op 0 nil)),
        small_at (2 + length ws) (settled_trees ws k first places) (omega arith) e i,
      )

  pub held_room : (n : ℕ) → length ws + 2 ≤ n → Roomy held n
  held_room n h q inside =
      let e = held_small (length ws) ws (omega arith) places (divisors_within places places_there) (reciprocals_first ws k first places) in
      let s = subst (λ (l : List Tree). Every (Small (2 + length ws)) l) (sym (held_again ws k first places places_there)) e in
      let z = place_small (2 + length ws) (held_words ws k first places) (omega arith) s q in
      omega (arith, z, ap (λ (hs : List ℕ). size (numbered_at hs q)) p.held_is, h)

  -- ---- a reciprocal

  settled_after : (j : ℕ) → get_or (settled_trees ws k first places) (m + j) (Op 0 nil) ≡ get_or R j (Op 0 nil)
  settled_after j =
      ap (λ (l : List Tree). get_or l (m + j) (Op 0 nil)) settled_are
      ∙ (ap (λ (i : ℕ). get_or (S ++ R) (i + j) (Op 0 nil)) (sym settled_count) ∙ get_or-append-add S R j (Op 0 nil))

  pub reciprocal_run_is : (j : ℕ) → reciprocal_run ws places (first + (length starts - k)) j ≡ settled_run ws k first places (length starts + j)
  unfolding reciprocal_run settled_run
  reciprocal_run_is j =
      ap (λ (x : ℕ). tokens number (get_or (settled_reciprocals ds x) j (Op 0 nil))) (sym first_number) ∙ ap (tokens number) (sym (settled_after j))

  -- ---- any of them

  module _ (i : ℕ) (h : i < length starts + length places) where
    abbrev t : Tree
    t = get_or (settled_trees ws k first places) i (Op 0 nil)

    in_code : T (coded is_alone t)
    in_code =
        let l = length-append S R in
        subst (λ (l : List Tree). T (coded is_alone (get_or l i (Op 0 nil)))) (sym settled_are)
        (fits_at (S ++ R) (settled_fit ws k first places places_there) i (omega (arith, l, settled_count, last_count, h)))

    pub settled_whole : trees_in (settled_run ws k first places i) ≡ some 1
    unfolding settled_run
    settled_whole = run_whole t in_code

    final_is : tokens number (fused_tree (steps_at held members numbers) t) ≡ tree_run ws k first places numbers i
    unfolding tree_run fused_run steps_from
    final_is =
        ap (λ (l : List ℕ). tokens number (fused_tree (steps_at held l numbers) t)) p.members_are
        ∙ ap (λ (hs : List ℕ). tokens number (fused_tree (steps_at hs (joined_groups (place_groups hs)) numbers) t)) p.held_is

    -- with the members replaced it is final
    pub fused_final : fused_by held members numbers (settled_run ws k first places i) ≡ tree_run ws k first places numbers i
    unfolding fused_by settled_run
    fused_final = rewritten_one (fused_tree (steps_at held members numbers)) t (tokens number t) (run_read t in_code) ∙ final_is
