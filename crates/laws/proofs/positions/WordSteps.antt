-- What a loop over rounds on words has at each turn: the words stay complete, each extraction lowers the operations and adds no word, and with no operation left
-- there is no candidate. It holds at the start for the words of a table's trees. Assumes nothing.
use Prim.Native.Nat.{ℕ, suc, ◌+◌, ◌≤◌, ◌<◌}
use native.Mathlib.Omega.{arith}
use mathlib.Core.Path.{◌≡◌, refl, sym, ◌∙◌, ap, subst}
use mathlib.Core.Bool.{Bool, ◌&&◌}
use mathlib.Core.Option.{some}
use mathlib.Core.List.{List, [], ◌∷◌}
use lib.ListN.{length}
use lib.Seq.{drop-length}
use lib.Dec.{T}
use Rattle.spec_tree.specs.Outcome.{Outcome, ok, refused, ◌>>=◌}
use Rattle.spec_tree.specs.Tree.{Name, input, xname, mname, Tree}
use Rattle.spec_tree.specs.Rows.{Table, trees}
use Rattle.spec_tree.specs.Passes.{passes}
use Rattle.spec_tree.specs.Facts.{size, total, all_operations}
use Rattle.spec_tree.specs.Tokens.{read, numbered, trees_in, trees_at}
use Rattle.spec_tree.proofs.Logic.{and_right, and_both}
use Rattle.spec_tree.proofs.TokenLaws.{sizes, read_size, complete_length, places_are_nodes}
use Rattle.spec_tree.proofs.TokenCode.{renamed_name, known_name, coded, all_coded, unnumbered}
use Rattle.spec_rewrite.proofs.Measure.{sum_of}
use Rattle.spec_rewrite.proofs.Names.{holds, holds_all, all_nodes_hold}
use Rattle.spec_rewrite.proofs.Counts.{well_formed_all, part_all_operations}
use Rattle.spec_cse.specs.Extract.{State, is_candidate, roots, extract}
use Rattle.laws.proofs.cse.Outcomes.{good_at, then_good, good_ok}
use Rattle.laws.proofs.cse.RoundsCount.{made_before, Sound, round, candidate_facts, costs_operation}
use Rattle.laws.proofs.cse.SizeCount.{round_size}
use Rattle.laws.proofs.cse.PassesLaws.{passes_formed, passes_unmade, passed}
use Rattle.laws.proofs.cse.FlatCount.{list_made}
use Rattle.spec_tree.proofs.TreeLaws.{eq_bytes_refl}
use Rattle.laws.proofs.positions.Reading.{read_holds, all_tokens_pass}
use Rattle.laws.specs.positions.Names.{symbols_pass}
use Rattle.laws.specs.positions.Places.{numbered_at, best_place}
use Rattle.laws.specs.positions.Rounds.{next_number, state_of, extract_on, extract_words}
use Rattle.laws.proofs.positions.Renaming.{Renaming, named, well_formed_all_renamed, holds_all_renamed}
use Rattle.laws.proofs.positions.RowNames.{names_of, tree_words, table_complete, table_renamed, tree_coded, all_code, picked}
use Rattle.laws.proofs.positions.BestPlace.{Best, best_place_is, candidate_at_is}
use Rattle.laws.proofs.positions.RoundsOn.{roots_of_state, extract_on_state, extract_on_length}
use Rattle.laws.proofs.positions.Coded.{is_alone, read_fits, read_again, extract_on_fits}
use Rattle.laws.proofs.positions.WordRounds.{InCode, written, place_fits, written_complete}

-- ---- as many words as nodes

sizes_sum : (l : List Tree) → sum_of size l ≡ sizes l
unfolding sum_of sizes total
sizes_sum [] = refl
sizes_sum (t ∷ l) = ap (λ (n : ℕ). size t + n) (sizes_sum l)

pub words_size : (ws : List ℕ) → sum_of size (read numbered ws) ≡ length ws
words_size ws = sizes_sum (read numbered ws) ∙ read_size numbered ws

-- ---- what holds at each turn

pub record Turn (k first : ℕ) (ws : List ℕ) : Type 0 where
  pub trees : ℕ
  pub complete : trees_in ws ≡ some trees
  pub results : k ≤ trees
  pub formed : T (well_formed_all (read numbered ws))
  pub known : T (holds_all (made_before (next_number k first (read numbered ws))) (read numbered ws))

next_is : (k first : ℕ) (ts : List Tree) → (state_of k first ts).next ≡ next_number k first ts
unfolding state_of
next_is k first ts = refl

turn_sound : (k first : ℕ) (ws : List ℕ) → Turn k first ws → Sound (state_of k first (read numbered ws))
turn_sound k first ws h =
    let ts = read numbered ws in
    record {
      formed = subst (λ (l : List Tree). T (well_formed_all l)) (sym (roots_of_state k first ts)) h.formed;
      known =
          subst (λ (n : ℕ). T (holds_all (made_before n) (roots (state_of k first ts)))) (sym (next_is k first ts))
          (subst (λ (l : List Tree). T (holds_all (made_before (next_number k first ts)) l)) (sym (roots_of_state k first ts)) h.known);
    }

-- a turn's outcome: the next turn, fewer operations, no more words, the next number
abbrev pub Next : ℕ → ℕ → List ℕ → List ℕ → Type 0
Next k first ws vs =
    Turn k first vs × (suc (all_operations (read numbered vs)) ≤ all_operations (read numbered ws)) × (length vs ≤ length ws)
    × (next_number k first (read numbered vs) ≡ suc (next_number k first (read numbered ws)))

module _ (scoped : Bool) (k first : ℕ) (ws : List ℕ) (h : Turn k first ws) (p : ℕ) (inside : p < length ws) (chosen : T (is_candidate scoped (read numbered ws) (numbered_at ws p))) where
  abbrev from : State
  from = state_of k first (read numbered ws)

  candidate_there : T (is_candidate scoped (roots from) (numbered_at ws p))
  candidate_there = subst (λ (l : List Tree). T (is_candidate scoped l (numbered_at ws p))) (sym (roots_of_state k first (read numbered ws))) chosen

  after : (us : List Tree) → extract_on (numbered_at ws p) (next_number k first (read numbered ws)) (read numbered ws) ≡ ok us → Next k first ws (written us)
  after us e =
      let ts = read numbered ws in
      let x = numbered_at ws p in
      let n = next_number k first ts in
      let l = complete_length numbered ws h.trees h.complete in
      let done : extract x from ≡ ok (state_of k first us) = extract_on_state x k first ts (omega (arith, l, h.results)) ∙ ap (λ (o : Outcome (List Tree)). o >>= λ us. ok (state_of k first us)) e in
      let S = turn_sound k first ws h in
      let r = round scoped x from (state_of k first us) S candidate_there done in
      let z = round_size scoped x from (state_of k first us) S candidate_there done in
      let code : InCode us = good_at InCode (extract_on x n ts) us e (extract_on_fits is_alone x n ts (place_fits ws h.trees h.complete p inside) (read_fits ws)) in
      let back = read_again us code in
      let c = written_complete us code in
      let lu = complete_length numbered (written us) (length us) c in
      let more : next_number k first us ≡ suc n = sym (next_is k first us) ∙ r.3 ∙ ap suc (next_is k first ts) in
      let ru = roots_of_state k first us in
      let rt = roots_of_state k first ts in
      let ops : suc (all_operations us) ≤ all_operations ts = omega (arith, r.1, ap all_operations ru, ap all_operations rt) in
      let fit : sum_of size us ≤ sum_of size ts = omega (arith, z, ap (sum_of size) ru, ap (sum_of size) rt) in
      let words : sum_of size us ≡ length (written us) = ap (sum_of size) (sym back) ∙ words_size (written us) in (
        record {
          trees = length us;
          complete = c;
          results = grown us e;
          formed = subst (λ (l : List Tree). T (well_formed_all l)) (ru ∙ sym back) r.0.formed;
          known =
              subst (λ (l : List Tree). T (holds_all (made_before (next_number k first l)) l)) (sym back)
              (subst (λ (l : List Tree). T (holds_all (made_before (next_number k first us)) l)) ru
              (subst (λ (m : ℕ). T (holds_all (made_before m) (roots (state_of k first us)))) (next_is k first us) r.0.known));
        },
        omega (arith, ops, ap all_operations back),
        omega (arith, fit, words, words_size ws),
        ap (next_number k first) back ∙ more,
      )
    where
      grown : (us : List Tree) → extract_on (numbered_at ws p) (next_number k first (read numbered ws)) (read numbered ws) ≡ ok us → k ≤ length us
      grown us e =
          let g = good_at (λ (vs : List Tree). length vs ≡ suc (length (read numbered ws))) (extract_on (numbered_at ws p) (next_number k first (read numbered ws)) (read numbered ws)) us e
          (extract_on_length (numbered_at ws p) (next_number k first (read numbered ws)) (read numbered ws)) in
          omega (arith, g, complete_length numbered ws h.trees h.complete, h.results)

  step : (o : Outcome (List Tree)) → extract_on (numbered_at ws p) (next_number k first (read numbered ws)) (read numbered ws) ≡ o
      → (vs : List ℕ) → (o >>= λ us. ok (written us)) ≡ ok vs → Next k first ws vs
  step (ok us) e vs z = subst (Next k first ws) (got z) (after us e)
    where
      got : {a b : List ℕ} → ok a ≡ ok b → a ≡ b
      got e = cc
  step (refused i) e vs z = absurd (let y : ◌≡◌ {A = ℕ} 0 1 = cc in omega arith)

  next_turn : (vs : List ℕ) → extract_words (numbered_at ws p) (next_number k first (read numbered ws)) ws ≡ ok vs → Next k first ws vs
  unfolding extract_words
  next_turn vs e = step (extract_on (numbered_at ws p) (next_number k first (read numbered ws)) (read numbered ws)) refl vs e

-- the best place's
best_there : (name_at : ℕ → List ℕ) (scoped : Bool) (ws : List ℕ) (p : ℕ) → best_place ws name_at scoped ≡ some p → (p < length ws) × T (is_candidate scoped (read numbered ws) (numbered_at ws p))
best_there name_at scoped ws p e =
    let b = subst (Best ws name_at scoped) e (best_place_is ws name_at scoped) in
    (b.0, subst T (candidate_at_is ws name_at scoped p) b.1)

pub one_turn :
    (name_at : ℕ → List ℕ) (scoped : Bool) (k first : ℕ) (ws : List ℕ) → Turn k first ws → (p : ℕ) → best_place ws name_at scoped ≡ some p
    → (vs : List ℕ) → extract_words (numbered_at ws p) (next_number k first (read numbered ws)) ws ≡ ok vs → Next k first ws vs
one_turn name_at scoped k first ws h p e vs z =
    let b = best_there name_at scoped ws p e in
    next_turn scoped k first ws h p b.0 b.1 vs z

-- a candidate is an operation
pub some_operation : (name_at : ℕ → List ℕ) (scoped : Bool) (ws : List ℕ) (p : ℕ) → best_place ws name_at scoped ≡ some p → 1 ≤ all_operations (read numbered ws)
some_operation name_at scoped ws p e =
    let b = best_there name_at scoped ws p e in
    let x = numbered_at ws p in
    let f = candidate_facts scoped (read numbered ws) x b.1 in
    let two = f.2 in
    let a = part_all_operations x (read numbered ws) (omega arith) in
    omega (arith, a, costs_operation x f.0)

-- ---- at the start

blind_made : (R : Renaming) (n : ℕ) (a : Name) → made_before n (named R a) ≡ made_before n a
unfolding made_before renamed_name
blind_made R n (input s) = refl
blind_made R n (xname i) = refl
blind_made R n (mname i) = refl

-- a table's trees, each a result, before the first round
no_bindings : (ts : List Tree) (first : ℕ) → next_number (length ts) first ts ≡ first
unfolding next_number
no_bindings ts first = let z : first + 0 ≡ first = omega arith in ap (λ (l : List Tree). first + length l) (drop-length ts) ∙ z

pub first_turn : (t : Table) → T (passes (trees t)) → Turn (length (trees t)) 0 (tree_words t)
first_turn t h =
    let R = names_of t.rows in
    let ts = read numbered (tree_words t) in
    let e = passed (trees t) h in
    let c = table_complete t e in
    let same = table_renamed t e in
    let l : length ts ≡ length (trees t) = complete_length numbered (tree_words t) (length (trees t)) c in
    let n : next_number (length (trees t)) 0 ts ≡ 0 = ap (λ (k : ℕ). next_number k 0 ts) (sym l) ∙ no_bindings ts 0 in
    record {
      trees = length (trees t);
      complete = c;
      results = omega arith;
      formed = subst T (well_formed_all_renamed R ts) (subst (λ (l : List Tree). T (well_formed_all l)) (sym same) (passes_formed (trees t) h));
      known =
          subst (λ (n : ℕ). T (holds_all (made_before n) ts)) (sym n)
          (subst T (holds_all_renamed R (made_before 0) (λ a. blind_made R 0 a) ts)
          (subst (λ (l : List Tree). T (holds_all (made_before 0) l)) (sym same) (list_made (trees t) (passes_unmade (trees t) h))));
    }

-- ---- the numbers of symbols

-- Numbers that pass go on passing: an extraction brings in no number. `good` may say that a number is below the count of rows, or that it is the first with its name.
module _ (good : ℕ → Bool) where
  abbrev is_good : List ℕ → Bool
  is_good s = is_alone s && good (unnumbered s)

  good_alone : (n : ℕ) → T (good n) → T (is_good (numbered n))
  good_alone n h = and_both (is_alone (numbered n)) (good n) (unfold is_alone in eq_bytes_refl (numbered n)) h

  good_words : (ws : List ℕ) → T (symbols_pass good ws) → T (holds_all (known_name is_good) (read numbered ws))
  good_words ws h = read_holds is_good good good_alone ws h

  good_code : (l : List Tree) → T (all_coded is_alone l) → T (holds_all (known_name is_good) l) → T (all_coded is_good l)
  good_code l h g = all_code is_alone is_good l h g

  pub good_written : (l : List Tree) → T (all_coded is_good l) → T (symbols_pass good (written l))
  good_written l h = all_tokens_pass unnumbered is_good good (λ s k. and_right (is_alone s) (good (unnumbered s)) k) l h

  good_at_place : (ws : List ℕ) (p : ℕ) → T (holds_all (known_name is_good) (trees_at numbered ws)) → T (holds (known_name is_good) (numbered_at ws p))
  unfolding numbered_at
  good_at_place ws p h = picked is_good (trees_at numbered ws) p h

  good_place : (ws : List ℕ) (m : ℕ) → trees_in ws ≡ some m → T (symbols_pass good ws) → (p : ℕ) → p < length ws → T (coded is_good (numbered_at ws p))
  good_place ws m c h p l =
      let nodes_good = all_nodes_hold (known_name is_good) (read numbered ws) (good_words ws h) in
      let at_places = subst (λ (l : List Tree). T (holds_all (known_name is_good) l)) (sym (places_are_nodes numbered ws)) nodes_good in
      tree_coded is_alone is_good (numbered_at ws p) (place_fits ws m c p l) (good_at_place ws p at_places)

  pub numbers_kept :
      (ws : List ℕ) (m : ℕ) → trees_in ws ≡ some m → T (symbols_pass good ws) → (p : ℕ) → p < length ws → (n : ℕ) (vs : List ℕ)
      → extract_words (numbered_at ws p) n ws ≡ ok vs → T (symbols_pass good vs)
  unfolding extract_words
  numbers_kept ws m c h p l n vs e =
      let ts = read numbered ws in
      let x = extract_on (numbered_at ws p) n ts in
      good_at (λ (vs : List ℕ). T (symbols_pass good vs)) (x >>= λ us. ok (written us)) vs e
      (then_good (λ (us : List Tree). T (all_coded is_good us)) (λ (vs : List ℕ). T (symbols_pass good vs)) x
      (extract_on_fits is_good (numbered_at ws p) n ts (good_place ws m c h p l) (good_code ts (read_fits ws) (good_words ws h))) (λ us. ok (written us))
      (λ us k. good_ok (λ (vs : List ℕ). T (symbols_pass good vs)) (written us) (good_written us k)))
