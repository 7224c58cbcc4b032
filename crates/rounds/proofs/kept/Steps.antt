-- One round on words that may be extracted from (01, "Extraction"): the best place's tree may be replaced by the next name, the words after it may be extracted
-- from again, and they are no more. Assumes nothing.
use Prim.Native.Nat.{ℕ, suc, ◌+◌, ◌*◌, ◌≤◌, ◌<◌}
use native.Mathlib.Omega.{arith}
use mathlib.Core.Path.{◌≡◌, refl, sym, ◌∙◌, ap, ap₂, subst}
use mathlib.Core.Bool.{Bool, false, ◌&&◌}
use mathlib.Core.Option.{Option, none, some}
use mathlib.Core.List.{List, [], ◌∷◌, ◌++◌, append-nil}
use lib.ListN.{length, get_or, take, drop}
use lib.Dec.{T}
use Rattle.spec_tree.specs.Bytes.{every}
use Rattle.spec_tree.specs.Outcome.{Outcome, ok, refused, ◌>>=◌, each}
use Rattle.spec_tree.specs.Tree.{Name, xname, Tree, Forest, Sym, Const, Op, nil, ◌◂◌, folds}
use Rattle.spec_tree.specs.Facts.{total, operations, all_operations, all_nodes, size}
use Rattle.spec_tree.specs.Rows.{Row}
use Rattle.spec_tree.specs.Tokens.{read, numbered, name_in, trees_in, run_at, tokens, all_tokens}
use Rattle.spec_tree.proofs.Logic.{and_left, and_right, and_both}
use Rattle.spec_tree.proofs.TokenLaws.{run_size, words_complete}
use Rattle.spec_tree.proofs.TokenCode.{unnumbered}
use Rattle.spec_rewrite.specs.Rewrite.{replace}
use Rattle.spec_rewrite.proofs.Measure.{sum_of}
use Rattle.spec_rewrite.proofs.Names.{holds_all, all_nodes_hold}
use Rattle.spec_rewrite.proofs.Counts.{counted_holds, absent}
use Rattle.spec_cse.specs.Extract.{is_candidate}
use Rattle.laws.proofs.cse.Outcomes.{Good, then_good, good_ok, good_at}
use Rattle.laws.proofs.cse.RoundsCount.{symbol_factor, factors_nodes, made_before, new_name, candidate_facts}
use Rattle.replace.specs.closed.Closed.{endless}
use Rattle.replace.proofs.closed.Equal.{several_ends}
use Rattle.fmt.specs.checked.Check.{word_ok}
use Rattle.words.specs.words.Words.{tree_of, name_of, some_trees}
use Rattle.replace.specs.replacing.Replacing.{replaced_words}
use Rattle.replace.specs.replacing.Deciding.{Trees, Target}
use Rattle.laws.specs.positions.Places.{numbered_at, best_place}
use Rattle.laws.specs.positions.Rounds.{next_number, extract_on, extract_words}
use Rattle.laws.proofs.positions.BestPlace.{Best, best_place_is, candidate_at_is}
use Rattle.laws.proofs.positions.Coded.{is_alone, none_fit, one_fits, read_fits, read_again, extract_on_fits}
use Rattle.laws.proofs.positions.WordRounds.{InCode, written, place_fits}
use Rattle.laws.proofs.positions.WordForms.{extract_words_form, place_words}
use Rattle.laws.proofs.positions.WordSteps.{Turn, Next, one_turn, words_size}
use Rattle.rounds.specs.kept.Sound.{name_word, numbered_below, extractable}
use Rattle.rounds.proofs.kept.Passing.{all_taken, extract_on_taken}
use Rattle.rounds.proofs.kept.Words.{name_ok, words_taken, made_ok, all_taken_formed, taken_at, formed_words, kind_zero, word_names, names_below}
use Rattle.spec_tree.proofs.Outcomes.{then_then}

-- ---- words that may be extracted from

pub record Ready (rows : List Row) (n : ℕ) (ws : List ℕ) : Type 0 where
  pub trees : ℕ
  pub complete : trees_in ws ≡ some trees
  pub taken : T (all_taken (name_ok rows) (read numbered ws))
  pub below : T (every (numbered_below n) ws)

pub some_there : (o : Option ℕ) → T (some_trees o) → (m : ℕ) × (o ≡ some m)
unfolding some_trees
some_there none h = absurd h
some_there (some m) h = (m, refl)

pub ready_of : (rows : List Row) (n : ℕ) (ws : List ℕ) → T (extractable rows n ws) → Ready rows n ws
unfolding extractable
ready_of rows n ws h =
    let c = some_there (trees_in ws) (and_left (some_trees (trees_in ws)) (every (word_ok rows) ws && every (numbered_below n) ws) h) in
    let g = and_right (some_trees (trees_in ws)) (every (word_ok rows) ws && every (numbered_below n) ws) h in
    record {
      trees = c.0;
      complete = c.1;
      taken = subst T (words_taken rows ws c.0 c.1) (and_left (every (word_ok rows) ws) (every (numbered_below n) ws) g);
      below = and_right (every (word_ok rows) ws) (every (numbered_below n) ws) g;
    }

pub ready_so : (rows : List Row) (n : ℕ) (ws : List ℕ) → Ready rows n ws → T (extractable rows n ws)
unfolding extractable some_trees
ready_so rows n ws r =
    and_both (some_trees (trees_in ws)) (every (word_ok rows) ws && every (numbered_below n) ws)
    (subst (λ (o : Option ℕ). T (some_trees o)) (sym r.complete) tt)
    (and_both (every (word_ok rows) ws) (every (numbered_below n) ws) (subst T (sym (words_taken rows ws r.trees r.complete)) r.taken) r.below)

-- ---- operations are words

mutual
  unfolding operations size total folds

  operations_most : (t : Tree) → operations t ≤ size t
  operations_most (Sym n) = omega arith
  operations_most (Const c) = omega arith
  operations_most (Op k f) = omega (arith, operations_most_each f)

  operations_most_each : (f : Forest) → total (folds (λ n. 0) (λ c. 0) (λ k counts. suc (total counts)) f) ≤ total (folds (λ n. 1) (λ c. 1) (λ k sizes. suc (total sizes)) f)
  operations_most_each nil = omega arith
  operations_most_each (t ◂ f) = omega (arith, operations_most t, operations_most_each f)

all_operations_most : (l : List Tree) → all_operations l ≤ sum_of size l
unfolding all_operations sum_of
all_operations_most [] = omega arith
all_operations_most (t ∷ l) = omega (arith, operations_most t, all_operations_most l)

pub operations_words : (ws : List ℕ) → all_operations (read numbered ws) ≤ length ws
operations_words ws = omega (arith, all_operations_most (read numbered ws), words_size ws)

-- ---- a round

both_good : {A : Type 0} (Q R : A → Type 0) (o : Outcome A) → Good Q o → Good R o → Good (λ (a : A). Q a × R a) o
unfolding Good
both_good Q R (ok a) g h = (g, h)
both_good Q R (refused i) g h = tt

alone_words : (t : Tree) → all_tokens unnumbered (t ∷ []) ≡ tokens unnumbered t
unfolding all_tokens
alone_words t = append-nil (tokens unnumbered t)

pub ready_turn : (rows : List Row) (k first n : ℕ) (ws : List ℕ) (r : Ready rows n ws) → k ≤ r.trees → next_number k first (read numbered ws) ≡ n → Turn k first ws
ready_turn rows k first n ws r l e =
    record {
      trees = r.trees;
      complete = r.complete;
      results = l;
      formed = all_taken_formed (name_ok rows) (read numbered ws) r.taken;
      known = subst (λ (m : ℕ). T (holds_all (made_before m) (read numbered ws))) (sym e) (subst T (names_below n ws) r.below);
    }

module _ (rows : List Row) (scoped : Bool) (n : ℕ) (ws : List ℕ) (r : Ready rows n ws) (p : ℕ) (best : best_place ws (name_in rows) scoped ≡ some p) where
  abbrev target : Tree
  target = numbered_at ws p

  pub inside : p < length ws
  inside = (subst (Best ws (name_in rows) scoped) best (best_place_is ws (name_in rows) scoped)).0

  chosen : T (is_candidate scoped (read numbered ws) target)
  chosen = subst T (candidate_at_is ws (name_in rows) scoped p) (subst (Best ws (name_in rows) scoped) best (best_place_is ws (name_in rows) scoped)).1

  -- ---- the run of the target

  abbrev part : List ℕ
  part = take (size target) (drop p ws)

  pub part_run : run_at ws p ≡ some (size target)
  unfolding numbered_at
  part_run = run_size numbered ws r.trees p r.complete inside

  pub part_one : trees_in part ≡ some 1
  unfolding run_at
  part_one = (words_complete (drop p ws) 1 (size target) part_run).1

  part_is : all_tokens unnumbered (target ∷ []) ≡ part
  part_is = alone_words target ∙ place_words ws r.trees r.complete p inside

  pub part_tree : tree_of part ≡ target
  unfolding tree_of
  part_tree =
      ap (λ (l : List ℕ). get_or (read numbered l) 0 (Op 0 nil)) (sym part_is)
      ∙ ap (λ (l : List Tree). get_or l 0 (Op 0 nil)) (read_again (target ∷ []) (one_fits is_alone target [] (place_fits ws r.trees r.complete p inside) (none_fit is_alone)))

  -- ---- it may be replaced

  pub may_rewrite : Trees ws
  may_rewrite =
      record {
        count = r.trees;
        complete = r.complete;
        formed = formed_words ws r.trees r.complete (all_taken_formed (name_ok rows) (read numbered ws) r.taken);
      }

  -- it has a symbol, and the name is new
  target_ends : endless target (xname n) ≡ false
  target_ends =
      let f = candidate_facts scoped (read numbered ws) target chosen in
      let known = subst T (names_below n ws) r.below in
      let held = counted_holds (made_before n) target (all_nodes (read numbered ws)) (all_nodes_hold (made_before n) (read numbered ws) known) (let q = f.2 in omega arith) in
      several_ends target (xname n) (symbol_factor target f.1)
      (let a = absent (made_before n) (xname n) (new_name n) target held in let b = factors_nodes (Sym (xname n)) target in omega arith)

  pub may_replace : Target part (name_word n)
  may_replace = record { one = part_one; symbol = kind_zero (1 + 3 * n); ends = ap₂ endless part_tree (word_names n) ∙ target_ends }

  -- the words replaced, and the run
  pub extracted_are : extract_words target n ws ≡ (replaced_words (tree_of part) (name_of (name_word n)) ws >>= λ l. ok (l ++ part))
  unfolding replaced_words
  extracted_are =
      let g : Outcome (List Tree) = each (replace target (xname n)) (read numbered ws) in
      let w : tokens unnumbered target ≡ part = place_words ws r.trees r.complete p inside in
      extract_words_form target n ws
      ∙ ap (λ (v : List ℕ). g >>= λ us. ok (all_tokens unnumbered us ++ v)) w
      ∙ sym (then_then g (λ us. ok (all_tokens unnumbered us)) (λ l. ok (l ++ part)))
      ∙ ap₂ (λ (t : Tree) (m : Name). (each (replace t m) (read numbered ws) >>= λ us. ok (all_tokens unnumbered us)) >>= λ l. ok (l ++ part)) (sym part_tree) (sym (word_names n))

  -- ---- the words after it

  module _ (k first : ℕ) (results : k ≤ r.trees) (next : next_number k first (read numbered ws) ≡ n) (vs : List ℕ) (z : extract_words target n ws ≡ ok vs) where
    pub stepped : Next k first ws vs
    stepped = one_turn (name_in rows) scoped k first ws (ready_turn rows k first n ws r results next) p best vs (subst (λ (m : ℕ). extract_words target m ws ≡ ok vs) (sym next) z)

    now_taken : T (all_taken (name_ok rows) (read numbered vs))
    unfolding extract_words
    now_taken =
        let ts = read numbered ws in
        let Q : List Tree → Type 0 = λ us. T (all_taken (name_ok rows) us) × InCode us in
        let R : List ℕ → Type 0 = λ vs. T (all_taken (name_ok rows) (read numbered vs)) in
        let x = extract_on target n ts in
        let both = both_good (λ (us : List Tree). T (all_taken (name_ok rows) us)) InCode x
        (extract_on_taken (name_ok rows) target n ts (made_ok rows n) (taken_at (name_ok rows) ws p inside r.taken) r.taken)
        (extract_on_fits is_alone target n ts (place_fits ws r.trees r.complete p inside) (read_fits ws)) in
        good_at R (x >>= λ us. ok (written us)) vs z
        (then_good Q R x both (λ us. ok (written us))
        (λ us h. good_ok R (written us) (subst (λ (l : List Tree). T (all_taken (name_ok rows) l)) (sym (read_again us h.1)) h.0)))

    pub ready_next : Ready rows (suc n) vs
    ready_next =
        let t = stepped.0 in
        let e : next_number k first (read numbered vs) ≡ suc n = stepped.3 ∙ ap suc next in
        record {
          trees = t.trees;
          complete = t.complete;
          taken = now_taken;
          below = subst T (sym (names_below (suc n) vs)) (subst (λ (m : ℕ). T (holds_all (made_before m) (read numbered vs))) e t.known);
        }
