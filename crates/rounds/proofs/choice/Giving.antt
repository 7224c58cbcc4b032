-- What the tables and marks hold for the search, and what `best_place` finds. Assumes nothing.
use Prim.Native.Nat.{ℕ, ◌+◌, ◌*◌, ◌≤◌, ◌<◌}
use native.Mathlib.Omega.{arith}
use mathlib.Core.Path.{◌≡◌, refl, sym, ◌∙◌, ap}
use mathlib.Core.Bool.{Bool, true, false, cond}
use mathlib.Core.Option.{none, some}
use mathlib.Core.List.{List, ◌++◌}
use borrow.Author.Tests.{le-ltb, ltb-true, ltb-false, eq-eqb, ne_eqb}
use lib.ListN.{length, get_or, drop, length-append, length-drop, get_or-append}
use lib.Dec.{leb, ltb}
use Rattle.std.specs.Prelude as answer
use Rattle.std.specs.Bool.{then_some}
use Rattle.spec_tree.specs.Tokens.{trees_in, trees_at, numbered, flag, name_in}
use Rattle.rounds.specs.measure.Columns.{place_facts, all_place_facts}
use Rattle.spec_tree.proofs.TokenLaws.{trees_length}
use Rattle.fmt.specs.checked.Check.{rows_in}
use Rattle.rounds.proofs.measure.Places.{fact_is}
use Rattle.rounds.proofs.measure.Filling.{all_place_facts_length}
use Rattle.rounds.specs.uses.Marks.{Complete, is_marked, marks_of}
use Rattle.rounds.specs.uses.Answers.{mark_answer}
use Rattle.rounds.proofs.uses.Runs.{how_many}
use Rattle.rounds.proofs.uses.Marking.{marks_length, mark_at}
use Rattle.laws.specs.positions.Places.{numbered_at, outside_at, best_place}
use Rattle.laws.proofs.positions.UsesAt.{uses_counted}
use Rattle.rounds.specs.value_numbers.Answers.{Tables}
use Rattle.rounds.proofs.value_numbers.Laws.{last_high}
use Rattle.rounds.proofs.value_numbers.Sides.{operation_class}
use Rattle.rounds.specs.Answers.{Finds}
use Rattle.rounds.specs.choice.Leading.{HasFacts, HasMarks, HasUses, Alike, leader_of, Leads}
use Rattle.rounds.proofs.choice.Forms.{best_same}

-- ---- what was found

-- by a search in a form with the same candidates
module _ (rows ws : List ℕ) (form scoped : Bool) (p s : ℕ) (k : Leads rows ws form p s) (same : Alike ws form scoped) where
  led : best_place ws (name_in (rows_in rows)) scoped ≡ leader_of p s
  led = sym (k.best ∙ best_same ws (name_in (rows_in rows)) form scoped same)

  finds_nothing : s ≡ 0 → best_place ws (name_in (rows_in rows)) scoped ≡ none
  unfolding leader_of
  finds_nothing z = led ∙ ap (λ (b : Bool). cond b none (some p)) (eq-eqb s 0 z)

  finds_at : (s ≡ 0 → ⊥) → best_place ws (name_in (rows_in rows)) scoped ≡ some p
  unfolding leader_of
  finds_at z = led ∙ ap (λ (b : Bool). cond b none (some p)) (ne_eqb s 0 z)

  pub finds_so : (r : answer.Option ℕ) → r ≡ then_some (ltb 0 s) p → Finds (rows_in rows) ws scoped r
  finds_so r e = go (ltb 0 s) refl
    where
      go : (b : Bool) → ltb 0 s ≡ b → Finds (rows_in rows) ws scoped r
      go true h = let l = ltb-true 0 s h in rw (e, h) (finds_at (λ z. omega arith))
      go false h = let l = ltb-false 0 s h in rw (e, h) (finds_nothing (omega arith))

-- ---- what `class_tables` and `mark_outside` leave

module _ (ws old new : List ℕ) (h : 4 * length ws ≤ length old) (facts_are : new ≡ all_place_facts (trees_at numbered ws) ++ drop (4 * length ws) old) where
  fact_at : (i k : ℕ) → i < length ws → k < 4 → get_or new (4 * i + k) 0 ≡ get_or (place_facts (numbered_at ws i)) k 0
  unfolding numbered_at
  fact_at i k g l = ap (λ (x : List ℕ). get_or x (4 * i + k) 0) facts_are ∙ fact_is ws (drop (4 * length ws) old) i k g l

  pub facts_left : HasFacts ws new
  unfolding place_facts
  facts_left =
      record {
        long = omega (arith, ap length facts_are, length-append (all_place_facts (trees_at numbered ws)) (drop (4 * length ws) old), length-drop (4 * length ws) old, all_place_facts_length (trees_at numbered ws), trees_length numbered ws);
        cost_at = λ i g. fact_at i 1 g (omega arith);
        depth_at = λ i g. fact_at i 2 g (omega arith);
        symbol_at = λ i g. fact_at i 3 g (omega arith);
      }

pub flag_back : (b : Bool) → leb 1 (flag b) ≡ b
unfolding flag
flag_back true = refl
flag_back false = refl

module _ (ws : List ℕ) (scoped : Bool) (old new : List ℕ) (h : length ws ≤ length old) (c : Complete ws) (e : new ≡ (mark_answer ws scoped old).marks) where
  marks_are : new ≡ marks_of (outside_at ws scoped) 0 (length ws) ++ drop (length ws) old
  unfolding mark_answer
  marks_are = let m = how_many (trees_in ws) c in e ∙ rw (le-ltb (length old) (length ws) h, m.1)

  pub marks_left : HasMarks ws scoped new
  unfolding is_marked
  marks_left =
      let test = outside_at ws scoped in
      let l = marks_of test 0 (length ws) in
      let n = marks_length test 0 (length ws) in
      record {
        long = omega (arith, ap length marks_are, length-append l (drop (length ws) old), n);
        marked = λ j g.
            let z : 0 + j ≡ j = omega arith in
            ap (leb 1) (ap (λ (x : List ℕ). get_or x j 0) marks_are ∙ (get_or-append l (drop (length ws) old) 0 j (omega (arith, n)) ∙ (mark_at test 0 (length ws) j g ∙ ap (λ (k : ℕ). flag (test k)) z)))
            ∙ flag_back (test j);
      }

-- by the classes of the places
pub uses_left : {ws old : List ℕ} {n : ℕ} {new cl us : List ℕ} → Complete ws → Tables ws old n new cl us → HasUses ws cl us
uses_left {ws} {old} {n} {new} {cl} {us} complete a =
    record {
      long_classes = a.classes_are.long;
      within = λ i h op. omega (arith, a.classes_are.each i (omega arith) h, operation_class ws complete i h op, last_high ws i h);
      long = a.uses_are.long;
      uses_are = λ i h op. a.uses_are.each i h op ∙ sym (uses_counted ws i);
    }
