-- What `past` and `flatten_mul_factors` answer in each case. Assumes nothing.
use Rattle.replace.specs.declared.factors.Product.{Product}
use Rattle.std.specs.Prelude.{Ok, Err, Result}
use Rattle.words.specs.declared.fault.Fault.TheVariants as fault
use Rattle.words.specs.declared.fault.Fault.{Fault}
use Rattle.std.specs.Prelude.{Option as Maybe, Some, None}
use Rattle.std.specs.Option.{ok_or}
use Rattle.std.proofs.Common.{◌≡◌, ℕ, ◌+◌, ◌-◌, ◌<◌, ◌≤◌, Bool, true, false, ltb, List, ◌++◌, length, drop, sym, refl, ap, ◌∙◌, ap₂, arith, le-ltb, lt-ltb}
use mathlib.Core.Option.{Option, none, some}
use lib.Seq.{sets-eq}
use lib.Ieee.{Float}
use Rattle.spec_tree.specs.Tree.{Tree}
use Rattle.spec_tree.specs.Facts.{size}
use Rattle.spec_tree.specs.Tokens.{run_at}
use Rattle.words.specs.tokens.Answers.{end_answer}
use Rattle.words.proofs.tokens.Comparing.{run_ends, broken_none}
use Rattle.replace.specs.factors.Places.{tree, Stands, factor_places}
use Rattle.replace.specs.factors.Answers.{Flattening, flattened_by, flatten_answer}
use Rattle.replace.proofs.factors.WordRuns.{stands_run, run_stands}
use Rattle.replace.proofs.factors.PlaceLaws.{few_places}
use Rattle.replace.proofs.factors.Flattening.{Taken}

-- ---- the end of a tree

-- from what `ok_or` makes of the answer
pub end_ok : (o : Maybe ℕ) (r : Result ℕ Fault) (n : ℕ) → r ≡ ok_or o fault.Broken → r ≡ Ok n → Some n ≡ o
end_ok None r n e p = absurd (let z : ◌≡◌ {A = ℕ} 0 1 = cc in omega arith)
end_ok (Some m) r n e p = cc

pub end_err : (o : Maybe ℕ) (r : Result ℕ Fault) (f : Fault) → r ≡ ok_or o fault.Broken → r ≡ Err f → None ≡ o
end_err None r f e p = refl
end_err (Some m) r f e p = absurd (let z : ◌≡◌ {A = ℕ} 0 1 = cc in omega arith)

pub ends_there : {ws : List ℕ} {at : ℕ} → Stands ws at 1 → end_answer at (run_at ws at) ≡ Some (at + size (tree ws at))
unfolding end_answer
ends_there {ws} {at} s = ap (end_answer at) (stands_run s)

pub past_is : {ws : List ℕ} {at end : ℕ} → Stands ws at 1 → Some end ≡ end_answer at (run_at ws at) → end ≡ at + size (tree ws at)
past_is s e = cc (e, ends_there s)

-- ---- the answers

unfoldable pub by_run : (o : Option ℕ) (at : ℕ) (t : Tree) (old : List ℕ) → Flattening
by_run o at t old = elim o [ none ↦ record { answer = (Err fault.Broken); places = old } | some n ↦ flattened_by (ltb (length old) n) at t old ]

module _ (ws : List ℕ) (at : ℕ) (old : List ℕ) where
  no_tree : run_at ws at ≡ none → flatten_answer ws at old ≡ record { answer = (Err fault.Broken); places = old }
  unfolding flatten_answer by_run
  no_tree e = ap (λ (o : Option ℕ). by_run o at (tree ws at) old) e

  pub a_tree : (n : ℕ) (b : Bool) → run_at ws at ≡ some n → ltb (length old) n ≡ b → flatten_answer ws at old ≡ flattened_by b at (tree ws at) old
  unfolding flatten_answer by_run
  a_tree n b e t = ap (λ (o : Option ℕ). by_run o at (tree ws at) old) e ∙ ap (λ (x : Bool). flattened_by x at (tree ws at) old) t

  abbrev pub Answers : Result Product Fault → List ℕ → Type 0
  Answers r new = (r ≡ (flatten_answer ws at old).answer) × (new ≡ (flatten_answer ws at old).places)

  pub answers_broken : None ≡ end_answer at (run_at ws at) → Answers (Err fault.Broken) old
  answers_broken p =
      let e = no_tree (broken_none at (run_at ws at) p) in
      (ap (λ (f : Flattening). f.answer) (sym e), ap (λ (f : Flattening). f.places) (sym e))

  module _ (end : ℕ) (p : Some end ≡ end_answer at (run_at ws at)) where
    pub stands_there : Stands ws at 1
    stands_there = run_stands ws at (end - at) (run_ends ws at end p)

    pub long_is : size (tree ws at) ≡ end - at
    long_is = let e = past_is stands_there p in omega arith

    pub answers_no_room : length old < end - at → Answers (Err fault.NoRoom) old
    unfolding flattened_by
    answers_no_room h =
        let e = a_tree (end - at) true (run_ends ws at end p) (lt-ltb (length old) (end - at) h) in
        (ap (λ (f : Flattening). f.answer) (sym e), ap (λ (f : Flattening). f.places) (sym e))

    pub answers_product :
        (c : Float) (n : ℕ) (new : List ℕ) → end - at ≤ length old → Taken (tree ws at) at old 0 c n new
        → Answers (Ok (record { coefficient = c; count = n })) new
    unfolding flattened_by
    answers_product c n new h f =
        let e = a_tree (end - at) false (run_ends ws at end p) (le-ltb (length old) (end - at) h) in
        let ps = factor_places at (tree ws at) in
        let few = few_places at (tree ws at) in
        let z : 0 + length ps ≡ length ps = omega arith in (
          ap₂ (λ (x : Float) (k : ℕ). Ok (record { coefficient = x; count = k })) f.coefficient_is f.count_is ∙ ap (λ (g : Flattening). g.answer) (sym e),
          f.places_are ∙ (sets-eq ps old 0 (omega (arith, long_is)) ∙ (ap (λ (k : ℕ). ps ++ drop k old) z ∙ ap (λ (g : Flattening). g.places) (sym e))),
        )
