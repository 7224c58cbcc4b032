-- One step of settling: the divisor is a tree of the base, the words of which are read as that tree, and what `replace_divisor` leaves is what the step makes.
-- Assumes nothing.
use Rattle.std.specs.Prelude.{Some, None, Result, Ok, ⊤}
use Rattle.std.specs.Result.{result_ok}
use Rattle.words.specs.declared.fault.Fault.{Fault}
use Prim.Native.Nat.{ℕ, ◌+◌, ◌-◌, ◌≤◌}
use native.Mathlib.Omega.{arith}
use mathlib.Core.Path.{◌≡◌, refl, sym, ◌∙◌, ap, subst}
use mathlib.Core.Bool.{Bool, false}
use mathlib.Core.Option.{Option, none, some}
use mathlib.Core.List.{List, [], ◌∷◌, ◌++◌}
use lib.ListN.{length, get_or, take, drop, length-drop, length-append}
use lib.Seq.{length-take-le, take_at}
use Rattle.spec_tree.specs.Tree.{Name, Tree, Op, nil}
use Rattle.spec_tree.specs.Tokens.{kind_of, run_at, trees_in, read, numbered}
use Rattle.spec_rewrite.specs.Rewrite.{replace_divisor}
use Rattle.words.specs.tokens.Answers.{end_answer}
use Rattle.words.specs.words.Words.{rewritten_words, tree_of, name_of, Complete}
use Rattle.words.specs.words.Answers.{Rewriting, rewriting_by, rewriting}
use Rattle.words.proofs.words.Requests.{all_sound}
use Rattle.words.proofs.words.Rewriting.{segment, one_long}
use Rattle.replace.proofs.divisor.Chaining.{never_longer, as_many_trees}
use Rattle.reciprocals.specs.settle.Steps.{stand_among, step_words}
use Rattle.reciprocals.specs.settle.Answers.{stepped_answer, Front}
use Rattle.reciprocals.proofs.settle.Missing.{words_stay}
use Rattle.std.specs.Prelude as answer

-- a divisor from a place to its end
pub record Divisor (base : List ℕ) (place end : ℕ) : Type 0 where
  pub after : place ≤ end
  pub within : end ≤ length base
  pub stands : run_at base place ≡ some (end - place)
  pub one : trees_in (take (end - place) (drop place base)) ≡ some 1
  pub read_so : tree_of (take (end - place) (drop place base)) ≡ tree_of (drop place base)

first_of_one : (l : List Tree) → get_or (take 1 l) 0 (Op 0 nil) ≡ get_or l 0 (Op 0 nil)
first_of_one [] = refl
first_of_one (t ∷ l) = refl

pub divisor_there : (base : List ℕ) (place end : ℕ) → Some end ≡ end_answer place (run_at base place) → Divisor base place end
unfolding run_at tree_of end_answer
divisor_there base place end e = go (run_at base place) refl e
  where
    made : (m : ℕ) → run_at base place ≡ some m → end ≡ place + m → Divisor base place end
    made m s q =
        let us = drop place base in
        let g = segment us 1 m s in
        let d : end - place ≡ m = omega arith in
        let long = one_long (take m us) g.whole in
        let l = length-take-le m us g.within in
        let f = length-drop place base in
        let w = g.within in
        record {
          after = omega arith;
          within = omega (arith, long, l, f, w);
          stands = s ∙ ap some (sym d);
          one = ap (λ (k : ℕ). trees_in (take k us)) d ∙ g.whole;
          read_so = ap (λ (k : ℕ). tree_of (take k us)) d ∙ (ap (λ (r : List Tree). get_or r 0 (Op 0 nil)) g.first ∙ first_of_one (read numbered us));
        }

    go : (o : Option ℕ) → run_at base place ≡ o → Some end ≡ end_answer place o → Divisor base place end
    go none s q = let z : ◌≡◌ {A = ℕ} 0 1 = cc in absurd (omega arith)
    go (some m) s q = let n : end ≡ place + m = cc in made m s n

-- what a step answers and leaves
abbrev pub Ends : List ℕ → ℕ → ℕ → List ℕ → answer.Option ℕ → List ℕ → Type 0
Ends base place name ws r out = (r ≡ stepped_answer (step_words base place (name_of name) ws)) × Front (step_words base place (name_of name) ws) out

step_on :
    (base : List ℕ) (place : ℕ) (name : Name) (ws : List ℕ) (o : Option ℕ) → run_at base place ≡ o
    → ◌≡◌ {A = Option (List ℕ)} (step_words base place name ws)
    (elim o [ none ↦ none | some n ↦ some (rewritten_words (replace_divisor (tree_of (drop place base)) name) ws) ])
unfolding step_words
step_on base place name ws o e =
    ap (λ (q : Option ℕ). elim q as (λ _. Option (List ℕ)) [ none ↦ none | some n ↦ some (rewritten_words (replace_divisor (tree_of (drop place base)) name) ws) ]) e

pub no_divisor : (base : List ℕ) (place name : ℕ) (ws out : List ℕ) → None ≡ end_answer place (run_at base place) → Ends base place name ws answer.None out
unfolding end_answer stepped_answer Front
no_divisor base place name ws out e = go (run_at base place) refl e
  where
    go : (o : Option ℕ) → run_at base place ≡ o → None ≡ end_answer place o → Ends base place name ws answer.None out
    go none s q = subst (λ (w : Option (List ℕ)). (answer.None ≡ stepped_answer w) × Front w out) (sym (step_on base place (name_of name) ws none s)) (refl, tt)
    go (some m) s q = let z : ◌≡◌ {A = ℕ} 0 1 = cc in absurd (omega arith)

module _ (base : List ℕ) (place end name : ℕ) (ws spare : List ℕ) (there : Divisor base place end) (complete : Complete ws) (symbol : kind_of name ≡ 0) (fits : length ws ≤ length spare) where
  abbrev part : List ℕ
  part = take (end - place) (drop place base)

  abbrev pub new : List ℕ
  new = rewritten_words (replace_divisor (tree_of part) (name_of name)) ws

  abbrev pub left : Rewriting
  left = rewriting replace_divisor ws part name spare

  made_so : left ≡ rewriting_by (Ok tt) new spare
  unfolding rewriting
  made_so = ap (λ (q : Result ⊤ Fault). rewriting_by q new spare) (sym (all_sound ws part name (length spare) complete.0 complete.1 1 there.one refl symbol fits))

  answers : left.answer ≡ Ok (length new)
  unfolding rewriting_by
  answers = ap (λ (q : Rewriting). q.answer) made_so

  leaves : left.out ≡ new ++ drop (length new) spare
  unfolding rewriting_by
  leaves = ap (λ (q : Rewriting). q.out) made_so

  pub step_makes : step_words base place (name_of name) ws ≡ some new
  step_makes = step_on base place (name_of name) ws (some (end - place)) there.stands ∙ (ap (λ (t : Tree). some (rewritten_words (replace_divisor t (name_of name)) ws)) (sym there.read_so))

  pub short : length new ≤ length ws
  short = never_longer part name ws

  pub still_complete : Complete new
  still_complete = (complete.0, as_many_trees part name ws complete.0 complete.1)

  counted : (n : ℕ) → Ok n ≡ left.answer → n ≡ length new
  counted n e = let q : Ok n ≡ Ok (length new) = e ∙ answers in cc

  -- as the words tell it
  pub told : (r : Result ℕ Fault) (o : answer.Option ℕ) (n : ℕ) → r ≡ left.answer → o ≡ result_ok r → o ≡ answer.Some n → Ok n ≡ left.answer
  told r o n e f g =
      let q : answer.Some n ≡ answer.Some (length new) = sym g ∙ (f ∙ ap result_ok (e ∙ answers)) in
      let c : n ≡ length new = cc in
      ap Ok c ∙ sym answers

  pub never_silent : (r : Result ℕ Fault) (o : answer.Option ℕ) → r ≡ left.answer → o ≡ result_ok r → o ≡ answer.None → ⊥
  never_silent r o e f g = let q : answer.None ≡ answer.Some (length new) = sym g ∙ (f ∙ ap result_ok (e ∙ answers)) in let z : ◌≡◌ {A = ℕ} 0 1 = cc in omega arith

  taken : (n : ℕ) (out : List ℕ) → n ≡ length new → out ≡ left.out → take n out ≡ new
  taken n out c e = rw (e ∙ leaves) (take_at new (drop (length new) spare) n (sym c))

  -- as many as there were at most, in what was written and in what they go back to
  pub in_out : (n : ℕ) (out : List ℕ) → Ok n ≡ left.answer → out ≡ left.out → n ≤ length out
  in_out n out a e =
      let c = counted n a in
      let l : length out ≡ length (new ++ drop (length new) spare) = ap length (e ∙ leaves) in
      omega (arith, c, l, length-append new (drop (length new) spare))

  pub goes_back : (n room : ℕ) (out : List ℕ) → Ok n ≡ left.answer → out ≡ left.out → length ws ≤ room → length (take n out) ≤ room
  goes_back n room out a e h =
      let l : length (take n out) ≡ length new = ap length (taken n out (counted n a) e) in
      omega (arith, l, short, h)

  pub step_ends :
      (n : ℕ) (out work after : List ℕ) → Ok n ≡ left.answer → out ≡ left.out → after ≡ take n out ++ drop (length (take n out)) work
      → Ends base place name ws (answer.Some n) after
  unfolding stepped_answer Front
  step_ends n out work after a e f =
      let c = counted n a in
      let t = taken n out c e in
      let g : after ≡ new ++ drop (length new) work = f ∙ ap (λ (l : List ℕ). l ++ drop (length l) work) t in
      subst (λ (w : Option (List ℕ)). (answer.Some n ≡ stepped_answer w) × Front w after) (sym step_makes)
      (ap answer.Some c, ap (take (length new)) g ∙ take_at new (drop (length new) work) (length new) refl)

-- where the divisor's words don't stand among the words, these stay
pub stays_so :
    (base : List ℕ) (place end name len : ℕ) (work : List ℕ) → Divisor base place end → len ≤ length work → Complete (take len work)
    → (b : Bool) → b ≡ stand_among (take (end - place) (drop place base)) (take len work) → b ≡ false
    → Ends base place name (take len work) (answer.Some len) work
unfolding stepped_answer Front
stays_so base place end name len work there h c b e f =
    let d = take (end - place) (drop place base) in
    let ws = take len work in
    let l = length-take-le len work h in
    let missing : stand_among d ws ≡ false = sym e ∙ f in
    let same : rewritten_words (replace_divisor (tree_of d) (name_of name)) ws ≡ ws = words_stay d there.one (name_of name) ws c missing in
    let became : step_words base place (name_of name) ws ≡ some ws =
    step_on base place (name_of name) ws (some (end - place)) there.stands
    ∙ (ap (λ (t : Tree). some (rewritten_words (replace_divisor t (name_of name)) ws)) (sym there.read_so) ∙ ap some same) in
    subst (λ (w : Option (List ℕ)). (answer.Some len ≡ stepped_answer w) × Front w work) (sym became) (ap answer.Some (sym l), ap (λ (i : ℕ). take i work) l)
