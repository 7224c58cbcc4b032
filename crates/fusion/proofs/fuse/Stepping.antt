-- One step of fusing: the member is a tree of the base, the words of which are read as that tree, and what `replace_outside_arms` leaves is what the step makes.
-- Assumes nothing.
use Rattle.std.specs.Prelude.{Some, None, Ok, Option, Result, ⊤}
use Prim.Native.Nat.{ℕ, ◌-◌, ◌≤◌}
use native.Mathlib.Omega.{arith}
use mathlib.Core.Path.{◌≡◌, refl, sym, ◌∙◌, ap, subst}
use mathlib.Core.Option as maybe
use mathlib.Core.Option.{none, some}
use mathlib.Core.List.{List, ◌++◌}
use lib.ListN.{length, take, drop, length-append}
use lib.Seq.{take_at}
use Rattle.spec_tree.specs.Tree.{Name, Tree}
use Rattle.spec_tree.specs.Tokens.{kind_of, run_at}
use Rattle.spec_rewrite.specs.Rewrite.{replace_outside_arms}
use Rattle.words.specs.tokens.Answers.{end_answer}
use Rattle.words.specs.declared.fault.Fault.{Fault}
use Rattle.words.specs.words.Words.{rewritten_words, tree_of, name_of, Complete}
use Rattle.words.specs.words.Answers.{Rewriting, rewriting_by, rewriting}
use Rattle.words.proofs.words.Requests.{all_sound}
use Rattle.replace.proofs.outside.Chaining.{never_longer, as_many_trees}
use Rattle.reciprocals.proofs.settle.Stepping.{Divisor}
use Rattle.fusion.specs.Words.{fuse_step}
use Rattle.fusion.specs.fuse.Answers.{stepped_answer, Front}

-- what a step answers and leaves
abbrev pub Ends : List ℕ → ℕ → ℕ → List ℕ → Option ℕ → List ℕ → Type 0
Ends base place name ws r out = (r ≡ stepped_answer (fuse_step base place (name_of name) ws)) × Front (fuse_step base place (name_of name) ws) out

step_on :
    (base : List ℕ) (place : ℕ) (name : Name) (ws : List ℕ) (o : maybe.Option ℕ) → run_at base place ≡ o
    → ◌≡◌ {A = maybe.Option (List ℕ)} (fuse_step base place name ws)
    (elim o [ none ↦ none | some n ↦ some (rewritten_words (replace_outside_arms (tree_of (drop place base)) name) ws) ])
unfolding fuse_step
step_on base place name ws o e =
    ap (λ (q : maybe.Option ℕ). elim q as (λ _. maybe.Option (List ℕ)) [ none ↦ none | some n ↦ some (rewritten_words (replace_outside_arms (tree_of (drop place base)) name) ws) ]) e

pub no_member : (base : List ℕ) (place name : ℕ) (ws out : List ℕ) → None ≡ end_answer place (run_at base place) → Ends base place name ws None out
unfolding end_answer stepped_answer Front
no_member base place name ws out e = go (run_at base place) refl e
  where
    go : (o : maybe.Option ℕ) → run_at base place ≡ o → None ≡ end_answer place o → Ends base place name ws None out
    go none s q = subst (λ (w : maybe.Option (List ℕ)). (None ≡ stepped_answer w) × Front w out) (sym (step_on base place (name_of name) ws none s)) (refl, tt)
    go (some m) s q = let z : ◌≡◌ {A = ℕ} 0 1 = cc in absurd (omega arith)

module _ (base : List ℕ) (place end name : ℕ) (ws spare : List ℕ) (there : Divisor base place end) (complete : Complete ws) (symbol : kind_of name ≡ 0) (fits : length ws ≤ length spare) where
  abbrev part : List ℕ
  part = take (end - place) (drop place base)

  abbrev pub new : List ℕ
  new = rewritten_words (replace_outside_arms (tree_of part) (name_of name)) ws

  abbrev pub left : Rewriting
  left = rewriting replace_outside_arms ws part name spare

  made_so : left ≡ rewriting_by (Ok tt) new spare
  unfolding rewriting
  made_so = ap (λ (q : Result ⊤ Fault). rewriting_by q new spare) (sym (all_sound ws part name (length spare) complete.0 complete.1 1 there.one refl symbol fits))

  pub answers : left.answer ≡ Ok (length new)
  unfolding rewriting_by
  answers = ap (λ (q : Rewriting). q.answer) made_so

  leaves : left.out ≡ new ++ drop (length new) spare
  unfolding rewriting_by
  leaves = ap (λ (q : Rewriting). q.out) made_so

  pub step_makes : fuse_step base place (name_of name) ws ≡ some new
  step_makes = step_on base place (name_of name) ws (some (end - place)) there.stands ∙ (ap (λ (t : Tree). some (rewritten_words (replace_outside_arms t (name_of name)) ws)) (sym there.read_so))

  pub short : length new ≤ length ws
  short = never_longer part name ws

  pub still_complete : Complete new
  still_complete = (complete.0, as_many_trees part name ws complete.0 complete.1)

  pub counted : (n : ℕ) → Ok n ≡ left.answer → n ≡ length new
  counted n e = let q : Ok n ≡ Ok (length new) = e ∙ answers in cc

  taken : (n : ℕ) (out : List ℕ) → n ≡ length new → out ≡ left.out → take n out ≡ new
  taken n out c e = rw (e ∙ leaves) (take_at new (drop (length new) spare) n (sym c))

  -- as many as there were at most, in what was written and in what they go back to
  pub in_out : (n : ℕ) (out : List ℕ) → Ok n ≡ left.answer → out ≡ left.out → n ≤ length out
  in_out n out a e =
      let c = counted n a in
      let l : length out ≡ length (new ++ drop (length new) spare) = ap length (e ∙ leaves) in
      omega (arith, c, l, length-append new (drop (length new) spare))

  pub goes_back : (n room : ℕ) (out : List ℕ) → Ok n ≡ left.answer → out ≡ left.out → length ws ≤ room → length (take n out) ≤ room
  goes_back n room out a e h =
      let l : length (take n out) ≡ length new = ap length (taken n out (counted n a) e) in
      omega (arith, l, short, h)

  pub step_ends :
      (n : ℕ) (out work after : List ℕ) → Ok n ≡ left.answer → out ≡ left.out → after ≡ take n out ++ drop (length (take n out)) work
      → Ends base place name ws (Some n) after
  unfolding stepped_answer Front
  step_ends n out work after a e f =
      let c = counted n a in
      let t = taken n out c e in
      let g : after ≡ new ++ drop (length new) work = f ∙ ap (λ (l : List ℕ). l ++ drop (length l) work) t in
      subst (λ (w : maybe.Option (List ℕ)). (Some n ≡ stepped_answer w) × Front w after) (sym step_makes)
      (ap Some c, ap (take (length new)) g ∙ take_at new (drop (length new) work) (length new) refl)
