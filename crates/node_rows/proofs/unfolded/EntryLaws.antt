-- The ends of `unfold`: refused because the rows are none of load's, and written. Assumes nothing.
use Prim.Native.Nat.{ℕ, ◌+◌}
use mathlib.Core.Path.{◌≡◌, refl, ap, ◌∙◌, subst}
use mathlib.Core.Bool.{Bool, true, false, cond}
use mathlib.Core.List.{List, ◌++◌}
use native.Mathlib.Omega.{arith}
use native.Mathlib.Nat.{zero-add}
use Rattle.std.specs.Prelude.{Option, Some, None, Result, Ok, Err, ok_or}
use lib.ListN.{length, drop}
use lib.Dec.{T}
use Rattle.refusal.specs.declared.Refusal.{Refusal}
use Rattle.refusal.specs.declared.Refusal.TheVariants.{BadRows}
use Rattle.spec_tree.specs.Outcome.{Outcome, ok, refused, by, ◌>>=◌}
use Rattle.spec_tree.specs.Rows.{Table, trees, occurrences}
use Rattle.spec_tree.specs.Layout.{laid_out, table_of, table_or_9}
use Rattle.spec_tree.specs.Tokens.{all_tokens, number_in}
use Rattle.node_rows.specs.rows.Check.{checked}
use Rattle.node_rows.specs.rows.Nine.{check_rows}
use Rattle.node_rows.specs.unfolded.Write.{wrote, Wrote}
use Rattle.node_rows.specs.unfolded.Unfold.{unfolded, Tokens, Refused, told, Answers}

-- a value by a test, taken on
then_ok : {A B : Type 0} (b : Bool) (a : A) (f : A → B) (n : B) → ok n ≡ (cond b (ok a) (refused (by 9)) >>= λ x. ok (f x)) → T b
then_ok true a f n e = tt
then_ok {A} {B} false a f n e =
    let q : ◌≡◌ {A = Outcome B} (ok n) (refused (by 9)) = e in
    let z : ◌≡◌ {A = ℕ} 0 1 = cc in
    omega arith

then_refused : {A B : Type 0} (b : Bool) (a : A) (f : A → B) → refused (by 9) ≡ (cond b (ok a) (refused (by 9)) >>= λ x. ok (f x)) → b ≡ false
then_refused {A} {B} true a f e =
    let q : ◌≡◌ {A = Outcome B} (refused (by 9)) (ok (f a)) = e in
    cc
then_refused false a f e = refl

true_is : (b : Bool) → T b → b ≡ true
true_is true t = refl
true_is false t = absurd t

module _ (ws roots : List ℕ) where
  laid_so : (n : ℕ) → checked (Some n) ≡ check_rows ws roots → T (laid_out ws roots)
  unfolding check_rows table_or_9
  laid_so n e = then_ok (laid_out ws roots) (table_of ws roots) (λ (t : Table). occurrences (trees t)) n e

  pub accepted : (o : Option ℕ) (r : Result ℕ Refusal) (n : ℕ) → r ≡ ok_or o BadRows → r ≡ Ok n → checked o ≡ check_rows ws roots → T (laid_out ws roots)
  accepted (Some m) r n e p q = laid_so m q
  accepted None r n e p q = absurd (let z : ◌≡◌ {A = ℕ} 0 1 = cc in omega arith)

  module _ (old : List ℕ) where
    not_laid : checked None ≡ check_rows ws roots → Answers (unfolded ws roots) old (Refused 9) old
    unfolding unfolded check_rows table_or_9
    not_laid e =
        let f = then_refused (laid_out ws roots) (table_of ws roots) (λ (t : Table). occurrences (trees t)) e in
        rw f (refl, refl)

    pub not_accepted :
        (o : Option ℕ) (r : Result ℕ Refusal) (f : Refusal) → r ≡ ok_or o BadRows → r ≡ Err f → checked o ≡ check_rows ws roots → Answers (unfolded ws roots) old (told (Err f)) old
    not_accepted (Some m) r f e p q = absurd (let z : ◌≡◌ {A = ℕ} 0 1 = cc in omega arith)
    not_accepted None r f e p q = let g : BadRows ≡ f = cc in subst (λ (x : Refusal). Answers (unfolded ws roots) old (told (Err x)) old) g (not_laid q)

    pub written :
        T (laid_out ws roots) → (new : List ℕ) (n : ℕ)
        → Wrote old 0 (all_tokens (number_in (table_of ws roots).rows) (trees (table_of ws roots))) n new
        → Answers (unfolded ws roots) old (Tokens n) new
    unfolding unfolded table_or_9 wrote
    written t new n w =
        let ts = all_tokens (number_in (table_of ws roots).rows) (trees (table_of ws roots)) in
        let z : 0 + length ts ≡ length ts = zero-add (length ts) in
        rw (true_is (laid_out ws roots) t)
        (ap Tokens (w.end_is ∙ z), w.now_is ∙ ap (λ (m : ℕ). ts ++ drop m old) z)
