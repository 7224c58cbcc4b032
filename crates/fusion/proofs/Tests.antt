-- What the library's tests and turns of answers tell. Assumes nothing.
use Rattle.std.specs.Prelude.{Option, Some, None, Result, Ok, Err, IsSome, is_some, ok_or}
use Rattle.std.specs.Result.{result_ok}
use Rattle.words.specs.declared.fault.Fault.{Fault}
use Prim.Native.Nat.{ℕ}
use mathlib.Core.Path.{◌≡◌, refl, sym, ◌∙◌, ap}
use mathlib.Core.Bool.{Bool, true, false, not, ◌&&◌}
use mathlib.Core.Option as maybe
use mathlib.Core.Option.{none, some}
use mathlib.Core.List.{List, [], ◌∷◌}
use Rattle.std.specs.List.{list_all}
use Rattle.std.proofs.lemmas.List.Recursion.{same_from_clauses}
use Rattle.spec_tree.specs.Tokens.{trees_in}
use Rattle.words.specs.tokens.Answers.{count_answer}
use Rattle.words.specs.words.Words.{some_trees, Complete}

-- ---- a test of each item by a recursion

pub all_is : (F : List ℕ → Bool) (p : ℕ → Bool) → F [] ≡ true → ((x : ℕ) (xs : List ℕ) → F (x ∷ xs) ≡ (p x && F xs)) → (xs : List ℕ) → list_all p xs ≡ F xs
all_is F p empty step xs = same_from_clauses (list_all p) F (λ x b. p x && b) (sym empty) (λ x xs. refl) step xs

-- ---- whether words lack operands, by `is_none` and `is_some` of what `count_trees` answers

module _ (ws : List ℕ) (q : Option ℕ) (r : Bool) (counts : q ≡ count_answer (trees_in ws)) (test : is_some q ≡ not r) where
  pub uncounted_by : r ≡ true → trees_in ws ≡ none
  unfolding count_answer
  uncounted_by e = go (trees_in ws) counts
    where
      go : (o : maybe.Option ℕ) → q ≡ count_answer o → o ≡ none
      go none a = refl
      go (some m) a = absurd (let h : true ≡ false = sym (ap is_some a) ∙ (test ∙ ap not e) in cc)

  pub counted_by : r ≡ false → Complete ws
  unfolding count_answer
  counted_by e = go (trees_in ws) counts
    where
      go : (o : maybe.Option ℕ) → q ≡ count_answer o → (n : ℕ) × (o ≡ some n)
      go none a = absurd (let h : false ≡ true = sym (ap is_some a) ∙ (test ∙ ap not e) in cc)
      go (some m) a = (m, refl)

pub some_counted : (o : maybe.Option ℕ) → is_some (count_answer o) ≡ some_trees o
unfolding count_answer some_trees
some_counted none = refl
some_counted (some m) = refl

-- ---- an answer that is there

pub some_by : {A : Type 0} (o : Option A) → (None ≡ o → ⊥) → IsSome o
some_by None h = absurd (h refl)
some_by (Some x) h = refl

-- ---- what `ok` and `ok_or` make of an answer

pub some_by_ok : (o : Option ℕ) (f : Fault) (n : ℕ) → ok_or o f ≡ Ok n → o ≡ Some n
some_by_ok None f n e = absurd (let h : ◌≡◌ {A = Result ℕ Fault} (Err f) (Ok n) = e in cc)
some_by_ok (Some m) f n e = let q : m ≡ n = cc in ap Some q

pub none_by_err : (o : Option ℕ) (f g : Fault) → ok_or o f ≡ Err g → (o ≡ None) × (g ≡ f)
none_by_err None f g e = let q : f ≡ g = cc in (refl, sym q)
none_by_err (Some m) f g e = absurd (let h : ◌≡◌ {A = Result ℕ Fault} (Ok m) (Err g) = e in cc)

pub ok_by_some : (r : Result ℕ Fault) (n : ℕ) → result_ok r ≡ Some n → r ≡ Ok n
ok_by_some (Ok m) n e = let q : m ≡ n = cc in ap Ok q
ok_by_some (Err f) n e = absurd (let h : ◌≡◌ {A = Option ℕ} None (Some n) = e in cc)

pub no_ok_by_none : (r : Result ℕ Fault) (n : ℕ) → result_ok r ≡ None → r ≡ Ok n → ⊥
no_ok_by_none (Ok m) n e q = let h : ◌≡◌ {A = Option ℕ} (Some m) None = e in cc
no_ok_by_none (Err f) n e q = let h : ◌≡◌ {A = Result ℕ Fault} (Err f) (Ok n) = q in cc
