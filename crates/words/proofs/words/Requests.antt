-- What may be rewritten, test by test, and when words begin with others, word by word. Assumes nothing.
use Rattle.std.specs.Prelude.{Some, None, Ok, Err, Result, ok_or}
use Rattle.words.specs.declared.fault.Fault.{Fault}
use Rattle.words.specs.declared.fault.Fault.TheVariants as fault
use Prim.Native.Nat.{ℕ, ◌≤◌, ◌<◌}
use native.Mathlib.Omega.{arith}
use mathlib.Core.Path.{◌≡◌, refl, sym, ◌∙◌, ap, subst}
use mathlib.Core.Bool.{Bool, true, false, ◌&&◌}
use mathlib.Core.Option.{Option, none, some}
use mathlib.Core.List.{List}
use Rattle.std.specs.Cmp.Lexicographic.{pointwise}
use Rattle.std.specs.Bool.{Decides}
use Rattle.std.proofs.lemmas.Slice.Eq.{slice_eq-Decides}
use Rattle.std.proofs.lemmas.Bool.Decides.{Decides-eqb}
use borrow.Author.Tests.{eqb-true, eq-eqb, ne_eqb, lt-ltb, le-ltb, ltb-false}
use lib.ListN.{length, get_or, take, length-take}
use lib.Seq.{ext_get_or, get_or-take, length-take-le}
use lib.Dec.{T, eqb, ltb}
use Rattle.spec_tree.specs.Bytes.{eq_bytes}
use Rattle.spec_tree.specs.Tokens.{kind_of, trees_in}
use Rattle.spec_tree.proofs.TreeLaws.{eq_bytes_sound, eq_bytes_refl}
use Rattle.words.specs.tokens.Answers.{count_answer}
use Rattle.words.specs.words.Words.{Complete, begins_with, some_trees, one_tree, sound}
use Rattle.words.specs.words.Answers.{request_answer}
use Rattle.spec_tree.proofs.Logic.{not_true}

pub counted : (n : ℕ) (o : Option ℕ) → Some n ≡ count_answer o → o ≡ some n
unfolding count_answer
counted n none e = absurd (let z : ◌≡◌ {A = ℕ} 0 1 = cc in omega arith)
counted n (some m) e = let q : n ≡ m = cc in ap some (sym q)

pub uncounted : (o : Option ℕ) → None ≡ count_answer o → o ≡ none
unfolding count_answer
uncounted none e = refl
uncounted (some m) e = absurd (let z : ◌≡◌ {A = ℕ} 0 1 = cc in omega arith)

-- the same from what `ok_or` makes of the answer
pub counted_ok : (n : ℕ) (o : Option ℕ) (r : Result ℕ Fault) → r ≡ ok_or (count_answer o) fault.Broken → r ≡ Ok n → o ≡ some n
unfolding count_answer
counted_ok n none r e p = absurd (let z : ◌≡◌ {A = ℕ} 0 1 = cc in omega arith)
counted_ok n (some m) r e p = let q : n ≡ m = cc in ap some (sym q)

pub uncounted_err : (o : Option ℕ) (r : Result ℕ Fault) (f : Fault) → r ≡ ok_or (count_answer o) fault.Broken → r ≡ Err f → o ≡ none
unfolding count_answer
uncounted_err none r f e p = refl
uncounted_err (some m) r f e p = absurd (let z : ◌≡◌ {A = ℕ} 0 1 = cc in omega arith)

pub complete_by : (ws : List ℕ) (n : ℕ) → Some n ≡ count_answer (trees_in ws) → Complete ws
complete_by ws n e = (n, counted n (trees_in ws) e)

-- ---- the tests in their order

module _ (ws part : List ℕ) (name room : ℕ) where
  pub words_broken : trees_in ws ≡ none → Err fault.Broken ≡ request_answer (sound ws part name) (ltb room (length ws))
  unfolding sound some_trees request_answer
  words_broken e = rw e

  module _ (n : ℕ) (words : trees_in ws ≡ some n) where
    pub part_broken : trees_in part ≡ none → Err fault.Broken ≡ request_answer (sound ws part name) (ltb room (length ws))
    unfolding sound some_trees one_tree request_answer
    part_broken e = rw (words, e)

    module _ (m : ℕ) (parts : trees_in part ≡ some m) where
      pub part_many : (m ≡ 1 → ⊥) → Err fault.Broken ≡ request_answer (sound ws part name) (ltb room (length ws))
      unfolding sound some_trees one_tree request_answer
      part_many h = rw (words, parts, ne_eqb m 1 h)

      pub name_broken : m ≡ 1 → (kind_of name ≡ 0 → ⊥) → Err fault.Broken ≡ request_answer (sound ws part name) (ltb room (length ws))
      unfolding sound some_trees one_tree request_answer
      name_broken e h = rw (words, parts, eq-eqb m 1 e, ne_eqb (kind_of name) 0 h)

      pub no_room : m ≡ 1 → kind_of name ≡ 0 → room < length ws → Err fault.NoRoom ≡ request_answer (sound ws part name) (ltb room (length ws))
      unfolding sound some_trees one_tree request_answer
      no_room e k h = rw (words, parts, eq-eqb m 1 e, eq-eqb (kind_of name) 0 k, lt-ltb room (length ws) h)

      pub all_sound : m ≡ 1 → kind_of name ≡ 0 → length ws ≤ room → Ok tt ≡ request_answer (sound ws part name) (ltb room (length ws))
      unfolding sound some_trees one_tree request_answer
      all_sound e k h = rw (words, parts, eq-eqb m 1 e, eq-eqb (kind_of name) 0 k, le-ltb room (length ws) h)

-- ---- what a sound request has

pub record Sound (ws part : List ℕ) (name room : ℕ) : Type 0 where
  pub trees : ℕ
  pub words : trees_in ws ≡ some trees
  pub one : trees_in part ≡ some 1
  pub symbol : kind_of name ≡ 0
  pub fits : length ws ≤ room

pub sound_has : (ws part : List ℕ) (name room : ℕ) → Ok tt ≡ request_answer (sound ws part name) (ltb room (length ws)) → Sound ws part name room
unfolding sound some_trees one_tree request_answer
sound_has ws part name room e = go (trees_in ws) (trees_in part) (eqb (kind_of name) 0) (ltb room (length ws)) refl refl refl refl e
  where
    go : (o p : Option ℕ) (k b : Bool) → trees_in ws ≡ o → trees_in part ≡ p → eqb (kind_of name) 0 ≡ k → ltb room (length ws) ≡ b
        → Ok tt ≡ request_answer (some_trees o && (one_tree p && k)) b → Sound ws part name room
    go none p k b eo ep ek eb e = absurd (let z : ◌≡◌ {A = ℕ} 0 1 = cc in omega arith)
    go (some n) none k b eo ep ek eb e = absurd (let z : ◌≡◌ {A = ℕ} 0 1 = cc in omega arith)
    go (some n) (some m) k b eo ep ek eb e = one (eqb m 1) k b refl ek eb e
      where
        one : (c k b : Bool) → eqb m 1 ≡ c → eqb (kind_of name) 0 ≡ k → ltb room (length ws) ≡ b → Ok tt ≡ request_answer (c && k) b → Sound ws part name room
        one false k b ec ek eb e = absurd (let z : ◌≡◌ {A = ℕ} 0 1 = cc in omega arith)
        one true false b ec ek eb e = absurd (let z : ◌≡◌ {A = ℕ} 0 1 = cc in omega arith)
        one true true true ec ek eb e = absurd (let z : ◌≡◌ {A = ℕ} 0 1 = cc in omega arith)
        one true true false ec ek eb e =
            record { trees = n; words = eo; one = ep ∙ ap some (eqb-true m 1 ec); symbol = eqb-true (kind_of name) 0 ek; fits = ltb-false room (length ws) eb }

-- ---- words that begin with others

test_true : (b : Bool) → T b → b ≡ true
test_true true t = refl
test_true false t = absurd t

pub begins_short : (ws start : List ℕ) → length ws < length start → false ≡ begins_with ws start
unfolding begins_with
begins_short ws start h =
    sym (not_true (eq_bytes (take (length start) ws) start)
    (λ t. let e = ap length (eq_bytes_sound (take (length start) ws) start t) in omega (arith, e, length-take (length start) ws)))

pub begins_differs : (ws start : List ℕ) (k : ℕ) → k < length start → (get_or ws k 0 ≡ get_or start k 0 → ⊥) → false ≡ begins_with ws start
unfolding begins_with
begins_differs ws start k h ne =
    sym (not_true (eq_bytes (take (length start) ws) start)
    (λ t. ne (sym (get_or-take (length start) ws k 0 h) ∙ ap (λ (l : List ℕ). get_or l k 0) (eq_bytes_sound (take (length start) ws) start t))))

pub begins_all : (ws start : List ℕ) → length start ≤ length ws → ((k : ℕ) → k < length start → get_or ws k 0 ≡ get_or start k 0) → true ≡ begins_with ws start
unfolding begins_with
begins_all ws start h all =
    let l = length-take-le (length start) ws h in
    let e : take (length start) ws ≡ start =
    ext_get_or 0 (take (length start) ws) start l (λ k b. let i : k < length start = omega (arith, l) in get_or-take (length start) ws k 0 i ∙ all k i) in
    sym (test_true (eq_bytes (take (length start) ws) start) (subst (λ (l : List ℕ). T (eq_bytes l start)) (sym e) (eq_bytes_refl start)))

-- `starts_with` of slices
pub begins_is : (ws start : List ℕ) (r : Bool) → r ≡ pointwise eqb start (take (length start) ws) → r ≡ begins_with ws start
unfolding begins_with
begins_is ws start r e = go r (slice_eq-Decides Decides-eqb _ _ r e)
  where
    go : (r : Bool) → Decides r (start ≡ take (length start) ws) → r ≡ eq_bytes (take (length start) ws) start
    go true d = sym (test_true (eq_bytes (take (length start) ws) start) (subst (λ (l : List ℕ). T (eq_bytes l start)) (d.0 refl) (eq_bytes_refl start)))
    go false d =
        sym (not_true (eq_bytes (take (length start) ws) start)
        (λ t. let z : ◌≡◌ {A = Bool} false true = d.1 (sym (eq_bytes_sound (take (length start) ws) start t)) in cc))
