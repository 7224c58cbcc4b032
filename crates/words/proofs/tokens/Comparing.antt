-- Equal runs of words are equal trees, and what `same` answers in each case. Assumes nothing.
use Rattle.std.specs.Prelude.{Some, None}
use Prim.Native.Nat.{ℕ, ◌+◌, ◌-◌, ◌≤◌, ◌<◌}
use native.Mathlib.Omega.{arith}
use mathlib.Core.Path.{◌≡◌, refl, sym, ◌∙◌, ap, subst}
use mathlib.Core.Bool.{Bool, true, false, ◌&&◌}
use mathlib.Core.Option.{Option, none, some}
use mathlib.Core.List.{List, [], ◌∷◌, ◌++◌}
use lib.ListN.{length, get_or, take, drop, length-drop, take-append-drop}
use lib.Dec.{T, eqb}
use Rattle.std.specs.Bool.{Decides}
use Rattle.std.specs.Cmp.Lexicographic.{pointwise}
use Rattle.std.proofs.lemmas.Slice.Eq.{slice_eq-Decides}
use Rattle.std.proofs.lemmas.Bool.Decides.{Decides-eqb}
use Rattle.spec_tree.specs.Bytes.{eq_bytes}
use Rattle.spec_tree.specs.Tree.{Tree, Op, nil, eq_tree}
use Rattle.spec_tree.specs.Tokens.{trees_at, read, numbered, all_tokens, words_of, run_at, same_at}
use Rattle.spec_tree.proofs.TreeLaws.{eq_tree_sound, eq_tree_refl}
use Rattle.spec_tree.proofs.TokenLaws.{tree_at, words_tail, words_complete, complete_read, complete_length}
use Rattle.spec_tree.proofs.TokenCode.{unnumbered, writes_back}
use Rattle.words.specs.tokens.Answers.{end_answer, same_answer}
use Rattle.spec_tree.proofs.Logic.{not_true}
use Rattle.spec_tree.proofs.Lists.{one_alone, first_alone}

-- ---- a test as an equation

test_true : (b : Bool) → T b → b ≡ true
test_true true t = refl
test_true false t = absurd t

-- ---- `==` of slices is the test of bytes

heads : (r : Bool) (p q : Bool) → p ≡ q → (r && p) ≡ elim r [ true ↦ q | false ↦ false ]
heads true p q e = e
heads false p q e = refl

pub eq_bytes_is : (a b : List ℕ) → pointwise eqb a b ≡ eq_bytes a b
unfolding eq_bytes
eq_bytes_is [] [] = refl
eq_bytes_is [] (y ∷ ys) = refl
eq_bytes_is (x ∷ xs) [] = refl
eq_bytes_is (x ∷ xs) (y ∷ ys) = heads (eqb x y) (pointwise eqb xs ys) (eq_bytes xs ys) (eq_bytes_is xs ys)

-- ---- the tree of a run

abbrev pub tree : List ℕ → ℕ → Tree
tree ws i = get_or (trees_at numbered ws) i (Op 0 nil)

record RunTree (ws : List ℕ) (i n : ℕ) : Type 0 where
  within : n ≤ length (drop i ws)
  -- it is read from the run alone
  from : tree ws i ≡ get_or (read numbered (take n (drop i ws))) 0 (Op 0 nil)
  -- and the run is its words
  code : all_tokens unnumbered (tree ws i ∷ []) ≡ take n (drop i ws)

run_tree : (ws : List ℕ) (i n : ℕ) → run_at ws i ≡ some n → RunTree ws i n
unfolding run_at
run_tree ws i n e =
    let us = drop i ws in
    let k = words_complete us 1 n e in
    let words = take n us in
    let l = complete_length numbered words 1 k.1 in
    let r = complete_read numbered words (drop n us) 1 k.1 in
    let whole : read numbered us ≡ read numbered words ++ read numbered (drop n us) = rw take-append-drop at r in
    let is : tree ws i ≡ get_or (read numbered words) 0 (Op 0 nil) =
    tree_at numbered ws i ∙ (ap (λ (q : List Tree). get_or q 0 (Op 0 nil)) whole ∙ first_alone (read numbered words) (read numbered (drop n us)) l) in
    record {
      within = k.0;
      from = is;
      code =
          ap (λ (t : Tree). all_tokens unnumbered (t ∷ [])) is
          ∙ (ap (all_tokens unnumbered) (sym (one_alone (read numbered words) l)) ∙ writes_back words 1 k.1);
    }

-- ---- the answers

both_runs : (o p : Option ℕ) (b : Bool) (n m : ℕ) → o ≡ some n → p ≡ some m → ◌≡◌ {A = Option Bool} (elim o [ none ↦ none | some k ↦ elim p [ none ↦ none | some l ↦ some b ] ]) (some b)
both_runs none p b n m e f = cc
both_runs (some k) none b n m e f = cc
both_runs (some k) (some l) b n m e f = refl

no_first : (o p : Option ℕ) (b : Bool) → o ≡ none → ◌≡◌ {A = Option Bool} (elim o [ none ↦ none | some k ↦ elim p [ none ↦ none | some l ↦ some b ] ]) none
no_first none p b e = refl
no_first (some k) p b e = cc

no_second : (o p : Option ℕ) (b : Bool) → p ≡ none → ◌≡◌ {A = Option Bool} (elim o [ none ↦ none | some k ↦ elim p [ none ↦ none | some l ↦ some b ] ]) none
no_second none p b e = refl
no_second (some k) none b e = refl
no_second (some k) (some l) b e = cc

nothing : (k : ℕ) → words_of [] 1 ≡ some k → ◌≡◌ {A = ℕ} 0 1
unfolding words_of
nothing k e = cc

run_some : (us : List ℕ) (k : ℕ) → words_of us 1 ≡ some k → 0 < k
run_some [] k e = absurd (let z : ◌≡◌ {A = ℕ} 0 1 = nothing k e in omega arith)
run_some (w ∷ us) k e = omega (arith, words_tail w us 0 k e)

module _ (ws : List ℕ) (i j n m : ℕ) (ri : run_at ws i ≡ some n) (rj : run_at ws j ≡ some m) where
  pub compared_is : same_answer (same_at ws i j) ≡ same_answer (some (eq_tree (tree ws i) (tree ws j)))
  unfolding same_at
  compared_is = ap same_answer (both_runs (run_at ws i) (run_at ws j) (eq_tree (tree ws i) (tree ws j)) n m ri rj)

  equal_trees : take n (drop i ws) ≡ take m (drop j ws) → eq_tree (tree ws i) (tree ws j) ≡ true
  equal_trees e =
      let a = run_tree ws i n ri in
      let b = run_tree ws j m rj in
      let t : tree ws i ≡ tree ws j = a.from ∙ (ap (λ (l : List ℕ). get_or (read numbered l) 0 (Op 0 nil)) e ∙ sym b.from) in
      test_true (eq_tree (tree ws i) (tree ws j)) (subst (λ (u : Tree). T (eq_tree (tree ws i) u)) t (eq_tree_refl (tree ws i)))

  different_trees : (take n (drop i ws) ≡ take m (drop j ws) → ⊥) → eq_tree (tree ws i) (tree ws j) ≡ false
  different_trees h =
      let a = run_tree ws i n ri in
      let b = run_tree ws j m rj in
      not_true (eq_tree (tree ws i) (tree ws j))
      (λ t. h (sym a.code ∙ (ap (λ (u : Tree). all_tokens unnumbered (u ∷ [])) (eq_tree_sound (tree ws i) (tree ws j) t) ∙ b.code)))

  pub compared_runs : (r : Bool) → r ≡ pointwise eqb (take n (drop i ws)) (take m (drop j ws)) → Some r ≡ same_answer (same_at ws i j)
  unfolding same_answer
  compared_runs r q = sym (compared_is ∙ ap Some (go r (slice_eq-Decides Decides-eqb _ _ r q)))
    where
      go : (r : Bool) → Decides r (take n (drop i ws) ≡ take m (drop j ws)) → eq_tree (tree ws i) (tree ws j) ≡ r
      go true d = equal_trees (d.0 refl)
      go false d = different_trees (λ e. let z : ◌≡◌ {A = Bool} false true = d.1 e in cc)

-- ---- from where a run ends

ends_some : (at e : ℕ) (o : Option ℕ) → Some e ≡ end_answer at o → o ≡ some (e - at)
unfolding end_answer
ends_some at e none p = absurd (let z : ◌≡◌ {A = ℕ} 0 1 = cc in omega arith)
ends_some at e (some n) p = let q : e ≡ at + n = cc in let d : n ≡ e - at = omega arith in ap some d

pub run_ends : (ws : List ℕ) (at e : ℕ) → Some e ≡ end_answer at (run_at ws at) → run_at ws at ≡ some (e - at)
run_ends ws at e p = ends_some at e (run_at ws at) p

pub run_after : (ws : List ℕ) (at e : ℕ) → Some e ≡ end_answer at (run_at ws at) → at ≤ e
unfolding end_answer
run_after ws at e p = go (run_at ws at) p
  where
    go : (o : Option ℕ) → Some e ≡ end_answer at o → at ≤ e
    go none p = absurd (let z : ◌≡◌ {A = ℕ} 0 1 = cc in omega arith)
    go (some n) p = let q : e ≡ at + n = cc in omega arith

pub broken_none : (at : ℕ) (o : Option ℕ) → None ≡ end_answer at o → o ≡ none
unfolding end_answer
broken_none at none p = refl
broken_none at (some n) p = absurd (let z : ◌≡◌ {A = ℕ} 0 1 = cc in omega arith)

pub first_broken : (ws : List ℕ) (i j : ℕ) → None ≡ end_answer i (run_at ws i) → None ≡ same_answer (same_at ws i j)
unfolding same_at same_answer
first_broken ws i j p = sym (ap same_answer (no_first (run_at ws i) (run_at ws j) (eq_tree (tree ws i) (tree ws j)) (broken_none i (run_at ws i) p)))

pub second_broken : (ws : List ℕ) (i j : ℕ) → None ≡ end_answer j (run_at ws j) → None ≡ same_answer (same_at ws i j)
unfolding same_at same_answer
second_broken ws i j p = sym (ap same_answer (no_second (run_at ws i) (run_at ws j) (eq_tree (tree ws i) (tree ws j)) (broken_none j (run_at ws j) p)))

pub run_within : (ws : List ℕ) (at e : ℕ) → Some e ≡ end_answer at (run_at ws at) → (at ≤ e) × (e ≤ length ws)
unfolding run_at
run_within ws at e p =
    let q = run_ends ws at e p in
    let h = run_after ws at e p in
    let r = run_tree ws at (e - at) q in
    (h, omega (arith, r.within, length-drop at ws, run_some (drop at ws) (e - at) q))
