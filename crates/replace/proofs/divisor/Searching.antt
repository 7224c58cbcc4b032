-- What `first_division` answers at each of its exits. Assumes nothing.
use Rattle.replace.specs.declared.divisor.Division.{Division}
use Rattle.std.specs.Prelude.{Option as Maybe}
use Rattle.std.specs.Prelude.{Some, None}
use Rattle.std.proofs.Common.{◌≡◌, ℕ, ◌+◌, ◌-◌, ◌<◌, ◌≤◌, Bool, true, false, List, [], ◌∷◌, length, get_or, take, drop, sym, refl, ap, ◌∙◌, arith, length-drop, drop-drop}
use mathlib.Core.Option.{Option, none, some}
use Rattle.spec_tree.specs.Tree.{Tree, eq_tree}
use Rattle.spec_tree.specs.Tokens.{kind_of, below_of, takes, read, trees_in, words_of, run_at, numbered}
use Rattle.spec_tree.proofs.TokenLaws.{operation_takes, complete_tail, complete_length, complete_end}
use Rattle.words.specs.tokens.Answers.{end_answer}
use Rattle.words.proofs.tokens.Comparing.{run_ends, run_after}
use Rattle.words.specs.words.Words.{tree_of, begins_with, Complete}
use Rattle.words.proofs.words.Rewriting.{segment, begins_tree}
use Rattle.words.proofs.words.Runs.{first_run, whole_run, first_not_broken, whole_not_broken}
use Rattle.replace.specs.divisor.Division.{divided_by, division_answer, division_of}
use Rattle.replace.proofs.divisor.Dividing.{second_tree, takes_two}
use Rattle.spec_tree.proofs.Lists.{rest_is}

-- ---- the second operand

second_complete :
    (us : List ℕ) (x : ℕ) → 0 < length us → (c : Complete us) → 2 ≤ takes (get_or us 0 0) → words_of (drop 1 us) 1 ≡ some x
    → (n : ℕ) × (trees_in (drop x (drop 1 us)) ≡ some n) × (1 ≤ n)
second_complete [] x h c k e = absurd (omega arith)
second_complete (w ∷ ws) x h c k e =
    let t = complete_tail w ws c.0 c.1 in
    let l = complete_length numbered ws t.trees t.are in
    let q = complete_end x ws t.trees t.are in
    let m = complete_length numbered (drop x ws) q.0 q.1 in
    let r = ap length (segment ws 1 x e).rest in
    (q.0, q.1, omega (arith, m, r, l, t.enough, length-drop 1 (read numbered ws)))

compared_second :
    (d : Tree) (us : List ℕ) (x : ℕ) → 0 < length us → (c : Complete us) → kind_of (get_or us 0 0) ≡ 6 → 2 ≤ below_of (get_or us 0 0) → words_of (drop 1 us) 1 ≡ some x
    → divided_by d (tree_of us) ≡ eq_tree (tree_of (drop x (drop 1 us))) d
compared_second d [] x h c k two e = absurd (omega arith)
compared_second d (w ∷ ws) x h c k two e = second_tree d w ws c.0 x c.1 k two e

-- ---- the answers

module _ (us d : List ℕ) where
  pub is_other : divided_by (tree_of d) (tree_of us) ≡ false → None ≡ division_of us d
  unfolding division_of division_answer
  is_other e = rw e

  is_by : divided_by (tree_of d) (tree_of us) ≡ true → (x y : ℕ) → run_at us 1 ≡ some x → run_at us 0 ≡ some y → Some (record { second = 1 + x; end = y }) ≡ division_of us d
  unfolding division_of division_answer
  is_by e x y ex ey = rw (e, ex, ey)

  module _ (some_words : 0 < length us) (complete : Complete us) (one : trees_in d ≡ some 1) where
    pub whole_there_is : None ≡ end_answer 0 (run_at us 0) → ⊥
    whole_there_is p = whole_not_broken us some_words complete p

    module _ (div : kind_of (get_or us 0 0) ≡ 6) (two : 2 ≤ below_of (get_or us 0 0)) where
      takes_both : 2 ≤ takes (get_or us 0 0)
      takes_both = omega (arith, operation_takes (get_or us 0 0) (omega arith))

      pub first_there_is : None ≡ end_answer 1 (run_at us 1) → ⊥
      first_there_is p = first_not_broken us some_words complete (omega (arith, takes_both)) p

      module _ (e : ℕ) (first : Some e ≡ end_answer 1 (run_at us 1)) where
        first_words : words_of (drop 1 us) 1 ≡ some (e - 1)
        unfolding run_at
        first_words = run_ends us 1 e first

        pub second_inside : e ≤ length us
        second_inside = omega (arith, (segment (drop 1 us) 1 (e - 1) first_words).within, length-drop 1 us, run_after us 1 e first)

        pub compared : (b : Bool) → b ≡ begins_with (take (length us - e) (drop e us)) d → divided_by (tree_of d) (tree_of us) ≡ b
        compared b q =
            let n : 1 + (e - 1) ≡ e = omega (arith, run_after us 1 e first) in
            let here : drop (e - 1) (drop 1 us) ≡ drop e us = drop-drop (e - 1) 1 us ∙ ap (λ (k : ℕ). drop k us) n in
            let c = second_complete us (e - 1) some_words complete takes_both first_words in
            let all : trees_in (drop e us) ≡ some c.0 = ap trees_in (sym here) ∙ c.1 in
            compared_second (tree_of d) us (e - 1) some_words complete div two first_words
            ∙ (ap (λ (l : List ℕ). eq_tree (tree_of l) (tree_of d)) here
            ∙ begins_tree (drop e us) c.0 all c.2 d one b (q ∙ ap (λ (l : List ℕ). begins_with l d) (rest_is us e)))

        pub found : true ≡ begins_with (take (length us - e) (drop e us)) d → (y : ℕ) → Some y ≡ end_answer 0 (run_at us 0) → Some (record { second = e; end = y }) ≡ division_of us d
        found q y whole =
            let n : e ≡ 1 + (e - 1) = omega (arith, run_after us 1 e first) in
            let m : y - 0 ≡ y = omega arith in
            ap (λ (k : ℕ). Some (record { second = k; end = y })) n
            ∙ is_by (compared true q) (e - 1) y (run_ends us 1 e first) (run_ends us 0 y whole ∙ ap some m)

-- ---- what an answer says

pub record By (us d : List ℕ) (e y : ℕ) : Type 0 where
  pub divides : divided_by (tree_of d) (tree_of us) ≡ true
  pub start : 1 ≤ e
  pub first : words_of (drop 1 us) 1 ≡ some (e - 1)
  pub whole : words_of us 1 ≡ some y

pub by_means : (us d : List ℕ) (e y : ℕ) → Some (record { second = e; end = y }) ≡ division_of us d → By us d e y
unfolding division_of division_answer run_at
by_means us d e y q = go (divided_by (tree_of d) (tree_of us)) (words_of (drop 1 us) 1) (words_of us 1) refl refl refl q
  where
    go : (b : Bool) (o p : Option ℕ) → divided_by (tree_of d) (tree_of us) ≡ b → words_of (drop 1 us) 1 ≡ o → words_of us 1 ≡ p → Some (record { second = e; end = y }) ≡ division_answer b o p → By us d e y
    go true (some x) (some z) eb eo ep q =
        let w : ◌≡◌ {A = Division} (record { second = e; end = y }) (record { second = 1 + x; end = z }) = cc in
        let qe : e ≡ 1 + x = ap (λ (d : Division). d.second) w in
        let qy : y ≡ z = ap (λ (d : Division). d.end) w in
        let n : x ≡ e - 1 = omega arith in
        record { divides = eb; start = omega arith; first = eo ∙ ap some n; whole = ep ∙ ap some (sym qy) }
    go true (some x) none eb eo ep q = absurd (let z : ◌≡◌ {A = ℕ} 0 1 = cc in omega arith)
    go true none p eb eo ep q = absurd (let z : ◌≡◌ {A = ℕ} 0 1 = cc in omega arith)
    go false o p eb eo ep q = absurd (let z : ◌≡◌ {A = ℕ} 0 1 = cc in omega arith)

pub other_means : (us d : List ℕ) → 0 < length us → Complete us → None ≡ division_of us d → divided_by (tree_of d) (tree_of us) ≡ false
other_means us d h c q = go (divided_by (tree_of d) (tree_of us)) refl
  where
    both : (us : List ℕ) → 0 < length us → divided_by (tree_of d) (tree_of us) ≡ true → 2 ≤ takes (get_or us 0 0)
    both [] h e = absurd (omega arith)
    both (w ∷ ws) h e = takes_two (tree_of d) w ws e

    go : (b : Bool) → divided_by (tree_of d) (tree_of us) ≡ b → divided_by (tree_of d) (tree_of us) ≡ false
    go true e =
        let x = first_run us h c (omega (arith, both us h e)) in
        let y = whole_run us h c in
        let clash : ◌≡◌ {A = Maybe Division} (Some (record { second = 1 + x.0; end = y.0 })) None = is_by us d e x.0 y.0 x.1 y.1 ∙ sym q in
        absurd (let z : ◌≡◌ {A = ℕ} 0 1 = cc in omega arith)
    go false e = e
