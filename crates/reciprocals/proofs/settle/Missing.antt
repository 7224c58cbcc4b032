-- A divisor whose words don't stand among some words is replaced nowhere in them: they stay as they are. Assumes nothing.
use Prim.Native.Nat.{ℕ, zero, suc, ◌+◌, ◌-◌, ◌≤◌, ◌<◌}
use native.Mathlib.Omega.{arith}
use mathlib.Core.Path.{◌≡◌, refl, sym, ◌∙◌, ap, subst}
use mathlib.Core.Bool.{Bool, true, false, ◌||◌}
use mathlib.Core.Option.{Option, none, some}
use mathlib.Core.List.{List, [], ◌∷◌}
use borrow.Author.Tests.{leb-false}
use lib.ListN.{length, get_or, take, drop, length-drop}
use lib.Seq.{drop-cons}
use lib.Dec.{T, eqb, leb, eqb→eq, leb→le}
use Rattle.spec_tree.specs.Tree.{Name}
use Rattle.spec_tree.specs.Tokens.{kind_of, below_of, read, run_at, trees_in, all_tokens}
use Rattle.spec_tree.proofs.Lists.{rest_is}
use Rattle.spec_tree.proofs.Logic.{or_left_false, or_right_false}
use Rattle.spec_tree.proofs.TokenLaws.{complete_tail}
use Rattle.spec_rewrite.specs.Rewrite.{replace_divisor}
use Rattle.words.specs.tokens.Answers.{end_answer}
use Rattle.words.specs.words.Words.{rewritten_words, tree_of, begins_with, Complete}
use Rattle.words.proofs.words.Requests.{begins_short, begins_is}
use Rattle.std.specs.Cmp.Lexicographic.{pointwise}
use Rattle.words.proofs.words.Rewriting.{one_long}
use Rattle.replace.specs.divisor.Division.{divided_by}
use Rattle.replace.proofs.divisor.Dividing.{other_kind, other_few, node_stays}
use Rattle.replace.proofs.divisor.Searching.{first_there_is, compared}
use Rattle.reciprocals.specs.settle.Steps.{stand_among}

module _ (d : List ℕ) where
  -- ---- the search, place by place

  -- what is still to be looked through decides
  abbrev pub Decides : List ℕ → ℕ → Type 0
  Decides ws i = stand_among d (drop i ws) ≡ stand_among d ws

  module _ (ws : List ℕ) (i : ℕ) (more : i < length ws) (state : Decides ws i) where
    next : (begins_with (drop i ws) d || stand_among d (drop (suc i) ws)) ≡ stand_among d ws
    unfolding stand_among
    next =
        ap (λ (l : List ℕ). begins_with l d || stand_among d (drop (suc i) ws)) (drop-cons ws i 0 more)
        ∙ (ap (stand_among d) (sym (drop-cons ws i 0 more)) ∙ state)

    told : (b : Bool) → b ≡ pointwise eqb d (take (i + length d - i) (drop i ws)) → begins_with (drop i ws) d ≡ b
    told b e =
        let z : i + length d - i ≡ length d = omega arith in
        sym (begins_is (drop i ws) d b (e ∙ ap (λ (n : ℕ). pointwise eqb d (take n (drop i ws))) z))

    pub turn_found : (b : Bool) → b ≡ pointwise eqb d (take (i + length d - i) (drop i ws)) → b ≡ true → true ≡ stand_among d ws
    turn_found b e f = ap (λ (x : Bool). x || stand_among d (drop (suc i) ws)) (sym f ∙ sym (told b e)) ∙ next

    pub turn_missed : (b : Bool) → b ≡ pointwise eqb d (take (i + length d - i) (drop i ws)) → b ≡ false → Decides ws (i + 1)
    turn_missed b e f =
        let k : i + 1 ≡ suc i = omega arith in
        ap (λ (j : ℕ). stand_among d (drop j ws)) k ∙ (ap (λ (x : Bool). x || stand_among d (drop (suc i) ws)) (sym f ∙ sym (told b e)) ∙ next)

  -- too few words are left
  pub too_few : (ws : List ℕ) → length ws < length d → stand_among d ws ≡ false
  unfolding stand_among
  too_few [] h = refl
  too_few (w ∷ ws) h = ap (λ (b : Bool). b || stand_among d ws) (sym (begins_short (w ∷ ws) d h)) ∙ too_few ws (omega arith)

  pub all_missed : (ws : List ℕ) (i : ℕ) → 0 < length d → length ws < i + length d → Decides ws i → false ≡ stand_among d ws
  all_missed ws i one h state = sym (too_few (drop i ws) (omega (arith, length-drop i ws, one, h))) ∙ state

  -- ---- nothing is replaced

  module _ (one : trees_in d ≡ some 1) where
    nowhere : (ws : List ℕ) (k : ℕ) → stand_among d ws ≡ false → begins_with (drop k ws) d ≡ false
    unfolding stand_among
    nowhere [] zero h = sym (begins_short [] d (one_long d one))
    nowhere [] (suc k) h = sym (begins_short [] d (one_long d one))
    nowhere (w ∷ ws) zero h = or_left_false (begins_with (w ∷ ws) d) (stand_among d ws) h
    nowhere (w ∷ ws) (suc k) h = nowhere ws k (or_right_false (begins_with (w ∷ ws) d) (stand_among d ws) h)

    module _ (us : List ℕ) (some_words : 0 < length us) (complete : Complete us) (none_there : stand_among d us ≡ false) where
      by_second : kind_of (get_or us 0 0) ≡ 6 → 2 ≤ below_of (get_or us 0 0) → divided_by (tree_of d) (tree_of us) ≡ false
      unfolding end_answer
      by_second div two = go (run_at us 1) refl
        where
          go : (o : Option ℕ) → run_at us 1 ≡ o → divided_by (tree_of d) (tree_of us) ≡ false
          go none e = absurd (first_there_is us d some_words complete one div two (sym (ap (end_answer 1) e)))
          go (some x) e =
              compared us d some_words complete one div two (1 + x) (sym (ap (end_answer 1) e)) false
              (sym (ap (λ (l : List ℕ). begins_with l d) (rest_is us (1 + x)) ∙ nowhere us (1 + x) none_there))

      not_divided : divided_by (tree_of d) (tree_of us) ≡ false
      not_divided = go (eqb (kind_of (get_or us 0 0)) 6) refl (leb 2 (below_of (get_or us 0 0))) refl
        where
          go : (a : Bool) → eqb (kind_of (get_or us 0 0)) 6 ≡ a → (b : Bool) → leb 2 (below_of (get_or us 0 0)) ≡ b → divided_by (tree_of d) (tree_of us) ≡ false
          go false e b f = other_kind (tree_of d) us some_words (λ x. subst T (ap (λ (k : ℕ). eqb k 6) (sym x) ∙ e) tt)
          go true e false f = other_few (tree_of d) us some_words (few f)
            where
              few : leb 2 (below_of (get_or us 0 0)) ≡ false → below_of (get_or us 0 0) < 2
              few x = leb-false 2 (below_of (get_or us 0 0)) x
          go true e true f = by_second (eqb→eq (kind_of (get_or us 0 0)) 6 (subst T (sym e) tt)) (leb→le 2 (below_of (get_or us 0 0)) (subst T (sym f) tt))

    pub words_stay : (n : Name) (us : List ℕ) → Complete us → stand_among d us ≡ false → rewritten_words (replace_divisor (tree_of d) n) us ≡ us
    unfolding stand_among
    words_stay n [] c h = nothing
      where
        nothing : rewritten_words (replace_divisor (tree_of d) n) [] ≡ []
        nothing = (unfold rewritten_words read all_tokens in refl)
    words_stay n (w ∷ ws) c h =
        let t = complete_tail w ws c.0 c.1 in
        node_stays (tree_of d) n (w ∷ ws) c (omega arith) (not_divided (w ∷ ws) (omega arith) c h)
        ∙ ap (λ (l : List ℕ). w ∷ l) (words_stay n ws (t.trees, t.are) (or_right_false (begins_with (w ∷ ws) d) (stand_among d ws) h))
