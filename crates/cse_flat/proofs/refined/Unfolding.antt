-- What unfolding gives to a caller who lends 1,024 words (01, "Turned down": Extract, 9): the words of the roots' trees in front, or 9. Assumes nothing.
use Prim.Native.Nat.{ℕ, ◌+◌, ◌≤◌}
use native.Mathlib.Omega.{arith}
use mathlib.Core.Path.{◌≡◌, refl, sym, ◌∙◌, ap, subst}
use mathlib.Core.Bool.{Bool, true, false, cond}
use mathlib.Core.List.{List, [], ◌++◌}
use lib.ListN.{length, take, drop, length-append}
use lib.Seq.{take_at, length-take-le}
use lib.Dec.{T}
use Rattle.spec_tree.specs.Outcome.{Outcome, ok, refused, by, ◌>>=◌}
use Rattle.spec_tree.specs.Rows.{trees, trees_from}
use Rattle.spec_tree.specs.Layout.{table_of, laid_out, table_or_9}
use Rattle.spec_tree.specs.Tokens.{number_in, all_tokens}
use Rattle.laws.proofs.positions.RowNames.{tree_words}
use Rattle.node_rows.specs.unfolded.Unfold.{unfolded, Answers, Unfolded}
use Rattle.node_rows.specs.unfolded.Unfold as unfolding_answer
use Rattle.spec_tree.proofs.DomainPasses.{length_at}

pub roots_are : (rows roots : List ℕ) → length (trees (table_of rows roots)) ≡ length roots
unfolding trees table_of
roots_are rows roots = length_at (trees_from [] (table_of rows roots).rows) roots

module _ (rows roots : List ℕ) where
  abbrev start : List ℕ
  start = tree_words (table_of rows roots)

  abbrev nine : Bool → Outcome (List ℕ)
  nine b = cond b (ok start) (refused (by 9))

  after_nine : (b : Bool) → ((cond b (ok (table_of rows roots)) (refused (by 9))) >>= λ t. ok (all_tokens (number_in t.rows) (trees t))) ≡ nine b
  after_nine true = refl
  after_nine false = refl

  unfolded_is : unfolded rows roots ≡ nine (laid_out rows roots)
  unfolding unfolded table_or_9
  unfolded_is = after_nine (laid_out rows roots)

  module _ (old : List ℕ) (a : Unfolded) (new : List ℕ) (given : Answers (unfolded rows roots) old a new) where
    here : (b : Bool) → laid_out rows roots ≡ b → Answers (nine b) old a new
    here b e = subst (λ (o : Outcome (List ℕ)). Answers o old a new) (unfolded_is ∙ ap nine e) given

    pub unfold_tokens : (n : ℕ) → a ≡ unfolding_answer.Tokens n → T (laid_out rows roots) × (n ≡ length start) × (take n new ≡ start)
    unfold_tokens n e = go (laid_out rows roots) refl
      where
        go : (b : Bool) → laid_out rows roots ≡ b → T (laid_out rows roots) × (n ≡ length start) × (take n new ≡ start)
        go true f =
            let g = here true f in
            let m : n ≡ length start = let z = sym e ∙ g.0 in cc in
            (subst T (sym f) tt, m, ap (take n) g.1 ∙ take_at start (drop (length start) old) n (sym m))
        go false f = let g = here false f in absurd (let z = sym e ∙ g.0 in let y : ◌≡◌ {A = ℕ} 0 1 = cc in omega arith)

    pub unfold_words : (n : ℕ) → a ≡ unfolding_answer.Tokens n → (unfolded rows roots ≡ ok (take n new)) × (n ≤ length new)
    unfold_words n e = go (laid_out rows roots) refl
      where
        go : (b : Bool) → laid_out rows roots ≡ b → (unfolded rows roots ≡ ok (take n new)) × (n ≤ length new)
        go true f =
            let g = here true f in
            let m : n ≡ length start = let z = sym e ∙ g.0 in cc in
            let w : take n new ≡ start = ap (take n) g.1 ∙ take_at start (drop (length start) old) n (sym m) in
            (unfolded_is ∙ (ap nine f ∙ ap ok (sym w)), omega (arith, m, ap length g.1, length-append start (drop (length start) old)))
        go false f = let g = here false f in absurd (let z = sym e ∙ g.0 in let y : ◌≡◌ {A = ℕ} 0 1 = cc in omega arith)

    pub unfold_refused : (q : ℕ) → a ≡ unfolding_answer.Refused q → laid_out rows roots ≡ false
    unfold_refused q e = go (laid_out rows roots) refl
      where
        go : (b : Bool) → laid_out rows roots ≡ b → laid_out rows roots ≡ false
        go true f = let g = here true f in absurd (let z = sym e ∙ g.0 in let y : ◌≡◌ {A = ℕ} 0 1 = cc in omega arith)
        go false f = f

    -- by 9
    pub unfold_number : (q : ℕ) → a ≡ unfolding_answer.Refused q → q ≡ 9
    unfold_number q e = let z = sym e ∙ (here false (unfold_refused q e)).0 in cc

  -- the words that it gives are those of the list's trees
  pub unfolded_words : (ws : List ℕ) → unfolded rows roots ≡ ok ws → T (laid_out rows roots) × (ws ≡ start)
  unfolded_words ws e = go (laid_out rows roots) refl
    where
      go : (b : Bool) → laid_out rows roots ≡ b → T (laid_out rows roots) × (ws ≡ start)
      go true f = let z : ok ws ≡ ok start = sym e ∙ (unfolded_is ∙ ap nine f) in (subst T (sym f) tt, (let q : ws ≡ start = cc in q))
      go false f = let z : ok ws ≡ refused (by 9) = sym e ∙ (unfolded_is ∙ ap nine f) in absurd (let y : ◌≡◌ {A = ℕ} 0 1 = cc in omega arith)

-- and they stand in front of where they are put
pub put_front : (a : List ℕ) (n : ℕ) (old new : List ℕ) → n ≤ length a → new ≡ take 0 old ++ (take n a ++ drop (0 + length (take n a)) old) → take n new ≡ take n a
put_front a n old new h e = ap (take n) e ∙ take_at (take n a) (drop (0 + length (take n a)) old) n (length-take-le n a h)
