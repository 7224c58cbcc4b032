-- In a product without a match every word stays up to a factor that is no symbol: a product among them has some of its factors, and so no match. Assumes nothing.
use Rattle.std.proofs.Common.{◌≡◌, ℕ, zero, suc, ◌+◌, ◌<◌, ◌≤◌, Bool, true, false, ◌||◌, T, eqb, List, [], ◌∷◌, ◌++◌, length, get_or, take, drop, sym, refl, ap, ◌∙◌, subst, append-nil, arith, take-add, eq-eqb, ne_eqb, eqb-true}
use mathlib.Core.Option.{Option, none, some}
use Rattle.spec_tree.specs.Outcome.{Outcome, ok, ◌>>=◌}
use Rattle.spec_tree.specs.Tree.{Tree}
use Rattle.spec_tree.specs.Kinds.{Mul}
use Rattle.spec_tree.specs.Tokens.{kind_of, takes, numbered, read, words_of, run_at}
use Rattle.spec_tree.proofs.TreeLaws.{eq_tree_sound}
use Rattle.spec_tree.proofs.TokenLaws.{made, read_cons, leaf_takes, words_tail, words_none, words_complete, some_is}
use Rattle.spec_tree.proofs.Outcomes.{then_then}
use Rattle.spec_rewrite.specs.Rewrite.{remove_each}
use Rattle.spec_rewrite.proofs.Measure.{sum_of, sum_append}
use Rattle.spec_rewrite.proofs.Factors.{factors_of, puts_sum, puts_from, Matched, matched}
use Rattle.words.specs.words.Words.{tree_of, name_of, begins_with}
use Rattle.words.proofs.words.Rewriting.{first_tree}
use Rattle.replace.specs.closed.Closed.{by_factors}
use Rattle.replace.proofs.closed.Chain.{chain_end}
use Rattle.replace.proofs.closed.Products.{self_each, without_match, matched_by, match_is}
use Rattle.replace.proofs.factors.WordRuns.{no_words}
use Rattle.replace.specs.matching.Matching.{is_passed}
use Rattle.replace.specs.replacing.Deciding.{Trees, Target, rewritten_words, StaysAt, is_plain, Plain, PassedAt}
use Rattle.replace.proofs.replacing.Runs.{factors_all, all_append, word_passed}
use Rattle.replace.proofs.replacing.Targets.{several}
use Rattle.replace.proofs.replacing.Deciding.{first_equal, plain_turn, product_at}
use Rattle.replace.proofs.replacing.Scanning.{trees_after}

-- ---- words looked through

pub first_plain : (ws : List ℕ) → kind_of (get_or ws 0 0) ≡ 5 → (j : ℕ) → j < 1 → is_plain (get_or ws j 0) ≡ true
unfolding is_plain is_passed
first_plain ws e zero h = by (eqb (kind_of (get_or ws 0 0)) 0) (eqb (kind_of (get_or ws 0 0)) 5) _ (sym (eq-eqb (kind_of (get_or ws 0 0)) 5 e))
  where
    by : (a b c : Bool) → true ≡ b → (a || (b || c)) ≡ true
    by true b c q = refl
    by false true c q = refl
    by false false c q = (let y : ◌≡◌ {A = ℕ} 0 1 = cc in absurd (omega arith))
first_plain ws e (suc j) h = absurd (omega arith)

pub plain_symbol : (w : ℕ) → kind_of w ≡ 0 → true ≡ is_plain w
unfolding is_plain
plain_symbol w e = rw (eq-eqb (kind_of w) 0 e)

pub plain_other : (w : ℕ) → (kind_of w ≡ 0 → ⊥) → (b : Bool) → b ≡ is_passed w → b ≡ is_plain w
unfolding is_plain
plain_other w n b e = e ∙ rw (ne_eqb (kind_of w) 0 n)

-- ---- fewer than the target's factors

module _ (part : List ℕ) (name : ℕ) (t : Target part name) (by : T (by_factors (tree_of part))) where
  abbrev ts : List Tree
  ts = factors_of (tree_of part)

  abbrev rw_out : List ℕ → Outcome (List ℕ)
  rw_out = rewritten_words part name

  -- the target has its own factors
  other : (ws : List ℕ) → Trees ws → 0 < length ws → remove_each ts (factors_of (tree_of ws)) ≡ none → false ≡ begins_with ws part
  other ws h p q = go (begins_with ws part) refl
    where
      go : (b : Bool) → b ≡ begins_with ws part → false ≡ b
      go false e = refl
      go true e =
          (let s = eq_tree_sound (tree_of ws) (tree_of part) (subst T (sym (first_equal part name t ws h p true e)) tt) in
          let x : remove_each ts (factors_of (tree_of ws)) ≡ some [] = ap (λ (y : Tree). remove_each ts (factors_of y)) s ∙ self_each ts in
          let z : ◌≡◌ {A = ℕ} 0 1 = cc in
          absurd (omega arith))

  -- one word
  word_stays : (ws : List ℕ) → Trees ws → 0 < length ws → remove_each ts (factors_of (tree_of ws)) ≡ none → StaysAt part name ws
  word_stays ws h p q = go (eqb (kind_of (get_or ws 0 0)) 5) refl
    where
      go : (b : Bool) → eqb (kind_of (get_or ws 0 0)) 5 ≡ b → StaysAt part name ws
      go true e =
          let a = product_at part name t ws h p (other ws h p q) (eqb-true (kind_of (get_or ws 0 0)) 5 e) in
          a.stays (without_match (tree_of part) (name_of name) (several t) by Mul a.operands a.formed (ap (λ (y : Tree). remove_each ts (factors_of y)) (sym a.is) ∙ q))
      go false e = plain_turn part name t ws h p (other ws h p q) (λ k. (let z = ap (λ (j : ℕ). eqb j 5) k in let y : ◌≡◌ {A = ℕ} 0 1 = cc in absurd (omega arith)))

  -- not all of the target's factors are among these, by no measure of trees
  abbrev Few : List Tree → Type 0
  Few l = ((μ : Tree → ℕ) → sum_of μ ts ≤ sum_of μ l) → ⊥

  few_none : (l m : List Tree) → Few l → ((μ : Tree → ℕ) → sum_of μ m ≤ sum_of μ l) → remove_each ts m ≡ none
  few_none l m f h = go (remove_each ts m) refl
    where
      go : (o : Option (List Tree)) → remove_each ts m ≡ o → o ≡ none
      go none e = refl
      go (some r) e = absurd (f (λ μ. (let a = h μ in let b = puts_sum μ (puts_from ts m r e) in omega arith)))

  few_of : (e : Tree) → remove_each ts (factors_of e) ≡ none → Few (factors_of e)
  unfolding Matched by_factors
  few_of e q =
      subst (Matched (tree_of part) (name_of name) e)
      (match_is (tree_of part) (name_of name) (several t) by e ∙ ap (matched_by (tree_of part) (name_of name) (several t) by e) q)
      (matched (tree_of part) (name_of name) e) by

  module _ (w : ℕ) (ws : List ℕ) (k : ℕ) where
    abbrev rs : List Tree
    rs = read numbered ws

    abbrev later : List Tree
    later = factors_all (take k (drop (takes w) rs))

    opened : factors_all (take (suc k) (read numbered (w ∷ ws))) ≡ factors_of (tree_of (w ∷ ws)) ++ later
    opened =
        ap (λ (l : List Tree). factors_all (take (suc k) l)) (read_cons numbered w ws) ∙ cut (made numbered w rs) (take k (drop (takes w) rs))
        ∙ ap (λ (e : Tree). factors_of e ++ later) (sym (first_tree w ws))
      where
        cut : (e : Tree) (l : List Tree) → factors_all (e ∷ l) ≡ factors_of e ++ factors_all l
        cut e l = (unfold factors_all in refl)

    tail_is : factors_all (take (takes w) rs) ++ later ≡ factors_all (take (k + takes w) rs)
    tail_is =
        let z : takes w + k ≡ k + takes w = omega arith in
        sym (all_append (take (takes w) rs) (take k (drop (takes w) rs))) ∙ ap factors_all (sym (take-add (takes w) k rs)) ∙ ap (λ (j : ℕ). factors_all (take j rs)) z

    -- no more factors after a plain word
    after_plain : is_plain w ≡ true → (μ : Tree → ℕ) → sum_of μ (factors_all (take (k + takes w) rs)) ≤ sum_of μ (factors_all (take (suc k) (read numbered (w ∷ ws))))
    after_plain p μ =
        let a = ap (sum_of μ) opened ∙ sum_append μ (factors_of (tree_of (w ∷ ws))) later in
        let b = ap (sum_of μ) (sym tail_is) ∙ sum_append μ (factors_all (take (takes w) rs)) later in
        let c = fewer (is_passed w) refl in
        omega arith
      where
        symbol : (a b : Bool) → (a || b) ≡ true → b ≡ false → a ≡ true
        symbol true b e f = refl
        symbol false true e f = (let y : ◌≡◌ {A = ℕ} 0 1 = cc in absurd (omega arith))
        symbol false false e f = e

        none_of : takes w ≡ 0 → sum_of μ (factors_all (take (takes w) rs)) ≡ 0
        none_of z = ap (λ (j : ℕ). sum_of μ (factors_all (take j rs))) z ∙ (unfold factors_all sum_of in refl)

        fewer : (b : Bool) → is_passed w ≡ b → sum_of μ (factors_all (take (takes w) rs)) ≤ sum_of μ (factors_of (tree_of (w ∷ ws)))
        fewer true q =
            (let x : factors_of (tree_of (w ∷ ws)) ≡ factors_all (take (takes w) rs) =
            ap factors_of (first_tree w ws) ∙ word_passed w (take (takes w) rs) (λ z. ap (λ (j : ℕ). take j rs) z) q in
            let y = ap (sum_of μ) x in
            omega arith)
        fewer false q =
            (let x = eqb-true (kind_of w) 0 (symbol (eqb (kind_of w) 0) (is_passed w) (unfold is_plain in p) q) in
            let y = none_of (leaf_takes w (omega arith)) in
            omega arith)

  words_stay :
      (n : ℕ) (ws : List ℕ) (m long : ℕ) → Trees ws → words_of ws m ≡ some long → n ≤ long → ((j : ℕ) → j < n → is_plain (get_or ws j 0) ≡ true)
      → Few (factors_all (take m (read numbered ws))) → rw_out ws ≡ (rw_out (drop n ws) >>= λ b. ok (take n ws ++ b))
  words_stay zero ws m long h e l p f = sym (chain_end (rw_out ws))
  words_stay (suc n) ws zero long h e l p f = (let z = some_is (sym (words_none ws) ∙ e) in absurd (omega arith))
  words_stay (suc n) [] (suc k) long h e l p f = (let z : ◌≡◌ {A = ℕ} 0 1 = no_words k long e in absurd (omega arith))
  words_stay (suc n) (w ∷ ws) (suc k) long h e l p f =
      let s = words_tail w ws k long e in
      let all = factors_all (take (suc k) (read numbered (w ∷ ws))) in
      word_stays (w ∷ ws) h (omega arith)
      (few_none all (factors_of (tree_of (w ∷ ws))) f
      (λ μ. (let a = ap (sum_of μ) (opened w ws k) ∙ sum_append μ (factors_of (tree_of (w ∷ ws))) (later w ws k) in omega arith)))
      ∙ ap (λ (o : Outcome (List ℕ)). o >>= λ b. ok (w ∷ b))
      (words_stay n ws (k + takes w) s.words (trees_after (w ∷ ws) 1 h) s.are (omega (arith, s.one_more)) (λ j i. p (suc j) (omega arith))
      (λ g. f (λ μ. (let a = g μ in let b = after_plain w ws k (p 0 (omega arith)) μ in omega arith))))
      ∙ then_then (rw_out (drop n ws)) (λ b. ok (take n ws ++ b)) (λ b. ok (w ∷ b))

  one_tree : (ws : List ℕ) → 0 < length ws → factors_all (take 1 (read numbered ws)) ≡ factors_of (tree_of ws)
  one_tree [] p = absurd (omega arith)
  one_tree (w ∷ ws) p = opened w ws 0 ∙ (unfold factors_all in append-nil (factors_of (tree_of (w ∷ ws))))

  -- all words before a factor that is no symbol
  pub passed_at :
      (ws : List ℕ) → Trees ws → (long : ℕ) → run_at ws 0 ≡ some long → remove_each ts (factors_of (tree_of ws)) ≡ none → (n : ℕ) → Plain ws long n → PassedAt part name ws n
  unfolding run_at
  passed_at ws h long e q n s =
      let l = (words_complete ws 1 long e).0 in
      record {
        some_word = s.some_word;
        within = omega (arith, s.within);
        stay = words_stay n ws 1 long h e s.within s.plain (subst Few (sym (one_tree ws (omega (arith, s.some_word, s.within)))) (few_of (tree_of ws) q));
      }
