-- Factors as runs, found from the left: what a word is passed for, where the next factor stands, where its run ends. Assumes nothing.
use Rattle.std.specs.Prelude.{Option as Maybe, unwrap_or}
use Rattle.std.specs.Prelude.{Some, None}
use Rattle.std.proofs.Common.{◌≡◌, ℕ, zero, suc, ◌+◌, ◌-◌, ◌<◌, ◌≤◌, Bool, true, false, List, [], ◌∷◌, length, get_or, take, drop, sym, refl, ap, ◌∙◌, ap₂, arith, length-drop, drop_of_length-le, drop-cons, drop-drop, le-ltb, lt-ltb}
use mathlib.Core.Option.{Option, none, some}
use Rattle.spec_tree.specs.Tokens.{words_of, run_at}
use Rattle.spec_tree.proofs.TokenLaws.{words_tail, words_complete}
use Rattle.words.specs.tokens.Answers.{end_answer}
use Rattle.replace.specs.matching.Matching.{is_passed, first_run, run_end, runs_after, factor_runs, words_at}

-- ---- words passed through

-- ---- the next factor

abbrev tried : ℕ → List ℕ → Bool → List (List ℕ)
tried w ws b = elim b [ true ↦ runs_after 0 ws | false ↦ take (first_run (w ∷ ws)) (w ∷ ws) ∷ runs_after (first_run (w ∷ ws) - 1) ws ]

head_runs : (part : List ℕ) (q : ℕ) → q < length part → factor_runs (drop q part) ≡ tried (get_or part q 0) (drop (suc q) part) (is_passed (get_or part q 0))
unfolding factor_runs
head_runs part q h = ap (runs_after 0) (drop-cons part q 0 h) ∙ (unfold runs_after in refl)

pub passed_on : (part : List ℕ) (q : ℕ) → q < length part → is_passed (get_or part q 0) ≡ true → factor_runs (drop q part) ≡ factor_runs (drop (q + 1) part)
unfolding factor_runs
passed_on part q h e =
    let z : suc q ≡ q + 1 = omega arith in
    head_runs part q h ∙ ap (tried (get_or part q 0) (drop (suc q) part)) e ∙ ap (λ (k : ℕ). runs_after 0 (drop k part)) z

pub skipped : (skip : ℕ) (ws : List ℕ) → runs_after skip ws ≡ runs_after 0 (drop skip ws)
unfolding runs_after
skipped zero ws = refl
skipped (suc skip) [] = refl
skipped (suc skip) (w ∷ ws) = skipped skip ws

-- ---- where a run ends

pub first_within : (ws : List ℕ) → 0 < length ws → (0 < first_run ws) × (first_run ws ≤ length ws)
unfolding first_run
first_within [] h = absurd (omega arith)
first_within (w ∷ ws) h = go (words_of (w ∷ ws) 1) refl
  where
    go : (o : Option ℕ) → words_of (w ∷ ws) 1 ≡ o → (0 < elim o [ none ↦ length (w ∷ ws) | some n ↦ n ]) × (elim o [ none ↦ length (w ∷ ws) | some n ↦ n ] ≤ length (w ∷ ws))
    go none e = (omega arith, omega arith)
    go (some n) e = (omega (arith, (words_tail w ws 0 n e).one_more), (words_complete (w ∷ ws) 1 n e).0)

pub end_within : (part : List ℕ) (q : ℕ) → q < length part → (q < run_end part q) × (run_end part q ≤ length part)
unfolding run_end
end_within part q h = (let f = first_within (drop q part) (omega (arith, length-drop q part)) in (omega (arith, f.0), omega (arith, f.1, length-drop q part)))

pub end_found : (part : List ℕ) (q e : ℕ) → Some e ≡ end_answer q (run_at part q) → e ≡ run_end part q
unfolding run_end first_run run_at end_answer
end_found part q e p = go (words_of (drop q part) 1) p
  where
    go : (o : Option ℕ) → Some e ≡ end_answer q o → e ≡ q + elim o as (λ _. ℕ) [ none ↦ length (drop q part) | some n ↦ n ]
    go none p = absurd (let z : ◌≡◌ {A = ℕ} 0 1 = cc in omega arith)
    go (some n) p = cc

pub end_broken : (part : List ℕ) (q : ℕ) → q < length part → None ≡ end_answer q (run_at part q) → length part ≡ run_end part q
unfolding run_end first_run run_at end_answer
end_broken part q h p = go (words_of (drop q part) 1) p
  where
    go : (o : Option ℕ) → None ≡ end_answer q o → length part ≡ q + elim o as (λ _. ℕ) [ none ↦ length (drop q part) | some n ↦ n ]
    go none p = omega (arith, length-drop q part)
    go (some n) p = absurd (let z : ◌≡◌ {A = ℕ} 0 1 = cc in omega arith)

pub end_either : (part : List ℕ) (q : ℕ) (r : Maybe ℕ) → q < length part → r ≡ end_answer q (run_at part q) → unwrap_or r (length part) ≡ run_end part q
end_either part q None h e = end_broken part q h e
end_either part q (Some n) h e = end_found part q n e

-- a factor and those after it
pub factor_here :
    (part : List ℕ) (q : ℕ) → q < length part → is_passed (get_or part q 0) ≡ false
    → factor_runs (drop q part) ≡ take (run_end part q - q) (drop q part) ∷ factor_runs (drop (run_end part q) part)
unfolding factor_runs run_end
factor_here part q h e =
    let d = drop-cons part q 0 h in
    let n = first_run (drop q part) in
    let f = first_within (drop q part) (omega (arith, length-drop q part)) in
    let a : first_run (get_or part q 0 ∷ drop (suc q) part) ≡ n = ap first_run (sym d) in
    let x : q + n - q ≡ n = omega arith in
    let y : suc q + (n - 1) ≡ q + n = omega (arith, f.0) in
    head_runs part q h ∙ ap (tried (get_or part q 0) (drop (suc q) part)) e
    ∙ ap₂ (λ (l : List ℕ) (r : List (List ℕ)). l ∷ r) (ap₂ (λ (k : ℕ) (l : List ℕ). take k l) (a ∙ sym x) (sym d))
    (ap (λ (k : ℕ). runs_after (k - 1) (drop (suc q) part)) a ∙ skipped (n - 1) (drop (suc q) part)
    ∙ ap (runs_after 0) (drop-drop (n - 1) (suc q) part ∙ ap (λ (k : ℕ). drop k part) y))

pub no_more : (part : List ℕ) (q : ℕ) → length part ≤ q → factor_runs (drop q part) ≡ []
unfolding factor_runs runs_after
no_more part q h = ap (runs_after 0) (drop_of_length-le part h)

-- ---- the words at a place

pub stands_within : (ws : List ℕ) (name p : ℕ) → p < length ws → words_at ws name p ≡ drop p ws
unfolding words_at
stands_within ws name p h = ap (λ (b : Bool). elim b as (λ _. List ℕ) [ true ↦ drop p ws | false ↦ name ∷ [] ]) (lt-ltb p (length ws) h)

pub stands_past : (ws : List ℕ) (name p : ℕ) → length ws ≤ p → words_at ws name p ≡ name ∷ []
unfolding words_at
stands_past ws name p h = ap (λ (b : Bool). elim b as (λ _. List ℕ) [ true ↦ drop p ws | false ↦ name ∷ [] ]) (le-ltb p (length ws) h)
